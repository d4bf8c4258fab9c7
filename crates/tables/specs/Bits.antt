-- The bits of a number, lowest first, and what the operations of the machine make of them.
use Rattle.std.specs.Prelude.{◌≡◌, refl, Bool, true, false, not, ◌&&◌, ◌||◌, ℕ, zero, suc, ◌+◌, ◌-◌, ◌*◌, ◌/◌, ◌%◌, ◌^◌, ◌<◌, ◌≤◌, min, max, eqb}
use Rattle.std.proofs.Common.{sym, ap, ap₂, ◌∙◌, suc-le-suc, lt_of_le_of_lt, not-suc-le-zero, le_of_suc-le-suc, pow-suc, mod-lt, one-add, arith, lit<, shr-shr}
use Rattle.std.proofs.Math.Nat.{max-le, min-le_left}
use Rattle.std.proofs.Math.Arith.{digits_div, digits_mod, lt_of_le-ne}
use Rattle.std.specs.Int.Bits.{bit_and, bit_or, or_step, and_step, block_half, block_odd}
use Rattle.std.specs.Int.Count.{count_trailing_zeros, under}
use Rattle.std.proofs.lemmas.Nat.{trailing_le}
use Rattle.std.proofs.Math.Dec.{eqb-zero-suc, eqb-suc-zero, eqb-suc-suc}
use Rattle.std.proofs.Math.Pow.{le_ones, ones_sub-lt}
use Rattle.std.proofs.lemmas.Bool.{not-true, not-false}

-- bit i of x
unfoldable pub bit : ℕ → ℕ → Bool
bit x zero = eqb (x % 2) 1
bit x (suc i) = bit (x / 2) i

-- r is the lowest number below n for which f is false, or n if there is none
pub record Lowest (n : ℕ) (f : ℕ → Bool) (r : ℕ) : Type 0 where
  pub most : r ≤ n
  pub below : (j : ℕ) → j < r → f j ≡ true
  pub here : r < n → f r ≡ false

-- a bit, as a shift and a test
pub bit_shift : (x i : ℕ) → bit x i ≡ eqb (x / 2 ^ i % 2) 1
unfolding bit
bit_shift x zero = rw (div_one x)
  where
    div_one : (x : ℕ) → x / 1 ≡ x
    div_one x = omega arith
bit_shift x (suc i) = bit_shift (x / 2) i ∙ ap (λ (n : ℕ). eqb (n % 2) 1) (shr-shr x 1 i ∙ ap (λ (n : ℕ). x / 2 ^ n) (one-add i))

-- ---- two bits

or_max : (a b : ℕ) → a < 2 → b < 2 → eqb (max a b) 1 ≡ (eqb a 1 || eqb b 1)
or_max zero zero p q = refl
or_max zero (suc zero) p q = refl
or_max zero (suc (suc b)) p q = absurd (omega arith)
or_max (suc zero) zero p q = refl
or_max (suc zero) (suc zero) p q = refl
or_max (suc zero) (suc (suc b)) p q = absurd (omega arith)
or_max (suc (suc a)) b p q = absurd (omega arith)

max_low : (a b : ℕ) → a < 2 → b < 2 → max a b < 2
max_low a b p q = suc-le-suc (max-le (le_of_suc-le-suc p) (le_of_suc-le-suc q))

and_min : (a b : ℕ) → a < 2 → b < 2 → eqb (min a b) 1 ≡ (eqb a 1 && eqb b 1)
and_min zero zero p q = refl
and_min zero (suc zero) p q = refl
and_min zero (suc (suc b)) p q = absurd (omega arith)
and_min (suc zero) zero p q = refl
and_min (suc zero) (suc zero) p q = refl
and_min (suc zero) (suc (suc b)) p q = absurd (omega arith)
and_min (suc (suc a)) b p q = absurd (omega arith)

min_low : (a b : ℕ) → a < 2 → b < 2 → min a b < 2
min_low a b p q = lt_of_le_of_lt (min-le_left a b) p

not_sub : (a : ℕ) → a < 2 → eqb (1 - a) 1 ≡ not (eqb a 1)
not_sub zero p = refl
not_sub (suc zero) p = refl
not_sub (suc (suc a)) p = absurd (omega arith)

low : (x : ℕ) → x % 2 < 2
low x = mod-lt x (lit< tt)

-- ---- the operations

module _ (x y : ℕ) where
  or_half : bit_or x y / 2 ≡ bit_or (x / 2) (y / 2)
  or_half = ap (λ (n : ℕ). n / 2) (or_step x y) ∙ digits_div (bit_or (x / 2) (y / 2)) (max_low (x % 2) (y % 2) (low x) (low y))

  or_low : bit_or x y % 2 ≡ max (x % 2) (y % 2)
  or_low = ap (λ (n : ℕ). n % 2) (or_step x y) ∙ digits_mod (bit_or (x / 2) (y / 2)) (max_low (x % 2) (y % 2) (low x) (low y))

  and_half : bit_and x y / 2 ≡ bit_and (x / 2) (y / 2)
  and_half = ap (λ (n : ℕ). n / 2) (and_step x y) ∙ digits_div (bit_and (x / 2) (y / 2)) (min_low (x % 2) (y % 2) (low x) (low y))

  and_low : bit_and x y % 2 ≡ min (x % 2) (y % 2)
  and_low = ap (λ (n : ℕ). n % 2) (and_step x y) ∙ digits_mod (bit_and (x / 2) (y / 2)) (min_low (x % 2) (y % 2) (low x) (low y))

pub bit_or_lem : (x y i : ℕ) → bit (bit_or x y) i ≡ (bit x i || bit y i)
unfolding bit
bit_or_lem x y zero = ap (λ (n : ℕ). eqb n 1) (or_low x y) ∙ or_max (x % 2) (y % 2) (low x) (low y)
bit_or_lem x y (suc i) = ap (λ (n : ℕ). bit n i) (or_half x y) ∙ bit_or_lem (x / 2) (y / 2) i

pub bit_and_lem : (x y i : ℕ) → bit (bit_and x y) i ≡ (bit x i && bit y i)
unfolding bit
bit_and_lem x y zero = ap (λ (n : ℕ). eqb n 1) (and_low x y) ∙ and_min (x % 2) (y % 2) (low x) (low y)
bit_and_lem x y (suc i) = ap (λ (n : ℕ). bit n i) (and_half x y) ∙ bit_and_lem (x / 2) (y / 2) i

-- the complement of x, of k bits
pub bit_not : (k x i : ℕ) → i < k → x < 2 ^ k → bit ((2 ^ k - 1) - x) i ≡ not (bit x i)
unfolding bit
bit_not zero x i l h = absurd (not-suc-le-zero l)
bit_not (suc k) x zero l h =
    let e : ((2 ^ suc k - 1) - x) % 2 ≡ 1 - x % 2 = omega (arith, pow-suc 2 k) in
    ap (λ (n : ℕ). eqb n 1) e ∙ not_sub (x % 2) (low x)
bit_not (suc k) x (suc i) l h =
    let e : ((2 ^ suc k - 1) - x) / 2 ≡ (2 ^ k - 1) - x / 2 = omega (arith, pow-suc 2 k) in
    ap (λ (n : ℕ). bit n i) e ∙ bit_not k (x / 2) i (le_of_suc-le-suc l) (omega (arith, pow-suc 2 k))

pub bit_zero : (i : ℕ) → bit 0 i ≡ false
unfolding bit
bit_zero zero = refl
bit_zero (suc i) = bit_zero i

pub bit_power : (i j : ℕ) → bit (2 ^ i) j ≡ eqb i j
unfolding bit
bit_power zero zero = refl
bit_power zero (suc j) = bit_zero j ∙ sym (eqb-zero-suc j)
bit_power (suc i) zero =
    let e : 2 ^ suc i % 2 ≡ 0 = omega (arith, pow-suc 2 i) in
    ap (λ (n : ℕ). eqb n 1) e ∙ sym (eqb-suc-zero i)
bit_power (suc i) (suc j) =
    let e : 2 ^ suc i / 2 ≡ 2 ^ i = omega (arith, pow-suc 2 i) in
    ap (λ (n : ℕ). bit n j) e ∙ bit_power i j ∙ sym (eqb-suc-suc i j)

-- a above the k bits of r
pub bit_below : (k a r i : ℕ) → i < k → bit (a * 2 ^ k + r) i ≡ bit r i
unfolding bit
bit_below zero a r i l = absurd (not-suc-le-zero l)
bit_below (suc k) a r zero l = ap (λ (n : ℕ). eqb n 1) (block_odd a k r)
bit_below (suc k) a r (suc i) l = ap (λ (n : ℕ). bit n i) (block_half a k r) ∙ bit_below k a (r / 2) i (le_of_suc-le-suc l)

pub bit_above : (k a r i : ℕ) → r < 2 ^ k → bit (a * 2 ^ k + r) (k + i) ≡ bit a i
unfolding bit
bit_above zero a r i h = let e : a * 1 + r ≡ a = omega arith in let f : 0 + i ≡ i = omega arith in ap₂ bit e f
bit_above (suc k) a r i h =
    let f : suc k + i ≡ suc (k + i) = omega arith in
    ap (bit (a * 2 ^ suc k + r)) f ∙ ap (λ (n : ℕ). bit n (k + i)) (block_half a k r) ∙ bit_above k a (r / 2) i (omega (arith, pow-suc 2 k))

-- ---- the zeros below the lowest bit that is set

under_bit : (d t j : ℕ) (x : ℕ) → d < 2 → j < under d t → (d ≡ 0 → (i : ℕ) → i < t → bit (x / 2) i ≡ false) → x % 2 ≡ d → bit x j ≡ false
unfolding bit
under_bit zero t zero x p l f e = ap (λ (n : ℕ). eqb n 1) e
under_bit zero t (suc j) x p l f e = f refl j (le_of_suc-le-suc l)
under_bit (suc d) t j x p l f e = absurd (not-suc-le-zero l)

pub trailing_clear : (k x j : ℕ) → j < count_trailing_zeros k x → bit x j ≡ false
unfolding count_trailing_zeros
trailing_clear zero x j l = absurd (not-suc-le-zero l)
trailing_clear (suc k) x j l = under_bit (x % 2) (count_trailing_zeros k (x / 2)) j x (low x) l (λ e i h. trailing_clear k (x / 2) i h) refl

under_set : (d t k : ℕ) (x : ℕ) → d < 2 → under d t < suc k → (t < k → bit (x / 2) t ≡ true) → x % 2 ≡ d → bit x (under d t) ≡ true
unfolding bit
under_set zero t k x p l f e = f (le_of_suc-le-suc l)
under_set (suc zero) t k x p l f e = ap (λ (n : ℕ). eqb n 1) e
under_set (suc (suc d)) t k x p l f e = absurd (omega arith)

pub trailing_set : (k x : ℕ) → count_trailing_zeros k x < k → bit x (count_trailing_zeros k x) ≡ true
unfolding count_trailing_zeros
trailing_set zero x l = absurd (not-suc-le-zero l)
trailing_set (suc k) x l = under_set (x % 2) (count_trailing_zeros k (x / 2)) k x (low x) l (λ h. trailing_set k (x / 2) h) refl

under_some : (d t k x : ℕ) → d < 2 → 0 < x → (0 < x / 2 → t < k) → x % 2 ≡ d → under d t < suc k
under_some zero t k x p h f e = suc-le-suc (f (omega arith))
under_some (suc d) t k x p h f e = omega arith

pub trailing_some : (k x : ℕ) → 0 < x → x < 2 ^ k → count_trailing_zeros k x < k
unfolding count_trailing_zeros
trailing_some zero x h l = absurd (omega arith)
trailing_some (suc k) x h l =
    under_some (x % 2) (count_trailing_zeros k (x / 2)) k x (low x) h (λ g. trailing_some k (x / 2) g (omega (arith, pow-suc 2 k))) refl

-- the lowest clear bit of a word is the lowest set one of its complement
pub first_clear : (x : ℕ) → x < 2 ^ 64 → (x ≡ 2 ^ 64 - 1 → ⊥) → Lowest 64 (bit x) (count_trailing_zeros 64 ((2 ^ 64 - 1) - x)) × (count_trailing_zeros 64 ((2 ^ 64 - 1) - x) < 64)
first_clear x h n =
    let y : ℕ = (2 ^ 64 - 1) - x in (
      record {
        most = trailing_le 64 y;
        below = λ j l. not-false (bit x j) (sym (bit_not 64 x j (omega (arith, trailing_le 64 y)) h) ∙ trailing_clear 64 y j l);
        here = λ l. not-true (bit x (count_trailing_zeros 64 y)) (sym (bit_not 64 x (count_trailing_zeros 64 y) l h) ∙ trailing_set 64 y l);
      },
      trailing_some 64 y (omega (arith, lt_of_le-ne (le_ones 64 h) n)) (ones_sub-lt 64 x),
    )

-- of a word whose bits are all set none is clear
pub none_clear : (x : ℕ) → x ≡ 2 ^ 64 - 1 → Lowest 64 (bit x) 64
none_clear x full =
    record {
      most = omega arith;
      below = λ j l. ap (λ (n : ℕ). bit n j) full ∙ bit_not 64 0 j l (omega arith) ∙ ap not (bit_zero j);
      here = λ l. absurd (omega arith);
    }
