-- The pigeonhole: where n numbers are complete, each of 1 to n is there.
-- Distinct numbers from 1 to n, none of which is x, are fewer than n: each leaves one number less for the others.
use Rattle.std.specs.Prelude.{◌≡◌, ℕ, zero, suc, ◌<◌, ◌≤◌, Bool, true, false, cond, not, ◌&&◌, List, [], ◌∷◌, length, ◌==◌, nat_le, refl}
use Rattle.std.proofs.Common.{sym, ap, ◌∙◌, arith, ne_eqb, eqb-true, le-leb, leb-true}
use Rattle.std.proofs.Math.Bool.{and-true}
use Rattle.std.proofs.lemmas.Bool.{eqb-false, not-true}
use Rattle.ledger.specs.Lists.{within, any, all}
use Rattle.messages.specs.Lists.{and_left, and_right, or_left, or_right}
use Rattle.messages.specs.Pending.{occurs, distinct, complete_in}

-- how many of 1 to n pass
abbrev count : (ℕ → Bool) → ℕ → ℕ
count p zero = 0
count p (suc n) = cond (p (suc n)) (suc (count p n)) (count p n)

count_le : (p : ℕ → Bool) (n : ℕ) → count p n ≤ n
count_le p zero = omega arith
count_le p (suc n) = go (p (suc n)) (count_le p n)
  where
    go : (b : Bool) → count p n ≤ n → cond b (suc (count p n)) (count p n) ≤ suc n
    go true h = omega arith
    go false h = omega arith

abbrev other : ℕ → (ℕ → Bool) → ℕ → Bool
other y p x = p x && not (x == y)

-- a number above n does not count
count_above : (p : ℕ → Bool) (y n : ℕ) → n < y → count (other y p) n ≡ count p n
count_above p y zero h = refl
count_above p y (suc n) h = rw (ne_eqb (suc n) y (λ e. omega arith), and-true (p (suc n)), count_above p y n (omega arith))

step : (b : Bool) (k : ℕ) → cond b (suc (suc k)) (suc k) ≡ suc (cond b (suc k) k)
step true k = refl
step false k = refl

-- one number less
count_less : (p : ℕ → Bool) (y n : ℕ) → 1 ≤ y → y ≤ n → p y ≡ true → count p n ≡ suc (count (other y p) n)
count_less p y zero l h e = absurd (omega arith)
count_less p y (suc n) l h e = go (suc n == y) refl (λ k. count_less p y n l k e)
  where
    go : (b : Bool) → (suc n == y) ≡ b → (y ≤ n → count p n ≡ suc (count (other y p) n)) → count p (suc n) ≡ suc (count (other y p) (suc n))
    go true q ih =
        let s = eqb-true (suc n) y q in
        rw (ap p s ∙ e, q) (ap suc (sym (count_above p y n (omega arith))))
    go false q ih =
        let s = eqb-false (suc n) y q in
        rw (q, and-true (p (suc n)), ih (omega arith)) (step (p (suc n)) (count (other y p) n))

-- numbers that pass a test are still there without those that do not occur
all_other : (p : ℕ → Bool) (y : ℕ) (xs : List ℕ) → all p xs ≡ true → occurs y xs ≡ false → all (other y p) xs ≡ true
unfolding all any
all_other p y [] a n = refl
all_other p y (x ∷ xs) a n =
    rw (and_left (p x) (all p xs) a, or_left (x == y) (occurs y xs) n)
    (all_other p y xs (and_right (p x) (all p xs) a) (or_right (x == y) (occurs y xs) n))

fewer : (n : ℕ) (p : ℕ → Bool) → ((x : ℕ) → p x ≡ true → (1 ≤ x) × (x ≤ n)) → (xs : List ℕ) → distinct xs ≡ true → all p xs ≡ true → length xs ≤ count p n
unfolding distinct all
fewer n p r [] e a = omega arith
fewer n p r (x ∷ xs) e a =
    let h : p x ≡ true = and_left (p x) (all p xs) a in
    let m : occurs x xs ≡ false = not-true (occurs x xs) (and_left (not (occurs x xs)) (distinct xs) e) in
    let d : distinct xs ≡ true = and_right (not (occurs x xs)) (distinct xs) e in
    let o : all (other x p) xs ≡ true = all_other p x xs (and_right (p x) (all p xs) a) m in
    let i : length xs ≤ count (other x p) n = fewer n (other x p) (λ z q. r z (and_left (p z) (not (z == x)) q)) xs d o in
    omega (arith, i, count_less p x n (r x h).0 (r x h).1 h)

within_bounds : (n x : ℕ) → within 1 n x ≡ true → (1 ≤ x) × (x ≤ n)
within_bounds n x w = (leb-true 1 x (and_left (nat_le 1 x) (nat_le x n) w), leb-true x n (and_right (nat_le 1 x) (nat_le x n) w))

module _ (n : ℕ) (xs : List ℕ) (d : distinct xs ≡ true) (a : all (within 1 n) xs ≡ true) (e : length xs ≡ n) where
  there : (x : ℕ) → 1 ≤ x → x ≤ n → occurs x xs ≡ true
  there x l h = go (occurs x xs) refl
    where
      go : (b : Bool) → occurs x xs ≡ b → b ≡ true
      go true q = refl
      go false q =
          let w : within 1 n x ≡ true = rw (le-leb 1 x l, le-leb x n h) in
          let f : length xs ≤ count (other x (within 1 n)) n =
          fewer n (other x (within 1 n)) (λ z r. within_bounds n z (and_left (within 1 n z) (not (z == x)) r)) xs d (all_other (within 1 n) x xs a q) in
          absurd (omega (arith, f, count_le (within 1 n) n, count_less (within 1 n) x n l h w))

-- ---- a complete list of numbers

complete_range : (n : ℕ) (l : List ℕ) → complete_in n l ≡ true → all (within 1 n) l ≡ true
unfolding complete_in
complete_range n l c = and_left (all (within 1 n) l) (distinct l) c

complete_distinct : (n : ℕ) (l : List ℕ) → complete_in n l ≡ true → distinct l ≡ true
unfolding complete_in
complete_distinct n l c = and_right (all (within 1 n) l) (distinct l) c

-- n of them are all
pub full : (n x : ℕ) → 1 ≤ x → x ≤ n → (l : List ℕ) → complete_in n l ≡ true → length l ≡ n → occurs x l ≡ true
full n x low high l c e = there n l (complete_distinct n l c) (complete_range n l c) e x low high
