-- The bytes of all queues, added up queue by queue; a queue that there is not counts 4,097, more than all may have.
use Rattle.std.specs.Prelude.{◌≡◌, refl, Bool, true, false, cond, ◌&&◌, ℕ, zero, suc, ◌+◌, ◌*◌, ◌/◌, ◌%◌, ◌<◌, ◌≤◌, length, drop}
use Rattle.std.proofs.Math.Path.{sym, ap}
use Rattle.std.proofs.Common.{◌∙◌, mul-le-mul, mul-zero, zero-mul, length-drop}
use mathlib.Core.List.{List, [], ◌∷◌, map}
use native.Mathlib.Omega.{arith}
use Rattle.std.proofs.Math.ListN.{get_or}
use borrow.Author.Tests.{le-leb, lt-leb}
use Rattle.tables.specs.Encoded.{case}
use Rattle.ledger.proofs.Theorems.Checks.{and_left, and_right, within_numbered}
use Rattle.ledger.specs.Lists.{within, sum, all}
use Rattle.ledger.specs.Config.{Limits, twos, shapes_in}
use Rattle.ledger.proofs.Theorems.Twos.{two_next}
use Rattle.configuration.specs.Block.{shaped, product, good_shapes}

-- the bytes of one queue, or 4,097
unfoldable pub bytes_or_none : (width depth : ℕ) → ℕ
bytes_or_none w d = cond (within 1 16 w && within 1 255 d) (w * d) 4097

unfoldable pub room_in : List ℕ → ℕ
room_in l = sum (twos bytes_or_none l)

-- ---- one queue

pub record Sized (w d : ℕ) : Type 0 where
  pub wide : 1 ≤ w
  pub narrow : w ≤ 16
  pub deep : 1 ≤ d
  pub shallow : d ≤ 255

module _ (w d : ℕ) where
  sized_is : Sized w d → (within 1 16 w && within 1 255 d) ≡ true
  sized_is h = rw (le-leb 1 w h.wide, le-leb w 16 h.narrow, le-leb 1 d h.deep, le-leb d 255 h.shallow)

  pub sized : (within 1 16 w && within 1 255 d) ≡ true → Sized w d
  sized e =
      let a = within_numbered 16 w (and_left (within 1 16 w) (within 1 255 d) e) in
      let b = within_numbered 255 d (and_right (within 1 16 w) (within 1 255 d) e) in
      record { wide = a.from; narrow = a.upto; deep = b.from; shallow = b.upto }

  -- no product of such numbers is 0, and one that is not 0 has no factor 0
  some : Sized w d → w * d ≡ 0 → ⊥
  some h e = omega (arith, mul-le-mul h.wide h.deep)

  small : w ≤ 16 → d ≤ 255 → (w * d ≡ 0 → ⊥) → Sized w d
  small a b n = record { wide = go w n; narrow = a; deep = deep d n; shallow = b }
    where
      go : (x : ℕ) → (x * d ≡ 0 → ⊥) → 1 ≤ x
      go zero k = absurd (k (zero-mul d))
      go (suc x) k = omega arith

      deep : (y : ℕ) → (w * y ≡ 0 → ⊥) → 1 ≤ y
      deep zero k = absurd (k (mul-zero w))
      deep (suc y) k = omega arith

  pub bytes_some : Sized w d → bytes_or_none w d ≡ w * d
  unfolding bytes_or_none
  bytes_some h = rw (sized_is h)

  pub some_bytes : w ≤ 16 → d ≤ 255 → (w * d ≡ 0 → ⊥) → (w * d ≡ bytes_or_none w d) × (w * d ≤ 4097)
  some_bytes a b n = let k = small a b n in (sym (bytes_some k), omega (arith, mul-le-mul a b))

  pub bytes_none : (Sized w d → ⊥) → bytes_or_none w d ≡ 4097
  unfolding bytes_or_none
  bytes_none n = case (within 1 16 w && within 1 255 d) (λ e. absurd (n (sized e))) (λ e. rw e)

-- the ways out of the code's test of a queue
module _ (w d : ℕ) where
  pub too_wide : 16 < w → 4097 ≡ bytes_or_none w d
  too_wide h = sym (bytes_none w d (λ k. omega (arith, k.narrow)))

  pub no_bytes : w * d ≡ 0 → 4097 ≡ bytes_or_none w d
  no_bytes e = sym (bytes_none w d (λ k. some w d k e))

-- ---- all queues

unfoldable pub bytes_in : List ℕ → ℕ
bytes_in l = sum (map product (shapes_in l))

-- where there are such queues it is the sum of the products, else more than 4,096
room_sum : (l : List ℕ) → all shaped (shapes_in l) ≡ true → room_in l ≡ bytes_in l
unfolding room_in bytes_or_none bytes_in twos all sum
room_sum [] e = refl
room_sum (w ∷ []) e = refl
room_sum (w ∷ d ∷ r) e =
    let here = and_left (within 1 16 w && within 1 255 d) (all shaped (shapes_in r)) e in
    let more = and_right (within 1 16 w && within 1 255 d) (all shaped (shapes_in r)) e in
    rw here (ap (λ (n : ℕ). w * d + n) (room_sum r more))

room_over : (l : List ℕ) → all shaped (shapes_in l) ≡ false → 4096 < room_in l
unfolding room_in bytes_or_none twos all sum
room_over [] e = let z : ◌≡◌ {A = ℕ} 0 1 = ap (λ (b : Bool). cond b 0 1) e in absurd (omega (arith, z))
room_over (w ∷ []) e = let z : ◌≡◌ {A = ℕ} 0 1 = ap (λ (b : Bool). cond b 0 1) e in absurd (omega (arith, z))
room_over (w ∷ d ∷ r) e = go (within 1 16 w && within 1 255 d) e (room_over r)
  where
    go : (b : Bool) → (b && all shaped (shapes_in r)) ≡ false → (all shaped (shapes_in r) ≡ false → 4096 < room_in r) → 4096 < cond b (w * d) 4097 + room_in r
    go true e h = omega (arith, h e)
    go false e h = omega arith

module _ (m : Limits) (made : m.bytes ≤ 4096) (l : List ℕ) where
  -- the rule holds just where the bytes are within the limit, and then they are the sum of the products
  pub room_good : room_in l ≤ m.bytes → (good_shapes m (shapes_in l) ≡ true) × (room_in l ≡ sum (map product (shapes_in l)))
  unfolding good_shapes bytes_in
  room_good h = case (all shaped (shapes_in l)) (λ e. (rw (e, le-leb (bytes_in l) m.bytes (omega (arith, room_sum l e))), room_sum l e)) (λ e. absurd (omega (arith, room_over l e)))

  pub room_bad : m.bytes < room_in l → good_shapes m (shapes_in l) ≡ false
  unfolding good_shapes bytes_in
  room_bad h = case (all shaped (shapes_in l)) (λ e. rw (e, lt-leb (bytes_in l) m.bytes (omega (arith, room_sum l e)))) (λ e. rw e)

none_left : (f : ℕ → ℕ → ℕ) (l : List ℕ) → length l < 2 → sum (twos f l) ≡ 0
unfolding twos sum
none_left f [] h = refl
none_left f (x ∷ []) h = refl
none_left f (x ∷ y ∷ r) h = absurd (omega arith)

-- ---- the loop's turn and its end, for any number of a width and a depth

module _ (f : ℕ → ℕ → ℕ) (a k : ℕ) (l : List ℕ) where
  -- x is the queue's two bytes in one number
  pub sum_on : 2 * k + 1 < length l → (x : ℕ) → x % 256 ≡ get_or l (2 * k) 0 → x / 256 ≡ get_or l (2 * k + 1) 0
      → (y : ℕ) → y ≡ f (x % 256) (x / 256) → a + sum (twos f (drop (2 * k) l)) ≡ a + y + sum (twos f (drop (2 * (k + 1)) l))
  unfolding twos sum
  sum_on h x width depth y ey =
      let e : f (get_or l (2 * k) 0) (get_or l (2 * k + 1) 0) ≡ y = sym (ey ∙ rw (width, depth)) in
      ap (λ (r : List ℕ). a + sum (twos f r)) (two_next k l h) ∙ rw e (omega arith)

  pub sum_end : length l < 2 * k + 2 → a + sum (twos f (drop (2 * k) l)) ≡ a
  sum_end h = omega (arith, none_left f (drop (2 * k) l) (simp length-drop (omega arith)))

pub product_sum : (l : List ℕ) → sum (twos (λ w d. w * d) l) ≡ bytes_in l
unfolding bytes_in twos sum
product_sum [] = refl
product_sum (w ∷ []) = refl
product_sum (w ∷ d ∷ r) = ap (λ (n : ℕ). w * d + n) (product_sum r)
