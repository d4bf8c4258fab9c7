-- The block `timers`: a byte that counts the timers, and their rows behind it, lent as a part of the block: ten bytes of a clock, and ten for each timer.
use Rattle.std.specs.Prelude.{◌≡◌, refl, List, [], ◌∷◌, ℕ, suc, ◌+◌, ◌-◌, ◌*◌, ◌≤◌, length, get_or, drop, set}
use Rattle.std.proofs.Common.{◌∙◌, append-nil, arith, drop_of_length-le}
use Rattle.std.proofs.Math.Seq.{take-length}
use borrow.Author.Tests.{le-leb}
use borrow.Rule.Slice.PartMut.{put_mid}
use Rattle.rows.specs.Splice.{cut}
use Rattle.rows.specs.Laws.{length_cut}
use Rattle.ledger.specs.Session.{TimerLeft}
use Rattle.timers.specs.Timers.{timers_in, Upright}
use Rattle.tables.specs.declared.shape.Shape.{Shape}
use Rattle.tables.specs.Decode.{count_of}

-- n bytes have room for the count, the clock and the records. (No record, so that its parts stay out of sight where one fact of it is wanted)
pub data Holds (s : Shape) (n : ℕ) : Type 0 where
  holding : 11 + 10 * s.timers ≤ n → s.timers ≤ 64 → Holds s n

pub space : {s : Shape} {n : ℕ} → Holds s n → 11 + 10 * s.timers ≤ n
space (holding a b) = a

pub few : {s : Shape} {n : ℕ} → Holds s n → s.timers ≤ 64
few (holding a b) = b

pub some_byte : {s : Shape} {n : ℕ} → Holds s n → 1 ≤ n
some_byte (holding a b) = omega arith

-- as many bytes as before
pub still_holds : {s : Shape} {m n : ℕ} → Holds s m → m ≡ n → Holds s n
still_holds (holding a b) e = holding (omega arith) b

-- the timers that the block holds
unfoldable pub held_in : Shape → List ℕ → List TimerLeft
held_in s w = timers_in (count_of s.timers (get_or w 0 0)) (drop 1 w)

-- the rows of as many timers as the count says are in order
abbrev pub UprightIn : List ℕ → Type 0
UprightIn w = Upright (get_or w 0 0) (drop 1 w)

-- the part behind the count, which is lent, and the block when it is back
part : (w : List ℕ) → cut w 1 (length w) ≡ drop 1 w
part [] = refl
part (x ∷ xs) = let e : suc (length xs) - 1 ≡ length xs = omega arith in rw e (take-length xs)

back : (w ys : List ℕ) → 1 ≤ length w → put_mid 1 (length w - 1) w ys ≡ get_or w 0 0 ∷ ys
back [] ys h = absurd (omega arith)
back (x ∷ xs) ys h =
    let e : suc (length xs) - 1 ≡ length xs = omega arith in
    rw (e, drop_of_length-le xs {i = length xs} (omega arith), append-nil)

-- the clock and n records have room in the part
pub records_in_lem : {s : Shape} (w : List ℕ) → Holds s (length w) → (n : ℕ) → n ≤ s.timers → n * 10 + 10 ≤ length (cut w 1 (length w))
records_in_lem w h n f = omega (arith, space h, length_cut w 1 (length w) (omega arith))

module _ (s : Shape) (w : List ℕ) (h : Holds s (length w)) (n : ℕ) (counts : n ≡ count_of s.timers (get_or w 0 0)) where
  -- what a function that is lent the part reads there
  pub lent : timers_in n (cut w 1 (length w)) ≡ held_in s w
  unfolding held_in
  lent = rw (part w, counts)

  -- a count that is no more than there can be
  counted_is : get_or w 0 0 ≤ s.timers → n ≡ get_or w 0 0
  counted_is f = counts ∙ rw (le-leb (get_or w 0 0) s.timers f)

  pub lent_upright : get_or w 0 0 ≤ s.timers → UprightIn w → Upright n (cut w 1 (length w))
  lent_upright f u = rw (part w, counted_is f) u

  module _ (ys : List ℕ) where
    -- the part is other bytes, the count the same
    pub held_same : held_in s (put_mid 1 (length w - 1) w ys) ≡ timers_in n ys
    unfolding held_in
    held_same = rw (back w ys (omega (arith, space h)), counts)

    -- and another count
    pub held_counted : (m : ℕ) → m ≤ s.timers → held_in s (set (put_mid 1 (length w - 1) w ys) 0 m) ≡ timers_in m ys
    unfolding held_in
    held_counted m f = rw (back w ys (omega (arith, space h)), le-leb m s.timers f)

    pub same_upright : get_or w 0 0 ≤ s.timers → Upright n ys → UprightIn (put_mid 1 (length w - 1) w ys)
    same_upright f u = rw (back w ys (omega (arith, space h))) (rw (counted_is f) at u)

    pub counted_upright : (m : ℕ) → Upright m ys → UprightIn (set (put_mid 1 (length w - 1) w ys) 0 m)
    counted_upright m u = rw (back w ys (omega (arith, space h))) u
