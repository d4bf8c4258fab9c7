-- The writer's pass is the ledger's list of digits, two for each byte.
use Prim.Native.Nat.{ℕ, zero, suc, ◌+◌, ◌*◌, ◌/◌, ◌%◌, ◌<◌, ◌≤◌}
use mathlib.Core.Path.{◌≡◌, refl, sym, ◌∙◌}
use mathlib.Core.List.{List, [], ◌∷◌}
use mathlib.Core.Option.{none, some}
use native.Mathlib.Omega.{arith}
use lib.ListN.{length, get_or, set}
use borrow.Author.Tests.{le-leb, lt-leb}
use Rattle.ledger.specs.Lines.{longest_frame, digit_of, digits_of, line_of}
use Rattle.ledger.proofs.Theorems.Lines.{length_digits}
use Rattle.line.proofs.Front.{front, front_turn}

high_digit : (f : List ℕ) (i : ℕ) → i < length f → get_or (digits_of f) (2 * i) 0 ≡ digit_of (get_or f i 0 / 16)
unfolding digits_of
high_digit [] i h = absurd (omega arith)
high_digit (b ∷ bs) zero h = refl
high_digit (b ∷ bs) (suc i) h = let p : 2 * suc i ≡ suc (suc (2 * i)) = omega arith in rw p (high_digit bs i (omega arith))

low_digit : (f : List ℕ) (i : ℕ) → i < length f → get_or (digits_of f) (2 * i + 1) 0 ≡ digit_of (get_or f i 0 % 16)
unfolding digits_of
low_digit [] i h = absurd (omega arith)
low_digit (b ∷ bs) zero h = refl
low_digit (b ∷ bs) (suc i) h = let p : 2 * suc i + 1 ≡ suc (suc (2 * i + 1)) = omega arith in rw p (low_digit bs i (omega arith))

-- a turn writes the two digits of a byte
pub digits_turn : (before f now : List ℕ) (i v w : ℕ) → now ≡ front before (digits_of f) (2 * i) → v ≡ digit_of (get_or f i 0 / 16) → w ≡ digit_of (get_or f i 0 % 16)
    → i < length f → 2 * length f ≤ length before → set (set now (2 * i) v) (2 * i + 1) w ≡ front before (digits_of f) (2 * (i + 1))
digits_turn before f now i v w e p q h room =
    let n = length_digits f in
    let m : 2 * (i + 1) ≡ 2 * i + 1 + 1 = omega arith in
    let a = front_turn before (digits_of f) now (2 * i) v e (p ∙ sym (high_digit f i h)) (omega arith) (omega arith) in
    rw m (front_turn before (digits_of f) (set now (2 * i) v) (2 * i + 1) w a (q ∙ sym (low_digit f i h)) (omega arith) (omega arith))

-- ---- the line

pub long_frame : (f : List ℕ) → longest_frame < length f → line_of f ≡ none
unfolding line_of
long_frame f h = rw (lt-leb (length f) longest_frame h)

pub short_frame : (f : List ℕ) → length f ≤ longest_frame → line_of f ≡ some (digits_of f)
unfolding line_of
short_frame f h = rw (le-leb (length f) longest_frame h)
