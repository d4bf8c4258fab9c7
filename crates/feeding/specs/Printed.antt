-- An answer, printed behind what is printed: its digits and the line's end.
use Rattle.std.specs.Prelude.{ℕ, ◌+◌, ◌-◌, ◌*◌, ◌≤◌, ◌<◌, ◌≡◌, drop, set, Result}
use Rattle.std.proofs.Math.Path.{ap, ap₂}
use Rattle.std.proofs.Common.{◌∙◌, add-one, length-append, length-take, take_at}
use mathlib.Core.List.{List, [], ◌∷◌, ◌++◌, append_assoc}
use native.Mathlib.Omega.{arith}
use borrow.Author.Tests.{le-leb, le-ltb}
use Rattle.std.proofs.Math.ListN.{length, take}
use Rattle.std.proofs.Math.Seq.{take-suc-set}
use borrow.Rule.Slice.PartMut.{put_mid}
use Rattle.rows.specs.Splice.{cut, splice}
use Rattle.rows.specs.Laws.{length_cut, length_splice, lent_back}
use Rattle.ledger.specs.Lines.{longest_frame, digits_of, line_of, write_line, written_into}
use Rattle.ledger.proofs.Theorems.Lines.{length_digits}
use Rattle.line.specs.Answers.{left_in, Gives}
use Rattle.refusals.specs.declared.Refusal.{Refusal}
use Rattle.feeding.specs.Input.{print}

module _ (out a part : List ℕ) (w : Result ℕ Refusal) (p n : ℕ) (room : p + 41 ≤ length out) (e : length a ≡ n) (few : n ≤ 20) where
  abbrev lent : List ℕ
  lent = cut out p (length out)

  abbrev digits : List ℕ
  digits = digits_of a

  many : length digits ≡ 2 * n
  many = length_digits a ∙ ap (λ (x : ℕ). 2 * x) e

  left : Gives (write_line (length lent) a) lent part w → part ≡ digits ++ drop (length digits) lent
  unfolding write_line line_of written_into left_in
  left g = g.left ∙ rw (le-leb (length a) longest_frame (omega arith), le-ltb (length lent) (length digits) (omega (arith, many, length_cut out p (length out) (omega arith))))

  pub printed_line : Gives (write_line (length lent) a) lent part w
      → take (p + 2 * n + 1) (set (put_mid p (length out - p) out part) (p + 2 * n) 0x0A) ≡ take p out ++ print a
  unfolding print
  printed_line g =
      let z : 0 + length digits ≡ length digits = omega arith in
      let y : p + 0 ≡ p = omega arith in
      let x : part ≡ splice lent 0 digits = rw z (left g) in
      let b : put_mid p (length out - p) out part ≡ splice out p digits =
      lent_back out p (length out) 0 digits part (omega arith) (omega arith) (omega (arith, many)) x ∙ ap (λ (i : ℕ). splice out i digits) y in
      let l : length (take p out ++ digits) ≡ p + 2 * n = simp (length-append, length-take) (omega (arith, many)) in
      let r : p + 2 * n < length (splice out p digits) = omega (arith, length_splice out p digits (omega (arith, many)), many) in
      ap₂ (λ (k : ℕ) (d : List ℕ). take k (set d (p + 2 * n) 0x0A)) (add-one (p + 2 * n)) b
      ∙ take-suc-set (splice out p digits) (p + 2 * n) 0x0A r
      ∙ ap (λ (d : List ℕ). d ++ (0x0A ∷ [])) (take_at (take p out ++ digits) (drop (p + length digits) out) (p + 2 * n) l)
      ∙ append_assoc (take p out) digits (0x0A ∷ [])
