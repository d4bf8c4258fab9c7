-- What the reader and the writer answer, as a result in C: the ledger's, and always below 2^31.
use Prim.Native.Nat.{ℕ, ◌*◌, ◌≤◌}
use mathlib.Core.Path.{◌≡◌, refl, sym, ◌∙◌, ap, subst}
use mathlib.Core.Bool.{Bool, true, false, cond}
use mathlib.Core.List.{List}
use mathlib.Core.Option.{Option, none, some}
use native.Mathlib.Omega.{arith}
use lib.Dec.{ltb}
use lib.IntN.{ℤ}
use lib.ListN.{length}
use Rattle.ledger.specs.Lines as lines
use Rattle.ledger.specs.Lines.{longest_frame, frame_of, line_of, written_into, read_line, write_line, number, result}
use Rattle.ledger.proofs.Theorems.Lines.{frame_is_short, line_is_short}
use Rattle.std.specs.Prelude.{Result}
use Rattle.refusals.specs.declared.Refusal.{Refusal}
use Rattle.line.specs.Answers.{by_number, answer_to, Gives}
use Rattle.mcx11.specs.Results.{returned_length, Returns, of_written, Short}

answer_returned : (said : lines.Written) → of_written (answer_to said) ≡ returned_length said
unfolding of_written answer_to returned_length
answer_returned (lines.number n) = refl
answer_returned (lines.result r) = refl

-- a caller that returns the answer
pub returns_it : (said : lines.Written) (before after : List ℕ) (answer : Result ℕ Refusal) (r : ℤ) → Gives said before after answer → r ≡ of_written (by_number answer) → Returns said before after r
returns_it said before after answer r g e = record { returned = e ∙ ap of_written g.answered ∙ answer_returned said; left = g.left }

short : (room : ℕ) (o : Option (List ℕ)) → ((r : List ℕ) → o ≡ some r → length r ≤ 2 * longest_frame) → Short (answer_to (written_into room o))
unfolding Short answer_to written_into
short room none h = tt
short room (some r) h = go (ltb room (length r)) (h r refl)
  where
    go : (b : Bool) → length r ≤ 2 * longest_frame → Short (answer_to (cond b (number 11) (result r)))
    go true l = tt
    go false l = omega arith

pub read_is_short : (room : ℕ) (ds before after : List ℕ) (answer : Result ℕ Refusal) → Gives (read_line room ds) before after answer → Short (by_number answer)
unfolding read_line
read_is_short room ds before after answer g =
    subst Short (sym g.answered) (short room (frame_of ds) (λ r e. omega (arith, frame_is_short ds r e)))

pub write_is_short : (room : ℕ) (f before after : List ℕ) (answer : Result ℕ Refusal) → Gives (write_line room f) before after answer → Short (by_number answer)
unfolding write_line
write_is_short room f before after answer g = subst Short (sym g.answered) (short room (line_of f) (line_is_short f))
