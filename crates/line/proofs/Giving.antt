-- The ways out of the reader and the writer, which are the ledger's three cases of a result in a lent buffer.
use Prim.Native.Nat.{ℕ, ◌<◌, ◌≤◌}
use mathlib.Core.Path.{◌≡◌}
use mathlib.Core.List.{List, ◌++◌}
use mathlib.Core.Option.{Option, none, some}
use lib.ListN.{length, drop}
use borrow.Author.Tests.{lt-ltb, le-ltb}
use Rattle.ledger.specs.Lines.{written_into}
use Rattle.line.specs.Answers.{answer_to, left_in, Gives}
use Rattle.std.specs.Prelude.{Ok, Err}
use Rattle.refusals.specs.declared.Refusal.TheVariants as refusal

-- what is to be written, and the buffer
module _ (o : Option (List ℕ)) (before : List ℕ) where
  pub gives_1 : o ≡ none → Gives (written_into (length before) o) before before (Err refusal.Line)
  unfolding written_into answer_to left_in
  gives_1 e = record { answered = rw e; left = rw e }

  module _ (r : List ℕ) (e : o ≡ some r) where
    pub gives_11 : length before < length r → Gives (written_into (length before) o) before before (Err refusal.Memory)
    unfolding written_into answer_to left_in
    gives_11 h =
        let t = lt-ltb (length before) (length r) h in
        record { answered = rw (e, t); left = rw (e, t) }

    pub gives_result : (after : List ℕ) (k : ℕ) → length r ≤ length before → length r ≡ k → after ≡ r ++ drop k before → Gives (written_into (length before) o) before after (Ok k)
    unfolding written_into answer_to left_in
    gives_result after k h n f =
        let t = le-ltb (length before) (length r) h in
        record { answered = rw (e, t, n); left = rw (e, t, n) f }
