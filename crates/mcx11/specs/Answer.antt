-- The answer that the lent memory holds, and that it is what a call wrote there.
use Rattle.std.specs.Prelude.{ℕ, ◌+◌, ◌≡◌, List, get_or}
use Rattle.std.proofs.Common.{ap, ◌∙◌}
use Rattle.rows.specs.Splice.{cut}
use Rattle.answer.specs.Written.{written}
use Rattle.answer.specs.Read.{read_length, read_answer}
use Rattle.mcx11.specs.Contract.{Memory}

-- its first byte is the length, and the answer lies behind it
unfoldable pub answer_of : Memory → List ℕ
answer_of m = cut m.answer 1 (1 + get_or m.answer 0 0)

pub answer_is : (m : Memory) (a old : List ℕ) → m.answer ≡ written a old → answer_of m ≡ a
unfolding answer_of
answer_is m a old e =
    ap (λ (d : List ℕ). cut d 1 (1 + get_or d 0 0)) e ∙ ap (λ (n : ℕ). cut (written a old) 1 (1 + n)) (read_length a old) ∙ read_answer a old
