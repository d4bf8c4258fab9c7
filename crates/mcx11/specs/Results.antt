-- The result of a C function, one int32_t: what was computed, from 0 up, or the number of the refusal with a minus sign.
use Rattle.std.specs.Prelude.{◌≡◌, List, ℕ, ◌<◌, ◌^◌, ℤ, pos, neg_ℤ, length, Result, Ok, Err}
use Rattle.ledger.specs.Lines as lines
use Rattle.ledger.specs.Time as time
use Rattle.line.specs.Answers.{left_in}

abbrev pub refused : ℕ → ℤ
refused n = neg_ℤ (pos n)

-- of the reader and the writer: the length of the result
unfoldable pub returned_length : lines.Written → ℤ
returned_length (lines.number n) = refused n
returned_length (lines.result r) = pos (length r)

-- of milliseconds: the tocks
unfoldable pub returned_tocks : time.Tocks → ℤ
returned_tocks (time.are n) = pos n
returned_tocks (time.refused n) = refused n

pub record Returns (said : lines.Written) (before after : List ℕ) (r : ℤ) : Type 0 where
  pub returned : r ≡ returned_length said
  pub left : after ≡ left_in before said

-- the same of the answer of the crate `line`, with its refusal's number
unfoldable pub of_written : Result ℕ ℕ → ℤ
of_written (Err n) = refused n
of_written (Ok n) = pos n

unfoldable pub Short : Result ℕ ℕ → Type 0
Short (Err n) = Unit {0}
Short (Ok n) = n < 2 ^ 31
