-- What a call of the reader or the writer gives back, for what the ledger says of it.
use Rattle.std.specs.Prelude.{◌≡◌, List, ◌++◌, ℕ, length, drop, Result, Ok, Err}
use Rattle.ledger.specs.Lines as ledger
use Rattle.refusals.specs.declared.Refusal.{Refusal}
use Rattle.refusals.specs.Numbers.{number_of}

-- an answer with document 01's number in place of the refusal
abbrev pub by_number : Result ℕ Refusal → Result ℕ ℕ
by_number (Ok n) = Ok n
by_number (Err refused) = Err (number_of refused)

-- each case of the answer: document 01's number, or how many bytes the result has
unfoldable pub answer_to : ledger.Written → Result ℕ ℕ
answer_to (ledger.number n) = Err n
answer_to (ledger.result r) = Ok (length r)

-- the lent buffer after the call: as it was with a number, else the result with the old bytes behind it
unfoldable pub left_in : List ℕ → ledger.Written → List ℕ
left_in before (ledger.number n) = before
left_in before (ledger.result r) = r ++ drop (length r) before

pub record Gives (said : ledger.Written) (before after : List ℕ) (answer : Result ℕ Refusal) : Type 0 where
  pub answered : by_number answer ≡ answer_to said
  pub left : after ≡ left_in before said
