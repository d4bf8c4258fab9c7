-- A refused frame leaves the ledger as it was: its step is the other arm of the choice on the number.
use Rattle.std.specs.Prelude.{ℕ, ◌≡◌, refl, List}
use Rattle.std.proofs.Common.{ne_eqb}
use Rattle.ledger.specs.Lists.{byte}
use Rattle.ledger.specs.Config.{Config}
use Rattle.ledger.specs.Ledger.{Ledger}
use Rattle.ledger.specs.Refusals.{refusal}
use Rattle.ledger.specs.Session.{answer, step}

-- the ledger is the one before, and the answer has the number, 0 reissues, and what the running task showed already
pub refused_changes_nothing : (c : Config) (f : List ℕ) (l : Ledger) → (refusal c l f ≡ 0 → ⊥)
    → step c f l ≡ record { ledger = l; answered = answer (refusal c l f) 0 l }
unfolding step
refused_changes_nothing c f l h = rw (ne_eqb (refusal c l f) 0 h)

-- its third byte
pub refused_counts_none : (n : ℕ) (l : Ledger) → byte 2 (answer n 0 l) ≡ 0
unfolding answer
refused_counts_none n l = refl
