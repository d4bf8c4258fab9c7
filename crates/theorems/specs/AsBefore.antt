-- Without code $12 the executives are those of before there was one: what demand 3 says of a list of calls, it says of the ledger with the seventeen codes too,
-- if no frame of the list has that code.
use Rattle.std.specs.Prelude.{ℕ, ◌≡◌, List}
use Rattle.std.proofs.Common.{sym, ap, ◌∙◌}
use Rattle.ledger.specs.Config.{Limits, config_in}
use Rattle.ledger.specs.Ledger.{Ledger}
use Rattle.ledger.specs.Session.{items}
use Rattle.ledger.proofs.Theorems.Parts.{Every}
use Rattle.ledger.proofs.Theorems.WithoutSeason.{codes_before, run_by, session_by, Without, same_run, same_session}
use Rattle.mcx11.specs.Contract.{Memory}
use Rattle.mcx11.specs.Displayed.{items_in}
use Rattle.theorems.specs.Same.{Same}

pub record AsBefore (g : List ℕ) (fs answered : List (List ℕ)) (m : Memory) : Type 0 where
  -- byte by byte, the answers are those of the ledger with the seventeen codes
  pub answers : answered ≡ session_by codes_before g fs
  -- and so are the items that the memory holds after the list
  pub items : items (run_by codes_before (config_in g) fs).0 ≡ items_in (config_in g) m

pub as_before : {k : Limits} {g : List ℕ} {m₀ : Memory} {fs answered : List (List ℕ)} {returned : List ℕ} {m : Memory} → Every Without fs → Same k g m₀ fs answered returned m → AsBefore g fs answered m
as_before {g = g} h s =
    record {
      answers = s.answers ∙ sym (same_session g h);
      items = ap (λ (r : Ledger × List (List ℕ)). items r.0) (same_run (config_in g) h) ∙ s.items;
    }
