-- Two executives, each with its own limits and its own memory: a configuration that both accept starts the same ledger on both, and a list
-- of frames is answered alike, number by number and byte by byte, and leaves the same items. What the brake module accepts the ride
-- controller accepts too.
use Rattle.std.specs.Prelude.{ℕ, ◌≡◌, List}
use Rattle.std.proofs.Common.{sym, ◌∙◌}
use Rattle.ledger.specs.Config.{Limits, brake_module, config_in, config_refusal, config_refusal_by}
use Rattle.ledger.specs.Session.{run}
use Rattle.ledger.proofs.Theorems.Within.{by_accepted}
use Rattle.tables.specs.Layout.{regions}
use Rattle.configuration.specs.Layout.{shape_of}
use Rattle.mcx11.specs.Contract.{Memory, tables_part, slots_part, timers_part, Displays}
use Rattle.mcx11.specs.Displayed.{items_in}
use Rattle.theorems.specs.Same.{Same}
use Rattle.theorems.specs.OneValue.{SameBytes, both_same}

-- after the configuration g and the frames fs
pub record Alike (g : List ℕ) (fs answered₁ answered₂ : List (List ℕ)) (returned₁ returned₂ : List ℕ) (m n : Memory) : Type 0 where
  pub numbers : returned₁ ≡ returned₂
  pub answers : answered₁ ≡ answered₂
  -- both memories show the one ledger, so their items are the same
  pub first : Displays (config_in g) (run (config_in g) fs).0 m
  pub second : Displays (config_in g) (run (config_in g) fs).0 n
  pub items : items_in (config_in g) m ≡ items_in (config_in g) n
  -- and every byte of the parts but the free ones
  pub bytes : let c = config_in g in
      let s = shape_of c in
      SameBytes c (run c fs).0 (regions s (tables_part c m)) (regions s (tables_part c n)) (slots_part c m) (slots_part c n) (timers_part c m) (timers_part c n)

pub alike : {k j : Limits} {g : List ℕ} {m₀ n₀ m n : Memory} {fs answered₁ answered₂ : List (List ℕ)} {returned₁ returned₂ : List ℕ}
    → Same k g m₀ fs answered₁ returned₁ m → Same j g n₀ fs answered₂ returned₂ n → Alike g fs answered₁ answered₂ returned₁ returned₂ m n
alike a b =
    record {
      numbers = a.numbers ∙ sym b.numbers;
      answers = a.answers ∙ sym b.answers;
      first = a.shown;
      second = b.shown;
      items = sym a.items ∙ b.items;
      bytes = both_same a b;
    }

-- what the module accepts, so does the controller: its number is config_refusal (controller_gives, ledger/proofs/Theorems/Within)
pub module_accepts : (g : List ℕ) → config_refusal_by brake_module g ≡ 0 → config_refusal g ≡ 0
module_accepts g h = (by_accepted brake_module g h).0
