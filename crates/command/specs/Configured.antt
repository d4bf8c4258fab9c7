-- What a configuration says, by its shape.
use Rattle.std.specs.Prelude.{ℕ, ◌≤◌, ◌≡◌, List, length}
use Rattle.std.proofs.Common.{arith}
use Rattle.ledger.specs.Config.{Config}
use Rattle.tables.specs.declared.shape.Shape.{Shape}
use Rattle.tables.specs.Layout.{Fits, fitting}
use Rattle.tables.specs.Shows.{Of}
use Rattle.ledger.specs.Config.{config_in}
use Rattle.configuration.specs.Layout.{front_bytes}

-- the value r is what f gives for every configuration of this shape
abbrev pub Says : {A : Type 0} → Shape → (Config → A) → A → Type 0
Says s f r = (c : Config) → Of c s → r ≡ f c

-- g is a configuration's frame, with all its queues, and the shape is its. (No record, so that its many parts stay out of sight where one fact of it is wanted)
pub data Framed (g : List ℕ) (s : Shape) : Type 0 where
  framed : front_bytes s ≤ length g → Of (config_in g) s → Framed g s

pub bytes : {g : List ℕ} {s : Shape} → Framed g s → front_bytes s ≤ length g
bytes (framed l o) = l

pub of : {g : List ℕ} {s : Shape} → Framed g s → Of (config_in g) s
of (framed l o) = o

-- no more bytes in front of the pairs than the controller has
pub few : {g : List ℕ} {s : Shape} → Framed g s → front_bytes s ≤ 198
few (framed l o) = omega (arith, o.laid.few, o.laid.queues)

pub fits : {g : List ℕ} {s : Shape} → Framed g s → Fits s s.end
fits (framed l o) = fitting o.laid (omega arith)
