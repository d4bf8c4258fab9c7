-- What it is for a function over lent blocks of one configuration to do what the ledger does.
use Rattle.std.specs.Prelude.{Bool, List, ℕ, ◌*◌, ◌≤◌}
use Rattle.tables.specs.declared.shape.Shape.{Shape}
use Rattle.tables.specs.Layout.{Fits}
use Rattle.tables.specs.Shows.{ShowsAs}
use Rattle.clock.specs.Held.{Holds}
use Rattle.command.specs.Configured.{Framed}
use Rattle.ledger.specs.Config.{Config}
use Rattle.ledger.specs.Ledger.{Ledger}

-- the blocks of one configuration: that in block g, with its shape s; tables, slots and timers of d, z and w bytes. (No record, so that its many parts stay out of sight)
pub data Suits (g : List ℕ) (s : Shape) (d z w : ℕ) : Type 0 where
  suits : Framed g s → Fits s d → 16 * s.tasks ≤ z → Holds s w → Suits g s d z w

-- those beside the tables, which have room for the shape
pub data Beside (g : List ℕ) (s : Shape) (z w : ℕ) : Type 0 where
  beside : Framed g s → 16 * s.tasks ≤ z → Holds s w → Beside g s z w

-- those without the timers
pub data Slotted (g : List ℕ) (s : Shape) (z : ℕ) : Type 0 where
  slotted : Framed g s → 16 * s.tasks ≤ z → Slotted g s z

-- the tables, from d to d', for the configuration c
abbrev pub DoesOf : Config → Shape → (d d' : List ℕ) → (Config → Ledger → Ledger) → Type 0
DoesOf c s d d' f = (tidy : Bool) (L : Ledger) (z w : List ℕ) → ShowsAs tidy c s L d z w → ShowsAs tidy c s (f c L) d' z w

-- the tables with the slots
abbrev pub DoesWithSlotsOf : Config → Shape → (d z d' z' : List ℕ) → (Config → Ledger → Ledger) → Type 0
DoesWithSlotsOf c s d z d' z' f = (tidy : Bool) (L : Ledger) (w : List ℕ) → ShowsAs tidy c s L d z w → ShowsAs tidy c s (f c L) d' z' w

module _ {g : List ℕ} {s : Shape} {d z w : ℕ} where
  pub tables : Suits g s d z w → Fits s d
  tables (suits c t x y) = t

  pub others : Suits g s d z w → Beside g s z w
  others (suits c t x y) = beside c x y

module _ {g : List ℕ} {s : Shape} {z w : ℕ} where
  pub configuration : Beside g s z w → Framed g s
  configuration (beside c x y) = c

  pub slots : Beside g s z w → 16 * s.tasks ≤ z
  slots (beside c x y) = x

  pub timers : Beside g s z w → Holds s w
  timers (beside c x y) = y

module _ {g : List ℕ} {s : Shape} {z : ℕ} where
  pub frame : Slotted g s z → Framed g s
  frame (slotted c x) = c

  pub room : Slotted g s z → 16 * s.tasks ≤ z
  room (slotted c x) = x
