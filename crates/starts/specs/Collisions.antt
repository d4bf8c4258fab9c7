-- The distance of two starts, and what it is to collide again and again.
use Rattle.std.specs.Prelude.{ℕ, ◌+◌, ◌-◌, ◌≤◌}
use Rattle.starts.specs.declared.Cycle.{Cycle}
use Rattle.starts.specs.Starts.{Signals}

abbrev pub distance : ℕ → ℕ → ℕ
distance s e = (s - e) + (e - s)

-- who collide do so again and again: in a tock at or behind any that is named
pub record CollideFrom (n : ℕ) (a b : Cycle) : Type 0 where
  pub tock : ℕ
  pub from : n ≤ tock
  pub left : Signals a tock
  pub right : Signals b tock
