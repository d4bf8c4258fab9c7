-- A timer started, and its semaphore WAITING for its task.
use Rattle.std.specs.Prelude.{◌≡◌, List, ℕ, ◌<◌, length}
use Rattle.tables.specs.declared.shape.Shape.{Shape}
use Rattle.tables.specs.Shows.{DoesWithTimersIf}
use Rattle.ledger.specs.Time.{TockValue, tocks, period}
use Rattle.ledger.specs.Services.{wait_for, start_timer}

-- where a record is left for it
abbrev pub Delays : Shape → (d w d' w' : List ℕ) → (task semaphore left again : ℕ) → Type 0
Delays s d w d' w' a b left again =
    (v : TockValue) → tocks v ≡ left → period v ≡ again → DoesWithTimersIf s d w d' w' (λ c L. length L.timers < c.R) (λ c L. wait_for a b (start_timer a b v L))
