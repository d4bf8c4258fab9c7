-- Timers as they are lent: what they are, and what each method keeps of them.
use Rattle.std.specs.Prelude.{◌≡◌, List, ℕ, length}
use Rattle.ledger.specs.Session.{TimerLeft}
use Rattle.timers.specs.declared.Timers.{Timers}
use Rattle.timers.specs.Timers.{timers_in, StaysUpright}

abbrev pub held : Timers → List TimerLeft
held a = timers_in a.count a.rows.now

-- rows that were in order are
abbrev pub InOrder : (a b : Timers) → Type 0
InOrder a b = StaysUpright a.count a.rows.now b.count b.rows.now

-- the same bytes stay lent, with m timers in them
abbrev pub Lent : (a b : Timers) (m : ℕ) → Type 0
Lent a b m = (b.rows.ghost_name ≡ a.rows.ghost_name) × (length b.rows.now ≡ length a.rows.now) × (b.count ≡ m)
