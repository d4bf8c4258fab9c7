-- The ticks in the present tock are fewer than K: the last of them begins a new tock.
use Rattle.std.specs.Prelude.{◌<◌}
use Rattle.ledger.specs.Config.{Config}
use Rattle.ledger.specs.Time.{TockValue}
use Rattle.ledger.specs.Ledger.{Ledger}
use Rattle.ledger.proofs.Theorems.Changes.{Change, alters, restarts, pends, finishes, wakes, waits, delivers, removes, puts_entry, takes_entry, starts_timer, stops_timers, ticks, tocks, updates}

pub ticks_kept : {c : Config} {X : TockValue → Type 0} → 0 < c.K → (l l' : Ledger) → Change c X l l' → l.ticks < c.K → l'.ticks < c.K
unfolding updates
ticks_kept k l l' (alters t v a) h = h
ticks_kept k l l' (restarts t v a) h = h
ticks_kept k l l' (pends b w) h = h
ticks_kept k l l' (finishes b u w) h = h
ticks_kept k l l' (wakes b t e) h = h
ticks_kept k l l' (waits t b n w e) h = h
ticks_kept k l l' (delivers t m s n) h = h
ticks_kept k l l' (removes t v p) h = h
ticks_kept k l l' (puts_entry q e w f) h = h
ticks_kept k l l' (takes_entry t q e es n r) h = h
ticks_kept k l l' (starts_timer a b v n s w f) h = h
ticks_kept k l l' (stops_timers v p) h = h
ticks_kept k l l' (ticks n) h = n
ticks_kept k l l' tocks h = k
