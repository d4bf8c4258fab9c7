-- Timers, and the tick.
use Rattle.std.specs.Prelude.{ℕ, suc, ◌+◌, ◌%◌, Bool, cond, ◌&&◌, ◌||◌, not, List, [], ◌∷◌, ltb, leb, eqb}
use Rattle.ledger.specs.Lists.{keep, insert_by}
use Rattle.ledger.specs.Config.{Config}
use Rattle.ledger.specs.Time.{TockValue, tocks, period}
use Rattle.ledger.specs.Ledger.{Timer, Ledger, set_timers, set_clock}
use Rattle.ledger.specs.Services.Semaphores.{signal}

-- by due tock, a later insertion behind equals
unfoldable pub insert_timer : Timer → Ledger → Ledger
insert_timer t l = set_timers (insert_by (λ t. t.due) t l.timers) l

-- due is N plus the tocks
unfoldable pub start_timer : (a b : ℕ) → TockValue → Ledger → Ledger
start_timer a b v l = insert_timer (record { task = a; semaphore = b; due = l.N + tocks v; period = period v }) l

-- low byte of X 0 removes all of A's timers, else only A's on B
unfoldable pub purge : ℕ → ℕ → ℕ → Ledger → Ledger
purge a b x l = set_timers (keep (λ t. not (eqb t.task a && (eqb (x % 256) 0 || eqb t.semaphore b))) l.timers) l

-- a timer that is due and has been removed signals B; a cyclic one is inserted again
unfoldable pub insert_again : Timer → Ledger → Ledger
insert_again t l = cond (eqb t.period 0) l (insert_timer (record { task = t.task; semaphore = t.semaphore; due = l.N + t.period; period = t.period }) l)

unfoldable pub expire : Timer → Ledger → Ledger
expire t l = (signal t.semaphore (insert_again t l)).ledger

unfoldable pub expire_all : List Timer → Ledger → Ledger
expire_all [] l = l
expire_all (t ∷ ts) l = expire_all ts (expire t l)

unfoldable pub due : Ledger → Timer → Bool
due l t = leb t.due l.N

-- those that a tock removes as due, in the order in which they then signal
abbrev pub due_now : Ledger → List Timer
due_now l = keep (due l) l.timers

unfoldable pub tock : Ledger → Ledger
tock l = expire_all (due_now l) (set_timers (keep (λ t. not (due l t)) l.timers) l)

-- after K ticks a tock passes
unfoldable pub tick : Config → Ledger → Ledger
tick c l = cond (ltb (suc l.ticks) c.K) (set_clock l.N (suc l.ticks) l) (tock (set_clock (suc l.N) 0 l))
