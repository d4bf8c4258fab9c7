-- What is stored names what exists: the open requests, and the tasks and semaphores of the timers and of the messages. Every change keeps it, and the steps rely on it.
use Rattle.std.specs.Prelude.{ℕ, suc, ◌+◌, ◌≡◌, List, [], length}
use Rattle.std.proofs.Common.{sym, subst}
use Rattle.ledger.specs.Config.{Config}
use Rattle.ledger.specs.Time.{TockValue}
use Rattle.ledger.specs.Ledger.{Task, Message, Timer, Ledger, null_task, task, mailbox}
use Rattle.ledger.specs.Good.{Numbered}
use Rattle.ledger.proofs.Theorems.Items.{at_put_each}
use Rattle.ledger.proofs.Theorems.Parts.{Every, part_keep, every_to, every_part, every_insert}
use Rattle.ledger.proofs.Theorems.Tocks.{renewed_every}
use Rattle.ledger.proofs.Theorems.Changes.{Asks, Sent, Change, alters, restarts, pends, finishes, wakes, waits, delivers, removes, puts_entry, takes_entry, starts_timer, stops_timers, ticks, tocks, updates}

-- a timer's task and semaphore
pub record Timed (c : Config) (t : Timer) : Type 0 where
  pub task : Numbered c.T t.task
  pub semaphore : Numbered (c.S + c.T) t.semaphore

pub record Named (c : Config) (l : Ledger) : Type 0 where
  pub tasks : length l.tasks ≡ c.T
  pub requests : (t : ℕ) → Asks c (task l t).request
  pub timers : Every (Timed c) l.timers
  pub messages : (t : ℕ) → Every (Sent c) (mailbox l t)

-- ---- requests

abbrev Opens : Config → ℕ → Task → Type 0
Opens c n t = Asks c t.request

pub requests_kept : {c : Config} {X : TockValue → Type 0} {l l' : Ledger} → Change c X l l' → ((t : ℕ) → Asks c (task l t).request) → (t : ℕ) → Asks c (task l' t).request
unfolding updates
requests_kept {c} (alters t v a) h = at_put_each (Opens c) _ t _ null_task h (a.request (h t))
requests_kept {c} (restarts t v a) h = at_put_each (Opens c) _ t _ null_task h (subst (Asks c) (sym a.request) tt)
requests_kept (pends b w) h = h
requests_kept (finishes b u w) h = h
requests_kept {c} (wakes b t e) h = at_put_each (Opens c) _ t _ null_task h (h t)
requests_kept {c} (waits t b n w e) h = at_put_each (Opens c) _ t _ null_task h (h t)
requests_kept (delivers t m s n) h = h
requests_kept (removes t v p) h = h
requests_kept (puts_entry q e w f) h = h
requests_kept {c} (takes_entry t q e es n k) h = let m = at_put_each (Opens c) _ t _ null_task h (h t) in at_put_each (Opens c) _ t _ null_task m (m t)
requests_kept (starts_timer a b v n s k f) h = h
requests_kept (stops_timers v p) h = h
requests_kept (ticks n) h = h
requests_kept tocks h = h

-- ---- timers

pub timed_kept : {c : Config} {X : TockValue → Type 0} {l l' : Ledger} → Change c X l l' → Every (Timed c) l.timers → Every (Timed c) l'.timers
unfolding updates
timed_kept (alters t v a) h = h
timed_kept (restarts t v a) h = h
timed_kept (pends b w) h = h
timed_kept (finishes b u w) h = h
timed_kept (wakes b t e) h = h
timed_kept (waits t b n w e) h = h
timed_kept (delivers t m s n) h = h
timed_kept (removes t v p) h = h
timed_kept (puts_entry q e w f) h = h
timed_kept (takes_entry t q e es n k) h = h
timed_kept {l} (starts_timer a b v n s k f) h = every_insert _ _ l.timers (record { task = n; semaphore = s }) h
timed_kept (stops_timers v p) h = every_part p h
timed_kept (ticks n) h = h
timed_kept {c} {l} tocks h = renewed_every (Timed c) (suc l.N) l.timers (every_to (λ t p z. record { task = p.task; semaphore = p.semaphore }) (every_part (part_keep _ _) h)) (every_part (part_keep _ _) h)

-- ---- messages

abbrev Lie : Config → ℕ → List Message → Type 0
Lie c t box = Every (Sent c) box

pub sent_kept : {c : Config} {X : TockValue → Type 0} {l l' : Ledger} → Change c X l l' → ((t : ℕ) → Every (Sent c) (mailbox l t)) → (t : ℕ) → Every (Sent c) (mailbox l' t)
unfolding updates
sent_kept (alters t v a) h = h
sent_kept (restarts t v a) h = h
sent_kept (pends b w) h = h
sent_kept (finishes b u w) h = h
sent_kept (wakes b t e) h = h
sent_kept (waits t b n w e) h = h
sent_kept {c} (delivers t m s n) h = at_put_each (Lie c) _ t _ [] h (every_insert _ m _ s (h t))
sent_kept {c} (removes t v p) h = at_put_each (Lie c) _ t _ [] h (every_part p (h t))
sent_kept (puts_entry q e w f) h = h
sent_kept (takes_entry t q e es n k) h = h
sent_kept (starts_timer a b v n s k f) h = h
sent_kept (stops_timers v p) h = h
sent_kept (ticks n) h = h
sent_kept tocks h = h
