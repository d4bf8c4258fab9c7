-- What each accepted frame does to the ledger, by the five families of the codes. `self` is the running task; a and b are the task and the semaphore that A and B mean.
use Rattle.std.specs.Prelude.{ℕ, true, false, cond, List, [], ◌∷◌, eqb}
use Rattle.ledger.specs.Lists.{find}
use Rattle.ledger.specs.Config.{Config}
use Rattle.ledger.specs.Time.{tock_value, long_tock_value}
use Rattle.ledger.specs.Ledger.{PENDING, woke, Request, none, receive, dequeue, enqueue, Ledger, mailbox, queue, held, set_semaphore, set_outcome, set_suspended}
unfoldable pub use Rattle.ledger.specs.Services.Semaphores.{wait_for, signalled, signal, signal_all, woken, wake_waiter, waited, wait, not_waiting, withdraw_wait}
unfoldable pub use Rattle.ledger.specs.Services.Messages.{send, wanted, received, drop_messages}
unfoldable pub use Rattle.ledger.specs.Services.Queues.{not_empty, not_full, shape, empty, full, copy_into, take_entry, put_entry, dequeued, enqueued}
unfoldable pub use Rattle.ledger.specs.Services.Tasks.{terminate, execute}
unfoldable pub use Rattle.ledger.specs.Services.Timers.{insert_timer, start_timer, purge, insert_again, expire, expire_all, due, due_now, tock, tick}
pub mod Semaphores
pub mod Messages
pub mod Queues
pub mod Tasks
pub mod Timers

-- ---- a request, issued for task t: now, or again in settling

unfoldable pub issue : Config → ℕ → Request → Ledger → Ledger
issue c t none l = l
issue c t (receive a) l = received t a (find (wanted a) (mailbox l t)) l
issue c t (dequeue q) l = dequeued c t q (held (queue l q)) l
issue c t (enqueue q e) l = enqueued c t q e (full c l q) l

-- ---- the codes

pub data Code : Type 0 where
  WAIT SIGNAL PEND SEND SENDW RECEIVE DEQUEUE ENQUEUE RESUME SUSPEND TERMINATE EXECUTE DELAY TIMER PURGE TICK EXIT SEASON_TIMER : Code

-- $01 to $12, in order
abbrev pub codes : List Code
codes = WAIT ∷ SIGNAL ∷ PEND ∷ SEND ∷ SENDW ∷ RECEIVE ∷ DEQUEUE ∷ ENQUEUE ∷ RESUME ∷ SUSPEND ∷ TERMINATE ∷ EXECUTE ∷ DELAY ∷ TIMER ∷ PURGE ∷ TICK ∷ EXIT ∷ SEASON_TIMER ∷ []

unfoldable pub effect : Code → Config → (self a b x : ℕ) → List ℕ → Ledger → Ledger
effect WAIT c self a b x e l = wait self b l
effect SIGNAL c self a b x e l = let s = signal b l in set_outcome self (woke s.woke) s.ledger
effect PEND c self a b x e l = set_semaphore b PENDING l
effect SEND c self a b x e l = send self a b x l
effect SENDW c self a b x e l = wait_for self b (send self a b x l)
effect RECEIVE c self a b x e l = issue c self (receive a) l
effect DEQUEUE c self a b x e l = issue c self (dequeue a) l
effect ENQUEUE c self a b x e l = issue c self (enqueue a e) l
effect RESUME c self a b x e l = set_suspended a false l
effect SUSPEND c self a b x e l = set_suspended a true l
effect TERMINATE c self a b x e l = terminate a l
effect EXECUTE c self a b x e l = execute a l
effect DELAY c self a b x e l = wait_for a b (start_timer a b (tock_value x) l)
effect TIMER c self a b x e l = start_timer a b (tock_value x) l
effect PURGE c self a b x e l = purge a b x l
effect TICK c self a b x e l = tick c l
effect EXIT c self a b x e l = cond (eqb b 0) l (signal b l).ledger
effect SEASON_TIMER c self a b x e l = start_timer a b (long_tock_value x) l
