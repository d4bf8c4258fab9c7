-- Semaphores: wait, signal, and the wait that is withdrawn.
use Rattle.std.specs.Prelude.{ℕ, true, false, cond, List, [], ◌∷◌, map, eqb}
use Rattle.ledger.specs.Ledger.{Semaphore, PENDING, DONE, WAITING, semaphore, Ledger, semaphore_of, set_semaphores, set_semaphore, set_outcome, set_event_wait}

-- WAITING for t: t then has event wait
unfoldable pub wait_for : ℕ → ℕ → Ledger → Ledger
wait_for t b l = set_event_wait t true (set_semaphore b (WAITING t) l)

-- what a signal leaves, and the task that lost its event wait, or 0 if none did
pub record Signalled : Type 0 where
  pub ledger : Ledger
  pub woke : ℕ

-- WAITING becomes PENDING and its task loses event wait; otherwise DONE
unfoldable pub signalled : Semaphore → ℕ → Ledger → Signalled
signalled PENDING b l = record { ledger = set_semaphore b DONE l; woke = 0 }
signalled DONE b l = record { ledger = set_semaphore b DONE l; woke = 0 }
signalled (WAITING t) b l = record { ledger = set_event_wait t false (set_semaphore b PENDING l); woke = t }

unfoldable pub signal : ℕ → Ledger → Signalled
signal b l = signalled (semaphore_of l b) b l

-- one after the other, in the list's order
unfoldable pub signal_all : List ℕ → Ledger → Ledger
signal_all [] l = l
signal_all (b ∷ bs) l = signal_all bs (signal b l).ledger

-- the waiter, if there is one, is woken as by signal: a queue's semaphores are never DONE
unfoldable pub woken : Semaphore → ℕ → Ledger → Ledger
woken PENDING b l = l
woken DONE b l = l
woken (WAITING t) b l = (signal b l).ledger

unfoldable pub wake_waiter : ℕ → Ledger → Ledger
wake_waiter b l = woken (semaphore_of l b) b l

-- DONE becomes PENDING; PENDING becomes WAITING and self gets event wait. (WAITING is refused.) Outcome semaphore
unfoldable pub waited : Semaphore → ℕ → ℕ → Ledger → Ledger
waited PENDING self b l = wait_for self b l
waited DONE self b l = set_semaphore b PENDING l
waited (WAITING t) self b l = l

unfoldable pub wait : ℕ → ℕ → Ledger → Ledger
wait self b l = set_outcome self (semaphore b) (waited (semaphore_of l b) self b l)

-- a task's WAITING semaphore becomes PENDING
unfoldable pub not_waiting : ℕ → Semaphore → Semaphore
not_waiting t PENDING = PENDING
not_waiting t DONE = DONE
not_waiting t (WAITING u) = cond (eqb u t) PENDING (WAITING u)

unfoldable pub withdraw_wait : ℕ → Ledger → Ledger
withdraw_wait t l = set_semaphores (map (not_waiting t) l.semaphores) l
