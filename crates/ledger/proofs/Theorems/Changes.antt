-- The changes that a step is made of, each with what is known where it is made. A rule about the ledger is kept by every step if each of these keeps it.
use Rattle.std.specs.Prelude.{ℕ, suc, ◌+◌, ◌≤◌, ◌<◌, ◌≡◌, false, List, ◌∷◌, length}
use Rattle.ledger.specs.Lists.{insert_by}
use Rattle.ledger.specs.Config.{Config}
use Rattle.ledger.specs.Time.{TockValue}
use Rattle.ledger.specs.Ledger.{PENDING, DONE, WAITING, entry, Request, none, receive, dequeue, enqueue, Task, Message, Timer, Ledger, task, semaphore_of, mailbox, queue, held, set_task, set_semaphores, set_semaphore, set_mailbox, set_queue, set_timers, set_clock, set_blocks, set_outcome, set_slot, set_event_wait}
use Rattle.ledger.specs.Services.{wait_for, withdraw_wait, shape, full, take_entry, put_entry, insert_timer, start_timer}
use Rattle.ledger.specs.Refusals.{is_waiting, inamailbox}
use Rattle.ledger.specs.Good.{Numbered}
use Rattle.ledger.proofs.Theorems.Parts.{Part}
use Rattle.ledger.proofs.Theorems.Tocks.{renewed}

-- an open request names what exists; an enqueue's bytes have its queue's width
abbrev pub Asks : Config → Request → Type 0
Asks c none = Unit {0}
Asks c (receive a) = a ≤ c.T
Asks c (dequeue q) = Numbered c.Q q
Asks c (enqueue q e) = Numbered c.Q q × (length e ≡ (shape c q).width)

-- a task with another outcome, request or block, but for event wait: its slot stays, and no entry outcome is new
pub record Alike (c : Config) (t t' : Task) : Type 0 where
  pub slot : t'.slot ≡ t.slot
  pub event_wait : t'.blocks.event_wait ≡ t.blocks.event_wait
  pub outcome : (e : List ℕ) → t'.outcome ≡ entry e → t.outcome ≡ entry e
  pub request : Asks c t.request → Asks c t'.request

-- a task as terminate and execute leave it
pub record Restarted (t t' : Task) : Type 0 where
  pub slot : t'.slot ≡ t.slot
  pub outcome : (e : List ℕ) → t'.outcome ≡ entry e → ⊥
  pub request : t'.request ≡ none

pub record Sent (c : Config) (m : Message) : Type 0 where
  pub number : Numbered c.G m.number
  pub sender : Numbered c.T m.sender
  pub semaphore : Numbered (c.S + c.T) m.semaphore

-- X holds of the tock values of the frames
pub data Change (c : Config) (X : TockValue → Type 0) (l : Ledger) : Ledger → Type 0 where
  alters : (t : ℕ) (v : Task) → Alike c (task l t) v → Change c X l (set_task t v l)
  restarts : (t : ℕ) (v : Task) → Restarted (task l t) v → Change c X l (set_task t v (withdraw_wait t l))
  pends : (b : ℕ) → is_waiting (semaphore_of l b) ≡ false → Change c X l (set_semaphore b PENDING l)
  finishes : (b : ℕ) → b ≤ c.S + c.T → is_waiting (semaphore_of l b) ≡ false → Change c X l (set_semaphore b DONE l)
  wakes : (b t : ℕ) → semaphore_of l b ≡ WAITING t → Change c X l (set_event_wait t false (set_semaphore b PENDING l))
  waits : (t b : ℕ) → Numbered c.T t → (task l t).blocks.event_wait ≡ false → is_waiting (semaphore_of l b) ≡ false → Change c X l (wait_for t b l)
  delivers : (t : ℕ) (m : Message) → Sent c m → inamailbox l m.number ≡ false → Change c X l (set_mailbox t (insert_by (λ m. m.sender) m (mailbox l t)) l)
  removes : (t : ℕ) (v : List Message) → Part v (mailbox l t) → Change c X l (set_mailbox t v l)
  puts_entry : (q : ℕ) (e : List ℕ) → length e ≡ (shape c q).width → full c l q ≡ false → Change c X l (put_entry q e l)
  takes_entry : (t q : ℕ) (e : List ℕ) (es : List (List ℕ)) → Numbered c.Q q → held (queue l q) ≡ e ∷ es → Change c X l (take_entry c t q e l)
  starts_timer : (a b : ℕ) (v : TockValue) → Numbered c.T a → Numbered (c.S + c.T) b → X v → length l.timers < c.R → Change c X l (start_timer a b v l)
  stops_timers : (v : List Timer) → Part v l.timers → Change c X l (set_timers v l)
  ticks : suc l.ticks < c.K → Change c X l (set_clock l.N (suc l.ticks) l)
  tocks : Change c X l (set_timers (renewed (suc l.N) l.timers) (set_clock (suc l.N) 0 l))

infixl 20 ◌⨾◌
pub data Changes (c : Config) (X : TockValue → Type 0) (l : Ledger) : Ledger → Type 0 where
  start : Changes c X l l
  ◌⨾◌ : {m k : Ledger} → Changes c X l m → Change c X m k → Changes c X l k

-- a name for what the changes are made of: to unfold it is to unfold them
unfoldable pub updates : Ledger → Ledger
unfolding set_task set_semaphores set_semaphore set_mailbox set_queue set_timers set_clock set_blocks set_outcome set_slot set_event_wait wait_for withdraw_wait take_entry put_entry insert_timer start_timer task semaphore_of mailbox queue
updates l = l
