-- Terminate sets the task's record last. It may as well be set before the messages are dropped: a signal leaves a record without event wait as it is.
use Rattle.std.specs.Prelude.{ℕ, ◌≡◌, not, false, [], map, eqb}
use Rattle.std.proofs.Math.Path.{refl, ap}
use Rattle.std.proofs.Common.{sym}
use Rattle.ledger.specs.Lists.{keep}
use Rattle.ledger.specs.Ledger.{Semaphore, PENDING, DONE, WAITING, plain, none, Task, Ledger, only_idle, null_task, task, semaphore_of, mailbox, set_task, set_semaphores, set_semaphore, set_mailbox, set_timers, set_blocks, set_event_wait}
use Rattle.ledger.specs.Services.{signalled, signal, withdraw_wait, drop_messages, terminate}
use Rattle.ledger.proofs.Theorems.Items.{put_fixed}
use Rattle.ledger.proofs.Theorems.Signals.{signals_commute}

-- a task that lost its event wait, as a signal leaves it
abbrev pub without_event_wait : Task → Task
without_event_wait t = record { blocks = record { idle = t.blocks.idle; suspended = t.blocks.suspended; event_wait = false; message_wait = t.blocks.message_wait }; outcome = t.outcome; slot = t.slot; request = t.request }

module _ (a : ℕ) (v : Task) (e : without_event_wait v ≡ v) where
  signalled_set : (s : Semaphore) (b : ℕ) (l : Ledger) → (signalled s b (set_task a v l)).ledger ≡ set_task a v (signalled s b l).ledger
  unfolding signalled set_semaphore set_semaphores set_event_wait set_blocks set_task task
  signalled_set PENDING b l = refl
  signalled_set DONE b l = refl
  signalled_set (WAITING t) b l =
      ap (λ ts. record { N = l.N; ticks = l.ticks; tasks = ts; semaphores = (set_semaphore b PENDING l).semaphores; mailboxes = l.mailboxes; queues = l.queues; timers = l.timers })
      (put_fixed without_event_wait l.tasks a t v null_task e)

  signal_set : (b : ℕ) (l : Ledger) → (signal b (set_task a v l)).ledger ≡ set_task a v (signal b l).ledger
  unfolding signal semaphore_of set_task
  signal_set b l = signalled_set (semaphore_of l b) b l

-- the record that terminate leaves
abbrev pub ended : Task → Task
ended t = record { blocks = only_idle; outcome = plain; slot = t.slot; request = none }

-- the ledger whose messages terminate then drops: the task's wait withdrawn, its timers removed
abbrev pub withdrawn : ℕ → Ledger → Ledger
withdrawn a l = set_timers (keep (λ t. not (eqb t.task a)) l.timers) (withdraw_wait a l)

pub terminate_is : (a : ℕ) (l : Ledger) → terminate a l ≡ drop_messages a (set_task a (ended (task l a)) (withdrawn a l))
unfolding terminate drop_messages set_timers set_mailbox set_task mailbox withdraw_wait set_semaphores
terminate_is a l = ap (set_mailbox a []) (sym (signals_commute (set_task a (ended (task l a))) (signal_set a (ended (task l a)) refl) (map (λ m. m.semaphore) (mailbox l a)) (withdrawn a l)))
