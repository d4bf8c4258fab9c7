-- Semaphores: a signal leaves PENDING or DONE, and settling touches a queue's semaphores alone.
use Rattle.std.specs.Prelude.{ℕ, ◌+◌, ◌≤◌, ◌≡◌, Bool}
use Rattle.std.proofs.Math.Path.{refl}
use Rattle.std.proofs.Common.{◌∙◌, ap, arith}
use Rattle.std.proofs.Math.Bool.{true, false}
use mathlib.Core.List.{List, [], ◌∷◌}
use Rattle.std.proofs.Math.Option.{Option, none as nothing, some}
use Rattle.ledger.specs.Lists.{at, put, find}
use Rattle.ledger.specs.Config.{Config}
use Rattle.ledger.specs.Ledger.{Semaphore, PENDING, DONE, WAITING, refused, Request, none, receive, dequeue, enqueue, Message, Ledger, semaphore_of, mailbox, queue, held, running, set_outcome, set_request, set_message_wait}
use Rattle.ledger.specs.Services.{signalled, signal, signal_all, woken, wake_waiter, wanted, not_empty, not_full, full, take_entry, put_entry, received, dequeued, enqueued, issue}
use Rattle.ledger.specs.Refusals.{is_waiting}
use Rattle.ledger.specs.Session.{Settles, stops, goes_on, open_request, refused21, issue_again, reissue}
use Rattle.ledger.specs.Good.{Numbered}
use Rattle.ledger.proofs.Theorems.Items.{at_put_other, at_put_each, put_here}
use Rattle.ledger.proofs.Theorems.Checks.{cond_both}
use Rattle.ledger.proofs.Theorems.Parts.{Every, nil, cons}
use Rattle.ledger.proofs.Theorems.Sizes.{of_reissue}
use Rattle.ledger.proofs.Theorems.Signals.{signals_keep, other_signal}
use Rattle.ledger.proofs.Theorems.Changes.{Asks, updates}
use Rattle.ledger.proofs.Theorems.Named.{Named}
use Rattle.ledger.proofs.Theorems.Steps.{reissues}
use Rattle.ledger.proofs.Theorems.Kept.{named_through}

-- ---- a semaphore that is WAITING for nobody

abbrev pub Unwaited : Ledger → ℕ → Type 0
Unwaited l b = is_waiting (semaphore_of l b) ≡ false

put_unwaited : (ss : List Semaphore) (d b : ℕ) (v : Semaphore) → is_waiting v ≡ false → is_waiting (at ss b PENDING) ≡ false → is_waiting (at (put ss d v) b PENDING) ≡ false
put_unwaited ss d b v e h = at_put_each (λ i x. is_waiting (at ss i PENDING) ≡ false → is_waiting x ≡ false) ss d v PENDING (λ i q. q) (λ q. e) b h

of_signalled : (s : Semaphore) (d b : ℕ) (l : Ledger) → Unwaited l b → Unwaited (signalled s d l).ledger b
unfolding updates signalled is_waiting
of_signalled PENDING d b l h = put_unwaited l.semaphores d b DONE refl h
of_signalled DONE d b l h = put_unwaited l.semaphores d b DONE refl h
of_signalled (WAITING t) d b l h = put_unwaited l.semaphores d b PENDING refl h

of_signal : (d b : ℕ) (l : Ledger) → Unwaited l b → Unwaited (signal d l).ledger b
unfolding signal
of_signal d b l h = of_signalled (semaphore_of l d) d b l h

of_signal_all : (ds : List ℕ) (b : ℕ) (l : Ledger) → Unwaited l b → Unwaited (signal_all ds l) b
of_signal_all ds b l h = signals_keep (λ m. Unwaited m b) (λ d m k. of_signal d b m k) ds l h

here_signalled : (s : Semaphore) (b : ℕ) (l : Ledger) → Unwaited (signalled s b l).ledger b
unfolding updates signalled is_waiting
here_signalled PENDING b l = put_here (λ x. is_waiting x ≡ false) l.semaphores b DONE PENDING refl refl
here_signalled DONE b l = put_here (λ x. is_waiting x ≡ false) l.semaphores b DONE PENDING refl refl
here_signalled (WAITING t) b l = put_here (λ x. is_waiting x ≡ false) l.semaphores b PENDING PENDING refl refl

here_signal : (b : ℕ) (l : Ledger) → Unwaited (signal b l).ledger b
unfolding signal
here_signal b l = here_signalled (semaphore_of l b) b l

-- those that were signalled
pub all_unwaited : (bs : List ℕ) (l : Ledger) → Every (Unwaited (signal_all bs l)) bs
unfolding signal_all
all_unwaited [] l = nil
all_unwaited (b ∷ bs) l = cons (of_signal_all bs b (signal b l).ledger (here_signal b l)) (all_unwaited bs (signal b l).ledger)

-- ---- settling

-- b is no queue's semaphore: it stays as it is
module _ (c : Config) (b : ℕ) (low : b ≤ c.S + c.T) where
  abbrev Stays : Ledger → Ledger → Type 0
  Stays l l' = semaphore_of l' b ≡ semaphore_of l b

  not_not_empty : (q : ℕ) → Numbered c.Q q → b ≡ not_empty c q → ⊥
  unfolding not_empty
  not_not_empty q n e = omega (arith, n.from)

  not_not_full : (q : ℕ) → Numbered c.Q q → b ≡ not_full c q → ⊥
  unfolding not_full
  not_not_full q n e = omega (arith, n.from)

  of_woken : (s : Semaphore) (d : ℕ) (l : Ledger) → (b ≡ d → ⊥) → Stays l (woken s d l)
  unfolding woken
  of_woken PENDING d l n = refl
  of_woken DONE d l n = refl
  of_woken (WAITING t) d l n = other_signal d b l n

  of_wake_waiter : (d : ℕ) (l : Ledger) → (b ≡ d → ⊥) → Stays l (wake_waiter d l)
  unfolding wake_waiter
  of_wake_waiter d l n = of_woken (semaphore_of l d) d l n

  received_on : (t a : ℕ) (o : Option Message) (l : Ledger) → Stays l (received t a o l)
  unfolding updates set_request set_message_wait received
  received_on t a nothing l = refl
  received_on t a (some m) l = refl

  dequeued_on : (t q : ℕ) (es : List (List ℕ)) (l : Ledger) → Numbered c.Q q → Stays l (dequeued c t q es l)
  unfolding updates set_request dequeued
  dequeued_on t q [] l n = at_put_other l.semaphores (not_empty c q) b (WAITING t) PENDING (not_not_empty q n)
  dequeued_on t q (e ∷ es) l n = of_wake_waiter (not_full c q) (take_entry c t q e l) (not_not_full q n)

  enqueued_on : (t q : ℕ) (e : List ℕ) (f : Bool) (l : Ledger) → Numbered c.Q q → Stays l (enqueued c t q e f l)
  unfolding updates set_request enqueued
  enqueued_on t q e true l n = at_put_other l.semaphores (not_full c q) b (WAITING t) PENDING (not_not_full q n)
  enqueued_on t q e false l n = of_wake_waiter (not_empty c q) (put_entry q e l) (not_not_empty q n)

  issue_on : (t : ℕ) (r : Request) (l : Ledger) → Asks c r → Stays l (issue c t r l)
  unfolding issue
  issue_on t none l a = refl
  issue_on t (receive f) l a = received_on t f (find (wanted f) (mailbox l t)) l
  issue_on t (dequeue q) l a = dequeued_on t q (held (queue l q)) l a
  issue_on t (enqueue q e) l a = enqueued_on t q e (full c l q) l a.0

  reissue_on : (l : Ledger) → Named c l → Stays l (reissue c l)
  unfolding updates set_request reissue issue_again open_request
  reissue_on l n =
      let m = set_request (running l) none l in
      cond_both (Stays l) (refused21 c (open_request l) m) (set_outcome (running l) (refused 21) m) (issue c (running l) (open_request l) m) refl (issue_on (running l) (open_request l) m (n.requests (running l)))

  pub semaphore_on : {l l' : Ledger} {n : ℕ} → Settles c l n l' → Named c l → Stays l l'
  semaphore_on (stops e) n = refl
  semaphore_on {l} (goes_on o s) n = semaphore_on s (named_through (reissues c (λ v. Unit {0}) l n o) (of_reissue c l) n) ∙ reissue_on l n

  pub unwaited_on : {l l' : Ledger} {n : ℕ} → Settles c l n l' → Named c l → Unwaited l b → Unwaited l' b
  unwaited_on s n h = ap is_waiting (semaphore_on s n) ∙ h
