-- Tasks: a signal takes event wait from the task that the semaphore is WAITING for, and no signal gives it back; nor does settling, to a task without an open request.
use Rattle.std.specs.Prelude.{ℕ, ◌≡◌, refl, Bool, eqb}
use Rattle.std.proofs.Common.{sym, ◌∙◌, ap, subst, arith, eqb-true}
use Rattle.std.proofs.Math.Bool.{true, false}
use mathlib.Core.List.{List, [], ◌∷◌}
use Rattle.std.proofs.Math.Option.{Option, none as nothing, some}
use Rattle.std.proofs.lemmas.Bool.{eqb-false}
use Rattle.ledger.specs.Lists.{at, put, find}
use Rattle.ledger.specs.Config.{Config}
use Rattle.ledger.specs.Ledger.{Semaphore, PENDING, DONE, WAITING, refused, Request, none, receive, dequeue, enqueue, Task, Message, Ledger, null_task, task, semaphore_of, mailbox, queue, held, running, set_outcome, set_request, set_message_wait}
use Rattle.ledger.specs.Services.{signalled, signal, signal_all, woken, wake_waiter, wanted, not_empty, not_full, full, take_entry, put_entry, received, dequeued, enqueued, issue}
use Rattle.ledger.specs.Session.{Settles, stops, goes_on, open_request, is_open, refused21, issue_again, reissue}
use Rattle.ledger.proofs.Theorems.Items.{at_put_other, at_put_each, put_here}
use Rattle.ledger.proofs.Theorems.Checks.{cond_both}
use Rattle.ledger.proofs.Theorems.Parts.{Every, nil, cons, every_to}
use Rattle.ledger.proofs.Theorems.Signals.{signals_keep, other_signal}
use Rattle.ledger.proofs.Theorems.Changes.{updates}
use Rattle.ledger.proofs.Theorems.Terminated.{without_event_wait}
use Rattle.ledger.proofs.Theorems.Told.{waits}

-- ---- task t, where others change and it may lose its event wait

module _ (t : ℕ) (P : Task → Type 0) (wake : (k : Task) → P k → P (without_event_wait k)) where
  of_signalled : (s : Semaphore) (b : ℕ) (l : Ledger) → P (task l t) → P (task (signalled s b l).ledger t)
  unfolding updates signalled
  of_signalled PENDING b l p = p
  of_signalled DONE b l p = p
  of_signalled (WAITING u) b l p = at_put_each (λ i k. P (at l.tasks i null_task) → P k) l.tasks u _ null_task (λ i q. q) (wake _) t p

  of_signal : (b : ℕ) (l : Ledger) → P (task l t) → P (task (signal b l).ledger t)
  unfolding signal
  of_signal b l p = of_signalled (semaphore_of l b) b l p

  pub of_signal_all : (bs : List ℕ) (l : Ledger) → P (task l t) → P (task (signal_all bs l) t)
  of_signal_all = signals_keep (λ m. P (task m t)) of_signal

  of_woken : (s : Semaphore) (b : ℕ) (l : Ledger) → P (task l t) → P (task (woken s b l) t)
  unfolding woken
  of_woken PENDING b l p = p
  of_woken DONE b l p = p
  of_woken (WAITING u) b l p = of_signal b l p

  of_wake_waiter : (b : ℕ) (l : Ledger) → P (task l t) → P (task (wake_waiter b l) t)
  unfolding wake_waiter
  of_wake_waiter b l p = of_woken (semaphore_of l b) b l p

  -- an issue for another task n
  module _ (n : ℕ) (other : t ≡ n → ⊥) where
    beside : (ts : List Task) (v : Task) → P (at ts t null_task) → P (at (put ts n v) t null_task)
    beside ts v p = subst P (sym (at_put_other ts n t v null_task other)) p

    of_received : (a : ℕ) (o : Option Message) (l : Ledger) → P (task l t) → P (task (received n a o l) t)
    unfolding updates set_request set_message_wait received
    of_received a nothing l p = beside _ _ (beside _ _ p)
    of_received a (some m) l p = beside _ _ p

    of_dequeued : (c : Config) (q : ℕ) (es : List (List ℕ)) (l : Ledger) → P (task l t) → P (task (dequeued c n q es l) t)
    unfolding updates set_request dequeued
    of_dequeued c q [] l p = beside _ _ (beside _ _ p)
    of_dequeued c q (e ∷ es) l p = of_wake_waiter (not_full c q) (take_entry c n q e l) (beside _ _ (beside _ _ p))

    of_enqueued : (c : Config) (q : ℕ) (e : List ℕ) (b : Bool) (l : Ledger) → P (task l t) → P (task (enqueued c n q e b l) t)
    unfolding updates set_request enqueued
    of_enqueued c q e true l p = beside _ _ (beside _ _ p)
    of_enqueued c q e false l p = of_wake_waiter (not_empty c q) (put_entry q e l) p

    of_issue : (c : Config) (r : Request) (l : Ledger) → P (task l t) → P (task (issue c n r l) t)
    unfolding issue
    of_issue c none l p = p
    of_issue c (receive a) l p = of_received a (find (wanted a) (mailbox l n)) l p
    of_issue c (dequeue q) l p = of_dequeued c q (held (queue l q)) l p
    of_issue c (enqueue q e) l p = of_enqueued c q e (full c l q) l p

  of_reissue : (c : Config) (l : Ledger) → (t ≡ running l → ⊥) → P (task l t) → P (task (reissue c l) t)
  unfolding updates set_request reissue issue_again
  of_reissue c l other p =
      let m = set_request (running l) none l in
      let q : P (task m t) = beside (running l) other _ _ p in
      cond_both (λ k. P (task k t)) (refused21 c (open_request l) m) (set_outcome (running l) (refused 21) m) (issue c (running l) (open_request l) m)
      (beside (running l) other _ _ q) (of_issue (running l) other c (open_request l) m q)

-- ---- settling

-- a task that neither waits for a semaphore nor has an open request
pub record Rests (k : Task) : Type 0 where
  pub closed : is_open k.request ≡ false
  pub unblocked : k.blocks.event_wait ≡ false

pub rests_on : {c : Config} {l l' : Ledger} {n : ℕ} → Settles c l n l' → (t : ℕ) → Rests (task l t) → Rests (task l' t)
unfolding open_request
rests_on (stops e) t r = r
rests_on {c} {l} (goes_on o s) t r =
    let other : t ≡ running l → ⊥ = λ e. let y : ◌≡◌ {A = ℕ} 0 1 = cc r.closed in omega arith in
    rests_on s t (of_reissue t Rests (λ k p. record { closed = p.closed; unblocked = refl }) c l other r)

-- ---- signals

woken_now : (b t : ℕ) (l : Ledger) → waits (signalled (WAITING t) b l).ledger t ≡ false
unfolding updates signalled
woken_now b t l = put_here (λ k. k.blocks.event_wait ≡ false) l.tasks t _ null_task refl refl

wakes : (b t : ℕ) (l : Ledger) → semaphore_of l b ≡ WAITING t → waits (signal b l).ledger t ≡ false
unfolding signal
wakes b t l e = subst (λ s. waits (signalled s b l).ledger t ≡ false) (sym e) (woken_now b t l)

-- the task that semaphore b was WAITING for has no event wait once all of bs are signalled
abbrev pub Woken : List ℕ → Ledger → ℕ → Type 0
Woken bs l b = (t : ℕ) → semaphore_of l b ≡ WAITING t → waits (signal_all bs l) t ≡ false

pub all_woken : (bs : List ℕ) (l : Ledger) → Every (Woken bs l) bs
unfolding signal_all
all_woken [] l = nil
all_woken (b ∷ bs) l = cons first (every_to rest (all_woken bs (signal b l).ledger))
  where
    first : Woken (b ∷ bs) l b
    first t e = of_signal_all t (λ k. k.blocks.event_wait ≡ false) (λ k p. refl) bs (signal b l).ledger (wakes b t l e)

    rest : (d : ℕ) → Woken bs (signal b l).ledger d → Woken (b ∷ bs) l d
    rest d h t e = go (eqb d b) refl
      where
        go : (q : Bool) → eqb d b ≡ q → waits (signal_all bs (signal b l).ledger) t ≡ false
        go true q = first t (ap (semaphore_of l) (sym (eqb-true d b q)) ∙ e)
        go false q = h t (other_signal b d l (eqb-false d b q) ∙ e)
