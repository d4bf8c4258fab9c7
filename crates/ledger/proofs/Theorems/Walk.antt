-- What a frame does to one task, read backwards: what holds of it afterwards held before, if it is a matter of being idle and of the outcome `woke` alone.
-- For only terminate makes a task idle, only execute ends that, and only a signal request sets `woke`. Callers and Starts are two instances.
use Prim.Native.Nat.{ℕ, zero, suc, ◌*◌}
use Rattle.std.specs.Prelude.{◌≡◌, Bool, eqb, ltb}
use Rattle.std.proofs.Math.Path.{refl}
use Rattle.std.proofs.Math.Bool.{true, false}
use mathlib.Core.List.{List, [], ◌∷◌}
use Rattle.std.proofs.Math.Option.{Option, none as nothing, some}
use Rattle.std.proofs.Common.{eqb-true}
use Rattle.ledger.specs.Lists.{at, put, byte, find}
use Rattle.ledger.specs.Config.{Config}
use Rattle.ledger.specs.Ledger.{Semaphore, PENDING, DONE, WAITING, Outcome, plain, begin, message, entry, refused, semaphore, woke, Request, none, receive, dequeue, enqueue, Task, Message, Timer, Ledger, null_task, task, semaphore_of, mailbox, queue, held, running, set_outcome, set_request, set_suspended, set_message_wait}
use Rattle.ledger.specs.Services.{signalled, signal, signal_all, woken, wake_waiter, waited, wait, send, wanted, not_empty, not_full, full, take_entry, put_entry, received, drop_messages, dequeued, enqueued, issue, terminate, execute, purge, insert_again, expire, expire_all, tock, tick, Code, WAIT, SIGNAL, PEND, SEND, SENDW, RECEIVE, DEQUEUE, ENQUEUE, RESUME, SUSPEND, TERMINATE, EXECUTE, DELAY, TIMER, PURGE, TICK, EXIT, SEASON_TIMER, effect}
use Rattle.ledger.specs.Refusals.{fields, code_at, call, refusal}
use Rattle.ledger.specs.Session.{open_request, is_open, refused21, issue_again, reissue, settle, accept, step}
use Rattle.ledger.proofs.Theorems.Items.{at_put_each}
use Rattle.ledger.proofs.Theorems.Checks.{cond_both}
use Rattle.ledger.proofs.Theorems.Signals.{signals_keep}
use Rattle.ledger.proofs.Theorems.Changes.{updates}

abbrev pub is_woke : Outcome → Bool
is_woke plain = false
is_woke begin = false
is_woke (message m s b) = false
is_woke (entry e) = false
is_woke (refused n) = false
is_woke (semaphore b) = false
is_woke (woke t) = true

-- what is asked of P: another record with the same idle block, and the same outcome or one that is not `woke`; and one as terminate leaves it
pub record Bears (P : Task → Type 0) : Type 0 where
  pub same : (k v : Task) → v.blocks.idle ≡ k.blocks.idle → v.outcome ≡ k.outcome → P v → P k
  pub set : (k v : Task) → v.blocks.idle ≡ k.blocks.idle → is_woke v.outcome ≡ false → P v → P k
  pub ended : (k v : Task) → v.blocks.idle ≡ true → is_woke v.outcome ≡ false → P v → P k

module _ (u : ℕ) (P : Task → Type 0) where
  abbrev pub Of : List Task → Type 0
  Of ts = P (at ts u null_task)

  -- what is asked of a signal request's caller, and of an executed task
  abbrev pub Tells : ℕ → Type 0
  Tells self = (v : Task) (ts : List Task) → v.blocks.idle ≡ (at ts self null_task).blocks.idle → Of (put ts self v) → Of ts

  abbrev pub Begins : ℕ → Type 0
  Begins a = (v : Task) (ts : List Task) → is_woke v.outcome ≡ false → Of (put ts a v) → Of ts

  -- a task's record changes
  pub changes : (n : ℕ) (v : Task) (ts : List Task) → (P v → P (at ts n null_task)) → Of (put ts n v) → Of ts
  changes n v ts p = at_put_each (λ i k. P k → P (at ts i null_task)) ts n v null_task (λ i h. h) p u

module _ (u : ℕ) (P : Task → Type 0) (bears : Bears P) where
  keeps : (n : ℕ) (v : Task) (ts : List Task) → v.blocks.idle ≡ (at ts n null_task).blocks.idle → v.outcome ≡ (at ts n null_task).outcome → Of u P (put ts n v) → Of u P ts
  keeps n v ts i o = changes u P n v ts (bears.same (at ts n null_task) v i o)

  sets : (n : ℕ) (v : Task) (ts : List Task) → v.blocks.idle ≡ (at ts n null_task).blocks.idle → is_woke v.outcome ≡ false → Of u P (put ts n v) → Of u P ts
  sets n v ts i o = changes u P n v ts (bears.set (at ts n null_task) v i o)

  terminates : (n : ℕ) (v : Task) (ts : List Task) → v.blocks.idle ≡ true → is_woke v.outcome ≡ false → Of u P (put ts n v) → Of u P ts
  terminates n v ts i o = changes u P n v ts (bears.ended (at ts n null_task) v i o)

  -- ---- the services

  of_signalled : (s : Semaphore) (b : ℕ) (l : Ledger) → Of u P (signalled s b l).ledger.tasks → Of u P l.tasks
  unfolding updates signalled
  of_signalled PENDING b l h = h
  of_signalled DONE b l h = h
  of_signalled (WAITING w) b l h = keeps w _ _ refl refl h

  of_signal : (b : ℕ) (l : Ledger) → Of u P (signal b l).ledger.tasks → Of u P l.tasks
  unfolding signal
  of_signal b l h = of_signalled (semaphore_of l b) b l h

  of_signal_all : (bs : List ℕ) (l : Ledger) → Of u P (signal_all bs l).tasks → Of u P l.tasks
  of_signal_all bs l = signals_keep (λ m. Of u P m.tasks → Of u P l.tasks) (λ b m k h. k (of_signal b m h)) bs l (λ h. h)

  of_woken : (s : Semaphore) (b : ℕ) (l : Ledger) → Of u P (woken s b l).tasks → Of u P l.tasks
  unfolding woken
  of_woken PENDING b l h = h
  of_woken DONE b l h = h
  of_woken (WAITING w) b l h = of_signal b l h

  of_wake_waiter : (b : ℕ) (l : Ledger) → Of u P (wake_waiter b l).tasks → Of u P l.tasks
  unfolding wake_waiter
  of_wake_waiter b l h = of_woken (semaphore_of l b) b l h

  of_waited : (s : Semaphore) (n b : ℕ) (l : Ledger) → Of u P (waited s n b l).tasks → Of u P l.tasks
  unfolding updates waited
  of_waited PENDING n b l h = keeps n _ _ refl refl h
  of_waited DONE n b l h = h
  of_waited (WAITING w) n b l h = h

  of_send : (n a b x : ℕ) (l : Ledger) → Of u P (send n a b x l).tasks → Of u P l.tasks
  unfolding updates set_message_wait send
  of_send n a b x l h = keeps a _ _ refl refl (sets n _ _ refl refl h)

  of_received : (n a : ℕ) (o : Option Message) (l : Ledger) → Of u P (received n a o l).tasks → Of u P l.tasks
  unfolding updates set_message_wait set_request received
  of_received n a nothing l h = keeps n _ _ refl refl (keeps n _ _ refl refl h)
  of_received n a (some m) l h = sets n _ _ refl refl h

  of_dequeued : (c : Config) (n q : ℕ) (es : List (List ℕ)) (l : Ledger) → Of u P (dequeued c n q es l).tasks → Of u P l.tasks
  unfolding updates set_request dequeued
  of_dequeued c n q [] l h = keeps n _ _ refl refl (keeps n _ _ refl refl h)
  of_dequeued c n q (e ∷ es) l h = keeps n _ _ refl refl (sets n _ _ refl refl (of_wake_waiter (not_full c q) (take_entry c n q e l) h))

  of_enqueued : (c : Config) (n q : ℕ) (e : List ℕ) (b : Bool) (l : Ledger) → Of u P (enqueued c n q e b l).tasks → Of u P l.tasks
  unfolding updates set_request enqueued
  of_enqueued c n q e true l h = keeps n _ _ refl refl (keeps n _ _ refl refl h)
  of_enqueued c n q e false l h = of_wake_waiter (not_empty c q) (put_entry q e l) h

  of_issue : (c : Config) (n : ℕ) (r : Request) (l : Ledger) → Of u P (issue c n r l).tasks → Of u P l.tasks
  unfolding issue
  of_issue c n none l h = h
  of_issue c n (receive a) l h = of_received n a (find (wanted a) (mailbox l n)) l h
  of_issue c n (dequeue q) l h = of_dequeued c n q (held (queue l q)) l h
  of_issue c n (enqueue q e) l h = of_enqueued c n q e (full c l q) l h

  -- ---- the tick

  of_again : (m : Timer) (l : Ledger) → Of u P (insert_again m l).tasks → Of u P l.tasks
  unfolding updates insert_again
  of_again m l h = cond_both (λ m. Of u P m.tasks → Of u P l.tasks) (eqb m.period 0) l _ (λ h. h) (λ h. h) h

  of_expire_all : (ms : List Timer) (l : Ledger) → Of u P (expire_all ms l).tasks → Of u P l.tasks
  unfolding expire_all expire
  of_expire_all [] l h = h
  of_expire_all (m ∷ ms) l h = of_again m l (of_signal m.semaphore (insert_again m l) (of_expire_all ms (expire m l) h))

  of_tick : (c : Config) (l : Ledger) → Of u P (tick c l).tasks → Of u P l.tasks
  unfolding updates tick tock
  of_tick c l h = cond_both (λ (m : Ledger). Of u P m.tasks → Of u P l.tasks) (ltb (suc l.ticks) c.K) _ _ (λ h. h) (of_expire_all _ _) h

  -- ---- a frame

  of_effect : (k : Code) (c : Config) (self a b x : ℕ) (e : List ℕ) (l : Ledger) → (k ≡ SIGNAL → Tells u P self) → (k ≡ EXECUTE → Begins u P a) → Of u P (effect k c self a b x e l).tasks → Of u P l.tasks
  unfolding updates set_suspended effect wait drop_messages terminate execute purge
  of_effect WAIT c self a b x e l tells begins h = of_waited (semaphore_of l b) self b l (sets self _ _ refl refl h)
  of_effect SIGNAL c self a b x e l tells begins h = of_signal b l (tells refl _ _ refl h)
  of_effect PEND c self a b x e l tells begins h = h
  of_effect SEND c self a b x e l tells begins h = of_send self a b x l h
  of_effect SENDW c self a b x e l tells begins h = of_send self a b x l (keeps self _ _ refl refl h)
  of_effect RECEIVE c self a b x e l tells begins h = of_issue c self (receive a) l h
  of_effect DEQUEUE c self a b x e l tells begins h = of_issue c self (dequeue a) l h
  of_effect ENQUEUE c self a b x e l tells begins h = of_issue c self (enqueue a e) l h
  of_effect RESUME c self a b x e l tells begins h = keeps a _ _ refl refl h
  of_effect SUSPEND c self a b x e l tells begins h = keeps a _ _ refl refl h
  of_effect TERMINATE c self a b x e l tells begins h = of_signal_all _ _ (terminates a _ _ refl refl h)
  of_effect EXECUTE c self a b x e l tells begins h = begins refl _ _ refl h
  of_effect DELAY c self a b x e l tells begins h = keeps a _ _ refl refl h
  of_effect TIMER c self a b x e l tells begins h = h
  of_effect PURGE c self a b x e l tells begins h = h
  of_effect TICK c self a b x e l tells begins h = of_tick c l h
  of_effect EXIT c self a b x e l tells begins h = cond_both (λ m. Of u P m.tasks → Of u P l.tasks) (eqb b 0) l (signal b l).ledger (λ h. h) (of_signal b l) h
  of_effect SEASON_TIMER c self a b x e l tells begins h = h

  of_accept : (c : Config) (f : List ℕ) (l : Ledger) → (code_at (byte 0 f) ≡ SIGNAL → Tells u P (running l)) → (code_at (byte 0 f) ≡ EXECUTE → Begins u P (call c (running l) f).a)
      → Of u P (accept c f l).tasks → Of u P l.tasks
  unfolding updates accept call
  of_accept c f l tells begins h =
      let k = call c (running l) f in
      cond_both (λ m. Of u P m.tasks → Of u P l.tasks) (fields k.code).service (set_outcome k.self plain l) l (sets k.self _ _ refl refl) (λ h. h)
      (of_effect k.code c k.self k.a k.b k.x k.bytes _ tells begins h)

  of_reissue : (c : Config) (l : Ledger) → Of u P (reissue c l).tasks → Of u P l.tasks
  unfolding updates set_request reissue issue_again
  of_reissue c l h =
      let m = set_request (running l) none l in
      keeps (running l) _ _ refl refl
      (cond_both (λ k. Of u P k.tasks → Of u P m.tasks) (refused21 c (open_request l) m) (set_outcome (running l) (refused 21) m) (issue c (running l) (open_request l) m)
      (sets (running l) _ _ refl refl) (of_issue c (running l) (open_request l) m) h)

  of_settle : (k : ℕ) (c : Config) (l : Ledger) → Of u P (settle k c l).ledger.tasks → Of u P l.tasks
  unfolding settle
  of_settle zero c l h = h
  of_settle (suc k) c l h = go (is_open (open_request l)) refl (λ h. of_reissue c l (of_settle k c (reissue c l) h))
    where
      go : (b : Bool) → is_open (open_request l) ≡ b → (Of u P (settle k c (reissue c l)).ledger.tasks → Of u P l.tasks) → Of u P l.tasks
      go false e ih = rw (e, settle) at h
      go true e ih = ih (rw (e, settle) at h)

-- for every ledger and every frame
pub walks : (u : ℕ) (P : Task → Type 0) → Bears P → (c : Config) (f : List ℕ) (l : Ledger)
    → (code_at (byte 0 f) ≡ SIGNAL → Tells u P (running l)) → (refusal c l f ≡ 0 → code_at (byte 0 f) ≡ EXECUTE → Begins u P (call c (running l) f).a)
    → P (task (step c f l).ledger u) → P (task l u)
unfolding step task
walks u P bears c f l tells begins h = go (eqb (refusal c l f) 0) refl
  where
    go : (b : Bool) → eqb (refusal c l f) 0 ≡ b → P (task l u)
    go true e = of_accept u P bears c f l tells (begins (eqb-true (refusal c l f) 0 e)) (of_settle u P bears (2 * c.T) c (accept c f l) (rw e at h))
    go false e = rw e at h
