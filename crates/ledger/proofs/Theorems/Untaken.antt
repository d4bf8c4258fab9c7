-- A slot, and what a queue handed out, change by a dequeue that completes and by nothing else. What only wakes tasks or lets them wait changes of a task only its blocks.
use Rattle.std.specs.Prelude.{ℕ, suc, ◌≡◌, refl, ◌⊎◌, Bool, true, false, List, [], ◌∷◌, ltb, eqb}
use Rattle.std.proofs.Common.{sym, ◌∙◌, ap, inl, inr}
use Rattle.std.proofs.Math.Path.{fun_ext}
use Rattle.std.proofs.Math.Option.{Option, none as nothing, some}
use Rattle.ledger.specs.Config.{Config}
use Rattle.ledger.specs.Ledger.{Semaphore, PENDING, DONE, WAITING, Outcome, Request, Task, Message, Timer, Ledger, null_task, empty_queue, task, semaphore_of, queue, set_task, set_semaphores, set_semaphore, set_mailbox, set_timers, set_clock, set_blocks, set_outcome, set_request, set_suspended, set_event_wait, set_message_wait}
use Rattle.ledger.specs.Services.{wait_for, signalled, signal, signal_all, woken, wake_waiter, waited, wait, withdraw_wait, send, not_empty, not_full, put_entry, received, drop_messages, enqueued, issue, terminate, execute, insert_timer, start_timer, purge, insert_again, expire, expire_all, tock, tick, Code, WAIT, SIGNAL, PEND, SEND, SENDW, RECEIVE, DEQUEUE, ENQUEUE, RESUME, SUSPEND, TERMINATE, EXECUTE, DELAY, TIMER, PURGE, TICK, EXIT, SEASON_TIMER, effect}
use Rattle.ledger.proofs.Theorems.Items.{at_put_part}
use Rattle.ledger.proofs.Theorems.Checks.{cond_both}
use Rattle.ledger.proofs.Theorems.Signals.{signals_keep}
use Rattle.ledger.proofs.Theorems.Changes.{updates}

-- a task beside its blocks
pub record Beside : Type 0 where
  pub outcome : Outcome
  pub slot : List ℕ
  pub request : Request

abbrev pub beside : Task → Beside
beside t = record { outcome = t.outcome; slot = t.slot; request = t.request }

-- every task beside its blocks, and what every queue handed out
pub record View : Type 0 where
  pub tasks : ℕ → Beside
  pub handed : ℕ → List (List ℕ)

unfoldable pub view : Ledger → View
view l = record { tasks = λ t. beside (task l t); handed = λ q. (queue l q).handed_out }

-- of the tasks the slots alone
pub record Slots : Type 0 where
  pub slot : ℕ → List ℕ
  pub handed : ℕ → List (List ℕ)

abbrev pub slots_of : View → Slots
slots_of v = record { slot = λ t. (v.tasks t).slot; handed = v.handed }

abbrev pub slots : Ledger → Slots
slots l = slots_of (view l)

-- ---- what changes neither a task beside its blocks nor what a queue handed out

of_blocks : (n : ℕ) (v : Task) (l : Ledger) → beside v ≡ beside (task l n) → view (set_task n v l) ≡ view l
unfolding view updates
of_blocks n v l e = ap (λ (f : ℕ → Beside). record { tasks = f; handed = λ q. (queue l q).handed_out }) (fun_ext (λ t. at_put_part beside l.tasks n t v null_task e))

of_suspended : (n : ℕ) (b : Bool) (l : Ledger) → view (set_suspended n b l) ≡ view l
unfolding set_suspended set_blocks
of_suspended n b l = of_blocks n _ l refl

of_event : (n : ℕ) (b : Bool) (l : Ledger) → view (set_event_wait n b l) ≡ view l
unfolding set_event_wait set_blocks
of_event n b l = of_blocks n _ l refl

of_message : (n : ℕ) (b : Bool) (l : Ledger) → view (set_message_wait n b l) ≡ view l
unfolding set_message_wait set_blocks
of_message n b l = of_blocks n _ l refl

of_semaphores : (v : List Semaphore) (l : Ledger) → view (set_semaphores v l) ≡ view l
unfolding view updates
of_semaphores v l = refl

of_mailbox : (n : ℕ) (v : List Message) (l : Ledger) → view (set_mailbox n v l) ≡ view l
unfolding view updates
of_mailbox n v l = refl

of_timers : (v : List Timer) (l : Ledger) → view (set_timers v l) ≡ view l
unfolding view updates
of_timers v l = refl

of_clock : (n k : ℕ) (l : Ledger) → view (set_clock n k l) ≡ view l
unfolding view updates
of_clock n k l = refl

pub of_put : (q : ℕ) (e : List ℕ) (l : Ledger) → view (put_entry q e l) ≡ view l
unfolding view updates
of_put q e l = ap (λ (f : ℕ → List (List ℕ)). record { tasks = λ t. beside (task l t); handed = f }) (fun_ext (λ p. at_put_part (λ k. k.handed_out) l.queues q p _ empty_queue refl))

ruleset items = (of_suspended, of_event, of_message, of_semaphores, of_mailbox, of_timers, of_clock, of_put)

pub of_wait_for : (t b : ℕ) (l : Ledger) → view (wait_for t b l) ≡ view l
unfolding wait_for set_semaphore
of_wait_for t b l = simp items

of_signalled : (s : Semaphore) (b : ℕ) (l : Ledger) → view (signalled s b l).ledger ≡ view l
unfolding signalled set_semaphore
of_signalled PENDING b l = simp items
of_signalled DONE b l = simp items
of_signalled (WAITING t) b l = simp items

of_signal : (b : ℕ) (l : Ledger) → view (signal b l).ledger ≡ view l
unfolding signal
of_signal b l = of_signalled (semaphore_of l b) b l

of_signal_all : (bs : List ℕ) (l : Ledger) → view (signal_all bs l) ≡ view l
of_signal_all bs l = signals_keep (λ m. view m ≡ view l) (λ b m e. of_signal b m ∙ e) bs l refl

pub of_drop : (t : ℕ) (l : Ledger) → view (drop_messages t l) ≡ view l
unfolding drop_messages
of_drop t l = of_mailbox t _ _ ∙ of_signal_all _ l

of_woken : (s : Semaphore) (b : ℕ) (l : Ledger) → view (woken s b l) ≡ view l
unfolding woken
of_woken PENDING b l = refl
of_woken DONE b l = refl
of_woken (WAITING t) b l = of_signal b l

pub of_wake_waiter : (b : ℕ) (l : Ledger) → view (wake_waiter b l) ≡ view l
unfolding wake_waiter
of_wake_waiter b l = of_woken (semaphore_of l b) b l

of_waited : (s : Semaphore) (t b : ℕ) (l : Ledger) → view (waited s t b l) ≡ view l
unfolding waited set_semaphore
of_waited PENDING t b l = of_wait_for t b l
of_waited DONE t b l = simp items
of_waited (WAITING u) t b l = refl

of_again : (t : Timer) (l : Ledger) → view (insert_again t l) ≡ view l
unfolding insert_again insert_timer
of_again t l = cond_both (λ m. view m ≡ view l) (eqb t.period 0) l _ refl (of_timers _ l)

of_expire_all : (ts : List Timer) (l : Ledger) → view (expire_all ts l) ≡ view l
unfolding expire_all expire
of_expire_all [] l = refl
of_expire_all (t ∷ ts) l = of_expire_all ts (expire t l) ∙ of_signal t.semaphore (insert_again t l) ∙ of_again t l

of_tick : (c : Config) (l : Ledger) → view (tick c l) ≡ view l
unfolding tick tock
of_tick c l = cond_both (λ m. view m ≡ view l) (ltb (suc l.ticks) c.K) _ _ (of_clock _ _ l) (simp (of_expire_all, items))

-- ---- outcomes and requests: the slots stay

same_slot : (n : ℕ) (v : Task) (l : Ledger) → v.slot ≡ (task l n).slot → slots (set_task n v l) ≡ slots l
unfolding view updates
same_slot n v l e = ap (λ (f : ℕ → List ℕ). record { slot = f; handed = λ q. (queue l q).handed_out }) (fun_ext (λ t. at_put_part (λ t. t.slot) l.tasks n t v null_task e))

pub slots_outcome : (n : ℕ) (o : Outcome) (l : Ledger) → slots (set_outcome n o l) ≡ slots l
unfolding set_outcome
slots_outcome n o l = same_slot n _ l refl

pub slots_request : (n : ℕ) (r : Request) (l : Ledger) → slots (set_request n r l) ≡ slots l
unfolding set_request
slots_request n r l = same_slot n _ l refl

pub slots_waits : (t b : ℕ) (r : Request) (l : Ledger) → slots (set_request t r (wait_for t b l)) ≡ slots l
slots_waits t b r l = slots_request t r (wait_for t b l) ∙ ap slots_of (of_wait_for t b l)

slots_send : (s a b x : ℕ) (l : Ledger) → slots (send s a b x l) ≡ slots l
unfolding send
slots_send s a b x l = slots_outcome s _ _ ∙ ap slots_of (of_message a false _ ∙ of_mailbox a _ l)

pub slots_received : (t a : ℕ) (o : Option Message) (l : Ledger) → slots (received t a o l) ≡ slots l
unfolding received
slots_received t a nothing l = slots_request t _ _ ∙ ap slots_of (of_message t true l)
slots_received t a (some m) l = slots_outcome t _ _ ∙ ap slots_of (of_mailbox t _ l)

pub slots_enqueued : (c : Config) (t q : ℕ) (e : List ℕ) (b : Bool) (l : Ledger) → slots (enqueued c t q e b l) ≡ slots l
unfolding enqueued
slots_enqueued c t q e true l = slots_waits t (not_full c q) _ l
slots_enqueued c t q e false l = ap slots_of (of_wake_waiter (not_empty c q) (put_entry q e l) ∙ of_put q e l)

-- ---- what a frame does before settling

restarted : (a : ℕ) (v : Task) (l m : Ledger) → view m ≡ view l → v.slot ≡ (task l a).slot → slots (set_task a v m) ≡ slots l
unfolding view
restarted a v l m e s = same_slot a v m (s ∙ ap (λ (w : View). (w.tasks a).slot) (sym e)) ∙ ap slots_of e

pub slots_effect : (k : Code) (c : Config) (s a b x : ℕ) (e : List ℕ) (l : Ledger) → (k ≡ DEQUEUE) ⊎ (slots (effect k c s a b x e l) ≡ slots l)
unfolding effect issue wait terminate execute purge start_timer insert_timer withdraw_wait set_semaphore
slots_effect WAIT c s a b x e l = inr (slots_outcome s _ _ ∙ ap slots_of (of_waited (semaphore_of l b) s b l))
slots_effect SIGNAL c s a b x e l = inr (slots_outcome s _ _ ∙ ap slots_of (of_signal b l))
slots_effect PEND c s a b x e l = inr (ap slots_of (of_semaphores _ l))
slots_effect SEND c s a b x e l = inr (slots_send s a b x l)
slots_effect SENDW c s a b x e l = inr (ap slots_of (of_wait_for s b _) ∙ slots_send s a b x l)
slots_effect RECEIVE c s a b x e l = inr (slots_received s a _ l)
slots_effect DEQUEUE c s a b x e l = inl refl
slots_effect ENQUEUE c s a b x e l = inr (slots_enqueued c s a e _ l)
slots_effect RESUME c s a b x e l = inr (ap slots_of (of_suspended a false l))
slots_effect SUSPEND c s a b x e l = inr (ap slots_of (of_suspended a true l))
slots_effect TERMINATE c s a b x e l = inr (restarted a _ l _ (simp (of_drop, items)) refl)
slots_effect EXECUTE c s a b x e l = inr (restarted a _ l _ (simp items) refl)
slots_effect DELAY c s a b x e l = inr (ap slots_of (of_wait_for a b _ ∙ of_timers _ l))
slots_effect TIMER c s a b x e l = inr (ap slots_of (of_timers _ l))
slots_effect PURGE c s a b x e l = inr (ap slots_of (of_timers _ l))
slots_effect TICK c s a b x e l = inr (ap slots_of (of_tick c l))
slots_effect EXIT c s a b x e l = inr (cond_both (λ m. slots m ≡ slots l) (eqb b 0) l (signal b l).ledger refl (ap slots_of (of_signal b l)))
slots_effect SEASON_TIMER c s a b x e l = inr (ap slots_of (of_timers _ l))
