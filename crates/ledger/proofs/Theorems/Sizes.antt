-- Every step keeps the number of tasks, semaphores, mailboxes and queues, whatever the ledger: each change puts an item in the place of another.
-- So in a run they are those of the configuration, and each settling is the while loop.
use Rattle.std.specs.Prelude.{ℕ, zero, suc, ◌+◌, ◌*◌, ◌≡◌, refl, Bool, true, false, List, [], ◌∷◌, ltb, eqb, length}
use Rattle.std.proofs.Common.{◌∙◌, ap}
use Rattle.std.proofs.Math.Option.{Option, none as nothing, some}
use Rattle.std.proofs.lemmas.List.{length-map, length-replicate}
use Rattle.ledger.specs.Config.{Config}
use Rattle.ledger.specs.Ledger.{Semaphore, PENDING, DONE, WAITING, Outcome, plain, refused, woke, Request, none, receive, dequeue, enqueue, Task, Message, Queue, Timer, Ledger, semaphore_of, running, set_task, set_semaphores, set_semaphore, set_mailbox, set_queue, set_timers, set_clock, set_blocks, set_outcome, set_slot, set_request, set_suspended, set_event_wait, set_message_wait, fresh}
use Rattle.ledger.specs.Services.{wait_for, signalled, signal, signal_all, woken, wake_waiter, waited, wait, withdraw_wait, send, take_entry, put_entry, received, drop_messages, dequeued, enqueued, issue, terminate, execute, insert_timer, start_timer, purge, insert_again, expire, expire_all, tock, tick, Code, WAIT, SIGNAL, PEND, SEND, SENDW, RECEIVE, DEQUEUE, ENQUEUE, RESUME, SUSPEND, TERMINATE, EXECUTE, DELAY, TIMER, PURGE, TICK, EXIT, SEASON_TIMER, effect}
use Rattle.ledger.specs.Lists.{byte}
use Rattle.ledger.specs.Refusals.{fields, call, refusal}
use Rattle.ledger.specs.Session.{Settles, open_request, is_open, refused21, issue_again, reissue, settle, answer, accept, Stepped, step, run_from, run}
use Rattle.ledger.proofs.Theorems.Items.{put_length}
use Rattle.ledger.proofs.Theorems.Checks.{cond_both}
use Rattle.ledger.proofs.Theorems.Signals.{signals_keep}
use Rattle.ledger.proofs.Theorems.Settling.{settles}

pub record Sizes : Type 0 where
  pub tasks : ℕ
  pub semaphores : ℕ
  pub mailboxes : ℕ
  pub queues : ℕ

unfoldable pub sizes : Ledger → Sizes
sizes l = record { tasks = length l.tasks; semaphores = length l.semaphores; mailboxes = length l.mailboxes; queues = length l.queues }

of_task_lem : (n : ℕ) (v : Task) (l : Ledger) → sizes (set_task n v l) ≡ sizes l
unfolding sizes set_task
of_task_lem n v l = rw put_length

of_semaphore : (n : ℕ) (v : Semaphore) (l : Ledger) → sizes (set_semaphore n v l) ≡ sizes l
unfolding sizes set_semaphore set_semaphores
of_semaphore n v l = rw put_length

of_withdraw : (t : ℕ) (l : Ledger) → sizes (withdraw_wait t l) ≡ sizes l
unfolding sizes withdraw_wait set_semaphores
of_withdraw t l = rw length-map

of_mailbox : (n : ℕ) (v : List Message) (l : Ledger) → sizes (set_mailbox n v l) ≡ sizes l
unfolding sizes set_mailbox
of_mailbox n v l = rw put_length

of_queue : (n : ℕ) (v : Queue) (l : Ledger) → sizes (set_queue n v l) ≡ sizes l
unfolding sizes set_queue
of_queue n v l = rw put_length

of_timers : (v : List Timer) (l : Ledger) → sizes (set_timers v l) ≡ sizes l
unfolding sizes set_timers
of_timers v l = refl

of_clock : (n k : ℕ) (l : Ledger) → sizes (set_clock n k l) ≡ sizes l
unfolding sizes set_clock
of_clock n k l = refl

ruleset items = (of_task_lem, of_semaphore, of_mailbox, of_queue, of_timers, of_clock)

of_outcome : (n : ℕ) (o : Outcome) (l : Ledger) → sizes (set_outcome n o l) ≡ sizes l
unfolding set_outcome
of_outcome n o l = simp items

of_request : (n : ℕ) (r : Request) (l : Ledger) → sizes (set_request n r l) ≡ sizes l
unfolding set_request
of_request n r l = simp items

of_suspended : (n : ℕ) (b : Bool) (l : Ledger) → sizes (set_suspended n b l) ≡ sizes l
unfolding set_suspended set_blocks
of_suspended n b l = simp items

of_event : (n : ℕ) (b : Bool) (l : Ledger) → sizes (set_event_wait n b l) ≡ sizes l
unfolding set_event_wait set_blocks
of_event n b l = simp items

of_message : (n : ℕ) (b : Bool) (l : Ledger) → sizes (set_message_wait n b l) ≡ sizes l
unfolding set_message_wait set_blocks
of_message n b l = simp items

of_wait_for : (t b : ℕ) (l : Ledger) → sizes (wait_for t b l) ≡ sizes l
unfolding wait_for
of_wait_for t b l = simp (of_event, items)

of_signalled : (s : Semaphore) (b : ℕ) (l : Ledger) → sizes (signalled s b l).ledger ≡ sizes l
unfolding signalled
of_signalled PENDING b l = simp items
of_signalled DONE b l = simp items
of_signalled (WAITING t) b l = simp (of_event, items)

pub of_signal : (b : ℕ) (l : Ledger) → sizes (signal b l).ledger ≡ sizes l
unfolding signal
of_signal b l = of_signalled (semaphore_of l b) b l

of_signal_all : (bs : List ℕ) (l : Ledger) → sizes (signal_all bs l) ≡ sizes l
of_signal_all bs l = signals_keep (λ m. sizes m ≡ sizes l) (λ b m e. of_signal b m ∙ e) bs l refl

of_woken : (s : Semaphore) (b : ℕ) (l : Ledger) → sizes (woken s b l) ≡ sizes l
unfolding woken
of_woken PENDING b l = refl
of_woken DONE b l = refl
of_woken (WAITING t) b l = of_signal b l

of_wake_waiter : (b : ℕ) (l : Ledger) → sizes (wake_waiter b l) ≡ sizes l
unfolding wake_waiter
of_wake_waiter b l = of_woken (semaphore_of l b) b l

of_waited : (s : Semaphore) (t b : ℕ) (l : Ledger) → sizes (waited s t b l) ≡ sizes l
unfolding waited
of_waited PENDING t b l = of_wait_for t b l
of_waited DONE t b l = simp items
of_waited (WAITING u) t b l = refl

of_send : (t a b x : ℕ) (l : Ledger) → sizes (send t a b x l) ≡ sizes l
unfolding send
of_send t a b x l = simp (of_outcome, of_message, items)

of_received : (t a : ℕ) (o : Option Message) (l : Ledger) → sizes (received t a o l) ≡ sizes l
unfolding received
of_received t a nothing l = simp (of_request, of_message)
of_received t a (some m) l = simp (of_outcome, items)

of_dequeued : (c : Config) (t q : ℕ) (es : List (List ℕ)) (l : Ledger) → sizes (dequeued c t q es l) ≡ sizes l
unfolding dequeued take_entry set_slot
of_dequeued c t q [] l = simp (of_request, of_wait_for)
of_dequeued c t q (e ∷ es) l = simp (of_wake_waiter, of_outcome, items)

of_enqueued : (c : Config) (t q : ℕ) (e : List ℕ) (b : Bool) (l : Ledger) → sizes (enqueued c t q e b l) ≡ sizes l
unfolding enqueued put_entry
of_enqueued c t q e true l = simp (of_request, of_wait_for)
of_enqueued c t q e false l = simp (of_wake_waiter, items)

of_issue : (c : Config) (t : ℕ) (r : Request) (l : Ledger) → sizes (issue c t r l) ≡ sizes l
unfolding issue
of_issue c t none l = refl
of_issue c t (receive a) l = of_received t a _ l
of_issue c t (dequeue q) l = of_dequeued c t q _ l
of_issue c t (enqueue q e) l = of_enqueued c t q e _ l

of_again : (t : Timer) (l : Ledger) → sizes (insert_again t l) ≡ sizes l
unfolding insert_again insert_timer
of_again t l = cond_both (λ m. sizes m ≡ sizes l) (eqb t.period 0) l _ refl (of_timers _ l)

of_expire : (t : Timer) (l : Ledger) → sizes (expire t l) ≡ sizes l
unfolding expire
of_expire t l = simp (of_signal, of_again)

of_expire_all : (ts : List Timer) (l : Ledger) → sizes (expire_all ts l) ≡ sizes l
unfolding expire_all
of_expire_all [] l = refl
of_expire_all (t ∷ ts) l = of_expire_all ts (expire t l) ∙ of_expire t l

of_tick : (c : Config) (l : Ledger) → sizes (tick c l) ≡ sizes l
unfolding tick tock
of_tick c l = cond_both (λ m. sizes m ≡ sizes l) (ltb (suc l.ticks) c.K) _ _ (of_clock _ _ l) (simp (of_expire_all, items))

of_effect : (k : Code) (c : Config) (s a b x : ℕ) (e : List ℕ) (l : Ledger) → sizes (effect k c s a b x e l) ≡ sizes l
unfolding effect wait drop_messages terminate execute start_timer insert_timer purge
of_effect WAIT c s a b x e l = simp (of_outcome, of_waited)
of_effect SIGNAL c s a b x e l = of_outcome s (woke (signal b l).woke) (signal b l).ledger ∙ of_signal b l
of_effect PEND c s a b x e l = simp items
of_effect SEND c s a b x e l = of_send s a b x l
of_effect SENDW c s a b x e l = simp (of_wait_for, of_send)
of_effect RECEIVE c s a b x e l = of_issue c s _ l
of_effect DEQUEUE c s a b x e l = of_issue c s _ l
of_effect ENQUEUE c s a b x e l = of_issue c s _ l
of_effect RESUME c s a b x e l = of_suspended a false l
of_effect SUSPEND c s a b x e l = of_suspended a true l
of_effect TERMINATE c s a b x e l = simp (of_signal_all, of_withdraw, items)
of_effect EXECUTE c s a b x e l = simp (of_withdraw, items)
of_effect DELAY c s a b x e l = simp (of_wait_for, items)
of_effect TIMER c s a b x e l = simp items
of_effect PURGE c s a b x e l = simp items
of_effect TICK c s a b x e l = of_tick c l
of_effect EXIT c s a b x e l = cond_both (λ m. sizes m ≡ sizes l) (eqb b 0) l (signal b l).ledger refl (of_signal b l)
of_effect SEASON_TIMER c s a b x e l = simp items

pub of_accept : (c : Config) (f : List ℕ) (l : Ledger) → sizes (accept c f l) ≡ sizes l
unfolding accept
of_accept c f l = of_effect _ c _ _ _ _ _ _ ∙ cond_both (λ m. sizes m ≡ sizes l) (fields (call c (running l) f).code).service _ l (of_outcome _ plain l) refl

pub of_reissue : (c : Config) (l : Ledger) → sizes (reissue c l) ≡ sizes l
unfolding reissue issue_again
of_reissue c l =
    let m = set_request (running l) none l in
    cond_both (λ k. sizes k ≡ sizes m) (refused21 c (open_request l) m) _ _ (of_outcome (running l) (refused 21) m) (of_issue c (running l) (open_request l) m) ∙ of_request (running l) none l

of_settle : (k : ℕ) (c : Config) (l : Ledger) → sizes (settle k c l).ledger ≡ sizes l
unfolding settle
of_settle zero c l = refl
of_settle (suc k) c l = go (is_open (open_request l)) refl (of_settle k c (reissue c l))
  where
    go : (b : Bool) → is_open (open_request l) ≡ b → sizes (settle k c (reissue c l)).ledger ≡ sizes (reissue c l) → sizes (settle (suc k) c l).ledger ≡ sizes l
    go false e ih = rw (e, settle)
    go true e ih = rw (e, settle) (ih ∙ of_reissue c l)

pub of_step : (c : Config) (f : List ℕ) (l : Ledger) → sizes (step c f l).ledger ≡ sizes l
unfolding step
of_step c f l = cond_both (λ (s : Stepped). sizes s.ledger ≡ sizes l) (eqb (refusal c l f) 0) _ _ (of_settle (2 * c.T) c (accept c f l) ∙ of_accept c f l) refl

-- ---- in a run

-- the sizes that a configuration asks for
unfoldable pub sizes_of : Config → Sizes
sizes_of c = record { tasks = c.T; semaphores = c.S + c.T + 2 * c.Q; mailboxes = c.T; queues = c.Q }

pub of_fresh : (c : Config) → length c.states ≡ c.T → sizes (fresh c) ≡ sizes_of c
unfolding sizes sizes_of fresh
of_fresh c h = simp (length-map, length-replicate, h)

of_run_from : (c : Config) (l : Ledger) (fs : List (List ℕ)) → sizes (run_from c l fs).0 ≡ sizes l
unfolding run_from
of_run_from c l [] = refl
of_run_from c l (f ∷ fs) = of_run_from c (step c f l).ledger fs ∙ of_step c f l

-- after the fresh start and after every frame
pub sizes_kept : (c : Config) (fs : List (List ℕ)) → length c.states ≡ c.T → sizes (run c fs).0 ≡ sizes_of c
unfolding run
sizes_kept c fs h = of_run_from c (fresh c) fs ∙ of_fresh c h

-- in a ledger with T tasks, the settling of every accepted frame is the while loop
pub step_settles : (c : Config) (f : List ℕ) (l : Ledger) → length l.tasks ≡ c.T
    → Settles c (accept c f l) (settle (2 * c.T) c (accept c f l)).reissues (settle (2 * c.T) c (accept c f l)).ledger
unfolding sizes
step_settles c f l h = settles c (accept c f l) (ap (λ s. s.tasks) (of_accept c f l) ∙ h)

-- so an accepted frame ends where the while loop ends, and its answer carries the loop's count
pub step_is_the_loop : (c : Config) (f : List ℕ) (l : Ledger) → length l.tasks ≡ c.T → refusal c l f ≡ 0
    → Settles c (accept c f l) (byte 2 (step c f l).answered) (step c f l).ledger
unfolding step answer
step_is_the_loop c f l h e = rw e (step_settles c f l h)
