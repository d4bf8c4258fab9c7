-- To compute long sessions: a ledger, computed to its last item before it is handed on.
use Rattle.std.specs.Prelude.{ℕ, ◌≡◌, Bool}
use Rattle.std.proofs.Math.Path.{refl}
use Rattle.std.proofs.Common.{◌∙◌}
use Rattle.std.proofs.Math.Bool.{true, false}
use mathlib.Core.List.{List, [], ◌∷◌}
use Rattle.ledger.specs.Ledger.{Semaphore, PENDING, DONE, WAITING, Outcome, plain, begin, message, entry, refused, semaphore, woke, Request, none, receive, dequeue, enqueue, Task, Message, Queue, Timer, Ledger}

module _ {B : Type 0} where
  unfoldable pub force_bool : Bool → (Bool → B) → B
  force_bool true k = k true
  force_bool false k = k false

  unfoldable pub force_list : {A : Type 0} → (A → (A → B) → B) → List A → (List A → B) → B
  force_list f [] k = k []
  force_list f (x ∷ xs) k = f x (λ y. force_list f xs (λ ys. k (y ∷ ys)))

  unfoldable pub same : {A : Type 0} → A → (A → B) → B
  same a k = k a

  unfoldable pub force_sema : Semaphore → (Semaphore → B) → B
  force_sema PENDING k = k PENDING
  force_sema DONE k = k DONE
  force_sema (WAITING t) k = k (WAITING t)

  unfoldable pub force_outcome : Outcome → (Outcome → B) → B
  force_outcome plain k = k plain
  force_outcome begin k = k begin
  force_outcome (message a b c) k = k (message a b c)
  force_outcome (entry e) k = k (entry e)
  force_outcome (refused n) k = k (refused n)
  force_outcome (semaphore n) k = k (semaphore n)
  force_outcome (woke n) k = k (woke n)

  unfoldable pub force_request : Request → (Request → B) → B
  force_request none k = k none
  force_request (receive a) k = k (receive a)
  force_request (dequeue a) k = k (dequeue a)
  force_request (enqueue a e) k = k (enqueue a e)

  unfoldable pub force_task : Task → (Task → B) → B
  force_task t k =
      force_bool t.blocks.idle λ i. force_bool t.blocks.suspended λ s. force_bool t.blocks.event_wait λ e. force_bool t.blocks.message_wait λ m.
      force_outcome t.outcome λ o. force_request t.request λ r. force_list same t.slot λ sl.
      k (record { blocks = record { idle = i; suspended = s; event_wait = e; message_wait = m }; outcome = o; slot = sl; request = r })

  unfoldable pub force_queue : Queue → (Queue → B) → B
  force_queue q k = force_list same q.put λ p. force_list same q.handed_out λ h. k (record { put = p; taken = q.taken; handed_out = h })

  unfoldable pub force : Ledger → (Ledger → B) → B
  force l k =
      force_list force_task l.tasks λ ts. force_list force_sema l.semaphores λ ss. force_list (force_list same) l.mailboxes λ ms.
      force_list force_queue l.queues λ qs. force_list same l.timers λ tm.
      k (record { N = l.N; ticks = l.ticks; tasks = ts; semaphores = ss; mailboxes = ms; queues = qs; timers = tm })

  -- it is the ledger that is handed on
  force_bool_is : (b : Bool) (k : Bool → B) → force_bool b k ≡ k b
  unfolding force_bool
  force_bool_is true k = refl
  force_bool_is false k = refl

  force_list_is : {A : Type 0} (f : A → (A → B) → B) → ((x : A) (k : A → B) → f x k ≡ k x) → (xs : List A) (k : List A → B) → force_list f xs k ≡ k xs
  unfolding force_list
  force_list_is f h [] k = refl
  force_list_is f h (x ∷ xs) k = h x (λ y. force_list f xs (λ ys. k (y ∷ ys))) ∙ force_list_is f h xs (λ ys. k (x ∷ ys))

  same_is : {A : Type 0} (x : A) (k : A → B) → same x k ≡ k x
  unfolding same
  same_is x k = refl

  force_sema_is : (s : Semaphore) (k : Semaphore → B) → force_sema s k ≡ k s
  unfolding force_sema
  force_sema_is PENDING k = refl
  force_sema_is DONE k = refl
  force_sema_is (WAITING t) k = refl

  force_outcome_is : (o : Outcome) (k : Outcome → B) → force_outcome o k ≡ k o
  unfolding force_outcome
  force_outcome_is plain k = refl
  force_outcome_is begin k = refl
  force_outcome_is (message a b c) k = refl
  force_outcome_is (entry e) k = refl
  force_outcome_is (refused n) k = refl
  force_outcome_is (semaphore n) k = refl
  force_outcome_is (woke n) k = refl

  force_request_is : (r : Request) (k : Request → B) → force_request r k ≡ k r
  unfolding force_request
  force_request_is none k = refl
  force_request_is (receive a) k = refl
  force_request_is (dequeue a) k = refl
  force_request_is (enqueue a e) k = refl

  force_task_is : (t : Task) (k : Task → B) → force_task t k ≡ k t
  unfolding force_task
  force_task_is t k = simp (force_bool_is, force_outcome_is, force_request_is, force_list_is {A = ℕ} same same_is)

  force_queue_is : (q : Queue) (k : Queue → B) → force_queue q k ≡ k q
  unfolding force_queue
  force_queue_is q k = simp (force_list_is {A = List ℕ} same same_is)

  pub force_is : (l : Ledger) (k : Ledger → B) → force l k ≡ k l
  unfolding force
  force_is l k = simp (force_list_is force_task force_task_is, force_list_is force_sema force_sema_is, force_list_is {A = List Message} (force_list same) (force_list_is {A = Message} same same_is), force_list_is force_queue force_queue_is, force_list_is {A = Timer} same same_is)
