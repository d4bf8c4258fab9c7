-- Settling is "while the running task has an open request": the bound 2T of `settle` cuts nothing off.
use Rattle.std.specs.Prelude.{ℕ, zero, suc, ◌+◌, ◌*◌, ◌≤◌, ◌≡◌, refl, ◌⊎◌, Bool, true, false, not, ◌&&◌, List, [], ◌∷◌, length, get_or, set}
use Rattle.std.proofs.Common.{◌∙◌, ap, inl, inr, le_refl, le_trans, arith}
use Rattle.std.proofs.Math.Bool.{and-false}
use Rattle.std.proofs.Math.Option.{Option, none as nothing, some}
use Rattle.ledger.specs.Lists.{at, put, find}
use Rattle.ledger.specs.Config.{Config}
use Rattle.ledger.specs.Ledger.{Semaphore, PENDING, DONE, WAITING, Outcome, refused, Request, none, receive, dequeue, enqueue, Task, Message, Ledger, null_task, task, semaphore_of, mailbox, queue, held, runnable, running, set_task, set_semaphores, set_semaphore, set_mailbox, set_queue, set_blocks, set_outcome, set_slot, set_request, set_event_wait, set_message_wait}
use Rattle.ledger.specs.Services.{wait_for, signalled, signal, woken, wake_waiter, wanted, not_empty, not_full, full, take_entry, put_entry, received, dequeued, enqueued, issue}
use Rattle.ledger.specs.Session.{open_request, is_open, refused21, issue_again, reissue, Settles, stops, goes_on, settle}
use Rattle.ledger.specs.Good.{Numbered, TaskRuns}
use Rattle.ledger.proofs.Theorems.Items.{put_length, at_put_same, at_there}
use Rattle.ledger.proofs.Theorems.Checks.{cond_both}
use Rattle.ledger.proofs.Theorems.Lowest.{NullRuns, lowest_runs}

-- ---- what falls at each issue: 2 for each runnable task with an open request, 1 for a blocked one

weigh : (asks runs : Bool) → ℕ
weigh false r = 0
weigh true true = 2
weigh true false = 1

weight : Task → ℕ
weight t = weigh (is_open t.request) (runnable t)

weigh_blocked : (o r : Bool) → weigh o false ≤ weigh o r
unfolding weigh
weigh_blocked false r = omega arith
weigh_blocked true true = omega arith
weigh_blocked true false = omega arith

weigh_woken : (o r r' : Bool) → weigh o r ≤ weigh o r' + 1
unfolding weigh
weigh_woken false r r' = omega arith
weigh_woken true true true = omega arith
weigh_woken true true false = omega arith
weigh_woken true false true = omega arith
weigh_woken true false false = omega arith

weigh_one : (o r : Bool) (k : ℕ) → r ≡ false → weigh o r ≤ k + 1
unfolding weigh
weigh_one false r k e = omega arith
weigh_one true true k e = let z : ◌≡◌ {A = ℕ} 0 1 = cc in omega arith
weigh_one true false k e = omega arith

weigh_two : (o r : Bool) → o ≡ true → r ≡ true → 2 ≤ weigh o r
unfolding weigh
weigh_two false r e h = let z : ◌≡◌ {A = ℕ} 0 1 = cc in omega arith
weigh_two true true e h = omega arith
weigh_two true false e h = let z : ◌≡◌ {A = ℕ} 0 1 = cc in omega arith

load : List Task → ℕ
load [] = 0
load (t ∷ ts) = weight t + load ts

load_set : (ts : List Task) (n : ℕ) (v : Task) (j k : ℕ) → weight v + j ≤ weight (get_or ts n null_task) + k → load (set ts n v) + j ≤ load ts + k
unfolding load weight weigh is_open
load_set [] n v j k h = omega arith
load_set (t ∷ ts) zero v j k h = omega arith
load_set (t ∷ ts) (suc n) v j k h = omega (arith, load_set ts n v j k h)

load_put : (ts : List Task) (n : ℕ) (v : Task) (j k : ℕ) → weight v + j ≤ weight (at ts n null_task) + k → load (put ts n v) + j ≤ load ts + k
unfolding at put weight weigh is_open
load_put ts zero v j k h = omega arith
load_put ts (suc n) v j k h = load_set ts n v j k h

module _ (n : ℕ) (v : Task) (l : Ledger) where
  lower : weight v + 2 ≤ weight (task l n) → load (set_task n v l).tasks + 2 ≤ load l.tasks
  unfolding set_task task
  lower h = omega (arith, load_put l.tasks n v 2 0 (omega arith))

  quiet : weight v ≤ weight (task l n) → load (set_task n v l).tasks ≤ load l.tasks
  unfolding set_task task
  quiet h = omega (arith, load_put l.tasks n v 0 0 (omega arith))

  raise : weight v ≤ weight (task l n) + 1 → load (set_task n v l).tasks ≤ load l.tasks + 1
  unfolding set_task task
  raise h = omega (arith, load_put l.tasks n v 0 1 (omega arith))

-- ---- the changes of a task

up : {m n : ℕ} → m ≤ n → m ≤ n + 1
up h = omega arith

blocked_event : (i s m : Bool) → (i && s && false && m) ≡ false
blocked_event i s m = rw (and-false (i && s))

blocked_message : (i s e : Bool) → (i && s && e && false) ≡ false
blocked_message i s e = and-false (i && s && e)

outcome_load : (n : ℕ) (o : Outcome) (l : Ledger) → load (set_outcome n o l).tasks ≤ load l.tasks
unfolding set_outcome weight runnable
outcome_load n o l = quiet n _ l (le_refl _)

slot_load : (n : ℕ) (v : List ℕ) (l : Ledger) → load (set_slot n v l).tasks ≤ load l.tasks
unfolding set_slot weight runnable
slot_load n v l = quiet n _ l (le_refl _)

event_load : (n : ℕ) (l : Ledger) → load (set_event_wait n true l).tasks ≤ load l.tasks
unfolding set_event_wait set_blocks weight runnable
event_load n l = quiet n _ l (rw (blocked_event _ _ _) (weigh_blocked _ _))

message_load : (n : ℕ) (l : Ledger) → load (set_message_wait n true l).tasks ≤ load l.tasks
unfolding set_message_wait set_blocks weight runnable
message_load n l = quiet n _ l (rw (blocked_message _ _ _) (weigh_blocked _ _))

woken_load : (n : ℕ) (l : Ledger) → load (set_event_wait n false l).tasks ≤ load l.tasks + 1
unfolding set_event_wait set_blocks weight runnable
woken_load n l = raise n _ l (weigh_woken _ _ _)

request_load : (n : ℕ) (r : Request) (l : Ledger) → runnable (task l n) ≡ false → load (set_request n r l).tasks ≤ load l.tasks + 1
unfolding set_request weight runnable
request_load n r l h = raise n _ l (weigh_one _ _ _ h)

close_load : (n : ℕ) (l : Ledger) → is_open (task l n).request ≡ true → runnable (task l n) ≡ true → load (set_request n none l).tasks + 2 ≤ load l.tasks
unfolding set_request weight weigh is_open
close_load n l o r = lower n _ l (omega (arith, weigh_two _ _ o r))

-- ---- the changes of an issue: the load rises by 1 at most

event_blocks : (n : ℕ) (l : Ledger) → Numbered (length l.tasks) n → runnable (task (set_event_wait n true l) n) ≡ false
unfolding set_event_wait set_blocks set_task task runnable
event_blocks n l h = let b = (task l n).blocks in ap runnable (at_put_same l.tasks n _ null_task h) ∙ blocked_event (not b.idle) (not b.suspended) (not b.message_wait)

message_blocks : (n : ℕ) (l : Ledger) → Numbered (length l.tasks) n → runnable (task (set_message_wait n true l) n) ≡ false
unfolding set_message_wait set_blocks set_task task runnable
message_blocks n l h = let b = (task l n).blocks in ap runnable (at_put_same l.tasks n _ null_task h) ∙ blocked_message (not b.idle) (not b.suspended) (not b.event_wait)

wait_load : (t b : ℕ) (r : Request) (l : Ledger) → Numbered (length l.tasks) t → load (set_request t r (wait_for t b l)).tasks ≤ load l.tasks + 1
unfolding wait_for set_semaphore set_semaphores
wait_load t b r l h =
    let m = set_semaphore b (WAITING t) l in
    omega (arith, request_load t r (set_event_wait t true m) (event_blocks t m h), event_load t m)

signalled_load : (s : Semaphore) (b : ℕ) (l : Ledger) → load (signalled s b l).ledger.tasks ≤ load l.tasks + 1
unfolding signalled set_semaphore set_semaphores
signalled_load PENDING b l = omega arith
signalled_load DONE b l = omega arith
signalled_load (WAITING t) b l = woken_load t (set_semaphore b PENDING l)

wake_load : (s : Semaphore) (b : ℕ) (l : Ledger) → load (woken s b l).tasks ≤ load l.tasks + 1
unfolding woken signal
wake_load PENDING b l = omega arith
wake_load DONE b l = omega arith
wake_load (WAITING t) b l = signalled_load (semaphore_of l b) b l

take_load : (c : Config) (t q : ℕ) (e : List ℕ) (l : Ledger) → load (take_entry c t q e l).tasks ≤ load l.tasks
unfolding take_entry set_queue
take_load c t q e l = le_trans (outcome_load t _ _) (slot_load t _ _)

received_load : (t a : ℕ) (o : Option Message) (l : Ledger) → Numbered (length l.tasks) t → load (received t a o l).tasks ≤ load l.tasks + 1
unfolding received set_mailbox
received_load t a nothing l h = omega (arith, request_load t (receive a) (set_message_wait t true l) (message_blocks t l h), message_load t l)
received_load t a (some m) l h = up (outcome_load t _ _)

dequeued_load : (c : Config) (t q : ℕ) (es : List (List ℕ)) (l : Ledger) → Numbered (length l.tasks) t → load (dequeued c t q es l).tasks ≤ load l.tasks + 1
unfolding dequeued wake_waiter
dequeued_load c t q [] l h = wait_load t (not_empty c q) (dequeue q) l h
dequeued_load c t q (e ∷ es) l h = omega (arith, wake_load (semaphore_of (take_entry c t q e l) (not_full c q)) (not_full c q) (take_entry c t q e l), take_load c t q e l)

enqueued_load : (c : Config) (t q : ℕ) (e : List ℕ) (b : Bool) (l : Ledger) → Numbered (length l.tasks) t → load (enqueued c t q e b l).tasks ≤ load l.tasks + 1
unfolding enqueued wake_waiter put_entry set_queue
enqueued_load c t q e true l h = wait_load t (not_full c q) (enqueue q e) l h
enqueued_load c t q e false l h = wake_load _ (not_empty c q) (put_entry q e l)

issue_load : (c : Config) (t : ℕ) (r : Request) (l : Ledger) → Numbered (length l.tasks) t → load (issue c t r l).tasks ≤ load l.tasks + 1
unfolding issue
issue_load c t none l h = omega arith
issue_load c t (receive a) l h = received_load t a (find (wanted a) (mailbox l t)) l h
issue_load c t (dequeue q) l h = dequeued_load c t q (held (queue l q)) l h
issue_load c t (enqueue q e) l h = enqueued_load c t q e (full c l q) l h

again_load : (c : Config) (t : ℕ) (r : Request) (l : Ledger) → Numbered (length l.tasks) t → load (issue_again c t r l).tasks ≤ load l.tasks + 1
unfolding issue_again
again_load c t r l h = cond_both (λ (m : Ledger). load m.tasks ≤ load l.tasks + 1) (refused21 c r l) _ _ (up (outcome_load t (refused 21) l)) (issue_load c t r l h)

-- ---- a running task with an open request is runnable: the null task has none

pub running_named : (l : Ledger) → is_open (open_request l) ≡ true → Numbered (length l.tasks) (running l)
unfolding open_request task is_open
running_named l o = at_there l.tasks (running l) null_task (λ e. let z : ◌≡◌ {A = ℕ} 0 1 = cc in omega arith)

pub running_runs : (l : Ledger) → is_open (open_request l) ≡ true → runnable (task l (running l)) ≡ true
running_runs l o = go (lowest_runs (length l.tasks) l refl)
  where
    go : TaskRuns (length l.tasks) l (running l) ⊎ NullRuns (length l.tasks) l (running l) → runnable (task l (running l)) ≡ true
    go (inl h) = h.runs
    go (inr h) = absurd (omega (arith, running_named l o))

-- ---- each issue lowers the load, so that 2T are enough

closed_named : (l : Ledger) → is_open (open_request l) ≡ true → Numbered (length (set_request (running l) none l).tasks) (running l)
unfolding set_request set_task
closed_named l o = rw put_length (running_named l o)

reissue_load : (c : Config) (l : Ledger) → is_open (open_request l) ≡ true → load (reissue c l).tasks + 1 ≤ load l.tasks
unfolding reissue open_request
reissue_load c l o =
    omega (arith, again_load c (running l) (open_request l) (set_request (running l) none l) (closed_named l o), close_load (running l) l o (running_runs l o))

settles_within : (k : ℕ) (c : Config) (l : Ledger) → load l.tasks ≤ k → Settles c l (settle k c l).reissues (settle k c l).ledger
unfolding settle
settles_within zero c l h = go (is_open (open_request l)) refl
  where
    go : (b : Bool) → is_open (open_request l) ≡ b → Settles c l 0 l
    go false e = stops e
    go true e = absurd (omega (arith, reissue_load c l e))
settles_within (suc k) c l h = go (is_open (open_request l)) refl (λ p. settles_within k c (reissue c l) p)
  where
    go : (b : Bool) → is_open (open_request l) ≡ b → (load (reissue c l).tasks ≤ k → Settles c (reissue c l) (settle k c (reissue c l)).reissues (settle k c (reissue c l)).ledger)
        → Settles c l (settle (suc k) c l).reissues (settle (suc k) c l).ledger
    go false e ih = rw (e, settle) (stops e)
    go true e ih = rw (e, settle) (goes_on e (ih (omega (arith, reissue_load c l e))))

issues_load : {c : Config} {l l' : Ledger} {n : ℕ} → Settles c l n l' → n ≤ load l.tasks
issues_load (stops e) = omega arith
issues_load {c} {l} (goes_on e s) = omega (arith, issues_load s, reissue_load c l e)

weigh_bound : (o r : Bool) → weigh o r ≤ 2
unfolding weigh
weigh_bound false r = omega arith
weigh_bound true true = omega arith
weigh_bound true false = omega arith

load_bound : (ts : List Task) → load ts ≤ 2 * length ts
unfolding load weight
load_bound [] = omega arith
load_bound (t ∷ ts) = omega (arith, weigh_bound (is_open t.request) (runnable t), load_bound ts)

-- settling with the bound 2T is the while loop
pub settles : (c : Config) (l : Ledger) → length l.tasks ≡ c.T → Settles c l (settle (2 * c.T) c l).reissues (settle (2 * c.T) c l).ledger
settles c l h = settles_within (2 * c.T) c l (omega (arith, load_bound l.tasks))

-- and the loop has one end
pub one_end : {c : Config} {l l₁ l₂ : Ledger} {m n : ℕ} → Settles c l m l₁ → Settles c l n l₂ → (m ≡ n) × (l₁ ≡ l₂)
one_end (stops e) (stops f) = (refl, refl)
one_end (stops e) (goes_on f q) = let z : ◌≡◌ {A = ℕ} 0 1 = cc in absurd (omega arith)
one_end (goes_on e p) (stops f) = let z : ◌≡◌ {A = ℕ} 0 1 = cc in absurd (omega arith)
one_end (goes_on e p) (goes_on f q) = let r = one_end p q in (ap suc r.0, r.1)

-- it makes at most 2T issues
pub loop_at_most_2t : {c : Config} {l l' : Ledger} {n : ℕ} → length l.tasks ≡ c.T → Settles c l n l' → n ≤ 2 * c.T
loop_at_most_2t {l} h s = omega (arith, issues_load s, load_bound l.tasks)

-- and so does the computed form, whatever the ledger
at_most : (k : ℕ) (c : Config) (l : Ledger) → (settle k c l).reissues ≤ k
unfolding settle
at_most zero c l = omega arith
at_most (suc k) c l = go (is_open (open_request l)) refl (at_most k c (reissue c l))
  where
    go : (b : Bool) → is_open (open_request l) ≡ b → (settle k c (reissue c l)).reissues ≤ k → (settle (suc k) c l).reissues ≤ suc k
    go false e ih = rw (e, settle) (omega arith)
    go true e ih = rw (e, settle) (omega arith)

pub at_most_2t : (c : Config) (l : Ledger) → (settle (2 * c.T) c l).reissues ≤ 2 * c.T
at_most_2t c l = at_most (2 * c.T) c l

-- where it ends, the running task has no open request
pub ends_closed : {c : Config} {l l' : Ledger} {n : ℕ} → Settles c l n l' → is_open (open_request l') ≡ false
ends_closed (stops e) = e
ends_closed (goes_on e s) = ends_closed s
