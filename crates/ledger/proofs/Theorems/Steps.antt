-- Every accepted frame, and every issue in settling, is a chain of changes: the walk through the services that all rules about the ledger share.
use Rattle.std.specs.Prelude.{ℕ, suc, ◌+◌, ◌≤◌, ◌≡◌, Bool, cond, eqb}
use Rattle.std.proofs.Math.Path.{refl, subst}
use Rattle.std.proofs.Common.{sym, ◌∙◌, ap, arith, ltb-true}
use Rattle.std.proofs.Math.Bool.{true, false}
use mathlib.Core.List.{List, [], ◌∷◌}
use Rattle.std.proofs.Math.Option.{Option, none as nothing, some}
use Rattle.std.proofs.lemmas.Bool.{not-true}
use Rattle.std.proofs.Math.Dec.{ltb}
use Rattle.ledger.specs.Lists.{find, byte}
use Rattle.ledger.specs.Config.{Config}
use Rattle.ledger.specs.Time.{TockValue, tock_value, long_tock_value}
use Rattle.ledger.specs.Ledger.{Semaphore, PENDING, DONE, WAITING, Outcome, plain, begin, message, entry, refused, semaphore, woke, Request, none, receive, dequeue, enqueue, Task, Message, Ledger, null_task, task, semaphore_of, mailbox, queue, held, runnable, running, set_task, set_semaphores, set_mailbox, set_timers, set_clock, set_blocks, set_outcome, set_request, set_suspended, set_message_wait}
use Rattle.ledger.specs.Services.{signalled, signal, signal_all, woken, wake_waiter, waited, wait, withdraw_wait, send, wanted, not_empty, not_full, empty, full, received, drop_messages, dequeued, enqueued, issue, terminate, execute, insert_timer, start_timer, purge, tock, tick, Code, WAIT, SIGNAL, PEND, SEND, SENDW, RECEIVE, DEQUEUE, ENQUEUE, RESUME, SUSPEND, TERMINATE, EXECUTE, DELAY, TIMER, PURGE, TICK, EXIT, SEASON_TIMER, effect}
use Rattle.ledger.specs.Refusals.{Follows, x_alone, x_and_entry, long_x, Call, fields, value_x, meets25, would_wait_on, is_waiting, meets21, inamailbox, idle_or_waiting, on_not_empty, on_not_full, code_at, call, refusal}
use Rattle.ledger.specs.Session.{open_request, is_open, refused21, issue_again, reissue, accept}
use Rattle.ledger.specs.Good.{Numbered, Accepted}
use Rattle.ledger.proofs.Theorems.Items.{at_put_part}
use Rattle.ledger.proofs.Theorems.Checks.{and_left, and_right, or_left, or_right}
use Rattle.ledger.proofs.Theorems.Parts.{Every, nil, cons, part_nil, part_keep, part_without, every_to, every_part, every_map}
use Rattle.ledger.proofs.Theorems.Tocks.{tock_is}
use Rattle.ledger.proofs.Theorems.Accepted.{accepted}
use Rattle.ledger.proofs.Theorems.Named.{Timed, Named}
use Rattle.ledger.proofs.Theorems.Terminated.{ended, terminate_is}
use Rattle.ledger.proofs.Theorems.Settling.{running_named, running_runs}
use Rattle.ledger.proofs.Theorems.Changes.{Asks, Sent, alters, restarts, pends, finishes, wakes, waits, delivers, removes, puts_entry, takes_entry, starts_timer, stops_timers, ticks, tocks, Changes, start, ◌⨾◌}

-- ---- event wait

abbrev waiting : Ledger → ℕ → Bool
waiting l t = (task l t).blocks.event_wait

waiting_alters : (n t : ℕ) (v : Task) (l : Ledger) → v.blocks.event_wait ≡ waiting l n → waiting (set_task n v l) t ≡ waiting l t
unfolding set_task task
waiting_alters n t v l e = at_put_part (λ t. t.blocks.event_wait) l.tasks n t v null_task e

runs_unwaiting : (t : Task) → runnable t ≡ true → t.blocks.event_wait ≡ false
unfolding runnable
runs_unwaiting t h = not-true t.blocks.event_wait (search (and_left, and_right))

send_unwaiting : (s a b x t : ℕ) (l : Ledger) → waiting l t ≡ false → waiting (send s a b x l) t ≡ false
unfolding send set_outcome set_message_wait set_blocks set_mailbox task
send_unwaiting s a b x t l w = waiting_alters s t _ _ refl ∙ waiting_alters a t _ _ refl ∙ w

idle_unwaiting : (l : Ledger) (a : ℕ) → idle_or_waiting l a ≡ false → waiting l a ≡ false
unfolding idle_or_waiting
idle_unwaiting l a h = search (or_left, or_right)

-- ---- the services, each behind a chain that leads to the ledger

abbrev is_entry : Outcome → Bool
is_entry plain = false
is_entry begin = false
is_entry (message m s b) = false
is_entry (entry e) = true
is_entry (refused n) = false
is_entry (semaphore b) = false
is_entry (woke t) = false

no_entry_lem : (o : Outcome) (e : List ℕ) → is_entry o ≡ false → o ≡ entry e → ⊥
no_entry_lem o e n h = let z : ◌≡◌ {A = ℕ} 0 1 = cc (ap is_entry h) in omega arith

module _ {c : Config} {X : TockValue → Type 0} {l₀ : Ledger} where
  shows : (t : ℕ) (o : Outcome) (l : Ledger) → is_entry o ≡ false → Changes c X l₀ l → Changes c X l₀ (set_outcome t o l)
  unfolding set_outcome
  shows t o l n k = k ⨾ alters t _ (record { slot = refl; event_wait = refl; outcome = λ e h. absurd (no_entry_lem o e n h); request = λ r. r })

  asks : (t : ℕ) (r : Request) (l : Ledger) → Asks c r → Changes c X l₀ l → Changes c X l₀ (set_request t r l)
  unfolding set_request
  asks t r l a k = k ⨾ alters t _ (record { slot = refl; event_wait = refl; outcome = λ e h. h; request = λ o. a })

  suspends : (t : ℕ) (v : Bool) (l : Ledger) → Changes c X l₀ l → Changes c X l₀ (set_suspended t v l)
  unfolding set_suspended set_blocks
  suspends t v l k = k ⨾ alters t _ (record { slot = refl; event_wait = refl; outcome = λ e h. h; request = λ o. o })

  messages : (t : ℕ) (v : Bool) (l : Ledger) → Changes c X l₀ l → Changes c X l₀ (set_message_wait t v l)
  unfolding set_message_wait set_blocks
  messages t v l k = k ⨾ alters t _ (record { slot = refl; event_wait = refl; outcome = λ e h. h; request = λ o. o })

  woken_by : (s : Semaphore) (b : ℕ) (l : Ledger) → semaphore_of l b ≡ s → Changes c X l₀ l → Changes c X l₀ (woken s b l)
  unfolding woken signal signalled
  woken_by PENDING b l e k = k
  woken_by DONE b l e k = k
  woken_by (WAITING t) b l e k = subst (λ (s : Semaphore). Changes c X l₀ (signalled s b l).ledger) (sym e) (k ⨾ wakes b t e)

  wakes_waiter : (b : ℕ) (l : Ledger) → Changes c X l₀ l → Changes c X l₀ (wake_waiter b l)
  unfolding wake_waiter
  wakes_waiter b l k = woken_by (semaphore_of l b) b l refl k

  signalled_by_lem : (s : Semaphore) (b : ℕ) (l : Ledger) → semaphore_of l b ≡ s → b ≤ c.S + c.T → Changes c X l₀ l → Changes c X l₀ (signalled s b l).ledger
  unfolding signalled is_waiting
  signalled_by_lem PENDING b l e h k = k ⨾ finishes b h (ap is_waiting e)
  signalled_by_lem DONE b l e h k = k ⨾ finishes b h (ap is_waiting e)
  signalled_by_lem (WAITING t) b l e h k = k ⨾ wakes b t e

  signals : (b : ℕ) (l : Ledger) → b ≤ c.S + c.T → Changes c X l₀ l → Changes c X l₀ (signal b l).ledger
  unfolding signal
  signals b l h k = signalled_by_lem (semaphore_of l b) b l refl h k

  waited_by : (s : Semaphore) (t b : ℕ) (l : Ledger) → semaphore_of l b ≡ s → Numbered c.T t → waiting l t ≡ false → Changes c X l₀ l → Changes c X l₀ (waited s t b l)
  unfolding waited is_waiting
  waited_by PENDING t b l e n w k = k ⨾ waits t b n w (ap is_waiting e)
  waited_by DONE t b l e n w k = k ⨾ pends b (ap is_waiting e)
  waited_by (WAITING u) t b l e n w k = k

  sends : (t a b x : ℕ) (l : Ledger) → Sent c (record { number = x; sender = t; semaphore = b }) → inamailbox l x ≡ false → Changes c X l₀ l → Changes c X l₀ (send t a b x l)
  unfolding send
  sends t a b x l m n k = shows t (semaphore b) _ refl (messages a false _ (k ⨾ delivers a (record { number = x; sender = t; semaphore = b }) m n))

  receives : (t a : ℕ) (o : Option Message) (l : Ledger) → a ≤ c.T → Changes c X l₀ l → Changes c X l₀ (received t a o l)
  unfolding received
  receives t a nothing l h k = asks t (receive a) _ h (messages t true l k)
  receives t a (some m) l h k = shows t _ _ refl (k ⨾ removes t _ (part_without (wanted a) (mailbox l t)))

  dequeues : (t q : ℕ) (es : List (List ℕ)) (l : Ledger) → held (queue l q) ≡ es → Numbered c.Q q → Numbered c.T t → waiting l t ≡ false
      → meets21 c l on_not_empty q 0 ≡ false → Changes c X l₀ l → Changes c X l₀ (dequeued c t q es l)
  unfolding dequeued meets21 would_wait_on empty
  dequeues t q [] l e n s w m k = asks t (dequeue q) _ n (k ⨾ waits t (not_empty c q) s w (rw e at m))
  dequeues t q (d ∷ es) l e n s w m k = wakes_waiter (not_full c q) _ (k ⨾ takes_entry t q d es n e)

  enqueues : (t q : ℕ) (e : List ℕ) (b : Bool) (l : Ledger) → full c l q ≡ b → Asks c (enqueue q e) → Numbered c.T t → waiting l t ≡ false
      → meets21 c l on_not_full q 0 ≡ false → Changes c X l₀ l → Changes c X l₀ (enqueued c t q e b l)
  unfolding enqueued meets21 would_wait_on
  enqueues t q e true l f n s w m k = asks t (enqueue q e) _ n (k ⨾ waits t (not_full c q) s w (rw f at m))
  enqueues t q e false l f n s w m k = wakes_waiter (not_empty c q) _ (k ⨾ puts_entry q e n.1 f)

  issues : (t : ℕ) (r : Request) (l : Ledger) → Asks c r → Numbered c.T t → waiting l t ≡ false → refused21 c r l ≡ false → Changes c X l₀ l → Changes c X l₀ (issue c t r l)
  unfolding issue refused21
  issues t none l a s w m k = k
  issues t (receive f) l a s w m k = receives t f (find (wanted f) (mailbox l t)) l a k
  issues t (dequeue q) l a s w m k = dequeues t q (held (queue l q)) l refl a s w m k
  issues t (enqueue q e) l a s w m k = enqueues t q e (full c l q) l refl a s w m k

  signals_all : (bs : List ℕ) (l : Ledger) → Every (λ b. b ≤ c.S + c.T) bs → Changes c X l₀ l → Changes c X l₀ (signal_all bs l)
  unfolding signal_all
  signals_all [] l nil k = k
  signals_all (b ∷ bs) l (cons n ns) k = signals_all bs (signal b l).ledger ns (signals b l n k)

  drops : (t : ℕ) (l : Ledger) → Every (Sent c) (mailbox l t) → Changes c X l₀ l → Changes c X l₀ (drop_messages t l)
  unfolding drop_messages
  drops t l h k = signals_all _ l (every_map (λ m. m.semaphore) (every_to (λ m s. s.semaphore.upto) h)) k ⨾ removes t [] (part_nil _)

  terminates : (a : ℕ) (l : Ledger) → Every (Sent c) (mailbox l a) → Changes c X l₀ l → Changes c X l₀ (terminate a l)
  unfolding set_timers set_task withdraw_wait set_semaphores mailbox
  terminates a l h k =
      subst (Changes c X l₀) (sym (terminate_is a l))
      (drops a _ h (k ⨾ restarts a (ended (task l a)) (record { slot = refl; outcome = λ e o. no_entry_lem plain e refl o; request = refl }) ⨾ stops_timers _ (part_keep _ _)))

  ticked : (l : Ledger) → Every (Timed c) l.timers → Changes c X l₀ l → Changes c X l₀ (tick c l)
  unfolding tick set_clock
  ticked l h k = go (ltb (suc l.ticks) c.K) refl
    where
      go : (b : Bool) → ltb (suc l.ticks) c.K ≡ b → Changes c X l₀ (cond b (set_clock l.N (suc l.ticks) l) (tock (set_clock (suc l.N) 0 l)))
      go true e = k ⨾ ticks (ltb-true (suc l.ticks) c.K e)
      go false e = rw (tock_is (set_clock (suc l.N) 0 l)) (signals_all _ _ (every_map (λ t. t.semaphore) (every_to (λ t s. s.semaphore.upto) (every_part (part_keep _ _) h))) (k ⨾ tocks))

-- ---- an accepted frame

-- X holds of the tock value that the bits x are, unless they are 0
abbrev pub Value : (TockValue → Type 0) → Follows → ℕ → Type 0
Value X x_alone x = (x ≡ 0 → ⊥) → X (tock_value x)
Value X x_and_entry x = (x ≡ 0 → ⊥) → X (tock_value x)
Value X long_x x = (x ≡ 0 → ⊥) → X (long_tock_value x)

-- and of a frame's, whose code says how wide it is
abbrev pub Values : (TockValue → Type 0) → List ℕ → Type 0
Values X f = let u = (fields (code_at (byte 0 f))).follows in Value X u (value_x u f)

any_value : (u : Follows) (x : ℕ) → Value (λ v. Unit {0}) u x
any_value x_alone x = λ z. tt
any_value x_and_entry x = λ z. tt
any_value long_x x = λ z. tt

-- nothing is asked of the frame
pub any_values : (f : List ℕ) → Values (λ v. Unit {0}) f
any_values f = let u = (fields (code_at (byte 0 f))).follows in any_value u (value_x u f)

module _ (c : Config) (X : TockValue → Type 0) (self a b x : ℕ) (e : List ℕ) (l : Ledger) where
  abbrev called : Code → Call
  called k = record { code = k; self = self; a = a; b = b; x = x; bytes = e }

  abbrev Effect : Code → Type 0
  Effect k = Changes c X l (effect k c self a b x e (cond (fields k).service (set_outcome self plain l) l))

  plainly : Changes c X l (set_outcome self plain l)
  plainly = shows self plain l refl start

  unwaiting : (t : ℕ) → waiting l t ≡ false → waiting (set_outcome self plain l) t ≡ false
  unfolding set_outcome
  unwaiting t w = waiting_alters self t _ l refl ∙ w

  self_unwaiting : (k : Code) → (fields k).service ≡ true → Accepted c l (called k) → waiting (set_outcome self plain l) self ≡ false
  self_unwaiting k s g = unwaiting self (runs_unwaiting (task l self) (g.self s).runs)

  unless_0 : (z : Bool) → b ≤ c.S + c.T → Changes c X l (cond z l (signal b l).ledger)
  unless_0 true h = start
  unless_0 false h = signals b l h start

  effects : (k : Code) → Value X (fields k).follows x → Named c l → Accepted c l (called k) → Effect k
  unfolding effect fields meets25 wait execute withdraw_wait set_semaphores set_timers set_mailbox set_task set_outcome semaphore_of mailbox start_timer insert_timer purge meets21 would_wait_on refused21 empty full queue inamailbox send set_message_wait set_blocks task
  effects WAIT h n g = shows self (semaphore b) _ refl (waited_by (semaphore_of l b) self b _ refl (g.self refl).number (self_unwaiting WAIT refl g) plainly)
  effects SIGNAL h n g = shows self (woke _) _ refl (signals b _ g.B.upto plainly)
  effects PEND h n g = plainly ⨾ pends b g.not21
  effects SEND h n g = sends self a b x _ (record { number = g.X.number; sender = (g.self refl).number; semaphore = g.B }) g.X.nowhere plainly
  effects SENDW h n g =
      sends self a b x _ (record { number = g.X.number; sender = (g.self refl).number; semaphore = g.B }) g.X.nowhere plainly
      ⨾ waits self b (g.self refl).number (send_unwaiting self a b x self (set_outcome self plain l) (self_unwaiting SENDW refl g)) g.not21
  effects RECEIVE h n g = issues self (receive a) _ g.A (g.self refl).number (self_unwaiting RECEIVE refl g) refl plainly
  effects DEQUEUE h n g = issues self (dequeue a) _ g.A (g.self refl).number (self_unwaiting DEQUEUE refl g) g.not21 plainly
  effects ENQUEUE h n g = issues self (enqueue a e) _ (g.A, g.entry) (g.self refl).number (self_unwaiting ENQUEUE refl g) g.not21 plainly
  effects RESUME h n g = suspends a false _ plainly
  effects SUSPEND h n g = suspends a true _ plainly
  effects TERMINATE h n g = terminates a _ (n.messages a) plainly
  effects EXECUTE h n g = plainly ⨾ restarts a _ (record { slot = refl; outcome = λ e o. no_entry_lem begin e refl o; request = refl })
  effects DELAY h n g =
      plainly ⨾ starts_timer a b _ g.A g.B (h g.X.some) g.X.free ⨾ waits a b g.A (unwaiting a (idle_unwaiting l a g.not25)) g.not21
  effects TIMER h n g = plainly ⨾ starts_timer a b _ g.A g.B (h g.X.some) g.X.free
  effects PURGE h n g = plainly ⨾ stops_timers _ (part_keep _ _)
  effects TICK h n g = ticked l n.timers start
  effects EXIT h n g = unless_0 (eqb b 0) g.B
  effects SEASON_TIMER h n g = plainly ⨾ starts_timer a b _ g.A g.B (h g.X.some) g.X.free

pub accepts : (c : Config) (X : TockValue → Type 0) (f : List ℕ) (l : Ledger) → Values X f → Named c l → refusal c l f ≡ 0 → Changes c X l (accept c f l)
unfolding accept call
accepts c X f l h n e =
    let k = call c (running l) f in
    effects c X k.self k.a k.b k.x k.bytes l k.code h n (accepted c l f n.tasks e)

-- ---- an issue in settling

again : {c : Config} {X : TockValue → Type 0} {l₀ : Ledger} (t : ℕ) (r : Request) (l : Ledger) → Asks c r → Numbered c.T t → waiting l t ≡ false
    → Changes c X l₀ l → Changes c X l₀ (issue_again c t r l)
unfolding issue_again
again {c} {X} {l₀} t r l a s w k = go (refused21 c r l) refl
  where
    go : (b : Bool) → refused21 c r l ≡ b → Changes c X l₀ (cond b (set_outcome t (refused 21) l) (issue c t r l))
    go true e = shows t (refused 21) l refl k
    go false e = issues t r l a s w e k

pub reissues : (c : Config) (X : TockValue → Type 0) (l : Ledger) → Named c l → is_open (open_request l) ≡ true → Changes c X l (reissue c l)
unfolding reissue open_request set_request
reissues c X l n o =
    let t = running l in
    again t (open_request l) _ (n.requests t) (rw n.tasks at (running_named l o)) (waiting_alters t t _ l refl ∙ runs_unwaiting (task l t) (running_runs l o)) (asks t none l tt start)
