-- What every accepted frame does to N, the ticks and the timers: only six codes touch them, and settling never does.
use Rattle.std.specs.Prelude.{ℕ, zero, suc, ◌+◌, ◌*◌, ◌%◌, ◌≡◌, refl, Bool, true, false, cond, not, ◌&&◌, ◌||◌, List, [], ◌∷◌, eqb, ltb}
use Rattle.std.proofs.Common.{◌∙◌, ap}
use Rattle.std.proofs.Math.Option.{Option, none as nothing, some}
use Rattle.ledger.specs.Lists.{keep, insert_by}
use Rattle.ledger.specs.Config.{Config}
use Rattle.ledger.specs.Time.{TockValue, tock_value, long_tock_value, tocks, period}
use Rattle.ledger.specs.Ledger.{Semaphore, PENDING, DONE, WAITING, plain, Request, none, receive, dequeue, enqueue, Message, Timer, Ledger, semaphore_of, running, set_outcome, set_request, set_suspended, set_message_wait, set_clock, set_timers}
use Rattle.ledger.specs.Services.{signalled, signal, signal_all, woken, wake_waiter, waited, wait, send, take_entry, put_entry, received, drop_messages, dequeued, enqueued, issue, terminate, execute, purge, tock, tick, Code, WAIT, SIGNAL, PEND, SEND, SENDW, RECEIVE, DEQUEUE, ENQUEUE, RESUME, SUSPEND, TERMINATE, EXECUTE, DELAY, TIMER, PURGE, TICK, EXIT, SEASON_TIMER, effect}
use Rattle.ledger.specs.Refusals.{fields, call, refusal}
use Rattle.ledger.specs.Session.{open_request, is_open, refused21, issue_again, reissue, settle, accept, step}
use Rattle.ledger.proofs.Theorems.Checks.{cond_both}
use Rattle.ledger.proofs.Theorems.Signals.{signals_keep}
use Rattle.ledger.proofs.Theorems.Tocks.{renewed, tock_is}
use Rattle.ledger.proofs.Theorems.Changes.{updates}

pub record Clock : Type 0 where
  pub N : ℕ
  pub ticks : ℕ
  pub timers : List Timer

abbrev pub clock : Ledger → Clock
clock l = record { N = l.N; ticks = l.ticks; timers = l.timers }

-- ---- what leaves it alone

of_signalled : (s : Semaphore) (b : ℕ) (l : Ledger) → clock (signalled s b l).ledger ≡ clock l
unfolding updates signalled
of_signalled PENDING b l = refl
of_signalled DONE b l = refl
of_signalled (WAITING t) b l = refl

of_signal : (b : ℕ) (l : Ledger) → clock (signal b l).ledger ≡ clock l
unfolding signal
of_signal b l = of_signalled (semaphore_of l b) b l

of_signal_all : (bs : List ℕ) (l : Ledger) → clock (signal_all bs l) ≡ clock l
of_signal_all bs l = signals_keep (λ m. clock m ≡ clock l) (λ b m e. of_signal b m ∙ e) bs l refl

of_woken : (s : Semaphore) (b : ℕ) (l : Ledger) → clock (woken s b l) ≡ clock l
unfolding woken
of_woken PENDING b l = refl
of_woken DONE b l = refl
of_woken (WAITING t) b l = of_signal b l

of_wake_waiter : (b : ℕ) (l : Ledger) → clock (wake_waiter b l) ≡ clock l
unfolding wake_waiter
of_wake_waiter b l = of_woken (semaphore_of l b) b l

of_waited : (s : Semaphore) (t b : ℕ) (l : Ledger) → clock (waited s t b l) ≡ clock l
unfolding updates waited
of_waited PENDING t b l = refl
of_waited DONE t b l = refl
of_waited (WAITING u) t b l = refl

of_received : (t a : ℕ) (o : Option Message) (l : Ledger) → clock (received t a o l) ≡ clock l
unfolding updates set_request set_message_wait received
of_received t a nothing l = refl
of_received t a (some m) l = refl

of_dequeued : (c : Config) (t q : ℕ) (es : List (List ℕ)) (l : Ledger) → clock (dequeued c t q es l) ≡ clock l
unfolding updates set_request dequeued
of_dequeued c t q [] l = refl
of_dequeued c t q (e ∷ es) l = of_wake_waiter _ (take_entry c t q e l)

of_enqueued : (c : Config) (t q : ℕ) (e : List ℕ) (b : Bool) (l : Ledger) → clock (enqueued c t q e b l) ≡ clock l
unfolding updates set_request enqueued
of_enqueued c t q e true l = refl
of_enqueued c t q e false l = of_wake_waiter _ (put_entry q e l)

of_issue : (c : Config) (t : ℕ) (r : Request) (l : Ledger) → clock (issue c t r l) ≡ clock l
unfolding issue
of_issue c t none l = refl
of_issue c t (receive a) l = of_received t a _ l
of_issue c t (dequeue q) l = of_dequeued c t q _ l
of_issue c t (enqueue q e) l = of_enqueued c t q e _ l

of_reissue : (c : Config) (l : Ledger) → clock (reissue c l) ≡ clock l
unfolding updates set_request reissue issue_again
of_reissue c l =
    let m = set_request (running l) none l in
    cond_both (λ k. clock k ≡ clock l) (refused21 c (open_request l) m) _ _ refl (of_issue c (running l) (open_request l) m)

of_settle : (k : ℕ) (c : Config) (l : Ledger) → clock (settle k c l).ledger ≡ clock l
unfolding settle
of_settle zero c l = refl
of_settle (suc k) c l = go (is_open (open_request l)) refl (of_settle k c (reissue c l))
  where
    go : (b : Bool) → is_open (open_request l) ≡ b → clock (settle k c (reissue c l)).ledger ≡ clock (reissue c l) → clock (settle (suc k) c l).ledger ≡ clock l
    go false e ih = rw (e, settle)
    go true e ih = rw (e, settle) (ih ∙ of_reissue c l)

-- ---- what doesn't

unfoldable pub timer_for : (a b : ℕ) → TockValue → ℕ → Timer
timer_for a b v n = record { task = a; semaphore = b; due = n + tocks v; period = period v }

abbrev with_timers : List Timer → Clock → Clock
with_timers ts k = record { N = k.N; ticks = k.ticks; timers = ts }

unfoldable pub started : (a b : ℕ) → TockValue → Clock → Clock
started a b v k = with_timers (insert_by (λ t. t.due) (timer_for a b v k.N) k.timers) k

unfoldable pub ticked : Config → Clock → Clock
ticked c k = cond (ltb (suc k.ticks) c.K) (record { N = k.N; ticks = suc k.ticks; timers = k.timers }) (record { N = suc k.N; ticks = 0; timers = renewed (suc k.N) k.timers })

unfoldable pub clock_after : Code → Config → (a b x : ℕ) → Clock → Clock
clock_after WAIT c a b x k = k
clock_after SIGNAL c a b x k = k
clock_after PEND c a b x k = k
clock_after SEND c a b x k = k
clock_after SENDW c a b x k = k
clock_after RECEIVE c a b x k = k
clock_after DEQUEUE c a b x k = k
clock_after ENQUEUE c a b x k = k
clock_after RESUME c a b x k = k
clock_after SUSPEND c a b x k = k
clock_after TERMINATE c a b x k = with_timers (keep (λ t. not (eqb t.task a)) k.timers) k
clock_after EXECUTE c a b x k = k
clock_after DELAY c a b x k = started a b (tock_value x) k
clock_after TIMER c a b x k = started a b (tock_value x) k
clock_after PURGE c a b x k = with_timers (keep (λ t. not (eqb t.task a && (eqb (x % 256) 0 || eqb t.semaphore b))) k.timers) k
clock_after TICK c a b x k = ticked c k
clock_after EXIT c a b x k = k
clock_after SEASON_TIMER c a b x k = started a b (long_tock_value x) k

of_tock : (l : Ledger) → clock (tock l) ≡ record { N = l.N; ticks = l.ticks; timers = renewed l.N l.timers }
unfolding set_timers
of_tock l = ap clock (tock_is l) ∙ of_signal_all _ (set_timers (renewed l.N l.timers) l)

of_tick : (c : Config) (l : Ledger) → clock (tick c l) ≡ ticked c (clock l)
unfolding tick ticked set_clock
of_tick c l = go (ltb (suc l.ticks) c.K)
  where
    go : (b : Bool) → clock (cond b (set_clock l.N (suc l.ticks) l) (tock (set_clock (suc l.N) 0 l)))
        ≡ cond b (record { N = l.N; ticks = suc l.ticks; timers = l.timers }) (record { N = suc l.N; ticks = 0; timers = renewed (suc l.N) l.timers })
    go true = refl
    go false = of_tock (set_clock (suc l.N) 0 l)

of_effect : (k : Code) (c : Config) (s a b x : ℕ) (e : List ℕ) (l : Ledger) → clock (effect k c s a b x e l) ≡ clock_after k c a b x (clock l)
unfolding updates set_request set_suspended set_message_wait effect clock_after started timer_for wait send drop_messages terminate execute purge
of_effect WAIT c s a b x e l = of_waited (semaphore_of l b) s b l
of_effect SIGNAL c s a b x e l = of_signal b l
of_effect PEND c s a b x e l = refl
of_effect SEND c s a b x e l = refl
of_effect SENDW c s a b x e l = refl
of_effect RECEIVE c s a b x e l = of_issue c s _ l
of_effect DEQUEUE c s a b x e l = of_issue c s _ l
of_effect ENQUEUE c s a b x e l = of_issue c s _ l
of_effect RESUME c s a b x e l = refl
of_effect SUSPEND c s a b x e l = refl
of_effect TERMINATE c s a b x e l = of_signal_all _ _
of_effect EXECUTE c s a b x e l = refl
of_effect DELAY c s a b x e l = refl
of_effect TIMER c s a b x e l = refl
of_effect PURGE c s a b x e l = refl
of_effect TICK c s a b x e l = of_tick c l
of_effect EXIT c s a b x e l = cond_both (λ m. clock m ≡ clock l) (eqb b 0) l (signal b l).ledger refl (of_signal b l)
of_effect SEASON_TIMER c s a b x e l = refl

of_accept : (c : Config) (f : List ℕ) (l : Ledger) → let k = call c (running l) f in clock (accept c f l) ≡ clock_after k.code c k.a k.b k.x (clock l)
unfolding updates accept
of_accept c f l =
    let k = call c (running l) f in
    let m = cond (fields k.code).service (set_outcome k.self plain l) l in
    let e : clock m ≡ clock l = cond_both (λ m. clock m ≡ clock l) (fields k.code).service (set_outcome k.self plain l) l refl refl in
    of_effect k.code c k.self k.a k.b k.x k.bytes m ∙ ap (clock_after k.code c k.a k.b k.x) e

-- an accepted frame
pub of_step : (c : Config) (f : List ℕ) (l : Ledger) → refusal c l f ≡ 0
    → let k = call c (running l) f in clock (step c f l).ledger ≡ clock_after k.code c k.a k.b k.x (clock l)
unfolding step
of_step c f l e = rw e (of_settle (2 * c.T) c (accept c f l) ∙ of_accept c f l)
