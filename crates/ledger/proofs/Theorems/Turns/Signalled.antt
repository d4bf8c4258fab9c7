-- What a turn does: in the frame of the tick its semaphore is signalled, once for each timer on it that is due, and a task that waited on it waits no longer, unless it has an open request.
-- The signals come last in the frame, and settling touches a queue's semaphores alone.
use Rattle.std.specs.Prelude.{ℕ, suc, ◌+◌, ◌*◌, ◌≡◌, refl, Bool, true, cond, ◌||◌, eqb}
use Rattle.std.proofs.Common.{sym, ◌∙◌, subst, arith, eqb-true}
use Rattle.std.proofs.Math.Path.{ap}
use Rattle.std.proofs.Math.Bool.{false}
use mathlib.Core.List.{List, [], ◌∷◌, map}
use Rattle.std.proofs.lemmas.Bool.{eqb-false}
use Rattle.std.proofs.Math.ListN.{length}
use Rattle.ledger.specs.Lists.{byte, any}
use Rattle.ledger.specs.Config.{Config, config_in, config_refusal}
use Rattle.ledger.specs.Ledger.{Semaphore, PENDING, DONE, WAITING, Timer, Ledger, task, semaphore_of, set_timers, set_clock}
use Rattle.ledger.specs.Services.{signalled, signal, signal_all}
use Rattle.ledger.specs.Refusals.{is_of, refusal}
use Rattle.ledger.specs.Session.{Settles, is_open, accept, step, run}
use Rattle.ledger.specs.Turns.{passes_tock, signalled_once, after_signals, removed, has_turn}
use Rattle.ledger.specs.Good.{Numbered}
use Rattle.ledger.proofs.Theorems.Items.{at_put_same}
use Rattle.ledger.proofs.Theorems.Checks.{and_right, never, cond_both}
use Rattle.ledger.proofs.Theorems.Parts.{Every, nil, cons, part_keep, every_to, every_part, every_map, every_unmap}
use Rattle.ledger.proofs.Theorems.Signals.{other_signal}
use Rattle.ledger.proofs.Theorems.Configured.{configured}
use Rattle.ledger.proofs.Theorems.Sizes.{sizes, sizes_of, of_signal, sizes_kept, step_is_the_loop}
use Rattle.ledger.proofs.Theorems.Tocks.{renewed, signalled_by}
use Rattle.ledger.proofs.Theorems.Changes.{updates}
use Rattle.ledger.proofs.Theorems.Named.{Timed, Named}
use Rattle.ledger.proofs.Theorems.Kept.{accept_named}
use Rattle.ledger.proofs.Theorems.HandedOver.{ready_run}
use Rattle.ledger.proofs.Theorems.Told.{waits}
use Rattle.ledger.proofs.Theorems.Freed.Tasks.{of_signal_all, rests_on, Woken, all_woken}
use Rattle.ledger.proofs.Theorems.Freed.Semaphores.{Unwaited, all_unwaited, semaphore_on, unwaited_on}
use Rattle.ledger.proofs.Theorems.Turns.Frames.{signals_last, turn_passes, turn_accepted}

-- after the frame f with a turn on semaphore b, in the ledger l
pub record Turned (c : Config) (f : List ℕ) (l : Ledger) (b : ℕ) : Type 0 where
  -- it has been signalled by each timer on it that was due, and is not WAITING
  pub state : semaphore_of (step c f l).ledger b ≡ after_signals b (map (λ t. t.semaphore) (removed c l f)) (semaphore_of l b)
  pub unwaited : Unwaited (step c f l).ledger b
  -- a task that it was WAITING for has no event wait any more, before settling; nor has it after the frame, unless it had an open request, which settling may have issued again
  pub freed : (t : ℕ) → semaphore_of l b ≡ WAITING t → waits (accept c f l) t ≡ false
  pub stays : (t : ℕ) → semaphore_of l b ≡ WAITING t → is_open (task l t).request ≡ false → waits (step c f l).ledger t ≡ false

-- ---- a list of signals

here_signalled : (s : Semaphore) (b : ℕ) (l : Ledger) → Numbered (length l.semaphores) b → semaphore_of (signalled s b l).ledger b ≡ signalled_once s
unfolding updates signalled signalled_once
here_signalled PENDING b l n = at_put_same l.semaphores b DONE PENDING n
here_signalled DONE b l n = at_put_same l.semaphores b DONE PENDING n
here_signalled (WAITING t) b l n = at_put_same l.semaphores b PENDING PENDING n

one_signal : (d b : ℕ) (l : Ledger) → Numbered (length l.semaphores) b → semaphore_of (signal d l).ledger b ≡ cond (eqb d b) (signalled_once (semaphore_of l b)) (semaphore_of l b)
unfolding signal
one_signal d b l n = go (eqb d b) refl
  where
    go : (q : Bool) → eqb d b ≡ q → semaphore_of (signal d l).ledger b ≡ cond q (signalled_once (semaphore_of l b)) (semaphore_of l b)
    go true q = subst (λ i. semaphore_of (signal i l).ledger b ≡ signalled_once (semaphore_of l b)) (sym (eqb-true d b q)) (here_signalled (semaphore_of l b) b l n)
    go false q = other_signal d b l (λ e. eqb-false d b q (sym e))

signals_state : (ds : List ℕ) (b : ℕ) (l : Ledger) → Numbered (length l.semaphores) b → semaphore_of (signal_all ds l) b ≡ after_signals b ds (semaphore_of l b)
unfolding signal_all after_signals sizes
signals_state [] b l n = refl
signals_state (d ∷ ds) b l n =
    let k = (signal d l).ledger in
    let same : length k.semaphores ≡ length l.semaphores = ap (λ s. s.semaphores) (of_signal d l) in
    signals_state ds b k (record { from = n.from; upto = omega (arith, n.upto) }) ∙ ap (after_signals b ds) (one_signal d b l n)

-- ---- the turn's own timer is among those due

its_own : (Q : ℕ → Type 0) (a b : ℕ) (ts : List Timer) → any (is_of a b) ts ≡ true → Every (λ t. Q t.semaphore) ts → Q b
unfolding any
its_own Q a b [] e nil = never e
its_own Q a b (t ∷ ts) e (cons p ps) = go (is_of a b t) refl e (λ k. its_own Q a b ts k ps)
  where
    go : (q : Bool) → is_of a b t ≡ q → (q || any (is_of a b) ts) ≡ true → (any (is_of a b) ts ≡ true → Q b) → Q b
    go true q k ih = subst Q (eqb-true t.semaphore b (and_right (eqb t.task a) _ q)) p
    go false q k ih = ih k

-- ---- the frame

module _ (c : Config) (f : List ℕ) (l : Ledger) (named : Named c l) (sized : sizes l ≡ sizes_of c) (a b : ℕ) (turn : has_turn c l f a b ≡ true) where
  abbrev due : List ℕ
  due = signalled_by (removed c l f)

  -- before the signals
  abbrev passed : Ledger
  passed = set_timers (renewed (suc l.N) l.timers) (set_clock (suc l.N) 0 l)

  is : accept c f l ≡ signal_all due passed
  is = signals_last c l f (turn_passes c l f a b turn)

  settled : Settles c (accept c f l) (byte 2 (step c f l).answered) (step c f l).ledger
  settled = step_is_the_loop c f l named.tasks (turn_accepted c l f a b turn)

  still_named : Named c (accept c f l)
  still_named = accept_named c f l named (turn_accepted c l f a b turn)

  -- what holds of each semaphore that is signalled holds of b
  among : (Q : ℕ → Type 0) → Every Q due → Q b
  unfolding has_turn
  among Q h = its_own Q a b (removed c l f) turn (every_unmap (λ t. t.semaphore) (removed c l f) h)

  timed : Every (Timed c) (removed c l f)
  unfolding removed set_clock
  timed = cond_both (Every (Timed c)) (passes_tock c l.ticks (refusal c l f) f) _ [] (every_part (part_keep _ l.timers) named.timers) nil

  low : Numbered (c.S + c.T) b
  low = among (Numbered (c.S + c.T)) (every_map (λ t. t.semaphore) (every_to (λ t h. h.semaphore) timed))

  turned : Turned c f l b
  unfolding updates sizes sizes_of
  turned =
      let there : length l.semaphores ≡ c.S + c.T + 2 * c.Q = ap (λ s. s.semaphores) sized in
      let woken : (t : ℕ) → semaphore_of l b ≡ WAITING t → waits (accept c f l) t ≡ false = λ t e. ap (λ k. waits k t) is ∙ among (Woken due passed) (all_woken due passed) t e in
      record {
        state =
            semaphore_on c b low.upto settled still_named ∙ ap (λ k. semaphore_of k b) is
            ∙ signals_state due b passed (record { from = low.from; upto = omega (arith, low.upto, there) });
        unwaited = unwaited_on c b low.upto settled still_named (subst (λ k. Unwaited k b) (sym is) (among (Unwaited (signal_all due passed)) (all_unwaited due passed)));
        freed = woken;
        stays = λ t e o. (rests_on settled t (record {
          closed = ap (λ k. is_open (task k t).request) is ∙ of_signal_all t (λ k. is_open k.request ≡ false) (λ k p. p) due passed o;
          unblocked = woken t e;
        })).unblocked;
      }

-- behind every list of frames
pub turn_signals : (g : List ℕ) → config_refusal g ≡ 0 → (fs : List (List ℕ)) (f : List ℕ)
    → let c = config_in g in let l = (run c fs).0 in (a b : ℕ) → has_turn c l f a b ≡ true → Turned c f l b
turn_signals g h fs f a b t =
    let c = config_in g in
    let k = (configured g h).states in
    turned c f (run c fs).0 (ready_run c k fs).named (sizes_kept c fs k) a b t
