-- A tick in two halves: the clock, with the tock that may pass for all timers, then the due timers one at a time. Together they are the ledger's tick.
use Rattle.std.specs.Prelude.{◌≡◌, refl, Bool, cond, not, ℕ, zero, suc, ◌+◌, ◌≤◌, length, get_or}
use Rattle.std.proofs.Common.{sym, ap, ◌∙◌, subst, add-one, arith}
use Rattle.std.proofs.Math.Bool.{true, false}
use mathlib.Core.List.{List, map}
use Rattle.std.proofs.Math.Dec.{ltb}
use borrow.Author.Tests.{not-true, not-false}
use Rattle.ledger.specs.Config.{Config}
use Rattle.ledger.specs.Ledger.{Ledger, set_clock}
use Rattle.ledger.specs.Services.{signal, tick}
use Rattle.ledger.specs.Session.{TimerLeft, timer_left}
use Rattle.timers.specs.Timers.{tocked, due_in, taken_due}
use Rattle.timers.specs.Shown.{shown_tock, shown_signal}
use Rattle.timers.specs.Drained.{drained, tock_is, next_due, take_due, one_fewer, shown_due, shown_take, drained_next, drain_ends}
use Rattle.tables.specs.declared.shape.Shape.{Shape}
use Rattle.tables.specs.Layout.{Regions, regions}
use Rattle.tables.specs.Shows.{ShowsAs, loosely, Does, Tells}
use Rattle.tables.specs.Items.{with_messages, clock_shown}
use Rattle.clock.specs.Held.{held_in, UprightIn}
use Rattle.clock.specs.Does.{DoesTimers, TellsTimers, held_of, held_shown}

-- the clock goes on by a tick, and no timer is worked off yet
unfoldable pub clocked : Config → Ledger → Ledger
clocked c L = cond (ltb (suc L.ticks) c.K) (set_clock L.N (suc L.ticks) L) (set_clock (suc L.N) 0 L)

-- n times a due timer is taken out, inserted again if it is cyclic, and signals its semaphore
unfoldable pub drained_times : ℕ → Ledger → Ledger
drained_times zero M = M
drained_times (suc n) M = drained_times n (signal (next_due M).semaphore (take_due M)).ledger

-- what one tick does: the memory goes on as the clock, and n is how many timers are left to work off
pub record Advanced (s : Shape) (d w d' w' : List ℕ) (n : ℕ) : Type 0 where
  pub few : n ≤ s.timers
  pub enough : n ≤ due_in (held_in s w')
  pub clock : {tidy : Bool} (c : Config) (L : Ledger) (z : List ℕ) → ShowsAs tidy c s L d z w → ShowsAs tidy c s (clocked c L) d' z w'
  pub whole : {tidy : Bool} (c : Config) (L : Ledger) (z : List ℕ) → ShowsAs tidy c s L d z w → tick c L ≡ drained_times n (clocked c L)

-- ---- as often as timers are due, it is the ledger's tock
drained_times_lem : (n : ℕ) (M : Ledger) (l : List TimerLeft) → map (timer_left M) M.timers ≡ l → due_in l ≡ n → drained M ≡ drained_times n M
unfolding drained_times
drained_times_lem zero M l shown e = drain_ends M shown e
drained_times_lem (suc n) M l shown e =
    sym (drained_next M (omega (arith, shown_due M shown)))
    ∙ drained_times_lem n (signal (next_due M).semaphore (take_due M)).ledger (taken_due l) (shown_signal (take_due M) (shown_take M shown) (next_due M).semaphore) (omega (arith, one_fewer l (omega arith)))

-- ---- a tock has passed for the timers of the block
pub tock_does : {tidy : Bool} (c : Config) (s : Shape) (L : Ledger) (d z w w' : List ℕ) → ShowsAs tidy c s L d z w → length w' ≡ length w → held_in s w' ≡ map tocked (held_in s w) → get_or w' 0 0 ≡ get_or w 0 0 → (tidy ≡ true → UprightIn w')
    → ShowsAs tidy c s (set_clock (suc L.N) L.ticks L) d z w'
unfolding set_clock timer_left with_messages
tock_does c s L d z w w' h e new same neat =
    let p : Regions = regions s d in
    record {
      of = h.of;
      room = h.room;
      slots = h.slots;
      counted = omega (arith, h.counted);
      shown = clock_shown c L p z w h.shown p.clock w' (suc L.N) L.ticks refl h.shown.ticks
          (shown_tock L (held_shown c s L d z w h) ∙ sym new ∙ held_of h.of w') (λ q. (h.shown.tidily q).ticks) (λ q. (subst (λ (x : ℕ). x ≤ c.R) (sym same) (h.shown.tidily q).timers.0, neat q));
    }

-- ---- both ways of a tick, from what is known of the tables and of the timers' block
module _ (s : Shape) (d w d' : List ℕ) where
  pub no_tock : (b : Bool) → b ≡ false → Tells s d (λ c L. not (ltb (suc L.ticks) c.K)) b → Does s d d' (λ c L. set_clock L.N (cond b 0 (suc L.ticks)) L)
      → Advanced s d w d' w 0
  unfolding clocked tick drained_times
  no_tock b e tells does =
      let test : (tidy : Bool) (c : Config) (L : Ledger) (z : List ℕ) → ShowsAs tidy c s L d z w → ltb (suc L.ticks) c.K ≡ true = λ tidy c L z h. not-false _ (sym (tells c L z w (loosely h)) ∙ e) in
      record {
        few = omega arith;
        enough = omega arith;
        clock = λ {tidy} c L z h. rw (test tidy c L z h) (rw e at (does tidy c L z w h));
        whole = λ {tidy} c L z h. rw (test tidy c L z h);
      }

  pub a_tock : (b : Bool) → b ≡ true → Tells s d (λ c L. not (ltb (suc L.ticks) c.K)) b → Does s d d' (λ c L. set_clock L.N (cond b 0 (suc L.ticks)) L)
      → (w' : List ℕ) (n : ℕ) → n ≤ s.timers → n ≡ due_in (held_in s w') → DoesTimers s w w' (λ c L. set_clock (suc L.N) L.ticks L) → Advanced s d w d' w' n
  unfolding clocked tick set_clock
  a_tock b e tells does w' n f due passes =
      let test : (tidy : Bool) (c : Config) (L : Ledger) (z : List ℕ) → ShowsAs tidy c s L d z w → ltb (suc L.ticks) c.K ≡ false = λ tidy c L z h. not-true _ (sym (tells c L z w (loosely h)) ∙ e) in
      let shows : (tidy : Bool) (c : Config) (L : Ledger) (z : List ℕ) → ShowsAs tidy c s L d z w → ShowsAs tidy c s (set_clock (suc L.N) 0 L) d' z w' = λ tidy c L z h. passes tidy c (set_clock L.N 0 L) d' z (rw e at (does tidy c L z w h)) in
      record {
        few = f;
        enough = omega arith;
        clock = λ {tidy} c L z h. rw (test tidy c L z h) (shows tidy c L z h);
        whole = λ {tidy} c L z h.
            let M : Ledger = set_clock (suc L.N) 0 L in
            rw (test tidy c L z h) (tock_is M ∙ drained_times_lem n M (held_in s w') (held_shown c s M d' z w' (shows tidy c L z h)) (sym due));
      }

-- ---- for a caller's loop, which takes a due timer and signals its semaphore n times

-- the last of them
drained_last : (n : ℕ) (M : Ledger) → drained_times (suc n) M ≡ (signal (next_due (drained_times n M)).semaphore (take_due (drained_times n M))).ledger
unfolding drained_times
drained_last zero M = refl
drained_last (suc n) M = drained_last n (signal (next_due M).semaphore (take_due M)).ledger

-- k turns lead from the memory d₀, w₀ where the loop begins to d, w
abbrev pub Turned : Shape → (d₀ w₀ d w : List ℕ) → ℕ → Type 0
Turned s d₀ w₀ d w k = (tidy : Bool) (c : Config) (M : Ledger) (z : List ℕ) → ShowsAs tidy c s M d₀ z w₀ → ShowsAs tidy c s (drained_times k M) d z w

pub no_turn : (s : Shape) (d w : List ℕ) → Turned s d w d w 0
unfolding drained_times
no_turn s d w tidy c M z h = h

module _ (s : Shape) (d₀ w₀ d w : List ℕ) where
  pub turn_done : (d' w' : List ℕ) (k b : ℕ) → Turned s d₀ w₀ d w k → TellsTimers s w (λ c L. (next_due L).semaphore) b → DoesTimers s w w' (λ c L. take_due L)
      → Does s d d' (λ c L. (signal b L).ledger) → Turned s d₀ w₀ d' w' (k + 1)
  turn_done d' w' k b t tells takes signals tidy c L z h =
      let M : Ledger = drained_times k L in
      let g : ShowsAs tidy c s M d z w = t tidy c L z h in
      subst (λ (x : Ledger). ShowsAs tidy c s x d' z w')
      (ap (λ (x : ℕ). (signal x (take_due M)).ledger) (tells c M d z (loosely g)) ∙ sym (drained_last k L) ∙ ap (λ (x : ℕ). drained_times x L) (sym (add-one k)))
      (signals tidy c (take_due M) z w' (takes tidy c M d z g))

  -- as many turns as the tick asks for
  pub ticked : (d' w' : List ℕ) (n k : ℕ) → Advanced s d₀ w₀ d w n → Turned s d w d' w' k → k ≡ n
      → (tidy : Bool) (c : Config) (L : Ledger) (z : List ℕ) → ShowsAs tidy c s L d₀ z w₀ → ShowsAs tidy c s (tick c L) d' z w'
  ticked d' w' n k a t e tidy c L z h = rw (a.whole c L z h, ← e) (t tidy c (clocked c L) z (a.clock c L z h))
