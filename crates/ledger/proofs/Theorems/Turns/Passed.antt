-- How many tocks have passed: N is the number of ticks that were fed, divided by K and cut. No tick is refused, and no other frame counts one.
use Rattle.std.specs.Prelude.{ℕ, ◌+◌, ◌*◌, ◌/◌, ◌≤◌, ◌<◌, ◌≡◌, refl, Bool, true, false, cond, ◌&&◌, List, [], ◌∷◌, eqb, ltb, length}
use Rattle.std.proofs.Common.{sym, ◌∙◌, ap, suc-mul, arith, eqb-true, eq-eqb, ne_eqb, ltb-true, ltb-false}
use Rattle.std.proofs.Math.Bool.{and-true, and-false}
use Rattle.std.proofs.Math.Arith.{digits_div}
use Rattle.ledger.specs.Lists.{byte, at, first}
use Rattle.ledger.specs.Config.{Config}
use Rattle.ledger.specs.Ledger.{Ledger, semaphore_of, fresh}
use Rattle.ledger.specs.Refusals.{fields, code_at, call, wrong_length, wrong_task, wrong_semaphore, wrong_queue, is_message, is_tock_value, wrong_entry, would_wait_on, is_waiting, meets21, meets25, meets26, from_input, from_state, refusal}
use Rattle.ledger.specs.Session.{step, run_from, run}
use Rattle.ledger.specs.Turns.{accepted_as, is_tick, ticks_among}
use Rattle.ledger.proofs.Theorems.Turns.Frames.{Way, leaves, inserts, stops, counts, passes, way}

-- ---- a tick is refused for its length alone

tick_refusal : (c : Config) (l : Ledger) (f : List ℕ) → byte 0 f ≡ 0x10 → refusal c l f ≡ cond (ltb (length f) 5) 2 (cond (ltb 5 (length f)) 2 0)
unfolding refusal from_input from_state first call code_at at fields wrong_length wrong_task wrong_semaphore wrong_queue is_message is_tock_value wrong_entry meets25 meets26 meets21 would_wait_on is_waiting semaphore_of
tick_refusal c l f h = rw h

five : (n : ℕ) → eqb (cond (ltb n 5) 2 (cond (ltb 5 n) 2 0)) 0 ≡ eqb n 5
five n = go (ltb n 5) (ltb 5 n) refl refl
  where
    go : (x y : Bool) → ltb n 5 ≡ x → ltb 5 n ≡ y → eqb (cond x 2 (cond y 2 0)) 0 ≡ eqb n 5
    go true y e f = let h = ltb-true n 5 e in sym (ne_eqb n 5 (omega arith))
    go false true e f = let h = ltb-true 5 n f in sym (ne_eqb n 5 (omega arith))
    go false false e f = let h = ltb-false n 5 e in let k = ltb-false 5 n f in sym (eq-eqb n 5 (omega arith))

accepts_tick : (c : Config) (l : Ledger) (f : List ℕ) → accepted_as (refusal c l f) f 0x10 ≡ is_tick f
unfolding accepted_as is_tick
accepts_tick c l f = go (eqb (byte 0 f) 0x10) refl
  where
    go : (b : Bool) → eqb (byte 0 f) 0x10 ≡ b → (eqb (refusal c l f) 0 && b) ≡ (b && eqb (length f) 5)
    go false e = and-false (eqb (refusal c l f) 0)
    go true e = ap (λ n. eqb n 0 && true) (tick_refusal c l f (eqb-true (byte 0 f) 0x10 e)) ∙ ap (λ z. z && true) (five (length f)) ∙ and-true (eqb (length f) 5)

-- ---- the time after t ticks

record Time (c : Config) (t : ℕ) (l : Ledger) : Type 0 where
  all : l.N * c.K + l.ticks ≡ t
  few : l.ticks < c.K

time_step : (c : Config) (f : List ℕ) (l : Ledger) (t : ℕ) → Time c t l → Time c (t + cond (is_tick f) 1 0) (step c f l).ledger
time_step c f l t h = go (way c l f)
  where
    m : Ledger
    m = (step c f l).ledger

    same : m.N ≡ l.N → m.ticks ≡ l.ticks → accepted_as (refusal c l f) f 0x10 ≡ false → Time c (t + cond (is_tick f) 1 0) m
    same n k a =
        let i : m.N * c.K ≡ l.N * c.K = ap (λ x. x * c.K) n in
        rw (sym (accepts_tick c l f) ∙ a) (record { all = omega (arith, h.all); few = omega (arith, h.few) })

    go : Way c l f m → Time c (t + cond (is_tick f) 1 0) m
    go (leaves w) = same w.time.N w.time.ticks w.time.no_tick
    go (inserts x y v i w) = same w.time.N w.time.ticks w.time.no_tick
    go (stops w) = same w.time.N w.time.ticks w.time.no_tick
    go (counts w) =
        let i : m.N * c.K ≡ l.N * c.K = ap (λ x. x * c.K) w.N in
        rw (sym (accepts_tick c l f) ∙ w.tick) (record { all = omega (arith, h.all, w.ticks); few = omega (arith, w.ticks, w.more) })
    go (passes w) =
        let i : m.N * c.K ≡ l.N * c.K + c.K = ap (λ x. x * c.K) w.N ∙ suc-mul l.N c.K in
        rw (sym (accepts_tick c l f) ∙ w.tick) (record { all = omega (arith, h.all, h.few, w.ticks, w.last); few = omega (arith, h.few, w.ticks) })

time_from : (c : Config) (fs : List (List ℕ)) (l : Ledger) (t : ℕ) → Time c t l → Time c (t + ticks_among fs) (run_from c l fs).0
unfolding run_from ticks_among
time_from c [] l t h = record { all = omega (arith, h.all); few = h.few }
time_from c (f ∷ fs) l t h =
    let k = time_from c fs (step c f l).ledger (t + cond (is_tick f) 1 0) (time_step c f l t h) in
    record { all = omega (arith, k.all); few = k.few }

-- from the fresh start, if there is a tick in a tock
pub tocks_are : (c : Config) → 1 ≤ c.K → (fs : List (List ℕ)) → (run c fs).0.N ≡ ticks_among fs / c.K
unfolding run fresh
tocks_are c k fs =
    let t = time_from c fs (fresh c) 0 (record { all = omega arith; few = omega arith }) in
    let all : ticks_among fs ≡ (run c fs).0.N * c.K + (run c fs).0.ticks = omega (arith, t.all) in
    sym (ap (λ x. x / c.K) all ∙ digits_div (run c fs).0.N t.few)
