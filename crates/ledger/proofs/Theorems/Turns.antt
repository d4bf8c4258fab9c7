-- A timer misses no turn: after n tocks a cyclic one of period p has signalled n / p times, a one-shot of p once if n is at least p.
-- While it is there it is due p tocks after its last turn, and after N: so it is removed at just that tock, and no other frame touches it.
use Rattle.std.specs.Prelude.{ℕ, suc, ◌+◌, ◌*◌, ◌-◌, ◌/◌, ◌≤◌, ◌<◌, ◌≡◌, refl, Bool, true, false, cond, not, List, [], ◌∷◌, ◌++◌, leb}
use Rattle.std.proofs.Common.{sym, ◌∙◌, ap, suc-mul, arith}
use borrow.Author.Tests.{ne_eqb, leb-true, leb-false, le-leb, lt-leb, not-true}
use Rattle.std.proofs.Math.Arith.{digits_div}
use Rattle.ledger.specs.Lists.{Bytes, keep}
use Rattle.ledger.specs.Config.{Config}
use Rattle.ledger.specs.Time.{TockValue, none, one_shot, cyclic, tocks as tocksOf, period as periodOf}
use Rattle.ledger.specs.Ledger.{Ledger, running, fresh}
use Rattle.ledger.specs.Refusals.{is_of, have_timer, refusal}
use Rattle.ledger.specs.Session.{step, run_from, run}
use Rattle.ledger.specs.Turns.{Starts, ends, Moment, turns, spared, turns_in, has_turn, moments, MissesNoTurn}
use Rattle.ledger.proofs.Theorems.Checks.{and_left, and_right}
use Rattle.ledger.proofs.Theorems.Keeps.{keep_insert_by_only}
pub mod Renewed
pub mod Codes
pub mod Clock
pub mod Frames
pub mod Pair
pub mod Passed
pub mod Signalled
use Clock.{timer_for}
use Frames.{Inserts, a_start, step_tock}
use Pair.{timer, is_own, there, gone, free, After, stays, ended, turned, after}

-- a has one timer on b: this one, and it is due after N
record Stands (a b d q : ℕ) (l : Ledger) : Type 0 where
  alone : keep (is_of a b) l.timers ≡ timer a b d q ∷ []
  later : l.N < d

have : {a b d q : ℕ} {l : Ledger} → Stands a b d q l → have_timer l a b ≡ true
have {a} {b} {l} s = there a b l s.alone

-- ---- the counts, frame by frame

module _ (c : Config) (a b : ℕ) (l : Ledger) (f : List ℕ) (fs : List (List ℕ)) where
  abbrev next : Ledger
  next = (step c f l).ledger

  abbrev all_moments : List Moment
  all_moments = moments c a b l (f ∷ fs)

  abbrev later_moments : List Moment
  later_moments = moments c a b next fs

  count_none : has_turn c l f a b ≡ false → have_timer next a b ≡ true → turns all_moments ≡ turns later_moments
  unfolding turns moments
  count_none e h = rw (e, h) (omega arith)

  count_one : has_turn c l f a b ≡ true → have_timer next a b ≡ true → turns all_moments ≡ suc (turns later_moments)
  unfolding turns moments
  count_one e h = rw (e, h) (omega arith)

  count_gone : has_turn c l f a b ≡ true → have_timer next a b ≡ false → turns all_moments ≡ 1
  unfolding turns moments
  count_gone e h = rw (e, h)

  spared_now : spared all_moments ≡ true → ends c (running l) (refusal c l f) f a b ≡ false
  unfolding spared moments
  spared_now h = not-true _ (and_left (not (ends c (running l) (refusal c l f) f a b)) _ h)

  spared_later : spared all_moments ≡ true → have_timer next a b ≡ true → spared later_moments ≡ true
  unfolding spared moments
  spared_later h t = rw t at (and_right (not (ends c (running l) (refusal c l f) f a b)) _ h)

-- N never falls
run_n : (c : Config) (l : Ledger) (fs : List (List ℕ)) → l.N ≤ (run_from c l fs).0.N
unfolding run_from
run_n c l [] = omega arith
run_n c l (f ∷ fs) = omega (arith, run_n c (step c f l).ledger fs, step_tock c l f)

-- ---- a cyclic timer

-- n lies in the k-th period of p tocks after s
record Within (s p k n : ℕ) : Type 0 where
  from : s + k * p ≤ n
  upto : n < s + k * p + p

-- s is the tock of its last turn, or of its start
cyclic_turns : (c : Config) (a b p : ℕ) → 1 ≤ p → (s : ℕ) (l : Ledger) (fs : List (List ℕ)) → Stands a b (s + p) p l → s ≤ l.N → spared (moments c a b l fs) ≡ true
    → Within s p (turns (moments c a b l fs)) (run_from c l fs).0.N
unfolding run_from turns moments
cyclic_turns c a b p one s l [] h k e = record { from = omega arith; upto = omega arith }
cyclic_turns c a b p one s l (f ∷ fs) h k e = go (after c l f a b (s + p) p h.alone) (λ s t i j. cyclic_turns c a b p one s (step c f l).ledger fs t i j)
  where
    m : Ledger
    m = (step c f l).ledger

    go : After c l f a b (s + p) p m → ((s : ℕ) → Stands a b (s + p) p m → s ≤ m.N → spared (moments c a b m fs) ≡ true → Within s p (turns (moments c a b m fs)) (run_from c m fs).0.N)
        → Within s p (turns (moments c a b l (f ∷ fs))) (run_from c m fs).0.N
    go (stays t i n r g) ih =
        let g : Stands a b (s + p) p m = record { alone = g; later = r h.later } in
        rw (count_none c a b l f fs t (have g)) (ih s g (omega arith) (spared_later c a b l f fs e (have g)))
    go (ended t i g) ih = let z : ◌≡◌ {A = ℕ} 0 1 = cc (spared_now c a b l f fs e) in absurd (omega arith)
    go (turned t i n r g) ih =
        let now : m.N ≡ s + p = omega (arith, h.later) in
        let g : Stands a b (s + p + p) p m = record { alone = g ∙ rw (ne_eqb p 0 (omega arith), now); later = omega arith } in
        let i = ih (s + p) g (omega arith) (spared_later c a b l f fs e (have g)) in
        rw (count_one c a b l f fs t (have g)) (record { from = omega (arith, i.from, suc-mul (turns (moments c a b m fs)) p); upto = omega (arith, i.upto, suc-mul (turns (moments c a b m fs)) p) })

-- ---- a one-shot

one_turn : (c : Config) (a b d : ℕ) (l : Ledger) (fs : List (List ℕ)) → Stands a b d 0 l → spared (moments c a b l fs) ≡ true → turns (moments c a b l fs) ≡ cond (leb d (run_from c l fs).0.N) 1 0
unfolding run_from turns moments
one_turn c a b d l [] h e = rw (lt-leb d l.N h.later)
one_turn c a b d l (f ∷ fs) h e = go (after c l f a b d 0 h.alone) (λ t j. one_turn c a b d (step c f l).ledger fs t j)
  where
    m : Ledger
    m = (step c f l).ledger

    go : After c l f a b d 0 m → (Stands a b d 0 m → spared (moments c a b m fs) ≡ true → turns (moments c a b m fs) ≡ cond (leb d (run_from c m fs).0.N) 1 0)
        → turns (moments c a b l (f ∷ fs)) ≡ cond (leb d (run_from c m fs).0.N) 1 0
    go (stays t i n r g) ih =
        let g : Stands a b d 0 m = record { alone = g; later = r h.later } in
        count_none c a b l f fs t (have g) ∙ ih g (spared_later c a b l f fs e (have g))
    go (ended t i g) ih = let z : ◌≡◌ {A = ℕ} 0 1 = cc (spared_now c a b l f fs e) in absurd (omega arith)
    go (turned t i n r g) ih = count_gone c a b l f fs t (gone a b m g) ∙ rw (le-leb d (run_from c m fs).0.N (omega (arith, run_n c m fs)))

-- ---- from the start

begun_stands : {c : Config} {l m : Ledger} {f : List ℕ} {a b : ℕ} {v : TockValue} → 1 ≤ tocksOf v → Inserts c l f a b v m → Stands a b (m.N + tocksOf v) (periodOf v) m
unfolding timer_for
begun_stands {l} {a} {b} {v} one w = record {
  alone = ap (keep (is_of a b)) w.timers ∙ keep_insert_by_only (is_of a b) _ (timer_for a b v l.N) l.timers (is_own a b 0 0) (free a b l w.free) ∙ rw w.time.N;
  later = omega arith;
}

since : (s p n : ℕ) → s ≤ n → leb (s + p) n ≡ leb p (n - s)
since s p n h = go (leb p (n - s)) refl
  where
    go : (z : Bool) → leb p (n - s) ≡ z → leb (s + p) n ≡ z
    go true e = le-leb (s + p) n (omega (arith, leb-true p (n - s) e))
    go false e = lt-leb (s + p) n (omega (arith, leb-false p (n - s) e))

in_all : (s p k n : ℕ) → Within s p k n → (n - s) / p ≡ k
in_all s p k n w =
    let r = n - s - k * p in
    let e : n - s ≡ k * p + r = omega (arith, w.from) in
    ap (λ x. x / p) e ∙ digits_div k (omega (arith, w.from, w.upto))

turns_are : (c : Config) (m : Ledger) (fs : List (List ℕ)) (a b : ℕ) (v : TockValue) → 1 ≤ tocksOf v → Stands a b (m.N + tocksOf v) (periodOf v) m → spared (moments c a b m fs) ≡ true
    → turns (moments c a b m fs) ≡ turns_in v ((run_from c m fs).0.N - m.N)
unfolding turns_in tocksOf periodOf
turns_are c m fs a b none one s e = absurd (omega arith)
turns_are c m fs a b (one_shot p) one s e = one_turn c a b (m.N + p) m fs s e ∙ ap (λ z. cond z 1 0) (since m.N p (run_from c m fs).0.N (run_n c m fs))
turns_are c m fs a b (cyclic p) one s e = sym (in_all m.N p (turns (moments c a b m fs)) (run_from c m fs).0.N (cyclic_turns c a b p one m.N m fs s (omega arith) e))

-- from any ledger
pub misses_from : (c : Config) (l : Ledger) (f : List ℕ) (after : List (List ℕ)) (a b : ℕ) (v : TockValue) → Bytes f → Starts c (running l) (refusal c l f) f a b v
    → let m = (step c f l).ledger in
    let its = moments c a b m after in
    spared its ≡ true → turns its ≡ turns_in v ((run_from c m after).0.N - l.N)
misses_from c l f after a b v h s e =
    let m = (step c f l).ledger in
    let w = a_start c l f s in
    let one = w.one h in
    turns_are c m after a b v one (begun_stands one w) e ∙ ap (λ i. turns_in v ((run_from c m after).0.N - i)) w.time.N

-- from the fresh start
run_joined : (c : Config) (l : Ledger) (before after : List (List ℕ)) → (run_from c l (before ++ after)).0 ≡ (run_from c (run_from c l before).0 after).0
unfolding run_from
run_joined c l [] after = refl
run_joined c l (f ∷ fs) after = run_joined c (step c f l).ledger fs after

pub misses_no_turn : MissesNoTurn
unfolding run run_from
misses_no_turn c before f after a b v h s e =
    let l = (run c before).0 in
    misses_from c l f after a b v h s e ∙ ap (λ (r : Ledger). turns_in v (r.N - l.N)) (sym (run_joined c (fresh c) before (f ∷ after)))
