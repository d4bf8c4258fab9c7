-- The turns that a host would see of the ledger are the ledger's own: no turn is missed in what it sees, and each turn signals.
use Rattle.std.specs.Prelude.{ℕ, suc, ◌+◌, ◌-◌, ◌/◌, ◌≤◌, Bool}
use Rattle.std.proofs.Math.Path.{◌≡◌, refl, sym, ap, ap₂}
use Rattle.std.proofs.Common.{◌∙◌, subst, le-leb, leb-true, leb-false}
use Rattle.std.proofs.Math.Bool.{true, false, cond}
use mathlib.Core.List.{List, [], ◌∷◌, ◌++◌, map, map-map}
use native.Mathlib.Omega.{arith}
use Rattle.std.proofs.lemmas.Bool.{lt-leb}
use Rattle.std.proofs.Math.Dec.{leb}
use Rattle.ledger.specs.Lists.{Bytes, any, keep}
use Rattle.ledger.specs.Config.{Config, config_in, config_refusal}
use Rattle.ledger.specs.Time.{TockValue}
use Rattle.ledger.specs.Ledger.{Ledger, task, semaphore_of, running, set_clock, fresh}
use Rattle.ledger.specs.Services.{due, due_now}
use Rattle.ledger.specs.Refusals.{is_of, have_timer, refusal}
use Rattle.ledger.specs.Session.{timer_left, items, step, run_from, run}
use Rattle.ledger.specs.Turns.{Starts, ends, passes_tock, after_signals, turns, spared, turns_in, removed, has_turn, moments, ticks_among}
use Rattle.ledger.specs.Seen.{Seen, ran_before, tock_passed, tocks_seen, were_due, started_for, moment_in, NoTurnMissed, TocksAreFed, Signals, EachTurnSignals}
use Rattle.ledger.proofs.Theorems.Keeps.{keep_map, any_map}
use Rattle.ledger.proofs.Theorems.Turns.{misses_from}
use Rattle.ledger.proofs.Theorems.Turns.Frames.{a_start, step_tock}
use Rattle.ledger.proofs.Theorems.Turns.Passed.{tocks_are}
use Rattle.ledger.proofs.Theorems.Turns.Signalled.{Turned, turn_signals}

-- ---- what a host would see of the ledger

abbrev pub sight : Config → Ledger → List ℕ → Seen
sight c l f = record { frame = f; number = refusal c l f; before = items l; after = items (step c f l).ledger }

unfoldable pub sights : Config → Ledger → List (List ℕ) → List Seen
sights c l [] = []
sights c l (f ∷ fs) = sight c l f ∷ sights c (step c f l).ledger fs

-- ---- the timers, by the tocks left

one_left : (d n : ℕ) → leb d (suc n) ≡ leb (d - n) 1
one_left d n = go (leb d (suc n)) refl
  where
    go : (b : Bool) → leb d (suc n) ≡ b → b ≡ leb (d - n) 1
    go true e = let h = leb-true d (suc n) e in sym (le-leb (d - n) 1 (omega arith))
    go false e = let h = leb-false d (suc n) e in sym (lt-leb (d - n) 1 (omega arith))

module _ (c : Config) where
  due_seen : (l : Ledger) (f : List ℕ) → were_due c (sight c l f) ≡ map (timer_left l) (removed c l f)
  unfolding were_due tock_passed removed items timer_left due set_clock
  due_seen l f = go (passes_tock c l.ticks (refusal c l f) f)
    where
      go : (p : Bool) → cond p (keep (λ t. leb t.left 1) (map (timer_left l) l.timers)) [] ≡ map (timer_left l) (cond p (due_now (set_clock (suc l.N) 0 l)) [])
      go true = sym (keep_map (timer_left l) (due (set_clock (suc l.N) 0 l)) (λ t. leb t.left 1) (λ t. one_left t.due l.N) l.timers)
      go false = refl

  moment_seen : (a b : ℕ) (l : Ledger) (f : List ℕ)
      → moment_in c a b (sight c l f) ≡ record { turn = has_turn c l f a b; ended = ends c (running l) (refusal c l f) f a b; there = have_timer (step c f l).ledger a b }
  unfolding moment_in ran_before running items has_turn have_timer timer_left
  moment_seen a b l f =
      let m = (step c f l).ledger in
      let turn : any (started_for a b) (were_due c (sight c l f)) ≡ any (is_of a b) (removed c l f) =
      ap (any (started_for a b)) (due_seen l f) ∙ sym (any_map (timer_left l) (is_of a b) (started_for a b) (λ t. refl) (removed c l f)) in
      let there : any (started_for a b) (map (timer_left m) m.timers) ≡ any (is_of a b) m.timers = sym (any_map (timer_left m) (is_of a b) (started_for a b) (λ t. refl) m.timers) in
      rw (turn, there)

  moments_seen : (a b : ℕ) (l : Ledger) (fs : List (List ℕ)) → map (moment_in c a b) (sights c l fs) ≡ moments c a b l fs
  unfolding sights moments
  moments_seen a b l [] = refl
  moments_seen a b l (f ∷ fs) = ap₂ ◌∷◌ (moment_seen a b l f) (moments_seen a b (step c f l).ledger fs)

  -- ---- the tocks

  tocks_seen_lem : (l : Ledger) (fs : List (List ℕ)) → (run_from c l fs).0.N ≡ l.N + tocks_seen c (sights c l fs)
  unfolding run_from sights tocks_seen tock_passed items
  tocks_seen_lem l [] = omega arith
  tocks_seen_lem l (f ∷ fs) = omega (arith, tocks_seen_lem (step c f l).ledger fs, step_tock c l f)

  -- those seen first are those of the first frames
  record Front (l : Ledger) (earlier : List Seen) : Type 0 where
    frames : List (List ℕ)
    here : earlier ≡ sights c l frames
    fed : map (λ s. s.frame) earlier ≡ frames

  front : (l : Ledger) (fs : List (List ℕ)) (earlier later : List Seen) → sights c l fs ≡ earlier ++ later → Front l earlier
  unfolding sights
  front l fs [] later e = record { frames = []; here = refl; fed = refl }
  front l [] (s ∷ earlier) later e = let z : ◌≡◌ {A = ℕ} 0 1 = cc in absurd (omega arith)
  front l (f ∷ fs) (s ∷ earlier) later e =
      let k = front (step c f l).ledger fs earlier later (cc) in
      let this : s ≡ sight c l f = cc in
      record { frames = f ∷ k.frames; here = ap₂ ◌∷◌ this k.here; fed = ap₂ ◌∷◌ (ap (λ (z : Seen). z.frame) this) k.fed }

  pub tocks_fed : 1 ≤ c.K → (fs : List (List ℕ)) → TocksAreFed c (sights c (fresh c) fs)
  unfolding run fresh
  tocks_fed k fs earlier later e =
      let w = front (fresh c) fs earlier later e in
      let n : (run c w.frames).0.N ≡ tocks_seen c (sights c (fresh c) w.frames) = omega (arith, tocks_seen_lem (fresh c) w.frames) in
      ap (tocks_seen c) w.here ∙ sym n ∙ tocks_are c k w.frames ∙ ap (λ (gs : List (List ℕ)). ticks_among gs / c.K) (sym w.fed)

  -- ---- a call among those seen is a frame of the list

  record Split (l : Ledger) (s : Seen) (later : List Seen) : Type 0 where
    before : List (List ℕ)
    f : List ℕ
    after : List (List ℕ)
    here : s ≡ sight c (run_from c l before).0 f
    rest : later ≡ sights c (step c f (run_from c l before).0).ledger after

  split : (l : Ledger) (fs : List (List ℕ)) (earlier : List Seen) (s : Seen) (later : List Seen) → sights c l fs ≡ earlier ++ (s ∷ later) → Split l s later
  unfolding sights run_from
  split l [] [] s later e = let z : ◌≡◌ {A = ℕ} 0 1 = cc in absurd (omega arith)
  split l [] (x ∷ earlier) s later e = let z : ◌≡◌ {A = ℕ} 0 1 = cc in absurd (omega arith)
  split l (f ∷ fs) [] s later e = record { before = []; f = f; after = fs; here = cc; rest = cc }
  split l (f ∷ fs) (x ∷ earlier) s later e =
      let k = split (step c f l).ledger fs earlier s later (cc) in
      record { before = f ∷ k.before; f = k.f; after = k.after; here = k.here; rest = k.rest }

  -- ---- no turn is missed, from any ledger

  seen_from : (l : Ledger) (f : List ℕ) (after : List (List ℕ)) (a b : ℕ) (v : TockValue) → Bytes f → Starts c (ran_before (sight c l f)) (refusal c l f) f a b v
      → let later = sights c (step c f l).ledger after in
      let its = map (moment_in c a b) later in
      spared its ≡ true → turns its ≡ turns_in v (tocks_seen c later)
  unfolding ran_before running items
  seen_from l f after a b v h s e =
      let m = (step c f l).ledger in
      let its = moments_seen a b m after in
      let n : (run_from c m after).0.N - l.N ≡ tocks_seen c (sights c m after) = omega (arith, tocks_seen_lem m after, (a_start c l f s).time.N) in
      ap turns its ∙ misses_from c l f after a b v h s (sym (ap spared its) ∙ e) ∙ ap (turns_in v) n

  pub none_missed : (l : Ledger) (fs : List (List ℕ)) → NoTurnMissed c (sights c l fs)
  none_missed l fs earlier s later e a b v h st sp =
      let k = split l fs earlier s later e in
      let x = (run_from c l k.before).0 in
      ap (λ (z : List Seen). turns (map (moment_in c a b) z)) k.rest
      ∙ seen_from x k.f k.after a b v (subst (λ (z : Seen). Bytes z.frame) k.here h) (subst (λ (z : Seen). Starts c (ran_before z) z.number z.frame a b v) k.here st)
      (ap (λ (z : List Seen). spared (map (moment_in c a b) z)) (sym k.rest) ∙ sp)
      ∙ ap (λ (z : List Seen). turns_in v (tocks_seen c z)) (sym k.rest)

-- ---- each turn signals

turned_seen : (c : Config) (f : List ℕ) (l : Ledger) (b : ℕ) → Turned c f l b → Signals c (sight c l f) b
unfolding items semaphore_of task timer_left
turned_seen c f l b t = record {
  state = t.state ∙ ap (λ (ds : List ℕ). after_signals b ds (semaphore_of l b)) (sym (ap (map (λ t. t.semaphore)) (due_seen c l f) ∙ map-map (λ t. t.semaphore) (timer_left l) (removed c l f)));
  unwaited = t.unwaited;
  stays = t.stays;
}

pub each_signals : (g : List ℕ) → config_refusal g ≡ 0 → (fs : List (List ℕ)) → let c = config_in g in EachTurnSignals c (sights c (fresh c) fs)
unfolding run
each_signals g h fs earlier s later e a b t =
    let c = config_in g in
    let k = split c (fresh c) fs earlier s later e in
    let l = (run c k.before).0 in
    let turn : has_turn c l k.f a b ≡ true = sym (ap (λ m. m.turn) (moment_seen c a b l k.f)) ∙ ap (λ (z : Seen). (moment_in c a b z).turn) (sym k.here) ∙ t in
    subst (λ (z : Seen). Signals c z b) (sym k.here) (turned_seen c k.f l b (turn_signals g h k.before k.f a b turn))
