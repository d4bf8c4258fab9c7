-- What a frame does to the timer of a task a on a semaphore b. There is at most one: so the timer after a frame is the one before it.
use Rattle.std.specs.Prelude.{ℕ, suc, ◌+◌, ◌≤◌, ◌<◌, ◌≡◌, Bool, not, ◌&&◌, length}
use Rattle.std.proofs.Math.Path.{refl, ap}
use Rattle.std.proofs.Common.{sym, subst, ◌∙◌, arith}
use Rattle.std.proofs.Math.Bool.{true, false, cond}
use mathlib.Core.List.{List, [], ◌∷◌}
use borrow.Author.Tests.{eqb-true, eq-eqb, leb-true, leb-false}
use Rattle.std.proofs.Math.Dec.{eqb, leb}
use Rattle.ledger.specs.Lists.{any, keep, insert_by}
use Rattle.ledger.specs.Config.{Config}
use Rattle.ledger.specs.Time.{TockValue}
use Rattle.ledger.specs.Ledger.{Timer, Ledger, running, fresh}
use Rattle.ledger.specs.Refusals.{is_of, have_timer, refusal}
use Rattle.ledger.specs.Session.{step, run_from, run}
use Rattle.ledger.specs.Turns.{Starts, ends, removed, has_turn}
use Rattle.ledger.proofs.Theorems.Checks.{and_left, and_right, cond_both}
use Rattle.ledger.proofs.Theorems.Parts.{Every, every_first, keep_passes}
use Rattle.ledger.proofs.Theorems.Tocks.{due_at, renewed}
use Rattle.ledger.proofs.Theorems.Keeps.{any_none, any_some, none_any, keep_keep, keep_insert_by_other, keep_insert_by_only}
use Rattle.ledger.proofs.Theorems.Turns.Renewed.{renew_all_others, renew_all_only}
use Rattle.ledger.proofs.Theorems.Turns.Clock.{timer_for}
use Rattle.ledger.proofs.Theorems.Turns.Frames.{Timeless, Leaves, Inserts, Stops, Counts, Passes, Way, leaves, inserts, stops, counts, passes, none_removed, a_start, way}

abbrev pub timer : (a b d q : ℕ) → Timer
timer a b d q = record { task = a; semaphore = b; due = d; period = q }

pub is_own : (a b d q : ℕ) → is_of a b (timer a b d q) ≡ true
is_own a b d q = rw (eq-eqb a a refl, eq-eqb b b refl)

pub there : (a b : ℕ) (l : Ledger) {t : Timer} {ts : List Timer} → keep (is_of a b) l.timers ≡ t ∷ ts → have_timer l a b ≡ true
unfolding have_timer
there a b l h = any_some (is_of a b) l.timers h

pub gone : (a b : ℕ) (l : Ledger) → keep (is_of a b) l.timers ≡ [] → have_timer l a b ≡ false
unfolding have_timer
gone a b l h = any_none (is_of a b) l.timers h

pub free : (a b : ℕ) (l : Ledger) → have_timer l a b ≡ false → keep (is_of a b) l.timers ≡ []
unfolding have_timer
free a b l h = none_any (is_of a b) l.timers h

-- ---- the one timer of the pair

module _ (c : Config) (l : Ledger) (f : List ℕ) (a b d q : ℕ) where
  abbrev Alone : Type 0
  Alone = keep (is_of a b) l.timers ≡ timer a b d q ∷ []

  -- it stays as it is; or the frame ends it; or it was due and has had its turn, and is inserted again if it is cyclic
  pub data After (m : Ledger) : Type 0 where
    stays : has_turn c l f a b ≡ false → ends c (running l) (refusal c l f) f a b ≡ false → l.N ≤ m.N → (l.N < d → m.N < d) → keep (is_of a b) m.timers ≡ timer a b d q ∷ [] → After m
    ended : has_turn c l f a b ≡ false → ends c (running l) (refusal c l f) f a b ≡ true → keep (is_of a b) m.timers ≡ [] → After m
    turned : has_turn c l f a b ≡ true → ends c (running l) (refusal c l f) f a b ≡ false → m.N ≡ suc l.N → d ≤ m.N → keep (is_of a b) m.timers ≡ cond (eqb q 0) [] (timer a b (m.N + q) q ∷ []) → After m

  no_turn : removed c l f ≡ [] → has_turn c l f a b ≡ false
  unfolding has_turn any
  no_turn e = rw e

  -- no tock passes
  still : {m : Ledger} → removed c l f ≡ [] → m.N ≡ l.N → ends c (running l) (refusal c l f) f a b ≡ false → keep (is_of a b) m.timers ≡ timer a b d q ∷ [] → After m
  still e n s k = stays (no_turn e) s (omega (arith, n)) (λ h. omega (arith, n)) k

  none_due_lem : {m : Ledger} → Timeless c l f m → removed c l f ≡ []
  none_due_lem t = none_removed c l f t.no_tick

  after_leaves : {m : Ledger} → Alone → Leaves c l f m → After m
  after_leaves h w = still (none_due_lem w.time) w.time.N (w.spares a b) (ap (keep (is_of a b)) w.timers ∙ h)

  after_counts : {m : Ledger} → Alone → Counts c l f m → After m
  after_counts h w = still w.removes w.N (w.spares a b) (ap (keep (is_of a b)) w.timers ∙ h)

  -- 24: a frame starts no second one
  other : (x y : ℕ) (v : TockValue) → Alone → have_timer l x y ≡ false → is_of a b (timer_for x y v l.N) ≡ false
  unfolding timer_for
  other x y v h e = go (eqb x a && eqb y b) refl
    where
      go : (z : Bool) → (eqb x a && eqb y b) ≡ z → z ≡ false
      go true k =
          let i = eqb-true x a (and_left _ (eqb y b) k) in
          let j = eqb-true y b (and_right (eqb x a) _ k) in
          cc (there a b l h)
      go false k = refl

  after_inserts : {m : Ledger} {x y : ℕ} {v : TockValue} → Alone → Inserts c l f x y v m → After m
  after_inserts {x} {y} {v} h w =
      still (none_due_lem w.time) w.time.N (w.spares a b)
      (ap (keep (is_of a b)) w.timers ∙ keep_insert_by_other (is_of a b) _ (timer_for x y v l.N) (other x y v h w.free) l.timers ∙ h)

  after_stops : {m : Ledger} → Alone → Stops c l f m → After m
  unfolding keep
  after_stops {m} h w = go (ends c (running l) (refusal c l f) f a b) refl
    where
      left : (z : Bool) → ends c (running l) (refusal c l f) f a b ≡ z → keep (is_of a b) m.timers ≡ cond (not z) (timer a b d q ∷ []) []
      left z e = ap (keep (is_of a b)) w.timers ∙ keep_keep (is_of a b) _ l.timers ∙ ap (keep _) h ∙ rw e

      go : (z : Bool) → ends c (running l) (refusal c l f) f a b ≡ z → After m
      go true e = ended (no_turn (none_due_lem w.time)) e (left true e)
      go false e = still (none_due_lem w.time) w.time.N e (left false e)

  -- those due, and those left
  due_now_lem : Alone → (z : Bool) → leb d (suc l.N) ≡ z → keep (is_of a b) (keep (due_at (suc l.N)) l.timers) ≡ cond z (timer a b d q ∷ []) []
  unfolding keep due_at
  due_now_lem h z e = keep_keep (is_of a b) _ l.timers ∙ ap (keep _) h ∙ rw e

  left_now : Alone → (z : Bool) → leb d (suc l.N) ≡ z → keep (is_of a b) (keep (λ t. not (due_at (suc l.N) t)) l.timers) ≡ cond (not z) (timer a b d q ∷ []) []
  unfolding keep due_at
  left_now h z e = keep_keep (is_of a b) _ l.timers ∙ ap (keep _) h ∙ rw e

  after_passes : {m : Ledger} → Alone → Passes c l f m → After m
  unfolding has_turn renewed
  after_passes {m} h w = go (leb d (suc l.N)) refl
    where
      go : (z : Bool) → leb d (suc l.N) ≡ z → After m
      go true e =
          turned (ap (any (is_of a b)) w.removes ∙ any_some (is_of a b) _ (due_now_lem h true e)) (w.spares a b) w.N (omega (arith, leb-true d (suc l.N) e, w.N))
          (ap (keep (is_of a b)) w.timers ∙ renew_all_only (is_of a b) (suc l.N) (λ t. refl) _ _ _ (due_now_lem h true e) (left_now h true e)
          ∙ ap (λ i. cond (eqb q 0) [] (timer a b (i + q) q ∷ [])) (sym w.N))
      go false e =
          stays (ap (any (is_of a b)) w.removes ∙ any_none (is_of a b) _ (due_now_lem h false e)) (w.spares a b) (omega (arith, w.N)) (λ k. omega (arith, leb-false d (suc l.N) e, w.N))
          (ap (keep (is_of a b)) w.timers ∙ renew_all_others (is_of a b) (suc l.N) (λ t. refl) _ _ (due_now_lem h false e) ∙ left_now h false e)

  pub after : Alone → After (step c f l).ledger
  after h = go (way c l f)
    where
      go : Way c l f (step c f l).ledger → After (step c f l).ledger
      go (leaves w) = after_leaves h w
      go (inserts x y v i w) = after_inserts h w
      go (stops w) = after_stops h w
      go (counts w) = after_counts h w
      go (passes w) = after_passes h w

  -- the same as one equation
  pub this_very_timer : Alone
      → let m = (step c f l).ledger in keep (is_of a b) m.timers ≡ cond (ends c (running l) (refusal c l f) f a b) [] (cond (has_turn c l f a b) (cond (eqb q 0) [] (timer a b (m.N + q) q ∷ [])) (timer a b d q ∷ []))
  this_very_timer h = go (after h)
    where
      go : {m : Ledger} → After m → keep (is_of a b) m.timers ≡ cond (ends c (running l) (refusal c l f) f a b) [] (cond (has_turn c l f a b) (cond (eqb q 0) [] (timer a b (m.N + q) q ∷ [])) (timer a b d q ∷ []))
      go (stays t e n k s) = rw (t, e) s
      go (ended t e s) = rw (t, e) s
      go (turned t e n k s) = rw (t, e) s

-- ---- there is no other

-- 24
pub no_second : (c : Config) (l : Ledger) (f : List ℕ) {a b : ℕ} {v : TockValue} → Starts c (running l) (refusal c l f) f a b v → have_timer l a b ≡ false
no_second c l f s = (a_start c l f s).free

module _ (c : Config) (a b : ℕ) where
  abbrev AtMostOne : Ledger → Type 0
  AtMostOne l = length (keep (is_of a b) l.timers) ≤ 1

  most : (l : Ledger) {ts : List Timer} → keep (is_of a b) l.timers ≡ ts → length ts ≤ 1 → AtMostOne l
  most l e h = rw e h

  none_before : (f : List ℕ) (l : Ledger) → keep (is_of a b) l.timers ≡ [] → AtMostOne (step c f l).ledger
  unfolding keep renewed
  none_before f l h = go (way c l f)
    where
      m : Ledger
      m = (step c f l).ledger

      left : (p : Timer → Bool) → keep (is_of a b) (keep p l.timers) ≡ []
      left p = keep_keep (is_of a b) p l.timers ∙ ap (keep p) h

      put : (x : Timer) (z : Bool) → is_of a b x ≡ z → m.timers ≡ insert_by (λ t. t.due) x l.timers → AtMostOne m
      put x true e k = most m (ap (keep (is_of a b)) k ∙ keep_insert_by_only (is_of a b) _ x l.timers e h) (omega arith)
      put x false e k = most m (ap (keep (is_of a b)) k ∙ keep_insert_by_other (is_of a b) _ x e l.timers ∙ h) (omega arith)

      go : Way c l f m → AtMostOne m
      go (leaves w) = most m (ap (keep (is_of a b)) w.timers ∙ h) (omega arith)
      go (inserts x y v i w) = put _ _ refl w.timers
      go (stops w) = most m (ap (keep (is_of a b)) w.timers ∙ left _) (omega arith)
      go (counts w) = most m (ap (keep (is_of a b)) w.timers ∙ h) (omega arith)
      go (passes w) = most m (ap (keep (is_of a b)) w.timers ∙ renew_all_others (is_of a b) (suc l.N) (λ t. refl) _ _ (left _) ∙ left _) (omega arith)

  -- a timer of the pair names it
  own_form : (l : Ledger) (t : Timer) (ts : List Timer) → keep (is_of a b) l.timers ≡ t ∷ ts → t ≡ timer a b t.due t.period
  own_form l t ts h =
      let p : is_of a b t ≡ true = every_first (subst (Every (λ x. is_of a b x ≡ true)) h (keep_passes (is_of a b) l.timers)) in
      let i = eqb-true t.task a (and_left _ (eqb t.semaphore b) p) in
      let j = eqb-true t.semaphore b (and_right (eqb t.task a) _ p) in
      ap (λ x. timer x t.semaphore t.due t.period) i ∙ ap (λ y. timer a y t.due t.period) j

  one_before : (f : List ℕ) (l : Ledger) (t : Timer) → keep (is_of a b) l.timers ≡ t ∷ [] → AtMostOne (step c f l).ledger
  one_before f l t h = go (after c l f a b t.due t.period (h ∙ ap (λ u. u ∷ []) (own_form l t [] h)))
    where
      go : {m : Ledger} → After c l f a b t.due t.period m → AtMostOne m
      go {m} (stays y e n k s) = most m s (omega arith)
      go {m} (ended y e s) = most m s (omega arith)
      go {m} (turned y e n k s) = most m s (cond_both (λ ts. length ts ≤ 1) (eqb t.period 0) [] (timer a b (m.N + t.period) t.period ∷ []) (omega arith) (omega arith))

  single_step : (f : List ℕ) (l : Ledger) → AtMostOne l → AtMostOne (step c f l).ledger
  single_step f l h = go (keep (is_of a b) l.timers) refl h
    where
      go : (ts : List Timer) → keep (is_of a b) l.timers ≡ ts → length ts ≤ 1 → AtMostOne (step c f l).ledger
      go [] e k = none_before f l e
      go (t ∷ []) e k = one_before f l t e
      go (t ∷ u ∷ ts) e k = absurd (omega arith)

  single_from : (l : Ledger) (fs : List (List ℕ)) → AtMostOne l → AtMostOne (run_from c l fs).0
  unfolding run_from
  single_from l [] h = h
  single_from l (f ∷ fs) h = single_from (step c f l).ledger fs (single_step f l h)

  -- after every list of frames a task has at most one timer on a semaphore
  pub one_at_a_time : (fs : List (List ℕ)) → length (keep (is_of a b) (run c fs).0.timers) ≤ 1
  unfolding run fresh keep
  one_at_a_time fs = single_from (fresh c) fs (omega arith)
