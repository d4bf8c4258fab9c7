-- The computed answer is the answer: so there is one to every call, and examples compute. And 256 starts are enough.
use Rattle.std.specs.Prelude.{ℕ, zero, suc, ◌-◌, ◌^◌, ◌%◌, ◌≤◌, ◌<◌, ◌≡◌, refl, Bool, true, false, cond, List, [], ◌∷◌, map, ◌↔◌, eqb, leb, ltb, length, Some, None, Ok, Err}
use Rattle.std.proofs.Common.{sym, ◌∙◌, ap, subst, pos_of_ne-zero, arith, eqb-true, ltb-true, ltb-false}
use Rattle.std.proofs.lemmas.List.{length-map}
use Rattle.std.proofs.Math.Nat.{pow-le-pow_right}
use Rattle.std.proofs.lemmas.Bool.{eqb-false}
use Rattle.refusals.specs.declared.Refusal.TheVariants as refusal
use Rattle.starts.specs.declared.Cycle.{Cycle}
use Rattle.starts.specs.Starts.{Collide, timer_at, cycle, Taken, Smallest, most_cycles, longest_cycle, InRange, Valid, Answers}
use Rattle.starts.specs.Decided.{Decides, holds, decides, both, either, le_decides}
use Rattle.starts.specs.Least.{Least, least_from, least_from_lem}
use Rattle.starts.specs.Divisor.{gcd_of, gcd_of_lem, gcd_pos}
use Rattle.starts.specs.Enough.{enough_starts, Progression, covers}
use Rattle.starts.specs.Computed.{meets, taken, in_range, all_in_range, valid, ended, free_start}
use Rattle.starts.proofs.Collisions.{collide_rests}
use Rattle.starts.proofs.Enough.{covers_all}
use Rattle.starts.proofs.Theorems.{all_taken}

meets_decides : (t : Cycle) (p s : ℕ) → 0 < t.period → 0 < p → Decides (meets t p s) (Collide t (cycle s p))
unfolding meets
meets_decides t p s pt pp =
    decides (eqb (s % d) (t.start % d)) (Collide t (cycle s p))
    (λ e. alike.1 (sym (eqb-true (s % d) (t.start % d) e)))
    (λ e c. eqb-false (s % d) (t.start % d) e (sym (alike.0 c)))
  where
    d : ℕ
    d = gcd_of t.period p

    alike : Collide t (cycle s p) ↔ (t.start % d ≡ s % d)
    alike = collide_rests t (cycle s p) d pt pp (gcd_of_lem t.period p)

abbrev AllPositive : List Cycle → Type 0
AllPositive ts = (k : ℕ) → k < length ts → 0 < (timer_at ts k).period

taken_decides : (ts : List Cycle) (p s : ℕ) → AllPositive ts → 0 < p → Decides (taken ts p s) (Taken ts p s)
unfolding taken
taken_decides [] p s ps pp = λ c. let h = c.there in omega arith
taken_decides (t ∷ ts) p s ps pp =
    either (meets t p s) (taken ts p s) (Collide t (cycle s p)) (Taken ts p s) (Taken (t ∷ ts) p s) first later one
    (meets_decides t p s (ps 0 (omega arith)) pp)
    (taken_decides ts p s (λ k h. ps (suc k) (omega arith)) pp)
  where
    first : Collide t (cycle s p) → Taken (t ∷ ts) p s
    first c = record { which = 0; there = omega arith; collide = c }

    later : Taken ts p s → Taken (t ∷ ts) p s
    later c = let h = c.there in record { which = suc c.which; there = omega arith; collide = c.collide }

    at : (k : ℕ) → k < length (t ∷ ts) → Collide (timer_at (t ∷ ts) k) (cycle s p) →
        (Collide t (cycle s p) → ⊥) → (Taken ts p s → ⊥) → ⊥
    at zero h c l r = l c
    at (suc k) h c l r = r (record { which = k; there = omega arith; collide = c })

    one : Taken (t ∷ ts) p s → (Collide t (cycle s p) → ⊥) → (Taken ts p s → ⊥) → ⊥
    one c = at c.which c.there c.collide

pub range_decides : (p : ℕ) → Decides (in_range p) (InRange p)
unfolding in_range
range_decides p = go (eqb p 0) (leb p longest_cycle) refl (le_decides p longest_cycle)
  where
    go : (a b : Bool) → eqb p 0 ≡ a → Decides b (p ≤ longest_cycle) → Decides (cond a false b) (InRange p)
    go true b e h = λ r. omega (arith, r.low, eqb-true p 0 e)
    go false true e h = record { low = pos_of_ne-zero (eqb-false p 0 e); high = h }
    go false false e h = λ r. h r.high

abbrev AllInRange : List Cycle → Type 0
AllInRange ts = (k : ℕ) → k < length ts → InRange (timer_at ts k).period

all_decides : (ts : List Cycle) → Decides (all_in_range ts) (AllInRange ts)
unfolding all_in_range
all_decides [] = λ k h. absurd (omega arith)
all_decides (t ∷ ts) =
    both (in_range t.period) (all_in_range ts) (InRange t.period) (AllInRange ts) (AllInRange (t ∷ ts)) joined
    (λ r. r 0 (omega arith))
    (λ r k h. r (suc k) (omega arith))
    (range_decides t.period)
    (all_decides ts)
  where
    joined : InRange t.period → AllInRange ts → AllInRange (t ∷ ts)
    joined f r zero h = f
    joined f r (suc k) h = r k (omega arith)

valid_decides : (ts : List Cycle) (p : ℕ) → Decides (valid ts p) (Valid ts p)
unfolding valid
valid_decides ts p =
    both (leb (length ts) most_cycles) (cond (all_in_range ts) (in_range p) false) (length ts ≤ most_cycles) (AllInRange ts × InRange p) (Valid ts p)
    (λ f r. record { few = f; timers = r.0; new = r.1 })
    (λ v. v.few)
    (λ v. (v.timers, v.new))
    (le_decides (length ts) most_cycles)
    (both (all_in_range ts) (in_range p) (AllInRange ts) (InRange p) (AllInRange ts × InRange p)
    (λ a r. (a, r)) (λ x. x.0) (λ x. x.1) (all_decides ts) (range_decides p))

ended_answers : (ts : List Cycle) (p r : ℕ) → Valid ts p → Least (Taken ts p) p r → Answers ts p (Ok (ended p r))
ended_answers ts p r v l = go (ltb r p) refl
  where
    go : (z : Bool) → ltb r p ≡ z → Answers ts p (Ok (cond z (Some r) None))
    go true e = let h = ltb-true r p e in (v, record { below = h; free = l.stops h; least = l.before })
    go false e = all_taken ts p v (λ s h. l.before s (omega (arith, h, ltb-false r p e)))

-- ---- 256 starts are enough

-- what the timers take of the starts of a new one of period p
abbrev taken_by : ℕ → List Cycle → List Progression
taken_by p ts = map (λ (t : Cycle). record { before = gcd_of t.period p - 1; rest = t.start }) ts

covers_taken : (p : ℕ) (ts : List Cycle) → 0 < p → (s : ℕ) → covers (taken_by p ts) s ≡ taken ts p s
unfolding covers taken meets
covers_taken p [] pp s = refl
covers_taken p (t ∷ ts) pp s =
    ap (λ (d : ℕ). cond (eqb (s % d) (t.start % d)) true (covers (taken_by p ts) s)) whole ∙ ap (cond (eqb (s % gcd_of t.period p) (t.start % gcd_of t.period p)) true) (covers_taken p ts pp s)
  where
    whole : suc (gcd_of t.period p - 1) ≡ gcd_of t.period p
    whole = omega (arith, gcd_pos (gcd_of_lem t.period p) pp)

few_powers : (n : ℕ) → n ≤ most_cycles → 2 ^ n ≤ enough_starts
few_powers n l = pow-le-pow_right (omega arith) l

-- where up to eight timers take every start below 256 they take all
pub enough : (ts : List Cycle) (p : ℕ) → Valid ts p → ((e : ℕ) → e < enough_starts → Taken ts p e) → (s : ℕ) → Taken ts p s
enough ts p v h s = holds (sym (covers_taken p ts v.new.low s) ∙ covers_all (taken_by p ts) below s) (decided s)
  where
    decided : (e : ℕ) → Decides (taken ts p e) (Taken ts p e)
    decided e = taken_decides ts p e (λ k l. (v.timers k l).low) v.new.low

    is_taken : (b : Bool) (P : Type 0) → Decides b P → P → b ≡ true
    is_taken true P d x = refl
    is_taken false P d x = absurd (d x)

    count : length (taken_by p ts) ≡ length ts
    count = length-map ts (λ (t : Cycle). record { before = gcd_of t.period p - 1; rest = t.start })

    below : (e : ℕ) → e < 2 ^ length (taken_by p ts) → covers (taken_by p ts) e ≡ true
    below e l =
        covers_taken p ts v.new.low e
        ∙ is_taken (taken ts p e) (Taken ts p e) (decided e) (h e (omega (arith, subst (λ (n : ℕ). e < 2 ^ n) count l, few_powers (length ts) v.few)))

-- so the smallest start is one of these
pub start_below : (ts : List Cycle) (p s : ℕ) → Valid ts p → Smallest ts p s → s < enough_starts
start_below ts p s v m = go (ltb s enough_starts) refl
  where
    go : (b : Bool) → ltb s enough_starts ≡ b → s < enough_starts
    go true e = ltb-true s enough_starts e
    go false e = absurd (m.free (enough ts p v (λ x l. m.least x (omega (arith, l, ltb-false s enough_starts e))) s))

-- ---- the computed answer is the answer
pub answers : (ts : List Cycle) (p : ℕ) → Answers ts p (free_start ts p)
unfolding free_start
answers ts p = go (valid ts p) (valid_decides ts p)
  where
    go : (b : Bool) → Decides b (Valid ts p) → Answers ts p (cond b (Ok (ended p (least_from (taken ts p) p 0))) (Err refusal.Cycles))
    go true v =
        ended_answers ts p (least_from (taken ts p) p 0) v
        (least_from_lem (taken ts p) (Taken ts p)
        (λ s. taken_decides ts p s (λ k h. (v.timers k h).low) v.new.low)
        p 0 p (omega arith) (λ e h. absurd (omega arith)))
    go false v = (v, refl)
