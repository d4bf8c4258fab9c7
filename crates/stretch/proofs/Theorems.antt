-- What is computed is what is asked, and no other answer is.
use Rattle.std.specs.Prelude.{◌≡◌, refl, Bool, true, false, cond, ◌||◌, List, ℕ, zero, suc, ◌-◌, ◌<◌, ◌≤◌, ltb, eqb, length, Result, Ok, Err}
use Rattle.std.proofs.Common.{sym, ap, ◌∙◌, subst, inl, inr, arith, ltb-true, ltb-false, eqb-true}
use Rattle.std.proofs.lemmas.List.{length-map}
use Rattle.std.proofs.lemmas.Bool.{eqb-false}
use Rattle.refusals.specs.declared.Refusal.{Refusal}
use Rattle.refusals.specs.declared.Refusal.TheVariants as refusal
use Rattle.refusals.specs.Numbers.{number_of}
use Rattle.stretch.specs.declared.Record.{Record}
use Rattle.stretch.specs.declared.Stretch.{Stretch}
use Rattle.stretch.specs.Busiest.{counts, stretch_sum, Largest, most_records, TurnedAway, Answers, Leaves, Gives, better, best_upto, busiest_of}

-- ---- of the stretches at 0 to k
record SoFar (w : ℕ) (cs : List ℕ) (k : ℕ) (b : Stretch) : Type 0 where
  within : b.place ≤ k
  summed : stretch_sum w cs b.place ≡ b.sum
  largest : (p : ℕ) → p ≤ k → stretch_sum w cs p ≤ b.sum
  earliest : (p : ℕ) → p < b.place → stretch_sum w cs p < b.sum

upto_first : (f : ℕ → ℕ) (p : ℕ) → p ≤ 0 → f p ≤ f 0
upto_first f p l = let e : p ≡ 0 = omega (arith, l) in subst (λ (q : ℕ). f p ≤ f q) e (omega arith)

next_one : (f : ℕ → ℕ) (k m : ℕ) → ((p : ℕ) → p ≤ k → f p ≤ m) → f (suc k) ≤ m → (p : ℕ) → p ≤ suc k → f p ≤ m
next_one f k m h l p hi = go (ltb k p) refl
  where
    go : (t : Bool) → ltb k p ≡ t → f p ≤ m
    go true e = let s : suc k ≡ p = omega (arith, hi, ltb-true k p e) in subst (λ (q : ℕ). f q ≤ m) s l
    go false e = h p (ltb-false k p e)

one_more : (w : ℕ) (cs : List ℕ) (k : ℕ) (b : Stretch) → SoFar w cs k b → SoFar w cs (suc k) (better b (stretch_sum w cs (suc k)) (suc k))
one_more w cs k b h = go (ltb b.sum (stretch_sum w cs (suc k))) refl
  where
    go : (t : Bool) → ltb b.sum (stretch_sum w cs (suc k)) ≡ t → SoFar w cs (suc k) (cond t (record { sum = stretch_sum w cs (suc k); place = suc k }) b)
    go true e = let l : b.sum < stretch_sum w cs (suc k) = ltb-true b.sum (stretch_sum w cs (suc k)) e in
        record {
          within = omega arith;
          summed = refl;
          largest = next_one (stretch_sum w cs) k (stretch_sum w cs (suc k)) (λ p q. omega (arith, l, h.largest p q)) (omega arith);
          earliest = λ p q. omega (arith, l, h.largest p (omega (arith, q)));
        }
    go false e = record { within = omega (arith, h.within); summed = h.summed; largest = next_one (stretch_sum w cs) k b.sum h.largest (ltb-false b.sum (stretch_sum w cs (suc k)) e); earliest = h.earliest }

best_so_far : (w : ℕ) (cs : List ℕ) (k : ℕ) → SoFar w cs k (best_upto w cs k)
best_so_far w cs zero = record { within = omega arith; summed = refl; largest = upto_first (stretch_sum w cs); earliest = λ p l. absurd (omega (arith, l)) }
best_so_far w cs (suc k) = one_more w cs k (best_upto w cs k) (best_so_far w cs k)

-- what is computed is what is asked
pub computed_is_largest : (w : ℕ) (cs : List ℕ) → w ≤ length cs → Largest w cs (best_upto w cs (length cs - w)).sum (best_upto w cs (length cs - w)).place
computed_is_largest w cs l = let h = best_so_far w cs (length cs - w) in
    record { within = omega (arith, h.within); summed = h.summed; largest = λ p q. h.largest p (omega (arith, q)); earliest = h.earliest }

-- and no other answer is
pub one_answer : (w : ℕ) (cs : List ℕ) (s p t q : ℕ) → Largest w cs s p → Largest w cs t q → (s ≡ t) × (p ≡ q)
one_answer w cs s p t q a b = (omega (arith, up, down), omega (arith, apart p q s t a b up down, apart q p t s b a down up))
  where
    up : s ≤ t
    up = subst (λ (n : ℕ). n ≤ t) a.summed (b.largest p a.within)

    down : t ≤ s
    down = subst (λ (n : ℕ). n ≤ s) b.summed (a.largest q b.within)

    apart : (p q s t : ℕ) → Largest w cs s p → Largest w cs t q → s ≤ t → t ≤ s → q ≤ p
    apart p q s t a b up down = go (ltb p q) refl
      where
        go : (z : Bool) → ltb p q ≡ z → q ≤ p
        go true e = absurd (omega (arith, subst (λ (n : ℕ). n < t) a.summed (b.earliest p (ltb-true p q e)), down))
        go false e = ltb-false p q e

-- ---- every call
neither : (n w : ℕ) → n ≤ most_records → (w ≡ 0 → ⊥) → w ≤ n → TurnedAway n w → ⊥
neither n w a b c (inl l) = omega (arith, a, l)
neither n w a b c (inr (inl e)) = b e
neither n w a b c (inr (inr l)) = omega (arith, c, l)

pub answers : (rs : List Record) (w : ℕ) → Answers rs w (busiest_of rs w)
unfolding busiest_of
answers rs w = go (ltb most_records (length rs)) (eqb w 0) (ltb (length rs) w) refl refl refl
  where
    go : (a b c : Bool) → ltb most_records (length rs) ≡ a → eqb w 0 ≡ b → ltb (length rs) w ≡ c
        → Answers rs w (cond (a || (b || c)) (Err refusal.Stretch) (Ok (best_upto w (counts rs) (length rs - w))))
    go true b c ea eb ec = (inl (ltb-true _ _ ea), refl)
    go false true c ea eb ec = (inr (inl (eqb-true _ _ eb)), refl)
    go false false true ea eb ec = (inr (inr (ltb-true _ _ ec)), refl)
    go false false false ea eb ec =
        let few : w ≤ length rs = ltb-false (length rs) w ec in
        let same : length (counts rs) ≡ length rs = length-map rs (λ (r : Record). r.reissues) in (
          neither (length rs) w (ltb-false _ _ ea) (eqb-false w 0 eb) few,
          subst (λ (n : ℕ). Largest w (counts rs) (best_upto w (counts rs) (n - w)).sum (best_upto w (counts rs) (n - w)).place) same (computed_is_largest w (counts rs) (omega (arith, few, same))),
        )

-- two answers to one call are the same
pub answers_agree : (rs : List Record) (w : ℕ) (a b : Result Stretch Refusal) → Answers rs w a → Answers rs w b → a ≡ b
answers_agree rs w (Err m) (Err n) g h = ap Err (g.1 ∙ sym h.1)
answers_agree rs w (Err m) (Ok b) g h = absurd (h.0 g.0)
answers_agree rs w (Ok a) (Err n) g h = absurd (g.0 h.0)
answers_agree rs w (Ok a) (Ok b) g h = let e = one_answer w (counts rs) a.sum a.place b.sum b.place g.1 h.1 in ap (λ (m : ℕ). Ok (record { sum = m; place = a.place })) e.0 ∙ ap (λ (n : ℕ). Ok (record { sum = b.sum; place = n })) e.1

-- a C function that gives the computed answer leaves what is asked
pub gives_leaves : (rs : List Record) (w sum place sum' place' r : ℕ) → Gives (busiest_of rs w) sum place sum' place' r → Leaves rs w sum place sum' place' r
gives_leaves rs w sum place sum' place' r g = go (busiest_of rs w) (answers rs w) g
  where
    go : (a : Result Stretch Refusal) → Answers rs w a → Gives a sum place sum' place' r → Leaves rs w sum place sum' place' r
    go (Err refused) h g = record { refused = λ _. (g.0 ∙ ap number_of h.1, g.1); accepted = λ no. absurd (no h.0) }
    go (Ok b) h g = record { refused = λ away. absurd (h.0 away); accepted = λ _. (g.0, rw (g.1.0, g.1.1) h.1) }

-- two that leave what is asked leave the same
pub leaves_agree : (rs : List Record) (w sum place s p r t q u : ℕ) → Leaves rs w sum place s p r → Leaves rs w sum place t q u → (r ≡ u) × ((s ≡ t) × (p ≡ q))
leaves_agree rs w sum place s p r t q u a b = go (busiest_of rs w) (answers rs w)
  where
    go : (z : Result Stretch Refusal) → Answers rs w z → (r ≡ u) × ((s ≡ t) × (p ≡ q))
    go (Err refused) h = let x = a.refused h.0 in let y = b.refused h.0 in (x.0 ∙ sym y.0, (x.1.0 ∙ sym y.1.0, x.1.1 ∙ sym y.1.1))
    go (Ok found) h = let x = a.accepted h.0 in let y = b.accepted h.0 in (x.0 ∙ sym y.0, one_answer w (counts rs) s p t q x.1 y.1)
