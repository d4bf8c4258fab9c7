-- The sign and the period of a tock value, at every width: `half` is half of all values, $8000 at 16 bits and $80000000 at 32.
use Rattle.std.specs.Prelude.{ℕ, ◌+◌, ◌*◌, ◌-◌, ◌≤◌, ◌<◌, ◌≡◌, refl, Bool, true, false, cond, ltb}
use Rattle.std.proofs.Common.{sym, ◌∙◌, ap, subst, arith, lt-ltb, le-ltb, ltb-true, ltb-false, ne_eqb}
use Rattle.ledger.specs.Time.{TockValue, none, one_shot, cyclic, signed, tocks, period}

pub none_at_0 : (half : ℕ) → signed half 0 ≡ none
unfolding signed
none_at_0 half = refl

-- positive is one-shot
pub positive : (half x : ℕ) → 0 < x → x < half → signed half x ≡ one_shot x
unfolding signed
positive half x any below = rw (ne_eqb x 0 (omega arith), lt-ltb x half below)

-- negative is cyclic; its period is the opposite number, from 1 up to half
pub record Cyclic (half x : ℕ) : Type 0 where
  pub value : signed half x ≡ cyclic (2 * half - x)
  pub least : 1 ≤ 2 * half - x
  pub most : 2 * half - x ≤ half

pub negative : (half x : ℕ) → half ≤ x → x < 2 * half → Cyclic half x
unfolding signed
negative half x from below =
    let p : half + half - x ≡ 2 * half - x = omega arith in
    record { value = rw (ne_eqb x 0 (omega arith), le-ltb x half from, p); least = omega arith; most = omega arith }

-- the lowest number's period is exactly half
pub lowest : (half : ℕ) → 0 < half → signed half half ≡ cyclic half
lowest half any =
    let p : 2 * half - half ≡ half = omega arith in
    (negative half half (omega arith) (omega arith)).value ∙ ap cyclic p

-- a value other than 0 asks for 1 to half tocks, and for a period of at most half
pub record Tocks (half : ℕ) (v : TockValue) : Type 0 where
  pub from : 1 ≤ tocks v
  pub upto : tocks v ≤ half
  pub period : period v ≤ half

one_shot_tocks : (half n : ℕ) → 0 < n → n < half → Tocks half (one_shot n)
unfolding tocks period
one_shot_tocks half n any below = record { from = omega arith; upto = omega arith; period = omega arith }

cyclic_tocks : (half p : ℕ) → 1 ≤ p → p ≤ half → Tocks half (cyclic p)
unfolding tocks period
cyclic_tocks half p least most = record { from = least; upto = most; period = most }

pub some_tocks : (half x : ℕ) → x < 2 * half → (x ≡ 0 → ⊥) → Tocks half (signed half x)
some_tocks half x fits any = go (ltb x half) refl
  where
    go : (b : Bool) → ltb x half ≡ b → Tocks half (signed half x)
    go true e = let h = ltb-true x half e in subst (Tocks half) (sym (positive half x (omega arith) h)) (one_shot_tocks half x (omega arith) h)
    go false e = let n = negative half x (ltb-false x half e) fits in subst (Tocks half) (sym n.value) (cyclic_tocks half (2 * half - x) n.least n.most)

pub more_tocks : (half more : ℕ) (v : TockValue) → half ≤ more → Tocks half v → Tocks more v
more_tocks half more v h t = record { from = t.from; upto = omega (arith, t.upto); period = omega (arith, t.period) }

-- none is lost in widening: a number means the same in more bits, where the sign is in front of it
pub widened : (half more x : ℕ) → half ≤ more → x < 2 * half → signed more (cond (ltb x half) x (2 * more - 2 * half + x)) ≡ signed half x
unfolding signed
widened half more x h fits = go (ltb x half) refl
  where
    go : (b : Bool) → ltb x half ≡ b → signed more (cond b x (2 * more - 2 * half + x)) ≡ signed half x
    go true e = let below = ltb-true x half e in rw (lt-ltb x half below, lt-ltb x more (omega arith)) refl
    go false e =
        let from = ltb-false x half e in
        let p : 2 * more - (2 * more - 2 * half + x) ≡ 2 * half - x = omega arith in
        (negative more (2 * more - 2 * half + x) (omega arith) (omega arith)).value ∙ ap cyclic p ∙ sym (negative half x from fits).value
