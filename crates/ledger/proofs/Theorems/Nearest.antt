-- The nearest tocks: r of m milliseconds at p per tock is the number with 2m from (2r - 1)p, included, up to (2r + 1)p, left out.
use Rattle.std.specs.Prelude.{ℕ, suc, ◌+◌, ◌*◌, ◌-◌, ◌/◌, ◌%◌, ◌≤◌, ◌<◌, ◌≡◌, refl, Bool, true, false, cond, ltb}
use Rattle.std.proofs.Common.{sym, subst, arith, div-add-mod', mod-lt, lt_of_mul-lt-mul_right, mul-le-mul_right, ltb-true, ltb-false}
use Rattle.ledger.specs.Time.{nearest}

pub record Nearest (m p r : ℕ) : Type 0 where
  pub from : (2 * r - 1) * p ≤ 2 * m
  pub below : 2 * m < (2 * r + 1) * p

less : (q : ℕ) → 2 * q - 1 ≤ 2 * q
less q = omega arith

-- the lower one, and the upper one, of the two whole numbers q and q + 1 around q p + s milliseconds
lower : (p q s : ℕ) → s < p - s → Nearest (q * p + s) p q
lower p q s h = record { from = omega (arith, mul-le-mul_right p (less q)); below = omega arith }

upper : (p q s : ℕ) → s < p → p - s ≤ s → Nearest (q * p + s) p (suc q)
upper p q s k h =
    let e : 2 * suc q - 1 ≡ 2 * q + 1 = omega arith in
    record { from = subst (λ (x : ℕ). x * p ≤ 2 * (q * p + s)) (sym e) (omega arith); below = omega arith }

pub nearest_is : (m p : ℕ) → 0 < p → Nearest m p (nearest m p)
unfolding nearest
nearest_is m p h =
    subst (λ (x : ℕ). Nearest x p (nearest m p)) (div-add-mod' m p) (go (ltb (m % p) (p - m % p)) refl)
  where
    go : (b : Bool) → ltb (m % p) (p - m % p) ≡ b → Nearest (m / p * p + m % p) p (cond (ltb (m % p) (p - m % p)) (m / p) (suc (m / p)))
    go true e = rw (e) (lower p (m / p) (m % p) (ltb-true _ _ e))
    go false e = rw (e) (upper p (m / p) (m % p) (mod-lt m h) (ltb-false _ _ e))

-- there is no other
no_higher : (m p r k : ℕ) → Nearest m p r → Nearest m p k → r ≤ k
no_higher m p r k x y =
    let h : 2 * r - 1 < 2 * k + 1 = lt_of_mul-lt-mul_right p (omega (arith, x.from, y.below)) in
    omega arith

pub only_nearest : (m p r : ℕ) → 0 < p → Nearest m p r → r ≡ nearest m p
only_nearest m p r h x =
    let y = nearest_is m p h in
    omega (arith, no_higher m p r (nearest m p) x y, no_higher m p (nearest m p) r y x)
