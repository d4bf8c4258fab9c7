-- The nearest tocks by one division: (2m + p) / 2p, cut.
use Prim.Native.Nat.{ℕ, zero, suc, ◌+◌, ◌*◌, ◌-◌, ◌/◌, ◌%◌, ◌≤◌, ◌<◌}
use mathlib.Core.Path.{◌≡◌, sym, subst}
use native.Mathlib.Omega.{arith}
use native.Mathlib.Nat.{div-add-mod', mod-lt, div-lt_iff_lt-mul, zero-mul}
use Rattle.ledger.specs.Time.{nearest}
use Rattle.ledger.proofs.Theorems.Nearest.{Nearest, only_nearest}

lowest : (m p q : ℕ) → q * (2 * p) ≤ 2 * m + p → (2 * q - 1) * p ≤ 2 * m
lowest m p zero h = omega (arith, zero-mul p)
lowest m p (suc k) h =
    let e : 2 * suc k - 1 ≡ 2 * k + 1 = omega arith in
    subst (λ (x : ℕ). x * p ≤ 2 * m) (sym e) (omega arith)

cut_is : (m p q s : ℕ) → q * (2 * p) + s ≡ 2 * m + p → s < 2 * p → Nearest m p q
cut_is m p q s e h = record { from = lowest m p q (omega arith); below = omega arith }

pub by_division : (m p : ℕ) → 0 < p → (2 * m + p) / (2 * p) ≡ nearest m p
by_division m p h =
    only_nearest m p _ h (cut_is m p ((2 * m + p) / (2 * p)) ((2 * m + p) % (2 * p)) (div-add-mod' (2 * m + p) (2 * p)) (mod-lt (2 * m + p) (omega arith)))

-- at most the milliseconds
pub at_most : (m p : ℕ) → 0 < p → m < 65536 → (2 * m + p) / (2 * p) < 65536
at_most m p h k = (div-lt_iff_lt-mul {k = 2 * p} {x = 2 * m + p} {y = 65536} (omega arith)).1 (omega arith)
