-- The tests of a signed number's sign, and what it asks for.
use Rattle.std.proofs.Common.{◌≡◌, zero, suc, ap, refl, arith, true, false, ℤ, pos, negsuc, ◌-ℤ◌, ltb-false}
use lib.IntN.{nat_abs}
use lib.Signed.{lt_z}
use Rattle.ledger.specs.Time.{one_shot, cyclic}
use Rattle.tocks.specs.Signs.{asked}

pub positive_asks : (z : ℤ) → lt_z (pos 0) z ≡ true → one_shot (nat_abs z) ≡ asked z
positive_asks (pos zero) h = absurd cc
positive_asks (pos (suc n)) h = refl
positive_asks (negsuc k) h = absurd cc

-- y is the opposite
pub negative_asks : (z y : ℤ) → lt_z (pos 0) z ≡ false → (z ≡ pos 0 → ⊥) → y ≡ pos 0 -ℤ z → cyclic (nat_abs y) ≡ asked z
negative_asks (pos zero) y h any e = absurd (any refl)
negative_asks (pos (suc n)) y h any e = absurd (omega (arith, ltb-false 0 (suc n) h))
negative_asks (negsuc k) y h any e = ap cyclic (rw e (omega arith))
