-- A number below 2^31 as an int32_t: itself, and with a minus sign.
use Prim.Native.Nat.{ℕ, zero, suc, ◌-◌, ◌^◌, ◌<◌}
use mathlib.Core.Path.{◌≡◌, refl, sym, ◌∙◌, ap, subst}
use native.Mathlib.Omega.{arith}
use lib.IntN.{ℤ, pos, neg_ℤ, ◌-ℤ◌}
use lib.Signed.{mag}
use borrow.Author.Tests.{lt-ltb}
use mir.Syntax.{w32}
use mir.Val.{SFits, of_z, to_z}
use mir.Facts.{to_z-of_z, to_z_pos}

-- a result that is handed on
pub handed_on_lem : (z : ℤ) → mag z < 2 ^ 31 → to_z w32 (of_z w32 z) ≡ z
handed_on_lem z h = to_z-of_z {w = w32} (record { sfits = h })

minus : (n : ℕ) → pos 0 -ℤ pos n ≡ neg_ℤ (pos n)
minus zero = refl
minus (suc k) = let p : suc k - 1 ≡ k = omega arith in rw (lt-ltb 0 (suc k) (omega arith), p)

minus_fits : (n : ℕ) → n < 2 ^ 31 → SFits w32 (neg_ℤ (pos n))
minus_fits zero h = record { sfits = omega arith }
minus_fits (suc k) h = record { sfits = omega arith }

module _ (n : ℕ) (h : n < 2 ^ 31) where
  plain : to_z w32 n ≡ pos n
  plain = to_z_pos w32 h

  negated : pos 0 -ℤ to_z w32 n ≡ neg_ℤ (pos n)
  negated = ap (λ (z : ℤ). pos 0 -ℤ z) plain ∙ minus n

  pub negated_fits : SFits w32 (pos 0 -ℤ to_z w32 n)
  negated_fits = subst (SFits w32) (sym negated) (minus_fits n h)

  pub negated_is : to_z w32 (of_z w32 (pos 0 -ℤ to_z w32 n)) ≡ neg_ℤ (pos n)
  negated_is = to_z-of_z negated_fits ∙ negated
