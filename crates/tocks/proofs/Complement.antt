-- Bits of the upper half, read as a signed number: -1 less what they lack to all ones.
use Prim.Native.Nat.{ℕ, zero, suc, ◌-◌, ◌^◌, ◌≤◌, ◌<◌}
use mathlib.Core.Path.{◌≡◌, refl, sym, ◌∙◌, ap}
use native.Mathlib.Nat.{zero-add}
use native.Mathlib.Omega.{arith}
use lib.IntN.{ℤ, pos, negsuc, ◌-ℤ◌}
use borrow.Author.Tests.{le-ltb}
use mir.Syntax.{Width}
use mir.Val.{bits, hbits, SFits, of_z, to_z}
use mir.Facts.{to_z-of_z, to_z_pos}
use Rattle.tocks.specs.Signs.{halves}

minus_one_less : (m : ℕ) → negsuc 0 -ℤ pos m ≡ negsuc m
minus_one_less zero = refl
minus_one_less (suc j) = ap (λ (i : ℕ). negsuc (suc i)) (zero-add j)

module _ (w : Width) (n : ℕ) (upper : 2 ^ hbits w ≤ n) (fits : n < 2 ^ bits w) where
  abbrev lacks : ℕ
  lacks = 2 ^ bits w - 1 - n

  few : lacks < 2 ^ hbits w
  few = let h = halves w in omega arith

  complement : negsuc 0 -ℤ to_z w lacks ≡ negsuc lacks
  complement = ap (λ (z : ℤ). negsuc 0 -ℤ z) (to_z_pos w few) ∙ minus_one_less lacks

  pub complement_fits : SFits w (negsuc 0 -ℤ to_z w lacks)
  complement_fits = rw complement (record { sfits = few })

  pub complement_is : to_z w (of_z w (negsuc 0 -ℤ to_z w lacks)) ≡ to_z w n
  complement_is =
      let e : lacks ≡ 2 ^ bits w - suc n = omega arith in
      to_z-of_z complement_fits ∙ complement ∙ ap negsuc e ∙ sym (rw (le-ltb n (2 ^ hbits w) upper))
