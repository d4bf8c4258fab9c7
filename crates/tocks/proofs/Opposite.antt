-- A signed number and its opposite, computed in a wider type: at the lowest number too, the opposite fits there.
use Prim.Native.Nat.{ℕ, zero, suc, ◌^◌, ◌<◌}
use mathlib.Core.Path.{◌≡◌, refl, sym, ◌∙◌, ap, subst}
use mathlib.Core.Bool.{true, false}
use native.Mathlib.Nat.{zero-add}
use native.Mathlib.Omega.{arith}
use lib.IntN.{ℤ, pos, negsuc, ◌-ℤ◌, nat_abs}
use lib.Signed.{lt_z, non_neg}
use lib.Dec.{T, ltb, ltb→lt}
use lib.Pow.{pow-lt}
use borrow.Author.Tests.{lt-ltb}
use mir.Syntax.{Width}
use mir.Val.{bits, hbits, Fits, SFits, of_z, to_z}
use mir.Facts.{to_z-of_z}
use Rattle.ledger.specs.Time.{one_shot, cyclic, signed}
use Rattle.tocks.specs.Signs.{asked, asked_by_bits}

pub record Negative (z : ℤ) : Type 0 where
  pub below : ℕ
  pub is : z ≡ negsuc below

-- neither 0 nor above it
negative : (z : ℤ) → lt_z (pos 0) z ≡ false → (z ≡ pos 0 → ⊥) → Negative z
negative (pos zero) t any = absurd (any refl)
negative (pos (suc n)) t any =
    let y : ltb 0 (suc n) ≡ true = lt-ltb 0 (suc n) (omega arith) in
    let z : ◌≡◌ {A = ℕ} 0 1 = cc in
    absurd (omega arith)
negative (negsuc k) t any = record { below = k; is = refl }

-- above 0
positive : (z : ℤ) → lt_z (pos 0) z ≡ true → asked z ≡ one_shot (nat_abs z)
positive (pos zero) t = let z : ◌≡◌ {A = ℕ} 0 1 = cc in absurd (omega arith)
positive (pos (suc n)) t = refl
positive (negsuc k) t = let z : ◌≡◌ {A = ℕ} 0 1 = cc in absurd (omega arith)

positive_sign : (z : ℤ) → lt_z (pos 0) z ≡ true → T (non_neg z)
positive_sign (pos n) t = tt
positive_sign (negsuc k) t = let z : ◌≡◌ {A = ℕ} 0 1 = cc in absurd (omega arith)

positive_size : (w : Width) (z : ℤ) → lt_z (pos 0) z ≡ true → SFits w z → nat_abs z < 2 ^ hbits w
positive_size w (pos n) t f = f.sfits
positive_size w (negsuc k) t f = let z : ◌≡◌ {A = ℕ} 0 1 = cc in absurd (omega arith)

-- the signed number z of width w is widened to w' for its opposite; the answer has no sign, and width u
module _ (w w' u : Width) (narrower : T (ltb (hbits w) (hbits w'))) (unsigned : T (ltb (hbits w) (bits u))) (z : ℤ) (f : SFits w z) where
  -- the number read from its bits, and from its bits in the wider type
  abbrev pub number : ℤ
  number = to_z w (of_z w z)

  abbrev pub wide : ℤ
  wide = to_z w' (of_z w' number)

  room : 2 ^ hbits w < 2 ^ hbits w'
  room = pow-lt (ltb→lt (hbits w) (hbits w') narrower)

  unsigned_room : 2 ^ hbits w < 2 ^ bits u
  unsigned_room = pow-lt (ltb→lt (hbits w) (bits u) unsigned)

  fits : SFits w' z
  fits = record { sfits = let s = f.sfits in let r = room in omega arith }

  number_is : number ≡ z
  number_is = to_z-of_z f

  wide_is : wide ≡ z
  wide_is = ap (λ (y : ℤ). to_z w' (of_z w' y)) number_is ∙ to_z-of_z fits

  pub widens : SFits w' number
  widens = rw number_is fits

  -- above 0: it fits without a sign
  module _ (above : lt_z (pos 0) number ≡ true) where
    pub positive_cast : T (non_neg number) × Fits u (nat_abs number)
    positive_cast =
        let s : SFits w number = rw number_is f in
        (positive_sign number above, record { fits = omega (arith, positive_size w number above s, unsigned_room) })

    pub positive_asked : one_shot (nat_abs number) ≡ signed (2 ^ hbits w) (of_z w z)
    positive_asked = sym (positive number above) ∙ ap asked number_is ∙ asked_by_bits w z f

  -- below 0: the opposite fits the wider type, and without a sign
  module _ (below : lt_z (pos 0) number ≡ false) (any : of_z w z ≡ 0 → ⊥) where
    n : Negative z
    n = negative z (rw number_is at below) (λ e. any (ap (of_z w) e))

    abbrev k : ℕ
    k = n.below

    opposite : pos 0 -ℤ wide ≡ pos (suc k)
    opposite = ap (λ (y : ℤ). pos 0 -ℤ y) (wide_is ∙ n.is) ∙ ap pos (zero-add (suc k))

    few : k < 2 ^ hbits w
    few = let s : SFits w (negsuc k) = subst (SFits w) n.is f in s.sfits

    opposite_room : SFits w' (pos (suc k))
    opposite_room = record { sfits = omega (arith, few, room) }

    pub opposite_fits : SFits w' (pos 0 -ℤ wide)
    opposite_fits = subst (SFits w') (sym opposite) opposite_room

    opposite_is : to_z w' (of_z w' (pos 0 -ℤ wide)) ≡ pos (suc k)
    opposite_is = to_z-of_z opposite_fits ∙ opposite

    pub opposite_cast : T (non_neg (to_z w' (of_z w' (pos 0 -ℤ wide)))) × Fits u (nat_abs (to_z w' (of_z w' (pos 0 -ℤ wide))))
    opposite_cast =
        subst (λ (y : ℤ). T (non_neg y) × Fits u (nat_abs y)) (sym opposite_is)
        (tt, record { fits = omega (arith, few, unsigned_room) })

    pub opposite_asked : cyclic (nat_abs (to_z w' (of_z w' (pos 0 -ℤ wide)))) ≡ signed (2 ^ hbits w) (of_z w z)
    opposite_asked = ap (λ (y : ℤ). cyclic (nat_abs y)) opposite_is ∙ ap asked (sym n.is) ∙ asked_by_bits w z f
