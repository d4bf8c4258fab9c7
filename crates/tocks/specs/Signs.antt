-- A signed number as a tock value, from its bits at every width: positive is one-shot, negative is cyclic with the opposite
-- number as its period.
use Rattle.std.specs.Prelude.{ℕ, zero, suc, ◌*◌, ◌-◌, ◌^◌, ◌<◌, ◌≡◌, refl, ℤ, pos, negsuc, cond, ltb}
use Rattle.std.proofs.Common.{sym, ◌∙◌, ap, arith}
use Rattle.std.specs.Int.{Width, w8, w16, w32, w64, w128}
use mir.Val.{bits, hbits, SFits, of_z}
use Rattle.ledger.specs.Time.{TockValue, none, one_shot, cyclic, signed}
use Rattle.ledger.proofs.Theorems.TockValues.{none_at_0, positive, negative}

abbrev pub asked : ℤ → TockValue
asked (pos zero) = none
asked (pos (suc n)) = one_shot (suc n)
asked (negsuc k) = cyclic (suc k)

-- the signed number of these bits, where half of all are `half`: as they are, or -1 less what they lack to all ones
abbrev pub signed_of : (half bits : ℕ) → ℤ
signed_of half bits = cond (ltb bits half) (pos bits) (negsuc (2 * half - suc bits))

-- half of all values, twice
pub halves : (w : Width) → 2 ^ bits w ≡ 2 * 2 ^ hbits w
halves w8 = refl
halves w16 = refl
halves w32 = refl
halves w64 = refl
halves w128 = refl

pub asked_by_bits : (w : Width) (z : ℤ) → SFits w z → asked z ≡ signed (2 ^ hbits w) (of_z w z)
asked_by_bits w (pos zero) f = sym (none_at_0 (2 ^ hbits w))
asked_by_bits w (pos (suc n)) f = sym (positive (2 ^ hbits w) (suc n) (omega arith) f.sfits)
asked_by_bits w (negsuc k) f =
    let h : 2 ^ bits w ≡ 2 * 2 ^ hbits w = halves w in
    let k< : k < 2 ^ hbits w = f.sfits in
    let n = negative (2 ^ hbits w) (2 ^ bits w - suc k) (omega arith) (omega arith) in
    let p : 2 * 2 ^ hbits w - (2 ^ bits w - suc k) ≡ suc k = omega arith in
    sym (n.value ∙ ap cyclic p)
