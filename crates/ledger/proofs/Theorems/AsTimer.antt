-- A season timer with a number of 16 bits, its sign in front, is the timer of that number: every ledger, every task and semaphore, refused or not.
use Rattle.std.specs.Prelude.{ℕ, ◌+◌, ◌*◌, ◌-◌, ◌<◌, ◌≡◌, refl, Bool, true, false, cond, [], ◌∷◌, ltb, eqb}
use Rattle.std.proofs.Common.{◌∙◌, ap, arith, lt-ltb, le-ltb, ltb-true, ltb-false, ne_eqb, eqb-true}
use Rattle.std.proofs.lemmas.Bool.{eqb-false}
use Rattle.ledger.specs.Lists.{at}
use Rattle.ledger.specs.Config.{Config}
use Rattle.ledger.specs.Time.{signed, tock_value, long_tock_value}
use Rattle.ledger.specs.Ledger.{Ledger}
use Rattle.ledger.specs.Services.{effect}
use Rattle.ledger.specs.Refusals.{fields, code_at, value_x, behind_x, call, wrong_length, is_message, is_tock_value, wrong_entry, from_input, from_state, refusal}
use Rattle.ledger.specs.Session.{accept, step}
use Rattle.ledger.proofs.Theorems.TockValues.{widened}

-- the byte that the sign puts in front, twice
abbrev pub sign : ℕ → ℕ
sign high = cond (ltb high 128) 0 255

abbrev wide : (high low : ℕ) → ℕ
wide high low = 65536 * (256 * sign high + sign high) + (256 * high + low)

wide_is : (high low : ℕ) → low < 256 → wide high low ≡ cond (ltb (256 * high + low) 0x8000) (256 * high + low) (2 * 0x80000000 - 2 * 0x8000 + (256 * high + low))
wide_is high low h = go (ltb high 128) refl
  where
    go : (b : Bool) → ltb high 128 ≡ b
        → 65536 * (256 * cond b 0 255 + cond b 0 255) + (256 * high + low) ≡ cond (ltb (256 * high + low) 0x8000) (256 * high + low) (2 * 0x80000000 - 2 * 0x8000 + (256 * high + low))
    go true e = let k = ltb-true high 128 e in rw (lt-ltb (256 * high + low) 0x8000 (omega arith)) (omega arith)
    go false e = let k = ltb-false high 128 e in rw (le-ltb (256 * high + low) 0x8000 (omega arith)) (omega arith)

-- both are 0 or neither, and they are one tock value
wide_0 : (high low : ℕ) → high < 256 → low < 256 → eqb (wide high low) 0 ≡ eqb (256 * high + low) 0
wide_0 high low h k = go (eqb (256 * high + low) 0) refl
  where
    go : (b : Bool) → eqb (256 * high + low) 0 ≡ b → eqb (wide high low) 0 ≡ b
    go true e = let n = eqb-true (256 * high + low) 0 e in let z : high ≡ 0 = omega arith in let y : low ≡ 0 = omega arith in rw (z, y) refl
    go false e = let n = eqb-false (256 * high + low) 0 e in ne_eqb (wide high low) 0 (λ z. n (omega arith))

wide_value : (high low : ℕ) → high < 256 → low < 256 → long_tock_value (wide high low) ≡ tock_value (256 * high + low)
unfolding long_tock_value tock_value
wide_value high low h k = ap (signed 0x80000000) (wide_is high low k) ∙ widened 0x8000 0x80000000 (256 * high + low) (omega arith) (omega arith)

-- for every ledger, whatever the fields are
pub as_timer : (c : Config) (l : Ledger) (a b high low : ℕ) → high < 256 → low < 256
    → step c (18 ∷ a ∷ b ∷ sign high ∷ sign high ∷ high ∷ low ∷ []) l ≡ step c (14 ∷ a ∷ b ∷ high ∷ low ∷ []) l
unfolding step refusal accept call fields code_at at from_input from_state effect value_x behind_x wrong_length wrong_entry is_message is_tock_value
as_timer c l a b high low h k = rw (wide_0 high low h k, wide_value high low h k)
