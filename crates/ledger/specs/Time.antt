-- Numbers of tocks: the tock value of a frame, and milliseconds as tocks.
use Rattle.std.specs.Prelude.{ℕ, suc, ◌+◌, ◌-◌, ◌/◌, ◌%◌, cond, ◌||◌, eqb, ltb}

-- X as a tock value is a signed number: positive is one-shot, negative is cyclic with the opposite number as its period; 0 is none
pub data TockValue : Type 0 where
  none : TockValue
  one_shot : ℕ → TockValue
  cyclic : ℕ → TockValue

-- the bits of a signed number: from half of all values on it is negative. The opposite of the lowest, as $8000, is half itself
unfoldable pub signed : (half x : ℕ) → TockValue
signed half x = cond (eqb x 0) none (cond (ltb x half) (one_shot x) (cyclic (half + half - x)))

-- a signed 16-bit number, and a signed 32-bit one
unfoldable pub tock_value : ℕ → TockValue
tock_value x = signed 0x8000 x

unfoldable pub long_tock_value : ℕ → TockValue
long_tock_value x = signed 0x80000000 x

-- the tocks until it is due for the first time
unfoldable pub tocks : TockValue → ℕ
tocks none = 0
tocks (one_shot n) = n
tocks (cyclic p) = p

-- the period, or 0
unfoldable pub period : TockValue → ℕ
period none = 0
period (one_shot n) = 0
period (cyclic p) = p

-- ---- milliseconds, a call of its own: a number of tocks, or a refusal
pub data Tocks : Type 0 where
  are : ℕ → Tocks
  refused : ℕ → Tocks

-- m milliseconds at p per tock lie m % p above a whole number of tocks and p - m % p below the next: the nearer of the two, and the upper one where both are as near (Theorems/Nearest: the only r with 2m from (2r - 1)p up to (2r + 1)p)
unfoldable pub nearest : (m p : ℕ) → ℕ
nearest m p = cond (ltb (m % p) (p - m % p)) (m / p) (suc (m / p))

-- milliseconds as the nearest number of tocks: 0 milliseconds per tock gives 3, tested first; a result of 0 or above 32,767 gives 10
unfoldable pub milliseconds : (ms perTock : ℕ) → Tocks
milliseconds m p =
    cond (eqb p 0) (refused 3)
    (cond (eqb (nearest m p) 0 || ltb 32767 (nearest m p)) (refused 10)
    (are (nearest m p)))
