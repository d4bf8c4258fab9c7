-- The number of each code, which the first byte of an accepted frame is.
use Rattle.std.specs.Prelude.{ℕ, zero, suc, ◌+◌, ◌<◌, ◌≡◌, refl, List, [], ◌∷◌, length, get_or}
use Rattle.std.proofs.Common.{arith}
use Rattle.ledger.specs.Lists.{at}
use Rattle.ledger.specs.Services.{Code, WAIT, SIGNAL, PEND, SEND, SENDW, RECEIVE, DEQUEUE, ENQUEUE, RESUME, SUSPEND, TERMINATE, EXECUTE, DELAY, TIMER, PURGE, TICK, EXIT, SEASON_TIMER, codes}
use Rattle.ledger.specs.Refusals.{code_at}
use Rattle.ledger.specs.Good.{Numbered}

abbrev pub number_of : Code → ℕ
number_of WAIT = 0x01
number_of SIGNAL = 0x02
number_of PEND = 0x03
number_of SEND = 0x04
number_of SENDW = 0x05
number_of RECEIVE = 0x06
number_of DEQUEUE = 0x07
number_of ENQUEUE = 0x08
number_of RESUME = 0x09
number_of SUSPEND = 0x0A
number_of TERMINATE = 0x0B
number_of EXECUTE = 0x0C
number_of DELAY = 0x0D
number_of TIMER = 0x0E
number_of PURGE = 0x0F
number_of TICK = 0x10
number_of EXIT = 0x11
number_of SEASON_TIMER = 0x12

-- the codes of a list are numbered from n on
abbrev From : ℕ → List Code → Type 0
From n [] = Unit {0}
From n (k ∷ ks) = (number_of k ≡ n) × From (suc n) ks

from_at : (n : ℕ) (ks : List Code) → From n ks → (i : ℕ) → i < length ks → number_of (get_or ks i TICK) ≡ n + i
from_at n [] h i k = absurd (omega arith)
from_at n (x ∷ ks) h zero k = omega (arith, h.0)
from_at n (x ∷ ks) h (suc i) k = omega (arith, from_at (suc n) ks h.1 i (omega arith))

all_codes : From 1 codes
all_codes = (refl, (refl, (refl, (refl, (refl, (refl, (refl, (refl, (refl, (refl, (refl, (refl, (refl, (refl, (refl, (refl, (refl, (refl, tt))))))))))))))))))

pub number_of_code : (n : ℕ) → Numbered (length codes) n → n ≡ number_of (code_at n)
unfolding code_at at
number_of_code zero h = absurd (omega (arith, h.from))
number_of_code (suc i) h = omega (arith, from_at 1 codes all_codes i (omega (arith, h.upto)))
