-- What the tables of examples and readings share: the ledger after a session written as lines, and what they look at in it.
use Rattle.std.specs.Prelude.{ℕ, zero, suc, List, [], ◌∷◌, map}
use Prim.Native.String.{String}
use Rattle.ledger.specs.Config.{config_in}
use Rattle.ledger.specs.Ledger.{Message, Timer, Ledger}
use Rattle.ledger.specs.Session.{run}
use Rattle.ledger.specs.Computing.Hex.{hex}

abbrev pub after : String → List String → Ledger
after g fs = (run (config_in (hex g)) (map hex fs)).0

-- the document's session: 2 tasks, one named semaphore, one queue of one byte, 1 timer, 1 message
abbrev pub two : String
two = "020101010101007D00000101"

-- when a timer is due, and its period
abbrev pub timing : Timer → ℕ × ℕ
timing t = (t.due, t.period)

-- the same pair n times
unfoldable pub pair_times : ℕ → (first then : ℕ) → List ℕ
pair_times zero a b = []
pair_times (suc n) a b = a ∷ b ∷ pair_times n a b

abbrev pub number_of : Message → ℕ
number_of m = m.number
