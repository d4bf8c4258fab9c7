-- A session's input, fed byte by byte: where the session stands, the unfinished line, and what is printed.
use Rattle.std.specs.Prelude.{ℕ, cond, List, [], ◌∷◌, ◌++◌, eqb}
use Rattle.std.proofs.Math.Option.{Option, none, some}
use Rattle.ledger.specs.Config.{Config, config_in, config_refusal}
use Rattle.ledger.specs.Ledger.{Ledger, fresh}
use Rattle.ledger.specs.Session.{answer, refused_configuration}
use Rattle.ledger.specs.Lines.{digits_of, frame_of, step_line}

-- before its first line; configured, with the ledger as the lines left it; ended by a refused configuration
pub data Stands : Type 0 where
  first : Stands
  runs : Config → Ledger → Stands
  over : Stands

-- a stand, and the answer given on the way there
pub record Reply : Type 0 where
  pub stand : Stands
  pub answer : List ℕ

-- the first line
unfoldable pub configures : Option (List ℕ) → Reply
configures none = record { stand = over; answer = refused_configuration 1 }
configures (some g) =
    let n = config_refusal g in
    let c = config_in g in
    cond (eqb n 0)
    (record { stand = runs c (fresh c); answer = answer 0 0 (fresh c) })
    (record { stand = over; answer = refused_configuration n })

-- any other
unfoldable pub steps : Config → Ledger → Option (List ℕ) → Reply
steps c l f = let s = step_line c f l in record { stand = runs c s.ledger; answer = s.answered }

-- a stand, and what is printed on the way there
pub record Said : Type 0 where
  pub stand : Stands
  pub text : List ℕ

-- an answer is printed in upper-case digits, with $0A behind it
unfoldable pub print : List ℕ → List ℕ
print a = digits_of a ++ (0x0A ∷ [])

unfoldable pub printing : Reply → Said
printing r = record { stand = r.stand; text = print r.answer }

-- a whole line
unfoldable pub line_fed : Stands → List ℕ → Said
line_fed first line = printing (configures (frame_of line))
line_fed (runs c l) line = printing (steps c l (frame_of line))
line_fed over line = record { stand = over; text = [] }

-- a stand, the bytes of a line that has no end yet, and what is printed on the way there
pub record Fed : Type 0 where
  pub stand : Stands
  pub line : List ℕ
  pub text : List ℕ

unfoldable pub behind : List ℕ → Fed → Fed
behind text f = record { stand = f.stand; line = f.line; text = text ++ f.text }

unfoldable pub fed : Stands → (line : List ℕ) → (bytes : List ℕ) → Fed
fed s l [] = record { stand = s; line = l; text = [] }
fed s l (b ∷ bs) = cond (eqb b 0x0A) (behind (line_fed s l).text (fed (line_fed s l).stand [] bs)) (fed s (l ++ (b ∷ [])) bs)

-- at the end of the input an unfinished line is a line, unless it is empty
unfoldable pub last : Stands → List ℕ → List ℕ
last s [] = []
last s (b ∷ l) = (line_fed s (b ∷ l)).text
