-- Lines of digits and frames, both ways; the session program's input and output.
use Rattle.std.specs.Prelude.{ℕ, ◌+◌, ◌*◌, ◌-◌, ◌/◌, ◌%◌, cond, List, [], ◌∷◌, ◌++◌, ltb, leb, eqb, length}
use Rattle.std.proofs.Math.Option.{Option, none, some}
use Rattle.ledger.specs.Lists.{within}
use Rattle.ledger.specs.Config.{Config, config_in, config_refusal}
use Rattle.ledger.specs.Ledger.{Ledger, fresh}
use Rattle.ledger.specs.Session.{Stepped, step, answer, refused_configuration}

-- a frame has at most 326 bytes, and its line at most twice as many digits
abbrev pub longest_frame : ℕ
longest_frame = 326

-- ---- digits: 0 to 9 are the bytes $30 to $39, A to F the bytes $41 to $46

unfoldable pub digit_value : ℕ → Option ℕ
digit_value d = cond (within 0x30 0x39 d) (some (d - 0x30)) (cond (within 0x41 0x46 d) (some (d - 0x37)) none)

unfoldable pub digit_of : ℕ → ℕ
digit_of v = cond (ltb v 10) (0x30 + v) (0x37 + v)

-- the byte of two digits, high first, in front of the bytes of the rest
unfoldable pub joined : (high low : Option ℕ) → Option (List ℕ) → Option (List ℕ)
joined none low rest = none
joined (some h) none rest = none
joined (some h) (some l) none = none
joined (some h) (some l) (some bytes) = some ((16 * h + l) ∷ bytes)

unfoldable pub bytes_of : List ℕ → Option (List ℕ)
bytes_of [] = some []
bytes_of (h ∷ []) = none
bytes_of (h ∷ l ∷ ds) = joined (digit_value h) (digit_value l) (bytes_of ds)

unfoldable pub digits_of : List ℕ → List ℕ
digits_of [] = []
digits_of (b ∷ bs) = digit_of (b / 16) ∷ digit_of (b % 16) ∷ digits_of bs

-- ---- the line reader and the line writer. Nothing is number 1: odd, too long or with another character; a frame above 326 bytes

unfoldable pub frame_of : (line : List ℕ) → Option (List ℕ)
frame_of line = cond (leb (length line) (2 * longest_frame)) (bytes_of line) none

unfoldable pub line_of : (frame : List ℕ) → Option (List ℕ)
line_of f = cond (leb (length f) longest_frame) (some (digits_of f)) none

-- what a call of either gives back: a number, or the result in the lent buffer
pub data Written : Type 0 where
  number : ℕ → Written
  result : List ℕ → Written

-- 11 where the lent buffer is too short for the whole result, tested after 1
unfoldable pub written_into : (room : ℕ) → Option (List ℕ) → Written
written_into room none = number 1
written_into room (some r) = cond (ltb room (length r)) (number 11) (result r)

unfoldable pub read_line : (room : ℕ) (line : List ℕ) → Written
read_line room line = written_into room (frame_of line)

unfoldable pub write_line : (room : ℕ) (frame : List ℕ) → Written
write_line room f = written_into room (line_of f)

-- ---- the session program

-- a line ends at byte $0A or at the end of the input; an $0A that ends the input opens no further line
unfoldable pub before : ℕ → List (List ℕ) → List (List ℕ)
before b [] = (b ∷ []) ∷ []
before b (l ∷ ls) = (b ∷ l) ∷ ls

unfoldable pub lines_in : List ℕ → List (List ℕ)
lines_in [] = []
lines_in (b ∷ bs) = cond (eqb b 0x0A) ([] ∷ lines_in bs) (before b (lines_in bs))

-- a line that is no frame is answered with 1, and nothing else happens
unfoldable pub step_line : Config → Option (List ℕ) → Ledger → Stepped
step_line c none l = record { ledger = l; answered = answer 1 0 l }
step_line c (some f) l = step c f l

unfoldable pub answers_from : Config → Ledger → List (List ℕ) → List (List ℕ)
answers_from c l [] = []
answers_from c l (line ∷ lines) =
    let s = step_line c (frame_of line) l in
    s.answered ∷ answers_from c s.ledger lines

-- first the configuration; refused, with 1 too, 000000 follows the number and the session ends
unfoldable pub configured : Option (List ℕ) → List (List ℕ) → List (List ℕ)
configured none lines = refused_configuration 1 ∷ []
configured (some g) lines =
    let n = config_refusal g in
    let c = config_in g in
    cond (eqb n 0) (answer 0 0 (fresh c) ∷ answers_from c (fresh c) lines) (refused_configuration n ∷ [])

unfoldable pub answers_to_lines : List (List ℕ) → List (List ℕ)
answers_to_lines [] = []
answers_to_lines (line ∷ lines) = configured (frame_of line) lines

-- each answer is printed in upper-case digits, with $0A behind it
unfoldable pub printed : List (List ℕ) → List ℕ
printed [] = []
printed (a ∷ rest) = digits_of a ++ (0x0A ∷ printed rest)

-- what the session program writes for what it reads
unfoldable pub output : (input : List ℕ) → List ℕ
output input = printed (answers_to_lines (lines_in input))
