-- Document 02's W9: the busiest stretch of a run, as a reader states it and as it is computed; and what a call gives.
-- A stretch is w consecutive records; its sum is that of their reissues; its place is that of its first record, the list's first being 0.
use Rattle.std.specs.Prelude.{◌≡◌, Bool, cond, ◌||◌, List, map, sum, ◌⊎◌, ℕ, zero, suc, ◌+◌, ◌-◌, ◌<◌, ◌≤◌, ltb, eqb, length, take, drop, Result, Ok, Err}
use Rattle.refusals.specs.declared.Refusal.{Refusal}
use Rattle.refusals.specs.declared.Refusal.TheVariants as refusal
use Rattle.refusals.specs.Numbers.{number_of}
use Rattle.stretch.specs.declared.Record.{Record}
use Rattle.stretch.specs.declared.Stretch.{Stretch}

-- the reissues of each record, oldest first
abbrev pub counts : List Record → List ℕ
counts rs = map (λ (r : Record). r.reissues) rs

-- the sum of the stretch of w that begins at place p
abbrev pub stretch_sum : ℕ → List ℕ → ℕ → ℕ
stretch_sum w cs p = sum (take w (drop p cs))

-- ---- what is asked

-- the stretch at place lies within the list and has this sum; every stretch has at most it, and every earlier one less
pub record Largest (w : ℕ) (cs : List ℕ) (sum place : ℕ) : Type 0 where
  pub within : place + w ≤ length cs
  pub summed : stretch_sum w cs place ≡ sum
  pub largest : (p : ℕ) → p + w ≤ length cs → stretch_sum w cs p ≤ sum
  pub earliest : (p : ℕ) → p < place → stretch_sum w cs p < sum

abbrev pub most_records : ℕ
most_records = 4096

-- a list of n records that is above 4,096, or w that is 0 or above the number of records
abbrev pub TurnedAway : ℕ → ℕ → Type 0
TurnedAway n w = (most_records < n) ⊎ ((w ≡ 0) ⊎ (n < w))

-- a is the answer to the call: Stretch, which is 28, where it is turned away, and else the largest sum and the earliest place
abbrev pub Answers : List Record → ℕ → Result Stretch Refusal → Type 0
Answers rs w (Err refused) = TurnedAway (length rs) w × (refused ≡ refusal.Stretch)
Answers rs w (Ok found) = (TurnedAway (length rs) w → ⊥) × Largest w (counts rs) found.sum found.place

-- what a C function that is lent a sum and a place leaves: 28 with nothing written, or 0 with the largest sum and the earliest place
pub record Leaves (rs : List Record) (w sum place sum' place' r : ℕ) : Type 0 where
  pub refused : TurnedAway (length rs) w → (r ≡ 28) × ((sum' ≡ sum) × (place' ≡ place))
  pub accepted : (TurnedAway (length rs) w → ⊥) → (r ≡ 0) × Largest w (counts rs) sum' place'

-- what it gives for each case of an answer: the number with nothing written, or 0 with the sum and the place
abbrev pub Gives : Result Stretch Refusal → ℕ → ℕ → ℕ → ℕ → ℕ → Type 0
Gives (Err refused) sum place sum' place' r = (r ≡ number_of refused) × ((sum' ≡ sum) × (place' ≡ place))
Gives (Ok found) sum place sum' place' r = (r ≡ 0) × ((sum' ≡ found.sum) × (place' ≡ found.place))

-- ---- how it is computed: the plain maximum over all stretches

-- a later stretch must be larger
abbrev pub better : Stretch → ℕ → ℕ → Stretch
better b v p = cond (ltb b.sum v) (record { sum = v; place = p }) b

-- of the stretches at the places 0 to p the best
abbrev pub best_upto : ℕ → List ℕ → ℕ → Stretch
best_upto w cs zero = record { sum = stretch_sum w cs 0; place = 0 }
best_upto w cs (suc p) = better (best_upto w cs p) (stretch_sum w cs (suc p)) (suc p)

abbrev pub turned_away : ℕ → ℕ → Bool
turned_away n w = ltb most_records n || (eqb w 0 || ltb n w)

unfoldable pub busiest_of : List Record → ℕ → Result Stretch Refusal
busiest_of rs w = cond (turned_away (length rs) w) (Err refusal.Stretch) (Ok (best_upto w (counts rs) (length rs - w)))
