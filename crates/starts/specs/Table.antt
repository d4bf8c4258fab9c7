-- The table in numbers: for each timer a divisor and a rest, and what the search finds by them.
use Rattle.std.specs.Prelude.{ℕ, ◌%◌, ◌<◌, ◌≡◌, cond, List, ltb, length, get_or, Option, Some, None}
use Rattle.starts.specs.declared.Cycle.{Cycle}
use Rattle.starts.specs.declared.table.Residue.{Residue}
use Rattle.starts.specs.Starts.{timer_at, most_cycles, Valid}
use Rattle.starts.specs.Least.{Least}
use Rattle.starts.specs.Divisor.{Gcd}
use Rattle.starts.specs.Enough.{enough_starts}

-- the divisor and the rest are those of a timer beside a new one of period p
pub record Beside (t : Cycle) (p : ℕ) (r : Residue) : Type 0 where
  pub gcd : Gcd t.period p r.divisor
  pub rest : r.rest ≡ t.start % r.divisor

abbrev pub residue_at : List Residue → ℕ → Residue
residue_at rs k = get_or rs k (record { divisor = 0; rest = 0 })

-- the table of the timers of a valid call, or that the call is not valid
abbrev pub Filled : List Cycle → ℕ → Option (List Residue) → Type 0
Filled ts p (Some rs) = Valid ts p × (length rs ≡ most_cycles) × ((k : ℕ) → k < length ts → Beside (timer_at ts k) p (residue_at rs k))
Filled ts p None = Valid ts p → ⊥

-- the start has the rest of one of the timers
pub record Hit (rs : List Residue) (s : ℕ) : Type 0 where
  pub which : ℕ
  pub there : which < length rs
  pub same : s % (residue_at rs which).divisor ≡ (residue_at rs which).rest

-- what the search asks: no division by 0
abbrev pub Positive : List Residue → Type 0
Positive rs = (k : ℕ) → k < length rs → 0 < (residue_at rs k).divisor

-- the least number below n without a property, or that all have it
abbrev pub First : (ℕ → Type 0) → ℕ → Option ℕ → Type 0
First P n (Some s) = (s < n) × Least P n s
First P n None = (s : ℕ) → s < n → P s

-- how many starts are tried
abbrev pub tried_of : ℕ → ℕ
tried_of p = cond (ltb p enough_starts) p enough_starts
