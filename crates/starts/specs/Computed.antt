-- The answer computed.
use Rattle.std.specs.Prelude.{ℕ, ◌%◌, Bool, true, false, cond, List, [], ◌∷◌, eqb, leb, ltb, length, Option, Some, None, Result, Ok, Err}
use Rattle.refusals.specs.declared.Refusal.{Refusal}
use Rattle.refusals.specs.declared.Refusal.TheVariants as refusal
use Rattle.starts.specs.declared.Cycle.{Cycle}
use Rattle.starts.specs.Starts.{most_cycles, longest_cycle}
use Rattle.starts.specs.Least.{least_from}
use Rattle.starts.specs.Divisor.{gcd_of}

unfoldable pub meets : Cycle → ℕ → ℕ → Bool
meets t p s = eqb (s % gcd_of t.period p) (t.start % gcd_of t.period p)

unfoldable pub taken : List Cycle → ℕ → ℕ → Bool
taken [] p s = false
taken (t ∷ ts) p s = cond (meets t p s) true (taken ts p s)

unfoldable pub in_range : ℕ → Bool
in_range p = cond (eqb p 0) false (leb p longest_cycle)

unfoldable pub all_in_range : List Cycle → Bool
all_in_range [] = true
all_in_range (t ∷ ts) = cond (in_range t.period) (all_in_range ts) false

unfoldable pub valid : List Cycle → ℕ → Bool
valid ts p = cond (leb (length ts) most_cycles) (cond (all_in_range ts) (in_range p) false) false

-- the start that the search ended at, or none where it ended at the period
abbrev pub ended : ℕ → ℕ → Option ℕ
ended p r = cond (ltb r p) (Some r) None

unfoldable pub free_start : List Cycle → ℕ → Result (Option ℕ) Refusal
free_start ts p = cond (valid ts p) (Ok (ended p (least_from (taken ts p) p 0))) (Err refusal.Cycles)
