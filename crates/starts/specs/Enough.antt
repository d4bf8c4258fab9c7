-- How many starts are enough, and progressions of numbers.
use Rattle.std.specs.Prelude.{ℕ, suc, ◌%◌, Bool, true, false, cond, List, [], ◌∷◌, eqb}

-- so many starts are enough to try, whatever the period is
abbrev pub enough_starts : ℕ
enough_starts = 256

-- the numbers with the rest of `rest` by the step, which is one more than `before`
pub record Progression : Type 0 where
  pub before : ℕ
  pub rest : ℕ

abbrev pub step : Progression → ℕ
step c = suc c.before

-- whether two numbers have the same rest
abbrev pub same : ℕ → ℕ → ℕ → Bool
same d a b = eqb (a % d) (b % d)

-- whether x is in one of them
unfoldable pub covers : List Progression → ℕ → Bool
covers [] x = false
covers (c ∷ cs) x = cond (same (step c) x c.rest) true (covers cs x)
