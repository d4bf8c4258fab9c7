-- Answers computed by the checker, and where a row begins.
use Rattle.std.specs.Prelude.{◌≡◌, refl, List, [], ◌∷◌, ℕ, Option, Some, None, Result, Ok, Err}
use Rattle.std.proofs.Common.{arith}
use Rattle.refusals.specs.declared.Refusal.{Refusal}
use Rattle.refusals.specs.declared.Refusal.TheVariants as refusal
use Rattle.starts.specs.declared.Cycle.{Cycle}
use Rattle.starts.specs.Starts.{Signals, cycle}
use Rattle.starts.specs.Divisor.{gcd_of, steps}
use Rattle.starts.specs.Least.{least_from}
use Rattle.starts.specs.Computed.{free_start, valid, in_range, all_in_range, taken, meets}

abbrev eight : List Cycle
eight = cycle 0 9 ∷ cycle 1 9 ∷ cycle 2 9 ∷ cycle 3 9 ∷ cycle 4 9 ∷ cycle 5 9 ∷ cycle 6 9 ∷ cycle 7 9 ∷ []

-- each takes half of what those before it left; left of 256 starts is the last
abbrev halves : List Cycle
halves = cycle 0 2 ∷ cycle 1 4 ∷ cycle 3 8 ∷ cycle 7 16 ∷ cycle 15 32 ∷ cycle 31 64 ∷ cycle 63 128 ∷ cycle 127 256 ∷ []

abbrev at : ℕ → Result (Option ℕ) Refusal
at s = Ok (Some s)

abbrev nowhere : Result (Option ℕ) Refusal
nowhere = Ok None

abbrev refused : Result (Option ℕ) Refusal
refused = Err refusal.Cycles

pub record Computed : Type 0 where
  pub no_timers : free_start [] 5 ≡ at 0
  pub one_later : free_start (cycle 0 4 ∷ []) 6 ≡ at 1
  pub rests : free_start (cycle 0 2 ∷ cycle 1 4 ∷ []) 4 ≡ at 3
  pub all_taken : free_start (cycle 0 2 ∷ cycle 1 4 ∷ cycle 3 4 ∷ []) 4 ≡ nowhere
  pub co_prime : free_start (cycle 7 5 ∷ []) 6 ≡ nowhere
  pub period_one : free_start (cycle 7 1 ∷ []) 32768 ≡ nowhere
  pub far_start : free_start (cycle 4294967295 32768 ∷ cycle 0 32768 ∷ []) 32768 ≡ at 1
  pub not_cut : free_start (cycle 4294967295 3 ∷ []) 3 ≡ at 1
  pub full_list : free_start eight 18 ≡ at 8
  pub largest_start : free_start halves 32768 ≡ at 255
  pub nine_timers : free_start (cycle 8 9 ∷ eight) 18 ≡ refused
  pub no_period : free_start (cycle 0 0 ∷ []) 6 ≡ refused
  pub long_period : free_start (cycle 0 32769 ∷ []) 6 ≡ refused
  pub new_zero : free_start [] 0 ≡ refused
  pub new_long : free_start [] 32769 ≡ refused

pub computed : Computed
unfolding free_start valid in_range all_in_range taken meets least_from gcd_of steps
computed =
    record {
      no_timers = refl;
      one_later = refl;
      rests = refl;
      all_taken = refl;
      co_prime = refl;
      period_one = refl;
      far_start = refl;
      not_cut = refl;
      full_list = refl;
      largest_start = refl;
      nine_timers = refl;
      no_period = refl;
      long_period = refl;
      new_zero = refl;
      new_long = refl;
    }

-- a row begins one period after the start
pub record Begins : Type 0 where
  pub not_at_start : Signals (cycle 3 4) 3 → ⊥
  pub one_period_on : Signals (cycle 3 4) 7
  pub not_between : Signals (cycle 3 4) 8 → ⊥
  pub two_periods_on : Signals (cycle 3 4) 11

pub begins : Begins
begins =
    record {
      not_at_start = λ h. omega (arith, h.is, h.from_one);
      one_period_on = record { turn = 1; from_one = omega arith; is = refl };
      not_between = λ h. omega (arith, h.is);
      two_periods_on = record { turn = 2; from_one = omega arith; is = refl };
    }
