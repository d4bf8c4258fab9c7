-- Document 02's W11: cyclic timers, the tocks they signal at, and what a free start for a new one is; and what a call gives.
-- A timer started at s with period p signals at s + p, s + 2p and so on without end: no bound stands on a tock.
use Rattle.std.specs.Prelude.{◌≡◌, List, ℕ, ◌+◌, ◌*◌, ◌≤◌, ◌<◌, length, get_or, Option, Some, None, Result, Ok, Err}
use Rattle.refusals.specs.declared.Refusal.{Refusal}
use Rattle.refusals.specs.declared.Refusal.TheVariants as refusal
use Rattle.refusals.specs.Numbers.{number_of}
use Rattle.starts.specs.declared.Cycle.{Cycle}

-- the tock is in the timer's row, which begins one period after its start
pub record Signals (t : Cycle) (tock : ℕ) : Type 0 where
  pub turn : ℕ
  pub from_one : 1 ≤ turn
  pub is : tock ≡ t.start + turn * t.period

-- some tock is in both rows
pub record Collide (a b : Cycle) : Type 0 where
  pub tock : ℕ
  pub left : Signals a tock
  pub right : Signals b tock

-- a timer of period p, started at s
abbrev pub cycle : ℕ → ℕ → Cycle
cycle s p = record { start = s; period = p }

-- the timer at an index, counted from 0
abbrev pub timer_at : List Cycle → ℕ → Cycle
timer_at ts k = get_or ts k (cycle 0 0)

-- a new timer of period p, started at s, collides with some timer of the list
pub record Taken (ts : List Cycle) (p s : ℕ) : Type 0 where
  pub which : ℕ
  pub there : which < length ts
  pub collide : Collide (timer_at ts which) (cycle s p)

-- the smallest start from 0 to the period less 1 that collides with none
pub record Smallest (ts : List Cycle) (p s : ℕ) : Type 0 where
  pub below : s < p
  pub free : Taken ts p s → ⊥
  pub least : (e : ℕ) → e < s → Taken ts p e

abbrev pub most_cycles : ℕ
most_cycles = 8

abbrev pub longest_cycle : ℕ
longest_cycle = 32768

-- a period from 1 to 32,768
pub record InRange (p : ℕ) : Type 0 where
  pub low : 1 ≤ p
  pub high : p ≤ longest_cycle

-- at most eight timers, and every period, given or new, in range
pub record Valid (ts : List Cycle) (p : ℕ) : Type 0 where
  pub few : length ts ≤ most_cycles
  pub timers : (k : ℕ) → k < length ts → InRange (timer_at ts k).period
  pub new : InRange p

-- a is the answer to the call: Cycles, which is 31, where it is not valid. Where it is None, every start collides with some timer, however large it is
abbrev pub Answers : List Cycle → ℕ → Result (Option ℕ) Refusal → Type 0
Answers ts p (Ok (Some s)) = Valid ts p × Smallest ts p s
Answers ts p (Ok None) = Valid ts p × ((s : ℕ) → Taken ts p s)
Answers ts p (Err refused) = (Valid ts p → ⊥) × (refused ≡ refusal.Cycles)

-- what a C function returns for None
abbrev pub no_start : ℕ
no_start = 255

-- what a C function that is lent a number gives for each answer: 0 with the start written, or another number with nothing written
abbrev pub Gives : Result (Option ℕ) Refusal → ℕ → ℕ → ℕ → Type 0
Gives (Ok (Some s)) old new r = (r ≡ 0) × (new ≡ s)
Gives (Ok None) old new r = (r ≡ no_start) × (new ≡ old)
Gives (Err refused) old new r = (r ≡ number_of refused) × (new ≡ old)

-- it gives the answer to the call
pub record Leaves (ts : List Cycle) (p old new r : ℕ) : Type 0 where
  pub answer : Result (Option ℕ) Refusal
  pub right : Answers ts p answer
  pub given : Gives answer old new r
