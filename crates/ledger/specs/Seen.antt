-- What a host sees of its calls, and the turns in it: counted from the frames, the numbers that the calls returned, and the items that lay in the memory before and after each. Definitions alone.
use Rattle.std.specs.Prelude.{ℕ, ◌+◌, ◌/◌, ◌≡◌, Bool, true, false, cond, ◌&&◌, List, [], ◌∷◌, ◌++◌, map, eqb, leb}
use Rattle.ledger.specs.Lists.{Bytes, at, any, keep}
use Rattle.ledger.specs.Config.{Config}
use Rattle.ledger.specs.Time.{TockValue}
use Rattle.ledger.specs.Ledger.{PENDING, WAITING, null_task, lowest_runnable}
use Rattle.ledger.specs.Refusals.{is_waiting}
use Rattle.ledger.specs.Session.{is_open, TimerLeft, Items}
use Rattle.ledger.specs.Turns.{Starts, ends, passes_tock, after_signals, Moment, turns, spared, turns_in, ticks_among}

-- one call
pub record Seen : Type 0 where
  pub frame : List ℕ
  pub number : ℕ
  pub before : Items
  pub after : Items

-- the task that ran before it
unfoldable pub ran_before : Seen → ℕ
ran_before s = lowest_runnable 1 s.before.tasks

-- the timer of task a on semaphore b
abbrev pub started_for : (a b : ℕ) → TimerLeft → Bool
started_for a b t = eqb t.task a && eqb t.semaphore b

module _ (c : Config) where
  -- a tock passed
  unfoldable pub tock_passed : Seen → Bool
  tock_passed s = passes_tock c s.before.ticks s.number s.frame

  unfoldable pub tocks_seen : List Seen → ℕ
  tocks_seen [] = 0
  tocks_seen (s ∷ ss) = cond (tock_passed s) 1 0 + tocks_seen ss

  -- the timers that were due: if a tock passed, those that had at most one tock left
  unfoldable pub were_due : Seen → List TimerLeft
  were_due s = cond (tock_passed s) (keep (λ t. leb t.left 1) s.before.timers) []

  -- what it meant for the timer of a on b
  unfoldable pub moment_in : (a b : ℕ) → Seen → Moment
  moment_in a b s = record { turn = any (started_for a b) (were_due s); ended = ends c (ran_before s) s.number s.frame a b; there = any (started_for a b) s.after.timers }

  -- ---- what holds of all calls that a host has seen, from the first frame on

  -- no turn is missed: a call started the timer of a on b, and no later one ended it as long as it was there. It has had the turns that the tocks since then ask for
  abbrev pub NoTurnMissed : List Seen → Type 0
  NoTurnMissed all =
      (earlier : List Seen) (s : Seen) (later : List Seen) → all ≡ earlier ++ (s ∷ later)
      → (a b : ℕ) (v : TockValue) → Bytes s.frame → Starts c (ran_before s) s.number s.frame a b v
      → let its = map (moment_in a b) later in spared its ≡ true → turns its ≡ turns_in v (tocks_seen later)

  -- the tocks are those of the ticks that were fed, whatever numbers these got: so many whole ones of K ticks, at every point from the first frame on
  abbrev pub TocksAreFed : List Seen → Type 0
  TocksAreFed all = (earlier later : List Seen) → all ≡ earlier ++ later → tocks_seen earlier ≡ ticks_among (map (λ s. s.frame) earlier) / c.K

  -- a turn on semaphore b signals: once for each timer on it that was due, so that it is not WAITING. A task that it was WAITING for has no event wait after the call, unless it had an open request, which settling may have issued again
  pub record Signals (s : Seen) (b : ℕ) : Type 0 where
    pub state : at s.after.semaphores b PENDING ≡ after_signals b (map (λ t. t.semaphore) (were_due s)) (at s.before.semaphores b PENDING)
    pub unwaited : is_waiting (at s.after.semaphores b PENDING) ≡ false
    pub stays : (t : ℕ) → at s.before.semaphores b PENDING ≡ WAITING t → is_open (at s.before.tasks t null_task).request ≡ false
        → (at s.after.tasks t null_task).blocks.event_wait ≡ false

  abbrev pub EachTurnSignals : List Seen → Type 0
  EachTurnSignals all = (earlier : List Seen) (s : Seen) (later : List Seen) → all ≡ earlier ++ (s ∷ later) → (a b : ℕ) → (moment_in a b s).turn ≡ true → Signals s b
