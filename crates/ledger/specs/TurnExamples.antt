-- Examples of turns, proved by computing both sides: frames before, the frame that starts a timer, frames after.
use Rattle.std.specs.Prelude.{ℕ, ◌-◌, ◌≡◌, refl, Bool, true, false, List, [], ◌∷◌, ◌++◌, map}
use Prim.Native.String.{String}
use Rattle.ledger.specs.Lists.{byte}
use Rattle.ledger.specs.Config.{config_in, config_refusal}
use Rattle.ledger.specs.Time.{TockValue, one_shot, cyclic}
use Rattle.ledger.specs.Ledger.{Semaphore, PENDING, DONE, WAITING, Ledger, task, semaphore_of, running}
use Rattle.ledger.specs.Refusals.{refusal}
use Rattle.ledger.specs.Session.{step, run_from, session}
use Rattle.ledger.specs.Turns.{accepted_as, Starts, ends, passes_tock, turns, spared, turns_in, removed, has_turn, moments}
use Rattle.ledger.specs.Computing.Hex.{hex}
use Rattle.ledger.specs.Computing.Quick.{everything}
use Rattle.ledger.specs.Computing.Sessions.{after}

-- 3 tasks, 2 named semaphores, 1 queue, 3 timers, 1 message; K is the sixth byte
abbrev one_tick : String
one_tick = "030201030101007D0000000101"

abbrev two_ticks : String
two_ticks = "030201030102007D0000000101"

abbrev tick : String
tick = "1000000000"

-- task 1 waits on semaphore 2, task 2 on semaphore 1, and task 3 suspends it
abbrev waiting : List String
waiting = "0100020000" ∷ "0100010000" ∷ "0A02000000" ∷ []

-- a timer of task 1 on semaphore 1, of -2 tocks: of two bytes, and of four
abbrev every_2 : String
every_2 = "0E0101FFFE"

abbrev every_2_long : String
every_2_long = "120101FFFFFFFE"

-- a second timer, of task 3 on semaphore 3, is due in the same tocks; 24, 4 and 9 are refused in between
abbrev cycle : List String
cycle = "0E0303FFFE" ∷ tick ∷ "0E01010005" ∷ "FF00000000" ∷ tick ∷ tick ∷ tick ∷ tick ∷ "0E01010000" ∷ tick ∷ tick ∷ []

-- after a one-shot of 2 tocks has had its turn two more for the same pair: one has its turn, the other is purged
abbrev second : List String
second = tick ∷ tick ∷ "0E00010001" ∷ tick ∷ "0E00010005" ∷ "0F00010000" ∷ []

-- task 1 has delayed itself by 2 tocks of 2 ticks each, on its own semaphore, 3; task 2 suspends and resumes it
abbrev delayed : List String
delayed = tick ∷ tick ∷ "0A01000000" ∷ "0901000000" ∷ tick ∷ []

-- task 3 takes from the empty queue and waits; task 2 puts, takes the entry itself, and delays task 3, whose request is still open, by a tock on semaphore 1. Then nobody runs
abbrev still_open : List String
still_open = "0100020000" ∷ "0100000000" ∷ "0701000000" ∷ "1100040000" ∷ "080100000041" ∷ "0701000000" ∷ "0D03010001" ∷ "0100000000" ∷ []

module _ (g : String) (before : List String) (start : String) (rest : List String) where
  abbrev begun : Ledger
  begun = (step (config_in (hex g)) (hex start) (after g before)).ledger

  -- the turns of the timer of a on b, and whether no frame ends it
  abbrev counted : (a b : ℕ) → ℕ × Bool
  counted a b = let its = moments (config_in (hex g)) a b begun (map hex rest) in (turns its, spared its)

  abbrev passed : ℕ
  passed = (run_from (config_in (hex g)) begun (map hex rest)).0.N - begun.N

-- the frame starts this timer
abbrev Begins : String → List String → String → (a b : ℕ) → TockValue → Type 0
Begins g before start a b v = let c = config_in (hex g) in let l = after g before in Starts c (running l) (refusal c l (hex start)) (hex start) a b v

-- the semaphores of the timers that the last frame removes as due, in the order in which they signal
abbrev signalled_by_lem : String → List String → String → List ℕ
signalled_by_lem g fs f = map (λ t. t.semaphore) (removed (config_in (hex g)) (after g fs) (hex f))

-- semaphore b, and whether task t has event wait, and is suspended
abbrev left : Ledger → (b t : ℕ) → Semaphore × Bool × Bool
left l b t = (semaphore_of l b, (task l t).blocks.event_wait, (task l t).blocks.suspended)

pub record Table : Type 0 where
  accepted : (config_refusal (hex one_tick) ≡ 0) × (config_refusal (hex two_ticks) ≡ 0)
  -- period 2: three turns in 7 tocks
  cycle_starts : Begins one_tick waiting every_2 1 1 (cyclic 2)
  cycle_tocks : passed one_tick waiting every_2 cycle ≡ 7
  cycle_turns : counted one_tick waiting every_2 cycle 1 1 ≡ (3, true)
  cycle_asked : turns_in (cyclic 2) 7 ≡ 3
  -- the other timer has its turns in the same tocks, behind it; and three refused frames
  cycle_other : counted one_tick waiting every_2 cycle 3 3 ≡ (3, true)
  cycle_both : signalled_by_lem one_tick (waiting ++ (every_2 ∷ "0E0303FFFE" ∷ tick ∷ [])) tick ≡ 1 ∷ 3 ∷ []
  cycle_refusals : map (byte 0) (session (hex one_tick) (map hex (waiting ++ (every_2 ∷ cycle))))
      ≡ 0 ∷ 0 ∷ 0 ∷ 0 ∷ 0 ∷ 0 ∷ 0 ∷ 24 ∷ 4 ∷ 0 ∷ 0 ∷ 0 ∷ 0 ∷ 9 ∷ 0 ∷ 0 ∷ []
  -- its first turn takes the suspended waiter's event wait, the second finds PENDING, the third DONE
  cycle_waits : left (after one_tick (waiting ++ (every_2 ∷ tick ∷ []))) 1 2 ≡ (WAITING 2, true, true)
  cycle_wakes : left (after one_tick (waiting ++ (every_2 ∷ tick ∷ tick ∷ []))) 1 2 ≡ (PENDING, false, true)
  cycle_sets : left (after one_tick (waiting ++ (every_2 ∷ tick ∷ tick ∷ tick ∷ tick ∷ []))) 1 2 ≡ (DONE, false, true)
  cycle_leaves : left (after one_tick (waiting ++ (every_2 ∷ tick ∷ tick ∷ tick ∷ tick ∷ tick ∷ tick ∷ []))) 1 2 ≡ (DONE, false, true)
  -- the same with four bytes of tocks
  long_starts : Begins one_tick waiting every_2_long 1 1 (cyclic 2)
  long_turns : counted one_tick waiting every_2_long cycle 1 1 ≡ (3, true)
  long_once : counted one_tick [] "12000100000002" second 1 1 ≡ (1, true)
  -- more tocks than two bytes can say: none of its turns yet
  season_starts : Begins one_tick [] "120001FFFEFFFF" 1 1 (cyclic 65537)
  season_turns : counted one_tick [] "120001FFFEFFFF" (tick ∷ tick ∷ []) 1 1 ≡ (0, true)
  -- a one-shot of 2: one turn, though the pair has two more timers later, and one of them is purged
  second_starts : Begins one_tick [] "0E00010002" 1 1 (one_shot 2)
  second_turns : counted one_tick [] "0E00010002" second 1 1 ≡ (1, true)
  second_asked : turns_in (one_shot 2) (passed one_tick [] "0E00010002" second) ≡ 1
  -- after one tock it has had none
  early : counted one_tick [] "0E00010002" (tick ∷ []) 1 1 ≡ (0, true)
  -- a delay
  delay_starts : Begins two_ticks [] "0D00000002" 1 3 (one_shot 2)
  delay_early : counted two_ticks [] "0D00000002" delayed 1 3 ≡ (0, true)
  delay_turns : counted two_ticks [] "0D00000002" (delayed ++ (tick ∷ [])) 1 3 ≡ (1, true)
  -- purged, or its task terminated, while it is there: not spared; a purge of another task's timers or on another semaphore spares it
  purged : counted one_tick [] "0E0001FFFE" (tick ∷ "0F00010001" ∷ tick ∷ []) 1 1 ≡ (0, false)
  all_purged : counted one_tick [] "0E0001FFFE" (tick ∷ "0F00020000" ∷ tick ∷ []) 1 1 ≡ (0, false)
  terminated : counted one_tick [] "0E0001FFFE" (tick ∷ "0B00000000" ∷ tick ∷ []) 1 1 ≡ (0, false)
  other_purge : counted one_tick [] "0E0001FFFE" (tick ∷ "0F02010000" ∷ "0F00020001" ∷ tick ∷ []) 1 1 ≡ (1, true)
  -- so does a refused one
  refused_purge : counted one_tick [] "0E0001FFFE" (tick ∷ "0F00090000" ∷ "0B04000000" ∷ tick ∷ []) 1 1 ≡ (1, true)
  -- and an execute of its task
  executed : counted one_tick [] "0E0201FFFE" (tick ∷ "0C02000000" ∷ tick ∷ []) 2 1 ≡ (1, true)
  -- behind a one-shot's turn purge and terminate are not asked about, where the pair has no timer either
  spent : counted one_tick [] "0E00010001" (tick ∷ "0F00010000" ∷ "0B00000000" ∷ []) 1 1 ≡ (1, true)
  -- a turn takes event wait from a task whose request is open; settling issues that again, and the task waits on the queue
  open_waits : left (after one_tick still_open) 1 3 ≡ (WAITING 3, true, false)
  open_again : left (after one_tick (still_open ++ (tick ∷ []))) 1 3 ≡ (PENDING, true, false)

pub the_table : Table
unfolding everything accepted_as ends passes_tock turns spared turns_in removed has_turn moments
the_table = record {
  accepted = (refl, refl);
  cycle_starts = record { code = refl; task = refl; semaphore = refl; value = refl };
  cycle_tocks = refl;
  cycle_turns = refl;
  cycle_asked = refl;
  cycle_other = refl;
  cycle_both = refl;
  cycle_refusals = refl;
  cycle_waits = refl;
  cycle_wakes = refl;
  cycle_sets = refl;
  cycle_leaves = refl;
  long_starts = record { code = refl; task = refl; semaphore = refl; value = refl };
  long_turns = refl;
  long_once = refl;
  season_starts = record { code = refl; task = refl; semaphore = refl; value = refl };
  season_turns = refl;
  second_starts = record { code = refl; task = refl; semaphore = refl; value = refl };
  second_turns = refl;
  second_asked = refl;
  early = refl;
  delay_starts = record { code = refl; task = refl; semaphore = refl; value = refl };
  delay_early = refl;
  delay_turns = refl;
  purged = refl;
  all_purged = refl;
  terminated = refl;
  other_purge = refl;
  refused_purge = refl;
  executed = refl;
  spent = refl;
  open_waits = refl;
  open_again = refl;
}
