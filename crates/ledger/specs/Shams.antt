-- Sessions in which each sham that document 01 names, or that a request invites (a signal that tells, a start only after, the brake module, a dropped message, a season timer, a turn that is missed),
-- would answer otherwise, with the ledger's answers computed.
use Rattle.std.specs.Prelude.{ℕ, ◌≡◌, refl, List, [], ◌∷◌, ◌++◌, get_or, replicate}
use Rattle.ledger.specs.Config.{controller, brake_module, config_in, config_refusal, config_refusal_by}
use Rattle.ledger.specs.Ledger.{PENDING, DONE}
use Rattle.ledger.specs.Session.{run, session}
use Rattle.ledger.specs.Computing.Quick.{everything}
use Rattle.ledger.specs.Computing.Sessions.{pair_times}

-- two tasks, one queue of width and depth 1, one timer, one tick a tock
abbrev pub two_tasks : List ℕ
two_tasks = 2 ∷ 1 ∷ 1 ∷ 1 ∷ 1 ∷ 1 ∷ 0 ∷ 125 ∷ 0 ∷ 0 ∷ 1 ∷ 1 ∷ []

-- takes from queue 1, puts $41 there; delays itself by two tocks; starts a timer on semaphore 1; the tick
abbrev pub takes : List ℕ
takes = 7 ∷ 1 ∷ 0 ∷ 0 ∷ 0 ∷ []

abbrev pub puts : List ℕ
puts = 8 ∷ 1 ∷ 0 ∷ 0 ∷ 0 ∷ 65 ∷ []

abbrev pub delays : List ℕ
delays = 13 ∷ 0 ∷ 0 ∷ 0 ∷ 2 ∷ []

abbrev pub starts : List ℕ
starts = 14 ∷ 0 ∷ 1 ∷ 0 ∷ 5 ∷ []

abbrev pub ticks : List ℕ
ticks = 16 ∷ 0 ∷ 0 ∷ 0 ∷ 0 ∷ []

-- waits on semaphore 1, waits on its own, signals semaphore 1; the interrupt exit with semaphore 1; starts a timer on semaphore 3, task 2's, for one tock
abbrev pub waits : List ℕ
waits = 1 ∷ 0 ∷ 1 ∷ 0 ∷ 0 ∷ []

abbrev pub waits_own : List ℕ
waits_own = 1 ∷ 0 ∷ 0 ∷ 0 ∷ 0 ∷ []

abbrev pub signals : List ℕ
signals = 2 ∷ 0 ∷ 1 ∷ 0 ∷ 0 ∷ []

abbrev pub exits : List ℕ
exits = 17 ∷ 0 ∷ 1 ∷ 0 ∷ 0 ∷ []

abbrev pub starts_other : List ℕ
starts_other = 14 ∷ 0 ∷ 3 ∷ 0 ∷ 1 ∷ []

-- three tasks, of which 1 begins runnable, and 3 starts only after 2 and 1
abbrev pub three_tasks : List ℕ
three_tasks = 3 ∷ 1 ∷ 0 ∷ 0 ∷ 0 ∷ 1 ∷ 0 ∷ 125 ∷ 0 ∷ 1 ∷ 1 ∷ 2 ∷ 3 ∷ 1 ∷ 3 ∷ []

-- executes, suspends, terminates a task
abbrev pub executes : ℕ → List ℕ
executes t = 12 ∷ t ∷ 0 ∷ 0 ∷ 0 ∷ []

abbrev pub suspends : ℕ → List ℕ
suspends t = 10 ∷ t ∷ 0 ∷ 0 ∷ 0 ∷ []

abbrev pub terminates : ℕ → List ℕ
terminates t = 11 ∷ t ∷ 0 ∷ 0 ∷ 0 ∷ []

-- two tasks: one pair, of a task and itself; and 65 good pairs
abbrev pub itself : List ℕ
itself = 2 ∷ 0 ∷ 0 ∷ 0 ∷ 0 ∷ 1 ∷ 0 ∷ 125 ∷ 0 ∷ 0 ∷ 2 ∷ 2 ∷ []

abbrev pub too_many : List ℕ
too_many = (2 ∷ 0 ∷ 0 ∷ 0 ∷ 0 ∷ 1 ∷ 0 ∷ 125 ∷ 0 ∷ 0 ∷ []) ++ pair_times 65 1 2

-- seventeen tasks; and a byte too many behind them
abbrev pub seventeen : List ℕ
seventeen = (17 ∷ 0 ∷ 0 ∷ 0 ∷ 0 ∷ 1 ∷ 0 ∷ 125 ∷ []) ++ replicate 17 0

abbrev pub seventeen_and_more : List ℕ
seventeen_and_more = seventeen ++ (0 ∷ [])

-- two tasks, a named semaphore, two messages. Semaphore 2 is task 1's, 3 is task 2's
abbrev pub two_messages : List ℕ
two_messages = 2 ∷ 1 ∷ 0 ∷ 0 ∷ 2 ∷ 1 ∷ 0 ∷ 125 ∷ 0 ∷ 0 ∷ []

-- sends message x to task 2 with semaphore b; sends it with its own and waits; waits on semaphore b; ends itself
abbrev pub sends : (x b : ℕ) → List ℕ
sends x b = 4 ∷ 2 ∷ b ∷ 0 ∷ x ∷ []

abbrev pub sends_and_waits : ℕ → List ℕ
sends_and_waits x = 5 ∷ 2 ∷ 0 ∷ 0 ∷ x ∷ []

abbrev pub waits_on : ℕ → List ℕ
waits_on b = 1 ∷ 0 ∷ b ∷ 0 ∷ 0 ∷ []

abbrev pub ends : List ℕ
ends = terminates 0

-- starts a season timer of 65,537 tocks on its own semaphore; a byte is missing; starts a cyclic timer of one tock there, in two bytes
abbrev pub starts_season : List ℕ
starts_season = 18 ∷ 0 ∷ 0 ∷ 0 ∷ 1 ∷ 0 ∷ 1 ∷ []

abbrev pub starts_short : List ℕ
starts_short = 18 ∷ 0 ∷ 0 ∷ 0 ∷ 1 ∷ 0 ∷ []

abbrev pub starts_cyclic : List ℕ
starts_cyclic = 14 ∷ 0 ∷ 0 ∷ 255 ∷ 255 ∷ []

-- two tasks, a named semaphore, two timers. Starts a timer of one tock for task t on that task's semaphore
abbrev pub two_timers : List ℕ
two_timers = 2 ∷ 1 ∷ 0 ∷ 2 ∷ 0 ∷ 1 ∷ 0 ∷ 125 ∷ 0 ∷ 0 ∷ []

abbrev pub starts_for : ℕ → List ℕ
starts_for t = 14 ∷ t ∷ 0 ∷ 0 ∷ 1 ∷ []

pub record ShamAnswers : Type 0 where
  -- both executives accept what the sessions begin with
  pub accepted : (config_refusal_by controller two_tasks ≡ 0) × (config_refusal_by brake_module two_tasks ≡ 0)
  -- task 1 waits at the empty queue; task 2 puts, and task 1, which runs again, has the entry after one reissue
  pub settled : session two_tasks (takes ∷ puts ∷ []) ≡ (0 ∷ 1 ∷ 0 ∷ 1 ∷ []) ∷ (0 ∷ 2 ∷ 0 ∷ 1 ∷ []) ∷ (0 ∷ 1 ∷ 1 ∷ 3 ∷ 65 ∷ []) ∷ []
  -- task 1 takes what it put, and runs on
  pub filled : session two_tasks (puts ∷ takes ∷ []) ≡ (0 ∷ 1 ∷ 0 ∷ 1 ∷ []) ∷ (0 ∷ 1 ∷ 0 ∷ 0 ∷ []) ∷ (0 ∷ 1 ∷ 0 ∷ 3 ∷ 65 ∷ []) ∷ []
  -- the one timer is free
  pub started : session two_tasks (starts ∷ []) ≡ (0 ∷ 1 ∷ 0 ∷ 1 ∷ []) ∷ (0 ∷ 1 ∷ 0 ∷ 0 ∷ []) ∷ []
  -- task 1 runs again with the second tick
  pub ticked : session two_tasks (delays ∷ ticks ∷ ticks ∷ []) ≡ (0 ∷ 1 ∷ 0 ∷ 1 ∷ []) ∷ (0 ∷ 2 ∷ 0 ∷ 1 ∷ []) ∷ (0 ∷ 2 ∷ 0 ∷ 1 ∷ []) ∷ (0 ∷ 1 ∷ 0 ∷ 0 ∷ []) ∷ []
  -- task 2 wakes task 1, and is told once it runs again
  pub told : session two_tasks (waits ∷ signals ∷ waits ∷ []) ≡ (0 ∷ 1 ∷ 0 ∷ 1 ∷ []) ∷ (0 ∷ 2 ∷ 0 ∷ 1 ∷ []) ∷ (0 ∷ 1 ∷ 0 ∷ 5 ∷ 1 ∷ []) ∷ (0 ∷ 2 ∷ 0 ∷ 6 ∷ 1 ∷ []) ∷ []
  -- both wait, and task 1 runs again; the tick wakes task 2
  pub waking_tick : session two_tasks (waits ∷ waits_own ∷ exits ∷ starts_other ∷ ticks ∷ [])
      ≡ (0 ∷ 1 ∷ 0 ∷ 1 ∷ []) ∷ (0 ∷ 2 ∷ 0 ∷ 1 ∷ []) ∷ (0 ∷ 0 ∷ 0 ∷ 0 ∷ []) ∷ (0 ∷ 1 ∷ 0 ∷ 5 ∷ 1 ∷ []) ∷ (0 ∷ 1 ∷ 0 ∷ 0 ∷ []) ∷ (0 ∷ 1 ∷ 0 ∷ 0 ∷ []) ∷ []
  -- task 2 waits at the empty queue; task 1 puts, and wakes it
  pub waking_put : session two_tasks (waits ∷ takes ∷ exits ∷ puts ∷ [])
      ≡ (0 ∷ 1 ∷ 0 ∷ 1 ∷ []) ∷ (0 ∷ 2 ∷ 0 ∷ 1 ∷ []) ∷ (0 ∷ 0 ∷ 0 ∷ 0 ∷ []) ∷ (0 ∷ 1 ∷ 0 ∷ 5 ∷ 1 ∷ []) ∷ (0 ∷ 1 ∷ 0 ∷ 0 ∷ []) ∷ []
  pub accepted_three : (config_refusal_by controller three_tasks ≡ 0) × (config_refusal_by brake_module three_tasks ≡ 0)
  -- task 2 is idle
  pub early : session three_tasks (executes 3 ∷ []) ≡ (0 ∷ 1 ∷ 0 ∷ 1 ∷ []) ∷ (26 ∷ 1 ∷ 0 ∷ 1 ∷ []) ∷ []
  -- task 2 is suspended, and no longer idle
  pub suspended : session three_tasks (executes 2 ∷ suspends 2 ∷ executes 3 ∷ []) ≡ (0 ∷ 1 ∷ 0 ∷ 1 ∷ []) ∷ (0 ∷ 1 ∷ 0 ∷ 0 ∷ []) ∷ (0 ∷ 1 ∷ 0 ∷ 0 ∷ []) ∷ (0 ∷ 1 ∷ 0 ∷ 0 ∷ []) ∷ []
  -- task 3 runs while task 2 is idle, and executes itself; nobody runs
  pub own_number : session three_tasks (executes 2 ∷ executes 3 ∷ terminates 2 ∷ waits ∷ executes 3 ∷ [])
      ≡ (0 ∷ 1 ∷ 0 ∷ 1 ∷ []) ∷ (0 ∷ 1 ∷ 0 ∷ 0 ∷ []) ∷ (0 ∷ 1 ∷ 0 ∷ 0 ∷ []) ∷ (0 ∷ 1 ∷ 0 ∷ 0 ∷ []) ∷ (0 ∷ 3 ∷ 0 ∷ 1 ∷ []) ∷ (5 ∷ 3 ∷ 0 ∷ 1 ∷ []) ∷ []
  pub nobody : session three_tasks (waits ∷ executes 3 ∷ []) ≡ (0 ∷ 1 ∷ 0 ∷ 1 ∷ []) ∷ (0 ∷ 0 ∷ 0 ∷ 0 ∷ []) ∷ (20 ∷ 0 ∷ 0 ∷ 0 ∷ []) ∷ []
  pub equal : config_refusal itself ≡ 3
  pub many : config_refusal too_many ≡ 2
  pub seventeen_tasks : config_refusal_by brake_module seventeen ≡ 27
  pub seventeen_long : config_refusal_by brake_module seventeen_and_more ≡ 2
  pub accepted_messages : (config_refusal_by controller two_messages ≡ 0) × (config_refusal_by brake_module two_messages ≡ 0)
  -- task 1 sends and waits; task 2 ends with the message lying, and task 1 goes on
  pub freed : session two_messages (sends_and_waits 1 ∷ ends ∷ []) ≡ (0 ∷ 1 ∷ 0 ∷ 1 ∷ []) ∷ (0 ∷ 2 ∷ 0 ∷ 1 ∷ []) ∷ (0 ∷ 1 ∷ 0 ∷ 5 ∷ 2 ∷ []) ∷ []
  -- task 1 waits for the second of its messages
  pub freed_second : session two_messages (sends 1 1 ∷ sends_and_waits 2 ∷ ends ∷ [])
      ≡ (0 ∷ 1 ∷ 0 ∷ 1 ∷ []) ∷ (0 ∷ 1 ∷ 0 ∷ 5 ∷ 1 ∷ []) ∷ (0 ∷ 2 ∷ 0 ∷ 1 ∷ []) ∷ (0 ∷ 1 ∷ 0 ∷ 5 ∷ 2 ∷ []) ∷ []
  -- both messages have task 1's semaphore: it is DONE then, and the next wait goes on at once
  pub freed_twice : session two_messages (sends 1 0 ∷ sends_and_waits 2 ∷ ends ∷ waits_own ∷ [])
      ≡ (0 ∷ 1 ∷ 0 ∷ 1 ∷ []) ∷ (0 ∷ 1 ∷ 0 ∷ 5 ∷ 2 ∷ []) ∷ (0 ∷ 2 ∷ 0 ∷ 1 ∷ []) ∷ (0 ∷ 1 ∷ 0 ∷ 5 ∷ 2 ∷ []) ∷ (0 ∷ 1 ∷ 0 ∷ 5 ∷ 2 ∷ []) ∷ []
  -- the message has task 2's own semaphore, on which task 2 waits: it is DONE then, and task 1's wait on it goes on at once
  pub withdrawn : session two_messages (sends 1 3 ∷ waits ∷ waits_own ∷ exits ∷ terminates 2 ∷ waits_on 3 ∷ [])
      ≡ (0 ∷ 1 ∷ 0 ∷ 1 ∷ []) ∷ (0 ∷ 1 ∷ 0 ∷ 5 ∷ 3 ∷ []) ∷ (0 ∷ 2 ∷ 0 ∷ 1 ∷ []) ∷ (0 ∷ 0 ∷ 0 ∷ 0 ∷ []) ∷ (0 ∷ 1 ∷ 0 ∷ 5 ∷ 1 ∷ []) ∷ (0 ∷ 1 ∷ 0 ∷ 0 ∷ []) ∷ (0 ∷ 1 ∷ 0 ∷ 5 ∷ 3 ∷ []) ∷ []
  -- the timer's low two bytes are 1: the tick leaves task 1 waiting
  pub season : session two_tasks (starts_season ∷ waits_own ∷ ticks ∷ []) ≡ (0 ∷ 1 ∷ 0 ∷ 1 ∷ []) ∷ (0 ∷ 1 ∷ 0 ∷ 0 ∷ []) ∷ (0 ∷ 2 ∷ 0 ∷ 1 ∷ []) ∷ (0 ∷ 2 ∷ 0 ∷ 1 ∷ []) ∷ []
  pub six_bytes : session two_tasks (starts_short ∷ []) ≡ (0 ∷ 1 ∷ 0 ∷ 1 ∷ []) ∷ (2 ∷ 1 ∷ 0 ∷ 1 ∷ []) ∷ []
  -- both wait, and nobody runs
  pub six_by_nobody : session two_tasks (waits ∷ waits_own ∷ starts_short ∷ []) ≡ (0 ∷ 1 ∷ 0 ∷ 1 ∷ []) ∷ (0 ∷ 2 ∷ 0 ∷ 1 ∷ []) ∷ (0 ∷ 0 ∷ 0 ∷ 0 ∷ []) ∷ (2 ∷ 0 ∷ 0 ∷ 0 ∷ []) ∷ []
  -- -1 in two bytes: the tick wakes task 1
  pub cyclic : session two_tasks (starts_cyclic ∷ waits_own ∷ ticks ∷ []) ≡ (0 ∷ 1 ∷ 0 ∷ 1 ∷ []) ∷ (0 ∷ 1 ∷ 0 ∷ 0 ∷ []) ∷ (0 ∷ 2 ∷ 0 ∷ 1 ∷ []) ∷ (0 ∷ 1 ∷ 0 ∷ 5 ∷ 2 ∷ []) ∷ []
  -- and so does the next
  pub again : session two_tasks (starts_cyclic ∷ waits_own ∷ ticks ∷ waits_own ∷ ticks ∷ [])
      ≡ (0 ∷ 1 ∷ 0 ∷ 1 ∷ []) ∷ (0 ∷ 1 ∷ 0 ∷ 0 ∷ []) ∷ (0 ∷ 2 ∷ 0 ∷ 1 ∷ []) ∷ (0 ∷ 1 ∷ 0 ∷ 5 ∷ 2 ∷ []) ∷ (0 ∷ 2 ∷ 0 ∷ 1 ∷ []) ∷ (0 ∷ 1 ∷ 0 ∷ 5 ∷ 2 ∷ []) ∷ []
  pub accepted_timers : (config_refusal_by controller two_timers ≡ 0) × (config_refusal_by brake_module two_timers ≡ 0)
  -- both wait, and the tick wakes both: when task 1 waits again, task 2 runs
  pub together : session two_timers (starts_for 1 ∷ starts_for 2 ∷ waits_own ∷ waits_own ∷ ticks ∷ waits_own ∷ [])
      ≡ (0 ∷ 1 ∷ 0 ∷ 1 ∷ []) ∷ (0 ∷ 1 ∷ 0 ∷ 0 ∷ []) ∷ (0 ∷ 1 ∷ 0 ∷ 0 ∷ []) ∷ (0 ∷ 2 ∷ 0 ∷ 1 ∷ []) ∷ (0 ∷ 0 ∷ 0 ∷ 0 ∷ []) ∷ (0 ∷ 1 ∷ 0 ∷ 5 ∷ 2 ∷ []) ∷ (0 ∷ 2 ∷ 0 ∷ 5 ∷ 3 ∷ []) ∷ []
  -- nobody waits on semaphore 1
  pub done : get_or (run (config_in two_tasks) (signals ∷ [])).0.semaphores 0 PENDING ≡ DONE

pub the_answers : ShamAnswers
unfolding everything pair_times
the_answers = record { accepted = (refl, refl); settled = refl; filled = refl; started = refl; ticked = refl; told = refl; waking_tick = refl; waking_put = refl; accepted_three = (refl, refl); early = refl; suspended = refl; own_number = refl; nobody = refl; equal = refl; many = refl; seventeen_tasks = refl; seventeen_long = refl; accepted_messages = (refl, refl); freed = refl; freed_second = refl; freed_twice = refl; withdrawn = refl; season = refl; six_bytes = refl; six_by_nobody = refl; cyclic = refl; again = refl; accepted_timers = (refl, refl); together = refl; done = refl }
