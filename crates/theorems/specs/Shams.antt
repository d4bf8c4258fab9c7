-- The shams that document 01 names, those of a signal that tells whom it woke, of a start only after, of a dropped message, of a season timer, of a turn that is missed and of the brake module, and one in the memory, refuted: no executive that meets the contracts behaves so, whatever memory it is lent.
use Rattle.std.specs.Prelude.{ℕ, ◌≡◌, true, List, [], ◌∷◌, get_or}
use Rattle.std.proofs.Common.{sym, ◌∙◌, arith}
use Rattle.std.proofs.Math.Path.{ap}
use Rattle.std.proofs.Math.Decide.{ℕ_discrete}
use Rattle.ledger.specs.Lists.{byte}
use Rattle.ledger.specs.Config.{Config, Limits, brake_module, config_in, config_refusal, is_within, config_refusal_by}
use Rattle.ledger.specs.Session.{run, session}
use Rattle.ledger.specs.Shams.{two_tasks, takes, puts, delays, starts, ticks, waits, waits_own, signals, exits, starts_other, three_tasks, executes, suspends, terminates, itself, too_many, seventeen, seventeen_and_more, two_messages, sends, sends_and_waits, waits_on, ends, starts_season, starts_short, starts_cyclic, two_timers, starts_for, the_answers}
use Rattle.tables.specs.Layout.{regions}
use Rattle.tables.specs.Decode.{state_as}
use Rattle.tables.specs.Shows.{semaphore_count}
use Rattle.ledger.proofs.Theorems.Checks.{never}
use Rattle.ledger.proofs.Theorems.Parts.{Every}
use Rattle.ledger.proofs.Theorems.Within.{other_number, says_27}
use Rattle.configuration.specs.Limits.{Made, brake_module_made}
use Rattle.configuration.specs.Layout.{shape_of}
use Rattle.mcx11.specs.Contract.{Memory, full_size, tables_part, Configures}
use Rattle.mcx11.specs.Answer.{answer_of}
use Rattle.theorems.specs.Calls.{FrameCalls}
use Rattle.theorems.specs.Numbers.{Not11, configuration_never_11}
use Rattle.theorems.specs.Same.{every_list}
use Rattle.theorems.specs.OneValue.{Valued, one_value}

-- answers of some executive, whatever its limits are, to a configuration that it accepts and to frames: a call for each that meets the contract, on memory of
-- full size
pub record Played (g : List ℕ) (fs answers : List (List ℕ)) : Type 0 where
  pub limits : Limits
  pub made : Made limits
  pub before : Memory
  pub begun : Memory
  pub after : Memory
  pub number : ℕ
  pub numbers : List ℕ
  pub rest : List (List ℕ)
  pub takes : config_refusal_by limits g ≡ 0
  pub full : full_size limits before ≡ true
  pub configured : Configures limits g before begun number
  pub fed : FrameCalls limits begun fs rest numbers after
  pub are : answers ≡ answer_of begun ∷ rest

ledgers : {g : List ℕ} {fs answers : List (List ℕ)} → Played g fs answers → answers ≡ session g fs
ledgers x = x.are ∙ (every_list x.made x.takes x.full x.configured x.fed).answers

module _ (a : List (List ℕ)) where
  -- byte i of answer k, that to the configuration being answer 0
  abbrev shows : (k i : ℕ) → ℕ
  shows k i = byte i (get_or a k [])

  of_session : {g : List ℕ} {fs : List (List ℕ)} → Played g fs a → {l : List (List ℕ)} → session g fs ≡ l → (k i : ℕ) → shows k i ≡ byte i (get_or l k [])
  of_session x e k i = ap (λ (l : List (List ℕ)). byte i (get_or l k [])) (ledgers x ∙ e)

  -- it settles after the first frame, and later reports the old task
  pub no_old_task : Played two_tasks (takes ∷ puts ∷ []) a → shows 2 1 ≡ shows 1 1 → ⊥
  no_old_task x h =
      let now : shows 2 1 ≡ 1 = of_session x the_answers.settled 2 1 in
      let old : shows 1 1 ≡ 2 = of_session x the_answers.settled 1 1 in
      omega (arith, h, now, old)

  -- it prints another number of reissues
  pub no_invented_reissues : Played two_tasks (takes ∷ puts ∷ []) a → (shows 2 2 ≡ 1 → ⊥) → ⊥
  no_invented_reissues x h = h (of_session x the_answers.settled 2 2)

  -- it gives 23 with a timer free
  pub no_23_with_a_timer_free : Played two_tasks (starts ∷ []) a → shows 1 0 ≡ 23 → ⊥
  no_23_with_a_timer_free x h =
      let is : shows 1 0 ≡ 0 = of_session x the_answers.started 1 0 in
      omega (arith, h, is)

  -- it waits at a filled queue: the task that takes does not run on
  pub no_wait_on_filled : Played two_tasks (puts ∷ takes ∷ []) a → (shows 2 1 ≡ 1 → ⊥) → ⊥
  no_wait_on_filled x h = h (of_session x the_answers.filled 2 1)

  -- it refuses all
  pub no_refusing_all : Played two_tasks (puts ∷ takes ∷ []) a → (shows 1 0 ≡ 0 → ⊥) → ⊥
  no_refusing_all x h = h (of_session x the_answers.filled 1 0)

  -- it runs task 0 always
  pub no_task_0_always : Played two_tasks (puts ∷ takes ∷ []) a → shows 0 1 ≡ 0 → ⊥
  no_task_0_always x h =
      let is : shows 0 1 ≡ 1 = of_session x the_answers.filled 0 1 in
      omega (arith, h, is)

  -- it ignores ticks: the second changes nothing
  pub no_ignoring_ticks : Played two_tasks (delays ∷ ticks ∷ ticks ∷ []) a → get_or a 3 [] ≡ get_or a 2 [] → ⊥
  no_ignoring_ticks x h =
      let now : shows 3 1 ≡ 1 = of_session x the_answers.ticked 3 1 in
      let old : shows 2 1 ≡ 2 = of_session x the_answers.ticked 2 1 in
      omega (arith, ap (byte 1) h, now, old)

  -- its signal tells 0 always
  pub no_telling_0 : Played two_tasks (waits ∷ signals ∷ waits ∷ []) a → shows 3 4 ≡ 0 → ⊥
  no_telling_0 x h =
      let is : shows 3 4 ≡ 1 = of_session x the_answers.told 3 4 in
      omega (arith, h, is)

  -- its signal tells the caller its own number
  pub no_telling_the_caller : Played two_tasks (waits ∷ signals ∷ waits ∷ []) a → shows 3 4 ≡ shows 3 1 → ⊥
  no_telling_the_caller x h =
      let is : shows 3 4 ≡ 1 = of_session x the_answers.told 3 4 in
      let caller : shows 3 1 ≡ 2 = of_session x the_answers.told 3 1 in
      omega (arith, h, is, caller)

  -- its tick tells the running task whom it woke
  pub no_tick_that_tells : Played two_tasks (waits ∷ waits_own ∷ exits ∷ starts_other ∷ ticks ∷ []) a → shows 5 3 ≡ 6 → ⊥
  no_tick_that_tells x h =
      let is : shows 5 3 ≡ 0 = of_session x the_answers.waking_tick 5 3 in
      omega (arith, h, is)

  -- its put tells the putter whom it woke
  pub no_put_that_tells : Played two_tasks (waits ∷ takes ∷ exits ∷ puts ∷ []) a → shows 4 3 ≡ 6 → ⊥
  no_put_that_tells x h =
      let is : shows 4 3 ≡ 0 = of_session x the_answers.waking_put 4 3 in
      omega (arith, h, is)

  -- ---- start only after

  -- it starts a task while a first is idle; one that looks at the last pair alone does
  pub no_start_before_a_first : Played three_tasks (executes 3 ∷ []) a → shows 1 0 ≡ 0 → ⊥
  no_start_before_a_first x h =
      let is : shows 1 0 ≡ 26 = of_session x the_answers.early 1 0 in
      omega (arith, h, is)

  -- a first that is suspended counts as idle
  pub no_suspended_first_as_idle : Played three_tasks (executes 2 ∷ suspends 2 ∷ executes 3 ∷ []) a → shows 3 0 ≡ 26 → ⊥
  no_suspended_first_as_idle x h =
      let is : shows 3 0 ≡ 0 = of_session x the_answers.suspended 3 0 in
      omega (arith, h, is)

  -- it tests 26 before 5, or before 20
  pub no_26_before_5 : Played three_tasks (executes 2 ∷ executes 3 ∷ terminates 2 ∷ waits ∷ executes 3 ∷ []) a → shows 5 0 ≡ 26 → ⊥
  no_26_before_5 x h =
      let is : shows 5 0 ≡ 5 = of_session x the_answers.own_number 5 0 in
      omega (arith, h, is)

  pub no_26_before_20 : Played three_tasks (waits ∷ executes 3 ∷ []) a → shows 2 0 ≡ 26 → ⊥
  no_26_before_20 x h =
      let is : shows 2 0 ≡ 20 = of_session x the_answers.nobody 2 0 in
      omega (arith, h, is)

  -- ---- a dropped message

  -- the mailbox is emptied, and the sender hangs: nobody runs
  pub no_hanging_sender : Played two_messages (sends_and_waits 1 ∷ ends ∷ []) a → shows 2 1 ≡ 0 → ⊥
  no_hanging_sender x h =
      let is : shows 2 1 ≡ 1 = of_session x the_answers.freed 2 1 in
      omega (arith, h, is)

  -- only the first message signals
  pub no_message_left_out : Played two_messages (sends 1 1 ∷ sends_and_waits 2 ∷ ends ∷ []) a → shows 3 1 ≡ 0 → ⊥
  no_message_left_out x h =
      let is : shows 3 1 ≡ 1 = of_session x the_answers.freed_second 3 1 in
      omega (arith, h, is)

  -- one semaphore in two messages is signalled once: the next wait on it does wait
  pub no_semaphore_signalled_once : Played two_messages (sends 1 0 ∷ sends_and_waits 2 ∷ ends ∷ waits_own ∷ []) a → shows 4 1 ≡ 0 → ⊥
  no_semaphore_signalled_once x h =
      let is : shows 4 1 ≡ 1 = of_session x the_answers.freed_twice 4 1 in
      omega (arith, h, is)

  -- it signals before the ended task's own wait is withdrawn: that signal is lost, and the next wait does wait
  pub no_wait_withdrawn_late : Played two_messages (sends 1 3 ∷ waits ∷ waits_own ∷ exits ∷ terminates 2 ∷ waits_on 3 ∷ []) a → shows 6 1 ≡ 0 → ⊥
  no_wait_withdrawn_late x h =
      let is : shows 6 1 ≡ 1 = of_session x the_answers.withdrawn 6 1 in
      omega (arith, h, is)

  -- ---- a season timer

  -- it takes the low two bytes alone, and wakes the task with the first tick
  pub no_low_bytes_alone : Played two_tasks (starts_season ∷ waits_own ∷ ticks ∷ []) a → shows 3 1 ≡ 1 → ⊥
  no_low_bytes_alone x h =
      let is : shows 3 1 ≡ 2 = of_session x the_answers.season 3 1 in
      omega (arith, h, is)

  -- it takes a frame of six bytes
  pub no_six_bytes : Played two_tasks (starts_short ∷ []) a → shows 1 0 ≡ 0 → ⊥
  no_six_bytes x h =
      let is : shows 1 0 ≡ 2 = of_session x the_answers.six_bytes 1 0 in
      omega (arith, h, is)

  -- it tests 20 before the length
  pub no_20_before_the_length : Played two_tasks (waits ∷ waits_own ∷ starts_short ∷ []) a → shows 3 0 ≡ 20 → ⊥
  no_20_before_the_length x h =
      let is : shows 3 0 ≡ 2 = of_session x the_answers.six_by_nobody 3 0 in
      omega (arith, h, is)

  -- it reads two bytes without a sign: -1 is not due with the first tick
  pub no_unsigned_tocks : Played two_tasks (starts_cyclic ∷ waits_own ∷ ticks ∷ []) a → shows 3 1 ≡ 2 → ⊥
  no_unsigned_tocks x h =
      let is : shows 3 1 ≡ 1 = of_session x the_answers.cyclic 3 1 in
      omega (arith, h, is)

  -- ---- a turn that is missed

  -- its cyclic timer of one tock comes a tock late, or has one turn alone
  pub no_late_turn : Played two_tasks (starts_cyclic ∷ waits_own ∷ ticks ∷ waits_own ∷ ticks ∷ []) a → shows 5 1 ≡ 2 → ⊥
  no_late_turn x h =
      let is : shows 5 1 ≡ 1 = of_session x the_answers.again 5 1 in
      omega (arith, h, is)

  -- of two timers that are due in one tock it forgets one
  pub no_forgotten_turn : Played two_timers (starts_for 1 ∷ starts_for 2 ∷ waits_own ∷ waits_own ∷ ticks ∷ waits_own ∷ []) a → (shows 6 1 ≡ 2 → ⊥) → ⊥
  no_forgotten_turn x h = h (of_session x the_answers.together 6 1)

  -- ---- the memory

  -- it keeps another byte for DONE than 255
  abbrev first_semaphore : Memory → ℕ
  first_semaphore m = let c = config_in two_tasks in get_or (regions (shape_of c) (tables_part c m)).semaphores 0 0

  pub no_other_done : (x : Played two_tasks (signals ∷ []) a) → (first_semaphore x.after ≡ 255 → ⊥) → ⊥
  unfolding Valued state_as semaphore_count config_in
  no_other_done x h =
      let c : Config = config_in two_tasks in
      let v : Valued c (run c (signals ∷ [])).0 x.after = one_value c (run c (signals ∷ [])).0 x.after (every_list x.made x.takes x.full x.configured x.fed).tidy in
      h (v.semaphores 0 (omega arith) ∙ ap state_as the_answers.done)

-- it accepts a task as its own first, or 65 pairs
module _ {k : Limits} {m m' : Memory} {r : ℕ} (full : full_size k m ≡ true) where
  of_refused : (g : List ℕ) (n : ℕ) → config_refusal g ≡ n → (n ≡ 0 → ⊥) → Configures k g m m' r → r ≡ n
  of_refused g n e some x =
      let z : config_refusal g ≡ 0 → ⊥ = λ z. some (sym e ∙ z) in
      let o : config_refusal_by k g ≡ config_refusal g = other_number k g z in
      (x.refused full (λ y. z (sym o ∙ y))).0 ∙ o ∙ e

  pub no_task_as_its_first : Configures k itself m m' r → r ≡ 0 → ⊥
  no_task_as_its_first x h = omega (arith, h, of_refused itself 3 the_answers.equal (λ z. omega arith) x)

  pub no_65_pairs : Configures k too_many m m' r → r ≡ 0 → ⊥
  no_65_pairs x h = omega (arith, h, of_refused too_many 2 the_answers.many (λ z. omega arith) x)

-- ---- the brake module

module _ {m m' : Memory} {r : ℕ} (full : full_size brake_module m ≡ true) where
  -- it takes 17 tasks
  pub no_17_tasks : Configures brake_module seventeen m m' r → r ≡ 0 → ⊥
  no_17_tasks x h =
      let n : config_refusal_by brake_module seventeen ≡ 27 = the_answers.seventeen_tasks in
      omega (arith, h, (x.refused full (λ z. omega (arith, n, z))).0 ∙ n)

  -- it gives 27 before a length check
  pub no_27_before_the_length : Configures brake_module seventeen_and_more m m' r → r ≡ 27 → ⊥
  no_27_before_the_length x h =
      let n : config_refusal_by brake_module seventeen_and_more ≡ 2 = the_answers.seventeen_long in
      omega (arith, h, (x.refused full (λ z. omega (arith, n, z))).0 ∙ n)

  -- it gives 27 within its limits
  pub no_27_within : {g : List ℕ} → is_within brake_module (config_in g) ≡ true → Configures brake_module g m m' r → r ≡ 27 → ⊥
  no_27_within {g} w x h = elim (ℕ_discrete (config_refusal_by brake_module g) 0) [
    | yes z ↦ omega (arith, h, (x.accepted full z).number)
    | no z ↦ never (sym (says_27 brake_module g (sym (x.refused full z).0 ∙ h)).1 ∙ w)
  ]

  -- it tests a block by the controller's size: blocks of the module's own sizes are lent, and it gives 11, to a configuration or to a frame behind it
  pub no_controllers_size : {g : List ℕ} → Configures brake_module g m m' r → r ≡ 11 → ⊥
  no_controllers_size {g} x h = elim (ℕ_discrete (config_refusal_by brake_module g) 0) [
    | yes z ↦ omega (arith, h, (x.accepted full z).number)
    | no z ↦ configuration_never_11 brake_module g (sym (x.refused full z).0 ∙ h)
  ]

  pub no_controllers_size_later : {g : List ℕ} {last : Memory} {fs answered : List (List ℕ)} {returned : List ℕ} → config_refusal_by brake_module g ≡ 0 → Configures brake_module g m m' r
      → FrameCalls brake_module m' fs answered returned last → Every Not11 (r ∷ returned)
  no_controllers_size_later z x more = (every_list brake_module_made z full x more).none_11

-- two executives, the controller and the module or others, answer differently a configuration that both accept and the same frames
pub no_two_answers : {g : List ℕ} {fs a b : List (List ℕ)} → Played g fs a → Played g fs b → (a ≡ b → ⊥) → ⊥
no_two_answers x y h = h (ledgers x ∙ sym (ledgers y))
