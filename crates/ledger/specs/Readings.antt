-- Where documents 01 and 02 leave room, what we read in them: a row for each point, shown by a short session and proved by computing both sides.
-- docs/DECISIONS.md gives the reasons of most.
use Rattle.std.specs.Prelude.{ℕ, ◌≡◌, refl, List, [], ◌∷◌, ◌++◌, map, replicate, take}
use Prim.Native.String.{String}
use Rattle.std.proofs.Math.Option.{none as nothing, some}
use Rattle.ledger.specs.Config.{config_in, controller, brake_module, longest, config_refusal, config_refusal_by}
use Rattle.ledger.specs.Ledger.{PENDING, DONE, WAITING, begin, dequeue, Timer, Ledger, only_idle, empty_slot, task, semaphore_of, mailbox, queue, held, fresh}
use Rattle.ledger.specs.Services.{TIMER, SEASON_TIMER}
use Rattle.ledger.specs.Refusals.{uses, long_x, fields}
use Rattle.ledger.specs.Session.{run_from}
use Rattle.ledger.specs.Lines.{longest_frame, number, result, frame_of, line_of, read_line, write_line, output}
use Rattle.ledger.specs.Computing.Hex.{hex, letters, text}
use Rattle.ledger.specs.Computing.Quick.{everything}
use Rattle.ledger.specs.Computing.Sessions.{after, two, timing, pair_times, number_of}

-- a frame and its answer; a session of them behind a configuration
infix 68 ◌▸◌
abbrev ◌▸◌ : String → String → String × String
frame ▸ told = (frame, told)

abbrev TalkIn : List ℕ → List (String × String) → Type 0
TalkIn g rows =
    let c = config_in g in
    (run_from c (fresh c) (map (λ r. hex r.0) rows)).1 ≡ map (λ r. hex r.1) rows

abbrev Talk : String → List (String × String) → Type 0
Talk g rows = TalkIn (hex g) rows

-- T 3, S 2, Q 1, R 3, G 3, K 1; a queue of one byte. Semaphores 1 and 2 are named, 3 to 5 belong to the tasks, 6 is not-empty, 7 not-full
abbrev room : String
room = "030201030301007D0000000101"

-- T 1, S 0, Q 2, R 0, G 0, K 3; three entries of two bytes, and one of one byte
abbrev bare : String
bare = "010002000003007D0002030101"

-- as `room`, with task 1 runnable, 2 and 3 idle, and pairs behind it
abbrev yard : String → List ℕ
yard pairs = hex "030201030301007D0001010101" ++ hex pairs

-- t tasks, s named semaphores, q queues of these widths and depths, r timers, g messages
abbrev brakes : (t s q r g : ℕ) → String → List ℕ
brakes t s q r g shapes = t ∷ s ∷ q ∷ r ∷ g ∷ 1 ∷ 0 ∷ 125 ∷ replicate t 0 ++ hex shapes

abbrev on_the_module : List ℕ → ℕ
on_the_module = config_refusal_by brake_module

-- task and semaphore of a timer
abbrev on : Timer → ℕ × ℕ
on t = (t.task, t.semaphore)

-- the clock: tocks since the start, ticks in the present tock
abbrev clock : Ledger → ℕ × ℕ
clock l = (l.N, l.ticks)

pub record Table : Type 0 where
  -- ---- tasks

  -- 25 ($19): event wait, message wait and idle, but not suspended
  a_suspended_task_may_be_delayed : Talk room ("0A02000000" ▸ "00010000" ∷ "0D02000002" ▸ "00010000" ∷ [])
  a_waiting_task_may_not_be_delayed : Talk room ("0100010000" ▸ "00020001" ∷ "0D01000002" ▸ "19020001" ∷ [])
  nor_one_that_waits_for_a_message : Talk room ("0600000000" ▸ "00020001" ∷ "0D01000002" ▸ "19020001" ∷ [])
  nor_an_idle_one : Talk room ("0B02000000" ▸ "00010000" ∷ "0D02000002" ▸ "19010000" ∷ [])
  -- task 2 waits on the empty queue and is woken by a put; before it runs, task 1 delays it. When it runs at last, its dequeue is issued again
  a_woken_task_with_an_open_request_may_be_delayed : Talk room ("0100010000" ▸ "00020001" ∷ "0701000000" ▸ "00030001" ∷ "1100010000" ▸ "0001000501"
      ∷ "080100000041" ▸ "00010000" ∷ "0D02000001" ▸ "00010000" ∷ "0100010000" ▸ "00030001" ∷ "1000000000" ▸ "0002010341" ∷ [])
  delay_of_another_sets_the_callers_outcome : Talk room ("0D02000002" ▸ "00010000" ∷ [])
  and_leaves_the_others : (task (after room ("0D02000002" ∷ [])) 2).outcome ≡ begin
  -- send, receive and resume; but not execute, nor execute of 0
  a_task_may_name_itself : Talk room ("0401000001" ▸ "0001000503" ∷ "0601000000" ▸ "00010002010103" ∷ "0901000000" ▸ "00010000" ∷ [])
  but_not_execute_itself : Talk room ("0C01000000" ▸ "05010001" ∷ "0C00000000" ▸ "05010001" ∷ [])
  an_idle_task_may_be_suspended_terminated_and_timed : Talk room ("0B02000000" ▸ "00010000" ∷ "0A02000000" ▸ "00010000" ∷ "0B02000000" ▸ "00010000" ∷ "0E02000005" ▸ "00010000" ∷ [])
  an_idle_task_may_be_sent_to : Talk room ("0B02000000" ▸ "00010000" ∷ "0402000001" ▸ "0001000503" ∷ [])
  a_task_that_is_not_suspended_may_be_resumed : Talk room ("0902000000" ▸ "00010000" ∷ [])
  execute_restarts_a_waiting_task : Talk room ("0100010000" ▸ "00020001" ∷ "0C01000000" ▸ "00010001" ∷ [])
  and_its_semaphore_is_pending : semaphore_of (after room ("0100010000" ∷ "0C01000000" ∷ [])) 1 ≡ PENDING
  -- task 1 starts a timer of task 3 on task 2's semaphore and one of task 2; then it terminates task 2
  terminate_leaves_timers_of_others_on_its_semaphore : map on (after room ("0E03040005" ∷ "0E02010005" ∷ "0B02000000" ∷ [])).timers ≡ (3, 4) ∷ []
  and_the_messages_that_the_task_sent : map number_of (mailbox (after room ("0100010000" ∷ "0403000001" ∷ "0B00000000" ∷ [])) 3) ≡ 1 ∷ []
  but_not_the_semaphore_waiting : semaphore_of (after room ("0100010000" ∷ "0B01000000" ∷ [])) 1 ≡ PENDING
  terminate_and_execute_leave_the_slot : take 2 (task (after room ("080100000041" ∷ "0701000000" ∷ "0B00000000" ∷ "0C01000000" ∷ [])) 1).slot ≡ 0x41 ∷ 0 ∷ []
  -- ---- semaphores

  -- the number that B = 0 means is stored and shown: task 1's is 3
  zero_is_shown_as_the_tasks_own : Talk room ("0402000001" ▸ "0001000503" ∷ "0100000000" ▸ "00020001" ∷ "1100030000" ▸ "0001000503" ∷ [])
  sendw_waits_even_on_done : Talk room ("0200030000" ▸ "0001000600" ∷ "0502000001" ▸ "00020001" ∷ [])
  and_delay_does : semaphore_of (after room ("0200030000" ∷ "0D00000002" ∷ [])) 3 ≡ WAITING 1
  -- 21 ($15): task 1 waits on semaphore 1, task 2 calls
  wait_pend_sendw_and_delay_meet_21 : Talk room ("0100010000" ▸ "00020001" ∷ "0100010000" ▸ "15020001" ∷ "0300010000" ▸ "15020001" ∷ "0503010001" ▸ "15020001" ∷ "0D00010002" ▸ "15020001" ∷ [])
  send_timer_purge_and_signal_do_not : Talk room ("0100010000" ▸ "00020001" ∷ "0403010001" ▸ "0002000501" ∷ "0E00010002" ▸ "00020000" ∷ "0F00010001" ▸ "00020000" ∷ "0200010000" ▸ "0001000501" ∷ [])
  semaphores_of_other_tasks_may_be_named : Talk room ("0200040000" ▸ "0001000600" ∷ "0200050000" ▸ "0001000600" ∷ "0200060000" ▸ "0601000600" ∷ [])
  the_interrupt_exit_names_no_queues_semaphore : Talk room ("1100060000" ▸ "06010001" ∷ "1100050000" ▸ "00010001" ∷ [])
  and_0_signals_nothing : after room ("1100000000" ∷ []) ≡ after room []
  a_tick_and_an_interrupt_exit_set_no_outcome : Talk room ("1000000000" ▸ "00010001" ∷ "1100010000" ▸ "00010001" ∷ [])
  -- 20 ($14): all tasks wait
  the_null_task_may_tick_but_not_call : Talk room ("0100000000" ▸ "00020001" ∷ "0100000000" ▸ "00030001" ∷ "0100000000" ▸ "00000000" ∷ "0200010000" ▸ "14000000" ∷ "1000000000" ▸ "00000000" ∷ "1100030000" ▸ "0001000503" ∷ [])
  -- ---- whom a signal woke

  a_signal_on_pending_or_done_wakes_nobody : Talk room ("0200010000" ▸ "0001000600" ∷ "0200010000" ▸ "0001000600" ∷ [])
  -- task 2 waits on semaphore 2, and task 1 signals it
  a_signal_on_waiting_tells_the_task : Talk room ("0100010000" ▸ "00020001" ∷ "0100020000" ▸ "00030001" ∷ "1100010000" ▸ "0001000501" ∷ "0200020000" ▸ "0001000602" ∷ [])
  -- task 1 waits, task 2 signals: task 1 runs first, with its own outcome, and waits again
  the_caller_is_told_once_it_runs_again : Talk room ("0100010000" ▸ "00020001" ∷ "0200010000" ▸ "0001000501" ∷ "0100010000" ▸ "0002000601" ∷ [])
  -- task 1 waits and is suspended besides; it is told, and runs only when it is resumed
  a_suspended_waiter_is_told : Talk room ("0100010000" ▸ "00020001" ∷ "0A01000000" ▸ "00020000" ∷ "0200010000" ▸ "0002000601" ∷ "0901000000" ▸ "0001000501" ∷ [])
  -- task 1 delays task 2, which was woken at the queue and did not run, takes the entry itself and waits. Task 3 signals task 2's semaphore: that runs, finds
  -- the queue empty and waits again, and task 3 is told
  so_is_one_that_waits_again_at_once : Talk room ("0100010000" ▸ "00020001" ∷ "0701000000" ▸ "00030001" ∷ "1100010000" ▸ "0001000501" ∷ "080100000041" ▸ "00010000"
      ∷ "0D02000005" ▸ "00010000" ∷ "0701000000" ▸ "0001000341" ∷ "0100010000" ▸ "00030001" ∷ "0200040000" ▸ "0003010602" ∷ [])
  -- task 2 waits, and is woken while task 1 runs: by the tick, by the interrupt exit, by a put, by a take. Task 1 is told nothing, and waits; task 2 runs
  a_tick_that_wakes_tells_nobody : Talk room ("0100010000" ▸ "00020001" ∷ "0100020000" ▸ "00030001" ∷ "1100010000" ▸ "0001000501"
      ∷ "0E00020001" ▸ "00010000" ∷ "1000000000" ▸ "00010000" ∷ "0100010000" ▸ "0002000502" ∷ [])
  nor_does_an_interrupt_exit : Talk room ("0100010000" ▸ "00020001" ∷ "0100020000" ▸ "00030001" ∷ "1100010000" ▸ "0001000501"
      ∷ "1100020000" ▸ "0001000501" ∷ "0100010000" ▸ "0002000502" ∷ [])
  nor_an_enqueue : Talk room ("0100010000" ▸ "00020001" ∷ "0701000000" ▸ "00030001" ∷ "1100010000" ▸ "0001000501"
      ∷ "080100000041" ▸ "00010000" ∷ "0100010000" ▸ "0002010341" ∷ [])
  nor_a_dequeue : Talk room ("080100000041" ▸ "00010000" ∷ "0100010000" ▸ "00020001" ∷ "080100000042" ▸ "00030001" ∷ "1100010000" ▸ "0001000501"
      ∷ "0701000000" ▸ "0001000341" ∷ "0100010000" ▸ "00020100" ∷ [])
  -- ---- messages

  -- two of one sender, then none
  receive_takes_the_first_message : Talk room ("0401000001" ▸ "0001000503" ∷ "0401000002" ▸ "0001000503" ∷ "0600000000" ▸ "00010002010103" ∷ "0600000000" ▸ "00010002020103" ∷ "0600000000" ▸ "00020001" ∷ [])
  -- tasks 1 and 2 send 1 and 2 to task 3, which asks for task 2's
  or_the_first_from_the_wanted_sender : Talk room ("0403000001" ▸ "0001000503" ∷ "0100010000" ▸ "00020001" ∷ "0403000002" ▸ "0002000504" ∷ "0100020000" ▸ "00030001" ∷ "0602000000" ▸ "00030002020204" ∷ "0600000000" ▸ "00030002010103" ∷ [])
  -- task 1 wants one from task 3; task 2 writes
  a_wrong_sender_wakes_the_receiver_which_waits_again : Talk room ("0603000000" ▸ "00020001" ∷ "0401000001" ▸ "0002010504" ∷ [])
  -- 22 ($16)
  a_message_lies_in_one_mailbox_only : Talk room ("0402000001" ▸ "0001000503" ∷ "0403000001" ▸ "1601000503" ∷ [])
  all_16_bits_of_x_are_the_message : Talk room ("0402000101" ▸ "08010001" ∷ "0402000000" ▸ "08010001" ∷ "0402000004" ▸ "08010001" ∷ [])
  -- ---- messages that are dropped

  -- task 2 sends to task 3 and waits; task 1 terminates task 3, is told nothing, and waits: task 2 goes on
  a_dropped_message_frees_its_sender : Talk room ("0100010000" ▸ "00020001" ∷ "0503000001" ▸ "00030001" ∷ "1100010000" ▸ "0001000501" ∷ "0B03000000" ▸ "00010000" ∷ "0100010000" ▸ "0002000504" ∷ [])
  -- nobody waits on semaphore 1: it becomes DONE, so that the next wait on it goes on at once
  a_pending_semaphore_becomes_done : Talk room ("0402010001" ▸ "0001000501" ∷ "0B02000000" ▸ "00010000" ∷ "0100010000" ▸ "0001000501" ∷ [])
  and_a_done_one_stays_done : semaphore_of (after room ("0200010000" ∷ "0402010001" ∷ "0B02000000" ∷ [])) 1 ≡ DONE
  -- a message for task 2 has task 2's own semaphore, on which that waits: its wait is withdrawn first, and then the semaphore signalled
  the_tasks_own_wait_is_withdrawn_first : let l = after room ("0402040001" ∷ "0100010000" ∷ "0100000000" ∷ "1100010000" ∷ "0B02000000" ∷ []) in
      (semaphore_of l 4 ≡ DONE) × ((task l 2).blocks ≡ only_idle) × (mailbox l 2 ≡ [])
  -- tasks 1 and 2 send to task 3 and wait, and it terminates itself: both are freed, and the lower one runs
  all_senders_are_freed_and_the_lowest_runs : Talk room ("0503000001" ▸ "00020001" ∷ "0503000002" ▸ "00030001" ∷ "0B00000000" ▸ "0001000503" ∷ "0100010000" ▸ "0002000504" ∷ [])
  -- task 1 sends twice to task 3 with its own semaphore and waits: the first signal frees it, the second leaves DONE
  one_semaphore_in_two_messages_is_signalled_twice : Talk room ("0403000001" ▸ "0001000503" ∷ "0503000002" ▸ "00020001" ∷ "0B03000000" ▸ "0001000503" ∷ [])
      × (semaphore_of (after room ("0403000001" ∷ "0503000002" ∷ "0B03000000" ∷ [])) 3 ≡ DONE)
  -- task 1 has a message of its own in its mailbox, and terminates itself
  a_task_that_terminates_itself_drops_its_messages_too : let l = after room ("0401010001" ∷ "0B00000000" ∷ []) in (semaphore_of l 1 ≡ DONE) × (mailbox l 1 ≡ []) × ((task l 1).blocks ≡ only_idle)
  -- task 2 was woken at the queue, and delayed before it ran. A message that task 1 sent to itself has task 2's semaphore; when task 1 ends, task 2 goes on with its dequeue
  a_freed_task_may_settle : Talk room ("0100010000" ▸ "00020001" ∷ "0701000000" ▸ "00030001" ∷ "1100010000" ▸ "0001000501" ∷ "080100000041" ▸ "00010000"
      ∷ "0D02000005" ▸ "00010000" ∷ "0401040001" ▸ "0001000504" ∷ "0B00000000" ▸ "0002010341" ∷ [])
  -- task 1 sends to task 2 with semaphore 1, and terminates task 3; or executes task 2
  messages_for_others_stay : let l = after room ("0402010001" ∷ "0B03000000" ∷ []) in (semaphore_of l 1 ≡ PENDING) × (map number_of (mailbox l 2) ≡ 1 ∷ [])
  and_execute_drops_nothing : let l = after room ("0402010001" ∷ "0C02000000" ∷ []) in (semaphore_of l 1 ≡ PENDING) × (map number_of (mailbox l 2) ≡ 1 ∷ [])
  -- ---- queues

  a_queues_semaphore_is_not_done_after_an_enqueue : semaphore_of (after room ("080100000041" ∷ [])) 6 ≡ PENDING
  nor_after_a_dequeue : semaphore_of (after room ("080100000041" ∷ "0701000000" ∷ [])) 7 ≡ PENDING
  -- task 2 waits on the empty queue; task 1 puts and goes on
  an_entry_lies_in_the_queue_until_the_woken_task_runs : held (queue (after room ("0100010000" ∷ "0701000000" ∷ "1100010000" ∷ "080100000041" ∷ [])) 1) ≡ (0x41 ∷ []) ∷ []
  and_its_request_stays_open : (task (after room ("0100010000" ∷ "0701000000" ∷ "1100010000" ∷ "080100000041" ∷ [])) 2).request ≡ dequeue 1
  a_first_issue_that_meets_21_is_a_refused_frame : Talk room ("0701000000" ▸ "00020001" ∷ "0701000000" ▸ "15020001" ∷ [])
  and_so_is_an_enqueue : Talk room ("080100000041" ▸ "00010000" ∷ "080100000042" ▸ "00020001" ∷ "080100000043" ▸ "15020001" ∷ [])
  -- the queue is full, and task 1 waits; task 2 takes, and task 1's put is issued again
  an_enqueue_that_completes_in_settling_leaves_the_outcome : Talk room ("080100000041" ▸ "00010000" ∷ "080100000042" ▸ "00020001" ∷ "0701000000" ▸ "00010100" ∷ [])
  -- task 1 wakes tasks 2 and 3, takes the entry itself and waits: task 2 waits again, task 3 has its message
  two_reissues_in_one_frame : Talk room ("0100010000" ▸ "00020001" ∷ "0701000000" ▸ "00030001" ∷ "0600000000" ▸ "00000000" ∷ "1100010000" ▸ "0001000501"
      ∷ "080100000041" ▸ "00010000" ∷ "0403000001" ▸ "0001000503" ∷ "0701000000" ▸ "0001000341" ∷ "0100010000" ▸ "00030202010103" ∷ [])
  the_slots_other_bytes_stay : take 3 (task (after bare ("08010000004142" ∷ "0701000000" ∷ "080200000043" ∷ "0702000000" ∷ [])) 1).slot ≡ 0x43 ∷ 0x42 ∷ 0 ∷ []
  -- task 1 waits at the empty queue; task 2 puts, and within that frame task 1 takes
  an_entry_that_was_handed_out_stands_in_the_slot : let l = after two ("0701000000" ∷ "080100000041" ∷ []) in (queue l 1).handed_out ≡ take 1 (task l 1).slot ∷ []
  and_the_other_slots_stay : (task (after two ("0701000000" ∷ "080100000041" ∷ [])) 2).slot ≡ empty_slot
  handed_out_is_what_was_copied_into_slots : (queue (after bare ("08010000004142" ∷ "08010000004344" ∷ "0701000000" ∷ [])) 1).handed_out ≡ (0x41 ∷ 0x42 ∷ []) ∷ []
  -- ---- timers

  purge_with_b_0_removes_the_timer_on_the_tasks_own : map on (after room ("0E00000005" ∷ "0E00010005" ∷ "0E02010005" ∷ "0F00000001" ∷ [])).timers ≡ (1, 1) ∷ (2, 1) ∷ []
  purge_ignores_the_high_byte_of_x : map on (after room ("0E00000005" ∷ "0E00010005" ∷ "0E02010005" ∷ "0F00000100" ∷ [])).timers ≡ (2, 1) ∷ []
  purge_checks_a_and_b_always : Talk room ("0F04000000" ▸ "05010001" ∷ "0F00060000" ▸ "06010001" ∷ [])
  after_a_purge_a_waiting_task_keeps_waiting : Talk room ("0D00000001" ▸ "00020001" ∷ "0F01000000" ▸ "00020000" ∷ "1000000000" ▸ "00020000" ∷ [])
  -- 24 ($18) is on the task and the semaphore that A and B mean, and comes before 23 ($17); a freed record is free
  one_timer_for_a_task_and_a_semaphore : Talk room ("0E00000005" ▸ "00010000" ∷ "0E01030007" ▸ "18010000" ∷ "0E00010005" ▸ "00010000" ∷ "0E02010005" ▸ "00010000" ∷ "0E02010005" ▸ "18010000"
      ∷ "0E02020005" ▸ "17010000" ∷ "0F00000000" ▸ "00010000" ∷ "0E02020005" ▸ "00010000" ∷ [])
  with_r_0_there_is_no_timer : Talk bare ("0D00000001" ▸ "17010001" ∷ "0E00000001" ▸ "17010001" ∷ "0E00000000" ▸ "09010001" ∷ [])
  -- R is 1, and in use: period 2, three tocks
  a_cyclic_timer_keeps_its_period : map timing (after two ("0E0001FFFE" ∷ "1000000000" ∷ "1000000000" ∷ "1000000000" ∷ [])).timers ≡ (4, 2) ∷ []
  -- the timer is task 3's, the waiter task 1
  a_timer_wakes_whoever_waits : Talk room ("0E03010001" ▸ "00010000" ∷ "0100010000" ▸ "00020001" ∷ "1000000000" ▸ "0001000501" ∷ [])
  ticks_are_counted_up : clock (after bare ("1000000000" ∷ "1000000000" ∷ [])) ≡ (0, 2)
  and_a_tock_passes_after_k : clock (after bare ("1000000000" ∷ "1000000000" ∷ "1000000000" ∷ [])) ≡ (1, 0)
  -- ---- lines

  a_line_that_is_no_frame_is_1_and_the_session_goes_on : output (text (two ∷ "070100000" ∷ "0d00000002" ∷ "0701000000 " ∷ "0701000000\r" ∷ "0701000000" ∷ []))
      ≡ text ("00010001" ∷ "01010001" ∷ "01010001" ∷ "01010001" ∷ "01010001" ∷ "00020001" ∷ [])
  an_empty_line_is_2 : output (text (two ∷ "" ∷ "0701000000" ∷ [])) ≡ text ("00010001" ∷ "02010001" ∷ "00020001" ∷ [])
  as_the_first_line_it_ends_the_session : output (text ("" ∷ two ∷ [])) ≡ text ("02000000" ∷ [])
  and_so_does_one_that_is_no_frame : output (text ("0" ∷ two ∷ [])) ≡ text ("01000000" ∷ [])
  the_last_line_needs_no_end : output (letters two) ≡ text ("00010001" ∷ [])
  empty_input_prints_nothing : output [] ≡ []
  a_line_has_at_most_652_digits : frame_of (replicate 654 0x30) ≡ nothing
  and_may_have_652 : frame_of (replicate 652 0x30) ≡ some (replicate 326 0)
  a_frame_above_326_bytes_has_no_line : line_of (replicate 327 0) ≡ nothing
  and_one_of_326_has : line_of (replicate 326 0) ≡ some (replicate 652 0x30)
  the_longest_configuration_has_a_line : longest controller ≡ longest_frame
  reading_tests_1_before_11 : read_line 0 (letters "0") ≡ number 1
  then_the_room : read_line 4 (letters "0701000000") ≡ number 11
  and_writing_too : write_line 9 (hex "0701000000") ≡ number 11
  just_enough_room : write_line 10 (hex "0701000000") ≡ result (letters "0701000000")
  -- ---- refusals

  a_refused_frame_shows_the_outcome_as_it_was : Talk room ("080100000041" ▸ "00010000" ∷ "0701000000" ▸ "0001000341" ∷ "0702000000" ▸ "0701000341" ∷ "0702000000" ▸ "0701000341" ∷ [])
  shorter_than_5_then_4_then_longer_than_5 : Talk room ("13000000" ▸ "02010001" ∷ "130000000000" ▸ "04010001" ∷ "000000000000" ▸ "04010001" ∷ "020000000000" ▸ "02010001" ∷ [])
  a_bare_enqueue_meets_7_before_2 : Talk room ("0802000000" ▸ "07010001" ∷ "0801000000" ▸ "02010001" ∷ [])
  and_20_before_both : Talk bare ("0100000000" ▸ "00000000" ∷ "0803000000" ▸ "14000000" ∷ "0801000000" ▸ "14000000" ∷ [])
  queue_0_is_7 : Talk room ("0700000000" ▸ "07010001" ∷ "0800000000" ▸ "07010001" ∷ [])
  S_may_be_0 : config_refusal (hex "010000000001000100") ≡ 0
  S_may_be_254 : config_refusal (hex "01FE00000001000100") ≡ 0
  the_sum_is_tested_before_the_length : config_refusal (hex "01FF000000010001") ≡ 3
  queues_may_have_4096_bytes : config_refusal (hex "01000200000100010010FF1001") ≡ 0
  more_is_3 : config_refusal (hex "01000200000100010010FF1002") ≡ 3
  but_tested_after_the_length : config_refusal (hex "01000200000100010010FF100200") ≡ 2
  -- ---- a season timer (24 is $18, 23 is $17)

  -- five, six, eight bytes; and less than five, where the code is not looked at
  it_has_exactly_seven_bytes : Talk room ("1200010001" ▸ "02010001" ∷ "120001000001" ▸ "02010001" ∷ "1200010000000100" ▸ "02010001" ∷ "12000100" ▸ "02010001" ∷ "12000100000001" ▸ "00010000" ∷ [])
  -- the null task runs: six bytes are 2, seven are 20
  its_length_is_tested_before_20 : Talk room ("0100000000" ▸ "00020001" ∷ "0100000000" ▸ "00030001" ∷ "0100000000" ▸ "00000000" ∷ "120001000001" ▸ "02000000" ∷ "12000100000001" ▸ "14000000" ∷ [])
  then_come_5_6_and_9 : Talk room ("12040600000000" ▸ "05010001" ∷ "12030600000000" ▸ "06010001" ∷ "12030500000000" ▸ "09010001" ∷ "12030500000001" ▸ "00010000" ∷ [])
  it_sets_the_callers_outcome_to_plain : Talk room ("0402000001" ▸ "0001000503" ∷ "12030100000005" ▸ "00010000" ∷ [])
  -- $0E's timer for task 1 on its own semaphore keeps $12's out, and the other way round; the fourth finds none free
  both_widths_share_24_and_23 : Talk room ("0E00000005" ▸ "00010000" ∷ "12000000000005" ▸ "18010000" ∷ "12000100000005" ▸ "00010000" ∷ "0E00010005" ▸ "18010000" ∷ "12000200000005" ▸ "00010000"
      ∷ "12020000000005" ▸ "17010000" ∷ "0E02000005" ▸ "17010000" ∷ [])
  all_four_bytes_count : map timing (after room ("12000101020304" ∷ [])).timers ≡ (0x01020304, 0) ∷ []
  and_so_do_those_of_a_period : map timing (after room ("120001FEFDFCFC" ∷ [])).timers ≡ (0x01020304, 0x01020304) ∷ []
  two_bytes_mean_as_many_tocks_as_before : (map timing (after room ("0E0001FFFE" ∷ [])).timers ≡ map timing (after room ("120001FFFFFFFE" ∷ [])).timers)
      × (map timing (after room ("0E0001FFFE" ∷ [])).timers ≡ (2, 2) ∷ [])
  -- 65,537 tocks: its low two bytes are 1
  it_is_not_due_before_its_time : Talk room ("12000100010001" ▸ "00010000" ∷ "0100010000" ▸ "00020001" ∷ "1000000000" ▸ "00020001" ∷ [])
  a_cyclic_one_comes_again : Talk room ("120001FFFFFFFE" ▸ "00010000" ∷ "0100010000" ▸ "00020001" ∷ "1000000000" ▸ "00020001" ∷ "1000000000" ▸ "0001000501"
      ∷ "0100010000" ▸ "00020001" ∷ "1000000000" ▸ "00020001" ∷ "1000000000" ▸ "0001000501" ∷ [])
  -- those due in one tock stay in the order in which they were started
  both_widths_are_one_order : map on (after room ("12000200000002" ∷ "0E00000002" ∷ "12000100000002" ∷ [])).timers ≡ (1, 2) ∷ (1, 3) ∷ (1, 1) ∷ []
  and_fall_due_together : map (semaphore_of (after room ("12000200000002" ∷ "0E00000002" ∷ "12000100000002" ∷ "1000000000" ∷ "1000000000" ∷ []))) (1 ∷ 2 ∷ 3 ∷ []) ≡ DONE ∷ DONE ∷ DONE ∷ []
  -- task 1 waits on semaphore 1, task 3 is idle: neither 21 nor 25
  it_asks_nothing_of_who_waits_or_is_idle : Talk room ("0100010000" ▸ "00020001" ∷ "12010100000005" ▸ "00020000" ∷ "0B03000000" ▸ "00020000" ∷ "12030100000005" ▸ "00020000" ∷ [])
  semaphore_0_is_the_tasks_own : map on (after room ("12020000000005" ∷ [])).timers ≡ (2, 4) ∷ []
  seven_bytes_are_2_for_timer_and_delay : Talk room ("0E000100000001" ▸ "02010001" ∷ "0D000100000001" ▸ "02010001" ∷ [])
  -- its row of the table is the timer's, but for the bytes of X
  in_all_else_it_is_a_timer : let u = fields TIMER in fields SEASON_TIMER ≡ uses u.A u.B u.X long_x u.waits u.service
  purge_removes_it : (after room ("12000100000002" ∷ "0F00010001" ∷ [])).timers ≡ []
  and_so_does_terminate : (after room ("12020100000002" ∷ "0B02000000" ∷ [])).timers ≡ []
  -- ---- start only after (26 is $1A)

  -- task 3 only after task 2
  execute_is_refused_while_a_first_is_idle : TalkIn (yard "0203") ("0C03000000" ▸ "1A010001" ∷ "0C02000000" ▸ "00010000" ∷ "0C03000000" ▸ "00010000" ∷ [])
  -- task 3 after 1 and 2, in both orders
  each_pair_is_looked_at : TalkIn (yard "02030103") ("0C03000000" ▸ "1A010001" ∷ []) × TalkIn (yard "01030203") ("0C03000000" ▸ "1A010001" ∷ [])
  a_suspended_first_is_not_idle : TalkIn (yard "0203") ("0C02000000" ▸ "00010000" ∷ "0A02000000" ▸ "00010000" ∷ "0C03000000" ▸ "00010000" ∷ [])
  nor_one_that_waits : TalkIn (yard "0203") ("0C02000000" ▸ "00010000" ∷ "0100010000" ▸ "00020001" ∷ "0100020000" ▸ "00000000" ∷ "1100010000" ▸ "0001000501" ∷ "0C03000000" ▸ "00010000" ∷ [])
  an_idle_first_that_is_suspended_too_is_idle : TalkIn (yard "0203") ("0A02000000" ▸ "00010000" ∷ "0C03000000" ▸ "1A010000" ∷ [])
  terminating_a_first_leaves_the_others_running : TalkIn (yard "0203") ("0C02000000" ▸ "00010000" ∷ "0C03000000" ▸ "00010000" ∷ "0B02000000" ▸ "00010000" ∷ "0100010000" ▸ "00030001" ∷ [])
  -- task 3 runs while its first is idle, and names itself; then nobody runs
  five_comes_before_26 : TalkIn (yard "0203") ("0C02000000" ▸ "00010000" ∷ "0C03000000" ▸ "00010000" ∷ "0B02000000" ▸ "00010000" ∷ "0100010000" ▸ "00030001" ∷ "0C03000000" ▸ "05030001" ∷ [])
  and_so_does_20 : TalkIn (yard "0203") ("0100010000" ▸ "00000000" ∷ "0C03000000" ▸ "14000000" ∷ [])
  a_task_that_runs_is_not_started_again_either : TalkIn (yard "0203") ("0C02000000" ▸ "00010000" ∷ "0C03000000" ▸ "00010000" ∷ "0B02000000" ▸ "00010000" ∷ "0C03000000" ▸ "1A010000" ∷ [])
  -- task 1, the first of task 2, has ended; task 2 starts task 3
  only_the_tasks_own_firsts_are_asked : TalkIn (yard "01020203") ("0C02000000" ▸ "00010000" ∷ "0B00000000" ▸ "00020001" ∷ "0C03000000" ▸ "00020000" ∷ [])
  a_pair_may_occur_twice : config_refusal (yard "02030203") ≡ 0
  both_are_tasks : (config_refusal (yard "0003") ≡ 3) × (config_refusal (yard "0304") ≡ 3)
  the_first_is_the_lower : (config_refusal (yard "0302") ≡ 3) × (config_refusal (yard "0202") ≡ 3)
  an_idle_task_may_come_after_a_runnable_one : config_refusal (yard "0103") ≡ 0
  but_not_a_runnable_one_after_an_idle_one : config_refusal (hex "0200000000010001" ++ hex "0100" ++ hex "0102") ≡ 3
  an_odd_rest_is_2 : config_refusal (yard "020302") ≡ 2
  there_are_at_most_64_pairs : (config_refusal (yard "" ++ pair_times 64 2 3) ≡ 0) × (config_refusal (yard "" ++ pair_times 65 2 3) ≡ 2)
  the_length_is_tested_before_the_pairs : config_refusal (yard "000000") ≡ 2
  -- ---- the brake module

  -- each limit from both sides; 8 queues of 16 bytes and depth 2 have 256
  sixteen_tasks_and_no_more : (on_the_module (brakes 16 0 0 0 0 "") ≡ 0) × (on_the_module (brakes 17 0 0 0 0 "") ≡ 27)
  eight_queues : (on_the_module (brakes 1 0 8 0 0 "10021002100210021002100210021002") ≡ 0) × (on_the_module (brakes 1 0 9 0 0 "010101010101010101010101010101010101") ≡ 27)
  eight_timers : (on_the_module (brakes 1 0 0 8 0 "") ≡ 0) × (on_the_module (brakes 1 0 0 9 0 "") ≡ 27)
  eight_messages : (on_the_module (brakes 1 0 0 0 8 "") ≡ 0) × (on_the_module (brakes 1 0 0 0 9 "") ≡ 27)
  of_queues_256_bytes : (on_the_module (brakes 1 0 1 0 0 "1010") ≡ 0) × (on_the_module (brakes 1 0 2 0 0 "10100101") ≡ 27)
  the_named_semaphores_have_no_limit_but_the_sum : (on_the_module (brakes 16 223 8 8 8 "10021002100210021002100210021002") ≡ 0) × (on_the_module (brakes 16 224 8 8 8 "10021002100210021002100210021002") ≡ 3)
  nor_have_the_pairs_but_the_64 : (on_the_module (brakes 16 0 0 0 0 "" ++ pair_times 64 2 3) ≡ 0) × (on_the_module (brakes 16 0 0 0 0 "" ++ pair_times 65 2 3) ≡ 2)
  -- what is above the controller's limits is 3 there too; and every other check comes before 27: the length, the states, the queues, the pairs
  the_controllers_limits_come_first : (on_the_module (brakes 127 0 0 0 0 "") ≡ 3) × (on_the_module (brakes 1 0 0 65 9 "") ≡ 3)
  every_check_comes_before_27 : (on_the_module (brakes 17 0 0 0 0 "00") ≡ 2) × (on_the_module (17 ∷ 0 ∷ 0 ∷ 0 ∷ 0 ∷ 1 ∷ 0 ∷ 1 ∷ replicate 17 2) ≡ 3)
      × (on_the_module (brakes 17 0 1 0 0 "1101") ≡ 3) × (on_the_module (brakes 17 0 0 0 0 "0302") ≡ 3)
  the_controller_takes_them : (config_refusal (brakes 17 0 0 0 0 "") ≡ 0) × (config_refusal (brakes 1 0 2 0 0 "10100101") ≡ 0)

pub the_table : Table
unfolding everything pair_times
the_table = record {
  a_suspended_task_may_be_delayed = refl;
  a_waiting_task_may_not_be_delayed = refl;
  nor_one_that_waits_for_a_message = refl;
  nor_an_idle_one = refl;
  a_woken_task_with_an_open_request_may_be_delayed = refl;
  delay_of_another_sets_the_callers_outcome = refl;
  and_leaves_the_others = refl;
  a_task_may_name_itself = refl;
  but_not_execute_itself = refl;
  an_idle_task_may_be_suspended_terminated_and_timed = refl;
  an_idle_task_may_be_sent_to = refl;
  a_task_that_is_not_suspended_may_be_resumed = refl;
  execute_restarts_a_waiting_task = refl;
  and_its_semaphore_is_pending = refl;
  terminate_leaves_timers_of_others_on_its_semaphore = refl;
  and_the_messages_that_the_task_sent = refl;
  but_not_the_semaphore_waiting = refl;
  terminate_and_execute_leave_the_slot = refl;
  zero_is_shown_as_the_tasks_own = refl;
  sendw_waits_even_on_done = refl;
  and_delay_does = refl;
  wait_pend_sendw_and_delay_meet_21 = refl;
  send_timer_purge_and_signal_do_not = refl;
  semaphores_of_other_tasks_may_be_named = refl;
  the_interrupt_exit_names_no_queues_semaphore = refl;
  and_0_signals_nothing = refl;
  a_tick_and_an_interrupt_exit_set_no_outcome = refl;
  the_null_task_may_tick_but_not_call = refl;
  a_signal_on_pending_or_done_wakes_nobody = refl;
  a_signal_on_waiting_tells_the_task = refl;
  the_caller_is_told_once_it_runs_again = refl;
  a_suspended_waiter_is_told = refl;
  so_is_one_that_waits_again_at_once = refl;
  a_tick_that_wakes_tells_nobody = refl;
  nor_does_an_interrupt_exit = refl;
  nor_an_enqueue = refl;
  nor_a_dequeue = refl;
  receive_takes_the_first_message = refl;
  or_the_first_from_the_wanted_sender = refl;
  a_wrong_sender_wakes_the_receiver_which_waits_again = refl;
  a_message_lies_in_one_mailbox_only = refl;
  all_16_bits_of_x_are_the_message = refl;
  a_dropped_message_frees_its_sender = refl;
  a_pending_semaphore_becomes_done = refl;
  and_a_done_one_stays_done = refl;
  the_tasks_own_wait_is_withdrawn_first = (refl, refl, refl);
  all_senders_are_freed_and_the_lowest_runs = refl;
  one_semaphore_in_two_messages_is_signalled_twice = (refl, refl);
  a_task_that_terminates_itself_drops_its_messages_too = (refl, refl, refl);
  a_freed_task_may_settle = refl;
  messages_for_others_stay = (refl, refl);
  and_execute_drops_nothing = (refl, refl);
  a_queues_semaphore_is_not_done_after_an_enqueue = refl;
  nor_after_a_dequeue = refl;
  an_entry_lies_in_the_queue_until_the_woken_task_runs = refl;
  and_its_request_stays_open = refl;
  a_first_issue_that_meets_21_is_a_refused_frame = refl;
  and_so_is_an_enqueue = refl;
  an_enqueue_that_completes_in_settling_leaves_the_outcome = refl;
  two_reissues_in_one_frame = refl;
  the_slots_other_bytes_stay = refl;
  an_entry_that_was_handed_out_stands_in_the_slot = refl;
  and_the_other_slots_stay = refl;
  handed_out_is_what_was_copied_into_slots = refl;
  purge_with_b_0_removes_the_timer_on_the_tasks_own = refl;
  purge_ignores_the_high_byte_of_x = refl;
  purge_checks_a_and_b_always = refl;
  after_a_purge_a_waiting_task_keeps_waiting = refl;
  one_timer_for_a_task_and_a_semaphore = refl;
  with_r_0_there_is_no_timer = refl;
  a_cyclic_timer_keeps_its_period = refl;
  a_timer_wakes_whoever_waits = refl;
  ticks_are_counted_up = refl;
  and_a_tock_passes_after_k = refl;
  a_line_that_is_no_frame_is_1_and_the_session_goes_on = refl;
  an_empty_line_is_2 = refl;
  as_the_first_line_it_ends_the_session = refl;
  and_so_does_one_that_is_no_frame = refl;
  the_last_line_needs_no_end = refl;
  empty_input_prints_nothing = refl;
  a_line_has_at_most_652_digits = refl;
  and_may_have_652 = refl;
  a_frame_above_326_bytes_has_no_line = refl;
  and_one_of_326_has = refl;
  the_longest_configuration_has_a_line = refl;
  reading_tests_1_before_11 = refl;
  then_the_room = refl;
  and_writing_too = refl;
  just_enough_room = refl;
  a_refused_frame_shows_the_outcome_as_it_was = refl;
  shorter_than_5_then_4_then_longer_than_5 = refl;
  a_bare_enqueue_meets_7_before_2 = refl;
  and_20_before_both = refl;
  queue_0_is_7 = refl;
  S_may_be_0 = refl;
  S_may_be_254 = refl;
  the_sum_is_tested_before_the_length = refl;
  queues_may_have_4096_bytes = refl;
  more_is_3 = refl;
  but_tested_after_the_length = refl;
  it_has_exactly_seven_bytes = refl;
  its_length_is_tested_before_20 = refl;
  then_come_5_6_and_9 = refl;
  it_sets_the_callers_outcome_to_plain = refl;
  both_widths_share_24_and_23 = refl;
  all_four_bytes_count = refl;
  and_so_do_those_of_a_period = refl;
  two_bytes_mean_as_many_tocks_as_before = (refl, refl);
  it_is_not_due_before_its_time = refl;
  a_cyclic_one_comes_again = refl;
  both_widths_are_one_order = refl;
  and_fall_due_together = refl;
  it_asks_nothing_of_who_waits_or_is_idle = refl;
  semaphore_0_is_the_tasks_own = refl;
  seven_bytes_are_2_for_timer_and_delay = refl;
  in_all_else_it_is_a_timer = refl;
  purge_removes_it = refl;
  and_so_does_terminate = refl;
  execute_is_refused_while_a_first_is_idle = refl;
  each_pair_is_looked_at = (refl, refl);
  a_suspended_first_is_not_idle = refl;
  nor_one_that_waits = refl;
  an_idle_first_that_is_suspended_too_is_idle = refl;
  terminating_a_first_leaves_the_others_running = refl;
  five_comes_before_26 = refl;
  and_so_does_20 = refl;
  a_task_that_runs_is_not_started_again_either = refl;
  only_the_tasks_own_firsts_are_asked = refl;
  a_pair_may_occur_twice = refl;
  both_are_tasks = (refl, refl);
  the_first_is_the_lower = (refl, refl);
  an_idle_task_may_come_after_a_runnable_one = refl;
  but_not_a_runnable_one_after_an_idle_one = refl;
  an_odd_rest_is_2 = refl;
  there_are_at_most_64_pairs = (refl, refl);
  the_length_is_tested_before_the_pairs = refl;
  sixteen_tasks_and_no_more = (refl, refl);
  eight_queues = (refl, refl);
  eight_timers = (refl, refl);
  eight_messages = (refl, refl);
  of_queues_256_bytes = (refl, refl);
  the_named_semaphores_have_no_limit_but_the_sum = (refl, refl);
  nor_have_the_pairs_but_the_64 = (refl, refl);
  the_controllers_limits_come_first = (refl, refl);
  every_check_comes_before_27 = (refl, refl, refl, refl);
  the_controller_takes_them = (refl, refl);
}
