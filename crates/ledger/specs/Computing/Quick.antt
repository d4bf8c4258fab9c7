-- The run, computed frame by frame: equal to `session`, and fast for long lists.
use Rattle.std.specs.Prelude.{ℕ, ◌≡◌, refl, cond, List, [], ◌∷◌, map, eqb}
use Prim.Native.String.{String}
use Rattle.std.proofs.Common.{◌∙◌}
use Rattle.ledger.specs.Lists.{at, put, first, sum, any, all, keep, find, without, insert_by}
use Rattle.ledger.specs.Config.{Config, twos, config_in, few_enough, good_values, good_head, good_length, good_pair, good_rest, config_refusal, is_within, config_refusal_by}
use Rattle.ledger.specs.Ledger.{Ledger, task, semaphore_of, mailbox, queue, held, runnable, lowest_runnable, running, set_task, set_semaphores, set_semaphore, set_mailbox, set_queue, set_timers, set_clock, set_blocks, set_outcome, set_slot, set_request, set_suspended, set_event_wait, set_message_wait, fresh_task, fresh}
use Rattle.ledger.specs.Computing.Force.{force_bool, force_list, same, force_sema, force_outcome, force_request, force_task, force_queue, force, force_is}
use Rattle.ledger.specs.Time.{signed, tock_value, long_tock_value, tocks, period, nearest, milliseconds}
use Rattle.ledger.specs.Services.{wait_for, signalled, signal, signal_all, woken, wake_waiter, waited, wait, not_waiting, withdraw_wait, send, wanted, not_empty, not_full, shape, empty, full, copy_into, take_entry, put_entry, received, drop_messages, dequeued, enqueued, issue, terminate, execute, insert_timer, start_timer, purge, insert_again, expire, expire_all, due, tock, tick, effect}
use Rattle.ledger.specs.Refusals.{fields, meant_task, meant_semaphore, code_at, value_x, behind_x, call, wrong_length, wrong_task, wrong_semaphore, wrong_queue, is_tock_value, is_message, would_wait_on, is_waiting, meets21, inamailbox, have_timer, idle_or_waiting, wrong_entry, meets25, holds_back, meets26, from_input, from_state, refusal}
use Rattle.ledger.specs.Session.{open_request, is_open, refused21, issue_again, reissue, settle, shown, answer, accept, step, run_from, run, refused_configuration, session, timer_left, items}
use Rattle.ledger.specs.Lines.{digit_value, digit_of, joined, bytes_of, digits_of, frame_of, line_of, written_into, read_line, write_line, before, lines_in, step_line, answers_from, configured, answers_to_lines, printed, output}
use Rattle.ledger.specs.Computing.Hex.{digit, hex, letters, text}

unfoldable pub quick_from : Config → Ledger → List (List ℕ) → Ledger × List (List ℕ)
quick_from c l [] = (l, [])
quick_from c l (f ∷ fs) = let s = step c f l in force s.ledger λ l'. let r = quick_from c l' fs in (r.0, s.answered ∷ r.1)

pub quick_from_is : (c : Config) (l : Ledger) (fs : List (List ℕ)) → quick_from c l fs ≡ run_from c l fs
unfolding quick_from run_from
quick_from_is c l [] = refl
quick_from_is c l (f ∷ fs) = force_is (step c f l).ledger (λ l'. let r = quick_from c l' fs in (r.0, (step c f l).answered ∷ r.1)) ∙ rw (quick_from_is c (step c f l).ledger fs)

unfoldable pub quick_session : List ℕ → List (List ℕ) → List (List ℕ)
quick_session g fs =
    let n = config_refusal g in
    cond (eqb n 0) (answer 0 0 (fresh (config_in g)) ∷ (quick_from (config_in g) (fresh (config_in g)) fs).1) (refused_configuration n ∷ [])

pub quick_session_is : (g : List ℕ) (fs : List (List ℕ)) → quick_session g fs ≡ session g fs
unfolding quick_session session run
quick_session_is g fs = rw quick_from_is

-- a name for all definitions of the ledger: to unfold it is to unfold them
unfoldable pub everything : List ℕ → List (List ℕ) → List (List ℕ)
unfolding at put first sum any all keep find without insert_by twos config_in few_enough good_values good_head good_length good_pair good_rest config_refusal is_within config_refusal_by task semaphore_of mailbox queue held runnable lowest_runnable running set_task set_semaphores set_semaphore set_mailbox set_queue set_timers set_clock set_blocks set_outcome set_slot set_request set_suspended set_event_wait set_message_wait fresh_task fresh force_bool force_list same force_sema force_outcome force_request force_task force_queue force wait_for signalled signal signal_all woken wake_waiter waited wait not_waiting withdraw_wait send wanted not_empty not_full shape empty full copy_into take_entry put_entry received drop_messages dequeued enqueued issue terminate execute insert_timer signed tock_value long_tock_value tocks period start_timer purge insert_again expire expire_all due tock tick effect fields meant_task meant_semaphore code_at value_x behind_x call wrong_length wrong_task wrong_semaphore wrong_queue is_tock_value is_message would_wait_on is_waiting meets21 inamailbox have_timer idle_or_waiting wrong_entry meets25 holds_back meets26 from_input from_state refusal open_request is_open refused21 issue_again reissue settle shown answer accept step run_from run refused_configuration session timer_left items nearest milliseconds digit_value digit_of joined bytes_of digits_of frame_of line_of written_into read_line write_line before lines_in step_line answers_from configured answers_to_lines printed output digit hex letters text
everything g fs = session g fs

-- the answers to lines as they stand in the document, for long sessions
unfoldable pub answers_to : String → List String → List (List ℕ)
unfolding everything quick_from quick_session
answers_to g fs = quick_session (hex g) (map hex fs)
