-- The environment in which the theorems about runs run a function: in it a function's name means the function's own code, and the names in that code mean
-- the code of the functions that it calls, of whatever crate. It is the kit's world of a build (prog.Linked), of the crates below with their own tables.
--     environment      what a name means there: `environment F.name` is the routine of the function F
--     F_wired          it has the code of F, and of all that F calls
use Rattle.std.specs.Prelude.{refl, [], ◌∷◌}
use mathlib.Core.Bool.{true}
use lib.Chars.{codes}
use prog.Routine.{Env}
use prog.Wired.{Wired, Code}
use prog.Linked.{World, in_world}
use prog.LinkedThreads.{HasT, tie_t, tie_t-follows, tie_t-threads, has-wired_t}
use Rattle.refusals.proofs.Linked as refusals
use Rattle.rows.proofs.Linked as rows
use Rattle.rings.proofs.Linked as rings
use Rattle.messages.proofs.Linked as messages
use Rattle.timers.proofs.Linked as timers
use Rattle.parts.proofs.Linked as parts
use Rattle.tables.proofs.Linked as tables
use Rattle.queues.proofs.Linked as queues
use Rattle.mailboxes.proofs.Linked as mailboxes
use Rattle.clock.proofs.Linked as clock
use Rattle.services.proofs.Linked as services
use Rattle.answer.proofs.Linked as answer
use Rattle.configuration.proofs.Linked as configuration
use Rattle.command.proofs.Linked as command
use Rattle.executive.proofs.Linked as executive
use Rattle.line.proofs.Linked as line
use Rattle.tocks.proofs.Linked as tocks
use Rattle.stretch.proofs.Linked as stretch
use Rattle.starts.proofs.Linked as starts
use Rattle.mcx11.proofs.Linked as mcx11
use Rattle.feeding.proofs.Linked as feeding
use Rattle.mcx11.proofs.entries.mcx11_configure_blocks.Symbol as configure-symbol
use Rattle.mcx11.proofs.entries.mcx11_frame_blocks.Symbol as frame-symbol
use Rattle.mcx11.proofs.entries.mcx11_module_configure_blocks.Symbol as module-configure-symbol
use Rattle.mcx11.proofs.entries.mcx11_module_frame_blocks.Symbol as module-frame-symbol
use Rattle.mcx11.proofs.mcx11_read_line.Symbol as read-symbol
use Rattle.mcx11.proofs.mcx11_write_line.Symbol as write-symbol
use Rattle.mcx11.proofs.mcx11_milliseconds.Symbol as milliseconds-symbol
use Rattle.mcx11.proofs.mcx11_busiest.Symbol as busiest-symbol
use Rattle.mcx11.proofs.mcx11_free_start.Symbol as free-start-symbol
use Rattle.feeding.proofs.feed.Symbol as feed-symbol
use Rattle.feeding.proofs.finish.Symbol as finish-symbol

abbrev world : World
world =
    (codes "refusals", refusals.the_table) ∷
    (codes "rows", rows.the_table) ∷
    (codes "rings", rings.the_table) ∷
    (codes "messages", messages.the_table) ∷
    (codes "timers", timers.the_table) ∷
    (codes "parts", parts.the_table) ∷
    (codes "tables", tables.the_table) ∷
    (codes "queues", queues.the_table) ∷
    (codes "mailboxes", mailboxes.the_table) ∷
    (codes "clock", clock.the_table) ∷
    (codes "services", services.the_table) ∷
    (codes "answer", answer.the_table) ∷
    (codes "configuration", configuration.the_table) ∷
    (codes "command", command.the_table) ∷
    (codes "executive", executive.the_table) ∷
    (codes "line", line.the_table) ∷
    (codes "tocks", tocks.the_table) ∷
    (codes "stretch", stretch.the_table) ∷
    (codes "starts", starts.the_table) ∷
    (codes "mcx11", mcx11.the_table) ∷
    (codes "feeding", feeding.the_table) ∷ []

pub environment : Env
environment = tie_t (in_world world)

wired : (c : Code) → HasT (in_world world) true c → Wired environment c
unfolding environment
wired = has-wired_t (in_world world) environment (tie_t-follows (in_world world)) (tie_t-threads (in_world world))

-- ---- what the functions of a crate call of others
tocks_below : tocks.Below world
tocks_below = (rows.long_word_linked world refl, (rows.word_linked world refl, tt))

rings_below : rings.Below world
rings_below = (rows.copy_short_linked world refl, tt)

messages_below : messages.Below world
messages_below = (rows.insert_at_linked world refl, (rows.remove_at_linked world refl, tt))

timers_below : timers.Below world
timers_below = (rows.get4_linked world refl, (rows.insert_at_linked world refl, (rows.put4_linked world refl, (rows.remove_at_linked world refl, (rows.replace_at_linked world refl, tt)))))

parts_below : parts.Below world
parts_below = (rows.copy_in_linked world refl, (rows.get4_linked world refl, (rows.put4_linked world refl, (rows.word_linked world refl, tt))))

tables_below : tables.Below world
tables_below = (rows.copy_in_linked world refl, tt)

queues_below : queues.Below world
queues_below = (rings.put_linked world refl rings_below, (rings.take_out_linked world refl rings_below, (tables.counts_count_of_linked world refl tables_below, (tables.lent_Tables_set_outcome_linked world refl tables_below, (tables.semaphores_is_waiting_linked world refl tables_below, tt)))))

mailboxes_below : mailboxes.Below world
mailboxes_below = (messages.insert_linked world refl messages_below, (messages.lent_Messages_complete_linked world refl messages_below, (messages.lent_Messages_find_linked world refl messages_below, (messages.lent_Messages_holds_linked world refl messages_below, (messages.lent_Messages_load_linked world refl messages_below, (messages.remove_linked world refl messages_below, (tables.counts_count_of_linked world refl tables_below, tt)))))))

clock_below : clock.Below world
clock_below = (tables.counts_count_of_linked world refl tables_below, (timers.Timers_insert_linked world refl timers_below, (timers.Timers_pass_linked world refl timers_below, (timers.Timers_purge_linked world refl timers_below, (timers.Timers_take_due_linked world refl timers_below, (timers.has_linked world refl timers_below, tt))))))

services_below : services.Below world
services_below = (clock.advance_linked world refl clock_below, (clock.purge_linked world refl clock_below, (clock.start_linked world refl clock_below, (clock.take_due_linked world refl clock_below, (mailboxes.insert_linked world refl mailboxes_below, (mailboxes.take_linked world refl mailboxes_below, (queues.count_linked world refl queues_below, (queues.not_full_linked world refl queues_below, (queues.put_linked world refl queues_below, (queues.take_linked world refl queues_below, (tables.lent_Tables_semaphore_linked world refl tables_below, (tables.lent_Tables_set_block_linked world refl tables_below, (tables.lent_Tables_set_blocks_linked world refl tables_below, (tables.lent_Tables_set_enqueue_linked world refl tables_below, (tables.lent_Tables_set_outcome_linked world refl tables_below, (tables.lent_Tables_set_request_linked world refl tables_below, (tables.lent_Tables_set_semaphore_linked world refl tables_below, (tables.lent_Tables_withdraw_linked world refl tables_below, tt))))))))))))))))))

answer_below : answer.Below world
answer_below = (rows.copy_short_linked world refl, (tables.counts_count_of_linked world refl tables_below, (tables.tasks_load_linked world refl tables_below, tt)))

configuration_below : configuration.Below world
configuration_below = (rows.word_linked world refl, (tables.planes_put_bit_linked world refl tables_below, tt))

command_below : command.Below world
command_below = (clock.count_linked world refl clock_below, (clock.has_linked world refl clock_below, (configuration.block_ring_of_linked world refl configuration_below, (mailboxes.holds_linked world refl mailboxes_below, (queues.reading_put_waits_linked world refl queues_below, (queues.reading_take_waits_linked world refl queues_below, (rows.long_word_linked world refl, (rows.word_linked world refl, (tables.blocks_is_idle_linked world refl tables_below, (tables.blocks_load_linked world refl tables_below, (tables.semaphores_is_waiting_linked world refl tables_below, tt)))))))))))

executive_below : executive.Below world
executive_below = (answer.write_linked world refl answer_below, (clock.purge_linked world refl clock_below, (clock.start_linked world refl clock_below, (command.codes_try_from_linked world refl command_below, (command.codes_row_linked world refl command_below, (command.fields_meant_semaphore_linked world refl command_below, (command.fields_meant_task_linked world refl command_below, (command.refusal_linked world refl command_below, (configuration.block_ring_of_linked world refl configuration_below, (queues.count_linked world refl queues_below, (queues.put_waits_linked world refl queues_below, (queues.take_waits_linked world refl queues_below, (refusals.from_linked world refl, (services.message_receive_linked world refl services_below, (services.message_send_linked world refl services_below, (services.message_sendw_linked world refl services_below, (services.queue_complete_dequeue_linked world refl services_below, (services.queue_complete_enqueue_linked world refl services_below, (services.queue_dequeue_linked world refl services_below, (services.queue_enqueue_linked world refl services_below, (services.queue_wait_to_dequeue_linked world refl services_below, (services.queue_wait_to_enqueue_linked world refl services_below, (services.semaphore_signal_linked world refl services_below, (services.semaphore_signal_by_linked world refl services_below, (services.semaphore_wait_linked world refl services_below, (services.task_execute_linked world refl services_below, (services.task_set_suspended_linked world refl services_below, (services.task_terminate_linked world refl services_below, (services.timer_delay_linked world refl services_below, (services.timer_tick_linked world refl services_below, (tables.lent_Tables_copy_waiting_linked world refl tables_below, (tables.lent_Tables_running_linked world refl tables_below, (tables.lent_Tables_set_outcome_linked world refl tables_below, (tables.lent_Tables_set_request_linked world refl tables_below, (tables.lent_Tables_set_semaphore_linked world refl tables_below, (tables.lent_Tables_task_linked world refl tables_below, (tocks.long_tock_value_at_linked world refl tocks_below, (tocks.tock_value_at_linked world refl tocks_below, tt))))))))))))))))))))))))))))))))))))))

stretch_below : stretch.Below world
stretch_below = (refusals.from_linked world refl, tt)

starts_below : starts.Below world
starts_below = (refusals.from_linked world refl, tt)

mcx11_below : mcx11.Below world
mcx11_below = (answer.refuse_configuration_linked world refl answer_below, (answer.write_linked world refl answer_below, (configuration.block_counts_linked world refl configuration_below, (configuration.block_lent_linked world refl configuration_below, (configuration.block_shape_of_linked world refl configuration_below, (configuration.frame_refusal_by_linked world refl configuration_below, (configuration.fresh_start_linked world refl configuration_below, (configuration.limits_brake_module_linked world refl configuration_below, (configuration.limits_controller_linked world refl configuration_below, (configuration.limits_longest_linked world refl configuration_below, (executive.frames_step_linked world refl executive_below, (line.read_linked world refl, (line.write_linked world refl, (mailboxes.sound_linked world refl mailboxes_below, (parts.frame_length_linked world refl parts_below, (parts.is_marked_linked world refl parts_below, (parts.keep_frame_linked world refl parts_below, (parts.kept_frame_linked world refl parts_below, (parts.mark_ends_linked world refl parts_below, (refusals.from_linked world refl, (refusals.returned_linked world refl, (starts.free_start_linked world refl starts_below, (starts.give_linked world refl starts_below, (stretch.busiest_linked world refl stretch_below, (stretch.give_linked world refl stretch_below, (tables.tasks_running_linked world refl tables_below, (tocks.milliseconds_linked world refl tocks_below, tt)))))))))))))))))))))))))))

feeding_below : feeding.Below world
feeding_below = (answer.refuse_configuration_linked world refl answer_below, (configuration.block_lent_linked world refl configuration_below, (configuration.limits_controller_linked world refl configuration_below, (line.read_linked world refl, (line.write_linked world refl, (mcx11.by_limits_tell_linked world refl mcx11_below, (mcx11.entries_mcx11_configure_blocks_linked world refl mcx11_below, (mcx11.entries_mcx11_frame_blocks_linked world refl mcx11_below, (mcx11.lent_counts_linked world refl mcx11_below, (parts.kept_frame_linked world refl parts_below, (tables.counts_count_of_linked world refl tables_below, tt)))))))))))

-- ---- the functions whose runs are spoken of
pub configure_wired : Wired environment configure-symbol.code
configure_wired = wired configure-symbol.code (mcx11.entries_mcx11_configure_blocks_linked world refl mcx11_below)

pub frame_wired : Wired environment frame-symbol.code
frame_wired = wired frame-symbol.code (mcx11.entries_mcx11_frame_blocks_linked world refl mcx11_below)

pub module_configure_wired : Wired environment module-configure-symbol.code
module_configure_wired = wired module-configure-symbol.code (mcx11.entries_mcx11_module_configure_blocks_linked world refl mcx11_below)

pub module_frame_wired : Wired environment module-frame-symbol.code
module_frame_wired = wired module-frame-symbol.code (mcx11.entries_mcx11_module_frame_blocks_linked world refl mcx11_below)

pub read_wired : Wired environment read-symbol.code
read_wired = wired read-symbol.code (mcx11.mcx11_read_line_linked world refl mcx11_below)

pub write_wired : Wired environment write-symbol.code
write_wired = wired write-symbol.code (mcx11.mcx11_write_line_linked world refl mcx11_below)

pub milliseconds_wired : Wired environment milliseconds-symbol.code
milliseconds_wired = wired milliseconds-symbol.code (mcx11.mcx11_milliseconds_linked world refl mcx11_below)

pub busiest_wired : Wired environment busiest-symbol.code
busiest_wired = wired busiest-symbol.code (mcx11.mcx11_busiest_linked world refl mcx11_below)

pub free_start_wired : Wired environment free-start-symbol.code
free_start_wired = wired free-start-symbol.code (mcx11.mcx11_free_start_linked world refl mcx11_below)

pub feed_wired : Wired environment feed-symbol.code
feed_wired = wired feed-symbol.code (feeding.feed_linked world refl feeding_below)

pub finish_wired : Wired environment finish-symbol.code
finish_wired = wired finish-symbol.code (feeding.finish_linked world refl feeding_below)
