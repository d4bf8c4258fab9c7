-- The crate's functions in the world of a build, which is what an environment is made of (the kit's prog.Linked): its table of functions, and
-- that a world with this table, and with what its functions call of other crates (`Below`), has the code of those that are called from outside, whatever else is in it.
use prog.Linked.{Tree, World, Holds, in_world}
use prog.LinkedThreads.{HasT}
use mathlib.Core.Bool.{true}
use Rattle.services.proofs.TheLink as link
use Rattle.services.proofs.message.receive.Symbol as message_receive
use Rattle.services.proofs.message.send.Symbol as message_send
use Rattle.services.proofs.message.sendw.Symbol as message_sendw
use Rattle.services.proofs.queue.complete_dequeue.Symbol as queue_complete_dequeue
use Rattle.services.proofs.queue.complete_enqueue.Symbol as queue_complete_enqueue
use Rattle.services.proofs.queue.dequeue.Symbol as queue_dequeue
use Rattle.services.proofs.queue.enqueue.Symbol as queue_enqueue
use Rattle.services.proofs.queue.wait_to_dequeue.Symbol as queue_wait_to_dequeue
use Rattle.services.proofs.queue.wait_to_enqueue.Symbol as queue_wait_to_enqueue
use Rattle.services.proofs.semaphore.signal.Symbol as semaphore_signal
use Rattle.services.proofs.semaphore.signal_by.Symbol as semaphore_signal_by
use Rattle.services.proofs.semaphore.wait.Symbol as semaphore_wait
use Rattle.services.proofs.task.execute.Symbol as task_execute
use Rattle.services.proofs.task.set_suspended.Symbol as task_set_suspended
use Rattle.services.proofs.task.terminate.Symbol as task_terminate
use Rattle.services.proofs.timer.delay.Symbol as timer_delay
use Rattle.services.proofs.timer.tick.Symbol as timer_tick

pub the_table : Tree
the_table = link.table

abbrev pub Below : World → Type 0
Below = link.Below

pub message_receive_linked : (W : World) → Holds W "services" the_table → Below W → HasT (in_world W) true message_receive.code
unfolding the_table
message_receive_linked = link.linked-services::message::receive

pub message_send_linked : (W : World) → Holds W "services" the_table → Below W → HasT (in_world W) true message_send.code
unfolding the_table
message_send_linked = link.linked-services::message::send

pub message_sendw_linked : (W : World) → Holds W "services" the_table → Below W → HasT (in_world W) true message_sendw.code
unfolding the_table
message_sendw_linked = link.linked-services::message::sendw

pub queue_complete_dequeue_linked : (W : World) → Holds W "services" the_table → Below W → HasT (in_world W) true queue_complete_dequeue.code
unfolding the_table
queue_complete_dequeue_linked = link.linked-services::queue::complete_dequeue

pub queue_complete_enqueue_linked : (W : World) → Holds W "services" the_table → Below W → HasT (in_world W) true queue_complete_enqueue.code
unfolding the_table
queue_complete_enqueue_linked = link.linked-services::queue::complete_enqueue

pub queue_dequeue_linked : (W : World) → Holds W "services" the_table → Below W → HasT (in_world W) true queue_dequeue.code
unfolding the_table
queue_dequeue_linked = link.linked-services::queue::dequeue

pub queue_enqueue_linked : (W : World) → Holds W "services" the_table → Below W → HasT (in_world W) true queue_enqueue.code
unfolding the_table
queue_enqueue_linked = link.linked-services::queue::enqueue

pub queue_wait_to_dequeue_linked : (W : World) → Holds W "services" the_table → Below W → HasT (in_world W) true queue_wait_to_dequeue.code
unfolding the_table
queue_wait_to_dequeue_linked = link.linked-services::queue::wait_to_dequeue

pub queue_wait_to_enqueue_linked : (W : World) → Holds W "services" the_table → Below W → HasT (in_world W) true queue_wait_to_enqueue.code
unfolding the_table
queue_wait_to_enqueue_linked = link.linked-services::queue::wait_to_enqueue

pub semaphore_signal_linked : (W : World) → Holds W "services" the_table → Below W → HasT (in_world W) true semaphore_signal.code
unfolding the_table
semaphore_signal_linked = link.linked-services::semaphore::signal

pub semaphore_signal_by_linked : (W : World) → Holds W "services" the_table → Below W → HasT (in_world W) true semaphore_signal_by.code
unfolding the_table
semaphore_signal_by_linked = link.linked-services::semaphore::signal_by

pub semaphore_wait_linked : (W : World) → Holds W "services" the_table → Below W → HasT (in_world W) true semaphore_wait.code
unfolding the_table
semaphore_wait_linked = link.linked-services::semaphore::wait

pub task_execute_linked : (W : World) → Holds W "services" the_table → Below W → HasT (in_world W) true task_execute.code
unfolding the_table
task_execute_linked = link.linked-services::task::execute

pub task_set_suspended_linked : (W : World) → Holds W "services" the_table → Below W → HasT (in_world W) true task_set_suspended.code
unfolding the_table
task_set_suspended_linked = link.linked-services::task::set_suspended

pub task_terminate_linked : (W : World) → Holds W "services" the_table → Below W → HasT (in_world W) true task_terminate.code
unfolding the_table
task_terminate_linked = link.linked-services::task::terminate

pub timer_delay_linked : (W : World) → Holds W "services" the_table → Below W → HasT (in_world W) true timer_delay.code
unfolding the_table
timer_delay_linked = link.linked-services::timer::delay

pub timer_tick_linked : (W : World) → Holds W "services" the_table → Below W → HasT (in_world W) true timer_tick.code
unfolding the_table
timer_tick_linked = link.linked-services::timer::tick
