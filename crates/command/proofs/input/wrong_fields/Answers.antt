-- `wrong_fields`: the checks are passed one after the other until one fails.
use mathlib.Core.Path.{sym, ◌∙◌}
use Rattle.command.specs.Numbers.{here, next}
use Rattle.command.specs.Input.{value_told}
use Rattle.command.specs.Codes.{view_x, view_follows}
use Rattle.command.proofs.input.wrong_fields.Goals as goal

pub returns-then-wrong_task : goal.returns-then-wrong_task
returns-then-wrong_task c = λ g o. sym (here _ 5 _ (sym (c.wrong_task.ensures g o) ∙ c.if-wrong_task.true))

pub returns-then-wrong_semaphore : goal.returns-then-wrong_semaphore
returns-then-wrong_semaphore c = λ g o. sym (next _ 5 _ (sym (c.wrong_task.ensures g o) ∙ c.if-wrong_task.false) ∙ here _ 6 _ (sym (c.wrong_semaphore.ensures g o) ∙ c.if-wrong_semaphore.true))

pub returns-then-wrong_queue : goal.returns-then-wrong_queue
returns-then-wrong_queue c = λ g o. sym (next _ 5 _ (sym (c.wrong_task.ensures g o) ∙ c.if-wrong_task.false) ∙ next _ 6 _ (sym (c.wrong_semaphore.ensures g o) ∙ c.if-wrong_semaphore.false) ∙ here _ 7 _ (sym (c.wrong_queue.ensures g o) ∙ c.if-wrong_queue.true))

pub returns : goal.returns
returns c = λ g o. let a = c.args in value_told g (view_x a.u.x) (view_follows a.u.follows) a.frame.now c.value.ensures (c.wrong_value.ensures g o) ∙ sym (next _ 5 _ (sym (c.wrong_task.ensures g o) ∙ c.if-wrong_task.false) ∙ next _ 6 _ (sym (c.wrong_semaphore.ensures g o) ∙ c.if-wrong_semaphore.false) ∙ next _ 7 _ (sym (c.wrong_queue.ensures g o) ∙ c.if-wrong_queue.false))
