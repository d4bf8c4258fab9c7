-- The width cut to 16 is the length of what is copied.
use mathlib.Core.Path.{◌∙◌}
use Rattle.answer.specs.Written.{entered}
use Rattle.answer.proofs.put_entry.Goals as goal

pub returns : goal.returns
returns c =
    let a = c.args in
    c.put.ensures ∙ entered a.answer.now a.slots.now a.head a.width _ a.t c.count_of.ensures.0
