-- The front mark, then the back one.
use mathlib.Core.Path.{sym, ◌∙◌}
use Rattle.parts.specs.Parts.{marked_by}
use Rattle.parts.proofs.is_marked.Goals as goal

pub returns-then-stands : goal.returns-then-stands
unfolding marked_by
returns-then-stands c = rw (sym c.stands.ensures ∙ c.if-stands.true, c.stands-then-stands.ensures)

pub returns-else-stands : goal.returns-else-stands
unfolding marked_by
returns-else-stands c = rw (sym c.stands.ensures ∙ c.if-stands.false) c.if-stands.false
