-- What a turn leaves for the next: no more of a line is held than tells that it is too long.
use Rattle.std.specs.Prelude.{◌≤◌}
use Rattle.feeding.specs.Line.{most}
use Rattle.session.specs.declared.Fed.{Fed}
use Rattle.session.specs.declared.Fed.TheVariants as fed

abbrev pub HoldsFew : Fed → Type 0
HoldsFew (fed.Part reached) = reached.held ≤ most
HoldsFew (fed.Whole reached) = reached.held ≤ most
HoldsFew fed.Refused = Unit {0}
