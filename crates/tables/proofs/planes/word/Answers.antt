-- The eight bytes are those of the number.
use mathlib.Core.Path.{refl}
use Rattle.tables.specs.Words.{number_eight}
use Rattle.tables.proofs.planes.word.Goals as goal

pub returns : goal.returns
returns c = number_eight c.args.planes.now c.args.at _ refl
