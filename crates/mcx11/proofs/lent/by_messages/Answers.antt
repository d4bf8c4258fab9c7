-- The test's value decides.
use native.Mathlib.Omega.{arith}
use Prim.Native.Nat.{◌+◌}
use mathlib.Core.Path.{◌≡◌, sym, ◌∙◌}
use lib.ListN.{length}
use Rattle.rows.specs.Splice.{cut}
use Rattle.rows.specs.Laws.{length_cut}
use Rattle.tables.specs.Layout.{still_fits}
use Rattle.parts.specs.Parts.{part_at, part}
use Rattle.mcx11.proofs.lent.by_messages.Goals as goal

pub sound-requires : goal.sound-requires
sound-requires c =
    let e : length (cut c.args.tables.now part_at (part_at + c.args.shape.end)) ≡ c.args.shape.end = length_cut c.args.tables.now part_at (part_at + c.args.shape.end) c.requires.1 ∙ omega arith in
    still_fits c.requires.0 (sym e)

pub returns-then-sound : goal.returns-then-sound
unfolding part
returns-then-sound c = rw (sym c.sound.ensures ∙ c.if-sound.true)

pub returns : goal.returns
unfolding part
returns c = rw (sym c.sound.ensures ∙ c.if-sound.false)
