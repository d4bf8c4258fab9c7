-- `idle_or_waiting` goes through the ledger's three blocks, as the task has them.
use Rattle.ledger.proofs.Theorems.Checks.{never}
use mathlib.Core.Path.{sym, ◌∙◌}
use Rattle.command.specs.State.{blocks_told}
use Rattle.command.proofs.state.idle_or_waiting.Goals.{then-blocks, else-blocks}
use Rattle.command.proofs.state.idle_or_waiting.Goals as goal

pub returns-then-blocks-2 : goal.returns-then-blocks-2
returns-then-blocks-2 c =
    let x = c.load-blocks in
    blocks_told c.args.shape c.args.tables.now c.args.t c.requires.1 x.result x.ensures _ (elim c.if-blocks.branch [
      | then-blocks w ↦ rw (w.value-is, w.if-blocks.true)
      | else-blocks w ↦ rw (w.if-blocks.false, ← w.value-is, c.if-blocks-2.true)
    ])

pub returns-else-blocks-2 : goal.returns-else-blocks-2
returns-else-blocks-2 c =
    let x = c.load-blocks in
    blocks_told c.args.shape c.args.tables.now c.args.t c.requires.1 x.result x.ensures _ (elim c.if-blocks.branch [
      | then-blocks w ↦ never (sym c.if-blocks-2.false ∙ w.value-is ∙ w.if-blocks.true)
      | else-blocks w ↦ rw (w.if-blocks.false, ← w.value-is, c.if-blocks-2.false)
    ])
