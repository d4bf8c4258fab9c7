-- Every start so far is hit.
use Rattle.std.proofs.Common.{ℕ, ◌<◌}
use Rattle.starts.specs.Table.{Hit}
use Rattle.starts.proofs.table.first_free.Given as goal

abbrev pub invariant-loop-start : goal.invariant-loop-start
invariant-loop-start l = (e : ℕ) → e < l.start → Hit l.residues e
