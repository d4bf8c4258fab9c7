-- No timer so far is hit.
use Rattle.std.proofs.Common.{◌≡◌, ℕ, ◌<◌, ◌%◌}
use Rattle.starts.specs.Table.{residue_at}
use Rattle.starts.proofs.table.hit.Given as goal

abbrev pub invariant-loop-residue : goal.invariant-loop-residue
invariant-loop-residue l = (j : ℕ) → j < l.residue-index → l.start % (residue_at l.residues j).divisor ≡ (residue_at l.residues j).rest → ⊥
