-- The residues of the timers so far, whose periods are in range.
use Rattle.std.proofs.Common.{◌≡◌, ℕ, ◌<◌, length}
use Rattle.starts.specs.Starts.{timer_at, most_cycles, InRange}
use Rattle.starts.specs.Table.{Beside, residue_at}
use Rattle.starts.proofs.table.residues.Given as goal

abbrev pub invariant-loop-k : goal.invariant-loop-k
invariant-loop-k l =
    (length l.residues ≡ most_cycles) × ((j : ℕ) → j < l.k → InRange (timer_at l.timers j).period) × ((j : ℕ) → j < l.k → Beside (timer_at l.timers j) l.period (residue_at l.residues j))
