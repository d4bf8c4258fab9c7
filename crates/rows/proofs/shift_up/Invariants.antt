-- What is moved so far is `raised`.
use mathlib.Core.Path.{◌≡◌}
use Prim.Native.Nat.{◌≤◌}
use Rattle.rows.specs.Laws.{raised}
use Rattle.rows.proofs.shift_up.Given as goal

abbrev pub invariant-loop-i : goal.invariant-loop-i
invariant-loop-i l = (l.from ≤ l.i) × (l.buf ≡ raised l.initial.buf l.i l.to l.w)
