-- What is moved so far is `paste`.
use mathlib.Core.Path.{◌≡◌}
use Prim.Native.Nat.{◌+◌, ◌-◌}
use lib.ListN.{drop}
use lib.Seq.{paste}
use Rattle.rows.proofs.shift_down.Given as goal

abbrev pub invariant-loop-i : goal.invariant-loop-i
invariant-loop-i l = l.buf ≡ paste l.initial.buf l.from (drop (l.from + l.w) l.initial.buf) (l.i - l.from)
