-- `clear_all` changes the bytes from the front: those before the index are cleared.
use mathlib.Core.Path.{◌≡◌}
use Rattle.rows.specs.Rows.{map_upto}
use Rattle.tables.specs.Decode.{cleared_of}
use Rattle.tables.proofs.semaphores.clear_all.Given as goal

abbrev pub invariant-loop-x : goal.invariant-loop-x
invariant-loop-x l = l.part ≡ map_upto (cleared_of l.t) l.x-index l.initial.part
