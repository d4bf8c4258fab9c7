-- `line::reading::put_bytes` meets its contract: a turn writes the next of the line's bytes. Assumes nothing.
use Prim.Native.Nat.{◌/◌}
use mathlib.Core.Path.{sym, ◌∙◌}
use native.Mathlib.Omega.{arith}
use lib.ListN.{length}
use Rattle.line.specs.Digits.{pairs}
use Rattle.line.proofs.Front.{front_turn, front_end}
use Rattle.line.proofs.Pairs.{length_pairs, get_d_pairs}
use Rattle.line.proofs.reading.put_bytes.Goals as goal

pub loop-i-preserved : goal.loop-i-preserved
loop-i-preserved c =
    let a = c.args in
    let l = c.loop-i in
    let n = length_pairs a.line.now in
    let v = c.byte_of.ensures ∙ sym (get_d_pairs a.line.now l.i (omega arith)) in
    front_turn a.frame.now (pairs a.line.now) l.frame l.i c.byte_of.result l.invariant v (omega arith) (omega arith)

pub returns : goal.returns
returns c =
    let a = c.args in
    let l = c.loop-i in
    let n = length_pairs a.line.now in
    front_end a.frame.now (pairs a.line.now) l.frame l.i (length a.line.now / 2) l.invariant (omega arith) (omega arith)
