-- `line::reading::read` meets its contract: its ways out are the ledger's three cases, and the bytes are written in the last.
-- Assumes nothing.
use Prim.Native.Nat.{◌/◌}
use mathlib.Core.Path.{sym, ◌∙◌}
use native.Mathlib.Omega.{arith}
use lib.ListN.{length}
use Rattle.ledger.specs.Lines.{frame_of, read_line}
use Rattle.line.specs.Digits.{pairs}
use Rattle.line.proofs.Pairs.{none_there, length_pairs, frame_is_pairs}
use Rattle.line.proofs.Giving.{gives_1, gives_11, gives_result}
use Rattle.line.proofs.reading.read.Goals as goal

pub returns-then-not-is_line : goal.returns-then-not-is_line
unfolding read_line
returns-then-not-is_line c =
    let a = c.args in
    let e = none_there (frame_of a.line.now) (sym c.is_line.ensures ∙ c.if-not-is_line.true) in
    gives_1 (frame_of a.line.now) a.frame.now e

pub returns-then-frame-bytes : goal.returns-then-frame-bytes
unfolding read_line
returns-then-frame-bytes c =
    let a = c.args in
    let e = frame_is_pairs a.line.now (sym c.is_line.ensures ∙ c.if-not-is_line.false) in
    let n = length_pairs a.line.now in
    gives_11 (frame_of a.line.now) a.frame.now (pairs a.line.now) e (omega arith)

pub returns : goal.returns
unfolding read_line
returns c =
    let a = c.args in
    let e = frame_is_pairs a.line.now (sym c.is_line.ensures ∙ c.if-not-is_line.false) in
    let n = length_pairs a.line.now in
    gives_result (frame_of a.line.now) a.frame.now (pairs a.line.now) e _ (length a.line.now / 2) (omega arith) n
    c.put_bytes.ensures
