use Rattle.std.proofs.Common.{◌≡◌, ◌*◌}
use Rattle.ledger.specs.Lines.{digits_of}
use Rattle.line.proofs.Front.{front}
use Rattle.line.proofs.writing.put_digits.Given as goal

-- the line has the digits of the frame's first i bytes at its front
abbrev pub invariant-loop-i : goal.invariant-loop-i
invariant-loop-i l = l.line ≡ front l.initial.line (digits_of l.frame) (2 * l.i)
