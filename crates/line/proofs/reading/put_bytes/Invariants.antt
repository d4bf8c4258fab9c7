use Rattle.std.proofs.Common.{◌≡◌}
use Rattle.line.specs.Digits.{pairs}
use Rattle.line.proofs.Front.{front}
use Rattle.line.proofs.reading.put_bytes.Given as goal

-- the frame has the first i bytes of the line's digits at its front
abbrev pub invariant-loop-i : goal.invariant-loop-i
invariant-loop-i l = l.frame ≡ front l.initial.frame (pairs l.line) l.i
