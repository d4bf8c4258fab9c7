use Rattle.std.proofs.Common.{◌≡◌, take}
use Rattle.ledger.specs.Lists.{all}
use Rattle.line.specs.Digits.{is_digit}
use Rattle.line.proofs.reading.all_digits.Given as goal

-- whether the bytes up to here are digits
abbrev pub invariant-loop-d : goal.invariant-loop-d
invariant-loop-d l = l.good ≡ all is_digit (take l.d-index l.line)
