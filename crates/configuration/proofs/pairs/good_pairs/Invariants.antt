-- What is left to test is the pairs from k on.
use Rattle.std.proofs.Common.{◌≡◌, ◌*◌, length, drop}
use Rattle.ledger.specs.Lists.{all}
use Rattle.ledger.specs.Config.{pairs_in, good_pair}
use Rattle.configuration.proofs.pairs.good_pairs.Given as goal

abbrev pub invariant-loop-k : goal.invariant-loop-k
invariant-loop-k l = all (good_pair (length l.states) l.states) (pairs_in l.pairs) ≡ all (good_pair (length l.states) l.states) (pairs_in (drop (2 * l.k) l.pairs))
