-- What is left to test is the states from here on.
use Rattle.std.proofs.Common.{◌≡◌, leb, drop}
use Rattle.ledger.specs.Lists.{all}
use Rattle.configuration.proofs.frame.good_states.Given as goal

abbrev pub invariant-loop-state : goal.invariant-loop-state
invariant-loop-state l = all (λ s. leb s 1) l.states ≡ all (λ s. leb s 1) (drop l.state-index l.states)
