-- The limits are the controller's; a frame of a good length has what is in front of the pairs.
use Rattle.std.proofs.Common.{length, sym, subst, arith}
use Rattle.ledger.proofs.Theorems.Configured.{long}
use Rattle.configuration.specs.Limits.{Made, controller_made}
use Rattle.configuration.proofs.frame.refusal.Goals as goal

pub good_rest-requires : goal.good_rest-requires
good_rest-requires c = (
  subst Made (sym c.controller-limits.ensures) controller_made,
  omega (arith, c.front.ensures, (long c.front.result (length c.args.frame.now) (sym c.if-not-good_length.ensures)).front),
)
