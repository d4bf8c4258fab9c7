-- The frame is the first bytes behind its length.
use mathlib.Core.Path.{ap, ◌∙◌}
use Rattle.configuration.specs.Limits.{limits_of}
use Rattle.configuration.specs.Block.{counts_rule}
use Rattle.mcx11.specs.Framed.{frame_first}
use Rattle.mcx11.proofs.lent.counts.Goals as goal

pub returns : goal.returns
returns c = c.counts.ensures ∙ ap (counts_rule (limits_of c.args.limits)) (frame_first c.args.config.now _ c.frame_length-n.ensures.0)
