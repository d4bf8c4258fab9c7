-- Each queue's bytes are its width times its depth.
use Rattle.std.proofs.Common.{rules, ◌*◌, ◌∙◌}
use Rattle.configuration.specs.Room.{product_sum}
use Rattle.configuration.proofs.frame.taken.Goals as goal

pub returns : goal.returns
returns c = c.total.ensures (λ w d. w * d) (λ size n h. search rules) ∙ product_sum c.args.shapes.now
