-- What the limits are asked for, then the executive over the blocks.
use Rattle.std.proofs.Common.{refl, ap, ◌∙◌, arith}
use Rattle.configuration.specs.Limits.{limits_of}
use Rattle.configuration.specs.Block.{counts_rule}
use Rattle.mcx11.proofs.Inside.{counts_here, kept_inside, sized_here, frame_met, frame_unmet}
use Rattle.mcx11.proofs.by_limits.frame.Goals as goal

pub returns-then-not-meets_limits : goal.returns-then-not-meets_limits
returns-then-not-meets_limits c =
    let a = c.args in
    frame_unmet (limits_of a.limits) a.frame.now a.config.now a.tables.now a.slots.now a.timers.now a.answer.now (λ x e. c.meets_limits.ensures x e ∙ c.if-not-meets_limits.true)

pub kept_frame-kept-requires : goal.kept_frame-kept-requires
kept_frame-kept-requires c =
    let a = c.args in
    let met = c.meets_limits.ensures a.answer.now refl ∙ c.if-not-meets_limits.false in
    let k = kept_inside (limits_of a.limits) a.frame.now a.config.now a.tables.now a.slots.now a.timers.now a.answer.now met in
    (omega (arith, k), omega (arith, k))

pub inside-requires : goal.inside-requires
inside-requires c =
    let a = c.args in
    let k = limits_of a.limits in
    let met = c.meets_limits.ensures a.answer.now refl ∙ c.if-not-meets_limits.false in (
      c.requires,
      ap (counts_rule k) c.kept_frame-kept.ensures ∙ counts_here k a.frame.now a.config.now a.tables.now a.slots.now a.timers.now a.answer.now met,
      sized_here k a.frame.now a.config.now a.tables.now a.slots.now a.timers.now a.answer.now met,
    )

pub returns : goal.returns
returns c =
    let a = c.args in
    let k = c.inside.auto in
    let met = c.meets_limits.ensures a.answer.now refl ∙ c.if-not-meets_limits.false in
    frame_met (limits_of a.limits) a.frame.now a.config.now a.tables.now a.slots.now a.timers.now a.answer.now met _ c.kept_frame-kept.ensures _ _ _ _ _
    record { config = refl; tables = k.tables; slots = k.slots; timers = k.timers; answer = k.answer } c.inside.ensures
