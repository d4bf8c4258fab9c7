-- A frame of another length, or with too many, is bad; else it lies within the block, and the rest decides.
use native.Mathlib.Omega.{arith}
use Prim.Native.Nat.{◌+◌, ◌≤◌}
use lib.ListN.{length}
use mathlib.Core.Path.{sym, ap, ◌∙◌, subst}
use Rattle.ledger.specs.Config.{Limits, controller, longest}
use Rattle.configuration.specs.Limits.{limits_of, Made, controller_made}
use Rattle.configuration.specs.Block.{frame_rule, counts_rule, counts_fail}
use Rattle.parts.specs.Parts.{frame_at, kept_frame}
use Rattle.mcx11.specs.Framed.{long_config, kept_within}
use Rattle.feeding.specs.Replies.{lends_as}
use Rattle.feeding.proofs.replying.by_frame.Goals as goal

pub counts-requires : goal.counts-requires
counts-requires c = subst (λ (k : Limits). frame_at + longest k + 4 ≤ length c.args.config.now) (sym c.controller-limits.ensures) (long_config controller c.args.config.now c.requires)

pub returns-then-not-counts : goal.returns-then-not-counts
returns-then-not-counts c =
    ap (λ (k : Limits). frame_rule k (kept_frame c.args.config.now)) (sym c.controller-limits.ensures) ∙ counts_fail (limits_of c.controller-limits.result) (kept_frame c.args.config.now) (sym c.counts.ensures ∙ c.if-not-counts.true)

pub kept_frame-requires : goal.kept_frame-requires
kept_frame-requires c =
    let k = kept_within _ c.args.config.now (subst (λ (k : Limits). frame_at + longest k + 4 ≤ length c.args.config.now) (sym c.controller-limits.ensures) (long_config controller c.args.config.now c.requires)) (sym c.counts.ensures ∙ c.if-not-counts.false) in
    (omega (arith, k), omega (arith, k))

pub lent-requires : goal.lent-requires
lent-requires c =
    (subst Made (sym c.controller-limits.ensures) controller_made, ap (counts_rule (limits_of c.controller-limits.result)) c.kept_frame.ensures ∙ sym c.counts.ensures ∙ c.if-not-counts.false)

pub returns : goal.returns
returns c = lends_as c.controller-limits.ensures c.kept_frame.ensures c.lent.result c.lent.ensures
