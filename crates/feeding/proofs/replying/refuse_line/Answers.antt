-- A frame that keeps the rule lays out the tables, so the answer is written, for the task that runs; another block is not asked of.
use Rattle.std.proofs.Common.{sym, ◌∙◌, arith}
use Rattle.tables.specs.Layout.{fitting}
use Rattle.ledger.proofs.Theorems.Checks.{never}
use Rattle.ledger.specs.Config.{controller}
use Rattle.configuration.specs.Limits.{controller_made}
use Rattle.parts.specs.Parts.{kept_frame}
use Rattle.configuration.specs.Block.{frame_rule_lem}
use Rattle.mcx11.specs.Framed.{tables_within, slots_within}
use Rattle.feeding.specs.Replies.{refuses_line}
use Rattle.feeding.proofs.replying.refuse_line.Goals as goal

pub tell-requires : goal.tell-requires
tell-requires c =
    let g = c.in-Some.ensures in
    let r = frame_rule_lem controller (kept_frame c.args.config.now) g.0 in
    let t = tables_within controller controller_made _ r _ g.1 in
    let z = slots_within controller controller_made _ r _ g.1 in
    (fitting g.1.laid (omega arith), omega (arith, t, c.requires.1), omega (arith, z, c.requires.2), c.requires.3)

pub returns-in-Some : goal.returns-in-Some
returns-in-Some c = refuses_line c.args.config.now c.args.tables.now c.args.slots.now c.args.answer.now _ _ c.in-Some.ensures.1 c.tell.ensures

pub returns-in_default : goal.returns-in_default
returns-in_default c = λ l w h v. never (sym c.in_default.ensures ∙ h)
