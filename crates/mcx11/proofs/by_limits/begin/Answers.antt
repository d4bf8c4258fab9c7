-- The blocks are marked, the frame is kept, the parts show the fresh ledger; the answer is for the task that runs there.
use native.Mathlib.Omega.{arith}
use mathlib.Core.Path.{◌∙◌}
use Rattle.tables.specs.Layout.{fitting}
use Rattle.configuration.specs.Limits.{limits_of}
use Rattle.configuration.specs.Within.{accepted_first}
use Rattle.mcx11.specs.Contract.{memory}
use Rattle.mcx11.specs.Sizes.{full_sizes, full_marked}
use Rattle.mcx11.specs.Begun.{begin_fits, begin_short, begun}
use Rattle.mcx11.proofs.by_limits.begin.Goals as goal

pub shape_of-shape-requires : goal.shape_of-shape-requires
shape_of-shape-requires c = accepted_first (limits_of c.args.limits) c.args.frame.now c.requires.1

pub mark_blocks-requires : goal.mark_blocks-requires
mark_blocks-requires c = full_marked (limits_of c.args.limits) _ c.sizes_of-n.ensures (memory c.args.config.now c.args.tables.now c.args.slots.now c.args.timers.now c.args.answer.now) (full_sizes (limits_of c.args.limits) (memory c.args.config.now c.args.tables.now c.args.slots.now c.args.timers.now c.args.answer.now) c.requires.2)

pub keep_frame-requires : goal.keep_frame-requires
keep_frame-requires c =
    let o = c.shape_of-shape.ensures in
    let b = begin_fits (limits_of c.args.limits) c.requires.0 c.args.frame.now c.requires.1 _ (o) in
    let n = full_sizes (limits_of c.args.limits) (memory c.args.config.now c.args.tables.now c.args.slots.now c.args.timers.now c.args.answer.now) c.requires.2 in
    (omega (arith, begin_short (limits_of c.args.limits) c.requires.0 c.args.frame.now c.requires.1 _ o), omega (arith, b.0, n.config, c.mark_blocks.auto.config))

pub place-requires : goal.place-requires
place-requires c =
    let o = c.shape_of-shape.ensures in
    let b = begin_fits (limits_of c.args.limits) c.requires.0 c.args.frame.now c.requires.1 _ (o) in
    let n = full_sizes (limits_of c.args.limits) (memory c.args.config.now c.args.tables.now c.args.slots.now c.args.timers.now c.args.answer.now) c.requires.2 in
    let k = c.mark_blocks.auto in
    (accepted_first (limits_of c.args.limits) c.args.frame.now c.requires.1, o, omega (arith, b.1, n.tables, k.tables), omega (arith, b.2, n.slots, k.slots), omega (arith, b.3, n.timers, k.timers))

pub tell-requires : goal.tell-requires
tell-requires c =
    let o = c.shape_of-shape.ensures in
    let b = begin_fits (limits_of c.args.limits) c.requires.0 c.args.frame.now c.requires.1 _ (o) in
    let n = full_sizes (limits_of c.args.limits) (memory c.args.config.now c.args.tables.now c.args.slots.now c.args.timers.now c.args.answer.now) c.requires.2 in
    let k = c.mark_blocks.auto in
    let p = c.place.auto in
    (fitting o.laid (omega arith), omega (arith, b.1, n.tables, k.tables, p.tables), omega (arith, b.2, n.slots, k.slots, p.slots), n.answer)

pub returns : goal.returns
returns c =
    let k = c.mark_blocks.auto in
    let p = c.place.auto in
    begun (limits_of c.args.limits) c.requires.0 c.args.frame.now c.requires.1 _ c.shape_of-shape.ensures c.args.config.now c.args.tables.now c.args.slots.now c.args.timers.now c.args.answer.now c.requires.2 _ c.sizes_of-n.ensures _ _ _ _ _ _ _ _ _ c.mark_blocks.ensures c.keep_frame.ensures c.place.ensures c.tell.ensures
    record { config = c.keep_frame.auto.config ∙ k.config; tables = p.tables ∙ k.tables; slots = p.slots ∙ k.slots; timers = p.timers ∙ k.timers; answer = c.tell.auto.answer }
