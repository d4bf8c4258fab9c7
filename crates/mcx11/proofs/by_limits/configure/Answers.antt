-- The sizes, then the configuration's number: each way out promises its case.
use Rattle.std.proofs.Common.{ℕ, refl, sym, ap, ◌∙◌, arith}
use Rattle.ledger.specs.Session as session
use Rattle.answer.specs.Written.{written}
use Rattle.refusals.specs.Numbers.{number_some}
use Rattle.configuration.specs.Limits.{limits_of}
use Rattle.mcx11.specs.Contract.{memory}
use Rattle.mcx11.specs.Sizes.{full_sizes, full_told}
use Rattle.mcx11.specs.Begun.{configure_short, configure_refused, configure_accepted}
use Rattle.mcx11.proofs.by_limits.configure.Goals as goal

pub returns-then-not-has_sizes : goal.returns-then-not-has_sizes
returns-then-not-has_sizes c =
    let a = c.args in
    let k = limits_of a.limits in
    configure_short k a.frame.now a.config.now a.tables.now a.slots.now a.timers.now a.answer.now
    (full_told k _ c.sizes_of-n.ensures a.config.now a.tables.now a.slots.now a.timers.now a.answer.now _ _ c.has_sizes.ensures c.if-not-has_sizes.true)

pub refuse_configuration-requires : goal.refuse_configuration-requires
refuse_configuration-requires c =
    let a = c.args in
    let k = limits_of a.limits in
    let full = full_told k _ c.sizes_of-n.ensures a.config.now a.tables.now a.slots.now a.timers.now a.answer.now _ _ c.has_sizes.ensures c.if-not-has_sizes.false in
    (full_sizes k (memory a.config.now a.tables.now a.slots.now a.timers.now a.answer.now) full).answer

pub returns-in-Err : goal.returns-in-Err
returns-in-Err c =
    let a = c.args in
    let k = limits_of a.limits in
    let full = full_told k _ c.sizes_of-n.ensures a.config.now a.tables.now a.slots.now a.timers.now a.answer.now _ _ c.has_sizes.ensures c.if-not-has_sizes.false in
    configure_refused k a.frame.now a.config.now a.tables.now a.slots.now a.timers.now a.answer.now _ _
    record { config = refl; tables = refl; slots = refl; timers = refl; answer = c.refuse_configuration.auto.answer } full c.in-Err.ensures (λ z. omega (arith, number_some c.in-Err.refusal, z))
    (c.refuse_configuration.ensures ∙ ap (λ (n : ℕ). written (session.refused_configuration n) a.answer.now) c.from.ensures)

pub begin-requires : goal.begin-requires
begin-requires c =
    let a = c.args in
    let k = limits_of a.limits in
    (c.requires, sym c.in_default.ensures, full_told k _ c.sizes_of-n.ensures a.config.now a.tables.now a.slots.now a.timers.now a.answer.now _ _ c.has_sizes.ensures c.if-not-has_sizes.false)

pub returns : goal.returns
returns c =
    let a = c.args in
    let k = limits_of a.limits in
    let b = c.begin.auto in
    configure_accepted k a.frame.now a.config.now a.tables.now a.slots.now a.timers.now a.answer.now 0 _ record { config = b.config; tables = b.tables; slots = b.slots; timers = b.timers; answer = b.answer }
    (full_told k _ c.sizes_of-n.ensures a.config.now a.tables.now a.slots.now a.timers.now a.answer.now _ _ c.has_sizes.ensures c.if-not-has_sizes.false) c.in_default.ensures refl c.begin.ensures
