-- The sizes, the marks, then how much there is of each: each way out says what the memory is.
use Rattle.std.proofs.Common.{sym, ◌∙◌}
use Rattle.ledger.proofs.Theorems.Checks.{never}
use Rattle.configuration.specs.Limits.{limits_of}
use Rattle.mcx11.specs.Tested.{limits_short, limits_sized, limits_long, limits_unmarked, limits_counted}
use Rattle.mcx11.proofs.lent.meets_limits.Goals as goal
use Rattle.mcx11.proofs.lent.meets_limits.Goals.{then-has_sizes, else-has_sizes}

pub is_marked-requires : goal.is_marked-requires
is_marked-requires c = let a = c.args in limits_sized (limits_of a.limits) a.config.now a.tables.now a.slots.now a.timers.now a.answer _ c.requires _ c.has_sizes.ensures c.if-has_sizes.true

pub counts-requires : goal.counts-requires
counts-requires c =
    let a = c.args in
    elim c.if-has_sizes.branch [
      | then-has_sizes w ↦ limits_long (limits_of a.limits) a.config.now a.tables.now a.slots.now a.timers.now a.answer _ c.requires _ c.has_sizes.ensures w.if-has_sizes.true
      | else-has_sizes w ↦ never (sym w.if-has_sizes.false ∙ sym w.value-is ∙ c.if-is_marked.true)
    ]

pub returns-then-is_marked : goal.returns-then-is_marked
returns-then-is_marked c =
    let a = c.args in
    elim c.if-has_sizes.branch [
      | then-has_sizes w ↦
          limits_counted (limits_of a.limits) a.config.now a.tables.now a.slots.now a.timers.now a.answer _ c.requires _ c.has_sizes.ensures w.if-has_sizes.true _ w.is_marked.ensures (sym w.value-is ∙ c.if-is_marked.true) _ c.counts.ensures
      | else-has_sizes w ↦ never (sym w.if-has_sizes.false ∙ sym w.value-is ∙ c.if-is_marked.true)
    ]

pub returns-else-is_marked : goal.returns-else-is_marked
returns-else-is_marked c =
    let a = c.args in
    elim c.if-has_sizes.branch [
      | then-has_sizes w ↦
          λ x e. limits_unmarked (limits_of a.limits) a.config.now a.tables.now a.slots.now a.timers.now a.answer _ c.requires _ c.has_sizes.ensures w.if-has_sizes.true _ w.is_marked.ensures (sym w.value-is ∙ c.if-is_marked.false) x e ∙ sym c.if-is_marked.false
      | else-has_sizes w ↦
          λ x e. limits_short (limits_of a.limits) a.config.now a.tables.now a.slots.now a.timers.now a.answer _ c.requires _ c.has_sizes.ensures w.if-has_sizes.false x e ∙ sym c.if-is_marked.false
    ]
