-- The states, the queues and the pairs are parts of the frame, whose length was tested; each test is one of the ledger's.
use Rattle.std.proofs.Common.{sym, ◌∙◌, arith}
use borrow.Author.Tests.{leb-true, leb-false}
use Rattle.ledger.proofs.Theorems.Checks.{never}
use Rattle.configuration.specs.Limits.{limits_of}
use Rattle.configuration.specs.Refusal.{bad_states, bad_room, by_pairs}
use Rattle.configuration.proofs.frame.good_rest.Goals as goal
use Rattle.configuration.proofs.frame.good_rest.Goals.{then-good_states, else-good_states}

pub returns-then-room-limits : goal.returns-then-room-limits
returns-then-room-limits c =
    let m = limits_of c.args.limits in
    let s = c.states-states.ensures in
    elim c.if-good_states.branch [
      | then-good_states w ↦
          let h = leb-true w.room.result m.bytes (sym w.value-is ∙ c.if-room-limits.true) in
          c.good_pairs.ensures
          ∙ by_pairs m c.args.frame.now _ s.part c.requires.0 _ w.shapes.ensures.part _ c.pairs.ensures s.whole (sym w.if-good_states.ensures) (omega (arith, h, w.room.ensures))
      | else-good_states w ↦ never (sym w.if-good_states.false ∙ sym w.value-is ∙ c.if-room-limits.true)
    ]

pub returns-else-room-limits : goal.returns-else-room-limits
returns-else-room-limits c =
    let m = limits_of c.args.limits in
    let s = c.states-states.ensures in
    elim c.if-good_states.branch [
      | then-good_states w ↦
          let h = leb-false w.room.result m.bytes (sym w.value-is ∙ c.if-room-limits.false) in
          c.if-room-limits.false ∙ bad_room m c.args.frame.now _ s.part c.requires.0 _ w.shapes.ensures.part (omega (arith, h, w.room.ensures))
      | else-good_states w ↦ c.if-room-limits.false ∙ bad_states m c.args.frame.now _ s.part (sym w.if-good_states.ensures)
    ]
