-- The frame is accepted, so its states lie within it and its tables fit; what is written shows the fresh ledger.
use Rattle.std.proofs.Common.{sym, ◌∙◌, arith}
use Rattle.configuration.specs.Started.{frame_length, states_in_front, tasks_in_lem, start_fits, started}
use Rattle.configuration.proofs.fresh.start.Goals as goal

pub states-requires : goal.states-requires
states-requires c = states_in_front c.args.frame.now c.requires.0

pub bounds-frame-5 : goal.bounds-frame-5
bounds-frame-5 c = omega (arith, frame_length c.args.frame.now c.requires.0)

pub fresh_tables-requires : goal.fresh_tables-requires
fresh_tables-requires c =
    let a = c.args in
    let t = tasks_in_lem a.frame.now c.requires.0 a.shape c.requires.1 in
    (start_fits a.frame.now c.requires.0 a.shape c.requires.1 _ c.requires.2, c.states.ensures.whole ∙ sym t.1)

pub returns : goal.returns
returns c =
    let a = c.args in
    let t = c.fresh_tables in
    started a.frame.now c.requires.0 a.shape c.requires.1 _ _ c.states.ensures.part t.ensures a.slots.now _ a.timers.now _ c.fill.ensures c.fill-2.ensures (omega (arith, c.requires.2, t.auto)) c.requires.3 c.requires.4
