-- `input`: the ledger's first list, check by check; what the frame has, and that its code is in the table, is known.
use mathlib.Core.Path.{refl, sym, ◌∙◌}
use Rattle.ledger.specs.Config.{config_in}
use Rattle.command.specs.Configured.{of, fits}
use Rattle.command.specs.Numbers.{refused}
use Rattle.command.specs.Input.{input_long, input_nobody, input_fields, input_entry_in, input_entry, input_passes}
use Rattle.command.proofs.input.input.Goals as goal

pub returns-then-wrong_length : goal.returns-then-wrong_length
returns-then-wrong_length c = let g = config_in c.args.config.now in let f = c.args.frame.now in input_long g c.args.me f c.args.u c.requires.0 _ c.wrong_length.ensures c.if-wrong_length.true

pub returns-then-nobody_asks : goal.returns-then-nobody_asks
returns-then-nobody_asks c = let g = config_in c.args.config.now in let f = c.args.frame.now in input_nobody g c.args.me f c.args.u c.requires.0 _ c.wrong_length.ensures c.if-wrong_length.false _ c.nobody_asks.ensures c.if-nobody_asks.true

pub wrong_fields-requires : goal.wrong_fields-requires
wrong_fields-requires c = (c.requires.0.long, sym c.wrong_length.ensures ∙ c.if-wrong_length.false, fits c.requires.1)

pub returns-in-Err : goal.returns-in-Err
returns-in-Err c =
    let g = config_in c.args.config.now in
    (input_fields g c.args.me c.args.frame.now c.args.u c.requires.0 _ c.wrong_length.ensures c.if-wrong_length.false _ c.nobody_asks.ensures c.if-nobody_asks.false _ (c.in-Err.ensures g (of c.requires.1)) (refused _))

pub wrong_entry-requires : goal.wrong_entry-requires
wrong_entry-requires c = let g = config_in c.args.config.now in let f = c.args.frame.now in (c.requires.1, input_entry_in g c.args.me f c.args.u c.requires.0 _ c.wrong_length.ensures c.if-wrong_length.false _ c.nobody_asks.ensures c.if-nobody_asks.false _ (c.in_default.ensures g (of c.requires.1)) refl _ c.meant_task-a.ensures (of c.requires.1))

pub returns-then-wrong_entry : goal.returns-then-wrong_entry
returns-then-wrong_entry c = let g = config_in c.args.config.now in let f = c.args.frame.now in input_entry g c.args.me f c.args.u c.requires.0 _ c.wrong_length.ensures c.if-wrong_length.false _ c.nobody_asks.ensures c.if-nobody_asks.false _ (c.in_default.ensures g (of c.requires.1)) refl _ c.meant_task-a.ensures _ c.wrong_entry.ensures c.if-wrong_entry.true

pub returns : goal.returns
returns c = let g = config_in c.args.config.now in let f = c.args.frame.now in input_passes g c.args.me f c.args.u c.requires.0 _ c.wrong_length.ensures c.if-wrong_length.false _ c.nobody_asks.ensures c.if-nobody_asks.false _ (c.in_default.ensures g (of c.requires.1)) refl _ c.meant_task-a.ensures _ c.wrong_entry.ensures c.if-wrong_entry.false
