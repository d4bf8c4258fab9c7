-- `state`: the ledger's second list, check by check, for every ledger shown.
use mathlib.Core.Path.{sym, ◌∙◌}
use Rattle.ledger.specs.Refusals.{from_state}
use Rattle.ledger.specs.Config.{config_in}
use Rattle.command.specs.Numbers.{here, next}
use Rattle.command.specs.State.{is_25, is_26, is_22, is_21, is_24}
use Rattle.command.proofs.state.state.Goals as goal

pub returns-then-busy : goal.returns-then-busy
unfolding from_state
returns-then-busy c =
    let g = config_in c.args.config.now in let w = c.args.timers.now in
    λ k m L z h. sym (here _ 25 _ (sym (is_25 g L k m _ (c.busy.ensures g L z w h)) ∙ c.if-busy.true))

pub returns-then-before_first : goal.returns-then-before_first
unfolding from_state
returns-then-before_first c =
    let g = config_in c.args.config.now in let w = c.args.timers.now in
    λ k m L z h. sym (next _ 25 _ (sym (is_25 g L k m _ (c.busy.ensures g L z w h)) ∙ c.if-busy.false) ∙ here _ 26 _ (sym (is_26 g L k m _ (c.before_first.ensures L z w h)) ∙ c.if-before_first.true))

pub returns-then-lies : goal.returns-then-lies
unfolding from_state
returns-then-lies c =
    let g = config_in c.args.config.now in let w = c.args.timers.now in
    λ k m L z h. sym (next _ 25 _ (sym (is_25 g L k m _ (c.busy.ensures g L z w h)) ∙ c.if-busy.false) ∙ next _ 26 _ (sym (is_26 g L k m _ (c.before_first.ensures L z w h)) ∙ c.if-before_first.false) ∙ here _ 22 _ (sym (is_22 g L k m _ (c.lies.ensures g L z w h)) ∙ c.if-lies.true))

pub returns-then-meets21 : goal.returns-then-meets21
unfolding from_state
returns-then-meets21 c =
    let g = config_in c.args.config.now in let w = c.args.timers.now in
    λ k m L z h. sym (next _ 25 _ (sym (is_25 g L k m _ (c.busy.ensures g L z w h)) ∙ c.if-busy.false) ∙ next _ 26 _ (sym (is_26 g L k m _ (c.before_first.ensures L z w h)) ∙ c.if-before_first.false) ∙ next _ 22 _ (sym (is_22 g L k m _ (c.lies.ensures g L z w h)) ∙ c.if-lies.false) ∙ here _ 21 _ (sym (is_21 g L k m _ (c.meets21.ensures L z w h)) ∙ c.if-meets21.true))

pub returns : goal.returns
unfolding from_state
returns c =
    let g = config_in c.args.config.now in let w = c.args.timers.now in
    λ k m L z h. is_24 g L k m _ (c.no_timer.ensures g L c.args.tables.now z h) ∙ sym (next _ 25 _ (sym (is_25 g L k m _ (c.busy.ensures g L z w h)) ∙ c.if-busy.false) ∙ next _ 26 _ (sym (is_26 g L k m _ (c.before_first.ensures L z w h)) ∙ c.if-before_first.false) ∙ next _ 22 _ (sym (is_22 g L k m _ (c.lies.ensures g L z w h)) ∙ c.if-lies.false) ∙ next _ 21 _ (sym (is_21 g L k m _ (c.meets21.ensures L z w h)) ∙ c.if-meets21.false))
