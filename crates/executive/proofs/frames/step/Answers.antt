-- `step` asks for the number; refused, it answers for the task that runs; accepted, it acts, and answers for the task that then runs.
use Prim.Native.Nat.{ℕ}
use mathlib.Core.Path.{refl, ap, ◌∙◌}
use native.Mathlib.Omega.{arith}
use Rattle.std.proofs.Common.{rules}
use Rattle.ledger.specs.Config.{config_in}
use Rattle.tables.specs.Layout.{still_fits, few}
use Rattle.tables.specs.Lent.{back}
use Rattle.ledger.specs.Session.{answer}
use Rattle.answer.specs.Written.{written}
use Rattle.command.specs.Numbers.{refused}
use Rattle.command.specs.Configured.{of}
use Rattle.executive.specs.Suits.{tables, others, configuration, slots, timers}
use Rattle.executive.specs.Carried.{long_passed}
use Rattle.executive.specs.Stepped.{room_found, step_refused, step_accepted}
use Rattle.executive.proofs.frames.step.Goals as goal

pub refusal-requires : goal.refusal-requires
refusal-requires c = let l = others c.requires.0 in (configuration l, timers l, c.running-me.ensures.0)

pub write-requires : goal.write-requires
write-requires c = let l = c.requires.0 in (tables l, slots (others l), c.requires.1, c.running-me.ensures.0)

pub returns-in-Err : goal.returns-in-Err
returns-in-Err c =
    let a = c.args in
    let g = config_in a.config.now in
    step_refused g a.shape a.frame.now a.tables.now a.slots.now a.timers.now a.answer.now _ _ c.running-me.ensures.1 c.in-Err.ensures.refuses _ (refused _)
    (λ L h r. c.write.ensures g L _ h r ∙ ap (λ (n : ℕ). written (answer n 0 L) a.answer.now) c.from.ensures)

pub act-settled-requires : goal.act-settled-requires
act-settled-requires c =
    let a = c.args in
    let l = others c.requires.0 in
    let me = c.running-me in
    let r = c.in-Ok.ensures.refuses in (
      long_passed (config_in a.config.now) me.result a.frame.now (r.good refl),
      c.in-Ok.ensures.code,
      l,
      record {
        low = me.ensures.0;
        input = r.good refl;
        room = room_found (config_in a.config.now) a.shape a.frame.now a.tables.now a.slots.now a.timers.now a.answer.now _ _ me.ensures.1 r refl (of (configuration l)) (tables c.requires.0) (slots l) (timers l) c.requires.2;
      },
    )

pub overflow_cast-reissues : goal.overflow_cast-reissues
overflow_cast-reissues c = omega (arith, few (tables c.requires.0), c.act-settled.ensures.does.few)

pub write-requires-2 : goal.write-requires-2
write-requires-2 c = let l = c.requires.0 in let t = c.act-settled in (still_fits (tables l) (omega arith), omega (arith, slots (others l), t.auto.slots), c.requires.1, t.ensures.does.low)

pub returns : goal.returns
returns c =
    let a = c.args in
    let g = config_in a.config.now in
    let acts = back c.act-settled.ensures (search rules) in
    step_accepted g a.shape a.frame.now a.tables.now a.slots.now a.timers.now a.answer.now _ _ c.running-me.ensures.1 c.in-Ok.ensures.refuses _ _ _ _ _ refl acts (λ M h r. c.write-2.ensures g M _ h r)
