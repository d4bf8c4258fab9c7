-- The first stretch has the first w records, and what leaves is within the sum.
use Rattle.std.proofs.Common.{◌≡◌, arith, ap, ◌∙◌, sym, length-take, sum}
use Rattle.std.proofs.lemmas.List.{take-map}
use Rattle.stretch.specs.declared.Record.{Record}
use Rattle.stretch.specs.Busiest.{counts, stretch_sum}
use Rattle.stretch.proofs.Sums.{slides}
use Rattle.stretch.proofs.walk.over.Goals as goal

pub loop-before-init : goal.loop-before-init
loop-before-init c =
    let e : c.reissues-sum.result ≡ stretch_sum c.args.w (counts c.args.records.now) 0 = c.reissues-sum.ensures.summed ∙ ap sum (sym (take-map (λ (r : Record). r.reissues) c.args.w c.args.records.now)) in
    (e, omega (arith, length-take c.args.w c.args.records.now), ap (λ n. record { sum = n; place = 0 }) e)

pub overflow_sub-sum : goal.overflow_sub-sum
overflow_sub-sum c = omega (arith, slides c.args.w c.args.records.now c.loop-before.before c.loop-before-test.true)
