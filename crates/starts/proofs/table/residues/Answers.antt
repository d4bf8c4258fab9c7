-- One timer more: its period is in range, and its residue stands where it is put.
use Rattle.std.proofs.Common.{sym, ◌∙◌, subst, arith, below_more, length-set, get_or-set_same, get_or-set_other}
use Rattle.starts.specs.Decided.{holds}
use Rattle.starts.specs.Starts.{timer_at}
use Rattle.starts.specs.Table.{Beside}
use Rattle.starts.proofs.table.residues.Goals as goal

pub loop-k-preserved : goal.loop-k-preserved
loop-k-preserved c =
    let v = c.loop-k.invariant in
    let rs = c.loop-k.residues in
    let k = c.loop-k.k in
    let ts = c.args.timers.now in
    let p = c.args.period in (
      length-set rs k c.beside.result ∙ v.0,
      below_more _ k v.1 (holds c.if-not-in_range-2.false c.in_range-in-loop-k.ensures),
      below_more _ k
          (λ j l. subst (Beside (timer_at ts j) p) (sym (get_or-set_other rs k j c.beside.result _ (omega (arith, l)))) (v.2 j l))
          (subst (Beside (timer_at ts k) p) (sym (get_or-set_same rs k c.beside.result _ (omega (arith, c.loop-k-test.true, v.0)))) c.beside.ensures),
    )
