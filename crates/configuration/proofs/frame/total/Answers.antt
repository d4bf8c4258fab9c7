-- The sum so far and the bytes of the queues from k on are all.
use Rattle.std.proofs.Common.{sym, ◌∙◌, arith}
use Rattle.configuration.specs.Room.{sum_on, sum_end}
use Rattle.configuration.proofs.frame.total.Goals as goal

pub loop-k-preserved : goal.loop-k-preserved
loop-k-preserved g c =
    let l = c.loop-k in
    let s = c.size.ensures in
    record {
      low = omega (arith, l.invariant.low, c.requires.small _ _ c.bytes-sum.ensures);
      so_far = λ f h. l.invariant.so_far f h ∙ sum_on f l.sum l.k c.args.shapes.now (omega arith) _ s.0 s.1 _ (h _ _ c.bytes-sum.ensures);
    }

pub returns : goal.returns
returns g c = let l = c.loop-k in λ f h. sym (l.invariant.so_far f h ∙ sum_end f l.sum l.k c.args.shapes.now (omega arith))
