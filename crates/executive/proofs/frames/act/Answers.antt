-- `act` carries out and settles, each over the ledger that the call before left.
use Rattle.std.proofs.Common.{rules}
use Rattle.executive.specs.Stepped.{Acts}
use Rattle.executive.specs.Lent.{back, going}
use Rattle.executive.proofs.frames.act.Goals as goal

pub returns : goal.returns
returns c =
    let a = c.args in
    let w = a.timers.now in
    back {R = λ g s d z d' z'. Acts g s a.me a.frame.now d z w d' z' c.carried.new.timers c.settle.result} (going c.carried.ensures c.settle.ensures (λ carries settles. record {
      low = settles.0;
      few = settles.1;
      ends = λ L q f h. settles.2 _ _ _ (carries _ L q f h);
    })) (search rules) (search rules)
