-- `tick` stores the ticks left after one more; the ledger's ticks are what is left of K.
use Rattle.std.proofs.Common.{rules}
use Rattle.clock.specs.Ticks.{tick_tells, tick_does}
use Rattle.clock.proofs.tick.Goals as goal

pub returns : goal.returns
returns c = let a = c.args.tables.now in
    let l = c.ticks_left-left in
    let t = c.count_tick-tock in
    record {
      tells = λ g L z w h. tick_tells g a.shape L a.bytes.now z w h l.result t.new.ticks.left t.result l.ensures.2 t.ensures.0;
      does = record {
        reference = search rules;
        shape = search rules;
        does = λ tidy g L z w h. tick_does g a.shape L a.bytes.now z w h l.result t.new.ticks.left t.result l.ensures.2 t.ensures.0;
      };
    }
