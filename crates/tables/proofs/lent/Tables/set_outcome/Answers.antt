-- `set_outcome` writes four bytes of a record, which lies behind the number of messages.
use Prim.Native.Nat.{ℕ, ◌+◌, ◌-◌, ◌*◌}
use native.Mathlib.Omega.{arith}
use Rattle.std.proofs.Common.{rules}
use Rattle.tables.specs.Layout.{count_at, laid, record_in_lem}
use Rattle.tables.specs.Stored.{before_stays, outcome_lent}
use Rattle.tables.proofs.lent.Tables.set_outcome.Goals as goal

pub overflow_mul-at : goal.overflow_mul-at
overflow_mul-at c = omega (arith, record_in_lem c.args.self.now.fits c.args.t c.requires.0)

pub overflow_add-at : goal.overflow_add-at
overflow_add-at c = omega (arith, record_in_lem c.args.self.now.fits c.args.t c.requires.0)

pub overflow_add-end : goal.overflow_add-end
overflow_add-end c = omega (arith, record_in_lem c.args.self.now.fits c.args.t c.requires.0)

pub returns-clause-does : goal.returns-clause-does
returns-clause-does c =
    let a = c.args in
    let b = a.self.now in
    let p = c.put_outcome in
    record {
      reference = search rules;
      shape = search rules;
      does = λ tidy g L z w h. outcome_lent g b.shape L b.bytes.now z w h a.t c.requires.0 p.new.row a.o c.requires.1 p.ensures;
    }

pub returns-clause-count : goal.returns-clause-count
returns-clause-count c =
    let b = c.args.self.now in
    let at : ℕ = b.shape.recordat + (c.args.t - 1) * 6 in
    before_stays at (at + 6 - at) count_at b.bytes.now c.put_outcome.new.row (omega (arith, (laid b.fits).records)) (omega (arith, record_in_lem b.fits c.args.t c.requires.0))
