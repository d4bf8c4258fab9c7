-- There is room; the region came back with the message's record in it, and the count is one more.
use native.Mathlib.Omega.{arith}
use Rattle.std.proofs.Common.{rules}
use Rattle.mailboxes.specs.Mail.{lies, bytes_bounded}
use Rattle.mailboxes.specs.Operations.{insert_done}
use Rattle.mailboxes.proofs.insert.Goals as goal

pub bounds-tables-1 : goal.bounds-tables-1
bounds-tables-1 c = (lies c.args.tables.now.fits).counted

pub slice_bounds-insert-count : goal.slice_bounds-insert-count
slice_bounds-insert-count c = (lies c.args.tables.now.fits).start

pub insert-requires : goal.insert-requires
insert-requires c =
    let t = c.requires.0 in
    let b = c.args.tables.now in
    (bytes_bounded b.bytes.now b.fits (omega (arith, c.count_of-n.ensures.0, c.requires.1)), omega (arith, t.0, t.1), omega (arith, t.0, t.1))

pub overflow_add-tables : goal.overflow_add-tables
overflow_add-tables c =
    omega (arith, (lies c.args.tables.now.fits).most, c.count_of-n.ensures.1)

pub overflow_cast-tables : goal.overflow_cast-tables
overflow_cast-tables c =
    omega (arith, (lies c.args.tables.now.fits).most, c.count_of-n.ensures.1)

pub bounds-tables-1-2 : goal.bounds-tables-1-2
bounds-tables-1-2 c = omega (arith, (lies c.args.tables.now.fits).counted)

pub returns : goal.returns
returns c =
    let a = c.args in
    let b = a.tables.now in
    let n = c.count_of-n in
    let i = c.insert in
    record {
      reference = search rules;
      shape = search rules;
      does = λ tidy g L z w h. insert_done g b.shape L b.bytes.now z w h n.result n.ensures.0 a.to c.requires.0 a.message.number a.message.sender a.message.semaphore i.new.b (omega (arith, n.ensures.0, c.requires.1)) i.auto.b i.ensures;
    }
