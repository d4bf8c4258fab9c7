-- Nothing was found in the task's mailbox; or its first such record was, and the region came back without it, the count one less.
use native.Mathlib.Omega.{arith}
use Rattle.std.proofs.Common.{rules}
use Rattle.messages.specs.Pending.{letter}
use Rattle.tables.specs.Lent.{stays}
use Rattle.mailboxes.specs.Received.{view_received, taken}
use Rattle.mailboxes.specs.Mail.{lies, bytes_length}
use Rattle.mailboxes.specs.Operations.{take_none, take_some, take_done}
use Rattle.mailboxes.proofs.take.Goals as goal

pub returns-in_default : goal.returns-in_default
unfolding view_received taken
returns-in_default c =
    let a = c.args in
    let b = a.tables.now in
    let m = c.pending-pending in
    let e = m.ensures in
    record {
      tells = λ g L z w h. take_none g b.shape L b.bytes.now z w h m.result.count e.count a.t c.requires a.from (rw (e.tasks, e.records) at c.in_default.ensures);
      does = stays (λ tidy g L z w h. h);
    }

pub slice_bounds-remove-count : goal.slice_bounds-remove-count
slice_bounds-remove-count c = (lies c.args.tables.now.fits).start

pub remove-requires : goal.remove-requires
remove-requires c = (c.in-Some.ensures.inside, omega (arith, bytes_length c.args.tables.now.bytes.now c.args.tables.now.fits, c.pending-pending.ensures.few))

pub overflow_cast-tables : goal.overflow_cast-tables
overflow_cast-tables c = omega (arith, (lies c.args.tables.now.fits).most, c.pending-pending.ensures.few)

pub bounds-tables-1 : goal.bounds-tables-1
bounds-tables-1 c = omega (arith, (lies c.args.tables.now.fits).counted)

pub returns : goal.returns
unfolding view_received taken
returns c =
    let a = c.args in
    let b = a.tables.now in
    let m = c.pending-pending in
    let e = m.ensures in
    let k = c.in-Some in
    let f = rw (e.tasks, e.records) at k.ensures in
    let p = c.load-message in
    let q = c.remove in
    record {
      tells = λ g L z w h. take_some g b.shape L b.bytes.now z w h m.result.count e.count a.t c.requires e.few a.from k.k f (letter p.result.number p.result.sender p.result.semaphore) (rw e.records at p.ensures);
      does = record {
        reference = search rules;
        shape = search rules;
        does = λ tidy g L z w h. take_done g b.shape L b.bytes.now z w h m.result.count e.count a.t c.requires e.few a.from k.k f q.new.b q.auto.b q.ensures;
      };
    }
