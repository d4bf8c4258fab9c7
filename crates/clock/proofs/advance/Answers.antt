-- `advance`: a tick in the tables, and where a tock passes with it, one for every timer.
use Rattle.tables.specs.Lent.{by}
use Rattle.clock.specs.Tocks.{no_tock, a_tock}
use Rattle.clock.proofs.advance.Goals as goal

pub returns-then-tick : goal.returns-then-tick
returns-then-tick c =
    let a = c.args in
    let b = a.tables.now in
    let t = c.tick in
    let p = c.pass in
    let q = rw t.ensures.does.shape at (p.ensures) in
    by t.ensures.does (λ does. a_tock b.shape b.bytes.now a.timers.now t.new.tables.bytes.now t.result c.if-tick.true t.ensures.tells does p.new.timers p.result q.0 q.1 q.2)

pub returns : goal.returns
returns c =
    let a = c.args in
    let b = a.tables.now in
    let t = c.tick in
    by t.ensures.does (λ does. no_tock b.shape b.bytes.now a.timers.now t.new.tables.bytes.now t.result c.if-tick.false t.ensures.tells does)
