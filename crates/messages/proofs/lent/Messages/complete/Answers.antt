-- Each turn tests one number and sets its bit; as many bits as records are set just where none occurs twice.
use Rattle.std.proofs.Common.{arith}
use Rattle.messages.specs.Checks.{check_start, check_range, check_number, check_on, check_end}
use Rattle.messages.proofs.lent.Messages.complete.Goals as goal

pub loop-k-init : goal.loop-k-init
loop-k-init c = let a = c.args in check_start a.most a.self.now.count a.self.now.records.now

pub returns-then-not-is_within : goal.returns-then-not-is_within
returns-then-not-is_within c =
    let a = c.args in
    let l = c.loop-k in
    check_range a.most a.self.now.count a.self.now.records.now l.k l.seen l.invariant c.loop-k-test.true c.is_within.ensures c.if-not-is_within.true

pub with-seen-requires : goal.with-seen-requires
with-seen-requires c =
    let a = c.args in
    let l = c.loop-k in
    let x = check_number a.most a.self.now.count a.self.now.records.now l.k l.seen l.invariant c.loop-k-test.true c.is_within.ensures c.if-not-is_within.false in
    (x.from, omega (arith, x.upto))

pub loop-k-preserved : goal.loop-k-preserved
loop-k-preserved c =
    let a = c.args in
    let l = c.loop-k in
    check_on a.most a.self.now.count a.self.now.records.now l.k l.seen l.invariant c.loop-k-test.true c.is_within.ensures c.if-not-is_within.false c.with-seen.ensures

pub returns : goal.returns
returns c =
    let a = c.args in
    let l = c.loop-k in
    check_end a.most a.self.now.count a.self.now.records.now l.k l.seen l.invariant c.loop-k-test.false
