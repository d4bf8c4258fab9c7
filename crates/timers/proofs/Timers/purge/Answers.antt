-- `purge`: what it keeps of all is what it keeps of those that are left, and of these each from timer k on stays.
use mathlib.Core.Path.{refl}
use Prim.Native.Nat.{◌-◌}
use native.Mathlib.Omega.{arith}
use Rattle.timers.specs.Loops.{purge_start, purge_on, purge_out, purge_end}
use Rattle.std.proofs.Common.{rules}
use Rattle.timers.proofs.Timers.purge.Goals as goal

pub loop-k-init : goal.loop-k-init
loop-k-init c = (omega arith, purge_start _ _ _, λ u. u, search rules)

pub is_left-requires : goal.is_left-requires
is_left-requires c = omega (arith, c.loop-k.invariant.1.0)

pub loop-k-preserved-then-not-is_left : goal.loop-k-preserved-then-not-is_left
loop-k-preserved-then-not-is_left c =
    let l = c.loop-k in
    let t = c.is_left in
    let r = c.remove.ensures in
    let n = r.lent.2 in
    (omega arith, rw n (purge_out _ (λ x y u. refl) l.self.count l.k (l.k - 1) l.self.rows.now _ (omega arith) l.invariant.1 t.result t.ensures c.remove.new.self.rows.now c.if-not-is_left.true (rw n at r.means)), λ u. r.upright (l.invariant.2 u), search rules)

pub loop-k-preserved : goal.loop-k-preserved
loop-k-preserved c =
    let l = c.loop-k in
    let t = c.is_left in
    (l.invariant.0, purge_on _ (λ x y u. refl) l.self.count l.k (l.k - 1) l.self.rows.now _ (omega arith) l.invariant.1 t.result t.ensures c.if-not-is_left.false, l.invariant.2, l.invariant.3)

pub returns : goal.returns
returns c = let l = c.loop-k in
    record { means = (l.invariant.0, purge_end _ l.self.count l.k l.self.rows.now _ l.invariant.1 (omega arith)); upright = l.invariant.2; lent = l.invariant.3 }
