-- `settle_open` issues again until the running task has no open request, 2T times at most, as the ledger's fuel has it.
use native.Mathlib.Omega.{arith}
use mathlib.Core.Path.{◌≡◌, refl, subst, ◌∙◌}
use Prim.Native.Nat.{ℕ, ◌*◌}
use Rattle.tables.specs.Layout.{few}
use Rattle.ledger.specs.Config.{config_in}
use Rattle.executive.specs.Lent.{again, by, going, stays}
use Rattle.executive.specs.Kept.{Kept, runs_so, kept_start, kept_next, kept_stop, kept_out}
use Rattle.executive.proofs.settling.settle_open.Goals as goal

pub overflow_mul-limit : goal.overflow_mul-limit
overflow_mul-limit c = omega (arith, few c.args.lent.now.tables.now.fits)

pub loop-n-init : goal.loop-n-init
loop-n-init c =
    let b = c.args.lent.now in
    (c.requires.0, c.requires.1, stays (kept_start (config_in b.config.now) b.tables.now.shape b.tables.now.bytes.now b.slots.now))

pub reissue-requires : goal.reissue-requires
reissue-requires c = let l = c.loop-n in rw l.invariant.2.tables.shape l.invariant.0

pub returns-then-not-is_open : goal.returns-then-not-is_open
returns-then-not-is_open c =
    let b = c.args.lent.now in
    let g = config_in b.config.now in
    let s = b.tables.now.shape in
    let l = c.loop-n in
    let e = c.reissue.ensures.tables.shape ∙ l.invariant.2.tables.shape in
    let r = rw e at c.running-running.ensures in
    let o = rw e at c.is_open.ensures in
    again (going l.invariant.2 c.reissue.ensures (λ kept turn.
    let k = kept_next g s b.tables.now.bytes.now b.slots.now l.lent.tables.now.bytes.now l.lent.slots.now l.n kept l.running l.invariant.1 _ _ turn in
    kept_stop g s b.tables.now.bytes.now b.slots.now _ _ _ k _ (runs_so s _ _ _ _ r.1 o.1 c.if-not-is_open.true) r.0 (omega arith))) refl refl refl refl

pub loop-n-preserved : goal.loop-n-preserved
loop-n-preserved c =
    let b = c.args.lent.now in
    let s = b.tables.now.shape in
    let l = c.loop-n in
    let e = c.reissue.ensures.tables.shape ∙ l.invariant.2.tables.shape in
    let r = rw e at c.running-running.ensures in
    let o = rw e at c.is_open.ensures in (
      (o.0 c.if-not-is_open.false, r.0),
      runs_so s _ _ _ _ r.1 o.1 c.if-not-is_open.false,
      again (going l.invariant.2 c.reissue.ensures (λ kept turn. kept_next (config_in b.config.now) s b.tables.now.bytes.now b.slots.now l.lent.tables.now.bytes.now l.lent.slots.now l.n kept l.running l.invariant.1 _ _ turn)) refl refl refl refl,
    )

pub returns : goal.returns
returns c =
    let b = c.args.lent.now in
    let s = b.tables.now.shape in
    let z = b.slots.now in
    let l = c.loop-n in
    let g = config_in b.config.now in
    let d = l.lent.tables.now.bytes.now in
    let e : l.n ≡ 2 * s.tasks = omega (arith, l.auto.n-end, c.loop-n-test.false) in
    by l.invariant.2 (λ kept.
    let k = subst (λ (n : ℕ). Kept g s b.tables.now.bytes.now z d l.lent.slots.now n) e kept in
    kept_out g s b.tables.now.bytes.now z d l.lent.slots.now _ k l.running l.invariant.1 l.invariant.0.1 (omega arith) (omega arith))
