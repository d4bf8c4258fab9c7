-- `settle`: with no open request of the running task nothing is issued again; else the loop does it.
use mathlib.Core.Path.{refl}
use native.Mathlib.Omega.{arith}
use Rattle.ledger.specs.Config.{config_in}
use Rattle.tables.specs.Lent.{stays}
use Rattle.executive.specs.Lent.{over}
use Rattle.executive.specs.Kept.{runs_so, kept_start, kept_stop}
use Rattle.executive.proofs.settling.settle.Goals as goal

pub returns-then-not-is_open : goal.returns-then-not-is_open
returns-then-not-is_open c =
    let b = c.args.lent.now in
    let s = b.tables.now.shape in
    let d = b.tables.now.bytes.now in
    let z = b.slots.now in
    let r = c.running-running in
    let g = config_in b.config.now in
    over refl refl refl (stays (kept_stop g s d z d z 0 (kept_start g s d z) _ (runs_so s d _ _ _ r.ensures.1 c.is_open.ensures.1 c.if-not-is_open.true) r.ensures.0 (omega arith)))

pub settle_open-requires : goal.settle_open-requires
settle_open-requires c =
    let b = c.args.lent.now.tables.now in
    let r = c.running-running in
    let o = c.is_open in
    let e = c.if-not-is_open.false in
    ((o.ensures.0 e, r.ensures.0), runs_so b.shape b.bytes.now _ _ _ r.ensures.1 o.ensures.1 e)
