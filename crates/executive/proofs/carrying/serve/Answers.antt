-- `serve`: each arm does what the ledger does with its code.
use mathlib.Core.Path.{◌≡◌, refl, sym, ap, subst, ◌∙◌}
use Prim.Native.Nat.{ℕ, ◌%◌}
use native.Mathlib.Omega.{arith}
use lib.Dec.{eqb}
use Rattle.ledger.specs.Lists.{byte, word}
use Rattle.ledger.specs.Config.{config_in}
use Rattle.ledger.specs.Time.{TockValue}
use Rattle.ledger.specs.Services.{send, wait_for, start_timer, effect}
use Rattle.ledger.specs.Refusals.{fields, value_x, behind_x}
use Rattle.ledger.specs.Good.{GoodX}
use Rattle.tables.specs.Decode.{view_semaphore}
use Rattle.tables.specs.Lent.{by, stays}
use Rattle.tables.specs.Shows.{moved}
use Rattle.std.specs.Prelude.{Option, is_none, unwrap_or}
use Rattle.clock.specs.Does.{purged, purge_is, purged_unless}
use Rattle.command.specs.declared.codes.Code.{Code}
use Rattle.command.specs.Codes.{view_code}
use Rattle.executive.specs.Lent as lent
use Rattle.executive.specs.Lent.{over}
use Rattle.executive.specs.Meant.{value_of, MeansX}
use Rattle.executive.specs.Carried.{low_is, exit_is}
use Rattle.executive.proofs.carrying.serve.Goals as goal

pub returns-in-Wait : goal.returns-in-Wait
unfolding effect fields
returns-in-Wait c = over refl refl refl (by c.wait.ensures (λ does tidy L fr h. rw c.in-Wait.is (does tidy (config_in c.args.lent.now.config.now) L _ _ h)))

pub returns-in-Signal : goal.returns-in-Signal
unfolding effect fields
returns-in-Signal c = over refl refl refl (by c.signal_by.ensures (λ does tidy L fr h. rw c.in-Signal.is (does tidy (config_in c.args.lent.now.config.now) L _ _ h)))

pub returns-in-Pend : goal.returns-in-Pend
unfolding effect fields view_semaphore
returns-in-Pend c = over refl refl refl (by c.set_semaphore.ensures (λ does tidy L fr h. rw c.in-Pend.is (does tidy (config_in c.args.lent.now.config.now) L _ _ h)))

pub returns-in-Send : goal.returns-in-Send
unfolding effect fields value_x
returns-in-Send c =
    let a = c.args in
    let f = a.frame.now in
    let low = low_is a.lent.now.tables.now.fits (byte 3 f) (byte 4 f) (subst (λ (k : Code). MeansX a.lent.now.tables.now.shape (view_code k) (value_of (view_code k) f)) c.in-Send.is c.requires.2.value) in
    over refl refl refl (by c.send.ensures (λ sends tidy L fr h. rw c.in-Send.is (moved (ap (λ (n : ℕ). send a.me a.a a.b n L) low) (sends tidy (config_in a.lent.now.config.now) L _ _ h))))

pub returns-in-Sendw : goal.returns-in-Sendw
unfolding effect fields value_x
returns-in-Sendw c =
    let a = c.args in
    let f = a.frame.now in
    let low = low_is a.lent.now.tables.now.fits (byte 3 f) (byte 4 f) (subst (λ (k : Code). MeansX a.lent.now.tables.now.shape (view_code k) (value_of (view_code k) f)) c.in-Sendw.is c.requires.2.value) in
    over refl refl refl (by c.sendw.ensures (λ sends tidy L fr h. rw c.in-Sendw.is (moved (ap (λ (n : ℕ). wait_for a.me a.b (send a.me a.a a.b n L)) low) (sends tidy (config_in a.lent.now.config.now) L _ _ h))))

pub returns-in-Receive : goal.returns-in-Receive
unfolding effect fields
returns-in-Receive c = over refl refl refl (by c.receive.ensures (λ does tidy L fr h. rw c.in-Receive.is (does tidy (config_in c.args.lent.now.config.now) L _ _ h)))

pub returns-in-Dequeue : goal.returns-in-Dequeue
unfolding effect fields
returns-in-Dequeue c = lent.by c.dequeue.ensures (λ does tidy L fr h. rw c.in-Dequeue.is (does tidy L _ h))

pub returns-in-Enqueue : goal.returns-in-Enqueue
unfolding effect fields behind_x
returns-in-Enqueue c = over refl refl refl (by c.enqueue.ensures (λ does tidy L fr h. rw c.in-Enqueue.is (does tidy L _ _ h)))

pub returns-in-Resume : goal.returns-in-Resume
unfolding effect fields
returns-in-Resume c = over refl refl refl (by c.set_suspended.ensures (λ does tidy L fr h. rw c.in-Resume.is (does tidy (config_in c.args.lent.now.config.now) L _ _ h)))

pub returns-in-Suspend : goal.returns-in-Suspend
unfolding effect fields
returns-in-Suspend c = over refl refl refl (by c.set_suspended-in-Suspend.ensures (λ does tidy L fr h. rw c.in-Suspend.is (does tidy (config_in c.args.lent.now.config.now) L _ _ h)))

pub returns-in-Terminate : goal.returns-in-Terminate
unfolding effect fields
returns-in-Terminate c = over refl refl refl (by c.terminate.ensures (λ does tidy L fr h. rw c.in-Terminate.is (does tidy (config_in c.args.lent.now.config.now) L _ h)))

pub returns-in-Execute : goal.returns-in-Execute
unfolding effect fields
returns-in-Execute c = over refl refl refl (by c.execute.ensures (λ does tidy L fr h. rw c.in-Execute.is (does tidy (config_in c.args.lent.now.config.now) L _ _ h)))

pub returns-in-Delay : goal.returns-in-Delay
unfolding effect fields value_x
returns-in-Delay c =
    let a = c.args in
    let g = config_in a.lent.now.config.now in
    over refl refl refl (by c.delay.ensures (λ delays tidy L fr h.
    let x = subst (λ (k : Code). GoodX g L (fields (view_code k)).X a.a a.b (value_of (view_code k) a.frame.now)) c.in-Delay.is fr in
    rw c.in-Delay.is (moved (ap (λ (t : TockValue). wait_for a.a a.b (start_timer a.a a.b t L)) c.tock_value_at-v.ensures) (delays tidy g L _ x.free h))))

pub returns-in-Timer : goal.returns-in-Timer
unfolding effect fields value_x
returns-in-Timer c =
    let a = c.args in
    let g = config_in a.lent.now.config.now in
    over refl refl refl (stays (λ tidy L fr h.
    let x = subst (λ (k : Code). GoodX g L (fields (view_code k)).X a.a a.b (value_of (view_code k) a.frame.now)) c.in-Timer.is fr in
    rw c.in-Timer.is (moved (ap (λ (t : TockValue). start_timer a.a a.b t L) c.tock_value_at-v-in-Timer.ensures) (c.start.ensures tidy g L _ _ x.free h))))

pub returns-in-Purge : goal.returns-in-Purge
unfolding effect fields value_x
returns-in-Purge c =
    let a = c.args in
    let f = a.frame.now in
    let low : byte 4 f ≡ word 3 f % 256 = omega (arith, c.type_inv.frame 4) in
    over refl refl refl (stays (λ tidy L fr h. rw c.in-Purge.is (moved (ap (λ (s : Option ℕ). purged a.a (is_none s) (unwrap_or s 0) L) c.named.ensures ∙ purged_unless a.a a.b (eqb (byte 4 f) 0) L ∙ ap (λ (n : ℕ). purged a.a (eqb n 0) a.b L) low ∙ sym (purge_is a.a a.b (word 3 f) L)) (c.purge.ensures tidy (config_in a.lent.now.config.now) L _ _ h))))

pub returns-in-Tick : goal.returns-in-Tick
unfolding effect fields
returns-in-Tick c = over refl refl refl (by c.tick.ensures (λ does tidy L fr h. rw c.in-Tick.is (does tidy (config_in c.args.lent.now.config.now) L _ h)))

pub returns-in-InterruptExit : goal.returns-in-InterruptExit
unfolding effect fields
returns-in-InterruptExit c = over refl refl refl (by c.signal.ensures.does (λ signals tidy L fr h. rw c.in-InterruptExit.is (moved (exit_is c.args.b L) (signals tidy (config_in c.args.lent.now.config.now) L _ _ h))))

pub returns-in-SeasonTimer : goal.returns-in-SeasonTimer
unfolding effect fields value_x
returns-in-SeasonTimer c =
    let a = c.args in
    let g = config_in a.lent.now.config.now in
    over refl refl refl (stays (λ tidy L fr h.
    let x = subst (λ (k : Code). GoodX g L (fields (view_code k)).X a.a a.b (value_of (view_code k) a.frame.now)) c.in-SeasonTimer.is fr in
    rw c.in-SeasonTimer.is (moved (ap (λ (t : TockValue). start_timer a.a a.b t L) c.long_tock_value_at-v.ensures) (c.start-in-SeasonTimer.ensures tidy g L _ _ x.free h))))
