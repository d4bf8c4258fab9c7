-- Whom a signal tells: the task that had event wait before it and has none after it, or 0 if there is no such task.
-- A signal takes event wait from the task alone that its semaphore is WAITING for, and that task had it.
use Rattle.std.specs.Prelude.{ℕ, ◌≡◌, Bool, true, cond, List, eqb, length}
use Rattle.std.proofs.Math.Path.{refl, ap}
use Rattle.std.proofs.Common.{sym, ◌∙◌, subst, arith, eqb-true}
use Rattle.std.proofs.Math.Bool.{false}
use Rattle.std.proofs.lemmas.Bool.{eqb-false}
use Rattle.ledger.specs.Lists.{at, byte}
use Rattle.ledger.specs.Config.{Config}
use Rattle.ledger.specs.Ledger.{Semaphore, PENDING, DONE, WAITING, Outcome, plain, woke, Ledger, null_task, task, semaphore_of, running, set_task, set_semaphores, set_semaphore, set_blocks, set_outcome, set_event_wait}
use Rattle.ledger.specs.Services.{signalled, signal, Code, SIGNAL, effect}
use Rattle.ledger.specs.Refusals.{no_a, of_self, fields, meant_task, meant_semaphore, code_at, value_x, behind_x, call, refusal}
use Rattle.ledger.specs.Session.{accept}
use Rattle.ledger.specs.Good.{Numbered}
use Rattle.ledger.proofs.Theorems.Items.{put_length, at_put_same, at_put_other, at_put_part}
use Rattle.ledger.proofs.Theorems.Accepted.{accepted}
use Rattle.ledger.proofs.Theorems.Sizes.{sizes, of_accept}
use Rattle.ledger.proofs.Theorems.Sound.{Sound}
use Rattle.ledger.proofs.Theorems.Sound.Waits.{SoundWaits, put_waits}

abbrev pub waits : Ledger → ℕ → Bool
waits l t = (task l t).blocks.event_wait

-- between two ledgers task t, and no other, lost its event wait; or t is 0 and none did
pub record Lost (before after : Ledger) (t : ℕ) : Type 0 where
  pub every : (u : ℕ) → waits before u ≡ true → waits after u ≡ false → u ≡ t
  pub only : (t ≡ 0 → ⊥) → (waits before t ≡ true) × (waits after t ≡ false)

-- ---- the inner signal

none_lost : (l l' : Ledger) → l'.tasks ≡ l.tasks → Lost l l' 0
unfolding task
none_lost l l' e = record { every = λ u y n. let z : ◌≡◌ {A = ℕ} 0 1 = cc (ap (λ ts. (at ts u null_task).blocks.event_wait) e) in absurd (omega arith); only = λ n. absurd (n refl) }

module _ (c : Config) (l : Ledger) (h : SoundWaits c l.tasks l.semaphores) (b : ℕ) where
  woken_lost : (t : ℕ) → semaphore_of l b ≡ WAITING t → Lost l (set_event_wait t false (set_semaphore b PENDING l)) t
  unfolding task semaphore_of set_event_wait set_blocks set_task set_semaphore set_semaphores
  woken_lost t e =
      let n = h.number b t e in
      record {
        every = λ u y z. go u y z (eqb u t) refl;
        only = λ z. (h.blocked b t e, ap (λ k. k.blocks.event_wait) (at_put_same l.tasks t _ null_task (record { from = n.from; upto = omega (arith, n.upto, h.tasks) })));
      }
    where
      l' : Ledger
      l' = set_event_wait t false (set_semaphore b PENDING l)

      go : (u : ℕ) → waits l u ≡ true → waits l' u ≡ false → (q : Bool) → eqb u t ≡ q → u ≡ t
      go u y z true q = eqb-true u t q
      go u y z false q =
          let s : waits l' u ≡ waits l u = ap (λ k. k.blocks.event_wait) (at_put_other l.tasks t u _ null_task (eqb-false u t q)) in
          let k : ◌≡◌ {A = ℕ} 0 1 = cc in
          absurd (omega arith)

  signalled_lost : (s : Semaphore) → semaphore_of l b ≡ s → Lost l (signalled s b l).ledger (signalled s b l).woke
  unfolding signalled set_semaphore set_semaphores
  signalled_lost PENDING e = none_lost l _ refl
  signalled_lost DONE e = none_lost l _ refl
  signalled_lost (WAITING t) e = woken_lost t e

  pub signal_lost : Lost l (signal b l).ledger (signal b l).woke
  unfolding signal
  signal_lost = signalled_lost (semaphore_of l b) refl

-- ---- the request

-- an outcome leaves the waits
shown_waits : (n u : ℕ) (o : Outcome) (l : Ledger) → waits (set_outcome n o l) u ≡ waits l u
unfolding set_outcome set_task task
shown_waits n u o l = at_put_part (λ k. k.blocks.event_wait) l.tasks n u _ null_task refl

-- nor does an outcome change a request, or a signal
shown_request : (n : ℕ) (o : Outcome) (l : Ledger) → (task (set_outcome n o l) n).request ≡ (task l n).request
unfolding set_outcome set_task task
shown_request n o l = at_put_part (λ k. k.request) l.tasks n n _ null_task refl

signalled_request : (s : Semaphore) (b : ℕ) (l : Ledger) (u : ℕ) → (task (signalled s b l).ledger u).request ≡ (task l u).request
unfolding signalled set_semaphore set_semaphores set_event_wait set_blocks set_task task
signalled_request PENDING b l u = refl
signalled_request DONE b l u = refl
signalled_request (WAITING t) b l u = at_put_part (λ k. k.request) l.tasks t u _ null_task refl

signal_request : (b : ℕ) (l : Ledger) (u : ℕ) → (task (signal b l).ledger u).request ≡ (task l u).request
unfolding signal
signal_request b l u = signalled_request (semaphore_of l b) b l u

-- an accepted frame of this code, in a ledger with the rules, before settling: the caller's outcome is `woke` with the task that lost its event wait, and its request is as it was
pub record Told (c : Config) (f : List ℕ) (l : Ledger) : Type 0 where
  pub whom : ℕ
  pub outcome : (task (accept c f l) (running l)).outcome ≡ woke whom
  pub lost : Lost l (accept c f l) whom
  pub request : (task (accept c f l) (running l)).request ≡ (task l (running l)).request

-- the accepted frame, by its code
abbrev pub accept_as : Config → List ℕ → Ledger → Code → Ledger
accept_as c f l k =
    let self = running l in
    let u = fields k in
    let t = meant_task u.A self (byte 1 f) in
    effect k c self t (meant_semaphore c u.B self t (byte 2 f)) (value_x u.follows f) (behind_x u.follows f) (cond u.service (set_outcome self plain l) l)

pub request_tells : (c : Config) (f : List ℕ) (l : Ledger) → Sound c l → refusal c l f ≡ 0 → code_at (byte 0 f) ≡ SIGNAL → Told c f l
unfolding accept call effect fields set_outcome set_task task sizes
request_tells c f l h r e =
    let self = running l in
    let m = set_outcome self plain l in
    let b = meant_semaphore c of_self self (meant_task no_a self (byte 1 f)) (byte 2 f) in
    let s = signal b m in
    let is : accept c f l ≡ set_outcome self (woke s.woke) s.ledger = ap (accept_as c f l) e in
    let n : Numbered c.T self = ((accepted c l f h.named.tasks r).self (ap (λ k. (fields k).service) e)).number in
    let long : length s.ledger.tasks ≡ c.T = sym (put_length s.ledger.tasks self _) ∙ ap (λ k. length k.tasks) (sym is) ∙ ap (λ k. k.tasks) (of_accept c f l) ∙ h.named.tasks in
    let w = signal_lost c m (put_waits l.tasks self _ refl h.waits) b in
    record {
      whom = s.woke;
      outcome = ap (λ k. (task k self).outcome) is ∙ ap (λ k. k.outcome) (at_put_same s.ledger.tasks self _ null_task (record { from = n.from; upto = omega (arith, n.upto, long) }));
      lost = subst (λ k. Lost l k s.woke) (sym is) (record {
        every = λ u y z. w.every u (shown_waits self u plain l ∙ y) (sym (shown_waits self u (woke s.woke) s.ledger) ∙ z);
        only = λ z. (sym (shown_waits self s.woke plain l) ∙ (w.only z).0, shown_waits self s.woke (woke s.woke) s.ledger ∙ (w.only z).1);
      });
      request = ap (λ k. (task k self).request) is ∙ shown_request self (woke s.woke) s.ledger ∙ signal_request b m self ∙ shown_request self plain l;
    }
