-- No message lies in the mailboxes twice, and each is one of 1 to G. Every step keeps this, whatever else the ledger holds and whatever the frame:
-- the part of the rules about messages (`Named`, `SoundMessages`) that memory of which nothing else is known can be asked for.
use Prim.Native.Nat.{ℕ, zero, suc, ◌+◌, ◌*◌, ◌≤◌}
use Rattle.std.specs.Prelude.{◌≡◌, Bool, ltb}
use Rattle.std.proofs.Math.Path.{refl, subst}
use Rattle.std.proofs.Common.{sym, ◌∙◌, arith, eqb-true}
use Rattle.std.proofs.Math.Bool.{true, false, cond}
use mathlib.Core.List.{List, [], ◌∷◌}
use Rattle.std.proofs.Math.Option.{Option, none as nothing, some}
use Rattle.std.proofs.lemmas.Bool.{not-false}
use Rattle.std.proofs.Math.Dec.{eqb}
use Rattle.ledger.specs.Lists.{at, put, any, insert_by}
use Rattle.ledger.specs.Config.{Config}
use Rattle.ledger.specs.Ledger.{Semaphore, PENDING, DONE, WAITING, plain, refused, Request, none, receive, dequeue, enqueue, Message, Timer, Ledger, semaphore_of, running, set_outcome, set_request, set_suspended, set_message_wait, fresh}
use Rattle.ledger.specs.Services.{signal, signal_all, woken, wake_waiter, waited, wait, send, wanted, not_empty, not_full, take_entry, put_entry, received, drop_messages, dequeued, enqueued, issue, terminate, execute, purge, insert_again, expire, expire_all, tock, tick, Code, WAIT, SIGNAL, PEND, SEND, SENDW, RECEIVE, DEQUEUE, ENQUEUE, RESUME, SUSPEND, TERMINATE, EXECUTE, DELAY, TIMER, PURGE, TICK, EXIT, SEASON_TIMER, effect}
use Rattle.ledger.specs.Refusals.{fields, call, is_message, inamailbox, from_input, from_state, refusal}
use Rattle.ledger.specs.Session.{open_request, is_open, refused21, issue_again, reissue, settle, accept, step}
use Rattle.ledger.specs.Good.{Numbered}
use Rattle.ledger.proofs.Theorems.Checks.{asked, within_numbered, cond_both, passes}
use Rattle.ledger.proofs.Theorems.Parts.{Part, part_nil, part_without}
use Rattle.ledger.proofs.Theorems.Changes.{updates}
use Rattle.ledger.proofs.Theorems.Signals.{signals_keep, signal_boxes}
use Rattle.ledger.proofs.Theorems.Sound.Messages.{copies, deliver_more, deliver_once, remove_less, copies_empty}

pub record Once (c : Config) (boxes : List (List Message)) : Type 0 where
  pub known : (x : ℕ) → 1 ≤ copies x boxes → Numbered c.G x
  pub once : (x : ℕ) → copies x boxes ≤ 1

-- ---- one mailbox is new

-- it lost messages
once_less : {c : Config} (boxes : List (List Message)) (t : ℕ) {v : List Message} → Part v (at boxes t []) → Once c boxes → Once c (put boxes t v)
once_less boxes t p h = record {
  known = λ x k. h.known x (omega (arith, k, remove_less x boxes t p));
  once = λ x. omega (arith, h.once x, remove_less x boxes t p);
}

-- it got a message of 1 to G that lay nowhere
once_more : {c : Config} (boxes : List (List Message)) (t : ℕ) (m : Message) → Numbered c.G m.number → any (any (λ (n : Message). eqb n.number m.number)) boxes ≡ false
    → Once c boxes → Once c (put boxes t (insert_by (λ m. m.sender) m (at boxes t [])))
once_more {c} boxes t m g n h = record {
  known = λ x k. known x k (eqb m.number x) refl (deliver_more x boxes t m);
  once = λ x. deliver_once x boxes t m (h.once x) n;
}
  where
    known : (x : ℕ) {n : ℕ} → 1 ≤ n → (b : Bool) → eqb m.number x ≡ b → n ≤ copies x boxes + cond b 1 0 → Numbered c.G x
    known x k true e l = subst (Numbered c.G) (eqb-true m.number x e) g
    known x k false e l = h.known x (omega (arith, k, l))

-- ---- what leaves the mailboxes as they are

abbrev boxes : Ledger → List (List Message)
boxes l = l.mailboxes

of_signal_all : (bs : List ℕ) (l : Ledger) → boxes (signal_all bs l) ≡ boxes l
of_signal_all bs l = signals_keep (λ m. boxes m ≡ boxes l) (λ b m e. signal_boxes b m ∙ e) bs l refl

of_woken : (s : Semaphore) (b : ℕ) (l : Ledger) → boxes (woken s b l) ≡ boxes l
unfolding woken
of_woken PENDING b l = refl
of_woken DONE b l = refl
of_woken (WAITING t) b l = signal_boxes b l

of_wake_waiter : (b : ℕ) (l : Ledger) → boxes (wake_waiter b l) ≡ boxes l
unfolding wake_waiter
of_wake_waiter b l = of_woken (semaphore_of l b) b l

of_waited : (s : Semaphore) (t b : ℕ) (l : Ledger) → boxes (waited s t b l) ≡ boxes l
unfolding updates waited
of_waited PENDING t b l = refl
of_waited DONE t b l = refl
of_waited (WAITING u) t b l = refl

pub of_dequeued : (c : Config) (t q : ℕ) (es : List (List ℕ)) (l : Ledger) → boxes (dequeued c t q es l) ≡ boxes l
unfolding updates set_request dequeued
of_dequeued c t q [] l = refl
of_dequeued c t q (e ∷ es) l = of_wake_waiter (not_full c q) (take_entry c t q e l)

pub of_enqueued : (c : Config) (t q : ℕ) (e : List ℕ) (b : Bool) (l : Ledger) → boxes (enqueued c t q e b l) ≡ boxes l
unfolding updates set_request enqueued
of_enqueued c t q e true l = refl
of_enqueued c t q e false l = of_wake_waiter (not_empty c q) (put_entry q e l)

of_again : (t : Timer) (l : Ledger) → boxes (insert_again t l) ≡ boxes l
unfolding updates insert_again
of_again t l = cond_both (λ m. boxes m ≡ boxes l) (eqb t.period 0) l _ refl refl

of_expire : (t : Timer) (l : Ledger) → boxes (expire t l) ≡ boxes l
unfolding expire
of_expire t l = signal_boxes t.semaphore (insert_again t l) ∙ of_again t l

of_expire_all : (ts : List Timer) (l : Ledger) → boxes (expire_all ts l) ≡ boxes l
unfolding expire_all
of_expire_all [] l = refl
of_expire_all (t ∷ ts) l = of_expire_all ts (expire t l) ∙ of_expire t l

of_tick : (c : Config) (l : Ledger) → boxes (tick c l) ≡ boxes l
unfolding updates tick tock
of_tick c l = cond_both (λ m. boxes m ≡ boxes l) (ltb (suc l.ticks) c.K) _ _ refl (of_expire_all _ _)

-- ---- what changes them

module _ (c : Config) where
  as_before : {v w : List (List Message)} → w ≡ v → Once c v → Once c w
  as_before e h = subst (Once c) (sym e) h

  once_received : (t a : ℕ) (o : Option Message) (l : Ledger) → Once c (boxes l) → Once c (boxes (received t a o l))
  unfolding updates set_request set_message_wait received
  once_received t a nothing l h = h
  once_received t a (some m) l h = once_less (boxes l) t (part_without (wanted a) _) h

  once_issue : (t : ℕ) (r : Request) (l : Ledger) → Once c (boxes l) → Once c (boxes (issue c t r l))
  unfolding issue
  once_issue t none l h = h
  once_issue t (receive a) l h = once_received t a _ l h
  once_issue t (dequeue q) l h = as_before (of_dequeued c t q _ l) h
  once_issue t (enqueue q e) l h = as_before (of_enqueued c t q e _ l) h

  -- a message that is sent is one of 1 to G and lies nowhere
  abbrev Sends : Code → ℕ → Ledger → Type 0
  Sends k x l = is_message (fields k).X ≡ true → Numbered c.G x × (inamailbox l x ≡ false)

  once_send : (t a b x : ℕ) (l : Ledger) → Numbered c.G x × (inamailbox l x ≡ false) → Once c (boxes l) → Once c (boxes (send t a b x l))
  unfolding updates set_message_wait inamailbox send
  once_send t a b x l (g, n) h = once_more (boxes l) a (record { number = x; sender = t; semaphore = b }) g n h

  once_effect : (k : Code) (s a b x : ℕ) (e : List ℕ) (l : Ledger) → Sends k x l → Once c (boxes l) → Once c (boxes (effect k c s a b x e l))
  unfolding updates effect wait drop_messages terminate execute purge set_suspended fields is_message
  once_effect WAIT s a b x e l g h = as_before (of_waited (semaphore_of l b) s b l) h
  once_effect SIGNAL s a b x e l g h = as_before (signal_boxes b l) h
  once_effect PEND s a b x e l g h = h
  once_effect SEND s a b x e l g h = once_send s a b x l (g refl) h
  once_effect SENDW s a b x e l g h = once_send s a b x l (g refl) h
  once_effect RECEIVE s a b x e l g h = once_issue s (receive a) l h
  once_effect DEQUEUE s a b x e l g h = once_issue s (dequeue a) l h
  once_effect ENQUEUE s a b x e l g h = once_issue s (enqueue a e) l h
  once_effect RESUME s a b x e l g h = h
  once_effect SUSPEND s a b x e l g h = h
  once_effect TERMINATE s a b x e l g h = once_less _ a (part_nil _) (as_before (of_signal_all _ _) h)
  once_effect EXECUTE s a b x e l g h = h
  once_effect DELAY s a b x e l g h = h
  once_effect TIMER s a b x e l g h = h
  once_effect PURGE s a b x e l g h = h
  once_effect TICK s a b x e l g h = as_before (of_tick c l) h
  once_effect EXIT s a b x e l g h = as_before (cond_both (λ m. boxes m ≡ boxes l) (eqb b 0) l (signal b l).ledger refl (signal_boxes b l)) h
  once_effect SEASON_TIMER s a b x e l g h = h

  -- ---- a frame

  accepted_sends : (f : List ℕ) (l : Ledger) → refusal c l f ≡ 0 → Sends (call c (running l) f).code (call c (running l) f).x l
  unfolding refusal from_input from_state
  accepted_sends f l e m =
      let (short, (code, (long, (null, (task, (sem, (queue, (message, (tocks, (width, (delay, (firsts, (lies, (waits, (timer, (full, done)))))))))))))))) = passes _ refl e in
      (within_numbered c.G _ (not-false _ (asked _ _ message m)), asked _ _ lies m)

  once_accept : (f : List ℕ) (l : Ledger) → refusal c l f ≡ 0 → Once c (boxes l) → Once c (boxes (accept c f l))
  unfolding updates accept inamailbox
  once_accept f l e h =
      let k = call c (running l) f in
      let m : Ledger = cond (fields k.code).service (set_outcome k.self plain l) l in
      let same : boxes m ≡ boxes l = cond_both (λ m. boxes m ≡ boxes l) (fields k.code).service (set_outcome k.self plain l) l (plainly k.self l) refl in
      once_effect k.code k.self k.a k.b k.x k.bytes m
      (λ q. let g = accepted_sends f l e q in (g.0, subst (λ (v : List (List Message)). any (any (λ (n : Message). eqb n.number k.x)) v ≡ false) (sym same) g.1))
      (as_before same h)
    where
      plainly : (t : ℕ) (l : Ledger) → boxes (set_outcome t plain l) ≡ boxes l
      plainly t l = refl

  once_reissue : (l : Ledger) → Once c (boxes l) → Once c (boxes (reissue c l))
  unfolding updates set_request reissue issue_again
  once_reissue l h =
      let m : Ledger = set_request (running l) none l in
      cond_both (λ k. Once c (boxes k)) (refused21 c (open_request l) m) (set_outcome (running l) (refused 21) m) (issue c (running l) (open_request l) m) h (once_issue (running l) (open_request l) m h)

  once_settle : (k : ℕ) (l : Ledger) → Once c (boxes l) → Once c (boxes (settle k c l).ledger)
  unfolding settle
  once_settle zero l h = h
  once_settle (suc k) l h = go (is_open (open_request l)) refl (λ m. once_settle k (reissue c l) m)
    where
      go : (b : Bool) → is_open (open_request l) ≡ b → (Once c (boxes (reissue c l)) → Once c (boxes (settle k c (reissue c l)).ledger)) → Once c (boxes (settle (suc k) c l).ledger)
      go false e ih = rw (e, settle) h
      go true e ih = rw (e, settle) (ih (once_reissue l h))

pub once_step : (c : Config) (f : List ℕ) (l : Ledger) → Once c l.mailboxes → Once c (step c f l).ledger.mailboxes
unfolding step
once_step c f l h = go (eqb (refusal c l f) 0) refl
  where
    go : (b : Bool) → eqb (refusal c l f) 0 ≡ b → Once c (step c f l).ledger.mailboxes
    go true e = rw e (once_settle c (2 * c.T) (accept c f l) (once_accept c f l (eqb-true (refusal c l f) 0 e) h))
    go false e = rw e h

pub once_fresh : (c : Config) → Once c (fresh c).mailboxes
unfolding fresh
once_fresh c = record {
  known = λ x k. absurd (omega (arith, k, copies_empty x c.T));
  once = λ x. omega (arith, copies_empty x c.T);
}
