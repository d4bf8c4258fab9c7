-- One issue of a request of task t, now or again in settling: it takes one entry into t's slot, or changes no slot and nothing that a queue handed out. Of the other tasks at most the blocks change.
use Rattle.std.specs.Prelude.{ℕ, ◌≡◌, refl, ◌⊎◌, Bool, true, false, List, [], ◌∷◌, ◌++◌, length, drop}
use Rattle.std.proofs.Common.{◌∙◌, ap, inl, inr, arith, take_at}
use Rattle.std.proofs.Math.Option.{Option, none as nothing, some}
use Rattle.ledger.specs.Lists.{at, put, find}
use Rattle.ledger.specs.Config.{Config}
use Rattle.ledger.specs.Ledger.{entry, refused, Request, none, receive, dequeue, enqueue, Task, Message, Ledger, null_task, empty_queue, task, mailbox, queue, held, set_outcome, set_request, set_message_wait}
use Rattle.ledger.specs.Services.{wait_for, wake_waiter, wanted, not_empty, not_full, shape, full, copy_into, take_entry, put_entry, received, dequeued, enqueued, issue}
use Rattle.ledger.specs.Session.{refused21, issue_again}
use Rattle.ledger.specs.Good.{Numbered}
use Rattle.ledger.proofs.Theorems.Items.{put_length, at_put_same, at_put_other, at_there}
use Rattle.ledger.proofs.Theorems.Checks.{cond_both}
use Rattle.ledger.proofs.Theorems.Changes.{Asks, updates}
use Rattle.ledger.proofs.Theorems.Sound.Queues.{SoundQueues, oldest_width}
use Rattle.ledger.proofs.Theorems.Untaken.{beside, View, view, slots, of_wait_for, of_wake_waiter, of_put, slots_outcome, slots_waits, slots_received, slots_enqueued}

-- task t took an entry of its queue's width
pub record Takes (c : Config) (t : ℕ) (l m : Ledger) : Type 0 where
  pub from : ℕ
  pub bytes : List ℕ
  pub there : Numbered c.Q from
  pub width : length bytes ≡ (shape c from).width
  pub handed : (queue m from).handed_out ≡ (queue l from).handed_out ++ (bytes ∷ [])
  pub not_handed : (q : ℕ) → (q ≡ from → ⊥) → (queue m q).handed_out ≡ (queue l q).handed_out
  pub now : beside (task m t) ≡ record { outcome = entry bytes; slot = copy_into (task l t).slot bytes; request = (task l t).request }

pub record Issued (c : Config) (t : ℕ) (l m : Ledger) : Type 0 where
  pub did : (slots m ≡ slots l) ⊎ Takes c t l m
  pub elsewhere : (u : ℕ) → (u ≡ t → ⊥) → beside (task m u) ≡ beside (task l u)

-- ---- the other tasks

pub not_t : (ts : List Task) (t u : ℕ) (v : Task) → (u ≡ t → ⊥) → beside (at (put ts t v) u null_task) ≡ beside (at ts u null_task)
not_t ts t u v n = ap beside (at_put_other ts t u v null_task n)

seen : (l m : Ledger) (u : ℕ) → view m ≡ view l → beside (task m u) ≡ beside (task l u)
unfolding view
seen l m u e = ap (λ (v : View). v.tasks u) e

-- ---- an entry is taken

take_now : (c : Config) (t q : ℕ) (e : List ℕ) (l : Ledger) → Numbered (length l.tasks) t
    → beside (task (take_entry c t q e l) t) ≡ record { outcome = entry e; slot = copy_into (task l t).slot e; request = (task l t).request }
unfolding updates
take_now c t q e l h =
    ap beside (at_put_same _ t _ null_task (rw put_length h))
    ∙ ap (λ (u : Task). record { outcome = entry e; slot = u.slot; request = u.request }) (at_put_same l.tasks t _ null_task h)

takes : (c : Config) (t q : ℕ) (e : List ℕ) (es : List (List ℕ)) (l : Ledger) → Numbered (length l.tasks) t → Numbered c.Q q → SoundQueues c l → held (queue l q) ≡ e ∷ es
    → Takes c t l (take_entry c t q e l)
unfolding updates held copy_into
takes c t q e es l h n s k =
    let w = oldest_width (shape c q) (queue l q) e es k (s q) in
    let there : Numbered (length l.queues) q = at_there l.queues q empty_queue (λ z. let y : ◌≡◌ {A = ℕ} 0 1 = cc in omega arith) in
    record {
      from = q;
      bytes = e;
      there = n;
      width = w;
      handed = ap (λ k. k.handed_out) (at_put_same l.queues q _ empty_queue there) ∙ ap (λ (x : List ℕ). (queue l q).handed_out ++ (x ∷ [])) (take_at e (drop (length e) (task l t).slot) (shape c q).width w);
      not_handed = λ p z. ap (λ k. k.handed_out) (at_put_other l.queues q p _ empty_queue z);
      now = take_now c t q e l h;
    }

take_elsewhere : (c : Config) (t q : ℕ) (e : List ℕ) (l : Ledger) (u : ℕ) → (u ≡ t → ⊥) → beside (task (take_entry c t q e l) u) ≡ beside (task l u)
unfolding updates
take_elsewhere c t q e l u n = not_t _ t u _ n ∙ not_t l.tasks t u _ n

-- and the not-full waiter is woken
woken_too : (c : Config) (t b : ℕ) (l m : Ledger) → Takes c t l m → Takes c t l (wake_waiter b m)
unfolding view
woken_too c t b l m s =
    let e = of_wake_waiter b m in
    record {
      from = s.from;
      bytes = s.bytes;
      there = s.there;
      width = s.width;
      handed = ap (λ (v : View). v.handed s.from) e ∙ s.handed;
      not_handed = λ q z. ap (λ (v : View). v.handed q) e ∙ s.not_handed q z;
      now = seen m (wake_waiter b m) t e ∙ s.now;
    }

-- ---- each request

abbrev Elsewhere : ℕ → Ledger → Ledger → Type 0
Elsewhere t l m = (u : ℕ) → (u ≡ t → ⊥) → beside (task m u) ≡ beside (task l u)

waits_elsewhere : (t b : ℕ) (r : Request) (l : Ledger) → Elsewhere t l (set_request t r (wait_for t b l))
unfolding set_request updates
waits_elsewhere t b r l u n = not_t (wait_for t b l).tasks t u _ n ∙ seen l (wait_for t b l) u (of_wait_for t b l)

received_issued : (c : Config) (t a : ℕ) (o : Option Message) (l : Ledger) → Issued c t l (received t a o l)
unfolding received set_request set_message_wait set_outcome updates
received_issued c t a nothing l = record { did = inl (slots_received t a nothing l); elsewhere = λ u n. not_t _ t u _ n ∙ not_t l.tasks t u _ n }
received_issued c t a (some m) l = record { did = inl (slots_received t a (some m) l); elsewhere = λ u n. not_t l.tasks t u _ n }

dequeued_issued : (c : Config) (t q : ℕ) (es : List (List ℕ)) (l : Ledger) → Numbered (length l.tasks) t → Numbered c.Q q → SoundQueues c l → held (queue l q) ≡ es
    → Issued c t l (dequeued c t q es l)
unfolding dequeued
dequeued_issued c t q [] l h n s k = record { did = inl (slots_waits t (not_empty c q) (dequeue q) l); elsewhere = waits_elsewhere t (not_empty c q) (dequeue q) l }
dequeued_issued c t q (e ∷ es) l h n s k =
    let m = take_entry c t q e l in
    record {
      did = inr (woken_too c t (not_full c q) l m (takes c t q e es l h n s k));
      elsewhere = λ u z. seen m (wake_waiter (not_full c q) m) u (of_wake_waiter (not_full c q) m) ∙ take_elsewhere c t q e l u z;
    }

enqueued_issued : (c : Config) (t q : ℕ) (e : List ℕ) (b : Bool) (l : Ledger) → Issued c t l (enqueued c t q e b l)
unfolding enqueued
enqueued_issued c t q e true l = record { did = inl (slots_enqueued c t q e true l); elsewhere = waits_elsewhere t (not_full c q) (enqueue q e) l }
enqueued_issued c t q e false l =
    let m = put_entry q e l in
    record { did = inl (slots_enqueued c t q e false l); elsewhere = λ u z. seen l (wake_waiter (not_empty c q) m) u (of_wake_waiter (not_empty c q) m ∙ of_put q e l) }

pub issued : (c : Config) (t : ℕ) (r : Request) (l : Ledger) → Numbered (length l.tasks) t → Asks c r → SoundQueues c l → Issued c t l (issue c t r l)
unfolding issue
issued c t none l h a s = record { did = inl refl; elsewhere = λ u n. refl }
issued c t (receive f) l h a s = received_issued c t f (find (wanted f) (mailbox l t)) l
issued c t (dequeue q) l h a s = dequeued_issued c t q (held (queue l q)) l h a s refl
issued c t (enqueue q e) l h a s = enqueued_issued c t q e (full c l q) l

pub issued_again : (c : Config) (t : ℕ) (r : Request) (l : Ledger) → Numbered (length l.tasks) t → Asks c r → SoundQueues c l → Issued c t l (issue_again c t r l)
unfolding issue_again updates
issued_again c t r l h a s = cond_both (Issued c t l) (refused21 c r l) _ _ (record { did = inl (slots_outcome t (refused 21) l); elsewhere = λ u n. not_t l.tasks t u _ n }) (issued c t r l h a s)
