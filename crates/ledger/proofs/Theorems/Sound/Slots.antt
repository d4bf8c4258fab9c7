-- Slots: each has 16 bytes, and an entry outcome is the front of its task's slot: a dequeue sets both at once, and nothing else changes a slot.
use Rattle.std.specs.Prelude.{ℕ, ◌≤◌, ◌≡◌, refl, List, length, take, drop}
use Rattle.std.proofs.Common.{sym, ◌∙◌, ap, subst, arith, length-append, length-drop}
use Rattle.std.proofs.Math.Seq.{take-append_seam}
use Rattle.ledger.specs.Lists.{at, put}
use Rattle.ledger.specs.Config.{Config}
use Rattle.ledger.specs.Time.{TockValue}
use Rattle.ledger.specs.Ledger.{entry, Task, Ledger, null_task, task, queue, fresh}
use Rattle.ledger.specs.Services.{shape, copy_into}
use Rattle.ledger.specs.Good.{Numbered}
use Rattle.ledger.proofs.Theorems.Items.{at_put_same, put_put, at_put_each}
use Rattle.ledger.proofs.Theorems.Fresh.{fresh_task_lem}
use Rattle.ledger.proofs.Theorems.Configured.{Configured}
use Rattle.ledger.proofs.Theorems.Changes.{Change, alters, restarts, pends, finishes, wakes, waits, delivers, removes, puts_entry, takes_entry, starts_timer, stops_timers, ticks, tocks, updates}
use Rattle.ledger.proofs.Theorems.Sound.Queues.{SoundQueues, oldest_width}

pub record SoundSlot (t : Task) : Type 0 where
  pub bytes : length t.slot ≡ 16
  pub front : (e : List ℕ) → t.outcome ≡ entry e → e ≡ take (length e) t.slot

abbrev pub SoundSlots : Config → List Task → Type 0
SoundSlots c ts = (t : ℕ) → Numbered c.T t → SoundSlot (at ts t null_task)

abbrev SlotAt : Config → ℕ → Task → Type 0
SlotAt c t v = Numbered c.T t → SoundSlot v

same_slot : (t t' : Task) → t'.slot ≡ t.slot → ((e : List ℕ) → t'.outcome ≡ entry e → t.outcome ≡ entry e) → SoundSlot t → SoundSlot t'
same_slot t t' s o h = record { bytes = ap length s ∙ h.bytes; front = λ e f. h.front e (o e f) ∙ ap (take (length e)) (sym s) }

copied : (slot e : List ℕ) (v : Task) → v.slot ≡ copy_into slot e → v.outcome ≡ entry e → length slot ≡ 16 → length e ≤ 16 → SoundSlot v
unfolding copy_into
copied slot e v s o n w = record {
  bytes = ap length s ∙ simp (length-append, length-drop) (omega arith);
  front = λ f p. let q : f ≡ e = cc in rw (q, s) (sym (take-append_seam e (drop (length e) slot)));
}

-- the slot and then the outcome of one task
take_slots : (c : Config) (ts : List Task) (t : ℕ) (e : List ℕ) (v : Task) → length ts ≡ c.T → v.slot ≡ copy_into (at ts t null_task).slot e → length e ≤ 16 → SoundSlots c ts
    → let u = at (put ts t v) t null_task in SoundSlots c (put (put ts t v) t (record { blocks = u.blocks; outcome = entry e; slot = u.slot; request = u.request }))
take_slots c ts t e v k s w h =
    let u = at (put ts t v) t null_task in
    let o : Task = record { blocks = u.blocks; outcome = entry e; slot = u.slot; request = u.request } in
    let new : SlotAt c t o = λ i. copied (at ts t null_task).slot e o (ap (λ t. t.slot) (at_put_same ts t v null_task (record { from = i.from; upto = omega arith })) ∙ s) refl (h t i).bytes w in
    subst (SoundSlots c) (sym (put_put ts t v o)) (at_put_each (SlotAt c) ts t o null_task h new)

alter_slots : (c : Config) (ts : List Task) (t : ℕ) (v : Task) → v.slot ≡ (at ts t null_task).slot → ((e : List ℕ) → v.outcome ≡ entry e → (at ts t null_task).outcome ≡ entry e) → SoundSlots c ts → SoundSlots c (put ts t v)
alter_slots c ts t v s o h = at_put_each (SlotAt c) ts t v null_task h (λ i. same_slot (at ts t null_task) v s o (h t i))

pub slots_kept : {c : Config} {X : TockValue → Type 0} → Configured c → (l l' : Ledger) → Change c X l l' → length l.tasks ≡ c.T → SoundQueues c l → SoundSlots c l.tasks → SoundSlots c l'.tasks
unfolding updates
slots_kept {c} g l l' (alters t v a) k q h = alter_slots c l.tasks t v a.slot a.outcome h
slots_kept {c} g l l' (restarts t v a) k q h = alter_slots c l.tasks t v a.slot (λ e o. absurd (a.outcome e o)) h
slots_kept g l l' (pends b w) k q h = h
slots_kept g l l' (finishes b u w) k q h = h
slots_kept {c} g l l' (wakes b t e) k q h = alter_slots c l.tasks t _ refl (λ e o. o) h
slots_kept {c} g l l' (waits t b n w e) k q h = alter_slots c l.tasks t _ refl (λ e o. o) h
slots_kept g l l' (delivers t m s n) k q h = h
slots_kept g l l' (removes t v p) k q h = h
slots_kept g l l' (puts_entry p e w f) k q h = h
slots_kept {c} g l l' (takes_entry t p e es n r) k q h =
    take_slots c l.tasks t e _ k refl (omega (arith, oldest_width (shape c p) (queue l p) e es r (q p), (g.shaped p n).width.upto)) h
slots_kept g l l' (starts_timer a b v n s w f) k q h = h
slots_kept g l l' (stops_timers v p) k q h = h
slots_kept g l l' (ticks n) k q h = h
slots_kept g l l' tocks k q h = h

pub slots_fresh : (c : Config) → length c.states ≡ c.T → SoundSlots c (fresh c).tasks
unfolding task
slots_fresh c n t i =
    fresh_task_lem SoundSlot
    (record { bytes = refl; front = λ e o. let z : ◌≡◌ {A = ℕ} 0 1 = cc in absurd (omega arith) })
    (record { bytes = refl; front = λ e o. let z : ◌≡◌ {A = ℕ} 0 1 = cc in absurd (omega arith) })
    c t (λ z. absurd (z (record { from = i.from; upto = omega arith })))
