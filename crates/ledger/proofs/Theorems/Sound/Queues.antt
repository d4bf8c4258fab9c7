-- Queues: every entry put has the queue's width, at most depth entries are held, and what was handed out is what was put before them.
-- A dequeue copies the oldest entry to the front of the slot, so that the slot then begins with it.
use Rattle.std.specs.Prelude.{ℕ, suc, ◌-◌, ◌≤◌, ◌<◌, ◌≡◌, refl, List, [], ◌∷◌, ◌++◌, length, take, drop}
use Rattle.std.proofs.Common.{sym, ◌∙◌, ap, subst, append_assoc, arith, add-one, leb-false, length-append, length-drop, take_at, drop-drop}
use Rattle.std.proofs.lemmas.List.{drop-append-le}
use Rattle.ledger.specs.Config.{QueueShape, Config}
use Rattle.ledger.specs.Time.{TockValue}
use Rattle.ledger.specs.Ledger.{Queue, Ledger, empty_queue, task, queue, held, fresh}
use Rattle.ledger.specs.Services.{shape, full, copy_into}
use Rattle.ledger.proofs.Theorems.Items.{at_put_each}
use Rattle.ledger.proofs.Theorems.Parts.{Every, nil, cons, part_drop, every_part, every_first, every_append}
use Rattle.ledger.proofs.Theorems.Fresh.{fresh_queue}
use Rattle.ledger.proofs.Theorems.Changes.{Change, alters, restarts, pends, finishes, wakes, waits, delivers, removes, puts_entry, takes_entry, starts_timer, stops_timers, ticks, tocks, updates}

pub record SoundQueue (s : QueueShape) (k : Queue) : Type 0 where
  pub widths : Every (λ e. length e ≡ s.width) k.put
  pub taken : k.taken ≤ length k.put
  pub depth : length (held k) ≤ s.depth
  pub fifo : k.handed_out ++ held k ≡ k.put

abbrev pub SoundQueues : Config → Ledger → Type 0
SoundQueues c l = (q : ℕ) → SoundQueue (shape c q) (queue l q)

-- the oldest entry has the width
pub oldest_width : (s : QueueShape) (k : Queue) (e : List ℕ) (es : List (List ℕ)) → held k ≡ e ∷ es → SoundQueue s k → length e ≡ s.width
unfolding held
oldest_width s k e es h q = every_first {xs = es} (rw h at (every_part (part_drop k.taken k.put) q.widths))

put_sound : (s : QueueShape) (k : Queue) (e : List ℕ) → length e ≡ s.width → length (held k) < s.depth → SoundQueue s k
    → SoundQueue s (record { put = k.put ++ (e ∷ []); taken = k.taken; handed_out = k.handed_out })
unfolding held
put_sound s k e w d q =
    let h : drop k.taken (k.put ++ (e ∷ [])) ≡ drop k.taken k.put ++ (e ∷ []) = drop-append-le k.taken k.put (e ∷ []) q.taken in
    record {
      widths = every_append q.widths (cons w nil);
      taken = simp length-append (omega (arith, q.taken));
      depth = rw h (simp length-append (omega arith));
      fifo = rw h (sym (append_assoc k.handed_out _ _) ∙ ap (λ xs. xs ++ (e ∷ [])) q.fifo);
    }

take_sound : (s : QueueShape) (k : Queue) (e : List ℕ) (es : List (List ℕ)) (slot : List ℕ) → held k ≡ e ∷ es → SoundQueue s k
    → SoundQueue s (record { put = k.put; taken = suc k.taken; handed_out = k.handed_out ++ (take s.width (copy_into slot e) ∷ []) })
unfolding held copy_into
take_sound s k e es slot h q =
    let w = oldest_width s k e es h q in
    let n : length (e ∷ es) ≡ length k.put - k.taken = ap length (sym h) ∙ length-drop k.taken k.put in
    let r : drop (suc k.taken) k.put ≡ es = ap (λ n. drop n k.put) (sym (add-one k.taken)) ∙ sym (drop-drop 1 k.taken k.put) ∙ ap (drop 1) h in
    record {
      widths = q.widths;
      taken = omega arith;
      depth = rw r (omega (arith, ap length h));
      fifo = rw (r, take_at e (drop (length e) slot) s.width w) (append_assoc k.handed_out (e ∷ []) es ∙ ap (λ xs. k.handed_out ++ xs) (sym h) ∙ q.fifo);
    }

abbrev SoundAt : Config → ℕ → Queue → Type 0
SoundAt c q k = SoundQueue (shape c q) k

pub queues_kept : {c : Config} {X : TockValue → Type 0} (l l' : Ledger) → Change c X l l' → SoundQueues c l → SoundQueues c l'
unfolding updates full
queues_kept l l' (alters t v a) h = h
queues_kept l l' (restarts t v a) h = h
queues_kept l l' (pends b w) h = h
queues_kept l l' (finishes b u w) h = h
queues_kept l l' (wakes b t e) h = h
queues_kept l l' (waits t b n w e) h = h
queues_kept l l' (delivers t m s n) h = h
queues_kept l l' (removes t v p) h = h
queues_kept {c} l l' (puts_entry q e w f) h = at_put_each (SoundAt c) l.queues q _ empty_queue h (put_sound (shape c q) (queue l q) e w (leb-false _ _ f) (h q))
queues_kept {c} l l' (takes_entry t q e es n k) h = at_put_each (SoundAt c) l.queues q _ empty_queue h (take_sound (shape c q) (queue l q) e es (task l t).slot k (h q))
queues_kept l l' (starts_timer a b v n s k f) h = h
queues_kept l l' (stops_timers v p) h = h
queues_kept l l' (ticks n) h = h
queues_kept l l' tocks h = h

pub queues_fresh : (c : Config) → SoundQueues c (fresh c)
unfolding held
queues_fresh c q = subst (SoundQueue (shape c q)) (sym (fresh_queue c q)) (record { widths = nil; taken = omega arith; depth = omega arith; fifo = refl })
