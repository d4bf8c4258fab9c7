-- Timers: at most R, in the order of their due tocks, each due after N and at most 2,147,483,648 tocks later.
-- A tock removes those due and inserts the cyclic ones again, each in the place of one that was removed.
use Rattle.std.specs.Prelude.{ℕ, suc, ◌+◌, ◌≤◌, ◌<◌, ◌≡◌, true, not, List, [], ◌∷◌, length}
use Rattle.std.proofs.Common.{arith, leb-false}
use Rattle.std.proofs.lemmas.Bool.{not-true}
use Rattle.ledger.specs.Lists.{keep}
use Rattle.ledger.specs.Config.{Config}
use Rattle.ledger.specs.Time.{TockValue, tocks as tocksOf, period as periodOf}
use Rattle.ledger.specs.Ledger.{Timer, Ledger, fresh}
use Rattle.ledger.proofs.Theorems.Parts.{Every, nil, Ordered, part_keep, part_length, every_to, every_both, every_part, every_insert, ordered_part, ordered_insert, insert_length, keep_passes, keep_lengths}
use Rattle.ledger.proofs.Theorems.TockValues.{Tocks}
use Rattle.ledger.proofs.Theorems.Tocks.{again, renew, renew_all, due_at, renewed, renew_cases, renewed_every}
use Rattle.ledger.proofs.Theorems.Changes.{Change, alters, restarts, pends, finishes, wakes, waits, delivers, removes, puts_entry, takes_entry, starts_timer, stops_timers, ticks, tocks, updates}

-- the longest time and period: half of all values of four bytes
abbrev pub most_tocks : ℕ
most_tocks = 0x80000000

pub record SoundTimer (N : ℕ) (t : Timer) : Type 0 where
  pub later : N < t.due
  pub soon : t.due ≤ N + most_tocks
  pub period : t.period ≤ most_tocks

pub record SoundTimers (c : Config) (N : ℕ) (ts : List Timer) : Type 0 where
  pub each : Every (SoundTimer N) ts
  pub ordered : Ordered (λ t. t.due) ts
  pub room : length ts ≤ c.R

-- ---- a tock

renew_all_ordered : (n : ℕ) (ds ts : List Timer) → Ordered (λ t. t.due) ts → Ordered (λ t. t.due) (renew_all n ds ts)
unfolding renew_all
renew_all_ordered n [] ts h = h
renew_all_ordered n (d ∷ ds) ts h = renew_all_ordered n ds (renew n d ts) (renew_cases (Ordered (λ t. t.due)) n d ts h (λ z. ordered_insert (λ t. t.due) (again n d) ts h))

renew_all_length : (n : ℕ) (ds ts : List Timer) → length (renew_all n ds ts) ≤ length ds + length ts
unfolding renew_all
renew_all_length n [] ts = omega arith
renew_all_length n (d ∷ ds) ts =
    let h : length (renew n d ts) ≤ suc (length ts) = renew_cases (λ us. length us ≤ suc (length ts)) n d ts (omega arith) (λ z. omega (arith, insert_length (λ t. t.due) (again n d) ts)) in
    omega (arith, renew_all_length n ds (renew n d ts))

again_sound : (N : ℕ) (t : Timer) → SoundTimer N t → (t.period ≡ 0 → ⊥) → SoundTimer (suc N) (again (suc N) t)
again_sound N t h z = record { later = omega (arith, z); soon = omega (arith, h.period); period = h.period }

left_sound : (N : ℕ) (t : Timer) → SoundTimer N t → not (due_at (suc N) t) ≡ true → SoundTimer (suc N) t
unfolding due_at
left_sound N t h e = record { later = leb-false t.due (suc N) (not-true _ e); soon = omega (arith, h.soon); period = h.period }

tock_timers : (c : Config) (N : ℕ) (ts : List Timer) → SoundTimers c N ts → SoundTimers c (suc N) (renewed (suc N) ts)
unfolding renewed
tock_timers c N ts h =
    let n = suc N in
    record {
      each = renewed_every (SoundTimer n) n ts (every_to (again_sound N) (every_part (part_keep _ ts) h.each)) (every_both (left_sound N) (every_part (part_keep _ ts) h.each) (keep_passes _ ts));
      ordered = renew_all_ordered n (keep (due_at n) ts) (keep (λ t. not (due_at n t)) ts) (ordered_part (part_keep _ ts) h.ordered);
      room = omega (arith, renew_all_length n (keep (due_at n) ts) (keep (λ t. not (due_at n t)) ts), keep_lengths (due_at n) ts);
    }

-- ---- every change

start_sound : (N a b : ℕ) (v : TockValue) → Tocks most_tocks v → SoundTimer N (record { task = a; semaphore = b; due = N + tocksOf v; period = periodOf v })
start_sound N a b v t = record { later = omega (arith, t.from); soon = omega (arith, t.upto); period = t.period }

pub timers_kept : {c : Config} (l l' : Ledger) → Change c (Tocks most_tocks) l l' → SoundTimers c l.N l.timers → SoundTimers c l'.N l'.timers
unfolding updates
timers_kept l l' (alters t v a) h = h
timers_kept l l' (restarts t v a) h = h
timers_kept l l' (pends b w) h = h
timers_kept l l' (finishes b u w) h = h
timers_kept l l' (wakes b t e) h = h
timers_kept l l' (waits t b n w e) h = h
timers_kept l l' (delivers t m s n) h = h
timers_kept l l' (removes t v p) h = h
timers_kept l l' (puts_entry q e w f) h = h
timers_kept l l' (takes_entry t q e es n k) h = h
timers_kept {c} l l' (starts_timer a b v n s k f) h = record {
  each = every_insert _ _ l.timers (start_sound l.N a b v k) h.each;
  ordered = ordered_insert _ _ l.timers h.ordered;
  room = simp insert_length f;
}
timers_kept l l' (stops_timers v p) h = record { each = every_part p h.each; ordered = ordered_part p h.ordered; room = omega (arith, part_length p, h.room) }
timers_kept l l' (ticks n) h = h
timers_kept {c} l l' tocks h = tock_timers c l.N l.timers h

pub timers_fresh : (c : Config) → SoundTimers c (fresh c).N (fresh c).timers
unfolding fresh
timers_fresh c = record { each = nil; ordered = nil; room = omega arith }
