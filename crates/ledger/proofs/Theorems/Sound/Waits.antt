-- Waits: a semaphore is WAITING only for a task that exists and has event wait, and no two for the same task; a queue's semaphore is never DONE.
-- A task that begins to wait had no event wait before, so that no semaphore was WAITING for it.
use Rattle.std.specs.Prelude.{ℕ, ◌+◌, ◌<◌, ◌≡◌, refl, ◌⊎◌, Bool, true, false, cond, List, map, eqb, length}
use Rattle.std.proofs.Common.{sym, ◌∙◌, ap, inl, inr, arith}
use Rattle.std.proofs.lemmas.Bool.{eqb-false}
use Rattle.ledger.specs.Lists.{at, put}
use Rattle.ledger.specs.Config.{Config}
use Rattle.ledger.specs.Time.{TockValue}
use Rattle.ledger.specs.Ledger.{Semaphore, PENDING, DONE, WAITING, Task, Ledger, null_task, semaphore_of, fresh}
use Rattle.ledger.specs.Services.{not_waiting}
use Rattle.ledger.specs.Refusals.{is_waiting}
use Rattle.ledger.specs.Good.{Numbered}
use Rattle.ledger.proofs.Theorems.Items.{put_length, at_put_same, at_put_other, at_put_each, at_put_part, at_there, at_map}
use Rattle.ledger.proofs.Theorems.Fresh.{fresh_semaphore}
use Rattle.ledger.proofs.Theorems.Changes.{Change, alters, restarts, pends, finishes, wakes, waits, delivers, removes, puts_entry, takes_entry, starts_timer, stops_timers, ticks, tocks, updates}

abbrev sem : List Semaphore → ℕ → Semaphore
sem ss b = at ss b PENDING

abbrev waiting : List Task → ℕ → Bool
waiting ts t = (at ts t null_task).blocks.event_wait

pub record SoundWaits (c : Config) (ts : List Task) (ss : List Semaphore) : Type 0 where
  pub tasks : length ts ≡ c.T
  pub number : (b t : ℕ) → at ss b PENDING ≡ WAITING t → Numbered c.T t
  pub blocked : (b t : ℕ) → at ss b PENDING ≡ WAITING t → (at ts t null_task).blocks.event_wait ≡ true
  pub one : (b b' t : ℕ) → at ss b PENDING ≡ WAITING t → at ss b' PENDING ≡ WAITING t → b ≡ b'
  pub undone : (b : ℕ) → c.S + c.T < b → at ss b PENDING ≡ DONE → ⊥

-- ---- the tasks alone change

-- event wait stays
pub put_waits : {c : Config} (ts : List Task) {ss : List Semaphore} (t : ℕ) (v : Task) → v.blocks.event_wait ≡ waiting ts t → SoundWaits c ts ss → SoundWaits c (put ts t v) ss
put_waits ts t v e h = record {
  tasks = put_length ts t v ∙ h.tasks;
  number = h.number;
  blocked = λ b u w. at_put_part (λ t. t.blocks.event_wait) ts t u v null_task e ∙ h.blocked b u w;
  one = h.one;
  undone = h.undone;
}

-- no semaphore is WAITING for the task
free_waits : {c : Config} (ts : List Task) (ss : List Semaphore) (t : ℕ) (v : Task) → ((b : ℕ) → sem ss b ≡ WAITING t → ⊥) → SoundWaits c ts ss → SoundWaits c (put ts t v) ss
free_waits ts ss t v n h = record {
  tasks = put_length ts t v ∙ h.tasks;
  number = h.number;
  blocked = λ b u w. ap (λ t. t.blocks.event_wait) (at_put_other ts t u v null_task (λ e. n b (w ∙ ap WAITING e))) ∙ h.blocked b u w;
  one = h.one;
  undone = h.undone;
}

-- ---- a semaphore becomes PENDING or DONE

was_waiting : (ss : List Semaphore) (b : ℕ) (s : Semaphore) → is_waiting s ≡ false → (b' t : ℕ) → sem (put ss b s) b' ≡ WAITING t → sem ss b' ≡ WAITING t
unfolding is_waiting
was_waiting ss b s n b' t = at_put_each (λ i x. x ≡ WAITING t → sem ss i ≡ WAITING t) ss b s PENDING (λ i e. e) (λ e. let z : false ≡ true = cc (ap is_waiting e) in cc) b'

set_waits : (c : Config) (ts : List Task) (ss : List Semaphore) (b : ℕ) (s : Semaphore) → is_waiting s ≡ false → (c.S + c.T < b → s ≡ DONE → ⊥) → SoundWaits c ts ss → SoundWaits c ts (put ss b s)
set_waits c ts ss b s n d h =
    let old = was_waiting ss b s n in
    record {
      tasks = h.tasks;
      number = λ b' t e. h.number b' t (old b' t e);
      blocked = λ b' t e. h.blocked b' t (old b' t e);
      one = λ b' b'' t e f. h.one b' b'' t (old b' t e) (old b'' t f);
      undone = at_put_each (λ i x. c.S + c.T < i → x ≡ DONE → ⊥) ss b s PENDING h.undone d;
    }

wake_waits : (c : Config) (ts : List Task) (ss : List Semaphore) (b t : ℕ) (v : Task) → sem ss b ≡ WAITING t → SoundWaits c ts ss → SoundWaits c (put ts t v) (put ss b PENDING)
unfolding is_waiting
wake_waits c ts ss b t v w h = free_waits ts (put ss b PENDING) t v none (set_waits c ts ss b PENDING refl (λ d e. let z : ◌≡◌ {A = ℕ} 0 1 = cc in omega arith) h)
  where
    there : Numbered (length ss) b
    there = at_there ss b PENDING (λ e. let z : ◌≡◌ {A = ℕ} 0 1 = cc in omega arith)

    none : (b' : ℕ) → sem (put ss b PENDING) b' ≡ WAITING t → ⊥
    none b' e =
        let s : b' ≡ b = h.one b' b t (was_waiting ss b PENDING refl b' t e) w in
        let p : sem (put ss b PENDING) b' ≡ PENDING = ap (sem (put ss b PENDING)) s ∙ at_put_same ss b PENDING PENDING there in
        let z : ◌≡◌ {A = ℕ} 0 1 = cc in
        omega arith

-- ---- a task's WAITING semaphore becomes PENDING

still_waiting : (t u : ℕ) (s : Semaphore) → not_waiting t s ≡ WAITING u → (s ≡ WAITING u) × (u ≡ t → ⊥)
unfolding not_waiting
still_waiting t u PENDING e = let z : ◌≡◌ {A = ℕ} 0 1 = cc in absurd (omega arith)
still_waiting t u DONE e = let z : ◌≡◌ {A = ℕ} 0 1 = cc in absurd (omega arith)
still_waiting t u (WAITING w) e = go (eqb w t) refl e
  where
    go : (b : Bool) → eqb w t ≡ b → cond b PENDING (WAITING w) ≡ WAITING u → (WAITING w ≡ WAITING u) × (u ≡ t → ⊥)
    go true k f = let z : ◌≡◌ {A = ℕ} 0 1 = cc in absurd (omega arith)
    go false k f = (f, λ g. eqb-false w t k (cc))

still_done : (t : ℕ) (s : Semaphore) → not_waiting t s ≡ DONE → s ≡ DONE
unfolding not_waiting
still_done t PENDING e = e
still_done t DONE e = e
still_done t (WAITING w) e = go (eqb w t) e
  where
    go : (b : Bool) → cond b PENDING (WAITING w) ≡ DONE → WAITING w ≡ DONE
    go true f = cc
    go false f = f

restart_waits : (c : Config) (ts : List Task) (ss : List Semaphore) (t : ℕ) (v : Task) → SoundWaits c ts ss → SoundWaits c (put ts t v) (map (not_waiting t) ss)
unfolding not_waiting
restart_waits c ts ss t v h = free_waits ts (map (not_waiting t) ss) t v (λ b e. (was b t e).1 refl) (record {
  tasks = h.tasks;
  number = λ b u e. h.number b u (was b u e).0;
  blocked = λ b u e. h.blocked b u (was b u e).0;
  one = λ b b' u e f. h.one b b' u (was b u e).0 (was b' u f).0;
  undone = λ b d e. h.undone b d (still_done t (sem ss b) (sym (at_map (not_waiting t) ss b PENDING refl) ∙ e));
})
  where
    was : (b u : ℕ) → sem (map (not_waiting t) ss) b ≡ WAITING u → (sem ss b ≡ WAITING u) × (u ≡ t → ⊥)
    was b u e = still_waiting t u (sem ss b) (sym (at_map (not_waiting t) ss b PENDING refl) ∙ e)

-- ---- a task begins to wait

module _ (c : Config) (ts : List Task) (ss : List Semaphore) (t b : ℕ) (v : Task) (n : Numbered c.T t) (w : waiting ts t ≡ false) (e : v.blocks.event_wait ≡ true) (h : SoundWaits c ts ss) where
  -- a semaphore that is then WAITING is the one, for the task, or it was already
  abbrev Now : ℕ → ℕ → Type 0
  Now b' u = ((b' ≡ b) × (u ≡ t)) ⊎ (sem ss b' ≡ WAITING u)

  now : (b' u : ℕ) → sem (put ss b (WAITING t)) b' ≡ WAITING u → Now b' u
  now b' u = at_put_each (λ i x. x ≡ WAITING u → Now i u) ss b (WAITING t) PENDING (λ i f. inr f) (λ f. inl (refl, cc)) b'

  now_number : (b' u : ℕ) → Now b' u → Numbered c.T u
  now_number b' u (inl p) = rw p.1 n
  now_number b' u (inr f) = h.number b' u f

  now_blocked : (b' u : ℕ) → Now b' u → waiting (put ts t v) u ≡ true
  now_blocked b' u (inl p) = ap (waiting (put ts t v)) p.1 ∙ ap (λ t. t.blocks.event_wait) (at_put_same ts t v null_task (record { from = n.from; upto = omega (arith, h.tasks) })) ∙ e
  now_blocked b' u (inr f) = at_put_each (λ i x. waiting ts i ≡ true → x.blocks.event_wait ≡ true) ts t v null_task (λ i k. k) (λ k. e) u (h.blocked b' u f)

  not_before : (b' u : ℕ) → u ≡ t → sem ss b' ≡ WAITING u → ⊥
  not_before b' u s f = let k : waiting ts u ≡ true = h.blocked b' u f in let z : ◌≡◌ {A = ℕ} 0 1 = cc in omega arith

  now_one : (b' b'' u : ℕ) → Now b' u → Now b'' u → b' ≡ b''
  now_one b' b'' u (inl p) (inl q) = p.0 ∙ sym q.0
  now_one b' b'' u (inl p) (inr f) = absurd (not_before b'' u p.1 f)
  now_one b' b'' u (inr f) (inl q) = absurd (not_before b' u q.1 f)
  now_one b' b'' u (inr f) (inr g) = h.one b' b'' u f g

  wait_waits : SoundWaits c (put ts t v) (put ss b (WAITING t))
  wait_waits = record {
    tasks = put_length ts t v ∙ h.tasks;
    number = λ b' u f. now_number b' u (now b' u f);
    blocked = λ b' u f. now_blocked b' u (now b' u f);
    one = λ b' b'' u f g. now_one b' b'' u (now b' u f) (now b'' u g);
    undone = at_put_each (λ i x. c.S + c.T < i → x ≡ DONE → ⊥) ss b (WAITING t) PENDING h.undone (λ d f. let z : ◌≡◌ {A = ℕ} 0 1 = cc in omega arith);
  }

-- ---- every change

pub waits_kept : {c : Config} {X : TockValue → Type 0} (l l' : Ledger) → Change c X l l' → SoundWaits c l.tasks l.semaphores → SoundWaits c l'.tasks l'.semaphores
unfolding updates is_waiting
waits_kept l l' (alters t v a) h = put_waits l.tasks t v a.event_wait h
waits_kept {c} l l' (restarts t v a) h = restart_waits c l.tasks l.semaphores t v h
waits_kept {c} l l' (pends b w) h = set_waits c l.tasks l.semaphores b PENDING refl (λ d e. let z : ◌≡◌ {A = ℕ} 0 1 = cc in omega arith) h
waits_kept {c} l l' (finishes b u w) h = set_waits c l.tasks l.semaphores b DONE refl (λ d e. omega arith) h
waits_kept {c} l l' (wakes b t e) h = wake_waits c l.tasks l.semaphores b t _ e h
waits_kept {c} l l' (waits t b n w e) h = wait_waits c l.tasks l.semaphores t b _ n w refl h
waits_kept l l' (delivers t m s n) h = h
waits_kept l l' (removes t v p) h = h
waits_kept l l' (puts_entry q e w f) h = h
waits_kept l l' (takes_entry t q e es n k) h = put_waits _ t _ refl (put_waits l.tasks t _ refl h)
waits_kept l l' (starts_timer a b v n s k f) h = h
waits_kept l l' (stops_timers v p) h = h
waits_kept l l' (ticks n) h = h
waits_kept l l' tocks h = h

pub waits_fresh : (c : Config) → length (fresh c).tasks ≡ c.T → SoundWaits c (fresh c).tasks (fresh c).semaphores
unfolding semaphore_of
waits_fresh c n = record {
  tasks = n;
  number = λ b t e. let z : ◌≡◌ {A = ℕ} 0 1 = cc (fresh_semaphore c b) in absurd (omega arith);
  blocked = λ b t e. let z : ◌≡◌ {A = ℕ} 0 1 = cc (fresh_semaphore c b) in absurd (omega arith);
  one = λ b b' t e f. let z : ◌≡◌ {A = ℕ} 0 1 = cc (fresh_semaphore c b) in absurd (omega arith);
  undone = λ b d e. let z : ◌≡◌ {A = ℕ} 0 1 = cc (fresh_semaphore c b) in omega arith;
}
