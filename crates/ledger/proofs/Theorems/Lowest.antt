-- The runnable task with the lowest number runs, else the null task, 0: `lowest_runnable` counts up along the list of tasks and stops at the first one with no block.
use Rattle.ledger.specs.Good.{TaskRuns, Numbered}
use Rattle.std.specs.Prelude.{ℕ, zero, suc, ◌+◌, ◌≤◌, ◌<◌, ◌≡◌, refl, ◌⊎◌, Bool, true, false, cond, List, [], ◌∷◌, length, get_or}
use Rattle.std.proofs.Common.{inl, inr, arith}
use Rattle.ledger.specs.Lists.{at}
use Rattle.ledger.specs.Ledger.{Task, Ledger, null_task, task, runnable, lowest_runnable, running}

-- the null task runs: no task is runnable
pub record NullRuns (T : ℕ) (l : Ledger) (n : ℕ) : Type 0 where
  pub null : n ≡ 0
  pub none : (t : ℕ) → Numbered T t → runnable (task l t) ≡ false

-- ---- the same along a part of the list whose first task has number n

record First (n : ℕ) (ts : List Task) (m : ℕ) : Type 0 where
  place : ℕ
  number : m ≡ n + place
  there : place < length ts
  runs : runnable (get_or ts place null_task) ≡ true
  lowest : (i : ℕ) → i < place → runnable (get_or ts i null_task) ≡ false

record NoFirst (n : ℕ) (ts : List Task) (m : ℕ) : Type 0 where
  null : m ≡ 0
  none : (i : ℕ) → i < length ts → runnable (get_or ts i null_task) ≡ false

behind : (t : Task) (ts : List Task) → runnable t ≡ false → (k : ℕ) → ((i : ℕ) → i < k → runnable (get_or ts i null_task) ≡ false)
    → (i : ℕ) → i < suc k → runnable (get_or (t ∷ ts) i null_task) ≡ false
behind t ts e k h zero p = e
behind t ts e k h (suc i) p = h i (omega arith)

found : (b : Bool) (n m : ℕ) (t : Task) (ts : List Task) → runnable t ≡ b → First (suc n) ts m ⊎ NoFirst (suc n) ts m
    → First n (t ∷ ts) (cond b n m) ⊎ NoFirst n (t ∷ ts) (cond b n m)
found true n m t ts e h = inl (record { place = 0; number = omega arith; there = omega arith; runs = e; lowest = λ i p. absurd (omega arith) })
found false n m t ts e (inl p) = inl (record {
  place = suc p.place;
  number = omega arith;
  there = omega arith;
  runs = p.runs;
  lowest = behind t ts e p.place p.lowest;
})
found false n m t ts e (inr p) = inr (record { null = p.null; none = behind t ts e (length ts) p.none })

first : (n : ℕ) (ts : List Task) → First n ts (lowest_runnable n ts) ⊎ NoFirst n ts (lowest_runnable n ts)
unfolding lowest_runnable
first n [] = inr (record { null = refl; none = λ i p. absurd (omega arith) })
first n (t ∷ ts) = found (runnable t) n (lowest_runnable (suc n) ts) t ts refl (first (suc n) ts)

below : (ts : List Task) (k : ℕ) → ((i : ℕ) → i < k → runnable (get_or ts i null_task) ≡ false) → (t : ℕ) → 1 ≤ t → t < suc k → runnable (at ts t null_task) ≡ false
unfolding at
below ts k h zero p q = absurd (omega arith)
below ts k h (suc i) p q = h i (omega arith)

lowest_of : (l : Ledger) (n : ℕ) → First 1 l.tasks n ⊎ NoFirst 1 l.tasks n → TaskRuns (length l.tasks) l n ⊎ NullRuns (length l.tasks) l n
unfolding task at
lowest_of l zero (inl p) = absurd (omega arith)
lowest_of l (suc n) (inl p) =
    let e : n ≡ p.place = omega arith in
    inl (record { number = omega arith; runs = rw e p.runs; lowest = rw e (below l.tasks p.place p.lowest) })
lowest_of l n (inr p) = inr (record { null = p.null; none = λ t h. below l.tasks (length l.tasks) p.none t h.from (omega arith) })

-- in every ledger with T tasks
pub lowest_runs : (T : ℕ) (l : Ledger) → length l.tasks ≡ T → TaskRuns T l (running l) ⊎ NullRuns T l (running l)
unfolding running
lowest_runs T l h = rw h at (lowest_of l (running l) (first 1 l.tasks))
