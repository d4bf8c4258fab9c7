-- The lowest row without a block is the running task's.
use Rattle.std.specs.Prelude.{◌≡◌, refl, Bool, ◌&&◌, ◌||◌, length}
use Rattle.std.proofs.Math.Path.{sym, ap}
use Rattle.std.proofs.Common.{◌∙◌, not-suc-le-zero, le_of_suc-le-suc, add-zero, arith}
use Rattle.std.proofs.Math.Bool.{true, false, not}
use mathlib.Core.List.{List}
use Prim.Native.Nat.{ℕ, zero, suc, ◌+◌, ◌<◌, ◌≤◌}
use Rattle.rows.specs.Splice.{cut}
use Rattle.rows.specs.Tab.{tab}
use Rattle.ledger.specs.Config.{Config}
use Rattle.ledger.specs.Ledger as ledger
use Rattle.ledger.specs.Ledger.{runnable, lowest_runnable, running}
use Rattle.tables.specs.declared.shape.Shape.{Shape}
use Rattle.tables.specs.Layout.{planes_at, records_at, Fits, planes_are, regions}
use Rattle.tables.specs.Bits.{Lowest}
use Rattle.tables.specs.Planes.{blocks_at, blocked_at}
use Rattle.tables.specs.Decode.{view_blocks, view_task, record_of}
use Rattle.tables.specs.Shows.{task_at, tasks_in, Tells}

free_is : (i u e m : Bool) → (not i && not u && not e && not m) ≡ not (i || u || e || m)
free_is true u e m = refl
free_is false true e m = refl
free_is false false true m = refl
free_is false false false true = refl
free_is false false false false = refl

lowest_here : (n m k : ℕ) (f : ℕ → ledger.Task) → ((j : ℕ) → j < k → runnable (f j) ≡ false) → runnable (f k) ≡ true → k < n → lowest_runnable m (tab n f) ≡ m + k
unfolding lowest_runnable tab
lowest_here zero m k f h e l = absurd (not-suc-le-zero l)
lowest_here (suc n) m zero f h e l = rw e (sym (add-zero m))
lowest_here (suc n) m (suc k) f h e l =
    let z : suc m + k ≡ m + suc k = omega arith in
    rw (h 0 (omega arith)) (lowest_here n (suc m) k (λ i. f (suc i)) (λ j g. h (suc j) (omega arith)) e (le_of_suc-le-suc l) ∙ z)

lowest_none : (n m : ℕ) (f : ℕ → ledger.Task) → ((j : ℕ) → j < n → runnable (f j) ≡ false) → lowest_runnable m (tab n f) ≡ 0
unfolding lowest_runnable tab
lowest_none zero m f h = refl
lowest_none (suc n) m f h = rw (h 0 (omega arith)) (lowest_none n (suc m) (λ i. f (suc i)) (λ j g. h (suc j) (omega arith)))

-- ---- what the memory then shows
module _ (s : Shape) (d : List ℕ) (fits : Fits s (length d)) (i : ℕ) (lowest : Lowest 128 (blocked_at (cut d planes_at records_at)) i) where
  runnable_is : (c : Config) (z : List ℕ) (j : ℕ) (v : Bool) → blocked_at (cut d planes_at records_at) j ≡ v → runnable (task_at c (regions s d) z j) ≡ not v
  unfolding runnable task_at view_task view_blocks record_of blocks_at blocked_at
  runnable_is c z j v e =
      let p : List ℕ = (regions s d).blocks in
      let b = blocks_at p j in
      free_is b.idle b.suspended b.event b.message ∙ ap (λ (x : List ℕ). not (blocked_at x j)) (planes_are fits d) ∙ ap not e

  pub runs : i < s.tasks → s.tasks ≤ 126 → Tells s d (λ c L. running L) (i + 1)
  unfolding running tasks_in
  runs l few c L z w h =
      sym (ap (lowest_runnable 1) h.shown.tasks
      ∙ lowest_here c.T 1 i (task_at c (regions s d) z) (λ j g. runnable_is c z j true (lowest.below j g)) (runnable_is c z i false (lowest.here (omega arith))) (omega (arith, h.of.tasks))
      ∙ omega arith)

  pub none_runs : s.tasks ≤ i → Tells s d (λ c L. running L) 0
  unfolding running tasks_in
  none_runs a c L z w h =
      sym (ap (lowest_runnable 1) h.shown.tasks ∙ lowest_none c.T 1 (task_at c (regions s d) z) (λ j g. runnable_is c z j true (lowest.below j (omega (arith, h.of.tasks)))))
