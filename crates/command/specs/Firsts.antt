-- A pair's two numbers, and what they mean in a ledger shown.
use Rattle.std.specs.Prelude.{ℕ, ◌+◌, ◌*◌, ◌≤◌, ◌≡◌, Bool, true, not, List}
use Rattle.std.proofs.Math.Path.{sym, ap}
use Rattle.std.proofs.Common.{◌∙◌, arith}
use Rattle.std.proofs.Math.Bool.{false}
use Rattle.std.proofs.Math.ListN.{length}
use borrow.Author.Tests.{eq-eqb, ne_eqb, not-true, not-false}
use Rattle.rows.specs.Splice.{cut}
use Rattle.rows.specs.Tab.{tab_length}
use Rattle.ledger.specs.Lists.{within}
use Rattle.ledger.specs.Config.{Config, pair_of, pairs_in, config_in}
use Rattle.ledger.specs.Ledger.{Ledger, Task, null_task, task}
use Rattle.ledger.specs.Refusals.{holds_back}
use Rattle.tables.specs.declared.shape.Shape.{Shape}
use Rattle.ledger.proofs.Theorems.Checks.{within_numbered, at_none}
use Rattle.tables.specs.Layout.{OneOf, Fits, records_at, regions}
use Rattle.tables.specs.Shows.{tasks_in, task_at, Tells}
use Rattle.configuration.specs.Block.{pairs_in_lem}
use Rattle.command.specs.Configured.{Framed, framed}

-- bytes that have the planes, and no more tasks than have a bit there
abbrev pub HasPlanes : (tasks : ℕ) → List ℕ → Type 0
HasPlanes tasks d = (records_at ≤ length d) × (tasks ≤ 126)

-- r is f of every ledger that the bytes show, by every shape with so many tasks
abbrev pub ToldBy : {A : Type 0} → (tasks : ℕ) → List ℕ → (Config → Ledger → A) → A → Type 0
ToldBy tasks d f r = (s : Shape) → Fits s (length d) → s.tasks ≡ tasks → Tells s d f r

pub one_of : (n f j : ℕ) → j ≡ f → not (within 1 n j) ≡ false → OneOf n f
one_of n f j ej e = let k = within_numbered n j (not-false _ e) in (omega (arith, k.from), omega (arith, k.upto))

-- f is the first, t the other; j is the first's number as the program has it
module _ (s : Shape) (d : List ℕ) (a f t : ℕ) where
  -- the pair is another task's
  pub of_another : (t ≡ a → ⊥) → Tells s d (λ c L. holds_back L a (pair_of f t)) false
  unfolding holds_back
  of_another n c L z w h = sym (rw (ne_eqb t a n))

  module _ (e : t ≡ a) where
    -- its first is no task
    pub of_nobody : (j : ℕ) → j ≡ f → not (within 1 s.tasks j) ≡ true → Tells s d (λ c L. holds_back L a (pair_of f t)) false
    unfolding holds_back task tasks_in
    of_nobody j ej n c L z w h =
        let many : length L.tasks ≡ s.tasks = ap length h.shown.tasks ∙ tab_length c.T (task_at c (regions s d) z) ∙ sym h.of.tasks in
        let none : within 1 (length L.tasks) f ≡ false = (λ i. within 1 (many i) (sym ej i)) ∙ not-true _ n in
        sym (rw (eq-eqb t a e) (ap (λ (k : Task). k.blocks.idle) (at_none L.tasks f null_task none)))

    pub of_first : (r : Bool) → Tells s d (λ c L. (task L f).blocks.idle) r → Tells s d (λ c L. holds_back L a (pair_of f t)) r
    unfolding holds_back
    of_first r k c L z w h = k c L z w h ∙ sym (rw (eq-eqb t a e))

-- the pairs of a frame lie behind its queues
pub pairs_behind : {g : List ℕ} {s : Shape} → Framed g s → pairs_in (cut g (8 + s.tasks + 2 * s.queues) (length g)) ≡ (config_in g).pairs
unfolding config_in
pairs_behind {g} {s} (framed l o) = sym (pairs_in_lem g s.tasks s.queues o.tasks o.queues)
