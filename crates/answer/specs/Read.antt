-- The answer block, read back: its first byte is the answer's length, 4 to 20, and the answer lies behind it.
use Rattle.std.specs.Prelude.{◌≡◌, List, get_or, drop}
use Rattle.std.proofs.Math.Path.{refl, subst}
use Rattle.std.proofs.Common.{sym, take_at}
use Prim.Native.Nat.{ℕ, zero, suc, ◌+◌, ◌-◌, ◌≤◌}
use native.Mathlib.Omega.{arith}
use Rattle.std.proofs.Math.ListN.{length, length-take}
use Rattle.rows.specs.Splice.{cut}
use Rattle.rows.specs.Rows.{row_at}
use Rattle.ledger.specs.Lists.{at}
use Rattle.ledger.specs.Config.{Config}
use Rattle.ledger.specs.Ledger as ledger
use Rattle.ledger.specs.Ledger.{Ledger, task, running}
use Rattle.ledger.specs.Session.{shown, answer}
use Rattle.tables.specs.declared.shape.Shape.{Shape}
use Rattle.tables.specs.declared.tasks.Outcome.{Outcome}
use Rattle.tables.specs.declared.tasks.Outcome.TheVariants.{Plain, Begin, Message, Entry, Refused, Semaphore, Woke}
use Rattle.tables.specs.Decode.{view_outcome, view_task}
use Rattle.tables.specs.Shows.{Shows}
use Rattle.tables.specs.Stored.{record_is, shown_task}
use Rattle.answer.specs.Written.{written}

module _ (a old : List ℕ) where
  pub read_length : get_or (written a old) 0 0 ≡ length a
  unfolding written
  read_length = refl

  pub read_answer : cut (written a old) 1 (1 + length a) ≡ a
  unfolding written
  read_answer = let e : 1 + length a - 1 ≡ length a = omega arith in rw e (take_at a (drop (suc (length a)) old) (length a) refl)

-- 1 to 17 bytes show an outcome
abbrev Short : List ℕ → Type 0
Short l = (1 ≤ length l) × (length l ≤ 17)

view_short : (o : Outcome) (z : List ℕ) → length z ≤ 16 → Short (shown (view_outcome o z))
unfolding shown view_outcome
view_short Plain z h = (omega arith, omega arith)
view_short Begin z h = (omega arith, omega arith)
view_short (Message a b c) z h = (omega arith, omega arith)
view_short (Entry w) z h = (omega arith, simp length-take (omega arith))
view_short (Refused a) z h = (omega arith, omega arith)
view_short (Semaphore a) z h = (omega arith, omega arith)
view_short (Woke a) z h = (omega arith, omega arith)

module _ (c : Config) (s : Shape) (L : Ledger) (d z w : List ℕ) (h : Shows c s L d z w) where
  task_short : (t : ℕ) → t ≤ s.tasks → Short (shown (task L t).outcome)
  unfolding task at shown view_task
  task_short zero hi = (omega arith, omega arith)
  task_short (suc t) hi =
      subst (λ (k : ledger.Task). Short (shown k.outcome)) (sym (shown_task c s L d z w h (suc t) (omega arith, hi)))
      (view_short (record_is c s L d z w h (suc t) (omega arith, hi)).outcome (row_at 16 (suc t - 1) z) (simp length-take (omega arith)))

  -- so the block of 21 bytes has room for every answer
  pub answer_short : running L ≤ s.tasks → (n m : ℕ) → (4 ≤ length (answer n m L)) × (length (answer n m L) ≤ 20)
  unfolding answer
  answer_short hi n m =
      let x : Short (shown (task L (running L)).outcome) = task_short (running L) hi in
      (omega (arith, x.0), omega (arith, x.1))
