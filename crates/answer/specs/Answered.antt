-- The ledger's answer, from what the tables say of the running task.
use Rattle.std.specs.Prelude.{◌≡◌, List, [], ◌∷◌, ℕ, ◌-◌}
use Rattle.std.proofs.Common.{sym, ◌∙◌}
use Rattle.std.proofs.Math.Path.{ap}
use Rattle.rows.specs.Rows.{row_at}
use Rattle.ledger.specs.Lists.{at}
use Rattle.ledger.specs.Config.{Config}
use Rattle.ledger.specs.Ledger as ledger
use Rattle.ledger.specs.Ledger.{Ledger, task, running}
use Rattle.ledger.specs.Session.{shown, answer}
use Rattle.tables.specs.declared.shape.Shape.{Shape}
use Rattle.tables.specs.declared.tasks.Task.{Task}
use Rattle.tables.specs.Layout.{OneOf}
use Rattle.tables.specs.Decode.{view_outcome, view_task, record_of}
use Rattle.tables.specs.Shows.{record_in, Shows}
use Rattle.tables.specs.Stored.{shown_task}
use Rattle.answer.specs.declared.Head.{Head}
use Rattle.answer.specs.Written.{written, parts, line}

-- the block goes from old to new as the ledger answers, where its running task is r
abbrev pub Answers : Shape → (d z : List ℕ) → (r number reissues : ℕ) → (old new : List ℕ) → Type 0
Answers s d z r number reissues old new = (c : Config) (L : Ledger) (w : List ℕ) → Shows c s L d z w → r ≡ running L → new ≡ written (answer number reissues L) old

module _ (c : Config) (s : Shape) (L : Ledger) (d z w : List ℕ) (h : Shows c s L d z w) (k : Head) (runs : k.running ≡ running L) (old new : List ℕ) where
  -- the null task's outcome is plain
  pub answer_null : k.running ≡ 0 → new ≡ written (parts k 0 []) old → new ≡ written (answer k.number k.reissues L) old
  unfolding answer task at shown
  answer_null e x =
      x
      ∙ ap (λ (t : ℕ). written (k.number ∷ t ∷ k.reissues ∷ shown (task L 0).outcome) old) runs
      ∙ ap (λ (t : ℕ). written (k.number ∷ running L ∷ k.reissues ∷ shown (task L t).outcome) old) (sym e ∙ runs)

  -- another task's is the record's
  pub answer_task : (r : Task) → OneOf s.tasks k.running → r ≡ record_in s d k.running
      → new ≡ written (line k (view_outcome r.outcome (row_at 16 (k.running - 1) z))) old → new ≡ written (answer k.number k.reissues L) old
  unfolding answer line view_task record_in record_of
  answer_task r o e x =
      x
      ∙ ap (λ (y : Task). written (line k (view_outcome y.outcome (row_at 16 (k.running - 1) z))) old) e
      ∙ ap (λ (y : ledger.Task). written (line k y.outcome) old) (sym (shown_task c s L d z w h k.running o))
      ∙ ap (λ (t : ℕ). written (k.number ∷ t ∷ k.reissues ∷ shown (task L t).outcome) old) runs
