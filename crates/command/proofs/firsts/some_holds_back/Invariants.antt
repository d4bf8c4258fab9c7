-- What is left to look at is the pairs from k on.
use Prim.Native.Nat.{ℕ, ◌*◌}
use mathlib.Core.Path.{◌≡◌}
use mathlib.Core.List.{List}
use lib.ListN.{drop, length}
use Rattle.ledger.specs.Lists.{any}
use Rattle.ledger.specs.Config.{Config, pairs_in}
use Rattle.ledger.specs.Ledger.{Ledger}
use Rattle.ledger.specs.Refusals.{holds_back}
use Rattle.tables.specs.declared.shape.Shape.{Shape}
use Rattle.tables.specs.Layout.{Fits}
use Rattle.tables.specs.Shows.{Shows}
use Rattle.command.proofs.firsts.some_holds_back.Given as goal

abbrev pub invariant-loop-k : goal.invariant-loop-k
invariant-loop-k l = (s : Shape) → Fits s (length l.tables) → s.tasks ≡ l.tasks → (g : Config) (L : Ledger) (z w : List ℕ) → Shows g s L l.tables z w → any (holds_back L l.a) (pairs_in l.pairs) ≡ any (holds_back L l.a) (pairs_in (drop (2 * l.k) l.pairs))
