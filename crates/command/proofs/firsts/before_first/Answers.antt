-- Only a task that is to start has firsts; the pairs are what lies behind the queues.
use native.Mathlib.Omega.{arith}
use mathlib.Core.Path.{ap, refl, ◌∙◌}
use mathlib.Core.List.{List}
use Rattle.ledger.specs.Lists.{any}
use Rattle.ledger.specs.Config.{Pair, config_in}
use Rattle.ledger.specs.Refusals.{holds_back, meets26}
use Rattle.tables.specs.Layout as layout
use Rattle.command.specs.Configured.{bytes, few}
use Rattle.command.specs.Firsts.{pairs_behind}
use Rattle.command.proofs.firsts.before_first.Goals as goal

pub overflow_add-from : goal.overflow_add-from
overflow_add-from c = omega (arith, few c.requires.0)

pub overflow_mul-from : goal.overflow_mul-from
overflow_mul-from c = omega (arith, few c.requires.0)

pub overflow_add-from-in-ToStart : goal.overflow_add-from-in-ToStart
overflow_add-from-in-ToStart c = omega (arith, few c.requires.0)

pub slice_bounds-some_holds_back-count : goal.slice_bounds-some_holds_back-count
slice_bounds-some_holds_back-count c = omega (arith, bytes c.requires.0)

pub slice_bounds-some_holds_back-start : goal.slice_bounds-some_holds_back-start
slice_bounds-some_holds_back-start c = omega (arith, bytes c.requires.0)

pub some_holds_back-requires : goal.some_holds_back-requires
some_holds_back-requires c = (layout.planes_in c.requires.1, layout.few c.requires.1)

pub returns-in-ToStart : goal.returns-in-ToStart
unfolding meets26
returns-in-ToStart c =
    let g = config_in c.args.config.now in
    λ L z w h. rw c.in-ToStart.is (c.some_holds_back.ensures c.args.shape c.requires.1 refl g L z w h ∙ ap (λ (l : List Pair). any (holds_back L c.args.a) l) (pairs_behind c.requires.0))
