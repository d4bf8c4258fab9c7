-- `enqueue`: the entry is the part of the frame behind its fifth byte, as wide as the ring's entries.
use mathlib.Core.Path.{sym, ap, ◌∙◌}
use mathlib.Core.List.{List}
use Prim.Native.Nat.{ℕ}
use native.Mathlib.Omega.{arith}
use lib.ListN.{length}
use Rattle.ledger.specs.Config.{config_in}
use Rattle.tables.specs.Lent.{by}
use Rattle.tables.specs.Shows.{moved}
use Rattle.queues.specs.Rings.{width_is}
use Rattle.ledger.specs.Ledger as ledger
use Rattle.ledger.specs.Services as services
use Rattle.executive.specs.Carried.{sixth, frame_long}
use Rattle.executive.proofs.queue.enqueue.Goals as goal

pub slice_bounds-enqueue-count : goal.slice_bounds-enqueue-count
slice_bounds-enqueue-count c = let r = c.ring-r in omega (arith, frame_long (config_in c.args.config.now) c.args.tables.now.shape c.args.q _ c.args.frame.now c.requires.2.0 r.ensures.0 r.ensures.1 c.requires.3)

pub slice_bounds-enqueue-start : goal.slice_bounds-enqueue-start
slice_bounds-enqueue-start c = let r = c.ring-r in omega (arith, frame_long (config_in c.args.config.now) c.args.tables.now.shape c.args.q _ c.args.frame.now c.requires.2.0 r.ensures.0 r.ensures.1 c.requires.3)

pub enqueue-requires : goal.enqueue-requires
enqueue-requires c = let a = c.args in let r = c.ring-r in (r.ensures.1, c.requires.2, c.requires.1, ap length (sixth a.frame.now) ∙ c.requires.3 ∙ sym (ap (λ x. x.width) r.ensures.0 ∙ width_is (config_in a.config.now) a.tables.now.shape a.q c.requires.2.0))

pub returns : goal.returns
returns c =
    let a = c.args in
    let g = config_in a.config.now in
    by c.enqueue.ensures (λ puts tidy L z w h. moved (ap (λ (y : List ℕ). services.issue g a.me (ledger.enqueue a.q y) L) (sixth a.frame.now)) (puts tidy g L z w c.ring-r.ensures.0 h))
