-- An accepted frame within the limits: it keeps the rule of the block by them, and how it is tested.
use Rattle.std.specs.Prelude.{◌≡◌, false, ℕ, ◌+◌, ◌*◌, ◌≤◌}
use Rattle.std.proofs.Math.Path.{refl, sym, ap}
use Rattle.std.proofs.Common.{◌∙◌, arith}
use Rattle.std.proofs.Math.Bool.{true}
use mathlib.Core.List.{List, map}
use Rattle.std.proofs.Math.Dec.{leb}
use Rattle.std.proofs.Math.ListN.{length}
use borrow.Author.Tests.{le-leb}
use Rattle.rows.specs.Splice.{cut}
use Rattle.ledger.specs.Lists.{byte, sum, all}
use Rattle.ledger.specs.Config.{QueueShape, Limits, controller, longest, config_in, front, few_enough, good_head, config_refusal, is_within, config_refusal_by}
use Rattle.ledger.proofs.Theorems.Checks.{and_left, and_right}
use Rattle.ledger.proofs.Theorems.Within.{by_accepted, head_within}
use Rattle.configuration.specs.Block.{shaped, product, good_shapes, good_queues, rule, frame_rule, front_is, shapes_in_lem}
use Rattle.configuration.specs.Head.{few_says}
use Rattle.configuration.specs.Room.{bytes_in}
use Rattle.configuration.specs.Accepted.{accepted}

-- ---- the rule

module _ (m : Limits) (f : List ℕ) (zero : config_refusal_by m f ≡ 0) where
  pub accepted_first : config_refusal f ≡ 0
  accepted_first = (by_accepted m f zero).0

  abbrev within_here : is_within m (config_in f) ≡ true
  within_here = (by_accepted m f zero).1

  queues_within : good_queues m (config_in f) ≡ true
  unfolding good_queues good_shapes rule is_within
  queues_within =
      let c = config_in f in
      let b : leb (sum (map product c.shapes)) m.bytes ≡ true = and_right (few_enough m c) _ within_here in
      let a : all shaped c.shapes ≡ true = and_left _ (leb (sum (map product c.shapes)) controller.bytes) (and_right (good_head controller c) (good_queues controller c) (accepted f accepted_first).rule) in
      rw (a, b)

  pub accepted_rule : frame_rule m f ≡ true
  unfolding frame_rule rule is_within
  accepted_rule =
      let c = config_in f in
      let a = accepted f accepted_first in
      let w = few_says m c (and_left (few_enough m c) _ within_here) in
      let l : front c ≤ length f = omega (arith, front_is f, a.whole.front) in
      let s : length f ≤ longest m = omega (arith, front_is f, a.whole.most, w.tasks, w.queues) in
      let h : good_head m c ≡ true = head_within m c within_here (and_left (good_head controller c) (good_queues controller c) a.rule) in
      rw (le-leb (front c) (length f) l, le-leb (length f) (longest m) s, h) queues_within

-- ---- its test

module _ (m : Limits) (f : List ℕ) where
  pub above : few_enough m (config_in f) ≡ false → false ≡ is_within m (config_in f)
  unfolding is_within
  above e = sym (rw e)

  pub by_bytes : few_enough m (config_in f) ≡ true → (n : ℕ) → n ≡ bytes_in (cut f (8 + byte 0 f) (8 + byte 0 f + 2 * byte 2 f)) → leb n m.bytes ≡ is_within m (config_in f)
  unfolding is_within bytes_in
  by_bytes few n en =
      let e : n ≡ sum (map product (config_in f).shapes) = en ∙ ap (λ (x : List QueueShape). sum (map product x)) (sym (shapes_in_lem f (byte 0 f) (byte 2 f) refl refl)) in
      ap (λ (x : ℕ). leb x m.bytes) e ∙ sym (rw few)
