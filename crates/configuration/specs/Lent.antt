-- The ways out of the check of the frame in a block, once its length and how much there is of each are tested.
use Rattle.std.specs.Prelude.{◌≡◌, Bool, ◌&&◌, length, Some}
use Rattle.std.proofs.Common.{refl, sym, ◌∙◌, arith}
use Rattle.std.proofs.Math.Path.{ap, subst}
use Rattle.std.proofs.Math.Bool.{true, false}
use mathlib.Core.List.{List, map}
use Prim.Native.Nat.{ℕ, ◌+◌, ◌*◌, ◌<◌, ◌≤◌}
use borrow.Author.Tests.{leb-true}
use Rattle.rows.specs.Splice.{cut}
use Rattle.ledger.specs.Lists.{byte, sum}
use Rattle.ledger.specs.Config as config
use Rattle.ledger.specs.Config.{Limits, shapes_in, config_in, good_values}
use Rattle.ledger.proofs.Theorems.Checks.{and_left, and_right}
use Rattle.ledger.proofs.Theorems.Configured.{shapes_many}
use Rattle.tables.specs.declared.shape.Shape.{Shape}
use Rattle.tables.specs.Shows.{Of}
use Rattle.configuration.specs.Block.{product, good_shapes, good_queues, frame_rule, counts_rule, counts_first, frame_rule_lem, front_is, shapes_in_lem}
use Rattle.configuration.specs.Limits.{Made}
use Rattle.configuration.specs.Room.{room_in, room_good, room_bad}
use Rattle.configuration.specs.Layout.{laid_out, shape_of, Lends, of_shape}

module _ (m : Limits) (f : List ℕ) (counted : counts_rule m f ≡ true) where
  by_rest : (b : Bool) → (good_values (config_in f) && good_queues m (config_in f)) ≡ b → frame_rule m f ≡ b
  by_rest b e = counts_first m f ∙ rw counted e

  pub lent_front : 8 + byte 0 f + 2 * byte 2 f ≤ length f
  unfolding counts_rule config_in
  lent_front = leb-true (8 + byte 0 f + 2 * byte 2 f) (length f) (search (and_left, and_right) depth 9)

  pub lent_values : good_values (config_in f) ≡ false → frame_rule m f ≡ false
  lent_values e = by_rest false (rw e)

  module _ (made : Made m) (values : good_values (config_in f) ≡ true) where
    abbrev part : List ℕ
    part = cut f (8 + byte 0 f) (8 + byte 0 f + 2 * byte 2 f)

    shapes_are : (config_in f).shapes ≡ shapes_in part
    shapes_are = shapes_in_lem f (byte 0 f) (byte 2 f) refl refl

    pub lent_room : m.bytes < room_in part → frame_rule m f ≡ false
    unfolding good_queues
    lent_room h = by_rest false (rw values (ap (good_shapes m) shapes_are ∙ room_bad m made.bytes part h))

    module _ (n : ℕ) (en : n ≡ room_in part) (h : n ≤ m.bytes) where
      keeps : frame_rule m f ≡ true
      unfolding good_queues
      keeps = by_rest true (rw values (ap (good_shapes m) shapes_are ∙ (room_good m made.bytes part (omega arith)).0))

      many : length (config_in f).shapes ≡ (config_in f).Q
      many = shapes_many f (omega (arith, front_is f, lent_front))

      pub lent_good : (s : Shape) → s ≡ laid_out (byte 0 f) (byte 1 f) (byte 2 f) (byte 3 f) (byte 4 f) (byte 5 f) n → Lends m f (Some s)
      unfolding shape_of config_in
      lent_good s es =
          let r : List config.QueueShape → ℕ = λ l. sum (map product l) in
          let b : n ≡ r (config_in f).shapes = en ∙ (room_good m made.bytes part (omega arith)).1 ∙ ap r (sym shapes_are) in
          let e : s ≡ shape_of (config_in f) = es ∙ ap (laid_out (byte 0 f) (byte 1 f) (byte 2 f) (byte 3 f) (byte 4 f) (byte 5 f)) b in
          (keeps, subst (λ (x : Shape). Of (config_in f) x) (sym e) (of_shape m made (config_in f) (frame_rule_lem m f keeps) many))
