-- The ways out of the check of the rest: states, queues, pairs.
use Rattle.std.specs.Prelude.{◌≡◌, Bool, ◌&&◌, List, ℕ, ◌+◌, ◌*◌, ◌<◌, ◌≤◌, length}
use Rattle.std.proofs.Math.Path.{refl, sym, ap}
use Rattle.std.proofs.Common.{◌∙◌}
use Rattle.std.proofs.Math.Bool.{true, false, and-false}
use Rattle.std.proofs.Math.Dec.{leb}
use Rattle.rows.specs.Splice.{cut}
use Rattle.ledger.specs.Lists.{byte, all}
use Rattle.ledger.specs.Config.{Limits, shapes_in, pairs_in, config_in, good_pair, good_rest}
use Rattle.configuration.specs.Block.{good_shapes, good_queues, good_pairs, rest_parts, states_in, shapes_in_lem, pairs_in_lem}
use Rattle.configuration.specs.Limits.{Made}
use Rattle.configuration.specs.Room.{room_in, room_good, room_bad}

module _ (m : Limits) (f states : List ℕ) (es : states ≡ cut f 8 (8 + byte 0 f)) where
  states_are : (config_in f).states ≡ states
  states_are = states_in f (byte 0 f) (byte 2 f) refl refl ∙ sym es

  pub bad_states : all (λ s. leb s 1) states ≡ false → false ≡ good_rest m (config_in f)
  bad_states e = sym (rest_parts m (config_in f) ∙ rw (ap (all (λ s. leb s 1)) states_are ∙ e))

  module _ (made : Made m) (queues : List ℕ) (eq : queues ≡ cut f (8 + byte 0 f) (8 + byte 0 f + 2 * byte 2 f)) where
    shapes_are : (config_in f).shapes ≡ shapes_in queues
    shapes_are = shapes_in_lem f (byte 0 f) (byte 2 f) refl refl ∙ ap shapes_in (sym eq)

    pub bad_room : m.bytes < room_in queues → false ≡ good_rest m (config_in f)
    unfolding good_queues
    bad_room h =
        let s : Bool = all (λ s. leb s 1) (config_in f).states in
        let k : Bool = good_pairs (config_in f) in
        let q : good_shapes m (config_in f).shapes ≡ false = ap (good_shapes m) shapes_are ∙ room_bad m made.bytes queues h in
        sym (rest_parts m (config_in f) ∙ ap (λ (b : Bool). s && b && k) q ∙ ap (λ (b : Bool). b && k) (and-false s))

    module _ (pairs : List ℕ) (ep : pairs ≡ cut f (8 + byte 0 f + 2 * byte 2 f) (length f)) (t : length states ≡ byte 0 f) where
      pairs_are : good_pairs (config_in f) ≡ all (good_pair (length states) states) (pairs_in pairs)
      unfolding good_pairs config_in
      pairs_are =
          let p : (config_in f).pairs ≡ pairs_in pairs = pairs_in_lem f (byte 0 f) (byte 2 f) refl refl ∙ ap pairs_in (sym ep) in
          λ i. all (good_pair (sym t i) (states_are i)) (p i)

      pub by_pairs : all (λ s. leb s 1) states ≡ true → room_in queues ≤ m.bytes → all (good_pair (length states) states) (pairs_in pairs) ≡ good_rest m (config_in f)
      unfolding good_queues
      by_pairs e h =
          let s : all (λ s. leb s 1) (config_in f).states ≡ true = ap (all (λ s. leb s 1)) states_are ∙ e in
          let q : good_shapes m (config_in f).shapes ≡ true = ap (good_shapes m) shapes_are ∙ (room_good m made.bytes queues h).0 in
          sym (rest_parts m (config_in f) ∙ rw (s, q) pairs_are)
