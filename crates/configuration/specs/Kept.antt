-- How long a frame is and how much there is of each, where the frame is the first n of a block's bytes: both are read among those bytes,
-- whatever n is.
use Rattle.std.specs.Prelude.{◌≡◌, false, ◌&&◌, List, ℕ, ◌+◌, ◌*◌, ◌<◌, ◌≤◌, ltb, get_or}
use Rattle.std.proofs.Common.{ap, ◌∙◌, arith, length-take, length-drop}
use Rattle.std.proofs.Math.Bool.{Bool, and-false}
use Rattle.std.proofs.Math.Dec.{leb}
use Rattle.std.proofs.Math.ListN.{length}
use borrow.Author.Tests.{ltb-true, ltb-false, le-leb, lt-leb}
use Rattle.rows.specs.Splice.{cut}
use Rattle.rows.specs.Laws.{length_cut, get_d_cut}
use Rattle.ledger.specs.Lists.{byte}
use Rattle.ledger.specs.Config.{Limits, longest, config_in, front, few_enough}
use Rattle.tables.specs.Encoded.{case}
use Rattle.configuration.specs.Block.{counts_rule, front_is}

module _ (m : Limits) (b : List ℕ) (n : ℕ) (room : longest m < length b) where
  abbrev f : List ℕ
  f = cut b 0 n

  -- longer than the longest
  pub counts_long : longest m < n → counts_rule m f ≡ false
  unfolding counts_rule
  counts_long h =
      let l : longest m < length f = simp (length-take, length-drop) (omega arith) in
      let x : Bool = few_enough m (config_in f) in
      rw (lt-leb (length f) (longest m) l) (ap (λ (y : Bool). y && x) (and-false (leb (front (config_in f)) (length f))))

  module _ (short : n ≤ longest m) where
    length_f : length f ≡ n
    length_f = length_cut b 0 n (omega arith) ∙ omega arith

    byte_f : (i : ℕ) → i < n → byte i f ≡ byte i b
    byte_f i h =
        let e : 0 + i ≡ i = omega arith in
        get_d_cut b 0 n i (omega arith) ∙ ap (λ (j : ℕ). get_or b j 0) e

    -- without what is in front of the pairs
    shorter : length f < front (config_in f) → counts_rule m f ≡ false
    unfolding counts_rule
    shorter h = rw (lt-leb (front (config_in f)) (length f) h)

    pub counts_short : n < 8 + byte 0 b + 2 * byte 2 b → counts_rule m f ≡ false
    counts_short h =
        case (ltb n 8) (λ k. shorter (omega (arith, ltb-true n 8 k, front_is f, length_f)))
        (λ k. let l = ltb-false n 8 k in shorter (omega (arith, front_is f, length_f, byte_f 0 (omega arith), byte_f 2 (omega arith))))

    module _ (whole : 8 + byte 0 b + 2 * byte 2 b ≤ n) where
      same_counts : few_enough m (config_in f) ≡ few_enough m (config_in b)
      unfolding few_enough config_in
      same_counts =
          let z : (i : ℕ) → i < 8 → byte i f ≡ byte i b = λ i k. byte_f i (omega arith) in
          λ i. leb (z 0 (omega arith) i) m.tasks && leb (z 2 (omega arith) i) m.queues && leb (z 3 (omega arith) i) m.timers && leb (z 4 (omega arith) i) m.messages

      pub counts_few : (r : Bool) → r ≡ few_enough m (config_in b) → counts_rule m f ≡ r
      unfolding counts_rule
      counts_few r e =
          let l : front (config_in f) ≤ length f = omega (arith, front_is f, length_f, byte_f 0 (omega arith), byte_f 2 (omega arith)) in
          let s : length f ≤ longest m = omega (arith, length_f) in
          rw (le-leb (front (config_in f)) (length f) l, le-leb (length f) (longest m) s, e) same_counts
