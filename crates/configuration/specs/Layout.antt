-- The shape of the tables that a configuration asks for.
use Rattle.std.specs.Prelude.{◌≡◌, refl, true, false, List, map, ℕ, ◌+◌, ◌*◌, ◌≤◌, length, Option, None, Some}
use native.Mathlib.Omega.{arith}
use borrow.Author.Tests.{leb-true}
use Rattle.ledger.specs.Lists.{sum, all}
use Rattle.ledger.specs.Config.{Config, Limits, config_in, good_head}
use Rattle.ledger.specs.Services.{shape}
use Rattle.ledger.proofs.Theorems.Checks.{and_left, and_right, at_all}
use Rattle.tables.specs.declared.shape.Shape.{Shape}
use Rattle.tables.specs.Layout.{records_at, Laid}
use Rattle.tables.specs.Shows.{bytes_of, Of}
use Rattle.configuration.specs.Block.{shaped, product, good_shapes, good_queues, rule, frame_rule}
use Rattle.configuration.specs.Limits.{Made}
use Rattle.configuration.specs.Head.{Head, head_says}
use Rattle.configuration.specs.Room.{Sized, sized}

abbrev pub laid_out : (t s q r g k room : ℕ) → Shape
laid_out t s q r g k n =
    record {
      tasks = t;
      named = s;
      semaphores = s + t + 2 * q;
      queues = q;
      timers = r;
      messages = g;
      ticks = k;
      recordat = records_at;
      semaphoreat = records_at + 6 * t;
      waitingat = records_at + 6 * t + (s + t + 2 * q);
      ringat = records_at + 6 * t + (s + t + 2 * q) + 16 * t;
      messageat = records_at + 6 * t + (s + t + 2 * q) + 16 * t + 2 * q;
      bodyat = records_at + 6 * t + (s + t + 2 * q) + 16 * t + 2 * q + 4 * g;
      end = records_at + 6 * t + (s + t + 2 * q) + 16 * t + 2 * q + 4 * g + n;
    }

pub laid_out_lem : (m : Limits) → Made m → (c : Config) (n : ℕ) → Head m c → n ≤ m.bytes → Laid (laid_out c.T c.S c.Q c.R c.G c.K n)
laid_out_lem m made c n h b =
    let f = h.few in
    let v = h.values in
    record {
      some = v.some;
      few = omega (arith, f.tasks, made.tasks);
      semaphores = refl;
      sum = v.sum;
      queues = omega (arith, f.queues, made.queues);
      timers = omega (arith, f.timers, made.timers);
      messages = omega (arith, f.messages, made.messages);
      ticks = v.ticks;
      tocks = v.tocks;
      records = refl;
      states = refl;
      waiting = refl;
      rings = refl;
      mail = refl;
      bodies = refl;
      after = omega arith;
      whole = omega (arith, b, made.bytes);
    }

unfoldable pub shape_of : Config → Shape
shape_of c = laid_out c.T c.S c.Q c.R c.G c.K (sum (map product c.shapes))

-- what a frame in the block is
abbrev pub Lends : Limits → List ℕ → Option Shape → Type 0
Lends m f None = frame_rule m f ≡ false
Lends m f (Some s) = (frame_rule m f ≡ true) × Of (config_in f) s

-- ---- the shape of a configuration that keeps the rule
module _ (m : Limits) (made : Made m) (c : Config) (h : rule m c ≡ true) where
  pub rule_head : Head m c
  unfolding rule
  rule_head = head_says m c (and_left (good_head m c) (good_queues m c) h)

  rule_shaped : all shaped c.shapes ≡ true
  unfolding rule good_queues good_shapes
  rule_shaped = and_left _ _ (and_right (good_head m c) (good_queues m c) h)

  pub rule_room : sum (map product c.shapes) ≤ m.bytes
  unfolding rule good_queues good_shapes
  rule_room = leb-true (sum (map product c.shapes)) m.bytes (and_right (all shaped c.shapes) _ (and_right (good_head m c) (good_queues m c) h))

  module _ (n : length c.shapes ≡ c.Q) where
    rule_sized : (q : ℕ) → 1 ≤ q → q ≤ c.Q → Sized (shape c q).width (shape c q).depth
    unfolding shape
    rule_sized q a b =
        sized (shape c q).width (shape c q).depth
        (at_all shaped c.shapes q (record { width = 0; depth = 0 }) rule_shaped (record { from = a; upto = omega arith }))

    pub of_shape : Of c (shape_of c)
    unfolding shape_of bytes_of
    of_shape =
        let w = rule_sized in
        record {
          laid = laid_out_lem m made c (sum (map product c.shapes)) rule_head rule_room;
          tasks = refl;
          named = refl;
          queues = refl;
          timers = refl;
          messages = refl;
          ticks = refl;
          shapes = n;
          widths = λ q a b. ((w q a b).wide, (w q a b).narrow);
          depths = λ q a b. ((w q a b).deep, (w q a b).shallow);
          bodies = refl;
        }

-- the bytes of its frame in front of the pairs
abbrev pub front_bytes : Shape → ℕ
front_bytes s = 8 + s.tasks + 2 * s.queues

-- there is no other
pub of_one : (c : Config) (s : Shape) → Of c s → s ≡ shape_of c
unfolding shape_of bytes_of
of_one c s o =
    let l = o.laid in
    let f : (x y : ℕ) → x ≡ y → x ≡ y = λ x y e. e in
    λ i. record {
      tasks = f s.tasks (shape_of c).tasks (omega arith) i;
      named = f s.named (shape_of c).named (omega arith) i;
      semaphores = f s.semaphores (shape_of c).semaphores (omega arith) i;
      queues = f s.queues (shape_of c).queues (omega arith) i;
      timers = f s.timers (shape_of c).timers (omega arith) i;
      messages = f s.messages (shape_of c).messages (omega arith) i;
      ticks = f s.ticks (shape_of c).ticks (omega arith) i;
      recordat = f s.recordat (shape_of c).recordat (omega arith) i;
      semaphoreat = f s.semaphoreat (shape_of c).semaphoreat (omega arith) i;
      waitingat = f s.waitingat (shape_of c).waitingat (omega arith) i;
      ringat = f s.ringat (shape_of c).ringat (omega arith) i;
      messageat = f s.messageat (shape_of c).messageat (omega arith) i;
      bodyat = f s.bodyat (shape_of c).bodyat (omega arith) i;
      end = f s.end (shape_of c).end (omega arith) i;
    }
