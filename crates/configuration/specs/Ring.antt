-- The ring of a queue, read in the block: its entries begin behind the bytes of the queues before it.
use Rattle.std.specs.Prelude.{◌≡◌, ℕ, zero, suc, ◌+◌, ◌-◌, ◌*◌, ◌<◌, ◌≤◌, length, drop}
use Rattle.std.proofs.Common.{sym, ◌∙◌, take-take}
use Rattle.std.proofs.Math.Path.{ap}
use mathlib.Core.List.{List, [], ◌∷◌, map}
use native.Mathlib.Omega.{arith}
use Rattle.std.proofs.Math.ListN.{get_or, take}
use Rattle.rows.specs.Splice.{cut}
use Rattle.rows.specs.Laws.{length_cut, get_d_cut}
use Rattle.ledger.specs.Lists.{at, byte, sum}
use Rattle.ledger.specs.Config as config
use Rattle.ledger.specs.Config.{shapes_in, config_in}
use Rattle.ledger.proofs.Theorems.Twos.{twos_at, twos_take}
use Rattle.ledger.specs.Services.{shape}
use Rattle.tables.specs.declared.shape.Shape.{Shape}
use Rattle.tables.specs.Shows.{bytes_of, begins, Of}
use Rattle.queues.specs.Rings.{ring_of}
use Rattle.configuration.specs.Block.{product, shapes_in_lem}
use Rattle.configuration.specs.Layout.{front_bytes}
use Rattle.configuration.specs.Room.{bytes_in}

-- ---- the first of them take no more

sum_take : (i : ℕ) (l : List config.QueueShape) → sum (map product (take i l)) ≤ sum (map product l)
unfolding sum
sum_take zero l = omega arith
sum_take (suc i) [] = omega arith
sum_take (suc i) (x ∷ xs) = omega (arith, sum_take i xs)

-- ---- of a block
module _ (g : List ℕ) (s : Shape) (long : front_bytes s ≤ length g) (o : Of (config_in g) s) (i : ℕ) (hi : i < s.queues) where
  t_is : s.tasks ≡ byte 0 g
  unfolding config_in
  t_is = o.tasks

  q_is : s.queues ≡ byte 2 g
  unfolding config_in
  q_is = o.queues

  abbrev here : ℕ
  here = 8 + s.tasks

  pub ring_in : here + 2 * i + 1 < length g
  ring_in = let l = o.laid in omega arith

  abbrev part : List ℕ
  part = cut g here (here + 2 * s.queues)

  shapes_are : (config_in g).shapes ≡ shapes_in part
  shapes_are = shapes_in_lem g s.tasks s.queues t_is q_is

  part_length : length part ≡ 2 * s.queues
  part_length = let l = o.laid in length_cut g here (here + 2 * s.queues) (omega arith) ∙ omega arith

  part_at : (j : ℕ) → j < 2 * s.queues → get_or part j 0 ≡ get_or g (here + j) 0
  part_at j h = get_d_cut g here (here + 2 * s.queues) j (omega arith)

  small : sum (map product (config_in g).shapes) ≤ 4096
  unfolding bytes_of
  small = let l = o.laid in omega (arith, o.bodies)

  front_bytes_lem : bytes_in (cut g here (here + 2 * i)) ≡ begins (config_in g) i
  unfolding begins bytes_of bytes_in
  front_bytes_lem =
      let x : here + 2 * i - here ≡ 2 * i = omega arith in
      let y : cut g here (here + 2 * i) ≡ take (2 * i) part = rw x (sym (take-take (2 * i) (here + 2 * s.queues - here) (drop here g) (omega arith))) in
      let p : shapes_in (take (2 * i) part) ≡ take i (config_in g).shapes = twos_take _ i part ∙ ap (take i) (sym shapes_are) in
      ap bytes_in y ∙ ap (λ (z : List config.QueueShape). sum (map product z)) p

  front_low : bytes_in (cut g here (here + 2 * i)) ≤ 4096
  unfolding begins bytes_of
  front_low = omega (arith, front_bytes_lem, sum_take i (config_in g).shapes, small)

  shape_is : shape (config_in g) (suc i) ≡ record { width = get_or g (here + 2 * i) 0; depth = get_or g (here + 2 * i + 1) 0 }
  unfolding shape at
  shape_is =
      let e : here + (2 * i + 1) ≡ here + 2 * i + 1 = omega arith in
      ap (λ (z : List config.QueueShape). get_or z i (record { width = 0; depth = 0 })) shapes_are ∙ twos_at _ i part _ (omega (arith, part_length))
      ∙ rw (part_at (2 * i) (omega arith), part_at (2 * i + 1) (omega arith), e)

  ring_read : record { width = get_or g (here + 2 * i) 0; depth = get_or g (here + 2 * i + 1) 0; base = s.bodyat + bytes_in (cut g here (here + 2 * i)) } ≡ ring_of (config_in g) s (suc i)
  unfolding ring_of
  ring_read = λ x. record { width = (sym shape_is x).width; depth = (sym shape_is x).depth; base = s.bodyat + front_bytes_lem x }

module _ (g : List ℕ) (s : Shape) (long : front_bytes s ≤ length g) (o : Of (config_in g) s) (q : ℕ) (lo : 1 ≤ q) (hi : q ≤ s.queues) where
  pub ring_inside : 8 + s.tasks + 2 * (q - 1) + 1 < length g
  ring_inside = ring_in g s long o (q - 1) (omega arith)

  pub ring_base : s.bodyat + bytes_in (cut g (8 + s.tasks) (8 + s.tasks + 2 * (q - 1))) ≤ 8192
  ring_base = let l = o.laid in omega (arith, front_low g s long o (q - 1) (omega arith))

  pub ring_is : (w d n : ℕ) → w ≡ get_or g (8 + s.tasks + 2 * (q - 1)) 0 → d ≡ get_or g (8 + s.tasks + 2 * (q - 1) + 1) 0 → n ≡ bytes_in (cut g (8 + s.tasks) (8 + s.tasks + 2 * (q - 1)))
      → record { width = w; depth = d; base = s.bodyat + n } ≡ ring_of (config_in g) s q
  ring_is w d n ew ed en =
      let e : suc (q - 1) ≡ q = omega arith in
      (λ i. record { width = ew i; depth = ed i; base = s.bodyat + en i }) ∙ ring_read g s long o (q - 1) (omega arith) ∙ ap (ring_of (config_in g) s) e
