-- The planes, computed.
use Rattle.std.specs.Prelude.{◌≡◌, refl, true, false, List, ℕ, replicate, set}
use Rattle.tables.specs.declared.blocks.Block.TheVariants.{Suspended, Event, Message}
use Rattle.tables.specs.Bits.{bit}
use Rattle.tables.specs.Planes.{has, blocks_at, blocked_at}

-- no bit; and one, of task 126 in the plane of event wait (byte 15 of the plane, bit 5)
none : List ℕ
none = replicate 64 0

one : List ℕ
one = set none 47 32

pub record Examples : Type 0 where
  there : has Event one 125 ≡ true
  task_before : has Event one 124 ≡ false
  plane_before : has Suspended one 125 ≡ false
  plane_behind : has Message one 125 ≡ false
  blocks : blocks_at one 125 ≡ record { idle = false; suspended = false; event = true; message = false }
  blocked : blocked_at one 125 ≡ true
  free : blocked_at none 125 ≡ false

pub examples : Examples
unfolding none one bit has blocks_at blocked_at
examples = record { there = refl; task_before = refl; plane_before = refl; plane_behind = refl; blocks = refl; blocked = refl; free = refl }
