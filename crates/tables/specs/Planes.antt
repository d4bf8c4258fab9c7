-- The blocks as bits: a plane of 16 bytes for each block, in which bit i belongs to the task in row i. What the bytes mean.
use Rattle.std.specs.Prelude.{◌≡◌, Bool, ◌||◌, List, ℕ, zero, suc, ◌+◌, ◌*◌, ◌/◌, ◌%◌, ◌^◌, ◌<◌, get_or}
use Rattle.tables.specs.declared.blocks.Block.{Block}
use Rattle.tables.specs.declared.blocks.Block.TheVariants.{Idle, Suspended, Event, Message}
use Rattle.tables.specs.declared.blocks.Blocks.{Blocks}
use Rattle.tables.specs.Bits.{bit}

-- the number of a block's plane
abbrev pub plane_of : Block → ℕ
plane_of Idle = 0
plane_of Suspended = 1
plane_of Event = 2
plane_of Message = 3

-- whether the task in row i has a block
unfoldable pub has : Block → (planes : List ℕ) → ℕ → Bool
has k d i = bit (get_or d (16 * plane_of k + i / 8) 0) (i % 8)

unfoldable pub blocks_at : (planes : List ℕ) → ℕ → Blocks
blocks_at d i = record { idle = has Idle d i; suspended = has Suspended d i; event = has Event d i; message = has Message d i }

-- whether it has any
unfoldable pub blocked_at : (planes : List ℕ) → ℕ → Bool
blocked_at d i = has Idle d i || has Suspended d i || has Event d i || has Message d i

-- the n bytes of d from index `at` on, as a number, the lowest byte first
unfoldable pub number : ℕ → ℕ → List ℕ → ℕ
number zero at d = 0
number (suc n) at d = get_or d (at + n) 0 * 2 ^ (8 * n) + number n at d

-- bit i of the byte y is v, its other bits are those of x
pub record NewBit (i : ℕ) (v : Bool) (x y : ℕ) : Type 0 where
  pub here : bit y i ≡ v
  pub others : (j : ℕ) → j < 8 → (i ≡ j → ⊥) → bit y j ≡ bit x j

-- block k of the task in row i is v in the planes d', all other blocks are as in d
pub record NewBlock (k : Block) (i : ℕ) (v : Bool) (d d' : List ℕ) : Type 0 where
  pub here : has k d' i ≡ v
  pub others : (q : Block) (j : ℕ) → j < 128 → (plane_of q ≡ plane_of k → j ≡ i → ⊥) → has q d' j ≡ has q d j
