-- The marks at both ends of a block, its part, and the frame that the block of the configuration keeps.
use Rattle.std.specs.Prelude.{◌≡◌, ◌⊎◌, Bool, ◌&&◌, List, ◌∷◌, ℕ, ◌+◌, ◌-◌, ◌/◌, ◌%◌, ◌<◌, ◌≤◌, eqb, length, get_or}
use Rattle.ledger.specs.Lists.{word}
use Rattle.rows.specs.Splice.{cut, splice}
use Rattle.rows.specs.Four.{le4, bytes4}

abbrev pub part_at : ℕ
part_at = 4

abbrev pub frame_at : ℕ
frame_at = 6

-- both marks of a block of this size stand
unfoldable pub marked_by : (mark size : ℕ) → List ℕ → Bool
marked_by k n b = eqb (le4 b 0) k && eqb (le4 b (n - 4)) k

-- a block with both marks set
abbrev pub ends : (mark size : ℕ) → List ℕ → List ℕ
ends k n b = splice (splice b 0 (bytes4 k)) (n - 4) (bytes4 k)

-- the n bytes of a block that a configuration needs
unfoldable pub part : ℕ → List ℕ → List ℕ
part n b = cut b part_at (part_at + n)

-- the frame in the block of the configuration: its length lies before it
unfoldable pub kept_frame : List ℕ → List ℕ
kept_frame g = cut g frame_at (frame_at + word part_at g)

-- such a length and the frame, as they lie there
abbrev pub kept : List ℕ → List ℕ
kept f = length f / 256 ∷ length f % 256 ∷ f

-- every byte outside the part of n bytes is as it was
abbrev pub Stays : ℕ → (b b' : List ℕ) → Type 0
Stays n b b' = (i : ℕ) → (i < part_at) ⊎ (part_at + n ≤ i) → get_or b' i 0 ≡ get_or b i 0

-- every byte outside the part of n bytes and outside both marks is as it was
abbrev pub Spares : (n size : ℕ) → (b b' : List ℕ) → Type 0
Spares n size b b' = (i : ℕ) → part_at + n ≤ i → (i < size - 4) ⊎ (size ≤ i) → get_or b' i 0 ≡ get_or b i 0
