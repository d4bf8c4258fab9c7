-- The sizes, one by one; a call leaves every block as large as it was.
use Rattle.std.specs.Prelude.{ℕ, ◌≤◌, ◌≡◌, refl, List, Bool, true, ◌&&◌, leb, length}
use Rattle.std.proofs.Math.Path.{sym, ap, subst}
use Rattle.std.proofs.Common.{◌∙◌}
use native.Mathlib.Omega.{arith}
use borrow.Author.Tests.{leb-true, le-leb}
use Rattle.ledger.proofs.Theorems.Checks.{and_left, and_right}
use Rattle.ledger.specs.Config.{Limits, controller, brake_module}
use Rattle.configuration.specs.Block.{frame_rule}
use Rattle.parts.specs.Parts.{kept_frame}
use Rattle.answer.specs.Written.{answer_bytes}
use Rattle.mcx11.specs.declared.lent.Sizes as code
use Rattle.mcx11.specs.Contract.{Memory, memory, Sizes, sizes_of, has_sizes, full_size, is_marked, config_of, tables_part, messages_sound, lent_well, SameSizes}

-- the sizes as the program has them
abbrev pub sizes_in : code.Sizes → Sizes
sizes_in n = record { config = n.config; tables = n.tables; slots = n.slots; timers = n.timers; answer = n.answer }

-- blocks that have their sizes, with room for both marks in each. (No record, so that its parts stay out of sight where one fact of it is wanted)
pub data RoomForMarks (n : Sizes) (g d z w : ℕ) : Type 0 where
  room_for_marks : (8 ≤ n.config) × (n.config ≤ g) → (8 ≤ n.tables) × (n.tables ≤ d) → (8 ≤ n.slots) × (n.slots ≤ z) → (8 ≤ n.timers) × (n.timers ≤ w) → RoomForMarks n g d z w

module _ {n : Sizes} {g d z w : ℕ} where
  pub config_sized : RoomForMarks n g d z w → (8 ≤ n.config) × (n.config ≤ g)
  config_sized (room_for_marks a b c e) = a

  pub tables_sized : RoomForMarks n g d z w → (8 ≤ n.tables) × (n.tables ≤ d)
  tables_sized (room_for_marks a b c e) = b

  pub slots_sized : RoomForMarks n g d z w → (8 ≤ n.slots) × (n.slots ≤ z)
  slots_sized (room_for_marks a b c e) = c

  pub timers_sized : RoomForMarks n g d z w → (8 ≤ n.timers) × (n.timers ≤ w)
  timers_sized (room_for_marks a b c e) = e

-- every block has its size
pub record Full (k : Limits) (m : Memory) : Type 0 where
  pub config : (sizes_of k).config ≤ length m.config
  pub tables : (sizes_of k).tables ≤ length m.tables
  pub slots : (sizes_of k).slots ≤ length m.slots
  pub timers : (sizes_of k).timers ≤ length m.timers
  pub answer : answer_bytes ≤ length m.answer

-- in figures
pub controller_sizes : sizes_of controller ≡ record { config = 336; tables = 7517; slots = 2024; timers = 659; answer = 21 }
unfolding sizes_of
controller_sizes = refl

pub module_sizes : sizes_of brake_module ≡ record { config = 178; tables = 985; slots = 264; timers = 99; answer = 21 }
unfolding sizes_of
module_sizes = refl

module _ (k : Limits) where
  pub full_sizes : (m : Memory) → full_size k m ≡ true → Full k m
  unfolding full_size has_sizes sizes_of
  full_sizes m h =
      record {
        config = leb-true (sizes_of k).config _ (search (and_left, and_right) depth 9);
        tables = leb-true (sizes_of k).tables _ (search (and_left, and_right) depth 9);
        slots = leb-true (sizes_of k).slots _ (search (and_left, and_right) depth 9);
        timers = leb-true (sizes_of k).timers _ (search (and_left, and_right) depth 9);
        answer = leb-true answer_bytes _ (search (and_left, and_right) depth 9);
      }

  pub sizes_full : (m : Memory) → Full k m → full_size k m ≡ true
  unfolding full_size has_sizes sizes_of
  sizes_full m h = rw (le-leb _ _ h.config, le-leb _ _ h.tables, le-leb _ _ h.slots, le-leb _ _ h.timers, le-leb _ _ h.answer)

  pub full_kept : {m m' : Memory} → SameSizes m m' → full_size k m' ≡ full_size k m
  unfolding full_size has_sizes
  full_kept s = rw (s.config, s.tables, s.slots, s.timers, s.answer)

  -- as the code tests them
  pub full_told : (n : Sizes) → n ≡ sizes_of k → (g d z w a : List ℕ) (x y : Bool)
      → x ≡ (leb n.config (length g) && leb n.tables (length d) && leb n.slots (length z) && leb n.timers (length w) && leb n.answer (length a))
      → x ≡ y → full_size k (memory g d z w a) ≡ y
  unfolding full_size has_sizes
  full_told n q g d z w a x y t r = ap (λ (j : Sizes). has_sizes j (memory g d z w a)) (sym q) ∙ sym t ∙ r

  -- and with room for the marks
  pub full_marked : (n : Sizes) → n ≡ sizes_of k → (m : Memory) → Full k m → RoomForMarks n (length m.config) (length m.tables) (length m.slots) (length m.timers)
  unfolding sizes_of
  full_marked n e m h =
      subst (λ (x : Sizes). RoomForMarks x (length m.config) (length m.tables) (length m.slots) (length m.timers)) (sym e)
      (room_for_marks (omega arith, h.config) (omega arith, h.tables) (omega arith, h.slots) (omega arith, h.timers))

-- what the test for 11 found
module _ (k : Limits) (m : Memory) (h : lent_well k m ≡ true) where
  abbrev sound : Bool
  sound = messages_sound (config_of m) (tables_part (config_of m) m)

  abbrev framed : Bool
  framed = frame_rule k (kept_frame m.config)

  pub well_full : full_size k m ≡ true
  unfolding lent_well
  well_full = and_left _ (is_marked (sizes_of k) m) (and_left _ framed (and_left _ sound h))

  pub well_marked : is_marked (sizes_of k) m ≡ true
  unfolding lent_well
  well_marked = and_right (full_size k m) _ (and_left _ framed (and_left _ sound h))

  pub well_frame : frame_rule k (kept_frame m.config) ≡ true
  unfolding lent_well
  well_frame = and_right (full_size k m && is_marked (sizes_of k) m) _ (and_left _ sound h)
