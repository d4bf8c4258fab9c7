-- What a call of an executive with the limits k promises: of the configuration, and of a frame. The ride controller's is one, the brake
-- module's the other.
use Rattle.std.specs.Prelude.{ℕ, ◌+◌, ◌*◌, ◌≡◌, Bool, true, false, ◌&&◌, ◌||◌, List, ltb, leb, length}
use Rattle.ledger.specs.Config.{Config, Limits, config_in, config_refusal_by, longest}
use Rattle.ledger.specs.Ledger.{Ledger, fresh}
use Rattle.ledger.specs.Refusals.{refusal}
use Rattle.ledger.specs.Session as session
use Rattle.tables.specs.Layout.{records_at}
use Rattle.tables.specs.Shows.{ShowsAs, Shows}
use Rattle.mailboxes.specs.Room.{counted, whole_in}
use Rattle.configuration.specs.Block.{frame_rule}
use Rattle.configuration.specs.Layout.{shape_of}
use Rattle.configuration.specs.Started.{timers_bytes}
use Rattle.parts.specs.Parts.{part_at, frame_at, marked_by, part, kept_frame, Stays, Spares}
use Rattle.answer.specs.Written.{answer_bytes, written}

-- all that the host lends
pub record Memory : Type 0 where
  pub config : List ℕ
  pub tables : List ℕ
  pub slots : List ℕ
  pub timers : List ℕ
  pub answer : List ℕ

abbrev pub memory : (config tables slots timers answer : List ℕ) → Memory
memory g d z w a = record { config = g; tables = d; slots = z; timers = w; answer = a }

-- the sizes of the blocks
pub record Sizes : Type 0 where
  pub config : ℕ
  pub tables : ℕ
  pub slots : ℕ
  pub timers : ℕ
  pub answer : ℕ

-- the fixed sizes of docs/MEMORY.md: the most that a configuration within the limits needs, and four bytes of a mark at both ends of all but the answer.
-- The semaphores are at most 255
unfoldable pub sizes_of : Limits → Sizes
sizes_of k = record {
  config = frame_at + longest k + 4;
  tables = part_at + (records_at + 22 * k.tasks + 255 + 2 * k.queues + 4 * k.messages + k.bytes) + 4;
  slots = part_at + 16 * k.tasks + 4;
  timers = part_at + (11 + 10 * k.timers) + 4;
  answer = answer_bytes;
}

-- every block has its size
unfoldable pub has_sizes : Sizes → Memory → Bool
has_sizes n m =
    leb n.config (length m.config) && leb n.tables (length m.tables) && leb n.slots (length m.slots) && leb n.timers (length m.timers)
    && leb n.answer (length m.answer)

unfoldable pub full_size : Limits → Memory → Bool
full_size k m = has_sizes (sizes_of k) m

-- ---- the parts of the blocks

-- the marks, four bytes that read MCXC, MCXT, MCXS and MCXR
abbrev pub config_mark : ℕ
config_mark = 0x4358434D

abbrev pub tables_mark : ℕ
tables_mark = 0x5458434D

abbrev pub slots_mark : ℕ
slots_mark = 0x5358434D

abbrev pub timers_mark : ℕ
timers_mark = 0x5258434D

-- each block has its own at both ends
unfoldable pub is_marked : Sizes → Memory → Bool
is_marked n m =
    marked_by config_mark n.config m.config && marked_by tables_mark n.tables m.tables && marked_by slots_mark n.slots m.slots && marked_by timers_mark n.timers m.timers

-- the configuration that the memory holds, by its frame
unfoldable pub config_of : Memory → Config
config_of m = config_in (kept_frame m.config)

-- the parts that a configuration needs
unfoldable pub tables_part : Config → Memory → List ℕ
tables_part c m = part (shape_of c).end m.tables

unfoldable pub slots_part : Config → Memory → List ℕ
slots_part c m = part (16 * (shape_of c).tasks) m.slots

unfoldable pub timers_part : Config → Memory → List ℕ
timers_part c m = part (timers_bytes (shape_of c)) m.timers

-- ---- the test for number 11

-- fewer than G messages lie in the tables, or else no message lies there twice and each is one of those that there are
unfoldable pub messages_sound : Config → List ℕ → Bool
messages_sound c d = let s = shape_of c in ltb (counted s d) s.messages || whole_in s d

-- the sizes, the marks, the frame of a configuration, and the messages
unfoldable pub lent_well : Limits → Memory → Bool
lent_well k m =
    full_size k m && is_marked (sizes_of k) m && frame_rule k (kept_frame m.config) && messages_sound (config_of m) (tables_part (config_of m) m)

-- ---- what a call leaves

-- the memory shows the ledger
unfoldable pub Displays : Config → Ledger → Memory → Type 0
Displays c l m = Shows c (shape_of c) l (tables_part c m) (slots_part c m) (timers_part c m)

-- and tidily: each item has the one value that the executive writes
unfoldable pub Tidily : Config → Ledger → Memory → Type 0
Tidily c l m = ShowsAs true c (shape_of c) l (tables_part c m) (slots_part c m) (timers_part c m)

-- as many bytes in every block
pub record SameSizes (m m' : Memory) : Type 0 where
  pub config : length m'.config ≡ length m.config
  pub tables : length m'.tables ≡ length m.tables
  pub slots : length m'.slots ≡ length m.slots
  pub timers : length m'.timers ≡ length m.timers
  pub answer : length m'.answer ≡ length m.answer

-- every byte outside the parts is as it was
pub record OutsideStays (c : Config) (m m' : Memory) : Type 0 where
  pub tables : Stays (shape_of c).end m.tables m'.tables
  pub slots : Stays (16 * (shape_of c).tasks) m.slots m'.slots
  pub timers : Stays (timers_bytes (shape_of c)) m.timers m'.timers

-- and of a configuration, which writes its frame with the two bytes of its length, and the marks
pub record OutsideSpared (k : Limits) (f : List ℕ) (m m' : Memory) : Type 0 where
  pub config : Spares (2 + length f) (sizes_of k).config m.config m'.config
  pub tables : Spares (shape_of (config_in f)).end (sizes_of k).tables m.tables m'.tables
  pub slots : Spares (16 * (shape_of (config_in f)).tasks) (sizes_of k).slots m.slots m'.slots
  pub timers : Spares (timers_bytes (shape_of (config_in f))) (sizes_of k).timers m.timers m'.timers

-- the memory with another answer
unfoldable pub answering : List ℕ → Memory → Memory
answering a m = record { config = m.config; tables = m.tables; slots = m.slots; timers = m.timers; answer = written a m.answer }

-- ---- a configuration: 11 writes nothing; refused, it writes the answer alone; accepted, the memory holds its frame and shows the fresh ledger

pub record Begins (k : Limits) (f : List ℕ) (m m' : Memory) (r : ℕ) : Type 0 where
  pub number : r ≡ 0
  pub frame : kept_frame m'.config ≡ f
  pub well : lent_well k m' ≡ true
  pub shown : Displays (config_in f) (fresh (config_in f)) m'
  pub tidy : Tidily (config_in f) (fresh (config_in f)) m'
  pub answered : m'.answer ≡ written (session.answer 0 0 (fresh (config_in f))) m.answer
  pub outside : OutsideSpared k f m m'

pub record Configures (k : Limits) (f : List ℕ) (m m' : Memory) (r : ℕ) : Type 0 where
  pub sizes : SameSizes m m'
  pub short : full_size k m ≡ false → (r ≡ 11) × (m' ≡ m)
  pub refused : full_size k m ≡ true → (config_refusal_by k f ≡ 0 → ⊥) → (r ≡ config_refusal_by k f) × (m' ≡ answering (session.refused_configuration (config_refusal_by k f)) m)
  pub accepted : full_size k m ≡ true → config_refusal_by k f ≡ 0 → Begins k f m m' r

-- ---- a frame: 11 writes nothing; else the number, the answer and the ledger shown are the ledger's, and a refused one changes the answer alone

pub record Goes (c : Config) (l : Ledger) (f : List ℕ) (m m' : Memory) (r : ℕ) : Type 0 where
  pub number : r ≡ refusal c l f
  pub shown : Displays c (session.step c f l).ledger m'
  pub tidy : Tidily c l m → Tidily c (session.step c f l).ledger m'
  pub answered : m'.answer ≡ written (session.step c f l).answered m.answer

pub record Frames (k : Limits) (f : List ℕ) (m m' : Memory) (r : ℕ) : Type 0 where
  pub sizes : SameSizes m m'
  pub config : m'.config ≡ m.config
  pub bad : lent_well k m ≡ false → (r ≡ 11) × (m' ≡ m)
  pub good : lent_well k m ≡ true → (l : Ledger) → Displays (config_of m) l m → Goes (config_of m) l f m m' r
  pub outside : lent_well k m ≡ true → OutsideStays (config_of m) m m'
  pub unchanged : lent_well k m ≡ true → (r ≡ 0 → ⊥) → (m'.tables ≡ m.tables) × (m'.slots ≡ m.slots) × (m'.timers ≡ m.timers)
