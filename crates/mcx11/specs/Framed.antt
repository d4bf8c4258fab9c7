-- A frame that keeps the rule: its shape, and that the sizes have room for its parts.
use Rattle.std.specs.Prelude.{ℕ, ◌+◌, ◌-◌, ◌*◌, ◌≤◌, min, ◌≡◌, refl, true, List, length, take, drop}
use Rattle.std.proofs.Common.{ap, ◌∙◌, arith, leb-true, length-take, length-drop, take_all}
use Rattle.ledger.specs.Lists.{word}
use Rattle.ledger.specs.Config.{Config, Limits, longest, config_in}
use Rattle.ledger.proofs.Theorems.Checks.{and_left, and_right}
use Rattle.ledger.proofs.Theorems.Configured.{shapes_many}
use Rattle.tables.specs.declared.shape.Shape.{Shape}
use Rattle.tables.specs.Shows.{bytes_of, Of}
use Rattle.mailboxes.specs.Room.{sound_in}
use Rattle.configuration.specs.Limits.{Made}
use Rattle.configuration.specs.Block.{rule, frame_rule, counts_rule, frame_rule_lem, frame_front, front_is}
use Rattle.configuration.specs.Layout.{shape_of, of_one, of_shape, rule_head, rule_room}
use Rattle.configuration.specs.Started.{timers_bytes}
use Rattle.rows.specs.Splice.{cut}
use Rattle.parts.specs.Parts.{part_at, frame_at, kept_frame}
use Rattle.mcx11.specs.Contract.{sizes_of, messages_sound}

module _ (k : Limits) (f : List ℕ) (keeps : frame_rule k f ≡ true) where
  -- the shape of its tables
  pub frame_shape : Made k → Of (config_in f) (shape_of (config_in f))
  frame_shape made = of_shape k made (config_in f) (frame_rule_lem k f keeps) (shapes_many f (omega (arith, front_is f, frame_front k f keeps)))

-- by the length that was read
pub frame_is : (g : List ℕ) (n : ℕ) → n ≡ word part_at g → cut g frame_at (frame_at + n) ≡ kept_frame g
unfolding kept_frame
frame_is g n e = ap (λ (x : ℕ). cut g frame_at (frame_at + x)) e

-- among all bytes behind the length
pub frame_first : (g : List ℕ) (n : ℕ) → n ≡ word part_at g → cut (cut g frame_at (length g)) 0 n ≡ kept_frame g
unfolding kept_frame
frame_first g n e =
    let t : take (length g - frame_at) (drop frame_at g) ≡ drop frame_at g = take_all (length g - frame_at) (drop frame_at g) (simp length-drop (omega arith)) in
    let x : n - 0 ≡ frame_at + word part_at g - frame_at = omega (arith, e) in
    ap (λ (b : List ℕ). take (n - 0) b) t ∙ ap (λ (j : ℕ). take j (drop frame_at g)) x

-- a block of its size has room for the longest frame
pub long_config : (k : Limits) (g : List ℕ) → (sizes_of k).config ≤ length g → frame_at + longest k + 4 ≤ length g
unfolding sizes_of
long_config k g h = omega (arith, h)

-- so a frame that is short enough lies within it
pub kept_within : (k : Limits) (g : List ℕ) → frame_at + longest k + 4 ≤ length g → counts_rule k (kept_frame g) ≡ true → frame_at + word part_at g ≤ length g
unfolding kept_frame counts_rule
kept_within k g h e =
    let s : length (kept_frame g) ≤ longest k = leb-true (length (kept_frame g)) (longest k) (search (and_left, and_right) depth 9) in
    let l : length (kept_frame g) ≡ min (frame_at + word part_at g - frame_at) (length g - frame_at) = simp (length-take, length-drop) refl in
    omega (arith, s, l)

-- the messages, in the configuration's terms
pub sound_is : (c : Config) (s : Shape) → Of c s → (d : List ℕ) → sound_in s d ≡ messages_sound c d
unfolding messages_sound sound_in
sound_is c s o d = ap (λ (x : Shape). sound_in x d) (of_one c s o)

-- ---- the sizes have room for every configuration within the limits

module _ (k : Limits) (made : Made k) (c : Config) (keeps : rule k c ≡ true) (s : Shape) (o : Of c s) where
  pub tables_within : part_at + s.end + 4 ≤ (sizes_of k).tables
  unfolding sizes_of bytes_of
  tables_within =
      let l = o.laid in
      let h = (rule_head k made c keeps).few in
      omega (arith, o.bodies, o.tasks, o.queues, o.messages, h.tasks, h.queues, h.messages, rule_room k made c keeps)

  pub slots_within : part_at + 16 * s.tasks + 4 ≤ (sizes_of k).slots
  unfolding sizes_of
  slots_within = let h = (rule_head k made c keeps).few in omega (arith, o.tasks, h.tasks)

  pub timers_within : part_at + timers_bytes s + 4 ≤ (sizes_of k).timers
  unfolding sizes_of
  timers_within = let h = (rule_head k made c keeps).few in omega (arith, o.timers, h.timers)
