-- The test for number 11, in its two steps: what each of their ways out says of the memory, whatever lies in the answer.
use Rattle.std.specs.Prelude.{ℕ, ◌+◌, ◌≤◌, ◌≡◌, refl, Bool, true, false, cond, ◌&&◌, List, leb, Option, None, Some}
use Rattle.std.proofs.Math.Path.{sym, ap, subst}
use Rattle.std.proofs.Common.{◌∙◌}
use native.Mathlib.Omega.{arith}
use borrow.Author.Tests.{leb-true}
use Rattle.std.proofs.Math.ListN.{length}
use Rattle.ledger.specs.Config.{Limits, longest, config_in}
use Rattle.ledger.proofs.Theorems.Checks.{and_left, and_right}
use Rattle.tables.specs.declared.shape.Shape.{Shape}
use Rattle.tables.specs.Layout.{Fits, fitting}
use Rattle.tables.specs.Shows.{Of}
use Rattle.mailboxes.specs.Room.{sound_in}
use Rattle.configuration.specs.Limits.{Made}
use Rattle.configuration.specs.Block.{frame_rule, counts_rule, frame_rule_lem}
use Rattle.configuration.specs.Layout.{shape_of, of_one}
use Rattle.parts.specs.Parts.{part_at, frame_at, marked_by, part, kept_frame}
use Rattle.mcx11.specs.Contract.{memory, Sizes, sizes_of, has_sizes, full_size, config_mark, tables_mark, slots_mark, timers_mark, is_marked, messages_sound}
use Rattle.mcx11.specs.Sizes.{RoomForMarks, room_for_marks}
use Rattle.mcx11.specs.Framed.{sound_is, tables_within}

-- ---- what the limits are asked for: the sizes, the marks, and how much there is of each

-- all answers of a length
abbrev pub AllAnswers : ℕ → (List ℕ → Type 0) → Type 0
AllAnswers n P = (a : List ℕ) → length a ≡ n → P a

abbrev pub MeetsLimits : Limits → (g d z w : List ℕ) → ℕ → Bool → Type 0
MeetsLimits k g d z w n b =
    AllAnswers n (λ a. (full_size k (memory g d z w a) && is_marked (sizes_of k) (memory g d z w a) && counts_rule k (kept_frame g)) ≡ b)

module _ (k : Limits) (g d z w : List ℕ) (na : ℕ) (n : Sizes) (en : n ≡ sizes_of k) where
  abbrev all_sizes : Bool
  all_sizes = leb n.config (length g) && leb n.tables (length d) && leb n.slots (length z) && leb n.timers (length w) && leb n.answer na

  told : (b : Bool) → b ≡ all_sizes → AllAnswers na (λ a. full_size k (memory g d z w a) ≡ b)
  unfolding full_size has_sizes
  told b e a ea = ap (λ (x : Sizes). has_sizes x (memory g d z w a)) (sym en) ∙ rw ea (sym e)

  module _ (b : Bool) (e : b ≡ all_sizes) where
    pub limits_short : b ≡ false → MeetsLimits k g d z w na false
    limits_short f a ea = rw (told b e a ea ∙ f)

    module _ (full : b ≡ true) where
      all_sizes_lem : all_sizes ≡ true
      all_sizes_lem = sym e ∙ full

      pub limits_sized : RoomForMarks n (length g) (length d) (length z) (length w)
      unfolding sizes_of
      limits_sized =
          let t = all_sizes_lem in
          let c : n.config ≡ (sizes_of k).config = ap (λ (x : Sizes). x.config) en in
          let ts : n.tables ≡ (sizes_of k).tables = ap (λ (x : Sizes). x.tables) en in
          let ss : n.slots ≡ (sizes_of k).slots = ap (λ (x : Sizes). x.slots) en in
          let ws : n.timers ≡ (sizes_of k).timers = ap (λ (x : Sizes). x.timers) en in
          room_for_marks (omega arith, leb-true n.config (length g) (search (and_left, and_right) depth 9)) (omega arith, leb-true n.tables (length d) (search (and_left, and_right) depth 9))
          (omega arith, leb-true n.slots (length z) (search (and_left, and_right) depth 9)) (omega arith, leb-true n.timers (length w) (search (and_left, and_right) depth 9))

      pub limits_long : frame_at + longest k + 4 ≤ length g
      unfolding sizes_of
      limits_long =
          let t = all_sizes_lem in
          let h : n.config ≤ length g = leb-true n.config (length g) (search (and_left, and_right) depth 9) in
          let c : n.config ≡ (sizes_of k).config = ap (λ (x : Sizes). x.config) en in
          omega arith

      module _ (x : Bool) (ex : x ≡ (marked_by config_mark n.config g && marked_by tables_mark n.tables d && marked_by slots_mark n.slots z && marked_by timers_mark n.timers w)) where
        marks_told : (a : List ℕ) → is_marked (sizes_of k) (memory g d z w a) ≡ x
        unfolding is_marked
        marks_told a = ap (λ (y : Sizes). is_marked y (memory g d z w a)) (sym en) ∙ sym ex

        pub limits_unmarked : x ≡ false → MeetsLimits k g d z w na false
        limits_unmarked f a ea = rw (told b e a ea ∙ full, marks_told a ∙ f)

        pub limits_counted : x ≡ true → (r : Bool) → r ≡ counts_rule k (kept_frame g) → MeetsLimits k g d z w na r
        limits_counted marked r er a ea = rw (told b e a ea ∙ full, marks_told a ∙ marked) (sym er)

-- ---- the rest: the frame that is kept, and the messages of the tables that it asks for

unfoldable pub rest_rule : Limits → (kept tables : List ℕ) → Bool
rest_rule k f d = frame_rule k f && messages_sound (config_in f) (part (shape_of (config_in f)).end d)

abbrev pub Tested : Limits → (kept tables : List ℕ) → Option Shape → Type 0
Tested k f d None = rest_rule k f d ≡ false
Tested k f d (Some s) = (rest_rule k f d ≡ true) × Of (config_in f) s

module _ (k : Limits) (f d : List ℕ) where
  pub tested_frame : frame_rule k f ≡ false → Tested k f d None
  unfolding rest_rule
  tested_frame e = rw e

  module _ (made : Made k) (keeps : frame_rule k f ≡ true) (s : Shape) (o : Of (config_in f) s) where
    pub tested_fits : (sizes_of k).tables ≤ length d → Fits s s.end × (part_at + s.end ≤ length d)
    tested_fits h = (fitting o.laid (omega arith), omega (arith, tables_within k made (config_in f) (frame_rule_lem k f keeps) s o))

    pub tested_messages : (r : Option Shape) → r ≡ cond (sound_in s (part s.end d)) (Some s) None → Tested k f d r
    unfolding rest_rule
    tested_messages r er = subst (Tested k f d) (sym er) (go (sound_in s (part s.end d)) refl)
      where
        same : sound_in s (part s.end d) ≡ messages_sound (config_in f) (part (shape_of (config_in f)).end d)
        same = sound_is (config_in f) s o (part s.end d) ∙ ap (λ (x : Shape). messages_sound (config_in f) (part x.end d)) (of_one (config_in f) s o)

        go : (x : Bool) → sound_in s (part s.end d) ≡ x → Tested k f d (cond x (Some s) None)
        go true h = (rw keeps (sym same ∙ h), o)
        go false h = rw keeps (sym same ∙ h)
