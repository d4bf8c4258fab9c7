-- A frame: from what the parts of the blocks promise (specs/Inside) to what the entry promises.
use Rattle.std.specs.Prelude.{ℕ, ◌+◌, ◌≤◌, ◌≡◌, Bool, ◌&&◌, length}
use Rattle.std.proofs.Math.Path.{refl, subst}
use Rattle.std.proofs.Common.{sym, ◌∙◌}
use Rattle.std.proofs.Math.Bool.{true, false}
use mathlib.Core.List.{List}
use Rattle.ledger.specs.Lists.{word}
use Rattle.ledger.specs.Config.{Limits}
use Rattle.ledger.proofs.Theorems.Checks.{never, and_left, and_right}
use Rattle.configuration.specs.Block.{counts_rule, counts_first}
use Rattle.parts.specs.Parts.{part_at, frame_at, kept_frame}
use Rattle.mcx11.specs.Contract.{Memory, memory, sizes_of, full_size, is_marked, config_of, tables_part, slots_part, timers_part, lent_well, Displays, Tidily, SameSizes, Frames}
use Rattle.mcx11.specs.Sizes.{full_sizes}
use Rattle.mcx11.specs.Framed.{long_config, kept_within}
use Rattle.mcx11.specs.Tested.{MeetsLimits, rest_rule}
use Rattle.mcx11.specs.Inside.{Sized, FramesInside}

module _ (k : Limits) (f g d z w a : List ℕ) where
  abbrev m : Memory
  m = memory g d z w a

  abbrev asked : Bool
  asked = full_size k m && is_marked (sizes_of k) m && counts_rule k (kept_frame g)

  -- memory that doesn't meet the limits is not lent well; of the other the rest decides
  unmet : asked ≡ false → lent_well k m ≡ false
  unfolding lent_well
  unmet e = rw (counts_first k (kept_frame g)) (go (full_size k m) (is_marked (sizes_of k) m) (counts_rule k (kept_frame g)) _ _ e)
    where
      go : (x y c r q : Bool) → (x && y && c) ≡ false → (x && y && (c && r) && q) ≡ false
      go true true true r q h = never (sym h)
      go true true false r q h = refl
      go true false c r q h = refl
      go false y c r q h = refl

  module _ (meets : asked ≡ true) where
    full_here : full_size k m ≡ true
    full_here = and_left _ (is_marked (sizes_of k) m) (and_left _ (counts_rule k (kept_frame g)) meets)

    pub counts_here : counts_rule k (kept_frame g) ≡ true
    counts_here = and_right (full_size k m && is_marked (sizes_of k) m) _ meets

    -- the frame that is kept lies within its block
    pub kept_inside : frame_at + word part_at g ≤ length g
    kept_inside = kept_within k g (long_config k g (full_sizes k m full_here).config) counts_here

    rest_decides : lent_well k m ≡ rest_rule k (kept_frame g) d
    unfolding lent_well rest_rule config_of tables_part
    rest_decides = rw (full_here, and_right (full_size k m) _ (and_left _ (counts_rule k (kept_frame g)) meets))

    pub sized_here : Sized k d z w a
    sized_here = let n = full_sizes k m full_here in record { tables = n.tables; slots = n.slots; timers = n.timers; answer = n.answer }

    met : (d' z' w' a' : List ℕ) (r : ℕ) → SameSizes m (memory g d' z' w' a') → FramesInside k f (kept_frame g) d z w a d' z' w' a' r → Frames k f m (memory g d' z' w' a') r
    unfolding config_of tables_part slots_part timers_part Displays Tidily
    met d' z' w' a' r sizes h =
        record {
          sizes = sizes;
          config = refl;
          bad = λ b. let x = h.bad (sym rest_decides ∙ b) in (x.0, λ i. memory g (x.1 i) (x.2 i) (x.3 i) (x.4 i));
          good = λ b l v.
              let t = (h.good (sym rest_decides ∙ b)).steps.tells l v in
              record { number = t.0; shown = t.1; tidy = λ u. ((h.good (sym rest_decides ∙ b)).steps.tells l u).1; answered = t.2 };
          outside = λ b. let t = h.good (sym rest_decides ∙ b) in record { tables = t.tables; slots = t.slots; timers = t.timers };
          unchanged = λ b n. (h.good (sym rest_decides ∙ b)).unchanged n;
        }

    -- with the frame as it was read
    pub frame_met : (g₀ : List ℕ) → g₀ ≡ kept_frame g → (d' z' w' a' : List ℕ) (r : ℕ) → SameSizes m (memory g d' z' w' a') → FramesInside k f g₀ d z w a d' z' w' a' r → Frames k f m (memory g d' z' w' a') r
    frame_met g₀ e d' z' w' a' r sizes h = met d' z' w' a' r sizes (subst (λ (x : List ℕ). FramesInside k f x d z w a d' z' w' a' r) e h)

  pub frame_unmet : MeetsLimits k g d z w (length a) false → Frames k f m m 11
  frame_unmet e =
      let b : lent_well k m ≡ false = unmet (e a refl) in
      record {
        sizes = record { config = refl; tables = refl; slots = refl; timers = refl; answer = refl };
        config = refl;
        bad = λ x. (refl, refl);
        good = λ x. never (sym b ∙ x);
        outside = λ x. never (sym b ∙ x);
        unchanged = λ x n. (refl, refl, refl);
      }

-- by limits that are known, and the number that the result goes by
pub frames_by : {k j : Limits} {r n : ℕ} → n ≡ r → k ≡ j → {f : List ℕ} {m m' : Memory} → Frames k f m m' r → Frames j f m m' n
frames_by {k} {j} {r} {n} en ek {f} {m} {m'} h = subst (λ (x : Limits). Frames x f m m' n) ek (subst (λ (x : ℕ). Frames k f m m' x) (sym en) h)
