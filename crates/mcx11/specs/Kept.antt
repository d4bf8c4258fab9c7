-- What a call keeps: the configuration, the marks, and that the memory is lent well.
use Rattle.std.specs.Prelude.{ℕ, ◌+◌, ◌*◌, ◌≤◌, ◌≡◌, true, ◌&&◌, length}
use Rattle.std.proofs.Math.Path.{ap}
use Rattle.std.proofs.Common.{sym, ◌∙◌, subst}
use mathlib.Core.List.{List}
use native.Mathlib.Omega.{arith}
use Rattle.rows.specs.Laws.{length_cut}
use Rattle.ledger.specs.Config.{Config, Limits, config_in}
use Rattle.ledger.specs.Ledger.{Ledger}
use Rattle.ledger.specs.Session.{step}
use Rattle.ledger.proofs.Theorems.Once.{Once, once_step}
use Rattle.tables.specs.Shows.{Of}
use Rattle.configuration.specs.Limits.{Made}
use Rattle.configuration.specs.Block.{rule, frame_rule, frame_rule_lem}
use Rattle.configuration.specs.Layout.{shape_of}
use Rattle.configuration.specs.Started.{timers_bytes}
use Rattle.parts.specs.Parts.{part_at, marked_by, part, kept_frame}
use Rattle.parts.specs.Laws.{marks_kept}
use Rattle.mcx11.specs.Contract.{Memory, sizes_of, full_size, config_mark, tables_mark, slots_mark, timers_mark, is_marked, config_of, tables_part, slots_part, timers_part, lent_well, Displays, OutsideStays, Begins, Frames}
use Rattle.mcx11.specs.Sizes.{full_sizes, full_kept, well_full, well_marked, well_frame}
use Rattle.mcx11.specs.Framed.{frame_shape, tables_within, slots_within, timers_within}
use Rattle.mcx11.specs.Displayed.{displays_well}

-- ---- a memory of full size whose frame keeps the rule

module _ (k : Limits) (made : Made k) (m : Memory) (full : full_size k m ≡ true) (keeps : frame_rule k (kept_frame m.config) ≡ true) where
  abbrev ruled : rule k (config_in (kept_frame m.config)) ≡ true
  ruled = frame_rule_lem k (kept_frame m.config) keeps

  pub config_shape : Of (config_of m) (shape_of (config_of m))
  unfolding config_of
  config_shape = frame_shape k (kept_frame m.config) keeps made

  -- the parts lie between the marks
  pub parts_fit : let s = shape_of (config_of m) in (part_at + s.end + 4 ≤ (sizes_of k).tables) × (part_at + 16 * s.tasks + 4 ≤ (sizes_of k).slots) × (part_at + timers_bytes s + 4 ≤ (sizes_of k).timers)
  unfolding config_of
  parts_fit =
      let c : Config = config_in (kept_frame m.config) in
      let o : Of c (shape_of c) = config_shape in
      (tables_within k made c ruled (shape_of c) o, slots_within k made c ruled (shape_of c) o, timers_within k made c ruled (shape_of c) o)

  -- and have all their bytes
  pub parts_long : let c = config_of m in (length (tables_part c m) ≡ (shape_of c).end) × (length (slots_part c m) ≡ 16 * (shape_of c).tasks) × (length (timers_part c m) ≡ timers_bytes (shape_of c))
  unfolding tables_part slots_part timers_part part
  parts_long =
      let n = full_sizes k m full in
      let f = parts_fit in
      let s = shape_of (config_of m) in (
        length_cut m.tables part_at (part_at + s.end) (omega (arith, f.0, n.tables)) ∙ omega arith,
        length_cut m.slots part_at (part_at + 16 * s.tasks) (omega (arith, f.1, n.slots)) ∙ omega arith,
        length_cut m.timers part_at (part_at + timers_bytes s) (omega (arith, f.2, n.timers)) ∙ omega arith,
      )

  -- ---- after a frame
  module _ (m' : Memory) (same : m'.config ≡ m.config) (out : OutsideStays (config_of m) m m') where
    pub marks_stay : is_marked (sizes_of k) m' ≡ is_marked (sizes_of k) m
    unfolding is_marked
    marks_stay =
        let f = parts_fit in
        let s = shape_of (config_of m) in
        let t = marks_kept m.tables m'.tables s.end (sizes_of k).tables tables_mark f.0 out.tables in
        let x = marks_kept m.slots m'.slots (16 * s.tasks) (sizes_of k).slots slots_mark f.1 out.slots in
        let y = marks_kept m.timers m'.timers (timers_bytes s) (sizes_of k).timers timers_mark f.2 out.timers in
        λ i. marked_by config_mark (sizes_of k).config (same i) && t i && x i && y i

-- the configuration is the same, and the memory is lent well again
module _ {k : Limits} {f : List ℕ} {m m' : Memory} {r : ℕ} (h : Frames k f m m' r) where
  pub config_stays : config_of m' ≡ config_of m
  unfolding config_of
  config_stays = ap (λ (x : List ℕ). config_in (kept_frame x)) h.config

  pub well_again : Made k → (l : Ledger) → lent_well k m ≡ true → Displays (config_of m) l m → Once (config_of m) l.mailboxes → lent_well k m' ≡ true
  well_again made l w d o =
      let c = config_of m in
      let g = h.good w l d in
      displays_well k m' (step c f l).ledger (full_kept k h.sizes ∙ well_full k m w)
      (marks_stay k made m (well_full k m w) (well_frame k m w) m' h.config (h.outside w) ∙ well_marked k m w)
      (ap (λ (x : List ℕ). frame_rule k (kept_frame x)) h.config ∙ well_frame k m w)
      (subst (λ (x : Config). Displays x (step c f l).ledger m') (sym config_stays) g.shown)
      (subst (λ (x : Config). Once x (step c f l).ledger.mailboxes) (sym config_stays) (once_step c f l o))

-- ---- after an accepted configuration

pub begins_config : {k : Limits} {f : List ℕ} {m m' : Memory} {r : ℕ} → Begins k f m m' r → config_of m' ≡ config_in f
unfolding config_of
begins_config b = ap config_in b.frame
