-- A configuration: from the parts of the blocks to what the entry promises.
use Rattle.std.specs.Prelude.{ℕ, ◌+◌, ◌-◌, ◌*◌, ◌≤◌, ◌≡◌, refl, false, List, get_or}
use Rattle.std.proofs.Common.{sym, ◌∙◌, arith}
use Rattle.std.proofs.Math.Path.{ap, subst}
use Rattle.std.proofs.Math.Bool.{true}
use Rattle.std.proofs.Math.ListN.{length}
use borrow.Rule.Slice.PartMut.{put_mid}
use Rattle.ledger.specs.Config.{Config, Limits, config_in, config_refusal_by}
use Rattle.ledger.specs.Ledger.{Ledger, fresh}
use Rattle.ledger.specs.Session as session
use Rattle.ledger.proofs.Theorems.Checks.{never}
use Rattle.ledger.proofs.Theorems.Once.{Once, once_fresh}
use Rattle.rows.specs.Splice.{cut, splice}
use Rattle.tables.specs.declared.shape.Shape.{Shape}
use Rattle.tables.specs.Shows.{Of, ShowsAs, Shows, loosely}
use Rattle.configuration.specs.Limits.{Made}
use Rattle.configuration.specs.Block.{rule, frame_rule, frame_rule_lem, frame_short}
use Rattle.configuration.specs.Layout.{shape_of, of_one}
use Rattle.configuration.specs.Within.{accepted_rule}
use Rattle.configuration.specs.Started.{timers_bytes, Started}
use Rattle.answer.specs.Written.{written}
use Rattle.parts.specs.Parts.{part_at, frame_at, ends, part, kept_frame, kept, Stays, Spares}
use Rattle.parts.specs.Laws.{length_ends, marks_after, spares_after, part_stays, back_part, back_stays, kept_frame_lem}
use Rattle.mcx11.specs.Contract.{Memory, memory, Sizes, sizes_of, full_size, config_mark, tables_mark, slots_mark, timers_mark, is_marked, config_of, tables_part, slots_part, timers_part, Displays, Tidily, SameSizes, answering, Begins, Configures}
use Rattle.mcx11.specs.Sizes.{full_sizes, full_kept}
use Rattle.mcx11.specs.Framed.{tables_within, slots_within, timers_within}
use Rattle.mcx11.specs.Displayed.{displays_well}

-- ---- the answer that shows the running task

abbrev pub TellsNow : Shape → (d z : List ℕ) (number : ℕ) (a a' : List ℕ) → Type 0
TellsNow s d z n a a' = (c : Config) (L : Ledger) (w : List ℕ) → Shows c s L (part s.end d) (part (16 * s.tasks) z) w → a' ≡ written (session.answer n 0 L) a

-- ---- a configuration

-- the parts show the fresh ledger, and the bytes outside them stay
pub record Places (s : Shape) (f d z w d' z' w' : List ℕ) : Type 0 where
  pub started : Started f (part s.end d') (part (16 * s.tasks) z') (part (timers_bytes s) w')
  pub tables : Stays s.end d d'
  pub slots : Stays (16 * s.tasks) z z'
  pub timers : Stays (timers_bytes s) w w'

pub placed : (s : Shape) (f d z w ds zs ws : List ℕ) → part_at + s.end ≤ length d → part_at + 16 * s.tasks ≤ length z → part_at + timers_bytes s ≤ length w
    → length ds ≡ length (cut d part_at (part_at + s.end)) → length zs ≡ length (cut z part_at (part_at + 16 * s.tasks)) → length ws ≡ length (cut w part_at (part_at + timers_bytes s))
    → Started f ds zs ws
    → Places s f d z w (put_mid part_at (part_at + s.end - part_at) d ds) (put_mid part_at (part_at + 16 * s.tasks - part_at) z zs) (put_mid part_at (part_at + timers_bytes s - part_at) w ws)
placed s f d z w ds zs ws t x y nd nz nw h =
    let bd = back_part d s.end ds nd t in
    let bz = back_part z (16 * s.tasks) zs nz x in
    let bw = back_part w (timers_bytes s) ws nw y in
    let d' : List ℕ = put_mid part_at (part_at + s.end - part_at) d ds in
    let z' : List ℕ = put_mid part_at (part_at + 16 * s.tasks - part_at) z zs in
    let h₁ : Started f (part s.end d') zs ws = subst (λ (v : List ℕ). Started f v zs ws) (sym bd) h in
    let h₂ : Started f (part s.end d') (part (16 * s.tasks) z') ws = subst (λ (v : List ℕ). Started f (part s.end d') v ws) (sym bz) h₁ in
    record {
      started = subst (λ (v : List ℕ). Started f (part s.end d') (part (16 * s.tasks) z') v) (sym bw) h₂;
      tables = back_stays d s.end ds nd t;
      slots = back_stays z (16 * s.tasks) zs nz x;
      timers = back_stays w (timers_bytes s) ws nw y;
    }

-- the parts of an accepted frame, by the sizes
module _ (k : Limits) (made : Made k) (f : List ℕ) (zero : config_refusal_by k f ≡ 0) (s : Shape) (o : Of (config_in f) s) where
  abbrev frame_keeps : frame_rule k f ≡ true
  frame_keeps = accepted_rule k f zero

  abbrev frame_ruled : rule k (config_in f) ≡ true
  frame_ruled = frame_rule_lem k f frame_keeps

  pub begin_fits : (frame_at + length f + 4 ≤ (sizes_of k).config) × (part_at + s.end + 4 ≤ (sizes_of k).tables) × (part_at + 16 * s.tasks + 4 ≤ (sizes_of k).slots) × (part_at + timers_bytes s + 4 ≤ (sizes_of k).timers)
  unfolding sizes_of
  begin_fits = (
    omega (arith, frame_short k f frame_keeps),
    tables_within k made (config_in f) frame_ruled s o,
    slots_within k made (config_in f) frame_ruled s o,
    timers_within k made (config_in f) frame_ruled s o,
  )

  -- no length needs more than two bytes
  pub begin_short : length f ≤ 326
  begin_short = omega (arith, frame_short k f frame_keeps, made.tasks, made.queues)

  -- marked, with the frame and the fresh parts
  module _ (g d z w a : List ℕ) (full : full_size k (memory g d z w a) ≡ true) (n : Sizes) (en : n ≡ sizes_of k) (g₁ d₁ z₁ w₁ g' d' z' w' a' : List ℕ)
      (marked : (g₁ ≡ ends config_mark n.config g) × (d₁ ≡ ends tables_mark n.tables d) × (z₁ ≡ ends slots_mark n.slots z) × (w₁ ≡ ends timers_mark n.timers w))
      (eg : g' ≡ splice g₁ part_at (kept f)) (h : Places s f d₁ z₁ w₁ d' z' w') (tells : TellsNow s d' z' 0 a a') (sizes : SameSizes (memory g d z w a) (memory g' d' z' w' a')) where
    abbrev m₀ : Memory
    m₀ = memory g d z w a

    abbrev m₁ : Memory
    m₁ = memory g' d' z' w' a'

    abbrev gs : ℕ
    gs = (sizes_of k).config

    abbrev ds : ℕ
    ds = (sizes_of k).tables

    abbrev zs : ℕ
    zs = (sizes_of k).slots

    abbrev ws : ℕ
    ws = (sizes_of k).timers

    shape_here : s ≡ shape_of (config_in f)
    shape_here = of_one (config_in f) s o

    -- what the marks were set on
    marked_config : g₁ ≡ ends config_mark gs g
    marked_config = marked.0 ∙ ap (λ (x : Sizes). ends config_mark x.config g) en

    tables_stay : Stays s.end (ends tables_mark ds d) d'
    tables_stay = subst (λ (x : List ℕ). Stays s.end x d') (marked.1 ∙ ap (λ (x : Sizes). ends tables_mark x.tables d) en) h.tables

    slots_stay : Stays (16 * s.tasks) (ends slots_mark zs z) z'
    slots_stay = subst (λ (x : List ℕ). Stays (16 * s.tasks) x z') (marked.2 ∙ ap (λ (x : Sizes). ends slots_mark x.slots z) en) h.slots

    timers_stay : Stays (timers_bytes s) (ends timers_mark ws w) w'
    timers_stay = subst (λ (x : List ℕ). Stays (timers_bytes s) x w') (marked.3 ∙ ap (λ (x : Sizes). ends timers_mark x.timers w) en) h.timers

    frame_placed : g' ≡ splice (ends config_mark gs g) part_at (kept f)
    frame_placed = eg ∙ ap (λ (x : List ℕ). splice x part_at (kept f)) marked_config

    frame_stays : Stays (2 + length f) (ends config_mark gs g) g'
    frame_stays i j =
        let b = begin_fits in
        let c = full_sizes k m₀ full in
        let e = length_ends g gs config_mark (omega arith) c.config in
        ap (λ (x : List ℕ). get_or x i 0) frame_placed ∙ part_stays (ends config_mark gs g) (2 + length f) (kept f) (omega arith) (omega (arith, b.0, c.config)) i j

    frame_here : kept_frame g' ≡ f
    frame_here =
        let b = begin_fits in
        let c = full_sizes k m₀ full in
        let e = length_ends g gs config_mark (omega arith) c.config in
        ap kept_frame frame_placed ∙ kept_frame_lem (ends config_mark gs g) f (omega (arith, begin_short)) (omega (arith, b.0, c.config))

    config_here : config_of m₁ ≡ config_in f
    unfolding config_of
    config_here = ap config_in frame_here

    marks_here : is_marked (sizes_of k) m₁ ≡ true
    unfolding is_marked
    marks_here =
        let c = full_sizes k m₀ full in
        let b = begin_fits in
        rw (
          marks_after g g' gs config_mark (2 + length f) (omega (arith, b.0)) c.config frame_stays (omega arith),
          marks_after d d' ds tables_mark s.end b.1 c.tables tables_stay (omega arith),
          marks_after z z' zs slots_mark (16 * s.tasks) b.2 c.slots slots_stay (omega arith),
          marks_after w w' ws timers_mark (timers_bytes s) b.3 c.timers timers_stay (omega arith),
        )

    tidy_here : Tidily (config_in f) (fresh (config_in f)) m₁
    unfolding Tidily tables_part slots_part timers_part
    tidy_here =
        let c : Config = config_in f in
        subst (λ (y : Shape). ShowsAs true c y (fresh c) (part y.end d') (part (16 * y.tasks) z') (part (timers_bytes y) w')) shape_here (h.started.shows s o)

    shown_here : Displays (config_in f) (fresh (config_in f)) m₁
    unfolding Displays Tidily
    shown_here = loosely tidy_here

    pub begun : Begins k f m₀ m₁ 0
    begun =
        let c = full_sizes k m₀ full in
        let b = begin_fits in
        let cf : Config = config_in f in
        record {
          number = refl;
          frame = frame_here;
          well = displays_well k m₁ (fresh cf) (full_kept k sizes ∙ full) marks_here (ap (frame_rule k) frame_here ∙ frame_keeps)
              (subst (λ (x : Config). Displays x (fresh cf) m₁) (sym config_here) shown_here) (subst (λ (x : Config). Once x (fresh cf).mailboxes) (sym config_here) (once_fresh cf));
          shown = shown_here;
          tidy = tidy_here;
          answered = tells cf (fresh cf) (part (timers_bytes s) w') (h.started.shows s o);
          outside = record {
            config = spares_after g g' gs config_mark (2 + length f) (omega (arith, b.0)) c.config frame_stays;
            tables = subst (λ (y : Shape). Spares y.end ds d d') shape_here (spares_after d d' ds tables_mark s.end b.1 c.tables tables_stay);
            slots = subst (λ (y : Shape). Spares (16 * y.tasks) zs z z') shape_here (spares_after z z' zs slots_mark (16 * s.tasks) b.2 c.slots slots_stay);
            timers = subst (λ (y : Shape). Spares (timers_bytes y) ws w w') shape_here (spares_after w w' ws timers_mark (timers_bytes s) b.3 c.timers timers_stay);
          };
        }

-- ---- what the entry promises

module _ (k : Limits) (f g d z w a : List ℕ) where
  abbrev before : Memory
  before = memory g d z w a

  pub configure_short : full_size k before ≡ false → Configures k f before before 11
  configure_short e =
      record {
        sizes = record { config = refl; tables = refl; slots = refl; timers = refl; answer = refl };
        short = λ b. (refl, refl);
        refused = λ b n. never (sym e ∙ b);
        accepted = λ b n. never (sym e ∙ b);
      }

  pub configure_refused : (n : ℕ) (a' : List ℕ) → SameSizes before (memory g d z w a') → full_size k before ≡ true → n ≡ config_refusal_by k f → (n ≡ 0 → ⊥) → a' ≡ written (session.refused_configuration n) a
      → Configures k f before (memory g d z w a') n
  unfolding answering
  configure_refused n a' sz full e ne ea =
      record {
        sizes = sz;
        short = λ b. never (sym b ∙ full);
        refused = λ b x. (e, λ i. memory g d z w ((ea ∙ ap (λ (j : ℕ). written (session.refused_configuration j) a) e) i));
        accepted = λ b x. absurd (ne (e ∙ x));
      }

  pub configure_accepted : (n : ℕ) (m' : Memory) → SameSizes before m' → full_size k before ≡ true → n ≡ config_refusal_by k f → n ≡ 0 → Begins k f before m' 0 → Configures k f before m' 0
  configure_accepted n m' sz full e z0 b =
      record {
        sizes = sz;
        short = λ b. never (sym b ∙ full);
        refused = λ b x. absurd (x (sym e ∙ z0));
        accepted = λ y x. b;
      }

-- by limits that are known, and the number that the result goes by
pub configures_by : {k j : Limits} {r n : ℕ} → n ≡ r → k ≡ j → {f : List ℕ} {m m' : Memory} → Configures k f m m' r → Configures j f m m' n
configures_by {k} {j} {r} {n} en ek {f} {m} {m'} h = subst (λ (x : Limits). Configures x f m m' n) ek (subst (λ (x : ℕ). Configures k f m m' x) (sym en) h)
