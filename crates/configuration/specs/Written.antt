-- The fresh tables, written: every byte after the fill, the ticks, the copied states and the outcomes.
use Rattle.std.specs.Prelude.{◌≡◌, Bool, false, List, ℕ, ◌+◌, ◌-◌, ◌*◌, ◌/◌, ◌%◌, ◌<◌, ◌≤◌, length, get_or, set, replicate}
use Rattle.std.proofs.Common.{sym, ap, ◌∙◌, subst, arith, length-set, ext_get_or, get_or-set_same, get_or-set_other, below_more}
use Rattle.std.proofs.lemmas.List.{length-replicate, get_or-replicate}
use borrow.Rule.Slice.PartMut.{put_mid}
use Rattle.rows.specs.Splice.{cut, splice}
use Rattle.rows.specs.Laws.{length_cut, get_d_cut, length_splice}
use Rattle.rows.specs.Bytes.{byte_in, byte_below, byte_above, lent_part}
use Rattle.tables.specs.declared.shape.Shape.{Shape}
use Rattle.tables.specs.declared.blocks.Block.{Block}
use Rattle.tables.specs.declared.blocks.Block.TheVariants.{Idle, Suspended, Event, Message}
use Rattle.tables.specs.Layout.{planes_at, records_at, Laid, Fits, fitting, laid, room}
use Rattle.tables.specs.Bits.{bit, bit_zero}
use Rattle.tables.specs.Planes.{plane_of, has, blocks_at, NewBit, NewBlock}
use Rattle.tables.specs.OneBit.{block_set}
use Rattle.tables.specs.Blocks.{plane_low}
use Rattle.configuration.specs.Fresh.{kind_of, idle_of, fresh_blocks, FreshTables}

-- the first n bytes of a block were lent, and came back filled with 0
module _ (d ys : List ℕ) (n : ℕ) (filled : ys ≡ replicate (length (cut d 0 n)) 0) (room : n ≤ length d) where
  front_length : length ys ≡ n - 0
  front_length = ap length filled ∙ length-replicate (length (cut d 0 n)) 0 ∙ length_cut d 0 n (omega arith)

  front_is : put_mid 0 (n - 0) d ys ≡ splice d 0 ys
  front_is = lent_part d 0 n ys (omega arith) room front_length

  pub cleared_length : length (put_mid 0 (n - 0) d ys) ≡ length d
  cleared_length = ap length front_is ∙ length_splice d 0 ys (omega (arith, front_length))

  pub cleared : (i : ℕ) → i < n → get_or (put_mid 0 (n - 0) d ys) i 0 ≡ 0
  cleared i h =
      let e : 0 + i ≡ i = omega arith in
      ap (λ (x : List ℕ). get_or x i 0) front_is ∙ ap (λ (x : ℕ). get_or (splice d 0 ys) x 0) (sym e)
      ∙ byte_in d ys 0 (omega (arith, front_length)) i (omega (arith, front_length)) ∙ ap (λ (x : List ℕ). get_or x i 0) filled
      ∙ get_or-replicate (length (cut d 0 n)) i 0 0 (omega (arith, length_cut d 0 n (omega arith)))

-- ---- the loops: what they have done so far, and a turn

-- the first n rows of six bytes tell how their tasks begin; the other bytes of the rows are as they were
pub record Begun (states r r' : List ℕ) (n : ℕ) : Type 0 where
  pub kinds : (i : ℕ) → i < n → get_or r' (i * 6) 0 ≡ kind_of (get_or states i 0)
  pub others : (i j : ℕ) → 1 ≤ j → j < 6 → get_or r' (i * 6 + j) 0 ≡ get_or r (i * 6 + j) 0

-- the first n tasks are idle or not; every other bit is as it was
pub record Marked (states d d' : List ℕ) (n : ℕ) : Type 0 where
  pub idle : (i : ℕ) → i < n → has Idle d' i ≡ idle_of (get_or states i 0)
  pub others : (k : Block) (i : ℕ) → i < 128 → (plane_of k ≡ plane_of Idle → i < n → ⊥) → has k d' i ≡ has k d i

pub marked_turn : (states r d : List ℕ) (n : ℕ) (v : Bool) (y : ℕ) → length d ≡ 64 → n < 126 → v ≡ idle_of (get_or states n 0) → NewBit (n % 8) v (get_or d (n / 8) 0) y
    → Marked states r d n → Marked states r (set d (n / 8) y) (n + 1)
marked_turn states r d n v y l h e new b =
    let at : 0 + n / 8 ≡ n / 8 = omega arith in
    let x : NewBlock Idle n v d (set d (n / 8) y) =
    subst (λ (i : ℕ). NewBlock Idle n v d (set d i y)) at (block_set d Idle n v y (omega arith) (omega arith) (subst (λ (i : ℕ). NewBit (n % 8) v (get_or d i 0) y) (sym at) new)) in
    record {
      idle = below_more (λ i. has Idle (set d (n / 8) y) i ≡ idle_of (get_or states i 0)) n (λ i g. x.others Idle i (omega arith) (λ p q. omega arith) ∙ b.idle i g) (x.here ∙ e);
      others = λ k i g ne. x.others k i g (λ p q. ne p (omega arith)) ∙ b.others k i g (λ p q. ne p (omega arith));
    }

-- planes of which nothing was set before
has_none : (k : Block) (d : List ℕ) (i : ℕ) → i < 128 → ((j : ℕ) → j < 64 → get_or d j 0 ≡ 0) → has k d i ≡ false
unfolding has
has_none k d i h zeros = ap (λ (x : ℕ). bit x (i % 8)) (zeros (16 * plane_of k + i / 8) (omega (arith, plane_low k))) ∙ bit_zero (i % 8)

marked_blocks : (states d d' : List ℕ) (n i : ℕ) → i < n → n ≤ 126 → ((j : ℕ) → j < 64 → get_or d j 0 ≡ 0) → Marked states d d' n → blocks_at d' i ≡ fresh_blocks (get_or states i 0)
unfolding blocks_at
marked_blocks states d d' n i h m zeros b =
    let l : i < 128 = omega arith in
    let no : (k : Block) → (plane_of k ≡ plane_of Idle → ⊥) → has k d' i ≡ false = λ k ne. b.others k i l (λ p q. ne p) ∙ has_none k d i l zeros in
    λ x. record { idle = b.idle i h x; suspended = no Suspended (λ e. omega arith) x; event = no Event (λ e. omega arith) x; message = no Message (λ e. omega arith) x }

-- ---- the four writes: the fill, the idle tasks, the outcomes, the ticks
module _ (s : Shape) (l : Laid s) (states d : List ℕ) (room : s.end ≤ length d) (n : length states ≡ s.tasks)
    (ys : List ℕ) (ey : ys ≡ replicate s.messageat 0) where
  abbrev d₁ : List ℕ
  d₁ = put_mid 0 (s.messageat - 0) d ys

  length_ys : length ys ≡ s.messageat - 0
  length_ys = ap length ey ∙ length-replicate s.messageat 0 ∙ omega arith

  d₁_is : d₁ ≡ splice d 0 ys
  d₁_is = lent_part d 0 s.messageat ys (omega arith) (omega arith) length_ys

  length_d₁ : length d₁ ≡ length d
  length_d₁ = ap length d₁_is ∙ length_splice d 0 ys (omega (arith, length_ys))

  blank : (i : ℕ) → i < s.messageat → get_or d₁ i 0 ≡ 0
  blank i b =
      let e : 0 + i ≡ i = omega arith in
      ap (λ (x : List ℕ). get_or x i 0) d₁_is ∙ ap (λ (x : ℕ). get_or (splice d 0 ys) x 0) (sym e)
      ∙ byte_in d ys 0 (omega (arith, length_ys)) i (omega (arith, length_ys)) ∙ ap (λ (x : List ℕ). get_or x i 0) ey ∙ get_or-replicate s.messageat i 0 0 b

  -- the planes, lent
  abbrev planes : List ℕ
  planes = cut d₁ planes_at records_at

  planes_blank : (i : ℕ) → i < 64 → get_or planes i 0 ≡ 0
  planes_blank i h = get_d_cut d₁ planes_at records_at i (omega arith) ∙ blank (planes_at + i) (omega arith)

  length_two : (ps d₂ : List ℕ) → length ps ≡ 64 → d₂ ≡ put_mid planes_at (records_at - planes_at) d₁ ps → (length d₂ ≡ length d) × (d₂ ≡ splice d₁ planes_at ps)
  length_two ps d₂ n e =
      let x : d₂ ≡ splice d₁ planes_at ps = e ∙ lent_part d₁ planes_at records_at ps (omega arith) (omega (arith, length_d₁)) (omega arith) in
      (ap length x ∙ length_splice d₁ planes_at ps (omega (arith, length_d₁)) ∙ length_d₁, x)

  module _ (ps d₂ : List ℕ) (lp : length ps ≡ 64) (m : Marked states planes ps (length states)) (ed : d₂ ≡ put_mid planes_at (records_at - planes_at) d₁ ps) (r : List ℕ) (lr : length r ≡ s.semaphoreat - s.recordat)
      (b : Begun states (cut d₂ s.recordat s.semaphoreat) r (length states)) (k : ℕ) where
    abbrev d₃ : List ℕ
    d₃ = put_mid s.recordat (s.semaphoreat - s.recordat) d₂ r

    length_d₂ : length d₂ ≡ length d
    length_d₂ = (length_two ps d₂ lp ed).0

    e₂ : d₂ ≡ splice d₁ planes_at ps
    e₂ = (length_two ps d₂ lp ed).1

    d₃_is : d₃ ≡ splice d₂ s.recordat r
    d₃_is = lent_part d₂ s.recordat s.semaphoreat r (omega arith) (omega (arith, length_d₂)) lr

    length_d₃ : length d₃ ≡ length d
    length_d₃ = ap length d₃_is ∙ length_splice d₂ s.recordat r (omega (arith, length_d₂)) ∙ length_d₂

    abbrev d₄ : List ℕ
    d₄ = set d₃ 0 k

    first : get_or d₄ 0 0 ≡ k
    first = get_or-set_same d₃ 0 k 0 (omega (arith, length_d₃))

    rest : (i : ℕ) → 1 ≤ i → get_or d₄ i 0 ≡ get_or (splice d₂ s.recordat r) i 0
    rest i h = get_or-set_other d₃ 0 i k 0 (λ q. omega arith) ∙ ap (λ (x : List ℕ). get_or x i 0) d₃_is

    before : (i : ℕ) → 1 ≤ i → i < s.recordat → get_or d₄ i 0 ≡ get_or d₂ i 0
    before i a h = rest i a ∙ byte_below d₂ r s.recordat (omega (arith, length_d₂)) i h

    within : (i : ℕ) → i < 6 * s.tasks → get_or d₄ (s.recordat + i) 0 ≡ get_or r i 0
    within i h = rest (s.recordat + i) (omega arith) ∙ byte_in d₂ r s.recordat (omega (arith, length_d₂)) i (omega arith)

    was_plane : (i : ℕ) → i < 64 → get_or d₂ (planes_at + i) 0 ≡ get_or ps i 0
    was_plane i h = ap (λ (x : List ℕ). get_or x (planes_at + i) 0) e₂ ∙ byte_in d₁ ps planes_at (omega (arith, length_d₁)) i (omega arith)

    was_below : (i : ℕ) → i < 2 → get_or d₂ i 0 ≡ 0
    was_below i h = ap (λ (x : List ℕ). get_or x i 0) e₂ ∙ byte_below d₁ ps planes_at (omega (arith, length_d₁)) i h ∙ blank i (omega arith)

    was_above : (i : ℕ) → s.recordat ≤ i → i < s.messageat → get_or d₂ i 0 ≡ 0
    was_above i h m = ap (λ (x : List ℕ). get_or x i 0) e₂ ∙ byte_above d₁ ps planes_at (omega (arith, length_d₁)) i (omega arith) ∙ blank i m

    behind : (i : ℕ) → s.semaphoreat ≤ i → i < s.messageat → get_or d₄ i 0 ≡ 0
    behind i h m = rest i (omega arith) ∙ byte_above d₂ r s.recordat (omega (arith, length_d₂)) i (omega arith) ∙ was_above i (omega arith) m

    no_request : (i j : ℕ) → i < s.tasks → 1 ≤ j → j < 6 → get_or d₄ (s.recordat + (i * 6 + j)) 0 ≡ 0
    no_request i j h x y =
        within (i * 6 + j) (omega arith) ∙ b.others i j x y
        ∙ get_d_cut d₂ s.recordat s.semaphoreat (i * 6 + j) (omega arith)
        ∙ was_above (s.recordat + (i * 6 + j)) (omega arith) (omega arith)

    planes_now : cut d₄ planes_at records_at ≡ ps
    planes_now =
        let n : length (cut d₄ planes_at records_at) ≡ 64 = length_cut d₄ planes_at records_at (omega (arith, length-set d₃ 0 k, length_d₃)) in
        ext_get_or 0 (cut d₄ planes_at records_at) ps (n ∙ sym lp) (λ i h.
        let u : i < 64 = omega arith in
        get_d_cut d₄ planes_at records_at i (omega arith) ∙ before (planes_at + i) (omega arith) (omega arith) ∙ was_plane i u)

    written_tables : FreshTables s k states d₄
    written_tables =
        record {
          ticks = first;
          messages = before 1 (omega arith) (omega arith) ∙ was_below 1 (omega arith);
          blocks = λ i h. ap (λ (x : List ℕ). blocks_at x i) planes_now ∙ marked_blocks states planes ps (length states) i (omega arith) (omega (arith, l.few)) planes_blank m;
          behind = λ q i h g. ap (λ (x : List ℕ). has q x i) planes_now ∙ m.others q i g (λ e f. omega arith) ∙ has_none q planes i g planes_blank;
          kinds = λ i h. within (i * 6) (omega arith) ∙ b.kinds i (omega arith);
          requests = no_request;
          semaphores = λ i h. behind (s.semaphoreat + i) (omega arith) (omega arith);
          rings = λ i h. behind (s.ringat + i) (omega arith) (omega arith);
        }

-- ---- where they lie
module _ {s : Shape} {n : ℕ} where
  pub front_in : Fits s n → (records_at ≤ n) × (s.messageat ≤ n) × (s.tasks ≤ 126)
  front_in (fitting l r) = (omega arith, omega arith, l.few)

  pub records_in_lem : Fits s n → (s.semaphoreat ≡ s.recordat + 6 * s.tasks) × (s.semaphoreat ≤ n)
  records_in_lem (fitting l r) = (l.states, omega arith)

-- the same, as the code leaves it
pub written : (s : Shape) (states d : List ℕ) → Fits s (length d) → length states ≡ s.tasks
    → (ys : List ℕ) → ys ≡ replicate (length (cut d 0 s.messageat)) 0
    → (ps : List ℕ) → length ps ≡ 64 → Marked states (cut (put_mid 0 (s.messageat - 0) d ys) planes_at records_at) ps (length states)
    → (d₂ : List ℕ) → d₂ ≡ put_mid planes_at (records_at - planes_at) (put_mid 0 (s.messageat - 0) d ys) ps
    → (r : List ℕ) → length r ≡ length (cut d₂ s.recordat s.semaphoreat) → Begun states (cut d₂ s.recordat s.semaphoreat) r (length states)
    → (k : ℕ) → FreshTables s k states (set (put_mid s.recordat (s.semaphoreat - s.recordat) d₂ r) 0 k)
written s states d f n ys ey ps lp mk d₂ e₂ r lr b k =
    let l : Laid s = laid f in
    let m : length (cut d 0 s.messageat) ≡ s.messageat = length_cut d 0 s.messageat (omega (arith, room f)) ∙ omega arith in
    let y : ys ≡ replicate s.messageat 0 = ey ∙ ap (λ (x : ℕ). replicate x 0) m in
    written_tables s l states d (room f) n ys y ps d₂ lp mk e₂ r (lr ∙ length_cut d₂ s.recordat s.semaphoreat (omega (arith, (length_two s l states d (room f) n ys y ps d₂ lp e₂).0, room f))) b k
