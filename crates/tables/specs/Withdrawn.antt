-- A task's wait withdrawn: each byte that is the task becomes 0, which is each semaphore WAITING with it PENDING.
use Rattle.std.specs.Prelude.{Bool, ◌≡◌, refl, List, map, ℕ, ◌+◌, ◌-◌, ◌<◌, ◌≤◌, eqb, leb, length, get_or, set}
use Rattle.std.proofs.Common.{sym, ap, ◌∙◌, subst, arith, add-one, ne_eqb, eqb-true, le-leb}
use borrow.Rule.Slice.PartMut.{put_mid}
use Rattle.std.proofs.lemmas.List.{length-map}
use Rattle.std.proofs.Math.ListN.{get_or-map}
use Rattle.rows.specs.Splice.{cut, splice}
use Rattle.rows.specs.Laws.{length_cut, length_splice, splice_whole, lent_back}
use Rattle.rows.specs.Rows.{map_upto, map_upto_at, map_upto_suc, map_upto_all}
use Rattle.rows.specs.Tab.{tab_ext, map_tab}
use Rattle.ledger.specs.Config.{Config}
use Rattle.ledger.specs.Ledger.{Ledger, Semaphore}
use Rattle.ledger.specs.Services.{not_waiting, withdraw_wait}
use Rattle.tables.specs.declared.shape.Shape.{Shape}
use Rattle.tables.specs.Layout.{OneOf, bound, region, Regions, named, regions, but, written}
use Rattle.tables.specs.Decode.{state_of, cleared_of, view_semaphore, state_as}
use Rattle.tables.specs.Encoded.{case}
use Rattle.tables.specs.Shows.{semaphore_count, semaphore_at, semaphores_in, ShowsAs}
use Rattle.tables.specs.Items.{with_semaphores, semaphores_shown}
use Rattle.tables.specs.Stored.{shows_as}

-- ---- the loop
pub cleared_turn : (t i : ℕ) (l₀ l : List ℕ) (r : ℕ) → i < length l₀ → l ≡ map_upto (cleared_of t) i l₀ → r ≡ cleared_of t (get_or l i 0) → set l i r ≡ map_upto (cleared_of t) (i + 1) l₀
cleared_turn t i l₀ l r h e er =
    let x : r ≡ cleared_of t (get_or l₀ i 0) = er ∙ ap (λ (y : List ℕ). cleared_of t (get_or y i 0)) e ∙ ap (cleared_of t) (map_upto_at (cleared_of t) i l₀ 0) in
    ap (λ (y : ℕ). set l i y) x ∙ ap (λ (y : List ℕ). set y i (cleared_of t (get_or l₀ i 0))) e ∙ map_upto_suc (cleared_of t) i l₀ 0 h ∙ ap (λ (n : ℕ). map_upto (cleared_of t) n l₀) (sym (add-one i))

pub cleared_end : (t i : ℕ) (l₀ l : List ℕ) → length l₀ ≤ i → l ≡ map_upto (cleared_of t) i l₀ → l ≡ map (cleared_of t) l₀
cleared_end t i l₀ l h e = e ∙ map_upto_all (cleared_of t) i l₀ h

-- ---- one semaphore
cleared_zero : (t : ℕ) → cleared_of t 0 ≡ 0
cleared_zero t = case (eqb 0 t) (λ e. rw e) (λ e. rw e)

cleared_is : (T t x : ℕ) → OneOf T t → not_waiting t (view_semaphore (state_of T x)) ≡ view_semaphore (state_of T (cleared_of t x))
unfolding view_semaphore not_waiting
cleared_is T t x (lo, hi) =
    case (eqb x t)
    (λ e. let q : x ≡ t = eqb-true x t e in rw (e, ne_eqb x 0 (λ z. omega arith), le-leb x T (omega arith), not_waiting, e))
    (λ e. case (eqb x 0) (λ z. rw (e, z)) (λ z. case (leb x T) (λ l. rw (e, z, l, not_waiting, e)) (λ l. rw (e, z, l))))

-- its byte is still that of what it means
cleared_as : (T t x : ℕ) → OneOf T t → x ≡ state_as (view_semaphore (state_of T x)) → cleared_of t x ≡ state_as (view_semaphore (state_of T (cleared_of t x)))
unfolding state_as view_semaphore
cleared_as T t x (lo, hi) h = case (eqb x t) (λ e. rw e) (λ e. rw e h)

-- ---- all of them
pub withdrawn : {tidy : Bool} (c : Config) (s : Shape) (L : Ledger) (d z w : List ℕ) → ShowsAs tidy c s L d z w → (t : ℕ) → OneOf s.tasks t → (ys : List ℕ)
    → ys ≡ map (cleared_of t) (cut d s.semaphoreat s.waitingat) → ShowsAs tidy c s (withdraw_wait t L) (put_mid s.semaphoreat (s.waitingat - s.semaphoreat) d ys) z w
unfolding withdraw_wait semaphores_in semaphore_at regions named but bound with_semaphores region
withdrawn {tidy} c s L d z w h t (lo, hi) ys e =
    let l = h.of.laid in
    let p : Regions = regions s d in
    let a : ℕ = s.semaphoreat in
    let k : ℕ = s.waitingat - a in
    let n : length (cut d a s.waitingat) ≡ k = length_cut d a s.waitingat (omega (arith, h.room)) in
    let m : length ys ≡ length (cut d a s.waitingat) = ap length e ∙ length-map (cut d a s.waitingat) (cleared_of t) in
    let b : put_mid a k d ys ≡ splice d (a + 0) ys = lent_back d a s.waitingat 0 ys ys (omega arith) (omega (arith, h.room)) (omega arith) (sym (splice_whole (cut d a s.waitingat) ys m)) in
    let v : splice p.semaphores 0 ys ≡ map (cleared_of t) p.semaphores = splice_whole p.semaphores ys m ∙ e in
    let f : ℕ → Semaphore = semaphore_at c p in
    let byte : (j : ℕ) → get_or (splice p.semaphores 0 ys) j 0 ≡ cleared_of t (get_or p.semaphores j 0) =
    λ j. ap (λ (x : List ℕ). get_or x j 0) v ∙ ap (get_or (map (cleared_of t) p.semaphores) j) (sym (cleared_zero t)) ∙ get_or-map (cleared_of t) p.semaphores j 0 in
    let new : map (not_waiting t) L.semaphores ≡ semaphores_in c (with_semaphores (splice p.semaphores 0 ys) p) =
    ap (map (not_waiting t)) h.shown.semaphores ∙ map_tab (not_waiting t) (semaphore_count c) f
    ∙ tab_ext (semaphore_count c) (λ i. not_waiting t (f i)) (semaphore_at c (with_semaphores (splice p.semaphores 0 ys) p))
    (λ j g. cleared_is c.T t (get_or p.semaphores j 0) (lo, omega (arith, h.of.tasks))
    ∙ ap (λ (x : ℕ). view_semaphore (state_of c.T x)) (sym (byte j))) in
    subst (λ (x : List ℕ). ShowsAs tidy c s (withdraw_wait t L) x z w) (sym b)
    (shows_as c s L d z w (splice d (a + 0) ys) z _ h (length_splice d (a + 0) ys (omega (arith, h.room))) refl (written s l d h.room 3 0 ys (omega arith)) (withdraw_wait t L)
    (semaphores_shown c L p z w h.shown (splice p.semaphores 0 ys) (map (not_waiting t) L.semaphores) new
    (λ q j g.
    let y : ℕ = get_or p.semaphores j 0 in
    let b : get_or (splice p.semaphores 0 ys) j 0 ≡ cleared_of t y = byte j in
    b ∙ cleared_as c.T t y (lo, omega (arith, h.of.tasks)) ((h.shown.tidily q).semaphores j g) ∙ ap (λ (x : ℕ). state_as (view_semaphore (state_of c.T x))) (sym b))))
