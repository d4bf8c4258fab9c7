-- What the rows' changes are on the timers that the rows mean. Each is an induction over the records: a timer is due at `lowest` of its own time and those behind it.
use Rattle.std.specs.Prelude.{◌≡◌, Bool, length, get_or, drop}
use Rattle.std.proofs.Math.Path.{refl, ap, ap₂}
use Rattle.std.proofs.Common.{sym, ◌∙◌, add-one}
use mathlib.Core.List.{List, [], ◌∷◌, map}
use Rattle.std.proofs.Math.Bool.{true, false}
use Prim.Native.Nat.{ℕ, zero, suc, ◌+◌, ◌-◌, ◌<◌, ◌≤◌}
use native.Mathlib.Omega.{arith}
use Rattle.std.proofs.Math.Dec.{ltb}
use borrow.Author.Tests.{lt-ltb, le-ltb}
use Rattle.ledger.specs.Lists.{insert_by}
use Rattle.ledger.specs.Ledger.{Timer}
use Rattle.ledger.specs.Session.{TimerLeft}
use Rattle.rows.specs.Rows.{insert_at, remove_at}
use Rattle.rows.specs.First.{first_of, insert_by_is}
use Rattle.timers.specs.Timers.{timer, entry, lowest, until_due, left_at, shown_by, tocks_left, later, tocked, no_timer, settled_by, handed_on, no_entry, AllFrom, LastBy}
use Rattle.timers.specs.Order.{low_le, low_other, low_at, low_insert, low_least, low_remove, low_settled}

pub shown_length : (time floor : ℕ) (l : List Timer) → length (shown_by time floor l) ≡ length l
unfolding shown_by
shown_length time floor [] = refl
shown_length time floor (t ∷ ts) = ap suc (shown_length time floor ts)

-- a test that does not look at the tocks left
pub shown_blind : (p : TimerLeft → Bool) → ((x y : ℕ) (t : Timer) → p (left_at x t) ≡ p (left_at y t)) → (time floor k : ℕ) (l : List Timer) → k < length l
    → p (get_or (shown_by time floor l) k no_timer) ≡ p (left_at 0 (get_or l k no_entry))
unfolding shown_by
shown_blind p same time floor k [] h = absurd (omega arith)
shown_blind p same time floor zero (t ∷ ts) h = same (until_due time floor (lowest t.due ts)) 0 t
shown_blind p same time floor (suc k) (t ∷ ts) h = shown_blind p same time floor k ts (omega arith)

-- ---- time

-- the time goes on: each has one tock less
pub shown_tock : (time floor : ℕ) (l : List Timer) → shown_by (time + 1) floor l ≡ map tocked (shown_by time floor l)
unfolding shown_by
shown_tock time floor [] = refl
shown_tock time floor (t ∷ ts) =
    let m : ℕ = lowest t.due ts in
    let e : until_due (time + 1) floor m ≡ until_due time floor m - 1 = omega arith in
    ap₂ ◌∷◌ (ap (λ (x : ℕ). left_at x t) e) (shown_tock time floor ts)

-- a floor that the time has reached says nothing, and neither does one below all times
pub shown_floor : (time f g : ℕ) (l : List Timer) → f ≤ time → AllFrom g l → shown_by time g l ≡ shown_by time f l
unfolding shown_by lowest
shown_floor time f g [] h k = refl
shown_floor time f g (t ∷ ts) h k =
    let m : ℕ = lowest t.due ts in
    let a : g ≤ lowest g ts = omega arith in
    let b : g ≤ m = low_other g g t.due ts a (omega arith) in
    let e : until_due time g m ≡ until_due time f m = omega arith in
    ap₂ ◌∷◌ (ap (λ (x : ℕ). left_at x t) e) (shown_floor time f g ts h a)

-- settled records with another clock, where that is no matter at any one time
pub shown_settled : (time time' f f' back floor : ℕ) → ((m : ℕ) → until_due time' f' (until_due back floor m) ≡ until_due time f m)
    → (l : List Timer) → shown_by time' f' (map (settled_by back floor) l) ≡ shown_by time f l
unfolding shown_by
shown_settled time time' f f' back floor h [] = refl
shown_settled time time' f f' back floor h (t ∷ ts) =
    let e = ap (until_due time' f') (low_settled back floor t.due ts) ∙ h (lowest t.due ts) in
    ap₂ ◌∷◌ (ap (λ (x : ℕ). left_at x t) e) (shown_settled time time' f f' back floor h ts)

-- ---- a timer put in

module _ (time f left y : ℕ) (ahead : y ≡ time + left) (low : f ≤ y) where
  -- the records that are due by y are those up to the last that says so
  pub shown_first : (k : ℕ) (l : List Timer) → k ≤ length l → LastBy y k l → AllFrom (suc y) (drop k l) → first_of (later left) (shown_by time f l) ≡ k
  unfolding shown_by lowest
  shown_first zero [] h r a = refl
  shown_first zero (t ∷ ts) h r a =
      let m : ℕ = lowest t.due ts in
      let b : suc y ≤ m = low_other (suc y) (suc y) t.due ts (omega arith) (omega arith) in
      let e : ltb left (until_due time f m) ≡ true = lt-ltb left (until_due time f m) (omega arith) in
      rw e
  shown_first (suc k) [] h r a = absurd (omega arith)
  shown_first (suc k) (t ∷ ts) h r a =
      let m : ℕ = lowest t.due ts in
      let b : m ≤ y = omega (arith, low_at k t ts (omega arith)) in
      let e : ltb left (until_due time f m) ≡ false = le-ltb left (until_due time f m) (omega arith) in
      rw (e, add-one) (ap suc (shown_first k ts (omega arith) (behind k r) a))
    where
      behind : (k : ℕ) → LastBy y (suc k) (t ∷ ts) → LastBy y k ts
      behind zero r = tt
      behind (suc k) r = r

  shown_put : (a b p k : ℕ) (l : List Timer) → k ≤ length l → LastBy y k l → AllFrom (suc y) (drop k l)
      → shown_by time f (insert_at k (entry a b y p) l) ≡ insert_at k (timer a b left p) (shown_by time f l)
  unfolding shown_by lowest
  shown_put a b p zero l h r g =
      let m : ℕ = lowest y l in
      let i : y ≤ m = low_other y (suc y) y l (omega arith) (omega arith) in
      let e : until_due time f m ≡ left = omega (arith, low_le y l) in
      ap (λ (x : ℕ). timer a b x p ∷ shown_by time f l) e
  shown_put a b p (suc k) [] h r g = absurd (omega arith)
  shown_put a b p (suc k) (t ∷ ts) h r g =
      let m : ℕ = lowest t.due ts in
      let i : m ≤ y = omega (arith, low_at k t ts (omega arith)) in
      let e : lowest t.due (insert_at k (entry a b y p) ts) ≡ m = low_insert t.due k (entry a b y p) ts ∙ omega arith in
      ap₂ ◌∷◌ (ap (λ (x : ℕ). left_at (until_due time f x) t) e) (shown_put a b p k ts (omega arith) (behind k r) g)
    where
      behind : (k : ℕ) → LastBy y (suc k) (t ∷ ts) → LastBy y k ts
      behind zero r = tt
      behind (suc k) r = r

  pub shown_insert : (a b p k : ℕ) (l : List Timer) → k ≤ length l → LastBy y k l → AllFrom (suc y) (drop k l)
      → shown_by time f (insert_at k (entry a b y p) l) ≡ insert_by tocks_left (timer a b left p) (shown_by time f l)
  shown_insert a b p k l h r g =
      shown_put a b p k l h r g
      ∙ ap (λ (i : ℕ). insert_at i (timer a b left p) (shown_by time f l)) (sym (shown_first k l h r g))
      ∙ sym (insert_by_is tocks_left (timer a b left p) (shown_by time f l))

-- one that is due at the floor goes in first, whatever earlier time its row keeps
pub shown_before : (time f left x a b p : ℕ) (l : List Timer) → f ≡ time + left → x ≤ f → AllFrom (suc f) l
    → shown_by time f (entry a b x p ∷ l) ≡ insert_by tocks_left (timer a b left p) (shown_by time f l)
unfolding shown_by
shown_before time f left x a b p l ahead h g =
    let e : until_due time f (lowest x l) ≡ left = omega (arith, low_le x l) in
    ap (λ (z : ℕ). timer a b z p ∷ shown_by time f l) e
    ∙ ap (λ (i : ℕ). insert_at i (timer a b left p) (shown_by time f l)) (sym (shown_first time f left f ahead (omega arith) 0 l (omega arith) tt g))
    ∙ sym (insert_by_is tocks_left (timer a b left p) (shown_by time f l))

-- ---- a timer taken out

pub shown_remove : (time f k : ℕ) (l : List Timer) → k < length l → shown_by time f (remove_at k (handed_on k l)) ≡ remove_at k (shown_by time f l)
unfolding shown_by handed_on lowest
shown_remove time f k [] h = absurd (omega arith)
shown_remove time f zero (t ∷ ts) h = refl
shown_remove time f (suc zero) (t ∷ []) h = absurd (omega arith)
shown_remove time f (suc zero) (t ∷ u ∷ us) h =
    ap (λ (x : ℕ). left_at (until_due time f x) t ∷ shown_by time f us) (low_least t.due u.due us)
shown_remove time f (suc (suc k)) (t ∷ ts) h =
    rw add-one (ap₂ ◌∷◌ (ap (λ (x : ℕ). left_at (until_due time f x) t) (rw add-one at (low_remove t.due k ts (omega arith)))) (rw add-one at (shown_remove time f (suc k) ts (omega arith))))
