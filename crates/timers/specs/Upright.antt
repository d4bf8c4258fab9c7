-- Records in order, from the floor on: each timer is due at the time in its own row. Every change of the rows keeps them so.
use Rattle.std.specs.Prelude.{◌≡◌, refl, List, [], ◌∷◌, map, ℕ, zero, suc, ◌-◌, ◌<◌, ◌≤◌, min, length, drop}
use Rattle.std.proofs.Common.{ap, ap₂, add-one, arith}
use Rattle.ledger.specs.Ledger.{Timer}
use Rattle.rows.specs.Rows.{insert_at, remove_at}
use Rattle.timers.specs.Timers.{entry, lowest, until_due, left_at, shown_by, IsUpright, settled_by, due_at, handed_on, AllFrom, LastBy}
use Rattle.timers.specs.Order.{low_le, low_at, from_none, from_fewer, from_cons}

-- none is due before the floor
pub upright_from : (f : ℕ) (l : List Timer) → IsUpright f l → AllFrom f l
unfolding IsUpright
upright_from f [] u = from_none f
upright_from f (t ∷ ts) u = from_cons f t ts u.0 (from_fewer t.due f ts (upright_from t.due ts u.1) u.0)

-- another floor, if none is due before it
pub upright_floor : (f g : ℕ) (l : List Timer) → IsUpright f l → AllFrom g l → IsUpright g l
unfolding IsUpright lowest
upright_floor f g [] u a = tt
upright_floor f g (t ∷ ts) u a = (omega arith, u.1)

pub upright_lower : (f g : ℕ) (l : List Timer) → IsUpright f l → g ≤ f → IsUpright g l
upright_lower f g l u h = upright_floor f g l u (from_fewer f g l (upright_from f l u) h)

-- a timer is due at its own row's time
pub upright_shown : (time f : ℕ) (l : List Timer) → IsUpright f l → shown_by time f l ≡ map (λ (t : Timer). left_at (t.due - time) t) l
unfolding IsUpright shown_by
upright_shown time f [] u = refl
upright_shown time f (t ∷ ts) u =
    let m : ℕ = lowest t.due ts in
    let e : until_due time f m ≡ t.due - time = omega (arith, u.0, low_le t.due ts, upright_from t.due ts u.1) in
    ap₂ ◌∷◌ (ap (λ (x : ℕ). left_at x t) e) (upright_shown time f ts (upright_lower t.due f ts u.1 u.0))

-- all are settled, and the floor with them
pub upright_settled : (back floor f : ℕ) (l : List Timer) → IsUpright f l → IsUpright (until_due back floor f) (map (settled_by back floor) l)
unfolding IsUpright
upright_settled back floor f [] u = tt
upright_settled back floor f (t ∷ ts) u = (omega (arith, u.0), upright_settled back floor t.due ts u.1)

-- one goes in behind those that are due by y
pub upright_insert : (f y a b p k : ℕ) (l : List Timer) → IsUpright f l → f ≤ y → k ≤ length l → LastBy y k l → AllFrom (suc y) (drop k l) → IsUpright f (insert_at k (entry a b y p) l)
unfolding IsUpright
upright_insert f y a b p zero l u low h r g = (low, upright_floor f y l u (from_fewer (suc y) y l g (omega arith)))
upright_insert f y a b p (suc k) [] u low h r g = absurd (omega arith)
upright_insert f y a b p (suc k) (t ∷ ts) u low h r g =
    (u.0, upright_insert t.due y a b p k ts u.1 (omega (arith, r, upright_from t.due ts u.1, low_at k t ts (omega arith))) (omega arith) (behind k r) g)
  where
    behind : (k : ℕ) → LastBy y (suc k) (t ∷ ts) → LastBy y k ts
    behind zero r = tt
    behind (suc k) r = r

-- one goes out
pub upright_remove : (f k : ℕ) (l : List Timer) → IsUpright f l → IsUpright f (remove_at k l)
unfolding IsUpright
upright_remove f zero [] u = tt
upright_remove f (suc k) [] u = rw add-one tt
upright_remove f zero (t ∷ ts) u = upright_lower t.due f ts u.1 u.0
upright_remove f (suc k) (t ∷ ts) u = rw add-one (u.0, rw add-one at (upright_remove t.due k ts u.1))

-- there is nothing to hand on
pub upright_handed : (f k : ℕ) (l : List Timer) → IsUpright f l → k < length l → handed_on k l ≡ l
unfolding IsUpright handed_on
upright_handed f zero l u h = refl
upright_handed f (suc k) [] u h = absurd (omega arith)
upright_handed f (suc zero) (t ∷ []) u h = absurd (omega arith)
upright_handed f (suc zero) (t ∷ v ∷ vs) u h =
    let e : min t.due v.due ≡ t.due = omega (arith, u.1.0) in
    ap (λ (x : ℕ). due_at x t ∷ v ∷ vs) e
upright_handed f (suc (suc k)) (t ∷ ts) u h = ap (◌∷◌ t) (upright_handed t.due (suc k) ts u.1 (omega arith))
