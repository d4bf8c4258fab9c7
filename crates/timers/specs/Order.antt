-- The least time of a list of records, and what it says of one more, one fewer and one that is elsewhere.
use Rattle.std.specs.Prelude.{◌≡◌, refl, List, [], ◌∷◌, map, ℕ, zero, suc, ◌-◌, ◌<◌, ◌≤◌, min, max, length, get_or}
use Rattle.std.proofs.Common.{ap, ◌∙◌, add-one, arith}
use Rattle.ledger.specs.Ledger.{Timer}
use Rattle.rows.specs.Rows.{insert_at, remove_at}
use Rattle.timers.specs.Timers.{lowest, until_due, settled_by, handed_on, no_entry, AllFrom}

pub low_le : (x : ℕ) (l : List Timer) → lowest x l ≤ x
unfolding lowest
low_le x [] = omega arith
low_le x (t ∷ ts) = omega (arith, low_le x ts)

-- what is no more than the least is no more than the least with another start
pub low_other : (m x y : ℕ) (l : List Timer) → m ≤ lowest x l → m ≤ y → m ≤ lowest y l
unfolding lowest
low_other m x y [] h k = k
low_other m x y (t ∷ ts) h k = omega (arith, low_other m x y ts (omega arith) k)

-- the least is no more than any
pub low_at : (j : ℕ) (t : Timer) (ts : List Timer) → j < length (t ∷ ts) → lowest t.due ts ≤ (get_or (t ∷ ts) j no_entry).due
unfolding lowest
low_at zero t ts h = low_le t.due ts
low_at (suc j) t [] h = absurd (omega arith)
low_at (suc j) t (u ∷ us) h =
    let m : ℕ = lowest t.due (u ∷ us) in
    let k : m ≤ lowest u.due us = low_other m t.due u.due us (omega arith) (omega arith) in
    omega (arith, low_at j u us (omega arith))

pub low_insert : (x k : ℕ) (r : Timer) (l : List Timer) → lowest x (insert_at k r l) ≡ min r.due (lowest x l)
unfolding lowest
low_insert x zero r l = refl
low_insert x (suc k) r [] = refl
low_insert x (suc k) r (t ∷ ts) =
    let e : lowest x (insert_at k r ts) ≡ min r.due (lowest x ts) = low_insert x k r ts in
    ap (min t.due) e ∙ omega arith

pub low_least : (a b : ℕ) (l : List Timer) → lowest (min a b) l ≡ min b (lowest a l)
unfolding lowest
low_least a b [] = omega arith
low_least a b (t ∷ ts) = ap (min t.due) (low_least a b ts) ∙ omega arith

-- where its time was handed on, a record behind the first is taken out unseen
pub low_remove : (x k : ℕ) (l : List Timer) → suc k < length l → lowest x (remove_at (suc k) (handed_on (suc k) l)) ≡ lowest x l
unfolding lowest handed_on
low_remove x k [] h = absurd (omega arith)
low_remove x zero (t ∷ []) h = absurd (omega arith)
low_remove x zero (t ∷ u ∷ us) h = omega arith
low_remove x (suc k) (t ∷ ts) h = rw add-one (ap (min t.due) (rw add-one at (low_remove x k ts (omega arith))))

-- settling keeps the order
both_max : (a b f : ℕ) → min (max a f) (max b f) ≡ max (min a b) f
both_max a b f = omega arith

both_less : (a b c : ℕ) → min (a - c) (b - c) ≡ min a b - c
both_less a b c = omega arith

pub low_settled : (back floor x : ℕ) (l : List Timer) → lowest (until_due back floor x) (map (settled_by back floor) l) ≡ until_due back floor (lowest x l)
unfolding lowest
low_settled back floor x [] = refl
low_settled back floor x (t ∷ ts) =
    let m : ℕ = lowest x ts in
    ap (min (until_due back floor t.due)) (low_settled back floor x ts)
    ∙ both_less (max t.due floor) (max m floor) back
    ∙ ap (λ (z : ℕ). z - back) (both_max t.due m floor)

-- ---- none before a time

pub from_none : (x : ℕ) → AllFrom x []
unfolding lowest
from_none x = omega arith

pub from_fewer : (x y : ℕ) (l : List Timer) → AllFrom x l → y ≤ x → AllFrom y l
from_fewer x y l h k = low_other y x y l (omega arith) (omega arith)

pub from_cons : (x : ℕ) (t : Timer) (ts : List Timer) → x ≤ t.due → AllFrom x ts → AllFrom x (t ∷ ts)
unfolding lowest
from_cons x t ts h k = omega arith

pub from_settled : (floor : ℕ) (l : List Timer) → AllFrom floor (map (settled_by 0 floor) l)
unfolding lowest
from_settled floor [] = omega arith
from_settled floor (t ∷ ts) = omega (arith, from_settled floor ts)
