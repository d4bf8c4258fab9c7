-- The running sum over plain lists: from one stretch to the next it takes in what joins and loses what leaves. The sum of a stretch is the
-- difference of two sums from the front; the best of the stretches that end within the first k records, where the first ones are cut at the
-- front, is at last the best of all.
use Rattle.std.specs.Prelude.{◌≡◌, refl, Bool, true, false, cond, List, [], ◌∷◌, ℕ, zero, suc, ◌+◌, ◌-◌, ◌<◌, ◌≤◌, ltb, length, sum, take, drop, get_or}
use Rattle.std.proofs.Common.{sym, ap, ◌∙◌, arith, take-add, length-take, add-one, ltb-false}
use Rattle.std.proofs.Math.ListN.{get_or-map}
use Rattle.std.proofs.lemmas.List.{get_or-take, get_or-drop}
use Rattle.std.proofs.lemmas.List.Sums.{sum_by-cons, sum_by-append}
use Rattle.stretch.specs.declared.Record.{Record}
use Rattle.stretch.specs.declared.Stretch.{Stretch}
use Rattle.stretch.specs.Busiest.{counts, stretch_sum, better, best_upto}

-- what stands past the end of a list
abbrev pub none : Record
none = record { tocks = 0; running = 0; reissues = 0 }

abbrev pub reissues_at : List Record → ℕ → ℕ
reissues_at rs i = (get_or rs i none).reissues

-- ---- sums from the front
abbrev pub head : List ℕ → ℕ → ℕ
head cs k = sum (take k cs)

head_cons : (x : ℕ) (xs : List ℕ) (k : ℕ) → head (x ∷ xs) (suc k) ≡ x + head xs k
head_cons x xs k = sum_by-cons (λ (n : ℕ). n) x (take k xs)

pub head_suc : (cs : List ℕ) (k : ℕ) → head cs (suc k) ≡ head cs k + get_or cs k 0
head_suc [] zero = refl
head_suc [] (suc k) = refl
head_suc (x ∷ xs) zero = omega arith
head_suc (x ∷ xs) (suc k) = omega (arith, head_suc xs k, head_cons x xs k, head_cons x xs (suc k))

pub head_more : (cs : List ℕ) (j k : ℕ) → j ≤ k → head cs j ≤ head cs k
head_more cs zero k l = omega arith
head_more [] (suc j) k l = omega arith
head_more (x ∷ xs) (suc j) zero l = absurd (omega (arith, l))
head_more (x ∷ xs) (suc j) (suc k) l = omega (arith, head_more xs j k (omega (arith, l)), head_cons x xs j, head_cons x xs k)

stretch_head : (w : ℕ) (cs : List ℕ) (p : ℕ) → head cs (p + w) ≡ head cs p + stretch_sum w cs p
stretch_head w cs p = ap sum (take-add p w cs) ∙ sum_by-append (λ (x : ℕ). x) (take p cs) (take w (drop p cs))

-- of the records: one more joins
pub head_joins : (rs : List Record) (k : ℕ) → k < length rs → head (counts rs) (k + 1) ≡ head (counts rs) k + reissues_at rs k
head_joins rs k l = rw add-one (head_suc (counts rs) k ∙ ap (λ (n : ℕ). head (counts rs) k + n) (get_or-map (λ (r : Record). r.reissues) rs k none))

-- the record at place p leaves; the one that joins is that at p of those behind the first w
pub slides : (w : ℕ) (rs : List Record) (p : ℕ) → p < length (take (length rs - w) (drop w rs))
    → stretch_sum w (counts rs) (p + 1) + reissues_at rs p ≡ stretch_sum w (counts rs) p + reissues_at (take (length rs - w) (drop w rs)) p
slides w rs p h =
    let l : p < length rs - w = omega (arith, h, length-take (length rs - w) (drop w rs)) in
    let a = stretch_head w (counts rs) p in
    let b = stretch_head w (counts rs) (p + 1) in
    let e : p + 1 + w ≡ w + p + 1 = omega arith in
    let g : p + w ≡ w + p = omega arith in
    let c : head (counts rs) (p + 1 + w) ≡ head (counts rs) (w + p + 1) = ap (head (counts rs)) e in
    let i : head (counts rs) (p + w) ≡ head (counts rs) (w + p) = ap (head (counts rs)) g in
    let m = head_joins rs p (omega (arith, l)) in
    let n = head_joins rs (w + p) (omega (arith, l)) in
    let j : reissues_at (take (length rs - w) (drop w rs)) p ≡ reissues_at rs (w + p) =
    ap (λ (r : Record). r.reissues) (get_or-take (length rs - w) (drop w rs) p none l ∙ get_or-drop w rs p none) in
    omega arith

-- one stretch more
pub best_more : (w : ℕ) (cs : List ℕ) (k : ℕ) (b : Stretch) (v : ℕ) (r : Stretch) → r ≡ better b v (k + 1) → b ≡ best_upto w cs k → v ≡ stretch_sum w cs (k + 1) → r ≡ best_upto w cs (k + 1)
best_more w cs k b v r q e f = q ∙ rw (e, f, add-one)

-- ---- the best of the stretches that end within the first k records
abbrev pub best_to : ℕ → List ℕ → ℕ → Stretch
best_to w cs zero = record { sum = 0; place = 0 }
best_to w cs (suc k) = better (best_to w cs k) (head cs (suc k) - head cs (suc k - w)) (suc k - w)

abbrev at_start : ℕ → Stretch
at_start m = record { sum = m; place = 0 }

grows : (a v : ℕ) → a ≤ v → better (at_start a) v 0 ≡ at_start v
grows a v l = go (ltb a v) refl
  where
    go : (t : Bool) → ltb a v ≡ t → cond t (at_start v) (at_start a) ≡ at_start v
    go true e = refl
    go false e = let s : a ≡ v = omega (arith, l, ltb-false a v e) in ap at_start s

pub better_same : (b c : Stretch) (v u p q : ℕ) → b ≡ c → v ≡ u → p ≡ q → better b v p ≡ better c u q
better_same b c v u p q e f g = ap (λ (z : Stretch). better z v p) e ∙ ap (λ (z : ℕ). better c z p) f ∙ ap (better c u) g

-- as long as the first stretch is not whole, the best is what there is of it
first_part : (w : ℕ) (cs : List ℕ) (k : ℕ) → k ≤ w → best_to w cs k ≡ at_start (head cs k)
first_part w cs zero l = refl
first_part w cs (suc k) l =
    let z : suc k - w ≡ 0 = omega (arith, l) in
    let v : head cs (suc k) - head cs (suc k - w) ≡ head cs (suc k) = ap (λ (j : ℕ). head cs (suc k) - head cs j) z ∙ omega arith in
    better_same (best_to w cs k) (at_start (head cs k)) (head cs (suc k) - head cs (suc k - w)) (head cs (suc k)) (suc k - w) 0 (first_part w cs k (omega (arith, l))) v z
    ∙ grows (head cs k) (head cs (suc k)) (head_more cs k (suc k) (omega arith))

-- w records and m more: the best of the stretches at 0 to m
pub all_parts : (w : ℕ) (cs : List ℕ) (m k : ℕ) → k ≡ w + m → best_to w cs k ≡ best_upto w cs m
all_parts w cs zero k e = let f : k ≡ w = omega (arith, e) in ap (best_to w cs) f ∙ first_part w cs w (omega arith)
all_parts w cs (suc m) zero e = absurd (omega (arith, e))
all_parts w cs (suc m) (suc k) e =
    let p : suc k - w ≡ suc m = omega (arith, e) in
    let t : suc m + w ≡ suc k = omega (arith, e) in
    let s : head cs (suc k) ≡ head cs (suc m) + stretch_sum w cs (suc m) = ap (head cs) (sym t) ∙ stretch_head w cs (suc m) in
    let v : head cs (suc k) - head cs (suc k - w) ≡ stretch_sum w cs (suc m) = ap (λ (j : ℕ). head cs (suc k) - head cs j) p ∙ omega (arith, s) in
    better_same (best_to w cs k) (best_upto w cs m) (head cs (suc k) - head cs (suc k - w)) (stretch_sum w cs (suc m)) (suc k - w) (suc m) (all_parts w cs m k (omega (arith, e))) v p
