-- What a ring holds after an entry is put in or taken out.
use Rattle.std.specs.Prelude.{◌≡◌, refl, List, [], ◌∷◌, ◌++◌, Bool, true, false, ℕ, zero, suc, ◌+◌, ◌-◌, ◌*◌, ◌/◌, ◌%◌, ◌<◌, ◌≤◌, length, get_or, drop, ltb}
use Rattle.std.proofs.Common.{sym, ap, ◌∙◌, add-zero, suc-add, suc-mul, mod-lt, div-add-mod', add-one, arith, lt-ltb, le-ltb, ltb-true, ltb-false}
use Rattle.std.proofs.Math.Arith.{digits_mod}
use Rattle.rows.specs.Splice.{cut, splice}
use Rattle.rows.specs.Rows.{row_at, row_same, row_other, row_fits}
use Rattle.rings.specs.Ring.{wrap_of, gather, holds}

module _ {A : Type 0} where
  -- two that agree place by place
  pub gather_ext : (f g : ℕ → A) (i j n : ℕ) → ((k : ℕ) → k < n → f (i + k) ≡ g (j + k)) → gather f i n ≡ gather g j n
  gather_ext f g i j zero h = refl
  gather_ext f g i j (suc n) h =
      let p : f i ≡ g j = simp add-zero at (h 0 (omega arith)) in
      let q : gather f (suc i) n ≡ gather g (suc j) n = gather_ext f g (suc i) (suc j) n (λ k l.
      let a : suc i + k ≡ i + suc k = omega arith in
      let b : suc j + k ≡ j + suc k = omega arith in
      rw (a, b) (h (suc k) (omega arith))) in
      rw (p, q)

  pub gather_more : (f : ℕ → A) (i n : ℕ) → gather f i (n + 1) ≡ gather f i n ++ (f (i + n) ∷ [])
  gather_more f i zero = rw add-zero
  gather_more f i (suc n) =
      let a : i + suc n ≡ suc i + n = omega arith in
      rw (suc-add, a, gather_more f (suc i) n)

pub wrap_low : (depth x : ℕ) → x < depth → wrap_of depth x ≡ x
wrap_low depth x h = rw (lt-ltb x depth h)

pub wrap_high : (depth x : ℕ) → depth ≤ x → wrap_of depth x ≡ x - depth
wrap_high depth x h = rw (le-ltb x depth h)

-- by cases: below the depth, or past it
wrap_by : (P : Type 0) (depth x : ℕ) → (x < depth → wrap_of depth x ≡ x → P) → (depth ≤ x → wrap_of depth x ≡ x - depth → P) → P
wrap_by P depth x f g = go (ltb x depth) refl
  where
    go : (b : Bool) → ltb x depth ≡ b → P
    go true e = let h = ltb-true x depth e in f h (wrap_low depth x h)
    go false e = let h = ltb-false x depth e in g h (wrap_high depth x h)

pub wrap_in : (depth x : ℕ) → x < depth + depth → wrap_of depth x < depth
wrap_in depth x h = wrap_by (wrap_of depth x < depth) depth x (λ a b. omega arith) (λ a b. omega arith)

pub wrap_other : (depth head k n : ℕ) → head < depth → k < n → n < depth → wrap_of depth (head + k) ≡ wrap_of depth (head + n) → ⊥
wrap_other depth head k n h kn nd e =
    wrap_by ⊥ depth (head + k)
    (λ a b. wrap_by ⊥ depth (head + n) (λ a' b'. omega arith) (λ a' b'. omega arith))
    (λ a b. wrap_by ⊥ depth (head + n) (λ a' b'. omega arith) (λ a' b'. omega arith))

pub wrap_on : (depth head k : ℕ) → head < depth → k < depth → wrap_of depth (suc head + k) ≡ wrap_of depth (wrap_of depth (head + 1) + k)
wrap_on depth head k h kd =
    wrap_by (wrap_of depth (suc head + k) ≡ wrap_of depth (wrap_of depth (head + 1) + k)) depth (head + 1)
    (λ a b. rw (b, add-one))
    (λ a b.
    let z : head + 1 - depth ≡ 0 = omega arith in
    let y : wrap_of depth (suc head + k) ≡ suc head + k - depth = wrap_high depth (suc head + k) (omega arith) in
    let x : wrap_of depth (0 + k) ≡ 0 + k = wrap_low depth (0 + k) (omega arith) in
    rw (b, z, x, y) (omega arith))

-- a place that steps on with each entry taken is the number taken, modulo the depth
pub wrap_next : (depth n : ℕ) → 1 ≤ depth → wrap_of depth (n % depth + 1) ≡ suc n % depth
wrap_next depth n h =
    let q : ℕ = n / depth in
    let r : ℕ = n % depth in
    let low : r < depth = mod-lt n h in
    let e : q * depth + r ≡ n = div-add-mod' n depth in
    wrap_by (wrap_of depth (r + 1) ≡ suc n % depth) depth (r + 1)
    (λ a b. let x : q * depth + (r + 1) ≡ suc n = omega arith in b ∙ sym (digits_mod q a) ∙ ap (λ (k : ℕ). k % depth) x)
    (λ a b.
    let x : suc q * depth + 0 ≡ suc n = omega (arith, suc-mul q depth) in
    let z : r + 1 - depth ≡ 0 = omega arith in
    b ∙ z ∙ sym (digits_mod (suc q) {m = depth} {r = 0} h) ∙ ap (λ (k : ℕ). k % depth) x)

-- ---- what a ring holds

pub holds_put : (w depth head count : ℕ) (d e : List ℕ) → head < depth → count < depth → depth * w ≤ length d → length e ≡ w
    → holds w depth head (count + 1) (splice d (wrap_of depth (head + count) * w) e) ≡ holds w depth head count d ++ (e ∷ [])
holds_put w depth head count d e h c room l =
    let k : ℕ = wrap_of depth (head + count) in
    let kd : k < depth = wrap_in depth (head + count) (omega arith) in
    let d' : List ℕ = splice d (k * w) e in
    let f : ℕ → List ℕ = λ i. row_at w (wrap_of depth i) d in
    let f' : ℕ → List ℕ = λ i. row_at w (wrap_of depth i) d' in
    let p : gather f' head count ≡ gather f head count = gather_ext f' f head head count (λ j jc.
    row_other w depth k d e room kd l (wrap_of depth (head + j)) (wrap_in depth (head + j) (omega arith)) (wrap_other depth head j count h jc c)) in
    gather_more f' head count ∙ rw (p, row_same w depth k d e room kd l)

module _ (w depth head count : ℕ) (d : List ℕ) (h : head < depth) (z : 0 < count) (c : count ≤ depth) where
  holds_cons : holds w depth head count d ≡ row_at w (wrap_of depth head) d ∷ holds w depth (suc head) (count - 1) d
  holds_cons = let e : count ≡ suc (count - 1) = omega arith in ap (λ (n : ℕ). holds w depth head n d) e

  pub holds_first : get_or (holds w depth head count d) 0 [] ≡ row_at w head d
  holds_first = rw (holds_cons, wrap_low depth head h)

  pub holds_rest : holds w depth (wrap_of depth (head + 1)) (count - 1) d ≡ drop 1 (holds w depth head count d)
  holds_rest =
      let f : ℕ → List ℕ = λ i. row_at w (wrap_of depth i) d in
      rw holds_cons (sym (gather_ext f f (suc head) (wrap_of depth (head + 1)) (count - 1) (λ k kc. ap (λ (x : ℕ). row_at w x d) (wrap_on depth head k h (omega arith)))))

-- a place that was counted on lies within the ring
pub wrapped_fits : (w depth head count i : ℕ) → head < depth → count < depth → i ≡ wrap_of depth (head + count) → i * w + w ≤ depth * w
wrapped_fits w depth head count i h c e = row_fits w i depth (omega (arith, wrap_in depth (head + count) (omega arith)))

pub put_done : (w depth head count i : ℕ) (d d' e : List ℕ) → head < depth → count < depth → depth * w ≤ length d → length e ≡ w
    → i ≡ wrap_of depth (head + count) → d' ≡ splice d (i * w) e
    → (d' ≡ splice d (wrap_of depth (head + count) * w) e) × (holds w depth head (count + 1) d' ≡ holds w depth head count d ++ (e ∷ []))
put_done w depth head count i d d' e h c room l ei ed =
    let x : d' ≡ splice d (wrap_of depth (head + count) * w) e = ed ∙ ap (λ (z : ℕ). splice d (z * w) e) ei in
    (x, ap (holds w depth head (count + 1)) x ∙ holds_put w depth head count d e h c room l)

pub take_done : (w depth head count r : ℕ) (d o o' : List ℕ) → head < depth → 0 < count → count ≤ depth
    → o' ≡ splice o 0 (cut d (head * w) (head * w + w)) → r ≡ wrap_of depth (head + 1)
    → (o' ≡ splice o 0 (get_or (holds w depth head count d) 0 [])) × ((r < depth) × (holds w depth r (count - 1) d ≡ drop 1 (holds w depth head count d)) × (r ≡ wrap_of depth (head + 1)))
take_done w depth head count r d o o' h z c eo er =
    let e : head * w + w - head * w ≡ w = omega arith in
    let p : cut d (head * w) (head * w + w) ≡ get_or (holds w depth head count d) 0 [] = rw (holds_first w depth head count d h z c, e) in (
      eo ∙ ap (splice o 0) p,
      (
        omega (arith, wrap_in depth (head + 1) (omega arith)),
        ap (λ (x : ℕ). holds w depth x (count - 1) d) er ∙ holds_rest w depth head count d h z c,
        er,
      ),
    )

gather_length : {A : Type 0} (f : ℕ → A) (i n : ℕ) → length (gather f i n) ≡ n
gather_length f i zero = refl
gather_length f i (suc n) = ap suc (gather_length f (suc i) n)

pub holds_length : (w depth head count : ℕ) (d : List ℕ) → length (holds w depth head count d) ≡ count
holds_length w depth head count d = gather_length (λ (i : ℕ). row_at w (wrap_of depth i) d) head count
