-- 256 starts are enough: where up to eight timers take every start below 256 they take all. It is a theorem about progressions of numbers
-- (Crittenden and Vanden Eynden, 1970): n of them that cover 2 ^ n numbers side by side cover all. The known proof takes complex roots of
-- unity.
--
-- This one takes true and false, and points: a number for each progression. "x is in none" is a product with a factor for each progression. A
-- factor is a sum (exclusive or) of two: whether 0 has the rest of the point's number, and whether x less the progression's rest has it. From
-- the point of zeros the first is true, so the factor says that x is not in the progression; and who is in it has the factor false from
-- every point. Multiplied out the product is a sum of 2 ^ n terms, and each term at x + 1 is the same term at x, seen from another point
-- (`Term`). From that alone it follows that n terms whose sum is false from every point, at n numbers side by side, have it false at the next
-- number too (`gone`).
use Prim.Native.Nat.{ℕ, zero, suc, ◌+◌, ◌*◌, ◌-◌, ◌^◌, ◌%◌, ◌≤◌, ◌<◌}
use Rattle.std.specs.Prelude.{◌≡◌, Bool, true, false, cond, ◌&&◌, eqb, ltb, length}
use Rattle.std.proofs.Math.Path.{refl, ap, subst}
use Rattle.std.proofs.Common.{sym, ◌∙◌, length-append, pow-suc, eqb-true, eq-eqb, ne_eqb, ltb-true, ltb-false}
use mathlib.Core.List.{List, [], ◌∷◌, ◌++◌, map}
use Rattle.std.proofs.lemmas.List.{length-map}
use Rattle.std.proofs.Math.Nat.{add-mod_right}
use native.Mathlib.Omega.{arith}
use Rattle.std.proofs.lemmas.Bool.{eqb-false}
use Rattle.starts.specs.Collisions.{distance}
use Rattle.starts.proofs.Collisions.{same_rest}
use Rattle.starts.specs.Enough.{Progression, step, same, covers}
use Rattle.starts.specs.Parity.{◌⊕◌, twice, grouped, exchanged, both_gone, times_false, spread, gathered}

-- as much more on both sides
same_more : (d a b k : ℕ) → same d (a + k) (b + k) ≡ same d a b
same_more d a b k = go (same d a b) refl
  where
    far : distance (a + k) (b + k) ≡ distance a b
    far = omega arith

    go : (t : Bool) → same d a b ≡ t → same d (a + k) (b + k) ≡ t
    go true e = eq-eqb _ _ ((same_rest d (a + k) (b + k)).0 (rw far ((same_rest d a b).1 (eqb-true (a % d) (b % d) e))))
    go false e = ne_eqb _ _ (λ h. eqb-false (a % d) (b % d) e ((same_rest d a b).0 (rw (sym far) ((same_rest d (a + k) (b + k)).1 h))))

-- ---- points
abbrev Point : List Progression → Type 0
Point [] = Unit {0}
Point (c ∷ cs) = ℕ × Point cs

abbrev plus : (cs : List Progression) → Point cs → Point cs → Point cs
plus [] h v = tt
plus (c ∷ cs) h v = (h.0 + v.0, plus cs h.1 v.1)

zeros : (cs : List Progression) → Point cs
zeros [] = tt
zeros (c ∷ cs) = (0, zeros cs)

plus_swap : (cs : List Progression) (h v w : Point cs) → plus cs (plus cs h v) w ≡ plus cs (plus cs h w) v
plus_swap [] h v w = refl
plus_swap (c ∷ cs) h v w =
    let e : h.0 + v.0 + w.0 ≡ h.0 + w.0 + v.0 = omega arith in
    ap (λ (n : ℕ). (n, plus cs (plus cs h.1 v.1) w.1)) e ∙ ap (λ (t : Point cs). (h.0 + w.0 + v.0, t)) (plus_swap cs h.1 v.1 w.1)

-- ---- sums of terms
module _ (cs : List Progression) where
  -- at x + 1 it is itself at x, from the point that is shifted
  record Term : Type 0 where
    value : ℕ → Point cs → Bool
    shift : Point cs
    moves : (x : ℕ) (h : Point cs) → value (suc x) h ≡ value x (plus cs h shift)

  sum : List Term → ℕ → Point cs → Bool
  sum [] x h = false
  sum (t ∷ ts) x h = t.value x h ⊕ sum ts x h

  -- s at x + 1 beside s at x from where t would have it: a term again, and of t itself nothing
  beside : Term → Term → Term
  beside t s = record {
    value = λ x h. s.value (suc x) h ⊕ s.value x (plus cs h t.shift);
    shift = s.shift;
    moves = λ x h.
        ap (λ (b : Bool). b ⊕ s.value (suc x) (plus cs h t.shift)) (s.moves (suc x) h)
        ∙ ap (λ (b : Bool). s.value (suc x) (plus cs h s.shift) ⊕ b) (s.moves x (plus cs h t.shift) ∙ ap (s.value x) (plus_swap cs h t.shift s.shift));
  }

  sum_beside : (t : Term) (ts : List Term) (x : ℕ) (h : Point cs) → sum (map (beside t) ts) x h ≡ sum ts (suc x) h ⊕ sum ts x (plus cs h t.shift)
  unfolding sum beside
  sum_beside t [] x h = refl
  sum_beside t (s ∷ ts) x h =
      let v = plus cs h t.shift in
      ap (λ (b : Bool). (s.value (suc x) h ⊕ s.value x v) ⊕ b) (sum_beside t ts x h) ∙ exchanged (s.value (suc x) h) (s.value x v) (sum ts (suc x) h) (sum ts x v)

  -- the sum at x + 1, by the sum at x and one of fewer terms
  next : (t : Term) (ts : List Term) (x : ℕ) (h : Point cs) → sum (t ∷ ts) (suc x) h ≡ sum (t ∷ ts) x (plus cs h t.shift) ⊕ sum (map (beside t) ts) x h
  unfolding sum
  next t ts x h =
      let v = plus cs h t.shift in
      ap (λ (b : Bool). b ⊕ sum ts (suc x) h) (t.moves x h)
      ∙ both_gone (t.value x v) (sum ts x v) (sum ts (suc x) h)
      ∙ ap (λ (b : Bool). (t.value x v ⊕ sum ts x v) ⊕ b) (sym (sum_beside t ts x h))

  abbrev Gone : List Term → ℕ → Type 0
  Gone ts x = (h : Point cs) → sum ts x h ≡ false

  -- n terms that are gone at n numbers side by side are gone at the next
  gone : (n : ℕ) (ts : List Term) → length ts ≡ n → (x : ℕ) → ((j : ℕ) → j < n → Gone ts (x + j)) → Gone ts (x + n)
  unfolding sum
  gone zero [] e x g h = refl
  gone zero (t ∷ ts) e x g h = absurd (omega (arith, e))
  gone (suc n) [] e x g h = absurd (omega (arith, e))
  gone (suc n) (t ∷ ts) e x g h =
      subst (λ (y : ℕ). sum (t ∷ ts) y h ≡ false) further
      (next t ts (x + n) h
      ∙ ap (λ (b : Bool). b ⊕ sum (map (beside t) ts) (x + n) h) (g n (omega arith) (plus cs h t.shift))
      ∙ gone n (map (beside t) ts) (length-map ts (beside t) ∙ count) x fewer h)
    where
      further : suc (x + n) ≡ x + suc n
      further = omega arith

      count : length ts ≡ n
      count = omega (arith, e)

      fewer : (j : ℕ) → j < n → Gone (map (beside t) ts) (x + j)
      fewer j l k =
          let later : suc (x + j) ≡ x + suc j = omega arith in
          sym (ap (λ (b : Bool). b ⊕ sum (map (beside t) ts) (x + j) k) (g j (omega (arith, l)) (plus cs k t.shift)))
          ∙ sym (next t ts (x + j) k)
          ∙ subst (λ (y : ℕ). sum (t ∷ ts) y k ≡ false) (sym later) (g (suc j) (omega (arith, l)) k)

-- ---- the product, multiplied out

-- one of the two that make up a factor, and how it moves
record Summand : Type 0 where
  value : ℕ → ℕ → Bool
  shift : ℕ
  moves : (x k : ℕ) → value (suc x) k ≡ value x (k + shift)

of_zero : Progression → Summand
of_zero c = record {
  value = λ x k. same (step c) 0 k;
  shift = 0;
  moves = λ x k. let e : k ≡ k + 0 = omega arith in ap (same (step c) 0) e;
}

of_x : Progression → Summand
of_x c = record { value = λ x k. same (step c) x (k + c.rest); shift = c.before; moves = round }
  where
    -- x + 1 with a step less one is x
    round : (x k : ℕ) → same (step c) (suc x) (k + c.rest) ≡ same (step c) x (k + c.before + c.rest)
    round x k =
        let e : k + c.rest + c.before ≡ k + c.before + c.rest = omega arith in
        let f : suc x + c.before ≡ x + step c = omega arith in
        sym (same_more (step c) (suc x) (k + c.rest) c.before)
        ∙ ap (same (step c) (suc x + c.before)) e
        ∙ ap (λ (n : ℕ). same (step c) n (k + c.before + c.rest)) f
        ∙ ap (λ (n : ℕ). eqb n ((k + c.before + c.rest) % step c)) (add-mod_right x (step c))

abbrev factor : Progression → ℕ → ℕ → Bool
factor c x k = same (step c) 0 k ⊕ same (step c) x (k + c.rest)

product : (cs : List Progression) → ℕ → Point cs → Bool
product [] x h = true
product (c ∷ cs) x h = factor c x h.0 && product cs x h.1

-- a term with a summand of one progression more
with_summand : (c : Progression) (cs : List Progression) → Summand → Term cs → Term (c ∷ cs)
with_summand c cs s t = record {
  value = λ x h. s.value x h.0 && t.value x h.1;
  shift = (s.shift, t.shift);
  moves = λ x h.
      ap (λ (b : Bool). b && t.value (suc x) h.1) (s.moves x h.0) ∙ ap (λ (b : Bool). s.value x (h.0 + s.shift) && b) (t.moves x h.1);
}

sum_with : (c : Progression) (cs : List Progression) (s : Summand) (ts : List (Term cs)) (x : ℕ) (h : Point (c ∷ cs)) → sum (c ∷ cs) (map (with_summand c cs s) ts) x h ≡ (s.value x h.0 && sum cs ts x h.1)
unfolding sum with_summand
sum_with c cs s [] x h = sym (times_false (s.value x h.0))
sum_with c cs s (t ∷ ts) x h =
    ap (λ (b : Bool). (s.value x h.0 && t.value x h.1) ⊕ b) (sum_with c cs s ts x h) ∙ sym (spread (s.value x h.0) (t.value x h.1) (sum cs ts x h.1))

terms : (cs : List Progression) → List (Term cs)
terms [] = record { value = λ x h. true; shift = tt; moves = λ x h. refl } ∷ []
terms (c ∷ cs) = map (with_summand c cs (of_zero c)) (terms cs) ++ map (with_summand c cs (of_x c)) (terms cs)

sum_of_both : (cs : List Progression) (ts us : List (Term cs)) (x : ℕ) (h : Point cs) → sum cs (ts ++ us) x h ≡ sum cs ts x h ⊕ sum cs us x h
unfolding sum
sum_of_both cs [] us x h = refl
sum_of_both cs (t ∷ ts) us x h = ap (λ (b : Bool). t.value x h ⊕ b) (sum_of_both cs ts us x h) ∙ grouped (t.value x h) (sum cs ts x h) (sum cs us x h)

multiplied_out : (cs : List Progression) (x : ℕ) (h : Point cs) → sum cs (terms cs) x h ≡ product cs x h
unfolding sum terms product of_zero of_x
multiplied_out [] x h = refl
multiplied_out (c ∷ cs) x h =
    let z = same (step c) 0 h.0 in
    let s = same (step c) x (h.0 + c.rest) in
    let rest = sum cs (terms cs) x h.1 in
    sum_of_both (c ∷ cs) (map (with_summand c cs (of_zero c)) (terms cs)) (map (with_summand c cs (of_x c)) (terms cs)) x h
    ∙ ap (λ (b : Bool). b ⊕ sum (c ∷ cs) (map (with_summand c cs (of_x c)) (terms cs)) x h) (sum_with c cs (of_zero c) (terms cs) x h)
    ∙ ap (λ (b : Bool). (z && rest) ⊕ b) (sum_with c cs (of_x c) (terms cs) x h)
    ∙ gathered z s rest
    ∙ ap (λ (b : Bool). (z ⊕ s) && b) (multiplied_out cs x h.1)

how_many : (cs : List Progression) → length (terms cs) ≡ 2 ^ length cs
unfolding terms
how_many [] = refl
how_many (c ∷ cs) =
    let l = length-append (map (with_summand c cs (of_zero c)) (terms cs)) (map (with_summand c cs (of_x c)) (terms cs)) in
    let a = length-map (terms cs) (with_summand c cs (of_zero c)) in
    let b = length-map (terms cs) (with_summand c cs (of_x c)) in
    let e : 2 ^ suc (length cs) ≡ 2 ^ length cs * 2 = pow-suc 2 (length cs) in
    omega (arith, l, a, b, e, how_many cs)

-- ---- what the product says

-- who is in a progression has its factor false from every point
is_in : (c : Progression) (x k : ℕ) → same (step c) x c.rest ≡ true → factor c x k ≡ false
is_in c x k e =
    let z : c.rest ≡ 0 + c.rest = omega arith in
    ap (λ (b : Bool). same (step c) 0 k ⊕ b)
    (ap (λ (n : ℕ). eqb n ((k + c.rest) % step c)) (eqb-true (x % step c) (c.rest % step c) e ∙ ap (λ (n : ℕ). n % step c) z) ∙ same_more (step c) 0 k c.rest)
    ∙ twice (same (step c) 0 k)

covered_gone : (cs : List Progression) (x : ℕ) → covers cs x ≡ true → (h : Point cs) → product cs x h ≡ false
unfolding covers product
covered_gone [] x e h = cc
covered_gone (c ∷ cs) x e h = go (λ g. covered_gone cs x g h.1) (same (step c) x c.rest) refl e
  where
    go : (covers cs x ≡ true → product cs x h.1 ≡ false) → (b : Bool) → same (step c) x c.rest ≡ b → cond b true (covers cs x) ≡ true → product (c ∷ cs) x h ≡ false
    go r true f g = ap (λ (b : Bool). b && product cs x h.1) (is_in c x h.0 f)
    go r false f g = ap (λ (b : Bool). factor c x h.0 && b) (r g) ∙ times_false (factor c x h.0)

-- who is in none has every factor true from the point of zeros
is_not_in : (c : Progression) (x : ℕ) → same (step c) x c.rest ≡ false → factor c x 0 ≡ true
is_not_in c x f =
    let z : 0 + c.rest ≡ c.rest = omega arith in
    ap (λ (b : Bool). b ⊕ same (step c) x (0 + c.rest)) (eq-eqb (0 % step c) (0 % step c) refl) ∙ ap (λ (b : Bool). true ⊕ b) (ap (same (step c) x) z ∙ f)

gone_covered : (cs : List Progression) (x : ℕ) → product cs x (zeros cs) ≡ false → covers cs x ≡ true
unfolding covers product zeros
gone_covered [] x e = cc
gone_covered (c ∷ cs) x e = go (gone_covered cs x) (same (step c) x c.rest) refl
  where
    go : (product cs x (zeros cs) ≡ false → covers cs x ≡ true) → (b : Bool) → same (step c) x c.rest ≡ b → cond b true (covers cs x) ≡ true
    go r true f = refl
    go r false f = r (sym (ap (λ (b : Bool). b && product cs x (zeros cs)) (is_not_in c x f)) ∙ e)

-- ---- the theorem

-- n that cover 2 ^ n numbers from x on cover the next one
one_further : (cs : List Progression) (x : ℕ) → ((j : ℕ) → j < 2 ^ length cs → covers cs (x + j) ≡ true) → covers cs (x + 2 ^ length cs) ≡ true
one_further cs x g =
    gone_covered cs (x + 2 ^ length cs)
    (sym (multiplied_out cs (x + 2 ^ length cs) (zeros cs))
    ∙ gone cs (2 ^ length cs) (terms cs) (how_many cs) x (λ j l h. multiplied_out cs (x + j) h ∙ covered_gone cs (x + j) (g j l) h) (zeros cs))

-- and so all
pub covers_all : (cs : List Progression) → ((x : ℕ) → x < 2 ^ length cs → covers cs x ≡ true) → (x : ℕ) → covers cs x ≡ true
covers_all cs g x = below (suc x) x (omega arith)
  where
    at : (n x : ℕ) → x < suc n → ((y : ℕ) → y < n → covers cs y ≡ true) → covers cs x ≡ true
    at n x l r = go (ltb x (2 ^ length cs)) refl
      where
        go : (b : Bool) → ltb x (2 ^ length cs) ≡ b → covers cs x ≡ true
        go true e = g x (ltb-true x (2 ^ length cs) e)
        go false e =
            let far : 2 ^ length cs ≤ x = ltb-false x (2 ^ length cs) e in
            let back : x - 2 ^ length cs + 2 ^ length cs ≡ x = omega (arith, far) in
            subst (λ (y : ℕ). covers cs y ≡ true) back (one_further cs (x - 2 ^ length cs) (λ j h. r (x - 2 ^ length cs + j) (omega (arith, far, h, l))))

    below : (n x : ℕ) → x < n → covers cs x ≡ true
    below zero x l = absurd (omega (arith, l))
    below (suc n) x l = at n x l (below n)
