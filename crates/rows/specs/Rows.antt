-- Records of w bytes, one behind the other, as a list of rows; and what the changes of bytes are on rows.
use Rattle.std.specs.Prelude.{◌≡◌, refl, map, List, [], ◌∷◌, ◌++◌, ℕ, zero, suc, ◌+◌, ◌-◌, ◌*◌, ◌<◌, ◌≤◌, length, get_or, take, drop, set}
use Rattle.std.proofs.Common.{sym, ap, ◌∙◌, append_assoc, zero-mul, suc-mul, add-mul, suc-add, zero-add, add_comm, mul-le-mul_right, one-mul, arith, drop_of_length-le, length-append, length-take, length-drop, take-append-drop, drop-cons, get_or-take, get_or-drop, length-take-le, take_at, drop_at, drop-drop, get_or-set_same, get_or-set_other}
use Rattle.std.proofs.lemmas.List.{take-append-le, drop-append-le, set_at, get_or_at}
use Rattle.rows.specs.Splice.{cut, splice}
use Rattle.rows.specs.Laws.{splice_splice, length_cut, cut_cut, length_splice, splice_in}

-- the first n rows of w bytes each
abbrev pub rows_of : ℕ → ℕ → List ℕ → List (List ℕ)
rows_of w zero d = []
rows_of w (suc n) d = take w d ∷ rows_of w n (drop w d)

-- row k of w bytes
abbrev pub row_at : ℕ → ℕ → List ℕ → List ℕ
row_at w k d = take w (drop (k * w) d)

pub length_rows : (w n : ℕ) (d : List ℕ) → length (rows_of w n d) ≡ n
length_rows w zero d = refl
length_rows w (suc n) d = ap suc (length_rows w n (drop w d))

-- only the first n * w bytes count
pub rows_front : (w n : ℕ) (x y : List ℕ) → n * w ≤ length x → rows_of w n (x ++ y) ≡ rows_of w n x
rows_front w zero x y h = refl
rows_front w (suc n) x y h =
    let e : suc n * w ≡ n * w + w = suc-mul n w in
    let a : w ≤ length x = omega arith in
    let b : n * w ≤ length (drop w x) = simp length-drop (omega arith) in
    rw (take-append-le w x y a, drop-append-le w x y a, rows_front w n (drop w x) y b)

pub rows_take : (w n m : ℕ) (d : List ℕ) → n * w ≤ m → m ≤ length d → rows_of w n (take m d) ≡ rows_of w n d
rows_take w n m d h k =
    sym (rows_front w n (take m d) (drop m d) (simp length-take (omega arith))) ∙ ap (rows_of w n) (take-append-drop m d)

pub rows_add : (w a b : ℕ) (d : List ℕ) → rows_of w (a + b) d ≡ rows_of w a d ++ rows_of w b (drop (a * w) d)
rows_add w zero b d = rw (zero-add, zero-mul)
rows_add w (suc a) b d =
    let e : drop (suc a * w) d ≡ drop (a * w) (drop w d) = rw (drop-drop, suc-mul, add_comm (a * w) w) in
    rw (suc-add, e) (ap (λ (r : List (List ℕ)). take w d ∷ r) (rows_add w a b (drop w d)))

-- rows behind rows
pub rows_append : (w a b : ℕ) (x y : List ℕ) → length x ≡ a * w → rows_of w (a + b) (x ++ y) ≡ rows_of w a x ++ rows_of w b y
rows_append w a b x y h =
    rows_add w a b (x ++ y) ∙ rw (rows_front w a x y (omega arith), drop_at x y (a * w) h)

pub take_rows : (w n k : ℕ) (d : List ℕ) → k ≤ n → take k (rows_of w n d) ≡ rows_of w k d
take_rows w n k d h =
    let e : n ≡ k + (n - k) = omega arith in
    ap (λ (m : ℕ). take k (rows_of w m d)) e ∙ rw rows_add (take_at (rows_of w k d) (rows_of w (n - k) (drop (k * w) d)) k (length_rows w k d))

pub drop_rows : (w n k : ℕ) (d : List ℕ) → k ≤ n → drop k (rows_of w n d) ≡ rows_of w (n - k) (drop (k * w) d)
drop_rows w n k d h =
    let e : n ≡ k + (n - k) = omega arith in
    ap (λ (m : ℕ). drop k (rows_of w m d)) e ∙ rw rows_add (drop_at (rows_of w k d) (rows_of w (n - k) (drop (k * w) d)) k (length_rows w k d))

-- the rows are those before row k, row k, and those behind it
pub rows_at : (w n k : ℕ) (d : List ℕ) → k < n → rows_of w n d ≡ rows_of w k d ++ row_at w k d ∷ rows_of w (n - k - 1) (drop (k * w + w) d)
rows_at w n k d h =
    let e : n ≡ k + suc (n - k - 1) = omega arith in
    ap (λ (m : ℕ). rows_of w m d) e ∙ rows_add w k (suc (n - k - 1)) d
    ∙ ap (λ (r : List ℕ). rows_of w k d ++ row_at w k d ∷ rows_of w (n - k - 1) r) (drop-drop w (k * w) d)

pub get_d_rows : (w n k : ℕ) (d : List ℕ) → k < n → get_or (rows_of w n d) k [] ≡ row_at w k d
get_d_rows w n k d h =
    rw (rows_at w n k d h) (get_or_at (rows_of w k d) (row_at w k d) (rows_of w (n - k - 1) (drop (k * w + w) d)) [] k (length_rows w k d))

-- ---- the three changes

abbrev pub insert_at : {A : Type 0} → ℕ → A → List A → List A
insert_at k a l = take k l ++ a ∷ drop k l

abbrev pub remove_at : {A : Type 0} → ℕ → List A → List A
remove_at k l = take k l ++ drop (k + 1) l

module _ (w n k : ℕ) (d : List ℕ) (room : n * w ≤ length d) (h : k < n) where
  -- row k is replaced
  pub rows_set : (s : List ℕ) → length s ≡ w → rows_of w n (splice d (k * w) s) ≡ set (rows_of w n d) k s
  rows_set s e =
      let m : ℕ = n - k - 1 in
      let n= : n ≡ k + suc m = omega arith in
      let p : n * w ≡ k * w + suc m * w = ap (λ (x : ℕ). x * w) n= ∙ add-mul k (suc m) w in
      let q : suc m * w ≡ m * w + w = suc-mul m w in
      let R : List ℕ = drop (k * w + w) d in
      let l : splice d (k * w) s ≡ take (k * w) d ++ (s ++ R) = rw (e, append_assoc) in
      let r : set (rows_of w n d) k s ≡ rows_of w k d ++ s ∷ rows_of w m R =
      rw (rows_at w n k d h) (set_at (rows_of w k d) (row_at w k d) (rows_of w m R) s k (length_rows w k d)) in
      ap (rows_of w n) l
      ∙ ap (λ (x : ℕ). rows_of w x (take (k * w) d ++ (s ++ R))) n=
      ∙ rows_append w k (suc m) (take (k * w) d) (s ++ R) (length-take-le (k * w) d (omega arith))
      ∙ (rw (rows_take w k (k * w) d (omega arith) (omega arith), take_at s R w e, drop_at s R w e))
      ∙ sym r

  -- row k is taken out
  pub rows_remove : rows_of w (n - 1) (splice d (k * w) (cut d (k * w + w) (n * w))) ≡ remove_at k (rows_of w n d)
  rows_remove =
      let m : ℕ = n - k - 1 in
      let n= : n ≡ k + suc m = omega arith in
      let p : n * w ≡ k * w + suc m * w = ap (λ (x : ℕ). x * w) n= ∙ add-mul k (suc m) w in
      let q : suc m * w ≡ m * w + w = suc-mul m w in
      let R : List ℕ = drop (k * w + w) d in
      let C : List ℕ = cut d (k * w + w) (n * w) in
      let D : List ℕ = drop (k * w + length C) d in
      let i : n - 1 ≡ k + m = omega arith in
      let j : n - (k + 1) ≡ m = omega arith in
      let g : n * w - (k * w + w) ≡ m * w = omega arith in
      let o : (k + 1) * w ≡ k * w + w = add-mul k 1 w ∙ ap (λ (x : ℕ). k * w + x) (one-mul w) in
      let r : remove_at k (rows_of w n d) ≡ rows_of w k d ++ rows_of w m R =
      rw (take_rows w n k d (omega arith), drop_rows w n (k + 1) d (omega arith), j, o) in
      ap (rows_of w (n - 1)) (append_assoc (take (k * w) d) C D)
      ∙ ap (λ (x : ℕ). rows_of w x (take (k * w) d ++ (C ++ D))) i
      ∙ rows_append w k m (take (k * w) d) (C ++ D) (length-take-le (k * w) d (omega arith))
      ∙ (rw (
        rows_take w k (k * w) d (omega arith) (omega arith),
        rows_front w m C D (simp (length-take, length-drop) (omega arith)),
        rows_take w m (n * w - (k * w + w)) R (omega arith) (simp length-drop (omega arith)),
      ))
      ∙ sym r

module _ (w n k : ℕ) (d : List ℕ) (room : n * w + w ≤ length d) (h : k ≤ n) where
  -- a row is put in before row k
  pub rows_insert : (s : List ℕ) → length s ≡ w
      → rows_of w (n + 1) (splice d (k * w) (s ++ cut d (k * w) (n * w))) ≡ insert_at k s (rows_of w n d)
  rows_insert s e =
      let m : ℕ = n - k in
      let n= : n ≡ k + m = omega arith in
      let p : n * w ≡ k * w + m * w = ap (λ (x : ℕ). x * w) n= ∙ add-mul k m w in
      let R : List ℕ = drop (k * w) d in
      let C : List ℕ = cut d (k * w) (n * w) in
      let D : List ℕ = drop (k * w + length (s ++ C)) d in
      let i : n + 1 ≡ k + suc m = omega arith in
      let l : splice d (k * w) (s ++ C) ≡ take (k * w) d ++ (s ++ (C ++ D)) = simp append_assoc in
      let r : insert_at k s (rows_of w n d) ≡ rows_of w k d ++ s ∷ rows_of w m R = rw (take_rows w n k d h, drop_rows w n k d h) in
      ap (rows_of w (n + 1)) l
      ∙ ap (λ (x : ℕ). rows_of w x (take (k * w) d ++ (s ++ (C ++ D)))) i
      ∙ rows_append w k (suc m) (take (k * w) d) (s ++ (C ++ D)) (length-take-le (k * w) d (omega arith))
      ∙ (rw (
        rows_take w k (k * w) d (omega arith) (omega arith),
        take_at s (C ++ D) w e,
        drop_at s (C ++ D) w e,
        rows_front w m C D (simp (length-take, length-drop) (omega arith)),
        rows_take w m (n * w - k * w) R (omega arith) (simp length-drop (omega arith)),
      ))
      ∙ sym r

-- what the moves and the copy leave, on rows
pub inserted : (w n k : ℕ) (d d₁ d₂ s : List ℕ) → n * w + w ≤ length d → k ≤ n → length s ≡ w
    → d₁ ≡ splice d (k * w + w) (cut d (k * w) (n * w)) → d₂ ≡ splice d₁ (k * w) s → rows_of w (n + 1) d₂ ≡ insert_at k s (rows_of w n d)
inserted w n k d d₁ d₂ s room h e p q =
    let le : k * w ≤ n * w = mul-le-mul_right w h in
    let lc : length (cut d (k * w) (n * w)) ≡ n * w - k * w = length_cut d (k * w) (n * w) (omega arith) in
    rw (q, p, splice_splice d (k * w) w s (cut d (k * w) (n * w)) e (omega arith)) (rows_insert w n k d room h s e)

-- the front of a list changed
module _ {A : Type 0} (k : ℕ) (x y : List A) where
  remove_at_front : k < length x → remove_at k (x ++ y) ≡ remove_at k x ++ y
  remove_at_front h = rw (take-append-le k x y (omega arith), drop-append-le (k + 1) x y (omega arith)) (sym (append_assoc (take k x) (drop (k + 1) x) y))

  insert_at_between : (a : A) → length x ≡ k → insert_at k a (x ++ y) ≡ x ++ a ∷ y
  insert_at_between a e = rw (take_at x y k e, drop_at x y k e)

-- row k goes out, and a row comes in as row j, at or behind it
pub replaced : (w n k j : ℕ) (d d₁ d₂ s : List ℕ) → n * w ≤ length d → k ≤ j → j < n → length s ≡ w
    → d₁ ≡ splice d (k * w) (cut d (k * w + w) (j * w + w)) → d₂ ≡ splice d₁ (j * w) s → rows_of w n d₂ ≡ insert_at j s (remove_at k (rows_of w n d))
replaced w n k j d d₁ d₂ s room h f e p q =
    let r : ℕ = n - j - 1 in
    let le : k * w ≤ j * w = mul-le-mul_right w h in
    let in_n : j * w + w ≤ n * w = omega (arith, mul-le-mul_right w f, suc-mul j w) in
    let C : List ℕ = cut d (k * w + w) (j * w + w) in
    let lc : length C ≡ j * w + w - (k * w + w) = length_cut d (k * w + w) (j * w + w) (omega arith) in
    let n₁ : length d₁ ≡ length d = ap length p ∙ length_splice d (k * w) C (omega arith) in
    let o : (j + 1) * w ≡ j * w + w = add-mul j 1 w ∙ ap (λ (x : ℕ). j * w + x) (one-mul w) in
    let j= : j + 1 - 1 ≡ j = omega arith in
    let X : List (List ℕ) = rows_of w (j + 1) d in
    let Y : List (List ℕ) = rows_of w r (drop (j * w + w) d) in
    let n= : n ≡ j + 1 + r = omega arith in
    let all : rows_of w n d ≡ X ++ Y = ap (λ (x : ℕ). rows_of w x d) n= ∙ rows_add w (j + 1) r d ∙ ap (λ (x : ℕ). X ++ rows_of w r (drop x d)) o in
    let lx : length X ≡ j + 1 = length_rows w (j + 1) d in
    let front : rows_of w j d₁ ≡ remove_at k X =
    ap (rows_of w j) p
    ∙ ap (λ (x : ℕ). rows_of w j (splice d (k * w) (cut d (k * w + w) x))) (sym o)
    ∙ ap (λ (x : ℕ). rows_of w x (splice d (k * w) (cut d (k * w + w) ((j + 1) * w)))) (sym j=)
    ∙ rows_remove w (j + 1) k d (omega arith) (omega arith) in
    let lf : length (remove_at k X) ≡ j = ap length (sym front) ∙ length_rows w j d₁ in
    let lt : length (take (k * w) d ++ C) ≡ j * w = simp (length-append, length-take, length-drop) (omega arith) in
    let c= : k * w + length C + w ≡ j * w + w = omega arith in
    let behind : drop (j * w + w) d₁ ≡ drop (j * w + w) d =
    sym (drop-drop w (j * w) d₁)
    ∙ ap (λ (x : List ℕ). drop w (drop (j * w) x)) p
    ∙ ap (drop w) (drop_at (take (k * w) d ++ C) (drop (k * w + length C) d) (j * w) lt)
    ∙ drop-drop w (k * w + length C) d
    ∙ ap (λ (x : ℕ). drop x d) c= in
    ap (rows_of w n) q
    ∙ rows_set w n j d₁ (omega arith) f s e
    ∙ ap (λ (l : List (List ℕ)). set l j s) (rows_at w n j d₁ f)
    ∙ set_at (rows_of w j d₁) (row_at w j d₁) (rows_of w r (drop (j * w + w) d₁)) s j (length_rows w j d₁)
    ∙ ap (λ (l : List (List ℕ)). l ++ s ∷ rows_of w r (drop (j * w + w) d₁)) front
    ∙ ap (λ (x : List ℕ). remove_at k X ++ s ∷ rows_of w r x) behind
    ∙ sym (ap (λ (l : List (List ℕ)). insert_at j s (remove_at k l)) all
    ∙ ap (insert_at j s) (remove_at_front k X Y (omega arith))
    ∙ insert_at_between j (remove_at k X) Y s lf)

-- ---- inside a row

pub get_d_row : (w k j : ℕ) (d : List ℕ) → j < w → get_or (row_at w k d) j 0 ≡ get_or d (k * w + j) 0
get_d_row w k j d h = get_or-take w (drop (k * w) d) j 0 h ∙ get_or-drop (k * w) d j 0

pub length_row : (w k : ℕ) (d : List ℕ) → k * w + w ≤ length d → length (row_at w k d) ≡ w
length_row w k d h = simp (length-take, length-drop) (omega arith)

-- a row of a part is a part
pub row_of_cut : (w k : ℕ) (d : List ℕ) (a e : ℕ) → a + k * w + w ≤ e → row_at w k (cut d a e) ≡ cut d (a + k * w) (a + k * w + w)
row_of_cut w k d a e h =
    let x : k * w + w - k * w ≡ w = omega arith in
    let y : a + (k * w + w) ≡ a + k * w + w = omega arith in
    ap (λ (m : ℕ). take m (drop (k * w) (cut d a e))) (sym x) ∙ cut_cut d a e (k * w) (k * w + w) (omega arith) ∙ ap (cut d (a + k * w)) y

-- a splice within row k is that row's splice
pub splice_row : (w k j : ℕ) (d s : List ℕ) → k * w + w ≤ length d → j + length s ≤ w
    → splice d (k * w + j) s ≡ splice d (k * w) (splice (row_at w k d) j s)
splice_row w k j d s = splice_in d (k * w) w j s

-- a place below n lies within n rows
pub row_fits : (w k n : ℕ) → k < n → k * w + w ≤ n * w
row_fits w k n h = omega (arith, mul-le-mul_right w h, suc-mul k w)

-- one row of a splice at row k
module _ (w n k : ℕ) (d e : List ℕ) (room : n * w ≤ length d) (h : k < n) (l : length e ≡ w) where
  pub row_same : row_at w k (splice d (k * w) e) ≡ e
  row_same =
      sym (get_d_rows w n k (splice d (k * w) e) h)
      ∙ ap (λ (z : List (List ℕ)). get_or z k []) (rows_set w n k d room h e l)
      ∙ get_or-set_same (rows_of w n d) k e [] (rw length_rows h)

  pub row_other : (j : ℕ) → j < n → (j ≡ k → ⊥) → row_at w j (splice d (k * w) e) ≡ row_at w j d
  row_other j jn ne =
      sym (get_d_rows w n j (splice d (k * w) e) jn)
      ∙ ap (λ (z : List (List ℕ)). get_or z j []) (rows_set w n k d room h e l)
      ∙ get_or-set_other (rows_of w n d) k j e [] ne
      ∙ get_d_rows w n j d jn

-- one row of a splice within row k
module _ (w n k i : ℕ) (d s : List ℕ) (room : n * w ≤ length d) (h : k < n) (l : i + length s ≤ w) where
  new_length : length (splice (row_at w k d) i s) ≡ w
  new_length =
      let f : k * w + w ≤ n * w = row_fits w k n h in
      let r : length (row_at w k d) ≡ w = length_row w k d (omega arith) in
      length_splice (row_at w k d) i s (omega arith) ∙ r

  pub row_inside : row_at w k (splice d (k * w + i) s) ≡ splice (row_at w k d) i s
  row_inside =
      let f : k * w + w ≤ n * w = row_fits w k n h in
      ap (row_at w k) (splice_row w k i d s (omega arith) l) ∙ row_same w n k d (splice (row_at w k d) i s) room h new_length

  pub row_outside : (j : ℕ) → j < n → (j ≡ k → ⊥) → row_at w j (splice d (k * w + i) s) ≡ row_at w j d
  row_outside j jn ne =
      let f : k * w + w ≤ n * w = row_fits w k n h in
      ap (row_at w j) (splice_row w k i d s (omega arith) l) ∙ row_other w n k d (splice (row_at w k d) i s) room h new_length j jn ne

-- ---- a list changed from the front, element by element
abbrev pub map_upto : {A : Type 0} → (A → A) → ℕ → List A → List A
map_upto f zero l = l
map_upto f (suc k) [] = []
map_upto f (suc k) (x ∷ xs) = f x ∷ map_upto f k xs

module _ {A : Type 0} (f : A → A) where
  pub map_upto_at : (k : ℕ) (l : List A) (z : A) → get_or (map_upto f k l) k z ≡ get_or l k z
  map_upto_at zero l z = refl
  map_upto_at (suc k) [] z = refl
  map_upto_at (suc k) (x ∷ xs) z = map_upto_at k xs z

  pub map_upto_suc : (k : ℕ) (l : List A) (z : A) → k < length l → set (map_upto f k l) k (f (get_or l k z)) ≡ map_upto f (suc k) l
  map_upto_suc zero [] z h = refl
  map_upto_suc zero (x ∷ xs) z h = refl
  map_upto_suc (suc k) [] z h = refl
  map_upto_suc (suc k) (x ∷ xs) z h = ap (λ (r : List A). f x ∷ r) (map_upto_suc k xs z (omega arith))

  pub map_upto_all : (k : ℕ) (l : List A) → length l ≤ k → map_upto f k l ≡ map f l
  map_upto_all zero [] h = refl
  map_upto_all zero (x ∷ xs) h = absurd (omega arith)
  map_upto_all (suc k) [] h = refl
  map_upto_all (suc k) (x ∷ xs) h = ap (λ (r : List A). f x ∷ r) (map_upto_all k xs (omega arith))

pub map_set : {A B : Type 0} (f : A → B) (l : List A) (k : ℕ) (a : A) → map f (set l k a) ≡ set (map f l) k (f a)
map_set {B = B} f [] k a = refl
map_set {B = B} f (x ∷ xs) zero a = refl
map_set {B = B} f (x ∷ xs) (suc k) a = ap (λ (r : List B). f x ∷ r) (map_set f xs k a)

-- the elements of a list whose length is a numeral, written out
abbrev pub elems : ℕ → ℕ → List ℕ → List ℕ
elems zero i r = []
elems (suc m) i r = get_or r i 0 ∷ elems m (suc i) r

pub drop_elems : (m i : ℕ) (r : List ℕ) → length r ≡ i + m → drop i r ≡ elems m i r
drop_elems zero i r h = drop_of_length-le r {i = i} (omega arith)
drop_elems (suc m) i r h = drop-cons r i 0 (omega arith) ∙ ap (λ (z : List ℕ). get_or r i 0 ∷ z) (drop_elems m (suc i) r (omega arith))

pub map_insert_at : {A B : Type 0} (f : A → B) (k : ℕ) (a : A) (l : List A) → map f (insert_at k a l) ≡ insert_at k (f a) (map f l)
map_insert_at {B = B} f zero a l = refl
map_insert_at {B = B} f (suc k) a [] = refl
map_insert_at {B = B} f (suc k) a (x ∷ xs) = ap (λ (r : List B). f x ∷ r) (map_insert_at f k a xs)
