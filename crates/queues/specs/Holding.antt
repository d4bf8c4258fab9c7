-- What an entry put into or taken out of a ring is on the ledger's queue. Rings lie apart, so the other queues hold what they held.
use Rattle.std.specs.Prelude.{◌≡◌, refl, ◌⊎◌, Bool, true, false, eqb, ltb}
use Rattle.std.proofs.Math.Path.{sym, ap, subst}
use Rattle.std.proofs.Common.{◌∙◌, inl, inr, mod-lt, drop-drop}
use mathlib.Core.List.{List, [], ◌∷◌, ◌++◌}
use Prim.Native.Nat.{ℕ, suc, ◌+◌, ◌-◌, ◌*◌, ◌%◌, ◌<◌, ◌≤◌}
use native.Mathlib.Omega.{arith}
use Rattle.std.proofs.Math.ListN.{length, get_or, drop, set, length-set, length-append, length-drop}
use Rattle.std.proofs.lemmas.List.{length-map}
use Rattle.std.proofs.Math.Seq.{get_or-set_same, get_or-set_other, drop-append-le}
use Rattle.std.proofs.Math.Numerals.{add-one}
use borrow.Author.Tests.{eqb-true, eqb-false, ltb-true, ltb-false, lt-ltb, le-leb}
use Rattle.rows.specs.Splice.{cut, splice}
use Rattle.rows.specs.Laws.{cut_inside, cut_apart, length_cut}
use Rattle.rows.specs.Rows.{row_fits}
use Rattle.rings.specs.Ring.{wrap_of, holds}
use Rattle.rings.specs.Laws.{wrap_in, wrap_next, holds_put}
use Rattle.ledger.specs.Config.{Config}
use Rattle.ledger.proofs.Theorems.Items.{at_put_same, at_put_other}
use Rattle.rows.specs.Tab.{tab_length}
use Rattle.ledger.specs.Ledger.{Ledger, Queue, empty_queue, queue, held, set_queue}
use Rattle.ledger.specs.Services.{shape, put_entry}
use Rattle.tables.specs.declared.shape.Shape.{Shape}
use Rattle.tables.specs.Decode.{head_of, count_of}
use Rattle.tables.specs.Encoded.{case, head_in_lem, count_in_lem}
use Rattle.tables.specs.Layout.{Regions}
use Rattle.tables.specs.Shows.{begins, held_at, queues_in, Of, TidyRings, Shown}
use Rattle.tables.specs.Items.{with_queues, queue_is, queue_shown}
use Rattle.queues.specs.Rings.{apart_rings, inside}

module _ {tidy : Bool} (c : Config) (s : Shape) (o : Of c s) (L : Ledger) (p : Regions) (z w : List ℕ) (h : Shown tidy c L p z w)
    (rl : length p.rings ≡ 2 * c.Q) (bl : length p.bodies ≡ s.end - s.bodyat) (i : ℕ) (hi : i < c.Q) where
  abbrev wide : ℕ
  wide = (shape c (suc i)).width

  abbrev deep : ℕ
  deep = (shape c (suc i)).depth

  abbrev first : ℕ
  first = head_of deep (get_or p.rings (i * 2) 0)

  abbrev many : ℕ
  many = count_of deep (get_or p.rings (i * 2 + 1) 0)

  abbrev body : List ℕ
  body = cut p.bodies (begins c i) (begins c i + deep * wide)

  some : 1 ≤ deep
  some = (o.depths (suc i) (omega arith) (omega arith)).0

  within : begins c i + deep * wide ≤ length p.bodies
  within = omega (arith, inside c s o i hi, o.laid.after)

  -- the queue's ring in other bytes
  held_as : (r b : List ℕ) (hd ct : ℕ) → head_of deep (get_or r (i * 2) 0) ≡ hd → count_of deep (get_or r (i * 2 + 1) 0) ≡ ct
      → held_at c (with_queues r b p) i ≡ holds wide deep hd ct (cut b (begins c i) (begins c i + deep * wide))
  unfolding held_at with_queues
  held_as r b hd ct eh ec = rw (eh, ec)

  abbrev last : suc i - 1 ≡ i
  last = omega arith

  was : held (queue L (suc i)) ≡ holds wide deep first many body
  unfolding held_at
  was = queue_is c L p z w h (suc i) (omega arith, omega arith) ∙ ap (held_at c p) last

  -- another queue's, in bytes that lie apart
  other_as : (r b : List ℕ) (j : ℕ) → j < c.Q → (j ≡ i → ⊥) → get_or r (j * 2) 0 ≡ get_or p.rings (j * 2) 0 → get_or r (j * 2 + 1) 0 ≡ get_or p.rings (j * 2 + 1) 0
      → cut b (begins c j) (begins c j + (shape c (suc j)).depth * (shape c (suc j)).width) ≡ cut p.bodies (begins c j) (begins c j + (shape c (suc j)).depth * (shape c (suc j)).width)
      → held_at c p j ≡ held_at c (with_queues r b p) j
  unfolding held_at with_queues
  other_as r b j l ne eh ec eb = rw (eh, ec, eb)

  -- a splice within the queue's ring leaves the others'
  aside : (a : ℕ) (e : List ℕ) → a + length e ≤ deep * wide → (j : ℕ) → j < c.Q → (j ≡ i → ⊥)
      → cut (splice p.bodies (begins c i + a) e) (begins c j) (begins c j + (shape c (suc j)).depth * (shape c (suc j)).width) ≡ cut p.bodies (begins c j) (begins c j + (shape c (suc j)).depth * (shape c (suc j)).width)
  aside a e f j l ne =
      cut_apart p.bodies (begins c j) (begins c j + (shape c (suc j)).depth * (shape c (suc j)).width) (begins c i + a) e (omega arith) (omega (arith, within))
      (go (ltb j i) refl)
    where
      go : (b : Bool) → ltb j i ≡ b → (begins c j + (shape c (suc j)).depth * (shape c (suc j)).width ≤ begins c i + a) ⊎ (begins c i + a + length e ≤ begins c j)
      go true g = inl (omega (arith, apart_rings c s o j i (ltb-true j i g) hi))
      go false g = let k : i ≤ j = ltb-false j i g in inr (omega (arith, apart_rings c s o i j (omega (arith, ne)) l))

  -- the queue in other bytes: it holds what they hold, and the others what they held
  queue_as : (r b : List ℕ) (v : Queue) → held v ≡ held_at c (with_queues r b p) i → v.taken ≤ length v.put
      → ((j : ℕ) → j < c.Q → (j ≡ i → ⊥) → held_at c p j ≡ held_at c (with_queues r b p) j) → (tidy ≡ true → TidyRings c (set_queue (suc i) v L) (with_queues r b p)) → Shown tidy c (set_queue (suc i) v L) (with_queues r b p) z w
  queue_as r b v new few other neat =
      queue_shown c L p z w h r b (suc i) v (omega arith) (new ∙ ap (held_at c (with_queues r b p)) (sym last)) few (λ j l ne. other j l (λ e. ne (e ∙ sym last))) neat

  -- the ledger's queues after the change
  queue_new : (v : Queue) → queue (set_queue (suc i) v L) (suc i) ≡ v
  unfolding queue set_queue queues_in
  queue_new v =
      at_put_same L.queues (suc i) v empty_queue
      (record { from = omega arith; upto = omega (arith, sym (length-map L.queues held) ∙ ap length h.queues ∙ tab_length c.Q (held_at c p)) })

  queue_old : (v : Queue) (j : ℕ) → (j ≡ i → ⊥) → queue (set_queue (suc i) v L) (suc j) ≡ queue L (suc j)
  unfolding queue set_queue
  queue_old v j ne = at_put_other L.queues (suc i) (suc j) v empty_queue (λ e. ne (omega arith))

  -- the ring's two bytes are new, and those of a tidy ring
  rings_as : (r b : List ℕ) (v : Queue) → (tidy ≡ true → get_or r (i * 2) 0 ≡ v.taken % deep) → get_or r (i * 2 + 1) 0 ≤ deep
      → ((j : ℕ) → j < c.Q → (j ≡ i → ⊥) → (get_or r (j * 2) 0 ≡ get_or p.rings (j * 2) 0) × (get_or r (j * 2 + 1) 0 ≡ get_or p.rings (j * 2 + 1) 0))
      → tidy ≡ true → TidyRings c (set_queue (suc i) v L) (with_queues r b p)
  unfolding with_queues
  rings_as r b v head count same q =
      let o = (h.tidily q).rings in (
        (λ j l. case (eqb j i)
            (λ g. subst (λ (k : ℕ). get_or r (k * 2) 0 ≡ (queue (set_queue (suc i) v L) (suc k)).taken % (shape c (suc k)).depth) (sym (eqb-true j i g)) (head q ∙ ap (λ (x : Queue). x.taken % deep) (sym (queue_new v))))
            (λ g. let ne = eqb-false j i g in (same j l ne).0 ∙ o.0 j l ∙ ap (λ (x : Queue). x.taken % (shape c (suc j)).depth) (sym (queue_old v j ne)))),
        (λ j l. case (eqb j i)
            (λ g. subst (λ (k : ℕ). get_or r (k * 2 + 1) 0 ≤ (shape c (suc k)).depth) (sym (eqb-true j i g)) count)
            (λ g. omega (arith, (same j l (eqb-false j i g)).1, o.1 j l))),
      )

  -- where a tidy ring begins
  pub tidy_first : tidy ≡ true → first ≡ (queue L (suc i)).taken % deep
  tidy_first q =
      let e : get_or p.rings (i * 2) 0 ≡ (queue L (suc i)).taken % deep = (h.tidily q).rings.0 i hi in
      let l : get_or p.rings (i * 2) 0 < deep = omega (arith, mod-lt (queue L (suc i)).taken some) in
      rw (lt-ltb (get_or p.rings (i * 2) 0) deep l) e

  hd : first < deep
  hd = head_in_lem deep (get_or p.rings (i * 2) 0) some

  long : deep * wide ≤ length body
  long = omega (arith, length_cut p.bodies (begins c i) (begins c i + deep * wide) within)

  -- ---- put

  pub put_shown : (e : List ℕ) → length e ≡ wide → many < deep
      → Shown tidy c (put_entry (suc i) e L) (with_queues (set p.rings (i * 2 + 1) (many + 1)) (splice p.bodies (begins c i + wrap_of deep (first + many) * wide) e) p) z w
  unfolding put_entry held
  put_shown e el room =
      let r : List ℕ = set p.rings (i * 2 + 1) (many + 1) in
      let a : ℕ = wrap_of deep (first + many) * wide in
      let b : List ℕ = splice p.bodies (begins c i + a) e in
      let k : Queue = queue L (suc i) in
      let f : a + wide ≤ deep * wide = row_fits wide (wrap_of deep (first + many)) deep (wrap_in deep (first + many) (omega (arith, hd))) in
      let x : cut b (begins c i) (begins c i + deep * wide) ≡ splice body a e = cut_inside p.bodies (begins c i) (begins c i + deep * wide) a e (omega arith) within (omega arith) in
      let same : (j : ℕ) → (j ≡ i → ⊥) → (get_or r (j * 2) 0 ≡ get_or p.rings (j * 2) 0) × (get_or r (j * 2 + 1) 0 ≡ get_or p.rings (j * 2 + 1) 0) =
      λ j ne. (get_or-set_other p.rings (i * 2 + 1) (j * 2) (many + 1) 0 (λ g. omega arith), get_or-set_other p.rings (i * 2 + 1) (j * 2 + 1) (many + 1) 0 (λ g. ne (omega arith))) in
      let e0 : head_of deep (get_or r (i * 2) 0) ≡ first = ap (head_of deep) (get_or-set_other p.rings (i * 2 + 1) (i * 2) (many + 1) 0 (λ g. omega arith)) in
      let e1 : count_of deep (get_or r (i * 2 + 1) 0) ≡ many + 1 = ap (count_of deep) (get_or-set_same p.rings (i * 2 + 1) (many + 1) 0 (omega arith)) ∙ rw (le-leb (many + 1) deep (omega arith)) in
      let new : drop k.taken (k.put ++ (e ∷ [])) ≡ held_at c (with_queues r b p) i =
      drop-append-le k.taken k.put (e ∷ []) (h.taken (suc i))
      ∙ ap (λ (l : List (List ℕ)). l ++ (e ∷ [])) was
      ∙ sym (holds_put wide deep first many body e hd room long el)
      ∙ ap (holds wide deep first (many + 1)) (sym x)
      ∙ sym (held_as r b first (many + 1) e0 e1) in
      queue_as r b (record { put = k.put ++ (e ∷ []); taken = k.taken; handed_out = k.handed_out }) new (simp length-append (omega (arith, h.taken (suc i))))
      (λ j l ne. other_as r b j l ne (same j ne).0 (same j ne).1 (aside a e (omega arith) j l ne))
      (rings_as r b (record { put = k.put ++ (e ∷ []); taken = k.taken; handed_out = k.handed_out })
      (λ q. get_or-set_other p.rings (i * 2 + 1) (i * 2) (many + 1) 0 (λ g. omega arith) ∙ (h.tidily q).rings.0 i hi)
      (omega (arith, get_or-set_same p.rings (i * 2 + 1) (many + 1) 0 (omega arith))) (λ j l ne. same j ne))

  -- ---- taken: the ring steps on, and the entries stay where they lie

  pub take_shown : (next : ℕ) (e : List ℕ) (es out : List (List ℕ)) → held (queue L (suc i)) ≡ e ∷ es → next < deep
      → holds wide deep next (many - 1) body ≡ es → next ≡ wrap_of deep (first + 1)
      → Shown tidy c (set_queue (suc i) (record { put = (queue L (suc i)).put; taken = suc (queue L (suc i)).taken; handed_out = out }) L)
      (with_queues (set (set p.rings (i * 2) next) (i * 2 + 1) (many - 1)) p.bodies p) z w
  unfolding held
  take_shown next e es out eh ln rest on =
      let r₀ : List ℕ = set p.rings (i * 2) next in
      let r : List ℕ = set r₀ (i * 2 + 1) (many - 1) in
      let b : List ℕ = p.bodies in
      let k : Queue = queue L (suc i) in
      let n : length r₀ ≡ length p.rings = length-set p.rings (i * 2) next in
      let b0 : get_or r (i * 2) 0 ≡ next = get_or-set_other r₀ (i * 2 + 1) (i * 2) (many - 1) 0 (λ g. omega arith) ∙ get_or-set_same p.rings (i * 2) next 0 (omega arith) in
      let b1 : get_or r (i * 2 + 1) 0 ≡ many - 1 = get_or-set_same r₀ (i * 2 + 1) (many - 1) 0 (omega arith) in
      let same : (j : ℕ) → (j ≡ i → ⊥) → (get_or r (j * 2) 0 ≡ get_or p.rings (j * 2) 0) × (get_or r (j * 2 + 1) 0 ≡ get_or p.rings (j * 2 + 1) 0) =
      λ j ne. (
        get_or-set_other r₀ (i * 2 + 1) (j * 2) (many - 1) 0 (λ g. omega arith) ∙ get_or-set_other p.rings (i * 2) (j * 2) next 0 (λ g. ne (omega arith)),
        get_or-set_other r₀ (i * 2 + 1) (j * 2 + 1) (many - 1) 0 (λ g. ne (omega arith)) ∙ get_or-set_other p.rings (i * 2) (j * 2 + 1) next 0 (λ g. omega arith),
      ) in
      let e0 : head_of deep (get_or r (i * 2) 0) ≡ next = ap (head_of deep) b0 ∙ rw (lt-ltb next deep ln) in
      let few : many ≤ deep = count_in_lem deep (get_or p.rings (i * 2 + 1) 0) in
      let e1 : count_of deep (get_or r (i * 2 + 1) 0) ≡ many - 1 = ap (count_of deep) b1 ∙ rw (le-leb (many - 1) deep (omega arith)) in
      let one : drop 1 (drop k.taken k.put) ≡ es = ap (drop 1) eh in
      let m : k.taken + 1 ≡ suc k.taken = add-one k.taken in
      let new : drop (suc k.taken) k.put ≡ held_at c (with_queues r b p) i =
      ap (λ (x : ℕ). drop x k.put) (sym m) ∙ sym (drop-drop 1 k.taken k.put) ∙ one ∙ sym rest ∙ sym (held_as r b next (many - 1) e0 e1) in
      let some_left : 1 ≤ length (drop k.taken k.put) = omega (arith, ap length eh) in
      queue_as r b (record { put = k.put; taken = suc k.taken; handed_out = out }) new (omega (arith, length-drop k.taken k.put, some_left))
      (λ j l ne. other_as r b j l ne (same j ne).0 (same j ne).1 refl)
      (rings_as r b (record { put = k.put; taken = suc k.taken; handed_out = out })
      (λ q. b0 ∙ on ∙ ap (λ (x : ℕ). wrap_of deep (x + 1)) (tidy_first q) ∙ wrap_next deep k.taken some) (omega arith) (λ j l ne. same j ne))
