-- Putting in the lent memory: the bytes that the calls leave, as regions, and so the ledger's own change.
use Rattle.std.specs.Prelude.{Bool, ◌≡◌, get_or}
use Rattle.std.proofs.Math.Path.{refl, ap, subst}
use Rattle.std.proofs.Common.{sym, ◌∙◌, not-suc-le-zero}
use mathlib.Core.List.{List}
use Prim.Native.Nat.{ℕ, zero, suc, ◌+◌, ◌-◌, ◌*◌, ◌<◌, ◌≤◌}
use native.Mathlib.Omega.{arith}
use borrow.Rule.Slice.PartMut.{put_mid}
use Rattle.std.proofs.Math.ListN.{length, set, length-set}
use Rattle.rows.specs.Splice.{cut, splice}
use Rattle.rows.specs.Laws.{length_splice, lent_back}
use Rattle.rows.specs.Rows.{row_fits}
use Rattle.rings.specs.Ring.{wrap_of}
use Rattle.rings.specs.Laws.{wrap_in}
use Rattle.ledger.specs.Config.{Config}
use Rattle.ledger.specs.Ledger.{Ledger, queue, held}
use Rattle.ledger.specs.Services.{put_entry}
use Rattle.tables.specs.declared.shape.Shape.{Shape}
use Rattle.tables.specs.Layout.{OneOf, bound, Regions, named, regions, but, written, byte_written, region_length}
use Rattle.tables.specs.Encoded.{head_in_lem}
use Rattle.tables.specs.Shows.{begins, ShowsAs}
use Rattle.tables.specs.Items.{with_queues}
use Rattle.tables.specs.Stored.{shows_as}
use Rattle.queues.specs.declared.Ring.{Ring}
use Rattle.queues.specs.Rings.{ring_of, head_in, count_in, body_in, inside, held_length}
use Rattle.queues.specs.Holding.{put_shown}

module _ {tidy : Bool} (c : Config) (s : Shape) (L : Ledger) (d z w : List ℕ) (h : ShowsAs tidy c s L d z w) where
  pub rings_length : length (regions s d).rings ≡ 2 * c.Q
  unfolding regions named bound
  rings_length = region_length s h.of.laid d h.room 5 ∙ (let l = h.of.laid in omega (arith, h.of.queues))

  pub bodies_length : length (regions s d).bodies ≡ s.end - s.bodyat
  unfolding regions named bound
  bodies_length = region_length s h.of.laid d h.room 7

  -- the bytes of the ring in row i and then its count are written
  put_written : (i : ℕ) → i < c.Q → (a n : ℕ) (e : List ℕ) → begins c i + a + length e ≤ s.end - s.bodyat
      → regions s (set (splice d (s.bodyat + (begins c i + a)) e) (s.ringat + (i * 2 + 1)) n)
      ≡ with_queues (set (regions s d).rings (i * 2 + 1) n) (splice (regions s d).bodies (begins c i + a) e) (regions s d)
  unfolding regions named but bound with_queues
  put_written i hi a n e f =
      let l = h.of.laid in
      let d₁ : List ℕ = splice d (s.bodyat + (begins c i + a)) e in
      let m : length d₁ ≡ length d = length_splice d (s.bodyat + (begins c i + a)) e (omega (arith, h.room)) in
      let x : regions s d₁ ≡ with_queues (regions s d).rings (splice (regions s d).bodies (begins c i + a) e) (regions s d) = written s l d h.room 7 (begins c i + a) e (omega arith) in
      byte_written s l d₁ (omega (arith, h.room)) 5 (i * 2 + 1) n (omega (arith, h.of.queues))
      ∙ ap (λ (p : Regions). with_queues (set p.rings (i * 2 + 1) n) p.bodies p) x

  put_for : (i : ℕ) → i < c.Q → (r : Ring) → r ≡ ring_of c s (suc i) → (e ys : List ℕ) → length e ≡ r.width → count_in s r d i < r.depth
      → ys ≡ splice (body_in r d) (wrap_of r.depth (head_in s r d i + count_in s r d i) * r.width) e
      → ShowsAs tidy c s (put_entry (suc i) e L) (set (put_mid r.base (r.base + r.depth * r.width - r.base) d ys) (s.ringat + (i * 2 + 1)) (count_in s r d i + 1)) z w
  unfolding ring_of head_in count_in body_in
  put_for i hi r er e ys =
      subst (λ (r : Ring). length e ≡ r.width → count_in s r d i < r.depth → ys ≡ splice (body_in r d) (wrap_of r.depth (head_in s r d i + count_in s r d i) * r.width) e
      → ShowsAs tidy c s (put_entry (suc i) e L) (set (put_mid r.base (r.base + r.depth * r.width - r.base) d ys) (s.ringat + (i * 2 + 1)) (count_in s r d i + 1)) z w) (sym er)
      (λ el room ey.
      let r : Ring = ring_of c s (suc i) in
      let k : ℕ = wrap_of r.depth (head_in s r d i + count_in s r d i) in
      let hd : head_in s r d i < r.depth = head_in_lem r.depth (get_or (regions s d).rings (i * 2) 0) (h.of.depths (suc i) (omega arith) (omega arith)).0 in
      let f : k * r.width + r.width ≤ r.depth * r.width = row_fits r.width k r.depth (wrap_in r.depth (head_in s r d i + count_in s r d i) (omega arith)) in
      let g : s.bodyat + (begins c i + r.depth * r.width) ≤ s.end = inside c s h.of i hi in
      let b : put_mid r.base (r.base + r.depth * r.width - r.base) d ys ≡ splice d (s.bodyat + (begins c i + k * r.width)) e =
      lent_back d r.base (r.base + r.depth * r.width) (k * r.width) e ys (omega arith) (omega (arith, h.room)) (omega arith) ey
      ∙ (let x : s.bodyat + begins c i + k * r.width ≡ s.bodyat + (begins c i + k * r.width) = omega arith in ap (λ (n : ℕ). splice d n e) x) in
      let d' : List ℕ = set (splice d (s.bodyat + (begins c i + k * r.width)) e) (s.ringat + (i * 2 + 1)) (count_in s r d i + 1) in
      let m : length d' ≡ length d = length-set (splice d (s.bodyat + (begins c i + k * r.width)) e) (s.ringat + (i * 2 + 1)) (count_in s r d i + 1) ∙ length_splice d (s.bodyat + (begins c i + k * r.width)) e (omega (arith, h.room)) in
      subst (λ (x : List ℕ). ShowsAs tidy c s (put_entry (suc i) e L) (set x (s.ringat + (i * 2 + 1)) (count_in s r d i + 1)) z w) (sym b)
      (shows_as c s L d z w d' z _ h m refl (put_written i hi (k * r.width) (count_in s r d i + 1) e (omega arith)) (put_entry (suc i) e L)
      (put_shown c s h.of L (regions s d) z w h.shown rings_length bodies_length i hi e el room)))

  -- as the code leaves it
  pub put_done : (q : ℕ) → OneOf s.queues q → (r : Ring) → r ≡ ring_of c s q → (e ys : List ℕ) (first many : ℕ) → length e ≡ r.width
      → first ≡ head_in s r d (q - 1) → many ≡ count_in s r d (q - 1) → many < r.depth
      → ys ≡ splice (cut d r.base (r.base + r.depth * r.width)) (wrap_of r.depth (first + many) * r.width) e
      → ShowsAs tidy c s (put_entry q e L) (set (put_mid r.base (r.base + r.depth * r.width - r.base) d ys) (s.ringat + (q - 1) * 2 + 1) (many + 1)) z w
  unfolding body_in
  put_done zero o r er e ys first many el ef em room ey = absurd (not-suc-le-zero o.0)
  put_done (suc i) o r er e ys first many el ef em room ey =
      let m : suc i - 1 ≡ i = omega arith in
      let f : first ≡ head_in s r d i = ef ∙ ap (head_in s r d) m in
      let n : many ≡ count_in s r d i = em ∙ ap (count_in s r d) m in
      let x : s.ringat + (suc i - 1) * 2 + 1 ≡ s.ringat + (i * 2 + 1) = omega arith in
      let y : ys ≡ splice (body_in r d) (wrap_of r.depth (head_in s r d i + count_in s r d i) * r.width) e =
      ey ∙ ap (λ (k : ℕ). splice (body_in r d) (wrap_of r.depth (k + many) * r.width) e) f ∙ ap (λ (k : ℕ). splice (body_in r d) (wrap_of r.depth (head_in s r d i + k) * r.width) e) n in
      let g : ShowsAs tidy c s (put_entry (suc i) e L) (set (put_mid r.base (r.base + r.depth * r.width - r.base) d ys) (s.ringat + (i * 2 + 1)) (count_in s r d i + 1)) z w =
      put_for i (omega (arith, h.of.queues)) r er e ys el (subst (λ (k : ℕ). k < r.depth) n room) y in
      subst (λ (k : ℕ). ShowsAs tidy c s (put_entry (suc i) e L) (set (put_mid r.base (r.base + r.depth * r.width - r.base) d ys) k (many + 1)) z w) (sym x)
      (subst (λ (k : ℕ). ShowsAs tidy c s (put_entry (suc i) e L) (set (put_mid r.base (r.base + r.depth * r.width - r.base) d ys) (s.ringat + (i * 2 + 1)) (k + 1)) z w) (sym n) g)

  -- a queue that is not full
  pub not_full : (q : ℕ) → OneOf s.queues q → (r : Ring) → r ≡ ring_of c s q → length (held (queue L q)) < r.depth → count_in s r d (q - 1) < r.depth
  not_full q o r er l = omega (arith, held_length c s L d z w h q o r er)
