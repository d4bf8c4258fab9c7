-- The numbers that the frame and the number of the running task give: the program's checks are the ledger's list, part by part.
use Rattle.std.specs.Prelude.{ℕ, ◌-◌, ◌≤◌, ◌≡◌, refl, Bool, true, false, not, ◌&&◌, eqb, length, drop}
use Rattle.std.proofs.Math.Path.{sym}
use Rattle.std.proofs.Common.{ap, ◌∙◌, subst, length-drop, le-ltb, le-leb, eqb-true}
use mathlib.Core.List.{List, [], ◌∷◌, ◌++◌}
use Rattle.std.proofs.lemmas.Bool.{not-false}
use Rattle.ledger.specs.Lists.{Check, first, ◌⇒◌, within, byte}
use Rattle.ledger.specs.Config.{Config}
use Rattle.ledger.specs.Services.{codes, shape}
use Rattle.ledger.specs.Refusals as ledger
use Rattle.ledger.specs.Refusals.{fields, code_at, call, value_x, behind_x, wrong_length, meant_task, wrong_task, wrong_semaphore, wrong_queue, is_message, is_tock_value, wrong_entry, from_input}
use Rattle.ledger.proofs.Theorems.Checks.{passes, joined_fails, joined_passes}
use Rattle.tables.specs.declared.shape.Shape.{Shape}
use Rattle.tables.specs.Layout.{OneOf}
use Rattle.tables.specs.Shows.{Of}
use Rattle.queues.specs.declared.Ring.{Ring}
use Rattle.queues.specs.Rings.{ring_of, width_is}
use Rattle.command.specs.declared.codes.Fields.{Fields}
use Rattle.command.specs.Numbers.{here, next}
use Rattle.command.specs.Codes.{view_a, view_follows, view_fields}
use Rattle.command.specs.Table.{EntryIn, entry_in}

-- the frame has five bytes, its code is in the table, and u is the code's row
pub record Row (f : List ℕ) (u : Fields) : Type 0 where
  pub long : 5 ≤ length f
  pub code : OneOf 18 (byte 0 f)
  pub row : view_fields u ≡ fields (code_at (byte 0 f))

-- 5 to 9
abbrev pub field_checks : Config → ledger.Fields → (self : ℕ) → List ℕ → List Check
field_checks c v self f =
    wrong_task c v.A self (byte 1 f) ⇒ 5
    ∷ wrong_semaphore c v.B (byte 2 f) ⇒ 6
    ∷ wrong_queue c v.A (byte 1 f) ⇒ 7
    ∷ (is_message v.X && not (within 1 c.G (value_x v.follows f))) ⇒ 8
    ∷ (is_tock_value v.X && eqb (value_x v.follows f) 0) ⇒ 9
    ∷ []

-- X, as the program reads it
pub value_told : (c : Config) (X : ledger.FieldX) (u : ledger.Follows) (f : List ℕ) {x n : ℕ} → x ≡ value_x u f
    → n ≡ first ((is_message X && not (within 1 c.G x)) ⇒ 8 ∷ (is_tock_value X && eqb x 0) ⇒ 9 ∷ [])
    → n ≡ first ((is_message X && not (within 1 c.G (value_x u f))) ⇒ 8 ∷ (is_tock_value X && eqb (value_x u f) 0) ⇒ 9 ∷ [])
value_told c X u f ex e = e ∙ ap (λ (y : ℕ). first ((is_message X && not (within 1 c.G y)) ⇒ 8 ∷ (is_tock_value X && eqb y 0) ⇒ 9 ∷ [])) ex

-- seven bytes, where X has four
pub long_enough : (n : ℕ) → wrong_length ledger.long_x n ≡ false → n ≡ 7
unfolding wrong_length
long_enough n h = eqb-true n 7 (not-false _ h)

-- an entry is what lies behind five bytes; where there is none, nothing is asked of it
entry_behind : (c : Config) (u : ledger.Follows) (q : ℕ) (f : List ℕ) {z : Bool} → ((e : List ℕ) → length e ≡ length f - 5 → z ≡ wrong_entry c u q e) → z ≡ wrong_entry c u q (behind_x u f)
unfolding wrong_entry behind_x
entry_behind c ledger.x_alone q f w = w (drop 5 f) (length-drop 5 f)
entry_behind c ledger.x_and_entry q f w = w (drop 5 f) (length-drop 5 f)
entry_behind c ledger.long_x q f w = w (drop 5 f) (length-drop 5 f)

-- an entry's width, by the ring
pub entry_told : (c : Config) (s : Shape) (q j size : ℕ) (r : Ring) (e : List ℕ) → j ≡ q → 1 ≤ q → r ≡ ring_of c s j → length e ≡ size → not (eqb size r.width) ≡ wrong_entry c ledger.x_and_entry q e
unfolding wrong_entry
entry_told c s q j size r e ej lo er n =
    let w : r.width ≡ (shape c q).width = ap (λ (k : Ring). k.width) er ∙ ap (λ (t : ℕ). (ring_of c s t).width) ej ∙ width_is c s q lo in
    λ i. not (eqb (sym n i) (w i))

-- ---- the whole list, by the row of the code
module _ (c : Config) (self : ℕ) (f : List ℕ) (u : Fields) (r : Row f u) where
  abbrev v : ledger.Fields
  v = fields (code_at (byte 0 f))

  abbrev entry_check : List Check
  entry_check = wrong_entry c v.follows (meant_task v.A self (byte 1 f)) (behind_x v.follows f) ⇒ 2 ∷ []

  in_table : not (within 1 (length codes) (byte 0 f)) ≡ false
  in_table = rw (le-leb 1 (byte 0 f) r.code.0, le-leb (byte 0 f) 18 r.code.1)

  start : first (from_input c self f) ≡ first (wrong_length v.follows (length f) ⇒ 2 ∷ (v.service && eqb self 0) ⇒ 20 ∷ (field_checks c v self f ++ entry_check))
  unfolding from_input call
  start = next _ 2 _ (le-ltb (length f) 5 r.long) ∙ next _ 4 _ in_table

  module _ (x : Bool) (e : x ≡ wrong_length (view_follows u.follows) (length f)) where
    long_is : x ≡ wrong_length v.follows (length f)
    long_is = e ∙ ap (λ (y : ledger.Fields). wrong_length y.follows (length f)) r.row

    pub input_long : x ≡ true → 2 ≡ first (from_input c self f)
    input_long t = sym (start ∙ here _ 2 _ (sym long_is ∙ t))

    module _ (no : x ≡ false) (y : Bool) (g : y ≡ (u.service && eqb self 0)) where
      asks_is : y ≡ (v.service && eqb self 0)
      asks_is = g ∙ ap (λ (w : ledger.Fields). w.service && eqb self 0) r.row

      after : first (from_input c self f) ≡ first ((v.service && eqb self 0) ⇒ 20 ∷ (field_checks c v self f ++ entry_check))
      after = start ∙ next _ 2 _ (sym long_is ∙ no)

      pub input_nobody : y ≡ true → 20 ≡ first (from_input c self f)
      input_nobody t = sym (after ∙ here _ 20 _ (sym asks_is ∙ t))

      module _ (some : y ≡ false) (n : ℕ) (fs : n ≡ first (field_checks c (view_fields u) self f)) where
        fields_are : n ≡ first (field_checks c v self f)
        fields_are = fs ∙ ap (λ (w : ledger.Fields). first (field_checks c w self f)) r.row

        last : first (from_input c self f) ≡ first (field_checks c v self f ++ entry_check)
        last = after ∙ next _ 20 _ (sym asks_is ∙ some)

        pub input_fields : (n ≡ 0 → ⊥) → n ≡ first (from_input c self f)
        input_fields t = fields_are ∙ sym (last ∙ joined_fails (field_checks c v self f) entry_check (λ z. t (fields_are ∙ z)))

        module _ (none : n ≡ 0) (a : ℕ) (ea : a ≡ meant_task (view_a u.a) self (byte 1 f)) where
          meant_is : a ≡ meant_task v.A self (byte 1 f)
          meant_is = ea ∙ ap (λ (w : ledger.Fields). meant_task w.A self (byte 1 f)) r.row

          passed : first (field_checks c v self f) ≡ 0
          passed = sym fields_are ∙ none

          pub input_entry_in : {s : Shape} → Of c s → EntryIn s (view_follows u.follows) a
          input_entry_in {s} o =
              let p = passes (field_checks c v self f) refl passed in
              let q : EntryIn s v.follows a = subst (EntryIn s v.follows) (sym meant_is) (entry_in o (code_at (byte 0 f)) self (byte 1 f) p.1.1.0) in
              subst (λ (w : ledger.Fields). EntryIn s w.follows a) (sym r.row) q

          module _ (z : Bool) (w : (e : List ℕ) → length e ≡ length f - 5 → z ≡ wrong_entry c (view_follows u.follows) a e) where
            entry_is : z ≡ wrong_entry c v.follows (meant_task v.A self (byte 1 f)) (behind_x v.follows f)
            entry_is = entry_behind c v.follows (meant_task v.A self (byte 1 f)) f (λ e n. w e n ∙ (λ i. wrong_entry c (r.row i).follows (meant_is i) e))

            whole : first (from_input c self f) ≡ first entry_check
            whole = last ∙ joined_passes (field_checks c v self f) entry_check refl passed

            pub input_entry : z ≡ true → 2 ≡ first (from_input c self f)
            input_entry t = sym (whole ∙ here _ 2 _ (sym entry_is ∙ t))

            pub input_passes : z ≡ false → 0 ≡ first (from_input c self f)
            unfolding first
            input_passes t = sym (whole ∙ next _ 2 [] (sym entry_is ∙ t))
