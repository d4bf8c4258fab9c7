-- What is promised of a frame's number, while task `self` runs.
use Rattle.std.specs.Prelude.{ℕ, ◌≤◌, ◌<◌, ◌≡◌, refl, false, List, length}
use Rattle.std.proofs.Math.Path.{sym, ap, subst}
use Rattle.std.proofs.Common.{◌∙◌, arith, lt-ltb, le-ltb}
use Rattle.std.proofs.Math.Bool.{true}
use Rattle.ledger.specs.Lists.{first, within, byte}
use Rattle.ledger.specs.Config.{Config}
use Rattle.ledger.specs.Ledger.{Ledger, running}
use Rattle.ledger.specs.Refusals as ledger
use Rattle.ledger.specs.Refusals.{fields, code_at, meant_task, meant_semaphore, is_message, call, from_input, from_state, refusal}
use Rattle.ledger.proofs.Theorems.Checks.{Numbers, joined_fails, joined_passes}
use Rattle.ledger.specs.Good.{GoodNumber, Good}
use Rattle.ledger.proofs.Theorems.WithoutSeason.{value_word}
use Rattle.tables.specs.declared.shape.Shape.{Shape}
use Rattle.tables.specs.Shows.{Of, Shows}
use Rattle.command.specs.declared.codes.Code.{Code}
use Rattle.command.specs.declared.codes.Fields.{Fields}
use Rattle.command.specs.Codes.{IsCode, view_code, view_a, view_b, view_waits, view_fields}
use Rattle.command.specs.Table.{Owner, owner_in, WaitsIn, waits_in, message_short, low_byte}
use Rattle.command.specs.Numbers.{here, next}
use Rattle.command.specs.Input.{Row}
use Rattle.command.specs.State.{Means}

-- an accepted frame has passed what the frame itself says; and the number is the refusal of every ledger shown
pub record Refuses (c : Config) (s : Shape) (f : List ℕ) (self : ℕ) (d w : List ℕ) (r : ℕ) : Type 0 where
  pub good : r ≡ 0 → first (from_input c self f) ≡ 0
  pub tells : (L : Ledger) (z : List ℕ) → Shows c s L d z w → self ≡ running L → r ≡ refusal c L f

input_numbers : (c : Config) (self : ℕ) (f : List ℕ) → Numbers (from_input c self f) ≡ true
unfolding from_input
input_numbers c self f = refl

module _ {c : Config} {s : Shape} {self : ℕ} {d w : List ℕ} (f : List ℕ) where
  at_once : (n : ℕ) → (n ≡ 0 → ⊥) → ((t : ℕ) → first (from_input c t f) ≡ n) → Refuses c s f self d w n
  unfolding refusal
  at_once n some e =
      record {
        good = λ z. absurd (some z);
        tells = λ L z h q. sym (joined_fails (from_input c (running L) f) (from_state c L (call c (running L) f)) (λ y. some (sym (e (running L)) ∙ y)) ∙ e (running L));
      }

  pub too_short : length f < 5 → Refuses c s f self d w 2
  unfolding from_input
  too_short h = at_once 2 (λ z. omega arith) (λ t. here _ 2 _ (lt-ltb (length f) 5 h))

  pub no_code : 5 ≤ length f → within 1 18 (byte 0 f) ≡ false → Refuses c s f self d w 4
  unfolding from_input
  no_code h e = at_once 4 (λ z. omega arith) (λ t. next _ 2 _ (le-ltb (length f) 5 h) ∙ here _ 4 _ (rw e))

  pub by_input : (n : ℕ) → n ≡ first (from_input c self f) → (n ≡ 0 → ⊥) → Refuses c s f self d w n
  unfolding refusal
  by_input n e some =
      record {
        good = λ z. absurd (some z);
        tells = λ L z h q.
            let i : n ≡ first (from_input c (running L) f) = e ∙ ap (λ (t : ℕ). first (from_input c t f)) q in
            i ∙ sym (joined_fails (from_input c (running L) f) (from_state c L (call c (running L) f)) (λ y. some (i ∙ y)));
      }

  pub by_state : first (from_input c self f) ≡ 0 → (n : ℕ) → ((L : Ledger) (z : List ℕ) → Shows c s L d z w → n ≡ first (from_state c L (call c self f))) → Refuses c s f self d w n
  unfolding refusal
  by_state e n t =
      record {
        good = λ z. e;
        tells = λ L z h q.
            t L z h ∙ ap (λ (k : ℕ). first (from_state c L (call c k f))) q
            ∙ sym (joined_passes (from_input c (running L) f) (from_state c L (call c (running L) f)) (input_numbers c (running L) f) (ap (λ (k : ℕ). first (from_input c k f)) (sym q) ∙ e));
      }

-- ---- the row of the code, and the fields that it means
pub row_is : (f : List ℕ) (k : Code) (u : Fields) → 5 ≤ length f → IsCode (byte 0 f) k → view_fields u ≡ fields (view_code k) → Row f u
row_is f k u long n r = record { long = long; code = n.0; row = r ∙ ap fields n.1 }

module _ (c : Config) (self : ℕ) {f : List ℕ} {u : Fields} (r : Row f u) where
  pub task_is : {a : ℕ} → a ≡ meant_task (view_a u.a) self (byte 1 f) → a ≡ (call c self f).a
  unfolding call
  task_is e = e ∙ ap (λ (y : ledger.Fields). meant_task y.A self (byte 1 f)) r.row

  pub semaphore_is : {a b : ℕ} → a ≡ (call c self f).a → b ≡ meant_semaphore c (view_b u.b) self a (byte 2 f) → b ≡ (call c self f).b
  unfolding call
  semaphore_is ea e = e ∙ (λ i. meant_semaphore c (r.row i).B self (ea i) (byte 2 f))

-- what the row of an accepted input gives
module _ {c : Config} {s : Shape} (o : Of c s) (self : ℕ) (f : List ℕ) (u : Fields) (r : Row f u) (g : Good c (call c self f)) (a : ℕ) (ea : a ≡ (call c self f).a) where
  abbrev v : ledger.Fields
  v = fields (code_at (byte 0 f))

  pub owner_of : Owner s (view_b u.b) a
  unfolding call
  owner_of =
      let x : Owner s v.B a = subst (Owner s v.B) (sym ea) (owner_in o (code_at (byte 0 f)) (call c self f).a g.A) in
      subst (λ (y : ledger.Fields). Owner s y.B a) (sym r.row) x

  module _ (b : ℕ) (eb : b ≡ (call c self f).b) where
    pub waits_of : WaitsIn s (view_waits u.waits) a b
    unfolding call
    waits_of =
        let x : WaitsIn s v.waits (call c self f).a (call c self f).b = waits_in o (code_at (byte 0 f)) (call c self f).a (call c self f).b g.A g.B in
        let y : WaitsIn s v.waits a b = subst (λ (i : ℕ). WaitsIn s v.waits a i) (sym eb) (subst (λ (i : ℕ). WaitsIn s v.waits i (call c self f).b) (sym ea) x) in
        subst (λ (i : ledger.Fields). WaitsIn s i.waits a b) (sym r.row) y

    pub means : Means (call c self f) u a b (byte 4 f)
    unfolding call
    means =
        record {
          row = r.row;
          task = ea;
          semaphore = eb;
          message = λ t.
              let X = (fields (code_at (byte 0 f))).X in
              let m : is_message X ≡ true = subst (λ y. is_message y.X ≡ true) r.row t in
              let v = value_word (byte 0 f) f (message_short (byte 0 f) m) in
              low_byte o X (byte 3 f) (byte 4 f) (subst (GoodNumber c X) v g.X) m ∙ sym v;
        }
