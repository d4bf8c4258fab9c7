-- The numbers that the memory gives: the program's checks are the ledger's list, part by part, for every ledger that is shown.
use Rattle.std.specs.Prelude.{ℕ, ◌≡◌, refl, Bool, true, false, ◌&&◌, ◌||◌, List, [], ◌∷◌, leb, length}
use Rattle.std.proofs.Math.Path.{sym, ap}
use Rattle.std.proofs.Common.{◌∙◌}
use Rattle.ledger.specs.Lists.{first, ◌⇒◌}
use Rattle.ledger.specs.Config.{Config}
use Rattle.ledger.specs.Ledger as ledger
use Rattle.ledger.specs.Ledger.{Ledger, task}
use Rattle.ledger.specs.Refusals.{fields, Call, is_message, is_tock_value, inamailbox, have_timer, idle_or_waiting, meets25, meets26, meets21, from_state}
use Rattle.tables.specs.declared.shape.Shape.{Shape}
use Rattle.tables.specs.declared.blocks.Blocks.{Blocks}
use Rattle.tables.specs.Layout.{OneOf}
use Rattle.tables.specs.Decode.{view_blocks, view_task, record_of}
use Rattle.tables.specs.Shows.{Shows, Tells, record_in}
use Rattle.tables.specs.Stored.{shown_task}
use Rattle.command.specs.declared.codes.Fields.{Fields}
use Rattle.command.specs.Codes.{view_a, view_x, view_waits, view_fields}

-- the value r is the ledger's, for this configuration
abbrev pub TellsOf : {A : Type 0} → Config → Shape → List ℕ → (Config → Ledger → A) → A → Type 0
TellsOf c s d f r = (L : Ledger) (z w : List ℕ) → Shows c s L d z w → r ≡ f c L

-- u is the row of the call's code, a and b are what it means, and x is its message, if it has one
pub record Means (k : Call) (u : Fields) (a b x : ℕ) : Type 0 where
  pub row : view_fields u ≡ fields k.code
  pub task : a ≡ k.a
  pub semaphore : b ≡ k.b
  pub message : is_message (view_x u.x) ≡ true → x ≡ k.x

abbrev pub StateSays : Config → Shape → (d w : List ℕ) → Fields → (a b x r : ℕ) → Type 0
StateSays c s d w u a b x r = (k : Call) → Means k u a b x → (L : Ledger) (z : List ℕ) → Shows c s L d z w → r ≡ first (from_state c L k)

-- a task's blocks
module _ (s : Shape) (d : List ℕ) (t : ℕ) (o : OneOf s.tasks t) (x : Blocks) (e : x ≡ (record_in s d t).blocks) where
  blocks_are : Tells s d (λ c L. (task L t).blocks) (view_blocks x)
  unfolding record_in view_task record_of
  blocks_are c L z w h = ap view_blocks e ∙ sym (ap (λ (k : ledger.Task). k.blocks) (shown_task c s L d z w h t o))

  pub blocks_told : (r : Bool) → r ≡ (x.idle || x.event || x.message) → Tells s d (λ c L. idle_or_waiting L t) r
  unfolding idle_or_waiting view_blocks
  blocks_told r er c L z w h = er ∙ ap (λ (k : ledger.Blocks). k.idle || k.event_wait || k.message_wait) (blocks_are c L z w h)

  pub idle_told : Tells s d (λ c L. (task L t).blocks.idle) x.idle
  unfolding view_blocks
  idle_told c L z w h = ap (λ (k : ledger.Blocks). k.idle) (blocks_are c L z w h)

-- a task's idle block alone
pub idle_in : {s : Shape} {d : List ℕ} {t : ℕ} {r : Bool} → OneOf s.tasks t → r ≡ (record_in s d t).blocks.idle → Tells s d (λ c L. (task L t).blocks.idle) r
idle_in {s} {d} {t} o e c L z w h = e ∙ idle_told s d t o (record_in s d t).blocks refl c L z w h

and_same : (t : Bool) (y z : Bool) → (t ≡ true → y ≡ z) → (t && y) ≡ (t && z)
and_same true y z e = e refl
and_same false y z e = refl

module _ {u : Fields} {a b x : ℕ} (c : Config) (L : Ledger) (k : Call) (m : Means k u a b x) where
  pub is_25 : (y : Bool) → y ≡ meets25 L (view_waits u.waits) a → y ≡ meets25 L (fields k.code).waits k.a
  is_25 y e = e ∙ (λ i. meets25 L (m.row i).waits (m.task i))

  pub is_26 : (y : Bool) → y ≡ meets26 c L (view_a u.a) a → y ≡ meets26 c L (fields k.code).A k.a
  is_26 y e = e ∙ (λ i. meets26 c L (m.row i).A (m.task i))

  pub is_22 : (y : Bool) → y ≡ (is_message (view_x u.x) && inamailbox L x) → y ≡ (is_message (fields k.code).X && inamailbox L k.x)
  is_22 y e = e ∙ and_same (is_message (view_x u.x)) _ _ (λ t. ap (inamailbox L) (m.message t)) ∙ (λ i. is_message (m.row i).X && inamailbox L k.x)

  pub is_21 : (y : Bool) → y ≡ meets21 c L (view_waits u.waits) a b → y ≡ meets21 c L (fields k.code).waits k.a k.b
  is_21 y e = e ∙ (λ i. meets21 c L (m.row i).waits (m.task i) (m.semaphore i))

  pub is_24 : (n : ℕ) → n ≡ first ((is_tock_value (view_x u.x) && have_timer L a b) ⇒ 24 ∷ (is_tock_value (view_x u.x) && leb c.R (length L.timers)) ⇒ 23 ∷ [])
      → n ≡ first ((is_tock_value (fields k.code).X && have_timer L k.a k.b) ⇒ 24 ∷ (is_tock_value (fields k.code).X && leb c.R (length L.timers)) ⇒ 23 ∷ [])
  is_24 n e = e ∙ (λ i. first ((is_tock_value (m.row i).X && have_timer L (m.task i) (m.semaphore i)) ⇒ 24 ∷ (is_tock_value (m.row i).X && leb c.R (length L.timers)) ⇒ 23 ∷ []))
