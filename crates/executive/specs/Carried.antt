-- The effect of an accepted frame over the memory, and how its calls come to it.
use Rattle.std.specs.Prelude.{ℕ, zero, suc, ◌+◌, ◌-◌, ◌*◌, ◌≤◌, ◌≡◌, refl, Bool, true, false, cond, List, eqb, take, drop}
use Rattle.std.proofs.Math.Path.{sym, ap, subst}
use Rattle.std.proofs.Common.{◌∙◌, arith, length-drop, take_all, ne_eqb, ltb-false}
use Rattle.std.proofs.Math.ListN.{length}
use Rattle.std.proofs.lemmas.Bool.{not-false}
use Rattle.ledger.specs.Lists.{at, put, byte, first, within}
use Rattle.ledger.specs.Config.{Config}
use Rattle.ledger.specs.Ledger.{plain, Ledger, running, semaphore_of, set_semaphore, set_semaphores, set_task, set_outcome}
use Rattle.ledger.specs.Services.{Code, shape, signalled, signal, effect}
use Rattle.ledger.specs.Refusals.{FieldA, no_a, a_task, to_start, self_or_task, any_or_task, a_queue, FieldB, no_b, of_self, of_task, or_none, FieldX, no_x, a_message, a_tock_value, a_switch, fields, code_at, call, wrong_length, inamailbox, have_timer, from_input}
use Rattle.ledger.specs.Session.{accept}
use Rattle.ledger.specs.Good.{Numbered, GoodA, GoodB, GoodX, GoodNumber, GoodEntry, Good, Accepted}
use Rattle.ledger.proofs.Theorems.Checks.{within_numbered, passes}
use Rattle.tables.specs.declared.shape.Shape.{Shape}
use Rattle.tables.specs.Layout.{OneOf, Fits, fitting}
use Rattle.tables.specs.Shows.{Of, ShowsAs}
use Rattle.queues.specs.declared.Ring.{Ring}
use Rattle.queues.specs.Rings.{ring_of, RingFits, width_is}
use Rattle.command.specs.Table.{semaphore_in}
use Rattle.command.specs.Input.{long_enough}
use Rattle.executive.specs.Meant.{InA, InB, InX, value_of, rest_of, MeansA, MeansB, MeansX, MeansEntry, Asks, MessageRoom, Seven}

-- the meant fields, by the row of the code, and the room in the tables d
pub record Meant (c : Config) (s : Shape) (code : Code) (self a b : ℕ) (f d : List ℕ) : Type 0 where
  pub asks : Asks s code self
  pub task : MeansA s code a
  pub semaphore : MeansB s code b
  pub value : MeansX s code (value_of code f)
  pub entry : MeansEntry c code a (rest_of code f)
  pub seven : Seven code f
  pub room : MessageRoom s code d

-- the code's effect, where the ledger has room for it
abbrev pub Effects : Config → Shape → Code → (self a b : ℕ) (f d z w d' z' w' : List ℕ) → Type 0
Effects c s code self a b f d z w d' z' w' =
    (tidy : Bool) (L : Ledger) → GoodX c L (fields code).X a b (value_of code f) → ShowsAs tidy c s L d z w
    → ShowsAs tidy c s (effect code c self a b (value_of code f) (rest_of code f) L) d' z' w'

-- what the frame itself says has been passed, while task `self` runs, and the tables d have room for what it sends
pub record Passed (c : Config) (s : Shape) (self : ℕ) (f d : List ℕ) : Type 0 where
  pub low : self ≤ s.tasks
  pub input : first (from_input c self f) ≡ 0
  pub room : MessageRoom s (code_at (byte 0 f)) d

-- the accepted frame's effect
abbrev pub Carries : Config → Shape → (self : ℕ) (f d z w d' z' w' : List ℕ) → Type 0
Carries c s self f d z w d' z' w' = (tidy : Bool) (L : Ledger) → self ≡ running L → Accepted c L (call c self f) → ShowsAs tidy c s L d z w → ShowsAs tidy c s (accept c f L) d' z' w'

-- ---- what the services require, from what the frame has passed
module _ {c : Config} {s : Shape} (o : Of c s) where
  one_task : (t : ℕ) → Numbered c.T t → OneOf s.tasks t
  one_task t n = (omega (arith, n.from), omega (arith, n.upto, o.tasks))

  in_a : (A : FieldA) (a : ℕ) → GoodA c A a → InA s A a
  in_a no_a a g = tt
  in_a a_task a g = one_task a g
  in_a to_start a g = one_task a g
  in_a self_or_task a g = one_task a g
  in_a any_or_task a g = tt
  in_a a_queue a g = (omega (arith, g.from), omega (arith, g.upto, o.queues))

  in_b : (B : FieldB) (b : ℕ) → GoodB c B b → InB s B b
  in_b no_b b g = tt
  in_b of_self b g = semaphore_in o b g
  in_b of_task b g = semaphore_in o b g
  in_b or_none b g = tt

  in_x : (X : FieldX) (x : ℕ) → GoodNumber c X x → InX s X x
  in_x no_x x g = tt
  in_x a_message x g = (omega (arith, g.from), omega (arith, g.upto, o.messages))
  in_x a_tock_value x g = tt
  in_x a_switch x g = tt

  pub meant_of : (self : ℕ) (f d : List ℕ) → Good c (call c self f) → Seven (code_at (byte 0 f)) f → MessageRoom s (code_at (byte 0 f)) d → (code : Code) (a b : ℕ) → code ≡ code_at (byte 0 f) → a ≡ (call c self f).a
      → b ≡ (call c self f).b → Meant c s code self a b f d
  unfolding call
  meant_of self f d g seven free code a b e ea eb =
      let k = call c self f in
      let u = fields k.code in
      subst (λ (n : Code). Meant c s n self a b f d) (sym e) (record {
        asks = λ v. one_task self (g.self v);
        task = subst (InA s u.A) (sym ea) (in_a u.A k.a g.A);
        semaphore = subst (InB s u.B) (sym eb) (in_b u.B k.b g.B);
        value = in_x u.X k.x g.X;
        entry = subst (λ (t : ℕ). GoodEntry c u.follows t (rest_of k.code f)) (sym ea) g.entry;
        seven = seven;
        room = free;
      })

-- ---- a plain outcome leaves the messages and the timers
free_prepared : (c : Config) (self : ℕ) (L : Ledger) (z : Bool) (X : FieldX) (a b x : ℕ) → GoodX c L X a b x → GoodX c (cond z (set_outcome self plain L) L) X a b x
unfolding set_outcome set_task inamailbox have_timer
free_prepared c self L false X a b x g = g
free_prepared c self L true no_x a b x g = tt
free_prepared c self L true a_message a b x g = record { number = g.number; nowhere = g.nowhere }
free_prepared c self L true a_tock_value a b x g = record { some = g.some; single = g.single; free = g.free }
free_prepared c self L true a_switch a b x g = tt

-- ---- the accepted frame's effect is that of its code, behind the plain outcome
abbrev accept_of : Config → (self : ℕ) → List ℕ → Ledger → Ledger
accept_of c self f L = let k = call c self f in effect k.code c k.self k.a k.b k.x k.bytes (cond (fields k.code).service (set_outcome k.self plain L) L)

module _ (c : Config) (self : ℕ) (f : List ℕ) (L : Ledger) (q : self ≡ running L) (code : Code) (a b : ℕ) (e : code ≡ code_at (byte 0 f)) (ea : a ≡ (call c self f).a) (eb : b ≡ (call c self f).b)
    (z : Bool) (service : z ≡ (fields code).service) where
  pub accept_is : effect code c self a b (value_of code f) (rest_of code f) (cond z (set_outcome self plain L) L) ≡ accept c f L
  unfolding accept call
  accept_is =
      ap (λ (y : Bool). effect code c self a b (value_of code f) (rest_of code f) (cond y (set_outcome self plain L) L)) service
      ∙ (λ i. let n = e i in effect n c self (ea i) (eb i) (value_of n f) (rest_of n f) (cond (fields n).service (set_outcome self plain L) L))
      ∙ ap (λ (t : ℕ). accept_of c t f L) q

  pub free_is : Accepted c L (call c self f) → GoodX c (cond z (set_outcome self plain L) L) (fields code).X a b (value_of code f)
  unfolding call
  free_is g =
      let k = call c self f in
      let u = fields k.code in
      let x : GoodX c L u.X a b k.x = subst (λ (t : ℕ). GoodX c L u.X a t k.x) (sym eb) (subst (λ (t : ℕ). GoodX c L u.X t k.b k.x) (sym ea) g.X) in
      subst (λ (n : Code). GoodX c (cond z (set_outcome self plain L) L) (fields n).X a b (value_of n f)) (sym e) (free_prepared c self L z u.X a b k.x x)

-- semaphore 0 is signalled to nobody
pub exit_is : (b : ℕ) (l : Ledger) → (signal b l).ledger ≡ cond (eqb b 0) l (signal b l).ledger
unfolding signal signalled set_semaphore set_semaphores semaphore_of at put
exit_is zero l = refl
exit_is (suc b) l = rw (ne_eqb (suc b) 0 (λ e. omega arith))

-- a message's number is the low byte of X
pub low_is : {s : Shape} {n : ℕ} → Fits s n → (high low : ℕ) → OneOf s.messages (256 * high + low) → low ≡ 256 * high + low
low_is (fitting l r) high low (lo, hi) = omega arith

-- ---- the part of the frame that starts at its sixth byte
pub frame_long : (c : Config) (s : Shape) (q : ℕ) (r : Ring) (f : List ℕ) → 1 ≤ q → r ≡ ring_of c s q → RingFits s r → length (drop 5 f) ≡ (shape c q).width → 5 ≤ length f
frame_long c s q r f lo er fit e = omega (arith, length-drop 5 f, fit.wide, ap (λ (x : Ring). x.width) er, width_is c s q lo)

pub sixth : (f : List ℕ) → take (length f - 5) (drop 5 f) ≡ drop 5 f
sixth f = take_all (length f - 5) (drop 5 f) (omega (arith, length-drop 5 f))

-- ---- an accepted frame has five bytes, and its code is in the table
pub long_passed : (c : Config) (self : ℕ) (f : List ℕ) → first (from_input c self f) ≡ 0 → 5 ≤ length f
unfolding from_input
long_passed c self f e = let (short, rest) = passes _ refl e in ltb-false (length f) 5 short

pub within_passed : (c : Config) (self : ℕ) (f : List ℕ) → first (from_input c self f) ≡ 0 → within 1 18 (byte 0 f) ≡ true
unfolding from_input
within_passed c self f e = let (short, (code, rest)) = passes _ refl e in not-false _ code

pub code_passed : (c : Config) (self : ℕ) (f : List ℕ) → first (from_input c self f) ≡ 0 → OneOf 18 (byte 0 f)
code_passed c self f e = let n = within_numbered 18 (byte 0 f) (within_passed c self f e) in (n.from, n.upto)

-- and a season timer's has seven
pub seven_passed : (c : Config) (self : ℕ) (f : List ℕ) → first (from_input c self f) ≡ 0 → Seven (code_at (byte 0 f)) f
unfolding from_input call fields
seven_passed c self f e n =
    let (short, (code, (size, rest))) = passes _ refl e in
    long_enough (length f) (subst (λ (k : Code). wrong_length (fields k).follows (length f) ≡ false) n size)
