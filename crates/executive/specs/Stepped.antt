-- A frame's step over the memory: what it promises, and how its calls come to it.
use Rattle.std.specs.Prelude.{◌≡◌, refl, Bool, true, List, ℕ, ◌*◌, ◌≤◌, length}
use Rattle.std.proofs.Common.{sym, ap, ◌∙◌, subst, arith, eq-eqb, ne_eqb}
use Rattle.tables.specs.declared.shape.Shape.{Shape}
use Rattle.rows.specs.Tab.{tab_length}
use Rattle.tables.specs.Layout.{Fits, fitting}
use Rattle.tables.specs.Shows.{tasks_in, Of, ShowsAs, Shows, loosely, Tells, moved}
use Rattle.tables.specs.AnyMemory.{some, shows_some}
use Rattle.mailboxes.specs.Room.{Roomy, sound_in}
use Rattle.mailboxes.specs.Whole.{room_shown}
use Rattle.clock.specs.Held.{Holds, space}
use Rattle.answer.specs.Written.{written}
use Rattle.ledger.specs.Config.{Config}
use Rattle.ledger.specs.Ledger.{Ledger, running}
use Rattle.ledger.specs.Lists.{byte}
use Rattle.ledger.specs.Refusals.{FieldX, no_x, a_message, a_tock_value, a_switch, fields, code_at, is_message, call, refusal}
use Rattle.ledger.specs.Session as session
use Rattle.ledger.specs.Session.{accept}
use Rattle.ledger.specs.Good.{GoodX, Accepted}
use Rattle.ledger.proofs.Theorems.Accepted.{accepted}
use Rattle.command.specs.Refused.{Refuses}
use Rattle.executive.specs.declared.settling.Settled.{Settled}
use Rattle.executive.specs.Meant.{MessageRoom}
use Rattle.ledger.proofs.Theorems.Checks.{never}
use Rattle.executive.specs.Kept.{Ended}

-- the effect of an accepted frame, and settling
pub record Acts (c : Config) (s : Shape) (self : ℕ) (f d z w d' z' w' : List ℕ) (r : Settled) : Type 0 where
  pub low : r.running ≤ s.tasks
  pub few : r.reissues ≤ 2 * s.tasks
  pub ends : {tidy : Bool} (L : Ledger) → self ≡ running L → Accepted c L (call c self f) → ShowsAs tidy c s L d z w → Ended tidy c s (accept c f L) d' z' w' r

-- the number, the memory and the answer are the ledger's; a refused frame changes the answer alone
pub record Steps (c : Config) (s : Shape) (f d z w a d' z' w' a' : List ℕ) (r : ℕ) : Type 0 where
  pub tells : {tidy : Bool} (L : Ledger) → ShowsAs tidy c s L d z w → (r ≡ refusal c L f) × ShowsAs tidy c s (session.step c f L).ledger d' z' w' × (a' ≡ written (session.step c f L).answered a)
  pub unchanged : (r ≡ 0 → ⊥) → (d' ≡ d) × (z' ≡ z) × (w' ≡ w)

-- the two ways of a step
refused_step : (c : Config) (f : List ℕ) (L : Ledger) → (refusal c L f ≡ 0 → ⊥) → session.step c f L ≡ record { ledger = L; answered = session.answer (refusal c L f) 0 L }
unfolding session.step
refused_step c f L n = rw (ne_eqb (refusal c L f) 0 n)

accepted_step : (c : Config) (f : List ℕ) (L : Ledger) → refusal c L f ≡ 0
    → let m = session.settle (2 * c.T) c (accept c f L) in session.step c f L ≡ record { ledger = m.ledger; answered = session.answer 0 m.reissues m.ledger }
unfolding session.step
accepted_step c f L e = rw (eq-eqb (refusal c L f) 0 e)

tasks_length : {tidy : Bool} (c : Config) (s : Shape) (L : Ledger) (d z w : List ℕ) → ShowsAs tidy c s L d z w → length L.tasks ≡ c.T
unfolding tasks_in
tasks_length c s L d z w h = ap length h.shown.tasks ∙ tab_length c.T _

room_of : {c : Config} {s : Shape} {L : Ledger} {d z w : List ℕ} → Shows c s L d z w → (X : FieldX) (a b x : ℕ) → GoodX c L X a b x → sound_in s d ≡ true → is_message X ≡ true → Roomy s d
unfolding is_message
room_of h no_x a b x g e m = never m
room_of {c} {s} {L} {d} {z} {w} h a_message a b x g e m =
    room_shown c s L d z w h x (omega (arith, g.number.from), omega (arith, g.number.upto, h.of.messages)) g.nowhere e
room_of h a_tock_value a b x g e m = never m
room_of h a_switch a b x g e m = never m

module _ (c : Config) (s : Shape) (f d z w a : List ℕ) (self n : ℕ) (runs : Tells s d (λ c L. running L) self) (r : Refuses c s f self d w n) where
  number_is : (L : Ledger) → Shows c s L d z w → n ≡ refusal c L f
  number_is L h = r.tells L z h (runs c L z w h)

  pub step_refused : (a' : List ℕ) → (n ≡ 0 → ⊥) → ((L : Ledger) → Shows c s L d z w → self ≡ running L → a' ≡ written (session.answer n 0 L) a) → Steps c s f d z w a d z w a' n
  step_refused a' ne e =
      record {
        tells = λ L h.
            let v = loosely h in
            let q = number_is L v in
            let x = refused_step c f L (λ k. ne (q ∙ k)) in
            (q, moved (sym (ap (λ y. y.ledger) x)) h, e L v (runs c L z w v) ∙ ap (λ (k : ℕ). written (session.answer k 0 L) a) q ∙ ap (λ y. written y.answered a) (sym x));
        unchanged = λ k. (refl, refl, refl);
      }

  accepted_call : (L : Ledger) → Shows c s L d z w → n ≡ 0 → Accepted c L (call c self f)
  accepted_call L h e =
      subst (λ (i : ℕ). Accepted c L (call c i f)) (sym (runs c L z w h)) (accepted c L f (tasks_length c s L d z w h) (sym (number_is L h) ∙ e))

  -- a message that is sent has room, since it lies in no mailbox of some ledger that the memory shows
  pub room_found : n ≡ 0 → Of c s → Fits s (length d) → 16 * s.tasks ≤ length z → Holds s (length w) → sound_in s d ≡ true → MessageRoom s (code_at (byte 0 f)) d
  unfolding call
  room_found e o (fitting l r) long held sound m =
      let L : Ledger = some c s d z w in
      let h : Shows c s L d z w = shows_some c s d z w o r long (space held) in
      room_of h (fields (code_at (byte 0 f))).X _ _ _ (accepted_call L h e).X sound m

  pub step_accepted : (d' z' w' a' : List ℕ) (k : Settled) → n ≡ 0 → Acts c s self f d z w d' z' w' k
      → ((M : Ledger) → Shows c s M d' z' w' → k.running ≡ running M → a' ≡ written (session.answer 0 k.reissues M) a) → Steps c s f d z w a d' z' w' a' 0
  step_accepted d' z' w' a' k e acts told =
      record {
        tells = λ L h.
            let v = loosely h in
            let q : 0 ≡ refusal c L f = sym e ∙ number_is L v in
            let t = runs c L z w v in
            let y = acts.ends L t (accepted_call L v e) h in
            let x = accepted_step c f L (sym q) in
            let M : Ledger = (session.settle (2 * c.T) c (accept c f L)).ledger in
            (q, moved (sym (ap (λ y. y.ledger) x)) y.shows, told M (loosely y.shows) y.runs ∙ ap (λ (i : ℕ). written (session.answer 0 i M) a) y.reissues ∙ ap (λ y. written y.answered a) (sym x));
        unchanged = λ k. absurd (k refl);
      }
