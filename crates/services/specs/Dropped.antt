-- Messages dropped, one after the other: each turn takes the first message out and signals for it, until none is left.
use Rattle.std.specs.Prelude.{◌≡◌, refl, Bool, true, false, ℕ, ◌+◌, ◌≤◌, length, Option, None, Some}
use Rattle.std.proofs.Math.Path.{sym, ap}
use Rattle.std.proofs.Common.{◌∙◌, arith, lt-ltb, ltb-false}
use mathlib.Core.List.{List, [], ◌∷◌}
use Rattle.std.proofs.Math.Option.{none, some, none-ne-some, some-injective}
use Rattle.std.proofs.Math.Dec.{ltb}
use Rattle.tables.specs.declared.shape.Shape.{Shape}
use Rattle.tables.specs.Layout.{OneOf}
use Rattle.tables.specs.Shows.{ShowsAs, Shows, loosely, Does, Tells, moved}
use Rattle.messages.specs.declared.Message.{Message}
use Rattle.mailboxes.specs.Received.{view_received, taken}
use Rattle.mailboxes.specs.Mail.{mailbox_most}
use Rattle.ledger.specs.Lists.{find, without}
use Rattle.ledger.specs.Config.{Config}
use Rattle.ledger.specs.Ledger as ledger
use Rattle.ledger.specs.Ledger.{Ledger, mailbox, set_mailbox}
use Rattle.ledger.specs.Services.{signal, wanted, drop_messages}
use Rattle.ledger.specs.Dropped.{drop_first}
use Rattle.ledger.proofs.Theorems.Dropped.{drop_turn, drop_none, drop_fewer}

-- ---- the first message dropped

none_found : (box : List ledger.Message) → none ≡ find (wanted 0) box → box ≡ []
unfolding find wanted
none_found [] e = refl
none_found (m ∷ ms) e = absurd (none-ne-some m e)

some_found : (box : List ledger.Message) (m : ledger.Message) → some m ≡ find (wanted 0) box → box ≡ m ∷ without (wanted 0) box
unfolding find without wanted
some_found [] m e = absurd (none-ne-some m (sym e))
some_found (n ∷ ns) m e = ap (λ (x : ledger.Message). x ∷ ns) (sym (some-injective m n e))

none_counted : (box : List ledger.Message) → length box ≤ 0 → box ≡ []
none_counted [] e = refl
none_counted (m ∷ ms) e = absurd (omega arith)

empty_told : (box : List ledger.Message) → ltb 0 (length box) ≡ false → box ≡ []
empty_told box e = none_counted box (ltb-false 0 (length box) e)

some_held : {m : ledger.Message} {ms box : List ledger.Message} → box ≡ m ∷ ms → true ≡ ltb 0 (length box)
some_held {m} {ms} e = sym (ap (λ (b : List ledger.Message). ltb 0 (length b)) e ∙ lt-ltb 0 (length (m ∷ ms)) (omega arith))

module _ (s : Shape) (d : List ℕ) (t : ℕ) (r : Option Message) {d₀ : List ℕ} (k : Tells s d (λ c L. find (wanted 0) (mailbox L t)) (view_received r) × Does s d d₀ (λ c L. taken r t 0 L)) where
  pub first_none : r ≡ None → Does s d d₀ (λ c L. drop_first t (mailbox L t) L) × Tells s d (λ c L. ltb 0 (length (mailbox L t))) false
  unfolding view_received taken drop_first
  first_none e =
      let empty : (c : Config) (L : Ledger) (z w : List ℕ) → Shows c s L d z w → mailbox L t ≡ [] = λ c L z w h. none_found (mailbox L t) (ap view_received (sym e) ∙ k.0 c L z w h) in (
        (λ tidy c L z w h. moved (ap (λ (x : Option Message). taken x t 0 L) e ∙ ap (λ (b : List ledger.Message). drop_first t b L) (sym (empty c L z w (loosely h)))) (k.1 tidy c L z w h)),
        (λ c L z w h. sym (ap (λ (b : List ledger.Message). ltb 0 (length b)) (empty c L z w h))),
      )

  pub first_one : (m : Message) → r ≡ Some m → {d₁ : List ℕ} → Does s d₀ d₁ (λ c L. (signal m.semaphore L).ledger)
      → Does s d d₁ (λ c L. drop_first t (mailbox L t) L) × Tells s d (λ c L. ltb 0 (length (mailbox L t))) true
  unfolding view_received taken drop_first
  first_one n e g =
      let m : ledger.Message = record { number = n.number; sender = n.sender; semaphore = n.semaphore } in
      let lies : (c : Config) (L : Ledger) (z w : List ℕ) → Shows c s L d z w → mailbox L t ≡ m ∷ without (wanted 0) (mailbox L t) = λ c L z w h. some_found (mailbox L t) m (ap view_received (sym e) ∙ k.0 c L z w h) in (
        (λ tidy c L z w h.
            moved (ap (λ (y : List ledger.Message). drop_first t y L) (sym (lies c L z w (loosely h))))
            (g tidy c (set_mailbox t (without (wanted 0) (mailbox L t)) L) z w (moved (ap (λ (y : Option Message). taken y t 0 L) e) (k.1 tidy c L z w h)))),
        (λ c L z w h. some_held (lies c L z w h)),
      )

-- ---- one after the other

-- where L was shown at first: the ledger reached by k turns, from which to drop task t's messages comes to the same, with at most k fewer than n left
pub record Left (tidy : Bool) (c : Config) (s : Shape) (t : ℕ) (L : Ledger) (d z w : List ℕ) (n k : ℕ) : Type 0 where
  pub reached : Ledger
  pub shown : ShowsAs tidy c s reached d z w
  pub same : drop_messages t reached ≡ drop_messages t L
  pub most : length (mailbox reached t) + k ≤ n

abbrev pub Dropping : Shape → (t : ℕ) (d₀ d : List ℕ) (n k : ℕ) → Type 0
Dropping s t d₀ d n k = (tidy : Bool) (c : Config) (L : Ledger) (z w : List ℕ) → ShowsAs tidy c s L d₀ z w → Left tidy c s t L d z w n k

module _ (s : Shape) (t : ℕ) (d₀ : List ℕ) where
  pub none_dropped : OneOf s.tasks t → Dropping s t d₀ d₀ s.messages 0
  none_dropped i tidy c L z w h = record { reached = L; shown = h; same = refl; most = omega (arith, mailbox_most c s L d₀ z w h t i) }

  module _ (d : List ℕ) (n k : ℕ) (h : Dropping s t d₀ d n k) where
    -- the turn, where there was a message
    pub one_dropped : (d' : List ℕ) (r : Bool) → Does s d d' (λ c L. drop_first t (mailbox L t) L) × Tells s d (λ c L. ltb 0 (length (mailbox L t))) r → r ≡ true → Dropping s t d₀ d' n (k + 1)
    one_dropped d' r f e tidy c L z w g =
        let l = h tidy c L z w g in
        record {
          reached = drop_first t (mailbox l.reached t) l.reached;
          shown = f.0 tidy c l.reached z w l.shown;
          same = drop_turn t l.reached ∙ l.same;
          most = omega (arith, drop_fewer t l.reached (sym (f.1 c l.reached z w (loosely l.shown)) ∙ e), l.most);
        }

    -- the mailbox was empty
    pub all_dropped : (d' : List ℕ) (r : Bool) → Does s d d' (λ c L. drop_first t (mailbox L t) L) × Tells s d (λ c L. ltb 0 (length (mailbox L t))) r → r ≡ false → Does s d₀ d' (λ c L. drop_messages t L)
    unfolding drop_first
    all_dropped d' r f e tidy c L z w g =
        let l = h tidy c L z w g in
        let empty : mailbox l.reached t ≡ [] = empty_told (mailbox l.reached t) (sym (f.1 c l.reached z w (loosely l.shown)) ∙ e) in
        moved (ap (λ (b : List ledger.Message). drop_first t b l.reached) empty ∙ sym (drop_none t l.reached empty) ∙ l.same) (f.0 tidy c l.reached z w l.shown)

    -- no message more can be left
    pub all_counted : n ≤ k → Does s d₀ d (λ c L. drop_messages t L)
    all_counted e tidy c L z w g =
        let l = h tidy c L z w g in
        moved (sym (drop_none t l.reached (none_counted (mailbox l.reached t) (omega (arith, l.most)))) ∙ l.same) l.shown
