-- Receive issued: by what the mailbox holds, the task waits or the message is shown.
use Rattle.std.specs.Prelude.{◌≡◌, Bool, List, ℕ, Option, None, Some}
use Rattle.std.proofs.Common.{sym, ◌∙◌}
use Rattle.std.proofs.Math.Path.{ap}
use Rattle.std.proofs.Math.Bool.{true}
use Rattle.std.proofs.Math.Option as math
use Rattle.std.proofs.Math.Option.{none, some}
use Rattle.tables.specs.declared.shape.Shape.{Shape}
use Rattle.tables.specs.Shows.{ShowsAs, loosely, Does, Tells, moved}
use Rattle.messages.specs.declared.Message.{Message}
use Rattle.mailboxes.specs.Received.{view_received, taken}
use Rattle.ledger.specs.Lists.{find, without}
use Rattle.ledger.specs.Config.{Config}
use Rattle.ledger.specs.Ledger as ledger
use Rattle.ledger.specs.Ledger.{Ledger, mailbox, set_mailbox, set_message_wait, set_outcome, set_request}
use Rattle.ledger.specs.Services.{wanted, received, issue}

module _ {tidy : Bool} (c : Config) (s : Shape) (L : Ledger) (d z w : List ℕ) (h : ShowsAs tidy c s L d z w) (t a : ℕ) where
  pub received_none : (r : Option Message) → r ≡ None → {d₀ d₁ d₂ : List ℕ} → Tells s d (λ c L. find (wanted a) (mailbox L t)) (view_received r) × Does s d d₀ (λ c L. taken r t a L)
      → Does s d₀ d₁ (λ c L. set_message_wait t true L) → Does s d₁ d₂ (λ c L. set_request t (ledger.receive a) L) → ShowsAs tidy c s (issue c t (ledger.receive a) L) d₂ z w
  unfolding issue received view_received taken
  received_none r e {d₀ = d₀} f g k =
      let n : none ≡ find (wanted a) (mailbox L t) = ap view_received (sym e) ∙ f.0 c L z w (loosely h) in
      moved (ap (λ (o : math.Option ledger.Message). received t a o L) n)
      (k tidy c (set_message_wait t true L) z w (g tidy c L z w (moved (ap (λ (x : Option Message). taken x t a L) e) (f.1 tidy c L z w h))))

  pub received_one : (r : Option Message) (m : Message) → r ≡ Some m → {d₀ d₁ : List ℕ} → Tells s d (λ c L. find (wanted a) (mailbox L t)) (view_received r) × Does s d d₀ (λ c L. taken r t a L)
      → Does s d₀ d₁ (λ c L. set_outcome t (ledger.message m.number m.sender m.semaphore) L) → ShowsAs tidy c s (issue c t (ledger.receive a) L) d₁ z w
  unfolding issue received view_received taken
  received_one r m e {d₀ = d₀} k g =
      let n : some (record { number = m.number; sender = m.sender; semaphore = m.semaphore }) ≡ find (wanted a) (mailbox L t) = ap view_received (sym e) ∙ k.0 c L z w (loosely h) in
      moved (ap (λ (o : math.Option ledger.Message). received t a o L) n)
      (g tidy c (set_mailbox t (without (wanted a) (mailbox L t)) L) z w (moved (ap (λ (y : Option Message). taken y t a L) e) (k.1 tidy c L z w h)))
