-- What a function over the lent tables keeps of them, and what it does.
use Rattle.std.specs.Prelude.{◌≡◌, refl, List, ℕ}
use Rattle.std.proofs.Common.{◌∙◌, subst}
use Rattle.tables.specs.declared.shape.Shape.{Shape}
use Rattle.tables.specs.declared.lent.Tables.{Tables}
use Rattle.tables.specs.Shows.{Does, DoesIf, DoesWithSlotsIf, DoesWithTimers, DoesWithTimersIf, Tells}
use Rattle.ledger.specs.Config.{Config}
use Rattle.ledger.specs.Ledger.{Ledger}

-- ---- what it keeps: the same bytes stay lent, with the same shape. What they hold goes from d to d' by R.
pub record Step (a b : Tables) (R : Shape → (d d' : List ℕ) → Type 0) : Type 0 where
  pub reference : b.bytes.ghost_name ≡ a.bytes.ghost_name
  pub shape : b.shape ≡ a.shape
  pub does : R a.shape a.bytes.now b.bytes.now

-- ---- what it does, each as the clause of Shows over the bytes
abbrev pub Goes : (a b : Tables) → (Config → Ledger → Ledger) → Type 0
Goes a b f = Step a b (λ s d d'. Does s d d' f)

abbrev pub GoesIf : (a b : Tables) → (Config → Ledger → Type 0) → (Config → Ledger → Ledger) → Type 0
GoesIf a b P f = Step a b (λ s d d'. DoesIf s d d' P f)

abbrev pub GoesWithSlotsIf : (a : Tables) (z : List ℕ) (b : Tables) (z' : List ℕ) → (Config → Ledger → Type 0) → (Config → Ledger → Ledger) → Type 0
GoesWithSlotsIf a z b z' P f = Step a b (λ s d d'. DoesWithSlotsIf s d z d' z' P f)

abbrev pub GoesWithTimers : (a : Tables) (w : List ℕ) (b : Tables) (w' : List ℕ) → (Config → Ledger → Ledger) → Type 0
GoesWithTimers a w b w' f = Step a b (λ s d d'. DoesWithTimers s d w d' w' f)

abbrev pub GoesWithTimersIf : (a : Tables) (w : List ℕ) (b : Tables) (w' : List ℕ) → (Config → Ledger → Type 0) → (Config → Ledger → Ledger) → Type 0
GoesWithTimersIf a w b w' P f = Step a b (λ s d d'. DoesWithTimersIf s d w d' w' P f)

-- ---- laws of every clause
module _ {a b : Tables} {R : Shape → (d d' : List ℕ) → Type 0} where
  -- what was lent, when it is back
  pub back : {x : List ℕ} → Step a b R → b.bytes.now ≡ x → R a.shape a.bytes.now x
  back p e = subst (R a.shape a.bytes.now) e p.does

  -- a clause that follows from another
  pub by : {T : Shape → (d d' : List ℕ) → Type 0} → Step a b R → (R a.shape a.bytes.now b.bytes.now → T a.shape a.bytes.now b.bytes.now) → Step a b T
  by p r = record { reference = p.reference; shape = p.shape; does = r p.does }

  -- one behind another
  pub going : {d : Tables} {S T : Shape → (d d' : List ℕ) → Type 0} → Step a b R → Step b d S
      → (R a.shape a.bytes.now b.bytes.now → S a.shape b.bytes.now d.bytes.now → T a.shape a.bytes.now d.bytes.now) → Step a d T
  going {d} {S} p q r =
      record {
        reference = q.reference ∙ p.reference;
        shape = q.shape ∙ p.shape;
        does = r p.does (subst (λ (s : Shape). S s b.bytes.now d.bytes.now) p.shape q.does);
      }

  -- the same without what follows from it
  pub both : {d : Tables} {S : Shape → (d d' : List ℕ) → Type 0} → Step a b R → Step b d S → Step a d (λ s x y. R s x b.bytes.now × S s b.bytes.now y)
  both p q = going p q (λ r s. (r, s))

  -- what the shape of before tells
  pub telling : {A : Type 0} {x : List ℕ} {f : Config → Ledger → A} {r : A} → Step a b R → Tells b.shape x f r → Tells a.shape x f r
  telling {x = x} {f = f} {r = r} p t = subst (λ (s : Shape). Tells s x f r) p.shape t

-- nothing written
pub stays : {a : Tables} {R : Shape → (d d' : List ℕ) → Type 0} → R a.shape a.bytes.now a.bytes.now → Step a a R
stays p = record { reference = refl; shape = refl; does = p }

-- ---- one change of the ledger behind another
module _ {a b d : Tables} {f g : Config → Ledger → Ledger} where
  pub onward : Goes a b f → Goes b d g → Goes a d (λ c L. g c (f c L))
  onward p q = going p q (λ r s tidy c L z w h. s tidy c (f c L) z w (r tidy c L z w h))
