-- What a function over the lent blocks keeps of them, and what it does.
use Rattle.std.specs.Prelude.{◌≡◌, refl, List, ℕ}
use Rattle.std.proofs.Common.{◌∙◌, ap, subst}
use Rattle.tables.specs.declared.shape.Shape.{Shape}
use Rattle.tables.specs.declared.lent.Tables.{Tables}
use Rattle.tables.specs.Lent as tables
use Rattle.ledger.specs.Config.{Config, config_in}
use Rattle.executive.specs.declared.lent.Lent.{Lent}

-- ---- what it keeps: the same blocks stay lent, with the same configuration and shape. The tables go from d to d' and the slots from z to z' by R.
pub record Step (a b : Lent) (R : Config → Shape → (d z d' z' : List ℕ) → Type 0) : Type 0 where
  pub config : b.config ≡ a.config
  pub reference : b.tables.ghost_name ≡ a.tables.ghost_name
  pub slots : b.slots.ghost_name ≡ a.slots.ghost_name
  pub tables : tables.Step a.tables.now b.tables.now (λ s d d'. R (config_in a.config.now) s d a.slots.now d' b.slots.now)

-- ---- laws of every clause
module _ {a b : Lent} {R : Config → Shape → (d z d' z' : List ℕ) → Type 0} where
  -- by what is done to the tables, while the same blocks stay lent
  pub over : b.config ≡ a.config → b.tables.ghost_name ≡ a.tables.ghost_name → b.slots.ghost_name ≡ a.slots.ghost_name
      → tables.Step a.tables.now b.tables.now (λ s d d'. R (config_in a.config.now) s d a.slots.now d' b.slots.now) → Step a b R
  over e r z p = record { config = e; reference = r; slots = z; tables = p }

  -- a clause that follows from another
  pub by : {T : Config → Shape → (d z d' z' : List ℕ) → Type 0} → Step a b R
      → (R (config_in a.config.now) a.tables.now.shape a.tables.now.bytes.now a.slots.now b.tables.now.bytes.now b.slots.now
      → T (config_in a.config.now) a.tables.now.shape a.tables.now.bytes.now a.slots.now b.tables.now.bytes.now b.slots.now) → Step a b T
  by p r = record { config = p.config; reference = p.reference; slots = p.slots; tables = tables.by p.tables r }

  -- what was lent, when it is back
  pub back : {t : Tables} {y : List ℕ} → Step a b R → b.tables.now ≡ t → b.slots.now ≡ y → tables.Step a.tables.now t (λ s d d'. R (config_in a.config.now) s d a.slots.now d' y)
  back p e f = rw (← e, ← f) p.tables

  -- the same blocks, lent once more
  pub again : {e : Lent} → Step a b R → e.config ≡ b.config → e.tables.ghost_name ≡ b.tables.ghost_name → e.tables.now ≡ b.tables.now → e.slots ≡ b.slots → Step a e R
  again {e} p g r t z = record { config = g ∙ p.config; reference = r ∙ p.reference; slots = ap (λ x. x.ghost_name) z ∙ p.slots; tables = rw (t, z) p.tables }

  -- one behind another
  pub going : {d : Lent} {S T : Config → Shape → (d z d' z' : List ℕ) → Type 0} → Step a b R → Step b d S
      → (R (config_in a.config.now) a.tables.now.shape a.tables.now.bytes.now a.slots.now b.tables.now.bytes.now b.slots.now
      → S (config_in a.config.now) a.tables.now.shape b.tables.now.bytes.now b.slots.now d.tables.now.bytes.now d.slots.now
      → T (config_in a.config.now) a.tables.now.shape a.tables.now.bytes.now a.slots.now d.tables.now.bytes.now d.slots.now) → Step a d T
  going {d} {S} p q r =
      record {
        config = q.config ∙ p.config;
        reference = q.reference ∙ p.reference;
        slots = q.slots ∙ p.slots;
        tables = tables.going p.tables q.tables (λ x y. r x (subst (λ (g : _). S (config_in g.now) a.tables.now.shape b.tables.now.bytes.now b.slots.now d.tables.now.bytes.now d.slots.now) p.config y));
      }

-- nothing written
pub stays : {a : Lent} {R : Config → Shape → (d z d' z' : List ℕ) → Type 0}
    → R (config_in a.config.now) a.tables.now.shape a.tables.now.bytes.now a.slots.now a.tables.now.bytes.now a.slots.now → Step a a R
stays p = record { config = refl; reference = refl; slots = refl; tables = tables.stays p }
