-- What a host does between two calls: it stores by the machine's own store, bytes one by one. A memory that holds a buffer
-- holds, after that, the new bytes at the buffer's front, the buffer's old bytes behind them, and all else as it was.
use Rattle.std.specs.Prelude.{◌≡◌, ℕ, ◌+◌, List, [], ◌∷◌, T}
use Rattle.std.proofs.Math.Logic.{∥∥₁_prop, ∥∥₁_elim, ∥∥₁_map}
use Rattle.std.proofs.Math.Option.{some as just}
use seplogic.Ra.Ura.{Ura}
use base.Fraction.{full_share}
use seplogic.Bi.Sat
use mir.Syntax.{w8, Ty, ty_int}
use mir.Val.{Val, vint, has_ty, WT}
use base.Logic.{Sat_exists, SProp, ent, sep, ex, guard, upd, via, assoc∗, assoc', mono_l, ex_i, ex∗, guard_i, upd_mono, upd_frame}
use prog.Memory.{Memory, store_m}
use prog.Wp.{run}
use prog.Model.{Model}
use types.Logic.{Logic}
use contract.Adequate.{Satisfies}

-- from σ to σ': the bytes are stored from the offset o on in block b
pub data Stores (b : ℕ) : (o : ℕ) (bytes : List ℕ) (σ σ' : Memory) → Type 0 where
  none : {o : ℕ} {σ : Memory} → Stores b o [] σ σ
  store : {o x : ℕ} {xs : List ℕ} {σ σ₁ σ' : Memory} → store_m σ (ty_int w8) b o (vint w8 x) ≡ just σ₁ → Stores b (o + 1) xs σ₁ σ' → Stores b o (x ∷ xs) σ σ'

module _ {M : Type 1} {𝓤 : Ura M} (𝓛 : Logic 𝓤) (𝓜 : Model 𝓤 𝓛.H) where
  open 𝓛 use {H}

  abbrev ◌∗◌ : SProp 𝓤 → SProp 𝓤 → SProp 𝓤
  P ∗ Q = sep 𝓤 P Q

  abbrev ◌⊨◌ : Memory → SProp 𝓤 → Type 1
  σ ⊨ P = Satisfies 𝓤 H 𝓜 σ P

  infixr 35 ◌∗◌
  infix 26 ◌⊨◌
  abbrev Run : ℕ → ℕ → List ℕ → SProp 𝓤
  Run b o xs = run 𝓤 H full_share w8 b o xs

  abbrev Byte : ℕ → ℕ → ℕ → SProp 𝓤
  Byte b o x = H.at full_share (ty_int w8) b o (vint w8 x)

  -- a value is stored into room for its type
  module _ (σ : Memory) (τ : Ty) (b o : ℕ) (v : Val) (F : SProp 𝓤) where
    abbrev Stored : Memory → Type 0
    Stored σ₁ = store_m σ τ b o v ≡ just σ₁

    abbrev After : Memory → SProp 𝓤
    After σ₁ = upd 𝓤 (𝓜.mem σ₁ ∗ (H.at full_share τ b o v ∗ F))

    abbrev At : Memory → SProp 𝓤
    At σ₁ = upd 𝓤 (𝓜.mem σ₁ ∗ H.at full_share τ b o v)

    framed : (σ₁ : Memory) → ent 𝓤 (At σ₁ ∗ F) (After σ₁)
    framed σ₁ =
        let P : SProp 𝓤 = H.at full_share τ b o v in
        via 𝓤 (upd 𝓤 ((𝓜.mem σ₁ ∗ P) ∗ F)) (upd_frame 𝓤 (𝓜.mem σ₁ ∗ P) F) (upd_mono 𝓤 (assoc∗ 𝓤 (𝓜.mem σ₁) P F))

    stored : T (has_ty τ v) × WT v → ent 𝓤 (𝓜.mem σ ∗ (H.room τ b o ∗ F)) (ex 𝓤 (λ (σ₁ : Memory). guard 𝓤 (Stored σ₁) (After σ₁)))
    stored t =
        via 𝓤 ((𝓜.mem σ ∗ H.room τ b o) ∗ F) (assoc' 𝓤 (𝓜.mem σ) (H.room τ b o) F)
        (via 𝓤 (ex 𝓤 (λ (σ₁ : Memory). guard 𝓤 (Stored σ₁) (At σ₁)) ∗ F) (mono_l 𝓤 F (𝓜.room_store σ τ b o v t.0 t.1))
        (ex∗ 𝓤 (λ (σ₁ : Memory). guard 𝓤 (Stored σ₁) (At σ₁)) F (λ σ₁. ex∗ 𝓤 (λ (_ : Stored σ₁). At σ₁) F (λ e.
        via 𝓤 (After σ₁) (framed σ₁) (via 𝓤 (guard 𝓤 (Stored σ₁) (After σ₁)) (guard_i 𝓤 (Stored σ₁) (After σ₁) e) (ex_i 𝓤 (λ (σ₂ : Memory). guard 𝓤 (Stored σ₂) (After σ₂)) σ₁))))))

    pub sat_store : T (has_ty τ v) × WT v → σ ⊨ H.room τ b o ∗ F → ∥ ((σ₁ : Memory) × Stored σ₁ × (σ₁ ⊨ H.at full_share τ b o v ∗ F)) ∥₁
    unfolding Satisfies
    sat_store t s =
        ∥∥₁_elim (Sat_exists 𝓤 (λ (σ₁ : Memory). guard 𝓤 (Stored σ₁) (After σ₁)) (Sat.mono 𝓤.op (stored t) s)) ∥∥₁_prop (λ m.
        ∥∥₁_map (Sat_exists 𝓤 (λ (_ : Stored m.0). After m.0) m.1) (λ u. (m.0, u.0, Sat.bupd 𝓤 (𝓜.mem m.0 ∗ (H.at full_share τ b o v ∗ F)) u.1)))
