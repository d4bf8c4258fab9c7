-- A buffer that a host stores into: from every memory that holds it, bytes that fit it are stored at its front; then the memory holds them,
-- the buffer's old bytes behind them, and all else as it was. For every model.
use Rattle.std.specs.Prelude.{◌≡◌, ℕ, ◌+◌, ◌≤◌, List, [], ◌∷◌, ◌++◌, length, take, drop}
use Rattle.std.proofs.Common.{sym, subst, ◌∙◌, arith, length-take, take-append-drop}
use Rattle.std.proofs.Math.Logic.{∥∥₁_prop, ∥∥₁_elim, ∥∥₁_map}
use Rattle.std.proofs.Math.Option.{some as just}
use seplogic.Ra.Ura.{Ura}
use base.Fraction.{full_share}
use mir.Syntax.{w8, ty_int}
use mir.Val.{vint, Fits}
use base.Logic.{SProp, ent, sep, via, comm∗, assoc∗, assoc', mono_l}
use prog.Memory.{Memory, store_m}
use prog.Wp.{run}
use prog.Model.{Model, AllFit}
use types.Logic.{Logic}
use contract.Adequate.{Satisfies, sat_weaken}
use Rattle.running.specs.Memories.{cut_at}
use Rattle.running.specs.Stores.{Stores, none, store, sat_store}

module _ {M : Type 1} {𝓤 : Ura M} (𝓛 : Logic 𝓤) (𝓜 : Model 𝓤 𝓛.H) where
  open 𝓛 use {H}

  abbrev ◌∗◌ : SProp 𝓤 → SProp 𝓤 → SProp 𝓤
  P ∗ Q = sep 𝓤 P Q

  abbrev ◌⊨◌ : Memory → SProp 𝓤 → Type 1
  σ ⊨ P = Satisfies 𝓤 H 𝓜 σ P

  infixr 35 ◌∗◌
  infix 26 ◌⊨◌
  abbrev Run : ℕ → ℕ → List ℕ → SProp 𝓤
  Run b o xs = run 𝓤 H full_share w8 b o xs

  abbrev Byte : ℕ → ℕ → ℕ → SProp 𝓤
  Byte b o x = H.at full_share (ty_int w8) b o (vint w8 x)

  -- a byte is stored over another
  one : (σ : Memory) (b o x : ℕ) (F : SProp 𝓤) (y : ℕ) → Fits w8 x → σ ⊨ Byte b o y ∗ F → ∥ ((σ₁ : Memory) × (store_m σ (ty_int w8) b o (vint w8 x) ≡ just σ₁) × (σ₁ ⊨ Byte b o x ∗ F)) ∥₁
  one σ b o x F y f s = sat_store 𝓛 𝓜 σ (ty_int w8) b o (vint w8 x) F (tt, f) (sat_weaken 𝓤 H 𝓜 σ (mono_l 𝓤 F (𝓜.at_room (ty_int w8) b o (vint w8 y))) s)

  swap : (P Q R : SProp 𝓤) → ent 𝓤 ((P ∗ Q) ∗ R) (Q ∗ (P ∗ R))
  swap P Q R = via 𝓤 ((Q ∗ P) ∗ R) (mono_l 𝓤 R (comm∗ 𝓤 P Q)) (assoc∗ 𝓤 Q P R)

  -- as many bytes as there are
  over : (ys xs : List ℕ) (σ : Memory) (b o : ℕ) (F : SProp 𝓤) → length xs ≡ length ys → AllFit w8 xs → σ ⊨ Run b o ys ∗ F
      → ∥ ((σ' : Memory) × Stores b o xs σ σ' × (σ' ⊨ Run b o xs ∗ F)) ∥₁
  over [] [] σ b o F e f s = ∣ (σ, none, s) ∣₁
  over [] (x ∷ xs) σ b o F e f s = absurd (omega (arith, e))
  over (y ∷ ys) [] σ b o F e f s = absurd (omega (arith, e))
  over (y ∷ ys) (x ∷ xs) σ b o F e f s =
      ∥∥₁_elim (one σ b o x (Run b (o + 1) ys ∗ F) y f.0 (sat_weaken 𝓤 H 𝓜 σ (assoc∗ 𝓤 (Byte b o y) (Run b (o + 1) ys) F) s)) ∥∥₁_prop (λ t.
      ∥∥₁_map (over ys xs t.0 b (o + 1) (Byte b o x ∗ F) (omega (arith, e)) f.1
      (sat_weaken 𝓤 H 𝓜 t.0 (via 𝓤 ((Byte b o x ∗ Run b (o + 1) ys) ∗ F) (assoc' 𝓤 (Byte b o x) (Run b (o + 1) ys) F) (swap (Byte b o x) (Run b (o + 1) ys) F)) t.2)) (λ u. (
        u.0,
        store t.1 u.1,
        sat_weaken 𝓤 H 𝓜 u.0 (via 𝓤 ((Run b (o + 1) xs ∗ Byte b o x) ∗ F) (assoc' 𝓤 (Run b (o + 1) xs) (Byte b o x) F) (mono_l 𝓤 F (comm∗ 𝓤 (Run b (o + 1) xs) (Byte b o x)))) u.2,
      )))

  -- at the front of a buffer that has room for them
  pub sat_stores : (xs d : List ℕ) (σ : Memory) (b o : ℕ) (F : SProp 𝓤) → length xs ≤ length d → AllFit w8 xs → σ ⊨ Run b o d ∗ F
      → ∥ ((σ' : Memory) × Stores b o xs σ σ' × (σ' ⊨ Run b o xs ∗ (Run b (o + length xs) (drop (length xs) d) ∗ F))) ∥₁
  sat_stores xs d σ b o F l f s =
      let n : ℕ = length xs in
      let e : length (take n d) ≡ n = length-take n d ∙ omega (arith, l) in
      let s₁ : σ ⊨ Run b o (take n d ++ drop n d) ∗ F = subst (λ (c : List ℕ). σ ⊨ Run b o c ∗ F) (sym (take-append-drop n d)) s in
      over (take n d) xs σ b o (Run b (o + n) (drop n d) ∗ F) (sym e) f
      (sat_weaken 𝓤 H 𝓜 σ (via 𝓤 ((Run b o (take n d) ∗ Run b (o + n) (drop n d)) ∗ F) (mono_l 𝓤 F (cut_at 𝓛 𝓜 (take n d) (drop n d) b o (o + n) (omega (arith, e)))) (assoc∗ 𝓤 (Run b o (take n d)) (Run b (o + n) (drop n d)) F)) s₁)
