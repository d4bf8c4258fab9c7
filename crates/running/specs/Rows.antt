-- Values of one type side by side, as a host puts them into a block that the machine gives it: it stores them one by one, by the machine's
-- own store. They are then owned, they are what the machine loads, and the stores lead to one memory. At the closed model.
use Rattle.std.specs.Prelude.{◌≡◌, refl, ℕ, zero, ◌+◌, List, [], ◌∷◌, T, length}
use Rattle.std.proofs.Common.{sym, subst, ◌∙◌}
use Rattle.std.proofs.Math.Logic.{∥∥₁_prop, ∥∥₁_elim, ∥∥₁_map}
use Rattle.std.proofs.Math.Option.{Option, some as just, some-injective}
use base.Fraction.{full_share}
use mir.Syntax.{Ty, ty_array}
use mir.Val.{Val, WT, has_ty}
use base.Logic.{ent, guard, emp, upd, via, assoc∗, assoc', fst∗, mono_l, mono_r, upd_mono, upd_frame}
use base.Fml.{fat}
use prog.Memory.{Memory, size, load_m, store_m, alloc_m}
use prog.Model.{elems}
use ghost.Model as closed
use contract.BorrowModel.{logic₀}
use contract.Closed.{model⁺}
use types.Kit.{‵, raw, ◌⊛◌, given, ◌$◌, ◌∵◌, !, qed, move, use2, split, learn, check, done}
use contract.Monad.{guard→fact}
use contract.Adequate.{sat_upd, sat_fact}
use Rattle.running.specs.Stores as stores
use Rattle.running.specs.Machine.{Pr, ◌∗◌, ◌⊨◌, weaken, swap, in_front, drops}

-- from σ to σ': the values are stored from the offset o on in block b
pub data StoresRow (τ : Ty) (b : ℕ) : (o : ℕ) (vs : List Val) (σ σ' : Memory) → Type 0 where
  none : {o : ℕ} {σ : Memory} → StoresRow τ b o [] σ σ
  store : {o : ℕ} {v : Val} {vs : List Val} {σ σ₁ σ' : Memory} → store_m σ τ b o v ≡ just σ₁ → StoresRow τ b (o + size τ) vs σ₁ σ' → StoresRow τ b o (v ∷ vs) σ σ'

-- they are what the machine loads from there
abbrev pub LoadsRow : Memory → Ty → ℕ → ℕ → List Val → Type 0
LoadsRow σ τ b o [] = Unit {0}
LoadsRow σ τ b o (v ∷ vs) = (load_m σ τ b o ≡ just v) × LoadsRow σ τ b (o + size τ) vs

-- values of the type
abbrev pub Typed : Ty → Val → Type 0
Typed τ v = T (has_ty τ v) × WT v

abbrev pub AllTyped : Ty → List Val → Type 0
AllTyped τ [] = Unit {0}
AllTyped τ (v ∷ vs) = Typed τ v × AllTyped τ vs

-- a value, and some side by side, are owned
abbrev pub ValueAt : Ty → ℕ → ℕ → Val → Pr
ValueAt τ b o v = (closed.H).at full_share τ b o v

abbrev pub Row : Ty → ℕ → ℕ → List Val → Pr
Row τ b o vs = elems closed.𝓤 closed.H full_share τ b o vs

-- and room for a value
abbrev pub RoomAt : Ty → ℕ → ℕ → Pr
RoomAt τ b o = (closed.H).room τ b o

-- ---- the stores lead to one memory
pub store_one : {stored : Option Memory} {σ₁ σ₂ : Memory} → stored ≡ just σ₁ → stored ≡ just σ₂ → σ₁ ≡ σ₂
store_one {σ₁ = σ₁} {σ₂ = σ₂} e f = some-injective σ₁ σ₂ (sym e ∙ f)

pub row_one : {τ : Ty} {b o : ℕ} {vs : List Val} {σ σ' σ'' : Memory} → StoresRow τ b o vs σ σ' → StoresRow τ b o vs σ σ'' → σ' ≡ σ''
row_one none none = refl
row_one {τ} {b} (store {o = o} {vs = vs} e more) (store {σ' = σ''} f more') =
    row_one more (subst (λ (σ : Memory). StoresRow τ b (o + size τ) vs σ σ'') (sym (store_one e f)) more')

-- ---- a new block has room
pub sat_alloc : (σ : Memory) (τ : Ty) (F : Pr) → σ ⊨ F → alloc_m σ τ ⊨ RoomAt τ (length σ) zero ∗ F
sat_alloc σ τ F =
    let N : Pr = model⁺.mem (alloc_m σ τ) in
    let R : Pr = RoomAt τ (length σ) zero in
    let D : Pr = (closed.H).dies τ (length σ) in
    sat_upd closed.𝓤 closed.H model⁺ σ (alloc_m σ τ) F (R ∗ F)
    (via closed.𝓤 (upd closed.𝓤 (N ∗ (R ∗ D)) ∗ F) (mono_l closed.𝓤 F (model⁺.alloc σ τ))
    (via closed.𝓤 (upd closed.𝓤 ((N ∗ (R ∗ D)) ∗ F)) (upd_frame closed.𝓤 (N ∗ (R ∗ D)) F)
    (upd_mono closed.𝓤 (via closed.𝓤 (N ∗ ((R ∗ D) ∗ F)) (assoc∗ closed.𝓤 N (R ∗ D) F) (mono_r closed.𝓤 N (mono_l closed.𝓤 F (fst∗ closed.𝓤 R D)))))))

-- ---- one value is stored into room for it
pub sat_store : (σ : Memory) (τ : Ty) (b o : ℕ) (v : Val) (F : Pr) → Typed τ v → σ ⊨ RoomAt τ b o ∗ F → ∥ ((σ₁ : Memory) × (store_m σ τ b o v ≡ just σ₁) × (σ₁ ⊨ ValueAt τ b o v ∗ F)) ∥₁
sat_store = stores.sat_store logic₀ model⁺

-- ---- as many as there is room for
pub sat_row : (vs : List Val) (σ : Memory) (τ : Ty) (b o : ℕ) (F : Pr) → AllTyped τ vs → σ ⊨ RoomAt (ty_array τ (length vs)) b o ∗ F
    → ∥ ((σ' : Memory) × StoresRow τ b o vs σ σ' × (σ' ⊨ Row τ b o vs ∗ F)) ∥₁
sat_row [] σ τ b o F t s = ∣ (σ, none, weaken σ (mono_l closed.𝓤 F (drops (RoomAt (ty_array τ zero) b o))) s) ∣₁
sat_row (v ∷ vs) σ τ b o F t s =
    let C : Pr = ValueAt τ b o v in
    let R : Pr = RoomAt τ b o in
    let N : Pr = RoomAt (ty_array τ (length vs)) b (o + size τ) in
    let more : Pr = Row τ b (o + size τ) vs in
    ∥∥₁_elim (sat_store σ τ b o v (N ∗ F) t.0 (weaken σ (via closed.𝓤 ((R ∗ N) ∗ F) (mono_l closed.𝓤 F (model⁺.room_uncons τ (length vs) b o)) (assoc∗ closed.𝓤 R N F)) s)) ∥∥₁_prop (λ m.
    ∥∥₁_map (sat_row vs m.0 τ b (o + size τ) (C ∗ F) t.1 (weaken m.0 (swap C N F) m.2)) (λ u. (
      u.0,
      store m.1 u.1,
      weaken u.0 (in_front C more F) u.2,
    )))

-- ---- what is owned is what the machine loads
told : (σ : Memory) (C F : Pr) (φ : Type 0) → ent closed.𝓤 (model⁺.mem σ ∗ C) (guard closed.𝓤 φ (model⁺.mem σ ∗ C)) → σ ⊨ C ∗ F → ∥ φ ∥₁
told σ C F φ h =
    let N : Pr = model⁺.mem σ in
    sat_fact closed.𝓤 closed.H model⁺ σ (C ∗ F) φ
    (via closed.𝓤 ((N ∗ C) ∗ F) (assoc' closed.𝓤 N C F) (via closed.𝓤 (N ∗ C) (fst∗ closed.𝓤 (N ∗ C) F) (via closed.𝓤 (guard closed.𝓤 φ (N ∗ C)) h (guard→fact closed.𝓤 φ (N ∗ C)))))

pub sat_load : (σ : Memory) (τ : Ty) (b o : ℕ) (v : Val) (F : Pr) → σ ⊨ ValueAt τ b o v ∗ F → ∥ (load_m σ τ b o ≡ just v) ∥₁
sat_load σ τ b o v F = told σ (ValueAt τ b o v) F (load_m σ τ b o ≡ just v) (model⁺.at_load σ full_share τ b o v)

loads : (vs : List Val) (σ : Memory) (τ : Ty) (b o : ℕ) → ent closed.𝓤 (model⁺.mem σ ∗ Row τ b o vs) (guard closed.𝓤 (LoadsRow σ τ b o vs) (model⁺.mem σ ∗ Row τ b o vs))
loads [] σ τ b o = qed logic₀ (raw (model⁺.mem σ) ∷ raw (emp closed.𝓤) ∷ []) ∵ check ! tt $ done !
loads (v ∷ vs) σ τ b o =
    qed logic₀ (raw (model⁺.mem σ) ∷ (‵ (fat full_share τ b o v) ⊛ raw (Row τ b (o + size τ) vs)) ∷ []) ∵ move ! (1 ∷ []) $ split ! $ move ! (2 ∷ 0 ∷ []) $
    use2 logic₀ (given (load_m σ τ b o ≡ just v) (raw (model⁺.mem σ) ⊛ ‵ (fat full_share τ b o v))) (model⁺.at_load σ full_share τ b o v) $ learn ! (λ e. split ! $ move ! (0 ∷ 2 ∷ []) $
    use2 logic₀ (given (LoadsRow σ τ b (o + size τ) vs) (raw (model⁺.mem σ) ⊛ raw (Row τ b (o + size τ) vs))) (loads vs σ τ b (o + size τ)) $ learn ! (λ es. split ! $ check ! (e, es) $ move ! (0 ∷ 2 ∷ 1 ∷ []) $ done !))

pub sat_loads_row : (σ : Memory) (τ : Ty) (b o : ℕ) (vs : List Val) (F : Pr) → σ ⊨ Row τ b o vs ∗ F → ∥ LoadsRow σ τ b o vs ∥₁
sat_loads_row σ τ b o vs F = told σ (Row τ b o vs) F (LoadsRow σ τ b o vs) (loads vs σ τ b o)
