-- The machine is deterministic: from one memory a routine has one end, and a host's stores lead to one memory; a memory holds
-- one list of bytes of a length at a place. So what some run does every run does.
use Rattle.std.specs.Prelude.{ℕ, zero, ◌+◌, ◌≡◌, refl, List, [], ◌∷◌, length}
use Rattle.std.proofs.Common.{sym, ap, ap₂, ◌∙◌, subst, arith}
use Rattle.std.proofs.Math.Option.{Option, none as nothing, some as just}
use Rattle.std.specs.Int.{Width, w8}
use mir.Val.{Val, vint, as_int}
use prog.Memory.{Memory}
use prog.Machine.{done as ended}
use prog.Routine.{Routine, ends-one, step}
use Rattle.running.specs.Memories.{Loads}
use Rattle.running.specs.Stores.{Stores, none, store}

-- ---- values
unfoldable inside : {A : Type 0} → A → Option A → A
inside x nothing = x
inside x (just y) = y

just_one : {A : Type 0} {x y : A} → ◌≡◌ {A = Option A} (just x) (just y) → x ≡ y
unfolding inside
just_one {x = x} e = ap (inside x) e

unfoldable number_of : Val → ℕ
number_of v = as_int zero v (λ _ k. k)

pub number_one : (w : Width) {m n : ℕ} → ◌≡◌ {A = Val} (vint w m) (vint w n) → m ≡ n
unfolding number_of
number_one w e = ap number_of e

-- ---- bytes
pub loads_one : (σ : Memory) (b o : ℕ) (xs ys : List ℕ) → length xs ≡ length ys → Loads σ b o xs → Loads σ b o ys → xs ≡ ys
loads_one σ b o [] [] e p q = refl
loads_one σ b o [] (y ∷ ys) e p q = absurd (omega (arith, e))
loads_one σ b o (x ∷ xs) [] e p q = absurd (omega (arith, e))
loads_one σ b o (x ∷ xs) (y ∷ ys) e p q = ap₂ ◌∷◌ (number_one w8 (just_one (sym p.0 ∙ q.0))) (loads_one σ b (o + 1) xs ys (omega (arith, e)) p.1 q.1)

-- ---- stores
pub stores_one : {b o : ℕ} {xs : List ℕ} {σ σ' σ'' : Memory} → Stores b o xs σ σ' → Stores b o xs σ σ'' → σ' ≡ σ''
stores_one none none = refl
stores_one {b} (store {o = o} {x = x} {xs = xs} {σ = σ} {σ₁ = σ₁} e more) (store {σ₁ = σ₁'} {σ' = σ''} e' more') =
    stores_one more (subst (λ (τ : Memory). Stores b (o + 1) xs τ σ'') (sym (just_one (sym e ∙ e'))) more')

-- ---- runs
pub run_one : (ρ : Routine) (vs : List Val) (σ : Memory) (n n' : ℕ) {v v' : Val} {σ₁ σ₁' : Memory}
    → step ρ n vs σ ≡ ended (v, σ₁) → step ρ n' vs σ ≡ ended (v', σ₁') → (v ≡ v') × (σ₁ ≡ σ₁')
run_one ρ vs σ n n' {v} {v'} {σ₁} {σ₁'} e e' =
    let one : ◌≡◌ {A = Val × Memory} (v, σ₁) (v', σ₁') = ends-one ρ vs σ (v, σ₁) (v', σ₁') (n, e) (n', e') in
    (ap (λ (x : Val × Memory). x.0) one, ap (λ (x : Val × Memory). x.1) one)
