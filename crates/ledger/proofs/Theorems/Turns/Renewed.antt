-- A tock and a test that at most one timer passes: what is left of it.
use Rattle.std.specs.Prelude.{ℕ, ◌≡◌, Bool, eqb}
use Rattle.std.proofs.Math.Path.{refl, ap}
use Rattle.std.proofs.Common.{◌∙◌}
use Rattle.std.proofs.Math.Bool.{true, false, cond}
use mathlib.Core.List.{List, [], ◌∷◌}
use Rattle.ledger.specs.Lists.{keep, insert_by}
use Rattle.ledger.specs.Ledger.{Timer}
use Rattle.ledger.proofs.Theorems.Keeps.{keep_insert_by_other, keep_insert_by_only}
use Rattle.ledger.proofs.Theorems.Tocks.{again, renew, renew_all, renew_cases}

module _ (p : Timer → Bool) (n : ℕ) (p-again : (t : Timer) → p (again n t) ≡ p t) where
  renew_other : (t : Timer) (ts : List Timer) → p t ≡ false → keep p (renew n t ts) ≡ keep p ts
  renew_other t ts h = renew_cases (λ us. keep p us ≡ keep p ts) n t ts refl (λ z. keep_insert_by_other p (λ t. t.due) (again n t) (p-again t ∙ h) ts)

  -- none of those due passes
  pub renew_all_others : (ds ts : List Timer) → keep p ds ≡ [] → keep p (renew_all n ds ts) ≡ keep p ts
  unfolding keep renew_all
  renew_all_others [] ts h = refl
  renew_all_others (d ∷ ds) ts h = go (p d) refl h (λ k. renew_all_others ds (renew n d ts) k)
    where
      go : (b : Bool) → p d ≡ b → cond b (d ∷ keep p ds) (keep p ds) ≡ [] → (keep p ds ≡ [] → keep p (renew_all n ds (renew n d ts)) ≡ keep p (renew n d ts))
          → keep p (renew_all n ds (renew n d ts)) ≡ keep p ts
      go true e k ih = cc
      go false e k ih = ih k ∙ renew_other d ts e

  renew_only : (t : Timer) (ts : List Timer) → p t ≡ true → keep p ts ≡ [] → keep p (renew n t ts) ≡ cond (eqb t.period 0) [] (again n t ∷ [])
  unfolding renew
  renew_only t ts h e = go (eqb t.period 0)
    where
      go : (b : Bool) → keep p (cond b ts (insert_by (λ t. t.due) (again n t) ts)) ≡ cond b [] (again n t ∷ [])
      go true = e
      go false = keep_insert_by_only p (λ t. t.due) (again n t) ts (p-again t ∙ h) e

  -- one of them does: it is inserted again if it is cyclic
  pub renew_all_only : (ds ts : List Timer) (t : Timer) → keep p ds ≡ t ∷ [] → keep p ts ≡ [] → keep p (renew_all n ds ts) ≡ cond (eqb t.period 0) [] (again n t ∷ [])
  unfolding keep renew_all
  renew_all_only [] ts t h e = cc
  renew_all_only (d ∷ ds) ts t h e = go (p d) refl h (λ k z. renew_all_only ds (renew n d ts) t k z)
    where
      go : (b : Bool) → p d ≡ b → cond b (d ∷ keep p ds) (keep p ds) ≡ t ∷ [] → (keep p ds ≡ t ∷ [] → keep p (renew n d ts) ≡ [] → keep p (renew_all n ds (renew n d ts)) ≡ cond (eqb t.period 0) [] (again n t ∷ []))
          → keep p (renew_all n ds (renew n d ts)) ≡ cond (eqb t.period 0) [] (again n t ∷ [])
      go true q k ih =
          let none : keep p ds ≡ [] = cc in
          let this : d ≡ t = cc in
          renew_all_others ds (renew n d ts) none ∙ renew_only d ts q e ∙ ap (λ u. cond (eqb u.period 0) [] (again n u ∷ [])) this
      go false q k ih = ih k (renew_other d ts q ∙ e)
