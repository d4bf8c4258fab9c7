-- There is one answer to every call, each of its three kinds comes exactly where it should, and so it is with what a C function leaves.
use Rattle.std.specs.Prelude.{ℕ, ◌%◌, ◌<◌, ◌≡◌, refl, Bool, true, false, List, ltb, Option, Some, None, Result, Ok, Err}
use Rattle.std.proofs.Common.{sym, ap, ◌∙◌, subst, ⊎_elim, mod-lt, eq-or-lt_of_le, arith, ltb-true, ltb-false}
use Rattle.refusals.specs.declared.Refusal.{Refusal}
use Rattle.refusals.specs.declared.Refusal.TheVariants as refusal
use Rattle.refusals.specs.Numbers.{number_of}
use Rattle.starts.specs.declared.Cycle.{Cycle}
use Rattle.starts.specs.Starts.{Taken, Smallest, Valid, Answers, Gives, Leaves}
use Rattle.starts.specs.Theorems.{Exactly, Told}
use Rattle.starts.proofs.Collisions.{taken_alike}

module _ (ts : List Cycle) (p : ℕ) where
  -- the starts below the period tell of all
  pub all_taken : Valid ts p → ((e : ℕ) → e < p → Taken ts p e) → Answers ts p (Ok None)
  all_taken v h = (v, λ s. taken_alike ts p v s (h (s % p) (mod-lt s v.new.low)))

  -- two smallest starts are the same
  apart : {A : Type 0} (s r : ℕ) → Smallest ts p s → Smallest ts p r → s < r → A
  apart s r a b h = absurd (a.free (b.least s h))

  same : (s r : ℕ) → Smallest ts p s → Smallest ts p r → s ≡ r
  same s r a b = go (ltb s r) refl
    where
      go : (z : Bool) → ltb s r ≡ z → s ≡ r
      go true e = apart s r a b (ltb-true s r e)
      go false e = ⊎_elim (λ q. sym q) (λ k. apart r s b a k) (eq-or-lt_of_le (ltb-false s r e))

  -- two answers to one call are the same
  pub answers_agree : (a b : Result (Option ℕ) Refusal) → Answers ts p a → Answers ts p b → a ≡ b
  answers_agree (Ok (Some s)) (Ok (Some r)) x y = ap (λ (m : ℕ). Ok (Some m)) (same s r x.1 y.1)
  answers_agree (Ok (Some s)) (Ok None) x y = absurd (x.1.free (y.1 s))
  answers_agree (Ok (Some s)) (Err n) x y = absurd (y.0 x.0)
  answers_agree (Ok None) (Ok (Some r)) x y = absurd (y.1.free (x.1 r))
  answers_agree (Ok None) (Ok None) x y = refl
  answers_agree (Ok None) (Err n) x y = absurd (y.0 x.0)
  answers_agree (Err m) (Ok (Some r)) x y = absurd (x.0 y.0)
  answers_agree (Err m) (Ok None) x y = absurd (x.0 y.0)
  answers_agree (Err m) (Err n) x y = ap Err (x.1 ∙ sym y.1)

  -- each kind of answer comes exactly where it should
  pub exactly : (a : Result (Option ℕ) Refusal) → Answers ts p a → Exactly ts p a
  exactly a x =
      record {
        turned_away_lem = ((λ e. (subst (Answers ts p) e x).0), (λ h. answers_agree a (Err refusal.Cycles) x (h, refl)));
        says_none = ((λ e. subst (Answers ts p) e x), (λ h. answers_agree a (Ok None) x h));
        smallest = λ s. ((λ e. subst (Answers ts p) e x), (λ h. answers_agree a (Ok (Some s)) x h));
      }

  -- two C functions that leave the answer leave the same
  gives_agree : (a : Result (Option ℕ) Refusal) (old n m r u : ℕ) → Gives a old n r → Gives a old m u → (r ≡ u) × (n ≡ m)
  gives_agree (Ok (Some s)) old n m r u x y = (x.0 ∙ sym y.0, x.1 ∙ sym y.1)
  gives_agree (Ok None) old n m r u x y = (x.0 ∙ sym y.0, x.1 ∙ sym y.1)
  gives_agree (Err k) old n m r u x y = (x.0 ∙ sym y.0, x.1 ∙ sym y.1)

  pub leaves_agree : (old n m r u : ℕ) → Leaves ts p old n r → Leaves ts p old m u → (r ≡ u) × (n ≡ m)
  leaves_agree old n m r u x y =
      gives_agree y.answer old n m r u
      (subst (λ (a : Result (Option ℕ) Refusal). Gives a old n r) (answers_agree x.answer y.answer x.right y.right) x.given) y.given

  -- what is returned and what is left says which answer it is
  pub leaves_told : (old new r : ℕ) → Leaves ts p old new r → Told ts p old new r
  leaves_told old new r l = go l.answer l.right l.given
    where
      go : (a : Result (Option ℕ) Refusal) → Answers ts p a → Gives a old new r → Told ts p old new r
      go (Ok (Some s)) x g =
          record {
            turned_away_lem = ((λ e. absurd (omega (arith, e, g.0))), (λ h. absurd (h x.0)));
            says_none = ((λ e. absurd (omega (arith, e, g.0))), (λ h. absurd (x.1.free (h.1 s))));
            smallest = λ t. (
              (λ e. subst (λ (n : ℕ). Valid ts p × Smallest ts p n) (sym g.1 ∙ e.1) x),
              (λ h. (g.0, g.1 ∙ same s t x.1 h.1)),
            );
            unwritten = λ n. absurd (n g.0);
          }
      go (Ok None) x g =
          record {
            turned_away_lem = ((λ e. absurd (omega (arith, e, g.0))), (λ h. absurd (h x.0)));
            says_none = ((λ e. x), (λ h. g.0));
            smallest = λ t. ((λ e. absurd (omega (arith, e.0, g.0))), (λ h. absurd (h.1.free (x.1 t))));
            unwritten = λ n. g.1;
          }
      go (Err k) x g =
          let r31 : r ≡ 31 = g.0 ∙ ap number_of x.1 in
          record {
            turned_away_lem = ((λ e. x.0), (λ h. r31));
            says_none = ((λ e. absurd (omega (arith, e, r31))), (λ h. absurd (x.0 h.0)));
            smallest = λ t. ((λ e. absurd (omega (arith, e.0, r31))), (λ h. absurd (x.0 h.0)));
            unwritten = λ n. g.1;
          }
