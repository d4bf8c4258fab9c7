-- The least number below a bound without a property.
use Rattle.std.specs.Prelude.{ℕ, zero, suc, ◌+◌, ◌≤◌, ◌<◌, ◌≡◌, Bool, true, false, cond, ◌↔◌}
use Rattle.std.proofs.Common.{sym, subst, ⊎_elim, eq-or-lt_of_le, arith}
use Rattle.starts.specs.Decided.{Decides}

-- r is the least number below p without the property, or p where there is none
pub record Least (P : ℕ → Type 0) (p r : ℕ) : Type 0 where
  pub within : r ≤ p
  pub before : (e : ℕ) → e < r → P e
  pub stops : r < p → P r → ⊥

pub least_iff : {P Q : ℕ → Type 0} {p r : ℕ} → ((e : ℕ) → P e ↔ Q e) → Least P p r → Least Q p r
least_iff i l =
    record {
      within = l.within;
      before = λ e h. (i e).0 (l.before e h);
      stops = λ h q. l.stops h ((i _).1 q);
    }

-- computed: the least of s to s + n - 1 that fails the test, or s + n
unfoldable pub least_from : (ℕ → Bool) → ℕ → ℕ → ℕ
least_from f zero s = s
least_from f (suc n) s = cond (f s) (least_from f n (suc s)) s

pub least_from_lem : (f : ℕ → Bool) (P : ℕ → Type 0) → ((s : ℕ) → Decides (f s) (P s)) → (n s p : ℕ) → s + n ≡ p →
    ((e : ℕ) → e < s → P e) → Least P p (least_from f n s)
unfolding least_from
least_from_lem f P d zero s p h b =
    record { within = omega arith; before = b; stops = λ l. absurd (omega arith) }
least_from_lem f P d (suc n) s p h b = go (λ c. least_from_lem f P d n (suc s) p (omega arith) (more c)) (f s) (d s)
  where
    more : P s → (e : ℕ) → e < suc s → P e
    more c e l = ⊎_elim (λ q. subst P (sym q) c) (λ k. b e k) (eq-or-lt_of_le (le_of e l))
      where
        le_of : (e : ℕ) → e < suc s → e ≤ s
        le_of e l = omega arith

    go : (P s → Least P p (least_from f n (suc s))) → (x : Bool) → Decides x (P s) → Least P p (cond x (least_from f n (suc s)) s)
    go r true c = r c
    go r false c = record { within = omega arith; before = b; stops = λ l. c }
