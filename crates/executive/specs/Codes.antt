-- Which codes are services, which of them are the timers', and the tock value that their X is.
use Rattle.std.specs.Prelude.{ℕ, zero, suc, ◌+◌, ◌<◌, ◌≤◌, ◌≡◌, refl, Bool, true, false, ◌⊎◌, List, [], ◌∷◌, leb, eqb, length}
use Rattle.std.proofs.Common.{sym, ap, ◌∙◌, subst, inl, inr, le_antisymm, arith, ne_eqb, eqb-true, leb-true, leb-false}
use Rattle.std.proofs.lemmas.Bool.{eqb-false}
use Rattle.std.proofs.Math.ListN.{get_or-append}
use Rattle.ledger.specs.Lists.{at}
use Rattle.ledger.specs.Config.{Config}
use Rattle.ledger.specs.Ledger.{Ledger}
use Rattle.ledger.specs.Time.{TockValue, tock_value, long_tock_value}
use Rattle.ledger.specs.Services.{Code, WAIT, SIGNAL, PEND, SEND, SENDW, RECEIVE, DEQUEUE, ENQUEUE, RESUME, SUSPEND, TERMINATE, EXECUTE, DELAY, TIMER, PURGE, TICK, EXIT, SEASON_TIMER, start_timer, effect}
use Rattle.ledger.specs.Refusals.{fields, code_at, value_x, asked_by}
use Rattle.ledger.proofs.Theorems.Parts.{Every, nil, cons, every_at}
use Rattle.ledger.proofs.Theorems.Checks.{never}
use Rattle.ledger.proofs.Theorems.WithoutSeason.{value_word}
use Rattle.tables.specs.Layout.{OneOf}
use Rattle.command.specs.Codes.{past}
use Rattle.executive.specs.Meant.{value_of}
use Rattle.ledger.specs.Good.{GoodX}

pub below : (n k : ℕ) → k ≤ n + 1 → (k ≡ n + 1 → ⊥) → k ≤ n
below n k h e = omega arith

-- ---- the services are all codes but $10 and $11

abbrev fifteen : List Code
fifteen = WAIT ∷ SIGNAL ∷ PEND ∷ SEND ∷ SENDW ∷ RECEIVE ∷ DEQUEUE ∷ ENQUEUE ∷ RESUME ∷ SUSPEND ∷ TERMINATE ∷ EXECUTE ∷ DELAY ∷ TIMER ∷ PURGE ∷ []

each_serves : Every (λ k. (fields k).service ≡ true) fifteen
unfolding fields
each_serves = cons refl (cons refl (cons refl (cons refl (cons refl (cons refl (cons refl (cons refl (cons refl (cons refl (cons refl (cons refl (cons refl (cons refl (cons refl nil))))))))))))))

serves : (n : ℕ) → 1 ≤ n → n ≤ 15 → (fields (code_at n)).service ≡ true
unfolding code_at at
serves zero lo hi = absurd (omega arith)
serves (suc n) lo hi = rw (get_or-append fifteen (TICK ∷ EXIT ∷ SEASON_TIMER ∷ []) TICK n (omega arith)) (every_at each_serves n TICK (omega arith))

pub no_service : (n : ℕ) → OneOf 18 n → (fields (code_at n)).service ≡ false → (16 ≤ n) × (n ≤ 17)
unfolding code_at at fields
no_service n one h = (go (leb n 15) refl, below 17 n one.1 (λ e. never (sym (subst (λ (k : ℕ). (fields (code_at k)).service ≡ false) e h))))
  where
    go : (b : Bool) → leb n 15 ≡ b → 16 ≤ n
    go true e = never (sym h ∙ serves n one.0 (leb-true n 15 e))
    go false e = leb-false n 15 e

-- ---- the timers' codes: $0D to $0F and $12

pub record TimerCode (k : ℕ) : Type 0 where
  pub from : 13 ≤ k
  pub upto : k ≤ 18
  pub not16 : k ≡ 16 → ⊥
  pub not17 : k ≡ 17 → ⊥

-- a service from $0D on is one of them
pub timer_code : (n : ℕ) → 13 ≤ n → n ≤ 18 → (fields (code_at n)).service ≡ true → TimerCode n
unfolding code_at at fields
timer_code n lo hi s = record {
  from = lo;
  upto = hi;
  not16 = λ e. never (subst (λ (k : ℕ). (fields (code_at k)).service ≡ true) e s);
  not17 = λ e. never (subst (λ (k : ℕ). (fields (code_at k)).service ≡ true) e s);
}

-- the tock value that X is, by its width
pub asked_short : (k : ℕ) (f : List ℕ) → (k ≡ 18 → ⊥) → asked_by k f ≡ tock_value (value_of (code_at k) f)
asked_short k f h = rw (ne_eqb k 18 h) (ap tock_value (sym (value_word k f h)))

pub asked_long : (k : ℕ) (f : List ℕ) → k ≡ 18 → asked_by k f ≡ long_tock_value (value_of (code_at k) f)
unfolding fields code_at at value_x
asked_long k f e = ap (λ (n : ℕ). asked_by n f) e ∙ ap (λ (n : ℕ). long_tock_value (value_of (code_at n) f)) (sym e)

-- ---- a timer that is started, and no delay: $0E or $12
module _ (code : ℕ) (k : TimerCode code) (not13 : code ≡ 13 → ⊥) (not15 : code ≡ 15 → ⊥) where
  starts_which : (code ≡ 14) ⊎ (code ≡ 18)
  starts_which = go (eqb code 18) refl
    where
      go : (z : Bool) → eqb code 18 ≡ z → (code ≡ 14) ⊎ (code ≡ 18)
      go true e = inr (eqb-true code 18 e)
      go false e = inl (le_antisymm (below 14 code (below 15 code (below 16 code (below 17 code k.upto (eqb-false code 18 e)) k.not17) k.not16) not15) (past 13 code k.from not13))

  pub starts_is : (c : Config) (self a b : ℕ) (f e : List ℕ) (L : Ledger) → start_timer a b (asked_by code f) L ≡ effect (code_at code) c self a b (value_of (code_at code) f) e L
  unfolding effect code_at at
  starts_is c self a b f e L = go starts_which
    where
      go : (code ≡ 14) ⊎ (code ≡ 18) → start_timer a b (asked_by code f) L ≡ effect (code_at code) c self a b (value_of (code_at code) f) e L
      go (inl n) = ap (λ (v : TockValue). start_timer a b v L) (asked_short code f (λ z. omega (arith, n, z))) ∙ ap (λ (i : ℕ). effect (code_at i) c self a b (value_of (code_at code) f) e L) (sym n)
      go (inr n) = ap (λ (v : TockValue). start_timer a b v L) (asked_long code f n) ∙ ap (λ (i : ℕ). effect (code_at i) c self a b (value_of (code_at code) f) e L) (sym n)

  pub starts_free : (c : Config) (L : Ledger) (a b x : ℕ) → GoodX c L (fields (code_at code)).X a b x → length L.timers < c.R
  unfolding fields code_at at
  starts_free c L a b x g = go starts_which
    where
      go : (code ≡ 14) ⊎ (code ≡ 18) → length L.timers < c.R
      go (inl n) = (subst (λ (i : ℕ). GoodX c L (fields (code_at i)).X a b x) n g).free
      go (inr n) = (subst (λ (i : ℕ). GoodX c L (fields (code_at i)).X a b x) n g).free
