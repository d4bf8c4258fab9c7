-- A rule that every change keeps is kept by every step; if it holds of the fresh ledger, it holds after every list of frames.
use Prim.Native.Nat.{ℕ, zero, suc, ◌*◌}
use Rattle.std.specs.Prelude.{◌≡◌, Bool, List, length}
use Rattle.std.proofs.Math.Path.{refl}
use Rattle.std.proofs.Common.{sym, ◌∙◌, ap, subst, eqb-true}
use Rattle.std.proofs.Math.Bool.{true, false}
use Rattle.std.proofs.Math.Dec.{eqb}
use Rattle.ledger.specs.Config.{Config}
use Rattle.ledger.specs.Time.{TockValue}
use Rattle.ledger.specs.Ledger.{Ledger, task, mailbox, fresh}
use Rattle.ledger.specs.Refusals.{refusal}
use Rattle.ledger.specs.Session.{open_request, is_open, reissue, settle, accept, step, run_from, run}
use Rattle.ledger.proofs.Theorems.Parts.{Every, nil, cons}
use Rattle.ledger.proofs.Theorems.Sizes.{sizes, sizes_of, of_accept, of_reissue, of_fresh}
use Rattle.ledger.proofs.Theorems.Fresh.{fresh_task_lem, fresh_mailbox}
use Rattle.ledger.proofs.Theorems.Changes.{Asks, Sent, Change, Changes, start, ◌⨾◌}
use Rattle.ledger.proofs.Theorems.Named.{Timed, Named, requests_kept, timed_kept, sent_kept}
use Rattle.ledger.proofs.Theorems.Steps.{Values, any_values, accepts, reissues}

pub fresh_named : (c : Config) → length c.states ≡ c.T → Named c (fresh c)
unfolding sizes sizes_of fresh
fresh_named c h = record {
  tasks = ap (λ s. s.tasks) (of_fresh c h);
  requests = λ t. fresh_task_lem (λ u. Asks c u.request) tt tt c t (λ z. tt);
  timers = nil;
  messages = λ t. subst (Every (Sent c)) (sym (fresh_mailbox c t)) nil;
}

pub through : {c : Config} {X : TockValue → Type 0} (P : Ledger → Type 0) → ((l l' : Ledger) → Change c X l l' → P l → P l') → {l l' : Ledger} → Changes c X l l' → P l → P l'
through P change start p = p
through P change (k ⨾ s) p = change _ _ s (through P change k p)

pub named_through : {c : Config} {X : TockValue → Type 0} {l l' : Ledger} → Changes c X l l' → sizes l' ≡ sizes l → Named c l → Named c l'
unfolding sizes
named_through {c} k e n = record {
  tasks = ap (λ s. s.tasks) e ∙ n.tasks;
  requests = through (λ l. (t : ℕ) → Asks c (task l t).request) (λ l l' s. requests_kept s) k n.requests;
  timers = through (λ l. Every (Timed c) l.timers) (λ l l' s. timed_kept s) k n.timers;
  messages = through (λ l. (t : ℕ) → Every (Sent c) (mailbox l t)) (λ l l' s. sent_kept s) k n.messages;
}

-- before settling
pub accept_named : (c : Config) (f : List ℕ) (l : Ledger) → Named c l → refusal c l f ≡ 0 → Named c (accept c f l)
accept_named c f l n z = named_through (accepts c (λ v. Unit {0}) f l (any_values f) n z) (of_accept c f l) n

module _ (c : Config) (X : TockValue → Type 0) (P : Ledger → Type 0) (change : (l l' : Ledger) → Change c X l l' → P l → P l') where
  -- with what the steps rely on
  abbrev pub Holds : Ledger → Type 0
  Holds l = Named c l × P l

  settle_kept : (k : ℕ) (l : Ledger) → Holds l → Holds (settle k c l).ledger
  unfolding settle
  settle_kept zero l h = h
  settle_kept (suc k) l h = go (is_open (open_request l)) refl (λ m. settle_kept k (reissue c l) m)
    where
      go : (b : Bool) → is_open (open_request l) ≡ b → (Holds (reissue c l) → Holds (settle k c (reissue c l)).ledger) → Holds (settle (suc k) c l).ledger
      go false e ih = rw (e, settle) h
      go true e ih = let s = reissues c X l h.0 e in rw (e, settle) (ih (named_through s (of_reissue c l) h.0, through P change s h.1))

  pub step_kept : (f : List ℕ) (l : Ledger) → Values X f → Holds l → Holds (step c f l).ledger
  unfolding step
  step_kept f l x h = go (eqb (refusal c l f) 0) refl
    where
      go : (b : Bool) → eqb (refusal c l f) 0 ≡ b → Holds (step c f l).ledger
      go true e =
          let s = accepts c X f l x h.0 (eqb-true (refusal c l f) 0 e) in
          rw e (settle_kept (2 * c.T) (accept c f l) (named_through s (of_accept c f l) h.0, through P change s h.1))
      go false e = rw e h

  run_from_kept : (l : Ledger) {fs : List (List ℕ)} → Every (Values X) fs → Holds l → Holds (run_from c l fs).0
  unfolding run_from
  run_from_kept l nil h = h
  run_from_kept l (cons {x = f} x xs) h = run_from_kept (step c f l).ledger xs (step_kept f l x h)

  pub kept : length c.states ≡ c.T → P (fresh c) → {fs : List (List ℕ)} → Every (Values X) fs → P (run c fs).0
  unfolding run
  kept h p xs = (run_from_kept (fresh c) xs (fresh_named c h, p)).1
