-- What a queue hands out lies in slots: every frame of a list hands over, as HandsOver says.
-- A task that has taken an entry has no open request, and settling changes of such a task only its blocks: so none takes twice in a frame, and no entry is written over before the frame ends.
use Rattle.std.specs.Prelude.{ℕ, ◌⊎◌, Bool, cond, List, [], ◌∷◌, ◌++◌, length}
use Rattle.std.proofs.Math.Path.{◌≡◌, refl, sym, ap, subst}
use Rattle.std.proofs.Common.{◌∙◌, inl, inr, eqb-true}
use Rattle.std.proofs.Math.Bool.{true, false}
use native.Mathlib.Omega.{arith}
use Rattle.std.proofs.lemmas.Bool.{eqb-false}
use Rattle.std.proofs.Math.Dec.{eqb}
use Rattle.ledger.specs.Config.{Config, config_in, config_refusal}
use Rattle.ledger.specs.Ledger.{plain, none, dequeue, Task, Ledger, null_task, task, running, set_outcome, set_request, fresh}
use Rattle.ledger.specs.Services.{Code, DEQUEUE, effect}
use Rattle.ledger.specs.Refusals.{fields, call, refusal}
use Rattle.ledger.specs.Session.{open_request, is_open, reissue, Settles, stops, goes_on, accept, Stepped, step, run_from, run}
use Rattle.ledger.specs.Good.{Numbered, Accepted}
use Rattle.ledger.proofs.Theorems.Items.{put_length, at_put_same, at_put_part}
use Rattle.ledger.proofs.Theorems.Checks.{cond_both}
use Rattle.ledger.proofs.Theorems.Parts.{Every, nil, cons, every_to}
use Rattle.ledger.proofs.Theorems.Fresh.{fresh_task_lem}
use Rattle.ledger.proofs.Theorems.Settling.{running_named, settles, ends_closed}
use Rattle.ledger.proofs.Theorems.Sizes.{of_accept, of_reissue, step_settles}
use Rattle.ledger.proofs.Theorems.Configured.{configured}
use Rattle.ledger.proofs.Theorems.Accepted.{accepted}
use Rattle.ledger.proofs.Theorems.Changes.{updates}
use Rattle.ledger.proofs.Theorems.Named.{Named}
use Rattle.ledger.proofs.Theorems.Steps.{any_values, accepts, reissues}
use Rattle.ledger.proofs.Theorems.Kept.{fresh_named, through, named_through, step_kept}
use Rattle.ledger.proofs.Theorems.Sound.Queues.{SoundQueues, queues_kept, queues_fresh}
use Rattle.ledger.proofs.Theorems.Untaken.{Beside, beside, slots, slots_outcome, slots_request, slots_effect}
use Rattle.ledger.proofs.Theorems.Issued.{Takes, Issued, not_t, issued, issued_again}
use Rattle.ledger.proofs.Theorems.HandsOver.{Copy, Asked, TookNone, HandsOver, none_over, untaken_first, taken, taken_first}

-- ---- settling: only tasks with an open request take, and of the others it changes only the blocks

pub record Settling (c : Config) (l l' : Ledger) : Type 0 where
  pub copies : List Copy
  pub over : HandsOver c l l'.queues l'.tasks copies
  pub asked : Every (λ k. is_open (task l k.task).request ≡ true) copies
  pub still : (t : ℕ) → is_open (task l t).request ≡ false → beside (task l' t) ≡ beside (task l t)

-- an issue for task t, whose request is closed, and the settling behind it: the tasks that take are t and tasks that have an open request after the issue
record After (c : Config) (t : ℕ) (l m l' : Ledger) : Type 0 where
  copies : List Copy
  over : HandsOver c l l'.queues l'.tasks copies
  who : Every (Asked t m) copies

issued_first : {c : Config} (t : ℕ) (l m l' : Ledger) → Numbered c.T t → is_open (task l t).request ≡ false → Issued c t l m → Settling c m l' → After c t l m l'
unfolding task
issued_first {c} t l m l' n o i s = go i.did
  where
    rest : Every (Asked t m) s.copies
    rest = every_to (λ k e. inr e) s.asked

    go : (slots m ≡ slots l) ⊎ Takes c t l m → After c t l m l'
    go (inl e) = record { copies = s.copies; over = untaken_first l m s.over e; who = rest }
    go (inr k) =
        let shut : is_open (task m t).request ≡ false = ap (λ (b : Beside). is_open b.request) k.now ∙ o in
        let none : TookNone t s.copies = every_to (λ j e z. let y : ◌≡◌ {A = ℕ} 0 1 = cc in omega arith) s.asked in
        record { copies = taken l m s.over t n k ∷ s.copies; over = taken_first l m s.over t n k i.elsewhere none (s.still t shut); who = cons (inl refl) rest }

-- a reissue: the running task's request is closed and issued again
module _ (c : Config) (l : Ledger) (o : is_open (open_request l) ≡ true) (n : Named c l) (q : SoundQueues c l) where
  abbrev closed : Ledger
  closed = set_request (running l) none l

  closed_now : is_open (task closed (running l)).request ≡ false
  unfolding set_request updates is_open
  closed_now = ap (λ (t : Task). is_open t.request) (at_put_same l.tasks (running l) _ null_task (running_named l o))

  reissued : Issued c (running l) closed (reissue c l)
  unfolding reissue open_request set_request updates
  reissued = issued_again c (running l) (open_request l) closed (rw put_length (running_named l o)) (n.requests (running l)) q

  elsewhere : (u : ℕ) → (u ≡ running l → ⊥) → beside (task (reissue c l) u) ≡ beside (task l u)
  unfolding set_request updates
  elsewhere u z = reissued.elsewhere u z ∙ not_t l.tasks (running l) u _ z

  -- only a task with an open request has one later
  open_before : (u : ℕ) → (u ≡ running l) ⊎ (is_open (task (reissue c l) u).request ≡ true) → is_open (task l u).request ≡ true
  unfolding open_request
  open_before u (inl e) = subst (λ (t : ℕ). is_open (task l t).request ≡ true) (sym e) o
  open_before u (inr h) = go (eqb u (running l)) refl
    where
      go : (b : Bool) → eqb u (running l) ≡ b → is_open (task l u).request ≡ true
      go true e = subst (λ (t : ℕ). is_open (task l t).request ≡ true) (sym (eqb-true u (running l) e)) o
      go false e = sym (ap (λ (b : Beside). is_open b.request) (elsewhere u (eqb-false u (running l) e))) ∙ h

  still_before : (l' : Ledger) → ((t : ℕ) → is_open (task (reissue c l) t).request ≡ false → beside (task l' t) ≡ beside (task (reissue c l) t))
      → (t : ℕ) → is_open (task l t).request ≡ false → beside (task l' t) ≡ beside (task l t)
  unfolding open_request
  still_before l' s t h =
      let other : t ≡ running l → ⊥ = λ e. let y : ◌≡◌ {A = ℕ} 0 1 = cc in omega arith in
      let e = elsewhere t other in
      s t (ap (λ (b : Beside). is_open b.request) e ∙ h) ∙ e

  reissue_first : (l' : Ledger) → Settling c (reissue c l) l' → Settling c l l'
  reissue_first l' s =
      let h = issued_first (running l) closed (reissue c l) l' (rw n.tasks at (running_named l o)) closed_now reissued s in
      record {
        copies = h.copies;
        over = untaken_first l closed h.over (slots_request (running l) none l);
        asked = every_to (λ k e. open_before k.task e) h.who;
        still = still_before l' s.still;
      }

pub settling : {c : Config} {l l' : Ledger} {n : ℕ} → Settles c l n l' → Named c l → SoundQueues c l → Settling c l l'
settling {c} {l} (stops e) n q = record { copies = []; over = none_over l; asked = nil; still = λ t h. refl }
settling {c} {l} {l'} (goes_on o s) n q =
    let k = reissues c (λ v. Unit {0}) l n o in
    reissue_first c l o n q l' (settling s (named_through k (of_reissue c l) n) (through (SoundQueues c) queues_kept k q))

-- ---- a frame

-- m is the ledger before settling: a task that took is the caller, or has an open request there
abbrev Hands : Config → (self : ℕ) (l m l' : Ledger) → Type 0
Hands c self l m l' = (copies : List Copy) × HandsOver c l l'.queues l'.tasks copies × Every (Asked self m) copies

module _ (c : Config) (self a b x : ℕ) (e : List ℕ) (l l' : Ledger) (o : is_open (task l self).request ≡ false) (q : SoundQueues c l) where
  abbrev Effected : Code → Type 0
  Effected k = Accepted c l (record { code = k; self = self; a = a; b = b; x = x; bytes = e }) → length l.tasks ≡ c.T
      → let m = effect k c self a b x e (cond (fields k).service (set_outcome self plain l) l) in Settling c m l' → Hands c self l m l'

  plainly_closed : is_open (task (set_outcome self plain l) self).request ≡ false
  unfolding updates
  plainly_closed = at_put_part (λ (t : Task). is_open t.request) l.tasks self self _ null_task refl ∙ o

  dequeue_effected : Effected DEQUEUE
  unfolding effect fields updates
  dequeue_effected g n s =
      let m = set_outcome self plain l in
      let named = (g.self refl).number in
      let i = issued c self (dequeue a) m (rw (put_length, n) named) g.A q in
      let h = issued_first self m _ l' named plainly_closed i s in
      (h.copies, untaken_first l m h.over (slots_outcome self plain l), h.who)

  effected : (k : Code) → Effected k
  effected k g n s = go (slots_effect k c self a b x e m)
    where
      m : Ledger
      m = cond (fields k).service (set_outcome self plain l) l

      go : (k ≡ DEQUEUE) ⊎ (slots (effect k c self a b x e m) ≡ slots m) → Hands c self l (effect k c self a b x e m) l'
      go (inl d) = subst Effected (sym d) dequeue_effected g n s
      go (inr h) = (s.copies, untaken_first l _ s.over (h ∙ cond_both (λ k. slots k ≡ slots l) (fields k).service _ l (slots_outcome self plain l) refl), every_to (λ k e. inr e) s.asked)

hands_over : (c : Config) (f : List ℕ) (l : Ledger) → Named c l → SoundQueues c l → is_open (open_request l) ≡ false → Hands c (running l) l (accept c f l) (step c f l).ledger
unfolding step accept open_request call
hands_over c f l n q o = go (eqb (refusal c l f) 0) refl
  where
    go : (b : Bool) → eqb (refusal c l f) 0 ≡ b → Hands c (running l) l (accept c f l) (step c f l).ledger
    go true e =
        let z = eqb-true (refusal c l f) 0 e in
        let k = accepts c (λ v. Unit {0}) f l (any_values f) n z in
        let named = named_through k (of_accept c f l) n in
        let s = settling (settles c (accept c f l) named.tasks) named (through (SoundQueues c) queues_kept k q) in
        rw e (effected c _ _ _ _ _ l _ o q _ (accepted c l f n.tasks z) n.tasks s)
    go false e = rw e ([], none_over l, nil)

-- ---- a list of frames

-- what a frame relies on. After every settling the running task has no open request
pub record Ready (c : Config) (l : Ledger) : Type 0 where
  pub named : Named c l
  pub queues : SoundQueues c l
  pub closed : is_open (open_request l) ≡ false

closed_step : (c : Config) (f : List ℕ) (l : Ledger) → length l.tasks ≡ c.T → is_open (open_request l) ≡ false → is_open (open_request (step c f l).ledger) ≡ false
unfolding step
closed_step c f l h o = cond_both (λ (s : Stepped). is_open (open_request s.ledger) ≡ false) (eqb (refusal c l f) 0) _ _ (ends_closed (step_settles c f l h)) o

ready_step : (c : Config) (f : List ℕ) (l : Ledger) → Ready c l → Ready c (step c f l).ledger
ready_step c f l r =
    let k = step_kept c (λ v. Unit {0}) (SoundQueues c) queues_kept f l (any_values f) (r.named, r.queues) in
    record { named = k.0; queues = k.1; closed = closed_step c f l r.named.tasks r.closed }

ready_fresh : (c : Config) → length c.states ≡ c.T → Ready c (fresh c)
unfolding open_request is_open
ready_fresh c h = record { named = fresh_named c h; queues = queues_fresh c; closed = fresh_task_lem (λ t. is_open t.request ≡ false) refl refl c (running (fresh c)) (λ z. refl) }

ready_from : (c : Config) (l : Ledger) (fs : List (List ℕ)) → Ready c l → Ready c (run_from c l fs).0
unfolding run_from
ready_from c l [] r = r
ready_from c l (f ∷ fs) r = ready_from c (step c f l).ledger fs (ready_step c f l r)

pub ready_run : (c : Config) → length c.states ≡ c.T → (fs : List (List ℕ)) → Ready c (run c fs).0
unfolding run
ready_run c h fs = ready_from c (fresh c) fs (ready_fresh c h)

from : (c : Config) (l : Ledger) (fs : List (List ℕ)) (f : List ℕ) → Ready c l
    → let m = (run_from c l fs).0 in Hands c (running m) m (accept c f m) (run_from c l (fs ++ (f ∷ []))).0
unfolding run_from
from c l [] f r = hands_over c f l r.named r.queues r.closed
from c l (d ∷ fs) f r = from c (step c d l).ledger fs f (ready_step c d l r)

-- every frame f, behind every list of frames
pub handed_over : (g : List ℕ) → config_refusal g ≡ 0 → (fs : List (List ℕ)) (f : List ℕ)
    → let c = config_in g in
    let l = (run c fs).0 in
    let l' = (run c (fs ++ (f ∷ []))).0 in
    (copies : List Copy) × HandsOver c l l'.queues l'.tasks copies × Every (Asked (running l) (accept c f l)) copies
unfolding run
handed_over g h fs f = let c = config_in g in from c (fresh c) fs f (ready_fresh c (configured g h).states)
