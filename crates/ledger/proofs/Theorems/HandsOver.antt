-- What it means that a frame hands over: the entries that it adds to what the queues handed out are the fronts of the slots of the tasks that took them, as these are after the frame.
-- The laws are for a frame taken apart: what happens first, in front of what the rest hands over.
use Rattle.std.specs.Prelude.{ℕ, ◌≡◌, ◌⊎◌, Bool}
use Rattle.std.proofs.Math.Path.{refl, ap}
use Rattle.std.proofs.Common.{sym, ◌∙◌, subst, eqb-true}
use Rattle.std.proofs.Math.Bool.{true, false, cond}
use mathlib.Core.List.{List, [], ◌∷◌, ◌++◌, map, append_assoc, append-nil}
use Rattle.std.proofs.lemmas.Bool.{eqb-false}
use Rattle.std.proofs.Math.Dec.{eqb}
use Rattle.std.proofs.Math.ListN.{take, drop}
use Rattle.std.proofs.Math.Seq.{take_at, drop_at}
use Rattle.ledger.specs.Lists.{at, keep}
use Rattle.ledger.specs.Config.{Config}
use Rattle.ledger.specs.Ledger.{entry, Task, Queue, Ledger, null_task, empty_queue, task, queue}
use Rattle.ledger.specs.Services.{shape, copy_into}
use Rattle.ledger.specs.Session.{is_open}
use Rattle.ledger.specs.Good.{Numbered}
use Rattle.ledger.proofs.Theorems.Parts.{Every, nil, cons, every_to, every_both}
use Rattle.ledger.proofs.Theorems.Untaken.{Beside, beside, view, Slots, slots}
use Rattle.ledger.proofs.Theorems.Issued.{Takes}

-- an entry that a task took from a queue
pub record Copy : Type 0 where
  pub task : ℕ
  pub queue : ℕ
  pub bytes : List ℕ

-- the entries among them that came from queue q
abbrev pub entries_from : ℕ → List Copy → List (List ℕ)
entries_from q ks = map (λ k. k.bytes) (keep (λ k. eqb k.queue q) ks)

-- the task that took is task t, or has an open request in the ledger m
abbrev pub Asked : (t : ℕ) (m : Ledger) → Copy → Type 0
Asked t m k = (k.task ≡ t) ⊎ (is_open (task m k.task).request ≡ true)

-- task t took none of them
abbrev pub TookNone : ℕ → List Copy → Type 0
TookNone t ks = Every (λ k. k.task ≡ t → ⊥) ks

abbrev pub NoTaskTwice : List Copy → Type 0
NoTaskTwice [] = Unit {0}
NoTaskTwice (k ∷ ks) = TookNone k.task ks × NoTaskTwice ks

-- of the tasks after a frame: the slot of the task that took begins with the entry, as wide as one of its queue; its other bytes are as in the ledger before; and the task's outcome is the entry
pub record Stands (c : Config) (l : Ledger) (tasks : List Task) (k : Copy) : Type 0 where
  pub by : Numbered c.T k.task
  pub from : Numbered c.Q k.queue
  pub front : take (shape c k.queue).width (at tasks k.task null_task).slot ≡ k.bytes
  pub behind : drop (shape c k.queue).width (at tasks k.task null_task).slot ≡ drop (shape c k.queue).width (task l k.task).slot
  pub outcome : (at tasks k.task null_task).outcome ≡ entry k.bytes

-- a frame led from the ledger l to these queues and tasks: these are the entries that it handed over, in order of copying
pub record HandsOver (c : Config) (l : Ledger) (queues : List Queue) (tasks : List Task) (copies : List Copy) : Type 0 where
  -- what each queue handed out grew by those of them that came from it
  pub handed : (q : ℕ) → (at queues q empty_queue).handed_out ≡ (queue l q).handed_out ++ entries_from q copies
  -- each stands in its task's slot, and no task took two
  pub stand : Every (Stands c l tasks) copies
  pub no_task_twice : NoTaskTwice copies
  -- the slots of all other tasks are as before
  pub others : (t : ℕ) → TookNone t copies → (at tasks t null_task).slot ≡ (task l t).slot

-- ---- nothing is handed over; what happens first, in front of what the rest of the frame hands over

pub none_over : {c : Config} (l : Ledger) → HandsOver c l l.queues l.tasks []
unfolding keep task queue
none_over l = record { handed = λ q. sym (append-nil _); stand = nil; no_task_twice = tt; others = λ t n. refl }

module _ {c : Config} (l m : Ledger) {queues : List Queue} {tasks : List Task} {ks : List Copy} (h : HandsOver c m queues tasks ks) where
  -- nothing is taken first
  pub untaken_first : slots m ≡ slots l → HandsOver c l queues tasks ks
  unfolding view
  untaken_first e = record {
    handed = λ q. h.handed q ∙ ap (λ (s : Slots). s.handed q ++ entries_from q ks) e;
    stand = every_to (λ k s. record { by = s.by; from = s.from; front = s.front; behind = s.behind ∙ ap (λ (w : Slots). drop (shape c k.queue).width (w.slot k.task)) e; outcome = s.outcome }) h.stand;
    no_task_twice = h.no_task_twice;
    others = λ t n. h.others t n ∙ ap (λ (s : Slots). s.slot t) e;
  }

  -- task t takes first, and takes none later: its slot and its outcome stay as they then are
  module _ (t : ℕ) (n : Numbered c.T t) (s : Takes c t l m) where
    abbrev pub taken : Copy
    taken = record { task = t; queue = s.from; bytes = s.bytes }

    entries_cons : (q : ℕ) → entries_from q (taken ∷ ks) ≡ cond (eqb s.from q) (s.bytes ∷ entries_from q ks) (entries_from q ks)
    unfolding keep
    entries_cons q = go (eqb s.from q)
      where
        go : (b : Bool) → map (λ k. k.bytes) (cond b (taken ∷ keep (λ k. eqb k.queue q) ks) (keep (λ k. eqb k.queue q) ks)) ≡ cond b (s.bytes ∷ entries_from q ks) (entries_from q ks)
        go true = refl
        go false = refl

    handed_first : (q : ℕ) → (queue m q).handed_out ++ entries_from q ks ≡ (queue l q).handed_out ++ entries_from q (taken ∷ ks)
    handed_first q = go (eqb s.from q) refl ∙ ap (λ (es : List (List ℕ)). (queue l q).handed_out ++ es) (sym (entries_cons q))
      where
        go : (b : Bool) → eqb s.from q ≡ b → (queue m q).handed_out ++ entries_from q ks ≡ (queue l q).handed_out ++ cond b (s.bytes ∷ entries_from q ks) (entries_from q ks)
        go true i =
            let out : (queue m q).handed_out ≡ (queue l q).handed_out ++ (s.bytes ∷ []) = subst (λ (p : ℕ). (queue m p).handed_out ≡ (queue l p).handed_out ++ (s.bytes ∷ [])) (eqb-true s.from q i) s.handed in
            ap (λ (es : List (List ℕ)). es ++ entries_from q ks) out ∙ append_assoc (queue l q).handed_out (s.bytes ∷ []) _
        go false i = ap (λ (es : List (List ℕ)). es ++ entries_from q ks) (s.not_handed q (λ p. eqb-false s.from q i (sym p)))

    stands_first : beside (at tasks t null_task) ≡ beside (task m t) → Stands c l tasks taken
    unfolding copy_into
    stands_first e =
        let w = (shape c s.from).width in
        let now = e ∙ s.now in
        record {
          by = n;
          from = s.there;
          front = ap (λ (b : Beside). take w b.slot) now ∙ take_at s.bytes _ w s.width;
          behind = ap (λ (b : Beside). drop w b.slot) now ∙ drop_at s.bytes _ w s.width ∙ ap (λ (i : ℕ). drop i (task l t).slot) s.width;
          outcome = ap (λ (b : Beside). b.outcome) now;
        }

    pub taken_first : ((u : ℕ) → (u ≡ t → ⊥) → beside (task m u) ≡ beside (task l u)) → TookNone t ks → beside (at tasks t null_task) ≡ beside (task m t)
        → HandsOver c l queues tasks (taken ∷ ks)
    taken_first o z e = record {
      handed = λ q. h.handed q ∙ handed_first q;
      stand = cons (stands_first e)
          (every_both (λ k y d. record { by = y.by; from = y.from; front = y.front; behind = y.behind ∙ ap (λ (b : Beside). drop (shape c k.queue).width b.slot) (o k.task d); outcome = y.outcome }) h.stand z);
      no_task_twice = (z, h.no_task_twice);
      others = other;
    }
      where
        other : (u : ℕ) → TookNone u (taken ∷ ks) → (at tasks u null_task).slot ≡ (task l u).slot
        other u (cons d ds) = h.others u ds ∙ ap (λ (b : Beside). b.slot) (o u (λ i. d (sym i)))
