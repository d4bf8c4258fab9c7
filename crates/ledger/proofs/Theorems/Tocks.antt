-- A tock in two parts: the timers' list as it is afterwards, then a signal for each timer that was due. Signals leave the timers, and insertions the rest.
use Rattle.std.specs.Prelude.{ℕ, ◌+◌, ◌≡◌, refl, Bool, true, false, cond, not, List, [], ◌∷◌, map, eqb, leb}
use Rattle.std.proofs.Common.{sym, ◌∙◌, ap}
use Rattle.std.proofs.lemmas.Bool.{eqb-false}
use Rattle.ledger.specs.Lists.{keep, insert_by}
use Rattle.ledger.specs.Ledger.{Semaphore, PENDING, DONE, WAITING, Timer, Ledger, task, semaphore_of, set_task, set_semaphores, set_semaphore, set_timers, set_blocks, set_event_wait}
use Rattle.ledger.specs.Services.{signalled, signal, signal_all, insert_timer, insert_again, expire, expire_all, due, tock}
use Rattle.ledger.proofs.Theorems.Parts.{Every, nil, cons, every_insert}

-- a cyclic timer as it is inserted again at tock n, and the timers after one that was due
abbrev pub again : ℕ → Timer → Timer
again n t = record { task = t.task; semaphore = t.semaphore; due = n + t.period; period = t.period }

unfoldable pub renew : ℕ → Timer → List Timer → List Timer
renew n t ts = cond (eqb t.period 0) ts (insert_by (λ t. t.due) (again n t) ts)

unfoldable pub renew_all : ℕ → List Timer → List Timer → List Timer
renew_all n [] ts = ts
renew_all n (d ∷ ds) ts = renew_all n ds (renew n d ts)

unfoldable pub due_at : ℕ → Timer → Bool
due_at n t = leb t.due n

-- the timers after tock n
unfoldable pub renewed : ℕ → List Timer → List Timer
renewed n ts = renew_all n (keep (due_at n) ts) (keep (λ t. not (due_at n t)) ts)

-- the semaphores that timers signal
abbrev pub signalled_by : List Timer → List ℕ
signalled_by ts = map (λ t. t.semaphore) ts

signalled_timers : (s : Semaphore) (b : ℕ) (v : List Timer) (l : Ledger) → (signalled s b (set_timers v l)).ledger ≡ set_timers v (signalled s b l).ledger
unfolding signalled set_semaphore set_semaphores set_timers set_event_wait set_blocks set_task task
signalled_timers PENDING b v l = refl
signalled_timers DONE b v l = refl
signalled_timers (WAITING t) b v l = refl

signal_timers : (b : ℕ) (v : List Timer) (l : Ledger) → (signal b (set_timers v l)).ledger ≡ set_timers v (signal b l).ledger
unfolding signal semaphore_of set_timers
signal_timers b v l = signalled_timers (semaphore_of l b) b v l

signalled_n : (s : Semaphore) (b : ℕ) (l : Ledger) → (signalled s b l).ledger.N ≡ l.N
unfolding signalled set_semaphore set_semaphores set_event_wait set_blocks set_task
signalled_n PENDING b l = refl
signalled_n DONE b l = refl
signalled_n (WAITING t) b l = refl

signal_n : (b : ℕ) (l : Ledger) → (signal b l).ledger.N ≡ l.N
unfolding signal
signal_n b l = signalled_n (semaphore_of l b) b l

insert_again_is : (t : Timer) (l : Ledger) → insert_again t l ≡ set_timers (renew l.N t l.timers) l
unfolding insert_again insert_timer renew set_timers
insert_again_is t l = go (eqb t.period 0) (insert_by (λ t. t.due) (again l.N t) l.timers)
  where
    go : (b : Bool) (v : List Timer) → cond b l (set_timers v l) ≡ set_timers (cond b l.timers v) l
    go true v = refl
    go false v = refl

expire_is : (t : Timer) (l : Ledger) → expire t l ≡ set_timers (renew l.N t l.timers) (signal t.semaphore l).ledger
unfolding expire
expire_is t l = ap (λ m. (signal t.semaphore m).ledger) (insert_again_is t l) ∙ signal_timers t.semaphore (renew l.N t l.timers) l

expire_all_is : (ts : List Timer) (l : Ledger) → expire_all ts l ≡ signal_all (signalled_by ts) (set_timers (renew_all l.N ts l.timers) l)
unfolding expire_all signal_all renew_all set_timers
expire_all_is [] l = refl
expire_all_is (t ∷ ts) l =
    let s = (signal t.semaphore l).ledger in
    let v = renew l.N t l.timers in
    ap (expire_all ts) (expire_is t l) ∙ expire_all_is ts (set_timers v s) ∙ ap (λ n. signal_all (signalled_by ts) (set_timers (renew_all n ts v) s)) (signal_n t.semaphore l)
    ∙ ap (signal_all (signalled_by ts)) (sym (signal_timers t.semaphore (renew_all l.N ts v) l))

pub tock_is : (l : Ledger) → tock l ≡ signal_all (signalled_by (keep (due_at l.N) l.timers)) (set_timers (renewed l.N l.timers) l)
unfolding tock renewed due due_at set_timers
tock_is l = expire_all_is (keep (due l) l.timers) (set_timers (keep (λ t. not (due l t)) l.timers) l)

-- ---- what holds of the timers left, and of each inserted again, holds of all

pub renew_cases : (Q : List Timer → Type 0) (n : ℕ) (t : Timer) (ts : List Timer) → Q ts → ((t.period ≡ 0 → ⊥) → Q (insert_by (λ t. t.due) (again n t) ts)) → Q (renew n t ts)
unfolding renew
renew_cases Q n t ts h k = go (eqb t.period 0) refl
  where
    go : (b : Bool) → eqb t.period 0 ≡ b → Q (cond b ts (insert_by (λ t. t.due) (again n t) ts))
    go true e = h
    go false e = k (eqb-false t.period 0 e)

renew_all_every : (P : Timer → Type 0) (n : ℕ) (ds ts : List Timer) → Every (λ t. (t.period ≡ 0 → ⊥) → P (again n t)) ds → Every P ts → Every P (renew_all n ds ts)
unfolding renew_all
renew_all_every P n [] ts nil h = h
renew_all_every P n (d ∷ ds) ts (cons a as') h = renew_all_every P n ds (renew n d ts) as' (renew_cases (Every P) n d ts h (λ z. every_insert _ (again n d) ts (a z) h))

pub renewed_every : (P : Timer → Type 0) (n : ℕ) (ts : List Timer)
    → Every (λ t. (t.period ≡ 0 → ⊥) → P (again n t)) (keep (due_at n) ts) → Every P (keep (λ t. not (due_at n t)) ts) → Every P (renewed n ts)
unfolding renewed
renewed_every P n ts a h = renew_all_every P n (keep (due_at n) ts) (keep (λ t. not (due_at n t)) ts) a h
