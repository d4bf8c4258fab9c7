-- From one memory the machine has one run: what the runs of an input print, and what they leave, is the same in all of them.
use Prim.Native.Nat.{ℕ, zero, suc}
use mathlib.Core.Path.{◌≡◌, refl, sym, ap, ap₂, ◌∙◌, subst}
use mathlib.Core.List.{List, ◌∷◌}
use lib.ListN.{length, take}
use mir.Syntax.{w64}
use mir.Fields.{get_v}
use mir.Val.{Val, Vals, vnil, vunit, vbool, vint, vfloat, vptr, vstruct, vcode, as_int}
use prog.Memory as machine
use prog.Machine.{done as ended}
use prog.Routine.{step}
use Rattle.theorems.proofs.World.{environment}
use Rattle.running.specs.Memories.{Loads}
use Rattle.running.specs.One.{number_one, loads_one, stores_one, run_one}
use Rattle.feeding.specs.declared.Stage.{Stage}
use Rattle.feeding.specs.declared.Stage.TheVariants.{First, Running, Ended}
use Rattle.feeding.specs.declared.Reached.{Reached}
use Rattle.feeding.specs.Feeds.{again, Lent}
use Rattle.feeding.proofs.feed.Symbol as feed-symbol
use Rattle.feeding.proofs.finish.Symbol as finish-symbol
use Rattle.theorems.proofs.OneFeed.{lowered, ProgramPlaces}
use Rattle.theorems.proofs.InputRuns.{LentSizes, lent_sizes, feed_arguments, finish_arguments, LiesLent, FeedRuns, InputRuns, none, call, FinishRuns}

fields_of : Val → Vals
fields_of vunit = vnil
fields_of (vbool b) = vnil
fields_of (vint w k) = vnil
fields_of (vfloat f x) = vnil
fields_of (vptr b o) = vnil
fields_of (vstruct vs) = vs
fields_of (vcode c) = vnil

number_at : ℕ → Val → ℕ
number_at k v = as_int zero (get_v (fields_of v) k) (λ _ n. n)

stage_numbered : ℕ → Stage
stage_numbered zero = First
stage_numbered (suc zero) = Running
stage_numbered (suc (suc k)) = Ended

stage_in : Val → Stage
stage_in v = stage_numbered (number_at 0 (get_v (fields_of v) 1))

stage_in_lem : (r : Reached) → stage_in (lowered r) ≡ r.stage
unfolding stage_in stage_numbered number_at fields_of
stage_in_lem r = go r.stage
  where
    go : (s : Stage) → stage_in (lowered (record { next = 0; stage = s; held = 0; printed = 0 })) ≡ s
    go First = refl
    go Running = refl
    go Ended = refl

lowered_one : {r r' : Reached} → lowered r ≡ lowered r' → r ≡ r'
unfolding number_at fields_of
lowered_one {r} {r'} e =
    let s : r.stage ≡ r'.stage = sym (stage_in_lem r) ∙ ap stage_in e ∙ stage_in_lem r' in
    λ i. record { next = ap (number_at 0) e i; stage = s i; held = ap (number_at 2) e i; printed = ap (number_at 3) e i }

lent_one : {p : ProgramPlaces} {z : LentSizes} {σ : machine.Memory} {x y : Lent} → LiesLent p z σ x → LiesLent p z σ y → x ≡ y
lent_one {p} {z} {σ} {x} {y} l h =
    let e : lent_sizes x ≡ lent_sizes y = l.sizes ∙ sym h.sizes in
    let a = l.loads in
    let b = h.loads in
    let line = loads_one σ p.line.0 p.line.1 x.line y.line (ap (λ (k : LentSizes). k.line) e) a.0 b.0 in
    let c = loads_one σ p.blocks.config.0 p.blocks.config.1 x.memory.config y.memory.config (ap (λ (k : LentSizes). k.blocks.config) e) a.1.0 b.1.0 in
    let t = loads_one σ p.blocks.tables.0 p.blocks.tables.1 x.memory.tables y.memory.tables (ap (λ (k : LentSizes). k.blocks.tables) e) a.1.1.0 b.1.1.0 in
    let s = loads_one σ p.blocks.slots.0 p.blocks.slots.1 x.memory.slots y.memory.slots (ap (λ (k : LentSizes). k.blocks.slots) e) a.1.1.1.0 b.1.1.1.0 in
    let w = loads_one σ p.blocks.timers.0 p.blocks.timers.1 x.memory.timers y.memory.timers (ap (λ (k : LentSizes). k.blocks.timers) e) a.1.1.1.1.0 b.1.1.1.1.0 in
    let n = loads_one σ p.blocks.answer.0 p.blocks.answer.1 x.memory.answer y.memory.answer (ap (λ (k : LentSizes). k.blocks.answer) e) a.1.1.1.1.1.0 b.1.1.1.1.1.0 in
    let o = loads_one σ p.out.0 p.out.1 x.out y.out (ap (λ (k : LentSizes). k.out) e) a.1.1.1.1.1.1.0 b.1.1.1.1.1.1.0 in
    λ i. record { line = line i; memory = record { config = c i; tables = t i; slots = s i; timers = w i; answer = n i }; out = o i }

feed_one : {p : ProgramPlaces} {z : LentSizes} {b : List ℕ} {r r' r'' : Reached} {σ σ' σ'' : machine.Memory} {x' x'' : Lent}
    → FeedRuns p z b r σ σ' r' x' → FeedRuns p z b r σ σ'' r'' x'' → (σ' ≡ σ'') × (r' ≡ r'') × (x' ≡ x'')
feed_one {p} {z} {b} {r} {r'} {r''} {σ} {σ'} {σ''} {x'} {x''} k h =
    let vs : List Val = feed_arguments p z (length b) (again r) in
    let e = run_one (environment feed-symbol.name) vs k.between k.fuel h.fuel k.run (subst (λ (σ₀ : machine.Memory). step (environment feed-symbol.name) h.fuel vs σ₀ ≡ ended (lowered r'', σ'')) (sym (stores_one k.stores h.stores)) h.run) in
    (e.1, lowered_one e.0, lent_one k.lies (subst (λ (σ₁ : machine.Memory). LiesLent p z σ₁ x'') (sym e.1) h.lies))

pub inputs_one : {p : ProgramPlaces} {z : LentSizes} {bs xs ys : List (List ℕ)} {r r' r'' : Reached} {σ σ' σ'' : machine.Memory} {x x' x'' : Lent}
    → InputRuns p z σ r x bs xs σ' r' x' → InputRuns p z σ r x bs ys σ'' r'' x'' → (xs ≡ ys) × (σ' ≡ σ'') × (r' ≡ r'') × (x' ≡ x'')
inputs_one none none = (refl, refl, refl, refl)
inputs_one {p} {z} (call {bs = bs} {σ₁ = σ₁} {r₁ = r₁} {x₁ = x₁} k more) (call {outputs = ys} {σ₁ = τ₁} {σ' = σ''} {r₁ = t₁} {r' = r''} {x₁ = y₁} {x' = x''} h more') =
    let o = feed_one k h in
    let rest = inputs_one more (subst (λ (τ : machine.Memory). InputRuns p z τ r₁ x₁ bs ys σ'' r'' x'') (sym o.0) (subst (λ (t : Reached). InputRuns p z τ₁ t x₁ bs ys σ'' r'' x'') (sym o.1) (subst (λ (y : Lent). InputRuns p z τ₁ t₁ y bs ys σ'' r'' x'') (sym o.2) more'))) in
    (ap₂ ◌∷◌ (ap₂ (λ (a : Reached) (y : Lent). take a.printed y.out) o.1 o.2) rest.0, rest.1, rest.2, rest.3)

pub finish_one : {p : ProgramPlaces} {z : LentSizes} {r : Reached} {σ σ' σ'' : machine.Memory} {xs ys : List ℕ} {m n : ℕ}
    → FinishRuns p z r σ σ' xs m → FinishRuns p z r σ σ'' ys n → (xs ≡ ys) × (m ≡ n)
finish_one {p} {z} {r} {σ = σ} {xs = xs} {ys = ys} k h =
    let e = run_one (environment finish-symbol.name) (finish_arguments p z (again r)) σ k.fuel h.fuel k.run h.run in
    (loads_one _ p.out.0 p.out.1 xs ys (k.size ∙ sym h.size) k.loads (subst (λ (σ₁ : machine.Memory). Loads σ₁ p.out.0 p.out.1 ys) (sym e.1) h.loads), number_one w64 e.0)
