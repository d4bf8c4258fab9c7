-- Start only after: an accepted execute is of a task without an idle first (executes-after), and so is every task that a frame takes out of idle
-- (started-after); nor has a task that begins runnable an idle first in the fresh ledger (begins-after).
use Rattle.std.specs.Prelude.{ℕ, zero, suc, ◌≤◌, ◌≡◌, Bool, true, not, ◌&&◌, List, [], ◌∷◌, map, eqb, leb, length, get_or}
use Rattle.std.proofs.Math.Path.{refl, ap, subst}
use Rattle.std.proofs.Common.{sym, ◌∙◌, arith, eq-eqb, leb-true}
use Rattle.std.proofs.Math.Bool.{false}
use Rattle.std.proofs.lemmas.Bool.{not-true, not-false}
use Rattle.ledger.specs.Lists.{at, byte, any}
use Rattle.ledger.specs.Config.{Pair, Config, config_in, config_refusal, good_pair}
use Rattle.ledger.specs.Ledger.{Task, Ledger, null_task, task, running, fresh_task, fresh}
use Rattle.ledger.specs.Services.{Code, EXECUTE}
use Rattle.ledger.specs.Refusals.{fields, meant_task, code_at, call, holds_back, meets26, from_input, from_state, refusal}
use Rattle.ledger.specs.Session.{step}
use Rattle.ledger.specs.Good.{Numbered}
use Rattle.ledger.proofs.Theorems.Items.{at_put_other}
use Rattle.ledger.proofs.Theorems.Checks.{never, and_left, and_right, within_numbered, passes, at_all, at_any}
use Rattle.ledger.proofs.Theorems.Configured.{configured}
use Rattle.ledger.proofs.Theorems.Walk.{Bears, changes, walks}

-- pair i of a configuration, counted from 1
abbrev pub pair : Config → ℕ → Pair
pair c i = at c.pairs i (record { first = 0; then = 0 })

-- ---- by a frame
module _ (c : Config) (l : Ledger) where
  -- no pair keeps the task from its start
  abbrev Free : ℕ → Type 0
  Free u = any (holds_back l u) c.pairs ≡ false

  -- an accepted execute is of such a task
  executes_free : (f : List ℕ) → refusal c l f ≡ 0 → code_at (byte 0 f) ≡ EXECUTE → Free (call c (running l) f).a
  unfolding refusal from_input from_state call fields meets26
  executes_free f h e =
      let (short, (code, (long, (null, (task, (sem, (queue, (message, (tocks, (width, (delay, (firsts, more)))))))))))) = passes _ refl h in
      subst (λ (k : Code). meets26 c l (fields k).A (call c (running l) f).a ≡ false) e firsts

  started_free : (f : List ℕ) (u : ℕ) → (task l u).blocks.idle ≡ true → (task (step c f l).ledger u).blocks.idle ≡ false → Free u
  started_free f u before after = go (any (holds_back l u) c.pairs) refl
    where
      P : Task → Type 0
      P k = k.blocks.idle ≡ false

      bears : Bears P
      bears = record { same = λ k v i o h. sym i ∙ h; set = λ k v i o h. sym i ∙ h; ended = λ k v i o h. never (sym h ∙ i) }

      -- task u is not the one that the frame executes
      another : any (holds_back l u) c.pairs ≡ true → refusal c l f ≡ 0 → code_at (byte 0 f) ≡ EXECUTE → u ≡ (call c (running l) f).a → ⊥
      another e a x q = never (sym (executes_free f a x) ∙ ap (λ (n : ℕ). any (holds_back l n) c.pairs) (sym q) ∙ e)

      go : (b : Bool) → any (holds_back l u) c.pairs ≡ b → b ≡ false
      go false e = refl
      go true e =
          let was = walks u P bears c f l (λ s v ts i. changes u P (running l) v ts (λ h. sym i ∙ h))
          (λ a x v ts o h. ap (λ k. k.blocks.idle) (sym (at_put_other ts (call c (running l) f).a u v null_task (another e a x))) ∙ h) after in
          never (sym was ∙ before)

  -- none of the task's firsts is idle
  abbrev pub NoIdleFirst : ℕ → Type 0
  NoIdleFirst u = (i : ℕ) → Numbered (length c.pairs) i → (pair c i).then ≡ u → (task l (pair c i).first).blocks.idle ≡ false

  free_says : (u : ℕ) → Free u → NoIdleFirst u
  unfolding holds_back
  free_says u h i n e =
      let p = pair c i in
      let x : (eqb p.then u && (task l p.first).blocks.idle) ≡ false = at_any (holds_back l u) c.pairs i (record { first = 0; then = 0 }) h n in
      ap (λ (b : Bool). b && (task l p.first).blocks.idle) (sym (eq-eqb p.then u e)) ∙ x

  -- for every ledger and every frame
  pub executes_after : (f : List ℕ) → refusal c l f ≡ 0 → code_at (byte 0 f) ≡ EXECUTE → NoIdleFirst (byte 1 f)
  unfolding call fields meant_task
  executes_after f h e = free_says (byte 1 f) (subst (λ (k : Code). Free (meant_task (fields k).A (running l) (byte 1 f))) e (executes_free f h e))

  pub started_after : (f : List ℕ) (u : ℕ) → (task l u).blocks.idle ≡ true → (task (step c f l).ledger u).blocks.idle ≡ false → NoIdleFirst u
  started_after f u before after = free_says u (started_free f u before after)

-- ---- in the fresh ledger

below_one : (s : ℕ) → s ≤ 1 → (eqb s 1 && true) ≡ false → s ≡ 0
below_one zero h e = refl
below_one (suc zero) h e = never (sym e)
below_one (suc (suc s)) h e = absurd (omega arith)

get_d_idle : (ss : List ℕ) (i : ℕ) → (get_or (map fresh_task ss) i null_task).blocks.idle ≡ not (eqb (get_or ss i 0) 0)
unfolding fresh_task
get_d_idle [] i = refl
get_d_idle (s ∷ ss) zero = go (eqb s 0) refl
  where
    go : (b : Bool) → eqb s 0 ≡ b → (fresh_task s).blocks.idle ≡ not (eqb s 0)
    go true e = rw e
    go false e = rw e
get_d_idle (s ∷ ss) (suc i) = get_d_idle ss i

at_idle : (ss : List ℕ) (t : ℕ) → (at (map fresh_task ss) t null_task).blocks.idle ≡ not (eqb (at ss t 0) 0)
unfolding at
at_idle ss zero = refl
at_idle ss (suc i) = get_d_idle ss i

pub begins_after : (g : List ℕ) → config_refusal g ≡ 0 → let c = config_in g in
    (i : ℕ) → Numbered (length c.pairs) i → (task (fresh c) (pair c i).then).blocks.idle ≡ false → (task (fresh c) (pair c i).first).blocks.idle ≡ false
unfolding task fresh good_pair
begins_after g h i n later =
    let c = config_in g in
    let p = pair c i in
    let k = configured g h in
    let ok = at_all (good_pair c.T c.states) c.pairs i (record { first = 0; then = 0 }) k.pairs n in
    let number = within_numbered c.T p.first (search (and_left, and_right) depth 9) in
    let low = leb-true (at c.states p.first 0) 1 (at_all (λ s. leb s 1) c.states p.first 0 k.low (record { from = number.from; upto = omega (arith, number.upto, k.states) })) in
    let runs : eqb (at c.states p.then 0) 0 ≡ true = not-false _ (sym (at_idle c.states p.then) ∙ later) in
    let other : not (eqb (at c.states p.first 0) 1 && eqb (at c.states p.then 0) 0) ≡ true = search (and_left, and_right) depth 9 in
    let apart : (eqb (at c.states p.first 0) 1 && true) ≡ false = ap (λ (b : Bool). eqb (at c.states p.first 0) 1 && b) (sym runs) ∙ not-true _ other in
    let zero_is : at c.states p.first 0 ≡ 0 = below_one (at c.states p.first 0) low apart in
    at_idle c.states p.first ∙ rw (eq-eqb (at c.states p.first 0) 0 zero_is)
