-- What a function's theorem buys at the machine, whatever its caller lends to it: from every memory that holds what is lent it runs, ends and
-- stops a value of its type, and leaves what was lent at last values of which its contract holds. It is the kit's `adequate`, between lending
-- and taking back. For every model.
use Rattle.std.specs.Prelude.{◌≡◌, ℕ, List, [], ◌∷◌}
use Rattle.std.proofs.Common.{subst}
use Rattle.std.proofs.Math.Logic.{∥∥₁_prop, ∥∥₁_elim, ∥∥₁_map}
use seplogic.Ra.Ura.{Ura}
use mir.Val.{Val}
use base.Logic.{SProp, ent, sep, ex, guard, via, comm∗, assoc∗, assoc', mono_l}
use prog.Memory.{Memory}
use prog.Machine.{done as ended}
use prog.Model.{Model}
use prog.How.{Solo}
use prog.Routine.{Routine, any_callee, step}
use types.Logic.{Logic, sem}
use types.Kit.{‵, raw, ◌⊛◌, some, later, ◌$◌, ◌∵◌, !, qed, move, use3, split, pick, await, updating, check, show, now as at_once, done}
use contract.Monad.{fact}
use contract.Running.{Running, MachineTables, tables}
use contract.Adequate.{Satisfies, sat_weaken, sat_ex∗, sat_⇛}
use Rattle.std.specs.Borrow.{RattleType}
use denote.Laws.{Is, shows}
use denote.Steps.{facts, heard}
use denote.Triple.Statement.{Contract, Triple}
use denote.Triple.Adequate.{adequate}

-- what is owned before, and after at the last values; and, under the names that the logic gives to the loans, the lifetimes' tokens, what the
-- references own, what the lender keeps aside, and what is left of the references at exit
pub record Lending {M : Type 1} (𝓤 : Ura M) : Type 2 where
  pub Ids : Type 0
  pub Last : Type 0
  pub before : SProp 𝓤
  pub after : Last → SProp 𝓤
  pub tokens : Ids → SProp 𝓤
  pub owns : Ids → SProp 𝓤
  pub aside : Ids → SProp 𝓤
  pub left : Ids → Last → SProp 𝓤

module _ {M : Type 1} {𝓤 : Ura M} (𝓛 : Logic 𝓤) (𝓜 : Model 𝓤 𝓛.H) where
  open 𝓛 use {H}

  abbrev ◌∗◌ : SProp 𝓤 → SProp 𝓤 → SProp 𝓤
  P ∗ Q = sep 𝓤 P Q

  abbrev ◌⊨◌ : Memory → SProp 𝓤 → Type 1
  σ ⊨ P = Satisfies 𝓤 H 𝓜 σ P

  infixr 35 ◌∗◌
  infix 26 ◌⊨◌
  -- what is lent, and the type T of the result
  module _ (L : Lending 𝓤) (T : RattleType) where
    -- what the contract is about: on entry the tokens and the references; at exit the tokens, the value returned, and the
    -- last values with what the contract says of them
    abbrev pub Enters : L.Ids → SProp 𝓤
    Enters ids = L.tokens ids ∗ L.owns ids

    abbrev pub Leaves : (T.Denot → L.Last → Type 0) → L.Ids → Val → SProp 𝓤
    Leaves Φ ids v =
        H.⇛ (ex 𝓤 (λ (r : T.Denot). (L.tokens ids ∗ sem 𝓛 (T.own_val r (v ∷ [])))
        ∗ ex 𝓤 (λ (ws : L.Last). L.left ids ws ∗ fact 𝓤 (Φ r ws))))

    abbrev Handed : L.Ids → SProp 𝓤
    Handed ids = L.aside ids ∗ Enters ids

    -- what is known once all is taken back
    abbrev Known : (T.Denot → L.Last → Type 0) → Val → T.Denot × L.Last → Type 0
    Known Φ v t = Is T t.0 (v ∷ []) × Φ t.0 t.1

    abbrev Taken : (T.Denot → L.Last → Type 0) → Val → T.Denot × L.Last → SProp 𝓤
    Taken Φ v t = guard 𝓤 (Known Φ v t) (L.after t.1)

    -- it can be lent and taken back
    module _ (hands_out : ent 𝓤 L.before (H.⇛ (ex 𝓤 Handed)))
        (takes_back : (ids : L.Ids) (ws : L.Last) → ent 𝓤 (L.tokens ids ∗ (L.left ids ws ∗ L.aside ids)) (H.⇛ (L.after ws))) where
      takes : (Φ : T.Denot → L.Last → Type 0) (ids : L.Ids) (v : Val) → ent 𝓤 (Leaves Φ ids v ∗ L.aside ids) (H.⇛ (ex 𝓤 (Taken Φ v)))
      takes Φ ids v =
          qed 𝓛 (later (some (λ (r : T.Denot). (raw (L.tokens ids) ⊛ ‵ (T.own_val r (v ∷ []))) ⊛ some (λ (ws : L.Last). raw (L.left ids ws) ⊛ raw (fact 𝓤 (Φ r ws))))) ∷ raw (L.aside ids) ∷ []) ∵ updating ! $
          await ! tt $ pick ! (λ r. split ! $ move ! (1 ∷ []) $ pick ! (λ ws. split ! $ move ! (1 ∷ []) $ heard ! (Φ r ws) (λ φ.
          -- [what is left; the tokens and the value; aside]
          move ! (1 ∷ []) $ split ! $ move ! (1 ∷ []) $ facts ! T (Is T) (shows 𝓛 T) r (v ∷ []) (λ is.
          use3 𝓛 (later (raw (L.after ws))) (takes_back ids ws) $ await ! tt $ at_once ! $ show ! (Taken Φ v) (r, ws) $ check ! (is, φ) $ done !))))

      -- a routine ρ that meets the contract c, at the machine values vs; no status is allowed, and there is no other thread
      module _ (𝓡 : Running 𝓤 H 𝓜) (returns : ((s : ℕ) → 𝓡.allowed s → ⊥) × Solo 𝓤 𝓡.how) (ρ : Routine) (c : Contract 𝓤) (met : Triple 𝓤 (𝓡.run ρ) c) (x : L.Ids → c.Ghost)
          (vs : List Val) (args : (ids : L.Ids) → c.args (x ids) ≡ vs)
          (enters : (ids : L.Ids) → ent 𝓤 (Enters ids) (c.pre (x ids)))
          (Φ : T.Denot → L.Last → Type 0)
          (leaves : (ids : L.Ids) (v : Val) → ent 𝓤 (c.post (x ids) v) (Leaves Φ ids v)) where
        abbrev 𝓣 : MachineTables 𝓤 H 𝓜
        𝓣 = tables 𝓤 H 𝓜 𝓡 (λ _. ρ)

        abbrev pub Stops : Memory → SProp 𝓤 → Type 1
        Stops σ F =
            (n : ℕ) × (v : Val) × (t : T.Denot × L.Last) × (σ' : Memory) × (step ρ n vs σ ≡ ended (v, σ')) × Known Φ v t
            × (σ' ⊨ L.after t.1 ∗ F)

        pub stops : (σ : Memory) (F : SProp 𝓤) → σ ⊨ L.before ∗ F → ∥ Stops σ F ∥₁
        stops σ F s =
            ∥∥₁_elim (sat_ex∗ 𝓤 H 𝓜 σ Handed F (sat_⇛ 𝓤 H 𝓜 σ (ex 𝓤 Handed) F (sat_weaken 𝓤 H 𝓜 σ (mono_l 𝓤 F hands_out) s))) ∥∥₁_prop (λ i.
            let ids : L.Ids = i.0 in
            let Aside : SProp 𝓤 = L.aside ids in
            ∥∥₁_elim (adequate 𝓤 H 𝓜 𝓣 returns any_callee c met (x ids) σ (Aside ∗ F)
            (sat_weaken 𝓤 H 𝓜 σ (via 𝓤 ((Enters ids ∗ Aside) ∗ F) (mono_l 𝓤 F (comm∗ 𝓤 Aside (Enters ids)))
            (via 𝓤 (Enters ids ∗ (Aside ∗ F)) (assoc∗ 𝓤 (Enters ids) Aside F) (mono_l 𝓤 (Aside ∗ F) (enters ids)))) i.1)) ∥∥₁_prop (λ k.
            let v : Val = k.1 in
            let σ' : Memory = k.2 in
            let Post : SProp 𝓤 = c.post (x ids) v in
            ∥∥₁_elim (sat_ex∗ 𝓤 H 𝓜 σ' (Taken Φ v) F (sat_⇛ 𝓤 H 𝓜 σ' (ex 𝓤 (Taken Φ v)) F (sat_weaken 𝓤 H 𝓜 σ'
            (via 𝓤 ((Post ∗ Aside) ∗ F) (assoc' 𝓤 Post Aside F) (mono_l 𝓤 F (via 𝓤 (Leaves Φ ids v ∗ Aside) (mono_l 𝓤 Aside (leaves ids v)) (takes Φ ids v)))) k.4))) ∥∥₁_prop (λ t.
            ∥∥₁_map (sat_ex∗ 𝓤 H 𝓜 σ' (λ (_ : Known Φ v t.0). L.after t.0.1) F t.1) (λ g. (
              k.0,
              v,
              t.0,
              σ',
              subst (λ (us : List Val). step ρ k.0 us σ ≡ ended (v, σ')) (args ids) k.3,
              g.0,
              g.1,
            )))))
