-- What a function's theorem buys at the machine, for a function of byte slices (and of values, which its `enters` brings): OneRun where slices
-- are lent. From every memory that holds the slices it runs, ends and stops a value of its type, and leaves the slices at last values of which
-- its contract holds, as long as they were, and of bytes. For every model.
use Rattle.std.specs.Prelude.{◌≡◌, ℕ, List, [], ◌∷◌}
use Rattle.std.proofs.Math.Logic.{∥∥₁_prop, ∥∥₁_elim, ∥∥₁_map}
use seplogic.Ra.Ura.{Ura}
use mir.Val.{Val}
use base.Logic.{SProp, ent, sep}
use Rattle.std.specs.Borrow.{RattleType}
use prog.Memory.{Memory}
use prog.Machine.{done as ended}
use prog.Model.{Model}
use prog.How.{Solo}
use prog.Routine.{Routine, step}
use types.Logic.{Logic}
use types.Kit.{‵, raw, given, later, ◌$◌, ◌∵◌, !, qed, use1, use3, learn, await, updating, check, now as at_once, done}
use contract.Running.{Running}
use contract.Adequate.{Satisfies, sat_ex∗}
use denote.Laws.{Is}
use denote.Triple.Statement.{Contract, Triple}
use Rattle.running.specs.Slices.{Slice, Ids, LastValues, afters, Rooms, SameLengths, AreBytes, asides_of, lefts_of, cells_of, are_bytes, hands_out, takes_back}
use Rattle.running.specs.OneRun as any
use Rattle.running.specs.LentSlices.{AsLong, lending}

module _ {M : Type 1} {𝓤 : Ura M} (𝓛 : Logic 𝓤) (𝓜 : Model 𝓤 𝓛.H) where
  open 𝓛 use {H}

  abbrev ◌∗◌ : SProp 𝓤 → SProp 𝓤 → SProp 𝓤
  P ∗ Q = sep 𝓤 P Q

  abbrev ◌⊨◌ : Memory → SProp 𝓤 → Type 1
  σ ⊨ P = Satisfies 𝓤 H 𝓜 σ P

  infixr 35 ◌∗◌
  infix 26 ◌⊨◌
  abbrev Cells : List Slice → SProp 𝓤
  Cells = cells_of 𝓛

  back : (L : List Slice) (ids : Ids L) (ws : LastValues L) → ent 𝓤 ((lending 𝓛 L).tokens ids ∗ ((lending 𝓛 L).left ids ws ∗ (lending 𝓛 L).aside ids)) (H.⇛ ((lending 𝓛 L).after ws))
  back L ids ws =
      qed 𝓛 (raw ((lending 𝓛 L).tokens ids) ∷ ‵ (lefts_of L ids ws) ∷ ‵ (asides_of L ids) ∷ []) ∵ updating ! $
      use3 𝓛 (later (given (SameLengths L ws) (raw (Cells (afters L ws))))) (takes_back 𝓛 L ids ws) $ await ! tt $ learn ! (λ s.
      use1 𝓛 (given (AreBytes (afters L ws)) (raw (Cells (afters L ws)))) (are_bytes 𝓛 (afters L ws)) $ learn ! (λ f. at_once ! $ check ! (s, f) $ done !))

  -- the slices L, and the type T of the result
  module _ (L : List Slice) (T : RattleType) where
    abbrev pub Enters : Ids L → SProp 𝓤
    Enters = any.Enters 𝓛 𝓜 (lending 𝓛 L) T

    abbrev pub Leaves : (T.Denot → LastValues L → Type 0) → Ids L → Val → SProp 𝓤
    Leaves = any.Leaves 𝓛 𝓜 (lending 𝓛 L) T

    -- what is known once the slices are taken back
    abbrev pub Known : (T.Denot → LastValues L → Type 0) → Val → T.Denot × LastValues L → Type 0
    Known Φ v t = Is T t.0 (v ∷ []) × Φ t.0 t.1 × SameLengths L t.1 × AreBytes (afters L t.1)

    -- a routine ρ that meets the contract c, at the slices L and the machine values vs; no status is allowed, and there is no other thread
    module _ (𝓡 : Running 𝓤 H 𝓜) (returns : ((s : ℕ) → 𝓡.allowed s → ⊥) × Solo 𝓤 𝓡.how) (ρ : Routine) (c : Contract 𝓤) (met : Triple 𝓤 (𝓡.run ρ) c) (x : Ids L → c.Ghost)
        (vs : List Val) (args : (ids : Ids L) → c.args (x ids) ≡ vs)
        (enters : (ids : Ids L) → ent 𝓤 (Enters ids) (c.pre (x ids)))
        (Φ : T.Denot → LastValues L → Type 0)
        (leaves : (ids : Ids L) (v : Val) → ent 𝓤 (c.post (x ids) v) (Leaves Φ ids v)) where
      abbrev pub Stops : Memory → SProp 𝓤 → Type 1
      Stops σ F =
          (n : ℕ) × (v : Val) × (t : T.Denot × LastValues L) × (σ' : Memory) × (step ρ n vs σ ≡ ended (v, σ')) × Known Φ v t
          × (σ' ⊨ Cells (afters L t.1) ∗ F)

      pub stops : Rooms L → (σ : Memory) (F : SProp 𝓤) → σ ⊨ Cells L ∗ F → ∥ Stops σ F ∥₁
      stops rooms σ F s =
          ∥∥₁_elim (any.stops 𝓛 𝓜 (lending 𝓛 L) T (hands_out 𝓛 0 L rooms) (back L) 𝓡 returns ρ c met x vs args enters Φ leaves σ F s) ∥∥₁_prop (λ k.
          ∥∥₁_map (sat_ex∗ 𝓤 H 𝓜 k.3 (λ (_ : AsLong L k.2.1). Cells (afters L k.2.1)) F k.6) (λ g. (k.0, k.1, k.2, k.3, k.4, (k.5.0, k.5.1, g.0.0, g.0.1), g.1)))
