-- The machine's memory: which bytes it holds, and one that holds any bytes, side by side in its block 0.
--     Loads σ b o xs         the bytes xs are what the machine loads from σ, from the offset o on in block b
--     side_by_side, inarow     some lists of bytes as slices, one behind the other, and all of them in one list
--     begins                 the memory with which a run begins, holding them
use Rattle.std.specs.Prelude.{◌≡◌, refl, ℕ, ◌+◌, List, [], ◌∷◌, ◌++◌, length}
use Rattle.std.proofs.Common.{subst, arith}
use Rattle.std.proofs.Math.Option.{some as just}
use seplogic.Ra.Ura.{Ura}
use base.Fraction.{full_share}
use mir.Syntax.{w8, ty_int}
use mir.Val.{vint}
use base.Logic.{SProp, ent, sep, guard, emp, id⊢, via, assoc∗, assoc', mono_l, mono_r, emp∗, fst∗, snd∗}
use base.Fml.{fat}
use prog.Memory.{Memory, load_m}
use prog.Wp.{run}
use prog.Model.{Model, AllFit}
use prog.AdequacyRun.{start_mem}
use types.Logic.{Logic}
use types.Kit.{‵, raw, ◌⊛◌, given, ◌$◌, ◌∵◌, !, qed, by, move, use1, use2, split, learn, check, done}
use contract.Monad.{guard→fact}
use contract.Adequate.{Satisfies, sat_weaken, sat_fact, start_Satisfies}
use Rattle.running.specs.Slices.{Kind, Slice, cells_at, cells_of}

-- ---- the bytes that the machine loads
abbrev pub Loads : Memory → ℕ → ℕ → List ℕ → Type 0
Loads σ b o [] = Unit {0}
Loads σ b o (x ∷ xs) = (load_m σ (ty_int w8) b o ≡ just (vint w8 x)) × Loads σ b (o + 1) xs

abbrev pub LoadsAll : Memory → List Slice → Type 0
LoadsAll σ [] = Unit {0}
LoadsAll σ (B ∷ L) = Loads σ B.b B.o B.bytes × LoadsAll σ L

-- ---- lists of bytes side by side in block 0
abbrev pub side_by_side : ℕ → List (Kind × List ℕ) → List Slice
side_by_side o [] = []
side_by_side o (p ∷ ps) = record { kind = p.0; bytes = p.1; b = 0; o = o } ∷ side_by_side (o + length p.1) ps

abbrev pub inarow : List (Kind × List ℕ) → List ℕ
inarow [] = []
inarow (p ∷ ps) = p.1 ++ inarow ps

abbrev pub AllBytes : List (Kind × List ℕ) → Type 0
AllBytes [] = Unit {0}
AllBytes (p ∷ ps) = AllFit w8 p.1 × AllBytes ps

pub fit_append : (xs ys : List ℕ) → AllFit w8 xs → AllFit w8 ys → AllFit w8 (xs ++ ys)
fit_append [] ys f g = g
fit_append (x ∷ xs) ys f g = (f.0, fit_append xs ys f.1 g)

pub fit_in_a_row : (ps : List (Kind × List ℕ)) → AllBytes ps → AllFit w8 (inarow ps)
fit_in_a_row [] f = tt
fit_in_a_row (p ∷ ps) f = fit_append p.1 (inarow ps) f.0 (fit_in_a_row ps f.1)

module _ {M : Type 1} {𝓤 : Ura M} (𝓛 : Logic 𝓤) (𝓜 : Model 𝓤 𝓛.H) where
  open 𝓛 use {H}

  abbrev ◌∗◌ : SProp 𝓤 → SProp 𝓤 → SProp 𝓤
  P ∗ Q = sep 𝓤 P Q

  infixr 35 ◌∗◌
  abbrev Run : ℕ → ℕ → List ℕ → SProp 𝓤
  Run b o xs = run 𝓤 H full_share w8 b o xs

  loads : (σ : Memory) (xs : List ℕ) (b o : ℕ) → ent 𝓤 (𝓜.mem σ ∗ Run b o xs) (guard 𝓤 (Loads σ b o xs) (𝓜.mem σ ∗ Run b o xs))
  loads σ [] b o = qed 𝓛 (raw (𝓜.mem σ) ∷ raw (emp 𝓤) ∷ []) ∵ check ! tt $ done !
  loads σ (x ∷ xs) b o = qed 𝓛 (raw (𝓜.mem σ) ∷ (‵ (fat full_share (ty_int w8) b o (vint w8 x)) ⊛ raw (Run b (o + 1) xs)) ∷ []) ∵ move ! (1 ∷ []) $ split ! $ move ! (2 ∷ 0 ∷ []) $
      use2 𝓛 (given (load_m σ (ty_int w8) b o ≡ just (vint w8 x)) (raw (𝓜.mem σ) ⊛ ‵ (fat full_share (ty_int w8) b o (vint w8 x)))) (𝓜.at_load σ full_share (ty_int w8) b o (vint w8 x)) $ learn ! (λ e. split ! $ move ! (0 ∷ 2 ∷ []) $
      use2 𝓛 (given (Loads σ b (o + 1) xs) (raw (𝓜.mem σ) ⊛ raw (Run b (o + 1) xs))) (loads σ xs b (o + 1)) $ learn ! (λ es. split ! $ check ! (e, es) $ move ! (0 ∷ 2 ∷ 1 ∷ []) $ done !))

  loads_all : (σ : Memory) (L : List Slice) → ent 𝓤 (𝓜.mem σ ∗ cells_of 𝓛 L) (guard 𝓤 (LoadsAll σ L) (𝓜.mem σ ∗ cells_of 𝓛 L))
  loads_all σ [] = qed 𝓛 (raw (𝓜.mem σ) ∷ raw (emp 𝓤) ∷ []) ∵ check ! tt $ done !
  loads_all σ (B ∷ L) = qed 𝓛 (raw (𝓜.mem σ) ∷ (raw (cells_at 𝓛 B) ⊛ raw (cells_of 𝓛 L)) ∷ []) ∵ move ! (1 ∷ []) $ split ! $ move ! (2 ∷ 0 ∷ []) $
      use2 𝓛 (given (Loads σ B.b B.o B.bytes) (raw (𝓜.mem σ) ⊛ raw (cells_at 𝓛 B))) (loads σ B.bytes B.b B.o) $ learn ! (λ e. split ! $ move ! (0 ∷ 2 ∷ []) $
      use2 𝓛 (given (LoadsAll σ L) (raw (𝓜.mem σ) ⊛ raw (cells_of 𝓛 L))) (loads_all σ L) $ learn ! (λ es. split ! $ check ! (e, es) $ move ! (0 ∷ 2 ∷ 1 ∷ []) $ done !))

  pub sat_loads : (σ : Memory) (L : List Slice) (F : SProp 𝓤) → Satisfies 𝓤 H 𝓜 σ (cells_of 𝓛 L ∗ F) → ∥ LoadsAll σ L ∥₁
  sat_loads σ L F s =
      let C : SProp 𝓤 = cells_of 𝓛 L in
      sat_fact 𝓤 H 𝓜 σ (C ∗ F) (LoadsAll σ L)
      (via 𝓤 ((𝓜.mem σ ∗ C) ∗ F) (assoc' 𝓤 (𝓜.mem σ) C F) (via 𝓤 (𝓜.mem σ ∗ C) (fst∗ 𝓤 (𝓜.mem σ ∗ C) F) (via 𝓤 (guard 𝓤 (LoadsAll σ L) (𝓜.mem σ ∗ C)) (loads_all σ L) (guard→fact 𝓤 (LoadsAll σ L) (𝓜.mem σ ∗ C))))) s

  -- ---- bytes are cut
  pub cut_at : (xs ys : List ℕ) (b o p : ℕ) → o + length xs ≡ p → ent 𝓤 (Run b o (xs ++ ys)) (Run b o xs ∗ Run b p ys)
  cut_at [] ys b o p e = subst (λ (q : ℕ). ent 𝓤 (Run b o ys) (emp 𝓤 ∗ Run b q ys)) (omega (arith, e)) (emp∗ 𝓤 (Run b o ys))
  cut_at (x ∷ xs) ys b o p e = qed 𝓛 (‵ (fat full_share (ty_int w8) b o (vint w8 x)) ∷ raw (Run b (o + 1) (xs ++ ys)) ∷ []) ∵ move ! (1 ∷ []) $
      use1 𝓛 (raw (Run b (o + 1) xs) ⊛ raw (Run b p ys)) (cut_at xs ys b (o + 1) p (omega (arith, e))) $ split ! $ move ! (2 ∷ 0 ∷ 1 ∷ []) $
      by ! (assoc' 𝓤 (H.at full_share (ty_int w8) b o (vint w8 x)) (Run b (o + 1) xs) (Run b p ys))

  cut : (xs ys : List ℕ) (b o : ℕ) → ent 𝓤 (Run b o (xs ++ ys)) (Run b o xs ∗ Run b (o + length xs) ys)
  cut xs ys b o = cut_at xs ys b o (o + length xs) refl

  -- and joined
  join_at : (xs ys : List ℕ) (b o p : ℕ) → o + length xs ≡ p → ent 𝓤 (Run b o xs ∗ Run b p ys) (Run b o (xs ++ ys))
  join_at [] ys b o p e = subst (λ (q : ℕ). ent 𝓤 (emp 𝓤 ∗ Run b q ys) (Run b o ys)) (omega (arith, e)) (snd∗ 𝓤 (emp 𝓤) (Run b o ys))
  join_at (x ∷ xs) ys b o p e =
      let X : SProp 𝓤 = H.at full_share (ty_int w8) b o (vint w8 x) in
      via 𝓤 (X ∗ (Run b (o + 1) xs ∗ Run b p ys)) (assoc∗ 𝓤 X (Run b (o + 1) xs) (Run b p ys)) (mono_r 𝓤 X (join_at xs ys b (o + 1) p (omega (arith, e))))

  pub join : (xs ys : List ℕ) (b o : ℕ) → ent 𝓤 (Run b o xs ∗ Run b (o + length xs) ys) (Run b o (xs ++ ys))
  join xs ys b o = join_at xs ys b o (o + length xs) refl

  cuts : (o : ℕ) (ps : List (Kind × List ℕ)) → ent 𝓤 (Run 0 o (inarow ps)) (cells_of 𝓛 (side_by_side o ps))
  cuts o [] = id⊢ 𝓤 (emp 𝓤)
  cuts o (p ∷ ps) = via 𝓤 (Run 0 o p.1 ∗ Run 0 (o + length p.1) (inarow ps)) (cut p.1 (inarow ps) 0 o) (mono_r 𝓤 (Run 0 o p.1) (cuts (o + length p.1) ps))

  -- the memory with which a run begins, holding the lists of bytes in its block 0
  pub begins : (ps : List (Kind × List ℕ)) → AllBytes ps → Satisfies 𝓤 H 𝓜 (start_mem (inarow ps) []) (cells_of 𝓛 (side_by_side 0 ps) ∗ Run 1 0 [])
  begins ps f = sat_weaken 𝓤 H 𝓜 (start_mem (inarow ps) []) (mono_l 𝓤 (Run 1 0 []) (cuts 0 ps)) (start_Satisfies 𝓤 H 𝓜 (inarow ps) [] (fit_in_a_row ps f) tt)
