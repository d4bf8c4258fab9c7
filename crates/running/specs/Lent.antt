-- A call's parameters beside byte slices: numbers by value, and what a host stores into a block of its own, lends and takes back. The first
-- such block is 2, and the others follow. At the closed model.
--     Lent             what one thing must have to be stored, loaded, lent and taken back
--     number, list     a number of a width, as a `&mut`; a list of a declared type's values, as a `&[T]`
--     Param            a parameter: a number by value, or what is lent
--     hands_out        before the call: a lifetime for each loan, and its reference, with the lender's part aside
--     takes_back       after it: what was lent again, at the last values
use Rattle.std.specs.Prelude.{ℕ, zero, suc, ◌+◌, ◌<◌, ◌^◌, ◌≡◌, refl, List, [], ◌∷◌, map, length}
use Rattle.std.proofs.Common.{sym, subst}
use Rattle.std.proofs.Math.Option.{some as just}
use base.Fraction.{full_share}
use Rattle.std.proofs.Math.Dec.{eqb_refl}
use Rattle.std.proofs.lemmas.List.{length-map}
use mir.Syntax.{named, Width, Ty, ty_int, ty_array}
use mir.Val.{Val, vint, vptr, bits, bytes}
use base.Logic.{ent, ex, emp, via, mono_r, fst∗}
use base.Fml.{Fml, ftrue, fsep}
use prog.Memory.{Memory, load_m, store_m}
use ghost.Model as closed
use contract.BorrowModel.{logic₀}
use contract.Closed.{model⁺}
use types.Kit.{‵, raw, ◌⊛◌, some, later, ◌$◌, ◌∵◌, !, qed, move, keep, use1, use3, split, join, pick, fsplit, fjoin, frame, await, updating, show, now as at_once, done}
use contract.Lifetimes.{Lfts, Shares, toks}
use denote.RattleType.{RattleType, Denots, Valss, owns}
use denote.Laws.{Is}
use denote.Plain.{UInt, uint_Makes}
use denote.Ref.{MutRef}
use denote.Slice.{slice_val, ShrSlice, Room}
use denote.Steps.{owned, nothing}
use denote.Struct.Declared.{Declared, fields, row}
use denote.Struct.Laws as laws
use denote.Struct.Struct.{Plains}
use Rattle.running.specs.OneRun as any
use Rattle.running.specs.OneRun.{Lending}
use Rattle.running.specs.Machine.{Pr, ◌∗◌, ◌⊨◌}
use Rattle.running.specs.Rows.{StoresRow, LoadsRow, ValueAt, Row, RoomAt, store_one, row_one, sat_store, sat_row, sat_load, sat_loads_row}
use Rattle.running.specs.Loans.{⟦◌⟧, Id, token_of, ref_to, shr_to, LentNumber, LeftNumber, lend_number, number_back, ty_of, val_of, AllAre, all_typed, LentList, lend_list, list_back}

-- ---- one thing, in block b
pub record Lent : Type 2 where
  -- what of it a call can change, and what that is before
  pub Last : Type 0
  pub first : Last
  -- it is owned, and what is owned is what the machine loads
  pub held : ℕ → Last → Pr
  pub Loads : Memory → ℕ → Last → Type 0
  pub loads : (σ : Memory) (b : ℕ) (w : Last) (F : Pr) → σ ⊨ held b w ∗ F → ∥ Loads σ b w ∥₁
  -- where it fits it is stored into a block of this type, and the stores lead to one memory
  pub Fits : Type 0
  pub block : Ty
  pub Stores : ℕ → Memory → Memory → Type 0
  pub stores : (σ : Memory) (b : ℕ) (F : Pr) → Fits → σ ⊨ RoomAt block b 0 ∗ F → ∥ ((σ₁ : Memory) × Stores b σ σ₁ × (σ₁ ⊨ held b first ∗ F)) ∥₁
  pub stores_one : (b : ℕ) (σ σ₁ σ₂ : Memory) → Stores b σ σ₁ → Stores b σ σ₂ → σ₁ ≡ σ₂
  -- it is lent for the call's lifetime k: its type, its value under a name and its machine value; the lender's part aside; what is left at exit
  pub type : ℕ → Id → RattleType
  pub ref : (k b : ℕ) (i : Id) → (type k i).Denot
  pub val : ℕ → Val
  pub aside : ℕ → Id → Fml
  pub left : ℕ → Id → Last → Fml
  pub lends : (k b : ℕ) → Fits → ent closed.𝓤 (held b first) ((closed.H).⇛ (ex closed.𝓤 (λ (i : Id). ⟦ token_of i ⟧ ∗ (⟦ (type k i).own_val (ref k b i) (val b ∷ []) ⟧ ∗ ⟦ aside b i ⟧))))
  pub back : (b : ℕ) (i : Id) (w : Last) → ent closed.𝓤 (⟦ token_of i ⟧ ∗ (⟦ aside b i ⟧ ∗ ⟦ left b i w ⟧)) ((closed.H).⇛ (held b w))

-- a number of the width w
abbrev pub number : Width → ℕ → Lent
number w n =
    record {
      Last = ℕ;
      first = n;
      held = λ b m. ValueAt (ty_int w) b 0 (vint w m);
      Loads = λ σ b m. load_m σ (ty_int w) b 0 ≡ just (vint w m);
      loads = λ σ b m F. sat_load σ (ty_int w) b 0 (vint w m) F;
      Fits = n < 2 ^ bits w;
      block = ty_int w;
      Stores = λ b σ σ₁. store_m σ (ty_int w) b 0 (vint w n) ≡ just σ₁;
      stores = λ σ b F f. sat_store σ (ty_int w) b 0 (vint w n) F (eqb_refl (bytes w), record { fits = f });
      stores_one = λ b σ σ₁ σ₂ e f. store_one e f;
      type = λ k i. MutRef (named k) (i.0 ∷ []) (UInt w);
      ref = λ k b i. ref_to b 0 n i;
      val = λ b. vptr b 0;
      aside = λ b i. LentNumber w b 0 i;
      left = λ b i m. LeftNumber w b 0 m i;
      lends = λ k b f. lend_number w (named k) b 0 n;
      back = λ b i m. number_back w b 0 m i;
    }

-- a list of a declared type's values, side by side
abbrev pub list : (S : Declared) → laws.Laws S → Plains (fields S) → laws.Copyables S.parts → List S.D → Lent
list S L pl cp ds =
    record {
      Last = Unit {0};
      first = tt;
      held = λ b w. Row (ty_of S L pl cp) b 0 (map (val_of S L pl cp) ds);
      Loads = λ σ b w. LoadsRow σ (ty_of S L pl cp) b 0 (map (val_of S L pl cp) ds);
      loads = λ σ b w F. sat_loads_row σ (ty_of S L pl cp) b 0 (map (val_of S L pl cp) ds) F;
      Fits = AllAre S L pl cp ds × Room (row S) (length ds);
      block = ty_array (ty_of S L pl cp) (length ds);
      Stores = λ b σ σ₁. StoresRow (ty_of S L pl cp) b 0 (map (val_of S L pl cp) ds) σ σ₁;
      stores = λ σ b F f s. sat_row (map (val_of S L pl cp) ds) σ (ty_of S L pl cp) b 0 F (all_typed S L pl cp ds f.0)
          (subst (λ (n : ℕ). σ ⊨ RoomAt (ty_array (ty_of S L pl cp) n) b 0 ∗ F) (sym (length-map ds (val_of S L pl cp))) s);
      stores_one = λ b σ σ₁ σ₂ e f. row_one e f;
      type = λ k i. ShrSlice (named k) (i.0 ∷ []) (row S);
      ref = λ k b i. shr_to b 0 ds;
      val = λ b. slice_val (b, 0) (length ds);
      aside = λ b i. LentList S L pl cp b 0 ds i;
      left = λ b i w. ftrue;
      lends = λ k b f. lend_list S L pl cp (named k) b 0 ds f.0 f.1;
      back = λ b i w. via closed.𝓤 (⟦ token_of i ⟧ ∗ ⟦ LentList S L pl cp b 0 ds i ⟧) (mono_r closed.𝓤 ⟦ token_of i ⟧ (fst∗ closed.𝓤 ⟦ LentList S L pl cp b 0 ds i ⟧ ⟦ ftrue ⟧)) (list_back S L pl cp b 0 ds i);
    }

-- ---- a call's parameters
pub data Param : Type 2 where
  value : Width → ℕ → Param
  lent : Lent → Param

abbrev pub Fits : List Param → Type 0
Fits [] = Unit {0}
Fits (value w n ∷ L) = (n < 2 ^ bits w) × Fits L
Fits (lent P ∷ L) = P.Fits × Fits L

-- what the logic names the loans by, and in what each parameter ends
abbrev pub Ids : List Param → Type 0
Ids [] = Unit {0}
Ids (value w n ∷ L) = Ids L
Ids (lent P ∷ L) = Id × Ids L

abbrev pub LastValues : List Param → Type 0
LastValues [] = Unit {0}
LastValues (value w n ∷ L) = Unit {0} × LastValues L
LastValues (lent P ∷ L) = P.Last × LastValues L

abbrev pub firsts : (L : List Param) → LastValues L
firsts [] = tt
firsts (value w n ∷ L) = (tt, firsts L)
firsts (lent P ∷ L) = (P.first, firsts L)

-- what a function of these parameters binds: the lifetimes, the shares of them, the values and the machine values. Where k loans come before,
-- the next is in block k + 2
abbrev pub loans_in : List Param → ℕ
loans_in [] = zero
loans_in (value w n ∷ L) = loans_in L
loans_in (lent P ∷ L) = suc (loans_in L)

abbrev pub lifetimes_of : (L : List Param) → Ids L → Lfts (loans_in L)
lifetimes_of [] i = tt
lifetimes_of (value w n ∷ L) i = lifetimes_of L i
lifetimes_of (lent P ∷ L) i = (i.0.0 ∷ [], lifetimes_of L i.1)

abbrev pub shares_of : (L : List Param) → Shares (loans_in L)
shares_of [] = tt
shares_of (value w n ∷ L) = shares_of L
shares_of (lent P ∷ L) = (full_share, shares_of L)

abbrev pub types_of : (k : ℕ) (L : List Param) → Ids L → List RattleType
types_of k [] i = []
types_of k (value w n ∷ L) i = UInt w ∷ types_of k L i
types_of k (lent P ∷ L) i = P.type k i.0 ∷ types_of (suc k) L i.1

abbrev pub values_of : (k : ℕ) (L : List Param) (i : Ids L) → Denots (types_of k L i)
values_of k [] i = tt
values_of k (value w n ∷ L) i = (n, values_of k L i)
values_of k (lent P ∷ L) i = (P.ref k (k + 2) i.0, values_of (suc k) L i.1)

abbrev pub passed_of : (k : ℕ) (L : List Param) (i : Ids L) → Valss (types_of k L i)
passed_of k [] i = tt
passed_of k (value w n ∷ L) i = (vint w n ∷ [], passed_of k L i)
passed_of k (lent P ∷ L) i = (P.val (k + 2) ∷ [], passed_of (suc k) L i.1)

-- ---- they are lent, and taken back
abbrev pub Held : (k : ℕ) (L : List Param) → LastValues L → Pr
Held k [] ws = emp closed.𝓤
Held k (value w n ∷ L) ws = Held k L ws.1
Held k (lent P ∷ L) ws = P.held (k + 2) ws.0 ∗ Held (suc k) L ws.1

abbrev Tokens : (L : List Param) → Ids L → Pr
Tokens L i = toks logic₀ (loans_in L) (lifetimes_of L i) (shares_of L)

abbrev Owns : (k : ℕ) (L : List Param) → Ids L → Fml
Owns k L i = owns (types_of k L i) (values_of k L i) (passed_of k L i)

abbrev Asides : (k : ℕ) (L : List Param) → Ids L → Fml
Asides k [] i = ftrue
Asides k (value w n ∷ L) i = Asides k L i
Asides k (lent P ∷ L) i = fsep (P.aside (k + 2) i.0) (Asides (suc k) L i.1)

abbrev Lefts : (k : ℕ) (L : List Param) → Ids L → LastValues L → Fml
Lefts k [] i ws = ftrue
Lefts k (value w n ∷ L) i ws = fsep ftrue (Lefts k L i ws.1)
Lefts k (lent P ∷ L) i ws = fsep (P.left (k + 2) i.0 ws.0) (Lefts (suc k) L i.1 ws.1)

abbrev Handed : (k : ℕ) (L : List Param) → Ids L → Pr
Handed k L i = ⟦ Asides k L i ⟧ ∗ (Tokens L i ∗ ⟦ Owns k L i ⟧)

pub hands_out : (k : ℕ) (L : List Param) → Fits L → ent closed.𝓤 (Held k L (firsts L)) ((closed.H).⇛ (ex closed.𝓤 (Handed k L)))
hands_out k [] f = qed logic₀ [] ∵ updating ! $ at_once ! $ show ! (Handed k []) tt $ nothing ! $ nothing ! $ nothing ! $ done !
hands_out k (value w n ∷ L) f =
    qed logic₀ (raw (Held k L (firsts L)) ∷ []) ∵ updating ! $
    use1 logic₀ (later (some (λ (i : Ids L). ‵ (Asides k L i) ⊛ (raw (Tokens L i) ⊛ ‵ (Owns k L i))))) (hands_out k L f.1) $ await ! tt $ pick ! (λ i.
    split ! $ move ! (1 ∷ []) $ split ! $ at_once ! $ show ! (Handed k (value w n ∷ L)) i $
    -- [the tokens; what is owned; aside]
    move ! (1 ∷ []) $ owned ! (UInt w) (Is (UInt w)) (uint_Makes logic₀ w) n (vint w n ∷ []) (refl, f.0) $ fjoin ! $ move ! (2 ∷ 1 ∷ 0 ∷ []) $ done !)
hands_out k (lent P ∷ L) f =
    qed logic₀ (raw (P.held (k + 2) P.first) ∷ raw (Held (suc k) L (firsts L)) ∷ []) ∵ updating ! $
    use1 logic₀ (later (some (λ (i : Id). ‵ (token_of i) ⊛ (‵ ((P.type k i).own_val (P.ref k (k + 2) i) (P.val (k + 2) ∷ [])) ⊛ ‵ (P.aside (k + 2) i))))) (P.lends k (k + 2) f.0) $ await ! tt $ pick ! (λ i.
    split ! $ move ! (1 ∷ []) $ split ! $
    -- [its own; its part aside; its token; the rest]
    move ! (3 ∷ []) $ use1 logic₀ (later (some (λ (is : Ids L). ‵ (Asides (suc k) L is) ⊛ (raw (Tokens L is) ⊛ ‵ (Owns (suc k) L is))))) (hands_out (suc k) L f.1) $ await ! tt $ pick ! (λ is.
    split ! $ move ! (1 ∷ []) $ split ! $ at_once ! $ show ! (Handed k (lent P ∷ L)) (i, is) $
    -- [the tokens; what is owned; aside; its own; its part aside; its token]
    move ! (4 ∷ 2 ∷ 5 ∷ 0 ∷ 3 ∷ 1 ∷ []) $ fjoin ! $ frame ! $ join ! $ frame ! $ fjoin ! $ done !))

pub takes_back : (k : ℕ) (L : List Param) (i : Ids L) (ws : LastValues L) → ent closed.𝓤 (Tokens L i ∗ (⟦ Lefts k L i ws ⟧ ∗ ⟦ Asides k L i ⟧)) ((closed.H).⇛ (Held k L ws))
takes_back k [] i ws = qed logic₀ (‵ ftrue ∷ ‵ ftrue ∷ ‵ ftrue ∷ []) ∵ updating ! $ at_once ! $ keep ! [] $ done !
takes_back k (value w n ∷ L) i ws =
    qed logic₀ (raw (Tokens L i) ∷ ‵ (fsep ftrue (Lefts k L i ws.1)) ∷ ‵ (Asides k L i) ∷ []) ∵ updating ! $ move ! (1 ∷ []) $ fsplit ! $
    move ! (2 ∷ 1 ∷ 3 ∷ []) $ use3 logic₀ (later (raw (Held k L ws.1))) (takes_back k L i ws.1) $ await ! tt $ at_once ! $ keep ! (0 ∷ []) $ done !
takes_back k (lent P ∷ L) i ws =
    qed logic₀ ((‵ (token_of i.0) ⊛ raw (Tokens L i.1)) ∷ ‵ (Lefts k (lent P ∷ L) i ws) ∷ ‵ (Asides k (lent P ∷ L) i) ∷ []) ∵ updating ! $
    split ! $ move ! (2 ∷ []) $ fsplit ! $ move ! (4 ∷ []) $ fsplit ! $
    -- [its part aside; the others'; what is left of it; of the others; its token; the others']
    move ! (4 ∷ 0 ∷ 2 ∷ []) $ use3 logic₀ (later (raw (P.held (k + 2) ws.0))) (P.back (k + 2) i.0 ws.0) $ await ! tt $
    -- [it; the others' parts aside; what is left of them; their tokens]
    move ! (3 ∷ 2 ∷ 1 ∷ []) $ use3 logic₀ (later (raw (Held (suc k) L ws.1))) (takes_back (suc k) L i.1 ws.1) $ await ! tt $ at_once ! $ move ! (1 ∷ 0 ∷ []) $ done !

abbrev pub lending : List Param → Lending closed.𝓤
lending L =
    record {
      Ids = Ids L;
      Last = LastValues L;
      before = Held 0 L (firsts L);
      after = Held 0 L;
      tokens = Tokens L;
      owns = λ i. ⟦ Owns 0 L i ⟧;
      aside = λ i. ⟦ Asides 0 L i ⟧;
      left = λ i ws. ⟦ Lefts 0 L i ws ⟧;
    }

-- what a contract of these parameters is about, on entry and at exit; T is the type of the result
abbrev pub Enters : (L : List Param) (T : RattleType) → Ids L → Pr
Enters L T = any.Enters logic₀ model⁺ (lending L) T

abbrev pub Leaves : (L : List Param) (T : RattleType) → (T.Denot → LastValues L → Type 0) → Ids L → Val → Pr
Leaves L T = any.Leaves logic₀ model⁺ (lending L) T
