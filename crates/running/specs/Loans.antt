-- What a caller lends and takes back beside byte slices: a list of records of a declared type of plain fields, as a `&[T]`, and a number,
-- as a `&mut`. Each is lent for a lifetime of its own, which ends before it is taken back. At the closed model.
use Rattle.std.specs.Prelude.{ℕ, ◌+◌, refl, List, [], ◌∷◌, map, length}
use base.Fraction.{full_share}
use mir.Syntax.{Lifetime, Width, Ty, ty_int}
use mir.Val.{Val, vint, vptr}
use base.Logic.{ent, ex, emp, mono∗}
use base.Fml.{GName, Incl-refl, Fml, fsep, fat, fres, flft, fbor, flent}
use prog.Memory.{size}
use ghost.Model as closed
use ghost.Atoms.{meaning}
use contract.BorrowModel.{logic₀}
use types.Kit.{‵, raw, ◌⊛◌, some, later, ◌$◌, ◌∵◌, !, qed, by, move, keep, drop, use1, use2, use3, split, pick, fsplit, fjoin, fpick, fpack, feq_i, await, updating, show, now as at_once, done}
use types.SemTy.{Body}
use types.Share.{parts, arr_parts}
use types.Tokens.{lft_new, lft_end, lent_back}
use denote.Laws.{Is, shows}
use denote.Lend.{lends_ref, ref_back, lends_shr_slice}
use denote.Memory.{lone, cell_at, part_at, part_of, mem, shares}
use denote.Plain.{UInt, uint_in, uint_out}
use denote.Ref.{Bor, MutBor, MutRef}
use denote.Slice.{slice_val, ShrSlice, Room}
use denote.Steps.{owned}
use denote.Struct.Declared.{Declared, fields, row}
use denote.Struct.Laws as laws
use denote.Struct.Steps.{spelt}
use denote.Struct.Struct.{Plains}
use Rattle.running.specs.Machine.{Pr, A₀, ◌∗◌, drops}
use Rattle.running.specs.Rows.{AllTyped, ValueAt, Row}

abbrev pub ⟦◌⟧ : Fml → Pr
⟦ P ⟧ = meaning closed.𝓤 closed.H A₀ P

-- what the logic names a loan by: its lifetime, and the ghost name of a `&mut`
abbrev pub Id : Type 0
Id = ℕ × GName

abbrev pub token_of : Id → Fml
token_of i = flft (i.0 ∷ []) full_share

-- a `&mut` under the name, and a `&`, to what lies at (b, o)
abbrev pub ref_to : {X : Type 0} → ℕ → ℕ → X → Id → MutBor X
ref_to b o x i = record { ref_ptr = (b, o); ghost_name = i.1; now = x }

abbrev pub shr_to : {X : Type 0} → ℕ → ℕ → X → Bor X
shr_to b o x = record { ref_ptr = (b, o); now = x }

-- ---- a number of the width w
module _ (w : Width) where
  abbrev pub OwnNumber : Lifetime → ℕ → ℕ → ℕ → Id → Fml
  OwnNumber ℓ b o n i = (MutRef ℓ (i.0 ∷ []) (UInt w)).own_val (ref_to b o n i) (vptr b o ∷ [])

  abbrev pub LentNumber : ℕ → ℕ → Id → Fml
  LentNumber b o i = flent (i.0 ∷ []) (Body (mem (UInt w)) b o i.1)

  abbrev NumberHanded : Lifetime → ℕ → ℕ → ℕ → Id → Pr
  NumberHanded ℓ b o n i = ⟦ token_of i ⟧ ∗ (⟦ OwnNumber ℓ b o n i ⟧ ∗ ⟦ LentNumber b o i ⟧)

  pub lend_number : (ℓ : Lifetime) (b o n : ℕ) → ent closed.𝓤 (ValueAt (ty_int w) b o (vint w n)) ((closed.H).⇛ (ex closed.𝓤 (NumberHanded ℓ b o n)))
  lend_number ℓ b o n =
      qed logic₀ (‵ (fat full_share (ty_int w) b o (vint w n)) ∷ []) ∵ updating ! $ use1 logic₀ (‵ (part_at (UInt w) full_share n b o)) (uint_in logic₀ full_share w n b o) $
      lft_new ! tt (λ α. move ! (1 ∷ []) $ use1 logic₀ (later (some (λ (γ : GName). ‵ (OwnNumber ℓ b o n (α, γ)) ⊛ ‵ (LentNumber b o (α, γ))))) (lends_ref logic₀ (UInt w) ℓ (α ∷ []) n b o) $
      await ! tt $ pick ! (λ γ. split ! $ at_once ! $ show ! (NumberHanded ℓ b o n) (α, γ) $ move ! (2 ∷ 0 ∷ 1 ∷ []) $ done !))

  -- what is left of the reference at exit: its last value, and its borrow, closed
  abbrev pub LeftNumber : ℕ → ℕ → ℕ → Id → Fml
  LeftNumber b o n i = fsep (fres i.1 ((UInt w).coded.code n)) (fbor (i.0 ∷ []) (Body (mem (UInt w)) b o i.1))

  -- it comes back at its last value
  pub number_back : (b o n : ℕ) (i : Id) → ent closed.𝓤 (⟦ token_of i ⟧ ∗ (⟦ LentNumber b o i ⟧ ∗ ⟦ LeftNumber b o n i ⟧)) ((closed.H).⇛ (ValueAt (ty_int w) b o (vint w n)))
  number_back b o n i =
      qed logic₀ (‵ (token_of i) ∷ ‵ (LentNumber b o i) ∷ ‵ (LeftNumber b o n i) ∷ []) ∵ updating ! $ lft_end ! tt $
      move ! (2 ∷ []) $ fsplit ! $ move ! (1 ∷ []) $ drop ! $ move ! (1 ∷ 2 ∷ 0 ∷ []) $
      use3 logic₀ (later (‵ (part_at (UInt w) full_share n b o))) (ref_back logic₀ (UInt w) (i.0 ∷ []) i.1 n b o) $ await ! tt $ at_once ! $ by ! (uint_out logic₀ full_share w n b o)

-- ---- a list of a declared type's values, side by side. The type is Copy
module _ (S : Declared) (L : laws.Laws S) (pl : Plains (fields S)) (cp : laws.Copyables S.parts) where
  -- the type as the machine has it, and a value
  abbrev pub ty_of : Ty
  ty_of = lone (row S).mir

  abbrev pub val_of : S.D → Val
  val_of = laws.val S L

  abbrev pub AllAre : List S.D → Type 0
  AllAre [] = Unit {0}
  AllAre (d ∷ ds) = Is (row S) d (val_of d ∷ []) × AllAre ds

  pub all_typed : (ds : List S.D) → AllAre ds → AllTyped ty_of (map val_of ds)
  all_typed [] h = tt
  all_typed (d ∷ ds) h = (((laws.lawful S L logic₀).typed d (val_of d ∷ []) h.0).0, all_typed ds h.1)

  -- a value that lies in memory, as it lies behind a reference, and back
  one_in : (d : S.D) (b o : ℕ) → Is (row S) d (val_of d ∷ []) → ent closed.𝓤 (ValueAt ty_of b o (val_of d)) ⟦ part_at (row S) full_share d b o ⟧
  unfolding part_of
  one_in d b o is =
      qed logic₀ (‵ (fat full_share ty_of b o (val_of d)) ∷ []) ∵ use1 logic₀ (‵ (cell_at full_share (row S).mir (val_of d ∷ []) b o)) (logic₀.laws.at_raw full_share ty_of b o (val_of d)) $
      owned ! (row S) (Is (row S)) (laws.makes S pl logic₀) d (val_of d ∷ []) is $ move ! (1 ∷ 0 ∷ []) $ fjoin ! $
      fpack ! (List Val) (λ vs. fsep (cell_at full_share (row S).mir vs b o) ((row S).own_val d vs)) (val_of d ∷ []) $ done !

  one_out : (d : S.D) (b o : ℕ) → ent closed.𝓤 ⟦ part_at (row S) full_share d b o ⟧ (ValueAt ty_of b o (val_of d))
  unfolding part_of
  one_out d b o =
      qed logic₀ (‵ (part_at (row S) full_share d b o) ∷ []) ∵ fpick ! (λ vs. fsplit ! $
      spelt ! (row S) (Is (row S)) (shows logic₀ (row S)) (laws.vals S L) (laws.tells S L) full_share d vs b o $
      keep ! (0 ∷ []) $ by ! (logic₀.laws.raw_at full_share ty_of b o (val_of d)))

  parts_in : (ds : List S.D) (b o : ℕ) → AllAre ds → ent closed.𝓤 (Row ty_of b o (map val_of ds)) ⟦ parts (mem (row S)) (shares (row S)) full_share ds b o ⟧
  parts_in [] b o h = drops (emp closed.𝓤)
  parts_in (d ∷ ds) b o h = mono∗ closed.𝓤 (one_in d b o h.0) (parts_in ds b (o + size ty_of) h.1)

  parts_out : (ds : List S.D) (b o : ℕ) → ent closed.𝓤 ⟦ parts (mem (row S)) (shares (row S)) full_share ds b o ⟧ (Row ty_of b o (map val_of ds))
  parts_out [] b o = drops (emp closed.𝓤)
  parts_out (d ∷ ds) b o = mono∗ closed.𝓤 (one_out d b o) (parts_out ds b (o + size ty_of))

  abbrev pub OwnList : Lifetime → ℕ → ℕ → List S.D → Id → Fml
  OwnList ℓ b o ds i = (ShrSlice ℓ (i.0 ∷ []) (row S)).own_val (shr_to b o ds) (slice_val (b, o) (length ds) ∷ [])

  abbrev pub LentList : ℕ → ℕ → List S.D → Id → Fml
  LentList b o ds i = flent (i.0 ∷ []) ((arr_parts (shares (row S)) (length ds)).part full_share ds b o)

  abbrev ListHanded : Lifetime → ℕ → ℕ → List S.D → Id → Pr
  ListHanded ℓ b o ds i = ⟦ token_of i ⟧ ∗ (⟦ OwnList ℓ b o ds i ⟧ ∗ ⟦ LentList b o ds i ⟧)

  pub lend_list : (ℓ : Lifetime) (b o : ℕ) (ds : List S.D) → AllAre ds → Room (row S) (length ds) → ent closed.𝓤 (Row ty_of b o (map val_of ds)) ((closed.H).⇛ (ex closed.𝓤 (ListHanded ℓ b o ds)))
  lend_list ℓ b o ds are room =
      qed logic₀ (raw (Row ty_of b o (map val_of ds)) ∷ []) ∵ updating ! $ use1 logic₀ (‵ (parts (mem (row S)) (shares (row S)) full_share ds b o)) (parts_in ds b o are) $ feq_i ! ℕ (length ds) (length ds) refl $ fjoin ! $
      lft_new ! tt (λ α. move ! (1 ∷ []) $ use2 logic₀ (later ((‵ (OwnList ℓ b o ds (α, 0)) ⊛ ‵ (LentList b o ds (α, 0))) ⊛ ‵ (token_of (α, 0))))
      (lends_shr_slice logic₀ (row S) ℓ (α ∷ []) full_share ds b o room (α ∷ []) ((laws.copied S cp logic₀).shares full_share (α ∷ [])) ((α ∷ [], full_share) ∷ []) (Incl-refl (α ∷ [])) (Incl-refl (α ∷ []))) $
      await ! tt $ split ! $ split ! $ at_once ! $ show ! (ListHanded ℓ b o ds) (α, 0) $ move ! (2 ∷ 0 ∷ 1 ∷ []) $ done !)

  -- it comes back as it was
  pub list_back : (b o : ℕ) (ds : List S.D) (i : Id) → ent closed.𝓤 (⟦ token_of i ⟧ ∗ ⟦ LentList b o ds i ⟧) ((closed.H).⇛ (Row ty_of b o (map val_of ds)))
  list_back b o ds i =
      qed logic₀ (‵ (token_of i) ∷ ‵ (LentList b o ds i) ∷ []) ∵ updating ! $ lft_end ! tt $ lent_back ! tt $ fsplit ! $ drop ! $ at_once ! $ by ! (parts_out ds b o)
