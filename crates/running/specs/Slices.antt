-- Byte slices lent to a function and taken back: what a caller that owns the bytes does before and after a call.
--     Slice          bytes at a place in the machine's memory, lent as `&[u8]` (shr) or `&mut [u8]` (mut)
--     cells_of L      the slices' bytes are owned
--     hands_out      before the call: a lifetime for each slice, and its reference, with the lender's part aside
--     takes_back     after it: the slices' bytes again, at the last values
-- For every model and every `Logic`.
use Rattle.std.specs.Prelude.{◌≡◌, refl, ℕ, suc, ◌+◌, List, [], ◌∷◌, length}
use seplogic.Ra.Ura.{Ura}
use base.Fraction.{full_share}
use mir.Syntax.{named, w8, ty_int}
use mir.Val.{Val, vint}
use base.Logic.{SProp, ent, sep, ex, guard, emp, id⊢}
use base.Fml.{GName, Share, Incl-refl, Fml, ftrue, fsep, feq, fat, flft, fbor, flent}
use prog.Wp.{run}
use prog.Model.{AllFit}
use types.Logic.{Logic, sem}
use types.Kit.{‵, raw, ◌⊛◌, some, given, later, ◌$◌, ◌∵◌, !, qed, by, move, keep, use1, use2, use3, split, join, pick, learn, drop, fsplit, fjoin, feq_l, feq_i, frame, await, updating, check, show, now as at_once, done}
use types.Tokens.{lft_new, lft_end, lent_back}
use types.Run.{well_typed}
use types.SemTy.{cells, Arr}
use types.Share.{parts, arr_parts}
use denote.Memory.{part_at, mem, shares}
use Rattle.std.specs.Borrow.{u8, Bor, MutBor}
use denote.Copied.{uint_Copied}
use denote.Plain.{uint_in, uint_out}
use denote.Slice.{slice_val, MutSlice, ShrSlice, Room, finally}
use denote.Lend.{Held, lends_slice, slice_back, lends_shr_slice}
use denote.Steps.{nothing}

pub data Kind : Type 0 where
  shr : Kind
  mut : Kind

-- the bytes lie from the offset o on in block b of the memory
pub record Slice : Type 0 where
  pub kind : Kind
  pub bytes : List ℕ
  pub b : ℕ
  pub o : ℕ

-- ---- one slice
abbrev pub RefAs : Kind → Type 0
RefAs shr = Bor (List ℕ)
RefAs mut = MutBor (List ℕ)

abbrev pub ref_as : (k : Kind) → Slice → GName → RefAs k
ref_as shr B γ = record { ref_ptr = (B.b, B.o); now = B.bytes }
ref_as mut B γ = record { ref_ptr = (B.b, B.o); ghost_name = γ; now = B.bytes }

abbrev pub ref_of : (B : Slice) → GName → RefAs B.kind
ref_of B γ = ref_as B.kind B γ

abbrev pub val_of : Slice → Val
val_of B = slice_val (B.b, B.o) (length B.bytes)

abbrev pub own_as : Kind → ℕ → ℕ → GName → Slice → Fml
own_as shr i α γ B = (ShrSlice (named i) (α ∷ []) u8).own_val (ref_as shr B γ) (val_of B ∷ [])
own_as mut i α γ B = (MutSlice (named i) (α ∷ []) u8).own_val (ref_as mut B γ) (val_of B ∷ [])

abbrev pub aside_as : Kind → ℕ → GName → Slice → Fml
aside_as shr α γ B = flent (α ∷ []) ((arr_parts (shares u8) (length B.bytes)).part full_share B.bytes B.b B.o)
aside_as mut α γ B = flent (α ∷ []) (Held u8 (length B.bytes) B.b B.o γ)

abbrev pub LastAs : Kind → Type 0
LastAs shr = Unit {0}
LastAs mut = List ℕ

-- what is left of a reference at exit: of a `&mut` its last value, with as many bytes, and its borrow, closed
abbrev pub left_as : (k : Kind) → ℕ → GName → Slice → LastAs k → Fml
left_as shr α γ B w = ftrue
left_as mut α γ B w = fsep (fsep (finally u8 γ w) (feq ℕ (length w) (length B.bytes))) (fbor (α ∷ []) (Held u8 (length B.bytes) B.b B.o γ))

abbrev pub now_as : (k : Kind) → List ℕ → LastAs k → List ℕ
now_as shr ys w = ys
now_as mut ys w = w

abbrev pub after : (B : Slice) → LastAs B.kind → Slice
after B w = record { kind = B.kind; bytes = now_as B.kind B.bytes w; b = B.b; o = B.o }

-- ---- a list of them
-- what the logic names each slice by: its lifetime, and the ghost name of a `&mut`
abbrev pub Ids : List Slice → Type 0
Ids [] = Unit {0}
Ids (B ∷ L) = (ℕ × GName) × Ids L

-- the bytes in which each `&mut` slice ends, and the slices with these bytes
abbrev pub LastValues : List Slice → Type 0
LastValues [] = Unit {0}
LastValues (B ∷ L) = LastAs B.kind × LastValues L

abbrev pub afters : (L : List Slice) → LastValues L → List Slice
afters [] ws = []
afters (B ∷ L) ws = after B ws.0 ∷ afters L ws.1

abbrev pub vals_of : List Slice → List Val
vals_of [] = []
vals_of (B ∷ L) = val_of B ∷ vals_of L

-- what a function of these slices binds, slice by slice: its lifetime, the share of it, its reference and its machine value
abbrev pub Lifetimes : List Slice → Type 0
Lifetimes [] = Unit {0}
Lifetimes (B ∷ L) = List ℕ × Lifetimes L

abbrev pub lifetimes_of : (L : List Slice) → Ids L → Lifetimes L
lifetimes_of [] ids = tt
lifetimes_of (B ∷ L) ids = (ids.0.0 ∷ [], lifetimes_of L ids.1)

abbrev pub Shares : List Slice → Type 0
Shares [] = Unit {0}
Shares (B ∷ L) = Share × Shares L

abbrev pub shares_of : (L : List Slice) → Shares L
shares_of [] = tt
shares_of (B ∷ L) = (full_share, shares_of L)

abbrev pub References : List Slice → Type 0
References [] = Unit {0}
References (B ∷ L) = RefAs B.kind × References L

abbrev pub references_of : (L : List Slice) → Ids L → References L
references_of [] ids = tt
references_of (B ∷ L) ids = (ref_of B ids.0.1, references_of L ids.1)

abbrev pub Passed : List Slice → Type 0
Passed [] = Unit {0}
Passed (B ∷ L) = List Val × Passed L

abbrev pub passed_of : (L : List Slice) → Passed L
passed_of [] = tt
passed_of (B ∷ L) = (val_of B ∷ [], passed_of L)

-- each slice's bytes have room: the logic makes a slice of at most 2 ^ 63 - 1 bytes
abbrev pub Rooms : List Slice → Type 0
Rooms [] = Unit {0}
Rooms (B ∷ L) = Room u8 (length B.bytes) × Rooms L

abbrev pub SameLengths : (L : List Slice) → LastValues L → Type 0
SameLengths [] ws = Unit {0}
SameLengths (B ∷ L) ws = (length (now_as B.kind B.bytes ws.0) ≡ length B.bytes) × SameLengths L ws.1

abbrev pub AreBytes : List Slice → Type 0
AreBytes [] = Unit {0}
AreBytes (B ∷ L) = AllFit w8 B.bytes × AreBytes L

abbrev pub owns_of : ℕ → (L : List Slice) → Ids L → Fml
owns_of i [] ids = ftrue
owns_of i (B ∷ L) ids = fsep (own_as B.kind i ids.0.0 ids.0.1 B) (owns_of (suc i) L ids.1)

abbrev pub asides_of : (L : List Slice) → Ids L → Fml
asides_of [] ids = ftrue
asides_of (B ∷ L) ids = fsep (aside_as B.kind ids.0.0 ids.0.1 B) (asides_of L ids.1)

abbrev pub lefts_of : (L : List Slice) → Ids L → LastValues L → Fml
lefts_of [] ids ws = ftrue
lefts_of (B ∷ L) ids ws = fsep (left_as B.kind ids.0.0 ids.0.1 B ws.0) (lefts_of L ids.1 ws.1)

module _ {M : Type 1} {𝓤 : Ura M} (𝓛 : Logic 𝓤) where
  open 𝓛 use {H, A}

  abbrev ◌∗◌ : SProp 𝓤 → SProp 𝓤 → SProp 𝓤
  P ∗ Q = sep 𝓤 P Q

  abbrev ⟦◌⟧ : Fml → SProp 𝓤
  ⟦ P ⟧ = sem 𝓛 P

  infixr 35 ◌∗◌
  abbrev pub cells_at : Slice → SProp 𝓤
  cells_at B = run 𝓤 H full_share w8 B.b B.o B.bytes

  abbrev pub cells_of : List Slice → SProp 𝓤
  cells_of [] = emp 𝓤
  cells_of (B ∷ L) = cells_at B ∗ cells_of L

  abbrev pub toks_of : (L : List Slice) → Ids L → SProp 𝓤
  toks_of [] ids = emp 𝓤
  toks_of (B ∷ L) ids = A.lft (ids.0.0 ∷ []) full_share ∗ toks_of L ids.1

  -- ---- bytes in memory
  cells_in : (xs : List ℕ) (b o : ℕ) → ent 𝓤 (run 𝓤 H full_share w8 b o xs) ⟦ cells (mem u8) xs b o ⟧
  cells_in [] b o = id⊢ 𝓤 (emp 𝓤)
  cells_in (x ∷ xs) b o = qed 𝓛 (‵ (fat full_share (ty_int w8) b o (vint w8 x)) ∷ raw (run 𝓤 H full_share w8 b (o + 1) xs) ∷ []) ∵
      use1 𝓛 (‵ (part_at u8 full_share x b o)) (uint_in 𝓛 full_share w8 x b o) $ frame ! $ by ! (cells_in xs b (o + 1))

  cells_out : (xs : List ℕ) (b o : ℕ) → ent 𝓤 ⟦ cells (mem u8) xs b o ⟧ (run 𝓤 H full_share w8 b o xs)
  cells_out [] b o = id⊢ 𝓤 (emp 𝓤)
  cells_out (x ∷ xs) b o = qed 𝓛 (‵ (part_at u8 full_share x b o) ∷ ‵ (cells (mem u8) xs b (o + 1)) ∷ []) ∵
      use1 𝓛 (‵ (fat full_share (ty_int w8) b o (vint w8 x))) (uint_out 𝓛 full_share w8 x b o) $ frame ! $ by ! (cells_out xs b (o + 1))

  parts_in : (xs : List ℕ) (b o : ℕ) → ent 𝓤 (run 𝓤 H full_share w8 b o xs) ⟦ parts (mem u8) (shares u8) full_share xs b o ⟧
  parts_in [] b o = id⊢ 𝓤 (emp 𝓤)
  parts_in (x ∷ xs) b o = qed 𝓛 (‵ (fat full_share (ty_int w8) b o (vint w8 x)) ∷ raw (run 𝓤 H full_share w8 b (o + 1) xs) ∷ []) ∵
      use1 𝓛 (‵ (part_at u8 full_share x b o)) (uint_in 𝓛 full_share w8 x b o) $ frame ! $ by ! (parts_in xs b (o + 1))

  parts_out : (xs : List ℕ) (b o : ℕ) → ent 𝓤 ⟦ parts (mem u8) (shares u8) full_share xs b o ⟧ (run 𝓤 H full_share w8 b o xs)
  parts_out [] b o = id⊢ 𝓤 (emp 𝓤)
  parts_out (x ∷ xs) b o = qed 𝓛 (‵ (part_at u8 full_share x b o) ∷ ‵ (parts (mem u8) (shares u8) full_share xs b (o + 1)) ∷ []) ∵
      use1 𝓛 (‵ (fat full_share (ty_int w8) b o (vint w8 x))) (uint_out 𝓛 full_share w8 x b o) $ frame ! $ by ! (parts_out xs b (o + 1))

  pub fits : (xs : List ℕ) (b o : ℕ) → ent 𝓤 (run 𝓤 H full_share w8 b o xs) (guard 𝓤 (AllFit w8 xs) (run 𝓤 H full_share w8 b o xs))
  fits [] b o = qed 𝓛 [] ∵ check ! tt $ done !
  fits (x ∷ xs) b o = qed 𝓛 (‵ (fat full_share (ty_int w8) b o (vint w8 x)) ∷ raw (run 𝓤 H full_share w8 b (o + 1) xs) ∷ []) ∵
      well_typed ! (λ t. move ! (1 ∷ []) $ use1 𝓛 (given (AllFit w8 xs) (raw (run 𝓤 H full_share w8 b (o + 1) xs))) (fits xs b (o + 1)) $ learn ! (λ f.
      check ! (t.1, f) $ move ! (1 ∷ 0 ∷ []) $ done !))

  pub are_bytes : (L : List Slice) → ent 𝓤 (cells_of L) (guard 𝓤 (AreBytes L) (cells_of L))
  are_bytes [] = qed 𝓛 [] ∵ check ! tt $ done !
  are_bytes (B ∷ L) = qed 𝓛 (raw (cells_at B) ∷ raw (cells_of L) ∷ []) ∵
      use1 𝓛 (given (AllFit w8 B.bytes) (raw (cells_at B))) (fits B.bytes B.b B.o) $ learn ! (λ f. move ! (1 ∷ []) $
      use1 𝓛 (given (AreBytes L) (raw (cells_of L))) (are_bytes L) $ learn ! (λ fs. check ! (f, fs) $ move ! (1 ∷ 0 ∷ []) $ done !))

  -- ---- one slice is lent, and taken back
  abbrev Handed : ℕ → Slice → ℕ × GName → SProp 𝓤
  Handed i B id = A.lft (id.0 ∷ []) full_share ∗ (⟦ own_as B.kind i id.0 id.1 B ⟧ ∗ ⟦ aside_as B.kind id.0 id.1 B ⟧)

  lend : (k : Kind) (i : ℕ) (ys : List ℕ) (b o : ℕ) → Room u8 (length ys)
      → ent 𝓤 (run 𝓤 H full_share w8 b o ys) (H.⇛ (ex 𝓤 (Handed i (record { kind = k; bytes = ys; b = b; o = o }))))
  lend shr i ys b o rm = qed 𝓛 (raw (run 𝓤 H full_share w8 b o ys) ∷ []) ∵ updating ! $ use1 𝓛 (‵ (parts (mem u8) (shares u8) full_share ys b o)) (parts_in ys b o) $
      feq_i ! ℕ (length ys) (length ys) refl $ fjoin ! $ lft_new ! tt (λ α. move ! (1 ∷ []) $
      use2 𝓛 (later ((‵ ((ShrSlice (named i) (α ∷ []) u8).own_val (record { ref_ptr = (b, o); now = ys }) (slice_val (b, o) (length ys) ∷ [])) ⊛ ‵ (flent (α ∷ []) ((arr_parts (shares u8) (length ys)).part full_share ys b o))) ⊛ ‵ (flft (α ∷ []) full_share)))
      (lends_shr_slice 𝓛 u8 (named i) (α ∷ []) full_share ys b o rm (α ∷ []) ((uint_Copied 𝓛 w8).shares full_share (α ∷ [])) ((α ∷ [], full_share) ∷ []) (Incl-refl (α ∷ [])) (Incl-refl (α ∷ []))) $
      await ! tt $ split ! $ split ! $ at_once ! $ show ! (Handed i (record { kind = shr; bytes = ys; b = b; o = o })) (α, 0) $ move ! (2 ∷ 0 ∷ 1 ∷ []) $ done !)
  lend mut i ys b o rm = qed 𝓛 (raw (run 𝓤 H full_share w8 b o ys) ∷ []) ∵ updating ! $ use1 𝓛 (‵ (cells (mem u8) ys b o)) (cells_in ys b o) $
      lft_new ! tt (λ α. move ! (1 ∷ []) $
      use1 𝓛 (later (some (λ (γ : GName). ‵ ((MutSlice (named i) (α ∷ []) u8).own_val (record { ref_ptr = (b, o); ghost_name = γ; now = ys }) (slice_val (b, o) (length ys) ∷ [])) ⊛ ‵ (flent (α ∷ []) (Held u8 (length ys) b o γ)))))
      (lends_slice 𝓛 u8 (named i) (α ∷ []) ys b o rm) $ await ! tt $ pick ! (λ γ. split ! $ at_once ! $ show ! (Handed i (record { kind = mut; bytes = ys; b = b; o = o })) (α, γ) $ move ! (2 ∷ 0 ∷ 1 ∷ []) $ done !))

  back : (k : Kind) (α : ℕ) (γ : GName) (ys : List ℕ) (b o : ℕ) (w : LastAs k)
      → ent 𝓤 (A.lft (α ∷ []) full_share ∗ (⟦ left_as k α γ (record { kind = k; bytes = ys; b = b; o = o }) w ⟧ ∗ ⟦ aside_as k α γ (record { kind = k; bytes = ys; b = b; o = o }) ⟧))
      (H.⇛ (guard 𝓤 (length (now_as k ys w) ≡ length ys) (run 𝓤 H full_share w8 b o (now_as k ys w))))
  back shr α γ ys b o w = qed 𝓛 (‵ (flft (α ∷ []) full_share) ∷ ‵ ftrue ∷ ‵ (flent (α ∷ []) ((arr_parts (shares u8) (length ys)).part full_share ys b o)) ∷ []) ∵ updating ! $
      lft_end ! tt $ move ! (0 ∷ 2 ∷ []) $ lent_back ! tt $ fsplit ! $ drop ! $ at_once ! $ check ! refl $ keep ! (0 ∷ []) $ by ! (parts_out ys b o)
  back mut α γ ys b o w = qed 𝓛 (‵ (flft (α ∷ []) full_share) ∷ ‵ (fsep (fsep (finally u8 γ w) (feq ℕ (length w) (length ys))) (fbor (α ∷ []) (Held u8 (length ys) b o γ))) ∷ ‵ (flent (α ∷ []) (Held u8 (length ys) b o γ)) ∷ []) ∵ updating ! $
      lft_end ! tt $ move ! (1 ∷ []) $ fsplit ! $ move ! (1 ∷ []) $ drop ! $ fsplit ! $ move ! (1 ∷ []) $ feq_l ! (λ e. move ! (1 ∷ 2 ∷ 0 ∷ []) $
      use3 𝓛 (later (‵ ((Arr (mem u8) (length ys)).own_at w b o))) (slice_back 𝓛 u8 (α ∷ []) γ w (length ys) b o) $ await ! tt $ at_once ! $ fsplit ! $ drop ! $ check ! e $ by ! (cells_out w b o))

  -- ---- a list of slices
  abbrev pub HandedAll : ℕ → (L : List Slice) → Ids L → SProp 𝓤
  HandedAll i L ids = ⟦ asides_of L ids ⟧ ∗ (toks_of L ids ∗ ⟦ owns_of i L ids ⟧)

  pub hands_out : (i : ℕ) (L : List Slice) → Rooms L → ent 𝓤 (cells_of L) (H.⇛ (ex 𝓤 (HandedAll i L)))
  hands_out i [] rm = qed 𝓛 [] ∵ updating ! $ at_once ! $ show ! (HandedAll i []) tt $ nothing ! $ nothing ! $ nothing ! $ done !
  hands_out i (B ∷ L) rm = qed 𝓛 (raw (cells_at B) ∷ raw (cells_of L) ∷ []) ∵ updating ! $
      use1 𝓛 (later (some (λ (id : ℕ × GName). ‵ (flft (id.0 ∷ []) full_share) ⊛ (‵ (own_as B.kind i id.0 id.1 B) ⊛ ‵ (aside_as B.kind id.0 id.1 B)))))
      (lend B.kind i B.bytes B.b B.o rm.0) $ await ! tt $ pick ! (λ id. split ! $ move ! (1 ∷ []) $ split ! $
      -- [own; aside; token; the rest]
      move ! (3 ∷ []) $ use1 𝓛 (later (some (λ (ids : Ids L). ‵ (asides_of L ids) ⊛ (raw (toks_of L ids) ⊛ ‵ (owns_of (suc i) L ids))))) (hands_out (suc i) L rm.1) $ await ! tt $ pick ! (λ ids.
      split ! $ move ! (1 ∷ []) $ split ! $ at_once ! $ show ! (HandedAll i (B ∷ L)) (id, ids) $
      -- [tokens; owns; asides; own; aside; token]
      move ! (4 ∷ 2 ∷ 5 ∷ 0 ∷ 3 ∷ 1 ∷ []) $ fjoin ! $ frame ! $ join ! $ frame ! $ fjoin ! $ done !))

  pub takes_back : (L : List Slice) (ids : Ids L) (ws : LastValues L) → ent 𝓤 (toks_of L ids ∗ (⟦ lefts_of L ids ws ⟧ ∗ ⟦ asides_of L ids ⟧)) (H.⇛ (guard 𝓤 (SameLengths L ws) (cells_of (afters L ws))))
  takes_back [] ids ws = qed 𝓛 (‵ ftrue ∷ ‵ ftrue ∷ ‵ ftrue ∷ []) ∵ updating ! $ at_once ! $ check ! tt $ keep ! [] $ done !
  takes_back (B ∷ L) ids ws =
      qed 𝓛 ((‵ (flft (ids.0.0 ∷ []) full_share) ⊛ raw (toks_of L ids.1)) ∷ ‵ (lefts_of (B ∷ L) ids ws) ∷ ‵ (asides_of (B ∷ L) ids) ∷ []) ∵ updating ! $
      split ! $ move ! (2 ∷ []) $ fsplit ! $ move ! (4 ∷ []) $ fsplit ! $
      -- [aside; asides; left; lefts; token; tokens]
      move ! (4 ∷ 2 ∷ 0 ∷ []) $
      use3 𝓛 (later (given (length (now_as B.kind B.bytes ws.0) ≡ length B.bytes) (raw (cells_at (after B ws.0))))) (back B.kind ids.0.0 ids.0.1 B.bytes B.b B.o ws.0) $ await ! tt $ learn ! (λ e.
      -- [the slice; asides; lefts; tokens]
      move ! (3 ∷ 2 ∷ 1 ∷ []) $ use3 𝓛 (later (given (SameLengths L ws.1) (raw (cells_of (afters L ws.1))))) (takes_back L ids.1 ws.1) $ await ! tt $ learn ! (λ es.
      at_once ! $ check ! (e, es) $ move ! (1 ∷ 0 ∷ []) $ done !))
