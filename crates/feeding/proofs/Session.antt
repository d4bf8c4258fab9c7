-- The whole session: whatever the blocks of the input, the outputs of `feed` and `finish` make up the ledger's `output` of it.
-- A call is what the checker says that a caller of the function learns.
use Prim.Native.Nat.{ℕ}
use mathlib.Core.Path.{◌≡◌, refl, sym, ap, ◌∙◌, subst}
use mathlib.Core.List.{List, [], ◌∷◌, ◌++◌, append_assoc, append-nil}
use lib.ListN.{take, drop}
use contract.Lifetimes.{Lfts}
use borrow.Fn.World.{ArgsD, ResD}
use borrow.Fn.Kinds.{ended_of}
use denote.Triple.Clauses.{Lasts, at_exit}
use Rattle.ledger.specs.Lines.{output}
use Rattle.mcx11.specs.Contract.{memory}
use Rattle.feeding.specs.declared.Reached.{Reached}
use Rattle.feeding.specs.declared.Stage.TheVariants.{Ended}
use Rattle.feeding.specs.Input.{Stands, first, over, Fed, behind, fed, last}
use Rattle.feeding.specs.Whole.{parts, text, over_silent}
use Rattle.feeding.proofs.Whole.{whole}
use Rattle.feeding.specs.Line.{Keeps, keeps_none}
use Rattle.feeding.specs.Replies.{At, only_over}
use Rattle.feeding.specs.Feeds.{begun, again, Lent, lent, Feeds, Ends}
use Rattle.feeding.specs.contracts.feed as feed
use Rattle.feeding.proofs.feed.Kinds as feed-kinds
use Rattle.feeding.proofs.feed.Reads as feed-reads
use Rattle.feeding.specs.contracts.finish as finish
use Rattle.feeding.proofs.finish.Kinds as finish-kinds
use Rattle.feeding.proofs.finish.Reads as finish-reads

-- what a call of `feed` is lent, and what it leaves
abbrev feed_lent : (κs : Lfts 8) → ArgsD feed.signature κs → Lent
feed_lent κs a = lent a.1.1.0.now (memory a.1.1.1.0.now a.1.1.1.1.0.now a.1.1.1.1.1.0.now a.1.1.1.1.1.1.0.now a.1.1.1.1.1.1.1.0.now) a.1.1.1.1.1.1.1.1.0.now

abbrev feed_left : (κs : Lfts 8) (a : ArgsD feed.signature κs) → Lasts (ended_of 8 feed-kinds.ps feed-kinds.r) κs a → Lent
feed_left κs a w = lent w.1.1.0 (memory w.1.1.1.0 w.1.1.1.1.0 w.1.1.1.1.1.0 w.1.1.1.1.1.1.0 w.1.1.1.1.1.1.1.0) w.1.1.1.1.1.1.1.1.0

-- One call of `feed` with a block, from its first byte on
pub record FeedCall (block : List ℕ) (r : Reached) (x : Lent) (r' : Reached) (x' : Lent) : Type 0 where
  pub κs : Lfts 8
  pub a : ArgsD feed.signature κs
  pub n : ResD feed.signature κs
  pub w : Lasts (ended_of 8 feed-kinds.ps feed-kinds.r) κs a
  pub asked : feed-reads.Asked κs a
  pub learnt : feed-reads.Learnt κs a n (at_exit (ended_of 8 feed-kinds.ps feed-kinds.r) κs a w)
  pub bytes : a.0.now ≡ block
  pub reached : a.1.0 ≡ again r
  pub before : feed_lent κs a ≡ x
  pub after : feed_left κs a w ≡ x'
  pub result : n ≡ r'

feeds : {block : List ℕ} {r r' : Reached} {x x' : Lent} → FeedCall block r x r' x' → Feeds block (again r) x r' x'
feeds {r = r} s =
    let x = feed_lent s.κs s.a in
    let x' = feed_left s.κs s.a s.w in
    let h : Feeds s.a.0.now (again r) x s.n x' = subst (λ (y : Reached). Feeds (drop y.next s.a.0.now) y x s.n x') s.reached s.learnt.3 in
    rw (← s.bytes, ← s.before, ← s.after, ← s.result) h

-- One call of `finish`
pub record FinishCall (r : Reached) (x : Lent) (out' : List ℕ) (printed' : ℕ) : Type 0 where
  pub κs : Lfts 7
  pub a : ArgsD finish.signature κs
  pub n : ResD finish.signature κs
  pub w : Lasts (ended_of 7 finish-kinds.ps finish-kinds.r) κs a
  pub asked : finish-reads.Asked κs a
  pub learnt : finish-reads.Learnt κs a n (at_exit (ended_of 7 finish-kinds.ps finish-kinds.r) κs a w)
  pub reached : a.0 ≡ again r
  pub before : lent a.1.0.now (memory a.1.1.0.now a.1.1.1.0.now a.1.1.1.1.0.now a.1.1.1.1.1.0.now a.1.1.1.1.1.1.0.now) a.1.1.1.1.1.1.1.0.now ≡ x
  pub after : w.1.1.1.1.1.1.1.0 ≡ out'
  pub result : n ≡ printed'

ends : {r : Reached} {x : Lent} {out' : List ℕ} {printed' : ℕ} → FinishCall r x out' printed' → Ends (again r) x out' printed'
ends s = rw (← s.reached, ← s.before, ← s.after, ← s.result) s.learnt.1

-- A list of calls of `feed`: each is lent all as the call before it left it, and what it printed is written out before the next
pub data Calls : (blocks : List (List ℕ)) → Reached → Lent → (outputs : List (List ℕ)) → Reached → Lent → Type 0 where
  none : {r : Reached} {x : Lent} → Calls [] r x [] r x
  call : {b : List ℕ} {bs outputs : List (List ℕ)} {r r₁ r' : Reached} {x x₁ x' : Lent}
      → FeedCall b r x r₁ x₁ → Calls bs r₁ x₁ outputs r' x' → Calls (b ∷ bs) r x (take r₁.printed x₁.out ∷ outputs) r' x'

unfoldable pub joined : List (List ℕ) → List ℕ
joined [] = []
joined (b ∷ bs) = b ++ joined bs

goes : {bs outputs : List (List ℕ)} {r r' : Reached} {x x' : Lent} → Calls bs r x outputs r' x'
    → (s : Stands) (l : List ℕ) → At s r.stage x.memory → Keeps l r.held x.line
    → let f = fed s l (joined bs) in At f.stand r'.stage x'.memory × Keeps f.line r'.held x'.line × (joined outputs ≡ f.text)
unfolding joined fed behind
goes none s l a k = (a, k, refl)
goes (call {b = b} {bs = bs} {outputs = outputs} {r₁ = r₁} {r' = r'} {x₁ = x₁} {x' = x'} h more) s l a k =
    let u = (feeds h).tells s l a k in
    let f = fed s l b in
    let v = goes more f.stand f.line u.0 u.1 in
    let g = fed f.stand f.line (joined bs) in
    subst (λ (y : Fed). At y.stand r'.stage x'.memory × Keeps y.line r'.held x'.line × (take r₁.printed x₁.out ++ joined outputs ≡ y.text)) (sym (parts s l b (joined bs)))
    (v.0, v.1, ap (λ (t : List ℕ). t ++ joined outputs) u.2 ∙ ap (λ (t : List ℕ). f.text ++ t) v.2)

-- For every input, in any blocks, and whatever the lent memory held
pub session : {blocks outputs : List (List ℕ)} {x x' : Lent} {r : Reached} {out : List ℕ} {printed : ℕ}
    → Calls blocks begun x outputs r x' → FinishCall r x' out printed → joined outputs ++ take printed out ≡ output (joined blocks)
unfolding At
session {blocks} {outputs} {x} {out = out} {printed = printed} c f =
    let u = goes c first [] refl (keeps_none x.line) in
    let g = fed first [] (joined blocks) in
    ap (λ (t : List ℕ). t ++ take printed out) u.2 ∙ ap (λ (t : List ℕ). g.text ++ t) ((ends f).tells g.stand g.line u.0 u.1) ∙ whole (joined blocks)

-- Where the session has ended by a refused configuration, no more is printed, whatever else the input holds
pub session_ended : {blocks outputs : List (List ℕ)} {x x' : Lent} {r : Reached}
    → Calls blocks begun x outputs r x' → r.stage ≡ Ended → (rest : List ℕ) → joined outputs ≡ output (joined blocks ++ rest)
unfolding At behind
session_ended {blocks} {outputs} {x} {x'} {r} c e rest =
    let u = goes c first [] refl (keeps_none x.line) in
    let g = fed first [] (joined blocks) in
    let o : g.stand ≡ over = only_over g.stand r.stage x'.memory u.0 e in
    let k = fed g.stand g.line rest in
    let t : k.text ++ last k.stand k.line ≡ [] = ap (λ (s : Stands). text s g.line rest) o ∙ over_silent g.line rest in
    u.2 ∙ sym (append-nil g.text) ∙ ap (λ (y : List ℕ). g.text ++ y) (sym t) ∙ sym (append_assoc g.text k.text (last k.stand k.line))
    ∙ ap (λ (f : Fed). f.text ++ last f.stand f.line) (sym (parts first [] (joined blocks) rest)) ∙ whole (joined blocks ++ rest)
