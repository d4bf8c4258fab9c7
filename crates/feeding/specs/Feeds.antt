-- What a whole line, and what a part of the input, lead to.
use Rattle.std.specs.Prelude.{ℕ, ◌+◌, ◌-◌, ◌*◌, ◌≤◌, ◌≡◌, refl, List, [], ◌∷◌, ◌++◌, length, get_or, drop}
use Rattle.std.proofs.Common.{sym, ◌∙◌, subst, append_assoc, append-nil, arith, length-take, length-drop, take-add, take_all, drop-drop}
use Rattle.std.proofs.Math.Path.{ap}
use Rattle.std.proofs.Math.ListN.{take}
use Rattle.rows.specs.Splice.{cut}
use Rattle.ledger.specs.Lines.{frame_of}
use Rattle.mcx11.specs.Contract.{Memory}
use Rattle.mcx11.specs.Answer.{answer_of}
use Rattle.feeding.specs.declared.Stage.{Stage}
use Rattle.feeding.specs.declared.Stage.TheVariants.{First, Running, Ended}
use Rattle.feeding.specs.declared.Answered.{Answered}
use Rattle.feeding.specs.declared.Reached.{Reached}
use Rattle.feeding.specs.Input.{Stands, first, runs, over, print, printing, configures, steps, Said, line_fed, Fed, behind, fed, last}
use Rattle.feeding.specs.Whole.{parts}
use Rattle.feeding.specs.Line.{most, Keeps, keeps_none, Gathering, GathersLine, line_cut, cut_none}
use Rattle.feeding.specs.Replies.{At, stage_number, Answers, FirstReply, GoesOn}

-- nothing is fed yet
abbrev pub begun : Reached
begun = record { next = 0; stage = First; held = 0; printed = 0 }

-- the next block is to be fed, into an output that is empty again
abbrev pub again : Reached → Reached
again r = record { next = 0; stage = r.stage; held = r.held; printed = 0 }

-- a whole line, answered
pub record Says (line : List ℕ) (p : Stage) (m : Memory) (out : List ℕ) (printed : ℕ) (m' : Memory) (out' : List ℕ) (r : Answered) : Type 0 where
  pub tells : (s : Stands) → At s p m → let f = line_fed s line in At f.stand r.stage m' × (take r.printed out' ≡ take printed out ++ f.text)

-- all that is lent: the line, the executive's memory, the output
pub record Lent : Type 0 where
  pub line : List ℕ
  pub memory : Memory
  pub out : List ℕ

abbrev pub lent : List ℕ → Memory → List ℕ → Lent
lent line m out = record { line = line; memory = m; out = out }

-- a part of the input, fed
pub record Feeds (bytes : List ℕ) (r : Reached) (x : Lent) (r' : Reached) (x' : Lent) : Type 0 where
  pub tells : (s : Stands) (l : List ℕ) → At s r.stage x.memory → Keeps l r.held x.line
      → let f = fed s l bytes in
      At f.stand r'.stage x'.memory × Keeps f.line r'.held x'.line × (take r'.printed x'.out ≡ take r.printed x.out ++ f.text)

-- the end of the input
pub record Ends (r : Reached) (x : Lent) (out' : List ℕ) (printed' : ℕ) : Type 0 where
  pub tells : (s : Stands) (l : List ℕ) → At s r.stage x.memory → Keeps l r.held x.line → take printed' out' ≡ take r.printed x.out ++ last s l

-- ---- a whole line, stage by stage

-- what `print` promises of the answer block
abbrev pub Prints : (answer out : List ℕ) → ℕ → (out' : List ℕ) → ℕ → Type 0
Prints a out printed out' r = get_or a 0 0 ≤ 20 → take r out' ≡ take printed out ++ print (cut a 1 (1 + get_or a 0 0))

prints : (a out out' : List ℕ) (m : Memory) (printed r : ℕ) → Answers a m → Prints m.answer out printed out' r → take r out' ≡ take printed out ++ print a
unfolding answer_of
prints a out out' m printed r h p = p h.short ∙ ap (λ (x : List ℕ). take printed out ++ print x) h.is

module _ (line : List ℕ) {p₀ : Stage} (m m' : Memory) (out out' : List ℕ) (printed k : ℕ) where
  pub says_first : {p : Stage} → p₀ ≡ First → FirstReply (frame_of line) m' p → Prints m'.answer out printed out' k → Says line p₀ m out printed m' out' (record { stage = p; printed = k })
  unfolding At line_fed printing stage_number
  says_first {p} q b e = record { tells = go }
    where
      go : (s : Stands) → At s p₀ m → let f = line_fed s line in At f.stand p m' × (take k out' ≡ take printed out ++ f.text)
      go first h = (b.stands, prints (configures (frame_of line)).answer out out' m' printed k b.answers e)
      go (runs c l) h = absurd (omega (arith, ap stage_number (sym q ∙ h.0)))
      go over h = absurd (omega (arith, ap stage_number (sym q ∙ h)))

  pub says_next : p₀ ≡ Running → GoesOn (frame_of line) m m' → Prints m'.answer out printed out' k → Says line p₀ m out printed m' out' (record { stage = Running; printed = k })
  unfolding At line_fed printing steps stage_number
  says_next q g e = record { tells = go }
    where
      go : (s : Stands) → At s p₀ m → let f = line_fed s line in At f.stand Running m' × (take k out' ≡ take printed out ++ f.text)
      go first h = absurd (omega (arith, ap stage_number (sym q ∙ h)))
      go (runs c l) h = let t = g.tells c l (refl, h.1, h.2, h.3, h.4) in (t.0, prints (steps c l (frame_of line)).answer out out' m' printed k t.1 e)
      go over h = absurd (omega (arith, ap stage_number (sym q ∙ h)))

pub says_ended : (line : List ℕ) {p₀ : Stage} (m : Memory) (out : List ℕ) (printed : ℕ) → p₀ ≡ Ended → Says line p₀ m out printed m out (record { stage = Ended; printed = printed })
unfolding At line_fed stage_number
says_ended line {p₀} m out printed q = record { tells = go }
  where
    go : (s : Stands) → At s p₀ m → let f = line_fed s line in At f.stand Ended m × (take printed out ≡ take printed out ++ f.text)
    go first h = absurd (omega (arith, ap stage_number (sym q ∙ h)))
    go (runs c l) h = absurd (omega (arith, ap stage_number (sym q ∙ h.0)))
    go over h = (refl, sym (append-nil (take printed out)))

-- ---- a turn

-- what is fed, as it is known
module _ (r r' : Reached) (x x' : Lent) (bytes : List ℕ) where
  fed_as : (s : Stands) (l : List ℕ) (f : Fed) → fed s l bytes ≡ f
      → At f.stand r'.stage x'.memory → Keeps f.line r'.held x'.line → take r'.printed x'.out ≡ take r.printed x.out ++ f.text
      → let f = fed s l bytes in At f.stand r'.stage x'.memory × Keeps f.line r'.held x'.line × (take r'.printed x'.out ≡ take r.printed x.out ++ f.text)
  fed_as s l f e a k t =
      subst (λ (y : Fed). At y.stand r'.stage x'.memory × Keeps y.line r'.held x'.line × (take r'.printed x'.out ≡ take r.printed x.out ++ y.text)) (sym e) (a, k, t)

module _ (input : List ℕ) (r : Reached) (line line' : List ℕ) (m : Memory) (out : List ℕ) where
  pub turns_part : (held : ℕ) → Gathering input r.next line r.held (length input) held line'
      → Feeds (cut input r.next (length input)) r (lent line m out) (record { next = length input; stage = r.stage; held = held; printed = r.printed }) (lent line' m out)
  turns_part held h = record {
    tells = λ s l a k.
        let u = h.keeps l k in
        let bytes = cut input r.next (length input) in
        fed_as r (record { next = length input; stage = r.stage; held = held; printed = r.printed }) (lent line m out) (lent line' m out) bytes s l
        (record { stand = s; line = l ++ bytes; text = [] }) (u.1 s) a u.0 (sym (append-nil (take r.printed out)));
  }

  pub turns_line : (next held : ℕ) → GathersLine input r.next line r.held line' next held → (m' : Memory) (out' : List ℕ) (a : Answered) → Says (take held line') r.stage m out r.printed m' out' a
      → Feeds (cut input r.next next) r (lent line m out) (record { next = next; stage = a.stage; held = 0; printed = a.printed }) (lent line' m' out')
  turns_line next held h m' out' a says = record {
    tells = λ s l at k.
        let u = h.keeps l k in
        let K = l ++ cut input r.next (next - 1) in
        let q : line_fed s (take held line') ≡ line_fed s K = ap (line_fed s) u.0.bytes ∙ line_cut s K in
        let v = subst (λ (y : Said). At y.stand a.stage m' × (take a.printed out' ≡ take r.printed out ++ y.text)) q (says.tells s at) in
        fed_as r (record { next = next; stage = a.stage; held = 0; printed = a.printed }) (lent line m out) (lent line' m' out')
        (cut input r.next next) s l (record { stand = (line_fed s K).stand; line = []; text = (line_fed s K).text }) (u.1 s) v.0 (keeps_none line') v.1;
  }

-- ---- turn by turn

pub feeds_none : (input : List ℕ) (from : ℕ) (r : Reached) (x : Lent) → Feeds (cut input from from) r x r x
unfolding fed
feeds_none input from r x = record {
  tells = λ s l a k.
      fed_as r r x x (cut input from from) s l (record { stand = s; line = l; text = [] }) (ap (fed s l) (cut_none input from)) a k (sym (append-nil (take r.printed x.out)));
}

cut_append : (input : List ℕ) (a b c : ℕ) → a ≤ b → b ≤ c → cut input a c ≡ cut input a b ++ cut input b c
cut_append input a b c h k =
    let e : c - a ≡ (b - a) + (c - b) = omega arith in
    let f : a + (b - a) ≡ b = omega arith in
    ap (λ (n : ℕ). take n (drop a input)) e ∙ take-add (b - a) (c - b) (drop a input) ∙ ap (λ (d : List ℕ). cut input a b ++ take (c - b) d) (drop-drop (b - a) a input ∙ ap (λ (n : ℕ). drop n input) f)

pub feeds_on : (input : List ℕ) (r r₁ r₂ : Reached) (x x₁ x₂ : Lent) → r.next ≤ r₁.next → r₁.next ≤ r₂.next
    → Feeds (cut input r.next r₁.next) r x r₁ x₁ → Feeds (cut input r₁.next r₂.next) r₁ x₁ r₂ x₂ → Feeds (cut input r.next r₂.next) r x r₂ x₂
unfolding behind
feeds_on input r r₁ r₂ x x₁ x₂ a b h h' = record {
  tells = λ s l at k.
      let p = cut input r.next r₁.next in
      let q = cut input r₁.next r₂.next in
      let f = fed s l p in
      let u = h.tells s l at k in
      let v = h'.tells f.stand f.line u.0 u.1 in
      let g = fed f.stand f.line q in
      fed_as r r₂ x x₂ (cut input r.next r₂.next) s l (behind f.text g)
      (ap (fed s l) (cut_append input r.next r₁.next r₂.next a b) ∙ parts s l p q) v.0 v.1
      (v.2 ∙ ap (λ (t : List ℕ). t ++ g.text) u.2 ∙ append_assoc (take r.printed x.out) f.text g.text);
}

pub feeds_all : (input : List ℕ) (r r' : Reached) (x x' : Lent) → r.next ≤ length input → length input ≤ r'.next → Feeds (cut input r.next r'.next) r x r' x' → Feeds (drop r.next input) r x r' x'
feeds_all input r r' x x' h k f =
    let e : cut input r.next r'.next ≡ drop r.next input = take_all (r'.next - r.next) (drop r.next input) (simp length-drop (omega arith)) in
    subst (λ (b : List ℕ). Feeds b r x r' x') e f

-- the loop: the input is fed from the first byte up to the next
pub record Going (input : List ℕ) (r₀ : Reached) (x₀ : Lent) (r : Reached) (x : Lent) : Type 0 where
  pub from_on : r₀.next ≤ r.next
  pub up_to : r.next ≤ length input
  pub few : r.held ≤ most
  pub room : r.printed ≤ 41 * r.next
  pub feeds : Feeds (cut input r₀.next r.next) r₀ x₀ r x

-- ---- the end

pub ends_none : (r : Reached) (x : Lent) → r.held ≡ 0 → Ends r x x.out r.printed
unfolding last
ends_none r x z = record { tells = go }
  where
    go : (s : Stands) (l : List ℕ) → At s r.stage x.memory → Keeps l r.held x.line → take r.printed x.out ≡ take r.printed x.out ++ last s l
    go s [] a k = sym (append-nil (take r.printed x.out))
    go s (b ∷ l) a k = absurd (omega (arith, k.many, length-take most (b ∷ l)))

pub ends_line : (r : Reached) (line : List ℕ) (m m' : Memory) (out out' : List ℕ) (a : Answered) → (r.held ≡ 0 → ⊥) → Says (take r.held line) r.stage m out r.printed m' out' a
    → Ends r (lent line m out) out' a.printed
unfolding last
ends_line r line m m' out out' a z says = record { tells = go }
  where
    go : (s : Stands) (l : List ℕ) → At s r.stage m → Keeps l r.held line → take a.printed out' ≡ take r.printed out ++ last s l
    go s [] at k = absurd (z k.many)
    go s (b ∷ l) at k =
        let q : line_fed s (take r.held line) ≡ line_fed s (b ∷ l) = ap (line_fed s) k.bytes ∙ line_cut s (b ∷ l) in
        subst (λ (y : Said). take a.printed out' ≡ take r.printed out ++ y.text) q (says.tells s at).1
