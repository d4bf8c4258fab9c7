-- The line that has no end yet, and what is held of it.
use Prim.Native.Nat.{ℕ, suc, ◌+◌, ◌-◌, ◌*◌, ◌≤◌, ◌<◌}
use Rattle.std.specs.Prelude.{◌≡◌, refl, Bool, true, false, eqb, leb, length, take, drop, set, get_or}
use Rattle.std.proofs.Common.{sym, ◌∙◌, subst, add-one, leb-true, leb-false, length-append, length-take, length-drop, take-suc, take_all, take-suc-set, get_or-drop}
use Rattle.std.proofs.Math.Path.{ap}
use mathlib.Core.List.{List, [], ◌∷◌, ◌++◌, append_assoc, append-nil}
use Rattle.std.proofs.Math.Option.{none}
use native.Mathlib.Omega.{arith}
use Rattle.std.proofs.lemmas.Bool.{lt-leb}
use Rattle.std.proofs.lemmas.List.{take-append-le}
use Rattle.rows.specs.Splice.{cut}
use Rattle.ledger.specs.Lines.{longest_frame, frame_of}
use Rattle.feeding.specs.declared.gathering.Gathered.{Gathered}
use Rattle.feeding.specs.declared.gathering.Gathered.TheVariants as gathered
use Rattle.feeding.specs.Input.{Stands, first, runs, over, line_fed, Fed, behind, fed}
use Rattle.feeding.specs.Whole.{parts}

-- one more digit than the longest line has: a line that is held so far is too long
abbrev pub most : ℕ
most = 2 * longest_frame + 1

-- the buffer's first bytes are the line's
pub record Keeps (l : List ℕ) (held : ℕ) (line : List ℕ) : Type 0 where
  pub many : held ≡ length (take most l)
  pub bytes : take held line ≡ take most l

-- what is fed of the input from a byte up to another has no end in it
abbrev Unended : List ℕ → ℕ → ℕ → List ℕ → Type 0
Unended input from to l = (s : Stands) → fed s l (cut input from to) ≡ record { stand = s; line = l ++ cut input from to; text = [] }

-- the bytes of the input, from the given one up to i, are gathered behind the line that was held, with no end among them
pub record Gathering (input : List ℕ) (from : ℕ) (line₀ : List ℕ) (held₀ i n : ℕ) (line : List ℕ) : Type 0 where
  pub from_on : from ≤ i
  pub up_to : i ≤ length input
  pub few : n ≤ most
  pub keeps : (l : List ℕ) → Keeps l held₀ line₀ → Keeps (l ++ cut input from i) n line × Unended input from i l

-- with an end, in front of the next byte
pub record GathersLine (input : List ℕ) (from : ℕ) (line : List ℕ) (held : ℕ) (line' : List ℕ) (next held' : ℕ) : Type 0 where
  pub onward : from < next
  pub up_to : next ≤ length input
  pub few : held' ≤ most
  pub keeps : (l : List ℕ) → Keeps l held line
      → let k = l ++ cut input from (next - 1) in
      Keeps k held' line' × ((s : Stands) → fed s l (cut input from next) ≡ record { stand = (line_fed s k).stand; line = []; text = (line_fed s k).text })

-- they are gathered up to an end, or up to the input's
abbrev pub Gathers : (input : List ℕ) (from : ℕ) (line : List ℕ) (held : ℕ) (line' : List ℕ) → Gathered → Type 0
Gathers input from line held line' (gathered.Line next held') = GathersLine input from line held line' next held'
Gathers input from line held line' (gathered.Part held') = Gathering input from line held (length input) held' line'

-- ---- a line that is held is read as the whole line

too_long : (l : List ℕ) → most ≤ length l → frame_of l ≡ none
unfolding frame_of
too_long l h = rw (lt-leb (length l) (2 * longest_frame) (omega arith))

frame_cut : (l : List ℕ) → frame_of (take most l) ≡ frame_of l
frame_cut l = go (leb (length l) most) refl
  where
    go : (b : Bool) → leb (length l) most ≡ b → frame_of (take most l) ≡ frame_of l
    go true e = ap frame_of (take_all most l (leb-true (length l) most e))
    go false e =
        let h = leb-false (length l) most e in
        too_long (take most l) (simp length-take (omega (arith, h))) ∙ sym (too_long l (omega (arith, h)))

pub line_cut : (s : Stands) (l : List ℕ) → line_fed s (take most l) ≡ line_fed s l
unfolding line_fed
line_cut first l = rw (frame_cut l)
line_cut (runs c k) l = rw (frame_cut l)
line_cut over l = refl

-- ---- one byte more

pub keeps_none : (line : List ℕ) → Keeps [] 0 line
keeps_none line = record { many = refl; bytes = refl }

module _ {l : List ℕ} {held : ℕ} {line : List ℕ} (b : ℕ) (k : Keeps l held line) where
  keeps_more : held < most → held < length line → Keeps (l ++ (b ∷ [])) (held + 1) (set line held b)
  keeps_more h r =
      let n : length l < most = omega (arith, k.many, length-take most l) in
      let e : take most l ≡ l = take_all most l (omega arith) in
      let f : take most (l ++ (b ∷ [])) ≡ l ++ (b ∷ []) = take_all most (l ++ (b ∷ [])) (simp length-append (omega arith)) in
      let m : held ≡ length l = k.many ∙ ap length e in
      record {
        many = ap (λ (x : ℕ). x + 1) m ∙ sym (length-append l (b ∷ [])) ∙ ap length (sym f);
        bytes = ap (λ (x : ℕ). take x (set line held b)) (add-one held) ∙ take-suc-set line held b r ∙ ap (λ (x : List ℕ). x ++ (b ∷ [])) (k.bytes ∙ e) ∙ sym f;
      }

  keeps_full : most ≤ held → Keeps (l ++ (b ∷ [])) held line
  keeps_full h =
      let n : most ≤ length l = omega (arith, k.many, length-take most l) in
      let f : take most (l ++ (b ∷ [])) ≡ take most l = take-append-le most l (b ∷ []) n in
      record { many = k.many ∙ ap length (sym f); bytes = k.bytes ∙ sym f }

pub cut_none : (input : List ℕ) (from : ℕ) → cut input from from ≡ []
cut_none input from = let e : from - from ≡ 0 = omega arith in rw e

cut_more : (input : List ℕ) (from i : ℕ) → from ≤ i → i < length input → cut input from (i + 1) ≡ cut input from i ++ (get_or input i 0 ∷ [])
cut_more input from i h r =
    let e : i + 1 - from ≡ suc (i - from) = omega arith in
    let f : from + (i - from) ≡ i = omega arith in
    ap (λ (n : ℕ). take n (drop from input)) e ∙ take-suc (drop from input) (i - from) 0 (simp length-drop (omega arith))
    ∙ ap (λ (x : ℕ). cut input from i ++ (x ∷ [])) (get_or-drop from input (i - from) 0 ∙ ap (λ (n : ℕ). get_or input n 0) f)

-- ---- the loop

pub gathering_start : (input : List ℕ) (from : ℕ) (line : List ℕ) (held : ℕ) → from ≤ length input → held ≤ most → Gathering input from line held from held line
unfolding fed
gathering_start input from line held h few =
    let e : cut input from from ≡ [] = cut_none input from in
    record {
      from_on = omega arith;
      up_to = h;
      few = few;
      keeps = λ l k. (
        subst (λ (x : List ℕ). Keeps (l ++ x) held line) (sym e) (subst (λ (x : List ℕ). Keeps x held line) (sym (append-nil l)) k),
        λ s. subst (λ (x : List ℕ). fed s l x ≡ record { stand = s; line = l ++ x; text = [] }) (sym e) (λ i. record { stand = s; line = sym (append-nil l) i; text = [] }),
      );
    }

module _ (input : List ℕ) (from : ℕ) (line₀ : List ℕ) (held₀ i n : ℕ) (line : List ℕ) (g : Gathering input from line₀ held₀ i n line) (more : i < length input) where
  abbrev b : ℕ
  b = get_or input i 0

  -- the line so far, and one byte
  abbrev next : List ℕ → List ℕ
  next l = (l ++ cut input from i) ++ (b ∷ [])

  behind_next : (l : List ℕ) → next l ≡ l ++ cut input from (i + 1)
  behind_next l = append_assoc l (cut input from i) (b ∷ []) ∙ ap (λ (x : List ℕ). l ++ x) (sym (cut_more input from i g.from_on more))

  fed_next : (s : Stands) (l : List ℕ) → Unended input from i l → fed s l (cut input from (i + 1)) ≡ fed s (l ++ cut input from i) (b ∷ [])
  unfolding behind
  fed_next s l u =
      ap (fed s l) (cut_more input from i g.from_on more) ∙ parts s l (cut input from i) (b ∷ [])
      ∙ ap (λ (f : Fed). behind f.text (fed f.stand f.line (b ∷ []))) (u s)

  unended_next : (l : List ℕ) → eqb b 0x0A ≡ false → Unended input from i l → Unended input from (i + 1) l
  unfolding fed
  unended_next l e u s =
      let x : fed s (l ++ cut input from i) (b ∷ []) ≡ record { stand = s; line = next l; text = [] } = rw e in
      fed_next s l u ∙ x ∙ (λ j. record { stand = s; line = behind_next l j; text = [] })

  grown : (n' : ℕ) (line' : List ℕ) → eqb b 0x0A ≡ false → n' ≤ most → ((l : List ℕ) → Keeps l n line → Keeps (l ++ (b ∷ [])) n' line')
      → Gathering input from line₀ held₀ (i + 1) n' line'
  grown n' line' e few grow =
      record {
        from_on = omega (arith, g.from_on);
        up_to = omega arith;
        few = few;
        keeps = λ l k. let h = g.keeps l k in (subst (λ (x : List ℕ). Keeps x n' line') (behind_next l) (grow (l ++ cut input from i) h.0), unended_next l e h.1);
      }

  pub gathering_more : eqb b 0x0A ≡ false → n < most → n < length line → Gathering input from line₀ held₀ (i + 1) (n + 1) (set line n b)
  gathering_more e h r = grown (n + 1) (set line n b) e (omega arith) (λ l k. keeps_more b k h r)

  pub gathering_full : eqb b 0x0A ≡ false → most ≤ n → Gathering input from line₀ held₀ (i + 1) n line
  gathering_full e h = grown n line e g.few (λ l k. keeps_full b k h)

  pub gathered_line : eqb b 0x0A ≡ true → GathersLine input from line₀ held₀ line (i + 1) n
  unfolding fed behind
  gathered_line e =
      record {
        onward = omega (arith, g.from_on);
        up_to = omega arith;
        few = g.few;
        keeps = λ l k.
            let h = g.keeps l k in
            let f : i + 1 - 1 ≡ i = omega arith in
            let K : List ℕ = l ++ cut input from i in
            rw f (
              h.0,
              λ s.
                  let y : fed s K (b ∷ []) ≡ record { stand = (line_fed s K).stand; line = []; text = (line_fed s K).text ++ [] } = rw e in
                  fed_next s l h.1 ∙ y ∙ (λ j. record { stand = (line_fed s K).stand; line = []; text = append-nil (line_fed s K).text j }),
            );
      }
