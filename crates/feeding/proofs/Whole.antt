-- Fed in any blocks, an input is printed as the ledger's `output` says.
use Rattle.std.specs.Prelude.{ℕ, ◌≡◌, refl, Bool, true, false, List, [], ◌∷◌, ◌++◌, eqb}
use Rattle.std.proofs.Common.{sym, ap, ◌∙◌, append_assoc, append-nil, eqb-true}
use Rattle.std.proofs.Math.Option.{Option, none, some}
use Rattle.ledger.specs.Config.{config_in, config_refusal}
use Rattle.ledger.specs.Ledger.{fresh}
use Rattle.ledger.specs.Session.{answer, refused_configuration}
use Rattle.ledger.proofs.Theorems.Parts.{Every, nil, cons}
use Rattle.ledger.specs.Lines.{digits_of, frame_of, before, lines_in, answers_from, configured, answers_to_lines, printed, output}
use Rattle.feeding.specs.Input.{Stands, first, runs, over, print, configures, steps, printing, line_fed, behind, fed, last}
use Rattle.feeding.specs.Whole.{text}

-- ---- as a whole: what is printed for a list of lines

unfoldable said : Stands → List (List ℕ) → List ℕ
said first ls = printed (answers_to_lines ls)
said (runs c l) ls = printed (answers_from c l ls)
said over ls = []

printed_cons : (a : List ℕ) (rest : List (List ℕ)) → printed (a ∷ rest) ≡ print a ++ printed rest
unfolding printed print
printed_cons a rest = sym (append_assoc (digits_of a) (0x0A ∷ []) (printed rest))

said_configured : (f : Option (List ℕ)) (ls : List (List ℕ)) → printed (configured f ls) ≡ (printing (configures f)).text ++ said (printing (configures f)).stand ls
unfolding configured configures printing said printed
said_configured none ls = printed_cons (refused_configuration 1) []
said_configured (some g) ls = go (eqb (config_refusal g) 0) refl
  where
    go : (b : Bool) → eqb (config_refusal g) 0 ≡ b → printed (configured (some g) ls) ≡ (printing (configures (some g))).text ++ said (printing (configures (some g))).stand ls
    go true e = let c = config_in g in rw e (printed_cons (answer 0 0 (fresh c)) (answers_from c (fresh c) ls))
    go false e = rw e (printed_cons (refused_configuration (config_refusal g)) [])

said_line : (s : Stands) (line : List ℕ) (ls : List (List ℕ)) → said s (line ∷ ls) ≡ (line_fed s line).text ++ said (line_fed s line).stand ls
unfolding said line_fed steps printing answers_to_lines answers_from
said_line first line ls = said_configured (frame_of line) ls
said_line (runs c l) line ls = printed_cons _ _
said_line over line ls = refl

said_none : (s : Stands) → said s [] ≡ []
unfolding said answers_to_lines answers_from printed
said_none first = refl
said_none (runs c l) = refl
said_none over = refl

-- ---- the lines of an input

abbrev NoEnd : List ℕ → Type 0
NoEnd l = Every (λ (b : ℕ). eqb b 0x0A ≡ false) l

no_end_more : (b : ℕ) {l : List ℕ} → NoEnd l → eqb b 0x0A ≡ false → NoEnd (l ++ (b ∷ []))
no_end_more b nil e = cons e nil
no_end_more b (cons h more) e = cons h (no_end_more b more e)

line_ended : {l : List ℕ} (bs : List ℕ) → NoEnd l → lines_in (l ++ (0x0A ∷ bs)) ≡ l ∷ lines_in bs
unfolding lines_in before
line_ended bs nil = refl
line_ended bs (cons {x} h more) = rw h (ap (before x) (line_ended bs more))

line_unended : (b : ℕ) (l : List ℕ) → NoEnd (b ∷ l) → lines_in (b ∷ l) ≡ (b ∷ l) ∷ []
unfolding lines_in before
line_unended b [] (cons h more) = rw h refl
line_unended b (x ∷ l) (cons h more) = rw h (ap (before b) (line_unended x l more))

said_last : (s : Stands) (l : List ℕ) → NoEnd l → last s l ≡ said s (lines_in l)
unfolding last lines_in
said_last s [] n = sym (said_none s)
said_last s (b ∷ l) n =
    let f = line_fed s (b ∷ l) in
    sym (append-nil f.text) ∙ ap (λ (t : List ℕ). f.text ++ t) (sym (said_none f.stand)) ∙ sym (said_line s (b ∷ l) []) ∙ ap (said s) (sym (line_unended b l n))

text_said : (s : Stands) (l bs : List ℕ) → NoEnd l → text s l bs ≡ said s (lines_in (l ++ bs))
unfolding fed behind
text_said s l [] n = said_last s l n ∙ ap (λ (k : List ℕ). said s (lines_in k)) (sym (append-nil l))
text_said s l (b ∷ bs) n = go (λ s l n. text_said s l bs n) (eqb b 0x0A) refl
  where
    go : ((s : Stands) (l : List ℕ) → NoEnd l → text s l bs ≡ said s (lines_in (l ++ bs))) → (e : Bool) → eqb b 0x0A ≡ e → text s l (b ∷ bs) ≡ said s (lines_in (l ++ (b ∷ bs)))
    go more true e =
        let t = (line_fed s l).text in
        let f = fed (line_fed s l).stand [] bs in
        rw e
        (append_assoc t f.text (last f.stand f.line) ∙ ap (λ (k : List ℕ). t ++ k) (more (line_fed s l).stand [] nil)
        ∙ sym (said_line s l (lines_in bs)) ∙ ap (said s) (sym (line_ended bs n))
        ∙ ap (λ (x : ℕ). said s (lines_in (l ++ (x ∷ bs)))) (sym (eqb-true b 0x0A e)))
    go more false e = rw e (more s (l ++ (b ∷ [])) (no_end_more b n e) ∙ ap (λ (k : List ℕ). said s (lines_in k)) (append_assoc l (b ∷ []) bs))

pub whole : (input : List ℕ) → text first [] input ≡ output input
unfolding output said
whole input = text_said first [] input nil
