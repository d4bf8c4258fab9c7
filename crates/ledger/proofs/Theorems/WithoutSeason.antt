-- What code $12 changed: nothing for whoever does not use it. A ledger with the seventeen codes of before gives the same answers and the same ledger, for every
-- list of frames of which none has that code.
use Prim.Native.Nat.{ℕ, zero, suc, ◌*◌}
use Rattle.std.specs.Prelude.{◌≡◌, Bool, cond, not, ◌&&◌, List, [], ◌∷◌, ◌++◌, leb, eqb, length, drop}
use Rattle.std.proofs.Math.Path.{refl, sym}
use Rattle.std.proofs.Common.{◌∙◌, ap, arith}
use Rattle.std.proofs.Math.Bool.{true, false}
use Rattle.std.proofs.Math.Option.{Option, none, some}
use Rattle.std.proofs.Math.Dec.{ltb}
use Rattle.std.proofs.Math.ListN.{get_or, length-append, get_or-append, get_or-eq_default}
use borrow.Author.Tests.{le-leb, lt-leb, leb-true, leb-false, ltb-true, ltb-false}
use Rattle.ledger.specs.Lists.{within, byte, word, at, Check, first, ◌⇒◌}
use Rattle.ledger.specs.Config.{Config, config_in, config_refusal}
use Rattle.ledger.specs.Ledger.{plain, Ledger, running, set_outcome, fresh}
use Rattle.ledger.specs.Services.{Code, WAIT, SIGNAL, PEND, SEND, SENDW, RECEIVE, DEQUEUE, ENQUEUE, RESUME, SUSPEND, TERMINATE, EXECUTE, DELAY, TIMER, PURGE, TICK, EXIT, SEASON_TIMER, codes, effect}
use Rattle.ledger.specs.Refusals.{fields, Call, meant_task, meant_semaphore, code_at, value_x, behind_x, call, wrong_length, wrong_task, wrong_semaphore, wrong_queue, is_message, is_tock_value, wrong_entry, from_input, from_state, refusal}
use Rattle.ledger.specs.Session.{answer, accept, Stepped, settle, step, run_from, run, refused_configuration, session}
use Rattle.ledger.specs.Lines.{frame_of, lines_in, step_line, answers_from, configured, answers_to_lines, printed, output}
use Rattle.ledger.proofs.Theorems.Parts.{Every, nil, cons, every_at}

-- $01 to $11
abbrev pub codes_before : List Code
codes_before = WAIT ∷ SIGNAL ∷ PEND ∷ SEND ∷ SENDW ∷ RECEIVE ∷ DEQUEUE ∷ ENQUEUE ∷ RESUME ∷ SUSPEND ∷ TERMINATE ∷ EXECUTE ∷ DELAY ∷ TIMER ∷ PURGE ∷ TICK ∷ EXIT ∷ []

-- ---- the ledger over a table of codes. What a frame does depends on the table through two things: whether its first byte is a code there, and which one

pub record Found : Type 0 where
  pub known : Bool
  pub code : Code

unfoldable pub found_in : List Code → List ℕ → Found
found_in table f = record { known = within 1 (length table) (byte 0 f); code = at table (byte 0 f) TICK }

unfoldable pub call_by : Found → Config → (self : ℕ) → List ℕ → Call
call_by u c self f =
    let k = u.code in
    let v = fields k in
    let t = meant_task v.A self (byte 1 f) in
    record { code = k; self = self; a = t; b = meant_semaphore c v.B self t (byte 2 f); x = value_x v.follows f; bytes = behind_x v.follows f }

unfoldable pub from_input_by : Found → Config → (self : ℕ) → List ℕ → List Check
from_input_by u c self f =
    let k = call_by u c self f in
    let v = fields k.code in
    ltb (length f) 5 ⇒ 2
    ∷ not u.known ⇒ 4
    ∷ wrong_length v.follows (length f) ⇒ 2
    ∷ (v.service && eqb self 0) ⇒ 20
    ∷ wrong_task c v.A self (byte 1 f) ⇒ 5
    ∷ wrong_semaphore c v.B (byte 2 f) ⇒ 6
    ∷ wrong_queue c v.A (byte 1 f) ⇒ 7
    ∷ (is_message v.X && not (within 1 c.G k.x)) ⇒ 8
    ∷ (is_tock_value v.X && eqb k.x 0) ⇒ 9
    ∷ wrong_entry c v.follows k.a k.bytes ⇒ 2
    ∷ []

unfoldable pub refusal_by : Found → Config → Ledger → List ℕ → ℕ
refusal_by u c l f = first (from_input_by u c (running l) f ++ from_state c l (call_by u c (running l) f))

unfoldable pub accept_by : Found → Config → List ℕ → Ledger → Ledger
accept_by u c f l =
    let k = call_by u c (running l) f in
    effect k.code c k.self k.a k.b k.x k.bytes (cond (fields k.code).service (set_outcome k.self plain l) l)

unfoldable pub step_by : Found → Config → List ℕ → Ledger → Stepped
step_by u c f l =
    let n = refusal_by u c l f in
    let s = settle (2 * c.T) c (accept_by u c f l) in
    cond (eqb n 0)
    (record { ledger = s.ledger; answered = answer 0 s.reissues s.ledger })
    (record { ledger = l; answered = answer n 0 l })

unfoldable pub run_from_by : List Code → Config → Ledger → List (List ℕ) → Ledger × List (List ℕ)
run_from_by table c l [] = (l, [])
run_from_by table c l (f ∷ fs) =
    let s = step_by (found_in table f) c f l in
    let r = run_from_by table c s.ledger fs in
    (r.0, s.answered ∷ r.1)

unfoldable pub run_by : List Code → Config → List (List ℕ) → Ledger × List (List ℕ)
run_by table c fs = let r = run_from_by table c (fresh c) fs in (r.0, answer 0 0 (fresh c) ∷ r.1)

unfoldable pub session_by : List Code → (configuration : List ℕ) → List (List ℕ) → List (List ℕ)
session_by table g fs = let n = config_refusal g in cond (eqb n 0) (run_by table (config_in g) fs).1 (refused_configuration n ∷ [])

-- with the ledger's own table it is the ledger
own_step : (c : Config) (f : List ℕ) (l : Ledger) → step_by (found_in codes f) c f l ≡ step c f l
unfolding found_in call_by from_input_by refusal_by accept_by step_by code_at call from_input refusal accept step
own_step c f l = refl

-- ---- without $12 both tables say the same

abbrev pub Without : List ℕ → Type 0
Without f = byte 0 f ≡ 18 → ⊥

module _ {A : Type 0} where
  at_last : (xs : List A) (y d : A) (n : ℕ) → (n ≡ suc (length xs) → ⊥) → at xs n d ≡ at (xs ++ (y ∷ [])) n d
  unfolding at
  at_last xs y d zero h = refl
  at_last xs y d (suc n) h = go (ltb n (length xs)) refl
    where
      go : (b : Bool) → ltb n (length xs) ≡ b → get_or xs n d ≡ get_or (xs ++ (y ∷ [])) n d
      go true e = sym (get_or-append xs (y ∷ []) d n (ltb-true n (length xs) e))
      go false e =
          let k = ltb-false n (length xs) e in
          get_or-eq_default xs d k ∙ sym (get_or-eq_default (xs ++ (y ∷ [])) d (omega (arith, k, h, length-append xs (y ∷ []))))

  at_every : (P : A → Type 0) {xs : List A} → Every P xs → (d : A) → P d → (n : ℕ) → P (at xs n d)
  unfolding at
  at_every P h d p zero = p
  at_every P {xs} h d p (suc n) = go (ltb n (length xs)) refl
    where
      go : (b : Bool) → ltb n (length xs) ≡ b → P (get_or xs n d)
      go true e = every_at h n d (ltb-true n (length xs) e)
      go false e = rw (get_or-eq_default xs d (ltb-false n (length xs) e)) p

same_code : (n : ℕ) → (n ≡ 18 → ⊥) → at codes_before n TICK ≡ code_at n
unfolding code_at
same_code n h = at_last codes_before SEASON_TIMER TICK n h

same_known : (n : ℕ) → (n ≡ 18 → ⊥) → within 1 17 n ≡ within 1 18 n
same_known n h = ap (λ b. leb 1 n && b) (go (leb n 17) refl)
  where
    go : (b : Bool) → leb n 17 ≡ b → b ≡ leb n 18
    go true e = let k = leb-true n 17 e in sym (le-leb n 18 (omega arith))
    go false e = let k = leb-false n 17 e in sym (lt-leb n 18 (omega arith))

same_found : (f : List ℕ) → Without f → found_in codes_before f ≡ found_in codes f
unfolding found_in code_at
same_found f h i = record { known = same_known (byte 0 f) h i; code = same_code (byte 0 f) h i }

pub same_step : (c : Config) (f : List ℕ) (l : Ledger) → Without f → step_by (found_in codes_before f) c f l ≡ step c f l
same_step c f l h = ap (λ u. step_by u c f l) (same_found f h) ∙ own_step c f l

same_from : (c : Config) (l : Ledger) {fs : List (List ℕ)} → Every Without fs → run_from_by codes_before c l fs ≡ run_from c l fs
unfolding run_from_by run_from
same_from c l nil = refl
same_from c l (cons {x = f} {xs = fs} h hs) =
    let e = same_step c f l h in
    ap (λ (s : Stepped). let r = run_from_by codes_before c s.ledger fs in (r.0, s.answered ∷ r.1)) e
    ∙ ap (λ (r : Ledger × List (List ℕ)). (r.0, (step c f l).answered ∷ r.1)) (same_from c (step c f l).ledger hs)

-- the ledger after the frames, and every answer
pub same_run : (c : Config) {fs : List (List ℕ)} → Every Without fs → run_by codes_before c fs ≡ run c fs
unfolding run_by run
same_run c h = ap (λ (r : Ledger × List (List ℕ)). (r.0, answer 0 0 (fresh c) ∷ r.1)) (same_from c (fresh c) h)

pub same_session : (g : List ℕ) {fs : List (List ℕ)} → Every Without fs → session_by codes_before g fs ≡ session g fs
unfolding session_by session
same_session g h = ap (λ (r : Ledger × List (List ℕ)). cond (eqb (config_refusal g) 0) r.1 (refused_configuration (config_refusal g) ∷ [])) (same_run (config_in g) h)

-- ---- the session program's lines

-- a line that is no frame has no code
abbrev pub WithoutIn : Option (List ℕ) → Type 0
WithoutIn none = Unit {0}
WithoutIn (some f) = Without f

unfoldable pub step_line_by : List Code → Config → Option (List ℕ) → Ledger → Stepped
step_line_by table c none l = record { ledger = l; answered = answer 1 0 l }
step_line_by table c (some f) l = step_by (found_in table f) c f l

unfoldable pub answers_from_by : List Code → Config → Ledger → List (List ℕ) → List (List ℕ)
answers_from_by table c l [] = []
answers_from_by table c l (line ∷ lines) =
    let s = step_line_by table c (frame_of line) l in
    s.answered ∷ answers_from_by table c s.ledger lines

unfoldable pub configured_by : List Code → Option (List ℕ) → List (List ℕ) → List (List ℕ)
configured_by table none lines = refused_configuration 1 ∷ []
configured_by table (some g) lines =
    let n = config_refusal g in
    let c = config_in g in
    cond (eqb n 0) (answer 0 0 (fresh c) ∷ answers_from_by table c (fresh c) lines) (refused_configuration n ∷ [])

unfoldable pub answers_to_lines_by : List Code → List (List ℕ) → List (List ℕ)
answers_to_lines_by table [] = []
answers_to_lines_by table (line ∷ lines) = configured_by table (frame_of line) lines

unfoldable pub output_by : List Code → (input : List ℕ) → List ℕ
output_by table input = printed (answers_to_lines_by table (lines_in input))

same_line : (c : Config) (o : Option (List ℕ)) (l : Ledger) → WithoutIn o → step_line_by codes_before c o l ≡ step_line c o l
unfolding step_line_by step_line
same_line c none l h = refl
same_line c (some f) l h = same_step c f l h

same_answers : (c : Config) (l : Ledger) {lines : List (List ℕ)} → Every (λ line. WithoutIn (frame_of line)) lines → answers_from_by codes_before c l lines ≡ answers_from c l lines
unfolding answers_from_by answers_from
same_answers c l nil = refl
same_answers c l (cons {x = line} {xs = lines} h hs) =
    ap (λ (s : Stepped). s.answered ∷ answers_from_by codes_before c s.ledger lines) (same_line c (frame_of line) l h)
    ∙ ap (λ (r : List (List ℕ)). (step_line c (frame_of line) l).answered ∷ r) (same_answers c (step_line c (frame_of line) l).ledger hs)

same_configured : (o : Option (List ℕ)) {lines : List (List ℕ)} → Every (λ line. WithoutIn (frame_of line)) lines → configured_by codes_before o lines ≡ configured o lines
unfolding configured_by configured
same_configured none h = refl
same_configured (some g) h =
    let c = config_in g in
    ap (λ (r : List (List ℕ)). cond (eqb (config_refusal g) 0) (answer 0 0 (fresh c) ∷ r) (refused_configuration (config_refusal g) ∷ [])) (same_answers c (fresh c) h)

same_lines : (lines : List (List ℕ)) → Every (λ line. WithoutIn (frame_of line)) (drop 1 lines) → answers_to_lines_by codes_before lines ≡ answers_to_lines lines
unfolding answers_to_lines_by answers_to_lines
same_lines [] h = refl
same_lines (line ∷ lines) h = same_configured (frame_of line) h

-- what the session program prints, where no line behind the configuration's is a frame with code $12
pub same_output : (input : List ℕ) → Every (λ line. WithoutIn (frame_of line)) (drop 1 (lines_in input)) → output_by codes_before input ≡ output input
unfolding output_by output
same_output input h = ap printed (same_lines (lines_in input) h)

-- ---- only $12 has X in four bytes

abbrev Short : List ℕ → Code → Type 0
Short f k = (value_x (fields k).follows f ≡ word 3 f) × (behind_x (fields k).follows f ≡ drop 5 f)

shorts : (f : List ℕ) → Every (Short f) codes_before
unfolding fields value_x behind_x
shorts f =
    let s : (word 3 f ≡ word 3 f) × (drop 5 f ≡ drop 5 f) = (refl, refl) in
    cons s (cons s (cons s (cons s (cons s (cons s (cons s (cons s (cons s (cons s (cons s (cons s (cons s (cons s (cons s (cons s (cons s nil))))))))))))))))

short : (n : ℕ) (f : List ℕ) → (n ≡ 18 → ⊥) → Short f (code_at n)
unfolding fields value_x behind_x
short n f h = rw (← same_code n h) (at_every (Short f) (shorts f) TICK (refl, refl) n)

pub value_word : (n : ℕ) (f : List ℕ) → (n ≡ 18 → ⊥) → value_x (fields (code_at n)).follows f ≡ word 3 f
value_word n f h = (short n f h).0

pub behind_drop : (n : ℕ) (f : List ℕ) → (n ≡ 18 → ⊥) → behind_x (fields (code_at n)).follows f ≡ drop 5 f
behind_drop n f h = (short n f h).1
