-- What the memory holds where a session stands, and what the answer to a line leaves in it.
use Rattle.std.specs.Prelude.{ℕ, ◌*◌, ◌≤◌, ◌≡◌, Bool, true, false, List, ◌++◌, eqb, get_or, take, drop, Result, Ok, Err}
use Rattle.std.specs.Prelude as std
use Rattle.std.proofs.Math.Path.{refl, ap}
use Rattle.std.proofs.Common.{sym, ◌∙◌, subst, arith}
use Rattle.std.proofs.Math.Option.{Option, none, some}
use borrow.Author.Tests.{eq-eqb, eqb-true, eqb-false, ne_eqb, le-ltb}
use Rattle.std.proofs.Math.ListN.{length, length-append}
use Rattle.std.proofs.Math.Seq.{take_at}
use Rattle.ledger.specs.Config.{Config, Limits, config_in, config_refusal, controller}
use Rattle.ledger.specs.Ledger.{Ledger, fresh}
use Rattle.ledger.specs.Session.{answer, step, refused_configuration}
use Rattle.ledger.specs.Lines.{longest_frame, frame_of, step_line, read_line, written_into}
use Rattle.ledger.proofs.Theorems.Lines.{frame_is_short}
use Rattle.ledger.proofs.Theorems.Once.{Once, once_step, once_fresh}
use Rattle.tables.specs.declared.shape.Shape.{Shape}
use Rattle.tables.specs.Shows.{Of, Shows}
use Rattle.configuration.specs.Limits.{controller_made}
use Rattle.configuration.specs.Block.{frame_rule}
use Rattle.configuration.specs.Started.{timers_bytes}
use Rattle.parts.specs.Parts.{part, kept_frame}
use Rattle.configuration.specs.Layout.{shape_of, of_one, Lends}
use Rattle.answer.specs.Written.{written}
use Rattle.answer.specs.Read.{read_length}
use Rattle.line.specs.Answers.{by_number, answer_to, left_in, Gives}
use Rattle.refusals.specs.declared.Refusal.{Refusal}
use Rattle.ledger.proofs.Theorems.Checks.{never}
use Rattle.ledger.proofs.Theorems.Within.{controller_gives}
use Rattle.mcx11.specs.Contract.{Memory, memory, has_sizes, full_size, is_marked, config_of, tables_part, slots_part, timers_part, lent_well, Displays, answering, Configures, Frames}
use Rattle.mcx11.specs.Answer.{answer_of}
use Rattle.mcx11.specs.Sizes.{Full, sizes_full, well_frame}
use Rattle.mcx11.specs.Begun.{TellsNow}
use Rattle.mcx11.specs.Kept.{begins_config, config_stays, well_again}
use Rattle.mcx11.specs.Displayed.{answer_short, step_short}
use Rattle.mcx11.specs.Answer.{answer_is}
use Rattle.feeding.specs.declared.Stage.{Stage}
use Rattle.feeding.specs.declared.Stage.TheVariants.{First, Running, Ended}
use Rattle.feeding.specs.Input.{Stands, first, runs, over, Reply, configures, steps}

unfoldable pub At : Stands → Stage → Memory → Type 0
At first p m = p ≡ First
At (runs c l) p m = (p ≡ Running) × (config_of m ≡ c) × (lent_well controller m ≡ true) × Displays c l m × Once c l.mailboxes
At over p m = p ≡ Ended

unfoldable pub stage_number : Stage → ℕ
stage_number First = 0
stage_number Running = 1
stage_number Ended = 2

pub only_over : (s : Stands) (p : Stage) (m : Memory) → At s p m → p ≡ Ended → s ≡ over
unfolding At stage_number
only_over first p m h e = absurd (omega (arith, ap stage_number (sym h ∙ e)))
only_over (runs c l) p m h e = absurd (omega (arith, ap stage_number (sym h.0 ∙ e)))
only_over over p m h e = refl

-- the memory's answer
pub record Answers (a : List ℕ) (m : Memory) : Type 0 where
  pub is : answer_of m ≡ a
  pub short : get_or m.answer 0 0 ≤ 20

-- the first line
pub record FirstReply (f : Option (List ℕ)) (m' : Memory) (p : Stage) : Type 0 where
  pub stands : At (configures f).stand p m'
  pub answers : Answers (configures f).answer m'

-- a line that is no frame is answered with 1, whatever ledger the memory shows
abbrev pub RefusesLine : (g d z a a' : List ℕ) → Type 0
RefusesLine g d z a a' =
    let c = config_in (kept_frame g) in
    let s = shape_of c in
    (l : Ledger) (w : List ℕ) → frame_rule controller (kept_frame g) ≡ true → Shows c s l (part s.end d) (part (16 * s.tasks) z) w → a' ≡ written (answer 1 0 l) a

-- any other
pub record GoesOn (f : Option (List ℕ)) (m m' : Memory) : Type 0 where
  pub tells : (c : Config) (l : Ledger) → At (runs c l) Running m → At (steps c l f).stand Running m' × Answers (steps c l f).answer m'

-- ---- what the reader says, with room for the longest frame

abbrev is_ok : Result ℕ ℕ → Bool
is_ok (Ok n) = true
is_ok (Err n) = false

abbrev length_in : Result ℕ ℕ → ℕ
length_in (Ok n) = n
length_in (Err n) = 0

module _ (line before after : List ℕ) (w : Result ℕ Refusal) (g : Gives (read_line (length before) line) before after w) (room : longest_frame ≤ length before) where
  says_frame : (f : List ℕ) → frame_of line ≡ some f → (by_number w ≡ Ok (length f)) × (after ≡ f ++ drop (length f) before)
  unfolding read_line written_into answer_to left_in
  says_frame f e =
      let short = le-ltb (length before) (length f) (omega (arith, frame_is_short line f e)) in
      (g.answered ∙ rw (e, short), g.left ∙ rw (e, short))

  says_none : frame_of line ≡ none → by_number w ≡ Err 1
  unfolding read_line written_into answer_to
  says_none e = g.answered ∙ rw e

  pub read_none : (refused : Refusal) → w ≡ Err refused → frame_of line ≡ none
  read_none refused e = go (frame_of line) refl
    where
      go : (o : Option (List ℕ)) → frame_of line ≡ o → frame_of line ≡ none
      go none x = x
      go (some f) x = never (ap is_ok (sym (ap by_number e) ∙ (says_frame f x).0))

  pub read_frame : (n : ℕ) → w ≡ Ok n → (n ≤ length after) × (frame_of line ≡ some (take n after))
  read_frame n e = go (frame_of line) refl
    where
      go : (o : Option (List ℕ)) → frame_of line ≡ o → (n ≤ length after) × (frame_of line ≡ some (take n after))
      go none x = never (ap is_ok (sym (says_none x) ∙ ap by_number e))
      go (some f) x =
          let k = says_frame f x in
          let m : length f ≡ n = ap length_in (sym k.0 ∙ ap by_number e) in
          (omega (arith, ap length k.1, length-append f (drop (length f) before)), x ∙ ap some (sym (ap (take n) k.1 ∙ take_at f (drop (length f) before) n m)))

-- ---- an answer that was written

pub answers_written : (m : Memory) (a old : List ℕ) → length a ≤ 20 → m.answer ≡ written a old → Answers a m
answers_written m a old h e = record { is = answer_is m a old e; short = rw (e, read_length a old) h }

-- ---- the first line

begins : (f : Option (List ℕ)) {m' : Memory} {p : Stage} (k : Reply) → configures f ≡ k → At k.stand p m' → Answers k.answer m' → FirstReply f m' p
begins f {m'} {p} k e s a =
    record { stands = subst (λ (x : Reply). At x.stand p m') (sym e) s; answers = subst (λ (x : Reply). Answers x.answer m') (sym e) a }

pub begins_none : {f : Option (List ℕ)} (g d z w a a' : List ℕ) → f ≡ none → a' ≡ written (refused_configuration 1) a → FirstReply f (memory g d z w a') Ended
unfolding configures At refused_configuration
begins_none {f} g d z w a a' e h =
    begins f (record { stand = over; answer = refused_configuration 1 }) (ap configures e) refl (answers_written (memory g d z w a') (refused_configuration 1) a (omega arith) h)

module _ {f : List ℕ} {m m' : Memory} {r : ℕ} (full : Full controller m) (h : Configures controller f m m' r) where
  accepted_begins : config_refusal f ≡ 0 → FirstReply (some f) m' Running
  unfolding configures At
  accepted_begins z =
      let a = h.accepted (sizes_full controller m full) (controller_gives f ∙ z) in
      let c = config_in f in
      begins (some f) (record { stand = runs c (fresh c); answer = answer 0 0 (fresh c) }) (rw (eq-eqb _ _ z)) (refl, begins_config a, a.well, a.shown, once_fresh c)
      (answers_written m' (answer 0 0 (fresh c)) m.answer (answer_short c (fresh c) m' a.shown 0 0).1 a.answered)

  refused_here : (config_refusal f ≡ 0 → ⊥) → (r ≡ config_refusal f) × (m' ≡ answering (refused_configuration (config_refusal f)) m)
  refused_here z =
      let e = controller_gives f in
      subst (λ (n : ℕ). (r ≡ n) × (m' ≡ answering (refused_configuration n) m)) e (h.refused (sizes_full controller m full) (λ x. z (sym e ∙ x)))

  refused_begins : (config_refusal f ≡ 0 → ⊥) → FirstReply (some f) m' Ended
  unfolding configures At answering refused_configuration
  refused_begins z =
      let n = config_refusal f in
      begins (some f) (record { stand = over; answer = refused_configuration n }) (rw (ne_eqb _ _ z)) refl
      (answers_written m' (refused_configuration n) m.answer (omega arith) (ap (λ (x : Memory). x.answer) (refused_here z).1))

  number_is : r ≡ config_refusal f
  number_is = go (eqb (config_refusal f) 0) refl
    where
      go : (b : Bool) → eqb (config_refusal f) 0 ≡ b → r ≡ config_refusal f
      go true e = let z = eqb-true (config_refusal f) 0 e in (h.accepted (sizes_full controller m full) (controller_gives f ∙ z)).number ∙ sym z
      go false e = (refused_here (eqb-false (config_refusal f) 0 e)).0

  pub begins_running : {o : Option (List ℕ)} → o ≡ some f → r ≡ 0 → FirstReply o m' Running
  begins_running e z = rw e (accepted_begins (sym number_is ∙ z))

  pub begins_ended : {o : Option (List ℕ)} → o ≡ some f → (r ≡ 0 → ⊥) → FirstReply o m' Ended
  begins_ended e z = rw e (refused_begins (λ x. z (number_is ∙ x)))

-- ---- a line that is no frame

-- what the reading of the kept frame says, by limits and bytes that are known
pub lends_as : {k j : Limits} → k ≡ j → {f g : List ℕ} → f ≡ g → (r : std.Option Shape) → Lends k f r → Lends j g r
lends_as {k} ek {f} {g} ef r h = subst (λ (x : Limits). Lends x g r) ek (subst (λ (x : List ℕ). Lends k x r) ef h)

pub refuses_line : (g d z a a' : List ℕ) (s : Shape) → Of (config_in (kept_frame g)) s → TellsNow s d z 1 a a' → RefusesLine g d z a a'
refuses_line g d z a a' s o tells =
    let c = config_in (kept_frame g) in
    λ l w h v. tells c l w (subst (λ (x : Shape). Shows c x l (part x.end d) (part (16 * x.tasks) z) w) (sym (of_one c s o)) v)

-- ---- any other line

-- with another answer
answered_well : (g d z w a a' : List ℕ) → length a' ≡ length a → lent_well controller (memory g d z w a) ≡ true → lent_well controller (memory g d z w a') ≡ true
unfolding lent_well full_size has_sizes is_marked config_of tables_part
answered_well g d z w a a' n h = rw n h

pub goes_on_none : {f : Option (List ℕ)} (g d z w a a' : List ℕ) → f ≡ none → length a' ≡ length a → RefusesLine g d z a a' → GoesOn f (memory g d z w a) (memory g d z w a')
unfolding At Displays config_of tables_part slots_part timers_part steps step_line
goes_on_none g d z w a a' e n h =
    let m = memory g d z w a in
    let m' = memory g d z w a' in
    rw e (record {
      tells = λ c l k.
          let v = subst (λ (x : Config). let s = shape_of x in Shows x s l (part s.end d) (part (16 * s.tasks) z) (part (timers_bytes s) w)) (sym k.1) k.3 in (
            (refl, k.1, answered_well g d z w a a' n k.2, k.3, k.4),
            answers_written m' (answer 1 0 l) a (answer_short c l m k.3 1 0).1 (h l _ (well_frame controller m k.2) v),
          );
    })

pub goes_on_frame : {o : Option (List ℕ)} {f : List ℕ} {m m' : Memory} {r : ℕ} → o ≡ some f → Frames controller f m m' r → GoesOn o m m'
unfolding At steps step_line
goes_on_frame {f = f} {m = m} {m' = m'} e h =
    rw e (record {
      tells = λ c l k.
          let v : Displays (config_of m) l m = subst (λ (x : Config). Displays x l m) (sym k.1) k.3 in
          let o : Once (config_of m) l.mailboxes = subst (λ (x : Config). Once x l.mailboxes) (sym k.1) k.4 in
          let g = h.good k.2 l v in
          let t = subst (λ (x : Config). Displays x (step x f l).ledger m' × (m'.answer ≡ written (step x f l).answered m.answer)) k.1 (g.shown, g.answered) in (
            (refl, config_stays h ∙ k.1, well_again h controller_made l k.2 v o, t.0, once_step c f l k.4),
            answers_written m' (step c f l).answered m.answer (step_short c f l m' t.0) t.1,
          );
    })
