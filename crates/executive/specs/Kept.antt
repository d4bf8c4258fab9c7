-- The loop of settling over the memory: what holds for every ledger that the memory showed at the start.
use Rattle.std.specs.Prelude.{◌≡◌, Bool, true, false, List, ℕ, ◌+◌, ◌*◌, ◌≤◌}
use Rattle.std.proofs.Common.{sym, ap, ◌∙◌, arith}
use Rattle.tables.specs.declared.shape.Shape.{Shape}
use Rattle.tables.specs.Shows.{ShowsAs, loosely, Tells, moved}
use Rattle.ledger.specs.Config.{Config}
use Rattle.ledger.specs.Ledger.{Ledger, task, running}
use Rattle.ledger.specs.Session as session
use Rattle.ledger.specs.Session.{open_request, is_open, reissue, settle}
use Rattle.executive.specs.declared.settling.Settled.{Settled}
use Rattle.executive.specs.Rounds.{rounds, Rest, rounds_one, rest_start, rest_next, rest_stop, rest_out}

-- the task t runs, and whether its request is open is b
abbrev pub Runs : Shape → (d : List ℕ) → (t : ℕ) (b : Bool) → Type 0
Runs s d t b = Tells s d (λ c L. running L) t × Tells s d (λ c L. is_open (open_request L)) b

pub runs_so : (s : Shape) (d : List ℕ) (t : ℕ) (r b : Bool) → Tells s d (λ c L. running L) t → Tells s d (λ c L. is_open (task L t).request) r → r ≡ b → Runs s d t b
unfolding open_request
runs_so s d t r b e o k = (e, λ c L z w h. sym k ∙ o c L z w h ∙ ap (λ (x : ℕ). is_open (task L x).request) (e c L z w h))

-- the running task t had an open request, which was issued again
abbrev pub Reissues : Config → Shape → (d z d' z' : List ℕ) → (t : ℕ) → Type 0
Reissues c s d z d' z' t = (tidy : Bool) (L : Ledger) (w : List ℕ) → ShowsAs tidy c s L d z w → t ≡ running L → true ≡ is_open (open_request L) → ShowsAs tidy c s (reissue c L) d' z' w

-- settled from the ledger M on
pub record Ended (tidy : Bool) (c : Config) (s : Shape) (M : Ledger) (d z w : List ℕ) (r : Settled) : Type 0 where
  pub reissues : r.reissues ≡ (settle (2 * c.T) c M).reissues
  pub shows : ShowsAs tidy c s (settle (2 * c.T) c M).ledger d z w
  pub runs : r.running ≡ running (settle (2 * c.T) c M).ledger

abbrev pub Ends : Config → Shape → (d z d' z' : List ℕ) → Settled → Type 0
Ends c s d z d' z' r = (r.running ≤ s.tasks) × (r.reissues ≤ 2 * s.tasks) × ((tidy : Bool) (L : Ledger) (w : List ℕ) → ShowsAs tidy c s L d z w → Ended tidy c s L d' z' w r)

-- after n rounds
abbrev pub Kept : Config → Shape → (d z d' z' : List ℕ) → ℕ → Type 0
Kept c s d z d' z' n = (tidy : Bool) (L : Ledger) (w : List ℕ) → ShowsAs tidy c s L d z w → ShowsAs tidy c s (rounds n c L) d' z' w × Rest c L n

pub kept_start : (c : Config) (s : Shape) (d z : List ℕ) → Kept c s d z d z 0
unfolding rounds
kept_start c s d z tidy L w h = (h, rest_start c L)

module _ (c : Config) (s : Shape) (d z d₁ z₁ : List ℕ) (n : ℕ) (k : Kept c s d z d₁ z₁ n) (t : ℕ) where
  pub kept_next : Runs s d₁ t true → (d' z' : List ℕ) → Reissues c s d₁ z₁ d' z' t → Kept c s d z d' z' (n + 1)
  kept_next r d' z' f tidy L w h =
      let a = k tidy L w h in
      let M : Ledger = rounds n c L in
      let o : true ≡ is_open (open_request M) = r.1 c M z₁ w (loosely a.0) in
      (moved (rounds_one c L n) (f tidy M w a.0 (r.0 c M z₁ w (loosely a.0)) o), rest_next c L n a.1 o)

  ended : {tidy : Bool} (L : Ledger) (w : List ℕ) → Tells s d₁ (λ c L. running L) t → ShowsAs tidy c s (rounds n c L) d₁ z₁ w → settle (2 * c.T) c L ≡ record { ledger = rounds n c L; reissues = n }
      → Ended tidy c s L d₁ z₁ w (record { running = t; reissues = n })
  ended L w r h x =
      let e : rounds n c L ≡ (settle (2 * c.T) c L).ledger = sym (ap (λ (y : session.Settled). y.ledger) x) in
      record { reissues = sym (ap (λ (y : session.Settled). y.reissues) x); shows = moved e h; runs = r c (rounds n c L) z₁ w (loosely h) ∙ ap running e }

  pub kept_stop : Runs s d₁ t false → t ≤ s.tasks → n ≤ 2 * s.tasks → Ends c s d z d₁ z₁ (record { running = t; reissues = n })
  kept_stop r m l = (
    m,
    l,
    λ tidy L w h.
        let a = k tidy L w h in
        ended L w r.0 a.0 (rest_stop c L n a.1 (2 * c.T) (omega (arith, h.of.tasks)) (r.1 c (rounds n c L) z₁ w (loosely a.0))),
  )

  pub kept_out : Runs s d₁ t true → t ≤ s.tasks → n ≤ 2 * s.tasks → 2 * s.tasks ≤ n → Ends c s d z d₁ z₁ (record { running = t; reissues = n })
  kept_out r m l g = (
    m,
    l,
    λ tidy L w h.
        let a = k tidy L w h in
        ended L w r.0 a.0 (rest_out c L n a.1 (2 * c.T) (omega (arith, h.of.tasks)) (omega (arith, h.of.tasks))),
  )
