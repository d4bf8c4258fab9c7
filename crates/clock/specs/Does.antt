-- What it is for a function over the timers' block to do what the ledger does, and how a change of the block is lifted.
use Rattle.std.specs.Prelude.{◌≡◌, refl, Bool, true, false, not, cond, ◌&&◌, ◌||◌, List, map, ℕ, ◌%◌, ◌<◌, ◌≤◌, eqb, length, get_or, drop, Some, None, is_none, unwrap_or}
use Rattle.std.proofs.Common.{sym, ap, ◌∙◌, arith}
use Rattle.ledger.specs.Lists.{keep}
use Rattle.ledger.specs.Config.{Config}
use Rattle.ledger.specs.Time.{TockValue, tocks, period}
use Rattle.ledger.specs.Ledger.{Timer, Ledger, set_timers}
use Rattle.ledger.specs.Services.{start_timer, purge}
use Rattle.ledger.specs.Session.{timer_left}
use Rattle.timers.specs.Timers.{timers_in}
use Rattle.tables.specs.declared.shape.Shape.{Shape}
use Rattle.tables.specs.Decode.{count_of}
use Rattle.tables.specs.Layout.{regions}
use Rattle.tables.specs.Shows.{timers_of, Of, ShowsAs, Shows}
use Rattle.tables.specs.Items.{timers_shown}
use Rattle.clock.specs.Held.{held_in, UprightIn}

-- the timers' block went from w to w' as the ledger goes by f, whatever the tables and the slots are
abbrev pub DoesTimers : Shape → (w w' : List ℕ) → (Config → Ledger → Ledger) → Type 0
DoesTimers s w w' f = (tidy : Bool) (c : Config) (L : Ledger) (d z : List ℕ) → ShowsAs tidy c s L d z w → ShowsAs tidy c s (f c L) d z w'

-- the value r is the ledger's
abbrev pub TellsTimers : {A : Type 0} → Shape → List ℕ → (Config → Ledger → A) → A → Type 0
TellsTimers s w f r = (c : Config) (L : Ledger) (d z : List ℕ) → Shows c s L d z w → r ≡ f c L

-- where P holds of the ledger
abbrev pub DoesTimersIf : Shape → (w w' : List ℕ) → (Config → Ledger → Type 0) → (Config → Ledger → Ledger) → Type 0
DoesTimersIf s w w' P f = (tidy : Bool) (c : Config) (L : Ledger) (d z : List ℕ) → P c L → ShowsAs tidy c s L d z w → ShowsAs tidy c s (f c L) d z w'

-- a timer is started, where a record is left for it
abbrev pub Starts : Shape → (w w' : List ℕ) → (task semaphore left again : ℕ) → Type 0
Starts s w w' a b left again = (v : TockValue) → tocks v ≡ left → period v ≡ again → DoesTimersIf s w w' (λ c L. length L.timers < c.R) (λ c L. start_timer a b v L)

-- ---- a purge: task a loses all its timers, or only those on semaphore b
unfoldable pub purged : ℕ → Bool → ℕ → Ledger → Ledger
purged a all b L = set_timers (keep (λ (t : Timer). not (eqb t.task a && (all || eqb t.semaphore b))) L.timers) L

-- the ledger's own purge, and what terminating a task does to the timers
pub purge_is : (a b x : ℕ) (L : Ledger) → purge a b x L ≡ purged a (eqb (x % 256) 0) b L
unfolding purge purged
purge_is a b x L = refl

pub removed_is : (a b : ℕ) (L : Ledger) → set_timers (keep (λ (t : Timer). not (eqb t.task a)) L.timers) L ≡ purged a true b L
unfolding purged
removed_is a b L =
    let and : (x : Bool) → not x ≡ not (x && true) = λ x. elim x as (λ y. not y ≡ not (y && true)) [ true ↦ refl | false ↦ refl ] in
    λ i. set_timers (keep (λ (t : Timer). and (eqb t.task a) i) L.timers) L

-- of a purge that names semaphore b unless it takes all
pub purged_unless : (a b : ℕ) (all : Bool) (L : Ledger) → let s = cond all None (Some b) in purged a (is_none s) (unwrap_or s 0) L ≡ purged a all b L
unfolding purged
purged_unless a b true L = refl
purged_unless a b false L = refl

-- ---- the timers that are shown
pub held_of : {c : Config} {s : Shape} → Of c s → (w : List ℕ) → held_in s w ≡ timers_of c w
unfolding timers_of held_in
held_of o w = ap (λ (R : ℕ). timers_in (count_of R (get_or w 0 0)) (drop 1 w)) o.timers

module _ {tidy : Bool} (c : Config) (s : Shape) (L : Ledger) (d z w : List ℕ) (h : ShowsAs tidy c s L d z w) where
  pub held_shown : map (timer_left L) L.timers ≡ held_in s w
  held_shown = h.shown.timers ∙ sym (held_of h.of w)

  -- what is shown tidily has no more timers than there can be, in order
  pub tidy_count : tidy ≡ true → get_or w 0 0 ≤ s.timers
  tidy_count q = omega (arith, (h.shown.tidily q).timers.0, h.of.timers)

  pub tidy_upright : tidy ≡ true → UprightIn w
  tidy_upright q = (h.shown.tidily q).timers.1

  -- other bytes, which hold the timers v
  pub timers_stored : (w' : List ℕ) (v : List Timer) → length w' ≡ length w → map (timer_left L) v ≡ held_in s w' → get_or w' 0 0 ≤ s.timers → (tidy ≡ true → UprightIn w')
      → ShowsAs tidy c s (set_timers v L) d z w'
  timers_stored w' v e new few neat =
      record {
        of = h.of;
        room = h.room;
        slots = h.slots;
        counted = omega (arith, h.counted);
        shown = timers_shown c L (regions s d) z w h.shown w' v (new ∙ held_of h.of w') (λ q. (omega (arith, h.of.timers), neat q));
      }
