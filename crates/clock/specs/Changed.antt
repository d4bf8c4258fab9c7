-- The records were lent and came back as other bytes, and the count was stored: what that is on the ledgers that the block shows.
use Rattle.std.specs.Prelude.{◌≡◌, refl, Bool, true, ◌&&◌, ◌||◌, List, map, ℕ, suc, ◌-◌, ◌<◌, ◌≤◌, length, get_or, set}
use Rattle.std.proofs.Math.Path.{sym, ap}
use Rattle.std.proofs.Common.{◌∙◌, arith, length-set, get_or-set_same}
use Rattle.std.proofs.Math.Bool.{not}
use Rattle.std.proofs.Math.Dec.{eqb}
use borrow.Rule.Slice.PartMut.{put_mid}
use Rattle.rows.specs.Splice.{cut}
use Rattle.ledger.specs.Lists.{any, keep, insert_by}
use Rattle.ledger.specs.Config.{Config}
use Rattle.ledger.specs.Time.{TockValue, tocks, period}
use Rattle.ledger.specs.Ledger.{Timer, Ledger, set_timers, set_clock}
use Rattle.ledger.specs.Services.{insert_timer, start_timer}
use Rattle.ledger.specs.Refusals.{have_timer}
use Rattle.ledger.specs.Session.{timer_left}
use Rattle.timers.specs.Timers.{timer, timers_in, tocks_left, started_for, stays, tocked, due_in, first_due, taken_due, StaysUpright}
use Rattle.timers.specs.Loops.{length_timers}
use Rattle.ledger.proofs.Theorems.Keeps.{keep_map}
use Rattle.timers.specs.Shown.{shown_length, shown_have, shown_start}
use Rattle.timers.specs.Drained.{next_due, take_due, one_fewer, shown_next, shown_take}
use Rattle.tables.specs.declared.shape.Shape.{Shape}
use Rattle.tables.specs.Decode.{count_of}
use Rattle.tables.specs.Shows.{ShowsAs}
use Rattle.tables.specs.Stored.{before_stays}
use Rattle.clock.specs.Held.{Holds, some_byte, held_in, UprightIn, lent, held_same, held_counted, lent_upright, same_upright, counted_upright}
use Rattle.clock.specs.Does.{DoesTimers, TellsTimers, purged, held_shown, tidy_count, tidy_upright, timers_stored}
use Rattle.clock.specs.Tocks.{tock_does}

module _ (s : Shape) (w : List ℕ) (h : Holds s (length w)) (n : ℕ) (counts : n ≡ count_of s.timers (get_or w 0 0)) where
  -- ---- what is read

  pub count_tells : TellsTimers s w (λ c L. length L.timers) n
  unfolding held_in
  count_tells c L d z g = counts ∙ sym (shown_length L (held_shown c s L d z w g) ∙ length_timers _ _)

  pub has_tells : (a b : ℕ) (r : Bool) → r ≡ any (started_for a b) (timers_in n (cut w 1 (length w))) → TellsTimers s w (λ c L. have_timer L a b) r
  has_tells a b r e c L d z g = e ∙ ap (any (started_for a b)) (lent s w h n counts) ∙ sym (shown_have L (held_shown c s L d z w g) a b)

  pub due_tells : (r : ℕ) → r ≡ (first_due (timers_in n (cut w 1 (length w)))).semaphore → TellsTimers s w (λ c L. (next_due L).semaphore) r
  unfolding timer_left
  due_tells r e c L d z g = e ∙ rw (lent s w h n counts, ← shown_next L (held_shown c s L d z w g))

  -- ---- the records, with the count as it was: a tock
  module _ (ys : List ℕ) (kept : length (put_mid 1 (length w - 1) w ys) ≡ length w) where
    pub pass_due : (r : ℕ) → r ≡ due_in (timers_in n ys) → r ≡ due_in (held_in s (put_mid 1 (length w - 1) w ys))
    pass_due r e = e ∙ ap due_in (sym (held_same s w h n counts ys))

    pub pass_does : timers_in n ys ≡ map tocked (timers_in n (cut w 1 (length w))) → StaysUpright n (cut w 1 (length w)) n ys → DoesTimers s w (put_mid 1 (length w - 1) w ys) (λ c L. set_clock (suc L.N) L.ticks L)
    pass_does e neat tidy c L d z g =
        tock_does c s L d z w (put_mid 1 (length w - 1) w ys) g kept (held_same s w h n counts ys ∙ e ∙ ap (map tocked) (lent s w h n counts))
        (before_stays 1 (length w - 1) 0 w ys (omega arith) (some_byte h))
        (λ q. let f = tidy_count c s L d z w g q in same_upright s w h n counts ys f (neat (lent_upright s w h n counts f (tidy_upright c s L d z w g q))))

    -- ---- and another count
    module _ (m x : ℕ) (f : m ≤ s.timers) (byte : x ≡ m) (neat : StaysUpright n (cut w 1 (length w)) m ys) where
      abbrev after : List ℕ
      after = set (put_mid 1 (length w - 1) w ys) 0 x

      after_length : length after ≡ length w
      after_length = length-set (put_mid 1 (length w - 1) w ys) 0 x ∙ kept

      after_held : held_in s after ≡ timers_in m ys
      after_held = rw byte (held_counted s w h n counts ys m f)

      after_count : get_or after 0 0 ≤ s.timers
      after_count = omega (arith, get_or-set_same (put_mid 1 (length w - 1) w ys) 0 x 0 (omega (arith, kept, some_byte h)))

      after_upright : {tidy : Bool} (c : Config) (L : Ledger) (d z : List ℕ) → ShowsAs tidy c s L d z w → tidy ≡ true → UprightIn after
      after_upright c L d z g q = rw byte (counted_upright s w h n counts ys m (neat (lent_upright s w h n counts (tidy_count c s L d z w g q) (tidy_upright c s L d z w g q))))

      pub start_does : (a b left p : ℕ) → timers_in m ys ≡ insert_by tocks_left (timer a b left p) (timers_in n (cut w 1 (length w)))
          → (tidy : Bool) (c : Config) (L : Ledger) (d z : List ℕ) (v : TockValue) → tocks v ≡ left → period v ≡ p → ShowsAs tidy c s L d z w → ShowsAs tidy c s (start_timer a b v L) d z after
      unfolding start_timer insert_timer set_timers timer_left
      start_does a b left p e tidy c L d z v el ep g =
          timers_stored c s L d z w g after _ after_length
          (shown_start L (held_shown c s L d z w g) a b v ∙ rw (el, ep, ← lent s w h n counts) (sym (after_held ∙ e))) after_count (after_upright c L d z g)

      pub purge_does : (a : ℕ) (all : Bool) (b : ℕ) → timers_in m ys ≡ keep (stays a all b) (timers_in n (cut w 1 (length w))) → DoesTimers s w after (λ c L. purged a all b L)
      unfolding purged timer_left
      purge_does a all b e tidy c L d z g =
          timers_stored c s L d z w g after _ after_length
          (keep_map (timer_left L) (λ (t : Timer). not (eqb t.task a && (all || eqb t.semaphore b))) (stays a all b) (λ t. refl) L.timers
          ∙ ap (keep (stays a all b)) (held_shown c s L d z w g ∙ sym (lent s w h n counts)) ∙ sym (after_held ∙ e)) after_count (after_upright c L d z g)

      module _ (e : timers_in m ys ≡ taken_due (timers_in n (cut w 1 (length w)))) where
        taken : held_in s after ≡ taken_due (held_in s w)
        taken = after_held ∙ e ∙ ap taken_due (lent s w h n counts)

        pub due_fewer : 0 < due_in (held_in s w) → due_in (held_in s after) ≡ due_in (held_in s w) - 1
        due_fewer q = omega (arith, one_fewer (held_in s w) q, ap due_in taken)

        pub due_does : DoesTimers s w after (λ c L. take_due L)
        unfolding take_due set_timers timer_left
        due_does tidy c L d z g = timers_stored c s L d z w g after _ after_length (shown_take L (held_shown c s L d z w g) ∙ sym taken) after_count (after_upright c L d z g)
