-- One tick: with so many of K ticks left in the tock, the others have passed. In numbers, and in the first byte of the tables.
use Rattle.std.specs.Prelude.{◌≡◌, Bool, true, false, cond, not, ltb}
use Rattle.std.proofs.Math.Path.{refl, ap}
use Rattle.std.proofs.Common.{sym, ◌∙◌, length-set, get_or-set_other, ne_eqb, le-leb, lt-ltb, le-ltb}
use mathlib.Core.List.{List}
use Prim.Native.Nat.{ℕ, suc, ◌-◌, ◌<◌, ◌≤◌}
use native.Mathlib.Omega.{arith}
use Rattle.std.proofs.Math.ListN.{length, get_or, set}
use Rattle.std.proofs.Math.Seq.{get_or-set_same}
use Rattle.ledger.specs.Config.{Config}
use Rattle.ledger.specs.Ledger.{Ledger, set_clock}
use Rattle.ledger.specs.Session.{timer_left}
use Rattle.tables.specs.declared.shape.Shape.{Shape}
use Rattle.tables.specs.Layout.{Fits, fitting, bound, Regions, named, regions, but, byte_written, region_length, region_at}
use Rattle.tables.specs.Decode.{left_of}
use Rattle.tables.specs.Shows.{ticks_in, ShowsAs}
use Rattle.tables.specs.Items.{with_messages, clock_shown}
use Rattle.tables.specs.Stored.{shows_as}

-- the ticks left are 1 to K; a tock passes where the ticks of this one reach K, and those then are none
pub record AfterTick (K left after : ℕ) (tocked : Bool) : Type 0 where
  pub some : 1 ≤ after
  pub most : after ≤ K
  pub tock : tocked ≡ not (ltb (suc (K - left)) K)
  pub ticks : K - after ≡ cond tocked 0 (suc (K - left))

-- within the tock, and at its end
pub goes_on : (K left : ℕ) → 1 < left → left ≤ K → AfterTick K left (left - 1) false
goes_on K left lo hi =
    record { some = omega arith; most = omega arith; tock = ap not (sym (lt-ltb (suc (K - left)) K (omega arith))); ticks = omega arith }

pub begins_anew : (K left : ℕ) → 1 ≤ left → left ≤ 1 → left ≤ K → AfterTick K left K true
begins_anew K left lo one hi =
    record { some = omega arith; most = omega arith; tock = ap not (sym (le-ltb (suc (K - left)) K (omega arith))); ticks = omega arith }

-- where the byte lies, and that ticks left fit it
pub clock_in : {s : Shape} {n : ℕ} → Fits s n → 1 ≤ n
clock_in (fitting l r) = omega arith

pub most_ticks : {s : Shape} {n : ℕ} → Fits s n → (1 ≤ s.ticks) × (s.ticks ≤ 255)
most_ticks (fitting l r) = (l.ticks, l.tocks)

left_back : (K x : ℕ) → 1 ≤ x → x ≤ K → left_of K x ≡ x
left_back K x lo hi = rw (ne_eqb x 0 (λ e. omega arith), le-leb x K hi)

module _ {tidy : Bool} (c : Config) (s : Shape) (L : Ledger) (d z w : List ℕ) (h : ShowsAs tidy c s L d z w) where
  ticks_shown : L.ticks ≡ c.K - left_of c.K (get_or d 0 0)
  unfolding ticks_in regions named bound
  ticks_shown = h.shown.ticks ∙ ap (λ (x : ℕ). c.K - left_of c.K x) (region_at s d 0 0 (omega arith))

  -- x ticks left
  clock_stored : (x k : ℕ) → 1 ≤ x → x ≤ c.K → k ≡ c.K - x → ShowsAs tidy c s (set_clock L.N k L) (set d 0 x) z w
  unfolding ticks_in regions named but bound with_messages set_clock timer_left
  clock_stored x k lo hi e =
      let l = h.of.laid in
      let p : Regions = regions s d in
      let v : List ℕ = set p.clock 0 x in
      let n : length p.clock ≡ 2 = region_length s l d h.room 0 in
      shows_as c s L d z w (set d 0 x) z (with_messages v p.messages p) h (length-set d 0 x) refl
      (byte_written s l d h.room 0 0 x (omega arith))
      (set_clock L.N k L)
      (clock_shown c L p z w h.shown v w L.N k (get_or-set_other p.clock 0 1 x 0 (λ q. omega arith))
      (e ∙ ap (λ (y : ℕ). c.K - y) (sym (ap (left_of c.K) (get_or-set_same p.clock 0 x 0 (omega arith)) ∙ left_back c.K x lo hi)))
      h.shown.timers (λ q. let y : get_or v 0 0 ≡ x = get_or-set_same p.clock 0 x 0 (omega arith) in (omega arith, omega arith)) (λ q. (h.shown.tidily q).timers))

  module _ (left after : ℕ) (tocked : Bool) (is : left ≡ left_of s.ticks (get_or d 0 0)) (t : AfterTick s.ticks left after tocked) where
    passed : L.ticks ≡ s.ticks - left
    passed = ticks_shown ∙ rw (← h.of.ticks, is)

    pub tick_tells : tocked ≡ not (ltb (suc L.ticks) c.K)
    tick_tells = t.tock ∙ rw (passed, ← h.of.ticks)

    pub tick_does : ShowsAs tidy c s (set_clock L.N (cond tocked 0 (suc L.ticks)) L) (set d 0 after) z w
    tick_does =
        clock_stored after (cond tocked 0 (suc L.ticks)) t.some (omega (arith, t.most, h.of.ticks))
        (ap (λ (n : ℕ). cond tocked 0 (suc n)) passed ∙ sym t.ticks ∙ ap (λ (K : ℕ). K - after) h.of.ticks)
