-- The memory after a start shows the fresh ledger.
use Rattle.std.specs.Prelude.{◌≡◌, Bool, ℕ, ◌+◌, ◌-◌, ◌*◌, ◌≤◌, length, replicate}
use Rattle.std.proofs.Math.Path.{refl, sym, ap, subst}
use Rattle.std.proofs.Common.{◌∙◌, arith}
use mathlib.Core.List.{List}
use borrow.Rule.Slice.PartMut.{put_mid}
use Rattle.rows.specs.Splice.{cut}
use Rattle.ledger.specs.Lists.{byte}
use Rattle.ledger.specs.Config.{Config, config_in, config_refusal}
use Rattle.ledger.specs.Ledger.{fresh}
use Rattle.tables.specs.declared.shape.Shape.{Shape}
use Rattle.tables.specs.Layout.{Fits, fitting}
use Rattle.tables.specs.Shows.{Of, ShowsAs}
use Rattle.configuration.specs.Block.{states_in}
use Rattle.configuration.specs.Layout.{of_one}
use Rattle.configuration.specs.Accepted.{Accepted, accepted, accepted_length, accepted_states}
use Rattle.configuration.specs.Fresh.{FreshTables, fresh_shows}
use Rattle.configuration.specs.Written.{cleared_length, cleared}

-- the bytes of the timers' count, their clock and their records
abbrev pub timers_bytes : Shape → ℕ
timers_bytes s = 11 + 10 * s.timers

-- the memory shows the fresh ledger, tidily, in the shape that the frame asks for
pub record Started (f d z w : List ℕ) : Type 0 where
  pub shows : {tidy : Bool} (s : Shape) → Of (config_in f) s → ShowsAs tidy (config_in f) s (fresh (config_in f)) d z w

module _ (f : List ℕ) (zero : config_refusal f ≡ 0) where
  abbrev ok : Accepted f
  ok = accepted f zero

  pub states_in_front : 8 + byte 0 f ≤ length f
  states_in_front = omega (arith, ok.whole.front)

  pub frame_length : 8 ≤ length f
  frame_length = accepted_length f ok

  module _ (s : Shape) (o : Of (config_in f) s) where
    t_is : s.tasks ≡ byte 0 f
    unfolding config_in
    t_is = o.tasks

    pub tasks_in_lem : (s.tasks ≤ 126) × (s.tasks ≡ byte 0 f)
    tasks_in_lem = (o.laid.few, t_is)

    pub start_fits : (n : ℕ) → s.end ≤ n → Fits s n
    start_fits n h = fitting o.laid h

    module _ (d states : List ℕ) (es : states ≡ cut f 8 (8 + byte 0 f)) (b : FreshTables s (byte 5 f) states d) where
      states_are : states ≡ (config_in f).states
      states_are = es ∙ sym (states_in f (byte 0 f) (byte 2 f) refl refl)

      fresh_here : (u : Shape) → Of (config_in f) u → FreshTables u (config_in f).K (config_in f).states d
      unfolding config_in
      fresh_here u p =
          let x : FreshTables s (byte 5 f) (config_in f).states d = subst (λ (l : List ℕ). FreshTables s (byte 5 f) l d) states_are b in
          subst (λ (v : Shape). FreshTables v (byte 5 f) (config_in f).states d) (of_one (config_in f) s o ∙ sym (of_one (config_in f) u p)) x

      module _ (z ys w us : List ℕ) (ey : ys ≡ replicate (length (cut z 0 (16 * s.tasks))) 0) (eu : us ≡ replicate (length (cut w 0 11)) 0)
          (ld : s.end ≤ length d) (lz : 16 * s.tasks ≤ length z) (lw : timers_bytes s ≤ length w) where
        abbrev z' : List ℕ
        z' = put_mid 0 (16 * s.tasks - 0) z ys

        abbrev w' : List ℕ
        w' = put_mid 0 11 w us

        pub started : Started f d z' w'
        started =
            let c : Config = config_in f in
            let nz : length z' ≡ length z = cleared_length z ys (16 * s.tasks) ey lz in
            let nw : length w' ≡ length w = cleared_length w us 11 eu (omega arith) in
            record {
              shows = λ u p.
                  let e : u ≡ s = of_one c u p ∙ sym (of_one c s o) in
                  fresh_shows c u p d z' w' (accepted_states f ok) ok.states (fresh_here u p)
                  (omega (arith, nz, lz, o.tasks)) (λ i k. cleared z ys (16 * s.tasks) ey lz i (omega (arith, o.tasks))) (cleared w us 11 eu (omega arith) 0 (omega arith))
                  (omega (arith, ap (λ (x : Shape). x.end) e, ld)) (omega (arith, nw, o.timers, lw));
            }
