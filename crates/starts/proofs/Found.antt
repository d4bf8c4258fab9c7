-- A start is hit in the table just if it is taken, so what the search finds is what is asked.
use Rattle.std.specs.Prelude.{ℕ, ◌≤◌, ◌<◌, ◌≡◌, refl, Bool, true, false, cond, List, ◌↔◌, ltb, length, take, Option, Some, None, Ok}
use Rattle.std.proofs.Common.{sym, ◌∙◌, subst, length-take, arith, ltb-false}
use Rattle.std.proofs.lemmas.List.{get_or-take}
use Rattle.starts.specs.declared.Cycle.{Cycle}
use Rattle.starts.specs.declared.table.Residue.{Residue}
use Rattle.starts.specs.Starts.{timer_at, cycle, Taken, Valid, Answers}
use Rattle.starts.specs.Least.{least_iff}
use Rattle.starts.specs.Divisor.{gcd_pos}
use Rattle.starts.specs.Enough.{enough_starts}
use Rattle.starts.specs.Table.{Beside, residue_at, Filled, Hit, Positive, First, tried_of}
use Rattle.starts.proofs.Collisions.{collide_rests}
use Rattle.starts.proofs.Theorems.{all_taken}
use Rattle.starts.proofs.Computed.{enough}

module _ (ts : List Cycle) (p : ℕ) (table : List Residue) (f : Filled ts p (Some table)) where
  -- the front of the table, as long as the list
  abbrev rs : List Residue
  rs = take (length ts) table

  valid : Valid ts p
  valid = f.0

  count : length rs ≡ length ts
  count = omega (arith, length-take (length ts) table, valid.few, f.1)

  beside : (k : ℕ) → k < length ts → Beside (timer_at ts k) p (residue_at rs k)
  beside k l = subst (Beside (timer_at ts k) p) (sym (get_or-take (length ts) table k _ l)) (f.2 k l)

  pub positive : Positive rs
  positive k l = gcd_pos (beside k (omega (arith, l, count))).gcd valid.new.low

  hit_taken : (s : ℕ) → Hit rs s ↔ Taken ts p s
  hit_taken s = (
    (λ x.
        let l : x.which < length ts = omega (arith, x.there, count) in
        let b = beside x.which l in
        record { which = x.which; there = l; collide = (collide_rests (timer_at ts x.which) (cycle s p) _ (valid.timers x.which l).low valid.new.low b.gcd).1 (sym (x.same ∙ b.rest)) }),
    (λ x.
        let b = beside x.which x.there in
        record {
          which = x.which;
          there = omega (arith, x.there, count);
          same = sym ((collide_rests (timer_at ts x.which) (cycle s p) _ (valid.timers x.which x.there).low valid.new.low b.gcd).0 x.collide) ∙ sym b.rest;
        }),
  )

  -- the starts that were tried tell of all
  tell_all : ((s : ℕ) → s < tried_of p → Taken ts p s) → Answers ts p (Ok None)
  tell_all = go (ltb p enough_starts)
    where
      go : (b : Bool) → ((s : ℕ) → s < cond b p enough_starts → Taken ts p s) → Answers ts p (Ok None)
      go true k = all_taken ts p valid k
      go false k = (valid, enough ts p valid k)

  within_period : (s : ℕ) → s < tried_of p → s < p
  within_period s = go (ltb p enough_starts) (ltb-false p enough_starts)
    where
      go : (b : Bool) → (b ≡ false → enough_starts ≤ p) → s < cond b p enough_starts → s < p
      go true e k = k
      go false e k = omega (arith, k, e refl)

  pub ends : (a : Option ℕ) → First (Hit rs) (tried_of p) a → Answers ts p (Ok a)
  ends (Some s) x = let l = least_iff hit_taken x.1 in (valid, record { below = within_period s x.0; free = l.stops x.0; least = l.before })
  ends None x = tell_all (λ s l. (hit_taken s).0 (x s l))
