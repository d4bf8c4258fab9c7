-- The record goes in at the place that the search gave, or behind all; what that is on the mailboxes is the law `inserted`.
use Rattle.std.proofs.Common.{◌≡◌, ℕ, sym, ap, ◌∙◌, refl, arith, Option, unwrap_or}
use Rattle.messages.specs.Pending.{behind, place_for}
use Rattle.messages.specs.Records.{inserted}
use Rattle.messages.specs.Looking.{pendings, place_is, place_inside}
use Rattle.messages.proofs.insert.Goals as goal
use Rattle.messages.proofs.insert.Goals.{in-Some, in-None}

pub insert_at-requires : goal.insert_at-requires
insert_at-requires c =
    let a = c.args in
    let e : c.match-place.place ≡ unwrap_or c.place.result.place a.n =
    elim c.match-place.branch [
      | in-Some w ↦ w.place-is ∙ sym (ap (λ (o : Option ℕ). unwrap_or o a.n) w.in-Some.is)
      | in-None w ↦ w.place-is ∙ sym (ap (λ (o : Option ℕ). unwrap_or o a.n) w.in-None.is)
    ] in
    (omega (arith, e, place_inside (pendings a.tasks a.n a.b.now) (behind a.to a.message.sender) _ c.place.ensures.searched), omega (arith, c.requires.0.few), refl)

pub returns : goal.returns
unfolding place_for
returns c =
    let a = c.args in
    let e : c.match-place.place ≡ unwrap_or c.place.result.place a.n =
    elim c.match-place.branch [
      | in-Some w ↦ w.place-is ∙ sym (ap (λ (o : Option ℕ). unwrap_or o a.n) w.in-Some.is)
      | in-None w ↦ w.place-is ∙ sym (ap (λ (o : Option ℕ). unwrap_or o a.n) w.in-None.is)
    ] in
    let p = place_is (pendings a.tasks a.n a.b.now) (behind a.to a.message.sender) _ c.place.ensures.searched in
    inserted a.tasks a.n c.match-place.place a.to a.message.number a.message.sender a.message.semaphore a.b.now c.insert_at.new.buf c.requires.1 c.requires.2 (e ∙ p) c.insert_at.ensures
