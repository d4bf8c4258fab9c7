-- `tocks::tock_value` meets its contract: a signed number asks for the same in more bits. Assumes nothing.
use Rattle.std.proofs.Common.{sym, ◌∙◌, arith}
use Rattle.std.specs.Int.{w16, w32}
use Rattle.std.proofs.lemmas.Int.{to_z-of_z}
use mir.Val.{SFits}
use Rattle.ledger.specs.Time.{tock_value, long_tock_value}
use Rattle.tocks.specs.Signs.{asked_by_bits}
use Rattle.tocks.proofs.tock_value.Goals as goal

pub returns : goal.returns
unfolding tock_value long_tock_value
returns c =
    let x = c.args.x in
    let wide : SFits w32 x = record { sfits = omega (arith, c.ranges.x.sfits) } in
    let same = to_z-of_z w16 x c.ranges.x in
    let kept = to_z-of_z w32 x wide in
    c.long_tock_value.ensures ∙ rw (same, kept) (sym (asked_by_bits w32 x wide) ∙ asked_by_bits w16 x c.ranges.x)
