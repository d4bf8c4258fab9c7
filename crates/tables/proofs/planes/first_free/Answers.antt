-- The low word decides, unless all of its tasks are blocked.
use native.Mathlib.Omega.{arith}
use Rattle.tables.specs.Words.{found_low, found_high}
use Rattle.tables.proofs.planes.first_free.Goals as goal

pub returns-in-Some : goal.returns-in-Some
returns-in-Some c =
    let first = c.in-Some.ensures in
    (found_low c.args.planes.now _ c.blocked.ensures _ first.0 first.1, omega (arith, first.1))

pub returns-in-Some-first_clear : goal.returns-in-Some-first_clear
returns-in-Some-first_clear c =
    let first = c.in-Some-first_clear.ensures in
    (found_high c.args.planes.now _ c.blocked.ensures c.in_default.ensures _ c.blocked-2.ensures _ first.0, omega (arith, first.1))

pub returns : goal.returns
returns c = found_high c.args.planes.now _ c.blocked.ensures c.in_default.ensures _ c.blocked-2.ensures _ c.in_default-first_clear.ensures
