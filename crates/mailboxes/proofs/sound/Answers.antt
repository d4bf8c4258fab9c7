-- There is room, or the records that are tested are all of them.
use Prim.Native.Nat.{ℕ}
use mathlib.Core.Path.{sym, ap, ◌∙◌}
use mathlib.Core.List.{List}
use native.Mathlib.Omega.{arith}
use Rattle.std.proofs.Common.{◌≤◌}
use Rattle.messages.specs.Pending.{numbers_in, complete_in}
use Rattle.mailboxes.specs.Room.{sound_roomy, sound_full}
use Rattle.mailboxes.specs.Mail.{lies, bytes_are}
use Rattle.mailboxes.proofs.sound.Goals as goal

pub bounds-tables-1 : goal.bounds-tables-1
bounds-tables-1 c = (lies c.requires).counted

pub returns-then-n-shape : goal.returns-then-n-shape
returns-then-n-shape c =
    let a = c.args in
    let n = c.count_of-n in
    sound_roomy a.shape a.tables.now n.result n.ensures.0 c.if-n-shape.true

pub complete-requires : goal.complete-requires
complete-requires c = (lies c.requires).most

pub returns : goal.returns
returns c =
    let a = c.args in
    let m = c.pending_in in
    let n = c.count_of-n in
    let f : a.shape.messages ≤ m.result.count = omega (arith, m.ensures.count, n.ensures.0, c.if-n-shape.false) in
    sound_full a.shape a.tables.now m.result.count m.ensures.count f c.complete.result
    (c.complete.ensures ∙ ap (λ (l : List ℕ). complete_in a.shape.messages (numbers_in m.result.count l)) (m.ensures.records ∙ sym (bytes_are a.shape a.tables.now)))
