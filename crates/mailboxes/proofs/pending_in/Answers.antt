-- The records that are lent are those that there is room for, and the count says how many are taken.
use Rattle.mailboxes.specs.Mail.{lies}
use Rattle.mailboxes.proofs.pending_in.Goals as goal

pub slice_bounds-result-count : goal.slice_bounds-result-count
slice_bounds-result-count c = (lies c.requires).start
