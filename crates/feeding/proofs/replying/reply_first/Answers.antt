-- The line is read; one that is no frame refuses the configuration with 1, and a frame is handed to the executive.
use lib.Seq.{length-take-le}
use mathlib.Core.Path.{sym}
use native.Mathlib.Omega.{arith}
use Rattle.feeding.specs.Replies.{read_none, read_frame, begins_none, begins_running, begins_ended}
use Rattle.feeding.proofs.replying.reply_first.Goals as goal

pub slice_bounds-frame-end : goal.slice_bounds-frame-end
slice_bounds-frame-end c = (read_frame _ _ _ _ c.read.ensures (omega arith) _ c.in-Ok.is).0

pub slice_bounds-mcx11_configure_blocks-end : goal.slice_bounds-mcx11_configure_blocks-end
slice_bounds-mcx11_configure_blocks-end c = sym (length-take-le _ _ (read_frame _ _ _ _ c.read.ensures (omega arith) _ c.in-Ok.is).0)

pub returns-then-r-eq0 : goal.returns-then-r-eq0
returns-then-r-eq0 c = begins_running c.requires c.mcx11_configure_blocks-r.ensures (read_frame _ _ _ _ c.read.ensures (omega arith) _ c.in-Ok.is).1 c.if-r-eq0.true

pub returns-in-Err : goal.returns-in-Err
returns-in-Err c =
    begins_none _ _ _ _ _ _ (read_none _ _ _ _ c.read.ensures (omega arith) _ c.in-Err.is) c.refuse_configuration.ensures

pub returns-else-r-eq0 : goal.returns-else-r-eq0
returns-else-r-eq0 c = begins_ended c.requires c.mcx11_configure_blocks-r.ensures (read_frame _ _ _ _ c.read.ensures (omega arith) _ c.in-Ok.is).1 c.if-r-eq0.false
