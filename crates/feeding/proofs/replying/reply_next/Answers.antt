-- The line is read; one that is no frame is answered with 1, and a frame is handed to the executive.
use mathlib.Core.Path.{sym}
use native.Mathlib.Omega.{arith}
use lib.Seq.{length-take-le}
use Rattle.feeding.specs.Replies.{read_none, read_frame, goes_on_none, goes_on_frame}
use Rattle.feeding.proofs.replying.reply_next.Goals as goal

pub slice_bounds-frame-end : goal.slice_bounds-frame-end
slice_bounds-frame-end c = (read_frame _ _ _ _ c.read.ensures (omega arith) _ c.in-Ok.is).0

pub slice_bounds-mcx11_frame_blocks-end : goal.slice_bounds-mcx11_frame_blocks-end
slice_bounds-mcx11_frame_blocks-end c = sym (length-take-le _ _ (read_frame _ _ _ _ c.read.ensures (omega arith) _ c.in-Ok.is).0)

pub returns-in-Err : goal.returns-in-Err
returns-in-Err c = goes_on_none _ _ _ _ _ _ (read_none _ _ _ _ c.read.ensures (omega arith) _ c.in-Err.is) c.refuse_line.auto.answer c.refuse_line.ensures

pub returns-in-Ok : goal.returns-in-Ok
returns-in-Ok c = goes_on_frame (read_frame _ _ _ _ c.read.ensures (omega arith) _ c.in-Ok.is).1 c.mcx11_frame_blocks.ensures
