-- The frame is as long as the bytes before it say.
use Prim.Native.Nat.{ℕ, ◌+◌}
use mathlib.Core.Path.{ap}
use Rattle.rows.specs.Splice.{cut}
use Rattle.parts.specs.Parts.{frame_at, kept_frame}
use Rattle.parts.proofs.kept_frame.Goals as goal

pub returns : goal.returns
unfolding kept_frame
returns c = ap (λ (n : ℕ). cut c.args.config.now frame_at (frame_at + n)) c.frame_length-end.ensures.0
