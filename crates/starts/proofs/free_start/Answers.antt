-- The table is that of a valid call, and what the search finds in it is what is asked (proofs/Found).
use Rattle.starts.proofs.Found.{positive, ends}
use Rattle.starts.proofs.free_start.Goals as goal

pub first_free-requires : goal.first_free-requires
first_free-requires c = positive c.args.timers.now c.args.period c.in-Some.residues c.in-Some.ensures

pub returns : goal.returns
returns c = ends c.args.timers.now c.args.period c.in-Some.residues c.in-Some.ensures c.first_free.result c.first_free.ensures
