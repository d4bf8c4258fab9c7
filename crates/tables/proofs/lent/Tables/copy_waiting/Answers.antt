use Rattle.tables.specs.Waiting.{waiting_copied}
use Rattle.tables.proofs.lent.Tables.copy_waiting.Goals as goal

pub returns : goal.returns
returns c =
    let a = c.args in
    let b = a.self.now in
    waiting_copied b.shape b.bytes.now a.entry.now _ b.fits a.t c.requires.0 c.requires.1 c.copy_in.ensures
