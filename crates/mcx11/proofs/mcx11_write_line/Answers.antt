-- `mcx11::mcx11_write_line` meets its contract, which is the writer's with its answer as one result. Assumes nothing.
use mathlib.Core.Path.{◌∙◌}
use lib.ListN.{length}
use Rattle.mcx11.proofs.Signed.{handed_on_lem}
use Rattle.mcx11.proofs.Results.{returns_it, write_is_short}
use Rattle.mcx11.proofs.mcx11_write_line.Goals as goal

pub returned-requires : goal.returned-requires
returned-requires c =
    let a = c.args in
    write_is_short (length a.line.now) a.frame.now a.line.now _ _ c.write.ensures

pub returns : goal.returns
returns c =
    returns_it _ _ _ _ _ c.write.ensures
    (handed_on_lem c.returned.result c.returned.type_inv ∙ c.returned.ensures)
