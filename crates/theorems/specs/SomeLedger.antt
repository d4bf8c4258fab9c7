-- Every memory that is lent well shows some ledger: its frame lays out the tables, and the full sizes have room for them.
use Rattle.std.specs.Prelude.{◌≡◌, true}
use Rattle.std.proofs.Common.{arith}
use Rattle.ledger.specs.Config.{Limits}
use Rattle.ledger.specs.Ledger.{Ledger}
use Rattle.tables.specs.AnyMemory.{some, shows_some}
use Rattle.configuration.specs.Limits.{Made}
use Rattle.configuration.specs.Block.{frame_rule}
use Rattle.configuration.specs.Layout.{shape_of}
use Rattle.parts.specs.Parts.{kept_frame}
use Rattle.mcx11.specs.Contract.{Memory, full_size, config_of, tables_part, slots_part, timers_part, lent_well, Displays}
use Rattle.mcx11.specs.Sizes.{well_full, well_frame}
use Rattle.mcx11.specs.Kept.{config_shape, parts_long}

unfoldable pub ledger_in : Memory → Ledger
ledger_in m = let c = config_of m in some c (shape_of c) (tables_part c m) (slots_part c m) (timers_part c m)

module _ (k : Limits) (made : Made k) (m : Memory) where
  pub displays_ledger : full_size k m ≡ true → frame_rule k (kept_frame m.config) ≡ true → Displays (config_of m) (ledger_in m) m
  unfolding Displays ledger_in
  displays_ledger full keeps =
      let c = config_of m in
      let n = parts_long k made m full keeps in
      shows_some c (shape_of c) (tables_part c m) (slots_part c m) (timers_part c m) (config_shape k made m full keeps) (omega (arith, n.0)) (omega (arith, n.1)) (omega (arith, n.2))

  -- so does every memory that is lent well
  pub displays_some : lent_well k m ≡ true → Displays (config_of m) (ledger_in m) m
  displays_some w = displays_ledger (well_full k m w) (well_frame k m w)
