-- What each case of the program's answers is in the ledger: document 01's number and values.
use Rattle.std.specs.Prelude.{ℕ, Result, Ok, Err}
use Rattle.ledger.specs.Time as time
use Rattle.refusals.specs.declared.Refusal.{Refusal}
use Rattle.refusals.specs.Numbers.{number_of}
use Rattle.tocks.specs.declared.TockValue.{TockValue}
use Rattle.tocks.specs.declared.TockValue.TheVariants as value

abbrev pub tock_view : TockValue → time.TockValue
tock_view value.None = time.none
tock_view (value.OneShot n) = time.one_shot n
tock_view (value.Cyclic p) = time.cyclic p

abbrev pub tocks_view : Result ℕ Refusal → time.Tocks
tocks_view (Ok n) = time.are n
tocks_view (Err refused) = time.refused (number_of refused)
