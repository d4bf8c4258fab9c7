-- The reader's two passes: whether every byte of a line is a digit, and the bytes of the digits. The second computes a value for any byte,
-- which is the ledger's where the byte is a digit.
use Rattle.std.specs.Prelude.{ℕ, ◌+◌, ◌*◌, ◌/◌, ◌%◌, Bool, true, false, List}
use Rattle.std.proofs.Math.Option.{Option, none, some}
use Rattle.ledger.specs.Config.{twos}
use Rattle.ledger.specs.Lines.{digit_value}

abbrev pub is_some : {A : Type 0} → Option A → Bool
is_some none = false
is_some (some v) = true

unfoldable pub is_digit : ℕ → Bool
is_digit d = is_some (digit_value d)

abbrev pub nibble : ℕ → ℕ
nibble d = (d % 16 + d / 64 * 9) % 16

unfoldable pub pairs : List ℕ → List ℕ
pairs = twos (λ h l. 16 * nibble h + nibble l)
