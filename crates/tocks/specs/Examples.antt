-- The ends of the signed 16-bit and 32-bit numbers, computed from their bits.
use Rattle.std.specs.Prelude.{◌≡◌, refl, pos, negsuc}
use Rattle.std.specs.Int.{w16, w32}
use Rattle.std.proofs.Common.{of_z}
use Rattle.ledger.specs.Time.{none, one_shot, cyclic, signed, tock_value, long_tock_value}

pub record Ends : Type 0 where
  lowest : tock_value (of_z w16 (negsuc 32767)) ≡ cyclic 32768
  minus_one : tock_value (of_z w16 (negsuc 0)) ≡ cyclic 1
  zero : tock_value (of_z w16 (pos 0)) ≡ none
  highest : tock_value (of_z w16 (pos 32767)) ≡ one_shot 32767
  long_lowest : long_tock_value (of_z w32 (negsuc 2147483647)) ≡ cyclic 2147483648
  long_minus_one : long_tock_value (of_z w32 (negsuc 0)) ≡ cyclic 1
  long_zero : long_tock_value (of_z w32 (pos 0)) ≡ none
  long_highest : long_tock_value (of_z w32 (pos 2147483647)) ≡ one_shot 2147483647

pub the_ends : Ends
unfolding tock_value long_tock_value signed
the_ends = record { lowest = refl; minus_one = refl; zero = refl; highest = refl; long_lowest = refl; long_minus_one = refl; long_zero = refl; long_highest = refl }
