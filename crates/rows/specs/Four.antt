-- A number of four bytes, low first.
use Rattle.std.specs.Prelude.{◌≡◌, List, [], ◌∷◌, ℕ, ◌+◌, ◌*◌, ◌/◌, ◌%◌, ◌^◌, ◌<◌, get_or}
use Rattle.std.proofs.Common.{arith}

abbrev pub le4 : List ℕ → ℕ → ℕ
le4 d i = get_or d i 0 + get_or d (i + 1) 0 * 256 + get_or d (i + 2) 0 * 65536 + get_or d (i + 3) 0 * 16777216

abbrev pub bytes4 : ℕ → List ℕ
bytes4 x = x % 256 ∷ x / 256 % 256 ∷ x / 65536 % 256 ∷ x / 16777216 ∷ []

pub four_back : (x : ℕ) → x < 2 ^ 32 → le4 (bytes4 x) 0 ≡ x
four_back x h = omega arith
