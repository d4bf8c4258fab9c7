-- Worked examples: runs of eight records, of none, and of as many as there may be.
use Rattle.std.specs.Prelude.{◌≡◌, refl, List, [], ◌∷◌, map, ℕ, replicate, Result, Ok, Err}
use Rattle.refusals.specs.declared.Refusal.{Refusal}
use Rattle.refusals.specs.declared.Refusal.TheVariants as refusal
use Rattle.stretch.specs.declared.Record.{Record}
use Rattle.stretch.specs.declared.Stretch.{Stretch}
use Rattle.stretch.specs.Busiest.{busiest_of}

abbrev of : ℕ → Record
of n = record { tocks = 7; running = 3; reissues = n }

abbrev run : List Record
run = map of (1 ∷ 4 ∷ 0 ∷ 5 ∷ 5 ∷ 0 ∷ 6 ∷ 4 ∷ [])

abbrev most : ℕ
most = 65535

abbrev found : ℕ → ℕ → Result Stretch Refusal
found sum place = Ok (record { sum = sum; place = place })

abbrev refused : Result Stretch Refusal
refused = Err refusal.Stretch

pub record Table : Type 0 where
  pub one : busiest_of run 1 ≡ found 6 6
  pub two_earliest : busiest_of run 2 ≡ found 10 3
  pub three : busiest_of run 3 ≡ found 11 4
  pub five : busiest_of run 5 ≡ found 20 3
  pub all : busiest_of run 8 ≡ found 25 0
  pub above : busiest_of run 9 ≡ refused
  pub none : busiest_of run 0 ≡ refused
  pub no_records : busiest_of [] 0 ≡ refused
  pub no_reissues : busiest_of (map of (0 ∷ 0 ∷ 0 ∷ [])) 2 ≡ found 0 0
  pub full : busiest_of (map of (most ∷ most ∷ [])) 2 ≡ found 131070 0
  pub longest : busiest_of (replicate 4096 (of most)) 4096 ≡ found 268431360 0
  pub too_long : busiest_of (replicate 4097 (of most)) 1 ≡ refused

pub table : Table
unfolding busiest_of
table = record { one = refl; two_earliest = refl; three = refl; five = refl; all = refl; above = refl; none = refl; no_records = refl; no_reissues = refl; full = refl; longest = refl; too_long = refl }
