-- Slices, as what a caller lends: they come back as long as they were, and of bytes.
use Rattle.std.specs.Prelude.{List}
use seplogic.Ra.Ura.{Ura}
use base.Logic.{guard}
use types.Logic.{Logic, sem}
use Rattle.running.specs.Slices.{Slice, Ids, LastValues, afters, SameLengths, AreBytes, owns_of, asides_of, lefts_of, cells_of, toks_of}
use Rattle.running.specs.OneRun.{Lending}

abbrev pub AsLong : (L : List Slice) → LastValues L → Type 0
AsLong L ws = SameLengths L ws × AreBytes (afters L ws)

module _ {M : Type 1} {𝓤 : Ura M} (𝓛 : Logic 𝓤) where
  abbrev pub lending : List Slice → Lending 𝓤
  lending L =
      record {
        Ids = Ids L;
        Last = LastValues L;
        before = cells_of 𝓛 L;
        after = λ ws. guard 𝓤 (AsLong L ws) (cells_of 𝓛 (afters L ws));
        tokens = toks_of 𝓛 L;
        owns = λ ids. sem 𝓛 (owns_of 0 L ids);
        aside = λ ids. sem 𝓛 (asides_of L ids);
        left = λ ids ws. sem 𝓛 (lefts_of L ids ws);
      }
