-- As many messages lie in the mailboxes as records are taken, since every record lies in one.
use Rattle.std.specs.Prelude.{◌≡◌, ℕ, zero, suc, ◌+◌, ◌<◌, ◌≤◌, List, [], ◌∷◌, map, length, replicate, slice_index, slice_index_or, slice_set, refl}
use Rattle.std.proofs.Common.{ap, ◌∙◌, arith}
use Rattle.ledger.specs.Lists.{at, put}
use Rattle.ledger.specs.Ledger.{Message}
use Rattle.ledger.specs.Good.{Numbered}
use Rattle.rows.specs.Rows.{rows_of, length_rows}
use Rattle.messages.specs.Pending.{Pending, pending_of, pending_in, mailboxes_of}
use Rattle.messages.specs.Mailboxes.{mailboxes_none}
use Rattle.messages.specs.Counted.{mailboxes_front, many, means_within}

-- how many messages lie in these mailboxes
unfoldable pub lying : List (List Message) → ℕ
lying [] = 0
lying (box ∷ boxes) = length box + lying boxes

lying_empty : (n : ℕ) → lying (replicate n []) ≡ 0
unfolding lying
lying_empty zero = refl
lying_empty (suc n) = omega (arith, lying_empty n)

lying_set : (boxes : List (List Message)) (n : ℕ) (m : Message) → n < length boxes → lying (slice_set boxes n (m ∷ slice_index_or boxes n [])) ≡ suc (lying boxes)
unfolding lying
lying_set [] n m h = absurd (omega arith)
lying_set (b ∷ boxes) zero m h = omega arith
lying_set (b ∷ boxes) (suc n) m h = omega (arith, lying_set boxes n m (omega arith))

lying_more : (boxes : List (List Message)) (t : ℕ) (m : Message) → Numbered (length boxes) t → lying (put boxes t (m ∷ at boxes t [])) ≡ suc (lying boxes)
unfolding put at
lying_more boxes zero m h = absurd (omega arith)
lying_more boxes (suc n) m h = lying_set boxes n m (omega arith)

module _ (T : ℕ) (some : 1 ≤ T) where
  lying_rows : (rows : List (List ℕ)) → lying (mailboxes_of T (map (pending_of T) rows)) ≡ length rows
  lying_rows [] = ap lying (mailboxes_none T) ∙ lying_empty T
  lying_rows (r ∷ rows) =
      let p : Pending = pending_of T r in
      let l : List Pending = map (pending_of T) rows in
      let w = means_within T some (slice_index r 0) in
      let n : Numbered (length (mailboxes_of T l)) p.to = record { from = w.0; upto = omega (arith, w.1, many p l T w.0 w.1) } in
      ap lying (mailboxes_front p l T w.0 w.1) ∙ lying_more (mailboxes_of T l) p.to p.message n ∙ ap suc (lying_rows rows)

  pub lying_are : (n : ℕ) (d : List ℕ) → lying (mailboxes_of T (pending_in T n d)) ≡ n
  unfolding pending_in
  lying_are n d = lying_rows (rows_of 4 n d) ∙ length_rows 4 n d
