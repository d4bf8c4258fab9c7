-- What a queue handed out, followed by what it holds, is all that was put into it, in order: one of the rules for queues, kept by every change.
use Rattle.std.specs.Prelude.{ℕ, ◌≡◌, List, [], ◌∷◌, ◌++◌}
use Rattle.ledger.specs.Config.{config_in, config_refusal}
use Rattle.ledger.specs.Ledger.{queue, held}
use Rattle.ledger.specs.Session.{run}
use Rattle.ledger.proofs.Theorems.Parts.{Every, nil, cons}
use Rattle.ledger.proofs.Theorems.Configured.{configured}
use Rattle.ledger.proofs.Theorems.Steps.{Values, any_values}
use Rattle.ledger.proofs.Theorems.Kept.{kept}
use Rattle.ledger.proofs.Theorems.Sound.Queues.{SoundQueues, queues_kept, queues_fresh}

-- nothing is asked of the frames
any : (fs : List (List ℕ)) → Every (Values (λ v. Unit {0})) fs
any [] = nil
any (f ∷ fs) = cons (any_values f) (any fs)

pub handed_out : (g : List ℕ) → config_refusal g ≡ 0 → (fs : List (List ℕ)) (q : ℕ)
    → let k = queue (run (config_in g) fs).0 q in k.handed_out ++ held k ≡ k.put
handed_out g h fs q =
    let c = config_in g in
    (kept c (λ v. Unit {0}) (SoundQueues c) queues_kept (configured g h).states (queues_fresh c) (any fs) q).fifo
