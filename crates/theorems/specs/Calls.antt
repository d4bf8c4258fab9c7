-- A list of calls for frames: every call is lent the memory as the call before it left it, and only the frame is new. What is known of each call is `One`, as its contract.
use Rattle.std.specs.Prelude.{ℕ, List, [], ◌∷◌}
use Rattle.ledger.specs.Config.{Config, Limits}
use Rattle.ledger.specs.Seen.{Seen}
use Rattle.mcx11.specs.Contract.{Memory, Frames}
use Rattle.mcx11.specs.Answer.{answer_of}
use Rattle.mcx11.specs.Displayed.{items_in}

-- from the memory m by the frames, with these answers and numbers, to the memory m'. The list may be empty
pub data Calls (One : (f : List ℕ) (m m' : Memory) (r : ℕ) → Type 0) : (m : Memory) (frames answers : List (List ℕ)) (numbers : List ℕ) (m' : Memory) → Type 0 where
  none : {m : Memory} → Calls One m [] [] [] m
  call : {f : List ℕ} {m m₁ m' : Memory} {r : ℕ} {fs answers : List (List ℕ)} {numbers : List ℕ}
      → One f m m₁ r → Calls One m₁ fs answers numbers m' → Calls One m (f ∷ fs) (answer_of m₁ ∷ answers) (r ∷ numbers) m'

-- of an executive with the limits k, each by its contract alone
abbrev pub FrameCalls : Limits → (m : Memory) (frames answers : List (List ℕ)) (numbers : List ℕ) (m' : Memory) → Type 0
FrameCalls k = Calls (Frames k)

-- what a host sees of a call, and of them all
abbrev pub seen_call : Config → List ℕ → (m m' : Memory) → ℕ → Seen
seen_call c f m m' r = record { frame = f; number = r; before = items_in c m; after = items_in c m' }

unfoldable pub seen : {One : (f : List ℕ) (m m' : Memory) (r : ℕ) → Type 0} {m m' : Memory} {fs answers : List (List ℕ)} {numbers : List ℕ} → Config → Calls One m fs answers numbers m' → List Seen
seen c none = []
seen c (call {f} {m} {m₁} {r = r} s more) = seen_call c f m m₁ r ∷ seen c more
