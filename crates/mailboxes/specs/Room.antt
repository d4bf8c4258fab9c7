-- Room for one more message, and the rule that there is some for a message that lies in no mailbox: where no record is free, all messages lie.
use Rattle.std.proofs.Math.Path.{◌≡◌, refl, sym, ap}
use Rattle.std.proofs.Common.{◌∙◌, subst, arith}
use Rattle.std.specs.Prelude.{Bool, ◌||◌, List, ℕ, ◌<◌, ◌≤◌, get_or}
use Rattle.std.proofs.Math.Bool.{true, false}
use Rattle.std.proofs.Math.Dec.{ltb}
use borrow.Author.Tests.{lt-ltb, le-ltb, ltb-true, ltb-false}
use Rattle.ledger.proofs.Theorems.Checks.{never}
use Rattle.messages.specs.Pending.{numbers_in, occurs, complete_in}
use Rattle.messages.specs.Records.{number_length}
use Rattle.messages.specs.Full.{full}
use Rattle.tables.specs.declared.shape.Shape.{Shape}
use Rattle.tables.specs.Layout.{OneOf, count_at, regions}
use Rattle.tables.specs.Decode.{count_of}

-- how many records are taken, and the messages' numbers in them
abbrev pub counted : Shape → List ℕ → ℕ
counted s d = count_of s.messages (get_or d count_at 0)

abbrev pub numbers : Shape → List ℕ → List ℕ
numbers s d = numbers_in (counted s d) (regions s d).messages

-- a record is free
abbrev pub Roomy : Shape → List ℕ → Type 0
Roomy s d = counted s d < s.messages

-- still so while the byte that counts them stays
pub roomy_stays : (s : Shape) (d d' : List ℕ) → get_or d' count_at 0 ≡ get_or d count_at 0 → Roomy s d → Roomy s d'
roomy_stays s d d' e h = subst (λ (x : ℕ). count_of s.messages x < s.messages) (sym e) h

-- rule 2 of docs/MEMORY.md whole: each message in the memory is one of those that there are, and lies there once
unfoldable pub whole_in : Shape → List ℕ → Bool
whole_in s d = complete_in s.messages (numbers s d)

-- the rule as a frame asks it: only where no record is free
unfoldable pub sound_in : Shape → List ℕ → Bool
sound_in s d = ltb (counted s d) s.messages || whole_in s d

module _ (s : Shape) (d : List ℕ) where
  pub whole_sound : whole_in s d ≡ true → sound_in s d ≡ true
  unfolding sound_in
  whole_sound e = go (ltb (counted s d) s.messages)
    where
      go : (b : Bool) → (b || whole_in s d) ≡ true
      go true = refl
      go false = e

  -- by the count that was read
  module _ (n : ℕ) (e : n ≡ counted s d) where
    pub sound_roomy : n < s.messages → true ≡ sound_in s d
    unfolding sound_in
    sound_roomy h = sym (rw (lt-ltb (counted s d) s.messages (omega (arith, e))))

    pub sound_full : s.messages ≤ n → (r : Bool) → r ≡ complete_in s.messages (numbers_in n (regions s d).messages) → r ≡ sound_in s d
    unfolding sound_in whole_in
    sound_full h r q =
        q ∙ ap (λ (k : ℕ). complete_in s.messages (numbers_in k (regions s d).messages)) e
        ∙ sym (rw (le-ltb (counted s d) s.messages (omega (arith, e))))

    -- a message that lies nowhere has room
    pub room_left : n ≤ s.messages → (x : ℕ) → OneOf s.messages x → occurs x (numbers_in n (regions s d).messages) ≡ false → sound_in s d ≡ true → Roomy s d
    unfolding sound_in whole_in
    room_left most x one none sound = go (ltb (counted s d) s.messages) refl sound
      where
        go : (b : Bool) → ltb (counted s d) s.messages ≡ b → (b || whole_in s d) ≡ true → Roomy s d
        go true q h = ltb-true (counted s d) s.messages q
        go false q h =
            let g : s.messages ≤ counted s d = ltb-false (counted s d) s.messages q in
            let f : occurs x (numbers s d) ≡ true = full s.messages x one.0 one.1 (numbers s d) h (number_length (counted s d) (regions s d).messages ∙ omega (arith, e)) in
            let k : occurs x (numbers s d) ≡ false = ap (λ (i : ℕ). occurs x (numbers_in i (regions s d).messages)) (sym e) ∙ none in
            let z : ◌≡◌ {A = Bool} true false = sym f ∙ k in
            never (sym z)
