-- Rule 2 is what the ledger's mailboxes say: whole, that they hold messages 1 to G, none twice, which every step keeps. So a frame finds
-- the rule kept in memory that calls left, and memories that show the same ledger both keep it or neither does.
use Rattle.std.specs.Prelude.{◌≡◌, refl, Bool, true, false, cond, ◌||◌, List, ℕ, ◌≤◌, leb, get_or}
use Rattle.std.proofs.Math.Path.{sym, ap₂}
use Rattle.std.proofs.Common.{ap, ◌∙◌, subst, arith, leb-true}
use Rattle.std.proofs.Math.Dec.{ltb}
use Rattle.messages.specs.Pending.{pending_in, mailboxes_of, numbers_in, occurs, complete_in}
use Rattle.messages.specs.Counted.{once_complete, complete_once}
use Rattle.messages.specs.Lying.{lying, lying_are}
use Rattle.tables.specs.declared.shape.Shape.{Shape}
use Rattle.tables.specs.Layout.{OneOf, count_at, regions}
use Rattle.tables.specs.Decode.{count_of}
use Rattle.tables.specs.Shows.{pending_of, mailboxes_in, ShowsAs}
use Rattle.ledger.specs.Config.{Config}
use Rattle.ledger.specs.Ledger.{Ledger}
use Rattle.ledger.specs.Refusals.{inamailbox}
use Rattle.ledger.proofs.Theorems.Once.{Once}
use Rattle.mailboxes.specs.Room.{counted, Roomy, whole_in, sound_in, whole_sound, room_left}
use Rattle.mailboxes.specs.Mail.{bytes, bytes_are, counter}
use Rattle.mailboxes.specs.Operations.{holds_told}

most : (g x : ℕ) → count_of g x ≤ g
most g x = go (leb x g) refl
  where
    go : (b : Bool) → leb x g ≡ b → cond b x g ≤ g
    go true e = leb-true x g e
    go false e = omega arith

module _ {tidy : Bool} (c : Config) (s : Shape) (L : Ledger) (d z w : List ℕ) (h : ShowsAs tidy c s L d z w) where
  -- the records by the configuration's numbers
  abbrev many : ℕ
  many = count_of c.G (get_or (regions s d).clock count_at 0)

  boxes_are : L.mailboxes ≡ mailboxes_of c.T (pending_in c.T many (regions s d).messages)
  unfolding mailboxes_in pending_of
  boxes_are = h.shown.mailboxes

  whole_is : whole_in s d ≡ complete_in c.G (numbers_in many (regions s d).messages)
  unfolding whole_in
  whole_is = ap₂ (λ (g x : ℕ). complete_in g (numbers_in (count_of g x) (regions s d).messages)) h.of.messages (sym (counter c s L d z w h))

  some : 1 ≤ c.T
  some = let l = h.of.laid in omega (arith, l.some, h.of.tasks)

  -- as many records are taken as messages lie in the ledger's mailboxes
  pub counted_shown : counted s d ≡ lying L.mailboxes
  counted_shown =
      ap₂ count_of h.of.messages (sym (counter c s L d z w h))
      ∙ sym (lying_are c.T some many (regions s d).messages) ∙ sym (ap lying boxes_are)

  whole_shown : Once c L.mailboxes → whole_in s d ≡ true
  whole_shown o = whole_is ∙ once_complete c.T some c many (regions s d).messages (subst (Once c) boxes_are o)

  shown_once : whole_in s d ≡ true → Once c L.mailboxes
  shown_once e = subst (Once c) (sym boxes_are) (complete_once c.T some c many (regions s d).messages (sym whole_is ∙ e))

  -- a message of those that there are, which the ledger has in no mailbox, has room where a frame found the rule kept
  pub room_shown : (x : ℕ) → OneOf s.messages x → inamailbox L x ≡ false → sound_in s d ≡ true → Roomy s d
  room_shown x one none e =
      let m : occurs x (numbers_in (counted s d) (bytes s d)) ≡ inamailbox L x = holds_told c s L d z w h (counted s d) refl x (occurs x (numbers_in (counted s d) (bytes s d))) refl in
      room_left s d (counted s d) refl (most s.messages (get_or d count_at 0)) x one
      (ap (λ (l : List ℕ). occurs x (numbers_in (counted s d) l)) (bytes_are s d) ∙ m ∙ none) e

  -- so the test of a frame finds the rule kept
  pub sound_shown : Once c L.mailboxes → sound_in s d ≡ true
  sound_shown o = whole_sound s d (whole_shown o)

-- two memories that show the same ledger: the rule as a frame asks it is kept in both or in none
module _ {tidy : Bool} (c : Config) (s : Shape) (L : Ledger) (d z w d' z' w' : List ℕ) (h : ShowsAs tidy c s L d z w) (k : ShowsAs tidy c s L d' z' w') where
  whole_same : whole_in s d ≡ whole_in s d'
  whole_same = go (whole_in s d) (whole_in s d') (λ e. whole_shown c s L d' z' w' k (shown_once c s L d z w h e)) (λ e. whole_shown c s L d z w h (shown_once c s L d' z' w' k e))
    where
      go : (a b : Bool) → (a ≡ true → b ≡ true) → (b ≡ true → a ≡ true) → a ≡ b
      go true b f g = sym (f refl)
      go false true f g = g refl
      go false false f g = refl

  pub sound_same : sound_in s d ≡ sound_in s d'
  unfolding sound_in
  sound_same = ap₂ (λ (n : ℕ) (b : Bool). ltb n s.messages || b) (counted_shown c s L d z w h ∙ sym (counted_shown c s L d' z' w' k)) whole_same
