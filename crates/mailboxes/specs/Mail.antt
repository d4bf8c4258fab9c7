-- Where the messages lie in the tables, and what the tables show once their region and their number are new.
use Rattle.std.specs.Prelude.{Bool, true, ◌≡◌, ℕ, ◌+◌, ◌-◌, ◌*◌, ◌<◌, ◌≤◌, set}
use Rattle.std.proofs.Math.Path.{refl, sym, ap, ap₂}
use Rattle.std.proofs.Common.{◌∙◌, arith, length-set, get_or-set_other, le-leb}
use mathlib.Core.List.{List}
use Rattle.std.proofs.Math.ListN.{length, get_or}
use Rattle.std.proofs.Math.Seq.{get_or-set_same}
use borrow.Rule.Slice.PartMut.{put_mid}
use Rattle.rows.specs.Splice.{cut, splice}
use Rattle.rows.specs.Laws.{length_cut, length_splice, lent_back, splice_whole}
use Rattle.messages.specs.Pending.{Pending, addressed, pending_in, mailbox_of}
use Rattle.messages.specs.Searches.{record_room, Bounded}
use Rattle.messages.specs.Records.{pending_length}
use Rattle.messages.specs.Mailboxes.{mailbox_few}
use Rattle.messages.specs.declared.lent.Messages.{Messages}
use Rattle.tables.specs.declared.shape.Shape.{Shape}
use Rattle.tables.specs.Layout.{OneOf, count_at, Laid, Fits, fitting, bound, region, Regions, named, regions, but, written, byte_written, region_at, region_length}
use Rattle.tables.specs.Decode.{count_of}
use Rattle.tables.specs.Encoded.{count_in_lem}
use Rattle.tables.specs.Shows.{ShowsAs, pending_of}
use Rattle.tables.specs.Items.{with_messages, mailbox_is, mailbox_shown}
use Rattle.tables.specs.Stored.{shows_as}
use Rattle.ledger.specs.Config.{Config}
use Rattle.ledger.specs.Ledger.{Ledger, Message, mailbox, set_mailbox}

-- the messages' region, and the byte that counts them, lie within n bytes
pub record Lies (s : Shape) (n : ℕ) : Type 0 where
  pub counted : count_at < n
  pub start : s.messageat ≤ s.bodyat
  pub within : s.bodyat ≤ n
  pub room : s.bodyat - s.messageat ≡ s.messages * 4
  pub most : s.messages ≤ 64

pub lies : {s : Shape} {n : ℕ} → Fits s n → Lies s n
lies (fitting l r) = record { counted = omega arith; start = omega arith; within = omega arith; room = omega arith; most = l.messages }

-- the bytes of the messages, and the messages that are pending
abbrev pub bytes : Shape → List ℕ → List ℕ
bytes s d = cut d s.messageat s.bodyat

abbrev pub mail : Shape → List ℕ → List Pending
mail s d = pending_in s.tasks (count_of s.messages (get_or d count_at 0)) (bytes s d)

-- m is the messages that are pending in d, as they are lent
pub record PendingIn (s : Shape) (d : List ℕ) (m : Messages) : Type 0 where
  pub records : m.records.now ≡ bytes s d
  pub count : m.count ≡ count_of s.messages (get_or d count_at 0)
  pub few : m.count ≤ s.messages
  pub tasks : m.tasks ≡ s.tasks

pub bytes_are : (s : Shape) (d : List ℕ) → (regions s d).messages ≡ bytes s d
unfolding regions named region bound
bytes_are s d = refl

pub bytes_length : {s : Shape} (d : List ℕ) → Fits s (length d) → length (bytes s d) ≡ s.messages * 4
bytes_length {s} d f = let l = lies f in length_cut d s.messageat s.bodyat l.within ∙ l.room

-- what is lent to the searches has room for just the shape's G messages
pub bytes_room : {s : Shape} (d : List ℕ) → Fits s (length d) → record_room (bytes s d) ≡ s.messages
bytes_room d f = omega (arith, bytes_length d f)

pub bytes_bounded : {s : Shape} (d : List ℕ) → Fits s (length d) → {n : ℕ} → n ≤ s.messages → Bounded n (bytes s d)
bytes_bounded d f h = record { few = omega (arith, bytes_room d f); most = omega (arith, bytes_room d f, (lies f).most) }

module _ {tidy : Bool} (c : Config) (s : Shape) (L : Ledger) (d z w : List ℕ) (h : ShowsAs tidy c s L d z w) where
  pub counter : get_or (regions s d).clock count_at 0 ≡ get_or d count_at 0
  unfolding regions named bound
  counter = region_at s d 0 1 (omega arith)

  -- they are those that the ledger's mailboxes hold
  pub mail_is : mail s d ≡ pending_of c (regions s d)
  unfolding pending_of
  mail_is =
      ap₂ (λ (g x : ℕ). pending_in s.tasks (count_of g x) (bytes s d)) h.of.messages (sym counter)
      ∙ ap₂ (λ (t : ℕ) (l : List ℕ). pending_in t (count_of c.G (get_or (regions s d).clock count_at 0)) l) h.of.tasks (sym (bytes_are s d))

  -- the receivers of all of them, where the memory is tidy
  pub mail_tidy : tidy ≡ true → (n : ℕ) → n ≡ count_of s.messages (get_or d count_at 0) → addressed s.tasks n (bytes s d) ≡ true
  mail_tidy q n e =
      let o = (h.shown.tidily q).messages in
      let few : get_or d count_at 0 ≤ s.messages = omega (arith, o.0, counter, h.of.messages) in
      let m : n ≡ get_or (regions s d).clock count_at 0 = e ∙ rw (le-leb (get_or d count_at 0) s.messages few) (sym counter) in
      ap₂ (λ (t k : ℕ). addressed t k (bytes s d)) h.of.tasks m ∙ ap (addressed c.T (get_or (regions s d).clock count_at 0)) (sym (bytes_are s d)) ∙ o.1

-- the region came back as other bytes, and the byte that counts them is new
abbrev pub renewed : Shape → (d ys : List ℕ) → ℕ → List ℕ
renewed s d ys v = set (put_mid s.messageat (s.bodyat - s.messageat) d ys) count_at v

module _ (s : Shape) (l : Laid s) (d : List ℕ) (space : s.end ≤ length d) (ys : List ℕ) (n : length ys ≡ length (bytes s d)) where
  abbrev back : List ℕ
  back = put_mid s.messageat (s.bodyat - s.messageat) d ys

  own : length (bytes s d) ≡ s.bodyat - s.messageat
  own = length_cut d s.messageat s.bodyat (omega arith)

  back_is : back ≡ splice d (s.messageat + 0) ys
  back_is = lent_back d s.messageat s.bodyat 0 ys ys (omega arith) (omega arith) (omega (arith, own)) (sym (splice_whole (bytes s d) ys n))

  back_length : length back ≡ length d
  back_length = ap length back_is ∙ length_splice d (s.messageat + 0) ys (omega (arith, own))

  back_regions : regions s back ≡ with_messages (regions s d).clock ys (regions s d)
  unfolding regions named but bound with_messages
  back_regions =
      ap (regions s) back_is ∙ written s l d space 6 0 ys (omega (arith, own))
      ∙ ap (λ (x : List ℕ). named (but (region s d) 6 x)) (splice_whole (region s d 6) ys (n ∙ ap length (sym (bytes_are s d))))

  module _ (v : ℕ) where
    pub renewed_length : length (renewed s d ys v) ≡ length d
    renewed_length = length-set back count_at v ∙ back_length

    pub renewed_regions : regions s (renewed s d ys v) ≡ with_messages (set (regions s d).clock count_at v) ys (regions s d)
    unfolding regions named but bound with_messages
    renewed_regions =
        byte_written s l back (omega (arith, back_length)) 0 1 v (omega arith)
        ∙ ap (λ (p : Regions). with_messages (set p.clock count_at v) p.messages p) back_regions

-- what is then shown: one mailbox is new, the others are as they were
module _ {tidy : Bool} (c : Config) (s : Shape) (L : Ledger) (d z w : List ℕ) (h : ShowsAs tidy c s L d z w) (t : ℕ) (to : OneOf s.tasks t) where
  pub mailbox_in : mailbox L t ≡ mailbox_of t (mail s d)
  mailbox_in = mailbox_is c L (regions s d) z w h.shown t (to.0, omega (arith, h.of.tasks)) ∙ ap (mailbox_of t) (sym (mail_is c s L d z w h))

  -- it holds no more messages than there are
  pub mailbox_most : length (mailbox L t) ≤ s.messages
  mailbox_most =
      omega (arith, ap length mailbox_in, mailbox_few t (mail s d), pending_length s.tasks (count_of s.messages (get_or d count_at 0)) (bytes s d), count_in_lem s.messages (get_or d count_at 0))

  module _ (ys : List ℕ) (n : length ys ≡ length (bytes s d)) (v : ℕ) (few : v ≤ s.messages) where
    abbrev clock : List ℕ
    clock = set (regions s d).clock count_at v

    clock_length : length (regions s d).clock ≡ 2
    unfolding regions named bound
    clock_length = region_length s h.of.laid d h.room 0

    mail_new : pending_of c (with_messages clock ys (regions s d)) ≡ pending_in s.tasks v ys
    unfolding pending_of with_messages
    mail_new =
        let e : get_or clock count_at 0 ≡ v = get_or-set_same (regions s d).clock count_at v 0 (omega (arith, clock_length)) in
        let m : v ≤ c.G = omega (arith, h.of.messages) in
        ap₂ (λ (t x : ℕ). pending_in t (count_of c.G x) ys) (sym h.of.tasks) e ∙ rw (le-leb v c.G m)

    pub mail_renewed : (x : List Message) → mailbox_of t (pending_in s.tasks v ys) ≡ x → ((u : ℕ) → (t ≡ u → ⊥) → mailbox_of u (pending_in s.tasks v ys) ≡ mailbox_of u (mail s d))
        → (tidy ≡ true → addressed s.tasks v ys ≡ true) → ShowsAs tidy c s (set_mailbox t x L) (renewed s d ys v) z w
    unfolding with_messages
    mail_renewed x new others neat =
        let p : Regions = regions s d in
        shows_as c s L d z w (renewed s d ys v) z (with_messages clock ys p) h (renewed_length s h.of.laid d h.room ys n v) refl
        (renewed_regions s h.of.laid d h.room ys n v)
        (set_mailbox t x L)
        (mailbox_shown c L p z w h.shown clock ys t x (get_or-set_other p.clock count_at 0 v 0 (λ e. omega arith)) to.0
        (sym new ∙ ap (mailbox_of t) (sym mail_new))
        (λ j ne. ap (mailbox_of j) (sym (mail_is c s L d z w h)) ∙ sym (others j (λ e. ne (sym e))) ∙ ap (mailbox_of j) (sym mail_new))
        (λ q.
        let e : get_or clock count_at 0 ≡ v = get_or-set_same p.clock count_at v 0 (omega (arith, clock_length)) in
        (omega (arith, h.of.messages), ap₂ (λ (t n : ℕ). addressed t n ys) (sym h.of.tasks) e ∙ neat q)))
