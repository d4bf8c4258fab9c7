-- A request issued again: refused by 21 or issued; and a task's request as the memory has it.
use Rattle.std.specs.Prelude.{◌≡◌, refl, Bool, true, false, cond, List, ℕ, ◌-◌, ◌≤◌, length, take, drop}
use Rattle.std.proofs.Math.Path.{sym, ap}
use Rattle.std.proofs.Common.{◌∙◌, subst, arith, length-take}
use Rattle.rows.specs.Rows.{row_at}
use Rattle.tables.specs.Layout.{OneOf, regions}
use Rattle.tables.specs.declared.shape.Shape.{Shape}
use Rattle.tables.specs.declared.tasks.Request.{Request}
use Rattle.tables.specs.declared.tasks.Request.TheVariants.{None, Receive, Dequeue, Enqueue}
use Rattle.tables.specs.Decode.{view_request, view_task, record_of}
use Rattle.tables.specs.Planes.{blocks_at}
use Rattle.tables.specs.Encoded.{AsksFor}
use Rattle.tables.specs.Shows.{record_in, waiting_in, ShowsAs, moved}
use Rattle.tables.specs.Stored.{shown_task}
use Rattle.ledger.proofs.Theorems.Checks.{never}
use Rattle.ledger.specs.Lists.{at}
use Rattle.ledger.specs.Config.{Config}
use Rattle.ledger.specs.Ledger as ledger
use Rattle.ledger.specs.Ledger.{Ledger, task, running, set_outcome, set_request, none, refused}
use Rattle.ledger.specs.Services.{issue}
use Rattle.ledger.specs.Session.{open_request, is_open, refused21, issue_again, reissue}

-- ---- issued again
pub again_yes : (c : Config) (t : ℕ) (r : ledger.Request) (L : Ledger) (x : Bool) → x ≡ refused21 c r L → x ≡ true → set_outcome t (refused 21) L ≡ issue_again c t r L
unfolding issue_again
again_yes c t r L x e y = ap (λ (x : Bool). cond x (set_outcome t (refused 21) L) (issue c t r L)) (sym y ∙ e)

pub again_no : (c : Config) (t : ℕ) (r : ledger.Request) (L : Ledger) (x : Bool) → x ≡ refused21 c r L → x ≡ false → issue c t r L ≡ issue_again c t r L
unfolding issue_again
again_no c t r L x e n = ap (λ (x : Bool). cond x (set_outcome t (refused 21) L) (issue c t r L)) (sym n ∙ e)

-- a receive never meets it
pub receive_again : (c : Config) (t a : ℕ) (L : Ledger) → issue c t (ledger.receive a) L ≡ issue_again c t (ledger.receive a) L
unfolding issue_again refused21
receive_again c t a L = refl

-- ---- a task's request
pub null_closed : (L : Ledger) (t : ℕ) → t ≡ 0 → false ≡ is_open (task L t).request
unfolding task at is_open
null_closed L t n = ap (λ (k : ℕ). is_open (task L k).request) (sym n)

pub request_is : {tidy : Bool} (c : Config) (s : Shape) (L : Ledger) (d z w : List ℕ) → ShowsAs tidy c s L d z w → (t : ℕ) (x v : Request) → OneOf s.tasks t → x ≡ (record_in s d t).request → x ≡ v
    → view_request c v (waiting_in s d t) ≡ (task L t).request
unfolding record_in record_of view_task waiting_in
request_is c s L d z w h t x v one p q =
    let k = regions s d in
    ap (λ (y : Request). view_request c y (waiting_in s d t)) (sym q ∙ p)
    ∙ ap (λ (Q : ℕ). view_request c (record_of Q (blocks_at k.blocks (t - 1)) (row_at 6 (t - 1) k.records)).request (waiting_in s d t)) h.of.queues
    ∙ sym (ap (λ (y : ledger.Task). y.request) (shown_task c s L d z w h t one))

-- a request is open
pub some_open : (c : Config) (e : List ℕ) (x : Request) → (x ≡ None → ⊥) → true ≡ is_open (view_request c x e)
unfolding view_request is_open
some_open c e None n = absurd (n refl)
some_open c e (Receive a) n = refl
some_open c e (Dequeue q) n = refl
some_open c e (Enqueue q) n = refl

pub reissue_is : (c : Config) (L : Ledger) (t : ℕ) (r : ledger.Request) → t ≡ running L → r ≡ open_request L → issue_again c t r (set_request t none L) ≡ reissue c L
unfolding reissue
reissue_is c L t r e p =
    ap (λ (x : ledger.Request). issue_again c t x (set_request t none L)) p ∙ ap (λ (k : ℕ). issue_again c k (open_request L) (set_request k none L)) e

-- the entry that waits, of its queue's width
pub entry_is : (E x : List ℕ) (width n : ℕ) → x ≡ E → width ≡ n → take (width - 0) (drop 0 x) ≡ take n E
entry_is E x width n e k = let m : width - 0 ≡ n = omega arith in ap (λ (j : ℕ). take j x) m ∙ ap (take n) e

-- ---- a turn: the running task's request was open, and the arm's call issued it again
module _ {tidy : Bool} (c : Config) (s : Shape) (L : Ledger) (d z w : List ℕ) (h : ShowsAs tidy c s L d z w) (t : ℕ) (x v : Request) (one : OneOf s.tasks t) (p : x ≡ (record_in s d t).request) (q : x ≡ v) (e : t ≡ running L) where
  open_is : view_request c v (waiting_in s d t) ≡ open_request L
  unfolding open_request
  open_is = request_is c s L d z w h t x v one p q ∙ ap (λ (k : ℕ). (task L k).request) e

  pub turn_none : {P : Type 0} → view_request c v (waiting_in s d t) ≡ none → true ≡ is_open (open_request L) → P
  unfolding is_open
  turn_none k o = never (ap is_open (sym k ∙ open_is) ∙ sym o)

  pub turn_open : {d' z' : List ℕ} → ShowsAs tidy c s (issue_again c t (view_request c v (waiting_in s d t)) (set_request t none L)) d' z' w → ShowsAs tidy c s (reissue c L) d' z' w
  turn_open g = moved (reissue_is c L t (view_request c v (waiting_in s d t)) e open_is) g

pub asked : {Q q : ℕ} {x : Request} → x ≡ Dequeue q → AsksFor Q x → OneOf Q q
asked {Q} e w = subst (AsksFor Q) e w

pub asked_put : {Q q : ℕ} {x : Request} → x ≡ Enqueue q → AsksFor Q x → OneOf Q q
asked_put {Q} e w = subst (AsksFor Q) e w

pub entry_long : (x : List ℕ) (width : ℕ) → length x ≡ 16 → width ≤ 16 → length (take (width - 0) x) ≡ width
entry_long x width e l = simp length-take (omega arith)

pub entry_short : (x : List ℕ) (width : ℕ) → length x ≡ 16 → width ≤ 16 → length (take (width - 0) x) ≤ 16
entry_short x width e l = omega (arith, entry_long x width e l)
