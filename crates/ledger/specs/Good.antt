-- What an accepted frame says of the task, the semaphore, the queue, the message and the tock value that it means.
use Rattle.std.specs.Prelude.{ℕ, ◌+◌, ◌≤◌, ◌<◌, ◌≡◌, true, false, List, length}
use Rattle.ledger.specs.Config.{Config}
use Rattle.ledger.specs.Ledger.{Ledger, task, runnable}
use Rattle.ledger.specs.Services.{shape}
use Rattle.ledger.specs.Refusals.{FieldA, no_a, a_task, to_start, self_or_task, any_or_task, a_queue, FieldB, no_b, of_self, of_task, or_none, FieldX, no_x, a_message, a_tock_value, a_switch, fields, Follows, x_alone, x_and_entry, long_x, Call, meets25, meets26, meets21, inamailbox, have_timer}

-- a number from 1 to n
pub record Numbered (n i : ℕ) : Type 0 where
  pub from : 1 ≤ i
  pub upto : i ≤ n

-- task n of T runs: it is runnable, and none with a lower number is
pub record TaskRuns (T : ℕ) (l : Ledger) (n : ℕ) : Type 0 where
  pub number : Numbered T n
  pub runs : runnable (task l n) ≡ true
  pub lowest : (t : ℕ) → 1 ≤ t → t < n → runnable (task l t) ≡ false

-- ---- what a field means, once it is accepted

abbrev pub GoodA : Config → FieldA → ℕ → Type 0
GoodA c no_a a = Unit {0}
GoodA c a_task a = Numbered c.T a
GoodA c to_start a = Numbered c.T a
GoodA c self_or_task a = Numbered c.T a
GoodA c any_or_task a = a ≤ c.T
GoodA c a_queue a = Numbered c.Q a

abbrev pub GoodB : Config → FieldB → ℕ → Type 0
GoodB c no_b b = Unit {0}
GoodB c of_self b = Numbered (c.S + c.T) b
GoodB c of_task b = Numbered (c.S + c.T) b
GoodB c or_none b = b ≤ c.S + c.T

-- a message that lies in no mailbox; a tock value for a pair that has no timer, with a timer free
pub record GoodMessage (c : Config) (l : Ledger) (x : ℕ) : Type 0 where
  pub number : Numbered c.G x
  pub nowhere : inamailbox l x ≡ false

pub record GoodTocks (c : Config) (l : Ledger) (a b x : ℕ) : Type 0 where
  pub some : x ≡ 0 → ⊥
  pub single : have_timer l a b ≡ false
  pub free : length l.timers < c.R

abbrev pub GoodX : Config → Ledger → FieldX → (a b x : ℕ) → Type 0
GoodX c l no_x a b x = Unit {0}
GoodX c l a_message a b x = GoodMessage c l x
GoodX c l a_tock_value a b x = GoodTocks c l a b x
GoodX c l a_switch a b x = Unit {0}

abbrev pub GoodEntry : Config → Follows → (q : ℕ) → List ℕ → Type 0
GoodEntry c x_alone q e = Unit {0}
GoodEntry c x_and_entry q e = length e ≡ (shape c q).width
GoodEntry c long_x q e = Unit {0}

-- a message's number, a tock value other than 0
abbrev pub GoodNumber : Config → FieldX → ℕ → Type 0
GoodNumber c no_x x = Unit {0}
GoodNumber c a_message x = Numbered c.G x
GoodNumber c a_tock_value x = x ≡ 0 → ⊥
GoodNumber c a_switch x = Unit {0}

-- what the frame and the running task's number say: not 20; 5, 6 and 7; 8 and 9; an entry's 2
pub record Good (c : Config) (k : Call) : Type 0 where
  pub self : (fields k.code).service ≡ true → Numbered c.T k.self
  pub A : GoodA c (fields k.code).A k.a
  pub B : GoodB c (fields k.code).B k.b
  pub X : GoodNumber c (fields k.code).X k.x
  pub entry : GoodEntry c (fields k.code).follows k.a k.bytes

-- and what the ledger says: not 22, 24 and 23; 25; 21
pub record Accepted (c : Config) (l : Ledger) (k : Call) : Type 0 where
  pub self : (fields k.code).service ≡ true → TaskRuns c.T l k.self
  pub A : GoodA c (fields k.code).A k.a
  pub B : GoodB c (fields k.code).B k.b
  pub X : GoodX c l (fields k.code).X k.a k.b k.x
  pub entry : GoodEntry c (fields k.code).follows k.a k.bytes
  pub not25 : meets25 l (fields k.code).waits k.a ≡ false
  pub not26 : meets26 c l (fields k.code).A k.a ≡ false
  pub not21 : meets21 c l (fields k.code).waits k.a k.b ≡ false
