-- What the meant fields of an accepted frame are, by the row of its code, and the room in the tables for what it sends: the plain facts that the services require.
use Rattle.std.specs.Prelude.{ℕ, ◌≡◌, true, List, length}
use Rattle.ledger.specs.Config.{Config}
use Rattle.ledger.specs.Services.{Code, SEASON_TIMER}
use Rattle.ledger.specs.Refusals.{FieldA, no_a, a_task, to_start, self_or_task, any_or_task, a_queue, FieldB, no_b, of_self, of_task, or_none, FieldX, no_x, a_message, a_tock_value, a_switch, fields, value_x, behind_x, is_message}
use Rattle.ledger.specs.Good.{GoodEntry}
use Rattle.tables.specs.declared.shape.Shape.{Shape}
use Rattle.tables.specs.Layout.{OneOf}
use Rattle.mailboxes.specs.Room.{Roomy}

abbrev pub InA : Shape → FieldA → ℕ → Type 0
InA s no_a a = Unit {0}
InA s a_task a = OneOf s.tasks a
InA s to_start a = OneOf s.tasks a
InA s self_or_task a = OneOf s.tasks a
InA s any_or_task a = Unit {0}
InA s a_queue a = OneOf s.queues a

abbrev pub InB : Shape → FieldB → ℕ → Type 0
InB s no_b b = Unit {0}
InB s of_self b = OneOf s.semaphores b
InB s of_task b = OneOf s.semaphores b
InB s or_none b = Unit {0}

abbrev pub InX : Shape → FieldX → ℕ → Type 0
InX s no_x x = Unit {0}
InX s a_message x = OneOf s.messages x
InX s a_tock_value x = Unit {0}
InX s a_switch x = Unit {0}

-- X and the bytes behind it, by the row of the code
abbrev pub value_of : Code → List ℕ → ℕ
value_of k f = value_x (fields k).follows f

abbrev pub rest_of : Code → List ℕ → List ℕ
rest_of k f = behind_x (fields k).follows f

abbrev pub MeansA : Shape → Code → (a : ℕ) → Type 0
MeansA s k a = InA s (fields k).A a

abbrev pub MeansB : Shape → Code → (b : ℕ) → Type 0
MeansB s k b = InB s (fields k).B b

abbrev pub MeansX : Shape → Code → (x : ℕ) → Type 0
MeansX s k x = InX s (fields k).X x

abbrev pub MeansEntry : Config → Code → (q : ℕ) → List ℕ → Type 0
MeansEntry c k q e = GoodEntry c (fields k).follows q e

-- a service is asked for by a task
abbrev pub Asks : Shape → Code → (self : ℕ) → Type 0
Asks s k self = (fields k).service ≡ true → OneOf s.tasks self

-- a message that is sent has room in the tables d
abbrev pub MessageRoom : Shape → Code → (d : List ℕ) → Type 0
MessageRoom s k d = is_message (fields k).X ≡ true → Roomy s d

-- a season timer's frame has seven bytes
abbrev pub Seven : Code → List ℕ → Type 0
Seven k f = k ≡ SEASON_TIMER → length f ≡ 7
