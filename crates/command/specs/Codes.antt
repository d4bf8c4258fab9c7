-- The program's codes and its table of them are the ledger's: what each of its words means there.
use Rattle.std.specs.Prelude.{ℕ, ◌+◌, ◌≤◌, ◌≡◌, refl, Bool, true, false, Result, Ok, Err, MatchResult}
use Rattle.std.proofs.Common.{le_antisymm, arith}
use Rattle.ledger.specs.Lists.{within}
use Rattle.ledger.proofs.Theorems.Checks.{within_numbered}
use Rattle.ledger.specs.Refusals as ledger
use Rattle.ledger.specs.Services as services
use Rattle.tables.specs.Layout.{OneOf}
use Rattle.refusals.specs.declared.Refusal.{Refusal}
use Rattle.refusals.specs.declared.Refusal.TheVariants as refusal
use Rattle.refusals.specs.Numbers.{number_of}
use Rattle.command.specs.declared.codes.Code.{Code}
use Rattle.command.specs.declared.codes.Code.TheVariants as code
use Rattle.command.specs.declared.codes.FieldA.{FieldA}
use Rattle.command.specs.declared.codes.FieldA.TheVariants as a
use Rattle.command.specs.declared.codes.FieldB.{FieldB}
use Rattle.command.specs.declared.codes.FieldB.TheVariants as b
use Rattle.command.specs.declared.codes.FieldX.{FieldX}
use Rattle.command.specs.declared.codes.FieldX.TheVariants as x
use Rattle.command.specs.declared.codes.Follows.{Follows}
use Rattle.command.specs.declared.codes.Follows.TheVariants as follows
use Rattle.command.specs.declared.codes.Waits.{Waits}
use Rattle.command.specs.declared.codes.Waits.TheVariants as waits
use Rattle.command.specs.declared.codes.Fields.{Fields}

abbrev pub view_code : Code → services.Code
view_code code.Wait = services.WAIT
view_code code.Signal = services.SIGNAL
view_code code.Pend = services.PEND
view_code code.Send = services.SEND
view_code code.Sendw = services.SENDW
view_code code.Receive = services.RECEIVE
view_code code.Dequeue = services.DEQUEUE
view_code code.Enqueue = services.ENQUEUE
view_code code.Resume = services.RESUME
view_code code.Suspend = services.SUSPEND
view_code code.Terminate = services.TERMINATE
view_code code.Execute = services.EXECUTE
view_code code.Delay = services.DELAY
view_code code.Timer = services.TIMER
view_code code.Purge = services.PURGE
view_code code.Tick = services.TICK
view_code code.InterruptExit = services.EXIT
view_code code.SeasonTimer = services.SEASON_TIMER

abbrev pub view_a : FieldA → ledger.FieldA
view_a a.Unused = ledger.no_a
view_a a.Task = ledger.a_task
view_a a.ToStart = ledger.to_start
view_a a.SelfOrTask = ledger.self_or_task
view_a a.AnyOrTask = ledger.any_or_task
view_a a.Queue = ledger.a_queue

abbrev pub view_b : FieldB → ledger.FieldB
view_b b.Unused = ledger.no_b
view_b b.OfSelf = ledger.of_self
view_b b.OfTask = ledger.of_task
view_b b.OrNone = ledger.or_none

abbrev pub view_x : FieldX → ledger.FieldX
view_x x.Unused = ledger.no_x
view_x x.Message = ledger.a_message
view_x x.TockValue = ledger.a_tock_value
view_x x.Switch = ledger.a_switch

abbrev pub view_follows : Follows → ledger.Follows
view_follows follows.X = ledger.x_alone
view_follows follows.XAndEntry = ledger.x_and_entry
view_follows follows.LongX = ledger.long_x

abbrev pub view_waits : Waits → ledger.Waits
view_waits waits.Nowhere = ledger.no_wait
view_waits waits.OnB = ledger.on_b
view_waits waits.TaskOnB = ledger.task_on_b
view_waits waits.OnNotEmpty = ledger.on_not_empty
view_waits waits.OnNotFull = ledger.on_not_full

abbrev pub view_fields : Fields → ledger.Fields
view_fields u = ledger.uses (view_a u.a) (view_b u.b) (view_x u.x) (view_follows u.follows) (view_waits u.waits) u.service

-- the code of this number
abbrev pub IsCode : ℕ → Code → Type 0
IsCode n k = OneOf 18 n × (view_code k ≡ ledger.code_at n)

-- the number of a frame whose code is handed on where it is accepted
abbrev pub number_by : Result Code Refusal → ℕ
number_by (Ok _) = 0
number_by (Err refused) = number_of refused

-- a byte is the number of this code, or of none
abbrev pub Decodes : ℕ → Result Code Refusal → Type 0
Decodes n r = MatchResult r (IsCode n) (λ e. (e ≡ refusal.Code) × (within 1 18 n ≡ false))

-- the code that is none of the others
pub past : (n k : ℕ) → n ≤ k → (k ≡ n → ⊥) → n + 1 ≤ k
past n k h e = omega arith

pub last_code : (k : ℕ) → 1 ≤ k → k ≤ 18 → (k ≡ 1 → ⊥) → (k ≡ 2 → ⊥) → (k ≡ 3 → ⊥) → (k ≡ 4 → ⊥) → (k ≡ 5 → ⊥) → (k ≡ 6 → ⊥) → (k ≡ 7 → ⊥) → (k ≡ 8 → ⊥) → (k ≡ 9 → ⊥)
    → (k ≡ 10 → ⊥) → (k ≡ 11 → ⊥) → (k ≡ 12 → ⊥) → (k ≡ 13 → ⊥) → (k ≡ 14 → ⊥) → (k ≡ 15 → ⊥) → (k ≡ 16 → ⊥) → (k ≡ 17 → ⊥) → k ≡ 18
last_code k lo hi e1 e2 e3 e4 e5 e6 e7 e8 e9 e10 e11 e12 e13 e14 e15 e16 e17 =
    le_antisymm hi (past 17 k (past 16 k (past 15 k (past 14 k (past 13 k (past 12 k (past 11 k (past 10 k (past 9 k (past 8 k (past 7 k (past 6 k (past 5 k (past 4 k (past 3 k (past 2 k (past 1 k lo e1) e2) e3) e4) e5) e6) e7) e8) e9) e10) e11) e12) e13) e14) e15) e16) e17)

pub no_code_left : (k : ℕ) → (k ≡ 1 → ⊥) → (k ≡ 2 → ⊥) → (k ≡ 3 → ⊥) → (k ≡ 4 → ⊥) → (k ≡ 5 → ⊥) → (k ≡ 6 → ⊥) → (k ≡ 7 → ⊥) → (k ≡ 8 → ⊥) → (k ≡ 9 → ⊥)
    → (k ≡ 10 → ⊥) → (k ≡ 11 → ⊥) → (k ≡ 12 → ⊥) → (k ≡ 13 → ⊥) → (k ≡ 14 → ⊥) → (k ≡ 15 → ⊥) → (k ≡ 16 → ⊥) → (k ≡ 17 → ⊥) → (k ≡ 18 → ⊥) → within 1 18 k ≡ false
no_code_left k e1 e2 e3 e4 e5 e6 e7 e8 e9 e10 e11 e12 e13 e14 e15 e16 e17 e18 = go (within 1 18 k) refl
  where
    go : (b : Bool) → within 1 18 k ≡ b → b ≡ false
    go true w = let n = within_numbered 18 k w in absurd (e18 (last_code k n.from n.upto e1 e2 e3 e4 e5 e6 e7 e8 e9 e10 e11 e12 e13 e14 e15 e16 e17))
    go false w = refl
