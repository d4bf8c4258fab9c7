-- The document's marked examples, as one table: a line for each, proved together by computing both sides.
use Rattle.std.specs.Prelude.{ℕ, ◌≡◌, refl, List, [], ◌∷◌, ◌++◌, map, replicate}
use Prim.Native.String.{String}
use Rattle.ledger.specs.Config.{config_refusal}
use Rattle.ledger.specs.Ledger.{PENDING, DONE, semaphore_of, mailbox}
use Rattle.ledger.specs.Session.{session}
use Rattle.ledger.specs.Lines.{output}
use Rattle.ledger.specs.Time.{are, refused, milliseconds}
use Rattle.ledger.specs.Computing.Hex.{hex, text}
use Rattle.ledger.specs.Computing.Quick.{everything}
use Rattle.ledger.specs.Computing.Sessions.{after, two, timing, number_of}

-- lines of a session
abbrev answers : String → List String → List (List ℕ)
answers g fs = session (hex g) (map hex fs)

abbrev lines : List String → List (List ℕ)
lines ls = map hex ls

-- as `two`, with 3 tasks and 3 messages. T 126, Q 1
abbrev three : String
three = "030101010301007D0000000101"

abbrev large : ℕ → List ℕ
large s = (126 ∷ s ∷ 1 ∷ 0 ∷ 0 ∷ 1 ∷ 0 ∷ 125 ∷ []) ++ replicate 126 0 ++ (1 ∷ 1 ∷ [])

pub record Table : Type 0 where
  the_session : answers two ("0701000000" ∷ "080100000041" ∷ "0D00000002" ∷ "1000000000" ∷ "1000000000" ∷ "0702000000" ∷ [])
      ≡ lines ("00010001" ∷ "00020001" ∷ "0001010341" ∷ "00020000" ∷ "00020000" ∷ "00010000" ∷ "07010000" ∷ [])
  -- the same session, as the bytes that the session program reads and writes
  the_session_in_bytes : output (text (two ∷ "0701000000" ∷ "080100000041" ∷ "0D00000002" ∷ "1000000000" ∷ "1000000000" ∷ "0702000000" ∷ []))
      ≡ text ("00010001" ∷ "00020001" ∷ "0001010341" ∷ "00020000" ∷ "00020000" ∷ "00010000" ∷ "07010000" ∷ [])
  signal_on_pending : semaphore_of (after two ("0200010000" ∷ [])) 1 ≡ DONE
  signal_on_done : semaphore_of (after two ("0200010000" ∷ "0200010000" ∷ [])) 1 ≡ DONE
  wait_on_done : semaphore_of (after two ("0200010000" ∷ "0100010000" ∷ [])) 1 ≡ PENDING
  X_7FFF : map timing (after two ("0E00017FFF" ∷ [])).timers ≡ (32767, 0) ∷ []
  X_FFFF : map timing (after two ("0E0001FFFF" ∷ [])).timers ≡ (1, 1) ∷ []
  X_8000 : map timing (after two ("0E00018000" ∷ [])).timers ≡ (32768, 32768) ∷ []
  X_0000 : answers two ("0E00010000" ∷ []) ≡ lines ("00010001" ∷ "09010001" ∷ [])
  -- the request for timers of a season: one-shot from 1 on, cyclic from -1 down to the lowest, and 0
  long_00000001 : map timing (after two ("12000100000001" ∷ [])).timers ≡ (1, 0) ∷ []
  long_7fffffff : map timing (after two ("1200017FFFFFFF" ∷ [])).timers ≡ (2147483647, 0) ∷ []
  long_ffffffff : map timing (after two ("120001FFFFFFFF" ∷ [])).timers ≡ (1, 1) ∷ []
  long_80000000 : map timing (after two ("12000180000000" ∷ [])).timers ≡ (2147483648, 2147483648) ∷ []
  long_00000000 : answers two ("12000100000000" ∷ []) ≡ lines ("00010001" ∷ "09010001" ∷ [])
  -- tasks 1 and 2 wait on their own semaphores, task 3 sends 1 and wakes task 1, which sends 2 and waits; task 3 sends 3
  senders_3_1_3 : map number_of (mailbox (after three ("0100000000" ∷ "0100000000" ∷ "0402000001" ∷ "0200020000" ∷ "0402000002" ∷ "0100000000" ∷ "0402000003" ∷ [])) 2)
      ≡ 2 ∷ 1 ∷ 3 ∷ []
  S_127 : config_refusal (large 127) ≡ 0
  S_128 : config_refusal (large 128) ≡ 3
  ms_250 : milliseconds 250 125 ≡ are 2
  ms_249 : milliseconds 249 125 ≡ are 2
  ms_124 : milliseconds 124 125 ≡ are 1
  -- the request's own, at 100 milliseconds per tock: an exact half goes up
  ms_49 : milliseconds 49 100 ≡ refused 10
  ms_50 : milliseconds 50 100 ≡ are 1
  ms_149 : milliseconds 149 100 ≡ are 1
  ms_150 : milliseconds 150 100 ≡ are 2
  -- the upper end is tested after rounding
  ms_65534 : milliseconds 65534 2 ≡ are 32767
  ms_65535 : milliseconds 65535 2 ≡ refused 10
  -- task 1 waits on a named semaphore, task 2 on an empty queue; interrupt exit; task 1 puts, takes and takes again
  takes_again : answers two ("0100010000" ∷ "0701000000" ∷ "1100010000" ∷ "080100000041" ∷ "0701000000" ∷ "0701000000" ∷ [])
      ≡ lines ("00010001" ∷ "00020001" ∷ "00000000" ∷ "0001000501" ∷ "00010000" ∷ "0001000341" ∷ "0002010415" ∷ [])

pub the_table : Table
unfolding everything
the_table = record {
  the_session = refl;
  the_session_in_bytes = refl;
  signal_on_pending = refl;
  signal_on_done = refl;
  wait_on_done = refl;
  X_7FFF = refl;
  X_FFFF = refl;
  X_8000 = refl;
  X_0000 = refl;
  long_00000001 = refl;
  long_7fffffff = refl;
  long_ffffffff = refl;
  long_80000000 = refl;
  long_00000000 = refl;
  senders_3_1_3 = refl;
  S_127 = refl;
  S_128 = refl;
  ms_250 = refl;
  ms_249 = refl;
  ms_124 = refl;
  ms_49 = refl;
  ms_50 = refl;
  ms_149 = refl;
  ms_150 = refl;
  ms_65534 = refl;
  ms_65535 = refl;
  takes_again = refl;
}
