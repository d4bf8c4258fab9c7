-- What a run of `feed` or `finish` gives, as a call of which `session` speaks.
use Prim.Native.Nat.{ℕ}
use mathlib.Core.Path.{refl}
use mathlib.Core.List.{List, []}
use Rattle.std.specs.Borrow.{Bor, MutBor}
use Rattle.mcx11.specs.Contract.{Memory}
use Rattle.feeding.specs.declared.Reached.{Reached}
use Rattle.feeding.specs.Feeds.{again, Lent}
use Rattle.feeding.proofs.Session.{FeedCall, FinishCall}
use Rattle.theorems.proofs.OneFeed.{FeedAsks, FeedGives, FinishAsks, FinishGives}

abbrev ref : List ℕ → Bor (List ℕ)
ref l = record { ref_ptr = (0, 0); now = l }

abbrev mut_ref : List ℕ → MutBor (List ℕ)
mut_ref l = record { ref_ptr = (0, 0); ghost_name = 0; now = l }

pub feed_call : (b : List ℕ) (r r' : Reached) (x x' : Lent) → FeedAsks b (again r) x → FeedGives b (again r) x r' x' → FeedCall b r x r' x'
feed_call b r r' x x' asked learnt =
    record {
      κs = ([], ([], ([], ([], ([], ([], ([], ([], tt))))))));
      a = (ref b, (again r, (mut_ref x.line, (mut_ref x.memory.config, (mut_ref x.memory.tables, (mut_ref x.memory.slots, (mut_ref x.memory.timers, (mut_ref x.memory.answer, (mut_ref x.out, tt)))))))));
      n = r';
      w = (tt, (tt, (x'.line, (x'.memory.config, (x'.memory.tables, (x'.memory.slots, (x'.memory.timers, (x'.memory.answer, (x'.out, tt)))))))));
      asked = asked;
      learnt = learnt;
      bytes = refl;
      reached = refl;
      before = refl;
      after = refl;
      result = refl;
    }

pub finish_call : (r : Reached) (x : Lent) (m' : Memory) (out' : List ℕ) (n : ℕ) → FinishAsks (again r) x → FinishGives (again r) x out' n → FinishCall r x out' n
finish_call r x m' out' n asked learnt =
    record {
      κs = ([], ([], ([], ([], ([], ([], ([], tt)))))));
      a = (again r, (ref x.line, (mut_ref x.memory.config, (mut_ref x.memory.tables, (mut_ref x.memory.slots, (mut_ref x.memory.timers, (mut_ref x.memory.answer, (mut_ref x.out, tt))))))));
      n = n;
      w = (tt, (tt, (m'.config, (m'.tables, (m'.slots, (m'.timers, (m'.answer, (out', tt))))))));
      asked = asked;
      learnt = learnt;
      reached = refl;
      before = refl;
      after = refl;
      result = refl;
    }
