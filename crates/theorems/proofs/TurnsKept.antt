-- That a timer misses no turn, as a host sees it (specs/TurnsKept): what the calls show is what the ledger shows, call by call.
use Rattle.std.specs.Prelude.{ℕ, ◌≡◌, refl, true, List, ◌∷◌}
use Rattle.std.proofs.Common.{ap₂, sym, subst}
use Rattle.ledger.specs.Config.{Config, Limits, config_in, config_refusal_by}
use Rattle.ledger.specs.Ledger.{Ledger, fresh}
use Rattle.ledger.specs.Session.{step}
use Rattle.ledger.proofs.Theorems.Configured.{configured}
use Rattle.ledger.proofs.Theorems.Once.{Once, once_fresh}
use Rattle.ledger.proofs.Theorems.Within.{by_accepted}
use Rattle.ledger.proofs.Theorems.TurnsSeen.{sight, sights, none_missed, tocks_fed, each_signals}
use Rattle.configuration.specs.Limits.{Made}
use Rattle.mcx11.specs.Contract.{Memory, full_size, config_of, lent_well, Displays, Configures}
use Rattle.mcx11.specs.Kept.{begins_config}
use Rattle.mcx11.specs.Displayed.{items_shown}
use Rattle.theorems.specs.Calls.{FrameCalls, none, call, seen_call, seen}
use Rattle.theorems.specs.Follows.{onward}
use Rattle.theorems.specs.TurnsKept.{TurnsKept}

-- from any ledger that the memory shows and that has no message twice
sees : {k : Limits} → Made k → {m m' : Memory} {fs answered : List (List ℕ)} {returned : List ℕ} (l : Ledger) → lent_well k m ≡ true → Displays (config_of m) l m → Once (config_of m) l.mailboxes
    → (calls : FrameCalls k m fs answered returned m') → seen (config_of m) calls ≡ sights (config_of m) l fs
unfolding seen sights
sees made l w h o none = refl
sees {k} made l w h o (call {f} {m} {m₁} {r = r} {fs = fs} s more) =
    let c = config_of m in
    let next = (step c f l).ledger in
    let n = onward made l w h o s in
    let g = s.good w l h in
    let this : seen_call c f m m₁ r ≡ sight c l f =
    λ i. record { frame = f; number = g.number i; before = sym (items_shown c l m h) i; after = sym (items_shown c next m₁ g.shown) i } in
    ap₂ ◌∷◌ this (subst (λ (x : Config). seen x more ≡ sights x next fs) n.config (sees made next n.well n.shown n.once more))

-- for every accepted configuration, every memory of full size and every list of frames, refused ones among them
pub turns_kept : {k : Limits} → Made k → {g : List ℕ} {m₀ m₁ m : Memory} {r₀ : ℕ} {fs answered : List (List ℕ)} {returned : List ℕ}
    → config_refusal_by k g ≡ 0 → full_size k m₀ ≡ true → Configures k g m₀ m₁ r₀ → (calls : FrameCalls k m₁ fs answered returned m) → TurnsKept (config_in g) (seen (config_in g) calls)
turns_kept {k} made {g} {m₁ = m₁} {fs = fs} h full s calls =
    let c = config_in g in
    let a = s.accepted full h in
    let e : config_of m₁ ≡ c = begins_config a in
    let d : Displays (config_of m₁) (fresh c) m₁ = subst (λ (x : Config). Displays x (fresh c) m₁) (sym e) a.shown in
    let o : Once (config_of m₁) (fresh c).mailboxes = subst (λ (x : Config). Once x (fresh c).mailboxes) (sym e) (once_fresh c) in
    let all : seen c calls ≡ sights c (fresh c) fs = subst (λ (x : Config). seen x calls ≡ sights x (fresh c) fs) e (sees made (fresh c) a.well d o calls) in
    subst (TurnsKept c) (sym all) (record { missed = none_missed c (fresh c) fs; fed = tocks_fed c (configured g (by_accepted k g h).0).ticks.from fs; signals = each_signals g (by_accepted k g h).0 fs })
