-- Less 1 and wrapped, 0 is the highest number, which is below no top.
use Rattle.std.proofs.Common.{◌≡◌, ℕ, ◌+◌, ◌%◌, ◌^◌, ◌<◌, Bool, true, false, ◌&&◌, ltb, leb, sym, refl, arith, ltb-false, ltb-true, le-leb, leb-true}
use borrow.Author.Tests.{lt-leb}
use Rattle.ledger.specs.Lists.{within}
use Rattle.messages.proofs.is_within.Goals as goal

wrapped : (x r top : ℕ) → r < 2 ^ 64 → top < 2 ^ 64 → (r + 1) % 2 ^ 64 ≡ x → ltb r top ≡ within 1 top x
wrapped x r top hr ht e = go (ltb r top) refl
  where
    go : (b : Bool) → ltb r top ≡ b → b ≡ within 1 top x
    go true h = let l = ltb-true r top h in sym (rw (le-leb 1 x (omega arith), le-leb x top (omega arith)))
    go false h = above (leb 1 x) refl
      where
        above : (b : Bool) → leb 1 x ≡ b → false ≡ (b && leb x top)
        above true f = sym (lt-leb x top (omega (arith, ltb-false r top h, leb-true 1 x f)))
        above false f = refl

pub returns : goal.returns
returns c =
    let h : c.args.x < 2 ^ 8 = c.ranges.x.fits in
    wrapped c.args.x ((c.args.x + 18446744073709551615) % 2 ^ 64) c.args.top (omega arith) c.ranges.top.fits (omega (arith, h))
