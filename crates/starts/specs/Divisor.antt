-- The greatest common divisor by its meaning, the same by remainder steps, and the two numbers' multiples that differ by it.
use Rattle.std.specs.Prelude.{ℕ, zero, suc, ◌+◌, ◌*◌, ◌/◌, ◌%◌, ◌≤◌, ◌<◌, ◌≡◌, ◌⊎◌}
use Rattle.std.specs.Int.{◌∣◌}
use Rattle.std.proofs.Common.{sym, ◌∙◌, ap, subst, div-add-mod', mod-lt, eq-zero-or-pos, arith, ⊎_elim}
use Rattle.std.proofs.Math.Nat.{dvd_refl, dvd-zero, dvd-mod_iff, dvd_antisymm, dvd_of_mod-eq-zero, pos_of_dvd_of_pos}

pub record Gcd (a b d : ℕ) : Type 0 where
  pub left : d ∣ a
  pub right : d ∣ b
  pub greatest : (e : ℕ) → e ∣ a → e ∣ b → e ∣ d

pub gcd_unique : {a b d e : ℕ} → Gcd a b d → Gcd a b e → d ≡ e
gcd_unique {d = d} {e = e} x y = dvd_antisymm (y.greatest d x.left x.right) (x.greatest e y.left y.right)

pub gcd_zero : (a : ℕ) → Gcd a 0 a
gcd_zero a = record { left = dvd_refl a; right = dvd-zero a; greatest = λ e l r. l }

-- one remainder step
pub gcd_step : {a b d : ℕ} → Gcd b (a % b) d → Gcd a b d
gcd_step {a} {b} {d} g =
    record {
      left = (dvd-mod_iff d {m = a} {n = b} g.left).0 g.right;
      right = g.left;
      greatest = λ e l r. g.greatest e r ((dvd-mod_iff e {m = a} {n = b} r).1 l);
    }

pub gcd_pos : {a b d : ℕ} → Gcd a b d → 0 < b → 0 < d
gcd_pos g h = pos_of_dvd_of_pos g.right h

-- the divisor by remainder steps, at most as many as the first argument
unfoldable pub steps : ℕ → ℕ → ℕ → ℕ
steps zero a b = a
steps (suc n) a zero = a
steps (suc n) a (suc b) = steps n (suc b) (a % suc b)

unfoldable pub gcd_of : ℕ → ℕ → ℕ
gcd_of a b = steps b a b

steps_gcd : (n a b : ℕ) → b ≤ n → Gcd a b (steps n a b)
unfolding steps
steps_gcd zero a zero h = gcd_zero a
steps_gcd zero a (suc b) h = absurd (omega arith)
steps_gcd (suc n) a zero h = gcd_zero a
steps_gcd (suc n) a (suc b) h =
    let m : a % suc b < suc b = mod-lt a (omega arith) in
    gcd_step (steps_gcd n (suc b) (a % suc b) (omega arith))

pub gcd_of_lem : (a b : ℕ) → Gcd a b (gcd_of a b)
unfolding gcd_of
gcd_of_lem a b = steps_gcd b a b (omega arith)

-- multiples of two numbers that differ by d, either one the larger
pub record Bezout (a b d : ℕ) : Type 0 where
  pub x : ℕ
  pub y : ℕ
  pub more : a * x ≡ d + b * y
  pub u : ℕ
  pub v : ℕ
  pub less : b * u ≡ d + a * v

pub record Common (a b : ℕ) : Type 0 where
  pub divisor : ℕ
  pub gcd : Gcd a b divisor
  pub bezout : Bezout a b divisor

-- b divides a
divides : (a b : ℕ) → 0 < a → 0 < b → a % b ≡ 0 → Common a b
divides a b pa pb e =
    let q : ℕ = a / b in
    let s : a / b * b + a % b ≡ a = div-add-mod' a b in
    let m : b * q ≡ a = omega arith in
    record {
      divisor = b;
      gcd = record { left = dvd_of_mod-eq-zero b e; right = dvd_refl b; greatest = λ e l r. r };
      bezout = quotient q m;
    }
  where
    quotient : (q : ℕ) → b * q ≡ a → Bezout a b b
    quotient zero m = absurd (omega arith)
    quotient (suc k) m =
        record { x = 1; y = k; more = omega arith; u = 1; v = 0; less = omega arith }

-- a is q * b + r
step : (a b q r d : ℕ) → q * b + r ≡ a → Bezout b r d → Bezout a b d
step a b q r d s z =
    let x : ℕ = z.x in
    let y : ℕ = z.y in
    let u : ℕ = z.u in
    let v : ℕ = z.v in
    let m : b * x ≡ d + r * y = z.more in
    let l : r * u ≡ d + b * v = z.less in
    let su : q * b * u + r * u ≡ a * u = sym (mul_sum u) ∙ ap (λ (n : ℕ). n * u) s in
    let sy : q * b * y + r * y ≡ a * y = sym (mul_sum y) ∙ ap (λ (n : ℕ). n * y) s in
    record {
      x = u;
      y = q * u + v;
      more = omega arith;
      u = x + q * y;
      v = y;
      less = omega arith;
    }
  where
    mul_sum : (k : ℕ) → (q * b + r) * k ≡ q * b * k + r * k
    mul_sum k = omega arith

common_below : (n a b : ℕ) → b ≤ n → 0 < a → 0 < b → Common a b
common_below zero a b h pa pb = absurd (omega arith)
common_below (suc n) a b h pa pb =
    go (λ p. common_below n b (a % b) (below (mod-lt a pb)) pb p) (eq-zero-or-pos (a % b))
  where
    below : a % b < b → a % b ≤ n
    below m = omega arith

    next : Common b (a % b) → Common a b
    next c =
        record {
          divisor = c.divisor;
          gcd = gcd_step c.gcd;
          bezout = step a b (a / b) (a % b) c.divisor (div-add-mod' a b) c.bezout;
        }

    go : (0 < a % b → Common b (a % b)) → (a % b ≡ 0) ⊎ (0 < a % b) → Common a b
    go r = ⊎_elim (λ e. divides a b pa pb e) (λ p. next (r p))

common : (a b : ℕ) → 0 < a → 0 < b → Common a b
common a b = common_below b a b (omega arith)

pub bezout : {a b d : ℕ} → 0 < a → 0 < b → Gcd a b d → Bezout a b d
bezout {a} {b} {d} pa pb g =
    let c = common a b pa pb in
    subst (Bezout a b) (gcd_unique c.gcd g) c.bezout
