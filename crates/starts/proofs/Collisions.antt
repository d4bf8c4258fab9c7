-- Two cyclic timers collide exactly if the greatest common divisor of their periods divides the distance of their starts,
-- and a start collides as the start one new period later does.
use Rattle.std.specs.Prelude.{ℕ, zero, suc, ◌+◌, ◌*◌, ◌-◌, ◌/◌, ◌%◌, ◌≤◌, ◌<◌, ◌≡◌, refl, ◌⊎◌, ◌↔◌, List}
use Rattle.std.specs.Int.{◌∣◌}
use Rattle.std.proofs.Common.{sym, ◌∙◌, ap, subst, ⊎_elim, div-add-mod', eq-zero-or-pos, le-mul_of_pos_right, mul-pos, mod-lt, arith}
use Rattle.std.proofs.Math.Nat.{mod-mod, mod-mod_of_dvd, add-mod_right, dvd-add, dvd-sub, dvd-mul_left, mul-div_cancel', add-mul-mod_self_left, add-mul-div_right, div-eq_of_lt}
use Rattle.starts.specs.declared.Cycle.{Cycle}
use Rattle.starts.specs.Starts.{Signals, Collide, timer_at, cycle, Taken, InRange, Valid}
use Rattle.starts.specs.Collisions.{distance, CollideFrom}
use Rattle.starts.specs.Divisor.{Gcd, Bezout, bezout, gcd_of, gcd_of_lem}

-- a multiple of d more leaves the same rest
rest_more : (d s m : ℕ) → d ∣ m → (s + m) % d ≡ s % d
rest_more d s m h =
    let e : d * (m / d) ≡ m = mul-div_cancel' d h in
    ap (λ (n : ℕ). (s + n) % d) (sym e) ∙ add-mul-mod_self_left s d (m / d)

times : (d i p : ℕ) → d ∣ p → d ∣ i * p
times d i p h =
    let e : d * (p / d) ≡ p = mul-div_cancel' d h in
    let f : i * (p / d) * d ≡ i * p = swap (p / d) ∙ ap (λ (n : ℕ). i * n) e in
    rw f at (dvd-mul_left d (i * (p / d)))
  where
    swap : (k : ℕ) → i * k * d ≡ i * (d * k)
    swap k = omega arith

pub same_rest : (d s e : ℕ) → (d ∣ distance s e) ↔ (s % d ≡ e % d)
same_rest d s e = (there, back)
  where
    split : (s - e ≡ 0) ⊎ (0 < s - e) → d ∣ distance s e → s % d ≡ e % d
    split =
        ⊎_elim
        (λ (z : s - e ≡ 0) h.
        let m : s + distance s e ≡ e = omega arith in
        sym (rest_more d s (distance s e) h) ∙ ap (λ (n : ℕ). n % d) m)
        (λ (z : 0 < s - e) h.
        let m : e + distance s e ≡ s = omega arith in
        sym (ap (λ (n : ℕ). n % d) m) ∙ rest_more d e (distance s e) h)

    there : d ∣ distance s e → s % d ≡ e % d
    there h = split (eq-zero-or-pos (s - e)) h

    back : s % d ≡ e % d → d ∣ distance s e
    back r =
        let a : s / d * d + s % d ≡ s = div-add-mod' s d in
        let b : e / d * d + e % d ≡ e = div-add-mod' e d in
        let x : s / d * d - e / d * d ≡ s - e = omega arith in
        let y : e / d * d - s / d * d ≡ e - s = omega arith in
        dvd-add d
        (rw x at (dvd-sub d (dvd-mul_left d (s / d)) (dvd-mul_left d (e / d))))
        (rw y at (dvd-sub d (dvd-mul_left d (e / d)) (dvd-mul_left d (s / d))))

-- the common tock, far enough up that both turns are at least 1
meet : (p q d g h r x y u v : ℕ) → p * x ≡ d + q * y → q * u ≡ d + p * v →
    g * d + r + (v * g + x * h + q) * p ≡ h * d + r + (u * g + y * h + p) * q
meet p q d g h r x y u v a b =
    let ah : p * x * h ≡ d * h + q * y * h = ap (λ (n : ℕ). n * h) a ∙ spread q y h in
    let bg : q * u * g ≡ d * g + p * v * g = ap (λ (n : ℕ). n * g) b ∙ spread p v g in
    omega arith
  where
    spread : (m n k : ℕ) → (d + m * n) * k ≡ d * k + m * n * k
    spread m n k = omega arith

module _ (a b : Cycle) (d : ℕ) (pa : 0 < a.period) (pb : 0 < b.period) (g : Gcd a.period b.period d) where
  rests_of_collide : Collide a b → a.start % d ≡ b.start % d
  rests_of_collide c =
      let l = c.left in
      let r = c.right in
      sym (rest_more d a.start (l.turn * a.period) (times d l.turn a.period g.left))
      ∙ ap (λ (n : ℕ). n % d) (sym l.is ∙ r.is)
      ∙ rest_more d b.start (r.turn * b.period) (times d r.turn b.period g.right)

  collide_of_rests : a.start % d ≡ b.start % d → Collide a b
  collide_of_rests e =
      let z : Bezout a.period b.period d = bezout pa pb g in
      let i : ℕ = z.v * (a.start / d) + z.x * (b.start / d) + b.period in
      let j : ℕ = z.u * (a.start / d) + z.y * (b.start / d) + a.period in
      let sa : a.start / d * d + a.start % d ≡ a.start = div-add-mod' a.start d in
      let sb : b.start / d * d + b.start % d ≡ b.start = div-add-mod' b.start d in
      let m : a.start / d * d + a.start % d + i * a.period ≡ b.start / d * d + a.start % d + j * b.period =
      meet a.period b.period d (a.start / d) (b.start / d) (a.start % d) z.x z.y z.u z.v z.more z.less
      in
      let same : a.start + i * a.period ≡ b.start + j * b.period =
      ap (λ (n : ℕ). n + i * a.period) (sym sa)
      ∙ m
      ∙ ap (λ (n : ℕ). b.start / d * d + n + j * b.period) e
      ∙ ap (λ (n : ℕ). n + j * b.period) sb
      in
      record {
        tock = a.start + i * a.period;
        left = record { turn = i; from_one = omega arith; is = refl };
        right = record { turn = j; from_one = omega arith; is = same };
      }

  -- the same rest by the divisor
  pub collide_rests : Collide a b ↔ (a.start % d ≡ b.start % d)
  collide_rests = (rests_of_collide, collide_of_rests)

  -- the law of collisions
  pub collide_iff : Collide a b ↔ (d ∣ distance a.start b.start)
  collide_iff =
      let s = same_rest d a.start b.start in
      ((λ c. s.1 (rests_of_collide c)), (λ h. collide_of_rests (s.0 h)))

module _ (t : Cycle) (p : ℕ) (pt : 0 < t.period) (pp : 0 < p) where
  -- two starts with the same rest by the new period collide alike
  pub alike : (s e : ℕ) → s % p ≡ e % p → Collide t (cycle s p) → Collide t (cycle e p)
  alike s e r c =
      let d : ℕ = gcd_of t.period p in
      let g : Gcd t.period p d = gcd_of_lem t.period p in
      (collide_rests t (cycle e p) d pt pp g).1
      ((collide_rests t (cycle s p) d pt pp g).0 c
      ∙ sym (mod-mod_of_dvd d s g.right)
      ∙ ap (λ (n : ℕ). n % d) r
      ∙ mod-mod_of_dvd d e g.right)

  -- a start and the start plus the new period collide alike
  pub period_later : (s : ℕ) → Collide t (cycle s p) ↔ Collide t (cycle (s + p) p)
  period_later s =
      (alike s (s + p) (sym (add-mod_right s p)), alike (s + p) s (add-mod_right s p))

-- whichever of the two is the new one
collide_sym : {a b : Cycle} → Collide a b → Collide b a
collide_sym c = record { tock = c.tock; left = c.right; right = c.left }

-- and so do a given timer and the same one started a period of its own later
pub given_later : (s p : ℕ) (b : Cycle) → 0 < p → 0 < b.period → Collide (cycle s p) b ↔ Collide (cycle (s + p) p) b
given_later s p b pp pb =
    let i = period_later b p pb pp s in
    ((λ c. collide_sym (i.0 (collide_sym c))), (λ c. collide_sym (i.1 (collide_sym c))))

-- who collide do so again and again: in a tock at or behind any that is named
pub collide_again : (a b : Cycle) → 0 < a.period → 0 < b.period → Collide a b → (n : ℕ) → CollideFrom n a b
collide_again a b pa pb c n =
    let l = c.left in
    let r = c.right in
    let i : ℕ = l.turn + n * b.period in
    let j : ℕ = r.turn + n * a.period in
    let far : n ≤ n * (a.period * b.period) = le-mul_of_pos_right n (mul-pos pa pb) in
    let le = l.is in
    let re = r.is in
    record {
      tock = a.start + i * a.period;
      from = omega arith;
      left = record { turn = i; from_one = let f = l.from_one in omega arith; is = refl };
      right = record { turn = j; from_one = let f = r.from_one in omega arith; is = omega arith };
    }

-- n + 1 tocks after a timer's start are in its row just if the number of its turns, n / p by then, goes up there
pub turns_in_row : (s p n : ℕ) → 0 < p → Signals (cycle s p) (s + suc n) ↔ (suc n / p ≡ suc (n / p))
turns_in_row s p n pp = (there, back)
  where
    -- n and n + 1 by the period
    a : n / p * p + n % p ≡ n
    a = div-add-mod' n p

    b : suc n / p * p + suc n % p ≡ suc n
    b = div-add-mod' (suc n) p

    there : Signals (cycle s p) (s + suc n) → suc n / p ≡ suc (n / p)
    there h = at h.turn h.from_one h.is
      where
        at : (k : ℕ) → 1 ≤ k → s + suc n ≡ s + k * p → suc n / p ≡ suc (n / p)
        at zero l e = absurd (omega (arith, l))
        at (suc k) l e =
            let m : suc n ≡ 0 + suc k * p = omega (arith, e) in
            let o : n ≡ p - 1 + k * p = omega (arith, e, pp) in
            let x : suc n / p ≡ 0 / p + suc k = ap (λ (i : ℕ). i / p) m ∙ add-mul-div_right 0 (suc k) pp in
            let y : n / p ≡ (p - 1) / p + k = ap (λ (i : ℕ). i / p) o ∙ add-mul-div_right (p - 1) k pp in
            let z : 0 / p ≡ 0 = div-eq_of_lt pp in
            let w : (p - 1) / p ≡ 0 = div-eq_of_lt (omega (arith, pp)) in
            omega (arith, x, y, z, w)

    back : suc n / p ≡ suc (n / p) → Signals (cycle s p) (s + suc n)
    back e =
        let f : suc (n / p) * p + suc n % p ≡ suc n = subst (λ (q : ℕ). q * p + suc n % p ≡ suc n) e b in
        let l : n % p < p = mod-lt n pp in
        record { turn = suc (n / p); from_one = omega arith; is = omega (arith, a, f, l) }

-- so the starts below the period tell of all
pub taken_alike : (ts : List Cycle) (p : ℕ) → Valid ts p → (s : ℕ) → Taken ts p (s % p) → Taken ts p s
taken_alike ts p v s c =
    let t : Cycle = timer_at ts c.which in
    let r : InRange t.period = v.timers c.which c.there in
    record {
      which = c.which;
      there = c.there;
      collide = alike t p r.low v.new.low (s % p) s (mod-mod s p) c.collide;
    }
