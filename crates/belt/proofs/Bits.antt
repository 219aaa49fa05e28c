-- One bit of a word: how the code reads, sets and clears it, and that the others stay.
use Rattle.std.proofs.Common.{◌≡◌, ℕ, zero, suc, ◌+◌, ◌-◌, ◌*◌, ◌/◌, ◌%◌, ◌^◌, ◌<◌, min, max, Bool, true, false, cond, ◌≢◌, sym, refl, ap, ◌∙◌, mod-eq_of_lt, pow-suc, arith}
use lib.Bits.{bit_and, bit_or, and_step, and_mask, or_step, or_zero_r}
use Rattle.std.proofs.lemmas.Nat.{one_shl, pow_below, pow_pos}
use Rattle.belt.specs.Words.{bit, put}
use Rattle.belt.specs.Soundness.{bit_suc}

half_power : (y : ℕ) → 2 ^ suc y / 2 ≡ 2 ^ y
half_power y = let e = pow-suc 2 y in omega arith

even_power : (y : ℕ) → 2 ^ suc y % 2 ≡ 0
even_power y = let e = pow-suc 2 y in omega arith

or_put : (y p : ℕ) → bit_or p (2 ^ y) ≡ put y true p
unfolding put
or_put zero p = or_step p 1 ∙ ap (λ k. k * 2 + max (p % 2) 1) (or_zero_r (p / 2)) ∙ omega arith
or_put (suc y) p =
    or_step p (2 ^ suc y)
    ∙ ap (λ k. bit_or (p / 2) k * 2 + max (p % 2) (2 ^ suc y % 2)) (half_power y)
    ∙ ap (λ k. bit_or (p / 2) (2 ^ y) * 2 + max (p % 2) k) (even_power y)
    ∙ ap (λ k. k * 2 + max (p % 2) 0) (or_put y (p / 2))
    ∙ omega arith

-- and with all of k ones but the one at y
and_put : (k y p : ℕ) → y < k → p < 2 ^ k → bit_and p (2 ^ k - 1 - 2 ^ y) ≡ put y false p
unfolding put
and_put zero y p h l = absurd (omega arith)
and_put (suc k) zero p h l =
    let e = pow-suc 2 k in
    let half : (2 ^ suc k - 1 - 2 ^ 0) / 2 ≡ 2 ^ k - 1 = omega (arith, pow_pos k) in
    let even : (2 ^ suc k - 1 - 2 ^ 0) % 2 ≡ 0 = omega (arith, pow_pos k) in
    let small : p / 2 < 2 ^ k = omega arith in
    and_step p (2 ^ suc k - 1 - 2 ^ 0)
    ∙ ap (λ q. bit_and (p / 2) q * 2 + min (p % 2) ((2 ^ suc k - 1 - 2 ^ 0) % 2)) half
    ∙ ap (λ q. bit_and (p / 2) (2 ^ k - 1) * 2 + min (p % 2) q) even
    ∙ ap (λ q. q * 2 + min (p % 2) 0) (and_mask (p / 2) k ∙ mod-eq_of_lt small)
    ∙ omega arith
and_put (suc k) (suc y) p h l =
    let e = pow-suc 2 k in
    let d = pow-suc 2 y in
    let b : 2 ^ y < 2 ^ k = pow_below y k (omega arith) in
    let half : (2 ^ suc k - 1 - 2 ^ suc y) / 2 ≡ 2 ^ k - 1 - 2 ^ y = omega arith in
    let odd : (2 ^ suc k - 1 - 2 ^ suc y) % 2 ≡ 1 = omega arith in
    and_step p (2 ^ suc k - 1 - 2 ^ suc y)
    ∙ ap (λ q. bit_and (p / 2) q * 2 + min (p % 2) ((2 ^ suc k - 1 - 2 ^ suc y) % 2)) half
    ∙ ap (λ q. bit_and (p / 2) (2 ^ k - 1 - 2 ^ y) * 2 + min (p % 2) q) odd
    ∙ ap (λ q. q * 2 + min (p % 2) 1) (and_put k y (p / 2) (omega arith) (omega arith))
    ∙ omega arith

-- as the code writes them
pub sets : (p y : ℕ) → y < 64 → bit_or p (1 * 2 ^ y % 2 ^ 64) ≡ put y true p
sets p y h = ap (bit_or p) (one_shl y 64 h) ∙ or_put y p

pub clears : (p y : ℕ) → y < 64 → p < 2 ^ 64 → bit_and p (2 ^ 64 - 1 - 1 * 2 ^ y % 2 ^ 64) ≡ put y false p
clears p y h l = ap (λ k. bit_and p (2 ^ 64 - 1 - k)) (one_shl y 64 h) ∙ and_put 64 y p h l

pub reads : (p y : ℕ) → bit_and (p / 2 ^ y) 1 ≡ bit y p
reads p y = and_mask (p / 2 ^ y) 1

split : (q r : ℕ) → r < 2 → ((q * 2 + r) / 2 ≡ q) × ((q * 2 + r) % 2 ≡ r)
split q r h = (omega arith, omega arith)

digit : (v : Bool) → cond v 1 0 < 2
digit true = omega arith
digit false = omega arith

pub bit_same : (y : ℕ) (v : Bool) (p : ℕ) → bit y (put y v p) ≡ cond v 1 0
unfolding put
bit_same zero v p = let t = split (p / 2) (cond v 1 0) (digit v) in omega arith
bit_same (suc y) v p =
    bit_suc y (put y v (p / 2) * 2 + p % 2)
    ∙ ap (bit y) (split (put y v (p / 2)) (p % 2) (omega arith)).0
    ∙ bit_same y v (p / 2)

pub bit_other : (y : ℕ) (v : Bool) (p z : ℕ) → z ≢ y → bit z (put y v p) ≡ bit z p
unfolding put
bit_other zero v p zero d = absurd (d refl)
bit_other zero v p (suc z) d =
    bit_suc z (p / 2 * 2 + cond v 1 0) ∙ ap (bit z) (split (p / 2) (cond v 1 0) (digit v)).0 ∙ sym (bit_suc z p)
bit_other (suc y) v p zero d = let t = split (put y v (p / 2)) (p % 2) (omega arith) in omega arith
bit_other (suc y) v p (suc z) d =
    bit_suc z (put y v (p / 2) * 2 + p % 2)
    ∙ ap (bit z) (split (put y v (p / 2)) (p % 2) (omega arith)).0
    ∙ bit_other y v (p / 2) z (λ e. d (ap suc e))
    ∙ sym (bit_suc z p)
