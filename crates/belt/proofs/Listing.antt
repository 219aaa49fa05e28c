-- The list of a word's segments: the lowest first, and what follows it.
use Rattle.std.proofs.Common.{◌≡◌, ℕ, zero, suc, ◌+◌, ◌-◌, ◌*◌, ◌/◌, ◌%◌, ◌^◌, ◌<◌, min, ◌∷◌, sym, refl, ap, ◌∙◌, pow-suc, arith}
use lib.Bits.{bit_and, and_step, and_self}
use lib.Count.{count_trailing_zeros, under}
use Rattle.belt.specs.Words.{with_bit, segments_from, segments}

odd_and : (p : ℕ) → p % 2 ≡ 1 → bit_and p (p - 1) ≡ p / 2 * 2
odd_and p e =
    let h : (p - 1) / 2 ≡ p / 2 = omega arith in
    let o : (p - 1) % 2 ≡ 0 = omega arith in
    and_step p (p - 1)
    ∙ ap (λ k. bit_and (p / 2) k * 2 + min (p % 2) ((p - 1) % 2)) h
    ∙ ap (λ k. k * 2 + min (p % 2) ((p - 1) % 2)) (and_self (p / 2))
    ∙ ap (λ k. p / 2 * 2 + min (p % 2) k) o
    ∙ omega arith

even_and : (p : ℕ) → p % 2 ≡ 0 → 0 < p → bit_and p (p - 1) ≡ bit_and (p / 2) (p / 2 - 1) * 2
even_and p e h =
    let q : (p - 1) / 2 ≡ p / 2 - 1 = omega arith in
    and_step p (p - 1)
    ∙ ap (λ k. bit_and (p / 2) k * 2 + min (p % 2) ((p - 1) % 2)) q
    ∙ ap (λ k. bit_and (p / 2) (p / 2 - 1) * 2 + min k ((p - 1) % 2)) e
    ∙ omega arith

twice_half : (m : ℕ) → m * 2 / 2 ≡ m
twice_half m = omega arith

twice_even : (m : ℕ) → m * 2 % 2 ≡ 0
twice_even m = omega arith

-- the list of an even word is that of its half
even_from : (k s q : ℕ) (m : ℕ) → q ≡ m * 2 → segments_from (suc k) s q ≡ segments_from k (s + 1) m
even_from k s q m e =
    ap (λ b. with_bit b s (segments_from k (s + 1) (q / 2))) (ap (λ n. n % 2) e ∙ twice_even m)
    ∙ ap (segments_from k (s + 1)) (ap (λ n. n / 2) e ∙ twice_half m)

by_parity : (k s p b : ℕ) → p % 2 ≡ b → b < 2 → 0 < p
    → (0 < p / 2 → segments_from k (s + 1) (p / 2) ≡ (s + 1 + count_trailing_zeros k (p / 2)) ∷ segments_from k (s + 1) (bit_and (p / 2) (p / 2 - 1)))
    → segments_from (suc k) s p ≡ (s + count_trailing_zeros (suc k) p) ∷ segments_from (suc k) s (bit_and p (p - 1))
unfolding count_trailing_zeros
by_parity k s p zero e b h ih =
    let z : 0 < p / 2 = omega arith in
    let right = even_from k s (bit_and p (p - 1)) (bit_and (p / 2) (p / 2 - 1)) (even_and p e h) in
    let num : s + under (p % 2) (count_trailing_zeros k (p / 2)) ≡ s + 1 + count_trailing_zeros k (p / 2) =
    ap (λ m. s + under m (count_trailing_zeros k (p / 2))) e ∙ omega arith in
    ap (λ m. with_bit m s (segments_from k (s + 1) (p / 2))) e
    ∙ ih z
    ∙ ap (λ m. m ∷ segments_from k (s + 1) (bit_and (p / 2) (p / 2 - 1))) (sym num)
    ∙ ap (λ l. (s + under (p % 2) (count_trailing_zeros k (p / 2))) ∷ l) (sym right)
by_parity k s p (suc zero) e b h ih =
    let right = even_from k s (bit_and p (p - 1)) (p / 2) (odd_and p e) in
    let num : s + under (p % 2) (count_trailing_zeros k (p / 2)) ≡ s =
    ap (λ m. s + under m (count_trailing_zeros k (p / 2))) e ∙ omega arith in
    ap (λ m. with_bit m s (segments_from k (s + 1) (p / 2))) e
    ∙ ap (λ m. m ∷ segments_from k (s + 1) (p / 2)) (sym num)
    ∙ ap (λ l. (s + under (p % 2) (count_trailing_zeros k (p / 2))) ∷ l) (sym right)
by_parity k s p (suc (suc m)) e b h ih = absurd (omega arith)

half_below : (k p : ℕ) → p < 2 ^ suc k → p / 2 < 2 ^ k
half_below k p h = let e = pow-suc 2 k in omega arith

from_next : (k s p : ℕ) → 0 < p → p < 2 ^ k
    → segments_from k s p ≡ (s + count_trailing_zeros k p) ∷ segments_from k s (bit_and p (p - 1))
from_next zero s p h l = absurd (omega arith)
from_next (suc k) s p h l =
    by_parity k s p (p % 2) refl (omega arith) h (λ z. from_next k (s + 1) (p / 2) z (half_below k p l))

-- a word that is not 0 lists its lowest segment, then those of the word without it
pub segments_next : (p : ℕ) → 0 < p → p < 2 ^ 64 → segments p ≡ count_trailing_zeros 64 p ∷ segments (bit_and p (p - 1))
unfolding segments
segments_next p h l = from_next 64 0 p h l ∙ ap (λ m. m ∷ segments_from 64 0 (bit_and p (p - 1))) (omega arith)
