-- How many segments a word lists: its ones, and none where it is 0.
use Rattle.std.proofs.Common.{◌≡◌, ℕ, zero, suc, ◌+◌, ◌/◌, ◌%◌, ◌^◌, ◌<◌, true, false, ltb, List, length, sym, refl, ap, ◌∙◌, pow-suc, arith}
use lib.Count.{ones, ones_step}
use Rattle.std.proofs.lemmas.Bool.{lt-ltb}
use Rattle.belt.specs.Words.{with_bit, segments_from, segments}
use Rattle.belt.specs.Counts.{fed}
use Rattle.belt.specs.Soundness.{segments_none}
use Rattle.belt.proofs.Listing.{segments_next}

length_with : (b s : ℕ) (l : List ℕ) → b < 2 → length (with_bit b s l) ≡ b + length l
length_with zero s l h = omega arith
length_with (suc zero) s l h = omega arith
length_with (suc (suc b)) s l h = absurd (omega arith)

length_from : (k s p : ℕ) → p < 2 ^ k → length (segments_from k s p) ≡ ones p
unfolding ones
length_from zero s zero h = refl
length_from zero s (suc p) h = absurd (omega arith)
length_from (suc k) s p h =
    let e = pow-suc 2 k in
    length_with (p % 2) s (segments_from k (s + 1) (p / 2)) (omega arith)
    ∙ ap (λ n. p % 2 + n) (length_from k (s + 1) (p / 2) (omega arith))
    ∙ sym (ones_step p)

pub fed_ones : (p : ℕ) → p < 2 ^ 64 → fed p ≡ ones p
unfolding segments
fed_ones p h = length_from 64 0 p h

pub feeds : (p : ℕ) → p < 2 ^ 64 → (p ≡ 0 → ⊥) → ltb 0 (fed p) ≡ true
feeds p h n = ap (λ l. ltb 0 (length l)) (segments_next p (omega arith) h) ∙ lt-ltb 0 _ (omega arith)

pub feeds_not : (p : ℕ) → p ≡ 0 → ltb 0 (fed p) ≡ false
feeds_not p e = ap (λ q. ltb 0 (fed q)) e ∙ ap (λ l. ltb 0 (length l)) segments_none
