-- That a plan is a sound graph, and that it lists each row exactly. Proofs: there is nothing here to believe.
--
--   segments_exact    the list of a word has a number just where the word has that segment
--   segments_rising   it rises
--   segments_within   it has segments only
--   plan_sound        so a plan is a sound graph
--   word_lists        and lists a word's segments exactly
use Rattle.std.specs.Prelude.{◌≡◌, ℕ, zero, suc, ◌+◌, ◌/◌, ◌%◌, ◌^◌, ◌<◌, true, cond, not, ◌⊎◌, ◌↔◌, List, [], ◌∷◌, ◌==◌, nat_lt, slice_index, refl}
use Rattle.std.proofs.Common.{inl, inr, ⊎_elim, sym, ap, ◌∙◌, subst, arith, shr-shr}
use Rattle.std.proofs.lemmas.Bool.{and_parts, and_from, ltb-true, lt-ltb, le-ltb, eqb-true, eq-eqb}
use Rattle.graph.specs.Meaning.{Member, Sound}
use Rattle.belt.specs.declared.plan.BeltPlan.{BeltPlan}
use Rattle.belt.specs.Words.{bit, with_bit, segments_from, segments}
use Rattle.belt.specs.Plan.{row_of, has, transfer, locked, meaning_of}
use Rattle.belt.specs.Listing.{Rising, Lists}

pub bit_suc : (z q : ℕ) → bit (suc z) q ≡ bit z (q / 2)
bit_suc z q =
    let e : suc z ≡ 1 + z = omega arith in
    ap (λ k. q / 2 ^ k % 2) e ∙ ap (λ k. k % 2) (sym (shr-shr q 1 z))

pub segments_none : segments 0 ≡ []
unfolding segments
segments_none = refl

-- v is the number of a set bit among the first k of p, counted from s
record Among (k s p v : ℕ) : Type 0 where
  at : ℕ
  below : at < k
  number : v ≡ s + at
  set : bit at p ≡ 1

out_of : (b s v : ℕ) (l : List ℕ) → Member v (with_bit b s l) → ((v ≡ s) × (0 < b)) ⊎ Member v l
out_of zero s v l m = inr m
out_of (suc b) s v l (inl e) = inl (e, omega arith)
out_of (suc b) s v l (inr m) = inr m

into : (b s v : ℕ) (l : List ℕ) → Member v l → Member v (with_bit b s l)
into zero s v l m = m
into (suc b) s v l m = inr m

first : (b s : ℕ) (l : List ℕ) → b ≡ 1 → Member s (with_bit b s l)
first zero s l e = absurd (omega arith)
first (suc b) s l e = inl refl

here : (k s p v : ℕ) → (v ≡ s) × (0 < p % 2) → Among (suc k) s p v
here k s p v h = record { at = 0; below = omega arith; number = omega (arith, h.0); set = omega (arith, h.1) }

above : (k s p v : ℕ) → Among k (s + 1) (p / 2) v → Among (suc k) s p v
above k s p v w = record {
  at = suc w.at;
  below = omega (arith, w.below);
  number = omega (arith, w.number);
  set = bit_suc w.at p ∙ w.set;
}

among : (k s p v : ℕ) → Member v (segments_from k s p) → Among k s p v
among zero s p v m = absurd m
among (suc k) s p v m =
    ⊎_elim (here k s p v) (λ r. above k s p v (among k (s + 1) (p / 2) v r)) (out_of (p % 2) s v (segments_from k (s + 1) (p / 2)) m)

member : (k s p i : ℕ) → i < k → bit i p ≡ 1 → Member (s + i) (segments_from k s p)
member zero s p i h e = absurd (omega arith)
member (suc k) s p zero h e =
    let z : s ≡ s + 0 = omega arith in
    let odd : p % 2 ≡ 1 = omega arith in
    subst (λ v. Member v (segments_from (suc k) s p)) z (first (p % 2) s (segments_from k (s + 1) (p / 2)) odd)
member (suc k) s p (suc i) h e =
    let z : s + 1 + i ≡ s + suc i = omega arith in
    subst (λ v. Member v (segments_from (suc k) s p)) z
    (into (p % 2) s (s + 1 + i) (segments_from k (s + 1) (p / 2)) (member k (s + 1) (p / 2) i (omega arith) (sym (bit_suc i p) ∙ e)))

pub segments_exact : (p v : ℕ) → Member v (segments p) ↔ (has v p ≡ true)
unfolding segments
segments_exact p v = (to, back)
  where
    to : Member v (segments p) → has v p ≡ true
    to m =
        let w = among 64 0 p v m in
        let same : v ≡ w.at = omega (arith, w.number) in
        and_from (nat_lt v 64) (bit v p == 1) (lt-ltb v 64 (omega (arith, w.below))) (eq-eqb (bit v p) 1 (ap (λ k. bit k p) same ∙ w.set))

    back : has v p ≡ true → Member v (segments p)
    back e =
        let h = and_parts (nat_lt v 64) (bit v p == 1) e in
        let z : 0 + v ≡ v = omega arith in
        subst (λ k. Member k (segments_from 64 0 p)) z (member 64 0 p v (ltb-true v 64 h.0) (eqb-true (bit v p) 1 h.1))

rising_with : (b s : ℕ) (l : List ℕ) → Rising l → ((v : ℕ) → Member v l → s < v) → Rising (with_bit b s l)
rising_with zero s l r h = r
rising_with (suc b) s [] r h = tt
rising_with (suc b) s (y ∷ l) r h = (h y (inl refl), r)

rising_from : (k s p : ℕ) → Rising (segments_from k s p)
rising_from zero s p = tt
rising_from (suc k) s p =
    rising_with (p % 2) s (segments_from k (s + 1) (p / 2)) (rising_from k (s + 1) (p / 2))
    (λ v m. omega (arith, (among k (s + 1) (p / 2) v m).number))

pub segments_rising : (p : ℕ) → Rising (segments p)
unfolding segments
segments_rising p = rising_from 64 0 p

pub segments_within : (p v : ℕ) → Member v (segments p) → v < 64
unfolding segments
segments_within p v m = let w = among 64 0 p v m in omega (arith, w.below, w.number)

pub plan_sound : (plan : BeltPlan) → Sound (meaning_of plan)
plan_sound plan = record {
  few = omega arith;
  below = λ u v m. segments_within (row_of plan u) v m;
  outside = λ u h. ap (λ t. segments (cond t (slice_index plan.rows u) 0)) (le-ltb u 64 h) ∙ segments_none;
  listed = λ u v e. (segments_exact (row_of plan u) v).1 (and_parts (transfer plan u v) (not (locked plan v)) e).0;
}

pub word_lists : (p : ℕ) → Lists (λ s. has s p) (segments p)
word_lists p = record { exact = segments_exact p; rising = segments_rising p }
