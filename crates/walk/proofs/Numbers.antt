-- The law of the numbers.
use Rattle.std.proofs.Common.{◌≡◌, ℕ, zero, suc, ◌+◌, ◌*◌, ◌≤◌, ◌<◌, cond, eqb, List, [], ◌∷◌, length, None, refl, ap, ◌∙◌, inl, inr, arith, rules, eq-eqb, ne_eqb}
use Rattle.std.proofs.lemmas.Bool.{cases_eq}
use Rattle.std.proofs.lemmas.List.Sums.{sum_by-cons}
use Rattle.graph.specs.Meaning.{Meaning, Sound}
use Rattle.walk.specs.declared.event.DfsEvent.{DfsEvent}
use Rattle.walk.specs.declared.event.DfsEvent.TheVariants.{Discover, TreeEdge, BackEdge, CrossForwardEdge, Finish}
use Rattle.walk.specs.declared.mark.Mark.{Mark}
use Rattle.walk.specs.declared.mark.Mark.TheVariants.{New, Open, Done}
use Rattle.walk.specs.Numbers.{count, found, numbers}
use Rattle.walk.specs.NumbersOnce.{Numbered}
use Rattle.walk.specs.Walk.{Visitor, Report, State, report, discover, finish, begin, walk}
use Rattle.walk.proofs.Cases.{event_of}
use Rattle.walk.proofs.Induct.{Running}
use Rattle.walk.proofs.Starts.{Blocks, Across, across}

-- k - 1, …, 0
down : ℕ → List ℕ
down zero = []
down (suc k) = k ∷ down k

count_cons : (t x : ℕ) (xs : List ℕ) → count t (x ∷ xs) ≡ cond (eqb t x) 1 0 + count t xs
unfolding count
count_cons t x xs = sum_by-cons (λ y. cond (eqb t y) 1 0) x xs

count_beyond : (k t : ℕ) → k ≤ t → count t (down k) ≡ 0
unfolding down count
count_beyond zero t h = refl
count_beyond (suc k) t h =
    let d : t ≡ k → ⊥ = λ e. omega arith in grind (arith, count_cons t k (down k), count_beyond k t (omega arith), ne_eqb t k d)

count_below : (k t : ℕ) → t < k → count t (down k) ≡ 1
unfolding down
count_below zero t h = absurd (omega arith)
count_below (suc k) t h = elim (cases_eq t k) [
  | inl e ↦ grind (arith, count_cons t k (down k), count_beyond k t, eq-eqb t k e)
  | inr d ↦ grind (arith, count_cons t k (down k), count_below k t, ne_eqb t k d)
]

shut_by : DfsEvent → ℕ → ℕ
shut_by (Discover u t) n = n
shut_by (TreeEdge a b) n = n
shut_by (BackEdge a b) n = n
shut_by (CrossForwardEdge a b) n = n
shut_by (Finish u t) n = suc n

-- how many blocks were finished
shuts : {B : Type 0} → List (Report B) → ℕ
shuts [] = 0
shuts (h ∷ l) = shut_by h.event (shuts l)

abbrev once_at : Mark → ℕ
once_at New = 0
once_at Open = 1
once_at Done = 1

once_most : (m : Mark) → once_at m ≤ 1
once_most m = search rules

module _ {S B : Type 0} (V : Visitor S B) (G : Meaning) where
  record Kept (s : State S B) : Type 0 where
    listed : numbers s.log ≡ down s.time
    timed : s.time ≡ length (found s.log) + shuts s.log
    once : (u : ℕ) → count u (found s.log) ≤ once_at (s.mark u)

  -- as many are finished as are found
  record Even (s s' : State S B) : Type 0 where
    kept : Kept s → Kept s'
    even : Running V G s' → length (found s'.log) + shuts s.log ≡ length (found s.log) + shuts s'.log

  keep_edge : (m : Mark) (u v : ℕ) (s : State S B) → Even s (report V (event_of m u v) s)
  unfolding found numbers shuts shut_by
  keep_edge m u v s = record {
    kept = λ k. record { listed = grind (arith, k.listed); timed = grind (arith, k.timed); once = λ w. grind (arith, k.once w) };
    even = λ _. grind arith;
  }

  keep_open : (u : ℕ) (s : State S B) → s.mark u ≡ New → Kept s → Kept (discover V u s)
  unfolding found numbers shuts shut_by down
  keep_open u s m k = record {
    listed = ap (λ x. s.time ∷ x) k.listed;
    timed = omega arith;
    once =
        λ w.
        elim (cases_eq w u) [
          | inl e ↦ grind (arith, count_cons w u (found s.log), eq-eqb w u e, k.once w)
          | inr d ↦ grind (arith, count_cons w u (found s.log), ne_eqb w u d, k.once w)
        ];
  }

  keep_close : (u : ℕ) (s : State S B) → Kept s → Kept (finish V u s)
  unfolding found numbers shuts shut_by down
  keep_close u s k = record {
    listed = ap (λ x. s.time ∷ x) k.listed;
    timed = omega arith;
    once =
        λ w.
        elim (cases_eq w u) [
          | inl e ↦ grind (arith, eq-eqb w u e, k.once w, once_most (s.mark w))
          | inr d ↦ grind (arith, ne_eqb w u d, k.once w)
        ];
  }

  even_wrap : (u : ℕ) (s s' : State S B) → s.mark u ≡ New → Even (discover V u s) s' → Running V G s' → Even s (finish V u s')
  unfolding found shuts shut_by
  even_wrap u s s' m e r = record { kept = λ k. keep_close u s' (e.kept (keep_open u s m k)); even = λ _. omega (arith, e.even r) }

  even_across : Across V G Even
  even_across = record {
    still = λ s. record { kept = λ k. k; even = λ _. refl };
    join = λ s s₁ s₂ a r b. record { kept = λ k. b.kept (a.kept k); even = λ z. omega (arith, a.even r, b.even z) };
    edge = λ m u v s r. keep_edge m u v s;
    ended = λ u s s' r m e b h. record { kept = λ k. e.kept (keep_open u s m k); even = λ z. cc };
    wrapped = λ u s s' r m e z. even_wrap u s s' m e z;
  }

  kept_begin : (x : S) → Kept (begin V x)
  unfolding found numbers shuts down count
  kept_begin x = record { listed = refl; timed = refl; once = λ u. omega arith }

  even_begin : (x : S) → (length (found (begin V x).log) ≡ 0) × (shuts (begin V x).log ≡ 0)
  unfolding found shuts
  even_begin x = (refl, refl)

pub numbers_law : {S B : Type 0} (V : Visitor S B) (G : Meaning) (us : List ℕ) (x : S) → Sound G → Blocks G us → (walk V G us x).stop ≡ None
    → Numbered (walk V G us x).log
numbers_law V G us x W b r =
    let e = across V G (Even V G) (even_across V G) W us x b in
    let k = e.kept (kept_begin V G x) in
    let h = e.even r in
    let z = even_begin V G x in
    let t : (walk V G us x).time ≡ 2 * length (found (walk V G us x).log) = omega arith in
    let n : numbers (walk V G us x).log ≡ down (2 * length (found (walk V G us x).log)) = k.listed ∙ ap down t in
    record {
      once = λ u. omega (arith, k.once u, once_most ((walk V G us x).mark u));
      below = λ i l. ap (count i) n ∙ count_below _ i l;
      beyond = λ i l. ap (count i) n ∙ count_beyond _ i l;
    }
