-- Marks: one block marked, what grows, and how many blocks are still new.
use Rattle.std.proofs.Common.{◌≡◌, ℕ, zero, suc, ◌<◌, ◌≤◌, ◌≢◌, ◌⊎◌, inl, inr, arith, rules, eq-eqb, ne_eqb}
use Rattle.std.proofs.lemmas.Bool.{cases_eq}
use Rattle.walk.specs.declared.mark.Mark.{Mark}
use Rattle.walk.specs.declared.mark.Mark.TheVariants.{New, Open, Done}
use Rattle.walk.specs.Marks.{mark_as, one_if_new, unseen}

abbrev pub Seen : Mark → Type 0
Seen New = ⊥
Seen Open = Unit {0}
Seen Done = Unit {0}

abbrev pub Grow : (ℕ → Mark) → (ℕ → Mark) → Type 0
Grow f g = (w : ℕ) → Seen (f w) → Seen (g w)

pub seen_cases : (m : Mark) → Seen m → (m ≡ Open) ⊎ (m ≡ Done)
seen_cases m t = grind arith

pub mark_as_same : (u : ℕ) (m : Mark) (f : ℕ → Mark) → mark_as u m f u ≡ m
mark_as_same u m f = search rules

pub mark_as_other : (u : ℕ) (m : Mark) (f : ℕ → Mark) (w : ℕ) → w ≢ u → mark_as u m f w ≡ f w
mark_as_other u m f w d = search rules

pub grow_mark_as : (u : ℕ) (m : Mark) (f : ℕ → Mark) → Seen m → Grow f (mark_as u m f)
grow_mark_as u m f t w h = elim (cases_eq w u) [ inl e ↦ rw (eq-eqb w u e) t | inr d ↦ rw (ne_eqb w u d) h ]

new_grow : (a b : Mark) → (Seen a → Seen b) → one_if_new b ≤ one_if_new a
new_grow a b h = grind arith

pub unseen_grow : (f g : ℕ → Mark) → Grow f g → (k : ℕ) → unseen g k ≤ unseen f k
unfolding unseen
unseen_grow f g h zero = omega arith
unseen_grow f g h (suc k) = omega (arith, unseen_grow f g h k, new_grow (f k) (g k) (h k))

pub unseen_mark_as : (u : ℕ) (m : Mark) (f : ℕ → Mark) → Seen m → f u ≡ New → (k : ℕ) → u < k → unseen (mark_as u m f) k < unseen f k
unfolding unseen
unseen_mark_as u m f t e zero h = absurd (omega arith)
unseen_mark_as u m f t e (suc k) h = elim (cases_eq k u) [
  | inl d ↦ grind (arith, unseen_grow f (mark_as u m f) (grow_mark_as u m f t) k)
  | inr d ↦ grind (arith, unseen_mark_as u m f t e k (omega arith))
]

new_most : (m : Mark) → one_if_new m ≤ 1
new_most m = search rules

pub unseen_most : (f : ℕ → Mark) (k : ℕ) → unseen f k ≤ k
unfolding unseen
unseen_most f zero = omega arith
unseen_most f (suc k) = omega (arith, unseen_most f k, new_most (f k))
