-- What the running part of a walk keeps of the marks.
use Rattle.std.proofs.Common.{◌≡◌, ℕ, refl, arith, eq-eqb, inl, inr, ne_eqb}
use Rattle.std.proofs.lemmas.Bool.{cases_eq}
use Rattle.walk.specs.declared.mark.Mark.{Mark}
use Rattle.walk.specs.declared.mark.Mark.TheVariants.{New, Open, Done}
use Rattle.walk.specs.Marks.{mark_as}
use Rattle.walk.proofs.Marks.{Seen}

-- what the running part of a walk keeps: a block seen keeps its mark, and a new one is not left open
abbrev pub Steady : (ℕ → Mark) → (ℕ → Mark) → Type 0
Steady f g = (w : ℕ) → (Seen (f w) → g w ≡ f w) × (f w ≡ New → g w ≡ Open → ⊥)

pub steady_refl : (f : ℕ → Mark) → Steady f f
steady_refl f w = (λ _. refl, λ p q. cc)

steady_step : (a b c : Mark) → (Seen a → b ≡ a) × (a ≡ New → b ≡ Open → ⊥) → (Seen b → c ≡ b) × (b ≡ New → c ≡ Open → ⊥)
    → (Seen a → c ≡ a) × (a ≡ New → c ≡ Open → ⊥)
steady_step a b c x y = grind arith

pub steady_trans : (f g h : ℕ → Mark) → Steady f g → Steady g h → Steady f h
steady_trans f g h a b w = steady_step (f w) (g w) (h w) (a w) (b w)

-- u was new, is opened, and after what runs in between is done
pub steady_wrap : (u : ℕ) (f g : ℕ → Mark) → f u ≡ New → Steady (mark_as u Open f) g → Steady f (mark_as u Done g)
steady_wrap u f g e a w = elim (cases_eq w u) [
  | inl d ↦ grind (arith, eq-eqb w u d)
  | inr d ↦ grind (arith, ne_eqb w u d, a w)
]
