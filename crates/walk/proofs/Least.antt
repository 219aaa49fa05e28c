-- Where a way leads, a fewest number of steps leads.
use Rattle.std.proofs.Common.{ℕ, zero, suc, ◌≤◌, ◌⊎◌, ◌≡◌, List, [], ◌∷◌, refl, inl, inr, arith}
use Rattle.std.proofs.lemmas.Bool.{cases_eq}
use Rattle.graph.specs.Meaning.{Member}
use Rattle.walk.specs.Ways.{Way, here, on, Distance}

module _ (P : ℕ → Type 0) (d : (k : ℕ) → Dec (P k)) where
  -- the least is below k, or there is none there
  below : (k : ℕ) → ((m : ℕ) × P m × ((j : ℕ) → P j → m ≤ j)) ⊎ ((j : ℕ) → P j → k ≤ j)
  below zero = inr (λ j p. omega arith)
  below (suc k) = elim (below k) [
    | inl h ↦ inl h
    | inr a ↦ elim (d k) [
      | yes p ↦ inl (k, p, a)
      | no n ↦ inr (λ j p. let l = a j p in let e : k ≡ j → ⊥ = λ e. n (rw e p) in omega (arith, e))
    ]
  ]

  least : (k : ℕ) → P k → (m : ℕ) × P m × ((j : ℕ) → P j → m ≤ j)
  least k p = elim (below (suc k)) [ inl h ↦ h | inr a ↦ absurd (let l = a k p in omega arith) ]

-- whether some number of the list is so
any? : (P : ℕ → Type 0) (vs : List ℕ) → ((v : ℕ) → Member v vs → Dec (P v)) → Dec ((x : ℕ) × Member x vs × P x)
any? P [] d = no (λ h. absurd h.1)
any? P (v ∷ vs) d = elim (d v (inl refl)) [
  | yes p ↦ yes (v, inl refl, p)
  | no n ↦ elim (any? P vs (λ w j. d w (inr j))) [
    | yes h ↦ yes (h.0, inr h.1, h.2)
    | no r ↦ no (λ h. elim h.1 [ inl e ↦ n (rw (← e) h.2) | inr j ↦ r (h.0, j, h.2) ])
  ]
]

module _ (out : ℕ → List ℕ) (step : ℕ → ℕ → Type 0) (listed : (a b : ℕ) → step a b → Member b (out a))
    (dec : (a b : ℕ) → Member b (out a) → Dec (step a b)) where
  first : {a k b : ℕ} → Way step a (suc k) b → (x : ℕ) × Member x (out a) × (step a x × Way step x k b)
  first (on {u = a} {v = x} s w) = (x, listed a x s, (s, w))

  end : {a b : ℕ} → Way step a zero b → a ≡ b
  end here = refl

  way? : (k a b : ℕ) → Dec (Way step a k b)
  way? zero a b = elim (cases_eq a b) [ inl e ↦ yes (rw e here) | inr n ↦ no (λ w. n (end w)) ]
  way? (suc k) a b =
      elim (any? (λ x. step a x × Way step x k b) (out a) (λ x i. both (dec a x i) (way? k x b)))
      [ yes h ↦ yes (on h.2.0 h.2.1) | no n ↦ no (λ w. n (first w)) ]
    where
      both : {A C : Type 0} → Dec A → Dec C → Dec (A × C)
      both (yes p) (yes q) = yes (p, q)
      both (yes p) (no r) = no (λ h. r h.1)
      both (no r) q = no (λ h. r h.0)

  pub distance : (a b k : ℕ) → Way step a k b → (d : ℕ) × Distance step a b d
  distance a b k w = let l = least (λ j. Way step a j b) (λ j. way? j a b) k w in (l.0, record { way = l.1; fewest = l.2 })
