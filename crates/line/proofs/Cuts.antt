-- A text is cut at its first separator.
use Rattle.std.proofs.Common.{◌≡◌, ℕ, suc, ◌<◌, cond, List, [], ◌∷◌, ◌++◌, length, get_or, Option, Some, None, Bor, refl, ap, ◌∙◌, subst, arith}
use Rattle.std.proofs.lemmas.Bool.{eq-eqb, ne_eqb}
use Rattle.std.proofs.lemmas.Str.Pattern.{IsSplitOnceResult, split_parts}
use Rattle.std.specs.Option.{option_map_or}
use Rattle.line.specs.declared.separator.Separator.{Separator}
use Rattle.line.specs.declared.separator.Separator.TheVariants.{Blank, Comma, Plus, Colon}
use Rattle.line.specs.Separators.{byte_of}
use Rattle.line.specs.Words.{onto, parts}

module _ (s : ℕ) where
  abbrev pub Lacks : List ℕ → Type 0
  Lacks xs = (i : ℕ) → i < length xs → get_or xs i 0 ≡ s → ⊥

  step : (x : ℕ) (xs zs : List ℕ) → Lacks (x ∷ xs) → parts s (x ∷ zs) ≡ onto x (parts s zs)
  step x xs zs h = ap (λ t. cond t ([] ∷ parts s zs) (onto x (parts s zs))) (ne_eqb x s (h 0 (omega arith)))

  rest : (x : ℕ) (xs : List ℕ) → Lacks (x ∷ xs) → Lacks xs
  rest x xs h i l e = h (suc i) (omega arith) e

  pub parts_only : (xs : List ℕ) → Lacks xs → parts s xs ≡ xs ∷ []
  parts_only [] h = refl
  parts_only (x ∷ xs) h = step x xs xs h ∙ ap (onto x) (parts_only xs (rest x xs h))

  pub parts_first : (xs ys : List ℕ) → Lacks xs → parts s (xs ++ (s ∷ ys)) ≡ xs ∷ parts s ys
  parts_first [] ys h = ap (λ t. cond t ([] ∷ parts s ys) (onto s (parts s ys))) (eq-eqb s s refl)
  parts_first (x ∷ xs) ys h = step x xs (xs ++ (s ∷ ys)) h ∙ ap (onto x) (parts_first xs ys (rest x xs h))

-- a separator is ASCII
byte_low : (s : Separator) → byte_of s < 128
byte_low Blank = omega arith
byte_low Comma = omega arith
byte_low Plus = omega arith
byte_low Colon = omega arith

-- what a cut at the first separator finds: the first part and the rest, or the only part
pub cut_once : (b : Separator) (s : ℕ) (text : List ℕ) (found : Option (Bor (List ℕ) × Bor (List ℕ)))
    → s ≡ byte_of b
    → IsSplitOnceResult s text found
    → parts (byte_of b) text ≡ option_map_or (λ p. p.0.now ∷ parts (byte_of b) p.1.now) found (text ∷ [])
cut_once b s text found is h = by found (subst (λ k. IsSplitOnceResult k text found) is h)
  where
    by : (r : Option (Bor (List ℕ) × Bor (List ℕ))) → IsSplitOnceResult (byte_of b) text r
        → parts (byte_of b) text ≡ option_map_or (λ p. p.0.now ∷ parts (byte_of b) p.1.now) r (text ∷ [])
    by None c = parts_only (byte_of b) text (split_parts (byte_of b) text None c (byte_low b))
    by (Some p) c =
        let parted = split_parts (byte_of b) text (Some p) c (byte_low b) in
        ap (parts (byte_of b)) parted.0 ∙ parts_first (byte_of b) p.0.now p.1.now parted.1
