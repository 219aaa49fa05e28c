-- The instructions of a block, one table row at a time.
use Rattle.std.proofs.Common.{◌≡◌, ℕ, ◌+◌, ◌<◌, ◌≤◌, ◌==◌, cond, List, ◌∷◌, length, map, filter, get_or, drop, None, sym, ap, ◌∙◌, add-one, drop-cons}
use Rattle.std.specs.List.{slice_get}
use Rattle.std.proofs.lemmas.List.{drop_all}
use Rattle.std.proofs.lemmas.Bool.{eq-eqb, ne_eqb}
use Rattle.blocks.specs.Blocks.{instructions_in}
use Rattle.blocks.specs.declared.basic_block.BlockInstruction.{BlockInstruction}

module _ (xs : List BlockInstruction) (i b : ℕ) (d : BlockInstruction) (lt : i < length xs) where
  row : drop i xs ≡ get_or xs i d ∷ drop (i + 1) xs
  row = drop-cons xs i d lt ∙ ap (λ k. get_or xs i d ∷ drop k xs) (sym (add-one i))

  rest : List BlockInstruction
  rest = filter (λ y. y.block == b) (drop (i + 1) xs)

  pub row_here : (get_or xs i d).block ≡ b → instructions_in b (drop i xs) ≡ (get_or xs i d).instruction ∷ instructions_in b (drop (i + 1) xs)
  unfolding rest
  row_here e =
      ap (instructions_in b) row
      ∙ ap (λ t. map (λ y. y.instruction) (cond t (get_or xs i d ∷ rest) rest)) (eq-eqb (get_or xs i d).block b e)

  pub row_elsewhere : ((get_or xs i d).block ≡ b → ⊥) → instructions_in b (drop i xs) ≡ instructions_in b (drop (i + 1) xs)
  unfolding rest
  row_elsewhere n =
      ap (instructions_in b) row
      ∙ ap (λ t. map (λ y. y.instruction) (cond t (get_or xs i d ∷ rest) rest)) (ne_eqb (get_or xs i d).block b n)

pub none_left : (xs : List BlockInstruction) (i b k : ℕ) → length xs ≤ i → slice_get (instructions_in b (drop i xs)) k ≡ None
none_left xs i b k le = ap (λ l. slice_get (instructions_in b l) k) (drop_all i xs le)
