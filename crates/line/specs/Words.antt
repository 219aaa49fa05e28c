-- The words of a line. Assumes nothing.
--
--   parts c text   what stands before, between and after the bytes c of the text, in order; two of them together have the empty part between them
--   words line     the parts of the line at its blanks
use Rattle.std.specs.Prelude.{ℕ, cond, List, [], ◌∷◌, ◌==◌}

-- the byte c at the front of the first word
abbrev pub onto : ℕ → List (List ℕ) → List (List ℕ)
onto c [] = (c ∷ []) ∷ []
onto c (w ∷ ws) = (c ∷ w) ∷ ws

abbrev pub parts : ℕ → List ℕ → List (List ℕ)
parts s [] = [] ∷ []
parts s (c ∷ cs) = cond (c == s) ([] ∷ parts s cs) (onto c (parts s cs))

abbrev pub words : List ℕ → List (List ℕ)
words line = parts 32 line
