-- The values that the words of a line stand for. Assumes nothing.
--
--   dash w               the word w is `-`, which stands for none
--   optional f w         the value of w, read by f, or none told by `-`
--   no_more ws           there is no word
--   of_none c ws         c, where there are no words
--   only_word ws         the only word of ws; none where there is not just one
--   one_of f ws          the value of the only word of ws, read by f; none where it stands for none, or there is not just one
--   two_of f g ws        the values of the only two words of ws, read by f and g
--   three_of f g h ws    the values of the only three
--   of_one c f ws        what c makes of the value of the only word, read by f; of_two, of_three: of two and three words
use Rattle.std.specs.Prelude.{ℕ, Bool, true, false, cond, List, [], ◌∷◌, Some, None, codes, Option}
use Rattle.std.specs.Option.{option_and_then, option_map, option_zip}
use Rattle.std.specs.Str.{bytes_eq}

abbrev pub dash : List ℕ → Bool
dash w = bytes_eq w (codes "-")

abbrev pub optional : {A : Type 0} → (List ℕ → Option A) → List ℕ → Option (Option A)
optional f w = cond (dash w) (Some None) (option_map Some (f w))

abbrev pub no_more : List (List ℕ) → Bool
no_more [] = true
no_more (w ∷ ws) = false

abbrev pub of_none : {C : Type 0} → C → List (List ℕ) → Option C
of_none c ws = cond (no_more ws) (Some c) None

abbrev pub only_word : List (List ℕ) → Option (List ℕ)
only_word [] = None
only_word (w ∷ ws) = of_none w ws

abbrev pub one_of : {A : Type 0} → (List ℕ → Option A) → List (List ℕ) → Option A
one_of f ws = option_and_then f (only_word ws)

abbrev pub two_of : {A B : Type 0} → (List ℕ → Option A) → (List ℕ → Option B) → List (List ℕ) → Option (A × B)
two_of f g [] = None
two_of f g (w ∷ ws) = option_zip (f w) (one_of g ws)

abbrev pub three_of : {A B C : Type 0} → (List ℕ → Option A) → (List ℕ → Option B) → (List ℕ → Option C) → List (List ℕ) → Option (A × B × C)
three_of f g h [] = None
three_of f g h (w ∷ ws) = option_map (λ p. (p.0, p.1.0, p.1.1)) (option_zip (f w) (two_of g h ws))

abbrev pub of_one : {A C : Type 0} → (A → C) → (List ℕ → Option A) → List (List ℕ) → Option C
of_one c f ws = option_map c (one_of f ws)

abbrev pub of_two : {A B C : Type 0} → (A → B → C) → (List ℕ → Option A) → (List ℕ → Option B) → List (List ℕ) → Option C
of_two c f g ws = option_map (λ p. c p.0 p.1) (two_of f g ws)

abbrev pub of_three : {A B C D : Type 0} → (A → B → C → D) → (List ℕ → Option A) → (List ℕ → Option B) → (List ℕ → Option C) → List (List ℕ) → Option D
of_three c f g h ws = option_map (λ p. c p.0 p.1 p.2) (three_of f g h ws)
