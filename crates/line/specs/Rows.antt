-- Tables of the names that a script can write, of calls and of kinds. Assumes nothing.
--
--   Row C            a name, and the call or kind of type C that it makes, if it makes one
--   named w x        the row of the name w that makes x
--   chosen w rows    what the first row makes whose name is w; none where no row has it
use Rattle.std.specs.Prelude.{ℕ, cond, List, [], ◌∷◌, None, Option}
use Rattle.std.specs.Str.{bytes_eq}

pub record Row (C : Type 0) : Type 0 where
  pub name : List ℕ
  pub makes : Option C

abbrev pub named : {C : Type 0} → List ℕ → Option C → Row C
named w x = record { name = w; makes = x }

abbrev pub chosen : {C : Type 0} → List ℕ → List (Row C) → Option C
chosen w [] = None
chosen w (r ∷ rows) = cond (bytes_eq w r.name) r.makes (chosen w rows)
