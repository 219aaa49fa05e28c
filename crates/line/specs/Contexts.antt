-- The labels and flags that words write. Assumes nothing.
--
--   label_of w          the label whose offset and length stand before and after the colon of w
--   with_flag f w       the flags f with the one named w set
--   flags_named f ws    the flags f with all those named by ws set, where each of ws is a name
--   flags_of w          the flags whose names stand between the plus signs of w; none where w is `-`
use Rattle.std.specs.Prelude.{ℕ, true, cond, List, [], ◌∷◌, Some, codes, Option}
use Rattle.std.specs.Option.{option_and_then, option_map}
use Rattle.kinds.specs.Flags.{no_flags}
use Rattle.kinds.specs.declared.context.CtxFlags.{CtxFlags}
use Rattle.kinds.specs.declared.context.Label.{Label}
use Rattle.line.specs.Arguments.{dash, two_of}
use Rattle.line.specs.Numbers.{number_of}
use Rattle.line.specs.Rows.{Row, named, chosen}
use Rattle.line.specs.Words.{parts}

abbrev pub label_of : List ℕ → Option Label
label_of w = option_map (λ p. record { offset = p.0; length = p.1 }) (two_of number_of number_of (parts 58 w))

abbrev pub flag_names : CtxFlags → List (Row CtxFlags)
flag_names f =
    named (codes "function") (Some (record { function = true; breaks = f.breaks; continues = f.continues }))
    ∷ named (codes "break") (Some (record { function = f.function; breaks = true; continues = f.continues }))
    ∷ named (codes "continue") (Some (record { function = f.function; breaks = f.breaks; continues = true }))
    ∷ []

abbrev pub with_flag : CtxFlags → List ℕ → Option CtxFlags
with_flag f w = chosen w (flag_names f)

abbrev pub flags_named : CtxFlags → List (List ℕ) → Option CtxFlags
flags_named f [] = Some f
flags_named f (w ∷ ws) = option_and_then (λ g. flags_named g ws) (with_flag f w)

abbrev pub flags_of : List ℕ → Option CtxFlags
flags_of w = cond (dash w) (Some no_flags) (flags_named no_flags (parts 43 w))
