-- Boards of bytes: what a byte says of a mark, and what one write does.
use Rattle.std.proofs.Common.{◌≡◌, ℕ, ◌<◌, ◌≤◌, List, length, set, inl, inr, arith, rules, eq-eqb, ne_eqb, get_or-set_other, get_or-set_same}
use Rattle.std.proofs.lemmas.Bool.{cases_eq}
use Rattle.walk.specs.declared.mark.Mark.{Mark}
use Rattle.walk.specs.Marks.{mark_as, byte_of, Holds, mark_of}

mark_of_byte : (m : Mark) → mark_of (byte_of m) ≡ m
mark_of_byte m = search rules

pub holds_set : (bs : List ℕ) (f : ℕ → Mark) (n u : ℕ) (m : Mark) → n ≤ length bs → u < n → Holds bs f n
    → Holds (set bs u (byte_of m)) (mark_as u m f) n
holds_set bs f n u m l i h k j = elim (cases_eq k u) [
  | inl e ↦ let inside : u < length bs = omega arith in rw (eq-eqb k u e, e, get_or-set_same bs u (byte_of m) 0 inside) (mark_of_byte m)
  | inr d ↦ rw (ne_eqb k u d, get_or-set_other bs u k (byte_of m) 0 d) (h k j)
]
