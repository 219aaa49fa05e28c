-- What holds where a walk is not refused, and marks that were clean.
use Rattle.std.proofs.Common.{◌≡◌, ℕ, ◌<◌, ◌≤◌, Bool, true, false, not, eqb, ltb, List, [], ◌∷◌, length, get_or, take, replicate, Some, None, Option, refl, ap, ◌∙◌, arith, length-take, ltb-false, ltb-true, eqb-true}
use borrow.Author.Tests.{not-false}
use Rattle.kinds.specs.declared.refusal.Refusal.{Refusal}
use Rattle.kinds.specs.declared.refusal.Refusal.TheVariants.{NoBlock, Short, Dirty}
use Rattle.kinds.specs.Replies.{row}
use Rattle.graph.specs.Meaning.{Member}
use Rattle.search.specs.Refused.{no_block, dirty, refused}
use Rattle.search.proofs.Any.{none_first, none_of, none_at}

-- nothing stands against the walk
pub record Ready (n : ℕ) (us marks : List ℕ) (room : ℕ) : Type 0 where
  pub all_blocks : no_block n us ≡ false
  pub marks_long : n ≤ length marks
  pub room_long : n ≤ room
  pub all_clean : dirty (take n marks) ≡ false

some_none : (e : Refusal) → Some e ≡ None → ⊥
some_none e h = let z : ◌≡◌ {A = ℕ} 0 1 = cc in omega arith

abbrev rows : Bool → Bool → Bool → Bool → Option Refusal
rows a b c d = row a NoBlock (row b Short (row c Short (row d Dirty None)))

no_row : (a b c d : Bool) → rows a b c d ≡ None → (a ≡ false) × (b ≡ false) × (c ≡ false) × (d ≡ false)
no_row true b c d e = absurd (some_none NoBlock e)
no_row false true c d e = absurd (some_none Short e)
no_row false false true d e = absurd (some_none Short e)
no_row false false false true e = absurd (some_none Dirty e)
no_row false false false false e = (refl, refl, refl, refl)

pub ready : (n : ℕ) (us marks : List ℕ) (room : ℕ) → refused n us marks room ≡ None → Ready n us marks room
ready n us marks room e =
    let p = no_row (no_block n us) (ltb (length marks) n) (ltb room n) (dirty (take n marks)) e in
    record { all_blocks = p.0; marks_long = ltb-false (length marks) n p.1; room_long = ltb-false room n p.2; all_clean = p.3 }

-- every start is a block
pub below : (n : ℕ) (us : List ℕ) → no_block n us ≡ false → (u : ℕ) → Member u us → u < n
below n us e u m = ltb-true u n (not-false (ltb u n) (none_of (λ u. not (ltb u n)) us e u m))

pub block_at : (n : ℕ) (us : List ℕ) (i : ℕ) → no_block n us ≡ false → i < length us → get_or us i 0 < n
block_at n us i e h = ltb-true (get_or us i 0) n (not-false (ltb (get_or us i 0) n) (none_at (λ u. not (ltb u n)) us e i h))

zeros : (xs : List ℕ) → dirty xs ≡ false → xs ≡ replicate (length xs) 0
zeros [] e = refl
zeros (x ∷ xs) e =
    let p = none_first (λ m. not (eqb m 0)) x xs e in
    ap (λ k. k ∷ xs) (eqb-true x 0 (not-false (eqb x 0) p.0)) ∙ ap (λ k. 0 ∷ k) (zeros xs p.1)

-- clean marks are 0
pub clean_zeros : (n : ℕ) (marks : List ℕ) → n ≤ length marks → dirty (take n marks) ≡ false → take n marks ≡ replicate n 0
clean_zeros n marks long clean =
    let e : length (take n marks) ≡ n = (let l = length-take n marks in omega arith) in
    zeros (take n marks) clean ∙ ap (λ j. replicate j 0) e
