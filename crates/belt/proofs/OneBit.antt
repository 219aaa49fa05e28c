-- An edit changes one bit, and the plan says so.
use Rattle.std.proofs.Common.{◌≡◌, ℕ, ◌<◌, Bool, true, false, cond, ◌&&◌, eqb, ltb, ◌≢◌, ◌⊎◌, length, get_or, set, sym, refl, ap, ◌∙◌, subst, inl, inr, arith}
use Rattle.std.proofs.lemmas.List.{get_or-set_same, get_or-set_other}
use Rattle.std.proofs.lemmas.Bool.{cases_eq, lt-ltb}
use Rattle.belt.specs.declared.plan.BeltPlan.{BeltPlan}
use Rattle.belt.specs.Words.{bit, put}
use Rattle.belt.specs.Plan.{has, transfer, row_of}
use Rattle.belt.specs.Edits.{with_transfer, TransferIs, LockIs}
use Rattle.belt.proofs.Bits.{bit_same, bit_other}

digit_test : (v : Bool) → eqb (cond v 1 0) 1 ≡ v
digit_test true = refl
digit_test false = refl

has_same : (b : ℕ) (v : Bool) (p : ℕ) → b < 64 → has b (put b v p) ≡ v
has_same b v p h =
    ap (λ t. t && eqb (bit b (put b v p)) 1) (lt-ltb b 64 h) ∙ ap (λ k. eqb k 1) (bit_same b v p) ∙ digit_test v

has_other : (b : ℕ) (v : Bool) (p c : ℕ) → c ≢ b → has c (put b v p) ≡ has c p
has_other b v p c d = ap (λ k. ltb c 64 && eqb k 1) (bit_other b v p c d)

module _ (plan : BeltPlan) (a b : ℕ) (v : Bool) (from : a < 64) (to : b < 64) (full : length plan.rows ≡ 64) where
  row_same : row_of (with_transfer a b v plan) a ≡ put b v (get_or plan.rows a 0)
  row_same =
      let lt : a < length plan.rows = omega arith in
      ap (λ t. cond t (get_or (with_transfer a b v plan).rows a 0) 0) (lt-ltb a 64 from)
      ∙ get_or-set_same plan.rows a (put b v (get_or plan.rows a 0)) 0 lt

  row_here : row_of plan a ≡ get_or plan.rows a 0
  row_here = ap (λ t. cond t (get_or plan.rows a 0) 0) (lt-ltb a 64 from)

  row_other : (x : ℕ) → x ≢ a → row_of (with_transfer a b v plan) x ≡ row_of plan x
  row_other x d = ap (λ k. cond (ltb x 64) k 0) (get_or-set_other plan.rows a x (put b v (get_or plan.rows a 0)) 0 d)

  other : (x y : ℕ) → (x ≡ a → y ≡ b → ⊥) → (x ≡ a) ⊎ (x ≢ a)
      → transfer (with_transfer a b v plan) x y ≡ transfer plan x y
  other x y d (inl e) =
      ap (λ k. has y (row_of (with_transfer a b v plan) k)) e
      ∙ ap (has y) row_same
      ∙ has_other b v (get_or plan.rows a 0) y (d e)
      ∙ ap (has y) (sym row_here)
      ∙ ap (λ k. has y (row_of plan k)) (sym e)
  other x y d (inr n) = ap (has y) (row_other x n)

  pub transfer_is : (row : ℕ) → row ≡ put b v (get_or plan.rows a 0) → TransferIs v a b plan (record { rows = set plan.rows a row; locked = plan.locked })
  transfer_is row e = subst (λ r. TransferIs v a b plan (record { rows = set plan.rows a r; locked = plan.locked })) (sym e) (record {
    there = ap (has b) row_same ∙ has_same b v (get_or plan.rows a 0) to;
    others = λ x y d. other x y d (cases_eq x a);
    locks = λ s. refl;
  })

pub lock_is : (plan : BeltPlan) (s : ℕ) (v : Bool) (word : ℕ) → s < 64 → word ≡ put s v plan.locked
    → LockIs v s plan (record { rows = plan.rows; locked = word })
lock_is plan s v word h e = record {
  there = ap (has s) e ∙ has_same s v plan.locked h;
  others = λ x d. ap (has x) e ∙ has_other s v plan.locked x d;
  transfers = λ x y. refl;
}
