-- How a walk that is not refused answers, and the laws of the walk at the arguments of the public call.
use Rattle.std.proofs.Common.{◌≡◌, ℕ, List, Some, None, Ok, Err, Option, Result, sym, refl, ap, ◌∙◌, arith}
use Rattle.kinds.specs.declared.refusal.Refusal.{Refusal}
use Rattle.kinds.specs.Replies.{told}
use Rattle.graph.specs.Meaning.{Meaning, Sound}
use Rattle.walk.specs.DepthSuffices.{DepthSuffices}
use Rattle.walk.specs.NumbersOnce.{Numbered}
use Rattle.walk.specs.SpansNested.{Spans}
use Rattle.walk.specs.Walk.{Visitor, walk}
use Rattle.walk.proofs.Depth.{depth_law}
use Rattle.walk.proofs.Numbers.{numbers_law}
use Rattle.walk.proofs.Spans.{spans_law}
use Rattle.walk.proofs.Starts.{Blocks}
use Rattle.search.specs.Refused.{refused}
use Rattle.search.proofs.Refusals.{ready, below}

pub ok_value : {A : Type 0} {a b : A} → ◌≡◌ {A = Result A Refusal} (Ok a) (Ok b) → a ≡ b
ok_value {a = a} e = ap (λ r. elim r [ Ok x ↦ x | Err y ↦ a ]) e

-- what is answered has nothing against it, and the answer is its own
pub accepted : {A : Type 0} (why : Option Refusal) (x y : A) → ◌≡◌ {A = Result A Refusal} (Ok y) (told why x) → (why ≡ None) × (x ≡ y)
accepted None x y e = (refl, sym (ok_value e))
accepted (Some r) x y e = let z : ◌≡◌ {A = ℕ} 0 1 = cc in absurd (omega arith)

module _ {S B : Type 0} (V : Visitor S B) (G : Meaning) (W : Sound G) (us marks : List ℕ) (room : ℕ) (x : S) where
  blocks : refused G.size us marks room ≡ None → Blocks G us
  blocks e = below G.size us (ready G.size us marks room e).all_blocks

  pub numbers_told : refused G.size us marks room ≡ None → (o : Option B) → (walk V G us x).stop ≡ o
      → ◌≡◌ {A = Result (Option B) Refusal} (Ok o) (Ok None) → Numbered (walk V G us x).log
  numbers_told e o s h = numbers_law V G us x W (blocks e) (s ∙ ok_value h)

  pub spans_told : refused G.size us marks room ≡ None → Spans (walk V G us x).log (walk V G us x).stop
  spans_told e = spans_law V G us x W (blocks e)

  pub depth_told : refused G.size us marks room ≡ None → DepthSuffices V G us x
  depth_told e = depth_law V G W us x (blocks e)
