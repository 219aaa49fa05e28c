-- A call that changes the blocks alone follows the book.
use Rattle.std.proofs.Common.{◌≡◌, ℕ, Some, None, Err, Option, Result, refl, ap, ◌∙◌, arith}
use Rattle.block_builder.specs.BlockState.{BlockState, Performs}
use Rattle.book.specs.Book.{Book, with_blocks}
use Rattle.kinds.specs.Replies.{after, told}
use Rattle.kinds.specs.declared.refusal.Refusal.{Refusal}

spread : (k : Book) (o : Option Refusal) (s : BlockState) → with_blocks (after o k.blocks s) k ≡ after o k (with_blocks s k)
spread k None s = refl
spread k (Some r) s = refl

pub record Forwarded {A : Type 0} (k : Book) (why : Option Refusal) (done t : BlockState) (reply : A) (r : Result A Refusal) : Type 0 where
  pub book : with_blocks t k ≡ after why k (with_blocks done k)
  pub answer : r ≡ told why reply

pub forwarded : {A : Type 0} (k : Book) (why : BlockState → Option Refusal) (done : BlockState → BlockState) (reply : BlockState → A)
    (t : BlockState) (r : Result A Refusal) → Performs why done reply k.blocks t r → Forwarded k (why k.blocks) (done k.blocks) t (reply k.blocks) r
forwarded k why done reply t r p = record {
  book = ap (λ s. with_blocks s k) p.state ∙ spread k (why k.blocks) (done k.blocks);
  answer = p.answer;
}

-- a call that is refused leaves the book, whatever an accepted one would do
pub refused : {A : Type 0} (why : Option Refusal) (x : A) (e : Refusal) (k t done other : Book) → Err e ≡ told why x → t ≡ after why k done
    → t ≡ after why k other
refused None x e k t done other r h = absurd (let z : ◌≡◌ {A = ℕ} 0 1 = cc in omega arith)
refused (Some y) x e k t done other r h = h
