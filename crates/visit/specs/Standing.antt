-- Where the code of a walk stands on its way to the end that the definition gives it. Assumes nothing.
--
--   At n marks t v s         the walk's state s is what the code holds: the marks of n blocks, the next number t, the visitor v
--   AllBelow n fs            the open blocks fs are below n
--   Ended x v end            the walk ended by a Break with x, and left the visitor as v
--   Idle n marks t v s       no block is open, and the walk has come to s
--   Standing .. fs next end  the code holds a running state s with the blocks fs open, and `next` leads from s to `end`
--   Stands .. fs end         the open blocks fs are still to be read and closed
--   Opens u .. fs end        before that, u is to be opened over them
--   GoesOn .. fs end r       a block was closed or opened: the walk goes on, or ended with the answer r
use Rattle.std.specs.Prelude.{◌≡◌, ℕ, ◌+◌, ◌-◌, ◌*◌, ◌<◌, ◌≤◌, List, [], ◌∷◌, length, Some, None, Option}
use Rattle.graph.specs.Meaning.{Meaning}
use Rattle.walk.specs.Marks.{Holds, unseen}
use Rattle.walk.specs.OpenBlocks.{OpenBlock, unwind}
use Rattle.walk.specs.Walk.{Visitor, State, opening}

pub record At {S B : Type 0} (n : ℕ) (marks : List ℕ) (t : ℕ) (v : S) (s : State S B) : Type 0 where
  pub long : n ≤ length marks
  pub holds : Holds marks s.mark n
  pub time_is : s.time ≡ t
  pub visitor_is : s.visitor ≡ v

abbrev pub AllBelow : ℕ → List OpenBlock → Type 0
AllBelow n [] = Unit {0}
AllBelow n (f ∷ fs) = (f.block < n) × AllBelow n fs

abbrev pub Ended : {S B : Type 0} → B → S → State S B → Type 0
Ended x v end = (end.stop ≡ Some x) × (end.visitor ≡ v)

pub record Idle {S B : Type 0} (n : ℕ) (marks : List ℕ) (t : ℕ) (v : S) (s : State S B) : Type 0 where
  pub at : At n marks t v s
  pub running : s.stop ≡ None
  pub clock : t + 2 * unseen s.mark n ≤ 2 * n

module _ {S B : Type 0} (V : Visitor S B) (G : Meaning) where
  pub record Standing (marks : List ℕ) (t : ℕ) (v : S) (fs : List OpenBlock) (next : State S B → State S B) (end : State S B) : Type 0 where
    pub s : State S B
    pub at : At G.size marks t v s
    pub running : s.stop ≡ None
    pub blocks : AllBelow G.size fs
    -- open and new blocks together are at most the blocks
    pub room : length fs + unseen s.mark G.size ≤ G.size
    -- a new block takes two numbers, an open one takes one
    pub clock : t + 2 * unseen s.mark G.size + length fs ≤ 2 * G.size
    pub leads : next s ≡ end

  abbrev pub Stands : List ℕ → ℕ → S → List OpenBlock → State S B → Type 0
  Stands marks t v fs end = Standing marks t v fs (unwind V G fs) end

  abbrev pub Opens : ℕ → List ℕ → ℕ → S → List OpenBlock → State S B → Type 0
  Opens u marks t v fs end = Standing marks t v fs (λ s. unwind V G fs (opening V G (G.size - length fs) u s)) end

  abbrev pub GoesOn : List ℕ → ℕ → S → List OpenBlock → State S B → Option B → Type 0
  GoesOn marks t v fs end None = Stands marks t v fs end
  GoesOn marks t v fs end (Some x) = Ended x v end
