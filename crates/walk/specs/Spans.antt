-- The spans of a walk, each from a block's discovery number to its finish number. Assumes nothing.
--
--   Discovers x d e    the event e is Discover(x, d)
--   Finishes x f e     the event e is Finish(x, f)
--   Continued c        the reply c is Continue
--   Descends a b e c   the event e is TreeEdge(a, b), and the reply c to it is Continue
--   Discovered, Finished, Tree   some event of the log, with its reply, is such a one
--   Leads l x y        unpruned tree edges of the log l lead down from x to y
--   Span l x d f       x has the discovery number d and the finish number f
use Rattle.std.specs.Prelude.{◌≡◌, ℕ, suc, ◌⊎◌, List, [], ◌∷◌}
use Rattle.walk.specs.declared.event.Control.{Control}
use Rattle.walk.specs.declared.event.Control.TheVariants.{Continue, Prune, Break}
use Rattle.walk.specs.declared.event.DfsEvent.{DfsEvent}
use Rattle.walk.specs.declared.event.DfsEvent.TheVariants.{Discover, TreeEdge, BackEdge, CrossForwardEdge, Finish}
use Rattle.walk.specs.Walk.{Report}
use Rattle.walk.specs.Ways.{Way}

abbrev pub Discovers : ℕ → ℕ → DfsEvent → Type 0
Discovers x d (Discover u t) = (x ≡ u) × (d ≡ t)
Discovers x d (TreeEdge u v) = ⊥
Discovers x d (BackEdge u v) = ⊥
Discovers x d (CrossForwardEdge u v) = ⊥
Discovers x d (Finish u t) = ⊥

abbrev pub Finishes : ℕ → ℕ → DfsEvent → Type 0
Finishes x f (Discover u t) = ⊥
Finishes x f (TreeEdge u v) = ⊥
Finishes x f (BackEdge u v) = ⊥
Finishes x f (CrossForwardEdge u v) = ⊥
Finishes x f (Finish u t) = (x ≡ u) × (f ≡ t)

abbrev pub Continued : {B : Type 0} → Control B → Type 0
Continued Continue = Unit {0}
Continued Prune = ⊥
Continued (Break b) = ⊥

abbrev pub Descends : {B : Type 0} → ℕ → ℕ → DfsEvent → Control B → Type 0
Descends a b (Discover u t) c = ⊥
Descends a b (TreeEdge u v) c = (a ≡ u) × (b ≡ v) × Continued c
Descends a b (BackEdge u v) c = ⊥
Descends a b (CrossForwardEdge u v) c = ⊥
Descends a b (Finish u t) c = ⊥

abbrev pub Discovered : {B : Type 0} → List (Report B) → ℕ → ℕ → Type 0
Discovered [] x d = ⊥
Discovered (h ∷ l) x d = Discovers x d h.event ⊎ Discovered l x d

abbrev pub Finished : {B : Type 0} → List (Report B) → ℕ → ℕ → Type 0
Finished [] x f = ⊥
Finished (h ∷ l) x f = Finishes x f h.event ⊎ Finished l x f

abbrev pub Tree : {B : Type 0} → List (Report B) → ℕ → ℕ → Type 0
Tree [] a b = ⊥
Tree (h ∷ l) a b = Descends a b h.event h.reply ⊎ Tree l a b

abbrev pub Leads : {B : Type 0} → List (Report B) → ℕ → ℕ → Type 0
Leads l x y = (k : ℕ) × Way (Tree l) x (suc k) y

pub record Span {B : Type 0} (l : List (Report B)) (x d f : ℕ) : Type 0 where
  pub from : Discovered l x d
  pub upto : Finished l x f
