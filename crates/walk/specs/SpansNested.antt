-- The law of the spans: two are nested or apart, and nested exactly where tree edges lead down. Assumes nothing.
--
--   Inside d f e g     the span from d to f has that from e to g inside
--   Nesting            how the spans of two different blocks x and y lie
--   Spans l stop       the law, for the log l of a walk that ended with `stop`
use Rattle.std.specs.Prelude.{◌≡◌, ℕ, ◌<◌, ◌≢◌, ◌⊎◌, ◌↔◌, List, None, Option}
use Rattle.walk.specs.Spans.{Discovered, Leads, Span}
use Rattle.walk.specs.Walk.{Report}

abbrev pub Inside : ℕ → ℕ → ℕ → ℕ → Type 0
Inside d f e g = (d < e) × (g < f)

pub record Nesting {B : Type 0} (l : List (Report B)) (x d f y e g : ℕ) : Type 0 where
  pub nested_or_apart : Inside d f e g ⊎ (Inside e g d f ⊎ ((f < e) ⊎ (g < d)))
  pub inside : Inside d f e g ↔ Leads l x y

pub record Spans {B : Type 0} (l : List (Report B)) (stop : Option B) : Type 0 where
  -- a block is discovered before it is finished
  pub forward : (x d f : ℕ) → Span l x d f → d < f
  -- a block has one span at most
  pub one : (x d f e g : ℕ) → Span l x d f → Span l x e g → (d ≡ e) × (f ≡ g)
  -- without a Break every block discovered has one
  pub whole : stop ≡ None → (x d : ℕ) → Discovered l x d → (f : ℕ) × Span l x d f
  pub nesting : (x d f y e g : ℕ) → Span l x d f → Span l y e g → x ≢ y → Nesting l x d f y e g
