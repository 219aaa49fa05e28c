-- What a stack of contexts stands for, and what a change of one context leaves. Assumes nothing.
--
--   contexts_of s             the open contexts, the topmost first
--   Changed old new cs n b    the contexts are cs after the change, over the same text; n entries more wait, and each block that is named was
--                             named before or is below b
use Rattle.std.specs.Prelude.{◌≡◌, ℕ, ◌+◌, ◌≤◌, max, List, reverse, vec_items}
use Rattle.blocks.specs.Highest.{highest}
use Rattle.contexts.specs.Contexts.{Context, waiting_count, block_bound}
use Rattle.contexts.specs.Tables.{contexts_in}
use Rattle.contexts.specs.declared.ctx_stack.CtxStack.{CtxStack}

abbrev pub contexts_of : CtxStack → List Context
contexts_of s = contexts_in (reverse (vec_items s.stack)) (vec_items s.waiting)

pub record Changed (old new : CtxStack) (cs : List Context) (n b : ℕ) : Type 0 where
  pub text : new.text ≡ old.text
  pub contexts : contexts_of new ≡ cs
  pub waiting : waiting_count (contexts_of new) ≡ waiting_count (contexts_of old) + n
  pub blocks : highest block_bound (contexts_of new) ≤ max (highest block_bound (contexts_of old)) b
