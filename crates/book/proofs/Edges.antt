-- Edges that are added: which numbers are Jump edges, and that an edge stays where it is.
use Rattle.std.proofs.Common.{◌≡◌, ℕ, zero, suc, ◌+◌, ◌≤◌, false, cond, eqb, List, [], ◌∷◌, ◌++◌, length, Some, None, Option, refl, ◌∙◌, arith, rules}
use lib.Dec.{eqb-zero-suc, eqb-suc-zero, eqb-suc-suc}
use Rattle.std.specs.List.{slice_get}
use Rattle.block_builder.specs.BlockState as state
use Rattle.block_builder.specs.BlockState.{BlockState, block_count, last_of}
use Rattle.block_builder.specs.declared.harness.ErrorHarness.{ErrorHarness}
use Rattle.blocks.specs.Blocks.{GraphState}
use Rattle.book.specs.LawOfCounts.{jump_at, EdgeStands, EdgesStand}
use Rattle.book.specs.Ledger.{Fate, Unfiled, Waiting, Drawn, Untargeted, Given, is_jump}
use Rattle.kinds.specs.declared.block.InstructionKind.{InstructionKind}
use Rattle.kinds.specs.declared.edge.Edge.{Edge}
use Rattle.kinds.specs.declared.edge.EdgeType.TheVariants as edge

pub jump_at_push : (es : List Edge) (e : Edge) (x : ℕ)
    → jump_at (es ++ e ∷ []) x ≡ jump_at es x + cond (is_jump e.kind) (cond (eqb x (length es)) 1 0) 0
jump_at_push [] e zero = grind arith
jump_at_push [] e (suc x) = grind (arith, eqb-suc-zero x)
jump_at_push (a ∷ es) e zero = grind (arith, eqb-zero-suc (length es))
jump_at_push (a ∷ es) e (suc x) = rw (eqb-suc-suc x (length es)) (jump_at_push es e x)

pub jump_at_one : (es : List Edge) (x : ℕ) → jump_at es x ≤ 1
jump_at_one [] x = omega arith
jump_at_one (e ∷ es) zero = search rules
jump_at_one (e ∷ es) (suc x) = jump_at_one es x

pub edge_at_more : (es ys : List Edge) (x : ℕ) (e : Edge) → slice_get es x ≡ Some e → slice_get (es ++ ys) x ≡ Some e
edge_at_more [] ys x e h = absurd cc
edge_at_more (a ∷ es) ys zero e h = h
edge_at_more (a ∷ es) ys (suc x) e h = edge_at_more es ys x e h

pub edge_at_here : (es : List Edge) (e : Edge) → slice_get (es ++ e ∷ []) (length es) ≡ Some e
edge_at_here [] e = refl
edge_at_here (a ∷ es) e = edge_at_here es e

-- edges stay where they are
abbrev pub Stay : List Edge → List Edge → Type 0
Stay es fs = (x : ℕ) (e : Edge) → slice_get es x ≡ Some e → slice_get fs x ≡ Some e

pub edge_stays : (es fs : List Edge) (b : ℕ) (f : Fate) → Stay es fs → EdgeStands es b f → EdgeStands fs b f
edge_stays es fs b Unfiled s h = tt
edge_stays es fs b (Waiting i) s h = tt
edge_stays es fs b (Drawn x t) s h = s x _ h
edge_stays es fs b Untargeted s h = tt

pub edges_stay : (es fs : List Edge) (gs : List Given) → Stay es fs → EdgesStand es gs → EdgesStand fs gs
edges_stay es fs [] s h = tt
edges_stay es fs (g ∷ gs) s h = (edge_stays es fs g.block g.fate s h.0, edges_stay es fs gs s h.1)

-- edges that are added with no Jump edge among them
pub record NoJumps (es fs : List Edge) : Type 0 where
  pub stay : Stay es fs
  pub jumps : (x : ℕ) → jump_at fs x ≡ jump_at es x

pub no_jumps_same : (es : List Edge) → NoJumps es es
no_jumps_same es = record { stay = λ x e h. h; jumps = λ x. refl }

pub no_jumps_then : (es fs gs : List Edge) → NoJumps es fs → NoJumps fs gs → NoJumps es gs
no_jumps_then es fs gs p q = record { stay = λ x e h. q.stay x e (p.stay x e h); jumps = λ x. q.jumps x ∙ p.jumps x }

pub no_jumps_push : (es : List Edge) (e : Edge) → is_jump e.kind ≡ false → NoJumps es (es ++ e ∷ [])
no_jumps_push es e h = record { stay = λ x f g. edge_at_more es (e ∷ []) x f g; jumps = λ x. grind (arith, jump_at_push es e x, h) }

no_jumps_finalize : (n : ℕ) (f : Option ℕ) (g : GraphState) → NoJumps g.edges (state.finalize_added n f g).edges
no_jumps_finalize n None g = no_jumps_same g.edges
no_jumps_finalize n (Some f) g = no_jumps_push g.edges (record { source = n; target = f; kind = edge.Finalize }) refl

no_jumps_block : (h : ErrorHarness) (f : Option ℕ) (d : BlockState) → NoJumps d.graph.edges (state.block_made h f d).graph.edges
no_jumps_block h f d =
    no_jumps_then _ _ _ (no_jumps_push d.graph.edges (record { source = block_count d; target = h.block; kind = edge.Error h.kind }) refl)
    (no_jumps_finalize (block_count d) f _)

no_jumps_normal_by : (o : Option ErrorHarness) (d : BlockState) → NoJumps d.graph.edges (state.normal_made_by o d).graph.edges
no_jumps_normal_by None d = no_jumps_same d.graph.edges
no_jumps_normal_by (Some h) d = no_jumps_block h (state.finalizer_of d.finalizers) d

pub no_jumps_normal : (d : BlockState) → NoJumps d.graph.edges (state.normal_made d).graph.edges
no_jumps_normal d = no_jumps_normal_by (last_of d.harnesses) d

no_jumps_unreachable_by : (o : Option ErrorHarness) (d : BlockState) → NoJumps d.graph.edges (state.unreachable_made_by o d).graph.edges
no_jumps_unreachable_by None d = no_jumps_same d.graph.edges
no_jumps_unreachable_by (Some h) d =
    no_jumps_then _ _ _ (no_jumps_block h (state.finalizer_of d.finalizers) d)
    (no_jumps_push _ (record { source = d.current; target = block_count d; kind = edge.Unreachable }) refl)

pub no_jumps_unreachable : (d : BlockState) → NoJumps d.graph.edges (state.unreachable_appended d).graph.edges
no_jumps_unreachable d = no_jumps_unreachable_by (last_of d.harnesses) d

pub no_jumps_terminator : (k : InstructionKind) (n : Option ℕ) (d : BlockState) → NoJumps d.graph.edges (state.terminator_appended k n d).graph.edges
no_jumps_terminator k n d = no_jumps_unreachable (state.instruction_pushed d.current k n d)
