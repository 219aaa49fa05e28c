use Rattle.std.proofs.Common.{◌≡◌, ◌<◌, List, [], ◌∷◌, ◌++◌, length, set, Some, sym, refl, ap, ◌∙◌, subst, arith, rules}
use Rattle.std.proofs.lemmas.List.{length-set}
use Rattle.kinds.specs.declared.edge.Edge.{Edge}
use Rattle.store.specs.Edges.{block_at, newest}
use Rattle.store.specs.Links.{edges_in, toward, Firsts, Nexts, Within}
use Rattle.store.specs.declared.direction.Direction.TheVariants.{Outgoing, Incoming}
use Rattle.store.specs.declared.link.Link.{Link}
use Rattle.store.specs.declared.link.Node.{Node}
use Rattle.store.proofs.Linking.{length_edges, edges_push, firsts_edge, firsts_kept, nexts_edge, within_edge}
use Rattle.store.proofs.Tables.{first_newest}
use Rattle.store.proofs.edge_store.EdgeStore.add_edge.Goals as goal

pub invariant_of-self : goal.invariant_of-self
invariant_of-self c =
    let s = c.args.self.now in
    let ns = s.nodes.items in
    let ls : List Link = s.links.items in
    let es = edges_in ls in
    let a = c.args.source in
    let b = c.args.target in
    let e : Edge = record { source = a; target = b; kind = c.args.kind } in
    let q = c.push_reserved.ensures.items in
    let grown : es ++ e ∷ [] ≡ edges_in c.push_reserved.new.self.items = sym (ap edges_in q ∙ edges_push ls _) in
    let at : c.len-at.result ≡ length es = c.len-at.ensures ∙ s.links.ok.0 ∙ sym (length_edges ls) in
    let n : Node = record { first = record { outgoing = Some c.len-at.result; incoming = c.index_mut.result.now.first.incoming } } in
    let m : Node = record { first = record { outgoing = c.index_mut-2.result.now.first.outgoing; incoming = Some c.len-at.result } } in
    let half = set ns a n in
    let whole = set half b m in
    let from : a < length ns = omega arith in
    let to : b < length ns = omega arith in record {
      nodes_fit = search rules;
      links_fit = search rules;
      firsts = λ d. subst (Firsts d whole) grown (elim d as (λ d. Firsts d whole (es ++ e ∷ [])) [
        | Outgoing ↦ firsts_kept Outgoing half (es ++ e ∷ []) b m c.index_mut-2.result.now c.index_mut-2.ensures.value refl
            (firsts_edge Outgoing ns es e n (ap Some at) (s.firsts Outgoing))
        | Incoming ↦ firsts_edge Incoming half es e m (ap Some at)
            (firsts_kept Incoming ns es a n c.index_mut.result.now c.index_mut.ensures.value refl (s.firsts Incoming))
      ]);
      nexts = λ d. subst (Nexts d) (sym q) (nexts_edge d ls _ (elim d as (λ d. toward d _ ≡ newest d (block_at d e) es) [
        | Outgoing ↦ first_newest Outgoing s a c.index.result.now from c.index.ensures
        | Incoming ↦ first_newest Incoming s b c.index-2.result.now to c.index-2.ensures
      ]) (s.nexts d));
      within = λ d. subst (Within d whole) (sym q) (within_edge d ns whole ls _ (length-set half b m ∙ length-set ns a n)
          (elim d as (λ d. block_at d e < length ns) [ Outgoing ↦ from | Incoming ↦ to ]) (s.within d));
      few_nodes = search rules;
    }
