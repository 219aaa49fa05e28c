use Rattle.std.proofs.Common.{◌≡◌, ◌<◌, ◌∷◌, length, get_or, Some, sym, ap, ◌∙◌, rules}
use Rattle.store.specs.Edges.{rest}
use Rattle.store.specs.View.{edges_of}
use Rattle.store.proofs.Tables.{link_step}
use Rattle.store.proofs.edge_store.EdgeStore.next_edge.Goals as goal

pub returns : goal.returns
returns c =
    let s = c.args.self.now in
    let d = c.args.direction in
    let k = c.in_ok-place.field-0 in
    let l = c.in_ok-link.link.now in
    let at : c.args.place ≡ Some k = c.in_ok-place.was in
    let lt : k < length s.links.items = search rules in
    let e : l ≡ get_or s.links.items k l = search rules in
    ap (rest d (edges_of s)) at ∙ link_step d s k l lt e ∙ ap (λ p. l.edge ∷ rest d (edges_of s) p) (sym c.get-2.ensures)
