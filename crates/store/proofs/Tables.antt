-- What is known of the tables of a store, for either direction.
use Rattle.std.proofs.Common.{◌≡◌, ℕ, ◌<◌, ◌∷◌, length, get_or, take, Some, None, Option, vec_items, sym, refl, ap, ◌∙◌, subst, inl, inr, arith}
use Rattle.std.proofs.Math.ListN.{get_or-map}
use Rattle.std.proofs.lemmas.Bool.{cases_lt}
use Rattle.std.proofs.lemmas.List.{get_or_past}
use Rattle.store.specs.Edges.{block_at, newest, rest, HeadOf}
use Rattle.store.specs.Links.{edges_in, toward}
use Rattle.store.specs.View.{edges_of}
use Rattle.store.specs.declared.direction.Direction.{Direction}
use Rattle.store.specs.declared.direction.Direction.TheVariants.{Outgoing, Incoming}
use Rattle.store.specs.declared.edge_store.EdgeStore.{EdgeStore}
use Rattle.store.specs.declared.link.Link.{Link}
use Rattle.store.specs.declared.link.Node.{Node}
use Rattle.store.proofs.Linking.{length_edges, newest_outside}
use Rattle.store.proofs.Newest.{newest_head, rest_next}

-- the first edge of the node n, which stands at b
pub first_newest : (d : Direction) (s : EdgeStore) (b : ℕ) (n : Node) → b < length (vec_items s.nodes) → n ≡ get_or (vec_items s.nodes) b n
    → toward d n.first ≡ newest d b (edges_of s)
first_newest d s b n lt g = (ap (λ (x : Node). toward d x.first) g ∙ s.firsts d b n lt)

pub isolated : (d : Direction) → toward {X = Option ℕ} d (record { outgoing = None; incoming = None }) ≡ None
isolated Outgoing = refl
isolated Incoming = refl

abbrev pub isolated_node : Node
isolated_node = record { first = record { outgoing = None; incoming = None } }

-- the node at b, or one with no edges where b is no node
pub node_head : (d : Direction) (s : EdgeStore) (b : ℕ) → HeadOf d b (edges_of s) (toward d (get_or (vec_items s.nodes) b isolated_node).first)
node_head d s b =
    let ns = vec_items s.nodes in
    elim (cases_lt b (length ns)) [
      | inl lt ↦ newest_head d b (edges_of s) _ (s.firsts d b isolated_node lt)
      | inr le ↦ newest_head d b (edges_of s) _
          (ap (λ (n : Node). toward d n.first) (get_or_past ns b isolated_node le) ∙ isolated d ∙ sym (newest_outside d ns (vec_items s.links) b (s.within d) le))
    ]

-- a step from the link l, which stands at k
pub link_step : (d : Direction) (s : EdgeStore) (k : ℕ) (l : Link) → k < length (vec_items s.links) → l ≡ get_or (vec_items s.links) k l
    → rest d (edges_of s) (Some k) ≡ l.edge ∷ rest d (edges_of s) (toward d l.next)
link_step d s k l lt g =
    let ls = vec_items s.links in
    let e : get_or (edges_in ls) k l.edge ≡ l.edge = get_or-map (λ (x : Link). x.edge) ls k l ∙ ap (λ (x : Link). x.edge) (sym g) in
    let P : Link → Type 0 = λ x. toward d x.next ≡ newest d (block_at d x.edge) (take k (edges_in ls)) in
    let q : toward d l.next ≡ newest d (block_at d l.edge) (take k (edges_in ls)) = (subst P (sym g) (s.nexts d k l lt)) in
    let m : k < length (edges_in ls) = omega (arith, length_edges ls) in
    rest_next d (edges_in ls) k l.edge (toward d l.next) m (q ∙ ap (λ x. newest d (block_at d x) (take k (edges_in ls))) (sym e))
    ∙ ap (λ x. x ∷ rest d (edges_in ls) (toward d l.next)) e
