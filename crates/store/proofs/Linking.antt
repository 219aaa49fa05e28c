-- What a new node and a new edge leave of the ties between the tables.
use Rattle.std.proofs.Common.{◌≡◌, ℕ, ◌<◌, ◌≤◌, List, [], ◌∷◌, ◌++◌, length, get_or, take, set, Some, None, sym, ap, ◌∙◌, subst, inl, inr, arith}
use Rattle.std.proofs.lemmas.List.{map-append, length-map, length_push, get_or-set_same, get_or-set_other, get_or_append_left, get_or_push, take-append-le, take_at, length-set}
use Rattle.std.proofs.lemmas.List.Elements.{All-map, All-push}
use Rattle.std.proofs.lemmas.Bool.{cases_eq}
use Rattle.kinds.specs.declared.edge.Edge.{Edge}
use Rattle.store.specs.Edges.{block_at, newest}
use Rattle.store.specs.Links.{edges_in, toward, Firsts, Nexts, Within}
use Rattle.store.specs.declared.direction.Direction.{Direction}
use Rattle.store.specs.declared.link.Link.{Link}
use Rattle.store.specs.declared.link.Node.{Node}
use Rattle.store.proofs.Newest.{newest_here, newest_else, newest_none}

pub length_edges : (ls : List Link) → length (edges_in ls) ≡ length ls
length_edges ls = length-map ls (λ (l : Link). l.edge)

pub edges_push : (ls : List Link) (l : Link) → edges_in (ls ++ l ∷ []) ≡ edges_in ls ++ l.edge ∷ []
edges_push ls l = map-append (λ (x : Link). x.edge) ls (l ∷ [])

-- a number that is no node has no edge
pub newest_outside : (d : Direction) (ns : List Node) (ls : List Link) (b : ℕ) → Within d ns ls → length ns ≤ b → newest d b (edges_in ls) ≡ None
newest_outside d ns ls b w le =
    newest_none d b (edges_in ls) (All-map (λ e. block_at d e ≡ b → ⊥) (λ l. l.edge) ls (λ k x lt e. let h = w k x lt in omega arith))

-- one node more, with no edges
pub firsts_node : (d : Direction) (ns : List Node) (ls : List Link) (n : Node) → toward d n.first ≡ None → Within d ns ls → Firsts d ns (edges_in ls)
    → Firsts d (ns ++ n ∷ []) (edges_in ls)
firsts_node d ns ls n e w h b x lt =
    elim (cases_eq b (length ns)) [
      | inl q ↦ (let le : length ns ≤ b = omega arith in
          ap (λ (y : Node). toward d y.first) (get_or_push ns n x b (sym q)) ∙ e ∙ sym ((newest_outside d ns ls b w le)))
      | inr q ↦ (let l : b < length ns = omega (arith, length_push ns n) in
          ap (λ (y : Node). toward d y.first) (get_or_append_left ns (n ∷ []) x b l) ∙ h b x l)
    ]

pub within_node : (d : Direction) (ns : List Node) (ls : List Link) (n : Node) → Within d ns ls → Within d (ns ++ n ∷ []) ls
within_node d ns ls n w k x lt = let h = w k x lt in let m = length_push ns n in omega arith

-- the new edge e, the newest at its block
pub firsts_edge : (d : Direction) (ns : List Node) (es : List Edge) (e : Edge) (n : Node) → toward d n.first ≡ Some (length es) → Firsts d ns es
    → Firsts d (set ns (block_at d e) n) (es ++ e ∷ [])
firsts_edge d ns es e n q h b x l =
    let lt : b < length ns = simp length-set at l in
    elim (cases_eq b (block_at d e)) [
      | inl p ↦ (ap (λ i. toward d (get_or (set ns i n) b x).first) (sym p) ∙ ap (λ (y : Node). toward d y.first) (get_or-set_same ns b n x lt)
          ∙ q ∙ sym ((newest_here d b es e (sym p))))
      | inr p ↦ (ap (λ (y : Node). toward d y.first) (get_or-set_other ns (block_at d e) b n x p) ∙ h b x lt ∙ sym ((newest_else d b es e (λ r. p (sym r)))))
    ]

-- a write to a node that leaves its first edge in this direction
pub firsts_kept : (d : Direction) (ns : List Node) (es : List Edge) (i : ℕ) (n old : Node) → old ≡ get_or ns i old → toward d n.first ≡ toward d old.first
    → Firsts d ns es → Firsts d (set ns i n) es
firsts_kept d ns es i n old g q h b x l =
    let lt : b < length ns = simp length-set at l in
    elim (cases_eq b i) [
      | inl p ↦ (ap (λ j. toward d (get_or (set ns j n) b x).first) (sym p) ∙ ap (λ (y : Node). toward d y.first) (get_or-set_same ns b n x lt)
          ∙ q ∙ ap (λ (y : Node). toward d y.first) (g ∙ ap (λ j. get_or ns j old) (sym p)) ∙ h b old lt)
      | inr p ↦ (ap (λ (y : Node). toward d y.first) (get_or-set_other ns i b n x p) ∙ h b x lt)
    ]

-- a link at the end of the table
at_push : (P : ℕ → Link → Type 0) (ls : List Link) (l : Link) → P (length ls) l → ((k : ℕ) (x : Link) → k < length ls → P k (get_or ls k x))
    → (k : ℕ) (x : Link) → k < length (ls ++ l ∷ []) → P k (get_or (ls ++ l ∷ []) k x)
at_push P ls l new old k x lt =
    elim (cases_eq k (length ls)) [
      | inl p ↦ (rw (get_or_push ls l x k (sym p)) (let Q : ℕ → Type 0 = λ j. P j l in subst Q (sym p) new))
      | inr p ↦ (let m : k < length ls = omega (arith, length_push ls l) in rw (get_or_append_left ls (l ∷ []) x k m) (old k x m))
    ]

take_edges : (ls : List Link) (l : Link) (k : ℕ) → k ≤ length ls → take k (edges_in (ls ++ l ∷ [])) ≡ take k (edges_in ls)
take_edges ls l k le =
    let m : k ≤ length (edges_in ls) = omega (arith, length_edges ls) in
    ap (take k) (edges_push ls l) ∙ take-append-le k (edges_in ls) (l.edge ∷ []) m

pub nexts_edge : (d : Direction) (ls : List Link) (l : Link) → toward d l.next ≡ newest d (block_at d l.edge) (edges_in ls) → Nexts d ls
    → Nexts d (ls ++ l ∷ [])
nexts_edge d ls l q h =
    let P : ℕ → Link → Type 0 = λ k y. toward d y.next ≡ newest d (block_at d y.edge) (take k (edges_in (ls ++ l ∷ []))) in
    let all : take (length ls) (edges_in (ls ++ l ∷ [])) ≡ edges_in ls = ap (take (length ls)) (edges_push ls l)
    ∙ take_at (edges_in ls) (l.edge ∷ []) (length ls) (length_edges ls) in
    at_push P ls l
    (q ∙ ap (λ es. newest d (block_at d l.edge) es) (sym all))
    (λ k x lt. let le : k ≤ length ls = omega arith in h k x lt ∙ ap (λ es. newest d (block_at d (get_or ls k x).edge) es) (sym (take_edges ls l k le)))

pub within_edge : (d : Direction) (ns ms : List Node) (ls : List Link) (l : Link) → length ms ≡ length ns → block_at d l.edge < length ns → Within d ns ls
    → Within d ms (ls ++ l ∷ [])
within_edge d ns ms ls l e h w =
    All-push (λ x. block_at d x.edge < length ms) ls l (λ k x lt. let z = w k x lt in omega arith) (omega arith)
