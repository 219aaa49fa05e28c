-- That an edge store is a sound graph. Proofs: there is nothing here to believe.
--
--   store_sound    it has at most 512 blocks, lists blocks only, lists none for no block, and permits listed steps only
--   store_within   every place stands for blocks only
use Rattle.std.specs.Prelude.{◌≡◌, ℕ, suc, ◌<◌, ◌≤◌, true, cond, List, [], ◌∷◌, reverse, length, take, Some, None, vec_items, filter, Option, ◌==◌, nat_eq, refl}
use Rattle.std.proofs.Common.{inl, inr, ⊎_elim, sym, ap, subst, ◌∙◌, arith}
use Rattle.std.specs.List.{All, slice_get, list_any}
use Rattle.std.proofs.lemmas.List.{reverse-append}
use Rattle.std.proofs.lemmas.List.Elements.{All-filter, All-map, All-nil, All-push, All-take}
use Rattle.std.proofs.lemmas.Bool.{and_parts, or_cases, eqb-true, false≢true, ne_eqb}
use Rattle.graph.specs.Meaning.{Member, Sound}
use Rattle.kinds.specs.declared.edge.Edge.{Edge}
use Rattle.store.specs.Edges.{block_at, listed, beside, rest}
use Rattle.store.specs.Paths.{passable, leads, targets, meaning_of}
use Rattle.store.specs.View.{nodes_of, edges_of}
use Rattle.store.specs.declared.direction.Direction.{Direction}
use Rattle.store.specs.declared.direction.Direction.TheVariants.{Outgoing, Incoming}
use Rattle.store.specs.declared.edge_store.EdgeStore.{EdgeStore}

all_reverse : (P : Edge → Type 0) (es : List Edge) → All P es → All P (reverse es)
all_reverse P [] h = h
all_reverse P (e ∷ es) h =
    let others = all_reverse P es (λ k x l. h (suc k) x (omega arith)) in
    subst (All P) (sym (reverse-append (e ∷ []) es)) (All-push P (reverse es) e others (h 0 e (omega arith)))

listed_within : (P : Edge → Type 0) (d : Direction) (b : ℕ) (es : List Edge) → All P es → All P (listed d b es)
listed_within P d b es h = all_reverse P (filter (λ e. nat_eq (block_at d e) b) es) (All-filter (λ e. nat_eq (block_at d e) b) P es h)

target_below : (n v : ℕ) (es : List Edge) → All (λ e. e.target < n) es → Member v (targets es) → v < n
target_below n v [] h m = absurd m
target_below n v (e ∷ es) h (inl q) = let z = h 0 e (omega arith) in omega arith
target_below n v (e ∷ es) h (inr m) = target_below n v es (λ k x l. h (suc k) x (omega arith)) m

-- a block that no edge is at lists none
kept_none : (d : Direction) (n b : ℕ) (es : List Edge) → n ≤ b → All (λ e. block_at d e < n) es → filter (λ e. nat_eq (block_at d e) b) es ≡ []
kept_none d n b [] le h = refl
kept_none d n b (e ∷ es) le h =
    let z = h 0 e (omega arith) in
    ap (λ t. cond t (e ∷ filter (λ x. nat_eq (block_at d x) b) es) (filter (λ x. nat_eq (block_at d x) b) es)) (ne_eqb (block_at d e) b (λ q. omega arith))
    ∙ kept_none d n b es le (λ k x l. h (suc k) x (omega arith))

any_target : (b : ℕ) (es : List Edge) → list_any (leads b) es ≡ true → Member b (targets es)
any_target b [] h = absurd (false≢true h)
any_target b (e ∷ es) h =
    ⊎_elim (λ l. inl (sym (eqb-true e.target b (and_parts (e.target == b) (passable e.kind) l).0)))
    (λ r. inr (any_target b es r)) (or_cases (leads b e) (list_any (leads b) es) h)

module _ (s : EdgeStore) where
  at_nodes : (d : Direction) → All (λ e. block_at d e < nodes_of s) (edges_of s)
  at_nodes d =
      subst (λ n. All (λ e. block_at d e < n) (edges_of s)) (sym s.nodes.ok.0)
      (All-map (λ e. block_at d e < length (vec_items s.nodes)) (λ l. l.edge) (vec_items s.links) (s.within d))

  pub store_sound : Sound (meaning_of s)
  store_sound = record {
    few = s.few_nodes;
    below = λ u v m. target_below (nodes_of s) v (listed Outgoing u (edges_of s)) (listed_within (λ e. e.target < nodes_of s) Outgoing u (edges_of s) (at_nodes Incoming)) m;
    outside = λ u le. ap (λ l. targets (reverse l)) (kept_none Outgoing (nodes_of s) u (edges_of s) le (at_nodes Outgoing));
    listed = λ u v h. any_target v (listed Outgoing u (edges_of s)) h;
  }

  rest_within : (p : Option ℕ) → All (λ e. e.target < nodes_of s) (rest Outgoing (edges_of s) p)
  rest_within None = All-nil (λ e. e.target < nodes_of s)
  rest_within (Some k) = beside_within (slice_get (edges_of s) k) (take (suc k) (edges_of s)) (All-take (λ e. e.target < nodes_of s) (suc k) (edges_of s) (at_nodes Incoming))
    where
      beside_within : (o : Option Edge) (es : List Edge) → All (λ e. e.target < nodes_of s) es → All (λ e. e.target < nodes_of s) (beside Outgoing o es)
      beside_within None es h = All-nil (λ e. e.target < nodes_of s)
      beside_within (Some e) es h = listed_within (λ x. x.target < nodes_of s) Outgoing e.source es h

  pub store_within : (p : Option ℕ) (v : ℕ) → Member v (targets (rest Outgoing (edges_of s) p)) → v < nodes_of s
  store_within p v m = target_below (nodes_of s) v (rest Outgoing (edges_of s) p) (rest_within p) m
