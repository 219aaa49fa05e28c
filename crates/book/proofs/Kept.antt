-- Each call keeps the law of the counts, so each list of calls does.
use Rattle.std.proofs.Common.{count_by, nat_eq, ◌≡◌, ℕ, ◌+◌, ◌≤◌, true, false, cond, eqb, List, [], ◌∷◌, ◌++◌, length, Some, None, Option, sym, refl, ap, ◌∙◌, subst, inl, inr, arith}
use Rattle.std.proofs.lemmas.List.{append-nil, length_push}
use Rattle.std.proofs.lemmas.List.Sums.{sum_by_push}
use Rattle.std.proofs.lemmas.Bool.{cases_eq, eq-eqb, ne_eqb}
use Rattle.block_builder.specs.BlockState as state
use Rattle.block_builder.specs.BlockState.{BlockState}
use Rattle.book.specs.Book as book
use Rattle.book.specs.Book.{Book, new_book, with_blocks, with_contexts, context_for, filed, targeted, allowed, resolved_by, refusal, done, step, run}
use Rattle.book.specs.LawOfCounts.{jump_at, entries_at, EdgeStands, EdgesStand, Law}
use Rattle.book.specs.Ledger.{first_fate, Given, Ledger, is_unfiled, is_waiting, is_drawn, is_untargeted, drawn_as, count_fate, waits_in, waiting_in, given_now, resolved_in, top_resolved, edge_taken, recorded, ledger_step, ledger_run, new_ledger}
use Rattle.book.specs.declared.call.Call.{Call}
use Rattle.book.specs.declared.call.Call.TheVariants as call
use Rattle.contexts.specs.Contexts.{Context, Entry, with_target, with_flag, opened, top_number, top_continue, upper_label, resolve_counts, waiting_count}
use Rattle.kinds.specs.Flags.{no_flags}
use Rattle.kinds.specs.Replies.{after}
use Rattle.kinds.specs.declared.block.InstructionKind.TheVariants as instruction
use Rattle.kinds.specs.declared.context.EntryKind.{EntryKind}
use Rattle.kinds.specs.declared.edge.Edge.{Edge}
use Rattle.kinds.specs.declared.edge.EdgeType.{EdgeType}
use Rattle.kinds.specs.declared.refusal.Refusal.{Refusal}
use Rattle.book.proofs.Edges.{Stay, jump_at_push, jump_at_one, edge_at_more, edges_stay, NoJumps, no_jumps_same, no_jumps_normal, no_jumps_unreachable, no_jumps_terminator}
use Rattle.book.proofs.Entries.{Within, found_within, top_within, entries_kept, count_kept, target_entries, given_entries, given_count, entries_filed, count_filed, waiting_in_push, count_push, entry_of}
use Rattle.book.proofs.Resolving.{Resolves, resolves, count_cons, length_resolved, counted, jumps_drawn, edges_drawn, none_waits, others_wait}

-- every one has one of the four fates
four_fates : (gs : List Given) → length gs ≡ count_fate is_unfiled gs + count_fate is_waiting gs + count_fate is_drawn gs + count_fate is_untargeted gs
four_fates [] = refl
four_fates (g ∷ gs) =
    grind (
      arith,
      four_fates gs,
      count_cons is_unfiled g gs,
      count_cons is_waiting g gs,
      count_cons is_drawn g gs,
      count_cons is_untargeted g gs,
    )

pub law_new : (text : List ℕ) → Law (new_book text) new_ledger
law_new text = record {
  given = refl;
  unfiled = refl;
  waiting = refl;
  drawn = refl;
  untargeted = refl;
  total = refl;
  entries = λ i. refl;
  edges_stand =
      tt;
  jumps_once = λ x. refl;
}

-- a call that changes the draft alone, and what add_edge took
law_graph : (k : Book) (l : Ledger) (d : BlockState) (taken : List ℕ) → Stay k.blocks.graph.edges d.graph.edges
    → ((x : ℕ) → jump_at d.graph.edges x + count_by (nat_eq x) l.taken ≡ jump_at k.blocks.graph.edges x + count_by (nat_eq x) taken) → Law k l
    → Law (with_blocks d k) (record { given = l.given; taken = taken })
law_graph k l d taken s n h = record {
  given = h.given;
  unfiled = h.unfiled;
  waiting = h.waiting;
  drawn = h.drawn;
  untargeted = h.untargeted;
  total = h.total;
  entries = h.entries;
  edges_stand = edges_stay k.blocks.graph.edges d.graph.edges l.given s h.edges_stand;
  jumps_once = λ x. omega (arith, h.jumps_once x, n x);
}

law_blocks : (k : Book) (l : Ledger) (d : BlockState) → NoJumps k.blocks.graph.edges d.graph.edges → Law k l → Law (with_blocks d k) l
law_blocks k l d q h = law_graph k l d l.taken q.stay (λ x. omega (arith, q.jumps x)) h

law_same_edges : (k : Book) (l : Ledger) (d : BlockState) → d.graph.edges ≡ k.blocks.graph.edges → Law k l → Law (with_blocks d k) l
law_same_edges k l d e h = law_blocks k l d (subst (NoJumps k.blocks.graph.edges) (sym e) (no_jumps_same k.blocks.graph.edges)) h

-- a call that changes the contexts, and leaves their entries
law_contexts : (k : Book) (l : Ledger) (cs : List Context) → ((i : ℕ) → entries_at i cs ≡ entries_at i k.contexts)
    → waiting_count cs ≡ waiting_count k.contexts → Law k l → Law (with_contexts cs k) l
law_contexts k l cs e w h = record {
  given = h.given;
  unfiled = h.unfiled;
  waiting = w ∙ h.waiting;
  drawn = h.drawn;
  untargeted = h.untargeted;
  total = omega arith;
  entries = λ i. e i ∙ h.entries i;
  edges_stand = h.edges_stand;
  jumps_once = h.jumps_once;
}

-- no entries past the open contexts
entries_past : (cs : List Context) (i : ℕ) → length cs ≤ i → entries_at i cs ≡ []
entries_past [] i p = refl
entries_past (x ∷ cs) i p = grind (arith, ne_eqb i (length cs) (λ z. omega arith), entries_past cs i (omega arith))

law_opened : (k : Book) (l : Ledger) (c : Context) → c.entries ≡ [] → Law k l → Law (with_contexts (c ∷ k.contexts) k) l
law_opened k l c e h =
    law_contexts k l (c ∷ k.contexts) (λ i. grind (arith, entries_past k.contexts i)) (rw e (omega arith)) h

-- a break or continue given
edges_push : (es : List Edge) (gs : List Given) (g : Given) → EdgesStand es gs → EdgeStands es g.block g.fate → EdgesStand es (gs ++ g ∷ [])
edges_push es [] g h s = (s, tt)
edges_push es (x ∷ gs) g h s = (h.0, edges_push es gs g h.1 s)

filed_waiting : (j : EntryKind) (b : ℕ) (o : Option ℕ) (k : Book) → Within o (length k.contexts)
    → waiting_count (filed j b o k).contexts ≡ waiting_count k.contexts + cond (is_waiting (first_fate o)) 1 0
filed_waiting j b None k w = omega arith
filed_waiting j b (Some m) k w = count_filed j b m k.contexts w

filed_entries : (j : EntryKind) (b : ℕ) (o : Option ℕ) (k : Book) → Within o (length k.contexts) → (i : ℕ)
    → entries_at i (filed j b o k).contexts ≡ entries_at i k.contexts ++ cond (waits_in i (first_fate o)) (entry_of j b ∷ []) []
filed_entries j b None k w i = sym (append-nil (entries_at i k.contexts))
filed_entries j b (Some m) k w i = entries_filed j b m k.contexts w i

law_filed : (j : EntryKind) (b : ℕ) (o : Option ℕ) (k : Book) (l : Ledger) → Within o (length k.contexts) → Law k l → Law (filed j b o k) (given_now j b o l)
law_filed j b o k l w h =
    let g : Given = record { kind = j; block = b; fate = first_fate o } in
    record {
      given = grind (arith, length_push l.given g);
      unfiled = grind (arith, count_push is_unfiled l.given g);
      waiting = grind (arith, count_push is_waiting l.given g, filed_waiting j b o k w);
      drawn = grind (arith, count_push is_drawn l.given g);
      untargeted = grind (arith, count_push is_untargeted l.given g);
      total = grind (arith, filed_waiting j b o k w);
      entries = λ i. filed_entries j b o k w i ∙ ap (λ z. z ++ cond (waits_in i g.fate) (entry_of j b ∷ []) []) (h.entries i)
          ∙ sym (waiting_in_push i l.given g);
      edges_stand = stand o;
      jumps_once = λ x. grind (arith, count_push (drawn_as x) l.given g, h.jumps_once x);
    }
  where
    stand : (o : Option ℕ) → EdgesStand (filed j b o k).blocks.graph.edges (given_now j b o l).given
    stand None = edges_push k.blocks.graph.edges l.given _ h.edges_stand tt
    stand (Some m) = edges_push k.blocks.graph.edges l.given _ h.edges_stand tt

law_targeted : (j : EntryKind) (t : ℕ) (o : Option ℕ) (k : Book) (l : Ledger) → Law k l → Law (targeted j t o k) l
law_targeted j t None k l h = h
law_targeted j t (Some i) k l h =
    law_contexts k l _ (entries_kept (with_target j t) i k.contexts (target_entries j t))
    (count_kept (with_target j t) i k.contexts (target_entries j t)) h

law_allowed : (j : EntryKind) (o : Option ℕ) (k : Book) (l : Ledger) → Law k l → Law (allowed j o k) l
law_allowed j None k l h = h
law_allowed j (Some i) k l h =
    law_contexts k l _ (entries_kept (with_flag j) i k.contexts (λ c. refl)) (count_kept (with_flag j) i k.contexts (λ c. refl)) h

-- add_edge
law_edge_taken : (a b : ℕ) (e : EdgeType) (k : Book) (l : Ledger) → Law k l
    → Law (with_blocks (state.linked a b e k.blocks) k) (edge_taken e (length k.blocks.graph.edges) l)
law_edge_taken a b e k l h =
    law_graph k l (state.linked a b e k.blocks) (edge_taken e (length k.blocks.graph.edges) l).taken
    (λ x f z. edge_at_more k.blocks.graph.edges _ x f z) (
    λ x.
    grind (
      arith,
      sum_by_push (λ (y : ℕ). cond (eqb x y) 1 0) l.taken (length k.blocks.graph.edges),
      jump_at_push k.blocks.graph.edges (record { source = a; target = b; kind = e }) x,
    )
    ) h

-- resolve
law_resolved : (cs : List Context) (k : Book) (l : Ledger) → k.contexts ≡ cs → Law k l
    → Law (resolved_by (resolve_counts cs) (with_contexts cs k)) (top_resolved cs (length k.blocks.graph.edges) l)
law_resolved [] k l e h = law_contexts k l [] (λ i. ap (entries_at i) (sym e)) (ap waiting_count (sym e)) h
law_resolved (c ∷ cs) k l e h =
    let i = length cs in
    let x = length k.blocks.graph.edges in
    let gs = l.given in
    let hs = resolved_in c i x gs in
    let at : (j : ℕ) → entries_at j (c ∷ cs) ≡ waiting_in j gs = λ j. ap (entries_at j) (sym e) ∙ h.entries j in
    let own : c.entries ≡ waiting_in i gs = ap (λ z. cond z c.entries (entries_at i cs)) (sym (eq-eqb i i refl)) ∙ at i in
    let P : List Entry → Type 0 = λ z. Resolves c i x gs hs z in
    let r : Resolves c i x gs hs c.entries = subst P (sym own) (resolves c i x gs) in
    let n = length_resolved c i r in
    let a = counted c i is_unfiled false false false (λ y. refl) (λ y z. refl) refl r in
    let b = counted c i is_waiting true false false (λ y. refl) (λ y z. refl) refl r in
    let d = counted c i is_drawn false true false (λ y. refl) (λ y z. refl) refl r in
    let u = counted c i is_untargeted false false true (λ y. refl) (λ y z. refl) refl r in
    let w : waiting_count k.contexts ≡ length c.entries + waiting_count cs = ap waiting_count e in
    let f = four_fates hs in
    record {
      given = omega arith;
      unfiled = omega arith;
      waiting = omega arith;
      drawn = omega arith;
      untargeted = omega arith;
      total = omega arith;
      entries = λ j. elim (cases_eq j i) [
        | inl z ↦ (let past : length cs ≤ j = omega arith in entries_past cs j past ∙ sym (ap (λ m. waiting_in m hs) z ∙ none_waits c i r))
        | inr z ↦ ap (λ m. cond m c.entries (entries_at j cs)) (sym (ne_eqb j i z)) ∙ at j ∙ sym (others_wait c i r j z)
      ];
      edges_stand = edges_drawn c i r k.blocks.graph refl h.edges_stand;
      jumps_once = λ m. omega (arith, jumps_drawn c i r k.blocks.graph refl m, h.jumps_once m);
    }

law_upper : (k : Book) (l : Ledger) → Law k l → Law (book.resolved_upper k) (top_resolved k.contexts (length k.blocks.graph.edges) l)
law_upper k l h = law_contexts (book.resolved k) _ _
    (given_entries (top_continue k.contexts) (upper_label (book.resolved k).contexts) (book.resolved k).contexts)
    (given_count (top_continue k.contexts) (upper_label (book.resolved k).contexts) (book.resolved k).contexts) (law_resolved k.contexts k l refl h)

-- a call that is accepted
law_done : (c : Call) (k : Book) (l : Ledger) → Law k l → Law (done k c) (recorded k c l)
law_done (call.AttachErrorHarness e) k l h = law_same_edges k l _ refl h
law_done (call.ReleaseErrorHarness b) k l h = law_same_edges k l _ refl h
law_done call.AttachFinalizer k l h = law_same_edges k l _ refl h
law_done (call.ReleaseFinalizer b) k l h = law_same_edges k l _ refl h
law_done call.PushFinalizationStack k l h = law_same_edges k l _ refl h
law_done call.PopFinalizationStack k l h = law_same_edges k l _ refl h
law_done call.NewBasicBlockNormal k l h = law_blocks k l _ (no_jumps_normal k.blocks) h
law_done call.NewBasicBlockFunction k l h = law_blocks k l _ (no_jumps_normal k.blocks) h
law_done call.Current k l h = h
law_done (call.SetCurrent b) k l h = law_same_edges k l _ refl h
law_done (call.MarkAsReachable b) k l h = law_same_edges k l _ refl h
law_done (call.MarkAsUnreachable b) k l h = law_same_edges k l _ refl h
law_done (call.AddEdge a b e) k l h = law_edge_taken a b e k l h
law_done (call.PushStatement n) k l h = law_same_edges k l _ refl h
law_done (call.EnterStatement n) k l h = law_same_edges k l _ refl h
law_done (call.PushReturn r n) k l h = law_same_edges k l _ refl h
law_done call.PushImplicitReturn k l h = law_same_edges k l _ refl h
law_done (call.AppendIteration n i) k l h = law_same_edges k l _ refl h
law_done (call.AppendConditionTo b n) k l h = law_same_edges k l _ refl h
law_done call.AppendUnreachable k l h = law_blocks k l _ (no_jumps_unreachable k.blocks) h
law_done (call.AppendThrow n) k l h = law_blocks k l _ (no_jumps_terminator instruction.Throw (Some n) k.blocks) h
law_done (call.Append j n b) k l h =
    law_filed j k.blocks.current (context_for j b k) _ l (found_within k.text j b k.contexts)
    (law_blocks k l _ (no_jumps_terminator (book.instruction_of j b) (Some n) k.blocks) h)
law_done (call.New b f) k l h = law_opened k l (opened f b) refl h
law_done (call.Default b) k l h = law_opened k l (opened no_flags b) refl h
law_done (call.NewFunction b) k l h = law_opened k l (opened book.function_flags b) refl h
law_done (call.File j b) k l h = law_filed j k.blocks.current (context_for j b k) k l (found_within k.text j b k.contexts) h
law_done (call.FileOnTop j) k l h = law_filed j k.blocks.current (top_number k.contexts) k l (top_within k.contexts) h
law_done (call.Mark j b t) k l h = law_targeted j t (context_for j b k) k l h
law_done (call.MarkOnTop j t) k l h = law_targeted j t (top_number k.contexts) k l h
law_done (call.Allow j) k l h = law_allowed j (top_number k.contexts) k l h
law_done call.Resolve k l h = law_resolved k.contexts k l refl h
law_done (call.ResolveExpect e) k l h = law_resolved k.contexts k l refl h
law_done call.ResolveWithUpperLabel k l h = law_upper k l h
law_done call.Tally k l h = h

law_after : (o : Option Refusal) (k k' : Book) (l l' : Ledger) → Law k l → Law k' l' → Law (after o k k') (after o l l')
law_after None k k' l l' h g = g
law_after (Some r) k k' l l' h g = h

pub law_step : (c : Call) (k : Book) (l : Ledger) → Law k l → Law (step k c) (ledger_step k c l)
law_step c k l h = law_after (refusal k c) k (done k c) l (recorded k c l) h (law_done c k l h)

pub law_run : (cs : List Call) (k : Book) (l : Ledger) → Law k l → Law (run cs k) (ledger_run cs k l)
law_run [] k l h = h
law_run (c ∷ cs) k l h = law_run cs (step k c) (ledger_step k c l) (law_step c k l h)

-- no two are drawn as one edge
pub law_different : (k : Book) (l : Ledger) → Law k l → (x : ℕ) → count_fate (drawn_as x) l.given ≤ 1
law_different k l h x = omega (arith, h.jumps_once x, jump_at_one k.blocks.graph.edges x)
