-- The walk's answer is the definition's, and the law is about that.
use Rattle.std.proofs.Common.{◌≡◌, [], ◌∷◌, length, Ok, Result, refl, subst}
use Rattle.kinds.specs.declared.refusal.Refusal.{Refusal}
use Rattle.kinds.specs.Replies.{told}
use Rattle.search.specs.Refused.{refused}
use Rattle.query.proofs.Asking.{same_block, other_block}
use Rattle.query.proofs.reach.is_reachable_filtered.Goals as goal

pub returns-then-from-to-clause-law : goal.returns-then-from-to-clause-law
returns-then-from-to-clause-law g c =
    let G = g.G.Graph.meaning c.args.graph.now in
    let W = g.G.Graph.sound c.args.graph.now in
    let F = g.F.Filter.meaning c.args.filter.now in
    let free = subst (λ n. ◌≡◌ {A = Result (Unit {0}) Refusal} (Ok tt) (told (refused n (c.args.from ∷ c.args.to ∷ []) c.args.marks.now (length c.args.frames.now)) tt))
    c.node_count.ensures c.in_ok-refuse_walk.ensures in
    (same_block G W c.args.marks.now (length c.args.frames.now) F c.args.from c.args.to free c.if-from-to.true).law

pub returns-clause-answer : goal.returns-clause-answer
returns-clause-answer g c =
    let G = g.G.Graph.meaning c.args.graph.now in
    let W = g.G.Graph.sound c.args.graph.now in
    let F = g.F.Filter.meaning c.args.filter.now in
    let free = subst (λ n. ◌≡◌ {A = Result (Unit {0}) Refusal} (Ok tt) (told (refused n (c.args.from ∷ c.args.to ∷ []) c.args.marks.now (length c.args.frames.now)) tt))
    c.node_count.ensures c.in_ok-refuse_walk.ensures in
    (other_block G W c.args.marks.now (length c.args.frames.now) F c.args.from c.args.to free _
    (record { graph = c.args.graph; filter = c.args.filter; target = c.args.to }) (λ e. refl) (λ e. refl) c.if-from-to.false _ c.in_ok-stop.stop
    c.in_ok-stop.ensures.answer c.unwrap_or.result c.unwrap_or.ensures).answer

pub returns-clause-law : goal.returns-clause-law
returns-clause-law g c =
    let G = g.G.Graph.meaning c.args.graph.now in
    let W = g.G.Graph.sound c.args.graph.now in
    let F = g.F.Filter.meaning c.args.filter.now in
    let free = subst (λ n. ◌≡◌ {A = Result (Unit {0}) Refusal} (Ok tt) (told (refused n (c.args.from ∷ c.args.to ∷ []) c.args.marks.now (length c.args.frames.now)) tt))
    c.node_count.ensures c.in_ok-refuse_walk.ensures in
    (other_block G W c.args.marks.now (length c.args.frames.now) F c.args.from c.args.to free _
    (record { graph = c.args.graph; filter = c.args.filter; target = c.args.to }) (λ e. refl) (λ e. refl) c.if-from-to.false _ c.in_ok-stop.stop
    c.in_ok-stop.ensures.answer c.unwrap_or.result c.unwrap_or.ensures).law
