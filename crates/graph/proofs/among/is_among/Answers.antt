-- A number is asked about, and then what is left.
use Rattle.std.proofs.Common.{eqb, sym, ◌∙◌, eq-eqb, ne_eqb}
use Rattle.graph.proofs.Any.{any_here, any_later, any_end}
use Rattle.graph.proofs.among.is_among.Goals as goal

pub returns-then-n-number : goal.returns-then-n-number
returns-then-n-number c =
    let here = any_here (λ x. eqb x c.args.number) c.args.numbers.now c.loop-n.n-index in
    sym (c.loop-n.invariant ∙ here c.loop-n-test.true (eq-eqb _ c.args.number c.if-n-number.true))

pub loop-n-preserved : goal.loop-n-preserved
loop-n-preserved c =
    let later = any_later (λ x. eqb x c.args.number) c.args.numbers.now c.loop-n.n-index in
    c.loop-n.invariant ∙ later c.loop-n-test.true (ne_eqb _ c.args.number c.if-n-number.false)

pub returns : goal.returns
returns c = sym (c.loop-n.invariant ∙ any_end (λ x. eqb x c.args.number) c.args.numbers.now c.loop-n.n-index c.loop-n-test.false)
