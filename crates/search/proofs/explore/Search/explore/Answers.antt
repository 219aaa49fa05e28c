-- Each turn of the loops takes the walk on to the end it is bound for.
use Rattle.std.proofs.Common.{Some, None, refl, ◌∙◌, arith, rules}
use Rattle.std.specs.declared.ops.ControlFlow.TheVariants.{Continue, Break}
use Rattle.search.proofs.Exploring.{first_member, topped, inside, reading, closing, room_above, entering, emptied, kept_set}
use Rattle.search.proofs.explore.Search.explore.Goals as goal

pub neighbors-init : goal.neighbors-init
neighbors-init g c =
    (topped c.frames.invariant c.in-Some.ensures.room c.in-Some.ensures.popped.1, refl)

pub read-requires : goal.read-requires
read-requires g c =
    let here = c.neighbors.invariant.0 in
    let in_list = inside here c.requires.unread.0 c.requires.unread.1 in
    let block = g.G.Graph.within c.args.self.now.graph.now c.neighbors.place c.in-Some-next.step.block (first_member c.in-Some-next.ensures) in
    omega arith

pub returns-in_err-read-clause-explores : goal.returns-in_err-read-clause-explores
returns-in_err-read-clause-explores g c =
    let here = c.neighbors.invariant.0 in
    let block = g.G.Graph.within c.args.self.now.graph.now c.neighbors.place c.in-Some-next.step.block (first_member c.in-Some-next.ensures) in
    λ end st.
    rw c.from_residual.ensures (reading here c.read.new.visitor (Break c.in_err-read.field-0.0) c.in-Some-next.ensures block c.in_err-read.ensures.reads end st)

pub push-requires : goal.push-requires
push-requires g c =
    let here = c.neighbors.invariant.0 in
    let in_list = inside here c.requires.unread.0 c.requires.unread.1 in
    let room = c.requires.room in
    let slots = here.kept.slots in
    omega arith

pub open-requires-clause-block : goal.open-requires-clause-block
open-requires-clause-block g c =
    let here = c.neighbors.invariant.0 in
    let in_list = inside here c.requires.unread.0 c.requires.unread.1 in
    let block = g.G.Graph.within c.args.self.now.graph.now c.neighbors.place c.in-Some-next.step.block (first_member c.in-Some-next.ensures) in
    omega arith

pub open-requires-clause-room : goal.open-requires-clause-room
open-requires-clause-room g c =
    let here = c.neighbors.invariant.0 in
    let block = g.G.Graph.within c.args.self.now.graph.now c.neighbors.place c.in-Some-next.step.block (first_member c.in-Some-next.ensures) in
    let read = c.in_ok-read.ensures in
    let above = room_above here c.read.new.visitor c.in-Some-next.ensures block read.reads read.new c.if-branch.true c.requires.unread.0 c.requires.unread.1 in
    let room = c.requires.room in
    let slots = here.kept.slots in
    omega arith

pub returns-in_err-open-clause-explores : goal.returns-in_err-open-clause-explores
returns-in_err-open-clause-explores g c =
    let here = c.neighbors.invariant.0 in
    let block = g.G.Graph.within c.args.self.now.graph.now c.neighbors.place c.in-Some-next.step.block (first_member c.in-Some-next.ensures) in
    let read = c.in_ok-read.ensures in
    λ end st.
    rw c.from_residual-in_err-open.ensures
    (entering here c.read.new.visitor c.in-Some-next.ensures block read.reads read.new c.if-branch.true c.push.new.self
    c.open.new.stack c.open.new.guard.marks.now c.open.new.visitor (Some c.in_err-open.field-0.0) c.push.ensures.held c.in_err-open.ensures.opens end st)

pub overflow_add-self : goal.overflow_add-self
overflow_add-self g c =
    let here = c.neighbors.invariant.0 in
    let in_list = inside here c.requires.unread.0 c.requires.unread.1 in
    let few = (g.G.Graph.sound c.args.self.now.graph.now).few in
    let clock = in_list.clock in
    omega arith

pub frames-smaller-then-branch : goal.frames-smaller-then-branch
frames-smaller-then-branch g c =
    let here = c.neighbors.invariant.0 in
    let in_list = inside here c.requires.unread.0 c.requires.unread.1 in
    let clock = in_list.clock in
    omega arith

pub frames-preserved-then-branch : goal.frames-preserved-then-branch
frames-preserved-then-branch g c =
    let here = c.neighbors.invariant.0 in
    let block = g.G.Graph.within c.args.self.now.graph.now c.neighbors.place c.in-Some-next.step.block (first_member c.in-Some-next.ensures) in
    let read = c.in_ok-read.ensures in
    record {
      kept = kept_set c.in-Some-next.step.block 1 here.kept refl refl refl c.open.ensures.same c.open.ensures.marks
          (c.open.ensures.slots ∙ c.push.ensures.room) (omega arith);
      bound = entering here c.read.new.visitor c.in-Some-next.ensures block read.reads read.new c.if-branch.true c.push.new.self
          c.open.new.stack c.open.new.guard.marks.now c.open.new.visitor None c.push.ensures.held c.in_ok-open.ensures.opens;
    }

pub neighbors-preserved : goal.neighbors-preserved
neighbors-preserved g c =
    let here = c.neighbors.invariant.0 in
    let block = g.G.Graph.within c.args.self.now.graph.now c.neighbors.place c.in-Some-next.step.block (first_member c.in-Some-next.ensures) in
    let k = here.kept in
    let passed = reading here c.read.new.visitor (Continue c.in_ok-read.field-0) c.in-Some-next.ensures block c.in_ok-read.ensures.reads in (
      record {
        kept = search rules;
        bound = λ end st. rw c.if-branch.false at (passed end st);
      },
      c.neighbors.invariant.1,
    )

pub close-requires : goal.close-requires
close-requires g c =
    let here = c.neighbors.invariant.0 in
    let in_list = inside here c.requires.unread.0 c.requires.unread.1 in
    let marks = in_list.marks in
    let block = in_list.block in
    omega arith

pub returns-in_err-close-clause-explores : goal.returns-in_err-close-clause-explores
returns-in_err-close-clause-explores g c =
    let here = c.neighbors.invariant.0 in
    λ end st.
    rw c.from_residual-in_err-close.ensures
    (closing here c.close.new.guard.marks.now c.close.new.visitor (Some c.in_err-close.field-0.0) c.in_default-next.ensures c.in_err-close.ensures.closes end st)

pub overflow_add-self-in-Some : goal.overflow_add-self-in-Some
overflow_add-self-in-Some g c =
    let here = c.neighbors.invariant.0 in
    let in_list = inside here c.requires.unread.0 c.requires.unread.1 in
    let few = (g.G.Graph.sound c.args.self.now.graph.now).few in
    let clock = in_list.clock in
    omega arith

pub frames-smaller : goal.frames-smaller
frames-smaller g c =
    let here = c.neighbors.invariant.0 in
    let in_list = inside here c.requires.unread.0 c.requires.unread.1 in
    let clock = in_list.clock in
    omega arith

pub frames-preserved : goal.frames-preserved
frames-preserved g c =
    let here = c.neighbors.invariant.0 in
    record {
      kept = kept_set c.in-Some.frame.block 2 here.kept refl refl refl c.close.ensures.same c.close.ensures.marks refl (omega arith);
      bound = closing here c.close.new.guard.marks.now c.close.new.visitor None c.in_default-next.ensures c.in_ok-close.ensures.closes;
    }

pub returns-clause-explores : goal.returns-clause-explores
returns-clause-explores g c =
    let V = g.V.Visitor.meaning in
    let G = g.G.Graph.meaning c.args.self.now.graph.now in
    let rest = g.G.Graph.rest c.args.self.now.graph.now in
    let popped = c.in_default.ensures in
    λ end st.
    record {
      room = (let room = c.requires.room in let slots = c.frames.invariant.kept.slots in let same = popped.room in omega arith);
      empty = popped.popped.1;
      idle = emptied V G rest c.frames.self.stack.now popped.popped.0 (c.frames.invariant.bound end st);
    }
