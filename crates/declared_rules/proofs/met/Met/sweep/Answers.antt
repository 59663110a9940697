-- Proves that no name is lost while marks are gone through.
use Rattle.std.proofs.Common.{arith, refl, ◌∙◌, rules}
use Rattle.declared_rules.proofs.MetSwept.{holds_last, holds_unmarked, holds_marked, holds_names, less_marked, none_marked}
use Rattle.declared_rules.proofs.met.Met.sweep.Goals as goal

pub loop-marked-preserved-in-Continue-1 : goal.loop-marked-preserved-in-Continue-1
loop-marked-preserved-in-Continue-1 c = record {
  few =
      let less = less_marked c.loop-marked.self.marks.items c.pop.new.self.items c.in-Some.marked _ c.in-Some.ensures.items c.loop-marked.invariant.few in
      omega (arith, less, c.in_ok-open.ensures.many);
  same = λ w.
      holds_marked c.args.pool.now c.loop-marked.self (record { names = c.loop-marked.self.names; marks = c.pop.new.self }) c.open.new.self c.in-Some.marked c.len-e.result w c.if-marked.true (search rules)
      (holds_last c.args.pool.now c.loop-marked.self (record { names = c.loop-marked.self.names; marks = c.pop.new.self }) c.in-Some.marked w refl c.in-Some.ensures.items c.loop-marked.invariant.few)
      c.in_ok-open.ensures
      ∙ c.loop-marked.invariant.same w;
}

pub loop-marked-preserved : goal.loop-marked-preserved
loop-marked-preserved c = record {
  few = less_marked c.loop-marked.self.marks.items c.pop.new.self.items c.in-Some.marked _ c.in-Some.ensures.items c.loop-marked.invariant.few;
  same = λ w.
      holds_unmarked c.args.pool.now c.loop-marked.self (record { names = c.loop-marked.self.names; marks = c.pop.new.self }) c.in-Some.marked w c.if-marked.false
      (holds_last c.args.pool.now c.loop-marked.self (record { names = c.loop-marked.self.names; marks = c.pop.new.self }) c.in-Some.marked w refl c.in-Some.ensures.items c.loop-marked.invariant.few)
      ∙ c.loop-marked.invariant.same w;
}

pub returns : goal.returns
returns c = λ w.
    holds_names c.args.pool.now c.loop-marked.self w (none_marked c.loop-marked.self.marks.items (search rules)) ∙ c.loop-marked.invariant.same w
