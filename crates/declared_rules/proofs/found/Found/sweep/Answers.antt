-- Proves that no offence is lost while marks are gone through.
use Rattle.std.proofs.Common.{arith, refl, ◌∙◌, rules}
use Rattle.declared_rules.proofs.SweepLaws.{finding_last, finding_unmarked, finding_marked, finding_first, less_marked, none_marked}
use Rattle.declared_rules.proofs.found.Found.sweep.Goals as goal

pub loop-marked-preserved-in-Continue-1 : goal.loop-marked-preserved-in-Continue-1
loop-marked-preserved-in-Continue-1 c = record {
  few =
      let less = less_marked c.loop-marked.self.marks.items c.pop.new.self.items c.in-Some.marked _ c.in-Some.ensures.items c.loop-marked.invariant.few in
      omega (arith, less, c.in_ok-open.ensures.joins.many);
  same =
      finding_marked c.args.pool.now c.loop-marked.self (record { modules = c.loop-marked.self.modules; first = c.loop-marked.self.first; marks = c.pop.new.self; seen = c.loop-marked.self.seen }) c.open.new.self c.in-Some.marked c.len-e.result
      c.if-marked.true (search rules)
      (finding_last c.args.pool.now c.loop-marked.self (record { modules = c.loop-marked.self.modules; first = c.loop-marked.self.first; marks = c.pop.new.self; seen = c.loop-marked.self.seen }) c.in-Some.marked refl refl c.in-Some.ensures.items
      c.loop-marked.invariant.few)
      c.in_ok-open.ensures
      ∙ c.loop-marked.invariant.same;
}

pub loop-marked-preserved : goal.loop-marked-preserved
loop-marked-preserved c = record {
  few = less_marked c.loop-marked.self.marks.items c.pop.new.self.items c.in-Some.marked _ c.in-Some.ensures.items c.loop-marked.invariant.few;
  same =
      finding_unmarked c.args.pool.now c.loop-marked.self (record { modules = c.loop-marked.self.modules; first = c.loop-marked.self.first; marks = c.pop.new.self; seen = c.loop-marked.self.seen }) c.in-Some.marked c.if-marked.false
      (finding_last c.args.pool.now c.loop-marked.self (record { modules = c.loop-marked.self.modules; first = c.loop-marked.self.first; marks = c.pop.new.self; seen = c.loop-marked.self.seen }) c.in-Some.marked refl refl c.in-Some.ensures.items
      c.loop-marked.invariant.few)
      ∙ c.loop-marked.invariant.same;
}

pub returns : goal.returns
returns c = finding_first c.args.pool.now c.loop-marked.self (none_marked c.loop-marked.self.marks.items (search rules)) ∙ c.loop-marked.invariant.same
