-- Proves that the first number that is free is found.
use Rattle.std.proofs.Common.{◌+◌, ◌∙◌, arith}
use Rattle.written_names.proofs.Steps.{is_known, up_to_number, one_more_taken}
use Rattle.written_names.proofs.giver.Giver.first_numbered.Goals as goal

pub loop-less-init : goal.loop-less-init
loop-less-init c = λ a. up_to_number _ c.args.self.now c.args.name.now c.get-less.result c.self.view_is c.get-less.ensures a

pub loop-less-preserved : goal.loop-less-preserved
loop-less-preserved c = λ a.
    one_more_taken c.args.self.now.names c.args.name.now c.in_ok-found.found (c.loop-less.less + 1) (c.loop-less.invariant a) c.in_ok-found.ensures
    (is_known _ c.args.self.now c.in_ok-found.found c.has.result c.self.view_is c.has.ensures ∙ c.if-not-has.false)

pub returns-then-not-has : goal.returns-then-not-has
returns-then-not-has c = λ a. record {
  word = c.in_ok-found.ensures;
  first = omega arith;
  small = omega (arith, c.loop-less-test.true);
  before = c.loop-less.invariant a;
  free = is_known _ c.args.self.now c.in_ok-found.found c.has.result c.self.view_is c.has.ensures ∙ c.if-not-has.true;
}
