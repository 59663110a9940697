-- Proves what is asked of `one_closed`.
use Rattle.std.proofs.Common.{refl}
use Rattle.c_syntax.proofs.Ending.{one_ends}
use Rattle.c_syntax.proofs.close.one_closed.Goals as goal

pub returns-in_ok-list-in-Some-clause-ends : goal.returns-in_ok-list-in-Some-clause-ends
returns-in_ok-list-in-Some-clause-ends c ts b a st h i =
    one_ends ts c.args.state (record { list = c.in_ok-list-in-Some.list; point = c.args.state.point; stack = c.pop.new.self; depth = c.in-Some.open.depth }) c.args.last b a st c.in-Some.open c.in-Some.ensures.items refl
    (λ f l k j. c.in_ok-list-in-Some.ensures ts a st f l k j) h i
