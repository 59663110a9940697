-- Proves what is asked of `closed`.
use Rattle.std.proofs.Common.{List, refl, sym, subst}
use Rattle.c_syntax.specs.StatesRead.{StackStands}
use Rattle.c_syntax.specs.declared.open.Open.{Open}
use Rattle.c_syntax.proofs.Ending.{one_further, taken, stopped}
use Rattle.c_syntax.proofs.close.closed.Goals as goal

pub loop-state-init : goal.loop-state-init
loop-state-init c = λ ts b a st h. record { what = a; under = st; stands = h; same = refl }

pub loop-state-preserved : goal.loop-state-preserved
loop-state-preserved c ts b a st h =
    let x = c.loop-state.invariant ts b a st h in
    let there = subst (λ (os : List Open). StackStands ts os x.under) (sym c.deref.ensures.value) x.stands.all.stack in
    one_further c.args.state c.loop-state.state c.in_ok-state-in-Ends.state c.args.last c.args.ask ts b a st x (sym (c.in-Ends.ensures.fate ts x.under there)) (λ d v k i. c.in_ok-state-in-Ends.ensures.ends ts b d v k i)

pub returns-in-Takes : goal.returns-in-Takes
returns-in-Takes c ts b a st h =
    let x = c.loop-state.invariant ts b a st h in
    let there = subst (λ (os : List Open). StackStands ts os x.under) (sym c.deref.ensures.value) x.stands.all.stack in
    taken c.args.state c.loop-state.state c.args.last c.args.ask ts b a st x (sym (c.in-Takes.ensures.fate ts x.under there))

pub returns-in-Stops : goal.returns-in-Stops
returns-in-Stops c ts b a st h =
    let x = c.loop-state.invariant ts b a st h in
    let there = subst (λ (os : List Open). StackStands ts os x.under) (sym c.deref.ensures.value) x.stands.all.stack in
    stopped c.args.state c.loop-state.state c.args.last c.args.ask ts b a st x (sym (c.in-Stops.ensures.fate ts x.under there))
