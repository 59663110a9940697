-- Proves what is asked of `read_trace`.
use Rattle.std.proofs.Common.{arith, ◌<◌, List, subst}
use Rattle.tla_tree.specs.Tree.{Word}
use Rattle.step_runner.specs.Trace.{StatesOffend}
use Rattle.run_files.specs.Headings.{each_from}
use Rattle.run_files.proofs.ConfigLaws.{same_refusals}
use Rattle.run_files.proofs.TraceLaws.{state_refused}
use Rattle.run_files.proofs.trace.read_trace.Goals as goal

pub returns-clause-refused : goal.returns-clause-refused
returns-clause-refused c = λ r e.
    let x = c.args.text.now in
    let h = c.heading_from-first.result in
    let k = c.heading_from-first.ensures in
    let l : h.from < h.to = omega (arith, k.within, c.if-first.false) in
    let a = rw c.in-Err-At.field-0-is at c.in-Err-At.ensures in
    let F : List Word → Type 0 = λ vs. StatesOffend vs (each_from x h.to) c.in-Err-At.at in
    state_refused c.args.vars.now x h c.next_at-begin.result c.in-Err-At.at c.refused-in-Err-At.result r k c.next_at-begin.ensures.0 c.next_at-begin.ensures.2 c.if-begin-first.false l
    (subst F c.as_slice-2.ensures a.0) c.refused-in-Err-At.ensures (same_refusals c.refused-in-Err-At.result r e)
