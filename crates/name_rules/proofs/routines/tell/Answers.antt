-- Proves that the first offence is told.
use Rattle.std.proofs.Common.{sym, ◌∙◌}
use Rattle.pcal_tree.specs.NameUses as names
use Rattle.pcal_tree.specs.Offences.{first}
use Rattle.pcal_tree.specs.laws.MacroUses.{offences_as}
use Rattle.algorithm_answer.proofs.Joins.{joined_none}
use Rattle.declared_rules.specs.UsesTold.{use_seen, use_as}
use Rattle.name_rules.proofs.RoutineLaws.{told_step, told_all}
use Rattle.name_rules.proofs.routines.tell.Goals as goal

pub loop-i-init : goal.loop-i-init
loop-i-init c = λ s xs h n. sym (joined_none c.args.found.now.first)

pub loop-i-preserved : goal.loop-i-preserved
loop-i-preserved c = λ s xs h n.
    let u = c.index-uses-i.result in
    told_step c.args.sight.now c.args.found.now.bound xs s c.args.found.now.first c.loop-i.first c.offence_as.result c.least-first.result c.as_slice-uses.result.now c.loop-i.i u h n c.index-uses-i.is c.loop-i-test.true
    (c.offence_as.ensures u.name ∙ (λ z. first (offences_as (use_seen (c.use_within-known.ensures z)) (use_as u.kind u.name (c.place.ensures z)))))
    c.least-first.ensures (c.loop-i.invariant s xs h n)

pub returns : goal.returns
returns c = λ s xs h n.
    told_all c.args.found.now.first c.loop-i.first c.args.found.now.free.keys c.as_slice-uses.result.now c.loop-i.i (names.seeing_variables xs s) c.as_slice-uses.ensures.keys c.loop-i-test.false (c.loop-i.invariant s xs h n)
