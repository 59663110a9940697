-- Proves that a call of a procedure offends what is kept of it.
use Rattle.std.proofs.Common.{◌-◌, ap, sym, ◌∙◌}
use Rattle.tla_token.specs.declared.rule.Rule.TheVariants.{Unknown}
use Rattle.pcal_tree.specs.Algorithm.{Name}
use Rattle.pcal_tree.specs.Offences.{offence}
use Rattle.algorithm_limits.specs.Numbers.{number_of}
use Rattle.name_rules.specs.Calling.{wrong_number}
use Rattle.name_rules.proofs.TellLaws.{tells_as}
use Rattle.name_rules.proofs.CallLaws.{procedure_called, procedure_some}
use Rattle.name_rules.proofs.found.Found.call_procedure.Goals as goal

pub returns-then-past-eq0 : goal.returns-then-past-eq0
returns-then-past-eq0 c = λ C ps m.
    procedure_called c.args.callees.now C ps c.args.self.now c.refuse.new.self 0 c.args.place c.args.name.now c.args.arguments m
    (sym c.if-past-eq0.true ∙ c.get-past.ensures ∙ ap (λ (x : Name). number_of c.args.callees.now.procedures x.word) c.name.view_is)
    (c.refuse.ensures (offence Unknown c.args.place) c.or_offence.ensures)

pub returns-else-past-eq0 : goal.returns-else-past-eq0
returns-else-past-eq0 c = λ C ps m.
    let past = c.get-past.result in
    procedure_called c.args.callees.now C ps c.args.self.now c.refuse-else-past-eq0.new.self past c.args.place c.args.name.now c.args.arguments m
    (c.get-past.ensures ∙ ap (λ (x : Name). number_of c.args.callees.now.procedures x.word) c.name.view_is)
    (tells_as c.args.self.now c.refuse-else-past-eq0.new.self _ _
    (λ r. ap (λ (x : Name). wrong_number (past - 1) c.args.arguments x.place) c.name.view_is ∙ procedure_some past c.args.place c.args.name.now c.args.arguments c.if-past-eq0.false)
    (c.refuse-else-past-eq0.ensures (wrong_number (past - 1) c.args.arguments c.name.inside.place) c.or_offence-else-past-eq0.ensures))
