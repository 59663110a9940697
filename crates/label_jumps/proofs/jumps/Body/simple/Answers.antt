-- Proves that what a jump offends is found.
use Rattle.std.proofs.Common.{sym, ap, ◌∙◌}
use Rattle.pcal_tree.specs.declared.algorithm.Simple.{Simple}
use Rattle.pcal_tree.specs.InMemory.{simple_at}
use Rattle.pcal_tree.specs.Offences.{first}
use Rattle.pcal_tree.specs.OffencesLabels.{jump_offences_here}
use Rattle.algorithm_answer.specs.Joined.{joined}
use Rattle.label_jumps.proofs.JumpLaws.{goto_found, return_found}
use Rattle.label_jumps.proofs.jumps.Body.simple.Goals as goal

pub returns-in-Goto : goal.returns-in-Goto
returns-in-Goto c = λ ts b w s.
    goto_found c.args.self.now b w s c.args.place c.args.found c.or_offence-inside.result c.or_offence.result c.is_target.result c.in-Goto.name c.or_offence-inside.ensures c.is_target.ensures c.or_offence.ensures
    ∙ ap (λ (z : Simple). joined c.args.found (first (jump_offences_here w c.args.place (simple_at ts z)))) (sym c.in-Goto.is)

pub returns-in-Return : goal.returns-in-Return
returns-in-Return c = λ ts b w s.
    return_found c.args.self.now b w s c.args.place c.args.found c.or_offence-inside-in-Return.result c.or_offence-in-Return.result c.or_offence-inside-in-Return.ensures c.or_offence-in-Return.ensures
    ∙ ap (λ (z : Simple). joined c.args.found (first (jump_offences_here w c.args.place (simple_at ts z)))) (sym c.in-Return.is)
