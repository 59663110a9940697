-- Proves that the first offence of a use is found.
use Rattle.std.proofs.Common.{true, false, bytes_eq, codes, sym, ap, ◌∙◌}
use Rattle.pcal_tree.specs.Algorithm.{Name}
use Rattle.algorithm_answer.proofs.Joins.{joined_none}
use Rattle.read_rules.proofs.RefusalLaws.{self_too}
use Rattle.read_rules.proofs.refusals.with_use.Goals as goal

pub returns-then-is_self : goal.returns-then-is_self
returns-then-is_self c = λ ds a.
    c.with_names.ensures ds a
    ∙ self_too ds c.args.identity.now c.args.after.now c.args.one.now true (sym c.if-is_self.true ∙ c.is_self.ensures ∙ ap (λ (n : Name). bytes_eq (codes "self") n.word) c.one.view_is)
    c.args.so_far c.with_name-found.result (c.with_name-found.ensures ds a)

pub returns-else-is_self : goal.returns-else-is_self
returns-else-is_self c = λ ds a.
    sym (joined_none c.with_name-found.result)
    ∙ self_too ds c.args.identity.now c.args.after.now c.args.one.now false (sym c.if-is_self.false ∙ c.is_self.ensures ∙ ap (λ (n : Name). bytes_eq (codes "self") n.word) c.one.view_is)
    c.args.so_far c.with_name-found.result (c.with_name-found.ensures ds a)
