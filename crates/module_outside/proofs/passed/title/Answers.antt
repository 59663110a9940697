-- Proves that a title is the name before `==`.
use Rattle.std.proofs.Common.{Vec, Global, ap, ◌∙◌, arith}
use Rattle.std.proofs.lemmas.Result.{IfOk-from_err}
use Rattle.tla_tree.specs.declared.name.Name.{Name}
use Rattle.module_outside.proofs.PassedLaws.{has_title, has_none}
use Rattle.module_outside.proofs.passed.title.Goals.{then-is_mark_at+in_ok-identifier_at+in_ok-with_identifier, else-is_mark_at}
use Rattle.module_outside.proofs.passed.title.Goals as goal

pub returns-in_err-identifier_at : goal.returns-in_err-identifier_at
returns-in_err-identifier_at c = IfOk-from_err c.from_residual.result _ c.from_residual.ensures.0

pub returns-in_err-with_identifier : goal.returns-in_err-with_identifier
returns-in_err-with_identifier c = IfOk-from_err c.from_residual-in_err-with_identifier.result _ c.from_residual-in_err-with_identifier.ensures.0

pub identifier_at-requires : goal.identifier_at-requires
identifier_at-requires c = (let h = c.is_mark_at.ensures.there c.if-is_mark_at.true in omega (arith, h))

pub returns : goal.returns
returns c =
    elim c.if-is_mark_at.branch [
      | then-is_mark_at+in_ok-identifier_at+in_ok-with_identifier w ↦
          ap (λ (ns : Vec Name Global). ns.items) w.names-is
          ∙ has_title c.args.unit.now c.is_mark_at.result w.in_ok-identifier_at.field-0 c.new-names.result.items w.with_identifier.new.names.items c.is_mark_at.ensures.value w.if-is_mark_at.true w.in_ok-identifier_at.ensures c.new-names.ensures.items w.in_ok-with_identifier.ensures
      | else-is_mark_at w ↦
          ap (λ (ns : Vec Name Global). ns.items) w.names-is ∙ has_none c.args.unit.now c.is_mark_at.result c.new-names.result.items c.is_mark_at.ensures.value w.if-is_mark_at.false c.new-names.ensures.items
    ]
