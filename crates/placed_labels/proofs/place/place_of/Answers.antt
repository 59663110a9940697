-- Proves that a statement has its place.
use Rattle.std.proofs.Common.{refl, ap, ◌∙◌}
use Rattle.tla_tree.specs.Pool.{at}
use Rattle.pcal_tree.specs.Algorithm.{branch, either, with, while}
use Rattle.pcal_tree.specs.InMemory.{span_of, simple_at, binds_at, stmt_at, statements_at, branches_at}
use Rattle.pcal_tree.proofs.InMemoryEach.{simple_in_list_at, if_at, either_at, with_at, while_at}
use Rattle.placed_labels.proofs.place.place_of.Goals as goal

pub returns-in-Simple : goal.returns-in-Simple
returns-in-Simple c = λ ts. (span_of c.in-Simple.span, simple_at ts c.in-Simple.field-1, ap (stmt_at ts) c.in-Simple.is ∙ simple_in_list_at ts c.in-Simple.span c.in-Simple.field-1, refl)

pub returns-in-If : goal.returns-in-If
returns-in-If c = λ ts. (
  span_of c.in-If.span,
  branch (at ts c.in-If.field-1) (statements_at ts c.in-If.field-2.items) (statements_at ts c.in-If.field-3.items),
  ap (stmt_at ts) c.in-If.is ∙ if_at ts c.in-If.span c.in-If.field-1 c.in-If.field-2 c.in-If.field-3,
  refl,
)

pub returns-in-Either : goal.returns-in-Either
returns-in-Either c = λ ts. (span_of c.in-Either.span, either (branches_at ts c.in-Either.field-1.items), ap (stmt_at ts) c.in-Either.is ∙ either_at ts c.in-Either.span c.in-Either.field-1, refl)

pub returns-in-With : goal.returns-in-With
returns-in-With c = λ ts. (
  span_of c.in-With.span,
  with (binds_at ts c.in-With.field-1.items) (statements_at ts c.in-With.field-2.items),
  ap (stmt_at ts) c.in-With.is ∙ with_at ts c.in-With.span c.in-With.field-1 c.in-With.field-2,
  refl,
)

pub returns-in-While : goal.returns-in-While
returns-in-While c = λ ts. (
  span_of c.in-While.span,
  while (at ts c.in-While.field-1) (statements_at ts c.in-While.field-2.items),
  ap (stmt_at ts) c.in-While.is ∙ while_at ts c.in-While.span c.in-While.field-1 c.in-While.field-2,
  refl,
)
