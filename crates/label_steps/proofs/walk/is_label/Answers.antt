-- Proves that labels are told from statements.
use Rattle.std.proofs.Common.{false, sym, subst}
use Rattle.pcal_tree.specs.declared.algorithm.Stmt.{Stmt}
use Rattle.label_steps.specs.WalksIn.{IsKind}
use Rattle.label_steps.proofs.WalksLaws.{kind_simple, kind_if, kind_either, kind_with, kind_while}
use Rattle.label_steps.proofs.walk.is_label.Goals as goal

pub returns-in-Simple : goal.returns-in-Simple
returns-in-Simple c = λ ts. subst (λ (z : Stmt). IsKind false ts z) (sym c.in-Simple.is) (kind_simple ts c.in-Simple.field-0 c.in-Simple.field-1)

pub returns-in-If : goal.returns-in-If
returns-in-If c = λ ts. subst (λ (z : Stmt). IsKind false ts z) (sym c.in-If.is) (kind_if ts c.in-If.field-0 c.in-If.field-1 c.in-If.field-2 c.in-If.field-3)

pub returns-in-Either : goal.returns-in-Either
returns-in-Either c = λ ts. subst (λ (z : Stmt). IsKind false ts z) (sym c.in-Either.is) (kind_either ts c.in-Either.field-0 c.in-Either.field-1)

pub returns-in-With : goal.returns-in-With
returns-in-With c = λ ts. subst (λ (z : Stmt). IsKind false ts z) (sym c.in-With.is) (kind_with ts c.in-With.field-0 c.in-With.field-1 c.in-With.field-2)

pub returns-in-While : goal.returns-in-While
returns-in-While c = λ ts. subst (λ (z : Stmt). IsKind false ts z) (sym c.in-While.is) (kind_while ts c.in-While.field-0 c.in-While.field-1 c.in-While.field-2)
