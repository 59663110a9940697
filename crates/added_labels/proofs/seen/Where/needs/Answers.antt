-- Proves that it is told whether a label is added before a statement.
use Rattle.label_steps.proofs.WalksLaws.{not_label}
use Rattle.added_labels.specs.Sight.{effects_of}
use Rattle.added_labels.proofs.SightLaws.{quiet, if_ok_then}
use Rattle.added_labels.proofs.ChooseLaws.{needs_simple, needs_if, needs_either, needs_with, needs_while}
use Rattle.added_labels.proofs.seen.Where.needs.Goals as goal

pub returns-in-Label-clause-needs : goal.returns-in-Label-clause-needs
returns-in-Label-clause-needs c = λ ms a j n s st e. absurd (not_label c.args.pool.now c.args.stmt.now c.in-Label.field-0 c.in-Label.field-1 c.in-Label.is s st e)

pub returns-in_ok-step-in-Simple-clause-needs : goal.returns-in_ok-step-in-Simple-clause-needs
returns-in_ok-step-in-Simple-clause-needs c = λ ms a j n s st e p o.
    needs_simple (effects_of c.args.self.now ms) (quiet c.args.self.now ms) c.args.pool.now c.args.stmt.now j c.args.seen c.args.path.now s st e p o c.if-seen.false c.if-seen-2.false
    c.in-Simple.field-0 c.in-Simple.simple c.in_ok-step-in-Simple.step c.meets.result c.in-Simple.is (c.in_ok-step-in-Simple.ensures ms a j n) c.meets.ensures

pub returns-in-If-clause-needs : goal.returns-in-If-clause-needs
returns-in-If-clause-needs c = λ ms a j n s st e p o.
    needs_if (effects_of c.args.self.now ms) (quiet c.args.self.now ms) c.args.pool.now c.args.stmt.now j c.args.seen c.args.path.now s st e p o c.if-seen.false c.if-seen-2.false
    c.in-If.field-0 c.in-If.field-1 c.in-If.field-2 c.in-If.field-3 c.in-If.is

pub returns-in-Either-clause-needs : goal.returns-in-Either-clause-needs
returns-in-Either-clause-needs c = λ ms a j n s st e p o.
    needs_either (effects_of c.args.self.now ms) (quiet c.args.self.now ms) c.args.pool.now c.args.stmt.now j c.args.seen c.args.path.now s st e p o c.if-seen.false c.if-seen-2.false
    c.in-Either.field-0 c.in-Either.field-1 c.in-Either.is

pub returns-in-While-clause-needs : goal.returns-in-While-clause-needs
returns-in-While-clause-needs c = λ ms a j n s st e p o.
    needs_while (effects_of c.args.self.now ms) (quiet c.args.self.now ms) c.args.pool.now c.args.stmt.now j c.args.seen c.args.path.now s st e p o c.if-seen.false c.if-seen-2.false
    c.in-While.field-0 c.in-While.field-1 c.in-While.field-2 c.in-While.is

pub returns-in-With-clause-needs : goal.returns-in-With-clause-needs
returns-in-With-clause-needs c =
    if_ok_then _ _ c.lacks.result (λ r h ms a j n s st e p o.
    needs_with (effects_of c.args.self.now ms) (quiet c.args.self.now ms) c.args.pool.now c.args.stmt.now j c.args.seen c.args.path.now s st e p o c.if-seen.false c.if-seen-2.false
    c.in-With.field-0 c.in-With.field-1 c.in-With.body c.deref.result.now r c.in-With.is c.deref.ensures.value (h ms a)) c.lacks.ensures.lacks
