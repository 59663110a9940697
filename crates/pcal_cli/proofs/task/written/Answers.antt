-- Proves that the text of a map is promised, and that nothing is wrong with its file, nor with one that is translated or made.
use Rattle.std.proofs.Common.{IfOk, Bool, None, ap, sym, subst}
use Rattle.file_answer.specs.Checking.{AnswersChecking}
use Rattle.promise.specs.Options.{Options}
use Rattle.pcal_cli.specs.Asked.{Accepts, Promises}
use Rattle.pcal_cli.specs.Tasks.{as_command}
use Rattle.pcal_cli.specs.declared.task.Task.{Task}
use Rattle.pcal_cli.proofs.Told.{both_ok}
use Rattle.pcal_cli.proofs.task.written.Goals as goal

pub returns-in-Map-clause-promises : goal.returns-in-Map-clause-promises
returns-in-Map-clause-promises c =
    subst (λ (t : Task). IfOk c.map_text.result (λ w. Promises (as_command t) c.args.text.now w.items)) (sym c.in-Map.is) (both_ok _ _ c.map_text.result c.map_text.ensures.mapped c.map_text.ensures.clean)

pub returns-in-Map-clause-clean : goal.returns-in-Map-clause-clean
returns-in-Map-clause-clean c = subst (λ (t : Task). IfOk c.map_text.result (λ w. Accepts (as_command t) c.args.text.now)) (sym c.in-Map.is) c.map_text.ensures.clean

pub returns-in-Translate-clause-clean : goal.returns-in-Translate-clause-clean
returns-in-Translate-clause-clean c =
    subst (λ (t : Task). IfOk c.translate_text.result (λ w. Accepts (as_command t) c.args.text.now)) (sym c.in-Translate.is)
    (subst (λ (b : Bool). IfOk c.translate_text.result (λ w. AnswersChecking b c.args.text.now None)) (ap (λ (o : Options). o.label) c.as_options.ensures) c.translate_text.ensures.clean)
