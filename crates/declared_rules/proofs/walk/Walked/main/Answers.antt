-- Proves that the names of what runs are looked at.
use Rattle.std.proofs.Common.{sym, ap, ◌∙◌}
use Rattle.std.proofs.lemmas.Result.{on_ok_weaker}
use Rattle.std.proofs.Common.{List}
use Rattle.std.specs.List.{flat_map}
use Rattle.pcal_tree.specs.declared.algorithm.Process.{Process}
use Rattle.pcal_tree.specs.declared.algorithm.Main.{Main}
use Rattle.declared_rules.specs.Parts.{body_parts, process_parts, main_parts}
use Rattle.declared_rules.proofs.WalkLaws.{adds_as}
use Rattle.declared_rules.proofs.walk.Walked.main.Goals as goal

pub returns-in-Alone : goal.returns-in-Alone
returns-in-Alone c =
    on_ok_weaker c.body.result
    (λ done ts.
    adds_as ts c.args.self.now c.body.new.self _ _ (ap (body_parts ts) c.deref.ensures.value ∙ ap (λ (m : Main). main_parts ts m) (sym c.in-Alone.is)) (done ts)) c.body.ensures

pub returns-in-Processes : goal.returns-in-Processes
returns-in-Processes c =
    on_ok_weaker c.processes.result
    (λ done ts.
    adds_as ts c.args.self.now c.processes.new.self _ _ (ap (λ (ps : List Process). flat_map (process_parts ts) ps) c.deref-in-Processes.ensures.value ∙ ap (λ (m : Main). main_parts ts m) (sym c.in-Processes.is))
    (done ts)) c.processes.ensures
