-- Proves that the names of what runs are looked at.
use Rattle.std.proofs.Common.{sym, ap, ◌∙◌}
use Rattle.std.proofs.lemmas.Result.{on_ok_weaker}
use Rattle.declared_rules.specs.Titles.{process_names, main_names}
use Rattle.declared_rules.proofs.NameLaws.{names_as, names_none}
use Rattle.declared_rules.proofs.found.Found.main_titles.Goals as goal

pub returns-in-Alone : goal.returns-in-Alone
returns-in-Alone c = names_as c.args.self.now c.args.self.now _ _ (ap main_names (sym c.in-Alone.is)) (names_none c.args.self.now)

pub returns-in-Processes : goal.returns-in-Processes
returns-in-Processes c =
    on_ok_weaker c.process_titles.result
    (λ done.
    names_as c.args.self.now c.process_titles.new.self _ _ (ap process_names c.deref.ensures.value ∙ ap main_names (sym c.in-Processes.is)) done) c.process_titles.ensures
