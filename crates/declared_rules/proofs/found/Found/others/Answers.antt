-- Proves that the names of macros, procedures and processes are looked at.
use Rattle.std.proofs.lemmas.Result.{on_ok_weaker}
use Rattle.std.proofs.Common.{ap}
use Rattle.declared_rules.specs.Titles.{macro_names, procedure_names}
use Rattle.declared_rules.proofs.NameLaws.{names_as, names_then}
use Rattle.declared_rules.proofs.found.Found.others.Goals as goal

pub returns : goal.returns
returns c =
    on_ok_weaker c.main_titles.result
    (λ done.
    names_then c.args.self.now c.macro_titles.new.self c.main_titles.new.self _ _ (names_as c.args.self.now c.macro_titles.new.self _ _ (ap macro_names c.deref.ensures.value) c.in_ok-macro_titles.ensures)
    (names_then c.macro_titles.new.self c.procedure_titles.new.self c.main_titles.new.self _ _
    (names_as c.macro_titles.new.self c.procedure_titles.new.self _ _ (ap procedure_names c.deref-2.ensures.value) c.in_ok-procedure_titles.ensures) done)) c.main_titles.ensures
