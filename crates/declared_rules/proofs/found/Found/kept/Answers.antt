-- Proves that the names of globals and definitions are looked at.
use Rattle.std.proofs.lemmas.Result.{on_ok_weaker}
use Rattle.std.proofs.Common.{ap}
use Rattle.declared_rules.specs.Parts.{declaration_names}
use Rattle.declared_rules.specs.Titles.{defined_names}
use Rattle.declared_rules.proofs.NameLaws.{names_as, names_then}
use Rattle.declared_rules.proofs.found.Found.kept.Goals as goal

pub returns : goal.returns
returns c =
    on_ok_weaker c.defined.result
    (λ done.
    names_then c.args.self.now c.declared.new.self c.defined.new.self _ _ (names_as c.args.self.now c.declared.new.self _ _ (ap declaration_names c.deref.ensures.value) c.in_ok-declared.ensures)
    (names_as c.declared.new.self c.defined.new.self _ _ (ap defined_names c.deref-2.ensures.value) done)) c.defined.ensures
