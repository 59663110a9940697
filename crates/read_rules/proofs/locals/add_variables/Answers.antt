-- Proves that all variables are added.
use Rattle.std.proofs.lemmas.Result.{on_ok_weaker}
use Rattle.std.proofs.Common.{◌++◌, ap}
use Rattle.std.specs.List.{flat_map}
use Rattle.algorithm_limits.proofs.BoundLemmas.{hides_then, hides_as}
use Rattle.read_rules.specs.NumbersIn.{declared_in}
use Rattle.read_rules.specs.Locals.{procedure_words, main_words}
use Rattle.read_rules.proofs.locals.add_variables.Goals as goal

pub returns : goal.returns
returns c =
    on_ok_weaker c.add_main.result
    (λ done.
    let a = c.args.algorithm.now in
    let old = c.args.names.now in
    let first = c.add_declared.new.names in
    let next = c.add_procedures.new.names in
    let last = c.add_main.new.names in
    hides_then old first last (declared_in a.globals.items) (flat_map procedure_words a.procedures.items ++ main_words a.main) (hides_as old first _ _ (ap declared_in c.deref.ensures.value) c.in_ok-add_declared.ensures)
    (hides_then first next last (flat_map procedure_words a.procedures.items) (main_words a.main) (hides_as first next _ _ (ap (flat_map procedure_words) c.deref-2.ensures.value) c.in_ok-add_procedures.ensures) done)) c.add_main.ensures
