-- Proves that the variables are those of the translation.
use Rattle.std.proofs.Common.{List, ◌++◌, ap, ◌∙◌}
use Rattle.pcal_tree.specs.declared.algorithm.Declaration.{Declaration}
use Rattle.draft.specs.RoutineNames.{words_of}
use Rattle.draft.proofs.NameLaws.{all_variables}
use Rattle.draft.proofs.variables.variables.Goals as goal

pub returns : goal.returns
returns c = λ ts P e same.
    all_variables ts c.args.algorithm.now P e c.new-names.result c.add_globals.new.into c.add_all.new.into c.new-names.ensures
    (c.in_ok-add_globals.ensures ∙ ap (λ (ds : List Declaration). c.new-names.result ++ words_of ds) c.deref.ensures.value)
    (c.in_ok-add_all.ensures ts P e same)
