-- All offences against the rules on declared names and on modules.
use Rattle.std.specs.Prelude.{List, ◌++◌}
use Rattle.tla_token.specs.declared.rule.Refusal.{Refusal}
use Rattle.tla_tree.specs.Tree.{Tree}
use Rattle.tla_value.specs.Outside as pure
use Rattle.pcal_tree.specs.declared.algorithm.Algorithm.{Algorithm}
use Rattle.pcal_tree.specs.Algorithm as tree
use Rattle.pcal_tree.specs.Outside.{unit_names}
use Rattle.pcal_tree.specs.OffencesModules.{module_needs, outside_variables}
use Rattle.pcal_tree.specs.OffencesNames.{repeated_names}
use Rattle.pcal_tree.specs.OffencesReserved.{reserved_declared}
use Rattle.module_outside.specs.declared.modules.Modules.{Modules}
use Rattle.declared_rules.specs.Parts.{parts_of_algorithm}
use Rattle.declared_rules.specs.Finding.{parts_offences}
use Rattle.declared_rules.specs.Titles.{kept_titles, other_titles, title_offences, outside_offences}

-- names declared twice, reserved names, needs of modules, and variables outside
abbrev pub declared_offences : tree.Algorithm → pure.Outside → List Refusal
declared_offences a o = repeated_names a o ++ (reserved_declared a o ++ (module_needs a o ++ outside_variables o))

-- as they are found, where these modules are extended
abbrev pub offences_found : Modules → List Tree → Algorithm → pure.Outside → List Refusal
offences_found m ts a o = outside_offences m o ++ (title_offences m (unit_names o) (kept_titles a) (other_titles a) ++ parts_offences m (parts_of_algorithm ts a))
