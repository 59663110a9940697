-- Proves the law `bound_names_in_macros_are_looked_at_once`.
use Rattle.pcal_tree.specs.OffencesRebind.{rebind_offences_by, rebind_offences_of}
use Rattle.pcal_tree.proofs.FirstLaws.{same_offences}
use Rattle.pcal_tree.proofs.RebindsByMacro.{by_bindings, rebinds_alike, first_rebind_alike}
use Rattle.pcal_tree.proofs.laws.bound_names_in_macros_are_looked_at_once.Goals as goal

pub returns-clause-offences : goal.returns-clause-offences
returns-clause-offences c = λ a o. same_offences (rebind_offences_of a o) (rebind_offences_by (by_bindings o.extended a.procedures) a o) (rebinds_alike a o)

pub returns-clause-first : goal.returns-clause-first
returns-clause-first c = first_rebind_alike
