-- Proves the law `uses_in_macros_are_looked_at_once`.
use Rattle.pcal_tree.specs.OffencesNames.{use_offences_by, use_offences_of}
use Rattle.pcal_tree.specs.laws.MacroUses.{macro_uses, offences_by_uses}
use Rattle.std.specs.Prelude.{reverse}
use Rattle.pcal_tree.proofs.FirstLaws.{same_offences}
use Rattle.pcal_tree.proofs.UsesByMacro.{uses_alike, first_alike}
use Rattle.pcal_tree.proofs.laws.uses_in_macros_are_looked_at_once.Goals as goal

pub returns-clause-offences : goal.returns-clause-offences
returns-clause-offences c = λ a o. same_offences (use_offences_of a o) (use_offences_by (offences_by_uses (macro_uses (reverse a.macros) a.procedures)) a o) (uses_alike a o)

pub returns-clause-first : goal.returns-clause-first
returns-clause-first c = first_alike
