-- All offences against the rules on names, of an algorithm with its labels added, in a module ("A PlusCal User's Manual", section 3).
use Rattle.std.specs.Prelude.{List, ◌++◌}
use Rattle.tla_token.specs.declared.rule.Refusal.{Refusal}
use Rattle.pcal_tree.specs.Algorithm.{Algorithm}
use Rattle.pcal_tree.specs.OffencesModules.{module_needs, outside_variables}
use Rattle.pcal_tree.specs.OffencesNames.{use_offences_of, repeated_names}
use Rattle.pcal_tree.specs.OffencesReads.{process_offences, own_offences, order_offences}
use Rattle.pcal_tree.specs.OffencesRebind.{rebind_offences_of}
use Rattle.pcal_tree.specs.OffencesReserved.{reserved_declared}
use Rattle.pcal_tree.specs.OffencesSelf.{self_offences}
use Rattle.pcal_tree.specs.OffencesStale.{stale_offences}
use Rattle.tla_value.specs.Outside.{Outside}

-- what is found through macro calls: names used as they may not be, names bound again, definitions used after assignments
pub record ThroughCalls : Type 0 where
  pub uses : List Refusal
  pub rebound : List Refusal
  pub stale : List Refusal

-- names used as they may not be
abbrev pub offences_of_uses : ThroughCalls → Algorithm → Outside → List Refusal
offences_of_uses F a o = F.uses ++ (module_needs a o ++ outside_variables o)

-- names declared twice, bound where they are in scope, and those of the translation
abbrev pub offences_of_declarations : ThroughCalls → Algorithm → Outside → List Refusal
offences_of_declarations F a o = repeated_names a o ++ (F.rebound ++ reserved_declared a o)

-- what is read before it has a value or after it has another, and `self` where no process is
abbrev pub offences_of_reads : ThroughCalls → Algorithm → List Refusal
offences_of_reads F a = process_offences a ++ (own_offences a ++ (order_offences a ++ (F.stale ++ self_offences a)))

abbrev pub name_offences_by : ThroughCalls → Algorithm → Outside → List Refusal
name_offences_by F a o = offences_of_uses F a o ++ (offences_of_declarations F a o ++ offences_of_reads F a)

-- at each call
abbrev pub through_each_call : Algorithm → Outside → ThroughCalls
through_each_call a o = record { uses = use_offences_of a o; rebound = rebind_offences_of a o; stale = stale_offences a }

abbrev pub name_offences : Algorithm → Outside → List Refusal
name_offences a o = name_offences_by (through_each_call a o) a o
