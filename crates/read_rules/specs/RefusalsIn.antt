-- Uses of definitions after what they read was assigned, in memory.
use Rattle.std.specs.Prelude.{List, [], false, Some, map}
use Rattle.std.specs.List.{flat_map}
use Rattle.tla_token.specs.declared.rule.Rule.TheVariants.{DefinedStale}
use Rattle.tla_token.specs.declared.rule.Refusal.{Refusal}
use Rattle.tla_tree.specs.Tree.{Word}
use Rattle.pcal_tree.specs.Algorithm.{Name, Procedure}
use Rattle.pcal_tree.specs.Offences.{offence_if}
use Rattle.pcal_tree.specs.OffencesStale.{stands_for, Looking}
use Rattle.pcal_tree.specs.Paths.{meets}
use Rattle.pcal_tree.specs.Reads.{Reading, through}
use Rattle.pcal_tree.specs.laws.MacroSpots.{MacroSeen, seen_in, seen_in_call, spot_of, starting}
use Rattle.read_rules.specs.declared.uses.Use.{Use}

-- a name where these were assigned before
abbrev pub name_offence : List Reading → List Word → Name → List Refusal
name_offence ds xs n = offence_if (meets xs (through ds n.word)) DefinedStale n.place

abbrev pub use_offences : List Reading → List Name → List Word → Use → List Refusal
use_offences ds ns xs u = flat_map (name_offence ds xs) (stands_for ns u.name)

-- what is used in a body, by what is seen in macros
abbrev pub looking : List MacroSeen → List Procedure → Looking
looking ms ps xs b = map spot_of (seen_in (seen_in_call ms) ps b (starting false (Some [])))
