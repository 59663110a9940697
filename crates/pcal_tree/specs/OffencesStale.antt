-- Uses of definitions that read a variable after the step has assigned it ("A PlusCal User's Manual", sections 3.6, definitions, and 3.7, labels).
use Rattle.std.specs.Prelude.{List, [], ◌∷◌, ◌++◌, reverse, map, cond, bytes_eq, codes}
use Rattle.std.specs.List.{flat_map}
use Rattle.tla_token.specs.declared.place.Place.{Place}
use Rattle.tla_token.specs.declared.rule.Rule.TheVariants.{DefinedStale}
use Rattle.tla_token.specs.declared.rule.Refusal.{Refusal}
use Rattle.tla_tree.specs.Tree.{Word}
use Rattle.pcal_tree.specs.Algorithm.{Name, goto, call, Statements, Procedure, Process, Main, alone, processes, Algorithm}
use Rattle.pcal_tree.specs.Expand.{expanded}
use Rattle.pcal_tree.specs.Offences.{offence_if}
use Rattle.pcal_tree.specs.Paths.{has_assigned}
use Rattle.pcal_tree.specs.Reads.{named, used, initial, Reading, through, readings_of}
use Rattle.pcal_tree.specs.Spots.{Spot, Further, spots_in}
use Rattle.pcal_tree.specs.Variables.{declared}

-- ---- what calls and jumps use

-- the initial values of a procedure's variables, which see all its names
abbrev pub used_by_variables : Procedure → List Name
used_by_variables p = flat_map (λ d. flat_map (λ e. used e (declared (p.params ++ p.variables))) (initial d.start)) p.variables

abbrev pub used_by_call : List Procedure → Name → List Name
used_by_call [] q = []
used_by_call (p ∷ ps) q = cond (bytes_eq p.name.word q.word) (used_by_variables p) (used_by_call ps q)

abbrev pub self_at : Place → Name
self_at at = named (codes "self") at

-- a jump sets `pc` at `self`, and a call of a procedure evaluates its initial values
abbrev pub jumps_use : List Procedure → Further
jumps_use ps at (goto l) = self_at at ∷ []
jumps_use ps at (call q ts) = self_at at ∷ map (λ n. named n.word at) (used_by_call ps q)
jumps_use ps at _ = []

-- ---- offences

-- a name, and those that the expression uses for which `self` stands
abbrev pub stands_for : List Name → Name → List Name
stands_for ns n = n ∷ cond (bytes_eq (codes "self") n.word) ns []

abbrev pub stale_at : List Reading → List Name → Spot → List Refusal
stale_at ds ns s = flat_map (λ n. offence_if (has_assigned s.path (through ds n.word)) DefinedStale n.place) (stands_for ns s.name)

-- what is used in a body, where the names xs are its own
abbrev pub Looking : Type 0
Looking = List Word → Statements → List Spot

-- where `self` uses the names ns
abbrev pub stale_in : Looking → List Reading → List Name → List Word → Statements → List Refusal
stale_in L ds ns xs b = flat_map (stale_at ds ns) (L xs b)

abbrev pub stale_in_procedure : Looking → List Reading → Procedure → List Refusal
stale_in_procedure L ds p = stale_in L ds [] (declared (p.params ++ p.variables)) p.body

-- in a single process `self` is its expression
abbrev pub stale_in_process : Looking → List Reading → Process → List Refusal
stale_in_process L ds p = stale_in L ds (cond p.several [] (used p.identity [])) (declared p.variables) p.body

abbrev pub stale_in_main : Looking → List Reading → Main → List Refusal
stale_in_main L ds (alone b) = stale_in L ds [] [] b
stale_in_main L ds (processes ps) = flat_map (stale_in_process L ds) ps

abbrev pub stale_offences_by : Looking → Algorithm → List Refusal
stale_offences_by L a = flat_map (stale_in_procedure L (readings_of a)) a.procedures ++ stale_in_main L (readings_of a) a.main

-- with macro calls written out
abbrev pub written_out_spots : Algorithm → Looking
written_out_spots a xs b = spots_in (jumps_use a.procedures) (expanded (reverse a.macros) b) xs

-- of an algorithm with its labels added
abbrev pub stale_offences : Algorithm → List Refusal
stale_offences a = stale_offences_by (written_out_spots a) a
