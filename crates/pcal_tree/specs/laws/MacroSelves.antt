-- `self` in macros, looked for again at each call ("A PlusCal User's Manual", sections 3.3, processes, and 3.5, macros).
use Rattle.std.specs.Prelude.{List, [], ◌∷◌, ◌++◌, reverse, cond, bytes_eq}
use Rattle.std.specs.List.{flat_map}
use Rattle.tla_token.specs.declared.rule.Refusal.{Refusal}
use Rattle.tla_tree.specs.Tree.{Word}
use Rattle.pcal_tree.specs.Algorithm.{Name, Statements, Macro, Procedure, Main, alone, processes, Algorithm}
use Rattle.pcal_tree.specs.OffencesCounts.{calls_of}
use Rattle.pcal_tree.specs.OffencesSelf.{selves, used_by_starts, used_outside, used_at_the_top}
use Rattle.pcal_tree.specs.Spots.{used_in_body}

-- the names that a body uses, and those that C says of each call
abbrev pub used_through : (Word → List Name) → Statements → List Name
used_through C b = used_in_body b ++ flat_map C (calls_of b)

-- those of the newest macro of the name, which calls older ones
abbrev pub used_by_macro : List Macro → Word → List Name
used_by_macro [] m = []
used_by_macro (d ∷ older) m = cond (bytes_eq d.name.word m) (used_through (used_by_macro older) d.body) (used_by_macro older m)

abbrev pub used_through_procedure : (Word → List Name) → Procedure → List Name
used_through_procedure C p = used_by_starts (p.params ++ p.variables) ++ used_through C p.body

abbrev pub used_outside_by_calls : (Word → List Name) → Algorithm → Main → List Name
used_outside_by_calls C a (alone b) = flat_map (used_through_procedure C) a.procedures ++ used_through C b
used_outside_by_calls C a (processes ps) = used_outside a (processes ps)

abbrev pub self_offences_by_calls : Algorithm → List Refusal
self_offences_by_calls a = selves (used_at_the_top a ++ used_outside_by_calls (used_by_macro (reverse a.macros)) a a.main)
