-- Whether names that an expression looks up, as those of definitions, are bound in the statements of an algorithm ("A PlusCal User's Manual", section 3.2, with; "Specifying
-- Systems", sections 16.1.1 and 16.1.5).
use Rattle.std.specs.Prelude.{List, [], ◌∷◌, ◌++◌, Bool, ◌||◌, reverse, codes, map}
use Rattle.std.specs.List.{list_any}
use Rattle.tla_token.specs.Signs.{is_among}
use Rattle.tla_tree.specs.Tree.{Word}
use Rattle.pcal_tree.specs.Algorithm.{Name, Statements, Main, alone, processes, Algorithm}
use Rattle.pcal_tree.specs.BoundNames.{Lists, lists_in_body}
use Rattle.pcal_tree.specs.Expand.{expanded}
use Rattle.pcal_tree.specs.Reads.{readings_of}
use Rattle.pcal_tree.specs.Variables.{declared}

-- ---- names of a kind

abbrev pub has_one : (Word → Bool) → List Name → Bool
has_one D ns = list_any (λ n. D n.word) ns

abbrev pub lists_have_one : (Word → Bool) → Lists → Bool
lists_have_one D xss = list_any (has_one D) xss

-- one is among the names xs, or is bound in the text of the statements
abbrev pub bound_in_text : (Word → Bool) → List Word → Statements → Bool
bound_in_text D xs b = list_any D xs || lists_have_one D (lists_in_body b)

-- `self`, or the name of a definition
abbrev pub may_be_stale : Algorithm → Word → Bool
may_be_stale a x = is_among (codes "self" ∷ map (λ d. d.title) (readings_of a)) x

-- ---- with macro calls written out

abbrev pub rebinds_in : Algorithm → List Word → Statements → Bool
rebinds_in a xs b = bound_in_text (may_be_stale a) xs (expanded (reverse a.macros) b)

abbrev pub rebinds_in_main : Algorithm → Main → Bool
rebinds_in_main a (alone b) = rebinds_in a [] b
rebinds_in_main a (processes ps) = list_any (λ p. rebinds_in a (declared p.variables) p.body) ps

-- such a name is a variable or parameter of some procedure or process, or is bound in its body or the one body
abbrev pub rebinds_definitions : Algorithm → Bool
rebinds_definitions a = list_any (λ p. rebinds_in a (declared (p.params ++ p.variables)) p.body) a.procedures || rebinds_in_main a a.main

-- ---- in the text alone

abbrev pub bound_in_main : (Word → Bool) → Main → Bool
bound_in_main D (alone b) = bound_in_text D [] b
bound_in_main D (processes ps) = list_any (λ p. bound_in_text D (declared p.variables) p.body) ps

-- such a name is bound in the text of a macro, procedure, process or body, or is a variable or parameter of a procedure or process
abbrev pub binds_definitions : Algorithm → Bool
binds_definitions a =
    list_any (λ d. bound_in_text (may_be_stale a) [] d.body) a.macros
    || (list_any (λ p. bound_in_text (may_be_stale a) (declared (p.params ++ p.variables)) p.body) a.procedures || bound_in_main (may_be_stale a) a.main)
