-- The text of a translation: its units in their order, one empty line between two, each line ended by LF. A list is at an indentation, its
-- bullets in one column ("Specifying Systems", section 15.2 on lists of /\ and \/).
use Rattle.std.specs.Prelude.{ℕ, zero, suc, ◌+◌, List, [], ◌∷◌, ◌++◌, map, cond, Option, Some, None, codes}
use Rattle.tla_tree.specs.Tree.{Word, Tree}
use Rattle.tla_tree.specs.Written.{written}
use Rattle.module_tree.specs.ExprText.{operand, joined}
use Rattle.module_tree.specs.Module.{Item, test, setting, unchanged, exists, local, if_then_else, either, Items, no_items, item, Branches, no_branches, branch, Call, call, call_with, Way, one_way, some_way, Body, all_of, some_of, Fairness, Region, RegionUnit, constant_unit, variables_unit, definition_unit, vars_unit, process_set_unit, init_unit, action_unit, terminating_unit, next_unit, spec_unit, termination_unit, units_of}
use Rattle.module_tree.specs.Ways.{sets_in, processes_in}

abbrev pub blanks : ℕ → List ℕ
blanks zero = []
blanks (suc k) = 32 ∷ blanks k

-- a line, indented by k
abbrev pub line : ℕ → List ℕ → List ℕ
line k w = blanks k ++ w ++ codes "\n"

abbrev pub tuple_of : List Word → List ℕ
tuple_of xs = codes "<<" ++ joined xs ++ codes ">>"

-- ---- actions

abbrev mutual
  pub item_text : ℕ → Item → List ℕ
  item_text k (test e) = line k (codes "/\\ (" ++ written e ++ codes ")")
  item_text k (setting x e) = line k (codes "/\\ " ++ x ++ codes "' = " ++ operand e)
  item_text k (unchanged xs) = line k (codes "/\\ UNCHANGED " ++ tuple_of xs)
  item_text k (exists x s is) = line k (codes "/\\ \\E " ++ x ++ codes " \\in " ++ operand s ++ codes " :") ++ items_text (k + 5) is
  item_text k (local x e is) = line k (codes "/\\ LET " ++ x ++ codes " == " ++ written e ++ codes " IN") ++ items_text (k + 5) is
  item_text k (if_then_else p a b) =
      line k (codes "/\\ IF " ++ written p)
      ++ line (k + 3) (codes "THEN") ++ items_text (k + 5) a
      ++ line (k + 3) (codes "ELSE") ++ items_text (k + 5) b
  item_text k (either bs) = line k (codes "/\\") ++ branches_text k bs

  -- each item on a line of its own
  pub items_text : ℕ → Items → List ℕ
  items_text k no_items = []
  items_text k (item i is) = item_text k i ++ items_text k is

  pub branches_text : ℕ → Branches → List ℕ
  branches_text k no_branches = []
  branches_text k (branch is bs) = line (k + 5) (codes "\\/") ++ items_text (k + 10) is ++ branches_text k bs

abbrev pub call_text : Call → List ℕ
call_text (call a) = a
call_text (call_with a e) = a ++ codes "(" ++ written e ++ codes ")"

abbrev pub way_text : Way → List ℕ
way_text (one_way c) = call_text c
way_text (some_way x s c) = codes "\\E " ++ x ++ codes " \\in " ++ operand s ++ codes " : " ++ call_text c

abbrev pub ways_text : List Way → List ℕ
ways_text [] = []
ways_text (y ∷ ys) = line 2 (codes "\\/ " ++ way_text y) ++ ways_text ys

abbrev pub body_text : Body → List ℕ
body_text (all_of is) = items_text 2 is
body_text (some_of ys) = ways_text ys

abbrev pub parameter_text : Option Word → List ℕ
parameter_text None = []
parameter_text (Some x) = codes "(" ++ x ++ codes ")"

-- ---- fairness

abbrev pub over_text : Option (Word × Tree) → List ℕ
over_text None = []
over_text (Some (x, s)) = codes "\\A " ++ x ++ codes " \\in " ++ operand s ++ codes " : "

abbrev pub guard_text : Option Tree → List ℕ
guard_text None = []
guard_text (Some e) = codes "(" ++ written e ++ codes ") /\\ "

abbrev pub fairness_text : Fairness → List ℕ
fairness_text f =
    over_text f.over ++ cond f.strong (codes "SF_vars(") (codes "WF_vars(") ++ guard_text f.guard ++ call_text f.action ++ codes ")"

-- ---- units

abbrev pub parameters_text : List Word → List ℕ
parameters_text [] = []
parameters_text xs = codes "(" ++ joined xs ++ codes ")"

-- a /\ list of these texts, at 2
abbrev pub conjuncts_text : List (List ℕ) → List ℕ
conjuncts_text [] = []
conjuncts_text (w ∷ ws) = line 2 (codes "/\\ " ++ w) ++ conjuncts_text ws

-- sets with \cup between them
abbrev pub union_text : List Tree → List ℕ
union_text [] = []
union_text (e ∷ []) = operand e
union_text (e ∷ d ∷ es) = operand e ++ codes " \\cup " ++ union_text (d ∷ es)

-- a single set is no operand
abbrev pub sets_text : List Tree → List ℕ
sets_text (e ∷ []) = written e
sets_text es = union_text es

-- of a translation with n processes: their sets are the chain of ProcSet, which has no brackets of its own
abbrev pub unit_text : ℕ → RegionUnit → List ℕ
unit_text n (constant_unit xs) = line 0 (codes "CONSTANT " ++ joined xs)
unit_text n (variables_unit xs) = line 0 (codes "VARIABLES " ++ joined xs)
unit_text n (definition_unit d) = line 0 (d.title ++ parameters_text d.params ++ codes " == " ++ written d.body)
unit_text n (vars_unit xs) = line 0 (codes "vars == " ++ tuple_of xs)
unit_text n (process_set_unit e) = line 0 (codes "ProcSet == " ++ sets_text (sets_in n e))
unit_text n (init_unit es) = line 0 (codes "Init ==") ++ conjuncts_text (map written es)
unit_text n (action_unit a) = line 0 (a.title ++ parameter_text a.parameter ++ codes " ==") ++ body_text a.body
unit_text n (terminating_unit e) = line 0 (codes "Terminating ==") ++ item_text 2 (test e) ++ line 2 (codes "/\\ UNCHANGED vars")
unit_text n (next_unit ys) = line 0 (codes "Next ==") ++ ways_text ys
unit_text n (spec_unit fs) = line 0 (codes "Spec ==") ++ conjuncts_text (codes "Init" ∷ codes "[][Next]_vars" ∷ map fairness_text fs)
unit_text n (termination_unit e) = line 0 (codes "Termination == <>(" ++ written e ++ codes ")")

abbrev pub units_text : ℕ → List RegionUnit → List ℕ
units_text n [] = []
units_text n (u ∷ []) = unit_text n u
units_text n (u ∷ us) = unit_text n u ++ codes "\n" ++ units_text n us

-- the text of a translation, between its two lines
abbrev pub layout : Region → List ℕ
layout r = units_text (processes_in r.next) (units_of r)
