-- Worked rows: units that are read of their texts, how many forms open in them and what is refused at a bound, translations of their units, and a module of its text, by computation.
use Rattle.std.proofs.Common.{◌≡◌, ℕ, false, List, [], ◌∷◌, Option, Some, None, Ok, Err, codes, refl}
use Rattle.std.specs.Prelude.{option_map}
use Rattle.tla_token.specs.declared.place.Place.{Place}
use Rattle.tla_token.specs.declared.rule.Rule.{Rule}
use Rattle.tla_token.specs.declared.rule.Rule.TheVariants.{TooDeep, Syntax}
use Rattle.tla_token.specs.Cut.{tokens}
use Rattle.tla_tree.specs.Tree.{Word, Tree, name, number, strict, operator, node, no_trees, tree}
use Rattle.tla_tree.specs.declared.op.Op.TheVariants as op
use Rattle.tla_tree.specs.Lexical.{Token}
use Rattle.tla_tree.specs.TokenViews.{views}
use Rattle.tla_tree.specs.Nesting.{text_nesting}
use Rattle.tla_tree.specs.Reader.{Out, readers, readers_in, read}
use Rattle.module_tree.specs.Module.{test, setting, unchanged, exists, local, if_then_else, either, no_items, item, no_branches, branch, call, call_with, one_way, some_way, Body, all_of, some_of, Fairness, Way, Region, Module, RegionUnit, constant_unit, variables_unit, definition_unit, vars_unit, process_set_unit, init_unit, action_unit, terminating_unit, next_unit, spec_unit, termination_unit, units_of}
use Rattle.module_tree.specs.Grammar.{last_name, more_names}
use Rattle.module_tree.specs.Units.{UnitForm}
use Rattle.region_reading.specs.Bound.{Bound, unbounded, bounded}
use Rattle.region_reading.specs.Opens.{unit_opens}
use Rattle.region_reading.specs.Nests.{list_nests, item_nests, region_nests}
use Rattle.region_reading.specs.NameReader.{names_in, parameters_in}
use Rattle.region_reading.specs.ItemReader.{item_readers}
use Rattle.region_reading.specs.UnitReader.{unit_by, form_within, form_in, unit_in}
use Rattle.region_reading.specs.RegionReader.{region_in}
use Rattle.region_reading.specs.ModuleReader.{module_in}

abbrev at : ℕ → ℕ → Place
at l c = record { line = l; col = c }

abbrev seen : List ℕ → List Token
seen text = views (tokens text)

abbrev name_at : ℕ → ℕ → List ℕ → Tree
name_at l c x = node (name x) (at l c) no_trees

-- ---- names and parameters

names : names_in 1 (seen (codes "  a, b)")) ≡ Ok (more_names (at 1 3) (codes "a") (at 1 4) (last_name (at 1 6) (codes "b")), seen (codes "      )"))
names = refl

no_parameters : parameters_in unbounded (seen (codes "  == a")) ≡ Ok (None, seen (codes "  == a"))
no_parameters = refl

-- ---- units

constant : unit_in (seen (codes "CONSTANT defaultInitValue")) ≡ Some (constant_unit (codes "defaultInitValue" ∷ []))
constant = refl

-- what is in column 1 goes on no unit
left : unit_in (seen (codes "VARIABLES x,\ny")) ≡ None
left = refl

definition : unit_in (seen (codes "N(a, b) == a")) ≡ Some (definition_unit (record { title = codes "N"; params = codes "a" ∷ codes "b" ∷ []; body = name_at 1 12 (codes "a"); outside = false }))
unfolding readers_in
definition = refl

-- a title of a translation's own defines nothing else
own_title : unit_in (seen (codes "pc == a")) ≡ None
own_title = refl

vars : unit_in (seen (codes "vars == <<x, y>>")) ≡ Some (vars_unit (codes "x" ∷ codes "y" ∷ []))
vars = refl

process_set : unit_in (seen (codes "ProcSet == S")) ≡ Some (process_set_unit (name_at 1 12 (codes "S")))
unfolding readers_in
process_set = refl

init : unit_in (seen (codes "Init ==\n  /\\ x\n  /\\ y")) ≡ Some (init_unit (name_at 2 6 (codes "x") ∷ name_at 3 6 (codes "y") ∷ []))
unfolding readers_in
init = refl

-- a bullet left of the first one is in no list
two_columns : unit_in (seen (codes "Init ==\n   /\\ x\n  /\\ y")) ≡ None
unfolding readers_in
two_columns = refl

abbrev step : Body → RegionUnit
step b = action_unit (record { title = codes "A"; parameter = None; body = b })

setting_and_unchanged : unit_in (seen (codes "A ==\n  /\\ (x)\n  /\\ x' = (y)\n  /\\ UNCHANGED <<y, z>>"))
    ≡ Some (step (all_of (item (test (name_at 2 7 (codes "x"))) (item (setting (codes "x") (name_at 3 12 (codes "y"))) (item (unchanged (codes "y" ∷ codes "z" ∷ [])) no_items)))))
unfolding readers_in item_readers
setting_and_unchanged = refl

-- what is set needs no brackets as an operand
unbracketed : unit_in (seen (codes "A ==\n  /\\ x' = y + z")) ≡ None
unfolding readers_in item_readers
unbracketed = refl

-- lists within items go by their columns
within : unit_in (seen (codes "A(self) ==\n  /\\ IF (x) THEN\n    /\\ (y)\n    ELSE\n    /\\ (z)\n  /\\\n    \\/ /\\ (x)\n    \\/ /\\ (y)"))
    ≡ Some (action_unit (record {
      title = codes "A";
      parameter = Some (codes "self");
      body = all_of (item (if_then_else (name_at 2 10 (codes "x")) (item (test (name_at 3 9 (codes "y"))) no_items) (item (test (name_at 5 9 (codes "z"))) no_items))
          (item (either (branch (item (test (name_at 7 12 (codes "x"))) no_items) (branch (item (test (name_at 8 12 (codes "y"))) no_items) no_branches))) no_items));
    }))
unfolding readers_in item_readers
within = refl

bound : unit_in (seen (codes "A ==\n  /\\ \\E x \\in S :\n    /\\ LET y == x IN\n      /\\ (y)"))
    ≡ Some (step (all_of (item (exists (codes "x") (name_at 2 15 (codes "S")) (item (local (codes "y") (name_at 3 17 (codes "x")) (item (test (name_at 4 11 (codes "y"))) no_items)) no_items)) no_items)))
unfolding readers_in item_readers
bound = refl

calls : unit_in (seen (codes "A ==\n  \\/ B\n  \\/ C(x)")) ≡ Some (step (some_of (one_way (call (codes "B")) ∷ one_way (call_with (codes "C") (name_at 3 8 (codes "x"))) ∷ [])))
unfolding readers_in
calls = refl

terminating : unit_in (seen (codes "Terminating ==\n  /\\ (x)\n  /\\ UNCHANGED vars")) ≡ Some (terminating_unit (name_at 2 7 (codes "x")))
unfolding readers_in
terminating = refl

next : unit_in (seen (codes "Next ==\n  \\/ \\E self \\in S : P(self)\n  \\/ Terminating"))
    ≡ Some (next_unit (some_way (codes "self") (name_at 2 18 (codes "S")) (call_with (codes "P") (name_at 2 24 (codes "self"))) ∷ one_way (call (codes "Terminating")) ∷ []))
unfolding readers_in
next = refl

abbrev fair : Fairness
fair = record { over = Some (codes "self", name_at 4 18 (codes "S")); strong = false; guard = Some (name_at 4 31 (codes "x")); action = call_with (codes "P") (name_at 4 39 (codes "self")) }

spec : unit_in (seen (codes "Spec ==\n  /\\ Init\n  /\\ [][Next]_vars\n  /\\ \\A self \\in S : WF_vars((x) /\\ P(self))")) ≡ Some (spec_unit (fair ∷ []))
unfolding readers_in
spec = refl

-- the first two conjuncts of Spec are always there
no_steps : unit_in (seen (codes "Spec ==\n  /\\ Init\n  /\\ Init")) ≡ None
no_steps = refl

termination : unit_in (seen (codes "Termination == <>(x)")) ≡ Some (termination_unit (name_at 1 19 (codes "x")))
unfolding readers_in
termination = refl

-- ---- how many forms open, and bounds on them

abbrev opens : List ℕ → Option ℕ
opens text = option_map (unit_opens text_nesting) (form_in (seen text))

none_opens : opens (codes "VARIABLES x, y") ≡ Some 0
none_opens = refl

-- the brackets of parameters, and those of the body
parameters_open : opens (codes "N(a, b) == a") ≡ Some 1
unfolding readers_in
parameters_open = refl

tuple_opens : opens (codes "vars == <<x, y>>") ≡ Some 1
tuple_opens = refl

-- the list, and what is added in it
init_opens : opens (codes "Init ==\n  /\\ x = 1\n  /\\ y") ≡ Some 2
unfolding readers_in
init_opens = refl

-- the list, and `=`, `UNCHANGED` and its tuple
settings_open : opens (codes "A ==\n  /\\ x' = (y)\n  /\\ UNCHANGED <<y, z>>") ≡ Some 3
unfolding readers_in item_readers
settings_open = refl

-- the list, `IF`, its list, branches, their list, and the brackets of the test
branches_open : opens (codes "A ==\n  /\\ IF (x) THEN\n    /\\ \\/ /\\ (y)\n    ELSE\n    /\\ (z)") ≡ Some 6
unfolding readers_in item_readers
branches_open = refl

-- the list, `\E`, and the brackets of the call
next_opens : opens (codes "Next ==\n  \\/ \\E self \\in S : P(self)\n  \\/ Terminating") ≡ Some 3
unfolding readers_in
next_opens = refl

-- the list, `[]`, and the brackets of its step
steps_open : opens (codes "Spec ==\n  /\\ Init\n  /\\ [][Next]_vars") ≡ Some 3
steps_open = refl

-- the list, `\A`, the brackets of `WF_vars`, the `/\` in them, and the brackets of the call
fairness_opens : opens (codes "Spec ==\n  /\\ Init\n  /\\ [][Next]_vars\n  /\\ \\A self \\in S : WF_vars((x) /\\ P(self))") ≡ Some 5
unfolding readers_in
fairness_opens = refl

-- `<>` and the brackets
termination_opens : opens (codes "Termination == <>(x)") ≡ Some 2
unfolding readers_in
termination_opens = refl

-- where so many forms may open, and expressions are read however deep they nest
abbrev up_to : ℕ → Bound
up_to l = bounded (λ n e. read e) l

-- the rule of a refusal, and the tokens from the refused one on
abbrev stop_of : Out UnitForm → Option (Rule × List Token)
stop_of (Err s) = Some s
stop_of (Ok x) = None

abbrev stop : ℕ → List Token → Option (Rule × List Token)
stop l [] = None
stop l (t ∷ ts) = stop_of (unit_by (up_to l) t.place t.kind ts)

-- too deep at the bracket, in the list
bracket_too_deep : stop 1 (seen (codes "A ==\n  /\\ (x)")) ≡ Some (TooDeep, seen (codes "\n     (x)"))
unfolding readers_in item_readers
bracket_too_deep = refl

-- at the list itself
list_too_deep : stop 0 (seen (codes "A ==\n  /\\ (x)")) ≡ Some (TooDeep, seen (codes "\n  /\\ (x)"))
unfolding readers_in item_readers
list_too_deep = refl

-- at a tuple, past `UNCHANGED`
tuple_too_deep : stop 2 (seen (codes "A ==\n  /\\ UNCHANGED <<y, z>>")) ≡ Some (TooDeep, seen (codes "\n               <<y, z>>"))
unfolding readers_in item_readers
tuple_too_deep = refl

-- what stands there in place of what would open a form is refused as it is without a bound
no_tuple : stop 2 (seen (codes "A ==\n  /\\ UNCHANGED y")) ≡ Some (Syntax, seen (codes "\n               y"))
unfolding readers_in item_readers
no_tuple = refl

-- and with one form more it is read
deep_enough : form_within (up_to 2) (seen (codes "A ==\n  /\\ (x)")) ≡ form_in (seen (codes "A ==\n  /\\ (x)"))
unfolding readers_in item_readers
deep_enough = refl

-- ---- translations

abbrev end : Tree
end = name_at 1 1 (codes "x")

abbrev small : Region
small = record { model_values = []; variables = codes "x" ∷ []; definitions = []; vars = codes "x" ∷ []; process_set = None; init = []; actions = []; ended = Some end; next = []; fairness = []; termination = end }

region : region_in (variables_unit (codes "x" ∷ []) ∷ vars_unit (codes "x" ∷ []) ∷ init_unit [] ∷ terminating_unit end ∷ next_unit [] ∷ spec_unit [] ∷ termination_unit end ∷ []) ≡ Some small
region = refl

-- a unit that declares no constant is in no translation
no_constant : region_in (constant_unit [] ∷ units_of small) ≡ None
no_constant = refl

-- the units stand in one order
other_order : region_in (vars_unit (codes "x" ∷ []) ∷ variables_unit (codes "x" ∷ []) ∷ init_unit [] ∷ next_unit [] ∷ spec_unit [] ∷ termination_unit end ∷ []) ≡ None
other_order = refl

-- ---- how deep the tree nests

abbrev sum : Tree
sum = node (strict (operator op.Plus)) (at 1 3) (tree end (tree (node (number 1) (at 1 5) no_trees) no_trees))

-- x' = x + 1 in a list: the list, the equation, the sum
one_setting : list_nests (item (setting (codes "x") sum) no_items) ≡ 3
one_setting = refl

-- \E y \in x : /\ x' = x + 1
one_choice : item_nests (exists (codes "y") end (item (setting (codes "x") sum) no_items)) ≡ 4
one_choice = refl

-- a list in a branch of a list
one_branch : item_nests (either (branch (item (unchanged (codes "x" ∷ [])) no_items) no_branches)) ≡ 4
one_branch = refl

-- `Termination == <>(x)` alone
small_nests : region_nests small ≡ 2
small_nests = refl

-- ---- a module

abbrev text : List ℕ
text = codes "---- MODULE M ----\n\\* BEGIN TRANSLATION\nVARIABLES x\nvars == <<x>>\nInit ==\n  /\\ x\nNext ==\n  \\/ A\nSpec ==\n  /\\ Init\n  /\\ [][Next]_vars\nTermination == <>(x)\n\\* END TRANSLATION\n====\n"

abbrev parts : Module → Word × List Word × List Way
parts m = (m.title, m.region.vars, m.region.next)

reads : option_map parts (module_in text) ≡ Some (codes "M", codes "x" ∷ [], one_way (call (codes "A")) ∷ [])
unfolding readers_in item_readers
reads = refl

-- no module without a translation
bare : module_in (codes "---- MODULE M ----\n====\n") ≡ None
bare = refl
