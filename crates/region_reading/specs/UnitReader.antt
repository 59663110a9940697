-- Reading the units of a translation, each from column 1 on, as functions of their tokens ("Specifying Systems", section 15.2).
use Rattle.std.specs.Prelude.{bytes_eq, List, [], ◌∷◌, Option, Some, None, codes, option_map, if◌then◌else◌}
use Rattle.tla_token.specs.declared.place.Place.{Place}
use Rattle.tla_token.specs.Words.{is_own}
use Rattle.tla_tree.specs.declared.op.Op.TheVariants as op
use Rattle.tla_tree.specs.Tree.{Word}
use Rattle.tla_tree.specs.Lexical.{TokenView, Token}
use Rattle.tla_tree.specs.Lexical as tk
use Rattle.tla_tree.specs.Reader.{Reader, ◌>>=◌, gives, refuses, peek, take, bullet_of, a_mark, a_sign}
use Rattle.module_tree.specs.Module.{RegionUnit}
use Rattle.module_tree.specs.Grammar.{Names, last_name}
use Rattle.module_tree.specs.Units.{SpecForm, start_line, steps_line, FairForm, ParameterForm, BodyForm, all_form, some_form, begins_list, UnitForm, constant_form, variables_form, definition_form, vars_form, process_set_form, init_form, action_form, terminating_form, next_form, spec_form, termination_form, unit_of}
use Rattle.region_reading.specs.Bound.{Bound, unbounded, deeper, a_phrase, opening}
use Rattle.region_reading.specs.NameReader.{whole, gives_if, a_keyword, a_title, names_in, parameters_in, bulleted_in}
use Rattle.region_reading.specs.ItemReader.{list_in}
use Rattle.region_reading.specs.CallReader.{way_in, spec_in, fairs_of}

-- ---- units with titles of their own, after the title

abbrev pub vars_from : Bound → Place → Reader UnitForm
vars_from m p = a_mark 1 tk.defines >>= λ q. opening m (a_mark 1 tk.open_tuple) >>= λ s. names_in 1 >>= λ ns. a_mark 1 tk.close_tuple >>= λ t. gives (vars_form p q s ns t)

abbrev pub process_set_from : Bound → Place → Reader UnitForm
process_set_from m p = a_mark 1 tk.defines >>= λ q. a_phrase m 1 >>= λ a. gives (process_set_form p q a)

abbrev pub init_from : Bound → Place → Reader UnitForm
init_from m p = a_mark 1 tk.defines >>= λ q. bulleted_in m op.And a_phrase >>= λ es. gives (init_form p q es)

-- after the first bullet: the test and UNCHANGED vars, right of the bullets
abbrev pub terminating_after : Bound → Place → Place → Place → Reader UnitForm
terminating_after m p q s =
    opening m (a_mark s.col tk.open_bracket) >>= λ t. a_phrase (deeper m) s.col >>= λ a. a_mark s.col tk.close_bracket >>= λ u. take 1 (bullet_of op.And s.col) >>= λ v.
    opening m (a_keyword s.col (codes "UNCHANGED")) >>= λ w. a_title s.col (codes "vars") >>= λ z. gives (terminating_form p q s t a u v w z)

abbrev pub terminating_from : Bound → Place → Reader UnitForm
terminating_from m p = a_mark 1 tk.defines >>= λ q. opening m (a_sign 1 op.And) >>= λ s. terminating_after (deeper m) p q s

abbrev pub next_from : Bound → Place → Reader UnitForm
next_from m p = a_mark 1 tk.defines >>= λ q. bulleted_in m op.Or way_in >>= λ ys. gives (next_form p q ys)

abbrev pub spec_with : Place → Place → Place → Place → Place → SpecForm → Option (List (Place × FairForm)) → Option UnitForm
spec_with p q s t u f (Some fs) = Some (spec_form p q s t u f fs)
spec_with p q s t u f None = None

-- the conjuncts Init and [][Next]_vars, and then formulas of fairness
abbrev pub spec_of : Place → Place → List (Place × SpecForm) → Option UnitForm
spec_of p q ((s, start_line t) ∷ (u, steps_line v w x y z) ∷ xs) = spec_with p q s t u (steps_line v w x y z) (fairs_of xs)
spec_of p q xs = None

abbrev pub spec_from : Bound → Place → Reader UnitForm
spec_from m p = a_mark 1 tk.defines >>= λ q. bulleted_in m op.And spec_in >>= λ xs. gives_if (spec_of p q xs)

abbrev pub termination_from : Bound → Place → Reader UnitForm
termination_from m p =
    a_mark 1 tk.defines >>= λ q. opening m (a_sign 1 op.Less) >>= λ s. a_sign 1 op.Greater >>= λ t. opening (deeper m) (a_mark 1 tk.open_bracket) >>= λ u. a_phrase (deeper (deeper m)) 1 >>= λ a.
    a_mark 1 tk.close_bracket >>= λ v. gives (termination_form p q s t u a v)

abbrev pub own_from : Bound → Place → Word → Reader UnitForm
own_from m p x =
    if bytes_eq x (codes "vars") then vars_from m p
    else if bytes_eq x (codes "ProcSet") then process_set_from m p
    else if bytes_eq x (codes "Init") then init_from m p
    else if bytes_eq x (codes "Terminating") then terminating_from m p
    else if bytes_eq x (codes "Next") then next_from m p
    else if bytes_eq x (codes "Spec") then spec_from m p
    else if bytes_eq x (codes "Termination") then termination_from m p
    else refuses

-- ---- definitions and actions

abbrev pub body_by : Bound → Place → TokenView → Reader BodyForm
body_by m p (tk.sign op.And) = list_in m 1 >>= λ is. gives (all_form is)
body_by m p (tk.sign op.Or) = bulleted_in m op.Or way_in >>= λ ys. gives (some_form ys)
body_by m p k = refuses

abbrev pub body_in : Bound → Reader BodyForm
body_in m = peek 1 (body_by m)

-- at most one parameter
abbrev pub one_parameter : Place → Names → Place → Option (Place × Place × Word × Place)
one_parameter p (last_name q x) r = Some (p, q, x, r)
one_parameter p ns r = None

abbrev pub action_of : Place → Word → Option (Place × Place × Word × Place) → Place → BodyForm → Option UnitForm
action_of p x (Some f) q b = Some (action_form p x (Some f) q b)
action_of p x None q b = None

abbrev pub action_with : Place → Word → Option ParameterForm → Place → BodyForm → Option UnitForm
action_with p x (Some f) q b = action_of p x (one_parameter f.left f.names f.right) q b
action_with p x None q b = Some (action_form p x None q b)

abbrev pub action_from : Bound → Place → Word → Option ParameterForm → Place → Reader UnitForm
action_from m p x f q = body_in m >>= λ b. gives_if (action_with p x f q b)

abbrev pub definition_from : Bound → Place → Word → Option ParameterForm → Place → Reader UnitForm
definition_from m p x f q = a_phrase m 1 >>= λ a. gives (definition_form p x f q a)

-- what begins with a bullet is the body of an action
abbrev pub defined_by : Bound → Place → Word → Option ParameterForm → Place → Reader UnitForm
defined_by m p x f q ts = (if begins_list ts then action_from m p x f q else definition_from m p x f q) ts

abbrev pub defined_from : Bound → Place → Word → Reader UnitForm
defined_from m p x = parameters_in m >>= λ f. a_mark 1 tk.defines >>= λ q. defined_by m p x f q

-- ---- units, by their first token

abbrev pub constant_from : Place → Reader UnitForm
constant_from p = names_in 1 >>= λ ns. gives (constant_form p ns)

abbrev pub variables_from : Place → Reader UnitForm
variables_from p = names_in 1 >>= λ ns. gives (variables_form p ns)

abbrev pub declared_from : Place → Word → Reader UnitForm
declared_from p w =
    if bytes_eq w (codes "CONSTANT") then constant_from p
    else if bytes_eq w (codes "VARIABLES") then variables_from p
    else refuses

abbrev pub unit_by : Bound → Place → TokenView → Reader UnitForm
unit_by m p (tk.other w) = declared_from p w
unit_by m p (tk.word x) = if is_own x then own_from m p x else defined_from m p x
unit_by m p k = refuses

-- the unit that these tokens spell, within a bound
abbrev pub form_within : Bound → List Token → Option UnitForm
form_within m [] = None
form_within m (t ∷ ts) = whole (unit_by m t.place t.kind ts)

-- however deep it nests
abbrev pub form_in : List Token → Option UnitForm
form_in ts = form_within unbounded ts

abbrev pub unit_within : Bound → List Token → Option RegionUnit
unit_within m ts = option_map unit_of (form_within m ts)

abbrev pub unit_in : List Token → Option RegionUnit
unit_in ts = unit_within unbounded ts
