-- What is laid out of a translation rests on no place of its trees.
use Rattle.std.proofs.Common.{◌≡◌, ℕ, zero, suc, ◌+◌, Bool, true, false, not, List, [], ◌∷◌, ◌++◌, map, filter, length, bytes_eq, Option, Some, None, refl, sym, ap, ◌∙◌, codes, cond}
use Rattle.tla_tree.specs.declared.op.Op.TheVariants as op
use Rattle.tla_tree.specs.Tree.{Word, Tree, node, no_trees, tree, strict, operator, name}
use Rattle.tla_tree.specs.Written.{written, Part, as_operand, text_of}
use Rattle.tla_tree.specs.laws.Placeless.{tree_placeless}
use Rattle.tla_tree.proofs.WrittenBare.{part_bare, written_bare}
use Rattle.module_tree.specs.ExprText.{operand}
use Rattle.module_tree.specs.Module.{Item, test, setting, unchanged, exists, local, if_then_else, either, Items, no_items, item, Branches, no_branches, branch, Call, call, call_with, Way, one_way, some_way, Body, all_of, some_of, Fairness, Region, RegionUnit, constant_unit, variables_unit, definition_unit, vars_unit, process_set_unit, init_unit, action_unit, terminating_unit, next_unit, spec_unit, termination_unit, units_of, model_value_units, process_set_of, terminating_of}
use Rattle.module_tree.specs.Layout.{line, item_text, items_text, branches_text, call_text, way_text, ways_text, body_text, parameter_text, over_text, guard_text, fairness_text, parameters_text, conjuncts_text, union_text, sets_text, unit_text, units_text, layout}
use Rattle.module_tree.specs.Ways.{title_of, is_process_set, is_procedure, is_terminating, split_cup, sets_in, processes_in}
use Rattle.module_tree.specs.laws.PlacelessRegion.{item_placeless, items_placeless, branches_placeless, call_placeless, way_placeless, body_placeless, action_placeless, over_placeless, perhaps_placeless, fairness_placeless, definition_placeless, region_placeless}

operand_bare : (t : Tree) → operand (tree_placeless t) ≡ operand t
operand_bare t = ap (λ (a : Part). text_of (as_operand a [])) (part_bare t)

-- ---- items

mutual
  item_bare : (k : ℕ) (i : Item) → item_text k (item_placeless i) ≡ item_text k i
  item_bare k (test e) = ap (λ (w : List ℕ). line k (codes "/\\ (" ++ w ++ codes ")")) (written_bare e)
  item_bare k (setting x e) = ap (λ (w : List ℕ). line k (codes "/\\ " ++ x ++ codes "' = " ++ w)) (operand_bare e)
  item_bare k (unchanged xs) = refl
  item_bare k (exists x s is) = (λ j. line k (codes "/\\ \\E " ++ x ++ codes " \\in " ++ operand_bare s j ++ codes " :") ++ items_bare (k + 5) is j)
  item_bare k (local x e is) = (λ j. line k (codes "/\\ LET " ++ x ++ codes " == " ++ written_bare e j ++ codes " IN") ++ items_bare (k + 5) is j)
  item_bare k (if_then_else p a b) = (λ j. line k (codes "/\\ IF " ++ written_bare p j) ++ line (k + 3) (codes "THEN") ++ items_bare (k + 5) a j ++ line (k + 3) (codes "ELSE") ++ items_bare (k + 5) b j)
  item_bare k (either bs) = ap (λ (w : List ℕ). line k (codes "/\\") ++ w) (branches_bare k bs)

  items_bare : (k : ℕ) (is : Items) → items_text k (items_placeless is) ≡ items_text k is
  items_bare k no_items = refl
  items_bare k (item i is) = (λ j. item_bare k i j ++ items_bare k is j)

  branches_bare : (k : ℕ) (bs : Branches) → branches_text k (branches_placeless bs) ≡ branches_text k bs
  branches_bare k no_branches = refl
  branches_bare k (branch is bs) = (λ j. line (k + 5) (codes "\\/") ++ items_bare (k + 10) is j ++ branches_bare k bs j)

-- ---- calls, ways and fairness

call_bare : (c : Call) → call_text (call_placeless c) ≡ call_text c
call_bare (call a) = refl
call_bare (call_with a e) = ap (λ (w : List ℕ). a ++ codes "(" ++ w ++ codes ")") (written_bare e)

way_bare : (y : Way) → way_text (way_placeless y) ≡ way_text y
way_bare (one_way c) = call_bare c
way_bare (some_way x s c) = (λ j. codes "\\E " ++ x ++ codes " \\in " ++ operand_bare s j ++ codes " : " ++ call_bare c j)

ways_bare : (ys : List Way) → ways_text (map way_placeless ys) ≡ ways_text ys
ways_bare [] = refl
ways_bare (y ∷ ys) = (λ j. line 2 (codes "\\/ " ++ way_bare y j) ++ ways_bare ys j)

body_bare : (b : Body) → body_text (body_placeless b) ≡ body_text b
body_bare (all_of is) = items_bare 2 is
body_bare (some_of ys) = ways_bare ys

over_bare : (o : Option (Word × Tree)) → over_text (over_placeless o) ≡ over_text o
over_bare None = refl
over_bare (Some (x, s)) = ap (λ (w : List ℕ). codes "\\A " ++ x ++ codes " \\in " ++ w ++ codes " : ") (operand_bare s)

guard_bare : (o : Option Tree) → guard_text (perhaps_placeless o) ≡ guard_text o
guard_bare None = refl
guard_bare (Some e) = ap (λ (w : List ℕ). codes "(" ++ w ++ codes ") /\\ ") (written_bare e)

fairness_bare : (f : Fairness) → fairness_text (fairness_placeless f) ≡ fairness_text f
fairness_bare f = (λ j. over_bare f.over j ++ cond f.strong (codes "SF_vars(") (codes "WF_vars(") ++ guard_bare f.guard j ++ call_bare f.action j ++ codes ")")

fairs_bare : (fs : List Fairness) → conjuncts_text (map fairness_text (map fairness_placeless fs)) ≡ conjuncts_text (map fairness_text fs)
fairs_bare [] = refl
fairs_bare (f ∷ fs) = (λ j. line 2 (codes "/\\ " ++ fairness_bare f j) ++ fairs_bare fs j)

inits_bare : (es : List Tree) → conjuncts_text (map written (map tree_placeless es)) ≡ conjuncts_text (map written es)
inits_bare [] = refl
inits_bare (e ∷ es) = (λ j. line 2 (codes "/\\ " ++ written_bare e j) ++ inits_bare es j)

-- ---- ProcSet

split_bare : (n : ℕ) (e : Tree) (es : List Tree) → split_cup n (tree_placeless e) (map tree_placeless es) ≡ map tree_placeless (split_cup n e es)
split_bare (suc n) (node (strict (operator op.Cup)) at (tree a (tree b no_trees))) es = split_bare n a (b ∷ es)
split_bare n e es = refl

sets_bare : (n : ℕ) (e : Tree) → sets_in n (tree_placeless e) ≡ map tree_placeless (sets_in n e)
sets_bare zero e = refl
sets_bare (suc n) e = split_bare n e []

union_bare : (es : List Tree) → union_text (map tree_placeless es) ≡ union_text es
union_bare [] = refl
union_bare (e ∷ []) = operand_bare e
union_bare (e ∷ d ∷ es) = (λ j. operand_bare e j ++ codes " \\cup " ++ union_bare (d ∷ es) j)

set_text_bare : (es : List Tree) → sets_text (map tree_placeless es) ≡ sets_text es
set_text_bare [] = refl
set_text_bare (e ∷ []) = written_bare e
set_text_bare (e ∷ d ∷ es) = union_bare (e ∷ d ∷ es)

-- ---- units

abbrev unit_placeless : RegionUnit → RegionUnit
unit_placeless (definition_unit d) = definition_unit (definition_placeless d)
unit_placeless (process_set_unit e) = process_set_unit (tree_placeless e)
unit_placeless (init_unit es) = init_unit (map tree_placeless es)
unit_placeless (action_unit a) = action_unit (action_placeless a)
unit_placeless (terminating_unit e) = terminating_unit (tree_placeless e)
unit_placeless (next_unit ys) = next_unit (map way_placeless ys)
unit_placeless (spec_unit fs) = spec_unit (map fairness_placeless fs)
unit_placeless (termination_unit e) = termination_unit (tree_placeless e)
unit_placeless u = u

unit_bare : (n : ℕ) (u : RegionUnit) → unit_text n (unit_placeless u) ≡ unit_text n u
unit_bare n (definition_unit d) = ap (λ (w : List ℕ). line 0 (d.title ++ parameters_text d.params ++ codes " == " ++ w)) (written_bare d.body)
unit_bare n (process_set_unit e) = ap (λ (w : List ℕ). line 0 (codes "ProcSet == " ++ w)) (ap sets_text (sets_bare n e) ∙ set_text_bare (sets_in n e))
unit_bare n (init_unit es) = ap (λ (w : List ℕ). line 0 (codes "Init ==") ++ w) (inits_bare es)
unit_bare n (action_unit a) = ap (λ (w : List ℕ). line 0 (a.title ++ parameter_text a.parameter ++ codes " ==") ++ w) (body_bare a.body)
unit_bare n (terminating_unit e) = ap (λ (w : List ℕ). line 0 (codes "Terminating ==") ++ w ++ line 2 (codes "/\\ UNCHANGED vars")) (item_bare 2 (test e))
unit_bare n (next_unit ys) = ap (λ (w : List ℕ). line 0 (codes "Next ==") ++ w) (ways_bare ys)
unit_bare n (spec_unit fs) = ap (λ (w : List ℕ). line 0 (codes "Spec ==") ++ (line 2 (codes "/\\ Init") ++ (line 2 (codes "/\\ [][Next]_vars") ++ w))) (fairs_bare fs)
unit_bare n (termination_unit e) = ap (λ (w : List ℕ). line 0 (codes "Termination == <>(" ++ w ++ codes ")")) (written_bare e)
unit_bare n (constant_unit xs) = refl
unit_bare n (variables_unit xs) = refl
unit_bare n (vars_unit xs) = refl

all_bare : (n : ℕ) (us : List RegionUnit) → units_text n (map unit_placeless us) ≡ units_text n us
all_bare n [] = refl
all_bare n (u ∷ []) = unit_bare n u
all_bare n (u ∷ v ∷ us) = (λ j. unit_bare n u j ++ codes "\n" ++ all_bare n (v ∷ us) j)

-- the units of a translation without places are its units without places
over_append : (us vs : List RegionUnit) → map unit_placeless (us ++ vs) ≡ map unit_placeless us ++ map unit_placeless vs
over_append [] vs = refl
over_append (u ∷ us) vs = ap (λ (ws : List RegionUnit). unit_placeless u ∷ ws) (over_append us vs)

each_unit : {A : Type 0} (make : A → RegionUnit) (bare : A → A) → ((a : A) → unit_placeless (make a) ≡ make (bare a)) → (xs : List A) → map unit_placeless (map make xs) ≡ map make (map bare xs)
each_unit make bare h [] = refl
each_unit make bare h (x ∷ xs) = (λ j. h x j ∷ each_unit make bare h xs j)

models_same : (xs : List Word) → map unit_placeless (model_value_units xs) ≡ model_value_units xs
models_same [] = refl
models_same (x ∷ xs) = refl

sets_same : (o : Option Tree) → map unit_placeless (process_set_of o) ≡ process_set_of (perhaps_placeless o)
sets_same None = refl
sets_same (Some e) = refl

ended_same : (o : Option Tree) → map unit_placeless (terminating_of o) ≡ terminating_of (perhaps_placeless o)
ended_same None = refl
ended_same (Some e) = refl

units_bare : (r : Region) → map unit_placeless (units_of r) ≡ units_of (region_placeless r)
units_bare r =
    let last : List RegionUnit = next_unit r.next ∷ spec_unit r.fairness ∷ termination_unit r.termination ∷ [] in
    let d : List RegionUnit = terminating_of r.ended ++ last in
    let c : List RegionUnit = init_unit r.init ∷ (map action_unit r.actions ++ d) in
    let b : List RegionUnit = vars_unit r.vars ∷ (process_set_of r.process_set ++ c) in
    let a : List RegionUnit = variables_unit r.variables ∷ (map definition_unit r.definitions ++ b) in
    let e = over_append (terminating_of r.ended) last ∙ (λ j. ended_same r.ended j ++ map unit_placeless last) in
    let f = over_append (map action_unit r.actions) d ∙ (λ j. each_unit action_unit action_placeless (λ x. refl) r.actions j ++ e j) in
    let g = over_append (process_set_of r.process_set) c ∙ (λ j. sets_same r.process_set j ++ (init_unit (map tree_placeless r.init) ∷ f j)) in
    let h = over_append (map definition_unit r.definitions) b ∙ (λ j. each_unit definition_unit definition_placeless (λ x. refl) r.definitions j ++ (vars_unit r.vars ∷ g j)) in
    over_append (model_value_units r.model_values) a ∙ (λ j. models_same r.model_values j ++ (variables_unit r.variables ∷ h j))

-- ---- how many processes there are

set_is : (e : Tree) → is_process_set (tree_placeless e) ≡ is_process_set e
set_is (node (name x) at ts) = refl
set_is e = refl

call_is : (c : Call) → bytes_eq (title_of (call_placeless c)) (codes "Terminating") ≡ bytes_eq (title_of c) (codes "Terminating")
call_is (call a) = refl
call_is (call_with a e) = refl

pub terminating_is : (y : Way) → is_terminating (way_placeless y) ≡ is_terminating y
terminating_is (one_way c) = call_is c
terminating_is (some_way x s c) = call_is c

procedure_is : (y : Way) → is_procedure (way_placeless y) ≡ is_procedure y
procedure_is (one_way c) = refl
procedure_is (some_way x s c) = set_is s

filtered : (p : Way → Bool) → ((y : Way) → p (way_placeless y) ≡ p y) → (ys : List Way) → filter p (map way_placeless ys) ≡ map way_placeless (filter p ys)
filtered p h [] = refl
filtered p h (y ∷ ys) = by (p y) (h y) refl (filtered p h ys)
  where
    by : (b : Bool) → p (way_placeless y) ≡ p y → p y ≡ b → filter p (map way_placeless ys) ≡ map way_placeless (filter p ys) → filter p (map way_placeless (y ∷ ys)) ≡ map way_placeless (filter p (y ∷ ys))
    by true e f g = rw (e ∙ f, f) (ap (λ (zs : List Way). way_placeless y ∷ zs) g)
    by false e f g = rw (e ∙ f, f) g

as_many : (ys : List Way) → length (map way_placeless ys) ≡ length ys
as_many [] = refl
as_many (y ∷ ys) = ap suc (as_many ys)

processes_bare : (ys : List Way) → processes_in (map way_placeless ys) ≡ processes_in ys
processes_bare ys =
    let p : Way → Bool = λ y. not (is_terminating y) in
    let q : Way → Bool = λ y. not (is_procedure y) in
    ap (λ (zs : List Way). length (filter q zs)) (filtered p (λ y. ap not (terminating_is y)) ys)
    ∙ ap length (filtered q (λ y. ap not (procedure_is y)) (filter p ys)) ∙ as_many (filter q (filter p ys))

-- ---- the translation

layout_bare : (r : Region) → layout (region_placeless r) ≡ layout r
layout_bare r =
    ap (λ (n : ℕ). units_text n (units_of (region_placeless r))) (processes_bare r.next)
    ∙ ap (units_text (processes_in r.next)) (sym (units_bare r)) ∙ all_bare (processes_in r.next) (units_of r)

pub same_layout : (q r : Region) → region_placeless q ≡ region_placeless r → layout q ≡ layout r
same_layout q r e = sym (layout_bare q) ∙ ap layout e ∙ layout_bare r
