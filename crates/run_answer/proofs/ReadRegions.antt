-- A translation that is read can be written: its names are identifiers, its expressions are of the right shape, and no list of it is empty.
use Rattle.std.proofs.Common.{◌≡◌, ℕ, zero, suc, List, [], ◌∷◌, ◌++◌, map, Option, Some, None, refl, subst}
use Rattle.std.specs.Prelude.{is_some}
use Rattle.std.specs.Bool.{IsTrue}
use Rattle.std.specs.List.{AllByRecursion, list_any}
use Rattle.tla_token.specs.declared.place.Place.{Place}
use Rattle.tla_tree.specs.declared.op.Op.TheVariants as op
use Rattle.tla_tree.specs.Tree.{Word, Tree, node, no_trees, tree, strict, operator}
use Rattle.tla_tree.specs.Lexical.{TokenView, Token, sign}
use Rattle.tla_tree.specs.Spelling.{Phrase, Good, spell, tree_of}
use Rattle.tla_tree.specs.laws.Writable.{IsIdentifier, IsWritable, AreOfText}
use Rattle.tla_tree.proofs.SpellAppend.{spell_then}
use Rattle.tla_tree.proofs.WritableTrees.{spelled_writable}
use Rattle.module_tree.specs.Module.{Item, item, branch, Region, RegionUnit, constant_unit, variables_unit, definition_unit, vars_unit, process_set_unit, init_unit, action_unit, terminating_unit, next_unit, spec_unit, termination_unit, model_value_units, process_set_of, terminating_of, units_of, Module}
use Rattle.module_tree.specs.Grammar.{Tokens, Names, last_name, more_names, spell_names, words_of, ItemForm, test_form, setting_form, unchanged_form, exists_form, local_form, choice_form, either_form, ListForm, last_item, more_items, BranchForms, last_branch, more_branches, spell_item, spell_list, spell_branches, item_of, items_of, branches_of, list_column, branch_column, GoodItem, GoodList, GoodBranches, CallForm, call_form, call_with_form, spell_call, call_of, GoodCall, WayForm, one_form, some_form, spell_way, way_of, GoodWay, spell_bullets, GoodBullets, GoodSome, each}
use Rattle.module_tree.specs.Units.{OverForm, GuardForm, FairForm, spell_over, spell_guard, spell_fair, over_of, guard_of, fairness_of, GoodOver, GoodGuard, GoodFair, SpecForm, start_line, steps_line, fair_line, spell_spec, GoodSpec, fair_specs, ParameterForm, spell_parameters, parameters, BodyForm, all_form, some_form as some_body, spell_body, body_of, GoodBody, UnitForm, constant_form, variables_form, definition_form, vars_form, process_set_form, init_form, action_form, terminating_form, next_form, spec_form, termination_form, spell_parameter, spell_unit, parameter_of, unit_of, is_steps, GoodUnit, IsUnit}
use Rattle.module_tree.specs.Reading.{AllAre, ReadsRegion}
use Rattle.module_tree.specs.Walk.{Located}
use Rattle.module_tree.specs.Ways.{is_terminating, split_cup, sets_in, sets_of, processes_in}
use Rattle.module_tree.specs.laws.WritableRegion.{AllOf, AreNames, IsItem, AreItems, AreBranches, IsCall, IsWay, IsBody, IsParameter, IsOver, IsGuard, IsFairness, IsDefinition, IsAction, IsRegion}
use Rattle.run_answer.proofs.RegionTokens.{units_text}

-- ---- lists

one_more : {A : Type 0} (P : A → Type 0) (x : A) (xs : List A) → P x → AllOf P xs → AllOf P (x ∷ xs)
one_more P x [] p h = absurd h
one_more P x (y ∷ ys) p h = (p, h)

each_of : {A : Type 0} (P : A → Type 0) (xs : List A) → AllOf P xs → AllByRecursion P xs
each_of P [] h = tt
each_of P (x ∷ []) h = (h, tt)
each_of P (x ∷ y ∷ ys) h = (h.0, each_of P (y ∷ ys) h.1)

some_of : {A : Type 0} (P : A → Type 0) (x : A) (xs : List A) → AllByRecursion P (x ∷ xs) → AllOf P (x ∷ xs)
some_of P x [] h = h.0
some_of P x (y ∷ ys) h = (h.0, some_of P y ys h.1)

in_two : {A : Type 0} (P : A → Type 0) (xs ys : List A) → AllByRecursion P (xs ++ ys) → AllByRecursion P xs × AllByRecursion P ys
in_two P [] ys h = (tt, h)
in_two P (x ∷ xs) ys h = (let k = in_two P xs ys h.1 in ((h.0, k.0), k.1))

mapped : {A B : Type 0} (P : B → Type 0) (f : A → B) (xs : List A) → AllByRecursion P (map f xs) → AllByRecursion (λ x. P (f x)) xs
mapped P f [] h = tt
mapped P f (x ∷ xs) h = (h.0, mapped P f xs h.1)

-- ---- expressions and names

text_split : (xs ys : List Token) → AreOfText (xs ++ ys) → AreOfText xs × AreOfText ys
text_split [] ys h = (tt, h)
text_split (x ∷ xs) ys h = (let k = text_split xs ys h.1 in ((h.0, k.0), k.1))

of_phrase : (e : ℕ) (a : Phrase) (ts : List Token) → Good e a → AreOfText (spell a ts) → IsWritable (tree_of a) × AreOfText ts
of_phrase e a ts g h = (let k = text_split (spell a []) ts (subst AreOfText (spell_then a ts) h) in (spelled_writable e a g k.0, k.1))

of_names : (ns : Names) (ts : List Token) → AreOfText (spell_names ns ts) → AreNames (words_of ns) × AreOfText ts
of_names (last_name p x) ts h = h
of_names (more_names p x q ns) ts h = (let k = of_names ns ts h.1.1 in (one_more IsIdentifier x (words_of ns) h.0 k.0, k.1))

-- ---- items

first_item : (i : Item) (is : ListForm) → IsItem i → AreItems (items_of is) → AreItems (item i (items_of is))
first_item i (last_item p j) h k = (h, k)
first_item i (more_items p j is) h k = (h, k)

first_branch : (is : ListForm) (bs : BranchForms) → AreItems (items_of is) → AreBranches (branches_of bs) → AreBranches (branch (items_of is) (branches_of bs))
first_branch is (last_branch p js) h k = (h, k)
first_branch is (more_branches p js bs) h k = (h, k)

mutual
  of_item : (e : ℕ) (i : ItemForm) (ts : List Token) → GoodItem e i → AreOfText (spell_item i ts) → IsItem (item_of i) × AreOfText ts
  of_item e (test_form p a q) ts g h = (let k = of_phrase e a _ g.1 h.1 in (k.0, k.1.1))
  of_item e (setting_form p x q s a) ts g h = (let k = of_phrase e a ts g.3.1 h.1.1.1 in ((h.0, k.0), k.1))
  of_item e (unchanged_form p q ns s) ts g h = (let k = of_names ns _ h.1.1 in (k.0, k.1.1))
  of_item e (exists_form p q x s a t is) ts g h =
      let k = of_phrase e a _ g.3 h.1.1.1 in
      let l = of_list (list_column is) is ts g.6 k.1.1 in
      ((h.1.0, k.0, l.0), l.1)
  of_item e (local_form p q x s a t is) ts g h =
      let k = of_phrase e a _ g.3 h.1.1.1 in
      let l = of_list (list_column is) is ts g.6 k.1.1 in
      ((h.1.0, k.0, l.0), l.1)
  of_item e (choice_form p a q is s js) ts g h =
      let k = of_phrase e a _ g.1 h.1 in
      let l = of_list (list_column is) is _ g.4 k.1.1 in
      let m = of_list (list_column js) js ts g.7 l.1.1 in
      ((k.0, l.0, m.0), m.1)
  of_item e (either_form bs) ts g h = of_branches (branch_column bs) bs ts g.1 h

  of_list : (c : ℕ) (is : ListForm) (ts : List Token) → GoodList c is → AreOfText (spell_list is ts) → AreItems (items_of is) × AreOfText ts
  of_list c (last_item p i) ts g h = of_item c i ts g.1 h.1
  of_list c (more_items p i is) ts g h =
      let k = of_item c i _ g.1 h.1 in
      let l = of_list c is ts g.2 k.1 in
      (first_item (item_of i) is k.0 l.0, l.1)

  of_branches : (c : ℕ) (bs : BranchForms) (ts : List Token) → GoodBranches c bs → AreOfText (spell_branches bs ts) → AreBranches (branches_of bs) × AreOfText ts
  of_branches c (last_branch p is) ts g h = of_list (list_column is) is ts g.2 h.1
  of_branches c (more_branches p is bs) ts g h =
      let k = of_list (list_column is) is _ g.2 h.1 in
      let l = of_branches c bs ts g.3 k.1 in
      (first_branch is bs k.0 l.0, l.1)

-- ---- calls and ways

of_call : (e : ℕ) (u : CallForm) (ts : List Token) → GoodCall e u → AreOfText (spell_call u ts) → IsCall (call_of u) × AreOfText ts
of_call e (call_form p x) ts g h = h
of_call e (call_with_form p x q a s) ts g h = (let k = of_phrase e a _ g.2 h.1.1 in ((h.0, k.0), k.1.1))

of_way : (e : ℕ) (y : WayForm) (ts : List Token) → GoodWay e y → AreOfText (spell_way y ts) → IsWay (way_of y) × AreOfText ts
of_way e (one_form u) ts g h = of_call e u ts g h
of_way e (some_form p q x s a t u) ts g h =
    let k = of_phrase e a _ g.3 h.1.1.1 in
    let l = of_call e u ts g.5 k.1.1 in
    ((h.1.0, k.0, l.0), l.1)

-- what each form of one kind is, told of all after their bullets
abbrev Told : {A B : Type 0} → (ℕ → A → Type 0) → (A → Tokens) → (A → B) → (B → Type 0) → Type 0
Told {A = A} G spelled f Q = (e : ℕ) (x : A) (ts : List Token) → G e x → AreOfText (spelled x ts) → Q (f x) × AreOfText ts

of_bullets : {A B : Type 0} (k : TokenView) (G : ℕ → A → Type 0) (spelled : A → Tokens) (f : A → B) (Q : B → Type 0) → Told G spelled f Q → (c : ℕ) (xs : List (Place × A)) (ts : List Token) → GoodBullets G c xs
    → AreOfText (spell_bullets k spelled xs ts) → AllByRecursion Q (each f xs) × AreOfText ts
of_bullets k G spelled f Q one c [] ts g h = (tt, h)
of_bullets k G spelled f Q one c (x ∷ xs) ts g h =
    let a = one c x.1 _ g.1 h.1 in
    let b = of_bullets k G spelled f Q one c xs ts g.2 a.1 in
    ((a.0, b.0), b.1)

of_some : {A B : Type 0} (k : TokenView) (G : ℕ → A → Type 0) (spelled : A → Tokens) (f : A → B) (Q : B → Type 0) → Told G spelled f Q → (xs : List (Place × A)) (ts : List Token) → GoodSome G xs
    → AreOfText (spell_bullets k spelled xs ts) → AllOf Q (each f xs) × AreOfText ts
of_some k G spelled f Q one [] ts g h = absurd g
of_some k G spelled f Q one (x ∷ xs) ts g h =
    let a = of_bullets k G spelled f Q one x.0.col (x ∷ xs) ts g.1 h in
    (some_of Q (f x.1) (each f xs) a.0, a.1)

of_body : (b : BodyForm) (ts : List Token) → GoodBody b → AreOfText (spell_body b ts) → IsBody (body_of b) × AreOfText ts
of_body (all_form is) ts g h = of_list (list_column is) is ts g.1 h
of_body (some_body ys) ts g h = of_some (sign op.Or) GoodWay spell_way way_of IsWay of_way ys ts g h

-- ---- fairness

of_over : (e : ℕ) (o : Option OverForm) (ts : List Token) → GoodOver e o → AreOfText (spell_over o ts) → IsOver (over_of o) × AreOfText ts
of_over e None ts g h = (tt, h)
of_over e (Some f) ts g h = (let k = of_phrase e f.set _ g.3 h.1.1.1 in ((h.1.0, k.0), k.1.1))

of_guard : (e : ℕ) (o : Option GuardForm) (ts : List Token) → GoodGuard e o → AreOfText (spell_guard o ts) → IsGuard (guard_of o) × AreOfText ts
of_guard e None ts g h = (tt, h)
of_guard e (Some f) ts g h = (let k = of_phrase e f.test _ g.1 h.1 in (k.0, k.1.1.1))

of_fair : (e : ℕ) (f : FairForm) (ts : List Token) → GoodFair e f → AreOfText (spell_fair f ts) → IsFairness (fairness_of f) × AreOfText ts
of_fair e f ts g h =
    let a = of_over e f.over _ g.0 h in
    let b = of_guard e f.guard _ g.3 a.1.1.1 in
    let c = of_call e f.action _ g.4 b.1 in
    ((a.0, b.0, c.0), c.1.1)

of_specs : (c : ℕ) (fs : List (Place × FairForm)) (ts : List Token) → GoodBullets GoodSpec c (fair_specs fs) → AreOfText (spell_bullets (sign op.And) spell_spec (fair_specs fs) ts) → AllByRecursion IsFairness (each fairness_of fs)
of_specs c [] ts g h = tt
of_specs c (f ∷ fs) ts g h = (let k = of_fair c f.1 _ g.1 h.1 in (k.0, of_specs c fs ts g.2 k.1))

steps_passed : (f : SpecForm) (ts : List Token) → IsTrue (is_steps f) → AreOfText (spell_spec f ts) → AreOfText ts
steps_passed (start_line p) ts i h = cc
steps_passed (steps_line p q s t u) ts i h = h.1.1.1.1.1
steps_passed (fair_line f) ts i h = cc

-- ---- units

of_parameters : (f : Option ParameterForm) (ts : List Token) → AreOfText (spell_parameters f ts) → AllByRecursion IsIdentifier (parameters f) × AreOfText ts
of_parameters None ts h = (tt, h)
of_parameters (Some f) ts h = (let k = of_names f.names _ h.1 in (each_of IsIdentifier (words_of f.names) k.0, k.1.1))

of_parameter : (f : Option (Place × Place × Word × Place)) (ts : List Token) → AreOfText (spell_parameter f ts) → IsParameter (parameter_of f) × AreOfText ts
of_parameter None ts h = (tt, h)
of_parameter (Some f) ts h = (h.1.0, h.1.1.1)

abbrev IsFit : RegionUnit → Type 0
IsFit (constant_unit xs) = AreNames xs
IsFit (variables_unit xs) = AreNames xs
IsFit (definition_unit d) = IsDefinition d
IsFit (vars_unit xs) = AreNames xs
IsFit (process_set_unit e) = IsWritable e
IsFit (init_unit es) = AllOf IsWritable es
IsFit (action_unit a) = IsAction a
IsFit (terminating_unit e) = IsWritable e
IsFit (next_unit ys) = AllOf IsWay ys
IsFit (spec_unit fs) = AllByRecursion IsFairness fs
IsFit (termination_unit e) = IsWritable e

of_unit : (f : UnitForm) → GoodUnit f → AreOfText (spell_unit f []) → IsFit (unit_of f)
of_unit (constant_form p ns) g h = (of_names ns [] h.1).0
of_unit (variables_form p ns) g h = (of_names ns [] h.1).0
of_unit (definition_form p x f q a) g h =
    let k = of_parameters f _ h.1 in
    (h.0, g.0, k.0, (of_phrase 1 a [] g.3 k.1.1).0, refl)
of_unit (vars_form p q s ns t) g h = (of_names ns _ h.1.1.1).0
of_unit (process_set_form p q a) g h = (of_phrase 1 a [] g.1 h.1.1).0
of_unit (init_form p q es) g h = (of_some (sign op.And) Good spell tree_of IsWritable of_phrase es [] g.1 h.1.1).0
of_unit (action_form p x f q b) g h =
    let k = of_parameter f _ h.1 in
    (h.0, g.0, k.0, (of_body b [] g.3 k.1.1).0)
of_unit (terminating_form p q s t a u v w z) g h = (of_phrase s.col a _ g.3 h.1.1.1.1).0
of_unit (next_form p q ys) g h = (of_some (sign op.Or) GoodWay spell_way way_of IsWay of_way ys [] g.1 h.1.1).0
of_unit (spec_form p q s t u f fs) g h = of_specs s.col fs [] g.2.1.2.2 (steps_passed f _ g.1 h.1.1.1.1.1)
of_unit (termination_form p q s t u a v) g h = (of_phrase 1 a _ g.4 h.1.1.1.1.1).0

all_units : (tss : List (List Token)) (us : List RegionUnit) → AllAre IsUnit tss us → AllByRecursion AreOfText tss → AllByRecursion IsFit us
all_units [] [] r h = tt
all_units [] (u ∷ us) r h = absurd r
all_units (ts ∷ tss) [] r h = absurd r
all_units (ts ∷ tss) (u ∷ us) ((f, g, e, q), r) h = (subst IsFit q (of_unit f g (subst AreOfText e h.0)), all_units tss us r h.1)

-- ---- the whole

of_cup : (n : ℕ) (e : Tree) (es : List Tree) → IsWritable e → AllByRecursion IsWritable es → AllByRecursion IsWritable (split_cup n e es)
of_cup (suc n) (node (strict (operator op.Cup)) at (tree a (tree b no_trees))) es w h = of_cup n a (b ∷ es) w.4.0 (w.4.1.0, h)
of_cup n e es w h = (w, h)

of_sets_in : (n : ℕ) (e : Tree) → IsWritable e → AllByRecursion IsWritable (sets_in n e)
of_sets_in zero e w = (w, tt)
of_sets_in (suc n) e w = of_cup n e [] w tt

of_sets : (n : ℕ) (o : Option Tree) → AllByRecursion IsFit (process_set_of o) → AllByRecursion IsWritable (sets_of n o)
of_sets n None h = tt
of_sets n (Some e) h = of_sets_in n e h.0

of_model_values : (xs : List Word) → AllByRecursion IsFit (model_value_units xs) → AllByRecursion IsIdentifier xs
of_model_values [] h = tt
of_model_values (x ∷ xs) h = each_of IsIdentifier (x ∷ xs) h.0

of_ended : (o : Option Tree) → AllByRecursion IsFit (terminating_of o) → IsGuard o
of_ended None h = tt
of_ended (Some e) h = h.0

of_region : (r : Region) → AllByRecursion IsFit (units_of r) → is_some r.ended ≡ list_any is_terminating r.next → IsRegion r
of_region r h t =
    let a = in_two IsFit (model_value_units r.model_values) _ h in
    let b = in_two IsFit (map definition_unit r.definitions) _ a.1.1 in
    let c = in_two IsFit (process_set_of r.process_set) _ b.1.1 in
    let d = in_two IsFit (map action_unit r.actions) _ c.1.1 in
    let e = in_two IsFit (terminating_of r.ended) _ d.1 in
    record {
      model_values = of_model_values r.model_values a.0;
      variables = a.1.0;
      definitions = mapped IsFit definition_unit r.definitions b.0;
      vars = b.1.0;
      process_set = of_sets (processes_in r.next) r.process_set c.0;
      init = c.1.0;
      actions = mapped IsFit action_unit r.actions d.0;
      ended = of_ended r.ended e.0;
      next = e.1.0;
      fairness = e.1.1.0;
      termination = e.1.1.1.0;
      terminating = t;
    }

pub read_region : (d : Located) (m : Module) → ReadsRegion d m → is_some m.region.ended ≡ list_any is_terminating m.region.next → IsRegion m.region
read_region d m r t = of_region m.region (all_units _ (units_of m.region) r.units (units_text d m r)) t
