-- Which translations can be written, as a test: so that it is computed of worked ones.
use Rattle.std.proofs.Common.{◌≡◌, ℕ, zero, suc, ◌≤◌, Bool, true, false, not, ◌&&◌, nat_eq, nat_le, nat_lt, List, [], ◌∷◌, length, Option, Some, None, is_some, refl}
use Rattle.std.specs.List.{list_all, list_any, AllByRecursion}
use Rattle.std.proofs.lemmas.Bool.{and_parts, eqb-true, leb-true, ltb-true, not-true}
use Rattle.tla_token.specs.Lexemes.{is_word, is_letter}
use Rattle.tla_token.specs.Limits.{past_numbers}
use Rattle.tla_token.specs.Words.{is_own, is_reserved, is_tla_word}
use Rattle.tla_tree.specs.declared.op.Binder.{Binder}
use Rattle.tla_tree.specs.declared.op.Binder.TheVariants as binder
use Rattle.tla_tree.specs.Rank.{is_prefix}
use Rattle.tla_tree.specs.Shapes.{is_strict, operands, HasPath, HavePaths, settings, StrictShaped, IsPaired, CaseShaped, IsOneName, HaveNames, BinderShaped, Shaped}
use Rattle.tla_tree.specs.Tree.{Word, Name, PathStep, Slot, Strict, operator, set_of, tuple, fields, records, functions, apply, select, except, Form, number, strict, operator_call, conjunction, disjunction, implication, member, if_then_else, cases, binding, Each, Tree, Trees, node, no_trees, tree}
use Rattle.tla_tree.specs.Tree as form
use Rattle.tla_tree.specs.laws.Writable.{IsIdentifier, IsField, is_spellable, IsString, names_in, fields_in, strings_in, count, IsWritable, AreWritable}
use Rattle.tla_value.specs.Definitions.{Definition}
use Rattle.module_tree.specs.Module.{Item, test, setting, unchanged, exists, local, either, Items, no_items, item, Branches, no_branches, branch, Call, call, call_with, Way, one_way, some_way, Body, all_of, some_of, Action, Fairness, Region}
use Rattle.module_tree.specs.Module as parts
use Rattle.module_tree.specs.Ways.{is_terminating, sets_of, processes_in}
use Rattle.module_tree.specs.Walk.{State}
use Rattle.module_tree.specs.laws.WritableRegion.{AllOf, AreNames, IsItem, AreItems, AreBranches, IsCall, IsWay, IsBody, IsParameter, IsOver, IsGuard, IsFairness, IsDefinition, IsAction, IsRegion, IsReadBack}
use Rattle.module_tree.proofs.WrittenRegion.{read_back}

-- where the test says so it is
abbrev Tells : {A : Type 0} → (A → Bool) → (A → Type 0) → Type 0
Tells {A} p P = (x : A) → p x ≡ true → P x

-- ---- words

abbrev is_name : Word → Bool
is_name w = list_all is_word w && list_any is_letter w

abbrev is_identifier : Word → Bool
is_identifier w = is_name w && not (is_reserved w)

identifier_tells : Tells is_identifier IsIdentifier
identifier_tells w h = (let k = and_parts (is_name w) (not (is_reserved w)) h in (and_parts (list_all is_word w) (list_any is_letter w) k.0, k.1))

abbrev is_field : Word → Bool
is_field w = is_name w && not (is_tla_word w)

field_tells : Tells is_field IsField
field_tells w h = (let k = and_parts (is_name w) (not (is_tla_word w)) h in (and_parts (list_all is_word w) (list_any is_letter w) k.0, k.1))

abbrev is_string : Word → Bool
is_string w = list_all is_spellable w

each_tells : (p : Word → Bool) (P : Word → Type 0) → Tells p P → Tells (list_all p) (Each P)
each_tells p P t [] h = tt
each_tells p P t (x ∷ xs) h = (let k = and_parts (p x) (list_all p xs) h in (t x k.0, each_tells p P t xs k.1))

-- ---- shapes

abbrev has_path : List PathStep → Bool
has_path [] = false
has_path (s ∷ ss) = true

path_tells : Tells has_path HasPath
path_tells [] h = absurd cc
path_tells (s ∷ ss) h = tt

abbrev have_paths : List Slot → Bool
have_paths [] = false
have_paths (s ∷ []) = has_path s.path
have_paths (s ∷ t ∷ ss) = has_path s.path && have_paths (t ∷ ss)

paths_tell : Tells have_paths HavePaths
paths_tell [] h = absurd cc
paths_tell (s ∷ []) h = path_tells s.path h
paths_tell (s ∷ t ∷ ss) h = (let k = and_parts (has_path s.path) (have_paths (t ∷ ss)) h in (path_tells s.path k.0, paths_tell (t ∷ ss) k.1))

abbrev strict_fits : Strict → ℕ → Bool
strict_fits (operator o) n = is_strict o && nat_eq n (operands (is_prefix o))
strict_fits set_of n = true
strict_fits tuple n = true
strict_fits (fields xs) n = nat_le 1 n && nat_eq n (length xs)
strict_fits (records xs) n = nat_le 1 n && nat_eq n (length xs)
strict_fits functions n = nat_eq n 2
strict_fits apply n = nat_eq n 2
strict_fits (select a) n = nat_eq n 1
strict_fits (except slots) n = have_paths slots && nat_eq n (suc (settings slots))

some_fields : (xs : List Word) (n : ℕ) → (nat_le 1 n && nat_eq n (length xs)) ≡ true → (1 ≤ n) × (n ≡ length xs)
some_fields xs n h = (let k = and_parts (nat_le 1 n) (nat_eq n (length xs)) h in (leb-true 1 n k.0, eqb-true n (length xs) k.1))

strict_tells : (m : Strict) (n : ℕ) → strict_fits m n ≡ true → StrictShaped m n
strict_tells (operator o) n h = (let k = and_parts (is_strict o) (nat_eq n (operands (is_prefix o))) h in (k.0, eqb-true n (operands (is_prefix o)) k.1))
strict_tells set_of n h = tt
strict_tells tuple n h = tt
strict_tells (fields xs) n h = some_fields xs n h
strict_tells (records xs) n h = some_fields xs n h
strict_tells functions n h = eqb-true n 2 h
strict_tells apply n h = eqb-true n 2 h
strict_tells (select a) n h = eqb-true n 1 h
strict_tells (except slots) n h = (let k = and_parts (have_paths slots) (nat_eq n (suc (settings slots))) h in (paths_tell slots k.0, eqb-true n (suc (settings slots)) k.1))

abbrev is_paired : ℕ → Bool
is_paired zero = false
is_paired (suc zero) = false
is_paired (suc (suc zero)) = true
is_paired (suc (suc n)) = is_paired n

paired_tells : Tells is_paired IsPaired
paired_tells zero h = absurd cc
paired_tells (suc zero) h = absurd cc
paired_tells (suc (suc zero)) h = tt
paired_tells (suc (suc (suc n))) h = paired_tells (suc n) h

abbrev have_names : List (List Name) → Bool
have_names [] = false
have_names (g ∷ []) = nat_le 1 (length g)
have_names (g ∷ h ∷ gs) = nat_le 1 (length g) && have_names (h ∷ gs)

names_tell : Tells have_names HaveNames
names_tell [] h = absurd cc
names_tell (g ∷ []) h = leb-true 1 (length g) h
names_tell (g ∷ k ∷ gs) h = (let e = and_parts (nat_le 1 (length g)) (have_names (k ∷ gs)) h in (leb-true 1 (length g) e.0, names_tell (k ∷ gs) e.1))

abbrev is_one_name : List (List Name) → Bool
is_one_name ((x ∷ []) ∷ []) = true
is_one_name gs = false

one_name_tells : Tells is_one_name IsOneName
one_name_tells ((x ∷ []) ∷ []) h = tt
one_name_tells [] h = absurd cc
one_name_tells ([] ∷ gs) h = absurd cc
one_name_tells ((x ∷ y ∷ g) ∷ gs) h = absurd cc
one_name_tells ((x ∷ []) ∷ g ∷ gs) h = absurd cc

abbrev binder_fits : Binder → List (List Name) → ℕ → Bool
binder_fits binder.Filter gs n = is_one_name gs && nat_eq n 2
binder_fits b gs n = have_names gs && nat_eq n (suc (length gs))

groups_tell : (gs : List (List Name)) (n : ℕ) → (have_names gs && nat_eq n (suc (length gs))) ≡ true → HaveNames gs × (n ≡ suc (length gs))
groups_tell gs n h = (let k = and_parts (have_names gs) (nat_eq n (suc (length gs))) h in (names_tell gs k.0, eqb-true n (suc (length gs)) k.1))

binder_tells : (b : Binder) (gs : List (List Name)) (n : ℕ) → binder_fits b gs n ≡ true → BinderShaped b gs n
binder_tells binder.Filter gs n h = (let k = and_parts (is_one_name gs) (nat_eq n 2) h in (one_name_tells gs k.0, eqb-true n 2 k.1))
binder_tells binder.ForAll gs n h = groups_tell gs n h
binder_tells binder.Exists gs n h = groups_tell gs n h
binder_tells binder.Image gs n h = groups_tell gs n h
binder_tells binder.Function gs n h = groups_tell gs n h

abbrev case_fits : Bool → ℕ → Bool
case_fits false n = is_paired n
case_fits true zero = false
case_fits true (suc n) = is_paired n

case_tells : (b : Bool) (n : ℕ) → case_fits b n ≡ true → CaseShaped b n
case_tells false n h = paired_tells n h
case_tells true zero h = absurd cc
case_tells true (suc n) h = paired_tells n h

abbrev fits : Form → ℕ → Bool
fits (number k) n = nat_lt k past_numbers && nat_eq n 0
fits (strict o) n = strict_fits o n
fits (operator_call f) n = nat_le 1 n
fits conjunction n = nat_eq n 2
fits disjunction n = nat_eq n 2
fits implication n = nat_eq n 2
fits (member b) n = nat_eq n 2
fits if_then_else n = nat_eq n 3
fits (cases b) n = case_fits b n
fits (binding b gs) n = binder_fits b gs n
fits (form.local xs) n = nat_le 1 (length xs) && nat_eq n (suc (length xs))
fits _ n = nat_eq n 0

shape_tells : (m : Form) (n : ℕ) → fits m n ≡ true → Shaped m n
shape_tells (number k) n h = (let e = and_parts (nat_lt k past_numbers) (nat_eq n 0) h in (ltb-true k past_numbers e.0, eqb-true n 0 e.1))
shape_tells (strict o) n h = strict_tells o n h
shape_tells (operator_call f) n h = leb-true 1 n h
shape_tells conjunction n h = eqb-true n 2 h
shape_tells disjunction n h = eqb-true n 2 h
shape_tells implication n h = eqb-true n 2 h
shape_tells (member b) n h = eqb-true n 2 h
shape_tells if_then_else n h = eqb-true n 3 h
shape_tells (cases b) n h = case_tells b n h
shape_tells (binding b gs) n h = binder_tells b gs n h
shape_tells (form.local xs) n h = (let e = and_parts (nat_le 1 (length xs)) (nat_eq n (suc (length xs))) h in (leb-true 1 (length xs) e.0, eqb-true n (suc (length xs)) e.1))
shape_tells m n h = eqb-true n 0 h

-- ---- expressions
abbrev mutual
  is_writable : Tree → Bool
  is_writable (node m at ts) = fits m (count ts) && (list_all is_identifier (names_in m) && (list_all is_field (fields_in m) && (list_all is_string (strings_in m) && are_writable ts)))

  are_writable : Trees → Bool
  are_writable no_trees = true
  are_writable (tree t ts) = is_writable t && are_writable ts

mutual
  writable_tells : Tells is_writable IsWritable
  writable_tells (node m at ts) h =
      let a = and_parts (fits m (count ts)) _ h in
      let b = and_parts (list_all is_identifier (names_in m)) _ a.1 in
      let c = and_parts (list_all is_field (fields_in m)) _ b.1 in
      let d = and_parts (list_all is_string (strings_in m)) (are_writable ts) c.1 in
      (shape_tells m (count ts) a.0, each_tells is_identifier IsIdentifier identifier_tells (names_in m) b.0, each_tells is_field IsField field_tells (fields_in m) c.0, each_tells is_string IsString (λ w e. e) (strings_in m) d.0, trees_tell ts d.1)

  trees_tell : Tells are_writable AreWritable
  trees_tell no_trees h = tt
  trees_tell (tree t ts) h = (let k = and_parts (is_writable t) (are_writable ts) h in (writable_tells t k.0, trees_tell ts k.1))

-- ---- lists

abbrev all_some : {A : Type 0} → (A → Bool) → List A → Bool
all_some p [] = false
all_some p (x ∷ []) = p x
all_some p (x ∷ y ∷ xs) = p x && all_some p (y ∷ xs)

all_tell : {A : Type 0} (p : A → Bool) (P : A → Type 0) → Tells p P → Tells (all_some p) (AllOf P)
all_tell p P t [] h = absurd cc
all_tell p P t (x ∷ []) h = t x h
all_tell p P t (x ∷ y ∷ xs) h = (let k = and_parts (p x) (all_some p (y ∷ xs)) h in (t x k.0, all_tell p P t (y ∷ xs) k.1))

every_tells : {A : Type 0} (p : A → Bool) (P : A → Type 0) → Tells p P → Tells (list_all p) (AllByRecursion P)
every_tells p P t [] h = tt
every_tells p P t (x ∷ xs) h = (let k = and_parts (p x) (list_all p xs) h in (t x k.0, every_tells p P t xs k.1))

abbrev are_names : List Word → Bool
are_names xs = all_some is_identifier xs

are_names_tell : Tells are_names AreNames
are_names_tell xs h = all_tell is_identifier IsIdentifier identifier_tells xs h

both_tell : {A B : Type 0} (p : A → Bool) (P : A → Type 0) (q : B → Bool) (Q : B → Type 0) → Tells p P → Tells q Q → (x : A) (y : B) → (p x && q y) ≡ true → P x × Q y
both_tell p P q Q t u x y h = (let k = and_parts (p x) (q y) h in (t x k.0, u y k.1))

named_tree : (x : Word) (e : Tree) → (is_identifier x && is_writable e) ≡ true → IsIdentifier x × IsWritable e
named_tree x e h = both_tell is_identifier IsIdentifier is_writable IsWritable identifier_tells writable_tells x e h

-- ---- actions
abbrev mutual
  is_item : Item → Bool
  is_item (test e) = is_writable e
  is_item (setting x e) = is_identifier x && is_writable e
  is_item (unchanged xs) = are_names xs
  is_item (exists x s is) = (is_identifier x && is_writable s) && are_items is
  is_item (local x e is) = (is_identifier x && is_writable e) && are_items is
  is_item (parts.if_then_else p a b) = is_writable p && (are_items a && are_items b)
  is_item (either bs) = are_branches bs

  are_items : Items → Bool
  are_items no_items = false
  are_items (item i no_items) = is_item i
  are_items (item i (item j is)) = is_item i && are_items (item j is)

  are_branches : Branches → Bool
  are_branches no_branches = false
  are_branches (branch is no_branches) = are_items is
  are_branches (branch is (branch js bs)) = are_items is && are_branches (branch js bs)

mutual
  item_tells : Tells is_item IsItem
  item_tells (test e) h = writable_tells e h
  item_tells (setting x e) h = named_tree x e h
  item_tells (unchanged xs) h = are_names_tell xs h
  item_tells (exists x s is) h = (let k = and_parts (is_identifier x && is_writable s) (are_items is) h in let e = named_tree x s k.0 in (e.0, e.1, items_tell is k.1))
  item_tells (local x s is) h = (let k = and_parts (is_identifier x && is_writable s) (are_items is) h in let e = named_tree x s k.0 in (e.0, e.1, items_tell is k.1))
  item_tells (parts.if_then_else p a b) h = (let k = and_parts (is_writable p) (are_items a && are_items b) h in let e = and_parts (are_items a) (are_items b) k.1 in (writable_tells p k.0, items_tell a e.0, items_tell b e.1))
  item_tells (either bs) h = branches_tell bs h

  items_tell : Tells are_items AreItems
  items_tell no_items h = absurd cc
  items_tell (item i no_items) h = item_tells i h
  items_tell (item i (item j is)) h = (let k = and_parts (is_item i) (are_items (item j is)) h in (item_tells i k.0, items_tell (item j is) k.1))

  branches_tell : Tells are_branches AreBranches
  branches_tell no_branches h = absurd cc
  branches_tell (branch is no_branches) h = items_tell is h
  branches_tell (branch is (branch js bs)) h = (let k = and_parts (are_items is) (are_branches (branch js bs)) h in (items_tell is k.0, branches_tell (branch js bs) k.1))

abbrev is_call : Call → Bool
is_call (call a) = is_identifier a
is_call (call_with a e) = is_identifier a && is_writable e

call_tells : Tells is_call IsCall
call_tells (call a) h = identifier_tells a h
call_tells (call_with a e) h = named_tree a e h

abbrev is_way : Way → Bool
is_way (one_way c) = is_call c
is_way (some_way x s c) = (is_identifier x && is_writable s) && is_call c

way_tells : Tells is_way IsWay
way_tells (one_way c) h = call_tells c h
way_tells (some_way x s c) h = (let k = and_parts (is_identifier x && is_writable s) (is_call c) h in let e = named_tree x s k.0 in (e.0, e.1, call_tells c k.1))

abbrev is_body : Body → Bool
is_body (all_of is) = are_items is
is_body (some_of ys) = all_some is_way ys

body_tells : Tells is_body IsBody
body_tells (all_of is) h = items_tell is h
body_tells (some_of ys) h = all_tell is_way IsWay way_tells ys h

abbrev is_parameter : Option Word → Bool
is_parameter None = true
is_parameter (Some x) = is_identifier x

parameter_tells : Tells is_parameter IsParameter
parameter_tells None h = tt
parameter_tells (Some x) h = identifier_tells x h

-- ---- units

abbrev is_over : Option (Word × Tree) → Bool
is_over None = true
is_over (Some (x, s)) = is_identifier x && is_writable s

over_tells : Tells is_over IsOver
over_tells None h = tt
over_tells (Some (x, s)) h = named_tree x s h

abbrev is_guard : Option Tree → Bool
is_guard None = true
is_guard (Some e) = is_writable e

guard_tells : Tells is_guard IsGuard
guard_tells None h = tt
guard_tells (Some e) h = writable_tells e h

abbrev is_fairness : Fairness → Bool
is_fairness f = is_over f.over && (is_guard f.guard && is_call f.action)

fairness_tells : Tells is_fairness IsFairness
fairness_tells f h = (let k = and_parts (is_over f.over) _ h in let e = and_parts (is_guard f.guard) (is_call f.action) k.1 in (over_tells f.over k.0, guard_tells f.guard e.0, call_tells f.action e.1))

abbrev is_definition : Definition → Bool
is_definition d = is_identifier d.title && (not (is_own d.title) && (list_all is_identifier d.params && (is_writable d.body && not d.outside)))

definition_tells : Tells is_definition IsDefinition
definition_tells d h =
    let a = and_parts (is_identifier d.title) _ h in
    let b = and_parts (not (is_own d.title)) _ a.1 in
    let c = and_parts (list_all is_identifier d.params) _ b.1 in
    let e = and_parts (is_writable d.body) (not d.outside) c.1 in
    (identifier_tells d.title a.0, b.0, every_tells is_identifier IsIdentifier identifier_tells d.params c.0, writable_tells d.body e.0, not-true d.outside e.1)

abbrev is_action : Action → Bool
is_action a = is_identifier a.title && (not (is_own a.title) && (is_parameter a.parameter && is_body a.body))

action_tells : Tells is_action IsAction
action_tells a h =
    let k = and_parts (is_identifier a.title) _ h in
    let e = and_parts (not (is_own a.title)) _ k.1 in
    let f = and_parts (is_parameter a.parameter) (is_body a.body) e.1 in
    (identifier_tells a.title k.0, e.0, parameter_tells a.parameter f.0, body_tells a.body f.1)

abbrev same : Bool → Bool → Bool
same true b = b
same false b = not b

same_tells : (a b : Bool) → same a b ≡ true → a ≡ b
same_tells true true h = refl
same_tells true false h = absurd cc
same_tells false true h = absurd cc
same_tells false false h = refl

-- a translation that can be written
abbrev pub is_region : Region → Bool
is_region r =
    list_all is_identifier r.model_values && (are_names r.variables && (list_all is_definition r.definitions && (are_names r.vars
    && (list_all is_writable (sets_of (processes_in r.next) r.process_set) && (all_some is_writable r.init && (list_all is_action r.actions && (is_guard r.ended
    && (all_some is_way r.next && (list_all is_fairness r.fairness && (is_writable r.termination && same (is_some r.ended) (list_any is_terminating r.next)))))))))))

pub region_tells : (r : Region) → is_region r ≡ true → IsRegion r
region_tells r h =
    let a = and_parts (list_all is_identifier r.model_values) _ h in
    let b = and_parts (are_names r.variables) _ a.1 in
    let c = and_parts (list_all is_definition r.definitions) _ b.1 in
    let d = and_parts (are_names r.vars) _ c.1 in
    let e = and_parts (list_all is_writable (sets_of (processes_in r.next) r.process_set)) _ d.1 in
    let f = and_parts (all_some is_writable r.init) _ e.1 in
    let g = and_parts (list_all is_action r.actions) _ f.1 in
    let i = and_parts (is_guard r.ended) _ g.1 in
    let j = and_parts (all_some is_way r.next) _ i.1 in
    let k = and_parts (list_all is_fairness r.fairness) _ j.1 in
    let l = and_parts (is_writable r.termination) _ k.1 in
    record {
      model_values = every_tells is_identifier IsIdentifier identifier_tells r.model_values a.0;
      variables = are_names_tell r.variables b.0;
      definitions = every_tells is_definition IsDefinition definition_tells r.definitions c.0;
      vars = are_names_tell r.vars d.0;
      process_set = every_tells is_writable IsWritable writable_tells (sets_of (processes_in r.next) r.process_set) e.0;
      init = all_tell is_writable IsWritable writable_tells r.init f.0;
      actions = every_tells is_action IsAction action_tells r.actions g.0;
      ended = guard_tells r.ended i.0;
      next = all_tell is_way IsWay way_tells r.next j.0;
      fairness = every_tells is_fairness IsFairness fairness_tells r.fairness k.0;
      termination = writable_tells r.termination l.0;
      terminating = same_tells (is_some r.ended) (list_any is_terminating r.next) l.1;
    }

-- so it reads back, wherever it is put
pub reads_back : (r : Region) → is_region r ≡ true → (st : State) → IsReadBack st r
reads_back r h st = read_back st r (region_tells r h)

pub all_read : (rs : List Region) → list_all is_region rs ≡ true → AllByRecursion (λ (r : Region). (st : State) → IsReadBack st r) rs
all_read rs h = every_tells is_region (λ (r : Region). (st : State) → IsReadBack st r) reads_back rs h
