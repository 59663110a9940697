-- What is computed once for each macro, in place of looking through its body at each call: the names that it uses and doesn't bind, and its offences
-- that rest on no name around it ("A PlusCal User's Manual", sections 3.3, expressions, and 3.5, macros).
use Rattle.std.specs.Prelude.{ℕ, length, nat_eq, List, [], ◌∷◌, ◌++◌, Bool, false, ◌&&◌, not, cond, bytes_eq, Option, Some, None}
use Rattle.std.specs.List.{flat_map}
use Rattle.tla_token.specs.declared.place.Place.{Place}
use Rattle.tla_token.specs.declared.rule.Rule.TheVariants.{Unknown, Arity, NotVariable}
use Rattle.tla_token.specs.declared.rule.Refusal.{Refusal}
use Rattle.tla_token.specs.Rules.{rule_number}
use Rattle.tla_token.specs.Signs.{is_among}
use Rattle.tla_tree.specs.Tree.{Word, Form, name, operator_call, Tree, node, Trees, no_trees, tree, seen_names, root_place}
use Rattle.pcal_tree.specs.Algorithm.{Name, Assignments, no_assignments, assignment, Binds, no_binds, one_of, is, Statement, assign, await, print, assert, skip, branch, either, with, while, goto, macro, call, return, Statements, done, then, mark, Branches, no_branches, or, Macro, Procedure}
use Rattle.pcal_tree.specs.Offences.{offence, offence_if}
use Rattle.tla_value.specs.StandardModules.{is_member, is_last}
use Rattle.pcal_tree.specs.NameUses.{Use, takes, variable, Sight, use_of, applied_offences, left_offences, handed_use}
use Rattle.pcal_tree.specs.Paths.{root}
use Rattle.pcal_tree.specs.OffencesNames.{seeing_parameters, count, Calls, call_offences}
use Rattle.pcal_tree.specs.laws.MacroSummaries.{union, same_truth}

-- a name with so many arguments, true directly right of \in or \notin; a name at the beginning of a left side; and one at the beginning of an argument, which is at
-- a place and is assigned by the macro
pub data NameUse : Type 0 where
  applied : Word → ℕ → Bool → Place → NameUse
  assigned : Word → Place → NameUse
  handed : Word → Place → NameUse

-- offences that rest on no name around, and uses of names that are not bound
pub record Uses : Type 0 where
  pub offences : List Refusal
  pub free : List NameUse

pub record MacroUses : Type 0 where
  pub title : Word
  pub params : List Name
  pub uses : Uses

abbrev pub used_word : NameUse → Word
used_word (applied x n right at) = x
used_word (assigned x at) = x
used_word (handed x at) = x

-- of a name that may be used so, or is nothing
abbrev pub offences_as : Option Use → NameUse → List Refusal
offences_as o (applied x n right at) = applied_offences o n right at
offences_as o (assigned x at) = left_offences o at
offences_as o (handed x at) = left_offences (Some (handed_use o at)) at

-- ---- each once

abbrev pub same_place : Place → Place → Bool
same_place p q = nat_eq p.line q.line && nat_eq p.col q.col

abbrev pub same_name : Name → Name → Bool
same_name x y = bytes_eq x.word y.word && same_place x.place y.place

abbrev pub same_refusal : Refusal → Refusal → Bool
same_refusal r q = nat_eq (rule_number r.rule) (rule_number q.rule) && same_place r.place q.place

abbrev pub same_use : NameUse → NameUse → Bool
same_use (applied x n r at) (applied y k l by) = bytes_eq x y && (nat_eq n k && (same_truth r l && same_place at by))
same_use (assigned x at) (assigned y by) = bytes_eq x y && same_place at by
same_use (handed x at) (handed y by) = bytes_eq x y && same_place at by
same_use _ _ = false

abbrev pub no_uses : Uses
no_uses = record { offences = []; free = [] }

abbrev pub offending : List Refusal → Uses
offending rs = record { offences = rs; free = [] }

abbrev pub both : Uses → Uses → Uses
both a b = record { offences = union same_refusal a.offences b.offences; free = union same_use a.free b.free }

-- a use where the names xs are bound
abbrev pub use_inside : List Word → NameUse → Uses
use_inside xs u = cond (is_among xs (used_word u)) (offending (offences_as (Some (takes 0)) u)) (record { offences = []; free = u ∷ [] })

-- ---- expressions, where the names xs are bound

abbrev pub form_uses : List Word → Bool → Form → ℕ → Place → Uses
form_uses xs right (name x) n at = use_inside xs (applied x 0 right at)
form_uses xs right (operator_call f) n at = use_inside xs (applied f n right at)
form_uses xs right _ n at = no_uses

abbrev mutual
  pub tree_uses : Tree → Bool → List Word → Uses
  tree_uses (node m at ts) right xs = both (form_uses xs right m (count ts) at) (parts_uses (seen_names m) (is_member m) ts xs)

  pub parts_uses : List (List Word) → Bool → Trees → List Word → Uses
  parts_uses names right no_trees xs = no_uses
  parts_uses [] right (tree t ts) xs = both (tree_uses t (right && is_last ts) xs) (parts_uses [] right ts xs)
  parts_uses (ys ∷ names) right (tree t ts) xs = both (tree_uses t (right && is_last ts) (ys ++ xs)) (parts_uses names right ts xs)

abbrev pub root_uses : List Word → Form → Place → Uses
root_uses xs (name x) at = use_inside xs (assigned x at)
root_uses xs _ at = no_uses

abbrev mutual
  pub left_uses : Tree → List Word → Uses
  left_uses (node m at ts) xs = both (root_uses xs m at) (left_parts_uses ts xs)

  pub left_parts_uses : Trees → List Word → Uses
  left_parts_uses no_trees xs = no_uses
  left_parts_uses (tree t ts) xs = both (left_uses t xs) (parts_uses [] false ts xs)

-- ---- statements, where the names xs are bound

-- of a macro call at a place
abbrev pub CallUses : Type 0
CallUses = List Word → Place → Word → Trees → Uses

abbrev pub assignments_uses : Assignments → List Word → Uses
assignments_uses no_assignments xs = no_uses
assignments_uses (assignment l e ms) xs = both (left_uses l xs) (both (tree_uses e false xs) (assignments_uses ms xs))

abbrev pub binds_uses : Binds → List Word → Uses
binds_uses no_binds xs = no_uses
binds_uses (one_of x e bs) xs = both (tree_uses e false xs) (binds_uses bs (x.word ∷ xs))
binds_uses (is x e bs) xs = both (tree_uses e false xs) (binds_uses bs (x.word ∷ xs))

abbrev pub bound_after : Binds → List Word → List Word
bound_after no_binds xs = xs
bound_after (one_of x e bs) xs = bound_after bs (x.word ∷ xs)
bound_after (is x e bs) xs = bound_after bs (x.word ∷ xs)

abbrev mutual
  pub one_uses : CallUses → List Procedure → Place → Statement → List Word → Uses
  one_uses S ps at (assign ms) xs = assignments_uses ms xs
  one_uses S ps at (await e) xs = tree_uses e false xs
  one_uses S ps at (print e) xs = tree_uses e false xs
  one_uses S ps at (assert e) xs = tree_uses e false xs
  one_uses S ps at skip xs = no_uses
  one_uses S ps at (branch e a b) xs = both (tree_uses e false xs) (both (body_uses S ps a xs) (body_uses S ps b xs))
  one_uses S ps at (either bs) xs = branches_uses S ps bs xs
  one_uses S ps at (with bs b) xs = both (binds_uses bs xs) (body_uses S ps b (bound_after bs xs))
  one_uses S ps at (while e b) xs = both (tree_uses e false xs) (body_uses S ps b xs)
  one_uses S ps at (goto l) xs = no_uses
  one_uses S ps at (macro m ts) xs = both (S xs at m ts) (parts_uses [] false ts xs)
  one_uses S ps at (call p ts) xs = both (offending (call_offences ps at p (count ts))) (parts_uses [] false ts xs)
  one_uses S ps at return xs = no_uses

  pub body_uses : CallUses → List Procedure → Statements → List Word → Uses
  body_uses S ps done xs = no_uses
  body_uses S ps (then at st rest) xs = both (one_uses S ps at.first st xs) (body_uses S ps rest xs)
  body_uses S ps (mark l k rest) xs = body_uses S ps rest xs

  pub branches_uses : CallUses → List Procedure → Branches → List Word → Uses
  branches_uses S ps no_branches xs = no_uses
  branches_uses S ps (or b bs) xs = both (body_uses S ps b xs) (branches_uses S ps bs xs)

-- ---- macros and calls

-- a macro's use of a parameter whose argument, at a place, begins with this name or is no left side
abbrev pub argument_uses : List Word → Option Word → Place → NameUse → Uses
argument_uses xs o at (applied p n right by) = offending (applied_offences (Some variable) n right by)
argument_uses xs None at v = offending (offence NotVariable at)
argument_uses xs (Some x) at v = use_inside xs (handed x at)

-- a use in a macro's body, where the macro is called with arguments and the names xs are bound around the call
abbrev pub called_use : List Word → List Name → Trees → NameUse → Uses
called_use xs [] ts v = use_inside xs v
called_use xs (p ∷ ps) no_trees v = cond (bytes_eq p.word (used_word v)) (offending (offences_as (Some variable) v)) (called_use xs ps no_trees v)
called_use xs (p ∷ ps) (tree t ts) v = cond (bytes_eq p.word (used_word v)) (argument_uses xs (root t) (root_place t) v) (called_use xs ps ts v)

abbrev pub called_uses : List Word → List Name → Trees → List NameUse → Uses
called_uses xs ps ts [] = no_uses
called_uses xs ps ts (u ∷ us) = both (called_use xs ps ts u) (called_uses xs ps ts us)

-- a call in a macro
abbrev pub call_uses : List MacroUses → CallUses
call_uses [] xs at m ts = offending (offence Unknown at)
call_uses (d ∷ older) xs at m ts =
    cond (bytes_eq d.title m)
    (both (offending (offence_if (not (nat_eq (length d.params) (count ts))) Arity at)) (both (offending d.uses.offences) (called_uses xs d.params ts d.uses.free)))
    (call_uses older xs at m ts)

-- the newest first; parameters are not bound, since their arguments are not known
abbrev pub macro_uses : List Macro → List Procedure → List MacroUses
macro_uses [] ps = []
macro_uses (d ∷ older) ps =
    let before = macro_uses older ps in
    record { title = d.name.word; params = d.params; uses = body_uses (call_uses before) ps d.body [] } ∷ before

-- what uses offend where they are
abbrev pub offences_seen : Uses → Sight → List Refusal
offences_seen u s = u.offences ++ flat_map (λ v. offences_as (use_of s (used_word v)) v) u.free

-- what a macro call offends, by what was computed for each macro
abbrev pub offences_by_uses : List MacroUses → Calls
offences_by_uses [] s at m ts = offence Unknown at
offences_by_uses (d ∷ older) s at m ts =
    cond (bytes_eq d.title m)
    (offence_if (not (nat_eq (length d.params) (count ts))) Arity at ++ offences_seen d.uses (seeing_parameters d.params ts s s))
    (offences_by_uses older s at m ts)
