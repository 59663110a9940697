-- Offences against the rules on names are of later rules than those on how an algorithm is spelled.
use Rattle.std.proofs.Common.{◌≡◌, ℕ, nat_eq, List, [], ◌∷◌, ◌++◌, map, reverse, length, Bool, true, false, not, ◌&&◌, ◌||◌, cond, bytes_eq, Option, Some, None, refl}
use Rattle.std.specs.Prelude.{nat_lt, codes}
use Rattle.std.specs.List.{list_all, list_any, flat_map}
use Rattle.tla_token.specs.declared.place.Place.{Place}
use Rattle.tla_token.specs.declared.rule.Rule.{Rule}
use Rattle.tla_token.specs.declared.rule.Rule.TheVariants.{Unknown, Duplicate, Rebind, Reserved, Arity, NotVariable, NeedsModule, OutsideVariable, OpaqueUnit, ProcessNotConstant, InitSelf, InitLater, Infinite, DefinedStale, SelfOutside}
use Rattle.tla_token.specs.declared.rule.Refusal.{Refusal}
use Rattle.tla_token.specs.Rules.{rule_number}
use Rattle.tla_token.specs.Signs.{is_among}
use Rattle.tla_token.specs.Words.{is_own, is_standard}
use Rattle.tla_tree.specs.Tree.{Word, Name, Form, name, operator_call, strict, operator, strings, Tree, node, Trees, no_trees, tree, words, seen_names, root_place}
use Rattle.tla_value.specs.Outside.{Outside, Opaque}
use Rattle.tla_value.specs.StandardModules.{is_member, is_last, extends_one, has_operator, tlc_modules, sequence_modules}
use Rattle.module_tree.proofs.FineFiles.{all_more}
use Rattle.pcal_tree.specs.Algorithm.{Assignments, no_assignments, assignment, Binds, no_binds, one_of, is, Statement, assign, await, print, assert, skip, branch, either, with, while, goto, macro, call, return, Statements, done, then, mark, Branches, no_branches, or, Start, unset, equals, among, Declaration, Definition, Macro, Procedure, Process, Main, alone, processes, Algorithm, declares, locals, routines}
use Rattle.pcal_tree.specs.BoundNames.{all_of, lists_of, bound_lists, names_of_binds}
use Rattle.pcal_tree.specs.Expressions.{all_statements, all_expressions}
use Rattle.pcal_tree.specs.NameUses.{Use, takes, variable, argument, standard, unread, Known, Sight, use_of, arity_of, use_offences, module_offences, infinite_offences, applied_offences, left_offences, seeing_plain, seeing_variables}
use Rattle.pcal_tree.specs.Offences.{offence_if}
use Rattle.pcal_tree.specs.OffencesLabels.{all_labels}
use Rattle.pcal_tree.specs.OffencesModules.{sign_offences, strings_offences, text_offences, text_offences_in, statement_needs, procedure_needs, module_needs, outside_variables}
use Rattle.pcal_tree.specs.OffencesNames as uses
use Rattle.pcal_tree.specs.OffencesNames.{count, form_offences, in_tree, in_parts, root_offences, in_left, in_left_parts, call_offences, in_assignments, in_binds, after_binds, in_one, in_body, in_branches, seeing_parameters, macro_offences, defined_inside, sight_outside, sight_inside, in_start, in_declared, in_definitions, in_procedure, in_process, in_main, use_offences_of, repeated, names_of, process_names, repeated_in_main, kept_names, repeated_names}
use Rattle.pcal_tree.specs.OffencesOfNames.{name_offences}
use Rattle.pcal_tree.specs.OffencesReads.{processes_of, not_constant, process_offences, of_one_process, own_in_start, own_in_sets, own_offences, reads_later, later_in, order_offences}
use Rattle.pcal_tree.specs.OffencesRebind as rebind
use Rattle.pcal_tree.specs.OffencesRebind.{Standings, rebound, rebound_all, put_in, any_name, self_alone, form_rebinds, tree_rebinds, parts_rebind, start_rebinds, starts_rebind, jump_rebinds, call_rebinds, assignments_rebind, binds_rebind, one_rebinds, body_rebinds, branches_rebind, macro_rebinds, texts_rebind, definitions_rebind, locals_rebind, procedure_rebinds, process_rebinds, main_rebinds, rebind_offences_of, brought, naming, in_scope, may_rebind, bound_by, putting_in, standing_outside, standing_inside, in_process_body}
use Rattle.pcal_tree.specs.OffencesReserved.{declared_names, reserved_name, reserved_label, reserved_read, reserved_opaque, reserved_outside, reserved_declared}
use Rattle.pcal_tree.specs.OffencesSelf.{self_offence, selves, used_at_the_top, used_outside, self_offences}
use Rattle.pcal_tree.specs.OffencesStale.{Looking, stands_for, stale_at, stale_in, stale_in_procedure, stale_in_process, stale_in_main, stale_offences, written_out_spots}
use Rattle.pcal_tree.specs.Outside.{unit_names}
use Rattle.pcal_tree.specs.Paths.{has_assigned}
use Rattle.pcal_tree.specs.Reads.{Reading, used, initial, looked_at, readings_of, through}
use Rattle.pcal_tree.specs.Spots.{Spot}
use Rattle.pcal_tree.specs.Variables.{declared}
use Rattle.file_answer.specs.Refusals.{of_spelling}

-- ---- lists of refusals

abbrev pub is_later : Refusal → Bool
is_later r = nat_lt of_spelling (rule_number r.rule)

abbrev pub AllLater : List Refusal → Type 0
AllLater rs = list_all is_later rs ≡ true

pub both : (rs qs : List Refusal) → AllLater rs → AllLater qs → AllLater (rs ++ qs)
both = all_more is_later

pub if_later : (b : Bool) (r : Rule) (at : Place) → nat_lt of_spelling (rule_number r) ≡ true → AllLater (offence_if b r at)
if_later true r at h = rw h refl
if_later false r at h = refl

pub flat : {X : Type 0} (f : X → List Refusal) → ((x : X) → AllLater (f x)) → (xs : List X) → AllLater (flat_map f xs)
flat f h [] = refl
flat f h (x ∷ xs) = both (f x) (flat_map f xs) (h x) (flat f h xs)

-- ---- uses of names

use_later : (o : Option Use) (n : ℕ) (at : Place) → AllLater (use_offences o n at)
use_later None n at = refl
use_later (Some unread) n at = refl
use_later (Some (takes k)) n at = if_later (not (nat_eq k n)) Arity at refl
use_later (Some variable) n at = if_later (not (nat_eq 0 n)) Arity at refl
use_later (Some (argument p)) n at = if_later (not (nat_eq 0 n)) Arity at refl
use_later (Some (standard d e)) n at = if_later (not (nat_eq d.arity n)) Arity at refl

module_later : (o : Option Use) (at : Place) → AllLater (module_offences o at)
module_later None at = refl
module_later (Some unread) at = refl
module_later (Some (takes k)) at = refl
module_later (Some variable) at = refl
module_later (Some (argument p)) at = refl
module_later (Some (standard d e)) at = if_later (not e) NeedsModule at refl

infinite_later : (o : Option Use) (right : Bool) (at : Place) → AllLater (infinite_offences o right at)
infinite_later None right at = refl
infinite_later (Some unread) right at = refl
infinite_later (Some (takes k)) right at = refl
infinite_later (Some variable) right at = refl
infinite_later (Some (argument p)) right at = refl
infinite_later (Some (standard d e)) right at = if_later (d.infinite && not right) Infinite at refl

applied_later : (o : Option Use) (n : ℕ) (right : Bool) (at : Place) → AllLater (applied_offences o n right at)
applied_later o n right at =
    both (use_offences o n at) (module_offences o at ++ infinite_offences o right at) (use_later o n at)
    (both (module_offences o at) (infinite_offences o right at) (module_later o at) (infinite_later o right at))

left_later : (o : Option Use) (at : Place) → AllLater (left_offences o at)
left_later None at = refl
left_later (Some variable) at = refl
left_later (Some (argument p)) at = refl
left_later (Some unread) at = refl
left_later (Some (takes k)) at = refl
left_later (Some (standard d e)) at = refl

form_later : (s : Sight) (right : Bool) (m : Form) (n : ℕ) (at : Place) → AllLater (form_offences s right m n at)
form_later s right (name x) n at = applied_later (use_of s x) 0 right at
form_later s right (operator_call f) n at = applied_later (use_of s f) n right at
form_later s right _ n at = refl

mutual
  tree_later : (t : Tree) (right : Bool) (s : Sight) → AllLater (in_tree t right s)
  tree_later (node m at ts) right s =
      both (form_offences s right m (count ts) at) (in_parts (seen_names m) (is_member m) ts s) (form_later s right m (count ts) at) (parts_later (seen_names m) (is_member m) ts s)

  parts_later : (names : List (List Word)) (right : Bool) (ts : Trees) (s : Sight) → AllLater (in_parts names right ts s)
  parts_later names right no_trees s = refl
  parts_later [] right (tree t ts) s =
      both (in_tree t (right && is_last ts) s) (in_parts [] right ts s) (tree_later t (right && is_last ts) s) (parts_later [] right ts s)
  parts_later (xs ∷ names) right (tree t ts) s =
      both (in_tree t (right && is_last ts) (seeing_plain xs s)) (in_parts names right ts s) (tree_later t (right && is_last ts) (seeing_plain xs s)) (parts_later names right ts s)

root_later : (s : Sight) (m : Form) (at : Place) → AllLater (root_offences s m at)
root_later s (name x) at = left_later (use_of s x) at
root_later s _ at = refl

mutual
  lefts_later : (t : Tree) (s : Sight) → AllLater (in_left t s)
  lefts_later (node m at ts) s = both (root_offences s m at) (in_left_parts ts s) (root_later s m at) (left_parts_later ts s)

  left_parts_later : (ts : Trees) (s : Sight) → AllLater (in_left_parts ts s)
  left_parts_later no_trees s = refl
  left_parts_later (tree t ts) s = both (in_left t s) (in_parts [] false ts s) (lefts_later t s) (parts_later [] false ts s)

call_later : (ps : List Procedure) (at : Place) (p : Name) (n : ℕ) → AllLater (call_offences ps at p n)
call_later [] at p n = refl
call_later (d ∷ ds) at p n = by (call_later ds at p n) (bytes_eq d.name.word p.word)
  where
    by : AllLater (call_offences ds at p n) → (b : Bool) → AllLater (cond b (offence_if (not (nat_eq (length d.params) n)) Arity p.place) (call_offences ds at p n))
    by deeper true = if_later (not (nat_eq (length d.params) n)) Arity p.place refl
    by deeper false = deeper

assignments_later : (ms : Assignments) (s : Sight) → AllLater (in_assignments ms s)
assignments_later no_assignments s = refl
assignments_later (assignment l e ms) s =
    both (in_left l s) (in_tree e false s ++ in_assignments ms s) (lefts_later l s) (both (in_tree e false s) (in_assignments ms s) (tree_later e false s) (assignments_later ms s))

binds_later : (bs : Binds) (s : Sight) → AllLater (in_binds bs s)
binds_later no_binds s = refl
binds_later (one_of x e bs) s = both (in_tree e false s) _ (tree_later e false s) (binds_later bs (seeing_plain (x.word ∷ []) s))
binds_later (is x e bs) s = both (in_tree e false s) _ (tree_later e false s) (binds_later bs (seeing_plain (x.word ∷ []) s))

module _ (C : uses.Calls) (calls : (s : Sight) (at : Place) (m : Word) (ts : Trees) → AllLater (C s at m ts)) (ps : List Procedure) where
  mutual
    one_later : (at : Place) (st : Statement) (s : Sight) → AllLater (in_one C ps at st s)
    one_later at (assign ms) s = assignments_later ms s
    one_later at (await e) s = tree_later e false s
    one_later at (print e) s = tree_later e false s
    one_later at (assert e) s = tree_later e false s
    one_later at skip s = refl
    one_later at (branch e a b) s = both (in_tree e false s) _ (tree_later e false s) (both (in_body C ps a s) (in_body C ps b s) (body_later a s) (body_later b s))
    one_later at (either bs) s = branches_later bs s
    one_later at (with bs b) s = both (in_binds bs s) _ (binds_later bs s) (body_later b (after_binds bs s))
    one_later at (while e b) s = both (in_tree e false s) _ (tree_later e false s) (body_later b s)
    one_later at (goto l) s = refl
    one_later at (macro m ts) s = both (C s at m ts) _ (calls s at m ts) (parts_later [] false ts s)
    one_later at (call p ts) s = both (call_offences ps at p (count ts)) _ (call_later ps at p (count ts)) (parts_later [] false ts s)
    one_later at return s = refl

    body_later : (b : Statements) (s : Sight) → AllLater (in_body C ps b s)
    body_later done s = refl
    body_later (then at st rest) s = both (in_one C ps at.first st s) (in_body C ps rest s) (one_later at.first st s) (body_later rest s)
    body_later (mark l k rest) s = body_later rest s

    branches_later : (bs : Branches) (s : Sight) → AllLater (in_branches C ps bs s)
    branches_later no_branches s = refl
    branches_later (or b bs) s = both (in_body C ps b s) (in_branches C ps bs s) (body_later b s) (branches_later bs s)

  start_later : (d : Start) (s : Sight) → AllLater (in_start d s)
  start_later unset s = refl
  start_later (equals e) s = tree_later e false s
  start_later (among e) s = tree_later e false s

  declared_later : (ds : List Declaration) (s : Sight) → AllLater (in_declared ds s)
  declared_later ds s = flat (λ (d : Declaration). in_start d.start s) (λ d. start_later d.start s) ds

  definitions_later : (ds : List Definition) (s : Sight) → AllLater (in_definitions ds s)
  definitions_later [] s = refl
  definitions_later (d ∷ ds) s = both (in_tree d.body false (seeing_plain (words d.params) s)) _ (tree_later d.body false (seeing_plain (words d.params) s)) (definitions_later ds (defined_inside d ∷ s))

  procedure_later : (s : Sight) (p : Procedure) → AllLater (in_procedure C ps s p)
  procedure_later s p =
      let v = seeing_variables (declared (p.params ++ p.variables)) s in
      both (in_declared (p.params ++ p.variables) v) (in_body C ps p.body v) (declared_later (p.params ++ p.variables) v) (body_later p.body v)

  process_later : (s : Sight) (p : Process) → AllLater (in_process C ps s p)
  process_later s p =
      let v = seeing_variables (declared p.variables) s in
      both (in_tree p.identity false s) _ (tree_later p.identity false s) (both (in_declared p.variables v) (in_body C ps p.body v) (declared_later p.variables v) (body_later p.body v))

  main_later : (s : Sight) (m : Main) → AllLater (in_main C ps s m)
  main_later s (alone b) = body_later b s
  main_later s (processes qs) = flat (in_process C ps s) (process_later s) qs

macros_later : (ms : List Macro) (ps : List Procedure) (s : Sight) (at : Place) (m : Word) (ts : Trees) → AllLater (macro_offences ms ps s at m ts)
macros_later [] ps s at m ts = refl
macros_later (d ∷ older) ps s at m ts = by (macros_later older ps) (bytes_eq d.name.word m)
  where
    by : ((s : Sight) (at : Place) (m : Word) (ts : Trees) → AllLater (macro_offences older ps s at m ts)) → (b : Bool) → AllLater (cond b (offence_if (not (nat_eq (length d.params) (count ts))) Arity at ++ in_body (macro_offences older ps) ps d.body (seeing_parameters d.params ts s s)) (macro_offences older ps s at m ts))
    by calls true =
        both (offence_if (not (nat_eq (length d.params) (count ts))) Arity at) _ (if_later (not (nat_eq (length d.params) (count ts))) Arity at refl)
        (body_later (macro_offences older ps) calls ps d.body (seeing_parameters d.params ts s s))
    by calls false = calls s at m ts

uses_later : (a : Algorithm) (o : Outside) → AllLater (use_offences_of a o)
uses_later a o =
    let C = macro_offences (reverse a.macros) a.procedures in
    let calls = macros_later (reverse a.macros) a.procedures in
    let s = sight_inside a o in
    let v = seeing_variables (declared a.globals) (sight_outside o) in
    both (in_declared a.globals s) _ (declared_later C calls a.procedures a.globals s)
    (both (in_definitions a.definitions v) _ (definitions_later C calls a.procedures a.definitions v)
    (both (flat_map (in_procedure C a.procedures s) a.procedures) _ (flat (in_procedure C a.procedures s) (procedure_later C calls a.procedures s) a.procedures) (main_later C calls a.procedures s a.main)))

-- ---- names declared twice

repeated_later : (seen : List Word) (ns : List Name) → AllLater (repeated seen ns)
repeated_later seen [] = refl
repeated_later seen (n ∷ ns) = both (offence_if (is_among seen n.word) Duplicate n.place) _ (if_later (is_among seen n.word) Duplicate n.place refl) (repeated_later (n.word ∷ seen) ns)

repeated_main_later : (m : Main) → AllLater (repeated_in_main m)
repeated_main_later (alone b) = refl
repeated_main_later (processes ps) = flat (λ (p : Process). repeated [] (names_of p.variables)) (λ p. repeated_later [] (names_of p.variables)) ps

names_later : (a : Algorithm) (o : Outside) → AllLater (repeated_names a o)
names_later a o =
    both (repeated (unit_names o) (kept_names a)) _ (repeated_later (unit_names o) (kept_names a))
    (both (repeated (words (kept_names a)) (map (λ d. d.name) a.macros ++ (map (λ p. p.name) a.procedures ++ process_names a.main))) _
    (repeated_later (words (kept_names a)) (map (λ d. d.name) a.macros ++ (map (λ p. p.name) a.procedures ++ process_names a.main)))
    (both (flat_map (λ (d : Definition). repeated [] d.params) a.definitions) _ (flat (λ (d : Definition). repeated [] d.params) (λ d. repeated_later [] d.params) a.definitions)
    (both (flat_map (λ (d : Macro). repeated [] d.params) a.macros) _ (flat (λ (d : Macro). repeated [] d.params) (λ d. repeated_later [] d.params) a.macros)
    (both (flat_map (λ (p : Procedure). repeated [] (names_of (p.params ++ p.variables))) a.procedures) _
    (flat (λ (p : Procedure). repeated [] (names_of (p.params ++ p.variables))) (λ p. repeated_later [] (names_of (p.params ++ p.variables))) a.procedures)
    (both (repeated_in_main a.main) _ (repeated_main_later a.main) (flat (repeated []) (repeated_later []) (bound_lists a)))))))

-- ---- names bound again

module _ (extended : List Word) where
  rebound_later : (s : Standings) (n : Name) → AllLater (rebound extended s n)
  rebound_later s n = if_later (in_scope s n.word && may_rebind extended n.word) Rebind n.place refl

  all_rebound_later : (s : Standings) (ns : List Name) → AllLater (rebound_all extended s ns)
  all_rebound_later s ns = flat (rebound extended s) (rebound_later s) ns

  form_rebinds_later : (K : Word → Bool) (s : Standings) (m : Form) → AllLater (form_rebinds extended K s m)
  form_rebinds_later K s m = both (rebound_all extended s (all_of (lists_of m))) _ (all_rebound_later s (all_of (lists_of m))) (all_rebound_later s (put_in K s m))

  mutual
    tree_rebinds_later : (K : Word → Bool) (t : Tree) (s : Standings) → AllLater (tree_rebinds extended K t s)
    tree_rebinds_later K (node m at ts) s = both (form_rebinds extended K s m) _ (form_rebinds_later K s m) (parts_rebind_later K (seen_names m) ts s)

    parts_rebind_later : (K : Word → Bool) (names : List (List Word)) (ts : Trees) (s : Standings) → AllLater (parts_rebind extended K names ts s)
    parts_rebind_later K names no_trees s = refl
    parts_rebind_later K [] (tree t ts) s = both (tree_rebinds extended K t s) _ (tree_rebinds_later K t s) (parts_rebind_later K [] ts s)
    parts_rebind_later K (xs ∷ names) (tree t ts) s = both (tree_rebinds extended K t (naming xs s)) _ (tree_rebinds_later K t (naming xs s)) (parts_rebind_later K names ts s)

  start_rebinds_later : (K : Word → Bool) (d : Start) (s : Standings) → AllLater (start_rebinds extended K d s)
  start_rebinds_later K unset s = refl
  start_rebinds_later K (equals e) s = tree_rebinds_later K e s
  start_rebinds_later K (among e) s = tree_rebinds_later K e s

  starts_rebind_later : (K : Word → Bool) (ds : List Declaration) (s : Standings) → AllLater (starts_rebind extended K ds s)
  starts_rebind_later K ds s = flat (λ (d : Declaration). start_rebinds extended K d.start s) (λ d. start_rebinds_later K d.start s) ds

  call_rebinds_later : (ps : List Procedure) (p : Word) (s : Standings) → AllLater (call_rebinds extended ps p s)
  call_rebinds_later [] p s = refl
  call_rebinds_later (d ∷ ds) p s = by (call_rebinds_later ds p s) (bytes_eq d.name.word p)
    where
      by : AllLater (call_rebinds extended ds p s) → (b : Bool) → AllLater (cond b (starts_rebind extended self_alone d.variables s) (call_rebinds extended ds p s))
      by deeper true = starts_rebind_later self_alone d.variables s
      by deeper false = deeper

  assignments_rebind_later : (ms : Assignments) (s : Standings) → AllLater (assignments_rebind extended ms s)
  assignments_rebind_later no_assignments s = refl
  assignments_rebind_later (assignment l e ms) s =
      both (tree_rebinds extended any_name l s) _ (tree_rebinds_later any_name l s) (both (tree_rebinds extended any_name e s) _ (tree_rebinds_later any_name e s) (assignments_rebind_later ms s))

  binds_rebind_later : (bs : Binds) (s : Standings) → AllLater (binds_rebind extended bs s)
  binds_rebind_later no_binds s = refl
  binds_rebind_later (one_of x e bs) s = both (tree_rebinds extended any_name e s) _ (tree_rebinds_later any_name e s) (binds_rebind_later bs (naming (x.word ∷ []) s))
  binds_rebind_later (is x e bs) s = both (tree_rebinds extended any_name e s) _ (tree_rebinds_later any_name e s) (binds_rebind_later bs (naming (x.word ∷ []) s))

  module _ (ps : List Procedure) where
    module _ (C : rebind.Calls) (calls : (s : Standings) (m : Word) (ts : Trees) → AllLater (C s m ts)) where
      mutual
        one_rebinds_later : (st : Statement) (s : Standings) → AllLater (one_rebinds extended ps C st s)
        one_rebinds_later (assign ms) s = assignments_rebind_later ms s
        one_rebinds_later (await e) s = tree_rebinds_later any_name e s
        one_rebinds_later (print e) s = tree_rebinds_later any_name e s
        one_rebinds_later (assert e) s = tree_rebinds_later any_name e s
        one_rebinds_later skip s = refl
        one_rebinds_later (branch e a b) s =
            both (tree_rebinds extended any_name e s) _ (tree_rebinds_later any_name e s) (both (body_rebinds extended ps C a s) _ (body_rebinds_later a s) (body_rebinds_later b s))
        one_rebinds_later (either bs) s = branches_rebind_later bs s
        one_rebinds_later (with bs b) s =
            both (rebound_all extended s (names_of_binds bs)) _ (all_rebound_later s (names_of_binds bs))
            (both (binds_rebind extended bs s) _ (binds_rebind_later bs s) (body_rebinds_later b (naming (words (names_of_binds bs)) s)))
        one_rebinds_later (while e b) s = both (tree_rebinds extended any_name e s) _ (tree_rebinds_later any_name e s) (body_rebinds_later b s)
        one_rebinds_later (goto l) s = all_rebound_later s (brought s (codes "self"))
        one_rebinds_later (macro m ts) s = both (C s m ts) _ (calls s m ts) (parts_rebind_later any_name [] ts s)
        one_rebinds_later (call p ts) s =
            both (jump_rebinds extended s) _ (all_rebound_later s (brought s (codes "self")))
            (both (call_rebinds extended ps p.word s) _ (call_rebinds_later ps p.word s) (parts_rebind_later any_name [] ts s))
        one_rebinds_later return s = refl

        body_rebinds_later : (b : Statements) (s : Standings) → AllLater (body_rebinds extended ps C b s)
        body_rebinds_later done s = refl
        body_rebinds_later (then at st rest) s = both (one_rebinds extended ps C st s) _ (one_rebinds_later st s) (body_rebinds_later rest s)
        body_rebinds_later (mark l k rest) s = body_rebinds_later rest s

        branches_rebind_later : (bs : Branches) (s : Standings) → AllLater (branches_rebind extended ps C bs s)
        branches_rebind_later no_branches s = refl
        branches_rebind_later (or b bs) s = both (body_rebinds extended ps C b s) _ (body_rebinds_later b s) (branches_rebind_later bs s)

      locals_rebind_later : (ds : List Declaration) (s : Standings) → AllLater (locals_rebind extended ds s)
      locals_rebind_later ds s = both (rebound_all extended s (names_of ds)) _ (all_rebound_later s (names_of ds)) (starts_rebind_later any_name ds (naming (declared ds) s))

      procedure_rebinds_later : (s : Standings) (p : Procedure) → AllLater (procedure_rebinds extended ps C s p)
      procedure_rebinds_later s p =
          both (locals_rebind extended (p.params ++ p.variables) s) _ (locals_rebind_later (p.params ++ p.variables) s) (body_rebinds_later p.body (naming (declared (p.params ++ p.variables)) s))

      process_rebinds_later : (s : Standings) (p : Process) → AllLater (process_rebinds extended ps C s p)
      process_rebinds_later s p =
          both (tree_rebinds extended any_name p.identity s) _ (tree_rebinds_later any_name p.identity s)
          (both (locals_rebind extended p.variables s) _ (locals_rebind_later p.variables s) (body_rebinds_later p.body (in_process_body p s)))

      main_rebinds_later : (s : Standings) (m : Main) → AllLater (main_rebinds extended ps C s m)
      main_rebinds_later s (alone b) = body_rebinds_later b s
      main_rebinds_later s (processes qs) = flat (process_rebinds extended ps C s) (process_rebinds_later s) qs

    macro_rebinds_later : (ms : List Macro) (s : Standings) (m : Word) (ts : Trees) → AllLater (macro_rebinds extended ps ms s m ts)
    macro_rebinds_later [] s m ts = refl
    macro_rebinds_later (d ∷ older) s m ts = by (macro_rebinds_later older) (bytes_eq d.name.word m)
      where
        by : ((s : Standings) (m : Word) (ts : Trees) → AllLater (macro_rebinds extended ps older s m ts)) → (b : Bool) → AllLater (cond b (body_rebinds extended ps (macro_rebinds extended ps older) d.body (putting_in d.params ts s s)) (macro_rebinds extended ps older s m ts))
        by calls true = body_rebinds_later (macro_rebinds extended ps older) calls d.body (putting_in d.params ts s s)
        by calls false = calls s m ts

    texts_rebind_later : (s : Standings) (ms : List Macro) → AllLater (texts_rebind extended ps (macro_rebinds extended ps) s ms)
    texts_rebind_later s [] = refl
    texts_rebind_later s (d ∷ older) =
        both (rebound_all extended s d.params ++ body_rebinds extended ps (macro_rebinds extended ps older) d.body (naming (words d.params) s)) _
        (both (rebound_all extended s d.params) _ (all_rebound_later s d.params) (body_rebinds_later (macro_rebinds extended ps older) (macro_rebinds_later older) d.body (naming (words d.params) s)))
        (texts_rebind_later s older)

  definitions_rebind_later : (ds : List Definition) (s : Standings) → AllLater (definitions_rebind extended ds s)
  definitions_rebind_later [] s = refl
  definitions_rebind_later (d ∷ ds) s =
      both (rebound_all extended s d.params) _ (all_rebound_later s d.params)
      (both (tree_rebinds extended any_name d.body (naming (words d.params) s)) _ (tree_rebinds_later any_name d.body (naming (words d.params) s)) (definitions_rebind_later ds (naming (d.name.word ∷ []) s)))

rebinds_later : (a : Algorithm) (o : Outside) → AllLater (rebind_offences_of a o)
rebinds_later a o =
    let xs = o.extended in
    let ps = a.procedures in
    let ms = reverse a.macros in
    let C = macro_rebinds xs ps ms in
    let calls = macro_rebinds_later xs ps ms in
    let s = standing_inside a o in
    both (starts_rebind xs any_name a.globals s) _ (starts_rebind_later xs any_name a.globals s)
    (both (definitions_rebind xs a.definitions (standing_outside a o)) _ (definitions_rebind_later xs a.definitions (standing_outside a o))
    (both (texts_rebind xs ps (macro_rebinds xs ps) s ms) _ (texts_rebind_later xs ps s ms)
    (both (flat_map (procedure_rebinds xs ps C s) ps) _ (flat (procedure_rebinds xs ps C s) (procedure_rebinds_later xs ps C calls s) ps) (main_rebinds_later xs ps C calls s a.main))))

-- ---- modules that are needed, and names of the translation

sign_later : (xs : List Word) (m : Form) (at : Place) → AllLater (sign_offences xs m at)
sign_later xs (strict (operator o)) at = if_later (not (has_operator xs o)) NeedsModule at refl
sign_later xs _ at = refl

strings_later : (right : Bool) (m : Form) (at : Place) → AllLater (strings_offences right m at)
strings_later right strings at = if_later (not right) Infinite at refl
strings_later right _ at = refl

mutual
  text_later : (xs : List Word) (right : Bool) (t : Tree) → AllLater (text_offences xs right t)
  text_later xs right (node m at ts) =
      both (sign_offences xs m at) _ (sign_later xs m at) (both (strings_offences right m at) _ (strings_later right m at) (texts_later xs (is_member m) ts))

  texts_later : (xs : List Word) (right : Bool) (ts : Trees) → AllLater (text_offences_in xs right ts)
  texts_later xs right no_trees = refl
  texts_later xs right (tree t ts) = both (text_offences xs (right && is_last ts) t) _ (text_later xs (right && is_last ts) t) (texts_later xs right ts)

needs_later : (xs : List Word) (st : Statement) (at : Place) → AllLater (statement_needs xs st at)
needs_later xs (print e) at = if_later (not (extends_one xs tlc_modules)) NeedsModule at refl
needs_later xs (assert e) at = if_later (not (extends_one xs tlc_modules)) NeedsModule at refl
needs_later xs _ at = refl

modules_later : (a : Algorithm) (o : Outside) → AllLater (module_needs a o)
modules_later a o =
    both (flat_map (text_offences o.extended false) (all_expressions a)) _ (flat (text_offences o.extended false) (text_later o.extended false) (all_expressions a))
    (both (flat_map (λ st. statement_needs o.extended st.statement st.place) (all_statements a)) _ (flat (λ st. statement_needs o.extended st.statement st.place) (λ st. needs_later o.extended st.statement st.place) (all_statements a))
    (flat (procedure_needs o.extended) (λ p. if_later (not (extends_one o.extended sequence_modules)) NeedsModule p.name.place refl) a.procedures))

outside_later : (o : Outside) → AllLater (outside_variables o)
outside_later o =
    flat (λ (u : Opaque). offence_if (is_among (codes "VARIABLE" ∷ codes "VARIABLES" ∷ []) u.keyword) OutsideVariable u.place)
    (λ u. if_later (is_among (codes "VARIABLE" ∷ codes "VARIABLES" ∷ []) u.keyword) OutsideVariable u.place refl) o.opaque

own_name_later : (o : Outside) (n : Name) → AllLater (reserved_name o n)
own_name_later o n = if_later (is_own n.word || is_standard o.extended n.word) Reserved n.place refl

reserved_later : (a : Algorithm) (o : Outside) → AllLater (reserved_declared a o)
reserved_later a o =
    both (reserved_outside o) _
    (both (flat_map (reserved_name o) o.constants) _ (flat (reserved_name o) (own_name_later o) o.constants)
    (both (flat_map (reserved_read o) o.definitions) _ (flat (reserved_read o) (λ d. own_name_later o (record { word = d.definition.title; place = d.place })) o.definitions)
    (flat reserved_opaque (λ u. flat (λ w. offence_if (is_own w) Reserved u.place) (λ w. if_later (is_own w) Reserved u.place refl) u.names) o.opaque)))
    (both (flat_map (reserved_name o) (declared_names a)) _ (flat (reserved_name o) (own_name_later o) (declared_names a))
    (flat reserved_label (λ l. if_later (is_among (codes "Done" ∷ codes "Error" ∷ []) l.name.word) Reserved l.name.place refl) (all_labels a)))

-- ---- what is read too early, or late

constant_later : (a : Algorithm) → AllLater (process_offences a)
constant_later a =
    flat (not_constant a)
    (λ p. flat (λ (n : Name). offence_if (list_any (declares a.globals) (looked_at (readings_of a) n)) ProcessNotConstant n.place)
    (λ n. if_later (list_any (declares a.globals) (looked_at (readings_of a) n)) ProcessNotConstant n.place refl) (used p.identity []))
    (processes_of a.main)

own_start_later : (p : Process) (d : Start) → AllLater (own_in_start p d)
own_start_later p (among e) = flat (λ (n : Name). offence_if (of_one_process p n) InitSelf n.place) (λ n. if_later (of_one_process p n) InitSelf n.place refl) (used e [])
own_start_later p unset = refl
own_start_later p (equals e) = refl

own_later : (a : Algorithm) → AllLater (own_offences a)
own_later a = flat own_in_sets (λ p. by p p.several) (processes_of a.main)
  where
    by : (p : Process) (b : Bool) → AllLater (cond b (flat_map (λ d. own_in_start p d.start) p.variables) [])
    by p true = flat (λ (d : Declaration). own_in_start p d.start) (λ d. own_start_later p d.start) p.variables
    by p false = refl

later_later : (a : Algorithm) (before : List Word) (ds : List Declaration) → AllLater (later_in a before ds)
later_later a before [] = refl
later_later a before (d ∷ ds) =
    both (flat_map (λ e. offence_if (reads_later a before e) InitLater (root_place e)) (initial d.start)) _
    (flat (λ e. offence_if (reads_later a before e) InitLater (root_place e)) (λ e. if_later (reads_later a before e) InitLater (root_place e) refl) (initial d.start))
    (later_later a (d.name.word ∷ before) ds)

order_later : (a : Algorithm) → AllLater (order_offences a)
order_later a =
    both (later_in a [] a.globals) _ (later_later a [] a.globals)
    (flat (λ u. later_in a (declared a.globals) (locals u)) (λ u. later_later a (declared a.globals) (locals u)) (routines a))

selves_later : (a : Algorithm) → AllLater (self_offences a)
selves_later a = flat self_offence (λ n. if_later (bytes_eq (codes "self") n.word) SelfOutside n.place refl) (used_at_the_top a ++ used_outside a a.main)

stale_at_later : (ds : List Reading) (ns : List Name) (s : Spot) → AllLater (stale_at ds ns s)
stale_at_later ds ns s =
    flat (λ (n : Name). offence_if (has_assigned s.path (through ds n.word)) DefinedStale n.place)
    (λ n. if_later (has_assigned s.path (through ds n.word)) DefinedStale n.place refl) (stands_for ns s.name)

stale_in_later : (L : Looking) (ds : List Reading) (ns : List Name) (xs : List Word) (b : Statements) → AllLater (stale_in L ds ns xs b)
stale_in_later L ds ns xs b = flat (stale_at ds ns) (stale_at_later ds ns) (L xs b)

stale_main_later : (L : Looking) (ds : List Reading) (m : Main) → AllLater (stale_in_main L ds m)
stale_main_later L ds (alone b) = stale_in_later L ds [] [] b
stale_main_later L ds (processes ps) =
    flat (stale_in_process L ds) (λ p. stale_in_later L ds (cond p.several [] (used p.identity [])) (declared p.variables) p.body) ps

stale_later : (a : Algorithm) → AllLater (stale_offences a)
stale_later a =
    let L = written_out_spots a in
    let ds = readings_of a in
    both (flat_map (stale_in_procedure L ds) a.procedures) _
    (flat (stale_in_procedure L ds) (λ p. stale_in_later L ds [] (declared (p.params ++ p.variables)) p.body) a.procedures) (stale_main_later L ds a.main)

-- ---- all of them

pub names_are_later : (a : Algorithm) (o : Outside) → AllLater (name_offences a o)
names_are_later a o =
    both (use_offences_of a o ++ (module_needs a o ++ outside_variables o)) _
    (both (use_offences_of a o) _ (uses_later a o) (both (module_needs a o) _ (modules_later a o) (outside_later o)))
    (both (repeated_names a o ++ (rebind_offences_of a o ++ reserved_declared a o)) _
    (both (repeated_names a o) _ (names_later a o) (both (rebind_offences_of a o) _ (rebinds_later a o) (reserved_later a o)))
    (both (process_offences a) _ (constant_later a)
    (both (own_offences a) _ (own_later a) (both (order_offences a) _ (order_later a) (both (stale_offences a) _ (stale_later a) (selves_later a))))))
