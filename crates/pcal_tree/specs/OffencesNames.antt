-- All uses of names: names that are nothing where they are, wrong numbers of arguments, assignments to what is no variable, operators of modules that
-- aren't extended, infinite sets, uses of units that were not read; and names declared twice ("A PlusCal User's Manual", sections 3.2 to 3.6).
use Rattle.std.specs.Prelude.{ℕ, suc, length, nat_eq, List, [], ◌∷◌, ◌++◌, Bool, false, ◌&&◌, reverse, map, not, cond, bytes_eq, codes, Option, Some, None}
use Rattle.std.specs.List.{flat_map}
use Rattle.tla_token.specs.declared.place.Place.{Place}
use Rattle.tla_token.specs.declared.rule.Rule.TheVariants.{Unknown, Duplicate, Arity}
use Rattle.tla_token.specs.declared.rule.Refusal.{Refusal}
use Rattle.tla_token.specs.Signs.{is_among}
use Rattle.tla_tree.specs.Tree.{Word, Form, name, operator_call, Tree, node, Trees, no_trees, tree, words, seen_names, root_place}
use Rattle.pcal_tree.specs.Algorithm.{Name, Assignments, no_assignments, assignment, Binds, no_binds, one_of, is, Statement, assign, await, print, assert, skip, branch, either, with, while, goto, macro, call, return, Statements, done, then, mark, Branches, no_branches, or, Start, unset, equals, among, Declaration, Definition, Macro, Procedure, Process, Main, alone, processes, Algorithm}
use Rattle.pcal_tree.specs.Offences.{offence, offence_if}
use Rattle.pcal_tree.specs.BoundNames.{bound_lists}
use Rattle.tla_value.specs.Outside.{Outside, ReadDefinition}
use Rattle.tla_value.specs.StandardModules.{standard_table, is_member, is_last}
use Rattle.pcal_tree.specs.Outside.{unit_names}
use Rattle.pcal_tree.specs.Paths.{root}
pub use Rattle.pcal_tree.specs.NameUses.{Use, takes, variable, argument, standard, unread, Known, Sight, knowing, taking, plain, hidden_name, known_standard, seeing_plain, seeing_variables, use_of, applied_offences, left_offences, handed_use}
use Rattle.pcal_tree.specs.Variables.{declared}

-- ---- expressions

-- with n parts; true where the form is directly right of \in or \notin
abbrev pub form_offences : Sight → Bool → Form → ℕ → Place → List Refusal
form_offences s right (name x) n at = applied_offences (use_of s x) 0 right at
form_offences s right (operator_call f) n at = applied_offences (use_of s f) n right at
form_offences s right _ n at = []

abbrev pub count : Trees → ℕ
count no_trees = 0
count (tree t ts) = suc (count ts)

abbrev mutual
  pub in_tree : Tree → Bool → Sight → List Refusal
  in_tree (node m at ts) right s = form_offences s right m (count ts) at ++ in_parts (seen_names m) (is_member m) ts s

  -- each part sees further names; true where the last is directly right of \in or \notin
  pub in_parts : List (List Word) → Bool → Trees → Sight → List Refusal
  in_parts names right no_trees s = []
  in_parts [] right (tree t ts) s = in_tree t (right && is_last ts) s ++ in_parts [] right ts s
  in_parts (xs ∷ names) right (tree t ts) s = in_tree t (right && is_last ts) (seeing_plain xs s) ++ in_parts names right ts s

-- an expression of its own
abbrev pub in_whole : Tree → Sight → List Refusal
in_whole t s = in_tree t false s

-- arguments and subscripts
abbrev pub in_each : Trees → Sight → List Refusal
in_each ts s = in_parts [] false ts s

abbrev pub root_offences : Sight → Form → Place → List Refusal
root_offences s (name x) at = left_offences (use_of s x) at
root_offences s _ at = []

abbrev mutual
  pub in_left : Tree → Sight → List Refusal
  in_left (node m at ts) s = root_offences s m at ++ in_left_parts ts s

  pub in_left_parts : Trees → Sight → List Refusal
  in_left_parts no_trees s = []
  in_left_parts (tree t ts) s = in_left t s ++ in_each ts s

-- ---- statements

-- a macro call at a place
abbrev pub Calls : Type 0
Calls = Sight → Place → Word → Trees → List Refusal

-- a call with so many arguments, at the statement's place
abbrev pub call_offences : List Procedure → Place → Name → ℕ → List Refusal
call_offences [] at p n = offence Unknown at
call_offences (d ∷ ds) at p n =
    cond (bytes_eq d.name.word p.word) (offence_if (not (nat_eq (length d.params) n)) Arity p.place) (call_offences ds at p n)

abbrev pub in_assignments : Assignments → Sight → List Refusal
in_assignments no_assignments s = []
in_assignments (assignment l e ms) s = in_left l s ++ (in_whole e s ++ in_assignments ms s)

-- each name is seen by those after it
abbrev pub in_binds : Binds → Sight → List Refusal
in_binds no_binds s = []
in_binds (one_of x e bs) s = in_whole e s ++ in_binds bs (seeing_plain (x.word ∷ []) s)
in_binds (is x e bs) s = in_whole e s ++ in_binds bs (seeing_plain (x.word ∷ []) s)

abbrev pub after_binds : Binds → Sight → Sight
after_binds no_binds s = s
after_binds (one_of x e bs) s = after_binds bs (seeing_plain (x.word ∷ []) s)
after_binds (is x e bs) s = after_binds bs (seeing_plain (x.word ∷ []) s)

abbrev mutual
  pub in_one : Calls → List Procedure → Place → Statement → Sight → List Refusal
  in_one C ps at (assign ms) s = in_assignments ms s
  in_one C ps at (await e) s = in_whole e s
  in_one C ps at (print e) s = in_whole e s
  in_one C ps at (assert e) s = in_whole e s
  in_one C ps at skip s = []
  in_one C ps at (branch e a b) s = in_whole e s ++ (in_body C ps a s ++ in_body C ps b s)
  in_one C ps at (either bs) s = in_branches C ps bs s
  in_one C ps at (with bs b) s = in_binds bs s ++ in_body C ps b (after_binds bs s)
  in_one C ps at (while e b) s = in_whole e s ++ in_body C ps b s
  in_one C ps at (goto l) s = []
  in_one C ps at (macro m ts) s = C s at m ts ++ in_each ts s
  in_one C ps at (call p ts) s = call_offences ps at p (count ts) ++ in_each ts s
  in_one C ps at return s = []

  pub in_body : Calls → List Procedure → Statements → Sight → List Refusal
  in_body C ps done s = []
  in_body C ps (then at st rest) s = in_one C ps at.first st s ++ in_body C ps rest s
  in_body C ps (mark l k rest) s = in_body C ps rest s

  pub in_branches : Calls → List Procedure → Branches → Sight → List Refusal
  in_branches C ps no_branches s = []
  in_branches C ps (or b bs) s = in_body C ps b s ++ in_branches C ps bs s

-- a parameter may be assigned where its argument is a variable with subscripts and fields
abbrev pub parameter_use : Option Word → Place → Sight → Use
parameter_use None at s = argument at
parameter_use (Some x) at s = handed_use (use_of s x) at

-- in r, the parameters of a macro that is called in s
abbrev pub seeing_parameters : List Name → Trees → Sight → Sight → Sight
seeing_parameters [] ts s r = r
seeing_parameters (p ∷ ps) no_trees s r = knowing variable p.word ∷ seeing_parameters ps no_trees s r
seeing_parameters (p ∷ ps) (tree t ts) s r = knowing (parameter_use (root t) (root_place t) s) p.word ∷ seeing_parameters ps ts s r

-- the names of a macro's body are looked up where the call is; the macros are given with the newest first, and each calls older ones
abbrev pub macro_offences : List Macro → List Procedure → Calls
macro_offences [] ps s at m ts = offence Unknown at
macro_offences (d ∷ older) ps s at m ts =
    cond (bytes_eq d.name.word m)
    (offence_if (not (nat_eq (length d.params) (count ts))) Arity at
    ++ in_body (macro_offences older ps) ps d.body (seeing_parameters d.params ts s s))
    (macro_offences older ps s at m ts)

-- ---- algorithms

-- names of standard modules, whether these are extended or not; and `self`, of which another rule says where it may be
abbrev pub always_known : List Word → Sight
always_known extended = plain (codes "self") ∷ map (known_standard extended) standard_table

abbrev pub defined_inside : Definition → Known
defined_inside d = taking (length d.params) d.name.word

abbrev pub defined_outside : ReadDefinition → Known
defined_outside d = taking (length d.definition.params) d.definition.title

-- a unit that was not read hides all else of its names; of two definitions of a name the later one is seen
abbrev pub sight_outside : Outside → Sight
sight_outside o =
    map hidden_name (flat_map (λ u. u.names) o.opaque)
    ++ (map plain (words o.constants) ++ (map defined_outside (reverse o.definitions) ++ always_known o.extended))

-- globals, and the definitions of the algorithm, the latest first as outside
abbrev pub sight_inside : Algorithm → Outside → Sight
sight_inside a o = map defined_inside (reverse a.definitions) ++ seeing_variables (declared a.globals) (sight_outside o)

abbrev pub in_start : Start → Sight → List Refusal
in_start unset s = []
in_start (equals e) s = in_whole e s
in_start (among e) s = in_whole e s

abbrev pub in_declared : List Declaration → Sight → List Refusal
in_declared ds s = flat_map (λ d. in_start d.start s) ds

-- each definition sees those before it
abbrev pub in_definitions : List Definition → Sight → List Refusal
in_definitions [] s = []
in_definitions (d ∷ ds) s = in_whole d.body (seeing_plain (words d.params) s) ++ in_definitions ds (defined_inside d ∷ s)

abbrev pub in_procedure : Calls → List Procedure → Sight → Procedure → List Refusal
in_procedure C ps s p =
    in_declared (p.params ++ p.variables) (seeing_variables (declared (p.params ++ p.variables)) s)
    ++ in_body C ps p.body (seeing_variables (declared (p.params ++ p.variables)) s)

-- a process's head doesn't see its variables
abbrev pub in_process : Calls → List Procedure → Sight → Process → List Refusal
in_process C ps s p =
    in_whole p.identity s
    ++ (in_declared p.variables (seeing_variables (declared p.variables) s) ++ in_body C ps p.body (seeing_variables (declared p.variables) s))

abbrev pub in_main : Calls → List Procedure → Sight → Main → List Refusal
in_main C ps s (alone b) = in_body C ps b s
in_main C ps s (processes qs) = flat_map (in_process C ps s) qs

-- unknown names, wrong numbers of arguments, and uses of units that were not read, where macro calls are looked at by C
abbrev pub use_offences_by : Calls → Algorithm → Outside → List Refusal
use_offences_by C a o =
    in_declared a.globals (sight_inside a o)
    ++ (in_definitions a.definitions (seeing_variables (declared a.globals) (sight_outside o))
    ++ (flat_map (in_procedure C a.procedures (sight_inside a o)) a.procedures ++ in_main C a.procedures (sight_inside a o) a.main))

abbrev pub use_offences_of : Algorithm → Outside → List Refusal
use_offences_of a o = use_offences_by (macro_offences (reverse a.macros) a.procedures) a o

-- ---- names declared twice

abbrev pub repeated : List Word → List Name → List Refusal
repeated seen [] = []
repeated seen (n ∷ ns) = offence_if (is_among seen n.word) Duplicate n.place ++ repeated (n.word ∷ seen) ns

abbrev pub names_of : List Declaration → List Name
names_of ds = map (λ d. d.name) ds

abbrev pub process_names : Main → List Name
process_names (alone b) = []
process_names (processes ps) = map (λ p. p.name) ps

abbrev pub repeated_in_main : Main → List Refusal
repeated_in_main (alone b) = []
repeated_in_main (processes ps) = flat_map (λ p. repeated [] (names_of p.variables)) ps

-- globals and definitions
abbrev pub kept_names : Algorithm → List Name
kept_names a = names_of a.globals ++ map (λ d. d.name) a.definitions

-- in one list or unit, also of names that are bound; of globals, definitions, macros, procedures and processes; and globals and definitions with the name of an outside unit
abbrev pub repeated_names : Algorithm → Outside → List Refusal
repeated_names a o =
    repeated (unit_names o) (kept_names a)
    ++ (repeated (words (kept_names a)) (map (λ d. d.name) a.macros ++ (map (λ p. p.name) a.procedures ++ process_names a.main))
    ++ (flat_map (λ d. repeated [] d.params) a.definitions
    ++ (flat_map (λ d. repeated [] d.params) a.macros
    ++ (flat_map (λ p. repeated [] (names_of (p.params ++ p.variables))) a.procedures
    ++ (repeated_in_main a.main ++ flat_map (repeated []) (bound_lists a))))))
