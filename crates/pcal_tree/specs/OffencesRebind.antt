-- Names that are bound or declared where they are in scope already, also where macro calls, processes' identifiers and procedures' initial values are
-- put in ("A PlusCal User's Manual", sections 3.2, 3.4 and 3.5, with, procedures and macros; "Specifying Systems", section 17.3).
use Rattle.std.specs.Prelude.{List, [], ◌∷◌, ◌++◌, Bool, true, false, ◌&&◌, ◌||◌, reverse, map, not, cond, bytes_eq, codes}
use Rattle.std.specs.List.{flat_map}
use Rattle.tla_token.specs.declared.rule.Rule.TheVariants.{Rebind}
use Rattle.tla_token.specs.declared.rule.Refusal.{Refusal}
use Rattle.tla_token.specs.Signs.{is_among}
use Rattle.tla_token.specs.Words.{is_own, is_standard}
use Rattle.tla_tree.specs.Tree.{Word, Name, Form, name, Tree, node, Trees, no_trees, tree, words, seen_names}
use Rattle.tla_value.specs.Outside.{Outside}
use Rattle.pcal_tree.specs.Algorithm.{Assignments, no_assignments, assignment, Binds, no_binds, one_of, is, Statement, assign, await, print, assert, skip, branch, either, with, while, goto, macro, call, return, Statements, done, then, mark, Branches, no_branches, or, Start, unset, equals, among, Declaration, Definition, Macro, Procedure, Process, Main, alone, processes, Algorithm}
use Rattle.pcal_tree.specs.BoundNames.{all_of, lists_of, names_of_binds}
use Rattle.pcal_tree.specs.Offences.{offence_if}
use Rattle.pcal_tree.specs.OffencesNames.{names_of}
use Rattle.pcal_tree.specs.Outside.{unit_names}
use Rattle.pcal_tree.specs.Variables.{declared}

-- ---- what a text has around it

-- a name that is in scope; or a macro's parameter, or `self` in a single process, for which other text is put in: with the names that this text binds
pub data Standing : Type 0 where
  named : Word → Standing
  stands_for : Word → List Name → Standing

-- the latest first
abbrev pub Standings : Type 0
Standings = List Standing

abbrev pub naming : List Word → Standings → Standings
naming xs s = map named xs ++ s

abbrev pub in_scope : Standings → Word → Bool
in_scope [] x = false
in_scope (named y ∷ s) x = bytes_eq y x || in_scope s x
in_scope (stands_for y ns ∷ s) x = in_scope s x

-- the names that are bound in what is put in for a name
abbrev pub brought : Standings → Word → List Name
brought [] x = []
brought (named y ∷ s) x = cond (bytes_eq y x) [] (brought s x)
brought (stands_for y ns ∷ s) x = cond (bytes_eq y x) ns (brought s x)

-- own and standard names are another rule's, in a module that extends these
abbrev pub may_rebind : List Word → Word → Bool
may_rebind extended x = not (is_own x || is_standard extended x)

abbrev pub rebound : List Word → Standings → Name → List Refusal
rebound extended s n = offence_if (in_scope s n.word && may_rebind extended n.word) Rebind n.place

abbrev pub rebound_all : List Word → Standings → List Name → List Refusal
rebound_all extended s ns = flat_map (rebound extended s) ns

-- ---- expressions

-- K tells for which names text may be put in
abbrev pub put_in : (Word → Bool) → Standings → Form → List Name
put_in K s (name x) = cond (K x) (brought s x) []
put_in K s _ = []

abbrev pub any_name : Word → Bool
any_name x = true

abbrev pub self_alone : Word → Bool
self_alone x = bytes_eq (codes "self") x

-- the names that a form binds, and those bound in what is put in for it
abbrev pub form_rebinds : List Word → (Word → Bool) → Standings → Form → List Refusal
form_rebinds extended K s m = rebound_all extended s (all_of (lists_of m)) ++ rebound_all extended s (put_in K s m)

abbrev mutual
  pub tree_rebinds : List Word → (Word → Bool) → Tree → Standings → List Refusal
  tree_rebinds extended K (node m at ts) s = form_rebinds extended K s m ++ parts_rebind extended K (seen_names m) ts s

  pub parts_rebind : List Word → (Word → Bool) → List (List Word) → Trees → Standings → List Refusal
  parts_rebind extended K names no_trees s = []
  parts_rebind extended K [] (tree t ts) s = tree_rebinds extended K t s ++ parts_rebind extended K [] ts s
  parts_rebind extended K (xs ∷ names) (tree t ts) s = tree_rebinds extended K t (naming xs s) ++ parts_rebind extended K names ts s

-- ---- what a tree brings to where it is put in

-- a name that it binds; a name that is free in it, for which again text may be put in
pub data Piece : Type 0 where
  binds : Name → Piece
  frees : Word → Piece

-- where the names xs are bound
abbrev pub free_piece : List Word → Form → List Piece
free_piece xs (name x) = cond (is_among xs x) [] (frees x ∷ [])
free_piece xs _ = []

abbrev mutual
  pub pieces : Tree → List Word → List Piece
  pieces (node m at ts) xs = map binds (all_of (lists_of m)) ++ (free_piece xs m ++ pieces_in (seen_names m) ts xs)

  pub pieces_in : List (List Word) → Trees → List Word → List Piece
  pieces_in names no_trees xs = []
  pieces_in [] (tree t ts) xs = pieces t xs ++ pieces_in [] ts xs
  pieces_in (ys ∷ names) (tree t ts) xs = pieces t (ys ++ xs) ++ pieces_in names ts xs

abbrev pub piece_names : Standings → Piece → List Name
piece_names s (binds n) = n ∷ []
piece_names s (frees x) = brought s x

-- all names that are bound in the tree, with text put in for its names
abbrev pub bound_by : Tree → Standings → List Name
bound_by t s = flat_map (piece_names s) (pieces t [])

-- ---- statements

-- a macro call
abbrev pub Calls : Type 0
Calls = Standings → Word → Trees → List Refusal

abbrev pub start_rebinds : List Word → (Word → Bool) → Start → Standings → List Refusal
start_rebinds extended K unset s = []
start_rebinds extended K (equals e) s = tree_rebinds extended K e s
start_rebinds extended K (among e) s = tree_rebinds extended K e s

abbrev pub starts_rebind : List Word → (Word → Bool) → List Declaration → Standings → List Refusal
starts_rebind extended K ds s = flat_map (λ d. start_rebinds extended K d.start s) ds

-- the identifier of the process is put in at a jump
abbrev pub jump_rebinds : List Word → Standings → List Refusal
jump_rebinds extended s = rebound_all extended s (brought s (codes "self"))

-- and so are, at a call, the initial values of the procedure's variables; of its names none but `self` means something there
abbrev pub call_rebinds : List Word → List Procedure → Word → Standings → List Refusal
call_rebinds extended [] p s = []
call_rebinds extended (d ∷ ds) p s = cond (bytes_eq d.name.word p) (starts_rebind extended self_alone d.variables s) (call_rebinds extended ds p s)

abbrev pub whole_rebinds : List Word → Tree → Standings → List Refusal
whole_rebinds extended t s = tree_rebinds extended any_name t s

abbrev pub each_rebinds : List Word → Trees → Standings → List Refusal
each_rebinds extended ts s = parts_rebind extended any_name [] ts s

abbrev pub assignments_rebind : List Word → Assignments → Standings → List Refusal
assignments_rebind extended no_assignments s = []
assignments_rebind extended (assignment l e ms) s = whole_rebinds extended l s ++ (whole_rebinds extended e s ++ assignments_rebind extended ms s)

-- each name is seen by those after it
abbrev pub binds_rebind : List Word → Binds → Standings → List Refusal
binds_rebind extended no_binds s = []
binds_rebind extended (one_of x e bs) s = whole_rebinds extended e s ++ binds_rebind extended bs (naming (x.word ∷ []) s)
binds_rebind extended (is x e bs) s = whole_rebinds extended e s ++ binds_rebind extended bs (naming (x.word ∷ []) s)

abbrev mutual
  pub one_rebinds : List Word → List Procedure → Calls → Statement → Standings → List Refusal
  one_rebinds extended ps C (assign ms) s = assignments_rebind extended ms s
  one_rebinds extended ps C (await e) s = whole_rebinds extended e s
  one_rebinds extended ps C (print e) s = whole_rebinds extended e s
  one_rebinds extended ps C (assert e) s = whole_rebinds extended e s
  one_rebinds extended ps C skip s = []
  one_rebinds extended ps C (branch e a b) s = whole_rebinds extended e s ++ (body_rebinds extended ps C a s ++ body_rebinds extended ps C b s)
  one_rebinds extended ps C (either bs) s = branches_rebind extended ps C bs s
  one_rebinds extended ps C (with bs b) s =
      rebound_all extended s (names_of_binds bs) ++ (binds_rebind extended bs s ++ body_rebinds extended ps C b (naming (words (names_of_binds bs)) s))
  one_rebinds extended ps C (while e b) s = whole_rebinds extended e s ++ body_rebinds extended ps C b s
  one_rebinds extended ps C (goto l) s = jump_rebinds extended s
  one_rebinds extended ps C (macro m ts) s = C s m ts ++ each_rebinds extended ts s
  one_rebinds extended ps C (call p ts) s = jump_rebinds extended s ++ (call_rebinds extended ps p.word s ++ each_rebinds extended ts s)
  one_rebinds extended ps C return s = []

  pub body_rebinds : List Word → List Procedure → Calls → Statements → Standings → List Refusal
  body_rebinds extended ps C done s = []
  body_rebinds extended ps C (then at st rest) s = one_rebinds extended ps C st s ++ body_rebinds extended ps C rest s
  body_rebinds extended ps C (mark l k rest) s = body_rebinds extended ps C rest s

  pub branches_rebind : List Word → List Procedure → Calls → Branches → Standings → List Refusal
  branches_rebind extended ps C no_branches s = []
  branches_rebind extended ps C (or b bs) s = body_rebinds extended ps C b s ++ branches_rebind extended ps C bs s

-- ---- macros

-- arguments of a call in s are put in for parameters in r
abbrev pub putting_in : List Name → Trees → Standings → Standings → Standings
putting_in (p ∷ ps) (tree t ts) s r = stands_for p.word (bound_by t s) ∷ putting_in ps ts s r
putting_in _ _ s r = r

-- a macro's body is looked at where it is called; the macros are given with the newest first, and each calls older ones
abbrev pub macro_rebinds : List Word → List Procedure → List Macro → Calls
macro_rebinds extended ps [] s m ts = []
macro_rebinds extended ps (d ∷ older) s m ts =
    cond (bytes_eq d.name.word m)
    (body_rebinds extended ps (macro_rebinds extended ps older) d.body (putting_in d.params ts s s))
    (macro_rebinds extended ps older s m ts)

-- what a call in a macro does with macros older than it
abbrev pub CallsAmong : Type 0
CallsAmong = List Macro → Calls

-- each macro's own text, with its parameters in scope, called or not
abbrev pub texts_rebind : List Word → List Procedure → CallsAmong → Standings → List Macro → List Refusal
texts_rebind extended ps C s [] = []
texts_rebind extended ps C s (d ∷ older) =
    (rebound_all extended s d.params ++ body_rebinds extended ps (C older) d.body (naming (words d.params) s)) ++ texts_rebind extended ps C s older

-- ---- algorithms

-- constants, definitions and other units outside, and globals
abbrev pub standing_outside : Algorithm → Outside → Standings
standing_outside a o = naming (declared a.globals ++ unit_names o) []

abbrev pub standing_inside : Algorithm → Outside → Standings
standing_inside a o = naming (map (λ d. d.name.word) a.definitions) (standing_outside a o)

-- each sees those before it
abbrev pub definitions_rebind : List Word → List Definition → Standings → List Refusal
definitions_rebind extended [] s = []
definitions_rebind extended (d ∷ ds) s =
    rebound_all extended s d.params ++ (whole_rebinds extended d.body (naming (words d.params) s) ++ definitions_rebind extended ds (naming (d.name.word ∷ []) s))

-- all variables of a unit are in scope in all its initial values
abbrev pub locals_rebind : List Word → List Declaration → Standings → List Refusal
locals_rebind extended ds s = rebound_all extended s (names_of ds) ++ starts_rebind extended any_name ds (naming (declared ds) s)

abbrev pub procedure_rebinds : List Word → List Procedure → Calls → Standings → Procedure → List Refusal
procedure_rebinds extended ps C s p =
    let ds = p.params ++ p.variables in
    locals_rebind extended ds s ++ body_rebinds extended ps C p.body (naming (declared ds) s)

-- in the body of a single process, `self` is its identifier
abbrev pub in_process_body : Process → Standings → Standings
in_process_body p s = cond p.several (naming (declared p.variables) s) (stands_for (codes "self") (bound_by p.identity s) ∷ naming (declared p.variables) s)

abbrev pub process_rebinds : List Word → List Procedure → Calls → Standings → Process → List Refusal
process_rebinds extended ps C s p =
    whole_rebinds extended p.identity s ++ (locals_rebind extended p.variables s ++ body_rebinds extended ps C p.body (in_process_body p s))

abbrev pub main_rebinds : List Word → List Procedure → Calls → Standings → Main → List Refusal
main_rebinds extended ps C s (alone b) = body_rebinds extended ps C b s
main_rebinds extended ps C s (processes qs) = flat_map (process_rebinds extended ps C s) qs

-- where macro calls are looked at by C
abbrev pub rebind_offences_by : CallsAmong → Algorithm → Outside → List Refusal
rebind_offences_by C a o =
    let s = standing_inside a o in
    let ms = reverse a.macros in
    starts_rebind o.extended any_name a.globals s
    ++ (definitions_rebind o.extended a.definitions (standing_outside a o)
    ++ (texts_rebind o.extended a.procedures C s ms
    ++ (flat_map (procedure_rebinds o.extended a.procedures (C ms) s) a.procedures ++ main_rebinds o.extended a.procedures (C ms) s a.main)))

abbrev pub rebind_offences_of : Algorithm → Outside → List Refusal
rebind_offences_of a o = rebind_offences_by (macro_rebinds o.extended a.procedures) a o
