-- In an accepted algorithm nothing is primed: in no step with its macro calls written out, in no initial value of a procedure, and in no definition in sight of its module.
use Rattle.std.proofs.Common.{◌≡◌, ℕ, suc, List, [], ◌∷◌, ◌++◌, map, reverse, Bool, true, false, ◌&&◌, not, nat_le, cond, bytes_eq, ◌⊎◌, inl, inr, Some, refl, sym, subst}
use Rattle.std.specs.List.{flat_map, AllByRecursion}
use Rattle.std.proofs.lemmas.Bool.{and_parts}
use Rattle.std.proofs.lemmas.Option.{same_Some, none-some}
use Rattle.tla_token.specs.declared.place.Place.{Place}
use Rattle.tla_token.specs.Limits.{deepest_definition}
use Rattle.tla_token.specs.Signs.{is_among}
use Rattle.tla_tree.specs.Lexical.{Token}
use Rattle.tla_tree.specs.Tree.{Word, Name, Form, next, Tree, node, Trees, no_trees, tree, seen_names}
use Rattle.tla_value.specs.Definitions as outside
use Rattle.tla_value.specs.Definitions.{Valuation}
use Rattle.tla_value.specs.DefinitionNesting.{definition_nests, depths}
use Rattle.tla_value.specs.Outside.{Outside, found}
use Rattle.tla_value.specs.StandardModules.{is_member, is_last}
use Rattle.tla_value.specs.Stops.{plain}
use Rattle.tla_value.specs.laws.Grafting.{IsUnprimed}
use Rattle.module_tree.specs.FileParts.{before_spot, after_spot}
use Rattle.module_tree.specs.FileUnits.{units_in}
use Rattle.module_tree.specs.Module.{OutsideUnit, extends, constants, defines, opaque, definitions_of}
use Rattle.module_tree.specs.Outside as read
use Rattle.module_tree.specs.Outside.{AllOutside}
use Rattle.module_tree.specs.Reading.{sight_in}
use Rattle.module_tree.specs.Walk.{Located, walk}
use Rattle.module_tree.specs.laws.Outsides.{HasOutside}
use Rattle.pcal_tree.specs.Algorithm.{Start, unset, equals, among, Declaration, Assignments, no_assignments, assignment, Binds, no_binds, one_of, is, Statement, assign, await, print, assert, skip, branch, either, with, while, goto, macro, call, return, Statements, done, then, mark, Branches, no_branches, or, Definition, Macro, Procedure, Process, Main, alone, processes, Routine, procedure_routine, process_routine, numbered, first_procedure, first_process, procedure_routines, main_routines, routines, locals, Algorithm}
use Rattle.pcal_tree.specs.Expand.{graft_all, written_out, expanded}
use Rattle.pcal_tree.specs.Algorithm as algorithm
use Rattle.pcal_tree.specs.OffencesRebind.{macro_rebinds}
use Rattle.pcal_tree.specs.Processes.{OneOf}
use Rattle.pcal_tree.specs.Program.{inner}
use Rattle.pcal_tree.specs.Programs.{program_in}
use Rattle.pcal_tree.specs.Run.{unlabelled, arguments}
use Rattle.pcal_tree.specs.StepStart.{Begin, at_label}
use Rattle.pcal_tree.specs.Takers.{each_of, single, takers_of}
use Rattle.pcal_tree.specs.laws.Expansion.{ThroughoutAssignments, ThroughoutBinds, ThroughoutOne, Throughout, ThroughoutSome}
use Rattle.pcal_tree.proofs.NothingCaptured.{written_bare}
use Rattle.pcal_tree.proofs.RoutineNames.{one_either}
use Rattle.action_builder.specs.ProcessSets.{set_of_takers, union_from, sets_of_processes, process_set_of}
use Rattle.action_builder.specs.laws.StepsOfLabels.{AllUnprimed}
use Rattle.module_tree.specs.ModuleTruth.{process_set_defined}
use Rattle.translation.specs.laws.AcceptedAlgorithm.{IsAcceptedInFile}
use Rattle.translation.specs.laws.KeptUnprimed.{Unprimed, AreUnprimed, SidesUnprimed, BindsUnprimed, OneUnprimed, BodyUnprimed, SomeUnprimed, MacroUnprimed, InitialUnprimed, DeclaredUnprimed, ProcedureUnprimed, ProcessUnprimed, MainUnprimed, AlgorithmUnprimed}
use Rattle.translation.specs.laws.AcceptedLaws.{extra_of}
use Rattle.translation.specs.laws.NothingPrimed.{NonePrimed, StartUnprimed, NothingPrimed}
use Rattle.translation.proofs.FromLabels.{Passes, from_label, NoneAgain, again_pass}
use Rattle.translation.proofs.KeptLabels.{Puts, put_in_body, expand_unprimed, labelled_unprimed}
use Rattle.translation.proofs.KeptTexts.{text_unprimed}
use Rattle.translation.proofs.NamesGiven.{once}
use Rattle.pcal_tree.proofs.StepVariables.{one_reverse}

-- ---- macro calls written out

arguments_unprimed : (ps : List Name) (ts : Trees) → AreUnprimed ts → Puts (arguments ps ts)
arguments_unprimed (p ∷ ps) (tree t ts) h x at u e = by (bytes_eq p.word x) (arguments_unprimed ps ts h.1 x at u) e
  where
    by : (b : Bool) → (arguments ps ts x at ≡ Some u → Unprimed u) → cond b (Some t) (arguments ps ts x at) ≡ Some u → Unprimed u
    by true f e = subst Unprimed (same_Some t u e) h.0
    by false f e = f e
arguments_unprimed (p ∷ ps) no_trees h x at u e = absurd (none-some u e)
arguments_unprimed [] ts h x at u e = absurd (none-some u e)

written_unprimed : (ms : List Macro) → AllByRecursion MacroUnprimed ms → (at : algorithm.Span) (m : Word) (ts : Trees) → AreUnprimed ts → BodyUnprimed (written_out ms at m ts)
written_unprimed [] h at m ts k = (tt, tt)
written_unprimed (d ∷ older) h at m ts k = by (bytes_eq d.name.word m) (expand_unprimed (written_out older) (written_unprimed older h.1) d.body h.0) (written_unprimed older h.1 at m ts k)
  where
    by : (b : Bool) → BodyUnprimed (expanded older d.body) → BodyUnprimed (written_out older at m ts) → BodyUnprimed (cond b (graft_all (arguments d.params ts) (expanded older d.body)) (written_out older at m ts))
    by true f g = put_in_body (arguments d.params ts) (arguments_unprimed d.params ts k) (expanded older d.body) f
    by false f g = g

all_of : (ms : List Macro) → ((m : Macro) → OneOf m ms → MacroUnprimed m) → AllByRecursion MacroUnprimed ms
all_of [] f = tt
all_of (m ∷ ms) f = (f m (inl refl), all_of ms (λ n k. f n (inr k)))

each_of_all : (ms : List Macro) → AllByRecursion MacroUnprimed ms → (m : Macro) → OneOf m ms → MacroUnprimed m
each_of_all [] h m k = absurd k
each_of_all (n ∷ ms) h m (inl e) = subst MacroUnprimed (sym e) h.0
each_of_all (n ∷ ms) h m (inr k) = each_of_all ms h.1 m k

-- ---- a step's statements, where no macro call is left

unprimed_passes : Passes BodyUnprimed OneUnprimed SomeUnprimed
unprimed_passes = record {
  of_first = λ at st rest h. h;
  of_mark = λ l k rest h. h;
  of_branch = λ e a b h. (h.1, h.2);
  of_either = λ bs h. h;
  of_with = λ bs b h. h.1;
  of_while = λ e b h. h.1;
  of_or = λ b bs h. h;
}

module _ (F : Form → Place → Type 0) (N : Word → Type 0) where
  abbrev U : Form → Place → Type 0
  U m at = IsUnprimed m at

  abbrev Any : Word → Type 0
  Any x = Unit {0}

  sides_throughout : (ms : Assignments) → SidesUnprimed ms → ThroughoutAssignments U ms
  sides_throughout no_assignments h = tt
  sides_throughout (assignment l e ms) h = (h.0, h.1, sides_throughout ms h.2)

  binds_throughout : (bs : Binds) → BindsUnprimed bs → ThroughoutBinds U Any bs
  binds_throughout no_binds h = tt
  binds_throughout (one_of x e bs) h = (h.0, tt, binds_throughout bs h.1)
  binds_throughout (is x e bs) h = (h.0, tt, binds_throughout bs h.1)

  mutual
    one_throughout : (st : Statement) → ThroughoutOne F N st → OneUnprimed st → ThroughoutOne U Any st
    one_throughout (assign ms) t h = sides_throughout ms h
    one_throughout (await e) t h = h
    one_throughout (print e) t h = h
    one_throughout (assert e) t h = h
    one_throughout skip t h = tt
    one_throughout (branch e a b) t h = (h.0, body_throughout a t.1 h.1, body_throughout b t.2 h.2)
    one_throughout (either bs) t h = some_throughout bs t h
    one_throughout (with bs b) t h = (binds_throughout bs h.0, body_throughout b t.1 h.1)
    one_throughout (while e b) t h = (h.0, body_throughout b t.1 h.1)
    one_throughout (goto l) t h = tt
    one_throughout (macro m ts) t h = absurd t
    one_throughout (call p ts) t h = h
    one_throughout return t h = tt

    body_throughout : (b : Statements) → Throughout F N b → BodyUnprimed b → Throughout U Any b
    body_throughout done t h = tt
    body_throughout (then at st rest) t h = (one_throughout st t.0 h.0, body_throughout rest t.1 h.1)
    body_throughout (mark l k rest) t h = tt

    some_throughout : (bs : Branches) → ThroughoutSome F N bs → SomeUnprimed bs → ThroughoutSome U Any bs
    some_throughout no_branches t h = tt
    some_throughout (or b bs) t h = (body_throughout b t.0 h.0, some_throughout bs t.1 h.1)

-- ---- routines

abbrev RoutineUnprimed : Routine → Type 0
RoutineUnprimed u = DeclaredUnprimed u.variables × BodyUnprimed u.body

procedures_unprimed : (n : ℕ) (ps : List Procedure) → AllByRecursion ProcedureUnprimed ps → (u : Routine) → OneOf u (numbered procedure_routine n ps) → RoutineUnprimed u
procedures_unprimed n [] h u k = absurd k
procedures_unprimed n (p ∷ ps) h u (inl e) = subst RoutineUnprimed (sym e) (h.0.1, h.0.2)
procedures_unprimed n (p ∷ ps) h u (inr k) = procedures_unprimed (suc n) ps h.1 u k

processes_unprimed : (n : ℕ) (ps : List Process) → AllByRecursion ProcessUnprimed ps → (u : Routine) → OneOf u (numbered process_routine n ps) → RoutineUnprimed u
processes_unprimed n [] h u k = absurd k
processes_unprimed n (p ∷ ps) h u (inl e) = subst RoutineUnprimed (sym e) (h.0.1, h.0.2)
processes_unprimed n (p ∷ ps) h u (inr k) = processes_unprimed (suc n) ps h.1 u k

main_unprimed : (a : Algorithm) (m : Main) → MainUnprimed m → (u : Routine) → OneOf u (main_routines a m) → RoutineUnprimed u
main_unprimed a (alone ss) h u (inl e) = subst RoutineUnprimed (sym e) (tt, h)
main_unprimed a (alone ss) h u (inr k) = absurd k
main_unprimed a (processes ps) h u k = processes_unprimed (first_process a) ps h u k

routine_unprimed : (a : Algorithm) → AlgorithmUnprimed a → (u : Routine) → OneOf u (routines a) → RoutineUnprimed u
routine_unprimed a h u k = by (one_either u (procedure_routines a) (main_routines a a.main) k)
  where
    by : OneOf u (procedure_routines a) ⊎ OneOf u (main_routines a a.main) → RoutineUnprimed u
    by (inl q) = procedures_unprimed (first_procedure a) a.procedures h.procedures u q
    by (inr q) = main_unprimed a a.main h.main u q

declared_unprimed : (ds : List Declaration) → DeclaredUnprimed ds → (d : Declaration) → OneOf d ds → StartUnprimed d.start
declared_unprimed [] h d k = absurd k
declared_unprimed (e ∷ ds) h d (inl q) = subst (λ (d : Declaration). StartUnprimed d.start) (sym q) (by e.start h.0)
  where
    by : (s : Start) → InitialUnprimed s → StartUnprimed s
    by unset h = tt
    by (equals e) h = h
    by (among e) h = tt
declared_unprimed (e ∷ ds) h d (inr k) = declared_unprimed ds h.1 d k

-- ---- definitions outside: none that is read has a primed name

module _ (v : read.Sight) where
  mutual
    tree_reads : (bs : List Word) (inf : Bool) (t : Tree) → read.tree_reads v bs inf t ≡ true → Unprimed t
    tree_reads bs inf (node m at ts) e =
        let p = and_parts (read.form_reads v bs inf m (read.count ts)) (read.trees_read v bs (seen_names m) (is_member m) ts) e in
        (by m (read.count ts) p.0, trees_read bs (seen_names m) (is_member m) ts p.1)
      where
        by : (m : Form) (n : ℕ) → read.form_reads v bs inf m n ≡ true → IsUnprimed m at
        by (next x) n e = cc
        by _ n e = tt

    trees_read : (bs : List Word) (names : List (List Word)) (inf : Bool) (ts : Trees) → read.trees_read v bs names inf ts ≡ true → AreUnprimed ts
    trees_read bs names inf no_trees e = tt
    trees_read bs [] inf (tree t ts) e =
        let p = and_parts (read.tree_reads v bs (inf && is_last ts) t) (read.trees_read v bs [] inf ts) e in
        (tree_reads bs (inf && is_last ts) t p.0, trees_read bs [] inf ts p.1)
    trees_read bs (xs ∷ names) inf (tree t ts) e =
        let p = and_parts (read.tree_reads v (xs ++ bs) (inf && is_last ts) t) (read.trees_read v bs names inf ts) e in
        (tree_reads (xs ++ bs) (inf && is_last ts) t p.0, trees_read bs names inf ts p.1)

  body_reads : (d : outside.Definition) → read.definition_reads v d ≡ true → Unprimed d.body
  body_reads d e =
      let i = and_parts (not (is_among v.constants d.title)) _ e in
      let j = and_parts (read.are_fresh v [] d.params) _ i.1 in
      tree_reads d.params false d.body (and_parts (read.tree_reads v d.params false d.body) (nat_le (definition_nests (depths [] v.earlier) d) deepest_definition) j.1).0

units_unprimed : (b : Bool) (v : read.Sight) (tss : List (List Token)) (us : List OutsideUnit) → AllOutside b v tss us → AllUnprimed (found (flat_map definitions_of us))
units_unprimed b v [] [] h = tt
units_unprimed b v [] (u ∷ us) h = absurd h
units_unprimed b v (ts ∷ tss) [] h = absurd h
units_unprimed b v (ts ∷ tss) (extends ms ∷ us) h = units_unprimed b (record v { earlier = v.earlier ++ [] }) tss us h.1
units_unprimed b v (ts ∷ tss) (constants xs ∷ us) h = units_unprimed b (record v { earlier = v.earlier ++ [] }) tss us h.1
units_unprimed b v (ts ∷ tss) (opaque q ∷ us) h = units_unprimed b (record v { earlier = v.earlier ++ [] }) tss us h.1
units_unprimed b v (ts ∷ tss) (defines d ∷ us) h = (body_reads v d.definition h.0.1.reads, units_unprimed b (record v { earlier = v.earlier ++ (d.definition ∷ []) }) tss us h.1)

joined : (us ys : List OutsideUnit) → AllUnprimed (found (flat_map definitions_of us)) → AllUnprimed (found (flat_map definitions_of ys)) → AllUnprimed (found (flat_map definitions_of (us ++ ys)))
joined [] ys h k = k
joined (extends ms ∷ us) ys h k = joined us ys h k
joined (constants xs ∷ us) ys h k = joined us ys h k
joined (opaque q ∷ us) ys h k = joined us ys h k
joined (defines d ∷ us) ys h k = (h.0, joined us ys h.1 k)

outside_unprimed : (ds : List Located) (o : Outside) → HasOutside ds o → AllUnprimed (found o.definitions)
outside_unprimed ds o h =
    subst (λ (q : Outside). AllUnprimed (found q.definitions)) (sym h.is)
    (joined h.before h.after (units_unprimed true (sight_in o) (units_in (before_spot ds)).units h.before h.are_before) (units_unprimed false (sight_in o) (units_in (after_spot ds)).units h.after h.are_after))

-- ---- the definitions of the algorithm, and ProcSet

inner_unprimed : (ds : List Definition) → AllByRecursion (λ (d : Definition). Unprimed d.body) ds → AllUnprimed (map inner ds)
inner_unprimed [] h = tt
inner_unprimed (d ∷ ds) h = (h.0, inner_unprimed ds h.1)

both_unprimed : (ds es : List outside.Definition) → AllUnprimed ds → AllUnprimed es → AllUnprimed (ds ++ es)
both_unprimed [] es h k = k
both_unprimed (d ∷ ds) es h k = (h.0, both_unprimed ds es h.1 k)

union_unprimed : (t : Tree) (es : List Tree) → Unprimed t → AllByRecursion Unprimed es → Unprimed (union_from t es)
union_unprimed t [] h k = h
union_unprimed t (e ∷ es) h k = union_unprimed _ es (tt, (h, (k.0, tt))) k.1

set_unprimed : (p : Process) → Unprimed p.identity → Unprimed (set_of_takers (takers_of p))
set_unprimed p h = by p.several
  where
    by : (b : Bool) → Unprimed (set_of_takers (cond b (each_of p.identity) (single p.identity)))
    by true = h
    by false = (tt, (h, tt))

sets_unprimed : (ps : List Process) → AllByRecursion ProcessUnprimed ps → AllByRecursion Unprimed (sets_of_processes ps)
sets_unprimed [] h = tt
sets_unprimed (p ∷ ps) h = (set_unprimed p h.0.0, sets_unprimed ps h.1)

extra_unprimed : (m : Main) → MainUnprimed m → AllUnprimed (process_set_defined (process_set_of m))
extra_unprimed (alone ss) h = tt
extra_unprimed (processes []) h = ((tt, tt), tt)
extra_unprimed (processes (p ∷ ps)) h = (let k = sets_unprimed (p ∷ ps) h in (union_unprimed (set_of_takers (takers_of p)) (sets_of_processes ps) k.0 k.1, tt))

-- ---- of an accepted algorithm

module _ (o : Outside) (a : Algorithm) (h : IsAcceptedInFile o a) (values : Valuation) where
  whole : AlgorithmUnprimed a
  whole = subst AlgorithmUnprimed h.accepted.labels_added (labelled_unprimed h.accepted.forced h.accepted.typed (text_unprimed h.accepted.syntax h.accepted.tokens h.accepted.typed h.accepted.spelled))

  newest_first : AllByRecursion MacroUnprimed (reverse a.macros)
  newest_first = all_of (reverse a.macros) (λ m k. each_of_all a.macros whole.macros m (one_reverse m a.macros k))

  step_unprimed : (u : Routine) → OneOf u (routines a) → (l : Word) (b : Begin) → at_label u l ≡ Some b → NonePrimed (expanded (reverse a.macros) b.items)
  step_unprimed u k l b e =
      let ms = reverse a.macros in
      let D = macro_rebinds o.extended a.procedures ms in
      let c = once o a h values u k in
      let again = from_label (NoneAgain o.extended a.procedures D c.standings) _ _ (again_pass o.extended a.procedures D c.standings) l unlabelled u.body u.exit b (c.standings, c.none, (λ y q. q)) e in
      let mine = from_label BodyUnprimed OneUnprimed SomeUnprimed unprimed_passes l unlabelled u.body u.exit b (routine_unprimed a whole u k).1 e in
      body_throughout _ _ (expanded ms b.items) (written_bare o.extended a.procedures ms b.items again.0 again.1) (expand_unprimed (written_out ms) (written_unprimed ms newest_first) b.items mine)

  pub nothing_primed : NothingPrimed (program_in plain o a values) (extra_of a)
  nothing_primed = record {
    items = step_unprimed;
    starts = λ q k d m. declared_unprimed q.variables (procedures_unprimed (first_procedure a) a.procedures whole.procedures q k).0 d m;
    definitions =
        both_unprimed (found o.definitions ++ map inner a.definitions) (extra_of a)
        (both_unprimed (found o.definitions) (map inner a.definitions) (outside_unprimed (walk h.file) o h.outside) (inner_unprimed a.definitions whole.definitions)) (extra_unprimed a.main whole.main);
  }
