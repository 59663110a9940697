-- The conjuncts of Init and the sets of ProcSet can be written.
use Rattle.std.proofs.Common.{◌≡◌, ℕ, zero, suc, ◌+◌, List, [], ◌∷◌, Bool, true, codes, reverse, inl, inr, refl, sym, subst, arith}
use Rattle.std.specs.Prelude.{flat_map}
use Rattle.std.specs.List.{AllByRecursion}
use Rattle.tla_tree.specs.declared.op.Op.TheVariants as op
use Rattle.tla_tree.specs.Tree.{Word, Each, Tree, node, no_trees, tree, strict, operator, graft}
use Rattle.tla_tree.specs.Shapes.{IsPaired}
use Rattle.tla_tree.specs.laws.Writable.{IsIdentifier, IsWritable, AreWritable, count}
use Rattle.tla_value.specs.Outside.{Outside}
use Rattle.tla_tree.specs.TreeOf.{trees_from}
use Rattle.module_tree.specs.Formulas.{self, named, process_set, unset_value, empty_tuple, is_in, set, function_of_self, functions_from}
use Rattle.module_tree.specs.Ways.{split_cup, sets_in, sets_of}
use Rattle.module_tree.specs.laws.WritableRegion.{AllOf}
use Rattle.pcal_tree.specs.Algorithm.{Start, unset, equals, among, Declaration, Process, Main, alone, processes, Routine, locals, procedure_routines, routines, Algorithm}
use Rattle.pcal_tree.specs.Calls.{label_name, first_label}
use Rattle.pcal_tree.specs.Expand.{written_out}
use Rattle.pcal_tree.specs.Processes.{OneOf}
use Rattle.pcal_tree.specs.Program.{Program, written}
use Rattle.pcal_tree.specs.Takers.{Takers, each_of, single, lone, takers_of, Taken, taken_main}
use Rattle.pcal_tree.specs.Variables.{written_all, pc, stack}
use Rattle.action_builder.specs.InitialFormulas.{plain_start, spread_start, written_in, start_by, locals_start, globals_start, for_all_processes, stack_start, is_taker, first_pc, arms, pc_value, pc_start, init}
use Rattle.action_builder.specs.LabelActions.{taken_procedures}
use Rattle.action_builder.specs.ProcessSets.{set_of_takers, union_from, union, sets_of_processes, process_set_of}
use Rattle.action_builder.specs.SingleProcess.{in_place_of}
use Rattle.action_builder.specs.WrittenNames.{with_names, renamed}
use Rattle.action_builder.proofs.FitTrees.{fit_writable, writable_fits, graft_fits}
use Rattle.action_builder.proofs.FitItems.{in_place_put}
use Rattle.translation.specs.laws.WritableAlgorithm.{is_procedure, is_variable, IsWritableStart, IsWritableDeclaration, IsWritableMain, IsWritableAlgorithm}
use Rattle.translation.proofs.WritableBodies.{label_string}
use Rattle.translation.proofs.RoutinesNamed.{names_fit, label_name_string, all_flat}
use Rattle.translation.proofs.CalledProcedures.{one_declared, exit_string, renamed_writable}
use Rattle.translation.proofs.RegionActions.{every_map, IsSome, some_after, all_of_each, self_name, named_writable, quoted_writable, equal_writable, TakersFit, procedures_in, mains_in, localised_writable}
use Rattle.translation.proofs.RegionTakers.{TakenOf, takers_fit, procedures_taken, main_taken}
use Rattle.pcal_tree.proofs.OneStand.{every_both}

-- ---- formulas

pub unset_writable : IsWritable unset_value
unset_writable = named_writable (codes "defaultInitValue") ((refl, refl), refl)

pub set_writable : IsWritable process_set
set_writable = named_writable (codes "ProcSet") ((refl, refl), refl)

pub in_writable : (b : Bool) (s t : Tree) → IsWritable s → IsWritable t → IsWritable (is_in b s t)
in_writable b s t h k = (refl, tt, tt, tt, (h, (k, tt)))

function_writable : (s e : Tree) → IsWritable s → IsWritable e → IsWritable (function_of_self s e)
function_writable s e h k = ((omega arith, refl), (self_name, tt), tt, tt, (h, (k, tt)))

functions_writable : (s t : Tree) → IsWritable s → IsWritable t → IsWritable (functions_from s t)
functions_writable s t h k = (refl, tt, tt, tt, (h, (k, tt)))

pub trees_writable : (es : List Tree) → AllByRecursion IsWritable es → AreWritable (trees_from es)
trees_writable [] h = tt
trees_writable (e ∷ es) h = (h.0, trees_writable es h.1)

pub listed_writable : (es : List Tree) → AllByRecursion IsWritable es → IsWritable (set es)
listed_writable es h = (tt, tt, tt, tt, trees_writable es h)

-- ---- variables

plain_writable : (f : Tree → Tree) → ((e : Tree) → IsWritable e → IsWritable (f e)) → (x : Word) → IsIdentifier x → (s : Start) → IsWritableStart s → IsWritable (plain_start f x s)
plain_writable f k x i unset h = equal_writable (named x) unset_value (named_writable x i) unset_writable
plain_writable f k x i (equals e) h = equal_writable (named x) (f e) (named_writable x i) (k e h)
plain_writable f k x i (among e) h = in_writable true (named x) (f e) (named_writable x i) (k e h)

spread_writable : (f : Tree → Tree) → ((e : Tree) → IsWritable e → IsWritable (f e)) → (s : Tree) → IsWritable s → (x : Word) → IsIdentifier x → (d : Start) → IsWritableStart d → IsWritable (spread_start f s x d)
spread_writable f k s w x i unset h = equal_writable (named x) (function_of_self s unset_value) (named_writable x i) (function_writable s unset_value w unset_writable)
spread_writable f k s w x i (equals e) h = equal_writable (named x) (function_of_self s (f e)) (named_writable x i) (function_writable s (f e) w (k e h))
spread_writable f k s w x i (among e) h = in_writable true (named x) (functions_from s e) (named_writable x i) (functions_writable s e w h)

pub in_place_writable : (e t : Tree) → IsWritable e → IsWritable t → IsWritable (graft (in_place_of self e) t)
in_place_writable e t h k =
    fit_writable (graft (in_place_of self e) t)
    (graft_fits IsIdentifier IsIdentifier (in_place_of self e) (in_place_put IsIdentifier IsIdentifier self e (writable_fits IsIdentifier (λ x i. i) e h) (λ x d i. i)) t (writable_fits IsIdentifier (λ x i. i) t k))

-- ---- the sets of ProcSet

split_writable : (n : ℕ) (e : Tree) (es : List Tree) → IsWritable e → AllByRecursion IsWritable es → AllByRecursion IsWritable (split_cup n e es)
split_writable (suc n) (node (strict (operator op.Cup)) at (tree a (tree b no_trees))) es h k = split_writable n a (b ∷ es) h.4.0 (h.4.1.0, k)
split_writable n e es h k = (h, k)

sets_in_writable : (n : ℕ) (e : Tree) → IsWritable e → AllByRecursion IsWritable (sets_in n e)
sets_in_writable zero e h = (h, tt)
sets_in_writable (suc n) e h = split_writable n e [] h tt

union_writable : (e : Tree) (es : List Tree) → IsWritable e → AllByRecursion IsWritable es → IsWritable (union_from e es)
union_writable e [] h k = h
union_writable e (d ∷ es) h k = union_writable _ es ((refl, refl), tt, tt, tt, (h, (k.0, tt))) k.1

takers_writable : (t : Takers) → TakersFit t → IsWritable (set_of_takers t)
takers_writable (each_of s) h = h
takers_writable (single e) h = listed_writable (e ∷ []) (h, tt)
takers_writable lone h = listed_writable [] tt

each_set : (ps : List Process) → AllByRecursion (λ (q : Process). IsWritable q.identity) ps → AllByRecursion IsWritable (sets_of_processes ps)
each_set [] h = tt
each_set (p ∷ ps) h = (takers_writable (takers_of p) (takers_fit p h.0), each_set ps h.1)

pub process_sets_writable : (m : Main) (n : ℕ) → IsWritableMain m → AllByRecursion IsWritable (sets_of n (process_set_of m))
process_sets_writable (alone ss) n h = tt
process_sets_writable (processes []) n h = absurd h
process_sets_writable (processes (p ∷ ps)) n h =
    sets_in_writable n (union (sets_of_processes (p ∷ ps))) (union_writable (set_of_takers (takers_of p)) (sets_of_processes ps) (takers_writable (takers_of p) (takers_fit p h.0)) (each_set ps h.1))

-- ---- all conjuncts

paired_more : (n : ℕ) → IsPaired n → IsPaired (suc (suc n))
paired_more zero h = absurd h
paired_more (suc n) h = h

module _ (o : Outside) (a : Algorithm) (h : IsWritableAlgorithm o a) where
  abbrev program : Program
  program = with_names o a

  written_in_writable : (u : Routine) → OneOf u (routines a) → (e : Tree) → IsWritable e → IsWritable (written_in program u e)
  written_in_writable u k e w = localised_writable o a h (renamed program u e) (renamed_writable o a h u k e w)

  start_writable : (u : Routine) → OneOf u (routines a) → (t : Takers) → TakersFit t → (x : Word) → IsIdentifier x → (d : Start) → IsWritableStart d → IsWritable (start_by program u t x d)
  start_writable u k (each_of s) f x i d w = spread_writable (written_in program u) (written_in_writable u k) s f x i d w
  start_writable u k (single e) f x i d w =
      plain_writable (λ t. graft (in_place_of self e) (written_in program u t)) (λ t q. in_place_writable e (written_in program u t) f (written_in_writable u k t q)) x i d w
  start_writable u k lone f x i d w = plain_writable (written_in program u) (written_in_writable u k) x i d w

  each_name : (u : Routine) → OneOf u (routines a) → (d : Declaration) → OneOf d (locals u) → IsIdentifier (written program u d.name.word)
  each_name u k d m = by (locals u) (names_fit o a h u k).identifiers m
    where
      by : (ds : List Declaration) → Each IsIdentifier (written_all program u ds) → OneOf d ds → IsIdentifier (written program u d.name.word)
      by [] q l = absurd l
      by (c ∷ ds) q (inl e) = subst (λ (z : Declaration). IsIdentifier (written program u z.name.word)) (sym e) q.0
      by (c ∷ ds) q (inr l) = by ds q.1 l

  locals_writable : (t : Taken) → TakenOf (routines a) t → AllByRecursion IsWritable (locals_start program t)
  locals_writable t k =
      every_map IsWritable (λ d. start_by program t.routine t.takers (written program t.routine d.name.word) d.start) (locals t.routine)
      (λ d m. start_writable t.routine k.0 t.takers k.1 (written program t.routine d.name.word) (each_name t.routine k.0 d m) d.start (one_declared (locals t.routine) (h.routines t.routine k.0).locals d m).1)

  globals_writable : (ds : List Declaration) → AllByRecursion IsWritableDeclaration ds → AllByRecursion IsWritable (globals_start ds)
  globals_writable [] k = tt
  globals_writable (d ∷ ds) k = (plain_writable (λ e. e) (λ e w. w) d.name.word k.0.0 d.start k.0.1, globals_writable ds k.1)

  for_all_writable : (m : Main) (e : Tree) → IsWritable e → IsWritable (for_all_processes m e)
  for_all_writable (alone ss) e w = w
  for_all_writable (processes ps) e w = function_writable process_set e set_writable w

  stack_writable : (m : Main) (us : List Routine) → AllByRecursion IsWritable (stack_start m us)
  stack_writable m [] = tt
  stack_writable m (u ∷ us) =
      (equal_writable (named stack) (for_all_processes m empty_tuple) (named_writable stack ((refl, refl), refl)) (for_all_writable m empty_tuple (tt, tt, tt, tt, tt)), tt)

  first_pc_writable : (t : Taken) → OneOf t.routine (routines a) → IsWritable (first_pc program t)
  first_pc_writable t k =
      quoted_writable (label_name program t.routine (first_label t.routine))
      (label_name_string o a h t.routine (first_label t.routine)
      (label_string (is_procedure a) (is_variable a t.routine) (written_out (reverse a.macros)) t.routine.body t.routine.exit (h.routines t.routine k).body (exit_string a t.routine k)))

  taker_writable : (t : Takers) → TakersFit t → IsWritable (is_taker t)
  taker_writable (each_of s) f = in_writable true (named self) s (named_writable self self_name) f
  taker_writable (single e) f = equal_writable (named self) e (named_writable self self_name) f
  taker_writable lone f = named_writable self self_name

  arms_writable : (ts : List Taken) → ((t : Taken) → OneOf t ts → TakenOf (routines a) t) → AllByRecursion IsWritable (arms program ts)
  arms_writable [] f = tt
  arms_writable (t ∷ ts) f = (let q = f t (inl refl) in (taker_writable t.takers q.1, (first_pc_writable t q.0, arms_writable ts (λ s k. f s (inr k)))))

  arms_paired : (t : Taken) (ts : List Taken) → IsPaired (count (trees_from (arms program (t ∷ ts))))
  arms_paired t [] = tt
  arms_paired t (s ∷ ts) =
      let n = count (trees_from (arms program (s ∷ ts))) in
      let e : suc (suc n) ≡ n + 1 + 1 = omega arith in
      subst IsPaired e (paired_more n (arms_paired s ts))

  pc_value_writable : (ts : List Taken) → IsSome ts → ((t : Taken) → OneOf t ts → TakenOf (routines a) t) → IsWritable (pc_value program ts)
  pc_value_writable [] s f = absurd s
  pc_value_writable (t ∷ []) s f = first_pc_writable t (f t (inl refl)).0
  pc_value_writable (t ∷ u ∷ ts) s f = (arms_paired t (u ∷ ts), tt, tt, tt, trees_writable (arms program (t ∷ u ∷ ts)) (arms_writable (t ∷ u ∷ ts) f))

  main_some : (m : Main) → IsWritableMain m → IsSome (taken_main a m)
  main_some (alone ss) w = tt
  main_some (processes []) w = absurd w
  main_some (processes (p ∷ ps)) w = tt

  main_in : (t : Taken) → OneOf t (taken_main a a.main) → TakenOf (routines a) t
  main_in t k = (let q = main_taken a a.main h.main t k in (mains_in o a h t.routine q.0, q.1))

  procedure_in : (t : Taken) → OneOf t (taken_procedures a) → TakenOf (routines a) t
  procedure_in t k = (let q = procedures_taken a t k in (procedures_in o a h t.routine q.0, q.1))

  pc_start_writable : IsWritable (pc_start program)
  pc_start_writable =
      equal_writable (named pc) (for_all_processes a.main (pc_value program (taken_main a a.main))) (named_writable pc ((refl, refl), refl))
      (for_all_writable a.main (pc_value program (taken_main a a.main)) (pc_value_writable (taken_main a a.main) (main_some a.main h.main) main_in))

  pub init_writable : AllOf IsWritable (init program)
  init_writable =
      all_of_each IsWritable (init program) (some_after (globals_start a.globals) _ (some_after (flat_map (locals_start program) (taken_procedures a)) _ (some_after (flat_map (locals_start program) (taken_main a a.main)) _ (some_after (stack_start a.main (procedure_routines a)) (pc_start program ∷ []) tt))))
      (every_both IsWritable (globals_start a.globals) _ (globals_writable a.globals h.globals)
      (every_both IsWritable (flat_map (locals_start program) (taken_procedures a)) _ (all_flat IsWritable (locals_start program) (taken_procedures a) (λ t k. locals_writable t (procedure_in t k)))
      (every_both IsWritable (flat_map (locals_start program) (taken_main a a.main)) _ (all_flat IsWritable (locals_start program) (taken_main a a.main) (λ t k. locals_writable t (main_in t k)))
      (every_both IsWritable (stack_start a.main (procedure_routines a)) (pc_start program ∷ []) (stack_writable a.main (procedure_routines a)) (pc_start_writable, tt)))))
