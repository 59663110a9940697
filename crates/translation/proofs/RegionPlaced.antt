-- Forgetting places before all else gives the region without its places: the region that is written is that of the algorithm with its own places, but for places.
use Rattle.std.proofs.Common.{◌≡◌, ℕ, zero, suc, length, List, [], ◌∷◌, ◌++◌, map, filter, flat_map, Bool, true, false, cond, nat_eq, Some, None, refl, sym, ap, ◌∙◌}
use Rattle.std.proofs.lemmas.List.{map-append}
use Rattle.tla_token.specs.Signs.{is_among}
use Rattle.tla_tree.specs.Tree.{Word, strict, set_of, node, tree}
use Rattle.tla_tree.specs.TreeOf.{trees_from}
use Rattle.tla_tree.specs.laws.Placeless.{tree_placeless, trees_placeless}
use Rattle.tla_value.specs.Definitions.{Definition}
use Rattle.tla_value.specs.Outside.{found}
use Rattle.module_tree.specs.Module.{call_with}
use Rattle.module_tree.specs.Formulas.{named, quoted, at, is_in}
use Rattle.module_tree.specs.laws.PlacelessRegion.{call_placeless, over_placeless, perhaps_placeless, fairness_placeless, region_placeless}
use Rattle.pcal_tree.specs.declared.mark.Fairness.{Fairness as Fair}
use Rattle.pcal_tree.specs.declared.mark.Fairness.TheVariants.{Unfair, Weak, Strong}
use Rattle.pcal_tree.specs.Algorithm.{nowhere, Statement, assign, await, print, assert, skip, branch, either, with, while, goto, macro, call, return, Statements, done, then, mark, Branches, no_branches, or, Procedure, Process, Main, alone, processes, Routine, numbered, first_process, procedure_routines, Naming, Algorithm}
use Rattle.pcal_tree.specs.Calls.{label_name}
use Rattle.pcal_tree.specs.Names.{naming}
use Rattle.pcal_tree.specs.Placeless.{statement_placeless, statements_placeless, branches_placeless, procedures_placeless, processes_placeless, main_placeless, placeless}
use Rattle.pcal_tree.specs.Program.{Program}
use Rattle.pcal_tree.specs.Takers.{Takers, each_of, single, lone, Taken, taken_process}
use Rattle.pcal_tree.specs.Variables.{pc}
use Rattle.action_builder.specs.LabelActions.{call_by}
use Rattle.action_builder.specs.WrittenNames.{with_names}
use Rattle.fairness.specs.MarkedLabels.{Marked, marked_in, marked, marked_some, if_left_out, if_strong, left_out_labels, strong_labels}
use Rattle.fairness.specs.ReachedProcedures.{calls_in, calls, calls_some, called_by, reached_within, reached}
use Rattle.fairness.specs.Demands.{Demand, all_steps, routine_steps, label_steps, demands_in, demands_of, main_demands, demands}
use Rattle.fairness.specs.Obligations.{written_labels}
use Rattle.fairness.specs.FairnessLines.{identifier_of, over_of, action_call, guard_of, line_of, fairness_lines}
use Rattle.translation.specs.Region.{region_of}
use Rattle.translation.specs.laws.AcceptedLaws.{RegionPlaced}
use Rattle.translation.proofs.BareNames.{each_one, each_same}
use Rattle.translation.proofs.NoPlaces.{naming_bare, first_process_bare, as_many_procedures}
use Rattle.translation.proofs.PlacelessJumps.{routine_placeless, takers_placeless, taken_placeless, taken_one, routines_bare, Q, vars_bare}
use Rattle.translation.proofs.PlacelessUnits.{flat_bare, call_bare, process_set_bare, done_bare, ended_bare, definitions_bare, model_bare, all_actions_bare, next_bare, init_bare}
use Rattle.translation.proofs.PlacesTwice.{region_twice}

-- ---- marked labels, and procedures that are called

mutual
  one_marked : (st : Statement) → marked_in (statement_placeless st) ≡ marked_in st
  one_marked (branch e a b) = λ i. all_marked a i ++ all_marked b i
  one_marked (either bs) = some_marked bs
  one_marked (with bs b) = all_marked b
  one_marked (while e b) = all_marked b
  one_marked (assign ms) = refl
  one_marked (await e) = refl
  one_marked (print e) = refl
  one_marked (assert e) = refl
  one_marked skip = refl
  one_marked (goto l) = refl
  one_marked (macro m ts) = refl
  one_marked (call p ts) = refl
  one_marked return = refl

  all_marked : (ss : Statements) → marked (statements_placeless ss) ≡ marked ss
  all_marked done = refl
  all_marked (then at st rest) = λ i. one_marked st i ++ all_marked rest i
  all_marked (mark l k rest) = λ i. record { label = l.word; mark = k } ∷ all_marked rest i

  some_marked : (bs : Branches) → marked_some (branches_placeless bs) ≡ marked_some bs
  some_marked no_branches = refl
  some_marked (or b bs) = λ i. all_marked b i ++ some_marked bs i

mutual
  one_calls : (st : Statement) → calls_in (statement_placeless st) ≡ calls_in st
  one_calls (branch e a b) = λ i. all_calls a i ++ all_calls b i
  one_calls (either bs) = some_calls bs
  one_calls (with bs b) = all_calls b
  one_calls (while e b) = all_calls b
  one_calls (assign ms) = refl
  one_calls (await e) = refl
  one_calls (print e) = refl
  one_calls (assert e) = refl
  one_calls skip = refl
  one_calls (goto l) = refl
  one_calls (macro m ts) = refl
  one_calls (call p ts) = refl
  one_calls return = refl

  all_calls : (ss : Statements) → calls (statements_placeless ss) ≡ calls ss
  all_calls done = refl
  all_calls (then at st rest) = λ i. one_calls st i ++ all_calls rest i
  all_calls (mark l k rest) = all_calls rest

  some_calls : (bs : Branches) → calls_some (branches_placeless bs) ≡ calls_some bs
  some_calls no_branches = refl
  some_calls (or b bs) = λ i. all_calls b i ++ some_calls bs i

called_bare : (us : List Routine) → called_by (map routine_placeless us) ≡ called_by us
called_bare [] = refl
called_bare (u ∷ us) = λ i. all_calls u.body i ++ called_bare us i

named_bare : (xs : List Word) (us : List Routine) → filter (λ p. is_among xs p.name.word) (map routine_placeless us) ≡ map routine_placeless (filter (λ p. is_among xs p.name.word) us)
named_bare xs [] = refl
named_bare xs (u ∷ us) = by (is_among xs u.name.word) (named_bare xs us)
  where
    rest : List Routine
    rest = filter (λ p. is_among xs p.name.word) us

    by : (c : Bool) → filter (λ p. is_among xs p.name.word) (map routine_placeless us) ≡ map routine_placeless rest
        → cond c (routine_placeless u ∷ filter (λ p. is_among xs p.name.word) (map routine_placeless us)) (filter (λ p. is_among xs p.name.word) (map routine_placeless us)) ≡ map routine_placeless (cond c (u ∷ rest) rest)
    by true e = λ i. routine_placeless u ∷ e i
    by false e = e

reached_bare : (n : ℕ) (g : Algorithm) (u : Routine) → reached_within n (placeless g) (routine_placeless u) ≡ map routine_placeless (reached_within n g u)
reached_bare zero g u = refl
reached_bare (suc n) g u =
    (λ i. filter (λ p. is_among ((ap (λ us. called_by (routine_placeless u ∷ us)) (reached_bare n g u) ∙ called_bare (u ∷ reached_within n g u)) i) p.name.word) (routines_bare g i))
    ∙ named_bare (called_by (u ∷ reached_within n g u)) (procedure_routines g)

all_reached : (g : Algorithm) (u : Routine) → reached (placeless g) (routine_placeless u) ≡ map routine_placeless (reached g u)
all_reached g u = ap (λ (n : ℕ). reached_within n (placeless g) (routine_placeless u)) (as_many_procedures g.procedures) ∙ reached_bare (length g.procedures) g u

-- ---- demands

abbrev demand_placeless : Demand → Demand
demand_placeless all_steps = all_steps
demand_placeless (routine_steps t s u) = routine_steps (taken_placeless t) s (routine_placeless u)
demand_placeless (label_steps t u l) = label_steps (taken_placeless t) (routine_placeless u) l

demands_in_bare : (t : Taken) (s : Bool) (u : Routine) → map demand_placeless (demands_in t s u) ≡ demands_in (taken_placeless t) s (routine_placeless u)
demands_in_bare t s u = λ i. routine_steps (taken_placeless t) s (routine_placeless u) ∷ by s i
  where
    by : (c : Bool) → map demand_placeless (cond c [] (map (label_steps t u) (strong_labels u.body))) ≡ cond c [] (map (label_steps (taken_placeless t) (routine_placeless u)) (strong_labels (statements_placeless u.body)))
    by true = refl
    by false =
        each_same (label_steps t u) demand_placeless (label_steps (taken_placeless t) (routine_placeless u)) (λ l. refl) (strong_labels u.body)
        ∙ (λ i. map (label_steps (taken_placeless t) (routine_placeless u)) (flat_map (λ (m : Marked). if_strong m.label m.mark) (sym (all_marked u.body) i)))

all_demands_in : (g : Algorithm) (s : Bool) (t : Taken)
    → map demand_placeless (flat_map (demands_in t s) (t.routine ∷ reached g t.routine)) ≡ flat_map (demands_in (taken_placeless t) s) (routine_placeless t.routine ∷ reached (placeless g) (routine_placeless t.routine))
all_demands_in g s t =
    flat_bare demand_placeless routine_placeless (demands_in t s) (demands_in (taken_placeless t) s) (demands_in_bare t s) (t.routine ∷ reached g t.routine)
    ∙ ap (λ us. flat_map (demands_in (taken_placeless t) s) (routine_placeless t.routine ∷ us)) (sym (all_reached g t.routine))

demands_of_bare : (g : Algorithm) (f : Fair) (t : Taken) → map demand_placeless (demands_of g f t) ≡ demands_of (placeless g) f (taken_placeless t)
demands_of_bare g Unfair t = refl
demands_of_bare g Weak t = all_demands_in g false t
demands_of_bare g Strong t = all_demands_in g true t

each_process : (g : Algorithm) (n : ℕ) (ps : List Process)
    → map demand_placeless (flat_map (λ ds. ds) (numbered (λ n p. demands_of g p.fairness (taken_process n p)) n ps)) ≡ flat_map (λ ds. ds) (numbered (λ n p. demands_of (placeless g) p.fairness (taken_process n p)) n (processes_placeless ps))
each_process g n [] = refl
each_process g n (p ∷ ps) =
    map-append demand_placeless (demands_of g p.fairness (taken_process n p)) _
    ∙ (λ i. (demands_of_bare g p.fairness (taken_process n p) ∙ ap (demands_of (placeless g) p.fairness) (sym (taken_one n p))) i ++ each_process g (suc n) ps i)

main_demands_bare : (g : Algorithm) (m : Main) → map demand_placeless (main_demands g m) ≡ main_demands (placeless g) (main_placeless m)
main_demands_bare g (alone ss) = refl
main_demands_bare g (processes ps) =
    each_process g (first_process g) ps
    ∙ ap (λ (n : ℕ). flat_map (λ (ds : List Demand). ds) (numbered (λ n p. demands_of (placeless g) p.fairness (taken_process n p)) n (processes_placeless ps))) (sym (first_process_bare g))

first_demand : (c : Bool) → map demand_placeless (cond c (all_steps ∷ []) []) ≡ cond c (all_steps ∷ []) []
first_demand true = refl
first_demand false = refl

demands_bare : (g : Algorithm) → map demand_placeless (demands g) ≡ demands (placeless g)
demands_bare g = map-append demand_placeless (cond g.fair (all_steps ∷ []) []) (main_demands g g.main) ∙ (λ i. first_demand g.fair i ++ main_demands_bare g g.main i)

-- ---- lines

over_bare : (t : Takers) → over_placeless (over_of t) ≡ over_of (takers_placeless t)
over_bare (each_of s) = refl
over_bare (single e) = refl
over_bare lone = refl

identifier_bare : (t : Takers) → tree_placeless (identifier_of t) ≡ identifier_of (takers_placeless t)
identifier_bare (each_of s) = refl
identifier_bare (single e) = refl
identifier_bare lone = refl

quoted_bare : (ls : List Word) → trees_placeless (trees_from (map quoted ls)) ≡ trees_from (map quoted ls)
quoted_bare [] = refl
quoted_bare (l ∷ ls) = ap (tree (quoted l)) (quoted_bare ls)

guard_bare : (t : Takers) (ls : List Word) → perhaps_placeless (guard_of t ls) ≡ guard_of (takers_placeless t) ls
guard_bare t [] = refl
guard_bare t (l ∷ ls) =
    λ i. Some (is_in false (at (named pc) (identifier_bare t i)) (node (strict set_of) nowhere (quoted_bare (l ∷ ls) i)))

action_bare : (t : Taken) (u : Routine) (a : Word) → call_placeless (action_call t u a) ≡ action_call (taken_placeless t) (routine_placeless u) a
action_bare t u a = by (nat_eq t.routine.number u.number)
  where
    by : (c : Bool) → call_placeless (cond c (call_by t.takers a) (call_with a (identifier_of t.takers))) ≡ cond c (call_by (takers_placeless t.takers) a) (call_with a (identifier_of (takers_placeless t.takers)))
    by true = call_bare t.takers a
    by false = ap (call_with a) (identifier_bare t.takers)

module _ (outside : List Definition) (N : Naming) (g : Algorithm) where
  abbrev P : Program
  P = Q outside N g

  abbrev B : Program
  B = Q outside N (placeless g)

  line_bare : (d : Demand) → fairness_placeless (line_of P d) ≡ line_of B (demand_placeless d)
  line_bare all_steps = refl
  line_bare (routine_steps t s u) = λ i. record {
    over = over_bare t.takers i;
    strong = s;
    guard = (guard_bare t.takers (written_labels P u (left_out_labels u.body)) ∙ (λ j. guard_of (takers_placeless t.takers) (written_labels P u (flat_map (λ (m : Marked). if_left_out m.label m.mark) (sym (all_marked u.body) j))))) i;
    action = action_bare t u (N.title u.number) i;
  }
  line_bare (label_steps t u l) = λ i. record { over = over_bare t.takers i; strong = true; guard = None; action = action_bare t u (label_name P u l) i }

  lines_bare : map fairness_placeless (fairness_lines P) ≡ fairness_lines B
  lines_bare = each_one (line_of P) (line_of B) fairness_placeless demand_placeless line_bare (demands g) ∙ ap (map (line_of B)) (demands_bare g)

  pub region_bare : (c : Bool) → region_placeless (region_of c P) ≡ region_of c B
  region_bare c = λ i. record {
    model_values = sym (model_bare g) i;
    variables = sym (vars_bare outside N g) i;
    definitions = definitions_bare g.definitions i;
    vars = sym (vars_bare outside N g) i;
    process_set = process_set_bare g.main i;
    init = init_bare outside N g i;
    actions = all_actions_bare outside N g i;
    ended = ended_bare c g.main i;
    next = next_bare outside N g c i;
    fairness = lines_bare i;
    termination = done_bare g.main i;
  }

pub region_placed : RegionPlaced
region_placed c o g =
    let N = naming g o in
    sym (region_twice (region_of c (with_names o g))) ∙ ap region_placeless (region_bare (found o.definitions) N g c)
    ∙ ap (λ (M : Naming). region_placeless (region_of c (Q (found o.definitions) M (placeless g)))) (sym (naming_bare o g))
