-- The premises without processes and procedures: variable x, and A: x := x + 1; goto A. There is no stack, and no name is any process's own.
use Rattle.std.proofs.Common.{◌≡◌, [], ◌∷◌, Bool, true, false, codes, Some, None, refl, Err, Ok, inl}
use Rattle.std.proofs.lemmas.Bool.{or_right}
use Rattle.tla_token.specs.Places.{nowhere}
use Rattle.tla_token.specs.Signs.{is_among}
use Rattle.tla_tree.specs.declared.op.Op.TheVariants.{Plus}
use Rattle.tla_tree.specs.Tree.{Word, Tree, name, number, strict, operator, node, no_trees, tree}
use Rattle.tla_value.specs.Value.{Value, Trouble, TrueExactly, truth, Outcome, fault}
use Rattle.tla_value.specs.Stops.{plain}
use Rattle.tla_value.specs.Grafts.{owned}
use Rattle.tla_value.specs.laws.Grafting.{Clear}
use Rattle.pcal_tree.specs.declared.mark.Mark.TheVariants.{Plain}
use Rattle.pcal_tree.specs.Algorithm.{Name, equals, assign, assignment, no_assignments, goto, done, then, mark, Statements, Routine, Algorithm, alone, alone_routine}
use Rattle.pcal_tree.specs.Scope.{State, Part}
use Rattle.pcal_tree.specs.Run.{Has}
use Rattle.pcal_tree.specs.Program.{Program, Actor}
use Rattle.pcal_tree.specs.Variables.{vars, pc, stack}
use Rattle.pcal_tree.specs.Step.{Stand, pc_of, StandsAt, StepFrom, course_of}
use Rattle.pcal_tree.proofs.Uncaptured.{uncaptured}
use Rattle.module_tree.specs.Formulas.{self}
use Rattle.module_tree.specs.ActionTruth.{items_hold}
use Rattle.action_builder.specs.Assigned.{more}
use Rattle.action_builder.specs.Settled.{settled}
use Rattle.action_builder.specs.Prepared.{none}
use Rattle.action_builder.specs.LabelActions.{items_from}
use Rattle.action_builder.specs.WrittenNames.{renames}
use Rattle.action_builder.specs.OwnVariables.{is_own_variable}
use Rattle.action_builder.specs.laws.Ready.{Settled, values_of}
use Rattle.action_builder.specs.laws.LabelSteps.{LabelStep, prepared_of, IsPrepared, IsReady}
use Rattle.action_builder.specs.laws.Jumps.{no_calls}
use Rattle.action_builder.specs.laws.Sample.{any_name, no_span}
use Rattle.action_builder.proofs.Names.{each_name}
use Rattle.action_builder.proofs.Decided.{clear_list, fine_list}
use Rattle.action_builder.specs.laws.WrittenScope.{NamesApart, written_scope}
use Rattle.action_builder.specs.laws.StepsOfLabels.{step_of, pair_env, NamesGiven}
use Rattle.action_builder.proofs.StepsOfLabels.{scope_stands}
use Rattle.action_builder.proofs.RoutinesStand as routines
use Rattle.action_builder.proofs.ActionsOfLabels as labels
use Rattle.std.specs.Prelude.{bytes_eq}
use Rattle.action_builder.specs.laws.Scopes.{StandsAtPath, own_scope}
use Rattle.tla_value.specs.declared.fault.FaultKind.TheVariants.{NotFunction}

abbrev title : Word → Name
title w = record { word = w; place = nowhere }

abbrev var : Word → Tree
var w = node (name w) nowhere no_trees

abbrev items : Statements
items =
    then no_span (assign (assignment (var (codes "x")) (node (strict (operator Plus)) nowhere (tree (var (codes "x")) (tree (node (number 1) nowhere no_trees) no_trees))) no_assignments)) (
    then no_span (goto (codes "A")) done)

abbrev algorithm : Algorithm
algorithm = record {
  name = title (codes "Counts");
  fair = false;
  globals = record { name = title (codes "x"); start = equals (node (number 0) nowhere no_trees) } ∷ [];
  definitions = [];
  macros = [];
  procedures = [];
  main = alone (mark (title (codes "A")) Plain items);
}

abbrev P : Program
P = record { check = plain; constants = λ w. None; outside = []; algorithm = algorithm; naming = record { local = λ n w. w; label = λ n l. l; title = λ n. [] } }

abbrev body : Routine
body = alone_routine algorithm (mark (title (codes "A")) Plain items)

abbrev actor : Actor
actor = record { self = None; own = body }

abbrev here : Stand
here = record { routine = body; label = codes "A"; begins = record { items = items; exit = codes "Done" } }

abbrev none_bound : Word → Bool
none_bound w = false

abbrev step : LabelStep
step = step_of P [] actor here none_bound no_calls

pub apart : NamesApart P [] actor body
apart = record {
  self_free = refl;
  self_untitled = refl;
  self_local = refl;
  local = λ x e. cc;
  path = λ x e. cc;
  global = λ x e. each_name (λ x. (is_among (vars P) x ≡ true) × (is_own_variable P x ≡ false)) (codes "x" ∷ []) ((refl, refl), tt) x e;
  own = λ x e. cc;
  untitled = λ x e. tt;
  definitions = tt;
  aside = tt;
}

pub given : NamesGiven P [] here
given = record {
  calls = (tt, (tt, tt));
  clean = uncaptured plain (renames P body) items (((tt, tt), (tt, ((tt, tt), ((tt, tt), tt))), tt), (tt, tt));
  reads = (((refl, tt), (tt, ((refl, tt), ((tt, tt), tt))), tt), (tt, tt));
}

-- nothing is own, so nothing is put in
clear : (x : Word) → Clear plain (owned self (is_own_variable P)) x
clear x = record { left = λ at. refl; unread = λ y at. tt }

avoided : Word → Bool
avoided w = is_among (self ∷ vars P) w

pub prepared : IsPrepared step
unfolding avoided
prepared = record {
  free = λ x at p s. refl;
  does = routines.jumps_alone P.constants P.outside P.algorithm P.naming [] actor none_bound body apart refl refl refl;
  tidy = (tt, (tt, tt));
  clean = clear_list avoided plain (owned self (is_own_variable P)) (λ x h. clear x) (settled step.jumps step.here step.exit step.statements) refl;
}

settled_step : Settled (is_among (vars P)) (prepared_of step)
settled_step = ((refl, tt), ((refl, tt), tt))

pub ready : IsReady any_name (vars P) (pair_env P [] actor) none step
unfolding avoided
ready = record {
  settled = settled_step;
  fine = fine_list avoided (vars P) (λ x m. or_right (bytes_eq self x) (is_among (vars P) x) m) none (λ x e. cc) (prepared_of step) settled_step refl;
  once = (each_name (λ w. none w ≡ false) (codes "x" ∷ []) (refl, tt), (each_name (λ w. more none (codes "x" ∷ []) w ≡ false) (pc ∷ []) (refl, tt), tt));
  within = λ x e. cc;
  stands = scope_stands P [] actor any_name (λ A w. tt) tt refl body apart (λ s t. refl) (λ s t. refl);
}

pub alone_true : (s t : State) (w : Value) → pc_of actor s ≡ Ok w → ((q : Trouble) → StandsAt P s actor here → Has (course_of P actor here s) (Err q) → ⊥)
    → TrueExactly (items_hold plain (values_of (vars P) s) (values_of (vars P) t) (pair_env P [] actor s t) (items_from P here.routine here.label (Some here.begins))) (StepFrom P actor here s t)
alone_true s t w e fine =
    labels.label_true P.constants P.outside P.algorithm P.naming [] actor here apart (record { among = refl; path = refl }) t s w e (inl refl) refl given none_bound no_calls prepared any_name ready fine

-- there is no stack: what RoutineStands asks of it can't be so here
some_state : State
some_state x = truth false

pub no_stack : StandsAtPath (own_scope plain self (is_own_variable P) (written_scope P [] actor)) [] stack → ⊥
no_stack h = never ((h nowhere some_state).0)
  where
    never : ◌≡◌ {A = Outcome Part} (Err (fault NotFunction nowhere)) (Ok (record { variable = stack; path = [] })) → ⊥
    never e = cc
