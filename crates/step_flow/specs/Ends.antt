-- What the code answers of a part of a step, as what comes of that part by a list of choices.
use Rattle.std.specs.Prelude.{◌≡◌, ℕ, List, [], ◌∷◌, drop, length, Ok, Err, Result}
use Rattle.tla_token.specs.declared.place.Place.{Place}
use Rattle.tla_tree.specs.Tree.{Word, Trees, no_trees, tree, root_place}
use Rattle.pcal_tree.specs.declared.algorithm.Stmt.{Stmt}
use Rattle.pcal_tree.specs.Algorithm.{Routine, Statement, Statements, done, then, mark}
use Rattle.pcal_tree.specs.InMemory.{stmt_at, statements_at}
use Rattle.pcal_tree.specs.Choices.{went}
use Rattle.pcal_tree.specs.Scope.{State, Scope}
use Rattle.pcal_tree.specs.Program.{Program, Actor}
use Rattle.pcal_tree.specs.Run.{Partner, Rules}
use Rattle.step_walks.specs.Flows.{Flow, falls, halts}
use Rattle.step_walks.specs.StepFlows.{flow, flow_one, back}
use Rattle.step_walks.specs.WrittenCalls.{written_rules}
use Rattle.step_moves.specs.Programs.{program_at}
use Rattle.step_moves.specs.StatesOf.{state_of}
use Rattle.step_moves.specs.ScopeIn.{scope_in, IsScene}
use Rattle.step_moves.specs.Runners.{IsReady}
use Rattle.step_moves.specs.declared.runner.Runner.{Runner}
use Rattle.step_choices.specs.declared.pause.Pause.{Pause}
use Rattle.step_choices.specs.Pauses.{Pauses}
use Rattle.step_flow.specs.declared.going.End.{End}
use Rattle.step_flow.specs.declared.going.End.TheVariants as end
use Rattle.step_flow.specs.declared.going.Going.{Going}

-- the choices that are left
abbrev pub left_of : List ℕ → Going → List ℕ
left_of choices g = drop g.used choices

abbrev pub Ends : Result End Pause → Going → List ℕ → Flow State → Type 0
Ends (Ok end.Falls) g choices f = f ≡ falls (state_of g.state) (left_of choices g)
Ends (Ok end.Over) g choices f = f ≡ halts (went (state_of g.state) (left_of choices g))
Ends (Err p) g choices f = Pauses p f

-- where it is: with names that are bound
abbrev pub scope_of : Program → Going → Scope
scope_of P g = scope_in P g.bound.names.items g.bound.values.items

-- what comes of a list of statements, and of one statement, from there
abbrev pub list_from : Runner → Actor → Routine → Word → List Stmt → Word → Partner → Going → List ℕ → Flow State
list_from r v u here ss exit j g choices =
    flow (written_rules (program_at r.program) [] v u) here (statements_at r.program.pool.now ss) (scope_of (program_at r.program) g) exit j (state_of g.state) (left_of choices g)

abbrev pub one_from : Runner → Actor → Routine → Word → Place → Statement → Word → Partner → Going → List ℕ → Flow State
one_from r v u here at st exit j g choices =
    flow_one (written_rules (program_at r.program) [] v u) here at st (scope_of (program_at r.program) g) exit j (state_of g.state) (left_of choices g)

abbrev pub jump_from : Runner → Actor → Routine → Word → Going → List ℕ → Flow State
jump_from r v u l g choices = back (written_rules (program_at r.program) [] v u) l (state_of g.state) (left_of choices g)

-- of the first of a list, where x is the label of what follows it
abbrev pub first_flow : Rules → Word → Statements → Scope → Word → Partner → State → List ℕ → Flow State
first_flow M here done sc x j s ns = falls s ns
first_flow M here (then at st rest) sc x j s ns = flow_one M here at.first st sc x j s ns
first_flow M here (mark l k rest) sc x j s ns = back M l.word s ns

abbrev pub item_from : Runner → Actor → Routine → Word → Stmt → Word → Partner → Going → List ℕ → Flow State
item_from r v u here one exit j g choices =
    first_flow (written_rules (program_at r.program) [] v u) here (stmt_at r.program.pool.now one done) (scope_of (program_at r.program) g) exit j (state_of g.state) (left_of choices g)

-- the process is ready, in a state of the program's variables, and there are as many values as names
pub record Stands (r : Runner) (g : Going) : Type 0 where
  pub ready : IsReady r
  pub scene : IsScene r.program g.state
  pub paired : length g.bound.names.items ≡ length g.bound.values.items

-- the same names are bound
pub record Rebound (g h : Going) : Type 0 where
  pub names : h.bound.names.items ≡ g.bound.names.items
  pub values : h.bound.values.items ≡ g.bound.values.items

abbrev pub root_places : Trees → List Place
root_places no_trees = []
root_places (tree t ts) = root_place t ∷ root_places ts
