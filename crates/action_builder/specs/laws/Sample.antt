-- A step to which all laws apply, with a macro call, an assignment to a variable of the process, a definition beside variables of its
-- parameters' names, a bound name in an `await`, a jump and a call:
--   outside: Max(x, y) == IF x > y THEN x ELSE y
--   variables x = 0;  macro inc(n) begin n := n + 1; end macro;
--   procedure P(a = 0) variable b = 1; begin C: return; end procedure;
--   process Q \in {"me"} variable y = 0; begin A: inc(x); y := Max(x, y); await \E i \in {2, 3}: i > x;
--     if x > 1 then goto A; else call P(y); end if; B: skip; end process;
use Rattle.std.specs.Prelude.{ℕ, List, [], ◌∷◌, Bool, true, false, codes, Some, None, Ok}
use Rattle.tla_tree.specs.declared.op.Binder.TheVariants.{Exists}
use Rattle.tla_tree.specs.declared.op.Op.{Op}
use Rattle.tla_tree.specs.declared.op.Op.TheVariants.{Plus, Greater}
use Rattle.tla_tree.specs.Tree.{Word, number, string, set_of, name, strict, operator, operator_call, if_then_else, binding, Tree, node, no_trees, tree}
use Rattle.tla_value.specs.Value.{Value, text}
use Rattle.tla_value.specs.Stops.{plain}
use Rattle.tla_value.specs.Standard.{standard_of, standard_called}
use Rattle.tla_value.specs.Meaning.{Env, just, bind}
use Rattle.tla_value.specs.Definitions.{Definition, with_definitions}
use Rattle.pcal_tree.specs.declared.mark.Mark.TheVariants.{Plain}
use Rattle.pcal_tree.specs.declared.mark.Fairness.TheVariants.{Unfair}
use Rattle.pcal_tree.specs.Algorithm.{nowhere, Name, Span, no_assignments, assignment, Statement, assign, await, skip, branch, goto, macro, call, return, Statements, done, then, mark, equals, Declaration, Macro, Procedure, Process, processes, Routine, Algorithm, procedure_routine, process_routine, Naming}
use Rattle.pcal_tree.specs.Scope.{State, Scope, bound}
use Rattle.pcal_tree.specs.Program.{Program, Actor}
use Rattle.pcal_tree.specs.Variables.{pc, stack}
use Rattle.pcal_tree.specs.Calls.{rules_without_macros}
use Rattle.pcal_tree.specs.Expand.{expanded}
use Rattle.tla_token.specs.Signs.{is_among}
use Rattle.action_builder.specs.laws.Scopes.{part_at}
use Rattle.action_builder.specs.Jumps.{InitialValues, JumpPlaces, written_jumps}
use Rattle.action_builder.specs.laws.Jumps.{callable}
use Rattle.action_builder.specs.laws.Ready.{Readable}
use Rattle.action_builder.specs.laws.LabelSteps.{LabelStep}

-- ---- the algorithm

abbrev title : Word → Name
title w = record { word = w; place = nowhere }

abbrev num : ℕ → Tree
num k = node (number k) nowhere no_trees

abbrev var : Word → Tree
var w = node (name w) nowhere no_trees

abbrev over : Op → Tree → Tree → Tree
over o a b = node (strict (operator o)) nowhere (tree a (tree b no_trees))

abbrev pub no_span : Span
no_span = record { first = nowhere; last = nowhere }

-- Max(x, y) == IF x > y THEN x ELSE y
abbrev pub larger_of_two : Definition
larger_of_two = record {
  title = codes "Max";
  params = codes "x" ∷ codes "y" ∷ [];
  body = node if_then_else nowhere (tree (over Greater (var (codes "x")) (var (codes "y"))) (tree (var (codes "x")) (tree (var (codes "y")) no_trees)));
  outside = true;
}

-- \E i \in {2, 3}: i > x
abbrev pub larger : Tree
larger = node (binding Exists ((title (codes "i") ∷ []) ∷ [])) nowhere (tree (node (strict set_of) nowhere (tree (num 2) (tree (num 3) no_trees))) (tree (over Greater (var (codes "i")) (var (codes "x"))) no_trees))

abbrev and_next : Statement → Statements → Statements
and_next st rest = then no_span st rest

abbrev sets : Word → Tree → Statement
sets w e = assign (assignment (var w) e no_assignments)

abbrev inc : Macro
inc = record { name = title (codes "inc"); params = title (codes "n") ∷ []; body = and_next (sets (codes "n") (over Plus (var (codes "n")) (num 1))) done }

abbrev pub macros : List Macro
macros = inc ∷ []

-- what follows the label A
abbrev pub unexpanded : Statements
unexpanded =
    and_next (macro (codes "inc") (tree (var (codes "x")) no_trees)) (
    and_next (sets (codes "y") (node (operator_call (codes "Max")) nowhere (tree (var (codes "x")) (tree (var (codes "y")) no_trees)))) (
    and_next (await larger) (
    and_next (branch (over Greater (var (codes "x")) (num 1)) (and_next (goto (codes "A")) done) (and_next (call (title (codes "P")) (tree (var (codes "y")) no_trees)) done)) (
    mark (title (codes "B")) Plain (and_next skip done)))))

abbrev declares : Word → ℕ → Declaration
declares w k = record { name = title w; start = equals (num k) }

abbrev procedure : Procedure
procedure = record { name = title (codes "P"); params = declares (codes "a") 0 ∷ []; variables = declares (codes "b") 1 ∷ []; body = mark (title (codes "C")) Plain (and_next return done) }

abbrev process : Process
process = record {
  name = title (codes "Q");
  fairness = Unfair;
  several = true;
  identity = node (strict set_of) nowhere (tree (node (string (codes "me")) nowhere no_trees) no_trees);
  variables = declares (codes "y") 0 ∷ [];
  body = mark (title (codes "A")) Plain unexpanded;
}

abbrev pub algorithm : Algorithm
algorithm = record {
  name = title (codes "Sample");
  fair = false;
  globals = declares (codes "x") 0 ∷ [];
  definitions = [];
  macros = macros;
  procedures = procedure ∷ [];
  main = processes (process ∷ []);
}

-- all names keep theirs
abbrev names : Naming
names = record { local = λ n w. w; label = λ n l. l; title = λ n. codes "P" }

abbrev pub program : Program
program = record { check = plain; constants = λ w. None; outside = larger_of_two ∷ []; algorithm = algorithm; naming = names }

abbrev pub routine : Routine
routine = process_routine 2 process

-- the procedure, which could call itself and return
abbrev pub called : Routine
called = procedure_routine 1 procedure

abbrev pub me : Value
me = text (codes "me")

abbrev pub actor : Actor
actor = record { self = Some me; own = routine }

-- ---- written names

abbrev pub self : Word
self = codes "self"

-- the names of `vars`
abbrev pub variables : List Word
variables = codes "x" ∷ pc ∷ stack ∷ codes "a" ∷ codes "b" ∷ codes "y" ∷ []

abbrev pub own : Word → Bool
own w = is_among (pc ∷ stack ∷ codes "a" ∷ codes "b" ∷ codes "y" ∷ []) w

abbrev pub variables_env : State → State → Env
variables_env s t = record { now = λ w at. just (s w); primed = λ w at. just (t w); defs = λ f. standard_called plain (standard_of f) }

-- each variable has its value in the state, or primed in the second, and Max is defined
abbrev pub plain_env : State → State → Env
plain_env s t = with_definitions plain (larger_of_two ∷ []) (variables_env s t)

abbrev pub plain_scope : Scope
plain_scope = record { env = λ s. plain_env s s; part = λ w at s. Ok (part_at w []); origin = λ w at. at }

-- with the identifier as self
abbrev pub scope : Scope
scope = bound self me plain_scope

abbrev pub env : State → State → Env
env s t = bind self me (plain_env s t)

-- all names may be read
abbrev pub any_name : Readable
any_name A w = true

-- initial values are written as they are
abbrev pub initial_of : Rattle.pcal_tree.specs.Algorithm.Start → Tree
initial_of (equals e) = e
initial_of _ = var (codes "defaultInitValue")

abbrev pub initials : InitialValues
initials = record { place = λ p d. nowhere; initial = λ p d. initial_of d.start }

abbrev pub places : JumpPlaces
places = record { goto = nowhere; call = λ at. nowhere; return = λ at. nowhere }

-- ---- the step

abbrev pub step : LabelStep
step = record {
  rules = rules_without_macros program actor routine;
  jumps = written_jumps program routine initials places;
  names = λ w. false;
  callable = callable program;
  self = self;
  own = own;
  scope = scope;
  here = codes "A";
  exit = codes "Done";
  statements = expanded macros unexpanded;
}
