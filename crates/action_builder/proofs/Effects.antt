-- Effects of statements that have no jump, label, loop or call, over what expressions give in a scope and a state, and their runs.
use Rattle.std.specs.Prelude.{◌≡◌, List, [], ◌∷◌, ◌++◌, Bool, true, false, cond, ◌⊎◌, Ok, Err}
use Rattle.tla_token.specs.declared.place.Place.{Place}
use Rattle.tla_tree.specs.Tree.{Word, Tree, root_place}
use Rattle.tla_value.specs.declared.fault.FaultKind.TheVariants.{AssertFailed}
use Rattle.tla_value.specs.Value.{Value, Values, no_values, and, fault, Outcome, ◌>>=◌}
use Rattle.tla_value.specs.Stops.{Check}
use Rattle.tla_value.specs.Strict.{changed_at}
use Rattle.pcal_tree.specs.Algorithm.{Assignments, no_assignments, assignment, Binds, no_binds, one_of, is, Statement, Statements, Branches, no_branches, or}
use Rattle.pcal_tree.specs.Algorithm as Source
use Rattle.pcal_tree.specs.Scope.{State, put, Scope, bound, reach, value_of, test, members}
use Rattle.action_builder.specs.Assigned.{Names, without, head_of}
use Rattle.action_builder.specs.laws.Scopes.{part_at}

-- what an expression gives for a scope and a state
abbrev pub Exp : Type 0 → Type 0
Exp X = Scope → State → Outcome X

-- a change of a variable's value
abbrev pub Change : Type 0
Change = Value → Outcome Value

-- the parts of an assignment: a variable, and what the subscripts and the right side give for it
pub data Parts : Type 0 where
  no_parts : Parts
  part : Word → Exp Change → Parts → Parts

mutual
  pub data Effect : Type 0 where
    assign : Parts → Effect
    await : Exp Bool → Effect
    branch : Exp Bool → Effects → Effects → Effect
    either : Ways → Effect
    choose : Word → Exp Values → Effects → Effect

  pub data Effects : Type 0 where
    done : Effects
    then : Effect → Effects → Effects

  pub data Ways : Type 0 where
    no_ways : Ways
    way : Effects → Ways → Ways

-- the variables of the parts, each once, in order of first appearance
abbrev pub firsts : Parts → List Word
firsts no_parts = []
firsts (part x e ps) = x ∷ without x (firsts ps)

-- the variables that are assigned
abbrev mutual
  pub effect_names : Effect → List Word
  effect_names (assign ps) = firsts ps
  effect_names (await e) = []
  effect_names (branch e a b) = effects_names a ++ effects_names b
  effect_names (either bs) = ways_names bs
  effect_names (choose x e b) = effects_names b

  pub effects_names : Effects → List Word
  effects_names done = []
  effects_names (then st rest) = effect_names st ++ effects_names rest

  pub ways_names : Ways → List Word
  ways_names no_ways = []
  ways_names (way b bs) = effects_names b ++ ways_names bs

-- ---- the runs

pub data Changes : Type 0 where
  no_changes : Changes
  change : Word → Change → Changes → Changes

-- all subscripts and right sides first, in order
abbrev pub evaluated : Parts → Scope → State → Outcome Changes
evaluated no_parts c s = Ok no_changes
evaluated (part x e ps) c s = (e c s) >>= (λ f. (evaluated ps c s) >>= (λ fs. Ok (change x f fs)))

-- then the parts are set from left to right
abbrev pub applied : Changes → State → Outcome State
applied no_changes s = Ok s
applied (change x f fs) s = (f (s x)) >>= (λ v. applied fs (put x v s))

abbrev pub moved : Parts → Scope → State → Outcome State
moved ps c s = (evaluated ps c s) >>= (λ fs. applied fs s)

abbrev pub Awaits : Outcome Bool → State → Outcome State → Type 0
Awaits (Ok true) s r = r ≡ Ok s
Awaits (Ok false) s r = ⊥
Awaits (Err k) s r = r ≡ Err k

abbrev pub Chosen : Outcome Bool → Type 0 → Type 0 → Outcome State → Type 0
Chosen (Ok true) P Q r = P
Chosen (Ok false) P Q r = Q
Chosen (Err k) P Q r = r ≡ Err k

abbrev pub SomeOf : Values → (Value → Type 0) → Type 0
SomeOf no_values P = ⊥
SomeOf (and v vs) P = P v ⊎ SomeOf vs P

abbrev pub Picks : Outcome Values → (Value → Type 0) → Outcome State → Type 0
Picks (Ok vs) P r = SomeOf vs P
Picks (Err k) P r = r ≡ Err k

-- from a result on
abbrev pub Next : (State → Outcome State → Type 0) → Outcome State → Outcome State → Type 0
Next R (Ok u) r = R u r
Next R (Err k) r = r ≡ Err k

-- some run of the items from the state has this outcome
abbrev mutual
  pub RunOne : Effect → Scope → State → Outcome State → Type 0
  RunOne (assign ps) c s r = r ≡ moved ps c s
  RunOne (await e) c s r = Awaits (e c s) s r
  RunOne (branch e a b) c s r = Chosen (e c s) (Run a c s r) (Run b c s r) r
  RunOne (either bs) c s r = RunSome bs c s r
  RunOne (choose x e b) c s r = Picks (e c s) (λ v. Run b (bound x v c) s r) r

  pub Run : Effects → Scope → State → Outcome State → Type 0
  Run done c s r = r ≡ Ok s
  Run (then st rest) c s r = (q : Outcome State) × RunOne st c s q × Next (Run rest c) q r

  pub RunSome : Ways → Scope → State → Outcome State → Type 0
  RunSome no_ways c s r = ⊥
  RunSome (way b bs) c s r = Run b c s r ⊎ RunSome bs c s r

-- ---- of statements

-- the value with v at the end of a path; the new value is reached at the left side's place
abbrev pub changing : Check → Place → List Value → Value → Change
changing c at path v old = (changed_at at path v old) >>= (c at)

abbrev pub part_of : Check → Tree → Tree → Exp Change
part_of c l e sc s = (reach c l sc s) >>= (λ p. (value_of c e sc s) >>= (λ v. Ok (changing c (root_place l) p.path v)))

abbrev pub parts_of : Check → Assignments → Parts
parts_of c no_assignments = no_parts
parts_of c (assignment l e ms) = part (head_of l) (part_of c l e) (parts_of c ms)

-- ---- statements

-- `print` evaluates, and holds nothing back
abbrev pub printed : Check → Tree → Exp Bool
printed c e sc s = (value_of c e sc s) >>= (λ v. Ok true)

-- `assert` is true, or a fault of the statement
abbrev pub asserted : Check → Place → Tree → Exp Bool
asserted c at e sc s = (test c e sc s) >>= (λ b. cond b (Ok true) (Err (fault AssertFailed at)))

abbrev pub always : Exp Bool
always sc s = Ok true

-- `with x = e` is a choice from one member
abbrev pub one_member : Check → Tree → Exp Values
one_member c e sc s = (value_of c e sc s) >>= (λ v. Ok (and v no_values))

-- further binds of a `with`, around its body
abbrev pub nested : Check → Binds → Effects → Effects
nested c no_binds b = b
nested c (one_of x e bs) b = then (choose x.word (members c e) (nested c bs b)) done
nested c (is x e bs) b = then (choose x.word (one_member c e) (nested c bs b)) done

abbrev mutual
  pub effect_of : Check → Place → Statement → Effect
  effect_of c at (Source.assign ms) = assign (parts_of c ms)
  effect_of c at (Source.await e) = await (test c e)
  effect_of c at (Source.print e) = await (printed c e)
  effect_of c at (Source.assert e) = await (asserted c at e)
  effect_of c at Source.skip = await always
  effect_of c at (Source.branch e a b) = branch (test c e) (effects_of c a) (effects_of c b)
  effect_of c at (Source.either bs) = either (ways_of c bs)
  effect_of c at (Source.with no_binds b) = either (way (effects_of c b) no_ways)
  effect_of c at (Source.with (one_of x e bs) b) = choose x.word (members c e) (nested c bs (effects_of c b))
  effect_of c at (Source.with (is x e bs) b) = choose x.word (one_member c e) (nested c bs (effects_of c b))
  effect_of c at _ = either no_ways

  pub effects_of : Check → Statements → Effects
  effects_of c Source.done = done
  effects_of c (Source.then at st rest) = then (effect_of c at.first st) (effects_of c rest)
  effects_of c (Source.mark l k rest) = done

  pub ways_of : Check → Branches → Ways
  ways_of c no_branches = no_ways
  ways_of c (or b bs) = way (effects_of c b) (ways_of c bs)

-- each name of V is a variable, or a part of the variable of that name
abbrev pub Named : Names → Scope → Type 0
Named V sc = (x : Word) → V x ≡ true → (at : Place) (s : State) → (path : List Value) × (sc.part x at s ≡ Ok (part_at x path))
