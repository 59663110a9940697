-- The tree of a module: the units outside the translation, and the translation ("Specifying Systems", sections 17.1 to 17.5; actions, chapter 2;
-- processes and their own actions, "A PlusCal User's Manual", section 3).
use Rattle.std.specs.Prelude.{List, [], ◌∷◌, ◌++◌, map, flat_map, Bool, Option, Some, None}
use Rattle.tla_tree.specs.Tree.{Word, Name, Tree, words}
use Rattle.tla_value.specs.Definitions.{Definition}
use Rattle.tla_value.specs.Outside.{Opaque, ReadDefinition, Outside}

-- ---- actions

mutual
  -- one conjunct of an action
  pub data Item : Type 0 where
    test : Tree → Item  -- (e)
    setting : Word → Tree → Item  -- x' = e
    unchanged : List Word → Item  -- UNCHANGED <<x, y>>
    exists : Word → Tree → Items → Item  -- \E x \in S : list
    local : Word → Tree → Items → Item  -- LET x == e IN list
    if_then_else : Tree → Items → Items → Item  -- IF e THEN list ELSE list
    either : Branches → Item  -- a \/ list, a list in each branch

  -- a /\ list
  pub data Items : Type 0 where
    no_items : Items
    item : Item → Items → Items

  pub data Branches : Type 0 where
    no_branches : Branches
    branch : Items → Branches → Branches

-- the call of an action
pub data Call : Type 0 where
  call : Word → Call  -- A
  call_with : Word → Tree → Call  -- A(e)

-- a disjunct that calls an action
pub data Way : Type 0 where
  one_way : Call → Way  -- A(e)
  some_way : Word → Tree → Call → Way  -- \E x \in S : A(x)

pub data Body : Type 0 where
  all_of : Items → Body  -- a /\ list
  some_of : List Way → Body  -- a \/ list of calls

-- A == body, or A(self) == body
pub record Action : Type 0 where
  pub title : Word
  pub parameter : Option Word
  pub body : Body

-- ---- fairness

-- WF_vars(action), under `\A self \in S :` and with a test before the action where these are there
pub record Fairness : Type 0 where
  pub over : Option (Word × Tree)  -- self and S
  pub strong : Bool  -- SF_vars
  pub guard : Option Tree  -- as pc[self] \notin {"L"}
  pub action : Call

-- ---- the translation

-- its units, in this order
pub record Region : Type 0 where
  pub model_values : List Word  -- CONSTANT: defaultInitValue, or none
  pub variables : List Word
  pub definitions : List Definition  -- those of the algorithm's `define` block
  pub vars : List Word  -- vars == <<x, y>>
  pub process_set : Option Tree  -- ProcSet, of an algorithm with processes
  pub init : List Tree  -- the conjuncts of Init
  pub actions : List Action  -- of each procedure and process: its labels' actions, and then its own
  pub ended : Option Tree  -- the test in Terminating, beside `UNCHANGED vars`; none where there is no Terminating
  pub next : List Way  -- the disjuncts of Next
  pub fairness : List Fairness  -- the conjuncts of Spec after `Init` and `[][Next]_vars`
  pub termination : Tree  -- Termination == <>(e)

-- one of them
pub data RegionUnit : Type 0 where
  constant_unit : List Word → RegionUnit  -- CONSTANT x
  variables_unit : List Word → RegionUnit  -- VARIABLES x, y
  definition_unit : Definition → RegionUnit  -- N == e, or N(a, b) == e
  vars_unit : List Word → RegionUnit  -- vars == <<x, y>>
  process_set_unit : Tree → RegionUnit  -- ProcSet == e
  init_unit : List Tree → RegionUnit  -- Init == a /\ list
  action_unit : Action → RegionUnit
  terminating_unit : Tree → RegionUnit  -- Terminating == the test and UNCHANGED vars
  next_unit : List Way → RegionUnit  -- Next == a \/ list
  spec_unit : List Fairness → RegionUnit  -- Spec == a /\ list
  termination_unit : Tree → RegionUnit  -- Termination == <>(e)

abbrev pub model_value_units : List Word → List RegionUnit
model_value_units [] = []
model_value_units xs = constant_unit xs ∷ []

abbrev pub process_set_of : Option Tree → List RegionUnit
process_set_of (Some e) = process_set_unit e ∷ []
process_set_of None = []

abbrev pub terminating_of : Option Tree → List RegionUnit
terminating_of (Some e) = terminating_unit e ∷ []
terminating_of None = []

abbrev pub units_of : Region → List RegionUnit
units_of r =
    model_value_units r.model_values ++ (variables_unit r.variables
    ∷ (map definition_unit r.definitions ++ (vars_unit r.vars
    ∷ (process_set_of r.process_set ++ (init_unit r.init
    ∷ (map action_unit r.actions ++ (terminating_of r.ended ++ (next_unit r.next ∷ spec_unit r.fairness ∷ termination_unit r.termination ∷ []))))))))

-- ---- the module

-- a unit outside the translation
pub data OutsideUnit : Type 0 where
  extends : List Name → OutsideUnit  -- EXTENDS M, N
  constants : List Name → OutsideUnit  -- CONSTANTS x, y
  defines : ReadDefinition → OutsideUnit  -- N == e, or N(a, b) == e
  opaque : Opaque → OutsideUnit  -- passed on unread

pub record Module : Type 0 where
  pub title : Word
  pub outside : Outside
  pub region : Region

-- ---- what units outside the translation have of each kind

abbrev pub modules_of : OutsideUnit → List Name
modules_of (extends ms) = ms
modules_of _ = []

abbrev pub constants_of : OutsideUnit → List Name
constants_of (constants xs) = xs
constants_of _ = []

abbrev pub definitions_of : OutsideUnit → List ReadDefinition
definitions_of (defines d) = d ∷ []
definitions_of _ = []

abbrev pub unread_of : OutsideUnit → List Opaque
unread_of (opaque o) = o ∷ []
unread_of _ = []

abbrev pub outside_of : List OutsideUnit → Outside
outside_of us = record {
  extended = words (flat_map modules_of us);
  constants = flat_map constants_of us;
  definitions = flat_map definitions_of us;
  opaque = flat_map unread_of us;
}
