-- States, and what names stand for where a statement is ("A PlusCal User's Manual", section 3.1, expressions).
use Rattle.std.specs.Prelude.{List, [], ◌∷◌, ◌++◌, Bool, cond, bytes_eq, Option, Some, None, Ok, Err}
use Rattle.tla_token.specs.declared.place.Place.{Place}
use Rattle.tla_tree.specs.Tree.{Word, apply, select, Form, name, strict, Tree, node, Trees, no_trees, tree, Graft}
use Rattle.tla_value.specs.declared.fault.FaultKind.TheVariants.{NotFunction}
use Rattle.tla_value.specs.Value.{Value, text, Values, fault, Outcome, ◌>>=◌}
use Rattle.tla_value.specs.Stops.{Check, truth_at, members_at}
use Rattle.pcal_tree.specs.Algorithm.{nowhere}
use Rattle.tla_value.specs.Grafts.{through as through_env}
use Rattle.tla_value.specs.Meaning.{Env, bind, part_values, eval, evals}

-- ---- states and results

-- a value for each name; only the algorithm's variables are looked at
abbrev pub State : Type 0
State = Word → Value

abbrev pub put : Word → Value → State → State
put x v s y = cond (bytes_eq x y) v (s y)

-- ---- scopes

-- the part of a variable after some subscripts
pub record Part : Type 0 where
  pub variable : Word
  pub path : List Value

-- of a name, on the state as it is then: what it gives as an expression, the part that it is as a left side, and the place of what stands for it
pub record Scope : Type 0 where
  pub env : State → Env
  pub part : Word → Place → State → Outcome Part
  pub origin : Word → Place → Place

-- with a name for a value, as in a `with`
abbrev pub bound : Word → Value → Scope → Scope
bound x v sc = record { env = λ s. bind x v (sc.env s); part = sc.part; origin = sc.origin }

-- the place of an expression; that of a macro's parameter alone is its argument's
abbrev pub place_in : Form → Place → Scope → Place
place_in (name x) at sc = sc.origin x at
place_in _ at sc = at

abbrev pub place_of : Tree → Scope → Place
place_of (node m at ts) sc = place_in m at sc

abbrev pub places_of : Trees → Scope → List Place
places_of no_trees sc = []
places_of (tree t ts) sc = place_of t sc ∷ places_of ts sc

-- ---- left sides

abbrev pub Reach : Type 0
Reach = Scope → State → Outcome Part

abbrev pub deeper : List Value → Part → Part
deeper ks p = record { variable = p.variable; path = p.path ++ ks }

-- a name, a subscript after a left side, or a field; no other tree is a left side
abbrev pub reach_form : Form → Place → Reach → Reach
reach_form (name x) at r sc s = sc.part x at s
reach_form (strict apply) at r sc s = r sc s
reach_form (strict (select a)) at r sc s = do
  p ← r sc s
  Ok (deeper (text a ∷ []) p)
reach_form _ at r sc s = Err (fault NotFunction nowhere)

-- the part that a left side stands for, its subscripts evaluated
abbrev mutual
  pub reach : Check → Tree → Reach
  reach c (node m at ts) = reach_form m at (reach_path c at ts)

  -- the first tree is the head, the others are subscripts
  pub reach_path : Check → Place → Trees → Reach
  reach_path c at no_trees sc s = Err (fault NotFunction nowhere)
  reach_path c at (tree f us) sc s = do
    p ← reach c f sc s
    ks ← part_values (evals c us) (sc.env s)
    Ok (deeper ks p)

-- ---- names that stand for trees, as a macro's parameters do

abbrev pub reach_in : Check → Option Tree → Word → Place → Reach
reach_in c (Some t) x at sc s = reach c t sc s
reach_in c None x at sc s = sc.part x at s

abbrev pub origin_in : Option Tree → Word → Place → Scope → Place
origin_in (Some t) x at sc = place_of t sc
origin_in None x at sc = sc.origin x at

-- the scope in which names stand for the trees of g, each read anew at each use, in the scope sc
abbrev pub through : Check → Graft → Scope → Scope
through c g sc = record {
  env = λ s. through_env c g (sc.env s);
  part = λ x at s. reach_in c (g x at) x at sc s;
  origin = λ x at. origin_in (g x at) x at sc;
}

-- ---- what statements need of expressions

abbrev pub value_of : Check → Tree → Scope → State → Outcome Value
value_of c e sc s = (eval c e (sc.env s)).value

abbrev pub test : Check → Tree → Scope → State → Outcome Bool
test c e sc s = do
  v ← value_of c e sc s
  truth_at (place_of e sc) v

abbrev pub members : Check → Tree → Scope → State → Outcome Values
members c e sc s = do
  v ← value_of c e sc s
  members_at (place_of e sc) v
