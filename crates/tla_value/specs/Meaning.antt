-- What an expression means: its value where it stands, or the first fault in the order of evaluation ("Specifying Systems", chapter 16).
use Rattle.std.specs.Prelude.{pos, List, [], ◌∷◌, ◌++◌, map, Bool, true, false, ◌&&◌, ◌||◌, cond, bytes_eq, Option, Some, None, Ok, Err}
use Rattle.tla_token.specs.declared.place.Place.{Place}
use Rattle.tla_tree.specs.declared.op.Binder.{Binder}
use Rattle.tla_tree.specs.declared.op.Binder.TheVariants.{ForAll, Exists, Filter, Image, Function}
use Rattle.tla_tree.specs.Tree.{Word, Name, Form, number, string, truth as literal, booleans, strings, name, next, strict, operator_call, conjunction, disjunction, implication, member, if_then_else, cases, binding, local, Tree, node, Trees, no_trees, tree}
use Rattle.tla_value.specs.declared.fault.FaultKind.TheVariants.{NotSet, NoCase}
use Rattle.tla_value.specs.Value.{Value, Values, truth, int, text, set, no_values, and, Outcome, fault, Sense, ◌>>=◌, in_order}
use Rattle.tla_value.specs.Order.{set_from, fun_from, seq_from}
use Rattle.tla_value.specs.Stops.{Check, truth_at, members_at, misshapen, one_of, two_of, three_of, sense_of}
use Rattle.tla_value.specs.Strict.{strict_value, strict_test, same_truth}

-- what a name means at a place of use, what it means primed, and what an operator gives, used at a place, for arguments
pub record Env : Type 0 where
  pub now : Word → Place → Sense
  pub primed : Word → Place → Sense
  pub defs : Word → Option (Place → List Value → Sense)

abbrev pub Denotation : Type 0
Denotation = Env → Sense

abbrev pub just : Value → Sense
just v = sense_of (Ok v)

-- x stands for v
abbrev pub bind : Word → Value → Env → Env
bind x v env = record env { now = λ y at. cond (bytes_eq x y) (just v) (env.now y at) }

-- the values of all parts
abbrev pub part_values : List Denotation → Env → Outcome (List Value)
part_values ds env = in_order (λ d. (d env).value) ds

-- a part that is a truth value
abbrev pub test : Place → Denotation → Env → Outcome Bool
test at p env = do
  v ← (p env).value
  truth_at at v

-- ---- forms that bind names over sets

-- the members that the names stand for, and what the body gives there
abbrev pub Row : Type 0
Row = List Value × Value

abbrev pub with_first : Value → Row → Row
with_first v r = (v ∷ r.0, r.1)

-- at each member, in order; none is left out
abbrev pub at_members : Word → Values → (Env → Outcome (List Row)) → Env → Outcome (List Row)
at_members x no_values go env = Ok []
at_members x (and v vs) go env = do
  rows ← go (bind x v env)
  more ← at_members x vs go env
  Ok (map (with_first v) rows ++ more)

-- each name of a group at each member of the group's set
abbrev pub at_group : List Name → Values → (Env → Outcome (List Row)) → Env → Outcome (List Row)
at_group [] s go = go
at_group (x ∷ xs) s go = at_members x.word s (at_group xs s go)

-- at each choice of members, the first name slowest
abbrev pub at_choices : List (List Name) → List Values → (Env → Outcome (List Row)) → Env → Outcome (List Row)
at_choices (xs ∷ groups) (s ∷ ss) go = at_group xs s (at_choices groups ss go)
at_choices _ _ go = go

-- quantifiers and filters need truth values
abbrev pub suited : Binder → Place → Value → Outcome Value
suited Image at v = Ok v
suited Function at v = Ok v
suited _ at v = do
  b ← truth_at at v
  Ok (truth b)

-- what the body gives where no names are left
abbrev pub at_body : Binder → Place → Denotation → Env → Outcome (List Row)
at_body b at body env = do
  v ← (body env).value
  w ← suited b at v
  Ok (([], w) ∷ [])

-- a function over several names is one on tuples
abbrev pub key : List Value → Value
key (v ∷ []) = v
key vs = seq_from vs

abbrev pub is_true : Value → Bool
is_true (truth b) = b
is_true _ = false

abbrev pub all_true : List Row → Bool
all_true [] = true
all_true (r ∷ rs) = is_true r.1 && all_true rs

abbrev pub some_true : List Row → Bool
some_true [] = false
some_true (r ∷ rs) = is_true r.1 || some_true rs

abbrev pub where_true : List Row → List Value
where_true [] = []
where_true (r ∷ rs) = cond (is_true r.1) (key r.0 ∷ where_true rs) (where_true rs)

abbrev pub results : List Row → List Value
results rs = map (λ r. r.1) rs

abbrev pub table : List Row → List (Value × Value)
table rs = map (λ r. (key r.0, r.1)) rs

abbrev pub gathered : Binder → List Row → Value
gathered ForAll rs = truth (all_true rs)
gathered Exists rs = truth (some_true rs)
gathered Filter rs = set (set_from (where_true rs))
gathered Image rs = set (set_from (results rs))
gathered Function rs = fun_from (table rs)

-- a set for each group of names, all evaluated in order, and the body
abbrev pub sources : Place → List (List Name) → List Denotation → Env → Outcome (List Value × Denotation)
sources at [] ds env = do
  body ← one_of at ds
  Ok ([], body)
sources at (xs ∷ groups) (d ∷ ds) env = do
  v ← (d env).value
  (vs, body) ← sources at groups ds env
  Ok (v ∷ vs, body)
sources at _ _ env = misshapen at

abbrev pub bound_value : Check → Binder → List (List Name) → Place → List Denotation → Env → Outcome Value
bound_value c b groups at ds env = do
  (vs, body) ← sources at groups ds env
  ss ← in_order (members_at at) vs
  rows ← at_choices groups ss (at_body b at body) env
  c at (gathered b rows)

-- right sides in order, each seen by those after it, and the body
abbrev pub local_value : Place → List Name → List Denotation → Env → Outcome Value
local_value at [] ds env = do
  body ← one_of at ds
  (body env).value
local_value at (x ∷ xs) (d ∷ ds) env = do
  v ← (d env).value
  local_value at xs ds (bind x.word v env)
local_value at _ _ env = misshapen at

-- ----

-- the arm after the first true test; with true, the last part is the one for OTHER
abbrev pub first_arm : Bool → Place → List Denotation → Env → Outcome Value
first_arm other at [] env = cond other (misshapen at) (Err (fault NoCase at))
first_arm other at (a ∷ []) env = cond other (a env).value (misshapen at)
first_arm other at (p ∷ a ∷ ds) env = do
  first ← test at p env
  cond first (a env).value (first_arm other at ds env)

-- an operator that isn't defined
abbrev pub called : Place → Option (Place → List Value → Sense) → List Value → Sense
called at None vs = sense_of (misshapen at)
called at (Some f) vs = f at vs

abbrev pub is_text : Value → Bool
is_text (text w) = true
is_text _ = false

-- a set that is not listed: it can be tested, and has no value
abbrev pub only_tested : Place → (Value → Bool) → Sense
only_tested at holds = record { value = Err (fault NotSet at); test = λ p v. Ok (holds v) }

-- what a form that makes a value gives
abbrev pub value_of : Check → Form → Place → List Denotation → Env → Outcome Value
value_of c (number n) at ds env = c at (int (pos n))
value_of c (string w) at ds env = Ok (text w)
value_of c (literal b) at ds env = Ok (truth b)
value_of c booleans at ds env = Ok (set (and (truth false) (and (truth true) no_values)))
value_of c conjunction at ds env = do
  (a, b) ← two_of at ds
  p ← test at a env
  q ← cond p (test at b env) (Ok false)
  Ok (truth q)
value_of c disjunction at ds env = do
  (a, b) ← two_of at ds
  p ← test at a env
  q ← cond p (Ok true) (test at b env)
  Ok (truth q)
value_of c implication at ds env = do
  (a, b) ← two_of at ds
  p ← test at a env
  q ← cond p (test at b env) (Ok true)
  Ok (truth q)
value_of c (member sense) at ds env = do
  (a, b) ← two_of at ds
  v ← (a env).value
  is_in ← (b env).test at v
  Ok (truth (same_truth sense is_in))
value_of c if_then_else at ds env = do
  (p, a, b) ← three_of at ds
  first ← test at p env
  cond first (a env).value (b env).value
value_of c (cases other) at ds env = first_arm other at ds env
value_of c (binding b groups) at ds env = bound_value c b groups at ds env
value_of c (local xs) at ds env = local_value at xs ds env
value_of c _ at ds env = misshapen at

-- a form's meaning from those of its parts
abbrev pub meaning_of : Check → Form → Place → List Denotation → Denotation
meaning_of c (name x) at ds env = env.now x at
meaning_of c (next x) at ds env = env.primed x at
meaning_of c strings at ds env = only_tested at is_text
meaning_of c (strict o) at ds env = record {
  value = part_values ds env >>= strict_value c o at;
  test = λ p v. part_values ds env >>= strict_test c o at p v;
}
meaning_of c (operator_call f) at ds env = record {
  value = (do vs ← part_values ds env; (called at (env.defs f) vs).value);
  test = λ p v. (do vs ← part_values ds env; (called at (env.defs f) vs).test p v);
}
meaning_of c m at ds env = sense_of (value_of c m at ds env)

abbrev mutual
  pub eval : Check → Tree → Denotation
  eval c (node m at ts) = meaning_of c m at (evals c ts)

  pub evals : Check → Trees → List Denotation
  evals c no_trees = []
  evals c (tree t ts) = eval c t ∷ evals c ts
