-- What names stand for: bound names, the innermost first, and then those outside.
use Rattle.std.specs.Prelude.{ℕ, List, ◌∷◌, Option, Some, None, cond, bytes_eq}
use Rattle.tla_tree.specs.Tree.{Word, Name}
use Rattle.tla_value.specs.Value.{Value}
use Rattle.tla_value.specs.Meaning.{Env, bind}
use Rattle.eval_scopes.specs.declared.scope.Scope.{Scope, Top, Params, Local', Choice'}
use Rattle.eval_scopes.specs.Choices.{Over, chosen, unbound, picked_at}

-- names that are bound one after the other
abbrev pub with_words : List Word → List Value → Env → Env
with_words (x ∷ xs) (v ∷ vs) env = with_words xs vs (bind x v env)
with_words _ _ env = env

abbrev pub with_locals : List Name → List Value → Env → Env
with_locals (x ∷ xs) (v ∷ vs) env = with_locals xs vs (bind x.word v env)
with_locals _ _ env = env

-- where names stand for what they do in a scope; outside of it, by how many definitions are seen
abbrev pub scope_env : (ℕ → Env) → Scope → Env
scope_env outer (Top n) = outer n
scope_env outer (Params xs vs n) = with_words xs.now vs.now (outer n)
scope_env outer (Local' xs vs p o) = with_locals xs.now vs.now (scope_env outer o)
scope_env outer (Choice' names left p o) = (chosen names.now left.now (unbound (scope_env outer o))).0

-- how many definitions are seen
abbrev pub seen_of : Scope → ℕ
seen_of (Top n) = n
seen_of (Params xs vs n) = n
seen_of (Local' xs vs p o) = seen_of o
seen_of (Choice' names left p o) = seen_of o

-- ---- the value of a bound name alone

abbrev pub rather : Option Value → Option Value → Option Value
rather (Some v) o = Some v
rather None o = o

abbrev pub word_at : List Word → List Value → Word → Option Value
word_at (x ∷ xs) (v ∷ vs) y = rather (word_at xs vs y) (cond (bytes_eq x y) (Some v) None)
word_at _ _ y = None

abbrev pub local_at : List Name → List Value → Word → Option Value
local_at (x ∷ xs) (v ∷ vs) y = rather (local_at xs vs y) (cond (bytes_eq x.word y) (Some v) None)
local_at _ _ y = None

abbrev pub choice_at : Over → List ℕ → Word → Option Value
choice_at (o ∷ os) (k ∷ ks) y = rather (choice_at os ks y) (cond (bytes_eq o.0 y) (picked_at o.1 k) None)
choice_at _ _ y = None

abbrev pub bound_in : Scope → Word → Option Value
bound_in (Top n) y = None
bound_in (Params xs vs n) y = word_at xs.now vs.now y
bound_in (Local' xs vs p o) y = rather (local_at xs.now vs.now y) (bound_in o y)
bound_in (Choice' names left p o) y = rather (choice_at names.now left.now y) (bound_in o y)
