-- What names outside an expression stand for: definitions, each of which sees those before it, and values.
use Rattle.std.specs.Prelude.{◌≤◌, ℕ, zero, suc, List, [], ◌∷◌, Option, Some, None, Bool, true, false, ◌&&◌, bytes_eq, cond, length, slice_get}
use Rattle.std.specs.Option.{option_copied}
use Rattle.tla_token.specs.declared.place.Place.{Place}
use Rattle.tla_tree.specs.Tree.{Word, Tree}
use Rattle.tla_value.specs.declared.names.Definition.{Definition as Kept}
use Rattle.tla_value.specs.Value.{Value, Sense}
use Rattle.tla_value.specs.Limits.{bounded}
use Rattle.tla_value.specs.Stops.{misshapen}
use Rattle.tla_value.specs.Strict.{same_truth}
use Rattle.tla_value.specs.Meaning.{Env}
use Rattle.tla_value.specs.Definitions.{Valuation, base, in_states, no_state, with_arguments, body_sense, defined}
use Rattle.tla_value.specs.Defs.{definition_at, DefinitionsIn}
use Rattle.eval_scopes.specs.declared.context.Context.{Context}
use Rattle.eval_scopes.specs.declared.scope.Scope.{Scope}
use Rattle.eval_scopes.specs.Scopes.{scope_env}

-- no name is primed where there is no next state
abbrev pub next_of : {N : Type 0} → (N → Valuation) → Option N → Valuation
next_of look None = no_state
next_of look (Some n) = look n

-- values of names, now and in the next state
abbrev pub outside : {N : Type 0} → (N → Valuation) → Context N → Env
outside look c = in_states (look c.names.now) (next_of look (option_copied c.next)) (base bounded no_state)

abbrev pub with_kept : List Tree → Option Kept → Env → Env
with_kept ts None env = env
with_kept ts (Some d) env = defined bounded (definition_at ts d) d.params env

-- with the first n definitions, each of which sees those before it
abbrev pub seen_env : List Tree → List Kept → ℕ → Env → Env
seen_env ts ds zero env = env
seen_env ts ds (suc k) env = with_kept ts (slice_get ds k) (seen_env ts ds k env)

abbrev pub outer_env : {N : Type 0} → (N → Valuation) → Context N → ℕ → Env
outer_env look c n = seen_env c.pool.now c.defs.now n (outside look c)

abbrev pub env_of : {N : Type 0} → (N → Valuation) → Context N → Scope → Env
env_of look c s = scope_env (outer_env look c) s

-- the bodies of definitions are in the pool, and no more are seen than there are
abbrev pub IsWithin : {N : Type 0} → Context N → ℕ → Type 0
IsWithin c n = DefinitionsIn (length c.pool.now) c.defs.now × (n ≤ length c.defs.now)

-- ---- the last of the first n definitions that has a name, without parameters or with some

abbrev pub has_none : List Word → Bool
has_none [] = true
has_none (x ∷ xs) = false

abbrev pub gives_name : Bool → Word → Option Kept → Bool
gives_name plain y None = false
gives_name plain y (Some d) = same_truth plain (has_none d.params) && bytes_eq d.name y

abbrev pub last_of : Bool → List Kept → Word → ℕ → Option ℕ
last_of plain ds y zero = None
last_of plain ds y (suc k) = cond (gives_name plain y (slice_get ds k)) (Some k) (last_of plain ds y k)

-- ---- the use of a definition

abbrev pub kept_use : List Tree → Option Kept → Env → Place → List Value → Sense
kept_use ts None env at vs = record { value = misshapen at; test = λ p v. misshapen at }
kept_use ts (Some d) env at vs = body_sense bounded (definition_at ts d) (with_arguments d.params vs env) at

abbrev pub use_of : List Tree → List Kept → ℕ → Env → Place → List Value → Sense
use_of ts ds k env at vs = kept_use ts (slice_get ds k) (seen_env ts ds k env) at vs
