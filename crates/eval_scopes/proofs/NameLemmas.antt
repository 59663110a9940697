-- What a name means where it is used: the value that it is bound to, the last definition that has it, or what it means outside.
use Rattle.std.proofs.Common.{◌≡◌, ℕ, true, false, List, [], Some, None, ap, ◌∙◌}
use Rattle.tla_token.specs.declared.place.Place.{Place}
use Rattle.tla_tree.specs.Tree.{Word, Tree}
use Rattle.tla_value.specs.declared.names.Definition.{Definition as Kept}
use Rattle.tla_value.specs.Value.{Value}
use Rattle.tla_value.specs.Meaning.{Env, just}
use Rattle.tla_value.specs.Definitions.{or_sense}
use Rattle.eval_scopes.specs.declared.scope.Scope.{Scope}
use Rattle.eval_scopes.specs.Scopes.{scope_env, seen_of, bound_in}
use Rattle.eval_scopes.specs.Contexts.{seen_env, last_of, use_of}
use Rattle.eval_scopes.proofs.ScopeLemmas.{now_is, primed_is, defs_are}
use Rattle.eval_scopes.proofs.ContextLemmas.{seen_now, seen_call, seen_primed, use_sense, use_call}

abbrev pub inside : List Tree → List Kept → Env → Scope → Env
inside ts ds env s = scope_env (λ n. seen_env ts ds n env) s

pub bound_name : (ts : List Tree) (ds : List Kept) (env : Env) (s : Scope) (y : Word) (p : Place) (v : Value) → bound_in s y ≡ Some v → (inside ts ds env s).now y p ≡ just v
bound_name ts ds env s y p v h =
    now_is (λ n. seen_env ts ds n env) s y p ∙ ap (λ o. or_sense o ((seen_env ts ds (seen_of s) env).now y p)) h

free_name : (ts : List Tree) (ds : List Kept) (env : Env) (s : Scope) (y : Word) (p : Place) → bound_in s y ≡ None → (inside ts ds env s).now y p ≡ (seen_env ts ds (seen_of s) env).now y p
free_name ts ds env s y p h =
    now_is (λ n. seen_env ts ds n env) s y p ∙ ap (λ o. or_sense o ((seen_env ts ds (seen_of s) env).now y p)) h

pub defined_name : (ts : List Tree) (ds : List Kept) (env : Env) (s : Scope) (y : Word) (p : Place) (k : ℕ) → bound_in s y ≡ None → last_of true ds y (seen_of s) ≡ Some k
    → (inside ts ds env s).now y p ≡ use_of ts ds k env p []
defined_name ts ds env s y p k h d =
    free_name ts ds env s y p h ∙ seen_now ts ds (seen_of s) env y p ∙ ap (λ o. use_sense ts ds env p o (env.now y p)) d

pub outer_name : (ts : List Tree) (ds : List Kept) (env : Env) (s : Scope) (y : Word) (p : Place) → bound_in s y ≡ None → last_of true ds y (seen_of s) ≡ None
    → (inside ts ds env s).now y p ≡ env.now y p
outer_name ts ds env s y p h d =
    free_name ts ds env s y p h ∙ seen_now ts ds (seen_of s) env y p ∙ ap (λ o. use_sense ts ds env p o (env.now y p)) d

pub primed_name : (ts : List Tree) (ds : List Kept) (env : Env) (s : Scope) (y : Word) (p : Place) → (inside ts ds env s).primed y p ≡ env.primed y p
primed_name ts ds env s y p =
    ap (λ f. f y p) (primed_is (λ n. seen_env ts ds n env) s ∙ seen_primed ts ds (seen_of s) env)

pub defined_call : (ts : List Tree) (ds : List Kept) (env : Env) (s : Scope) (y : Word) (k : ℕ) → last_of false ds y (seen_of s) ≡ Some k
    → (inside ts ds env s).defs y ≡ Some (λ at vs. use_of ts ds k env at vs)
defined_call ts ds env s y k d =
    ap (λ f. f y) (defs_are (λ n. seen_env ts ds n env) s) ∙ seen_call ts ds (seen_of s) env y ∙ ap (λ o. use_call ts ds env o (env.defs y)) d

pub outer_call : (ts : List Tree) (ds : List Kept) (env : Env) (s : Scope) (y : Word) → last_of false ds y (seen_of s) ≡ None → (inside ts ds env s).defs y ≡ env.defs y
outer_call ts ds env s y d =
    ap (λ f. f y) (defs_are (λ n. seen_env ts ds n env) s) ∙ seen_call ts ds (seen_of s) env y ∙ ap (λ o. use_call ts ds env o (env.defs y)) d
