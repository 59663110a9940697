-- That a test for membership sees all definitions.
use Rattle.std.proofs.Common.{◌≡◌, ℕ, List, length, Result, Bool, ap, subst, ◌∙◌}
use Rattle.tla_token.specs.declared.place.Place.{Place}
use Rattle.tla_tree.specs.Pool.{at}
use Rattle.tla_tree.specs.Tree.{Word, Tree}
use Rattle.tla_value.specs.declared.names.Definition.{Definition as Kept}
use Rattle.tla_value.specs.declared.stop.EvalStop.{EvalStop}
use Rattle.tla_value.specs.Definitions.{Valuation, no_state, base, in_states, scope_of}
use Rattle.tla_value.specs.Defs.{definitions_at}
use Rattle.tla_value.specs.Limits.{bounded}
use Rattle.tla_value.specs.Meaning.{Env, eval}
use Rattle.tla_value.specs.Value.{Value}
use Rattle.value_forms.specs.Gives.{Tells}
use Rattle.eval_scopes.specs.Contexts.{seen_env}
use Rattle.eval_scopes.specs.Scopes.{with_words}
use Rattle.eval_scopes.proofs.ContextLemmas.{seen_all}

-- whether a value is a member, where names are bound besides
abbrev pub Tests : Result Bool EvalStop → List Tree → ℕ → List Word → List Value → Place → Value → Env → Type 0
Tests r ts e xs vs place w env = Tells r ((eval bounded (at ts e) (with_words xs vs env)).test place w)

module _ (ts : List Tree) (ds : List Kept) (look : Valuation) where
  abbrev outer : Env
  outer = in_states look no_state (base bounded no_state)

  -- all definitions are seen
  all_seen : (n : ℕ) → n ≡ length ds → seen_env ts ds n outer ≡ scope_of bounded look (definitions_at ts ds) no_state no_state
  all_seen n many = ap (λ (k : ℕ). seen_env ts ds k outer) many ∙ seen_all ts ds outer

  pub tests_all : (r : Result Bool EvalStop) (e : ℕ) (xs : List Word) (vs : List Value) (place : Place) (w : Value) (n : ℕ) → n ≡ length ds → Tests r ts e xs vs place w (seen_env ts ds n outer)
      → Tests r ts e xs vs place w (scope_of bounded look (definitions_at ts ds) no_state no_state)
  tests_all r e xs vs place w n many h = subst (Tests r ts e xs vs place w) (all_seen n many) h
