-- Proves that expressions are seen alike where variables are looked up before constants.
use Rattle.std.proofs.Common.{◌≡◌, List, Option, Some, None, refl, sym, ap, ◌∙◌}
use Rattle.std.specs.Option.{option_or}
use Rattle.tla_token.specs.declared.place.Place.{Place}
use Rattle.tla_tree.specs.Tree.{Word}
use Rattle.tla_value.specs.Value.{Value, Sense}
use Rattle.tla_value.specs.States.{value_of}
use Rattle.tla_value.specs.Stops.{Check}
use Rattle.tla_value.specs.Limits.{bounded}
use Rattle.tla_value.specs.Meaning.{Env}
use Rattle.tla_value.specs.Definitions.{Valuation, Definition, or_sense, base, in_states, no_state, with_definitions, scope_of}
use Rattle.tla_value.specs.Defs.{definitions_at}
use Rattle.pcal_tree.specs.Program.{common_env}
use Rattle.step_moves.specs.declared.program.Program as code
use Rattle.step_moves.specs.declared.sight.Sight.{Sight}
use Rattle.step_moves.specs.Programs.{program_at, all_definitions, IsWhole}
use Rattle.step_moves.specs.Sights.{seen_value}

abbrev joined : Valuation → Valuation → Valuation
joined s c x = option_or (s x) (c x)

sense_joined : (v w : Option Value) (e : Sense) → or_sense (option_or v w) e ≡ or_sense v (or_sense w e)
sense_joined (Some v) w e = refl
sense_joined None w e = refl

outside_joined : (k : Check) (c s : Valuation) → in_states no_state no_state (base k (joined s c)) ≡ in_states s no_state (base k c)
outside_joined k c s = λ i. record {
  now = λ x at. sense_joined (s x) (c x) ((base k no_state).now x at) i;
  primed = (base k c).primed;
  defs = (base k c).defs;
}

scope_joined : (k : Check) (c s : Valuation) (ds : List Definition) → scope_of k (joined s c) ds no_state no_state ≡ scope_of k c ds s no_state
scope_joined k c s ds = ap (with_definitions k ds) (outside_joined k c s)

pub seen_before : (p : code.Program) → IsWhole p → scope_of bounded (value_of p.constants.now) (definitions_at p.pool.now p.defs.now) no_state no_state ≡ common_env (program_at p) no_state
seen_before p w = ap (λ (ds : List Definition). scope_of bounded (value_of p.constants.now) ds no_state no_state) w.definitions

pub seen_in_state : (p : code.Program) (g : Sight) → IsWhole p → g.constants.now ≡ p.constants.now
    → scope_of bounded (seen_value g) (definitions_at p.pool.now p.defs.now) no_state no_state ≡ common_env (program_at p) (value_of g.variables.now)
seen_in_state p g w e =
    scope_joined bounded (value_of g.constants.now) (value_of g.variables.now) (definitions_at p.pool.now p.defs.now)
    ∙ (λ i. scope_of bounded (value_of (e i)) (w.definitions i) (value_of g.variables.now) no_state)
