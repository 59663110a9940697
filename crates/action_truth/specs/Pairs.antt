-- A pair of states in memory: what names stand for there, and what items and actions are of it.
use Rattle.std.specs.Prelude.{◌≡◌, ◌++◌, ◌∷◌, ◌&&◌, [], ℕ, List, length, take, filter, not, false, cond, Option, None, Ok, codes}
use Rattle.std.specs.Option.{option_map}
use Rattle.tla_tree.specs.Tree.{Word}
use Rattle.tla_tree.specs.Pool.{at}
use Rattle.tla_value.specs.Value.{Value, or_all}
use Rattle.tla_value.specs.Limits.{bounded}
use Rattle.tla_value.specs.Meaning.{Env}
use Rattle.tla_value.specs.Definitions.{scope_of}
use Rattle.tla_value.specs.Defs.{definitions_at}
use Rattle.tla_value.specs.States.{value_of}
use Rattle.module_tree.specs.Module.{test, unchanged, Item, Items, no_items, item, Branches, all_of, Action, Way}
use Rattle.module_tree.specs.ActionTruth.{Verdict, item_holds, items_hold, some_branch, Acts, no_acts, way_holds, action_of, acts_of}
use Rattle.module_tree.specs.ProcessPart.{called_for, cases_for, all_for}
use Rattle.module_tree.specs.Ways.{is_procedure, is_terminating, call_of, steps_of, own_steps, sets_of, processes_in}
use Rattle.eval_scopes.specs.Scopes.{with_words}
use Rattle.action_truth.specs.declared.formulas.Pair.{Pair}
use Rattle.action_truth.specs.declared.formulas.Bound.{Bound}
use Rattle.action_truth.specs.AskedOf.{IsReady, all_actions, next_ways}

-- ---- what names stand for

abbrev pub scope_at : Pair → Env
scope_at p = scope_of bounded (value_of p.asked.constants.now) (definitions_at p.asked.pool.now p.asked.defs.now) (value_of p.from.now) (value_of p.to.now)

-- with names that are bound
abbrev pub env_at : Pair → Bound → Env
env_at p b = with_words b.names.items b.values.items (scope_at p)

-- the module is ready, and there are as many values as names
pub record Stands (p : Pair) (b : Bound) : Type 0 where
  pub ready : IsReady p.asked
  pub paired : length b.names.items ≡ length b.values.items

-- the same names are bound
pub record StillBound (b c : Bound) : Type 0 where
  pub names : c.names.items ≡ b.names.items
  pub values : c.values.items ≡ b.values.items

-- one name more is bound
pub record Binds (b c : Bound) (x : Word) (v : Value) : Type 0 where
  pub names : c.names.items ≡ b.names.items ++ x ∷ []
  pub values : c.values.items ≡ b.values.items ++ v ∷ []

-- ---- what items are of the pair

abbrev pub item_in : Pair → Env → Item → Verdict
item_in p env i = item_holds bounded (value_of p.from.now) (value_of p.to.now) env i

abbrev pub items_in : Pair → Env → Items → Verdict
items_in p env is = items_hold bounded (value_of p.from.now) (value_of p.to.now) env is

abbrev pub branches_in : Pair → Env → Branches → Verdict
branches_in p env bs = some_branch bounded (value_of p.from.now) (value_of p.to.now) env bs

-- ---- what actions are of it

abbrev pub action_in : Pair → Acts → Action → Option Value → Verdict
action_in p acts a v = action_of bounded (value_of p.from.now) (value_of p.to.now) (scope_at p) acts a v

-- those of these actions
abbrev pub acts_in : Pair → List Action → Acts
acts_in p list = acts_of bounded (value_of p.from.now) (value_of p.to.now) (scope_at p) list no_acts

-- those of the first n
abbrev pub acts_at : Pair → ℕ → Acts
acts_at p n = acts_in p (take n (all_actions p.asked))

-- those of all
abbrev pub all_acts : Pair → Acts
all_acts p = acts_at p (length (all_actions p.asked))

-- Terminating, with this test
abbrev pub ending : Pair → ℕ → Action
ending p e = record {
  title = codes "Terminating";
  parameter = None;
  body = all_of (item (test (at p.asked.pool.now e)) (item (unchanged p.asked.region.now.vars) no_items));
}

-- ---- what Next says of one process

-- a disjunct that isn't Terminating
abbrev pub step_in : Env → Acts → Way → Verdict
step_in env acts y = cond (is_terminating y) (Ok false) (way_holds bounded env acts y)

-- a procedure's, for a process
abbrev pub shared_in : Acts → Value → Way → Verdict
shared_in acts v y = cond (not (is_terminating y) && is_procedure y) (called_for acts v (call_of y)) (Ok false)

abbrev pub mine_in : Pair → Value → Verdict
mine_in p v =
    or_all (cases_for bounded (scope_at p) (all_acts p) v (own_steps (next_ways p.asked)) (sets_of (processes_in (next_ways p.asked)) (option_map (at p.asked.pool.now) p.asked.region.now.process_set)))
    (all_for (all_acts p) v (filter is_procedure (steps_of (next_ways p.asked))))
