-- What is asked of a module in memory is what the module says.
use Rattle.std.proofs.Common.{◌≡◌, ◌++◌, List, [], length, map, take, filter, Some, None, ap, ◌∙◌, arith}
use Rattle.std.proofs.lemmas.List.{take_all}
use Rattle.std.specs.Option.{option_map}
use Rattle.tla_tree.specs.Pool.{at}
use Rattle.tla_value.specs.Value.{Value, or_all}
use Rattle.tla_value.specs.Limits.{bounded}
use Rattle.tla_value.specs.Definitions.{scope_of}
use Rattle.tla_value.specs.States.{value_of}
use Rattle.module_tree.specs.Module as tree
use Rattle.module_tree.specs.Module.{Module}
use Rattle.module_tree.specs.ModuleTruth.{terminating, next_holds, all_hold, init_holds}
use Rattle.module_tree.specs.ActionTruth.{no_acts, acts_of, some_way_holds}
use Rattle.module_tree.specs.ProcessPart.{cases_for, all_for, mine_holds}
use Rattle.module_tree.specs.Ways.{is_procedure, steps_of, own_steps, processes_in, sets_of}
use Rattle.action_truth.specs.declared.formulas.Pair.{Pair}
use Rattle.action_truth.specs.AskedOf.{IsAsked, all_actions, next_ways}
use Rattle.action_truth.specs.Pairs.{scope_at, acts_in, all_acts, mine_in}

module _ (p : Pair) (m : Module) (h : IsAsked p.asked m) where
  all_of_them : take (length (all_actions p.asked)) (all_actions p.asked) ≡ all_actions p.asked
  all_of_them = take_all (length (all_actions p.asked)) (all_actions p.asked) (omega arith)

  pub next_is : some_way_holds bounded (scope_at p) (all_acts p) (next_ways p.asked) ≡ next_holds bounded m (value_of p.asked.constants.now) (value_of p.from.now) (value_of p.to.now)
  next_is =
      let s = value_of p.from.now in
      let t = value_of p.to.now in
      ap (λ (l : List tree.Action). some_way_holds bounded (scope_at p) (acts_in p l) (next_ways p.asked)) all_of_them
      ∙ (λ i.
      let r = h.region i in
      let env = scope_of bounded (value_of p.asked.constants.now) (h.definitions i) s t in
      some_way_holds bounded env (acts_of bounded s t env (r.actions ++ terminating r.vars r.ended) no_acts) r.next)

  pub steps_are : some_way_holds bounded (scope_at p) (all_acts p) (steps_of (next_ways p.asked)) ≡ mine_holds bounded m (value_of p.asked.constants.now) (value_of p.from.now) (value_of p.to.now) None
  steps_are =
      let s = value_of p.from.now in
      let t = value_of p.to.now in
      ap (λ (l : List tree.Action). some_way_holds bounded (scope_at p) (acts_in p l) (steps_of (next_ways p.asked))) all_of_them
      ∙ (λ i.
      let r = h.region i in
      let env = scope_of bounded (value_of p.asked.constants.now) (h.definitions i) s t in
      some_way_holds bounded env (acts_of bounded s t env (r.actions ++ terminating r.vars r.ended) no_acts) (steps_of r.next))

  pub mine_is : (v : Value) → mine_in p v ≡ mine_holds bounded m (value_of p.asked.constants.now) (value_of p.from.now) (value_of p.to.now) (Some v)
  mine_is v =
      let s = value_of p.from.now in
      let t = value_of p.to.now in
      ap (λ (l : List tree.Action). or_all (cases_for bounded (scope_at p) (acts_in p l) v (own_steps (next_ways p.asked)) (sets_of (processes_in (next_ways p.asked)) (option_map (at p.asked.pool.now) p.asked.region.now.process_set))) (all_for (acts_in p l) v (filter is_procedure (steps_of (next_ways p.asked))))) all_of_them
      ∙ (λ i.
      let r = h.region i in
      let env = scope_of bounded (value_of p.asked.constants.now) (h.definitions i) s t in
      let acts = acts_of bounded s t env (r.actions ++ terminating r.vars r.ended) no_acts in
      or_all (cases_for bounded env acts v (own_steps r.next) (sets_of (processes_in r.next) r.process_set)) (all_for acts v (filter is_procedure (steps_of r.next))))

  -- a state, with no next one
  pub init_is : p.to.now ≡ [] → all_hold bounded (scope_at p) (map (at p.asked.pool.now) p.asked.region.now.init.items) ≡ init_holds bounded m (value_of p.asked.constants.now) (value_of p.from.now)
  init_is e =
      (λ i. all_hold bounded (scope_of bounded (value_of p.asked.constants.now) (h.definitions i) (value_of p.from.now) (value_of (e i))) (h.region i).init)
