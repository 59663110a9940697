-- Numbers of a translation that are below a bound are below a greater one.
use Rattle.std.proofs.Common.{ℕ, ◌≤◌, List, [], ◌∷◌, Option, Some, None, arith}
use Rattle.tla_tree.specs.Tree.{Word}
use Rattle.tla_tree.proofs.PoolNumbers.{AllBelow-more}
use Rattle.tla_value.proofs.DefsGrown.{DefinitionsIn-more}
use Rattle.module_write.specs.declared.«module».Call.{Call}
use Rattle.module_write.specs.declared.«module».Call.TheVariants as call
use Rattle.module_write.specs.declared.«module».Way.{Way}
use Rattle.module_write.specs.declared.«module».Way.TheVariants as way
use Rattle.module_write.specs.declared.«module».Body.{Body}
use Rattle.module_write.specs.declared.«module».Body.TheVariants as body
use Rattle.module_write.specs.declared.«module».Action.{Action}
use Rattle.module_write.specs.declared.«module».Fairness.{Fairness}
use Rattle.module_write.specs.declared.«module».Region.{Region}
use Rattle.module_write.specs.InMemory.{CallIn, WayIn, WaysIn, BodyIn, ActionsIn, OverIn, MaybeIn, AllFairnessIn, RegionIn}

module _ (m n : ℕ) (le : m ≤ n) where
  call_more : (c : Call) → CallIn m c → CallIn n c
  call_more (call.Bare a) h = tt
  call_more (call.With a e) h = omega (arith, h, le)

  way_more : (y : Way) → WayIn m y → WayIn n y
  way_more (way.One c) h = call_more c h
  way_more (way.Among x s c) h = (omega (arith, h.0, le), call_more c h.1)

  ways_more : (ys : List Way) → WaysIn m ys → WaysIn n ys
  ways_more [] h = tt
  ways_more (y ∷ ys) h = (way_more y h.0, ways_more ys h.1)

  body_more : (b : Body) → BodyIn m b → BodyIn n b
  body_more (body.All is) h = omega (arith, h, le)
  body_more (body.Any ys) h = ways_more ys.items h

  actions_more : (acts : List Action) → ActionsIn m acts → ActionsIn n acts
  actions_more [] h = tt
  actions_more (a ∷ acts) h = (body_more a.body h.0, actions_more acts h.1)

  over_more : (o : Option (Word × ℕ)) → OverIn m o → OverIn n o
  over_more None h = tt
  over_more (Some (x, s)) h = omega (arith, h, le)

  maybe_more : (o : Option ℕ) → MaybeIn m o → MaybeIn n o
  maybe_more None h = tt
  maybe_more (Some e) h = omega (arith, h, le)

  fairness_more : (fs : List Fairness) → AllFairnessIn m fs → AllFairnessIn n fs
  fairness_more [] h = tt
  fairness_more (f ∷ fs) h = (record { over = over_more f.over h.0.over; guard = maybe_more f.guard h.0.guard; action = call_more f.action h.0.action }, fairness_more fs h.1)

  pub region_more : (r : Region) → RegionIn m r → RegionIn n r
  region_more r h = record {
    definitions = DefinitionsIn-more m n r.definitions le h.definitions;
    process_set = maybe_more r.process_set h.process_set;
    init = AllBelow-more m n r.init.items le h.init;
    actions = actions_more r.actions.items h.actions;
    ended = maybe_more r.ended h.ended;
    next = ways_more r.next.items h.next;
    fairness = fairness_more r.fairness.items h.fairness;
    termination = omega (arith, h.termination, le);
  }
