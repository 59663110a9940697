-- Units of a translation in memory, as the pool grows that their expressions are numbers of.
use Rattle.std.proofs.Common.{◌≡◌, ℕ, ◌≤◌, List, [], ◌∷◌, ◌++◌, length, map, Option, Some, None, refl, ap, subst, sym, arith}
use Rattle.tla_tree.specs.Tree.{Word, Tree}
use Rattle.tla_tree.specs.Pool.{at, Keeps, AllBelow}
use Rattle.tla_tree.proofs.PoolNumbers.{AllBelow-more}
use Rattle.tla_value.proofs.DefsGrown.{definition_at-kept}
use Rattle.module_tree.specs.Module as tree
use Rattle.module_write.specs.declared.«module».Call.{Call}
use Rattle.module_write.specs.declared.«module».Call.TheVariants as call
use Rattle.module_write.specs.declared.«module».Way.{Way}
use Rattle.module_write.specs.declared.«module».Way.TheVariants as way
use Rattle.module_write.specs.declared.«module».Body.{Body}
use Rattle.module_write.specs.declared.«module».Body.TheVariants as body
use Rattle.module_write.specs.declared.«module».Fairness.{Fairness}
use Rattle.module_write.specs.InMemory.{CallIn, WayIn, WaysIn, BodyIn, OverIn, MaybeIn, AllFairnessIn}
use Rattle.module_write.proofs.InMemoryGrown.{ways_at-kept, body_at-kept, fairness-kept}
use Rattle.region_made.specs.declared.unit.Unit.{Unit as Kept}
use Rattle.region_made.specs.declared.unit.Unit.TheVariants as unit
use Rattle.region_made.specs.UnitsAt.{unit_at, units_at, UnitIn, UnitsIn}

-- ---- they mean the same
module _ (ts us : List Tree) (k : Keeps ts us) where
  numbers_kept : (es : List ℕ) → AllBelow (length ts) es → map (at us) es ≡ map (at ts) es
  numbers_kept [] h = refl
  numbers_kept (e ∷ es) h = λ i. k.same e h.0 i ∷ numbers_kept es h.1 i

  unit_kept : (u : Kept) → UnitIn (length ts) u → unit_at us u ≡ unit_at ts u
  unit_kept (unit.Constant xs) h = refl
  unit_kept (unit.Variables xs) h = refl
  unit_kept (unit.Definition d) h = ap tree.definition_unit (definition_at-kept ts us d k h)
  unit_kept (unit.Vars xs) h = refl
  unit_kept (unit.ProcessSet e) h = ap tree.process_set_unit (k.same e h)
  unit_kept (unit.Init es) h = ap tree.init_unit (numbers_kept es.items h)
  unit_kept (unit.Action a) h = ap (λ (b : tree.Body). tree.action_unit (record { title = a.title; parameter = a.parameter; body = b })) (body_at-kept ts us k a.body h)
  unit_kept (unit.Terminating e) h = ap tree.terminating_unit (k.same e h)
  unit_kept (unit.Next ys) h = ap tree.next_unit (ways_at-kept ts us k ys.items h)
  unit_kept (unit.Spec fs) h = ap tree.spec_unit (fairness-kept ts us k fs.items h)
  unit_kept (unit.Termination e) h = ap tree.termination_unit (k.same e h)

  pub units_kept : (all : List Kept) → UnitsIn (length ts) all → units_at us all ≡ units_at ts all
  units_kept [] h = refl
  units_kept (u ∷ all) h = λ i. unit_kept u h.0 i ∷ units_kept all h.1 i

-- ---- their numbers are below a greater one
module _ (m n : ℕ) (le : m ≤ n) where
  call_more : (c : Call) → CallIn m c → CallIn n c
  call_more (call.Bare a) h = tt
  call_more (call.With a e) h = omega (arith, h, le)

  way_more : (y : Way) → WayIn m y → WayIn n y
  way_more (way.One c) h = call_more c h
  way_more (way.Among x s c) h = (omega (arith, h.0, le), call_more c h.1)

  ways_more : (ys : List Way) → WaysIn m ys → WaysIn n ys
  ways_more [] h = tt
  ways_more (y ∷ ys) h = (way_more y h.0, ways_more ys h.1)

  body_more : (b : Body) → BodyIn m b → BodyIn n b
  body_more (body.All is) h = omega (arith, h, le)
  body_more (body.Any ys) h = ways_more ys.items h

  over_more : (o : Option (Word × ℕ)) → OverIn m o → OverIn n o
  over_more None h = tt
  over_more (Some (x, s)) h = omega (arith, h, le)

  maybe_more : (o : Option ℕ) → MaybeIn m o → MaybeIn n o
  maybe_more None h = tt
  maybe_more (Some e) h = omega (arith, h, le)

  fairness_more : (fs : List Fairness) → AllFairnessIn m fs → AllFairnessIn n fs
  fairness_more [] h = tt
  fairness_more (f ∷ fs) h = (record { over = over_more f.over h.0.over; guard = maybe_more f.guard h.0.guard; action = call_more f.action h.0.action }, fairness_more fs h.1)

  unit_more : (u : Kept) → UnitIn m u → UnitIn n u
  unit_more (unit.Constant xs) h = tt
  unit_more (unit.Variables xs) h = tt
  unit_more (unit.Definition d) h = omega (arith, h, le)
  unit_more (unit.Vars xs) h = tt
  unit_more (unit.ProcessSet e) h = omega (arith, h, le)
  unit_more (unit.Init es) h = AllBelow-more m n es.items le h
  unit_more (unit.Action a) h = body_more a.body h
  unit_more (unit.Terminating e) h = omega (arith, h, le)
  unit_more (unit.Next ys) h = ways_more ys.items h
  unit_more (unit.Spec fs) h = fairness_more fs.items h
  unit_more (unit.Termination e) h = omega (arith, h, le)

  -- with one more behind them
  units_pushed : (all : List Kept) (u : Kept) → UnitsIn m all → UnitIn n u → UnitsIn n (all ++ u ∷ [])
  units_pushed [] u h g = (g, tt)
  units_pushed (v ∷ all) u h g = (unit_more v h.0, units_pushed all u h.1 g)

  pub units_within : (all new : List Kept) (u : Kept) → new ≡ all ++ u ∷ [] → UnitsIn m all → UnitIn n u → UnitsIn n new
  units_within all new u e h g = subst (UnitsIn n) (sym e) (units_pushed all u h g)
