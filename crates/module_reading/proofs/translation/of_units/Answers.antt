-- The translation of units, if it may stand in a module.
use Rattle.std.proofs.Common.{length, Option, Some, sym, ap, ◌∙◌, subst}
use Rattle.std.specs.Option.{option_map, IfSome}
use Rattle.std.specs.Result.{IfErr}
use Rattle.std.proofs.lemmas.Result.{IfOk-weaker}
use Rattle.tla_token.specs.declared.rule.Stop.{Stop}
use Rattle.module_tree.specs.Module as tree
use Rattle.module_write.specs.declared.«module».Region.{Region}
use Rattle.module_write.specs.InMemory.{region_at, RegionIn}
use Rattle.region_reading.specs.RegionReader.{region_in}
use Rattle.region_made.specs.UnitsAt.{units_at}
use Rattle.module_reading.specs.Translated.{NoneFit}
use Rattle.module_reading.proofs.Fitness.{no_region}
use Rattle.module_reading.proofs.translation.of_units.Goals as goal

pub if_fit-requires : goal.if_fit-requires
if_fit-requires c =
    let n = length c.args.pool.now in
    subst (λ (o : Option Region). IfSome o (RegionIn n)) c.in-Some.is (c.in_ok-region.ensures.within n c.requires)

pub returns-in-Some-clause-read : goal.returns-in-Some-clause-read
returns-in-Some-clause-read c =
    let ts = c.args.pool.now in
    let made = sym (c.in_ok-region.ensures.region ts) ∙ ap (option_map (region_at ts)) c.in-Some.is in
    IfOk-weaker c.if_fit.result _ _ (λ r e. made ∙ ap (λ (g : Region). Some (region_at ts g)) (sym e)) c.if_fit.ensures.same

pub returns-in-Some-clause-none : goal.returns-in-Some-clause-none
returns-in-Some-clause-none c =
    let ts = c.args.pool.now in
    let made = sym (c.in_ok-region.ensures.region ts) ∙ ap (option_map (region_at ts)) c.in-Some.is in
    subst (λ (o : Option tree.Region). IfErr c.if_fit.result (λ (e : Stop). NoneFit o o e)) (sym made) c.if_fit.ensures.none

pub returns-in-None-clause-none : goal.returns-in-None-clause-none
returns-in-None-clause-none c =
    let ts = c.args.pool.now in
    let o = region_in (units_at ts c.args.list.items) in
    subst (λ (e : Stop). NoneFit o o e) (sym c.refused.ensures) (no_region o (sym (c.in_ok-region.ensures.region ts) ∙ ap (option_map (region_at ts)) c.in-None.is))
