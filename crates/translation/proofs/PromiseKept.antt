-- From the region of g with its own places to the module that is read back: the last step of the promise.
use Rattle.std.proofs.Common.{◌≡◌, ◌↔◌, Bool, sym, ◌∙◌, subst}
use Rattle.std.specs.Bool.{IsTrue}
use Rattle.std.specs.Prelude.{◌∷◌, codes, is_some, false}
use Rattle.tla_token.specs.Signs.{is_among}
use Rattle.tla_tree.specs.Tree.{Each}
use Rattle.tla_value.specs.Value.{Trouble, IsBad, TrueExactly}
use Rattle.tla_value.specs.Stops.{plain}
use Rattle.tla_value.specs.Definitions.{Valuation, no_state}
use Rattle.tla_value.specs.Outside.{Outside}
use Rattle.tla_value.specs.laws.Places.{AgreeButPlaces}
use Rattle.module_tree.specs.Module.{Region, Module}
use Rattle.module_tree.specs.ModuleTruth.{next_holds, init_holds}
use Rattle.module_tree.specs.laws.Outsides.{SameOutside}
use Rattle.module_tree.specs.laws.PlacelessRegion.{region_placeless}
use Rattle.pcal_tree.specs.Algorithm.{Algorithm}
use Rattle.pcal_tree.specs.Faults.{Sound, Troubled}
use Rattle.pcal_tree.specs.InitialStates.{Initial, InitFault}
use Rattle.pcal_tree.specs.Processes.{IsActor, Proper}
use Rattle.pcal_tree.specs.Program.{Program, Actor}
use Rattle.pcal_tree.specs.Scope.{State}
use Rattle.action_builder.specs.WrittenNames.{with_names}
use Rattle.promise.specs.ConstantsAndStates.{program, AreConstants, IsState}
use Rattle.promise.specs.NextAndInit.{Moves, NextIs, InitIs}
use Rattle.pcal_tree.specs.Programs.{program_in}
use Rattle.translation.specs.Region.{region_of, written_region}
use Rattle.translation.specs.laws.AcceptedLaws.{NextOfRegionLaw, InitOfRegionLaw, RegionPlaced, PromiseKept, FaultsAgree, FaultsAre}
use Rattle.module_tree.proofs.Tells.{tells_placeless}
use Rattle.module_tree.proofs.ModulePlaces.{truth_but_places}
use Rattle.translation.proofs.CanonicalFaults.{bad_alike}
use Rattle.translation.proofs.SameProgram.{same_program}
use Rattle.pcal_tree.specs.Variables.{on_variables}

module _ (o : Outside) (m : Module) (same : SameOutside o m.outside) where
  turned : SameOutside m.outside o
  turned = record { extended = sym same.extended; constants = sym same.constants; definitions = sym same.definitions; opaque = sym same.opaque }

  pub constants_alike : (r : Region) (values : Valuation) → AreConstants m values → AreConstants (record { title = m.title; outside = o; region = r }) values
  constants_alike r values k = record {
    unset = k.unset;
    given = subst (λ xs. Each (λ x. IsTrue (is_some (values x))) xs) (sym same.constants) k.given;
    no_other = λ x h. k.no_other x (subst (λ xs. is_among (codes "defaultInitValue" ∷ xs) x ≡ false) same.constants h);
    canonical = k.canonical;
  }

module _ (Accepted : Outside → Algorithm → Type 0) (placed : RegionPlaced) (b : Bool) (o : Outside) (g : Algorithm) (m : Module) (accepted : Accepted o g) (same : SameOutside o m.outside) (e : region_placeless m.region ≡ region_placeless (written_region b o g)) where
  abbrev first : Module
  first = record { title = m.title; outside = o; region = region_of b (with_names o g) }

  regions : region_placeless m.region ≡ region_placeless first.region
  regions = e ∙ sym (placed b o g)

  -- Next of both has one truth, or troubles of one kind
  next_alike : (values : Valuation) (s t : Valuation) → AgreeButPlaces (next_holds plain m values s t) (next_holds plain first values s t)
  next_alike values s t = (truth_but_places m first regions (turned o m same) values s t).0

  next_kept : NextOfRegionLaw Accepted → NextIs b g m
  next_kept next_law values s t k is it sound =
      let q : program_in plain o g values ≡ program g m values = same_program o g m same values in
      subst (λ (P : Program). TrueExactly (next_holds plain m values (on_variables P s) (on_variables P t)) (Moves b P s t)) q
      (tells_placeless _ _ _ (next_alike values (on_variables (program_in plain o g values) s) (on_variables (program_in plain o g values) t))
      (next_law b m.title o g accepted values s t (constants_alike o m same first.region values k) (subst (λ (P : Program). IsState P s) (sym q) is) (subst (λ (P : Program). IsState P t) (sym q) it) (subst (λ (P : Program). Sound P s) (sym q) sound)))

  init_kept : InitOfRegionLaw Accepted → InitIs g m
  init_kept init_law values s k is proper fine =
      let q : program_in plain o g values ≡ program g m values = same_program o g m same values in
      subst (λ (P : Program). TrueExactly (init_holds plain m values (on_variables P s)) (Initial P s)) q
      (tells_placeless _ _ _ ((truth_but_places m first regions (turned o m same) values (on_variables (program_in plain o g values) s) no_state).1)
      (init_law b m.title o g accepted values s (constants_alike o m same first.region values k) (subst (λ (P : Program). IsState P s) (sym q) is) (subst Proper (sym q) proper)
      (λ kind at h. fine kind at (subst (λ (P : Program). InitFault P s kind at) q h))))

  pub faults_kept : FaultsAgree Accepted → FaultsAre g m
  faults_kept faults_law values s k is proper =
      let q : program_in plain o g values ≡ program g m values = same_program o g m same values in
      let agree = faults_law b m.title o g accepted values s (constants_alike o m same first.region values k) (subst (λ (P : Program). IsState P s) (sym q) is) (subst Proper (sym q) proper) in
      subst (λ (P : Program). ((v : Actor) × (j : Trouble) × IsActor P v × Troubled P s v j) ↔ ((t : State) × IsState P t × IsBad (next_holds plain m values (on_variables P s) (on_variables P t)))) q (
        λ x. (let y = agree.0 x in (y.0, y.1, (bad_alike _ _ (next_alike values _ _)).1 y.2)),
        λ y. agree.1 (y.0, y.1, (bad_alike _ _ (next_alike values _ _)).0 y.2),
      )

pub promise_kept : (Accepted : Outside → Algorithm → Type 0) → NextOfRegionLaw Accepted → InitOfRegionLaw Accepted → RegionPlaced → PromiseKept Accepted
promise_kept Accepted next_law init_law placed b o g m accepted same e = (next_kept Accepted placed b o g m accepted same e next_law, init_kept Accepted placed b o g m accepted same e init_law)
