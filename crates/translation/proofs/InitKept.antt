-- Init of each module that a translated file is read as is true exactly of the initial states of the algorithm in the file, where no initial value faults.
use Rattle.std.proofs.Common.{◌≡◌, ◌∷◌, Bool, false, codes, length, ◌<◌, sym, ◌∙◌, subst}
use Rattle.std.specs.Bool.{IsTrue}
use Rattle.std.specs.Prelude.{is_some}
use Rattle.tla_token.specs.Limits.{past_text}
use Rattle.tla_token.specs.Signs.{is_among}
use Rattle.tla_tree.specs.Tree.{Each}
use Rattle.tla_value.specs.Value.{TrueExactly}
use Rattle.tla_value.specs.Stops.{plain}
use Rattle.tla_value.specs.Definitions.{Valuation, no_state}
use Rattle.tla_value.specs.Outside.{Outside}
use Rattle.module_tree.specs.Layout.{layout}
use Rattle.module_tree.specs.Module.{Region, Module}
use Rattle.module_tree.specs.ModuleTruth.{init_holds}
use Rattle.module_tree.specs.Reading.{Reads}
use Rattle.module_tree.specs.TextFront.{Text}
use Rattle.module_tree.specs.Walk.{walk}
use Rattle.module_tree.specs.WithTranslation.{WithTranslation}
use Rattle.module_tree.specs.laws.Kept.{IsFine}
use Rattle.module_tree.specs.laws.Outsides.{HasOutside, SameOutside, IsModuleOf}
use Rattle.module_tree.specs.laws.PlacelessRegion.{region_placeless}
use Rattle.module_tree.proofs.ModulePlaces.{truth_but_places}
use Rattle.module_tree.proofs.Tells.{tells_placeless}
use Rattle.module_tree.proofs.WrittenRegion.{written_file}
use Rattle.pcal_tree.specs.Algorithm.{Algorithm}
use Rattle.pcal_tree.specs.InitialStates.{Initial, InitFault}
use Rattle.pcal_tree.specs.Processes.{Proper}
use Rattle.pcal_tree.specs.Program.{Program}
use Rattle.pcal_tree.specs.Programs.{program_in}
use Rattle.pcal_tree.specs.Variables.{on_variables}
use Rattle.action_builder.specs.WrittenNames.{with_names}
use Rattle.promise.specs.ConstantsAndStates.{program, AreConstants, IsState}
use Rattle.promise.specs.NextAndInit.{InitIs}
use Rattle.translation.specs.Region.{region_of, written_region}
use Rattle.translation.specs.laws.AcceptedAlgorithm.{IsAccepted, IsAcceptedInFile}
use Rattle.translation.proofs.AcceptedAlgorithms.{text_writable}
use Rattle.translation.proofs.InitOfRegion.{init_of_region_law}
use Rattle.translation.proofs.RegionPlaced.{region_placed}
use Rattle.translation.proofs.SameProgram.{same_program}
use Rattle.translation.proofs.WritableRegions.{written_is_region}

module _ (b : Bool) (o : Outside) (g : Algorithm) (m : Module) (accepted : IsAcceptedInFile o g) (same : SameOutside o m.outside) (e : region_placeless m.region ≡ region_placeless (written_region b o g)) where
  -- that of the algorithm with its own places
  abbrev first : Module
  first = record { title = m.title; outside = o; region = region_of b (with_names o g) }

  turned : SameOutside m.outside o
  turned = record { extended = sym same.extended; constants = sym same.constants; definitions = sym same.definitions; opaque = sym same.opaque }

  constants_alike : (values : Valuation) → AreConstants m values → AreConstants first values
  constants_alike values k = record {
    unset = k.unset;
    given = subst (λ xs. Each (λ x. IsTrue (is_some (values x))) xs) (sym same.constants) k.given;
    no_other = λ x h. k.no_other x (subst (λ xs. is_among (codes "defaultInitValue" ∷ xs) x ≡ false) same.constants h);
    canonical = k.canonical;
  }

  -- places aside it has this region, and the outside in other lines
  pub init_kept : InitIs g m
  init_kept values s k is proper fine =
      let q : program_in plain o g values ≡ program g m values = same_program o g m same values in
      subst (λ (P : Program). TrueExactly (init_holds plain m values (on_variables P s)) (Initial P s)) q
      (tells_placeless _ _ _ ((truth_but_places m first (e ∙ sym (region_placed b o g)) turned values (on_variables (program_in plain o g values) s) no_state).1)
      (init_of_region_law b m.title o g accepted values s (constants_alike values k) (subst (λ (P : Program). IsState P s) (sym q) is) (subst Proper (sym q) proper)
      (λ kind at h. fine kind at (subst (λ (P : Program). InitFault P s kind at) q h))))

-- of a file with its translation
pub init_of_files : (b : Bool) (x w : Text) (o : Outside) (g : Algorithm) → IsAccepted o g → length x < past_text → IsFine x → HasOutside (walk x) o → WithTranslation x (layout (written_region b o g)) w
    → (m : Module) → Reads w m → InitIs g m
init_of_files b x w o g h short fine out t m reads =
    let k = written_file x w o (written_region b o g) (written_is_region b o g (text_writable x o g h short out)) fine out t in
    init_kept b o g m (record { file = x; accepted = h; short = short; outside = out }) (subst (λ (n : Module). SameOutside o n.outside) (sym (k.only m reads)) k.is.outside)
    (subst (λ (n : Module). region_placeless n.region ≡ region_placeless (written_region b o g)) (sym (k.only m reads)) (same_region k.is k.same))
  where
    same_region : {z : Region} (i : IsModuleOf x w o z) → region_placeless z ≡ region_placeless (written_region b o g) → region_placeless i.written.region ≡ region_placeless (written_region b o g)
    same_region i q = subst (λ (y : Region). region_placeless y ≡ region_placeless (written_region b o g)) (sym i.region) q
