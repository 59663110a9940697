-- A module that is read back has the outside that the file had, in other lines: names are given alike, so the promise speaks of one program.
use Rattle.std.proofs.Common.{◌≡◌, List, [], ◌∷◌, ◌++◌, map, refl, sym, ◌∙◌, ap}
use Rattle.std.specs.List.{flat_map}
use Rattle.tla_tree.specs.Tree.{Word, words}
use Rattle.tla_value.specs.Outside.{Opaque, Outside, found}
use Rattle.tla_value.specs.Definitions.{Valuation}
use Rattle.module_tree.specs.Module.{Module}
use Rattle.module_tree.specs.laws.Outsides.{SameOutside, unplaced}
use Rattle.pcal_tree.specs.Algorithm.{Algorithm}
use Rattle.pcal_tree.specs.Names.{naming, naming_by, give, taken_outside, kept, wanted}
use Rattle.promise.specs.ConstantsAndStates.{program}
use Rattle.pcal_tree.specs.Programs.{program_in}
use Rattle.pcal_tree.specs.BoundNames.{all_of, lists_in}
use Rattle.tla_value.specs.Stops.{plain}

-- the names of units that are passed on, from what is kept without places
opaque_names : (us : List Opaque) → flat_map (λ (u : Opaque). u.names) us ≡ flat_map (λ (p : Word × List Word). p.1) (map unplaced us)
opaque_names [] = refl
opaque_names (u ∷ us) = ap (λ xs. u.names ++ xs) (opaque_names us)

opaque_alike : (o q : Outside) → SameOutside o q → flat_map (λ (u : Opaque). u.names) o.opaque ≡ flat_map (λ (u : Opaque). u.names) q.opaque
opaque_alike o q k = opaque_names o.opaque ∙ ap (flat_map (λ (p : Word × List Word). p.1)) k.opaque ∙ sym (opaque_names q.opaque)

taken_alike : (o q : Outside) → SameOutside o q → taken_outside o ≡ taken_outside q
taken_alike o q k =
    λ i. (k.constants i ++ (map (λ d. d.definition.title) (k.definitions i) ++ opaque_alike o q k i)) ++ flat_map (λ d. d.definition.params ++ words (all_of (lists_in d.definition.body))) (k.definitions i)

pub names_alike : (o q : Outside) (g : Algorithm) → SameOutside o q → naming g o ≡ naming g q
names_alike o q g k = λ i. naming_by (give (k.extended i) (taken_alike o q k i ++ kept g) (wanted g))

-- the program of the promise is that of the file's own outside
pub same_program : (o : Outside) (g : Algorithm) (m : Module) → SameOutside o m.outside → (values : Valuation) → program_in plain o g values ≡ program g m values
same_program o g m k values = λ i. record {
  check = plain;
  constants = values;
  outside = found (k.definitions i);
  algorithm = g;
  naming = names_alike o m.outside g k i;
}
