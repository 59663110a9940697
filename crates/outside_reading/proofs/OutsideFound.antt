-- What a file has outside is what units that are read so have.
use Rattle.std.proofs.Common.{◌≡◌, Bool, true, false, List, [], ◌∷◌, ◌++◌, Option, Some, None, refl, sym, ◌∙◌, append-nil, append_assoc}
use Rattle.std.specs.List.{flat_map}
use Rattle.std.specs.Prelude.{unwrap_or}
use Rattle.std.proofs.lemmas.Grind.{flat_map-append}
use Rattle.tla_tree.specs.Tree.{Name, words}
use Rattle.tla_tree.specs.Lexical.{Token}
use Rattle.tla_value.specs.Outside.{ReadDefinition, Opaque}
use Rattle.module_tree.specs.Module.{OutsideUnit, modules_of, constants_of, definitions_of, unread_of, outside_of}
use Rattle.module_tree.specs.Walk.{Located}
use Rattle.module_tree.specs.FileParts.{before_spot, after_spot}
use Rattle.module_tree.specs.FileUnits as file
use Rattle.module_tree.specs.Outside.{Sight}
use Rattle.module_tree.specs.laws.Outsides.{HasOutside}
use Rattle.module_tree.proofs.OutsideUnits.{units_read}
use Rattle.module_tree.proofs.ReadOutside.{units_are}
use Rattle.outside_reading.specs.PlainUnits.{modules_in, constants_in, extends_or, defined_before, unit_in, units_in, seen_behind, constants_of_unit, all_modules, all_constants, sight_of_units, outside_in}
use Rattle.outside_reading.proofs.PlainRead.{units_same}

-- ---- what is declared rests on no sight

modules_there : (ts : List Token) (ms xs : Option (List Name)) (d : Option ReadDefinition) → modules_of (extends_or ms xs d ts) ≡ unwrap_or ms []
modules_there ts (Some ms) xs d = refl
modules_there ts None (Some xs) d = refl
modules_there ts None None (Some d) = refl
modules_there ts None None None = refl

constants_there : (ts : List Token) (ms xs : Option (List Name)) (d : Option ReadDefinition) → constants_of (extends_or ms xs d ts) ≡ constants_of_unit ms xs
constants_there ts (Some ms) xs d = refl
constants_there ts None (Some xs) d = refl
constants_there ts None None (Some d) = refl
constants_there ts None None None = refl

modules_kept : (b : Bool) (v : Sight) (tss : List (List Token)) → flat_map modules_of (units_in b v tss) ≡ all_modules tss
modules_kept b v [] = refl
modules_kept b v (ts ∷ tss) = λ i. modules_there ts (modules_in ts) (constants_in ts) (defined_before b v ts) i ++ modules_kept b (seen_behind v (unit_in b v ts)) tss i

constants_kept : (b : Bool) (v : Sight) (tss : List (List Token)) → flat_map constants_of (units_in b v tss) ≡ all_constants tss
constants_kept b v [] = refl
constants_kept b v (ts ∷ tss) = λ i. constants_there ts (modules_in ts) (constants_in ts) (defined_before b v ts) i ++ constants_kept b (seen_behind v (unit_in b v ts)) tss i

-- none is defined after the translation
defined_none : (ts : List Token) (ms xs : Option (List Name)) → definitions_of (extends_or ms xs None ts) ≡ []
defined_none ts (Some ms) xs = refl
defined_none ts None (Some xs) = refl
defined_none ts None None = refl

none_defined : (v : Sight) (tss : List (List Token)) → flat_map definitions_of (units_in false v tss) ≡ []
none_defined v [] = refl
none_defined v (ts ∷ tss) = λ i. defined_none ts (modules_in ts) (constants_in ts) i ++ none_defined (seen_behind v (unit_in false v ts)) tss i

-- ---- all units

joined_of : {A : Type 0} (f : OutsideUnit → List A) (us xs : List OutsideUnit) (ys zs : List A) → flat_map f us ≡ ys → flat_map f xs ≡ zs → ys ++ zs ≡ flat_map f (us ++ xs)
joined_of f us xs ys zs h k = (λ i. sym h i ++ sym k i) ∙ sym (flat_map-append f us xs)

module _ (front back : List (List Token)) where
  abbrev seen : Sight
  seen = sight_of_units (front ++ back)

  abbrev before : List OutsideUnit
  before = units_in true seen front

  abbrev after : List OutsideUnit
  after = units_in false seen back

  outside_is : outside_in front back ≡ outside_of (before ++ after)
  outside_is =
      let modules : all_modules (front ++ back) ≡ flat_map modules_of (before ++ after) =
      flat_map-append (λ (ts : List Token). unwrap_or (modules_in ts) []) front back
      ∙ joined_of modules_of before after (all_modules front) (all_modules back) (modules_kept true seen front) (modules_kept false seen back) in
      let constants : all_constants (front ++ back) ≡ flat_map constants_of (before ++ after) =
      flat_map-append (λ (ts : List Token). constants_of_unit (modules_in ts) (constants_in ts)) front back
      ∙ joined_of constants_of before after (all_constants front) (all_constants back) (constants_kept true seen front) (constants_kept false seen back) in
      let definitions : flat_map definitions_of before ≡ flat_map definitions_of (before ++ after) =
      sym (append-nil (flat_map definitions_of before)) ∙ joined_of definitions_of before after (flat_map definitions_of before) [] refl (none_defined seen back) in
      let unread : flat_map unread_of before ++ flat_map unread_of after ≡ flat_map unread_of (before ++ after) = sym (flat_map-append unread_of before after) in
      λ i. record { extended = words (modules i); constants = constants i; definitions = definitions i; opaque = unread i }

-- so the file has that outside
pub found_outside : (ds : List Located) → HasOutside ds (outside_in (file.units_in (before_spot ds)).units (file.units_in (after_spot ds)).units)
found_outside ds =
    let front = (file.units_in (before_spot ds)).units in
    let back = (file.units_in (after_spot ds)).units in
    let v = sight_of_units (front ++ back) in
    record {
      before = units_read true v front;
      are_before = units_are true v front;
      after = units_read false v back;
      are_after = units_are false v back;
      is = outside_is front back ∙ (λ i. outside_of (sym (units_same true v front) i ++ sym (units_same false v back) i));
    }

-- ---- unit by unit

-- what was found, with what is found in the units ahead
pub record Ahead (b : Bool) (first : Sight) (all : List (List Token)) (ds : List ReadDefinition) (os : List Opaque) (v : Sight) (tss : List (List Token)) : Type 0 where
  pub definitions : ds ++ flat_map definitions_of (units_in b v tss) ≡ flat_map definitions_of (units_in b first all)
  pub opaque : os ++ flat_map unread_of (units_in b v tss) ≡ flat_map unread_of (units_in b first all)

pub none_found : (b : Bool) (v : Sight) (tss : List (List Token)) → Ahead b v tss [] [] v tss
none_found b v tss = record { definitions = refl; opaque = refl }

pub one_found : (b : Bool) (first : Sight) (all : List (List Token)) (ds : List ReadDefinition) (os : List Opaque) (v : Sight) (ts : List Token) (tss : List (List Token))
    → Ahead b first all ds os v (ts ∷ tss) → Ahead b first all (ds ++ definitions_of (unit_in b v ts)) (os ++ unread_of (unit_in b v ts)) (seen_behind v (unit_in b v ts)) tss
one_found b first all ds os v ts tss h =
    let u = unit_in b v ts in
    let us = units_in b (seen_behind v u) tss in
    record {
      definitions = append_assoc ds (definitions_of u) (flat_map definitions_of us) ∙ h.definitions;
      opaque = append_assoc os (unread_of u) (flat_map unread_of us) ∙ h.opaque;
    }

pub all_found : (b : Bool) (first : Sight) (all : List (List Token)) (ds : List ReadDefinition) (os : List Opaque) (v : Sight)
    → Ahead b first all ds os v [] → (ds ≡ flat_map definitions_of (units_in b first all)) × (os ≡ flat_map unread_of (units_in b first all))
all_found b first all ds os v h = (sym (append-nil ds) ∙ h.definitions, sym (append-nil os) ∙ h.opaque)
