-- Each file has one outside: its units are read where the modules and constants of all of them are seen, and these are told without any sight.
use Rattle.std.proofs.Common.{◌≡◌, true, false, List, ◌++◌, [], refl, sym, ap, subst, ◌∙◌}
use Rattle.tla_tree.specs.Tree.{words}
use Rattle.tla_tree.specs.Lexical.{Token}
use Rattle.tla_value.specs.Outside.{Outside}
use Rattle.module_tree.specs.Module.{OutsideUnit, modules_of, constants_of, outside_of}
use Rattle.module_tree.specs.Walk.{Located}
use Rattle.module_tree.specs.FileParts.{before_spot, after_spot}
use Rattle.module_tree.specs.FileUnits.{units_in}
use Rattle.module_tree.specs.Outside.{Sight, AllOutside}
use Rattle.module_tree.specs.Reading.{sight_in}
use Rattle.module_tree.specs.laws.Outsides.{HasOutside}
use Rattle.module_tree.proofs.OneOutside.{all_declared}
use Rattle.module_tree.proofs.OneModule.{sight_of, alone, Both, same_outside}
use Rattle.module_tree.proofs.OutsideUnits.{units_read}
use Rattle.module_tree.proofs.ReadOutside.{units_are}

-- where nothing is seen, modules and constants are told already
abbrev no_sight : Sight
no_sight = record { modules = []; constants = []; earlier = [] }

abbrev seen_by_all : List (List Token) → List (List Token) → Sight
seen_by_all front back = sight_of (units_read true no_sight front ++ units_read false no_sight back)

abbrev before_read : List (List Token) → List (List Token) → List OutsideUnit
before_read front back = units_read true (seen_by_all front back) front

abbrev after_read : List (List Token) → List (List Token) → List OutsideUnit
after_read front back = units_read false (seen_by_all front back) back

both_read : (front back : List (List Token)) → Both front back (before_read front back) (after_read front back)
both_read front back =
    let v = seen_by_all front back in
    let us = before_read front back in
    let xs = after_read front back in
    let h = units_are true v front in
    let k = units_are false v back in
    let after = all_declared false v no_sight back xs (units_read false no_sight back) k (units_are false no_sight back) [] [] refl refl in
    let all = all_declared true v no_sight front us (units_read true no_sight front) h (units_are true no_sight front) xs (units_read false no_sight back)
    (alone modules_of xs (units_read false no_sight back) after.0) (alone constants_of xs (units_read false no_sight back) after.1) in
    let sights : sight_of (us ++ xs) ≡ v = λ i. record { modules = words (all.0 i); constants = words (all.1 i); earlier = [] } in
    record {
      before = subst (λ (v : Sight). AllOutside true v front us) (sym sights) h;
      after = subst (λ (v : Sight). AllOutside false v back xs) (sym sights) k;
    }

-- what a text with these segments has outside its translation
abbrev pub outside_read : List Located → Outside
outside_read ds =
    let front = (units_in (before_spot ds)).units in
    let back = (units_in (after_spot ds)).units in
    outside_of (before_read front back ++ after_read front back)

pub has_outside : (ds : List Located) → HasOutside ds (outside_read ds)
has_outside ds =
    let front = (units_in (before_spot ds)).units in
    let back = (units_in (after_spot ds)).units in
    let w = both_read front back in
    record { before = before_read front back; are_before = w.before; after = after_read front back; are_after = w.after; is = refl }

pub some_outside : (ds : List Located) → (o : Outside) × HasOutside ds o
some_outside ds = (outside_read ds, has_outside ds)

both_in : (ds : List Located) (o : Outside) (h : HasOutside ds o) → Both (units_in (before_spot ds)).units (units_in (after_spot ds)).units h.before h.after
both_in ds o h =
    let seen : sight_in o ≡ sight_of (h.before ++ h.after) = ap sight_in h.is in
    record {
      before = subst (λ (v : Sight). AllOutside true v (units_in (before_spot ds)).units h.before) seen h.are_before;
      after = subst (λ (v : Sight). AllOutside false v (units_in (after_spot ds)).units h.after) seen h.are_after;
    }

pub one_outside_of : (ds : List Located) (o q : Outside) → HasOutside ds o → HasOutside ds q → o ≡ q
one_outside_of ds o q h k =
    let units = same_outside (units_in (before_spot ds)).units (units_in (after_spot ds)).units h.before h.after k.before k.after (both_in ds o h) (both_in ds q k) in
    h.is ∙ ap outside_of units ∙ sym k.is
