-- A text reads as one module at most.
use Rattle.std.proofs.Common.{◌≡◌, ℕ, true, false, List, ◌++◌, [], ◌∷◌, flat_map, subst, refl, sym, ap, ◌∙◌}
use Rattle.std.proofs.lemmas.List.{append-nil}
use Rattle.std.proofs.lemmas.Option.{same_Some}
use Rattle.tla_tree.specs.Tree.{Name, words}
use Rattle.module_tree.specs.Module.{RegionUnit, units_of, OutsideUnit, Module, modules_of, constants_of, outside_of}
use Rattle.tla_tree.specs.Lexical.{Token}
use Rattle.module_tree.specs.Units.{IsUnit}
use Rattle.module_tree.specs.Walk.{Located, walk}
use Rattle.module_tree.specs.FileParts.{before_spot, after_spot, inside_region}
use Rattle.module_tree.specs.FileUnits.{units_in}
use Rattle.module_tree.specs.Outside.{Sight, AllOutside}
use Rattle.module_tree.specs.Reading.{AllAre, sight, Reads}
use Rattle.module_tree.proofs.OneRegion.{one_region}
use Rattle.module_tree.proofs.OneUnit.{one_unit}
use Rattle.module_tree.proofs.OneOutside.{all_outside, all_declared}

one_units : (tss : List (List Token)) (us vs : List RegionUnit) → AllAre IsUnit tss us → AllAre IsUnit tss vs → us ≡ vs
one_units [] [] [] h k = refl
one_units [] [] (v ∷ vs) h k = absurd k
one_units [] (u ∷ us) vs h k = absurd h
one_units (ts ∷ tss) [] vs h k = absurd h
one_units (ts ∷ tss) (u ∷ us) [] h k = absurd k
one_units (ts ∷ tss) (u ∷ us) (v ∷ vs) h k =
    let d = one_unit ts u v h.0 k.0 in
    let more = one_units tss us vs h.1 k.1 in
    λ i. d i ∷ more i

-- what units see of all units
abbrev pub sight_of : List OutsideUnit → Sight
sight_of us = record { modules = words (flat_map modules_of us); constants = words (flat_map constants_of us); earlier = [] }

pub alone : (f : OutsideUnit → List Name) (us xs : List OutsideUnit) → flat_map f (us ++ []) ≡ flat_map f (xs ++ []) → flat_map f us ≡ flat_map f xs
alone f us xs h = sym (ap (flat_map f) (append-nil us)) ∙ h ∙ ap (flat_map f) (append-nil xs)

-- units before and after the translation, each list in the sight of both
pub record Both (front back : List (List Token)) (us xs : List OutsideUnit) : Type 0 where
  pub before : AllOutside true (sight_of (us ++ xs)) front us
  pub after : AllOutside false (sight_of (us ++ xs)) back xs

pub same_outside : (front back : List (List Token)) (us xs vs ys : List OutsideUnit) → Both front back us xs → Both front back vs ys
    → us ++ xs ≡ vs ++ ys
same_outside front back us xs vs ys h k =
    let after = all_declared false (sight_of (us ++ xs)) (sight_of (vs ++ ys)) back xs ys h.after k.after [] [] refl refl in
    let all = all_declared true (sight_of (us ++ xs)) (sight_of (vs ++ ys)) front us vs h.before k.before xs ys
    (alone modules_of xs ys after.0) (alone constants_of xs ys after.1) in
    let sights : sight_of (us ++ xs) ≡ sight_of (vs ++ ys) = λ i. record { modules = words (all.0 i); constants = words (all.1 i); earlier = [] } in
    let front_is = all_outside true (sight_of (us ++ xs)) front us vs h.before (subst (λ (v : Sight). AllOutside true v front vs) (sym sights) k.before) in
    let back_is = all_outside false (sight_of (us ++ xs)) back xs ys h.after (subst (λ (v : Sight). AllOutside false v back ys) (sym sights) k.after) in
    λ i. front_is i ++ back_is i

-- the units outside of a module that is read
both : (w : List ℕ) (m : Module) (r : Reads w m) → Both (units_in (before_spot (walk w))).units (units_in (after_spot (walk w))).units r.before r.after
both w m r =
    let seen : sight m ≡ sight_of (r.before ++ r.after) = λ i. (let o = r.outside i in record { modules = o.extended; constants = words o.constants; earlier = [] }) in
    record {
      before = subst (λ (v : Sight). AllOutside true v (units_in (before_spot (walk w))).units r.before) seen r.are_before;
      after = subst (λ (v : Sight). AllOutside false v (units_in (after_spot (walk w))).units r.after) seen r.are_after;
    }

pub one_module : (w : List ℕ) (m n : Module) → Reads w m → Reads w n → m ≡ n
one_module w m n r s =
    let title : m.title ≡ n.title = same_Some m.title n.title (sym r.title ∙ s.title) in
    let units_outside = same_outside (units_in (before_spot (walk w))).units (units_in (after_spot (walk w))).units r.before r.after s.before s.after (both w m r) (both w n s) in
    let outside : m.outside ≡ n.outside = r.outside ∙ ap outside_of units_outside ∙ sym s.outside in
    let place : s.region ≡ r.region = same_Some s.region r.region (sym s.is_region ∙ r.is_region) in
    let units = one_units (units_in (inside_region r.region)).units (units_of m.region) (units_of n.region) r.reads_region.units
    (subst (λ (d : Located). AllAre IsUnit (units_in (inside_region d)).units (units_of n.region)) place s.reads_region.units) in
    let region = one_region m.region n.region units in
    λ i. record { title = title i; outside = outside i; region = region i }
