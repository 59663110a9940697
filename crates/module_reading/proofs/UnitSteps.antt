-- The units of a translation, one after the other: those that were read, and those that are left.
use Rattle.std.proofs.Common.{◌≡◌, ℕ, ◌+◌, ◌-◌, ◌<◌, ◌≤◌, true, List, [], ◌∷◌, ◌++◌, length, take, Option, Some, None, inl, inr, refl, sym, ap, ◌∙◌, append-nil, append_assoc}
use Rattle.std.proofs.lemmas.List.{map-append}
use Rattle.tla_token.specs.declared.rule.Rule.{Rule}
use Rattle.tla_token.specs.declared.rule.Rule.TheVariants.{TooDeep, Syntax}
use Rattle.tla_token.specs.declared.token.Tokens.{Tokens}
use Rattle.tla_tree.specs.Tree.{Tree}
use Rattle.tla_tree.specs.Lexical.{Token}
use Rattle.tla_tree.specs.Nesting.{deepest_in_module}
use Rattle.tla_tree.specs.Pool.{Keeps}
use Rattle.module_tree.specs.FileUnits.{cut}
use Rattle.module_tree.specs.Module.{RegionUnit}
use Rattle.expr_nodes.specs.declared.cursor.Halt.{Halt}
use Rattle.expr_nodes.specs.declared.cursor.Halt.TheVariants as halt
use Rattle.expr_nodes.specs.Ahead.{ahead}
use Rattle.module_outside.specs.Fronts.{front_begins}
use Rattle.module_outside.proofs.FrontLaws.{ahead_end}
use Rattle.module_outside.proofs.UnitLaws.{unit_there, units_first}
use Rattle.region_reading.specs.Bound.{Bound, unbounded}
use Rattle.region_reading.specs.UnitReader.{unit_within}
use Rattle.region_reading.specs.ModuleReader.{one_unit_more, units_are}
use Rattle.region_made.specs.declared.unit.Unit.{Unit as Kept}
use Rattle.region_made.specs.UnitsAt.{unit_at, units_at, UnitsIn}
use Rattle.region_units.specs.NoUnit.{NoUnit}
use Rattle.module_reading.specs.Translated.{module_bound, NoUnits}
use Rattle.module_reading.proofs.UnitsGrown.{units_kept}

-- these are units, and the others follow them; where one of those is none, they are none together
pub record SoFar (all : List (List Token)) (ts : List Tree) (us : List Kept) (left : List (List Token)) : Type 0 where
  pub more : (vs : List RegionUnit) → units_are module_bound left ≡ Some vs → units_are module_bound all ≡ Some (units_at ts us ++ vs)
  pub none : (m : Bound) → units_are m left ≡ None → units_are m all ≡ None

pub so_first : (v : Tokens) (i : ℕ) (ts : List Tree) (us : List Kept) → i ≡ 0 + length (cut (ahead v 0)).front → us ≡ [] → SoFar (cut (ahead v 0)).units ts us (cut (ahead v i)).units
so_first v i ts us e n =
    let same = units_first v i e in
    record {
      more = λ vs h. ap (units_are module_bound) (sym same) ∙ h ∙ ap (λ (xs : List Kept). Some (units_at ts xs ++ vs)) (sym n);
      none = λ m h. ap (units_are m) (sym same) ∙ h;
    }

no_more : (o : Option RegionUnit) → one_unit_more o None ≡ None
no_more (Some u) = refl
no_more None = refl

-- the first of those that are left
module _ (v : Tokens) (i end : ℕ) (l : i < length v.items.items) (b : front_begins (ahead v i) ≡ true) (e : end ≡ (i + 1) + length (cut (ahead v (i + 1))).front) (u : List Token) (w : u ≡ take (end - i) (ahead v i)) where
  first_left : (cut (ahead v i)).units ≡ u ∷ (cut (ahead v end)).units
  first_left = unit_there v i end l b e ∙ ap (λ (ts : List Token). ts ∷ (cut (ahead v end)).units) (sym w)

  pub so_more : (all : List (List Token)) (old new : List Tree) (us vs : List Kept) (one : Kept) → Keeps old new → UnitsIn (length old) us → unit_within module_bound u ≡ Some (unit_at new one) → vs ≡ us ++ one ∷ []
      → SoFar all old us (cut (ahead v i)).units → SoFar all new vs (cut (ahead v end)).units
  so_more all old new us vs one k within read n h = record {
    more = λ ws f.
        h.more (unit_at new one ∷ ws) (ap (units_are module_bound) first_left ∙ (λ j. one_unit_more (read j) (f j)))
        ∙ ap (λ (xs : List RegionUnit). Some (xs ++ unit_at new one ∷ ws)) (sym (units_kept old new k us within))
        ∙ ap Some (sym (append_assoc (units_at new us) (unit_at new one ∷ []) ws))
        ∙ ap (λ (xs : List RegionUnit). Some (xs ++ ws)) (sym (ap (units_at new) n ∙ map-append (unit_at new) us (one ∷ [])));
    none = λ m f. h.none m (ap (units_are m) first_left ∙ ap (one_unit_more (unit_within m u)) f ∙ no_more (unit_within m u));
  }

  no_first : (all : List (List Token)) (ts : List Tree) (us : List Kept) → SoFar all ts us (cut (ahead v i)).units → (m : Bound) → unit_within m u ≡ None → units_are m all ≡ None
  no_first all ts us h m f = h.none m (ap (units_are m) first_left ∙ ap (λ (o : Option RegionUnit). one_unit_more o (units_are m (cut (ahead v end)).units)) f)

  pub so_lost : (all : List (List Token)) (ts : List Tree) (us : List Kept) (x : Halt) → SoFar all ts us (cut (ahead v i)).units → NoUnit deepest_in_module u x → NoUnits all x
  so_lost all ts us halt.Memory h f = tt
  so_lost all ts us (halt.Refused r n) h f = by r f
    where
      by : (r : Rule) → NoUnit deepest_in_module u (halt.Refused r n) → NoUnits all (halt.Refused r n)
      by Syntax f = inl (refl, no_first all ts us h unbounded f)
      by TooDeep f = inr (refl, no_first all ts us h module_bound f)
      by r f = absurd f

pub so_end : (v : Tokens) (i : ℕ) (all : List (List Token)) (ts : List Tree) (us : List Kept) → length v.items.items ≤ i → SoFar all ts us (cut (ahead v i)).units → units_are module_bound all ≡ Some (units_at ts us)
so_end v i all ts us l h = h.more [] (ap (λ (xs : List Token). units_are module_bound (cut xs).units) (ahead_end v i l)) ∙ ap Some (append-nil (units_at ts us))
