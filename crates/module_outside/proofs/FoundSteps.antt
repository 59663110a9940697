-- Units are found one after the other.
use Rattle.std.proofs.Common.{◌≡◌, ℕ, ◌+◌, ◌-◌, ◌<◌, ◌≤◌, true, false, List, [], ◌∷◌, ◌++◌, length, map, take, None, refl, sym, ap, ◌∙◌, subst, arith}
use Rattle.std.specs.List.{flat_map}
use Rattle.std.proofs.lemmas.List.{length-take}
use Rattle.tla_token.specs.declared.token.Tokens.{Tokens}
use Rattle.tla_tree.specs.Tree.{Tree}
use Rattle.tla_tree.specs.Lexical.{Token}
use Rattle.tla_value.specs.Outside.{Opaque, ReadDefinition}
use Rattle.module_tree.specs.Module.{definitions_of, unread_of}
use Rattle.module_tree.specs.FileUnits.{cut}
use Rattle.module_tree.specs.Outside.{Sight}
use Rattle.expr_nodes.specs.Ahead.{ahead}
use Rattle.outside_reading.specs.PlainUnits.{modules_in, constants_in, extends_or, unit_in, units_in, seen_behind}
use Rattle.outside_reading.proofs.OutsideFound as pure
use Rattle.module_outside.specs.Fronts.{front_begins}
use Rattle.module_outside.specs.Passing.{passed_seen}
use Rattle.module_outside.proofs.FrontLaws.{ahead_end}
use Rattle.module_outside.proofs.UnitLaws.{unit_there, units_first, ahead_length}
use Rattle.module_outside.specs.declared.sight.Sight as memory
use Rattle.module_outside.specs.SightIn.{Sees}
use Rattle.module_outside.specs.declared.found.Found.{Found}
use Rattle.module_outside.specs.OutsideAt.{definition_seen}
use Rattle.module_outside.specs.FoundAt.{Goes, IsFound}

-- ---- the tokens of a unit

pub some_tokens : (v w : Tokens) (i end : ℕ) → i < length v.items.items → i + 1 ≤ end → ahead w 0 ≡ take (end - i) (ahead v i) → 0 < length w.items.items
some_tokens v w i end l e h =
    let n = ahead_length v i (omega (arith, l)) in
    let t = length-take (end - i) (ahead v i) in
    let m : length (ahead w 0) ≡ length (take (end - i) (ahead v i)) = ap (λ (ts : List Token). length ts) h in
    let k = ahead_length w 0 (omega arith) in
    omega (arith, n, t, m, k, l, e)

-- ---- before the translation

-- what was found, and what is seen by the units that are left
pub record Sought (first : Sight) (all : List (List Token)) (s : memory.Sight) (ts : List Tree) (f : Found) (left : List (List Token)) : Type 0 where
  pub now : Sight
  pub sees : Sees s now
  pub ahead : pure.Ahead true first all (map (definition_seen ts) f.definitions.items) (map passed_seen f.opaque.items) now left

pub sought_first : (v : Tokens) (i : ℕ) (first : Sight) (s : memory.Sight) (ts : List Tree) (f : Found) → i ≡ 0 + length (cut (ahead v 0)).front → f.definitions.items ≡ [] → f.opaque.items ≡ [] → Sees s first
    → Sought first (cut (ahead v 0)).units s ts f (cut (ahead v i)).units
sought_first v i first s ts f e d o h = record {
  now = first;
  sees = h;
  ahead = subst (λ (left : List (List Token)). pure.Ahead true first (cut (ahead v 0)).units (map (definition_seen ts) f.definitions.items) (map passed_seen f.opaque.items) first left) (sym (units_first v i e))
      (subst (λ (xs : List ReadDefinition). pure.Ahead true first (cut (ahead v 0)).units xs (map passed_seen f.opaque.items) first (cut (ahead v 0)).units) (sym (ap (map (definition_seen ts)) d))
      (subst (λ (os : List Opaque). pure.Ahead true first (cut (ahead v 0)).units [] os first (cut (ahead v 0)).units) (sym (ap (map passed_seen) o)) (pure.none_found true first (cut (ahead v 0)).units)));
}

pub sought_more : (v : Tokens) (i end : ℕ) (u : List Token) (first : Sight) (all : List (List Token)) (s t : memory.Sight) (old new : List Tree) (f g : Found) → i < length v.items.items → front_begins (ahead v i) ≡ true
    → end ≡ (i + 1) + length (cut (ahead v (i + 1))).front → u ≡ take (end - i) (ahead v i)
    → ((w : Sight) → Sees s w → Goes old new f g (unit_in true w u)) → ((w : Sight) → Sees s w → Sees t (seen_behind w (unit_in true w u)))
    → Sought first all s old f (cut (ahead v i)).units → Sought first all t new g (cut (ahead v end)).units
sought_more v i end u first all s t old new f g l b e w goes sees h =
    let units : (cut (ahead v i)).units ≡ u ∷ (cut (ahead v end)).units = unit_there v i end l b e ∙ ap (λ (ts : List Token). ts ∷ (cut (ahead v end)).units) (sym w) in
    let here = goes h.now h.sees in
    let more = pure.one_found true first all (map (definition_seen old) f.definitions.items) (map passed_seen f.opaque.items) h.now u (cut (ahead v end)).units
    (subst (λ (left : List (List Token)). pure.Ahead true first all (map (definition_seen old) f.definitions.items) (map passed_seen f.opaque.items) h.now left) units h.ahead) in
    record {
      now = seen_behind h.now (unit_in true h.now u);
      sees = sees h.now h.sees;
      ahead = subst (λ (xs : List ReadDefinition). pure.Ahead true first all xs (map passed_seen g.opaque.items) (seen_behind h.now (unit_in true h.now u)) (cut (ahead v end)).units) (sym here.definitions)
          (subst (λ (os : List Opaque). pure.Ahead true first all (map (definition_seen old) f.definitions.items ++ definitions_of (unit_in true h.now u)) os (seen_behind h.now (unit_in true h.now u)) (cut (ahead v end)).units) (sym here.opaque) more);
    }

pub sought_end : (v : Tokens) (i : ℕ) (first : Sight) (all : List (List Token)) (s : memory.Sight) (ts : List Tree) (f : Found) → length v.items.items ≤ i → Sought first all s ts f (cut (ahead v i)).units → IsFound ts f (units_in true first all)
sought_end v i first all s ts f l h =
    let w = pure.all_found true first all (map (definition_seen ts) f.definitions.items) (map passed_seen f.opaque.items) h.now
    (subst (λ (left : List (List Token)). pure.Ahead true first all (map (definition_seen ts) f.definitions.items) (map passed_seen f.opaque.items) h.now left) (ap (λ (us : List Token). (cut us).units) (ahead_end v i l)) h.ahead) in
    record { definitions = w.0; opaque = w.1 }

-- ---- behind the translation

abbrev pub passed_of : List Token → List Opaque
passed_of ts = unread_of (extends_or (modules_in ts) (constants_in ts) None ts)

pub all_passed : (v : Sight) (tss : List (List Token)) → flat_map passed_of tss ≡ flat_map unread_of (units_in false v tss)
all_passed v [] = refl
all_passed v (ts ∷ tss) = ap (λ (os : List Opaque). passed_of ts ++ os) (all_passed (seen_behind v (unit_in false v ts)) tss)

abbrev pub no_sight : Sight
no_sight = record { modules = []; constants = []; earlier = [] }
