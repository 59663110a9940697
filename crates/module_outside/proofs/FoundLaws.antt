-- What is found in one more unit.
use Rattle.std.proofs.Common.{◌≡◌, ℕ, ◌<◌, ◌≤◌, Bool, true, false, ◌||◌, List, [], ◌∷◌, ◌++◌, length, map, Option, Some, None, refl, sym, ap, ◌∙◌, subst, arith, append-nil}
use Rattle.std.specs.Prelude.{is_some}
use Rattle.std.proofs.lemmas.List.{map-append}
use Rattle.tla_tree.specs.Tree.{Tree, Name}
use Rattle.tla_tree.specs.Lexical.{Token}
use Rattle.tla_tree.specs.Pool.{Keeps}
use Rattle.tla_value.specs.Outside as pure
use Rattle.module_tree.specs.Module.{OutsideUnit, definitions_of, unread_of}
use Rattle.module_tree.specs.Outside.{Sight, opaque_of}
use Rattle.outside_reading.specs.PlainUnits.{modules_in, constants_in, declares, constants_or, extends_or, defined_before, defined_in, unit_in, seen_behind}
use Rattle.outside_reading.proofs.Earlier.{same_sight}
use Rattle.module_outside.specs.declared.passed.Passed.{Passed}
use Rattle.module_outside.specs.Passing.{passed_seen}
use Rattle.module_outside.specs.declared.sight.Sight as memory
use Rattle.module_outside.specs.SightIn.{Sees}
use Rattle.module_outside.specs.declared.definition.ReadDefinition.{ReadDefinition}
use Rattle.module_outside.specs.declared.found.Found.{Found}
use Rattle.module_outside.specs.OutsideAt.{definition_seen, made_of, with_found}
use Rattle.module_outside.specs.FoundAt.{AreHeld, PassesOn, Goes}

-- ---- units

declared_none : (b : Bool) (v : Sight) (ts : List Token) → declares ts ≡ true → (definitions_of (unit_in b v ts) ≡ []) × (unread_of (unit_in b v ts) ≡ [])
declared_none b v ts h = by (modules_in ts) (constants_in ts) h
  where
    by : (ms xs : Option (List Name)) → (is_some ms || is_some xs) ≡ true → (definitions_of (extends_or ms xs (defined_before b v ts) ts) ≡ []) × (unread_of (extends_or ms xs (defined_before b v ts) ts) ≡ [])
    by (Some ms) xs e = (refl, refl)
    by None (Some xs) e = (refl, refl)
    by None None e = absurd cc

undeclared : (b : Bool) (v : Sight) (ts : List Token) (o : Option pure.ReadDefinition) → declares ts ≡ false → o ≡ defined_before b v ts → unit_in b v ts ≡ constants_or None o ts
undeclared b v ts o h e = by (modules_in ts) (constants_in ts) h
  where
    by : (ms xs : Option (List Name)) → (is_some ms || is_some xs) ≡ false → extends_or ms xs (defined_before b v ts) ts ≡ constants_or None o ts
    by (Some ms) xs k = absurd cc
    by None (Some xs) k = absurd cc
    by None None k = ap (λ (o : Option pure.ReadDefinition). constants_or None o ts) (sym e)

-- ---- definitions, as the pool grows

grown : (ts us : List Tree) (ds : List ReadDefinition) → Keeps ts us → AreHeld (length ts) ds → map (definition_seen us) ds ≡ map (definition_seen ts) ds
grown ts us [] k h = refl
grown ts us (d ∷ ds) k h = λ i. made_of d.title d.params.items (k.same d.body h.0 i) ∷ grown ts us ds k h.1 i

held_more : (m n : ℕ) (ds : List ReadDefinition) → m ≤ n → AreHeld m ds → AreHeld n ds
held_more m n [] l h = tt
held_more m n (d ∷ ds) l h = (let b = h.0 in omega (arith, b, l), held_more m n ds l h.1)

pub held_push : (ts us : List Tree) (ds es : List ReadDefinition) (d : ReadDefinition) → Keeps ts us → AreHeld (length ts) ds → d.body < length us → es ≡ ds ++ d ∷ [] → AreHeld (length us) es
held_push ts us ds es d k h b e = subst (λ (xs : List ReadDefinition). AreHeld (length us) xs) (sym e) (pushed ds (held_more (length ts) (length us) ds k.longer h))
  where
    pushed : (ds : List ReadDefinition) → AreHeld (length us) ds → AreHeld (length us) (ds ++ d ∷ [])
    pushed [] h = (b, tt)
    pushed (x ∷ ds) h = (h.0, pushed ds h.1)

pub held_kept : (ts us : List Tree) (ds : List ReadDefinition) → Keeps ts us → AreHeld (length ts) ds → AreHeld (length us) ds
held_kept ts us ds k h = held_more (length ts) (length us) ds k.longer h

-- ---- one more unit

pub goes_declared : (ts : List Tree) (f : Found) (v : Sight) (u : List Token) → declares u ≡ true → Goes ts ts f f (unit_in true v u)
goes_declared ts f v u h = (let n = declared_none true v u h in record {
  definitions = sym (append-nil (map (definition_seen ts) f.definitions.items)) ∙ ap (λ (ds : List pure.ReadDefinition). map (definition_seen ts) f.definitions.items ++ ds) (sym n.0);
  opaque = sym (append-nil (map passed_seen f.opaque.items)) ∙ ap (λ (os : List pure.Opaque). map passed_seen f.opaque.items ++ os) (sym n.1);
})

pub sees_declared : (s : memory.Sight) (v : Sight) (u : List Token) → declares u ≡ true → Sees s v → Sees s (seen_behind v (unit_in true v u))
sees_declared s v u h k = subst (λ (w : Sight). Sees s w) (sym (same_sight v (unit_in true v u) (declared_none true v u h).0)) k

pub goes_defined : (ts us : List Tree) (f g : Found) (v : Sight) (u : List Token) (d : ReadDefinition) → Keeps ts us → AreHeld (length ts) f.definitions.items → declares u ≡ false → Some (definition_seen us d) ≡ defined_in v u
    → g.definitions.items ≡ f.definitions.items ++ d ∷ [] → g.opaque.items ≡ f.opaque.items → Goes ts us f g (unit_in true v u)
goes_defined ts us f g v u d k held h e p q =
    let unit = undeclared true v u (Some (definition_seen us d)) h e in
    record {
      definitions = ap (map (definition_seen us)) p ∙ map-append (definition_seen us) f.definitions.items (d ∷ []) ∙ (λ i. grown ts us f.definitions.items k held i ++ definitions_of (sym unit i));
      opaque = ap (map passed_seen) q ∙ sym (append-nil (map passed_seen f.opaque.items)) ∙ ap (λ (x : OutsideUnit). map passed_seen f.opaque.items ++ unread_of x) (sym unit);
    }

pub sees_defined : (s : memory.Sight) (v : Sight) (u : List Token) (d : pure.ReadDefinition) → declares u ≡ false → Some d ≡ defined_in v u → Sees s (with_found v (Some d)) → Sees s (seen_behind v (unit_in true v u))
sees_defined s v u d h e k = subst (λ (x : OutsideUnit). Sees s (seen_behind v x)) (sym (undeclared true v u (Some d) h e)) k

pub goes_passed : (ts us : List Tree) (f g : Found) (v : Sight) (u : List Token) (p : Passed) → Keeps ts us → AreHeld (length ts) f.definitions.items → declares u ≡ false → None ≡ defined_in v u → passed_seen p ≡ opaque_of u
    → g.definitions.items ≡ f.definitions.items → g.opaque.items ≡ f.opaque.items ++ p ∷ [] → Goes ts us f g (unit_in true v u)
goes_passed ts us f g v u p k held h e w x y =
    let unit = undeclared true v u None h e in
    record {
      definitions = ap (map (definition_seen us)) x ∙ grown ts us f.definitions.items k held ∙ sym (append-nil (map (definition_seen ts) f.definitions.items))
          ∙ ap (λ (z : OutsideUnit). map (definition_seen ts) f.definitions.items ++ definitions_of z) (sym unit);
      opaque = ap (map passed_seen) y ∙ map-append passed_seen f.opaque.items (p ∷ []) ∙ (λ i. map passed_seen f.opaque.items ++ w i ∷ []) ∙ ap (λ (z : OutsideUnit). map passed_seen f.opaque.items ++ unread_of z) (sym unit);
    }

pub sees_passed : (s : memory.Sight) (v : Sight) (u : List Token) → declares u ≡ false → None ≡ defined_in v u → Sees s v → Sees s (seen_behind v (unit_in true v u))
sees_passed s v u h e k = subst (λ (w : Sight). Sees s w) (sym (same_sight v (unit_in true v u) (ap definitions_of (undeclared true v u None h e)))) k

-- ---- behind the translation

pub passes_declared : (os : List Passed) (v : Sight) (u : List Token) → declares u ≡ true → PassesOn os os (unit_in false v u)
passes_declared os v u h = sym (append-nil (map passed_seen os)) ∙ ap (λ (zs : List pure.Opaque). map passed_seen os ++ zs) (sym (declared_none false v u h).1)

pub passes_on : (os qs : List Passed) (v : Sight) (u : List Token) (p : Passed) → declares u ≡ false → passed_seen p ≡ opaque_of u → qs ≡ os ++ p ∷ [] → PassesOn os qs (unit_in false v u)
passes_on os qs v u p h w y =
    ap (map passed_seen) y ∙ map-append passed_seen os (p ∷ []) ∙ (λ i. map passed_seen os ++ w i ∷ []) ∙ ap (λ (z : OutsideUnit). map passed_seen os ++ unread_of z) (sym (undeclared false v u None h refl))
