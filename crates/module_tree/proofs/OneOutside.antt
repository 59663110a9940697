-- Units outside the translation are known by their tokens, and so are the modules and constants that they see.
use Rattle.std.proofs.Common.{◌≡◌, ◌⊎◌, Bool, true, List, [], ◌∷◌, ◌++◌, flat_map, length, codes, inl, inr, subst, refl, sym, ap, ◌∙◌}
use Rattle.tla_tree.specs.Tree.{Word, Name}
use Rattle.tla_value.specs.Outside.{ReadDefinition, found}
use Rattle.tla_tree.specs.Spelling.{spell, tree_of}
use Rattle.module_tree.specs.Module.{OutsideUnit, extends, constants, defines, opaque, modules_of, constants_of, definitions_of}
use Rattle.module_tree.specs.Outside.{Sight, Named, Defined, opaque_of, IsRead, IsOutside, AllOutside}
use Rattle.tla_tree.specs.Lexical.{Token}
use Rattle.tla_tree.proofs.ReadAll.{one_before}
use Rattle.module_tree.proofs.OneItem.{tail, first_word, same_name, apart, placed_names}
use Rattle.module_tree.proofs.OneWay.{first_keyword}
use Rattle.module_tree.proofs.OneUnit.{one_parameters}

-- ---- units that are read

same_keyword : (v w : Word) (ts : List Token) (xs ys : List Name) → Named v ts xs → Named w ts ys → length v ≡ length w
same_keyword v w ts xs ys n k = ap (λ (us : List Token). length (first_keyword us)) (sym n.spelled ∙ k.spelled)

same_names : (w : Word) (ts : List Token) (xs ys : List Name) → Named w ts xs → Named w ts ys → xs ≡ ys
same_names w ts xs ys n k = sym n.are ∙ (placed_names n.names k.names [] [] refl refl (ap tail (sym n.spelled ∙ k.spelled))).0 ∙ k.are

same_definition : (v w : Sight) (ts : List Token) (d e : ReadDefinition) → Defined v ts d → Defined w ts e → d ≡ e
same_definition v w ts d e h k =
    let same = sym h.spelled ∙ k.spelled in
    let at : h.at ≡ k.at = (let f = same_name h.at k.at d.definition.title e.definition.title _ _ same in ap (λ (n : Name). n.place) f) in
    let title : d.definition.title ≡ e.definition.title = ap first_word same in
    let params = one_parameters h.params k.params h.sign k.sign (spell h.body []) (spell k.body []) (ap tail same) in
    let body = one_before 0 h.body k.body h.good.2 k.good.2 [] [] refl refl params.1 in
    sym h.is ∙ (λ i. record { definition = record { title = title i; params = params.0 i; body = tree_of (body.0 i); outside = true }; place = at i }) ∙ k.is

not_defined : (v : Sight) (w : Word) (ts : List Token) (xs : List Name) (d : ReadDefinition) → Named w ts xs → Defined v ts d → ⊥
not_defined v w ts xs d n k = apart _ _ refl (sym n.spelled ∙ k.spelled)

same_read : (b : Bool) (v w : Sight) (ts : List Token) (u x : OutsideUnit) → IsRead b v ts u → IsRead b w ts x → u ≡ x
same_read b v w ts (extends ms) (extends ns) h k = ap extends (same_names (codes "EXTENDS") ts ms ns h k)
same_read b v w ts (extends ms) (constants ys) h (inl k) = (let e = same_keyword (codes "EXTENDS") (codes "CONSTANT") ts ms ys h k in absurd cc)
same_read b v w ts (extends ms) (constants ys) h (inr k) = (let e = same_keyword (codes "EXTENDS") (codes "CONSTANTS") ts ms ys h k in absurd cc)
same_read b v w ts (extends ms) (defines d) h k = absurd (not_defined w (codes "EXTENDS") ts ms d h k.1)
same_read b v w ts (constants xs) (extends ns) (inl h) k = (let e = same_keyword (codes "CONSTANT") (codes "EXTENDS") ts xs ns h k in absurd cc)
same_read b v w ts (constants xs) (extends ns) (inr h) k = (let e = same_keyword (codes "CONSTANTS") (codes "EXTENDS") ts xs ns h k in absurd cc)
same_read b v w ts (constants xs) (constants ys) (inl h) (inl k) = ap constants (same_names (codes "CONSTANT") ts xs ys h k)
same_read b v w ts (constants xs) (constants ys) (inl h) (inr k) =
    (let e = same_keyword (codes "CONSTANT") (codes "CONSTANTS") ts xs ys h k in absurd cc)
same_read b v w ts (constants xs) (constants ys) (inr h) (inl k) =
    (let e = same_keyword (codes "CONSTANTS") (codes "CONSTANT") ts xs ys h k in absurd cc)
same_read b v w ts (constants xs) (constants ys) (inr h) (inr k) = ap constants (same_names (codes "CONSTANTS") ts xs ys h k)
same_read b v w ts (constants xs) (defines d) (inl h) k = absurd (not_defined w (codes "CONSTANT") ts xs d h k.1)
same_read b v w ts (constants xs) (defines d) (inr h) k = absurd (not_defined w (codes "CONSTANTS") ts xs d h k.1)
same_read b v w ts (defines d) (extends ns) h k = absurd (not_defined v (codes "EXTENDS") ts ns d k h.1)
same_read b v w ts (defines d) (constants ys) h (inl k) = absurd (not_defined v (codes "CONSTANT") ts ys d k h.1)
same_read b v w ts (defines d) (constants ys) h (inr k) = absurd (not_defined v (codes "CONSTANTS") ts ys d k h.1)
same_read b v w ts (defines d) (defines e) h k = ap defines (same_definition v w ts d e h.1 k.1)
same_read b v w ts (opaque o) x h k = absurd h
same_read b v w ts u (opaque o) h k = absurd k

-- ---- units in one sight

-- it is read, or else it is what is passed on of these tokens
abbrev Kept : Bool → Sight → List Token → OutsideUnit → Type 0
Kept b v ts u = IsRead b v ts u ⊎ (((x : OutsideUnit) → IsRead b v ts x → ⊥) × (u ≡ opaque (opaque_of ts)))

kept : (b : Bool) (v : Sight) (ts : List Token) (u : OutsideUnit) → IsOutside b v ts u → Kept b v ts u
kept b v ts (opaque o) h = inr (h.0, ap opaque h.1)
kept b v ts (extends ms) h = inl h
kept b v ts (constants xs) h = inl h
kept b v ts (defines d) h = inl h

one_outside : (b : Bool) (v : Sight) (ts : List Token) (u x : OutsideUnit) → IsOutside b v ts u → IsOutside b v ts x → u ≡ x
one_outside b v ts u x h k = by (kept b v ts u h) (kept b v ts x k)
  where
    by : Kept b v ts u → Kept b v ts x → u ≡ x
    by (inl h) (inl k) = same_read b v v ts u x h k
    by (inl h) (inr k) = absurd (k.0 u h)
    by (inr h) (inl k) = absurd (h.0 x k)
    by (inr h) (inr k) = h.1 ∙ sym k.1

abbrev after : Sight → OutsideUnit → Sight
after v u = record v { earlier = v.earlier ++ found (definitions_of u) }

pub all_outside : (b : Bool) (v : Sight) (tss : List (List Token)) (us xs : List OutsideUnit) → AllOutside b v tss us → AllOutside b v tss xs → us ≡ xs
all_outside b v [] [] [] h k = refl
all_outside b v [] [] (x ∷ xs) h k = absurd k
all_outside b v [] (u ∷ us) xs h k = absurd h
all_outside b v (ts ∷ tss) [] xs h k = absurd h
all_outside b v (ts ∷ tss) (u ∷ us) [] h k = absurd k
all_outside b v (ts ∷ tss) (u ∷ us) (x ∷ xs) h k =
    let d = one_outside b v ts u x h.0 k.0 in
    let j : AllOutside b (after v u) tss xs = subst (λ (y : OutsideUnit). AllOutside b (after v y) tss xs) (sym d) k.1 in
    let more = all_outside b (after v u) tss us xs h.1 j in
    λ i. d i ∷ more i

-- ---- what is declared doesn't depend on the sight

-- two units that declare the same, before others that do
abbrev SameHead : OutsideUnit → OutsideUnit → Type 0
SameHead u x = (us xs : List OutsideUnit) → flat_map modules_of us ≡ flat_map modules_of xs → flat_map constants_of us ≡ flat_map constants_of xs
    → (flat_map modules_of (u ∷ us) ≡ flat_map modules_of (x ∷ xs)) × (flat_map constants_of (u ∷ us) ≡ flat_map constants_of (x ∷ xs))

same_head : (u x : OutsideUnit) → u ≡ x → SameHead u x
same_head u x d = subst (λ (y : OutsideUnit). SameHead u y) d (by u)
  where
    by : (u : OutsideUnit) → SameHead u u
    by (extends ms) us xs m c = (ap (λ (ns : List Name). ms ++ ns) m, c)
    by (constants ws) us xs m c = (m, ap (λ (ns : List Name). ws ++ ns) c)
    by (defines d) us xs m c = (m, c)
    by (opaque o) us xs m c = (m, c)

flipped : (u x : OutsideUnit) → SameHead u x → SameHead x u
flipped u x s us xs m c = (let w = s xs us (sym m) (sym c) in (sym w.0, sym w.1))

-- what is read in one sight and not in another declares nothing
none_declared : (b : Bool) (v w : Sight) (ts : List Token) (u x : OutsideUnit) → IsRead b v ts u → ((y : OutsideUnit) → IsRead b w ts y → ⊥)
    → x ≡ opaque (opaque_of ts) → SameHead u x
none_declared b v w ts u x h n d = subst (λ (y : OutsideUnit). SameHead u y) (sym d) (by u h)
  where
    by : (u : OutsideUnit) → IsRead b v ts u → SameHead u (opaque (opaque_of ts))
    by (extends ms) h = absurd (n (extends ms) h)
    by (constants ws) h = absurd (n (constants ws) h)
    by (defines e) h = λ us xs m c. (m, c)
    by (opaque o) h = absurd h

same_declared : (b : Bool) (v w : Sight) (ts : List Token) (u x : OutsideUnit) → IsOutside b v ts u → IsOutside b w ts x → SameHead u x
same_declared b v w ts u x h k = by (kept b v ts u h) (kept b w ts x k)
  where
    by : Kept b v ts u → Kept b w ts x → SameHead u x
    by (inl h) (inl k) = same_head u x (same_read b v w ts u x h k)
    by (inl h) (inr k) = none_declared b v w ts u x h k.0 k.1
    by (inr h) (inl k) = flipped x u (none_declared b w v ts x u k h.0 h.1)
    by (inr h) (inr k) = same_head u x (h.1 ∙ sym k.1)

-- the same modules and constants are declared, before others that are the same
pub all_declared : (b : Bool) (v w : Sight) (tss : List (List Token)) (us xs : List OutsideUnit) → AllOutside b v tss us → AllOutside b w tss xs
    → (more others : List OutsideUnit) → flat_map modules_of more ≡ flat_map modules_of others → flat_map constants_of more ≡ flat_map constants_of others
    → (flat_map modules_of (us ++ more) ≡ flat_map modules_of (xs ++ others)) × (flat_map constants_of (us ++ more) ≡ flat_map constants_of (xs ++ others))
all_declared b v w [] [] [] h k more others m c = (m, c)
all_declared b v w [] [] (x ∷ xs) h k more others m c = absurd k
all_declared b v w [] (u ∷ us) xs h k more others m c = absurd h
all_declared b v w (ts ∷ tss) [] xs h k more others m c = absurd h
all_declared b v w (ts ∷ tss) (u ∷ us) [] h k more others m c = absurd k
all_declared b v w (ts ∷ tss) (u ∷ us) (x ∷ xs) h k more others m c =
    let after_them = all_declared b (after v u) (after w x) tss us xs h.1 k.1 more others m c in
    same_declared b v w ts u x h.0 k.0 (us ++ more) (xs ++ others) after_them.0 after_them.1
