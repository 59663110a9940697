-- The walk that measures a definition tells whether it reads, and how deep it nests.
use Rattle.std.proofs.Common.{◌≡◌, ℕ, ◌+◌, max, Bool, true, false, ◌&&◌, not, nat_le, List, [], ◌∷◌, ◌++◌, map, Option, Some, None, refl, sym, ap, ◌∙◌, arith, cond, bytes_eq}
use Rattle.std.proofs.lemmas.Bool.{and_parts, leb-true, leb-false}
use Rattle.std.specs.List.{flat_map}
use Rattle.tla_token.specs.Limits.{deepest_definition}
use Rattle.tla_token.specs.Signs.{is_among}
use Rattle.tla_token.specs.Words.{is_standard}
use Rattle.tla_token.proofs.Spelled.{same_bytes}
use Rattle.tla_tree.specs.Tree.{Word, Name, words, Form, name, operator_call, binding, local, beginnings, Tree, node, Trees, no_trees, tree, seen_names}
use Rattle.tla_value.specs.Definitions.{Definition}
use Rattle.tla_value.specs.DefinitionNesting.{Depths, depth_of_use, hidden, used, nests, nest, definition_nests, depths}
use Rattle.tla_value.specs.StandardModules.{is_member, is_last}
use Rattle.module_tree.specs.Outside.{Sight, is_fresh, are_fresh, arity, is_defined, count, form_reads, tree_reads, trees_read, definition_reads}
use Rattle.outside_reading.specs.TreeDepth.{if_true, if_so, with_parts, beside, tree_depth, trees_depth, definition_depth}

-- ---- names that are no definitions

-- uses of these nest not at all
abbrev Unused : Depths → List Word → Type 0
Unused ds [] = Unit {0}
Unused ds (x ∷ xs) = (depth_of_use ds x ≡ 0) × Unused ds xs

abbrev AllUnused : Depths → List (List Word) → Type 0
AllUnused ds [] = Unit {0}
AllUnused ds (xs ∷ names) = Unused ds xs × AllUnused ds names

abbrev SameUses : Depths → Depths → Type 0
SameUses es ds = (x : Word) → depth_of_use es x ≡ depth_of_use ds x

-- what is no definition nests not at all
abbrev pub Measures : Sight → Depths → Type 0
Measures v ds = (x : Word) → is_defined (arity v.earlier x) ≡ false → depth_of_use ds x ≡ 0

hidden_same : (ds es : Depths) (xs : List Word) → Unused ds xs → SameUses es ds → SameUses (hidden xs es) ds
hidden_same ds es [] h s y = s y
hidden_same ds es (x ∷ xs) h s y = by (bytes_eq x y) refl (hidden_same ds es xs h.1 s y)
  where
    by : (b : Bool) → bytes_eq x y ≡ b → depth_of_use (hidden xs es) y ≡ depth_of_use ds y → cond b 0 (depth_of_use (hidden xs es) y) ≡ depth_of_use ds y
    by true e k = sym h.0 ∙ ap (depth_of_use ds) (same_bytes x y e)
    by false e k = k

fresh_unused : (v : Sight) (ds : Depths) → Measures v ds → (bs xs : List Word) → are_fresh v bs xs ≡ true → Unused ds xs
fresh_unused v ds m bs [] h = tt
fresh_unused v ds m bs (x ∷ xs) h = (m x undefined, fresh_unused v ds m (x ∷ bs) xs parts.1)
  where
    parts : (is_fresh v bs x ≡ true) × (are_fresh v (x ∷ bs) xs ≡ true)
    parts = and_parts (is_fresh v bs x) (are_fresh v (x ∷ bs) xs) h

    left : (not (is_defined (arity v.earlier x)) ≡ true) × (not (is_among bs x) ≡ true)
    left = (let a = and_parts (not (is_standard v.modules x)) (not (is_among v.constants x) && (not (is_defined (arity v.earlier x)) && not (is_among bs x))) parts.0 in let b = and_parts (not (is_among v.constants x)) (not (is_defined (arity v.earlier x)) && not (is_among bs x)) a.1 in and_parts (not (is_defined (arity v.earlier x))) (not (is_among bs x)) b.1)

    undefined : is_defined (arity v.earlier x) ≡ false
    undefined = by (is_defined (arity v.earlier x)) refl left.0
      where
        by : (b : Bool) → is_defined (arity v.earlier x) ≡ b → not (is_defined (arity v.earlier x)) ≡ true → is_defined (arity v.earlier x) ≡ false
        by true e k = absurd (let q : false ≡ true = rw e at k in cc)
        by false e k = e

-- so are those that each part sees
one_more_unused : (ds : Depths) (x : Word) (names : List (List Word)) → depth_of_use ds x ≡ 0 → AllUnused ds names → AllUnused ds (map (λ (ys : List Word). x ∷ ys) names)
one_more_unused ds x [] h k = tt
one_more_unused ds x (xs ∷ names) h k = ((h, k.0), one_more_unused ds x names h k.1)

beginnings_unused : (ds : Depths) (xs : List Word) → Unused ds xs → AllUnused ds (beginnings xs)
beginnings_unused ds [] h = (tt, tt)
beginnings_unused ds (x ∷ xs) h = (tt, one_more_unused ds x (beginnings xs) h.0 (beginnings_unused ds xs h.1))

groups_unused : (ds : Depths) (all : List Word) (gs : List (List Name)) → Unused ds all → AllUnused ds (map (λ (xs : List Name). []) gs ++ all ∷ [])
groups_unused ds all [] h = (h, tt)
groups_unused ds all (g ∷ gs) h = (tt, groups_unused ds all gs h)

form_unused : (v : Sight) (ds : Depths) (bs : List Word) (inf : Bool) (m : Form) (n : ℕ) → Measures v ds → form_reads v bs inf m n ≡ true → AllUnused ds (seen_names m)
form_unused v ds bs inf (binding b groups) n m h = groups_unused ds (flat_map words groups) groups (fresh_unused v ds m bs (flat_map words groups) h)
form_unused v ds bs inf (local xs) n m h = beginnings_unused ds (words xs) (fresh_unused v ds m bs (words xs) h)
form_unused v ds bs inf m n k h = tt

-- ---- what the walk tells

-- that many, if so, and up to a depth
abbrev told : ℕ → Bool → ℕ → Option ℕ
told most b n = if_true (b && nat_le n most) (Some n)

used_same : (ds es : Depths) → SameUses es ds → (m : Form) → used es m ≡ used ds m
used_same ds es s (name x) = s x
used_same ds es s (operator_call f) = s f
used_same ds es s m = refl

node_told : (k n : ℕ) (b : Bool) → with_parts k (told 501 b n) ≡ told 500 b (max k n)
node_told k n false = refl
node_told k n true = by (nat_le n 501) refl (nat_le (max k n) 500) refl
  where
    by : (p : Bool) → nat_le n 501 ≡ p → (q : Bool) → nat_le (max k n) 500 ≡ q → with_parts k (if_true p (Some n)) ≡ if_true q (Some (max k n))
    by true e q f = rw f refl
    by false e true f = absurd (let h = leb-false n 501 e in let g = leb-true (max k n) 500 f in omega arith)
    by false e false f = refl

part_told : (n k : ℕ) (b c : Bool) → beside (told 500 b n) (told 501 c k) ≡ told 501 (b && c) (max (1 + n) k)
part_told n k false c = refl
part_told n k true false = by (nat_le n 500)
  where
    by : (p : Bool) → beside (if_true p (Some n)) None ≡ None
    by true = refl
    by false = refl
part_told n k true true = by (nat_le n 500) refl (nat_le k 501) refl (nat_le (max (1 + n) k) 501) refl
  where
    by : (p : Bool) → nat_le n 500 ≡ p → (q : Bool) → nat_le k 501 ≡ q → (r : Bool) → nat_le (max (1 + n) k) 501 ≡ r → beside (if_true p (Some n)) (if_true q (Some k)) ≡ if_true r (Some (max (1 + n) k))
    by true e true f true g = refl
    by true e true f false g = absurd (let h = leb-true n 500 e in let i = leb-true k 501 f in let j = leb-false (max (1 + n) k) 501 g in omega arith)
    by false e q f true g = absurd (let h = leb-false n 500 e in let j = leb-true (max (1 + n) k) 501 g in omega arith)
    by false e q f false g = refl
    by true e false f true g = absurd (let h = leb-false k 501 f in let j = leb-true (max (1 + n) k) 501 g in omega arith)
    by true e false f false g = refl

module _ (v : Sight) (ds : Depths) (measures : Measures v ds) where
  mutual
    pub tree_told : (t : Tree) (bs : List Word) (inf : Bool) (es : Depths) → SameUses es ds → tree_depth v ds bs inf t ≡ told 500 (tree_reads v bs inf t) (nests t es)
    tree_told (node m at ts) bs inf es s = by (form_reads v bs inf m (count ts)) refl (trees_told ts bs (seen_names m) (is_member m) es s)
      where
        by : (b : Bool) → form_reads v bs inf m (count ts) ≡ b
            → (AllUnused ds (seen_names m) → trees_depth v ds bs (seen_names m) (is_member m) ts ≡ told 501 (trees_read v bs (seen_names m) (is_member m) ts) (nest (seen_names m) ts es))
            → if_true b (with_parts (used ds m) (trees_depth v ds bs (seen_names m) (is_member m) ts)) ≡ told 500 (b && trees_read v bs (seen_names m) (is_member m) ts) (max (used es m) (nest (seen_names m) ts es))
        by false e h = refl
        by true e h =
            ap (with_parts (used ds m)) (h (form_unused v ds bs inf m (count ts) measures e))
            ∙ node_told (used ds m) (nest (seen_names m) ts es) (trees_read v bs (seen_names m) (is_member m) ts)
            ∙ ap (λ (k : ℕ). told 500 (trees_read v bs (seen_names m) (is_member m) ts) (max k (nest (seen_names m) ts es))) (sym (used_same ds es s m))

    trees_told : (ts : Trees) (bs : List Word) (names : List (List Word)) (inf : Bool) (es : Depths) → SameUses es ds → AllUnused ds names
        → trees_depth v ds bs names inf ts ≡ told 501 (trees_read v bs names inf ts) (nest names ts es)
    trees_told no_trees bs [] inf es s h = refl
    trees_told no_trees bs (xs ∷ names) inf es s h = refl
    trees_told (tree t ts) bs [] inf es s h =
        (λ i. beside (tree_told t bs (inf && is_last ts) es s i) (trees_told ts bs [] inf es s tt i))
        ∙ part_told (nests t es) (nest [] ts es) (tree_reads v bs (inf && is_last ts) t) (trees_read v bs [] inf ts)
    trees_told (tree t ts) bs (xs ∷ names) inf es s h =
        (λ i. beside (tree_told t (xs ++ bs) (inf && is_last ts) (hidden xs es) (hidden_same ds es xs h.0 s) i) (trees_told ts bs names inf es s h.1 i))
        ∙ part_told (nests t (hidden xs es)) (nest names ts es) (tree_reads v (xs ++ bs) (inf && is_last ts) t) (trees_read v bs names inf ts)

-- ---- a definition

-- what earlier definitions are not named nests not at all
unknown_depth : (es : List Definition) (ds : Depths) (x : Word) → is_defined (arity es x) ≡ false → depth_of_use ds x ≡ 0 → depth_of_use (depths ds es) x ≡ 0
unknown_depth [] ds x h k = k
unknown_depth (e ∷ es) ds x h k = by (arity es x) refl (bytes_eq e.title x) refl (unknown_depth es ((e.title, 1 + definition_nests ds e) ∷ ds) x)
  where
    by : (o : Option ℕ) → arity es x ≡ o → (b : Bool) → bytes_eq e.title x ≡ b
        → (is_defined (arity es x) ≡ false → cond (bytes_eq e.title x) (1 + definition_nests ds e) (depth_of_use ds x) ≡ 0 → depth_of_use (depths ((e.title, 1 + definition_nests ds e) ∷ ds) es) x ≡ 0)
        → depth_of_use (depths ((e.title, 1 + definition_nests ds e) ∷ ds) es) x ≡ 0
    by (Some n) a b f rest = absurd (let q : true ≡ false = rw a at h in cc)
    by None a true f rest = absurd (let q : true ≡ false = rw (a, f) at h in cc)
    by None a false f rest = rest (ap is_defined a) (ap (λ (c : Bool). cond c (1 + definition_nests ds e) (depth_of_use ds x)) f ∙ k)

pub measured_by : (v : Sight) → Measures v (depths [] v.earlier)
measured_by v x h = unknown_depth v.earlier [] x h refl

-- it has a depth exactly if it is read
pub definition_told : (v : Sight) (d : Definition) → definition_depth v (depths [] v.earlier) d ≡ if_so (definition_reads v d) (definition_nests (depths [] v.earlier) d)
definition_told v d = by (not (is_among v.constants d.title)) (are_fresh v [] d.params) refl
  where
    ds : Depths
    ds = depths [] v.earlier

    walked : are_fresh v [] d.params ≡ true → tree_depth v ds d.params false d.body ≡ told 500 (tree_reads v d.params false d.body) (definition_nests ds d)
    walked f = tree_told v ds (measured_by v) d.body d.params false (hidden d.params ds) (hidden_same ds ds d.params (fresh_unused v ds (measured_by v) [] d.params f) (λ x. refl))

    by : (b c : Bool) → are_fresh v [] d.params ≡ c
        → if_true b (if_true c (tree_depth v ds d.params false d.body)) ≡ if_so (b && (c && (tree_reads v d.params false d.body && nat_le (definition_nests ds d) deepest_definition))) (definition_nests ds d)
    by false c f = refl
    by true false f = refl
    by true true f = walked f
