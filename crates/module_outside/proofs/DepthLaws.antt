-- How deep an expression nests, part by part, by what is kept in memory of what is seen and bound.
use Rattle.std.proofs.Common.{◌≡◌, ℕ, zero, suc, ◌+◌, ◌<◌, ◌≤◌, max, Bool, true, false, not, ◌||◌, ◌&&◌, nat_eq, nat_lt, List, [], ◌∷◌, ◌++◌, length, map, take, drop, get_or, Option, Some, None, refl, sym, ap, ◌∙◌, arith, cond, lt-ltb, ltb-true, ltb-false, eqb-true}
use Rattle.std.specs.List.{flat_map}
use Rattle.std.proofs.lemmas.List.{drop_more, drop_all, length-map, length-drop}
use Rattle.std.proofs.lemmas.Bool.{eqb-false}
use Rattle.tla_tree.specs.declared.op.Binder.{Binder}
use Rattle.tla_tree.specs.declared.op.Binder.TheVariants as binder
use Rattle.tla_tree.specs.Tree.{Name, Word, words, Form, name, operator_call, binding, local, Tree, beginnings, seen_names}
use Rattle.tla_tree.specs.TreeOf.{trees_from}
use Rattle.tla_tree.specs.Shapes.{BinderShaped, Shaped}
use Rattle.tla_tree.specs.Pool.{Entry, at, trees_at, tree_in}
use Rattle.tla_token.specs.Signs.{is_among}
use Rattle.tla_value.specs.Definitions.{Definition}
use Rattle.tla_value.specs.DefinitionNesting.{Depths, depths, used}
use Rattle.tla_value.specs.StandardModules.{is_member, is_last}
use Rattle.module_tree.specs.Outside as pure
use Rattle.module_tree.specs.Outside.{are_fresh, form_reads, count, arity, is_arity, has_standard}
use Rattle.outside_reading.specs.TreeDepth.{if_true, with_parts, beside, first_names, more_names, tree_depth, trees_depth, definition_depth}
use Rattle.algorithm_limits.specs.Numbers.{number_of}
use Rattle.algorithm_limits.specs.DepthsIn.{seen_by}
use Rattle.module_outside.specs.declared.sight.Sight.{Sight}
use Rattle.module_outside.specs.SightIn.{Binds, past_arity, Sees, name_reads_in, call_reads_in}
use Rattle.module_outside.proofs.ModuleLaws.{names_given}

-- ---- the names that each part sees

-- none of a list past its end
abbrev nth : List (List Word) → ℕ → List Word
nth names i = first_names (drop i names)

shaped_binder : (b : Binder) (gs : List (List Name)) (n : ℕ) → BinderShaped b gs n → n ≡ suc (length gs)
shaped_binder binder.Filter [] n h = absurd h.0
shaped_binder binder.Filter ([] ∷ gs) n h = absurd h.0
shaped_binder binder.Filter ((x ∷ []) ∷ []) n h = h.1
shaped_binder binder.Filter ((x ∷ []) ∷ g ∷ gs) n h = absurd h.0
shaped_binder binder.Filter ((x ∷ y ∷ xs) ∷ gs) n h = absurd h.0
shaped_binder b gs n h = h.1

group_seen : (all : List Word) (gs : List (List Name)) (i : ℕ) → i ≤ length gs → nth (map (λ (xs : List Name). []) gs ++ all ∷ []) i ≡ cond (nat_lt i (length gs)) [] all
group_seen all [] zero h = refl
group_seen all [] (suc i) h = absurd (omega (arith, h))
group_seen all (g ∷ gs) zero h = ap (λ (b : Bool). cond b [] all) (sym (lt-ltb 0 (length (g ∷ gs)) (omega arith)))
group_seen all (g ∷ gs) (suc i) h = group_seen all gs i (omega (arith, h)) ∙ ap (λ (b : Bool). cond b [] all) (same_lt i (length gs))
  where
    same_lt : (i n : ℕ) → nat_lt i n ≡ nat_lt (suc i) (suc n)
    same_lt i n = by (nat_lt i n) refl (nat_lt (suc i) (suc n)) refl
      where
        by : (a : Bool) → nat_lt i n ≡ a → (b : Bool) → nat_lt (suc i) (suc n) ≡ b → a ≡ b
        by true e true f = refl
        by true e false f = absurd (let h = ltb-true i n e in let k = ltb-false (suc i) (suc n) f in omega arith)
        by false e true f = absurd (let h = ltb-false i n e in let k = ltb-true (suc i) (suc n) f in omega arith)
        by false e false f = refl

words_taken : (xs : List Name) (i : ℕ) → words (take i xs) ≡ take i (words xs)
words_taken xs zero = refl
words_taken [] (suc i) = refl
words_taken (x ∷ xs) (suc i) = ap (λ (ws : List Word). x.word ∷ ws) (words_taken xs i)

local_seen : (ws : List Word) (i : ℕ) → i ≤ length ws → nth (beginnings ws) i ≡ take i ws
local_seen [] zero h = refl
local_seen [] (suc i) h = absurd (omega (arith, h))
local_seen (w ∷ ws) zero h = refl
local_seen (w ∷ ws) (suc i) h = mapped (beginnings ws) i (many ws i (omega (arith, h))) ∙ ap (λ (ys : List Word). w ∷ ys) (local_seen ws i (omega (arith, h)))
  where
    many : (ws : List Word) (i : ℕ) → i ≤ length ws → i < length (beginnings ws)
    many [] i h = omega (arith, h)
    many (v ∷ ws) zero h = omega arith
    many (v ∷ ws) (suc i) h = (let k = many ws i (omega (arith, h)) in let l = length-map (beginnings ws) (λ (ys : List Word). v ∷ ys) in omega (arith, k, l))

    mapped : (l : List (List Word)) (i : ℕ) → i < length l → nth (map (λ (ys : List Word). w ∷ ys) l) i ≡ w ∷ nth l i
    mapped [] i h = absurd (omega (arith, h))
    mapped (ys ∷ l) zero h = refl
    mapped (ys ∷ l) (suc i) h = mapped l i (omega (arith, h))

pub part_sees : (m : Form) (n i : ℕ) → Shaped m n → i < n → nth (seen_names m) i ≡ seen_by m i
part_sees (binding b gs) n i s l = group_seen (flat_map words gs) gs i (let e = shaped_binder b gs n s in omega (arith, e, l))
part_sees (local xs) n i s l = local_seen (words xs) i (let e = s.1 in let k = length-map xs (λ (x : Name). x.word) in omega (arith, e, k, l)) ∙ sym (words_taken xs i)
part_sees m n zero s l = refl
part_sees m n (suc i) s l = refl

more_dropped : (names : List (List Word)) (i : ℕ) → more_names (drop i names) ≡ drop (suc i) names
more_dropped [] zero = refl
more_dropped [] (suc i) = refl
more_dropped (xs ∷ names) zero = refl
more_dropped (xs ∷ names) (suc i) = more_dropped names i

-- ---- one part more

-- so deep so far, and the parts to come
abbrev pub joined : ℕ → Option ℕ → Option ℕ
joined d (Some n) = Some (max d n)
joined d None = None

joined_beside : (d n k : ℕ) (o : Option ℕ) → k ≡ max d (n + 1) → joined d (beside (Some n) o) ≡ joined k o
joined_beside d n k None e = refl
joined_beside d n k (Some j) e = ap (λ (z : ℕ). Some z) (omega (arith, e))

last_part : (ts : List Tree) (ids : List ℕ) (i : ℕ) → i < length ids → is_last (trees_at ts (drop (i + 1) ids)) ≡ nat_eq (i + 1) (length ids)
last_part ts ids i l = by (nat_eq (i + 1) (length ids)) refl
  where
    some_left : (is : List ℕ) → 0 < length is → is_last (trees_at ts is) ≡ false
    some_left [] h = absurd (omega (arith, h))
    some_left (i ∷ is) h = refl

    by : (b : Bool) → nat_eq (i + 1) (length ids) ≡ b → is_last (trees_at ts (drop (i + 1) ids)) ≡ b
    by true e = ap (λ (is : List ℕ). is_last (trees_at ts is)) (drop_all (i + 1) ids (let h = eqb-true (i + 1) (length ids) e in omega arith))
    by false e = some_left (drop (i + 1) ids) (let h = eqb-false (i + 1) (length ids) e in let k = length-drop (i + 1) ids in omega (arith, h, k, l))

module _ (v : pure.Sight) (bs : List Word) (ts : List Tree) (m : Form) (ids : List ℕ) (i e : ℕ) (is : e ≡ get_or ids i e) (l : i < length ids) where
  abbrev ds : Depths
  ds = depths [] v.earlier

  abbrev whole : Option ℕ
  whole = trees_depth v ds bs (seen_names m) (is_member m) (trees_at ts ids)

  abbrev from : ℕ → Option ℕ
  from i = trees_depth v ds bs (drop i (seen_names m)) (is_member m) (trees_at ts (drop i ids))

  step : (inf : Bool) → inf ≡ (is_member m && nat_eq (i + 1) (length ids)) → Shaped m (length ids) → from i ≡ beside (tree_depth v ds (seen_by m i ++ bs) inf (at ts e)) (from (i + 1))
  step inf f s =
      ap (λ (js : List ℕ). trees_depth v ds bs (drop i (seen_names m)) (is_member m) (trees_at ts js)) (drop_more ids i e l ∙ ap (λ (z : ℕ). z ∷ drop (i + 1) ids) (sym is))
      ∙ (λ j. beside (tree_depth v ds (part_sees m (length ids) i s l j ++ bs) ((ap (λ (b : Bool). is_member m && b) (last_part ts ids i l) ∙ sym f) j) (at ts e))
      (trees_depth v ds bs ((more_dropped (seen_names m) i ∙ ap (λ (n : ℕ). drop n (seen_names m)) (next i)) j) (is_member m) (trees_at ts (drop (i + 1) ids))))
    where
      next : (i : ℕ) → suc i ≡ i + 1
      next i = omega arith

  pub part_more : (inf : Bool) (d n k : ℕ) → inf ≡ (is_member m && nat_eq (i + 1) (length ids)) → Shaped m (length ids) → Some n ≡ tree_depth v ds (seen_by m i ++ bs) inf (at ts e) → k ≡ max d (n + 1)
      → joined d (from i) ≡ whole → joined k (from (i + 1)) ≡ whole
  part_more inf d n k f s h g inv = sym (joined_beside d n k (from (i + 1)) g) ∙ ap (λ (o : Option ℕ). joined d (beside o (from (i + 1)))) h ∙ ap (joined d) (sym (step inf f s)) ∙ inv

  pub part_none : (inf : Bool) (d : ℕ) → inf ≡ (is_member m && nat_eq (i + 1) (length ids)) → Shaped m (length ids) → None ≡ tree_depth v ds (seen_by m i ++ bs) inf (at ts e)
      → joined d (from i) ≡ whole → None ≡ whole
  part_none inf d f s h inv = ap (λ (o : Option ℕ). joined d (beside o (from (i + 1)))) h ∙ ap (joined d) (sym (step inf f s)) ∙ inv

pub parts_first : (o : Option ℕ) → joined 0 o ≡ o
parts_first None = refl
parts_first (Some n) = ap (λ (z : ℕ). Some z) (omega arith)

pub parts_end : (v : pure.Sight) (bs : List Word) (ts : List Tree) (m : Form) (ids : List ℕ) (i d : ℕ) (whole : Option ℕ) → length ids ≤ i
    → joined d (trees_depth v (depths [] v.earlier) bs (drop i (seen_names m)) (is_member m) (trees_at ts (drop i ids))) ≡ whole → Some d ≡ whole
parts_end v bs ts m ids i d whole l h =
    ap (λ (z : ℕ). Some z) (omega arith)
    ∙ ap (λ (js : List ℕ). joined d (trees_depth v (depths [] v.earlier) bs (drop i (seen_names m)) (is_member m) (trees_at ts js))) (sym (drop_all i ids l)) ∙ h

-- ---- a node

counted : (us : List Tree) → count (trees_from us) ≡ length us
counted [] = refl
counted (u ∷ us) = (let h = counted us in omega (arith, h))

pub node_depth : (v : pure.Sight) (bs : List Word) (ts : List Tree) (e : ℕ) (n : Entry) (inf b : Bool) (own : ℕ) (parts : Option ℕ) → at ts e ≡ tree_in ts n
    → b ≡ form_reads v bs inf n.form (length n.parts) → own ≡ used (depths [] v.earlier) n.form
    → parts ≡ trees_depth v (depths [] v.earlier) bs (seen_names n.form) (is_member n.form) (trees_at ts n.parts)
    → if_true b (with_parts own parts) ≡ tree_depth v (depths [] v.earlier) bs inf (at ts e)
node_depth v bs ts e n inf b own parts is r o p =
    (λ i. if_true ((r ∙ ap (form_reads v bs inf n.form) (sym (counted (map (at ts) n.parts) ∙ length-map n.parts (at ts)))) i) (with_parts (o i) (p i)))
    ∙ ap (tree_depth v (depths [] v.earlier) bs inf) (sym is)

-- ---- names

arity_seen : (s : Sight) (v : pure.Sight) (x : Word) (n : ℕ) → Sees s v → nat_eq (number_of s.arities x) (n + 1) ≡ is_arity (arity v.earlier x) n
arity_seen s v x n h = ap (λ (k : ℕ). nat_eq k (n + 1)) (h.arities x) ∙ by (arity v.earlier x)
  where
    same_eq : (k n : ℕ) → nat_eq (k + 1) (n + 1) ≡ nat_eq k n
    same_eq k n = of (nat_eq (k + 1) (n + 1)) refl (nat_eq k n) refl
      where
        of : (a : Bool) → nat_eq (k + 1) (n + 1) ≡ a → (b : Bool) → nat_eq k n ≡ b → a ≡ b
        of true e true f = refl
        of true e false f = absurd (let h = eqb-true (k + 1) (n + 1) e in let j = eqb-false k n f in omega (arith, j))
        of false e true f = absurd (let h = eqb-true k n f in let j = eqb-false (k + 1) (n + 1) e in omega (arith, j))
        of false e false f = refl

    none_eq : (n : ℕ) → nat_eq 0 (n + 1) ≡ false
    none_eq n = of (nat_eq 0 (n + 1)) refl
      where
        of : (b : Bool) → nat_eq 0 (n + 1) ≡ b → b ≡ false
        of true e = absurd (let h = eqb-true 0 (n + 1) e in omega arith)
        of false e = refl

    by : (o : Option ℕ) → nat_eq (past_arity o) (n + 1) ≡ is_arity o n
    by None = none_eq n
    by (Some k) = same_eq k n

pub name_seen : (s : Sight) (v : pure.Sight) (hs bs : List Word) (inf : Bool) (x : Word) → Sees s v → Binds hs bs → name_reads_in s hs inf x ≡ form_reads v bs inf (name x) 0
name_seen s v hs bs inf x h b = λ i. b x i || (h.constants x i || (arity_seen s v x 0 h i || names_given s.modules v h.modules inf 0 x i))

pub call_seen : (s : Sight) (v : pure.Sight) (bs : List Word) (inf : Bool) (f : Word) (n : ℕ) → Sees s v → call_reads_in s inf f n ≡ form_reads v bs inf (operator_call f) n
call_seen s v bs inf f n h = λ i. arity_seen s v f n h i || names_given s.modules v h.modules inf n f i

-- ---- a definition

pub definition_is : (v : pure.Sight) (d : Definition) (o : Option ℕ) → is_among v.constants d.title ≡ false → are_fresh v [] d.params ≡ true → o ≡ tree_depth v (depths [] v.earlier) d.params false d.body → o ≡ definition_depth v (depths [] v.earlier) d
definition_is v d o c f h = h ∙ (λ i. if_true (not (sym c i)) (if_true (sym f i) (tree_depth v (depths [] v.earlier) d.params false d.body)))
