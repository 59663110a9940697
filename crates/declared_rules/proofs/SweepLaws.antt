-- That all marked expressions are looked at, from the greatest number down.
use Rattle.std.proofs.Common.{◌≡◌, ℕ, zero, suc, ◌+◌, ◌<◌, ◌≤◌, List, [], ◌∷◌, ◌++◌, length, replicate, drop, slice_index_or, Bool, true, false, ◌&&◌, nat_eq, cond, None, refl, sym, ap, subst, ◌∙◌, arith, append-nil, append_assoc, eqb-true}
use Rattle.std.specs.List.{flat_map}
use Rattle.std.proofs.lemmas.List.{drop_more, drop_all, length-drop}
use Rattle.std.proofs.lemmas.Bool.{eqb-false}
use Rattle.tla_token.specs.declared.place.Place.{Place}
use Rattle.tla_token.specs.declared.rule.Refusal.{Refusal}
use Rattle.tla_tree.specs.declared.op.Binder.{Binder}
use Rattle.tla_tree.specs.Tree.{Name, Form, binding, local, strings, Strict, strict, Tree, node, Trees, no_trees, tree}
use Rattle.tla_tree.specs.Pool.{at, trees_at}
use Rattle.tla_value.specs.StandardModules.{is_member, is_last}
use Rattle.pcal_tree.specs.Offences.{first}
use Rattle.pcal_tree.specs.OffencesModules.{strings_offences}
use Rattle.pcal_tree.specs.BoundNames.{all_of, lists_of}
use Rattle.algorithm_answer.specs.Joined.{joined}
use Rattle.algorithm_answer.proofs.Joins.{joined_assoc, joined_none, first_append}
use Rattle.module_outside.specs.declared.modules.Modules.{Modules}
use Rattle.declared_rules.specs.declared.found.Found.{Found}
use Rattle.declared_rules.specs.Parts.{bound, expression, in_trees, expr_parts}
use Rattle.declared_rules.specs.Finding.{is_strings_of, list_offences, sign_in, node_offences, tree_offences, trees_offences, parts_offences, marked, finding, Joins, Adds}
use Rattle.declared_rules.proofs.JoinLaws.{joins_none, joins_then, joins_as, adds_one}
use Rattle.declared_rules.proofs.BodyLaws.{trees_parts}

-- ---- forms

pub binder_joined : (ts : List Tree) (j k : Found) (f : Form) (b : Binder) (gs : List (List Name)) (p : Place) → f ≡ binding b gs → Adds ts j k (bound (all_of gs) ∷ []) → Joins ts j k (node_offences j.modules false f p)
binder_joined ts j k f b gs p e g =
    joins_as ts j k _ _ (sym (append-nil (list_offences j.modules (all_of gs) ++ [])) ∙ ap (λ (f : Form). node_offences j.modules false f p) (sym e)) g.joins

pub local_joined : (ts : List Tree) (j k : Found) (f : Form) (ns : List Name) (p : Place) → f ≡ local ns → Adds ts j k (bound ns ∷ []) → Joins ts j k (node_offences j.modules false f p)
local_joined ts j k f ns p e g =
    joins_as ts j k _ _ (sym (append-nil (list_offences j.modules ns ++ [])) ∙ ap (λ (f : Form). node_offences j.modules false f p) (sym e)) g.joins

pub sign_joined : (ts : List Tree) (j k : Found) (f : Form) (s : Strict) (p : Place) → f ≡ strict s → Joins ts j k (sign_in j.modules (strict s) p) → Joins ts j k (node_offences j.modules false f p)
sign_joined ts j k f s p e g =
    joins_as ts j k _ _ (sym (append-nil (sign_in j.modules (strict s) p)) ∙ ap (λ (f : Form). node_offences j.modules false f p) (sym e)) g

-- ---- one part

-- where it isn't the set of all strings, it is the same wherever it is
strings_aside : (right : Bool) (f : Form) (p : Place) → (right && is_strings_of f) ≡ false → strings_offences false f p ≡ strings_offences right f p
strings_aside false f p e = refl
strings_aside true strings p e = cc
strings_aside true f p e = refl

pub wherever : (m : Modules) (right : Bool) (f : Form) (p : Place) (ts : Trees) → (right && is_strings_of f) ≡ false → tree_offences m false (node f p ts) ≡ tree_offences m right (node f p ts)
wherever m right f p ts e = λ i. (flat_map (λ (ns : List Name). list_offences m ns) (lists_of f) ++ (sign_in m f p ++ strings_aside right f p e i)) ++ trees_offences m (is_member f) ts

-- trees that aren't directly right of \in or \notin
parts_of_trees : (m : Modules) (ts : Trees) → parts_offences m (in_trees ts) ≡ trees_offences m false ts
parts_of_trees m no_trees = refl
parts_of_trees m (tree t ts) = ap (λ (rs : List Refusal). tree_offences m false t ++ rs) (parts_of_trees m ts)

strings_parts : (m : Modules) (f : Form) (p : Place) (ts : Trees) → is_strings_of f ≡ true → trees_offences m false ts ≡ tree_offences m true (node f p ts)
strings_parts m strings p ts e = refl
strings_parts m f p ts e = cc

pub strings_joined : (ts : List Tree) (j k : Found) (right : Bool) (e : ℕ) (f : Form) (p : Place) (is : List ℕ) → at ts e ≡ node f p (trees_at ts is) → right ≡ true → is_strings_of f ≡ true
    → Adds ts j k (flat_map (expr_parts ts) is) → Joins ts j k (tree_offences j.modules right (at ts e))
strings_joined ts j k right e f p is s r h g =
    joins_as ts j k _ _
    (ap (parts_offences j.modules) (trees_parts ts is) ∙ parts_of_trees j.modules (trees_at ts is) ∙ strings_parts j.modules f p (trees_at ts is) h
    ∙ (λ i. tree_offences j.modules (sym r i) (sym s i)))
    g.joins

pub other_joined : (ts : List Tree) (j k : Found) (right : Bool) (e : ℕ) (f : Form) (p : Place) (is : List ℕ) → at ts e ≡ node f p (trees_at ts is) → (right && is_strings_of f) ≡ false
    → Adds ts j k (expr_parts ts e) → Joins ts j k (tree_offences j.modules right (at ts e))
other_joined ts j k right e f p is s h g =
    joins_as ts j k _ _
    (append-nil (tree_offences j.modules false (at ts e)) ∙ ap (tree_offences j.modules false) s ∙ wherever j.modules right f p (trees_at ts is) h ∙ ap (tree_offences j.modules right) (sym s))
    g.joins

-- ---- the parts of a form: what is left of them still gives the whole

last_part : (ts : List Tree) (is : List ℕ) (i : ℕ) → i < length is → is_last (trees_at ts (drop (i + 1) is)) ≡ nat_eq (i + 1) (length is)
last_part ts is i l = by (nat_eq (i + 1) (length is)) refl
  where
    some_left : (is : List ℕ) → 0 < length is → is_last (trees_at ts is) ≡ false
    some_left [] h = absurd (omega (arith, h))
    some_left (i ∷ is) h = refl

    by : (b : Bool) → nat_eq (i + 1) (length is) ≡ b → is_last (trees_at ts (drop (i + 1) is)) ≡ b
    by true e = ap (λ (is : List ℕ). is_last (trees_at ts is)) (drop_all (i + 1) is (let h = eqb-true (i + 1) (length is) e in omega arith))
    by false e = some_left (drop (i + 1) is) (let h = eqb-false (i + 1) (length is) e in let k = length-drop (i + 1) is in omega (arith, h, k, l))

pub parts_then : (ts : List Tree) (j k l : Found) (member right : Bool) (is : List ℕ) (i : ℕ) → i < length is → right ≡ (member && nat_eq (i + 1) (length is))
    → Joins ts j k (tree_offences j.modules right (at ts (slice_index_or is i 0))) → Joins ts k l (trees_offences k.modules member (trees_at ts (drop (i + 1) is)))
    → Joins ts j l (trees_offences j.modules member (trees_at ts (drop i is)))
parts_then ts j k l member right is i less r g h =
    joins_as ts j l _ _
    ((λ t. tree_offences j.modules ((r ∙ ap (λ (b : Bool). member && b) (sym (last_part ts is i less))) t) (at ts (slice_index_or is i 0)) ++ trees_offences j.modules member (trees_at ts (drop (i + 1) is)))
    ∙ ap (λ (ys : List ℕ). trees_offences j.modules member (trees_at ts ys)) (sym (drop_more is i 0 less)))
    (joins_then ts j k l _ _ g (subst (λ (m : Modules). Joins ts k l (trees_offences m member (trees_at ts (drop (i + 1) is)))) g.modules h))

pub parts_over : (ts : List Tree) (k : Found) (member : Bool) (is : List ℕ) (i : ℕ) → length is ≤ i → Joins ts k k (trees_offences k.modules member (trees_at ts (drop i is)))
parts_over ts k member is i less = joins_as ts k k _ _ (ap (λ (ys : List ℕ). trees_offences k.modules member (trees_at ts ys)) (sym (drop_all i is less))) (joins_none ts k)

pub node_adds : (ts : List Tree) (j k l : Found) (e : ℕ) (f : Form) (p : Place) (is : List ℕ) → at ts e ≡ node f p (trees_at ts is) → Joins ts j k (node_offences j.modules false f p)
    → Joins ts k l (trees_offences k.modules (is_member f) (trees_at ts is)) → Adds ts j l (expr_parts ts e)
node_adds ts j k l e f p is s g h =
    adds_one ts j l (expression (at ts e))
    (joins_as ts j l _ _ (ap (tree_offences j.modules false) (sym s))
    (joins_then ts j k l _ _ g (subst (λ (m : Modules). Joins ts k l (trees_offences m (is_member f) (trees_at ts is))) g.modules h)))

-- ---- all of them

one_longer : (bs : List Bool) (b : Bool) → length (bs ++ b ∷ []) ≡ suc (length bs)
one_longer [] b = refl
one_longer (c ∷ bs) b = ap suc (one_longer bs b)

-- with the last mark
marked_last : (m : Modules) (ts : List Tree) (bs : List Bool) (b : Bool) → length bs < length ts → marked m ts (bs ++ b ∷ []) ≡ marked m ts bs ++ cond b (tree_offences m false (at ts (length bs))) []
marked_last m [] bs b l = absurd (omega (arith, l))
marked_last m (t ∷ ts) [] b l = ap (λ (rs : List Refusal). cond b (tree_offences m false t) [] ++ rs) (none ts) ∙ append-nil (cond b (tree_offences m false t) [])
  where
    none : (ts : List Tree) → marked m ts [] ≡ []
    none [] = refl
    none (t ∷ ts) = refl
marked_last m (t ∷ ts) (c ∷ bs) b l =
    ap (λ (rs : List Refusal). cond c (tree_offences m false t) [] ++ rs) (marked_last m ts bs b (omega (arith, l)))
    ∙ sym (append_assoc (cond c (tree_offences m false t) []) (marked m ts bs) (cond b (tree_offences m false (at ts (length bs))) []))

pub finding_last : (ts : List Tree) (old popped : Found) (b : Bool) → popped.modules ≡ old.modules → popped.first ≡ old.first → old.marks.items ≡ popped.marks.items ++ b ∷ [] → length old.marks.items ≤ length ts
    → finding ts old ≡ joined (finding ts popped) (first (cond b (tree_offences popped.modules false (at ts (length popped.marks.items))) []))
finding_last ts old popped b m f e few =
    (λ i. joined (sym f i) (first (marked (sym m i) ts (e i))))
    ∙ ap (λ (rs : List Refusal). joined popped.first (first rs)) (marked_last popped.modules ts popped.marks.items b (shorter (length old.marks.items) few (ap length e ∙ one_longer popped.marks.items b)))
    ∙ ap (joined popped.first) (first_append (marked popped.modules ts popped.marks.items) _)
    ∙ sym (joined_assoc popped.first (first (marked popped.modules ts popped.marks.items)) _)
  where
    shorter : (n : ℕ) → n ≤ length ts → n ≡ suc (length popped.marks.items) → length popped.marks.items < length ts
    shorter n h k = omega (arith, h, k)

pub finding_unmarked : (ts : List Tree) (old popped : Found) (b : Bool) → b ≡ false → finding ts old ≡ joined (finding ts popped) (first (cond b (tree_offences popped.modules false (at ts (length popped.marks.items))) []))
    → finding ts popped ≡ finding ts old
finding_unmarked ts old popped b e h =
    sym (h ∙ ap (λ (c : Bool). joined (finding ts popped) (first (cond c (tree_offences popped.modules false (at ts (length popped.marks.items))) []))) e ∙ joined_none (finding ts popped))

pub finding_marked : (ts : List Tree) (old popped new : Found) (b : Bool) (e : ℕ) → b ≡ true → e ≡ length popped.marks.items
    → finding ts old ≡ joined (finding ts popped) (first (cond b (tree_offences popped.modules false (at ts (length popped.marks.items))) []))
    → Adds ts popped new (expr_parts ts e) → finding ts new ≡ finding ts old
finding_marked ts old popped new b e t s h g =
    g.joins.value
    ∙ ap (λ (rs : List Refusal). joined (finding ts popped) (first rs)) (append-nil (tree_offences popped.modules false (at ts e)) ∙ ap (λ (n : ℕ). tree_offences popped.modules false (at ts n)) s)
    ∙ sym (h ∙ ap (λ (c : Bool). joined (finding ts popped) (first (cond c (tree_offences popped.modules false (at ts (length popped.marks.items))) []))) t)

no_marks : (m : Modules) (ts : List Tree) → marked m ts [] ≡ []
no_marks m [] = refl
no_marks m (t ∷ ts) = refl

-- where no mark is left
pub finding_first : (ts : List Tree) (k : Found) → k.marks.items ≡ [] → k.first ≡ finding ts k
finding_first ts k e = sym (joined_none k.first) ∙ ap (λ (rs : List Refusal). joined k.first (first rs)) (sym (ap (marked k.modules ts) e ∙ no_marks k.modules ts))

unmarked : (m : Modules) (ts : List Tree) (n : ℕ) → marked m ts (replicate n false) ≡ []
unmarked m [] n = refl
unmarked m (t ∷ ts) zero = refl
unmarked m (t ∷ ts) (suc n) = unmarked m ts n

pub finding_none : (ts : List Tree) (k : Found) (n : ℕ) → k.first ≡ None → k.marks.items ≡ replicate n false → finding ts k ≡ None
finding_none ts k n f e = (λ i. joined (f i) (first (marked k.modules ts (e i)))) ∙ ap first (unmarked k.modules ts n)

-- ---- lists of marks

pub less_marked : (bs cs : List Bool) (b : Bool) (n : ℕ) → bs ≡ cs ++ b ∷ [] → length bs ≤ n → length cs ≤ n
less_marked bs cs b n e l = let k = ap length e ∙ one_longer cs b in omega (arith, k, l)

pub none_marked : (bs : List Bool) → length bs ≡ 0 → bs ≡ []
none_marked [] e = refl
none_marked (b ∷ bs) e = absurd (omega (arith, e))
