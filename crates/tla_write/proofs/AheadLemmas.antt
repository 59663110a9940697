-- What is ahead: what it shows one after another, and why there is an end to it.
use Rattle.std.proofs.Common.{◌≡◌, ℕ, zero, suc, ◌+◌, ◌<◌, ◌≤◌, Bool, true, false, List, [], ◌∷◌, ◌++◌, length, take, get_or, Some, refl, sym, ap, subst, ◌∙◌, arith}
use Rattle.std.specs.Prelude.{slice_get}
use Rattle.tla_write.specs.declared.write.Ahead.{Ahead}
use Rattle.tla_write.specs.declared.write.Ahead.TheVariants as ahead
use Rattle.tla_write.specs.declared.write.Item.{Item}
use Rattle.tla_write.specs.declared.write.Item.TheVariants as item
use Rattle.tla_tree.specs.Tree.{Form, Tree, Trees, node, no_trees, tree}
use Rattle.tla_tree.specs.TreeOf.{list_of, root_form, root_parts}
use Rattle.tla_tree.specs.Written.{Piece, Part, part, form_part, text_of}
use Rattle.tla_write.specs.Writing.{part_at, item_pieces, shown, parts_of, Puts}
use Rattle.tla_write.specs.Ahead.{PutsAhead, Begins, blanks, weight, loads, left, next_pieces, next_weight, all_ahead, all_weight}
use Rattle.std.proofs.lemmas.List.{length-map, take_more}
use Rattle.tla_write.proofs.WritingLemmas.{shown_append, part_past, part_found, part_is}

-- an item that is no part shows the same of any tree
same_item : (xs : List Part) (j : Item) → ((i : ℕ) (b : Bool) → j ≡ item.Part i b → ⊥) → (ps : List Piece) → item_pieces [] j ps ≡ item_pieces xs j ps
same_item xs item.Blank h ps = refl
same_item xs (item.Fixed f) h ps = refl
same_item xs (item.Sign o) h ps = refl
same_item xs (item.Word x) h ps = refl
same_item xs (item.Field x) h ps = refl
same_item xs (item.Number n) h ps = refl
same_item xs (item.Quote x) h ps = refl
same_item xs (item.Part i b) h ps = absurd (h i b refl)

length_blanks : (n : ℕ) (ps : List Piece) → length (blanks n ps) ≡ n + length ps
length_blanks zero ps = omega arith
length_blanks (suc n) ps = (let e = length_blanks n ps in omega (arith, e))

-- a part that is there shows its weight, and one past the last is nothing
load_found : (ts : Trees) (i : ℕ) (r : Tree) → slice_get (list_of ts) i ≡ Some r → (b : Bool) (ps : List Piece) → length (part_at (loads ts) i b ps) ≡ weight r + length ps
load_found no_trees i r h b ps = absurd cc
load_found (tree t ts) zero r h b ps = (let e : t ≡ r = cc in length_blanks (weight t) ps ∙ ap (λ (u : Tree). weight u + length ps) e)
load_found (tree t ts) (suc i) r h b ps = load_found ts i r h b ps

load_past : (ts : Trees) (i : ℕ) (b : Bool) (ps : List Piece) → length (list_of ts) ≤ i → part_at (loads ts) i b ps ≡ ps
load_past no_trees i b ps h = refl
load_past (tree t ts) zero b ps h = absurd (omega (arith, h))
load_past (tree t ts) (suc i) b ps h = load_past ts i b ps (omega (arith, h))

length_loads : (ts : Trees) → length (loads ts) ≡ length (list_of ts)
length_loads no_trees = refl
length_loads (tree t ts) = ap suc (length_loads ts)

all_ahead_append : (row : List Ahead) (a : Ahead) (ps : List Piece) → all_ahead (row ++ a ∷ []) ps ≡ next_pieces a (all_ahead row ps)
all_ahead_append [] a ps = refl
all_ahead_append (c ∷ row) a ps = all_ahead_append row a (next_pieces c ps)

all_weight_append : (row : List Ahead) (a : Ahead) → all_weight (row ++ a ∷ []) ≡ next_weight a + all_weight row
all_weight_append [] a = omega arith
all_weight_append (c ∷ row) a = (let e = all_weight_append row a in omega (arith, e))

-- ---- the items of a plan come ahead, one after the other
left_found : (t : Tree) (is : List Item) (i : ℕ) (b : Bool) (r : Tree) → slice_get (root_parts t) i ≡ Some r → left t (is ++ item.Part i b ∷ []) ≡ weight r + left t is
left_found (node m at ts) is i b r h = ap length (shown_append (loads ts) is (item.Part i b ∷ []) []) ∙ load_found ts i r h b (shown (loads ts) is [])

left_past : (t : Tree) (is : List Item) (i : ℕ) (b : Bool) → length (root_parts t) ≤ i → left t (is ++ item.Part i b ∷ []) ≡ left t is
left_past (node m at ts) is i b h = ap length (shown_append (loads ts) is (item.Part i b ∷ []) [] ∙ load_past ts i b (shown (loads ts) is []) h)

one_piece : (j : Item) → ((i : ℕ) (b : Bool) → j ≡ item.Part i b → ⊥) → (ps : List Piece) → length (item_pieces [] j ps) ≡ 1 + length ps
one_piece item.Blank h ps = omega arith
one_piece (item.Fixed f) h ps = omega arith
one_piece (item.Sign o) h ps = omega arith
one_piece (item.Word x) h ps = omega arith
one_piece (item.Field x) h ps = omega arith
one_piece (item.Number n) h ps = omega arith
one_piece (item.Quote x) h ps = omega arith
one_piece (item.Part i b) h ps = absurd (h i b refl)

left_plain : (t : Tree) (is : List Item) (j : Item) → ((i : ℕ) (b : Bool) → j ≡ item.Part i b → ⊥) → left t (is ++ j ∷ []) ≡ 1 + left t is
left_plain (node m at ts) is j h =
    ap length (shown_append (loads ts) is (j ∷ []) [] ∙ sym (same_item (loads ts) j h (shown (loads ts) is []))) ∙ one_piece j h (shown (loads ts) is [])

put_one : (t : Tree) (is : List Item) (j : Item) (base old : List Ahead) (a : Ahead) → PutsAhead t is base old → ((ps : List Piece) → next_pieces a ps ≡ item_pieces (parts_of t) j ps) → left t (is ++ j ∷ []) ≡ next_weight a + left t is
    → PutsAhead t (is ++ j ∷ []) base (old ++ a ∷ [])
put_one t is j base old a h p w = (
  (λ ps. all_ahead_append old a ps ∙ p (all_ahead old ps) ∙ ap (λ (qs : List Piece). item_pieces (parts_of t) j qs) (h.0 ps) ∙ sym (shown_append (parts_of t) is (j ∷ []) (all_ahead base ps))),
  (let e = all_weight_append old a in let k = h.1 in omega (arith, e, k, w)),
)

-- the plan so far, and one item more of it
one_more : (is : List Item) (k : ℕ) (j : Item) → j ≡ get_or is k j → k < length is → take k is ++ j ∷ [] ≡ take (k + 1) is
one_more is k j e l = ap (λ (i : Item). take k is ++ i ∷ []) e ∙ sym (take_more is k j l)

pub put_found : (t : Tree) (is : List Item) (k : ℕ) (j : Item) (i : ℕ) (b : Bool) (r : Tree) (base old new : List Ahead) → j ≡ get_or is k j → k < length is → j ≡ item.Part i b → slice_get (root_parts t) i ≡ Some r → new ≡ old ++ ahead.Part r b ∷ []
    → PutsAhead t (take k is) base old → PutsAhead t (take (k + 1) is) base new
put_found t is k j i b r base old new e l p found n h =
    subst (λ (ks : List Item). PutsAhead t ks base new) (ap (λ (m : Item). take k is ++ m ∷ []) (sym p) ∙ one_more is k j e l)
    (subst (λ (row : List Ahead). PutsAhead t (take k is ++ item.Part i b ∷ []) base row) (sym n)
    (put_one t (take k is) (item.Part i b) base old (ahead.Part r b) h (λ ps. ap (λ (a : Part). a b ps) (sym (part_found (root_parts t) i r found))) (left_found t (take k is) i b r found)))

pub put_past : (t : Tree) (is : List Item) (k : ℕ) (j : Item) (i : ℕ) (b : Bool) (base old : List Ahead) → j ≡ get_or is k j → k < length is → j ≡ item.Part i b → length (root_parts t) ≤ i
    → PutsAhead t (take k is) base old → PutsAhead t (take (k + 1) is) base old
put_past t is k j i b base old e l p past h =
    subst (λ (ks : List Item). PutsAhead t ks base old) (ap (λ (m : Item). take k is ++ m ∷ []) (sym p) ∙ one_more is k j e l) (
      (λ ps. h.0 ps ∙ sym (shown_append (parts_of t) (take k is) (item.Part i b ∷ []) (all_ahead base ps) ∙ part_past (root_parts t) i b (shown (parts_of t) (take k is) (all_ahead base ps)) past)),
      (let w = left_past t (take k is) i b past in let m = h.1 in omega (arith, w, m)),
    )

pub put_plain : (t : Tree) (is : List Item) (k : ℕ) (j : Item) (base old new : List Ahead) → j ≡ get_or is k j → k < length is → ((i : ℕ) (b : Bool) → j ≡ item.Part i b → ⊥) → new ≡ old ++ ahead.Item j ∷ []
    → PutsAhead t (take k is) base old → PutsAhead t (take (k + 1) is) base new
put_plain t is k j base old new e l plain n h =
    subst (λ (ks : List Item). PutsAhead t ks base new) (one_more is k j e l)
    (subst (λ (row : List Ahead). PutsAhead t (take k is ++ j ∷ []) base row) (sym n)
    (put_one t (take k is) j base old (ahead.Item j) h (λ ps. same_item (parts_of t) j plain ps) (left_plain t (take k is) j plain)))

-- ---- what is begun is less than the expression was
pub begun : (t : Tree) (operand : Bool) (m : Form) (cleared is : List Item) (n : ℕ) (old new : List Ahead) → m ≡ root_form t → cleared ≡ [] → n ≡ length (root_parts t) → Puts n cleared is (λ xs. form_part m xs operand) → PutsAhead t is old new → Begins t operand old new
begun t operand m cleared is n old new f c e h p =
    let puts : (xs : List Part) → length xs ≡ n → (ps : List Piece) → shown xs is ps ≡ form_part (root_form t) xs operand ps = (λ xs l ps. h xs l ps ∙ ap (λ (js : List Item). form_part m xs operand (shown xs js ps)) c ∙ ap (λ (k : Form). form_part k xs operand ps) f) in
    let less = begun_less t operand is n e puts in
    let k = p.1 in
    ((λ ps. p.0 ps ∙ puts (parts_of t) (length-map (root_parts t) part ∙ sym e) (all_ahead old ps) ∙ part_is t operand (all_ahead old ps)), omega (arith, less, k))
  where
    begun_less : (u : Tree) (b : Bool) (js : List Item) (k : ℕ) → k ≡ length (root_parts u) → ((xs : List Part) → length xs ≡ k → (ps : List Piece) → shown xs js ps ≡ form_part (root_form u) xs b ps) → suc (left u js) < weight u
    begun_less (node m at ts) true js k d q = (let f = ap length (q (loads ts) (length_loads ts ∙ sym d) []) in omega (arith, f))
    begun_less (node m at ts) false js k d q = (let f = ap length (q (loads ts) (length_loads ts ∙ sym d) []) in omega (arith, f))

-- ---- a step of the whole
pub step_on : (row rest new : List Ahead) (next : Ahead) (from old into : List ℕ) (f : List Piece → List Piece) → row ≡ rest ++ next ∷ [] → ((ps : List Piece) → into ++ text_of (all_ahead new ps) ≡ old ++ text_of (next_pieces next (all_ahead rest ps)))
    → ((ps : List Piece) → old ++ text_of (all_ahead row ps) ≡ from ++ text_of (f ps)) → (ps : List Piece) → into ++ text_of (all_ahead new ps) ≡ from ++ text_of (f ps)
step_on row rest new next from old into f e g h ps =
    g ps ∙ ap (λ (qs : List Piece). old ++ text_of qs) (sym (all_ahead_append rest next ps) ∙ ap (λ (l : List Ahead). all_ahead l ps) (sym e)) ∙ h ps

pub step_less : (row rest new : List Ahead) (next : Ahead) → row ≡ rest ++ next ∷ [] → all_weight new < next_weight next + all_weight rest → all_weight new < all_weight row
step_less row rest new next e l = (let a = ap all_weight e in let b = all_weight_append rest next in omega (arith, a, b, l))
