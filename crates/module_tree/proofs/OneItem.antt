-- Items, and lists of them by their columns: a list is the only one with its tokens.
use Rattle.std.proofs.Common.{eq-eqb, nat_eq, ◌≡◌, ℕ, true, false, nat_lt, List, [], ◌∷◌, subst, refl, sym, ap, ◌∙◌, arith}
use Rattle.std.proofs.lemmas.Bool.{both_ways, le-ltb}
use Rattle.tla_token.specs.declared.place.Place.{Place}
use Rattle.tla_token.specs.Places.{start}
use Rattle.tla_tree.specs.declared.op.Op.TheVariants as op
use Rattle.tla_tree.specs.Tree.{Word, Name, words}
use Rattle.tla_tree.specs.Lexical.{TokenView, Token, token, mark, sign, key}
use Rattle.tla_tree.specs.Lexical as tk
use Rattle.tla_tree.specs.Spelling.{Right, tree_of}
use Rattle.tla_tree.proofs.ReadStops.{is_calm, Calm, calm_right}
use Rattle.module_tree.specs.Module.{test, setting, unchanged, exists, local, if_then_else, either, no_items, item, no_branches, branch}
use Rattle.module_tree.specs.Grammar.{see, Names, last_name, more_names, spell_names, names_of, words_of, ItemForm, test_form, setting_form, unchanged_form, exists_form, local_form, choice_form, either_form, ListForm, last_item, more_items, BranchForms, last_branch, more_branches, spell_item, spell_list, spell_branches, item_of, items_of, branches_of, list_column, branch_column, GoodItem, GoodList, GoodBranches}
use Rattle.tla_tree.proofs.ReadAll.{one_before}

-- ---- the first token
abbrev pub tail : List Token → List Token
tail [] = []
tail (t ∷ ts) = ts

abbrev pub sort : TokenView → ℕ
sort (mark tk.open_bracket) = 1
sort (tk.word x) = 2
sort (sign op.And) = 3
sort (sign op.Or) = 4
sort (key tk.exists_key) = 5
sort (key tk.let_key) = 6
sort (key tk.if_key) = 7
sort (key tk.for_all_key) = 8
sort (mark tk.comma) = 9
sort (tk.other w) = 10
sort k = 0

abbrev pub first_sort : List Token → ℕ
first_sort [] = 0
first_sort (t ∷ ts) = sort t.kind

abbrev pub word_of : TokenView → Word
word_of (tk.word x) = x
word_of k = []

abbrev pub first_word : List Token → Word
first_word [] = []
first_word (t ∷ ts) = word_of t.kind

abbrev pub first_col : List Token → ℕ
first_col [] = 0
first_col (t ∷ ts) = t.place.col

-- tokens of which the first ones are of two sorts
pub apart : (ts us : List Token) → nat_eq (first_sort ts) (first_sort us) ≡ false → ts ≡ us → ⊥
apart ts us n h = both_ways (nat_eq (first_sort ts) (first_sort us)) n (eq-eqb (first_sort ts) (first_sort us) (ap first_sort h))

-- ---- names with commas

first_place : List Token → Place
first_place [] = start
first_place (t ∷ ts) = t.place

pub same_name : (p q : Place) (x y : Word) (r s : List Token) → see p (tk.word x) r ≡ see q (tk.word y) s
    → ◌≡◌ {A = Name} (record { word = x; place = p }) (record { word = y; place = q })
unfolding first_place
same_name p q x y r s same = (let d : p ≡ q = ap first_place same in let e : x ≡ y = ap first_word same in λ i. record { word = e i; place = d i })

pub placed_names : (ns ms : Names) (r s : List Token) → nat_eq (first_sort r) 9 ≡ false → nat_eq (first_sort s) 9 ≡ false
    → spell_names ns r ≡ spell_names ms s
    → (names_of ns ≡ names_of ms) × (r ≡ s)
placed_names (last_name p x) (last_name q y) r s c d same = ((let e = same_name p q x y r s same in λ i. e i ∷ []), ap tail same)
placed_names (last_name p x) (more_names q y u ms) r s c d same = absurd (apart r _ c (ap tail same))
placed_names (more_names p x u ns) (last_name q y) r s c d same = absurd (apart s _ d (ap tail (sym same)))
placed_names (more_names p x u ns) (more_names q y v ms) r s c d same =
    let e = same_name p q x y _ _ same in
    let w = placed_names ns ms r s c d (ap (λ (ts : List Token). tail (tail ts)) same) in
    ((λ i. e i ∷ w.0 i), w.1)

pub one_names : (ns ms : Names) (r s : List Token) → nat_eq (first_sort r) 9 ≡ false → nat_eq (first_sort s) 9 ≡ false
    → spell_names ns r ≡ spell_names ms s
    → (words_of ns ≡ words_of ms) × (r ≡ s)
one_names ns ms r s c d same = (let w = placed_names ns ms r s c d same in (ap words w.0, w.1))

-- ---- calm tokens

pub calm_at : (e : ℕ) (p : Place) (k : TokenView) (r : List Token) → Right e p → is_calm k ≡ true → Calm e ((see p k r))
calm_at e p k r g c = rw g c

-- a token in the column of the edge goes on nothing
pub bullet_calm : (c : ℕ) (t : Token) (ts : List Token) → t.place.col ≡ c → Calm c ((t ∷ ts))
bullet_calm c t ts h = (let g : nat_lt c t.place.col ≡ false = le-ltb c t.place.col (omega arith) in rw g refl)

pub list_calm : (c : ℕ) (is : ListForm) → GoodList c is → (r : List Token) → Calm c ((spell_list is r))
list_calm c (last_item p i) g r = bullet_calm c (token p (sign op.And)) (spell_item i r) g.0
list_calm c (more_items p i is) g r = bullet_calm c (token p (sign op.And)) (spell_item i (spell_list is r)) g.0

branches_calm : (c : ℕ) (bs : BranchForms) → GoodBranches c bs → (r : List Token) → Calm c ((spell_branches bs r))
branches_calm c (last_branch p is) g r = bullet_calm c (token p (sign op.Or)) (spell_list is r) g.0
branches_calm c (more_branches p is bs) g r = bullet_calm c (token p (sign op.Or)) (spell_list is (spell_branches bs r)) g.0

-- a bullet right of the edge isn't calm
bullet_stirs : (e c : ℕ) (p : Place) (ts : List Token) → nat_lt e c ≡ true → p.col ≡ c → Calm e ((see p (sign op.And) ts)) → ⊥
bullet_stirs e c p ts l h k = (let g : nat_lt e p.col ≡ true = ap (λ (n : ℕ). nat_lt e n) h ∙ l in both_ways false refl (rw g at k))

branch_stirs : (e c : ℕ) (p : Place) (ts : List Token) → nat_lt e c ≡ true → p.col ≡ c → Calm e ((see p (sign op.Or) ts)) → ⊥
branch_stirs e c p ts l h k = (let g : nat_lt e p.col ≡ true = ap (λ (n : ℕ). nat_lt e n) h ∙ l in both_ways false refl (rw g at k))

no_list_after : (e c : ℕ) (is : ListForm) (r s : List Token) → nat_lt e c ≡ true → GoodList c is → Calm e r → r ≡ spell_list is s → ⊥
no_list_after e c (last_item p i) r s l g k same = bullet_stirs e c p (spell_item i s) l g.0
    (subst (λ (ts : List Token). Calm e ts) same k)
no_list_after e c (more_items p i is) r s l g k same = bullet_stirs e c p (spell_item i (spell_list is s)) l g.0
    (subst (λ (ts : List Token). Calm e ts) same k)

no_branch_after : (e c : ℕ) (bs : BranchForms) (r s : List Token) → nat_lt e c ≡ true → GoodBranches c bs → Calm e r
    → r ≡ spell_branches bs s → ⊥
no_branch_after e c (last_branch p is) r s l g k same = branch_stirs e c p (spell_list is s) l g.0
    (subst (λ (ts : List Token). Calm e ts) same k)
no_branch_after e c (more_branches p is bs) r s l g k same =
    branch_stirs e c p (spell_list is (spell_branches bs s)) l g.0 (subst (λ (ts : List Token). Calm e ts) same k)

-- ---- the first token tells which item it is, and the column of a list

abbrev item_sort : ItemForm → ℕ
item_sort (test_form p a q) = 1
item_sort (setting_form p x q s a) = 2
item_sort (unchanged_form p q ns s) = 10
item_sort (exists_form p q x s a t is) = 5
item_sort (local_form p q x s a t is) = 6
item_sort (choice_form p a q is s js) = 7
item_sort (either_form bs) = 4

branches_first : (bs : BranchForms) (r : List Token) → first_sort (spell_branches bs r) ≡ 4
branches_first (last_branch p is) r = refl
branches_first (more_branches p is bs) r = refl

item_first : (i : ItemForm) (r : List Token) → first_sort (spell_item i r) ≡ item_sort i
item_first (either_form bs) r = branches_first bs r
item_first i r = refl

items_apart : (i j : ItemForm) (r s : List Token) → nat_eq (item_sort i) (item_sort j) ≡ false → spell_item i r ≡ spell_item j s → ⊥
items_apart i j r s n same = both_ways (nat_eq (item_sort i) (item_sort j)) n
    (eq-eqb (item_sort i) (item_sort j) (sym (item_first i r) ∙ ap first_sort same ∙ item_first j s))

pub list_first : (is : ListForm) (r : List Token) → first_sort (spell_list is r) ≡ 3
list_first (last_item p i) r = refl
list_first (more_items p i is) r = refl

list_col : (is : ListForm) (r : List Token) → first_col (spell_list is r) ≡ list_column is
list_col (last_item p i) r = refl
list_col (more_items p i is) r = refl

branch_col : (bs : BranchForms) (r : List Token) → first_col (spell_branches bs r) ≡ branch_column bs
branch_col (last_branch p is) r = refl
branch_col (more_branches p is bs) r = refl

same_column : (is js : ListForm) (r s : List Token) → spell_list is r ≡ spell_list js s → list_column js ≡ list_column is
same_column is js r s same = sym (list_col js s) ∙ ap first_col (sym same) ∙ list_col is r

pub in_column : (is js : ListForm) (r s : List Token) → spell_list is r ≡ spell_list js s → GoodList (list_column js) js
    → GoodList (list_column is) js
in_column is js r s same g = subst (λ (n : ℕ). GoodList n js) (same_column is js r s same) g

branches_in_column : (bs ds : BranchForms) (r s : List Token) → spell_branches bs r ≡ spell_branches ds s → GoodBranches (branch_column ds) ds
    → GoodBranches (branch_column bs) ds
branches_in_column bs ds r s same g = subst (λ (n : ℕ). GoodBranches n ds) (sym (branch_col ds s) ∙ ap first_col (sym same) ∙ branch_col bs r) g

-- ---- items

mutual
  pub one_item : (e : ℕ) (i j : ItemForm) → GoodItem e i → GoodItem e j → (r s : List Token) → Calm e r → Calm e s
      → spell_item i r ≡ spell_item j s → (item_of i ≡ item_of j) × (r ≡ s)
  one_item e (test_form p a q) (test_form x b y) g h r s cr cs same =
      let w = one_before e a b g.1 h.1 (see q (mark tk.close_bracket) r) (see y (mark tk.close_bracket) s)
      (calm_at e q (mark tk.close_bracket) r g.2 refl) (calm_at e y (mark tk.close_bracket) s h.2 refl) (ap tail same) in
      ((λ i. test (tree_of (w.0 i))), ap tail w.1)
  one_item e (setting_form p x q u a) (setting_form l y m n b) g h r s cr cs same =
      let d : x ≡ y = ap first_word same in
      let w = one_before e a b g.3.1 h.3.1 r s cr cs (ap (λ (ts : List Token). tail (tail (tail ts))) same) in
      ((λ i. setting (d i) (tree_of (w.0 i))), w.1)
  one_item e (unchanged_form p q ns t) (unchanged_form l m ms u) g h r s cr cs same =
      let w = one_names ns ms (see t (mark tk.close_tuple) r) (see u (mark tk.close_tuple) s) refl refl
      (ap (λ (ts : List Token). tail (tail ts)) same) in
      ((λ i. unchanged (w.0 i)), ap tail w.1)
  one_item e (exists_form p q x t a u is) (exists_form l m y n b o js) g h r s cr cs same =
      let d : x ≡ y = ap (λ (ts : List Token). first_word (tail ts)) same in
      let w = one_before e a b g.3 h.3 (see u (mark tk.colon) (spell_list is r)) (see o (mark tk.colon) (spell_list js s))
      (calm_at e u (mark tk.colon) (spell_list is r) g.4 refl) (calm_at e o (mark tk.colon) (spell_list js s) h.4 refl)
      (ap (λ (ts : List Token). tail (tail (tail ts))) same) in
      let lists : spell_list is r ≡ spell_list js s = ap tail w.1 in
      let v = one_list e (list_column is) is js g.5 g.6 (in_column is js r s lists h.6) r s cr cs lists in
      ((λ i. exists (d i) (tree_of (w.0 i)) (v.0 i)), v.1)
  one_item e (local_form p q x t a u is) (local_form l m y n b o js) g h r s cr cs same =
      let d : x ≡ y = ap (λ (ts : List Token). first_word (tail ts)) same in
      let w = one_before e a b g.3 h.3 (see u (key tk.in_key) (spell_list is r)) (see o (key tk.in_key) (spell_list js s))
      (calm_at e u (key tk.in_key) (spell_list is r) g.4 refl) (calm_at e o (key tk.in_key) (spell_list js s) h.4 refl)
      (ap (λ (ts : List Token). tail (tail (tail ts))) same) in
      let lists : spell_list is r ≡ spell_list js s = ap tail w.1 in
      let v = one_list e (list_column is) is js g.5 g.6 (in_column is js r s lists h.6) r s cr cs lists in
      ((λ i. local (d i) (tree_of (w.0 i)) (v.0 i)), v.1)
  one_item e (choice_form p a q is t ks) (choice_form l b m js u ls) g h r s cr cs same =
      let r2 = see t (key tk.else_key) (spell_list ks r) in
      let s2 = see u (key tk.else_key) (spell_list ls s) in
      let w = one_before e a b g.1 h.1 (see q (key tk.then_key) (spell_list is r2)) (see m (key tk.then_key) (spell_list js s2))
      (calm_at e q (key tk.then_key) (spell_list is r2) g.2 refl) (calm_at e m (key tk.then_key) (spell_list js s2) h.2 refl) (ap tail same) in
      let lists : spell_list is r2 ≡ spell_list js s2 = ap tail w.1 in
      let v = one_list e (list_column is) is js g.3 g.4 (in_column is js r2 s2 lists h.4) r2 s2
      (calm_at e t (key tk.else_key) (spell_list ks r) g.5 refl) (calm_at e u (key tk.else_key) (spell_list ls s) h.5 refl) lists in
      let others : spell_list ks r ≡ spell_list ls s = ap tail v.1 in
      let z = one_list e (list_column ks) ks ls g.6 g.7 (in_column ks ls r s others h.7) r s cr cs others in
      ((λ i. if_then_else (tree_of (w.0 i)) (v.0 i) (z.0 i)), z.1)
  one_item e (either_form bs) (either_form ds) g h r s cr cs same =
      let w = one_branches e (branch_column bs) bs ds g.0 g.1 (branches_in_column bs ds r s same h.1) r s cr cs same in
      ((λ i. either (w.0 i)), w.1)
  one_item e i j g h r s cr cs same = absurd (items_apart i j r s refl same)

  pub one_list : (e c : ℕ) (is js : ListForm) → nat_lt e c ≡ true → GoodList c is → GoodList c js
      → (r s : List Token) → Calm e r → Calm e s → spell_list is r ≡ spell_list js s → (items_of is ≡ items_of js) × (r ≡ s)
  one_list e c (last_item p i) (last_item q j) l g h r s cr cs same =
      let w = one_item c i j g.1 h.1 r s (calm_right e c r l cr) (calm_right e c s l cs) (ap tail same) in
      ((λ n. item (w.0 n) no_items), w.1)
  one_list e c (last_item p i) (more_items q j js) l g h r s cr cs same =
      let w = one_item c i j g.1 h.1 r (spell_list js s) (calm_right e c r l cr) (list_calm c js h.2 s) (ap tail same) in
      absurd (no_list_after e c js r s l h.2 cr w.1)
  one_list e c (more_items p i is) (last_item q j) l g h r s cr cs same =
      let w = one_item c i j g.1 h.1 (spell_list is r) s (list_calm c is g.2 r) (calm_right e c s l cs) (ap tail same) in
      absurd (no_list_after e c is s r l g.2 cs (sym w.1))
  one_list e c (more_items p i is) (more_items q j js) l g h r s cr cs same =
      let w = one_item c i j g.1 h.1 (spell_list is r) (spell_list js s) (list_calm c is g.2 r) (list_calm c js h.2 s) (ap tail same) in
      let v = one_list e c is js l g.2 h.2 r s cr cs w.1 in
      ((λ n. item (w.0 n) (v.0 n)), v.1)

  one_branches : (e c : ℕ) (bs ds : BranchForms) → nat_lt e c ≡ true → GoodBranches c bs → GoodBranches c ds
      → (r s : List Token) → Calm e r → Calm e s → spell_branches bs r ≡ spell_branches ds s
      → (branches_of bs ≡ branches_of ds) × (r ≡ s)
  one_branches e c (last_branch p is) (last_branch q js) l g h r s cr cs same =
      let lists : spell_list is r ≡ spell_list js s = ap tail same in
      let w = one_list c (list_column is) is js g.1 g.2 (in_column is js r s lists h.2) r s (calm_right e c r l cr)
      (calm_right e c s l cs) lists in
      ((λ n. branch (w.0 n) no_branches), w.1)
  one_branches e c (last_branch p is) (more_branches q js ds) l g h r s cr cs same =
      let lists : spell_list is r ≡ spell_list js (spell_branches ds s) = ap tail same in
      let w = one_list c (list_column is) is js g.1 g.2 (in_column is js r (spell_branches ds s) lists h.2) r (spell_branches ds s)
      (calm_right e c r l cr) (branches_calm c ds h.3 s) lists in
      absurd (no_branch_after e c ds r s l h.3 cr w.1)
  one_branches e c (more_branches p is bs) (last_branch q js) l g h r s cr cs same =
      let lists : spell_list is (spell_branches bs r) ≡ spell_list js s = ap tail same in
      let w = one_list c (list_column is) is js g.1 g.2 (in_column is js (spell_branches bs r) s lists h.2) (spell_branches bs r) s
      (branches_calm c bs g.3 r) (calm_right e c s l cs) lists in
      absurd (no_branch_after e c bs s r l g.3 cs (sym w.1))
  one_branches e c (more_branches p is bs) (more_branches q js ds) l g h r s cr cs same =
      let lists : spell_list is (spell_branches bs r) ≡ spell_list js (spell_branches ds s) = ap tail same in
      let w = one_list c (list_column is) is js g.1 g.2 (in_column is js (spell_branches bs r) (spell_branches ds s) lists h.2) (spell_branches bs r)
      (spell_branches ds s) (branches_calm c bs g.3 r) (branches_calm c ds h.3 s) lists in
      let v = one_branches e c bs ds l g.3 h.3 r s cr cs w.1 in
      ((λ n. branch (w.0 n) (v.0 n)), v.1)
