-- How the units of a translation are spelled: units begin in column 1, lists go by the columns of their bullets ("Specifying Systems", sections 15.1 and 15.2).
use Rattle.std.specs.Prelude.{◌≡◌, ℕ, nat_lt, IsTrue, List, [], ◌∷◌, codes}
use Rattle.tla_token.specs.declared.place.Place.{Place}
use Rattle.tla_tree.specs.declared.op.Op.TheVariants as op
use Rattle.tla_tree.specs.Tree.{Word, Name, words}
use Rattle.tla_tree.specs.Lexical.{TokenView, Token, token, sign, mark, key}
use Rattle.tla_tree.specs.Lexical as tk
use Rattle.tla_tree.specs.Spelling.{Phrase, Right, Good, head, is_primary, word, spell, tree_of}
use Rattle.module_tree.specs.Module.{Item, test, setting, unchanged, exists, local, if_then_else, either, Items, no_items, item, Branches, no_branches, branch, Call, call, call_with, Way, one_way, some_way}

-- the tokens of a form before others: t r
abbrev pub Tokens : Type 0
Tokens = List Token → List Token

abbrev pub see : Place → TokenView → Tokens
see p k r = token p k ∷ r

-- a reserved word that stands in no expression
abbrev pub keyword : Place → Word → Tokens
keyword p w r = see p (tk.other w) r

-- ---- names with commas
pub data Names : Type 0 where
  last_name : Place → Word → Names
  more_names : Place → Word → Place → Names → Names

abbrev pub spell_names : Names → Tokens
spell_names (last_name p x) r = word p x r
spell_names (more_names p x q ns) r = word p x (see q (mark tk.comma) (spell_names ns r))

abbrev pub names_of : Names → List Name
names_of (last_name p x) = record { word = x; place = p } ∷ []
names_of (more_names p x q ns) = record { word = x; place = p } ∷ names_of ns

abbrev pub words_of : Names → List Word
words_of ns = words (names_of ns)

abbrev pub GoodNames : ℕ → Names → Type 0
GoodNames e (last_name p x) = Right e p
GoodNames e (more_names p x q ns) = Right e p × Right e q × GoodNames e ns

-- an expression that needs no brackets as an operand
abbrev pub GoodOperand : ℕ → Phrase → Type 0
GoodOperand e a = IsTrue (is_primary (head a)) × Good e a

-- ---- items
mutual
  pub data ItemForm : Type 0 where
    test_form : Place → Phrase → Place → ItemForm  -- (e)
    setting_form : Place → Word → Place → Place → Phrase → ItemForm  -- x' = e
    unchanged_form : Place → Place → Names → Place → ItemForm  -- UNCHANGED <<x, y>>
    exists_form : Place → Place → Word → Place → Phrase → Place → ListForm → ItemForm  -- \E x \in S : list
    local_form : Place → Place → Word → Place → Phrase → Place → ListForm → ItemForm  -- LET x == e IN list
    choice_form : Place → Phrase → Place → ListForm → Place → ListForm → ItemForm  -- IF e THEN list ELSE list
    either_form : BranchForms → ItemForm

  -- items, each after its bullet
  pub data ListForm : Type 0 where
    last_item : Place → ItemForm → ListForm
    more_items : Place → ItemForm → ListForm → ListForm

  pub data BranchForms : Type 0 where
    last_branch : Place → ListForm → BranchForms
    more_branches : Place → ListForm → BranchForms → BranchForms

abbrev mutual
  pub spell_item : ItemForm → Tokens
  spell_item (test_form p a q) r = see p (mark tk.open_bracket) (spell a (see q (mark tk.close_bracket) r))
  spell_item (setting_form p x q s a) r = word p x (see q (mark tk.prime) (see s (sign op.Equal) (spell a r)))
  spell_item (unchanged_form p q ns s) r = keyword p (codes "UNCHANGED") (see q (mark tk.open_tuple) (spell_names ns (see s (mark tk.close_tuple) r)))
  spell_item (exists_form p q x s a t is) r = see p (key tk.exists_key) (word q x (see s (sign op.In) (spell a (see t (mark tk.colon) (spell_list is r)))))
  spell_item (local_form p q x s a t is) r = see p (key tk.let_key) (word q x (see s (mark tk.defines) (spell a (see t (key tk.in_key) (spell_list is r)))))
  spell_item (choice_form p a q is s js) r = see p (key tk.if_key) (spell a (see q (key tk.then_key) (spell_list is (see s (key tk.else_key) (spell_list js r)))))
  spell_item (either_form bs) r = spell_branches bs r

  pub spell_list : ListForm → Tokens
  spell_list (last_item p i) r = see p (sign op.And) (spell_item i r)
  spell_list (more_items p i is) r = see p (sign op.And) (spell_item i (spell_list is r))

  pub spell_branches : BranchForms → Tokens
  spell_branches (last_branch p is) r = see p (sign op.Or) (spell_list is r)
  spell_branches (more_branches p is bs) r = see p (sign op.Or) (spell_list is (spell_branches bs r))

abbrev mutual
  pub item_of : ItemForm → Item
  item_of (test_form p a q) = test (tree_of a)
  item_of (setting_form p x q s a) = setting x (tree_of a)
  item_of (unchanged_form p q ns s) = unchanged (words_of ns)
  item_of (exists_form p q x s a t is) = exists x (tree_of a) (items_of is)
  item_of (local_form p q x s a t is) = local x (tree_of a) (items_of is)
  item_of (choice_form p a q is s js) = if_then_else (tree_of a) (items_of is) (items_of js)
  item_of (either_form bs) = either (branches_of bs)

  pub items_of : ListForm → Items
  items_of (last_item p i) = item (item_of i) no_items
  items_of (more_items p i is) = item (item_of i) (items_of is)

  pub branches_of : BranchForms → Branches
  branches_of (last_branch p is) = branch (items_of is) no_branches
  branches_of (more_branches p is bs) = branch (items_of is) (branches_of bs)

abbrev pub list_column : ListForm → ℕ
list_column (last_item p i) = p.col
list_column (more_items p i is) = p.col

abbrev pub branch_column : BranchForms → ℕ
branch_column (last_branch p is) = p.col
branch_column (more_branches p is bs) = p.col

-- each token stands right of the edge; the bullets of a list in one column, each item right of it
abbrev mutual
  pub GoodItem : ℕ → ItemForm → Type 0
  GoodItem e (test_form p a q) = Right e p × Good e a × Right e q
  GoodItem e (setting_form p x q s a) = Right e p × Right e q × Right e s × GoodOperand e a
  GoodItem e (unchanged_form p q ns s) = Right e p × Right e q × GoodNames e ns × Right e s
  GoodItem e (exists_form p q x s a t is) = Right e p × Right e q × Right e s × Good e a × Right e t × IsTrue (nat_lt e (list_column is)) × GoodList (list_column is) is
  GoodItem e (local_form p q x s a t is) = Right e p × Right e q × Right e s × Good e a × Right e t × IsTrue (nat_lt e (list_column is)) × GoodList (list_column is) is
  GoodItem e (choice_form p a q is s js) =
      Right e p × Good e a × Right e q × IsTrue (nat_lt e (list_column is)) × GoodList (list_column is) is
      × Right e s × IsTrue (nat_lt e (list_column js)) × GoodList (list_column js) js
  GoodItem e (either_form bs) = IsTrue (nat_lt e (branch_column bs)) × GoodBranches (branch_column bs) bs

  pub GoodList : ℕ → ListForm → Type 0
  GoodList c (last_item p i) = (p.col ≡ c) × GoodItem c i
  GoodList c (more_items p i is) = (p.col ≡ c) × GoodItem c i × GoodList c is

  pub GoodBranches : ℕ → BranchForms → Type 0
  GoodBranches c (last_branch p is) = (p.col ≡ c) × IsTrue (nat_lt c (list_column is)) × GoodList (list_column is) is
  GoodBranches c (more_branches p is bs) = (p.col ≡ c) × IsTrue (nat_lt c (list_column is)) × GoodList (list_column is) is × GoodBranches c bs

-- ---- calls of actions
pub data CallForm : Type 0 where
  call_form : Place → Word → CallForm
  call_with_form : Place → Word → Place → Phrase → Place → CallForm

abbrev pub spell_call : CallForm → Tokens
spell_call (call_form p x) r = word p x r
spell_call (call_with_form p x q a s) r = word p x (see q (mark tk.open_bracket) (spell a (see s (mark tk.close_bracket) r)))

abbrev pub call_of : CallForm → Call
call_of (call_form p x) = call x
call_of (call_with_form p x q a s) = call_with x (tree_of a)

abbrev pub GoodCall : ℕ → CallForm → Type 0
GoodCall e (call_form p x) = Right e p
GoodCall e (call_with_form p x q a s) = Right e p × Right e q × Good e a × Right e s

pub data WayForm : Type 0 where
  one_form : CallForm → WayForm
  some_form : Place → Place → Word → Place → Phrase → Place → CallForm → WayForm  -- \E x \in S : A(x)

abbrev pub spell_way : WayForm → Tokens
spell_way (one_form u) r = spell_call u r
spell_way (some_form p q x s a t u) r = see p (key tk.exists_key) (word q x (see s (sign op.In) (spell a (see t (mark tk.colon) (spell_call u r)))))

abbrev pub way_of : WayForm → Way
way_of (one_form u) = one_way (call_of u)
way_of (some_form p q x s a t u) = some_way x (tree_of a) (call_of u)

abbrev pub GoodWay : ℕ → WayForm → Type 0
GoodWay e (one_form u) = GoodCall e u
GoodWay e (some_form p q x s a t u) = Right e p × Right e q × Right e s × Good e a × Right e t × GoodCall e u

-- a list of forms, each after its bullet
abbrev pub spell_bullets : {A : Type 0} → TokenView → (A → Tokens) → List (Place × A) → Tokens
spell_bullets k f [] r = r
spell_bullets k f (x ∷ xs) r = see x.0 k (f x.1 (spell_bullets k f xs r))

abbrev pub GoodBullets : {A : Type 0} → (ℕ → A → Type 0) → ℕ → List (Place × A) → Type 0
GoodBullets P c [] = Unit {0}
GoodBullets P c (x ∷ xs) = (x.0.col ≡ c) × P c x.1 × GoodBullets P c xs

-- at least one, right of column 1
abbrev pub GoodSome : {A : Type 0} → (ℕ → A → Type 0) → List (Place × A) → Type 0
GoodSome P [] = ⊥
GoodSome P (x ∷ xs) = Right 1 x.0 × GoodBullets P x.0.col (x ∷ xs)

abbrev pub each : {A B : Type 0} → (A → B) → List (Place × A) → List B
each f [] = []
each f (x ∷ xs) = f x.1 ∷ each f xs
