-- Expressions as they are spelled ("Specifying Systems", chapters 15 and 16): ranks, open forms, lists by columns.
use Rattle.std.specs.Prelude.{◌≡◌, ℕ, Bool, true, false, ◌||◌, ◌&&◌, not, nat_lt, nat_eq, List, [], ◌∷◌, Option, Some, None}
use Rattle.std.specs.Bool.{IsTrue}
use Rattle.tla_token.specs.declared.place.Place.{Place}
use Rattle.tla_tree.specs.declared.op.Op.{Op}
use Rattle.tla_tree.specs.declared.op.Op.TheVariants as op
use Rattle.tla_tree.specs.declared.op.Binder.TheVariants as binder
use Rattle.tla_tree.specs.Tree.{Word, Name, PathStep, Slot, Form, Tree, Trees, node, no_trees, tree}
use Rattle.tla_tree.specs.Tree as tree
use Rattle.tla_tree.specs.Rank.{rank, is_prefix, is_associative, is_bullet, same_op}
use Rattle.tla_tree.specs.Lexical.{Mark, Key, Constant, truth, booleans, strings, Token, token, sign_of, field_kind}
use Rattle.tla_tree.specs.Lexical as tk

-- the name of a field: it alone may be a reserved word of PlusCal
pub record Field : Type 0 where
  pub place : Place
  pub is_reserved : Bool
  pub text : Word

-- An expression as it is spelled, with brackets. The places are those of its tokens, in their order.
mutual
  pub data Phrase : Type 0 where
    number : Place → ℕ → Phrase
    string : Place → Word → Phrase
    constant : Place → Constant → Phrase  -- TRUE, FALSE, BOOLEAN, STRING
    name : Place → Word → Phrase
    primed : Place → Word → Place → Phrase  -- x', in written text alone
    call : Place → Word → Place → Phrases → Place → Phrase  -- Op(a, b)
    brackets : Place → Phrase → Place → Phrase  -- (a)
    no_set : Place → Place → Phrase  -- {}
    set_of : Place → Phrases → Place → Phrase  -- {a, b}
    filter : Place → Place → Word → Place → Phrase → Place → Phrase → Place → Phrase  -- {x \in S : p}
    image : Place → Phrase → Place → Binds → Place → Phrase  -- {a : x \in S}
    no_tuple : Place → Place → Phrase  -- <<>>
    tuple : Place → Phrases → Place → Phrase  -- <<a, b>>
    fields : Place → Fields → Place → Phrase  -- [a |-> e, b |-> f]
    records : Place → Fields → Place → Phrase  -- [a : S, b : T]
    function : Place → Binds → Place → Phrase → Place → Phrase  -- [x \in S |-> e]
    functions : Place → Phrase → Place → Phrase → Place → Phrase  -- [S -> T]
    except : Place → Phrase → Place → Settings → Place → Phrase  -- [f EXCEPT !.a = e, ![b] = f]
    apply : Phrase → Place → Phrases → Place → Phrase  -- f[a, b]
    select : Phrase → Place → Field → Phrase  -- r.a
    list : Op → Bullets → Phrase  -- /\ a /\ b, with \/ likewise
    quantified : Bool → Place → Binds → Place → Phrase → Phrase  -- \A x \in S : p; with false \E
    if_then_else : Place → Phrase → Place → Phrase → Place → Phrase → Phrase  -- IF a THEN b ELSE c
    cases : Place → Arms → Phrase  -- CASE a -> b [] c -> d
    local : Place → Locals → Place → Phrase → Phrase  -- LET x == a y == b IN c
    infix_of : Phrase → Place → Op → Phrase → Phrase  -- a OP b
    prefix_of : Place → Op → Phrase → Phrase  -- OP a

  -- a, b, ..: at least one
  pub data Phrases : Type 0 where
    last : Phrase → Phrases
    more : Phrase → Place → Phrases → Phrases

  -- x, y \in S, z \in T
  pub data Binds : Type 0 where
    last_bind : Place → Word → Place → Phrase → Binds
    bind : Place → Word → Place → Phrase → Place → Binds → Binds  -- x \in S, ..
    share : Place → Word → Place → Binds → Binds  -- x, .. : its set is that of the next name

  -- a |-> e, b |-> f, or with colons
  pub data Fields : Type 0 where
    last_field : Field → Place → Phrase → Fields
    field : Field → Place → Phrase → Place → Fields → Fields

  -- !path = e, !path = f
  pub data Settings : Type 0 where
    last_setting : Place → Path → Place → Phrase → Settings
    setting : Place → Path → Place → Phrase → Place → Settings → Settings

  -- [a, b].c, maybe empty
  pub data Path : Type 0 where
    path_end : Path
    index : Place → Phrases → Place → Path → Path
    at_field : Place → Field → Path → Path

  -- items with their bullets
  pub data Bullets : Type 0 where
    last_bullet : Place → Phrase → Bullets
    bullet : Place → Phrase → Bullets → Bullets

  -- a -> b [] c -> d [] OTHER -> e
  pub data Arms : Type 0 where
    last_arm : Phrase → Place → Phrase → Arms
    other_arm : Phrase → Place → Phrase → Place → Place → Place → Phrase → Arms
    arm : Phrase → Place → Phrase → Place → Arms → Arms

  -- x == a y == b
  pub data Locals : Type 0 where
    last_local : Place → Word → Place → Phrase → Locals
    more_locals : Place → Word → Place → Phrase → Locals → Locals

-- ---- tokens
abbrev pub mark : Place → Mark → List Token → List Token
mark p m ts = token p (tk.mark m) ∷ ts

abbrev pub key : Place → Key → List Token → List Token
key p k ts = token p (tk.key k) ∷ ts

abbrev pub sign : Place → Op → List Token → List Token
sign p o ts = token p (sign_of o) ∷ ts

abbrev pub word : Place → Word → List Token → List Token
word p x ts = token p (tk.word x) ∷ ts

abbrev pub field_token : Field → List Token → List Token
field_token f ts = token f.place (field_kind f.is_reserved f.text) ∷ ts

abbrev pub quantifier : Bool → Key
quantifier true = tk.for_all_key
quantifier false = tk.exists_key

-- the tokens of a phrase, before others
abbrev mutual
  pub spell : Phrase → List Token → List Token
  spell (number p n) ts = token p (tk.number n) ∷ ts
  spell (string p x) ts = token p (tk.string x) ∷ ts
  spell (constant p c) ts = token p (tk.constant c) ∷ ts
  spell (name p x) ts = word p x ts
  spell (primed p x q) ts = word p x (mark q tk.prime ts)
  spell (call p x q xs r) ts = word p x (mark q tk.open_bracket (spell_all xs (mark r tk.close_bracket ts)))
  spell (brackets p a q) ts = mark p tk.open_bracket (spell a (mark q tk.close_bracket ts))
  spell (no_set p q) ts = mark p tk.open_brace (mark q tk.close_brace ts)
  spell (set_of p xs q) ts = mark p tk.open_brace (spell_all xs (mark q tk.close_brace ts))
  spell (filter p q x r s t a u) ts = mark p tk.open_brace (word q x (sign r op.In (spell s (mark t tk.colon (spell a (mark u tk.close_brace ts))))))
  spell (image p a q bs r) ts = mark p tk.open_brace (spell a (mark q tk.colon (spell_binds bs (mark r tk.close_brace ts))))
  spell (no_tuple p q) ts = mark p tk.open_tuple (mark q tk.close_tuple ts)
  spell (tuple p xs q) ts = mark p tk.open_tuple (spell_all xs (mark q tk.close_tuple ts))
  spell (fields p fs q) ts = mark p tk.open_square (spell_fields tk.maps fs (mark q tk.close_square ts))
  spell (records p fs q) ts = mark p tk.open_square (spell_fields tk.colon fs (mark q tk.close_square ts))
  spell (function p bs q a r) ts = mark p tk.open_square (spell_binds bs (mark q tk.maps (spell a (mark r tk.close_square ts))))
  spell (functions p a q b r) ts = mark p tk.open_square (spell a (mark q tk.arrow (spell b (mark r tk.close_square ts))))
  spell (except p a q ss r) ts = mark p tk.open_square (spell a (key q tk.except_key (spell_settings ss (mark r tk.close_square ts))))
  spell (apply a p xs q) ts = spell a (mark p tk.open_square (spell_all xs (mark q tk.close_square ts)))
  spell (select a p f) ts = spell a (mark p tk.dot (field_token f ts))
  spell (list o bs) ts = spell_bullets o bs ts
  spell (quantified b p bs q a) ts = key p (quantifier b) (spell_binds bs (mark q tk.colon (spell a ts)))
  spell (if_then_else p a q b r c) ts = key p tk.if_key (spell a (key q tk.then_key (spell b (key r tk.else_key (spell c ts)))))
  spell (cases p xs) ts = key p tk.case_key (spell_arms xs ts)
  spell (local p ls q a) ts = key p tk.let_key (spell_locals ls (key q tk.in_key (spell a ts)))
  spell (infix_of a p o b) ts = spell a (sign p o (spell b ts))
  spell (prefix_of p o a) ts = sign p o (spell a ts)

  pub spell_all : Phrases → List Token → List Token
  spell_all (last a) ts = spell a ts
  spell_all (more a p xs) ts = spell a (mark p tk.comma (spell_all xs ts))

  pub spell_binds : Binds → List Token → List Token
  spell_binds (last_bind p x q a) ts = word p x (sign q op.In (spell a ts))
  spell_binds (bind p x q a r bs) ts = word p x (sign q op.In (spell a (mark r tk.comma (spell_binds bs ts))))
  spell_binds (share p x q bs) ts = word p x (mark q tk.comma (spell_binds bs ts))

  pub spell_fields : Mark → Fields → List Token → List Token
  spell_fields m (last_field f p a) ts = field_token f (mark p m (spell a ts))
  spell_fields m (field f p a q fs) ts = field_token f (mark p m (spell a (mark q tk.comma (spell_fields m fs ts))))

  pub spell_settings : Settings → List Token → List Token
  spell_settings (last_setting p path q a) ts = mark p tk.bang (spell_path path (sign q op.Equal (spell a ts)))
  spell_settings (setting p path q a r ss) ts = mark p tk.bang (spell_path path (sign q op.Equal (spell a (mark r tk.comma (spell_settings ss ts)))))

  pub spell_path : Path → List Token → List Token
  spell_path path_end ts = ts
  spell_path (index p xs q path) ts = mark p tk.open_square (spell_all xs (mark q tk.close_square (spell_path path ts)))
  spell_path (at_field p f path) ts = mark p tk.dot (field_token f (spell_path path ts))

  pub spell_bullets : Op → Bullets → List Token → List Token
  spell_bullets o (last_bullet p a) ts = sign p o (spell a ts)
  spell_bullets o (bullet p a bs) ts = sign p o (spell a (spell_bullets o bs ts))

  pub spell_arms : Arms → List Token → List Token
  spell_arms (last_arm a p b) ts = spell a (mark p tk.arrow (spell b ts))
  spell_arms (other_arm a p b q r s c) ts = spell a (mark p tk.arrow (spell b (mark q tk.box (key r tk.other_key (mark s tk.arrow (spell c ts))))))
  spell_arms (arm a p b q xs) ts = spell a (mark p tk.arrow (spell b (mark q tk.box (spell_arms xs ts))))

  pub spell_locals : Locals → List Token → List Token
  spell_locals (last_local p x q a) ts = word p x (mark q tk.defines (spell a ts))
  spell_locals (more_locals p x q a ls) ts = word p x (mark q tk.defines (spell a (spell_locals ls ts)))

-- ---- the tree: brackets are gone, lists are joined from the left
abbrev pub first_bullet : Bullets → Place
first_bullet (last_bullet p a) = p
first_bullet (bullet p a bs) = p

-- the place of the first token
abbrev pub start : Phrase → Place
start (number p n) = p
start (string p x) = p
start (constant p c) = p
start (name p x) = p
start (primed p x q) = p
start (call p x q xs r) = p
start (brackets p a q) = p
start (no_set p q) = p
start (set_of p xs q) = p
start (filter p q x r s t a u) = p
start (image p a q bs r) = p
start (no_tuple p q) = p
start (tuple p xs q) = p
start (fields p fs q) = p
start (records p fs q) = p
start (function p bs q a r) = p
start (functions p a q b r) = p
start (except p a q ss r) = p
start (apply a p xs q) = start a
start (select a p f) = start a
start (list o bs) = first_bullet bs
start (quantified b p bs q a) = p
start (if_then_else p a q b r c) = p
start (cases p xs) = p
start (local p ls q a) = p
start (infix_of a p o b) = start a
start (prefix_of p o a) = p

abbrev pub operation : Op → Form
operation op.And = tree.conjunction
operation op.Or = tree.disjunction
operation op.Implies = tree.implication
operation op.In = tree.member true
operation op.NotIn = tree.member false
operation o = tree.strict (tree.operator o)

abbrev pub one : Tree → Trees
one a = tree a no_trees

abbrev pub two : Tree → Tree → Trees
two a b = tree a (one b)

abbrev pub constant_form : Constant → Form
constant_form (truth b) = tree.truth b
constant_form booleans = tree.booleans
constant_form strings = tree.strings

abbrev pub named : Place → Word → Name
named p x = record { word = x; place = p }

-- the name is one more of the first group
abbrev pub in_first : Name → List (List Name) → List (List Name)
in_first x [] = (x ∷ []) ∷ []
in_first x (g ∷ gs) = (x ∷ g) ∷ gs

-- the names that share a set are a group
abbrev pub groups : Binds → List (List Name)
groups (last_bind p x q a) = (named p x ∷ []) ∷ []
groups (bind p x q a r bs) = (named p x ∷ []) ∷ groups bs
groups (share p x q bs) = in_first (named p x) (groups bs)

abbrev pub local_names : Locals → List Name
local_names (last_local p x q a) = named p x ∷ []
local_names (more_locals p x q a ls) = named p x ∷ local_names ls

abbrev pub labels : Fields → List Word
labels (last_field f p a) = f.text ∷ []
labels (field f p a q fs) = f.text ∷ labels fs

abbrev pub steps : Path → List PathStep
steps path_end = []
steps (index p xs q path) = tree.index ∷ steps path
steps (at_field p f path) = tree.field f.text ∷ steps path

-- each setting faults at the place of the whole
abbrev pub slots : Place → Settings → List Slot
slots at (last_setting p path q a) = record { path = steps path; place = at } ∷ []
slots at (setting p path q a r ss) = record { path = steps path; place = at } ∷ slots at ss

abbrev pub has_other : Arms → Bool
has_other (last_arm a p b) = false
has_other (other_arm a p b q r s c) = true
has_other (arm a p b q xs) = has_other xs

abbrev mutual
  pub tree_of : Phrase → Tree
  tree_of (number p n) = node (tree.number n) p no_trees
  tree_of (string p x) = node (tree.string x) p no_trees
  tree_of (constant p c) = node (constant_form c) p no_trees
  tree_of (name p x) = node (tree.name x) p no_trees
  tree_of (primed p x q) = node (tree.next x) p no_trees
  tree_of (call p x q xs r) = node (tree.operator_call x) p (trees_of xs)
  tree_of (brackets p a q) = tree_of a
  tree_of (no_set p q) = node (tree.strict tree.set_of) p no_trees
  tree_of (set_of p xs q) = node (tree.strict tree.set_of) p (trees_of xs)
  tree_of (filter p q x r s t a u) = node (tree.binding binder.Filter ((named q x ∷ []) ∷ [])) p (two (tree_of s) (tree_of a))
  tree_of (image p a q bs r) = node (tree.binding binder.Image (groups bs)) p (sets_before bs (one (tree_of a)))
  tree_of (no_tuple p q) = node (tree.strict tree.tuple) p no_trees
  tree_of (tuple p xs q) = node (tree.strict tree.tuple) p (trees_of xs)
  tree_of (fields p fs q) = node (tree.strict (tree.fields (labels fs))) p (field_trees fs)
  tree_of (records p fs q) = node (tree.strict (tree.records (labels fs))) p (field_trees fs)
  tree_of (function p bs q a r) = node (tree.binding binder.Function (groups bs)) p (sets_before bs (one (tree_of a)))
  tree_of (functions p a q b r) = node (tree.strict tree.functions) p (two (tree_of a) (tree_of b))
  tree_of (except p a q ss r) = node (tree.strict (tree.except (slots p ss))) p (tree (tree_of a) (setting_trees ss))
  tree_of (apply a p xs q) = node (tree.strict tree.apply) (start a) (two (tree_of a) (subscript xs))
  tree_of (select a p f) = node (tree.strict (tree.select f.text)) (start a) (one (tree_of a))
  tree_of (list o bs) = joined o bs
  tree_of (quantified true p bs q a) = node (tree.binding binder.ForAll (groups bs)) p (sets_before bs (one (tree_of a)))
  tree_of (quantified false p bs q a) = node (tree.binding binder.Exists (groups bs)) p (sets_before bs (one (tree_of a)))
  tree_of (if_then_else p a q b r c) = node tree.if_then_else p (tree (tree_of a) (two (tree_of b) (tree_of c)))
  tree_of (cases p xs) = node (tree.cases (has_other xs)) p (arm_trees xs)
  tree_of (local p ls q a) = node (tree.local (local_names ls)) p (right_sides_before ls (one (tree_of a)))
  tree_of (infix_of a p o b) = node (operation o) (start a) (two (tree_of a) (tree_of b))
  tree_of (prefix_of p o a) = node (operation o) p (one (tree_of a))

  pub trees_of : Phrases → Trees
  trees_of (last a) = one (tree_of a)
  trees_of (more a p xs) = tree (tree_of a) (trees_of xs)

  -- f[a, b] is f[<<a, b>>], the tuple being at the place of a
  pub subscript : Phrases → Tree
  subscript (last a) = tree_of a
  subscript (more a p xs) = node (tree.strict tree.tuple) (start a) (tree (tree_of a) (trees_of xs))

  -- a set for each group
  pub sets_before : Binds → Trees → Trees
  sets_before (last_bind p x q a) ts = tree (tree_of a) ts
  sets_before (bind p x q a r bs) ts = tree (tree_of a) (sets_before bs ts)
  sets_before (share p x q bs) ts = sets_before bs ts

  pub field_trees : Fields → Trees
  field_trees (last_field f p a) = one (tree_of a)
  field_trees (field f p a q fs) = tree (tree_of a) (field_trees fs)

  pub setting_trees : Settings → Trees
  setting_trees (last_setting p path q a) = subscripts path (one (tree_of a))
  setting_trees (setting p path q a r ss) = subscripts path (tree (tree_of a) (setting_trees ss))

  pub subscripts : Path → Trees → Trees
  subscripts path_end ts = ts
  subscripts (index p xs q path) ts = tree (subscript xs) (subscripts path ts)
  subscripts (at_field p f path) ts = subscripts path ts

  -- one item is the item itself
  pub joined : Op → Bullets → Tree
  joined o (last_bullet p a) = tree_of a
  joined o (bullet p a bs) = joined_to o p (tree_of a) bs

  pub joined_to : Op → Place → Tree → Bullets → Tree
  joined_to o at t (last_bullet p a) = node (operation o) at (two t (tree_of a))
  joined_to o at t (bullet p a bs) = joined_to o at (node (operation o) at (two t (tree_of a))) bs

  pub arm_trees : Arms → Trees
  arm_trees (last_arm a p b) = two (tree_of a) (tree_of b)
  arm_trees (other_arm a p b q r s c) = tree (tree_of a) (two (tree_of b) (tree_of c))
  arm_trees (arm a p b q xs) = tree (tree_of a) (tree (tree_of b) (arm_trees xs))

  pub right_sides_before : Locals → Trees → Trees
  right_sides_before (last_local p x q a) ts = tree (tree_of a) ts
  right_sides_before (more_locals p x q a ls) ts = tree (tree_of a) (right_sides_before ls ts)

-- ---- ranks
-- what a phrase is, to the operators beside it
pub data Head : Type 0 where
  primary : Head  -- above all operators
  applied : Op → Head  -- an infix or prefix form
  open_form : Head  -- takes all that can follow it

abbrev pub head : Phrase → Head
head (infix_of a p o b) = applied o
head (prefix_of p o a) = applied o
head (quantified b p bs q a) = open_form
head (if_then_else p a q b r c) = open_form
head (cases p xs) = open_form
head (local p ls q a) = open_form
head a = primary

abbrev pub is_primary : Head → Bool
is_primary primary = true
is_primary h = false

abbrev pub is_open : Head → Bool
is_open open_form = true
is_open h = false

-- its range is wholly above that of the operator
abbrev pub is_above : Op → Head → Bool
is_above o primary = true
is_above o (applied q) = nat_lt (rank o).1 (rank q).0
is_above o open_form = false

abbrev pub is_applied : Op → Head → Bool
is_applied o (applied q) = same_op o q
is_applied o h = false

-- a primary, or a prefix operator with a short form
abbrev pub is_short : Phrase → Bool
is_short (prefix_of p o a) = is_short a
is_short a = is_primary (head a)

abbrev pub ends_open : Phrase → Bool
ends_open (infix_of a p o b) = ends_open b
ends_open (prefix_of p o a) = ends_open a
ends_open a = is_open (head a)

-- the list that a phrase is or ends with: its bullet and column
abbrev pub end_list : Phrase → Option (Op × ℕ)
end_list (list o bs) = Some (o, (first_bullet bs).col)
end_list (infix_of a p o b) = end_list b
end_list (prefix_of p o a) = end_list a
end_list a = None

-- after a list an operator is at its column or left of it, and is no further bullet
abbrev pub is_behind : Option (Op × ℕ) → Op → Place → Bool
is_behind None o p = true
is_behind (Some l) o p = not (nat_lt l.1 p.col) && not (same_op l.0 o && nat_eq l.1 p.col)

abbrev pub can_be_left : Phrase → Place → Op → Bool
can_be_left a p o = (is_above o (head a) || (is_associative o && is_applied o (head a))) && (not (ends_open a) && is_behind (end_list a) o p)

abbrev pub can_be_right : Op → Phrase → Bool
can_be_right o b = is_above o (head b) || (is_open (head b) || is_short b)

abbrev pub can_be_under : Op → Phrase → Bool
can_be_under o a = is_above o (head a) || (is_applied o (head a) || (is_open (head a) || is_short a))

-- a primary; after a list, `[` and `.` are at its column or left of it
abbrev pub can_be_head : Phrase → Place → Bool
can_be_head (list o bs) p = not (nat_lt (first_bullet bs).col p.col)
can_be_head a p = is_primary (head a)

abbrev pub is_word : tk.TokenView → Bool
is_word (tk.word x) = true
is_word k = false

abbrev pub is_in : tk.TokenView → Bool
is_in (tk.sign op.In) = true
is_in k = false

-- begins with a name and \in
abbrev pub is_bind : List Token → Bool
is_bind (t ∷ u ∷ ts) = is_word t.kind && is_in u.kind
is_bind ts = false

-- a `[]` in this column, after the phrase, belongs to a CASE in it
abbrev mutual
  pub takes_box : ℕ → Phrase → Bool
  takes_box c (cases p xs) = true
  takes_box c (infix_of a p o b) = takes_box c b
  takes_box c (prefix_of p o a) = takes_box c a
  takes_box c (quantified b p bs q a) = takes_box c a
  takes_box c (if_then_else p a q b r d) = takes_box c d
  takes_box c (local p ls q a) = takes_box c a
  takes_box c (list o bs) = nat_lt (first_bullet bs).col c && last_takes_box c bs
  takes_box c a = false

  pub last_takes_box : ℕ → Bullets → Bool
  last_takes_box c (last_bullet p a) = takes_box c a
  last_takes_box c (bullet p a bs) = last_takes_box c bs

-- ---- what may be spelled
-- the token is to the right of the edge
abbrev pub Right : ℕ → Place → Type 0
Right e p = IsTrue (nat_lt e p.col)

abbrev pub is_some_path : Path → Bool
is_some_path path_end = false
is_some_path path = true

-- operands are as the ranks allow, lists as the columns do, and each token is to the right of the edge e
abbrev mutual
  pub Good : ℕ → Phrase → Type 0
  Good e (number p n) = Right e p
  Good e (string p x) = Right e p
  Good e (constant p c) = Right e p
  Good e (name p x) = Right e p
  Good e (primed p x q) = Right e p × Right e q
  Good e (call p x q xs r) = Right e p × Right e q × GoodAll e xs × Right e r
  Good e (brackets p a q) = Right e p × Good e a × Right e q
  Good e (no_set p q) = Right e p × Right e q
  Good e (set_of p xs q) = Right e p × GoodAll e xs × Right e q
  Good e (filter p q x r s t a u) = Right e p × Right e q × Right e r × Good e s × Right e t × Good e a × Right e u
  -- `{x \in S : ..` is the other form
  Good e (image p a q bs r) = Right e p × Good e a × Right e q × GoodBinds e bs × Right e r × IsTrue (not (is_bind (spell a [])))
  Good e (no_tuple p q) = Right e p × Right e q
  Good e (tuple p xs q) = Right e p × GoodAll e xs × Right e q
  Good e (fields p fs q) = Right e p × GoodFields e fs × Right e q
  Good e (records p fs q) = Right e p × GoodFields e fs × Right e q
  Good e (function p bs q a r) = Right e p × GoodBinds e bs × Right e q × Good e a × Right e r
  Good e (functions p a q b r) = Right e p × Good e a × Right e q × Good e b × Right e r
  Good e (except p a q ss r) = Right e p × Good e a × Right e q × GoodSettings e ss × Right e r
  Good e (apply a p xs q) = Good e a × IsTrue (can_be_head a p) × Right e p × GoodAll e xs × Right e q
  Good e (select a p f) = Good e a × IsTrue (can_be_head a p) × Right e p × Right e f.place
  Good e (list o bs) = IsTrue (is_bullet o) × Right e (first_bullet bs) × GoodBullets (first_bullet bs).col bs
  Good e (quantified b p bs q a) = Right e p × GoodBinds e bs × Right e q × Good e a
  Good e (if_then_else p a q b r c) = Right e p × Good e a × Right e q × Good e b × Right e r × Good e c
  Good e (cases p xs) = Right e p × GoodArms e xs
  Good e (local p ls q a) = Right e p × GoodLocals e ls × Right e q × Good e a
  Good e (infix_of a p o b) = IsTrue (not (is_prefix o)) × IsTrue (can_be_left a p o) × IsTrue (can_be_right o b) × Good e a × Right e p × Good e b
  Good e (prefix_of p o a) = IsTrue (is_prefix o) × IsTrue (can_be_under o a) × Right e p × Good e a

  pub GoodAll : ℕ → Phrases → Type 0
  GoodAll e (last a) = Good e a
  GoodAll e (more a p xs) = Good e a × Right e p × GoodAll e xs

  pub GoodBinds : ℕ → Binds → Type 0
  GoodBinds e (last_bind p x q a) = Right e p × Right e q × Good e a
  GoodBinds e (bind p x q a r bs) = Right e p × Right e q × Good e a × Right e r × GoodBinds e bs
  GoodBinds e (share p x q bs) = Right e p × Right e q × GoodBinds e bs

  pub GoodFields : ℕ → Fields → Type 0
  GoodFields e (last_field f p a) = Right e f.place × Right e p × Good e a
  GoodFields e (field f p a q fs) = Right e f.place × Right e p × Good e a × Right e q × GoodFields e fs

  pub GoodSettings : ℕ → Settings → Type 0
  GoodSettings e (last_setting p path q a) = Right e p × IsTrue (is_some_path path) × GoodPath e path × Right e q × Good e a
  GoodSettings e (setting p path q a r ss) = Right e p × IsTrue (is_some_path path) × GoodPath e path × Right e q × Good e a × Right e r × GoodSettings e ss

  pub GoodPath : ℕ → Path → Type 0
  GoodPath e path_end = Unit {0}
  GoodPath e (index p xs q path) = Right e p × GoodAll e xs × Right e q × GoodPath e path
  GoodPath e (at_field p f path) = Right e p × Right e f.place × GoodPath e path

  -- the bullets are in one column, and each item to the right of it
  pub GoodBullets : ℕ → Bullets → Type 0
  GoodBullets c (last_bullet p a) = (p.col ≡ c) × Good c a
  GoodBullets c (bullet p a bs) = (p.col ≡ c) × Good c a × GoodBullets c bs

  -- `[]` belongs to the nearest CASE
  pub GoodArms : ℕ → Arms → Type 0
  GoodArms e (last_arm a p b) = Good e a × Right e p × Good e b
  GoodArms e (other_arm a p b q r s c) = Good e a × Right e p × Good e b × IsTrue (not (takes_box q.col b)) × Right e q × Right e r × Right e s × Good e c
  GoodArms e (arm a p b q xs) = Good e a × Right e p × Good e b × IsTrue (not (takes_box q.col b)) × Right e q × GoodArms e xs

  pub GoodLocals : ℕ → Locals → Type 0
  GoodLocals e (last_local p x q a) = Right e p × Right e q × Good e a
  GoodLocals e (more_locals p x q a ls) = Right e p × Right e q × Good e a × GoodLocals e ls

-- columns count from 1, so all are to the right of 0
abbrev pub IsGood : Phrase → Type 0
IsGood a = Good 0 a

-- the tokens, in their columns, spell the tree
abbrev pub Spells : List Token → Tree → Type 0
Spells ts t = (a : Phrase) × IsGood a × (ts ≡ spell a []) × (tree_of a ≡ t)
