-- Reading items, and lists of them by the columns of their bullets, as functions of the tokens ("Specifying Systems", sections 15.1 and 15.2).
use Rattle.std.specs.Prelude.{ℕ, zero, suc, ◌*◌, bytes_eq, Bool, true, false, length, codes}
use Rattle.tla_token.specs.declared.place.Place.{Place}
use Rattle.tla_tree.specs.declared.op.Op.TheVariants as op
use Rattle.tla_tree.specs.Tree.{Word}
use Rattle.tla_tree.specs.Lexical.{TokenView}
use Rattle.tla_tree.specs.Lexical as tk
use Rattle.tla_tree.specs.Spelling.{Phrase, head, is_primary}
use Rattle.tla_tree.specs.Reader.{Reader, ◌>>=◌, gives, refuses, skip, peek, take, bullet_of, a_mark, a_key, a_sign, a_word}
use Rattle.module_tree.specs.Grammar.{ItemForm, test_form, setting_form, unchanged_form, exists_form, local_form, choice_form, either_form, ListForm, last_item, more_items, BranchForms, last_branch, more_branches}
use Rattle.region_reading.specs.Bound.{Bound, deeper, a_phrase, opened, opening}
use Rattle.region_reading.specs.NameReader.{names_in, is_bullet_in}

-- the readers that call one another; each has the bound, and the edge that all its tokens are right of
pub record ItemReaders : Type 0 where
  pub item : Bound → ℕ → Reader ItemForm
  pub list : Bound → ℕ → Reader ListForm
  pub items : Bound → ℕ → ℕ → Reader ListForm  -- in this column
  pub branches : Bound → ℕ → ℕ → Reader BranchForms  -- in this column

-- an expression that needs no brackets as an operand
abbrev pub operand_if : Bool → Phrase → Reader Phrase
operand_if true a = gives a
operand_if false a = refuses

abbrev pub an_operand : Bound → ℕ → Reader Phrase
an_operand m e = a_phrase m e >>= λ a. operand_if (is_primary (head a)) a

-- ---- one item, by its first token; the bound is of what is behind that

abbrev pub test_from : Bound → ℕ → Place → Reader ItemForm
test_from m e p = a_phrase m e >>= λ a. a_mark e tk.close_bracket >>= λ q. gives (test_form p a q)

abbrev pub setting_from : Bound → ℕ → Place → Word → Reader ItemForm
setting_from m e p x = a_mark e tk.prime >>= λ q. opening m (a_sign e op.Equal) >>= λ s. an_operand (deeper m) e >>= λ a. gives (setting_form p x q s a)

abbrev pub unchanged_from : Bound → ℕ → Place → Reader ItemForm
unchanged_from m e p = opening m (a_mark e tk.open_tuple) >>= λ q. names_in e >>= λ ns. a_mark e tk.close_tuple >>= λ s. gives (unchanged_form p q ns s)

abbrev pub exists_from : Bound → ItemReaders → ℕ → Place → Reader ItemForm
exists_from m r e p = a_word e >>= λ x. a_sign e op.In >>= λ s. a_phrase m e >>= λ a. a_mark e tk.colon >>= λ t. r.list m e >>= λ is. gives (exists_form p x.0 x.1 s a t is)

abbrev pub local_from : Bound → ItemReaders → ℕ → Place → Reader ItemForm
local_from m r e p = a_word e >>= λ x. a_mark e tk.defines >>= λ s. a_phrase m e >>= λ a. a_key e tk.in_key >>= λ t. r.list m e >>= λ is. gives (local_form p x.0 x.1 s a t is)

abbrev pub choice_from : Bound → ItemReaders → ℕ → Place → Reader ItemForm
choice_from m r e p = a_phrase m e >>= λ a. a_key e tk.then_key >>= λ q. r.list m e >>= λ is. a_key e tk.else_key >>= λ s. r.list m e >>= λ js. gives (choice_form p a q is s js)

abbrev pub unchanged_if : Bool → Bound → ℕ → Place → Reader ItemForm
unchanged_if true m e p = opened m (λ n. skip (unchanged_from n e p))
unchanged_if false m e p = refuses

abbrev pub item_by : Bound → ItemReaders → ℕ → Place → TokenView → Reader ItemForm
item_by m r e p (tk.mark tk.open_bracket) = opened m (λ n. skip (test_from n e p))
item_by m r e p (tk.word x) = skip (setting_from m e p x)
item_by m r e p (tk.other w) = unchanged_if (bytes_eq w (codes "UNCHANGED")) m e p
item_by m r e p (tk.key tk.exists_key) = opened m (λ n. skip (exists_from n r e p))
item_by m r e p (tk.key tk.let_key) = opened m (λ n. skip (local_from n r e p))
item_by m r e p (tk.key tk.if_key) = opened m (λ n. skip (choice_from n r e p))
item_by m r e p (tk.sign op.Or) = opened m (λ n. r.branches n e p.col >>= λ bs. gives (either_form bs))
item_by m r e p k = refuses

-- ---- lists and branches: a list is one form, and so are branches

-- in the column of the first bullet
abbrev pub list_by : Bound → ItemReaders → ℕ → Place → TokenView → Reader ListForm
list_by m r e p (tk.sign op.And) = opened m (λ n. r.items n e p.col)
list_by m r e p k = refuses

-- the further items, where a further bullet is seen
abbrev pub items_if : Bool → Bound → ItemReaders → ℕ → ℕ → Place → ItemForm → Reader ListForm
items_if true m r e c p i = r.items m e c >>= λ is. gives (more_items p i is)
items_if false m r e c p i = gives (last_item p i)

abbrev pub branches_if : Bool → Bound → ItemReaders → ℕ → ℕ → Place → ListForm → Reader BranchForms
branches_if true m r e c p is = r.branches m e c >>= λ bs. gives (more_branches p is bs)
branches_if false m r e c p is = gives (last_branch p is)

-- one step of each, over readers of what is left
abbrev pub item_step : ItemReaders → ItemReaders
item_step r = record {
  item = λ m e. peek e (item_by m r e);
  list = λ m e. peek e (list_by m r e);
  items = λ m e c. take e (bullet_of op.And c) >>= λ p. r.item m c >>= λ i. peek e (λ q k. items_if (is_bullet_in op.And c q k) m r e c p i);
  branches = λ m e c. take e (bullet_of op.Or c) >>= λ p. r.list m c >>= λ is. peek e (λ q k. branches_if (is_bullet_in op.Or c q k) m r e c p is);
}

abbrev pub no_items_read : ItemReaders
no_items_read = record { item = λ m e. refuses; list = λ m e. refuses; items = λ m e c. refuses; branches = λ m e c. refuses }

unfoldable pub item_readers : ℕ → ItemReaders
item_readers zero = no_items_read
item_readers (suc n) = item_step (item_readers n)

-- with as many steps as they need: two for each token at most
abbrev pub whole_items : ItemReaders
whole_items = record {
  item = λ m e ts. (item_readers (2 * length ts)).item m e ts;
  list = λ m e ts. (item_readers (2 * length ts)).list m e ts;
  items = λ m e c ts. (item_readers (2 * length ts)).items m e c ts;
  branches = λ m e c ts. (item_readers (2 * length ts)).branches m e c ts;
}

abbrev pub list_in : Bound → ℕ → Reader ListForm
list_in m e = whole_items.list m e
