-- The items of actions as they are written: each line is cut into its tokens, and these are a form of the item, whose columns are right.
use Rattle.std.proofs.Common.{◌≡◌, ℕ, ◌+◌, nat_lt, true, false, List, refl, sym, ap, subst, arith, codes, IsTrue}
use Rattle.std.proofs.lemmas.Bool.{lt-ltb}
use Rattle.tla_token.specs.declared.place.Place.{Place}
use Rattle.tla_token.specs.Places.{after}
use Rattle.tla_tree.specs.declared.op.Op.TheVariants as op
use Rattle.tla_tree.specs.Tree.{Word, Tree}
use Rattle.tla_tree.specs.Lexical.{Token}
use Rattle.tla_tree.specs.Lexical as tk
use Rattle.tla_tree.specs.Spelling.{Phrase, is_primary, Right, Good, spell, tree_of}
use Rattle.tla_tree.specs.laws.Writable.{IsIdentifier, IsWritable}
use Rattle.tla_tree.specs.laws.Placeless.{tree_placeless}
use Rattle.tla_tree.proofs.FitTrees.{written_starts}
use Rattle.tla_tree.proofs.SpelledTokens.{sign_spelled}
use Rattle.module_tree.specs.Module.{Item, test, setting, unchanged, exists, local, if_then_else, either, Items, no_items, item, Branches, no_branches, branch}
use Rattle.module_tree.specs.Grammar.{see, spell_names, ItemForm, test_form, setting_form, unchanged_form, exists_form, local_form, choice_form, either_form, ListForm, last_item, more_items, BranchForms, last_branch, more_branches, spell_item, spell_list, spell_branches, item_of, items_of, branches_of, list_column, branch_column, GoodItem, GoodList, GoodBranches}
use Rattle.module_tree.specs.Layout.{item_text, items_text, branches_text, tuple_of}
use Rattle.module_tree.specs.laws.WritableRegion.{IsItem, AreItems, AreBranches, AreNames}
use Rattle.module_tree.specs.laws.PlacelessRegion.{item_placeless, items_placeless, branches_placeless}
use Rattle.module_tree.proofs.Chunks.{put, Chunk, any, join, space, nothing, over}
use Rattle.module_tree.proofs.ExprChunks.{first, expr_at, name_at, name_over, names_at}
use Rattle.module_tree.proofs.LineChunks.{line_of, spaced_sign, key_blank, defines_blank, colon_line, close, prime, open_round, open_tuple, close_tuple, and_line, or_line, then_word, else_word, in_word, unchanged_word, and_bullet, after_and}

-- ---- an item, its bullet in column 1 + k, from line n on

pub record ItemAt (k n : ℕ) (i : Item) : Type 0 where
  pub form : ItemForm
  pub good : GoodItem (1 + k) form
  pub same : item_placeless (item_of form) ≡ item_placeless i
  pub next : ℕ
  pub chunk : Chunk any (put n 1) (item_text k i) (λ r. see (put n (1 + k)) (tk.sign op.And) (spell_item form r)) (put next 1)

pub record ItemsAt (k n : ℕ) (is : Items) : Type 0 where
  pub form : ListForm
  pub column : list_column form ≡ 1 + k
  pub good : GoodList (1 + k) form
  pub same : items_placeless (items_of form) ≡ items_placeless is
  pub next : ℕ
  pub chunk : Chunk any (put n 1) (items_text k is) (spell_list form) (put next 1)

pub record BranchesAt (k n : ℕ) (bs : Branches) : Type 0 where
  pub form : BranchForms
  pub column : branch_column form ≡ 1 + (k + 5)
  pub good : GoodBranches (1 + (k + 5)) form
  pub same : branches_placeless (branches_of form) ≡ branches_placeless bs
  pub next : ℕ
  pub chunk : Chunk any (put n 1) (branches_text k bs) (spell_branches form) (put next 1)

-- a list right of an edge
abbrev Deeper : ℕ → ℕ → ListForm → Type 0
Deeper e c f = IsTrue (nat_lt e c) × GoodList c f

deeper : (e k n : ℕ) (is : Items) (x : ItemsAt k n is) → IsTrue (nat_lt e (1 + k)) → Deeper e (list_column x.form) x.form
deeper e k n is x h = subst (λ (c : ℕ). Deeper e c x.form) (sym x.column) (h, x.good)

-- ---- the items of one line

-- a test, with what its form is made of
pub record TestAt (k n : ℕ) (e : Tree) : Type 0 where
  pub left : Place
  pub phrase : Phrase
  pub right : Place
  pub good_left : Right (1 + k) left
  pub good : Good (1 + k) phrase
  pub good_right : Right (1 + k) right
  pub tree : tree_placeless (tree_of phrase) ≡ tree_placeless e
  pub next : ℕ
  pub chunk : Chunk any (put n 1) (item_text k (test e)) (λ r. see (put n (1 + k)) (tk.sign op.And) (see left (tk.mark tk.open_bracket) (spell phrase (see right (tk.mark tk.close_bracket) r)))) (put next 1)

pub test_at : (k n : ℕ) (e : Tree) → IsWritable e → TestAt k n e
test_at k n e v =
    let p = after (put n (1 + k)) (codes "/\\ ") in
    let r = after_and n k in
    let q = after p (codes "(") in
    let x = expr_at k false e v q (over (1 + k) p (codes "(") r refl) in
    record {
      left = p;
      phrase = x.phrase;
      right = x.end;
      good_left = r;
      good = x.good;
      good_right = x.right;
      tree = x.tree;
      next = (after x.end (codes ")")).line + 1;
      chunk = line_of n k (join (join (join (and_bullet n k) (open_round p) (λ y h. refl)) x.chunk (λ y h. written_starts y e v false h)) (close x.end) (λ y h. refl)) (λ y. refl);
    }

test_item : (k n : ℕ) (e : Tree) → IsWritable e → ItemAt k n (test e)
test_item k n e v =
    (let x = test_at k n e v in record { form = test_form x.left x.phrase x.right; good = (x.good_left, x.good, x.good_right); same = ap test x.tree; next = x.next; chunk = x.chunk })

setting_item : (k n : ℕ) (x : Word) (e : Tree) → IsIdentifier x → IsWritable e → ItemAt k n (setting x e)
setting_item k n x e h v =
    let p = after (put n (1 + k)) (codes "/\\ ") in
    let rp = after_and n k in
    let q = after p x in
    let rq = name_over (1 + k) p x h rp in
    let s = after q (codes "'") in
    let rs = over (1 + k) q (codes "'") rq refl in
    let t = after s (codes " ") in
    let rt = over (1 + k) s (codes " ") rs refl in
    let u = after (after t (codes "=")) (codes " ") in
    let a = expr_at k true e v u (over (1 + k) (after t (codes "=")) (codes " ") (over (1 + k) t (codes "=") rt refl) refl) in
    record {
      form = setting_form p x q t a.phrase;
      good = (rp, rq, rt, (ap is_primary (a.operand refl), a.good));
      same = ap (setting x) a.tree;
      next = a.end.line + 1;
      chunk = line_of n k (join (join (join (and_bullet n k) (name_at p x h (first k p rp)) (λ y e. refl)) (join (prime q) (spaced_sign s op.Equal (sign_spelled op.Equal)) (λ y e. refl)) (λ y e. refl)) a.chunk (λ y e. refl)) (λ y. refl);
    }

-- <<x, y>>
pub tuple_at : (k : ℕ) (xs : List Word) (h : AreNames xs) (p : Place) (r : Right (1 + k) p) → (let x = names_at k xs h (after p (codes "<<")) (over (1 + k) p (codes "<<") r refl) in Chunk any p (tuple_of xs) (λ ts. see p (tk.mark tk.open_tuple) (spell_names x.form (see x.end (tk.mark tk.close_tuple) ts))) (after x.end (codes ">>")))
tuple_at k xs h p r = (let x = names_at k xs h (after p (codes "<<")) (over (1 + k) p (codes "<<") r refl) in join (join (open_tuple p) x.chunk (λ y e. refl)) (close_tuple x.end) (λ y e. refl))

unchanged_item : (k n : ℕ) (xs : List Word) → AreNames xs → ItemAt k n (unchanged xs)
unchanged_item k n xs h =
    let p = after (put n (1 + k)) (codes "/\\ ") in
    let rp = after_and n k in
    let q = after (after p (codes "UNCHANGED")) (codes " ") in
    let rq = over (1 + k) (after p (codes "UNCHANGED")) (codes " ") (over (1 + k) p (codes "UNCHANGED") rp refl) refl in
    let x = names_at k xs h (after q (codes "<<")) (over (1 + k) q (codes "<<") rq refl) in
    record {
      form = unchanged_form p q x.form x.end;
      good = (rp, rq, x.good, x.right);
      same = ap unchanged x.words;
      next = (after x.end (codes ">>")).line + 1;
      chunk = line_of n k (join (join (and_bullet n k) (join (unchanged_word p) (space (after p (codes "UNCHANGED"))) (λ y e. refl)) (λ y e. refl)) (tuple_at k xs h q rq) (λ y e. refl)) (λ y. refl);
    }

-- ---- items with lists in them

exists_item : (k n : ℕ) (x : Word) (s : Tree) (is : Items) → IsIdentifier x → IsWritable s → ((m : ℕ) → ItemsAt (k + 5) m is) → ItemAt k n (exists x s is)
exists_item k n x s is h v body =
    let p = after (put n (1 + k)) (codes "/\\ ") in
    let rp = after_and n k in
    let q = after (after p (codes "\\E")) (codes " ") in
    let rq = over (1 + k) (after p (codes "\\E")) (codes " ") (over (1 + k) p (codes "\\E") rp refl) refl in
    let b = after q x in
    let t = after b (codes " ") in
    let rt = over (1 + k) b (codes " ") (name_over (1 + k) q x h rq) refl in
    let u = after (after t (codes "\\in")) (codes " ") in
    let a = expr_at k true s v u (over (1 + k) (after t (codes "\\in")) (codes " ") (over (1 + k) t (codes "\\in") rt refl) refl) in
    let c = after a.end (codes " ") in
    let inner = body ((after c (codes ":")).line + 1) in
    let d = deeper (1 + k) (k + 5) _ is inner (lt-ltb (1 + k) (1 + (k + 5)) (omega arith)) in
    record {
      form = exists_form p q x t a.phrase c inner.form;
      good = (rp, rq, rt, a.good, over (1 + k) a.end (codes " ") a.right refl, d.0, d.1);
      same = (λ i. exists x (a.tree i) (inner.same i));
      next = inner.next;
      chunk = join (line_of n k (join (join (join (join (join (and_bullet n k) (join (key_blank p tk.exists_key) (space (after p (codes "\\E"))) (λ y e. refl)) (λ y e. refl)) (name_at q x h (first k q rq)) (λ y e. refl)) (spaced_sign b op.In (sign_spelled op.In)) (λ y e. refl)) a.chunk (λ y e. refl)) (join (space a.end) (colon_line c) (λ y e. refl)) (λ y e. refl)) (λ y. refl)) inner.chunk (λ y e. refl);
    }

local_item : (k n : ℕ) (x : Word) (e : Tree) (is : Items) → IsIdentifier x → IsWritable e → ((m : ℕ) → ItemsAt (k + 5) m is) → ItemAt k n (local x e is)
local_item k n x e is h v body =
    let p = after (put n (1 + k)) (codes "/\\ ") in
    let rp = after_and n k in
    let q = after (after p (codes "LET")) (codes " ") in
    let rq = over (1 + k) (after p (codes "LET")) (codes " ") (over (1 + k) p (codes "LET") rp refl) refl in
    let b = after q x in
    let t = after b (codes " ") in
    let rt = over (1 + k) b (codes " ") (name_over (1 + k) q x h rq) refl in
    let u = after (after t (codes "==")) (codes " ") in
    let a = expr_at k false e v u (over (1 + k) (after t (codes "==")) (codes " ") (over (1 + k) t (codes "==") rt refl) refl) in
    let c = after a.end (codes " ") in
    let inner = body ((after c (codes "IN")).line + 1) in
    let d = deeper (1 + k) (k + 5) _ is inner (lt-ltb (1 + k) (1 + (k + 5)) (omega arith)) in
    record {
      form = local_form p q x t a.phrase c inner.form;
      good = (rp, rq, rt, a.good, over (1 + k) a.end (codes " ") a.right refl, d.0, d.1);
      same = (λ i. local x (a.tree i) (inner.same i));
      next = inner.next;
      chunk = join (line_of n k (join (join (join (join (join (and_bullet n k) (join (key_blank p tk.let_key) (space (after p (codes "LET"))) (λ y e. refl)) (λ y e. refl)) (name_at q x h (first k q rq)) (λ y e. refl)) (join (space b) (join (defines_blank t) (space (after t (codes "=="))) (λ y e. refl)) (λ y e. refl)) (λ y e. refl)) a.chunk (λ y e. refl)) (join (space a.end) (in_word c) (λ y e. refl)) (λ y e. refl)) (λ y. refl)) inner.chunk (λ y e. refl);
    }

choice_item : (k n : ℕ) (d : Tree) (is js : Items) → IsWritable d → ((m : ℕ) → ItemsAt (k + 5) m is) → ((m : ℕ) → ItemsAt (k + 5) m js) → ItemAt k n (if_then_else d is js)
choice_item k n d is js v first_body second_body =
    let p = after (put n (1 + k)) (codes "/\\ ") in
    let rp = after_and n k in
    let q = after (after p (codes "IF")) (codes " ") in
    let a = expr_at k false d v q (over (1 + k) (after p (codes "IF")) (codes " ") (over (1 + k) p (codes "IF") rp refl) refl) in
    let m = a.end.line + 1 in
    let t = put m (1 + (k + 3)) in
    let x = first_body ((after t (codes "THEN")).line + 1) in
    let u = put x.next (1 + (k + 3)) in
    let y = second_body ((after u (codes "ELSE")).line + 1) in
    let far = lt-ltb (1 + k) (1 + (k + 3)) (omega arith) in
    let in_list = lt-ltb (1 + k) (1 + (k + 5)) (omega arith) in
    let dx = deeper (1 + k) (k + 5) _ is x in_list in
    let dy = deeper (1 + k) (k + 5) _ js y in_list in
    record {
      form = choice_form p a.phrase t x.form u y.form;
      good = (rp, a.good, far, dx.0, dx.1, far, dy.0, dy.1);
      same = (λ i. if_then_else (a.tree i) (x.same i) (y.same i));
      next = y.next;
      chunk = join (join (join (join (line_of n k (join (join (and_bullet n k) (join (key_blank p tk.if_key) (space (after p (codes "IF"))) (λ y e. refl)) (λ y e. refl)) a.chunk (λ y e. refl)) (λ y. refl)) (line_of m (k + 3) (then_word t) (λ y. refl)) (λ y e. refl)) x.chunk (λ y e. refl)) (line_of x.next (k + 3) (else_word u) (λ y. refl)) (λ y e. refl)) y.chunk (λ y e. refl);
    }

either_item : (k n : ℕ) (bs : Branches) → ((m : ℕ) → BranchesAt k m bs) → ItemAt k n (either bs)
either_item k n bs body =
    let x = body ((after (put n (1 + k)) (codes "/\\")).line + 1) in
    let in_list = lt-ltb (1 + k) (1 + (k + 5)) (omega arith) in
    record {
      form = either_form x.form;
      good = subst (λ (c : ℕ). IsTrue (nat_lt (1 + k) c) × GoodBranches c x.form) (sym x.column) (in_list, x.good);
      same = ap either x.same;
      next = x.next;
      chunk = join (line_of n k (and_line (put n (1 + k))) (λ y. refl)) x.chunk (λ y e. refl);
    }

-- ---- lists

last_at : (k n : ℕ) (i : Item) → ItemAt k n i → ItemsAt k n (item i no_items)
last_at k n i x = record {
  form = last_item (put n (1 + k)) x.form;
  column = refl;
  good = (refl, x.good);
  same = ap (λ (j : Item). item j no_items) x.same;
  next = x.next;
  chunk = join x.chunk (nothing (put x.next 1)) (λ y e. refl);
}

more_at : (k n : ℕ) (i : Item) (is : Items) (x : ItemAt k n i) → ItemsAt k x.next is → ItemsAt k n (item i is)
more_at k n i is x y = record {
  form = more_items (put n (1 + k)) x.form y.form;
  column = refl;
  good = (refl, x.good, y.good);
  same = (λ j. item (x.same j) (y.same j));
  next = y.next;
  chunk = join x.chunk y.chunk (λ y e. refl);
}

-- after `\/` alone in its line
abbrev under : ℕ → ℕ
under n = n + 1

last_branch_at : (k n : ℕ) (is : Items) → ItemsAt (k + 10) (under n) is → BranchesAt k n (branch is no_branches)
last_branch_at k n is x =
    let d = deeper (1 + (k + 5)) (k + 10) _ is x (lt-ltb (1 + (k + 5)) (1 + (k + 10)) (omega arith)) in
    record {
      form = last_branch (put n (1 + (k + 5))) x.form;
      column = refl;
      good = (refl, d.0, d.1);
      same = ap (λ (js : Items). branch js no_branches) x.same;
      next = x.next;
      chunk = join (join (line_of n (k + 5) (or_line (put n (1 + (k + 5)))) (λ y. refl)) x.chunk (λ y e. refl)) (nothing (put x.next 1)) (λ y e. refl);
    }

more_branches_at : (k n : ℕ) (is : Items) (bs : Branches) (x : ItemsAt (k + 10) (under n) is) → BranchesAt k x.next bs → BranchesAt k n (branch is bs)
more_branches_at k n is bs x y =
    let d = deeper (1 + (k + 5)) (k + 10) _ is x (lt-ltb (1 + (k + 5)) (1 + (k + 10)) (omega arith)) in
    record {
      form = more_branches (put n (1 + (k + 5))) x.form y.form;
      column = refl;
      good = (refl, d.0, d.1, y.good);
      same = (λ j. branch (x.same j) (y.same j));
      next = y.next;
      chunk = join (join (line_of n (k + 5) (or_line (put n (1 + (k + 5)))) (λ y. refl)) x.chunk (λ y e. refl)) y.chunk (λ y e. refl);
    }

mutual
  pub item_at : (k n : ℕ) (i : Item) → IsItem i → ItemAt k n i
  item_at k n (test e) h = test_item k n e h
  item_at k n (setting x e) h = setting_item k n x e h.0 h.1
  item_at k n (unchanged xs) h = unchanged_item k n xs h
  item_at k n (exists x s is) h = exists_item k n x s is h.0 h.1 (λ m. items_at (k + 5) m is h.2)
  item_at k n (local x e is) h = local_item k n x e is h.0 h.1 (λ m. items_at (k + 5) m is h.2)
  item_at k n (if_then_else e is js) h = choice_item k n e is js h.0 (λ m. items_at (k + 5) m is h.1) (λ m. items_at (k + 5) m js h.2)
  item_at k n (either bs) h = either_item k n bs (λ m. branches_at k m bs h)

  pub items_at : (k n : ℕ) (is : Items) → AreItems is → ItemsAt k n is
  items_at k n no_items h = absurd h
  items_at k n (item i no_items) h = last_at k n i (item_at k n i h)
  items_at k n (item i (item j is)) h = (let x = item_at k n i h.0 in more_at k n i (item j is) x (items_at k x.next (item j is) h.1))

  branches_at : (k n : ℕ) (bs : Branches) → AreBranches bs → BranchesAt k n bs
  branches_at k n no_branches h = absurd h
  branches_at k n (branch is no_branches) h = last_branch_at k n is (items_at (k + 10) (under n) is h)
  branches_at k n (branch is (branch js bs)) h = (let x = items_at (k + 10) (under n) is h.0 in more_branches_at k n is (branch js bs) x (branches_at k x.next (branch js bs) h.1))
