-- What is read is spelled, and what is spelled is read: items, and lists of them by their columns.
use Rattle.std.proofs.Common.{◌≡◌, ℕ, zero, suc, ◌*◌, ◌≤◌, nat_lt, nat_eq, bytes_eq, Bool, true, false, List, [], ◌∷◌, length, codes, Ok, refl, sym, ap, subst, ◌∙◌, arith}
use Rattle.std.proofs.lemmas.Bool.{both_ways}
use Rattle.tla_token.specs.declared.place.Place.{Place}
use Rattle.tla_token.proofs.Spelled.{same_bytes}
use Rattle.tla_tree.specs.declared.op.Op.TheVariants as op
use Rattle.tla_tree.specs.Tree.{Word}
use Rattle.tla_tree.specs.Lexical.{TokenView, Token, token, mark, sign, key}
use Rattle.tla_tree.specs.Lexical as tk
use Rattle.tla_tree.specs.Spelling.{Phrase, Right, head, is_primary, spell}
use Rattle.tla_tree.specs.Reader.{next, tail, end, read}
use Rattle.tla_tree.proofs.ReadStops.{Calm, calm_right}
use Rattle.tla_tree.proofs.SoundTokens.{then_ok, given, seen, mark_ok, key_ok, sign_ok, word_ok}
use Rattle.tla_tree.proofs.SoundLists.{read_is_spelled}
use Rattle.module_tree.specs.Grammar.{see, keyword, GoodOperand, ItemForm, test_form, setting_form, unchanged_form, exists_form, local_form, choice_form, either_form, ListForm, last_item, more_items, BranchForms, last_branch, more_branches, spell_item, spell_list, spell_branches, list_column, branch_column, GoodItem, GoodList, GoodBranches}
use Rattle.module_tree.proofs.OneItem.{calm_at, bullet_calm, list_calm}
use Rattle.region_reading.specs.Bound.{unbounded}
use Rattle.region_reading.specs.NameReader.{is_bullet_in}
use Rattle.region_reading.specs.ItemReader.{ItemReaders, operand_if, an_operand, unchanged_if, item_by, list_by, items_if, branches_if, item_step, no_items_read, item_readers, list_in}
use Rattle.region_reading.proofs.NamesRead.{phrase_read, shorter, names_ok, names_read, names_shorter}
use Rattle.region_reading.proofs.BulletsRead.{bullet_ok, bullet_read, bullet_seen, no_bullet}

-- ---- what is read is spelled

pub record Sound (r : ItemReaders) : Type 0 where
  pub item : (e : ℕ) (ts : List Token) (i : ItemForm) (us : List Token) → r.item unbounded e ts ≡ Ok (i, us) → GoodItem e i × (spell_item i us ≡ ts)
  pub list : (e : ℕ) (ts : List Token) (is : ListForm) (us : List Token) → r.list unbounded e ts ≡ Ok (is, us) → (nat_lt e (list_column is) ≡ true) × GoodList (list_column is) is × (spell_list is us ≡ ts)
  pub items : (e c : ℕ) (ts : List Token) (is : ListForm) (us : List Token) → r.items unbounded e c ts ≡ Ok (is, us) → (nat_lt e c ≡ true) × GoodList c is × (spell_list is us ≡ ts)
  pub branches : (e c : ℕ) (ts : List Token) (bs : BranchForms) (us : List Token) → r.branches unbounded e c ts ≡ Ok (bs, us) → (nat_lt e c ≡ true) × GoodBranches c bs × (spell_branches bs us ≡ ts)

pub column_is : (c : ℕ) (is : ListForm) → GoodList c is → list_column is ≡ c
column_is c (last_item p i) g = g.0
column_is c (more_items p i is) g = g.0

branch_column_is : (c : ℕ) (bs : BranchForms) → GoodBranches c bs → branch_column bs ≡ c
branch_column_is c (last_branch p is) g = g.0
branch_column_is c (more_branches p is bs) g = g.0

-- a reserved word that is seen is there
word_in : TokenView → Word
word_in (tk.other w) = w
word_in k = []

pub keyword_seen : (e : ℕ) (ts : List Token) (p : Place) (w : Word) → next e ts ≡ token p (tk.other w) → bytes_eq [] w ≡ false → Right e p × (keyword p w (tail ts) ≡ ts)
unfolding word_in
keyword_seen e ts p w s n = by ts s
  where
    none : end ≡ token p (tk.other w) → ⊥
    none h = (let f : [] ≡ w = ap (λ (t : Token). word_in t.kind) h in both_ways (bytes_eq [] w) n (ap (λ (v : Word). bytes_eq [] v) (sym f)))

    there : (t : Token) (ts : List Token) (b : Bool) → nat_lt e t.place.col ≡ b → next e (t ∷ ts) ≡ token p (tk.other w) → Right e p × (keyword p w ts ≡ t ∷ ts)
    there t ts true l s = (let it : t ≡ token p (tk.other w) = rw l at s in (ap (λ (u : Token). nat_lt e u.place.col) (sym it) ∙ l, ap (λ (u : Token). u ∷ ts) (sym it)))
    there t ts false l s = absurd (none (rw l at s))

    by : (ts : List Token) → next e ts ≡ token p (tk.other w) → Right e p × (keyword p w (tail ts) ≡ ts)
    by [] s = absurd (none s)
    by (t ∷ ts) s = there t ts (nat_lt e t.place.col) refl s

operand_if_ok : (e : ℕ) (ts : List Token) (b : Phrase) (vs : List Token) → read e ts ≡ Ok (b, vs) → (p : Bool) → is_primary (head b) ≡ p → (a : Phrase) (us : List Token)
    → operand_if p b vs ≡ Ok (a, us) → GoodOperand e a × (spell a us ≡ ts)
operand_if_ok e ts b vs o true h a us g = (let w = read_is_spelled e ts vs b o in given (λ d ws. GoodOperand e d × (spell d ws ≡ ts)) g ((h, w.0), sym w.1))
operand_if_ok e ts b vs o false h a us g = absurd cc

operand_ok : (e : ℕ) (ts : List Token) (a : Phrase) (us : List Token) → an_operand unbounded e ts ≡ Ok (a, us) → GoodOperand e a × (spell a us ≡ ts)
operand_ok e ts a us o = (let v = then_ok o in operand_if_ok e ts v.0 v.1 v.2 (is_primary (head v.0)) refl a us v.3)

module _ (r : ItemReaders) (h : Sound r) where
  abbrev IsItem : ℕ → List Token → ItemForm → List Token → Type 0
  IsItem e ts i us = GoodItem e i × (spell_item i us ≡ ts)

  unchanged_ok : (e : ℕ) (p : Place) (ts : List Token) (i : ItemForm) (us : List Token) → next e ts ≡ token p (tk.other (codes "UNCHANGED"))
      → unchanged_if true unbounded e p ts ≡ Ok (i, us) → IsItem e ts i us
  unchanged_ok e p ts i us s o =
      let n = keyword_seen e ts p (codes "UNCHANGED") s refl in
      let v = then_ok o in
      let m = mark_ok e tk.open_tuple (tail ts) v.0 v.1 v.2 in
      let u = then_ok v.3 in
      let w = names_ok e v.1 u.0 u.1 u.2 in
      let x = then_ok u.3 in
      let k = mark_ok e tk.close_tuple u.1 x.0 x.1 x.2 in
      given (λ d vs. IsItem e ts d vs) x.3 ((n.0, m.0, w.0, k.0), rw (k.1, w.1, m.1, n.1) refl)

  item_by_ok : (e : ℕ) (p : Place) (k : TokenView) (ts : List Token) (i : ItemForm) (us : List Token) → next e ts ≡ token p k
      → item_by unbounded r e p k ts ≡ Ok (i, us) → IsItem e ts i us
  item_by_ok e p (mark tk.open_bracket) ts i us s o =
      let n = seen e ts p (mark tk.open_bracket) s refl in
      let v = then_ok o in
      let w = read_is_spelled e (tail ts) v.1 v.0 v.2 in
      let u = then_ok v.3 in
      let m = mark_ok e tk.close_bracket v.1 u.0 u.1 u.2 in
      given (λ d vs. IsItem e ts d vs) u.3 ((n.0, w.0, m.0), rw (m.1, sym w.1, n.1) refl)
  item_by_ok e p (tk.word x) ts i us s o =
      let n = seen e ts p (tk.word x) s refl in
      let v = then_ok o in
      let m = mark_ok e tk.prime (tail ts) v.0 v.1 v.2 in
      let u = then_ok v.3 in
      let k = sign_ok e op.Equal v.1 u.0 u.1 u.2 in
      let z = then_ok u.3 in
      let w = operand_ok e u.1 z.0 z.1 z.2 in
      given (λ d vs. IsItem e ts d vs) z.3 ((n.0, m.0, k.0, w.0), rw (w.1, k.1, m.1, n.1) refl)
  item_by_ok e p (tk.other w) ts i us s o = by (bytes_eq w (codes "UNCHANGED")) refl o
    where
      by : (b : Bool) → bytes_eq w (codes "UNCHANGED") ≡ b → unchanged_if b unbounded e p ts ≡ Ok (i, us) → IsItem e ts i us
      by true q o = unchanged_ok e p ts i us (s ∙ ap (λ (v : Word). token p (tk.other v)) (same_bytes w (codes "UNCHANGED") q)) o
      by false q o = absurd cc
  item_by_ok e p (key tk.exists_key) ts i us s o =
      let n = seen e ts p (key tk.exists_key) s refl in
      let v = then_ok o in
      let x = word_ok e (tail ts) v.0 v.1 v.2 in
      let u = then_ok v.3 in
      let k = sign_ok e op.In v.1 u.0 u.1 u.2 in
      let z = then_ok u.3 in
      let w = read_is_spelled e u.1 z.1 z.0 z.2 in
      let y = then_ok z.3 in
      let m = mark_ok e tk.colon z.1 y.0 y.1 y.2 in
      let q = then_ok y.3 in
      let l = h.list e y.1 q.0 q.1 q.2 in
      given (λ d vs. IsItem e ts d vs) q.3 ((n.0, x.0, k.0, w.0, m.0, l.0, l.1), rw (l.2, m.1, sym w.1, k.1, x.1, n.1) refl)
  item_by_ok e p (key tk.let_key) ts i us s o =
      let n = seen e ts p (key tk.let_key) s refl in
      let v = then_ok o in
      let x = word_ok e (tail ts) v.0 v.1 v.2 in
      let u = then_ok v.3 in
      let k = mark_ok e tk.defines v.1 u.0 u.1 u.2 in
      let z = then_ok u.3 in
      let w = read_is_spelled e u.1 z.1 z.0 z.2 in
      let y = then_ok z.3 in
      let m = key_ok e tk.in_key z.1 y.0 y.1 y.2 in
      let q = then_ok y.3 in
      let l = h.list e y.1 q.0 q.1 q.2 in
      given (λ d vs. IsItem e ts d vs) q.3 ((n.0, x.0, k.0, w.0, m.0, l.0, l.1), rw (l.2, m.1, sym w.1, k.1, x.1, n.1) refl)
  item_by_ok e p (key tk.if_key) ts i us s o =
      let n = seen e ts p (key tk.if_key) s refl in
      let v = then_ok o in
      let w = read_is_spelled e (tail ts) v.1 v.0 v.2 in
      let u = then_ok v.3 in
      let k = key_ok e tk.then_key v.1 u.0 u.1 u.2 in
      let z = then_ok u.3 in
      let l = h.list e u.1 z.0 z.1 z.2 in
      let y = then_ok z.3 in
      let m = key_ok e tk.else_key z.1 y.0 y.1 y.2 in
      let q = then_ok y.3 in
      let j = h.list e y.1 q.0 q.1 q.2 in
      given (λ d vs. IsItem e ts d vs) q.3 ((n.0, w.0, k.0, l.0, l.1, m.0, j.0, j.1), rw (j.2, m.1, l.2, k.1, sym w.1, n.1) refl)
  item_by_ok e p (sign op.Or) ts i us s o =
      let v = then_ok o in
      let w = h.branches e p.col ts v.0 v.1 v.2 in
      let c = branch_column_is p.col v.0 w.1 in
      given (λ d vs. IsItem e ts d vs) v.3 ((ap (λ (n : ℕ). nat_lt e n) c ∙ w.0, subst (λ (n : ℕ). GoodBranches n v.0) (sym c) w.1), w.2)
  item_by_ok e p k ts i us s o = absurd cc

  list_by_ok : (e : ℕ) (p : Place) (k : TokenView) (ts : List Token) (is : ListForm) (us : List Token)
      → list_by unbounded r e p k ts ≡ Ok (is, us) → (nat_lt e (list_column is) ≡ true) × GoodList (list_column is) is × (spell_list is us ≡ ts)
  list_by_ok e p (sign op.And) ts is us o =
      let w = h.items e p.col ts is us o in
      let c = column_is p.col is w.1 in
      (ap (λ (n : ℕ). nat_lt e n) c ∙ w.0, subst (λ (n : ℕ). GoodList n is) (sym c) w.1, w.2)
  list_by_ok e p k ts is us o = absurd cc

  items_ok : (e c : ℕ) (p : Place) → p.col ≡ c → (i : ItemForm) → GoodItem c i → (b : Bool) (ts : List Token) (is : ListForm) (us : List Token)
      → items_if b unbounded r e c p i ts ≡ Ok (is, us) → GoodList c is × (spell_list is us ≡ see p (sign op.And) (spell_item i ts))
  items_ok e c p q i g true ts is us o =
      let v = then_ok o in
      let w = h.items e c ts v.0 v.1 v.2 in
      given (λ d vs. GoodList c d × (spell_list d vs ≡ see p (sign op.And) (spell_item i ts))) v.3 ((q, g, w.1), rw w.2 refl)
  items_ok e c p q i g false ts is us o = given (λ d vs. GoodList c d × (spell_list d vs ≡ see p (sign op.And) (spell_item i ts))) o ((q, g), refl)

  branches_ok : (e c : ℕ) (p : Place) → p.col ≡ c → (is : ListForm) → nat_lt c (list_column is) ≡ true → GoodList (list_column is) is → (b : Bool) (ts : List Token) (bs : BranchForms) (us : List Token)
      → branches_if b unbounded r e c p is ts ≡ Ok (bs, us) → GoodBranches c bs × (spell_branches bs us ≡ see p (sign op.Or) (spell_list is ts))
  branches_ok e c p q is l g true ts bs us o =
      let v = then_ok o in
      let w = h.branches e c ts v.0 v.1 v.2 in
      given (λ d vs. GoodBranches c d × (spell_branches d vs ≡ see p (sign op.Or) (spell_list is ts))) v.3 ((q, l, g, w.1), rw w.2 refl)
  branches_ok e c p q is l g false ts bs us o = given (λ d vs. GoodBranches c d × (spell_branches d vs ≡ see p (sign op.Or) (spell_list is ts))) o ((q, l, g), refl)

  step_sound : Sound (item_step r)
  step_sound = record {
    item = λ e ts i us o. item_by_ok e (next e ts).place (next e ts).kind ts i us refl o;
    list = λ e ts is us o. list_by_ok e (next e ts).place (next e ts).kind ts is us o;
    items = λ e c ts is us o.
        (let v = then_ok o in
        let m = bullet_ok e op.And c ts v.0 v.1 v.2 in
        let u = then_ok v.3 in
        let w = h.item c v.1 u.0 u.1 u.2 in
        let z = items_ok e c v.0 m.1 u.0 w.0 (is_bullet_in op.And c (next e u.1).place (next e u.1).kind) u.1 is us u.3 in
        (ap (λ (n : ℕ). nat_lt e n) (sym m.1) ∙ m.0, z.0, z.1 ∙ rw (w.1, m.2) refl));
    branches = λ e c ts bs us o.
        (let v = then_ok o in
        let m = bullet_ok e op.Or c ts v.0 v.1 v.2 in
        let u = then_ok v.3 in
        let w = h.list c v.1 u.0 u.1 u.2 in
        let z = branches_ok e c v.0 m.1 u.0 w.0 w.1 (is_bullet_in op.Or c (next e u.1).place (next e u.1).kind) u.1 bs us u.3 in
        (ap (λ (n : ℕ). nat_lt e n) (sym m.1) ∙ m.0, z.0, z.1 ∙ rw (w.2, m.2) refl));
  }

none_sound : Sound no_items_read
none_sound = record { item = λ e ts i us o. absurd cc; list = λ e ts is us o. absurd cc; items = λ e c ts is us o. absurd cc; branches = λ e c ts bs us o. absurd cc }

pub items_sound : (n : ℕ) → Sound (item_readers n)
unfolding item_readers
items_sound zero = none_sound
items_sound (suc n) = step_sound (item_readers n) (items_sound n)

pub list_ok : (e : ℕ) (ts : List Token) (is : ListForm) (us : List Token) → list_in unbounded e ts ≡ Ok (is, us) → (nat_lt e (list_column is) ≡ true) × GoodList (list_column is) is × (spell_list is us ≡ ts)
list_ok e ts is us o = (items_sound (2 * length ts)).list e ts is us o

-- ---- what is spelled is read

mutual
  item_shorter : (i : ItemForm) (r : List Token) → length r ≤ length (spell_item i r)
  item_shorter (test_form p a q) r = omega (arith, shorter a (see q (mark tk.close_bracket) r))
  item_shorter (setting_form p x q s a) r = omega (arith, shorter a r)
  item_shorter (unchanged_form p q ns s) r = omega (arith, names_shorter ns (see s (mark tk.close_tuple) r))
  item_shorter (exists_form p q x s a t is) r = omega (arith, shorter a (see t (mark tk.colon) (spell_list is r)), list_shorter is r)
  item_shorter (local_form p q x s a t is) r = omega (arith, shorter a (see t (key tk.in_key) (spell_list is r)), list_shorter is r)
  item_shorter (choice_form p a q is s js) r =
      let r2 = see s (key tk.else_key) (spell_list js r) in
      omega (arith, shorter a (see q (key tk.then_key) (spell_list is r2)), list_shorter is r2, list_shorter js r)
  item_shorter (either_form bs) r = branches_shorter bs r

  pub list_shorter : (is : ListForm) (r : List Token) → length r ≤ length (spell_list is r)
  list_shorter (last_item p i) r = omega (arith, item_shorter i r)
  list_shorter (more_items p i is) r = omega (arith, item_shorter i (spell_list is r), list_shorter is r)

  branches_shorter : (bs : BranchForms) (r : List Token) → length r ≤ length (spell_branches bs r)
  branches_shorter (last_branch p is) r = omega (arith, list_shorter is r)
  branches_shorter (more_branches p is bs) r = omega (arith, list_shorter is (spell_branches bs r), branches_shorter bs r)

list_seen : (e c : ℕ) (is : ListForm) (r : List Token) → nat_lt e c ≡ true → GoodList c is
    → is_bullet_in op.And c (next e (spell_list is r)).place (next e (spell_list is r)).kind ≡ true
list_seen e c (last_item p i) r l g = bullet_seen e op.And c p (spell_item i r) l g.0
list_seen e c (more_items p i is) r l g = bullet_seen e op.And c p (spell_item i (spell_list is r)) l g.0

branches_seen : (e c : ℕ) (bs : BranchForms) (r : List Token) → nat_lt e c ≡ true → GoodBranches c bs
    → is_bullet_in op.Or c (next e (spell_branches bs r)).place (next e (spell_branches bs r)).kind ≡ true
branches_seen e c (last_branch p is) r l g = bullet_seen e op.Or c p (spell_list is r) l g.0
branches_seen e c (more_branches p is bs) r l g = bullet_seen e op.Or c p (spell_list is (spell_branches bs r)) l g.0

-- a bullet in the column of the edge goes on nothing
branches_calm : (c : ℕ) (bs : BranchForms) → GoodBranches c bs → (r : List Token) → Calm c (spell_branches bs r)
branches_calm c (last_branch p is) g r = bullet_calm c (token p (sign op.Or)) (spell_list is r) g.0
branches_calm c (more_branches p is bs) g r = bullet_calm c (token p (sign op.Or)) (spell_list is (spell_branches bs r)) g.0

-- with enough steps, before tokens that go on nothing
abbrev ReadsItem : ItemForm → Type 0
ReadsItem i = (e : ℕ) → GoodItem e i → (r : List Token) → Calm e r → (n : ℕ) → 2 * length (spell_item i r) ≤ n → (item_readers n).item unbounded e (spell_item i r) ≡ Ok (i, r)

abbrev ReadsItems : ListForm → Type 0
ReadsItems is = (e c : ℕ) → nat_lt e c ≡ true → GoodList c is → (r : List Token) → Calm e r → (n : ℕ) → 2 * length (spell_list is r) ≤ suc n → (item_readers n).items unbounded e c (spell_list is r) ≡ Ok (is, r)

abbrev ReadsList : ListForm → Type 0
ReadsList is = (e : ℕ) → nat_lt e (list_column is) ≡ true → GoodList (list_column is) is → (r : List Token) → Calm e r → (n : ℕ) → 2 * length (spell_list is r) ≤ n → (item_readers n).list unbounded e (spell_list is r) ≡ Ok (is, r)

abbrev ReadsBranches : BranchForms → Type 0
ReadsBranches bs = (e c : ℕ) → nat_lt e c ≡ true → GoodBranches c bs → (r : List Token) → Calm e r → (n : ℕ) → 2 * length (spell_branches bs r) ≤ suc n → (item_readers n).branches unbounded e c (spell_branches bs r) ≡ Ok (bs, r)

list_from : (is : ListForm) → ReadsItems is → ReadsList is
unfolding item_readers
list_from (last_item p i) h e l g r c zero m = absurd (omega (arith, m))
list_from (more_items p i is) h e l g r c zero m = absurd (omega (arith, m))
list_from (last_item p i) h e l g r c (suc n) m = rw l (h e p.col l g r c n m)
list_from (more_items p i is) h e l g r c (suc n) m = rw l (h e p.col l g r c n m)

either_from : (bs : BranchForms) → ReadsBranches bs → ReadsItem (either_form bs)
unfolding item_readers
either_from (last_branch p is) h e g r c zero m = absurd (omega (arith, m))
either_from (more_branches p is bs) h e g r c zero m = absurd (omega (arith, m))
either_from (last_branch p is) h e g r c (suc n) m = rw (g.0, h e p.col g.0 g.1 r c n m) refl
either_from (more_branches p is bs) h e g r c (suc n) m = rw (g.0, h e p.col g.0 g.1 r c n m) refl

mutual
  unfolding item_readers

  item_read : (i : ItemForm) → ReadsItem i
  item_read (test_form p a q) e g r c zero m = absurd (omega (arith, m))
  item_read (test_form p a q) e g r c (suc n) m =
      let w = phrase_read e a g.1 (see q (mark tk.close_bracket) r) (calm_at e q (mark tk.close_bracket) r g.2 refl) in
      rw (g.0, w, g.2) refl
  item_read (setting_form p x q s a) e g r c zero m = absurd (omega (arith, m))
  item_read (setting_form p x q s a) e g r c (suc n) m = rw (g.0, g.1, g.2, phrase_read e a g.3.1 r c, g.3.0) refl
  item_read (unchanged_form p q ns s) e g r c zero m = absurd (omega (arith, m))
  item_read (unchanged_form p q ns s) e g r c (suc n) m =
      let w = names_read e ns (see s (mark tk.close_tuple) r) g.2 (rw g.3 refl) in
      rw (g.0, g.1, w, g.3) refl
  item_read (exists_form p q x s a t is) e g r c zero m = absurd (omega (arith, m))
  item_read (exists_form p q x s a t is) e g r c (suc n) m =
      let us = see t (mark tk.colon) (spell_list is r) in
      let w = phrase_read e a g.3 us (calm_at e t (mark tk.colon) (spell_list is r) g.4 refl) in
      let v = list_from is (items_read is) e g.5 g.6 r c n (omega (arith, m, shorter a us)) in
      rw (g.0, g.1, g.2, w, g.4, v) refl
  item_read (local_form p q x s a t is) e g r c zero m = absurd (omega (arith, m))
  item_read (local_form p q x s a t is) e g r c (suc n) m =
      let us = see t (key tk.in_key) (spell_list is r) in
      let w = phrase_read e a g.3 us (calm_at e t (key tk.in_key) (spell_list is r) g.4 refl) in
      let v = list_from is (items_read is) e g.5 g.6 r c n (omega (arith, m, shorter a us)) in
      rw (g.0, g.1, g.2, w, g.4, v) refl
  item_read (choice_form p a q is s js) e g r c zero m = absurd (omega (arith, m))
  item_read (choice_form p a q is s js) e g r c (suc n) m =
      let r2 = see s (key tk.else_key) (spell_list js r) in
      let us = see q (key tk.then_key) (spell_list is r2) in
      let w = phrase_read e a g.1 us (calm_at e q (key tk.then_key) (spell_list is r2) g.2 refl) in
      let v = list_from is (items_read is) e g.3 g.4 r2 (calm_at e s (key tk.else_key) (spell_list js r) g.5 refl) n (omega (arith, m, shorter a us)) in
      let z = list_from js (items_read js) e g.6 g.7 r c n (omega (arith, m, shorter a us, list_shorter is r2)) in
      rw (g.0, w, g.2, v, g.5, z) refl
  item_read (either_form bs) e g r c n m = either_from bs (branches_read bs) e g r c n m

  items_read : (is : ListForm) → ReadsItems is
  items_read (last_item p i) e c l g r k zero m = absurd (omega (arith, m, item_shorter i r))
  items_read (last_item p i) e c l g r k (suc n) m =
      let t = bullet_read e op.And c p (spell_item i r) l g.0 in
      let w = item_read i c g.1 r (calm_right e c r l k) n (omega (arith, m)) in
      rw (t, w, no_bullet op.And (nat_eq c (next e r).place.col) (next e r).kind k) refl
  items_read (more_items p i is) e c l g r k zero m = absurd (omega (arith, m))
  items_read (more_items p i is) e c l g r k (suc n) m =
      let us = spell_list is r in
      let t = bullet_read e op.And c p (spell_item i us) l g.0 in
      let w = item_read i c g.1 us (list_calm c is g.2 r) n (omega (arith, m)) in
      let v = items_read is e c l g.2 r k n (omega (arith, m, item_shorter i us)) in
      rw (t, w, list_seen e c is r l g.2, v) refl

  branches_read : (bs : BranchForms) → ReadsBranches bs
  branches_read (last_branch p is) e c l g r k zero m = absurd (omega (arith, m))
  branches_read (last_branch p is) e c l g r k (suc n) m =
      let t = bullet_read e op.Or c p (spell_list is r) l g.0 in
      let w = list_from is (items_read is) c g.1 g.2 r (calm_right e c r l k) n (omega (arith, m)) in
      rw (t, w, no_bullet op.Or (nat_eq c (next e r).place.col) (next e r).kind k) refl
  branches_read (more_branches p is bs) e c l g r k zero m = absurd (omega (arith, m))
  branches_read (more_branches p is bs) e c l g r k (suc n) m =
      let us = spell_branches bs r in
      let t = bullet_read e op.Or c p (spell_list is us) l g.0 in
      let w = list_from is (items_read is) c g.1 g.2 us (branches_calm c bs g.3 r) n (omega (arith, m)) in
      let v = branches_read bs e c l g.3 r k n (omega (arith, m, list_shorter is us)) in
      rw (t, w, branches_seen e c bs r l g.3, v) refl

pub list_read : (e : ℕ) (is : ListForm) → nat_lt e (list_column is) ≡ true → GoodList (list_column is) is → (r : List Token) → Calm e r → list_in unbounded e (spell_list is r) ≡ Ok (is, r)
list_read e is l g r c = list_from is (items_read is) e l g r c (2 * length (spell_list is r)) (omega arith)
