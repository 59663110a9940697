-- What stands in brackets is read in one way.
use Rattle.std.proofs.Common.{◌≡◌, ℕ, suc, true, false, List, [], ◌∷◌, ◌++◌, refl, sym, ap, ◌∙◌, codes, Option, Some, None, append-nil, append_assoc}
use Rattle.tla_tree.specs.Tree.{Word}
use Rattle.tla_value.specs.Value.{Value, text, set}
use Rattle.tla_value.specs.Order.{set_from, seq_from, fun_from}
use Rattle.tla_value.specs.Limits.{fits}
use Rattle.tla_value.specs.ValueText.{Mark, word, number, sign, Spelling, Spellings, Fields, Pairs, truth_word, digits, minus, quoted, named, braces, angles, fields, pairs, no_spellings, spelling, no_fields, field, no_pairs, pair, marks, marks_in, more_marks, field_marks, pair_marks, IsGood, AreGood, AreGoodFields, AreGoodPairs, IsWithin, AreWithin, AreWithinFields, AreWithinPairs, spelled, all_spelled, spelled_fields, spelled_pairs}
use Rattle.tla_value.proofs.ValueReader.{one_spelling}
use Rattle.value_text.specs.declared.token.Punct.{Punct}
use Rattle.value_text.specs.declared.token.Punct.TheVariants as punct
use Rattle.value_text.specs.declared.make.Form.{Form}
use Rattle.value_text.specs.declared.make.Form.TheVariants as form
use Rattle.value_text.specs.Puncts.{punct_word}
use Rattle.value_text.proofs.PunctLemmas.{word_punct}
use Rattle.value_text.specs.Items.{begin_of, close_of, between_of, punct_mark, Key, no_key, field_key, value_key, Item, key_marks, item_marks, more_items, body, front_items, IsKey, IsItem, AreItems, IsFilled, key_values, keys_of, values_of, paired, made, IsPaired, opening_by}

heads : (m n : Mark) (ms ns : List Mark) → m ∷ ms ≡ n ∷ ns → m ≡ n
heads m n ms ns e = cc

tails : (m n : Mark) (ms ns : List Mark) → m ∷ ms ≡ n ∷ ns → ms ≡ ns
tails m n ms ns e = cc

-- ---- keys and items

one_field : (x y : Word) (r q : List Mark) → word x ∷ sign (codes "|->") ∷ r ≡ word y ∷ sign (codes "|->") ∷ q → (x ≡ y) × (r ≡ q)
one_field x y r q e = (cc, cc)

pub one_key : (f : Form) (d : ℕ) (k l : Key) (r q : List Mark) → IsKey f d k → IsKey f d l → key_marks k r ≡ key_marks l q → (k ≡ l) × (r ≡ q)
one_key form.Set d no_key no_key r q g h e = (refl, e)
one_key form.Tuple d no_key no_key r q g h e = (refl, e)
one_key form.Record d (field_key x) (field_key y) r q g h e = (let o = one_field x y r q e in (ap field_key o.0, o.1))
one_key form.Pairs d (value_key k) (value_key l) r q g h e =
    let o = one_spelling k l (sign (codes ":>") ∷ r) (sign (codes ":>") ∷ q) g.0 h.0 e in (ap value_key o.0, tails (sign (codes ":>")) (sign (codes ":>")) r q o.1)
one_key form.Set d no_key (field_key y) r q g h e = absurd h
one_key form.Set d no_key (value_key l) r q g h e = absurd h
one_key form.Set d (field_key x) l r q g h e = absurd g
one_key form.Set d (value_key k) l r q g h e = absurd g
one_key form.Tuple d no_key (field_key y) r q g h e = absurd h
one_key form.Tuple d no_key (value_key l) r q g h e = absurd h
one_key form.Tuple d (field_key x) l r q g h e = absurd g
one_key form.Tuple d (value_key k) l r q g h e = absurd g
one_key form.Record d no_key l r q g h e = absurd g
one_key form.Record d (field_key x) no_key r q g h e = absurd h
one_key form.Record d (field_key x) (value_key l) r q g h e = absurd h
one_key form.Record d (value_key k) l r q g h e = absurd g
one_key form.Pairs d no_key l r q g h e = absurd g
one_key form.Pairs d (field_key x) l r q g h e = absurd g
one_key form.Pairs d (value_key k) no_key r q g h e = absurd h
one_key form.Pairs d (value_key k) (field_key y) r q g h e = absurd h

pub one_item : (f : Form) (d : ℕ) (i j : Item) (r q : List Mark) → IsItem f d i → IsItem f d j → item_marks i r ≡ item_marks j q → (i ≡ j) × (r ≡ q)
one_item f d i j r q g h e =
    let k = one_key f d i.0 j.0 (marks i.1 r) (marks j.1 q) g.0 h.0 e in
    let s = one_spelling i.1 j.1 r q g.1 h.1 k.1 in
    (λ t. (k.0 t, s.0 t), s.1)

words_in : (v w : Word) → sign v ≡ sign w → v ≡ w
words_in v w e = cc

pub apart : (p q : Punct) (a b : List Mark) → punct_mark p ∷ a ≡ punct_mark q ∷ b → p ≡ q
apart p q a b e = word_punct p q (words_in (punct_word p) (punct_word q) (heads (punct_mark p) (punct_mark q) a b e))

forms_apart : (f : Form) → between_of f ≡ close_of f → ⊥
forms_apart form.Set e = cc
forms_apart form.Tuple e = cc
forms_apart form.Record e = cc
forms_apart form.Pairs e = cc

between_close : (f : Form) (a b : List Mark) → punct_mark (between_of f) ∷ a ≡ punct_mark (close_of f) ∷ b → ⊥
between_close f a b e = forms_apart f (apart (between_of f) (close_of f) a b e)

-- ---- where reading is stuck

abbrev pub Left : Form → ℕ → List Mark → List Mark → Type 0
Left f d m r = (j : Item) × (js : List Item) × IsItem f d j × AreItems f d js × (m ≡ item_marks j (more_items f js (punct_mark (close_of f) ∷ r)))

left_after : (f : Form) (d : ℕ) (ps : List Item) (m : List Mark) (j : Item) (js : List Item) (r : List Mark) → AreItems f d ps → IsItem f d j → AreItems f d js → front_items f ps m ≡ item_marks j (more_items f js (punct_mark (close_of f) ∷ r)) → Left f d m r
left_after f d [] m j js r a g h e = (j, js, g, h, e)
left_after f d (p ∷ ps) m j [] r a g h e =
    let o = one_item f d p j (punct_mark (between_of f) ∷ front_items f ps m) (punct_mark (close_of f) ∷ r) a.0 g e in
    absurd (between_close f (front_items f ps m) r o.1)
left_after f d (p ∷ ps) m j (k ∷ js) r a g h e =
    let o = one_item f d p j (punct_mark (between_of f) ∷ front_items f ps m) (more_items f (k ∷ js) (punct_mark (close_of f) ∷ r)) a.0 g e in
    left_after f d ps m k js r a.1 h.0 h.1 (tails _ _ (front_items f ps m) (item_marks k (more_items f js (punct_mark (close_of f) ∷ r))) o.1)

pub left_there : (f : Form) (d : ℕ) (ms m : List Mark) (ps is : List Item) (r : List Mark) → AreItems f d ps → ms ≡ front_items f ps m → (IsFilled f [] → (q : List Mark) → ms ≡ punct_mark (close_of f) ∷ q → ⊥) → AreItems f d is → IsFilled f is → ms ≡ body f is (punct_mark (close_of f) ∷ r) → Left f d m r
left_there f d ms m ps [] r a c n h i e = absurd (n i r e)
left_there f d ms m ps (j ∷ is) r a c n h i e = left_after f d ps m j is r a h.0 h.1 (sym c ∙ e)

-- behind the item that is next there is what closes it, or what is between
pub behind : (f : Form) (d : ℕ) (m left : List Mark) (i : Item) (r : List Mark) → IsItem f d i → m ≡ item_marks i left → ((q : List Mark) → left ≡ punct_mark (close_of f) ∷ q → ⊥) → ((q : List Mark) → left ≡ punct_mark (between_of f) ∷ q → ⊥) → Left f d m r → ⊥
behind f d m left i r g e c b (j, js, h, hs, l) = by js (one_item f d i j left (more_items f js (punct_mark (close_of f) ∷ r)) g h (sym e ∙ l)).1
  where
    by : (ks : List Item) → left ≡ more_items f ks (punct_mark (close_of f) ∷ r) → ⊥
    by [] k = c r k
    by (x ∷ ks) k = b (item_marks x (more_items f ks (punct_mark (close_of f) ∷ r))) k

-- ---- one item more

pub front_body : (f : Form) (ps : List Item) (i : Item) (m : List Mark) → front_items f ps (item_marks i m) ≡ body f (ps ++ i ∷ []) m
front_body f [] i m = refl
front_body f (p ∷ ps) i m = ap (item_marks p) (ap (λ (l : List Mark). punct_mark (between_of f) ∷ l) (front_body f ps i m) ∙ shift ps)
  where
    shift : (qs : List Item) → punct_mark (between_of f) ∷ body f (qs ++ i ∷ []) m ≡ more_items f (qs ++ i ∷ []) m
    shift [] = refl
    shift (q ∷ qs) = refl

pub front_more : (f : Form) (ps : List Item) (i : Item) (m : List Mark) → front_items f ps (item_marks i (punct_mark (between_of f) ∷ m)) ≡ front_items f (ps ++ i ∷ []) m
front_more f [] i m = refl
front_more f (p ∷ ps) i m = ap (λ (l : List Mark). item_marks p (punct_mark (between_of f) ∷ l)) (front_more f ps i m)

pub are_more : (f : Form) (d : ℕ) (ps : List Item) (i : Item) → AreItems f d ps → IsItem f d i → AreItems f d (ps ++ i ∷ [])
are_more f d [] i a g = (g, tt)
are_more f d (p ∷ ps) i a g = (a.0, are_more f d ps i a.1 g)

pub filled_more : (f : Form) (ps : List Item) (i : Item) → IsFilled f (ps ++ i ∷ [])
filled_more form.Set [] i = tt
filled_more form.Tuple [] i = tt
filled_more form.Record [] i = tt
filled_more form.Pairs [] i = tt
filled_more form.Set (p ∷ ps) i = tt
filled_more form.Tuple (p ∷ ps) i = tt
filled_more form.Record (p ∷ ps) i = tt
filled_more form.Pairs (p ∷ ps) i = tt

pub keys_more : (ps : List Item) (i : Item) (ks ls ms : List Value) → ls ≡ ks ++ keys_of ps → ms ≡ ls ++ key_values i.0 → ms ≡ ks ++ keys_of (ps ++ i ∷ [])
keys_more ps i ks ls ms e h = h ∙ ap (λ (l : List Value). l ++ key_values i.0) e ∙ append_assoc ks (keys_of ps) (key_values i.0) ∙ ap (λ (l : List Value). ks ++ l) (by ps)
  where
    by : (qs : List Item) → keys_of qs ++ key_values i.0 ≡ keys_of (qs ++ i ∷ [])
    by [] = sym (append-nil (key_values i.0))
    by (q ∷ qs) = append_assoc (key_values q.0) (keys_of qs) (key_values i.0) ∙ ap (λ (l : List Value). key_values q.0 ++ l) (by qs)

pub values_more : (ps : List Item) (i : Item) (vs us ws : List Value) → us ≡ vs ++ values_of ps → ws ≡ us ++ spelled i.1 ∷ [] → ws ≡ vs ++ values_of (ps ++ i ∷ [])
values_more ps i vs us ws e h = h ∙ ap (λ (l : List Value). l ++ spelled i.1 ∷ []) e ∙ append_assoc vs (values_of ps) (spelled i.1 ∷ []) ∙ ap (λ (l : List Value). vs ++ l) (by ps)
  where
    by : (qs : List Item) → values_of qs ++ spelled i.1 ∷ [] ≡ values_of (qs ++ i ∷ [])
    by [] = refl
    by (q ∷ qs) = ap (λ (l : List Value). spelled q.1 ∷ l) (by qs)

-- ---- the spelling of a form

abbrev plains : List Item → Spellings
plains [] = no_spellings
plains (i ∷ is) = spelling i.1 (plains is)

abbrev fields_in : List Item → Fields
fields_in [] = no_fields
fields_in ((field_key x, s) ∷ is) = field x s (fields_in is)
fields_in ((k, s) ∷ is) = no_fields

abbrev pairs_in : List Item → Pairs
pairs_in [] = no_pairs
pairs_in ((value_key k, s) ∷ is) = pair k s (pairs_in is)
pairs_in ((k, s) ∷ is) = no_pairs

-- its tokens, that it is good and within the limits, and its value
pub record Spelt (f : Form) (d : ℕ) (is : List Item) (s : Spelling) : Type 0 where
  pub tokens : (r : List Mark) → marks s r ≡ punct_mark (begin_of f) ∷ body f is (punct_mark (close_of f) ∷ r)
  pub good : IsGood s
  pub within : fits (made f (keys_of is) (values_of is)) ≡ true → IsWithin s (suc d)
  pub fits_so : IsWithin s (suc d) → fits (made f (keys_of is) (values_of is)) ≡ true
  pub value : spelled s ≡ made f (keys_of is) (values_of is)

plain_values : (is : List Item) → all_spelled (plains is) ≡ values_of is
plain_values [] = refl
plain_values (i ∷ is) = ap (λ (l : List Value). spelled i.1 ∷ l) (plain_values is)

set_more : (d : ℕ) (is : List Item) (r : List Mark) → AreItems form.Set d is → more_marks (plains is) r ≡ more_items form.Set is r
set_more d [] r a = refl
set_more d ((no_key, s) ∷ is) r a = ap (λ (l : List Mark). sign (codes ",") ∷ marks s l) (set_more d is r a.1)
set_more d ((field_key x, s) ∷ is) r a = absurd a.0.0
set_more d ((value_key k, s) ∷ is) r a = absurd a.0.0

set_body : (d : ℕ) (is : List Item) (r : List Mark) → AreItems form.Set d is → marks_in (plains is) r ≡ body form.Set is r
set_body d [] r a = refl
set_body d ((no_key, s) ∷ is) r a = ap (marks s) (set_more d is r a.1)
set_body d ((field_key x, s) ∷ is) r a = absurd a.0.0
set_body d ((value_key k, s) ∷ is) r a = absurd a.0.0

tuple_more : (d : ℕ) (is : List Item) (r : List Mark) → AreItems form.Tuple d is → more_marks (plains is) r ≡ more_items form.Tuple is r
tuple_more d [] r a = refl
tuple_more d ((no_key, s) ∷ is) r a = ap (λ (l : List Mark). sign (codes ",") ∷ marks s l) (tuple_more d is r a.1)
tuple_more d ((field_key x, s) ∷ is) r a = absurd a.0.0
tuple_more d ((value_key k, s) ∷ is) r a = absurd a.0.0

tuple_body : (d : ℕ) (is : List Item) (r : List Mark) → AreItems form.Tuple d is → marks_in (plains is) r ≡ body form.Tuple is r
tuple_body d [] r a = refl
tuple_body d ((no_key, s) ∷ is) r a = ap (marks s) (tuple_more d is r a.1)
tuple_body d ((field_key x, s) ∷ is) r a = absurd a.0.0
tuple_body d ((value_key k, s) ∷ is) r a = absurd a.0.0

record_more : (d : ℕ) (is : List Item) (r : List Mark) → AreItems form.Record d is → field_marks (fields_in is) r ≡ more_items form.Record is r
record_more d [] r a = refl
record_more d ((no_key, s) ∷ is) r a = absurd a.0.0
record_more d ((field_key x, s) ∷ is) r a = ap (λ (l : List Mark). sign (codes ",") ∷ word x ∷ sign (codes "|->") ∷ marks s l) (record_more d is r a.1)
record_more d ((value_key k, s) ∷ is) r a = absurd a.0.0

pairs_more : (d : ℕ) (is : List Item) (r : List Mark) → AreItems form.Pairs d is → pair_marks (pairs_in is) r ≡ more_items form.Pairs is r
pairs_more d [] r a = refl
pairs_more d ((no_key, s) ∷ is) r a = absurd a.0.0
pairs_more d ((field_key x, s) ∷ is) r a = absurd a.0.0
pairs_more d ((value_key k, s) ∷ is) r a = ap (λ (l : List Mark). sign (codes "@@") ∷ marks k (sign (codes ":>") ∷ marks s l)) (pairs_more d is r a.1)

plains_good : (f : Form) (d : ℕ) (is : List Item) → AreItems f d is → AreGood (plains is)
plains_good f d [] a = tt
plains_good f d (i ∷ is) a = (a.0.1, plains_good f d is a.1)

plains_within : (f : Form) (d : ℕ) (is : List Item) → AreItems f d is → AreWithin (plains is) d
plains_within f d [] a = tt
plains_within f d (i ∷ is) a = (a.0.2, plains_within f d is a.1)

record_all : (d : ℕ) (is : List Item) → AreItems form.Record d is → AreGoodFields (fields_in is) × AreWithinFields (fields_in is) d × (spelled_fields (fields_in is) ≡ paired (keys_of is) (values_of is))
record_all d [] a = (tt, tt, refl)
record_all d ((no_key, s) ∷ is) a = absurd a.0.0
record_all d ((field_key x, s) ∷ is) a = (let o = record_all d is a.1 in ((a.0.0, a.0.1, o.0), (a.0.2, o.1), ap (λ (l : List (Value × Value)). (text x, spelled s) ∷ l) o.2))
record_all d ((value_key k, s) ∷ is) a = absurd a.0.0

pairs_all : (d : ℕ) (is : List Item) → AreItems form.Pairs d is → AreGoodPairs (pairs_in is) × AreWithinPairs (pairs_in is) d × (spelled_pairs (pairs_in is) ≡ paired (keys_of is) (values_of is))
pairs_all d [] a = (tt, tt, refl)
pairs_all d ((no_key, s) ∷ is) a = absurd a.0.0
pairs_all d ((field_key x, s) ∷ is) a = absurd a.0.0
pairs_all d ((value_key k, s) ∷ is) a = (let o = pairs_all d is a.1 in ((a.0.0.0, a.0.1, o.0), (a.0.0.1, a.0.2, o.1), ap (λ (l : List (Value × Value)). (spelled k, spelled s) ∷ l) o.2))

pub spelt : (f : Form) (d : ℕ) (is : List Item) → AreItems f d is → IsFilled f is → (s : Spelling) × Spelt f d is s
spelt form.Set d is a i =
    let e : spelled (braces (plains is)) ≡ set (set_from (values_of is)) = ap (λ (l : List Value). set (set_from l)) (plain_values is) in (
      braces (plains is),
      record {
        tokens = λ r. ap (λ (l : List Mark). sign (codes "{") ∷ l) (set_body d is (sign (codes "}") ∷ r) a);
        good = plains_good form.Set d is a;
        within = λ h. (ap fits e ∙ h, plains_within form.Set d is a);
        fits_so = λ h. sym (ap fits e) ∙ h.0;
        value = e;
      },
    )
spelt form.Tuple d is a i =
    let e : spelled (angles (plains is)) ≡ seq_from (values_of is) = ap (λ (l : List Value). seq_from l) (plain_values is) in (
      angles (plains is),
      record {
        tokens = λ r. ap (λ (l : List Mark). sign (codes "<<") ∷ l) (tuple_body d is (sign (codes ">>") ∷ r) a);
        good = plains_good form.Tuple d is a;
        within = λ h. (ap fits e ∙ h, plains_within form.Tuple d is a);
        fits_so = λ h. sym (ap fits e) ∙ h.0;
        value = e;
      },
    )
spelt form.Record d [] a i = absurd i
spelt form.Record d ((no_key, s) ∷ is) a i = absurd a.0.0
spelt form.Record d ((value_key k, s) ∷ is) a i = absurd a.0.0
spelt form.Record d ((field_key x, s) ∷ is) a i =
    let o = record_all d is a.1 in
    let e : spelled (fields x s (fields_in is)) ≡ fun_from ((text x, spelled s) ∷ paired (keys_of is) (values_of is)) = ap (λ (l : List (Value × Value)). fun_from ((text x, spelled s) ∷ l)) o.2 in (
      fields x s (fields_in is),
      record {
        tokens = λ r. ap (λ (l : List Mark). sign (codes "[") ∷ word x ∷ sign (codes "|->") ∷ marks s l) (record_more d is (sign (codes "]") ∷ r) a.1);
        good = (a.0.0, a.0.1, o.0);
        within = λ h. (ap fits e ∙ h, a.0.2, o.1);
        fits_so = λ h. sym (ap fits e) ∙ h.0;
        value = e;
      },
    )
spelt form.Pairs d [] a i = absurd i
spelt form.Pairs d ((no_key, s) ∷ is) a i = absurd a.0.0
spelt form.Pairs d ((field_key x, s) ∷ is) a i = absurd a.0.0
spelt form.Pairs d ((value_key k, s) ∷ is) a i =
    let o = pairs_all d is a.1 in
    let e : spelled (pairs k s (pairs_in is)) ≡ fun_from ((spelled k, spelled s) ∷ paired (keys_of is) (values_of is)) = ap (λ (l : List (Value × Value)). fun_from ((spelled k, spelled s) ∷ l)) o.2 in (
      pairs k s (pairs_in is),
      record {
        tokens = λ r. ap (λ (l : List Mark). sign (codes "(") ∷ marks k (sign (codes ":>") ∷ marks s l)) (pairs_more d is (sign (codes ")") ∷ r) a.1);
        good = (a.0.0.0, a.0.1, o.0);
        within = λ h. (ap fits e ∙ h, a.0.0.1, a.0.2, o.1);
        fits_so = λ h. sym (ap fits e) ∙ h.0;
        value = e;
      },
    )

pub paired_all : (f : Form) (d : ℕ) (is : List Item) → AreItems f d is → IsPaired f (keys_of is) (values_of is)
paired_all form.Set d is a = tt
paired_all form.Tuple d is a = tt
paired_all form.Record d [] a = refl
paired_all form.Record d ((no_key, s) ∷ is) a = absurd a.0.0
paired_all form.Record d ((field_key x, s) ∷ is) a = ap suc (paired_all form.Record d is a.1)
paired_all form.Record d ((value_key k, s) ∷ is) a = absurd a.0.0
paired_all form.Pairs d [] a = refl
paired_all form.Pairs d ((no_key, s) ∷ is) a = absurd a.0.0
paired_all form.Pairs d ((field_key x, s) ∷ is) a = absurd a.0.0
paired_all form.Pairs d ((value_key k, s) ∷ is) a = ap suc (paired_all form.Pairs d is a.1)

-- ---- the items of a spelling

abbrev items_in : Spellings → List Item
items_in no_spellings = []
items_in (spelling s ss) = (no_key, s) ∷ items_in ss

abbrev named_in : Fields → List Item
named_in no_fields = []
named_in (field x s fs) = (field_key x, s) ∷ named_in fs

abbrev keyed_in : Pairs → List Item
keyed_in no_pairs = []
keyed_in (pair k s ps) = (value_key k, s) ∷ keyed_in ps

set_items : (d : ℕ) (ss : Spellings) → AreGood ss → AreWithin ss d → AreItems form.Set d (items_in ss)
set_items d no_spellings g w = tt
set_items d (spelling s ss) g w = ((tt, g.0, w.0), set_items d ss g.1 w.1)

tuple_items : (d : ℕ) (ss : Spellings) → AreGood ss → AreWithin ss d → AreItems form.Tuple d (items_in ss)
tuple_items d no_spellings g w = tt
tuple_items d (spelling s ss) g w = ((tt, g.0, w.0), tuple_items d ss g.1 w.1)

record_items : (d : ℕ) (fs : Fields) → AreGoodFields fs → AreWithinFields fs d → AreItems form.Record d (named_in fs)
record_items d no_fields g w = tt
record_items d (field x s fs) g w = ((g.0, g.1, w.0), record_items d fs g.2 w.1)

pairs_items : (d : ℕ) (ps : Pairs) → AreGoodPairs ps → AreWithinPairs ps d → AreItems form.Pairs d (keyed_in ps)
pairs_items d no_pairs g w = tt
pairs_items d (pair k s ps) g w = (((g.0, w.0), g.1, w.1), pairs_items d ps g.2 w.2)

set_seen : (ss : Spellings) (r : List Mark) → more_marks ss r ≡ more_items form.Set (items_in ss) r
set_seen no_spellings r = refl
set_seen (spelling s ss) r = ap (λ (l : List Mark). sign (codes ",") ∷ marks s l) (set_seen ss r)

tuple_seen : (ss : Spellings) (r : List Mark) → more_marks ss r ≡ more_items form.Tuple (items_in ss) r
tuple_seen no_spellings r = refl
tuple_seen (spelling s ss) r = ap (λ (l : List Mark). sign (codes ",") ∷ marks s l) (tuple_seen ss r)

set_all : (ss : Spellings) (r : List Mark) → marks_in ss r ≡ body form.Set (items_in ss) r
set_all no_spellings r = refl
set_all (spelling s ss) r = ap (marks s) (set_seen ss r)

tuple_all : (ss : Spellings) (r : List Mark) → marks_in ss r ≡ body form.Tuple (items_in ss) r
tuple_all no_spellings r = refl
tuple_all (spelling s ss) r = ap (marks s) (tuple_seen ss r)

record_seen : (fs : Fields) (r : List Mark) → field_marks fs r ≡ more_items form.Record (named_in fs) r
record_seen no_fields r = refl
record_seen (field x s fs) r = ap (λ (l : List Mark). sign (codes ",") ∷ word x ∷ sign (codes "|->") ∷ marks s l) (record_seen fs r)

pairs_seen : (ps : Pairs) (r : List Mark) → pair_marks ps r ≡ more_items form.Pairs (keyed_in ps) r
pairs_seen no_pairs r = refl
pairs_seen (pair k s ps) r = ap (λ (l : List Mark). sign (codes "@@") ∷ marks k (sign (codes ":>") ∷ marks s l)) (pairs_seen ps r)

-- ---- what a spelling begins with

abbrev pub sign_head : Spelling → Option Punct
sign_head (truth_word b) = None
sign_head (digits n) = None
sign_head (minus n) = Some punct.Minus
sign_head (quoted w) = None
sign_head (named w) = None
sign_head (braces ss) = Some punct.OpenSet
sign_head (angles ss) = Some punct.OpenTuple
sign_head (fields x s fs) = Some punct.OpenRecord
sign_head (pairs k s ps) = Some punct.OpenPairs

pub sign_begins : (w : Word) (t : List Mark) (s : Spelling) (r : List Mark) → sign w ∷ t ≡ marks s r → (p : Punct) × (sign_head s ≡ Some p) × (w ≡ punct_word p)
sign_begins w t (truth_word true) r e = (let h = heads _ _ _ _ e in absurd cc)
sign_begins w t (truth_word false) r e = (let h = heads _ _ _ _ e in absurd cc)
sign_begins w t (digits n) r e = (let h = heads _ _ _ _ e in absurd cc)
sign_begins w t (minus n) r e = (punct.Minus, refl, words_in w (codes "-") (heads _ _ _ _ e))
sign_begins w t (quoted x) r e = (let h = heads _ _ _ _ e in absurd cc)
sign_begins w t (named x) r e = (let h = heads _ _ _ _ e in absurd cc)
sign_begins w t (braces ss) r e = (punct.OpenSet, refl, words_in w (codes "{") (heads _ _ _ _ e))
sign_begins w t (angles ss) r e = (punct.OpenTuple, refl, words_in w (codes "<<") (heads _ _ _ _ e))
sign_begins w t (fields x s fs) r e = (punct.OpenRecord, refl, words_in w (codes "[") (heads _ _ _ _ e))
sign_begins w t (pairs k s ps) r e = (punct.OpenPairs, refl, words_in w (codes "(") (heads _ _ _ _ e))

pub punct_begins : (p : Punct) (t : List Mark) (s : Spelling) (r : List Mark) → punct_mark p ∷ t ≡ marks s r → sign_head s ≡ Some p
punct_begins p t s r e = (let b = sign_begins (punct_word p) t s r e in b.1 ∙ ap (λ (q : Punct). Some q) (sym (word_punct p b.0 b.2)))

pub no_opening : (s : Spelling) (p : Punct) → sign_head s ≡ Some p → opening_by (Some p) ≡ None → ⊥
no_opening (truth_word b) p h k = absurd cc
no_opening (digits n) p h k = absurd cc
no_opening (quoted x) p h k = absurd cc
no_opening (named x) p h k = absurd cc
no_opening (minus n) p h k = (let o : opening_by (Some punct.Minus) ≡ None = ap opening_by h ∙ k in absurd cc)
no_opening (braces ss) p h k = (let o : opening_by (Some punct.OpenSet) ≡ None = ap opening_by h ∙ k in absurd cc)
no_opening (angles ss) p h k = (let o : opening_by (Some punct.OpenTuple) ≡ None = ap opening_by h ∙ k in absurd cc)
no_opening (fields x s fs) p h k = (let o : opening_by (Some punct.OpenRecord) ≡ None = ap opening_by h ∙ k in absurd cc)
no_opening (pairs d s ps) p h k = (let o : opening_by (Some punct.OpenPairs) ≡ None = ap opening_by h ∙ k in absurd cc)

pub minus_begins : (t : List Mark) (s : Spelling) (r : List Mark) → punct_mark punct.Minus ∷ t ≡ marks s r → (n : ℕ) × (s ≡ minus n) × (t ≡ number n ∷ r)
minus_begins t s r e = by s (punct_begins punct.Minus t s r e) e
  where
    by : (s : Spelling) → sign_head s ≡ Some punct.Minus → punct_mark punct.Minus ∷ t ≡ marks s r → (n : ℕ) × (s ≡ minus n) × (t ≡ number n ∷ r)
    by (minus n) h e = (n, refl, tails _ _ t (number n ∷ r) e)
    by (truth_word b) h e = absurd cc
    by (digits n) h e = absurd cc
    by (quoted x) h e = absurd cc
    by (named x) h e = absurd cc
    by (braces ss) h e = absurd cc
    by (angles ss) h e = absurd cc
    by (fields x s fs) h e = absurd cc
    by (pairs k s ps) h e = absurd cc

abbrev Inside : Form → ℕ → List Mark → List Mark → Type 0
Inside f d t r = (is : List Item) × AreItems f d is × IsFilled f is × (t ≡ body f is (punct_mark (close_of f) ∷ r))

-- what is spelled in brackets is their items
pub inside : (f : Form) (d : ℕ) (s : Spelling) (t r : List Mark) → IsGood s → IsWithin s (suc d) → punct_mark (begin_of f) ∷ t ≡ marks s r → Inside f d t r
inside f d s t r g w e = by f s (punct_begins (begin_of f) t s r e) g w e
  where
    by : (f : Form) (s : Spelling) → sign_head s ≡ Some (begin_of f) → IsGood s → IsWithin s (suc d) → punct_mark (begin_of f) ∷ t ≡ marks s r → Inside f d t r
    by form.Set (braces ss) h g w e = (items_in ss, set_items d ss g w.1, tt, tails _ _ t _ e ∙ set_all ss (sign (codes "}") ∷ r))
    by form.Tuple (angles ss) h g w e = (items_in ss, tuple_items d ss g w.1, tt, tails _ _ t _ e ∙ tuple_all ss (sign (codes ">>") ∷ r))
    by form.Record (fields x s fs) h g w e =
        ((field_key x, s) ∷ named_in fs, ((g.0, g.1, w.1), record_items d fs g.2 w.2), tt, tails _ _ t _ e ∙ ap (λ (l : List Mark). word x ∷ sign (codes "|->") ∷ marks s l) (record_seen fs (sign (codes "]") ∷ r)))
    by form.Pairs (pairs k s ps) h g w e =
        ((value_key k, s) ∷ keyed_in ps, (((g.0, w.1), g.1, w.2), pairs_items d ps g.2 w.3), tt, tails _ _ t _ e ∙ ap (λ (l : List Mark). marks k (sign (codes ":>") ∷ marks s l)) (pairs_seen ps (sign (codes ")") ∷ r)))
    by form.Set (truth_word b) h g w e = absurd cc
    by form.Set (digits n) h g w e = absurd cc
    by form.Set (minus n) h g w e = absurd cc
    by form.Set (quoted x) h g w e = absurd cc
    by form.Set (named x) h g w e = absurd cc
    by form.Set (angles ss) h g w e = absurd cc
    by form.Set (fields x s fs) h g w e = absurd cc
    by form.Set (pairs k s ps) h g w e = absurd cc
    by form.Tuple (truth_word b) h g w e = absurd cc
    by form.Tuple (digits n) h g w e = absurd cc
    by form.Tuple (minus n) h g w e = absurd cc
    by form.Tuple (quoted x) h g w e = absurd cc
    by form.Tuple (named x) h g w e = absurd cc
    by form.Tuple (braces ss) h g w e = absurd cc
    by form.Tuple (fields x s fs) h g w e = absurd cc
    by form.Tuple (pairs k s ps) h g w e = absurd cc
    by form.Record (truth_word b) h g w e = absurd cc
    by form.Record (digits n) h g w e = absurd cc
    by form.Record (minus n) h g w e = absurd cc
    by form.Record (quoted x) h g w e = absurd cc
    by form.Record (named x) h g w e = absurd cc
    by form.Record (braces ss) h g w e = absurd cc
    by form.Record (angles ss) h g w e = absurd cc
    by form.Record (pairs k s ps) h g w e = absurd cc
    by form.Pairs (truth_word b) h g w e = absurd cc
    by form.Pairs (digits n) h g w e = absurd cc
    by form.Pairs (minus n) h g w e = absurd cc
    by form.Pairs (quoted x) h g w e = absurd cc
    by form.Pairs (named x) h g w e = absurd cc
    by form.Pairs (braces ss) h g w e = absurd cc
    by form.Pairs (angles ss) h g w e = absurd cc
    by form.Pairs (fields x s fs) h g w e = absurd cc

-- none lies in no bracket
pub no_brackets : (f : Form) (s : Spelling) (t r : List Mark) → IsWithin s 0 → punct_mark (begin_of f) ∷ t ≡ marks s r → ⊥
no_brackets f s t r w e = by f s (punct_begins (begin_of f) t s r e) w
  where
    by : (f : Form) (s : Spelling) → sign_head s ≡ Some (begin_of f) → IsWithin s 0 → ⊥
    by f (braces ss) h w = w
    by f (angles ss) h w = w
    by f (fields x s fs) h w = w
    by f (pairs k s ps) h w = w
    by form.Set (truth_word b) h w = absurd cc
    by form.Set (digits n) h w = absurd cc
    by form.Set (minus n) h w = absurd cc
    by form.Set (quoted x) h w = absurd cc
    by form.Set (named x) h w = absurd cc
    by form.Tuple (truth_word b) h w = absurd cc
    by form.Tuple (digits n) h w = absurd cc
    by form.Tuple (minus n) h w = absurd cc
    by form.Tuple (quoted x) h w = absurd cc
    by form.Tuple (named x) h w = absurd cc
    by form.Record (truth_word b) h w = absurd cc
    by form.Record (digits n) h w = absurd cc
    by form.Record (minus n) h w = absurd cc
    by form.Record (quoted x) h w = absurd cc
    by form.Record (named x) h w = absurd cc
    by form.Pairs (truth_word b) h w = absurd cc
    by form.Pairs (digits n) h w = absurd cc
    by form.Pairs (minus n) h w = absurd cc
    by form.Pairs (quoted x) h w = absurd cc
    by form.Pairs (named x) h w = absurd cc
