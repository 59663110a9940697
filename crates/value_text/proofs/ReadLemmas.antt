-- What is read of tokens, one function of the reader after the other.
use Rattle.std.proofs.Common.{append-nil, arith, ◌≤◌, ◌≡◌, ℕ, suc, pos, Bool, true, false, true≢false, List, [], ◌∷◌, ◌++◌, length, Option, Some, None, Ok, Err, Result, refl, sym, ap, ◌∙◌, subst, codes}
use Rattle.std.specs.Prelude.{neg_ℤ, if◌then◌else◌, not, ◌&&◌, unwrap_or, IfOk}
use Rattle.tla_token.specs.declared.sign.Sign.{Sign}
use Rattle.tla_token.specs.declared.part.Class.{Class}
use Rattle.tla_token.specs.declared.part.Class.TheVariants as class
use Rattle.tla_token.specs.Lexemes.{IsName, number_of, unquoted}
use Rattle.tla_token.specs.Scan.{inner}
use Rattle.tla_token.specs.Signs.{spellings, is_sign}
use Rattle.tla_token.specs.Tokens.{stretch}
use Rattle.tla_tree.specs.Tree.{Word}
use Rattle.tla_value.specs.Value.{Value, text}
use Rattle.tla_value.specs.Order.{same}
use Rattle.tla_value.specs.OrderLaws.{same_is}
use Rattle.tla_value.specs.ValueText.{Mark, word, number, sign, Spelling, truth_word, digits, minus, quoted, named, braces, angles, fields, pairs, marks, IsGood, IsWithin, spelled, is_identifier}
use Rattle.tla_value.specs.ValueSeen.{first_of}
use Rattle.tla_value.proofs.ValueReader.{one_spelling}
use Rattle.value_text.specs.declared.token.Token.{Token}
use Rattle.value_text.specs.declared.token.Punct.{Punct}
use Rattle.value_text.specs.declared.token.Punct.TheVariants as punct
use Rattle.value_text.specs.declared.make.Form.{Form}
use Rattle.value_text.specs.declared.make.Form.TheVariants as form
use Rattle.value_text.specs.declared.make.Opening.{Opening}
use Rattle.value_text.specs.declared.make.Opening.TheVariants as opening
use Rattle.value_text.specs.declared.make.Halt.{Halt}
use Rattle.value_text.specs.declared.make.Halt.TheVariants as halt
use Rattle.value_text.specs.Puncts.{punct_of}
use Rattle.value_text.specs.InSight.{ahead, Moves, IsToken, Comes}
use Rattle.value_text.specs.Items.{begin_of, close_of, between_of, punct_mark, sign_mark, signed_number, word_read, Key, no_key, field_key, value_key, Item, key_marks, item_marks, body, front_items, IsKey, IsFilled, keys_of, values_of, made, may_be_empty, IsPaired, opening_of, opening_by, Makes, IntegerAnswer, Answer, KeyAnswer, ItemAnswer, BodyAnswer, Begun}
use Rattle.value_text.proofs.PunctLemmas.{sign_punct, punct_sign, word_is_sign}
use Rattle.value_text.proofs.Tokens.{moves_same, moves_then}
use Rattle.value_text.proofs.Bodies.{one_key, left_there, behind, front_body, front_more, are_more, filled_more, keys_more, values_more, Spelt, spelt, paired_all, sign_begins, no_opening, minus_begins, inside, no_brackets}

heads : (m n : Mark) (ms ns : List Mark) → m ∷ ms ≡ n ∷ ns → m ≡ n
heads m n ms ns e = cc

none_first : (m : Mark) (ms : List Mark) → [] ≡ m ∷ ms → ⊥
none_first m ms e = cc

-- ---- words

abbrev same_word : Word → Word → Bool
same_word v w = same (text v) (text w)

text_words : (v w : Word) → text v ≡ text w → v ≡ w
text_words v w e = cc

same_words : (v w : Word) → same_word v w ≡ true → v ≡ w
same_words v w e = text_words v w (same_is (text v) (text w) e)

not_same : (v w : Word) (b : Bool) → same_word v w ≡ b → (v ≡ w → ⊥) → same_word v w ≡ false
not_same v w true e n = absurd (n (same_words v w e))
not_same v w false e n = e

pub other_word : (w : Word) → (w ≡ codes "TRUE" → ⊥) → (w ≡ codes "FALSE" → ⊥) → word_read w ≡ named w
other_word w t f =
    ap (λ b. if b then truth_word true else (if same_word w (codes "FALSE") then truth_word false else named w)) (not_same w (codes "TRUE") _ refl t)
    ∙ ap (λ b. if b then truth_word false else named w) (not_same w (codes "FALSE") _ refl f)

-- what is read of a word is good and has the word as its token
record WordSpelt (w : Word) (s : Spelling) : Type 0 where
  good : IsGood s
  within : (d : ℕ) → IsWithin s d
  tokens : (r : List Mark) → word w ∷ r ≡ marks s r

word_by : (w : Word) (a b : Bool) → is_identifier w ≡ true → same_word w (codes "TRUE") ≡ a → same_word w (codes "FALSE") ≡ b → WordSpelt w (if a then truth_word true else (if b then truth_word false else named w))
word_by w true b i e f = record { good = tt; within = λ d. tt; tokens = λ r. ap (λ (v : Word). word v ∷ r) (same_words w (codes "TRUE") e) }
word_by w false true i e f = record { good = tt; within = λ d. tt; tokens = λ r. ap (λ (v : Word). word v ∷ r) (same_words w (codes "FALSE") f) }
word_by w false false i e f = record {
  good = λ t. i t && (not (e t) && not (f t));
  within = λ d. tt;
  tokens = λ r. refl;
}

identifier : (w : Word) → IsName w → is_identifier w ≡ true
identifier w h = λ t. h.0 t && h.1 t

pub word_answer : (w : Word) (m : Mark) (left : List Mark) (d : ℕ) (v : Value) → IsToken class.Name w m → v ≡ spelled (word_read w) → Answer d (m ∷ left) left (Ok v)
word_answer w m left d v t e =
    let s = word_by w (same_word w (codes "TRUE")) (same_word w (codes "FALSE")) (identifier w t.1) refl refl in
    (word_read w, s.good, s.within d, ap (λ (n : Mark). n ∷ left) t.0 ∙ s.tokens left, sym e)

-- ---- numbers

digits_only : (n : ℕ) (t : List Mark) (s : Spelling) (r : List Mark) → number n ∷ t ≡ marks s r → s ≡ digits n
digits_only n t (digits k) r e = (let h : number n ≡ number k = heads _ _ _ _ e in cc)
digits_only n t (truth_word true) r e = (let h = heads _ _ _ _ e in absurd cc)
digits_only n t (truth_word false) r e = (let h = heads _ _ _ _ e in absurd cc)
digits_only n t (minus k) r e = (let h = heads _ _ _ _ e in absurd cc)
digits_only n t (quoted x) r e = (let h = heads _ _ _ _ e in absurd cc)
digits_only n t (named x) r e = (let h = heads _ _ _ _ e in absurd cc)
digits_only n t (braces ss) r e = (let h = heads _ _ _ _ e in absurd cc)
digits_only n t (angles ss) r e = (let h = heads _ _ _ _ e in absurd cc)
digits_only n t (fields x s fs) r e = (let h = heads _ _ _ _ e in absurd cc)
digits_only n t (pairs k s ps) r e = (let h = heads _ _ _ _ e in absurd cc)

unsigned_by : (n : ℕ) (left : List Mark) (d : ℕ) (o : Result Value Halt) → IntegerAnswer (pos n) o → Answer d (number n ∷ left) left o
unsigned_by n left d (Ok v) h = (digits n, tt, h.1, refl, sym h.0)
unsigned_by n left d (Err halt.Memory) h = tt
unsigned_by n left d (Err halt.NoValue) h = λ s r g w e. true≢false (sym (subst (λ (x : Spelling). IsWithin x d) (digits_only n left s r e) w) ∙ h)

pub number_answer : (ds : List ℕ) (m : Mark) (left : List Mark) (d : ℕ) (o : Result Value Halt) → IsToken class.Number ds m → IntegerAnswer (signed_number false (number_of ds)) o → Answer d (m ∷ left) left o
number_answer ds m left d o t h = subst (λ (x : Mark). Answer d (x ∷ left) left o) (sym t) (unsigned_by (number_of ds) left d o h)

same_number : (n k : ℕ) (t r : List Mark) → number n ∷ t ≡ number k ∷ r → k ≡ n
same_number n k t r e = (let h : number n ≡ number k = heads _ _ _ _ e in cc)

minus_by : (n : ℕ) (left : List Mark) (d : ℕ) (o : Result Value Halt) → IntegerAnswer (neg_ℤ (pos n)) o → Answer d (punct_mark punct.Minus ∷ number n ∷ left) left o
minus_by n left d (Ok v) h = (minus n, tt, h.1, refl, sym h.0)
minus_by n left d (Err halt.Memory) h = tt
minus_by n left d (Err halt.NoValue) h = λ s r g w e.
    let b = minus_begins (number n ∷ left) s r e in
    true≢false (sym (subst (λ (x : Spelling). IsWithin x d) (b.1 ∙ ap minus (same_number n b.0 left r b.2)) w) ∙ h)

pub minus_answer : (bytes : List ℕ) (at : ℕ) (t : Token) (d : ℕ) (o : Result Value Halt) → Comes bytes at t → t.class ≡ class.Number → IntegerAnswer (signed_number true (number_of (stretch bytes t.from t.to))) o → Answer d (punct_mark punct.Minus ∷ ahead bytes at) (ahead bytes t.to) o
minus_answer bytes at t d o c k h =
    let n = number_of (stretch bytes t.from t.to) in
    let e : c.mark ≡ number n = subst (λ (x : Class). IsToken x (stretch bytes t.from t.to) c.mark) k c.token in
    subst (λ (l : List Mark). Answer d (punct_mark punct.Minus ∷ l) (ahead bytes t.to) o) (sym (c.first ∙ ap (λ (m : Mark). m ∷ ahead bytes t.to) e)) (minus_by n (ahead bytes t.to) d o h)

pub minus_alone : (ms : List Mark) → ms ≡ [] → (d : ℕ) (s : Spelling) (r : List Mark) → IsGood s → IsWithin s d → punct_mark punct.Minus ∷ ms ≡ marks s r → ⊥
minus_alone ms z d s r g w e = (let b = minus_begins ms s r e in none_first (number b.0) r (sym z ∙ b.2))

number_class : (c : Class) (bytes : List ℕ) (n : ℕ) → IsToken c bytes (number n) → c ≡ class.Number
number_class class.Number bytes n t = refl
number_class class.Name bytes n t = (let h = t.0 in absurd cc)
number_class class.Text bytes n t = (let h = t.3 in absurd cc)
number_class (class.Sign s) bytes n t = absurd cc
number_class class.Other bytes n t = (let h = t.1 in absurd cc)
number_class class.Blank bytes n t = absurd t
number_class class.Line bytes n t = absurd t
number_class class.Block bytes n t = absurd t
number_class class.Stray bytes n t = absurd t
number_class class.BadText bytes n t = absurd t
number_class class.OpenText bytes n t = absurd t
number_class class.OpenBlock bytes n t = absurd t

pub minus_other : (bytes : List ℕ) (at : ℕ) (t : Token) → Comes bytes at t → (t.class ≡ class.Number → ⊥) → (d : ℕ) (s : Spelling) (r : List Mark) → IsGood s → IsWithin s d → punct_mark punct.Minus ∷ ahead bytes at ≡ marks s r → ⊥
minus_other bytes at t c n d s r g w e =
    let b = minus_begins (ahead bytes at) s r e in
    n (number_class t.class (stretch bytes t.from t.to) b.0 (subst (λ (m : Mark). IsToken t.class (stretch bytes t.from t.to) m) (heads c.mark (number b.0) (ahead bytes t.to) r (sym c.first ∙ b.2)) c.token))

-- ---- strings

unwrapped : (o : Option (List ℕ)) (w : List ℕ) → o ≡ Some w → unwrap_or o [] ≡ w
unwrapped o w e = ap (λ (p : Option (List ℕ)). unwrap_or p []) e

pub string_answer : (bytes : List ℕ) (m : Mark) (left : List Mark) (d : ℕ) (v : Value) → IsToken class.Text bytes m → v ≡ text (unwrap_or (unquoted (inner bytes)) []) → Answer d (m ∷ left) left (Ok v)
string_answer bytes m left d v t e = (quoted t.1, tt, tt, ap (λ (n : Mark). n ∷ left) t.3, ap text (sym (unwrapped (unquoted (inner bytes)) t.1 t.2)) ∙ sym e)

-- ---- signs

pub sign_answer : (s : Sign) (bytes : List ℕ) (m : Mark) (from left : List Mark) (d : ℕ) (o : Result Value Halt) → IsToken (class.Sign s) bytes m → Answer d (sign_mark s ∷ from) left o → Answer d (m ∷ from) left o
sign_answer s bytes m from left d o t h = subst (λ (x : Mark). Answer d (x ∷ from) left o) (sym t) h

pub no_sign_answer : (s : Sign) (from : List Mark) → opening_of s ≡ None → (d : ℕ) (x : Spelling) (r : List Mark) → IsGood x → IsWithin x d → sign_mark s ∷ from ≡ marks x r → ⊥
no_sign_answer s from n d x r g w e =
    let b = sign_begins (first_of (spellings s)) from x r e in
    no_opening x b.0 b.1 (sym (ap opening_by (sign_punct s b.0 b.2)) ∙ n)

pub other_answer : (c : Class) (bytes : List ℕ) (m : Mark) (from : List Mark) → (c ≡ class.Name → ⊥) → (c ≡ class.Number → ⊥) → (c ≡ class.Text → ⊥) → ((s : Sign) → c ≡ class.Sign s → ⊥) → IsToken c bytes m → (d : ℕ) (x : Spelling) (r : List Mark) → IsGood x → IsWithin x d → m ∷ from ≡ marks x r → ⊥
other_answer class.Other bytes m from a b c f t d x r g w e =
    let k = sign_begins t.0 from x r (sym (ap (λ (n : Mark). n ∷ from) t.1) ∙ e) in
    true≢false (sym (word_is_sign k.0) ∙ ap is_sign (sym k.2) ∙ t.2)
other_answer class.Name bytes m from a b c f t d x r g w e = a refl
other_answer class.Number bytes m from a b c f t d x r g w e = b refl
other_answer class.Text bytes m from a b c f t d x r g w e = c refl
other_answer (class.Sign s) bytes m from a b c f t d x r g w e = f s refl
other_answer class.Blank bytes m from a b c f t d x r g w e = t
other_answer class.Line bytes m from a b c f t d x r g w e = t
other_answer class.Block bytes m from a b c f t d x r g w e = t
other_answer class.Stray bytes m from a b c f t d x r g w e = t
other_answer class.BadText bytes m from a b c f t d x r g w e = t
other_answer class.OpenText bytes m from a b c f t d x r g w e = t
other_answer class.OpenBlock bytes m from a b c f t d x r g w e = t

first_mark : (s : Spelling) (r : List Mark) → [] ≡ marks s r → ⊥
first_mark (truth_word b) r e = none_first _ _ e
first_mark (digits n) r e = none_first _ _ e
first_mark (minus n) r e = none_first _ _ e
first_mark (quoted w) r e = none_first _ _ e
first_mark (named w) r e = none_first _ _ e
first_mark (braces ss) r e = none_first _ _ e
first_mark (angles ss) r e = none_first _ _ e
first_mark (fields x s fs) r e = none_first _ _ e
first_mark (pairs d s ps) r e = none_first _ _ e

pub nothing_there : (ms : List Mark) → ms ≡ [] → (d : ℕ) (s : Spelling) (r : List Mark) → IsGood s → IsWithin s d → ms ≡ marks s r → ⊥
nothing_there ms z d s r g w e = first_mark s r (sym z ∙ e)

pub at_first : (bytes : List ℕ) (at : ℕ) (t : Token) (d : ℕ) (left : List Mark) (o : Result Value Halt) (c : Comes bytes at t) → ((m : Mark) → IsToken t.class (stretch bytes t.from t.to) m → Answer d (m ∷ ahead bytes t.to) left o) → Answer d (ahead bytes at) left o
at_first bytes at t d left o c h = subst (λ (l : List Mark). Answer d l left o) (sym c.first) (h c.mark c.token)

-- ---- keys

pub field_answer : (bytes : List ℕ) (at to : ℕ) (t : Token) (left : List Mark) (d : ℕ) (ks ls : List Value) (v : Value) → Comes bytes at t → t.class ≡ class.Name → ahead bytes t.to ≡ punct_mark punct.Maps ∷ left → v ≡ text (stretch bytes t.from t.to) → ls ≡ ks ++ v ∷ [] → KeyAnswer form.Record d (ahead bytes at) left ks ls (Ok tt)
field_answer bytes at to t left d ks ls v c k e w h =
    let x = stretch bytes t.from t.to in
    let n : IsToken class.Name x c.mark = subst (λ (y : Class). IsToken y x c.mark) k c.token in
    (field_key x, identifier x n.1, c.first ∙ (λ i. n.0 i ∷ e i), h ∙ ap (λ (u : Value). ks ++ u ∷ []) w)

pub no_key_set : (d : ℕ) (ms : List Mark) (ks : List Value) → KeyAnswer form.Set d ms ms ks ks (Ok tt)
no_key_set d ms ks = (no_key, tt, refl, sym (append-nil ks))

pub no_key_tuple : (d : ℕ) (ms : List Mark) (ks : List Value) → KeyAnswer form.Tuple d ms ms ks ks (Ok tt)
no_key_tuple d ms ks = (no_key, tt, refl, sym (append-nil ks))

pub argument_read : (d : ℕ) (ms mid left : List Mark) (ks ls : List Value) (k : Value) → Answer d ms mid (Ok k) → mid ≡ punct_mark punct.Pair ∷ left → ls ≡ ks ++ k ∷ [] → KeyAnswer form.Pairs d ms left ks ls (Ok tt)
argument_read d ms mid left ks ls k a p h = (value_key a.0, (a.1, a.2), a.3 ∙ ap (marks a.0) p, h ∙ ap (λ (v : Value). ks ++ v ∷ []) (sym a.4))

pub argument_open : (d : ℕ) (ms mid left : List Mark) (ks ls : List Value) (k : Value) → Answer d ms mid (Ok k) → ((r : List Mark) → mid ≡ punct_mark punct.Pair ∷ r → ⊥) → KeyAnswer form.Pairs d ms left ks ls (Err halt.NoValue)
argument_open d ms mid left ks ls k a n = by
  where
    by : (x : Key) (r : List Mark) → IsKey form.Pairs d x → ms ≡ key_marks x r → ⊥
    by (value_key s) r g e = n r (one_spelling a.0 s mid (punct_mark punct.Pair ∷ r) a.1 g.0 (sym a.3 ∙ e)).1
    by no_key r g e = g
    by (field_key x) r g e = g

pub argument_none : (d : ℕ) (ms left : List Mark) (ks : List Value) (h : Halt) → Answer d ms left (Err h) → KeyAnswer form.Pairs d ms left ks ks (Err h)
argument_none d ms left ks halt.Memory a = tt
argument_none d ms left ks halt.NoValue a = by
  where
    by : (x : Key) (r : List Mark) → IsKey form.Pairs d x → ms ≡ key_marks x r → ⊥
    by (value_key s) r g e = a s (punct_mark punct.Pair ∷ r) g.0 g.1 e
    by no_key r g e = g
    by (field_key x) r g e = g

-- ---- items

pub item_no_key : (f : Form) (d : ℕ) (ms left l : List Mark) (ks ls vs ws : List Value) (h : Halt) → KeyAnswer f d ms left ks ls (Err h) → ItemAnswer f d ms l ks ls vs ws (Err h)
item_no_key f d ms left l ks ls vs ws halt.Memory a = tt
item_no_key f d ms left l ks ls vs ws halt.NoValue a = λ i r g e. a i.0 (marks i.1 r) g.0 e

pub item_no_value : (f : Form) (d : ℕ) (ms mid left l : List Mark) (ks ls vs ws : List Value) (u : Unit {0}) (h : Halt) → KeyAnswer f d ms mid ks ls (Ok u) → Answer d mid left (Err h) → ItemAnswer f d ms l ks ls vs ws (Err h)
item_no_value f d ms mid left l ks ls vs ws u halt.Memory k a = tt
item_no_value f d ms mid left l ks ls vs ws u halt.NoValue k a = λ i r g e. a i.1 r g.1 g.2 (one_key f d k.0 i.0 mid (marks i.1 r) k.1 g.0 (sym k.2 ∙ e)).1

pub item_read : (f : Form) (d : ℕ) (ms mid left : List Mark) (ks ls vs ws : List Value) (u : Unit {0}) (v : Value) → KeyAnswer f d ms mid ks ls (Ok u) → Answer d mid left (Ok v) → ws ≡ vs ++ v ∷ [] → ItemAnswer f d ms left ks ls vs ws (Ok tt)
item_read f d ms mid left ks ls vs ws u v k a h =
    ((k.0, a.0), (k.1, a.1, a.2), k.2 ∙ ap (key_marks k.0) a.3, k.3, h ∙ ap (λ (x : Value). vs ++ x ∷ []) (sym a.4))

-- ---- what stands in brackets

empty_filled : (f : Form) → may_be_empty f ≡ true → IsFilled f []
empty_filled form.Set h = tt
empty_filled form.Tuple h = tt
empty_filled form.Record h = absurd cc
empty_filled form.Pairs h = absurd cc

filled_some : (f : Form) → may_be_empty f ≡ false → IsFilled f [] → ⊥
filled_some form.Set h i = absurd cc
filled_some form.Tuple h i = absurd cc
filled_some form.Record h i = i
filled_some form.Pairs h i = i

pub body_empty : (f : Form) (d : ℕ) (ms left : List Mark) (ks vs : List Value) → may_be_empty f ≡ true → ms ≡ punct_mark (close_of f) ∷ left → BodyAnswer f d ms left ks ks vs vs (Ok tt)
body_empty f d ms left ks vs h e = ([], tt, empty_filled f h, e, sym (append-nil ks), sym (append-nil vs))

pub begun_filled : (f : Form) (d : ℕ) (ms : List Mark) (ks vs : List Value) → may_be_empty f ≡ false → Begun f d ms ms ks ks vs vs
begun_filled f d ms ks vs h = record { items = []; are = tt; cut = refl; keys = sym (append-nil ks); values = sym (append-nil vs); some = λ i r e. filled_some f h i }

pub begun_open : (f : Form) (d : ℕ) (ms : List Mark) (ks vs : List Value) → ((r : List Mark) → ms ≡ punct_mark (close_of f) ∷ r → ⊥) → Begun f d ms ms ks ks vs vs
begun_open f d ms ks vs n = record { items = []; are = tt; cut = refl; keys = sym (append-nil ks); values = sym (append-nil vs); some = λ i r e. n r e }

pub body_halted : (f : Form) (d : ℕ) (ms m l left : List Mark) (ks ls ns vs us ws : List Value) (h : Halt) → Begun f d ms m ks ls vs us → ItemAnswer f d m l ls ns us ws (Err h) → BodyAnswer f d ms left ks ns vs ws (Err h)
body_halted f d ms m l left ks ls ns vs us ws halt.Memory b a = tt
body_halted f d ms m l left ks ls ns vs us ws halt.NoValue b a = λ is r g i e.
    let x = left_there f d ms m b.items is r b.are b.cut b.some g i e in a x.0 _ x.2 x.4

pub body_closed : (f : Form) (d : ℕ) (ms m mid left : List Mark) (ks ls ns vs us ws : List Value) (u : Unit {0}) → Begun f d ms m ks ls vs us → ItemAnswer f d m mid ls ns us ws (Ok u) → mid ≡ punct_mark (close_of f) ∷ left → BodyAnswer f d ms left ks ns vs ws (Ok tt)
body_closed f d ms m mid left ks ls ns vs us ws u b a e = (
  b.items ++ a.0 ∷ [],
  are_more f d b.items a.0 b.are a.1,
  filled_more f b.items a.0,
  b.cut ∙ ap (front_items f b.items) (a.2 ∙ ap (item_marks a.0) e) ∙ front_body f b.items a.0 (punct_mark (close_of f) ∷ left),
  keys_more b.items a.0 ks ls ns b.keys a.3,
  values_more b.items a.0 vs us ws b.values a.4,
)

pub body_more : (f : Form) (d : ℕ) (ms m mid left : List Mark) (ks ls ns vs us ws : List Value) (u : Unit {0}) → Begun f d ms m ks ls vs us → ItemAnswer f d m mid ls ns us ws (Ok u) → mid ≡ punct_mark (between_of f) ∷ left → Begun f d ms left ks ns vs ws
body_more f d ms m mid left ks ls ns vs us ws u b a e = record {
  items = b.items ++ a.0 ∷ [];
  are = are_more f d b.items a.0 b.are a.1;
  cut = b.cut ∙ ap (front_items f b.items) (a.2 ∙ ap (item_marks a.0) e) ∙ front_more f b.items a.0 left;
  keys = keys_more b.items a.0 ks ls ns b.keys a.3;
  values = values_more b.items a.0 vs us ws b.values a.4;
  some = b.some;
}

pub body_open : (f : Form) (d : ℕ) (ms m mid left : List Mark) (ks ls ns vs us ws : List Value) (u : Unit {0}) → Begun f d ms m ks ls vs us → ItemAnswer f d m mid ls ns us ws (Ok u) → ((r : List Mark) → mid ≡ punct_mark (close_of f) ∷ r → ⊥) → ((r : List Mark) → mid ≡ punct_mark (between_of f) ∷ r → ⊥) → BodyAnswer f d ms left ks ns vs ws (Err halt.NoValue)
body_open f d ms m mid left ks ls ns vs us ws u b a n k = λ is r g i e.
    behind f d m mid a.0 r a.1 a.2 n k (left_there f d ms m b.items is r b.are b.cut b.some g i e)

-- ---- brackets

pub none_deep : (f : Form) (d : ℕ) (ms : List Mark) → d ≡ 0 → (s : Spelling) (r : List Mark) → IsGood s → IsWithin s d → punct_mark (begin_of f) ∷ ms ≡ marks s r → ⊥
none_deep f d ms z s r g w e = no_brackets f s ms r (subst (λ (n : ℕ). IsWithin s n) z w) e

pub brackets_halted : (f : Form) (d deep : ℕ) (ms left l : List Mark) (ks ls vs ws : List Value) (h : Halt) → deep ≡ suc d → BodyAnswer f d ms left ks ls vs ws (Err h) → Answer deep (punct_mark (begin_of f) ∷ ms) l (Err h)
brackets_halted f d deep ms left l ks ls vs ws halt.Memory e a = tt
brackets_halted f d deep ms left l ks ls vs ws halt.NoValue e a = λ s r g w m.
    let i = inside f d s ms r g (subst (λ (n : ℕ). IsWithin s n) e w) m in a i.0 r i.1 i.2 i.3

pub brackets_paired : (f : Form) (d : ℕ) (ms left : List Mark) (ls ws : List Value) (u : Unit {0}) → BodyAnswer f d ms left [] ls [] ws (Ok u) → IsPaired f ls ws
brackets_paired f d ms left ls ws u b =
    subst (λ (l : List Value). IsPaired f l ws) (sym b.4) (subst (λ (l : List Value). IsPaired f (keys_of b.0) l) (sym b.5) (paired_all f d b.0 b.1))

brackets_by : (f : Form) (d : ℕ) (ms left : List Mark) (is : List Item) (s : Spelling) (o : Result Value Halt) → Spelt f d is s → ms ≡ body f is (punct_mark (close_of f) ∷ left) → Makes (made f (keys_of is) (values_of is)) o → Answer (suc d) (punct_mark (begin_of f) ∷ ms) left o
brackets_by f d ms left is s (Ok v) p e h = (s, p.good, p.within h.1, ap (λ (l : List Mark). punct_mark (begin_of f) ∷ l) e ∙ sym (p.tokens left), p.value ∙ sym h.0)
brackets_by f d ms left is s (Err halt.Memory) p e h = tt
brackets_by f d ms left is s (Err halt.NoValue) p e h = λ t r g w m.
    let one = one_spelling s t left r p.good g (p.tokens left ∙ ap (λ (l : List Mark). punct_mark (begin_of f) ∷ l) (sym e) ∙ m) in
    true≢false (sym (p.fits_so (subst (λ (x : Spelling). IsWithin x (suc d)) (sym one.0) w)) ∙ h)

pub brackets_made : (f : Form) (d deep : ℕ) (ms left : List Mark) (ls ws : List Value) (u : Unit {0}) (o : Result Value Halt) → deep ≡ suc d → BodyAnswer f d ms left [] ls [] ws (Ok u) → Makes (made f ls ws) o → Answer deep (punct_mark (begin_of f) ∷ ms) left o
brackets_made f d deep ms left ls ws u o e b h =
    let p = spelt f d b.0 b.1 b.2 in
    let h2 = subst (λ (l : List Value). Makes (made f (keys_of b.0) l) o) b.5 (subst (λ (l : List Value). Makes (made f l ws) o) b.4 h) in
    subst (λ (n : ℕ). Answer n (punct_mark (begin_of f) ∷ ms) left o) (sym e) (brackets_by f d ms left b.0 p.0 o p.1 b.3 h2)

pub body_from : (f : Form) (d : ℕ) (ms left : List Mark) (ks ls vs ws : List Value) (o : Result (Unit {0}) Halt) → ks ≡ [] → vs ≡ [] → BodyAnswer f d ms left ks ls vs ws o → BodyAnswer f d ms left [] ls [] ws o
body_from f d ms left ks ls vs ws o e h b =
    subst (λ (l : List Value). BodyAnswer f d ms left [] ls l ws o) h (subst (λ (l : List Value). BodyAnswer f d ms left l ls vs ws o) e b)

pub as_class : (c d : Class) (bytes : List ℕ) (m : Mark) → c ≡ d → IsToken c bytes m → IsToken d bytes m
as_class c d bytes m e t = subst (λ (x : Class). IsToken x bytes m) e t

-- ---- what a sign begins

minus_by_punct : (o : Option Punct) → opening_by o ≡ Some opening.Minus → o ≡ Some punct.Minus
minus_by_punct (Some punct.Minus) e = refl
minus_by_punct None e = absurd cc
minus_by_punct (Some punct.OpenSet) e = absurd cc
minus_by_punct (Some punct.CloseSet) e = absurd cc
minus_by_punct (Some punct.OpenTuple) e = absurd cc
minus_by_punct (Some punct.CloseTuple) e = absurd cc
minus_by_punct (Some punct.OpenRecord) e = absurd cc
minus_by_punct (Some punct.CloseRecord) e = absurd cc
minus_by_punct (Some punct.OpenPairs) e = absurd cc
minus_by_punct (Some punct.ClosePairs) e = absurd cc
minus_by_punct (Some punct.Maps) e = absurd cc
minus_by_punct (Some punct.Pair) e = absurd cc
minus_by_punct (Some punct.Override) e = absurd cc
minus_by_punct (Some punct.Comma) e = absurd cc

pub minus_sign : (s : Sign) (o : Option Opening) → o ≡ opening_of s → o ≡ Some opening.Minus → sign_mark s ≡ punct_mark punct.Minus
minus_sign s o e h = ap sign (punct_sign s punct.Minus (minus_by_punct (punct_of s) (sym e ∙ h)))

same_form : (f g : Form) → Some (opening.Brackets f) ≡ Some (opening.Brackets g) → f ≡ g
same_form f g e = cc

form_by_punct : (o : Option Punct) (f : Form) → opening_by o ≡ Some (opening.Brackets f) → o ≡ Some (begin_of f)
form_by_punct (Some punct.OpenSet) f e = ap (λ (g : Form). Some (begin_of g)) (same_form form.Set f e)
form_by_punct (Some punct.OpenTuple) f e = ap (λ (g : Form). Some (begin_of g)) (same_form form.Tuple f e)
form_by_punct (Some punct.OpenRecord) f e = ap (λ (g : Form). Some (begin_of g)) (same_form form.Record f e)
form_by_punct (Some punct.OpenPairs) f e = ap (λ (g : Form). Some (begin_of g)) (same_form form.Pairs f e)
form_by_punct (Some punct.Minus) f e = absurd cc
form_by_punct None f e = absurd cc
form_by_punct (Some punct.CloseSet) f e = absurd cc
form_by_punct (Some punct.CloseTuple) f e = absurd cc
form_by_punct (Some punct.CloseRecord) f e = absurd cc
form_by_punct (Some punct.ClosePairs) f e = absurd cc
form_by_punct (Some punct.Maps) f e = absurd cc
form_by_punct (Some punct.Pair) f e = absurd cc
form_by_punct (Some punct.Override) f e = absurd cc
form_by_punct (Some punct.Comma) f e = absurd cc

pub brackets_sign : (s : Sign) (o : Option Opening) (f : Form) → o ≡ opening_of s → o ≡ Some (opening.Brackets f) → sign_mark s ≡ punct_mark (begin_of f)
brackets_sign s o f e h = ap sign (punct_sign s (begin_of f) (form_by_punct (punct_of s) f (sym e ∙ h)))

pub same_first : (m n : Mark) (from left : List Mark) (d : ℕ) (o : Result Value Halt) → m ≡ n → Answer d (n ∷ from) left o → Answer d (m ∷ from) left o
same_first m n from left d o e h = subst (λ (x : Mark). Answer d (x ∷ from) left o) (sym e) h

pub same_form_key : (f g : Form) (d : ℕ) (ms left : List Mark) (ks ls : List Value) (o : Result (Unit {0}) Halt) → f ≡ g → KeyAnswer g d ms left ks ls o → KeyAnswer f d ms left ks ls o
same_form_key f g d ms left ks ls o e h = subst (λ (x : Form). KeyAnswer x d ms left ks ls o) (sym e) h

-- before the first item
pub init_by : (f : Form) (d : ℕ) (bytes : List ℕ) (at to : ℕ) (ks vs : List Value) → to ≡ at → at ≤ length bytes → Begun f d (ahead bytes at) (ahead bytes at) ks ks vs vs → Begun f d (ahead bytes at) (ahead bytes to) ks ks vs vs × (at ≤ to) × (to ≤ length bytes) × Moves bytes at to
init_by f d bytes at to ks vs e l b =
    (subst (λ (n : ℕ). Begun f d (ahead bytes at) (ahead bytes n) ks ks vs vs) (sym e) b, omega (arith, e), omega (arith, e, l), moves_same bytes at to e)

pub way_first : (bytes : List ℕ) (a b d : ℕ) (o : Result Value Halt) → Moves bytes a b → IfOk o (λ u. Moves bytes b d) → IfOk o (λ u. Moves bytes a d)
way_first bytes a b d (Ok v) m n = moves_then bytes a b d m n
way_first bytes a b d (Err h) m n = n
