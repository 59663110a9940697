-- What is read is spelled: single tokens.
use Rattle.std.proofs.Common.{◌≡◌, ℕ, zero, suc, Bool, true, false, List, [], ◌∷◌, Option, Some, None, Ok, Err, nat_lt, if◌then◌else◌, refl, sym, ap, subst, ◌∙◌}
use Rattle.std.proofs.lemmas.Bool.{eqb-true}
use Rattle.tla_token.specs.declared.place.Place.{Place}
use Rattle.tla_tree.specs.declared.op.Op.{Op}
use Rattle.tla_tree.specs.Tree.{Word}
use Rattle.tla_tree.specs.Lexical.{Mark, Key, TokenView, Token, token, field_kind}
use Rattle.tla_tree.specs.Lexical as tk
use Rattle.tla_tree.specs.Spelling.{Field, Right, mark, key, word, field_token}
use Rattle.tla_tree.specs.Reader.{Out, Reader, then_read, next, tail, end, took, take, mark_number, key_number, is_mark, is_key, is_sign, place_if, a_mark, a_key, a_sign, word_of, field_of, a_word, a_field, ended}
use Rattle.tla_tree.proofs.ReadStops.{same_is}

-- ---- results
pub then_ok : {A B : Type 0} {o : Out A} {f : A → Reader B} {y : B × List Token} → then_read o f ≡ Ok y → (x : A) × (ts : List Token) × (o ≡ Ok (x, ts)) × (f x ts ≡ Ok y)
then_ok {A} {B} {o} {f} {y} e = at o e
  where
    at : (o : Out A) → then_read o f ≡ Ok y → (x : A) × (ts : List Token) × (o ≡ Ok (x, ts)) × (f x ts ≡ Ok y)
    at (Ok x) e = (x.0, x.1, refl, e)
    at (Err u) e = absurd cc

abbrev pub here : {A : Type 0} → A → List Token → Out A
here x ts = Ok (x, ts)

pub ok_is : {A : Type 0} {x y : A} {u v : List Token} → here x u ≡ here y v → (x ≡ y) × (u ≡ v)
ok_is {A} {x} {y} {u} {v} e =
    let pair : ◌≡◌ {A = A × List Token} (x, u) (y, v) = cc in
    (ap (λ (p : A × List Token). p.0) pair, ap (λ (p : A × List Token). p.1) pair)

pub given : {A : Type 0} (P : A → List Token → Type 0) {x y : A} {u v : List Token} → here x u ≡ here y v → P x u → P y v
given P {x} {y} {u} {v} h g = (let w = ok_is h in subst (λ z. P y z) w.1 (subst (λ z. P z u) w.0 g))

-- ---- the next token
abbrev is_other : TokenView → Bool
is_other (tk.other w) = true
is_other k = false

pub seen : (e : ℕ) (ts : List Token) (p : Place) (k : TokenView) → next e ts ≡ token p k → is_other k ≡ false → Right e p × (token p k ∷ tail ts ≡ ts)
seen e [] p k s h = (let other : tk.other [] ≡ k = ap (λ (t : Token). t.kind) s in absurd cc)
seen e (t ∷ ts) p k s h = by (nat_lt e t.place.col) refl
  where
    by : (b : Bool) → nat_lt e t.place.col ≡ b → Right e p × (token p k ∷ ts ≡ t ∷ ts)
    by true l = (let it : t ≡ token p k = rw l at s in (ap (λ (u : Token). nat_lt e u.place.col) (sym it) ∙ l, ap (λ (u : Token). u ∷ ts) (sym it)))
    by false l = (let it : end ≡ token p k = rw l at s in let other : tk.other [] ≡ k = ap (λ (t : Token). t.kind) it in absurd cc)

-- ---- a token that is taken
took_ok : {A : Type 0} (o : Option A) (ts : List Token) (x : A) (us : List Token) → took o ts ≡ Ok (x, us) → (o ≡ Some x) × (tail ts ≡ us)
took_ok (Some a) ts x us e = (let w = ok_is e in (ap (λ x. Some x) w.0, w.1))
took_ok None ts x us e = absurd cc

pub if_some : {A : Type 0} (b : Bool) (x y : A) → (if b then Some x else None) ≡ Some y → (b ≡ true) × (x ≡ y)
if_some true x y e = (refl, cc)
if_some false x y e = absurd cc

pub take_ok : {A : Type 0} (e : ℕ) (f : Place → TokenView → Option A) (ts : List Token) (x : A) (us : List Token) → take e f ts ≡ Ok (x, us) → (f (next e ts).place (next e ts).kind ≡ Some x) × (tail ts ≡ us)
take_ok e f ts x us h = took_ok (f (next e ts).place (next e ts).kind) ts x us h

-- the token that is seen, of which f tells something
abbrev pub Taken : ℕ → Place → TokenView → List Token → List Token → Type 0
Taken e p k us ts = Right e p × (token p k ∷ us ≡ ts)

pub taken : (e : ℕ) (ts : List Token) (p : Place) (k : TokenView) (us : List Token) → next e ts ≡ token p k → is_other k ≡ false → tail ts ≡ us → Taken e p k us ts
taken e ts p k us s h t = (let w = seen e ts p k s h in (w.0, ap (λ (vs : List Token). token p k ∷ vs) (sym t) ∙ w.1))

-- ---- marks, keys and signs
nth : {A : Type 0} → A → List A → ℕ → A
nth d [] n = d
nth d (x ∷ xs) zero = x
nth d (x ∷ xs) (suc n) = nth d xs n

marks : List Mark
marks = tk.open_bracket ∷ tk.close_bracket ∷ tk.open_square ∷ tk.close_square ∷ tk.open_brace ∷ tk.close_brace ∷ tk.open_tuple ∷ tk.close_tuple ∷ tk.comma ∷ tk.colon ∷ tk.dot ∷ tk.bang ∷ tk.arrow ∷ tk.maps ∷ tk.defines ∷ tk.box ∷ tk.prime ∷ tk.assigns ∷ tk.beside ∷ tk.semicolon ∷ []

mark_back : (m : Mark) → nth tk.comma marks (mark_number m) ≡ m
unfolding nth marks
mark_back tk.open_bracket = refl
mark_back tk.close_bracket = refl
mark_back tk.open_square = refl
mark_back tk.close_square = refl
mark_back tk.open_brace = refl
mark_back tk.close_brace = refl
mark_back tk.open_tuple = refl
mark_back tk.close_tuple = refl
mark_back tk.comma = refl
mark_back tk.colon = refl
mark_back tk.dot = refl
mark_back tk.bang = refl
mark_back tk.arrow = refl
mark_back tk.maps = refl
mark_back tk.defines = refl
mark_back tk.box = refl
mark_back tk.prime = refl
mark_back tk.assigns = refl
mark_back tk.beside = refl
mark_back tk.semicolon = refl

keys : List Key
keys = tk.if_key ∷ tk.then_key ∷ tk.else_key ∷ tk.case_key ∷ tk.other_key ∷ tk.let_key ∷ tk.in_key ∷ tk.except_key ∷ tk.for_all_key ∷ tk.exists_key ∷ []

key_back : (k : Key) → nth tk.if_key keys (key_number k) ≡ k
unfolding nth keys
key_back tk.if_key = refl
key_back tk.then_key = refl
key_back tk.else_key = refl
key_back tk.case_key = refl
key_back tk.other_key = refl
key_back tk.let_key = refl
key_back tk.in_key = refl
key_back tk.except_key = refl
key_back tk.for_all_key = refl
key_back tk.exists_key = refl

pub mark_is : (m : Mark) (k : TokenView) → is_mark m k ≡ true → k ≡ tk.mark m
mark_is m (tk.mark n) h = ap (λ (x : Mark). tk.mark x) (sym (mark_back n) ∙ ap (λ (i : ℕ). nth tk.comma marks i) (sym (eqb-true (mark_number m) (mark_number n) h)) ∙ mark_back m)
mark_is m k h = absurd cc

key_is : (m : Key) (k : TokenView) → is_key m k ≡ true → k ≡ tk.key m
key_is m (tk.key n) h = ap (λ (x : Key). tk.key x) (sym (key_back n) ∙ ap (λ (i : ℕ). nth tk.if_key keys i) (sym (eqb-true (key_number m) (key_number n) h)) ∙ key_back m)
key_is m k h = absurd cc

pub sign_is : (o : Op) (k : TokenView) → is_sign o k ≡ true → k ≡ tk.sign o
sign_is o (tk.sign q) h = ap (λ (x : Op). tk.sign x) (sym (same_is o q h))
sign_is o k h = absurd cc

-- a test of the next token's kind that it passes
placed_ok : (e : ℕ) (f : TokenView → Bool) (k : TokenView) → is_other k ≡ false → ((j : TokenView) → f j ≡ true → j ≡ k) → (ts : List Token) (p : Place) (us : List Token) → take e (place_if f) ts ≡ Ok (p, us) → Taken e p k us ts
placed_ok e f k o is ts p us h =
    let w = take_ok e (place_if f) ts p us h in
    let v = if_some (f (next e ts).kind) (next e ts).place p w.0 in
    let s : next e ts ≡ token p k = λ i. token (v.1 i) (is (next e ts).kind v.0 i) in
    taken e ts p k us s o w.1

pub mark_ok : (e : ℕ) (m : Mark) (ts : List Token) (p : Place) (us : List Token) → a_mark e m ts ≡ Ok (p, us) → Right e p × (mark p m us ≡ ts)
mark_ok e m ts p us h = placed_ok e (is_mark m) (tk.mark m) refl (mark_is m) ts p us h

pub key_ok : (e : ℕ) (m : Key) (ts : List Token) (p : Place) (us : List Token) → a_key e m ts ≡ Ok (p, us) → Right e p × (key p m us ≡ ts)
key_ok e m ts p us h = placed_ok e (is_key m) (tk.key m) refl (key_is m) ts p us h

pub sign_ok : (e : ℕ) (o : Op) (ts : List Token) (p : Place) (us : List Token) → a_sign e o ts ≡ Ok (p, us) → Right e p × (token p (tk.sign o) ∷ us ≡ ts)
sign_ok e o ts p us h = placed_ok e (is_sign o) (tk.sign o) refl (sign_is o) ts p us h

-- ---- words and fields
word_is : (p : Place) (k : TokenView) (x : Place × Word) → word_of p k ≡ Some x → (p ≡ x.0) × (k ≡ tk.word x.1)
word_is p (tk.word y) x h = (let it : ◌≡◌ {A = Place × Word} (p, y) x = cc in (ap (λ (z : Place × Word). z.0) it, ap (λ (z : Place × Word). tk.word z.1) it))
word_is p k x h = absurd cc

pub word_ok : (e : ℕ) (ts : List Token) (x : Place × Word) (us : List Token) → a_word e ts ≡ Ok (x, us) → Right e x.0 × (word x.0 x.1 us ≡ ts)
word_ok e ts x us h =
    let w = take_ok e word_of ts x us h in
    let v = word_is (next e ts).place (next e ts).kind x w.0 in
    let s : next e ts ≡ token x.0 (tk.word x.1) = λ i. token (v.0 i) (v.1 i) in
    taken e ts x.0 (tk.word x.1) us s refl w.1

field_is : (p : Place) (k : TokenView) (f : Field) → field_of p k ≡ Some f → (p ≡ f.place) × (k ≡ field_kind f.is_reserved f.text) × (is_other (field_kind f.is_reserved f.text) ≡ false)
field_is p (tk.word y) f h = (let it : record { place = p; is_reserved = false; text = y } ≡ f = cc in rw (sym it) (refl, refl, refl))
field_is p (tk.reserved y) f h = (let it : record { place = p; is_reserved = true; text = y } ≡ f = cc in rw (sym it) (refl, refl, refl))
field_is p k f h = absurd cc

pub field_ok : (e : ℕ) (ts : List Token) (f : Field) (us : List Token) → a_field e ts ≡ Ok (f, us) → Right e f.place × (field_token f us ≡ ts)
field_ok e ts f us h =
    let w = take_ok e field_of ts f us h in
    let v = field_is (next e ts).place (next e ts).kind f w.0 in
    let s : next e ts ≡ token f.place (field_kind f.is_reserved f.text) = λ i. token (v.0 i) (v.1 i) in
    taken e ts f.place (field_kind f.is_reserved f.text) us s v.2 w.1

-- a mark, and what it makes
pub ended_ok : {A : Type 0} (e : ℕ) (m : Mark) (f : Place → A) {ts : List Token} {a : A} {us : List Token} → ended e m f ts ≡ Ok (a, us) → (p : Place) × Right e p × (mark p m us ≡ ts) × (f p ≡ a)
ended_ok e m f {ts} {a} {us} h =
    let v = then_ok h in
    let w = ok_is v.3 in
    let z = mark_ok e m ts v.0 v.1 v.2 in
    (v.0, z.0, ap (λ (vs : List Token). mark v.0 m vs) (sym w.1) ∙ z.1, w.0)
