-- What is read is spelled: what it means of a reader, and how it goes from readers to those that are made of them.
use Rattle.std.proofs.Common.{◌≡◌, Bool, true, false, List, [], ◌∷◌, Option, Some, None, Ok, if◌then◌else◌, refl, sym, ap, subst, ◌∙◌}
use Rattle.std.specs.Str.{bytes_eq}
use Rattle.tla_token.specs.declared.place.Place.{Place}
use Rattle.tla_token.proofs.Spelled.{same_bytes}
use Rattle.tla_tree.specs.Tree.{Word, Name}
use Rattle.tla_tree.specs.Lexical.{Mark, TokenView, Token, token}
use Rattle.tla_tree.specs.Lexical as tk
use Rattle.tla_tree.specs.Spelling.{Right, field_token}
use Rattle.tla_tree.specs.Reader.{Reader, ◌>>=◌, gives, refuses, too_deep, if_fits, skip, took, tail, end, next, peek, is_mark, is_sign, place_if}
use Rattle.tla_tree.specs.Reader as expression
use Rattle.tla_tree.proofs.SoundTokens.{then_ok, ok_is, if_some, sign_is}
use Rattle.tla_tree.proofs.SoundTokens as edge
use Rattle.pcal_tree.specs.GrammarParts.{name, key, mark, word}
use Rattle.syntax_reading.specs.TokenReaders.{first, by_next, past, is_reserved, name_of, a_key, a_mark, a_name, name_if, name_within, pick}

-- what is read after the tokens x is good, and with the rest of the tokens it is spelled by all of them
pub record Sound {A : Type 0} (x : List Token → List Token) (Q : A → Type 0) (put : A → List Token → List Token) (r : Reader A) : Type 0 where
  pub is : (ts : List Token) (a : A) (us : List Token) → r ts ≡ Ok (a, us) → Q a × (put a us ≡ x ts)

-- where this token comes
pub record SoundAt {A : Type 0} (p : Place) (k : TokenView) (x : List Token → List Token) (Q : A → Type 0) (put : A → List Token → List Token) (r : Reader A) : Type 0 where
  pub is : (ts : List Token) → first ts ≡ token p k → (a : A) (us : List Token) → r ts ≡ Ok (a, us) → Q a × (put a us ≡ x ts)

abbrev pub here : List Token → List Token
here ts = ts

abbrev pub Any : {A : Type 0} → A → Type 0
Any a = Unit {0}

-- ---- combinators
pub sound_gives : {A : Type 0} {x : List Token → List Token} {Q : A → Type 0} {put : A → List Token → List Token} (a : A) → Q a → ((ts : List Token) → put a ts ≡ x ts) → Sound x Q put (gives a)
sound_gives {A} {x} {Q} {put} a g s = record { is = λ ts b us e. edge.given (λ c vs. Q c × (put c vs ≡ x ts)) e (g, s ts) }

pub sound_refuses : {A : Type 0} {x : List Token → List Token} {Q : A → Type 0} {put : A → List Token → List Token} → Sound x Q put (refuses {A = A})
sound_refuses = record { is = λ ts b us e. absurd cc }

pub sound_too_deep : {A : Type 0} {x : List Token → List Token} {Q : A → Type 0} {put : A → List Token → List Token} → Sound x Q put (too_deep {A = A})
sound_too_deep = record { is = λ ts b us e. absurd cc }

pub sound_bind : {A B : Type 0} {x : List Token → List Token} {P : A → Type 0} {front : A → List Token → List Token} {Q : B → Type 0} {put : B → List Token → List Token} {r : Reader A} {f : A → Reader B}
    → Sound here P front r → ((a : A) → P a → Sound (λ ts. x (front a ts)) Q put (f a)) → Sound x Q put (r >>= f)
sound_bind {A} {B} {x} h i = record {
  is = λ ts b us e.
      (let v = then_ok e in
      let w = h.is ts v.0 v.1 v.2 in
      let z = (i v.0 w.0).is v.1 b us v.3 in
      (z.0, z.1 ∙ ap x w.1));
}

-- the first one is read after tokens too
pub sound_after : {A B : Type 0} (x : List Token → List Token) {y : List Token → List Token} {P : A → Type 0} {front : A → List Token → List Token} {Q : B → Type 0} {put : B → List Token → List Token} {r : Reader A} {f : A → Reader B}
    → Sound y P front r → ((a : A) → P a → Sound (λ ts. x (front a ts)) Q put (f a)) → Sound (λ ts. x (y ts)) Q put (r >>= f)
sound_after x h i = record {
  is = λ ts b us e.
      (let v = then_ok e in
      let w = h.is ts v.0 v.1 v.2 in
      let z = (i v.0 w.0).is v.1 b us v.3 in
      (z.0, z.1 ∙ ap x w.1));
}

pub sound_next : {A : Type 0} {x : List Token → List Token} {Q : A → Type 0} {put : A → List Token → List Token} {f : Place → TokenView → Reader A}
    → ((p : Place) (k : TokenView) → SoundAt p k x Q put (f p k)) → Sound x Q put (by_next f)
sound_next h = record { is = λ ts a us e. (h (first ts).place (first ts).kind).is ts refl a us e }

pub sound_stays : {A : Type 0} {p : Place} {k : TokenView} {x : List Token → List Token} {Q : A → Type 0} {put : A → List Token → List Token} {r : Reader A} → Sound x Q put r → SoundAt p k x Q put r
sound_stays h = record { is = λ ts s a us e. h.is ts a us e }

pub sound_same : {A : Type 0} {p : Place} {k : TokenView} {x y : List Token → List Token} {Q : A → Type 0} {put : A → List Token → List Token} {r : Reader A} → ((ts : List Token) → y ts ≡ x ts) → SoundAt p k y Q put r → SoundAt p k x Q put r
sound_same e h = record { is = λ ts s a us o. (let z = h.is ts s a us o in (z.0, z.1 ∙ e ts)) }

pub sound_then : {A B : Type 0} {p : Place} {k : TokenView} (x : List Token → List Token) {y : List Token → List Token} {P : A → Type 0} {front : A → List Token → List Token} {Q : B → Type 0} {put : B → List Token → List Token} {r : Reader A} {f : A → Reader B}
    → SoundAt p k y P front r → ((a : A) → P a → Sound (λ ts. x (front a ts)) Q put (f a)) → SoundAt p k (λ ts. x (y ts)) Q put (r >>= f)
sound_then x h i = record {
  is = λ ts s b us e.
      (let v = then_ok e in
      let w = h.is ts s v.0 v.1 v.2 in
      let z = (i v.0 w.0).is v.1 b us v.3 in
      (z.0, z.1 ∙ ap x w.1));
}

pub sound_fits : {A : Type 0} {p : Place} {k : TokenView} {x : List Token → List Token} {Q : A → Type 0} {put : A → List Token → List Token} {r : Reader A} (b : Bool) → SoundAt p k x Q put r → SoundAt p k x Q put (if_fits b r)
sound_fits true h = h
sound_fits false h = sound_stays sound_too_deep

abbrev pub is_other : TokenView → Bool
is_other (tk.other w) = true
is_other k = false

pub seen : (ts : List Token) (p : Place) (k : TokenView) → first ts ≡ token p k → is_other k ≡ false → token p k ∷ tail ts ≡ ts
seen [] p k s h = (let other : tk.other [] ≡ k = ap (λ (t : Token). t.kind) s in absurd cc)
seen (t ∷ ts) p k s h = ap (λ (u : Token). u ∷ ts) (sym s)

pub sound_past : {A : Type 0} {p : Place} {k : TokenView} {x : List Token → List Token} {Q : A → Type 0} {put : A → List Token → List Token} {r : Reader A}
    → is_other k ≡ false → Sound (λ ts. x (token p k ∷ ts)) Q put r → SoundAt p k x Q put (skip r)
sound_past {A} {p} {k} {x} o h = record { is = λ ts s a us e. (let z = h.is (tail ts) a us e in (z.0, z.1 ∙ ap x (seen ts p k s o))) }

-- ---- what a word stands for
abbrev pub All : {A : Type 0} → (Word → A → Type 0) → List (Word × A) → Type 0
All Q [] = Unit {0}
All Q ((x, a) ∷ xs) = Q x a × All Q xs

pub pick_is : {A : Type 0} (Q : Word → A → Type 0) (w : Word) (xs : List (Word × A)) (d : A) → All Q xs → Q w d → Q w (pick w xs d)
pick_is Q w [] d h k = k
pick_is {A} Q w ((x, a) ∷ xs) d h k = by (bytes_eq x w) refl (pick_is Q w xs d h.1 k)
  where
    by : (b : Bool) → bytes_eq x w ≡ b → Q w (pick w xs d) → Q w (if b then a else pick w xs d)
    by true e i = subst (λ (v : Word). Q v a) (same_bytes x w e) h.0
    by false e i = i

abbrev pub AllSound : {A : Type 0} → Place → (List Token → List Token) → (A → Type 0) → (A → List Token → List Token) → List (Word × Reader A) → Type 0
AllSound p x Q put rs = All (λ w r. SoundAt p (tk.reserved w) x Q put r) rs

pub sound_pick : {A : Type 0} {p : Place} {x : List Token → List Token} {Q : A → Type 0} {put : A → List Token → List Token} (w : Word) (rs : List (Word × Reader A)) (d : Reader A)
    → AllSound p x Q put rs → SoundAt p (tk.reserved w) x Q put d → SoundAt p (tk.reserved w) x Q put (pick w rs d)
sound_pick {A} {p} {x} {Q} {put} w rs d h i = pick_is (λ v r. SoundAt p (tk.reserved v) x Q put r) w rs d h i

-- ---- single tokens
past_ok : {A : Type 0} (f : Place → TokenView → Option A) (ts : List Token) (a : A) (us : List Token) → past f ts ≡ Ok (a, us) → (f (first ts).place (first ts).kind ≡ Some a) × (tail ts ≡ us)
past_ok {A} f ts a us h = by (f (first ts).place (first ts).kind) h
  where
    by : (o : Option A) → took o ts ≡ Ok (a, us) → (o ≡ Some a) × (tail ts ≡ us)
    by (Some b) e = (let w = ok_is e in (ap (λ c. Some c) w.0, w.1))
    by None e = absurd cc

-- what f tells is a token's own place and kind
pub sound_token : {A : Type 0} (f : Place → TokenView → Option A) (place : A → Place) (kind : A → TokenView) → ((a : A) → is_other (kind a) ≡ false) → ((p : Place) (k : TokenView) (a : A) → f p k ≡ Some a → (p ≡ place a) × (k ≡ kind a))
    → Sound here Any (λ a ts. token (place a) (kind a) ∷ ts) (past f)
sound_token {A} f place kind o h = record {
  is = λ ts a us e.
      (let v = past_ok f ts a us e in
      let w = h (first ts).place (first ts).kind a v.0 in
      let s : first ts ≡ token (place a) (kind a) = λ i. token (w.0 i) (w.1 i) in
      (tt, ap (λ (vs : List Token). token (place a) (kind a) ∷ vs) (sym v.1) ∙ seen ts (place a) (kind a) s (o a)));
}

reserved_is : (w : Word) (k : TokenView) → is_reserved w k ≡ true → k ≡ tk.reserved w
reserved_is w (tk.reserved x) h = ap (λ (v : Word). tk.reserved v) (sym (same_bytes w x h))
reserved_is w k h = absurd cc

name_is : (p : Place) (k : TokenView) (x : Name) → name_of p k ≡ Some x → (p ≡ x.place) × (k ≡ tk.word x.word)
name_is p (tk.word y) x h = (let it : record { place = p; word = y } ≡ x = cc in (ap (λ (z : Name). z.place) it, ap (λ (z : Name). tk.word z.word) it))
name_is p k x h = absurd cc

pub sound_key : (w : Word) → Sound here Any (λ p. key p w) (a_key w)
sound_key w = sound_token (place_if (is_reserved w)) (λ p. p) (λ p. tk.reserved w) (λ p. refl) (λ p k q e. (let v = if_some (is_reserved w k) p q e in (v.1, reserved_is w k v.0)))

pub sound_mark : (m : Mark) → Sound here Any (λ p. mark p m) (a_mark m)
sound_mark m = sound_token (place_if (is_mark m)) (λ p. p) (λ p. tk.mark m) (λ p. refl) (λ p k q e. (let v = if_some (is_mark m k) p q e in (v.1, edge.mark_is m k v.0)))

pub sound_name : Sound here Any name a_name
sound_name = sound_token name_of (λ x. x.place) (λ x. tk.word x.word) (λ x. refl) name_is

pub sound_name_within : (b : Bool) → Sound here Any name (name_within b)
sound_name_within b = sound_next (by b)
  where
    by : (b : Bool) (p : Place) (k : TokenView) → SoundAt p k here Any name (name_if b p k)
    by true p k = sound_stays sound_name
    by false p (tk.word x) = sound_stays sound_too_deep
    by false p k = sound_stays sound_refuses

-- ---- tokens of expressions, right of the edge
pub record SoundRight {A : Type 0} (p : Place) (k : TokenView) (x : List Token → List Token) (Q : A → Type 0) (put : A → List Token → List Token) (r : Reader A) : Type 0 where
  pub is : (ts : List Token) → next 0 ts ≡ token p k → (a : A) (us : List Token) → r ts ≡ Ok (a, us) → Q a × (put a us ≡ x ts)

pub sound_peek : {A : Type 0} {x : List Token → List Token} {Q : A → Type 0} {put : A → List Token → List Token} {f : Place → TokenView → Reader A}
    → ((p : Place) (k : TokenView) → SoundRight p k x Q put (f p k)) → Sound x Q put (peek 0 f)
sound_peek h = record { is = λ ts a us e. (h (next 0 ts).place (next 0 ts).kind).is ts refl a us e }

pub sound_in_place : {A : Type 0} {p : Place} {k : TokenView} {x : List Token → List Token} {Q : A → Type 0} {put : A → List Token → List Token} {r : Reader A} → Sound x Q put r → SoundRight p k x Q put r
sound_in_place h = record { is = λ ts s a us e. h.is ts a us e }

pub sound_right : {A : Type 0} {p : Place} {k : TokenView} {x : List Token → List Token} {Q : A → Type 0} {put : A → List Token → List Token} {r : Reader A}
    → is_other k ≡ false → (Right 0 p → Sound (λ ts. x (token p k ∷ ts)) Q put r) → SoundRight p k x Q put (skip r)
sound_right {A} {p} {k} {x} o h = record {
  is = λ ts s a us e.
      (let v = edge.seen 0 ts p k s o in
      let z = (h v.0).is (tail ts) a us e in
      (z.0, z.1 ∙ ap x v.1));
}

pub sound_mark_right : (m : Mark) → Sound here (Right 0) (λ p. mark p m) (expression.a_mark 0 m)
sound_mark_right m = record { is = λ ts p us e. edge.mark_ok 0 m ts p us e }

pub sound_field_right : Sound here (λ f. Right 0 f.place) field_token (expression.a_field 0)
sound_field_right = record { is = λ ts f us e. edge.field_ok 0 ts f us e }

pub sound_word_right : Sound here (λ x. Right 0 x.0) (λ x. word x.0 x.1) (expression.a_word 0)
sound_word_right = record { is = λ ts x us e. edge.word_ok 0 ts x us e }
