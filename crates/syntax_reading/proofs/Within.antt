-- What was read within the limits can be gone on with within them: how that goes from readers to those that are made of them.
use Rattle.std.proofs.Common.{◌≡◌, ℕ, length, length-append, arith, Bool, true, false, nat_le, List, [], ◌∷◌, ◌++◌, Option, Some, None, Ok, Err, refl, sym, ap, ◌∙◌, subst, append_assoc}
use Rattle.tla_token.specs.declared.place.Place.{Place}
use Rattle.tla_token.specs.Places.{nowhere}
use Rattle.tla_token.specs.Limits.{deepest_statement}
use Rattle.std.proofs.lemmas.List.{append-nil}
use Rattle.tla_tree.specs.Tree.{Word, Name}
use Rattle.tla_tree.specs.Lexical.{Mark, TokenView, Token, token}
use Rattle.tla_tree.specs.Lexical as tk
use Rattle.tla_tree.specs.Spelling.{Right}
use Rattle.tla_tree.specs.Reader.{Stop, Reader, ◌>>=◌, gives, refuses, if_fits, skip, took, tail, next, peek, is_mark, place_if}
use Rattle.tla_tree.specs.FirstStop.{Open, is_within}
use Rattle.tla_tree.proofs.SpellAhead.{Ahead, held, put_ahead, then_ahead}
use Rattle.tla_tree.proofs.Mended.{left_is, deep_is, broken, gives_err}
use Rattle.tla_tree.proofs.SoundTokens as edge
use Rattle.tla_tree.proofs.Limited.{told_ok}
use Rattle.pcal_tree.specs.GrammarParts.{name, key, mark}
use Rattle.pcal_tree.specs.OpenForms.{here}
use Rattle.syntax_reading.specs.TokenReaders.{first, by_next, past, is_reserved, name_of, a_key, a_mark, a_name, name_if, name_within, pick}
use Rattle.syntax_reading.proofs.Sound.{Sound, SoundAt, Any, is_other, seen, All, pick_is, sound_key, sound_mark, sound_name, sound_name_within}
use Rattle.syntax_reading.proofs.Beside.{Fit, Sits, fit_one, fit_both, fit_here, Beside, beside_key, beside_mark, beside_name, beside_name_within}

abbrev pub before : List Token → List Token
before ts = ts

-- tokens that were read from ts on up to a stop, and tokens that complete them; the counts of what was read fit if those of what was before do
pub record Ending {A : Type 0} (Q : A → Type 0) (put : A → List Token → List Token) (y : List Open) (op : A → List Open) (ts : List Token) (u : Stop) : Type 0 where
  pub whole : A
  pub good : Q whole
  pub known : List Open
  pub more : List Open
  pub counts : op whole ≡ known ++ more
  pub fit : Fit y → Fit known
  pub read : List Token
  pub fix : List Token
  pub long : length more ≡ length fix
  pub parts : ts ≡ read ++ u.1
  pub tokens : (v : List Token) → put whole v ≡ read ++ (fix ++ v)

pub record Filled {A : Type 0} (x : List Token → List Token) (Q : A → Type 0) (put : A → List Token → List Token) (y : List Open) (op : A → List Open) : Type 0 where
  pub whole : A
  pub good : Q whole
  pub more : List Open
  pub counts : op whole ≡ y ++ more
  pub fix : List Token
  pub long : length more ≡ length fix
  pub tokens : (v : List Token) → put whole v ≡ x (fix ++ v)

pub record Ends {A : Type 0} (x : List Token → List Token) (Q : A → Type 0) (put : A → List Token → List Token) (y : List Open) (op : A → List Open) (r : Reader A) : Type 0 where
  pub fill : Filled x Q put y op
  pub is : (ts : List Token) (u : Stop) → r ts ≡ Err u → Ending Q put y op (x ts) u

pub record EndsAt {A : Type 0} (p : Place) (k : TokenView) (x : List Token → List Token) (Q : A → Type 0) (put : A → List Token → List Token) (y : List Open) (op : A → List Open) (r : Reader A) : Type 0 where
  pub is : (ts : List Token) → first ts ≡ token p k → (u : Stop) → r ts ≡ Err u → Ending Q put y op (x ts) u

-- a part that others begin with
pub record Part {A : Type 0} (P : A → Type 0) (front : A → List Token → List Token) (y : List Open) (op : A → List Open) (r : Reader A) : Type 0 where
  pub sound : Sound before P front r
  pub ahead : (a : A) → P a → Ahead (front a)
  pub fits : (ts : List Token) (a : A) (us : List Token) → r ts ≡ Ok (a, us) → Fit y → Fit (op a)
  pub ends : Ends before P front y op r

-- as what is read beside a reader without limits
pub fits_of : {A : Type 0} {y : List Open} {op : A → List Open} {r q : Reader A} → Beside y op r q → (ts : List Token) (a : A) (us : List Token) → r ts ≡ Ok (a, us) → Fit y → Fit (op a)
fits_of h ts a us e = (told_ok (h.is ts) e).1

pub missing_end : {B : Type 0} {R : B → Type 0} {puts : B → List Token → List Token} {y : List Open} {op : B → List Open} (x : List Token → List Token) → Ahead x → (f : Filled x R puts y op) → {ts : List Token} {u : Stop} → ts ≡ x u.1 → Ending R puts y op ts u
missing_end {B} {R} {puts} {y} x h f {ts} {u} s = record { whole = f.whole; good = f.good; known = y; more = f.more; counts = f.counts; fit = λ i. i; long = f.long; read = x []; fix = f.fix; parts = s ∙ h.is [] u.1; tokens = λ v. f.tokens v ∙ h.is [] (f.fix ++ v) }

-- other tokens and counts, of which as much is known
moved : {A : Type 0} {Q : A → Type 0} {put : A → List Token → List Token} {y z : List Open} {op : A → List Open} {ts us : List Token} {u : Stop} → (Fit z → Fit y) → ts ≡ us → Ending Q put y op ts u → Ending Q put z op us u
moved f s m = record { whole = m.whole; good = m.good; known = m.known; more = m.more; counts = m.counts; fit = λ i. m.fit (f i); long = m.long; read = m.read; fix = m.fix; parts = sym s ∙ m.parts; tokens = m.tokens }

pub here_filled : {A : Type 0} {x : List Token → List Token} {Q : A → Type 0} {put : A → List Token → List Token} {y : List Open} {op : A → List Open} (a : A) → Q a → ((ts : List Token) → put a ts ≡ x ts) → op a ≡ y → Filled x Q put y op
here_filled {A} {x} {Q} {put} {y} a g s c = record { whole = a; good = g; more = []; counts = c ∙ sym (append-nil y); fix = []; long = refl; tokens = s }

pub ends_gives : {A : Type 0} {x : List Token → List Token} {Q : A → Type 0} {put : A → List Token → List Token} {y : List Open} {op : A → List Open} (a : A) → Q a → ((ts : List Token) → put a ts ≡ x ts) → op a ≡ y → Ends x Q put y op (gives a)
ends_gives a g s c = record { fill = here_filled a g s c; is = λ ts u e. gives_err a ts u e }

pub ends_refuses : {A : Type 0} {x : List Token → List Token} {Q : A → Type 0} {put : A → List Token → List Token} {y : List Open} {op : A → List Open} → Ahead x → Filled x Q put y op → Ends x Q put y op (refuses {A = A})
ends_refuses {A} {x} h f = record { fill = f; is = λ ts u e. missing_end x h f (ap x (left_is {A = A} e)) }

both_long : (m n : List Open) (v w : List Token) → length m ≡ length v → length n ≡ length w → length (m ++ n) ≡ length (v ++ w)
both_long m n v w e i = (let a = length-append m n in let b = length-append v w in omega (arith, a, b, e, i))

inner_end : {A B : Type 0} {P : A → Type 0} {Q : B → Type 0} {front : A → List Token → List Token} {put : B → List Token → List Token} {c : List Open} {cop : A → List Open} {op : B → List Open} (x : List Token → List Token) → Ahead x → {us : List Token} {u : Stop} → (a : Ending P front c cop us u)
    → Filled (λ ts. x (front a.whole ts)) Q put (cop a.whole) op → Ending Q put c op (x us) u
inner_end {A} {B} {P} {Q} {front} {put} x h {us} {u} a b = record {
  whole = b.whole;
  good = b.good;
  known = a.known;
  more = a.more ++ b.more;
  counts = b.counts ∙ ap (λ (z : List Open). z ++ b.more) a.counts ∙ append_assoc a.known a.more b.more;
  fit = a.fit;
  read = x a.read;
  fix = a.fix ++ b.fix;
  long = both_long a.more b.more a.fix b.fix a.long b.long;
  parts = ap x a.parts ∙ h.is a.read u.1;
  tokens = λ v. b.tokens v ∙ ap x (a.tokens (b.fix ++ v)) ∙ ap (λ (w : List Token). x (a.read ++ w)) (sym (append_assoc a.fix b.fix v)) ∙ h.is a.read ((a.fix ++ b.fix) ++ v);
}

pub ends_after : {A B : Type 0} (x : List Token → List Token) {y : List Token → List Token} {P : A → Type 0} {front : A → List Token → List Token} {Q : B → Type 0} {put : B → List Token → List Token} {c : List Open} {cop : A → List Open} {op : B → List Open} {r : Reader A} {f : A → Reader B}
    → Ahead x → Sound y P front r → ((a : A) → P a → Ahead (front a)) → ((ts : List Token) (a : A) (us : List Token) → r ts ≡ Ok (a, us) → Fit c → Fit (cop a)) → Ends y P front c cop r
    → ((a : A) → P a → Ahead (λ ts. x (front a ts)) → Ends (λ ts. x (front a ts)) Q put (cop a) op (f a)) → Ends (λ ts. x (y ts)) Q put c op (r >>= f)
ends_after {A} {B} x {y} {P} {front} {Q} {put} {c} {cop} {op} {r} {f} hx s hf t m k = record {
  fill =
      (let a = m.fill in
      let b = (k a.whole a.good (then_ahead hx (hf a.whole a.good))).fill in
      record { whole = b.whole; good = b.good; more = a.more ++ b.more; counts = b.counts ∙ ap (λ (z : List Open). z ++ b.more) a.counts ∙ append_assoc c a.more b.more; fix = a.fix ++ b.fix; long = both_long a.more b.more a.fix b.fix a.long b.long; tokens = λ v. b.tokens v ∙ ap x (a.tokens (b.fix ++ v)) ∙ ap (λ (w : List Token). x (y w)) (sym (append_assoc a.fix b.fix v)) });
  is = λ ts u e.
      broken {A = A} {B = B} {R = Ending Q put c op (x (y ts)) u} {o = r ts} {f = f} {u = u} e
      (λ i. (let a = m.is ts u i in inner_end x hx a (k a.whole a.good (then_ahead hx (hf a.whole a.good))).fill))
      (λ a us i j. (let w = s.is ts a us i in moved (t ts a us i) (ap x w.1) ((k a w.0 (then_ahead hx (hf a w.0))).is us u j)));
}

pub ends_bind : {A B : Type 0} {x : List Token → List Token} {P : A → Type 0} {front : A → List Token → List Token} {Q : B → Type 0} {put : B → List Token → List Token} {c : List Open} {cop : A → List Open} {op : B → List Open} {r : Reader A} {f : A → Reader B}
    → Ahead x → Part P front c cop r → ((a : A) → P a → Ahead (λ ts. x (front a ts)) → Ends (λ ts. x (front a ts)) Q put (cop a) op (f a)) → Ends x Q put c op (r >>= f)
ends_bind {A} {B} {x} hx p k = ends_after x {y = before} hx p.sound p.ahead p.fits p.ends k

-- where a token comes
pub ends_then : {A B : Type 0} {p : Place} {k : TokenView} (x : List Token → List Token) {y : List Token → List Token} {P : A → Type 0} {front : A → List Token → List Token} {Q : B → Type 0} {put : B → List Token → List Token} {c : List Open} {cop : A → List Open} {op : B → List Open} {r : Reader A} {f : A → Reader B}
    → Ahead x → SoundAt p k y P front r → ((a : A) → P a → Ahead (front a)) → ((ts : List Token) → first ts ≡ token p k → (a : A) (us : List Token) → r ts ≡ Ok (a, us) → Fit c → Fit (cop a)) → EndsAt p k y P front c cop r
    → ((a : A) → P a → Ahead (λ ts. x (front a ts)) → Ends (λ ts. x (front a ts)) Q put (cop a) op (f a)) → EndsAt p k (λ ts. x (y ts)) Q put c op (r >>= f)
ends_then {A} {B} x {y} {P} {front} {Q} {put} {c} {cop} {op} {r} {f} hx s hf t m k = record {
  is = λ ts v u e.
      broken {A = A} {B = B} {R = Ending Q put c op (x (y ts)) u} {o = r ts} {f = f} {u = u} e
      (λ i. (let a = m.is ts v u i in inner_end x hx a (k a.whole a.good (then_ahead hx (hf a.whole a.good))).fill))
      (λ a us i j. (let w = s.is ts v a us i in moved (t ts v a us i) (ap x w.1) ((k a w.0 (then_ahead hx (hf a w.0))).is us u j)));
}

pub ends_next : {A : Type 0} {x : List Token → List Token} {Q : A → Type 0} {put : A → List Token → List Token} {y : List Open} {op : A → List Open} {f : Place → TokenView → Reader A} → Filled x Q put y op → ((p : Place) (k : TokenView) → EndsAt p k x Q put y op (f p k)) → Ends x Q put y op (by_next f)
ends_next c h = record { fill = c; is = λ ts u e. (h (first ts).place (first ts).kind).is ts refl u e }

pub ends_stays : {A : Type 0} {p : Place} {k : TokenView} {x : List Token → List Token} {Q : A → Type 0} {put : A → List Token → List Token} {y : List Open} {op : A → List Open} {r : Reader A} → Ends x Q put y op r → EndsAt p k x Q put y op r
ends_stays h = record { is = λ ts s u e. h.is ts u e }

pub ends_past : {A : Type 0} {p : Place} {k : TokenView} {x : List Token → List Token} {Q : A → Type 0} {put : A → List Token → List Token} {y : List Open} {op : A → List Open} {r : Reader A} (d : ℕ) → Sits d y → is_other k ≡ false → Ends (λ ts. x (token p k ∷ ts)) Q put (y ++ here d) op r → EndsAt p k x Q put y op (skip r)
ends_past {A} {p} {k} {x} {Q} {put} {y} d s o h = record { is = λ ts e u i. moved (λ f. fit_both y (here d) f (fit_here d (s.is f))) (ap x (seen ts p k e o)) (h.is (tail ts) u i) }

pub ends_opened : {A : Type 0} {p : Place} {k : TokenView} {x : List Token → List Token} {Q : A → Type 0} {put : A → List Token → List Token} {y : List Open} {op : A → List Open} {r : Reader A} (d : ℕ) → is_other k ≡ false → Ahead x → Filled x Q put y op → Ends (λ ts. x (token p k ∷ ts)) Q put (y ++ here d) op r
    → EndsAt p k x Q put y op (if_fits (nat_le d deepest_statement) (skip r))
ends_opened {A} {p} {k} {x} {Q} {put} {y} {op} {r} d o hx f h = by (nat_le d deepest_statement) refl
  where
    by : (b : Bool) → nat_le d deepest_statement ≡ b → EndsAt p k x Q put y op (if_fits b (skip r))
    by true e = ends_past d (record { is = λ i. e }) o h
    by false e = record { is = λ ts s u i. missing_end x hx f (ap x (deep_is {A = A} i)) }

pub ends_same : {A : Type 0} {p : Place} {k : TokenView} {x w : List Token → List Token} {Q : A → Type 0} {put : A → List Token → List Token} {y z : List Open} {op : A → List Open} {r : Reader A} → ((ts : List Token) → w ts ≡ x ts) → y ≡ z → EndsAt p k w Q put y op r → EndsAt p k x Q put z op r
ends_same e c h = record { is = λ ts s u o. moved (λ f. subst (λ (v : List Open). Fit v) (sym c) f) (e ts) (h.is ts s u o) }

abbrev pub AllEnd : {A : Type 0} → Place → (List Token → List Token) → (A → Type 0) → (A → List Token → List Token) → List Open → (A → List Open) → List (Word × Reader A) → Type 0
AllEnd p x Q put y op rs = All (λ w r. EndsAt p (tk.reserved w) x Q put y op r) rs

pub ends_pick : {A : Type 0} {p : Place} {x : List Token → List Token} {Q : A → Type 0} {put : A → List Token → List Token} {y : List Open} {op : A → List Open} (w : Word) (rs : List (Word × Reader A)) (d : Reader A)
    → AllEnd p x Q put y op rs → EndsAt p (tk.reserved w) x Q put y op d → EndsAt p (tk.reserved w) x Q put y op (pick w rs d)
ends_pick {A} {p} {x} {Q} {put} {y} {op} w rs d h i = pick_is (λ v r. EndsAt p (tk.reserved v) x Q put y op r) w rs d h i

-- ---- single tokens
took_left : {A : Type 0} (o : Option A) (ts : List Token) (u : Stop) → took o ts ≡ Err u → ts ≡ u.1
took_left (Some a) ts u e = absurd cc
took_left {A} None ts u e = left_is {A = A} e

pub ends_token : {A : Type 0} {y : List Open} (d : ℕ) → Sits d y → (f : Place → TokenView → Option A) (put : A → Token) (a : A) → Ends before Any (λ b ts. put b ∷ ts) y (λ b. y ++ here d) (past f)
ends_token {A} {y} d s f put a = record {
  fill = record { whole = a; good = tt; more = here d; counts = refl; fix = put a ∷ []; long = refl; tokens = λ v. refl };
  is = λ ts u e. record { whole = a; good = tt; known = y; more = here d; counts = refl; fit = λ i. i; read = []; fix = put a ∷ []; long = refl; parts = took_left (f (first ts).place (first ts).kind) ts u e; tokens = λ v. refl };
}

pub key_part : {y : List Open} (d : ℕ) → Sits d y → (w : Word) → Part Any (λ p. key p w) y (λ p. y ++ here d) (a_key w)
key_part d s w = record { sound = sound_key w; ahead = λ p u. put_ahead held; fits = fits_of (beside_key d s w); ends = ends_token d s (place_if (is_reserved w)) (λ p. token p (tk.reserved w)) nowhere }

pub mark_part : {y : List Open} (d : ℕ) → Sits d y → (m : Mark) → Part Any (λ p. mark p m) y (λ p. y ++ here d) (a_mark m)
mark_part d s m = record { sound = sound_mark m; ahead = λ p u. put_ahead held; fits = fits_of (beside_mark d s m); ends = ends_token d s (place_if (is_mark m)) (λ p. token p (tk.mark m)) nowhere }

pub name_part : {y : List Open} (d : ℕ) → Sits d y → Part Any name y (λ x. y ++ here d) a_name
name_part d s = record { sound = sound_name; ahead = λ x u. put_ahead held; fits = fits_of (beside_name d s); ends = ends_token d s name_of (λ x. token x.place (tk.word x.word)) (record { place = nowhere; word = 120 ∷ [] }) }

pub name_within_part : {y : List Open} (d : ℕ) → Part Any name y (λ x. y ++ here d) (name_within (nat_le d deepest_statement))
name_within_part {y} d = record { sound = sound_name_within (nat_le d deepest_statement); ahead = λ x u. put_ahead held; fits = fits_of (beside_name_within {x = y} d); ends = record { fill = some; is = by (nat_le d deepest_statement) } }
  where
    some : Filled before Any name y (λ x. y ++ here d)
    some = record { whole = record { place = nowhere; word = 120 ∷ [] }; good = tt; more = here d; counts = refl; fix = name (record { place = nowhere; word = 120 ∷ [] }) []; long = refl; tokens = λ v. refl }

    stop : (p : Place) (k : TokenView) (ts : List Token) (u : Stop) → name_if false p k ts ≡ Err u → ts ≡ u.1
    stop p (tk.word w) ts u e = deep_is {A = Name} e
    stop p k ts u e = left_is {A = Name} e

    by : (b : Bool) (ts : List Token) (u : Stop) → name_within b ts ≡ Err u → Ending Any name y (λ x. y ++ here d) ts u
    by true ts u e = missing_end (λ v. v) held some (took_left (name_of (first ts).place (first ts).kind) ts u e)
    by false ts u e = missing_end (λ v. v) held some (stop (first ts).place (first ts).kind ts u e)

-- ---- tokens of expressions, right of the edge
pub record EndsRight {A : Type 0} (p : Place) (k : TokenView) (x : List Token → List Token) (Q : A → Type 0) (put : A → List Token → List Token) (y : List Open) (op : A → List Open) (r : Reader A) : Type 0 where
  pub is : (ts : List Token) → next 0 ts ≡ token p k → (u : Stop) → r ts ≡ Err u → Ending Q put y op (x ts) u

pub ends_peek : {A : Type 0} {x : List Token → List Token} {Q : A → Type 0} {put : A → List Token → List Token} {y : List Open} {op : A → List Open} {f : Place → TokenView → Reader A} → Filled x Q put y op → ((p : Place) (k : TokenView) → EndsRight p k x Q put y op (f p k)) → Ends x Q put y op (peek 0 f)
ends_peek c h = record { fill = c; is = λ ts u e. (h (next 0 ts).place (next 0 ts).kind).is ts refl u e }

pub ends_in_place : {A : Type 0} {p : Place} {k : TokenView} {x : List Token → List Token} {Q : A → Type 0} {put : A → List Token → List Token} {y : List Open} {op : A → List Open} {r : Reader A} → Ends x Q put y op r → EndsRight p k x Q put y op r
ends_in_place h = record { is = λ ts s u e. h.is ts u e }

pub ends_right : {A : Type 0} {p : Place} {k : TokenView} {x : List Token → List Token} {Q : A → Type 0} {put : A → List Token → List Token} {y : List Open} {op : A → List Open} {r : Reader A} (o : Open) → (Fit y → is_within o ≡ true) → is_other k ≡ false
    → (Right 0 p → Ends (λ ts. x (token p k ∷ ts)) Q put (y ++ o ∷ []) op r) → EndsRight p k x Q put y op (skip r)
ends_right {A} {p} {k} {x} {Q} {put} {y} o s i h = record { is = λ ts e u j. (let v = edge.seen 0 ts p k e i in moved (fit_one y o s) (ap x v.1) ((h v.0).is (tail ts) u j)) }

pub right_part : {A : Type 0} {P : A → Type 0} {front : A → List Token → List Token} {y : List Open} {r : Reader A} (o : Open) → Sound before P front r → ((a : A) → Ahead (front a)) → Beside y (λ a. y ++ o ∷ []) r r → (a : A) → P a → (fix : List Token) → length fix ≡ 1 → ((v : List Token) → front a v ≡ fix ++ v)
    → ((ts : List Token) (u : Stop) → r ts ≡ Err u → ts ≡ u.1) → Part P front y (λ a. y ++ o ∷ []) r
right_part {A} {P} {front} {y} o s h b a g fix l t e = record {
  sound = s;
  ahead = λ c i. h c;
  fits = fits_of b;
  ends = record { fill = some; is = λ ts u i. missing_end (λ v. v) held some (e ts u i) };
}
  where
    some : Filled before P front y (λ c. y ++ o ∷ [])
    some = record { whole = a; good = g; more = o ∷ []; counts = refl; fix = fix; long = sym l; tokens = t }

-- the same counts in other words
pub ends_moved : {A : Type 0} {x : List Token → List Token} {Q : A → Type 0} {put : A → List Token → List Token} {y z : List Open} {op : A → List Open} {r : Reader A} → y ≡ z → Ends x Q put y op r → Ends x Q put z op r
ends_moved {A} {x} {Q} {put} {y} {z} {op} {r} e h = subst (λ (v : List Open). Ends x Q put v op r) e h
