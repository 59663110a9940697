-- What stands before a refused token can be gone on with, by few tokens that are told: how that goes from readers to those that are made of them.
use Rattle.std.proofs.Common.{◌≡◌, ℕ, suc, ◌+◌, ◌*◌, ◌≤◌, Bool, true, false, subst, List, [], ◌∷◌, ◌++◌, length, length-append, Option, Some, None, Ok, Err, if◌then◌else◌, refl, sym, ap, ◌∙◌, append_assoc, arith}
use Rattle.std.proofs.lemmas.List.{append-nil}
use Rattle.std.specs.Str.{bytes_eq}
use Rattle.tla_token.proofs.Spelled.{same_bytes}
use Rattle.tla_token.specs.declared.place.Place.{Place}
use Rattle.tla_token.specs.Places.{nowhere}
use Rattle.tla_token.specs.declared.rule.Rule.TheVariants.{Syntax}
use Rattle.tla_tree.specs.Tree.{Word}
use Rattle.tla_tree.specs.Lexical.{Mark, TokenView, Token, token}
use Rattle.tla_tree.specs.Lexical as tk
use Rattle.tla_tree.specs.Spelling.{Right, field_token}
use Rattle.tla_tree.specs.Reader.{Out, Stop, Reader, ◌>>=◌, then_read, gives, refuses, if_fits, skip, took, tail, next, peek, is_mark, place_if, word_of, field_of}
use Rattle.tla_tree.specs.FirstStop.{Open}
use Rattle.tla_tree.proofs.SpellAhead.{Ahead, held, put_ahead, then_ahead}
use Rattle.tla_tree.proofs.Mended.{left_is, refused_by, gives_err, right_after, mark_err, field_err, word_err, some_field}
use Rattle.tla_tree.specs.Wanted.{an_x, or_then}
use Rattle.tla_tree.specs.Wanted as wanted
use Rattle.tla_tree.proofs.SoundTokens as edge
use Rattle.tla_tree.specs.Reader as expression
use Rattle.pcal_tree.specs.GrammarParts.{name, key, mark, word}
use Rattle.pcal_tree.specs.OpenForms as form
use Rattle.syntax_reading.specs.TokenReaders.{first, by_next, past, is_reserved, name_of, a_key, a_mark, a_name, name_within, pick}
use Rattle.syntax_reading.specs.Missing.{Missing, then_misses, goes_on_missing, by_next_misses, peek_misses, past_misses, all_of, an_identifier}
use Rattle.syntax_reading.specs.Completes.{forms}
use Rattle.syntax_reading.proofs.Sound.{Sound, SoundAt, here, Any, is_other, seen, sound_key, sound_mark, sound_name, sound_mark_right, sound_field_right, sound_word_right}

-- ---- how many are enough
-- with b forms open around a part: none of its tokens is missing, or so many forms are open at the first that 16 for each of them, those around the part counted off, and c, are enough for the tokens that are missing
abbrev pub Suffice : ℕ → ℕ → List Open → ℕ → Type 0
Suffice b c [] l = Unit {0}
Suffice b c (o ∷ os) l = l + 16 * b ≤ 16 * forms o + c

-- of a part, told with what comes after it
suffice_with : (i n b c : ℕ) (ks : List Open) (l m : ℕ) → Suffice i n ks l → n + m + 16 * b ≤ c + 16 * i → Suffice b c ks (l + m)
suffice_with i n b c [] l m e h = tt
suffice_with i n b c (o ∷ ks) l m e h = omega (arith, e, h)

-- of both, where it is told of all that is missing
suffice_on : (b c : ℕ) (ka kb : List Open) (l : ℕ) → Suffice b c ka l → (ka ≡ [] → Suffice b c kb l) → Suffice b c (ka ++ kb) l
suffice_on b c [] kb l e f = f refl
suffice_on b c (o ∷ ka) kb l e f = e

none_missing : {ks : List Open} (ts : List Token) → ks ≡ [] → length ks ≡ length ts → ts ≡ []
none_missing [] e l = refl
none_missing {ks} (t ∷ ts) e l = (let m = ap length e in absurd (omega (arith, l, m)))

-- nothing comes after it that is told of
abbrev pub none : {A : Type 0} → A → List Token
none a = []

-- ---- what completes
-- tokens that complete what was read before, whose tokens are x and their counts y: with what is to come after the whole they are those that are told.
-- The counts of the whole end in those of the tokens that complete it
pub record Fill {A : Type 0} (x : List Token → List Token) (y : List Open) (Q : A → Type 0) (put : A → List Token → List Token) (counted : A → List Open) (rest : A → List Token) (b c : ℕ) (told : List Token) : Type 0 where
  pub whole : A
  pub good : Q whole
  pub fix : List Token
  pub tokens : (v : List Token) → put whole v ≡ x (fix ++ v)
  pub given : fix ++ rest whole ≡ told
  pub back : List Open
  pub opens : counted whole ≡ y ++ back
  pub long : length back ≡ length fix
  pub enough : Suffice b c back (length told)

-- tokens that were read from ts on up to a stop, by the rule of syntax, and tokens that complete them
pub record Mend {A : Type 0} (Q : A → Type 0) (put : A → List Token → List Token) (counted : A → List Open) (rest : A → List Token) (b c : ℕ) (told ts : List Token) (u : Stop) : Type 0 where
  pub rule : u.0 ≡ Syntax
  pub read : List Token
  pub parts : ts ≡ read ++ u.1
  pub front : List Open
  pub fill : Fill (λ v. read ++ v) front Q put counted rest b c told

-- what was read after them is mended where the reader refuses, by what it misses; and there is some whole
pub record Mends {A : Type 0} (x : List Token → List Token) (y : List Open) (Q : A → Type 0) (put : A → List Token → List Token) (counted : A → List Open) (rest : A → List Token) (b c : ℕ) (told : List Token) (n : Missing) (r : Reader A) : Type 0 where
  pub fill : Fill x y Q put counted rest b c told
  pub is : (ts : List Token) (u : Stop) → r ts ≡ Err u → Mend Q put counted rest b c (n ts) (x ts) u

pub record MendsAt {A : Type 0} (p : Place) (k : TokenView) (x : List Token → List Token) (y : List Open) (Q : A → Type 0) (put : A → List Token → List Token) (counted : A → List Open) (rest : A → List Token) (b c : ℕ) (n : Missing) (r : Reader A) : Type 0 where
  pub is : (ts : List Token) → first ts ≡ token p k → (u : Stop) → r ts ≡ Err u → Mend Q put counted rest b c (n ts) (x ts) u

-- a part that others begin with
pub record IsPart {A : Type 0} (P : A → Type 0) (front : A → List Token → List Token) (counts : A → List Open) (b c : ℕ) (told : List Token) (n : Missing) (r : Reader A) : Type 0 where
  pub sound : Sound here P front r
  pub ahead : (a : A) → P a → Ahead (front a)
  pub mends : Mends here [] P front counts none b c told n r

-- the same tokens, and the same counts, in other words
pub refilled : {A : Type 0} {Q : A → Type 0} {put : A → List Token → List Token} {counted : A → List Open} {rest : A → List Token} {b c : ℕ} {told : List Token} (x z : List Token → List Token) {y w : List Open} → ((ts : List Token) → z ts ≡ x ts) → w ≡ y → Fill z w Q put counted rest b c told → Fill x y Q put counted rest b c told
refilled x z e o f = record { whole = f.whole; good = f.good; fix = f.fix; tokens = λ v. f.tokens v ∙ e (f.fix ++ v); given = f.given; back = f.back; opens = f.opens ∙ ap (λ (ks : List Open). ks ++ f.back) o; long = f.long; enough = f.enough }

-- o forms are open at the first of the tokens fix, and what is after them is completed
pub onward : {A : Type 0} {Q : A → Type 0} {put : A → List Token → List Token} {counted : A → List Open} {rest : A → List Token} {b c : ℕ} {told : List Token} (x z : List Token → List Token) {y w : List Open} (fix : List Token) (o : Open) (os : List Open) → ((ts : List Token) → z ts ≡ x (fix ++ ts)) → w ≡ y ++ o ∷ os → suc (length os) ≡ length fix → length fix + length told + 16 * b ≤ 16 * forms o + c
    → Fill z w Q put counted rest b c told → Fill x y Q put counted rest b c (fix ++ told)
onward {rest = rest} {told = told} x z {y} fix o os e i l few f = record {
  whole = f.whole;
  good = f.good;
  fix = fix ++ f.fix;
  tokens = λ v. f.tokens v ∙ e (f.fix ++ v) ∙ ap x (sym (append_assoc fix f.fix v));
  given = append_assoc fix f.fix (rest f.whole) ∙ ap (λ (v : List Token). fix ++ v) f.given;
  back = (o ∷ os) ++ f.back;
  opens = f.opens ∙ ap (λ (ks : List Open). ks ++ f.back) i ∙ append_assoc y (o ∷ os) f.back;
  long = (let j = length-append (o ∷ os) f.back in let k = length-append fix f.fix in let n = f.long in omega (arith, j, k, n, l));
  enough = (let j = length-append fix told in omega (arith, j, few));
}

pub onto : {A : Type 0} {Q : A → Type 0} {put : A → List Token → List Token} {counted : A → List Open} {rest : A → List Token} {b c : ℕ} {told ts us : List Token} {u : Stop} → ts ≡ us → Mend Q put counted rest b c told ts u → Mend Q put counted rest b c told us u
onto s m = record { rule = m.rule; read = m.read; parts = sym s ∙ m.parts; front = m.front; fill = m.fill }

-- told in other words
told_as : {A : Type 0} {Q : A → Type 0} {put : A → List Token → List Token} {counted : A → List Open} {rest : A → List Token} {b c : ℕ} {told also ts : List Token} {u : Stop} → told ≡ also → Mend Q put counted rest b c told ts u → Mend Q put counted rest b c also ts u
told_as {A} {Q} {put} {counted} {rest} {b} {c} {told} {also} {ts} {u} e m = subst (λ (w : List Token). Mend Q put counted rest b c w ts u) e m

-- ---- a part, and what comes after it
-- what is missing of a part is told with what comes after it
fill_with : {A : Type 0} {x : List Token → List Token} {y : List Open} {P : A → Type 0} {front : A → List Token → List Token} {counts : A → List Open} {i n b c : ℕ} {part after : List Token} → n + length after + 16 * b ≤ c + 16 * i → Fill x y P front counts none i n part → Fill x y P front counts (λ a. after) b c (part ++ after)
fill_with {A} {x} {y} {P} {front} {counts} {i} {n} {b} {c} {part} {after} less f = record {
  whole = f.whole;
  good = f.good;
  fix = f.fix;
  tokens = f.tokens;
  given = ap (λ (w : List Token). w ++ after) (sym (append-nil f.fix) ∙ f.given);
  back = f.back;
  opens = f.opens;
  long = f.long;
  enough = subst (λ (l : ℕ). Suffice b c f.back l) (sym (length-append part after)) (suffice_with i n b c f.back (length part) (length after) f.enough less);
}

with_after : {A : Type 0} {P : A → Type 0} {front : A → List Token → List Token} {counts : A → List Open} {i n b c : ℕ} {part after ts : List Token} {u : Stop} → n + length after + 16 * b ≤ c + 16 * i → Mend P front counts none i n part ts u → Mend P front counts (λ a. after) b c (part ++ after) ts u
with_after less m = record { rule = m.rule; read = m.read; parts = m.parts; front = m.front; fill = fill_with less m.fill }

-- the part was completed, and the whole is completed after it
fill_on : {A B : Type 0} (x : List Token → List Token) (y : List Open) {z : List Token → List Token} {w : List Open} {P : A → Type 0} {front : A → List Token → List Token} {counts : A → List Open} {tell : A → List Token} {told : List Token} {Q : B → Type 0} {put : B → List Token → List Token} {counted : B → List Open} {rest : B → List Token} {b c : ℕ}
    → (a : Fill z w P front counts tell b c told) → Fill (λ ts. x (front a.whole ts)) (y ++ counts a.whole) Q put counted rest b c (tell a.whole) → Fill (λ ts. x (z ts)) (y ++ w) Q put counted rest b c told
fill_on x y {z} {tell = tell} {told = told} {rest = rest} {b = b} {c = c} a d = record {
  whole = d.whole;
  good = d.good;
  fix = a.fix ++ d.fix;
  tokens = λ v. d.tokens v ∙ ap x (a.tokens (d.fix ++ v)) ∙ ap (λ (v : List Token). x (z v)) (sym (append_assoc a.fix d.fix v));
  given = append_assoc a.fix d.fix (rest d.whole) ∙ ap (λ (v : List Token). a.fix ++ v) d.given ∙ a.given;
  back = a.back ++ d.back;
  opens = d.opens ∙ ap (λ (ks : List Open). (y ++ ks) ++ d.back) a.opens ∙ simp append_assoc refl;
  long = (let e = length-append a.back d.back in let j = length-append a.fix d.fix in let l = a.long in let o = d.long in omega (arith, e, j, l, o));
  enough = suffice_on b c a.back d.back (length told) a.enough (λ e. subst (λ (v : List Token). Suffice b c d.back (length v)) (ap (λ (v : List Token). v ++ tell a.whole) (sym (none_missing a.fix e a.long)) ∙ a.given) d.enough);
}

inside : {A B : Type 0} {P : A → Type 0} {front : A → List Token → List Token} {counts : A → List Open} {tell : A → List Token} {told : List Token} {Q : B → Type 0} {put : B → List Token → List Token} {counted : B → List Open} {rest : B → List Token} {b c : ℕ} (x : List Token → List Token) (y : List Open) → Ahead x → {us : List Token} {u : Stop} → (m : Mend P front counts tell b c told us u)
    → Fill (λ ts. x (front m.fill.whole ts)) (y ++ counts m.fill.whole) Q put counted rest b c (tell m.fill.whole) → Mend Q put counted rest b c told (x us) u
inside x y h {u = u} m d = record { rule = m.rule; read = x m.read; parts = ap x m.parts ∙ h.is m.read u.1; front = y ++ m.front; fill = refilled (λ v. x m.read ++ v) (λ v. x (m.read ++ v)) (λ v. h.is m.read v) refl (fill_on x y m.fill d) }

-- x was read, and the rest of the whole is missing
pub missing : {A : Type 0} {x : List Token → List Token} {y : List Open} {Q : A → Type 0} {put : A → List Token → List Token} {counted : A → List Open} {rest : A → List Token} {b c : ℕ} {told : List Token} → Ahead x → Fill x y Q put counted rest b c told → {ts : List Token} {u : Stop} → u.0 ≡ Syntax → ts ≡ x u.1 → Mend Q put counted rest b c told ts u
missing {A} {x} {y} h f {ts} {u} e s = record { rule = e; read = x []; parts = s ∙ h.is [] u.1; front = y; fill = refilled (λ v. x [] ++ v) x (λ v. h.is [] v) refl f }

-- the rule by which a reader refuses
pub rule_is : {A : Type 0} {ts : List Token} {u : Stop} → refuses {A = A} ts ≡ Err u → u.0 ≡ Syntax
rule_is {A} {ts} {u} e = (let i : ◌≡◌ {A = Stop} (Syntax, ts) u = cc in ap (λ (s : Stop). s.0) (sym i))

took_rule : {A : Type 0} (o : Option A) (ts : List Token) (u : Stop) → took o ts ≡ Err u → u.0 ≡ Syntax
took_rule (Some a) ts u e = absurd cc
took_rule {A} None ts u e = rule_is {A = A} e

-- it is so already
pub filled : {A : Type 0} {x : List Token → List Token} {y : List Open} {Q : A → Type 0} {put : A → List Token → List Token} {counted : A → List Open} {rest : A → List Token} {b c : ℕ} (a : A) → Q a → ((ts : List Token) → put a ts ≡ x ts) → counted a ≡ y → Fill x y Q put counted rest b c (rest a)
filled {A} {x} {y} a g s e = record { whole = a; good = g; fix = []; tokens = s; given = refl; back = []; opens = e ∙ sym (append-nil y); long = refl; enough = tt }

pub mends_gives : {A : Type 0} {x : List Token → List Token} {y : List Open} {Q : A → Type 0} {put : A → List Token → List Token} {counted : A → List Open} {rest : A → List Token} {b c : ℕ} {n : Missing} (a : A) → Q a → ((ts : List Token) → put a ts ≡ x ts) → counted a ≡ y → Mends x y Q put counted rest b c (rest a) n (gives a)
mends_gives a g s e = record { fill = filled a g s e; is = λ ts u i. gives_err a ts u i }

pub mends_refuses : {A : Type 0} {x : List Token → List Token} {y : List Open} {Q : A → Type 0} {put : A → List Token → List Token} {counted : A → List Open} {rest : A → List Token} {b c : ℕ} {told : List Token} → Ahead x → Fill x y Q put counted rest b c told → Mends x y Q put counted rest b c told (all_of told) (refuses {A = A})
mends_refuses {A} {x} h f = record { fill = f; is = λ ts u e. missing h f (rule_is {A = A} e) (ap x (left_is {A = A} e)) }

-- a part that is read after the tokens z of its own, with their counts w, and of which is told what comes after it too
pub mends_on : {A B : Type 0} (x : List Token → List Token) (y : List Open) {z : List Token → List Token} {w : List Open} {P : A → Type 0} {front : A → List Token → List Token} {counts : A → List Open} {tell : A → List Token} {told : List Token} {m : Missing} {r : Reader A} {Q : B → Type 0} {put : B → List Token → List Token} {counted : B → List Open} {rest : B → List Token} {b c : ℕ} {g : A → Missing} {f : A → Reader B} → Ahead x
    → Sound z P front r → ((a : A) → P a → Ahead (front a)) → Mends z w P front counts tell b c told m r
    → ((a : A) → P a → Ahead (λ ts. x (front a ts)) → Mends (λ ts. x (front a ts)) (y ++ counts a) Q put counted rest b c (tell a) (g a) (f a)) → Mends (λ ts. x (z ts)) (y ++ w) Q put counted rest b c told (goes_on_missing r m g) (r >>= f)
mends_on {A} {B} x y {z} {w} {P} {front} {counts} {tell} {told} {m} {r} {Q} {put} {counted} {rest} {b} {c} {g} {f} hx s hf h k = record {
  fill = (let a = h.fill in fill_on x y a (k a.whole a.good (then_ahead hx (hf a.whole a.good))).fill);
  is = λ ts u e.
      refused_by {A = A} {B = B} {ws = m ts} {g = g} {o = r ts} {f = f} {u = u} (λ v. Mend Q put counted rest b c v (x (z ts)) u) e
      (λ j. (let a = h.is ts u j in inside x y hx a (k a.fill.whole a.fill.good (then_ahead hx (hf a.fill.whole a.fill.good))).fill))
      (λ a us j l. (let v = s.is ts a us j in onto (ap x v.1) ((k a v.0 (then_ahead hx (hf a v.0))).is us u l)));
}

-- of which is told what completes it alone
pub mends_after : {A B : Type 0} (x : List Token → List Token) (y : List Open) {z : List Token → List Token} {w : List Open} {P : A → Type 0} {front : A → List Token → List Token} {counts : A → List Open} {i n : ℕ} {part : List Token} {m : Missing} {r : Reader A} {Q : B → Type 0} {put : B → List Token → List Token} {counted : B → List Open} {rest : B → List Token} {b c : ℕ} {after : List Token} {g : A → Missing} {f : A → Reader B} → Ahead x → Sound z P front r
    → ((a : A) → P a → Ahead (front a)) → Mends z w P front counts none i n part m r → n + length after + 16 * b ≤ c + 16 * i
    → ((a : A) → P a → Ahead (λ ts. x (front a ts)) → Mends (λ ts. x (front a ts)) (y ++ counts a) Q put counted rest b c after (g a) (f a)) → Mends (λ ts. x (z ts)) (y ++ w) Q put counted rest b c (part ++ after) (then_misses r m after g) (r >>= f)
mends_after x y {z} {w} hx s hf h less k = mends_on x y {z = z} {w = w} hx s hf (record { fill = fill_with less h.fill; is = λ ts u e. with_after less (h.is ts u e) }) k

-- a part that stands by itself
pub mends_bind : {A B : Type 0} {x : List Token → List Token} {y : List Open} {P : A → Type 0} {front : A → List Token → List Token} {counts : A → List Open} {i n : ℕ} {part : List Token} {m : Missing} {r : Reader A} {Q : B → Type 0} {put : B → List Token → List Token} {counted : B → List Open} {rest : B → List Token} {b c : ℕ} {after : List Token} {g : A → Missing} {f : A → Reader B} → Ahead x → IsPart P front counts i n part m r → n + length after + 16 * b ≤ c + 16 * i
    → ((a : A) → P a → Ahead (λ ts. x (front a ts)) → Mends (λ ts. x (front a ts)) (y ++ counts a) Q put counted rest b c after (g a) (f a)) → Mends x y Q put counted rest b c (part ++ after) (then_misses r m after g) (r >>= f)
mends_bind {A} {B} {x} {y} {P} {front} {counts} {i} {n} {part} {m} {r} {Q} {put} {counted} {rest} {b} {c} {after} {g} {f} hx p less k =
    subst (λ (ks : List Open). Mends x ks Q put counted rest b c (part ++ after) (then_misses r m after g) (r >>= f)) (append-nil y) (mends_after x y {z = here} {w = []} hx p.sound p.ahead p.mends less k)

-- a part that is all that is read
or_same : {A : Type 0} {w : List Token} (o : Out A) → or_then o w (λ a us. w) ≡ w
or_same (Ok x) = refl
or_same (Err u) = refl

pub mends_give_after : {A B : Type 0} (x : List Token → List Token) (y : List Open) {z : List Token → List Token} {w : List Open} {P : A → Type 0} {front : A → List Token → List Token} {counts : A → List Open} {i n : ℕ} {part : List Token} {m : Missing} {r : Reader A} {Q : B → Type 0} {put : B → List Token → List Token} {counted : B → List Open} {b c : ℕ} (f : A → B) → Ahead x → Sound z P front r
    → ((a : A) → P a → Ahead (front a)) → Mends z w P front counts none i n part m r → n + 16 * b ≤ c + 16 * i → ((a : A) → P a → Q (f a)) → ((a : A) (ts : List Token) → put (f a) ts ≡ x (front a ts)) → ((a : A) → counted (f a) ≡ y ++ counts a)
    → Mends (λ ts. x (z ts)) (y ++ w) Q put counted none b c part m (r >>= λ a. gives (f a))
mends_give_after {A} {B} x y {z} {w} {P} {front} {counts} {i} {n} {part} {m} {r} {Q} {put} {counted} {b} {c} f hx s hf h less good same opens =
    let done : (a : A) → P a → Fill (λ ts. x (front a ts)) (y ++ counts a) Q put counted none b c [] = λ a g. filled (f a) (good a g) (same a) (opens a) in
    let few : n + length {A = Token} [] + 16 * b ≤ c + 16 * i = omega (arith, less) in
    let all = mends_after x y {z = z} {w = w} {rest = none} {after = []} {g = λ a. all_of []} {f = λ a. gives (f a)} hx s hf h few (λ a g i. record { fill = done a g; is = λ ts u e. gives_err (f a) ts u e }) in
    record {
      fill = subst (λ (v : List Token). Fill (λ ts. x (z ts)) (y ++ w) Q put counted none b c v) (append-nil part) all.fill;
      is = λ ts u e.
          told_as (or_same (r ts))
          (refused_by {A = A} {B = B} {ws = m ts} {g = λ a us. m ts} {o = r ts} {f = λ a. gives (f a)} {u = u} (λ v. Mend Q put counted none b c v (x (z ts)) u) e
          (λ j. (let a = with_after {after = []} few (h.is ts u j) in told_as (append-nil (m ts)) (inside x y hx a (done a.fill.whole a.fill.good))))
          (λ a us j l. gives_err (f a) us u l));
    }

pub mends_give : {A B : Type 0} {x : List Token → List Token} {y : List Open} {P : A → Type 0} {front : A → List Token → List Token} {counts : A → List Open} {i n : ℕ} {part : List Token} {m : Missing} {r : Reader A} {Q : B → Type 0} {put : B → List Token → List Token} {counted : B → List Open} {b c : ℕ} (f : A → B) → Ahead x → IsPart P front counts i n part m r → n + 16 * b ≤ c + 16 * i
    → ((a : A) → P a → Q (f a)) → ((a : A) (ts : List Token) → put (f a) ts ≡ x (front a ts)) → ((a : A) → counted (f a) ≡ y ++ counts a) → Mends x y Q put counted none b c part m (r >>= λ a. gives (f a))
mends_give {A} {B} {x} {y} {P} {front} {counts} {i} {n} {part} {m} {r} {Q} {put} {counted} {b} {c} f hx p less good same opens =
    subst (λ (ks : List Open). Mends x ks Q put counted none b c part m (r >>= λ a. gives (f a))) (append-nil y) (mends_give_after x y {z = here} {w = []} f hx p.sound p.ahead p.mends less good same opens)

pub mends_next : {A : Type 0} {x : List Token → List Token} {y : List Open} {Q : A → Type 0} {put : A → List Token → List Token} {counted : A → List Open} {rest : A → List Token} {b c : ℕ} {told : List Token} {n : Place → TokenView → Missing} {f : Place → TokenView → Reader A} → Fill x y Q put counted rest b c told → ((p : Place) (k : TokenView) → MendsAt p k x y Q put counted rest b c (n p k) (f p k)) → Mends x y Q put counted rest b c told (by_next_misses n) (by_next f)
mends_next d h = record { fill = d; is = λ ts u e. (h (first ts).place (first ts).kind).is ts refl u e }

pub mends_stays : {A : Type 0} {p : Place} {k : TokenView} {x : List Token → List Token} {y : List Open} {Q : A → Type 0} {put : A → List Token → List Token} {counted : A → List Open} {rest : A → List Token} {b c : ℕ} {told : List Token} {n : Missing} {r : Reader A} → Mends x y Q put counted rest b c told n r → MendsAt p k x y Q put counted rest b c n r
mends_stays h = record { is = λ ts s u e. h.is ts u e }

-- past a token with this count
pub mends_past : {A : Type 0} {p : Place} {k : TokenView} {x : List Token → List Token} {y : List Open} {Q : A → Type 0} {put : A → List Token → List Token} {counted : A → List Open} {rest : A → List Token} {b c : ℕ} {told : List Token} {n : Missing} {r : Reader A} (one : List Open) → is_other k ≡ false → Mends (λ ts. x (token p k ∷ ts)) (y ++ one) Q put counted rest b c told n r → MendsAt p k x y Q put counted rest b c (past_misses n) (skip r)
mends_past {A} {p} {k} {x} one o h = record { is = λ ts s u e. onto (ap x (seen ts p k s o)) (h.is (tail ts) u e) }

-- and nothing comes after it
pub mends_done : {A : Type 0} {p : Place} {k : TokenView} {x : List Token → List Token} {y : List Open} {Q : A → Type 0} {put : A → List Token → List Token} {counted : A → List Open} {b c : ℕ} (one : List Open) (a : A) → is_other k ≡ false → Q a → ((ts : List Token) → put a ts ≡ x (token p k ∷ ts)) → counted a ≡ y ++ one → MendsAt p k x y Q put counted none b c (all_of []) (skip (gives a))
mends_done one a o g s e = record { is = λ ts t u i. gives_err a (tail ts) u i }

pub mends_fits : {A : Type 0} {p : Place} {k : TokenView} {x : List Token → List Token} {y : List Open} {Q : A → Type 0} {put : A → List Token → List Token} {counted : A → List Open} {rest : A → List Token} {b c : ℕ} {n : Missing} {r : Reader A} {fits : Bool} → fits ≡ true → MendsAt p k x y Q put counted rest b c n r → MendsAt p k x y Q put counted rest b c n (if_fits fits r)
mends_fits {A} {p} {k} {x} {y} {Q} {put} {counted} {rest} {b} {c} {n} {r} e h = subst (λ (z : Bool). MendsAt p k x y Q put counted rest b c n (if_fits z r)) (sym e) h

-- what words stand for, and what is missing there; of words of one kind of tokens
abbrev EachMend : {A : Type 0} → (Word → TokenView) → Place → (List Token → List Token) → List Open → (A → Type 0) → (A → List Token → List Token) → (A → List Open) → (A → List Token) → ℕ → ℕ → List (Word × Missing) → List (Word × Reader A) → Type 0
EachMend kind p x y Q put counted rest b c [] [] = Unit {0}
EachMend kind p x y Q put counted rest b c ((v, n) ∷ ns) ((w, r) ∷ rs) = (v ≡ w) × MendsAt p (kind w) x y Q put counted rest b c n r × EachMend kind p x y Q put counted rest b c ns rs
EachMend kind p x y Q put counted rest b c ns rs = ⊥

picked : {A : Type 0} (kind : Word → TokenView) {p : Place} {x : List Token → List Token} {y : List Open} {Q : A → Type 0} {put : A → List Token → List Token} {counted : A → List Open} {rest : A → List Token} {b c : ℕ} (w : Word) (ns : List (Word × Missing)) (rs : List (Word × Reader A)) {n : Missing} {d : Reader A} → EachMend kind p x y Q put counted rest b c ns rs → MendsAt p (kind w) x y Q put counted rest b c n d
    → MendsAt p (kind w) x y Q put counted rest b c (pick w ns n) (pick w rs d)
picked kind w [] [] h i = i
picked kind w [] (r ∷ rs) h i = absurd h
picked kind w (m ∷ ns) [] h i = absurd h
picked {A} kind {p} {x} {y} {Q} {put} {counted} {rest} {b} {c} w ((v, m) ∷ ns) ((z, r) ∷ rs) {n} {d} h i = rw (h.0) (by (bytes_eq z w) refl (picked kind w ns rs h.2 i))
  where
    by : (q : Bool) → bytes_eq z w ≡ q → MendsAt p (kind w) x y Q put counted rest b c (pick w ns n) (pick w rs d) → MendsAt p (kind w) x y Q put counted rest b c (if q then m else pick w ns n) (if q then r else pick w rs d)
    by true e o = subst (λ (u : Word). MendsAt p (kind u) x y Q put counted rest b c m r) (same_bytes z w e) h.1
    by false e o = o

abbrev pub AllMend : {A : Type 0} → Place → (List Token → List Token) → List Open → (A → Type 0) → (A → List Token → List Token) → (A → List Open) → (A → List Token) → ℕ → ℕ → List (Word × Missing) → List (Word × Reader A) → Type 0
AllMend = EachMend (λ w. tk.reserved w)

pub mends_pick : {A : Type 0} {p : Place} {x : List Token → List Token} {y : List Open} {Q : A → Type 0} {put : A → List Token → List Token} {counted : A → List Open} {rest : A → List Token} {b c : ℕ} (w : Word) (ns : List (Word × Missing)) (rs : List (Word × Reader A)) {n : Missing} {d : Reader A} → AllMend p x y Q put counted rest b c ns rs → MendsAt p (tk.reserved w) x y Q put counted rest b c n d
    → MendsAt p (tk.reserved w) x y Q put counted rest b c (pick w ns n) (pick w rs d)
mends_pick w ns rs h i = picked (λ v. tk.reserved v) w ns rs h i

pub mends_pick_word : {A : Type 0} {p : Place} {x : List Token → List Token} {y : List Open} {Q : A → Type 0} {put : A → List Token → List Token} {counted : A → List Open} {rest : A → List Token} {b c : ℕ} (w : Word) (ns : List (Word × Missing)) (rs : List (Word × Reader A)) {n : Missing} {d : Reader A} → EachMend (λ v. tk.word v) p x y Q put counted rest b c ns rs → MendsAt p (tk.word w) x y Q put counted rest b c n d
    → MendsAt p (tk.word w) x y Q put counted rest b c (pick w ns n) (pick w rs d)
mends_pick_word w ns rs h i = picked (λ v. tk.word v) w ns rs h i

-- ---- single tokens
past_err : {A : Type 0} (f : Place → TokenView → Option A) (ts : List Token) (u : Stop) → past f ts ≡ Err u → ts ≡ u.1
past_err {A} f ts u e = by (f (first ts).place (first ts).kind) e
  where
    by : (o : Option A) → took o ts ≡ Err u → ts ≡ u.1
    by (Some a) i = absurd cc
    by None i = left_is {A = A} i

-- one that is missing, where d forms of statements are open
one_missing : {A : Type 0} {Q : A → Type 0} (put : A → Token) (d : ℕ) (a : A) → Q a → Fill here [] Q (λ b ts. put b ∷ ts) (λ b. form.here d) none d 1 (put a ∷ [])
one_missing put d a g = record { whole = a; good = g; fix = put a ∷ []; tokens = λ v. refl; given = refl; back = form.here d; opens = refl; long = refl; enough = omega arith }

pub token_mends : {A : Type 0} (f : Place → TokenView → Option A) (put : A → Token) (d : ℕ) (a : A) → Mends here [] Any (λ b ts. put b ∷ ts) (λ b. form.here d) none d 1 (put a ∷ []) (all_of (put a ∷ [])) (past f)
token_mends f put d a = (let one = one_missing put d a tt in record { fill = one; is = λ ts u e. missing held one (took_rule (f (first ts).place (first ts).kind) ts u e) (past_err f ts u e) })

pub part_key : (d : ℕ) (w : Word) → IsPart Any (λ p. key p w) (λ p. form.here d) d 1 (key nowhere w []) (all_of (key nowhere w [])) (a_key w)
part_key d w = record { sound = sound_key w; ahead = λ p u. put_ahead held; mends = token_mends (place_if (is_reserved w)) (λ p. token p (tk.reserved w)) d nowhere }

pub part_mark : (d : ℕ) (m : Mark) → IsPart Any (λ p. mark p m) (λ p. form.here d) d 1 (mark nowhere m []) (all_of (mark nowhere m [])) (a_mark m)
part_mark d m = record { sound = sound_mark m; ahead = λ p u. put_ahead held; mends = token_mends (place_if (is_mark m)) (λ p. token p (tk.mark m)) d nowhere }

pub part_name : (d : ℕ) → IsPart Any name (λ x. form.here d) d 1 (an_identifier []) (all_of (an_identifier [])) a_name
part_name d = record { sound = sound_name; ahead = λ x u. put_ahead held; mends = token_mends name_of (λ x. token x.place (tk.word x.word)) d (record { place = nowhere; word = an_x }) }

pub part_name_within : {fits : Bool} (d : ℕ) → fits ≡ true → IsPart Any name (λ x. form.here d) d 1 (an_identifier []) (all_of (an_identifier [])) (name_within fits)
part_name_within d e = subst (λ (z : Bool). IsPart Any name (λ x. form.here d) d 1 (an_identifier []) (all_of (an_identifier [])) (name_within z)) (sym e) (part_name d)

-- where a token comes
pub mends_then : {A B : Type 0} {p : Place} {k : TokenView} (x : List Token → List Token) (y : List Open) {z : List Token → List Token} {w : List Open} {P : A → Type 0} {front : A → List Token → List Token} {counts : A → List Open} {i n : ℕ} {m : Missing} {r : Reader A} {Q : B → Type 0} {put : B → List Token → List Token} {counted : B → List Open} {rest : B → List Token} {b c : ℕ} {after : List Token} {g : A → Missing} {f : A → Reader B} → Ahead x → SoundAt p k z P front r
    → ((a : A) → P a → Ahead (front a)) → MendsAt p k z w P front counts none i n m r → n + length after + 16 * b ≤ c + 16 * i
    → ((a : A) → P a → Ahead (λ ts. x (front a ts)) → Mends (λ ts. x (front a ts)) (y ++ counts a) Q put counted rest b c after (g a) (f a)) → MendsAt p k (λ ts. x (z ts)) (y ++ w) Q put counted rest b c (then_misses r m after g) (r >>= f)
mends_then {A} {B} {p} {k} x y {z} {w} {P} {front} {counts} {i} {n} {m} {r} {Q} {put} {counted} {rest} {b} {c} {after} {g} {f} hx s hf h less t = record {
  is = λ ts o u e.
      refused_by {A = A} {B = B} {ws = m ts ++ after} {g = g} {o = r ts} {f = f} {u = u} (λ v. Mend Q put counted rest b c v (x (z ts)) u) e
      (λ j. (let a = with_after {after = after} less (h.is ts o u j) in inside x y hx a (t a.fill.whole a.fill.good (then_ahead hx (hf a.fill.whole a.fill.good))).fill))
      (λ a us j l. (let v = s.is ts o a us j in onto (ap x v.1) ((t a v.0 (then_ahead hx (hf a v.0))).is us u l)));
}

-- the same tokens, and the same counts, in other words
pub mends_same : {A : Type 0} {p : Place} {k : TokenView} {x : List Token → List Token} {y : List Open} {Q : A → Type 0} {put : A → List Token → List Token} {counted : A → List Open} {rest : A → List Token} {b c : ℕ} {z : List Token → List Token} {w : List Open} {n : Missing} {r : Reader A} → ((ts : List Token) → z ts ≡ x ts) → w ≡ y → MendsAt p k z w Q put counted rest b c n r → MendsAt p k x y Q put counted rest b c n r
mends_same e f h = record { is = λ ts s u o. onto (e ts) (h.is ts s u o) }

pub mends_moved : {A : Type 0} {x : List Token → List Token} {y : List Open} {Q : A → Type 0} {put : A → List Token → List Token} {counted : A → List Open} {rest : A → List Token} {b c : ℕ} {w : List Open} {told : List Token} {n : Missing} {r : Reader A} → w ≡ y → Mends x w Q put counted rest b c told n r → Mends x y Q put counted rest b c told n r
mends_moved {A} {x} {y} {Q} {put} {counted} {rest} {b} {c} {w} {told} {n} {r} e h = subst (λ (ks : List Open). Mends x ks Q put counted rest b c told n r) e h

-- ---- tokens of expressions, right of the edge
pub record MendsRight {A : Type 0} (p : Place) (k : TokenView) (x : List Token → List Token) (y : List Open) (Q : A → Type 0) (put : A → List Token → List Token) (counted : A → List Open) (rest : A → List Token) (b c : ℕ) (n : Missing) (r : Reader A) : Type 0 where
  pub is : (ts : List Token) → next 0 ts ≡ token p k → (u : Stop) → r ts ≡ Err u → Mend Q put counted rest b c (n ts) (x ts) u

pub mends_peek : {A : Type 0} {x : List Token → List Token} {y : List Open} {Q : A → Type 0} {put : A → List Token → List Token} {counted : A → List Open} {rest : A → List Token} {b c : ℕ} {told : List Token} {n : Place → TokenView → Missing} {f : Place → TokenView → Reader A} → Fill x y Q put counted rest b c told → ((p : Place) (k : TokenView) → MendsRight p k x y Q put counted rest b c (n p k) (f p k)) → Mends x y Q put counted rest b c told (peek_misses n) (peek 0 f)
mends_peek d h = record { fill = d; is = λ ts u e. (h (next 0 ts).place (next 0 ts).kind).is ts refl u e }

pub mends_in_place : {A : Type 0} {p : Place} {k : TokenView} {x : List Token → List Token} {y : List Open} {Q : A → Type 0} {put : A → List Token → List Token} {counted : A → List Open} {rest : A → List Token} {b c : ℕ} {told : List Token} {n : Missing} {r : Reader A} → Mends x y Q put counted rest b c told n r → MendsRight p k x y Q put counted rest b c n r
mends_in_place h = record { is = λ ts s u e. h.is ts u e }

pub mends_right : {A : Type 0} {p : Place} {k : TokenView} {x : List Token → List Token} {y : List Open} {Q : A → Type 0} {put : A → List Token → List Token} {counted : A → List Open} {rest : A → List Token} {b c : ℕ} {told : List Token} {n : Missing} {r : Reader A} (one : List Open) → is_other k ≡ false → (Right 0 p → Mends (λ ts. x (token p k ∷ ts)) (y ++ one) Q put counted rest b c told n r) → MendsRight p k x y Q put counted rest b c (past_misses n) (skip r)
mends_right {A} {p} {k} {x} one o h = record { is = λ ts s u e. (let v = edge.seen 0 ts p k s o in onto (ap x v.1) ((h v.0).is (tail ts) u e)) }

-- one of them that is missing, with this count
right_missing : {A : Type 0} {Q : A → Type 0} (put : A → Token) (o : Open) (d : ℕ) → d ≤ forms o → (a : A) → Q a → Fill here [] Q (λ b ts. put b ∷ ts) (λ b. o ∷ []) none d 1 (put a ∷ [])
right_missing put o d l a g = record { whole = a; good = g; fix = put a ∷ []; tokens = λ v. refl; given = refl; back = o ∷ []; opens = refl; long = refl; enough = omega (arith, l) }

pub part_mark_right : (o : Open) (d : ℕ) → d ≤ forms o → (m : Mark) → IsPart (Right 0) (λ p. mark p m) (λ p. o ∷ []) d 1 (wanted.mark_at 0 m ∷ []) (all_of (wanted.mark_at 0 m ∷ [])) (expression.a_mark 0 m)
part_mark_right o d l m =
    let one = right_missing (λ p. token p (tk.mark m)) o d l (wanted.after 0) (right_after 0) in
    record { sound = sound_mark_right m; ahead = λ p u. put_ahead held; mends = record { fill = one; is = λ ts u e. missing held one (took_rule (place_if (is_mark m) (next 0 ts).place (next 0 ts).kind) ts u e) (mark_err 0 m ts u e) } }

pub part_field_right : (d : ℕ) → IsPart (λ f. Right 0 f.place) field_token (λ f. form.here d) d 1 (wanted.word_at 0 ∷ []) (all_of (wanted.word_at 0 ∷ [])) (expression.a_field 0)
part_field_right d =
    let one : Fill here [] (λ f. Right 0 f.place) field_token (λ f. form.here d) none d 1 (wanted.word_at 0 ∷ []) = record { whole = some_field 0; good = right_after 0; fix = wanted.word_at 0 ∷ []; tokens = λ v. refl; given = refl; back = form.here d; opens = refl; long = refl; enough = omega arith } in
    record { sound = sound_field_right; ahead = λ f u. put_ahead held; mends = record { fill = one; is = λ ts u e. missing held one (took_rule (field_of (next 0 ts).place (next 0 ts).kind) ts u e) (field_err 0 ts u e) } }

pub part_word_right : (d : ℕ) → IsPart (λ (x : Place × Word). Right 0 x.0) (λ x. word x.0 x.1) (λ x. form.here d) d 1 (wanted.word_at 0 ∷ []) (all_of (wanted.word_at 0 ∷ [])) (expression.a_word 0)
part_word_right d =
    let one = right_missing (λ (x : Place × Word). token x.0 (tk.word x.1)) (record { expressions = 0; statements = d }) d (omega arith) (wanted.after 0, an_x) (right_after 0) in
    record { sound = sound_word_right; ahead = λ x u. put_ahead held; mends = record { fill = one; is = λ ts u e. missing held one (took_rule (word_of (next 0 ts).place (next 0 ts).kind) ts u e) (word_err 0 ts u e) } }
