-- What stands before a refused token can be gone on with: the claim for all readers, and how a part that is mended mends the whole.
use Rattle.std.proofs.Common.{◌≡◌, ◌⊎◌, ℕ, suc, ◌+◌, subst, inl, inr, nat_lt, Bool, true, false, List, [], ◌∷◌, ◌++◌, Option, Some, None, Ok, Err, refl, sym, ap, ◌∙◌, append_assoc, arith}
use Rattle.std.proofs.lemmas.Bool.{lt-ltb}
use Rattle.std.proofs.lemmas.List.{append-nil}
use Rattle.tla_token.specs.declared.place.Place.{Place}
use Rattle.tla_tree.specs.declared.op.Op.{Op}
use Rattle.tla_token.specs.declared.rule.Rule.TheVariants.{TooDeep, Syntax}
use Rattle.tla_tree.specs.Tree.{Word}
use Rattle.tla_tree.specs.Rank.{is_bullet}
use Rattle.tla_tree.specs.Lexical.{Mark, Key, TokenView, Token}
use Rattle.tla_tree.specs.Spelling.{applied, is_above, infix_of}
use Rattle.tla_tree.specs.Spelling.{Field, Phrase, number, Binds, last_bind, Path, path_end, at_field, Bullets}
use Rattle.tla_tree.specs.Spelling.{word, field_token, spell, spell_all, spell_binds, spell_fields, spell_settings, spell_path, spell_bullets, spell_arms, spell_locals, Right, Good, GoodAll, GoodBinds, GoodFields, GoodSettings, GoodPath, GoodBullets, GoodArms, GoodLocals, head, is_primary, is_short, first_bullet, is_some_path}
use Rattle.tla_tree.specs.declared.op.Op.TheVariants as op
use Rattle.tla_tree.specs.Nesting.{chain, counts, counts_all, counts_binds, counts_fields, counts_settings, counts_path, counts_bullets, counts_arms, counts_locals}
use Rattle.tla_tree.specs.Reader.{Stop, refuses, too_deep, if_fits, read_by, opened, within, Room, bullet_of, behind, is_behind_in, element, Out, Reader, then_read, next, took, take, place_if, is_mark, is_key, is_sign, word_of, field_of, a_mark, a_key, a_sign, a_word, a_field, gives, ended, Context, fits, Readers}
use Rattle.tla_tree.specs.Wanted.{after, an_x, Wants, completing, around, Need, or_then, need_by, need_opened}
use Rattle.tla_tree.specs.Needs.{Needs}
use Rattle.tla_tree.proofs.DeepCounts as cnt
use Rattle.tla_tree.proofs.SpellAhead.{Ahead, held, put_ahead, then_ahead}
use Rattle.tla_tree.proofs.SoundForms.{is_infix}
use Rattle.tla_tree.proofs.MendedCounts.{Cut, Few, cut_inside, cut_front}
use Rattle.tla_tree.proofs.LimitedSets.{plain_element, above_element, left_element}
use Rattle.tla_tree.proofs.LimitedRooms.{Alive, AreLimited, ReadersFit, IsRoom, inner_room}
use Rattle.tla_tree.proofs.ReadWithin.{Small}

-- ---- phrases that can be put anywhere to the right of the edge
pub right_after : (e : ℕ) → Right e (after e)
right_after e = lt-ltb e (suc e) (omega arith)

abbrev pub some : ℕ → Phrase
some e = number (after e) 0

abbrev pub some_bind : ℕ → Binds
some_bind e = last_bind (after e) an_x (after e) (some e)

abbrev pub some_field : ℕ → Field
some_field e = record { place = after e; is_reserved = false; text = an_x }

abbrev pub some_path : ℕ → Path
some_path e = at_field (after e) (some_field e) path_end

-- ---- the tokens of what is wanted round some wants
pub completing_around : (ws : Wants) (close : List Token) → completing ws ++ close ≡ completing (around ws close)
completing_around ws [] = append-nil (completing ws)
completing_around ws (t ∷ close) = by ws
  where
    by : (ws : Wants) → completing ws ++ t ∷ close ≡ completing (ws ++ (t ∷ close) ∷ [])
    by [] = sym (append-nil (t ∷ close))
    by (w ∷ ws) = append_assoc w (completing ws) (t ∷ close) ∙ ap (λ (v : List Token). w ++ v) (by ws)

-- ---- tokens that were read from ts on up to u, and tokens that complete them to a whole that fits: without a limit those that are wanted there
pub record Mend {A : Type 0} (lim : Bool) (ws : Wants) (F : A → Type 0) (K : A → List Token → Type 0) (Q : A → Type 0) (put : A → List Token → List Token) (ts u : List Token) : Type 0 where
  pub whole : A
  pub good : Q whole
  pub fits : F whole
  pub read : List Token
  pub fix : List Token
  pub few : K whole fix
  pub given : lim ≡ false → fix ≡ completing ws
  pub parts : ts ≡ read ++ u
  pub tokens : (v : List Token) → put whole v ≡ read ++ (fix ++ v)

-- x was read before a part that is mended, and the whole is completed after it
pub inside : {A B : Type 0} {lim : Bool} {ws : Wants} {F Q : A → Type 0} {K : A → List Token → Type 0} {L : B → List Token → Type 0} {H R : B → Type 0} {put : A → List Token → List Token} {puts : B → List Token → List Token} (x : List Token → List Token) → Ahead x → (close : List Token) → {ts us u : List Token}
    → (m : Mend lim ws F K Q put us u) → (b : B) → R b → H b → (K m.whole m.fix → L b (m.fix ++ close)) → ((v : List Token) → puts b v ≡ x (put m.whole (close ++ v))) → ts ≡ x us → Mend lim (around ws close) H L R puts ts u
inside {A} {B} {lim} {ws} x h close m b g f k e s = record {
  whole = b;
  good = g;
  fits = f;
  read = x m.read;
  fix = m.fix ++ close;
  few = k m.few;
  given = λ z. ap (λ (v : List Token). v ++ close) (m.given z) ∙ completing_around ws close;
  parts = s ∙ ap x m.parts ∙ h.is m.read _;
  tokens = λ v. e v ∙ ap x (m.tokens (close ++ v)) ∙ ap (λ (w : List Token). x (m.read ++ w)) (sym (append_assoc m.fix close v)) ∙ h.is m.read ((m.fix ++ close) ++ v);
}

-- x was read, and the rest of the whole is missing
pub missing : {B : Type 0} {lim : Bool} {L : B → List Token → Type 0} {H R : B → Type 0} {puts : B → List Token → List Token} (x : List Token → List Token) → Ahead x → (fix : List Token) → {ts u : List Token}
    → (b : B) → R b → H b → L b fix → ((v : List Token) → puts b v ≡ x (fix ++ v)) → ts ≡ x u → Mend lim (around [] fix) H L R puts ts u
missing x h fix {ts} {u} b g f k e s = record {
  whole = b;
  good = g;
  fits = f;
  read = x [];
  fix = fix;
  few = k;
  given = λ z. completing_around [] fix;
  parts = s ∙ h.is [] u;
  tokens = λ v. e v ∙ h.is [] (fix ++ v);
}

pub better : {A : Type 0} {lim : Bool} {ws : Wants} {K L : A → List Token → Type 0} {F H Q R : A → Type 0} {put : A → List Token → List Token} {ts u : List Token} → ((a : A) → Q a → R a) → ((a : A) → F a → H a) → ((a : A) (fix : List Token) → Q a → K a fix → L a fix) → Mend lim ws F K Q put ts u → Mend lim ws H L R put ts u
better h i j m = record { whole = m.whole; good = h m.whole m.good; fits = i m.whole m.fits; read = m.read; fix = m.fix; few = j m.whole m.fix m.good m.few; given = m.given; parts = m.parts; tokens = m.tokens }

pub onto : {A : Type 0} {lim : Bool} {ws : Wants} {K : A → List Token → Type 0} {F Q : A → Type 0} {put : A → List Token → List Token} {ts us u : List Token} → ts ≡ us → Mend lim ws F K Q put ts u → Mend lim ws F K Q put us u
onto s m = record { whole = m.whole; good = m.good; fits = m.fits; read = m.read; fix = m.fix; few = m.few; given = m.given; parts = sym s ∙ m.parts; tokens = m.tokens }

-- other wants, where there is a limit
pub regive : {A : Type 0} {lim : Bool} {ws vs : Wants} {K : A → List Token → Type 0} {F Q : A → Type 0} {put : A → List Token → List Token} {ts u : List Token} → (lim ≡ false → ws ≡ vs) → Mend lim ws F K Q put ts u → Mend lim vs F K Q put ts u
regive e m = record { whole = m.whole; good = m.good; fits = m.fits; read = m.read; fix = m.fix; few = m.few; given = λ z. m.given z ∙ ap completing (e z); parts = m.parts; tokens = m.tokens }

pub not_both : {R : Type 0} {lim : Bool} → lim ≡ true → lim ≡ false → R
not_both {R} {lim} l z = absurd cc

-- ---- refusals
pub left_is : {A : Type 0} {ts : List Token} {u : Stop} → refuses {A = A} ts ≡ Err u → ts ≡ u.1
left_is {A} {ts} {u} e = (let i : ◌≡◌ {A = Stop} (Syntax, ts) u = cc in ap (λ (s : Stop). s.1) i)

abbrev stopped : {A : Type 0} → Stop → Out A
stopped u = Err u

pub deep_is : {A : Type 0} {ts : List Token} {u : Stop} → too_deep {A = A} ts ≡ Err u → ts ≡ u.1
deep_is {A} {ts} {u} e = (let i : ◌≡◌ {A = Stop} (TooDeep, ts) u = cc in ap (λ (s : Stop). s.1) i)

-- if it fits, and else refused there
pub fits_err : {A R : Type 0} (b : Bool) (f : Reader A) (ts : List Token) (u : Stop) → if_fits b f ts ≡ Err u → (ts ≡ u.1 → R) → (f ts ≡ Err u → R) → R
fits_err true f ts u o here inner = inner o
fits_err {A} false f ts u o here inner = here (deep_is {A = A} o)

-- the first is refused, or it is read and what follows is refused
pub broken : {A B : Type 0} {R : Type 0} {o : Out A} {f : A → Reader B} {u : Stop} → then_read o f ≡ Err u → (o ≡ Err u → R) → ((a : A) (ts : List Token) → o ≡ Ok (a, ts) → f a ts ≡ Err u → R) → R
broken {A} {B} {R} {o} {f} {u} e h k = at o e h k
  where
    at : (o : Out A) → then_read o f ≡ Err u → (o ≡ Err u → R) → ((a : A) (ts : List Token) → o ≡ Ok (a, ts) → f a ts ≡ Err u → R) → R
    at (Ok x) e h k = k x.0 x.1 refl e
    at (Err w) e h k = h (let i : w ≡ u = cc in ap (λ (z : Stop). stopped {A = A} z) i)

-- the same of a claim about what is told of both
pub refused_by : {A B W : Type 0} {ws : W} {g : A → List Token → W} {o : Out A} {f : A → Reader B} {u : Stop} (R : W → Type 0) → then_read o f ≡ Err u → (o ≡ Err u → R ws) → ((a : A) (ts : List Token) → o ≡ Ok (a, ts) → f a ts ≡ Err u → R (g a ts)) → R (or_then o ws g)
refused_by {A} {B} {W} {ws} {g} {o} {f} {u} R e h k = at o e h k
  where
    at : (o : Out A) → then_read o f ≡ Err u → (o ≡ Err u → R ws) → ((a : A) (ts : List Token) → o ≡ Ok (a, ts) → f a ts ≡ Err u → R (g a ts)) → R (or_then o ws g)
    at (Ok x) e h k = k x.0 x.1 refl e
    at (Err w) e h k = h (let i : w ≡ u = cc in ap (λ (z : Stop). stopped {A = A} z) i)

pub refused_part : {A B C : Type 0} {lim : Bool} {ws : Wants} {g : A → Need} {K : C → List Token → Type 0} {F Q : C → Type 0} {put : C → List Token → List Token} {ss v : List Token} {o : Out A} {f : A → Reader B} {u : Stop} → then_read o f ≡ Err u
    → (o ≡ Err u → Mend lim ws F K Q put ss v) → ((a : A) (ts : List Token) → o ≡ Ok (a, ts) → f a ts ≡ Err u → Mend lim (g a ts) F K Q put ss v) → Mend lim (or_then o ws g) F K Q put ss v
refused_part {A} {B} {C} {lim} {ws} {g} {K} {F} {Q} {put} {ss} {v} e h k = refused_by (λ (w : Wants). Mend lim w F K Q put ss v) e h k

took_err : {A : Type 0} (o : Option A) (ts : List Token) (u : Stop) → took o ts ≡ Err u → ts ≡ u.1
took_err (Some a) ts u e = absurd cc
took_err {A} None ts u e = left_is {A = A} e

pub no_take : {A R : Type 0} (e : ℕ) (f : Place → TokenView → Option A) (ts : List Token) (a : A) (u : Stop) → f (next e ts).place (next e ts).kind ≡ Some a → take e f ts ≡ Err u → R
no_take {A} {R} e f ts a u at i = by (f (next e ts).place (next e ts).kind) at i
  where
    by : (o : Option A) → o ≡ Some a → took o ts ≡ Err u → R
    by (Some b) at i = absurd cc
    by None at i = absurd cc

pub take_err : {A : Type 0} (e : ℕ) (f : Place → TokenView → Option A) (ts : List Token) (u : Stop) → take e f ts ≡ Err u → ts ≡ u.1
take_err e f ts u i = took_err (f (next e ts).place (next e ts).kind) ts u i

pub mark_err : (e : ℕ) (m : Mark) (ts : List Token) (u : Stop) → a_mark e m ts ≡ Err u → ts ≡ u.1
mark_err e m ts u i = take_err e (place_if (is_mark m)) ts u i

pub key_err : (e : ℕ) (k : Key) (ts : List Token) (u : Stop) → a_key e k ts ≡ Err u → ts ≡ u.1
key_err e k ts u i = take_err e (place_if (is_key k)) ts u i

pub sign_err : (e : ℕ) (o : Op) (ts : List Token) (u : Stop) → a_sign e o ts ≡ Err u → ts ≡ u.1
sign_err e o ts u i = take_err e (place_if (is_sign o)) ts u i

pub word_err : (e : ℕ) (ts : List Token) (u : Stop) → a_word e ts ≡ Err u → ts ≡ u.1
word_err e ts u i = take_err e word_of ts u i

pub field_err : (e : ℕ) (ts : List Token) (u : Stop) → a_field e ts ≡ Err u → ts ≡ u.1
field_err e ts u i = take_err e field_of ts u i

pub gives_err : {A : Type 0} {R : Type 0} (a : A) (ts : List Token) (u : Stop) → gives a ts ≡ Err u → R
gives_err {A} {R} a ts u i = absurd cc

pub ended_err : {A : Type 0} (e : ℕ) (m : Mark) (f : Place → A) (ts : List Token) (u : Stop) → ended e m f ts ≡ Err u → ts ≡ u.1
ended_err e m f ts u o = broken o (λ i. mark_err e m ts u i) (λ p us i j. gives_err (f p) us u j)

-- ---- the claim
abbrev pub Fits : Context → ℕ → Phrase → Type 0
Fits c e a = Good e a × (fits c a ≡ true)

abbrev pub Prime : ℕ → Phrase → Type 0
Prime e a = Good e a × (is_primary (head a) ≡ true)

abbrev pub Brief : ℕ → Phrase → Type 0
Brief e a = Good e a × (is_short a ≡ true)

abbrev pub SomePath : ℕ → Path → Type 0
SomePath e path = GoodPath e path × (is_some_path path ≡ true)

abbrev pub Listed : ℕ → ℕ → Bullets → Type 0
Listed e c bs = GoodBullets c bs × Right e (first_bullet bs)

-- as a set for x, and as an element
abbrev pub FewBoth : Place → Word → Place → Phrase → List Token → Type 0
FewBoth p x q a fix = Few counts 1 a fix × ((c : Phrase) → element p x q a ≡ Some c → Few counts 1 c fix)

-- what is no infix form is all to the right of `\in`
pub plain_few : (p : Place) (x : Word) (q : Place) (a : Phrase) → is_infix a ≡ false → (fix : List Token) → Few counts 1 a fix → FewBoth p x q a fix
plain_few p x q a n fix k = (k, λ c i m. subst (λ (d : Phrase). Cut (counts m d) m 1 fix) (plain_element p x q a c n i) (cut_front (λ u. m ∷ (m + 0 + 1) ∷ u) (put_ahead (put_ahead held)) (λ u. refl) (omega arith) fix (k (m + 0 + 1))))

-- an operator, and what is after it
pub infix_few : (p : Place) (x : Word) (q : Place) (b : Phrase) (t : Place) (o : Op) (w : Phrase) (fix : List Token) → Few counts 1 w fix → FewBoth p x q (infix_of b t o w) (fix ++ [])
infix_few p x q b t o w fix k = (at b, λ c i. by (is_above op.In (applied o)) refl c i)
  where
    at : (b : Phrase) → Few counts 1 (infix_of b t o w) (fix ++ [])
    at b n = cut_inside (λ u. counts n b ((n + chain b + 1) ∷ u)) (then_ahead (cnt.ahead_counts n b) (put_ahead held)) (λ u. u) [] (λ u. refl) (λ u. omega arith) (inl (refl, λ u. refl)) (omega arith) fix (k (n + chain b + 1))

    by : (z : Bool) → is_above op.In (applied o) ≡ z → (c : Phrase) → element p x q (infix_of b t o w) ≡ Some c → Few counts 1 c (fix ++ [])
    by true z c i m = subst (λ (d : Phrase). Cut (counts m d) m 1 (fix ++ [])) (above_element p x q b t o w c z i) (cut_front (λ u. m ∷ (m + 0 + 1) ∷ u) (put_ahead (put_ahead held)) (λ u. refl) (omega arith) (fix ++ []) (at b (m + 0 + 1)))
    by false z c i m = (let e = left_element p x q b t o w c z i in subst (λ (d : Phrase). Cut (counts m d) m 1 (fix ++ [])) e.3 (at e.0 m))

pub record Mends (lim : Bool) (most base : ℕ) (r : Readers) (n : Needs) : Type 0 where
  pub expr : (e : ℕ) (c : Context) → is_behind_in c ≡ false → (ts : List Token) (u : Stop) → r.expr e c ts ≡ Err u → Mend lim (n.expr e c ts) (Small lim most (counts base)) (Few counts 1) (Fits c e) spell ts u.1
  pub set : (e : ℕ) (p : Place) (x : Word) (q : Place) (ts : List Token) (u : Stop) → r.expr e (behind p x q) ts ≡ Err u → Mend lim (n.expr e (behind p x q) ts) (Alive true lim most base p x q) (FewBoth p x q) (Good e) spell ts u.1
  pub short : (e : ℕ) (ts : List Token) (u : Stop) → r.short e ts ≡ Err u → Mend lim (n.short e ts) (Small lim most (counts base)) (Few counts 1) (Brief e) spell ts u.1
  pub postfix : (e : ℕ) (b : Phrase) → Good e b → is_primary (head b) ≡ true → Small lim most (counts base) b → (ts : List Token) (u : Stop) → r.postfix e b ts ≡ Err u → Mend lim (n.postfix e b ts) (Small lim most (counts base)) (Few counts 1) (Prime e) spell (spell b ts) u.1
  pub climb : (e : ℕ) (c : Context) → is_behind_in c ≡ false → (b : Phrase) → Good e b → fits c b ≡ true → Small lim most (counts base) b → (ts : List Token) (u : Stop) → r.climb e c b ts ≡ Err u → Mend lim (n.climb e c b ts) (Small lim most (counts base)) (Few counts 1) (Fits c e) spell (spell b ts) u.1
  pub climb_set : (e : ℕ) (p : Place) (x : Word) (q : Place) (b : Phrase) → Good e b → Alive true lim most base p x q b → (ts : List Token) (u : Stop) → r.climb e (behind p x q) b ts ≡ Err u → Mend lim (n.climb e (behind p x q) b ts) (Alive true lim most base p x q) (FewBoth p x q) (Good e) spell (spell b ts) u.1
  pub phrases : (e : ℕ) (ts : List Token) (u : Stop) → r.phrases e ts ≡ Err u → Mend lim (n.phrases e ts) (Small lim most (counts_all base)) (Few counts_all 1) (GoodAll e) spell_all ts u.1
  pub binds : (e : ℕ) (p : Place) (x : Word) → Right e p → (ts : List Token) (u : Stop) → r.binds e p x ts ≡ Err u → Mend lim (n.binds e p x ts) (Small lim most (counts_binds base)) (Few counts_binds 3) (GoodBinds e) spell_binds (word p x ts) u.1
  pub fields : (e : ℕ) (m : Mark) (f : Field) → Right e f.place → (ts : List Token) (u : Stop) → r.fields e m f ts ≡ Err u → Mend lim (n.fields e m f ts) (Small lim most (counts_fields base)) (Few counts_fields 3) (GoodFields e) (spell_fields m) (field_token f ts) u.1
  pub settings : (e : ℕ) (ts : List Token) (u : Stop) → r.settings e ts ≡ Err u → Mend lim (n.settings e ts) (Small lim most (counts_settings base)) (Few counts_settings 5) (GoodSettings e) spell_settings ts u.1
  pub path : (e : ℕ) (ts : List Token) (u : Stop) → r.path e ts ≡ Err u → Mend lim (n.path e ts) (Small lim most (counts_path base)) (Few counts_path 2) (SomePath e) spell_path ts u.1
  -- at the first bullet, where there is a limit, or after it
  pub bullets : (e : ℕ) (o : Op) (c : ℕ) → is_bullet o ≡ true → nat_lt e c ≡ true → (ts : List Token) (p : Place) → bullet_of o c (next e ts).place (next e ts).kind ≡ Some p → (u : Stop) → r.bullets e o c ts ≡ Err u → ((lim ≡ true) × (ts ≡ u.1)) ⊎ Mend lim (n.bullets e o c ts) (Small lim most (counts_bullets base)) (Few counts_bullets 1) (Listed e c) (spell_bullets o) ts u.1
  pub arms : (e : ℕ) (ts : List Token) (u : Stop) → r.arms e ts ≡ Err u → Mend lim (n.arms e ts) (Small lim most (counts_arms base)) (Few counts_arms 3) (GoodArms e) spell_arms ts u.1
  pub locals : (e : ℕ) (ts : List Token) (u : Stop) → r.locals e ts ≡ Err u → Mend lim (n.locals e ts) (Small lim most (counts_locals base)) (Few counts_locals 3) (GoodLocals e) spell_locals ts u.1

-- where there is a limit, they are mended with any wants
pub any_needs : (most base : ℕ) (r : Readers) (n w : Needs) → Mends true most base r n → Mends true most base r w
any_needs most base r n w h = record {
  expr = λ e c b ts u o. regive (λ z. absurd cc) (h.expr e c b ts u o);
  set = λ e p x q ts u o. regive (λ z. absurd cc) (h.set e p x q ts u o);
  short = λ e ts u o. regive (λ z. absurd cc) (h.short e ts u o);
  postfix = λ e b g i f ts u o. regive (λ z. absurd cc) (h.postfix e b g i f ts u o);
  climb = λ e c k b g i f ts u o. regive (λ z. absurd cc) (h.climb e c k b g i f ts u o);
  climb_set = λ e p x q b g f ts u o. regive (λ z. absurd cc) (h.climb_set e p x q b g f ts u o);
  phrases = λ e ts u o. regive (λ z. absurd cc) (h.phrases e ts u o);
  binds = λ e p x g ts u o. regive (λ z. absurd cc) (h.binds e p x g ts u o);
  fields = λ e m f g ts u o. regive (λ z. absurd cc) (h.fields e m f g ts u o);
  settings = λ e ts u o. regive (λ z. absurd cc) (h.settings e ts u o);
  path = λ e ts u o. regive (λ z. absurd cc) (h.path e ts u o);
  bullets = λ e o c b g ts p at u i. elim (h.bullets e o c b g ts p at u i) [ inl d ↦ inl d | inr m ↦ inr (regive (λ z. absurd cc) m) ];
  arms = λ e ts u o. regive (λ z. absurd cc) (h.arms e ts u o);
  locals = λ e ts u o. regive (λ z. absurd cc) (h.locals e ts u o);
}

-- as a set for x, or where there is a limit maybe as an element alone
abbrev pub AliveFirst : Bool → ℕ → ℕ → Place → Word → Place → Phrase → Type 0
AliveFirst lim most k p x q a = Small lim most (counts k) a ⊎ ((lim ≡ true) × (c : Phrase) × (element p x q a ≡ Some c) × Small lim most (counts k) c)

pub alive_first : (lim : Bool) (most k : ℕ) (p : Place) (x : Word) (q : Place) (a : Phrase) → Alive true lim most k p x q a → AliveFirst lim most k p x q a
alive_first true most k p x q a (inl f) = inl f
alive_first true most k p x q a (inr f) = inr (refl, f.0, f.1, f.2)
alive_first false most k p x q a f = inl (λ z. absurd cc)

-- ---- in a room
abbrev pub ReadersMend : Bool → ℕ → ℕ → Needs → Option Readers → Type 0
ReadersMend lim most base n (Some d) = Mends lim most base d n
ReadersMend lim most base n None = lim ≡ true

pub record MendsRoom (lim : Bool) (most base : ℕ) (m : Room) (n : Needs) : Type 0 where
  pub at : (j c : ℕ) → c ≡ base + j → ReadersMend lim most c n (m.at j)
  pub linked : m.linked ≡ true

-- refused at the token of a form, or inside it
pub opened_by : {A : Type 0} {ws : Wants} (R : Wants → Type 0) (lim : Bool) (most base : ℕ) (m : Room) (q : Readers) → IsRoom true lim most base m q → {n : Needs} → MendsRoom lim most base m n → (j c : ℕ) → c ≡ base + suc j → (f : Room → Readers → Reader A) (g : Room → Readers → Need) (ts : List Token) (u : Stop) → opened m j f ts ≡ Err u
    → (lim ≡ true → ts ≡ u.1 → R ws) → ((i : Room) (d : Readers) → AreLimited true lim most c d q → IsRoom true lim most c i q → Mends lim most c d n → MendsRoom lim most c i n → f i d ts ≡ Err u → R (g i d ts)) → R (need_opened m j ws g ts)
opened_by {A} {ws} R lim most base m q v {n} w j c e f g ts u o here inner = by (m.at (suc j)) (v.at (suc j) c (λ z. e)) (w.at (suc j) c e) o
  where
    by : (z : Option Readers) → ReadersFit true lim most c q z → ReadersMend lim most c n z → read_by z (f (within j m)) ts ≡ Err u → R (need_by z ws (g (within j m)) ts)
    by (Some d) t k o = inner (within j m) d t (inner_room true lim most base m q v j c (λ z. e)) k (record { at = λ i d' e'. w.at (suc j + i) d' (omega (arith, e, e')); linked = w.linked }) o
    by None t k o = here k (deep_is {A = A} o)

pub opened_err : {A C : Type 0} {ws : Wants} {K : C → List Token → Type 0} {F Q : C → Type 0} {put : C → List Token → List Token} {ss v : List Token} (lim : Bool) (most base : ℕ) (m : Room) (q : Readers) → IsRoom true lim most base m q → {n : Needs} → MendsRoom lim most base m n → (j c : ℕ) → c ≡ base + suc j → (f : Room → Readers → Reader A) (g : Room → Readers → Need) (ts : List Token) (u : Stop) → opened m j f ts ≡ Err u
    → (ts ≡ u.1 → Mend lim ws F K Q put ss v) → ((i : Room) (d : Readers) → AreLimited true lim most c d q → IsRoom true lim most c i q → Mends lim most c d n → MendsRoom lim most c i n → f i d ts ≡ Err u → Mend lim (g i d ts) F K Q put ss v) → Mend lim (need_opened m j ws g ts) F K Q put ss v
opened_err {A} {C} {ws} {K} {F} {Q} {put} {ss} {v} lim most base m q i {n} w j c e f g ts u o here inner = opened_by (λ (z : Wants). Mend lim z F K Q put ss v) lim most base m q i w j c e f g ts u o (λ l. here) inner
