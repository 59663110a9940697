-- What is read is spelled, and what is spelled is read: expressions, single words, names with commas and parameters.
use Rattle.std.proofs.Common.{◌≡◌, ℕ, zero, suc, ◌*◌, ◌≤◌, nat_lt, Bool, true, false, List, [], ◌∷◌, length, Option, Some, None, Ok, refl, sym, ap, ◌∙◌, arith}
use Rattle.std.specs.Prelude.{bytes_eq, if◌then◌else◌}
use Rattle.std.proofs.lemmas.Slice.Eq.{bytes_eq-Decides}
use Rattle.tla_token.specs.declared.place.Place.{Place}
use Rattle.tla_token.proofs.Spelled.{same_bytes}
use Rattle.tla_tree.specs.Tree.{Word}
use Rattle.tla_tree.specs.Lexical.{TokenView, Token, token, mark}
use Rattle.tla_tree.specs.Lexical as tk
use Rattle.tla_tree.specs.Spelling.{Phrase, Right, Good, spell, word}
use Rattle.tla_tree.specs.Reader.{Reader, next, tail, end, is_mark, take, place_if, read}
use Rattle.tla_tree.proofs.Steps.{few}
use Rattle.tla_tree.proofs.ReadStops.{Calm}
use Rattle.tla_tree.proofs.ReadPhrases.{closed}
use Rattle.tla_tree.proofs.ReadAll.{reads}
use Rattle.tla_tree.proofs.SoundTokens.{then_ok, given, seen, take_ok, if_some, mark_ok, word_ok, Taken}
use Rattle.module_tree.specs.Grammar.{see, keyword, Names, last_name, more_names, spell_names, GoodNames}
use Rattle.module_tree.specs.Units.{ParameterForm, spell_parameters, GoodParameters}
use Rattle.region_reading.specs.NameReader.{a_keyword, is_title, a_title, names_by, some_names, names_in, parameters_by, parameters_in}
use Rattle.outside_reading.specs.PlainUnits.{is_keyword}
use Rattle.region_reading.specs.Bound.{unbounded}

-- a token right of the edge is seen
pub next_is : (e : ℕ) (p : Place) (k : TokenView) (r : List Token) → Right e p → next e (see p k r) ≡ token p k
next_is e p k r g = rw g refl

-- ---- expressions

-- a phrase is read from its tokens, before those that go on nothing
pub phrase_read : (e : ℕ) (a : Phrase) → Good e a → (r : List Token) → Calm e r → read e (spell a r) ≡ Ok (a, r)
phrase_read e a g r c = closed a (reads a) e g r c (4 * length (spell a r)) (omega (arith, few a r))

pub shorter : (a : Phrase) (r : List Token) → length r ≤ length (spell a r)
shorter a r = omega (arith, few a r)

-- ---- reserved words and titles

-- a token that is there, of which a test tells what it is
pub seen_by : (e : ℕ) (f : TokenView → Bool) (k : TokenView) → f (tk.other []) ≡ false → ((j : TokenView) → f j ≡ true → j ≡ k) → (ts : List Token) (p : Place) (us : List Token)
    → take e (place_if f) ts ≡ Ok (p, us) → Taken e p k us ts
seen_by e f k o is ts p us h = by ts (take_ok e (place_if f) ts p us h)
  where
    none : f (tk.other []) ≡ true → ⊥
    none t = absurd cc

    there : (t : Token) (ts : List Token) → (b : Bool) → nat_lt e t.place.col ≡ b
        → (place_if f (if b then t else end).place (if b then t else end).kind ≡ Some p) × (ts ≡ us) → Taken e p k us (t ∷ ts)
    there t ts true l w =
        let v = if_some (f t.kind) t.place p w.0 in
        let it : token p k ≡ t = λ i. token (sym v.1 i) (sym (is t.kind v.0) i) in
        (ap (λ (q : Place). nat_lt e q.col) (sym v.1) ∙ l, λ i. it i ∷ sym w.1 i)
    there t ts false l w = absurd (none (if_some (f (tk.other [])) end.place p w.0).0)

    by : (ts : List Token) → (place_if f (next e ts).place (next e ts).kind ≡ Some p) × (tail ts ≡ us) → Taken e p k us ts
    by [] w = absurd (none (if_some (f (tk.other [])) end.place p w.0).0)
    by (t ∷ ts) w = there t ts (nat_lt e t.place.col) refl w

keyword_is : (w : Word) (k : TokenView) → is_keyword w k ≡ true → k ≡ tk.other w
keyword_is w (tk.other v) h = ap (λ (v : Word). tk.other v) (same_bytes v w h)
keyword_is w k h = absurd cc

pub keyword_ok : (e : ℕ) (w : Word) → bytes_eq [] w ≡ false → (ts : List Token) (p : Place) (us : List Token) → a_keyword e w ts ≡ Ok (p, us) → Right e p × (keyword p w us ≡ ts)
keyword_ok e w n ts p us h = seen_by e (is_keyword w) (tk.other w) n (keyword_is w) ts p us h

title_is : (w : Word) (k : TokenView) → is_title w k ≡ true → k ≡ tk.word w
title_is w (tk.word v) h = ap (λ (v : Word). tk.word v) (same_bytes v w h)
title_is w k h = absurd cc

pub title_ok : (e : ℕ) (w : Word) (ts : List Token) (p : Place) (us : List Token) → a_title e w ts ≡ Ok (p, us) → Right e p × (word p w us ≡ ts)
title_ok e w ts p us h = seen_by e (is_title w) (tk.word w) refl (title_is w) ts p us h

pub same_word : (w : Word) → bytes_eq w w ≡ true
same_word w = (bytes_eq-Decides w w).1 refl

pub keyword_read : (e : ℕ) (w : Word) (p : Place) (r : List Token) → Right e p → a_keyword e w (keyword p w r) ≡ Ok (p, r)
keyword_read e w p r g = rw (g, same_word w) refl

pub title_read : (e : ℕ) (w : Word) (p : Place) (r : List Token) → Right e p → a_title e w (word p w r) ≡ Ok (p, r)
title_read e w p r g = rw (g, same_word w) refl

-- ---- names with commas

abbrev pub AreNames : ℕ → List Token → Names → List Token → Type 0
AreNames e ts ns us = GoodNames e ns × (spell_names ns us ≡ ts)

names_by_ok : (e : ℕ) (more : Reader Names) → ((ts : List Token) (ns : Names) (us : List Token) → more ts ≡ Ok (ns, us) → AreNames e ts ns us)
    → (p : Place) (x : Word) → Right e p → (q : Place) (k : TokenView) (ts : List Token) (ns : Names) (us : List Token) → next e ts ≡ token q k
    → names_by more p x q k ts ≡ Ok (ns, us) → AreNames e (word p x ts) ns us
names_by_ok e more go p x g q (mark tk.comma) ts ns us s o =
    let n = seen e ts q (mark tk.comma) s refl in
    let v = then_ok o in
    let w = go (tail ts) v.0 v.1 v.2 in
    given (λ d vs. AreNames e (word p x ts) d vs) v.3 ((g, n.0, w.0), rw (w.1, n.1) refl)
names_by_ok e more go p x g q k ts ns us s o = given (λ d vs. AreNames e (word p x ts) d vs) o (g, refl)

some_names_ok : (n e : ℕ) (ts : List Token) (ns : Names) (us : List Token) → some_names n e ts ≡ Ok (ns, us) → AreNames e ts ns us
some_names_ok zero e ts ns us o = absurd cc
some_names_ok (suc n) e ts ns us o =
    let v = then_ok o in
    let w = word_ok e ts v.0 v.1 v.2 in
    let z = names_by_ok e (some_names n e) (some_names_ok n e) v.0.0 v.0.1 w.0 (next e v.1).place (next e v.1).kind v.1 ns us refl v.3 in
    (z.0, z.1 ∙ w.1)

pub names_ok : (e : ℕ) (ts : List Token) (ns : Names) (us : List Token) → names_in e ts ≡ Ok (ns, us) → AreNames e ts ns us
names_ok e ts ns us o = some_names_ok (length ts) e ts ns us o

-- no comma goes on
abbrev pub NoComma : ℕ → List Token → Type 0
NoComma e ts = is_mark tk.comma (next e ts).kind ≡ false

last_read : (more : Reader Names) (p : Place) (x : Word) (q : Place) (k : TokenView) (r : List Token) → is_mark tk.comma k ≡ false → names_by more p x q k r ≡ Ok (last_name p x, r)
last_read more p x q (mark tk.comma) r h = absurd cc
last_read more p x q k r h = refl

some_names_read : (n e : ℕ) (ns : Names) (r : List Token) → GoodNames e ns → NoComma e r → length (spell_names ns r) ≤ n → some_names n e (spell_names ns r) ≡ Ok (ns, r)
some_names_read zero e (last_name p x) r g c l = absurd (omega (arith, l))
some_names_read zero e (more_names p x q ns) r g c l = absurd (omega (arith, l))
some_names_read (suc n) e (last_name p x) r g c l = rw g (last_read (some_names n e) p x (next e r).place (next e r).kind r c)
some_names_read (suc n) e (more_names p x q ns) r g c l = rw (g.0, g.1, some_names_read n e ns r g.2 c (omega (arith, l))) refl

pub names_read : (e : ℕ) (ns : Names) (r : List Token) → GoodNames e ns → NoComma e r → names_in e (spell_names ns r) ≡ Ok (ns, r)
names_read e ns r g c = some_names_read (length (spell_names ns r)) e ns r g c (omega arith)

pub names_shorter : (ns : Names) (r : List Token) → length r ≤ length (spell_names ns r)
names_shorter (last_name p x) r = omega arith
names_shorter (more_names p x q ns) r = omega (arith, names_shorter ns r)

-- ---- parameters

abbrev pub AreParameters : List Token → Option ParameterForm → List Token → Type 0
AreParameters ts f us = GoodParameters 1 f × (spell_parameters f us ≡ ts)

parameters_by_ok : (p : Place) (k : TokenView) (ts : List Token) (f : Option ParameterForm) (us : List Token) → next 1 ts ≡ token p k
    → parameters_by unbounded p k ts ≡ Ok (f, us) → AreParameters ts f us
parameters_by_ok p (mark tk.open_bracket) ts f us s o =
    let n = seen 1 ts p (mark tk.open_bracket) s refl in
    let v = then_ok o in
    let w = names_ok 1 (tail ts) v.0 v.1 v.2 in
    let u = then_ok v.3 in
    let m = mark_ok 1 tk.close_bracket v.1 u.0 u.1 u.2 in
    given (λ d vs. AreParameters ts d vs) u.3 ((n.0, w.0, m.0), rw (m.1, w.1, n.1) refl)
parameters_by_ok p k ts f us s o = given (λ d vs. AreParameters ts d vs) o (tt, refl)

pub parameters_ok : (ts : List Token) (f : Option ParameterForm) (us : List Token) → parameters_in unbounded ts ≡ Ok (f, us) → AreParameters ts f us
parameters_ok ts f us o = parameters_by_ok (next 1 ts).place (next 1 ts).kind ts f us refl o

pub parameters_read : (f : Option ParameterForm) (q : Place) (r : List Token) → GoodParameters 1 f → Right 1 q
    → parameters_in unbounded (spell_parameters f (see q (mark tk.defines) r)) ≡ Ok (f, see q (mark tk.defines) r)
parameters_read None q r g h = rw h refl
parameters_read (Some f) q r g h =
    let w = names_read 1 f.names (see f.right (mark tk.close_bracket) (see q (mark tk.defines) r)) g.1 (rw g.2 refl) in
    rw (g.0, w, g.2) refl
