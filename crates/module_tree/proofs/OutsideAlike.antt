-- Units after the translation in other lines: what is read of them, and what is kept of the others, is the same but for places.
use Rattle.std.proofs.Common.{◌≡◌, ℕ, Bool, true, false, ◌&&◌, ◌||◌, nat_eq, nat_lt, cond, codes, List, [], ◌∷◌, ◌++◌, map, flat_map, refl, sym, ap, ◌∙◌, inl, inr}
use Rattle.std.proofs.lemmas.List.{map-append}
use Rattle.tla_token.specs.Tokens as text
use Rattle.tla_token.specs.Signs.{is_among}
use Rattle.tla_tree.specs.Tree.{Word, Name, words}
use Rattle.tla_tree.specs.Lexical.{TokenView, Token, token, mark}
use Rattle.tla_tree.specs.Lexical as tk
use Rattle.tla_tree.specs.TokenViews.{kind_of, views}
use Rattle.tla_tree.specs.FirstStop.{Look, look, looks}
use Rattle.module_tree.specs.Module.{OutsideUnit, extends, constants, defines, opaque, modules_of, constants_of, outside_of}
use Rattle.module_tree.specs.Grammar.{Names, last_name, more_names, spell_names, names_of, words_of, GoodNames}
use Rattle.module_tree.specs.FileUnits.{is_starter, is_bar, begins_unit, cut_at, cut}
use Rattle.module_tree.specs.Outside.{Sight, is_define, identifiers, first_one, title_at, keyword_of, names_by, Named, opaque_of, IsRead, IsOutside, AllOutside}
use Rattle.module_tree.specs.laws.Kept.{looks as text_looks}
use Rattle.module_tree.specs.laws.Outsides.{unplaced, Alike, AllAlike, SameOutside}
use Rattle.module_tree.proofs.OutsideUnits.{seen_after}
use Rattle.module_tree.proofs.ReadOutside.{is_outside}

-- ---- kinds and columns of tokens

pub same_views : (ts us : List text.Token) → text_looks ts ≡ text_looks us → looks (views ts) ≡ looks (views us)
same_views ts us e = sym (viewed ts) ∙ ap (map (λ p. (kind_of p.0, p.1))) e ∙ viewed us
  where
    viewed : (ts : List text.Token) → map (λ p. (kind_of p.0, p.1)) (text_looks ts) ≡ looks (views ts)
    viewed [] = refl
    viewed (t ∷ ts) = ap (λ (ls : List Look). (kind_of t.kind, t.place.col) ∷ ls) (viewed ts)

same_kind : (t u : Token) → look t ≡ look u → t.kind ≡ u.kind
same_kind t u e = ap (λ (l : Look). l.0) e

same_col : (t u : Token) → look t ≡ look u → t.place.col ≡ u.place.col
same_col t u e = ap (λ (l : Look). l.1) e

first_same : (t u : Token) (ts us : List Token) → looks (t ∷ ts) ≡ looks (u ∷ us) → look t ≡ look u
first_same t u ts us e = cc

rest_same : (t u : Token) (ts us : List Token) → looks (t ∷ ts) ≡ looks (u ∷ us) → looks ts ≡ looks us
rest_same t u ts us e = cc

-- ---- units by kinds and columns

record LookCut : Type 0 where
  front : List Look
  units : List (List Look)

abbrev begins_look : Look → Bool
begins_look l = (nat_eq l.1 1 && is_starter l.0) || is_bar l.0

abbrev look_cut_at : Bool → Look → LookCut → LookCut
look_cut_at true l c = record { front = []; units = (l ∷ c.front) ∷ c.units }
look_cut_at false l c = record { front = l ∷ c.front; units = c.units }

abbrev look_cut : List Look → LookCut
look_cut [] = record { front = []; units = [] }
look_cut (l ∷ ls) = look_cut_at (begins_look l) l (look_cut ls)

cut_looks : (ts : List Token) → (looks (cut ts).front ≡ (look_cut (looks ts)).front) × (map looks (cut ts).units ≡ (look_cut (looks ts)).units)
cut_looks [] = (refl, refl)
cut_looks (t ∷ ts) = by (begins_unit t) (cut_looks ts)
  where
    by : (k : Bool) → (looks (cut ts).front ≡ (look_cut (looks ts)).front) × (map looks (cut ts).units ≡ (look_cut (looks ts)).units)
        → (looks (cut_at k t (cut ts)).front ≡ (look_cut_at k (look t) (look_cut (looks ts))).front) × (map looks (cut_at k t (cut ts)).units ≡ (look_cut_at k (look t) (look_cut (looks ts))).units)
    by true (f, u) = (refl, λ i. (look t ∷ f i) ∷ u i)
    by false (f, u) = (ap (λ (ls : List Look). look t ∷ ls) f, u)

pub same_front : (ts us : List Token) → looks ts ≡ looks us → looks (cut ts).front ≡ looks (cut us).front
same_front ts us e = (cut_looks ts).0 ∙ ap (λ (ls : List Look). (look_cut ls).front) e ∙ sym (cut_looks us).0

pub same_units : (ts us : List Token) → looks ts ≡ looks us → map looks (cut ts).units ≡ map looks (cut us).units
same_units ts us e = (cut_looks ts).1 ∙ ap (λ (ls : List Look). (look_cut ls).units) e ∙ sym (cut_looks us).1

-- ---- names

record NamesThere (ns : Names) (r us : List Token) : Type 0 where
  names : Names
  rest : List Token
  good : GoodNames 0 names
  is : us ≡ spell_names names rest
  same_rest : looks r ≡ looks rest
  same_words : words_of ns ≡ words_of names

names_there : (ns : Names) (r us : List Token) → GoodNames 0 ns → looks (spell_names ns r) ≡ looks us → NamesThere ns r us
names_there (last_name p x) r [] g e = absurd cc
names_there (last_name p x) r (u ∷ us) g e =
    let f = first_same (token p (tk.word x)) u r us e in
    let c : token u.place (tk.word x) ≡ u = ap (λ (k : TokenView). token u.place k) (same_kind (token p (tk.word x)) u f) in
    record {
      names = last_name u.place x;
      rest = us;
      good = ap (λ (n : ℕ). nat_lt 0 n) (sym (same_col (token p (tk.word x)) u f)) ∙ g;
      is = ap (λ (u : Token). u ∷ us) (sym c);
      same_rest = rest_same (token p (tk.word x)) u r us e;
      same_words = refl;
    }
names_there (more_names p x q ns) r [] g e = absurd cc
names_there (more_names p x q ns) r (u ∷ []) g e =
    (let f = rest_same (token p (tk.word x)) u (token q (mark tk.comma) ∷ spell_names ns r) [] e in absurd cc)
names_there (more_names p x q ns) r (u ∷ v ∷ us) g e =
    let t = token p (tk.word x) in
    let c = token q (mark tk.comma) in
    let f = first_same t u (c ∷ spell_names ns r) (v ∷ us) e in
    let more = rest_same t u (c ∷ spell_names ns r) (v ∷ us) e in
    let h = first_same c v (spell_names ns r) us more in
    let n = names_there ns r us g.2 (rest_same c v (spell_names ns r) us more) in
    let name : token u.place (tk.word x) ≡ u = ap (λ (k : TokenView). token u.place k) (same_kind t u f) in
    let comma : token v.place (mark tk.comma) ≡ v = ap (λ (k : TokenView). token v.place k) (same_kind c v h) in
    record {
      names = more_names u.place x v.place n.names;
      rest = n.rest;
      good = (ap (λ (n : ℕ). nat_lt 0 n) (sym (same_col t u f)) ∙ g.0, ap (λ (n : ℕ). nat_lt 0 n) (sym (same_col c v h)) ∙ g.1, n.good);
      is = λ i. sym name i ∷ sym comma i ∷ n.is i;
      same_rest = n.same_rest;
      same_words = ap (λ (ws : List Word). x ∷ ws) n.same_words;
    }

nothing_there : (us : List Token) → looks [] ≡ looks us → us ≡ []
nothing_there [] e = refl
nothing_there (u ∷ us) e = absurd cc

abbrev NamedThere : Word → List Token → List Name → Type 0
NamedThere w us xs = (ys : List Name) × Named w us ys × (words xs ≡ words ys)

named_there : (w : Word) (ts us : List Token) (xs : List Name) → looks ts ≡ looks us → Named w ts xs → NamedThere w us xs
named_there w ts us xs e n = by us (ap looks (sym n.spelled) ∙ e)
  where
    by : (us : List Token) → looks (token n.at (tk.other w) ∷ spell_names n.names []) ≡ looks us → NamedThere w us xs
    by [] f = absurd cc
    by (u ∷ us) f =
        let t = token n.at (tk.other w) in
        let k : token u.place (tk.other w) ≡ u = ap (λ (k : TokenView). token u.place k) (same_kind t u (first_same t u (spell_names n.names []) us f)) in
        let m = names_there n.names [] us n.good (rest_same t u (spell_names n.names []) us f) in
        let none : m.rest ≡ [] = nothing_there m.rest m.same_rest in
        let named : Named w (u ∷ us) (names_of m.names) =
        record { at = u.place; names = m.names; good = m.good; spelled = (λ i. sym k i ∷ m.is i) ∙ ap (λ (r : List Token). token u.place (tk.other w) ∷ spell_names m.names r) none; are = refl } in
        (names_of m.names, named, ap words (sym n.are) ∙ m.same_words)

-- ---- units

abbrev ReadThere : Sight → List Token → OutsideUnit → Type 0
ReadThere w us u = (y : OutsideUnit) × IsRead false w us y × Alike u y

read_there : (v w : Sight) (ts us : List Token) → looks ts ≡ looks us → (u : OutsideUnit) → IsRead false v ts u → ReadThere w us u
read_there v w ts us e (extends ms) h = (let n = named_there (codes "EXTENDS") ts us ms e h in (extends n.0, n.1, n.2))
read_there v w ts us e (constants xs) (inl h) = (let n = named_there (codes "CONSTANT") ts us xs e h in (constants n.0, inl n.1, n.2))
read_there v w ts us e (constants xs) (inr h) = (let n = named_there (codes "CONSTANTS") ts us xs e h in (constants n.0, inr n.1, n.2))
read_there v w ts us e (defines d) h = (let f : false ≡ true = h.0 in absurd cc)
read_there v w ts us e (opaque o) h = absurd h

pub same_identifiers : (ts us : List Token) → looks ts ≡ looks us → identifiers ts ≡ identifiers us
same_identifiers [] [] e = refl
same_identifiers [] (u ∷ us) e = absurd cc
same_identifiers (t ∷ ts) [] e = absurd cc
same_identifiers (t ∷ ts) (u ∷ us) e =
    ap (λ (k : TokenView). identifiers (token t.place k ∷ ts)) (same_kind t u (first_same t u ts us e)) ∙ by u.kind (same_identifiers ts us (rest_same t u ts us e))
  where
    by : (k : TokenView) → identifiers ts ≡ identifiers us → identifiers (token t.place k ∷ ts) ≡ identifiers (token u.place k ∷ us)
    by (tk.word x) f = ap (λ (xs : List Word). x ∷ xs) f
    by (tk.reserved x) f = ap (λ (xs : List Word). x ∷ xs) f
    by k f = f

same_title : (ts us : List Token) → looks ts ≡ looks us → title_at ts ≡ title_at us
same_title [] [] e = refl
same_title [] (u ∷ us) e = absurd cc
same_title (t ∷ ts) [] e = absurd cc
same_title (t ∷ []) (u ∷ []) e = refl
same_title (t ∷ []) (u ∷ c ∷ us) e = (let f = rest_same t u [] (c ∷ us) e in absurd cc)
same_title (t ∷ d ∷ ts) (u ∷ []) e = (let f = rest_same t u (d ∷ ts) [] e in absurd cc)
same_title (t ∷ d ∷ ts) (u ∷ c ∷ us) e =
    let f = first_same t u (d ∷ ts) (c ∷ us) e in
    let g = first_same d c ts us (rest_same t u (d ∷ ts) (c ∷ us) e) in
    let k = same_kind d c g in
    let ids = same_identifiers (t ∷ []) (u ∷ []) (ap (λ (l : Look). l ∷ []) f) in
    λ i. cond (is_define (k i)) (ids i) []

pub same_opaque : (ts us : List Token) → looks ts ≡ looks us → unplaced (opaque_of ts) ≡ unplaced (opaque_of us)
same_opaque [] [] e = refl
same_opaque [] (u ∷ us) e = absurd cc
same_opaque (t ∷ ts) [] e = absurd cc
same_opaque (t ∷ ts) (u ∷ us) e =
    let k = same_kind t u (first_same t u ts us e) in
    let more = rest_same t u ts us e in
    let all = same_identifiers (t ∷ ts) (u ∷ us) e in
    let ids = same_identifiers ts us more in
    let title = same_title ts us more in
    let names : (w : Word) → names_by w t ts ≡ names_by w u us =
    λ w i. cond (is_among (codes "ASSUME" ∷ codes "ASSUMPTION" ∷ codes "AXIOM" ∷ codes "THEOREM" ∷ []) w) (title i)
    (cond (is_among (codes "CONSTANT" ∷ codes "CONSTANTS" ∷ codes "RECURSIVE" ∷ []) w) (ids i) (first_one (all i))) in
    λ i. (keyword_of (k i), names (keyword_of (k i)) i)

abbrev UnitThere : Sight → List Token → OutsideUnit → Type 0
UnitThere w us u = (y : OutsideUnit) × IsOutside false w us y × Alike u y

unit_there : (v w : Sight) (ts us : List Token) → looks ts ≡ looks us → (u : OutsideUnit) → IsOutside false v ts u → UnitThere w us u
unit_there v w ts us e (opaque o) h = (
  opaque (opaque_of us),
  ((λ y k. (let r = read_there w v us ts (sym e) y k in h.0 r.0 r.1)), refl),
  ap unplaced h.1 ∙ same_opaque ts us e,
)
unit_there v w ts us e (extends ms) h = (let r = read_there v w ts us e (extends ms) h in (r.0, is_outside false w us r.0 r.1, r.2))
unit_there v w ts us e (constants xs) h = (let r = read_there v w ts us e (constants xs) h in (r.0, is_outside false w us r.0 r.1, r.2))
unit_there v w ts us e (defines d) h = (let r = read_there v w ts us e (defines d) h in (r.0, is_outside false w us r.0 r.1, r.2))

pub units_there : (v w : Sight) (tss uss : List (List Token)) → map looks tss ≡ map looks uss → (us : List OutsideUnit) → AllOutside false v tss us
    → (ys : List OutsideUnit) × AllOutside false w uss ys × AllAlike us ys
units_there v w [] [] e [] h = ([], tt, tt)
units_there v w [] [] e (u ∷ us) h = absurd h
units_there v w [] (s ∷ uss) e us h = absurd cc
units_there v w (t ∷ tss) [] e us h = absurd cc
units_there v w (t ∷ tss) (s ∷ uss) e [] h = absurd h
units_there v w (t ∷ tss) (s ∷ uss) e (u ∷ us) h =
    let first : looks t ≡ looks s = cc in
    let more : map looks tss ≡ map looks uss = cc in
    let y = unit_there v w t s first u h.0 in
    let ys = units_there (seen_after v u) (seen_after w y.0) tss uss more us h.1 in
    (y.0 ∷ ys.0, (y.1, ys.1), (y.2, ys.2))

-- ---- what lists of units that are alike have outside

unit_alike : (u : OutsideUnit) → Alike u u
unit_alike (extends ms) = refl
unit_alike (constants xs) = refl
unit_alike (defines d) = refl
unit_alike (opaque o) = refl

pub alike_after : (vs us ys : List OutsideUnit) → AllAlike us ys → AllAlike (vs ++ us) (vs ++ ys)
alike_after [] us ys h = h
alike_after (v ∷ vs) us ys h = (unit_alike v, alike_after vs us ys h)

words_more : (ms ns xs ys : List Name) → words ms ≡ words ns → words xs ≡ words ys → words (ms ++ xs) ≡ words (ns ++ ys)
words_more ms ns xs ys e f = map-append (λ (n : Name). n.word) ms xs ∙ (λ i. e i ++ f i) ∙ sym (map-append (λ (n : Name). n.word) ns ys)

pub same_outside : (us ys : List OutsideUnit) → AllAlike us ys → SameOutside (outside_of us) (outside_of ys)
same_outside [] [] h = record { extended = refl; constants = refl; definitions = refl; opaque = refl }
same_outside [] (y ∷ ys) h = absurd h
same_outside (u ∷ us) [] h = absurd h
same_outside (u ∷ us) (y ∷ ys) h = by u y h.0 (same_outside us ys h.1)
  where
    by : (u y : OutsideUnit) → Alike u y → SameOutside (outside_of us) (outside_of ys) → SameOutside (outside_of (u ∷ us)) (outside_of (y ∷ ys))
    by (extends ms) (extends ns) e s = record {
      extended = words_more ms ns (flat_map modules_of us) (flat_map modules_of ys) e s.extended;
      constants = s.constants;
      definitions = s.definitions;
      opaque = s.opaque;
    }
    by (constants xs) (constants zs) e s = record {
      extended = s.extended;
      constants = words_more xs zs (flat_map constants_of us) (flat_map constants_of ys) e s.constants;
      definitions = s.definitions;
      opaque = s.opaque;
    }
    by (defines d) (defines c) e s = record {
      extended = s.extended;
      constants = s.constants;
      definitions = λ i. e i ∷ s.definitions i;
      opaque = s.opaque;
    }
    by (opaque o) (opaque q) e s = record {
      extended = s.extended;
      constants = s.constants;
      definitions = s.definitions;
      opaque = λ i. e i ∷ s.opaque i;
    }
    by u y e s = absurd e
