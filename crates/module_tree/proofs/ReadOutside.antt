-- What the function of units outside reads of tokens is spelled so, and what is spelled it reads.
use Rattle.std.proofs.Common.{◌≡◌, Bool, true, false, ◌&&◌, nat_eq, nat_le, List, [], ◌∷◌, Option, Some, None, Ok, Err, codes, refl, sym, ap, subst, ◌∙◌, ◌⊎◌, inl, inr}
use Rattle.std.specs.Prelude.{if◌then◌else◌, option_map, IsTrue}
use Rattle.std.specs.Option.{option_or}
use Rattle.std.proofs.lemmas.Bool.{and_parts, and_from}
use Rattle.std.proofs.lemmas.Option.{none-some, same_Some, some_pair_parts}
use Rattle.std.proofs.lemmas.Slice.Eq.{bytes_eq-Decides}
use Rattle.tla_token.specs.declared.place.Place.{Place}
use Rattle.tla_token.specs.Limits.{deepest_expression}
use Rattle.tla_token.proofs.Spelled.{same_bytes}
use Rattle.tla_tree.specs.Tree.{Word, Name}
use Rattle.tla_tree.specs.Lexical.{TokenView, Token, token, mark}
use Rattle.tla_tree.specs.Lexical as tk
use Rattle.tla_tree.specs.Spelling.{Phrase, Right, Good, spell}
use Rattle.tla_tree.specs.Reader.{Out, read}
use Rattle.tla_tree.specs.Nesting.{text_nesting}
use Rattle.tla_tree.proofs.ReadAll.{spelled_is_read}
use Rattle.tla_tree.proofs.SoundLists.{read_is_spelled}
use Rattle.tla_value.specs.Outside.{ReadDefinition}
use Rattle.module_tree.specs.Module.{OutsideUnit, extends, constants, defines, opaque}
use Rattle.module_tree.specs.Grammar.{see, Names, last_name, more_names, spell_names, names_of, GoodNames}
use Rattle.module_tree.specs.Units.{ParameterForm, spell_parameters, GoodParameters}
use Rattle.module_tree.specs.Outside.{Sight, definition_reads, Named, Defined, IsRead, IsOutside, AllOutside}
use Rattle.module_tree.proofs.OneItem.{sort, first_sort}
use Rattle.module_tree.proofs.OutsideUnits.{is_right, name_in, is_comma, is_open, is_close, defines_here, is_keyword, last_if, more_if, names_at, named_by, form_if, closed_if, parameters_at, whole, rest_if, body_after, definition_in, is_sound, defined_if, defined_by, read_unit, or_opaque, unit_read, seen_after, units_read, Rest}

-- ---- single tokens are what they seem

comma_is : (k : TokenView) → is_comma k ≡ true → k ≡ mark tk.comma
comma_is (mark tk.comma) h = refl
comma_is k h = absurd cc

open_is : (k : TokenView) → is_open k ≡ true → k ≡ mark tk.open_bracket
open_is (mark tk.open_bracket) h = refl
open_is k h = absurd cc

close_is : (k : TokenView) → is_close k ≡ true → k ≡ mark tk.close_bracket
close_is (mark tk.close_bracket) h = refl
close_is k h = absurd cc

defines_is : (k : TokenView) → defines_here k ≡ true → k ≡ mark tk.defines
defines_is (mark tk.defines) h = refl
defines_is k h = absurd cc

keyword_is : (w : Word) (k : TokenView) → is_keyword w k ≡ true → k ≡ tk.other w
keyword_is w (tk.other v) h = ap (λ (v : Word). tk.other v) (same_bytes v w h)
keyword_is w k h = absurd cc

no_comma : (k : TokenView) → nat_eq (sort k) 9 ≡ false → is_comma k ≡ false
no_comma (mark tk.comma) h = absurd cc
no_comma k h = refl

name_is : (t : Token) (x : Word) → name_in t ≡ Some x → (is_right t ≡ true) × (t ≡ token t.place (tk.word x))
name_is t x e = by (is_right t) refl t.kind refl
  where
    by : (b : Bool) → is_right t ≡ b → (k : TokenView) → t.kind ≡ k → (is_right t ≡ true) × (t ≡ token t.place (tk.word x))
    by true b (tk.word y) k =
        let f : Some y ≡ Some x = rw (b, k) at e in
        (b, λ i. token t.place ((k ∙ ap (λ (y : Word). tk.word y) (same_Some y x f)) i))
    by true b k kk = (let f : None ≡ Some x = rw (b, kk) at e in absurd (none-some x f))
    by false b k kk = (let f : None ≡ Some x = rw b at e in absurd (none-some x f))

-- ---- names with commas

record NamesRead (ts : List Token) (ns : Names) (r : List Token) : Type 0 where
  good : GoodNames 0 ns
  is : ts ≡ spell_names ns r

same_read : (ts : List Token) (ns ms : Names) (r s : List Token) → ns ≡ ms → r ≡ s → NamesRead ts ns r → NamesRead ts ms s
same_read ts ns ms r s e f n = subst (λ (s : List Token). NamesRead ts ms s) f (subst (λ (ms : Names). NamesRead ts ms r) e n)

last_read : (t : Token) (r : List Token) (ns : Names) (s : List Token) → last_if t r (name_in t) ≡ Some (ns, s) → NamesRead (t ∷ r) ns s
last_read t r ns s e = by (name_in t) refl
  where
    by : (o : Option Word) → name_in t ≡ o → NamesRead (t ∷ r) ns s
    by None o = (let f : None ≡ Some (ns, s) = rw o at e in absurd (none-some (ns, s) f))
    by (Some x) o =
        let f : Some (last_name t.place x, r) ≡ Some (ns, s) = rw o at e in
        let p = some_pair_parts (last_name t.place x) ns r s f in
        let n = name_is t x o in
        same_read (t ∷ r) (last_name t.place x) ns r s p.0 p.1 (record { good = n.0; is = ap (λ (t : Token). t ∷ r) n.1 })

names_sound : (ts : List Token) (ns : Names) (r : List Token) → names_at ts ≡ Some (ns, r) → NamesRead ts ns r
names_sound [] ns r e = absurd (none-some (ns, r) e)
names_sound (t ∷ []) ns r e = last_read t [] ns r e
names_sound (t ∷ u ∷ ts) ns r e = by (is_comma u.kind) refl (names_sound ts)
  where
    on : ((ms : Names) (s : List Token) → names_at ts ≡ Some (ms, s) → NamesRead ts ms s) → is_comma u.kind ≡ true
        → (o : Option Word) → name_in t ≡ o → (b : Bool) → is_right u ≡ b → (n : Option (Names × List Token)) → names_at ts ≡ n
        → more_if t u o b n ≡ Some (ns, r) → NamesRead (t ∷ u ∷ ts) ns r
    on deeper k (Some x) o true b (Some (ms, s)) n f =
        let p = some_pair_parts (more_names t.place x u.place ms) ns s r f in
        let q = deeper ms s n in
        let w = name_is t x o in
        let c : u ≡ token u.place (mark tk.comma) = ap (λ (k : TokenView). token u.place k) (comma_is u.kind k) in
        same_read (t ∷ u ∷ ts) (more_names t.place x u.place ms) ns s r p.0 p.1 (record { good = (w.0, b, q.good); is = λ i. w.1 i ∷ c i ∷ q.is i })
    on deeper k o oo b bb n nn f = absurd (none-some (ns, r) f)

    by : (k : Bool) → is_comma u.kind ≡ k → ((ms : Names) (s : List Token) → names_at ts ≡ Some (ms, s) → NamesRead ts ms s) → NamesRead (t ∷ u ∷ ts) ns r
    by false k deeper = (let f : last_if t (u ∷ ts) (name_in t) ≡ Some (ns, r) = rw k at e in last_read t (u ∷ ts) ns r f)
    by true k deeper =
        let f : more_if t u (name_in t) (is_right u) (names_at ts) ≡ Some (ns, r) = rw k at e in
        on deeper k (name_in t) refl (is_right u) refl (names_at ts) refl f

names_read : (ns : Names) (r : List Token) → GoodNames 0 ns → nat_eq (first_sort r) 9 ≡ false → names_at (spell_names ns r) ≡ Some (ns, r)
names_read (last_name p x) [] g n = rw g refl
names_read (last_name p x) (u ∷ r) g n = rw (no_comma u.kind n, g) refl
names_read (more_names p x q ns) r g n = rw (g.0, g.1, names_read ns r g.2 n) refl

named_sound : (w : Word) (ts : List Token) (xs : List Name) → named_by w ts ≡ Some xs → Named w ts xs
named_sound w [] xs e = absurd (none-some xs e)
named_sound w (t ∷ ts) xs e = by (is_keyword w t.kind) refl (names_at ts) refl
  where
    by : (k : Bool) → is_keyword w t.kind ≡ k → (n : Option (Names × List Token)) → names_at ts ≡ n → Named w (t ∷ ts) xs
    by true k (Some (ns, [])) n =
        let f : Some (names_of ns) ≡ Some xs = rw (k, n) at e in
        let q = names_sound ts ns [] n in
        let c : t ≡ token t.place (tk.other w) = ap (λ (k : TokenView). token t.place k) (keyword_is w t.kind k) in
        record { at = t.place; names = ns; good = q.good; spelled = λ i. c i ∷ q.is i; are = same_Some (names_of ns) xs f }
    by true k (Some (ns, u ∷ r)) n = (let f : None ≡ Some xs = rw (k, n) at e in absurd (none-some xs f))
    by true k None n = (let f : None ≡ Some xs = rw (k, n) at e in absurd (none-some xs f))
    by false k n nn = (let f : None ≡ Some xs = rw k at e in absurd (none-some xs f))

named_read : (w : Word) (ts : List Token) (xs : List Name) → Named w ts xs → named_by w ts ≡ Some xs
named_read w ts xs n = ap (named_by w) n.spelled ∙ rw ((bytes_eq-Decides w w).1 refl, names_read n.names [] n.good refl) (ap Some n.are)

-- ---- definitions

abbrev ParametersRead : List Token → Option ParameterForm → List Token → Type 0
ParametersRead ts f r = GoodParameters 0 f × (ts ≡ spell_parameters f r)

same_parameters : (ts : List Token) (f g : Option ParameterForm) (r s : List Token) → f ≡ g → r ≡ s → ParametersRead ts f r → ParametersRead ts g s
same_parameters ts f g r s d e n = subst (λ (s : List Token). ParametersRead ts g s) e (subst (λ (g : Option ParameterForm). ParametersRead ts g r) d n)

parameters_sound : (ts : List Token) (f : Option ParameterForm) (r : List Token) → parameters_at ts ≡ Some (f, r) → ParametersRead ts f r
parameters_sound [] f r e = absurd (none-some (f, r) e)
parameters_sound (t ∷ ts) f r e = by (is_open t.kind) refl
  where
    closed : (ns : Names) (u : Token) (s : List Token) → is_open t.kind ≡ true → names_at ts ≡ Some (ns, u ∷ s)
        → (b : Bool) → (is_right t && (is_close u.kind && is_right u)) ≡ b
        → form_if b (record { left = t.place; names = ns; right = u.place }) s ≡ Some (f, r) → ParametersRead (t ∷ ts) f r
    closed ns u s k n false b g = absurd (none-some (f, r) g)
    closed ns u s k n true b g =
        let form : ParameterForm = record { left = t.place; names = ns; right = u.place } in
        let p = some_pair_parts (Some form) f s r g in
        let c = and_parts (is_right t) (is_close u.kind && is_right u) b in
        let d = and_parts (is_close u.kind) (is_right u) c.1 in
        let q = names_sound ts ns (u ∷ s) n in
        let x : t ≡ token t.place (mark tk.open_bracket) = ap (λ (k : TokenView). token t.place k) (open_is t.kind k) in
        let y : u ≡ token u.place (mark tk.close_bracket) = ap (λ (k : TokenView). token u.place k) (close_is u.kind d.0) in
        same_parameters (t ∷ ts) (Some form) f s r p.0 p.1 ((c.0, q.good, d.1), (λ i. x i ∷ q.is i) ∙ ap (λ (u : Token). see t.place (mark tk.open_bracket) (spell_names ns (u ∷ s))) y)

    on : is_open t.kind ≡ true → (n : Option (Names × List Token)) → names_at ts ≡ n → closed_if t n ≡ Some (f, r) → ParametersRead (t ∷ ts) f r
    on k None n g = absurd (none-some (f, r) g)
    on k (Some (ns, [])) n g = absurd (none-some (f, r) g)
    on k (Some (ns, u ∷ s)) n g = closed ns u s k n (is_right t && (is_close u.kind && is_right u)) refl g

    by : (k : Bool) → is_open t.kind ≡ k → ParametersRead (t ∷ ts) f r
    by true k = (let g : closed_if t (names_at ts) ≡ Some (f, r) = rw k at e in on k (names_at ts) refl g)
    by false k =
        let g : Some (None, t ∷ ts) ≡ Some (f, r) = rw k at e in
        let p = some_pair_parts None f (t ∷ ts) r g in
        same_parameters (t ∷ ts) None f (t ∷ ts) r p.0 p.1 (tt, refl)

parameters_read : (f : Option ParameterForm) (q : Place) (r : List Token) → GoodParameters 0 f
    → parameters_at (spell_parameters f (see q (mark tk.defines) r)) ≡ Some (f, see q (mark tk.defines) r)
parameters_read None q r g = refl
parameters_read (Some f) q r g = rw (names_read f.names (see f.right (mark tk.close_bracket) (see q (mark tk.defines) r)) g.1 refl, g.0, g.2) refl

record RestRead (ts : List Token) (s : Rest) : Type 0 where
  good : GoodParameters 0 s.params × Right 0 s.sign × Good 0 s.body
  is : ts ≡ spell_parameters s.params (see s.sign (mark tk.defines) (spell s.body []))

rest_sound : (ts : List Token) (s : Rest) → body_after (parameters_at ts) ≡ Some s → RestRead ts s
rest_sound ts s e = by (parameters_at ts) refl e
  where
    read_by : (f : Option ParameterForm) (u : Token) (r : List Token) → parameters_at ts ≡ Some (f, u ∷ r) → (b : Bool) → (defines_here u.kind && is_right u) ≡ b
        → (o : Out Phrase) → read 0 r ≡ o → (if b then rest_if f u.place (whole o) else None) ≡ Some s → RestRead ts s
    read_by f u r p true b (Ok (a, [])) o g =
        let new : Rest = record { params = f; sign = u.place; body = a } in
        let same : new ≡ s = same_Some new s g in
        let c = and_parts (defines_here u.kind) (is_right u) b in
        let d = read_is_spelled 0 r [] a o in
        let q = parameters_sound ts f (u ∷ r) p in
        let x : u ≡ token u.place (mark tk.defines) = ap (λ (k : TokenView). token u.place k) (defines_is u.kind c.0) in
        subst (λ (s : Rest). RestRead ts s) same (record { good = (q.0, c.1, d.0); is = q.1 ∙ (λ i. spell_parameters f (x i ∷ d.1 i)) })
    read_by f u r p true b (Ok (a, t ∷ z)) o g = absurd (none-some s g)
    read_by f u r p true b (Err z) o g = absurd (none-some s g)
    read_by f u r p false b o oo g = absurd (none-some s g)

    by : (o : Option (Option ParameterForm × List Token)) → parameters_at ts ≡ o → body_after o ≡ Some s → RestRead ts s
    by None o g = absurd (none-some s g)
    by (Some (f, [])) o g = absurd (none-some s g)
    by (Some (f, u ∷ r)) o g = read_by f u r o (defines_here u.kind && is_right u) refl (read 0 r) refl g

defined_sound : (v : Sight) (ts : List Token) (d : ReadDefinition) → defined_by v ts ≡ Some d → Defined v ts d
defined_sound v [] d e = absurd (none-some d e)
defined_sound v (t ∷ ts) d e = by t.kind refl (body_after (parameters_at ts)) refl e
  where
    made : (x : Word) (s : Rest) → t.kind ≡ tk.word x → body_after (parameters_at ts) ≡ Some s → (b : Bool) → is_sound v t.place x s ≡ b
        → (if b then Some (definition_in t.place x s) else None) ≡ Some d → Defined v (t ∷ ts) d
    made x s k o false b g = absurd (none-some d g)
    made x s k o true b g =
        let same : definition_in t.place x s ≡ d = same_Some (definition_in t.place x s) d g in
        let c = and_parts (nat_le (text_nesting s.body) deepest_expression) (definition_reads v (definition_in t.place x s).definition) b in
        let q = rest_sound ts s o in
        subst (λ (d : ReadDefinition). Defined v (t ∷ ts) d) same (record {
          at = t.place;
          params = s.params;
          sign = s.sign;
          body = s.body;
          good = q.good;
          spelled = λ i. token t.place (k i) ∷ q.is i;
          is = refl;
          shallow = c.0;
          reads = c.1;
        })

    by : (k : TokenView) → t.kind ≡ k → (o : Option Rest) → body_after (parameters_at ts) ≡ o → defined_if v t.place k o ≡ Some d → Defined v (t ∷ ts) d
    by (tk.word x) k (Some s) o g = made x s k o (is_sound v t.place x s) refl g
    by k kk o oo g = absurd (none-some d g)

defined_read : (v : Sight) (ts : List Token) (d : ReadDefinition) → Defined v ts d → defined_by v ts ≡ Some d
defined_read v ts d h =
    let x = d.definition.title in
    let s : Rest = record { params = h.params; sign = h.sign; body = h.body } in
    let p = parameters_read h.params h.sign (spell h.body []) h.good.0 in
    let b : body_after (parameters_at (spell_parameters h.params (see h.sign (mark tk.defines) (spell h.body [])))) ≡ Some s =
    ap body_after p ∙ rw (h.good.1, spelled_is_read 0 h.body h.good.2) refl in
    let reads : definition_reads v (definition_in h.at x s).definition ≡ true = ap (λ (d : ReadDefinition). definition_reads v d.definition) h.is ∙ h.reads in
    let fine : is_sound v h.at x s ≡ true = and_from (nat_le (text_nesting h.body) deepest_expression) (definition_reads v (definition_in h.at x s).definition) h.shallow reads in
    ap (defined_by v) h.spelled ∙ ap (defined_if v h.at (tk.word x)) b ∙ ap (λ (k : Bool). if k then Some (definition_in h.at x s) else None) fine ∙ ap Some h.is

-- ---- units

some_of_or : {A : Type 0} (a b : Option A) (x : A) → option_or a b ≡ Some x → (a ≡ Some x) ⊎ (b ≡ Some x)
some_of_or (Some y) b x e = inl e
some_of_or None b x e = inr e

none_of_or : {A : Type 0} (a b : Option A) → option_or a b ≡ None → (a ≡ None) × (b ≡ None)
none_of_or (Some y) b e = absurd (none-some y (sym e))
none_of_or None b e = (refl, e)

some_mapped : {A B : Type 0} (f : A → B) (o : Option A) (y : B) → option_map f o ≡ Some y → (x : A) × (o ≡ Some x) × (f x ≡ y)
some_mapped f (Some x) y e = (x, refl, same_Some (f x) y e)
some_mapped f None y e = absurd (none-some y e)

none_mapped : {A B : Type 0} (f : A → B) (o : Option A) (x : A) → o ≡ Some x → option_map f o ≡ None → ⊥
none_mapped f o x s n = none-some (f x) (sym n ∙ ap (option_map f) s)

abbrev defines_if : Bool → Sight → List Token → Option OutsideUnit
defines_if b v ts = if b then option_map defines (defined_by v ts) else None

read_is : (b : Bool) (v : Sight) (ts : List Token) (u : OutsideUnit) → read_unit b v ts ≡ Some u → IsRead b v ts u
read_is b v ts u e =
    let extended : Option OutsideUnit = option_map extends (named_by (codes "EXTENDS") ts) in
    let one : Option OutsideUnit = option_map constants (named_by (codes "CONSTANT") ts) in
    let all : Option OutsideUnit = option_map constants (named_by (codes "CONSTANTS") ts) in
    by (some_of_or extended (option_or one (option_or all (defines_if b v ts))) u e)
  where
    defined : (b : Bool) → defines_if b v ts ≡ Some u → IsRead b v ts u
    defined true e = (let m = some_mapped defines (defined_by v ts) u e in subst (λ (u : OutsideUnit). IsRead true v ts u) m.2 (refl, defined_sound v ts m.0 m.1))
    defined false e = absurd (none-some u e)

    plural : (option_map constants (named_by (codes "CONSTANTS") ts) ≡ Some u) ⊎ (defines_if b v ts ≡ Some u) → IsRead b v ts u
    plural (inl e) =
        (let m = some_mapped constants (named_by (codes "CONSTANTS") ts) u e in subst (λ (u : OutsideUnit). IsRead b v ts u) m.2 (inr (named_sound (codes "CONSTANTS") ts m.0 m.1)))
    plural (inr e) = defined b e

    single : (option_map constants (named_by (codes "CONSTANT") ts) ≡ Some u) ⊎ (option_or (option_map constants (named_by (codes "CONSTANTS") ts)) (defines_if b v ts) ≡ Some u) → IsRead b v ts u
    single (inl e) =
        (let m = some_mapped constants (named_by (codes "CONSTANT") ts) u e in subst (λ (u : OutsideUnit). IsRead b v ts u) m.2 (inl (named_sound (codes "CONSTANT") ts m.0 m.1)))
    single (inr e) = plural (some_of_or (option_map constants (named_by (codes "CONSTANTS") ts)) (defines_if b v ts) u e)

    by : (option_map extends (named_by (codes "EXTENDS") ts) ≡ Some u)
        ⊎ (option_or (option_map constants (named_by (codes "CONSTANT") ts)) (option_or (option_map constants (named_by (codes "CONSTANTS") ts)) (defines_if b v ts)) ≡ Some u) → IsRead b v ts u
    by (inl e) =
        (let m = some_mapped extends (named_by (codes "EXTENDS") ts) u e in subst (λ (u : OutsideUnit). IsRead b v ts u) m.2 (named_sound (codes "EXTENDS") ts m.0 m.1))
    by (inr e) = single (some_of_or (option_map constants (named_by (codes "CONSTANT") ts)) (option_or (option_map constants (named_by (codes "CONSTANTS") ts)) (defines_if b v ts)) u e)

none_read : (b : Bool) (v : Sight) (ts : List Token) → read_unit b v ts ≡ None → (u : OutsideUnit) → IsRead b v ts u → ⊥
none_read b v ts e u h =
    let extended : Option OutsideUnit = option_map extends (named_by (codes "EXTENDS") ts) in
    let one : Option OutsideUnit = option_map constants (named_by (codes "CONSTANT") ts) in
    let all : Option OutsideUnit = option_map constants (named_by (codes "CONSTANTS") ts) in
    let p = none_of_or extended (option_or one (option_or all (defines_if b v ts))) e in
    let q = none_of_or one (option_or all (defines_if b v ts)) p.1 in
    let r = none_of_or all (defines_if b v ts) q.1 in
    by u h p.0 q.0 r.0 r.1
  where
    no_definition : (b : Bool) (d : ReadDefinition) → IsTrue b → Defined v ts d → defines_if b v ts ≡ None → ⊥
    no_definition true d k h e = none_mapped defines (defined_by v ts) d (defined_read v ts d h) e
    no_definition false d k h e = absurd cc

    by : (u : OutsideUnit) → IsRead b v ts u → option_map extends (named_by (codes "EXTENDS") ts) ≡ None → option_map constants (named_by (codes "CONSTANT") ts) ≡ None
        → option_map constants (named_by (codes "CONSTANTS") ts) ≡ None → defines_if b v ts ≡ None → ⊥
    by (extends ms) h x y z w = none_mapped extends (named_by (codes "EXTENDS") ts) ms (named_read (codes "EXTENDS") ts ms h) x
    by (constants xs) (inl h) x y z w = none_mapped constants (named_by (codes "CONSTANT") ts) xs (named_read (codes "CONSTANT") ts xs h) y
    by (constants xs) (inr h) x y z w = none_mapped constants (named_by (codes "CONSTANTS") ts) xs (named_read (codes "CONSTANTS") ts xs h) z
    by (defines d) (k, h) x y z w = no_definition b d k h w
    by (opaque o) h x y z w = h

pub is_outside : (b : Bool) (v : Sight) (ts : List Token) (u : OutsideUnit) → IsRead b v ts u → IsOutside b v ts u
is_outside b v ts (extends ms) h = h
is_outside b v ts (constants xs) h = h
is_outside b v ts (defines d) h = h
is_outside b v ts (opaque o) h = absurd h

pub unit_is : (b : Bool) (v : Sight) (ts : List Token) → IsOutside b v ts (unit_read b v ts)
unit_is b v ts = by (read_unit b v ts) refl
  where
    by : (o : Option OutsideUnit) → read_unit b v ts ≡ o → IsOutside b v ts (or_opaque ts o)
    by (Some u) o = is_outside b v ts u (read_is b v ts u o)
    by None o = (none_read b v ts o, refl)

pub units_are : (b : Bool) (v : Sight) (tss : List (List Token)) → AllOutside b v tss (units_read b v tss)
units_are b v [] = tt
units_are b v (ts ∷ tss) = (unit_is b v ts, units_are b (seen_after v (unit_read b v ts)) tss)
