-- Units read without the places of commas and brackets are the units that are read with them.
use Rattle.std.proofs.Common.{◌≡◌, Bool, true, false, ◌&&◌, nat_lt, nat_le, List, [], ◌∷◌, Option, Some, None, Ok, Err, codes, refl, sym, ap, ◌∙◌, le-leb}
use Rattle.std.specs.Prelude.{if◌then◌else◌, option_map}
use Rattle.std.specs.Option.{option_or}
use Rattle.std.proofs.lemmas.Bool.{leb-true}
use Rattle.std.proofs.lemmas.Option.{none-some, same_Some}
use Rattle.tla_token.specs.declared.place.Place.{Place}
use Rattle.tla_token.specs.Limits.{deepest_expression}
use Rattle.tla_tree.specs.Tree.{Word, Name, words, Tree}
use Rattle.tla_tree.specs.Lexical.{TokenView, Token, mark}
use Rattle.tla_tree.specs.Lexical as tk
use Rattle.tla_tree.specs.Spelling.{Phrase, tree_of}
use Rattle.tla_tree.specs.Reader.{Out, Stop, is_mark, read, read_limited}
use Rattle.tla_tree.specs.Nesting.{text_nesting}
use Rattle.tla_tree.proofs.LimitedStops.{read_within, fits_within}
use Rattle.tla_value.specs.Outside.{ReadDefinition}
use Rattle.module_tree.specs.Module.{OutsideUnit, extends, constants, defines}
use Rattle.module_tree.specs.Grammar.{Names, names_of}
use Rattle.module_tree.specs.Units.{ParameterForm, parameters}
use Rattle.module_tree.specs.Outside.{Sight, definition_reads}
use Rattle.module_tree.proofs.OutsideUnits as full
use Rattle.outside_reading.specs.PlainUnits.{name_if, name_in, is_keyword, only_name, one_more, names_in, all_names, named_in, modules_in, closed_in, parameters_in, behind_sign, head_in, whole_tree, body_in, with_body, with_tree, definition_of, if_reads, defined_if, defined_in, extends_or, defined_before, unit_in, units_in, seen_behind}

-- ---- single tokens

comma_same : (k : TokenView) → full.is_comma k ≡ is_mark tk.comma k
comma_same (mark tk.comma) = refl
comma_same k = refl

open_same : (k : TokenView) → full.is_open k ≡ is_mark tk.open_bracket k
open_same (mark tk.open_bracket) = refl
open_same k = refl

close_same : (k : TokenView) → full.is_close k ≡ is_mark tk.close_bracket k
close_same (mark tk.close_bracket) = refl
close_same k = refl

defines_same : (k : TokenView) → full.defines_here k ≡ is_mark tk.defines k
defines_same (mark tk.defines) = refl
defines_same k = refl

keyword_same : (w : Word) (k : TokenView) → full.is_keyword w k ≡ is_keyword w k
keyword_same w (tk.other v) = refl
keyword_same w k = refl

-- the name, at its place
abbrev placed : Place → Option Word → Option Name
placed p o = option_map (λ (x : Word). record { word = x; place = p }) o

name_same : (t : Token) → placed t.place (full.name_in t) ≡ name_in t
name_same t = by (nat_lt 0 t.place.col) t.kind
  where
    by : (b : Bool) (k : TokenView) → placed t.place (full.name_if b k) ≡ name_if b t.place k
    by true (tk.word x) = refl
    by true k = refl
    by false k = refl

-- ---- names with commas

abbrev bare : Option (Names × List Token) → Option (List Name × List Token)
bare o = option_map (λ (x : Names × List Token). (names_of x.0, x.1)) o

last_same : (t : Token) (r : List Token) (o : Option Word) → bare (full.last_if t r o) ≡ only_name r (placed t.place o)
last_same t r (Some x) = refl
last_same t r None = refl

more_same : (t u : Token) (o : Option Word) (b : Bool) (n : Option (Names × List Token)) → bare (full.more_if t u o b n) ≡ one_more (placed t.place o) b (bare n)
more_same t u (Some x) true (Some (ns, r)) = refl
more_same t u (Some x) true None = refl
more_same t u (Some x) false n = refl
more_same t u None b n = refl

pub names_same : (ts : List Token) → bare (full.names_at ts) ≡ names_in ts
names_same [] = refl
names_same (t ∷ []) = last_same t [] (full.name_in t) ∙ ap (only_name []) (name_same t)
names_same (t ∷ u ∷ ts) = by (full.is_comma u.kind) (comma_same u.kind) (names_same ts)
  where
    by : (b : Bool) → b ≡ is_mark tk.comma u.kind → bare (full.names_at ts) ≡ names_in ts
        → bare (if b then full.more_if t u (full.name_in t) (full.is_right u) (full.names_at ts) else full.last_if t (u ∷ ts) (full.name_in t)) ≡ names_in (t ∷ u ∷ ts)
    by true e h = rw (sym e) (more_same t u (full.name_in t) (full.is_right u) (full.names_at ts) ∙ (λ i. one_more (name_same t i) (full.is_right u) (h i)))
    by false e h = rw (sym e) (last_same t (u ∷ ts) (full.name_in t) ∙ ap (only_name (u ∷ ts)) (name_same t))

alone_same : (o : Option (Names × List Token)) → option_map names_of (full.alone o) ≡ all_names (bare o)
alone_same (Some (ns, [])) = refl
alone_same (Some (ns, t ∷ r)) = refl
alone_same None = refl

pub named_same : (w : Word) (ts : List Token) → full.named_by w ts ≡ named_in w ts
named_same w [] = refl
named_same w (t ∷ ts) = (λ i. if keyword_same w t.kind i then (alone_same (full.names_at ts) ∙ ap all_names (names_same ts)) i else None)

-- ---- definitions

abbrev bare_parameters : Option (Option ParameterForm × List Token) → Option (List Word × List Token)
bare_parameters o = option_map (λ (x : Option ParameterForm × List Token). (parameters x.0, x.1)) o

abbrev worded : {A : Type 0} → Option (List Name × A) → Option (List Word × A)
worded {A} o = option_map (λ (x : List Name × A). (words x.0, x.1)) o

closed_same : (t : Token) (n : Option (Names × List Token)) → bare_parameters (full.closed_if t n) ≡ worded (closed_in t (bare n))
closed_same t None = refl
closed_same t (Some (ns, [])) = refl
closed_same t (Some (ns, u ∷ r)) = by (full.is_right t && (full.is_close u.kind && full.is_right u)) (ap (λ (b : Bool). full.is_right t && (b && full.is_right u)) (close_same u.kind))
  where
    by : (b : Bool) → b ≡ (full.is_right t && (is_mark tk.close_bracket u.kind && full.is_right u))
        → bare_parameters (full.form_if b (record { left = t.place; names = ns; right = u.place }) r) ≡ worded (closed_in t (Some (names_of ns, u ∷ r)))
    by true e = rw (sym e) refl
    by false e = rw (sym e) refl

parameters_same : (ts : List Token) → bare_parameters (full.parameters_at ts) ≡ worded (parameters_in ts)
parameters_same [] = refl
parameters_same (t ∷ ts) = by (full.is_open t.kind) (open_same t.kind)
  where
    by : (b : Bool) → b ≡ is_mark tk.open_bracket t.kind → bare_parameters (if b then full.closed_if t (full.names_at ts) else Some (None, t ∷ ts)) ≡ worded (parameters_in (t ∷ ts))
    by true e = rw (sym e) (closed_same t (full.names_at ts) ∙ ap (λ (o : Option (List Name × List Token)). worded (closed_in t o)) (names_same ts))
    by false e = rw (sym e) refl

-- what is read whole, where no more forms are open than may be
abbrev shallow : Option Phrase → Option Tree
shallow (Some a) = if nat_le (text_nesting a) deepest_expression then Some (tree_of a) else None
shallow None = None

body_same : (ts : List Token) → shallow (full.whole (read 0 ts)) ≡ body_in ts
body_same ts = by (read_limited ts) refl (read 0 ts) refl
  where
    ended : (a : Phrase) (r : List Token) → nat_le (text_nesting a) deepest_expression ≡ true → shallow (full.whole (Ok (a, r))) ≡ whole_tree (Ok (a, r))
    ended a [] h = rw h refl
    ended a (t ∷ r) h = refl

    deep : (a : Phrase) (r : List Token) → nat_le (text_nesting a) deepest_expression ≡ false → shallow (full.whole (Ok (a, r))) ≡ None
    deep a [] h = rw h refl
    deep a (t ∷ r) h = refl

    by : (o : Out Phrase) → read_limited ts ≡ o → (p : Out Phrase) → read 0 ts ≡ p → shallow (full.whole p) ≡ whole_tree o
    by (Ok (a, r)) e p f = (let h = read_within ts r a e in ap (λ (q : Out Phrase). shallow (full.whole q)) (sym f ∙ h.0) ∙ ended a r (le-leb (text_nesting a) deepest_expression h.1))
    by (Err s) e (Err z) f = refl
    by (Err s) e (Ok (a, r)) f = fits (nat_le (text_nesting a) deepest_expression) refl
      where
        of : Out Phrase → Option Stop
        of (Ok x) = None
        of (Err z) = Some z

        fits : (b : Bool) → nat_le (text_nesting a) deepest_expression ≡ b → shallow (full.whole (Ok (a, r))) ≡ None
        fits true h = absurd (none-some s (ap of (sym (fits_within ts r a f (leb-true (text_nesting a) deepest_expression h)) ∙ e)))
        fits false h = deep a r h

abbrev beside : List Word → Tree → List Word × Tree
beside ws t = (ws, t)

-- a body, shallow, with its parameters
abbrev bare_rest : Option full.Rest → Option (List Word × Tree)
bare_rest (Some s) = option_map (beside (parameters s.params)) (shallow (Some s.body))
bare_rest None = None

rest_same : (f : Option ParameterForm) (q : Place) (o : Option Phrase) → bare_rest (full.rest_if f q o) ≡ option_map (beside (parameters f)) (shallow o)
rest_same f q (Some a) = refl
rest_same f q None = refl

-- the tree of what comes after `==`, with the words before it
abbrev sign_rest : Option (List Word × List Token) → Option (List Word × Tree)
sign_rest (Some (ws, u ∷ r)) = if is_mark tk.defines u.kind && full.is_right u then option_map (beside ws) (body_in r) else None
sign_rest o = None

after_same : (o : Option (Option ParameterForm × List Token)) → bare_rest (full.body_after o) ≡ sign_rest (bare_parameters o)
after_same None = refl
after_same (Some (f, [])) = refl
after_same (Some (f, u ∷ r)) = by (full.defines_here u.kind && full.is_right u) (ap (λ (b : Bool). b && full.is_right u) (defines_same u.kind))
  where
    by : (b : Bool) → b ≡ (is_mark tk.defines u.kind && full.is_right u) → bare_rest (if b then full.rest_if f u.place (full.whole (read 0 r)) else None) ≡ sign_rest (Some (parameters f, u ∷ r))
    by true e = rw (sym e) (rest_same f u.place (full.whole (read 0 r)) ∙ ap (option_map (beside (parameters f))) (body_same r))
    by false e = rw (sym e) refl

tree_with : (ns : List Name) (o : Option Tree) → option_map (beside (words ns)) o ≡ worded (with_body ns o)
tree_with ns (Some t) = refl
tree_with ns None = refl

tree_same : (o : Option (List Name × List Token)) → sign_rest (worded o) ≡ worded (with_tree (behind_sign o))
tree_same None = refl
tree_same (Some (ns, [])) = refl
tree_same (Some (ns, u ∷ r)) = by (is_mark tk.defines u.kind && full.is_right u)
  where
    by : (b : Bool) → (if b then option_map (beside (words ns)) (body_in r) else None) ≡ worded (with_tree (if b then Some (ns, r) else None))
    by true = tree_with ns (body_in r)
    by false = refl

pub head_same : (ts : List Token) → bare_rest (full.body_after (full.parameters_at ts)) ≡ worded (with_tree (head_in ts))
head_same ts = after_same (full.parameters_at ts) ∙ ap sign_rest (parameters_same ts) ∙ tree_same (parameters_in ts)

-- ---- units

pub defined_same : (v : Sight) (ts : List Token) → full.defined_by v ts ≡ defined_in v ts
defined_same v [] = refl
defined_same v (t ∷ ts) = by t.kind (full.body_after (full.parameters_at ts)) (with_tree (head_in ts)) (head_same ts)
  where
    sound : (x : Word) (s : full.Rest) (b : Bool) → nat_le (text_nesting s.body) deepest_expression ≡ b → (z : List Name × Tree)
        → option_map (beside (parameters s.params)) (if b then Some (tree_of s.body) else None) ≡ Some (beside (words z.0) z.1)
        → (if b && definition_reads v (full.definition_in t.place x s).definition then Some (full.definition_in t.place x s) else None) ≡ if_reads v (definition_of t.place x z)
    sound x s true e z h = (let q : beside (parameters s.params) (tree_of s.body) ≡ beside (words z.0) z.1 = same_Some _ _ h in λ i. if_reads v (record { definition = record { title = x; params = (q i).0; body = (q i).1; outside = true }; place = t.place }))
    sound x s false e z h = absurd (none-some _ h)

    unsound : (x : Word) (s : full.Rest) (b : Bool) → nat_le (text_nesting s.body) deepest_expression ≡ b
        → option_map (beside (parameters s.params)) (if b then Some (tree_of s.body) else None) ≡ None
        → (if b && definition_reads v (full.definition_in t.place x s).definition then Some (full.definition_in t.place x s) else None) ≡ None
    unsound x s true e h = absurd (none-some _ (sym h))
    unsound x s false e h = refl

    by : (k : TokenView) (o : Option full.Rest) (z : Option (List Name × Tree)) → bare_rest o ≡ worded z → full.defined_if v t.place k o ≡ defined_if v t.place k z
    by (tk.word x) (Some s) (Some z) h = sound x s (nat_le (text_nesting s.body) deepest_expression) refl z h
    by (tk.word x) (Some s) None h = unsound x s (nat_le (text_nesting s.body) deepest_expression) refl h
    by (tk.word x) None (Some z) h = absurd (none-some _ h)
    by (tk.word x) None None h = refl
    by k o z h = refl

constants_mapped : (a b : Option (List Name)) → option_or (option_map constants a) (option_map constants b) ≡ option_map constants (option_or a b)
constants_mapped (Some xs) b = refl
constants_mapped None b = refl

units_joined : (ts : List Token) (ms xs ys : Option (List Name)) (d : Option ReadDefinition)
    → full.or_opaque ts (option_or (option_map extends ms) (option_or (option_map constants xs) (option_or (option_map constants ys) (option_map defines d)))) ≡ extends_or ms (option_or xs ys) d ts
units_joined ts (Some ms) xs ys d = refl
units_joined ts None (Some xs) ys d = refl
units_joined ts None None (Some ys) d = refl
units_joined ts None None None (Some d) = refl
units_joined ts None None None None = refl

pub unit_same : (b : Bool) (v : Sight) (ts : List Token) → full.unit_read b v ts ≡ unit_in b v ts
unit_same b v ts =
    (λ i. full.or_opaque ts (option_or (option_map extends (named_same (codes "EXTENDS") ts i)) (option_or (option_map constants (named_same (codes "CONSTANT") ts i)) (option_or (option_map constants (named_same (codes "CONSTANTS") ts i)) (definition_same b i)))))
    ∙ units_joined ts (modules_in ts) (named_in (codes "CONSTANT") ts) (named_in (codes "CONSTANTS") ts) (defined_before b v ts)
  where
    definition_same : (b : Bool) → (if b then option_map defines (full.defined_by v ts) else None) ≡ option_map defines (defined_before b v ts)
    definition_same true = ap (option_map defines) (defined_same v ts)
    definition_same false = refl

pub units_same : (b : Bool) (v : Sight) (tss : List (List Token)) → full.units_read b v tss ≡ units_in b v tss
units_same b v [] = refl
units_same b v (ts ∷ tss) =
    let u = unit_same b v ts in
    λ i. u i ∷ (ap (λ (x : OutsideUnit). full.units_read b (seen_behind v x) tss) u ∙ units_same b (seen_behind v (unit_in b v ts)) tss) i
