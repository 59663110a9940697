-- Units outside the translation, as a function of their tokens: names, definitions by their bodies, and whatever is passed on.
use Rattle.std.proofs.Common.{Bool, true, false, ◌&&◌, nat_lt, nat_le, bytes_eq, List, [], ◌∷◌, ◌++◌, Option, Some, None, Ok, codes}
use Rattle.std.specs.Prelude.{if◌then◌else◌, option_map}
use Rattle.std.specs.Option.{option_or}
use Rattle.tla_token.specs.declared.place.Place.{Place}
use Rattle.tla_token.specs.Limits.{deepest_expression}
use Rattle.tla_tree.specs.Tree.{Word, Name}
use Rattle.tla_tree.specs.Lexical.{TokenView, Token, token, mark}
use Rattle.tla_tree.specs.Lexical as tk
use Rattle.tla_tree.specs.Spelling.{Phrase, tree_of}
use Rattle.tla_tree.specs.Reader.{Out, read}
use Rattle.tla_tree.specs.Nesting.{text_nesting}
use Rattle.tla_value.specs.Outside.{ReadDefinition, found}
use Rattle.module_tree.specs.Module.{OutsideUnit, extends, constants, defines, opaque, definitions_of}
use Rattle.module_tree.specs.Grammar.{Names, last_name, more_names, names_of}
use Rattle.module_tree.specs.Units.{ParameterForm, parameters}
use Rattle.module_tree.specs.Outside.{Sight, definition_reads, opaque_of}

-- ---- single tokens, in any column

abbrev pub is_right : Token → Bool
is_right t = nat_lt 0 t.place.col

abbrev pub name_if : Bool → TokenView → Option Word
name_if true (tk.word x) = Some x
name_if b k = None

abbrev pub name_in : Token → Option Word
name_in t = name_if (is_right t) t.kind

abbrev pub is_comma : TokenView → Bool
is_comma (mark tk.comma) = true
is_comma k = false

abbrev pub is_open : TokenView → Bool
is_open (mark tk.open_bracket) = true
is_open k = false

abbrev pub is_close : TokenView → Bool
is_close (mark tk.close_bracket) = true
is_close k = false

abbrev pub defines_here : TokenView → Bool
defines_here (mark tk.defines) = true
defines_here k = false

abbrev pub is_keyword : Word → TokenView → Bool
is_keyword w (tk.other v) = bytes_eq v w
is_keyword w k = false

-- ---- names with commas

abbrev pub last_if : Token → List Token → Option Word → Option (Names × List Token)
last_if t r (Some x) = Some (last_name t.place x, r)
last_if t r None = None

abbrev pub more_if : Token → Token → Option Word → Bool → Option (Names × List Token) → Option (Names × List Token)
more_if t u (Some x) true (Some (ns, r)) = Some (more_names t.place x u.place ns, r)
more_if t u o k n = None

-- the names at the front, and the tokens after them
abbrev pub names_at : List Token → Option (Names × List Token)
names_at [] = None
names_at (t ∷ []) = last_if t [] (name_in t)
names_at (t ∷ u ∷ ts) = if is_comma u.kind then more_if t u (name_in t) (is_right u) (names_at ts) else last_if t (u ∷ ts) (name_in t)

abbrev pub alone : {A : Type 0} → Option (A × List Token) → Option A
alone (Some (a, [])) = Some a
alone o = None

-- the names after this word, and nothing else
abbrev pub named_by : Word → List Token → Option (List Name)
named_by w [] = None
named_by w (t ∷ ts) = if is_keyword w t.kind then option_map names_of (alone (names_at ts)) else None

-- ---- definitions

abbrev pub form_if : Bool → ParameterForm → List Token → Option (Option ParameterForm × List Token)
form_if true f r = Some (Some f, r)
form_if false f r = None

abbrev pub closed_if : Token → Option (Names × List Token) → Option (Option ParameterForm × List Token)
closed_if t (Some (ns, u ∷ r)) = form_if (is_right t && (is_close u.kind && is_right u)) (record { left = t.place; names = ns; right = u.place }) r
closed_if t o = None

abbrev pub parameters_at : List Token → Option (Option ParameterForm × List Token)
parameters_at [] = None
parameters_at (t ∷ ts) = if is_open t.kind then closed_if t (names_at ts) else Some (None, t ∷ ts)

abbrev pub whole : Out Phrase → Option Phrase
whole (Ok (a, [])) = Some a
whole o = None

-- what a definition is spelled as, after its name
pub record Rest : Type 0 where
  pub params : Option ParameterForm
  pub sign : Place
  pub body : Phrase

abbrev pub rest_if : Option ParameterForm → Place → Option Phrase → Option Rest
rest_if f q (Some a) = Some (record { params = f; sign = q; body = a })
rest_if f q None = None

abbrev pub body_after : Option (Option ParameterForm × List Token) → Option Rest
body_after (Some (f, u ∷ r)) = if defines_here u.kind && is_right u then rest_if f u.place (whole (read 0 r)) else None
body_after o = None

abbrev pub definition_in : Place → Word → Rest → ReadDefinition
definition_in p x s = record { definition = record { title = x; params = parameters s.params; body = tree_of s.body; outside = true }; place = p }

abbrev pub is_sound : Sight → Place → Word → Rest → Bool
is_sound v p x s = nat_le (text_nesting s.body) deepest_expression && definition_reads v (definition_in p x s).definition

abbrev pub defined_if : Sight → Place → TokenView → Option Rest → Option ReadDefinition
defined_if v p (tk.word x) (Some s) = if is_sound v p x s then Some (definition_in p x s) else None
defined_if v p k o = None

abbrev pub defined_by : Sight → List Token → Option ReadDefinition
defined_by v [] = None
defined_by v (t ∷ ts) = defined_if v t.place t.kind (body_after (parameters_at ts))

-- ---- units

abbrev pub read_unit : Bool → Sight → List Token → Option OutsideUnit
read_unit b v ts =
    option_or (option_map extends (named_by (codes "EXTENDS") ts)) (
    option_or (option_map constants (named_by (codes "CONSTANT") ts)) (
    option_or (option_map constants (named_by (codes "CONSTANTS") ts)) (
    if b then option_map defines (defined_by v ts) else None)))

abbrev pub or_opaque : List Token → Option OutsideUnit → OutsideUnit
or_opaque ts (Some u) = u
or_opaque ts None = opaque (opaque_of ts)

-- the unit that these tokens are, before the translation or after it
abbrev pub unit_read : Bool → Sight → List Token → OutsideUnit
unit_read b v ts = or_opaque ts (read_unit b v ts)

abbrev pub seen_after : Sight → OutsideUnit → Sight
seen_after v u = record v { earlier = v.earlier ++ found (definitions_of u) }

abbrev pub units_read : Bool → Sight → List (List Token) → List OutsideUnit
units_read b v [] = []
units_read b v (ts ∷ tss) = (let u = unit_read b v ts in u ∷ units_read b (seen_after v u) tss)
