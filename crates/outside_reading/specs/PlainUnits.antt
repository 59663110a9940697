-- What units outside the translation hold, as a function of their tokens that keeps no place of a comma or bracket: names, definitions, and whatever is passed on.
use Rattle.std.specs.Prelude.{nat_lt, Bool, true, false, ◌&&◌, ◌||◌, bytes_eq, List, [], ◌∷◌, ◌++◌, Option, Some, None, Ok, codes, is_some, if◌then◌else◌, unwrap_or}
use Rattle.std.specs.List.{flat_map}
use Rattle.std.specs.Option.{option_or}
use Rattle.tla_token.specs.declared.place.Place.{Place}
use Rattle.tla_tree.specs.Tree.{Word, Name, words, Tree}
use Rattle.tla_tree.specs.Lexical.{TokenView, Token}
use Rattle.tla_tree.specs.Lexical as tk
use Rattle.tla_tree.specs.Spelling.{Phrase, tree_of}
use Rattle.tla_tree.specs.Reader.{Out, is_mark, read_limited}
use Rattle.tla_value.specs.Outside.{ReadDefinition, found, Outside}
use Rattle.module_tree.specs.Module.{OutsideUnit, extends, constants, defines, opaque, definitions_of, unread_of}
use Rattle.module_tree.specs.Outside.{Sight, definition_reads, opaque_of}

-- ---- single tokens, in any column

abbrev pub is_right : Token → Bool
is_right t = nat_lt 0 t.place.col

abbrev pub name_if : Bool → Place → TokenView → Option Name
name_if true p (tk.word x) = Some (record { word = x; place = p })
name_if b p k = None

abbrev pub name_in : Token → Option Name
name_in t = name_if (is_right t) t.place t.kind

abbrev pub is_keyword : Word → TokenView → Bool
is_keyword w (tk.other v) = bytes_eq v w
is_keyword w k = false

-- ---- names with commas

abbrev pub only_name : List Token → Option Name → Option (List Name × List Token)
only_name r (Some x) = Some (x ∷ [], r)
only_name r None = None

abbrev pub one_more : Option Name → Bool → Option (List Name × List Token) → Option (List Name × List Token)
one_more (Some x) true (Some (ns, r)) = Some (x ∷ ns, r)
one_more o b n = None

-- the names at the front, and the tokens after them
abbrev pub names_in : List Token → Option (List Name × List Token)
names_in [] = None
names_in (t ∷ []) = only_name [] (name_in t)
names_in (t ∷ u ∷ ts) = if is_mark tk.comma u.kind then one_more (name_in t) (is_right u) (names_in ts) else only_name (u ∷ ts) (name_in t)

abbrev pub all_names : Option (List Name × List Token) → Option (List Name)
all_names (Some (ns, [])) = Some ns
all_names o = None

-- the names after this word, and nothing else
abbrev pub named_in : Word → List Token → Option (List Name)
named_in w [] = None
named_in w (t ∷ ts) = if is_keyword w t.kind then all_names (names_in ts) else None

-- those of a unit that extends modules, and of one that declares constants
abbrev pub modules_in : List Token → Option (List Name)
modules_in ts = named_in (codes "EXTENDS") ts

abbrev pub constants_in : List Token → Option (List Name)
constants_in ts = option_or (named_in (codes "CONSTANT") ts) (named_in (codes "CONSTANTS") ts)

-- ---- definitions

abbrev pub closed_in : Token → Option (List Name × List Token) → Option (List Name × List Token)
closed_in t (Some (ns, u ∷ r)) = if is_right t && (is_mark tk.close_bracket u.kind && is_right u) then Some (ns, r) else None
closed_in t o = None

-- the parameters after a name, if there are any, and the tokens after them
abbrev pub parameters_in : List Token → Option (List Name × List Token)
parameters_in [] = None
parameters_in (t ∷ ts) = if is_mark tk.open_bracket t.kind then closed_in t (names_in ts) else Some ([], t ∷ ts)

abbrev pub behind_sign : Option (List Name × List Token) → Option (List Name × List Token)
behind_sign (Some (ns, u ∷ r)) = if is_mark tk.defines u.kind && is_right u then Some (ns, r) else None
behind_sign o = None

-- the parameters, and the tokens of the body
abbrev pub head_in : List Token → Option (List Name × List Token)
head_in ts = behind_sign (parameters_in ts)

-- all of the tokens are one expression, with no more forms open than may be
abbrev pub whole_tree : Out Phrase → Option Tree
whole_tree (Ok (a, [])) = Some (tree_of a)
whole_tree o = None

abbrev pub body_in : List Token → Option Tree
body_in ts = whole_tree (read_limited ts)

abbrev pub with_body : List Name → Option Tree → Option (List Name × Tree)
with_body ns (Some t) = Some (ns, t)
with_body ns None = None

abbrev pub with_tree : Option (List Name × List Token) → Option (List Name × Tree)
with_tree (Some (ns, r)) = with_body ns (body_in r)
with_tree None = None

abbrev pub definition_of : Place → Word → List Name × Tree → ReadDefinition
definition_of p x s = record { definition = record { title = x; params = words s.0; body = s.1; outside = true }; place = p }

abbrev pub if_reads : Sight → ReadDefinition → Option ReadDefinition
if_reads v d = if definition_reads v d.definition then Some d else None

abbrev pub defined_if : Sight → Place → TokenView → Option (List Name × Tree) → Option ReadDefinition
defined_if v p (tk.word x) (Some s) = if_reads v (definition_of p x s)
defined_if v p k o = None

-- the definition that these tokens are
abbrev pub defined_in : Sight → List Token → Option ReadDefinition
defined_in v [] = None
defined_in v (t ∷ ts) = defined_if v t.place t.kind (with_tree (head_in ts))

-- what they are spelled as, whether it is read or not
abbrev pub spelled_if : Place → TokenView → Option (List Name × Tree) → Option ReadDefinition
spelled_if p (tk.word x) (Some s) = Some (definition_of p x s)
spelled_if p k o = None

abbrev pub spelled_in : List Token → Option ReadDefinition
spelled_in [] = None
spelled_in (t ∷ ts) = spelled_if t.place t.kind (with_tree (head_in ts))

abbrev pub if_spelled : Sight → Option ReadDefinition → Option ReadDefinition
if_spelled v (Some d) = if_reads v d
if_spelled v None = None

-- ---- units

-- it declares modules or constants
abbrev pub declares : List Token → Bool
declares ts = is_some (modules_in ts) || is_some (constants_in ts)

abbrev pub constants_or : Option (List Name) → Option ReadDefinition → List Token → OutsideUnit
constants_or (Some xs) d ts = constants xs
constants_or None (Some d) ts = defines d
constants_or None None ts = opaque (opaque_of ts)

abbrev pub extends_or : Option (List Name) → Option (List Name) → Option ReadDefinition → List Token → OutsideUnit
extends_or (Some ms) xs d ts = extends ms
extends_or None xs d ts = constants_or xs d ts

abbrev pub defined_before : Bool → Sight → List Token → Option ReadDefinition
defined_before true v ts = defined_in v ts
defined_before false v ts = None

-- the unit that these tokens are, before the translation or after it
abbrev pub unit_in : Bool → Sight → List Token → OutsideUnit
unit_in b v ts = extends_or (modules_in ts) (constants_in ts) (defined_before b v ts) ts

abbrev pub seen_behind : Sight → OutsideUnit → Sight
seen_behind v u = record v { earlier = v.earlier ++ found (definitions_of u) }

abbrev pub units_in : Bool → Sight → List (List Token) → List OutsideUnit
units_in b v [] = []
units_in b v (ts ∷ tss) = (let u = unit_in b v ts in u ∷ units_in b (seen_behind v u) tss)

-- ---- what is declared in units

abbrev pub all_modules : List (List Token) → List Name
all_modules tss = flat_map (λ ts. unwrap_or (modules_in ts) []) tss

abbrev pub constants_of_unit : Option (List Name) → Option (List Name) → List Name
constants_of_unit (Some ms) xs = []
constants_of_unit None xs = unwrap_or xs []

abbrev pub all_constants : List (List Token) → List Name
all_constants tss = flat_map (λ ts. constants_of_unit (modules_in ts) (constants_in ts)) tss

-- what is seen by all units of a file, before any definition is read
abbrev pub sight_of_units : List (List Token) → Sight
sight_of_units tss = record { modules = words (all_modules tss); constants = words (all_constants tss); earlier = [] }

-- what a file with these units before the place of a translation and after it has outside
abbrev pub outside_in : List (List Token) → List (List Token) → Outside
outside_in front back =
    let v = sight_of_units (front ++ back) in
    record {
      extended = words (all_modules (front ++ back));
      constants = all_constants (front ++ back);
      definitions = flat_map definitions_of (units_in true v front);
      opaque = flat_map unread_of (units_in true v front) ++ flat_map unread_of (units_in false v back);
    }
