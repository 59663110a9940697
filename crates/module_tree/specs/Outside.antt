-- Units outside the translation: which are read, and what is kept of those that are not ("Specifying Systems", sections 17.1 to 17.5; standard modules, chapter 18).
use Rattle.std.specs.Prelude.{◌≡◌, ◌⊎◌, ℕ, ◌+◌, ◌&&◌, ◌||◌, not, Bool, true, false, nat_lt, nat_le, nat_eq, bytes_eq, IsTrue, List, [], ◌∷◌, ◌++◌, length, Option, Some, None, codes, cond}
use Rattle.std.specs.List.{flat_map}
use Rattle.tla_token.specs.declared.place.Place.{Place}
use Rattle.tla_token.specs.Places.{start}
use Rattle.tla_token.specs.Limits.{past_numbers, deepest_expression, deepest_definition}
use Rattle.tla_token.specs.Signs.{is_among}
use Rattle.tla_token.specs.Words.{is_standard}
use Rattle.tla_tree.specs.Tree.{Word, Name, Form, number, strings, name, next, strict, operator, operator_call, binding, local, Tree, node, Trees, no_trees, tree, words, seen_names}
use Rattle.tla_tree.specs.Lexical.{TokenView, Token, mark}
use Rattle.tla_tree.specs.Lexical as tk
use Rattle.tla_tree.specs.Spelling.{Phrase, Right, Good, tree_of}
use Rattle.tla_tree.specs.Nesting.{text_nesting}
use Rattle.tla_value.specs.Definitions.{Definition}
use Rattle.tla_value.specs.DefinitionNesting.{definition_nests, depths}
use Rattle.tla_value.specs.Outside.{Opaque, ReadDefinition, found}
use Rattle.tla_value.specs.StandardModules.{extends_one, has_operator, StandardName, standard_table, standard_in, is_member, is_last}
use Rattle.module_tree.specs.Module.{OutsideUnit, extends, constants, defines, opaque, definitions_of}
use Rattle.module_tree.specs.Grammar.{keyword, Names, spell_names, names_of, GoodNames}
use Rattle.module_tree.specs.Units.{ParameterForm, parameters, GoodParameters, definition_form, spell_unit}

-- what an outside unit may use
pub record Sight : Type 0 where
  pub modules : List Word  -- those extended anywhere in the module
  pub constants : List Word  -- those declared anywhere in it
  pub earlier : List Definition  -- those read before

-- ---- names of standard modules

-- with n arguments; an infinite set stands only where it may
abbrev pub standard_reads : Sight → Bool → Option StandardName → ℕ → Bool
standard_reads v inf None n = false
standard_reads v inf (Some d) n = nat_eq d.arity n && (extends_one v.modules d.modules && (inf || not d.infinite))

abbrev pub has_standard : Sight → Bool → Word → ℕ → Bool
has_standard v inf f n = standard_reads v inf (standard_in standard_table f) n

-- how many parameters the last definition of that name has
abbrev pub arity : List Definition → Word → Option ℕ
arity [] f = None
arity (d ∷ ds) f = by (arity ds f) (bytes_eq d.title f) (length d.params)
  where
    by : Option ℕ → Bool → ℕ → Option ℕ
    by (Some n) b k = Some n
    by None true k = Some k
    by None false k = None

abbrev pub is_arity : Option ℕ → ℕ → Bool
is_arity (Some k) n = nat_eq k n
is_arity None n = false

abbrev pub is_defined : Option ℕ → Bool
is_defined (Some k) = true
is_defined None = false

-- ---- which definitions are read

-- x may be a parameter or a bound name, where those of bs are bound already
abbrev pub is_fresh : Sight → List Word → Word → Bool
is_fresh v bs x = not (is_standard v.modules x) && (not (is_among v.constants x) && (not (is_defined (arity v.earlier x)) && not (is_among bs x)))

abbrev pub are_fresh : Sight → List Word → List Word → Bool
are_fresh v bs [] = true
are_fresh v bs (x ∷ xs) = is_fresh v bs x && are_fresh v (x ∷ bs) xs

abbrev pub count : Trees → ℕ
count no_trees = 0
count (tree t ts) = count ts + 1

-- the form alone, with n parts, where the names of bs are bound; `inf` says that it stands directly right of \in or \notin
abbrev pub form_reads : Sight → List Word → Bool → Form → ℕ → Bool
form_reads v bs inf (number k) n = nat_lt k past_numbers
form_reads v bs inf strings n = inf
form_reads v bs inf (name x) n = is_among bs x || (is_among v.constants x || (is_arity (arity v.earlier x) 0 || has_standard v inf x 0))
form_reads v bs inf (next x) n = false
form_reads v bs inf (operator_call f) n = is_arity (arity v.earlier f) n || has_standard v inf f n
form_reads v bs inf (strict (operator o)) n = has_operator v.modules o
form_reads v bs inf (binding b groups) n = are_fresh v bs (flat_map words groups)
form_reads v bs inf (local xs) n = are_fresh v bs (words xs)
form_reads v bs inf _ n = true

abbrev mutual
  pub tree_reads : Sight → List Word → Bool → Tree → Bool
  tree_reads v bs inf (node m at ts) = form_reads v bs inf m (count ts) && trees_read v bs (seen_names m) (is_member m) ts

  -- each part sees further names, and the last may be infinite
  pub trees_read : Sight → List Word → List (List Word) → Bool → Trees → Bool
  trees_read v bs names inf no_trees = true
  trees_read v bs [] inf (tree t ts) = tree_reads v bs (inf && is_last ts) t && trees_read v bs [] inf ts
  trees_read v bs (xs ∷ names) inf (tree t ts) = tree_reads v (xs ++ bs) (inf && is_last ts) t && trees_read v bs names inf ts

-- a definition that has a constant's name is not
abbrev pub definition_reads : Sight → Definition → Bool
definition_reads v d =
    not (is_among v.constants d.title) && (are_fresh v [] d.params
    && (tree_reads v d.params false d.body && nat_le (definition_nests (depths [] v.earlier) d) deepest_definition))

-- ---- what is kept of a unit that is not read

abbrev pub identifiers : List Token → List Word
identifiers [] = []
identifiers (t ∷ ts) = by t.kind (identifiers ts)
  where
    by : TokenView → List Word → List Word
    by (tk.word x) xs = x ∷ xs
    by (tk.reserved x) xs = x ∷ xs
    by _ xs = xs

abbrev pub first_one : List Word → List Word
first_one [] = []
first_one (x ∷ xs) = x ∷ []

abbrev pub is_define : TokenView → Bool
is_define (mark tk.defines) = true
is_define _ = false

-- N, where `N ==` stands here
abbrev pub title_at : List Token → List Word
title_at (t ∷ u ∷ ts) = cond (is_define u.kind) (identifiers (t ∷ [])) []
title_at _ = []

abbrev pub keyword_of : TokenView → Word
keyword_of (tk.other w) = w
keyword_of _ = []

abbrev pub names_by : Word → Token → List Token → List Word
names_by w t ts =
    cond (is_among (codes "ASSUME" ∷ codes "ASSUMPTION" ∷ codes "AXIOM" ∷ codes "THEOREM" ∷ []) w) (title_at ts)
    (cond (is_among (codes "CONSTANT" ∷ codes "CONSTANTS" ∷ codes "RECURSIVE" ∷ []) w) (identifiers ts) (first_one (identifiers (t ∷ ts))))

abbrev pub opaque_of : List Token → Opaque
opaque_of [] = record { keyword = []; names = []; place = start }
opaque_of (t ∷ ts) = record { keyword = keyword_of t.kind; names = names_by (keyword_of t.kind) t ts; place = t.place }

-- ---- units: what ends a unit alone tells where it ends, so its tokens may stand in any column

pub record Named (w : Word) (ts : List Token) (xs : List Name) : Type 0 where
  pub at : Place
  pub names : Names
  pub good : GoodNames 0 names
  pub spelled : ts ≡ keyword at w (spell_names names [])
  pub are : names_of names ≡ xs

pub record Defined (v : Sight) (ts : List Token) (d : ReadDefinition) : Type 0 where
  pub at : Place
  pub params : Option ParameterForm
  pub sign : Place
  pub body : Phrase
  pub good : GoodParameters 0 params × Right 0 sign × Good 0 body
  pub spelled : ts ≡ spell_unit (definition_form at d.definition.title params sign body) []
  pub is : record {
    definition = record { title = d.definition.title; params = parameters params; body = tree_of body; outside = true };
    place = at;
  } ≡ d
  pub shallow : IsTrue (nat_le (text_nesting body) deepest_expression)
  pub reads : IsTrue (definition_reads v d.definition)

-- the unit is read; definitions are read only before the translation
abbrev pub IsRead : Bool → Sight → List Token → OutsideUnit → Type 0
IsRead b v ts (extends ms) = Named (codes "EXTENDS") ts ms
IsRead b v ts (constants xs) = Named (codes "CONSTANT") ts xs ⊎ Named (codes "CONSTANTS") ts xs
IsRead b v ts (defines d) = IsTrue b × Defined v ts d
IsRead b v ts (opaque o) = ⊥

-- it is, or else it is passed on
abbrev pub IsOutside : Bool → Sight → List Token → OutsideUnit → Type 0
IsOutside b v ts (opaque o) = ((u : OutsideUnit) → IsRead b v ts u → ⊥) × (o ≡ opaque_of ts)
IsOutside b v ts u = IsRead b v ts u

-- each sees the definitions before it
abbrev pub AllOutside : Bool → Sight → List (List Token) → List OutsideUnit → Type 0
AllOutside b v [] [] = Unit {0}
AllOutside b v (ts ∷ more) (u ∷ us) = IsOutside b v ts u × AllOutside b (record v { earlier = v.earlier ++ found (definitions_of u) }) more us
AllOutside b v _ _ = ⊥
