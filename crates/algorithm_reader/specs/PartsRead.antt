-- What code that reads a part of an algorithm gives, beside what the part's reader gives of the same tokens.
use Rattle.std.specs.Prelude.{◌≡◌, ℕ, ◌+◌, ◌*◌, ◌<◌, ◌≤◌, Bool, ◌&&◌, List, [], length, Vec, Result, Option, is_some}
use Rattle.std.specs.declared.alloc.Global.{Global}
use Rattle.tla_token.specs.declared.token.Tokens.{Tokens}
use Rattle.tla_tree.specs.Tree.{Tree, Trees, Name}
use Rattle.tla_token.specs.declared.place.Place.{Place}
use Rattle.tla_tree.specs.Lexical.{Token}
use Rattle.tla_tree.specs.Lexical as tk
use Rattle.tla_tree.specs.Spelling.{Phrase, tree_of}
use Rattle.tla_tree.specs.Pool.{trees_at}
use Rattle.tla_tree.specs.Reader.{Out, Reader, ◌>>=◌, gives}
use Rattle.expr_nodes.specs.declared.cursor.Halt.{Halt}
use Rattle.expr_nodes.specs.ReadIn.{Told}
use Rattle.expr_nodes.specs.Ahead.{ahead}
use Rattle.pcal_tree.specs.declared.mark.Mark.{Mark}
use Rattle.pcal_tree.specs.declared.mark.Mark.TheVariants as fair
use Rattle.pcal_tree.specs.declared.algorithm.Declaration.{Declaration}
use Rattle.pcal_tree.specs.declared.algorithm.Definition.{Definition}
use Rattle.pcal_tree.specs.declared.algorithm.Bind.{Bind}
use Rattle.pcal_tree.specs.InMemory.{past_numbers, declarations_at, past_declarations, definitions_at, past_definitions, binds_at, past_binds}
use Rattle.pcal_tree.specs.Algorithm as tree
use Rattle.pcal_tree.specs.GrammarParts.{Colon, colon, colon_plus, colon_minus, Initial, declaration, Separator, Heading, plain, applied, names_of, Binds, binds_of, bound}
use Rattle.pcal_tree.specs.OpenForms.{after_binds}
use Rattle.syntax_reading.specs.TokenReaders.{name_of, past, a_mark, a_name, name_within, Parts, limited_parts}
use Rattle.syntax_reading.specs.ReadParts.{read_initial, read_heading, bind_by}

-- ---- the readers, as reading a text of these tokens has them: within the limits of open forms, with steps enough for all of them
abbrev pub parts_in : Tokens → Parts
parts_in v = limited_parts (4 * length v.items.items)

-- so many steps are enough from a token on: more than tokens that are left
abbrev pub Enough : Tokens → ℕ → ℕ → Type 0
Enough v i n = length v.items.items < n + i

-- ---- the relation, one for all parts
-- what was read stands for what is spelled: over the trees of the pool both have the same tree, and its numbers are of the pool
pub record StandsFor {X A T : Type 0} (at : List Tree → X → T) (past : X → ℕ) (tree_of : A → T) (ts : List Tree) (x : X) (a : A) : Type 0 where
  pub below : past x ≤ length ts
  pub tree : at ts x ≡ tree_of a

-- what is read stands for what the reader reads, and the tokens behind it are what is left; or the rule and the number of tokens left are those of the reader's refusal
abbrev pub ReadsPart : {X A T : Type 0} → (List Tree → X → T) → (X → ℕ) → (A → T) → Tokens → List Tree → Result (X × ℕ) Halt → Out A → Type 0
ReadsPart {X} {A} at past tree_of v ts r o = Told (λ (x : X × ℕ) (a : A). StandsFor at past tree_of ts x.0 a) (λ x. ahead v x.1) r o

-- of parts that have no expressions: what is read has the same value
abbrev pub ReadsWords : {X A T : Type 0} → (X → T) → (A → T) → Tokens → Result (X × ℕ) Halt → Out A → Type 0
ReadsWords {X} {A} value value_of v r o = Told (λ (x : X × ℕ) (a : A). value x.0 ≡ value_of a) (λ x. ahead v x.1) r o

-- ---- values of parts
-- the mark that is after a label's name
abbrev pub mark_of : Colon → Mark
mark_of (colon p) = fair.Plain
mark_of (colon_plus p q) = fair.Strong
mark_of (colon_minus p q) = fair.LeftOut

abbrev pub itself : {A : Type 0} → A → A
itself a = a

abbrev pub items_of : {A : Type 0} → Vec A Global → List A
items_of xs = xs.items

-- expressions in a row
abbrev pub row_at : List Tree → Vec ℕ Global → Trees
row_at ts es = trees_at ts es.items

abbrev pub past_row : Vec ℕ Global → ℕ
past_row es = past_numbers es.items

-- declarations
abbrev pub all_declared_at : List Tree → Vec Declaration Global → List tree.Declaration
all_declared_at ts ds = declarations_at ts ds.items

abbrev pub past_all_declared : Vec Declaration Global → ℕ
past_all_declared ds = past_declarations ds.items

-- a name with its first value
abbrev pub first_declared : Name × Initial → tree.Declaration
first_declared x = declaration x.0 x.1

abbrev pub declaration_reader : Bool → Parts → Reader (Name × Initial)
declaration_reader b m = a_name >>= λ x. read_initial b m >>= λ i. gives (x, i)

-- definitions: what is named, and one after the other; a heading has a step less than the list that it stands in
abbrev pub StepLess : Tokens → ℕ → ℕ → Type 0
StepLess v i n = length v.items.items ≤ n + i

abbrev pub headed : Name × Vec Name Global → Name × List Name
headed x = (x.0, x.1.items)

abbrev pub heading_parts : Heading → Name × List Name
heading_parts (plain x) = (x, [])
heading_parts (applied x p xs q) = (x, names_of xs)

abbrev pub first_defined : Heading × (Place × Phrase) → tree.Definition
first_defined z = record { name = (heading_parts z.0).0; params = (heading_parts z.0).1; body = tree_of z.1.1 }

abbrev pub definition_reader : Parts → ℕ → Reader (Heading × (Place × Phrase))
definition_reader m n = read_heading n >>= λ h. a_mark tk.defines >>= λ p. m.expr >>= λ e. gives (h, (p, e))

abbrev pub all_defined_at : List Tree → Vec Definition Global → List tree.Definition
all_defined_at ts ds = definitions_at ts ds.items

abbrev pub past_all_defined : Vec Definition Global → ℕ
past_all_defined ds = past_definitions ds.items

-- what a `with` names, with the number of forms that are open behind it
abbrev pub among_of : Bool × Place → Bool
among_of b = b.0

abbrev pub first_bound : Name × ((Bool × Place) × Phrase) → tree.Binds → tree.Binds
first_bound z bs = bound z.1.0.0 z.0 z.1.1 bs

abbrev pub bind_reader : Parts → ℕ → Reader (Name × ((Bool × Place) × Phrase))
bind_reader m d = name_within (m.room (d + 1)) >>= λ x. past bind_by >>= λ b. m.expr >>= λ e. gives (x, (b, e))

abbrev pub all_bound_at : List Tree → Vec Bind Global × ℕ → tree.Binds × ℕ
all_bound_at ts x = (binds_at ts x.0.items, x.1)

abbrev pub past_all_bound : Vec Bind Global × ℕ → ℕ
past_all_bound x = past_binds x.0.items

abbrev pub bound_from : ℕ → Binds → tree.Binds × ℕ
bound_from d bs = (binds_of bs, after_binds d bs)

-- a separator, and a name is the token behind it
abbrev pub is_another : Option Separator → Token → Bool
is_another s t = is_some s && is_some (name_of t.place t.kind)
