-- States as lists of names with their values, and the functions from names to values that they stand for.
use Rattle.std.specs.Prelude.{List, Option, ◌==◌}
use Rattle.std.specs.Cmp.Lexicographic.{pointwise}
use Rattle.std.specs.Map.{lookup}
use Rattle.indexmap.specs.IndexMap.{insert_entry}
use Rattle.tla_tree.specs.Tree.{Word}
use Rattle.tla_value.specs.Value.{Value}

-- each name once, in the order of the names
abbrev pub Entries : Type 0
Entries = List (Word × Value)

-- the value of a name
abbrev pub value_of : Entries → Word → Option Value
value_of s x = lookup (pointwise ◌==◌ x) s

-- with another value of a name; a new name goes last
abbrev pub updated : Entries → Word → Value → Entries
updated s x v = insert_entry (pointwise ◌==◌) s x v
