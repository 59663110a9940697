-- What is told where no unit is read: which units tokens are not.
use Rattle.std.specs.Prelude.{◌≡◌, ℕ, List, None}
use Rattle.tla_token.specs.declared.rule.Rule.TheVariants.{TooDeep, Syntax}
use Rattle.tla_tree.specs.Lexical.{Token}
use Rattle.expr_nodes.specs.declared.cursor.Halt.{Halt}
use Rattle.expr_nodes.specs.declared.cursor.Halt.TheVariants as halt
use Rattle.region_reading.specs.UnitReader.{unit_within, unit_in}
use Rattle.region_items.specs.Begins.{bound}

-- by `Syntax` they are no unit, however deep it nests; by `TooDeep` they are none in which l forms may be open; and no other rule is told
abbrev pub NoUnit : ℕ → List Token → Halt → Type 0
NoUnit l ts halt.Memory = Unit {0}
NoUnit l ts (halt.Refused Syntax n) = unit_in ts ≡ None
NoUnit l ts (halt.Refused TooDeep n) = unit_within (bound l) ts ≡ None
NoUnit l ts (halt.Refused r n) = ⊥
