-- What is kept: the set of what the rows that were passed assign.
use Rattle.std.proofs.Common.{◌≡◌, List, take}
use Rattle.tla_token.specs.Signs.{is_among}
use Rattle.tla_tree.specs.Tree.{Word}
use Rattle.name_bits.specs.NamesIn.{names_in}
use Rattle.step_items.specs.Branching.{rows_assign}
use Rattle.step_items.proofs.statements.all_assigned.Given as goal

abbrev pub invariant-loop-row : goal.invariant-loop-row
invariant-loop-row l = (vs : List Word) (y : Word) → is_among (names_in vs l.all) y ≡ rows_assign vs (take l.row-index l.rows) y
