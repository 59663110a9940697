-- Worked examples of algorithms in memory: what they stand for, and past which numbers theirs are.
use Rattle.std.specs.Prelude.{◌≡◌, List, [], ◌∷◌, codes}
use Rattle.std.proofs.Common.{refl, arith}
use Rattle.tla_token.specs.Places.{nowhere}
use Rattle.tla_tree.specs.Tree.{Name, Tree, node, no_trees, number, name}
use Rattle.pcal_tree.specs.declared.mark.Mark.TheVariants as fair
use Rattle.pcal_tree.specs.declared.algorithm.Span.{Span}
use Rattle.pcal_tree.specs.declared.algorithm.Bind.TheVariants as bind
use Rattle.pcal_tree.specs.declared.algorithm.Simple.TheVariants as simple
use Rattle.pcal_tree.specs.declared.algorithm.Stmt.{Stmt}
use Rattle.pcal_tree.specs.declared.algorithm.Stmt.TheVariants as stmt
use Rattle.pcal_tree.specs.declared.algorithm.Start.TheVariants as start
use Rattle.pcal_tree.specs.Algorithm as tree
use Rattle.pcal_tree.specs.InMemory.{statements_at, binds_at, declarations_at, past_statements, past_binds}
use Rattle.pcal_tree.proofs.InMemoryEach.{label_at, simple_in_list_at, past_label, past_simple_in_list}

abbrev seven : Tree
seven = node (number 7) nowhere no_trees

abbrev x_tree : Tree
x_tree = node (name (codes "x")) nowhere no_trees

abbrev pool : List Tree
pool = seven ∷ x_tree ∷ []

abbrev here : Span
here = record { first = nowhere; last = nowhere }

abbrev label_a : Name
label_a = record { word = codes "A"; place = nowhere }

-- A: print 7; await x
abbrev body : List Stmt
body = stmt.Label label_a fair.Plain ∷ stmt.Simple here (simple.Print 0) ∷ stmt.Simple here (simple.Await 1) ∷ []

abbrev span : tree.Span
span = record { first = nowhere; last = nowhere }

a_label_goes_before_the_rest : statements_at pool body ≡ tree.mark label_a fair.Plain (tree.then span (tree.print seven) (tree.then span (tree.await x_tree) tree.done))
a_label_goes_before_the_rest = λ j. label_at pool label_a fair.Plain j (simple_in_list_at pool here (simple.Print 0) j (simple_in_list_at pool here (simple.Await 1) j tree.done))

the_greatest_number_counts : past_statements body ≡ 2
the_greatest_number_counts = omega (arith, past_label label_a fair.Plain, past_simple_in_list here (simple.Print 0), past_simple_in_list here (simple.Await 1))

what_a_with_names : binds_at pool (bind.Among label_a 1 ∷ bind.Is label_a 0 ∷ []) ≡ tree.one_of label_a x_tree (tree.is label_a seven tree.no_binds)
what_a_with_names = refl

past_what_a_with_names : past_binds (bind.Among label_a 1 ∷ bind.Is label_a 0 ∷ []) ≡ 2
past_what_a_with_names = refl

a_variable_with_its_first_value : declarations_at pool (record { name = label_a; start = start.Equals 0 } ∷ []) ≡ record { name = label_a; start = tree.equals seven } ∷ []
a_variable_with_its_first_value = refl
