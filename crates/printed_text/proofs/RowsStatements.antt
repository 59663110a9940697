-- Worked rows of printing, by computation: the lines of each statement in both syntaxes, at two blanks.
use Rattle.std.proofs.Common.{◌≡◌, refl, List, [], ◌∷◌, codes}
use Rattle.tla_tree.specs.declared.op.Op.TheVariants as op
use Rattle.tla_tree.specs.Tree.{Word, Name, Tree, node, strict, operator, no_trees, tree}
use Rattle.tla_tree.specs.Tree as expr
use Rattle.pcal_tree.specs.declared.mark.Mark.TheVariants as marked
use Rattle.pcal_tree.specs.Algorithm.{nowhere, Statement, assign, await, print, assert, skip, branch, either, with, while, goto, macro, call, return, Statements, done, then, mark, no_assignments, assignment, no_binds, one_of, is, no_branches, or}
use Rattle.pcal_tree.specs.Placeless.{no_span}
use Rattle.pcal_tree.specs.Grammar.{Syntax, p_syntax, c_syntax}
use Rattle.pcal_tree.specs.Printed.{Text, statements}

abbrev n : Word → Name
n x = record { word = x; place = nowhere }

abbrev var : Word → Tree
var x = node (expr.name x) nowhere no_trees

abbrev x : Tree
x = var (codes "x")

abbrev y : Tree
y = var (codes "y")

-- x > y
abbrev greater : Tree
greater = node (strict (operator op.Greater)) nowhere (tree x (tree y no_trees))

abbrev alone : Statement → Statements
alone s = then no_span s done

abbrev labelled : Statement → Statements
labelled s = mark (n (codes "A")) marked.Plain (alone s)

-- x := y
abbrev set : Statement
set = assign (assignment x y no_assignments)

abbrev set_alone : Statements
set_alone = alone set

abbrev skip_alone : Statements
skip_alone = alone skip

abbrev lines : Syntax → Statements → List Text
lines s ss = statements s 2 [] ss []

-- ---- simple statements are printed alike

assigned : (s : Syntax) → lines s (labelled set) ≡ codes "  A: x := y;" ∷ []
assigned s = refl

-- two at once, with a subscript and a field on the left
several : (s : Syntax) → lines s (alone (assign (assignment (node (strict expr.apply) nowhere (tree x (tree y no_trees))) greater (assignment (node (strict (expr.select (codes "f"))) nowhere (tree x no_trees)) y no_assignments)))) ≡ codes "  x[y] := x > y || x.f := y;" ∷ []
several s = refl

awaited : (s : Syntax) → lines s (labelled (await greater)) ≡ codes "  A: await x > y;" ∷ []
awaited s = refl

printed_value : (s : Syntax) → lines s (alone (print x)) ≡ codes "  print x;" ∷ []
printed_value s = refl

asserted : (s : Syntax) → lines s (alone (assert greater)) ≡ codes "  assert x > y;" ∷ []
asserted s = refl

skipped : (s : Syntax) → lines s skip_alone ≡ codes "  skip;" ∷ []
skipped s = refl

jumped : (s : Syntax) → lines s (alone (goto (codes "A"))) ≡ codes "  goto A;" ∷ []
jumped s = refl

called : (s : Syntax) → lines s (alone (call (n (codes "P")) (tree x (tree greater no_trees)))) ≡ codes "  call P(x, x > y);" ∷ []
called s = refl

called_with_nothing : (s : Syntax) → lines s (alone (call (n (codes "P")) no_trees)) ≡ codes "  call P();" ∷ []
called_with_nothing s = refl

returned : (s : Syntax) → lines s (labelled return) ≡ codes "  A: return;" ∷ []
returned s = refl

macro_called : (s : Syntax) → lines s (alone (macro (codes "M") (tree x no_trees))) ≡ codes "  M(x);" ∷ []
macro_called s = refl

-- ---- labels and their marks

strong_label : (s : Syntax) → lines s (mark (n (codes "A")) marked.Strong set_alone) ≡ codes "  A:+ x := y;" ∷ []
strong_label s = refl

left_out_label : (s : Syntax) → lines s (mark (n (codes "A")) marked.LeftOut set_alone) ≡ codes "  A:- x := y;" ∷ []
left_out_label s = refl

two_labels : (s : Syntax) → lines s (mark (n (codes "A")) marked.Plain (mark (n (codes "B")) marked.Plain skip_alone)) ≡ codes "  A: B: skip;" ∷ []
two_labels s = refl

-- ---- if

abbrev one_way : Statements
one_way = labelled (branch greater set_alone done)

one_way_in_p : lines p_syntax one_way ≡ codes "  A: if x > y then" ∷ codes "    x := y;" ∷ codes "  end if;" ∷ []
one_way_in_p = refl

one_way_in_c : lines c_syntax one_way ≡ codes "  A: if (x > y) {" ∷ codes "    x := y;" ∷ codes "  };" ∷ []
one_way_in_c = refl

abbrev two_ways : Statements
two_ways = alone (branch greater (labelled set) (mark (n (codes "B")) marked.Plain skip_alone))

two_ways_in_p : lines p_syntax two_ways ≡ codes "  if x > y then" ∷ codes "    A: x := y;" ∷ codes "  else" ∷ codes "    B: skip;" ∷ codes "  end if;" ∷ []
two_ways_in_p = refl

two_ways_in_c : lines c_syntax two_ways ≡ codes "  if (x > y) {" ∷ codes "    A: x := y;" ∷ codes "  } else {" ∷ codes "    B: skip;" ∷ codes "  };" ∷ []
two_ways_in_c = refl

-- an `elsif` is an `if` in the `else`
abbrev three_ways : Statements
three_ways = alone (branch greater set_alone (alone (branch x skip_alone done)))

three_ways_in_p : lines p_syntax three_ways ≡ codes "  if x > y then" ∷ codes "    x := y;" ∷ codes "  else" ∷ codes "    if x then" ∷ codes "      skip;" ∷ codes "    end if;" ∷ codes "  end if;" ∷ []
three_ways_in_p = refl

three_ways_in_c : lines c_syntax three_ways ≡ codes "  if (x > y) {" ∷ codes "    x := y;" ∷ codes "  } else {" ∷ codes "    if (x) {" ∷ codes "      skip;" ∷ codes "    };" ∷ codes "  };" ∷ []
three_ways_in_c = refl

-- ---- while, either, with

abbrev loop : Statements
loop = labelled (while greater (then no_span set skip_alone))

loop_in_p : lines p_syntax loop ≡ codes "  A: while x > y do" ∷ codes "    x := y;" ∷ codes "    skip;" ∷ codes "  end while;" ∷ []
loop_in_p = refl

loop_in_c : lines c_syntax loop ≡ codes "  A: while (x > y) {" ∷ codes "    x := y;" ∷ codes "    skip;" ∷ codes "  };" ∷ []
loop_in_c = refl

abbrev choice : Statements
choice = labelled (either (or set_alone (or (mark (n (codes "B")) marked.Plain skip_alone) (or skip_alone no_branches))))

choice_in_p : lines p_syntax choice ≡ codes "  A: either" ∷ codes "    x := y;" ∷ codes "  or" ∷ codes "    B: skip;" ∷ codes "  or" ∷ codes "    skip;" ∷ codes "  end either;" ∷ []
choice_in_p = refl

choice_in_c : lines c_syntax choice ≡ codes "  A: either {" ∷ codes "    x := y;" ∷ codes "  } or {" ∷ codes "    B: skip;" ∷ codes "  } or {" ∷ codes "    skip;" ∷ codes "  };" ∷ []
choice_in_c = refl

abbrev naming : Statements
naming = alone (with (one_of (n (codes "v")) x (is (n (codes "w")) greater no_binds)) (alone (with (is (n (codes "u")) y no_binds) set_alone)))

naming_in_p : lines p_syntax naming ≡ codes "  with v \\in x, w = x > y do" ∷ codes "    with u = y do" ∷ codes "      x := y;" ∷ codes "    end with;" ∷ codes "  end with;" ∷ []
naming_in_p = refl

naming_in_c : lines c_syntax naming ≡ codes "  with (v \\in x, w = x > y) {" ∷ codes "    with (u = y) {" ∷ codes "      x := y;" ∷ codes "    };" ∷ codes "  };" ∷ []
naming_in_c = refl
