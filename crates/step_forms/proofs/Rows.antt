-- The steps of a body, what is left of lists, and a macro call written out, by computation.
use Rattle.std.proofs.Common.{◌≡◌, [], ◌∷◌, codes, true, refl}
use Rattle.tla_token.specs.declared.place.Place.{Place}
use Rattle.tla_tree.specs.Tree.{Word, truth, Tree, node, no_trees}
use Rattle.pcal_tree.specs.declared.mark.Mark.TheVariants.{Plain}
use Rattle.pcal_tree.specs.Algorithm.{Statement, skip, branch, while, goto, macro, Statements, done, then, mark, Macro}
use Rattle.pcal_tree.specs.Expand.{expanded}
use Rattle.pcal_tree.specs.Run.{unlabelled}
use Rattle.action_builder.specs.Settled.{WrittenJumps}
use Rattle.step_forms.specs.LeftOver.{left_over}
use Rattle.step_forms.specs.Steps.{steps}

abbrev at : Place
at = record { line = 1; col = 1 }

abbrev and_next : Statement → Statements → Statements
and_next st rest = then (record { first = at; last = at }) st rest

abbrev one : Statement → Statements
one st = and_next st done

abbrev labelled : Word → Statements → Statements
labelled l rest = mark (record { word = l; place = at }) Plain rest

abbrev a : Word
a = codes "A"

abbrev b : Word
b = codes "B"

abbrev c : Word
c = codes "C"

abbrev yes : Tree
yes = node (truth true) at no_trees

-- A: while TRUE do skip; B: skip; end while; C: goto A: the loop's body ends at A, and what follows the loop at C
abbrev looping : Statements
looping = and_next (while yes (and_next skip (labelled b (one skip)))) (labelled c (one (goto a)))

steps_row : steps unlabelled (labelled a looping) (codes "Done")
    ≡ record { label = a; begins = record { items = looping; exit = codes "Done" } }
    ∷ record { label = b; begins = record { items = one skip; exit = a } } ∷ record { label = c; begins = record { items = one (goto a); exit = codes "Done" } } ∷ []
steps_row = refl

-- a jump to a label is written as a `goto`, and calls and returns as nothing
abbrev as_goto : WrittenJumps
as_goto = record { goto = λ l. one (goto l); call = λ s p ts l j. done; return = λ s. done }

-- skip; skip: more may follow
still_row : left_over as_goto a b (and_next skip (one skip)) ≡ and_next skip (one skip)
still_row = refl

-- skip; if TRUE then goto C; end if; B: the branch that does not jump itself goes to B
jumping_row : left_over as_goto a (codes "Done") (and_next skip (and_next (branch yes (one (goto c)) (one skip)) (labelled b done)))
    ≡ and_next skip (one (branch yes (one (goto c)) (and_next skip (one (goto b)))))
jumping_row = refl

-- macro M() begin skip; skip; end macro; M(); skip
abbrev twice : Macro
twice = record { name = record { word = codes "M"; place = at }; params = []; body = and_next skip (one skip) }

opened_row : expanded (twice ∷ []) (and_next (macro (codes "M") no_trees) (one skip)) ≡ and_next skip (and_next skip (one skip))
opened_row = refl
