-- Written translations of algorithms with procedures, to the byte, by computation; and that they read back.
use Rattle.std.proofs.Common.{◌≡◌, ℕ, List, [], ◌∷◌, false, codes, refl}
use Rattle.std.specs.List.{AllByRecursion}
use Rattle.std.specs.Fmt.{digits}
use Rattle.tla_tree.specs.declared.op.Op.TheVariants.{Plus, Minus, Greater}
use Rattle.tla_tree.specs.Tree.{Tree, no_trees, tree}
use Rattle.tla_value.specs.Outside.{Outside}
use Rattle.module_tree.specs.Module.{Region}
use Rattle.module_tree.specs.TextFront.{Text}
use Rattle.module_tree.specs.Walk.{State, walk}
use Rattle.module_tree.specs.WithTranslation.{WithTranslation}
use Rattle.module_tree.specs.laws.Outsides.{HasOutside}
use Rattle.module_tree.specs.laws.WritableRegion.{IsReadBack, IsWritten}
use Rattle.module_tree.proofs.WrittenRegion.{written_file}
use Rattle.module_tree.specs.Layout.{layout}
use Rattle.module_tree.specs.Formulas.{named}
use Rattle.pcal_tree.specs.Algorithm.{branch, goto, call, return, Statement, Statements, done, Procedure, alone, Algorithm}
use Rattle.translation.specs.Region.{written_region}
use Rattle.translation.proofs.WorkedRegions.{region_tells, all_read}
use Rattle.translation.proofs.Trees.{word, num, over, and_next, just, sets, labelled, variable, zero_of, with_main, texts}

-- r = 0;  procedure Add(n = 0) variable k = n + 1; begin P: r := r + k; if n > 0 then call Add(n - 1); end if; Q: return; end procedure;
-- A: call Add(1);
abbrev n : Tree
n = named (codes "n")

abbrev calls : Tree → Statement
calls e = call (word (codes "Add")) (tree e no_trees)

abbrev adds : Statements
adds =
    labelled (codes "P") (and_next (sets (codes "r") (over Plus (named (codes "r")) (named (codes "k"))))
    (and_next (branch (over Greater n (num 0)) (just (calls (over Minus n (num 1)))) done) (labelled (codes "Q") (just return))))

abbrev adder : Procedure
adder = record { name = word (codes "Add"); params = zero_of (codes "n") ∷ []; variables = variable (codes "k") (over Plus n (num 1)) ∷ []; body = adds }

abbrev pub sequences : Outside
sequences = record { extended = codes "Integers" ∷ codes "Sequences" ∷ []; constants = []; definitions = []; opaque = [] }

-- the texts of all actions
abbrev texts_of : Algorithm → List ℕ
texts_of g = texts (written_region false sequences g).actions

abbrev pub add_one : Algorithm
add_one = with_main (zero_of (codes "r") ∷ []) (adder ∷ []) (alone (labelled (codes "A") (just (calls (num 1)))))

whole : layout (written_region false sequences add_one) ≡ codes "VARIABLES r, pc, stack, n, k\n\nvars == <<r, pc, stack, n, k>>\n\nInit ==\n  /\\ r = 0\n  /\\ n = 0\n  /\\ k = (n + 1)\n  /\\ stack = <<>>\n  /\\ pc = \"A\"\n\nP ==\n  /\\ (pc = \"P\")\n  /\\ r' = (r + k)\n  /\\ IF n > 0\n     THEN\n       /\\ stack' = (<<[procedure |-> \"Add\", pc |-> \"Q\", n |-> n, k |-> k]>> \\o stack)\n       /\\ n' = (n - 1)\n       /\\ k' = (n' + 1)\n       /\\ pc' = \"P\"\n     ELSE\n       /\\ pc' = \"Q\"\n       /\\ UNCHANGED <<stack, n, k>>\n\nQ ==\n  /\\ (pc = \"Q\")\n  /\\ pc' = Head(stack).pc\n  /\\ n' = Head(stack).n\n  /\\ k' = Head(stack).k\n  /\\ stack' = Tail(stack)\n  /\\ UNCHANGED <<r>>\n\nAdd ==\n  \\/ P\n  \\/ Q\n\nA ==\n  /\\ (pc = \"A\")\n  /\\ stack' = (<<[procedure |-> \"Add\", pc |-> \"Done\", n |-> n, k |-> k]>> \\o stack)\n  /\\ n' = 1\n  /\\ k' = (n' + 1)\n  /\\ pc' = \"P\"\n  /\\ UNCHANGED <<r>>\n\nTerminating ==\n  /\\ (pc = \"Done\")\n  /\\ UNCHANGED vars\n\nNext ==\n  \\/ Add\n  \\/ A\n  \\/ Terminating\n\nSpec ==\n  /\\ Init\n  /\\ [][Next]_vars\n\nTermination == <>(pc = \"Done\")\n"
unfolding digits
whole = refl

-- a call directly followed by a return is one statement with it, and so is one followed by a jump
abbrev tail_adds : Statements
tail_adds =
    labelled (codes "P") (and_next (sets (codes "r") (over Plus (named (codes "r")) n))
    (just (branch (over Greater n (num 0)) (and_next (calls (over Minus n (num 1))) (just return)) (just return))))

abbrev tail_adder : Procedure
tail_adder = record { name = word (codes "Add"); params = zero_of (codes "n") ∷ []; variables = []; body = tail_adds }

abbrev tail_calls : Algorithm
tail_calls = with_main (zero_of (codes "r") ∷ []) (tail_adder ∷ []) (alone (labelled (codes "A") (just (calls (num 2)))))

call_with_return : texts_of tail_calls ≡ codes "P ==\n  /\\ (pc = \"P\")\n  /\\ r' = (r + n)\n  /\\ IF n > 0\n     THEN\n       /\\ stack' = (<<[procedure |-> \"Add\", pc |-> Head(stack).pc, n |-> Head(stack).n]>> \\o Tail(stack))\n       /\\ n' = (n - 1)\n       /\\ pc' = \"P\"\n     ELSE\n       /\\ pc' = Head(stack).pc\n       /\\ n' = Head(stack).n\n       /\\ stack' = Tail(stack)\nAdd ==\n  \\/ P\nA ==\n  /\\ (pc = \"A\")\n  /\\ stack' = (<<[procedure |-> \"Add\", pc |-> \"Done\", n |-> n]>> \\o stack)\n  /\\ n' = 2\n  /\\ pc' = \"P\"\n  /\\ UNCHANGED <<r>>\n"
unfolding digits
call_with_return = refl

abbrev idle : Procedure
idle = record { name = word (codes "Z"); params = []; variables = []; body = labelled (codes "B") (just return) }

abbrev call_and_jump : Algorithm
call_and_jump = with_main [] (idle ∷ []) (alone (labelled (codes "A") (and_next (call (word (codes "Z")) no_trees) (just (goto (codes "A"))))))

call_with_goto : texts_of call_and_jump ≡ codes "B ==\n  /\\ (pc = \"B\")\n  /\\ pc' = Head(stack).pc\n  /\\ stack' = Tail(stack)\nZ ==\n  \\/ B\nA ==\n  /\\ (pc = \"A\")\n  /\\ stack' = (<<[procedure |-> \"Z\", pc |-> \"A\"]>> \\o stack)\n  /\\ pc' = \"B\"\n"
unfolding digits
call_with_goto = refl

-- ---- each of them reads back, wherever it is put
abbrev worked : List Region
worked = written_region false sequences add_one ∷ written_region false sequences tail_calls ∷ written_region false sequences call_and_jump ∷ []

worked_read : AllByRecursion (λ (r : Region). (st : State) → IsReadBack st r) worked
unfolding digits
worked_read = all_read worked refl

-- ---- the file with the procedure Add, and the file with its translation, which is one module
abbrev pub file : Text
file = codes "---- MODULE M ----\nEXTENDS Integers, Sequences\n(*\n--algorithm R\nvariables r = 0;\nprocedure Add(n = 0)\nvariable k = n + 1;\nbegin\n  P: r := r + k;\n  if n > 0 then call Add(n - 1); end if;\n  Q: return;\nend procedure\nbegin\n  A: call Add(1);\nend algorithm\n*)\n====\n"

abbrev pub translated : Text
translated = codes "---- MODULE M ----\nEXTENDS Integers, Sequences\n(*\n--algorithm R\nvariables r = 0;\nprocedure Add(n = 0)\nvariable k = n + 1;\nbegin\n  P: r := r + k;\n  if n > 0 then call Add(n - 1); end if;\n  Q: return;\nend procedure\nbegin\n  A: call Add(1);\nend algorithm\n*)\n\\* BEGIN TRANSLATION\nVARIABLES r, pc, stack, n, k\n\nvars == <<r, pc, stack, n, k>>\n\nInit ==\n  /\\ r = 0\n  /\\ n = 0\n  /\\ k = (n + 1)\n  /\\ stack = <<>>\n  /\\ pc = \"A\"\n\nP ==\n  /\\ (pc = \"P\")\n  /\\ r' = (r + k)\n  /\\ IF n > 0\n     THEN\n       /\\ stack' = (<<[procedure |-> \"Add\", pc |-> \"Q\", n |-> n, k |-> k]>> \\o stack)\n       /\\ n' = (n - 1)\n       /\\ k' = (n' + 1)\n       /\\ pc' = \"P\"\n     ELSE\n       /\\ pc' = \"Q\"\n       /\\ UNCHANGED <<stack, n, k>>\n\nQ ==\n  /\\ (pc = \"Q\")\n  /\\ pc' = Head(stack).pc\n  /\\ n' = Head(stack).n\n  /\\ k' = Head(stack).k\n  /\\ stack' = Tail(stack)\n  /\\ UNCHANGED <<r>>\n\nAdd ==\n  \\/ P\n  \\/ Q\n\nA ==\n  /\\ (pc = \"A\")\n  /\\ stack' = (<<[procedure |-> \"Add\", pc |-> \"Done\", n |-> n, k |-> k]>> \\o stack)\n  /\\ n' = 1\n  /\\ k' = (n' + 1)\n  /\\ pc' = \"P\"\n  /\\ UNCHANGED <<r>>\n\nTerminating ==\n  /\\ (pc = \"Done\")\n  /\\ UNCHANGED vars\n\nNext ==\n  \\/ Add\n  \\/ A\n  \\/ Terminating\n\nSpec ==\n  /\\ Init\n  /\\ [][Next]_vars\n\nTermination == <>(pc = \"Done\")\n\\* END TRANSLATION\n====\n"

pub put : WithTranslation file (layout (written_region false sequences add_one)) translated
unfolding digits
put = record { at = record { from = 254; to = 254 }; is_spot = refl; is = refl }

pub file_reads : (o : Outside) → HasOutside (walk file) o → IsWritten file translated o (written_region false sequences add_one)
file_reads o h = written_file file translated o (written_region false sequences add_one) (region_tells (written_region false sequences add_one) refl) refl h put
