-- The written actions of labels in a uniprocess algorithm, to the byte, by computation; and that the translations read back.
use Rattle.std.proofs.Common.{◌≡◌, ℕ, List, [], ◌∷◌, map, true, false, codes, refl}
use Rattle.std.specs.List.{AllByRecursion}
use Rattle.std.specs.Fmt.{digits}
use Rattle.tla_tree.specs.declared.op.Op.TheVariants.{Plus, Minus, Greater, Less, Equal}
use Rattle.tla_tree.specs.Tree.{Word, conjunction, disjunction, Tree, node, no_trees, tree}
use Rattle.tla_value.specs.Outside.{Outside}
use Rattle.module_tree.specs.Module.{Region}
use Rattle.module_tree.specs.Walk.{State}
use Rattle.module_tree.specs.laws.WritableRegion.{IsReadBack}
use Rattle.module_tree.specs.Formulas.{named, at, set}
use Rattle.pcal_tree.specs.Algorithm.{nowhere, no_binds, one_of, is, await, print, assert, skip, branch, either, with, while, macro, Statements, done, no_branches, or, Macro, alone, Algorithm}
use Rattle.pcal_tree.specs.Labelled as labels
use Rattle.translation.specs.Region.{written_region}
use Rattle.translation.proofs.WorkedRegions.{all_read}
use Rattle.translation.proofs.Trees.{word, x, y, z, num, over, pair, and_next, just, sets, both, labelled, variable, zero_of, one_body, integers, texts}

-- of all labels, with this outside
abbrev around : Outside → Algorithm → List ℕ
around o g = texts (written_region false o g).actions

abbrev actions_of : Algorithm → List ℕ
actions_of g = around integers g

abbrev titles_of : Algorithm → List Word
titles_of g = map (λ a. a.title) (written_region false integers g).actions

-- x, y = 0;  A: x := 1; y := x;
abbrev ordered : Algorithm
ordered = one_body (zero_of x ∷ zero_of y ∷ []) (labelled (codes "A") (and_next (sets x (num 1)) (just (sets y (named x)))))

in_order : actions_of ordered ≡ codes "A ==\n  /\\ (pc = \"A\")\n  /\\ x' = 1\n  /\\ y' = x'\n  /\\ pc' = \"Done\"\n"
unfolding digits
in_order = refl

-- x = 1, y = 2, a = <<5, 6>>;  A: x := y || y := x;  B: a[1] := 2 || a[2] := a[1];
abbrev a : Tree
a = named (codes "a")

abbrev swap : Statements
swap = labelled (codes "A") (and_next (both (named x) (named y) (named y) (named x)) (labelled (codes "B") (just (both (at a (num 1)) (num 2) (at a (num 2)) (at a (num 1))))))

abbrev swapped : Algorithm
swapped = one_body (variable x (num 1) ∷ variable y (num 2) ∷ variable (codes "a") (pair (num 5) (num 6)) ∷ []) swap

at_once : actions_of swapped ≡ codes "A ==\n  /\\ (pc = \"A\")\n  /\\ x' = y\n  /\\ y' = x\n  /\\ pc' = \"B\"\n  /\\ UNCHANGED <<a>>\nB ==\n  /\\ (pc = \"B\")\n  /\\ a' = [a EXCEPT ![1] = 2, ![2] = a[1]]\n  /\\ pc' = \"Done\"\n  /\\ UNCHANGED <<x, y>>\n"
unfolding digits
at_once = refl

-- x, y, z = 0;  A: if x > 0 then y := 1 end if; z := y;
abbrev branched : Algorithm
branched = one_body (zero_of x ∷ zero_of y ∷ zero_of z ∷ []) (labelled (codes "A") (and_next (branch (over Greater (named x) (num 0)) (just (sets y (num 1))) done) (just (sets z (named y)))))

branches : actions_of branched ≡ codes "A ==\n  /\\ (pc = \"A\")\n  /\\ IF x > 0\n     THEN\n       /\\ y' = 1\n     ELSE\n       /\\ UNCHANGED <<y>>\n  /\\ z' = y'\n  /\\ pc' = \"Done\"\n  /\\ UNCHANGED <<x>>\n"
unfolding digits
branches = refl

-- x = 1, y = 0;  A: await a list of x > 0 \/ y > 0 and x < 5
abbrev list_of_two : Tree
list_of_two = node conjunction nowhere (tree (node disjunction nowhere (tree (over Greater (named x) (num 0)) (tree (over Greater (named y) (num 0)) no_trees))) (tree (over Less (named x) (num 5)) no_trees))

abbrev awaited : Algorithm
awaited = one_body (variable x (num 1) ∷ zero_of y ∷ []) (labelled (codes "A") (just (await list_of_two)))

operands : actions_of awaited ≡ codes "A ==\n  /\\ (pc = \"A\")\n  /\\ (((x > 0) \\/ (y > 0)) /\\ (x < 5))\n  /\\ pc' = \"Done\"\n  /\\ UNCHANGED <<x, y>>\n"
unfolding digits
operands = refl

-- slots = <<1, 1>>, i = 2;  macro P(s) begin await s > 0; s := s - 1; end macro;  A: P(slots[i]);
abbrev s : Tree
s = named (codes "s")

abbrev lowers : Macro
lowers = record { name = word (codes "P"); params = word (codes "s") ∷ []; body = and_next (await (over Greater s (num 0))) (just (sets (codes "s") (over Minus s (num 1)))) }

abbrev slots : Algorithm
slots = record {
  name = word (codes "R");
  fair = false;
  globals = variable (codes "slots") (pair (num 1) (num 1)) ∷ variable (codes "i") (num 2) ∷ [];
  definitions = [];
  macros = lowers ∷ [];
  procedures = [];
  main = alone (labelled (codes "A") (just (macro (codes "P") (tree (at (named (codes "slots")) (named (codes "i"))) no_trees))));
}

macro_call : actions_of slots ≡ codes "A ==\n  /\\ (pc = \"A\")\n  /\\ (slots[i] > 0)\n  /\\ slots' = [slots EXCEPT ![i] = slots[i] - 1]\n  /\\ pc' = \"Done\"\n  /\\ UNCHANGED <<i>>\n"
unfolding digits
macro_call = refl

-- x = 0;  A: x := 1; x := 2; with labels added
abbrev twice : Algorithm
twice = labels.labelled true (one_body (zero_of x ∷ []) (labelled (codes "A") (and_next (sets x (num 1)) (just (sets x (num 2))))))

added_label : actions_of twice ≡ codes "A ==\n  /\\ (pc = \"A\")\n  /\\ x' = 1\n  /\\ pc' = \"Lbl_1\"\nLbl_1 ==\n  /\\ (pc = \"Lbl_1\")\n  /\\ x' = 2\n  /\\ pc' = \"Done\"\n"
unfolding digits
added_label = refl

-- x, y = 0;  x := 1; while x < 3 do x := x + 1; if y = 0 then x := 0; end if; y := y + 1; end while;
abbrev loop : Statements
loop =
    and_next (sets x (num 1)) (just (while (over Less (named x) (num 3))
    (and_next (sets x (over Plus (named x) (num 1)))
    (and_next (branch (over Equal (named y) (num 0)) (just (sets x (num 0))) done)
    (just (sets y (over Plus (named y) (num 1))))))))

abbrev looping : Algorithm
looping = labels.labelled false (one_body (zero_of x ∷ zero_of y ∷ []) loop)

loop_labels : actions_of looping ≡ codes "Lbl_1 ==\n  /\\ (pc = \"Lbl_1\")\n  /\\ x' = 1\n  /\\ pc' = \"Lbl_2\"\n  /\\ UNCHANGED <<y>>\nLbl_2 ==\n  /\\ (pc = \"Lbl_2\")\n  /\\ IF x < 3\n     THEN\n       /\\ x' = (x + 1)\n       /\\ IF y = 0\n          THEN\n            /\\ pc' = \"Lbl_3\"\n          ELSE\n            /\\ pc' = \"Lbl_4\"\n     ELSE\n       /\\ pc' = \"Done\"\n       /\\ UNCHANGED <<x>>\n  /\\ UNCHANGED <<y>>\nLbl_3 ==\n  /\\ (pc = \"Lbl_3\")\n  /\\ x' = 0\n  /\\ pc' = \"Lbl_4\"\n  /\\ UNCHANGED <<y>>\nLbl_4 ==\n  /\\ (pc = \"Lbl_4\")\n  /\\ y' = (y + 1)\n  /\\ pc' = \"Lbl_2\"\n  /\\ UNCHANGED <<x>>\n"
unfolding digits
loop_labels = refl

-- x = 0;  A: with v \in {} do x := v; end with;
abbrev chosen : Algorithm
chosen = one_body (zero_of x ∷ []) (labelled (codes "A") (just (with (one_of (word (codes "v")) (set []) no_binds) (just (sets x (named (codes "v")))))))

some_member : actions_of chosen ≡ codes "A ==\n  /\\ (pc = \"A\")\n  /\\ \\E v \\in {} :\n       /\\ x' = v\n  /\\ pc' = \"Done\"\n"
unfolding digits
some_member = refl

-- and of two numbers
abbrev chosen_of_two : Algorithm
chosen_of_two = one_body (zero_of x ∷ []) (labelled (codes "A") (just (with (one_of (word (codes "v")) (set (num 3 ∷ num 5 ∷ [])) no_binds) (just (sets x (named (codes "v")))))))

some_of_two : actions_of chosen_of_two ≡ codes "A ==\n  /\\ (pc = \"A\")\n  /\\ \\E v \\in {3, 5} :\n       /\\ x' = v\n  /\\ pc' = \"Done\"\n"
unfolding digits
some_of_two = refl

-- x, y = 0;  A: print x; assert x = 0; with v \in {1}, w = v + x do x := w; y := v; end with;
abbrev told : Statements
told =
    and_next (print (named x)) (and_next (assert (over Equal (named x) (num 0)))
    (just (with (one_of (word (codes "v")) (set (num 1 ∷ [])) (is (word (codes "w")) (over Plus (named (codes "v")) (named x)) no_binds))
    (and_next (sets x (named (codes "w"))) (just (sets y (named (codes "v"))))))))

abbrev telling : Algorithm
telling = one_body (zero_of x ∷ zero_of y ∷ []) (labelled (codes "A") told)

nested_names : actions_of telling ≡ codes "A ==\n  /\\ (pc = \"A\")\n  /\\ (PrintT(x))\n  /\\ (Assert(x = 0, \"Failure of assertion.\"))\n  /\\ \\E v \\in {1} :\n       /\\ LET w == v + x IN\n            /\\ x' = w\n            /\\ y' = v\n  /\\ pc' = \"Done\"\n"
unfolding digits
nested_names = refl

-- x = 0;  A: either x := 1; or skip; end either;
abbrev forked : Algorithm
forked = one_body (zero_of x ∷ []) (labelled (codes "A") (just (either (or (just (sets x (num 1))) (or (just skip) no_branches)))))

either_way : actions_of forked ≡ codes "A ==\n  /\\ (pc = \"A\")\n  /\\\n       \\/\n            /\\ x' = 1\n       \\/\n            /\\ (TRUE)\n            /\\ UNCHANGED <<x>>\n  /\\ pc' = \"Done\"\n"
unfolding digits
either_way = refl

-- CONSTANT K;  ASSUME K > 0;  THEOREM Spec;  x = 0;  A: x := x + K;
abbrev with_constant : Outside
with_constant = record {
  extended = codes "Integers" ∷ [];
  constants = word (codes "K") ∷ [];
  definitions = [];
  opaque = record { keyword = codes "ASSUME"; names = []; place = nowhere } ∷ record { keyword = codes "THEOREM"; names = []; place = nowhere } ∷ [];
}

abbrev by_constant : Algorithm
by_constant = one_body (zero_of x ∷ []) (labelled (codes "A") (just (sets x (over Plus (named x) (named (codes "K"))))))

constants : around with_constant by_constant ≡ codes "A ==\n  /\\ (pc = \"A\")\n  /\\ x' = (x + K)\n  /\\ pc' = \"Done\"\n"
unfolding digits
constants = refl

-- ---- each of them reads back, wherever it is put
abbrev region : Algorithm → Region
region g = written_region false integers g

abbrev worked : List Region
worked =
    region ordered ∷ region swapped ∷ region branched ∷ region awaited ∷ region slots ∷ region twice ∷ region looping ∷ region chosen ∷ region chosen_of_two ∷ region telling ∷ region forked ∷ written_region false with_constant by_constant ∷ []

worked_read : AllByRecursion (λ (r : Region). (st : State) → IsReadBack st r) worked
unfolding digits
worked_read = all_read worked refl
