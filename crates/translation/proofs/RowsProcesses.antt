-- Written translations of algorithms with processes, to the byte, by computation; and that they read back.
use Rattle.std.proofs.Common.{◌≡◌, ℕ, List, [], ◌∷◌, true, false, codes, refl}
use Rattle.std.specs.List.{AllByRecursion}
use Rattle.std.specs.Fmt.{digits}
use Rattle.tla_tree.specs.declared.op.Op.TheVariants.{Plus, Minus, Greater, Range, Cup}
use Rattle.tla_tree.specs.Tree.{Word, Tree}
use Rattle.module_tree.specs.Module.{Region, spec_unit}
use Rattle.module_tree.specs.Ways.{processes_in, sets_of}
use Rattle.module_tree.specs.Layout.{layout, unit_text, sets_text}
use Rattle.module_tree.specs.Formulas.{named, set}
use Rattle.module_tree.specs.TextFront.{Text}
use Rattle.module_tree.specs.Walk.{State, walk}
use Rattle.module_tree.specs.WithTranslation.{WithTranslation}
use Rattle.module_tree.specs.laws.Outsides.{HasOutside}
use Rattle.module_tree.specs.laws.WritableRegion.{IsReadBack, IsWritten}
use Rattle.module_tree.proofs.WrittenRegion.{written_file}
use Rattle.tla_value.specs.Outside.{Outside}
use Rattle.pcal_tree.specs.declared.mark.Mark.TheVariants as marked
use Rattle.pcal_tree.specs.declared.mark.Fairness.{Fairness}
use Rattle.pcal_tree.specs.declared.mark.Fairness.TheVariants.{Unfair, Weak, Strong}
use Rattle.pcal_tree.specs.Algorithm.{no_binds, one_of, await, skip, with, Statements, mark, Declaration, Process, Algorithm}
use Rattle.translation.specs.Region.{written_region}
use Rattle.translation.proofs.WorkedRegions.{region_tells, all_read}
use Rattle.translation.proofs.Trees.{word, x, num, over, and_next, just, sets, labelled, variable, zero_of, many, integers}

abbrev pub region : Algorithm → Region
region g = written_region false integers g

abbrev sets_of_region : Region → List ℕ
sets_of_region r = sets_text (sets_of (processes_in r.next) r.process_set)

abbrev spec_text : Region → List ℕ
spec_text r = unit_text 1 (spec_unit r.fairness)

abbrev in_set : Word → Tree → List Declaration → Statements → Process
in_set n s ds b = record { name = word n; fairness = Unfair; several = true; identity = s; variables = ds; body = b }

abbrev of_one : Word → Tree → List Declaration → Statements → Process
of_one n e ds b = record { name = word n; fairness = Unfair; several = false; identity = e; variables = ds; body = b }

abbrev fair : Fairness → Process → Process
fair f p = record { name = p.name; fairness = f; several = p.several; identity = p.identity; variables = p.variables; body = p.body }

abbrev one_step : Word → Statements
one_step l = labelled l (just skip)

abbrev one_two : Tree
one_two = set (num 1 ∷ num 2 ∷ [])

abbrev P : Word
P = codes "P"

abbrev Q : Word
Q = codes "Q"

-- ---- ProcSet

-- process P \in {}
abbrev nobody : Algorithm
nobody = many (zero_of x ∷ []) (in_set P (set []) [] (labelled (codes "A") (just (sets x (over Plus (named x) (num 1))))) ∷ [])

no_process : layout (region nobody) ≡ codes "VARIABLES x, pc\n\nvars == <<x, pc>>\n\nProcSet == {}\n\nInit ==\n  /\\ x = 0\n  /\\ pc = [self \\in ProcSet |-> \"A\"]\n\nA(self) ==\n  /\\ (pc[self] = \"A\")\n  /\\ x' = (x + 1)\n  /\\ pc' = [pc EXCEPT ![self] = \"Done\"]\n\nP(self) ==\n  \\/ A(self)\n\nTerminating ==\n  /\\ (\\A self \\in ProcSet : pc[self] = \"Done\")\n  /\\ UNCHANGED vars\n\nNext ==\n  \\/ \\E self \\in {} : P(self)\n  \\/ Terminating\n\nSpec ==\n  /\\ Init\n  /\\ [][Next]_vars\n\nTermination == <>(\\A self \\in ProcSet : pc[self] = \"Done\")\n"
unfolding digits
no_process = refl

-- process P \in 1..3
abbrev ranged : Algorithm
ranged = many [] (in_set P (over Range (num 1) (num 3)) [] (one_step (codes "A")) ∷ [])

one_range : sets_of_region (region ranged) ≡ codes "1..3"
unfolding digits
one_range = refl

-- process P \in {1} \cup {2}: one set
abbrev united : Algorithm
united = many [] (in_set P (over Cup (over Cup (set (num 1 ∷ [])) (set (num 2 ∷ []))) (set [])) [] (one_step (codes "A")) ∷ [])

one_union : sets_of_region (region united) ≡ codes "({1} \\cup {2}) \\cup {}"
unfolding digits
one_union = refl

-- process P \in 1..3 and process Q = 4, and a third
abbrev three : Algorithm
three = many [] (in_set P (over Range (num 1) (num 3)) [] (one_step (codes "A")) ∷ of_one Q (num 4) [] (one_step (codes "B")) ∷ in_set (codes "R") (over Cup (set (num 5 ∷ [])) (set [])) [] (one_step (codes "C")) ∷ [])

three_sets : sets_of_region (region three) ≡ codes "(1..3) \\cup {4} \\cup ({5} \\cup {})"
unfolding digits
three_sets = refl

-- ---- a single process and a process set

-- process P = 7 variable n = 1; begin A: n := n + 1; end process
-- process Q \in {1, 2} variable m = self; begin B: m := 0; end process
abbrev pub two_processes : Algorithm
two_processes =
    many []
    (of_one P (num 7) (variable (codes "n") (num 1) ∷ []) (labelled (codes "A") (just (sets (codes "n") (over Plus (named (codes "n")) (num 1)))))
    ∷ in_set Q one_two (variable (codes "m") (named (codes "self")) ∷ []) (labelled (codes "B") (just (sets (codes "m") (num 0)))) ∷ [])

both_kinds : layout (region two_processes) ≡ codes "VARIABLES pc, n, m\n\nvars == <<pc, n, m>>\n\nProcSet == {7} \\cup {1, 2}\n\nInit ==\n  /\\ n = 1\n  /\\ m = [self \\in {1, 2} |-> self]\n  /\\ pc = [self \\in ProcSet |-> CASE (self = 7) -> \"A\" [] (self \\in {1, 2}) -> \"B\"]\n\nA ==\n  /\\ (pc[7] = \"A\")\n  /\\ n' = (n + 1)\n  /\\ pc' = [pc EXCEPT ![7] = \"Done\"]\n  /\\ UNCHANGED <<m>>\n\nP ==\n  \\/ A\n\nB(self) ==\n  /\\ (pc[self] = \"B\")\n  /\\ m' = [m EXCEPT ![self] = 0]\n  /\\ pc' = [pc EXCEPT ![self] = \"Done\"]\n  /\\ UNCHANGED <<n>>\n\nQ(self) ==\n  \\/ B(self)\n\nTerminating ==\n  /\\ (\\A self \\in ProcSet : pc[self] = \"Done\")\n  /\\ UNCHANGED vars\n\nNext ==\n  \\/ P\n  \\/ \\E self \\in {1, 2} : Q(self)\n  \\/ Terminating\n\nSpec ==\n  /\\ Init\n  /\\ [][Next]_vars\n\nTermination == <>(\\A self \\in ProcSet : pc[self] = \"Done\")\n"
unfolding digits
both_kinds = refl

-- the file with these processes, and the file with their translation, which is one module
abbrev pub file : Text
file = codes "---- MODULE M ----\nEXTENDS Integers\n(*\n--algorithm R\nprocess P = 7\nvariable n = 1;\nbegin\n  A: n := n + 1;\nend process\nprocess Q \\in {1, 2}\nvariable m = self;\nbegin\n  B: m := 0;\nend process\nend algorithm\n*)\n====\n"

abbrev pub translated : Text
translated = codes "---- MODULE M ----\nEXTENDS Integers\n(*\n--algorithm R\nprocess P = 7\nvariable n = 1;\nbegin\n  A: n := n + 1;\nend process\nprocess Q \\in {1, 2}\nvariable m = self;\nbegin\n  B: m := 0;\nend process\nend algorithm\n*)\n\\* BEGIN TRANSLATION\nVARIABLES pc, n, m\n\nvars == <<pc, n, m>>\n\nProcSet == {7} \\cup {1, 2}\n\nInit ==\n  /\\ n = 1\n  /\\ m = [self \\in {1, 2} |-> self]\n  /\\ pc = [self \\in ProcSet |-> CASE (self = 7) -> \"A\" [] (self \\in {1, 2}) -> \"B\"]\n\nA ==\n  /\\ (pc[7] = \"A\")\n  /\\ n' = (n + 1)\n  /\\ pc' = [pc EXCEPT ![7] = \"Done\"]\n  /\\ UNCHANGED <<m>>\n\nP ==\n  \\/ A\n\nB(self) ==\n  /\\ (pc[self] = \"B\")\n  /\\ m' = [m EXCEPT ![self] = 0]\n  /\\ pc' = [pc EXCEPT ![self] = \"Done\"]\n  /\\ UNCHANGED <<n>>\n\nQ(self) ==\n  \\/ B(self)\n\nTerminating ==\n  /\\ (\\A self \\in ProcSet : pc[self] = \"Done\")\n  /\\ UNCHANGED vars\n\nNext ==\n  \\/ P\n  \\/ \\E self \\in {1, 2} : Q(self)\n  \\/ Terminating\n\nSpec ==\n  /\\ Init\n  /\\ [][Next]_vars\n\nTermination == <>(\\A self \\in ProcSet : pc[self] = \"Done\")\n\\* END TRANSLATION\n====\n"

put : WithTranslation file (layout (region two_processes)) translated
unfolding digits
put = record { at = record { from = 206; to = 206 }; is_spot = refl; is = refl }

pub file_reads : (o : Outside) → HasOutside (walk file) o → IsWritten file translated o (region two_processes)
file_reads o h = written_file file translated o (region two_processes) (region_tells (region two_processes) refl) refl h put

-- ---- written names

-- p = 1 and q = 2, each with variable i = 0; start: i := 1; and r = 3 with go: with i \in {1} do skip; end with;
abbrev same_names : Algorithm
same_names =
    many []
    (of_one (codes "p") (num 1) (zero_of (codes "i") ∷ []) (labelled (codes "start") (just (sets (codes "i") (num 1))))
    ∷ of_one (codes "q") (num 2) (zero_of (codes "i") ∷ []) (labelled (codes "start") (just (sets (codes "i") (num 1))))
    ∷ of_one (codes "r") (num 3) [] (labelled (codes "go") (just (with (one_of (word (codes "i")) (set (num 1 ∷ [])) no_binds) (just skip)))) ∷ [])

other_names : layout (region same_names) ≡ codes "VARIABLES pc, i_1, i_2\n\nvars == <<pc, i_1, i_2>>\n\nProcSet == {1} \\cup {2} \\cup {3}\n\nInit ==\n  /\\ i_1 = 0\n  /\\ i_2 = 0\n  /\\ pc = [self \\in ProcSet |-> CASE (self = 1) -> \"start\" [] (self = 2) -> \"start_1\" [] (self = 3) -> \"go\"]\n\nstart ==\n  /\\ (pc[1] = \"start\")\n  /\\ i_1' = 1\n  /\\ pc' = [pc EXCEPT ![1] = \"Done\"]\n  /\\ UNCHANGED <<i_2>>\n\np ==\n  \\/ start\n\nstart_1 ==\n  /\\ (pc[2] = \"start_1\")\n  /\\ i_2' = 1\n  /\\ pc' = [pc EXCEPT ![2] = \"Done\"]\n  /\\ UNCHANGED <<i_1>>\n\nq ==\n  \\/ start_1\n\ngo ==\n  /\\ (pc[3] = \"go\")\n  /\\ \\E i \\in {1} :\n       /\\ (TRUE)\n  /\\ pc' = [pc EXCEPT ![3] = \"Done\"]\n  /\\ UNCHANGED <<i_1, i_2>>\n\nr ==\n  \\/ go\n\nTerminating ==\n  /\\ (\\A self \\in ProcSet : pc[self] = \"Done\")\n  /\\ UNCHANGED vars\n\nNext ==\n  \\/ p\n  \\/ q\n  \\/ r\n  \\/ Terminating\n\nSpec ==\n  /\\ Init\n  /\\ [][Next]_vars\n\nTermination == <>(\\A self \\in ProcSet : pc[self] = \"Done\")\n"
unfolding digits
other_names = refl

-- ---- fairness

-- s = 1;  fair process P \in {1, 2} begin N:- skip; E:+ await s > 0; s := s - 1; end process
abbrev semaphore : Algorithm
semaphore =
    many (variable (codes "s") (num 1) ∷ [])
    (fair Weak (in_set P one_two [] (mark (word (codes "N")) marked.LeftOut (and_next skip
    (mark (word (codes "E")) marked.Strong (and_next (await (over Greater (named (codes "s")) (num 0))) (just (sets (codes "s") (over Minus (named (codes "s")) (num 1))))))))) ∷ [])

weak : layout (region semaphore) ≡ codes "VARIABLES s, pc\n\nvars == <<s, pc>>\n\nProcSet == {1, 2}\n\nInit ==\n  /\\ s = 1\n  /\\ pc = [self \\in ProcSet |-> \"N\"]\n\nN(self) ==\n  /\\ (pc[self] = \"N\")\n  /\\ (TRUE)\n  /\\ pc' = [pc EXCEPT ![self] = \"E\"]\n  /\\ UNCHANGED <<s>>\n\nE(self) ==\n  /\\ (pc[self] = \"E\")\n  /\\ (s > 0)\n  /\\ s' = (s - 1)\n  /\\ pc' = [pc EXCEPT ![self] = \"Done\"]\n\nP(self) ==\n  \\/ N(self)\n  \\/ E(self)\n\nTerminating ==\n  /\\ (\\A self \\in ProcSet : pc[self] = \"Done\")\n  /\\ UNCHANGED vars\n\nNext ==\n  \\/ \\E self \\in {1, 2} : P(self)\n  \\/ Terminating\n\nSpec ==\n  /\\ Init\n  /\\ [][Next]_vars\n  /\\ \\A self \\in {1, 2} : WF_vars((pc[self] \\notin {\"N\"}) /\\ P(self))\n  /\\ \\A self \\in {1, 2} : SF_vars(E(self))\n\nTermination == <>(\\A self \\in ProcSet : pc[self] = \"Done\")\n"
unfolding digits
weak = refl

-- fair+ process P = 7, A:- skip; B: skip;
abbrev strong_one : Algorithm
strong_one = many [] (fair Strong (of_one P (num 7) [] (mark (word (codes "A")) marked.LeftOut (and_next skip (one_step (codes "B"))))) ∷ [])

strong : spec_text (region strong_one) ≡ codes "Spec ==\n  /\\ Init\n  /\\ [][Next]_vars\n  /\\ SF_vars((pc[7] \\notin {\"A\"}) /\\ P)\n"
unfolding digits
strong = refl

-- fair process P = 7, A:- skip; B:- skip; all labels are left out
abbrev left_out : Algorithm
left_out = many [] (fair Weak (of_one P (num 7) [] (mark (word (codes "A")) marked.LeftOut (and_next skip (mark (word (codes "B")) marked.LeftOut (just skip))))) ∷ [])

all_left_out : spec_text (region left_out) ≡ codes "Spec ==\n  /\\ Init\n  /\\ [][Next]_vars\n  /\\ WF_vars((pc[7] \\notin {\"A\", \"B\"}) /\\ P)\n"
unfolding digits
all_left_out = refl

-- ---- each of them reads back, wherever it is put
abbrev worked : List Region
worked = region nobody ∷ region ranged ∷ region united ∷ region three ∷ region two_processes ∷ region same_names ∷ region semaphore ∷ region strong_one ∷ region left_out ∷ []

worked_read : AllByRecursion (λ (r : Region). (st : State) → IsReadBack st r) worked
unfolding digits
worked_read = all_read worked refl
