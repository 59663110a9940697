-- The written translation of an algorithm with all kinds of parts, to the byte, by computation; and that it reads back.
use Rattle.std.proofs.Common.{◌≡◌, [], ◌∷◌, true, false, codes, refl}
use Rattle.std.specs.Fmt.{digits}
use Rattle.tla_tree.specs.declared.op.Op.TheVariants.{Plus, Times, Range}
use Rattle.tla_tree.specs.Tree.{Tree, no_trees, tree}
use Rattle.tla_value.specs.Outside.{Outside}
use Rattle.module_tree.specs.Layout.{layout}
use Rattle.module_tree.specs.Walk.{State}
use Rattle.module_tree.specs.laws.WritableRegion.{IsReadBack}
use Rattle.module_tree.specs.Formulas.{named, set}
use Rattle.pcal_tree.specs.declared.mark.Mark.TheVariants as marked
use Rattle.pcal_tree.specs.declared.mark.Fairness.TheVariants.{Weak, Strong}
use Rattle.pcal_tree.specs.Algorithm.{Statement, skip, goto, call, return, mark, unset, among, Definition, Procedure, Process, processes, Algorithm}
use Rattle.translation.specs.Region.{written_region}
use Rattle.translation.proofs.WorkedRegions.{reads_back}
use Rattle.translation.proofs.Trees.{word, num, over, and_next, just, sets, labelled, variable}

abbrev sequences : Outside
sequences = record { extended = codes "Integers" ∷ codes "Sequences" ∷ []; constants = []; definitions = []; opaque = [] }

abbrev self : Tree
self = named (codes "self")

abbrev adds : Tree → Statement
adds e = call (word (codes "Add")) (tree e no_trees)

-- define Twice(a) == 2 * a end define
abbrev twice : Definition
twice = record { name = word (codes "Twice"); params = word (codes "a") ∷ []; body = over Times (num 2) (named (codes "a")) }

-- procedure Add(n) variable k = n + self; begin P:+ g := k; R: return; end procedure
abbrev add : Procedure
add = record {
  name = word (codes "Add");
  params = record { name = word (codes "n"); start = unset } ∷ [];
  variables = variable (codes "k") (over Plus (named (codes "n")) self) ∷ [];
  body = mark (word (codes "P")) marked.Strong (and_next (sets (codes "g") (named (codes "k"))) (labelled (codes "R") (just return)));
}

-- fair process Q \in 1..3 variables m \in {0, 1}, l = m; begin A:- call Add(m); B: skip; end process
abbrev weak : Process
weak = record {
  name = word (codes "Q");
  fairness = Weak;
  several = true;
  identity = over Range (num 1) (num 3);
  variables = record { name = word (codes "m"); start = among (set (num 0 ∷ num 1 ∷ [])) } ∷ variable (codes "l") (named (codes "m")) ∷ [];
  body = mark (word (codes "A")) marked.LeftOut (and_next (adds (named (codes "m"))) (labelled (codes "B") (just skip)));
}

-- fair+ process S = 4 variable j = self; begin C: j := self; call Add(j); D:- goto D; end process
abbrev strong : Process
strong = record {
  name = word (codes "S");
  fairness = Strong;
  several = false;
  identity = num 4;
  variables = variable (codes "j") self ∷ [];
  body = labelled (codes "C") (and_next (sets (codes "j") self) (and_next (adds (named (codes "j"))) (mark (word (codes "D")) marked.LeftOut (just (goto (codes "D"))))));
}

-- --fair algorithm All variable g;
abbrev all_parts : Algorithm
all_parts = record {
  name = word (codes "All");
  fair = true;
  globals = record { name = word (codes "g"); start = unset } ∷ [];
  definitions = twice ∷ [];
  macros = [];
  procedures = add ∷ [];
  main = processes (weak ∷ strong ∷ []);
}

all_units : layout (written_region false sequences all_parts) ≡ codes "CONSTANT defaultInitValue\n\nVARIABLES g, pc, stack, n, k, m, l, j\n\nTwice(a) == 2 * a\n\nvars == <<g, pc, stack, n, k, m, l, j>>\n\nProcSet == (1..3) \\cup {4}\n\nInit ==\n  /\\ g = defaultInitValue\n  /\\ n = [self \\in ProcSet |-> defaultInitValue]\n  /\\ k = [self \\in ProcSet |-> n[self] + self]\n  /\\ m \\in [1..3 -> {0, 1}]\n  /\\ l = [self \\in (1..3) |-> m[self]]\n  /\\ j = 4\n  /\\ stack = [self \\in ProcSet |-> <<>>]\n  /\\ pc = [self \\in ProcSet |-> CASE (self \\in (1..3)) -> \"A\" [] (self = 4) -> \"C\"]\n\nP(self) ==\n  /\\ (pc[self] = \"P\")\n  /\\ g' = k[self]\n  /\\ pc' = [pc EXCEPT ![self] = \"R\"]\n  /\\ UNCHANGED <<stack, n, k, m, l, j>>\n\nR(self) ==\n  /\\ (pc[self] = \"R\")\n  /\\ pc' = [pc EXCEPT ![self] = Head(stack[self]).pc]\n  /\\ n' = [n EXCEPT ![self] = Head(stack[self]).n]\n  /\\ k' = [k EXCEPT ![self] = Head(stack[self]).k]\n  /\\ stack' = [stack EXCEPT ![self] = Tail(stack[self])]\n  /\\ UNCHANGED <<g, m, l, j>>\n\nAdd(self) ==\n  \\/ P(self)\n  \\/ R(self)\n\nA(self) ==\n  /\\ (pc[self] = \"A\")\n  /\\ stack' = [stack EXCEPT ![self] = <<[procedure |-> \"Add\", pc |-> \"B\", n |-> n[self], k |-> k[self]]>> \\o stack[self]]\n  /\\ n' = [n EXCEPT ![self] = m[self]]\n  /\\ k' = [k EXCEPT ![self] = n'[self] + self]\n  /\\ pc' = [pc EXCEPT ![self] = \"P\"]\n  /\\ UNCHANGED <<g, m, l, j>>\n\nB(self) ==\n  /\\ (pc[self] = \"B\")\n  /\\ (TRUE)\n  /\\ pc' = [pc EXCEPT ![self] = \"Done\"]\n  /\\ UNCHANGED <<g, stack, n, k, m, l, j>>\n\nQ(self) ==\n  \\/ A(self)\n  \\/ B(self)\n\nC ==\n  /\\ (pc[4] = \"C\")\n  /\\ j' = 4\n  /\\ stack' = [stack EXCEPT ![4] = <<[procedure |-> \"Add\", pc |-> \"D\", n |-> n[4], k |-> k[4]]>> \\o stack[4]]\n  /\\ n' = [n EXCEPT ![4] = j']\n  /\\ k' = [k EXCEPT ![4] = n'[4] + 4]\n  /\\ pc' = [pc EXCEPT ![4] = \"P\"]\n  /\\ UNCHANGED <<g, m, l>>\n\nD ==\n  /\\ (pc[4] = \"D\")\n  /\\ pc' = [pc EXCEPT ![4] = \"D\"]\n  /\\ UNCHANGED <<g, stack, n, k, m, l, j>>\n\nS ==\n  \\/ C\n  \\/ D\n\nTerminating ==\n  /\\ (\\A self \\in ProcSet : pc[self] = \"Done\")\n  /\\ UNCHANGED vars\n\nNext ==\n  \\/ \\E self \\in ProcSet : Add(self)\n  \\/ \\E self \\in (1..3) : Q(self)\n  \\/ S\n  \\/ Terminating\n\nSpec ==\n  /\\ Init\n  /\\ [][Next]_vars\n  /\\ WF_vars(Next)\n  /\\ \\A self \\in (1..3) : WF_vars((pc[self] \\notin {\"A\"}) /\\ Q(self))\n  /\\ \\A self \\in (1..3) : WF_vars(Add(self))\n  /\\ \\A self \\in (1..3) : SF_vars(P(self))\n  /\\ SF_vars((pc[4] \\notin {\"D\"}) /\\ S)\n  /\\ SF_vars(Add(4))\n\nTermination == <>(\\A self \\in ProcSet : pc[self] = \"Done\")\n"
unfolding digits
all_units = refl

all_units_read : (st : State) → IsReadBack st (written_region false sequences all_parts)
all_units_read st = reads_back (written_region false sequences all_parts) refl st
