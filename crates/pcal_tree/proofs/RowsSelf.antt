-- `self` where no process is, and all offences against the rules on names, tried by computation.
use Rattle.std.proofs.Common.{◌≡◌, ℕ, List, [], ◌∷◌, ◌++◌, codes, refl}
use Rattle.tla_token.specs.declared.rule.Rule.TheVariants.{SelfOutside, ProcessNotConstant}
use Rattle.tla_token.specs.declared.rule.Refusal.{Refusal}
use Rattle.tla_tree.specs.declared.op.Op.TheVariants.{Plus}
use Rattle.tla_tree.specs.Tree.{Tree, no_trees}
use Rattle.pcal_tree.specs.Algorithm.{await, skip, macro, Statements, done, Macro, alone, processes, Algorithm}
use Rattle.pcal_tree.specs.OffencesOfNames.{name_offences}
use Rattle.pcal_tree.specs.OffencesSelf.{self_offences}
use Rattle.pcal_tree.specs.laws.MacroSelves.{self_offences_by_calls}
use Rattle.tla_value.specs.Outside.{Outside}
use Rattle.pcal_tree.proofs.Sample.{at, title, x, num, over, labelled, variable}
use Rattle.pcal_tree.proofs.RowsOffences.{stands, read}
use Rattle.pcal_tree.proofs.RowsReads.{D, E}
use Rattle.pcal_tree.proofs.RowsStale.{whole, x_set, awaits, stale, M, calls, procedure, process}

abbrev outside : ℕ → List Refusal
outside n = record { rule = SelfOutside; place = at n } ∷ []

abbrev self : ℕ → Tree
self n = read n (codes "self")

-- macro T() begin await self; end macro, macro U() begin T(); end macro
abbrev T : Macro
T = record { name = title (codes "T"); params = []; body = stands 50 (await (self 51)) done }

abbrev U : Macro
U = record { name = title (codes "U"); params = []; body = stands 52 (macro (codes "T") no_trees) done }

abbrev alone_with : List Macro → Statements → List Refusal
alone_with ms b = self_offences (whole ms [] (alone (labelled (codes "A") b)))

in_one_body : alone_with [] (awaits (self 4)) ≡ outside 4
in_one_body = refl

-- U() reaches T
in_a_called_macro : alone_with (T ∷ U ∷ []) (stands 53 (macro (codes "U") no_trees) done) ≡ outside 51
in_a_called_macro = refl

in_no_called_macro : alone_with (T ∷ U ∷ []) (stands 53 skip done) ≡ []
in_no_called_macro = refl

-- U(); U(); T(): once, where a look through each call finds it three times
abbrev calls_three : Algorithm
calls_three = whole (T ∷ U ∷ []) [] (alone (labelled (codes "A") (stands 53 (macro (codes "U") no_trees) (stands 54 (macro (codes "U") no_trees) (stands 55 (macro (codes "T") no_trees) done)))))

found_once : self_offences calls_three ≡ outside 51
found_once = refl

found_at_each_call : self_offences_by_calls calls_three ≡ outside 51 ++ (outside 51 ++ outside 51)
found_at_each_call = refl

-- U is before T, so its call is of no macro
not_before : alone_with (U ∷ T ∷ []) (stands 53 (macro (codes "U") no_trees) done) ≡ []
not_before = refl

-- M(self): once, in the argument
self_as_argument : alone_with (M ∷ []) (calls (codes "M") (self 31) done) ≡ outside 31
self_as_argument = refl

-- macro I() begin await p; end macro, macro O(p) begin I(); end macro, and O(self): once, in the argument
through_two_macros :
    alone_with (record { name = title (codes "I"); params = []; body = stands 50 (await (read 51 (codes "p"))) done }
    ∷ record { name = title (codes "O"); params = title (codes "p") ∷ []; body = stands 52 (macro (codes "I") no_trees) done } ∷ []) (calls (codes "O") (self 31) done) ≡ outside 31
through_two_macros = refl

-- a procedure of a uniprocess algorithm: in the initial value of v
in_a_procedure : self_offences (whole [] (procedure (self 42) ∷ []) (alone (labelled (codes "A") (stands 53 skip done)))) ≡ outside 42
in_a_procedure = refl

-- a process, a procedure beside it, and the macros that they call; but not the process's head
abbrev in_processes : Tree → List Refusal
in_processes e = self_offences (whole (T ∷ []) (procedure (self 42) ∷ []) (processes (process e (stands 53 (macro (codes "T") no_trees) (awaits (self 4))) ∷ [])))

in_a_process : in_processes (num 1) ≡ []
in_a_process = refl

in_a_head : in_processes (self 9) ≡ outside 9
in_a_head = refl

-- variable x = self; define D == self end define
abbrev at_the_top : Algorithm
at_the_top = record (whole [] [] (processes [])) { globals = variable x (self 60) ∷ []; definitions = record { name = title D; params = []; body = self 61 } ∷ [] }

in_globals_and_definitions : self_offences at_the_top ≡ outside 60 ++ outside 61
in_globals_and_definitions = refl

-- ---- all together

abbrev pub nothing_outside : Outside
nothing_outside = record { extended = codes "Naturals" ∷ []; constants = []; definitions = []; opaque = [] }

-- process P = D begin A: x := 1; await E + self; end process
all_of_an_algorithm :
    name_offences (whole [] [] (processes (process (read 9 D) (x_set (awaits (over Plus (read 4 E) (self 5)))) ∷ []))) nothing_outside
    ≡ record { rule = ProcessNotConstant; place = at 9 } ∷ (stale 4 ++ stale 9)
all_of_an_algorithm = refl
