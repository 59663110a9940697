-- What Spec demands of small algorithms, by computation.
use Rattle.std.proofs.Common.{◌≡◌, inl, inr, ℕ, zero, suc, Bool, List, [], ◌∷◌, ◌++◌, length, true, false, codes, refl, ap, map, Option, Some, None}
use Rattle.tla_token.specs.Signs.{is_among}
use Rattle.tla_tree.specs.Tree.{Word, Name, number, Tree, node, no_trees}
use Rattle.tla_value.specs.Stops.{plain}
use Rattle.tla_value.specs.Definitions.{no_state}
use Rattle.module_tree.specs.Module.{Fairness as Line, call, call_with}
use Rattle.module_tree.specs.Formulas.{self, named, quoted, at, is_in, set}
use Rattle.pcal_tree.specs.declared.mark.Mark.{Mark}
use Rattle.pcal_tree.specs.declared.mark.Mark.TheVariants as marked
use Rattle.pcal_tree.specs.declared.mark.Fairness.{Fairness}
use Rattle.pcal_tree.specs.declared.mark.Fairness.TheVariants.{Weak, Strong}
use Rattle.pcal_tree.specs.Algorithm.{nowhere, skip, call as calls_procedure, return, Statement, Statements, done, then, mark, Procedure, Process, Main, alone, processes, Algorithm, Naming}
use Rattle.pcal_tree.specs.Placeless.{no_span}
use Rattle.pcal_tree.specs.Program.{Program}
use Rattle.pcal_tree.specs.Takers.{taken_process}
use Rattle.fairness.specs.ReachedProcedures.{reached}
use Rattle.fairness.specs.Obligations.{obligations}
use Rattle.fairness.specs.FairnessLines.{fairness_lines}
use Rattle.fairness.specs.laws.LinesOfObligations.{SharedOut}

abbrev word : Word → Name
word w = record { word = w; place = nowhere }

abbrev calls : Word → Statement
calls p = calls_procedure (word p) no_trees

abbrev just : Statement → Statements
just st = then no_span st done

-- procedure P begin L: S; return; end procedure
abbrev procedure : Word → Word → Statement → Procedure
procedure p l st = record { name = word p; params = []; variables = []; body = mark (word l) marked.Strong (then no_span st (mark (word (codes "R")) marked.LeftOut (just return))) }

-- First calls Third, Second is not called, and Third calls First
abbrev three : List Procedure
three = procedure (codes "First") (codes "A") (calls (codes "Third")) ∷ procedure (codes "Second") (codes "B") skip ∷ procedure (codes "Third") (codes "C") (calls (codes "First")) ∷ []

-- process Q \in S begin N:- call First(); E: skip; end process
abbrev caller : Fairness → Process
caller f = record {
  name = word (codes "Q");
  fairness = f;
  several = true;
  identity = named (codes "S");
  variables = [];
  body = mark (word (codes "N")) marked.LeftOut (then no_span (calls (codes "First")) (mark (word (codes "E")) marked.Plain (just skip)));
}

abbrev with_main : Bool → Main → Algorithm
with_main fair m = record { name = word (codes "F"); fair = fair; globals = []; definitions = []; macros = []; procedures = three; main = m }

-- all names keep theirs
abbrev names : Naming
names = record { local = λ n w. w; label = λ n l. l; title = λ n. codes "T" }

abbrev program : Algorithm → Program
program a = record { check = plain; constants = no_state; outside = []; algorithm = a; naming = names }

abbrev weak : Algorithm
weak = with_main true (processes (caller Weak ∷ []))

abbrev strong : Algorithm
strong = with_main false (processes (caller Strong ∷ []))

-- in the order of the text, through the calls of procedures
both_reached : map (λ u. u.name.word) (reached weak (taken_process 3 (caller Weak)).routine) ≡ codes "First" ∷ codes "Third" ∷ []
both_reached = refl

-- of twenty procedures that call one another in a chain all are reached: what is called is listed once at each step
abbrev link : ℕ → Word
link zero = codes "p"
link (suc n) = codes "p" ++ link n

abbrev chain : ℕ → List Procedure
chain zero = []
chain (suc n) = procedure (link (suc n)) (codes "L") (calls (link n)) ∷ chain n

abbrev to_chain : Process
to_chain = record { name = word (codes "Q"); fairness = Weak; several = false; identity = named (codes "S"); variables = []; body = mark (word (codes "N")) marked.Plain (just (calls (link 20))) }

all_reached : length (reached (record (with_main true (processes (to_chain ∷ []))) { procedures = chain 20 }) (taken_process 20 to_chain).routine) ≡ 20
all_reached = refl

-- `--fair` comes first, of all labels; then the process, and each procedure that it reaches with its label marked `:+`
weak_obligations : obligations (program weak)
    ≡ record { strong = false; process = None; labels = codes "A" ∷ codes "R" ∷ codes "B" ∷ codes "R" ∷ codes "C" ∷ codes "R" ∷ codes "N" ∷ codes "E" ∷ [] }
    ∷ record { strong = false; process = Some 3; labels = codes "E" ∷ [] }
    ∷ record { strong = false; process = Some 3; labels = codes "A" ∷ [] }
    ∷ record { strong = true; process = Some 3; labels = codes "A" ∷ [] }
    ∷ record { strong = false; process = Some 3; labels = codes "C" ∷ [] }
    ∷ record { strong = true; process = Some 3; labels = codes "C" ∷ [] } ∷ []
weak_obligations = refl

-- in a strongly fair process the mark `:+` asks for nothing more
strong_obligations : obligations (program strong)
    ≡ record { strong = true; process = Some 3; labels = codes "E" ∷ [] }
    ∷ record { strong = true; process = Some 3; labels = codes "A" ∷ [] }
    ∷ record { strong = true; process = Some 3; labels = codes "C" ∷ [] } ∷ []
strong_obligations = refl

-- for each member of the process set
strong_lines : fairness_lines (program strong)
    ≡ record { over = Some (self, named (codes "S")); strong = true; guard = Some (is_in false (at (named (codes "pc")) (named self)) (set (quoted (codes "N") ∷ []))); action = call_with (codes "T") (named self) }
    ∷ record { over = Some (self, named (codes "S")); strong = true; guard = Some (is_in false (at (named (codes "pc")) (named self)) (set (quoted (codes "R") ∷ []))); action = call_with (codes "T") (named self) }
    ∷ record { over = Some (self, named (codes "S")); strong = true; guard = Some (is_in false (at (named (codes "pc")) (named self)) (set (quoted (codes "R") ∷ []))); action = call_with (codes "T") (named self) } ∷ []
strong_lines = refl

-- ---- one process with the labels N and E: process P = 7 begin N: skip; E: skip; end process

abbrev seven : Tree
seven = node (number 7) nowhere no_trees

abbrev of_two : Fairness → Mark → Algorithm
of_two f k = record {
  name = word (codes "G");
  fair = false;
  globals = [];
  definitions = [];
  macros = [];
  procedures = [];
  main = processes (record {
    name = word (codes "P");
    fairness = f;
    several = false;
    identity = seven;
    variables = [];
    body = mark (word (codes "N")) k (then no_span skip (mark (word (codes "E")) marked.Plain (just skip)));
  } ∷ []);
}

abbrev lines_of : Fairness → Mark → List Line
lines_of f k = fairness_lines (program (of_two f k))

abbrev not_at_n : Option Tree
not_at_n = Some (is_in false (at (named (codes "pc")) seven) (set (quoted (codes "N") ∷ [])))

-- fair process, N: WF_vars(T)
plain_label : lines_of Weak marked.Plain ≡ record { over = None; strong = false; guard = None; action = call (codes "T") } ∷ []
plain_label = refl

-- fair process, N:- WF_vars((pc[7] \notin {"N"}) /\ T)
left_out_label : lines_of Weak marked.LeftOut ≡ record { over = None; strong = false; guard = not_at_n; action = call (codes "T") } ∷ []
left_out_label = refl

-- fair+ process, N: and N:- SF_vars of the same
strong_plain : lines_of Strong marked.Plain ≡ record { over = None; strong = true; guard = None; action = call (codes "T") } ∷ []
strong_plain = refl

strong_left_out : lines_of Strong marked.LeftOut ≡ record { over = None; strong = true; guard = not_at_n; action = call (codes "T") } ∷ []
strong_left_out = refl

-- fair process, N:+ a formula for N besides; in a fair+ process it asks for nothing more
weak_strong_label : lines_of Weak marked.Strong
    ≡ record { over = None; strong = false; guard = None; action = call (codes "T") }
    ∷ record { over = None; strong = true; guard = None; action = call (codes "N") } ∷ []
weak_strong_label = refl

strong_strong_label : lines_of Strong marked.Strong ≡ lines_of Strong marked.Plain
strong_strong_label = refl

-- of the labels N and E the obligation has E alone, so the test leaves N out; a formula without a test is not of that obligation
left_out_shared : SharedOut (codes "N" ∷ codes "E" ∷ []) (codes "E" ∷ []) (codes "N" ∷ [])
left_out_shared = inr ([], refl, inl ([], refl, (refl, refl)))

test_needed : SharedOut (codes "N" ∷ codes "E" ∷ []) (codes "E" ∷ []) [] → ⊥
test_needed (inl (more, e, h)) = never (ap (λ ls. is_among ls (codes "N")) e)
  where
    never : false ≡ true → ⊥
    never q = cc
test_needed (inr (more, e, h)) = cc

-- marks have no effect in a uniprocess algorithm
no_effect : obligations (program (with_main false (alone (mark (word (codes "A")) marked.Strong (just skip))))) ≡ []
no_effect = refl
