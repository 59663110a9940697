-- Names that are bound again where they are in scope, tried by computation.
use Rattle.std.proofs.Common.{◌≡◌, ℕ, List, [], ◌∷◌, Bool, true, false, codes, refl}
use Rattle.tla_token.specs.declared.rule.Rule.TheVariants.{Rebind}
use Rattle.tla_token.specs.declared.rule.Refusal.{Refusal}
use Rattle.tla_tree.specs.declared.op.Binder.{Binder}
use Rattle.tla_tree.specs.declared.op.Binder.TheVariants.{ForAll, Exists, Filter}
use Rattle.tla_tree.specs.Tree.{Word, Tree, node, set_of, strict, binding, local, Trees, no_trees, tree}
use Rattle.pcal_tree.specs.declared.mark.Fairness.TheVariants.{Unfair}
use Rattle.pcal_tree.specs.Algorithm.{no_binds, one_of, is, Name, await, with, goto, macro, call, skip, Statements, done, equals, Declaration, Definition, Macro, Procedure, Process, alone, processes, Algorithm}
use Rattle.pcal_tree.specs.OffencesRebind.{stands_for, bound_by, rebind_offences_of}
use Rattle.pcal_tree.proofs.Sample.{at, title, x, y, num, sets, labelled, variable, one_body}
use Rattle.pcal_tree.proofs.RowsOffences.{stands, read, named, q, around}

abbrev i : Word
i = codes "i"

abbrev p : Word
p = codes "p"

abbrev at_place : ℕ → List Refusal
at_place n = record { rule = Rebind; place = at n } ∷ []

-- \A k \in s : e, and so with \E, with the name at a place
abbrev bound_in : Binder → ℕ → Word → Tree → Tree → Tree
bound_in b n k s e = node (binding b ((named n k ∷ []) ∷ [])) (at 1) (tree s (tree e no_trees))

abbrev in_body : List Macro → Statements → List Refusal
in_body ms b = rebind_offences_of (one_body ms (labelled (codes "A") b)).algorithm around

abbrev awaits : Tree → List Refusal
awaits e = in_body [] (stands 2 (await e) done)

-- with k = 0 do b end with, with the name at a place
abbrev with_name : ℕ → Word → Statements → Statements
with_name n k b = stands 2 (with (is (named n k) (num 0) no_binds) b) done

abbrev skips : Statements
skips = stands 1 skip done

-- ---- what is in scope

-- with x = 0 do skip; end with, where x is global
a_global : in_body [] (with_name 3 x skips) ≡ at_place 3
a_global = refl

-- \A N \in {} : 0, where N is a constant, and LET Big == 0 IN 0, where Big is a unit that was not read
a_constant : awaits (bound_in ForAll 3 (codes "N") (num 0) (num 0)) ≡ at_place 3
a_constant = refl

a_unit : awaits (node (local (named 4 (codes "Big") ∷ [])) (at 3) (tree (num 0) (tree (num 0) no_trees))) ≡ at_place 4
a_unit = refl

-- \A q \in 0 : \E q \in 0 : 0
in_two_forms : awaits (bound_in ForAll 3 q (num 0) (bound_in Exists 4 q (num 0) (num 0))) ≡ at_place 4
in_two_forms = refl

-- \A q \in {q \in 0 : 0} : 0: the set doesn't see the name
in_the_set : awaits (bound_in ForAll 3 q (bound_in Filter 4 q (num 0) (num 0)) (num 0)) ≡ []
in_the_set = refl

-- \A q \in 0, q \in 0 : 0: twice in one list is another rule's
in_one_list : awaits (node (binding ForAll ((named 3 q ∷ []) ∷ (named 4 q ∷ []) ∷ [])) (at 1) (tree (num 0) (tree (num 0) (tree (num 0) no_trees)))) ≡ []
in_one_list = refl

-- with q = 0 do with q = 0 do skip; end with; end with
in_two_withs : in_body [] (with_name 3 q (with_name 4 q skips)) ≡ at_place 4
in_two_withs = refl

-- \A Len \in 0 : \E Len \in 0 : 0, and with self: names that are another rule's
standard_names : awaits (bound_in ForAll 3 (codes "Len") (num 0) (bound_in Exists 4 (codes "Len") (num 0) (num 0))) ≡ []
standard_names = refl

own_names : in_body [] (with_name 3 (codes "self") (with_name 4 (codes "self") skips)) ≡ []
own_names = refl

-- with A = 0 do with M = 0 do skip; end with; end with, where A is a label and M a macro
labels_and_macros : in_body (record { name = title (codes "M"); params = []; body = skips } ∷ []) (with_name 3 (codes "A") (with_name 4 (codes "M") skips)) ≡ []
labels_and_macros = refl

-- ---- declarations

-- variables x = \A y \in 0 : 0, y = 0: a later variable of the list
abbrev with_globals : List Declaration → List Definition → Algorithm
with_globals ds es = record { name = title (codes "One"); fair = false; globals = ds; definitions = es; macros = []; procedures = []; main = alone skips }

later_variable : rebind_offences_of (with_globals (variable x (bound_in ForAll 3 y (num 0) (num 0)) ∷ variable y (num 0) ∷ []) []) around ≡ at_place 3
later_variable = refl

-- F(x) == \A G \in 0 : \E F \in 0 : 0 and G == \A F \in 0 : 0, where x is global: only definitions before are in scope
abbrev definitions : List Definition
definitions =
    record { name = title (codes "F"); params = named 3 x ∷ []; body = bound_in ForAll 4 (codes "G") (num 0) (bound_in Exists 5 (codes "F") (num 0) (num 0)) }
    ∷ record { name = title (codes "G"); params = []; body = bound_in ForAll 6 (codes "F") (num 0) (num 0) } ∷ []

in_definitions : rebind_offences_of (with_globals (variable x (num 0) ∷ []) definitions) around ≡ record { rule = Rebind; place = at 3 } ∷ record { rule = Rebind; place = at 6 } ∷ []
in_definitions = refl

-- procedure P(x = 0) variable k = 0; begin A: with k = 0 do skip; end with; end procedure
abbrev procedure_of : Name → List Declaration → Statements → Procedure
procedure_of n ds b = record { name = title (codes "P"); params = record { name = n; start = equals (num 0) } ∷ []; variables = ds; body = labelled (codes "L") b }

abbrev with_procedure : Procedure → List Process → List Refusal
with_procedure d ps =
    rebind_offences_of (record {
      name = title (codes "One");
      fair = false;
      globals = variable x (num 0) ∷ [];
      definitions = [];
      macros = [];
      procedures = d ∷ [];
      main = processes ps;
    }) around

in_a_procedure : with_procedure (procedure_of (named 3 x) (variable (codes "k") (num 0) ∷ []) (with_name 4 (codes "k") skips)) []
    ≡ record { rule = Rebind; place = at 3 } ∷ record { rule = Rebind; place = at 4 } ∷ []
in_a_procedure = refl

-- ---- macros

abbrev macro_of : Word → List Name → Statements → Macro
macro_of m ps b = record { name = title m; params = ps; body = b }

abbrev calls : Word → Trees → Statements
calls m ts = stands 1 (macro m ts) done

-- macro M(x) begin with p = 0 do skip; end with; end macro with parameters x and p, never called
never_called : in_body (macro_of (codes "M") (named 3 x ∷ named 4 p ∷ []) (with_name 5 p skips) ∷ []) skips
    ≡ record { rule = Rebind; place = at 3 } ∷ record { rule = Rebind; place = at 5 } ∷ []
never_called = refl

-- macro N() begin with p = 0 do skip; end with; end macro, which macro M(p) calls: p is in scope there
called_in_a_macro : in_body (macro_of (codes "N") [] (with_name 3 p skips) ∷ macro_of (codes "M") (named 4 p ∷ []) (calls (codes "N") no_trees) ∷ []) skips ≡ at_place 3
called_in_a_macro = refl

-- macro M(e) begin with i \in {1} do y := e; end with; end macro, and with i \in {1, 2} do M(i); end with
abbrev taking_one : Macro
taking_one =
    macro_of (codes "M") (named 14 (codes "e") ∷ [])
    (stands 18 (with (one_of (named 23 i) (node (strict set_of) (at 29) (tree (num 1) no_trees)) no_binds) (stands 36 (sets (read 36 y) (read 41 (codes "e"))) done)) done)

at_a_call : in_body (taking_one ∷ []) (stands 50 (with (one_of (named 56 i) (num 0) no_binds) (stands 60 (macro (codes "M") (tree (read 62 i) no_trees)) done)) done) ≡ at_place 23
at_a_call = refl

-- M(\E i \in 0 : 0): the i of the argument is where e is, with i around; and M(\E e \in 0 : 0): nothing is around that is called e, for which the argument stands
in_an_argument : in_body (taking_one ∷ []) (calls (codes "M") (tree (bound_in Exists 50 i (num 0) (num 0)) no_trees)) ≡ at_place 50
in_an_argument = refl

named_as_the_parameter : in_body (taking_one ∷ []) (calls (codes "M") (tree (bound_in Exists 50 (codes "e") (num 0) (num 0)) no_trees)) ≡ []
named_as_the_parameter = refl

-- macro N(e) begin M(e); end macro, and N(\E i \in 0 : 0)
handed_on : in_body (taking_one ∷ macro_of (codes "N") (named 70 (codes "e") ∷ []) (calls (codes "M") (tree (read 71 (codes "e")) no_trees)) ∷ [])
    (calls (codes "N") (tree (bound_in Exists 50 i (num 0) (num 0)) no_trees)) ≡ at_place 50
handed_on = refl

-- macro N() begin with i \in 0 do y := e; end with; end macro, macro O(e) begin N(); end macro, and O(\E i \in 0 : 0): the e of N is the parameter of O
for_the_caller :
    in_body (macro_of (codes "N") [] taking_one.body ∷ macro_of (codes "O") (named 70 (codes "e") ∷ []) (calls (codes "N") no_trees) ∷ [])
    (calls (codes "O") (tree (bound_in Exists 50 i (num 0) (num 0)) no_trees)) ≡ at_place 50
for_the_caller = refl

-- ---- identifiers of single processes, and initial values of procedures

-- process Q = \E i \in 0 : 0 variable v = e; or Q \in \E i \in 0 : 0
abbrev process_of : Bool → Tree → Statements → Process
process_of several e b = record {
  name = title (codes "Q");
  fairness = Unfair;
  several = several;
  identity = bound_in Exists 80 i (num 0) (num 0);
  variables = variable (codes "v") e ∷ [];
  body = labelled (codes "B") b;
}

-- procedure P(k = \E i \in 0 : 0) variable w = \E j \in 0 : \A v \in 0 : self
abbrev called : Procedure
called = record {
  name = title (codes "P");
  params = variable (codes "k") (bound_in Exists 90 i (num 0) (num 0)) ∷ [];
  variables = variable (codes "w") (bound_in Exists 91 (codes "j") (num 0) (bound_in ForAll 92 (codes "v") (num 0) (read 93 (codes "self")))) ∷ [];
  body = labelled (codes "L") skips;
}

abbrev with_i : Statements → Statements
with_i b = with_name 70 i b

at_self : with_procedure called (process_of false (num 0) (with_i (stands 2 (await (read 3 (codes "self"))) done)) ∷ []) ≡ at_place 80
at_self = refl

at_goto : with_procedure called (process_of false (num 0) (with_i (stands 2 (goto (codes "B")) done)) ∷ []) ≡ at_place 80
at_goto = refl

in_a_set : with_procedure called (process_of true (num 0) (with_i (stands 2 (goto (codes "B")) done)) ∷ []) ≡ []
in_a_set = refl

-- not where nothing is put in, nor in an initial value of the process
elsewhere : with_procedure called (process_of false (bound_in ForAll 71 i (num 0) (read 72 (codes "self"))) (with_i skips) ∷ []) ≡ []
elsewhere = refl

-- with i = 0 do call P(0): the identifier twice, at the call and at `self` in the initial value of w, where v is in scope at the call; the parameter's initial value isn't put in
at_a_call_of_a_procedure : with_procedure called (process_of false (num 0) (with_i (stands 2 (call (named 3 (codes "P")) (tree (num 0) no_trees)) done)) ∷ [])
    ≡ record { rule = Rebind; place = at 80 } ∷ record { rule = Rebind; place = at 92 } ∷ record { rule = Rebind; place = at 80 } ∷ []
at_a_call_of_a_procedure = refl

-- ---- the words

-- \E q \in x : q: binds q, and x is free in it
its_pieces : bound_by (bound_in Exists 3 q (read 4 x) (read 5 q)) (stands_for x (named 9 i ∷ []) ∷ []) ≡ named 3 q ∷ named 9 i ∷ []
its_pieces = refl
