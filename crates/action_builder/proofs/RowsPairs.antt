-- What is written for calls that are one statement with the `return` or `goto` after them, by computation.
use Rattle.std.proofs.Common.{◌≡◌, ℕ, zero, suc, false, List, [], ◌∷◌, Bool, codes, None, refl}
use Rattle.tla_token.specs.Signs.{is_among}
use Rattle.tla_tree.specs.declared.op.Op.{Op}
use Rattle.tla_tree.specs.declared.op.Op.TheVariants.{Plus, Minus, Concat}
use Rattle.tla_tree.specs.Tree.{Word, index, number, string, name, next, strict, operator, operator_call, apply, select, tuple, fields, except, Tree, node, Trees, no_trees, tree}
use Rattle.tla_value.specs.Stops.{plain}
use Rattle.module_tree.specs.Module.{setting, Items, no_items, item}
use Rattle.pcal_tree.specs.declared.mark.Mark.TheVariants.{Plain}
use Rattle.pcal_tree.specs.Algorithm.{nowhere, Name, Span, Declaration, equals, Procedure, alone, Algorithm, Routine, procedure_routine, alone_routine, Statement, call, goto, return, Statements, done, then, mark}
use Rattle.pcal_tree.specs.Program.{Program}
use Rattle.pcal_tree.specs.Variables.{pc, stack}
use Rattle.action_builder.specs.Jumps.{InitialValues, JumpPlaces, written_jumps}
use Rattle.action_builder.specs.Written.{write}
use Rattle.action_builder.specs.Prepared.{prepared, none}

abbrev named : Word → Name
named w = record { word = w; place = nowhere }

abbrev pub var : Word → Tree
var w = node (name w) nowhere no_trees

abbrev pub later : Word → Tree
later w = node (next w) nowhere no_trees

abbrev pub num : ℕ → Tree
num k = node (number k) nowhere no_trees

abbrev pub word : Word → Tree
word w = node (string w) nowhere no_trees

abbrev pub over : Op → Tree → Tree → Tree
over o a b = node (strict (operator o)) nowhere (tree a (tree b no_trees))

abbrev pub one : Tree → Trees
one t = tree t no_trees

abbrev pub and_next : Statement → Statements → Statements
and_next st rest = then (record { first = nowhere; last = nowhere }) st rest

abbrev declares : Word → Tree → Declaration
declares w e = record { name = named w; start = equals e }

abbrev procedure : Word → List Declaration → List Declaration → Word → Procedure
procedure p ps vs l = record { name = named p; params = ps; variables = vs; body = mark (named l) Plain (and_next return done) }

-- procedure Add(n = 0), first label P; procedure Z(), first label B; procedure R(a = 0) variables b = a + 1, c = 3, first label C;
-- procedure Q(m = 0) variable k = 0, first label D
abbrev procedures : List Procedure
procedures =
    procedure (codes "Add") (declares (codes "n") (num 0) ∷ []) [] (codes "P")
    ∷ procedure (codes "Z") [] [] (codes "B")
    ∷ procedure (codes "R") (declares (codes "a") (num 0) ∷ []) (declares (codes "b") (over Plus (var (codes "a")) (num 1)) ∷ declares (codes "c") (num 3) ∷ []) (codes "C")
    ∷ procedure (codes "Q") (declares (codes "m") (num 0) ∷ []) (declares (codes "k") (num 0) ∷ []) (codes "D")
    ∷ []

abbrev titles : ℕ → Word
titles zero = codes "Add"
titles (suc zero) = codes "Z"
titles (suc (suc zero)) = codes "R"
titles _ = codes "Q"

abbrev algorithm : Algorithm
algorithm = record { name = named (codes "One"); fair = false; globals = []; definitions = []; macros = []; procedures = procedures; main = alone done }

abbrev pub program : Program
program = record { check = plain; constants = λ w. None; outside = []; algorithm = algorithm; naming = record { local = λ n w. w; label = λ n l. l; title = titles } }

abbrev start_tree : Rattle.pcal_tree.specs.Algorithm.Start → Tree
start_tree (equals e) = e
start_tree _ = var (codes "defaultInitValue")

abbrev pub initials : InitialValues
initials = record { place = λ p d. nowhere; initial = λ p d. start_tree d.start }

abbrev pub places : JumpPlaces
places = record { goto = nowhere; call = λ at. nowhere; return = λ at. nowhere }

-- the items of statements of a routine from a label that ends at Done; the variables of `own` are at the process's identifier
abbrev items : Routine → (Word → Bool) → Statements → Items
items u own ss = write [] none (prepared (written_jumps program u initials places) (codes "self") own (codes "A") (codes "Done") ss)

abbrev pub nothing : Word → Bool
nothing w = false

abbrev add : Routine
add = procedure_routine 0 (procedure (codes "Add") (declares (codes "n") (num 0) ∷ []) [] (codes "P"))

abbrev pub caller : Routine
caller = procedure_routine 3 (procedure (codes "Q") (declares (codes "m") (num 0) ∷ []) (declares (codes "k") (num 0) ∷ []) (codes "D"))

abbrev pub calls : Word → Trees → Statements → Statements
calls p ts rest = and_next (call (named p) ts) rest

abbrev pub head_of : Tree → Word → Tree
head_of st x = node (strict (select x)) nowhere (one (node (operator_call (codes "Head")) nowhere (one st)))

abbrev tail_of : Tree → Tree
tail_of st = node (operator_call (codes "Tail")) nowhere (one st)

-- <<[procedure |-> "P", pc |-> .., ..]>> \o ..
abbrev put_on : Word → List Word → Tree → Trees → Tree → Tree
put_on p xs l ts rest = over Concat (node (strict tuple) nowhere (one (node (strict (fields (codes "procedure" ∷ pc ∷ xs))) nowhere (tree (word p) (tree l ts))))) rest

-- call Add(n - 1); return; in Add
own_pair : items add nothing (calls (codes "Add") (one (over Minus (var (codes "n")) (num 1))) (and_next return done))
    ≡ item (setting stack (put_on (codes "Add") (codes "n" ∷ []) (head_of (var stack) pc) (one (head_of (var stack) (codes "n"))) (tail_of (var stack))))
    (item (setting (codes "n") (over Minus (var (codes "n")) (num 1)))
    (item (setting pc (word (codes "P"))) no_items))
own_pair = refl

-- call Z(); goto A; in the one body
goto_pair : items (alone_routine algorithm done) nothing (calls (codes "Z") no_trees (and_next (goto (codes "A")) done))
    ≡ item (setting stack (put_on (codes "Z") [] (word (codes "A")) no_trees (var stack)))
    (item (setting pc (word (codes "B"))) no_items)
goto_pair = refl

-- call R(m); return; in Q: R's parameter and variables, and then Q's own
other_pair : items caller nothing (calls (codes "R") (one (var (codes "m"))) (and_next return done))
    ≡ item (setting stack (put_on (codes "R") (codes "a" ∷ codes "b" ∷ codes "c" ∷ []) (head_of (var stack) pc) (tree (var (codes "a")) (tree (var (codes "b")) (one (var (codes "c"))))) (tail_of (var stack))))
    (item (setting (codes "a") (var (codes "m")))
    (item (setting (codes "b") (over Plus (later (codes "a")) (num 1)))
    (item (setting (codes "c") (num 3))
    (item (setting (codes "m") (head_of (var stack) (codes "m")))
    (item (setting (codes "k") (head_of (var stack) (codes "k")))
    (item (setting pc (word (codes "C"))) no_items))))))
other_pair = refl

-- call Z(); return; in Q of a multiprocess algorithm
abbrev pub of_self : Tree → Tree
of_self t = node (strict apply) nowhere (tree t (one (var (codes "self"))))

abbrev at_self : Word → Tree → Tree
at_self x e = node (strict (except (record { path = index ∷ []; place = nowhere } ∷ []))) nowhere (tree (var x) (tree (var (codes "self")) (one e)))

each_process : items caller (λ w. is_among (pc ∷ stack ∷ codes "m" ∷ codes "k" ∷ []) w) (calls (codes "Z") no_trees (and_next return done))
    ≡ item (setting stack (at_self stack (put_on (codes "Z") [] (head_of (of_self (var stack)) pc) no_trees (tail_of (of_self (var stack))))))
    (item (setting (codes "m") (at_self (codes "m") (head_of (of_self (var stack)) (codes "m"))))
    (item (setting (codes "k") (at_self (codes "k") (head_of (of_self (var stack)) (codes "k"))))
    (item (setting pc (at_self pc (word (codes "B")))) no_items)))
each_process = refl

-- a labelled `return` is none: the record keeps the label
labelled_return : items caller nothing (calls (codes "Z") no_trees (mark (named (codes "E")) Plain (and_next return done)))
    ≡ item (setting stack (put_on (codes "Z") [] (word (codes "E")) no_trees (var stack)))
    (item (setting pc (word (codes "B"))) no_items)
labelled_return = refl
