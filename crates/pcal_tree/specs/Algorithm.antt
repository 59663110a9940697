-- Algorithms as trees, the same for both syntaxes ("A PlusCal User's Manual", section 3 and its grammars).
use Rattle.std.specs.Prelude.{ℕ, suc, ◌+◌, List, [], ◌∷◌, ◌++◌, Bool, true, false, length, map, codes}
use Rattle.tla_token.specs.declared.place.Place.{Place}
use Rattle.tla_token.specs.Signs.{is_among}
use Rattle.tla_tree.specs.Tree.{Word, Tree, Trees}
pub use Rattle.tla_tree.specs.Tree.{Name}
pub use Rattle.tla_token.specs.Places.{nowhere}
use Rattle.pcal_tree.specs.declared.mark.Mark.{Mark}
use Rattle.pcal_tree.specs.declared.mark.Fairness.{Fairness}

-- ---- statements

-- the first token of a statement after its labels, which is the statement's place, and its last token
pub record Span : Type 0 where
  pub first : Place
  pub last : Place

-- x := a || y[i].f := b: left sides and right sides; a left side is a name, or a subscript or field of a left side
pub data Assignments : Type 0 where
  no_assignments : Assignments
  assignment : Tree → Tree → Assignments → Assignments

-- x \in S, y = e: what a `with` names
pub data Binds : Type 0 where
  no_binds : Binds
  one_of : Name → Tree → Binds → Binds  -- x \in S
  is : Name → Tree → Binds → Binds  -- x = e

mutual
  pub data Statement : Type 0 where
    assign : Assignments → Statement
    await : Tree → Statement  -- also `when`
    print : Tree → Statement
    assert : Tree → Statement
    skip : Statement
    branch : Tree → Statements → Statements → Statement  -- if; a missing `else` is an empty list
    either : Branches → Statement
    with : Binds → Statements → Statement
    while : Tree → Statements → Statement  -- while
    goto : Word → Statement  -- goto
    macro : Word → Trees → Statement  -- M(a, b)
    call : Name → Trees → Statement  -- call P(a, b)
    return : Statement  -- return

  pub data Statements : Type 0 where
    done : Statements
    then : Span → Statement → Statements → Statements
    mark : Name → Mark → Statements → Statements  -- a label before the rest

  pub data Branches : Type 0 where
    no_branches : Branches
    or : Statements → Branches → Branches

-- ---- declarations

pub data Start : Type 0 where
  unset : Start
  equals : Tree → Start  -- x = e
  among : Tree → Start  -- x \in S

-- a variable, or a procedure's parameter
pub record Declaration : Type 0 where
  pub name : Name
  pub start : Start

-- N == e or N(a, b) == e in the `define` block
pub record Definition : Type 0 where
  pub name : Name
  pub params : List Name
  pub body : Tree

pub record Macro : Type 0 where
  pub name : Name
  pub params : List Name
  pub body : Statements

pub record Procedure : Type 0 where
  pub name : Name
  pub params : List Declaration
  pub variables : List Declaration
  pub body : Statements

pub record Process : Type 0 where
  pub name : Name
  pub fairness : Fairness
  pub several : Bool  -- one for each member of a set, `P \in S`, and not a single one, `P = e`
  pub identity : Tree  -- the set, or the one identifier
  pub variables : List Declaration
  pub body : Statements

-- the one body of a uniprocess algorithm, or processes
pub data Main : Type 0 where
  alone : Statements → Main
  processes : List Process → Main

pub record Algorithm : Type 0 where
  pub name : Name
  pub fair : Bool  -- --fair algorithm
  pub globals : List Declaration
  pub definitions : List Definition
  pub macros : List Macro
  pub procedures : List Procedure
  pub main : Main

-- ---- what has labels: the one body, a process, a procedure

-- its number among macros, procedures and processes in the order of the text; `spread`: its variables are functions of the identifiers of processes
pub record Routine : Type 0 where
  pub number : ℕ
  pub name : Name
  pub params : List Declaration
  pub variables : List Declaration
  pub spread : Bool
  pub body : Statements
  pub exit : Word  -- where the end of the body goes

abbrev pub locals : Routine → List Declaration
locals u = u.params ++ u.variables

-- in a uniprocess algorithm a procedure's variables are no functions: there is no identifier that they could be applied to
abbrev pub procedure_routine : ℕ → Procedure → Routine
procedure_routine n p = record { number = n; name = p.name; params = p.params; variables = p.variables; spread = true; body = p.body; exit = codes "Error" }

abbrev pub process_routine : ℕ → Process → Routine
process_routine n p = record { number = n; name = p.name; params = []; variables = p.variables; spread = p.several; body = p.body; exit = codes "Done" }

abbrev pub numbered : {A B : Type 0} → (ℕ → A → B) → ℕ → List A → List B
numbered f n [] = []
numbered f n (x ∷ xs) = f n x ∷ numbered f (suc n) xs

abbrev pub first_procedure : Algorithm → ℕ
first_procedure a = length a.macros

abbrev pub first_process : Algorithm → ℕ
first_process a = length a.macros + length a.procedures

abbrev pub procedure_routines : Algorithm → List Routine
procedure_routines a = numbered procedure_routine (first_procedure a) a.procedures

abbrev pub alone_routine : Algorithm → Statements → Routine
alone_routine a ss = record { number = first_process a; name = a.name; params = []; variables = []; spread = false; body = ss; exit = codes "Done" }

abbrev pub main_routines : Algorithm → Main → List Routine
main_routines a (alone ss) = alone_routine a ss ∷ []
main_routines a (processes ps) = numbered process_routine (first_process a) ps

-- in the order of the text
abbrev pub routines : Algorithm → List Routine
routines a = procedure_routines a ++ main_routines a a.main

-- ---- names that are declared

abbrev pub declares : List Declaration → Word → Bool
declares ds x = is_among (map (λ d. d.name.word) ds) x

-- the written name of each variable and parameter, label and unit; units are numbered as routines are. Globals keep their names.
pub record Naming : Type 0 where
  pub local : ℕ → Word → Word
  pub label : ℕ → Word → Word
  pub title : ℕ → Word
