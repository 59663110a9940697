-- The parts that both syntaxes spell alike: declarations, definitions, labels, simple statements ("A PlusCal User's Manual", section 3 and appendix A).
use Rattle.std.specs.Prelude.{List, [], ◌∷◌, Bool, true, false, IsTrue, Option, Some, None, codes}
use Rattle.tla_token.specs.declared.place.Place.{Place}
use Rattle.tla_tree.specs.declared.op.Op.{Op}
use Rattle.tla_tree.specs.declared.op.Op.TheVariants as op
use Rattle.tla_tree.specs.Tree.{Word, Trees, no_trees}
use Rattle.tla_tree.specs.Lexical.{TokenView, Token, Mark, sign_of}
use Rattle.tla_tree.specs.Lexical as tk
use Rattle.tla_tree.specs.Spelling.{Phrase, Phrases, IsGood, GoodAll, tree_of, trees_of}
use Rattle.tla_tree.specs.Spelling as spelled
use Rattle.pcal_tree.specs.declared.mark.Mark.TheVariants as fair
use Rattle.pcal_tree.specs.Algorithm.{Name, Span, Start, Declaration, Definition, Statement, Statements, nowhere}
use Rattle.pcal_tree.specs.Algorithm as tree

-- ---- tokens

-- the tokens of a part before others: part rest
abbrev pub Tokens : Type 0
Tokens = List Token → List Token

abbrev pub token : Place → TokenView → Tokens
token p k ts = tk.token p k ∷ ts

abbrev pub mark : Place → Mark → Tokens
mark p m ts = token p (tk.mark m) ts

abbrev pub sign : Place → Op → Tokens
sign p o ts = token p (sign_of o) ts

abbrev pub word : Place → Word → Tokens
word p x ts = token p (tk.word x) ts

-- a reserved word of PlusCal
abbrev pub key : Place → Word → Tokens
key p x ts = token p (tk.reserved x) ts

abbrev pub name : Name → Tokens
name x ts = word x.place x.word ts

abbrev pub expression : Phrase → Tokens
expression a ts = spelled.spell a ts

abbrev pub semicolon : Place → Tokens
semicolon p ts = mark p tk.semicolon ts

abbrev pub maybe_semicolon : Option Place → Tokens
maybe_semicolon None ts = ts
maybe_semicolon (Some p) ts = semicolon p ts

-- the first and the last place of tokens
abbrev pub first_place : List Token → Place
first_place [] = nowhere
first_place (t ∷ ts) = t.place

abbrev pub last_place : List Token → Place
last_place [] = nowhere
last_place (t ∷ []) = t.place
last_place (t ∷ u ∷ ts) = last_place (u ∷ ts)

abbrev pub span : List Token → Span
span ts = record { first = first_place ts; last = last_place ts }

-- ---- declarations

-- `;` or `,`
pub data Separator : Type 0 where
  by_semicolon : Place → Separator
  by_comma : Place → Separator

abbrev pub separator : Separator → Tokens
separator (by_semicolon p) ts = semicolon p ts
separator (by_comma p) ts = mark p tk.comma ts

abbrev pub maybe_separator : Option Separator → Tokens
maybe_separator None ts = ts
maybe_separator (Some s) ts = separator s ts

pub data Initial : Type 0 where
  unset : Initial
  equals : Place → Phrase → Initial  -- = e
  among : Place → Phrase → Initial  -- \in e

abbrev pub initial : Initial → Tokens
initial unset ts = ts
initial (equals p e) ts = sign p op.Equal (expression e ts)
initial (among p e) ts = sign p op.In (expression e ts)

abbrev pub start_of : Initial → Start
start_of unset = tree.unset
start_of (equals p e) = tree.equals (tree_of e)
start_of (among p e) = tree.among (tree_of e)

-- with false, `\in` is none of its forms
abbrev pub GoodInitial : Bool → Initial → Type 0
GoodInitial b unset = Unit {0}
GoodInitial b (equals p e) = IsGood e
GoodInitial b (among p e) = IsTrue b × IsGood e

abbrev pub declaration : Name → Initial → Declaration
declaration x i = record { name = x; start = start_of i }

-- x, y = e; z \in e: at least one, a last separator is allowed
pub data Variables : Type 0 where
  last_variable : Name → Initial → Option Separator → Variables
  variable : Name → Initial → Separator → Variables → Variables

abbrev pub variables : Variables → Tokens
variables (last_variable x i s) ts = name x (initial i (maybe_separator s ts))
variables (variable x i s vs) ts = name x (initial i (separator s (variables vs ts)))

abbrev pub declarations : Variables → List Declaration
declarations (last_variable x i s) = declaration x i ∷ []
declarations (variable x i s vs) = declaration x i ∷ declarations vs

abbrev pub GoodVariables : Bool → Variables → Type 0
GoodVariables b (last_variable x i s) = GoodInitial b i
GoodVariables b (variable x i s vs) = GoodInitial b i × GoodVariables b vs

-- `variable` or, with true, `variables`; it may be missing
pub data Section : Type 0 where
  no_section : Section
  section : Place → Bool → Variables → Section

abbrev pub variable_word : Bool → Word
variable_word false = codes "variable"
variable_word true = codes "variables"

abbrev pub section_tokens : Section → Tokens
section_tokens no_section ts = ts
section_tokens (section p b vs) ts = key p (variable_word b) (variables vs ts)

abbrev pub declared : Section → List Declaration
declared no_section = []
declared (section p b vs) = declarations vs

abbrev pub GoodSection : Bool → Section → Type 0
GoodSection b no_section = Unit {0}
GoodSection b (section p s vs) = GoodVariables b vs

-- ---- parameters and definitions

-- a, b: at least one
pub data Names : Type 0 where
  last_name : Name → Names
  more_names : Name → Place → Names → Names

abbrev pub names : Names → Tokens
names (last_name x) ts = name x ts
names (more_names x p xs) ts = name x (mark p tk.comma (names xs ts))

abbrev pub names_of : Names → List Name
names_of (last_name x) = x ∷ []
names_of (more_names x p xs) = x ∷ names_of xs

-- (a, b) of a macro
pub data MacroParameters : Type 0 where
  no_names : Place → Place → MacroParameters
  some_names : Place → Names → Place → MacroParameters

abbrev pub macro_parameters : MacroParameters → Tokens
macro_parameters (no_names p q) ts = mark p tk.open_bracket (mark q tk.close_bracket ts)
macro_parameters (some_names p xs q) ts = mark p tk.open_bracket (names xs (mark q tk.close_bracket ts))

abbrev pub macro_names : MacroParameters → List Name
macro_names (no_names p q) = []
macro_names (some_names p xs q) = names_of xs

-- a, b = e
pub data Parameters : Type 0 where
  last_parameter : Name → Initial → Parameters
  parameter : Name → Initial → Place → Parameters → Parameters

abbrev pub parameters : Parameters → Tokens
parameters (last_parameter x i) ts = name x (initial i ts)
parameters (parameter x i p xs) ts = name x (initial i (mark p tk.comma (parameters xs ts)))

abbrev pub parameters_of : Parameters → List Declaration
parameters_of (last_parameter x i) = declaration x i ∷ []
parameters_of (parameter x i p xs) = declaration x i ∷ parameters_of xs

abbrev pub GoodParameters : Parameters → Type 0
GoodParameters (last_parameter x i) = GoodInitial false i
GoodParameters (parameter x i p xs) = GoodInitial false i × GoodParameters xs

-- (a, b = e) of a procedure
pub data ProcedureParameters : Type 0 where
  no_parameters : Place → Place → ProcedureParameters
  some_parameters : Place → Parameters → Place → ProcedureParameters

abbrev pub procedure_parameters : ProcedureParameters → Tokens
procedure_parameters (no_parameters p q) ts = mark p tk.open_bracket (mark q tk.close_bracket ts)
procedure_parameters (some_parameters p xs q) ts = mark p tk.open_bracket (parameters xs (mark q tk.close_bracket ts))

abbrev pub procedure_declarations : ProcedureParameters → List Declaration
procedure_declarations (no_parameters p q) = []
procedure_declarations (some_parameters p xs q) = parameters_of xs

abbrev pub GoodProcedureParameters : ProcedureParameters → Type 0
GoodProcedureParameters (no_parameters p q) = Unit {0}
GoodProcedureParameters (some_parameters p xs q) = GoodParameters xs

-- N or N(a, b), before `==`
pub data Heading : Type 0 where
  plain : Name → Heading
  applied : Name → Place → Names → Place → Heading

abbrev pub heading : Heading → Tokens
heading (plain x) ts = name x ts
heading (applied x p xs q) ts = name x (mark p tk.open_bracket (names xs (mark q tk.close_bracket ts)))

abbrev pub definition_of : Heading → Phrase → Definition
definition_of (plain x) e = record { name = x; params = []; body = tree_of e }
definition_of (applied x p xs q) e = record { name = x; params = names_of xs; body = tree_of e }

-- at least one, nothing between
pub data Definitions : Type 0 where
  last_definition : Heading → Place → Phrase → Definitions
  more_definitions : Heading → Place → Phrase → Definitions → Definitions

abbrev pub definitions : Definitions → Tokens
definitions (last_definition h p e) ts = heading h (mark p tk.defines (expression e ts))
definitions (more_definitions h p e ds) ts = heading h (mark p tk.defines (expression e (definitions ds ts)))

abbrev pub definitions_of : Definitions → List Definition
definitions_of (last_definition h p e) = definition_of h e ∷ []
definitions_of (more_definitions h p e ds) = definition_of h e ∷ definitions_of ds

abbrev pub GoodDefinitions : Definitions → Type 0
GoodDefinitions (last_definition h p e) = IsGood e
GoodDefinitions (more_definitions h p e ds) = IsGood e × GoodDefinitions ds

-- ---- labels

-- what is after the name
pub data Colon : Type 0 where
  colon : Place → Colon  -- :
  colon_plus : Place → Place → Colon  -- :+
  colon_minus : Place → Place → Colon  -- :-

abbrev pub colon_tokens : Colon → Tokens
colon_tokens (colon p) ts = mark p tk.colon ts
colon_tokens (colon_plus p q) ts = mark p tk.colon (sign q op.Plus ts)
colon_tokens (colon_minus p q) ts = mark p tk.colon (sign q op.Minus ts)

pub data Labels : Type 0 where
  no_labels : Labels
  label : Name → Colon → Labels → Labels

abbrev pub labels : Labels → Tokens
labels no_labels ts = ts
labels (label x c ls) ts = name x (colon_tokens c (labels ls ts))

-- the statements with the labels before them
abbrev pub with_labels : Labels → Statements → Statements
with_labels no_labels ss = ss
with_labels (label x (colon p) ls) ss = tree.mark x fair.Plain (with_labels ls ss)
with_labels (label x (colon_plus p q) ls) ss = tree.mark x fair.Strong (with_labels ls ss)
with_labels (label x (colon_minus p q) ls) ss = tree.mark x fair.LeftOut (with_labels ls ss)

-- ---- what a `with` names: x \in e, y = e; a last separator is allowed
pub data Binds : Type 0 where
  last_bind : Name → Bool → Place → Phrase → Option Separator → Binds  -- with true `\in`, with false `=`
  bind : Name → Bool → Place → Phrase → Separator → Binds → Binds

abbrev pub bind_sign : Bool → Op
bind_sign true = op.In
bind_sign false = op.Equal

abbrev pub binds : Binds → Tokens
binds (last_bind x b p e s) ts = name x (sign p (bind_sign b) (expression e (maybe_separator s ts)))
binds (bind x b p e s bs) ts = name x (sign p (bind_sign b) (expression e (separator s (binds bs ts))))

abbrev pub bound : Bool → Name → Phrase → tree.Binds → tree.Binds
bound true x e bs = tree.one_of x (tree_of e) bs
bound false x e bs = tree.is x (tree_of e) bs

abbrev pub binds_of : Binds → tree.Binds
binds_of (last_bind x b p e s) = bound b x e tree.no_binds
binds_of (bind x b p e s bs) = bound b x e (binds_of bs)

abbrev pub GoodBinds : Binds → Type 0
GoodBinds (last_bind x b p e s) = IsGood e
GoodBinds (bind x b p e s bs) = IsGood e × GoodBinds bs

-- ---- simple statements

-- (a, b) of a call
pub data Arguments : Type 0 where
  no_arguments : Place → Place → Arguments
  some_arguments : Place → Phrases → Place → Arguments

abbrev pub arguments : Arguments → Tokens
arguments (no_arguments p q) ts = mark p tk.open_bracket (mark q tk.close_bracket ts)
arguments (some_arguments p xs q) ts = mark p tk.open_bracket (spelled.spell_all xs (mark q tk.close_bracket ts))

abbrev pub arguments_of : Arguments → Trees
arguments_of (no_arguments p q) = no_trees
arguments_of (some_arguments p xs q) = trees_of xs

abbrev pub GoodArguments : Arguments → Type 0
GoodArguments (no_arguments p q) = Unit {0}
GoodArguments (some_arguments p xs q) = GoodAll 0 xs

-- a name, then subscripts and fields
abbrev pub is_left_side : Phrase → Bool
is_left_side (spelled.name p x) = true
is_left_side (spelled.apply a p xs q) = is_left_side a
is_left_side (spelled.select a p f) = is_left_side a
is_left_side a = false

-- l := e || m := f
pub data Assignments : Type 0 where
  last_assignment : Phrase → Place → Phrase → Assignments
  assignment : Phrase → Place → Phrase → Place → Assignments → Assignments

abbrev pub assignments : Assignments → Tokens
assignments (last_assignment l p e) ts = expression l (mark p tk.assigns (expression e ts))
assignments (assignment l p e q ms) ts = expression l (mark p tk.assigns (expression e (mark q tk.beside (assignments ms ts))))

abbrev pub assignments_of : Assignments → tree.Assignments
assignments_of (last_assignment l p e) = tree.assignment (tree_of l) (tree_of e) tree.no_assignments
assignments_of (assignment l p e q ms) = tree.assignment (tree_of l) (tree_of e) (assignments_of ms)

abbrev pub GoodAssignments : Assignments → Type 0
GoodAssignments (last_assignment l p e) = IsTrue (is_left_side l) × IsGood l × IsGood e
GoodAssignments (assignment l p e q ms) = IsTrue (is_left_side l) × IsGood l × IsGood e × GoodAssignments ms

pub data Simple : Type 0 where
  assign : Assignments → Simple
  await : Place → Phrase → Simple
  when : Place → Phrase → Simple  -- the same as `await`
  print : Place → Phrase → Simple
  assert : Place → Phrase → Simple
  skip : Place → Simple
  goto : Place → Name → Simple  -- goto N
  call : Place → Name → Arguments → Simple  -- call N(a, b)
  return : Place → Simple  -- return
  macro : Name → Arguments → Simple  -- N(a, b)

abbrev pub simple_tokens : Simple → Tokens
simple_tokens (assign ms) ts = assignments ms ts
simple_tokens (await p e) ts = key p (codes "await") (expression e ts)
simple_tokens (when p e) ts = key p (codes "when") (expression e ts)
simple_tokens (print p e) ts = key p (codes "print") (expression e ts)
simple_tokens (assert p e) ts = key p (codes "assert") (expression e ts)
simple_tokens (skip p) ts = key p (codes "skip") ts
simple_tokens (goto p x) ts = key p (codes "goto") (name x ts)
simple_tokens (call p x xs) ts = key p (codes "call") (name x (arguments xs ts))
simple_tokens (return p) ts = key p (codes "return") ts
simple_tokens (macro x xs) ts = name x (arguments xs ts)

abbrev pub simple_tree : Simple → Statement
simple_tree (assign ms) = tree.assign (assignments_of ms)
simple_tree (await p e) = tree.await (tree_of e)
simple_tree (when p e) = tree.await (tree_of e)
simple_tree (print p e) = tree.print (tree_of e)
simple_tree (assert p e) = tree.assert (tree_of e)
simple_tree (skip p) = tree.skip
simple_tree (goto p x) = tree.goto x.word
simple_tree (call p x xs) = tree.call x (arguments_of xs)
simple_tree (return p) = tree.return
simple_tree (macro x xs) = tree.macro x.word (arguments_of xs)

abbrev pub GoodSimple : Simple → Type 0
GoodSimple (assign ms) = GoodAssignments ms
GoodSimple (await p e) = IsGood e
GoodSimple (when p e) = IsGood e
GoodSimple (print p e) = IsGood e
GoodSimple (assert p e) = IsGood e
GoodSimple (skip p) = Unit {0}
GoodSimple (goto p x) = Unit {0}
GoodSimple (call p x xs) = GoodArguments xs
GoodSimple (return p) = Unit {0}
GoodSimple (macro x xs) = GoodArguments xs
