-- Declarations, names and arguments as chunks of a text: what is printed has the tokens of a form of them, places aside.
use Rattle.std.proofs.Common.{◌≡◌, ℕ, Bool, true, false, List, [], ◌∷◌, ◌++◌, Option, None, refl, ap, ◌∙◌, append_assoc, codes}
use Rattle.tla_token.specs.declared.place.Place.{Place}
use Rattle.tla_tree.specs.Tree.{Name, Tree, Trees, no_trees, tree}
use Rattle.tla_tree.specs.Lexical.{Token}
use Rattle.tla_tree.specs.Lexical as tk
use Rattle.tla_tree.specs.Spelling.{Phrases, last, more, Right, GoodAll, spell_all, trees_of}
use Rattle.tla_tree.specs.Written.{written}
use Rattle.tla_tree.specs.laws.InText.{ends_word}
use Rattle.tla_tree.specs.laws.Placeless.{name_placeless, names_placeless, trees_placeless}
use Rattle.tla_tree.proofs.FitTokens.{starts}
use Rattle.tla_tree.proofs.FitTrees.{written_starts}
use Rattle.pcal_tree.specs.Algorithm.{Start, unset, equals, among, Declaration}
use Rattle.pcal_tree.specs.Placeless.{start_placeless, declarations_placeless}
use Rattle.pcal_tree.specs.GrammarParts.{Initial, initial, start_of, GoodInitial, Variables, last_variable, variable, declarations, GoodVariables, by_comma, Separator, maybe_separator, Names, last_name, more_names, names, names_of, Parameters, last_parameter, parameter, parameters, parameters_of, GoodParameters, MacroParameters, no_names, some_names, macro_parameters, macro_names, ProcedureParameters, no_parameters, some_parameters, procedure_parameters, procedure_declarations, GoodProcedureParameters, Arguments, no_arguments, some_arguments, arguments, arguments_of, GoodArguments}
use Rattle.pcal_tree.specs.GrammarParts as grammar
use Rattle.pcal_tree.specs.Printed.{start_text, declaration_text, declarations_text, names_text, trees_texts, listed, bracketed, arguments_text}
use Rattle.module_tree.proofs.ExprChunks.{name_starts}
use Rattle.printed_text.specs.laws.Printable.{AreExpressions, IsStart, IsDeclaration, AreDeclarations, AreNames}
use Rattle.printed_text.proofs.Chunks.{Chunk, any, join, nothing}
use Rattle.printed_text.proofs.TokenChunks.{narrowed, name_at, open_round, close_round, comma_space, spaced_equal, spaced_in}
use Rattle.printed_text.proofs.ExprChunks.{expr_at}

abbrev pub named : Place → Name → Name
named p x = record { word = x.word; place = p }

-- ---- initial values

pub record InitialAt (b : Bool) (i : Start) (p : Place) : Type 0 where
  pub form : Initial
  pub good : GoodInitial b form
  pub start : start_placeless (start_of form) ≡ start_placeless i
  pub chunk : Chunk ends_word p (start_text i) (initial form)

pub initial_at : (b : Bool) (i : Start) → IsStart b i → (p : Place) → Right 0 p → InitialAt b i p
initial_at b unset h p r = record { form = grammar.unset; good = tt; start = refl; chunk = narrowed ends_word (nothing p r) }
initial_at b (equals e) h p r =
    let s = spaced_equal p r in
    let x = expr_at e h s.chunk.end s.chunk.right in
    record { form = grammar.equals s.place x.phrase; good = x.good; start = ap equals x.tree; chunk = join s.chunk x.chunk (λ y e. refl) }
initial_at b (among e) h p r =
    let s = spaced_in p r in
    let x = expr_at e h.1 s.chunk.end s.chunk.right in
    record { form = grammar.among s.place x.phrase; good = (h.0, x.good); start = ap among x.tree; chunk = join s.chunk x.chunk (λ y e. refl) }

start_ends : (i : Start) (x : List ℕ) → ends_word x ≡ true → ends_word (start_text i ++ x) ≡ true
start_ends unset x h = h
start_ends (equals e) x h = refl
start_ends (among e) x h = refl

-- ---- declarations

record DeclaredAt (b : Bool) (d : Declaration) (p : Place) : Type 0 where
  form : Initial
  good : GoodInitial b form
  start : start_placeless (start_of form) ≡ start_placeless d.start
  chunk : Chunk ends_word p (declaration_text d) (λ ts. grammar.name (named p d.name) (initial form ts))

declared_at : (b : Bool) (d : Declaration) → IsDeclaration b d → (p : Place) → Right 0 p → DeclaredAt b d p
declared_at b d h p r =
    let x = name_at p r d.name.word h.0 in
    let i = initial_at b d.start h.1 x.end x.right in
    record { form = i.form; good = i.good; start = i.start; chunk = join x i.chunk (start_ends d.start) }

declarations_start : (b : Bool) (d : Declaration) (ds : List Declaration) (y : List ℕ) → IsDeclaration b d → starts (declarations_text (d ∷ ds) ++ y) ≡ true
declarations_start b d [] y h = ap starts (append_assoc d.name.word (start_text d.start) y) ∙ name_starts d.name.word _ h.0
declarations_start b d (e ∷ ds) y h =
    ap starts (append_assoc (declaration_text d ++ codes ", ") (declarations_text (e ∷ ds)) y ∙ append_assoc (declaration_text d) (codes ", ") _ ∙ append_assoc d.name.word (start_text d.start) _) ∙ name_starts d.name.word _ h.0

-- x = 0, y \in S: the last separator is still to come
pub record VariablesAt (b : Bool) (ds : List Declaration) (p : Place) : Type 0 where
  pub form : Option Separator → Variables
  pub good : (s : Option Separator) → GoodVariables b (form s)
  pub same : (s : Option Separator) → declarations_placeless (declarations (form s)) ≡ declarations_placeless ds
  pub last : (s : Option Separator) (ts : List Token) → grammar.variables (form s) ts ≡ grammar.variables (form None) (maybe_separator s ts)
  pub chunk : Chunk ends_word p (declarations_text ds) (grammar.variables (form None))

pub variables_at : (b : Bool) (d : Declaration) (ds : List Declaration) → AreDeclarations b (d ∷ ds) → (p : Place) → Right 0 p → VariablesAt b (d ∷ ds) p
variables_at b d [] h p r =
    let x = declared_at b d h.0 p r in
    record {
      form = λ s. last_variable (named p d.name) x.form s;
      good = λ s. x.good;
      same = λ s i. record { name = name_placeless d.name; start = x.start i } ∷ [];
      last = λ s ts. refl;
      chunk = x.chunk;
    }
variables_at b d (e ∷ ds) h p r =
    let x = declared_at b d h.0 p r in
    let c = comma_space x.chunk.end x.chunk.right in
    let more = variables_at b e ds h.1 c.end c.right in
    record {
      form = λ s. variable (named p d.name) x.form (by_comma x.chunk.end) (more.form s);
      good = λ s. (x.good, more.good s);
      same = λ s i. record { name = name_placeless d.name; start = x.start i } ∷ more.same s i;
      last = λ s ts. ap (λ (us : List Token). grammar.name (named p d.name) (initial x.form (grammar.separator (by_comma x.chunk.end) us))) (more.last s ts);
      chunk = join (join x.chunk c (λ y e. refl)) more.chunk (λ y e. refl);
    }

-- a, b = 0
record ParametersAt (ds : List Declaration) (p : Place) : Type 0 where
  form : Parameters
  good : GoodParameters form
  same : declarations_placeless (parameters_of form) ≡ declarations_placeless ds
  chunk : Chunk ends_word p (declarations_text ds) (parameters form)

parameters_at : (d : Declaration) (ds : List Declaration) → AreDeclarations false (d ∷ ds) → (p : Place) → Right 0 p → ParametersAt (d ∷ ds) p
parameters_at d [] h p r =
    let x = declared_at false d h.0 p r in
    record { form = last_parameter (named p d.name) x.form; good = x.good; same = λ i. record { name = name_placeless d.name; start = x.start i } ∷ []; chunk = x.chunk }
parameters_at d (e ∷ ds) h p r =
    let x = declared_at false d h.0 p r in
    let c = comma_space x.chunk.end x.chunk.right in
    let more = parameters_at e ds h.1 c.end c.right in
    record {
      form = parameter (named p d.name) x.form x.chunk.end more.form;
      good = (x.good, more.good);
      same = λ i. record { name = name_placeless d.name; start = x.start i } ∷ more.same i;
      chunk = join (join x.chunk c (λ y e. refl)) more.chunk (λ y e. refl);
    }

-- (a, b = 0)
pub record ProcedureParametersAt (ds : List Declaration) (p : Place) : Type 0 where
  pub form : ProcedureParameters
  pub good : GoodProcedureParameters form
  pub same : declarations_placeless (procedure_declarations form) ≡ declarations_placeless ds
  pub chunk : Chunk any p (bracketed (declarations_text ds)) (procedure_parameters form)

pub procedure_parameters_at : (ds : List Declaration) → AreDeclarations false ds → (p : Place) → Right 0 p → ProcedureParametersAt ds p
procedure_parameters_at [] h p r =
    let o = open_round p r in
    let c = close_round o.end o.right in
    record { form = no_parameters p o.end; good = tt; same = refl; chunk = join o c (λ y e. refl) }
procedure_parameters_at (d ∷ ds) h p r =
    let o = open_round p r in
    let x = parameters_at d ds h o.end o.right in
    let c = close_round x.chunk.end x.chunk.right in
    record { form = some_parameters p x.form x.chunk.end; good = x.good; same = x.same; chunk = join (join o x.chunk (λ y e. declarations_start false d ds y h.0)) c (λ y e. refl) }

-- ---- names

record NamesAt (xs : List Name) (p : Place) : Type 0 where
  form : Names
  same : names_placeless (names_of form) ≡ names_placeless xs
  chunk : Chunk ends_word p (names_text xs) (names form)

names_at : (x : Name) (xs : List Name) → AreNames (x ∷ xs) → (p : Place) → Right 0 p → NamesAt (x ∷ xs) p
names_at x [] h p r = record { form = last_name (named p x); same = refl; chunk = name_at p r x.word h.0 }
names_at x (y ∷ xs) h p r =
    let n = name_at p r x.word h.0 in
    let c = comma_space n.end n.right in
    let more = names_at y xs h.1 c.end c.right in
    record { form = more_names (named p x) n.end more.form; same = ap (λ (ns : List Name). name_placeless x ∷ ns) more.same; chunk = join (join n c (λ z e. refl)) more.chunk (λ z e. refl) }

names_start : (x : Name) (xs : List Name) (z : List ℕ) → AreNames (x ∷ xs) → starts (names_text (x ∷ xs) ++ z) ≡ true
names_start x [] z h = name_starts x.word z h.0
names_start x (y ∷ xs) z h = ap starts (append_assoc (x.word ++ codes ", ") (names_text (y ∷ xs)) z ∙ append_assoc x.word (codes ", ") _) ∙ name_starts x.word _ h.0

-- (a, b)
pub record SomeNamesAt (xs : List Name) (p : Place) : Type 0 where
  pub form : Names
  pub close : Place
  pub same : names_placeless (names_of form) ≡ names_placeless xs
  pub chunk : Chunk any p (bracketed (names_text xs)) (λ ts. grammar.mark p tk.open_bracket (names form (grammar.mark close tk.close_bracket ts)))

pub some_names_at : (x : Name) (xs : List Name) → AreNames (x ∷ xs) → (p : Place) → Right 0 p → SomeNamesAt (x ∷ xs) p
some_names_at x xs h p r =
    let o = open_round p r in
    let n = names_at x xs h o.end o.right in
    let c = close_round n.chunk.end n.chunk.right in
    record { form = n.form; close = n.chunk.end; same = n.same; chunk = join (join o n.chunk (λ y e. names_start x xs y h)) c (λ y e. refl) }

pub record MacroParametersAt (xs : List Name) (p : Place) : Type 0 where
  pub form : MacroParameters
  pub same : names_placeless (macro_names form) ≡ names_placeless xs
  pub chunk : Chunk any p (bracketed (names_text xs)) (macro_parameters form)

pub macro_parameters_at : (xs : List Name) → AreNames xs → (p : Place) → Right 0 p → MacroParametersAt xs p
macro_parameters_at [] h p r =
    let o = open_round p r in
    let c = close_round o.end o.right in
    record { form = no_names p o.end; same = refl; chunk = join o c (λ y e. refl) }
macro_parameters_at (x ∷ xs) h p r = (let n = some_names_at x xs h p r in record { form = some_names p n.form n.close; same = n.same; chunk = n.chunk })

-- ---- arguments

record PhrasesAt (ts : Trees) (p : Place) : Type 0 where
  form : Phrases
  good : GoodAll 0 form
  same : trees_placeless (trees_of form) ≡ trees_placeless ts
  chunk : Chunk ends_word p (listed (trees_texts ts)) (spell_all form)

phrases_at : (t : Tree) (ts : Trees) → AreExpressions (tree t ts) → (p : Place) → Right 0 p → PhrasesAt (tree t ts) p
phrases_at t no_trees h p r =
    let x = expr_at t h.0 p r in
    record { form = last x.phrase; good = x.good; same = λ i. tree (x.tree i) no_trees; chunk = x.chunk }
phrases_at t (tree u ts) h p r =
    let x = expr_at t h.0 p r in
    let c = comma_space x.chunk.end x.chunk.right in
    let m = phrases_at u ts h.1 c.end c.right in
    record { form = more x.phrase x.chunk.end m.form; good = (x.good, x.chunk.right, m.good); same = λ i. tree (x.tree i) (m.same i); chunk = join (join x.chunk c (λ y e. refl)) m.chunk (λ y e. refl) }

phrases_start : (t : Tree) (ts : Trees) (y : List ℕ) → AreExpressions (tree t ts) → ends_word y ≡ true → starts (listed (trees_texts (tree t ts)) ++ y) ≡ true
phrases_start t no_trees y h e = written_starts y t h.0.0 false e
phrases_start t (tree u ts) y h e = ap starts (append_assoc (written t ++ codes ", ") (listed (trees_texts (tree u ts))) y ∙ append_assoc (written t) (codes ", ") _) ∙ written_starts _ t h.0.0 false refl

-- (e, f)
pub record ArgumentsAt (ts : Trees) (p : Place) : Type 0 where
  pub form : Arguments
  pub good : GoodArguments form
  pub same : trees_placeless (arguments_of form) ≡ trees_placeless ts
  pub chunk : Chunk any p (arguments_text ts) (arguments form)

pub arguments_at : (ts : Trees) → AreExpressions ts → (p : Place) → Right 0 p → ArgumentsAt ts p
arguments_at no_trees h p r =
    let o = open_round p r in
    let c = close_round o.end o.right in
    record { form = no_arguments p o.end; good = tt; same = refl; chunk = join o c (λ y e. refl) }
arguments_at (tree t ts) h p r =
    let o = open_round p r in
    let x = phrases_at t ts h o.end o.right in
    let c = close_round x.chunk.end x.chunk.right in
    record { form = some_arguments p x.form x.chunk.end; good = x.good; same = x.same; chunk = join (join o x.chunk (λ y e. phrases_start t ts y h e)) c (λ y e. refl) }
