-- The reserved words as values, and which of them a word is.
use Rattle.std.specs.Prelude.{ℕ, List, [], ◌∷◌, Option, codes, find}
use Rattle.std.specs.Str.{bytes_eq}
use Rattle.tla_token.specs.declared.word.PluscalWord.{PluscalWord}
use Rattle.tla_token.specs.declared.word.PluscalWord.TheVariants as pluscal
use Rattle.tla_token.specs.declared.word.TlaWord.{TlaWord}
use Rattle.tla_token.specs.declared.word.TlaWord.TheVariants as tla

-- how a word is spelled
abbrev pub pluscal_spelling : PluscalWord → List ℕ
pluscal_spelling pluscal.Algorithm = codes "algorithm"
pluscal_spelling pluscal.Assert = codes "assert"
pluscal_spelling pluscal.Await = codes "await"
pluscal_spelling pluscal.Begin = codes "begin"
pluscal_spelling pluscal.Call = codes "call"
pluscal_spelling pluscal.Define = codes "define"
pluscal_spelling pluscal.Do = codes "do"
pluscal_spelling pluscal.Either = codes "either"
pluscal_spelling pluscal.Else = codes "else"
pluscal_spelling pluscal.Elsif = codes "elsif"
pluscal_spelling pluscal.End = codes "end"
pluscal_spelling pluscal.Fair = codes "fair"
pluscal_spelling pluscal.Goto = codes "goto"
pluscal_spelling pluscal.If = codes "if"
pluscal_spelling pluscal.Macro = codes "macro"
pluscal_spelling pluscal.Or = codes "or"
pluscal_spelling pluscal.Print = codes "print"
pluscal_spelling pluscal.Procedure = codes "procedure"
pluscal_spelling pluscal.Process = codes "process"
pluscal_spelling pluscal.Return = codes "return"
pluscal_spelling pluscal.Skip = codes "skip"
pluscal_spelling pluscal.Then = codes "then"
pluscal_spelling pluscal.Variable = codes "variable"
pluscal_spelling pluscal.Variables = codes "variables"
pluscal_spelling pluscal.When = codes "when"
pluscal_spelling pluscal.While = codes "while"
pluscal_spelling pluscal.With = codes "with"

-- how a word is spelled
abbrev pub tla_spelling : TlaWord → List ℕ
tla_spelling tla.Assume = codes "ASSUME"
tla_spelling tla.Assumption = codes "ASSUMPTION"
tla_spelling tla.Axiom = codes "AXIOM"
tla_spelling tla.Boolean = codes "BOOLEAN"
tla_spelling tla.Case = codes "CASE"
tla_spelling tla.Choose = codes "CHOOSE"
tla_spelling tla.Constant = codes "CONSTANT"
tla_spelling tla.Constants = codes "CONSTANTS"
tla_spelling tla.Domain = codes "DOMAIN"
tla_spelling tla.Else = codes "ELSE"
tla_spelling tla.Enabled = codes "ENABLED"
tla_spelling tla.Except = codes "EXCEPT"
tla_spelling tla.Extends = codes "EXTENDS"
tla_spelling tla.False = codes "FALSE"
tla_spelling tla.If = codes "IF"
tla_spelling tla.In = codes "IN"
tla_spelling tla.Instance = codes "INSTANCE"
tla_spelling tla.Lambda = codes "LAMBDA"
tla_spelling tla.Let = codes "LET"
tla_spelling tla.Local = codes "LOCAL"
tla_spelling tla.Module = codes "MODULE"
tla_spelling tla.Other = codes "OTHER"
tla_spelling tla.Recursive = codes "RECURSIVE"
tla_spelling tla.String = codes "STRING"
tla_spelling tla.Subset = codes "SUBSET"
tla_spelling tla.Then = codes "THEN"
tla_spelling tla.Theorem = codes "THEOREM"
tla_spelling tla.True = codes "TRUE"
tla_spelling tla.Unchanged = codes "UNCHANGED"
tla_spelling tla.Union = codes "UNION"
tla_spelling tla.Variable = codes "VARIABLE"
tla_spelling tla.Variables = codes "VARIABLES"
tla_spelling tla.With = codes "WITH"

-- in the order of the words themselves
abbrev pub all_pluscal_words : List PluscalWord
all_pluscal_words = pluscal.Algorithm ∷ pluscal.Assert ∷ pluscal.Await ∷ pluscal.Begin ∷ pluscal.Call ∷ pluscal.Define ∷ pluscal.Do ∷ pluscal.Either ∷ pluscal.Else ∷ pluscal.Elsif ∷ pluscal.End ∷ pluscal.Fair ∷ pluscal.Goto ∷ pluscal.If ∷ pluscal.Macro ∷ pluscal.Or ∷ pluscal.Print ∷ pluscal.Procedure ∷ pluscal.Process ∷ pluscal.Return ∷ pluscal.Skip ∷ pluscal.Then ∷ pluscal.Variable ∷ pluscal.Variables ∷ pluscal.When ∷ pluscal.While ∷ pluscal.With ∷ []

abbrev pub all_tla_words : List TlaWord
all_tla_words = tla.Assume ∷ tla.Assumption ∷ tla.Axiom ∷ tla.Boolean ∷ tla.Case ∷ tla.Choose ∷ tla.Constant ∷ tla.Constants ∷ tla.Domain ∷ tla.Else ∷ tla.Enabled ∷ tla.Except ∷ tla.Extends ∷ tla.False ∷ tla.If ∷ tla.In ∷ tla.Instance ∷ tla.Lambda ∷ tla.Let ∷ tla.Local ∷ tla.Module ∷ tla.Other ∷ tla.Recursive ∷ tla.String ∷ tla.Subset ∷ tla.Then ∷ tla.Theorem ∷ tla.True ∷ tla.Unchanged ∷ tla.Union ∷ tla.Variable ∷ tla.Variables ∷ tla.With ∷ []

-- which reserved word it is, if it is one
abbrev pub pluscal_word_of : List ℕ → Option PluscalWord
pluscal_word_of w = find (λ r. bytes_eq (pluscal_spelling r) w) all_pluscal_words

abbrev pub tla_word_of : List ℕ → Option TlaWord
tla_word_of w = find (λ r. bytes_eq (tla_spelling r) w) all_tla_words
