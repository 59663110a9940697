-- In P-syntax no statement holds `end algorithm`.
use Rattle.std.proofs.Common.{Bool, false, List, refl, ◌∙◌, codes}
use Rattle.tla_tree.specs.Lexical.{Token}
use Rattle.pcal_tree.specs.GrammarParts.{key, semicolon, maybe_semicolon}
use Rattle.pcal_tree.specs.GrammarP.{Statement, Else, Branches, Sequence, simple, branch, either, with, while, no_else, else_then, else_if, last_branch, more_branches, last_statement, more_statements, statement, else_tokens, branches, sequence}
use Rattle.printed_text.proofs.ExprEnds.{Words, words}
use Rattle.printed_text.proofs.PartEnds.{maybe_semicolon_words, label_words, bind_words, simple_words}

mutual
  pub statement_words : (a : Statement) (k : Bool) (ts : List Token) → Words k (statement a ts) ts
  statement_words (simple s) k ts = simple_words s k ts
  statement_words (branch p e q a b r s) k ts = (let first = words e false (key q (codes "then") (sequence a (else_tokens b (key r (codes "end") (key s (codes "if") ts))))) in let second = sequence_words a false (else_tokens b (key r (codes "end") (key s (codes "if") ts))) in let third = else_words b second.0 (key r (codes "end") (key s (codes "if") ts)) in (false, first.1 ∙ second.1 ∙ third.1))
  statement_words (either p a bs r s) k ts = (let first = sequence_words a false (branches bs (key r (codes "end") (key s (codes "either") ts))) in let second = branch_words bs first.0 (key r (codes "end") (key s (codes "either") ts)) in (false, first.1 ∙ second.1))
  statement_words (with p bs q a r s) k ts = (let first = bind_words bs false (key q (codes "do") (sequence a (key r (codes "end") (key s (codes "with") ts)))) in let second = sequence_words a false (key r (codes "end") (key s (codes "with") ts)) in (false, first.1 ∙ second.1))
  statement_words (while p e q a r s) k ts = (let first = words e false (key q (codes "do") (sequence a (key r (codes "end") (key s (codes "while") ts)))) in let second = sequence_words a false (key r (codes "end") (key s (codes "while") ts)) in (false, first.1 ∙ second.1))

  pub else_words : (a : Else) (k : Bool) (ts : List Token) → Words k (else_tokens a ts) ts
  else_words no_else k ts = (k, refl)
  else_words (else_then p a) k ts = sequence_words a false ts
  else_words (else_if p e q a b) k ts = (let first = words e false (key q (codes "then") (sequence a (else_tokens b ts))) in let second = sequence_words a false (else_tokens b ts) in let third = else_words b second.0 ts in (third.0, first.1 ∙ second.1 ∙ third.1))

  pub branch_words : (a : Branches) (k : Bool) (ts : List Token) → Words k (branches a ts) ts
  branch_words (last_branch p a) k ts = sequence_words a false ts
  branch_words (more_branches p a bs) k ts = (let first = sequence_words a false (branches bs ts) in let second = branch_words bs first.0 ts in (second.0, first.1 ∙ second.1))

  pub sequence_words : (a : Sequence) (k : Bool) (ts : List Token) → Words k (sequence a ts) ts
  sequence_words (last_statement ls st p) k ts = (let first = label_words ls k (statement st (maybe_semicolon p ts)) in let second = statement_words st first.0 (maybe_semicolon p ts) in let third = maybe_semicolon_words p second.0 ts in (third.0, first.1 ∙ second.1 ∙ third.1))
  sequence_words (more_statements ls st p ss) k ts = (let first = label_words ls k (statement st (semicolon p (sequence ss ts))) in let second = statement_words st first.0 (semicolon p (sequence ss ts)) in let third = sequence_words ss false ts in (third.0, first.1 ∙ second.1 ∙ third.1))
