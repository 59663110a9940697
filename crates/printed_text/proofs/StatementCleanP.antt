-- In P-syntax no statement holds what is left out.
use Rattle.std.proofs.Common.{List, codes}
use Rattle.tla_tree.specs.Lexical.{Token}
use Rattle.pcal_tree.specs.GrammarParts.{key, semicolon, maybe_semicolon}
use Rattle.pcal_tree.specs.GrammarP.{Statement, Else, Branches, Sequence, simple, branch, either, with, while, no_else, else_then, else_if, last_branch, more_branches, last_statement, more_statements, statement, else_tokens, branches, sequence, GoodStatement, GoodElse, GoodBranches, GoodSequence}
use Rattle.printed_text.proofs.ExprClean.{Clean, clean}
use Rattle.printed_text.proofs.PartClean.{maybe_semicolon_clean, label_clean, bind_clean, simple_clean}

mutual
  pub statement_clean : (a : Statement) (ts : List Token) → GoodStatement a → Clean ts → Clean (statement a ts)
  statement_clean (simple s) ts g k = simple_clean s ts g k
  statement_clean (branch p e q a b r s) ts g k = (tt, clean 0 e (key q (codes "then") (sequence a (else_tokens b (key r (codes "end") (key s (codes "if") ts))))) g.0 (tt, sequence_clean a (else_tokens b (key r (codes "end") (key s (codes "if") ts))) g.1 (else_clean b (key r (codes "end") (key s (codes "if") ts)) g.2 (tt, (tt, k)))))
  statement_clean (either p a bs r s) ts g k = (tt, sequence_clean a (branches bs (key r (codes "end") (key s (codes "either") ts))) g.0 (branch_clean bs (key r (codes "end") (key s (codes "either") ts)) g.1 (tt, (tt, k))))
  statement_clean (with p bs q a r s) ts g k = (tt, bind_clean bs (key q (codes "do") (sequence a (key r (codes "end") (key s (codes "with") ts)))) g.0 (tt, sequence_clean a (key r (codes "end") (key s (codes "with") ts)) g.1 (tt, (tt, k))))
  statement_clean (while p e q a r s) ts g k = (tt, clean 0 e (key q (codes "do") (sequence a (key r (codes "end") (key s (codes "while") ts)))) g.0 (tt, sequence_clean a (key r (codes "end") (key s (codes "while") ts)) g.1 (tt, (tt, k))))

  pub else_clean : (a : Else) (ts : List Token) → GoodElse a → Clean ts → Clean (else_tokens a ts)
  else_clean no_else ts g k = k
  else_clean (else_then p a) ts g k = (tt, sequence_clean a ts g k)
  else_clean (else_if p e q a b) ts g k = (tt, clean 0 e (key q (codes "then") (sequence a (else_tokens b ts))) g.0 (tt, sequence_clean a (else_tokens b ts) g.1 (else_clean b ts g.2 k)))

  pub branch_clean : (a : Branches) (ts : List Token) → GoodBranches a → Clean ts → Clean (branches a ts)
  branch_clean (last_branch p a) ts g k = (tt, sequence_clean a ts g k)
  branch_clean (more_branches p a bs) ts g k = (tt, sequence_clean a (branches bs ts) g.0 (branch_clean bs ts g.1 k))

  pub sequence_clean : (a : Sequence) (ts : List Token) → GoodSequence a → Clean ts → Clean (sequence a ts)
  sequence_clean (last_statement ls st p) ts g k = label_clean ls (statement st (maybe_semicolon p ts)) (statement_clean st (maybe_semicolon p ts) g (maybe_semicolon_clean p ts k))
  sequence_clean (more_statements ls st p ss) ts g k = label_clean ls (statement st (semicolon p (sequence ss ts))) (statement_clean st (semicolon p (sequence ss ts)) g.0 (tt, sequence_clean ss ts g.1 k))
