-- In C-syntax no statement holds what is left out.
use Rattle.std.proofs.Common.{List, codes}
use Rattle.tla_tree.specs.Lexical.{Token}
use Rattle.tla_tree.specs.Lexical as tk
use Rattle.pcal_tree.specs.GrammarParts.{mark, key, maybe_semicolon}
use Rattle.pcal_tree.specs.GrammarC.{Statement, Labelled, Else, Branches, Sequence, simple, branch, either, with, while, compound, labelled, no_else, else_then, last_branch, more_branches, last_statement, more_statements, statement, labelled_tokens, else_tokens, branches, sequence, GoodStatement, GoodLabelled, GoodElse, GoodBranches, GoodSequence}
use Rattle.printed_text.proofs.ExprClean.{Clean, clean}
use Rattle.printed_text.proofs.PartClean.{maybe_semicolon_clean, label_clean, bind_clean, simple_clean}

mutual
  pub statement_clean : (a : Statement) (ts : List Token) → GoodStatement a → Clean ts → Clean (statement a ts)
  statement_clean (simple s) ts g k = simple_clean s ts g k
  statement_clean (branch p q e r a b) ts g k = (tt, (tt, clean 0 e (mark r tk.close_bracket (labelled_tokens a (else_tokens b ts))) g.0 (tt, labelled_clean a (else_tokens b ts) g.1 (else_clean a b ts g.2 k))))
  statement_clean (either p a bs) ts g k = (tt, labelled_clean a (branches bs ts) g.0 (branch_clean bs ts g.2 k))
  statement_clean (with p q bs r a) ts g k = (tt, (tt, bind_clean bs (mark r tk.close_bracket (labelled_tokens a ts)) g.0 (tt, labelled_clean a ts g.1 k)))
  statement_clean (while p q e r a) ts g k = (tt, (tt, clean 0 e (mark r tk.close_bracket (labelled_tokens a ts)) g.0 (tt, labelled_clean a ts g.1 k)))
  statement_clean (compound p ss q) ts g k = (tt, sequence_clean ss (mark q tk.close_brace ts) g (tt, k))

  pub labelled_clean : (a : Labelled) (ts : List Token) → GoodLabelled a → Clean ts → Clean (labelled_tokens a ts)
  labelled_clean (labelled ls st) ts g k = label_clean ls (statement st ts) (statement_clean st ts g k)

  pub else_clean : (x : Labelled) (a : Else) (ts : List Token) → GoodElse x a → Clean ts → Clean (else_tokens a ts)
  else_clean x no_else ts g h = h
  else_clean x (else_then s p b) ts g h = maybe_semicolon_clean s (key p (codes "else") (labelled_tokens b ts)) (tt, labelled_clean b ts g.1 h)

  pub branch_clean : (a : Branches) (ts : List Token) → GoodBranches a → Clean ts → Clean (branches a ts)
  branch_clean (last_branch s p a) ts g k = maybe_semicolon_clean s (key p (codes "or") (labelled_tokens a ts)) (tt, labelled_clean a ts g k)
  branch_clean (more_branches s p a bs) ts g k = maybe_semicolon_clean s (key p (codes "or") (labelled_tokens a (branches bs ts))) (tt, labelled_clean a (branches bs ts) g.0 (branch_clean bs ts g.2 k))

  pub sequence_clean : (a : Sequence) (ts : List Token) → GoodSequence a → Clean ts → Clean (sequence a ts)
  sequence_clean (last_statement a s) ts g k = labelled_clean a (maybe_semicolon s ts) g (maybe_semicolon_clean s ts k)
  sequence_clean (more_statements a s ss) ts g k = labelled_clean a (maybe_semicolon s (sequence ss ts)) g.0 (maybe_semicolon_clean s (sequence ss ts) (sequence_clean ss ts g.2 k))
