-- Tokens of statements before others are no fewer than those.
use Rattle.std.proofs.Common.{arith, codes}
use Rattle.tla_tree.specs.Lexical as tk
use Rattle.pcal_tree.specs.GrammarParts.{key, mark, maybe_semicolon}
use Rattle.pcal_tree.specs.GrammarC.{Statement, simple, branch, either, with, while, compound, Labelled, labelled, Else, no_else, else_then, Branches, last_branch, more_branches, Sequence, last_statement, more_statements}
use Rattle.pcal_tree.specs.GrammarC.{statement, labelled_tokens, else_tokens, branches, sequence}
use Rattle.syntax_reading.proofs.Lengths.{Grows, GrowsMore, grow_phrase, grow_semicolon, grow_labels, grow_binds, grow_simple}

-- ---- tokens before others
mutual
  pub grow_statement : (a : Statement) → GrowsMore (statement a)
  grow_statement (simple s) ts = grow_simple s ts
  grow_statement (branch p q e w a b) ts = omega (arith, grow_phrase e (mark w tk.close_bracket (labelled_tokens a (else_tokens b ts))), grow_labelled a (else_tokens b ts), grow_else b ts)
  grow_statement (either p a bs) ts = omega (arith, grow_labelled a (branches bs ts), grow_branches bs ts)
  grow_statement (with p q bs w a) ts = omega (arith, grow_binds bs (mark w tk.close_bracket (labelled_tokens a ts)), grow_labelled a ts)
  grow_statement (while p q e w a) ts = omega (arith, grow_phrase e (mark w tk.close_bracket (labelled_tokens a ts)), grow_labelled a ts)
  grow_statement (compound p ss q) ts = omega (arith, grow_sequence ss (mark q tk.close_brace ts))

  pub grow_labelled : (a : Labelled) → GrowsMore (labelled_tokens a)
  grow_labelled (labelled ls st) ts = omega (arith, grow_labels ls (statement st ts), grow_statement st ts)

  pub grow_else : (b : Else) → Grows (else_tokens b)
  grow_else no_else ts = omega arith
  grow_else (else_then s p a) ts = omega (arith, grow_semicolon s (key p (codes "else") (labelled_tokens a ts)), grow_labelled a ts)

  pub grow_branches : (bs : Branches) → GrowsMore (branches bs)
  grow_branches (last_branch s p a) ts = omega (arith, grow_semicolon s (key p (codes "or") (labelled_tokens a ts)), grow_labelled a ts)
  grow_branches (more_branches s p a bs) ts = omega (arith, grow_semicolon s (key p (codes "or") (labelled_tokens a (branches bs ts))), grow_labelled a (branches bs ts), grow_branches bs ts)

  pub grow_sequence : (ss : Sequence) → GrowsMore (sequence ss)
  grow_sequence (last_statement a s) ts = omega (arith, grow_labelled a (maybe_semicolon s ts), grow_semicolon s ts)
  grow_sequence (more_statements a s ss) ts = omega (arith, grow_labelled a (maybe_semicolon s (sequence ss ts)), grow_semicolon s (sequence ss ts), grow_sequence ss ts)
