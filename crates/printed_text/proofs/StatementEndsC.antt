-- In C-syntax each brace that is opened in a statement is closed in it.
use Rattle.std.proofs.Common.{◌≡◌, ℕ, suc, List, refl, ◌∙◌, codes}
use Rattle.tla_tree.specs.Lexical.{Token}
use Rattle.tla_tree.specs.Lexical as tk
use Rattle.pcal_tree.specs.GrammarParts.{mark, key, maybe_semicolon}
use Rattle.pcal_tree.specs.GrammarC.{Statement, Labelled, Else, Branches, Sequence, simple, branch, either, with, while, compound, labelled, no_else, else_then, last_branch, more_branches, last_statement, more_statements, statement, labelled_tokens, else_tokens, branches, sequence}
use Rattle.printed_text.proofs.ExprEnds.{behind_c, levels}
use Rattle.printed_text.proofs.PartEnds.{maybe_semicolon_levels, label_levels, bind_levels, simple_levels}

mutual
  pub statement_levels : (a : Statement) (d : ℕ) (ts : List Token) → behind_c d (statement a ts) ≡ behind_c d ts
  statement_levels (simple s) d ts = simple_levels s d ts
  statement_levels (branch p q e r a b) d ts = levels e d (mark r tk.close_bracket (labelled_tokens a (else_tokens b ts))) ∙ labelled_levels a d (else_tokens b ts) ∙ else_levels b d ts
  statement_levels (either p a bs) d ts = labelled_levels a d (branches bs ts) ∙ branch_levels bs d ts
  statement_levels (with p q bs r a) d ts = bind_levels bs d (mark r tk.close_bracket (labelled_tokens a ts)) ∙ labelled_levels a d ts
  statement_levels (while p q e r a) d ts = levels e d (mark r tk.close_bracket (labelled_tokens a ts)) ∙ labelled_levels a d ts
  statement_levels (compound p ss q) d ts = sequence_levels ss (suc d) (mark q tk.close_brace ts)

  pub labelled_levels : (a : Labelled) (d : ℕ) (ts : List Token) → behind_c d (labelled_tokens a ts) ≡ behind_c d ts
  labelled_levels (labelled ls st) d ts = label_levels ls d (statement st ts) ∙ statement_levels st d ts

  pub else_levels : (a : Else) (d : ℕ) (ts : List Token) → behind_c d (else_tokens a ts) ≡ behind_c d ts
  else_levels no_else d ts = refl
  else_levels (else_then s p a) d ts = maybe_semicolon_levels s d (key p (codes "else") (labelled_tokens a ts)) ∙ labelled_levels a d ts

  pub branch_levels : (a : Branches) (d : ℕ) (ts : List Token) → behind_c d (branches a ts) ≡ behind_c d ts
  branch_levels (last_branch s p a) d ts = maybe_semicolon_levels s d (key p (codes "or") (labelled_tokens a ts)) ∙ labelled_levels a d ts
  branch_levels (more_branches s p a bs) d ts = maybe_semicolon_levels s d (key p (codes "or") (labelled_tokens a (branches bs ts))) ∙ labelled_levels a d (branches bs ts) ∙ branch_levels bs d ts

  pub sequence_levels : (a : Sequence) (d : ℕ) (ts : List Token) → behind_c d (sequence a ts) ≡ behind_c d ts
  sequence_levels (last_statement a s) d ts = labelled_levels a d (maybe_semicolon s ts) ∙ maybe_semicolon_levels s d ts
  sequence_levels (more_statements a s ss) d ts = labelled_levels a d (maybe_semicolon s (sequence ss ts)) ∙ maybe_semicolon_levels s d (sequence ss ts) ∙ sequence_levels ss d ts
