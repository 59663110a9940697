-- Statements as the C-syntax spells them ("A PlusCal User's Manual, C-Syntax Version", appendix A).
use Rattle.std.specs.Prelude.{[], Bool, true, false, not, IsTrue, Option, Some, None, codes}
use Rattle.tla_token.specs.declared.place.Place.{Place}
use Rattle.tla_tree.specs.Lexical as tk
use Rattle.tla_tree.specs.Spelling.{Phrase, IsGood, tree_of}
use Rattle.pcal_tree.specs.Algorithm as tree
use Rattle.pcal_tree.specs.GrammarParts.{Tokens, key, mark, expression, maybe_semicolon, span, Labels, labels, with_labels, Binds, binds, binds_of, GoodBinds, Simple, simple_tokens, simple_tree, GoodSimple}

-- the places are those of the words and brackets, in their order
mutual
  pub data Statement : Type 0 where
    simple : Simple → Statement
    branch : Place → Place → Phrase → Place → Labelled → Else → Statement  -- if (e) s else t
    either : Place → Labelled → Branches → Statement  -- either s or t
    with : Place → Place → Binds → Place → Labelled → Statement  -- with (x \in e) s
    while : Place → Place → Phrase → Place → Labelled → Statement  -- while (e) s
    compound : Place → Sequence → Place → Statement  -- { s; t }

  pub data Labelled : Type 0 where
    labelled : Labels → Statement → Labelled

  -- a `;` may stand before the word
  pub data Else : Type 0 where
    no_else : Else
    else_then : Option Place → Place → Labelled → Else

  pub data Branches : Type 0 where
    last_branch : Option Place → Place → Labelled → Branches
    more_branches : Option Place → Place → Labelled → Branches → Branches

  -- at least one, with the `;` after each
  pub data Sequence : Type 0 where
    last_statement : Labelled → Option Place → Sequence
    more_statements : Labelled → Option Place → Sequence → Sequence

abbrev mutual
  pub statement : Statement → Tokens
  statement (simple s) ts = simple_tokens s ts
  statement (branch p q e r a b) ts = key p (codes "if") (mark q tk.open_bracket (expression e (mark r tk.close_bracket (labelled_tokens a (else_tokens b ts)))))
  statement (either p a bs) ts = key p (codes "either") (labelled_tokens a (branches bs ts))
  statement (with p q bs r a) ts = key p (codes "with") (mark q tk.open_bracket (binds bs (mark r tk.close_bracket (labelled_tokens a ts))))
  statement (while p q e r a) ts = key p (codes "while") (mark q tk.open_bracket (expression e (mark r tk.close_bracket (labelled_tokens a ts))))
  statement (compound p ss q) ts = mark p tk.open_brace (sequence ss (mark q tk.close_brace ts))

  pub labelled_tokens : Labelled → Tokens
  labelled_tokens (labelled ls st) ts = labels ls (statement st ts)

  pub else_tokens : Else → Tokens
  else_tokens no_else ts = ts
  else_tokens (else_then s p a) ts = maybe_semicolon s (key p (codes "else") (labelled_tokens a ts))

  pub branches : Branches → Tokens
  branches (last_branch s p a) ts = maybe_semicolon s (key p (codes "or") (labelled_tokens a ts))
  branches (more_branches s p a bs) ts = maybe_semicolon s (key p (codes "or") (labelled_tokens a (branches bs ts)))

  pub sequence : Sequence → Tokens
  sequence (last_statement a s) ts = labelled_tokens a (maybe_semicolon s ts)
  sequence (more_statements a s ss) ts = labelled_tokens a (maybe_semicolon s (sequence ss ts))

-- ---- the trees: compound statements are flattened, their labels go before those of their first statement

abbrev pub placed : Statement → tree.Statement → tree.Statements → tree.Statements
placed st t rest = tree.then (span (statement st [])) t rest

abbrev mutual
  -- the statement before others
  pub flat_statement : Statement → tree.Statements → tree.Statements
  flat_statement (simple s) rest = placed (simple s) (simple_tree s) rest
  flat_statement (branch p q e r a b) rest = placed (branch p q e r a b) (tree.branch (tree_of e) (flat a tree.done) (else_statements b)) rest
  flat_statement (either p a bs) rest = placed (either p a bs) (tree.either (tree.or (flat a tree.done) (branch_trees bs))) rest
  flat_statement (with p q bs r a) rest = placed (with p q bs r a) (tree.with (binds_of bs) (flat a tree.done)) rest
  flat_statement (while p q e r a) rest = placed (while p q e r a) (tree.while (tree_of e) (flat a tree.done)) rest
  flat_statement (compound p ss q) rest = flat_sequence ss rest

  pub flat : Labelled → tree.Statements → tree.Statements
  flat (labelled ls st) rest = with_labels ls (flat_statement st rest)

  pub else_statements : Else → tree.Statements
  else_statements no_else = tree.done
  else_statements (else_then s p a) = flat a tree.done

  pub branch_trees : Branches → tree.Branches
  branch_trees (last_branch s p a) = tree.or (flat a tree.done) tree.no_branches
  branch_trees (more_branches s p a bs) = tree.or (flat a tree.done) (branch_trees bs)

  pub flat_sequence : Sequence → tree.Statements → tree.Statements
  flat_sequence (last_statement a s) rest = flat a rest
  flat_sequence (more_statements a s ss) rest = flat a (flat_sequence ss rest)

abbrev pub statements : Sequence → tree.Statements
statements ss = flat_sequence ss tree.done

-- ---- what may be spelled

-- its last part is a `{..}` of statements
abbrev mutual
  pub ends_in_block : Statement → Bool
  ends_in_block (simple s) = false
  ends_in_block (branch p q e r a no_else) = labelled_ends_in_block a
  ends_in_block (branch p q e r a (else_then s t b)) = labelled_ends_in_block b
  ends_in_block (either p a bs) = branches_end_in_block bs
  ends_in_block (with p q bs r a) = labelled_ends_in_block a
  ends_in_block (while p q e r a) = labelled_ends_in_block a
  ends_in_block (compound p ss q) = true

  pub labelled_ends_in_block : Labelled → Bool
  labelled_ends_in_block (labelled ls st) = ends_in_block st

  pub branches_end_in_block : Branches → Bool
  branches_end_in_block (last_branch s p a) = labelled_ends_in_block a
  branches_end_in_block (more_branches s p a bs) = branches_end_in_block bs

-- an `else` after it would be its own
abbrev mutual
  pub takes_else : Statement → Bool
  takes_else (simple s) = false
  takes_else (branch p q e r a no_else) = true
  takes_else (branch p q e r a (else_then s t b)) = labelled_takes_else b
  takes_else (either p a bs) = branches_take_else bs
  takes_else (with p q bs r a) = labelled_takes_else a
  takes_else (while p q e r a) = labelled_takes_else a
  takes_else (compound p ss q) = false

  pub labelled_takes_else : Labelled → Bool
  labelled_takes_else (labelled ls st) = takes_else st

  pub branches_take_else : Branches → Bool
  branches_take_else (last_branch s p a) = labelled_takes_else a
  branches_take_else (more_branches s p a bs) = branches_take_else bs

-- an `or` after it would be its own
abbrev mutual
  pub takes_or : Statement → Bool
  takes_or (simple s) = false
  takes_or (branch p q e r a no_else) = labelled_takes_or a
  takes_or (branch p q e r a (else_then s t b)) = labelled_takes_or b
  takes_or (either p a bs) = true
  takes_or (with p q bs r a) = labelled_takes_or a
  takes_or (while p q e r a) = labelled_takes_or a
  takes_or (compound p ss q) = false

  pub labelled_takes_or : Labelled → Bool
  labelled_takes_or (labelled ls st) = takes_or st

-- a `;` may be left out where a block ends the statement before it
abbrev pub Divided : Option Place → Labelled → Type 0
Divided None a = IsTrue (labelled_ends_in_block a)
Divided (Some p) a = Unit {0}

abbrev mutual
  pub GoodStatement : Statement → Type 0
  GoodStatement (simple s) = GoodSimple s
  GoodStatement (branch p q e r a b) = IsGood e × GoodLabelled a × GoodElse a b
  GoodStatement (either p a bs) = GoodLabelled a × IsTrue (not (labelled_takes_or a)) × GoodBranches bs
  GoodStatement (with p q bs r a) = GoodBinds bs × GoodLabelled a
  GoodStatement (while p q e r a) = IsGood e × GoodLabelled a
  GoodStatement (compound p ss q) = GoodSequence ss

  pub GoodLabelled : Labelled → Type 0
  GoodLabelled (labelled ls st) = GoodStatement st

  -- `else` belongs to the nearest `if` that can take it
  pub GoodElse : Labelled → Else → Type 0
  GoodElse a no_else = Unit {0}
  GoodElse a (else_then s p b) = IsTrue (not (labelled_takes_else a)) × GoodLabelled b

  -- `or` belongs to the nearest `either` that can take it
  pub GoodBranches : Branches → Type 0
  GoodBranches (last_branch s p a) = GoodLabelled a
  GoodBranches (more_branches s p a bs) = GoodLabelled a × IsTrue (not (labelled_takes_or a)) × GoodBranches bs

  pub GoodSequence : Sequence → Type 0
  GoodSequence (last_statement a s) = GoodLabelled a
  GoodSequence (more_statements a s ss) = GoodLabelled a × Divided s a × GoodSequence ss
