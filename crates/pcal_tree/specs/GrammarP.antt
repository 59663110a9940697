-- Statements as the P-syntax spells them ("A PlusCal User's Manual, P-Syntax Version", appendix A).
use Rattle.std.specs.Prelude.{[], Option, codes}
use Rattle.tla_token.specs.declared.place.Place.{Place}
use Rattle.tla_tree.specs.Spelling.{Phrase, IsGood, tree_of}
use Rattle.pcal_tree.specs.Algorithm as tree
use Rattle.pcal_tree.specs.GrammarParts.{Tokens, key, expression, semicolon, maybe_semicolon, span, Labels, labels, with_labels, Binds, binds, binds_of, GoodBinds, Simple, simple_tokens, simple_tree, GoodSimple}

-- the places are those of the words, in their order
mutual
  pub data Statement : Type 0 where
    simple : Simple → Statement
    branch : Place → Phrase → Place → Sequence → Else → Place → Place → Statement  -- if e then .. end if
    either : Place → Sequence → Branches → Place → Place → Statement  -- either .. or .. end either
    with : Place → Binds → Place → Sequence → Place → Place → Statement  -- with x \in e do .. end with
    while : Place → Phrase → Place → Sequence → Place → Place → Statement  -- while e do .. end while

  pub data Else : Type 0 where
    no_else : Else
    else_then : Place → Sequence → Else
    else_if : Place → Phrase → Place → Sequence → Else → Else  -- elsif e then ..

  pub data Branches : Type 0 where
    last_branch : Place → Sequence → Branches
    more_branches : Place → Sequence → Branches → Branches

  -- at least one, `;` between, a last one allowed
  pub data Sequence : Type 0 where
    last_statement : Labels → Statement → Option Place → Sequence
    more_statements : Labels → Statement → Place → Sequence → Sequence

abbrev mutual
  pub statement : Statement → Tokens
  statement (simple s) ts = simple_tokens s ts
  statement (branch p e q a b r s) ts = key p (codes "if") (expression e (key q (codes "then") (sequence a (else_tokens b (key r (codes "end") (key s (codes "if") ts))))))
  statement (either p a bs r s) ts = key p (codes "either") (sequence a (branches bs (key r (codes "end") (key s (codes "either") ts))))
  statement (with p bs q a r s) ts = key p (codes "with") (binds bs (key q (codes "do") (sequence a (key r (codes "end") (key s (codes "with") ts)))))
  statement (while p e q a r s) ts = key p (codes "while") (expression e (key q (codes "do") (sequence a (key r (codes "end") (key s (codes "while") ts)))))

  pub else_tokens : Else → Tokens
  else_tokens no_else ts = ts
  else_tokens (else_then p a) ts = key p (codes "else") (sequence a ts)
  else_tokens (else_if p e q a b) ts = key p (codes "elsif") (expression e (key q (codes "then") (sequence a (else_tokens b ts))))

  pub branches : Branches → Tokens
  branches (last_branch p a) ts = key p (codes "or") (sequence a ts)
  branches (more_branches p a bs) ts = key p (codes "or") (sequence a (branches bs ts))

  pub sequence : Sequence → Tokens
  sequence (last_statement ls st p) ts = labels ls (statement st (maybe_semicolon p ts))
  sequence (more_statements ls st p ss) ts = labels ls (statement st (semicolon p (sequence ss ts)))

-- ---- the trees

abbrev mutual
  pub statement_tree : Statement → tree.Statement
  statement_tree (simple s) = simple_tree s
  statement_tree (branch p e q a b r s) = tree.branch (tree_of e) (statements a) (else_statements s b)
  statement_tree (either p a bs r s) = tree.either (tree.or (statements a) (branch_trees bs))
  statement_tree (with p bs q a r s) = tree.with (binds_of bs) (statements a)
  statement_tree (while p e q a r s) = tree.while (tree_of e) (statements a)

  -- `elsif` is an `if` alone in the `else`, which ends where the whole does
  pub else_statements : Place → Else → tree.Statements
  else_statements last no_else = tree.done
  else_statements last (else_then p a) = statements a
  else_statements last (else_if p e q a b) = tree.then (record { first = p; last = last }) (tree.branch (tree_of e) (statements a) (else_statements last b)) tree.done

  pub branch_trees : Branches → tree.Branches
  branch_trees (last_branch p a) = tree.or (statements a) tree.no_branches
  branch_trees (more_branches p a bs) = tree.or (statements a) (branch_trees bs)

  pub statements : Sequence → tree.Statements
  statements (last_statement ls st p) = with_labels ls (tree.then (span (statement st [])) (statement_tree st) tree.done)
  statements (more_statements ls st p ss) = with_labels ls (tree.then (span (statement st [])) (statement_tree st) (statements ss))

-- ---- what may be spelled

abbrev mutual
  pub GoodStatement : Statement → Type 0
  GoodStatement (simple s) = GoodSimple s
  GoodStatement (branch p e q a b r s) = IsGood e × GoodSequence a × GoodElse b
  GoodStatement (either p a bs r s) = GoodSequence a × GoodBranches bs
  GoodStatement (with p bs q a r s) = GoodBinds bs × GoodSequence a
  GoodStatement (while p e q a r s) = IsGood e × GoodSequence a

  pub GoodElse : Else → Type 0
  GoodElse no_else = Unit {0}
  GoodElse (else_then p a) = GoodSequence a
  GoodElse (else_if p e q a b) = IsGood e × GoodSequence a × GoodElse b

  pub GoodBranches : Branches → Type 0
  GoodBranches (last_branch p a) = GoodSequence a
  GoodBranches (more_branches p a bs) = GoodSequence a × GoodBranches bs

  pub GoodSequence : Sequence → Type 0
  GoodSequence (last_statement ls st p) = GoodStatement st
  GoodSequence (more_statements ls st p ss) = GoodStatement st × GoodSequence ss
