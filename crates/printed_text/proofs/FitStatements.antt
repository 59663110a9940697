-- Lists of statements that are spelled by tokens of an algorithm, in either syntax, can be printed.
use Rattle.std.proofs.Common.{List}
use Rattle.tla_token.specs.declared.place.Place.{Place}
use Rattle.tla_tree.specs.Lexical.{Token}
use Rattle.pcal_tree.specs.Algorithm as tree
use Rattle.pcal_tree.specs.GrammarP as p
use Rattle.pcal_tree.specs.GrammarC as c
use Rattle.printed_text.specs.laws.Printable.{IsStatement, AreStatements, AreOrNone, AreBranches}
use Rattle.printed_text.proofs.FitParts.{AreOwn, of_expression, of_semicolon, of_labels, of_binds, with_is, of_simple}

or_none : (ss : tree.Statements) → AreStatements ss → AreOrNone ss
or_none tree.done h = absurd h
or_none (tree.then at st ss) h = h
or_none (tree.mark l m ss) h = h

-- ---- P-syntax

p_branches_more : (a : tree.Statements) (bs : p.Branches) → AreStatements a → AreBranches (p.branch_trees bs) → AreBranches (tree.or a (p.branch_trees bs))
p_branches_more a (p.last_branch q b) h k = (h, k)
p_branches_more a (p.more_branches q b bs) h k = (h, k)

mutual
  of_p_statement : (st : p.Statement) (ts : List Token) → p.GoodStatement st → AreOwn (p.statement st ts) → IsStatement (p.statement_tree st) × AreOwn ts
  of_p_statement (p.simple s) ts g h = of_simple s ts g h
  of_p_statement (p.branch q e r a b s t) ts g h =
      let u = of_expression e _ g.0 h.1 in
      let w = of_p_sequence a _ g.1 u.1.1 in
      let z = of_p_else t b _ g.2 w.1 in
      ((u.0, w.0, z.0), z.1.1.1)
  of_p_statement (p.either q a bs s t) ts g h =
      let w = of_p_sequence a _ g.0 h.1 in
      let z = of_p_branches bs _ g.1 w.1 in
      ((w.0, z.0), z.1.1.1)
  of_p_statement (p.with q bs r a s t) ts g h =
      let u = of_binds bs _ g.0 h.1 in
      let w = of_p_sequence a _ g.1 u.1.1 in
      (with_is bs (p.statements a) u.0 w.0, w.1.1.1)
  of_p_statement (p.while q e r a s t) ts g h =
      let u = of_expression e _ g.0 h.1 in
      let w = of_p_sequence a _ g.1 u.1.1 in
      ((u.0, w.0), w.1.1.1)

  of_p_else : (last : Place) (b : p.Else) (ts : List Token) → p.GoodElse b → AreOwn (p.else_tokens b ts) → AreOrNone (p.else_statements last b) × AreOwn ts
  of_p_else last p.no_else ts g h = (tt, h)
  of_p_else last (p.else_then q a) ts g h = (let w = of_p_sequence a ts g h.1 in (or_none (p.statements a) w.0, w.1))
  of_p_else last (p.else_if q e r a b) ts g h =
      let u = of_expression e _ g.0 h.1 in
      let w = of_p_sequence a _ g.1 u.1.1 in
      let z = of_p_else last b ts g.2 w.1 in
      (((u.0, w.0, z.0), tt), z.1)

  of_p_branches : (bs : p.Branches) (ts : List Token) → p.GoodBranches bs → AreOwn (p.branches bs ts) → AreBranches (p.branch_trees bs) × AreOwn ts
  of_p_branches (p.last_branch q a) ts g h = of_p_sequence a ts g h.1
  of_p_branches (p.more_branches q a bs) ts g h =
      let w = of_p_sequence a _ g.0 h.1 in
      let z = of_p_branches bs ts g.1 w.1 in
      (p_branches_more (p.statements a) bs w.0 z.0, z.1)

  pub of_p_sequence : (ss : p.Sequence) (ts : List Token) → p.GoodSequence ss → AreOwn (p.sequence ss ts) → AreStatements (p.statements ss) × AreOwn ts
  of_p_sequence (p.last_statement ls st q) ts g h =
      let l = of_labels ls _ h in
      let u = of_p_statement st _ g l.1 in
      (l.0 _ (u.0, tt), of_semicolon q ts u.1)
  of_p_sequence (p.more_statements ls st q ss) ts g h =
      let l = of_labels ls _ h in
      let u = of_p_statement st _ g.0 l.1 in
      let w = of_p_sequence ss ts g.1 u.1.1 in
      (l.0 _ (u.0, or_none (p.statements ss) w.0), w.1)

-- ---- C-syntax: a statement before others

c_branches_more : (a : tree.Statements) (bs : c.Branches) → AreStatements a → AreBranches (c.branch_trees bs) → AreBranches (tree.or a (c.branch_trees bs))
c_branches_more a (c.last_branch s q b) h k = (h, k)
c_branches_more a (c.more_branches s q b bs) h k = (h, k)

abbrev Before : (tree.Statements → tree.Statements) → Type 0
Before f = (rest : tree.Statements) → AreOrNone rest → AreStatements (f rest)

mutual
  of_c_statement : (st : c.Statement) (ts : List Token) → c.GoodStatement st → AreOwn (c.statement st ts) → Before (c.flat_statement st) × AreOwn ts
  of_c_statement (c.simple s) ts g h = (let u = of_simple s ts g h in ((λ rest k. (u.0, k)), u.1))
  of_c_statement (c.branch q r e s a b) ts g h =
      let u = of_expression e _ g.0 h.1.1 in
      let w = of_c_labelled a _ g.1 u.1.1 in
      let z = of_c_else a b ts g.2 w.1 in
      ((λ rest k. ((u.0, w.0 tree.done tt, z.0), k)), z.1)
  of_c_statement (c.either q a bs) ts g h =
      let w = of_c_labelled a _ g.0 h.1 in
      let z = of_c_branches bs ts g.2 w.1 in
      ((λ rest k. ((w.0 tree.done tt, z.0), k)), z.1)
  of_c_statement (c.with q r bs s a) ts g h =
      let u = of_binds bs _ g.0 h.1.1 in
      let w = of_c_labelled a ts g.1 u.1.1 in
      ((λ rest k. (with_is bs (c.flat a tree.done) u.0 (w.0 tree.done tt), k)), w.1)
  of_c_statement (c.while q r e s a) ts g h =
      let u = of_expression e _ g.0 h.1.1 in
      let w = of_c_labelled a ts g.1 u.1.1 in
      ((λ rest k. ((u.0, w.0 tree.done tt), k)), w.1)
  of_c_statement (c.compound q ss r) ts g h = (let w = of_c_sequence ss _ g h.1 in (w.0, w.1.1))

  of_c_labelled : (a : c.Labelled) (ts : List Token) → c.GoodLabelled a → AreOwn (c.labelled_tokens a ts) → Before (c.flat a) × AreOwn ts
  of_c_labelled (c.labelled ls st) ts g h =
      let l = of_labels ls _ h in
      let u = of_c_statement st ts g l.1 in
      ((λ rest k. l.0 (c.flat_statement st rest) (u.0 rest k)), u.1)

  of_c_else : (a : c.Labelled) (b : c.Else) (ts : List Token) → c.GoodElse a b → AreOwn (c.else_tokens b ts) → AreOrNone (c.else_statements b) × AreOwn ts
  of_c_else a c.no_else ts g h = (tt, h)
  of_c_else a (c.else_then s q b) ts g h =
      let k = of_semicolon s _ h in
      let w = of_c_labelled b ts g.1 k.1 in
      (or_none (c.flat b tree.done) (w.0 tree.done tt), w.1)

  of_c_branches : (bs : c.Branches) (ts : List Token) → c.GoodBranches bs → AreOwn (c.branches bs ts) → AreBranches (c.branch_trees bs) × AreOwn ts
  of_c_branches (c.last_branch s q a) ts g h =
      let k = of_semicolon s _ h in
      let w = of_c_labelled a ts g k.1 in
      (w.0 tree.done tt, w.1)
  of_c_branches (c.more_branches s q a bs) ts g h =
      let k = of_semicolon s _ h in
      let w = of_c_labelled a _ g.0 k.1 in
      let z = of_c_branches bs ts g.2 w.1 in
      (c_branches_more (c.flat a tree.done) bs (w.0 tree.done tt) z.0, z.1)

  pub of_c_sequence : (ss : c.Sequence) (ts : List Token) → c.GoodSequence ss → AreOwn (c.sequence ss ts) → Before (c.flat_sequence ss) × AreOwn ts
  of_c_sequence (c.last_statement a s) ts g h = (let w = of_c_labelled a _ g h in (w.0, of_semicolon s ts w.1))
  of_c_sequence (c.more_statements a s ss) ts g h =
      let w = of_c_labelled a _ g.0 h in
      let z = of_c_sequence ss ts g.2 (of_semicolon s _ w.1) in
      ((λ rest k. w.0 (c.flat_sequence ss rest) (or_none (c.flat_sequence ss rest) (z.0 rest k))), z.1)
