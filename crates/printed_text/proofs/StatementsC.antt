-- Lists of statements as they are printed in C-syntax: their lines have the tokens of a list of the syntax that has the tree, places aside.
use Rattle.std.proofs.Common.{◌≡◌, ℕ, ◌+◌, true, false, ◌++◌, Some, None, refl, ap, ◌∙◌, codes}
use Rattle.tla_token.specs.declared.place.Place.{Place}
use Rattle.tla_token.specs.Words.{is_pluscal_word}
use Rattle.tla_token.specs.Lexemes as lexeme
use Rattle.tla_tree.specs.Tree.{Word, Tree}
use Rattle.tla_tree.specs.Lexical as tk
use Rattle.tla_tree.specs.Spelling.{Phrase, Right, IsGood, tree_of}
use Rattle.tla_tree.specs.Written.{written}
use Rattle.tla_tree.specs.laws.Placeless.{tree_placeless}
use Rattle.tla_tree.proofs.FitTokens.{starts}
use Rattle.tla_tree.proofs.FitTrees.{written_starts}
use Rattle.pcal_tree.specs.Algorithm as tree
use Rattle.pcal_tree.specs.Placeless.{no_span, statement_placeless, statements_placeless, branches_placeless}
use Rattle.pcal_tree.specs.GrammarParts.{key, mark, semicolon, expression, no_labels, labels, with_labels}
use Rattle.pcal_tree.specs.GrammarC as c
use Rattle.pcal_tree.specs.Grammar.{c_syntax}
use Rattle.pcal_tree.specs.Printed.{Text, Lines, line, listed, binds_texts, middle, closing}
use Rattle.pcal_tree.specs.Printed as printed
use Rattle.printed_text.specs.laws.Printable.{IsExpression, AreBinds, IsStatement, AreStatements, AreOrNone, AreBranches}
use Rattle.printed_text.proofs.Chunks.{Chunk, any, put, in_line, join, space}
use Rattle.printed_text.proofs.TokenChunks.{key_at, semicolon_at, open_round, close_round, open_curly, close_curly}
use Rattle.printed_text.proofs.ExprChunks.{expr_at}
use Rattle.printed_text.proofs.SimpleChunks.{same_labels, LabelsAt, no_labels_at, next_label, binds_at, binds_start, SimpleAt, assign_at, await_at, print_at, assert_at, skip_at, goto_at, macro_at, call_at, return_at}
use Rattle.printed_text.proofs.Blocks.{Block, line_of, follow}

-- ---- brackets and braces of the lines

-- ` (`
record RoundAt (at : Place) : Type 0 where
  place : Place
  chunk : Chunk starts at (codes " (") (mark place tk.open_bracket)

round_at : (at : Place) → Right 0 at → RoundAt at
round_at at r = (let s = space at r in record { place = s.end; chunk = join s (open_round s.end s.right) (λ y q. refl) })

-- ` {`
pub record CurlyAt (at : Place) : Type 0 where
  pub place : Place
  pub chunk : Chunk any at (codes " {") (mark place tk.open_brace)

pub curly_at : (at : Place) → Right 0 at → CurlyAt at
curly_at at r = (let s = space at r in record { place = s.end; chunk = join s (open_curly s.end s.right) (λ y q. refl) })

-- `) {`
record TurnAt (at : Place) : Type 0 where
  place : Place
  chunk : Chunk any at (codes ") {") (λ ts. mark at tk.close_bracket (mark place tk.open_brace ts))

turn_at : (at : Place) → Right 0 at → TurnAt at
turn_at at r =
    let d = close_round at r in
    let o = curly_at d.end d.right in
    record { place = o.place; chunk = join d o.chunk (λ y q. refl) }

-- `};`, at an indentation
record ClosingAt (n k : ℕ) (w : Word) : Type 0 where
  close : Place
  end : Place
  block : Block n (line k (closing c_syntax w)) (λ ts. mark close tk.close_brace (semicolon end ts))

closing_at : (n k : ℕ) (w : Word) → ClosingAt n k w
closing_at n k w =
    let x = close_curly (put n (1 + k)) (in_line n k) in
    let s = semicolon_at x.end x.right in
    record { close = put n (1 + k); end = x.end; block = line_of n k (join x s (λ z q. refl)) (λ z. refl) }

-- `} else {`, at an indentation
record MiddleAt (n k : ℕ) (w : Word) : Type 0 where
  close : Place
  word : Place
  opens : Place
  block : Block n (line k (middle c_syntax w)) (λ ts. mark close tk.close_brace (key word w (mark opens tk.open_brace ts)))

middle_at : (n k : ℕ) (w : Word) → is_pluscal_word w ≡ true → lexeme.IsName w → MiddleAt n k w
middle_at n k w i m =
    let x = close_curly (put n (1 + k)) (in_line n k) in
    let s = space x.end x.right in
    let y = key_at s.end s.right w i m in
    let o = curly_at y.end y.right in
    record { close = put n (1 + k); word = s.end; opens = o.place; block = line_of n k (join (join (join x s (λ z q. refl)) y (λ z q. refl)) o.chunk (λ z q. refl)) (λ z. refl) }

-- `while (e) {`
record HeadAt (at : Place) (k : Word) (e : Tree) : Type 0 where
  phrase : Phrase
  good : IsGood phrase
  tree : tree_placeless (tree_of phrase) ≡ tree_placeless e
  opens : Place
  close : Place
  curly : Place
  chunk : Chunk any at (k ++ codes " (" ++ written e ++ codes ") {") (λ ts. key at k (mark opens tk.open_bracket (expression phrase (mark close tk.close_bracket (mark curly tk.open_brace ts)))))

head_at : (at : Place) → Right 0 at → (k : Word) → is_pluscal_word k ≡ true → lexeme.IsName k → (e : Tree) → IsExpression e → HeadAt at k e
head_at at r k i n e h =
    let x = key_at at r k i n in
    let o = round_at x.end x.right in
    let a = expr_at e h o.chunk.end o.chunk.right in
    let t = turn_at a.chunk.end a.chunk.right in
    record {
      phrase = a.phrase;
      good = a.good;
      tree = a.tree;
      opens = o.place;
      close = a.chunk.end;
      curly = t.place;
      chunk = join (join (join x o.chunk (λ y q. refl)) a.chunk (λ y q. written_starts y e h.0 false q)) t.chunk (λ y q. refl);
    }

-- ---- statements and lists of them

record StatementAt (n k : ℕ) {w : Text} (b : LabelsAt (put n (1 + k)) w) (st : tree.Statement) (L : Lines) : Type 0 where
  form : c.Statement
  good : c.GoodStatement form
  tree : (rest : tree.Statements) → statements_placeless (c.flat_statement form rest) ≡ tree.then no_span (statement_placeless st) (statements_placeless rest)
  end : Place
  block : Block n L (λ ts. labels b.form (c.statement form (semicolon end ts)))

pub record SequenceAt (n k : ℕ) {w : Text} (b : LabelsAt (put n (1 + k)) w) (ss : tree.Statements) : Type 0 where
  pub form : c.Sequence
  pub good : c.GoodSequence form
  pub tree : statements_placeless (c.statements form) ≡ statements_placeless (with_labels b.form ss)
  pub block : Block n (printed.statements c_syntax k w ss) (c.sequence form)

-- a list between braces, as one statement
abbrev in_braces : Place → c.Sequence → Place → c.Labelled
in_braces p ss q = c.labelled no_labels (c.compound p ss q)

-- what is from the brace that closes the first list on
record ElseAt (n k : ℕ) (b : tree.Statements) : Type 0 where
  close : Place
  form : c.Else
  good : (p : Place) (ss : c.Sequence) → c.GoodElse (in_braces p ss close) form
  tree : statements_placeless (c.else_statements form) ≡ statements_placeless b
  end : Place
  block : Block n (λ ls. printed.otherwise c_syntax k b (line k (closing c_syntax (codes "if")) ls)) (λ ts. mark close tk.close_brace (c.else_tokens form (semicolon end ts)))

record BranchesAt (n k : ℕ) (bs : tree.Branches) : Type 0 where
  close : Place
  form : c.Branches
  good : c.GoodBranches form
  tree : branches_placeless (c.branch_trees form) ≡ branches_placeless bs
  end : Place
  block : Block n (λ ls. printed.branches c_syntax k (middle c_syntax (codes "or")) bs (line k (closing c_syntax (codes "either")) ls)) (λ ts. mark close tk.close_brace (c.branches form (semicolon end ts)))

-- a list two deeper, from line m on
abbrev Inside : ℕ → tree.Statements → Type 0
Inside k a = (m : ℕ) → SequenceAt m (k + 2) (no_labels_at m (k + 2)) a

of_simple : (n k : ℕ) {w : Text} (b : LabelsAt (put n (1 + k)) w) (st : tree.Statement) {v : Text} → SimpleAt st b v → StatementAt n k b st (line k v)
of_simple n k b st x = record { form = c.simple x.form; good = x.good; tree = λ rest j. tree.then no_span (x.tree j) (statements_placeless rest); end = x.end; block = line_of n k x.chunk (λ y. refl) }

some_else : (n k : ℕ) (b : tree.Statements) → Inside k b
    → (x : MiddleAt n k (codes "else")) (s : SequenceAt x.block.next (k + 2) (no_labels_at x.block.next (k + 2)) b) (d : ClosingAt s.block.next k (codes "if"))
    → Block n (λ ls. printed.otherwise c_syntax k b (line k (closing c_syntax (codes "if")) ls)) (λ ts. mark x.close tk.close_brace (c.else_tokens (c.else_then None x.word (in_braces x.opens s.form d.close)) (semicolon d.end ts)))
    → ElseAt n k b
some_else n k b f x s d block = record { close = x.close; form = c.else_then None x.word (in_braces x.opens s.form d.close); good = λ p ss. (refl, s.good); tree = s.tree; end = d.end; block = block }

else_of : (n k : ℕ) (b : tree.Statements) → AreOrNone b → (AreStatements b → Inside k b) → ElseAt n k b
else_of n k tree.done h f =
    let d = closing_at n k (codes "if") in
    record { close = d.close; form = c.no_else; good = λ p ss. tt; tree = refl; end = d.end; block = d.block }
else_of n k (tree.then at st ss) h f =
    let x = middle_at n k (codes "else") refl (refl, refl) in
    let s = f h x.block.next in
    let d = closing_at s.block.next k (codes "if") in
    some_else n k (tree.then at st ss) (f h) x s d (follow (follow x.block s.block) d.block)
else_of n k (tree.mark l m ss) h f =
    let x = middle_at n k (codes "else") refl (refl, refl) in
    let s = f h x.block.next in
    let d = closing_at s.block.next k (codes "if") in
    some_else n k (tree.mark l m ss) (f h) x s d (follow (follow x.block s.block) d.block)

branch_at : (n k : ℕ) {w : Text} (b : LabelsAt (put n (1 + k)) w) (e : Tree) (x y : tree.Statements) → IsExpression e → Inside k x → AreOrNone y → (AreStatements y → Inside k y) → StatementAt n k b (tree.branch e x y) (printed.statement c_syntax k w (tree.branch e x y))
branch_at n k b e x y h f g i =
    let a = head_at b.chunk.end b.chunk.right (codes "if") refl (refl, refl) e h in
    let l = line_of n k (join b.chunk a.chunk (λ z q. refl)) (λ z. refl) in
    let s = f l.next in
    let t = else_of s.block.next k y g i in
    record {
      form = c.branch b.chunk.end a.opens a.phrase a.close (in_braces a.curly s.form t.close) t.form;
      good = (a.good, s.good, t.good a.curly s.form);
      tree = λ rest j. tree.then no_span (tree.branch (a.tree j) (s.tree j) (t.tree j)) (statements_placeless rest);
      end = t.end;
      block = follow (follow l s.block) t.block;
    }

either_at : (n k : ℕ) {w : Text} (b : LabelsAt (put n (1 + k)) w) (x : tree.Statements) (bs : tree.Branches) → Inside k x → ((m : ℕ) → BranchesAt m k bs) → StatementAt n k b (tree.either (tree.or x bs)) (printed.statement c_syntax k w (tree.either (tree.or x bs)))
either_at n k b x bs f g =
    let a = key_at b.chunk.end b.chunk.right (codes "either") refl (refl, refl) in
    let o = curly_at a.end a.right in
    let l = line_of n k (join b.chunk (join a o.chunk (λ z q. refl)) (λ z q. refl)) (λ z. refl) in
    let s = f l.next in
    let t = g s.block.next in
    record {
      form = c.either b.chunk.end (in_braces o.place s.form t.close) t.form;
      good = (s.good, refl, t.good);
      tree = λ rest j. tree.then no_span (tree.either (tree.or (s.tree j) (t.tree j))) (statements_placeless rest);
      end = t.end;
      block = follow (follow l s.block) t.block;
    }

with_at : (n k : ℕ) {w : Text} (b : LabelsAt (put n (1 + k)) w) (bs : tree.Binds) (x : tree.Statements) → (bs ≡ tree.no_binds → ⊥) → AreBinds bs → Inside k x → StatementAt n k b (tree.with bs x) (printed.statement c_syntax k w (tree.with bs x))
with_at n k b bs x some h f =
    let u = key_at b.chunk.end b.chunk.right (codes "with") refl (refl, refl) in
    let o = round_at u.end u.right in
    let a = binds_at bs some h o.chunk.end o.chunk.right in
    let t = turn_at a.chunk.end a.chunk.right in
    let d = join (join (join u o.chunk (λ y q. refl)) a.chunk (λ y q. binds_start bs y some h)) t.chunk (λ y q. refl) in
    let l = line_of n k (join b.chunk d (λ z q. refl)) (λ z. refl) in
    let s = f l.next in
    let e = closing_at s.block.next k (codes "with") in
    record {
      form = c.with b.chunk.end o.place a.form a.chunk.end (in_braces t.place s.form e.close);
      good = (a.good, s.good);
      tree = λ rest j. tree.then no_span (tree.with (a.same j) (s.tree j)) (statements_placeless rest);
      end = e.end;
      block = follow (follow l s.block) e.block;
    }

while_at : (n k : ℕ) {w : Text} (b : LabelsAt (put n (1 + k)) w) (e : Tree) (x : tree.Statements) → IsExpression e → Inside k x → StatementAt n k b (tree.while e x) (printed.statement c_syntax k w (tree.while e x))
while_at n k b e x h f =
    let a = head_at b.chunk.end b.chunk.right (codes "while") refl (refl, refl) e h in
    let l = line_of n k (join b.chunk a.chunk (λ z q. refl)) (λ z. refl) in
    let s = f l.next in
    let d = closing_at s.block.next k (codes "while") in
    record {
      form = c.while b.chunk.end a.opens a.phrase a.close (in_braces a.curly s.form d.close);
      good = (a.good, s.good);
      tree = λ rest j. tree.then no_span (tree.while (a.tree j) (s.tree j)) (statements_placeless rest);
      end = d.end;
      block = follow (follow l s.block) d.block;
    }

last_branch_at : (n k : ℕ) (x : tree.Statements) → Inside k x → BranchesAt n k (tree.or x tree.no_branches)
last_branch_at n k x f =
    let l = middle_at n k (codes "or") refl (refl, refl) in
    let s = f l.block.next in
    let d = closing_at s.block.next k (codes "either") in
    record {
      close = l.close;
      form = c.last_branch None l.word (in_braces l.opens s.form d.close);
      good = s.good;
      tree = λ j. tree.or (s.tree j) tree.no_branches;
      end = d.end;
      block = follow (follow l.block s.block) d.block;
    }

more_branches_at : (n k : ℕ) (x : tree.Statements) (bs : tree.Branches) → Inside k x → ((m : ℕ) → BranchesAt m k bs) → BranchesAt n k (tree.or x bs)
more_branches_at n k x bs f g =
    let l = middle_at n k (codes "or") refl (refl, refl) in
    let s = f l.block.next in
    let t = g s.block.next in
    record {
      close = l.close;
      form = c.more_branches None l.word (in_braces l.opens s.form t.close) t.form;
      good = (s.good, refl, t.good);
      tree = λ j. tree.or (s.tree j) (t.tree j);
      end = t.end;
      block = follow (follow l.block s.block) t.block;
    }

last_at : (n k : ℕ) {w : Text} (b : LabelsAt (put n (1 + k)) w) (at : tree.Span) (st : tree.Statement) → StatementAt n k b st (printed.statement c_syntax k w st) → SequenceAt n k b (tree.then at st tree.done)
last_at n k b at st x = record { form = c.last_statement (c.labelled b.form x.form) (Some x.end); good = x.good; tree = same_labels b.form (c.flat_statement x.form tree.done) (tree.then at st tree.done) (x.tree tree.done); block = x.block }

more_at : (n k : ℕ) {w : Text} (b : LabelsAt (put n (1 + k)) w) (at : tree.Span) (st : tree.Statement) (ss : tree.Statements) → StatementAt n k b st (printed.statement c_syntax k w st) → ((m : ℕ) → SequenceAt m k (no_labels_at m k) ss) → SequenceAt n k b (tree.then at st ss)
more_at n k b at st ss x f =
    let m = f x.block.next in
    record {
      form = c.more_statements (c.labelled b.form x.form) (Some x.end) m.form;
      good = (x.good, tt, m.good);
      tree = same_labels b.form (c.flat_statement x.form (c.statements m.form)) (tree.then at st ss) (x.tree (c.statements m.form) ∙ ap (λ (r : tree.Statements). tree.then no_span (statement_placeless st) r) m.tree);
      block = follow x.block m.block;
    }

mutual
  statement_at : (n k : ℕ) {w : Text} (b : LabelsAt (put n (1 + k)) w) (st : tree.Statement) → IsStatement st → StatementAt n k b st (printed.statement c_syntax k w st)
  statement_at n k b (tree.assign ms) h = of_simple n k b (tree.assign ms) (assign_at b ms h)
  statement_at n k b (tree.await e) h = of_simple n k b (tree.await e) (await_at b e h)
  statement_at n k b (tree.print e) h = of_simple n k b (tree.print e) (print_at b e h)
  statement_at n k b (tree.assert e) h = of_simple n k b (tree.assert e) (assert_at b e h)
  statement_at n k b tree.skip h = of_simple n k b tree.skip (skip_at b)
  statement_at n k b (tree.branch e x y) h = branch_at n k b e x y h.0 (λ m. sequence_at m (k + 2) (no_labels_at m (k + 2)) x h.1) h.2 (λ g m. sequence_at m (k + 2) (no_labels_at m (k + 2)) y g)
  statement_at n k b (tree.either tree.no_branches) h = absurd h
  statement_at n k b (tree.either (tree.or x bs)) h = either_at n k b x bs (λ m. sequence_at m (k + 2) (no_labels_at m (k + 2)) x h.0) (λ m. branches_at m k bs h.1)
  statement_at n k b (tree.with tree.no_binds x) h = absurd h
  statement_at n k b (tree.with (tree.one_of y e bs) x) h = with_at n k b (tree.one_of y e bs) x (λ q. cc) h.0 (λ m. sequence_at m (k + 2) (no_labels_at m (k + 2)) x h.1)
  statement_at n k b (tree.with (tree.is y e bs) x) h = with_at n k b (tree.is y e bs) x (λ q. cc) h.0 (λ m. sequence_at m (k + 2) (no_labels_at m (k + 2)) x h.1)
  statement_at n k b (tree.while e x) h = while_at n k b e x h.0 (λ m. sequence_at m (k + 2) (no_labels_at m (k + 2)) x h.1)
  statement_at n k b (tree.goto l) h = of_simple n k b (tree.goto l) (goto_at b l h)
  statement_at n k b (tree.macro m ts) h = of_simple n k b (tree.macro m ts) (macro_at b m ts h.0 h.1)
  statement_at n k b (tree.call x ts) h = of_simple n k b (tree.call x ts) (call_at b x ts h.0 h.1)
  statement_at n k b tree.return h = of_simple n k b tree.return (return_at b)

  branches_at : (n k : ℕ) (bs : tree.Branches) → AreBranches bs → BranchesAt n k bs
  branches_at n k tree.no_branches h = absurd h
  branches_at n k (tree.or x tree.no_branches) h = last_branch_at n k x (λ m. sequence_at m (k + 2) (no_labels_at m (k + 2)) x h)
  branches_at n k (tree.or x (tree.or y bs)) h = more_branches_at n k x (tree.or y bs) (λ m. sequence_at m (k + 2) (no_labels_at m (k + 2)) x h.0) (λ m. branches_at m k (tree.or y bs) h.1)

  pub sequence_at : (n k : ℕ) {w : Text} (b : LabelsAt (put n (1 + k)) w) (ss : tree.Statements) → AreStatements ss → SequenceAt n k b ss
  sequence_at n k b tree.done h = absurd h
  sequence_at n k b (tree.then at st tree.done) h = last_at n k b at st (statement_at n k b st h.0)
  sequence_at n k b (tree.then at st (tree.then ar su ss)) h = more_at n k b at st (tree.then ar su ss) (statement_at n k b st h.0) (λ m. sequence_at m k (no_labels_at m k) (tree.then ar su ss) h.1)
  sequence_at n k b (tree.then at st (tree.mark l a ss)) h = more_at n k b at st (tree.mark l a ss) (statement_at n k b st h.0) (λ m. sequence_at m k (no_labels_at m k) (tree.mark l a ss) h.1)
  sequence_at n k b (tree.mark l a ss) h =
      let x = next_label b l a h.0 in
      let s = sequence_at n k x.now ss h.1 in
      record { form = s.form; good = s.good; tree = s.tree ∙ x.marks ss; block = s.block }
