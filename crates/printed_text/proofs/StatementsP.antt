-- Lists of statements as they are printed in P-syntax: their lines have the tokens of a list of the syntax that has the tree, places aside.
use Rattle.std.proofs.Common.{◌≡◌, ℕ, ◌+◌, true, ◌++◌, Some, refl, ◌∙◌, codes}
use Rattle.tla_token.specs.declared.place.Place.{Place}
use Rattle.tla_token.specs.Words.{is_pluscal_word}
use Rattle.tla_token.specs.Lexemes as lexeme
use Rattle.tla_tree.specs.Tree.{Word, Tree}
use Rattle.tla_tree.specs.Spelling.{Phrase, Right, IsGood, tree_of}
use Rattle.tla_tree.specs.Written.{written}
use Rattle.tla_tree.specs.laws.InText.{ends_word}
use Rattle.tla_tree.specs.laws.Placeless.{tree_placeless}
use Rattle.pcal_tree.specs.Algorithm as tree
use Rattle.pcal_tree.specs.Placeless.{no_span, statement_placeless, statements_placeless, branches_placeless}
use Rattle.pcal_tree.specs.GrammarParts.{key, semicolon, expression, labels, with_labels}
use Rattle.pcal_tree.specs.GrammarP as p
use Rattle.pcal_tree.specs.Grammar.{p_syntax}
use Rattle.pcal_tree.specs.Printed.{Text, Lines, line, listed, binds_texts, closing}
use Rattle.pcal_tree.specs.Printed as printed
use Rattle.printed_text.specs.laws.Printable.{IsExpression, AreBinds, IsStatement, AreStatements, AreOrNone, AreBranches}
use Rattle.printed_text.proofs.Chunks.{Chunk, put, in_line, join, space}
use Rattle.printed_text.proofs.TokenChunks.{key_at, key_space, semicolon_at}
use Rattle.printed_text.proofs.ExprChunks.{expr_at}
use Rattle.printed_text.proofs.SimpleChunks.{same_labels, LabelsAt, next_label, binds_at, SimpleAt, no_labels_at, assign_at, await_at, print_at, assert_at, skip_at, goto_at, macro_at, call_at, return_at}
use Rattle.printed_text.proofs.Blocks.{Block, line_of, no_lines, follow}

-- ---- the first and the last line of a compound statement

-- `while e do`
record HeadAt (at : Place) (k : Word) (e : Tree) (v : Word) : Type 0 where
  phrase : Phrase
  good : IsGood phrase
  tree : tree_placeless (tree_of phrase) ≡ tree_placeless e
  second : Place
  chunk : Chunk ends_word at (k ++ codes " " ++ written e ++ codes " " ++ v) (λ ts. key at k (expression phrase (key second v ts)))

head_at : (at : Place) → Right 0 at → (k : Word) → is_pluscal_word k ≡ true → lexeme.IsName k → (e : Tree) → IsExpression e → (v : Word) → is_pluscal_word v ≡ true → lexeme.IsName v → HeadAt at k e v
head_at at r k i n e h v j m =
    let x = key_space at r k i n in
    let a = expr_at e h x.end x.right in
    let s = space a.chunk.end a.chunk.right in
    let t = key_at s.end s.right v j m in
    record { phrase = a.phrase; good = a.good; tree = a.tree; second = s.end; chunk = join (join (join x a.chunk (λ y q. refl)) s (λ y q. refl)) t (λ y q. refl) }

-- `end while;`
pub record ClosingAt (n k : ℕ) (w : Word) : Type 0 where
  pub first : Place
  pub second : Place
  pub end : Place
  pub block : Block n (line k (closing p_syntax w)) (λ ts. key first (codes "end") (key second w (semicolon end ts)))

pub closing_at : (n k : ℕ) (w : Word) → is_pluscal_word w ≡ true → lexeme.IsName w → ClosingAt n k w
closing_at n k w i m =
    let x = key_space (put n (1 + k)) (in_line n k) (codes "end") refl (refl, refl) in
    let y = key_at x.end x.right w i m in
    let s = semicolon_at y.end y.right in
    record { first = put n (1 + k); second = x.end; end = y.end; block = line_of n k (join (join x y (λ z q. refl)) s (λ z q. refl)) (λ z. refl) }

-- ---- statements and lists of them

pub record StatementAt (n k : ℕ) {w : Text} (b : LabelsAt (put n (1 + k)) w) (st : tree.Statement) (L : Lines) : Type 0 where
  pub form : p.Statement
  pub good : p.GoodStatement form
  pub tree : statement_placeless (p.statement_tree form) ≡ statement_placeless st
  pub end : Place
  pub block : Block n L (λ ts. labels b.form (p.statement form (semicolon end ts)))

pub record SequenceAt (n k : ℕ) {w : Text} (b : LabelsAt (put n (1 + k)) w) (ss : tree.Statements) : Type 0 where
  pub form : p.Sequence
  pub good : p.GoodSequence form
  pub tree : statements_placeless (p.statements form) ≡ statements_placeless (with_labels b.form ss)
  pub block : Block n (printed.statements p_syntax k w ss) (p.sequence form)

record ElseAt (n k : ℕ) (b : tree.Statements) : Type 0 where
  form : p.Else
  good : p.GoodElse form
  tree : (last : Place) → statements_placeless (p.else_statements last form) ≡ statements_placeless b
  block : Block n (printed.otherwise p_syntax k b) (p.else_tokens form)

record BranchesAt (n k : ℕ) (bs : tree.Branches) : Type 0 where
  form : p.Branches
  good : p.GoodBranches form
  tree : branches_placeless (p.branch_trees form) ≡ branches_placeless bs
  block : Block n (printed.branches p_syntax k (codes "or") bs) (p.branches form)

-- a list two deeper, from line m on
abbrev Inside : ℕ → tree.Statements → Type 0
Inside k a = (m : ℕ) → SequenceAt m (k + 2) (no_labels_at m (k + 2)) a

of_simple : (n k : ℕ) {w : Text} (b : LabelsAt (put n (1 + k)) w) (st : tree.Statement) {v : Text} → SimpleAt st b v → StatementAt n k b st (line k v)
of_simple n k b st x = record { form = p.simple x.form; good = x.good; tree = x.tree; end = x.end; block = line_of n k x.chunk (λ y. refl) }

else_of : (n k : ℕ) (b : tree.Statements) → AreOrNone b → (AreStatements b → Inside k b) → ElseAt n k b
else_of n k tree.done h f = record { form = p.no_else; good = tt; tree = λ l. refl; block = no_lines n }
else_of n k (tree.then at st ss) h f =
    let x = line_of n k (key_at (put n (1 + k)) (in_line n k) (codes "else") refl (refl, refl)) (λ y. refl) in
    let s = f h x.next in
    record { form = p.else_then (put n (1 + k)) s.form; good = s.good; tree = λ l. s.tree; block = follow x s.block }
else_of n k (tree.mark l m ss) h f =
    let x = line_of n k (key_at (put n (1 + k)) (in_line n k) (codes "else") refl (refl, refl)) (λ y. refl) in
    let s = f h x.next in
    record { form = p.else_then (put n (1 + k)) s.form; good = s.good; tree = λ l. s.tree; block = follow x s.block }

branch_at : (n k : ℕ) {w : Text} (b : LabelsAt (put n (1 + k)) w) (e : Tree) (x y : tree.Statements) → IsExpression e → Inside k x → AreOrNone y → (AreStatements y → Inside k y) → StatementAt n k b (tree.branch e x y) (printed.statement p_syntax k w (tree.branch e x y))
branch_at n k b e x y h f g i =
    let a = head_at b.chunk.end b.chunk.right (codes "if") refl (refl, refl) e h (codes "then") refl (refl, refl) in
    let l = line_of n k (join b.chunk a.chunk (λ z q. refl)) (λ z. refl) in
    let s = f l.next in
    let t = else_of s.block.next k y g i in
    let c = closing_at t.block.next k (codes "if") refl (refl, refl) in
    record {
      form = p.branch b.chunk.end a.phrase a.second s.form t.form c.first c.second;
      good = (a.good, s.good, t.good);
      tree = λ j. tree.branch (a.tree j) (s.tree j) (t.tree c.second j);
      end = c.end;
      block = follow (follow (follow l s.block) t.block) c.block;
    }

either_at : (n k : ℕ) {w : Text} (b : LabelsAt (put n (1 + k)) w) (x : tree.Statements) (bs : tree.Branches) → Inside k x → ((m : ℕ) → BranchesAt m k bs) → StatementAt n k b (tree.either (tree.or x bs)) (printed.statement p_syntax k w (tree.either (tree.or x bs)))
either_at n k b x bs f g =
    let a = key_at b.chunk.end b.chunk.right (codes "either") refl (refl, refl) in
    let l = line_of n k (join b.chunk a (λ z q. refl)) (λ z. refl) in
    let s = f l.next in
    let t = g s.block.next in
    let c = closing_at t.block.next k (codes "either") refl (refl, refl) in
    record {
      form = p.either b.chunk.end s.form t.form c.first c.second;
      good = (s.good, t.good);
      tree = λ j. tree.either (tree.or (s.tree j) (t.tree j));
      end = c.end;
      block = follow (follow (follow l s.block) t.block) c.block;
    }

with_at : (n k : ℕ) {w : Text} (b : LabelsAt (put n (1 + k)) w) (bs : tree.Binds) (x : tree.Statements) → (bs ≡ tree.no_binds → ⊥) → AreBinds bs → Inside k x → StatementAt n k b (tree.with bs x) (printed.statement p_syntax k w (tree.with bs x))
with_at n k b bs x some h f =
    let u = key_space b.chunk.end b.chunk.right (codes "with") refl (refl, refl) in
    let a = binds_at bs some h u.end u.right in
    let v = space a.chunk.end a.chunk.right in
    let t = key_at v.end v.right (codes "do") refl (refl, refl) in
    let d = join (join (join u a.chunk (λ y q. refl)) v (λ y q. refl)) t (λ y q. refl) in
    let l = line_of n k (join b.chunk d (λ z q. refl)) (λ z. refl) in
    let s = f l.next in
    let c = closing_at s.block.next k (codes "with") refl (refl, refl) in
    record {
      form = p.with b.chunk.end a.form v.end s.form c.first c.second;
      good = (a.good, s.good);
      tree = λ j. tree.with (a.same j) (s.tree j);
      end = c.end;
      block = follow (follow l s.block) c.block;
    }

while_at : (n k : ℕ) {w : Text} (b : LabelsAt (put n (1 + k)) w) (e : Tree) (x : tree.Statements) → IsExpression e → Inside k x → StatementAt n k b (tree.while e x) (printed.statement p_syntax k w (tree.while e x))
while_at n k b e x h f =
    let a = head_at b.chunk.end b.chunk.right (codes "while") refl (refl, refl) e h (codes "do") refl (refl, refl) in
    let l = line_of n k (join b.chunk a.chunk (λ z q. refl)) (λ z. refl) in
    let s = f l.next in
    let c = closing_at s.block.next k (codes "while") refl (refl, refl) in
    record {
      form = p.while b.chunk.end a.phrase a.second s.form c.first c.second;
      good = (a.good, s.good);
      tree = λ j. tree.while (a.tree j) (s.tree j);
      end = c.end;
      block = follow (follow l s.block) c.block;
    }

last_branch_at : (n k : ℕ) (x : tree.Statements) → Inside k x → BranchesAt n k (tree.or x tree.no_branches)
last_branch_at n k x f =
    let l = line_of n k (key_at (put n (1 + k)) (in_line n k) (codes "or") refl (refl, refl)) (λ y. refl) in
    let s = f l.next in
    record { form = p.last_branch (put n (1 + k)) s.form; good = s.good; tree = λ j. tree.or (s.tree j) tree.no_branches; block = follow l s.block }

more_branches_at : (n k : ℕ) (x : tree.Statements) (bs : tree.Branches) → Inside k x → ((m : ℕ) → BranchesAt m k bs) → BranchesAt n k (tree.or x bs)
more_branches_at n k x bs f g =
    let l = line_of n k (key_at (put n (1 + k)) (in_line n k) (codes "or") refl (refl, refl)) (λ y. refl) in
    let s = f l.next in
    let t = g s.block.next in
    record { form = p.more_branches (put n (1 + k)) s.form t.form; good = (s.good, t.good); tree = λ j. tree.or (s.tree j) (t.tree j); block = follow (follow l s.block) t.block }

last_at : (n k : ℕ) {w : Text} (b : LabelsAt (put n (1 + k)) w) (at : tree.Span) (st : tree.Statement) → StatementAt n k b st (printed.statement p_syntax k w st) → SequenceAt n k b (tree.then at st tree.done)
last_at n k b at st x = record { form = p.last_statement b.form x.form (Some x.end); good = x.good; tree = same_labels b.form _ (tree.then at st tree.done) (λ j. tree.then no_span (x.tree j) tree.done); block = x.block }

more_at : (n k : ℕ) {w : Text} (b : LabelsAt (put n (1 + k)) w) (at : tree.Span) (st : tree.Statement) (ss : tree.Statements) → StatementAt n k b st (printed.statement p_syntax k w st) → ((m : ℕ) → SequenceAt m k (no_labels_at m k) ss) → SequenceAt n k b (tree.then at st ss)
more_at n k b at st ss x f =
    let m = f x.block.next in
    record { form = p.more_statements b.form x.form x.end m.form; good = (x.good, m.good); tree = same_labels b.form _ (tree.then at st ss) (λ j. tree.then no_span (x.tree j) (m.tree j)); block = follow x.block m.block }

mutual
  statement_at : (n k : ℕ) {w : Text} (b : LabelsAt (put n (1 + k)) w) (st : tree.Statement) → IsStatement st → StatementAt n k b st (printed.statement p_syntax k w st)
  statement_at n k b (tree.assign ms) h = of_simple n k b (tree.assign ms) (assign_at b ms h)
  statement_at n k b (tree.await e) h = of_simple n k b (tree.await e) (await_at b e h)
  statement_at n k b (tree.print e) h = of_simple n k b (tree.print e) (print_at b e h)
  statement_at n k b (tree.assert e) h = of_simple n k b (tree.assert e) (assert_at b e h)
  statement_at n k b tree.skip h = of_simple n k b tree.skip (skip_at b)
  statement_at n k b (tree.branch e x y) h = branch_at n k b e x y h.0 (λ m. sequence_at m (k + 2) (no_labels_at m (k + 2)) x h.1) h.2 (λ g m. sequence_at m (k + 2) (no_labels_at m (k + 2)) y g)
  statement_at n k b (tree.either tree.no_branches) h = absurd h
  statement_at n k b (tree.either (tree.or x bs)) h = either_at n k b x bs (λ m. sequence_at m (k + 2) (no_labels_at m (k + 2)) x h.0) (λ m. branches_at m k bs h.1)
  statement_at n k b (tree.with tree.no_binds x) h = absurd h
  statement_at n k b (tree.with (tree.one_of y e bs) x) h = with_at n k b (tree.one_of y e bs) x (λ q. cc) h.0 (λ m. sequence_at m (k + 2) (no_labels_at m (k + 2)) x h.1)
  statement_at n k b (tree.with (tree.is y e bs) x) h = with_at n k b (tree.is y e bs) x (λ q. cc) h.0 (λ m. sequence_at m (k + 2) (no_labels_at m (k + 2)) x h.1)
  statement_at n k b (tree.while e x) h = while_at n k b e x h.0 (λ m. sequence_at m (k + 2) (no_labels_at m (k + 2)) x h.1)
  statement_at n k b (tree.goto l) h = of_simple n k b (tree.goto l) (goto_at b l h)
  statement_at n k b (tree.macro m ts) h = of_simple n k b (tree.macro m ts) (macro_at b m ts h.0 h.1)
  statement_at n k b (tree.call x ts) h = of_simple n k b (tree.call x ts) (call_at b x ts h.0 h.1)
  statement_at n k b tree.return h = of_simple n k b tree.return (return_at b)

  branches_at : (n k : ℕ) (bs : tree.Branches) → AreBranches bs → BranchesAt n k bs
  branches_at n k tree.no_branches h = absurd h
  branches_at n k (tree.or x tree.no_branches) h = last_branch_at n k x (λ m. sequence_at m (k + 2) (no_labels_at m (k + 2)) x h)
  branches_at n k (tree.or x (tree.or y bs)) h = more_branches_at n k x (tree.or y bs) (λ m. sequence_at m (k + 2) (no_labels_at m (k + 2)) x h.0) (λ m. branches_at m k (tree.or y bs) h.1)

  pub sequence_at : (n k : ℕ) {w : Text} (b : LabelsAt (put n (1 + k)) w) (ss : tree.Statements) → AreStatements ss → SequenceAt n k b ss
  sequence_at n k b tree.done h = absurd h
  sequence_at n k b (tree.then at st tree.done) h = last_at n k b at st (statement_at n k b st h.0)
  sequence_at n k b (tree.then at st (tree.then ar su ss)) h = more_at n k b at st (tree.then ar su ss) (statement_at n k b st h.0) (λ m. sequence_at m k (no_labels_at m k) (tree.then ar su ss) h.1)
  sequence_at n k b (tree.then at st (tree.mark l a ss)) h = more_at n k b at st (tree.mark l a ss) (statement_at n k b st h.0) (λ m. sequence_at m k (no_labels_at m k) (tree.mark l a ss) h.1)
  sequence_at n k b (tree.mark l a ss) h =
      let x = next_label b l a h.0 in
      let s = sequence_at n k x.now ss h.1 in
      record { form = s.form; good = s.good; tree = s.tree ∙ x.marks ss; block = s.block }
