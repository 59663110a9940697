-- Labels, binds and simple statements as chunks of a text: what is printed has the tokens of a form of them, places aside.
use Rattle.std.proofs.Common.{◌≡◌, ℕ, ◌+◌, Bool, true, false, List, [], ◌++◌, None, refl, sym, ap, ◌∙◌, append_assoc, codes}
use Rattle.tla_token.specs.declared.place.Place.{Place}
use Rattle.tla_token.specs.Words.{is_pluscal_word}
use Rattle.tla_token.specs.Lexemes as lexeme
use Rattle.tla_tree.specs.Tree.{Word, Name, Tree, Trees}
use Rattle.tla_tree.specs.Lexical.{Token}
use Rattle.tla_tree.specs.Lexical as tk
use Rattle.tla_tree.specs.Spelling.{Phrase, Right, IsGood, tree_of}
use Rattle.tla_tree.specs.Written.{written}
use Rattle.tla_tree.specs.laws.InText.{ends_word}
use Rattle.tla_tree.specs.laws.Placeless.{name_placeless, tree_placeless}
use Rattle.tla_tree.proofs.FitTokens.{starts}
use Rattle.pcal_tree.specs.declared.mark.Mark.{Mark}
use Rattle.pcal_tree.specs.declared.mark.Mark.TheVariants as marks
use Rattle.pcal_tree.specs.Marks.{text_of_mark}
use Rattle.pcal_tree.specs.Algorithm as tree
use Rattle.pcal_tree.specs.Placeless.{assignments_placeless, binds_placeless, statement_placeless, statements_placeless}
use Rattle.pcal_tree.specs.GrammarParts.{Tokens, Separator, by_comma, maybe_separator, Colon, colon, colon_plus, colon_minus, colon_tokens, Labels, no_labels, label, labels, with_labels, Binds, last_bind, bind, binds, binds_of, bind_sign, bound, GoodBinds, Assignments, last_assignment, assignment, assignments, assignments_of, GoodAssignments, Simple, simple_tokens, simple_tree, GoodSimple, semicolon}
use Rattle.pcal_tree.specs.GrammarParts as grammar
use Rattle.pcal_tree.specs.Printed.{Text, separated, listed, assignments_texts, binds_texts, arguments_text}
use Rattle.printed_text.specs.laws.Printable.{IsName, IsExpression, AreExpressions, IsAssignment, AreAssignments, AreBinds}
use Rattle.tla_tree.specs.laws.Writable.{IsIdentifier}
use Rattle.module_tree.proofs.ExprChunks.{name_starts}
use Rattle.printed_text.proofs.Chunks.{Chunk, any, put, in_line, join, nothing}
use Rattle.printed_text.proofs.TokenChunks.{retold, reworded, name_at, key_at, key_space, semicolon_at, comma_space, spaced_equal, spaced_in, spaced_assigns, spaced_beside, colon_at}
use Rattle.printed_text.proofs.ExprChunks.{expr_at}
use Rattle.printed_text.proofs.ListChunks.{named, arguments_at}

-- ---- labels

pub same_labels : (ls : Labels) (a b : tree.Statements) → statements_placeless a ≡ statements_placeless b → statements_placeless (with_labels ls a) ≡ statements_placeless (with_labels ls b)
same_labels no_labels a b e = e
same_labels (label x (colon p) ls) a b e = ap (λ (s : tree.Statements). tree.mark (name_placeless x) marks.Plain s) (same_labels ls a b e)
same_labels (label x (colon_plus p q) ls) a b e = ap (λ (s : tree.Statements). tree.mark (name_placeless x) marks.Strong s) (same_labels ls a b e)
same_labels (label x (colon_minus p q) ls) a b e = ap (λ (s : tree.Statements). tree.mark (name_placeless x) marks.LeftOut s) (same_labels ls a b e)

-- one more, behind them
abbrev snoc : Labels → Name → Colon → Labels
snoc no_labels x c = label x c no_labels
snoc (label y d ls) x c = label y d (snoc ls x c)

snoc_tokens : (ls : Labels) (x : Name) (c : Colon) (ts : List Token) → labels ls (grammar.name x (colon_tokens c ts)) ≡ labels (snoc ls x c) ts
snoc_tokens no_labels x c ts = refl
snoc_tokens (label y d ls) x c ts = ap (λ (us : List Token). grammar.name y (colon_tokens d us)) (snoc_tokens ls x c ts)

snoc_tree : (ls : Labels) (x : Name) (c : Colon) (ss : tree.Statements) → with_labels (snoc ls x c) ss ≡ with_labels ls (with_labels (label x c no_labels) ss)
snoc_tree no_labels x c ss = refl
snoc_tree (label y (colon p) ls) x c ss = ap (λ (s : tree.Statements). tree.mark y marks.Plain s) (snoc_tree ls x c ss)
snoc_tree (label y (colon_plus p q) ls) x c ss = ap (λ (s : tree.Statements). tree.mark y marks.Strong s) (snoc_tree ls x c ss)
snoc_tree (label y (colon_minus p q) ls) x c ss = ap (λ (s : tree.Statements). tree.mark y marks.LeftOut s) (snoc_tree ls x c ss)

-- labels at the front of a statement
pub record LabelsAt (p : Place) (w : Text) : Type 0 where
  pub form : Labels
  pub chunk : Chunk any p w (labels form)

abbrev pub no_labels_at : (n k : ℕ) → LabelsAt (put n (1 + k)) []
no_labels_at n k = record { form = no_labels; chunk = nothing (put n (1 + k)) (in_line n k) }

pub record NextLabel {p : Place} {w : Text} (before : LabelsAt p w) (l : Name) (m : Mark) : Type 0 where
  pub now : LabelsAt p (w ++ l.word ++ text_of_mark m ++ codes " ")
  pub marks : (ss : tree.Statements) → statements_placeless (with_labels now.form ss) ≡ statements_placeless (with_labels before.form (tree.mark l m ss))

mark_ends : (m : Mark) (x : List ℕ) → ends_word ((text_of_mark m ++ codes " ") ++ x) ≡ true
mark_ends marks.Plain x = refl
mark_ends marks.Strong x = refl
mark_ends marks.LeftOut x = refl

pub next_label : {p : Place} {w : Text} (before : LabelsAt p w) (l : Name) (m : Mark) → IsName l → NextLabel before l m
next_label {p} {w} before l m h =
    let n = name_at before.chunk.end before.chunk.right l.word h in
    let c = colon_at m n.end n.right in
    let x : Name = named before.chunk.end l in
    let all = join (join before.chunk n (λ y e. refl)) c.chunk (λ y e. mark_ends m y) in
    record {
      now = record { form = snoc before.form x c.colon; chunk = retold (snoc_tokens before.form x c.colon) (reworded (sym (append_assoc (w ++ l.word) (text_of_mark m) (codes " "))) all) };
      marks = λ ss. ap statements_placeless (snoc_tree before.form x c.colon ss) ∙ same_labels before.form (with_labels (label x c.colon no_labels) ss) (tree.mark l m ss) (ap statements_placeless (c.marks x ss));
    }

-- ---- what a `with` names

abbrev bind_text : Bool → Name → Tree → Text
bind_text true x e = x.word ++ codes " \\in " ++ written e
bind_text false x e = x.word ++ codes " = " ++ written e

record BindAt (b : Bool) (x : Name) (e : Tree) (p : Place) : Type 0 where
  sign : Place
  phrase : Phrase
  good : IsGood phrase
  tree : tree_placeless (tree_of phrase) ≡ tree_placeless e
  chunk : Chunk ends_word p (bind_text b x e) (λ ts. grammar.name (named p x) (grammar.sign sign (bind_sign b) (grammar.expression phrase ts)))

bind_at : (b : Bool) (x : Name) (e : Tree) → IsName x → IsExpression e → (p : Place) → Right 0 p → BindAt b x e p
bind_at true x e h v p r =
    let n = name_at p r x.word h in
    let s = spaced_in n.end n.right in
    let a = expr_at e v s.chunk.end s.chunk.right in
    record { sign = s.place; phrase = a.phrase; good = a.good; tree = a.tree; chunk = join (join n s.chunk (λ y k. refl)) a.chunk (λ y k. refl) }
bind_at false x e h v p r =
    let n = name_at p r x.word h in
    let s = spaced_equal n.end n.right in
    let a = expr_at e v s.chunk.end s.chunk.right in
    record { sign = s.place; phrase = a.phrase; good = a.good; tree = a.tree; chunk = join (join n s.chunk (λ y k. refl)) a.chunk (λ y k. refl) }

abbrev bind_tree : Bool → Name → Tree → tree.Binds → tree.Binds
bind_tree true x e bs = tree.one_of x e bs
bind_tree false x e bs = tree.is x e bs

same_bind : (b : Bool) (x : Name) (p : Place) (a : Phrase) (e : Tree) (bs cs : tree.Binds) → tree_placeless (tree_of a) ≡ tree_placeless e → binds_placeless bs ≡ binds_placeless cs → binds_placeless (bound b (named p x) a bs) ≡ binds_placeless (bind_tree b x e cs)
same_bind true x p a e bs cs h k = λ i. tree.one_of (name_placeless x) (h i) (k i)
same_bind false x p a e bs cs h k = λ i. tree.is (name_placeless x) (h i) (k i)

pub record BindsAt (bs : tree.Binds) (p : Place) : Type 0 where
  pub form : Binds
  pub good : GoodBinds form
  pub same : binds_placeless (binds_of form) ≡ binds_placeless bs
  pub chunk : Chunk ends_word p (listed (binds_texts bs)) (binds form)

record BindForm (b : Bool) (x : Name) (e : Tree) (bs : tree.Binds) (w : Text) (p : Place) : Type 0 where
  form : Binds
  good : GoodBinds form
  same : binds_placeless (binds_of form) ≡ binds_placeless (bind_tree b x e bs)
  chunk : Chunk ends_word p w (binds form)

last_bind_at : (b : Bool) (x : Name) (e : Tree) → IsName x → IsExpression e → (p : Place) → Right 0 p → (w : Text) → bind_text b x e ≡ w → BindForm b x e tree.no_binds w p
last_bind_at b x e h v p r w q = (let a = bind_at b x e h v p r in record { form = last_bind (named p x) b a.sign a.phrase None; good = a.good; same = same_bind b x p a.phrase e tree.no_binds tree.no_binds a.tree refl; chunk = reworded q a.chunk })

more_binds_at : (b : Bool) (x : Name) (e : Tree) → IsName x → IsExpression e → (p : Place) → Right 0 p → (bs : tree.Binds) → ((q : Place) → Right 0 q → BindsAt bs q) → BindForm b x e bs (bind_text b x e ++ codes ", " ++ listed (binds_texts bs)) p
more_binds_at b x e h v p r bs f =
    let a = bind_at b x e h v p r in
    let c = comma_space a.chunk.end a.chunk.right in
    let m = f c.end c.right in
    record {
      form = bind (named p x) b a.sign a.phrase (by_comma a.chunk.end) m.form;
      good = (a.good, m.good);
      same = same_bind b x p a.phrase e (binds_of m.form) bs a.tree m.same;
      chunk = join (join a.chunk c (λ y k. refl)) m.chunk (λ y k. refl);
    }

pub binds_at : (bs : tree.Binds) → (bs ≡ tree.no_binds → ⊥) → AreBinds bs → (p : Place) → Right 0 p → BindsAt bs p
binds_at tree.no_binds n h p r = absurd (n refl)
binds_at (tree.one_of x e tree.no_binds) n h p r = (let a = last_bind_at true x e h.0 h.1 p r _ refl in record { form = a.form; good = a.good; same = a.same; chunk = a.chunk })
binds_at (tree.is x e tree.no_binds) n h p r = (let a = last_bind_at false x e h.0 h.1 p r _ refl in record { form = a.form; good = a.good; same = a.same; chunk = a.chunk })
binds_at (tree.one_of x e (tree.one_of y f bs)) n h p r = (let a = more_binds_at true x e h.0 h.1 p r (tree.one_of y f bs) (binds_at (tree.one_of y f bs) (λ k. cc) h.2) in record { form = a.form; good = a.good; same = a.same; chunk = a.chunk })
binds_at (tree.one_of x e (tree.is y f bs)) n h p r = (let a = more_binds_at true x e h.0 h.1 p r (tree.is y f bs) (binds_at (tree.is y f bs) (λ k. cc) h.2) in record { form = a.form; good = a.good; same = a.same; chunk = a.chunk })
binds_at (tree.is x e (tree.one_of y f bs)) n h p r = (let a = more_binds_at false x e h.0 h.1 p r (tree.one_of y f bs) (binds_at (tree.one_of y f bs) (λ k. cc) h.2) in record { form = a.form; good = a.good; same = a.same; chunk = a.chunk })
binds_at (tree.is x e (tree.is y f bs)) n h p r = (let a = more_binds_at false x e h.0 h.1 p r (tree.is y f bs) (binds_at (tree.is y f bs) (λ k. cc) h.2) in record { form = a.form; good = a.good; same = a.same; chunk = a.chunk })

one_starts : (b : Bool) (x : Name) (e : Tree) (y : List ℕ) → IsName x → starts (bind_text b x e ++ y) ≡ true
one_starts true x e y h = ap starts (append_assoc (x.word ++ codes " \\in ") (written e) y ∙ append_assoc x.word (codes " \\in ") _) ∙ name_starts x.word _ h
one_starts false x e y h = ap starts (append_assoc (x.word ++ codes " = ") (written e) y ∙ append_assoc x.word (codes " = ") _) ∙ name_starts x.word _ h

more_start : (b : Bool) (x : Name) (e : Tree) (w y : List ℕ) → IsName x → starts ((bind_text b x e ++ codes ", " ++ w) ++ y) ≡ true
more_start b x e w y h = ap starts (append_assoc (bind_text b x e ++ codes ", ") w y ∙ append_assoc (bind_text b x e) (codes ", ") _) ∙ one_starts b x e _ h

pub binds_start : (bs : tree.Binds) (y : List ℕ) → (bs ≡ tree.no_binds → ⊥) → AreBinds bs → starts (listed (binds_texts bs) ++ y) ≡ true
binds_start tree.no_binds y n h = absurd (n refl)
binds_start (tree.one_of x e tree.no_binds) y n h = one_starts true x e y h.0
binds_start (tree.is x e tree.no_binds) y n h = one_starts false x e y h.0
binds_start (tree.one_of x e (tree.one_of z f bs)) y n h = more_start true x e (listed (binds_texts (tree.one_of z f bs))) y h.0
binds_start (tree.one_of x e (tree.is z f bs)) y n h = more_start true x e (listed (binds_texts (tree.is z f bs))) y h.0
binds_start (tree.is x e (tree.one_of z f bs)) y n h = more_start false x e (listed (binds_texts (tree.one_of z f bs))) y h.0
binds_start (tree.is x e (tree.is z f bs)) y n h = more_start false x e (listed (binds_texts (tree.is z f bs))) y h.0

-- ---- assignments

record AssignedAt (l e : Tree) (p : Place) : Type 0 where
  left : Phrase
  sign : Place
  phrase : Phrase
  is_left : grammar.is_left_side left ≡ true
  good_left : IsGood left
  good : IsGood phrase
  same_left : tree_placeless (tree_of left) ≡ tree_placeless l
  same : tree_placeless (tree_of phrase) ≡ tree_placeless e
  chunk : Chunk ends_word p (written l ++ codes " := " ++ written e) (λ ts. grammar.expression left (grammar.mark sign tk.assigns (grammar.expression phrase ts)))

assigned_at : (l e : Tree) → IsAssignment l e → (p : Place) → Right 0 p → AssignedAt l e p
assigned_at l e h p r =
    let x = expr_at l h.1 p r in
    let s = spaced_assigns x.chunk.end x.chunk.right in
    let y = expr_at e h.2 s.chunk.end s.chunk.right in
    record {
      left = x.phrase;
      sign = s.place;
      phrase = y.phrase;
      is_left = x.left h.0;
      good_left = x.good;
      good = y.good;
      same_left = x.tree;
      same = y.tree;
      chunk = join (join x.chunk s.chunk (λ z k. refl)) y.chunk (λ z k. refl);
    }

record AssignmentsAt (ms : tree.Assignments) (p : Place) : Type 0 where
  form : Assignments
  good : GoodAssignments form
  same : assignments_placeless (assignments_of form) ≡ assignments_placeless ms
  chunk : Chunk ends_word p (separated (codes " || ") (assignments_texts ms)) (assignments form)

assignments_at : (ms : tree.Assignments) → AreAssignments ms → (p : Place) → Right 0 p → AssignmentsAt ms p
assignments_at tree.no_assignments h p r = absurd h
assignments_at (tree.assignment l e tree.no_assignments) h p r =
    let a = assigned_at l e h p r in
    record { form = last_assignment a.left a.sign a.phrase; good = (a.is_left, a.good_left, a.good); same = λ i. tree.assignment (a.same_left i) (a.same i) tree.no_assignments; chunk = a.chunk }
assignments_at (tree.assignment l e (tree.assignment k f ms)) h p r =
    let a = assigned_at l e h.0 p r in
    let s = spaced_beside a.chunk.end a.chunk.right in
    let m = assignments_at (tree.assignment k f ms) h.1 s.chunk.end s.chunk.right in
    record {
      form = assignment a.left a.sign a.phrase s.place m.form;
      good = (a.is_left, a.good_left, a.good, m.good);
      same = λ i. tree.assignment (a.same_left i) (a.same i) (m.same i);
      chunk = join (join a.chunk s.chunk (λ z q. refl)) m.chunk (λ z q. refl);
    }

-- ---- simple statements, at the front of a line after labels, with their semicolons

pub record SimpleAt (st : tree.Statement) {p : Place} {w : Text} (before : LabelsAt p w) (v : Text) : Type 0 where
  pub form : Simple
  pub good : GoodSimple form
  pub tree : statement_placeless (simple_tree form) ≡ statement_placeless st
  pub end : Place
  pub chunk : Chunk any p v (λ ts. labels before.form (simple_tokens form (semicolon end ts)))

pub assign_at : {p : Place} {w : Text} (b : LabelsAt p w) (ms : tree.Assignments) → AreAssignments ms → SimpleAt (tree.assign ms) b (w ++ separated (codes " || ") (assignments_texts ms) ++ codes ";")
assign_at b ms h =
    let a = assignments_at ms h b.chunk.end b.chunk.right in
    let s = semicolon_at a.chunk.end a.chunk.right in
    record { form = grammar.assign a.form; good = a.good; tree = ap tree.assign a.same; end = a.chunk.end; chunk = join (join b.chunk a.chunk (λ y e. refl)) s (λ y e. refl) }

record WithExpression {p : Place} {w : Text} (b : LabelsAt p w) (k : Word) (e : Tree) : Type 0 where
  phrase : Phrase
  good : IsGood phrase
  tree : tree_placeless (tree_of phrase) ≡ tree_placeless e
  at : Place
  end : Place
  chunk : Chunk any p (w ++ (k ++ codes " ") ++ written e ++ codes ";") (λ ts. labels b.form (grammar.key at k (grammar.expression phrase (semicolon end ts))))

with_expression : {p : Place} {w : Text} (b : LabelsAt p w) (k : Word) → is_pluscal_word k ≡ true → lexeme.IsName k → (e : Tree) → IsExpression e → WithExpression b k e
with_expression b k i n e h =
    let x = key_space b.chunk.end b.chunk.right k i n in
    let a = expr_at e h x.end x.right in
    let s = semicolon_at a.chunk.end a.chunk.right in
    record { phrase = a.phrase; good = a.good; tree = a.tree; at = b.chunk.end; end = a.chunk.end; chunk = join (join (join b.chunk x (λ y q. refl)) a.chunk (λ y q. refl)) s (λ y q. refl) }

pub await_at : {p : Place} {w : Text} (b : LabelsAt p w) (e : Tree) → IsExpression e → SimpleAt (tree.await e) b (w ++ codes "await " ++ written e ++ codes ";")
await_at b e h = (let x = with_expression b (codes "await") refl (refl, refl) e h in record { form = grammar.await x.at x.phrase; good = x.good; tree = ap tree.await x.tree; end = x.end; chunk = x.chunk })

pub print_at : {p : Place} {w : Text} (b : LabelsAt p w) (e : Tree) → IsExpression e → SimpleAt (tree.print e) b (w ++ codes "print " ++ written e ++ codes ";")
print_at b e h = (let x = with_expression b (codes "print") refl (refl, refl) e h in record { form = grammar.print x.at x.phrase; good = x.good; tree = ap tree.print x.tree; end = x.end; chunk = x.chunk })

pub assert_at : {p : Place} {w : Text} (b : LabelsAt p w) (e : Tree) → IsExpression e → SimpleAt (tree.assert e) b (w ++ codes "assert " ++ written e ++ codes ";")
assert_at b e h = (let x = with_expression b (codes "assert") refl (refl, refl) e h in record { form = grammar.assert x.at x.phrase; good = x.good; tree = ap tree.assert x.tree; end = x.end; chunk = x.chunk })

pub skip_at : {p : Place} {w : Text} (b : LabelsAt p w) → SimpleAt tree.skip b (w ++ codes "skip;")
skip_at b =
    let x = key_at b.chunk.end b.chunk.right (codes "skip") refl (refl, refl) in
    let s = join x (semicolon_at x.end x.right) (λ y e. refl) in
    record { form = grammar.skip b.chunk.end; good = tt; tree = refl; end = x.end; chunk = join b.chunk s (λ y e. refl) }

pub return_at : {p : Place} {w : Text} (b : LabelsAt p w) → SimpleAt tree.return b (w ++ codes "return;")
return_at b =
    let x = key_at b.chunk.end b.chunk.right (codes "return") refl (refl, refl) in
    let s = join x (semicolon_at x.end x.right) (λ y e. refl) in
    record { form = grammar.return b.chunk.end; good = tt; tree = refl; end = x.end; chunk = join b.chunk s (λ y e. refl) }

pub goto_at : {p : Place} {w : Text} (b : LabelsAt p w) (l : Word) → IsIdentifier l → SimpleAt (tree.goto l) b (w ++ codes "goto " ++ l ++ codes ";")
goto_at b l h =
    let x = key_space b.chunk.end b.chunk.right (codes "goto") refl (refl, refl) in
    let n = name_at x.end x.right l h in
    let s = semicolon_at n.end n.right in
    record { form = grammar.goto b.chunk.end (record { word = l; place = x.end }); good = tt; tree = refl; end = n.end; chunk = join (join (join b.chunk x (λ y e. refl)) n (λ y e. refl)) s (λ y e. refl) }

pub macro_at : {p : Place} {w : Text} (b : LabelsAt p w) (m : Word) (ts : Trees) → IsIdentifier m → AreExpressions ts → SimpleAt (tree.macro m ts) b (w ++ m ++ arguments_text ts ++ codes ";")
macro_at b m ts h v =
    let n = name_at b.chunk.end b.chunk.right m h in
    let a = arguments_at ts v n.end n.right in
    let s = semicolon_at a.chunk.end a.chunk.right in
    record { form = grammar.macro (record { word = m; place = b.chunk.end }) a.form; good = a.good; tree = ap (λ us. tree.macro m us) a.same; end = a.chunk.end; chunk = join (join (join b.chunk n (λ y e. refl)) a.chunk (λ y e. refl)) s (λ y e. refl) }

pub call_at : {p : Place} {w : Text} (b : LabelsAt p w) (x : Name) (ts : Trees) → IsName x → AreExpressions ts → SimpleAt (tree.call x ts) b (w ++ codes "call " ++ x.word ++ arguments_text ts ++ codes ";")
call_at b x ts h v =
    let k = key_space b.chunk.end b.chunk.right (codes "call") refl (refl, refl) in
    let n = name_at k.end k.right x.word h in
    let a = arguments_at ts v n.end n.right in
    let s = semicolon_at a.chunk.end a.chunk.right in
    record { form = grammar.call b.chunk.end (named k.end x) a.form; good = a.good; tree = ap (λ us. tree.call (name_placeless x) us) a.same; end = a.chunk.end; chunk = join (join (join (join b.chunk k (λ y e. refl)) n (λ y e. refl)) a.chunk (λ y e. refl)) s (λ y e. refl) }
