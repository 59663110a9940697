-- What is printed before the branches of an `either`, and of lists of statements one by one.
use Rattle.std.proofs.Common.{◌≡◌, ℕ, ◌+◌, ◌<◌, ◌≤◌, Bool, true, false, cond, List, [], ◌∷◌, ◌++◌, length, drop, get_or, Vec, Global, refl, sym, ap, subst, ◌∙◌, arith}
use Rattle.std.specs.Prelude.{codes, nat_eq}
use Rattle.std.proofs.lemmas.Bool.{ne_eqb}
use Rattle.std.proofs.lemmas.List.{drop_more, drop_all}
use Rattle.tla_tree.specs.Tree.{Name, Tree}
use Rattle.pcal_tree.specs.declared.mark.Mark.{Mark}
use Rattle.pcal_tree.specs.declared.algorithm.Span.{Span}
use Rattle.pcal_tree.specs.declared.algorithm.Bind.{Bind}
use Rattle.pcal_tree.specs.declared.algorithm.Simple as declared_simple
use Rattle.pcal_tree.specs.declared.algorithm.Simple.TheVariants as simple
use Rattle.pcal_tree.specs.declared.algorithm.Stmt.{Stmt}
use Rattle.pcal_tree.specs.declared.algorithm.Stmt.TheOpen.{Stmt-F}
use Rattle.pcal_tree.specs.declared.algorithm.Stmt.TheFolds.{fold-roll-Stmt, ind-Stmt, map-Stmt}
use Rattle.pcal_tree.specs.declared.algorithm.Stmt.TheViews.{roll-Stmt}
use Rattle.pcal_tree.specs.declared.algorithm.Stmt.TheVariants.{Label, Simple, If, Either, With, While, rolls-Label, rolls-Simple, rolls-If, rolls-Either, rolls-With, rolls-While}
use Rattle.pcal_tree.specs.Grammar.{Syntax}
use Rattle.pcal_tree.specs.Marks.{text_of_mark}
use Rattle.pcal_tree.specs.Algorithm as tree
use Rattle.pcal_tree.specs.Algorithm.{Binds, Statement, branch, either, with, while, Statements, done, Branches}
use Rattle.pcal_tree.specs.Printed.{Text, blanks, head, opening, middle, closing, listed, binds_texts, line, simple_line, statement, statements, otherwise, branches}
use Rattle.pcal_tree.proofs.InMemoryEach.{label_at}
use Rattle.tla_tree.specs.Written.{written}
use Rattle.pcal_tree.specs.InMemory.{simple_at, Before, stmt_step, stmt_at, statements_at, branches_at}
use Rattle.syntax_print.specs.Adding.{behind, labels_step, labels_after, Adds, AddsFirst}
use Rattle.syntax_print.proofs.Lines.{line_adds, simple_adds}

-- the text of the line before the branch with this number
abbrev pub branch_line : Syntax → Text → ℕ → Text
branch_line s labels i = cond (nat_eq i 0) (labels ++ opening s (codes "either")) (middle s (codes "or"))

-- the line of the first, which is after labels, and of another
pub first_line : (s : Syntax) (k : ℕ) (labels old begun new : Text) (b : Bool) → b ≡ true → begun ≡ old ++ (codes "\n" ++ (blanks k ++ labels)) → new ≡ begun ++ opening s (codes "either")
    → Adds old new (line k (cond b (labels ++ opening s (codes "either")) (middle s (codes "or"))))
first_line s k labels old begun new b is p q = subst (λ (b : Bool). Adds old new (line k (cond b (labels ++ opening s (codes "either")) (middle s (codes "or"))))) (sym is) (line_adds old begun new k labels (opening s (codes "either")) p q)

pub later_line : (s : Syntax) (k : ℕ) (labels old new : Text) (b : Bool) → b ≡ false → Adds old new (line k (middle s (codes "or"))) → Adds old new (line k (cond b (labels ++ opening s (codes "either")) (middle s (codes "or"))))
later_line s k labels old new b is a = subst (λ (b : Bool). Adds old new (line k (cond b (labels ++ opening s (codes "either")) (middle s (codes "or"))))) (sym is) a

-- one more branch
pub branch_more : (s : Syntax) (ts : List Tree) (k : ℕ) (labels old now new : Text) (bs : List (Vec Stmt Global)) (i : ℕ) (b : Vec Stmt Global) (mid : Text) → b ≡ get_or bs i b → i < length bs
    → ((rest : List Text) → now ++ behind (branches s k (branch_line s labels i) (branches_at ts (drop i bs)) rest) ≡ old ++ behind (branches s k (branch_line s labels 0) (branches_at ts bs) rest))
    → Adds now mid (line k (branch_line s labels i)) → Adds mid new (statements s (k + 2) [] (statements_at ts b.items))
    → (rest : List Text) → new ++ behind (branches s k (branch_line s labels (i + 1)) (branches_at ts (drop (i + 1) bs)) rest) ≡ old ++ behind (branches s k (branch_line s labels 0) (branches_at ts bs) rest)
branch_more s ts k labels old now new bs i b mid is lt h l a rest =
    ap (λ (w : Text). new ++ behind (branches s k w (branches_at ts (drop (i + 1) bs)) rest)) (later i)
    ∙ a (branches s k (middle s (codes "or")) (branches_at ts (drop (i + 1) bs)) rest)
    ∙ l (statements s (k + 2) [] (statements_at ts b.items) (branches s k (middle s (codes "or")) (branches_at ts (drop (i + 1) bs)) rest))
    ∙ ap (λ (ys : List (Vec Stmt Global)). now ++ behind (branches s k (branch_line s labels i) (branches_at ts ys) rest)) (ap (λ (y : Vec Stmt Global). y ∷ drop (i + 1) bs) is ∙ sym (drop_more bs i b lt))
    ∙ h rest
  where
    later : (i : ℕ) → branch_line s labels (i + 1) ≡ middle s (codes "or")
    later i = ap (λ (b : Bool). cond b (labels ++ opening s (codes "either")) (middle s (codes "or"))) (ne_eqb (i + 1) 0 (λ e. omega (arith, e)))

-- ---- labels

pub after_label : (w : Text) (x : Name) (m : Mark) → labels_after (Label x m) w ≡ w ++ x.word ++ text_of_mark m ++ codes " "
after_label w x m = ap (λ (y : Stmt). labels_after y w) (sym (rolls-Label x m)) ∙ ap (λ (f : Text → Text). f w) (fold-roll-Stmt (Text → Text) labels_step (Stmt-F.Label x m))

pub after_simple : (w : Text) (s : Span) (x : declared_simple.Simple) → labels_after (Simple s x) w ≡ []
after_simple w s x = ap (λ (y : Stmt). labels_after y w) (sym (rolls-Simple s x)) ∙ ap (λ (f : Text → Text). f w) (fold-roll-Stmt (Text → Text) labels_step (Stmt-F.Simple s x))

pub after_if : (w : Text) (s : Span) (e : ℕ) (a b : Vec Stmt Global) → labels_after (If s e a b) w ≡ []
after_if w s e a b = ap (λ (y : Stmt). labels_after y w) (sym (rolls-If s e a b)) ∙ ap (λ (f : Text → Text). f w) (fold-roll-Stmt (Text → Text) labels_step (Stmt-F.If s e a b))

pub after_either : (w : Text) (s : Span) (bs : Vec (Vec Stmt Global) Global) → labels_after (Either s bs) w ≡ []
after_either w s bs = ap (λ (y : Stmt). labels_after y w) (sym (rolls-Either s bs)) ∙ ap (λ (f : Text → Text). f w) (fold-roll-Stmt (Text → Text) labels_step (Stmt-F.Either s bs))

pub after_with : (w : Text) (s : Span) (bs : Vec Bind Global) (a : Vec Stmt Global) → labels_after (With s bs a) w ≡ []
after_with w s bs a = ap (λ (y : Stmt). labels_after y w) (sym (rolls-With s bs a)) ∙ ap (λ (f : Text → Text). f w) (fold-roll-Stmt (Text → Text) labels_step (Stmt-F.With s bs a))

pub after_while : (w : Text) (s : Span) (e : ℕ) (a : Vec Stmt Global) → labels_after (While s e a) w ≡ []
after_while w s e a = ap (λ (y : Stmt). labels_after y w) (sym (rolls-While s e a)) ∙ ap (λ (f : Text → Text). f w) (fold-roll-Stmt (Text → Text) labels_step (Stmt-F.While s e a))

-- ---- what is printed of each kind

-- no empty list
abbrev HasFirst : Statements → Type 0
HasFirst done = ⊥
HasFirst _ = Unit {0}

abbrev IsFirst : List Tree → Stmt → Type 0
IsFirst ts x = (ss : Statements) → HasFirst (stmt_at ts x ss)

abbrev bare : (ts : List Tree) → Stmt-F ((x : Stmt) × IsFirst ts x) → Stmt-F Stmt
bare ts y = map-Stmt ((x : Stmt) × IsFirst ts x) Stmt (λ e. e.0) y

has_first : (ts : List Tree) (x : Stmt) (ss : Statements) → HasFirst (stmt_at ts x ss)
has_first ts = ind-Stmt (IsFirst ts) (λ x y is. subst (λ z. IsFirst ts (roll-Stmt z)) is (λ ss. subst (λ (f : Before). HasFirst (f ss)) (sym (fold-roll-Stmt Before (stmt_step ts) (bare ts y))) (layer (map-Stmt Stmt Before (stmt_at ts) (bare ts y)) ss)))
  where
    layer : (y : Stmt-F Before) (ss : Statements) → HasFirst (stmt_step ts y ss)
    layer (Stmt-F.Label x m) ss = tt
    layer (Stmt-F.Simple s x) ss = tt
    layer (Stmt-F.If s e a b) ss = tt
    layer (Stmt-F.Either s bs) ss = tt
    layer (Stmt-F.With s bs a) ss = tt
    layer (Stmt-F.While s e a) ss = tt

first_opens : (s : Syntax) (k : ℕ) (ss : Statements) (rest : List Text) → HasFirst ss → otherwise s k ss rest ≡ line k (middle s (codes "else")) (statements s (k + 2) [] ss rest)
first_opens s k done rest h = absurd h
first_opens s k (tree.then at st ss) rest h = refl
first_opens s k (tree.mark l m ss) rest h = refl

pub no_more : (s : Syntax) (ts : List Tree) (k : ℕ) (old now : Text) (stmts : List Stmt) (i : ℕ) (w : Text) → length stmts ≤ i → ((rest : List Text) → now ++ behind (statements s k w (statements_at ts (drop i stmts)) rest) ≡ old ++ behind (statements s k [] (statements_at ts stmts) rest))
    → Adds old now (statements s k [] (statements_at ts stmts))
no_more s ts k old now stmts i w le h rest = ap (λ (ys : List Stmt). now ++ behind (statements s k w (statements_at ts ys) rest)) (sym (drop_all i stmts le)) ∙ h rest

-- a statement or label more
pub statement_more : (s : Syntax) (ts : List Tree) (k : ℕ) (old now new : Text) (stmts : List Stmt) (i : ℕ) (x : Stmt) (w v : Text) → x ≡ get_or stmts i x → i < length stmts
    → ((rest : List Text) → now ++ behind (statements s k w (statements_at ts (drop i stmts)) rest) ≡ old ++ behind (statements s k [] (statements_at ts stmts) rest))
    → AddsFirst now new s k w (labels_after x w) (stmt_at ts x) → v ≡ labels_after x w
    → (rest : List Text) → new ++ behind (statements s k v (statements_at ts (drop (i + 1) stmts)) rest) ≡ old ++ behind (statements s k [] (statements_at ts stmts) rest)
statement_more s ts k old now new stmts i x w v is lt h a e rest =
    ap (λ (u : Text). new ++ behind (statements s k u (statements_at ts (drop (i + 1) stmts)) rest)) e
    ∙ a (statements_at ts (drop (i + 1) stmts)) rest
    ∙ ap (λ (ys : List Stmt). now ++ behind (statements s k w (statements_at ts ys) rest)) (ap (λ (y : Stmt). y ∷ drop (i + 1) stmts) is ∙ sym (drop_more stmts i x lt))
    ∙ h rest

pub label_printed : (s : Syntax) (ts : List Tree) (k : ℕ) (w old : Text) (x : Name) (m : Mark) → AddsFirst old old s k w (labels_after (Label x m) w) (stmt_at ts (Label x m))
label_printed s ts k w old x m ss rest =
    ap (λ (v : Text). old ++ behind (statements s k v ss rest)) (after_label w x m)
    ∙ ap (λ (f : Statements → Statements). old ++ behind (statements s k w (f ss) rest)) (sym (label_at ts x m))

-- of a statement with this span
pub first_printed : (s : Syntax) (ts : List Tree) (k : ℕ) (w old new : Text) (stmt : Stmt) (span : tree.Span) (st : Statement) → labels_after stmt w ≡ [] → stmt_at ts stmt ≡ tree.then span st → Adds old new (statement s k w st)
    → AddsFirst old new s k w (labels_after stmt w) (stmt_at ts stmt)
first_printed s ts k w old new stmt span st e g a ss rest =
    ap (λ (v : Text). new ++ behind (statements s k v ss rest)) e
    ∙ a (statements s k [] ss rest)
    ∙ ap (λ (f : Statements → Statements). old ++ behind (statements s k w (f ss) rest)) (sym g)

-- the parts of compound statements, one after another
pub if_adds : (s : Syntax) (k : ℕ) (w old begun tested one both new : Text) (a b : Statements) (t : Tree) → begun ≡ old ++ (codes "\n" ++ (blanks k ++ w)) → tested ≡ begun ++ head s (codes "if") (written t) (codes "then") → Adds tested one (statements s (k + 2) [] a) → Adds one both (otherwise s k b)
    → Adds both new (line k (closing s (codes "if"))) → Adds old new (statement s k w (branch t a b))
if_adds s k w old begun tested one both new a b t p q f g h rest =
    h rest ∙ g (line k (closing s (codes "if")) rest) ∙ f (otherwise s k b (line k (closing s (codes "if")) rest))
    ∙ line_adds old begun tested k w (head s (codes "if") (written t) (codes "then")) p q (statements s (k + 2) [] a (otherwise s k b (line k (closing s (codes "if")) rest)))

pub either_adds : (s : Syntax) (k : ℕ) (w old some new : Text) (bs : Branches) → Adds old some (branches s k (w ++ opening s (codes "either")) bs) → Adds some new (line k (closing s (codes "either"))) → Adds old new (statement s k w (either bs))
either_adds s k w old some new bs f h rest = h rest ∙ f (line k (closing s (codes "either")) rest)

pub with_adds : (s : Syntax) (k : ℕ) (w old begun named inner new : Text) (bs : Binds) (a : Statements) → begun ≡ old ++ (codes "\n" ++ (blanks k ++ w)) → named ≡ begun ++ head s (codes "with") (listed (binds_texts bs)) (codes "do") → Adds named inner (statements s (k + 2) [] a)
    → Adds inner new (line k (closing s (codes "with"))) → Adds old new (statement s k w (with bs a))
with_adds s k w old begun named inner new bs a p q f h rest =
    h rest ∙ f (line k (closing s (codes "with")) rest)
    ∙ line_adds old begun named k w (head s (codes "with") (listed (binds_texts bs)) (codes "do")) p q (statements s (k + 2) [] a (line k (closing s (codes "with")) rest))

pub while_adds : (s : Syntax) (k : ℕ) (w old begun tested inner new : Text) (t : Tree) (a : Statements) → begun ≡ old ++ (codes "\n" ++ (blanks k ++ w)) → tested ≡ begun ++ head s (codes "while") (written t) (codes "do") → Adds tested inner (statements s (k + 2) [] a)
    → Adds inner new (line k (closing s (codes "while"))) → Adds old new (statement s k w (while t a))
while_adds s k w old begun tested inner new t a p q f h rest =
    h rest ∙ f (line k (closing s (codes "while")) rest)
    ∙ line_adds old begun tested k w (head s (codes "while") (written t) (codes "do")) p q (statements s (k + 2) [] a (line k (closing s (codes "while")) rest))

-- the `else`, where the list isn't empty
pub otherwise_adds : (s : Syntax) (ts : List Tree) (k : ℕ) (old between new : Text) (stmts : List Stmt) → 0 < length stmts → Adds old between (line k (middle s (codes "else"))) → Adds between new (statements s (k + 2) [] (statements_at ts stmts)) → Adds old new (otherwise s k (statements_at ts stmts))
otherwise_adds s ts k old between new [] lt l a rest = absurd (omega arith)
otherwise_adds s ts k old between new (x ∷ xs) lt l a rest =
    a rest ∙ l (statements s (k + 2) [] (statements_at ts (x ∷ xs)) rest) ∙ ap (λ (ls : List Text). old ++ behind ls) (sym (opens x))
  where
    some : (f : Statements → Statements) → ((ss : Statements) → HasFirst (f ss)) → otherwise s k (f (statements_at ts xs)) rest ≡ line k (middle s (codes "else")) (statements s (k + 2) [] (f (statements_at ts xs)) rest)
    some f h = first_opens s k (f (statements_at ts xs)) rest (h (statements_at ts xs))

    opens : (x : Stmt) → otherwise s k (stmt_at ts x (statements_at ts xs)) rest ≡ line k (middle s (codes "else")) (statements s (k + 2) [] (stmt_at ts x (statements_at ts xs)) rest)
    opens x = some (stmt_at ts x) (has_first ts x)

-- at an indentation, and of statements, that are the same
pub rewritten : (s : Syntax) (ts : List Tree) (k n : ℕ) (old new : Text) (xs ys : List Stmt) → n ≡ k + 2 → xs ≡ ys → Adds old new (statements s n [] (statements_at ts xs)) → Adds old new (statements s (k + 2) [] (statements_at ts ys))
rewritten s ts k n old new xs ys e g a =
    subst (λ (ys : List Stmt). Adds old new (statements s (k + 2) [] (statements_at ts ys))) g (subst (λ (n : ℕ). Adds old new (statements s n [] (statements_at ts xs))) e a)

-- a statement with no statements in it
pub simple_printed : (s : Syntax) (k : ℕ) (w old begun new : Text) (ts : List Tree) (x : declared_simple.Simple) → begun ≡ old ++ (codes "\n" ++ (blanks k ++ w)) → new ≡ simple_line begun (simple_at ts x) → Adds old new (statement s k w (simple_at ts x))
simple_printed s k w old begun new ts x p q rest = simple_adds old begun new k w (simple_at ts x) p q rest ∙ ap (λ (ls : List Text). old ++ behind ls) (sym (is_line x))
  where
    is_line : (x : declared_simple.Simple) → statement s k w (simple_at ts x) rest ≡ line k (simple_line w (simple_at ts x)) rest
    is_line (simple.Assign ms) = refl
    is_line (simple.Await e) = refl
    is_line (simple.Print e) = refl
    is_line (simple.Assert e) = refl
    is_line simple.Skip = refl
    is_line (simple.Goto x) = refl
    is_line (simple.Macro x es) = refl
    is_line (simple.Call x es) = refl
    is_line simple.Return = refl
