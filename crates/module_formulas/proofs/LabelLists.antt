-- The words of labels of statements, put behind others kind by kind.
use Rattle.std.proofs.Common.{◌≡◌, ℕ, ◌+◌, ◌<◌, ◌≤◌, List, [], ◌∷◌, ◌++◌, length, drop, get_or, Vec, Global, refl, sym, ap, ◌∙◌, append_assoc, append-nil}
use Rattle.std.proofs.lemmas.List.{drop_more, drop_all, map-append}
use Rattle.tla_tree.specs.Tree.{Name, Word, words, Tree}
use Rattle.tla_tree.specs.Pool.{at}
use Rattle.pcal_tree.specs.declared.mark.Mark.{Mark}
use Rattle.pcal_tree.specs.declared.algorithm.Span.{Span}
use Rattle.pcal_tree.specs.declared.algorithm.Bind.{Bind}
use Rattle.pcal_tree.specs.declared.algorithm.Simple as declared_simple
use Rattle.pcal_tree.specs.declared.algorithm.Simple.TheVariants as simple
use Rattle.pcal_tree.specs.declared.algorithm.Stmt.{Stmt}
use Rattle.pcal_tree.specs.declared.algorithm.Stmt.TheVariants.{Label, Simple, If, Either, With, While}
use Rattle.pcal_tree.specs.Algorithm.{Statement, branch, either, with, while, Statements, then}
use Rattle.pcal_tree.specs.InMemory.{span_of, simple_at, binds_at, Before, stmt_at, statements_at, branches_at}
use Rattle.pcal_tree.proofs.InMemoryEach.{label_at, simple_in_list_at, if_at, either_at, with_at, while_at}
use Rattle.algorithm_limits.specs.LabelNames.{names_of_one, label_names, names_of_some}

abbrev pub label_words : Statements → List Word
label_words b = words (label_names b)

-- what a statement gives is put before what the rest of its list gives
module _ (ts : List Tree) (s : Stmt) (old new : List Word) where
  pub with_label : (x : Name) (m : Mark) → s ≡ Label x m → new ≡ old ++ x.word ∷ [] → (rest : Statements) → new ++ label_words rest ≡ old ++ label_words (stmt_at ts s rest)
  with_label x m is h rest =
      ap (λ (l : List Word). l ++ label_words rest) h ∙ append_assoc old (x.word ∷ []) (label_words rest)
      ∙ ap (λ (f : Before). old ++ label_words (f rest)) (sym (ap (stmt_at ts) is ∙ label_at ts x m))

  with_statement : (p : _) (st : Statement) → stmt_at ts s ≡ then p st → new ≡ old ++ words (names_of_one st) → (rest : Statements) → new ++ label_words rest ≡ old ++ label_words (stmt_at ts s rest)
  with_statement p st is h rest =
      ap (λ (l : List Word). l ++ label_words rest) h ∙ append_assoc old (words (names_of_one st)) (label_words rest)
      ∙ ap (λ (l : List Word). old ++ l) (sym (map-append (λ (n : Name). n.word) (names_of_one st) (label_names rest)))
      ∙ ap (λ (f : Before). old ++ label_words (f rest)) (sym is)

  pub with_if : (p : Span) (e : ℕ) (a b : Vec Stmt Global) (between : List Word) → s ≡ If p e a b → between ≡ old ++ label_words (statements_at ts a.items) → new ≡ between ++ label_words (statements_at ts b.items)
      → (rest : Statements) → new ++ label_words rest ≡ old ++ label_words (stmt_at ts s rest)
  with_if p e a b between is h k =
      let first = statements_at ts a.items in
      let second = statements_at ts b.items in
      with_statement (span_of p) (branch (at ts e) first second) (ap (stmt_at ts) is ∙ if_at ts p e a b)
      (k ∙ ap (λ (l : List Word). l ++ label_words second) h ∙ append_assoc old (label_words first) (label_words second)
      ∙ ap (λ (l : List Word). old ++ l) (sym (map-append (λ (n : Name). n.word) (label_names first) (label_names second))))

  pub with_either : (p : Span) (bs : Vec (Vec Stmt Global) Global) → s ≡ Either p bs → new ≡ old ++ words (names_of_some (branches_at ts bs.items)) → (rest : Statements) → new ++ label_words rest ≡ old ++ label_words (stmt_at ts s rest)
  with_either p bs is h = with_statement (span_of p) (either (branches_at ts bs.items)) (ap (stmt_at ts) is ∙ either_at ts p bs) h

  pub with_with : (p : Span) (bs : Vec Bind Global) (b : Vec Stmt Global) → s ≡ With p bs b → new ≡ old ++ label_words (statements_at ts b.items) → (rest : Statements) → new ++ label_words rest ≡ old ++ label_words (stmt_at ts s rest)
  with_with p bs b is h = with_statement (span_of p) (with (binds_at ts bs.items) (statements_at ts b.items)) (ap (stmt_at ts) is ∙ with_at ts p bs b) h

  pub with_while : (p : Span) (e : ℕ) (b : Vec Stmt Global) → s ≡ While p e b → new ≡ old ++ label_words (statements_at ts b.items) → (rest : Statements) → new ++ label_words rest ≡ old ++ label_words (stmt_at ts s rest)
  with_while p e b is h = with_statement (span_of p) (while (at ts e) (statements_at ts b.items)) (ap (stmt_at ts) is ∙ while_at ts p e b) h

none_inside : (ts : List Tree) (x : declared_simple.Simple) → names_of_one (simple_at ts x) ≡ []
none_inside ts (simple.Assign ms) = refl
none_inside ts (simple.Await e) = refl
none_inside ts (simple.Print e) = refl
none_inside ts (simple.Assert e) = refl
none_inside ts simple.Skip = refl
none_inside ts (simple.Goto x) = refl
none_inside ts (simple.Macro x es) = refl
none_inside ts (simple.Call x es) = refl
none_inside ts simple.Return = refl

pub with_simple : (ts : List Tree) (s : Stmt) (old : List Word) (p : Span) (x : declared_simple.Simple) → s ≡ Simple p x → (rest : Statements) → old ++ label_words rest ≡ old ++ label_words (stmt_at ts s rest)
with_simple ts s old p x is =
    with_statement ts s old old (span_of p) (simple_at ts x) (ap (stmt_at ts) is ∙ simple_in_list_at ts p x) (sym (ap (λ (l : List Name). old ++ words l) (none_inside ts x) ∙ append-nil old))

-- ---- lists

pub stmt_more : (ts : List Tree) (ss : List Stmt) (i : ℕ) (s : Stmt) → s ≡ get_or ss i s → i < length ss → (now new all : List Word)
    → new ++ label_words (statements_at ts (drop (i + 1) ss)) ≡ now ++ label_words (stmt_at ts s (statements_at ts (drop (i + 1) ss)))
    → now ++ label_words (statements_at ts (drop i ss)) ≡ all → new ++ label_words (statements_at ts (drop (i + 1) ss)) ≡ all
stmt_more ts ss i s is less now new all a h =
    a ∙ ap (λ (ys : List Stmt). now ++ label_words (statements_at ts ys)) (ap (λ (y : Stmt). y ∷ drop (i + 1) ss) is ∙ sym (drop_more ss i s less)) ∙ h

pub stmts_done : (ts : List Tree) (ss : List Stmt) (i : ℕ) (now all : List Word) → length ss ≤ i → now ++ label_words (statements_at ts (drop i ss)) ≡ all → now ≡ all
stmts_done ts ss i now all less h = sym (append-nil now) ∙ ap (λ (ys : List Stmt). now ++ label_words (statements_at ts ys)) (sym (drop_all i ss less)) ∙ h

pub branch_more : (ts : List Tree) (bs : List (Vec Stmt Global)) (i : ℕ) (b : Vec Stmt Global) → b ≡ get_or bs i b → i < length bs → (now new all : List Word)
    → new ≡ now ++ label_words (statements_at ts b.items)
    → now ++ words (names_of_some (branches_at ts (drop i bs))) ≡ all → new ++ words (names_of_some (branches_at ts (drop (i + 1) bs))) ≡ all
branch_more ts bs i b is less now new all a h =
    let first = statements_at ts b.items in
    let rest = names_of_some (branches_at ts (drop (i + 1) bs)) in
    ap (λ (l : List Word). l ++ words rest) a ∙ append_assoc now (label_words first) (words rest)
    ∙ ap (λ (l : List Word). now ++ l) (sym (map-append (λ (n : Name). n.word) (label_names first) rest))
    ∙ ap (λ (ys : List (Vec Stmt Global)). now ++ words (names_of_some (branches_at ts ys))) (ap (λ (y : Vec Stmt Global). y ∷ drop (i + 1) bs) is ∙ sym (drop_more bs i b less)) ∙ h

pub branches_done : (ts : List Tree) (bs : List (Vec Stmt Global)) (i : ℕ) (now all : List Word) → length bs ≤ i → now ++ words (names_of_some (branches_at ts (drop i bs))) ≡ all → now ≡ all
branches_done ts bs i now all less h = sym (append-nil now) ∙ ap (λ (ys : List (Vec Stmt Global)). now ++ words (names_of_some (branches_at ts ys))) (sym (drop_all i bs less)) ∙ h
