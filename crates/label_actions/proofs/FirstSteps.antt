-- The steps of lists of statements in memory: those that the first gives, and then those of the rest.
use Rattle.std.proofs.Common.{◌≡◌, ℕ, zero, suc, ◌+◌, ◌<◌, ◌-◌, ◌≤◌, List, [], ◌∷◌, ◌++◌, length, take, drop, get_or, map, Vec, Global, refl, sym, ap, subst, ◌∙◌, arith}
use Rattle.std.proofs.lemmas.List.{drop_more, drop_all, take_all, length-drop}
use Rattle.tla_tree.specs.Tree.{Word, Tree, Name}
use Rattle.tla_tree.specs.Pool.{at, Keeps}
use Rattle.tla_tree.specs.Nesting.{greatest}
use Rattle.pcal_tree.specs.declared.mark.Mark.{Mark}
use Rattle.pcal_tree.specs.declared.algorithm.Span.{Span}
use Rattle.pcal_tree.specs.declared.algorithm.Bind.{Bind}
use Rattle.pcal_tree.specs.declared.algorithm.Simple as declared_simple
use Rattle.pcal_tree.specs.declared.algorithm.Simple.TheVariants as simple
use Rattle.pcal_tree.specs.declared.algorithm.Stmt.{Stmt}
use Rattle.pcal_tree.specs.declared.algorithm.Stmt.TheOpen.{Stmt-F}
use Rattle.pcal_tree.specs.declared.algorithm.Stmt.TheFolds.{fold-roll-Stmt, ind-Stmt, map-Stmt}
use Rattle.pcal_tree.specs.declared.algorithm.Stmt.TheViews.{roll-Stmt}
use Rattle.pcal_tree.specs.declared.algorithm.Stmt.TheVariants.{Label, Simple, If, Either, With, While}
use Rattle.pcal_tree.specs.Algorithm.{Statements, done, then, mark, branch, either, with, while}
use Rattle.pcal_tree.specs.InMemory.{span_of, simple_at, binds_at, Before, stmt_step, stmt_at, statements_at, branches_at, past_stmt, past_statements}
use Rattle.pcal_tree.proofs.InMemoryEach.{label_at, simple_in_list_at, if_at, either_at, with_at, while_at}
use Rattle.pcal_tree.proofs.InMemoryGrown.{statements_at-kept}
use Rattle.pcal_tree.specs.Run.{unlabelled, label_of}
use Rattle.step_forms.specs.Steps.{Step, steps_in, steps, steps_some}
use Rattle.label_actions.specs.Fitting.{step_from, first_steps, here_at}

-- ---- the rest of a list

pub past_drop : {A : Type 0} (f : A → ℕ) (xs : List A) (i : ℕ) → greatest (map f (drop i xs)) ≤ greatest (map f xs)
past_drop f xs zero = omega arith
past_drop f [] (suc i) = omega arith
past_drop f (x ∷ xs) (suc i) = (let h = past_drop f xs i in omega (arith, h))

abbrev behind : Statements → Statements
behind done = done
behind (then at st rest) = rest
behind (mark l k rest) = rest

steps_first : (here : Word) (ss : Statements) (x : Word) → steps here ss x ≡ first_steps here ss x ++ steps (label_of ss x) (behind ss) x
steps_first here done x = refl
steps_first here (then at st rest) x = refl
steps_first here (mark l k rest) x = refl

behind_layer : (ts : List Tree) (y : Stmt-F Before) (rest : Statements) → behind (stmt_step ts y rest) ≡ rest
behind_layer ts (Stmt-F.Label x m) rest = refl
behind_layer ts (Stmt-F.Simple s x) rest = refl
behind_layer ts (Stmt-F.If s e a b) rest = refl
behind_layer ts (Stmt-F.Either s bs) rest = refl
behind_layer ts (Stmt-F.With s bs a) rest = refl
behind_layer ts (Stmt-F.While s e a) rest = refl

abbrev IsBefore : Stmt → Type 0
IsBefore s = (ts : List Tree) (rest : Statements) → behind (stmt_at ts s rest) ≡ rest

is_before : (s : Stmt) → IsBefore s
is_before = ind-Stmt IsBefore (λ x y is. subst (λ z. IsBefore (roll-Stmt z)) is (λ ts rest.
    let z = map-Stmt _ Stmt (λ e. e.0) y in
    ap (λ (g : Before). behind (g rest)) (fold-roll-Stmt Before (stmt_step ts) z) ∙ behind_layer ts (map-Stmt Stmt Before (stmt_at ts) z) rest))

from_here : (ts : List Tree) (ss : List Stmt) (i : ℕ) (s : Stmt) → s ≡ get_or ss i s → i < length ss → statements_at ts (drop i ss) ≡ stmt_at ts s (statements_at ts (drop (i + 1) ss))
from_here ts ss i s is less = ap (statements_at ts) (drop_more ss i s less ∙ ap (λ (y : Stmt). y ∷ drop (i + 1) ss) (sym is))

rest_of : (ts : List Tree) (ss : List Stmt) (i : ℕ) → i < length ss → behind (statements_at ts (drop i ss)) ≡ statements_at ts (drop (suc i) ss)
rest_of ts [] i less = absurd (let no : ⊥ = omega (arith, less) in no)
rest_of ts (s ∷ ss) zero less = is_before s ts (statements_at ts ss)
rest_of ts (s ∷ ss) (suc i) less = rest_of ts ss i (omega (arith, less))

pub list_more : (ts us : List Tree) → Keeps ts us → (ss : List Stmt) → past_statements ss ≤ length ts → (i : ℕ) → i < length ss → (here label x : Word) → label ≡ here_at ts here x ss i
    → steps (here_at ts here x ss i) (statements_at ts (drop i ss)) x ≡ first_steps label (statements_at us (drop i ss)) x ++ steps (here_at ts here x ss (i + 1)) (statements_at ts (drop (i + 1) ss)) x
list_more ts us k ss past i less here label x e =
    let now : statements_at ts (drop i ss) ≡ statements_at us (drop i ss) = sym (statements_at-kept ts us k (drop i ss) (let h = past_drop past_stmt ss i in omega (arith, h, past))) in
    let next : suc i ≡ i + 1 = omega arith in
    let rest : behind (statements_at ts (drop i ss)) ≡ statements_at ts (drop (i + 1) ss) = rest_of ts ss i less ∙ ap (λ (j : ℕ). statements_at ts (drop j ss)) next in
    steps_first (here_at ts here x ss i) (statements_at ts (drop i ss)) x ∙ (λ j. first_steps (sym e j) (now j) x ++ steps (here_at ts here x ss (next j)) (rest j) x)

-- a slice to the end
pub slice_rest : {X : Type 0} (xs : List X) (k : ℕ) → take (length xs - k) (drop k xs) ≡ drop k xs
slice_rest xs k = (let h = length-drop k xs in take_all (length xs - k) (drop k xs) (omega (arith, h)))

pub label_before : (ts : List Tree) (here x : Word) (ss : List Stmt) (n : ℕ) → 0 < n → label_of (statements_at ts (take (length ss - (n - 1)) (drop (n - 1) ss))) x ≡ here_at ts here x ss n
label_before ts here x ss n h =
    let back : suc (n - 1) ≡ n = omega (arith, h) in
    ap (λ (zs : List Stmt). label_of (statements_at ts zs) x) (slice_rest ss (n - 1)) ∙ ap (here_at ts here x ss) back

-- ---- each kind of statement

no_steps : (ts : List Tree) (here : Word) (y : declared_simple.Simple) (x : Word) → steps_in here (simple_at ts y) x ≡ []
no_steps ts here (simple.Assign ms) x = refl
no_steps ts here (simple.Await e) x = refl
no_steps ts here (simple.Print e) x = refl
no_steps ts here (simple.Assert e) x = refl
no_steps ts here simple.Skip x = refl
no_steps ts here (simple.Goto l) x = refl
no_steps ts here (simple.Macro m es) x = refl
no_steps ts here (simple.Call p es) x = refl
no_steps ts here simple.Return x = refl

module _ (ts : List Tree) (ss : List Stmt) (i : ℕ) (s : Stmt) (is : s ≡ get_or ss i s) (less : i < length ss) (here x : Word) where
  abbrev next : Word
  next = label_of (statements_at ts (drop (i + 1) ss)) x

  abbrev These : List Step → Type 0
  These zs = first_steps here (statements_at ts (drop i ss)) x ≡ zs

  kind : (g : Before) → stmt_at ts s ≡ g → These (first_steps here (g (statements_at ts (drop (i + 1) ss))) x)
  kind g e = ap (λ (z : Statements). first_steps here z x) (from_here ts ss i s is less ∙ ap (λ (k : Before). k (statements_at ts (drop (i + 1) ss))) e)

  pub label_steps : (y : Name) (m : Mark) → s ≡ Label y m → These (step_from ts y.word x (drop (i + 1) ss) ∷ [])
  label_steps y m e = kind (mark y m) (ap (stmt_at ts) e ∙ label_at ts y m)

  pub simple_steps : (p : Span) (y : declared_simple.Simple) → s ≡ Simple p y → These []
  simple_steps p y e = kind (then (span_of p) (simple_at ts y)) (ap (stmt_at ts) e ∙ simple_in_list_at ts p y) ∙ no_steps ts here y next

  pub if_steps : (p : Span) (e : ℕ) (a b : Vec Stmt Global) → s ≡ If p e a b → These (steps unlabelled (statements_at ts a.items) next ++ steps unlabelled (statements_at ts b.items) next)
  if_steps p e a b q = kind (then (span_of p) (branch (at ts e) (statements_at ts a.items) (statements_at ts b.items))) (ap (stmt_at ts) q ∙ if_at ts p e a b)

  pub either_steps : (p : Span) (bs : Vec (Vec Stmt Global) Global) → s ≡ Either p bs → These (steps_some (branches_at ts bs.items) next)
  either_steps p bs q = kind (then (span_of p) (either (branches_at ts bs.items))) (ap (stmt_at ts) q ∙ either_at ts p bs)

  pub with_steps : (p : Span) (bs : Vec Bind Global) (b : Vec Stmt Global) → s ≡ With p bs b → These (steps unlabelled (statements_at ts b.items) next)
  with_steps p bs b q = kind (then (span_of p) (with (binds_at ts bs.items) (statements_at ts b.items))) (ap (stmt_at ts) q ∙ with_at ts p bs b)

  pub while_steps : (p : Span) (e : ℕ) (b : Vec Stmt Global) → s ≡ While p e b → These (steps unlabelled (statements_at ts b.items) here)
  while_steps p e b q = kind (then (span_of p) (while (at ts e) (statements_at ts b.items))) (ap (stmt_at ts) q ∙ while_at ts p e b)

-- ---- lists and branches that are gone through

pub list_all : (ts : List Tree) (ss : List Stmt) (i : ℕ) (here x : Word) → length ss ≤ i → steps here (statements_at ts (drop i ss)) x ≡ []
list_all ts ss i here x le = ap (λ (zs : List Stmt). steps here (statements_at ts zs) x) (drop_all i ss le)

pub branch_more : (ts us : List Tree) → Keeps ts us → (bs : List (Vec Stmt Global)) (i : ℕ) (b : Vec Stmt Global) → b ≡ get_or bs i b → i < length bs → past_statements b.items ≤ length ts
    → (empty x : Word) → empty ≡ unlabelled → steps_some (branches_at ts (drop i bs)) x ≡ steps empty (statements_at us b.items) x ++ steps_some (branches_at ts (drop (i + 1) bs)) x
branch_more ts us k bs i b is less past empty x e =
    let rest = steps_some (branches_at ts (drop (i + 1) bs)) x in
    ap (λ (ys : List (Vec Stmt Global)). steps_some (branches_at ts ys) x) (drop_more bs i b less ∙ ap (λ (y : Vec Stmt Global). y ∷ drop (i + 1) bs) (sym is))
    ∙ (λ j. steps (sym e j) (sym (statements_at-kept ts us k b.items past) j) x ++ rest)

pub branch_all : (ts : List Tree) (bs : List (Vec Stmt Global)) (i : ℕ) (x : Word) → length bs ≤ i → steps_some (branches_at ts (drop i bs)) x ≡ []
branch_all ts bs i x le = ap (λ (ys : List (Vec Stmt Global)). steps_some (branches_at ts ys) x) (drop_all i bs le)
