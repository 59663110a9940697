-- What each kind of statement in memory stands for, past which numbers its own are, and lists to which one more is added.
use Rattle.std.proofs.lemmas.Simd.{map-map}
use Rattle.std.proofs.Common.{◌≡◌, ℕ, ◌+◌, ◌≤◌, max, List, [], ◌∷◌, ◌++◌, map, Vec, Global, sym, ap, ◌∙◌, arith}
use Rattle.tla_tree.specs.Tree.{Name, Tree}
use Rattle.tla_tree.specs.Pool.{at, AllBelow}
use Rattle.tla_tree.specs.Nesting.{greatest}
use Rattle.pcal_tree.specs.declared.mark.Mark.{Mark}
use Rattle.pcal_tree.specs.declared.algorithm.Span.{Span}
use Rattle.pcal_tree.specs.declared.algorithm.Bind.{Bind}
use Rattle.pcal_tree.specs.declared.algorithm.Simple as declared_simple
use Rattle.pcal_tree.specs.declared.algorithm.Stmt.{Stmt}
use Rattle.pcal_tree.specs.declared.algorithm.Stmt.TheOpen.{Stmt-F}
use Rattle.pcal_tree.specs.declared.algorithm.Stmt.TheFolds.{fold-roll-Stmt}
use Rattle.pcal_tree.specs.declared.algorithm.Stmt.TheVariants.{Label, Simple, If, Either, With, While, rolls-Label, rolls-Simple, rolls-If, rolls-Either, rolls-With, rolls-While}
use Rattle.pcal_tree.specs.Algorithm as tree
use Rattle.pcal_tree.specs.InMemory.{span_of, binds_at, simple_at, Before, branches_from, stmt_step, stmt_at, statements_at, branches_at, past_numbers, past_binds, past_simple, past_step, past_stmt, past_statements, past_branches}

pub label_at : (ts : List Tree) (x : Name) (m : Mark) → stmt_at ts (Label x m) ≡ tree.mark x m
label_at ts x m = ap (stmt_at ts) (sym (rolls-Label x m)) ∙ fold-roll-Stmt Before (stmt_step ts) (Stmt-F.Label x m)

pub simple_in_list_at : (ts : List Tree) (s : Span) (x : declared_simple.Simple) → stmt_at ts (Simple s x) ≡ tree.then (span_of s) (simple_at ts x)
simple_in_list_at ts s x = ap (stmt_at ts) (sym (rolls-Simple s x)) ∙ fold-roll-Stmt Before (stmt_step ts) (Stmt-F.Simple s x)

pub if_at : (ts : List Tree) (s : Span) (e : ℕ) (a b : Vec Stmt Global) → stmt_at ts (If s e a b) ≡ tree.then (span_of s) (tree.branch (at ts e) (statements_at ts a.items) (statements_at ts b.items))
if_at ts s e a b = ap (stmt_at ts) (sym (rolls-If s e a b)) ∙ fold-roll-Stmt Before (stmt_step ts) (Stmt-F.If s e a b)

pub either_at : (ts : List Tree) (s : Span) (bs : Vec (Vec Stmt Global) Global) → stmt_at ts (Either s bs) ≡ tree.then (span_of s) (tree.either (branches_at ts bs.items))
either_at ts s bs =
    ap (stmt_at ts) (sym (rolls-Either s bs)) ∙ fold-roll-Stmt Before (stmt_step ts) (Stmt-F.Either s bs) ∙ ap {B = Before} (λ (l : List tree.Statements) rest. tree.then (span_of s) (tree.either (branches_from l)) rest) (map-map _ _ bs.items)

pub with_at : (ts : List Tree) (s : Span) (bs : Vec Bind Global) (a : Vec Stmt Global) → stmt_at ts (With s bs a) ≡ tree.then (span_of s) (tree.with (binds_at ts bs.items) (statements_at ts a.items))
with_at ts s bs a = ap (stmt_at ts) (sym (rolls-With s bs a)) ∙ fold-roll-Stmt Before (stmt_step ts) (Stmt-F.With s bs a)

pub while_at : (ts : List Tree) (s : Span) (e : ℕ) (a : Vec Stmt Global) → stmt_at ts (While s e a) ≡ tree.then (span_of s) (tree.while (at ts e) (statements_at ts a.items))
while_at ts s e a = ap (stmt_at ts) (sym (rolls-While s e a)) ∙ fold-roll-Stmt Before (stmt_step ts) (Stmt-F.While s e a)

-- ---- past which numbers they are

pub past_label : (x : Name) (m : Mark) → past_stmt (Label x m) ≡ 0
past_label x m = ap past_stmt (sym (rolls-Label x m)) ∙ fold-roll-Stmt ℕ past_step (Stmt-F.Label x m)

pub past_simple_in_list : (s : Span) (x : declared_simple.Simple) → past_stmt (Simple s x) ≡ past_simple x
past_simple_in_list s x = ap past_stmt (sym (rolls-Simple s x)) ∙ fold-roll-Stmt ℕ past_step (Stmt-F.Simple s x)

pub past_if : (s : Span) (e : ℕ) (a b : Vec Stmt Global) → past_stmt (If s e a b) ≡ max (e + 1) (max (past_statements a.items) (past_statements b.items))
past_if s e a b = ap past_stmt (sym (rolls-If s e a b)) ∙ fold-roll-Stmt ℕ past_step (Stmt-F.If s e a b)

pub past_either : (s : Span) (bs : Vec (Vec Stmt Global) Global) → past_stmt (Either s bs) ≡ past_branches bs.items
past_either s bs = ap past_stmt (sym (rolls-Either s bs)) ∙ fold-roll-Stmt ℕ past_step (Stmt-F.Either s bs) ∙ ap greatest (map-map _ _ bs.items)

pub past_with : (s : Span) (bs : Vec Bind Global) (a : Vec Stmt Global) → past_stmt (With s bs a) ≡ max (past_binds bs.items) (past_statements a.items)
past_with s bs a = ap past_stmt (sym (rolls-With s bs a)) ∙ fold-roll-Stmt ℕ past_step (Stmt-F.With s bs a)

pub past_while : (s : Span) (e : ℕ) (a : Vec Stmt Global) → past_stmt (While s e a) ≡ max (e + 1) (past_statements a.items)
past_while s e a = ap past_stmt (sym (rolls-While s e a)) ∙ fold-roll-Stmt ℕ past_step (Stmt-F.While s e a)

-- ---- lists

-- of one more
pub past_one_more : {A : Type 0} (past : A → ℕ) (xs : List A) (y : A) → greatest (map past (xs ++ y ∷ [])) ≡ max (greatest (map past xs)) (past y)
past_one_more past [] y = omega arith
past_one_more past (x ∷ xs) y = omega (arith, past_one_more past xs y)

-- numbers that are all below m are past m at most, and the other way
pub all_below_past : (m : ℕ) (es : List ℕ) → AllBelow m es → past_numbers es ≤ m
all_below_past m [] h = omega arith
all_below_past m (e ∷ es) h = omega (arith, h.0, all_below_past m es h.1)

pub past_all_below : (m : ℕ) (es : List ℕ) → past_numbers es ≤ m → AllBelow m es
past_all_below m [] h = tt
past_all_below m (e ∷ es) h = (omega (arith, h), past_all_below m es (omega (arith, h)))
