-- The first statement of a list in memory.
use Rattle.std.proofs.Common.{◌≡◌, ◌<◌, List, [], ◌∷◌, length, drop, get_or, sym, ap, ◌∙◌, arith}
use Rattle.tla_tree.specs.Tree.{Word, Tree}
use Rattle.pcal_tree.specs.declared.algorithm.Stmt.{Stmt}
use Rattle.pcal_tree.specs.Algorithm.{Statements}
use Rattle.pcal_tree.specs.InMemory.{stmt_at, statements_at}
use Rattle.pcal_tree.specs.Run.{label_of}

first_stands : (ts : List Tree) (ss : List Stmt) (s : Stmt) → s ≡ get_or ss 0 s → 0 < length ss → statements_at ts ss ≡ stmt_at ts s (statements_at ts (drop 1 ss))
first_stands ts [] s is h = absurd (let no : ⊥ = omega (arith, h) in no)
first_stands ts (x ∷ xs) s is h = ap (λ (y : Stmt). stmt_at ts y (statements_at ts xs)) (sym is)

pub first_word : (ts : List Tree) (ss : List Stmt) (s : Stmt) → s ≡ get_or ss 0 s → 0 < length ss → (exit l : Word)
    → ((us : List Tree) (rest : Statements) (e : Word) → label_of (stmt_at us s rest) e ≡ l) → l ≡ label_of (statements_at ts ss) exit
first_word ts ss s is h exit l k = sym (ap (λ (r : Statements). label_of r exit) (first_stands ts ss s is h) ∙ k ts (statements_at ts (drop 1 ss)) exit)
