-- Each kind of statement that has statements in it, made of what is made of its parts.
use Rattle.std.proofs.Common.{◌≡◌, ℕ, ◌≤◌, List, length, Vec, Global, refl, sym, subst, ◌∙◌, arith}
use Rattle.tla_tree.specs.Tree.{Tree, Graft, graft}
use Rattle.tla_tree.specs.Pool.{at, Keeps}
use Rattle.pcal_tree.specs.declared.algorithm.Span as code_span
use Rattle.pcal_tree.specs.declared.algorithm.Bind.{Bind}
use Rattle.pcal_tree.specs.declared.algorithm.Stmt.{Stmt}
use Rattle.pcal_tree.specs.declared.algorithm.Stmt.TheVariants.{If, Either, With, While}
use Rattle.pcal_tree.specs.Algorithm.{branch, either, with, while, Statements, then}
use Rattle.pcal_tree.specs.InMemory.{span_of, binds_at, stmt_at, statements_at, branches_at, past_statements}
use Rattle.pcal_tree.specs.Expand.{graft_binds, graft_all, graft_some}
use Rattle.pcal_tree.proofs.InMemoryEach.{if_at, either_at, with_at, while_at}
use Rattle.pcal_tree.proofs.InMemoryGrown.{statements_at-kept}

-- what is made of a statement, before what is made of any rest
abbrev pub IsMade : Graft → Graft → List Tree → List Tree → Stmt → Stmt → Type 0
IsMade h g old ts r s = (rest : Statements) → stmt_at ts r (graft_all h (graft_all g rest)) ≡ graft_all h (graft_all g (stmt_at old s rest))

module _ (h g : Graft) (old ts : List Tree) where
  abbrev twice : Statements → Statements
  twice b = graft_all h (graft_all g b)

  pub if_made : (s : code_span.Span) (e t : ℕ) (xs ys rs ss : Vec Stmt Global) → at ts t ≡ graft h (graft g (at old e)) → statements_at ts rs.items ≡ twice (statements_at old xs.items) → statements_at ts ss.items ≡ twice (statements_at old ys.items)
      → IsMade h g old ts (If s t rs ss) (If s e xs ys)
  if_made s e t xs ys rs ss is first second rest =
      (λ j. if_at ts s t rs ss j (twice rest)) ∙ (λ j. then (span_of s) (branch (is j) (first j) (second j)) (twice rest)) ∙ (λ j. twice (sym (if_at old s e xs ys) j rest))

  pub either_made : (s : code_span.Span) (bs rs : Vec (Vec Stmt Global) Global) → branches_at ts rs.items ≡ graft_some h (graft_some g (branches_at old bs.items)) → IsMade h g old ts (Either s rs) (Either s bs)
  either_made s bs rs is rest = (λ j. either_at ts s rs j (twice rest)) ∙ (λ j. then (span_of s) (either (is j)) (twice rest)) ∙ (λ j. twice (sym (either_at old s bs) j rest))

  pub with_made : (s : code_span.Span) (bs cs : Vec Bind Global) (xs rs : Vec Stmt Global) → binds_at ts cs.items ≡ graft_binds h (graft_binds g (binds_at old bs.items)) → statements_at ts rs.items ≡ twice (statements_at old xs.items)
      → IsMade h g old ts (With s cs rs) (With s bs xs)
  with_made s bs cs xs rs is inner rest = (λ j. with_at ts s cs rs j (twice rest)) ∙ (λ j. then (span_of s) (with (is j) (inner j)) (twice rest)) ∙ (λ j. twice (sym (with_at old s bs xs) j rest))

  pub while_made : (s : code_span.Span) (e t : ℕ) (xs rs : Vec Stmt Global) → at ts t ≡ graft h (graft g (at old e)) → statements_at ts rs.items ≡ twice (statements_at old xs.items) → IsMade h g old ts (While s t rs) (While s e xs)
  while_made s e t xs rs is inner rest = (λ j. while_at ts s t rs j (twice rest)) ∙ (λ j. then (span_of s) (while (is j) (inner j)) (twice rest)) ∙ (λ j. twice (sym (while_at old s e xs) j rest))

-- of the same statement
pub made_is : (h g : Graft) (old ts : List Tree) (r x s : Stmt) → x ≡ s → IsMade h g old ts r s → IsMade h g old ts r x
made_is h g old ts r x s e = subst (IsMade h g old ts r) (sym e)

pub keeps_all : (ts : List Tree) → Keeps ts ts
keeps_all ts = record { longer = omega arith; same = λ i h. refl }

-- statements that are made after the first pool, in the last one
pub stmts_from : (h g : Graft) (ts us vs ws : List Tree) → Keeps ts us → Keeps vs ws → (xs ks rs : List Stmt) → ks ≡ xs → past_statements xs ≤ length ts → past_statements rs ≤ length vs → statements_at vs rs ≡ graft_all h (graft_all g (statements_at us ks))
    → statements_at ws rs ≡ graft_all h (graft_all g (statements_at ts xs))
stmts_from h g ts us vs ws k l xs ks rs e n m s =
    statements_at-kept vs ws l rs m ∙ s ∙ (λ j. graft_all h (graft_all g (statements_at us (e j)))) ∙ (λ j. graft_all h (graft_all g (statements_at-kept ts us k xs n j)))
