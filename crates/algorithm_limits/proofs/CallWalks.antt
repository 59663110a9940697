-- The macro calls of each kind of statement, looked at one after another, and chains of macros by a table of their lengths.
use Rattle.std.proofs.Common.{◌≡◌, ℕ, ◌+◌, ◌<◌, ◌≤◌, max, nat_lt, List, [], ◌∷◌, ◌++◌, length, map, drop, get_or, Vec, Global, Option, None, refl, sym, ap, ◌∙◌, arith, cond, bytes_eq}
use Rattle.std.proofs.lemmas.List.{drop_more, drop_all}
use Rattle.tla_token.specs.declared.rule.Rule.TheVariants.{TooMany}
use Rattle.tla_token.specs.declared.rule.Refusal.{Refusal}
use Rattle.tla_token.specs.Limits.{longest_chain}
use Rattle.tla_tree.specs.Tree.{Word, Tree}
use Rattle.tla_tree.specs.Pool.{at}
use Rattle.pcal_tree.specs.declared.mark.Mark.{Mark}
use Rattle.pcal_tree.specs.declared.algorithm.Span.{Span}
use Rattle.pcal_tree.specs.declared.algorithm.Bind.{Bind}
use Rattle.pcal_tree.specs.declared.algorithm.Simple as declared_simple
use Rattle.pcal_tree.specs.declared.algorithm.Stmt.{Stmt}
use Rattle.pcal_tree.specs.declared.algorithm.Stmt.TheVariants.{Label, Simple, If, Either, With, While}
use Rattle.pcal_tree.specs.declared.algorithm.Macro.{Macro}
use Rattle.pcal_tree.specs.Algorithm as tree
use Rattle.pcal_tree.specs.Algorithm.{Name, branch, either, with, while, Statements, then, mark}
use Rattle.pcal_tree.specs.InMemory.{span_of, binds_at, simple_at, Before, stmt_at, statements_at, branches_at, macro_at}
use Rattle.pcal_tree.specs.Offences.{offence_if, first}
use Rattle.pcal_tree.specs.OffencesCounts.{calls_in, calls_of, calls_of_some, Chains, longest, chain_to, long_chains}
use Rattle.pcal_tree.proofs.InMemoryEach.{label_at, simple_in_list_at, if_at, either_at, with_at, while_at}
use Rattle.algorithm_answer.specs.Joined.{joined}
use Rattle.algorithm_limits.specs.Numbers.{Numbers, number_of, with_number}
use Rattle.algorithm_limits.specs.ChainsIn.{longest_in, AreChains}
use Rattle.algorithm_answer.proofs.Joins.{joined_assoc, joined_none, first_append}
use Rattle.algorithm_limits.proofs.Tables.{number_of_with}

pub longest_append : (es : Numbers) (xs ys : List Word) → longest_in es (xs ++ ys) ≡ max (longest_in es xs) (longest_in es ys)
longest_append es [] ys = omega arith
longest_append es (x ∷ xs) ys = let h = longest_append es xs ys in omega arith

-- ---- each kind of statement, before the rest of its list

module _ (es : Numbers) (ts : List Tree) (n : ℕ) (rest : Statements) where
  before : (stmt : Stmt) (f : Before) → stmt_at ts stmt ≡ f → max n (longest_in es (calls_of (f rest))) ≡ max n (longest_in es (calls_of (stmt_at ts stmt rest)))
  before stmt f e = ap (λ (g : Before). max n (longest_in es (calls_of (g rest)))) (sym e)

  then_rest : (m : ℕ) (xs : List Word) → m ≡ max n (longest_in es xs) → max m (longest_in es (calls_of rest)) ≡ max n (longest_in es (xs ++ calls_of rest))
  then_rest m xs e = let a = longest_append es xs (calls_of rest) in omega arith

  pub label_longest : (x : Name) (k : Mark) → max n (longest_in es (calls_of rest)) ≡ max n (longest_in es (calls_of (stmt_at ts (Label x k) rest)))
  label_longest x k = before (Label x k) (mark x k) (label_at ts x k)

  pub simple_longest : (m : ℕ) (s : Span) (x : declared_simple.Simple) → m ≡ max n (longest_in es (calls_in (simple_at ts x))) → max m (longest_in es (calls_of rest)) ≡ max n (longest_in es (calls_of (stmt_at ts (Simple s x) rest)))
  simple_longest m s x e = then_rest m (calls_in (simple_at ts x)) e ∙ before (Simple s x) (then (span_of s) (simple_at ts x)) (simple_in_list_at ts s x)

  pub if_longest : (l m : ℕ) (s : Span) (e : ℕ) (u v : Vec Stmt Global) → l ≡ max n (longest_in es (calls_of (statements_at ts u.items))) → m ≡ max l (longest_in es (calls_of (statements_at ts v.items)))
      → max m (longest_in es (calls_of rest)) ≡ max n (longest_in es (calls_of (stmt_at ts (If s e u v) rest)))
  if_longest l m s e u v p q =
      then_rest m (calls_of (statements_at ts u.items) ++ calls_of (statements_at ts v.items)) (let a = longest_append es (calls_of (statements_at ts u.items)) (calls_of (statements_at ts v.items)) in omega arith)
      ∙ before (If s e u v) (then (span_of s) (branch (at ts e) (statements_at ts u.items) (statements_at ts v.items))) (if_at ts s e u v)

  pub either_longest : (m : ℕ) (s : Span) (bs : Vec (Vec Stmt Global) Global) → m ≡ max n (longest_in es (calls_of_some (branches_at ts bs.items))) → max m (longest_in es (calls_of rest)) ≡ max n (longest_in es (calls_of (stmt_at ts (Either s bs) rest)))
  either_longest m s bs p = then_rest m (calls_of_some (branches_at ts bs.items)) p ∙ before (Either s bs) (then (span_of s) (either (branches_at ts bs.items))) (either_at ts s bs)

  pub with_longest : (m : ℕ) (s : Span) (bs : Vec Bind Global) (u : Vec Stmt Global) → m ≡ max n (longest_in es (calls_of (statements_at ts u.items))) → max m (longest_in es (calls_of rest)) ≡ max n (longest_in es (calls_of (stmt_at ts (With s bs u) rest)))
  with_longest m s bs u p = then_rest m (calls_of (statements_at ts u.items)) p ∙ before (With s bs u) (then (span_of s) (with (binds_at ts bs.items) (statements_at ts u.items))) (with_at ts s bs u)

  pub while_longest : (m : ℕ) (s : Span) (e : ℕ) (u : Vec Stmt Global) → m ≡ max n (longest_in es (calls_of (statements_at ts u.items))) → max m (longest_in es (calls_of rest)) ≡ max n (longest_in es (calls_of (stmt_at ts (While s e u) rest)))
  while_longest m s e u p = then_rest m (calls_of (statements_at ts u.items)) p ∙ before (While s e u) (then (span_of s) (while (at ts e) (statements_at ts u.items))) (while_at ts s e u)

-- ---- one more in a loop

module _ (es : Numbers) (ts : List Tree) where
  pub stmt_more : (n m : ℕ) (ss : List Stmt) (i : ℕ) (s : Stmt) → s ≡ get_or ss i s → i < length ss
      → ((rest : Statements) → max m (longest_in es (calls_of rest)) ≡ max n (longest_in es (calls_of (stmt_at ts s rest))))
      → max m (longest_in es (calls_of (statements_at ts (drop (i + 1) ss)))) ≡ max n (longest_in es (calls_of (statements_at ts (drop i ss))))
  stmt_more n m ss i s e l h =
      h (statements_at ts (drop (i + 1) ss))
      ∙ ap (λ (ys : List Stmt). max n (longest_in es (calls_of (statements_at ts ys)))) (ap (λ (y : Stmt). y ∷ drop (i + 1) ss) e ∙ sym (drop_more ss i s l))

  pub stmts_done : (n : ℕ) (ss : List Stmt) (i : ℕ) → length ss ≤ i → max n (longest_in es (calls_of (statements_at ts (drop i ss)))) ≡ n
  stmts_done n ss i l = let h = ap (λ (ys : List Stmt). max n (longest_in es (calls_of (statements_at ts ys)))) (drop_all i ss l) in omega arith

  pub branch_more : (n m : ℕ) (bs : List (Vec Stmt Global)) (i : ℕ) (b : Vec Stmt Global) → b ≡ get_or bs i b → i < length bs → m ≡ max n (longest_in es (calls_of (statements_at ts b.items)))
      → max m (longest_in es (calls_of_some (branches_at ts (drop (i + 1) bs)))) ≡ max n (longest_in es (calls_of_some (branches_at ts (drop i bs))))
  branch_more n m bs i b e l h =
      let a = longest_append es (calls_of (statements_at ts b.items)) (calls_of_some (branches_at ts (drop (i + 1) bs))) in
      let j : max m (longest_in es (calls_of_some (branches_at ts (drop (i + 1) bs)))) ≡ max n (longest_in es (calls_of (statements_at ts b.items) ++ calls_of_some (branches_at ts (drop (i + 1) bs)))) = omega arith in
      j ∙ ap (λ (ys : List (Vec Stmt Global)). max n (longest_in es (calls_of_some (branches_at ts ys)))) (ap (λ (y : Vec Stmt Global). y ∷ drop (i + 1) bs) e ∙ sym (drop_more bs i b l))

  pub branches_done : (n : ℕ) (bs : List (Vec Stmt Global)) (i : ℕ) → length bs ≤ i → max n (longest_in es (calls_of_some (branches_at ts (drop i bs)))) ≡ n
  branches_done n bs i l = let h = ap (λ (ys : List (Vec Stmt Global)). max n (longest_in es (calls_of_some (branches_at ts ys)))) (drop_all i bs l) in omega arith

-- ---- chains

longest_is : (es : Numbers) (cs : Chains) → AreChains es cs → (ms : List Word) → longest cs ms ≡ longest_in es ms
longest_is es cs h [] = refl
longest_is es cs h (m ∷ ms) = λ i. max (sym (h m) i) (longest_is es cs h ms i)

chains_more : (es : Numbers) (cs : Chains) (x : Word) (n k : ℕ) → AreChains es cs → n ≡ k → AreChains (with_number es x n) ((x, k) ∷ cs)
chains_more es cs x n k h e m = number_of_with es x n m ∙ (λ i. cond (bytes_eq x m) (e i) (h m i))

-- what was found, with what is found from this macro on
pub record FoundChains (es : Numbers) (found : Option Refusal) (ds rest : List tree.Macro) : Type 0 where
  pub chains : Chains
  pub are : AreChains es chains
  pub finds : joined found (first (long_chains chains rest)) ≡ first (long_chains [] ds)

pub no_chains : (ds : List tree.Macro) → FoundChains [] None ds ds
no_chains ds = record { chains = []; are = λ m. refl; finds = refl }

pub one_longer : (n m k : ℕ) → n ≡ m + 1 → m ≡ max 0 k → n ≡ 1 + k
one_longer n m k e f = omega arith

pub found_as : (es new : Numbers) (found now : Option Refusal) (ds rest : List tree.Macro) → new ≡ es → now ≡ found → FoundChains es found ds rest → FoundChains new now ds rest
found_as es new found now ds rest e f h = record {
  chains = h.chains;
  are = λ m. ap (λ (z : Numbers). number_of z m) e ∙ h.are m;
  finds = ap (λ (o : Option Refusal). joined o (first (long_chains h.chains rest))) f ∙ h.finds;
}

module _ (ts : List Tree) (ms : List Macro) where
  pub chain_more : (es : Numbers) (found : Option Refusal) (i : ℕ) (m : Macro) (n : ℕ) → m ≡ get_or ms i m → i < length ms → n ≡ 1 + longest_in es (calls_of (statements_at ts m.body.items))
      → FoundChains es found (map (macro_at ts) ms) (map (macro_at ts) (drop i ms))
      → FoundChains (with_number es m.name.word n) (joined found (first (offence_if (nat_lt longest_chain n) TooMany m.name.place))) (map (macro_at ts) ms) (map (macro_at ts) (drop (i + 1) ms))
  chain_more es found i m n e l is h =
      let d = macro_at ts m in
      let k : n ≡ chain_to h.chains d = is ∙ ap (λ (z : ℕ). 1 + z) (sym (longest_is es h.chains h.are (calls_of d.body))) in
      let more = map (macro_at ts) (drop (i + 1) ms) in
      let cs : Chains = (d.name.word, chain_to h.chains d) ∷ h.chains in
      record {
        chains = cs;
        are = chains_more es h.chains m.name.word n (chain_to h.chains d) h.are k;
        finds = ap (λ (z : ℕ). joined (joined found (first (offence_if (nat_lt longest_chain z) TooMany m.name.place))) (first (long_chains cs more))) k
            ∙ joined_assoc found (first (offence_if (nat_lt longest_chain (chain_to h.chains d)) TooMany m.name.place)) (first (long_chains cs more))
            ∙ ap (joined found) (sym (first_append (offence_if (nat_lt longest_chain (chain_to h.chains d)) TooMany m.name.place) (long_chains cs more)))
            ∙ ap (λ (ys : List Macro). joined found (first (long_chains h.chains (map (macro_at ts) ys)))) (ap (λ (y : Macro). y ∷ drop (i + 1) ms) e ∙ sym (drop_more ms i m l))
            ∙ h.finds;
      }

  pub chains_found : (es : Numbers) (found : Option Refusal) (i : ℕ) → length ms ≤ i → FoundChains es found (map (macro_at ts) ms) (map (macro_at ts) (drop i ms)) → found ≡ first (long_chains [] (map (macro_at ts) ms))
  chains_found es found i l h =
      sym (ap (λ (ys : List Macro). joined found (first (long_chains h.chains (map (macro_at ts) ys)))) (drop_all i ms l) ∙ joined_none found) ∙ h.finds
