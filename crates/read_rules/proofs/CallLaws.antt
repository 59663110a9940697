-- Macros that are called, marked one after another.
use Rattle.std.proofs.Common.{◌≡◌, ℕ, ◌+◌, ◌<◌, ◌≤◌, nat_lt, Bool, true, false, ◌||◌, List, [], ◌∷◌, ◌++◌, length, drop, get_or, Vec, Global, refl, sym, ap, ◌∙◌, subst, cond, bytes_eq, arith, lt-ltb}
use Rattle.std.proofs.lemmas.List.{drop_more, drop_all}
use Rattle.std.proofs.lemmas.List.Folds.{list_any-append}
use Rattle.tla_token.specs.Signs.{is_among}
use Rattle.tla_tree.specs.Tree.{Name, Word, Tree}
use Rattle.tla_tree.specs.Pool.{at}
use Rattle.pcal_tree.specs.declared.mark.Mark.{Mark}
use Rattle.pcal_tree.specs.declared.algorithm.Span.{Span}
use Rattle.pcal_tree.specs.declared.algorithm.Bind.{Bind}
use Rattle.pcal_tree.specs.declared.algorithm.Simple as declared_simple
use Rattle.pcal_tree.specs.declared.algorithm.Stmt.{Stmt}
use Rattle.pcal_tree.specs.declared.algorithm.Stmt.TheVariants.{Label, Simple, If, Either, With, While}
use Rattle.pcal_tree.specs.Algorithm.{branch, either, with, while, Statements, then, mark}
use Rattle.pcal_tree.specs.InMemory.{span_of, binds_at, simple_at, Before, stmt_at, statements_at, branches_at}
use Rattle.pcal_tree.specs.OffencesCounts.{calls_in, calls_of, calls_of_some}
use Rattle.pcal_tree.proofs.InMemoryEach.{label_at, simple_in_list_at, if_at, either_at, with_at, while_at}
use Rattle.algorithm_limits.specs.Numbers.{Numbers, number_of, with_number}
use Rattle.algorithm_limits.proofs.Tables.{number_of_with}
use Rattle.read_rules.specs.Calls.{is_called, AddsCalls, AddsStmtCalls}

pub calls_none : (es : Numbers) → AddsCalls es es []
calls_none es = record { calls = λ x. refl }

pub calls_one : (es : Numbers) (m : Word) → AddsCalls es (with_number es m 1) (m ∷ [])
calls_one es m = record { calls = λ x. ap (nat_lt 0) (number_of_with es m 1 x) ∙ by (bytes_eq m x) (number_of es x) }
  where
    by : (b : Bool) (n : ℕ) → nat_lt 0 (cond b 1 n) ≡ ((b || false) || nat_lt 0 n)
    by true n = lt-ltb 0 1 (omega arith)
    by false n = refl

pub calls_as : (es fs : Numbers) (ms ns : List Word) → ms ≡ ns → AddsCalls es fs ms → AddsCalls es fs ns
calls_as es fs ms ns e h = subst (λ (l : List Word). AddsCalls es fs l) e h

pub calls_then : (es fs gs : Numbers) (ms ns : List Word) → AddsCalls es fs ms → AddsCalls fs gs ns → AddsCalls es gs (ms ++ ns)
calls_then es fs gs ms ns h k = record {
  calls = λ x.
      k.calls x ∙ ap (λ (b : Bool). is_among ns x || b) (h.calls x) ∙ moved (is_among ns x) (is_among ms x) (is_called es x)
      ∙ ap (λ (b : Bool). b || is_called es x) (sym (list_any-append (λ v. bytes_eq v x) ms ns));
}
  where
    moved : (a b c : Bool) → (a || (b || c)) ≡ ((b || a) || c)
    moved true true c = refl
    moved true false c = refl
    moved false true c = refl
    moved false false c = refl

standing : (ts : List Tree) (es fs : Numbers) (s : Stmt) (f : Before) (these : List Word) → stmt_at ts s ≡ f → ((rest : Statements) → calls_of (f rest) ≡ these ++ calls_of rest) → AddsCalls es fs these → AddsStmtCalls ts s es fs
standing ts es fs s f these e a g = record { these = these; ahead = λ rest. ap (λ (f : Before). calls_of (f rest)) e ∙ a rest; adds = g }

module _ (ts : List Tree) (es fs : Numbers) where
  pub label_calls : (x : Name) (m : Mark) → AddsStmtCalls ts (Label x m) es es
  label_calls x m = standing ts es es (Label x m) (mark x m) [] (label_at ts x m) (λ rest. refl) (calls_none es)

  pub simple_calls : (s : Span) (x : declared_simple.Simple) → AddsCalls es fs (calls_in (simple_at ts x)) → AddsStmtCalls ts (Simple s x) es fs
  simple_calls s x g = standing ts es fs (Simple s x) (then (span_of s) (simple_at ts x)) (calls_in (simple_at ts x)) (simple_in_list_at ts s x) (λ rest. refl) g

  pub if_calls : (gs : Numbers) (s : Span) (e : ℕ) (a b : Vec Stmt Global) → AddsCalls es fs (calls_of (statements_at ts a.items)) → AddsCalls fs gs (calls_of (statements_at ts b.items)) → AddsStmtCalls ts (If s e a b) es gs
  if_calls gs s e a b g h =
      standing ts es gs (If s e a b) (then (span_of s) (branch (at ts e) (statements_at ts a.items) (statements_at ts b.items))) (calls_of (statements_at ts a.items) ++ calls_of (statements_at ts b.items)) (if_at ts s e a b) (λ rest. refl)
      (calls_then es fs gs (calls_of (statements_at ts a.items)) (calls_of (statements_at ts b.items)) g h)

  pub either_calls : (s : Span) (bs : Vec (Vec Stmt Global) Global) → AddsCalls es fs (calls_of_some (branches_at ts bs.items)) → AddsStmtCalls ts (Either s bs) es fs
  either_calls s bs g = standing ts es fs (Either s bs) (then (span_of s) (either (branches_at ts bs.items))) (calls_of_some (branches_at ts bs.items)) (either_at ts s bs) (λ rest. refl) g

  pub with_calls : (s : Span) (bs : Vec Bind Global) (b : Vec Stmt Global) → AddsCalls es fs (calls_of (statements_at ts b.items)) → AddsStmtCalls ts (With s bs b) es fs
  with_calls s bs b g = standing ts es fs (With s bs b) (then (span_of s) (with (binds_at ts bs.items) (statements_at ts b.items))) (calls_of (statements_at ts b.items)) (with_at ts s bs b) (λ rest. refl) g

  pub while_calls : (s : Span) (e : ℕ) (b : Vec Stmt Global) → AddsCalls es fs (calls_of (statements_at ts b.items)) → AddsStmtCalls ts (While s e b) es fs
  while_calls s e b g = standing ts es fs (While s e b) (then (span_of s) (while (at ts e) (statements_at ts b.items))) (calls_of (statements_at ts b.items)) (while_at ts s e b) (λ rest. refl) g

-- ---- lists: what is left of one still gives the whole

pub body_calls : (ts : List Tree) (es fs gs : Numbers) (ss : List Stmt) (i : ℕ) (s : Stmt) → s ≡ get_or ss i s → i < length ss → AddsStmtCalls ts s es fs → AddsCalls fs gs (calls_of (statements_at ts (drop (i + 1) ss)))
    → AddsCalls es gs (calls_of (statements_at ts (drop i ss)))
body_calls ts es fs gs ss i s e less n g =
    calls_as es gs _ _ (sym (n.ahead (statements_at ts (drop (i + 1) ss))) ∙ ap (λ (ys : List Stmt). calls_of (statements_at ts ys)) (ap (λ (y : Stmt). y ∷ drop (i + 1) ss) e ∙ sym (drop_more ss i s less)))
    (calls_then es fs gs n.these (calls_of (statements_at ts (drop (i + 1) ss))) n.adds g)

pub body_called : (ts : List Tree) (es : Numbers) (ss : List Stmt) (i : ℕ) → length ss ≤ i → AddsCalls es es (calls_of (statements_at ts (drop i ss)))
body_called ts es ss i less = calls_as es es _ _ (ap (λ (ys : List Stmt). calls_of (statements_at ts ys)) (sym (drop_all i ss less))) (calls_none es)

pub branches_calls : (ts : List Tree) (es fs gs : Numbers) (bs : List (Vec Stmt Global)) (i : ℕ) (b : Vec Stmt Global) → b ≡ get_or bs i b → i < length bs → AddsCalls es fs (calls_of (statements_at ts b.items))
    → AddsCalls fs gs (calls_of_some (branches_at ts (drop (i + 1) bs))) → AddsCalls es gs (calls_of_some (branches_at ts (drop i bs)))
branches_calls ts es fs gs bs i b e less n g =
    calls_as es gs _ _ (ap (λ (ys : List (Vec Stmt Global)). calls_of_some (branches_at ts ys)) (ap (λ (y : Vec Stmt Global). y ∷ drop (i + 1) bs) e ∙ sym (drop_more bs i b less)))
    (calls_then es fs gs (calls_of (statements_at ts b.items)) (calls_of_some (branches_at ts (drop (i + 1) bs))) n g)

pub branches_called : (ts : List Tree) (es : Numbers) (bs : List (Vec Stmt Global)) (i : ℕ) → length bs ≤ i → AddsCalls es es (calls_of_some (branches_at ts (drop i bs)))
branches_called ts es bs i less = calls_as es es _ _ (ap (λ (ys : List (Vec Stmt Global)). calls_of_some (branches_at ts ys)) (sym (drop_all i bs less))) (calls_none es)
