-- The first definition that nests too deep, found from the first one on, by a table of how deep uses of those before nest.
use Rattle.std.proofs.Common.{◌≡◌, ℕ, ◌+◌, ◌<◌, ◌≤◌, min, Bool, true, false, nat_lt, List, [], ◌∷◌, length, drop, get_or, Option, None, refl, sym, ap, ◌∙◌, arith, cond, bytes_eq, lt-ltb, le-ltb, ltb-true, ltb-false}
use Rattle.std.proofs.lemmas.List.{drop_more, drop_all}
use Rattle.tla_token.specs.declared.rule.Rule.TheVariants.{TooMany}
use Rattle.tla_token.specs.declared.rule.Refusal.{Refusal}
use Rattle.tla_token.specs.Limits.{deepest_definition}
use Rattle.tla_tree.specs.Tree.{Word, Tree}
use Rattle.tla_value.specs.DefinitionNesting.{Depths, depth_of_use, definition_nests}
use Rattle.pcal_tree.specs.declared.algorithm.Definition.{Definition}
use Rattle.pcal_tree.specs.Algorithm as tree
use Rattle.pcal_tree.specs.InMemory.{definition_at, definitions_at}
use Rattle.pcal_tree.specs.Program.{inner}
use Rattle.pcal_tree.specs.Offences.{offence_if, first}
use Rattle.pcal_tree.specs.OffencesCounts.{deep_definitions}
use Rattle.algorithm_answer.specs.Joined.{joined}
use Rattle.algorithm_limits.specs.Numbers.{Numbers, number_of, with_number}
use Rattle.algorithm_limits.specs.DepthsIn.{depth_in, AreDepths}
use Rattle.algorithm_answer.proofs.Joins.{joined_assoc, joined_none, first_append}
use Rattle.algorithm_limits.proofs.Tables.{number_of_with}

-- what was found, with what is found from this definition on
pub record FoundDeep (es : Numbers) (found : Option Refusal) (ds rest : List tree.Definition) : Type 0 where
  pub before : Depths
  pub are : AreDepths 501 es [] before
  pub finds : joined found (first (deep_definitions before rest)) ≡ first (deep_definitions [] ds)

pub no_depths : (ds : List tree.Definition) → FoundDeep [] None ds ds
no_depths ds = record { before = []; are = λ x. refl; finds = refl }

pub deep_as : (es new : Numbers) (found now : Option Refusal) (ds rest : List tree.Definition) → new ≡ es → now ≡ found → FoundDeep es found ds rest → FoundDeep new now ds rest
deep_as es new found now ds rest e f h = record {
  before = h.before;
  are = λ x. h.are x ∙ ap (λ (z : Numbers). min 501 (depth_in z [] x)) (sym e);
  finds = ap (λ (o : Option Refusal). joined o (first (deep_definitions h.before rest))) f ∙ h.finds;
}

-- a number is past 500 exactly if the lesser one of it and 501 is
same_past : (n : ℕ) → nat_lt deepest_definition (min 501 n) ≡ nat_lt deepest_definition n
same_past n = by (nat_lt deepest_definition n) refl
  where
    by : (b : Bool) → nat_lt deepest_definition n ≡ b → nat_lt deepest_definition (min 501 n) ≡ b
    by true e = lt-ltb deepest_definition (min 501 n) (let h = ltb-true deepest_definition n e in omega arith)
    by false e = le-ltb deepest_definition (min 501 n) (let h = ltb-false deepest_definition n e in omega arith)

depths_more : (es : Numbers) (ds : Depths) (x : Word) (n k : ℕ) → AreDepths 501 es [] ds → n ≡ min 501 k → AreDepths 501 (with_number es x (n + 1)) [] ((x, 1 + k) ∷ ds)
depths_more es ds x n k a e y = by (bytes_eq x y) (depth_of_use ds y) (number_of es y) (a y) ∙ ap (min 501) (sym (number_of_with es x (n + 1) y))
  where
    by : (b : Bool) (d m : ℕ) → min 501 d ≡ min 501 m → min 501 (cond b (1 + k) d) ≡ min 501 (cond b (n + 1) m)
    by true d m h = omega arith
    by false d m h = h

module _ (ts : List Tree) (ms : List Definition) where
  pub deep_more : (es : Numbers) (found : Option Refusal) (i : ℕ) (m : Definition) (n : ℕ) → m ≡ get_or ms i m → i < length ms
      → ((ds : Depths) → AreDepths 501 es [] ds → n ≡ min 501 (definition_nests ds (inner (definition_at ts m))))
      → FoundDeep es found (definitions_at ts ms) (definitions_at ts (drop i ms))
      → FoundDeep (with_number es m.name.word (n + 1)) (joined found (first (offence_if (nat_lt deepest_definition n) TooMany m.name.place))) (definitions_at ts ms) (definitions_at ts (drop (i + 1) ms))
  deep_more es found i m n e l is h =
      let d = definition_at ts m in
      let k = definition_nests h.before (inner d) in
      let q : n ≡ min 501 k = is h.before h.are in
      let more = definitions_at ts (drop (i + 1) ms) in
      let before : Depths = (d.name.word, 1 + k) ∷ h.before in
      record {
        before = before;
        are = depths_more es h.before m.name.word n k h.are q;
        finds = ap (λ (b : Bool). joined (joined found (first (offence_if b TooMany m.name.place))) (first (deep_definitions before more))) (ap (nat_lt deepest_definition) q ∙ same_past k)
            ∙ joined_assoc found (first (offence_if (nat_lt deepest_definition k) TooMany m.name.place)) (first (deep_definitions before more))
            ∙ ap (joined found) (sym (first_append (offence_if (nat_lt deepest_definition k) TooMany m.name.place) (deep_definitions before more)))
            ∙ ap (λ (ys : List Definition). joined found (first (deep_definitions h.before (definitions_at ts ys)))) (ap (λ (y : Definition). y ∷ drop (i + 1) ms) e ∙ sym (drop_more ms i m l))
            ∙ h.finds;
      }

  pub deep_found : (es : Numbers) (found : Option Refusal) (i : ℕ) → length ms ≤ i → FoundDeep es found (definitions_at ts ms) (definitions_at ts (drop i ms)) → found ≡ first (deep_definitions [] (definitions_at ts ms))
  deep_found es found i l h =
      sym (ap (λ (ys : List Definition). joined found (first (deep_definitions h.before (definitions_at ts ys)))) (drop_all i ms l) ∙ joined_none found) ∙ h.finds
