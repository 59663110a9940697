-- The first of all offences that are counted is the least of the first of each kind.
use Rattle.std.proofs.Common.{◌≡◌, ℕ, List, ◌++◌, [], Option, sym, ap, ◌∙◌}
use Rattle.tla_token.specs.declared.rule.Refusal.{Refusal}
use Rattle.tla_tree.specs.Tree.{Tree}
use Rattle.pcal_tree.specs.declared.algorithm.Algorithm as code
use Rattle.pcal_tree.specs.Algorithm.{Name}
use Rattle.pcal_tree.specs.InMemory.{algorithm_at}
use Rattle.pcal_tree.specs.Offences.{first}
use Rattle.pcal_tree.specs.OffencesNames.{process_names}
use Rattle.pcal_tree.specs.OffencesCounts.{variable_names, procedure_names, all_label_names, first_past, long_chains, deep_definitions, count_offences}
use Rattle.algorithm_limits.specs.declared.count.Count.{Count}
use Rattle.algorithm_answer.specs.Joined.{joined}
use Rattle.algorithm_limits.specs.Counting.{none_of, counted, past_limit, variables_in, processes_in, procedures_in}
use Rattle.algorithm_limits.specs.LabelsIn.{labels_in}
use Rattle.algorithm_answer.proofs.Joins.{first_append}
use Rattle.algorithm_limits.proofs.Counts.{past_is_first, variables_are, procedures_are, processes_are}
use Rattle.algorithm_limits.proofs.LabelWalks.{labels_are}

-- the first name past a limit, where these names are those
first_name : (n : ℕ) (xs ys : List Name) (c : Count) → c ≡ counted (none_of n) xs → ys ≡ xs → first (past_limit c) ≡ first (first_past n ys)
first_name n xs ys c e f = ap (λ (d : Count). first (past_limit d)) e ∙ ap first (past_is_first n xs) ∙ ap (λ (zs : List Name). first (first_past n zs)) (sym f)

both : (xs ys : List Refusal) (a b : Option Refusal) → a ≡ first xs → b ≡ first ys → joined a b ≡ first (xs ++ ys)
both xs ys a b e f = (λ i. joined (e i) (f i)) ∙ sym (first_append xs ys)

module _ (ts : List Tree) (a : code.Algorithm) where
  pub counts_first : (v p q l : Count) (c d : Option Refusal) → v ≡ counted (none_of 1024) (variables_in a) → p ≡ counted (none_of 100) (processes_in a.main) → q ≡ counted (none_of 100) (procedures_in a)
      → l ≡ counted (none_of 8192) (labels_in ts a) → c ≡ first (long_chains [] (algorithm_at ts a).macros) → d ≡ first (deep_definitions [] (algorithm_at ts a).definitions)
      → joined (first (past_limit v)) (joined (first (past_limit p)) (joined (first (past_limit q)) (joined (first (past_limit l)) (joined c d)))) ≡ first (count_offences (algorithm_at ts a))
  counts_first v p q l c d ev ep eq el ec ed =
      let g = algorithm_at ts a in
      let more = long_chains [] g.macros ++ deep_definitions [] g.definitions in
      let marked = first_past 8192 (all_label_names g) ++ more in
      let called = first_past 100 (procedure_names g) ++ marked in
      let run = first_past 100 (process_names g.main) ++ called in
      both (first_past 1024 (variable_names g)) run _ _ (first_name 1024 (variables_in a) (variable_names g) v ev (variables_are ts a))
      (both (first_past 100 (process_names g.main)) called _ _ (first_name 100 (processes_in a.main) (process_names g.main) p ep (processes_are ts a.main))
      (both (first_past 100 (procedure_names g)) marked _ _ (first_name 100 (procedures_in a) (procedure_names g) q eq (procedures_are ts a))
      (both (first_past 8192 (all_label_names g)) more _ _ (first_name 8192 (labels_in ts a) (all_label_names g) l el (labels_are ts a))
      (both (long_chains [] g.macros) (deep_definitions [] g.definitions) c d ec ed))))
