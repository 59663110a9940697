-- The variables of the translation are two more than those that an algorithm declares, at most: pc and the stack.
use Rattle.std.proofs.Common.{◌≡◌, ◌+◌, ◌≤◌, length, List, [], ◌∷◌, ◌++◌, refl, sym, ap, ◌∙◌, length-append, arith}
use Rattle.std.specs.List.{flat_map}
use Rattle.std.proofs.lemmas.Grind.{flat_map-append}
use Rattle.std.proofs.lemmas.List.{length-map}
use Rattle.tla_token.specs.Limits.{most_variables}
use Rattle.tla_tree.specs.Tree.{Name}
use Rattle.pcal_tree.specs.Algorithm.{Declaration, locals, Routine, procedure_routines, main_routines}
use Rattle.pcal_tree.specs.OffencesCounts.{variable_names}
use Rattle.pcal_tree.specs.OffencesNames.{names_of}
use Rattle.pcal_tree.specs.Program.{Program, written}
use Rattle.pcal_tree.specs.Variables.{declared, pc, stack_for, written_all, written_by_all, vars}
use Rattle.name_bits.specs.NamesIn.{most}

abbrev local_names : List Routine → List Name
local_names us = flat_map (λ (u : Routine). names_of (locals u)) us

module _ (P : Program) where
  one_count : (u : Routine) → length (written_all P u (locals u)) ≡ length (names_of (locals u))
  one_count u =
      length-map (declared (locals u)) (written P u) ∙ length-map (locals u) (λ (d : Declaration). d.name.word) ∙ sym (length-map (locals u) (λ (d : Declaration). d.name))

  all_count : (us : List Routine) → length (written_by_all P us) ≡ length (local_names us)
  all_count [] = refl
  all_count (u ∷ us) =
      let a = length-append (written_all P u (locals u)) (written_by_all P us) in
      let b = length-append (names_of (locals u)) (local_names us) in
      let c = one_count u in
      let d = all_count us in
      omega arith

  stack_count : (us : List Routine) → length (stack_for us) ≤ 1
  stack_count [] = omega arith
  stack_count (u ∷ us) = omega arith

  pub vars_count : length (vars P) ≤ length (variable_names P.algorithm) + 2
  vars_count =
      let us = procedure_routines P.algorithm in
      let ms = main_routines P.algorithm P.algorithm.main in
      let gs = declared P.algorithm.globals in
      let first = pc ∷ stack_for us in
      let a = length-append ((gs ++ first) ++ written_by_all P us) (written_by_all P ms) in
      let b = length-append (gs ++ first) (written_by_all P us) in
      let c = length-append gs first in
      let d = stack_count us in
      let e = length-map P.algorithm.globals (λ (x : Declaration). x.name.word) in
      let f = length-map P.algorithm.globals (λ (x : Declaration). x.name) in
      let g = length-append (names_of P.algorithm.globals) (local_names (us ++ ms)) in
      let h = ap (λ (xs : List Name). length xs) (flat_map-append (λ (u : Routine). names_of (locals u)) us ms) ∙ length-append (local_names us) (local_names ms) in
      let i = all_count us in
      let j = all_count ms in
      omega arith

  pub vars_few : length (variable_names P.algorithm) ≤ most_variables → length (vars P) ≤ most
  vars_few h = (let k = vars_count in omega (arith, h, k))
