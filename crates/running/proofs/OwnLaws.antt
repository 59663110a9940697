-- The variables that each process has for itself are variables of the translation.
use Rattle.std.proofs.Common.{◌≡◌, List, ◌∷◌, ◌++◌, Bool, true, false, ◌&&◌, bytes_eq, refl}
use Rattle.std.proofs.lemmas.Bool.{or_right}
use Rattle.tla_token.specs.Signs.{is_among}
use Rattle.tla_tree.specs.Tree.{Word}
use Rattle.pcal_tree.specs.Algorithm.{procedure_routines, main_routines}
use Rattle.pcal_tree.specs.Program.{Program}
use Rattle.pcal_tree.specs.Variables.{pc, stack_for, declared, written_by_all, vars}
use Rattle.action_builder.specs.OwnVariables.{own_variables, is_own_variable}
use Rattle.action_builder.proofs.Names.{each_name}
use Rattle.translation.proofs.RoutinesNamed.{among_later, among_before}
use Rattle.translation.proofs.VariableNames.{each_from, one_is_among, own_each, local_among}

module _ (P : Program) where
  abbrev first : List Word
  first = pc ∷ stack_for (procedure_routines P.algorithm)

  first_among : (x : Word) → is_among first x ≡ true → is_among (vars P) x ≡ true
  first_among x e =
      let us = procedure_routines P.algorithm in
      let globals = declared P.algorithm.globals in
      among_before ((globals ++ first) ++ written_by_all P us) (written_by_all P (main_routines P.algorithm P.algorithm.main)) x
      (among_before (globals ++ first) (written_by_all P us) x (among_later globals first x e))

  own_there : (x : Word) → is_own_variable P x ≡ true → is_among (vars P) x ≡ true
  own_there x e =
      each_name (λ y. is_among (vars P) y ≡ true) (own_variables P)
      (own_each P (λ y. is_among (vars P) y ≡ true) (first_among pc refl) (each_from (λ y. is_among (vars P) y ≡ true) stacks (λ y k. first_among y (or_right (bytes_eq pc y) (is_among stacks y) (one_is_among stacks y k))))
      (λ u k s y m. local_among P u y k m)) x e
    where
      stacks : List Word
      stacks = stack_for (procedure_routines P.algorithm)

  pub own_among : (x : Word) → (is_own_variable P x && is_among (vars P) x) ≡ is_own_variable P x
  own_among x = by (is_own_variable P x) refl
    where
      by : (b : Bool) → is_own_variable P x ≡ b → (b && is_among (vars P) x) ≡ b
      by true e = own_there x e
      by false e = refl
