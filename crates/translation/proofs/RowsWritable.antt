-- An algorithm that can be written; and statements that can't.
use Rattle.std.proofs.Common.{[], ◌∷◌, Bool, true, false, codes, refl, inl, inr, sym, subst, arith}
use Rattle.module_tree.specs.Formulas.{named}
use Rattle.module_tree.specs.laws.WritableRegion.{IsRegion}
use Rattle.tla_tree.specs.Tree.{Word, no_trees}
use Rattle.pcal_tree.specs.Algorithm.{done, either, call, no_branches, Statements, alone_routine, Routine, Algorithm}
use Rattle.pcal_tree.specs.Processes.{OneOf}
use Rattle.action_builder.specs.WrittenNames.{with_names}
use Rattle.translation.specs.Region.{region_of}
use Rattle.translation.specs.laws.WritableAlgorithm.{IsWritableStatement, IsWritableRoutine, IsWritableAlgorithm}
use Rattle.translation.specs.laws.TypedAlgorithm.{IsTypedStatement, IsTypedBody, IsTypedAlgorithm}
use Rattle.translation.proofs.Trees.{word, x, y, num, sets, both, just, labelled, zero_of, one_body, integers}
use Rattle.translation.proofs.WritableRegions.{region_writable}

-- variable x = 0; L: x := 1
abbrev body : Statements
body = labelled (codes "L") (just (sets x (num 1)))

abbrev sample : Algorithm
sample = one_body (zero_of x ∷ []) body

routine_can : IsWritableRoutine sample (alone_routine sample body)
routine_can = record {
  name = ((refl, refl), refl);
  locals = tt;
  once = tt;
  labelled = tt;
  body = (((refl, refl), refl), (((((refl, (((refl, refl), refl), tt), tt, tt, tt), (x, refl, refl)), ((omega arith, refl), tt, tt, tt, tt), tt), refl), tt));
}

sample_can : IsWritableAlgorithm integers sample
sample_can = record {
  few = omega arith;
  globals = ((((refl, refl), refl), ((omega arith, refl), tt, tt, tt, tt)), tt);
  definitions = tt;
  main = tt;
  routines = λ u k. by u k;
}
  where
    by : (u : Routine) → OneOf u (alone_routine sample body ∷ []) → IsWritableRoutine sample u
    by u (inl e) = subst (IsWritableRoutine sample) (sym e) routine_can
    by u (inr k) = absurd k

sample_is_region : IsRegion (region_of false (with_names integers sample))
sample_is_region = region_writable false integers sample sample_can

abbrev any : Word → Bool
any w = true

abbrev none : Word → Bool
none w = false

-- without a branch there is no way
no_way : IsWritableStatement any any (either no_branches) → ⊥
no_way h = h

-- x := 1 || x := 2
assigned_twice : IsWritableStatement any any (both (named x) (num 1) (named x) (num 2)) → ⊥
assigned_twice h = (let e = h.1 in cc)

-- x is no variable that may be assigned
no_variable : IsWritableStatement any none (sets x (num 1)) → ⊥
no_variable h = (let e = h.0.0.1.2 in cc)

-- 1 := 1 has no variable
no_left_side : IsWritableStatement any any (both (num 1) (num 1) (named y) (num 2)) → ⊥
no_left_side h = (let e = h.0.0.1.1 in cc)

-- call P() of no procedure
no_procedure : IsWritableStatement none any (call (word (codes "P")) no_trees) → ⊥
no_procedure h = (let e = h.0 in cc)

-- the same algorithm has what its text gives
sample_typed : IsTypedAlgorithm sample
sample_typed = record {
  name = ((refl, refl), refl);
  globals = ((((refl, refl), refl), ((omega arith, refl), tt, tt, tt, tt)), tt);
  definitions = tt;
  macros = tt;
  procedures = tt;
  main = (tt, (((refl, refl), refl), (((refl, (((refl, refl), refl), tt), tt, tt, tt), refl, ((omega arith, refl), tt, tt, tt, tt), tt), tt)));
}

-- 1 := 1 begins with no name, and a body that is empty has no text
not_typed : IsTypedStatement (both (num 1) (num 1) (named y) (num 2)) → ⊥
not_typed h = (let e = h.1 in cc)

no_body : IsTypedBody done → ⊥
no_body h = h.0
