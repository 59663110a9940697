-- What is asked of an algorithm, its macro calls written out, is had of an accepted one.
use Rattle.std.proofs.Common.{◌≤◌, [], ◌∷◌, length}
use Rattle.tla_value.specs.Outside.{Outside}
use Rattle.pcal_tree.specs.Algorithm.{Statements, Main, alone, processes, Algorithm}
use Rattle.pcal_tree.specs.Variables.{vars}
use Rattle.macro_expand.specs.Size.{expanded_main}
use Rattle.name_bits.specs.NamesIn.{most, AllApart}
use Rattle.action_builder.specs.WrittenNames.{with_names}
use Rattle.step_forms.specs.Opened.{opened, opened_program}
use Rattle.translation.specs.laws.AcceptedAlgorithm.{IsAcceptedInFile}
use Rattle.translation.specs.laws.WritableAlgorithm.{IsWritableMain, IsWritableAlgorithm}
use Rattle.translation.proofs.NamesApart.{writable}
use Rattle.build_premises.proofs.OpenedSteps.{opened_variables, opened_few, opened_locals, opened_procedures}
use Rattle.build_premises.proofs.OpenedParts.{step_fits}
use Rattle.module_formulas.specs.TakersIn.{Runs}
use Rattle.label_actions.specs.Fitting.{IsActable}

runs_of : (f : Statements → Statements) (m : Main) → IsWritableMain m → Runs (expanded_main f m)
runs_of f (alone ss) h = tt
runs_of f (processes []) h = absurd h
runs_of f (processes (p ∷ ps)) h = tt

module _ (o : Outside) (g : Algorithm) (h : IsAcceptedInFile o g) where
  can_write : IsWritableAlgorithm o g
  can_write = writable o g h

  pub variables_apart : AllApart (vars (opened_program (with_names o g)))
  variables_apart = opened_variables o g can_write h.accepted.names

  pub something_runs : Runs (opened g).main
  something_runs = runs_of _ g.main can_write.main

  pub actable : length (vars (with_names o g)) ≤ most → IsActable (opened_program (with_names o g))
  actable few = record {
    few = opened_few (with_names o g) few;
    locals = opened_locals o g can_write;
    procedures = opened_procedures o g h.accepted.names;
    steps = λ u there s k. let f = step_fits o g h u there s k in record { plain = record { settled = f.settled; parts = f.parts }; fresh = f.fresh };
  }
