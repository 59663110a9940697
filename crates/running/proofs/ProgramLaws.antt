-- What a program in memory is a run of, and what is asked of an algorithm before a run.
use Rattle.std.proofs.Common.{◌≡◌, List, [], ◌∷◌, ◌++◌, refl, sym, ap, subst}
use Rattle.std.specs.List.{AllByRecursion}
use Rattle.tla_tree.specs.Tree.{Word}
use Rattle.tla_value.specs.Definitions.{Valuation}
use Rattle.tla_value.specs.Limits.{bounded}
use Rattle.tla_value.specs.Outside.{Outside}
use Rattle.tla_value.specs.States.{Entries}
use Rattle.tla_value.specs.Stops.{Check}
use Rattle.pcal_tree.specs.Algorithm.{locals, Procedure, Routine, procedure_routines, main_routines, Algorithm}
use Rattle.pcal_tree.specs.Program.{Program}
use Rattle.pcal_tree.specs.Programs.{program_in}
use Rattle.pcal_tree.specs.Variables.{declared, pc, stack_for, written_all, written_by_all, vars}
use Rattle.name_bits.specs.NamesIn.{AllApart}
use Rattle.action_builder.specs.WrittenNames.{with_names}
use Rattle.step_forms.specs.Opened.{IsOpenable}
use Rattle.translation.specs.laws.AcceptedAlgorithm.{IsAcceptedInFile}
use Rattle.translation.proofs.NamesApart.{writable}
use Rattle.build_premises.proofs.VariablesApart.{variables_apart}
use Rattle.step_moves.specs.Prepared.{IsLabelled}
use Rattle.running.proofs.LabelLaws.{procedures_begin_labelled}
use Rattle.written_runs.proofs.OwnSpotLaws.{accepted_opens}
use Rattle.step_moves.specs.declared.program.Program as code
use Rattle.step_moves.specs.Programs.{program_at}
use Rattle.step_runner.specs.Config.{constants_of}
use Rattle.running.specs.ProgramsOf.{IsProgramOf}

-- variables are the same under any limits and with any values of the constants
module _ (o : Outside) (g : Algorithm) (c : Check) (values : Valuation) where
  abbrev P : Program
  P = program_in c o g values

  written_same : (us : List Routine) → written_by_all P us ≡ written_by_all (with_names o g) us
  written_same [] = refl
  written_same (u ∷ us) = ap (λ (l : List Word). written_all P u (locals u) ++ l) (written_same us)

  pub vars_same : vars P ≡ vars (with_names o g)
  vars_same = λ j.
      declared g.globals ++ (pc ∷ stack_for (procedure_routines g)) ++ written_same (procedure_routines g) j ++ written_same (main_routines g g.main) j

module _ (o : Outside) (g : Algorithm) (h : IsAcceptedInFile o g) where
  pub accepted_labelled : AllByRecursion (λ (p : Procedure). IsLabelled p.body) g.procedures
  accepted_labelled = procedures_begin_labelled g h.accepted.labels

  pub accepted_apart : (c : Check) (values : Valuation) → AllApart (vars (program_in c o g values))
  accepted_apart c values = subst AllApart (sym (vars_same o g c values)) (variables_apart o g (writable o g h) h.accepted.names)

module _ (p : code.Program) (o : Outside) (g : Algorithm) (es : Entries) (is : IsProgramOf p o g es) where
  pub same_program : program_at p ≡ program_in bounded o g (constants_of es)
  same_program = λ j. record {
    check = bounded;
    constants = is.constants j;
    outside = is.outside j;
    algorithm = is.algorithm j;
    naming = is.naming j;
  }

  pub program_opens : IsAcceptedInFile o g → IsOpenable (program_at p).algorithm
  program_opens h = subst IsOpenable (sym is.algorithm) (accepted_opens o g h)

  pub program_apart : IsAcceptedInFile o g → AllApart (vars (program_at p))
  program_apart h = subst (λ (P : Program). AllApart (vars P)) (sym same_program) (accepted_apart o g h bounded (constants_of es))
