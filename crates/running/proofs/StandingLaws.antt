-- What a program stands on, once the pool has grown.
use Rattle.std.proofs.Common.{◌≡◌, ◌≤◌, List, length, refl, sym, ap, subst, ◌∙◌}
use Rattle.tla_tree.specs.Tree.{Word, Tree}
use Rattle.tla_tree.specs.Pool.{Keeps}
use Rattle.tla_value.specs.Limits.{bounded}
use Rattle.tla_value.specs.Outside.{Outside}
use Rattle.tla_value.specs.States.{Entries}
use Rattle.pcal_tree.specs.Algorithm.{Algorithm}
use Rattle.pcal_tree.specs.InMemory.{algorithm_at, past_algorithm}
use Rattle.pcal_tree.specs.Program.{Program}
use Rattle.pcal_tree.specs.Variables.{vars}
use Rattle.pcal_tree.proofs.InMemoryGrown.{algorithm_at-kept}
use Rattle.name_bits.specs.NamesIn.{most, AllApart}
use Rattle.written_names.specs.Units.{naming_of}
use Rattle.action_builder.specs.WrittenNames.{with_names}
use Rattle.translation.specs.laws.AcceptedAlgorithm.{IsAcceptedInFile}
use Rattle.step_moves.specs.declared.program.Program as code
use Rattle.step_moves.specs.Programs.{program_at}
use Rattle.step_runner.specs.Config.{constants_of}
use Rattle.running.specs.declared.made.Grounds.{Grounds}
use Rattle.running.specs.GroundsOf.{AreGrounds}
use Rattle.running.specs.ProgramsOf.{IsProgramOf}
use Rattle.running.proofs.ProgramLaws.{same_program, vars_same, program_apart}

pub program_variables : (p : code.Program) (o : Outside) (g : Algorithm) (es : Entries) → IsProgramOf p o g es → vars (program_at p) ≡ vars (with_names o g)
program_variables p o g es is = ap vars (same_program p o g es is) ∙ vars_same o g bounded (constants_of es)

-- on what was made of it while the pool grew
pub grounds_stand : (p : code.Program) (o : Outside) (g : Algorithm) (es : Entries) (ts : List Tree) (k : Grounds)
    → IsProgramOf p o g es → IsAcceptedInFile o g → past_algorithm p.algorithm.now ≤ length ts → Keeps ts p.pool.now → length (vars (with_names o g)) ≤ most
    → ((P : Program) → algorithm_at ts p.algorithm.now ≡ P.algorithm → naming_of p.naming.now ≡ P.naming → AllApart (vars P) → length (vars P) ≤ most → AreGrounds p.pool.now k P)
    → AreGrounds p.pool.now k (program_at p)
grounds_stand p o g es ts k is accepted past kept few made =
    made (program_at p) (sym (algorithm_at-kept ts p.pool.now kept p.algorithm.now past)) refl (program_apart p o g es is accepted)
    (subst (λ (vs : List Word). length vs ≤ most) (sym (program_variables p o g es is)) few)
