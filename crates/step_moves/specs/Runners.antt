-- A process in memory that runs, and the one that it stands for.
use Rattle.std.specs.Prelude.{◌≡◌, ◌≤◌, ◌++◌, List, [], true, map, length, Option, Some, None}
use Rattle.std.specs.List.{AllByRecursion}
use Rattle.std.specs.Option.{option_copied}
use Rattle.tla_token.specs.Signs.{is_among}
use Rattle.tla_tree.specs.Tree.{Word, Each}
use Rattle.tla_tree.specs.Nesting.{greatest}
use Rattle.tla_value.specs.declared.fault.FaultKind.{FaultKind}
use Rattle.tla_value.specs.declared.fault.FaultKind.TheVariants.{NotFunction, NotSequence}
use Rattle.tla_value.specs.Value.{Value}
use Rattle.module_tree.specs.Formulas.{self}
use Rattle.pcal_tree.specs.declared.algorithm.Declaration.{Declaration}
use Rattle.pcal_tree.specs.Algorithm.{Procedure, Routine, locals}
use Rattle.pcal_tree.specs.InMemory.{span_of, procedure_at, past_procedure, past_declarations}
use Rattle.pcal_tree.specs.Run as pure
use Rattle.pcal_tree.specs.Program.{Actor}
use Rattle.pcal_tree.specs.Variables.{pc, stack, declared, vars}
use Rattle.action_builder.specs.laws.WrittenScope.{written_scope}
use Rattle.written_names.specs.Units.{naming_of}
use Rattle.step_spots.specs.declared.routine.Routine as spots
use Rattle.step_moves.specs.declared.program.Program as code
use Rattle.step_moves.specs.Programs.{program_at}
use Rattle.step_moves.specs.declared.values.Bound.{Bound}
use Rattle.step_moves.specs.ScopeIn.{scope_in}
use Rattle.step_moves.specs.declared.runner.Runner.{Runner}
use Rattle.step_moves.specs.declared.runner.Partner.{Partner}
use Rattle.step_moves.specs.declared.runner.Partner.TheVariants as partner
use Rattle.step_moves.specs.Prepared.{prepared_procedures, IsLabelled}

abbrev pub partner_of : Partner → pure.Partner
partner_of partner.None = pure.no_partner
partner_of (partner.Goto l) = pure.goto_partner l.now
partner_of (partner.Return at) = pure.return_partner (span_of at)

abbrev pub names_of : List Declaration → List Word
names_of ds = map (λ (d : Declaration). d.name.word) ds

-- the written names of the parameters and variables of a routine
abbrev pub written_names : code.Program → spots.Routine → List Word
written_names p u = map ((naming_of p.naming.now).local u.number) (names_of u.params.now ++ names_of u.variables.now)

-- what is so of a process's parts whatever it stands for: its names are these, its procedures are the prepared ones, and the variables of what it is in are
-- variables of the translation
pub record IsReady (r : Runner) : Type 0 where
  pub pc_is : r.pc.now ≡ pc
  pub stack_is : r.stack.now ≡ stack
  pub self_is : r.this.now ≡ self
  pub procedures : map (procedure_at r.program.pool.now) r.procedures.now ≡ prepared_procedures (program_at r.program)
  pub within : greatest (map past_procedure r.procedures.now) ≤ length r.program.pool.now
  pub labelled : AllByRecursion (λ (p : Procedure). IsLabelled p.body) (program_at r.program).algorithm.procedures
  pub variables : Each (λ x. is_among (vars (program_at r.program)) x ≡ true) (written_names r.program r.routine)

-- it stands for process v in the routine u
pub record IsRunner (r : Runner) (v : Actor) (u : Routine) : Type 0 where
  pub identifier : v.self ≡ option_copied r.identifier
  pub place : v.own.name.place ≡ r.place
  pub number : u.number ≡ r.routine.number
  pub spread : u.spread ≡ r.routine.spread
  pub names : declared (locals u) ≡ names_of r.routine.params.now ++ names_of r.routine.variables.now

-- the variables of a procedure that may be called are variables of the translation
pub record IsCallee (r : Runner) (c : spots.Routine) : Type 0 where
  pub within : past_declarations c.variables.now ≤ length r.program.pool.now
  pub variables : Each (λ x. is_among (vars (program_at r.program)) x ≡ true) (written_names r.program c)

-- with these names bound, expressions are as in the written module
abbrev pub Binds : Runner → Actor → Bound → Type 0
Binds r v b = scope_in (program_at r.program) b.names.items b.values.items ≡ written_scope (program_at r.program) [] v

-- what is wrong with a stack that isn't there: it is no function of identifiers, and no sequence
abbrev pub fault_without : Option Value → FaultKind
fault_without (Some v) = NotFunction
fault_without None = NotSequence
