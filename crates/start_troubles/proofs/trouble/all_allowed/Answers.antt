-- Proves what the parts ask, and that the first value that isn't allowed decides, or the first stop.
use Rattle.std.proofs.Common.{◌≡◌, Bool, true, Ok, List, length, map, sym, ap, ◌∙◌}
use Rattle.tla_value.specs.Value.{and_then}
use Rattle.pcal_tree.specs.declared.algorithm.Declaration.{Declaration}
use Rattle.pcal_tree.specs.declared.algorithm.Procedure.{Procedure}
use Rattle.pcal_tree.specs.Algorithm.{first_procedure, procedure_routine, procedure_routines, main_routines, numbered}
use Rattle.pcal_tree.specs.InMemory.{declarations_at, procedure_at}
use Rattle.step_moves.specs.InMemory.{actor_at}
use Rattle.value_forms.proofs.StopLaws.{tells_err}
use Rattle.step_moves.specs.Programs.{program_at}
use Rattle.step_moves.specs.StatesOf.{state_of}
use Rattle.step_moves.specs.Prepared.{prepared_procedure}
use Rattle.step_meaning.proofs.ActorLaws.{actors_ascend}
use Rattle.step_meaning.proofs.RoutineLaws.{numbered_many}
use Rattle.written_traces.specs.AskedStarts.{as_written, globals_asked, procedures_asked, processes_asked}
use Rattle.start_troubles.proofs.AskedLaws.{and_stops, and_not, and_tells, stops_is, stops_later}
use Rattle.start_troubles.proofs.trouble.all_allowed.Goals as goal

pub procedures_allowed-requires-clause-many : goal.procedures_allowed-requires-clause-many
procedures_allowed-requires-clause-many c =
    let p = c.args.origin.now.program in
    numbered_many (procedure_at p.pool.now) (prepared_procedure (program_at p)) (procedure_at p.pool.now) (first_procedure (program_at p).algorithm) c.args.origin.now.procedures.now p.algorithm.now.procedures.items c.requires.origin.procedures
    ∙ ap (λ (l : List Procedure). length l) (sym c.deref-2.ensures.value)

pub procedures_allowed-requires-clause-ascending : goal.procedures_allowed-requires-clause-ascending
procedures_allowed-requires-clause-ascending c =
    let p = c.args.origin.now.program in actors_ascend (program_at p) (program_at p).algorithm.main (map (actor_at p.pool.now) c.args.actors.now) c.requires.actors

pub processes_allowed-requires-clause-ascending : goal.processes_allowed-requires-clause-ascending
processes_allowed-requires-clause-ascending c =
    let p = c.args.origin.now.program in actors_ascend (program_at p) (program_at p).algorithm.main (map (actor_at p.pool.now) c.args.actors.now) c.requires.actors

pub returns-in_err-globals : goal.returns-in_err-globals
returns-in_err-globals c =
    let p = c.args.origin.now.program in
    let P = program_at p in
    let M = as_written P in
    let vs = map (actor_at p.pool.now) c.args.actors.now in
    let s = state_of c.args.state.now in
    let G = globals_asked M P.algorithm.globals s in
    let rest = and_then (procedures_asked M P vs (procedure_routines P.algorithm) s) (processes_asked M P vs (main_routines P.algorithm P.algorithm.main) s) in
    let here = ap (λ (l : List Declaration). globals_asked M (declarations_at p.pool.now l) s) c.deref.ensures.value in
    let k = c.in_err-globals.field-0.0 in
    tells_err c.from_residual.result k (and_then G rest) c.from_residual.ensures (and_stops k G rest (stops_is k _ G here c.in_err-globals.ensures))

pub returns-then-not-globals : goal.returns-then-not-globals
returns-then-not-globals c =
    let p = c.args.origin.now.program in
    let P = program_at p in
    let M = as_written P in
    let vs = map (actor_at p.pool.now) c.args.actors.now in
    let s = state_of c.args.state.now in
    let G = globals_asked M P.algorithm.globals s in
    let rest = and_then (procedures_asked M P vs (procedure_routines P.algorithm) s) (processes_asked M P vs (main_routines P.algorithm P.algorithm.main) s) in
    let here = ap (λ (l : List Declaration). globals_asked M (declarations_at p.pool.now l) s) c.deref.ensures.value in
    and_not G rest (sym here ∙ c.in_ok-globals.ensures ∙ ap (λ (b : Bool). Ok b) c.if-not-globals.true)

pub returns-in_err-procedures : goal.returns-in_err-procedures
returns-in_err-procedures c =
    let p = c.args.origin.now.program in
    let P = program_at p in
    let M = as_written P in
    let vs = map (actor_at p.pool.now) c.args.actors.now in
    let s = state_of c.args.state.now in
    let G = globals_asked M P.algorithm.globals s in
    let A = procedures_asked M P vs (procedure_routines P.algorithm) s in
    let B = processes_asked M P vs (main_routines P.algorithm P.algorithm.main) s in
    let first : G ≡ Ok true = sym (ap (λ (l : List Declaration). globals_asked M (declarations_at p.pool.now l) s) c.deref.ensures.value) ∙ c.in_ok-globals.ensures ∙ ap (λ (b : Bool). Ok b) c.if-not-globals.false in
    let here = ap (λ (l : List Procedure). procedures_asked M P vs (numbered procedure_routine (first_procedure P.algorithm) (map (procedure_at p.pool.now) l)) s) c.deref-2.ensures.value in
    let k = c.in_err-procedures.field-0.0 in
    tells_err c.from_residual-in_err-procedures.result k (and_then G (and_then A B)) c.from_residual-in_err-procedures.ensures (stops_later k G (and_then A B) first (and_stops k A B (stops_is k _ A here c.in_err-procedures.ensures)))

pub returns-then-not-procedures : goal.returns-then-not-procedures
returns-then-not-procedures c =
    let p = c.args.origin.now.program in
    let P = program_at p in
    let M = as_written P in
    let vs = map (actor_at p.pool.now) c.args.actors.now in
    let s = state_of c.args.state.now in
    let G = globals_asked M P.algorithm.globals s in
    let A = procedures_asked M P vs (procedure_routines P.algorithm) s in
    let B = processes_asked M P vs (main_routines P.algorithm P.algorithm.main) s in
    let first : G ≡ Ok true = sym (ap (λ (l : List Declaration). globals_asked M (declarations_at p.pool.now l) s) c.deref.ensures.value) ∙ c.in_ok-globals.ensures ∙ ap (λ (b : Bool). Ok b) c.if-not-globals.false in
    let here = ap (λ (l : List Procedure). procedures_asked M P vs (numbered procedure_routine (first_procedure P.algorithm) (map (procedure_at p.pool.now) l)) s) c.deref-2.ensures.value in
    ap (λ w. and_then w (and_then A B)) first ∙ and_not A B (sym here ∙ c.in_ok-procedures.ensures ∙ ap (λ (b : Bool). Ok b) c.if-not-procedures.true)

pub returns : goal.returns
returns c =
    let p = c.args.origin.now.program in
    let P = program_at p in
    let M = as_written P in
    let vs = map (actor_at p.pool.now) c.args.actors.now in
    let s = state_of c.args.state.now in
    let G = globals_asked M P.algorithm.globals s in
    let A = procedures_asked M P vs (procedure_routines P.algorithm) s in
    let B = processes_asked M P vs (main_routines P.algorithm P.algorithm.main) s in
    let first : G ≡ Ok true = sym (ap (λ (l : List Declaration). globals_asked M (declarations_at p.pool.now l) s) c.deref.ensures.value) ∙ c.in_ok-globals.ensures ∙ ap (λ (b : Bool). Ok b) c.if-not-globals.false in
    let here = ap (λ (l : List Procedure). procedures_asked M P vs (numbered procedure_routine (first_procedure P.algorithm) (map (procedure_at p.pool.now) l)) s) c.deref-2.ensures.value in
    and_tells c.processes_allowed.result G (and_then A B) first (and_tells c.processes_allowed.result A B (sym here ∙ c.in_ok-procedures.ensures ∙ ap (λ (b : Bool). Ok b) c.if-not-procedures.false) c.processes_allowed.ensures)
