-- A whole start from its parts, where they go through, and where one pauses.
use Rattle.std.proofs.Common.{◌≡◌, ℕ, List, [], Ok, Err, Result, sym, ap, subst, ◌∙◌}
use Rattle.std.specs.Result.{IsErr, IsErrAnd}
use Rattle.pcal_tree.specs.Algorithm.{procedure_routines, main_routines}
use Rattle.pcal_tree.specs.InitialChoice.{nothing}
use Rattle.pcal_tree.specs.Program.{Program, Actor}
use Rattle.pcal_tree.specs.Scope.{State}
use Rattle.step_walks.specs.FirstValues.{as_written}
use Rattle.step_walks.specs.Flows.{Flow, falls, onward}
use Rattle.step_walks.specs.StartFlows.{globals_flow, procedures_flow, processes_flow, ready, parts_flow}
use Rattle.step_choices.specs.declared.pause.Pause.{Pause}
use Rattle.step_choices.specs.Pauses.{Pauses}
use Rattle.step_meaning.specs.declared.origin.Start.{Start}
use Rattle.step_meaning.specs.Origins.{Starts}
use Rattle.step_meaning.proofs.FlowLaws.{through, pauses_onward, pauses_is}

pub start_paused : (r : Result Start Pause) (q : Pause) (ns : List ℕ) (f : Flow State) → IsErr r × IsErrAnd r (λ e. e ≡ q) → Pauses q f → Starts r ns f
start_paused (Ok x) q ns f h k = cc
start_paused (Err e) q ns f h k = subst (λ p. Pauses p f) (sym h.1) k

module _ (P : Program) (vs : List Actor) (ns : List ℕ) where
  abbrev pub globals_part : State → List ℕ → Flow State
  globals_part s ms = globals_flow (as_written P []) P.algorithm.globals s ms

  abbrev pub procedures_part : State → List ℕ → Flow State
  procedures_part s ms = procedures_flow (as_written P []) P vs (procedure_routines P.algorithm) s ms

  abbrev pub processes_part : State → List ℕ → Flow State
  processes_part s ms = processes_flow (as_written P []) P vs (main_routines P.algorithm P.algorithm.main) s ms

  abbrev last : State → List ℕ → Flow State
  last s ms = onward (processes_part s ms) (λ u ks. falls (ready P vs u) ks)

  abbrev after_globals : State → List ℕ → Flow State
  after_globals s ms = onward (procedures_part s ms) last

  abbrev whole : Flow State
  whole = parts_flow (as_written P []) P ns vs

  module _ (s0 : State) (begun : s0 ≡ nothing) where
    from_nothing : whole ≡ onward (globals_part s0 ns) after_globals
    from_nothing = ap (λ (s : State). onward (globals_part s ns) after_globals) (sym begun)

    pub globals_stop : (q : Pause) → Pauses q (globals_part s0 ns) → Pauses q whole
    globals_stop q h = pauses_is q (onward (globals_part s0 ns) after_globals) whole (sym from_nothing) (pauses_onward q (globals_part s0 ns) after_globals h)

    module _ (s1 : State) (n1 : List ℕ) (e1 : globals_part s0 ns ≡ falls s1 n1) where
      to_procedures : whole ≡ after_globals s1 n1
      to_procedures = from_nothing ∙ through (globals_part s0 ns) s1 n1 after_globals e1

      pub procedures_stop : (q : Pause) → Pauses q (procedures_part s1 n1) → Pauses q whole
      procedures_stop q h = pauses_is q (after_globals s1 n1) whole (sym to_procedures) (pauses_onward q (procedures_part s1 n1) last h)

      module _ (s2 : State) (n2 : List ℕ) (e2 : procedures_part s1 n1 ≡ falls s2 n2) where
        to_processes : whole ≡ last s2 n2
        to_processes = to_procedures ∙ through (procedures_part s1 n1) s2 n2 last e2

        pub processes_stop : (q : Pause) → Pauses q (processes_part s2 n2) → Pauses q whole
        processes_stop q h = pauses_is q (last s2 n2) whole (sym to_processes) (pauses_onward q (processes_part s2 n2) (λ u ks. falls (ready P vs u) ks) h)

        pub all_parts : (s3 s4 : State) (n3 : List ℕ) → processes_part s2 n2 ≡ falls s3 n3 → s4 ≡ ready P vs s3 → whole ≡ falls s4 n3
        all_parts s3 s4 n3 e3 e4 = to_processes ∙ through (processes_part s2 n2) s3 n3 (λ u ks. falls (ready P vs u) ks) e3 ∙ ap (λ (s : State). falls s n3) (sym e4)
