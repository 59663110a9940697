-- What is explained in memory is the trace of the program that was read.
use Rattle.std.proofs.Common.{◌≡◌, ◌≤◌, List, length, map, take, Result, Ok, Err, IfOk, sym, ap, subst, ◌∙◌}
use Rattle.std.specs.List.{AllByRecursion}
use Rattle.tla_tree.specs.Tree.{Tree, Word}
use Rattle.tla_value.specs.Defs.{definitions_at}
use Rattle.tla_value.specs.Limits.{bounded}
use Rattle.tla_value.specs.Outside.{found}
use Rattle.tla_value.specs.States.{Entries, value_of}
use Rattle.pcal_tree.specs.InMemory.{algorithm_at, past_algorithm}
use Rattle.pcal_tree.specs.Variables.{vars}
use Rattle.written_names.specs.Units.{naming_of}
use Rattle.module_outside.specs.declared.definition.ReadDefinition.{ReadDefinition}
use Rattle.module_outside.specs.FoundAt.{AreHeld}
use Rattle.module_outside.specs.OutsideAt.{definition_seen}
use Rattle.module_outside.specs.WholeAt.{outside_at}
use Rattle.module_tree.specs.Module.{Module}
use Rattle.checking.specs.declared.check.Checked.{Checked}
use Rattle.step_moves.specs.declared.program.Program as code
use Rattle.step_moves.specs.Programs.{program_at, IsWhole}
use Rattle.step_runner.specs.Config.{constants_of}
use Rattle.step_runner.specs.Explained.{state_of, explained}
use Rattle.step_runner.specs.Shown.{trace_text}
use Rattle.step_moves.specs.StatesOf.{HasJust}
use Rattle.running.specs.declared.made.Grounds.{Grounds}
use Rattle.running.specs.GroundsOf.{AreGrounds}
use Rattle.running.specs.ProgramsOf.{IsProgramOf}
use Rattle.running.proofs.ProgramLaws.{vars_same, same_program}
use Rattle.running.specs.Ready.{CanRun, program_read}
use Rattle.running.proofs.FollowLaws.{can_follow}
use Rattle.written_traces.specs.WrittenTraces.{explained_once}
use Rattle.written_traces.proofs.TraceLaws.{explained_same}
use Rattle.explained_traces.specs.declared.explaining.Explained.{Explained}
use Rattle.explained_traces.specs.Halts.{halt_of}
use Rattle.action_truth.specs.declared.asked.Asked.{Asked}
use Rattle.action_truth.specs.AskedOf.{IsAsked}
use Rattle.tracing.specs.declared.translated.Translation.{Translation}
use Rattle.tracing.specs.Beside.{variables_read}
use Rattle.tracing.specs.Explained.{IsExplained, IsExplainedOnce, CanExplain}
use Rattle.tracing.specs.Translated.{StandsFor}

-- ---- from a program in memory

-- as the code answers, of a stage whose program is p
pub once_told : {E : Type 0} (p q : code.Program) → q ≡ p → (t : Translation) (trace : List Entries) (r : Result Explained E) (a : Asked)
    → IfOk r (λ e. (m : Module) → IsAsked a m → e.text.items ≡ trace_text (program_at q) m (value_of a.constants.now) (explained_once (program_at q) m (value_of a.constants.now) (map state_of trace)).states)
    → IfOk r (λ e. (m : Module) → IsAsked a m → halt_of e.halt ≡ (explained_once (program_at q) m (value_of a.constants.now) (map state_of trace)).halt)
    → a.constants.now ≡ p.constants.now → ((m : Module) → StandsFor t m → IsAsked a m) → IfOk r (λ e. (m : Module) → StandsFor t m → IsExplainedOnce p m trace e)
once_told p q e t trace (Ok s) a text halt k asked = λ m h. record {
  text = text m (asked m h) ∙ (λ i. trace_text (program_at (e i)) m (value_of (k i)) (explained_once (program_at (e i)) m (value_of (k i)) (map state_of trace)).states);
  halt = halt m (asked m h) ∙ (λ i. (explained_once (program_at (e i)) m (value_of (k i)) (map state_of trace)).halt);
}
once_told p q e t trace (Err x) a text halt k asked = tt

-- ---- an algorithm in memory

module _ (ts : List Tree) (c : Checked) (h : CanRun ts c) (es : Entries) where
  -- the program p stands for it
  module _ (p : code.Program) (pool : p.pool.now ≡ ts) (algorithm : p.algorithm.now ≡ c.algorithm) (names : p.naming.now ≡ c.naming) (ds : List ReadDefinition) (there : ds ≡ c.outside.definitions.items)
      (outside : (us : List Tree) → definitions_at us (take (length ds) p.defs.now) ≡ found (map (definition_seen us) ds)) (many : p.outside ≡ length ds) (constants : value_of p.constants.now ≡ constants_of es) where
    is_program : IsProgramOf p (outside_at ts c.outside) (algorithm_at ts c.algorithm) es
    is_program = record {
      algorithm = λ i. algorithm_at (pool i) (algorithm i);
      naming = ap naming_of names ∙ h.names;
      outside =
          (λ i. definitions_at (pool i) (take (many i) p.defs.now)) ∙ outside ts
          ∙ ap (λ (es : List ReadDefinition). found (map (definition_seen ts) es)) there;
      constants = constants;
    }

    is_read : program_at p ≡ program_read ts c es
    is_read = same_program p (outside_at ts c.outside) (algorithm_at ts c.algorithm) es is_program

    pub can_explain : (k : Grounds) → AreGrounds ts k (program_read ts c es) → (past_algorithm c.algorithm ≤ length p.pool.now → AreHeld (length p.pool.now) ds → IsWhole p)
        → (trace : List Entries) → AllByRecursion (HasJust (variables_read ts c)) trace → CanExplain p k trace
    can_explain k made whole trace states = record {
      follow = can_follow ts c h es p pool algorithm names ds there outside many constants k made whole;
      states = subst (λ (vs : List Word). AllByRecursion (HasJust vs) trace)
          (sym (ap vars is_read ∙ vars_same (outside_at ts c.outside) (algorithm_at ts c.algorithm) bounded (constants_of es))) states;
    }

    is_explained : (m : Module) (trace : List Entries) (e : Explained) → IsExplainedOnce p m trace e → IsExplained (program_read ts c es) m trace e
    is_explained m trace e o =
        let P = program_read ts c es in
        let same : explained_once (program_at p) m (program_at p).constants (map state_of trace) ≡ explained P m P.constants (map state_of trace) =
        (λ i. explained_once (is_read i) m (is_read i).constants (map state_of trace))
        ∙ explained_same bounded (outside_at ts c.outside) (algorithm_at ts c.algorithm) h.accepted (constants_of es) m (constants_of es) (map state_of trace) in
        record {
          text = o.text ∙ (λ i. trace_text (is_read i) m (is_read i).constants (same i).states);
          halt = o.halt ∙ (λ i. (same i).halt);
        }

    -- as the code answers, of a list that is the trace
    pub explained_told : {E : Type 0} (t : Translation) (trace list : List Entries) → list ≡ trace → (r : Result Explained E) → IfOk r (λ e. (m : Module) → StandsFor t m → IsExplainedOnce p m list e)
        → IfOk r (λ e. (m : Module) → StandsFor t m → IsExplained (program_read ts c es) m trace e)
    explained_told t trace list same (Ok e) o = λ m k. is_explained m trace e (subst (λ (l : List Entries). IsExplainedOnce p m l e) same (o m k))
    explained_told t trace list same (Err x) o = tt
