-- What is followed in memory is the run of the program that was read.
use Rattle.std.proofs.Common.{◌≡◌, ◌≤◌, List, length, map, take, Result, Ok, Err, IfOk, sym, ap, subst, ◌∙◌}
use Rattle.tla_tree.specs.Tree.{Tree, Word}
use Rattle.tla_value.specs.Defs.{definitions_at}
use Rattle.tla_value.specs.Limits.{bounded}
use Rattle.tla_value.specs.Outside.{found}
use Rattle.tla_value.specs.States.{Entries, value_of}
use Rattle.pcal_tree.specs.InMemory.{algorithm_at, past_algorithm}
use Rattle.pcal_tree.specs.Variables.{vars}
use Rattle.name_bits.specs.NamesIn.{most, AllApart}
use Rattle.written_names.specs.Units.{naming_of}
use Rattle.module_outside.specs.declared.definition.ReadDefinition.{ReadDefinition}
use Rattle.module_outside.specs.FoundAt.{AreHeld}
use Rattle.module_outside.specs.OutsideAt.{definition_seen}
use Rattle.module_outside.specs.WholeAt.{outside_at}
use Rattle.checking.specs.declared.check.Checked.{Checked}
use Rattle.step_moves.specs.declared.program.Program as code
use Rattle.step_moves.specs.Programs.{program_at, IsWhole}
use Rattle.step_runner.specs.Config.{constants_of}
use Rattle.step_runner.specs.Followed.{followed}
use Rattle.step_runner.specs.Script.{Script}
use Rattle.step_runner.specs.Shown.{run_text}
use Rattle.written_runs.specs.Ways.{by_written_names}
use Rattle.written_runs.specs.WrittenRuns.{followed_once}
use Rattle.written_runs.proofs.OnceRuns.{script_once}
use Rattle.written_runs.proofs.SameRuns.{followed_same, written_as_meant}
use Rattle.followed_runs.specs.Stopping.{stop_of}
use Rattle.followed_runs.specs.declared.following.Followed.{Followed}
use Rattle.running.specs.declared.made.Grounds.{Grounds}
use Rattle.running.specs.GroundsOf.{AreGrounds}
use Rattle.running.specs.ProgramsOf.{IsProgramOf}
use Rattle.running.proofs.ProgramLaws.{vars_same, same_program, program_opens, accepted_apart}
use Rattle.running.specs.Ready.{CanRun, program_read, IsFollowed, CanFollow, IsFollowedOnce}

-- ---- an algorithm in memory

module _ (ts : List Tree) (c : Checked) (h : CanRun ts c) (es : Entries) where
  pub read_apart : AllApart (vars (program_read ts c es))
  read_apart = accepted_apart (outside_at ts c.outside) (algorithm_at ts c.algorithm) h.accepted bounded (constants_of es)

  pub read_few : length (vars (program_read ts c es)) ≤ most
  read_few = subst (λ (vs : List Word). length vs ≤ most) (sym (vars_same (outside_at ts c.outside) (algorithm_at ts c.algorithm) bounded (constants_of es))) h.few

  followed_read : (s : Script) → followed_once (program_read ts c es) s ≡ followed (program_read ts c es) s
  followed_read s =
      let P = program_read ts c es in
      script_once P s ∙ followed_same by_written_names P (written_as_meant bounded (outside_at ts c.outside) (algorithm_at ts c.algorithm) h.accepted (constants_of es)) s

  -- the program p stands for it
  module _ (p : code.Program) (pool : p.pool.now ≡ ts) (algorithm : p.algorithm.now ≡ c.algorithm) (names : p.naming.now ≡ c.naming) (ds : List ReadDefinition) (there : ds ≡ c.outside.definitions.items)
      (outside : (us : List Tree) → definitions_at us (take (length ds) p.defs.now) ≡ found (map (definition_seen us) ds)) (many : p.outside ≡ length ds) (constants : value_of p.constants.now ≡ constants_of es) where
    is_program : IsProgramOf p (outside_at ts c.outside) (algorithm_at ts c.algorithm) es
    is_program = record {
      algorithm = λ i. algorithm_at (pool i) (algorithm i);
      naming = ap naming_of names ∙ h.names;
      outside =
          (λ i. definitions_at (pool i) (take (many i) p.defs.now)) ∙ outside ts
          ∙ ap (λ (es : List ReadDefinition). found (map (definition_seen ts) es)) there;
      constants = constants;
    }

    is_read : program_at p ≡ program_read ts c es
    is_read = same_program p (outside_at ts c.outside) (algorithm_at ts c.algorithm) es is_program

    pub can_follow : (k : Grounds) → AreGrounds ts k (program_read ts c es) → (past_algorithm c.algorithm ≤ length p.pool.now → AreHeld (length p.pool.now) ds → IsWhole p) → CanFollow p k
    can_follow k made whole = record {
      grounds = subst (λ (us : List Tree). AreGrounds us k (program_at p)) (sym pool) (subst (AreGrounds ts k) (sym is_read) made);
      whole = whole (subst (λ (us : List Tree). past_algorithm c.algorithm ≤ length us) (sym pool) h.past)
          (subst (λ (us : List Tree). AreHeld (length us) ds) (sym pool) (subst (AreHeld (length ts)) (sym there) h.held));
      opens = program_opens p (outside_at ts c.outside) (algorithm_at ts c.algorithm) es is_program h.accepted;
    }

    is_followed : (s : Script) (f : Followed) → IsFollowedOnce p s f → IsFollowed (program_read ts c es) s f
    is_followed s f o = record {
      text = o.text ∙ (λ i. run_text (is_read i) s.turns (followed_once (is_read i) s).states) ∙ (λ i. run_text (program_read ts c es) s.turns (followed_read s i).states);
      stop = o.stop ∙ (λ i. (followed_once (is_read i) s).stop) ∙ (λ i. (followed_read s i).stop);
    }

    pub followed_told : {E : Type 0} (s : Script) (r : Result Followed E) → IfOk r (IsFollowedOnce p s) → IfOk r (IsFollowed (program_read ts c es) s)
    followed_told s (Ok f) o = is_followed s f o
    followed_told s (Err e) o = tt

-- ---- as the code answers

pub once_told : {E : Type 0} (p q : code.Program) → q ≡ p → (s : Script) (r : Result Followed E) → IfOk r (λ f. f.text.items ≡ run_text (program_at q) s.turns (followed_once (program_at q) s).states)
    → IfOk r (λ f. stop_of f.stop ≡ (followed_once (program_at q) s).stop) → IfOk r (IsFollowedOnce p s)
once_told p q e s (Ok f) text stop = record {
  text = text ∙ (λ i. run_text (program_at (e i)) s.turns (followed_once (program_at (e i)) s).states);
  stop = stop ∙ (λ i. (followed_once (program_at (e i)) s).stop);
}
once_told p q e s (Err x) text stop = tt
