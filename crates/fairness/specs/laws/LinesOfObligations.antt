-- Of which obligation a formula of fairness in Spec is: whose steps, from which labels, weak or strong ("A PlusCal User's Manual", sections 2.6 and 3.7;
-- "Specifying Systems", section 8.9).
use Rattle.std.specs.Prelude.{◌≡◌, ◌⊎◌, ℕ, List, [], ◌∷◌, true, not, cond, codes, Option, Some, None, Ok}
use Rattle.tla_token.specs.Signs.{is_among}
use Rattle.tla_tree.specs.Tree.{Word, Tree}
use Rattle.tla_value.specs.Value.{Value, truth, text, Outcome}
use Rattle.tla_value.specs.Stops.{plain}
use Rattle.tla_value.specs.Meaning.{Env, eval}
use Rattle.module_tree.specs.Module.{Call, call, call_with, Fairness}
use Rattle.module_tree.specs.Formulas.{self, named, at}
use Rattle.pcal_tree.specs.Algorithm.{Process, Routine, process_routine}
use Rattle.pcal_tree.specs.Takers.{taken_process, taken_main}
use Rattle.pcal_tree.specs.Processes.{OneOf}
use Rattle.pcal_tree.specs.OffencesLabels.{label_words}
use Rattle.pcal_tree.specs.Program.{Program}
use Rattle.pcal_tree.specs.Calls.{label_name}
use Rattle.pcal_tree.specs.Variables.{pc}
use Rattle.fairness.specs.ReachedProcedures.{reached}
use Rattle.fairness.specs.Obligations.{Obligation, written_labels, every_label}

-- ---- whose steps

-- the process in its formula: `self`, or the expression of a single one
abbrev pub identifier : Process → Tree
identifier p = cond p.several (named self) p.identity

-- \A self \in S, for a process set
abbrev pub quantified : Process → Option (Word × Tree)
quantified p = cond p.several (Some (self, p.identity)) None

-- actions of a single process's own body have no argument
abbrev pub own_action : Process → Word → Call
own_action p a = cond p.several (call_with a (named self)) (call a)

-- the call of an action of the process with the number n: of its own body, or of a procedure that it reaches
abbrev pub IsCallBy : Program → ℕ → Process → Routine → Word → Call → Type 0
IsCallBy P n p u a c =
    ((u ≡ process_routine n p) × (c ≡ own_action p a))
    ⊎ (OneOf u (reached P.algorithm (process_routine n p)) × (c ≡ call_with a (identifier p)))

-- ---- from which labels

-- the action of this title has the steps from these labels: from all of a routine, or from one
abbrev pub StepsFrom : Program → Routine → Word → List Word → Type 0
StepsFrom P u a ls =
    ((a ≡ P.naming.title u.number) × (ls ≡ written_labels P u (label_words u.body)))
    ⊎ ((l : Word) × OneOf l (label_words u.body) × (a ≡ label_name P u l) × (ls ≡ label_name P u l ∷ []))

-- each label is in one of two lists, which keep its order
abbrev pub SharedOut : List Word → List Word → List Word → Type 0
SharedOut [] ks xs = (ks ≡ []) × (xs ≡ [])
SharedOut (l ∷ ls) ks xs =
    ((more : List Word) × (ks ≡ l ∷ more) × SharedOut ls more xs) ⊎ ((more : List Word) × (xs ≡ l ∷ more) × SharedOut ls ks more)

-- what the test before an action gives; where there is none, TRUE
abbrev pub test_value : Option Tree → Env → Outcome Value
test_value None env = Ok (truth true)
test_value (Some e) env = (eval plain e env).value

-- it is true of the process exactly where that is at none of these labels
abbrev pub LeavesOut : Tree → List Word → Option Tree → Type 0
LeavesOut who xs test =
    (env : Env) (l : Word) → (eval plain (at (named pc) who) env).value ≡ Ok (text l) → test_value test env ≡ Ok (truth (not (is_among xs l)))

-- ---- the formula of an obligation

-- of all processes together
abbrev pub IsOfAll : Program → Obligation → Fairness → Type 0
IsOfAll P o l =
    (o.process ≡ None) × (o.labels ≡ every_label P) × (l.over ≡ None) × (l.guard ≡ None) × (l.action ≡ call (codes "Next"))

-- of one process: its test leaves those labels out of the action's that aren't the obligation's
pub record IsOfProcess (P : Program) (o : Obligation) (l : Fairness) : Type 0 where
  pub number : ℕ
  pub process : Process
  pub there : OneOf (taken_process number process) (taken_main P.algorithm P.algorithm.main)
  pub its : o.process ≡ Some number
  pub over : l.over ≡ quantified process
  pub routine : Routine
  pub title : Word
  pub action : IsCallBy P number process routine title l.action
  pub all : List Word
  pub steps : StepsFrom P routine title all
  pub left_out : List Word
  pub shared : SharedOut all o.labels left_out
  pub test : LeavesOut (identifier process) left_out l.guard

-- weak for a weak one, strong for a strong one
abbrev pub IsOf : Program → Obligation → Fairness → Type 0
IsOf P o l = (l.strong ≡ o.strong) × (IsOfAll P o l ⊎ IsOfProcess P o l)

-- one formula for each obligation, in their order
abbrev pub AreOf : Program → List Obligation → List Fairness → Type 0
AreOf P [] [] = Unit {0}
AreOf P (o ∷ os) (l ∷ ls) = IsOf P o l × AreOf P os ls
AreOf P _ _ = ⊥
