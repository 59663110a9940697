-- What is asked of the names of a routine's steps, so that its expressions read, under written names, what may be read where variables are assigned ("A PlusCal User's Manual",
-- section 4, on names in the translation).
use Rattle.std.specs.Prelude.{◌≡◌, [], Bool, true, false, cond, bytes_eq, nat_eq, codes, Some}
use Rattle.std.specs.List.{AllByRecursion}
use Rattle.tla_token.specs.Signs.{is_among}
use Rattle.tla_tree.specs.Tree.{Word, Every}
use Rattle.tla_tree.specs.laws.Writable.{IsWritable}
use Rattle.module_tree.specs.Formulas.{self}
use Rattle.pcal_tree.specs.Algorithm.{Start, equals, Declaration, declares, Routine, locals, procedure_routines}
use Rattle.pcal_tree.specs.Calls.{routine_named}
use Rattle.pcal_tree.specs.Program.{Program, written}
use Rattle.pcal_tree.specs.Reads.{through, readings_of}
use Rattle.pcal_tree.specs.Variables.{vars, written_all, pc, stack}
use Rattle.action_builder.specs.OwnVariables.{is_own_variable}
use Rattle.action_builder.specs.Written.{old_stack}
use Rattle.action_builder.specs.laws.Jumps.{Unlike, AllUnlike}
use Rattle.translation.specs.laws.FreshReads.{Plain}
use Rattle.translation.specs.laws.WritableAlgorithm.{is_variable}

-- the written name of a routine's own variable, else the name itself
abbrev pub name_of : Program → Routine → Word → Word
name_of P u x = cond (declares (locals u) x) (written P u x) x

-- it is no definition that reads a variable
abbrev pub Unused : Program → Word → Type 0
Unused P x = through (readings_of P.algorithm) x ≡ []

-- N: the names that may be bound
pub record StepNames (P : Program) (u : Routine) (N : Word → Type 0) : Type 0 where
  pub global : (x : Word) → declares P.algorithm.globals x ≡ true → is_among (vars P) x ≡ true
  pub local : (x : Word) → declares (locals u) x ≡ true → is_among (vars P) (written P u x) ≡ true
  pub apart : (x y : Word) → declares (locals u) x ≡ true → declares (locals u) y ≡ true → written P u x ≡ written P u y → x ≡ y
  pub new : (x : Word) → declares (locals u) x ≡ true → declares P.algorithm.globals (written P u x) ≡ false
  pub untitled : (x : Word) → is_among (vars P) x ≡ true → Unused P x
  pub own : (x : Word) → is_own_variable P x ≡ true → is_among (vars P) x ≡ true
  pub self_untitled : Unused P self
  pub self_free : is_among (vars P) self ≡ false
  pub bound : (x : Word) → N x → (is_among (vars P) x ≡ false) × Unused P x × (bytes_eq self x ≡ false) × (bytes_eq old_stack x ≡ false)
  pub pc_among : is_among (vars P) pc ≡ true
  pub pc_new : declares P.algorithm.globals pc ≡ false
  pub pc_apart : (x : Word) → is_variable P.algorithm u x ≡ true → name_of P u x ≡ pc → ⊥

-- ---- calls and returns

-- the written names of a routine's own variables are different, and none is pc or the stack
pub record Unlikes (P : Program) (u : Routine) : Type 0 where
  pub each : AllUnlike (written_all P u (locals u))
  pub pc : Unlike pc (written_all P u (locals u))
  pub stack : Unlike stack (written_all P u (locals u))

-- an initial value of a procedure's variable can be written
abbrev pub StartReads : (Word → Type 0) → Start → Type 0
StartReads N (equals e) = IsWritable e × Every (Plain N) e
StartReads N _ = Unit {0}

-- q: a procedure that is called in the routine
pub record Called (P : Program) (u : Routine) (N : Word → Type 0) (q : Routine) : Type 0 where
  pub names : StepNames P q N
  pub unlike : Unlikes P q
  pub same : nat_eq u.number q.number ≡ true → u ≡ q
  pub other : nat_eq u.number q.number ≡ false → (x y : Word) → is_variable P.algorithm u x ≡ true → declares (locals q) y ≡ true → name_of P u x ≡ written P q y → ⊥
  pub unread : (x : Word) → declares (locals q) x ≡ true → Unused P x
  pub starts : AllByRecursion (λ (d : Declaration). StartReads N d.start) q.variables

-- of an algorithm with procedures; r: the routine is one of them
pub record Frames (P : Program) (u : Routine) (N : Word → Type 0) (r : Bool) : Type 0 where
  pub stack_among : is_among (vars P) stack ≡ true
  pub stack_new : declares P.algorithm.globals stack ≡ false
  pub stack_apart : (x : Word) → is_variable P.algorithm u x ≡ true → name_of P u x ≡ stack → ⊥
  pub head_untitled : Unused P (codes "Head")
  pub tail_untitled : Unused P (codes "Tail")
  pub old_untitled : Unused P old_stack
  pub old_free : is_among (vars P) old_stack ≡ false
  pub unset_untitled : Unused P (codes "defaultInitValue")
  pub unlike : Unlikes P u
  pub called : (x : Word) (q : Routine) → routine_named x (procedure_routines P.algorithm) ≡ Some q → Called P u N q
  pub alone : r ≡ false → (x : Word) (q : Routine) → routine_named x (procedure_routines P.algorithm) ≡ Some q → nat_eq u.number q.number ≡ false
