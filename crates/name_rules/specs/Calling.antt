-- What calls offend, by what is kept of macros and procedures.
use Rattle.std.specs.Prelude.{◌≡◌, ◌==◌, ℕ, zero, suc, length, nat_eq, List, [], ◌∷◌, ◌++◌, Bool, true, false, not, cond, bytes_eq, Option, Some, None}
use Rattle.std.specs.List.{flat_map}
use Rattle.std.specs.Map.{lookup}
use Rattle.std.specs.Cmp.Lexicographic.{pointwise}
use Rattle.tla_token.specs.declared.place.Place.{Place}
use Rattle.tla_token.specs.declared.rule.Rule.TheVariants.{Unknown, Arity, NotVariable}
use Rattle.tla_token.specs.declared.rule.Refusal.{Refusal}
use Rattle.tla_tree.specs.Tree.{Word, Form, strict, apply, select, Tree, Trees, root_place}
use Rattle.tla_tree.specs.Pool.{at}
use Rattle.pcal_tree.specs.Algorithm.{Name, Procedure}
use Rattle.pcal_tree.specs.Offences.{offence, offence_if, first}
use Rattle.pcal_tree.specs.Paths.{root}
use Rattle.pcal_tree.specs.NameUses.{Use, variable, Sight, use_of, left_offences, handed_use}
use Rattle.pcal_tree.specs.OffencesNames.{count, Calls, call_offences, parameter_use, seeing_parameters}
use Rattle.algorithm_limits.specs.Numbers.{number_of}
use Rattle.name_rules.specs.declared.macros.MacroUses.{MacroUses}
use Rattle.name_rules.specs.declared.macros.Callees.{Callees}
use Rattle.declared_rules.specs.UsesTold.{looked}

-- ---- arguments

-- a variable with one more subscript or field
abbrev pub is_subscripted : Form → Bool
is_subscripted (strict apply) = true
is_subscripted (strict (select a)) = true
is_subscripted _ = false

-- an argument that a macro assigns, at a place, which begins with this name or with none
abbrev pub handed_from : Option Word → Place → Sight → List Refusal
handed_from None p s = offence NotVariable p
handed_from (Some x) p s = left_offences (Some (handed_use (use_of s x) p)) p

-- what a parameter is whose argument is this expression
abbrev pub use_through : Tree → Sight → Use
use_through t s = parameter_use (root t) (root_place t) s

-- the same of the first of these
abbrev pub use_through_first : List Tree → List ℕ → Sight → Use
use_through_first ts [] s = variable
use_through_first ts (e ∷ es) s = use_through (at ts e) s

-- ---- parameters

abbrev pub later : Option ℕ → Option ℕ
later None = None
later (Some k) = Some (suc k)

-- which of them has this name
abbrev pub parameter_number : List Name → Word → Option ℕ
parameter_number [] x = None
parameter_number (p ∷ ps) x = cond (bytes_eq p.word x) (Some 0) (later (parameter_number ps x))

-- ---- macros

abbrev pub kept_list : Option Refusal → List Refusal
kept_list None = []
kept_list (Some r) = r ∷ []

abbrev pub wrong_number : ℕ → ℕ → Place → List Refusal
wrong_number k n p = offence_if (not (nat_eq k n)) Arity p

-- a call with these arguments
abbrev pub called_offences : MacroUses → Place → Trees → Sight → List Refusal
called_offences u p ts s =
    wrong_number (length u.params.items) (count ts) p ++ (kept_list u.found.first ++ flat_map (looked (seeing_parameters u.params.items ts s s)) u.found.free.keys)

abbrev pub kept_offences : Option MacroUses → Place → Trees → Sight → List Refusal
kept_offences None p ts s = offence Unknown p
kept_offences (Some u) p ts s = called_offences u p ts s

-- ---- procedures

-- by one more than the number of its parameters; 0 where there is none
abbrev pub procedure_offences : ℕ → Place → Name → ℕ → List Refusal
procedure_offences zero p x n = offence Unknown p
procedure_offences (suc k) p x n = wrong_number k n x.place

-- calls offend what is kept
pub record Means (k : Callees) (C : Calls) (ps : List Procedure) : Type 0 where
  pub macros : (m : Word) (p : Place) (ts : Trees) (s : Sight) → first (C s p m ts) ≡ first (kept_offences (lookup (pointwise ◌==◌ m) k.macros.entries) p ts s)
  pub procedures : (x : Name) (p : Place) (n : ℕ) → call_offences ps p x n ≡ procedure_offences (number_of k.procedures x.word) p x n
