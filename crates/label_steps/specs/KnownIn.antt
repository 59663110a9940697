-- What is known of macros, in memory.
use Rattle.std.specs.Prelude.{Bool, ◌||◌, ◌≡◌, ℕ, zero, suc, List, [], ◌∷◌, Option, Some, None, cond, bytes_eq, map, slice_get, false}
use Rattle.std.specs.Borrow.{Bor}
use Rattle.tla_token.specs.Signs.{is_among}
use Rattle.tla_tree.specs.Tree.{Word, Trees}
use Rattle.pcal_tree.specs.Paths.{Effect, nothing}
use Rattle.pcal_tree.specs.laws.MacroSummaries as found
use Rattle.pcal_tree.specs.laws.MacroSummaries.{argument, effect_by}
use Rattle.pcal_tree.proofs.SetLaws.{Same}
use Rattle.algorithm_limits.specs.Numbers.{number_of}
use Rattle.label_steps.specs.declared.known.Known.{Known}
use Rattle.label_steps.specs.declared.put.Summary.{Summary}
use Rattle.label_steps.specs.declared.sides.Step.{Step}
use Rattle.label_steps.specs.PutIn.{pair_of, SameBroken}

-- no test of a variable tells what a statement assigns from this
pub record Assigns (s : Step) (e : Effect) : Type 0 where
  pub names : Same s.names.items e.variables
  pub twice : s.twice ≡ e.twice

-- one is a parameter of some macro, or they are one name
abbrev pub may_be_one : Known → Word → Word → Bool
may_be_one k a b = is_among k.params.keys a || (is_among k.params.keys b || bytes_eq a b)

-- where these names are parameters of macros
pub record IsSummary (xs : List Word) (s : Summary) (d : found.Summary) : Type 0 where
  pub params : s.params ≡ d.params
  pub names : Same s.names.keys d.found.names
  pub pairs : SameBroken xs (map pair_of s.pairs.keys) d.found.pairs
  pub inside : (x : Word) → is_among xs x ≡ false → (ts : Trees) → argument d.params ts x ≡ None

-- the newest of a name
abbrev pub find_summary : List found.Summary → Word → Option found.Summary
find_summary [] m = None
find_summary (d ∷ older) m = cond (bytes_eq d.name m) (Some d) (find_summary older m)

abbrev pub effect_found : Option found.Summary → Trees → Effect
effect_found None ts = nothing
effect_found (Some d) ts = effect_by (argument d.params ts) d.found

-- the summary of a number is of this one; 0 is none's
abbrev pub IsFound : List Word → List Summary → ℕ → Option found.Summary → Type 0
IsFound xs ss zero o = o ≡ None
IsFound xs ss (suc i) o = (d : found.Summary) × (s : Summary) × (o ≡ Some d) × (slice_get ss i ≡ Some s) × IsSummary xs s d

abbrev pub AreMacros : Known → List found.Summary → Type 0
AreMacros k ms = (m : Word) → IsFound k.params.keys k.summaries.items (number_of k.numbers m) (find_summary ms m)

-- what is known of a macro, if it is one
abbrev pub IsKnown : List Word → Option (Bor Summary) → Option found.Summary → Type 0
IsKnown xs None o = o ≡ None
IsKnown xs (Some s) o = (d : found.Summary) × (o ≡ Some d) × IsSummary xs s.now d
