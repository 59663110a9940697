-- What a unit outside may use, in memory.
use Rattle.std.specs.Prelude.{◌≡◌, ℕ, ◌+◌, ◌==◌, nat_eq, Bool, not, ◌&&◌, ◌||◌, List, [], Option, Some, None}
use Rattle.std.specs.List.{list_any}
use Rattle.std.specs.Cmp.Lexicographic.{pointwise}
use Rattle.tla_token.specs.Signs.{is_among}
use Rattle.tla_tree.specs.Tree.{Word, Form, name, operator_call}
use Rattle.tla_value.specs.DefinitionNesting.{depth_of_use, depths}
use Rattle.module_tree.specs.Outside as pure
use Rattle.algorithm_limits.specs.Numbers.{Numbers, number_of}
use Rattle.module_outside.specs.declared.sight.Sight.{Sight}
use Rattle.module_outside.specs.ModulesIn.{AreModules, is_standard_in, given, standard_of}

-- these names are bound: the same are among both
abbrev pub Binds : List Word → List Word → Type 0
Binds hs bs = (x : Word) → list_any (pointwise ◌==◌ x) hs ≡ is_among bs x

-- one more than the parameters, or 0 where nothing is defined
abbrev pub past_arity : Option ℕ → ℕ
past_arity None = 0
past_arity (Some n) = n + 1

-- this is seen
pub record Sees (s : Sight) (v : pure.Sight) : Type 0 where
  pub modules : AreModules s.modules v.modules
  pub constants : Binds s.constants v.constants
  pub arities : (x : Word) → number_of s.arities x ≡ past_arity (pure.arity v.earlier x)
  pub depths : (x : Word) → number_of s.depths x ≡ depth_of_use (depths [] v.earlier) x

abbrev pub used_depth : Numbers → Form → ℕ
used_depth es (name x) = number_of es x
used_depth es (operator_call f) = number_of es f
used_depth es m = 0

-- x may be a parameter or a bound name
abbrev pub fresh_in : Sight → List Word → Word → Bool
fresh_in s hs x = not (is_standard_in s.modules x) && (not (list_any (pointwise ◌==◌ x) s.constants) && (nat_eq (number_of s.arities x) 0 && not (list_any (pointwise ◌==◌ x) hs)))

-- a name may stand where these are bound
abbrev pub name_reads_in : Sight → List Word → Bool → Word → Bool
name_reads_in s hs inf x =
    list_any (pointwise ◌==◌ x) hs || (list_any (pointwise ◌==◌ x) s.constants || (nat_eq (number_of s.arities x) 1 || given s.modules inf (standard_of x) 0))

abbrev pub call_reads_in : Sight → Bool → Word → ℕ → Bool
call_reads_in s inf f n = nat_eq (number_of s.arities f) (n + 1) || given s.modules inf (standard_of f) n
