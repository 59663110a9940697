-- What was found in a text tells in a scope: the first offence, and those of what may offend there.
use Rattle.std.specs.Prelude.{◌≡◌, List, [], ◌∷◌, ◌++◌, Bool, true, false, ◌||◌, cond, length, take, Option, Some, None}
use Rattle.std.specs.List.{flat_map}
use Rattle.tla_token.specs.declared.rule.Refusal.{Refusal}
use Rattle.tla_token.specs.Signs.{is_among}
use Rattle.tla_tree.specs.Tree.{Word, Name}
use Rattle.algorithm_limits.specs.DepthsIn.{Hides}
use Rattle.module_outside.specs.ModulesIn.{AreModules}
use Rattle.pcal_tree.specs.Offences.{first, is_before}
use Rattle.pcal_tree.specs.OffencesRebind.{Standings, in_scope, brought}
use Rattle.pcal_tree.specs.laws.MacroBindings as pure
use Rattle.pcal_tree.specs.laws.MacroBindings.{offences_where}
use Rattle.declared_rules.specs.declared.binding.Binding.{Binding}
use Rattle.declared_rules.specs.declared.binding.Binding.TheVariants as held
use Rattle.declared_rules.specs.declared.sight.Sight.{Sight}
use Rattle.declared_rules.specs.declared.bind_walk.Walk.{Walk}

abbrev pub binding_of : Binding → pure.Binding
binding_of (held.Bound x) = pure.bound x
binding_of (held.Standing x) = pure.standing x
binding_of (held.Beneath x y) = pure.beneath x y

abbrev pub sure : Option Refusal → List Refusal
sure None = []
sure (Some r) = r ∷ []

abbrev pub held_where : List Word → Standings → List Binding → List Refusal
held_where ms s bs = flat_map (λ b. offences_where ms s (binding_of b)) bs

-- it is this name, bound no later
abbrev pub IsEarlier : Binding → Name → Type 0
IsEarlier (held.Bound x) n = (x.word ≡ n.word) × (is_before n.place x.place ≡ false)
IsEarlier (held.Standing x) n = false ≡ true
IsEarlier (held.Beneath x y) n = false ≡ true

-- in a module that extends these
abbrev pub told : List Word → Walk → Standings → List Refusal
told ms w s = sure w.first ++ held_where ms s w.free.keys

-- r is s with the names xs around
abbrev pub Around : List Word → Standings → Standings → Type 0
Around xs s r = ((x : Word) → in_scope r x ≡ (is_among xs x || in_scope s x)) × ((x : Word) → brought r x ≡ cond (is_among xs x) [] (brought s x))

-- of the names for which text may be put in, none is put in but for these
abbrev pub Lets : (Word → Bool) → List Word → Standings → Type 0
Lets K xs s = (x : Word) → cond (K x) (brought s x) [] ≡ cond (is_among xs x) (brought s x) []

-- a text that is put in the scope s is gone through, and where it is gone through now the scope is r
pub record Seen (g : Sight) (K : Word → Bool) (w : Walk) (ms : List Word) (s r : Standings) : Type 0 where
  pub modules : AreModules g.modules ms
  pub lets : Lets K g.stands s
  pub around : Around w.bound s r

-- these offences were found as well, by modules and the scope around the text
pub record Gains (old new : Walk) (f : List Word → Standings → List Refusal) : Type 0 where
  pub bound : new.bound ≡ old.bound
  pub tells : (ms : List Word) (s : Standings) → first (told ms new s) ≡ first (told ms old s ++ f ms s)

-- the same by modules and the scope where they are
pub record Adds (g : Sight) (K : Word → Bool) (old new : Walk) (f : List Word → Standings → List Refusal) : Type 0 where
  pub bound : new.bound ≡ old.bound
  pub tells : (ms : List Word) (s r : Standings) → Seen g K old ms s r → first (told ms new s) ≡ first (told ms old s ++ f ms r)

-- the same, and more may be bound behind those
pub record AddsParts (g : Sight) (K : Word → Bool) (old new : Walk) (f : List Word → Standings → List Refusal) : Type 0 where
  pub bound : take (length old.bound) new.bound ≡ old.bound
  pub tells : (ms : List Word) (s r : Standings) → Seen g K old ms s r → first (told ms new s) ≡ first (told ms old s ++ f ms r)

-- the same, and these names are bound as well
pub record AddsNaming (g : Sight) (K : Word → Bool) (old new : Walk) (names : List Word) (f : List Word → Standings → List Refusal) : Type 0 where
  pub hides : Hides old.bound new.bound names
  pub tells : (ms : List Word) (s r : Standings) → Seen g K old ms s r → first (told ms new s) ≡ first (told ms old s ++ f ms r)

-- nothing was found, and no name is bound
pub record IsNew (w : Walk) : Type 0 where
  pub bound : w.bound ≡ []
  pub first : w.first ≡ None
  pub free : w.free.keys ≡ []
