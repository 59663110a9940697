-- Small rows, by computation: which parameter a name is, and what uses tell.
use Rattle.std.proofs.Common.{◌≡◌, [], ◌∷◌, Some, None, false, codes, refl}
use Rattle.tla_token.specs.declared.place.Place.{Place}
use Rattle.tla_token.specs.declared.rule.Rule.TheVariants.{Unknown, Arity}
use Rattle.tla_tree.specs.Tree.{Word, Name}
use Rattle.pcal_tree.specs.NameUses.{variable, knowing, plain}
use Rattle.declared_rules.specs.declared.using.Kind.{Kind}
use Rattle.declared_rules.specs.declared.using.Kind.TheVariants as kind
use Rattle.declared_rules.specs.declared.using.NameUse.{NameUse}
use Rattle.declared_rules.specs.UsesTold.{told_by}
use Rattle.name_rules.specs.Calling.{parameter_number}

abbrev here : Place
here = record { line = 2; col = 3 }

abbrev named : Word → Name
named x = record { word = x; place = here }

abbrev using : Kind → Word → NameUse
using k x = record { name = x; kind = k; line = 2; col = 3 }

second : parameter_number (named (codes "a") ∷ named (codes "b") ∷ []) (codes "b") ≡ Some 1
second = refl

no_parameter : parameter_number (named (codes "a") ∷ []) (codes "c") ≡ None
no_parameter = refl

-- nothing is known of it
nothing_known : told_by None (using kind.Assigned (codes "x") ∷ []) [] ≡ Some (record { rule = Unknown; place = here })
nothing_known = refl

-- a variable is assigned
variable_assigned : told_by None (using kind.Assigned (codes "x") ∷ []) (knowing variable (codes "x") ∷ []) ≡ None
variable_assigned = refl

-- a name without parameters has one argument
wrong_arguments : told_by None (using (kind.Applied 1 false) (codes "x") ∷ []) (plain (codes "x") ∷ []) ≡ Some (record { rule = Arity; place = here })
wrong_arguments = refl
