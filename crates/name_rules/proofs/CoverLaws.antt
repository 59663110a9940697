-- A use tells what the same use does that doesn't come before it.
use Rattle.std.proofs.Common.{◌≡◌, ℕ, ◌<◌, List, ◌++◌, length, get_or, Bool, true, false, ◌&&◌, not, nat_eq, Option, Some, None, refl, ap, ◌∙◌, subst}
use Rattle.std.specs.List.{flat_map}
use Rattle.tla_token.specs.declared.place.Place.{Place}
use Rattle.tla_token.specs.declared.rule.Rule.TheVariants.{Unknown, Arity, NotVariable, NeedsModule, OpaqueUnit, Infinite}
use Rattle.tla_token.specs.declared.rule.Refusal.{Refusal}
use Rattle.pcal_tree.specs.Offences.{offence_if, is_before, first}
use Rattle.tla_tree.specs.Tree.{Word}
use Rattle.pcal_tree.specs.NameUses.{Use, Sight, use_of, takes, variable, argument, standard, unread, use_offences, module_offences, infinite_offences, applied_offences, left_offences, handed_use}
use Rattle.algorithm_answer.specs.Joined.{joined}
use Rattle.algorithm_answer.proofs.Joins.{joined_assoc}
use Rattle.algorithm_answer.proofs.Covers.{Covers, covers_itself, covers_each, covers_if, covers_in}
use Rattle.pcal_tree.specs.laws.MacroUses.{offences_as}
use Rattle.declared_rules.specs.declared.using.Kind.{Kind}
use Rattle.declared_rules.specs.declared.using.Kind.TheVariants as kind
use Rattle.declared_rules.specs.declared.using.NameUse.{NameUse}
use Rattle.declared_rules.specs.UsesTold.{use_as, place_in, used, looked, told_by}

-- ---- one name, at two places

module _ (p q : Place) (e : is_before q p ≡ false) where
  covers_use : (o : Option Use) (n : ℕ) → Covers (use_offences o n p) (use_offences o n q)
  covers_use None n = covers_if true Unknown p q e
  covers_use (Some unread) n = covers_if true OpaqueUnit p q e
  covers_use (Some (takes k)) n = covers_if (not (nat_eq k n)) Arity p q e
  covers_use (Some variable) n = covers_if (not (nat_eq 0 n)) Arity p q e
  covers_use (Some (argument a)) n = covers_if (not (nat_eq 0 n)) Arity p q e
  covers_use (Some (standard d x)) n = covers_if (not (nat_eq d.arity n)) Arity p q e

  covers_module : (o : Option Use) → Covers (module_offences o p) (module_offences o q)
  covers_module None = refl
  covers_module (Some unread) = refl
  covers_module (Some (takes k)) = refl
  covers_module (Some variable) = refl
  covers_module (Some (argument a)) = refl
  covers_module (Some (standard d x)) = covers_if (not x) NeedsModule p q e

  covers_infinite : (o : Option Use) (right : Bool) → Covers (infinite_offences o right p) (infinite_offences o right q)
  covers_infinite None right = refl
  covers_infinite (Some unread) right = refl
  covers_infinite (Some (takes k)) right = refl
  covers_infinite (Some variable) right = refl
  covers_infinite (Some (argument a)) right = refl
  covers_infinite (Some (standard d x)) right = covers_if (d.infinite && not right) Infinite p q e

  pub covers_applied : (o : Option Use) (n : ℕ) (right : Bool) → Covers (applied_offences o n right p) (applied_offences o n right q)
  covers_applied o n right =
      covers_each (use_offences o n p) (module_offences o p ++ infinite_offences o right p) (use_offences o n q) (module_offences o q ++ infinite_offences o right q) (covers_use o n)
      (covers_each (module_offences o p) (infinite_offences o right p) (module_offences o q) (infinite_offences o right q) (covers_module o) (covers_infinite o right))

  pub covers_left : (o : Option Use) → Covers (left_offences o p) (left_offences o q)
  covers_left None = covers_each (offence_if true Unknown p) (offence_if true NotVariable p) (offence_if true Unknown q) (offence_if true NotVariable q) (covers_if true Unknown p q e) (covers_if true NotVariable p q e)
  covers_left (Some unread) = covers_if true NotVariable p q e
  covers_left (Some (takes k)) = covers_if true NotVariable p q e
  covers_left (Some variable) = refl
  covers_left (Some (argument a)) = covers_itself (offence_if true NotVariable a)
  covers_left (Some (standard d x)) = covers_if true NotVariable p q e

  pub covers_handed : (o : Option Use) → Covers (left_offences (Some (handed_use o p)) p) (left_offences (Some (handed_use o q)) q)
  covers_handed None = covers_if true NotVariable p q e
  covers_handed (Some unread) = covers_if true NotVariable p q e
  covers_handed (Some (takes k)) = covers_if true NotVariable p q e
  covers_handed (Some variable) = refl
  covers_handed (Some (argument a)) = covers_itself (offence_if true NotVariable a)
  covers_handed (Some (standard d x)) = covers_if true NotVariable p q e

covers_same : (k : Kind) (o : Option Use) (x : Word) (p q : Place) → is_before q p ≡ false → Covers (offences_as o (use_as k x p)) (offences_as o (use_as k x q))
covers_same (kind.Applied n right) o x p q e = covers_applied p q e o n right
covers_same kind.Assigned o x p q e = covers_left p q e o
covers_same kind.Handed o x p q e = covers_handed p q e o

-- ---- one of those that are kept

pub told_covered : (o : Option Refusal) (vs us : List NameUse) (i : ℕ) (v : NameUse) (k : Kind) (x : Word) (p : Place) (s : Sight) → us ≡ vs → v ≡ get_or us i v → i < length us → v.kind ≡ k → v.name ≡ x
    → is_before p (place_in v) ≡ false → joined (told_by o vs s) (first (used k x p s)) ≡ told_by o vs s
told_covered o vs us i v k x p s w e l a b h =
    let again : Covers (looked s v) (used k x p s) = subst (λ (y : Word). Covers (looked s v) (used k y p s)) b (subst (λ (d : Kind). Covers (looked s v) (used d v.name p s)) a (covers_same v.kind (use_of s v.name) v.name (place_in v) p h)) in
    joined_assoc o (first (flat_map (looked s) vs)) (first (used k x p s)) ∙ ap (joined o) (covers_in (looked s) us vs i v (used k x p s) w e l again)
