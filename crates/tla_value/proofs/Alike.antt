-- A tree means the same in related environments, for any relation that its binders keep.
use Rattle.std.proofs.Common.{◌≡◌, List, refl, subst, ap, ◌∙◌, Ok, Err}
use Rattle.tla_token.specs.declared.place.Place.{Place}
use Rattle.tla_tree.specs.Tree.{Form, name, next, operator_call, Tree, Every}
use Rattle.tla_value.specs.Value.{Outcome, Sense, fault}
use Rattle.tla_value.specs.Stops.{Check}
use Rattle.tla_value.specs.Meaning.{Denotation, called, eval}
use Rattle.tla_value.specs.Definitions.{trouble_at}
use Rattle.tla_value.proofs.Relations.{Alike, KeptBy, ReadsAlike, Rel}
use Rattle.tla_value.proofs.Facts.{every_weaker}
use Rattle.tla_value.proofs.Joined.{Kin, Same, Both, Checks}
use Rattle.tla_value.proofs.JoinedEval.{Senses, Read, Kept, eval_both}

-- troubles and places stand for themselves alone
abbrev pub equal : Kin
equal = record {
  beside = ◌≡◌;
  free = λ k. ⊥;
  place = ◌≡◌;
  self = λ p. refl;
  anything = λ k j h. absurd h;
  faults = λ k p q e i. fault k (e i);
  moved = λ p q e k j h i. trouble_at (e i) (h i);
  free_moved = λ p k h. h;
}

pub joined_is : {X : Type 0} (o o' : Outcome X) → Same equal o o' → o ≡ o'
joined_is (Ok x) (Ok y) h = ap Ok h
joined_is (Ok x) (Err j) h = absurd h
joined_is (Err k) (Ok y) h = absurd h
joined_is (Err k) (Err j) h = ap Err h

joined_self : {X : Type 0} (o : Outcome X) → Same equal o o
joined_self (Ok x) = refl
joined_self (Err k) = refl

pub joined_of : {X : Type 0} (o o' : Outcome X) → o ≡ o' → Same equal o o'
joined_of o o' e = subst (Same equal o) e (joined_self o)

pub senses_are : (s t : Sense) → Senses equal s t → s ≡ t
senses_are s t h = λ i. record { value = joined_is _ _ h.value i; test = λ p v. joined_is _ _ (h.test p p refl v) i }

pub senses_from : (s t : Sense) → s ≡ t → Senses equal s t
senses_from s t e = record {
  value = joined_of _ _ (λ i. (e i).value);
  test = λ p q at v. joined_of _ _ (λ i. (e i).test (at i) v);
}

pub checks_equal : (c : Check) → Checks equal c c
checks_equal c p q at v = joined_of _ _ (λ i. c (at i) v)

abbrev pub AllAlike : Rel → List Denotation → List Denotation → Type 0
AllAlike R = Both (Alike R)

pub reads : (R : Rel) (m : Form) → ReadsAlike R m → Read equal R m
reads R (name x) k = λ p q at e f r. senses_from _ _ (k p e f r ∙ (λ i. f.now x (at i)))
reads R (next x) k = λ p q at e f r. senses_from _ _ (k p e f r ∙ (λ i. f.primed x (at i)))
reads R (operator_call g) k = λ p q at e f r vs. senses_from _ _ (λ i. called (at i) (k e f r i) vs)
reads R m k = tt

kept : (R : Rel) (m : Form) (at : Place) → KeptBy R m at → Kept equal R m at
kept R m at k = (k.0, reads R m k.1)

-- a tree that keeps the relation at each of its nodes
pub eval_alike : (R : Rel) (c : Check) (t : Tree) → Every (KeptBy R) t → Alike R (eval c t) (eval c t)
eval_alike R c t k e f r = senses_are _ _ (eval_both equal R c c (checks_equal c) t (every_weaker _ _ (kept R) t k) e f r)
