-- Macro arguments, and the variables of which each process has its own: trees put in, read as names.
use Rattle.std.proofs.Common.{◌≡◌, Bool, true, false, cond, bytes_eq, Some, None, refl, sym, ◌∙◌, ap, subst}
use Rattle.std.proofs.lemmas.Slice.Eq.{bytes_eq-Decides}
use Rattle.tla_token.specs.declared.place.Place.{Place}
use Rattle.tla_tree.specs.Tree.{Word, Tree, Every, binders, graft}
use Rattle.tla_value.specs.Stops.{Check}
use Rattle.tla_value.specs.Meaning.{Env, eval}
use Rattle.tla_value.specs.Grafts.{Arguments, arguments, own_part, owned, through}
use Rattle.tla_value.proofs.Facts.{each_weaker, every_weaker}
use Rattle.tla_value.proofs.Graft.{through_law}
use Rattle.tla_value.specs.laws.Grafting.{Apart, NotFreeIn, NoArgument, NotOwned}

-- the body with its arguments put in means what it means where each parameter stands for its argument
pub macro_law : (c : Check) (s : Arguments) (t : Tree) → Every (NoArgument s) t → (e : Env) → eval c (graft (arguments s) t) e ≡ eval c t (through c (arguments s) e)
macro_law c s t h = through_law c (arguments s) t (every_weaker _ _ (λ m at. each_weaker _ _ (λ x k. record { left = λ at'. k.0; unread = λ y at'. k.1 y }) (binders m)) t h)

abbrev NotTrue : Bool → Type 0
NotTrue true = ⊥
NotTrue false = Unit {0}

other_name : (here : Word → Bool) (x y : Word) (b : Bool) → here x ≡ false → here y ≡ true → bytes_eq x y ≡ b → bytes_eq x y ≡ false
other_name here x y false out own q = q
other_name here x y true out own q = absurd (subst NotTrue (sym out ∙ ap here ((bytes_eq-Decides x y).0 q) ∙ own) tt)

not_free_own : (self : Word) (here : Word → Bool) (x y : Word) (at : Place) (b : Bool) → here x ≡ false → bytes_eq x self ≡ false → here y ≡ b → NotFreeIn x (cond b (Some (own_part self y at)) None)
not_free_own self here x y at false out apart q = tt
not_free_own self here x y at true out apart q = (tt, ((other_name here x y (bytes_eq x y) out q refl, tt), ((apart, tt), tt)))

pub owned_apart : (self : Word) (here : Word → Bool) (x : Word) → here x ≡ false → bytes_eq x self ≡ false → Apart (owned self here) x
owned_apart self here x out apart = record {
  left = λ at. ap (λ b. cond b (Some (own_part self x at)) None) out;
  unread = λ y at. not_free_own self here x y at (here y) out apart refl;
}

-- the tree with x[self] for the variables of the process means what it means where these names stand for their own part
pub owned_law : (c : Check) (self : Word) (here : Word → Bool) (t : Tree) → Every (NotOwned self here) t → (e : Env) → eval c (graft (owned self here) t) e ≡ eval c t (through c (owned self here) e)
owned_law c self here t h = through_law c (owned self here) t (every_weaker _ _ (λ m at. each_weaker _ _ (λ x k. owned_apart self here x k.0 k.1) (binders m)) t h)
