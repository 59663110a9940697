-- What was read, put before what is still to come.
use Rattle.std.proofs.Common.{◌≡◌, Ok, Err, refl, sym, ap, ◌∙◌, subst}
use Rattle.tla_tree.specs.Reader.{Out, then_read, gives}
use Rattle.expr_nodes.specs.declared.cursor.Halt.{Halt}
use Rattle.expr_nodes.specs.ReadIn.{Fails}
use Rattle.expr_rows.proofs.ReadLemmas.{fails_then}
use Rattle.expr_rows.proofs.ReadLinks.{then_one}

pub then_gives : {A : Type 0} (o : Out A) → then_read o (λ a. gives a) ≡ o
then_gives (Ok x) = refl
then_gives (Err s) = refl

pub put_on : {A B C : Type 0} {o : Out C} {p : Out B} (f : B → C) (g : A → B) (q : Out A) → o ≡ then_read p (λ b. gives (f b)) → p ≡ then_read q (λ a. gives (g a)) → o ≡ then_read q (λ a. gives (f (g a)))
put_on {A} {B} {C} {o} {p} f g q h k = h ∙ ap (λ (p : Out B). then_read p (λ b. gives (f b))) k ∙ sym (then_one q g (λ b. gives (f b)))

pub put_fails : {A B : Type 0} {o : Out B} (w : Halt) (f : A → B) (p : Out A) → o ≡ then_read p (λ a. gives (f a)) → Fails w p → Fails w o
put_fails {A} {B} {o} w f p h k = subst (Fails w) (sym h) (fails_then w p (λ a. gives (f a)) k)
