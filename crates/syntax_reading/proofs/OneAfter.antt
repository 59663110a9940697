-- Readers one after the other: how what comes after them is said.
use Rattle.std.proofs.Common.{◌≡◌, List, [], ◌∷◌, ◌++◌, Ok, Err, refl, sym, ap, append_assoc}
use Rattle.tla_tree.specs.Lexical.{Token}
use Rattle.tla_tree.specs.Reader.{Out, Reader, ◌>>=◌, gives, then_read}
use Rattle.pcal_tree.specs.Grammar.{Body, Process, processes}
use Rattle.syntax_reading.specs.Owners.{main_of}

pub same_read : {A B : Type 0} (f : A → Reader B) {o q : Out A} → o ≡ q → then_read o f ≡ then_read q f
same_read {A} f e = ap (λ (o : Out A). then_read o f) e

pub then_assoc : {A B C : Type 0} (o : Out A) (f : A → Reader B) (g : B → Reader C) → then_read (then_read o f) g ≡ then_read o (λ a us. then_read (f a us) g)
then_assoc (Ok x) f g = refl
then_assoc (Err u) f g = refl

pub then_same : {A B : Type 0} (o : Out A) (f g : A → Reader B) → ((a : A) (us : List Token) → f a us ≡ g a us) → then_read o f ≡ then_read o g
then_same (Ok x) f g h = h x.0 x.1
then_same (Err u) f g h = refl

-- a member, and then the others
pub more_then : {A B : Type 0} (o : Out A) (rs : Reader (List A)) (g : List A → Reader B) → then_read (then_read o (λ y. rs >>= λ ys. gives (y ∷ ys))) g ≡ then_read o (λ y. rs >>= λ ys. g (y ∷ ys))
more_then (Ok x) rs g = then_assoc (rs x.1) (λ ys. gives (x.0 ∷ ys)) g
more_then (Err u) rs g = refl

pub made_then : {A B : Type 0} (o : Out Body) (make : Body → A) (g : A → Reader B) → then_read (then_read o (λ b. gives (make b))) g ≡ then_read o (λ b. g (make b))
made_then (Ok x) make g = refl
made_then (Err u) make g = refl

pub main_moved : (ys : List Process) (x y : Process) (xs : List Process) → main_of ys x (y ∷ xs) ≡ main_of (ys ++ x ∷ []) y xs
main_moved [] x y xs = refl
main_moved (z ∷ ys) x y xs = ap (λ (ls : List Process). processes z ls) (sym (append_assoc ys (x ∷ []) (y ∷ xs)))
