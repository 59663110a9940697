-- Laws of outcomes: what goes on with a result as it is, and what goes on twice.
use Rattle.std.proofs.Common.{◌≡◌, List, [], ◌∷◌, Ok, Err, refl}
use Rattle.tla_value.specs.Value.{◌>>=◌, Outcome}

pub ok_is : {X : Type 0} {x y : X} → ◌≡◌ {A = Outcome X} (Ok x) (Ok y) → x ≡ y
ok_is e = cc

-- what goes on with a result has one to go on with
pub bound_ok : {X Y : Type 0} (o : Outcome X) (go : X → Outcome Y) (y : Y) → o >>= go ≡ Ok y → (x : X) × (o ≡ Ok x) × (go x ≡ Ok y)
bound_ok (Ok x) go y e = (x, refl, e)
bound_ok (Err k) go y e = cc

pub then_ok : {X : Type 0} (o : Outcome X) → (o >>= Ok) ≡ o
then_ok (Ok x) = refl
then_ok (Err k) = refl

pub then_then : {X Y Z : Type 0} (o : Outcome X) (f : X → Outcome Y) (g : Y → Outcome Z) → ((o >>= f) >>= g) ≡ (o >>= (λ x. f x >>= g))
then_then (Ok x) f g = refl
then_then (Err k) f g = refl

-- a form of two parts goes on with both values
pub then_two : {X Y : Type 0} (o p : Outcome X) (go : List X → Outcome Y) → ((o >>= λ a. (p >>= λ b. Ok (b ∷ [])) >>= λ rest. Ok (a ∷ rest)) >>= go) ≡ (o >>= λ a. p >>= λ b. go (a ∷ b ∷ []))
then_two (Ok a) (Ok b) go = refl
then_two (Ok a) (Err k) go = refl
then_two (Err k) p go = refl
