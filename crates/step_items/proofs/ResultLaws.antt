-- What holds of results where they are successes.
use Rattle.std.proofs.Common.{Result, Ok, Err, IfOk, OnOk}

pub then_ok : {A E : Type 0} {X : Type 0} (r : Result A E) → X → OnOk r X
then_ok (Ok a) h = h
then_ok (Err e) h = tt

pub also_ok : {A E : Type 0} {X Y : Type 0} (r : Result A E) → OnOk r X → (X → Y) → OnOk r Y
also_ok (Ok a) h f = f h
also_ok (Err e) h f = tt

pub with_ok : {A E : Type 0} {X Y : A → Type 0} (r : Result A E) → IfOk r X → ((a : A) → X a → Y a) → IfOk r Y
with_ok (Ok a) h f = f a h
with_ok (Err e) h f = tt
