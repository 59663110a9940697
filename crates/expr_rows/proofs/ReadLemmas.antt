-- Reading one thing after the other, as the code does.
use Rattle.std.proofs.Common.{◌≡◌, List, Ok, Err}
use Rattle.expr_nodes.specs.declared.cursor.Halt.{Halt}
use Rattle.expr_nodes.specs.declared.cursor.Halt.TheVariants as halt
use Rattle.tla_tree.specs.Lexical.{Token}
use Rattle.tla_tree.specs.Reader.{Out, Reader, then_read}
use Rattle.expr_nodes.specs.ReadIn.{Reads, Fails}

-- after what is told of
pub told_then : {A B : Type 0} {P : A → Type 0} {Q : B → Type 0} {u v : List Token} (o : Out A) (f : A → Reader B) → Reads P u o → ((a : A) → P a → Reads Q v (f a u)) → Reads Q v (then_read o f)
told_then {A} {B} {P} {Q} {u} {v} o f h g = rw h.is (g h.what h.told)

-- after what is known
pub told_on : {A B : Type 0} {Q : B → Type 0} {v : List Token} (o : Out A) (f : A → Reader B) (x : A × List Token) → o ≡ Ok x → Reads Q v (f x.0 x.1) → Reads Q v (then_read o f)
told_on o f x e h = rw e h

pub fails_after : {A B : Type 0} {P : A → Type 0} {u : List Token} (e : Halt) (o : Out A) (f : A → Reader B) → Reads P u o → ((a : A) → P a → Fails e (f a u)) → Fails e (then_read o f)
fails_after e o f h g = rw h.is (g h.what h.told)

pub fails_on : {A B : Type 0} (e : Halt) (o : Out A) (f : A → Reader B) (x : A × List Token) → o ≡ Ok x → Fails e (f x.0 x.1) → Fails e (then_read o f)
fails_on e o f x d h = rw d h

pub fails_then : {A B : Type 0} (e : Halt) (o : Out A) (f : A → Reader B) → Fails e o → Fails e (then_read o f)
fails_then halt.Memory o f h = tt
fails_then (halt.Refused r n) (Ok x) f h = absurd h
fails_then (halt.Refused r n) (Err s) f h = h
