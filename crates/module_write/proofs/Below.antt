-- Numbers of elements that are below a bound, read at one of them.
use Rattle.std.proofs.Common.{◌≡◌, ℕ, zero, suc, ◌<◌, List, [], ◌∷◌, length, get_or, reverse, sym, subst, arith}
use Rattle.std.proofs.lemmas.List.{reverse-append}
use Rattle.tla_tree.specs.Pool.{AllBelow}
use Rattle.tla_tree.proofs.PoolNumbers.{AllBelow-push}
use Rattle.tla_value.specs.declared.names.Definition.{Definition as Kept}
use Rattle.tla_value.specs.Defs.{DefinitionsIn}

pub definition_below : (m : ℕ) (ds : List Kept) (i : ℕ) (d : Kept) → d ≡ get_or ds i d → i < length ds → DefinitionsIn m ds → d.body < m
definition_below m [] i d is lt h = absurd (omega arith)
definition_below m (e ∷ ds) zero d is lt h = subst (λ (k : Kept). k.body < m) (sym is) h.0
definition_below m (e ∷ ds) (suc i) d is lt h = definition_below m ds i d is (omega (arith, lt)) h.1

pub reverse_below : (m : ℕ) (es : List ℕ) → AllBelow m es → AllBelow m (reverse es)
reverse_below m [] h = tt
reverse_below m (e ∷ es) h = subst (AllBelow m) (sym (reverse-append (e ∷ []) es)) (AllBelow-push m (reverse es) e (reverse_below m es h.1) h.0)
