-- One definition more is made as those before it.
use Rattle.std.proofs.Common.{◌≡◌, ℕ, ◌+◌, ◌<◌, List, [], ◌∷◌, ◌++◌, length, map, take, get_or, sym, ap, subst, ◌∙◌}
use Rattle.std.proofs.lemmas.List.{map_push, take_more}
use Rattle.tla_tree.specs.Tree.{Tree}
use Rattle.tla_value.specs.declared.names.Definition.{Definition as Kept}
use Rattle.tla_value.specs.Defs.{definition_at, definitions_at, DefinitionsIn}
use Rattle.pcal_tree.specs.declared.algorithm.Definition.{Definition}
use Rattle.pcal_tree.specs.InMemory as in_memory
use Rattle.pcal_tree.specs.Program.{inner}

pub definitions_more : (ts : List Tree) (ds new : List Kept) (d : Kept) (xs : List Definition) (i : ℕ) (x : Definition) → x ≡ get_or xs i x → i < length xs → new ≡ ds ++ d ∷ [] → definition_at ts d ≡ inner (in_memory.definition_at ts x)
    → definitions_at ts ds ≡ map inner (in_memory.definitions_at ts (take i xs)) → definitions_at ts new ≡ map inner (in_memory.definitions_at ts (take (i + 1) xs))
definitions_more ts ds new d xs i x here less more same h =
    let front = map (in_memory.definition_at ts) (take i xs) in
    ap (definitions_at ts) more
    ∙ map_push (definition_at ts) ds d
    ∙ (λ j. h j ++ same j ∷ [])
    ∙ sym (map_push inner front (in_memory.definition_at ts x))
    ∙ ap (map inner) (sym (map_push (in_memory.definition_at ts) (take i xs) x))
    ∙ ap (λ (l : List Definition). map inner (in_memory.definitions_at ts l)) (sym (take_more xs i x less ∙ ap (λ (y : Definition). take i xs ++ y ∷ []) (sym here)))

within_push : (m : ℕ) (ds : List Kept) (d : Kept) → DefinitionsIn m ds → d.body < m → DefinitionsIn m (ds ++ d ∷ [])
within_push m [] d h k = (k, tt)
within_push m (e ∷ ds) d h k = (h.0, within_push m ds d h.1 k)

pub within_more : (m : ℕ) (ds new : List Kept) (d : Kept) → new ≡ ds ++ d ∷ [] → DefinitionsIn m ds → d.body < m → DefinitionsIn m new
within_more m ds new d more h k = subst (DefinitionsIn m) (sym more) (within_push m ds d h k)
