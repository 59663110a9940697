-- Definitions that are added one after another.
use Rattle.std.proofs.Common.{◌≡◌, ℕ, zero, suc, ◌+◌, ◌<◌, ◌≤◌, max, List, [], ◌∷◌, ◌++◌, length, map, take, drop, get_or, append_assoc, refl, sym, ap, subst, ◌∙◌, arith}
use Rattle.std.proofs.lemmas.List.{map-append, append-nil, drop_more, drop_all}
use Rattle.std.proofs.lemmas.List as list
use Rattle.tla_tree.specs.Tree.{Tree}
use Rattle.tla_tree.specs.Nesting.{greatest}
use Rattle.tla_value.specs.declared.names.Definition.{Definition as Kept}
use Rattle.tla_value.specs.Definitions as pure
use Rattle.tla_value.specs.Defs.{DefinitionsIn, definition_at as kept_at, definitions_at as all_at}
use Rattle.pcal_tree.specs.declared.algorithm.Definition.{Definition}
use Rattle.pcal_tree.specs.InMemory.{definition_at, definitions_at, past_definition, past_definitions}
use Rattle.pcal_tree.specs.Program.{inner}

-- of all definitions some were added, and the rest are left
pub record SoFar (old new : List Kept) (all left : List Definition) : Type 0 where
  pub same : (ts : List Tree) → all_at ts new ++ map inner (definitions_at ts left) ≡ all_at ts old ++ map inner (definitions_at ts all)
  pub kept : take (length old) new ≡ old
  pub longer : length old ≤ length new
  pub within : (m : ℕ) → DefinitionsIn m old → past_definitions all ≤ m → DefinitionsIn m new × (past_definitions left ≤ m)

within_more : (m : ℕ) (ds : List Kept) (d : Kept) → DefinitionsIn m ds → d.body < m → DefinitionsIn m (ds ++ d ∷ [])
within_more m [] d h less = (less, tt)
within_more m (e ∷ ds) d h less = (h.0, within_more m ds d h.1 less)

take_more : {A : Type 0} (n : ℕ) (xs : List A) (x : A) → n ≤ length xs → take n (xs ++ x ∷ []) ≡ take n xs
take_more zero xs x le = refl
take_more (suc n) [] x le = absurd (let no : ⊥ = omega (arith, le) in no)
take_more (suc n) (y ∷ xs) x le = ap (λ (zs : List _). y ∷ zs) (take_more n xs x (omega (arith, le)))

all_more : (ts : List Tree) (new : List Kept) (k : Kept) (one : Definition) (rest : List Definition) → kept_at ts k ≡ inner (definition_at ts one)
    → all_at ts (new ++ k ∷ []) ++ map inner (definitions_at ts rest) ≡ all_at ts new ++ map inner (definitions_at ts (one ∷ rest))
all_more ts new k one rest e =
    ap (λ (zs : List pure.Definition). zs ++ map inner (definitions_at ts rest)) (map-append (kept_at ts) new (k ∷ []))
    ∙ append_assoc (all_at ts new) (kept_at ts k ∷ []) (map inner (definitions_at ts rest))
    ∙ ap (λ (d : pure.Definition). all_at ts new ++ (d ∷ map inner (definitions_at ts rest))) e

pub one_more : (old new next : List Kept) (all : List Definition) (i : ℕ) (k : Kept) (one : Definition) → one ≡ get_or all i one → i < length all → next ≡ new ++ k ∷ []
    → ((ts : List Tree) → kept_at ts k ≡ inner (definition_at ts one)) → k.body ≡ one.body → SoFar old new all (drop i all) → SoFar old next all (drop (i + 1) all)
one_more old new next all i k one is less n made body s =
    let first : drop i all ≡ one ∷ drop (i + 1) all = drop_more all i one less ∙ ap (λ (y : Definition). y ∷ drop (i + 1) all) (sym is) in
    record {
      same = λ ts. ap (λ (zs : List Kept). all_at ts zs ++ map inner (definitions_at ts (drop (i + 1) all))) n
          ∙ all_more ts new k one (drop (i + 1) all) (made ts)
          ∙ ap (λ (zs : List Definition). all_at ts new ++ map inner (definitions_at ts zs)) (sym first)
          ∙ s.same ts;
      kept = ap (take (length old)) n ∙ take_more (length old) new k s.longer ∙ s.kept;
      longer = (let l = s.longer in omega (arith, l, ap length n, list.length-append new (k ∷ [])));
      within = λ m h past. step m (s.within m h past) first;
    }
  where
    step : (m : ℕ) → DefinitionsIn m new × (past_definitions (drop i all) ≤ m) → drop i all ≡ one ∷ drop (i + 1) all → DefinitionsIn m next × (past_definitions (drop (i + 1) all) ≤ m)
    step m w first =
        let both : max (one.body + 1) (past_definitions (drop (i + 1) all)) ≤ m = subst (λ (zs : List Definition). past_definitions zs ≤ m) first w.1 in
        (subst (DefinitionsIn m) (sym n) (within_more m new k w.0 (omega (arith, both, body))), omega (arith, both))

pub all_added : (old new : List Kept) (all : List Definition) (i : ℕ) → length all ≤ i → SoFar old new all (drop i all) → SoFar old new all []
all_added old new all i le s = subst (SoFar old new all) (drop_all i all le) s

pub none_added : (old : List Kept) (all : List Definition) → SoFar old old all all
none_added old all = record { same = λ ts. refl; kept = take_whole old; longer = omega arith; within = λ m h past. (h, past) }
  where
    take_whole : (xs : List Kept) → take (length xs) xs ≡ xs
    take_whole [] = refl
    take_whole (x ∷ xs) = ap (λ (zs : List Kept). x ∷ zs) (take_whole xs)

pub all_same : (old new : List Kept) (all : List Definition) → SoFar old new all [] → (ts : List Tree) → all_at ts new ≡ all_at ts old ++ map inner (definitions_at ts all)
all_same old new all s ts = sym (append-nil (all_at ts new)) ∙ s.same ts

pub all_within : (old new : List Kept) (all : List Definition) → SoFar old new all [] → (m : ℕ) → DefinitionsIn m old → past_definitions all ≤ m → DefinitionsIn m new
all_within old new all s m h past = (s.within m h past).0
