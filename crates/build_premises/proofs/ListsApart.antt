-- Lists in which no word stands twice.
use Rattle.std.proofs.Common.{◌≡◌, List, [], ◌∷◌, ◌++◌, false, ◌||◌, bytes_eq, refl}
use Rattle.std.proofs.lemmas.Bool.{or_parts}
use Rattle.tla_token.specs.Signs.{is_among}
use Rattle.tla_tree.specs.Tree.{Word, Name, words, Each}
use Rattle.pcal_tree.specs.OffencesNames.{repeated}
use Rattle.pcal_tree.proofs.ClearLabels.{both_none}
use Rattle.action_builder.specs.laws.Jumps.{AllUnlike}
use Rattle.name_bits.specs.NamesIn.{AllApart}
use Rattle.translation.proofs.AcceptedNames.{apart_from}
use Rattle.translation.proofs.NamesOfRules.{turned}
use Rattle.translation.proofs.VariableNames.{each_to, none_among}

-- x is none of them
abbrev pub Not : Word → List Word → Type 0
Not x xs = is_among xs x ≡ false

pub unlike_apart : (xs : List Word) → AllUnlike xs → AllApart xs
unlike_apart [] h = tt
unlike_apart (x ∷ xs) h = (none_among xs x (each_to (λ y. bytes_eq x y ≡ false) (λ y. bytes_eq y x ≡ false) (λ y k. turned x y k) xs h.0), unlike_apart xs h.1)

pub not_in : (xs ys : List Word) (x : Word) → Not x xs → Not x ys → Not x (xs ++ ys)
not_in [] ys x h k = k
not_in (z ∷ xs) ys x h k = (let p = or_parts (bytes_eq z x) (is_among xs x) h in λ i. p.0 i || not_in xs ys x p.1 k i)

pub apart_joined : (xs ys : List Word) → AllApart xs → AllApart ys → Each (λ x. Not x ys) xs → AllApart (xs ++ ys)
apart_joined [] ys h k n = k
apart_joined (x ∷ xs) ys h k n = (not_in xs ys x h.0 n.0, apart_joined xs ys h.1 k n.1)

pub apart_before : (xs ys : List Word) → AllApart (xs ++ ys) → AllApart xs
apart_before [] ys h = tt
apart_before (x ∷ xs) ys h = (first xs h.0, apart_before xs ys h.1)
  where
    first : (zs : List Word) → is_among (zs ++ ys) x ≡ false → is_among zs x ≡ false
    first [] e = refl
    first (z ∷ zs) e = (let p = or_parts (bytes_eq z x) (is_among (zs ++ ys) x) e in λ i. p.0 i || first zs p.1 i)

pub apart_after : (xs ys : List Word) → AllApart (xs ++ ys) → AllApart ys
apart_after [] ys h = h
apart_after (x ∷ xs) ys h = apart_after xs ys h.1

-- of names of which none is declared twice
pub once_apart : (seen : List Word) (ns : List Name) → repeated seen ns ≡ [] → AllApart (words ns)
once_apart seen [] e = tt
once_apart seen (n ∷ ns) e =
    let p = both_none _ (repeated (n.word ∷ seen) ns) e in (
      none_among (words ns) n.word
          (each_to (λ y. is_among (n.word ∷ seen) y ≡ false) (λ y. bytes_eq y n.word ≡ false) (λ y h. turned n.word y (or_parts (bytes_eq n.word y) (is_among seen y) h).0) (words ns) (apart_from (n.word ∷ seen) ns p.1)),
      once_apart (n.word ∷ seen) ns p.1,
    )
