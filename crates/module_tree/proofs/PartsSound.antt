-- The parts of an algorithm that breaks no rule but that on numbers are pieces of a text.
use Rattle.std.proofs.Common.{◌≡◌, ℕ, ◌+◌, ◌-◌, true, List, [], length, map, Option, Some, None, refl, sym, ap, ◌∙◌, find}
use Rattle.std.specs.Prelude.{if◌then◌else◌}
use Rattle.std.proofs.lemmas.Option.{none-some, same_Some}
use Rattle.tla_token.specs.Tokens.{Piece}
use Rattle.tla_token.specs.Offences.{sound}
use Rattle.module_tree.specs.TextFront.{Text}
use Rattle.module_tree.specs.Beginnings.{is_fair, opening}
use Rattle.module_tree.specs.Walk.{Located, walk}
use Rattle.module_tree.specs.FileParts.{within, beginnings_in, first_of, holds_algorithm}
use Rattle.module_tree.specs.AlgorithmText.{head, AlgorithmText, algorithm_in}
use Rattle.module_tree.specs.FileOffences.{offences_of}
use Rattle.module_tree.proofs.AlgorithmTokens.{are_plain, cut_inside}
use Rattle.module_tree.proofs.AlgorithmFound.{opened, made_there}
use Rattle.module_tree.proofs.AlgorithmSame.{at_comment}
use Rattle.module_tree.proofs.AlgorithmKept.{placed_at}

pub all_sound : (x : Text) (a : AlgorithmText) → offences_of (walk x) ≡ [] → algorithm_in x ≡ Some a → are_plain a.rest.parts ≡ true → (ps : List Piece) × (map (λ p. p.1) a.rest.parts ≡ map sound ps)
all_sound x a none is plain = by (find holds_algorithm (walk x)) refl
  where
    begun : (d : Located) → find holds_algorithm (walk x) ≡ Some d → (o : Option ℕ) → first_of (beginnings_in d) ≡ o → (ps : List Piece) × (map (λ p. p.1) a.rest.parts ≡ map sound ps)
    begun d f None o = (let g : None ≡ Some a = rw (f, o) at is in absurd (none-some a g))
    begun d f (Some n) o =
        let g : Some (at_comment x d n) ≡ Some a = rw (f, o) at is in
        let same = same_Some (at_comment x d n) a g in
        let q = placed_at x d n none f o in
        let v = opened q.v q.here in
        let there = made_there x q.p q.v q.r n (d.at + 2 + length (within d.is) - n) q.text q.from q.left v in
        let c = cut_inside (head (if is_fair q.v then 1 else 0)) (n + length (opening q.v)) v.rest q.r q.ends (ap (λ (a : AlgorithmText). are_plain a.rest.parts) (sym there ∙ same) ∙ plain) in
        (c.pieces, ap (λ (a : AlgorithmText). map (λ p. p.1) a.rest.parts) (sym same ∙ there) ∙ c.parts)

    by : (o : Option Located) → find holds_algorithm (walk x) ≡ o → (ps : List Piece) × (map (λ p. p.1) a.rest.parts ≡ map sound ps)
    by None f = (let g : None ≡ Some a = rw f at is in absurd (none-some a g))
    by (Some d) f = begun d f (first_of (beginnings_in d)) refl
