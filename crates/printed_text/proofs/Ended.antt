-- A file with another algorithm in its place still has its module's end and an algorithm.
use Rattle.std.proofs.Common.{◌≡◌, ℕ, Bool, true, false, nat_eq, List, [], ◌∷◌, ◌++◌, Option, Some, None, refl, sym, ap, ◌∙◌, find}
use Rattle.std.specs.Prelude.{is_some}
use Rattle.std.specs.List.{starts_with}
use Rattle.tla_token.specs.Signs.{is_among}
use Rattle.tla_token.specs.Tokens.{openings, stretch, TokAlgorithm}
use Rattle.module_tree.specs.TextFront.{Text, on_some}
use Rattle.module_tree.specs.Walk.{Segment, tail, is_tail, Located, walk, at_start}
use Rattle.module_tree.specs.FileParts.{first_that, module_end, within, beginnings, holds_algorithm}
use Rattle.module_tree.specs.AlgorithmText.{AlgorithmText, algorithm_in, algorithm_tokens}
use Rattle.module_tree.specs.FileOffences.{algorithm_offences, no_module, no_algorithm}
use Rattle.module_tree.specs.laws.Walks.{after_all, located}
use Rattle.module_tree.specs.laws.Kept.{IsFine, only_large}
use Rattle.module_tree.specs.laws.Swaps.{segments, SwapsComment}
use Rattle.module_tree.proofs.WalkPlace.{has_tail}
use Rattle.module_tree.proofs.WalkKept.{all_fine_in}
use Rattle.module_tree.proofs.AlgorithmIsCut.{algorithm_is_cut}
use Rattle.module_tree.proofs.BeginningsKept.{begun_in}

-- ---- the end is among the segments

same_tail : (ds es : List Located) → segments ds ≡ segments es → has_tail ds ≡ true → has_tail es ≡ true
same_tail [] [] e h = h
same_tail [] (d ∷ es) e h = absurd cc
same_tail (c ∷ ds) [] e h = absurd cc
same_tail (c ∷ ds) (d ∷ es) e h = by (is_tail d.is) refl (same_tail ds es rest)
  where
    first : c.is ≡ d.is
    first = cc

    rest : segments ds ≡ segments es
    rest = cc

    by : (k : Bool) → is_tail d.is ≡ k → (has_tail ds ≡ true → has_tail es ≡ true) → has_tail (d ∷ es) ≡ true
    by true k deeper = rw k refl
    by false k deeper =
        let other : is_tail c.is ≡ false = ap is_tail first ∙ k in
        let g : has_tail ds ≡ true = rw other at h in
        rw k (deeper g)

tail_kept : (ds : List Located) (c d : Located) (es fs : List Located) → is_tail c.is ≡ false → segments es ≡ segments fs → has_tail (ds ++ c ∷ es) ≡ true → has_tail (ds ++ d ∷ fs) ≡ true
tail_kept [] c d es fs n e h = by (is_tail d.is) refl
  where
    rest : has_tail es ≡ true
    rest = rw n at h

    by : (k : Bool) → is_tail d.is ≡ k → has_tail (d ∷ fs) ≡ true
    by true k = rw k refl
    by false k = rw k (same_tail es fs e rest)
tail_kept (b ∷ ds) c d es fs n e h = by (is_tail b.is) refl (tail_kept ds c d es fs n e)
  where
    by : (k : Bool) → is_tail b.is ≡ k → (has_tail (ds ++ c ∷ es) ≡ true → has_tail (ds ++ d ∷ fs) ≡ true) → has_tail (b ∷ (ds ++ d ∷ fs)) ≡ true
    by true k deeper = rw k refl
    by false k deeper = (let g : has_tail (ds ++ c ∷ es) ≡ true = rw k at h in rw k (deeper g))

-- ---- a comment with an algorithm is not the end

tail_bare : (g : Segment) → is_tail g ≡ true → within g ≡ []
tail_bare (tail w) h = refl
tail_bare g h = absurd cc

pub some_stretch : (x : Text) (a : AlgorithmText) → TokAlgorithm x a.from a.rest.to (algorithm_tokens x a) → stretch x a.from a.rest.to ≡ [] → ⊥
some_stretch x a t e = by t.opening t.is_opening (ap (λ (u : Text). starts_with nat_eq u t.opening) (sym e) ∙ t.stands)
  where
    by : (o : Text) → is_among openings o ≡ true → starts_with nat_eq [] o ≡ true → ⊥
    by [] h k = cc
    by (b ∷ o) h k = cc

no_middle : (a b c : Text) → a ++ (b ++ c) ≡ [] → b ≡ []
no_middle [] [] c e = refl
no_middle [] (d ∷ b) c e = absurd cc
no_middle (d ∷ a) b c e = absurd cc

comment_is : (x u w : Text) (a : AlgorithmText) → IsFine x → algorithm_in x ≡ Some a → (c : SwapsComment x u w a) → is_tail c.comment.is ≡ false
comment_is x u w a fine is c = by (is_tail c.comment.is) refl
  where
    tok : TokAlgorithm x a.from a.rest.to (algorithm_tokens x a)
    tok =
        let all = all_fine_in x fine in
        algorithm_is_cut x a all.parts.fine is (ap only_large (ap algorithm_offences (sym is) ∙ all.algorithm))

    by : (k : Bool) → is_tail c.comment.is ≡ k → is_tail c.comment.is ≡ false
    by false k = k
    by true k = absurd (some_stretch x a tok (no_middle c.front (stretch x a.from a.rest.to) c.back (sym c.held ∙ tail_bare c.comment.is k)))

pub still_ends : (x u w : Text) (a : AlgorithmText) → IsFine x → algorithm_in x ≡ Some a → SwapsComment x u w a → no_module w (module_end (walk w)) ≡ []
still_ends x u w a fine is c = by (first_that is_tail (walk w)) there
  where
    there : has_tail (walk w) ≡ true
    there =
        ap has_tail c.walked_there
        ∙ tail_kept c.before c.comment (located (after_all at_start c.before) c.there) c.after c.after_there (comment_is x u w a fine is c) c.same_after (ap has_tail (sym c.walked) ∙ (all_fine_in x fine).parts.ends)

    by : (o : Option Located) → is_some o ≡ true → no_module w (on_some o (λ d. Some d.at)) ≡ []
    by (Some d) h = refl
    by None h = absurd cc

pub still_begins : (w : Text) (d : Located) → find holds_algorithm (walk w) ≡ Some d → (e : Option ℕ) → no_algorithm e (beginnings (walk w)) ≡ []
still_begins w d f e = (let b = begun_in (walk w) d f in ap (no_algorithm e) b.all ∙ by e b.n b.others)
  where
    by : (e : Option ℕ) (n : ℕ) (ns : List ℕ) → no_algorithm e (n ∷ ns) ≡ []
    by (Some m) n ns = refl
    by None n ns = refl
