-- A file that breaks none of the rules 1 to 10 has a title, an algorithm and a place for a translation.
use Rattle.std.proofs.Common.{◌≡◌, ℕ, ◌+◌, ◌-◌, true, false, List, [], ◌∷◌, ◌++◌, length, drop, Option, Some, None, find, refl, sym, ap, ◌∙◌}
use Rattle.std.specs.Prelude.{is_some}
use Rattle.module_tree.specs.TextFront.{Text, on_some}
use Rattle.module_tree.specs.HeaderAndRegion.{header_title}
use Rattle.module_tree.specs.Walk.{bytes, is_header_line, Located, walk, at_start}
use Rattle.module_tree.specs.FileParts.{first_that, within, title, beginnings_in, beginnings, first_of, holds_algorithm, Span, spot, up_to_first, after_first}
use Rattle.module_tree.specs.AlgorithmText.{AlgorithmText, algorithm_at, algorithm_of}
use Rattle.module_tree.proofs.WalkPlace.{up_to_whole, walk_tails, part_headed, headed_title}
use Rattle.module_tree.proofs.WalkKept.{Sound, Commented, commented, spot_of}
use Rattle.module_tree.proofs.WalkSame.{first_kept}
use Rattle.module_tree.proofs.ModuleKept.{named}

-- ---- the algorithm

never : {A : Type 0} (a : A) → Some a ≡ None → ⊥
never a e = cc

none_first : (ns : List ℕ) → first_of ns ≡ None → ns ≡ []
none_first [] e = refl
none_first (n ∷ ns) e = absurd cc

abbrev first_made : (Located → ℕ → AlgorithmText) → List Located → Option AlgorithmText
first_made F ds = on_some (find holds_algorithm ds) (λ d. on_some (first_of (beginnings_in d)) (λ n. Some (F d n)))

none_begins : (F : Located → ℕ → AlgorithmText) (ds : List Located) → first_made F ds ≡ None → beginnings ds ≡ []
none_begins F [] e = refl
none_begins F (d ∷ ds) e = by (first_of (beginnings_in d)) refl (none_begins F ds)
  where
    here : (n : ℕ) → first_of (beginnings_in d) ≡ Some n → first_made F (d ∷ ds) ≡ Some (F d n)
    here n k = rw k (ap (λ (o : Option ℕ). on_some o (λ n. Some (F d n))) k)

    later : first_of (beginnings_in d) ≡ None → first_made F (d ∷ ds) ≡ first_made F ds
    later k = rw k refl

    by : (o : Option ℕ) → first_of (beginnings_in d) ≡ o → (first_made F ds ≡ None → beginnings ds ≡ []) → beginnings (d ∷ ds) ≡ []
    by (Some n) k deeper = absurd (never (F d n) (sym (here n k) ∙ e))
    by None k deeper = ap (λ (ns : List ℕ). ns ++ beginnings ds) (none_first (beginnings_in d) k) ∙ deeper (sym (later k) ∙ e)

no_algorithm : (x : Text) → Sound x → algorithm_of x (walk x) ≡ None → ⊥
no_algorithm x s e = s.begun (none_begins (λ d n. algorithm_at n (d.at + 2 + length (within d.is) - n) (drop n x)) (walk x) e)

-- ---- the title

holds : (x : Text) → Sound x → Commented (walk x)
holds x s = commented (walk x) (walk_tails x) s.ends s.begun

no_title : (x : Text) → Sound x → title (walk x) ≡ None → ⊥
no_title x s e = by (first_that is_header_line (walk x)) refl
  where
    front : List Located
    front = up_to_first holds_algorithm (walk x)

    whole : front ++ after_first holds_algorithm (walk x) ≡ walk x
    whole = up_to_whole holds_algorithm (walk x)

    there : is_some (first_that is_header_line (walk x)) ≡ true
    there =
        let rest = after_first holds_algorithm (walk x) in
        let has = headed_title at_start front refl (part_headed front rest at_start x (sym whole) (holds x s).parts) in
        ap (λ (ds : List Located). is_some (first_that is_header_line ds)) (sym whole) ∙ ap (λ (o : Option Located). is_some o) (first_kept is_header_line front rest has) ∙ has

    by : (o : Option Located) → first_that is_header_line (walk x) ≡ o → ⊥
    by None k = (let f : false ≡ true = rw k at there in absurd cc)
    by (Some d) k =
        let n = named x d k in
        let f : header_title (bytes d.is) ≡ None = rw k at e in
        let g : false ≡ true = rw f at n in
        absurd cc

-- ---- what is there

some_there : {A : Type 0} (o : Option A) → (o ≡ None → ⊥) → is_some o ≡ true
some_there None h = absurd (h refl)
some_there (Some a) h = refl

pub some_algorithm : (x : Text) → Sound x → is_some (algorithm_of x (walk x)) ≡ true
some_algorithm x s = some_there (algorithm_of x (walk x)) (no_algorithm x s)

pub some_spot : (x : Text) → Sound x → is_some (spot (walk x)) ≡ true
some_spot x s = ap (λ (o : Option Span). is_some o) (spot_of x s).1

pub some_title : (x : Text) → Sound x → is_some (title (walk x)) ≡ true
some_title x s = some_there (title (walk x)) (no_title x s)
