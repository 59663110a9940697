-- A translation is where its segment says, and its module has a title.
use Rattle.std.proofs.Common.{◌≡◌, ℕ, suc, ◌+◌, ◌≤◌, Bool, true, false, List, [], ◌∷◌, ◌++◌, length, take, Option, Some, None, refl, sym, ap, ◌∙◌, arith}
use Rattle.std.specs.Prelude.{find, is_some}
use Rattle.std.proofs.lemmas.List.{take-append-le}
use Rattle.tla_token.specs.declared.place.Place.{Place}
use Rattle.tla_token.specs.Places.{start, place_at, after}
use Rattle.module_tree.specs.TextFront.{Text, on_some}
use Rattle.module_tree.specs.HeaderAndRegion.{header_title}
use Rattle.module_tree.specs.Walk.{Segment, region, bytes, is_header_line, is_region, Located, walk, at_start}
use Rattle.module_tree.specs.FileParts.{first_that, before_first, after_first, title, region_of}
use Rattle.module_tree.specs.laws.Walks.{text_of, after_all}
use Rattle.module_tree.proofs.WalkPlace.{before_whole, text_append, met, places_after, after_both, headed_title, region_met}
use Rattle.module_tree.proofs.WalkKept.{at_is}
use Rattle.module_tree.proofs.WalkSame.{first_kept}
use Rattle.module_tree.proofs.WalkWhole.{whole}
use Rattle.module_tree.proofs.ModuleKept.{named}

take_past : (u v : Text) (k : ℕ) → take (length u + k) (u ++ v) ≡ u ++ take k v
take_past [] v k = ap (λ (n : ℕ). take n v) (none k)
  where
    none : (k : ℕ) → 0 + k ≡ k
    none k = omega arith
take_past (b ∷ u) v k = ap (λ (n : ℕ). take n (b ∷ (u ++ v))) (more (length u) k) ∙ ap (λ (w : Text). b ∷ w) (take_past u v k)
  where
    more : (n k : ℕ) → suc n + k ≡ suc (n + k)
    more n k = omega arith

-- k bytes into the first segment of a kind
pub found_place : (x : Text) (p : Located → Bool) (d : Located) (k : ℕ) → find p (walk x) ≡ Some d → k ≤ length (bytes d.is) → place_at x (d.at + k) ≡ after d.place (take k (bytes d.is))
found_place x p d k f l =
    let ds = before_first p (walk x) in
    let es = after_first p (walk x) in
    let split = before_whole p (walk x) d f in
    let size = at_is ds es d x split in
    let text : x ≡ text_of ds ++ (bytes d.is ++ text_of es) = sym (whole x) ∙ ap text_of split ∙ text_append ds (d ∷ es) in
    let place : d.place ≡ after start (text_of ds) = sym (ap (λ (d : Located). d.place) (met ds d es at_start x split).is) ∙ places_after at_start ds in
    ap (λ (n : ℕ). after start (take (n + k) x)) size
    ∙ ap (λ (u : Text). after start (take (length (text_of ds) + k) u)) text
    ∙ ap (after start) (take_past (text_of ds) (bytes d.is ++ text_of es) k ∙ ap (λ (u : Text). text_of ds ++ u) (take-append-le k (bytes d.is) (text_of es) l))
    ∙ after_both start (text_of ds) (take k (bytes d.is)) ∙ ap (λ (p : Place). after p (take k (bytes d.is))) (sym place)

-- the header comes before the translation
pub region_titled : (x : Text) (d : Located) → region_of (walk x) ≡ Some d → is_region d.is ≡ true → is_some (title (walk x)) ≡ true
region_titled x d f is = by (first_that is_header_line (walk x)) refl
  where
    p : Located → Bool
    p d = is_region d.is

    ds : List Located
    ds = before_first p (walk x)

    split : walk x ≡ ds ++ d ∷ after_first p (walk x)
    split = before_whole p (walk x) d f

    headed : (g : Segment) → d.is ≡ g → is_region g ≡ true → (after_all at_start ds).headed ≡ true
    headed (region v w) e r = (region_met (after_all at_start ds) d v w e (met ds d (after_first p (walk x)) at_start x split)).0
    headed g e r = absurd cc

    there : is_some (first_that is_header_line (walk x)) ≡ true
    there =
        let has = headed_title at_start ds refl (headed d.is refl is) in
        ap (λ (es : List Located). is_some (first_that is_header_line es)) split ∙ ap (λ (o : Option Located). is_some o) (first_kept is_header_line ds (d ∷ after_first p (walk x)) has) ∙ has

    by : (o : Option Located) → first_that is_header_line (walk x) ≡ o → is_some (title (walk x)) ≡ true
    by None k = (let f : false ≡ true = rw k at there in absurd cc)
    by (Some h) k = ap (λ (o : Option Located). is_some (on_some o (λ d. header_title (bytes d.is)))) k ∙ named x h k
