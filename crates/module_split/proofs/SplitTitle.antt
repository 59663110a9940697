-- The title of a file, as a stretch of it.
use Rattle.std.proofs.Common.{◌≡◌, ℕ, ◌+◌, ◌-◌, ◌<◌, ◌≤◌, Bool, true, false, nat_le, List, take, drop, Option, Some, None, find, refl, sym, ap, ◌∙◌, arith}
use Rattle.std.specs.Prelude.{is_some, All}
use Rattle.std.specs.Option.{option_map}
use Rattle.std.proofs.lemmas.Bool.{leb-true, leb-false}
use Rattle.std.proofs.lemmas.List.{drop-take, take-take}
use Rattle.tla_token.specs.Tokens.{stretch}
use Rattle.tla_token.proofs.Scans.{drop_more}
use Rattle.module_split.specs.declared.stand.Shape.{Shape}
use Rattle.module_split.specs.declared.stand.Shape.TheVariants as shape
use Rattle.module_split.specs.declared.stand.Stand.{Stand}
use Rattle.module_tree.specs.TextFront.{Text, on_some}
use Rattle.module_tree.specs.HeaderAndRegion.{header_title}
use Rattle.module_tree.specs.Walk.{bytes, Located}
use Rattle.module_split.specs.StandsSeen.{segment_seen, located_seen, stands_seen, IsSolid}
use Rattle.module_tree.specs.FileParts.{title}
use Rattle.module_split.specs.SplitSeen.{is_header_stand}
use Rattle.module_split.proofs.SplitParts.{header_found, found_one}

-- a stretch of a stretch
pub stretch_in : (t : Text) (at len f g : ℕ) → g ≤ len → stretch (stretch t at (at + len)) f g ≡ stretch t (at + f) (at + g)
stretch_in t at len f g l = by (nat_le f g) refl
  where
    less : at + len - at ≡ len
    less = omega arith

    same : at + g - (at + f) ≡ g - f
    same = omega arith

    by : (k : Bool) → nat_le f g ≡ k → stretch (stretch t at (at + len)) f g ≡ stretch t (at + f) (at + g)
    by true k =
        let m : f ≤ g = leb-true f g k in
        let n : len ≡ f + (len - f) = omega arith in
        ap (λ (j : ℕ). take (g - f) (drop f (take j (drop at t)))) (less ∙ n)
        ∙ ap (take (g - f)) (drop-take f (len - f) (drop at t))
        ∙ take-take (g - f) (len - f) (drop f (drop at t)) (omega arith)
        ∙ (λ i. take (sym same i) (drop_more at f t i))
    by false k =
        let m : g < f = leb-false f g k in
        let n : g - f ≡ 0 = omega arith in
        let o : at + g - (at + f) ≡ 0 = omega arith in
        rw (n, o) refl

header_bytes : (x : Text) (d : Stand) → is_header_stand d ≡ true → bytes (segment_seen x d) ≡ stretch x d.at (d.at + d.len)
header_bytes x d h = by d.shape refl
  where
    by : (s : Shape) → d.shape ≡ s → bytes (segment_seen x d) ≡ stretch x d.at (d.at + d.len)
    by shape.Header e = rw e refl
    by shape.Free e = (let f : false ≡ true = rw e at h in absurd cc)
    by (shape.Part c) e = (let f : false ≡ true = rw e at h in absurd cc)
    by (shape.Region n) e = (let f : false ≡ true = rw e at h in absurd cc)
    by shape.Mark e = (let f : false ≡ true = rw e at h in absurd cc)
    by shape.Inner e = (let f : false ≡ true = rw e at h in absurd cc)
    by shape.Tail e = (let f : false ≡ true = rw e at h in absurd cc)

pub title_is : (x : Text) (ds : List Stand) (d : Stand) → All (IsSolid x) ds → Some d ≡ find is_header_stand ds → title (stands_seen x ds) ≡ header_title (stretch x d.at (d.at + d.len))
title_is x ds d solid e =
    ap (λ (o : Option Located). on_some o (λ d. header_title (bytes d.is))) ((header_found x ds ∙ ap (option_map (located_seen x)) (sym e)))
    ∙ ap header_title (header_bytes x d (found_one is_header_stand (IsSolid x) ds d solid (sym e)).1)

pub no_title : (x : Text) (ds : List Stand) → None ≡ find is_header_stand ds → is_some (title (stands_seen x ds)) ≡ true → ⊥
no_title x ds e h = (let n : title (stands_seen x ds) ≡ None = ap (λ (o : Option Located). on_some o (λ d. header_title (bytes d.is))) ((header_found x ds ∙ ap (option_map (located_seen x)) (sym e))) in let f : false ≡ true = rw n at h in absurd cc)
