-- The place of a translation is as good among segments that look the same to it.
use Rattle.std.proofs.Common.{◌≡◌, ℕ, suc, ◌+◌, nat_eq, Bool, true, false, not, ◌&&◌, ◌||◌, List, [], ◌∷◌, ◌++◌, Option, Some, None, refl, sym, ap, ◌∙◌}
use Rattle.std.specs.Prelude.{is_some}
use Rattle.tla_token.specs.Lexemes.{Kind}
use Rattle.tla_token.specs.Tokens.{blank}
use Rattle.tla_token.specs.Offences.{sound, Offence, offence_if}
use Rattle.tla_token.specs.declared.rule.Rule.TheVariants.{Placement}
use Rattle.tla_tree.specs.TokenViews.{kind_of}
use Rattle.module_tree.specs.TextFront.{Text}
use Rattle.module_tree.specs.Beginnings.{begins_algorithm, all_at}
use Rattle.module_tree.specs.Walk.{Segment, part, is_region, Located}
use Rattle.module_tree.specs.FileParts.{within, first_of, holds_algorithm, after_first, after_comment, region_of, is_newline}
use Rattle.module_tree.specs.FileUnits.{kind_of_segment, is_starter, is_bar}
use Rattle.module_tree.specs.FileOffences.{rest_of_line, no_unit, placements}
use Rattle.module_tree.proofs.WalkPlace.{both_empty}
use Rattle.module_tree.proofs.WalkAlike.{shown}

-- ---- segments that look the same to it

abbrev pub is_space : Segment → Bool
is_space (part (sound (blank b))) = true
is_space g = false

pub record Like (d e : Located) : Type 0 where
  pub region : is_region d.is ≡ is_region e.is
  pub algorithm : holds_algorithm d ≡ holds_algorithm e
  pub newline : is_newline d ≡ is_newline e
  pub space : is_space d.is ≡ is_space e.is
  pub kind : kind_of_segment d.is ≡ kind_of_segment e.is
  pub line : nat_eq d.place.col 1 ≡ nat_eq e.place.col 1

abbrev pub AllLike : List Located → List Located → Type 0
AllLike [] [] = Unit {0}
AllLike (d ∷ ds) (e ∷ es) = Like d e × AllLike ds es
AllLike _ _ = ⊥

pub like_self : (ds : List Located) → AllLike ds ds
like_self [] = tt
like_self (d ∷ ds) = (record { region = refl; algorithm = refl; newline = refl; space = refl; kind = refl; line = refl }, like_self ds)

pub like_both : (ds es us vs : List Located) → AllLike ds es → AllLike us vs → AllLike (ds ++ us) (es ++ vs)
like_both [] [] us vs h k = k
like_both [] (e ∷ es) us vs h k = absurd h
like_both (d ∷ ds) [] us vs h k = absurd h
like_both (d ∷ ds) (e ∷ es) us vs h k = (h.0, like_both ds es us vs h.1 k)

same_held : (p : Text → Bool) (k l : ℕ) (u : Text) → is_some (first_of (all_at p k u)) ≡ is_some (first_of (all_at p l u))
same_held p k l [] = refl
same_held p k l (b ∷ u) = by (p (b ∷ u)) refl (same_held p (suc k) (suc l) u)
  where
    by : (t : Bool) → p (b ∷ u) ≡ t → is_some (first_of (all_at p (suc k) u)) ≡ is_some (first_of (all_at p (suc l) u)) → is_some (first_of (all_at p k (b ∷ u))) ≡ is_some (first_of (all_at p l (b ∷ u)))
    by true t deeper = rw t refl
    by false t deeper = rw t deeper

like_same : (d e : Located) → d.is ≡ e.is → nat_eq d.place.col 1 ≡ nat_eq e.place.col 1 → Like d e
like_same d e s l = record {
  region = ap is_region s;
  algorithm = same_held begins_algorithm (d.at + 2) (e.at + 2) (within d.is) ∙ ap (λ (g : Segment). is_some (first_of (all_at begins_algorithm (e.at + 2) (within g)))) s;
  newline = newline_of s;
  space = ap is_space s;
  kind = ap kind_of_segment s;
  line = l;
}
  where
    newline_of : d.is ≡ e.is → is_newline d ≡ is_newline e
    newline_of s = ap (λ (g : Segment). is_newline (record { at = d.at; place = d.place; is = g })) s

pub like_shown : (ds es : List Located) → shown ds ≡ shown es → AllLike ds es
like_shown [] [] s = tt
like_shown [] (e ∷ es) s = absurd cc
like_shown (d ∷ ds) [] s = absurd cc
like_shown (d ∷ ds) (e ∷ es) s =
    let first : ◌≡◌ {A = Segment × Bool} (d.is, nat_eq d.place.col 1) (e.is, nat_eq e.place.col 1) = cc in
    let more : shown ds ≡ shown es = cc in
    (like_same d e (ap (λ p. p.0) first) (ap (λ p. p.1) first), like_shown ds es more)

-- ---- what is after the place

like_after : (p : Located → Bool) → ((d e : Located) → Like d e → p d ≡ p e) → (ds es : List Located) → AllLike ds es → AllLike (after_first p ds) (after_first p es)
like_after p f [] [] h = tt
like_after p f [] (e ∷ es) h = absurd h
like_after p f (d ∷ ds) [] h = absurd h
like_after p f (d ∷ ds) (e ∷ es) h = by (p e) refl (like_after p f ds es h.1)
  where
    by : (k : Bool) → p e ≡ k → AllLike (after_first p ds) (after_first p es) → AllLike (after_first p (d ∷ ds)) (after_first p (e ∷ es))
    by true k deeper = (let m : p d ≡ true = f d e h.0 ∙ k in rw (k, m) h.1)
    by false k deeper = (let m : p d ≡ false = f d e h.0 ∙ k in rw (k, m) deeper)

like_region : (ds es : List Located) → AllLike ds es → is_some (region_of ds) ≡ is_some (region_of es)
like_region [] [] h = refl
like_region [] (e ∷ es) h = absurd h
like_region (d ∷ ds) [] h = absurd h
like_region (d ∷ ds) (e ∷ es) h = by (is_region e.is) refl (like_region ds es h.1)
  where
    by : (k : Bool) → is_region e.is ≡ k → is_some (region_of ds) ≡ is_some (region_of es) → is_some (region_of (d ∷ ds)) ≡ is_some (region_of (e ∷ es))
    by true k deeper = (let m : is_region d.is ≡ true = h.0.region ∙ k in rw (k, m) refl)
    by false k deeper = (let m : is_region d.is ≡ false = h.0.region ∙ k in rw (k, m) deeper)

-- ---- the rest of the line

-- a blank is there, or the newline
goes_on : (d : Located) (ds : List Located) → is_newline d ≡ false → rest_of_line (d ∷ ds) ≡ [] → (is_space d.is ≡ true) × (rest_of_line ds ≡ [])
goes_on d ds n h = by d.is refl
  where
    by : (g : Segment) → d.is ≡ g → (is_space d.is ≡ true) × (rest_of_line ds ≡ [])
    by (part (sound (blank b))) g = (let r : rest_of_line ds ≡ [] = rw (n, g) at h in (ap is_space g, r))
    by s g = (let f : ◌≡◌ {A = List Offence} ((Placement, d.at) ∷ []) [] = rw (n, g) at h in absurd cc)

over_space : (d : Located) (ds : List Located) → is_newline d ≡ false → is_space d.is ≡ true → rest_of_line ds ≡ [] → rest_of_line (d ∷ ds) ≡ []
over_space d ds n h e = by d.is refl
  where
    by : (g : Segment) → d.is ≡ g → rest_of_line (d ∷ ds) ≡ []
    by (part (sound (blank b))) g = rw (n, g) e
    by s g = (let f : false ≡ true = sym (ap is_space g) ∙ h in absurd cc)

like_rest : (ds es : List Located) → AllLike ds es → rest_of_line ds ≡ [] → rest_of_line es ≡ []
like_rest [] [] h e = refl
like_rest [] (d ∷ es) h e = absurd h
like_rest (d ∷ ds) [] h e = refl
like_rest (d ∷ ds) (c ∷ es) h e = by (is_newline c) refl (like_rest ds es h.1)
  where
    by : (k : Bool) → is_newline c ≡ k → (rest_of_line ds ≡ [] → rest_of_line es ≡ []) → rest_of_line (c ∷ es) ≡ []
    by true k deeper = rw k refl
    by false k deeper = (let g = goes_on d ds (h.0.newline ∙ k) e in over_space c es k (sym h.0.space ∙ g.0) (deeper g.1))

-- ---- the first token

like_units : (ds es : List Located) → AllLike ds es → no_unit ds ≡ [] → no_unit es ≡ []
like_units [] [] h e = refl
like_units [] (d ∷ es) h e = absurd h
like_units (d ∷ ds) [] h e = refl
like_units (d ∷ ds) (c ∷ es) h e = by (kind_of_segment c.is) refl (like_units ds es h.1)
  where
    by : (o : Option Kind) → kind_of_segment c.is ≡ o → (no_unit ds ≡ [] → no_unit es ≡ []) → no_unit (c ∷ es) ≡ []
    by None o deeper =
        let m : kind_of_segment d.is ≡ None = h.0.kind ∙ o in
        let f : no_unit ds ≡ [] = rw m at e in
        rw o (deeper f)
    by (Some k) o deeper =
        let m : kind_of_segment d.is ≡ Some k = h.0.kind ∙ o in
        let f : offence_if (not ((nat_eq d.place.col 1 && is_starter (kind_of k)) || is_bar (kind_of k))) Placement d.at ≡ [] = rw m at e in
        rw o (on ((nat_eq c.place.col 1 && is_starter (kind_of k)) || is_bar (kind_of k)) (ap (λ (l : Bool). offence_if (not ((l && is_starter (kind_of k)) || is_bar (kind_of k))) Placement d.at) (sym h.0.line) ∙ f))
      where
        on : (k : Bool) → offence_if (not k) Placement d.at ≡ [] → offence_if (not k) Placement c.at ≡ []
        on true f = refl
        on false f = absurd cc

-- ---- both

pub placed_alike : (ds es : List Located) → AllLike ds es → placements ds ≡ [] → placements es ≡ []
placed_alike ds es h e = by (is_some (region_of es)) refl
  where
    commented : AllLike (after_comment ds) (after_comment es)
    commented = like_after holds_algorithm (λ c d l. l.algorithm) ds es h

    by : (k : Bool) → is_some (region_of es) ≡ k → placements es ≡ []
    by true k =
        let m : is_some (region_of ds) ≡ true = like_region ds es h ∙ k in
        let f : no_unit (after_first (λ d. is_region d.is) ds) ≡ [] = rw m at e in
        rw k (like_units _ _ (like_after (λ d. is_region d.is) (λ c d l. l.region) ds es h) f)
    by false k =
        let m : is_some (region_of ds) ≡ false = like_region ds es h ∙ k in
        let f : rest_of_line (after_comment ds) ++ no_unit (after_first is_newline (after_comment ds)) ≡ [] = rw m at e in
        let g = both_empty (rest_of_line (after_comment ds)) (no_unit (after_first is_newline (after_comment ds))) f in
        let rest = like_rest (after_comment ds) (after_comment es) commented g.0 in
        let unit = like_units _ _ (like_after is_newline (λ c d l. l.newline) (after_comment ds) (after_comment es) commented) g.1 in
        rw k (λ i. rest i ++ unit i)
