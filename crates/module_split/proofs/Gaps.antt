-- The segments round the place of a translation.
use Rattle.std.proofs.Common.{◌≡◌, ℕ, zero, suc, ◌+◌, ◌<◌, ◌≤◌, Bool, true, false, not, cond, List, [], ◌∷◌, ◌++◌, length, get_or, take, drop, Option, Some, None, refl, sym, ap, subst, ◌∙◌, arith, append-nil}
use Rattle.std.specs.Prelude.{is_some, slice_get, find, All}
use Rattle.std.specs.Option.{option_map}
use Rattle.std.specs.List.{position_or_len}
use Rattle.std.proofs.lemmas.List.{drop-map, take-map, take-append-drop}
use Rattle.std.proofs.lemmas.List.Elements.{All-take, All-drop}
use Rattle.std.proofs.lemmas.List.Folds.{find_at}
use Rattle.tla_token.specs.Tokens.{stretch}
use Rattle.module_split.specs.declared.stand.Shape.{Shape}
use Rattle.module_split.specs.declared.stand.Shape.TheVariants as shape
use Rattle.module_split.specs.declared.stand.Stand.{Stand}
use Rattle.module_split.specs.declared.split.Gap.{Gap}
use Rattle.module_tree.specs.TextFront.{Text, on_some}
use Rattle.module_tree.specs.Walk.{Located, is_region, bytes}
use Rattle.module_split.specs.StandsSeen.{segment_of, segment_seen, located_seen, stands_seen, IsSolid}
use Rattle.module_tree.specs.FileParts as parts
use Rattle.module_tree.specs.FileParts.{before_first, after_first, up_to_first, region_of, span_of, holds_algorithm, is_newline, after_comment, insertion, before_spot, after_spot, spot}
use Rattle.module_split.specs.SplitSeen.{is_region_stand, span_seen, after_newline, IsGap}
use Rattle.module_split.proofs.StandSteps.{before_is, up_to_is, after_is}
use Rattle.module_split.proofs.Comments.{found_seen, none_seen, stretch_len}

abbrev holds_region : Located → Bool
holds_region d = is_region d.is

pub region_seen : (x : Text) (d : Stand) → is_region (segment_seen x d) ≡ is_region_stand d
region_seen x d = by d.shape
  where
    by : (s : Shape) → is_region (segment_of s (stretch x d.at (d.at + d.len))) ≡ is_region_stand (record { at = d.at; len = d.len; place = d.place; shape = s })
    by shape.Free = refl
    by shape.Header = refl
    by (shape.Part c) = refl
    by (shape.Region n) = refl
    by shape.Mark = refl
    by shape.Inner = refl
    by shape.Tail = refl

pub first_region : (x : Text) (ds : List Stand) → position_or_len holds_region (stands_seen x ds) ≡ position_or_len is_region_stand ds
first_region x [] = refl
first_region x (d ∷ ds) = (λ i. cond (not (region_seen x d i)) (1 + first_region x ds i) 0)

is_there : (p : Stand → Bool) (ds : List Stand) (i : ℕ) (e : Stand) → i ≡ position_or_len p ds → i < length ds → p (get_or ds i e) ≡ true
is_there p [] i e h l = absurd (omega arith)
is_there p (d ∷ ds) i e h l = by (p d) refl (is_there p ds)
  where
    by : (k : Bool) → p d ≡ k → ((i : ℕ) (e : Stand) → i ≡ position_or_len p ds → i < length ds → p (get_or ds i e) ≡ true) → p (get_or (d ∷ ds) i e) ≡ true
    by true k deeper = (let z : i ≡ 0 = rw k at h in rw z k)
    by false k deeper =
        let z : i ≡ 1 + position_or_len p ds = rw k at h in
        let s : i ≡ suc (position_or_len p ds) = omega arith in
        rw s (deeper (position_or_len p ds) e refl (omega arith))

pub region_bytes : (x : Text) (d : Stand) → IsSolid x d → is_region_stand d ≡ true → length (bytes (segment_seen x d)) ≡ d.len
region_bytes x d h r = by d.shape r
  where
    by : (s : Shape) → is_region_stand (record { at = d.at; len = d.len; place = d.place; shape = s }) ≡ true → length (bytes (segment_of s (stretch x d.at (d.at + d.len)))) ≡ d.len
    by (shape.Region n) r = ap length (take-append-drop n (stretch x d.at (d.at + d.len))) ∙ stretch_len x d.at d.len h.within
    by shape.Free r = absurd cc
    by shape.Header r = absurd cc
    by (shape.Part c) r = absurd cc
    by shape.Mark r = absurd cc
    by shape.Inner r = absurd cc
    by shape.Tail r = absurd cc

-- ---- where a region is

pub gap_old : (x : Text) (ds : List Stand) (i : ℕ) (e : Stand) (g : Gap) → All (IsSolid x) ds → i ≡ position_or_len is_region_stand ds → i < length ds → g.before.now ≡ take i ds → g.line.now ≡ [] → g.after.now ≡ drop (1 + i) ds
    → g.spot ≡ Some (record { from = (get_or ds i e).at; to = (get_or ds i e).at + (get_or ds i e).len }) → g.is_new ≡ false → IsGap x ds g
gap_old x ds i e g solid h l before line after place new =
    let S = stands_seen x ds in
    let d = get_or ds i e in
    let at : i ≡ position_or_len holds_region S = h ∙ sym (first_region x ds) in
    let found : region_of S ≡ Some (located_seen x d) = found_seen holds_region x ds i e at l in
    let some : is_some (region_of S) ≡ true = ap is_some found in
    let size : length (bytes (segment_seen x d)) ≡ d.len = region_bytes x d (solid i e l) (is_there is_region_stand ds i e h l) in
    let P : List Stand → Type 0 = λ u. All (IsSolid x) u in
    record {
      is_new = some ∙ ap not (sym new);
      before = rw some (before_is holds_region S ∙ ap (λ (n : ℕ). take n S) (sym at) ∙ take-map (located_seen x) i ds ∙ ap (stands_seen x) (sym before) ∙ sym (append-nil (stands_seen x g.before.now)) ∙ ap (λ (u : List Stand). stands_seen x g.before.now ++ stands_seen x u) (sym line));
      after = rw some (after_is holds_region S ∙ ap (λ (n : ℕ). drop (1 + n) S) (sym at) ∙ drop-map (located_seen x) (1 + i) ds ∙ ap (stands_seen x) (sym after));
      spot = rw found (ap (λ (n : ℕ). Some (record { from = d.at; to = d.at + n })) size) ∙ ap (option_map span_seen) (sym place);
      solid_before = subst P (sym before) (All-take (IsSolid x) i ds solid);
      solid_line = subst P (sym line) (λ k d l. absurd (omega arith));
      solid_after = subst P (sym after) (All-drop (IsSolid x) (1 + i) ds solid);
    }

-- ---- where none is

abbrev put : Located → Option parts.Span
put d = Some (record { from = d.at + 1; to = d.at + 1 })

pub gap_new : (x : Text) (ds : List Stand) (i comment end : ℕ) (g : Gap) → All (IsSolid x) ds → i ≡ position_or_len is_region_stand ds → length ds ≤ i → comment ≡ position_or_len holds_algorithm (stands_seen x ds)
    → (rest : List Stand) → rest ≡ drop (1 + comment) ds → end ≡ position_or_len is_newline (stands_seen x rest) → g.before.now ≡ take (1 + comment) ds → g.line.now ≡ take (1 + end) rest → g.after.now ≡ drop (1 + end) rest
    → g.spot ≡ option_map after_newline (slice_get rest end) → g.is_new ≡ true → IsGap x ds g
gap_new x ds i comment end g solid h l at_comment rest is_rest at_end before line after place new =
    let S = stands_seen x ds in
    let R = stands_seen x rest in
    let at : i ≡ position_or_len holds_region S = h ∙ sym (first_region x ds) in
    let found : region_of S ≡ None = none_seen holds_region x ds i at l in
    let none : is_some (region_of S) ≡ false = ap is_some found in
    let lower : after_comment S ≡ R = after_is holds_algorithm S ∙ ap (λ (n : ℕ). drop (1 + n) S) (sym at_comment) ∙ drop-map (located_seen x) (1 + comment) ds ∙ ap (stands_seen x) (sym is_rest) in
    let upper : up_to_first holds_algorithm S ≡ stands_seen x g.before.now = up_to_is holds_algorithm S ∙ ap (λ (n : ℕ). take (1 + n) S) (sym at_comment) ∙ take-map (located_seen x) (1 + comment) ds ∙ ap (stands_seen x) (sym before) in
    let on_line : up_to_first is_newline R ≡ stands_seen x g.line.now = up_to_is is_newline R ∙ ap (λ (n : ℕ). take (1 + n) R) (sym at_end) ∙ take-map (located_seen x) (1 + end) rest ∙ ap (stands_seen x) (sym line) in
    let behind : after_first is_newline R ≡ stands_seen x g.after.now = after_is is_newline R ∙ ap (λ (n : ℕ). drop (1 + n) R) (sym at_end) ∙ drop-map (located_seen x) (1 + end) rest ∙ ap (stands_seen x) (sym after) in
    let P : List Stand → Type 0 = λ u. All (IsSolid x) u in
    let solid_rest : All (IsSolid x) rest = subst P (sym is_rest) (All-drop (IsSolid x) (1 + comment) ds solid) in
    record {
      is_new = none ∙ ap not (sym new);
      before = rw none ((λ j. upper j ++ up_to_first is_newline (lower j)) ∙ ap (λ (u : List Located). stands_seen x g.before.now ++ u) on_line);
      after = rw none (ap (after_first is_newline) lower ∙ behind);
      spot = rw found (ap (λ (u : List Located). on_some (find is_newline u) put) lower ∙ newline_at x rest end at_end) ∙ ap (option_map span_seen) (sym place);
      solid_before = subst P (sym before) (All-take (IsSolid x) (1 + comment) ds solid);
      solid_line = subst P (sym line) (All-take (IsSolid x) (1 + end) rest solid_rest);
      solid_after = subst P (sym after) (All-drop (IsSolid x) (1 + end) rest solid_rest);
    }
  where
    newline_at : (x : Text) (rest : List Stand) (end : ℕ) → end ≡ position_or_len is_newline (stands_seen x rest) → on_some (find is_newline (stands_seen x rest)) put ≡ option_map span_seen (option_map after_newline (slice_get rest end))
    newline_at x rest end h = ap (λ (o : Option Located). on_some o put) (find_at is_newline (stands_seen x rest) ∙ ap (slice_get (stands_seen x rest)) (sym h) ∙ got x rest end) ∙ through (slice_get rest end)
      where
        got : (x : Text) (ds : List Stand) (i : ℕ) → slice_get (stands_seen x ds) i ≡ option_map (located_seen x) (slice_get ds i)
        got x [] i = refl
        got x (d ∷ ds) zero = refl
        got x (d ∷ ds) (suc i) = got x ds i

        through : (o : Option Stand) → on_some (option_map (located_seen x) o) put ≡ option_map span_seen (option_map after_newline o)
        through None = refl
        through (Some d) = refl
