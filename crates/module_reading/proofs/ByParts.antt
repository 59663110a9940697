-- The module that a text is, by its parts.
use Rattle.std.proofs.Common.{◌≡◌, ℕ, Bool, true, false, not, ◌&&◌, if◌then◌else◌, List, [], ◌∷◌, map, Option, Some, None, Result, Err, inl, inr, refl, sym, ap, ◌∙◌, subst, arith}
use Rattle.std.specs.Prelude.{is_some}
use Rattle.std.proofs.lemmas.Option.{none-some, same_Some}
use Rattle.tla_token.specs.declared.rule.Rule.TheVariants.{Syntax}
use Rattle.tla_token.specs.declared.rule.Refusal.{Refusal}
use Rattle.tla_token.specs.declared.rule.Stop.{Stop}
use Rattle.tla_token.specs.declared.rule.Stop.TheVariants as stop
use Rattle.tla_token.specs.declared.token.Token as code
use Rattle.tla_token.specs.declared.token.Tokens.{Tokens}
use Rattle.tla_token.specs.Tokens.{stretch}
use Rattle.tla_token.specs.TokensSeen.{token_seen, tokens_seen}
use Rattle.tla_tree.specs.Lexical.{Token}
use Rattle.tla_tree.specs.Nesting.{nesting_in, deepest_in_module}
use Rattle.tla_tree.specs.TokenViews.{view, views}
use Rattle.tla_tree.specs.Whole.{read_bounded}
use Rattle.tla_value.specs.Outside.{Outside}
use Rattle.module_tree.specs.Module.{Region, Module}
use Rattle.module_tree.specs.TextFront.{Text}
use Rattle.module_tree.specs.Walk.{walk}
use Rattle.module_tree.specs.FileParts.{region_of, before_spot, after_spot, inside_region}
use Rattle.module_tree.specs.FileUnits.{cut, tokens_in}
use Rattle.expr_nodes.specs.ReadIn.{seen}
use Rattle.expr_nodes.specs.Ahead.{ahead}
use Rattle.outside_reading.specs.PlainUnits.{outside_in}
use Rattle.outside_reading.specs.SmallNumbers.{all_small}
use Rattle.region_reading.specs.Bound.{Bound, unbounded}
use Rattle.region_reading.specs.ModuleReader.{is_nothing, are_small, units_are, region_of_units, is_sound_region, translation_of, is_sound_file, terminates_alike, module_if, module_of, outside_of_file, module_within, module_in}
use Rattle.region_reading.specs.Nests.{region_nests}
use Rattle.region_reading.specs.ReadAnswer.{beginning, ReadsModule, RefusesModule}
use Rattle.region_reading.proofs.BoundIsRead.{bound_is_read}
use Rattle.region_reading.proofs.BoundedModules.{module_same, module_opens, module_fits}
use Rattle.region_reading.proofs.ModulesRead.{module_ok, module_read}
use Rattle.region_split.specs.declared.parts.RegionParts.{RegionParts}
use Rattle.region_split.specs.Parted.{IsParted, IsNoModule}
use Rattle.module_reading.specs.Translated.{module_bound, are_sound, translated, IsTranslation, NoTranslation}
use Rattle.module_reading.proofs.SmallTokens.{views_small}

-- ---- no module

syntax_refused : (x : Text) → module_in x ≡ None → RefusesModule x (record { rule = Syntax; place = beginning })
syntax_refused x h = (refl, inl (refl, λ m r. none-some m (sym h ∙ module_read x m r)))

pub no_module : (x : Text) → IsNoModule x → RefusesModule x (record { rule = Syntax; place = beginning })
no_module x h = syntax_refused x (h unbounded)

pub same_stop : {T : Type 0} (s t : Stop) → ◌≡◌ {A = Result T Stop} (Err s) (Err t) → s ≡ t
same_stop s t e = cc

-- the refusal that is told is this one
pub told : {T : Type 0} (x : Text) (q : Refusal) (s : Stop) → s ≡ stop.Refused q → RefusesModule x q → (r : Refusal) → ◌≡◌ {A = Result T Stop} (Err s) (Err (stop.Refused r)) → RefusesModule x r
told {T} x q s e h r f = subst (RefusesModule x) (same q r (sym (ap (λ (t : Stop). Err t) e) ∙ f)) h
  where
    same : (q r : Refusal) → ◌≡◌ {A = Result T Stop} (Err (stop.Refused q)) (Err (stop.Refused r)) → q ≡ r
    same q r f = cc

-- ---- tokens in memory are those that are seen

seen_views : (bytes : List ℕ) (ts : List code.Token) → seen bytes ts ≡ views (map (token_seen bytes) ts)
seen_views bytes [] = refl
seen_views bytes (t ∷ ts) = ap (λ (us : List Token). view (token_seen bytes t) ∷ us) (seen_views bytes ts)

ahead_is : (v : Tokens) → ahead v 0 ≡ views (tokens_seen v)
ahead_is v = seen_views v.bytes.items v.items.items

-- ---- the tests of a module

-- that of the file and that of its translation, together
both : (t : Text) (o : Outside) (q : Option Region) (a b : Bool) → (if a then module_of (Some t) o (if b then q else None) else None) ≡ (if a && b then module_of (Some t) o q else None)
both t o q true true = refl
both t o q true false = refl
both t o q false b = refl

-- ---- the parts of a module that is there

there : (t : Text) (o : Outside) (q : Option Region) (m : Module) → module_of (Some t) o q ≡ Some m → (g : Region) × (q ≡ Some g) × (terminates_alike g ≡ true) × (g ≡ m.region)
there t o (Some g) m e = by (terminates_alike g) refl e
  where
    by : (b : Bool) → terminates_alike g ≡ b → module_if b t o g ≡ Some m → (q : Region) × (Some g ≡ Some q) × (terminates_alike q ≡ true) × (q ≡ m.region)
    by true k e = (g, refl, k, ap (λ (m : Module). m.region) (same_Some (record { title = t; outside = o; region = g }) m e))
    by false k e = absurd (none-some m e)
there t o None m e = absurd (none-some m e)

-- ---- by the parts of a text

module _ (x : Text) (p : RegionParts) (h : IsParted x p) where
  abbrev name : Text
  name = stretch x p.title.from p.title.to

  abbrev inside : List Token
  inside = ahead p.inside 0

  abbrev after : List Token
  after = ahead p.after 0

  abbrev beside : Outside
  beside = outside_in (cut (ahead p.before 0)).units (cut after).units

  seen_before : views (tokens_in (before_spot (walk x))) ≡ ahead p.before 0
  seen_before = sym (ahead_is p.before ∙ ap views h.before)

  seen_inside : views (tokens_in (inside_region h.region)) ≡ inside
  seen_inside = sym (ahead_is p.inside ∙ ap views h.inside)

  seen_after : views (tokens_in (after_spot (walk x))) ≡ after
  seen_after = sym (ahead_is p.after ∙ ap views h.after)

  file_sound : is_sound_file (walk x) ≡ is_nothing (cut after).front
  file_sound = λ i. h.ended i && (is_nothing (h.sound i) && is_nothing (cut (seen_after i)).front)

  small : are_small (tokens_in (inside_region h.region)) ≡ all_small inside
  small = sym (views_small (tokens_in (inside_region h.region))) ∙ ap all_small seen_inside

  region_sound : is_sound_region (inside_region h.region) ≡ (all_small inside && is_nothing (cut inside).front)
  region_sound = λ i. is_nothing (h.sound_inside i) && (not (is_some (h.open_ended i)) && (small i && is_nothing (cut (seen_inside i)).front))

  translation_is : (m : Bound) → translation_of m (region_of (walk x)) ≡ (if all_small inside && is_nothing (cut inside).front then translated m (cut inside).units else None)
  translation_is m = ap (translation_of m) h.is_region ∙ (λ i. if region_sound i then region_of_units (units_are m (cut (seen_inside i)).units) else None)

  outside_is : outside_of_file (walk x) ≡ beside
  outside_is = λ i. outside_in (cut (seen_before i)).units (cut (seen_after i)).units

  by_parts : (m : Bound) → module_within m x ≡ (if are_sound inside after then module_of (Some name) beside (translated m (cut inside).units) else None)
  by_parts m =
      (λ i. if file_sound i then module_of (h.title i) (outside_is i) (translation_is m i) else None)
      ∙ both name beside (translated m (cut inside).units) (is_nothing (cut after).front) (all_small inside && is_nothing (cut inside).front)

  pub unsound : are_sound inside after ≡ false → RefusesModule x (record { rule = Syntax; place = beginning })
  unsound e = syntax_refused x (by_parts unbounded ∙ ap (λ (b : Bool). if b then module_of (Some name) beside (translated unbounded (cut inside).units) else None) e)

  module _ (sound : are_sound inside after ≡ true) where
    module_is : (m : Bound) → module_within m x ≡ module_of (Some name) beside (translated m (cut inside).units)
    module_is m = by_parts m ∙ ap (λ (b : Bool). if b then module_of (Some name) beside (translated m (cut inside).units) else None) sound

    pub refused : (r : Refusal) → NoTranslation (cut inside).units (stop.Refused r) → RefusesModule x r
    refused r (q, inl e) = (
      q,
      inl (
        e.0,
        λ m reads.
            (let g = there name beside (translated unbounded (cut inside).units) m (sym (module_is unbounded) ∙ module_read x m reads) in
            e.1 g.0 g.1 g.2),
      ),
    )
    refused r (q, inr e) = (
      q,
      inr (
        e.0,
        λ m reads within.
            (let fits = module_fits read_bounded (nesting_in false) bound_is_read deepest_in_module x within.0 m (module_read x m reads) in
            let g = there name beside (translated module_bound (cut inside).units) m (sym (module_is module_bound) ∙ fits) in
            let same : region_nests g.0 ≡ region_nests m.region = ap region_nests g.3 in
            let low = within.1 in
            e.1 g.0 g.1 (omega (arith, same, low))),
      ),
    )

    pub refused_by : (s : Stop) (r : Refusal) → s ≡ stop.Refused r → NoTranslation (cut inside).units s → RefusesModule x r
    refused_by s r e none = refused r (subst (NoTranslation (cut inside).units) e none)

    pub is_read : (o : Outside) (g : Region) → o ≡ beside → IsTranslation (cut inside).units g → ReadsModule x (record { title = name; outside = o; region = g })
    is_read o g e t =
        let made : module_within module_bound x ≡ Some (record { title = name; outside = o; region = g }) =
        module_is module_bound ∙ ap (module_of (Some name) beside) t.is ∙ ap (λ (b : Bool). module_if b name beside g) t.fit.alike
        ∙ ap (λ (o : Outside). Some (record { title = name; outside = o; region = g })) (sym e)
        in
        let m : Module = record { title = name; outside = o; region = g } in (
          module_ok x m (module_same read_bounded (nesting_in false) bound_is_read deepest_in_module x m made),
          (module_opens read_bounded (nesting_in false) bound_is_read deepest_in_module x m made, t.fit.shallow),
        )
