-- The names that a module has outside its algorithm are no more than the tokens there, and so than the bytes of a file, three times over.
use Rattle.std.proofs.Common.{◌≡◌, ℕ, zero, suc, ◌+◌, ◌-◌, ◌*◌, ◌≤◌, codes, List, [], ◌∷◌, ◌++◌, length, map, Bool, true, false, cond, Option, Some, None, is_some, if◌then◌else◌, inl, inr, ap, arith, length-append}
use Rattle.std.specs.List.{flat_map}
use Rattle.std.proofs.lemmas.List.{length-map}
use Rattle.tla_token.specs.Tokens as text
use Rattle.tla_token.specs.Signs.{is_among}
use Rattle.tla_tree.specs.Tree.{Word, Name, words}
use Rattle.tla_tree.specs.Lexical.{TokenView, Token, mark}
use Rattle.tla_tree.specs.Lexical as tk
use Rattle.tla_tree.specs.Spelling.{tree_of, spell}
use Rattle.tla_tree.specs.TokenViews.{view, views}
use Rattle.tla_value.specs.Outside.{Outside, Opaque, ReadDefinition, found}
use Rattle.module_tree.specs.FileParts.{before_first, up_to_first, after_first, is_newline, holds_algorithm, after_comment, region_of, before_spot, after_spot}
use Rattle.module_tree.specs.FileUnits.{token_in, with_token, tokens_in, begins_unit, Cut, cut_at, cut, units_in}
use Rattle.module_tree.specs.Grammar.{Names, last_name, more_names, spell_names, names_of, see}
use Rattle.module_tree.specs.Module.{OutsideUnit, extends, constants, defines, opaque, constants_of, definitions_of, unread_of, outside_of}
use Rattle.module_tree.specs.Outside.{Sight, identifiers, first_one, is_define, title_at, keyword_of, names_by, opaque_of, Named, Defined, IsOutside, AllOutside}
use Rattle.module_tree.specs.TextFront.{Text}
use Rattle.module_tree.specs.Units.{ParameterForm, spell_parameters, parameters}
use Rattle.module_tree.specs.Walk.{State, Located, is_region, segment_at, bytes, after_segment, walk_from, at_start, walk}
use Rattle.module_tree.specs.laws.Outsides.{HasOutside}
use Rattle.pcal_tree.specs.BoundNames.{all_of, lists_in}
use Rattle.pcal_tree.specs.Names.{taken_outside}
use Rattle.pcal_tree.specs.Outside.{unit_names, bound_outside}
use Rattle.pcal_tree.proofs.BoundTokens.{in_phrase}
use Rattle.pcal_tree.proofs.NamesWeighed.{many_in}

-- ---- a unit

abbrev defined_names : ReadDefinition → ℕ
defined_names d = suc (length d.definition.params + length (all_of (lists_in d.definition.body)))

-- the names of a unit that are taken
abbrev taken_by : OutsideUnit → ℕ
taken_by (extends ms) = 0
taken_by (constants xs) = length xs
taken_by (defines d) = defined_names d
taken_by (opaque o) = length o.names

names_spelled : (ns : Names) (ts : List Token) → length (names_of ns) + length ts ≤ length (spell_names ns ts)
names_spelled (last_name p x) ts = omega arith
names_spelled (more_names p x q ns) ts = (let u = names_spelled ns ts in omega arith)

parameters_spelled : (f : Option ParameterForm) (ts : List Token) → length (parameters f) + length ts ≤ length (spell_parameters f ts)
parameters_spelled None ts = omega arith
parameters_spelled (Some f) ts =
    let u = names_spelled f.names (see f.right (mark tk.close_bracket) ts) in
    let w = length-map (names_of f.names) (λ (x : Name). x.word) in
    omega arith

named_few : (w : Word) (ts : List Token) (xs : List Name) → Named w ts xs → length xs ≤ length ts
named_few w ts xs n =
    let u = names_spelled n.names [] in
    let e = ap (λ (us : List Token). length us) n.spelled in
    let f = ap (λ (ys : List Name). length ys) n.are in
    omega arith

defined_few : (v : Sight) (ts : List Token) (d : ReadDefinition) → Defined v ts d → defined_names d ≤ length ts
defined_few v ts d n =
    let q = parameters_spelled n.params (see n.sign (mark tk.defines) (spell n.body [])) in
    let b = in_phrase n.body [] in
    let m = many_in (tree_of n.body) in
    let e = ap (λ (us : List Token). length us) n.spelled in
    let i = ap defined_names n.is in
    omega arith

identifiers_few : (ts : List Token) → length (identifiers ts) ≤ length ts
identifiers_few [] = omega arith
identifiers_few (t ∷ ts) = (let u = identifiers_few ts in by t.kind u)
  where
    by : (k : TokenView) → length (identifiers ts) ≤ length ts → length (identifiers (record { kind = k; place = t.place } ∷ ts)) ≤ suc (length ts)
    by (tk.word x) u = omega arith
    by (tk.reserved x) u = omega arith
    by k u = omega arith

first_few : (xs : List Word) → length (first_one xs) ≤ length xs
first_few [] = omega arith
first_few (x ∷ xs) = omega arith

title_few : (ts : List Token) → length (title_at ts) ≤ length ts
title_few [] = omega arith
title_few (t ∷ []) = omega arith
title_few (t ∷ u ∷ ts) = by (is_define u.kind) (identifiers_few (t ∷ []))
  where
    by : (b : Bool) → length (identifiers (t ∷ [])) ≤ 1 → length (cond b (identifiers (t ∷ [])) []) ≤ suc (suc (length ts))
    by true h = omega arith
    by false h = omega arith

kept_few : (w : Word) (t : Token) (ts : List Token) → length (names_by w t ts) ≤ suc (length ts)
kept_few w t ts =
    by (is_among (codes "ASSUME" ∷ codes "ASSUMPTION" ∷ codes "AXIOM" ∷ codes "THEOREM" ∷ []) w) (is_among (codes "CONSTANT" ∷ codes "CONSTANTS" ∷ codes "RECURSIVE" ∷ []) w)
    (title_few ts) (identifiers_few ts) (first_few (identifiers (t ∷ ts))) (identifiers_few (t ∷ ts))
  where
    by : (a b : Bool) → length (title_at ts) ≤ length ts → length (identifiers ts) ≤ length ts → length (first_one (identifiers (t ∷ ts))) ≤ length (identifiers (t ∷ ts)) → length (identifiers (t ∷ ts)) ≤ suc (length ts)
        → length (cond a (title_at ts) (cond b (identifiers ts) (first_one (identifiers (t ∷ ts))))) ≤ suc (length ts)
    by true b p q r s = omega arith
    by false true p q r s = omega arith
    by false false p q r s = omega arith

opaque_few : (ts : List Token) → length (opaque_of ts).names ≤ length ts
opaque_few [] = omega arith
opaque_few (t ∷ ts) = kept_few (keyword_of t.kind) t ts

unit_few : (b : Bool) (v : Sight) (ts : List Token) (u : OutsideUnit) → IsOutside b v ts u → taken_by u ≤ length ts
unit_few b v ts (extends ms) h = omega arith
unit_few b v ts (constants xs) (inl h) = named_few (codes "CONSTANT") ts xs h
unit_few b v ts (constants xs) (inr h) = named_few (codes "CONSTANTS") ts xs h
unit_few b v ts (defines d) h = defined_few v ts d h.1
unit_few b v ts (opaque o) h =
    let e = ap (λ (p : Opaque). length p.names) h.1 in
    let u = opaque_few ts in
    omega arith

-- ---- units

abbrev all_taken : List OutsideUnit → ℕ
all_taken [] = 0
all_taken (u ∷ us) = taken_by u + all_taken us

abbrev tokens_of : List (List Token) → ℕ
tokens_of [] = 0
tokens_of (ts ∷ more) = length ts + tokens_of more

units_few : (b : Bool) (v : Sight) (tss : List (List Token)) (us : List OutsideUnit) → AllOutside b v tss us → all_taken us ≤ tokens_of tss
units_few b v [] [] h = omega arith
units_few b v (ts ∷ more) (u ∷ us) h =
    let p = unit_few b v ts u h.0 in
    let q = units_few b (record v { earlier = v.earlier ++ found (definitions_of u) }) more us h.1 in
    omega arith
units_few b v [] (u ∷ us) h = absurd h
units_few b v (ts ∷ more) [] h = absurd h

taken_both : (us ws : List OutsideUnit) → all_taken (us ++ ws) ≡ all_taken us + all_taken ws
taken_both [] ws = omega arith
taken_both (u ∷ us) ws = (let h = taken_both us ws in omega arith)

cut_few : (ts : List Token) → length (cut ts).front + tokens_of (cut ts).units ≡ length ts
cut_few [] = omega arith
cut_few (t ∷ ts) = by (begins_unit t) (cut ts) (cut_few ts)
  where
    by : (b : Bool) (c : Cut) → length c.front + tokens_of c.units ≡ length ts → length (cut_at b t c).front + tokens_of (cut_at b t c).units ≡ suc (length ts)
    by true c h = omega arith
    by false c h = omega arith

-- ---- what is outside

abbrev bound_in : ReadDefinition → List Word
bound_in d = d.definition.params ++ words (all_of (lists_in d.definition.body))

bound_count : (d : ReadDefinition) → suc (length (bound_in d)) ≡ defined_names d
bound_count d =
    let a = length-append d.definition.params (words (all_of (lists_in d.definition.body))) in
    let m = length-map (all_of (lists_in d.definition.body)) (λ (x : Name). x.word) in
    omega arith

parts_taken : (us : List OutsideUnit)
    → length (flat_map constants_of us) + (length (flat_map definitions_of us) + (length (flat_map (λ (o : Opaque). o.names) (flat_map unread_of us)) + length (flat_map bound_in (flat_map definitions_of us)))) ≡ all_taken us
parts_taken [] = omega arith
parts_taken (extends ms ∷ us) = (let h = parts_taken us in omega arith)
parts_taken (constants xs ∷ us) =
    let h = parts_taken us in
    let a = length-append xs (flat_map constants_of us) in
    omega arith
parts_taken (defines d ∷ us) =
    let h = parts_taken us in
    let a = length-append (bound_in d) (flat_map bound_in (flat_map definitions_of us)) in
    let b = bound_count d in
    omega arith
parts_taken (opaque o ∷ us) =
    let h = parts_taken us in
    let a = length-append o.names (flat_map (λ (p : Opaque). p.names) (flat_map unread_of us)) in
    omega arith

outside_taken : (us : List OutsideUnit) → length (taken_outside (outside_of us)) ≡ all_taken us
outside_taken us =
    let o = outside_of us in
    let p = parts_taken us in
    let a = length-append (unit_names (outside_of us)) (bound_outside (outside_of us)) in
    let b = length-append (words (flat_map constants_of us)) (map (λ (d : ReadDefinition). d.definition.title) (flat_map definitions_of us) ++ flat_map (λ (u : Opaque). u.names) (flat_map unread_of us)) in
    let c = length-append (map (λ (d : ReadDefinition). d.definition.title) (flat_map definitions_of us)) (flat_map (λ (u : Opaque). u.names) (flat_map unread_of us)) in
    let d = length-map (flat_map constants_of us) (λ (x : Name). x.word) in
    let e = length-map (flat_map definitions_of us) (λ (d : ReadDefinition). d.definition.title) in
    omega arith

-- ---- segments

tokens_few : (ds : List Located) → length (tokens_in ds) ≤ length ds
tokens_few [] = omega arith
tokens_few (d ∷ ds) = by (token_in d) (tokens_few ds)
  where
    by : (t : Option text.Token) → length (tokens_in ds) ≤ length ds → length (with_token t (tokens_in ds)) ≤ suc (length ds)
    by (Some t) h = omega arith
    by None h = omega arith

units_in_few : (ds : List Located) → tokens_of (units_in ds).units ≤ length ds
units_in_few ds =
    let c = cut_few (views (tokens_in ds)) in
    let v = length-map (tokens_in ds) view in
    let t = tokens_few ds in
    omega arith

before_few : (p : Located → Bool) (ds : List Located) → length (before_first p ds) ≤ length ds
before_few p [] = omega arith
before_few p (d ∷ ds) = by (p d) (before_few p ds)
  where
    by : (b : Bool) → length (before_first p ds) ≤ length ds → length (if b then [] else d ∷ before_first p ds) ≤ suc (length ds)
    by true h = omega arith
    by false h = omega arith

up_to_few : (p : Located → Bool) (ds : List Located) → length (up_to_first p ds) ≤ length ds
up_to_few p [] = omega arith
up_to_few p (d ∷ ds) = by (p d) (up_to_few p ds)
  where
    by : (b : Bool) → length (up_to_first p ds) ≤ length ds → suc (length (if b then [] else up_to_first p ds)) ≤ suc (length ds)
    by true h = omega arith
    by false h = omega arith

after_few : (p : Located → Bool) (ds : List Located) → length (after_first p ds) ≤ length ds
after_few p [] = omega arith
after_few p (d ∷ ds) = by (p d) (after_few p ds)
  where
    by : (b : Bool) → length (after_first p ds) ≤ length ds → length (if b then ds else after_first p ds) ≤ suc (length ds)
    by true h = omega arith
    by false h = omega arith

before_spot_few : (ds : List Located) → length (before_spot ds) ≤ 2 * length ds
before_spot_few ds = by (is_some (region_of ds)) (before_few (λ d. is_region d.is) ds) (up_to_few holds_algorithm ds) (up_to_few is_newline (after_comment ds)) (after_few holds_algorithm ds)
  where
    by : (b : Bool) → length (before_first (λ d. is_region d.is) ds) ≤ length ds → length (up_to_first holds_algorithm ds) ≤ length ds → length (up_to_first is_newline (after_comment ds)) ≤ length (after_comment ds) → length (after_comment ds) ≤ length ds
        → length (if b then before_first (λ d. is_region d.is) ds else up_to_first holds_algorithm ds ++ up_to_first is_newline (after_comment ds)) ≤ 2 * length ds
    by true p q r s = omega arith
    by false p q r s = (let a = length-append (up_to_first holds_algorithm ds) (up_to_first is_newline (after_comment ds)) in omega arith)

after_spot_few : (ds : List Located) → length (after_spot ds) ≤ length ds
after_spot_few ds = by (is_some (region_of ds)) (after_few (λ d. is_region d.is) ds) (after_few is_newline (after_comment ds)) (after_few holds_algorithm ds)
  where
    by : (b : Bool) → length (after_first (λ d. is_region d.is) ds) ≤ length ds → length (after_first is_newline (after_comment ds)) ≤ length (after_comment ds) → length (after_comment ds) ≤ length ds
        → length (if b then after_first (λ d. is_region d.is) ds else after_first is_newline (after_comment ds)) ≤ length ds
    by true p q r = omega arith
    by false p q r = omega arith

walk_few : (st : State) (k : ℕ) (x : Text) → length (walk_from st k x) ≤ length x
walk_few st k [] = omega arith
walk_few st (suc k) (b ∷ s) = (let h = walk_few st k s in omega arith)
walk_few st zero (b ∷ s) =
    let g = segment_at st b s in
    let h = walk_few (after_segment st g) (length (bytes g) - 1) s in
    omega arith

-- in a file
pub few_outside : (x : Text) (o : Outside) → HasOutside (walk x) o → length (taken_outside o) ≤ 3 * length x
few_outside x o h =
    let e = ap (λ (q : Outside). length (taken_outside q)) h.is in
    let t = outside_taken (h.before ++ h.after) in
    let b = taken_both h.before h.after in
    let u = units_few true _ _ h.before h.are_before in
    let v = units_few false _ _ h.after h.are_after in
    let p = units_in_few (before_spot (walk x)) in
    let q = units_in_few (after_spot (walk x)) in
    let r = before_spot_few (walk x) in
    let s = after_spot_few (walk x) in
    let w = walk_few at_start 0 x in
    omega arith
