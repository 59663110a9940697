-- What was computed once for each macro finds the uses of definitions that are found with macro calls written out.
use Rattle.std.proofs.Common.{◌≡◌, List, [], ◌∷◌, ◌++◌, Bool, true, false, ◌||◌, ◌&&◌, cond, bytes_eq, codes, reverse, Some, None, Contains, ◌↔◌, refl, sym, ◌∙◌, ap, map}
use Rattle.std.specs.Option.{option_map}
use Rattle.std.specs.List.{list_any, flat_map}
use Rattle.std.proofs.Math.Bool.{or-false}
use Rattle.std.proofs.lemmas.Bool.{or_parts}
use Rattle.tla_token.specs.declared.rule.Rule.TheVariants.{DefinedStale}
use Rattle.tla_token.specs.declared.rule.Refusal.{Refusal}
use Rattle.tla_token.specs.Signs.{is_among}
use Rattle.tla_tree.specs.Tree.{Word}
use Rattle.pcal_tree.specs.Algorithm.{Name, Statements, Procedure, Main, alone, processes, Algorithm}
use Rattle.pcal_tree.specs.BoundNames.{lists_in_body}
use Rattle.pcal_tree.specs.Expand.{written_out, expanded}
use Rattle.pcal_tree.specs.Offences.{offence_if, first}
use Rattle.pcal_tree.specs.OffencesStale.{stands_for, stale_at, stale_in, stale_in_procedure, stale_in_process, stale_in_main, stale_offences_by, written_out_spots, stale_offences}
use Rattle.pcal_tree.specs.Paths.{Path, meets}
use Rattle.pcal_tree.specs.Reads.{used, Reading, through, readings_of}
use Rattle.pcal_tree.specs.Variables.{declared}
use Rattle.pcal_tree.specs.laws.MacroSpots.{Use, Origin, earlier, assigned, Trail, seen_in, seen_in_call, macros_seen, starting, name_used, word_of, spot_of, spots_by_macros}
use Rattle.pcal_tree.specs.laws.BoundDefinitions.{lists_have_one, may_be_stale, rebinds_in, rebinds_in_main, rebinds_definitions}
use Rattle.pcal_tree.proofs.FirstLaws.{same_offences, same_first}
use Rattle.pcal_tree.proofs.SelfByMacro.{turned}
use Rattle.pcal_tree.proofs.SetLaws.{Same, same_both, any_flat, any_map, any_same, any_none, meets_any}
use Rattle.pcal_tree.proofs.SpotCalls.{passes, met, seen_like}
use Rattle.pcal_tree.proofs.SpotMacros.{any_turned, macros_like}
use Rattle.pcal_tree.proofs.SpotsSeen.{Test, hit, hits, origin_test, list_sees}
use Rattle.pcal_tree.proofs.UsesByMacro.{same_before}

-- ---- one use

abbrev stale_test : List Reading → List Name → (Refusal → Bool) → Word → Name → Bool
stale_test ds ns f y n = list_any (λ k. is_among (through ds k.word) y && f (record { rule = DefinedStale; place = k.place })) (stands_for ns n)

any_and : {X : Type 0} (g : X → Bool) (c : Bool) (xs : List X) → (list_any g xs && c) ≡ list_any (λ x. g x && c) xs
any_and g c [] = refl
any_and g c (x ∷ xs) = by (g x) c (list_any g xs) ∙ ap (λ (b : Bool). (g x && c) || b) (any_and g c xs)
  where
    by : (a c b : Bool) → ((a || b) && c) ≡ ((a && c) || (b && c))
    by true true b = refl
    by true false true = refl
    by true false false = refl
    by false c b = refl

if_offends : (f : Refusal → Bool) (b : Bool) (n : Name) → list_any f (offence_if b DefinedStale n.place) ≡ (b && f (record { rule = DefinedStale; place = n.place }))
if_offends f true n = or-false (f (record { rule = DefinedStale; place = n.place }))
if_offends f false n = refl

met_by : (xs zs : List Word) → meets xs zs ≡ list_any (λ y. is_among zs y) xs
met_by xs zs =
    meets_any xs zs ∙ any_turned (λ z v. bytes_eq v z) zs xs
    ∙ any_same (λ v. list_any (λ z. bytes_eq v z) zs) (λ v. is_among zs v) (λ v. any_same (λ z. bytes_eq v z) (λ z. bytes_eq z v) (λ z. turned v z) zs) xs

not_through : (ds : List Reading) (x : Word) → is_among (map (λ d. d.title) ds) x ≡ false → through ds x ≡ []
not_through [] x e = refl
not_through (d ∷ ds) x e = by (bytes_eq d.title x) e (not_through ds x)
  where
    by : (b : Bool) → (b || is_among (map (λ d. d.title) ds) x) ≡ false → (is_among (map (λ d. d.title) ds) x ≡ false → through ds x ≡ []) → cond b d.variables (through ds x) ≡ []
    by true e rest = cc
    by false e rest = rest e

-- neither `self` nor the name of a definition
stale_blind : (ds : List Reading) (ns : List Name) (f : Refusal → Bool) (y : Word) (n : Name) → is_among (codes "self" ∷ map (λ d. d.title) ds) n.word ≡ false
    → stale_test ds ns f y n ≡ false
stale_blind ds ns f y n e =
    let h = or_parts (bytes_eq (codes "self") n.word) (is_among (map (λ d. d.title) ds) n.word) e in
    (λ i. list_any (λ k. is_among (through ds k.word) y && f (record { rule = DefinedStale; place = k.place })) (n ∷ cond (h.0 i) ns []))
    ∙ (λ i. (is_among (not_through ds n.word h.1 i) y && f (record { rule = DefinedStale; place = n.place })) || false)

abbrev stale_for : Algorithm → List Name → (Refusal → Bool) → Test
stale_for a ns f = record { matters = may_be_stale a; test = stale_test (readings_of a) ns f; blind = stale_blind (readings_of a) ns f }

stale_hit : (a : Algorithm) (ns : List Name) (f : Refusal → Bool) (p : Path) (n : Name)
    → list_any f (stale_at (readings_of a) ns (record { name = n; path = p })) ≡ hit (stale_for a ns f) p n
stale_hit a ns f None n =
    any_flat f (λ k. offence_if false DefinedStale k.place) (stands_for ns n) ∙ any_none (λ k. false) (λ k. refl) (stands_for ns n)
stale_hit a ns f (Some xs) n =
    any_flat f (λ k. offence_if (meets xs (through ds k.word)) DefinedStale k.place) (stands_for ns n)
    ∙ any_same (λ k. list_any f (offence_if (meets xs (through ds k.word)) DefinedStale k.place)) (λ k. list_any (λ y. one k y) xs) each (stands_for ns n)
    ∙ any_turned (λ k y. one k y) (stands_for ns n) xs
  where
    ds : List Reading
    ds = readings_of a

    one : Name → Word → Bool
    one k y = is_among (through ds k.word) y && f (record { rule = DefinedStale; place = k.place })

    each : (k : Name) → list_any f (offence_if (meets xs (through ds k.word)) DefinedStale k.place) ≡ list_any (λ y. one k y) xs
    each k =
        if_offends f (meets xs (through ds k.word)) k
        ∙ ap (λ (b : Bool). b && f (record { rule = DefinedStale; place = k.place })) (met_by xs (through ds k.word))
        ∙ any_and (λ y. is_among (through ds k.word) y) (f (record { rule = DefinedStale; place = k.place })) xs

-- what is seen, as a spot
seen_hit : (T : Test) (q : Trail) (u : Use) → hit T (option_map (flat_map word_of) q) (name_used u) ≡ met (origin_test T) q u
seen_hit T None u = refl
seen_hit T (Some os) u =
    any_flat (λ y. T.test y (name_used u)) word_of os
    ∙ any_same (λ o. list_any (λ y. T.test y (name_used u)) (word_of o)) (λ o. origin_test T o u) one os
  where
    one : (o : Origin) → list_any (λ y. T.test y (name_used u)) (word_of o) ≡ origin_test T o u
    one earlier = refl
    one (assigned x) = or-false (T.test x (name_used u))

-- ---- one body

body_same : (a : Algorithm) (ns : List Name) (xs : List Word) (b : Statements) → rebinds_in a xs b ≡ false
    → Same (stale_in (written_out_spots a) (readings_of a) ns xs b) (stale_in (spots_by_macros a) (readings_of a) ns xs b)
body_same a ns xs b e f =
    let ds = readings_of a in
    let ps = a.procedures in
    let ms = reverse a.macros in
    let T = stale_for a ns f in
    let S = seen_in_call (macros_seen ps ms) in
    let start = starting false (Some []) in
    let seen = seen_in S ps b start in
    let h = or_parts (list_any (may_be_stale a) xs) (lists_have_one (may_be_stale a) (lists_in_body (expanded ms b))) e in
    any_flat f (stale_at ds ns) (written_out_spots a xs b)
    ∙ any_same (λ s. list_any f (stale_at ds ns s)) (hits T) (λ s. stale_hit a ns f s.path s.name) (written_out_spots a xs b)
    ∙ list_sees T ps false (Some []) (expanded ms b) xs h.0 h.1
    ∙ seen_like (written_out ms) S ps (macros_like ps ms) b start start (refl, λ k. refl) (origin_test T)
    ∙ any_same (passes (origin_test T)) (λ s. list_any f (stale_at ds ns (spot_of s)))
    (λ s. sym (stale_hit a ns f (spot_of s).path (spot_of s).name ∙ seen_hit T s.trail s.use_of)) seen
    ∙ sym (any_map (λ s. list_any f (stale_at ds ns s)) spot_of seen)
    ∙ sym (any_flat f (stale_at ds ns) (map spot_of seen))

-- ---- algorithms

each_same : {X : Type 0} (bad : X → Bool) (g h : X → List Refusal) → ((x : X) → bad x ≡ false → Same (g x) (h x)) → (xs : List X) → list_any bad xs ≡ false
    → Same (flat_map g xs) (flat_map h xs)
each_same bad g h s [] e = λ f. refl
each_same bad g h s (x ∷ xs) e =
    let k = or_parts (bad x) (list_any bad xs) e in
    same_both (g x) (h x) (flat_map g xs) (flat_map h xs) (s x k.0) (each_same bad g h s xs k.1)

main_same : (a : Algorithm) (m : Main) → rebinds_in_main a m ≡ false
    → Same (stale_in_main (written_out_spots a) (readings_of a) m) (stale_in_main (spots_by_macros a) (readings_of a) m)
main_same a (alone b) e = body_same a [] [] b e
main_same a (processes ps) e =
    each_same (λ p. rebinds_in a (declared p.variables) p.body) (stale_in_process (written_out_spots a) (readings_of a)) (stale_in_process (spots_by_macros a) (readings_of a))
    (λ p. body_same a (cond p.several [] (used p.identity [])) (declared p.variables) p.body) ps e

pub stale_same : (a : Algorithm) → rebinds_definitions a ≡ false → Same (stale_offences a) (stale_offences_by (spots_by_macros a) a)
stale_same a e =
    let bad : Procedure → Bool = λ p. rebinds_in a (declared (p.params ++ p.variables)) p.body in
    let k = or_parts (list_any bad a.procedures) (rebinds_in_main a a.main) e in
    let ds = readings_of a in
    same_both (flat_map (stale_in_procedure (written_out_spots a) ds) a.procedures) (flat_map (stale_in_procedure (spots_by_macros a) ds) a.procedures)
    (stale_in_main (written_out_spots a) ds a.main) (stale_in_main (spots_by_macros a) ds a.main)
    (each_same bad (stale_in_procedure (written_out_spots a) ds) (stale_in_procedure (spots_by_macros a) ds)
    (λ p. body_same a [] (declared (p.params ++ p.variables)) p.body) a.procedures k.0)
    (main_same a a.main k.1)

pub stale_alike : (a : Algorithm) → rebinds_definitions a ≡ false → (r : Refusal) → Contains (stale_offences a) r ↔ Contains (stale_offences_by (spots_by_macros a) a) r
stale_alike a e = same_offences (stale_offences a) (stale_offences_by (spots_by_macros a) a) (stale_same a e)

pub first_stale : (a : Algorithm) → rebinds_definitions a ≡ false → (others : List Refusal)
    → first (stale_offences a ++ others) ≡ first (stale_offences_by (spots_by_macros a) a ++ others)
first_stale a e others =
    let by_macros = stale_offences_by (spots_by_macros a) a in
    same_first (stale_offences a ++ others) (by_macros ++ others) (same_before (stale_offences a) by_macros others (stale_same a e))
