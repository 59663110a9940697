-- What is computed once for each macro gives the same first offence: where it finds other uses of definitions than there are, a lesser rule is offended.
use Rattle.std.proofs.Common.{◌≡◌, ℕ, List, [], ◌++◌, Bool, true, false, ◌||◌, cond, reverse, Contains, ◌↔◌, refl, sym, ◌∙◌, ap}
use Rattle.std.specs.List.{list_any, flat_map}
use Rattle.std.proofs.Math.Bool.{or_comm}
use Rattle.std.proofs.lemmas.List.{append_assoc}
use Rattle.std.proofs.lemmas.List.Folds.{list_any-append}
use Rattle.tla_token.specs.declared.place.Place.{Place}
use Rattle.tla_token.specs.declared.rule.Rule.TheVariants.{Rebind, Reserved, DefinedStale}
use Rattle.tla_token.specs.declared.rule.Refusal.{Refusal}
use Rattle.tla_token.specs.Rules.{rule_number}
use Rattle.tla_tree.specs.Tree.{Word}
use Rattle.tla_value.specs.Outside.{Outside}
use Rattle.pcal_tree.specs.Algorithm.{Name, Statements, Main, alone, processes, Algorithm}
use Rattle.pcal_tree.specs.Offences.{offence_if, first}
use Rattle.pcal_tree.specs.OffencesLabels.{label_offences, label_offences_by}
use Rattle.pcal_tree.specs.OffencesModules.{module_needs, outside_variables}
use Rattle.pcal_tree.specs.OffencesNames.{repeated_names}
use Rattle.pcal_tree.specs.OffencesOfNames.{ThroughCalls, offences_of_uses, offences_of_declarations, offences_of_reads, name_offences_by, through_each_call, name_offences}
use Rattle.pcal_tree.specs.OffencesReads.{process_offences, own_offences, order_offences}
use Rattle.pcal_tree.specs.OffencesRebind.{rebind_offences_of}
use Rattle.pcal_tree.specs.OffencesReserved.{reserved_declared}
use Rattle.pcal_tree.specs.OffencesSelf.{self_offences}
use Rattle.pcal_tree.specs.OffencesStale.{stands_for, stale_at, Looking, stale_in, stale_in_procedure, stale_in_process, stale_in_main, stale_offences_by, written_out_spots, stale_offences}
use Rattle.pcal_tree.specs.Paths.{has_assigned}
use Rattle.pcal_tree.specs.Reads.{used, Reading, through, readings_of}
use Rattle.pcal_tree.specs.Spots.{Spot}
use Rattle.pcal_tree.specs.Variables.{declared}
use Rattle.pcal_tree.specs.laws.BoundDefinitions.{binds_definitions}
use Rattle.pcal_tree.specs.laws.MacroSpots.{spots_by_macros}
use Rattle.pcal_tree.specs.laws.MacroSummaries.{summaries, summary_effect}
use Rattle.pcal_tree.specs.laws.OffencesOnce.{once_for_each_macro}
use Rattle.pcal_tree.proofs.BoundWrittenOut.{unbound_written_out}
use Rattle.pcal_tree.proofs.EffectLaws.{offences_by_summaries}
use Rattle.pcal_tree.proofs.FirstLaws.{Below, lesser_first, same_first, same_offences}
use Rattle.pcal_tree.proofs.RebindsByMacro.{rebinds_alike}
use Rattle.pcal_tree.proofs.SetLaws.{Same, same_both, any_flat, any_none, none_of_both}
use Rattle.pcal_tree.proofs.StaleByMacro.{stale_same}
use Rattle.pcal_tree.proofs.UnboundDefinitions.{unbound_by_rules}
use Rattle.pcal_tree.proofs.UsesByMacro.{same_after, same_before, uses_alike}

-- an offence against a rule before that on definitions used after assignments
abbrev Early : Refusal → Bool
Early = Below (rule_number DefinedStale)

-- ---- offences of definitions used after assignments are none of lesser rules

none_flat : {X : Type 0} (f : Refusal → Bool) (g : X → List Refusal) → ((x : X) → list_any f (g x) ≡ false) → (xs : List X) → list_any f (flat_map g xs) ≡ false
none_flat f g h xs = any_flat f g xs ∙ any_none (λ x. list_any f (g x)) h xs

stale_at_late : (ds : List Reading) (ns : List Name) (s : Spot) → list_any Early (stale_at ds ns s) ≡ false
stale_at_late ds ns s =
    none_flat Early (λ n. offence_if (has_assigned s.path (through ds n.word)) DefinedStale n.place) (λ n. by n (has_assigned s.path (through ds n.word))) (stands_for ns s.name)
  where
    by : (n : Name) (b : Bool) → list_any Early (offence_if b DefinedStale n.place) ≡ false
    by n true = refl
    by n false = refl

stale_in_late : (L : Looking) (ds : List Reading) (ns : List Name) (xs : List Word) (b : Statements) → list_any Early (stale_in L ds ns xs b) ≡ false
stale_in_late L ds ns xs b = none_flat Early (stale_at ds ns) (stale_at_late ds ns) (L xs b)

stale_late : (L : Looking) (a : Algorithm) → list_any Early (stale_offences_by L a) ≡ false
stale_late L a =
    list_any-append Early (flat_map (stale_in_procedure L ds) a.procedures) (stale_in_main L ds a.main)
    ∙ (λ i. none_flat Early (stale_in_procedure L ds) (λ p. stale_in_late L ds [] (declared (p.params ++ p.variables)) p.body) a.procedures i || main a.main i)
  where
    ds : List Reading
    ds = readings_of a

    main : (m : Main) → list_any Early (stale_in_main L ds m) ≡ false
    main (alone b) = stale_in_late L ds [] [] b
    main (processes ps) = none_flat Early (stale_in_process L ds) (λ p. stale_in_late L ds (cond p.several [] (used p.identity [])) (declared p.variables) p.body) ps

-- ---- where no name is bound again and none is reserved

stale_same_by_rules : (f : Refusal → Bool) → ((at : Place) → f (record { rule = Rebind; place = at }) ≡ true) → ((at : Place) → f (record { rule = Reserved; place = at }) ≡ true)
    → (a : Algorithm) (o : Outside) → list_any f (rebind_offences_of a o) ≡ false → list_any f (reserved_declared a o) ≡ false
    → Same (stale_offences a) (stale_offences_by (spots_by_macros a) a)
stale_same_by_rules f told reserved a o q e = stale_same a (unbound_written_out a (unbound_by_rules f told reserved a o q e))

stale_same_if_late : (a : Algorithm) (o : Outside) → list_any Early (rebind_offences_of a o) ≡ false → list_any Early (reserved_declared a o) ≡ false
    → Same (stale_offences a) (stale_offences_by (spots_by_macros a) a)
stale_same_if_late = stale_same_by_rules Early (λ at. refl) (λ at. refl)

abbrev any : Refusal → Bool
any r = true

pub unbound_without_offences : (a : Algorithm) (o : Outside) → rebind_offences_of a o ≡ [] → reserved_declared a o ≡ [] → binds_definitions a ≡ false
unbound_without_offences a o q e = unbound_by_rules any (λ at. refl) (λ at. refl) a o (ap (list_any any) q) (ap (list_any any) e)

pub stale_alike_without_offences : (a : Algorithm) (o : Outside) → rebind_offences_of a o ≡ [] → reserved_declared a o ≡ []
    → (r : Refusal) → Contains (stale_offences a) r ↔ Contains (stale_offences_by (spots_by_macros a) a) r
stale_alike_without_offences a o q e =
    same_offences (stale_offences a) (stale_offences_by (spots_by_macros a) a)
    (stale_same_by_rules any (λ at. refl) (λ at. refl) a o (ap (list_any any) q) (ap (list_any any) e))

-- ---- the first offence

-- offences that are none of lesser rules, and that are the same unless there is one of a lesser rule
first_with_late : (xs ys ss ts : List Refusal) → Same xs ys → (list_any Early xs ≡ false → Same ss ts) → list_any Early ss ≡ false → list_any Early ts ≡ false
    → first (xs ++ ss) ≡ first (ys ++ ts)
first_with_late xs ys ss ts e h s t = by (list_any Early xs) refl
  where
    n : ℕ
    n = rule_number DefinedStale

    by : (b : Bool) → list_any Early xs ≡ b → first (xs ++ ss) ≡ first (ys ++ ts)
    by true k = lesser_first n xs ss k s ∙ same_first xs ys e ∙ sym (lesser_first n ys ts (sym (e Early) ∙ k) t)
    by false k = same_first (xs ++ ss) (ys ++ ts) (same_both xs ys ss ts e (h k))

-- the offences ss put at the end

turned : (ss zs : List Refusal) → Same (ss ++ zs) (zs ++ ss)
turned ss zs f = list_any-append f ss zs ∙ or_comm (list_any f ss) (list_any f zs) ∙ sym (list_any-append f zs ss)

to_end : (xs ys zs ss : List Refusal) → Same ys (zs ++ ss) → Same (xs ++ ys) ((xs ++ zs) ++ ss)
to_end xs ys zs ss h f = same_after xs ys (zs ++ ss) h f ∙ ap (list_any f) (sym (append_assoc xs zs ss))

to_end_of_others : (xs zs ss others : List Refusal) → Same xs (zs ++ ss) → Same (xs ++ others) ((zs ++ others) ++ ss)
to_end_of_others xs zs ss others h f =
    same_before xs (zs ++ ss) others h f ∙ ap (list_any f) (append_assoc zs ss others) ∙ to_end zs (ss ++ others) others ss (turned ss others) f

pub first_with_rebinds : (a : Algorithm) (o : Outside) (others : List Refusal)
    → first (rebind_offences_of a o ++ (reserved_declared a o ++ (stale_offences a ++ others)))
    ≡ first (rebind_offences_of a o ++ (reserved_declared a o ++ (stale_offences_by (spots_by_macros a) a ++ others)))
first_with_rebinds a o others =
    moved (stale_offences a) ∙ first_with_late before before (stale_offences a) by_macros (λ f. refl) same (stale_late (written_out_spots a) a) (stale_late (spots_by_macros a) a)
    ∙ sym (moved by_macros)
  where
    by_macros : List Refusal
    by_macros = stale_offences_by (spots_by_macros a) a

    rebound : List Refusal
    rebound = rebind_offences_of a o

    reserved : List Refusal
    reserved = reserved_declared a o

    before : List Refusal
    before = rebound ++ (reserved ++ others)

    moved : (ss : List Refusal) → first (rebound ++ (reserved ++ (ss ++ others))) ≡ first (before ++ ss)
    moved ss =
        same_first (rebound ++ (reserved ++ (ss ++ others))) (before ++ ss)
        (to_end rebound (reserved ++ (ss ++ others)) (reserved ++ others) ss (to_end reserved (ss ++ others) others ss (turned ss others)))

    same : list_any Early before ≡ false → Same (stale_offences a) by_macros
    same k =
        let p = none_of_both Early rebound (reserved ++ others) k in
        stale_same_if_late a o p.0 (none_of_both Early reserved others p.1).0

-- ---- all rules on names

abbrev without_stale : ThroughCalls → ThroughCalls
without_stale F = record { uses = F.uses; rebound = F.rebound; stale = [] }

stale_at_end : (F : ThroughCalls) (a : Algorithm) (o : Outside) → Same (name_offences_by F a o) (name_offences_by (without_stale F) a o ++ F.stale)
stale_at_end F a o =
    let U = offences_of_uses F a o in
    let V = offences_of_declarations F a o in
    let P = process_offences a in
    let W = own_offences a in
    let R = order_offences a in
    let Z = self_offences a in
    let S = F.stale in
    to_end U (V ++ (P ++ (W ++ (R ++ (S ++ Z))))) (V ++ (P ++ (W ++ (R ++ Z)))) S
    (to_end V (P ++ (W ++ (R ++ (S ++ Z)))) (P ++ (W ++ (R ++ Z))) S
    (to_end P (W ++ (R ++ (S ++ Z))) (W ++ (R ++ Z)) S (to_end W (R ++ (S ++ Z)) (R ++ Z) S (to_end R (S ++ Z) Z S (turned S Z)))))

others_same : (F G : ThroughCalls) (a : Algorithm) (o : Outside) → Same F.uses G.uses → Same F.rebound G.rebound
    → Same (name_offences_by (without_stale F) a o) (name_offences_by (without_stale G) a o)
others_same F G a o e h =
    let reads = offences_of_reads (without_stale F) a in
    let V = offences_of_declarations F a o in
    let W = offences_of_declarations G a o in
    same_both (offences_of_uses F a o) (offences_of_uses G a o) (V ++ reads) (W ++ reads)
    (same_before F.uses G.uses (module_needs a o ++ outside_variables o) e)
    (same_before V W reads
    (same_after (repeated_names a o) (F.rebound ++ reserved_declared a o) (G.rebound ++ reserved_declared a o) (same_before F.rebound G.rebound (reserved_declared a o) h)))

-- without an offence of a lesser rule than that on definitions, there is none by the rules on names bound again and on reserved names
none_before : (a : Algorithm) (o : Outside) (others : List Refusal) → list_any Early (name_offences_by (without_stale (through_each_call a o)) a o ++ others) ≡ false
    → (list_any Early (rebind_offences_of a o) ≡ false) × (list_any Early (reserved_declared a o) ≡ false)
none_before a o others e =
    let F = without_stale (through_each_call a o) in
    let U = offences_of_uses F a o in
    let V = offences_of_declarations F a o in
    let reads = offences_of_reads F a in
    let here = (none_of_both Early (name_offences_by F a o) others e).0 in
    let declared = (none_of_both Early V reads (none_of_both Early U (V ++ reads) here).1).0 in
    none_of_both Early (rebind_offences_of a o) (reserved_declared a o)
    (none_of_both Early (repeated_names a o) (rebind_offences_of a o ++ reserved_declared a o) declared).1

pub names_refused_alike : (a : Algorithm) (o : Outside) (others : List Refusal)
    → first (name_offences a o ++ others) ≡ first (name_offences_by (once_for_each_macro a o) a o ++ others)
names_refused_alike a o others =
    let F = through_each_call a o in
    let G = once_for_each_macro a o in
    let X = name_offences_by (without_stale F) a o in
    let Y = name_offences_by (without_stale G) a o in
    same_first (name_offences_by F a o ++ others) ((X ++ others) ++ F.stale) (to_end_of_others (name_offences_by F a o) X F.stale others (stale_at_end F a o))
    ∙ first_with_late (X ++ others) (Y ++ others) F.stale G.stale (same_before X Y others (others_same F G a o (uses_alike a o) (rebinds_alike a o)))
    (λ k. let p = none_before a o others k in stale_same_if_late a o p.0 p.1) (stale_late (written_out_spots a) a) (stale_late (spots_by_macros a) a)
    ∙ sym (same_first (name_offences_by G a o ++ others) ((Y ++ others) ++ G.stale) (to_end_of_others (name_offences_by G a o) Y G.stale others (stale_at_end G a o)))

pub names_and_labels_refused_alike : (a : Algorithm) (o : Outside) (others : List Refusal)
    → first (name_offences a o ++ (label_offences a ++ others))
    ≡ first (name_offences_by (once_for_each_macro a o) a o ++ (label_offences_by (summary_effect (summaries (reverse a.macros))) a ++ others))
names_and_labels_refused_alike a o others =
    names_refused_alike a o (label_offences a ++ others)
    ∙ ap (λ (rs : List Refusal). first (name_offences_by (once_for_each_macro a o) a o ++ (rs ++ others))) (offences_by_summaries a)
