-- The first use of a definition after what it reads was assigned, by what no test tells apart.
use Rattle.std.proofs.Common.{◌≡◌, List, [], ◌∷◌, Bool, true, false, ◌||◌, ◌&&◌, bytes_eq, Some, None, refl, sym, ◌∙◌, ap, map}
use Rattle.std.specs.List.{list_any, flat_map}
use Rattle.std.proofs.Math.Bool.{or-false}
use Rattle.tla_token.specs.declared.rule.Rule.TheVariants.{DefinedStale}
use Rattle.tla_token.specs.declared.rule.Refusal.{Refusal}
use Rattle.tla_token.specs.Signs.{is_among}
use Rattle.tla_tree.specs.Tree.{Word}
use Rattle.pcal_tree.specs.Algorithm.{Name}
use Rattle.pcal_tree.specs.Offences.{offence_if, first}
use Rattle.pcal_tree.specs.OffencesStale.{stands_for, stale_at}
use Rattle.pcal_tree.specs.Paths.{meets}
use Rattle.pcal_tree.specs.Reads.{Reading, through}
use Rattle.pcal_tree.specs.laws.MacroSpots.{Use, Origin, Trail, Seen, name_used, word_of, spot_of}
use Rattle.pcal_tree.proofs.FirstLaws.{same_first}
use Rattle.pcal_tree.proofs.SelfByMacro.{turned}
use Rattle.pcal_tree.proofs.SetLaws.{Same, any_flat, any_map, any_same, any_none, meets_any}
use Rattle.pcal_tree.proofs.SpotCalls.{met, passes, SeenLike}
use Rattle.pcal_tree.proofs.SpotMacros.{any_turned}

-- a name as a use after x was assigned
abbrev pub one_test : List Reading → (Refusal → Bool) → Name → Word → Bool
one_test ds f k x = is_among (through ds k.word) x && f (record { rule = DefinedStale; place = k.place })

abbrev pub stale_test : List Reading → List Name → (Refusal → Bool) → Origin → Use → Bool
stale_test ds ns f o u = list_any (λ x. list_any (λ k. one_test ds f k x) (stands_for ns (name_used u))) (word_of o)

pub any_and : {X : Type 0} (g : X → Bool) (c : Bool) (xs : List X) → (list_any g xs && c) ≡ list_any (λ x. g x && c) xs
any_and g c [] = refl
any_and g c (x ∷ xs) = by (g x) c (list_any g xs) ∙ ap (λ (b : Bool). (g x && c) || b) (any_and g c xs)
  where
    by : (a c b : Bool) → ((a || b) && c) ≡ ((a && c) || (b && c))
    by true true b = refl
    by true false true = refl
    by true false false = refl
    by false c b = refl

if_offends : (f : Refusal → Bool) (b : Bool) (n : Name) → list_any f (offence_if b DefinedStale n.place) ≡ (b && f (record { rule = DefinedStale; place = n.place }))
if_offends f true n = or-false (f (record { rule = DefinedStale; place = n.place }))
if_offends f false n = refl

met_by : (xs zs : List Word) → meets xs zs ≡ list_any (λ y. is_among zs y) xs
met_by xs zs =
    meets_any xs zs ∙ any_turned (λ z v. bytes_eq v z) zs xs
    ∙ any_same (λ v. list_any (λ z. bytes_eq v z) zs) (λ v. is_among zs v) (λ v. any_same (λ z. bytes_eq v z) (λ z. bytes_eq z v) (λ z. turned v z) zs) xs

one_seen : (ds : List Reading) (ns : List Name) (f : Refusal → Bool) (q : Trail) (u : Use)
    → list_any f (stale_at ds ns (spot_of (record { use_of = u; trail = q }))) ≡ met (stale_test ds ns f) q u
one_seen ds ns f None u =
    any_flat f (λ k. offence_if false DefinedStale k.place) (stands_for ns (name_used u)) ∙ any_none (λ k. false) (λ k. refl) (stands_for ns (name_used u))
one_seen ds ns f (Some os) u =
    any_flat f (λ k. offence_if (meets xs (through ds k.word)) DefinedStale k.place) all
    ∙ any_same (λ k. list_any f (offence_if (meets xs (through ds k.word)) DefinedStale k.place)) (λ k. list_any (λ x. one_test ds f k x) xs) each all
    ∙ any_turned (λ k x. one_test ds f k x) all xs
    ∙ any_flat (λ x. list_any (λ k. one_test ds f k x) all) word_of os
  where
    all : List Name
    all = stands_for ns (name_used u)

    xs : List Word
    xs = flat_map word_of os

    each : (k : Name) → list_any f (offence_if (meets xs (through ds k.word)) DefinedStale k.place) ≡ list_any (λ x. one_test ds f k x) xs
    each k =
        if_offends f (meets xs (through ds k.word)) k
        ∙ ap (λ (b : Bool). b && f (record { rule = DefinedStale; place = k.place })) (met_by xs (through ds k.word))
        ∙ any_and (λ x. is_among (through ds k.word) x) (f (record { rule = DefinedStale; place = k.place })) xs

pub all_seen : (ds : List Reading) (ns : List Name) (f : Refusal → Bool) (ss : List Seen) → list_any f (flat_map (stale_at ds ns) (map spot_of ss)) ≡ list_any (passes (stale_test ds ns f)) ss
all_seen ds ns f ss =
    any_flat f (stale_at ds ns) (map spot_of ss) ∙ any_map (λ s. list_any f (stale_at ds ns s)) spot_of ss
    ∙ any_same (λ s. list_any f (stale_at ds ns (spot_of s))) (passes (stale_test ds ns f)) (λ s. one_seen ds ns f s.trail s.use_of) ss

-- lists that no test tells apart have the same offences
pub stale_alike : (ds : List Reading) (ns : List Name) (ss rs : List Seen) → SeenLike ss rs → Same (flat_map (stale_at ds ns) (map spot_of ss)) (flat_map (stale_at ds ns) (map spot_of rs))
stale_alike ds ns ss rs l f = all_seen ds ns f ss ∙ l (stale_test ds ns f) ∙ sym (all_seen ds ns f rs)

pub stale_first : (ds : List Reading) (ns : List Name) (ss rs : List Seen) → SeenLike ss rs → first (flat_map (stale_at ds ns) (map spot_of ss)) ≡ first (flat_map (stale_at ds ns) (map spot_of rs))
stale_first ds ns ss rs l = same_first (flat_map (stale_at ds ns) (map spot_of ss)) (flat_map (stale_at ds ns) (map spot_of rs)) (stale_alike ds ns ss rs l)
