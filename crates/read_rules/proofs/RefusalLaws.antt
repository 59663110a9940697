-- The offences of what is seen in memory.
use Rattle.std.proofs.Common.{◌≡◌, Bool, true, false, List, [], ◌∷◌, ◌++◌, map, cond, bytes_eq, codes, Option, Some, refl, sym, ap, ◌∙◌, subst}
use Rattle.std.specs.List.{list_any, flat_map}
use Rattle.std.proofs.lemmas.Grind.{flat_map-append}
use Rattle.std.proofs.lemmas.List.{map-append}
use Rattle.tla_token.specs.declared.rule.Refusal.{Refusal}
use Rattle.tla_tree.specs.Tree.{Word}
use Rattle.pcal_tree.specs.Algorithm.{Name, Procedure, Statements}
use Rattle.pcal_tree.specs.Offences.{first}
use Rattle.pcal_tree.specs.OffencesStale.{stands_for, stale_at}
use Rattle.pcal_tree.specs.Reads.{Reading}
use Rattle.pcal_tree.specs.laws.MacroSpots.{MacroSeen, earlier, assigned, on_trail, name_used, word_of, spot_of, seen_in, seen_in_call, seen_in_body, starting}
use Rattle.pcal_tree.specs.laws.MacroSpots as spots
use Rattle.pcal_tree.proofs.SpotCalls.{LikeTrail, passes}
use Rattle.algorithm_answer.specs.Joined.{joined}
use Rattle.algorithm_answer.proofs.Joins.{joined_assoc, first_append}
use Rattle.read_rules.specs.declared.assigned.Assigned.{Assigned}
use Rattle.read_rules.specs.declared.uses.Kind.{Kind}
use Rattle.read_rules.specs.declared.uses.Kind.TheVariants as kind
use Rattle.read_rules.specs.declared.uses.Use.{Use}
use Rattle.read_rules.specs.declared.walk.Group.{Group}
use Rattle.read_rules.specs.declared.walk.Walk.{Walk}
use Rattle.read_rules.specs.RefusalsIn.{name_offence, use_offences, looking}
use Rattle.read_rules.specs.SeenIn.{group_seen, seen_of, Walks}
use Rattle.read_rules.specs.Sets.{origins, trail_of}
use Rattle.read_rules.specs.UsesIn.{of_kind, use_of, uses_of}
use Rattle.read_rules.proofs.StaleLaws.{stale_first}

assigned_words : (xs : List Word) → flat_map word_of (map assigned xs) ≡ xs
assigned_words [] = refl
assigned_words (x ∷ xs) = ap (λ (ys : List Word). x ∷ ys) (assigned_words xs)

origins_words : (a : Assigned) → flat_map word_of (origins a) ≡ a.names
origins_words a = by a.earlier
  where
    by : (b : Bool) → flat_map word_of (cond b (earlier ∷ []) [] ++ map assigned a.names) ≡ a.names
    by true = assigned_words a.names
    by false = assigned_words a.names

pub name_kept : (k : Kind) (n : Name) → name_used (of_kind k n) ≡ n
name_kept kind.Value n = refl
name_kept kind.Left n = refl
name_kept kind.Other n = refl

one_stale : (ds : List Reading) (ns : List Name) (a : Assigned) (u : Use) → stale_at ds ns (spot_of (record { use_of = use_of u; trail = Some (origins a) })) ≡ use_offences ds ns a.names u
one_stale ds ns a u = λ i. flat_map (name_offence ds (origins_words a i)) (stands_for ns (name_kept u.kind u.name i))

uses_stale : (ds : List Reading) (ns : List Name) (a : Assigned) (us : List Use) → flat_map (stale_at ds ns) (map spot_of (on_trail (Some (origins a)) (uses_of us))) ≡ flat_map (use_offences ds ns a.names) us
uses_stale ds ns a [] = refl
uses_stale ds ns a (u ∷ us) = λ i. one_stale ds ns a u i ++ uses_stale ds ns a us i

-- those of one group
abbrev pub group_offences : List Reading → List Name → Group → List Refusal
group_offences ds ns g = flat_map (use_offences ds ns g.after.names) g.uses.items

pub groups_stale : (ds : List Reading) (ns : List Name) (gs : List Group) → flat_map (group_offences ds ns) gs ≡ flat_map (stale_at ds ns) (map spot_of (seen_of gs))
groups_stale ds ns [] = refl
groups_stale ds ns (g ∷ gs) =
    (λ i. sym (uses_stale ds ns g.after g.uses.items) i ++ groups_stale ds ns gs i)
    ∙ sym (ap (flat_map (stale_at ds ns)) (map-append spot_of (group_seen g) (seen_of gs)) ∙ flat_map-append (stale_at ds ns) (map spot_of (group_seen g)) (map spot_of (seen_of gs)))

-- a use of a name that is `self` or isn't
pub self_too : (ds : List Reading) (ns : List Name) (xs : List Word) (n : Name) (b : Bool) → b ≡ bytes_eq (codes "self") n.word → (so_far found : Option Refusal) → found ≡ joined so_far (first (name_offence ds xs n))
    → joined found (first (flat_map (name_offence ds xs) (cond b ns []))) ≡ joined so_far (first (flat_map (name_offence ds xs) (stands_for ns n)))
self_too ds ns xs n b e so_far found h =
    ap (λ (o : Option Refusal). joined o (first (flat_map (name_offence ds xs) (cond b ns [])))) h ∙ joined_assoc so_far (first (name_offence ds xs n)) (first (flat_map (name_offence ds xs) (cond b ns [])))
    ∙ ap (joined so_far) (sym (first_append (name_offence ds xs n) (flat_map (name_offence ds xs) (cond b ns []))) ∙ ap (λ (c : Bool). first (flat_map (name_offence ds xs) (n ∷ cond c ns []))) e)

-- a path that has assigned nothing
pub nothing_yet : (a : Assigned) → a.earlier ≡ false → a.names ≡ [] → trail_of (Some a) ≡ Some []
nothing_yet a e n = λ i. Some (cond (e i) (earlier ∷ []) [] ++ map assigned (n i))

pub body_stale : (ms : List MacroSeen) (ps : List Procedure) (ds : List Reading) (ns : List Name) (b : Statements) (old new : Walk) → old.seen.items ≡ [] → old.labelled ≡ false → trail_of old.path ≡ Some []
    → Walks old new (λ z. seen_in_body (seen_in_call ms) ps b z) → first (flat_map (stale_at ds ns) (map spot_of (seen_of new.seen.items))) ≡ first (flat_map (stale_at ds ns) (looking ms ps [] b))
body_stale ms ps ds ns b old new s l t w =
    let z = starting false (Some []) in
    let u = w z (l, subst (λ (q : spots.Trail). LikeTrail q (Some [])) (sym t) (λ f. refl)) in
    stale_first ds ns (seen_of new.seen.items) (seen_in (seen_in_call ms) ps b z)
    (λ K. u.1 K ∙ ap (λ (gs : List Group). list_any (passes K) (seen_of gs ++ seen_in (seen_in_call ms) ps b z)) s)
