-- Uses that are kept each once.
use Rattle.std.proofs.Common.{◌≡◌, ℕ, zero, suc, arith, ◌+◌, ◌<◌, ◌≤◌, Bool, true, false, ◌&&◌, ◌||◌, List, [], ◌∷◌, ◌++◌, length, take, get_or, Option, Some, None, refl, sym, ap, ◌∙◌, subst, cond, append-nil, append_assoc, nat_eq, eqb-true, slice_get, unwrap_or}
use Rattle.std.specs.Prelude.{if◌then◌else◌}
use Rattle.std.specs.List.{list_any}
use Rattle.std.specs.Option.{option_map}
use Rattle.std.specs.Map.{lookup}
use Rattle.std.proofs.lemmas.Bool.{and_parts}
use Rattle.std.proofs.lemmas.List.{take_more, take_all, map-append}
use Rattle.std.proofs.lemmas.List.Elements.{filter-append}
use Rattle.std.proofs.lemmas.Option.{get_or_from_slice_get}
use Rattle.std.proofs.lemmas.List.Folds.{list_any-append}
use Rattle.std.proofs.lemmas.Grind.{flat_map-append}
use Rattle.std.proofs.Math.Bool.{or-false}
use Rattle.indexmap.specs.IndexMap.{insert_entry}
use Rattle.algorithm_limits.proofs.Tables.{equal, equal_is}
use Rattle.tla_tree.specs.Tree.{Word}
use Rattle.pcal_tree.specs.Algorithm.{Name}
use Rattle.pcal_tree.specs.laws.MacroSpots.{Use, name_used, Origin, Trail, Seen, Called, on_trail}
use Rattle.pcal_tree.proofs.SetLaws.{Sound, any_flat, any_none, any_same}
use Rattle.pcal_tree.proofs.SpotCalls.{LikeTrail, met, passes, SeenLike}
use Rattle.read_rules.specs.declared.assigned.Assigned.{Assigned}
use Rattle.read_rules.specs.declared.once.Key.{Key}
use Rattle.read_rules.specs.declared.uses.Kind.{Kind}
use Rattle.read_rules.specs.declared.uses.Kind.TheVariants as kind
use Rattle.read_rules.specs.declared.uses.Use as memory
use Rattle.read_rules.specs.declared.walk.Group.{Group}
use Rattle.read_rules.specs.declared.walk.Walk.{Walk}
use Rattle.read_rules.specs.Joins.{Joins}
use Rattle.read_rules.specs.OnceIn.{Entry, entry_seen, entries_seen, key_use, Keeps}
use Rattle.read_rules.specs.Pruned.{only, pruned}
use Rattle.read_rules.specs.SeenIn.{group_seen, seen_of, IsWay}
use Rattle.read_rules.specs.Sets.{origins, trail_of}
use Rattle.read_rules.specs.UsesIn.{use_of, uses_of}
use Rattle.read_rules.proofs.ReadLaws.{any_filter}
use Rattle.read_rules.proofs.RefusalLaws.{name_kept}
use Rattle.read_rules.proofs.WalkLaws.{seen_append}
use Rattle.read_rules.specs.contracts.uses.KindPartialEq.TheImpl.{eq-value as kinds}
use Rattle.read_rules.specs.contracts.once.KeyPartialEq.TheImpl.{eq-value as same}

-- ---- what is the same is equal

fields_sound : (kinds : Kind → Kind → Bool) → Sound kinds
    → Sound (λ (a b : Key). equal a.name b.name && (kinds a.kind b.kind && (nat_eq a.line b.line && nat_eq a.col b.col)))
fields_sound kinds sound a b e =
    let h = and_parts (equal a.name b.name) (kinds a.kind b.kind && (nat_eq a.line b.line && nat_eq a.col b.col)) e in
    let q = and_parts (kinds a.kind b.kind) (nat_eq a.line b.line && nat_eq a.col b.col) h.1 in
    let p = and_parts (nat_eq a.line b.line) (nat_eq a.col b.col) q.1 in
    λ i. record { name = equal_is a.name b.name h.0 i; kind = sound a.kind b.kind q.0 i; line = eqb-true a.line b.line p.0 i; col = eqb-true a.col b.col p.1 i }

kinds_sound : Sound kinds.it
kinds_sound kind.Value kind.Value e = refl
kinds_sound kind.Left kind.Left e = refl
kinds_sound kind.Other kind.Other e = refl
kinds_sound kind.Value kind.Left e = cc
kinds_sound kind.Value kind.Other e = cc
kinds_sound kind.Left kind.Value e = cc
kinds_sound kind.Left kind.Other e = cc
kinds_sound kind.Other kind.Value e = cc
kinds_sound kind.Other kind.Left e = cc

keys_sound : Sound same.it
keys_sound = fields_sound kinds.it kinds_sound

-- ---- one more entry, or more of one

or_swapped : (a b c : Bool) → ((a || b) || c) ≡ ((a || c) || b)
or_swapped true b c = refl
or_swapped false true true = refl
or_swapped false true false = refl
or_swapped false false true = refl
or_swapped false false false = refl

or_after : (a b c : Bool) → (a || (b || c)) ≡ ((a || b) || c)
or_after true b c = refl
or_after false b c = refl

any_insert : {K V : Type 0} (eq : K → K → Bool) → Sound eq → (f : K × V → Bool) (t : Bool) (es : List (K × V)) (k : K) (v : V)
    → ((w : V) → lookup (eq k) es ≡ Some w → f (k, v) ≡ (f (k, w) || t)) → (lookup (eq k) es ≡ None → f (k, v) ≡ t)
    → list_any f (insert_entry eq es k v) ≡ (list_any f es || t)
any_insert eq sound f t [] k v some none = or-false (f (k, v)) ∙ none refl
any_insert {K = K} {V = V} eq sound f t (e ∷ es) k v some none = by (eq k e.0) refl some none (any_insert eq sound f t es k v)
  where
    by : (b : Bool) → eq k e.0 ≡ b → ((w : V) → cond b (Some e.1) (lookup (eq k) es) ≡ Some w → f (k, v) ≡ (f (k, w) || t))
        → (cond b (Some e.1) (lookup (eq k) es) ≡ None → f (k, v) ≡ t)
        → (((w : V) → lookup (eq k) es ≡ Some w → f (k, v) ≡ (f (k, w) || t)) → (lookup (eq k) es ≡ None → f (k, v) ≡ t) → list_any f (insert_entry eq es k v) ≡ (list_any f es || t))
        → list_any f (if b then (e.0, v) ∷ es else e ∷ insert_entry eq es k v) ≡ ((f e || list_any f es) || t)
    by true h some none rest =
        ap (λ (b : Bool). b || list_any f es) (subst (λ (x : K). f (x, v) ≡ (f (x, e.1) || t)) (sound k e.0 h) (some e.1 refl))
        ∙ or_swapped (f e) t (list_any f es)
    by false h some none rest = ap (λ (b : Bool). f e || b) (rest some none) ∙ or_after (f e) (list_any f es) t

-- an insertion, by what is there of the use
keeps_put : (es : List Entry) (k : Key) (v : Assigned) (ss : List Seen)
    → ((K : Origin → Use → Bool) (w : Assigned) → lookup (same.it k) es ≡ Some w → list_any (passes K) (entry_seen (k, v)) ≡ (list_any (passes K) (entry_seen (k, w)) || list_any (passes K) ss))
    → ((K : Origin → Use → Bool) → lookup (same.it k) es ≡ None → list_any (passes K) (entry_seen (k, v)) ≡ list_any (passes K) ss)
    → Keeps es (insert_entry same.it es k v) ss
keeps_put es k v ss some none K =
    let f : Entry → Bool = λ e. list_any (passes K) (entry_seen e) in
    any_flat (passes K) entry_seen (insert_entry same.it es k v)
    ∙ any_insert same.it keys_sound f (list_any (passes K) ss) es k v (some K) (none K)
    ∙ ap (λ (b : Bool). b || list_any (passes K) ss) (sym (any_flat (passes K) entry_seen es))
    ∙ sym (list_any-append (passes K) (entries_seen es) ss)

pub keeps_joined : (es fs : List Entry) (k : Key) (v a : Assigned) (u : Use) → key_use k ≡ u → Joins (unwrap_or (option_map origins (lookup (same.it k) es)) []) (origins v) (origins a)
    → fs ≡ insert_entry same.it es k v → Keeps es fs (on_trail (Some (origins a)) (u ∷ []))
keeps_joined es fs k v a u e l is =
    subst (λ (gs : List Entry). Keeps es gs (on_trail (Some (origins a)) (u ∷ []))) (sym is)
    (keeps_put es k v (on_trail (Some (origins a)) (u ∷ []))
    (λ K w h.
    all K (Some w) h ∙ each (list_any (λ o. K o (key_use k)) (origins w)) (list_any (λ o. K o (key_use k)) (origins a))
    ∙ ap (λ (y : Use). (list_any (λ o. K o (key_use k)) (origins w) || false) || (list_any (λ o. K o y) (origins a) || false)) e)
    (λ K h. all K None h ∙ sym (or-false (list_any (λ o. K o (key_use k)) (origins a))) ∙ ap (λ (y : Use). list_any (λ o. K o y) (origins a) || false) e))
  where
    all : (K : Origin → Use → Bool) (o : Option Assigned) → lookup (same.it k) es ≡ o
        → list_any (passes K) (entry_seen (k, v)) ≡ (list_any (λ o. K o (key_use k)) (unwrap_or (option_map origins o) []) || list_any (λ o. K o (key_use k)) (origins a))
    all K o h =
        or-false (list_any (λ o. K o (key_use k)) (origins v)) ∙ l (λ o. K o (key_use k))
        ∙ ap (λ (o : Option Assigned). list_any (λ o. K o (key_use k)) (unwrap_or (option_map origins o) []) || list_any (λ o. K o (key_use k)) (origins a)) h

    each : (b c : Bool) → (b || c) ≡ ((b || false) || (c || false))
    each true c = refl
    each false true = refl
    each false false = refl

-- ---- uses that may matter

used_name : (T : Word → Bool) (u : memory.Use) → T (name_used (use_of u)).word ≡ T u.name.word
used_name T u = ap (λ (n : Name). T n.word) (name_kept u.kind u.name)

-- ---- one after another

pub keeps_none : (es : List Entry) → Keeps es es []
keeps_none es K = ap (list_any (passes K)) (sym (append-nil (entries_seen es)))

keeps_then : (a b c : List Entry) (ss rs : List Seen) → Keeps a b ss → Keeps b c rs → Keeps a c (ss ++ rs)
keeps_then a b c ss rs h k K =
    k K ∙ seen_append (entries_seen b) rs (entries_seen a ++ ss) rs h (λ K. refl) K ∙ ap (list_any (passes K)) (append_assoc (entries_seen a) ss rs)

keeps_as : (a b : List Entry) (ss rs : List Seen) → ss ≡ rs → Keeps a b ss → Keeps a b rs
keeps_as a b ss rs e h = subst (λ (us : List Seen). Keeps a b us) e h

pub keeps_skipped : (T : Word → Bool) (es : List Entry) (q : Trail) (u : memory.Use) → T u.name.word ≡ false → Keeps es es (only T (on_trail q (use_of u ∷ [])))
keeps_skipped T es q u e = keeps_as es es [] (only T (on_trail q (use_of u ∷ []))) (λ i. cond (sym (used_name T u ∙ e) i) (record { use_of = use_of u; trail = q } ∷ []) []) (keeps_none es)

pub keeps_wanted : (T : Word → Bool) (es fs : List Entry) (q : Trail) (u : memory.Use) → T u.name.word ≡ true → Keeps es fs (on_trail q (use_of u ∷ [])) → Keeps es fs (only T (on_trail q (use_of u ∷ [])))
keeps_wanted T es fs q u e h =
    keeps_as es fs (on_trail q (use_of u ∷ [])) (only T (on_trail q (use_of u ∷ []))) (λ i. cond (sym (used_name T u ∙ e) i) (record { use_of = use_of u; trail = q } ∷ []) []) h

only_two : (T : Word → Bool) (xs ys : List Seen) → only T (xs ++ ys) ≡ only T xs ++ only T ys
only_two T xs ys = filter-append (λ (s : Seen). T (name_used s.use_of).word) xs ys

pub uses_more : (T : Word → Bool) (os : List Origin) (old now new : List Entry) (us : List memory.Use) (i : ℕ) (u : memory.Use) → u ≡ get_or us i u → i < length us
    → Keeps old now (only T (on_trail (Some os) (uses_of (take i us)))) → Keeps now new (only T (on_trail (Some os) (use_of u ∷ []))) → Keeps old new (only T (on_trail (Some os) (uses_of (take (i + 1) us))))
uses_more T os old now new us i u e l h k =
    keeps_as old new _ _
    (sym (ap (λ (vs : List memory.Use). only T (on_trail (Some os) (uses_of vs))) (take_more us i u l ∙ ap (λ (z : memory.Use). take i us ++ z ∷ []) (sym e))
    ∙ ap (λ (vs : List Use). only T (on_trail (Some os) vs)) (map-append use_of (take i us) (u ∷ []))
    ∙ ap (only T) (map-append (λ x. record { use_of = x; trail = Some os }) (uses_of (take i us)) (use_of u ∷ []))
    ∙ only_two T (on_trail (Some os) (uses_of (take i us))) (on_trail (Some os) (use_of u ∷ []))))
    (keeps_then old now new (only T (on_trail (Some os) (uses_of (take i us)))) (only T (on_trail (Some os) (use_of u ∷ []))) h k)

pub uses_all : (T : Word → Bool) (os : List Origin) (old new : List Entry) (us : List memory.Use) (i : ℕ) → length us ≤ i
    → Keeps old new (only T (on_trail (Some os) (uses_of (take i us)))) → Keeps old new (only T (on_trail (Some os) (uses_of us)))
uses_all T os old new us i l h = keeps_as old new _ _ (ap (λ (vs : List memory.Use). only T (on_trail (Some os) (uses_of vs))) (take_all i us l)) h

one_group : (gs : List Group) (i : ℕ) (g : Group) → g ≡ get_or gs i g → i < length gs → seen_of (take (i + 1) gs) ≡ seen_of (take i gs) ++ group_seen g
one_group gs i g e l =
    ap seen_of (take_more gs i g l ∙ ap (λ (z : Group). take i gs ++ z ∷ []) (sym e))
    ∙ flat_map-append group_seen (take i gs) (g ∷ []) ∙ ap (λ (ss : List Seen). seen_of (take i gs) ++ ss) (append-nil (group_seen g))

pub kept_more : (T : Word → Bool) (old now new : List Entry) (gs : List Group) (i : ℕ) (g : Group) → g ≡ get_or gs i g → i < length gs
    → Keeps old now (only T (seen_of (take i gs))) → Keeps now new (only T (group_seen g)) → Keeps old new (only T (seen_of (take (i + 1) gs)))
kept_more T old now new gs i g e l h k =
    keeps_as old new _ _ (sym (ap (only T) (one_group gs i g e l) ∙ only_two T (seen_of (take i gs)) (group_seen g))) (keeps_then old now new (only T (seen_of (take i gs))) (only T (group_seen g)) h k)

pub kept_all : (T : Word → Bool) (old new : List Entry) (gs : List Group) (i : ℕ) → length gs ≤ i → Keeps old new (only T (seen_of (take i gs))) → Keeps old new (only T (seen_of gs))
kept_all T old new gs i l h = keeps_as old new _ _ (ap (λ (hs : List Group). only T (seen_of hs)) (take_all i gs l)) h

-- ---- as groups again

pub key_group : (k : Key) (g : Group) (a : Assigned) (u : memory.Use) → g.uses.items ≡ u ∷ [] → use_of u ≡ key_use k → g.after ≡ a → SeenLike (group_seen g) (entry_seen (k, a))
key_group k g a u e h s K = λ i. list_any (passes K) (on_trail (Some (origins (s i))) ((ap uses_of e ∙ ap (λ (v : Use). v ∷ []) h) i))

pub groups_none : (gs : List Group) (es : List Entry) → gs ≡ [] → SeenLike (seen_of gs) (entries_seen (take 0 es))
groups_none gs [] e K = ap (λ (hs : List Group). list_any (passes K) (seen_of hs)) e
groups_none gs (x ∷ es) e K = ap (λ (hs : List Group). list_any (passes K) (seen_of hs)) e

not_past : (es : List Entry) (i : ℕ) → i < length es → slice_get es i ≡ None → ⊥
not_past [] i l e = omega (arith, l)
not_past (x ∷ es) zero l e = cc
not_past (x ∷ es) (suc i) l e = not_past es i (omega (arith, l)) e

take_one : (es : List Entry) (i : ℕ) (x : Entry) → i < length es → slice_get es i ≡ Some x → take (i + 1) es ≡ take i es ++ x ∷ []
take_one es i x l e = take_more es i x l ∙ ap (λ (z : Entry). take i es ++ z ∷ []) (get_or_from_slice_get es i x x e)

pub groups_more : (old new : List Group) (g : Group) (es : List Entry) (i n : ℕ) → n ≡ length es → i < n → new ≡ old ++ g ∷ []
    → ((e : Entry) → slice_get es i ≡ Some e → SeenLike (group_seen g) (entry_seen e)) → SeenLike (seen_of old) (entries_seen (take i es)) → SeenLike (seen_of new) (entries_seen (take (i + 1) es))
groups_more old new g es i n m less is one h = by (slice_get es i) refl
  where
    l : i < length es
    l = omega (arith, m, less)

    by : (o : Option Entry) → slice_get es i ≡ o → SeenLike (seen_of new) (entries_seen (take (i + 1) es))
    by None e = absurd (not_past es i l e)
    by (Some x) e = λ K.
        ap (list_any (passes K)) (ap seen_of is ∙ flat_map-append group_seen old (g ∷ []) ∙ ap (λ (ss : List Seen). seen_of old ++ ss) (append-nil (group_seen g)))
        ∙ seen_append (seen_of old) (group_seen g) (entries_seen (take i es)) (entry_seen x) h (one x e) K
        ∙ ap (list_any (passes K)) (sym (ap entries_seen (take_one es i x l e) ∙ flat_map-append entry_seen (take i es) (x ∷ []) ∙ ap (λ (ss : List Seen). entries_seen (take i es) ++ ss) (append-nil (entry_seen x))))

pub groups_all : (gs : List Group) (es : List Entry) (i n : ℕ) → n ≡ length es → n ≤ i → SeenLike (seen_of gs) (entries_seen (take i es)) → SeenLike (seen_of gs) (entries_seen es)
groups_all gs es i n m l h = subst (λ (fs : List Entry). SeenLike (seen_of gs) (entries_seen fs)) (take_all i es (omega (arith, m, l))) h

-- ---- a walk with each use once that may matter

met_wanted : (T : Word → Bool) (K : Origin → Use → Bool) (q : Trail) (u : Use) → (T (name_used u).word && met K q u) ≡ met (λ o v. T (name_used v).word && K o v) q u
met_wanted T K None u = by (T (name_used u).word)
  where
    by : (b : Bool) → (b && false) ≡ false
    by true = refl
    by false = refl
met_wanted T K (Some os) u = by (T (name_used u).word)
  where
    by : (b : Bool) → (b && list_any (λ o. K o u) os) ≡ list_any (λ o. b && K o u) os
    by true = refl
    by false = sym (any_none (λ (o : Origin). false) (λ o. refl) os)

only_like : (T : Word → Bool) (xs ys : List Seen) → SeenLike xs ys → SeenLike (only T xs) (only T ys)
only_like T xs ys l K =
    let p : Seen → Bool = λ s. T (name_used s.use_of).word in
    let H : Origin → Use → Bool = λ o v. T (name_used v).word && K o v in
    let e : (s : Seen) → (p s && passes K s) ≡ passes H s = λ s. met_wanted T K s.trail s.use_of in
    any_filter (passes K) p xs ∙ any_same (λ s. p s && passes K s) (passes H) e xs ∙ l H ∙ sym (any_filter (passes K) p ys ∙ any_same (λ s. p s && passes K s) (passes H) e ys)

pub way_kept : (T : Word → Bool) (w r : Walk) (old new : List Entry) (c : Called) → old ≡ [] → Keeps old new (only T (seen_of w.seen.items)) → SeenLike (seen_of r.seen.items) (entries_seen new)
    → r.labelled ≡ w.labelled → r.path ≡ w.path → IsWay w c → IsWay r (pruned T c)
way_kept T w r old new c e k s l p h = record {
  end = (l ∙ h.end.0, subst (λ (q : Option Assigned). LikeTrail (trail_of q) c.end.trail) (sym p) h.end.1);
  seen = λ K. s K ∙ k K ∙ ap (λ (es : List Entry). list_any (passes K) (entries_seen es ++ only T (seen_of w.seen.items))) e ∙ only_like T (seen_of w.seen.items) c.seen h.seen K;
}
