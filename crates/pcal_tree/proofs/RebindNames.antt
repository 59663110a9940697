-- Names that are bound, and names for which text is put in: what they offend where more names are in scope.
use Rattle.std.proofs.Common.{◌≡◌, List, [], ◌∷◌, ◌++◌, Bool, true, false, ◌&&◌, ◌||◌, map, cond, bytes_eq, refl, sym, subst, ◌∙◌, ap}
use Rattle.std.specs.List.{list_any, flat_map}
use Rattle.std.proofs.lemmas.List.Folds.{list_any-append}
use Rattle.std.proofs.lemmas.Bool.{and_parts}
use Rattle.std.proofs.lemmas.Slice.Eq.{bytes_eq-Decides}
use Rattle.std.proofs.Math.Bool.{or-false}
use Rattle.tla_token.specs.declared.place.Place.{Place}
use Rattle.tla_token.specs.declared.rule.Rule.TheVariants.{Rebind}
use Rattle.tla_token.specs.declared.rule.Refusal.{Refusal}
use Rattle.tla_token.specs.Signs.{is_among}
use Rattle.tla_tree.specs.Tree.{Word, Name}
use Rattle.pcal_tree.specs.Offences.{offence_if}
use Rattle.pcal_tree.specs.OffencesRebind.{Standings, naming, in_scope, brought, may_rebind, rebound, rebound_all}
use Rattle.pcal_tree.specs.laws.MacroUses.{same_refusal}
use Rattle.pcal_tree.specs.laws.MacroBindings.{Binding, bound, standing, beneath, Bindings, offences_where, same_binding, none_found, offending, unsettled, both, bound_inside, all_bound_inside, standing_inside, beneath_inside, offences_seen}
use Rattle.pcal_tree.proofs.SetLaws.{or_both, or_mixed, any_flat, Same, Sound, any_union}
use Rattle.pcal_tree.proofs.FirstLaws.{name_sound, refusal_sound}
use Rattle.tla_value.proofs.OrderSets.{either_swap}

-- ---- what is the same is equal

pub binding_sound : Sound same_binding
binding_sound (bound n) (bound k) e = λ i. bound (name_sound n k e i)
binding_sound (standing x) (standing y) e = λ i. standing ((bytes_eq-Decides x y).0 e i)
binding_sound (beneath x y) (beneath v w) e =
    let h = and_parts (bytes_eq x v) (bytes_eq y w) e in λ i. beneath ((bytes_eq-Decides x v).0 h.0 i) ((bytes_eq-Decides y w).0 h.1 i)
binding_sound (bound n) (standing y) e = cc
binding_sound (bound n) (beneath v w) e = cc
binding_sound (standing x) (bound k) e = cc
binding_sound (standing x) (beneath v w) e = cc
binding_sound (beneath x y) (bound k) e = cc
binding_sound (beneath x y) (standing v) e = cc

-- ---- offences and the bindings that say them

-- r is s with the names xs around
abbrev pub Around : List Word → Standings → Standings → Type 0
Around xs s r = ((x : Word) → in_scope r x ≡ (is_among xs x || in_scope s x)) × ((x : Word) → brought r x ≡ cond (is_among xs x) [] (brought s x))

pub around_none : (s : Standings) → Around [] s s
around_none s = (λ x. refl, λ x. refl)

pub scope_more : (ys xs : List Word) (s r : Standings) → Around xs s r → (w : Word) → in_scope (naming ys r) w ≡ (is_among (ys ++ xs) w || in_scope s w)
scope_more [] xs s r a w = a.0 w
scope_more (y ∷ ys) xs s r a w = ap (λ (b : Bool). bytes_eq y w || b) (scope_more ys xs s r a w) ∙ sym (or_both (bytes_eq y w) (is_among (ys ++ xs) w) (in_scope s w))

pub brought_more : (ys xs : List Word) (s r : Standings) → Around xs s r → (w : Word) → brought (naming ys r) w ≡ cond (is_among (ys ++ xs) w) [] (brought s w)
brought_more [] xs s r a w = a.1 w
brought_more (y ∷ ys) xs s r a w = by (bytes_eq y w) (brought_more ys xs s r a w)
  where
    by : (b : Bool) → brought (naming ys r) w ≡ cond (is_among (ys ++ xs) w) [] (brought s w)
        → cond b [] (brought (naming ys r) w) ≡ cond (b || is_among (ys ++ xs) w) [] (brought s w)
    by true h = refl
    by false h = h

pub around_more : (ys xs : List Word) (s r : Standings) → Around xs s r → Around (ys ++ xs) s (naming ys r)
around_more ys xs s r a = (scope_more ys xs s r a, brought_more ys xs s r a)

abbrev pub Says : List Word → Standings → List Refusal → Bindings → Type 0
Says ms s rs u = Same rs (offences_seen ms u s)

pub seen_any : (ms : List Word) (s : Standings) (u : Bindings) (f : Refusal → Bool)
    → list_any f (offences_seen ms u s) ≡ (list_any f u.offences || list_any (λ v. list_any f (offences_where ms s v)) u.free)
seen_any ms s u f =
    list_any-append f u.offences (flat_map (offences_where ms s) u.free) ∙ ap (λ (b : Bool). list_any f u.offences || b) (any_flat f (offences_where ms s) u.free)

pub seen_both : (ms : List Word) (s : Standings) (a b : Bindings) (f : Refusal → Bool)
    → (list_any f (offences_seen ms a s) || list_any f (offences_seen ms b s)) ≡ list_any f (offences_seen ms (both a b) s)
seen_both ms s a b f =
    (λ i. seen_any ms s a f i || seen_any ms s b f i)
    ∙ or_mixed (list_any f a.offences) (list_any F a.free) (list_any f b.offences) (list_any F b.free)
    ∙ sym (λ i. any_union same_refusal refusal_sound f a.offences b.offences i || any_union same_binding binding_sound F a.free b.free i)
    ∙ sym (seen_any ms s (both a b) f)
  where
    F : Binding → Bool
    F v = list_any f (offences_where ms s v)

pub says_both : (ms : List Word) (s : Standings) (rs qs : List Refusal) (a b : Bindings) → Says ms s rs a → Says ms s qs b → Says ms s (rs ++ qs) (both a b)
says_both ms s rs qs a b h k f = list_any-append f rs qs ∙ (λ i. h f i || k f i) ∙ seen_both ms s a b f

pub and_nothing : (rs : List Refusal) → Same rs (rs ++ [])
and_nothing rs f = sym (list_any-append f rs [] ∙ or-false (list_any f rs))

pub says_offending : (ms : List Word) (s : Standings) (rs : List Refusal) → Says ms s rs (offending rs)
says_offending ms s rs = and_nothing rs

pub says_nothing : (ms : List Word) (s : Standings) → Says ms s [] none_found
says_nothing ms s f = refl

pub says_same : (ms : List Word) (s : Standings) (rs qs : List Refusal) (u : Bindings) → rs ≡ qs → Says ms s qs u → Says ms s rs u
says_same ms s rs qs u e h = subst (λ (z : List Refusal). Says ms s z u) (sym e) h

-- ---- names that are bound

pub scope_of_names : (xs : List Word) (w : Word) → in_scope (naming xs []) w ≡ is_among xs w
scope_of_names [] w = refl
scope_of_names (x ∷ xs) w = ap (λ (b : Bool). bytes_eq x w || b) (scope_of_names xs w)

pub scope_of_both : (xs : List Word) (s : Standings) (w : Word) → in_scope (naming xs s) w ≡ (is_among xs w || in_scope s w)
scope_of_both [] s w = refl
scope_of_both (x ∷ xs) s w = ap (λ (b : Bool). bytes_eq x w || b) (scope_of_both xs s w) ∙ sym (or_both (bytes_eq x w) (is_among xs w) (in_scope s w))

-- an offence where one of two scopes has the name
pub either_scope : (a b m : Bool) (p : Place) (f : Refusal → Bool)
    → list_any f (offence_if ((a || b) && m) Rebind p) ≡ (list_any f (offence_if (a && m) Rebind p) || list_any f (offence_if (b && m) Rebind p))
either_scope true true true p f = again (list_any f (offence_if true Rebind p))
  where
    again : (a : Bool) → a ≡ (a || a)
    again true = refl
    again false = refl
either_scope true false true p f = sym (or-false (list_any f (offence_if true Rebind p)))
either_scope true true false p f = refl
either_scope true false false p f = refl
either_scope false b m p f = refl

pub same_scope : (ms : List Word) (s r : Standings) → ((x : Word) → in_scope s x ≡ in_scope r x) → (ns : List Name) → rebound_all ms s ns ≡ rebound_all ms r ns
same_scope ms s r e ns = λ i. flat_map (λ n. offence_if (e n.word i && may_rebind ms n.word) Rebind n.place) ns

pub says_bound : (ms xs : List Word) (s r : Standings) → Around xs s r → (n : Name) → Says ms s (rebound ms r n) (bound_inside ms xs n)
says_bound ms xs s r a n f =
    ap (λ (b : Bool). list_any f (offence_if (b && m) Rebind n.place)) (a.0 n.word ∙ ap (λ (b : Bool). b || in_scope s n.word) (sym (scope_of_names xs n.word)))
    ∙ either_scope (in_scope (naming xs []) n.word) (in_scope s n.word) m n.place f
    ∙ ap (λ (b : Bool). list_any f (rebound ms (naming xs []) n) || b) (and_nothing (rebound ms s n) f)
    ∙ sym (list_any-append f (rebound ms (naming xs []) n) (rebound ms s n ++ []))
  where
    m : Bool
    m = may_rebind ms n.word

pub says_all_bound : (ms xs : List Word) (s r : Standings) → Around xs s r → (ns : List Name) → Says ms s (rebound_all ms r ns) (all_bound_inside ms xs ns)
says_all_bound ms xs s r a [] = says_nothing ms s
says_all_bound ms xs s r a (n ∷ ns) =
    says_both ms s (rebound ms r n) (rebound_all ms r ns) (bound_inside ms xs n) (all_bound_inside ms xs ns) (says_bound ms xs s r a n) (says_all_bound ms xs s r a ns)

-- ---- names for which other text may be put in

-- one name more in scope
pub one_more : (ms : List Word) (x : Word) (s : Standings) (ns : List Name) (f : Refusal → Bool)
    → list_any f (rebound_all ms (naming (x ∷ []) s) ns) ≡ (list_any f (rebound_all ms (naming (x ∷ []) []) ns) || list_any f (rebound_all ms s ns))
one_more ms x s [] f = refl
one_more ms x s (n ∷ ns) f =
    list_any-append f (rebound ms (naming (x ∷ []) s) n) (rebound_all ms (naming (x ∷ []) s) ns)
    ∙ (λ i. first i || one_more ms x s ns f i)
    ∙ or_mixed (list_any f (rebound ms (naming (x ∷ []) []) n)) (list_any f (rebound ms s n)) (list_any f (rebound_all ms (naming (x ∷ []) []) ns)) (list_any f (rebound_all ms s ns))
    ∙ sym (λ i. list_any-append f (rebound ms (naming (x ∷ []) []) n) (rebound_all ms (naming (x ∷ []) []) ns) i || list_any-append f (rebound ms s n) (rebound_all ms s ns) i)
  where
    m : Bool
    m = may_rebind ms n.word

    first : list_any f (rebound ms (naming (x ∷ []) s) n) ≡ (list_any f (rebound ms (naming (x ∷ []) []) n) || list_any f (rebound ms s n))
    first =
        either_scope (bytes_eq x n.word) (in_scope s n.word) m n.place f
        ∙ ap (λ (b : Bool). list_any f (offence_if (b && m) Rebind n.place) || list_any f (rebound ms s n)) (sym (or-false (bytes_eq x n.word)))

pub all_more : (ms xs : List Word) (s : Standings) (w : Word) (f : Refusal → Bool)
    → list_any f (rebound_all ms (naming xs s) (brought s w))
    ≡ (list_any f (rebound_all ms s (brought s w)) || list_any (λ v. list_any f (offences_where ms s v)) (map (beneath w) xs))
all_more ms [] s w f = sym (or-false (list_any f (rebound_all ms s (brought s w))))
all_more ms (x ∷ xs) s w f =
    one_more ms x (naming xs s) (brought s w) f
    ∙ ap (λ (b : Bool). list_any f (rebound_all ms (naming (x ∷ []) []) (brought s w)) || b) (all_more ms xs s w f)
    ∙ either_swap (list_any f (rebound_all ms (naming (x ∷ []) []) (brought s w))) (list_any f (rebound_all ms s (brought s w)))
    (list_any (λ v. list_any f (offences_where ms s v)) (map (beneath w) xs))

pub named_around : (xs : List Word) (s r : Standings) → Around xs s r → (w : Word) → in_scope r w ≡ in_scope (naming xs s) w
named_around xs s r a w = a.0 w ∙ sym (scope_of_both xs s w)

pub says_standing : (ms xs : List Word) (s r : Standings) → Around xs s r → (w : Word) → Says ms s (rebound_all ms r (brought r w)) (standing_inside xs w)
says_standing ms xs s r a w =
    says_same ms s (rebound_all ms r (brought r w)) (rebound_all ms r (cond (is_among xs w) [] (brought s w))) (standing_inside xs w) (ap (rebound_all ms r) (a.1 w)) (by (is_among xs w))
  where
    by : (b : Bool) → Says ms s (rebound_all ms r (cond b [] (brought s w))) (cond b none_found (unsettled (standing w ∷ map (beneath w) xs)))
    by true f = refl
    by false f =
        ap (λ (rs : List Refusal). list_any f rs) (same_scope ms r (naming xs s) (named_around xs s r a) (brought s w))
        ∙ all_more ms xs s w f
        ∙ sym (seen_any ms s (unsettled (standing w ∷ map (beneath w) xs)) f)

pub says_beneath : (ms xs : List Word) (s r : Standings) → Around xs s r → (w y : Word)
    → Says ms s (rebound_all ms (naming (y ∷ []) []) (brought r w)) (beneath_inside xs w y)
says_beneath ms xs s r a w y =
    says_same ms s (R (brought r w)) (R (cond (is_among xs w) [] (brought s w))) (beneath_inside xs w y) (ap R (a.1 w)) (by (is_among xs w))
  where
    R : List Name → List Refusal
    R = rebound_all ms (naming (y ∷ []) [])

    by : (b : Bool) → Says ms s (R (cond b [] (brought s w))) (cond b none_found (unsettled (beneath w y ∷ [])))
    by true = says_nothing ms s
    by false = and_nothing (R (brought s w))
