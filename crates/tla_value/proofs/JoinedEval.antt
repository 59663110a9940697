-- Two evaluations side by side: what a form means where its parts, its names and its place stand for those of another.
use Rattle.std.proofs.Common.{◌≡◌, Bool, true, false, List, [], ◌∷◌, ◌++◌, map, refl, subst}
use Rattle.std.specs.List.{flat_map}
use Rattle.tla_token.specs.declared.place.Place.{Place}
use Rattle.tla_tree.specs.declared.op.Binder.{Binder}
use Rattle.tla_tree.specs.declared.op.Binder.TheVariants.{Image, Function}
use Rattle.tla_tree.specs.Tree.{Word, Name, words, Strict, Form, number, string, truth as literal, booleans, strings, name, next, strict, operator_call, conjunction, disjunction, implication, member, if_then_else, cases, binding, local, Tree, node, Trees, no_trees, tree, Every, EveryOf, Each, binders, beginnings, seen_names}
use Rattle.tla_value.specs.declared.fault.FaultKind.TheVariants.{NotSet, NotFunction, NoCase}
use Rattle.tla_value.specs.Value.{Value, Values, no_values, and, Outcome, Sense, in_order}
use Rattle.tla_value.specs.Stops.{Check, members_at, sense_of}
use Rattle.tla_value.specs.Meaning.{Env, Denotation, bind, part_values, test, Row, at_members, at_group, at_choices, suited, at_body, gathered, sources, local_value, first_arm, called, only_tested, is_text, meaning_of, eval, evals}
use Rattle.tla_value.proofs.Relations.{Bound, Rel}
use Rattle.tla_value.proofs.Joined.{Kin, Joined, Same, then_joined, then_same, same_cond, Both, Pairs, Triples, none, one, order_both, joined_two, joined_three, truths, sets, tests, FormsJoin, form, Checks, strict_values, strict_tests}

pub record Senses (K : Kin) (s t : Sense) : Type 0 where
  pub value : Same K s.value t.value
  pub test : (p q : Place) → K.place p q → (v : Value) → Same K (s.test p v) (t.test q v)

pub senses_of : (K : Kin) (o o' : Outcome Value) → Same K o o' → Senses K (sense_of o) (sense_of o')
senses_of K o o' h = record { value = h; test = λ p q at v. tests K p q at v o o' h }

pub unlisted : (K : Kin) (p q : Place) → K.place p q → (holds : Value → Bool) → Senses K (only_tested p holds) (only_tested q holds)
unlisted K p q at holds = record { value = K.faults NotSet p q at; test = λ a b to v. refl }

-- in environments that R relates
abbrev pub Dens : Kin → Rel → Denotation → Denotation → Type 0
Dens K R a b = (e f : Env) → R e f → Senses K (a e) (b f)

-- x is bound to one value in both
pub data BoundIn (R : Rel) (x : Word) : Env → Env → Type 0 where
  at_value : {e f : Env} (v : Value) → R e f → BoundIn R x (bind x v e) (bind x v f)

-- the names are bound to the same values in both, one after the other
abbrev pub After : Rel → List Word → Rel
After R [] = R
After R (x ∷ xs) = After (BoundIn R x) xs

-- parts stand for one another where the names are bound that they see
pub data Parts (K : Kin) (Q R : Rel) : List (List Word) → List Denotation → List Denotation → Type 0 where
  no_parts : (names : List (List Word)) → Parts K Q R names [] []
  part : {a b : Denotation} {ds es : List Denotation} → Dens K Q a b → Parts K Q R [] ds es → Parts K Q R [] (a ∷ ds) (b ∷ es)
  seeing : (xs : List Word) {names : List (List Word)} {a b : Denotation} {ds es : List Denotation} → Dens K (After R xs) a b → Parts K Q R names ds es → Parts K Q R (xs ∷ names) (a ∷ ds) (b ∷ es)

-- of a form that binds no names
plain_parts : (K : Kin) (R : Rel) (ds es : List Denotation) → Parts K R R [] ds es → Both (Dens K R) ds es
plain_parts K R _ _ (no_parts _) = none
plain_parts K R _ _ (part h hs) = one h (plain_parts K R _ _ hs)

-- one form, but for the places of slots and of bound names
pub data Forms (K : Kin) : Form → Form → Type 0 where
  same : (m : Form) → Forms K m m
  stricts : {o o' : Strict} → FormsJoin K o o' → Forms K (strict o) (strict o')
  bindings : (b : Binder) (gs hs : List (List Name)) → map words gs ≡ map words hs → Forms K (binding b gs) (binding b hs)
  locals : (xs ys : List Name) → words xs ≡ words ys → Forms K (local xs) (local ys)

-- what a form reads of its environment
abbrev pub Read : Kin → Rel → Form → Type 0
Read K R (name x) = (p q : Place) → K.place p q → (e f : Env) → R e f → Senses K (e.now x p) (f.now x q)
Read K R (next x) = (p q : Place) → K.place p q → (e f : Env) → R e f → Senses K (e.primed x p) (f.primed x q)
Read K R (operator_call g) = (p q : Place) → K.place p q → (e f : Env) → R e f → (vs : List Value) → Senses K (called p (e.defs g) vs) (called q (f.defs g) vs)
Read K R _ = Unit {0}

split : {X : Type 0} {x y : X} {xs ys : List X} → ◌≡◌ {A = List X} (x ∷ xs) (y ∷ ys) → (x ≡ y) × (xs ≡ ys)
split q = (cc, cc)

some_left : {X : Type 0} {x : X} {xs : List X} → ◌≡◌ {A = List X} (x ∷ xs) [] → ⊥
some_left q = cc

some_right : {X : Type 0} {x : X} {xs : List X} → ◌≡◌ {A = List X} [] (x ∷ xs) → ⊥
some_right q = cc

-- ---- binders

abbrev Visits : Kin → Rel → (Env → Outcome (List Row)) → (Env → Outcome (List Row)) → Type 0
Visits K R g g' = (e f : Env) → R e f → Same K (g e) (g' f)

members_both : (K : Kin) (R : Rel) (x : Word) (vs : Values) (g g' : Env → Outcome (List Row)) → Visits K (BoundIn R x) g g' → Visits K R (at_members x vs g) (at_members x vs g')
members_both K R x no_values g g' h e f r = refl
members_both K R x (and v vs) g g' h e f r =
    then_same K ◌≡◌ _ _ _ _ (h _ _ (at_value v r)) (λ rows. then_same K ◌≡◌ _ _ _ _ (members_both K R x vs g g' h e f r) (λ more. refl))

group_both : (K : Kin) (R : Rel) (xs ys : List Name) → words xs ≡ words ys → (s : Values) (g g' : Env → Outcome (List Row)) → Visits K (After R (words xs)) g g' → Visits K R (at_group xs s g) (at_group ys s g')
group_both K R [] [] q s g g' h = h
group_both K R [] (y ∷ ys) q s g g' h = absurd (some_right q)
group_both K R (x ∷ xs) [] q s g g' h = absurd (some_left q)
group_both K R (x ∷ xs) (y ∷ ys) q s g g' h =
    subst (λ w. Visits K R (at_members x.word s (at_group xs s g)) (at_members w s (at_group ys s g'))) (split q).0 (members_both K R x.word s _ _ (group_both K (BoundIn R x.word) xs ys (split q).1 s g g' h))

after_both : (R : Rel) (xs ys : List Word) → After R (xs ++ ys) ≡ After (After R xs) ys
after_both R [] ys = refl
after_both R (x ∷ xs) ys = after_both (BoundIn R x) xs ys

-- a value for each group
abbrev Matched : {X : Type 0} → List (List Name) → List X → Type 0
Matched [] [] = Unit {0}
Matched (xs ∷ groups) (v ∷ vs) = Matched groups vs
Matched _ _ = ⊥

choices_both : (K : Kin) (R : Rel) (gs hs : List (List Name)) → map words gs ≡ map words hs → (ss : List Values) (g g' : Env → Outcome (List Row)) → Matched gs ss → Visits K (After R (flat_map words gs)) g g' → Visits K R (at_choices gs ss g) (at_choices hs ss g')
choices_both K R [] [] q ss g g' l h = h
choices_both K R [] (y ∷ ys) q ss g g' l h = absurd (some_right q)
choices_both K R (x ∷ xs) [] q ss g g' l h = absurd (some_left q)
choices_both K R (x ∷ xs) (y ∷ ys) q [] g g' l h = absurd l
choices_both K R (x ∷ xs) (y ∷ ys) q (s ∷ ss) g g' l h =
    group_both K R x y (split q).0 s _ _ (choices_both K (After R (words x)) xs ys (split q).1 ss g g' l (subst (λ Q. Visits K Q g g') (after_both R (words x) (flat_map words xs)) h))

abbrev AllSets : List (List Name) → List Values → List Values → Type 0
AllSets groups a b = (a ≡ b) × Matched groups a

sets_both : (K : Kin) (p q : Place) → K.place p q → (groups : List (List Name)) (vs : List Value) → Matched groups vs → Joined K (AllSets groups) (in_order (members_at p) vs) (in_order (members_at q) vs)
sets_both K p q at [] [] l = (refl, tt)
sets_both K p q at [] (v ∷ vs) l = absurd l
sets_both K p q at (xs ∷ groups) [] l = absurd l
sets_both K p q at (xs ∷ groups) (v ∷ vs) l =
    then_same K (AllSets (xs ∷ groups)) _ _ _ _ (sets K p q at v) (λ s. then_joined K (AllSets groups) (AllSets (xs ∷ groups)) _ _ _ _ (sets_both K p q at groups vs l) (λ a b h. (λ i. s ∷ h.0 i, h.1)))

Sources : Kin → Rel → List (List Name) → List Word → List Value × Denotation → List Value × Denotation → Type 0
Sources K R groups bound x y = (x.0 ≡ y.0) × Matched groups x.0 × Dens K (After R bound) x.1 y.1

-- no group's set sees a name, and the body sees those of `bound`
abbrev seen_sources : List (List Name) → List Word → List (List Word)
seen_sources groups bound = map (λ (xs : List Name). []) groups ++ bound ∷ []

sources_both : (K : Kin) (Q R : Rel) (p q : Place) → K.place p q → (gs hs : List (List Name)) (bound : List Word) → map words gs ≡ map words hs → (ds es : List Denotation) (e f : Env) → Parts K Q R (seen_sources gs bound) ds es → R e f → Joined K (Sources K R gs bound) (sources p gs ds e) (sources q hs es f)
unfolding Sources
sources_both K Q R p q at [] [] bound g _ _ e f (no_parts _) r = K.faults NotFunction p q at
sources_both K Q R p q at [] [] bound g _ _ e f (seeing _ h (no_parts _)) r = (refl, tt, h)
sources_both K Q R p q at [] [] bound g _ _ e f (seeing _ h (part i is)) r = K.faults NotFunction p q at
sources_both K Q R p q at [] (y ∷ ys) bound g ds es e f ps r = absurd (some_right g)
sources_both K Q R p q at (x ∷ xs) [] bound g ds es e f ps r = absurd (some_left g)
sources_both K Q R p q at (x ∷ xs) (y ∷ ys) bound g _ _ e f (no_parts _) r = K.faults NotFunction p q at
sources_both K Q R p q at (x ∷ xs) (y ∷ ys) bound g _ _ e f (seeing _ h hs) r =
    then_same K (Sources K R (x ∷ xs) bound) _ _ _ _ (h e f r).value (λ v. then_joined K (Sources K R xs bound) (Sources K R (x ∷ xs) bound) _ _ _ _ (sources_both K Q R p q at xs ys bound (split g).1 _ _ e f hs r) (λ a b k. (λ i. v ∷ k.0 i, k.1, k.2)))

later_parts : (K : Kin) (Q R : Rel) (x : Word) (names : List (List Word)) (ds es : List Denotation) → Parts K Q R (map (λ ys. x ∷ ys) names) ds es → Parts K Q (BoundIn R x) names ds es
later_parts K Q R x [] _ _ (no_parts _) = no_parts []
later_parts K Q R x [] _ _ (part h hs) = part h (later_parts K Q R x [] _ _ hs)
later_parts K Q R x (ys ∷ names) _ _ (no_parts _) = no_parts (ys ∷ names)
later_parts K Q R x (ys ∷ names) _ _ (seeing _ h hs) = seeing ys h (later_parts K Q R x names _ _ hs)

local_both : (K : Kin) (Q R : Rel) (p q : Place) → K.place p q → (xs ys : List Name) → words xs ≡ words ys → (ds es : List Denotation) (e f : Env) → Parts K Q R (beginnings (words xs)) ds es → R e f → Same K (local_value p xs ds e) (local_value q ys es f)
local_both K Q R p q at [] [] g _ _ e f (no_parts _) r = K.faults NotFunction p q at
local_both K Q R p q at [] [] g _ _ e f (seeing _ h (no_parts _)) r = (h e f r).value
local_both K Q R p q at [] [] g _ _ e f (seeing _ h (part i is)) r = K.faults NotFunction p q at
local_both K Q R p q at [] (y ∷ ys) g ds es e f ps r = absurd (some_right g)
local_both K Q R p q at (x ∷ xs) [] g ds es e f ps r = absurd (some_left g)
local_both K Q R p q at (x ∷ xs) (y ∷ ys) g _ _ e f (no_parts _) r = K.faults NotFunction p q at
local_both K Q R p q at (x ∷ xs) (y ∷ ys) g _ _ e f (seeing _ {ds = ds} {es = es} h hs) r =
    then_same K ◌≡◌ _ _ _ _ (h e f r).value (λ v. subst (λ w. Same K (local_value p xs ds (bind x.word v e)) (local_value q ys es (bind w v f))) (split g).0
    (local_both K Q (BoundIn R x.word) p q at xs ys (split g).1 ds es _ _ (later_parts K Q R x.word (beginnings (words xs)) ds es hs) (at_value v r)))

suits : (K : Kin) (p q : Place) → K.place p q → (b : Binder) (v : Value) → Same K (suited b p v) (suited b q v)
suits K p q at Image v = refl
suits K p q at Function v = refl
suits K p q at b v = then_same K ◌≡◌ _ _ _ _ (truths K p q at v) (λ t. refl)

body_both : (K : Kin) (R : Rel) (p q : Place) → K.place p q → (b : Binder) (a a' : Denotation) → Dens K R a a' → Visits K R (at_body b p a) (at_body b q a')
body_both K R p q at b a a' h e f r = then_same K ◌≡◌ _ _ _ _ (h e f r).value (λ v. then_same K ◌≡◌ _ _ _ _ (suits K p q at b v) (λ w. refl))

module _ (K : Kin) (R : Rel) where
  pub parts_both : (ds es : List Denotation) (e f : Env) → Both (Dens K R) ds es → R e f → Same K (part_values ds e) (part_values es f)
  parts_both ds es e f ps r = order_both K (Dens K R) ds es _ _ ps (λ a b h. (h e f r).value)

  test_both : (p q : Place) → K.place p q → (a b : Denotation) (e f : Env) → Dens K R a b → R e f → Same K (test p a e) (test q b f)
  test_both p q at a b e f h r = then_same K ◌≡◌ _ _ _ _ (h e f r).value (truths K p q at)

  arms_both : (p q : Place) → K.place p q → (other : Bool) (ds es : List Denotation) (e f : Env) → Both (Dens K R) ds es → R e f → Same K (first_arm other p ds e) (first_arm other q es f)
  arms_both p q at true _ _ e f none r = K.faults NotFunction p q at
  arms_both p q at false _ _ e f none r = K.faults NoCase p q at
  arms_both p q at true _ _ e f (one h none) r = (h e f r).value
  arms_both p q at false _ _ e f (one h none) r = K.faults NotFunction p q at
  arms_both p q at other _ _ e f (one h (one i hs)) r =
      then_same K ◌≡◌ _ _ _ _ (test_both p q at _ _ e f h r) (λ first. same_cond K first _ _ _ _ (i e f r).value (arms_both p q at other _ _ e f hs r))

  -- ---- forms

  module _ (c c' : Check) (l : Checks K c c') where
    strict_both : (p q : Place) → K.place p q → (o o' : Strict) → FormsJoin K o o' → (ds es : List Denotation) → Both (Dens K R) ds es → Dens K R (meaning_of c (strict o) p ds) (meaning_of c' (strict o') q es)
    strict_both p q at o o' j ds es ps e f r = record {
      value = then_same K ◌≡◌ _ _ _ _ (parts_both ds es e f ps r) (λ vs. strict_values K c c' l p q at o o' vs j);
      test = λ a b to v. then_same K ◌≡◌ _ _ _ _ (parts_both ds es e f ps r) (λ vs. strict_tests K c c' l p q at a b to o o' v vs j);
    }

    binding_both : (p q : Place) → K.place p q → (b : Binder) (gs hs : List (List Name)) → map words gs ≡ map words hs → (ds es : List Denotation) → Parts K R R (seen_names (binding b gs)) ds es → Dens K R (meaning_of c (binding b gs) p ds) (meaning_of c' (binding b hs) q es)
    unfolding Sources
    binding_both p q at b gs hs g ds es ps e f r =
        let xs = flat_map words gs in
        senses_of K _ _ (then_joined K (Sources K R gs xs) ◌≡◌ _ _ _ _ (sources_both K R R p q at gs hs xs g ds es e f ps r) (λ a a' k.
        then_joined K (AllSets gs) ◌≡◌ _ _ _ _ (subst (λ vs. Joined K (AllSets gs) (in_order (members_at p) a.0) (in_order (members_at q) vs)) k.0 (sets_both K p q at gs a.0 k.1)) (λ ss ss' j.
        then_same K ◌≡◌ _ _ _ _ (subst (λ us. Same K (at_choices gs ss (at_body b p a.1) e) (at_choices hs us (at_body b q a'.1) f)) j.0 (choices_both K R gs hs g ss _ _ j.1 (body_both K (After R xs) p q at b a.1 a'.1 k.2) e f r)) (λ rows. l p q at (gathered b rows)))))

    -- the law of a form
    pub form_both : (p q : Place) → K.place p q → (m : Form) (ds es : List Denotation) → Read K R m → Parts K R R (seen_names m) ds es → Dens K R (meaning_of c m p ds) (meaning_of c' m q es)
    form_both p q at (number n) ds es k ps e f r = senses_of K _ _ (l p q at _)
    form_both p q at (string w) ds es k ps e f r = senses_of K _ _ refl
    form_both p q at (literal b) ds es k ps e f r = senses_of K _ _ refl
    form_both p q at booleans ds es k ps e f r = senses_of K _ _ refl
    form_both p q at strings ds es k ps e f r = unlisted K p q at is_text
    form_both p q at (name x) ds es k ps e f r = k p q at e f r
    form_both p q at (next x) ds es k ps e f r = k p q at e f r
    form_both p q at (strict o) ds es k ps e f r = strict_both p q at o o (form o) ds es (plain_parts K R ds es ps) e f r
    form_both p q at (operator_call g) ds es k ps e f r = record {
      value = then_same K ◌≡◌ _ _ _ _ (parts_both ds es e f (plain_parts K R ds es ps) r) (λ vs. (k p q at e f r vs).value);
      test = λ a b to v. then_same K ◌≡◌ _ _ _ _ (parts_both ds es e f (plain_parts K R ds es ps) r) (λ vs. (k p q at e f r vs).test a b to v);
    }
    form_both p q at conjunction ds es k ps e f r =
        senses_of K _ _ (then_joined K (Pairs (Dens K R)) ◌≡◌ _ _ _ _ (joined_two K (Dens K R) p q ds es at (plain_parts K R ds es ps)) (λ a b h.
        then_same K ◌≡◌ _ _ _ _ (test_both p q at a.0 b.0 e f h.0 r) (λ t.
        then_same K ◌≡◌ _ _ _ _ (same_cond K t _ _ _ _ (test_both p q at a.1 b.1 e f h.1 r) refl) (λ u. refl))))
    form_both p q at disjunction ds es k ps e f r =
        senses_of K _ _ (then_joined K (Pairs (Dens K R)) ◌≡◌ _ _ _ _ (joined_two K (Dens K R) p q ds es at (plain_parts K R ds es ps)) (λ a b h.
        then_same K ◌≡◌ _ _ _ _ (test_both p q at a.0 b.0 e f h.0 r) (λ t.
        then_same K ◌≡◌ _ _ _ _ (same_cond K t _ _ _ _ refl (test_both p q at a.1 b.1 e f h.1 r)) (λ u. refl))))
    form_both p q at implication ds es k ps e f r =
        senses_of K _ _ (then_joined K (Pairs (Dens K R)) ◌≡◌ _ _ _ _ (joined_two K (Dens K R) p q ds es at (plain_parts K R ds es ps)) (λ a b h.
        then_same K ◌≡◌ _ _ _ _ (test_both p q at a.0 b.0 e f h.0 r) (λ t.
        then_same K ◌≡◌ _ _ _ _ (same_cond K t _ _ _ _ (test_both p q at a.1 b.1 e f h.1 r) refl) (λ u. refl))))
    form_both p q at (member sense) ds es k ps e f r =
        senses_of K _ _ (then_joined K (Pairs (Dens K R)) ◌≡◌ _ _ _ _ (joined_two K (Dens K R) p q ds es at (plain_parts K R ds es ps)) (λ a b h.
        then_same K ◌≡◌ _ _ _ _ (h.0 e f r).value (λ v. then_same K ◌≡◌ _ _ _ _ ((h.1 e f r).test p q at v) (λ t. refl))))
    form_both p q at if_then_else ds es k ps e f r =
        senses_of K _ _ (then_joined K (Triples (Dens K R)) ◌≡◌ _ _ _ _ (joined_three K (Dens K R) p q ds es at (plain_parts K R ds es ps)) (λ a b h.
        then_same K ◌≡◌ _ _ _ _ (test_both p q at a.0 b.0 e f h.0 r) (λ t. same_cond K t _ _ _ _ (h.1 e f r).value (h.2 e f r).value)))
    form_both p q at (cases other) ds es k ps e f r = senses_of K _ _ (arms_both p q at other ds es e f (plain_parts K R ds es ps) r)
    form_both p q at (binding b gs) ds es k ps e f r = binding_both p q at b gs gs refl ds es ps e f r
    form_both p q at (local xs) ds es k ps e f r = senses_of K _ _ (local_both K R R p q at xs xs refl ds es e f ps r)

    pub forms_both : (p q : Place) → K.place p q → (m m' : Form) → Forms K m m' → (ds es : List Denotation) → Read K R m → Parts K R R (seen_names m) ds es → Dens K R (meaning_of c m p ds) (meaning_of c' m' q es)
    forms_both p q at _ _ (same m) ds es k ps = form_both p q at m ds es k ps
    forms_both p q at _ _ (stricts {o = o} {o' = o'} j) ds es k ps = strict_both p q at o o' j ds es (plain_parts K R ds es ps)
    forms_both p q at _ _ (bindings b gs hs g) ds es k ps = binding_both p q at b gs hs g ds es ps
    forms_both p q at _ _ (locals xs ys g) ds es k ps = λ e f r. senses_of K _ _ (local_both K R R p q at xs ys g ds es e f ps r)

-- ---- a relation that is kept where names are bound

bound_kept : (R Q : Rel) (x : Word) → Bound R x → ((e f : Env) → Q e f → R e f) → (e f : Env) → BoundIn Q x e f → R e f
bound_kept R Q x b h _ _ (at_value v r) = b _ _ v (h _ _ r)

after_kept : (R Q : Rel) (xs : List Word) → Each (Bound R) xs → ((e f : Env) → Q e f → R e f) → (e f : Env) → After Q xs e f → R e f
after_kept R Q [] b h e f r = h e f r
after_kept R Q (x ∷ xs) b h e f r = after_kept R (BoundIn Q x) xs b.1 (bound_kept R Q x b.0 h) e f r

abbrev pub EachList : (Word → Type 0) → List (List Word) → Type 0
EachList P [] = Unit {0}
EachList P (xs ∷ names) = Each P xs × EachList P names

each_begun : (P : Word → Type 0) (x : Word) (names : List (List Word)) → P x → EachList P names → EachList P (map (λ ys. x ∷ ys) names)
each_begun P x [] h k = tt
each_begun P x (ys ∷ names) h k = ((h, k.0), each_begun P x names h k.1)

each_beginning : (P : Word → Type 0) (xs : List Word) → Each P xs → EachList P (beginnings xs)
each_beginning P [] h = (tt, tt)
each_beginning P (x ∷ xs) h = (tt, each_begun P x (beginnings xs) h.0 (each_beginning P xs h.1))

each_body : (P : Word → Type 0) (gs : List (List Name)) (xs : List Word) → Each P xs → EachList P (seen_sources gs xs)
each_body P [] xs h = (h, tt)
each_body P (g ∷ gs) xs h = (tt, each_body P gs xs h)

-- what holds of all bound names holds of those that each part sees
pub each_seen : (P : Word → Type 0) (m : Form) → Each P (binders m) → EachList P (seen_names m)
each_seen P (binding b gs) h = each_body P gs (flat_map words gs) h
each_seen P (local xs) h = each_beginning P (words xs) h
each_seen P m h = tt

pub kept_parts : (K : Kin) (R : Rel) (names : List (List Word)) (ds es : List Denotation) → EachList (Bound R) names → Both (Dens K R) ds es → Parts K R R names ds es
kept_parts K R names _ _ b none = no_parts names
kept_parts K R [] _ _ b (one h hs) = part h (kept_parts K R [] _ _ tt hs)
kept_parts K R (xs ∷ names) _ _ b (one h hs) = seeing xs (λ e f r. h e f (after_kept R R xs b.0 (λ e' f' q. q) e f r)) (kept_parts K R names _ _ b.1 hs)

-- the relation is kept where the form binds names, and the form reads alike
abbrev pub Kept : Kin → Rel → Form → Place → Type 0
Kept K R m at = Each (Bound R) (binders m) × Read K R m

module _ (K : Kin) (R : Rel) (c c' : Check) (l : Checks K c c') where
  pub form_kept : (p q : Place) → K.place p q → (m : Form) (ds es : List Denotation) → Kept K R m p → Both (Dens K R) ds es → Dens K R (meaning_of c m p ds) (meaning_of c' m q es)
  form_kept p q at m ds es k ps = form_both K R c c' l p q at m ds es k.1 (kept_parts K R (seen_names m) ds es (each_seen (Bound R) m k.0) ps)

  -- a tree that keeps the relation at each of its nodes
  mutual
    pub eval_both : (t : Tree) → Every (Kept K R) t → Dens K R (eval c t) (eval c' t)
    eval_both (node m at ts) k = form_kept at at (K.self at) m _ _ k.0 (evals_both ts k.1)

    pub evals_both : (ts : Trees) → EveryOf (Kept K R) ts → Both (Dens K R) (evals c ts) (evals c' ts)
    evals_both no_trees k = none
    evals_both (tree t ts) k = one (eval_both t k.0) (evals_both ts k.1)
