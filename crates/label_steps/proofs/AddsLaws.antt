-- What is gathered, one thing after another: each once, and no pair of names that never are one variable.
use Rattle.std.proofs.Common.{◌≡◌, ℕ, ◌+◌, ◌<◌, ◌≤◌, Bool, true, false, ◌&&◌, ◌||◌, List, [], ◌∷◌, ◌++◌, length, take, get_or, map, Option, Some, None, refl, sym, ap, ◌∙◌, subst, cond, append-nil, append_assoc, bytes_eq}
use Rattle.std.specs.Prelude.{if◌then◌else◌}
use Rattle.std.specs.List.{list_any, flat_map}
use Rattle.std.specs.Option.{option_or}
use Rattle.std.proofs.lemmas.Bool.{and_parts, or_parts}
use Rattle.std.proofs.lemmas.List.{take_more, take_all}
use Rattle.std.proofs.lemmas.List.Folds.{list_any-append}
use Rattle.std.proofs.lemmas.Grind.{flat_map-append}
use Rattle.std.proofs.Math.Bool.{or-false}
use Rattle.indexmap.specs.IndexSet.{insert_key}
use Rattle.tla_token.specs.Signs.{is_among}
use Rattle.tla_tree.specs.Tree.{Word, Trees, Graft, grafts}
use Rattle.algorithm_limits.proofs.Tables.{equal, equal_is}
use Rattle.pcal_tree.specs.Algorithm.{Name, Assignments, no_assignments, assignment, Statement, assign, await, print, assert, skip, branch, either, with, while, goto, macro, call, return}
use Rattle.pcal_tree.specs.OffencesSteps.{called_with, effect_with, outer_effects}
use Rattle.pcal_tree.specs.Paths as paths
use Rattle.pcal_tree.specs.Paths.{root, roots, is_whole, some_word, same_word}
use Rattle.pcal_tree.specs.Run.{Partner, no_partner, goto_partner, return_partner}
use Rattle.pcal_tree.proofs.EffectLaws.{Alike}
use Rattle.pcal_tree.specs.laws.MacroSummaries as found
use Rattle.pcal_tree.specs.laws.MacroSummaries.{in_turn, at_once, same_truth, variable_of, resolved, is_broken, argument, put_pair, put_found, sides_of, sides, pairs_of, found_in_call, found_here, found_on, effect_by, summary_effect}
use Rattle.pcal_tree.proofs.SetLaws.{Same, Sound, any_map, any_flat, any_union}
use Rattle.pcal_tree.proofs.TargetLaws.{put_for, called_anywhere, found_put}
use Rattle.label_jumps.proofs.FoundLaws.{flat_mapped}
use Rattle.label_steps.specs.declared.gathered.Gathered.{Gathered}
use Rattle.label_steps.specs.declared.known.Known.{Known}
use Rattle.label_steps.specs.declared.path.Path.{Path}
use Rattle.label_steps.specs.declared.put.Side.{Side}
use Rattle.label_steps.specs.declared.put.Summary.{Summary}
use Rattle.label_steps.specs.declared.put.Pair.{Pair}
use Rattle.label_steps.specs.declared.put.Pair.TheVariants as pair
use Rattle.label_steps.specs.GatheredIn.{gathered_pairs, Adds, AddsSome, names_on, turns_on, PassesSide}
use Rattle.label_steps.specs.KnownIn.{may_be_one, find_summary, IsSummary}
use Rattle.label_steps.specs.PathsIn.{path_of}
use Rattle.label_steps.proofs.GatherLaws.{pair_sound, Turns, turns_alike}
use Rattle.label_steps.specs.PutIn.{side_of, pair_of, PutsIn, breaks, SameBroken}
use Rattle.label_steps.specs.contracts.put.SidePartialEq.TheImpl.{eq-value as same_sides}
use Rattle.label_steps.specs.contracts.put.PairPartialEq.TheImpl.{eq-value as same_pairs}

-- ---- what is the same is equal

sides_sound : Sound same_sides.it
sides_sound a b e =
    let h = and_parts (equal a.name b.name) _ e in λ i. record { name = equal_is a.name b.name h.0 i; whole = by a.whole b.whole h.1 i }
  where
    by : (w v : Bool) → same_truth w v ≡ true → w ≡ v
    by true true e = refl
    by false false e = refl
    by true false e = cc
    by false true e = cc

pairs_sound : Sound same_pairs.it
pairs_sound (pair.InTurn a b) (pair.InTurn c d) e =
    let h = and_parts (equal a c) (equal b d) e in λ i. pair.InTurn (equal_is a c h.0 i) (equal_is b d h.1 i)
pairs_sound (pair.AtOnce a b) (pair.AtOnce c d) e =
    let h = and_parts (same_sides.it a c) (same_sides.it b d) e in λ i. pair.AtOnce (sides_sound a c h.0 i) (sides_sound b d h.1 i)
pairs_sound (pair.InTurn a b) (pair.AtOnce c d) e = cc
pairs_sound (pair.AtOnce a b) (pair.InTurn c d) e = cc

-- ---- one more in a set

absorbed : {X : Type 0} (same : X → X → Bool) → Sound same → (f : X → Bool) (x : X) (xs : List X) → list_any (same x) xs ≡ true → list_any f xs ≡ (list_any f xs || f x)
absorbed same sound f x [] e = cc
absorbed {X = X} same sound f x (y ∷ ys) e = by (same x y) refl e (absorbed same sound f x ys)
  where
    once_more : (a b : Bool) → (a || b) ≡ ((a || b) || a)
    once_more true b = refl
    once_more false true = refl
    once_more false false = refl

    later : (a b c : Bool) → b ≡ (b || c) → (a || b) ≡ ((a || b) || c)
    later true b c h = refl
    later false b c h = h

    by : (b : Bool) → same x y ≡ b → (b || list_any (same x) ys) ≡ true → (list_any (same x) ys ≡ true → list_any f ys ≡ (list_any f ys || f x)) → (f y || list_any f ys) ≡ ((f y || list_any f ys) || f x)
    by true h e rest = once_more (f y) (list_any f ys) ∙ ap (λ (z : X). (f y || list_any f ys) || f z) (sym (sound x y h))
    by false h e rest = later (f y) (list_any f ys) (f x) (rest e)

pub any_inserted : {X : Type 0} (same : X → X → Bool) → Sound same → (f : X → Bool) (xs : List X) (x : X) → list_any f (insert_key same xs x) ≡ (list_any f xs || f x)
any_inserted same sound f xs x = by (list_any (same x) xs) refl
  where
    by : (b : Bool) → list_any (same x) xs ≡ b → list_any f (if b then xs else xs ++ x ∷ []) ≡ (list_any f xs || f x)
    by true e = absorbed same sound f x xs e
    by false e = list_any-append f xs (x ∷ []) ∙ ap (λ (b : Bool). list_any f xs || b) (or-false (f x))

-- ---- what is found besides

module _ (k : Known) where
  pub adds_none : (a : Gathered) → Adds k a a [] []
  adds_none a = record { names = λ f. ap (list_any f) (sym (append-nil a.names.keys)); pairs = λ g h. ap (breaks g) (sym (append-nil (gathered_pairs a))) }

  pub adds_then : (a b c : Gathered) (xs ys : List Word) (ps qs : List found.Pair) → Adds k a b xs ps → Adds k b c ys qs → Adds k a c (xs ++ ys) (ps ++ qs)
  adds_then a b c xs ys ps qs h l = record {
    names = λ f.
        l.names f ∙ list_any-append f b.names.keys ys ∙ ap (λ (t : Bool). t || list_any f ys) (h.names f) ∙ sym (list_any-append f (a.names.keys ++ xs) ys)
        ∙ ap (list_any f) (append_assoc a.names.keys xs ys);
    pairs = λ g z.
        l.pairs g z ∙ list_any-append (is_broken (put_for g)) (gathered_pairs b) qs ∙ ap (λ (t : Bool). t || breaks g qs) (h.pairs g z)
        ∙ sym (list_any-append (is_broken (put_for g)) (gathered_pairs a ++ ps) qs) ∙ ap (breaks g) (append_assoc (gathered_pairs a) ps qs);
  }

  -- as much as this
  pub adds_as : (a b : Gathered) (xs ys : List Word) (ps qs : List found.Pair) → Same xs ys → SameBroken k.params.keys ps qs → Adds k a b xs ps → Adds k a b ys qs
  adds_as a b xs ys ps qs s t h = record {
    names = λ f. h.names f ∙ list_any-append f a.names.keys xs ∙ ap (λ (b : Bool). list_any f a.names.keys || b) (s f) ∙ sym (list_any-append f a.names.keys ys);
    pairs = λ g z.
        h.pairs g z ∙ list_any-append (is_broken (put_for g)) (gathered_pairs a) ps ∙ ap (λ (b : Bool). breaks g (gathered_pairs a) || b) (t g z)
        ∙ sym (list_any-append (is_broken (put_for g)) (gathered_pairs a) qs);
  }

  -- two names that never are one variable
  never_one : (g : Graft) → PutsIn k.params.keys g → (a b : Word) → may_be_one k a b ≡ false → same_word (resolved (put_for g) a) (resolved (put_for g) b) ≡ false
  never_one g z a b e =
      let h = or_parts (is_among k.params.keys a) (is_among k.params.keys b || bytes_eq a b) e in
      let l = or_parts (is_among k.params.keys b) (bytes_eq a b) h.1 in
      (λ i. same_word (variable_of (z.params a h.0 i) a) (variable_of (z.params b l.0 i) b)) ∙ l.1

  pub adds_never_turn : (x : Gathered) (a b : Word) → may_be_one k a b ≡ false → Adds k x x [] (in_turn a b ∷ [])
  adds_never_turn x a b e = adds_as x x [] [] [] (in_turn a b ∷ []) (λ f. refl) (λ g z. sym (or-false (is_broken (put_for g) (in_turn a b)) ∙ never_one g z a b e)) (adds_none x)

  pub adds_never_once : (x : Gathered) (r s : found.Side) → may_be_one k r.name s.name ≡ false → Adds k x x [] (at_once r s ∷ [])
  adds_never_once x r s e =
      adds_as x x [] [] [] (at_once r s ∷ []) (λ f. refl)
      (λ g z. sym (or-false (is_broken (put_for g) (at_once r s)) ∙ ap (λ (b : Bool). b && (found.resolved_whole (put_for g) r || found.resolved_whole (put_for g) s)) (never_one g z r.name s.name e)))
      (adds_none x)

  pub adds_pair : (x y : Gathered) (p : Pair) → y.names.keys ≡ x.names.keys → y.pairs.keys ≡ insert_key same_pairs.it x.pairs.keys p → Adds k x y [] (pair_of p ∷ [])
  adds_pair x y p n e = record {
    names = λ f. ap (list_any f) (n ∙ sym (append-nil x.names.keys));
    pairs = λ g z.
        ap (λ (ps : List Pair). breaks g (map pair_of ps)) e ∙ any_map (is_broken (put_for g)) pair_of (insert_key same_pairs.it x.pairs.keys p)
        ∙ any_inserted same_pairs.it pairs_sound (λ q. is_broken (put_for g) (pair_of q)) x.pairs.keys p
        ∙ (λ i. sym (any_map (is_broken (put_for g)) pair_of x.pairs.keys) i || sym (or-false (is_broken (put_for g) (pair_of p))) i)
        ∙ sym (list_any-append (is_broken (put_for g)) (gathered_pairs x) (pair_of p ∷ []));
  }

  pub adds_turn : (x y : Gathered) (a b c d : Word) → c ≡ a → d ≡ b → y.names.keys ≡ x.names.keys → y.pairs.keys ≡ insert_key same_pairs.it x.pairs.keys (pair.InTurn c d) → Adds k x y [] (in_turn a b ∷ [])
  adds_turn x y a b c d m o n e = subst (λ (z : Word). Adds k x y [] (in_turn z b ∷ [])) m (subst (λ (z : Word). Adds k x y [] (in_turn c z ∷ [])) o (adds_pair x y (pair.InTurn c d) n e))

  pub adds_once : (x y : Gathered) (r s t u : Side) → side_of t ≡ side_of r → side_of u ≡ side_of s → y.names.keys ≡ x.names.keys → y.pairs.keys ≡ insert_key same_pairs.it x.pairs.keys (pair.AtOnce t u)
      → Adds k x y [] (at_once (side_of r) (side_of s) ∷ [])
  adds_once x y r s t u m o n e =
      subst (λ (z : found.Side). Adds k x y [] (at_once z (side_of s) ∷ [])) m (subst (λ (z : found.Side). Adds k x y [] (at_once (side_of t) z ∷ [])) o (adds_pair x y (pair.AtOnce t u) n e))

  pub adds_name : (x y : Gathered) (n : Word) → y.pairs.keys ≡ x.pairs.keys → y.names.keys ≡ insert_key equal x.names.keys n → Adds k x y (n ∷ []) []
  adds_name x y n p e = record {
    names = λ f. ap (list_any f) e ∙ any_inserted equal equal_is f x.names.keys n ∙ ap (λ (b : Bool). list_any f x.names.keys || b) (sym (or-false (f n))) ∙ sym (list_any-append f x.names.keys (n ∷ []));
    pairs = λ g z. ap (λ (ps : List Pair). breaks g (map pair_of ps)) p ∙ ap (breaks g) (sym (append-nil (gathered_pairs x)));
  }

  -- ---- loops

  pub adds_more : {X : Type 0} (h : X → List found.Pair) (a b c : Gathered) (xs : List X) (i : ℕ) (x : X) → x ≡ get_or xs i x → i < length xs → Adds k a b [] (flat_map h (take i xs)) → Adds k b c [] (h x) → Adds k a c [] (flat_map h (take (i + 1) xs))
  adds_more {X = X} h a b c xs i x e l g o =
      subst (λ (ps : List found.Pair). Adds k a c [] ps)
      (ap (λ (ps : List found.Pair). flat_map h (take i xs) ++ ps) (sym (append-nil (h x))) ∙ sym (flat_map-append h (take i xs) (x ∷ [])) ∙ ap (flat_map h) (sym (take_more xs i x l ∙ ap (λ (z : X). take i xs ++ z ∷ []) (sym e))))
      (adds_then a b c [] [] (flat_map h (take i xs)) (h x) g o)

  pub adds_all : {X : Type 0} (h : X → List found.Pair) (a b : Gathered) (xs : List X) (i : ℕ) → length xs ≤ i → Adds k a b [] (flat_map h (take i xs)) → Adds k a b [] (flat_map h xs)
  adds_all {X = X} h a b xs i l g = subst (λ (ys : List X). Adds k a b [] (flat_map h ys)) (take_all i xs l) g

pub singles : {X Y : Type 0} (h : X → Y) (xs : List X) → flat_map (λ x. h x ∷ []) xs ≡ map h xs
singles h [] = refl
singles h (x ∷ xs) = ap (λ (ys : List _). h x ∷ ys) (singles h xs)

-- ---- names, one after another

module _ (k : Known) where
  pub names_more : (a b c : Gathered) (xs : List Word) (i : ℕ) (x : Word) → x ≡ get_or xs i x → i < length xs → Adds k a b (take i xs) [] → Adds k b c (x ∷ []) [] → Adds k a c (take (i + 1) xs) []
  names_more a b c xs i x e l g h =
      subst (λ (ys : List Word). Adds k a c ys []) (sym (take_more xs i x l ∙ ap (λ (z : Word). take i xs ++ z ∷ []) (sym e))) (adds_then k a b c (take i xs) (x ∷ []) [] [] g h)

  pub names_all : (a b : Gathered) (xs : List Word) (i : ℕ) → length xs ≤ i → Adds k a b (take i xs) [] → Adds k a b xs []
  names_all a b xs i l g = subst (λ (ys : List Word). Adds k a b ys []) (take_all i xs l) g

  -- on a path
  pub on_none : (a : Gathered) (p : Path) (ys : List Word) → p.reached ≡ false → Adds k a a (names_on (path_of p) ys) (turns_on (path_of p) ys)
  on_none a p ys e = subst (λ (b : Bool). Adds k a a (names_on (cond b (Some p.names.keys) None) ys) (turns_on (cond b (Some p.names.keys) None) ys)) (sym e) (adds_none k a)

  pub on_some : (a b c : Gathered) (p : Path) (ys : List Word) → p.reached ≡ true → Adds k a b ys [] → Adds k b c [] (flat_map (λ y. map (λ x. in_turn x y) p.names.keys) ys)
      → Adds k a c (names_on (path_of p) ys) (turns_on (path_of p) ys)
  on_some a b c p ys e g h =
      subst (λ (t : Bool). Adds k a c (names_on (cond t (Some p.names.keys) None) ys) (turns_on (cond t (Some p.names.keys) None) ys)) (sym e)
      (subst (λ (xs : List Word). Adds k a c xs (flat_map (λ y. map (λ x. in_turn x y) p.names.keys) ys)) (append-nil ys)
      (adds_then k a b c ys [] [] (flat_map (λ y. map (λ x. in_turn x y) p.names.keys) ys) g h))

  -- ---- left sides of a statement

  pub side_none : (a : Gathered) (met : List Side) (w : Bool) (o : Option Word) → o ≡ None → PassesSide k a a met met (sides_of w o)
  side_none a met w o e = subst (λ (p : Option Word). PassesSide k a a met met (sides_of w p)) (sym e) (λ rs s. (adds_none k a, s))

  pub side_some : (a b : Gathered) (met more : List Side) (x : Word) (v w : Bool) (o : Option Word) → o ≡ Some x → v ≡ w
      → Adds k a b [] (flat_map (λ s. at_once (record { name = x; whole = v }) (side_of s) ∷ []) met) → more ≡ insert_key same_sides.it met (record { name = x; whole = v }) → PassesSide k a b met more (sides_of w o)
  side_some a b met more x v w o e same g n =
      subst (λ (p : Option Word). PassesSide k a b met more (sides_of w p)) (sym e) (subst (λ (u : Bool). PassesSide k a b met more (sides_of u (Some x))) same (λ rs s. (
        adds_as k a b [] [] (flat_map (λ s. at_once one (side_of s) ∷ []) met) (map (at_once one) rs ++ []) (λ f. refl) (λ h z.
            ap (breaks h) (singles (λ s. at_once one (side_of s)) met) ∙ any_map (is_broken (put_for h)) (λ s. at_once one (side_of s)) met
            ∙ sym (any_map (λ r. is_broken (put_for h) (at_once one r)) side_of met) ∙ s (λ r. is_broken (put_for h) (at_once one r)) ∙ sym (any_map (is_broken (put_for h)) (at_once one) rs)
            ∙ ap (breaks h) (sym (append-nil (map (at_once one) rs)))) g,
        λ f.
            ap (λ (ss : List Side). list_any f (map side_of ss)) n ∙ any_map f side_of (insert_key same_sides.it met (record { name = x; whole = v }))
            ∙ any_inserted same_sides.it sides_sound (λ r. f (side_of r)) met (record { name = x; whole = v }) ∙ ap (λ (t : Bool). t || f one) (sym (any_map f side_of met) ∙ s f)
            ∙ or_turned (list_any f rs) (f one),
      )))
    where
      one : found.Side
      one = record { name = x; whole = v }

      or_turned : (b c : Bool) → (b || c) ≡ (c || b)
      or_turned true true = refl
      or_turned true false = refl
      or_turned false true = refl
      or_turned false false = refl

  pub sides_step : (a b c : Gathered) (met more : List Side) (w : Bool) (o : Option Word) (rs : List found.Side) → Same (map side_of met) rs → Adds k a b [] (pairs_of rs) → PassesSide k b c met more (sides_of w o)
      → Adds k a c [] (pairs_of (sides_of w o ++ rs)) × Same (map side_of more) (sides_of w o ++ rs)
  sides_step a b c met more w None rs s g h = (subst (λ (ps : List found.Pair). Adds k a c [] ps) (append-nil (pairs_of rs)) (adds_then k a b c [] [] (pairs_of rs) [] g (h rs s).0), (h rs s).1)
  sides_step a b c met more w (Some x) rs s g h = (
    adds_as k a c [] [] (pairs_of rs ++ (these ++ [])) (these ++ pairs_of rs) (λ f. refl) (λ f z.
        list_any-append (is_broken (put_for f)) (pairs_of rs) (these ++ []) ∙ ap (λ (b : Bool). breaks f (pairs_of rs) || b) (ap (breaks f) (append-nil these))
        ∙ or_turned (breaks f (pairs_of rs)) (breaks f these) ∙ sym (list_any-append (is_broken (put_for f)) these (pairs_of rs))) (adds_then k a b c [] [] (pairs_of rs) (these ++ []) g (h rs s).0),
    (h rs s).1,
  )
    where
      these : List found.Pair
      these = map (at_once (record { name = x; whole = w })) rs

      or_turned : (b c : Bool) → (b || c) ≡ (c || b)
      or_turned true true = refl
      or_turned true false = refl
      or_turned false true = refl
      or_turned false false = refl

  -- ---- calls

  found_in : (ms : List found.Summary) (m : Word) (us : Trees) (d : found.Summary) → find_summary ms m ≡ Some d → found_in_call ms m us ≡ put_found (argument d.params us) d.found
  found_in [] m us d e = cc
  found_in (s ∷ older) m us d e = by (bytes_eq s.name m) e (found_in older m us d)
    where
      by : (b : Bool) → cond b (Some s) (find_summary older m) ≡ Some d → (find_summary older m ≡ Some d → found_in_call older m us ≡ put_found (argument d.params us) d.found)
          → cond b (put_found (argument s.params us) s.found) (found_in_call older m us) ≡ put_found (argument d.params us) d.found
      by true e h = ap (λ (o : Option found.Summary). found_of o) e
        where
          found_of : Option found.Summary → found.Found
          found_of None = found.none_found
          found_of (Some q) = put_found (argument q.params us) q.found
      by false e h = h e

  found_in_none : (ms : List found.Summary) (m : Word) (us : Trees) → find_summary ms m ≡ None → found_in_call ms m us ≡ found.none_found
  found_in_none [] m us e = refl
  found_in_none (s ∷ older) m us e = by (bytes_eq s.name m) e (found_in_none older m us)
    where
      by : (b : Bool) → cond b (Some s) (find_summary older m) ≡ None → (find_summary older m ≡ None → found_in_call older m us ≡ found.none_found)
          → cond b (put_found (argument s.params us) s.found) (found_in_call older m us) ≡ found.none_found
      by true e h = cc
      by false e h = h e

  pub call_none : (a : Gathered) (ms : List found.Summary) (m : Word) (us : Trees) → find_summary ms m ≡ None → Adds k a a [] (found_in_call ms m us).pairs
  call_none a ms m us e = subst (λ (f : found.Found). Adds k a a [] f.pairs) (sym (found_in_none ms m us e)) (adds_none k a)

  -- pairs with trees put in are broken by what is put in around the call as they are by both
  put_broken : (ps : List Name) (us : Trees) (g : Graft) (z : PutsIn k.params.keys g) (qs : List found.Pair)
      → breaks g (flat_map (put_pair (argument ps us)) qs) ≡ breaks (called_with ps (grafts g us) g) qs
  put_broken ps us g z qs =
      sym (found_put ps us g z.anywhere (record { names = []; pairs = qs })).1

  puts_around : (ps : List Name) (us : Trees) (g : Graft) → PutsIn k.params.keys g → ((x : Word) → is_among k.params.keys x ≡ false → (ts : Trees) → argument ps ts x ≡ None) → PutsIn k.params.keys (called_with ps (grafts g us) g)
  puts_around ps us g z none = record {
    anywhere = called_anywhere ps (grafts g us) g z.anywhere;
    params = λ x e. (λ i. option_or (none x e (grafts g us) i) (z.params x e i));
  }

  pub call_some : (a b : Gathered) (ms : List found.Summary) (m : Word) (us : Trees) (s : Summary) (d : found.Summary) → find_summary ms m ≡ Some d → IsSummary k.params.keys s d
      → Adds k a b [] (flat_map (λ p. put_pair (argument s.params us) (pair_of p)) s.pairs.keys) → Adds k a b [] (found_in_call ms m us).pairs
  call_some a b ms m us s d e is g =
      subst (λ (f : found.Found). Adds k a b [] f.pairs) (sym (found_in ms m us d e))
      (adds_as k a b [] [] (flat_map (λ p. put_pair (argument s.params us) (pair_of p)) s.pairs.keys) (flat_map (put_pair (argument d.params us)) d.found.pairs) (λ f. refl) (λ h z.
      ap (breaks h) (flat_mapped (put_pair (argument s.params us)) pair_of s.pairs.keys)
      ∙ ap (λ (ps : List Name). breaks h (flat_map (put_pair (argument ps us)) (map pair_of s.pairs.keys))) is.params
      ∙ put_broken d.params us h z (map pair_of s.pairs.keys) ∙ is.pairs (called_with d.params (grafts h us) h) (puts_around d.params us h z is.inside)
      ∙ sym (put_broken d.params us h z d.found.pairs)) g)

  -- ---- a statement

  pub then_pairs : (a b c : Gathered) (xs : List Word) (ps qs : List found.Pair) → Adds k a b xs ps → Adds k b c [] qs → Adds k a c xs (ps ++ qs)
  then_pairs a b c xs ps qs g h = subst (λ (ys : List Word). Adds k a c ys (ps ++ qs)) (append-nil xs) (adds_then k a b c xs [] ps qs g h)

  -- ---- where something is gathered

  pub adds_some_none : (o : Option Gathered) → AddsSome k o o [] []
  adds_some_none None = tt
  adds_some_none (Some a) = adds_none k a

  pub adds_some_then : (o p q : Option Gathered) (xs ys : List Word) (ps qs : List found.Pair) → AddsSome k o p xs ps → AddsSome k p q ys qs → AddsSome k o q (xs ++ ys) (ps ++ qs)
  adds_some_then None None None xs ys ps qs g h = tt
  adds_some_then (Some a) (Some b) (Some c) xs ys ps qs g h = adds_then k a b c xs ys ps qs g h
  adds_some_then None None (Some c) xs ys ps qs g h = absurd h
  adds_some_then None (Some b) q xs ys ps qs g h = absurd g
  adds_some_then (Some a) None q xs ys ps qs g h = absurd g
  adds_some_then (Some a) (Some b) None xs ys ps qs g h = absurd h

  pub adds_some_as : (o p : Option Gathered) (xs ys : List Word) (ps qs : List found.Pair) → Same xs ys → SameBroken k.params.keys ps qs → AddsSome k o p xs ps → AddsSome k o p ys qs
  adds_some_as None None xs ys ps qs s t g = tt
  adds_some_as (Some a) (Some b) xs ys ps qs s t g = adds_as k a b xs ys ps qs s t g
  adds_some_as None (Some b) xs ys ps qs s t g = absurd g
  adds_some_as (Some a) None xs ys ps qs s t g = absurd g

-- ---- what a macro's statements assign

roots_sides : (ms : Assignments) → roots ms ≡ map (λ s. s.name) (sides ms)
roots_sides no_assignments = refl
roots_sides (assignment l e ms) = by (root l) (roots_sides ms)
  where
    by : (o : Option Word) → roots ms ≡ map (λ s. s.name) (sides ms) → some_word o ++ roots ms ≡ map (λ s. s.name) (sides_of (is_whole l) o ++ sides ms)
    by None h = h
    by (Some x) h = ap (λ (xs : List Word). x ∷ xs) h

call_names : (ms : List found.Summary) (m : Word) (us : Trees) → (summary_effect ms m us).variables ≡ (found_in_call ms m us).names
call_names [] m us = refl
call_names (d ∷ older) m us = by (bytes_eq d.name m) (call_names older m us)
  where
    by : (b : Bool) → (summary_effect older m us).variables ≡ (found_in_call older m us).names
        → (cond b (effect_by (argument d.params us) d.found) (summary_effect older m us)).variables ≡ (cond b (put_found (argument d.params us) d.found) (found_in_call older m us)).names
    by true h = refl
    by false h = h

-- outside procedures
pub outside_names : (ms : List found.Summary) (st : Statement) (j : Partner) → (effect_with (outer_effects (summary_effect ms)) st j).variables ≡ (found_here ms st).names
outside_names ms (assign l) j = roots_sides l
outside_names ms (macro m us) j = call_names ms m us
outside_names ms (await e) j = refl
outside_names ms (print e) j = refl
outside_names ms (assert e) j = refl
outside_names ms skip j = refl
outside_names ms (branch e b c) j = refl
outside_names ms (either bs) j = refl
outside_names ms (with bs b) j = refl
outside_names ms (while e b) j = refl
outside_names ms (goto n) j = refl
outside_names ms (call n us) no_partner = refl
outside_names ms (call n us) (goto_partner l) = refl
outside_names ms (call n us) (return_partner at) = refl
outside_names ms return j = refl

pub plain_names : (ms : List found.Summary) (st : Statement) → (outer_effects (summary_effect ms) st).variables ≡ (found_here ms st).names
plain_names ms (assign l) = roots_sides l
plain_names ms (macro m us) = call_names ms m us
plain_names ms (await e) = refl
plain_names ms (print e) = refl
plain_names ms (assert e) = refl
plain_names ms skip = refl
plain_names ms (branch e b c) = refl
plain_names ms (either bs) = refl
plain_names ms (with bs b) = refl
plain_names ms (while e b) = refl
plain_names ms (goto n) = refl
plain_names ms (call n us) = refl
plain_names ms return = refl

-- on paths that have assigned the same
module _ (ms : List found.Summary) (st : Statement) (ys : List Word) (same : Same ys (found_here ms st).names) where
  pub names_alike : (p q : paths.Path) → Alike p q → Same (names_on q ys) (found_on p (found_here ms st)).names
  names_alike None None h f = refl
  names_alike (Some xs) (Some us) h f = same f
  names_alike None (Some us) h f = absurd h
  names_alike (Some xs) None h f = absurd h

  pub pairs_alike : (p q : paths.Path) → Alike p q → (f : found.Pair → Bool) → list_any f (turns_on q ys ++ (found_here ms st).pairs) ≡ list_any f (found_on p (found_here ms st)).pairs
  pairs_alike None None h f = refl
  pairs_alike (Some xs) (Some us) h f =
      list_any-append f (Turns us ys) (found_here ms st).pairs
      ∙ ap (λ (b : Bool). b || list_any f (found_here ms st).pairs)
      (sym (turns_alike xs us ys h f) ∙ any_flat f (λ y. map (λ x. in_turn x y) xs) ys ∙ same (λ y. list_any f (map (λ x. in_turn x y) xs)) ∙ sym (any_flat f (λ y. map (λ x. in_turn x y) xs) (found_here ms st).names))
      ∙ or_turned (list_any f (Turns xs (found_here ms st).names)) (list_any f (found_here ms st).pairs)
      ∙ sym (any_union found.same_pair pair_sound f (found_here ms st).pairs (Turns xs (found_here ms st).names))
    where
      or_turned : (b c : Bool) → (b || c) ≡ (c || b)
      or_turned true true = refl
      or_turned true false = refl
      or_turned false true = refl
      or_turned false false = refl
  pairs_alike None (Some us) h f = absurd h
  pairs_alike (Some xs) None h f = absurd h
