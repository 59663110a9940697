-- What is found in a macro's body is what is found in its statements one by one, and where no label is missing, along straight paths.
use Rattle.std.proofs.Common.{◌≡◌, List, [], ◌∷◌, ◌++◌, Bool, true, false, ◌||◌, cond, bytes_eq, Option, Some, None, refl, sym, ◌∙◌, ap, map}
use Rattle.std.specs.Option.{option_map}
use Rattle.std.specs.List.{list_any, flat_map}
use Rattle.std.proofs.lemmas.Bool.{and_parts}
use Rattle.std.proofs.lemmas.List.Folds.{list_any-append}
use Rattle.std.proofs.lemmas.Grind.{flat_map-append}
use Rattle.std.proofs.Math.Bool.{or-false}
use Rattle.tla_token.specs.declared.place.Place.{Place}
use Rattle.tla_token.specs.declared.rule.Rule.{Rule}
use Rattle.tla_token.proofs.Spelled.{same_bytes}
use Rattle.tla_tree.specs.Tree.{Word}
use Rattle.pcal_tree.specs.Algorithm.{Statement, assign, await, print, assert, skip, branch, either, with, while, goto, macro, call, return, Statements, done, then, mark, Branches, no_branches, or}
use Rattle.pcal_tree.specs.Run.{Partner, partner_of}
use Rattle.pcal_tree.specs.Paths as path
use Rattle.pcal_tree.specs.Paths.{Effects, Path, after_one, after, after_some}
use Rattle.pcal_tree.specs.OffencesSteps.{Before, inside, due_after, Visit, visits_inside, visits, visits_of_some}
use Rattle.pcal_tree.specs.laws.MacroSummaries.{Pair, in_turn, at_once, Found, same_truth, same_side, same_pair, union, none_found, both, joined, trail_after_one, trail_after, trail_after_some, found_on, found_inside, found, found_in_some}
use Rattle.pcal_tree.proofs.EffectLaws.{Alike}
use Rattle.pcal_tree.proofs.SetLaws.{any_flat, any_map, any_same, Same, same_both, Sound, any_union}
use Rattle.label_steps.specs.Gathered.{assigning, names_met, pairs_met, gathered, FoundAlike}
use Rattle.label_steps.specs.MissingLabels.{due_in}
use Rattle.label_steps.proofs.DueLaws.{At}
use Rattle.label_steps.proofs.StraightLaws.{all_straight}

-- ---- what is the same is equal

truth_sound : Sound same_truth
truth_sound true true e = refl
truth_sound false false e = refl
truth_sound true false e = cc
truth_sound false true e = cc

side_sound : Sound same_side
side_sound s r e =
    let h = and_parts (bytes_eq s.name r.name) (same_truth s.whole r.whole) e in
    λ i. record { name = same_bytes s.name r.name h.0 i; whole = truth_sound s.whole r.whole h.1 i }

pub pair_sound : Sound same_pair
pair_sound (in_turn a b) (in_turn c d) e =
    let h = and_parts (bytes_eq a c) (bytes_eq b d) e in λ i. in_turn (same_bytes a c h.0 i) (same_bytes b d h.1 i)
pair_sound (at_once a b) (at_once c d) e =
    let h = and_parts (same_side a c) (same_side b d) e in λ i. at_once (side_sound a c h.0 i) (side_sound b d h.1 i)
pair_sound (in_turn a b) (at_once c d) e = cc
pair_sound (at_once a b) (in_turn c d) e = cc

-- ---- paths, each name once or more often

words_united : (xs us ys vs : List Word) → Same xs us → Same ys vs → Same (xs ++ ys) (union bytes_eq us vs)
words_united xs us ys vs s r f = same_both xs us ys vs s r f ∙ list_any-append f us vs ∙ sym (any_union bytes_eq same_bytes f us vs)

joined_alike : (p q o r : Path) → Alike p q → Alike o r → Alike (path.joined p o) (joined q r)
joined_alike None None o r h k = k
joined_alike (Some xs) (Some us) None None h k = h
joined_alike (Some xs) (Some us) (Some ys) (Some vs) h k = words_united xs us ys vs h k
joined_alike (Some xs) (Some us) None (Some vs) h k = absurd k
joined_alike (Some xs) (Some us) (Some ys) None h k = absurd k
joined_alike None (Some us) o r h k = absurd h
joined_alike (Some xs) None o r h k = absurd h

again_alike : (f h : Path → Path) → ((p q : Path) → Alike p q → Alike (f p) (h q)) → (p q : Path) → Alike p q → Alike (path.again f p) (path.again h q)
again_alike f h c None None k = k
again_alike f h c (Some xs) (Some us) k = c (Some xs) (Some us) k
again_alike f h c None (Some us) k = absurd k
again_alike f h c (Some xs) None k = absurd k

rounds_alike : (f h : Path → Path) → ((p q : Path) → Alike p q → Alike (f p) (h q)) → (p q : Path) → Alike p q → Alike (path.rounds path.joined f p) (path.rounds joined h q)
rounds_alike f h c None None k = again_alike f h c (f None) (h None) (c None None k)
rounds_alike f h c (Some xs) (Some us) k = joined_alike (f (Some xs)) (h (Some us)) (Some xs) (Some us) (c (Some xs) (Some us) k) k
rounds_alike f h c None (Some us) k = absurd k
rounds_alike f h c (Some xs) None k = absurd k

chosen_alike : (l : Bool) (p q o r : Path) → Alike p q → Alike o r → Alike (cond l p o) (cond l q r)
chosen_alike true p q o r h k = h
chosen_alike false p q o r h k = k

assigned_alike : (xs : List Word) (p q : Path) → Alike p q → Alike (option_map (λ ys. xs ++ ys) p) (option_map (λ ys. union bytes_eq xs ys) q)
assigned_alike xs None None h = h
assigned_alike xs (Some ys) (Some us) h = words_united xs xs ys us (λ f. refl) h
assigned_alike xs None (Some us) h = absurd h
assigned_alike xs (Some ys) None h = absurd h

module _ (S : Statement → Found) where
  mutual
    one_alike : (st : Statement) (l : Bool) (p q : Path) → Alike p q → Alike (after_one (assigning S) st l p) (trail_after_one S st l q)
    one_alike (branch e a b) l p q k =
        joined_alike (after (assigning S) a false p) (trail_after S a false q) (after (assigning S) b false p) (trail_after S b false q) (all_alike a false p q k) (all_alike b false p q k)
    one_alike (either bs) l p q k = some_alike bs p q k
    one_alike (with bs b) l p q k = all_alike b false p q k
    one_alike (while e b) l p q k =
        chosen_alike l p q (path.rounds path.joined (λ r. after (assigning S) b false r) p) (path.rounds joined (λ r. trail_after S b false r) q) k
        (rounds_alike (λ r. after (assigning S) b false r) (λ r. trail_after S b false r) (λ r s c. all_alike b false r s c) p q k)
    one_alike (goto n) l p q k = tt
    one_alike (call n ts) l p q k = tt
    one_alike return l p q k = tt
    one_alike (assign ms) l p q k = assigned_alike (S (assign ms)).names p q k
    one_alike (await e) l p q k = assigned_alike (S (await e)).names p q k
    one_alike (print e) l p q k = assigned_alike (S (print e)).names p q k
    one_alike (assert e) l p q k = assigned_alike (S (assert e)).names p q k
    one_alike skip l p q k = assigned_alike (S skip).names p q k
    one_alike (macro m ts) l p q k = assigned_alike (S (macro m ts)).names p q k

    all_alike : (b : Statements) (l : Bool) (p q : Path) → Alike p q → Alike (after (assigning S) b l p) (trail_after S b l q)
    all_alike done l p q k = k
    all_alike (mark n m rest) l p q k = all_alike rest true (Some []) (Some []) (λ f. refl)
    all_alike (then at st rest) l p q k = all_alike rest false (after_one (assigning S) st l p) (trail_after_one S st l q) (one_alike st l p q k)

    some_alike : (bs : Branches) (p q : Path) → Alike p q → Alike (after_some (assigning S) bs p) (trail_after_some S bs q)
    some_alike no_branches p q k = tt
    some_alike (or b bs) p q k =
        joined_alike (after (assigning S) b false p) (trail_after S b false q) (after_some (assigning S) bs p) (trail_after_some S bs q) (all_alike b false p q k) (some_alike bs p q k)

-- ---- what is found in statements that are met

abbrev pub FoundIn : (Statement → Found) → List Visit → Found
FoundIn S vs = record { names = flat_map (names_met S) vs; pairs = flat_map (pairs_met S) vs }

abbrev pub Turns : List Word → List Word → List Pair
Turns xs ys = flat_map (λ y. map (λ x. in_turn x y) xs) ys

pub turns_alike : (xs us ys : List Word) → Same xs us → Same (Turns xs ys) (Turns us ys)
turns_alike xs us ys s f =
    any_flat f (λ y. map (λ x. in_turn x y) xs) ys
    ∙ any_same (λ y. list_any f (map (λ x. in_turn x y) xs)) (λ y. list_any f (map (λ x. in_turn x y) us))
    (λ y. any_map f (λ x. in_turn x y) xs ∙ s (λ x. f (in_turn x y)) ∙ sym (any_map f (λ x. in_turn x y) us)) ys
    ∙ sym (any_flat f (λ y. map (λ x. in_turn x y) us) ys)

pub on_alike : (p q : Path) (f : Found) → Alike p q → FoundAlike (found_on p f) (found_on q f)
on_alike None None f k = record { names = λ t. refl; pairs = λ t. refl }
on_alike (Some xs) (Some us) f k = record {
  names = λ t. refl;
  pairs = λ t.
      any_union same_pair pair_sound t f.pairs (Turns xs f.names) ∙ ap (λ (b : Bool). list_any t f.pairs || b) (turns_alike xs us f.names k t)
      ∙ sym (any_union same_pair pair_sound t f.pairs (Turns us f.names));
}
on_alike None (Some us) f k = absurd k
on_alike (Some xs) None f k = absurd k

module _ (S : Statement → Found) where
  none_met : FoundAlike (FoundIn S []) none_found
  none_met = record { names = λ t. refl; pairs = λ t. refl }

  both_met : (vs ws : List Visit) (a b : Found) → FoundAlike (FoundIn S vs) a → FoundAlike (FoundIn S ws) b → FoundAlike (FoundIn S (vs ++ ws)) (both a b)
  both_met vs ws a b m n = record {
    names = λ t. ap (list_any t) (flat_map-append (names_met S) vs ws) ∙ words_united (flat_map (names_met S) vs) a.names (flat_map (names_met S) ws) b.names m.names n.names t;
    pairs = λ t.
        ap (list_any t) (flat_map-append (pairs_met S) vs ws) ∙ same_both (flat_map (pairs_met S) vs) a.pairs (flat_map (pairs_met S) ws) b.pairs m.pairs n.pairs t
        ∙ list_any-append t a.pairs b.pairs ∙ sym (any_union same_pair pair_sound t a.pairs b.pairs);
  }

  one_met : (b : Before) (at : Place) (st : Statement) (j : Partner) (q : Path) → Alike b.path q → FoundAlike (FoundIn S (record { before = b; place = at; statement = st; partner = j } ∷ [])) (found_on q (S st))
  one_met b at st j q k =
      let h = on_alike b.path q (S st) k in
      record {
        names = λ t. list_any-append t (found_on b.path (S st)).names [] ∙ or-false (list_any t (found_on b.path (S st)).names) ∙ h.names t;
        pairs = λ t. list_any-append t (found_on b.path (S st)).pairs [] ∙ or-false (list_any t (found_on b.path (S st)).pairs) ∙ h.pairs t;
      }

  mutual
    met_inside : (st : Statement) (l : Bool) (r : Option Rule) (p q : Path) → Alike p q → FoundAlike (FoundIn S (visits_inside (assigning S) (At l r p) st)) (found_inside S l q st)
    met_inside (branch e a b) l r p q k =
        both_met (visits (assigning S) (inside p) a) (visits (assigning S) (inside p) b) (found S false q a) (found S false q b) (met_all a false None p q k) (met_all b false None p q k)
    met_inside (either bs) l r p q k = met_some bs p q k
    met_inside (with bs b) l r p q k = met_all b false None p q k
    met_inside (while e b) l r p q k = met_all b false None (after_one (assigning S) (while e b) l p) (trail_after_one S (while e b) l q) (one_alike S (while e b) l p q k)
    met_inside (assign ms) l r p q k = none_met
    met_inside (await e) l r p q k = none_met
    met_inside (print e) l r p q k = none_met
    met_inside (assert e) l r p q k = none_met
    met_inside skip l r p q k = none_met
    met_inside (goto n) l r p q k = none_met
    met_inside (macro m ts) l r p q k = none_met
    met_inside (call n ts) l r p q k = none_met
    met_inside return l r p q k = none_met

    pub met_all : (b : Statements) (l : Bool) (r : Option Rule) (p q : Path) → Alike p q → FoundAlike (FoundIn S (visits (assigning S) (At l r p) b)) (found S l q b)
    met_all done l r p q k = none_met
    met_all (mark n m rest) l r p q k = met_all rest true None (Some []) (Some []) (λ f. refl)
    met_all (then at st rest) l r p q k =
        let j = partner_of rest in
        let more = visits (assigning S) (At false (due_after st j) (after_one (assigning S) st l p)) rest in
        both_met (record { before = At l r p; place = at.first; statement = st; partner = j } ∷ []) (visits_inside (assigning S) (At l r p) st ++ more) (found_on q (S st)) (both (found_inside S l q st) (found S false (trail_after_one S st l q) rest))
        (one_met (At l r p) at.first st j q k)
        (both_met (visits_inside (assigning S) (At l r p) st) more (found_inside S l q st) (found S false (trail_after_one S st l q) rest)
        (met_inside st l r p q k)
        (met_all rest false (due_after st j) (after_one (assigning S) st l p) (trail_after_one S st l q) (one_alike S st l p q k)))

    met_some : (bs : Branches) (p q : Path) → Alike p q → FoundAlike (FoundIn S (visits_of_some (assigning S) (inside p) bs)) (found_in_some S q bs)
    met_some no_branches p q k = none_met
    met_some (or b bs) p q k =
        both_met (visits (assigning S) (inside p) b) (visits_of_some (assigning S) (inside p) bs) (found S false q b) (found_in_some S q bs) (met_all b false None p q k) (met_some bs p q k)

  -- what is found in a macro's body
  pub gathered_is : (b : Statements) → due_in false None b ≡ [] → FoundAlike (gathered S (Some []) b) (found S false (Some []) b)
  gathered_is b d =
      let m = met_all b false None (Some []) (Some []) (λ f. refl) in
      record {
        names = λ t. ap (list_any t) (sym (all_straight (names_met S) (λ l r p at st j. refl) (assigning S) false None (Some []) (Some []) b d (λ k. refl))) ∙ m.names t;
        pairs = λ t. ap (list_any t) (sym (all_straight (pairs_met S) (λ l r p at st j. refl) (assigning S) false None (Some []) (Some []) b d (λ k. refl))) ∙ m.pairs t;
      }
