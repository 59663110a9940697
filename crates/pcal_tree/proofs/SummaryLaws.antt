-- What is computed once for each macro says what its calls assign.
use Rattle.std.proofs.Common.{◌≡◌, List, [], ◌∷◌, ◌++◌, Bool, true, false, ◌||◌, cond, bytes_eq, Option, Some, None, refl, sym, ◌∙◌, ap, map}
use Rattle.std.specs.Option.{option_or, option_map}
use Rattle.std.specs.List.{list_any, flat_map}
use Rattle.std.proofs.lemmas.List.Folds.{list_any-append}
use Rattle.std.proofs.lemmas.Grind.{flat_map-append}
use Rattle.std.proofs.lemmas.Bool.{and_parts}
use Rattle.std.proofs.Math.Bool.{or-false}
use Rattle.tla_token.specs.declared.place.Place.{Place}
use Rattle.tla_token.specs.Signs.{is_among}
use Rattle.tla_token.proofs.Spelled.{same_bytes}
use Rattle.tla_tree.specs.Tree.{Word, Tree, Trees, Graft, grafts}
use Rattle.pcal_tree.specs.Algorithm.{Statement, assign, await, print, assert, skip, branch, either, with, while, goto, macro, call, return, Statements, done, then, mark, Branches, no_branches, or, Macro}
use Rattle.pcal_tree.specs.Run.{Partner, no_partner, goto_partner, return_partner, partner_of}
use Rattle.pcal_tree.specs.Expand.{graft_one, graft_all, graft_some}
use Rattle.pcal_tree.specs.Paths as path
use Rattle.pcal_tree.specs.Paths.{Effect, Effects, nothing, Path, after_one, after, after_some, is_reached, meets, has_assigned, some_word, same_word}
use Rattle.pcal_tree.specs.OffencesSteps.{Before, at_label, inside, next, Visit, visits_inside, visits, visits_of_some, effect_with, assigns_twice, reached_variables, in_macro, effect_of_body, called_with, effect_within, nothing_put, call_effect}
use Rattle.pcal_tree.specs.laws.MacroSummaries.{in_turn, at_once, Found, Summary, same_truth, same_side, same_pair, union, none_found, both, put_found, found_in_call, found_here, argument, Trail, joined, trail_after_one, trail_after, trail_after_some, found_on, found_inside, found, found_in_some, summaries, resolved, is_broken, effect_by, summary_effect}
use Rattle.pcal_tree.proofs.SetLaws.{any_flat, any_map, any_same, any_none, Same, same_both, among_flat, meets_any, meets_same, Agree, Sound, any_union}
use Rattle.pcal_tree.proofs.TargetLaws.{Anywhere, called_anywhere, put_for, variables_of, roots_put, clashes_put, found_put, same_none}

-- ---- what is the same is equal

truth_sound : Sound same_truth
truth_sound true true e = refl
truth_sound false false e = refl
truth_sound true false e = cc
truth_sound false true e = cc

side_sound : Sound same_side
side_sound s r e =
    let h = and_parts (bytes_eq s.name r.name) (same_truth s.whole r.whole) e in
    λ i. record { name = same_bytes s.name r.name h.0 i; whole = truth_sound s.whole r.whole h.1 i }

pair_sound : Sound same_pair
pair_sound (in_turn a b) (in_turn c d) e =
    let h = and_parts (bytes_eq a c) (bytes_eq b d) e in λ i. in_turn (same_bytes a c h.0 i) (same_bytes b d h.1 i)
pair_sound (at_once a b) (at_once c d) e =
    let h = and_parts (same_side a c) (same_side b d) e in λ i. at_once (side_sound a c h.0 i) (side_sound b d h.1 i)
pair_sound (in_turn a b) (at_once c d) e = cc
pair_sound (at_once a b) (in_turn c d) e = cc

-- ---- paths

-- what a path has assigned, by the names found on it
abbrev On : (Word → Option Tree) → Path → Trail → Type 0
On g None None = Unit {0}
On g (Some xs) (Some ts) = Same xs (variables_of g ts)
On g _ _ = ⊥

union_variables : (g : Word → Option Tree) (ts us : List Word) → Same (variables_of g ts ++ variables_of g us) (variables_of g (union bytes_eq ts us))
union_variables g ts us f =
    list_any-append f (variables_of g ts) (variables_of g us)
    ∙ (λ i. any_flat f (λ t. some_word (resolved g t)) ts i || any_flat f (λ t. some_word (resolved g t)) us i)
    ∙ sym (any_union bytes_eq same_bytes (λ t. list_any f (some_word (resolved g t))) ts us)
    ∙ sym (any_flat f (λ t. some_word (resolved g t)) (union bytes_eq ts us))

same_union : (g : Word → Option Tree) (xs ys : List Word) (ts us : List Word) → Same xs (variables_of g ts) → Same ys (variables_of g us) → Same (xs ++ ys) (variables_of g (union bytes_eq ts us))
same_union g xs ys ts us s r f = same_both xs (variables_of g ts) ys (variables_of g us) s r f ∙ union_variables g ts us f

on_joined : (g : Word → Option Tree) (p : Path) (q : Trail) (o : Path) (r : Trail) → On g p q → On g o r → On g (path.joined p o) (joined q r)
on_joined g None None o r h k = k
on_joined g (Some xs) (Some ts) None None h k = h
on_joined g (Some xs) (Some ts) (Some ys) (Some us) h k = same_union g xs ys ts us h k
on_joined g (Some xs) (Some ts) None (Some us) h k = absurd k
on_joined g (Some xs) (Some ts) (Some ys) None h k = absurd k
on_joined g None (Some ts) o r h k = absurd h
on_joined g (Some xs) None o r h k = absurd h

on_again : (g : Word → Option Tree) (f : Path → Path) (h : Trail → Trail) → ((p : Path) (q : Trail) → On g p q → On g (f p) (h q))
    → (p : Path) (q : Trail) → On g p q → On g (path.again f p) (path.again h q)
on_again g f h c None None k = k
on_again g f h c (Some xs) (Some ts) k = c (Some xs) (Some ts) k
on_again g f h c None (Some ts) k = absurd k
on_again g f h c (Some xs) None k = absurd k

on_rounds : (g : Word → Option Tree) (f : Path → Path) (h : Trail → Trail) → ((p : Path) (q : Trail) → On g p q → On g (f p) (h q))
    → (p : Path) (q : Trail) → On g p q → On g (path.rounds path.joined f p) (path.rounds joined h q)
on_rounds g f h c None None k = on_again g f h c (f None) (h None) (c None None k)
on_rounds g f h c (Some xs) (Some ts) k = on_joined g (f (Some xs)) (h (Some ts)) (Some xs) (Some ts) (c (Some xs) (Some ts) k) k
on_rounds g f h c None (Some ts) k = absurd k
on_rounds g f h c (Some xs) None k = absurd k

on_chosen : (g : Word → Option Tree) (l : Bool) (p : Path) (q : Trail) (o : Path) (r : Trail) → On g p q → On g o r → On g (cond l p o) (cond l q r)
on_chosen g true p q o r h k = h
on_chosen g false p q o r h k = k

on_assigned : (g : Word → Option Tree) (e : Effect) (f : Found) → Agree e (effect_by g f) → (p : Path) (q : Trail) → On g p q
    → On g (option_map (λ xs. e.variables ++ xs) p) (option_map (λ ts. union bytes_eq f.names ts) q)
on_assigned g e f a None None h = h
on_assigned g e f a (Some xs) (Some ts) h = same_union g e.variables xs f.names ts a.0 h
on_assigned g e f a None (Some ts) h = absurd h
on_assigned g e f a (Some xs) None h = absurd h

-- each statement assigns what was found in it, whatever directly follows it
abbrev Follows : Graft → (Word → Option Tree) → Effects → (Statement → Found) → Type 0
Follows h g E S = (st : Statement) (j : Partner) → Agree (effect_with E (graft_one h st) j) (effect_by g (S st))

mutual
  on_after_one : (h : Graft) (g : Word → Option Tree) (E : Effects) (S : Statement → Found) → Follows h g E S
      → (st : Statement) (l : Bool) (p : Path) (q : Trail) → On g p q → On g (after_one E (graft_one h st) l p) (trail_after_one S st l q)
  on_after_one h g E S a (branch e b c) l p q k =
      on_joined g (after E (graft_all h b) false p) (trail_after S b false q) (after E (graft_all h c) false p) (trail_after S c false q)
      (on_after h g E S a b false p q k) (on_after h g E S a c false p q k)
  on_after_one h g E S a (either bs) l p q k = on_after_some h g E S a bs p q k
  on_after_one h g E S a (with bs b) l p q k = on_after h g E S a b false p q k
  on_after_one h g E S a (while e b) l p q k =
      on_chosen g l p q (path.rounds path.joined (λ r. after E (graft_all h b) false r) p) (path.rounds joined (λ r. trail_after S b false r) q) k
      (on_rounds g (λ r. after E (graft_all h b) false r) (λ r. trail_after S b false r) (λ r s c. on_after h g E S a b false r s c) p q k)
  on_after_one h g E S a (goto n) l p q k = tt
  on_after_one h g E S a (call n ts) l p q k = tt
  on_after_one h g E S a return l p q k = tt
  on_after_one h g E S a (assign ms) l p q k = on_assigned g (E (graft_one h (assign ms))) (S (assign ms)) (a (assign ms) no_partner) p q k
  on_after_one h g E S a (await e) l p q k = on_assigned g (E (graft_one h (await e))) (S (await e)) (a (await e) no_partner) p q k
  on_after_one h g E S a (print e) l p q k = on_assigned g (E (graft_one h (print e))) (S (print e)) (a (print e) no_partner) p q k
  on_after_one h g E S a (assert e) l p q k = on_assigned g (E (graft_one h (assert e))) (S (assert e)) (a (assert e) no_partner) p q k
  on_after_one h g E S a skip l p q k = on_assigned g (E (graft_one h skip)) (S skip) (a skip no_partner) p q k
  on_after_one h g E S a (macro m ts) l p q k = on_assigned g (E (graft_one h (macro m ts))) (S (macro m ts)) (a (macro m ts) no_partner) p q k

  on_after : (h : Graft) (g : Word → Option Tree) (E : Effects) (S : Statement → Found) → Follows h g E S
      → (b : Statements) (l : Bool) (p : Path) (q : Trail) → On g p q → On g (after E (graft_all h b) l p) (trail_after S b l q)
  on_after h g E S a done l p q k = k
  on_after h g E S a (mark n m rest) l p q k = on_after h g E S a rest true (Some []) (Some []) (λ f. refl)
  on_after h g E S a (then at st rest) l p q k =
      on_after h g E S a rest false (after_one E (graft_one h st) l p) (trail_after_one S st l q) (on_after_one h g E S a st l p q k)

  on_after_some : (h : Graft) (g : Word → Option Tree) (E : Effects) (S : Statement → Found) → Follows h g E S
      → (bs : Branches) (p : Path) (q : Trail) → On g p q → On g (after_some E (graft_some h bs) p) (trail_after_some S bs q)
  on_after_some h g E S a no_branches p q k = tt
  on_after_some h g E S a (or b bs) p q k =
      on_joined g (after E (graft_all h b) false p) (trail_after S b false q) (after_some E (graft_some h bs) p) (trail_after_some S bs q)
      (on_after h g E S a b false p q k) (on_after_some h g E S a bs p q k)

-- ---- statements met

-- what the statements met assign, by what was found
abbrev Met : (Word → Option Tree) → Effects → List Visit → Found → Type 0
Met g E vs f = Same (flat_map (reached_variables E) vs) (variables_of g f.names) × (list_any (assigns_twice E) vs ≡ list_any (is_broken g) f.pairs)

met_none : (g : Word → Option Tree) (E : Effects) → Met g E [] none_found
met_none g E = (λ f. refl, refl)

met_both : (g : Word → Option Tree) (E : Effects) (vs ws : List Visit) (a b : Found) → Met g E vs a → Met g E ws b → Met g E (vs ++ ws) (both a b)
met_both g E vs ws a b m n = (
  λ f. ap (list_any f) (flat_map-append (reached_variables E) vs ws)
      ∙ same_union g (flat_map (reached_variables E) vs) (flat_map (reached_variables E) ws) a.names b.names m.0 n.0 f,
  list_any-append (assigns_twice E) vs ws ∙ (λ i. m.1 i || n.1 i) ∙ sym (any_union same_pair pair_sound (is_broken g) a.pairs b.pairs),
)

-- of what the path has assigned, what is assigned again
again : (g : Word → Option Tree) (ts us : List Word)
    → meets (variables_of g ts) (variables_of g us) ≡ list_any (is_broken g) (flat_map (λ y. map (λ x. in_turn x y) ts) us)
again g ts us =
    meets_any (variables_of g ts) (variables_of g us)
    ∙ any_flat (is_among (variables_of g ts)) (λ t. some_word (resolved g t)) us
    ∙ any_same (λ y. list_any (is_among (variables_of g ts)) (some_word (resolved g y))) (λ y. list_any (is_broken g) (map (λ x. in_turn x y) ts)) one us
    ∙ sym (any_flat (is_broken g) (λ y. map (λ x. in_turn x y) ts) us)
  where
    holds : (w : Word) (o : Option Word) → is_among (some_word o) w ≡ same_word o (Some w)
    holds w None = refl
    holds w (Some x) = or-false (bytes_eq x w)

    by : (o : Option Word) → list_any (is_among (variables_of g ts)) (some_word o) ≡ list_any (λ x. same_word (resolved g x) o) ts
    by None = sym (any_none (λ x. same_word (resolved g x) None) (λ x. same_none (resolved g x)) ts)
    by (Some w) =
        or-false (is_among (variables_of g ts) w) ∙ among_flat (λ t. some_word (resolved g t)) ts w
        ∙ any_same (λ x. is_among (some_word (resolved g x)) w) (λ x. same_word (resolved g x) (Some w)) (λ x. holds w (resolved g x)) ts

    one : (y : Word) → list_any (is_among (variables_of g ts)) (some_word (resolved g y)) ≡ list_any (is_broken g) (map (λ x. in_turn x y) ts)
    one y = by (resolved g y) ∙ sym (any_map (is_broken g) (λ x. in_turn x y) ts)

met_here : (g : Word → Option Tree) (E : Effects) (b : Before) (at : Place) (st : Statement) (j : Partner) (q : Trail) (f : Found)
    → Agree (effect_with E st j) (effect_by g f) → On g b.path q → Met g E (record { before = b; place = at; statement = st; partner = j } ∷ []) (found_on q f)
met_here g E b at st j q f a k = by b.path q k
  where
    by : (p : Path) (q : Trail) → On g p q
        → Same (cond (is_reached p) (effect_with E st j).variables [] ++ []) (variables_of g (found_on q f).names)
        × ((((effect_with E st j).twice || has_assigned p (effect_with E st j).variables) || false) ≡ list_any (is_broken g) (found_on q f).pairs)
    by None None h = (λ t. refl, or-false ((effect_with E st j).twice || false) ∙ or-false (effect_with E st j).twice ∙ a.1)
    by (Some xs) (Some ts) h = (
      λ t. list_any-append t (effect_with E st j).variables [] ∙ or-false (list_any t (effect_with E st j).variables) ∙ a.0 t,
      or-false ((effect_with E st j).twice || meets xs (effect_with E st j).variables)
          ∙ (λ i. a.1 i || meets_same xs (variables_of g ts) (effect_with E st j).variables (variables_of g f.names) h a.0 i)
          ∙ ap (λ (b : Bool). list_any (is_broken g) f.pairs || b) (again g ts f.names)
          ∙ sym (any_union same_pair pair_sound (is_broken g) f.pairs (flat_map (λ y. map (λ x. in_turn x y) ts) f.names)),
    )
    by None (Some ts) h = absurd h
    by (Some xs) None h = absurd h

mutual
  met_inside : (h : Graft) (g : Word → Option Tree) (E : Effects) (S : Statement → Found) → Follows h g E S
      → (st : Statement) (b : Before) (q : Trail) → On g b.path q → Met g E (visits_inside E b (graft_one h st)) (found_inside S b.labelled q st)
  met_inside h g E S a (branch e c d) b q k =
      met_both g E (visits E (inside b.path) (graft_all h c)) (visits E (inside b.path) (graft_all h d)) (found S false q c) (found S false q d)
      (met_all h g E S a c (inside b.path) q k) (met_all h g E S a d (inside b.path) q k)
  met_inside h g E S a (either bs) b q k = met_some h g E S a bs b.path q k
  met_inside h g E S a (with bs c) b q k = met_all h g E S a c (inside b.path) q k
  met_inside h g E S a (while e c) b q k =
      met_all h g E S a c (inside (after_one E (graft_one h (while e c)) b.labelled b.path)) (trail_after_one S (while e c) b.labelled q)
      (on_after_one h g E S a (while e c) b.labelled b.path q k)
  met_inside h g E S a (assign ms) b q k = met_none g E
  met_inside h g E S a (await e) b q k = met_none g E
  met_inside h g E S a (print e) b q k = met_none g E
  met_inside h g E S a (assert e) b q k = met_none g E
  met_inside h g E S a skip b q k = met_none g E
  met_inside h g E S a (goto n) b q k = met_none g E
  met_inside h g E S a (macro m ts) b q k = met_none g E
  met_inside h g E S a (call n ts) b q k = met_none g E
  met_inside h g E S a return b q k = met_none g E

  met_all : (h : Graft) (g : Word → Option Tree) (E : Effects) (S : Statement → Found) → Follows h g E S
      → (c : Statements) (b : Before) (q : Trail) → On g b.path q → Met g E (visits E b (graft_all h c)) (found S b.labelled q c)
  met_all h g E S a done b q k = met_none g E
  met_all h g E S a (mark n m rest) b q k = met_all h g E S a rest at_label (Some []) (λ f. refl)
  met_all h g E S a (then at st rest) b q k =
      met_both g E (record { before = b; place = at.first; statement = graft_one h st; partner = partner_of (graft_all h rest) } ∷ [])
      (visits_inside E b (graft_one h st) ++ visits E (next E b (graft_one h st) (partner_of (graft_all h rest))) (graft_all h rest))
      (found_on q (S st)) (both (found_inside S b.labelled q st) (found S false (trail_after_one S st b.labelled q) rest))
      (met_here g E b at.first (graft_one h st) (partner_of (graft_all h rest)) q (S st) (a st (partner_of (graft_all h rest))) k)
      (met_both g E (visits_inside E b (graft_one h st)) (visits E (next E b (graft_one h st) (partner_of (graft_all h rest))) (graft_all h rest))
      (found_inside S b.labelled q st) (found S false (trail_after_one S st b.labelled q) rest)
      (met_inside h g E S a st b q k)
      (met_all h g E S a rest (next E b (graft_one h st) (partner_of (graft_all h rest))) (trail_after_one S st b.labelled q) (on_after_one h g E S a st b.labelled b.path q k)))

  met_some : (h : Graft) (g : Word → Option Tree) (E : Effects) (S : Statement → Found) → Follows h g E S
      → (bs : Branches) (p : Path) (q : Trail) → On g p q → Met g E (visits_of_some E (inside p) (graft_some h bs)) (found_in_some S q bs)
  met_some h g E S a no_branches p q k = met_none g E
  met_some h g E S a (or c bs) p q k =
      met_both g E (visits E (inside p) (graft_all h c)) (visits_of_some E (inside p) (graft_some h bs)) (found S false q c) (found_in_some S q bs)
      (met_all h g E S a c (inside p) q k) (met_some h g E S a bs p q k)

-- ---- calls

abbrev pub Agreeing : (Word → Trees → Effect) → (Word → Trees → Effect) → Type 0
Agreeing C D = (m : Word) (ts : Trees) → Agree (C m ts) (D m ts)

agree_nothing : Agree nothing nothing
agree_nothing = (λ f. refl, refl)

agree_then : (e f k : Effect) → Agree e f → Agree f k → Agree e k
agree_then e f k a b = (λ t. a.0 t ∙ b.0 t, a.1 ∙ b.1)

-- what a call assigns by the summaries, where g is put in around it
abbrev summary_within : List Summary → Graft → Word → Trees → Effect
summary_within [] g m ts = nothing
summary_within (s ∷ older) g m ts = cond (bytes_eq s.name m) (effect_by (put_for (called_with s.params ts g)) s.found) (summary_within older g m ts)

-- a call in the body
called_found : (g : Graft) → Anywhere g → (ss : List Summary) (m : Word) (us : Trees) → Agree (summary_within ss g m (grafts g us)) (effect_by (put_for g) (found_in_call ss m us))
called_found g free [] m us = agree_nothing
called_found g free (s ∷ older) m us = by (bytes_eq s.name m) (called_found g free older m us)
  where
    by : (b : Bool) → Agree (summary_within older g m (grafts g us)) (effect_by (put_for g) (found_in_call older m us))
        → Agree (cond b (effect_by (put_for (called_with s.params (grafts g us) g)) s.found) (summary_within older g m (grafts g us)))
        (effect_by (put_for g) (cond b (put_found (argument s.params us) s.found) (found_in_call older m us)))
    by true k = found_put s.params us g free s.found
    by false k = k

body_follows : (g : Graft) → Anywhere g → (C : Word → Trees → Effect) (ss : List Summary) → Agreeing C (summary_within ss g) → Follows g (put_for g) (in_macro C) (found_here ss)
body_follows g free C ss a (assign ms) j = (λ f. ap (list_any f) (roots_put g free ms), clashes_put g free ms)
body_follows g free C ss a (macro m us) j =
    agree_then (C m (grafts g us)) (summary_within ss g m (grafts g us)) (effect_by (put_for g) (found_in_call ss m us))
    (a m (grafts g us)) (called_found g free ss m us)
body_follows g free C ss a (await e) j = agree_nothing
body_follows g free C ss a (print e) j = agree_nothing
body_follows g free C ss a (assert e) j = agree_nothing
body_follows g free C ss a skip j = agree_nothing
body_follows g free C ss a (branch e b c) j = agree_nothing
body_follows g free C ss a (either bs) j = agree_nothing
body_follows g free C ss a (with bs b) j = agree_nothing
body_follows g free C ss a (while e b) j = agree_nothing
body_follows g free C ss a (goto n) j = agree_nothing
body_follows g free C ss a (call n us) no_partner = agree_nothing
body_follows g free C ss a (call n us) (goto_partner l) = agree_nothing
body_follows g free C ss a (call n us) (return_partner at) = agree_nothing
body_follows g free C ss a return j = agree_nothing

calls_within : (ms : List Macro) (g : Graft) → Anywhere g → Agreeing (effect_within ms g) (summary_within (summaries ms) g)
calls_within [] g free m ts = agree_nothing
calls_within (d ∷ older) g free m ts = by (bytes_eq d.name.word m) (calls_within older)
  where
    inner : Graft
    inner = called_with d.params ts g

    S : Statement → Found
    S = found_here (summaries older)

    by : (b : Bool) → ((h : Graft) → Anywhere h → Agreeing (effect_within older h) (summary_within (summaries older) h))
        → Agree (cond b (effect_of_body (in_macro (effect_within older inner)) (graft_all inner d.body)) (effect_within older g m ts))
        (cond b (effect_by (put_for inner) (found S false (Some []) d.body)) (summary_within (summaries older) g m ts))
    by true k =
        met_all inner (put_for inner) (in_macro (effect_within older inner)) S (body_follows inner (called_anywhere d.params ts g free) (effect_within older inner) (summaries older) (k inner (called_anywhere d.params ts g free)))
        d.body (inside (Some [])) (Some []) (λ f. refl)
    by false k = k g free m ts

-- outside macros
alone_agrees : (ss : List Summary) → Agreeing (summary_within ss nothing_put) (summary_effect ss)
alone_agrees [] m ts = agree_nothing
alone_agrees (s ∷ older) m ts = by (bytes_eq s.name m) (alone_agrees older m ts)
  where
    or_none : (o : Option Tree) → option_or o None ≡ o
    or_none None = refl
    or_none (Some t) = refl

    same : put_for (called_with s.params ts nothing_put) ≡ argument s.params ts
    same = λ i x. or_none (argument s.params ts x) i

    by : (b : Bool) → Agree (summary_within older nothing_put m ts) (summary_effect older m ts)
        → Agree (cond b (effect_by (put_for (called_with s.params ts nothing_put)) s.found) (summary_within older nothing_put m ts))
        (cond b (effect_by (argument s.params ts) s.found) (summary_effect older m ts))
    by true k = (λ f. ap (λ (g : Word → Option Tree). list_any f (effect_by g s.found).variables) same, ap (λ (g : Word → Option Tree). (effect_by g s.found).twice) same)
    by false k = k

pub calls_agree : (ms : List Macro) → Agreeing (call_effect ms) (summary_effect (summaries ms))
calls_agree ms m ts =
    agree_then (call_effect ms m ts) (summary_within (summaries ms) nothing_put m ts) (summary_effect (summaries ms) m ts)
    (calls_within ms nothing_put (λ x p q. refl) m ts) (alone_agrees (summaries ms) m ts)
