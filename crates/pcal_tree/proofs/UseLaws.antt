-- The uses of names that were found in a macro say what its body offends, wherever it is looked at.
use Rattle.std.proofs.Common.{◌≡◌, ℕ, length, nat_eq, List, [], ◌∷◌, ◌++◌, Bool, true, false, not, ◌&&◌, ◌||◌, cond, bytes_eq, Option, Some, None, refl, sym, subst, ◌∙◌, ap}
use Rattle.std.specs.List.{list_any, flat_map}
use Rattle.std.proofs.lemmas.List.Folds.{list_any-append}
use Rattle.std.proofs.lemmas.Bool.{and_parts, eqb-true}
use Rattle.std.proofs.lemmas.Slice.Eq.{bytes_eq-Decides}
use Rattle.tla_token.specs.declared.place.Place.{Place}
use Rattle.tla_token.specs.declared.rule.Rule.TheVariants.{Unknown, Arity, NotVariable}
use Rattle.tla_token.specs.declared.rule.Refusal.{Refusal}
use Rattle.tla_token.specs.Signs.{is_among}
use Rattle.tla_tree.specs.Tree.{Word, Form, number, string, truth, booleans, strings, name, next, strict, operator_call, conjunction, disjunction, implication, member, if_then_else, cases, binding, local, Tree, node, Trees, no_trees, tree, seen_names, root_place}
use Rattle.pcal_tree.specs.Algorithm.{Name, Assignments, no_assignments, assignment, Binds, no_binds, one_of, is, Statement, assign, await, print, assert, skip, branch, either, with, while, goto, macro, call, return, Statements, done, then, mark, Branches, no_branches, or, Procedure}
use Rattle.pcal_tree.specs.Offences.{offence, offence_if}
use Rattle.tla_value.specs.StandardModules.{is_member, is_last}
use Rattle.pcal_tree.specs.Paths.{root}
use Rattle.pcal_tree.specs.NameUses.{Use, takes, variable, argument, standard, unread, Sight, seeing_plain, use_of, applied_offences, left_offences, handed_use}
use Rattle.pcal_tree.specs.OffencesNames.{form_offences, count, in_tree, in_parts, in_whole, in_each, root_offences, in_left, in_left_parts, Calls, call_offences, in_assignments, in_binds, after_binds, in_one, in_body, in_branches, parameter_use, seeing_parameters}
use Rattle.pcal_tree.specs.laws.MacroSummaries.{same_truth}
use Rattle.pcal_tree.specs.laws.MacroUses.{NameUse, applied, assigned, handed, Uses, MacroUses, used_word, offences_as, same_place, same_refusal, same_use, no_uses, offending, both, use_inside, form_uses, tree_uses, parts_uses, root_uses, left_uses, left_parts_uses, CallUses, assignments_uses, binds_uses, bound_after, one_uses, body_uses, branches_uses, argument_uses, called_use, called_uses, call_uses, offences_seen, offences_by_uses}
use Rattle.pcal_tree.proofs.SetLaws.{or_mixed, any_flat, Same, Sound, any_union}
use Rattle.pcal_tree.proofs.FirstLaws.{place_sound, refusal_sound}
use Rattle.pcal_tree.proofs.RebindNames.{and_nothing}

-- ---- what is the same is equal

truth_sound : Sound same_truth
truth_sound true true e = refl
truth_sound false false e = refl
truth_sound true false e = cc
truth_sound false true e = cc

use_sound : Sound same_use
use_sound (applied x n r at) (applied y k l by) e =
    let h = and_parts (bytes_eq x y) (nat_eq n k && (same_truth r l && same_place at by)) e in
    let q = and_parts (nat_eq n k) (same_truth r l && same_place at by) h.1 in
    let p = and_parts (same_truth r l) (same_place at by) q.1 in
    λ i. applied ((bytes_eq-Decides x y).0 h.0 i) (eqb-true n k q.0 i) (truth_sound r l p.0 i) (place_sound at by p.1 i)
use_sound (assigned x at) (assigned y by) e =
    let h = and_parts (bytes_eq x y) (same_place at by) e in λ i. assigned ((bytes_eq-Decides x y).0 h.0 i) (place_sound at by h.1 i)
use_sound (handed x at) (handed y by) e =
    let h = and_parts (bytes_eq x y) (same_place at by) e in λ i. handed ((bytes_eq-Decides x y).0 h.0 i) (place_sound at by h.1 i)
use_sound (applied x n r at) (assigned y by) e = cc
use_sound (applied x n r at) (handed y by) e = cc
use_sound (assigned x at) (applied y k l by) e = cc
use_sound (assigned x at) (handed y by) e = cc
use_sound (handed x at) (applied y k l by) e = cc
use_sound (handed x at) (assigned y by) e = cc

-- ---- offences and the uses that say them

-- r is s with the names xs around
abbrev pub Around : List Word → Sight → Sight → Type 0
Around xs s r = (x : Word) → use_of r x ≡ cond (is_among xs x) (Some (takes 0)) (use_of s x)

pub around_all : (xs : List Word) (s : Sight) → Around xs s (seeing_plain xs s)
around_all [] s w = refl
around_all (x ∷ xs) s w = by (bytes_eq x w) (around_all xs s w)
  where
    by : (b : Bool) → use_of (seeing_plain xs s) w ≡ cond (is_among xs w) (Some (takes 0)) (use_of s w)
        → cond b (Some (takes 0)) (use_of (seeing_plain xs s) w) ≡ cond (b || is_among xs w) (Some (takes 0)) (use_of s w)
    by true h = refl
    by false h = h

around_more : (ys xs : List Word) (s r : Sight) → Around xs s r → Around (ys ++ xs) s (seeing_plain ys r)
around_more [] xs s r a w = a w
around_more (y ∷ ys) xs s r a w = by (bytes_eq y w) (around_more ys xs s r a w)
  where
    by : (b : Bool) → use_of (seeing_plain ys r) w ≡ cond (is_among (ys ++ xs) w) (Some (takes 0)) (use_of s w)
        → cond b (Some (takes 0)) (use_of (seeing_plain ys r) w) ≡ cond (b || is_among (ys ++ xs) w) (Some (takes 0)) (use_of s w)
    by true h = refl
    by false h = h

abbrev pub Says : Sight → List Refusal → Uses → Type 0
Says s rs u = Same rs (offences_seen u s)

-- of one use
abbrev looked : Sight → NameUse → List Refusal
looked s v = offences_as (use_of s (used_word v)) v

seen_any : (s : Sight) (u : Uses) (f : Refusal → Bool) → list_any f (offences_seen u s) ≡ (list_any f u.offences || list_any (λ v. list_any f (looked s v)) u.free)
seen_any s u f = list_any-append f u.offences (flat_map (looked s) u.free) ∙ ap (λ (b : Bool). list_any f u.offences || b) (any_flat f (looked s) u.free)

seen_both : (s : Sight) (a b : Uses) (f : Refusal → Bool) → (list_any f (offences_seen a s) || list_any f (offences_seen b s)) ≡ list_any f (offences_seen (both a b) s)
seen_both s a b f =
    (λ i. seen_any s a f i || seen_any s b f i)
    ∙ or_mixed (list_any f a.offences) (list_any F a.free) (list_any f b.offences) (list_any F b.free)
    ∙ sym (λ i. any_union same_refusal refusal_sound f a.offences b.offences i || any_union same_use use_sound F a.free b.free i)
    ∙ sym (seen_any s (both a b) f)
  where
    F : NameUse → Bool
    F v = list_any f (looked s v)

says_both : (s : Sight) (rs qs : List Refusal) (a b : Uses) → Says s rs a → Says s qs b → Says s (rs ++ qs) (both a b)
says_both s rs qs a b h k f = list_any-append f rs qs ∙ (λ i. h f i || k f i) ∙ seen_both s a b f

says_offending : (s : Sight) (rs : List Refusal) → Says s rs (offending rs)
says_offending s rs = and_nothing rs

says_nothing : (s : Sight) → Says s [] no_uses
says_nothing s f = refl

says_use : (xs : List Word) (s r : Sight) → Around xs s r → (v : NameUse) → Says s (looked r v) (use_inside xs v)
says_use xs s r a v f = ap (λ (o : Option Use). list_any f (offences_as o v)) (a (used_word v)) ∙ by (is_among xs (used_word v)) f
  where
    by : (b : Bool) → Says s (offences_as (cond b (Some (takes 0)) (use_of s (used_word v))) v) (cond b (offending (offences_as (Some (takes 0)) v)) (record { offences = []; free = v ∷ [] }))
    by true = and_nothing (offences_as (Some (takes 0)) v)
    by false = and_nothing (looked s v)

-- ---- expressions

says_form : (xs : List Word) (s r : Sight) → Around xs s r → (b : Bool) (m : Form) (n : ℕ) (at : Place) → Says s (form_offences r b m n at) (form_uses xs b m n at)
says_form xs s r a b (name x) n at = says_use xs s r a (applied x 0 b at)
says_form xs s r a b (operator_call g) n at = says_use xs s r a (applied g n b at)
says_form xs s r a b (number k) n at = says_nothing s
says_form xs s r a b (string w) n at = says_nothing s
says_form xs s r a b (truth c) n at = says_nothing s
says_form xs s r a b booleans n at = says_nothing s
says_form xs s r a b strings n at = says_nothing s
says_form xs s r a b (next w) n at = says_nothing s
says_form xs s r a b (strict o) n at = says_nothing s
says_form xs s r a b conjunction n at = says_nothing s
says_form xs s r a b disjunction n at = says_nothing s
says_form xs s r a b implication n at = says_nothing s
says_form xs s r a b (member c) n at = says_nothing s
says_form xs s r a b if_then_else n at = says_nothing s
says_form xs s r a b (cases c) n at = says_nothing s
says_form xs s r a b (binding c gs) n at = says_nothing s
says_form xs s r a b (local ns) n at = says_nothing s

mutual
  says_tree : (t : Tree) (b : Bool) (xs : List Word) (s r : Sight) → Around xs s r → Says s (in_tree t b r) (tree_uses t b xs)
  says_tree (node m at ts) b xs s r a =
      says_both s (form_offences r b m (count ts) at) (in_parts (seen_names m) (is_member m) ts r) (form_uses xs b m (count ts) at) (parts_uses (seen_names m) (is_member m) ts xs)
      (says_form xs s r a b m (count ts) at) (says_parts (seen_names m) (is_member m) ts xs s r a)

  says_parts : (names : List (List Word)) (b : Bool) (ts : Trees) (xs : List Word) (s r : Sight) → Around xs s r → Says s (in_parts names b ts r) (parts_uses names b ts xs)
  says_parts names b no_trees xs s r a = says_nothing s
  says_parts [] b (tree t ts) xs s r a =
      says_both s (in_tree t (b && is_last ts) r) (in_parts [] b ts r) (tree_uses t (b && is_last ts) xs) (parts_uses [] b ts xs)
      (says_tree t (b && is_last ts) xs s r a) (says_parts [] b ts xs s r a)
  says_parts (ys ∷ names) b (tree t ts) xs s r a =
      says_both s (in_tree t (b && is_last ts) (seeing_plain ys r)) (in_parts names b ts r) (tree_uses t (b && is_last ts) (ys ++ xs)) (parts_uses names b ts xs)
      (says_tree t (b && is_last ts) (ys ++ xs) s (seeing_plain ys r) (around_more ys xs s r a)) (says_parts names b ts xs s r a)

says_root : (xs : List Word) (s r : Sight) → Around xs s r → (m : Form) (at : Place) → Says s (root_offences r m at) (root_uses xs m at)
says_root xs s r a (name x) at = says_use xs s r a (assigned x at)
says_root xs s r a (operator_call g) at = says_nothing s
says_root xs s r a (number k) at = says_nothing s
says_root xs s r a (string w) at = says_nothing s
says_root xs s r a (truth b) at = says_nothing s
says_root xs s r a booleans at = says_nothing s
says_root xs s r a strings at = says_nothing s
says_root xs s r a (next w) at = says_nothing s
says_root xs s r a (strict o) at = says_nothing s
says_root xs s r a conjunction at = says_nothing s
says_root xs s r a disjunction at = says_nothing s
says_root xs s r a implication at = says_nothing s
says_root xs s r a (member b) at = says_nothing s
says_root xs s r a if_then_else at = says_nothing s
says_root xs s r a (cases b) at = says_nothing s
says_root xs s r a (binding b gs) at = says_nothing s
says_root xs s r a (local ns) at = says_nothing s

mutual
  says_left : (t : Tree) (xs : List Word) (s r : Sight) → Around xs s r → Says s (in_left t r) (left_uses t xs)
  says_left (node m at ts) xs s r a =
      says_both s (root_offences r m at) (in_left_parts ts r) (root_uses xs m at) (left_parts_uses ts xs) (says_root xs s r a m at) (says_left_parts ts xs s r a)

  says_left_parts : (ts : Trees) (xs : List Word) (s r : Sight) → Around xs s r → Says s (in_left_parts ts r) (left_parts_uses ts xs)
  says_left_parts no_trees xs s r a = says_nothing s
  says_left_parts (tree t ts) xs s r a =
      says_both s (in_left t r) (in_each ts r) (left_uses t xs) (parts_uses [] false ts xs) (says_left t xs s r a) (says_parts [] false ts xs s r a)

-- ---- statements

says_assignments : (ms : Assignments) (xs : List Word) (s r : Sight) → Around xs s r → Says s (in_assignments ms r) (assignments_uses ms xs)
says_assignments no_assignments xs s r a = says_nothing s
says_assignments (assignment l e ms) xs s r a =
    says_both s (in_left l r) (in_whole e r ++ in_assignments ms r) (left_uses l xs) (both (tree_uses e false xs) (assignments_uses ms xs)) (says_left l xs s r a)
    (says_both s (in_whole e r) (in_assignments ms r) (tree_uses e false xs) (assignments_uses ms xs) (says_tree e false xs s r a) (says_assignments ms xs s r a))

says_binds : (bs : Binds) (xs : List Word) (s r : Sight) → Around xs s r → Says s (in_binds bs r) (binds_uses bs xs)
says_binds no_binds xs s r a = says_nothing s
says_binds (one_of x e bs) xs s r a =
    says_both s (in_whole e r) (in_binds bs (seeing_plain (x.word ∷ []) r)) (tree_uses e false xs) (binds_uses bs (x.word ∷ xs)) (says_tree e false xs s r a)
    (says_binds bs (x.word ∷ xs) s (seeing_plain (x.word ∷ []) r) (around_more (x.word ∷ []) xs s r a))
says_binds (is x e bs) xs s r a =
    says_both s (in_whole e r) (in_binds bs (seeing_plain (x.word ∷ []) r)) (tree_uses e false xs) (binds_uses bs (x.word ∷ xs)) (says_tree e false xs s r a)
    (says_binds bs (x.word ∷ xs) s (seeing_plain (x.word ∷ []) r) (around_more (x.word ∷ []) xs s r a))

around_binds : (bs : Binds) (xs : List Word) (s r : Sight) → Around xs s r → Around (bound_after bs xs) s (after_binds bs r)
around_binds no_binds xs s r a = a
around_binds (one_of x e bs) xs s r a = around_binds bs (x.word ∷ xs) s (seeing_plain (x.word ∷ []) r) (around_more (x.word ∷ []) xs s r a)
around_binds (is x e bs) xs s r a = around_binds bs (x.word ∷ xs) s (seeing_plain (x.word ∷ []) r) (around_more (x.word ∷ []) xs s r a)

-- what S finds in a call says what C says of it
abbrev pub CallsSay : Sight → Calls → CallUses → Type 0
CallsSay s C S = (xs : List Word) (r : Sight) → Around xs s r → (at : Place) (m : Word) (ts : Trees) → Says s (C r at m ts) (S xs at m ts)

mutual
  says_one : (C : Calls) (S : CallUses) (ps : List Procedure) (s : Sight) → CallsSay s C S
      → (at : Place) (st : Statement) (xs : List Word) (r : Sight) → Around xs s r → Says s (in_one C ps at st r) (one_uses S ps at st xs)
  says_one C S ps s c at (assign ms) xs r a = says_assignments ms xs s r a
  says_one C S ps s c at (await e) xs r a = says_tree e false xs s r a
  says_one C S ps s c at (print e) xs r a = says_tree e false xs s r a
  says_one C S ps s c at (assert e) xs r a = says_tree e false xs s r a
  says_one C S ps s c at skip xs r a = says_nothing s
  says_one C S ps s c at (branch e b d) xs r a =
      says_both s (in_whole e r) (in_body C ps b r ++ in_body C ps d r) (tree_uses e false xs) (both (body_uses S ps b xs) (body_uses S ps d xs)) (says_tree e false xs s r a)
      (says_both s (in_body C ps b r) (in_body C ps d r) (body_uses S ps b xs) (body_uses S ps d xs) (says_body C S ps s c b xs r a) (says_body C S ps s c d xs r a))
  says_one C S ps s c at (either bs) xs r a = says_branches C S ps s c bs xs r a
  says_one C S ps s c at (with bs b) xs r a =
      says_both s (in_binds bs r) (in_body C ps b (after_binds bs r)) (binds_uses bs xs) (body_uses S ps b (bound_after bs xs)) (says_binds bs xs s r a)
      (says_body C S ps s c b (bound_after bs xs) (after_binds bs r) (around_binds bs xs s r a))
  says_one C S ps s c at (while e b) xs r a =
      says_both s (in_whole e r) (in_body C ps b r) (tree_uses e false xs) (body_uses S ps b xs) (says_tree e false xs s r a) (says_body C S ps s c b xs r a)
  says_one C S ps s c at (goto l) xs r a = says_nothing s
  says_one C S ps s c at (macro m ts) xs r a =
      says_both s (C r at m ts) (in_each ts r) (S xs at m ts) (parts_uses [] false ts xs) (c xs r a at m ts) (says_parts [] false ts xs s r a)
  says_one C S ps s c at (call p ts) xs r a =
      says_both s (call_offences ps at p (count ts)) (in_each ts r) (offending (call_offences ps at p (count ts))) (parts_uses [] false ts xs)
      (says_offending s (call_offences ps at p (count ts))) (says_parts [] false ts xs s r a)
  says_one C S ps s c at return xs r a = says_nothing s

  pub says_body : (C : Calls) (S : CallUses) (ps : List Procedure) (s : Sight) → CallsSay s C S
      → (b : Statements) (xs : List Word) (r : Sight) → Around xs s r → Says s (in_body C ps b r) (body_uses S ps b xs)
  says_body C S ps s c done xs r a = says_nothing s
  says_body C S ps s c (then at st rest) xs r a =
      says_both s (in_one C ps at.first st r) (in_body C ps rest r) (one_uses S ps at.first st xs) (body_uses S ps rest xs)
      (says_one C S ps s c at.first st xs r a) (says_body C S ps s c rest xs r a)
  says_body C S ps s c (mark l k rest) xs r a = says_body C S ps s c rest xs r a

  says_branches : (C : Calls) (S : CallUses) (ps : List Procedure) (s : Sight) → CallsSay s C S
      → (bs : Branches) (xs : List Word) (r : Sight) → Around xs s r → Says s (in_branches C ps bs r) (branches_uses S ps bs xs)
  says_branches C S ps s c no_branches xs r a = says_nothing s
  says_branches C S ps s c (or b bs) xs r a =
      says_both s (in_body C ps b r) (in_branches C ps bs r) (body_uses S ps b xs) (branches_uses S ps bs xs) (says_body C S ps s c b xs r a) (says_branches C S ps s c bs xs r a)

-- ---- calls

-- a macro's parameter takes no arguments, whatever stands for it
no_arguments : (o : Option Use) (at : Place) (n : ℕ) (b : Bool) (by : Place) → applied_offences (Some (handed_use o at)) n b by ≡ applied_offences (Some variable) n b by
no_arguments None at n b by = refl
no_arguments (Some (takes k)) at n b by = refl
no_arguments (Some variable) at n b by = refl
no_arguments (Some (argument p)) at n b by = refl
no_arguments (Some (standard d e)) at n b by = refl
no_arguments (Some unread) at n b by = refl

-- where it is assigned, it offends at its argument
any_left : (o : Option Use) (at by : Place) → left_offences (Some (handed_use o at)) by ≡ left_offences (Some (handed_use o at)) at
any_left None at by = refl
any_left (Some (takes k)) at by = refl
any_left (Some variable) at by = refl
any_left (Some (argument p)) at by = refl
any_left (Some (standard d e)) at by = refl
any_left (Some unread) at by = refl

-- and so where it is handed on
handed_again : (o : Option Use) (at by : Place) → left_offences (Some (handed_use (Some (handed_use o at)) by)) by ≡ left_offences (Some (handed_use o at)) at
handed_again None at by = refl
handed_again (Some (takes k)) at by = refl
handed_again (Some variable) at by = refl
handed_again (Some (argument p)) at by = refl
handed_again (Some (standard d e)) at by = refl
handed_again (Some unread) at by = refl

says_same : (s : Sight) (rs qs : List Refusal) (u : Uses) → rs ≡ qs → Says s qs u → Says s rs u
says_same s rs qs u e h = subst (λ (z : List Refusal). Says s z u) (sym e) h

says_argument : (xs : List Word) (s r : Sight) → Around xs s r → (o : Option Word) (at : Place) (v : NameUse)
    → Says s (offences_as (Some (parameter_use o at r)) v) (argument_uses xs o at v)
says_argument xs s r a None at (applied w n b by) = says_offending s (applied_offences (Some variable) n b by)
says_argument xs s r a None at (assigned w by) = says_offending s (offence NotVariable at)
says_argument xs s r a None at (handed w by) = says_offending s (offence NotVariable at)
says_argument xs s r a (Some x) at (applied w n b by) =
    says_same s (applied_offences (Some (handed_use (use_of r x) at)) n b by) (applied_offences (Some variable) n b by) (offending (applied_offences (Some variable) n b by))
    (no_arguments (use_of r x) at n b by) (says_offending s (applied_offences (Some variable) n b by))
says_argument xs s r a (Some x) at (assigned w by) =
    says_same s (left_offences (Some (handed_use (use_of r x) at)) by) (looked r (handed x at)) (use_inside xs (handed x at))
    (any_left (use_of r x) at by) (says_use xs s r a (handed x at))
says_argument xs s r a (Some x) at (handed w by) =
    says_same s (left_offences (Some (handed_use (Some (handed_use (use_of r x) at)) by)) by) (looked r (handed x at)) (use_inside xs (handed x at))
    (handed_again (use_of r x) at by) (says_use xs s r a (handed x at))

says_called : (xs : List Word) (s r : Sight) → Around xs s r → (ps : List Name) (ts : Trees) (v : NameUse)
    → Says s (looked (seeing_parameters ps ts r r) v) (called_use xs ps ts v)
says_called xs s r a [] ts v = says_use xs s r a v
says_called xs s r a (p ∷ ps) no_trees v = by (bytes_eq p.word (used_word v)) (says_called xs s r a ps no_trees v)
  where
    by : (b : Bool) → Says s (looked (seeing_parameters ps no_trees r r) v) (called_use xs ps no_trees v)
        → Says s (offences_as (cond b (Some variable) (use_of (seeing_parameters ps no_trees r r) (used_word v))) v)
        (cond b (offending (offences_as (Some variable) v)) (called_use xs ps no_trees v))
    by true h = says_offending s (offences_as (Some variable) v)
    by false h = h
says_called xs s r a (p ∷ ps) (tree t ts) v = by (bytes_eq p.word (used_word v)) (says_called xs s r a ps ts v)
  where
    by : (b : Bool) → Says s (looked (seeing_parameters ps ts r r) v) (called_use xs ps ts v)
        → Says s (offences_as (cond b (Some (parameter_use (root t) (root_place t) r)) (use_of (seeing_parameters ps ts r r) (used_word v))) v)
        (cond b (argument_uses xs (root t) (root_place t) v) (called_use xs ps ts v))
    by true h = says_argument xs s r a (root t) (root_place t) v
    by false h = h

says_all_called : (xs : List Word) (s r : Sight) → Around xs s r → (ps : List Name) (ts : Trees) (us : List NameUse)
    → Says s (flat_map (looked (seeing_parameters ps ts r r)) us) (called_uses xs ps ts us)
says_all_called xs s r a ps ts [] = says_nothing s
says_all_called xs s r a ps ts (u ∷ us) =
    let inner = seeing_parameters ps ts r r in
    says_both s (looked inner u) (flat_map (looked inner) us) (called_use xs ps ts u) (called_uses xs ps ts us)
    (says_called xs s r a ps ts u) (says_all_called xs s r a ps ts us)

pub says_call : (us : List MacroUses) (s : Sight) → CallsSay s (offences_by_uses us) (call_uses us)
says_call [] s xs r a at m ts = says_offending s (offence Unknown at)
says_call (d ∷ older) s xs r a at m ts = by (bytes_eq d.title m) (says_call older s xs r a at m ts)
  where
    wrong : List Refusal
    wrong = offence_if (not (nat_eq (length d.params) (count ts))) Arity at

    inner : Sight
    inner = seeing_parameters d.params ts r r

    found : Uses
    found = called_uses xs d.params ts d.uses.free

    by : (b : Bool) → Says s (offences_by_uses older r at m ts) (call_uses older xs at m ts)
        → Says s (cond b (wrong ++ offences_seen d.uses inner) (offences_by_uses older r at m ts))
        (cond b (both (offending wrong) (both (offending d.uses.offences) found)) (call_uses older xs at m ts))
    by true h =
        says_both s wrong (offences_seen d.uses inner) (offending wrong) (both (offending d.uses.offences) found) (says_offending s wrong)
        (says_both s d.uses.offences (flat_map (looked inner) d.uses.free) (offending d.uses.offences) found
        (says_offending s d.uses.offences) (says_all_called xs s r a d.params ts d.uses.free))
    by false h = h
