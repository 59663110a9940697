-- Macros of which only those uses are kept that may matter have the same offences.
use Rattle.std.proofs.Common.{◌≡◌, List, [], ◌∷◌, ◌++◌, Bool, true, false, ◌||◌, ◌&&◌, cond, bytes_eq, codes, reverse, Option, Some, None, refl, sym, ◌∙◌, ap, map}
use Rattle.std.specs.Option.{option_map}
use Rattle.std.specs.List.{list_any, flat_map}
use Rattle.std.proofs.Math.Bool.{or-false}
use Rattle.std.proofs.lemmas.Bool.{or_parts}
use Rattle.std.proofs.lemmas.List.Folds.{list_any-append}
use Rattle.tla_token.specs.declared.place.Place.{Place}
use Rattle.tla_token.specs.declared.rule.Rule.TheVariants.{DefinedStale}
use Rattle.tla_token.specs.declared.rule.Refusal.{Refusal}
use Rattle.tla_token.specs.Signs.{is_among}
use Rattle.tla_tree.specs.Tree.{Word, Tree, Trees, no_trees, tree, words}
use Rattle.pcal_tree.specs.Algorithm.{Name, Statement, assign, await, print, assert, skip, branch, either, with, while, goto, macro, call, return, Statements, done, then, mark, Branches, no_branches, or, Macro, Procedure, Main, alone, processes, Algorithm}
use Rattle.pcal_tree.specs.Offences.{first}
use Rattle.pcal_tree.specs.OffencesStale.{stands_for, stale_at, Looking, stale_in, stale_in_procedure, stale_in_process, stale_in_main, stale_offences_by}
use Rattle.pcal_tree.specs.Paths.{rounds}
use Rattle.pcal_tree.specs.Reads.{used, Reading, through, readings_of}
use Rattle.pcal_tree.specs.Variables.{declared}
use Rattle.pcal_tree.specs.laws.MacroSummaries.{union, argument}
use Rattle.pcal_tree.specs.laws.MacroSpots.{Use, value, left, other, name_used, uses, uses_of_all, uses_of_assignments, uses_of_binds, Origin, assigned, Trail, At, unlabelled, at_label, inside, Seen, on_trail, Called, CallSeen, joined, one_end, end_of, end_of_some, one_seen, seen_in, seen_in_some, seen_in_body, Put, put_origin, put_use, put_seen, put_at, put_called, same_origin, once, MacroSeen, before_on, seen_from, seen_in_call, macros_seen, starting, earlier, spot_of, word_of, spots_by_macros}
use Rattle.pcal_tree.specs.laws.MacroSpots as spots
use Rattle.pcal_tree.proofs.FirstLaws.{same_first}
use Rattle.pcal_tree.proofs.SetLaws.{Same, same_both, any_flat, any_same, any_none}
use Rattle.pcal_tree.proofs.SpotCalls.{met, passes}
use Rattle.pcal_tree.proofs.SpotGrafts.{putting}
use Rattle.read_rules.specs.MacrosIn.{macro_seen}
use Rattle.read_rules.specs.Pruned.{only, pruned, macro_pruned, macros_pruned}
use Rattle.read_rules.specs.RefusalsIn.{looking}
use Rattle.read_rules.proofs.OnceLaws.{once_seen}
use Rattle.read_rules.proofs.StaleLaws.{one_test, stale_test, all_seen}
use Rattle.read_rules.proofs.WalkLaws.{put_test, put_passes}

-- ---- tests of uses that may matter

abbrev pub Fits : (Word → Bool) → (Origin → Use → Bool) → Type 0
Fits T K = (o : Origin) (u : Use) → T (name_used u).word ≡ false → K o u ≡ false

-- what no such test tells apart
abbrev pub AlikeFor : (Word → Bool) → List Seen → List Seen → Type 0
AlikeFor T ss rs = (K : Origin → Use → Bool) → Fits T K → list_any (passes K) ss ≡ list_any (passes K) rs

alike_append : (T : Word → Bool) (xs ys us vs : List Seen) → AlikeFor T xs us → AlikeFor T ys vs → AlikeFor T (xs ++ ys) (us ++ vs)
alike_append T xs ys us vs e f K h = list_any-append (passes K) xs ys ∙ (λ i. e K h i || f K h i) ∙ sym (list_any-append (passes K) us vs)

unmet : (T : Word → Bool) (K : Origin → Use → Bool) → Fits T K → (q : Trail) (u : Use) → T (name_used u).word ≡ false → met K q u ≡ false
unmet T K h None u e = refl
unmet T K h (Some os) u e = any_none (λ o. K o u) (λ o. h o u e) os

only_alike : (T : Word → Bool) (ss : List Seen) → AlikeFor T (only T ss) ss
only_alike T [] K h = refl
only_alike T (s ∷ ss) K h = by (T (name_used s.use_of).word) refl (only_alike T ss K h)
  where
    by : (b : Bool) → T (name_used s.use_of).word ≡ b → list_any (passes K) (only T ss) ≡ list_any (passes K) ss
        → list_any (passes K) (cond b (s ∷ only T ss) (only T ss)) ≡ (passes K s || list_any (passes K) ss)
    by true e rest = ap (λ (c : Bool). passes K s || c) rest
    by false e rest = rest ∙ (λ i. sym (unmet T K h s.trail s.use_of e) i || list_any (passes K) ss)

-- ---- statements, by calls that are alike

pub record CallsAlike (T : Word → Bool) (S R : CallSeen) : Type 0 where
  pub end : (m : Word) (ts : Trees) (s : At) → (S m ts s).end ≡ (R m ts s).end
  pub seen : (m : Word) (ts : Trees) (s : At) → AlikeFor T (S m ts s).seen (R m ts s).seen

mutual
  one_ends : (T : Word → Bool) (S R : CallSeen) → CallsAlike T S R → (st : Statement) (s : At) → one_end S st s ≡ one_end R st s
  one_ends T S R c (assign ms) s = refl
  one_ends T S R c (await e) s = refl
  one_ends T S R c (print e) s = refl
  one_ends T S R c (assert e) s = refl
  one_ends T S R c skip s = refl
  one_ends T S R c (branch e a b) s = λ i. unlabelled (joined (ends T S R c a (inside s) i).trail (ends T S R c b (inside s) i).trail)
  one_ends T S R c (either bs) s = λ i. unlabelled (some_ends T S R c bs s i)
  one_ends T S R c (with bs b) s = λ i. unlabelled (ends T S R c b (inside s) i).trail
  one_ends T S R c (while e b) s = λ i. unlabelled (cond s.labelled s.trail (rounds joined (λ q. (ends T S R c b (unlabelled q) i).trail) s.trail))
  one_ends T S R c (goto n) s = refl
  one_ends T S R c (macro m ts) s = c.end m ts s
  one_ends T S R c (call q ts) s = refl
  one_ends T S R c return s = refl

  ends : (T : Word → Bool) (S R : CallSeen) → CallsAlike T S R → (b : Statements) (s : At) → end_of S b s ≡ end_of R b s
  ends T S R c done s = refl
  ends T S R c (then at st rest) s = ends T S R c rest (one_end S st s) ∙ ap (end_of R rest) (one_ends T S R c st s)
  ends T S R c (mark n k rest) s = ends T S R c rest at_label

  some_ends : (T : Word → Bool) (S R : CallSeen) → CallsAlike T S R → (bs : Branches) (s : At) → end_of_some S bs s ≡ end_of_some R bs s
  some_ends T S R c no_branches s = refl
  some_ends T S R c (or b bs) s = λ i. joined (ends T S R c b (inside s) i).trail (some_ends T S R c bs s i)

mutual
  one_alike : (T : Word → Bool) (S R : CallSeen) → CallsAlike T S R → (ps : List Procedure) (at : Place) (st : Statement) (s : At)
      → AlikeFor T (one_seen S ps at st s) (one_seen R ps at st s)
  one_alike T S R c ps at (assign ms) s = λ K h. refl
  one_alike T S R c ps at (await e) s = λ K h. refl
  one_alike T S R c ps at (print e) s = λ K h. refl
  one_alike T S R c ps at (assert e) s = λ K h. refl
  one_alike T S R c ps at skip s = λ K h. refl
  one_alike T S R c ps at (branch e a b) s =
      let here = on_trail s.trail (uses e) in
      alike_append T here (seen_in S ps a (inside s) ++ seen_in S ps b (inside s)) here (seen_in R ps a (inside s) ++ seen_in R ps b (inside s)) (λ K h. refl)
      (alike_append T (seen_in S ps a (inside s)) (seen_in S ps b (inside s)) (seen_in R ps a (inside s)) (seen_in R ps b (inside s))
      (alike T S R c ps a (inside s)) (alike T S R c ps b (inside s)))
  one_alike T S R c ps at (either bs) s = some_alike T S R c ps bs s
  one_alike T S R c ps at (with bs b) s =
      let here = on_trail s.trail (uses_of_binds bs) in
      alike_append T here (seen_in S ps b (inside s)) here (seen_in R ps b (inside s)) (λ K h. refl) (alike T S R c ps b (inside s))
  one_alike T S R c ps at (while e b) s =
      let r = one_end R (while e b) s in λ K h.
      ap (λ (z : At). list_any (passes K) (on_trail z.trail (uses e) ++ seen_in S ps b (inside z))) (one_ends T S R c (while e b) s)
      ∙ alike_append T (on_trail r.trail (uses e)) (seen_in S ps b (inside r)) (on_trail r.trail (uses e)) (seen_in R ps b (inside r)) (λ K h. refl) (alike T S R c ps b (inside r)) K h
  one_alike T S R c ps at (goto n) s = λ K h. refl
  one_alike T S R c ps at (macro m ts) s = c.seen m ts s
  one_alike T S R c ps at (call q ts) s = λ K h. refl
  one_alike T S R c ps at return s = λ K h. refl

  alike : (T : Word → Bool) (S R : CallSeen) → CallsAlike T S R → (ps : List Procedure) (b : Statements) (s : At) → AlikeFor T (seen_in S ps b s) (seen_in R ps b s)
  alike T S R c ps done s = λ K h. refl
  alike T S R c ps (then at st rest) s =
      alike_append T (one_seen S ps at.first st s) (seen_in S ps rest (one_end S st s)) (one_seen R ps at.first st s) (seen_in R ps rest (one_end R st s))
      (one_alike T S R c ps at.first st s)
      (λ K h. ap (λ (z : At). list_any (passes K) (seen_in S ps rest z)) (one_ends T S R c st s) ∙ alike T S R c ps rest (one_end R st s) K h)
  alike T S R c ps (mark n k rest) s = alike T S R c ps rest at_label

  some_alike : (T : Word → Bool) (S R : CallSeen) → CallsAlike T S R → (ps : List Procedure) (bs : Branches) (s : At) → AlikeFor T (seen_in_some S ps bs s) (seen_in_some R ps bs s)
  some_alike T S R c ps no_branches s = λ K h. refl
  some_alike T S R c ps (or b bs) s =
      alike_append T (seen_in S ps b (inside s)) (seen_in_some S ps bs s) (seen_in R ps b (inside s)) (seen_in_some R ps bs s)
      (alike T S R c ps b (inside s)) (some_alike T S R c ps bs s)

-- ---- arguments put in

-- no argument stands for a name that doesn't pass
abbrev pub Covers : (Word → Bool) → List Name → Type 0
Covers T ps = (x : Word) → T x ≡ false → is_among (words ps) x ≡ false

no_argument : (ps : List Name) (ts : Trees) (x : Word) → is_among (words ps) x ≡ false → argument ps ts x ≡ None
no_argument [] ts x e = refl
no_argument (p ∷ ps) no_trees x e = refl
no_argument (p ∷ ps) (tree t ts) x e = by (bytes_eq p.word x) e (no_argument ps ts x)
  where
    by : (b : Bool) → (b || is_among (words ps) x) ≡ false → (is_among (words ps) x ≡ false → argument ps ts x ≡ None) → cond b (Some t) (argument ps ts x) ≡ None
    by true h rest = cc
    by false h rest = rest h

itself : (P : Put) (u : Use) → P.arguments (name_used u).word ≡ None → put_use P u ≡ u ∷ []
itself P (value n) e = ap (λ (o : Option Tree). spots.value_uses o n) e
itself P (left n) e = ap (λ (o : Option Tree). spots.left_value_uses o n) e
itself P (other n) e = refl

put_fits : (T : Word → Bool) (ps : List Name) (ts : Trees) (os : List Origin) → Covers T ps → (K : Origin → Use → Bool) → Fits T K → Fits T (put_test (putting ps ts os) K)
put_fits T ps ts os c K h o u e =
    let P = putting ps ts os in
    ap (list_any (λ v. list_any (λ r. K r v) (put_origin P o))) (itself P u (no_argument ps ts (name_used u).word (c (name_used u).word e)))
    ∙ or-false (list_any (λ r. K r u) (put_origin P o)) ∙ any_none (λ r. K r u) (λ r. h r u e) (put_origin P o)

abbrev pub CalledAlike : (Word → Bool) → Called → Called → Type 0
CalledAlike T c e = (c.end ≡ e.end) × AlikeFor T c.seen e.seen

put_any : (P : Put) (K : Origin → Use → Bool) (ss : List Seen) → list_any (passes K) (flat_map (put_seen P) ss) ≡ list_any (passes (put_test P K)) ss
put_any P K ss =
    any_flat (passes K) (put_seen P) ss
    ∙ any_same (λ s. list_any (passes K) (put_seen P s)) (passes (put_test P K)) (λ s. put_passes P K s.trail s.use_of) ss

put_alike : (T : Word → Bool) (ps : List Name) (ts : Trees) (os : List Origin) → Covers T ps → (c e : Called) → CalledAlike T c e → CalledAlike T (put_called (putting ps ts os) c) (put_called (putting ps ts os) e)
put_alike T ps ts os covers c e a =
    let P = putting ps ts os in (
      ap (put_at P) a.0,
      λ K h. put_any P K c.seen ∙ a.1 (put_test P K) (put_fits T ps ts os covers K h) ∙ sym (put_any P K e.seen),
    )

-- ---- macros

abbrev once_end : (e : At) → At
once_end e = record { labelled = e.labelled; trail = option_map (λ os. union same_origin os []) e.trail }

body_alike : (T : Word → Bool) (S R : CallSeen) → CallsAlike T S R → (ps : List Procedure) (b : Statements) (s : At)
    → CalledAlike T (pruned T (once (seen_in_body S ps b s))) (once (seen_in_body R ps b s))
body_alike T S R c ps b s =
    let p = seen_in_body S ps b s in
    let q = seen_in_body R ps b s in (
      ap once_end (ends T S R c b s),
      λ K h. only_alike T (once p).seen K h ∙ sym (once_seen p K) ∙ alike T S R c ps b s K h ∙ once_seen q K,
    )

from_alike : (T : Word → Bool) (p r : MacroSeen) → CalledAlike T p.reached r.reached → CalledAlike T p.reached_at_label r.reached_at_label → CalledAlike T p.unreached r.unreached → CalledAlike T p.unreached_at_label r.unreached_at_label
    → (l : Bool) (q : Trail) → CalledAlike T (seen_from p l q) (seen_from r l q)
from_alike T p r f g h k true (Some os) = g
from_alike T p r f g h k false (Some os) = f
from_alike T p r f g h k true None = k
from_alike T p r f g h k false None = h

macro_alike : (T : Word → Bool) (ps : List Procedure) (before older : List MacroSeen) → CallsAlike T (seen_in_call before) (seen_in_call older) → (d : Macro) → Covers T d.params
    → (ts : Trees) (s : At) → let p = macro_pruned T (macro_seen ps before d) in let r = macro_seen ps older d in
    CalledAlike T (put_called (putting d.params ts (before_on s.trail)) (seen_from p s.labelled s.trail)) (put_called (putting d.params ts (before_on s.trail)) (seen_from r s.labelled s.trail))
macro_alike T ps before older c d covers ts s =
    let S = seen_in_call before in
    let R = seen_in_call older in
    let p = macro_pruned T (macro_seen ps before d) in
    let r = macro_seen ps older d in
    put_alike T d.params ts (before_on s.trail) covers (seen_from p s.labelled s.trail) (seen_from r s.labelled s.trail)
    (from_alike T p r (body_alike T S R c ps d.body (starting false (Some (earlier ∷ [])))) (body_alike T S R c ps d.body (starting true (Some (earlier ∷ []))))
    (body_alike T S R c ps d.body (starting false None)) (body_alike T S R c ps d.body (starting true None)) s.labelled s.trail)

-- a name that doesn't pass is no parameter
abbrev pub NoParameter : (Word → Bool) → List Macro → Type 0
NoParameter T ds = (x : Word) → T x ≡ false → list_any (λ d. is_among (words d.params) x) ds ≡ false

call_more : (T : Word → Bool) (ps : List Procedure) (before older : List MacroSeen) → CallsAlike T (seen_in_call before) (seen_in_call older) → (d : Macro) → Covers T d.params
    → CallsAlike T (seen_in_call (macro_pruned T (macro_seen ps before d) ∷ before)) (seen_in_call (macro_seen ps older d ∷ older))
call_more T ps before older c d covers = record {
  end = λ m ts s. (by (bytes_eq d.name.word m) m ts s).0;
  seen = λ m ts s. (by (bytes_eq d.name.word m) m ts s).1;
}
  where
    by : (b : Bool) (m : Word) (ts : Trees) (s : At)
        → CalledAlike T (cond b (put_called (putting d.params ts (before_on s.trail)) (seen_from (macro_pruned T (macro_seen ps before d)) s.labelled s.trail)) (seen_in_call before m ts s))
        (cond b (put_called (putting d.params ts (before_on s.trail)) (seen_from (macro_seen ps older d) s.labelled s.trail)) (seen_in_call older m ts s))
    by true m ts s = macro_alike T ps before older c d covers ts s
    by false m ts s = (c.end m ts s, c.seen m ts s)

pub calls_alike : (T : Word → Bool) (ps : List Procedure) (ds : List Macro) → NoParameter T ds → CallsAlike T (seen_in_call (macros_pruned T ps ds)) (seen_in_call (macros_seen ps ds))
calls_alike T ps [] n = record { end = λ m ts s. refl; seen = λ m ts s. λ K h. refl }
calls_alike T ps (d ∷ older) n =
    let parts : (x : Word) → T x ≡ false → (is_among (words d.params) x ≡ false) × (list_any (λ d. is_among (words d.params) x) older ≡ false) = λ x e. or_parts (is_among (words d.params) x) (list_any (λ d. is_among (words d.params) x) older) (n x e) in
    call_more T ps (macros_pruned T ps older) (macros_seen ps older) (calls_alike T ps older (λ x e. (parts x e).1)) d (λ x e. (parts x e).0)

-- ---- offences

-- a name that doesn't pass is not `self`, and no definition of it reads a variable
abbrev pub Harmless : (Word → Bool) → List Reading → Type 0
Harmless T ds = (x : Word) → T x ≡ false → (bytes_eq (codes "self") x ≡ false) × ((f : Word → Bool) → list_any f (through ds x) ≡ false)

stale_fits : (T : Word → Bool) (ds : List Reading) (ns : List Name) (f : Refusal → Bool) → Harmless T ds → Fits T (stale_test ds ns f)
stale_fits T ds ns f h o u e =
    let n = name_used u in
    let k = h n.word e in
    any_none (λ x. list_any (λ m. one_test ds f m x) (stands_for ns n))
    (λ x. (λ i. list_any (λ m. one_test ds f m x) (n ∷ cond (k.0 i) ns [])) ∙ or-false (one_test ds f n x) ∙ (λ i. k.1 (λ v. bytes_eq v x) i && f (record { rule = DefinedStale; place = n.place }))) (word_of o)

pub offences_alike : (T : Word → Bool) (ds : List Reading) (ns : List Name) → Harmless T ds → (ss rs : List Seen) → AlikeFor T ss rs
    → Same (flat_map (stale_at ds ns) (map spot_of ss)) (flat_map (stale_at ds ns) (map spot_of rs))
offences_alike T ds ns h ss rs l f = all_seen ds ns f ss ∙ l (stale_test ds ns f) (stale_fits T ds ns f h) ∙ sym (all_seen ds ns f rs)

-- by what is kept of macros
body_offences : (T : Word → Bool) (a : Algorithm) → NoParameter T (reverse a.macros) → Harmless T (readings_of a) → (ns : List Name) (xs : List Word) (b : Statements)
    → Same (stale_in (looking (macros_pruned T a.procedures (reverse a.macros)) a.procedures) (readings_of a) ns xs b) (stale_in (spots_by_macros a) (readings_of a) ns xs b)
body_offences T a n h ns xs b =
    let ps = a.procedures in
    let ds = reverse a.macros in
    let S = seen_in_call (macros_pruned T ps ds) in
    let R = seen_in_call (macros_seen ps ds) in
    let start = starting false (Some []) in
    offences_alike T (readings_of a) ns h (seen_in S ps b start) (seen_in R ps b start) (alike T S R (calls_alike T ps ds n) ps b start)

each_alike : {X : Type 0} (g h : X → List Refusal) → ((x : X) → Same (g x) (h x)) → (xs : List X) → Same (flat_map g xs) (flat_map h xs)
each_alike g h s [] = λ f. refl
each_alike g h s (x ∷ xs) = same_both (g x) (h x) (flat_map g xs) (flat_map h xs) (s x) (each_alike g h s xs)

main_alike : (L M : Looking) (ds : List Reading) → ((ns : List Name) (xs : List Word) (b : Statements) → Same (stale_in L ds ns xs b) (stale_in M ds ns xs b)) → (m : Main) → Same (stale_in_main L ds m) (stale_in_main M ds m)
main_alike L M ds s (alone b) = s [] [] b
main_alike L M ds s (processes ps) =
    each_alike (stale_in_process L ds) (stale_in_process M ds) (λ p. s (cond p.several [] (used p.identity [])) (declared p.variables) p.body) ps

pub pruned_first : (T : Word → Bool) (a : Algorithm) → NoParameter T (reverse a.macros) → Harmless T (readings_of a)
    → first (stale_offences_by (looking (macros_pruned T a.procedures (reverse a.macros)) a.procedures) a) ≡ first (stale_offences_by (spots_by_macros a) a)
pruned_first T a n h =
    let L = looking (macros_pruned T a.procedures (reverse a.macros)) a.procedures in
    let M = spots_by_macros a in
    let ds = readings_of a in
    let s = body_offences T a n h in
    same_first (stale_offences_by L a) (stale_offences_by M a)
    (same_both (flat_map (stale_in_procedure L ds) a.procedures) (flat_map (stale_in_procedure M ds) a.procedures) (stale_in_main L ds a.main) (stale_in_main M ds a.main)
    (each_alike (stale_in_procedure L ds) (stale_in_procedure M ds) (λ p. s [] (declared (p.params ++ p.variables)) p.body) a.procedures)
    (main_alike L M ds s a.main))
