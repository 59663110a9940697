-- What is seen in statements with their macro calls written out is what is seen in them by what was computed once for each macro.
use Rattle.std.proofs.Common.{◌≡◌, List, [], ◌∷◌, ◌++◌, Bool, true, false, ◌||◌, cond, Some, None, refl, sym, ◌∙◌, ap, map, subst}
use Rattle.std.specs.List.{list_any}
use Rattle.std.proofs.lemmas.List.{append-nil, append_assoc}
use Rattle.std.proofs.lemmas.List.Folds.{list_any-append}
use Rattle.tla_tree.specs.Tree.{Word, Trees}
use Rattle.pcal_tree.specs.Algorithm.{Span, Assignments, Statement, assign, await, print, assert, skip, branch, either, with, while, goto, macro, call, return, Statements, done, then, mark, Branches, no_branches, or, Procedure}
use Rattle.pcal_tree.specs.Expand as expand
use Rattle.pcal_tree.specs.OffencesStale.{jumps_use}
use Rattle.pcal_tree.specs.laws.MacroSpots.{Use, other, uses, uses_of_all, uses_of_assignments, uses_of_binds, Origin, assigned, Trail, At, at_label, inside, Seen, on_trail, CallSeen, joined, assigning, one_end, end_of, end_of_some, one_seen, seen_in, seen_in_some, unlabelled}
use Rattle.pcal_tree.specs.Paths.{roots, again, rounds}
use Rattle.pcal_tree.proofs.SetLaws.{Same, same_both}
use Rattle.pcal_tree.proofs.SpotGrafts.{no_calls}

-- ---- what no test tells apart

abbrev pub LikeTrail : Trail → Trail → Type 0
LikeTrail None None = Unit {0}
LikeTrail (Some xs) (Some ys) = Same xs ys
LikeTrail _ _ = ⊥

abbrev pub Like : At → At → Type 0
Like s t = (s.labelled ≡ t.labelled) × LikeTrail s.trail t.trail

-- K tells of what was assigned and of a use after it
abbrev pub met : (Origin → Use → Bool) → Trail → Use → Bool
met K None u = false
met K (Some os) u = list_any (λ o. K o u) os

abbrev pub passes : (Origin → Use → Bool) → Seen → Bool
passes K s = met K s.trail s.use_of

abbrev pub SeenLike : List Seen → List Seen → Type 0
SeenLike ss rs = (K : Origin → Use → Bool) → list_any (passes K) ss ≡ list_any (passes K) rs

pub like_then : (q r o : Trail) → LikeTrail q r → LikeTrail r o → LikeTrail q o
like_then None None None l k = tt
like_then (Some xs) (Some ys) (Some zs) l k = λ f. l f ∙ k f
like_then None None (Some zs) l k = k
like_then None (Some ys) o l k = absurd l
like_then (Some xs) None o l k = absurd l
like_then (Some xs) (Some ys) None l k = k

like_joined : (q r o p : Trail) → LikeTrail q r → LikeTrail o p → LikeTrail (joined q o) (joined r p)
like_joined None None o p l k = k
like_joined (Some xs) (Some ys) None None l k = l
like_joined (Some xs) (Some ys) (Some us) (Some vs) l k = same_both xs ys us vs l k
like_joined (Some xs) (Some ys) None (Some vs) l k = absurd k
like_joined (Some xs) (Some ys) (Some us) None l k = absurd k
like_joined None (Some ys) o p l k = absurd l
like_joined (Some xs) None o p l k = absurd l

like_again : (f g : Trail → Trail) → ((q r : Trail) → LikeTrail q r → LikeTrail (f q) (g r)) → (q r : Trail) → LikeTrail q r → LikeTrail (again f q) (again g r)
like_again f g h None None l = l
like_again f g h (Some xs) (Some ys) l = h (Some xs) (Some ys) l
like_again f g h None (Some ys) l = absurd l
like_again f g h (Some xs) None l = absurd l

like_rounds : (f g : Trail → Trail) → ((q r : Trail) → LikeTrail q r → LikeTrail (f q) (g r)) → (q r : Trail) → LikeTrail q r → LikeTrail (rounds joined f q) (rounds joined g r)
like_rounds f g h None None l = like_again f g h (f None) (g None) (h None None l)
like_rounds f g h (Some xs) (Some ys) l = like_joined (f (Some xs)) (g (Some ys)) (Some xs) (Some ys) (h (Some xs) (Some ys) l) l
like_rounds f g h None (Some ys) l = absurd l
like_rounds f g h (Some xs) None l = absurd l

like_cond : (b c : Bool) → b ≡ c → (q r o p : Trail) → LikeTrail q r → LikeTrail o p → LikeTrail (cond b q o) (cond c r p)
like_cond true true e q r o p l k = l
like_cond false false e q r o p l k = k
like_cond true false e q r o p l k = cc
like_cond false true e q r o p l k = cc

like_assigning : (ms : Assignments) (q r : Trail) → LikeTrail q r → LikeTrail (assigning ms q) (assigning ms r)
like_assigning ms None None l = tt
like_assigning ms (Some xs) (Some ys) l = same_both (map assigned (roots ms)) (map assigned (roots ms)) xs ys (λ f. refl) l
like_assigning ms None (Some ys) l = absurd l
like_assigning ms (Some xs) None l = absurd l

met_like : (K : Origin → Use → Bool) (q r : Trail) → LikeTrail q r → (u : Use) → met K q u ≡ met K r u
met_like K None None l u = refl
met_like K (Some xs) (Some ys) l u = l (λ o. K o u)
met_like K None (Some ys) l u = absurd l
met_like K (Some xs) None l u = absurd l

on_like : (q r : Trail) → LikeTrail q r → (us : List Use) → SeenLike (on_trail q us) (on_trail r us)
on_like q r l [] K = refl
on_like q r l (u ∷ us) K = λ i. met_like K q r l u i || on_like q r l us K i

seen_append : (xs ys us vs : List Seen) → SeenLike xs us → SeenLike ys vs → SeenLike (xs ++ ys) (us ++ vs)
seen_append xs ys us vs e f K = list_any-append (passes K) xs ys ∙ (λ i. e K i || f K i) ∙ sym (list_any-append (passes K) us vs)

and_nothing : (xs ys : List Seen) → SeenLike xs ys → SeenLike (xs ++ []) ys
and_nothing xs ys e K = ap (list_any (passes K)) (append-nil xs) ∙ e K

-- ---- one list after another

end_joined : (a b : Statements) (s : At) → end_of no_calls (expand.followed_by a b) s ≡ end_of no_calls b (end_of no_calls a s)
end_joined done b s = refl
end_joined (then at st a) b s = end_joined a b (one_end no_calls st s)
end_joined (mark l k a) b s = end_joined a b at_label

seen_joined : (ps : List Procedure) (a b : Statements) (s : At) → seen_in no_calls ps (expand.followed_by a b) s ≡ seen_in no_calls ps a s ++ seen_in no_calls ps b (end_of no_calls a s)
seen_joined ps done b s = refl
seen_joined ps (then at st a) b s =
    let here = one_seen no_calls ps at.first st s in
    ap (λ (ss : List Seen). here ++ ss) (seen_joined ps a b (one_end no_calls st s))
    ∙ sym (append_assoc here (seen_in no_calls ps a (one_end no_calls st s)) (seen_in no_calls ps b (end_of no_calls a (one_end no_calls st s))))
seen_joined ps (mark l k a) b s = seen_joined ps a b at_label

end_split : (W : expand.Writing) (at : Span) (st : Statement) (r : Statements) (s : At)
    → end_of no_calls (expand.expand_one W at st r) s ≡ end_of no_calls r (end_of no_calls (expand.expand_one W at st done) s)
end_split W at (macro m ts) r s = end_joined (W at m ts) r s ∙ ap (end_of no_calls r) (sym (end_joined (W at m ts) done s))
end_split W at st r s = refl

-- ---- statements

-- what S says of calls is what is seen in what W writes for them
pub record CallsLike (W : expand.Writing) (S : CallSeen) (ps : List Procedure) : Type 0 where
  pub end : (at : Span) (m : Word) (ts : Trees) (s t : At) → Like s t → Like (end_of no_calls (W at m ts) s) (S m ts t).end
  pub seen : (at : Span) (m : Word) (ts : Trees) (s t : At) → Like s t → SeenLike (seen_in no_calls ps (W at m ts) s) (S m ts t).seen

mutual
  one_end_like : (W : expand.Writing) (S : CallSeen) (ps : List Procedure) → CallsLike W S ps → (at : Span) (st : Statement) (s t : At) → Like s t
      → Like (end_of no_calls (expand.expand_one W at st done) s) (one_end S st t)
  one_end_like W S ps c at (assign ms) s t l = (refl, like_assigning ms s.trail t.trail l.1)
  one_end_like W S ps c at (await e) s t l = (refl, l.1)
  one_end_like W S ps c at (print e) s t l = (refl, l.1)
  one_end_like W S ps c at (assert e) s t l = (refl, l.1)
  one_end_like W S ps c at skip s t l = (refl, l.1)
  one_end_like W S ps c at (branch e a b) s t l = (
    refl,
    like_joined (end_of no_calls (expand.expand W a) (inside s)).trail (end_of S a (inside t)).trail
        (end_of no_calls (expand.expand W b) (inside s)).trail (end_of S b (inside t)).trail
        (end_like W S ps c a (inside s) (inside t) (refl, l.1)).1 (end_like W S ps c b (inside s) (inside t) (refl, l.1)).1,
  )
  one_end_like W S ps c at (either bs) s t l = (refl, end_some_like W S ps c bs s t l)
  one_end_like W S ps c at (with bs b) s t l = (refl, (end_like W S ps c b (inside s) (inside t) (refl, l.1)).1)
  one_end_like W S ps c at (while e b) s t l = (
    refl,
    like_cond s.labelled t.labelled l.0 s.trail t.trail
        (rounds joined (λ q. (end_of no_calls (expand.expand W b) (unlabelled q)).trail) s.trail) (rounds joined (λ q. (end_of S b (unlabelled q)).trail) t.trail) l.1
        (like_rounds (λ q. (end_of no_calls (expand.expand W b) (unlabelled q)).trail) (λ q. (end_of S b (unlabelled q)).trail)
        (λ q r k. (end_like W S ps c b (unlabelled q) (unlabelled r) (refl, k)).1) s.trail t.trail l.1),
  )
  one_end_like W S ps c at (goto n) s t l = (refl, tt)
  one_end_like W S ps c at (macro m ts) s t l = subst (λ z. Like z (S m ts t).end) (sym (end_joined (W at m ts) done s)) (c.end at m ts s t l)
  one_end_like W S ps c at (call q ts) s t l = (refl, tt)
  one_end_like W S ps c at return s t l = (refl, tt)

  pub end_like : (W : expand.Writing) (S : CallSeen) (ps : List Procedure) → CallsLike W S ps → (b : Statements) (s t : At) → Like s t
      → Like (end_of no_calls (expand.expand W b) s) (end_of S b t)
  end_like W S ps c done s t l = l
  end_like W S ps c (then at st rest) s t l =
      subst (λ z. Like z (end_of S rest (one_end S st t))) (sym (end_split W at st (expand.expand W rest) s))
      (end_like W S ps c rest (end_of no_calls (expand.expand_one W at st done) s) (one_end S st t) (one_end_like W S ps c at st s t l))
  end_like W S ps c (mark n k rest) s t l = end_like W S ps c rest at_label at_label (refl, λ f. refl)

  end_some_like : (W : expand.Writing) (S : CallSeen) (ps : List Procedure) → CallsLike W S ps → (bs : Branches) (s t : At) → Like s t
      → LikeTrail (end_of_some no_calls (expand.expand_some W bs) s) (end_of_some S bs t)
  end_some_like W S ps c no_branches s t l = tt
  end_some_like W S ps c (or b bs) s t l =
      like_joined (end_of no_calls (expand.expand W b) (inside s)).trail (end_of S b (inside t)).trail
      (end_of_some no_calls (expand.expand_some W bs) s) (end_of_some S bs t)
      (end_like W S ps c b (inside s) (inside t) (refl, l.1)).1 (end_some_like W S ps c bs s t l)

-- a statement and then a list
split_at : (here more : List Seen) → (here ++ more) ≡ ((here ++ []) ++ more)
split_at here more = ap (λ (ss : List Seen). ss ++ more) (sym (append-nil here))

seen_split : (W : expand.Writing) (ps : List Procedure) (at : Span) (st : Statement) (r : Statements) (s : At)
    → seen_in no_calls ps (expand.expand_one W at st r) s ≡ seen_in no_calls ps (expand.expand_one W at st done) s ++ seen_in no_calls ps r (end_of no_calls (expand.expand_one W at st done) s)
seen_split W ps at (macro m ts) r s =
    let X = W at m ts in
    seen_joined ps X r s
    ∙ (λ i. sym (seen_joined ps X done s ∙ append-nil (seen_in no_calls ps X s)) i ++ seen_in no_calls ps r (sym (end_joined X done s) i))
seen_split W ps at (assign ms) r s = split_at (one_seen no_calls ps at.first (assign ms) s) (seen_in no_calls ps r (one_end no_calls (assign ms) s))
seen_split W ps at (await e) r s = split_at (one_seen no_calls ps at.first (await e) s) (seen_in no_calls ps r (one_end no_calls (await e) s))
seen_split W ps at (print e) r s = split_at (one_seen no_calls ps at.first (print e) s) (seen_in no_calls ps r (one_end no_calls (print e) s))
seen_split W ps at (assert e) r s = split_at (one_seen no_calls ps at.first (assert e) s) (seen_in no_calls ps r (one_end no_calls (assert e) s))
seen_split W ps at skip r s = refl
seen_split W ps at (branch e a b) r s =
    let st = branch e (expand.expand W a) (expand.expand W b) in
    split_at (one_seen no_calls ps at.first st s) (seen_in no_calls ps r (one_end no_calls st s))
seen_split W ps at (either bs) r s =
    let st = either (expand.expand_some W bs) in
    split_at (one_seen no_calls ps at.first st s) (seen_in no_calls ps r (one_end no_calls st s))
seen_split W ps at (with bs b) r s =
    let st = with bs (expand.expand W b) in
    split_at (one_seen no_calls ps at.first st s) (seen_in no_calls ps r (one_end no_calls st s))
seen_split W ps at (while e b) r s =
    let st = while e (expand.expand W b) in
    split_at (one_seen no_calls ps at.first st s) (seen_in no_calls ps r (one_end no_calls st s))
seen_split W ps at (goto n) r s = split_at (one_seen no_calls ps at.first (goto n) s) (seen_in no_calls ps r (one_end no_calls (goto n) s))
seen_split W ps at (call q ts) r s = split_at (one_seen no_calls ps at.first (call q ts) s) (seen_in no_calls ps r (one_end no_calls (call q ts) s))
seen_split W ps at return r s = refl

mutual
  one_seen_like : (W : expand.Writing) (S : CallSeen) (ps : List Procedure) → CallsLike W S ps → (at : Span) (st : Statement) (s t : At) → Like s t
      → SeenLike (seen_in no_calls ps (expand.expand_one W at st done) s) (one_seen S ps at.first st t)
  one_seen_like W S ps c at (assign ms) s t l =
      let us = uses_of_assignments ms in and_nothing (on_trail s.trail us) (on_trail t.trail us) (on_like s.trail t.trail l.1 us)
  one_seen_like W S ps c at (await e) s t l = and_nothing (on_trail s.trail (uses e)) (on_trail t.trail (uses e)) (on_like s.trail t.trail l.1 (uses e))
  one_seen_like W S ps c at (print e) s t l = and_nothing (on_trail s.trail (uses e)) (on_trail t.trail (uses e)) (on_like s.trail t.trail l.1 (uses e))
  one_seen_like W S ps c at (assert e) s t l = and_nothing (on_trail s.trail (uses e)) (on_trail t.trail (uses e)) (on_like s.trail t.trail l.1 (uses e))
  one_seen_like W S ps c at skip s t l = λ K. refl
  one_seen_like W S ps c at (branch e a b) s t l =
      let A = seen_in no_calls ps (expand.expand W a) (inside s) in
      let B = seen_in no_calls ps (expand.expand W b) (inside s) in
      let C = seen_in S ps a (inside t) in
      let D = seen_in S ps b (inside t) in
      and_nothing (on_trail s.trail (uses e) ++ (A ++ B)) (on_trail t.trail (uses e) ++ (C ++ D))
      (seen_append (on_trail s.trail (uses e)) (A ++ B) (on_trail t.trail (uses e)) (C ++ D) (on_like s.trail t.trail l.1 (uses e))
      (seen_append A B C D (seen_like W S ps c a (inside s) (inside t) (refl, l.1)) (seen_like W S ps c b (inside s) (inside t) (refl, l.1))))
  one_seen_like W S ps c at (either bs) s t l =
      and_nothing (seen_in_some no_calls ps (expand.expand_some W bs) s) (seen_in_some S ps bs t) (seen_some_like W S ps c bs s t l)
  one_seen_like W S ps c at (with bs b) s t l =
      let us = uses_of_binds bs in
      let B = seen_in no_calls ps (expand.expand W b) (inside s) in
      let D = seen_in S ps b (inside t) in
      and_nothing (on_trail s.trail us ++ B) (on_trail t.trail us ++ D)
      (seen_append (on_trail s.trail us) B (on_trail t.trail us) D (on_like s.trail t.trail l.1 us) (seen_like W S ps c b (inside s) (inside t) (refl, l.1)))
  one_seen_like W S ps c at (while e b) s t l =
      let p = one_end no_calls (while e (expand.expand W b)) s in
      let r = one_end S (while e b) t in
      let B = seen_in no_calls ps (expand.expand W b) (inside p) in
      let D = seen_in S ps b (inside r) in
      let k = one_end_like W S ps c at (while e b) s t l in
      and_nothing (on_trail p.trail (uses e) ++ B) (on_trail r.trail (uses e) ++ D)
      (seen_append (on_trail p.trail (uses e)) B (on_trail r.trail (uses e)) D (on_like p.trail r.trail k.1 (uses e)) (seen_like W S ps c b (inside p) (inside r) (refl, k.1)))
  one_seen_like W S ps c at (goto n) s t l =
      let us = map other (jumps_use ps at.first (goto n)) in and_nothing (on_trail s.trail us) (on_trail t.trail us) (on_like s.trail t.trail l.1 us)
  one_seen_like W S ps c at (macro m ts) s t l = λ K.
      ap (list_any (passes K)) (seen_joined ps (W at m ts) done s ∙ append-nil (seen_in no_calls ps (W at m ts) s)) ∙ c.seen at m ts s t l K
  one_seen_like W S ps c at (call q ts) s t l =
      let us = uses_of_all ts ++ map other (jumps_use ps at.first (call q ts)) in and_nothing (on_trail s.trail us) (on_trail t.trail us) (on_like s.trail t.trail l.1 us)
  one_seen_like W S ps c at return s t l = λ K. refl

  pub seen_like : (W : expand.Writing) (S : CallSeen) (ps : List Procedure) → CallsLike W S ps → (b : Statements) (s t : At) → Like s t
      → SeenLike (seen_in no_calls ps (expand.expand W b) s) (seen_in S ps b t)
  seen_like W S ps c done s t l = λ K. refl
  seen_like W S ps c (then at st rest) s t l = λ K.
      let X = expand.expand_one W at st done in
      ap (list_any (passes K)) (seen_split W ps at st (expand.expand W rest) s)
      ∙ seen_append (seen_in no_calls ps X s) (seen_in no_calls ps (expand.expand W rest) (end_of no_calls X s)) (one_seen S ps at.first st t) (seen_in S ps rest (one_end S st t))
      (one_seen_like W S ps c at st s t l) (seen_like W S ps c rest (end_of no_calls X s) (one_end S st t) (one_end_like W S ps c at st s t l)) K
  seen_like W S ps c (mark n k rest) s t l = seen_like W S ps c rest at_label at_label (refl, λ f. refl)

  seen_some_like : (W : expand.Writing) (S : CallSeen) (ps : List Procedure) → CallsLike W S ps → (bs : Branches) (s t : At) → Like s t
      → SeenLike (seen_in_some no_calls ps (expand.expand_some W bs) s) (seen_in_some S ps bs t)
  seen_some_like W S ps c no_branches s t l = λ K. refl
  seen_some_like W S ps c (or b bs) s t l =
      seen_append (seen_in no_calls ps (expand.expand W b) (inside s)) (seen_in_some no_calls ps (expand.expand_some W bs) s)
      (seen_in S ps b (inside t)) (seen_in_some S ps bs t) (seen_like W S ps c b (inside s) (inside t) (refl, l.1)) (seen_some_like W S ps c bs s t l)
