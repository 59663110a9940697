-- What was computed once for each macro says of its calls what is seen in the text that is written for them.
use Rattle.std.proofs.Common.{◌≡◌, List, [], ◌∷◌, Bool, true, false, ◌||◌, cond, bytes_eq, Some, None, refl, sym, ◌∙◌, ap, subst}
use Rattle.std.specs.Option.{option_map}
use Rattle.std.specs.List.{list_any, flat_map}
use Rattle.std.proofs.lemmas.List.{append-nil}
use Rattle.std.proofs.lemmas.Bool.{and_parts}
use Rattle.std.proofs.lemmas.Slice.Eq.{bytes_eq-Decides}
use Rattle.std.proofs.Math.Bool.{or-false}
use Rattle.tla_tree.specs.Tree.{Word, Trees}
use Rattle.pcal_tree.specs.Algorithm.{Name, Statements, Macro, Procedure}
use Rattle.pcal_tree.specs.Run.{arguments}
use Rattle.pcal_tree.specs.Expand as expand
use Rattle.pcal_tree.specs.laws.MacroSummaries.{union}
use Rattle.pcal_tree.specs.laws.MacroSpots.{Use, value, left, other, Origin, earlier, assigned, Trail, At, Seen, on_trail, Called, CallSeen, end_of, seen_in, Put, put_origin, put_trail, put_use, put_seen, put_at, put_called, same_origin, same_use, Pair, same_pair, pairs_on, pairs, seen_pair, once, MacroSeen, before_on, seen_from, seen_in_call, seen_in_body, starting, macros_seen}
use Rattle.pcal_tree.proofs.FirstLaws.{name_sound}
use Rattle.pcal_tree.proofs.SetLaws.{Same, Sound, any_flat, any_map, any_same, any_or, any_none, any_union}
use Rattle.pcal_tree.proofs.SpotGrafts.{no_calls, putting, end_graft, seen_graft}
use Rattle.pcal_tree.proofs.SpotCalls.{LikeTrail, Like, met, passes, SeenLike, like_then, CallsLike, end_like, seen_like}

-- ---- each once

use_sound : Sound same_use
use_sound (value n) (value k) e = ap value (name_sound n k e)
use_sound (left n) (left k) e = ap left (name_sound n k e)
use_sound (other n) (other k) e = ap other (name_sound n k e)
use_sound (value n) (left k) e = cc
use_sound (value n) (other k) e = cc
use_sound (left n) (value k) e = cc
use_sound (left n) (other k) e = cc
use_sound (other n) (value k) e = cc
use_sound (other n) (left k) e = cc

origin_sound : Sound same_origin
origin_sound earlier earlier e = refl
origin_sound (assigned x) (assigned y) e = ap assigned ((bytes_eq-Decides x y).0 e)
origin_sound earlier (assigned y) e = cc
origin_sound (assigned x) earlier e = cc

pair_sound : Sound same_pair
pair_sound p r e =
    let h = and_parts (same_use p.use_of r.use_of) (same_origin p.origin r.origin) e in
    λ i. record { use_of = use_sound p.use_of r.use_of h.0 i; origin = origin_sound p.origin r.origin h.1 i }

pairs_pass : (K : Origin → Use → Bool) (q : Trail) (u : Use) → met K q u ≡ list_any (λ p. passes K (seen_pair p)) (pairs_on q u)
pairs_pass K None u = refl
pairs_pass K (Some os) u =
    any_same (λ o. K o u) (λ o. K o u || false) (λ o. sym (or-false (K o u))) os
    ∙ sym (any_map (λ p. passes K (seen_pair p)) (λ o. record { use_of = u; origin = o }) os)

once_seen : (c : Called) → SeenLike c.seen (once c).seen
once_seen c K =
    any_same (passes K) (λ s. list_any one (pairs_on s.trail s.use_of)) (λ s. pairs_pass K s.trail s.use_of) c.seen
    ∙ sym (any_flat one (λ s. pairs_on s.trail s.use_of) c.seen)
    ∙ sym (any_union same_pair pair_sound one (pairs c.seen) [] ∙ or-false (list_any one (pairs c.seen)))
    ∙ sym (any_map (passes K) seen_pair (union same_pair (pairs c.seen) []))
  where
    one : Pair → Bool
    one p = passes K (seen_pair p)

once_trail : (q : Trail) → LikeTrail q (option_map (λ os. union same_origin os []) q)
once_trail None = tt
once_trail (Some os) = λ f. sym (any_union same_origin origin_sound f os [] ∙ or-false (list_any f os))

-- ---- arguments put in

put_origin_same : (ps : List Name) (ts : Trees) (os us : List Origin) → Same os us → (o : Origin) → Same (put_origin (putting ps ts os) o) (put_origin (putting ps ts us) o)
put_origin_same ps ts os us e earlier = e
put_origin_same ps ts os us e (assigned x) = λ f. refl

put_trail_like : (ps : List Name) (ts : Trees) (os us : List Origin) → Same os us → (q r : Trail) → LikeTrail q r
    → LikeTrail (put_trail (putting ps ts os) q) (put_trail (putting ps ts us) r)
put_trail_like ps ts os us e None None l = tt
put_trail_like ps ts os us e (Some xs) (Some ys) l = λ f.
    let h = put_origin (putting ps ts os) in
    let k = put_origin (putting ps ts us) in
    any_flat f h xs ∙ any_same (λ o. list_any f (h o)) (λ o. list_any f (k o)) (λ o. put_origin_same ps ts os us e o f) xs
    ∙ l (λ o. list_any f (k o)) ∙ sym (any_flat f k ys)
put_trail_like ps ts os us e None (Some ys) l = absurd l
put_trail_like ps ts os us e (Some xs) None l = absurd l

pub any_turned : {X Y : Type 0} (R : X → Y → Bool) (xs : List X) (ys : List Y) → list_any (λ x. list_any (R x) ys) xs ≡ list_any (λ y. list_any (λ x. R x y) xs) ys
any_turned R [] ys = sym (any_none (λ y. false) (λ y. refl) ys)
any_turned R (x ∷ xs) ys = ap (λ (b : Bool). list_any (R x) ys || b) (any_turned R xs ys) ∙ sym (any_or (R x) (λ y. list_any (λ x'. R x' y) xs) ys)

-- a test of what is there after the arguments are put in, as a test of what was there before
abbrev put_test : Put → (Origin → Use → Bool) → Origin → Use → Bool
put_test P K o u = list_any (λ v. list_any (λ r. K r v) (put_origin P o)) (put_use P u)

put_passes : (P : Put) (K : Origin → Use → Bool) (q : Trail) (u : Use) → list_any (passes K) (on_trail (put_trail P q) (put_use P u)) ≡ met (put_test P K) q u
put_passes P K None u = any_map (passes K) (λ v. record { use_of = v; trail = None }) (put_use P u) ∙ any_none (λ v. false) (λ v. refl) (put_use P u)
put_passes P K (Some os) u =
    any_map (passes K) (λ v. record { use_of = v; trail = Some (flat_map (put_origin P) os) }) (put_use P u)
    ∙ any_same (λ v. list_any (λ r. K r v) (flat_map (put_origin P) os)) (λ v. list_any (λ o. list_any (λ r. K r v) (put_origin P o)) os) (λ v. any_flat (λ r. K r v) (put_origin P) os) (put_use P u)
    ∙ any_turned (λ v o. list_any (λ r. K r v) (put_origin P o)) (put_use P u) os

met_same : (H K : Origin → Use → Bool) → ((o : Origin) (u : Use) → H o u ≡ K o u) → (q : Trail) (u : Use) → met H q u ≡ met K q u
met_same H K e None u = refl
met_same H K e (Some os) u = any_same (λ o. H o u) (λ o. K o u) (λ o. e o u) os

put_seen_like : (ps : List Name) (ts : Trees) (os us : List Origin) → Same os us → (xs ys : List Seen) → SeenLike xs ys
    → SeenLike (flat_map (put_seen (putting ps ts os)) xs) (flat_map (put_seen (putting ps ts us)) ys)
put_seen_like ps ts os us e xs ys l K =
    any_flat (passes K) (put_seen P) xs
    ∙ any_same (λ s. list_any (passes K) (put_seen P s)) (passes (put_test Q K))
    (λ s. put_passes P K s.trail s.use_of ∙ met_same (put_test P K) (put_test Q K) turned s.trail s.use_of) xs
    ∙ l (put_test Q K)
    ∙ sym (any_same (λ s. list_any (passes K) (put_seen Q s)) (passes (put_test Q K)) (λ s. put_passes Q K s.trail s.use_of) ys)
    ∙ sym (any_flat (passes K) (put_seen Q) ys)
  where
    P : Put
    P = putting ps ts os

    Q : Put
    Q = putting ps ts us

    turned : (o : Origin) (u : Use) → put_test P K o u ≡ put_test Q K o u
    turned o u =
        any_same (λ v. list_any (λ r. K r v) (put_origin P o)) (λ v. list_any (λ r. K r v) (put_origin Q o))
        (λ v. put_origin_same ps ts os us e o (λ r. K r v)) (put_use P u)

-- ---- one body

-- of a call that stands where s is put for the beginning z of the body
body_end : (W : expand.Writing) (S : CallSeen) (qs : List Procedure) → CallsLike W S qs → (ps : List Name) (ts : Trees) (b : Statements)
    → (os us : List Origin) → Same os us → (z s : At) → put_at (putting ps ts os) z ≡ s
    → Like (end_of no_calls (expand.graft_all (arguments ps ts) (expand.expand W b)) s) (put_at (putting ps ts us) (once (seen_in_body S qs b z)).end)
body_end W S qs c ps ts b os us e z s f =
    let B = expand.expand W b in
    let l = end_like W S qs c b z z (refl, like_itself z.trail) in
    subst (λ y. Like y (put_at (putting ps ts us) (once (seen_in_body S qs b z)).end))
    (sym (end_graft ps ts os B z) ∙ ap (end_of no_calls (expand.graft_all (arguments ps ts) B)) f) (
      l.0,
      put_trail_like ps ts os us e (end_of no_calls B z).trail (option_map (λ os. union same_origin os []) (end_of S b z).trail)
          (like_then (end_of no_calls B z).trail (end_of S b z).trail (option_map (λ os. union same_origin os []) (end_of S b z).trail) l.1 (once_trail (end_of S b z).trail)),
    )
  where
    like_itself : (q : Trail) → LikeTrail q q
    like_itself None = tt
    like_itself (Some xs) = λ f. refl

body_seen : (W : expand.Writing) (S : CallSeen) (qs : List Procedure) → CallsLike W S qs → (ps : List Name) (ts : Trees) (b : Statements)
    → (os us : List Origin) → Same os us → (z s : At) → put_at (putting ps ts os) z ≡ s
    → SeenLike (seen_in no_calls qs (expand.graft_all (arguments ps ts) (expand.expand W b)) s) (flat_map (put_seen (putting ps ts us)) (once (seen_in_body S qs b z)).seen)
body_seen W S qs c ps ts b os us e z s f = λ K.
    let B = expand.expand W b in
    ap (list_any (passes K)) (sym (ap (seen_in no_calls qs (expand.graft_all (arguments ps ts) B)) f) ∙ seen_graft ps ts os qs B z)
    ∙ put_seen_like ps ts os us e (seen_in no_calls qs B z) (once (seen_in_body S qs b z)).seen
    (λ H. seen_like W S qs c b z z (refl, like_itself z.trail) H ∙ once_seen (seen_in_body S qs b z) H) K
  where
    like_itself : (q : Trail) → LikeTrail q q
    like_itself None = tt
    like_itself (Some xs) = λ f. refl

-- ---- macros

abbrev seen_of : List Procedure → Macro → CallSeen → MacroSeen
seen_of qs d S = record {
  title = d.name.word;
  params = d.params;
  reached = once (seen_in_body S qs d.body (starting false (Some (earlier ∷ []))));
  reached_at_label = once (seen_in_body S qs d.body (starting true (Some (earlier ∷ []))));
  unreached = once (seen_in_body S qs d.body (starting false None));
  unreached_at_label = once (seen_in_body S qs d.body (starting true None));
}

abbrev wrote : expand.Writing → Macro → Trees → Statements
wrote W d ts = expand.graft_all (arguments d.params ts) (expand.expand W d.body)

call_end : (W : expand.Writing) (S : CallSeen) (qs : List Procedure) → CallsLike W S qs → (d : Macro) (ts : Trees) (l k : Bool) → l ≡ k → (q r : Trail) → LikeTrail q r
    → Like (end_of no_calls (wrote W d ts) (starting l q)) (put_at (putting d.params ts (before_on r)) (seen_from (seen_of qs d S) k r).end)
call_end W S qs c d ts true true e None None h = body_end W S qs c d.params ts d.body [] [] (λ f. refl) (starting true None) (starting true None) refl
call_end W S qs c d ts false false e None None h = body_end W S qs c d.params ts d.body [] [] (λ f. refl) (starting false None) (starting false None) refl
call_end W S qs c d ts true true e (Some xs) (Some ys) h =
    body_end W S qs c d.params ts d.body xs ys h (starting true (Some (earlier ∷ []))) (starting true (Some xs)) (λ i. starting true (Some (append-nil xs i)))
call_end W S qs c d ts false false e (Some xs) (Some ys) h =
    body_end W S qs c d.params ts d.body xs ys h (starting false (Some (earlier ∷ []))) (starting false (Some xs)) (λ i. starting false (Some (append-nil xs i)))
call_end W S qs c d ts l k e None (Some ys) h = absurd h
call_end W S qs c d ts l k e (Some xs) None h = absurd h
call_end W S qs c d ts true false e q r h = cc
call_end W S qs c d ts false true e q r h = cc

call_seen : (W : expand.Writing) (S : CallSeen) (qs : List Procedure) → CallsLike W S qs → (d : Macro) (ts : Trees) (l k : Bool) → l ≡ k → (q r : Trail) → LikeTrail q r
    → SeenLike (seen_in no_calls qs (wrote W d ts) (starting l q)) (flat_map (put_seen (putting d.params ts (before_on r))) (seen_from (seen_of qs d S) k r).seen)
call_seen W S qs c d ts true true e None None h = body_seen W S qs c d.params ts d.body [] [] (λ f. refl) (starting true None) (starting true None) refl
call_seen W S qs c d ts false false e None None h = body_seen W S qs c d.params ts d.body [] [] (λ f. refl) (starting false None) (starting false None) refl
call_seen W S qs c d ts true true e (Some xs) (Some ys) h =
    body_seen W S qs c d.params ts d.body xs ys h (starting true (Some (earlier ∷ []))) (starting true (Some xs)) (λ i. starting true (Some (append-nil xs i)))
call_seen W S qs c d ts false false e (Some xs) (Some ys) h =
    body_seen W S qs c d.params ts d.body xs ys h (starting false (Some (earlier ∷ []))) (starting false (Some xs)) (λ i. starting false (Some (append-nil xs i)))
call_seen W S qs c d ts l k e None (Some ys) h = absurd h
call_seen W S qs c d ts l k e (Some xs) None h = absurd h
call_seen W S qs c d ts true false e q r h = cc
call_seen W S qs c d ts false true e q r h = cc

abbrev Calls : List Procedure → List Macro → Type 0
Calls qs ms = CallsLike (expand.written_out ms) (seen_in_call (macros_seen qs ms)) qs

pub macros_like : (qs : List Procedure) (ms : List Macro) → Calls qs ms
macros_like qs [] = record { end = λ at m ts s t l. (refl, tt); seen = λ at m ts s t l K. refl }
macros_like qs (d ∷ older) = with_older (macros_like qs older)
  where
    W : expand.Writing
    W = expand.written_out older

    S : CallSeen
    S = seen_in_call (macros_seen qs older)

    end_by : CallsLike W S qs → (m : Word) (ts : Trees) (s t : At) → Like s t → (X : Statements) (r : Called) → Like (end_of no_calls X s) r.end → (b : Bool)
        → Like (end_of no_calls (cond b (wrote W d ts) X) s) (cond b (put_called (putting d.params ts (before_on t.trail)) (seen_from (seen_of qs d S) t.labelled t.trail)) r).end
    end_by c m ts s t l X r h true = call_end W S qs c d ts s.labelled t.labelled l.0 s.trail t.trail l.1
    end_by c m ts s t l X r h false = h

    seen_by : CallsLike W S qs → (m : Word) (ts : Trees) (s t : At) → Like s t → (X : Statements) (r : Called) → SeenLike (seen_in no_calls qs X s) r.seen → (b : Bool)
        → SeenLike (seen_in no_calls qs (cond b (wrote W d ts) X) s) (cond b (put_called (putting d.params ts (before_on t.trail)) (seen_from (seen_of qs d S) t.labelled t.trail)) r).seen
    seen_by c m ts s t l X r h true = call_seen W S qs c d ts s.labelled t.labelled l.0 s.trail t.trail l.1
    seen_by c m ts s t l X r h false = h

    with_older : CallsLike W S qs → Calls qs (d ∷ older)
    with_older c = record {
      end = λ at m ts s t l. end_by c m ts s t l (W at m ts) (S m ts t) (c.end at m ts s t l) (bytes_eq d.name.word m);
      seen = λ at m ts s t l. seen_by c m ts s t l (W at m ts) (S m ts t) (c.seen at m ts s t l) (bytes_eq d.name.word m);
    }
