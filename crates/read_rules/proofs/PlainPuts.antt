-- What is seen in statements after some assignments, by what is seen after any: a loop's body is gone through once.
use Rattle.std.proofs.Common.{◌≡◌, List, [], ◌∷◌, ◌++◌, Bool, true, false, cond, bytes_eq, Some, None, refl, sym, ◌∙◌, ap, map, append-nil}
use Rattle.std.specs.List.{flat_map}
use Rattle.std.proofs.lemmas.Grind.{flat_map-append}
use Rattle.tla_token.specs.declared.place.Place.{Place}
use Rattle.tla_tree.specs.Tree.{Word, Trees}
use Rattle.pcal_tree.specs.Algorithm.{Assignments, Statement, assign, await, print, assert, skip, branch, either, with, while, goto, macro, call, return, Statements, done, then, mark, Branches, no_branches, or, Procedure}
use Rattle.pcal_tree.specs.OffencesStale.{jumps_use}
use Rattle.pcal_tree.specs.Paths.{roots, again, rounds}
use Rattle.pcal_tree.specs.laws.MacroSpots.{Use, value, left, other, uses, uses_of_all, uses_of_assignments, uses_of_binds, Origin, earlier, assigned, Trail, At, unlabelled, at_label, inside, Seen, on_trail, Called, CallSeen, joined, assigning, one_end, end_of, end_of_some, one_seen, seen_in, seen_in_some, Put, put_origin, put_trail, put_use, put_seen, put_at, put_called, MacroSeen, before_on, seen_from, seen_in_call, seen_in_body, starting}
use Rattle.pcal_tree.specs.laws.MacroSummaries.{argument}
use Rattle.read_rules.specs.PlainPuts.{plain, way}

-- ---- lists

assigned_kept : (os : List Origin) (xs : List Word) → flat_map (put_origin (plain os)) (map assigned xs) ≡ map assigned xs
assigned_kept os [] = refl
assigned_kept os (x ∷ xs) = ap (λ (r : List Origin). assigned x ∷ r) (assigned_kept os xs)

pub uses_kept : (os : List Origin) (us : List Use) → flat_map (put_use (plain os)) us ≡ us
uses_kept os [] = refl
uses_kept os (value n ∷ us) = ap (λ (r : List Use). value n ∷ r) (uses_kept os us)
uses_kept os (left n ∷ us) = ap (λ (r : List Use). left n ∷ r) (uses_kept os us)
uses_kept os (other n ∷ us) = ap (λ (r : List Use). other n ∷ r) (uses_kept os us)

-- what is put into uses that are on one path
pub seen_put : (P : Put) (q : Trail) (us : List Use) → flat_map (put_seen P) (on_trail q us) ≡ on_trail (put_trail P q) (flat_map (put_use P) us)
seen_put P q [] = refl
seen_put P q (u ∷ us) = ap (λ (r : List Seen). on_trail (put_trail P q) (put_use P u) ++ r) (seen_put P q us) ∙ sym (on_append (put_trail P q) (put_use P u) (flat_map (put_use P) us))
  where
    on_append : (q : Trail) (us vs : List Use) → on_trail q (us ++ vs) ≡ on_trail q us ++ on_trail q vs
    on_append q [] vs = refl
    on_append q (u ∷ us) vs = ap (λ (r : List Seen). record { use_of = u; trail = q } ∷ r) (on_append q us vs)

pub seen_kept : (os : List Origin) (q : Trail) (us : List Use) → flat_map (put_seen (plain os)) (on_trail q us) ≡ on_trail (put_trail (plain os) q) us
seen_kept os q us = seen_put (plain os) q us ∙ ap (on_trail (put_trail (plain os) q)) (uses_kept os us)

-- ---- one put after another

abbrev both : List Origin → Put → Put
both os Q = record { before = flat_map (put_origin (plain os)) Q.before; arguments = Q.arguments }

origin_both : (os : List Origin) (Q : Put) (us : List Origin) → flat_map (put_origin (plain os)) (flat_map (put_origin Q) us) ≡ flat_map (put_origin (both os Q)) us
origin_both os Q [] = refl
origin_both os Q (o ∷ us) =
    flat_map-append (put_origin (plain os)) (put_origin Q o) (flat_map (put_origin Q) us) ∙ (λ i. one o i ++ origin_both os Q us i)
  where
    one : (o : Origin) → flat_map (put_origin (plain os)) (put_origin Q o) ≡ put_origin (both os Q) o
    one earlier = refl
    one (assigned x) = assigned_kept os _

trail_both : (os : List Origin) (Q : Put) (q : Trail) → put_trail (plain os) (put_trail Q q) ≡ put_trail (both os Q) q
trail_both os Q None = refl
trail_both os Q (Some us) = ap (λ (r : List Origin). Some r) (origin_both os Q us)

same_uses : (os : List Origin) (Q : Put) (u : Use) → put_use (both os Q) u ≡ put_use Q u
same_uses os Q (value n) = refl
same_uses os Q (left n) = refl
same_uses os Q (other n) = refl

seen_both : (os : List Origin) (Q : Put) (ss : List Seen) → flat_map (put_seen (plain os)) (flat_map (put_seen Q) ss) ≡ flat_map (put_seen (both os Q)) ss
seen_both os Q [] = refl
seen_both os Q (s ∷ ss) =
    flat_map-append (put_seen (plain os)) (put_seen Q s) (flat_map (put_seen Q) ss)
    ∙ (λ i. (seen_kept os (put_trail Q s.trail) (put_use Q s.use_of) ∙ (λ j. on_trail (trail_both os Q s.trail j) (sym (same_uses os Q s.use_of) j))) i ++ seen_both os Q ss i)

called_both : (os : List Origin) (Q : Put) (c : Called) → put_called (plain os) (put_called Q c) ≡ put_called (both os Q) c
called_both os Q c = λ i. record { seen = seen_both os Q c.seen i; end = record { labelled = c.end.labelled; trail = trail_both os Q c.end.trail i } }

-- ---- calls

-- what is seen in calls is so too
abbrev pub Commutes : CallSeen → Type 0
Commutes S = (os : List Origin) (m : Word) (ts : Trees) (s : At) → put_called (plain os) (S m ts s) ≡ S m ts (put_at (plain os) s)

from_put : (os : List Origin) (d : MacroSeen) (l : Bool) (q : Trail) → seen_from d l (put_trail (plain os) q) ≡ seen_from d l q
from_put os d true None = refl
from_put os d false None = refl
from_put os d true (Some us) = refl
from_put os d false (Some us) = refl

before_put : (os : List Origin) (q : Trail) → flat_map (put_origin (plain os)) (before_on q) ≡ before_on (put_trail (plain os) q)
before_put os None = refl
before_put os (Some us) = refl

pub calls_commute : (ms : List MacroSeen) → Commutes (seen_in_call ms)
calls_commute [] os m ts s = refl
calls_commute (d ∷ older) os m ts s = by (bytes_eq d.title m) (calls_commute older os m ts s)
  where
    by : (b : Bool) → put_called (plain os) (seen_in_call older m ts s) ≡ seen_in_call older m ts (put_at (plain os) s) → put_called (plain os) (cond b (put_called (record { before = before_on s.trail; arguments = argument d.params ts }) (seen_from d s.labelled s.trail)) (seen_in_call older m ts s))
        ≡ cond b (put_called (record { before = before_on (put_trail (plain os) s.trail); arguments = argument d.params ts }) (seen_from d s.labelled (put_trail (plain os) s.trail))) (seen_in_call older m ts (put_at (plain os) s))
    by true rest =
        called_both os (record { before = before_on s.trail; arguments = argument d.params ts }) (seen_from d s.labelled s.trail)
        ∙ (λ i. put_called (record { before = before_put os s.trail i; arguments = argument d.params ts }) (sym (from_put os d s.labelled s.trail) i))
    by false rest = rest

-- ---- paths

joined_put : (P : Put) (q r : Trail) → put_trail P (joined q r) ≡ joined (put_trail P q) (put_trail P r)
joined_put P None r = refl
joined_put P (Some xs) None = refl
joined_put P (Some xs) (Some ys) = ap (λ (os : List Origin). Some os) (flat_map-append (put_origin P) xs ys)

again_put : (P : Put) (f : Trail → Trail) → ((q : Trail) → put_trail P (f q) ≡ f (put_trail P q)) → (q : Trail) → put_trail P (again f q) ≡ again f (put_trail P q)
again_put P f h None = refl
again_put P f h (Some os) = h (Some os)

rounds_put : (P : Put) (f : Trail → Trail) → ((q : Trail) → put_trail P (f q) ≡ f (put_trail P q)) → (q : Trail) → put_trail P (rounds joined f q) ≡ rounds joined f (put_trail P q)
rounds_put P f h None = again_put P f h (f None) ∙ ap (again f) (h None)
rounds_put P f h (Some os) = joined_put P (f (Some os)) (Some os) ∙ ap (λ (r : Trail). joined r (put_trail P (Some os))) (h (Some os))

cond_put : (P : Put) (l : Bool) (q r : Trail) → put_trail P (cond l q r) ≡ cond l (put_trail P q) (put_trail P r)
cond_put P true q r = refl
cond_put P false q r = refl

assigning_put : (os : List Origin) (ms : Assignments) (q : Trail) → put_trail (plain os) (assigning ms q) ≡ assigning ms (put_trail (plain os) q)
assigning_put os ms None = refl
assigning_put os ms (Some xs) =
    ap (λ (ys : List Origin). Some ys)
    (flat_map-append (put_origin (plain os)) (map assigned (roots ms)) xs ∙ ap (λ (ys : List Origin). ys ++ flat_map (put_origin (plain os)) xs) (assigned_kept os (roots ms)))

mutual
  one_end_put : (S : CallSeen) → Commutes S → (os : List Origin) (st : Statement) (s : At) → put_at (plain os) (one_end S st s) ≡ one_end S st (put_at (plain os) s)
  one_end_put S c os (assign ms) s = ap unlabelled (assigning_put os ms s.trail)
  one_end_put S c os (await e) s = refl
  one_end_put S c os (print e) s = refl
  one_end_put S c os (assert e) s = refl
  one_end_put S c os skip s = refl
  one_end_put S c os (branch e a b) s =
      ap unlabelled
      (joined_put (plain os) (end_of S a (inside s)).trail (end_of S b (inside s)).trail ∙ (λ i. joined (end_put S c os a (inside s) i).trail (end_put S c os b (inside s) i).trail))
  one_end_put S c os (either bs) s = ap unlabelled (some_end_put S c os bs s)
  one_end_put S c os (with bs b) s = ap (λ (z : At). unlabelled z.trail) (end_put S c os b (inside s))
  one_end_put S c os (while e b) s =
      ap unlabelled
      (cond_put (plain os) s.labelled s.trail (rounds joined (λ q. (end_of S b (unlabelled q)).trail) s.trail)
      ∙ ap (cond s.labelled (put_trail (plain os) s.trail)) (rounds_put (plain os) (λ q. (end_of S b (unlabelled q)).trail) (λ q. ap (λ (z : At). z.trail) (end_put S c os b (unlabelled q))) s.trail))
  one_end_put S c os (goto n) s = refl
  one_end_put S c os (macro m ts) s = ap (λ (r : Called). r.end) (c os m ts s)
  one_end_put S c os (call q ts) s = refl
  one_end_put S c os return s = refl

  end_put : (S : CallSeen) → Commutes S → (os : List Origin) (b : Statements) (s : At) → put_at (plain os) (end_of S b s) ≡ end_of S b (put_at (plain os) s)
  end_put S c os done s = refl
  end_put S c os (then at st rest) s = end_put S c os rest (one_end S st s) ∙ ap (end_of S rest) (one_end_put S c os st s)
  end_put S c os (mark n k rest) s = end_put S c os rest at_label

  some_end_put : (S : CallSeen) → Commutes S → (os : List Origin) (bs : Branches) (s : At) → put_trail (plain os) (end_of_some S bs s) ≡ end_of_some S bs (put_at (plain os) s)
  some_end_put S c os no_branches s = refl
  some_end_put S c os (or b bs) s =
      joined_put (plain os) (end_of S b (inside s)).trail (end_of_some S bs s) ∙ (λ i. joined (end_put S c os b (inside s) i).trail (some_end_put S c os bs s i))

-- ---- what is seen

mutual
  one_seen_put : (S : CallSeen) → Commutes S → (os : List Origin) (ps : List Procedure) (at : Place) (st : Statement) (s : At)
      → flat_map (put_seen (plain os)) (one_seen S ps at st s) ≡ one_seen S ps at st (put_at (plain os) s)
  one_seen_put S c os ps at (assign ms) s = seen_kept os s.trail (uses_of_assignments ms)
  one_seen_put S c os ps at (await e) s = seen_kept os s.trail (uses e)
  one_seen_put S c os ps at (print e) s = seen_kept os s.trail (uses e)
  one_seen_put S c os ps at (assert e) s = seen_kept os s.trail (uses e)
  one_seen_put S c os ps at skip s = refl
  one_seen_put S c os ps at (branch e a b) s =
      flat_map-append (put_seen (plain os)) (on_trail s.trail (uses e)) (seen_in S ps a (inside s) ++ seen_in S ps b (inside s))
      ∙ (λ i. seen_kept os s.trail (uses e) i ++ (flat_map-append (put_seen (plain os)) (seen_in S ps a (inside s)) (seen_in S ps b (inside s)) ∙ (λ j. list_seen_put S c os ps a (inside s) j ++ list_seen_put S c os ps b (inside s) j)) i)
  one_seen_put S c os ps at (either bs) s = some_seen_put S c os ps bs s
  one_seen_put S c os ps at (with bs b) s =
      flat_map-append (put_seen (plain os)) (on_trail s.trail (uses_of_binds bs)) (seen_in S ps b (inside s))
      ∙ (λ i. seen_kept os s.trail (uses_of_binds bs) i ++ list_seen_put S c os ps b (inside s) i)
  one_seen_put S c os ps at (while e b) s =
      let r = one_end S (while e b) s in
      flat_map-append (put_seen (plain os)) (on_trail r.trail (uses e)) (seen_in S ps b (inside r))
      ∙ (λ i. seen_kept os r.trail (uses e) i ++ list_seen_put S c os ps b (inside r) i)
      ∙ ap (λ (z : At). on_trail z.trail (uses e) ++ seen_in S ps b (inside z)) (one_end_put S c os (while e b) s)
  one_seen_put S c os ps at (goto n) s = seen_kept os s.trail (map other (jumps_use ps at (goto n)))
  one_seen_put S c os ps at (macro m ts) s = ap (λ (r : Called). r.seen) (c os m ts s)
  one_seen_put S c os ps at (call q ts) s = seen_kept os s.trail (uses_of_all ts ++ map other (jumps_use ps at (call q ts)))
  one_seen_put S c os ps at return s = refl

  list_seen_put : (S : CallSeen) → Commutes S → (os : List Origin) (ps : List Procedure) (b : Statements) (s : At)
      → flat_map (put_seen (plain os)) (seen_in S ps b s) ≡ seen_in S ps b (put_at (plain os) s)
  list_seen_put S c os ps done s = refl
  list_seen_put S c os ps (then at st rest) s =
      flat_map-append (put_seen (plain os)) (one_seen S ps at.first st s) (seen_in S ps rest (one_end S st s))
      ∙ (λ i. one_seen_put S c os ps at.first st s i ++ (list_seen_put S c os ps rest (one_end S st s) ∙ ap (seen_in S ps rest) (one_end_put S c os st s)) i)
  list_seen_put S c os ps (mark n k rest) s = list_seen_put S c os ps rest at_label

  some_seen_put : (S : CallSeen) → Commutes S → (os : List Origin) (ps : List Procedure) (bs : Branches) (s : At)
      → flat_map (put_seen (plain os)) (seen_in_some S ps bs s) ≡ seen_in_some S ps bs (put_at (plain os) s)
  some_seen_put S c os ps no_branches s = refl
  some_seen_put S c os ps (or b bs) s =
      flat_map-append (put_seen (plain os)) (seen_in S ps b (inside s)) (seen_in_some S ps bs s)
      ∙ (λ i. list_seen_put S c os ps b (inside s) i ++ some_seen_put S c os ps bs s i)

-- ---- bodies

pub body_put : (S : CallSeen) → Commutes S → (os : List Origin) (ps : List Procedure) (b : Statements) (s : At)
    → put_called (plain os) (seen_in_body S ps b s) ≡ seen_in_body S ps b (put_at (plain os) s)
body_put S c os ps b s = λ i. record { seen = list_seen_put S c os ps b s i; end = end_put S c os b s i }

-- the body of a loop after anything
pub body_any : (S : CallSeen) → Commutes S → (ps : List Procedure) (b : Statements) (q : Trail)
    → put_called (plain (before_on q)) (way (seen_in_body S ps b (starting false None)) (seen_in_body S ps b (starting false (Some (earlier ∷ [])))) q)
    ≡ seen_in_body S ps b (unlabelled q)
body_any S c ps b None = body_put S c [] ps b (starting false None)
body_any S c ps b (Some os) =
    body_put S c os ps b (starting false (Some (earlier ∷ []))) ∙ (λ i. seen_in_body S ps b (unlabelled (Some (append-nil os i))))
