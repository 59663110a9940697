-- What is seen in statements, one after another.
use Rattle.std.proofs.Common.{◌≡◌, ℕ, ◌+◌, ◌<◌, ◌≤◌, Bool, true, false, List, [], ◌∷◌, ◌++◌, length, drop, get_or, Option, Some, None, Vec, Global, refl, sym, ap, ◌∙◌, subst, map, append-nil, append_assoc, ◌||◌}
use Rattle.std.specs.List.{list_any}
use Rattle.std.proofs.lemmas.List.{drop_more, drop_all}
use Rattle.std.proofs.lemmas.List.Folds.{list_any-append}
use Rattle.tla_token.specs.declared.place.Place.{Place}
use Rattle.tla_tree.specs.Tree.{Word, Tree}
use Rattle.tla_tree.specs.Pool.{at}
use Rattle.pcal_tree.specs.declared.mark.Mark.{Mark}
use Rattle.pcal_tree.specs.declared.algorithm.Span.{Span}
use Rattle.pcal_tree.specs.declared.algorithm.Simple as declared_simple
use Rattle.pcal_tree.specs.declared.algorithm.Simple.TheVariants as simple
use Rattle.pcal_tree.specs.declared.algorithm.Stmt.{Stmt}
use Rattle.pcal_tree.specs.declared.algorithm.Stmt.TheVariants.{Label, Simple}
use Rattle.pcal_tree.specs.Algorithm.{Name, branch, either, Statement, Statements, then, Branches, no_branches, or, Procedure}
use Rattle.pcal_tree.specs.InMemory.{span_of, simple_at, Before, stmt_at, statements_at, branches_at}
use Rattle.pcal_tree.specs.laws.MacroSpots.{Use, earlier, assigned, Trail, At, unlabelled, at_label, Seen, on_trail, Called, CallSeen, joined, uses, end_of, end_of_some, seen_in, seen_in_some, seen_in_body, seen_in_call, MacroSeen, starting}
use Rattle.pcal_tree.proofs.SetLaws.{any_map}
use Rattle.pcal_tree.proofs.InMemoryEach.{label_at, simple_in_list_at}
use Rattle.pcal_tree.proofs.SpotCalls.{LikeTrail, Like, passes, SeenLike, like_then}
use Rattle.read_rules.specs.declared.assigned.Assigned.{Assigned}
use Rattle.read_rules.specs.declared.walk.Group.{Group}
use Rattle.read_rules.specs.declared.walk.Step.{Step}
use Rattle.read_rules.specs.declared.walk.Walk.{Walk}
use Rattle.read_rules.specs.declared.walk.Ways.{Ways}
use Rattle.read_rules.specs.declared.ways.Paths.{Paths}
use Rattle.read_rules.specs.BodiesIn.{one, GoesStmt, in_some, together, no_paths}
use Rattle.read_rules.specs.Joins.{Joins}
use Rattle.read_rules.specs.PlainPuts.{Going, after}
use Rattle.read_rules.specs.SeenIn.{seen_of, at_of, IsWay, Walks, trail_stepped, stepping, IsLoop}
use Rattle.read_rules.specs.Sets.{trail_of}
use Rattle.read_rules.specs.StepsIn.{simple_uses, simple_roots, simple_stops, DoesSimple}
use Rattle.read_rules.specs.UsesIn.{uses_of}
use Rattle.read_rules.specs.WaysIn.{Goes, Begins, Moves, Restarts, Ends, JoinsEnd, Forks, Branches as Branching}
use Rattle.read_rules.proofs.PathLaws.{like_itself, like_joined, joined_after}
use Rattle.read_rules.proofs.PlainPuts.{calls_commute, body_any}
use Rattle.read_rules.proofs.WalkLaws.{seen_append}

-- ---- one after another

pub walks_as : (a b : Walk) (f g : Going) → ((z : At) → f z ≡ g z) → Walks a b f → Walks a b g
walks_as a b f g e h z l = subst (λ (c : Called). Like (at_of b) c.end × SeenLike (seen_of b.seen.items) (seen_of a.seen.items ++ c.seen)) (e z) (h z l)

walks_then : (a b c : Walk) (f g : Going) → Walks a b f → Walks b c g → Walks a c (after f g)
walks_then a b c f g h k z l =
    let u = h z l in
    let v = k (f z).end u.0 in
    let more = (g (f z).end).seen in (
      v.0,
      λ K.
          v.1 K ∙ seen_append (seen_of b.seen.items) more (seen_of a.seen.items ++ (f z).seen) more u.1 (λ K. refl) K
          ∙ ap (list_any (passes K)) (append_assoc (seen_of a.seen.items) (f z).seen more),
    )

walks_none : (a : Walk) → Walks a a (λ z. record { seen = []; end = z })
walks_none a z l = (l, λ K. ap (list_any (passes K)) (sym (append-nil (seen_of a.seen.items))))

pub goes_as : (a b : Ways) (f g : Going) → ((z : At) → f z ≡ g z) → Goes a b f → Goes a b g
goes_as a b f g e h = (walks_as a.unreached b.unreached f g e h.0, walks_as a.reached b.reached f g e h.1)

pub goes_then : (a b c : Ways) (f g : Going) → Goes a b f → Goes b c g → Goes a c (after f g)
goes_then a b c f g h k = (walks_then a.unreached b.unreached c.unreached f g h.0 k.0, walks_then a.reached b.reached c.reached f g h.1 k.1)

pub goes_none : (a : Ways) → Goes a a (λ z. record { seen = []; end = z })
goes_none a = (walks_none a.unreached, walks_none a.reached)

-- ---- plain statements

idle : (q : Trail) → trail_stepped [] false q ≡ q
idle None = refl
idle (Some os) = refl

trails_named : (xs ys : List Word) (b c : Bool) (q : Trail) → Joins [] xs ys → b ≡ c → LikeTrail (trail_stepped xs b q) (trail_stepped ys c q)
trails_named xs ys true true q j e = tt
trails_named xs ys false false None j e = tt
trails_named xs ys false false (Some os) j e = λ f.
    list_any-append f (map assigned xs) os ∙ ap (λ (t : Bool). t || list_any f os) (any_map f assigned xs ∙ j (λ x. f (assigned x)) ∙ sym (any_map f assigned ys)) ∙ sym (list_any-append f (map assigned ys) os)
trails_named xs ys true false q j e = cc
trails_named xs ys false true q j e = cc

abbrev pub is_call : declared_simple.Simple → Bool
is_call (simple.Macro x es) = true
is_call x = false

pub not_call : (x : declared_simple.Simple) → ((n : Word) (es : Vec ℕ Global) → x ≡ simple.Macro n es → ⊥) → is_call x ≡ false
not_call (simple.Macro n es) h = absurd (h n es refl)
not_call (simple.Assign ms) h = refl
not_call (simple.Await n) h = refl
not_call (simple.Print n) h = refl
not_call (simple.Assert n) h = refl
not_call simple.Skip h = refl
not_call (simple.Goto l) h = refl
not_call (simple.Call q es) h = refl
not_call simple.Return h = refl

one_plain : (S : CallSeen) (ps : List Procedure) (ts : List Tree) (p : Place) (x : declared_simple.Simple) → is_call x ≡ false → (z : At)
    → stepping (simple_uses ps p (simple_at ts x)) (simple_roots (simple_at ts x)) (simple_stops (simple_at ts x)) z ≡ one S ps p (simple_at ts x) z
one_plain S ps ts p (simple.Assign ms) e z = refl
one_plain S ps ts p (simple.Await n) e z = λ i. record { seen = on_trail z.trail (uses (at ts n)); end = unlabelled (idle z.trail i) }
one_plain S ps ts p (simple.Print n) e z = λ i. record { seen = on_trail z.trail (uses (at ts n)); end = unlabelled (idle z.trail i) }
one_plain S ps ts p (simple.Assert n) e z = λ i. record { seen = on_trail z.trail (uses (at ts n)); end = unlabelled (idle z.trail i) }
one_plain S ps ts p simple.Skip e z = λ i. record { seen = []; end = unlabelled (idle z.trail i) }
one_plain S ps ts p (simple.Goto l) e z = refl
one_plain S ps ts p (simple.Macro m es) e z = cc
one_plain S ps ts p (simple.Call q es) e z = refl
one_plain S ps ts p simple.Return e z = refl

plain_walks : (S : CallSeen) (ps : List Procedure) (ts : List Tree) (p : Place) (x : declared_simple.Simple) (s : Step) (old new : Walk) → is_call x ≡ false → DoesSimple ps p (simple_at ts x) s
    → Walks old new (stepping (uses_of s.uses.items) s.names s.stops) → Walks old new (one S ps p (simple_at ts x))
plain_walks S ps ts p x s old new e d w =
    walks_as old new (stepping (simple_uses ps p st) (simple_roots st) (simple_stops st)) (one S ps p st) (one_plain S ps ts p x e) (λ z l.
    let u = w z l in (
      (u.0.0, like_then (trail_of new.path) (trail_stepped s.names s.stops z.trail) (trail_stepped (simple_roots st) (simple_stops st) z.trail) u.0.1 (trails_named s.names (simple_roots st) s.stops (simple_stops st) z.trail d.names d.stops)),
      λ K. u.1 K ∙ ap (λ (us : List Use). list_any (passes K) (seen_of old.seen.items ++ on_trail z.trail us)) d.uses,
    ))
  where
    st : Statement
    st = simple_at ts x

pub plain_goes : (S : CallSeen) (ps : List Procedure) (ts : List Tree) (p : Place) (x : declared_simple.Simple) (s : Step) (old new : Ways) → is_call x ≡ false → DoesSimple ps p (simple_at ts x) s
    → Goes old new (stepping (uses_of s.uses.items) s.names s.stops) → Goes old new (one S ps p (simple_at ts x))
plain_goes S ps ts p x s old new e d w = (plain_walks S ps ts p x s old.unreached new.unreached e d w.0, plain_walks S ps ts p x s old.reached new.reached e d w.1)

-- ---- branches

branch_forks : (f : Going) (old one two new : Walk) (start before after : Option Assigned) → Moves old one start → Walks one two f → JoinsEnd two new before after → Forks old new start before after (λ q. f (unlabelled q))
branch_forks f old one two new start before after m w j q l =
    let z = unlabelled q in
    let k = subst (λ (p : Option Assigned). LikeTrail (trail_of p) q) (sym m.path) l in
    let u = w z (m.labelled, k) in (
      like_then (trail_of after) (joined (trail_of before) (trail_of two.path)) (joined (trail_of before) (f z).end.trail) j.path
          (like_joined (trail_of before) (trail_of before) (trail_of two.path) (f z).end.trail (like_itself (trail_of before)) u.0.1),
      λ K.
          ap (λ (gs : List Group). list_any (passes K) (seen_of gs)) j.seen ∙ u.1 K
          ∙ ap (λ (gs : List Group). list_any (passes K) (seen_of gs ++ (f z).seen)) m.seen,
    )

pub branch_branches : (f : Going) (old one two new : Ways) (start before after : Paths) → Restarts old one start → Goes one two f
    → JoinsEnd two.unreached new.unreached before.unreached after.unreached × JoinsEnd two.reached new.reached before.reached after.reached → Branching old new start before after (λ q. f (unlabelled q))
branch_branches f old one two new start before after m w j = (
  branch_forks f old.unreached one.unreached two.unreached new.unreached start.unreached before.unreached after.unreached m.0 w.0 j.0,
  branch_forks f old.reached one.reached two.reached new.reached start.reached before.reached after.reached m.1 w.1 j.1,
)

forks_then : (a b c : Walk) (start i j k : Option Assigned) (f g : Trail → Called) → Forks a b start i j f → Forks b c start j k g → Forks a c start i k (together f g)
forks_then a b c start i j k f g u v q l =
    let h = u q l in
    let m = v q l in (
      subst (λ (t : Trail). LikeTrail (trail_of k) t) (joined_after (trail_of i) (f q).end.trail (g q).end.trail)
          (like_then (trail_of k) (joined (trail_of j) (g q).end.trail) (joined (joined (trail_of i) (f q).end.trail) (g q).end.trail) m.0
          (like_joined (trail_of j) (joined (trail_of i) (f q).end.trail) (g q).end.trail (g q).end.trail h.0 (like_itself (g q).end.trail))),
      λ K.
          m.1 K ∙ seen_append (seen_of b.seen.items) (g q).seen (seen_of a.seen.items ++ (f q).seen) (g q).seen h.1 (λ K. refl) K
          ∙ ap (list_any (passes K)) (append_assoc (seen_of a.seen.items) (f q).seen (g q).seen),
    )

pub branches_then : (a b c : Ways) (start i j k : Paths) (f g : Trail → Called) → Branching a b start i j f → Branching b c start j k g → Branching a c start i k (together f g)
branches_then a b c start i j k f g u v = (
  forks_then a.unreached b.unreached c.unreached start.unreached i.unreached j.unreached k.unreached f g u.0 v.0,
  forks_then a.reached b.reached c.reached start.reached i.reached j.reached k.reached f g u.1 v.1,
)

joined_none : (q : Trail) → joined q None ≡ q
joined_none None = refl
joined_none (Some os) = refl

pub branches_none : (S : CallSeen) (ps : List Procedure) (ts : List Tree) (a : Ways) (start i : Paths) (bs : List (Vec Stmt Global)) (n : ℕ) → length bs ≤ n → Branching a a start i i (in_some S ps (branches_at ts (drop n bs)))
branches_none S ps ts a start i bs n less =
    subst (λ (cs : List (Vec Stmt Global)). Branching a a start i i (in_some S ps (branches_at ts cs))) (sym (drop_all n bs less)) (no_forks a.unreached start.unreached i.unreached, no_forks a.reached start.reached i.reached)
  where
    no_forks : (w : Walk) (s e : Option Assigned) → Forks w w s e e (λ q. record { seen = []; end = unlabelled None })
    no_forks w s e q l = (
      subst (λ (t : Trail). LikeTrail (trail_of e) t) (sym (joined_none (trail_of e))) (like_itself (trail_of e)),
      λ K. ap (list_any (passes K)) (sym (append-nil (seen_of w.seen.items))),
    )

pub branches_more : (S : CallSeen) (ps : List Procedure) (ts : List Tree) (a b c : Ways) (start i j k : Paths) (bs : List (Vec Stmt Global)) (n : ℕ) (x : Vec Stmt Global) → x ≡ get_or bs n x → n < length bs
    → Branching a b start i j (λ q. seen_in_body S ps (statements_at ts x.items) (unlabelled q)) → Branching b c start j k (in_some S ps (branches_at ts (drop (n + 1) bs)))
    → Branching a c start i k (in_some S ps (branches_at ts (drop n bs)))
branches_more S ps ts a b c start i j k bs n x is less u v =
    subst (λ (cs : List (Vec Stmt Global)). Branching a c start i k (in_some S ps (branches_at ts cs))) (ap (λ (z : Vec Stmt Global). z ∷ drop (n + 1) bs) is ∙ sym (drop_more bs n x less))
    (branches_then a b c start i j k (λ q. seen_in_body S ps (statements_at ts x.items) (unlabelled q)) (in_some S ps (branches_at ts (drop (n + 1) bs))) u v)

-- uses, and then branches
forks_walk : (us : List Use) (f : Trail → Called) (old mid two three new : Walk) (start after : Option Assigned) → Walks old mid (stepping us [] false) → start ≡ mid.path → two.seen.items ≡ mid.seen.items
    → Forks two three start None after f → Moves three new after → Walks old new (λ z. record { seen = on_trail z.trail us ++ (f z.trail).seen; end = unlabelled (f z.trail).end.trail })
forks_walk us f old mid two three new start after w e s h m z l =
    let u = w z l in
    let k = subst (λ (t : Trail). LikeTrail (trail_of mid.path) t) (idle z.trail) u.0.1 in
    let v = h z.trail (subst (λ (p : Option Assigned). LikeTrail (trail_of p) z.trail) (sym e) k) in
    let more = (f z.trail).seen in (
      (m.labelled, subst (λ (p : Option Assigned). LikeTrail (trail_of p) (f z.trail).end.trail) (sym m.path) v.0),
      λ K.
          ap (λ (gs : List Group). list_any (passes K) (seen_of gs)) m.seen ∙ v.1 K ∙ ap (λ (gs : List Group). list_any (passes K) (seen_of gs ++ more)) s
          ∙ seen_append (seen_of mid.seen.items) more (seen_of old.seen.items ++ on_trail z.trail us) more u.1 (λ K. refl) K
          ∙ ap (list_any (passes K)) (append_assoc (seen_of old.seen.items) (on_trail z.trail us) more),
    )

pub branches_goes : (us : List Use) (f : Trail → Called) (old mid two three new : Ways) (start after : Paths) → Goes old mid (stepping us [] false) → start.unreached ≡ mid.unreached.path → start.reached ≡ mid.reached.path
    → two.unreached.seen.items ≡ mid.unreached.seen.items → two.reached.seen.items ≡ mid.reached.seen.items → Branching two three start no_paths after f → Ends three new after
    → Goes old new (λ z. record { seen = on_trail z.trail us ++ (f z.trail).seen; end = unlabelled (f z.trail).end.trail })
branches_goes us f old mid two three new start after w e g s r h m = (
  forks_walk us f old.unreached mid.unreached two.unreached three.unreached new.unreached start.unreached after.unreached w.0 e s h.0 m.0,
  forks_walk us f old.reached mid.reached two.reached three.reached new.reached start.reached after.reached w.1 g r h.1 m.1,
)

-- ---- with

pub with_goes : (us : List Use) (f : Going) (a b c d : Ways) → Goes a b (stepping us [] false) → Goes b c f → Goes c d (λ z. record { seen = []; end = unlabelled z.trail })
    → Goes a d (λ z. record { seen = on_trail z.trail us ++ (f (unlabelled z.trail)).seen; end = unlabelled (f (unlabelled z.trail)).end.trail })
with_goes us f a b c d u v w =
    goes_as a d _ _
    (λ z i. record {
      seen = on_trail z.trail us ++ append-nil (f (unlabelled (idle z.trail i))).seen i;
      end = unlabelled (f (unlabelled (idle z.trail i))).end.trail;
    })
    (goes_then a b d (stepping us [] false) (after f (λ z. record { seen = []; end = unlabelled z.trail })) u (goes_then b c d f (λ z. record { seen = []; end = unlabelled z.trail }) v w))

-- ---- loops

pub is_way : (w v : Walk) (z : At) (f : Going) → Begins w z → Walks w v f → IsWay v (f z)
is_way w v z f b h =
    let u = h z b.at in record { end = u.0; seen = λ K. u.1 K ∙ ap (λ (gs : List Group). list_any (passes K) (seen_of gs ++ (f z).seen)) b.seen }

pub is_loop : (ms : List MacroSeen) (ps : List Procedure) (b : Statements) (old new : Ways) → Begins old.unreached (starting false None) → Begins old.reached (starting false (Some (earlier ∷ [])))
    → Goes old new (λ z. seen_in_body (seen_in_call ms) ps b z) → IsLoop new (λ q. seen_in_body (seen_in_call ms) ps b (unlabelled q))
is_loop ms ps b old new u r g = record {
  symbol = seen_in_body (seen_in_call ms) ps b (starting false (Some (earlier ∷ [])));
  unreached = is_way old.unreached new.unreached (starting false None) (λ z. seen_in_body (seen_in_call ms) ps b z) u g.0;
  reached = is_way old.reached new.reached (starting false (Some (earlier ∷ []))) (λ z. seen_in_body (seen_in_call ms) ps b z) r g.1;
  after_any = λ os. body_any (seen_in_call ms) (calls_commute ms) ps b (Some os);
  after_none = body_any (seen_in_call ms) (calls_commute ms) ps b None;
}

-- ---- each kind of statement

pub standing : (S : CallSeen) (ps : List Procedure) (ts : List Tree) (s : Stmt) (at : Span) (st : Statement) (old new : Ways) → stmt_at ts s ≡ then (span_of at) st → Goes old new (one S ps at.first st) → GoesStmt S ps ts s old new
standing S ps ts s at st old new e g = record {
  these = one S ps at.first st;
  ahead = λ rest z. ap (λ (f : Before). seen_in_body S ps (f rest) z) e;
  goes = g;
}

pub label_goes : (S : CallSeen) (ps : List Procedure) (ts : List Tree) (x : Name) (m : Mark) (old new : Ways) → Goes old new (λ z. record { seen = []; end = at_label }) → GoesStmt S ps ts (Label x m) old new
label_goes S ps ts x m old new g = record {
  these = λ z. record { seen = []; end = at_label };
  ahead = λ rest z. ap (λ (f : Before). seen_in_body S ps (f rest) z) (label_at ts x m);
  goes = g;
}

pub simple_goes : (S : CallSeen) (ps : List Procedure) (ts : List Tree) (at : Span) (x : declared_simple.Simple) (old new : Ways) → Goes old new (one S ps at.first (simple_at ts x)) → GoesStmt S ps ts (Simple at x) old new
simple_goes S ps ts at x old new g = standing S ps ts (Simple at x) at (simple_at ts x) old new (simple_in_list_at ts at x) g

pub if_goes : (S : CallSeen) (ps : List Procedure) (ts : List Tree) (p : Place) (e : ℕ) (a b : List Stmt) (old mid two three new : Ways) (start last : Paths)
    → Goes old mid (stepping (uses (at ts e)) [] false) → start.unreached ≡ mid.unreached.path → start.reached ≡ mid.reached.path
    → two.unreached.seen.items ≡ mid.unreached.seen.items → two.reached.seen.items ≡ mid.reached.seen.items
    → Branching two three start no_paths last (together (λ q. seen_in_body S ps (statements_at ts a) (unlabelled q)) (λ q. seen_in_body S ps (statements_at ts b) (unlabelled q)))
    → Ends three new last → Goes old new (one S ps p (branch (at ts e) (statements_at ts a) (statements_at ts b)))
if_goes S ps ts p e a b old mid two three new start last w l r s t f m =
    branches_goes (uses (at ts e)) (together (λ q. seen_in_body S ps (statements_at ts a) (unlabelled q)) (λ q. seen_in_body S ps (statements_at ts b) (unlabelled q))) old mid two three new start last w l r s t f m

-- branches don't look at the label before them
some_inside : (S : CallSeen) (ps : List Procedure) (p : Place) (bs : Branches) (z : At) → in_some S ps bs z.trail ≡ one S ps p (either bs) z
some_inside S ps p bs z = λ i. record { seen = seen_some bs i; end = unlabelled (end_some bs i) }
  where
    seen_some : (bs : Branches) → seen_in_some S ps bs (unlabelled z.trail) ≡ seen_in_some S ps bs z
    seen_some no_branches = refl
    seen_some (or b bs) = ap (λ (ss : List Seen). seen_in S ps b (unlabelled z.trail) ++ ss) (seen_some bs)

    end_some : (bs : Branches) → end_of_some S bs (unlabelled z.trail) ≡ end_of_some S bs z
    end_some no_branches = refl
    end_some (or b bs) = ap (λ (q : Trail). joined (end_of S b (unlabelled z.trail)).trail q) (end_some bs)

pub either_goes : (S : CallSeen) (ps : List Procedure) (ts : List Tree) (p : Place) (bs : List (Vec Stmt Global)) (old mid two three new : Ways) (start last : Paths)
    → Goes old mid (stepping [] [] false) → start.unreached ≡ mid.unreached.path → start.reached ≡ mid.reached.path
    → two.unreached.seen.items ≡ mid.unreached.seen.items → two.reached.seen.items ≡ mid.reached.seen.items
    → Branching two three start no_paths last (in_some S ps (branches_at ts bs)) → Ends three new last → Goes old new (one S ps p (either (branches_at ts bs)))
either_goes S ps ts p bs old mid two three new start last w l r s t f m =
    goes_as old new (λ z. record { seen = (in_some S ps (branches_at ts bs) z.trail).seen; end = unlabelled (in_some S ps (branches_at ts bs) z.trail).end.trail }) (one S ps p (either (branches_at ts bs)))
    (λ z. some_inside S ps p (branches_at ts bs) z)
    (branches_goes [] (in_some S ps (branches_at ts bs)) old mid two three new start last w l r s t f m)

-- ---- lists

pub body_more : (S : CallSeen) (ps : List Procedure) (ts : List Tree) (a b c : Ways) (ss : List Stmt) (i : ℕ) (s : Stmt) → s ≡ get_or ss i s → i < length ss → GoesStmt S ps ts s a b
    → Goes b c (λ z. seen_in_body S ps (statements_at ts (drop (i + 1) ss)) z) → Goes a c (λ z. seen_in_body S ps (statements_at ts (drop i ss)) z)
body_more S ps ts a b c ss i s is less g h =
    goes_as a c (after g.these (λ y. seen_in_body S ps (statements_at ts (drop (i + 1) ss)) y)) (λ z. seen_in_body S ps (statements_at ts (drop i ss)) z)
    (λ z. sym (g.ahead (statements_at ts (drop (i + 1) ss)) z) ∙ ap (λ (rs : List Stmt). seen_in_body S ps (statements_at ts rs) z) (ap (λ (y : Stmt). y ∷ drop (i + 1) ss) is ∙ sym (drop_more ss i s less)))
    (goes_then a b c g.these (λ z. seen_in_body S ps (statements_at ts (drop (i + 1) ss)) z) g.goes h)

pub body_done : (S : CallSeen) (ps : List Procedure) (ts : List Tree) (a : Ways) (ss : List Stmt) (i : ℕ) → length ss ≤ i → Goes a a (λ z. seen_in_body S ps (statements_at ts (drop i ss)) z)
body_done S ps ts a ss i less = subst (λ (rs : List Stmt). Goes a a (λ z. seen_in_body S ps (statements_at ts rs) z)) (sym (drop_all i ss less)) (goes_none a)
