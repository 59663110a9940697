-- What is seen, one after another, and with arguments put in.
use Rattle.std.proofs.Common.{◌≡◌, ℕ, ◌+◌, ◌<◌, ◌≤◌, Bool, true, false, ◌||◌, ◌&&◌, List, [], ◌∷◌, ◌++◌, length, take, get_or, Option, Some, None, refl, sym, ap, ◌∙◌, subst, cond, map, append-nil, append_assoc}
use Rattle.std.specs.List.{list_any, flat_map}
use Rattle.std.proofs.lemmas.List.{take_more, take_all}
use Rattle.std.proofs.lemmas.List.Folds.{list_any-append}
use Rattle.std.proofs.lemmas.Grind.{flat_map-append}
use Rattle.tla_tree.specs.Tree.{Word, Trees, no_trees}
use Rattle.pcal_tree.specs.Algorithm.{Name}
use Rattle.pcal_tree.specs.Paths.{again}
use Rattle.pcal_tree.specs.laws.MacroSpots.{Use, value, left, other, Origin, earlier, assigned, Trail, Seen, on_trail, Called, joined, Put, put_origin, put_trail, put_use, put_seen, put_called, before_on}
use Rattle.pcal_tree.proofs.SetLaws.{Same, any_flat, any_map, any_same, any_none}
use Rattle.pcal_tree.proofs.SpotCalls.{LikeTrail, Like, met, passes, SeenLike, like_then}
use Rattle.pcal_tree.proofs.SpotGrafts.{putting}
use Rattle.pcal_tree.proofs.SpotMacros.{any_turned}
use Rattle.read_rules.specs.declared.assigned.Assigned.{Assigned}
use Rattle.read_rules.specs.declared.walk.Group.{Group}
use Rattle.read_rules.specs.declared.walk.Walk.{Walk}
use Rattle.read_rules.specs.declared.walk.Ways.{Ways}
use Rattle.read_rules.specs.Joins.{Joins}
use Rattle.read_rules.specs.PlainPuts.{plain, way}
use Rattle.read_rules.specs.SeenIn.{group_seen, seen_of, at_of, Gains, Sees, IsWay, Walks, trail_stepped, stepping, IsLoop, rounds_of, looping}
use Rattle.read_rules.specs.Sets.{origins, trail_of}
use Rattle.read_rules.specs.UsesIn.{uses_of}
use Rattle.read_rules.proofs.PathLaws.{like_itself, like_joined}
use Rattle.read_rules.proofs.PlainPuts.{seen_put, uses_kept}
use Rattle.read_rules.proofs.SetLaws.{origins_any}

-- ---- what no test tells apart

met_like : (K : Origin → Use → Bool) (q r : Trail) → LikeTrail q r → (u : Use) → met K q u ≡ met K r u
met_like K None None l u = refl
met_like K (Some xs) (Some ys) l u = l (λ o. K o u)
met_like K None (Some ys) l u = absurd l
met_like K (Some xs) None l u = absurd l

pub on_like : (q r : Trail) → LikeTrail q r → (us : List Use) → SeenLike (on_trail q us) (on_trail r us)
on_like q r l [] K = refl
on_like q r l (u ∷ us) K = λ i. met_like K q r l u i || on_like q r l us K i

pub seen_append : (xs ys us vs : List Seen) → SeenLike xs us → SeenLike ys vs → SeenLike (xs ++ ys) (us ++ vs)
seen_append xs ys us vs e f K = list_any-append (passes K) xs ys ∙ (λ i. e K i || f K i) ∙ sym (list_any-append (passes K) us vs)

pub seen_as : (xs ys : List Seen) → xs ≡ ys → SeenLike xs ys
seen_as xs ys e K = ap (list_any (passes K)) e

none_seen : (us : List Use) → SeenLike (on_trail None us) []
none_seen us K = any_map (passes K) (λ u. record { use_of = u; trail = None }) us ∙ any_none (λ u. false) (λ u. refl) us

-- ---- with other things put in

put_origin_same : (ps : List Name) (ts : Trees) (os us : List Origin) → Same os us → (o : Origin) → Same (put_origin (putting ps ts os) o) (put_origin (putting ps ts us) o)
put_origin_same ps ts os us e earlier = e
put_origin_same ps ts os us e (assigned x) = λ f. refl

pub put_trail_like : (ps : List Name) (ts : Trees) (os us : List Origin) → Same os us → (q r : Trail) → LikeTrail q r
    → LikeTrail (put_trail (putting ps ts os) q) (put_trail (putting ps ts us) r)
put_trail_like ps ts os us e None None l = tt
put_trail_like ps ts os us e (Some xs) (Some ys) l = λ f.
    let h = put_origin (putting ps ts os) in
    let k = put_origin (putting ps ts us) in
    any_flat f h xs ∙ any_same (λ o. list_any f (h o)) (λ o. list_any f (k o)) (λ o. put_origin_same ps ts os us e o f) xs
    ∙ l (λ o. list_any f (k o)) ∙ sym (any_flat f k ys)
put_trail_like ps ts os us e None (Some ys) l = absurd l
put_trail_like ps ts os us e (Some xs) None l = absurd l

abbrev pub put_test : Put → (Origin → Use → Bool) → Origin → Use → Bool
put_test P K o u = list_any (λ v. list_any (λ r. K r v) (put_origin P o)) (put_use P u)

pub put_passes : (P : Put) (K : Origin → Use → Bool) (q : Trail) (u : Use) → list_any (passes K) (on_trail (put_trail P q) (put_use P u)) ≡ met (put_test P K) q u
put_passes P K None u = any_map (passes K) (λ v. record { use_of = v; trail = None }) (put_use P u) ∙ any_none (λ v. false) (λ v. refl) (put_use P u)
put_passes P K (Some os) u =
    any_map (passes K) (λ v. record { use_of = v; trail = Some (flat_map (put_origin P) os) }) (put_use P u)
    ∙ any_same (λ v. list_any (λ r. K r v) (flat_map (put_origin P) os)) (λ v. list_any (λ o. list_any (λ r. K r v) (put_origin P o)) os) (λ v. any_flat (λ r. K r v) (put_origin P) os) (put_use P u)
    ∙ any_turned (λ v o. list_any (λ r. K r v) (put_origin P o)) (put_use P u) os

met_same : (H K : Origin → Use → Bool) → ((o : Origin) (u : Use) → H o u ≡ K o u) → (q : Trail) (u : Use) → met H q u ≡ met K q u
met_same H K e None u = refl
met_same H K e (Some os) u = any_same (λ o. H o u) (λ o. K o u) (λ o. e o u) os

use_same : (ps : List Name) (ts : Trees) (os us : List Origin) (u : Use) → put_use (putting ps ts os) u ≡ put_use (putting ps ts us) u
use_same ps ts os us (value n) = refl
use_same ps ts os us (left n) = refl
use_same ps ts os us (other n) = refl

uses_same : (ps : List Name) (ts : Trees) (os us : List Origin) (vs : List Use) → flat_map (put_use (putting ps ts os)) vs ≡ flat_map (put_use (putting ps ts us)) vs
uses_same ps ts os us [] = refl
uses_same ps ts os us (v ∷ vs) = λ i. use_same ps ts os us v i ++ uses_same ps ts os us vs i

pub put_seen_like : (ps : List Name) (ts : Trees) (os us : List Origin) → Same os us → (xs ys : List Seen) → SeenLike xs ys
    → SeenLike (flat_map (put_seen (putting ps ts os)) xs) (flat_map (put_seen (putting ps ts us)) ys)
put_seen_like ps ts os us e xs ys l K =
    any_flat (passes K) (put_seen P) xs
    ∙ any_same (λ s. list_any (passes K) (put_seen P s)) (passes (put_test Q K))
    (λ s. put_passes P K s.trail s.use_of ∙ met_same (put_test P K) (put_test Q K) turned s.trail s.use_of) xs
    ∙ l (put_test Q K)
    ∙ sym (any_same (λ s. list_any (passes K) (put_seen Q s)) (passes (put_test Q K)) (λ s. put_passes Q K s.trail s.use_of) ys)
    ∙ sym (any_flat (passes K) (put_seen Q) ys)
  where
    P : Put
    P = putting ps ts os

    Q : Put
    Q = putting ps ts us

    turned : (o : Origin) (u : Use) → put_test P K o u ≡ put_test Q K o u
    turned o u =
        (λ i. list_any (λ v. list_any (λ r. K r v) (put_origin P o)) (use_same ps ts os us u i))
        ∙ any_same (λ v. list_any (λ r. K r v) (put_origin P o)) (λ v. list_any (λ r. K r v) (put_origin Q o))
        (λ v. put_origin_same ps ts os us e o (λ r. K r v)) (put_use Q u)

-- ---- one after another

pub sees_nowhere : (w : Walk) (us : List Use) → w.path ≡ None → Sees w w (on_trail (trail_of w.path) us)
sees_nowhere w us e = record {
  labelled = refl;
  path = refl;
  seen = λ K.
      ap (list_any (passes K)) (sym (append-nil (seen_of w.seen.items)))
      ∙ seen_append (seen_of w.seen.items) [] (seen_of w.seen.items) (on_trail (trail_of w.path) us) (λ K. refl)
      (λ K. sym ((λ i. list_any (passes K) (on_trail (trail_of (e i)) us)) ∙ none_seen us K)) K;
}

pub sees_as : (a b : Walk) (ss rs : List Seen) → ss ≡ rs → Sees a b ss → Sees a b rs
sees_as a b ss rs e h = subst (λ (us : List Seen). Sees a b us) e h

-- one more group
gains_one : (old new : List Group) (g : Group) (ss : List Seen) → new ≡ old ++ g ∷ [] → SeenLike (group_seen g) ss → Gains old new ss
gains_one old new g ss s e K =
    ap (list_any (passes K)) (ap seen_of s ∙ flat_map-append group_seen old (g ∷ []) ∙ ap (λ (rs : List Seen). seen_of old ++ rs) (append-nil (group_seen g)))
    ∙ seen_append (seen_of old) (group_seen g) (seen_of old) ss (λ K. refl) e K

pub sees_group : (old new : Walk) (g : Group) (ss : List Seen) → new.labelled ≡ old.labelled → new.path ≡ old.path → new.seen.items ≡ old.seen.items ++ g ∷ [] → SeenLike (group_seen g) ss → Sees old new ss
sees_group old new g ss l p s e = record { labelled = l; path = p; seen = gains_one old.seen.items new.seen.items g ss s e }

pub gains_none : (gs : List Group) → Gains gs gs []
gains_none gs K = ap (list_any (passes K)) (sym (append-nil (seen_of gs)))

pub gains_more : (P : Put) (old now new gs : List Group) (i : ℕ) (g h : Group) → g ≡ get_or gs i g → i < length gs → new ≡ now ++ h ∷ []
    → Gains old now (flat_map (put_seen P) (seen_of (take i gs))) → SeenLike (group_seen h) (flat_map (put_seen P) (group_seen g)) → Gains old new (flat_map (put_seen P) (seen_of (take (i + 1) gs)))
gains_more P old now new gs i g h e l s a k K =
    let us = flat_map (put_seen P) (seen_of (take i gs)) in
    let vs = flat_map (put_seen P) (group_seen g) in
    gains_one now new h vs s k K ∙ seen_append (seen_of now) vs (seen_of old ++ us) vs a (λ K. refl) K ∙ ap (list_any (passes K)) (append_assoc (seen_of old) us vs)
    ∙ ap (λ (rs : List Seen). list_any (passes K) (seen_of old ++ rs))
    (sym (ap (λ (hs : List Group). flat_map (put_seen P) (seen_of hs)) (take_more gs i g l ∙ ap (λ (z : Group). take i gs ++ z ∷ []) (sym e))
    ∙ ap (flat_map (put_seen P)) (flat_map-append group_seen (take i gs) (g ∷ []) ∙ ap (λ (ss : List Seen). seen_of (take i gs) ++ ss) (append-nil (group_seen g)))
    ∙ flat_map-append (put_seen P) (seen_of (take i gs)) (group_seen g)))

pub gains_all : (P : Put) (old new gs : List Group) (i : ℕ) → length gs ≤ i → Gains old new (flat_map (put_seen P) (seen_of (take i gs))) → Gains old new (flat_map (put_seen P) (seen_of gs))
gains_all P old new gs i l h = subst (λ (hs : List Group). Gains old new (flat_map (put_seen P) (seen_of hs))) (take_all i gs l) h

pub put_like : (ps : List Name) (ts : Trees) (os : List Origin) (g h : Group) → uses_of h.uses.items ≡ flat_map (put_use (putting ps ts [])) (uses_of g.uses.items)
    → Same (origins h.after) (flat_map (put_origin (putting ps ts os)) (origins g.after)) → SeenLike (group_seen h) (flat_map (put_seen (putting ps ts os)) (group_seen g))
put_like ps ts os g h u e K =
    let us = uses_of g.uses.items in
    let P = putting ps ts os in
    let q : Trail = Some (origins g.after) in
    on_like (Some (origins h.after)) (put_trail P q) e (uses_of h.uses.items) K
    ∙ ap (λ (vs : List Use). list_any (passes K) (on_trail (put_trail P q) vs)) (u ∙ uses_same ps ts [] os us)
    ∙ ap (list_any (passes K)) (sym (seen_put P q us))

pub here_like : (a : Assigned) (h : Group) (us : List Use) → h.after ≡ a → uses_of h.uses.items ≡ flat_map (put_use (putting [] no_trees [])) us → SeenLike (group_seen h) (on_trail (Some (origins a)) us)
here_like a h us e u K = λ i. list_any (passes K) (on_trail (Some (origins (e i))) ((u ∙ uses_kept [] us) i))

-- ---- a statement with none in it

trails_step : (xs : List Word) (b : Bool) (q r : Trail) → LikeTrail q r → LikeTrail (trail_stepped xs b q) (trail_stepped xs b r)
trails_step xs true q r l = tt
trails_step xs false None None l = tt
trails_step xs false (Some os) (Some us) l = λ f.
    list_any-append f (map assigned xs) os ∙ ap (λ (t : Bool). list_any f (map assigned xs) || t) (l f) ∙ sym (list_any-append f (map assigned xs) us)
trails_step xs false None (Some us) l = absurd l
trails_step xs false (Some os) None l = absurd l

pub path_stops : (xs : List Word) (b : Bool) (q : Trail) → b ≡ true → LikeTrail (trail_of None) (trail_stepped xs b q)
path_stops xs b q e = subst (λ (c : Bool). LikeTrail None (trail_stepped xs c q)) (sym e) tt

pub path_nowhere : (xs : List Word) (b : Bool) → LikeTrail (trail_of None) (trail_stepped xs b None)
path_nowhere xs true = tt
path_nowhere xs false = tt

pub path_more : (xs : List Word) (b : Bool) (a c : Assigned) → b ≡ false → Joins a.names c.names xs → c.earlier ≡ a.earlier → LikeTrail (trail_of (Some c)) (trail_stepped xs b (trail_of (Some a)))
path_more xs b a c e j g = subst (λ (d : Bool). LikeTrail (trail_of (Some c)) (trail_stepped xs d (trail_of (Some a)))) (sym e) (λ f.
    origins_any f c ∙ (λ i. (g i && f earlier) || j (λ x. f (assigned x)) i)
    ∙ by (a.earlier && f earlier) (list_any (λ x. f (assigned x)) a.names) (list_any (λ x. f (assigned x)) xs)
    ∙ sym (list_any-append f (map assigned xs) (origins a) ∙ (λ i. any_map f assigned xs i || origins_any f a i)))
  where
    by : (p q r : Bool) → (p || (q || r)) ≡ (r || (p || q))
    by true q true = refl
    by true q false = refl
    by false true true = refl
    by false true false = refl
    by false false true = refl
    by false false false = refl

pub pass_walks : (old mid new : Walk) (us : List Use) (xs : List Word) (b : Bool) → Sees old mid (on_trail (trail_of old.path) us) → new.seen.items ≡ mid.seen.items → new.labelled ≡ false
    → LikeTrail (trail_of new.path) (trail_stepped xs b (trail_of mid.path)) → Walks old new (stepping us xs b)
pass_walks old mid new us xs b h s l t z k = (
  (
    l,
    like_then (trail_of new.path) (trail_stepped xs b (trail_of old.path)) (trail_stepped xs b z.trail)
        (subst (λ (p : Option Assigned). LikeTrail (trail_of new.path) (trail_stepped xs b (trail_of p))) h.path t) (trails_step xs b (trail_of old.path) z.trail k.1),
  ),
  λ K.
      ap (λ (gs : List Group). list_any (passes K) (seen_of gs)) s ∙ h.seen K
      ∙ seen_append (seen_of old.seen.items) (on_trail (trail_of old.path) us) (seen_of old.seen.items) (on_trail z.trail us) (λ K. refl) (on_like (trail_of old.path) z.trail k.1 us) K,
)

-- ---- a body

before_same : (q r : Trail) → LikeTrail q r → Same (before_on q) (before_on r)
before_same None None l = λ f. refl
before_same (Some xs) (Some ys) l = l
before_same None (Some ys) l = absurd l
before_same (Some xs) None l = absurd l

pub take_walks : (ps : List Name) (ts : Trees) (old mid new way : Walk) (c : Called)
    → SeenLike (seen_of mid.seen.items) (seen_of old.seen.items ++ flat_map (put_seen (putting ps ts (before_on (trail_of old.path)))) (seen_of way.seen.items))
    → new.seen.items ≡ mid.seen.items → new.labelled ≡ way.labelled → LikeTrail (trail_of new.path) (put_trail (putting ps ts (before_on (trail_of old.path))) (trail_of way.path))
    → IsWay way c → Walks old new (λ z. put_called (putting ps ts (before_on z.trail)) c)
take_walks ps ts old mid new way c h s l t w z k =
    let os = before_on (trail_of old.path) in
    let us = before_on z.trail in
    let e = before_same (trail_of old.path) z.trail k.1 in (
      (
        l ∙ w.end.0,
        like_then (trail_of new.path) (put_trail (putting ps ts os) (trail_of way.path)) (put_trail (putting ps ts us) c.end.trail) t (put_trail_like ps ts os us e (trail_of way.path) c.end.trail w.end.1),
      ),
      λ K.
          ap (λ (gs : List Group). list_any (passes K) (seen_of gs)) s ∙ h K
          ∙ seen_append (seen_of old.seen.items) (flat_map (put_seen (putting ps ts os)) (seen_of way.seen.items)) (seen_of old.seen.items) (flat_map (put_seen (putting ps ts us)) c.seen) (λ K. refl)
          (put_seen_like ps ts os us e (seen_of way.seen.items) c.seen w.seen) K,
    )

-- of the way that is taken
pub ways_walk : (f : Trail → Called → Called) (old new : Walk) (u r : Called) (a : Assigned) → old.path ≡ Some a → Walks old new (λ z. f z.trail r) → Walks old new (λ z. f z.trail (way u r z.trail))
ways_walk f old new u r a e h z k = by z.trail refl (subst (λ (p : Option Assigned). LikeTrail (trail_of p) z.trail) e k.1) (h z k)
  where
    by : (q : Trail) → z.trail ≡ q → LikeTrail (Some (origins a)) z.trail
        → Like (at_of new) (f z.trail r).end × SeenLike (seen_of new.seen.items) (seen_of old.seen.items ++ (f z.trail r).seen)
        → Like (at_of new) (f z.trail (way u r z.trail)).end × SeenLike (seen_of new.seen.items) (seen_of old.seen.items ++ (f z.trail (way u r z.trail)).seen)
    by (Some os) g l m = subst (λ (c : Called). Like (at_of new) (f z.trail c).end × SeenLike (seen_of new.seen.items) (seen_of old.seen.items ++ (f z.trail c).seen)) (ap (way u r) (sym g)) m
    by None g l m = absurd (subst (λ (q : Trail). LikeTrail (Some (origins a)) q) g l)

pub ways_stay : (f : Trail → Called → Called) (old new : Walk) (u r : Called) → old.path ≡ None → Walks old new (λ z. f z.trail u) → Walks old new (λ z. f z.trail (way u r z.trail))
ways_stay f old new u r e h z k = by z.trail refl (subst (λ (p : Option Assigned). LikeTrail (trail_of p) z.trail) e k.1) (h z k)
  where
    by : (q : Trail) → z.trail ≡ q → LikeTrail None z.trail
        → Like (at_of new) (f z.trail u).end × SeenLike (seen_of new.seen.items) (seen_of old.seen.items ++ (f z.trail u).seen)
        → Like (at_of new) (f z.trail (way u r z.trail)).end × SeenLike (seen_of new.seen.items) (seen_of old.seen.items ++ (f z.trail (way u r z.trail)).seen)
    by None g l m = subst (λ (c : Called). Like (at_of new) (f z.trail c).end × SeenLike (seen_of new.seen.items) (seen_of old.seen.items ++ (f z.trail c).seen)) (ap (way u r) (sym g)) m
    by (Some os) g l m = absurd (subst (λ (q : Trail). LikeTrail None q) g l)

-- ---- loops

pub round_like : (inner : Ways) (g : Trail → Called) → IsLoop inner g → (os : List Origin) (t : Trail) → LikeTrail t (put_trail (plain os) (trail_of inner.reached.path)) → LikeTrail t (g (Some os)).end.trail
round_like inner g h os t l =
    subst (λ (c : Called). LikeTrail t c.end.trail) (h.after_any os)
    (like_then t (put_trail (plain os) (trail_of inner.reached.path)) (put_trail (plain os) h.symbol.end.trail) l
    (put_trail_like [] no_trees os os (λ f. refl) (trail_of inner.reached.path) h.symbol.end.trail h.reached.end.1))

loop_like : (inner : Ways) (g : Trail → Called) → IsLoop inner g → (q r : Trail) → LikeTrail q r → LikeTrail (g q).end.trail (g r).end.trail
loop_like inner g h None None l = like_itself (g None).end.trail
loop_like inner g h (Some xs) (Some ys) l =
    subst (λ (c : Called). LikeTrail c.end.trail (g (Some ys)).end.trail) (h.after_any xs)
    (subst (λ (c : Called). LikeTrail (put_trail (plain xs) h.symbol.end.trail) c.end.trail) (h.after_any ys)
    (put_trail_like [] no_trees xs ys l h.symbol.end.trail h.symbol.end.trail (like_itself h.symbol.end.trail)))
loop_like inner g h None (Some ys) l = absurd l
loop_like inner g h (Some xs) None l = absurd l

again_like : (inner : Ways) (g : Trail → Called) → IsLoop inner g → (q r : Trail) → LikeTrail q r → LikeTrail (again (λ o. (g o).end.trail) q) (again (λ o. (g o).end.trail) r)
again_like inner g h None None l = tt
again_like inner g h (Some xs) (Some ys) l = loop_like inner g h (Some xs) (Some ys) l
again_like inner g h None (Some ys) l = absurd l
again_like inner g h (Some xs) None l = absurd l

rounds_like : (inner : Ways) (g : Trail → Called) → IsLoop inner g → (q r : Trail) → LikeTrail q r → LikeTrail (rounds_of g q) (rounds_of g r)
rounds_like inner g h None None l = like_itself (rounds_of g None)
rounds_like inner g h (Some xs) (Some ys) l = like_joined (g (Some xs)).end.trail (g (Some ys)).end.trail (Some xs) (Some ys) (loop_like inner g h (Some xs) (Some ys) l) l
rounds_like inner g h None (Some ys) l = absurd l
rounds_like inner g h (Some xs) None l = absurd l

pub rounds_nowhere : (inner : Ways) (g : Trail → Called) → IsLoop inner g → (t : Trail) → LikeTrail t (again (λ o. (g o).end.trail) (trail_of inner.unreached.path)) → LikeTrail t (rounds_of g None)
rounds_nowhere inner g h t l =
    like_then t (again (λ o. (g o).end.trail) (trail_of inner.unreached.path)) (rounds_of g None) l (again_like inner g h (trail_of inner.unreached.path) (g None).end.trail h.unreached.end.1)

pub rounds_some : (g : Trail → Called) (os : List Origin) (t o : Trail) → LikeTrail t (joined o (Some os)) → LikeTrail o (g (Some os)).end.trail → LikeTrail t (rounds_of g (Some os))
rounds_some g os t o l k = like_then t (joined o (Some os)) (rounds_of g (Some os)) l (like_joined o (g (Some os)).end.trail (Some os) (Some os) k (λ f. refl))

cond_like : (b c : Bool) → b ≡ c → (q r o p : Trail) → LikeTrail q r → LikeTrail o p → LikeTrail (cond b q o) (cond c r p)
cond_like true true e q r o p l k = l
cond_like false false e q r o p l k = k
cond_like true false e q r o p l k = cc
cond_like false true e q r o p l k = cc

taken_loop : (inner : Ways) (g : Trail → Called) → (h : IsLoop inner g) → (r : Trail) → put_called (plain (before_on r)) (way (g None) h.symbol r) ≡ g r
taken_loop inner g h None = h.after_none
taken_loop inner g h (Some os) = h.after_any os

pub loop_walks : (inner : Ways) (g : Trail → Called) → (h : IsLoop inner g) → (us : List Use) (old one two three new : Walk) → one.seen.items ≡ old.seen.items
    → LikeTrail (trail_of one.path) (cond old.labelled (trail_of old.path) (rounds_of g (trail_of old.path))) → Sees one two (on_trail (trail_of one.path) us)
    → new.path ≡ two.path → Walks two three (λ z. put_called (plain (before_on z.trail)) (way (g None) h.symbol z.trail))
    → new.seen.items ≡ three.seen.items → new.labelled ≡ false → Walks old new (looping us g)
loop_walks inner g h us old one two three new s l k c m t n z a =
    let r = cond z.labelled z.trail (rounds_of g z.trail) in
    let d = cond_like old.labelled z.labelled a.0 (trail_of old.path) z.trail (rounds_of g (trail_of old.path)) (rounds_of g z.trail) a.1 (rounds_like inner g h (trail_of old.path) z.trail a.1) in
    let p = like_then (trail_of one.path) (cond old.labelled (trail_of old.path) (rounds_of g (trail_of old.path))) r l d in
    let w = subst (λ (q : Option Assigned). LikeTrail (trail_of q) r) (sym k.path) p in
    let v = (m (record { labelled = two.labelled; trail = r }) (refl, w)).1 in (
      (n, subst (λ (q : Option Assigned). LikeTrail (trail_of q) r) (sym c) w),
      λ K.
          ap (λ (gs : List Group). list_any (passes K) (seen_of gs)) t ∙ v K
          ∙ ap (λ (x : Called). list_any (passes K) (seen_of two.seen.items ++ x.seen)) (taken_loop inner g h r)
          ∙ seen_append (seen_of two.seen.items) (g r).seen (seen_of old.seen.items ++ on_trail r us) (g r).seen
          (λ K. k.seen K ∙ ap (λ (gs : List Group). list_any (passes K) (seen_of gs ++ on_trail (trail_of one.path) us)) s
          ∙ seen_append (seen_of old.seen.items) (on_trail (trail_of one.path) us) (seen_of old.seen.items) (on_trail r us) (λ K. refl) (on_like (trail_of one.path) r p us) K) (λ K. refl) K
          ∙ ap (list_any (passes K)) (append_assoc (seen_of old.seen.items) (on_trail r us) (g r).seen),
    )
