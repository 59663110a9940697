-- The visits that are still to be made: how they are kept in order, and why there is an end to them.
use Rattle.std.proofs.Common.{◌≡◌, ◌⊎◌, inl, inr, ℕ, ◌+◌, ◌<◌, Bool, true, false, cond, List, [], ◌∷◌, ◌++◌, length, get_or, zero, suc, refl, sym, ap, ◌∙◌, subst, arith, Some, None, Option, nat_eq}
use Rattle.std.specs.Map.{lookup}
use Rattle.std.proofs.lemmas.Bool.Decides.{Decides-eqb}
use Rattle.indexmap.specs.IndexMap.{insert_entry}
use Rattle.tla_pool.specs.declared.graft.Visit.{Visit}
use Rattle.tla_pool.specs.declared.graft.Visit.TheVariants as visit
use Rattle.tla_tree.specs.Tree.{Tree, node, Graft, graft, size, sizes}
use Rattle.tla_tree.specs.Shapes.{Shaped}
use Rattle.tla_tree.specs.TreeOf.{trees_from}
use Rattle.tla_tree.specs.Pool.{Entry, at, trees_at, tree_in, AllBelow, Keeps}
use Rattle.tla_tree.proofs.PoolNumbers.{map_at-kept, AllBelow-more, Keeps-then}
use Rattle.tla_pool.specs.Done.{AreMade, IsDone, AreDone}
use Rattle.tla_pool.specs.Visits.{number_of, IsNode, Fits, AllFit, WillBe, AllWillBe, InOrder, to_parts, Enters, work, all_work}
use Rattle.tla_pool.proofs.PoolGrown.{Keeps-same}
use Rattle.tla_pool.proofs.DoneLemmas.{AreMade-kept, AreMade-keep, AreMade-found}
use Rattle.std.proofs.Math.Logic.{⊎_map}

-- ---- what is done
abbrev IsFound : Option ℕ → Type 0
IsFound o = (made : ℕ) × (o ≡ Some made)

either_found : (b : Bool) (x y : ℕ) (l m : Option ℕ) → IsFound (cond b (Some x) l) → (IsFound l → IsFound m) → IsFound (cond b (Some y) m)
either_found true x y l m h f = (y, refl)
either_found false x y l m h f = f h

IsDone-new : (ps : List (ℕ × ℕ)) (e made : ℕ) → IsDone (insert_entry nat_eq ps e made) e
IsDone-new [] e made = (made, ap (λ (b : Bool). cond b (Some made) None) ((Decides-eqb e e).1 refl))
IsDone-new (p ∷ ps) e made = by (nat_eq e p.0) refl (IsDone-new ps e made)
  where
    by : (b : Bool) → nat_eq e p.0 ≡ b → IsDone (insert_entry nat_eq ps e made) e → IsDone (cond b ((p.0, made) ∷ ps) (p ∷ insert_entry nat_eq ps e made)) e
    by true q more = (made, ap (λ (b : Bool). cond b (Some made) (lookup (nat_eq e) ps)) q)
    by false q more = (more.0, ap (λ (b : Bool). cond b (Some p.1) (lookup (nat_eq e) (insert_entry nat_eq ps e made))) q ∙ more.1)

IsDone-kept : (ps : List (ℕ × ℕ)) (e made i : ℕ) → IsDone ps i → IsDone (insert_entry nat_eq ps e made) i
IsDone-kept [] e made i h = absurd cc
IsDone-kept (p ∷ ps) e made i h = by (nat_eq e p.0) (IsDone-kept ps e made i)
  where
    by : (b : Bool) → (IsDone ps i → IsDone (insert_entry nat_eq ps e made) i) → IsDone (cond b ((p.0, made) ∷ ps) (p ∷ insert_entry nat_eq ps e made)) i
    by true more = either_found (nat_eq i p.0) p.1 made (lookup (nat_eq i) ps) (lookup (nat_eq i) ps) h (λ k. k)
    by false more = either_found (nat_eq i p.0) p.1 p.1 (lookup (nat_eq i) ps) (lookup (nat_eq i) (insert_entry nat_eq ps e made)) h more

pub AreDone-at : (ps : List (ℕ × ℕ)) (is : List ℕ) (k d : ℕ) → AreDone ps is → k < length is → IsDone ps (get_or is k d)
AreDone-at ps [] k d h l = absurd (omega (arith, l))
AreDone-at ps (i ∷ is) zero d h l = h.0
AreDone-at ps (i ∷ is) (suc k) d h l = AreDone-at ps is k d h.1 (omega (arith, l))

-- ---- nodes
parts_back : (ts us : List Tree) (i : ℕ) (n : Entry) → Keeps ts us → i < length ts → AllBelow i n.parts → tree_in us n ≡ tree_in ts n
parts_back ts us i n k l h = ap (λ (l : List Tree). node n.form n.place (trees_from l)) (map_at-kept ts us n.parts k (AllBelow-more i (length ts) n.parts (omega (arith, l)) h))

node_back : (ts us : List Tree) (i : ℕ) (n : Entry) → Keeps ts us → i < length ts → IsNode us i n → IsNode ts i n
node_back ts us i n k l h = (sym (k.same i l) ∙ h.0 ∙ parts_back ts us i n k l h.1, h.1, h.2)

-- ---- they fit
fits_append : (ts : List Tree) (vs ws : List Visit) → AllFit ts vs → AllFit ts ws → AllFit ts (vs ++ ws)
fits_append ts [] ws h k = k
fits_append ts (v ∷ vs) ws h k = (h.0, fits_append ts vs ws h.1 k)

fits_before : (ts : List Tree) (vs : List Visit) (v : Visit) → AllFit ts (vs ++ v ∷ []) → AllFit ts vs
fits_before ts [] v h = tt
fits_before ts (w ∷ vs) v h = (h.0, fits_before ts vs v h.1)

fits_last : (ts : List Tree) (vs : List Visit) (v : Visit) → AllFit ts (vs ++ v ∷ []) → Fits ts v
fits_last ts [] v h = h.0
fits_last ts (w ∷ vs) v h = fits_last ts vs v h.1

fits_parts : (ts : List Tree) (is : List ℕ) → AllBelow (length ts) is → AllFit ts (to_parts is)
fits_parts ts [] h = tt
fits_parts ts (i ∷ is) h = (h.0, fits_parts ts is h.1)

fits_enter : (ts : List Tree) (vs : List Visit) (i : ℕ) (n : Entry) → AllFit ts (vs ++ visit.Enter i ∷ []) → IsNode ts i n → AllFit ts (vs ++ visit.Leave i n ∷ to_parts n.parts)
fits_enter ts vs i n h k =
    let l = fits_last ts vs (visit.Enter i) h in
    fits_append ts vs (visit.Leave i n ∷ to_parts n.parts) (fits_before ts vs (visit.Enter i) h) ((l, k), fits_parts ts n.parts (AllBelow-more i (length ts) n.parts (omega (arith, l)) k.1))

-- ---- a visit is made

will_after : (d e : List (ℕ × ℕ)) (vs : List Visit) (v : Visit) (i : ℕ) → ((j : ℕ) → IsDone d j → IsDone e j) → IsDone e (number_of v) → WillBe d (vs ++ v ∷ []) i → WillBe e vs i
will_after d e [] v i m k h = after h
  where
    after : (number_of v ≡ i) ⊎ IsDone d i → IsDone e i
    after (inl q) = subst (IsDone e) q k
    after (inr q) = m i q
will_after d e (w ∷ vs) v i m k h = ⊎_map (λ q. q) (will_after d e vs v i m k) h

all_after : (d e : List (ℕ × ℕ)) (vs : List Visit) (v : Visit) (is : List ℕ) → ((j : ℕ) → IsDone d j → IsDone e j) → IsDone e (number_of v) → AllWillBe d (vs ++ v ∷ []) is → AllWillBe e vs is
all_after d e vs v [] m k h = tt
all_after d e vs v (i ∷ is) m k h = (will_after d e vs v i m k h.0, all_after d e vs v is m k h.1)

order_after : (d e : List (ℕ × ℕ)) (vs : List Visit) (v : Visit) → ((j : ℕ) → IsDone d j → IsDone e j) → IsDone e (number_of v) → InOrder d (vs ++ v ∷ []) → InOrder e vs
order_after d e [] v m k h = tt
order_after d e (visit.Enter i ∷ vs) v m k h = order_after d e vs v m k h
order_after d e (visit.Leave i n ∷ vs) v m k h = (all_after d e vs v n.parts m k h.0, order_after d e vs v m k h.1)

-- the parts of the next node are done
are_done : (d : List (ℕ × ℕ)) (is : List ℕ) → AllWillBe d [] is → AreDone d is
are_done d [] h = tt
are_done d (i ∷ is) h = (h.0, are_done d is h.1)

parts_done : (d : List (ℕ × ℕ)) (vs : List Visit) (i : ℕ) (n : Entry) → InOrder d (vs ++ visit.Leave i n ∷ []) → AreDone d n.parts
parts_done d [] i n h = are_done d n.parts h.0
parts_done d (visit.Enter j ∷ vs) i n h = parts_done d vs i n h
parts_done d (visit.Leave j m ∷ vs) i n h = parts_done d vs i n h.1

-- ---- a number is entered
will_parts : (d : List (ℕ × ℕ)) (i : ℕ) (is : List ℕ) → IsDone d i → WillBe d (to_parts is) i
will_parts d i [] h = h
will_parts d i (j ∷ is) h = inr (will_parts d i is h)

will_enter : (d : List (ℕ × ℕ)) (vs : List Visit) (i j : ℕ) (n : Entry) → WillBe d (vs ++ visit.Enter j ∷ []) i → WillBe d (vs ++ visit.Leave j n ∷ to_parts n.parts) i
will_enter d [] i j n h = ⊎_map (λ q. q) (will_parts d i n.parts) h
will_enter d (w ∷ vs) i j n h = ⊎_map (λ q. q) (will_enter d vs i j n) h

all_enter : (d : List (ℕ × ℕ)) (vs : List Visit) (is : List ℕ) (j : ℕ) (n : Entry) → AllWillBe d (vs ++ visit.Enter j ∷ []) is → AllWillBe d (vs ++ visit.Leave j n ∷ to_parts n.parts) is
all_enter d vs [] j n h = tt
all_enter d vs (i ∷ is) j n h = (will_enter d vs i j n h.0, all_enter d vs is j n h.1)

will_more : (d : List (ℕ × ℕ)) (v : Visit) (vs : List Visit) (is : List ℕ) → AllWillBe d vs is → AllWillBe d (v ∷ vs) is
will_more d v vs [] h = tt
will_more d v vs (i ∷ is) h = (inr h.0, will_more d v vs is h.1)

all_parts : (d : List (ℕ × ℕ)) (is : List ℕ) → AllWillBe d (to_parts is) is
all_parts d [] = tt
all_parts d (i ∷ is) = (inl refl, will_more d (visit.Enter i) (to_parts is) is (all_parts d is))

order_parts : (d : List (ℕ × ℕ)) (is : List ℕ) → InOrder d (to_parts is)
order_parts d [] = tt
order_parts d (i ∷ is) = order_parts d is

order_enter : (d : List (ℕ × ℕ)) (vs : List Visit) (j : ℕ) (n : Entry) → InOrder d (vs ++ visit.Enter j ∷ []) → InOrder d (vs ++ visit.Leave j n ∷ to_parts n.parts)
order_enter d [] j n h = (all_parts d n.parts, order_parts d n.parts)
order_enter d (visit.Enter i ∷ vs) j n h = order_enter d vs j n h
order_enter d (visit.Leave i m ∷ vs) j n h = (all_enter d vs m.parts j n h.0, order_enter d vs j n h.1)

-- ---- there is an end
work_append : (ts : List Tree) (vs ws : List Visit) → all_work ts (vs ++ ws) ≡ all_work ts vs + all_work ts ws
work_append ts [] ws = omega arith
work_append ts (v ∷ vs) ws = (let e = work_append ts vs ws in omega (arith, e))

work_parts : (ts : List Tree) (is : List ℕ) → all_work ts (to_parts is) ≡ sizes (trees_at ts is) + sizes (trees_at ts is)
work_parts ts [] = refl
work_parts ts (i ∷ is) = (let e = work_parts ts is in omega (arith, e))

some_work : (ts : List Tree) (v : Visit) → 0 < work ts v
some_work ts (visit.Enter i) = some (at ts i)
  where
    some : (t : Tree) → 0 < size t + size t
    some (node m p us) = omega arith
some_work ts (visit.Leave i n) = omega arith

pub less_after : (ts : List Tree) (vs : List Visit) (v : Visit) → all_work ts vs < all_work ts (vs ++ v ∷ [])
less_after ts vs v = (let e = work_append ts vs (v ∷ []) in let s = some_work ts v in omega (arith, e, s))

less_enter : (ts : List Tree) (vs : List Visit) (i : ℕ) (n : Entry) → IsNode ts i n → all_work ts (vs ++ visit.Leave i n ∷ to_parts n.parts) < all_work ts (vs ++ visit.Enter i ∷ [])
less_enter ts vs i n h =
    let before = work_append ts vs (visit.Enter i ∷ []) in
    let after = work_append ts vs (visit.Leave i n ∷ to_parts n.parts) in
    let parts = work_parts ts n.parts in
    let whole = ap size h.0 in
    omega (arith, before, after, parts, whole)

-- ---- what the loop over the visits keeps, from the trees ts on; e is done in the end
pub record Goes (g : Graft) (ts us : List Tree) (done : List (ℕ × ℕ)) (vs : List Visit) (e : ℕ) : Type 0 where
  pub kept : Keeps ts us
  pub made : AreMade g us done
  pub fit : AllFit ts vs
  pub order : InOrder done vs
  pub will : WillBe done vs e

pub goes_enter : (g : Graft) (ts us : List Tree) (d : List (ℕ × ℕ)) (vs ws : List Visit) (i e : ℕ) → Goes g ts us d (vs ++ visit.Enter i ∷ []) e → Enters us d i vs ws → Goes g ts us d ws e
goes_enter g ts us d vs ws i e h (inl k) = subst (λ (l : List Visit). Goes g ts us d l e) (sym k.1) (record {
  kept = h.kept;
  made = h.made;
  fit = fits_before ts vs (visit.Enter i) h.fit;
  order = order_after d d vs (visit.Enter i) (λ j q. q) k.0 h.order;
  will = will_after d d vs (visit.Enter i) e (λ j q. q) k.0 h.will;
})
goes_enter g ts us d vs ws i e h (inr (n, m, k)) = subst (λ (l : List Visit). Goes g ts us d l e) (sym k) (record {
  kept = h.kept;
  made = h.made;
  fit = fits_enter ts vs i n h.fit (node_back ts us i n h.kept (fits_last ts vs (visit.Enter i) h.fit) m);
  order = order_enter d vs i n h.order;
  will = will_enter d vs e i n h.will;
})

pub less_goes : (g : Graft) (ts us : List Tree) (d : List (ℕ × ℕ)) (vs ws : List Visit) (i e : ℕ) → Goes g ts us d (vs ++ visit.Enter i ∷ []) e → Enters us d i vs ws → all_work ts ws < all_work ts (vs ++ visit.Enter i ∷ [])
less_goes g ts us d vs ws i e h (inl k) = (let l = less_after ts vs (visit.Enter i) in omega (arith, l, ap (all_work ts) k.1))
less_goes g ts us d vs ws i e h (inr (n, m, k)) =
    let l = less_enter ts vs i n (node_back ts us i n h.kept (fits_last ts vs (visit.Enter i) h.fit) m) in
    omega (arith, l, ap (all_work ts) k)

pub within_goes : (g : Graft) (ts us : List Tree) (d : List (ℕ × ℕ)) (vs : List Visit) (i e : ℕ) → Goes g ts us d (vs ++ visit.Enter i ∷ []) e → i < length us
within_goes g ts us d vs i e h = (let l = fits_last ts vs (visit.Enter i) h.fit in let k = h.kept.longer in omega (arith, l, k))

-- a node whose parts are done
pub done_goes : (g : Graft) (ts us : List Tree) (d : List (ℕ × ℕ)) (vs : List Visit) (i : ℕ) (n : Entry) (e : ℕ) → Goes g ts us d (vs ++ visit.Leave i n ∷ []) e → AreDone d n.parts
done_goes g ts us d vs i n e h = parts_done d vs i n h.order

pub shaped_goes : (g : Graft) (ts us : List Tree) (d : List (ℕ × ℕ)) (vs : List Visit) (i : ℕ) (n : Entry) (e : ℕ) → Goes g ts us d (vs ++ visit.Leave i n ∷ []) e → Shaped n.form (length n.parts)
shaped_goes g ts us d vs i n e h = (fits_last ts vs (visit.Leave i n) h.fit).1.2

pub goes_leave : (g : Graft) (ts us ws : List Tree) (d : List (ℕ × ℕ)) (vs : List Visit) (i : ℕ) (n : Entry) (e made : ℕ) → Goes g ts us d (vs ++ visit.Leave i n ∷ []) e
    → Keeps us ws → made < length ws → at ws made ≡ graft g (tree_in us n) → Goes g ts ws (insert_entry nat_eq d i made) vs e
goes_leave g ts us ws d vs i n e made h k l t =
    let fit = fits_last ts vs (visit.Leave i n) h.fit in
    let node = fit.1 in
    let all = Keeps-then ts us ws h.kept k in
    let here : at ws i ≡ tree_in us n = all.same i fit.0 ∙ node.0 ∙ sym (parts_back ts us i n h.kept fit.0 node.1) in
    let longer = all.longer in
    record {
      kept = all;
      made = AreMade-keep g ws d i made (AreMade-kept g us ws d k h.made) (omega (arith, longer, fit.0), l, t ∙ ap (graft g) (sym here));
      fit = fits_before ts vs (visit.Leave i n) h.fit;
      order = order_after d (insert_entry nat_eq d i made) vs (visit.Leave i n) (IsDone-kept d i made) (IsDone-new d i made) h.order;
      will = will_after d (insert_entry nat_eq d i made) vs (visit.Leave i n) e (IsDone-kept d i made) (IsDone-new d i made) h.will;
    }

-- what was made of the number, when it is done
pub goes_end : (g : Graft) (ts us : List Tree) (d : List (ℕ × ℕ)) (vs : List Visit) (e made : ℕ) → e < length ts → Goes g ts us d vs e → lookup (nat_eq e) d ≡ Some made → (made < length us) × (at us made ≡ graft g (at ts e))
goes_end g ts us d vs e made l h f = (let m = AreMade-found g us d e made h.made f in (m.1, m.2 ∙ ap (graft g) (h.kept.same e l)))

pub goes_last : (g : Graft) (ts us : List Tree) (d : List (ℕ × ℕ)) (l vs : List Visit) (v w : Visit) (e : ℕ) → Goes g ts us d l e → l ≡ vs ++ v ∷ [] → v ≡ w → Goes g ts us d (vs ++ w ∷ []) e
goes_last g ts us d l vs v w e h p q = subst (λ (m : List Visit). Goes g ts us d m e) (p ∙ ap (λ (x : Visit). vs ++ x ∷ []) q) h

pub less_last : (ts : List Tree) (l vs ws : List Visit) (v w : Visit) → l ≡ vs ++ v ∷ [] → v ≡ w → all_work ts ws < all_work ts (vs ++ w ∷ []) → all_work ts ws < all_work ts l
less_last ts l vs ws v w p q h = (let e = ap (all_work ts) (p ∙ ap (λ (x : Visit). vs ++ x ∷ []) q) in omega (arith, e, h))

pub goes_first : (g : Graft) (ts : List Tree) (e : ℕ) → e < length ts → Goes g ts ts [] (visit.Enter e ∷ []) e
goes_first g ts e h = record {
  kept = Keeps-same ts;
  made = tt;
  fit = (h, tt);
  order = tt;
  will = inl refl;
}
