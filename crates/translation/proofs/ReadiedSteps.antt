-- Statements of a step with what is asked of their parts become, with written names, jumps settled, and the variables of the process at its identifier, those that items can be
-- written for.
use Rattle.std.proofs.Common.{◌≡◌, List, [], ◌++◌, Bool, true, false, ◌||◌, cond, ◌⊎◌, inl, inr, refl, sym, ap, subst}
use Rattle.std.proofs.lemmas.Bool.{or_parts}
use Rattle.tla_token.specs.Signs.{is_among}
use Rattle.tla_tree.specs.Tree.{Word, Tree, Trees, Graft, graft, grafts}
use Rattle.module_tree.specs.Module.{Items}
use Rattle.pcal_tree.specs.Algorithm.{Name, Span, Assignments, Binds, no_binds, one_of, is, Statement, assign, await, print, assert, skip, branch, either, with, while, goto, macro, call, return, Statements, done, then, mark, Branches, no_branches, or}
use Rattle.pcal_tree.specs.Expand.{graft_assignments, graft_binds, graft_one, graft_all, graft_some}
use Rattle.pcal_tree.specs.Paths.{roots}
use Rattle.pcal_tree.specs.Run.{Partner, unlabelled, label_of, partner_of}
use Rattle.action_builder.specs.Assigned.{Names, more, heads, assigned, assigned_in, assigned_by}
use Rattle.action_builder.specs.Settled.{WrittenJumps, jumps_one, jumps, jumps_some, settled_one, settled, settled_some}
use Rattle.action_builder.specs.Written.{is_old, write}
use Rattle.action_builder.specs.laws.Ready.{Readable, SettledOne, SettledSome, FineTree, FineAssignments, FineBinds, Kept, FineOne, FineSome, Apart, OnceOne, OnceSome}
use Rattle.action_builder.proofs.Main.{append_cases, in_front, behind}
use Rattle.translation.specs.laws.StepsOnce.{set_by, set_in, set_in_some}
use Rattle.translation.specs.laws.StepParts.{Asked, AskedOne, AskedIn, AskedSome, goes_on, Readied}
use Rattle.translation.proofs.StepsOnce.{In}
use Rattle.pcal_tree.proofs.GraftRuns.{graft_partner}

-- each of ys is what one of xs became
abbrev pub From : (Word → Word) → List Word → List Word → Type 0
From r xs ys = (y : Word) → In ys y → (x : Word) × In xs x × (r x ≡ y)

-- each of B is what one of A became
abbrev pub Became : (Word → Word) → Names → Names → Type 0
Became r A B = (y : Word) → B y ≡ true → (x : Word) × (A x ≡ true) × (r x ≡ y)

-- what the parts become: trees of g are put in, those for names, and then those of h
pub record PartsFit (R : Asked) (r : Word → Word) (g h : Graft) (W : WrittenJumps) (U : Readable) (vs : List Word) : Type 0 where
  pub sources : (A : Names) (ms : Assignments) → R.assigns A ms → From r (roots ms) (heads (graft_assignments h (graft_assignments g ms)))
  pub assigns : (A B : Names) → Became r A B → (ms : Assignments) → R.assigns A ms
      → FineAssignments U vs B (graft_assignments h (graft_assignments g ms)) × Apart B (heads (graft_assignments h (graft_assignments g ms)))
  pub reads : (A B : Names) → Became r A B → (e : Tree) → R.reads A e → FineTree U B (graft h (graft g e))
  pub binds : (A B : Names) → Became r A B → (bs : Binds) → R.binds A bs → FineBinds U vs B (graft_binds h (graft_binds g bs)) × (is_old (graft_binds h (graft_binds g bs)) ≡ false)
  pub goes : (A B : Names) → Became r A B → (l : Word) → R.goes A → Readied U vs B (graft_all h (W.goto l))
  pub calls : (A B : Names) → Became r A B → (at : Span) (p : Name) (ts : Trees) (l : Word) (j : Partner) → R.calls A p ts j → Readied U vs B (graft_all h (W.call at p (grafts g ts) l j))
  pub returns : (A B : Names) → Became r A B → (at : Span) → R.returns A → Readied U vs B (graft_all h (W.return at))

-- ---- names

from_both : (r : Word → Word) (xs ys us vs : List Word) → From r xs us → From r ys vs → From r (xs ++ ys) (us ++ vs)
from_both r xs ys us vs h k y m = by (append_cases us vs y m)
  where
    by : In us y ⊎ In vs y → (x : Word) × In (xs ++ ys) x × (r x ≡ y)
    by (inl n) = (let z = h y n in (z.0, in_front xs ys z.0 z.1, z.2))
    by (inr n) = (let z = k y n in (z.0, behind xs ys z.0 z.1, z.2))

from_none : (r : Word → Word) (xs : List Word) → From r xs []
from_none r xs y m = absurd cc

became_more : (r : Word → Word) (A B : Names) (xs ys : List Word) → Became r A B → From r xs ys → Became r (more A xs) (more B ys)
became_more r A B xs ys h k y m = by (B y) refl m
  where
    by : (b : Bool) → B y ≡ b → (b || is_among ys y) ≡ true → (x : Word) × (more A xs x ≡ true) × (r x ≡ y)
    by true e n = (let z = h y e in (z.0, ap (λ (c : Bool). c || is_among xs z.0) z.1, z.2))
    by false e n = (let z = k y n in (z.0, later (A z.0) (is_among xs z.0) z.1, z.2))
      where
        later : (b c : Bool) → c ≡ true → (b || c) ≡ true
        later true c e = refl
        later false c e = e

-- ---- partners and binds

kept_new : (vs : List Word) (A : Names) (bs : Binds) (items : Items) → is_old bs ≡ false → Kept vs A bs items
kept_new vs A no_binds items h = tt
kept_new vs A (one_of x e bs) items h = tt
kept_new vs A (is x e bs) items h = λ k. absurd (both (is_old (is x e bs)) h k)
  where
    both : (b : Bool) → b ≡ false → b ≡ true → ⊥
    both true e f = cc
    both false e f = cc

goes_still : (g : Graft) (st : Statement) → jumps_one (graft_one g st) ≡ false → goes_on st ≡ true
goes_still g (goto l) q = cc
goes_still g (call p ts) q = cc
goes_still g return q = cc
goes_still g (assign ms) q = refl
goes_still g (await e) q = refl
goes_still g (print e) q = refl
goes_still g (assert e) q = refl
goes_still g skip q = refl
goes_still g (branch e a b) q = refl
goes_still g (either bs) q = refl
goes_still g (with bs b) q = refl
goes_still g (while e b) q = refl
goes_still g (macro m ts) q = refl

-- ---- statements

module _ (R : Asked) (r : Word → Word) (g h : Graft) (W : WrittenJumps) (U : Readable) (vs : List Word) (fit : PartsFit R r g h W U vs) where
  abbrev put_one : Statement → Statement
  put_one st = graft_one h (graft_one g st)

  abbrev put_all : Statements → Statements
  put_all b = graft_all h (graft_all g b)

  abbrev put_some : Branches → Branches
  put_some bs = graft_some h (graft_some g bs)

  record OneReady (B : Names) (st ct : Statement) : Type 0 where
    settled : SettledOne (is_among vs) ct
    fine : FineOne U vs B ct
    once : OnceOne B ct
    from : From r (set_by st) (assigned ct)

  record AllReady (B : Names) (b c : Statements) : Type 0 where
    ready : Readied U vs B c
    from : From r (set_in b) (assigned_in c)

  record SomeReady (B : Names) (bs cs : Branches) : Type 0 where
    settled : SettledSome (is_among vs) cs
    fine : FineSome U vs B cs
    once : OnceSome B cs
    from : From r (set_in_some bs) (assigned_by cs)

  -- where nothing jumps
  mutual
    plain_one : (A B : Names) → Became r A B → (st : Statement) (j : Partner) → jumps_one (graft_one g st) ≡ false → AskedOne R A st j → OneReady B st (put_one st)
    plain_one A B k (assign ms) j q a =
        let f = fit.assigns A B k ms a in
        record { settled = f.0.left; fine = f.0; once = f.1; from = fit.sources A ms a }
    plain_one A B k (await e) j q a = record { settled = tt; fine = fit.reads A B k e a; once = tt; from = from_none r [] }
    plain_one A B k (print e) j q a = record { settled = tt; fine = fit.reads A B k e a; once = tt; from = from_none r [] }
    plain_one A B k (assert e) j q a = record { settled = tt; fine = fit.reads A B k e a; once = tt; from = from_none r [] }
    plain_one A B k skip j q a = record { settled = tt; fine = tt; once = tt; from = from_none r [] }
    plain_one A B k (branch e b c) j q a =
        let p = or_parts (jumps (graft_all g b)) (jumps (graft_all g c)) q in
        let x = plain_all A B k b p.0 a.1 in
        let y = plain_all A B k c p.1 a.2 in
        record {
          settled = (x.ready.settled, y.ready.settled);
          fine = (fit.reads A B k e a.0, x.ready.fine, y.ready.fine);
          once = (x.ready.once, y.ready.once);
          from = from_both r (set_in b) (set_in c) (assigned_in (put_all b)) (assigned_in (put_all c)) x.from y.from;
        }
    plain_one A B k (either bs) j q a =
        let x = plain_some A B k bs q a in
        record { settled = x.settled; fine = x.fine; once = x.once; from = x.from }
    plain_one A B k (with bs b) j q a =
        let x = plain_all A B k b q a.1 in
        let f = fit.binds A B k bs a.0 in
        record {
          settled = x.ready.settled;
          fine = (f.0, x.ready.fine, kept_new vs B (graft_binds h (graft_binds g bs)) (write vs B (put_all b)) f.1);
          once = x.ready.once;
          from = x.from;
        }
    plain_one A B k (while e b) j q a = cc
    plain_one A B k (goto l) j q a = cc
    plain_one A B k (macro m ts) j q a = absurd a
    plain_one A B k (call p ts) j q a = cc
    plain_one A B k return j q a = cc

    plain_all : (A B : Names) → Became r A B → (b : Statements) → jumps (graft_all g b) ≡ false → AskedIn R A b → AllReady B b (put_all b)
    plain_all A B k done q a = record { ready = record { settled = tt; fine = tt; once = tt }; from = from_none r [] }
    plain_all A B k (then at st rest) q a =
        let p = or_parts (jumps_one (graft_one g st)) (jumps (graft_all g rest)) q in
        let x = plain_one A B k st (partner_of rest) p.0 a.0 in
        let y = plain_all (more A (set_by st)) (more B (assigned (put_one st))) (became_more r A B (set_by st) (assigned (put_one st)) k x.from) rest p.1 (a.1 (goes_still g st p.0)) in
        record {
          ready = record { settled = (x.settled, y.ready.settled); fine = (x.fine, y.ready.fine); once = (x.once, y.ready.once) };
          from = from_both r (set_by st) (set_in rest) (assigned (put_one st)) (assigned_in (put_all rest)) x.from y.from;
        }
    plain_all A B k (mark l m rest) q a = cc

    plain_some : (A B : Names) → Became r A B → (bs : Branches) → jumps_some (graft_some g bs) ≡ false → AskedSome R A bs → SomeReady B bs (put_some bs)
    plain_some A B k no_branches q a = record { settled = tt; fine = tt; once = tt; from = from_none r [] }
    plain_some A B k (or b bs) q a =
        let p = or_parts (jumps (graft_all g b)) (jumps_some (graft_some g bs)) q in
        let x = plain_all A B k b p.0 a.0 in
        let y = plain_some A B k bs p.1 a.1 in
        record {
          settled = (x.ready.settled, y.settled);
          fine = (x.ready.fine, y.fine);
          once = (x.ready.once, y.once);
          from = from_both r (set_in b) (set_in_some bs) (assigned_in (put_all b)) (assigned_by (put_some bs)) x.from y.from;
        }

  -- one statement before others
  ready_before : (B : Names) (at : Span) (st ct : Statement) (rest : Statements) → OneReady B st ct → Readied U vs (more B (assigned ct)) rest → Readied U vs B (then at ct rest)
  ready_before B at st ct rest x y = record { settled = (x.settled, y.settled); fine = (x.fine, y.fine); once = (x.once, y.once) }

  abbrev SomeSettled : Names → Branches → Type 0
  SomeSettled B cs = SettledSome (is_among vs) cs × FineSome U vs B cs × OnceSome B cs

  -- of what follows the statement, settled
  abbrev Rest : Names → Names → Statement → Statements → Type 0
  Rest A B st rest = goes_on st ≡ true → (D : Names) → Became r (more A (set_by st)) D → Readied U vs D (graft_all h rest)

  after_plain : (A B : Names) → Became r A B → (at : Span) (st : Statement) (rest : Statements) → OneReady B st (put_one st) → goes_on st ≡ true → Rest A B st rest → Readied U vs B (then at (put_one st) (graft_all h rest))
  after_plain A B k at st rest x g f = ready_before B at st (put_one st) (graft_all h rest) x (f g (more B (assigned (put_one st))) (became_more r A B (set_by st) (assigned (put_one st)) k x.from))

  mutual
    settled_ready : (A B : Names) → Became r A B → (here l : Word) (j : Partner) (at : Span) (st : Statement) (rest : Statements) → AskedOne R A st j → Rest A B st rest
        → Readied U vs B (graft_all h (settled_one W here l j at (graft_one g st) rest))
    settled_ready A B k here l j at (goto m) rest a f = fit.goes A B k m a
    settled_ready A B k here l j at (call p ts) rest a f = fit.calls A B k at p ts l j a
    settled_ready A B k here l j at return rest a f = fit.returns A B k at a
    settled_ready A B k here l j at (branch e b c) rest a f = by (jumps (graft_all g b) || jumps (graft_all g c)) refl (list_ready A B k unlabelled l b a.1) (list_ready A B k unlabelled l c a.2)
      where
        by : (q : Bool) → (jumps (graft_all g b) || jumps (graft_all g c)) ≡ q → Readied U vs B (graft_all h (settled W unlabelled l (graft_all g b))) → Readied U vs B (graft_all h (settled W unlabelled l (graft_all g c)))
            → Readied U vs B (graft_all h (cond q (then at (branch (graft g e) (settled W unlabelled l (graft_all g b)) (settled W unlabelled l (graft_all g c))) done) (then at (branch (graft g e) (graft_all g b) (graft_all g c)) rest)))
        by true q x y = record { settled = ((x.settled, y.settled), tt); fine = ((fit.reads A B k e a.0, x.fine, y.fine), tt); once = ((x.once, y.once), tt) }
        by false q x y = after_plain A B k at (branch e b c) rest (plain_one A B k (branch e b c) j q a) refl f
    settled_ready A B k here l j at (either bs) rest a f = by (jumps_some (graft_some g bs)) refl (some_ready A B k l bs a)
      where
        by : (q : Bool) → jumps_some (graft_some g bs) ≡ q → SomeSettled B (graft_some h (settled_some W l (graft_some g bs))) → Readied U vs B (graft_all h (cond q (then at (either (settled_some W l (graft_some g bs))) done) (then at (either (graft_some g bs)) rest)))
        by true q x = record { settled = (x.0, tt); fine = (x.1, tt); once = (x.2, tt) }
        by false q x = after_plain A B k at (either bs) rest (plain_one A B k (either bs) j q a) refl f
    settled_ready A B k here l j at (with bs b) rest a f = by (jumps (graft_all g b)) refl (list_ready A B k unlabelled l b a.1)
      where
        by : (q : Bool) → jumps (graft_all g b) ≡ q → Readied U vs B (graft_all h (settled W unlabelled l (graft_all g b))) → Readied U vs B (graft_all h (cond q (then at (with (graft_binds g bs) (settled W unlabelled l (graft_all g b))) done) (then at (with (graft_binds g bs) (graft_all g b)) rest)))
        by true q x =
            let i = fit.binds A B k bs a.0 in
            record {
              settled = (x.settled, tt);
              fine = ((i.0, x.fine, kept_new vs B (graft_binds h (graft_binds g bs)) (write vs B (graft_all h (settled W unlabelled l (graft_all g b)))) i.1), tt);
              once = (x.once, tt);
            }
        by false q x = after_plain A B k at (with bs b) rest (plain_one A B k (with bs b) j q a) refl f
    settled_ready A B k here l j at (while e b) rest a f =
        let x = list_ready A B k unlabelled here b a.1 in
        let y = f refl B (λ z m. (let w = k z m in (w.0, ap (λ (c : Bool). c || false) w.1, w.2))) in
        record { settled = ((x.settled, y.settled), tt); fine = ((fit.reads A B k e a.0, x.fine, y.fine), tt); once = ((x.once, y.once), tt) }
    settled_ready A B k here l j at (macro m ts) rest a f = absurd a
    settled_ready A B k here l j at (assign ms) rest a f = after_plain A B k at (assign ms) rest (plain_one A B k (assign ms) j refl a) refl f
    settled_ready A B k here l j at (await e) rest a f = after_plain A B k at (await e) rest (plain_one A B k (await e) j refl a) refl f
    settled_ready A B k here l j at (print e) rest a f = after_plain A B k at (print e) rest (plain_one A B k (print e) j refl a) refl f
    settled_ready A B k here l j at (assert e) rest a f = after_plain A B k at (assert e) rest (plain_one A B k (assert e) j refl a) refl f
    settled_ready A B k here l j at skip rest a f = after_plain A B k at skip rest (plain_one A B k skip j refl a) refl f

    pub list_ready : (A B : Names) → Became r A B → (here l : Word) (b : Statements) → AskedIn R A b → Readied U vs B (graft_all h (settled W here l (graft_all g b)))
    list_ready A B k here l done a = fit.goes A B k l a
    list_ready A B k here l (mark m n rest) a = fit.goes A B k m.word a
    list_ready A B k here l (then at st rest) a =
        settled_ready A B k here (label_of (graft_all g rest) l) (partner_of (graft_all g rest)) at st (settled W unlabelled l (graft_all g rest))
        (subst (AskedOne R A st) (sym (graft_partner g rest)) a.0) (λ q D d. list_ready (more A (set_by st)) D d unlabelled l rest (a.1 q))

    some_ready : (A B : Names) → Became r A B → (l : Word) (bs : Branches) → AskedSome R A bs
        → SomeSettled B (graft_some h (settled_some W l (graft_some g bs)))
    some_ready A B k l no_branches a = (tt, tt, tt)
    some_ready A B k l (or b bs) a =
        let x = list_ready A B k unlabelled l b a.0 in
        let y = some_ready A B k l bs a.1 in
        ((x.settled, y.0), (x.fine, y.1), (x.once, y.2))
