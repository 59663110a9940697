-- What is asked of parts of statements is asked of less, stays so with trees put in for names, and holds of the statements that macro calls stand between.
use Rattle.std.proofs.Common.{◌≡◌, false, bytes_eq, refl}
use Rattle.tla_tree.specs.Tree.{Word, Name, Graft}
use Rattle.pcal_tree.specs.Algorithm.{Span, Assignments, Binds, no_binds, one_of, is, Statement, assign, await, print, assert, skip, branch, either, with, while, goto, macro, call, return, Statements, done, then, mark, Branches, no_branches, or}
use Rattle.pcal_tree.specs.Expand.{graft_assignments, graft_binds, graft_one, graft_all, graft_some, followed_by, Writing, expand, expand_some}
use Rattle.action_builder.specs.Written.{old_stack, is_old}
use Rattle.action_builder.specs.laws.Settling.{EachBind}
use Rattle.translation.proofs.FromLabels.{Passes}
use Rattle.translation.proofs.TidySteps.{PartsOf}
use Rattle.build_premises.specs.Everywhere.{Parts, EverywhereOne, Everywhere, EverywhereSome}
use Rattle.step_forms.specs.OldNames.{NoOldOne, NoOld, NoOldSome}

-- ---- less is asked

module _ (R S : Parts) (assigns : (ms : Assignments) → R.assigns ms → S.assigns ms) (binds : (x : Word) → R.binds x → S.binds x) (calls : (p : Name) → R.calls p → S.calls p)
    (returns : R.returns → S.returns) (macros : R.macros → S.macros) where
  each_less : (bs : Binds) → EachBind R.binds bs → EachBind S.binds bs
  each_less no_binds h = tt
  each_less (one_of x e bs) h = (binds x.word h.0, each_less bs h.1)
  each_less (is x e bs) h = (binds x.word h.0, each_less bs h.1)

  mutual
    less_one : (st : Statement) → EverywhereOne R st → EverywhereOne S st
    less_one (assign ms) h = assigns ms h
    less_one (await e) h = tt
    less_one (print e) h = tt
    less_one (assert e) h = tt
    less_one skip h = tt
    less_one (branch e a b) h = (less a h.0, less b h.1)
    less_one (either bs) h = less_some bs h
    less_one (with bs b) h = (each_less bs h.0, less b h.1)
    less_one (while e b) h = less b h
    less_one (goto l) h = tt
    less_one (macro m ts) h = macros h
    less_one (call p ts) h = calls p h
    less_one return h = returns h

    pub less : (ss : Statements) → Everywhere R ss → Everywhere S ss
    less done h = tt
    less (then at st rest) h = (less_one st h.0, less rest h.1)
    less (mark l k rest) h = less rest h

    less_some : (bs : Branches) → EverywhereSome R bs → EverywhereSome S bs
    less_some no_branches h = tt
    less_some (or b bs) h = (less b h.0, less_some bs h.1)

-- ---- trees put in

module _ (R S : Parts) (g : Graft) (assigns : (ms : Assignments) → R.assigns ms → S.assigns (graft_assignments g ms)) (binds : (x : Word) → R.binds x → S.binds x)
    (calls : (p : Name) → R.calls p → S.calls p) (returns : R.returns → S.returns) (macros : R.macros → S.macros) where
  each_put : (bs : Binds) → EachBind R.binds bs → EachBind S.binds (graft_binds g bs)
  each_put no_binds h = tt
  each_put (one_of x e bs) h = (binds x.word h.0, each_put bs h.1)
  each_put (is x e bs) h = (binds x.word h.0, each_put bs h.1)

  mutual
    put_one : (st : Statement) → EverywhereOne R st → EverywhereOne S (graft_one g st)
    put_one (assign ms) h = assigns ms h
    put_one (await e) h = tt
    put_one (print e) h = tt
    put_one (assert e) h = tt
    put_one skip h = tt
    put_one (branch e a b) h = (put_in a h.0, put_in b h.1)
    put_one (either bs) h = put_some bs h
    put_one (with bs b) h = (each_put bs h.0, put_in b h.1)
    put_one (while e b) h = put_in b h
    put_one (goto l) h = tt
    put_one (macro m ts) h = macros h
    put_one (call p ts) h = calls p h
    put_one return h = returns h

    pub put_in : (ss : Statements) → Everywhere R ss → Everywhere S (graft_all g ss)
    put_in done h = tt
    put_in (then at st rest) h = (put_one st h.0, put_in rest h.1)
    put_in (mark l k rest) h = put_in rest h

    put_some : (bs : Branches) → EverywhereSome R bs → EverywhereSome S (graft_some g bs)
    put_some no_branches h = tt
    put_some (or b bs) h = (put_in b h.0, put_some bs h.1)

-- ---- parts of statements

module _ (R : Parts) where
  pub everywhere_pass : Passes (Everywhere R) (EverywhereOne R) (EverywhereSome R)
  everywhere_pass = record {
    of_first = λ at st rest h. h;
    of_mark = λ l k rest h. h;
    of_branch = λ e a b h. h;
    of_either = λ bs h. h;
    of_with = λ bs b h. h.1;
    of_while = λ e b h. h;
    of_or = λ b bs h. h;
  }

  -- before macro calls are written out
  module _ (X : Writing) where
    abbrev pub WrittenOut : Statements → Type 0
    WrittenOut ss = Everywhere R (expand X ss)

    abbrev pub WrittenOutSome : Branches → Type 0
    WrittenOutSome bs = EverywhereSome R (expand_some X bs)

    after_written : (a b : Statements) → Everywhere R (followed_by a b) → Everywhere R b
    after_written done b h = h
    after_written (then at st a) b h = after_written a b h.1
    after_written (mark l k a) b h = after_written a b h

    out_first : (at : Span) (st : Statement) (rest : Statements) → WrittenOut (then at st rest) → PartsOf WrittenOut WrittenOutSome st × WrittenOut rest
    out_first at (branch e a b) rest h = h
    out_first at (either bs) rest h = h
    out_first at (with bs b) rest h = (h.0.1, h.1)
    out_first at (while e b) rest h = h
    out_first at (macro m ts) rest h = (tt, after_written (X at m ts) (expand X rest) h)
    out_first at (assign ms) rest h = (tt, h.1)
    out_first at (await e) rest h = (tt, h.1)
    out_first at (print e) rest h = (tt, h.1)
    out_first at (assert e) rest h = (tt, h.1)
    out_first at skip rest h = (tt, h.1)
    out_first at (goto l) rest h = (tt, h.1)
    out_first at (call p ts) rest h = (tt, h.1)
    out_first at return rest h = (tt, h.1)

    pub written_out_pass : Passes WrittenOut (PartsOf WrittenOut WrittenOutSome) WrittenOutSome
    written_out_pass = record {
      of_first = out_first;
      of_mark = λ l k rest h. h;
      of_branch = λ e a b h. h;
      of_either = λ bs h. h;
      of_with = λ bs b h. h;
      of_while = λ e b h. h;
      of_or = λ b bs h. h;
    }

-- ---- no old stack

module _ (R : Parts) (binds : (x : Word) → R.binds x → bytes_eq old_stack x ≡ false) where
  old_binds : (bs : Binds) → EachBind R.binds bs → is_old bs ≡ false
  old_binds no_binds h = refl
  old_binds (one_of x e bs) h = refl
  old_binds (is x e no_binds) h = binds x.word h.0
  old_binds (is x e (one_of y f bs)) h = refl
  old_binds (is x e (is y f bs)) h = refl

  mutual
    old_one : (st : Statement) → EverywhereOne R st → NoOldOne st
    old_one (assign ms) h = tt
    old_one (await e) h = tt
    old_one (print e) h = tt
    old_one (assert e) h = tt
    old_one skip h = tt
    old_one (branch e a b) h = (no_old a h.0, no_old b h.1)
    old_one (either bs) h = old_some bs h
    old_one (with bs b) h = (old_binds bs h.0, no_old b h.1)
    old_one (while e b) h = no_old b h
    old_one (goto l) h = tt
    old_one (macro m ts) h = tt
    old_one (call p ts) h = tt
    old_one return h = tt

    pub no_old : (ss : Statements) → Everywhere R ss → NoOld ss
    no_old done h = tt
    no_old (then at st rest) h = (old_one st h.0, no_old rest h.1)
    no_old (mark l k rest) h = no_old rest h

    old_some : (bs : Branches) → EverywhereSome R bs → NoOldSome bs
    old_some no_branches h = tt
    old_some (or b bs) h = (no_old b h.0, old_some bs h.1)
