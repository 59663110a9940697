-- Statements without macro calls: what is written for macro calls is such, and stays as it is when it is written out again.
use Rattle.std.proofs.Common.{◌≡◌, List, [], ◌∷◌, Bool, true, false, cond, bytes_eq, refl, ◌∙◌, ap}
use Rattle.std.specs.List.{AllByRecursion}
use Rattle.tla_tree.specs.Tree.{Word, Trees, Graft}
use Rattle.pcal_tree.specs.Algorithm.{Span, Statement, assign, await, print, assert, skip, branch, either, with, while, goto, macro, call, return, Statements, done, then, mark, Branches, no_branches, or, Macro}
use Rattle.pcal_tree.specs.Run.{unlabelled, label_of, arguments}
use Rattle.pcal_tree.specs.Expand.{graft_one, graft_all, graft_some, followed_by, Writing, expand_one, expand, expand_some, written_out, expanded}
use Rattle.pcal_tree.specs.laws.Expansion.{CallsOne, Calls, CallsSome}
use Rattle.step_forms.specs.Steps.{Step, steps_in, steps, steps_some}
use Rattle.step_forms.proofs.Words.{every_both}

-- no call
abbrev pub Never : Word → Trees → Type 0
Never m ts = ⊥

-- any call
abbrev pub Any : Word → Trees → Type 0
Any m ts = Unit {0}

mutual
  any_one : (st : Statement) → CallsOne Any st
  any_one (branch e a b) = (any_calls a, any_calls b)
  any_one (either bs) = any_some bs
  any_one (with bs b) = any_calls b
  any_one (while e b) = any_calls b
  any_one (macro m ts) = tt
  any_one _ = tt

  pub any_calls : (ss : Statements) → Calls Any ss
  any_calls done = tt
  any_calls (then at st rest) = (any_one st, any_calls rest)
  any_calls (mark l k rest) = any_calls rest

  any_some : (bs : Branches) → CallsSome Any bs
  any_some no_branches = tt
  any_some (or b bs) = (any_calls b, any_some bs)

-- ---- what is written for calls has none

never_joined : (a b : Statements) → Calls Never a → Calls Never b → Calls Never (followed_by a b)
never_joined done b h k = k
never_joined (then at st a) b h k = (h.0, never_joined a b h.1 k)
never_joined (mark l m a) b h k = never_joined a b h k

mutual
  never_put_one : (g : Graft) (st : Statement) → CallsOne Never st → CallsOne Never (graft_one g st)
  never_put_one g (branch e a b) h = (never_put g a h.0, never_put g b h.1)
  never_put_one g (either bs) h = never_put_some g bs h
  never_put_one g (with bs b) h = never_put g b h
  never_put_one g (while e b) h = never_put g b h
  never_put_one g (macro m ts) h = absurd h
  never_put_one g _ h = tt

  pub never_put : (g : Graft) (ss : Statements) → Calls Never ss → Calls Never (graft_all g ss)
  never_put g done h = tt
  never_put g (then at st rest) h = (never_put_one g st h.0, never_put g rest h.1)
  never_put g (mark l k rest) h = never_put g rest h

  never_put_some : (g : Graft) (bs : Branches) → CallsSome Never bs → CallsSome Never (graft_some g bs)
  never_put_some g no_branches h = tt
  never_put_some g (or b bs) h = (never_put g b h.0, never_put_some g bs h.1)

abbrev pub WritesNone : Writing → Type 0
WritesNone X = (at : Span) (m : Word) (ts : Trees) → Calls Never (X at m ts)

module _ (X : Writing) (none : WritesNone X) where
  mutual
    never_left_one : (at : Span) (st : Statement) (rest : Statements) → Calls Never rest → Calls Never (expand_one X at st rest)
    never_left_one at (macro m ts) rest h = never_joined (X at m ts) rest (none at m ts) h
    never_left_one at (branch e a b) rest h = ((never_left a, never_left b), h)
    never_left_one at (either bs) rest h = (never_left_some bs, h)
    never_left_one at (with bs b) rest h = (never_left b, h)
    never_left_one at (while e b) rest h = (never_left b, h)
    never_left_one at st rest h = (tt, h)

    pub never_left : (ss : Statements) → Calls Never (expand X ss)
    never_left done = tt
    never_left (then at st rest) = never_left_one at st (expand X rest) (never_left rest)
    never_left (mark l k rest) = never_left rest

    never_left_some : (bs : Branches) → CallsSome Never (expand_some X bs)
    never_left_some no_branches = tt
    never_left_some (or b bs) = (never_left b, never_left_some bs)

pub never_written : (ms : List Macro) → WritesNone (written_out ms)
never_written [] at m ts = (tt, tt)
never_written (d ∷ older) at m ts = by (never_written older) (bytes_eq d.name.word m)
  where
    by : WritesNone (written_out older) → (b : Bool) → Calls Never (cond b (graft_all (arguments d.params ts) (expand (written_out older) d.body)) (written_out older at m ts))
    by before true = never_put (arguments d.params ts) (expand (written_out older) d.body) (never_left (written_out older) before d.body)
    by before false = before at m ts

pub never_expanded : (ms : List Macro) (ss : Statements) → Calls Never (expanded ms ss)
never_expanded ms ss = never_left (written_out ms) (never_written ms) ss

-- ---- statements without macro calls stay

mutual
  stays_one : (X : Writing) (at : Span) (st : Statement) (rest : Statements) → CallsOne Never st → expand_one X at st rest ≡ then at st rest
  stays_one X at (branch e a b) rest h = λ i. then at (branch e (stays X a h.0 i) (stays X b h.1 i)) rest
  stays_one X at (either bs) rest h = λ i. then at (either (stays_some X bs h i)) rest
  stays_one X at (with bs b) rest h = λ i. then at (with bs (stays X b h i)) rest
  stays_one X at (while e b) rest h = λ i. then at (while e (stays X b h i)) rest
  stays_one X at (macro m ts) rest h = absurd h
  stays_one X at (assign ms) rest h = refl
  stays_one X at (await e) rest h = refl
  stays_one X at (print e) rest h = refl
  stays_one X at (assert e) rest h = refl
  stays_one X at skip rest h = refl
  stays_one X at (goto l) rest h = refl
  stays_one X at (call p ts) rest h = refl
  stays_one X at return rest h = refl

  pub stays : (X : Writing) (ss : Statements) → Calls Never ss → expand X ss ≡ ss
  stays X done h = refl
  stays X (then at st rest) h = stays_one X at st (expand X rest) h.0 ∙ ap (then at st) (stays X rest h.1)
  stays X (mark l k rest) h = ap (mark l k) (stays X rest h)

  stays_some : (X : Writing) (bs : Branches) → CallsSome Never bs → expand_some X bs ≡ bs
  stays_some X no_branches h = refl
  stays_some X (or b bs) h = λ i. or (stays X b h.0 i) (stays_some X bs h.1 i)

-- written out again
pub expanded_again : (ms : List Macro) (ss : Statements) → expanded ms (expanded ms ss) ≡ expanded ms ss
expanded_again ms ss = stays (written_out ms) (expanded ms ss) (never_expanded ms ss)

-- ---- so do the statements with which steps begin

abbrev pub BeginFree : List Step → Type 0
BeginFree = AllByRecursion (λ (s : Step). Calls Never s.begins.items)

mutual
  steps_free_in : (here : Word) (st : Statement) (x : Word) → CallsOne Never st → BeginFree (steps_in here st x)
  steps_free_in here (branch e a b) x h = every_both _ (steps unlabelled a x) (steps unlabelled b x) (steps_free unlabelled a x h.0) (steps_free unlabelled b x h.1)
  steps_free_in here (either bs) x h = steps_free_some bs x h
  steps_free_in here (with bs b) x h = steps_free unlabelled b x h
  steps_free_in here (while e b) x h = steps_free unlabelled b here h
  steps_free_in here _ x h = tt

  pub steps_free : (here : Word) (ss : Statements) (x : Word) → Calls Never ss → BeginFree (steps here ss x)
  steps_free here done x h = tt
  steps_free here (then at st rest) x h =
      every_both _ (steps_in here st (label_of rest x)) (steps unlabelled rest x) (steps_free_in here st (label_of rest x) h.0) (steps_free unlabelled rest x h.1)
  steps_free here (mark l k rest) x h = (h, steps_free l.word rest x h)

  steps_free_some : (bs : Branches) (x : Word) → CallsSome Never bs → BeginFree (steps_some bs x)
  steps_free_some no_branches x h = tt
  steps_free_some (or b bs) x h = every_both _ (steps unlabelled b x) (steps_some bs x) (steps_free unlabelled b x h.0) (steps_free_some bs x h.1)
