-- What passes from a body to its parts holds of each step as these are listed.
use Rattle.std.proofs.Common.{List, ◌∷◌, ◌++◌, ◌⊎◌, inl, inr, sym, subst}
use Rattle.tla_tree.specs.Tree.{Word}
use Rattle.pcal_tree.specs.Algorithm.{Statement, assign, await, print, assert, skip, branch, either, with, while, goto, macro, call, return, Statements, done, then, mark, Branches, no_branches, or}
use Rattle.pcal_tree.specs.Processes.{OneOf}
use Rattle.pcal_tree.specs.Run.{unlabelled, label_of}
use Rattle.pcal_tree.proofs.RoutineNames.{one_either}
use Rattle.step_forms.specs.Steps.{Step, steps_in, steps, steps_some}
use Rattle.translation.proofs.FromLabels.{Passes}

module _ (A : Statements → Type 0) (B : Statement → Type 0) (C : Branches → Type 0) (p : Passes A B C) where
  abbrev Holds : List Step → Type 0
  Holds xs = (s : Step) → OneOf s xs → A s.begins.items

  both : (xs ys : List Step) → Holds xs → Holds ys → Holds (xs ++ ys)
  both xs ys h k s m = by (one_either s xs ys m)
    where
      by : OneOf s xs ⊎ OneOf s ys → A s.begins.items
      by (inl n) = h s n
      by (inr n) = k s n

  mutual
    one_step : (here : Word) (st : Statement) (x : Word) → B st → Holds (steps_in here st x)
    one_step here (branch e a b) x h = (let k = p.of_branch e a b h in both (steps unlabelled a x) (steps unlabelled b x) (each_step unlabelled a x k.0) (each_step unlabelled b x k.1))
    one_step here (either bs) x h = some_step bs x (p.of_either bs h)
    one_step here (with bs b) x h = each_step unlabelled b x (p.of_with bs b h)
    one_step here (while e b) x h = each_step unlabelled b here (p.of_while e b h)
    one_step here (assign ms) x h = λ s m. absurd m
    one_step here (await e) x h = λ s m. absurd m
    one_step here (print e) x h = λ s m. absurd m
    one_step here (assert e) x h = λ s m. absurd m
    one_step here skip x h = λ s m. absurd m
    one_step here (goto l) x h = λ s m. absurd m
    one_step here (macro n ts) x h = λ s m. absurd m
    one_step here (call n ts) x h = λ s m. absurd m
    one_step here return x h = λ s m. absurd m

    pub each_step : (here : Word) (ss : Statements) (x : Word) → A ss → Holds (steps here ss x)
    each_step here done x h = λ s m. absurd m
    each_step here (then at st rest) x h =
        let k = p.of_first at st rest h in
        both (steps_in here st (label_of rest x)) (steps unlabelled rest x) (one_step here st (label_of rest x) k.0) (each_step unlabelled rest x k.1)
    each_step here (mark l k rest) x h = first (p.of_mark l k rest h) (each_step l.word rest x (p.of_mark l k rest h))
      where
        first : A rest → Holds (steps l.word rest x) → Holds (record { label = l.word; begins = record { items = rest; exit = x } } ∷ steps l.word rest x)
        first a f s (inl e) = subst (λ (t : Step). A t.begins.items) (sym e) a
        first a f s (inr m) = f s m

    some_step : (bs : Branches) (x : Word) → C bs → Holds (steps_some bs x)
    some_step no_branches x h = λ s m. absurd m
    some_step (or b bs) x h = (let k = p.of_or b bs h in both (steps unlabelled b x) (steps_some bs x) (each_step unlabelled b x k.0) (some_step bs x k.1))
