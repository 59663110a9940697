-- Actions of steps that are added one after another.
use Rattle.std.proofs.Common.{◌≡◌, List, [], ◌∷◌, ◌++◌, length, map, refl, sym, ap, subst, ◌∙◌, append_assoc, append-nil, arith}
use Rattle.std.specs.List.{AllByRecursion}
use Rattle.std.proofs.lemmas.List.{map-append}
use Rattle.tla_tree.specs.Tree.{Tree}
use Rattle.tla_tree.specs.Pool.{Keeps}
use Rattle.tla_tree.proofs.PoolNumbers.{Keeps-then}
use Rattle.pcal_tree.specs.Run.{unlabelled}
use Rattle.module_tree.specs.Module as tree
use Rattle.module_write.specs.declared.«module».Action.{Action}
use Rattle.module_write.specs.InMemory.{actions_at, ActionsIn}
use Rattle.step_forms.specs.Steps.{Step, step_action}
use Rattle.step_items.specs.declared.desk.Desk.{Desk}
use Rattle.step_items.specs.Desks.{DeskIn}
use Rattle.module_formulas.specs.declared.takers.Taker.{Taker}
use Rattle.module_formulas.specs.TakersIn.{TakerIn}
use Rattle.label_actions.specs.Fitting.{AllFit}
use Rattle.label_actions.specs.Added.{AddsSteps}
use Rattle.label_actions.proofs.Grown.{works_kept}

every_front : {X : Type 0} (Q : X → Type 0) (xs ys : List X) → AllByRecursion Q (xs ++ ys) → AllByRecursion Q xs
every_front Q [] ys h = tt
every_front Q (x ∷ xs) ys h = (h.0, every_front Q xs ys h.1)

every_behind : {X : Type 0} (Q : X → Type 0) (xs ys : List X) → AllByRecursion Q (xs ++ ys) → AllByRecursion Q ys
every_behind Q [] ys h = h
every_behind Q (x ∷ xs) ys h = every_behind Q xs ys h.1

module _ (d : Desk) (k : Taker) where
  pub adds_none : (ts : List Tree) (old : List Action) → AddsSteps ts ts d k old old []
  adds_none ts old = λ P t w f. sym (append-nil (actions_at ts old))

  pub adds_same : (ts us : List Tree) (old new : List Action) (xs ys : List Step) → (d.unlabelled.now ≡ unlabelled → ys ≡ xs) → AddsSteps ts us d k old new xs → AddsSteps ts us d k old new ys
  adds_same ts us old new xs ys e h = λ P t w f.
      h P t w (subst (AllFit P t.routine) (e w.desk.empty) f) ∙ ap (λ (zs : List Step). actions_at ts old ++ map (step_action P t) zs) (sym (e w.desk.empty))

  pub adds_then : (ts us vs : List Tree) → Keeps ts us → DeskIn (length ts) d → TakerIn (length ts) k → (old mid new : List Action) (xs ys : List Step)
      → AddsSteps ts us d k old mid xs → AddsSteps us vs d k mid new ys → AddsSteps ts vs d k old new (xs ++ ys)
  adds_then ts us vs kept a b old mid new xs ys h g = λ P t w f.
      g P t (works_kept ts us kept d k P t a b w) (every_behind _ xs ys f)
      ∙ ap (λ (l : List tree.Action). l ++ map (step_action P t) ys) (h P t w (every_front _ xs ys f))
      ∙ append_assoc (actions_at ts old) (map (step_action P t) xs) (map (step_action P t) ys)
      ∙ ap (λ (l : List tree.Action). actions_at ts old ++ l) (sym (map-append (step_action P t) xs ys))

-- of all these steps some are done, and the rest are left
pub record SoFar (ts us : List Tree) (d : Desk) (k : Taker) (old now : List Action) (whole rest : List Step) : Type 0 where
  pub these : List Step
  pub splits : d.unlabelled.now ≡ unlabelled → whole ≡ these ++ rest
  pub adds : AddsSteps ts us d k old now these
  pub kept : Keeps ts us
  pub within : ActionsIn (length us) now

module _ (ts : List Tree) (d : Desk) (k : Taker) (old : List Action) (whole : List Step) where
  pub far_none : ActionsIn (length ts) old → SoFar ts ts d k old old whole whole
  far_none h = record { these = []; splits = λ e. refl; adds = adds_none d k ts old; kept = record { longer = omega arith; same = λ i l. refl }; within = h }

  pub far_more : (us vs : List Tree) → DeskIn (length ts) d → TakerIn (length ts) k → (now new : List Action) (xs rest left : List Step) → SoFar ts us d k old now whole rest
      → (d.unlabelled.now ≡ unlabelled → rest ≡ xs ++ left) → AddsSteps us vs d k now new xs → Keeps us vs → ActionsIn (length vs) new → SoFar ts vs d k old new whole left
  far_more us vs a b now new xs rest left s e h kept within = record {
    these = s.these ++ xs;
    splits = λ f. s.splits f ∙ ap (λ (l : List Step). s.these ++ l) (e f) ∙ sym (append_assoc s.these xs left);
    adds = adds_then d k ts us vs s.kept a b old now new s.these xs s.adds h;
    kept = Keeps-then ts us vs s.kept kept;
    within = within;
  }

  pub far_all : (us : List Tree) (now : List Action) (rest : List Step) → SoFar ts us d k old now whole rest → (d.unlabelled.now ≡ unlabelled → rest ≡ []) → AddsSteps ts us d k old now whole
  far_all us now rest s e = adds_same d k ts us old now s.these whole (λ f. s.splits f ∙ ap (λ (l : List Step). s.these ++ l) (e f) ∙ append-nil s.these) s.adds
