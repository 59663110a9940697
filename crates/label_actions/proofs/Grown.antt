-- What is in memory stays as the pool grows.
use Rattle.std.proofs.Common.{◌≡◌, ℕ, ◌≤◌, List, [], ◌∷◌, ◌++◌, length, refl, sym, ap, subst, ◌∙◌, arith}
use Rattle.std.proofs.lemmas.List.{map-append}
use Rattle.tla_tree.specs.Tree.{Tree}
use Rattle.tla_tree.specs.Pool.{Keeps}
use Rattle.pcal_tree.specs.Program.{Program}
use Rattle.pcal_tree.specs.Takers.{Takers, each_of, single, lone, Taken}
use Rattle.module_tree.specs.Formulas.{self}
use Rattle.module_tree.specs.Module as tree
use Rattle.module_write.specs.declared.«module».Call.{Call}
use Rattle.module_write.specs.declared.«module».Call.TheVariants as call
use Rattle.module_write.specs.declared.«module».Way.{Way}
use Rattle.module_write.specs.declared.«module».Way.TheVariants as way
use Rattle.module_write.specs.declared.«module».Body.{Body}
use Rattle.module_write.specs.declared.«module».Body.TheVariants as body
use Rattle.module_write.specs.declared.«module».Action.{Action}
use Rattle.module_write.specs.InMemory.{action_at, actions_at, CallIn, WayIn, WaysIn, BodyIn, ActionsIn}
use Rattle.module_write.proofs.InMemoryGrown.{actions_at-kept}
use Rattle.action_builder.specs.LabelActions.{items_by}
use Rattle.right_sides.specs.After.{put_items}
use Rattle.step_items.specs.declared.desk.Desk.{Desk}
use Rattle.step_items.specs.Desks.{DeskIn}
use Rattle.step_items.proofs.DeskLaws.{desk_kept}
use Rattle.module_formulas.specs.declared.takers.Taker.{Taker}
use Rattle.module_formulas.specs.TakersIn.{TakerIn}
use Rattle.module_formulas.proofs.Grown.{taker_at-kept}
use Rattle.label_actions.specs.Added.{Works, self_of}

-- ---- actions

-- within a larger bound
module _ (m n : ℕ) (le : m ≤ n) where
  call_more : (c : Call) → CallIn m c → CallIn n c
  call_more (call.Bare a) h = tt
  call_more (call.With a e) h = omega (arith, h, le)

  way_more : (y : Way) → WayIn m y → WayIn n y
  way_more (way.One c) h = call_more c h
  way_more (way.Among x s c) h = (omega (arith, h.0, le), call_more c h.1)

  ways_more : (ys : List Way) → WaysIn m ys → WaysIn n ys
  ways_more [] h = tt
  ways_more (y ∷ ys) h = (way_more y h.0, ways_more ys h.1)

  body_more : (b : Body) → BodyIn m b → BodyIn n b
  body_more (body.All is) h = omega (arith, h, le)
  body_more (body.Any ys) h = ways_more ys.items h

  pub actions_more : (acts : List Action) → ActionsIn m acts → ActionsIn n acts
  actions_more [] h = tt
  actions_more (a ∷ acts) h = (body_more a.body h.0, actions_more acts h.1)

-- one more
pub actions_push : (m : ℕ) (acts : List Action) (a : Action) → ActionsIn m acts → BodyIn m a.body → ActionsIn m (acts ++ a ∷ [])
actions_push m [] a h k = (k, tt)
actions_push m (b ∷ acts) a h k = (h.0, actions_push m acts a h.1 k)

pub push_within : (m n : ℕ) (acts new : List Action) (a : Action) → m ≤ n → ActionsIn m acts → BodyIn n a.body → new ≡ acts ++ a ∷ [] → ActionsIn n new
push_within m n acts new a le h k e = subst (ActionsIn n) (sym e) (actions_push n acts a (actions_more m n le acts h) k)

pub pushed : (ts us : List Tree) → Keeps ts us → (acts new : List Action) (a : Action) → ActionsIn (length ts) acts → new ≡ acts ++ a ∷ []
    → actions_at us new ≡ actions_at ts acts ++ action_at us a ∷ []
pushed ts us k acts new a h e =
    ap (actions_at us) e ∙ map-append (action_at us) acts (a ∷ []) ∙ ap (λ (l : List tree.Action). l ++ action_at us a ∷ []) (actions_at-kept ts us k acts h)

-- ---- the desk

module _ (ts us : List Tree) (k : Keeps ts us) where
  pub works_kept : (d : Desk) (t : Taker) (P : Program) (v : Taken) → DeskIn (length ts) d → TakerIn (length ts) t → Works ts d t P v → Works us d t P v
  works_kept d t P v within taker w = record {
    desk = desk_kept ts us k d P v.routine _ within w.desk;
    takers = taker_at-kept ts us k t taker ∙ w.takers;
  }

-- ---- what stands for `self`

pub by_self : (t : Takers) (is : tree.Items) → put_items self (self_of t) is ≡ items_by t is
by_self (each_of s) is = refl
by_self (single e) is = refl
by_self lone is = refl
