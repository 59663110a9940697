-- A script that is followed to its end is run, through the states that it leads to.
use Rattle.std.proofs.Common.{◌≡◌, ℕ, suc, List, [], ◌∷◌, None, refl, ap}
use Rattle.tla_tree.specs.Tree.{Word}
use Rattle.pcal_tree.specs.Scope.{State}
use Rattle.pcal_tree.specs.Program.{Program}
use Rattle.pcal_tree.specs.StepAnswers.{Reply, reached, held_at, no_label, needs_choice, too_many_choices, stopped_by, stepped, start_by}
use Rattle.pcal_tree.specs.Script.{Turn, StepsBy, RunOf}
use Rattle.pcal_tree.proofs.ReplyLaws.{step_replied, start_replied}
use Rattle.step_runner.specs.Script.{Script}
use Rattle.step_runner.specs.Followed.{landed, after_reply, turns_followed, followed}

abbrev Landing : Reply (State × Word) → State → Type 0
Landing r t = (l : Word) × (r ≡ reached (t, l))

given : {X : Type 0} (x y : X) → reached x ≡ reached y → x ≡ y
given x y e = cc

landing : (r : Reply (State × Word)) (t : State) → landed r ≡ reached t → Landing r t
landing (reached (u, l)) t e = (l, ap (λ (x : State). reached (x, l)) (given u t e))
landing (held_at at) t e = cc
landing no_label t e = cc
landing (needs_choice n at) t e = cc
landing (too_many_choices at) t e = cc
landing (stopped_by k) t e = cc

turns_are_run : (P : Program) (ns : List Turn) (k : ℕ) (s : State) → (turns_followed P ns k s).stop ≡ None → StepsBy P ns s (turns_followed P ns k s).states
turns_are_run P [] k s e = tt
turns_are_run P (n ∷ ns) k s e = by (turns_are_run P ns (suc k)) (landed (stepped P s n.who n.choices)) refl e
  where
    by : ((t : State) → (turns_followed P ns (suc k) t).stop ≡ None → StepsBy P ns t (turns_followed P ns (suc k) t).states) → (r : Reply State) → landed (stepped P s n.who n.choices) ≡ r
        → (after_reply k (turns_followed P ns (suc k)) r).stop ≡ None → StepsBy P (n ∷ ns) s (after_reply k (turns_followed P ns (suc k)) r).states
    by ih (reached t) h e = (let l = landing (stepped P s n.who n.choices) t h in (step_replied P n s t l.0 l.1, ih t e))
    by ih (held_at at) h e = cc
    by ih no_label h e = cc
    by ih (needs_choice m at) h e = cc
    by ih (too_many_choices at) h e = cc
    by ih (stopped_by j) h e = cc

pub followed_is_run : (P : Program) (c : Script) → (followed P c).stop ≡ None → RunOf P c.choices c.turns (followed P c).states
followed_is_run P c e = by (start_by P c.choices) refl e
  where
    by : (r : Reply State) → start_by P c.choices ≡ r → (after_reply 0 (turns_followed P c.turns 1) r).stop ≡ None → RunOf P c.choices c.turns (after_reply 0 (turns_followed P c.turns 1) r).states
    by (reached s) h e = (start_replied P c.choices s h, turns_are_run P c.turns 1 s e)
    by (held_at at) h e = cc
    by no_label h e = cc
    by (needs_choice m at) h e = cc
    by (too_many_choices at) h e = cc
    by (stopped_by j) h e = cc
