-- What comes of following a script under limits.
use Rattle.std.proofs.Common.{ℕ, suc, List, [], ◌∷◌, Option, Some, None, refl, ap, subst}
use Rattle.tla_tree.specs.Tree.{Word}
use Rattle.tla_value.specs.Value.{fault, over}
use Rattle.tla_value.specs.Limits.{bounded}
use Rattle.tla_value.specs.Stops.{plain}
use Rattle.pcal_tree.specs.Scope.{State}
use Rattle.pcal_tree.specs.Program.{Program}
use Rattle.pcal_tree.specs.Script.{Turn}
use Rattle.pcal_tree.specs.StepAnswers.{Reply, reached, held_at, no_label, needs_choice, too_many_choices, stopped_by, stepped}
use Rattle.step_runner.specs.Script.{Script}
use Rattle.step_runner.specs.Followed.{Stop, Followed, landed, after_reply, turns_followed, followed}
use Rattle.run_answer.specs.LimitedRuns.{under, ReplyBelow, StoppedBelow, StopBelow, FollowedBelow}
use Rattle.run_answer.proofs.Steps.{stepped_below}
use Rattle.run_answer.proofs.Starts.{start_below}

landed_below : (r q : Reply (State × Word)) → ReplyBelow r q → ReplyBelow (landed r) (landed q)
landed_below (reached (t, l)) q h = ap landed h
landed_below (held_at at) q h = ap landed h
landed_below no_label q h = ap landed h
landed_below (needs_choice n at) q h = ap landed h
landed_below (too_many_choices at) q h = ap landed h
landed_below (stopped_by (fault k p)) q h = ap landed h
landed_below (stopped_by (over p)) q h = tt

-- one state more
abbrev put_first : State → Followed → Followed
put_first t f = record { states = t ∷ f.states; stop = f.stop }

first_reply : (t : State) (r : Reply State) (f g : Followed) → StoppedBelow r f g → StoppedBelow r (put_first t f) (put_first t g)
first_reply t (reached x) f g h = ap (put_first t) h
first_reply t (held_at at) f g h = ap (put_first t) h
first_reply t no_label f g h = ap (put_first t) h
first_reply t (needs_choice n at) f g h = ap (put_first t) h
first_reply t (too_many_choices at) f g h = ap (put_first t) h
first_reply t (stopped_by (fault k p)) f g h = ap (put_first t) h
first_reply t (stopped_by (over p)) f g h = (h.0, ap (λ (ss : List State). t ∷ ss) h.1)

first_below : (t : State) (o : Option Stop) (f g : Followed) → StopBelow o f g → StopBelow o (put_first t f) (put_first t g)
first_below t None f g h = ap (put_first t) h
first_below t (Some s) f g h = first_reply t s.reply f g h

reply_below : (k : ℕ) (f g : State → Followed) → ((t : State) → FollowedBelow (f t) (g t)) → (r q : Reply State) → ReplyBelow r q → FollowedBelow (after_reply k f r) (after_reply k g q)
reply_below k f g h (reached t) q e = subst (λ (r : Reply State). FollowedBelow (after_reply k f (reached t)) (after_reply k g r)) e (first_below t (f t).stop (f t) (g t) (h t))
reply_below k f g h (held_at at) q e = ap (after_reply k g) e
reply_below k f g h no_label q e = ap (after_reply k g) e
reply_below k f g h (needs_choice n at) q e = ap (after_reply k g) e
reply_below k f g h (too_many_choices at) q e = ap (after_reply k g) e
reply_below k f g h (stopped_by (fault j p)) q e = ap (after_reply k g) e
reply_below k f g h (stopped_by (over p)) q e = ((after_reply k g q).states, refl)

module _ (P : Program) where
  turns_below : (ns : List Turn) (k : ℕ) (s : State) → FollowedBelow (turns_followed (under bounded P) ns k s) (turns_followed (under plain P) ns k s)
  turns_below [] k s = refl
  turns_below (n ∷ ns) k s =
      reply_below k (turns_followed (under bounded P) ns (suc k)) (turns_followed (under plain P) ns (suc k)) (turns_below ns (suc k)) _ _
      (landed_below (stepped (under bounded P) s n.who n.choices) (stepped (under plain P) s n.who n.choices) (stepped_below P s n.who n.choices))

  pub followed_below : (c : Script) → FollowedBelow (followed (under bounded P) c) (followed (under plain P) c)
  followed_below c = reply_below 0 (turns_followed (under bounded P) c.turns 1) (turns_followed (under plain P) c.turns 1) (turns_below c.turns 1) _ _ (start_below P c.choices)
