-- What statements assign where they stand, one kind after another.
use Rattle.std.proofs.Common.{◌≡◌, List, [], Bool, true, false, ◌||◌, Option, Some, None, refl, sym, ap, ◌∙◌, cond, bytes_eq}
use Rattle.std.specs.List.{list_any}
use Rattle.tla_tree.specs.Tree.{Name, Trees}
use Rattle.pcal_tree.specs.Algorithm.{call}
use Rattle.pcal_tree.specs.Paths.{Effect, nothing}
use Rattle.pcal_tree.specs.OffencesSteps.{effect_with}
use Rattle.pcal_tree.specs.Run.{Partner, no_partner, goto_partner, return_partner, is_return}
use Rattle.pcal_tree.specs.laws.MacroSummaries.{Summary}
use Rattle.label_steps.specs.declared.around.Around.{Around}
use Rattle.label_steps.specs.declared.sides.Step.{Step}
use Rattle.label_steps.specs.AroundIn.{is_own, effects_around}
use Rattle.label_steps.specs.KnownIn.{Assigns}

-- a call, with what comes behind it
called_own : (a : Around) (ms : List Summary) (x : Name) (ts : Trees) (j : Partner)
    → effect_with (effects_around a ms) (call x ts) j ≡ record { variables = cond (is_return j || is_own a.name x.word) a.own.items []; twice = false }
called_own a ms x ts j = by a.name j
  where
    chosen : (b : Bool) → cond b (record { variables = a.own.items; twice = false }) nothing ≡ record { variables = cond b a.own.items []; twice = false }
    chosen true = refl
    chosen false = refl

    by : (n : Option Name) (j : Partner) → effect_with (effects_around (record { known = a.known; name = n; own = a.own }) ms) (call x ts) j ≡ record { variables = cond (is_return j || is_own n x.word) a.own.items []; twice = false }
    by n (return_partner at) = refl
    by None no_partner = refl
    by None (goto_partner l) = refl
    by (Some p) no_partner = chosen (bytes_eq p.word x.word)
    by (Some p) (goto_partner l) = chosen (bytes_eq p.word x.word)

pub step_of_call : (a : Around) (ms : List Summary) (x : Name) (ts : Trees) (j : Partner) (b : Bool) (r : Step) → b ≡ is_return j → r.names.items ≡ cond (b || is_own a.name x.word) a.own.items [] → r.twice ≡ false
    → Assigns r (effect_with (effects_around a ms) (call x ts) j)
step_of_call a ms x ts j b r e n t = record {
  names = λ f. ap (list_any f) (n ∙ ap (λ (c : Bool). cond (c || is_own a.name x.word) a.own.items []) e ∙ sym (ap (λ (d : Effect). d.variables) (called_own a ms x ts j)));
  twice = t ∙ sym (ap (λ (d : Effect). d.twice) (called_own a ms x ts j));
}
