-- They are.
use Rattle.std.proofs.Common.{◌≡◌, Bool, true, false, not, ◌&&◌, cond, bytes_eq, refl, ◌∙◌}
use Rattle.tla_token.specs.Signs.{is_among}
use Rattle.read_rules.proofs.CallsAsSets.{among_without, reached_same}
use Rattle.read_rules.proofs.laws.calls_are_a_set.Goals as goal

neither : (a b : Bool) → cond a false b ≡ (not a && b)
neither true b = refl
neither false b = refl

pub returns-clause-reached : goal.returns-clause-reached
returns-clause-reached c = reached_same

pub returns-clause-without : goal.returns-clause-without
returns-clause-without c = λ x ms y. among_without x ms y ∙ neither (bytes_eq x y) (is_among ms y)
