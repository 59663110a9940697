-- Where labels are missing, whatever was assigned.
use Rattle.std.specs.Prelude.{List, [], ◌++◌, Bool, true, false, Option, Some, None, cond}
use Rattle.std.specs.List.{flat_map}
use Rattle.tla_token.specs.declared.place.Place.{Place}
use Rattle.tla_token.specs.declared.rule.Rule.{Rule}
use Rattle.tla_token.specs.declared.rule.Rule.TheVariants.{FirstLabel}
use Rattle.tla_token.specs.declared.rule.Refusal.{Refusal}
use Rattle.pcal_tree.specs.Algorithm.{Statement, branch, either, with, while, Statements, done, then, mark, Branches, no_branches, or, Main, alone, processes, Algorithm}
use Rattle.pcal_tree.specs.Run.{partner_of}
use Rattle.pcal_tree.specs.OffencesSteps.{due_after, due_offence, while_offence}

-- before a statement; true where a label is right before it, and the rule by which one must be there
abbrev pub due_before : Bool → Option Rule → Place → Statement → List Refusal
due_before l r at st = cond l [] (due_offence r at ++ while_offence st at)

abbrev mutual
  pub due_inside : Statement → List Refusal
  due_inside (branch e a b) = due_in false None a ++ due_in false None b
  due_inside (either bs) = due_in_some bs
  due_inside (with bs b) = due_in false None b
  due_inside (while e b) = due_in false None b
  due_inside _ = []

  pub due_in : Bool → Option Rule → Statements → List Refusal
  due_in l r done = []
  due_in l r (mark n k rest) = due_in true None rest
  due_in l r (then at st rest) = due_before l r at.first st ++ (due_inside st ++ due_in false (due_after st (partner_of rest)) rest)

  pub due_in_some : Branches → List Refusal
  due_in_some no_branches = []
  due_in_some (or b bs) = due_in false None b ++ due_in_some bs

-- of a body that has steps of its own
abbrev pub due_in_body : Statements → List Refusal
due_in_body b = due_in false (Some FirstLabel) b

abbrev pub due_in_main : Main → List Refusal
due_in_main (alone b) = due_in_body b
due_in_main (processes ps) = flat_map (λ p. due_in_body p.body) ps

abbrev pub missing_labels : Algorithm → List Refusal
missing_labels a = flat_map (λ d. due_in false None d.body) a.macros ++ (flat_map (λ p. due_in_body p.body) a.procedures ++ due_in_main a.main)
