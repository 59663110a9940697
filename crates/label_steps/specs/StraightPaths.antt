-- What paths have assigned where no label is missing: each loop has one, so no path goes round, and what is behind a statement with a label or a jump in it is
-- behind a label of its own.
use Rattle.std.specs.Prelude.{List, [], ◌∷◌, ◌++◌, Some, None, option_map}
use Rattle.std.specs.List.{flat_map}
use Rattle.tla_token.specs.declared.place.Place.{Place}
use Rattle.tla_token.specs.declared.rule.Refusal.{Refusal}
use Rattle.tla_tree.specs.Tree.{Word, Trees}
use Rattle.pcal_tree.specs.Algorithm.{Statement, branch, either, with, while, goto, call, return, Statements, done, then, mark, Branches, no_branches, or, Main, alone, processes, Algorithm}
use Rattle.pcal_tree.specs.Run.{Partner, partner_of}
use Rattle.pcal_tree.specs.Paths.{Effect, Effects, Path, joined}
use Rattle.pcal_tree.specs.OffencesSteps.{inside, Visit, procedure_effects, outer_effects}
use Rattle.label_steps.specs.AssignedTwice.{twice_at}

-- the path behind a statement, and behind a list of them up to its first label
abbrev mutual
  pub straight_one : Effects → Statement → Path → Path
  straight_one E (branch e a b) p = joined (straight E a p) (straight E b p)
  straight_one E (either bs) p = straight_some E bs p
  straight_one E (with bs b) p = straight E b p
  straight_one E (while e b) p = p
  straight_one E (goto n) p = None
  straight_one E (call n ts) p = None
  straight_one E return p = None
  straight_one E st p = option_map (λ xs. (E st).variables ++ xs) p

  pub straight : Effects → Statements → Path → Path
  straight E done p = p
  straight E (mark n k rest) p = p
  straight E (then at st rest) p = straight E rest (straight_one E st p)

  pub straight_some : Effects → Branches → Path → Path
  straight_some E no_branches p = None
  straight_some E (or b bs) p = joined (straight E b p) (straight_some E bs p)

-- all statements with the paths that lead to them
abbrev mutual
  pub straight_inside : Effects → Path → Statement → List Visit
  straight_inside E p (branch e a b) = straight_visits E p a ++ straight_visits E p b
  straight_inside E p (either bs) = straight_in_some E p bs
  straight_inside E p (with bs b) = straight_visits E p b
  straight_inside E p (while e b) = straight_visits E p b
  straight_inside E p _ = []

  pub straight_visits : Effects → Path → Statements → List Visit
  straight_visits E p done = []
  straight_visits E p (mark n k rest) = straight_visits E (Some []) rest
  straight_visits E p (then at st rest) =
      record { before = inside p; place = at.first; statement = st; partner = partner_of rest } ∷ (straight_inside E p st ++ straight_visits E (straight_one E st p) rest)

  pub straight_in_some : Effects → Path → Branches → List Visit
  straight_in_some E p no_branches = []
  straight_in_some E p (or b bs) = straight_visits E p b ++ straight_in_some E p bs

-- ---- variables that are assigned twice

abbrev pub straight_twice : Effects → Path → Statements → List Refusal
straight_twice E p b = flat_map (twice_at E) (straight_visits E p b)

-- of a statement with those in it, at a place and with what comes directly behind it
abbrev pub straight_met : Effects → Path → Place → Statement → Partner → List Refusal
straight_met E p at st j = flat_map (twice_at E) (record { before = inside p; place = at; statement = st; partner = j } ∷ straight_inside E p st)

abbrev pub straight_in_main : (Word → Trees → Effect) → Main → List Refusal
straight_in_main C (alone b) = straight_twice (outer_effects C) (Some []) b
straight_in_main C (processes ps) = flat_map (λ p. straight_twice (outer_effects C) (Some []) p.body) ps

abbrev pub straight_offences : (Word → Trees → Effect) → Algorithm → List Refusal
straight_offences C a = flat_map (λ p. straight_twice (procedure_effects C p) (Some []) p.body) a.procedures ++ straight_in_main C a.main
