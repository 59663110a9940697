-- Offences against the rules on labels and on sizes are of later rules than those on how an algorithm is spelled.
use Rattle.std.proofs.Common.{◌≡◌, List, [], ◌∷◌, ◌++◌, reverse, Bool, true, false, not, ◌||◌, cond, Option, Some, None, refl, sym, subst}
use Rattle.std.specs.Prelude.{codes}
use Rattle.std.specs.List.{flat_map}
use Rattle.std.proofs.lemmas.Grind.{flat_map-append}
use Rattle.tla_token.specs.declared.place.Place.{Place}
use Rattle.tla_token.specs.declared.rule.Rule.{Rule}
use Rattle.tla_token.specs.declared.rule.Rule.TheVariants.{FirstLabel, WhileLabel, AfterJump, AfterBranch, LabelInside, AssignTwice, UnknownLabel, ReturnOutside, DoubleLabel, TooLarge}
use Rattle.tla_token.specs.Signs.{is_among}
use Rattle.tla_tree.specs.Tree.{Word, Trees}
use Rattle.pcal_tree.specs.Algorithm.{Statement, assign, await, print, assert, skip, branch, either, with, while, goto, macro, call, return, Statements, done, then, mark, Branches, no_branches, or, Macro, Procedure, Process, Main, alone, processes, Algorithm}
use Rattle.pcal_tree.specs.Run.{Partner, partner_of, is_pair}
use Rattle.pcal_tree.specs.Offences.{offence_if}
use Rattle.pcal_tree.specs.OffencesLabels.{Label, labels, label_words, Within, within_with, jump_offences_here, jump_offences_inside, jump_offences, jump_offences_of_some, second_labels, misplaced, of_macro, of_procedure, of_body, of_main, label_offences}
use Rattle.pcal_tree.specs.OffencesSteps.{holds, holds_some, due_after, Before, at_label, at_first, inside, next, Visit, visits, visits_inside, visits_of_some, due_offence, while_offence, missing_label, assigns_twice, offences_at, step_offences, call_effect, missing_in_macro, missing_in_body, procedure_effects, outer_effects}
use Rattle.pcal_tree.specs.Paths.{Effect, Effects, nothing, after_one}
use Rattle.macro_expand.specs.Size.{expanded_size}
use Rattle.macro_expand.specs.TooLarge.{is_too_large, too_large}
use Rattle.file_answer.proofs.LaterNames.{AllLater, both, if_later, flat}

-- ---- labels that are missing, and variables that are assigned twice

-- rules by which a label may be missing
data IsDue : Option Rule → Type 0 where
  none_due : IsDue None
  first_due : IsDue (Some FirstLabel)
  jump_due : IsDue (Some AfterJump)
  branch_due : IsDue (Some AfterBranch)

if_due : (b : Bool) → IsDue (cond b (Some AfterBranch) None)
if_due true = branch_due
if_due false = none_due

behind_due : (st : Statement) (j : Partner) → IsDue (due_after st j)
behind_due (goto n) j = jump_due
behind_due (call p ts) j = by (is_pair j)
  where
    by : (b : Bool) → IsDue (cond b None (Some AfterJump))
    by true = none_due
    by false = jump_due
behind_due return j = jump_due
behind_due (branch e a b) j = if_due (holds a || holds b)
behind_due (either bs) j = if_due (holds_some bs)
behind_due (with bs b) j = if_due (holds b)
behind_due (assign ms) j = none_due
behind_due (await e) j = none_due
behind_due (print e) j = none_due
behind_due (assert e) j = none_due
behind_due skip j = none_due
behind_due (while e b) j = none_due
behind_due (macro m ts) j = none_due

due_later : (o : Option Rule) (at : Place) → IsDue o → AllLater (due_offence o at)
due_later _ at none_due = refl
due_later _ at first_due = refl
due_later _ at jump_due = refl
due_later _ at branch_due = refl

while_later : (st : Statement) (at : Place) → AllLater (while_offence st at)
while_later (while e b) at = refl
while_later _ at = refl

at_later : (E : Effects) (v : Visit) → IsDue v.before.due → AllLater (offences_at E v)
at_later E v h = both (missing_label v) _ (by v.before.labelled) (if_later (assigns_twice E v) AssignTwice v.place refl)
  where
    by : (b : Bool) → AllLater (cond b [] (due_offence v.before.due v.place ++ while_offence v.statement v.place))
    by true = refl
    by false = both (due_offence v.before.due v.place) _ (due_later v.before.due v.place h) (while_later v.statement v.place)

flat_both : (E : Effects) (vs ws : List Visit) → AllLater (flat_map (offences_at E) vs) → AllLater (flat_map (offences_at E) ws) → AllLater (flat_map (offences_at E) (vs ++ ws))
flat_both E vs ws h k = subst AllLater (sym (flat_map-append (offences_at E) vs ws)) (both (flat_map (offences_at E) vs) (flat_map (offences_at E) ws) h k)

mutual
  inside_later : (E : Effects) (p : Before) (st : Statement) → AllLater (flat_map (offences_at E) (visits_inside E p st))
  inside_later E p (branch e a b) = flat_both E (visits E (inside p.path) a) (visits E (inside p.path) b) (visits_later E (inside p.path) a none_due) (visits_later E (inside p.path) b none_due)
  inside_later E p (either bs) = some_later E (inside p.path) bs none_due
  inside_later E p (with bs b) = visits_later E (inside p.path) b none_due
  inside_later E p (while e b) = visits_later E (inside (after_one E (while e b) p.labelled p.path)) b none_due
  inside_later E p _ = refl

  visits_later : (E : Effects) (p : Before) (b : Statements) → IsDue p.due → AllLater (flat_map (offences_at E) (visits E p b))
  visits_later E p done h = refl
  visits_later E p (mark n k rest) h = visits_later E at_label rest none_due
  visits_later E p (then at st rest) h =
      both (offences_at E (record { before = p; place = at.first; statement = st; partner = partner_of rest })) _ (at_later E (record { before = p; place = at.first; statement = st; partner = partner_of rest }) h)
      (flat_both E (visits_inside E p st) (visits E (next E p st (partner_of rest)) rest) (inside_later E p st) (visits_later E (next E p st (partner_of rest)) rest (behind_due st (partner_of rest))))

  some_later : (E : Effects) (p : Before) (bs : Branches) → IsDue p.due → AllLater (flat_map (offences_at E) (visits_of_some E p bs))
  some_later E p no_branches h = refl
  some_later E p (or b bs) h = flat_both E (visits E p b) (visits_of_some E p bs) (visits_later E p b h) (some_later E p bs h)

-- ---- labels and jumps where none may be

jump_here_later : (w : Within) (at : Place) (st : Statement) → AllLater (jump_offences_here w at st)
jump_here_later w at (while e b) = if_later w.macro LabelInside at refl
jump_here_later w at (goto n) = both (offence_if w.macro LabelInside at) _ (if_later w.macro LabelInside at refl) (if_later (not (is_among w.targets n)) UnknownLabel at refl)
jump_here_later w at (call p ts) = if_later w.macro LabelInside at refl
jump_here_later w at return = both (offence_if w.macro LabelInside at) _ (if_later w.macro LabelInside at refl) (if_later (not w.procedure) ReturnOutside at refl)
jump_here_later w at _ = refl

mutual
  jump_inside_later : (w : Within) (st : Statement) → AllLater (jump_offences_inside w st)
  jump_inside_later w (branch e a b) = both (jump_offences w a) _ (jumps_later w a) (jumps_later w b)
  jump_inside_later w (either bs) = jumps_some_later w bs
  jump_inside_later w (with bs b) = jumps_later (within_with w) b
  jump_inside_later w (while e b) = jumps_later w b
  jump_inside_later w _ = refl

  jumps_later : (w : Within) (b : Statements) → AllLater (jump_offences w b)
  jumps_later w done = refl
  jumps_later w (mark n k rest) = both (offence_if (w.macro || w.with) LabelInside n.place) _ (if_later (w.macro || w.with) LabelInside n.place refl) (jumps_later w rest)
  jumps_later w (then at st rest) =
      both (jump_offences_here w at.first st) _ (jump_here_later w at.first st) (both (jump_offences_inside w st) _ (jump_inside_later w st) (jumps_later w rest))

  jumps_some_later : (w : Within) (bs : Branches) → AllLater (jump_offences_of_some w bs)
  jumps_some_later w no_branches = refl
  jumps_some_later w (or b bs) = both (jump_offences w b) _ (jumps_later w b) (jumps_some_later w bs)

second_later : (seen : List Word) (ls : List Label) → AllLater (second_labels seen ls)
second_later seen [] = refl
second_later seen (l ∷ ls) =
    both (offence_if (l.second || is_among seen l.name.word) DoubleLabel l.name.place) _ (if_later (l.second || is_among seen l.name.word) DoubleLabel l.name.place refl) (second_later (l.name.word ∷ seen) ls)

misplaced_later : (in_macro in_procedure : Bool) (b : Statements) → AllLater (misplaced in_macro in_procedure b)
misplaced_later m p b =
    let w : Within = record { macro = m; with = false; procedure = p; targets = codes "Done" ∷ label_words b } in
    both (jump_offences w b) _ (jumps_later w b) (second_later [] (labels false b))

-- ---- all of them

module _ (C : Word → Trees → Effect) where
  macro_later : (d : Macro) → AllLater (of_macro d)
  macro_later d = both (missing_in_macro d) _ (visits_later (λ st. nothing) (at_first None) d.body none_due) (misplaced_later true false d.body)

  procedure_later : (p : Procedure) → AllLater (of_procedure C p)
  procedure_later p = both (missing_in_body (procedure_effects C p) p.body) _ (visits_later (procedure_effects C p) (at_first (Some FirstLabel)) p.body first_due) (misplaced_later false true p.body)

  body_later : (b : Statements) → AllLater (of_body C b)
  body_later b = both (missing_in_body (outer_effects C) b) _ (visits_later (outer_effects C) (at_first (Some FirstLabel)) b first_due) (misplaced_later false false b)

  main_later : (m : Main) → AllLater (of_main C m)
  main_later (alone b) = body_later b
  main_later (processes ps) = flat (λ (p : Process). of_body C p.body) (λ p. body_later p.body) ps

pub labels_are_later : (a : Algorithm) → AllLater (label_offences a ++ too_large a)
labels_are_later a =
    let C = call_effect (reverse a.macros) in
    both (label_offences a) (too_large a)
    (both (flat_map of_macro a.macros) _ (flat of_macro (macro_later C) a.macros)
    (both (flat_map (of_procedure C) a.procedures) _ (flat (of_procedure C) (procedure_later C) a.procedures) (main_later C a.main)))
    (if_later (is_too_large (expanded_size a)) TooLarge a.name.place refl)
