-- Labels are added before the statements for which that was decided.
use Rattle.std.proofs.Common.{◌≡◌, List, [], ◌∷◌, Bool, true, false, ◌||◌, Option, Some, None, cond, reverse, refl, sym, ap, ◌∙◌}
use Rattle.tla_token.specs.declared.place.Place.{Place}
use Rattle.tla_token.specs.declared.rule.Rule.{Rule}
use Rattle.tla_token.specs.declared.rule.Rule.TheVariants.{FirstLabel, AfterBranch}
use Rattle.tla_tree.specs.Tree.{Word, Trees, Tree}
use Rattle.pcal_tree.specs.Algorithm.{Span, Statement, assign, await, print, assert, skip, branch, either, with, while, goto, macro, call, return, Statements, done, then, mark, Branches, no_branches, or, Macro, Procedure, Process, Main, alone, processes, Algorithm}
use Rattle.pcal_tree.specs.Run.{Partner, partner_of}
use Rattle.pcal_tree.specs.Paths.{Effect, Effects, Path, joined, rounds, nothing, after_one, after, after_some}
use Rattle.pcal_tree.specs.OffencesSteps.{Before, holds_one, holds, holds_some, due_after, at_label, at_first, inside, procedure_effects, outer_effects}
use Rattle.pcal_tree.specs.Labelled.{Supply, names_after, labelled_if, needs_label, before, add_inside, add, add_some, add_to_macros, add_to_procedures, add_to_processes, add_to_main, with_labels}
use Rattle.added_labels.specs.Decided.{stand, held_inside, due_behind, path_behind, behind, held, ending, held_some, path_behind_some, chosen_inside, chosen, chosen_some}
use Rattle.placed_labels.specs.Placed.{Plan, past_inside, past, past_some, placed_inside, placed, placed_some}
use Rattle.added_labels.specs.Bodies.{past_macro, macros_with, past_macros, past_procedure, procedures_with, past_procedures, process_with, past_process, each_with, main_with, all_with, all_names}

abbrev pub plan : List Bool → Supply → Plan
plan ws s = record { wanted = ws; names = s }

-- ---- what is left of a plan

abbrev is_left : (k : Plan) (ws : List Bool) → k.wanted ≡ ws → k ≡ plan ws k.names
is_left k ws h = λ i. plan (h i) k.names

mutual
  left_inside : (E : Effects) (p : Path) (s : Supply) (st : Statement) (more : List Bool) → (past_inside (plan (chosen_inside E p st more) s) st).wanted ≡ more
  left_inside E p s (branch e a b) more =
      let k = past (plan (chosen E (inside p) a (chosen E (inside p) b more)) s) a in
      ap (λ (j : Plan). (past j b).wanted) (is_left k (chosen E (inside p) b more) (left_all E (inside p) s a (chosen E (inside p) b more)))
      ∙ left_all E (inside p) k.names b more
  left_inside E p s (either bs) more = left_some E p s bs more
  left_inside E p s (while e b) more = left_all E (inside p) s b more
  left_inside E p s (with bs b) more = refl
  left_inside E p s (assign ms) more = refl
  left_inside E p s (await e) more = refl
  left_inside E p s (print e) more = refl
  left_inside E p s (assert e) more = refl
  left_inside E p s skip more = refl
  left_inside E p s (goto n) more = refl
  left_inside E p s (macro m ts) more = refl
  left_inside E p s (call n ts) more = refl
  left_inside E p s return more = refl

  left_all : (E : Effects) (p : Before) (s : Supply) (b : Statements) (more : List Bool) → (past (plan (chosen E p b more) s) b).wanted ≡ more
  left_all E p s done more = refl
  left_all E p s (mark n m rest) more = left_all E at_label s rest more
  left_all E p s (then at st rest) more =
      let n = needs_label E p at st (partner_of rest) in
      let q = (stand E p at st (partner_of rest)).path in
      let ws = chosen E (behind E q st (partner_of rest)) rest more in
      let k = past_inside (plan (chosen_inside E q st ws) (names_after n s)) st in
      ap (λ (j : Plan). (past j rest).wanted) (is_left k ws (left_inside E q (names_after n s) st ws)) ∙ left_all E (behind E q st (partner_of rest)) k.names rest more

  left_some : (E : Effects) (p : Path) (s : Supply) (bs : Branches) (more : List Bool) → (past_some (plan (chosen_some E p bs more) s) bs).wanted ≡ more
  left_some E p s no_branches more = refl
  left_some E p s (or b bs) more =
      let ws = chosen_some E p bs more in
      let k = past (plan (chosen E (inside p) b ws) s) b in
      ap (λ (j : Plan). (past_some j bs).wanted) (is_left k ws (left_all E (inside p) s b ws)) ∙ left_some E p k.names bs more

-- ---- labels and jumps, with the added ones

holds_if : (n : Bool) (s : Supply) (at : Place) (b : Statements) → holds (labelled_if n s at b) ≡ (n || holds b)
holds_if true s at b = refl
holds_if false s at b = refl

mutual
  holds_inside : (E : Effects) (p : Path) (s : Supply) (st : Statement) (more : List Bool) → holds_one (placed_inside (plan (chosen_inside E p st more) s) st) ≡ held_inside E p st
  holds_inside E p s (branch e a b) more =
      let ws = chosen E (inside p) b more in
      let k = past (plan (chosen E (inside p) a ws) s) a in
      λ i. holds_all E (inside p) s a ws i || (ap (λ (j : Plan). holds (placed j b)) (is_left k ws (left_all E (inside p) s a ws)) ∙ holds_all E (inside p) k.names b more) i
  holds_inside E p s (either bs) more = holds_in_some E p s bs more
  holds_inside E p s (while e b) more = holds_all E (inside p) s b more
  holds_inside E p s (with bs b) more = refl
  holds_inside E p s (assign ms) more = refl
  holds_inside E p s (await e) more = refl
  holds_inside E p s (print e) more = refl
  holds_inside E p s (assert e) more = refl
  holds_inside E p s skip more = refl
  holds_inside E p s (goto n) more = refl
  holds_inside E p s (macro m ts) more = refl
  holds_inside E p s (call n ts) more = refl
  holds_inside E p s return more = refl

  holds_all : (E : Effects) (p : Before) (s : Supply) (b : Statements) (more : List Bool) → holds (placed (plan (chosen E p b more) s) b) ≡ held E p b
  holds_all E p s done more = refl
  holds_all E p s (mark n m rest) more = refl
  holds_all E p s (then at st rest) more =
      let n = needs_label E p at st (partner_of rest) in
      let q = (stand E p at st (partner_of rest)).path in
      let ws = chosen E (behind E q st (partner_of rest)) rest more in
      let k = past_inside (plan (chosen_inside E q st ws) (names_after n s)) st in
      holds_if n s at.first (then at (placed_inside (plan (chosen_inside E q st ws) (names_after n s)) st) (placed k rest))
      ∙ (λ i. n || (holds_inside E q (names_after n s) st ws i
      || (ap (λ (j : Plan). holds (placed j rest)) (is_left k ws (left_inside E q (names_after n s) st ws)) ∙ holds_all E (behind E q st (partner_of rest)) k.names rest more) i))

  holds_in_some : (E : Effects) (p : Path) (s : Supply) (bs : Branches) (more : List Bool) → holds_some (placed_some (plan (chosen_some E p bs more) s) bs) ≡ held_some E p bs
  holds_in_some E p s no_branches more = refl
  holds_in_some E p s (or b bs) more =
      let ws = chosen_some E p bs more in
      let k = past (plan (chosen E (inside p) b ws) s) b in
      λ i. holds_all E (inside p) s b ws i || (ap (λ (j : Plan). holds_some (placed_some j bs)) (is_left k ws (left_all E (inside p) s b ws)) ∙ holds_in_some E p k.names bs more) i

due_placed : (E : Effects) (p : Path) (s : Supply) (st : Statement) (j : Partner) (more : List Bool)
    → due_after (placed_inside (plan (chosen_inside E p st more) s) st) j ≡ due_behind E p st j
due_placed E p s (branch e a b) j more = ap (λ (t : Bool). cond t (Some AfterBranch) None) (holds_inside E p s (branch e a b) more)
due_placed E p s (either bs) j more = ap (λ (t : Bool). cond t (Some AfterBranch) None) (holds_in_some E p s bs more)
due_placed E p s (while e b) j more = refl
due_placed E p s (with bs b) j more = refl
due_placed E p s (assign ms) j more = refl
due_placed E p s (await e) j more = refl
due_placed E p s (print e) j more = refl
due_placed E p s (assert e) j more = refl
due_placed E p s skip j more = refl
due_placed E p s (goto n) j more = refl
due_placed E p s (macro m ts) j more = refl
due_placed E p s (call n ts) j more = refl
due_placed E p s return j more = refl

-- ---- paths

-- before a loop there is a label
abbrev Loops : Bool → Statement → Type 0
Loops l (while e b) = l ≡ true
Loops l st = Unit {0}

loop_stands : (E : Effects) (l : Bool) (r : Option Rule) (p : Path) (at : Span) (e : Tree) (b : Statements) (j : Partner)
    → (stand E (record { labelled = l; due = r; path = p }) at (while e b) j).labelled ≡ true
loop_stands E true r p at e b j = refl
loop_stands E false None p at e b j = refl
loop_stands E false (Some r) p at e b j = refl

stands : (E : Effects) (p : Before) (at : Span) (st : Statement) (j : Partner) → Loops (stand E p at st j).labelled st
stands E p at (while e b) j = loop_stands E p.labelled p.due p.path at e b j
stands E p at (branch e a b) j = tt
stands E p at (either bs) j = tt
stands E p at (with bs b) j = tt
stands E p at (assign ms) j = tt
stands E p at (await e) j = tt
stands E p at (print e) j = tt
stands E p at (assert e) j = tt
stands E p at skip j = tt
stands E p at (goto n) j = tt
stands E p at (macro m ts) j = tt
stands E p at (call n ts) j = tt
stands E p at return j = tt

after_if : (E : Effects) (n : Bool) (p : Before) (s : Supply) (at : Place) (sp : Span) (st : Statement) (r : Statements)
    → after E (labelled_if n s at (then sp st r)) p.labelled p.path ≡ after E r false (after_one E st (before n p).labelled (before n p).path)
after_if E true p s at sp st r = refl
after_if E false p s at sp st r = refl

mutual
  path_inside : (E : Effects) (l : Bool) (p : Path) (s : Supply) (st : Statement) (more : List Bool) → Loops l st
      → after_one E (placed_inside (plan (chosen_inside E p st more) s) st) l p ≡ path_behind E p st
  path_inside E l p s (branch e a b) more h =
      let ws = chosen E (inside p) b more in
      let k = past (plan (chosen E (inside p) a ws) s) a in
      λ i. joined (path_all E (inside p) s a ws i) ((ap (λ (j : Plan). after E (placed j b) false p) (is_left k ws (left_all E (inside p) s a ws)) ∙ path_all E (inside p) k.names b more) i)
  path_inside E l p s (either bs) more h = path_some E p s bs more
  path_inside E l p s (while e b) more h = ap (λ (t : Bool). cond t p (rounds joined (λ q. after E (placed (plan (chosen E (inside p) b more) s) b) false q) p)) h
  path_inside E l p s (with bs b) more h = refl
  path_inside E l p s (assign ms) more h = refl
  path_inside E l p s (await e) more h = refl
  path_inside E l p s (print e) more h = refl
  path_inside E l p s (assert e) more h = refl
  path_inside E l p s skip more h = refl
  path_inside E l p s (goto n) more h = refl
  path_inside E l p s (macro m ts) more h = refl
  path_inside E l p s (call n ts) more h = refl
  path_inside E l p s return more h = refl

  path_all : (E : Effects) (p : Before) (s : Supply) (b : Statements) (more : List Bool) → after E (placed (plan (chosen E p b more) s) b) p.labelled p.path ≡ (ending E p b).path
  path_all E p s done more = refl
  path_all E p s (mark n m rest) more = path_all E at_label s rest more
  path_all E p s (then at st rest) more =
      let n = needs_label E p at st (partner_of rest) in
      let q = stand E p at st (partner_of rest) in
      let ws = chosen E (behind E q.path st (partner_of rest)) rest more in
      let k = past_inside (plan (chosen_inside E q.path st ws) (names_after n s)) st in
      let st' = placed_inside (plan (chosen_inside E q.path st ws) (names_after n s)) st in
      after_if E n p s at.first at st' (placed k rest)
      ∙ (λ i. after E (placed (is_left k ws (left_inside E q.path (names_after n s) st ws) i) rest) false (path_inside E q.labelled q.path (names_after n s) st ws (stands E p at st (partner_of rest)) i))
      ∙ path_all E (behind E q.path st (partner_of rest)) k.names rest more

  path_some : (E : Effects) (p : Path) (s : Supply) (bs : Branches) (more : List Bool) → after_some E (placed_some (plan (chosen_some E p bs more) s) bs) p ≡ path_behind_some E p bs
  path_some E p s no_branches more = refl
  path_some E p s (or b bs) more =
      let ws = chosen_some E p bs more in
      let k = past (plan (chosen E (inside p) b ws) s) b in
      λ i. joined (path_all E (inside p) s b ws i) ((ap (λ (j : Plan). after_some E (placed_some j bs) p) (is_left k ws (left_all E (inside p) s b ws)) ∙ path_some E p k.names bs more) i)

-- ---- what is added

mutual
  adds_inside : {R : Type 0} (E : Effects) (l : Bool) (r : Option Rule) (p : Path) (s : Supply) (st : Statement) (more : List Bool) (go : Statement → Supply → R) → Loops l st
      → add_inside E (record { labelled = l; due = r; path = p }) s st go ≡ go (placed_inside (plan (chosen_inside E p st more) s) st) (past_inside (plan (chosen_inside E p st more) s) st).names
  adds_inside E l r p s (branch e a b) more go h =
      let ws = chosen E (inside p) b more in
      let k = past (plan (chosen E (inside p) a ws) s) a in
      adds E (inside p) s a ws _ ∙ adds E (inside p) k.names b more _
      ∙ ap (λ (j : Plan). go (branch e (placed (plan (chosen E (inside p) a ws) s) a) (placed j b)) (past j b).names) (sym (is_left k ws (left_all E (inside p) s a ws)))
  adds_inside E l r p s (either bs) more go h = adds_some E p s bs more _
  adds_inside {R = R} E l r p s (while e b) more go h =
      ap (λ (t : Bool). add E (inside (cond t p (rounds joined (λ q. after E b false q) p))) s b (λ b' t. go (while e b') t)) h ∙ adds E (inside p) s b more _
  adds_inside E l r p s (with bs b) more go h = refl
  adds_inside E l r p s (assign ms) more go h = refl
  adds_inside E l r p s (await e) more go h = refl
  adds_inside E l r p s (print e) more go h = refl
  adds_inside E l r p s (assert e) more go h = refl
  adds_inside E l r p s skip more go h = refl
  adds_inside E l r p s (goto n) more go h = refl
  adds_inside E l r p s (macro m ts) more go h = refl
  adds_inside E l r p s (call n ts) more go h = refl
  adds_inside E l r p s return more go h = refl

  adds : {R : Type 0} (E : Effects) (p : Before) (s : Supply) (b : Statements) (more : List Bool) (go : Statements → Supply → R)
      → add E p s b go ≡ go (placed (plan (chosen E p b more) s) b) (past (plan (chosen E p b more) s) b).names
  adds E p s done more go = refl
  adds E p s (mark n m rest) more go = adds E at_label s rest more _
  adds E p s (then at st rest) more go =
      let j = partner_of rest in
      let n = needs_label E p at st j in
      let q = stand E p at st j in
      let b = behind E q.path st j in
      let ws = chosen E b rest more in
      let st' = placed_inside (plan (chosen_inside E q.path st ws) (names_after n s)) st in
      let k = past_inside (plan (chosen_inside E q.path st ws) (names_after n s)) st in
      adds_inside E q.labelled q.due q.path (names_after n s) st ws _ (stands E p at st j)
      ∙ (λ i. add E (record { labelled = false; due = due_placed E q.path (names_after n s) st j ws i; path = path_inside E q.labelled q.path (names_after n s) st ws (stands E p at st j) i }) k.names rest
      (λ r u. go (labelled_if n s at.first (then at st' r)) u))
      ∙ adds E b k.names rest more _
      ∙ ap (λ (z : Plan). go (labelled_if n s at.first (then at st' (placed z rest))) (past z rest).names) (sym (is_left k ws (left_inside E q.path (names_after n s) st ws)))

  adds_some : {R : Type 0} (E : Effects) (p : Path) (s : Supply) (bs : Branches) (more : List Bool) (go : Branches → Supply → R)
      → add_some E (inside p) s bs go ≡ go (placed_some (plan (chosen_some E p bs more) s) bs) (past_some (plan (chosen_some E p bs more) s) bs).names
  adds_some E p s no_branches more go = refl
  adds_some E p s (or b bs) more go =
      let ws = chosen_some E p bs more in
      let k = past (plan (chosen E (inside p) b ws) s) b in
      adds E (inside p) s b ws _ ∙ adds_some E p k.names bs more _
      ∙ ap (λ (z : Plan). go (or (placed (plan (chosen E (inside p) b ws) s) b) (placed_some z bs)) (past_some z bs).names) (sym (is_left k ws (left_all E (inside p) s b ws)))

-- ---- algorithms

macros_added : {R : Type 0} (s : Supply) (ds : List Macro) (go : List Macro → Supply → R) → add_to_macros s ds go ≡ go (macros_with s ds) (past_macros s ds)
macros_added s [] go = refl
macros_added s (d ∷ ds) go = adds (λ st. nothing) (at_first None) s d.body [] _ ∙ macros_added (past_macro s d) ds _

procedures_added : {R : Type 0} (C : Word → Trees → Effect) (s : Supply) (ps : List Procedure) (go : List Procedure → Supply → R)
    → add_to_procedures C s ps go ≡ go (procedures_with C s ps) (past_procedures C s ps)
procedures_added C s [] go = refl
procedures_added C s (p ∷ ps) go = adds (procedure_effects C p) (at_first (Some FirstLabel)) s p.body [] _ ∙ procedures_added C (past_procedure C s p) ps _

processes_added : {R : Type 0} (C : Word → Trees → Effect) (s : Supply) (ps : List Process) (go : List Process → R)
    → add_to_processes C s ps go ≡ go (each_with (process_with C) (past_process C) s ps)
processes_added C s [] go = refl
processes_added C s (p ∷ ps) go = adds (outer_effects C) (at_first (Some FirstLabel)) s p.body [] _ ∙ processes_added C (past_process C s p) ps _

main_added : {R : Type 0} (C : Word → Trees → Effect) (s : Supply) (m : Main) (go : Main → R) → add_to_main C s m go ≡ go (main_with C s m)
main_added C s (alone b) go = adds (outer_effects C) (at_first (Some FirstLabel)) s b [] _
main_added C s (processes ps) go = processes_added C s ps _

pub all_added : (F : List Macro → Word → Trees → Effect) (root : Word) (a : Algorithm) → with_labels F root a ≡ all_with F (all_names root a) a
all_added F root a =
    macros_added (all_names root a) a.macros _
    ∙ procedures_added (F (reverse (macros_with (all_names root a) a.macros))) (past_macros (all_names root a) a.macros) a.procedures _
    ∙ main_added (F (reverse (macros_with (all_names root a) a.macros))) (past_procedures (F (reverse (macros_with (all_names root a) a.macros))) (past_macros (all_names root a) a.macros) a.procedures) a.main _
