-- Where a label is missing, and what is assigned twice, rests on no place: without its places an algorithm offends against the same of these rules, in the same order.
use Rattle.std.proofs.Common.{◌≡◌, List, [], ◌∷◌, ◌++◌, map, Bool, true, false, ◌||◌, cond, bytes_eq, Option, Some, None, option_map, refl, sym, ap, ◌∙◌}
use Rattle.std.specs.List.{flat_map, list_any}
use Rattle.std.specs.Option.{option_or}
use Rattle.std.proofs.lemmas.List.{map-append}
use Rattle.tla_token.specs.declared.place.Place.{Place}
use Rattle.tla_token.specs.declared.rule.Rule.{Rule}
use Rattle.tla_token.specs.declared.rule.Rule.TheVariants.{AfterJump, AfterBranch, AssignTwice}
use Rattle.tla_token.specs.declared.rule.Refusal.{Refusal}
use Rattle.tla_tree.specs.Tree.{Word, Tree, Trees, Graft}
use Rattle.tla_tree.specs.laws.Placeless.{names_placeless, tree_placeless, trees_placeless}
use Rattle.pcal_tree.specs.Algorithm.{nowhere, Name, Assignments, no_assignments, assignment, Statement, assign, branch, either, with, while, goto, macro, call, return, Statements, done, then, mark, Branches, no_branches, or, Macro}
use Rattle.pcal_tree.specs.Expand.{graft_all}
use Rattle.pcal_tree.specs.Offences.{offence_if}
use Rattle.pcal_tree.specs.OffencesSteps.{holds_one, holds, holds_some, due_after, Before, at_label, inside, next, Visit, visits_inside, visits, visits_of_some, due_offence, while_offence, missing_label, effect_with, assigns_twice, offences_at, step_offences, in_macro, body_visits, reached_variables, effect_of_body, called_with, effect_within}
use Rattle.pcal_tree.specs.Paths.{some_word, roots, Effect, Effects, assigned, Path, joined, rounds, after_one, after, after_some, is_reached, has_assigned}
use Rattle.pcal_tree.specs.Placeless.{assignments_placeless, statement_placeless, statements_placeless, branches_placeless, macros_placeless}
use Rattle.pcal_tree.specs.Run.{Partner, no_partner, goto_partner, return_partner, partner_of, is_pair, arguments}
use Rattle.translation.proofs.PlacelessItems.{partner_placeless, partner_bare}
use Rattle.translation.proofs.WritableBare.{root_bare, clashes_bare, grafted_all, arguments_bare}

-- ---- the rules that are offended, without places

abbrev pub rules : List Refusal → List Rule
rules rs = map (λ (r : Refusal). r.rule) rs

pub rules_two : (xs ys us vs : List Refusal) → rules xs ≡ rules us → rules ys ≡ rules vs → rules (xs ++ ys) ≡ rules (us ++ vs)
rules_two xs ys us vs e d = map-append (λ (r : Refusal). r.rule) xs ys ∙ (λ i. e i ++ d i) ∙ sym (map-append (λ (r : Refusal). r.rule) us vs)

if_anywhere : (b : Bool) (r : Rule) (p q : Place) → rules (offence_if b r p) ≡ rules (offence_if b r q)
if_anywhere true r p q = refl
if_anywhere false r p q = refl

pub rules_if : (b c : Bool) (r : Rule) (p q : Place) → b ≡ c → rules (offence_if b r p) ≡ rules (offence_if c r q)
rules_if b c r p q e = ap (λ (d : Bool). rules (offence_if d r p)) e ∙ if_anywhere c r p q

-- of each thing, and of it without places
pub rules_each : {X Y : Type 0} (h : X → Y) (f : Y → List Refusal) (g : X → List Refusal) → ((x : X) → rules (f (h x)) ≡ rules (g x)) → (xs : List X) → rules (flat_map f (map h xs)) ≡ rules (flat_map g xs)
rules_each h f g e [] = refl
rules_each h f g e (x ∷ xs) = rules_two (f (h x)) (flat_map f (map h xs)) (g x) (flat_map g xs) (e x) (rules_each h f g e xs)

-- ---- statements

mutual
  holds_one_bare : (st : Statement) → holds_one (statement_placeless st) ≡ holds_one st
  holds_one_bare (branch e a b) = λ i. holds_bare a i || holds_bare b i
  holds_one_bare (either bs) = holds_some_bare bs
  holds_one_bare (with bs b) = holds_bare b
  holds_one_bare (while e b) = holds_bare b
  holds_one_bare st = refl

  holds_bare : (b : Statements) → holds (statements_placeless b) ≡ holds b
  holds_bare done = refl
  holds_bare (mark n k rest) = refl
  holds_bare (then at st rest) = λ i. holds_one_bare st i || holds_bare rest i

  holds_some_bare : (bs : Branches) → holds_some (branches_placeless bs) ≡ holds_some bs
  holds_some_bare no_branches = refl
  holds_some_bare (or b bs) = λ i. holds_bare b i || holds_some_bare bs i

pair_bare : (j : Partner) → is_pair (partner_placeless j) ≡ is_pair j
pair_bare no_partner = refl
pair_bare j = refl

due_bare : (st : Statement) (j : Partner) → due_after (statement_placeless st) (partner_placeless j) ≡ due_after st j
due_bare (branch e a b) j = λ i. cond (holds_bare a i || holds_bare b i) (Some AfterBranch) None
due_bare (either bs) j = λ i. cond (holds_some_bare bs i) (Some AfterBranch) None
due_bare (with bs b) j = λ i. cond (holds_bare b i) (Some AfterBranch) None
due_bare (call p ts) j = λ i. cond (pair_bare j i) None (Some AfterJump)
due_bare st j = refl

roots_bare : (ms : Assignments) → roots (assignments_placeless ms) ≡ roots ms
roots_bare no_assignments = refl
roots_bare (assignment l e ms) = λ i. some_word (root_bare l i) ++ roots_bare ms i

pub assigned_bare : (st : Statement) → assigned (statement_placeless st) ≡ assigned st
assigned_bare (assign ms) = λ i. record { variables = roots_bare ms i; twice = clashes_bare ms i }
assigned_bare st = refl

abbrev pub visit_placeless : Visit → Visit
visit_placeless v = record { before = v.before; place = nowhere; statement = statement_placeless v.statement; partner = partner_placeless v.partner }

missing_bare : (p : Before) (at : Place) (st : Statement) (j k : Partner)
    → rules (missing_label (record { before = p; place = nowhere; statement = statement_placeless st; partner = k })) ≡ rules (missing_label (record { before = p; place = at; statement = st; partner = j }))
missing_bare p at st j k = by p.labelled
  where
    due : (r : Option Rule) → rules (due_offence r nowhere) ≡ rules (due_offence r at)
    due None = refl
    due (Some r) = refl

    loop : (s : Statement) → rules (while_offence (statement_placeless s) nowhere) ≡ rules (while_offence s at)
    loop (while e b) = refl
    loop s = refl

    by : (b : Bool) → rules (cond b [] (due_offence p.due nowhere ++ while_offence (statement_placeless st) nowhere)) ≡ rules (cond b [] (due_offence p.due at ++ while_offence st at))
    by true = refl
    by false = rules_two (due_offence p.due nowhere) (while_offence (statement_placeless st) nowhere) (due_offence p.due at) (while_offence st at) (due p.due) (loop st)

-- where F says of what is without places what E says of it with them
module _ (E F : Effects) (same : (st : Statement) → F (statement_placeless st) ≡ E st) where
  mutual
    pub after_one_bare : (st : Statement) (l : Bool) (p : Path) → after_one F (statement_placeless st) l p ≡ after_one E st l p
    after_one_bare (branch e a b) l p = λ i. joined (after_bare a false p i) (after_bare b false p i)
    after_one_bare (either bs) l p = after_some_bare bs p
    after_one_bare (with bs b) l p = after_bare b false p
    after_one_bare (while e b) l p = λ i. cond l p (rounds joined (λ q. after_bare b false q i) p)
    after_one_bare (goto n) l p = refl
    after_one_bare (call n ts) l p = refl
    after_one_bare return l p = refl
    after_one_bare st l p = λ i. option_map (λ xs. (same st i).variables ++ xs) p

    after_bare : (b : Statements) (l : Bool) (p : Path) → after F (statements_placeless b) l p ≡ after E b l p
    after_bare done l p = refl
    after_bare (mark n k rest) l p = after_bare rest true (Some [])
    after_bare (then at st rest) l p =
        ap (λ (q : Path). after F (statements_placeless rest) false q) (after_one_bare st l p) ∙ after_bare rest false (after_one E st l p)

    after_some_bare : (bs : Branches) (p : Path) → after_some F (branches_placeless bs) p ≡ after_some E bs p
    after_some_bare no_branches p = refl
    after_some_bare (or b bs) p = λ i. joined (after_bare b false p i) (after_some_bare bs p i)

  pub next_bare : (p : Before) (st : Statement) (j : Partner) → next F p (statement_placeless st) (partner_placeless j) ≡ next E p st j
  next_bare p st j = λ i. record { labelled = false; due = due_bare st j i; path = after_one_bare st p.labelled p.path i }

  mutual
    pub inside_bare : (p : Before) (st : Statement) → visits_inside F p (statement_placeless st) ≡ map visit_placeless (visits_inside E p st)
    inside_bare p (branch e a b) =
        (λ i. visits_bare (inside p.path) a i ++ visits_bare (inside p.path) b i) ∙ sym (map-append visit_placeless (visits E (inside p.path) a) (visits E (inside p.path) b))
    inside_bare p (either bs) = some_visits_bare (inside p.path) bs
    inside_bare p (with bs b) = visits_bare (inside p.path) b
    inside_bare p (while e b) =
        ap (λ (q : Path). visits F (inside q) (statements_placeless b)) (after_one_bare (while e b) p.labelled p.path)
        ∙ visits_bare (inside (after_one E (while e b) p.labelled p.path)) b
    inside_bare p st = refl

    pub visits_bare : (p : Before) (b : Statements) → visits F p (statements_placeless b) ≡ map visit_placeless (visits E p b)
    visits_bare p done = refl
    visits_bare p (mark n k rest) = visits_bare at_label rest
    visits_bare p (then at st rest) =
        (λ i. here (partner_bare rest i) ∷ (visits_inside F p (statement_placeless st) ++ visits F (next F p (statement_placeless st) (partner_bare rest i)) (statements_placeless rest)))
        ∙ (λ i. here (partner_placeless (partner_of rest)) ∷ (inside_bare p st i ++ visits F (next_bare p st (partner_of rest) i) (statements_placeless rest)))
        ∙ (λ i. here (partner_placeless (partner_of rest)) ∷ (map visit_placeless (visits_inside E p st) ++ visits_bare (next E p st (partner_of rest)) rest i))
        ∙ sym (ap (λ vs. here (partner_placeless (partner_of rest)) ∷ vs) (map-append visit_placeless (visits_inside E p st) (visits E (next E p st (partner_of rest)) rest)))
      where
        here : Partner → Visit
        here j = record { before = p; place = nowhere; statement = statement_placeless st; partner = j }

    some_visits_bare : (p : Before) (bs : Branches) → visits_of_some F p (branches_placeless bs) ≡ map visit_placeless (visits_of_some E p bs)
    some_visits_bare p no_branches = refl
    some_visits_bare p (or b bs) =
        (λ i. visits_bare p b i ++ some_visits_bare p bs i) ∙ sym (map-append visit_placeless (visits E p b) (visits_of_some E p bs))

  effect_bare : (st : Statement) (j : Partner) → effect_with F (statement_placeless st) (partner_placeless j) ≡ effect_with E st j
  effect_bare (call p ts) (return_partner at) = same return
  effect_bare (call p ts) no_partner = same (call p ts)
  effect_bare (call p ts) (goto_partner l) = same (call p ts)
  effect_bare st j = same st

  twice_bare : (v : Visit) → assigns_twice F (visit_placeless v) ≡ assigns_twice E v
  twice_bare v = ap (λ (e : Effect). e.twice || has_assigned v.before.path e.variables) (effect_bare v.statement v.partner)

  pub offences_bare : (v : Visit) → rules (offences_at F (visit_placeless v)) ≡ rules (offences_at E v)
  offences_bare v =
      rules_two (missing_label (visit_placeless v)) (offence_if (assigns_twice F (visit_placeless v)) AssignTwice nowhere) (missing_label v) (offence_if (assigns_twice E v) AssignTwice v.place)
      (missing_bare v.before v.place v.statement v.partner (partner_placeless v.partner))
      (rules_if (assigns_twice F (visit_placeless v)) (assigns_twice E v) AssignTwice nowhere v.place (twice_bare v))

  all_offences_bare : (vs : List Visit) → rules (flat_map (offences_at F) (map visit_placeless vs)) ≡ rules (flat_map (offences_at E) vs)
  all_offences_bare = rules_each visit_placeless (offences_at F) (offences_at E) offences_bare

  pub inside_offences_bare : (p : Before) (st : Statement) → rules (flat_map (offences_at F) (visits_inside F p (statement_placeless st))) ≡ rules (flat_map (offences_at E) (visits_inside E p st))
  inside_offences_bare p st = ap (λ (vs : List Visit). rules (flat_map (offences_at F) vs)) (inside_bare p st) ∙ all_offences_bare (visits_inside E p st)

  pub step_offences_bare : (p : Before) (b : Statements) → rules (step_offences F p (statements_placeless b)) ≡ rules (step_offences E p b)
  step_offences_bare p b = ap (λ (vs : List Visit). rules (flat_map (offences_at F) vs)) (visits_bare p b) ∙ all_offences_bare (visits E p b)

  -- ---- what a macro's body assigns

  reached_bare : (vs : List Visit) → flat_map (reached_variables F) (map visit_placeless vs) ≡ flat_map (reached_variables E) vs
  reached_bare [] = refl
  reached_bare (v ∷ vs) = λ i. cond (is_reached v.before.path) (effect_bare v.statement v.partner i).variables [] ++ reached_bare vs i

  some_twice_bare : (vs : List Visit) → list_any (assigns_twice F) (map visit_placeless vs) ≡ list_any (assigns_twice E) vs
  some_twice_bare [] = refl
  some_twice_bare (v ∷ vs) = λ i. twice_bare v i || some_twice_bare vs i

  body_bare : (b : Statements) → effect_of_body F (statements_placeless b) ≡ effect_of_body E b
  body_bare b =
      ap (λ (vs : List Visit). record { variables = flat_map (reached_variables F) vs; twice = list_any (assigns_twice F) vs }) (visits_bare (inside (Some [])) b)
      ∙ (λ i. record { variables = reached_bare (body_visits E b) i; twice = some_twice_bare (body_visits E b) i })

-- ---- what macro calls assign

abbrev SameGraft : Graft → Graft → Type 0
SameGraft g k = (x : Word) (at : Place) → k x nowhere ≡ option_map tree_placeless (g x at)

called_bare : (ps : List Name) (ts : Trees) (g k : Graft) → SameGraft g k → SameGraft (called_with ps ts g) (called_with (names_placeless ps) (trees_placeless ts) k)
called_bare ps ts g k same x at = (λ i. option_or (arguments_bare ps ts x at i) (same x at i)) ∙ by (arguments ps ts x at) (g x at)
  where
    by : (o q : Option Tree) → option_or (option_map tree_placeless o) (option_map tree_placeless q) ≡ option_map tree_placeless (option_or o q)
    by None q = refl
    by (Some t) q = refl

in_macro_bare : (C D : Word → Trees → Effect) → ((m : Word) (ts : Trees) → D m (trees_placeless ts) ≡ C m ts) → (st : Statement) → in_macro D (statement_placeless st) ≡ in_macro C st
in_macro_bare C D same (macro m ts) = same m ts
in_macro_bare C D same (assign ms) = assigned_bare (assign ms)
in_macro_bare C D same st = refl

pub within_bare : (ms : List Macro) (g k : Graft) → SameGraft g k → (m : Word) (ts : Trees) → effect_within (macros_placeless ms) k m (trees_placeless ts) ≡ effect_within ms g m ts
within_bare [] g k same m ts = refl
within_bare (d ∷ older) g k same m ts =
    λ i. cond (bytes_eq d.name.word m) (body (within_bare older outer bare (called_bare d.params ts g k same)) i) (within_bare older g k same m ts i)
  where
    outer : Graft
    outer = called_with d.params ts g

    bare : Graft
    bare = called_with (names_placeless d.params) (trees_placeless ts) k

    body : ((n : Word) (us : Trees) → effect_within (macros_placeless older) bare n (trees_placeless us) ≡ effect_within older outer n us)
        → effect_of_body (in_macro (effect_within (macros_placeless older) bare)) (graft_all bare (statements_placeless d.body)) ≡ effect_of_body (in_macro (effect_within older outer)) (graft_all outer d.body)
    body calls =
        ap (effect_of_body (in_macro (effect_within (macros_placeless older) bare))) (sym (grafted_all outer bare (called_bare d.params ts g k same) d.body))
        ∙ body_bare (in_macro (effect_within older outer)) (in_macro (effect_within (macros_placeless older) bare))
        (in_macro_bare (effect_within older outer) (effect_within (macros_placeless older) bare) calls) (graft_all outer d.body)
