-- Adding labels keeps places apart: the labels that are added to an algorithm without its places are those that are added to it with them.
use Rattle.std.proofs.Common.{◌≡◌, List, [], ◌∷◌, ◌++◌, reverse, Bool, true, false, ◌&&◌, not, Option, Some, None, option_map, refl, sym, ap, ◌∙◌}
use Rattle.tla_token.specs.declared.place.Place.{Place}
use Rattle.tla_token.specs.declared.rule.Rule.TheVariants.{FirstLabel}
use Rattle.tla_token.specs.declared.rule.Refusal.{Refusal}
use Rattle.tla_tree.specs.Tree.{Word, Trees}
use Rattle.tla_tree.specs.laws.Placeless.{name_placeless, names_placeless, tree_placeless, trees_placeless}
use Rattle.pcal_tree.specs.Algorithm.{nowhere, Span, Name, Statement, assign, branch, either, with, while, macro, call, Statements, done, then, mark, Branches, no_branches, or, Macro, Procedure, Process, Main, alone, processes, Algorithm}
use Rattle.pcal_tree.specs.Labelled.{Supply, names_after, labelled_if, inside_needs, needs_label, before, add_inside, add, add_some, add_to_macros, add_to_procedures, add_to_processes, add_to_main}
use Rattle.pcal_tree.specs.OffencesSteps.{Before, at_label, at_first, inside, next, nothing_put, call_effect, effects_in, procedure_effects, outer_effects}
use Rattle.pcal_tree.specs.Paths.{Effect, Effects, nothing, Path, after_one}
use Rattle.pcal_tree.specs.Placeless.{no_span, statement_placeless, statements_placeless, branches_placeless, declarations_placeless, macros_placeless, procedures_placeless, processes_placeless, main_placeless, placeless}
use Rattle.pcal_tree.specs.Run.{Partner, partner_of}
use Rattle.pcal_tree.specs.Tests.{is_empty}
use Rattle.pcal_tree.specs.Variables.{declared}
use Rattle.translation.proofs.AgainOffences.{rules, rules_two, assigned_bare, after_one_bare, next_bare, offences_bare, inside_offences_bare, within_bare}
use Rattle.translation.proofs.BareNames.{declarations_joined}
use Rattle.translation.proofs.NoPlaces.{declared_bare}
use Rattle.translation.proofs.PlacelessAlgorithm.{macros_reversed}
use Rattle.translation.proofs.PlacelessItems.{partner_placeless, partner_bare}

-- ---- whether a statement needs a label

none_of_rules : (rs : List Refusal) → is_empty (rules rs) ≡ is_empty rs
none_of_rules [] = refl
none_of_rules (r ∷ rs) = refl

empty_alike : (xs ys : List Refusal) → rules xs ≡ rules ys → is_empty xs ≡ is_empty ys
empty_alike xs ys e = sym (none_of_rules xs) ∙ ap is_empty e ∙ none_of_rules ys

labelled_bare : (b : Bool) (s : Supply) (at : Place) (rest : Statements) → labelled_if b s nowhere (statements_placeless rest) ≡ statements_placeless (labelled_if b s at rest)
labelled_bare true s at rest = refl
labelled_bare false s at rest = refl

-- where F says of what is without places what E says of it with them
module _ (E F : Effects) (same : (st : Statement) → F (statement_placeless st) ≡ E st) where
  within_with : (p : Before) (st : Statement) → rules (inside_needs F p (statement_placeless st)) ≡ rules (inside_needs E p st)
  within_with p (with bs b) = inside_offences_bare E F same p (with bs b)
  within_with p st = refl

  needs_bare : (p : Before) (at : Span) (st : Statement) (j : Partner) → needs_label F p no_span (statement_placeless st) (partner_placeless j) ≡ needs_label E p at st j
  needs_bare p at st j =
      ap (λ (b : Bool). not p.labelled && not b)
      (empty_alike _ _
      (rules_two _ (inside_needs F p (statement_placeless st)) _ (inside_needs E p st)
      (offences_bare E F same (record { before = p; place = at.first; statement = st; partner = j })) (within_with p st)))

  -- what follows takes the result to what is f of what followed
  module _ {R S : Type 0} (f : R → S) where
    mutual
      inside_added : (p : Before) (s : Supply) (st : Statement) (go : Statement → Supply → R) (k : Statement → Supply → S)
          → ((c : Statement) (t : Supply) → k (statement_placeless c) t ≡ f (go c t)) → add_inside F p s (statement_placeless st) k ≡ f (add_inside E p s st go)
      inside_added p s (branch e a b) go k h =
          added (inside p.path) s a (λ c t. add E (inside p.path) t b (λ d u. go (branch e c d) u)) (λ c t. add F (inside p.path) t (statements_placeless b) (λ d u. k (branch (tree_placeless e) c d) u))
          (λ c t. added (inside p.path) t b (λ d u. go (branch e c d) u) (λ d u. k (branch (tree_placeless e) (statements_placeless c) d) u) (λ d u. h (branch e c d) u))
      inside_added p s (either bs) go k h = some_added (inside p.path) s bs (λ cs t. go (either cs) t) (λ cs t. k (either cs) t) (λ cs t. h (either cs) t)
      inside_added p s (while e b) go k h =
          ap (λ (q : Path). add F (inside q) s (statements_placeless b) (λ c t. k (while (tree_placeless e) c) t)) (after_one_bare E F same (while e b) p.labelled p.path)
          ∙ added (inside (after_one E (while e b) p.labelled p.path)) s b (λ c t. go (while e c) t) (λ c t. k (while (tree_placeless e) c) t) (λ c t. h (while e c) t)
      inside_added p s st go k h = h st s

      pub added : (p : Before) (s : Supply) (b : Statements) (go : Statements → Supply → R) (k : Statements → Supply → S)
          → ((c : Statements) (t : Supply) → k (statements_placeless c) t ≡ f (go c t)) → add F p s (statements_placeless b) k ≡ f (add E p s b go)
      added p s done go k h = h done s
      added p s (mark n m rest) go k h = added at_label s rest (λ r t. go (mark n m r) t) (λ r t. k (mark (name_placeless n) m r) t) (λ r t. h (mark n m r) t)
      added p s (then at st rest) go k h =
          (λ i. on (partner_bare rest i) (needs_label F p no_span (statement_placeless st) (partner_bare rest i)))
          ∙ ap (on (partner_placeless (partner_of rest))) (needs_bare p at st (partner_of rest))
          ∙ inside_added (before n p) (names_after n s) st
          (λ c t. add E (next E (before n p) c (partner_of rest)) t rest (λ r u. go (labelled_if n s at.first (then at c r)) u))
          (λ c t. add F (next F (before n p) c (partner_placeless (partner_of rest))) t (statements_placeless rest) (λ r u. k (labelled_if n s nowhere (then no_span c r)) u))
          (λ c t. ap (λ (q : Before). add F q t (statements_placeless rest) (λ r u. k (labelled_if n s nowhere (then no_span (statement_placeless c) r)) u)) (next_bare E F same (before n p) c (partner_of rest))
          ∙ added (next E (before n p) c (partner_of rest)) t rest (λ r u. go (labelled_if n s at.first (then at c r)) u) (λ r u. k (labelled_if n s nowhere (then no_span (statement_placeless c) r)) u)
          (λ r u. ap (λ (d : Statements). k d u) (labelled_bare n s at.first (then at c r)) ∙ h (labelled_if n s at.first (then at c r)) u))
        where
          n : Bool
          n = needs_label E p at st (partner_of rest)

          on : Partner → Bool → S
          on j b =
              add_inside F (before b p) (names_after b s) (statement_placeless st)
              (λ c t. add F (next F (before b p) c j) t (statements_placeless rest) (λ r u. k (labelled_if b s nowhere (then no_span c r)) u))

      some_added : (p : Before) (s : Supply) (bs : Branches) (go : Branches → Supply → R) (k : Branches → Supply → S)
          → ((cs : Branches) (t : Supply) → k (branches_placeless cs) t ≡ f (go cs t)) → add_some F p s (branches_placeless bs) k ≡ f (add_some E p s bs go)
      some_added p s no_branches go k h = h no_branches s
      some_added p s (or b bs) go k h =
          added p s b (λ c t. add_some E p t bs (λ cs u. go (or c cs) u)) (λ c t. add_some F p t (branches_placeless bs) (λ cs u. k (or c cs) u))
          (λ c t. some_added p t bs (λ cs u. go (or c cs) u) (λ cs u. k (or (statements_placeless c) cs) u) (λ cs u. h (or c cs) u))

-- ---- algorithms

module _ (C D : Word → Trees → Effect) (same : (m : Word) (ts : Trees) → D m (trees_placeless ts) ≡ C m ts) where
  effects_bare : (p : Option Name) (xs : List Word) (st : Statement) → effects_in D (option_map name_placeless p) xs (statement_placeless st) ≡ effects_in C p xs st
  effects_bare p xs (macro m ts) = same m ts
  effects_bare p xs (assign ms) = assigned_bare (assign ms)
  effects_bare None xs (call q ts) = refl
  effects_bare (Some p) xs (call q ts) = refl
  effects_bare p xs st = refl

  pub outer_bare : (st : Statement) → outer_effects D (statement_placeless st) ≡ outer_effects C st
  outer_bare = effects_bare None []

  pub own_bare : (p : Procedure) (st : Statement)
      → effects_in D (Some (name_placeless p.name)) (declared (declarations_placeless p.params ++ declarations_placeless p.variables)) (statement_placeless st) ≡ procedure_effects C p st
  own_bare p st =
      ap (λ (xs : List Word). effects_in D (Some (name_placeless p.name)) xs (statement_placeless st)) (ap declared (declarations_joined p.params p.variables) ∙ declared_bare (p.params ++ p.variables))
      ∙ effects_bare (Some p.name) (declared (p.params ++ p.variables)) st

  module _ {R S : Type 0} (f : R → S) where
    procedures_added : (s : Supply) (ps : List Procedure) (go : List Procedure → Supply → R) (k : List Procedure → Supply → S)
        → ((qs : List Procedure) (t : Supply) → k (procedures_placeless qs) t ≡ f (go qs t)) → add_to_procedures D s (procedures_placeless ps) k ≡ f (add_to_procedures C s ps go)
    procedures_added s [] go k h = h [] s
    procedures_added s (p ∷ ps) go k h =
        added (procedure_effects C p) (effects_in D (Some (name_placeless p.name)) (declared (declarations_placeless p.params ++ declarations_placeless p.variables))) (own_bare p) f (at_first (Some FirstLabel)) s p.body
        (λ b t. add_to_procedures C t ps (λ qs u. go (record { name = p.name; params = p.params; variables = p.variables; body = b } ∷ qs) u))
        (λ b t. add_to_procedures D t (procedures_placeless ps) (λ qs u. k (record { name = name_placeless p.name; params = declarations_placeless p.params; variables = declarations_placeless p.variables; body = b } ∷ qs) u))
        (λ b t. procedures_added t ps (λ qs u. go (record { name = p.name; params = p.params; variables = p.variables; body = b } ∷ qs) u)
        (λ qs u. k (record { name = name_placeless p.name; params = declarations_placeless p.params; variables = declarations_placeless p.variables; body = statements_placeless b } ∷ qs) u)
        (λ qs u. h (record { name = p.name; params = p.params; variables = p.variables; body = b } ∷ qs) u))

    processes_added : (s : Supply) (ps : List Process) (go : List Process → R) (k : List Process → S)
        → ((qs : List Process) → k (processes_placeless qs) ≡ f (go qs)) → add_to_processes D s (processes_placeless ps) k ≡ f (add_to_processes C s ps go)
    processes_added s [] go k h = h []
    processes_added s (p ∷ ps) go k h =
        added (outer_effects C) (outer_effects D) outer_bare f (at_first (Some FirstLabel)) s p.body
        (λ b t. add_to_processes C t ps (λ qs. go (own b ∷ qs)))
        (λ b t. add_to_processes D t (processes_placeless ps) (λ qs. k (bare b ∷ qs)))
        (λ b t. processes_added t ps (λ qs. go (own b ∷ qs)) (λ qs. k (bare (statements_placeless b) ∷ qs)) (λ qs. h (own b ∷ qs)))
      where
        own : Statements → Process
        own b = record { name = p.name; fairness = p.fairness; several = p.several; identity = p.identity; variables = p.variables; body = b }

        bare : Statements → Process
        bare b = record { name = name_placeless p.name; fairness = p.fairness; several = p.several; identity = tree_placeless p.identity; variables = declarations_placeless p.variables; body = b }

    main_added : (s : Supply) (m : Main) (go : Main → R) (k : Main → S)
        → ((n : Main) → k (main_placeless n) ≡ f (go n)) → add_to_main D s (main_placeless m) k ≡ f (add_to_main C s m go)
    main_added s (alone b) go k h =
        added (outer_effects C) (outer_effects D) outer_bare f (at_first (Some FirstLabel)) s b (λ c t. go (alone c)) (λ c t. k (alone c)) (λ c t. h (alone c))
    main_added s (processes ps) go k h = processes_added s ps (λ qs. go (processes qs)) (λ qs. k (processes qs)) (λ qs. h (processes qs))

module _ {R S : Type 0} (f : R → S) where
  macros_added : (s : Supply) (ds : List Macro) (go : List Macro → Supply → R) (k : List Macro → Supply → S)
      → ((es : List Macro) (t : Supply) → k (macros_placeless es) t ≡ f (go es t)) → add_to_macros s (macros_placeless ds) k ≡ f (add_to_macros s ds go)
  macros_added s [] go k h = h [] s
  macros_added s (d ∷ ds) go k h =
      added (λ st. nothing) (λ st. nothing) (λ st. refl) f (at_first None) s d.body
      (λ b t. add_to_macros t ds (λ es u. go (own b ∷ es) u))
      (λ b t. add_to_macros t (macros_placeless ds) (λ es u. k (bare b ∷ es) u))
      (λ b t. macros_added t ds (λ es u. go (own b ∷ es) u) (λ es u. k (bare (statements_placeless b) ∷ es) u) (λ es u. h (own b ∷ es) u))
    where
      own : Statements → Macro
      own b = record { name = d.name; params = d.params; body = b }

      bare : Statements → Macro
      bare b = record { name = name_placeless d.name; params = names_placeless d.params; body = b }

pub calls_bare : (ms : List Macro) (m : Word) (ts : Trees) → call_effect (reverse (macros_placeless ms)) m (trees_placeless ts) ≡ call_effect (reverse ms) m ts
calls_bare ms m ts =
    ap (λ (ds : List Macro). call_effect ds m (trees_placeless ts)) (macros_reversed ms) ∙ within_bare (reverse ms) nothing_put nothing_put (λ x at. refl) m ts

-- from the same names that are left
abbrev pub labels_from : Supply → Algorithm → Algorithm
labels_from s a =
    add_to_macros s a.macros (λ ms t.
    add_to_procedures (call_effect (reverse ms)) t a.procedures (λ ps u.
    add_to_main (call_effect (reverse ms)) u a.main (λ m.
    record { name = a.name; fair = a.fair; globals = a.globals; definitions = a.definitions; macros = ms; procedures = ps; main = m })))

pub labels_added : (s : Supply) (a : Algorithm) → labels_from s (placeless a) ≡ placeless (labels_from s a)
labels_added s a =
    macros_added placeless s a.macros _ _ (λ ms t.
    procedures_added (call_effect (reverse ms)) (call_effect (reverse (macros_placeless ms))) (calls_bare ms) placeless t a.procedures _ _ (λ ps u.
    main_added (call_effect (reverse ms)) (call_effect (reverse (macros_placeless ms))) (calls_bare ms) placeless u a.main _ _ (λ m. refl)))
