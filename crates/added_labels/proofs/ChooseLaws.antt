-- What is decided of statements one after another, along the paths in memory.
use Rattle.std.proofs.Common.{◌≡◌, ℕ, Vec, Global, List, [], ◌∷◌, ◌++◌, Bool, true, false, ◌||◌, ◌&&◌, not, cond, Option, Some, None, refl, sym, ap, ◌∙◌, subst, append_assoc, true≢false}
use Rattle.std.proofs.lemmas.Bool.{or_parts}
use Rattle.tla_token.specs.declared.rule.Rule.TheVariants.{AfterBranch}
use Rattle.tla_tree.specs.Tree.{Word, Tree}
use Rattle.tla_tree.specs.Pool.{at as expr_at}
use Rattle.pcal_tree.specs.declared.mark.Mark.{Mark}
use Rattle.pcal_tree.specs.declared.algorithm.Span as code_span
use Rattle.pcal_tree.specs.declared.algorithm.Bind.{Bind}
use Rattle.pcal_tree.specs.declared.algorithm.Simple as declared_simple
use Rattle.pcal_tree.specs.declared.algorithm.Simple.TheVariants as simple
use Rattle.pcal_tree.specs.declared.algorithm.Stmt.{Stmt}
use Rattle.pcal_tree.specs.declared.algorithm.Stmt.TheVariants.{Simple, If, Either, With, While}
use Rattle.pcal_tree.specs.Algorithm.{Name, Span, Binds, Statement, assign, await, print, assert, skip, branch, either, with, while, goto, macro, call, return, Statements, done, then, mark, Branches, no_branches, or}
use Rattle.pcal_tree.specs.InMemory as at
use Rattle.pcal_tree.specs.InMemory.{simple_at, binds_at, stmt_at, statements_at, branches_at, Before as InList}
use Rattle.pcal_tree.specs.Labelled.{needs_label, before, inside_needs}
use Rattle.pcal_tree.specs.Run.{Partner, partner_of}
use Rattle.pcal_tree.specs.Paths as paths
use Rattle.pcal_tree.specs.Paths.{Effect, Effects, nothing, joined, after_one, after, has_assigned}
use Rattle.pcal_tree.specs.OffencesSteps.{Before, at_label, inside, holds_one, holds, due_after, effect_with, offences_at}
use Rattle.pcal_tree.proofs.EffectLaws.{Alike}
use Rattle.pcal_tree.proofs.InMemoryEach.{simple_in_list_at, if_at, either_at, with_at, while_at}
use Rattle.label_steps.specs.KnownIn.{Assigns}
use Rattle.label_steps.specs.PathsIn.{Behind, path_of, ends_of}
use Rattle.label_steps.specs.declared.path.Path.{Path}
use Rattle.label_steps.specs.declared.sides.Step.{Step}
use Rattle.label_steps.proofs.WalksLaws.{alike_then, alike_joined}
use Rattle.added_labels.specs.declared.seen.Seen.{Seen}
use Rattle.added_labels.specs.Decided as decided
use Rattle.added_labels.specs.Decided.{stand, held_inside, due_behind, path_behind, behind, held, ending, held_some, path_behind_some, chosen_inside, chosen, chosen_some}
use Rattle.added_labels.specs.Sight.{is_due, is_while, here, offends, is_kept, SeesOne, SeesList, Begins, IsKept}
use Rattle.added_labels.specs.Chosen.{StandsNow, OnPath, ChoosesOne, ChoosesList, ChoosesBranch, ChoosesBranches, begins_with}
use Rattle.placed_labels.proofs.PlaceLaws.{same_statement}
use Rattle.added_labels.proofs.SightLaws.{some, some_both, here_is, or_three, Quiet, never_assigned, Into, Out, Labelled, Ended, due_if, path_same, has_alike, simple_facts, joined_none, joined_three, begins_anew, kept_begins}

-- ---- before which statement a label is added

abbrev lacks : Effects → paths.Path → Statement → Bool
lacks E p (with bs b) = offends E (inside p) b
lacks E p st = false

lacks_is : (E : Effects) (p : Before) (st : Statement) → some (inside_needs E p st) ≡ lacks E p.path st
lacks_is E p (with bs b) = refl
lacks_is E p (branch e a b) = refl
lacks_is E p (either bs) = refl
lacks_is E p (while e b) = refl
lacks_is E p (assign ms) = refl
lacks_is E p (await e) = refl
lacks_is E p (print e) = refl
lacks_is E p (assert e) = refl
lacks_is E p skip = refl
lacks_is E p (goto n) = refl
lacks_is E p (macro m ts) = refl
lacks_is E p (call n ts) = refl
lacks_is E p return = refl

pub needs_is : (E : Effects) (p : Before) (s : Span) (st : Statement) (j : Partner) → needs_label E p s st j ≡ (not p.labelled && (here E p st j || lacks E p.path st))
needs_is E p s st j =
    ap (λ (b : Bool). not p.labelled && b)
    (some_both (offences_at E (record { before = p; place = s.first; statement = st; partner = j })) (inside_needs E p st) ∙ (λ i. here_is E p s.first st j i || lacks_is E p st i))

needs_labelled : (E : Effects) (p : Before) (s : Span) (st : Statement) (j : Partner) → p.labelled ≡ true → needs_label E p s st j ≡ false
needs_labelled E p s st j h = needs_is E p s st j ∙ ap (λ (l : Bool). not l && (here E p st j || lacks E p.path st)) h

due_needs : (E : Effects) (p : Before) (s : Span) (st : Statement) (j : Partner) → (not p.labelled && is_due p.due) ≡ true → needs_label E p s st j ≡ true
due_needs E p s st j h = needs_is E p s st j ∙ by p.labelled (is_due p.due) (is_while st) _ _ h
  where
    by : (l d w x y : Bool) → (not l && d) ≡ true → (not l && (((not l && (d || w)) || x) || y)) ≡ true
    by true d w x y e = e
    by false true w x y e = refl
    by false false w x y e = cc

-- where no label is there, and none must be whatever the statement is
free : (E : Effects) (p : Before) (s : Span) (st : Statement) (j : Partner) → p.labelled ≡ false → (not p.labelled && is_due p.due) ≡ false
    → needs_label E p s st j ≡ ((is_while st || ((effect_with E st j).twice || has_assigned p.path (effect_with E st j).variables)) || lacks E p.path st)
free E p s st j l d = needs_is E p s st j ∙ by p.labelled (is_due p.due) (is_while st) _ _ l d
  where
    by : (l d w x y : Bool) → l ≡ false → (not l && d) ≡ false → (not l && (((not l && (d || w)) || x) || y)) ≡ ((w || x) || y)
    by true d w x y e h = cc
    by false true w x y e h = cc
    by false false w x y e h = refl

or_no : (b : Bool) → b ≡ (b || false)
or_no true = refl
or_no false = refl

-- a statement is told by what stands in its list
needs_same : (E : Effects) (p : Before) (j : Partner) (r : Bool) (f : InList) (s t : Span) (st su : Statement) → f ≡ then s st → f ≡ then t su → ((sp : Span) → r ≡ needs_label E p sp st j) → r ≡ needs_label E p t su j
needs_same E p j r f s t st su e h k = subst (λ (z : Statement). r ≡ needs_label E p t z j) (same_statement s t st su (sym e ∙ h)) (k t)

not_labelled : (m : Seen) (old : Path) (p : Before) → OnPath m old p → m.labelled ≡ false → p.labelled ≡ false
not_labelled m old p o e = sym o.stands.labelled ∙ e

not_due : (m : Seen) (old : Path) (p : Before) → OnPath m old p → m.due ≡ false → (not p.labelled && is_due p.due) ≡ false
not_due m old p o e = sym o.stands.due ∙ e

module _ (E : Effects) (q : Quiet E) (ts : List Tree) (x : Stmt) (j : Partner) (m : Seen) (old : Path) (s : Span) (st : Statement) (e : stmt_at ts x ≡ then s st) (p : Before) (o : OnPath m old p) where
  pub needs_if_labelled : m.labelled ≡ true → false ≡ needs_label E p s st j
  needs_if_labelled h = sym (needs_labelled E p s st j (sym o.stands.labelled ∙ h))

  pub needs_if_due : m.due ≡ true → true ≡ needs_label E p s st j
  needs_if_due h = sym (due_needs E p s st j (sym o.stands.due ∙ h))

  module _ (l : m.labelled ≡ false) (d : m.due ≡ false) where
    quiet_free : (su : Statement) → E su ≡ nothing → effect_with E su j ≡ E su → is_while su ≡ false → lacks E p.path su ≡ false → (sp : Span) → false ≡ needs_label E p sp su j
    quiet_free su h k w z sp =
        sym (free E p sp su j (not_labelled m old p o l) (not_due m old p o d)
        ∙ (λ i. (w i || (((k ∙ h) i).twice || has_assigned p.path ((k ∙ h) i).variables)) || z i) ∙ ap (λ (b : Bool). b || false) (never_assigned p.path))

    pub needs_simple : (sp : code_span.Span) (y : declared_simple.Simple) (step : Step) (met : Bool) → x ≡ Simple sp y → Assigns step (effect_with E (simple_at ts y) j)
        → met ≡ (step.twice || has_assigned (path_of old) step.names.items) → met ≡ needs_label E p s st j
    needs_simple sp y step met is a k =
        needs_same E p j met (stmt_at ts x) (at.span_of sp) s (simple_at ts y) st (ap (stmt_at ts) is ∙ simple_in_list_at ts sp y) e (λ t.
        k ∙ (λ i. a.twice i || has_alike (path_of old) p.path step.names.items (effect_with E (simple_at ts y) j).variables (o.path d) a.names i)
        ∙ or_no _ ∙ (λ i. (sym (simple_facts E ts y p).0 i || ((effect_with E (simple_at ts y) j).twice || has_assigned p.path (effect_with E (simple_at ts y) j).variables)) || sym (simple_lacks y) i)
        ∙ sym (free E p t (simple_at ts y) j (not_labelled m old p o l) (not_due m old p o d)))
      where
        simple_lacks : (y : declared_simple.Simple) → lacks E p.path (simple_at ts y) ≡ false
        simple_lacks (simple.Assign ms) = refl
        simple_lacks (simple.Await e) = refl
        simple_lacks (simple.Print e) = refl
        simple_lacks (simple.Assert e) = refl
        simple_lacks simple.Skip = refl
        simple_lacks (simple.Goto y) = refl
        simple_lacks (simple.Macro y es) = refl
        simple_lacks (simple.Call y es) = refl
        simple_lacks simple.Return = refl

    pub needs_if : (sp : code_span.Span) (t : ℕ) (a b : Vec Stmt Global) → x ≡ If sp t a b → false ≡ needs_label E p s st j
    needs_if sp t a b is =
        needs_same E p j false (stmt_at ts x) (at.span_of sp) s (branch (expr_at ts t) (statements_at ts a.items) (statements_at ts b.items)) st (ap (stmt_at ts) is ∙ if_at ts sp t a b) e
        (quiet_free _ (q.branch (expr_at ts t) (statements_at ts a.items) (statements_at ts b.items)) refl refl refl)

    pub needs_either : (sp : code_span.Span) (bs : Vec (Vec Stmt Global) Global) → x ≡ Either sp bs → false ≡ needs_label E p s st j
    needs_either sp bs is =
        needs_same E p j false (stmt_at ts x) (at.span_of sp) s (either (branches_at ts bs.items)) st (ap (stmt_at ts) is ∙ either_at ts sp bs) e
        (quiet_free _ (q.either (branches_at ts bs.items)) refl refl refl)

    pub needs_while : (sp : code_span.Span) (t : ℕ) (b : Vec Stmt Global) → x ≡ While sp t b → true ≡ needs_label E p s st j
    needs_while sp t b is =
        needs_same E p j true (stmt_at ts x) (at.span_of sp) s (while (expr_at ts t) (statements_at ts b.items)) st (ap (stmt_at ts) is ∙ while_at ts sp t b) e (λ u.
        sym (free E p u (while (expr_at ts t) (statements_at ts b.items)) j (not_labelled m old p o l) (not_due m old p o d)))

    pub needs_with : (sp : code_span.Span) (bs : Vec Bind Global) (b : Vec Stmt Global) (cs : List Stmt) (r : Bool) → x ≡ With sp bs b → cs ≡ b.items
        → ((z : paths.Path) → Alike (path_of old) z → r ≡ offends E (inside z) (statements_at ts cs)) → r ≡ needs_label E p s st j
    needs_with sp bs b cs r is u h =
        let su = with (binds_at ts bs.items) (statements_at ts b.items) in
        needs_same E p j r (stmt_at ts x) (at.span_of sp) s su st (ap (stmt_at ts) is ∙ with_at ts sp bs b) e (λ t.
        h p.path (o.path d) ∙ ap (λ (ss : List Stmt). offends E (inside p.path) (statements_at ts ss)) u
        ∙ (λ i. (sym (never_assigned p.path) i) || offends E (inside p.path) (statements_at ts b.items))
        ∙ ap (λ (f : Effect). (f.twice || has_assigned p.path f.variables) || offends E (inside p.path) (statements_at ts b.items)) (sym (q.with (binds_at ts bs.items) (statements_at ts b.items)))
        ∙ sym (free E p t su j (not_labelled m old p o l) (not_due m old p o d)))

-- ---- a statement before which it was decided

module _ (E : Effects) (q : paths.Path) (j : Partner) (old new : Path) (m : Seen) where
  simple_kept : (ts : List Tree) (y : declared_simple.Simple) → (held_inside E q (simple_at ts y) ≡ holds_one (simple_at ts y)) × (due_behind E q (simple_at ts y) j ≡ due_after (simple_at ts y) j)
      × (path_behind E q (simple_at ts y) ≡ after_one E (simple_at ts y) false q) × (is_kept m.labelled (simple_at ts y) ≡ true) × ((more : List Bool) → chosen_inside E q (simple_at ts y) more ≡ more)
      × (after_one E (simple_at ts y) m.labelled q ≡ after_one E (simple_at ts y) false q)
  simple_kept ts (simple.Assign ms) = (refl, refl, refl, refl, (λ more. refl), refl)
  simple_kept ts (simple.Await e) = (refl, refl, refl, refl, (λ more. refl), refl)
  simple_kept ts (simple.Print e) = (refl, refl, refl, refl, (λ more. refl), refl)
  simple_kept ts (simple.Assert e) = (refl, refl, refl, refl, (λ more. refl), refl)
  simple_kept ts simple.Skip = (refl, refl, refl, refl, (λ more. refl), refl)
  simple_kept ts (simple.Goto y) = (refl, refl, refl, refl, (λ more. refl), refl)
  simple_kept ts (simple.Macro y es) = (refl, refl, refl, refl, (λ more. refl), refl)
  simple_kept ts (simple.Call y es) = (refl, refl, refl, refl, (λ more. refl), refl)
  simple_kept ts simple.Return = (refl, refl, refl, refl, (λ more. refl), refl)

  pub simple_chooses : (ts : List Tree) (y : declared_simple.Simple) (r : Seen) (ws : List Bool) → SeesOne E (simple_at ts y) j old new m r → Alike (path_of old) q → m.due ≡ false → ChoosesOne E q (simple_at ts y) j old new m r ws ws
  simple_chooses ts y r ws h a d =
      let k = simple_kept ts y in
      record {
        chosen = λ more. ap (λ (vs : List Bool). ws ++ vs) (k.4 more);
        held = h.held ∙ ap (λ (b : Bool). m.held || b) (sym k.0);
        labelled = h.labelled;
        due = h.due ∙ ap is_due (sym k.1);
        path = λ z.
            subst (Alike (path_of new)) (k.5 ∙ sym k.2)
            (h.path (record { labelled = m.labelled; due = None; path = q }) (record { labelled = refl; due = d ∙ sym (no_rule m.labelled) }) a k.3);
      }
    where
      no_rule : (b : Bool) → (not b && false) ≡ false
      no_rule true = refl
      no_rule false = refl

  pub if_chooses : (e : Tree) (a b : Statements) (mid last : Path) (n o : Seen) (ends all : Option Path) (ws us vs : List Bool)
      → ChoosesBranch E q a old None (Into m false) n ends ws us → mid.names.keys ≡ old.names.keys → ChoosesBranch E q b mid ends n o all us vs
      → last.names.keys ≡ mid.names.keys → Alike (path_of new) (ends_of last.names.keys all) → ChoosesOne E q (branch e a b) j old new m (Out m o true) ws vs
  if_chooses e a b mid last n o ends all ws us vs h k l kk close = record {
    chosen = λ more. h.chosen (chosen E (inside q) b more) ∙ l.chosen more;
    held = ap (λ (t : Bool). m.held || t) inner;
    labelled = refl;
    due = inner ∙ sym (due_if (held E (inside q) a || held E (inside q) b) AfterBranch);
    path = λ z.
        let c = or_parts (held E (inside q) a) (held E (inside q) b) (sym inner ∙ z) in
        let x = (ending E (inside q) a).path in
        let y = (ending E (inside q) b).path in
        alike_then (path_of new) (ends_of last.names.keys all) (joined x y) close
        (subst (λ (ks : List Word). Alike (ends_of ks all) (joined x y)) (sym kk) (l.joins c.1 x (subst (λ (ks : List Word). Alike (ends_of ks ends) x) (sym k) (h.joins c.0 None tt))));
  }
    where
      inner : o.held ≡ (held E (inside q) a || held E (inside q) b)
      inner = l.held ∙ ap (λ (t : Bool). t || held E (inside q) b) h.held

  pub either_chooses : (bs : Branches) (last : Path) (o : Seen) (all : Option Path) (ws vs : List Bool)
      → ChoosesBranches E q bs old (Into m false) o all ws vs → last.names.keys ≡ old.names.keys → Alike (path_of new) (ends_of last.names.keys all) → ChoosesOne E q (either bs) j old new m (Out m o true) ws vs
  either_chooses bs last o all ws vs h k close = record {
    chosen = h.chosen;
    held = ap (λ (t : Bool). m.held || t) h.held;
    labelled = refl;
    due = h.held ∙ sym (due_if (held_some E q bs) AfterBranch);
    path = λ z.
        alike_then (path_of new) (ends_of last.names.keys all) (path_behind_some E q bs) close
        (subst (λ (ks : List Word). Alike (ends_of ks all) (path_behind_some E q bs)) (sym k) (h.ends (sym h.held ∙ z)));
  }

  pub with_chooses : (bs : Binds) (b : Statements) (o : Seen) (ws : List Bool) → SeesList E b old new (Into m false) o → Alike (path_of old) q → ChoosesOne E q (with bs b) j old new m (Out m o true) ws ws
  with_chooses bs b o ws h a = record {
    chosen = λ more. refl;
    held = ap (λ (t : Bool). m.held || t) h.held;
    labelled = refl;
    due = h.held ∙ sym (due_if (holds b) AfterBranch);
    path = λ z. h.path (inside q) (record { labelled = refl; due = refl }) a (sym h.held ∙ z);
  }

  pub while_chooses : (e : Tree) (b : Statements) (o : Seen) (all : Option Path) (ws vs : List Bool) → ChoosesBranch E q b old None (Into m false) o all ws vs → new.names.keys ≡ old.names.keys → new.reached ≡ old.reached
      → Alike (path_of old) q → ChoosesOne E q (while e b) j old new m (Out m o false) ws vs
  while_chooses e b o all ws vs h k r a = record {
    chosen = h.chosen;
    held = ap (λ (t : Bool). m.held || t) h.held;
    labelled = refl;
    due = refl;
    path = λ z. subst (λ (y : paths.Path). Alike y q) (sym (path_same new old k r)) a;
  }

-- ---- branches

pub branch_chooses : (E : Effects) (q : paths.Path) (b : Statements) (old mid : Path) (m n r : Seen) (ends all : Option Path) (keys : List Word) (ws vs : List Bool) → n ≡ Ended m
    → ChoosesList E (inside q) b mid n r ws vs → keys ≡ old.names.keys → Alike (ends_of keys all) (joined (ends_of keys ends) (path_of mid)) → ChoosesBranch E q b old ends m r all ws vs
branch_chooses E q b old mid m n r ends all keys ws vs w h k a = record {
  chosen = h.chosen;
  held = h.held ∙ ap (λ (z : Seen). z.held || held E (inside q) b) w;
  joins = λ c e g.
      alike_then (ends_of old.names.keys all) (joined (ends_of old.names.keys ends) (path_of mid)) (joined e (ending E (inside q) b).path)
      (subst (λ (ks : List Word). Alike (ends_of ks all) (joined (ends_of ks ends) (path_of mid))) k a)
      (alike_joined (ends_of old.names.keys ends) e (path_of mid) (ending E (inside q) b).path g (h.path (ap (λ (z : Seen). z.due) w) c));
}

pub on_path : (n m : Seen) (old : Path) (q : paths.Path) → n ≡ Ended m → Alike (path_of old) q → OnPath n old (inside q)
on_path n m old q w a = record { stands = record { labelled = ap (λ (z : Seen). z.labelled) w; due = ap (λ (z : Seen). z.due) w }; path = λ z. a }

pub record ChoiceOfBranches (E : Effects) (q : paths.Path) (bs rest : Branches) (old : Path) (m n : Seen) (ends : Option Path) (ws vs : List Bool) : Type 0 where
  pub chosen : (more : List Bool) → vs ++ chosen_some E q rest more ≡ ws ++ chosen_some E q bs more
  pub held : (n.held || held_some E q rest) ≡ (m.held || held_some E q bs)
  pub joins : held_some E q bs ≡ false → (held_some E q rest ≡ false) × ((e : paths.Path) × Alike (ends_of old.names.keys ends) e × (joined e (path_behind_some E q rest) ≡ path_behind_some E q bs))

pub choice_begins : (E : Effects) (q : paths.Path) (bs : Branches) (old : Path) (m : Seen) (ws : List Bool) → ChoiceOfBranches E q bs bs old m m None ws ws
choice_begins E q bs old m ws = record { chosen = λ more. refl; held = refl; joins = λ n. (n, (None, tt, refl)) }

pub choice_next : (E : Effects) (q : paths.Path) (bs : Branches) (b : Statements) (rest : Branches) (old now : Path) (m n r : Seen) (ends all : Option Path) (ws us vs : List Bool) → now.names.keys ≡ old.names.keys
    → ChoiceOfBranches E q bs (or b rest) old m n ends ws us → ChoosesBranch E q b now ends n r all us vs → ChoiceOfBranches E q bs rest old m r all ws vs
choice_next E q bs b rest old now m n r ends all ws us vs k h s = record {
  chosen = λ more. sym (s.chosen (chosen_some E q rest more)) ∙ h.chosen more;
  held = ap (λ (x : Bool). x || held_some E q rest) s.held ∙ sym (or_three n.held (held E (inside q) b) (held_some E q rest)) ∙ h.held;
  joins = λ c.
      let g = h.joins c in
      let w = or_parts (held E (inside q) b) (held_some E q rest) g.0 in
      let e = g.1.0 in
      let y = (ending E (inside q) b).path in (
        w.1,
        (
          joined e y,
          subst (λ (ks : List Word). Alike (ends_of ks all) (joined e y)) k (s.joins w.0 e (subst (λ (ks : List Word). Alike (ends_of ks ends) e) (sym k) g.1.1)),
          joined_three e y (path_behind_some E q rest) ∙ g.1.2,
        ),
      );
}

pub choice_ends : (E : Effects) (q : paths.Path) (bs : Branches) (old : Path) (m r : Seen) (ends : Option Path) (ws vs : List Bool) → ChoiceOfBranches E q bs no_branches old m r ends ws vs → ChoosesBranches E q bs old m r ends ws vs
choice_ends E q bs old m r ends ws vs h = record {
  chosen = λ more. sym (h.chosen more);
  held = or_no r.held ∙ h.held;
  ends = λ c. let g = h.joins c in subst (Alike (ends_of old.names.keys ends)) (sym (joined_none g.1.0) ∙ g.1.2) g.1.1;
}

-- ---- lists

pub record ChoiceOfList (E : Effects) (p : Before) (b rest : Statements) (new : Path) (kept : Option Path) (m n : Seen) (ws vs : List Bool) : Type 0 where
  pub at : Before
  pub on : OnPath n new at
  pub chosen : (more : List Bool) → vs ++ decided.chosen E at rest more ≡ ws ++ decided.chosen E p b more
  pub held : (n.held || decided.held E at rest) ≡ (m.held || decided.held E p b)
  pub ending : decided.ending E at rest ≡ decided.ending E p b
  pub calm : m.due ≡ false → decided.held E p b ≡ false → (decided.held E at rest ≡ false) × (kept ≡ None) × (n.due ≡ false)

pub list_chosen : (E : Effects) (p : Before) (b : Statements) (old : Path) (m : Seen) (ws : List Bool) → OnPath m old p → ChoiceOfList E p b b old None m m ws ws
list_chosen E p b old m ws o = record { at = p; on = o; chosen = λ more. refl; held = refl; ending = refl; calm = λ d c. (c, refl, d) }

pub mark_chosen : (E : Effects) (p : Before) (b now rest : Statements) (f : InList) (x : Name) (k : Mark) (mid new : Path) (kept next : Option Path) (m n r : Seen) (ws vs : List Bool)
    → now ≡ f rest → f ≡ mark x k → Begins mid new kept next → r ≡ Labelled n → ChoiceOfList E p b now mid kept m n ws vs → ChoiceOfList E p b rest new next m r ws vs
mark_chosen E p b now rest f x k mid new kept next m n r ws vs is e g z h0 = record {
  at = at_label;
  on = record { stands = record { labelled = ap (λ (y : Seen). y.labelled) z; due = ap (λ (y : Seen). y.due) z }; path = λ y. subst (λ (q : paths.Path). Alike q (Some [])) (sym fresh) (λ t. refl) };
  chosen = h.chosen;
  held = ap (λ (y : Seen). y.held || held E at_label rest) z ∙ sym (always n.held) ∙ h.held;
  ending = h.ending;
  calm = λ d c. absurd (true≢false (h.calm d c).0);
}
  where
    h : ChoiceOfList E p b (mark x k rest) mid kept m n ws vs
    h = subst (λ (y : Statements). ChoiceOfList E p b y mid kept m n ws vs) (is ∙ ap (λ (g : InList). g rest) e) h0

    always : (b : Bool) → (b || true) ≡ true
    always true = refl
    always false = refl

    fresh : path_of new ≡ Some []
    fresh = let a = begins_anew mid new kept next g in λ i. cond (a.1 i) (Some (a.0 i)) None

-- what is before a statement, where it was decided
pub record Decides (E : Effects) (p : Before) (s : Span) (st : Statement) (j : Partner) (x : Bool) (new : Path) (kept next : Option Path) (n r : Seen) : Type 0 where
  pub path : Alike (path_of new) (stand E p s st j).path
  pub due : r.due ≡ false
  pub held : r.held ≡ (n.held || x)
  pub still : x ≡ false → next ≡ kept

pub decides : (E : Effects) (p : Before) (s : Span) (st : Statement) (j : Partner) (x : Bool) (mid new : Path) (kept next : Option Path) (n r : Seen) → x ≡ needs_label E p s st j → OnPath n mid p → StandsNow x mid new kept next n r
    → Decides E p s st j x new kept next n r
decides E p s st j true mid new kept next n r e o g = record {
  path = subst (λ (b : Bool). Alike (path_of new) (before b p).path) e (subst (λ (q : paths.Path). Alike q (Some [])) (sym fresh) (λ t. refl));
  due = ap (λ (y : Seen). y.due) g.1;
  held = ap (λ (y : Seen). y.held) g.1 ∙ sym (always n.held);
  still = λ c. absurd (true≢false c);
}
  where
    always : (b : Bool) → (b || true) ≡ true
    always true = refl
    always false = refl

    fresh : path_of new ≡ Some []
    fresh = let a = begins_anew mid new kept next g.0 in λ i. cond (a.1 i) (Some (a.0 i)) None
decides E p s st j false mid new kept next n r e o g = record {
  path = subst (λ (b : Bool). Alike (path_of new) (before b p).path) e (subst (λ (z : Path). Alike (path_of z) p.path) (sym g.0) (o.path free_of));
  due = ap (λ (y : Seen). y.due) g.2 ∙ free_of;
  held = ap (λ (y : Seen). y.held) g.2 ∙ or_no n.held;
  still = λ c. g.1;
}
  where
    free_of : n.due ≡ false
    free_of = by n.due refl
      where
        by : (b : Bool) → n.due ≡ b → n.due ≡ false
        by false h = h
        by true h = absurd (true≢false (sym (due_needs E p s st j (sym o.stands.due ∙ h)) ∙ sym e))

due_calm : (E : Effects) (q : paths.Path) (st : Statement) (j : Partner) → held_inside E q st ≡ false → is_due (due_behind E q st j) ≡ false
due_calm E q (branch e a b) j h = due_if (held E (inside q) a || held E (inside q) b) AfterBranch ∙ h
due_calm E q (either bs) j h = due_if (held_some E q bs) AfterBranch ∙ h
due_calm E q (with bs b) j h = due_if (holds b) AfterBranch ∙ h
due_calm E q (while e b) j h = refl
due_calm E q (assign ms) j h = refl
due_calm E q (await e) j h = refl
due_calm E q (print e) j h = refl
due_calm E q (assert e) j h = refl
due_calm E q skip j h = refl
due_calm E q (macro m ts) j h = refl
due_calm E q (goto n) j h = cc
due_calm E q (call n ts) j h = cc
due_calm E q return j h = cc

pub one_chosen : (E : Effects) (p : Before) (b now rest : Statements) (f : InList) (s : Span) (st : Statement) (mid half new : Path) (kept next : Option Path) (m n r o : Seen) (x : Bool) (ws us ys vs : List Bool)
    → now ≡ f rest → f ≡ then s st → (h : ChoiceOfList E p b now mid kept m n ws us)
    → ys ≡ us ++ x ∷ [] → x ≡ needs_label E h.at s st (partner_of rest) → StandsNow x mid half kept next n r
    → (Alike (path_of half) (stand E h.at s st (partner_of rest)).path → r.due ≡ false → ChoosesOne E (stand E h.at s st (partner_of rest)).path st (partner_of rest) half new r o ys vs)
    → ChoiceOfList E p b rest new next m o ws vs
one_chosen E p b now rest f s st mid half new kept next m n r o x ws us ys vs is e h y w g k = record {
  at = to;
  on = record { stands = record { labelled = c.labelled; due = c.due }; path = c.path };
  chosen = λ more.
      sym (c.chosen (chosen E to rest more)) ∙ ap (λ (zs : List Bool). zs ++ chosen_inside E q st (chosen E to rest more)) y ∙ append_assoc us (x ∷ []) (chosen_inside E q st (chosen E to rest more))
      ∙ ap (λ (z : Bool). us ++ z ∷ chosen_inside E q st (chosen E to rest more)) w ∙ ap (λ (z : Statements). us ++ chosen E h.at z more) (sym list) ∙ h.chosen more;
  held =
      ap (λ (z : Bool). z || held E to rest) (c.held ∙ ap (λ (z : Bool). z || held_inside E q st) (d.held ∙ ap (λ (z : Bool). n.held || z) w)) ∙ four n.held (needs_label E h.at s st j) (held_inside E q st) (held E to rest)
      ∙ ap (λ (z : Statements). n.held || held E h.at z) (sym list) ∙ h.held;
  ending = ap (ending E h.at) (sym list) ∙ h.ending;
  calm = λ a t.
      let v = h.calm a t in
      let u = or_parts (needs_label E h.at s st j) (held_inside E q st || held E to rest) (ap (held E h.at) (sym list) ∙ v.0) in
      let z = or_parts (held_inside E q st) (held E to rest) u.1 in
      (z.1, d.still (w ∙ u.0) ∙ v.1, c.due ∙ due_calm E q st j z.0);
}
  where
    list : now ≡ then s st rest
    list = is ∙ ap (λ (g : InList). g rest) e

    j : Partner
    j = partner_of rest

    q : paths.Path
    q = (stand E h.at s st j).path

    to : Before
    to = behind E q st j

    d : Decides E h.at s st j x half kept next n r
    d = decides E h.at s st j x mid half kept next n r w h.on g

    c : ChoosesOne E q st j half new r o ys vs
    c = k d.path d.due

    four : (a b c d : Bool) → (((a || b) || c) || d) ≡ (a || (b || (c || d)))
    four true b c d = refl
    four false true c d = refl
    four false false c d = refl

pub list_chooses : (E : Effects) (p : Before) (b : Statements) (mid new : Path) (kept : Option Path) (m n : Seen) (ws vs : List Bool) → ChoiceOfList E p b done mid kept m n ws vs → (kept ≡ None → new ≡ mid)
    → ChoosesList E p b new m (Ended n) ws vs
list_chooses E p b mid new kept m n ws vs h k = record {
  chosen = λ more. sym (h.chosen more);
  held = or_no n.held ∙ h.held;
  path = λ d c.
      let g = h.calm d c in
      subst (λ (z : Path). Alike (path_of z) (ending E p b).path) (sym (k g.1)) (subst (λ (z : Before). Alike (path_of mid) z.path) h.ending (h.on.path g.2));
}

-- the path with which a list began
pub kept_stands : (x : Bool) (old mid new : Path) (kept next : Option Path) (m r : Seen) → IsKept old mid kept → StandsNow x mid new kept next m r → IsKept old new next
kept_stands true old mid new kept next m r h g = kept_begins old mid new kept next h g.0
kept_stands false old mid new kept next m r h g = subst (λ (o : Option Path). IsKept old new o) (sym g.1) (subst (λ (z : Path). IsKept old z kept) (sym g.0) h)

pub kept_same : (old mid new : Path) (kept : Option Path) → IsKept old mid kept → new.names.keys ≡ mid.names.keys → IsKept old new kept
kept_same old mid new None h e = subst (Behind old.names.keys) (sym e) h
kept_same old mid new (Some f) h e = h

pub on_same : (n : Seen) (mid new : Path) (p : Before) → OnPath n mid p → new.names.keys ≡ mid.names.keys → new.reached ≡ mid.reached → OnPath n new p
on_same n mid new p o k r = record { stands = o.stands; path = λ d. subst (λ (q : paths.Path). Alike q p.path) (sym (path_same new mid k r)) (o.path d) }

abbrev pub choice_same : (E : Effects) (p : Before) (b rest : Statements) (mid new : Path) (kept : Option Path) (m n : Seen) (ws vs : List Bool) → ChoiceOfList E p b rest mid kept m n ws vs
    → new.names.keys ≡ mid.names.keys → new.reached ≡ mid.reached → ChoiceOfList E p b rest new kept m n ws vs
choice_same E p b rest mid new kept m n ws vs h k r = record { at = h.at; on = on_same n mid new h.at h.on k r; chosen = h.chosen; held = h.held; ending = h.ending; calm = h.calm }

-- ---- statements in memory

module _ (E : Effects) (q : paths.Path) (ts : List Tree) (j : Partner) (old new : Path) (m r : Seen) (ws vs : List Bool) (x : Stmt) (s : Span) (st : Statement) (e : stmt_at ts x ≡ then s st) where
  chosen_as : (t : Span) (su : Statement) → stmt_at ts x ≡ then t su → ChoosesOne E q su j old new m r ws vs → ChoosesOne E q st j old new m r ws vs
  chosen_as t su h c = subst (λ (z : Statement). ChoosesOne E q z j old new m r ws vs) (same_statement t s su st (sym h ∙ e)) c

  pub simple_chosen : (sp : code_span.Span) (y : declared_simple.Simple) → x ≡ Simple sp y → ws ≡ vs → SeesOne E (simple_at ts y) j old new m r → Alike (path_of old) q → m.due ≡ false → ChoosesOne E q st j old new m r ws vs
  simple_chosen sp y is w h a d =
      chosen_as (at.span_of sp) (simple_at ts y) (ap (stmt_at ts) is ∙ simple_in_list_at ts sp y)
      (subst (λ (us : List Bool). ChoosesOne E q (simple_at ts y) j old new m r ws us) w (simple_chooses E q j old new m ts y r ws h a d))

  pub if_chosen : (sp : code_span.Span) (t : ℕ) (a b : Vec Stmt Global) (cs ds : List Stmt) (mid last : Path) (i n o : Seen) (ends all : Option Path) (us : List Bool) → x ≡ If sp t a b → cs ≡ a.items → ds ≡ b.items → i ≡ Into m false
      → ChoosesBranch E q (statements_at ts cs) old None i n ends ws us → mid.names.keys ≡ old.names.keys → ChoosesBranch E q (statements_at ts ds) mid ends n o all us vs
      → last.names.keys ≡ mid.names.keys → Alike (path_of new) (ends_of last.names.keys all) → r ≡ Out m o true → ChoosesOne E q st j old new m r ws vs
  if_chosen sp t a b cs ds mid last i n o ends all us is u v w f k g kk c z =
      chosen_as (at.span_of sp) (branch (expr_at ts t) (statements_at ts a.items) (statements_at ts b.items)) (ap (stmt_at ts) is ∙ if_at ts sp t a b)
      (subst (λ (y : Seen). ChoosesOne E q (branch (expr_at ts t) (statements_at ts a.items) (statements_at ts b.items)) j old new m y ws vs) (sym z)
      (if_chooses E q j old new m (expr_at ts t) (statements_at ts a.items) (statements_at ts b.items) mid last n o ends all ws us vs
      (subst (λ (y : Seen). ChoosesBranch E q (statements_at ts a.items) old None y n ends ws us) w (subst (λ (ss : List Stmt). ChoosesBranch E q (statements_at ts ss) old None i n ends ws us) u f)) k
      (subst (λ (ss : List Stmt). ChoosesBranch E q (statements_at ts ss) mid ends n o all us vs) v g) kk c))

  pub either_chosen : (sp : code_span.Span) (bs : Vec (Vec Stmt Global) Global) (cs : List (Vec Stmt Global)) (last : Path) (i o : Seen) (all : Option Path) → x ≡ Either sp bs → cs ≡ bs.items → i ≡ Into m false
      → ChoosesBranches E q (branches_at ts cs) old i o all ws vs → last.names.keys ≡ old.names.keys → Alike (path_of new) (ends_of last.names.keys all) → r ≡ Out m o true → ChoosesOne E q st j old new m r ws vs
  either_chosen sp bs cs last i o all is u w f k c z =
      chosen_as (at.span_of sp) (either (branches_at ts bs.items)) (ap (stmt_at ts) is ∙ either_at ts sp bs)
      (subst (λ (y : Seen). ChoosesOne E q (either (branches_at ts bs.items)) j old new m y ws vs) (sym z)
      (either_chooses E q j old new m (branches_at ts bs.items) last o all ws vs
      (subst (λ (y : Seen). ChoosesBranches E q (branches_at ts bs.items) old y o all ws vs) w (subst (λ (ss : List (Vec Stmt Global)). ChoosesBranches E q (branches_at ts ss) old i o all ws vs) u f)) k c))

  pub with_chosen : (sp : code_span.Span) (bs : Vec Bind Global) (b : Vec Stmt Global) (cs : List Stmt) (i o : Seen) → x ≡ With sp bs b → ws ≡ vs → cs ≡ b.items → i ≡ Into m false
      → SeesList E (statements_at ts cs) old new i o → r ≡ Out m o true → Alike (path_of old) q → ChoosesOne E q st j old new m r ws vs
  with_chosen sp bs b cs i o is same u w f z a =
      chosen_as (at.span_of sp) (with (binds_at ts bs.items) (statements_at ts b.items)) (ap (stmt_at ts) is ∙ with_at ts sp bs b)
      (subst (λ (us : List Bool). ChoosesOne E q (with (binds_at ts bs.items) (statements_at ts b.items)) j old new m r ws us) same
      (subst (λ (y : Seen). ChoosesOne E q (with (binds_at ts bs.items) (statements_at ts b.items)) j old new m y ws ws) (sym z)
      (with_chooses E q j old new m (binds_at ts bs.items) (statements_at ts b.items) o ws
      (subst (λ (y : Seen). SeesList E (statements_at ts b.items) old new y o) w (subst (λ (ss : List Stmt). SeesList E (statements_at ts ss) old new i o) u f)) a)))

  pub while_chosen : (sp : code_span.Span) (t : ℕ) (b : Vec Stmt Global) (cs : List Stmt) (i o : Seen) (all : Option Path) → x ≡ While sp t b → cs ≡ b.items → i ≡ Into m false
      → ChoosesBranch E q (statements_at ts cs) old None i o all ws vs → new.names.keys ≡ old.names.keys → new.reached ≡ old.reached → r ≡ Out m o false → Alike (path_of old) q → ChoosesOne E q st j old new m r ws vs
  while_chosen sp t b cs i o all is u w f k l z a =
      chosen_as (at.span_of sp) (while (expr_at ts t) (statements_at ts b.items)) (ap (stmt_at ts) is ∙ while_at ts sp t b)
      (subst (λ (y : Seen). ChoosesOne E q (while (expr_at ts t) (statements_at ts b.items)) j old new m y ws vs) (sym z)
      (while_chooses E q j old new m (expr_at ts t) (statements_at ts b.items) o all ws vs
      (subst (λ (y : Seen). ChoosesBranch E q (statements_at ts b.items) old None y o all ws vs) w (subst (λ (ss : List Stmt). ChoosesBranch E q (statements_at ts ss) old None i o all ws vs) u f)) k l a))

-- ---- bodies

pub body_begins : (held : Bool) (new : Path) (p : Before) (due : Bool) → begins_with due p → new.names.keys ≡ [] → new.reached ≡ true → OnPath (record { missing = false; held = held; labelled = false; due = due }) new p
body_begins held new p due b k r = record {
  stands = record { labelled = sym b.0; due = sym (ap (λ (l : Bool). not l && is_due p.due) b.0 ∙ b.1) };
  path = λ d. subst (Alike (path_of new)) (sym b.2) (subst (λ (q : paths.Path). Alike q (Some [])) (sym (λ i. cond (r i) (Some (k i)) None)) (λ f. refl));
}
