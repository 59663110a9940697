-- What is met along all paths, one statement after another, whatever labels are missing.
use Rattle.std.proofs.Common.{◌≡◌, ℕ, List, [], ◌∷◌, ◌++◌, Bool, true, false, Option, Some, None, Vec, Global, refl, sym, ap, ◌∙◌, subst, cond, append-nil}
use Rattle.std.specs.List.{list_any, flat_map}
use Rattle.std.specs.Option.{option_map}
use Rattle.std.proofs.lemmas.Grind.{flat_map-append}
use Rattle.tla_token.specs.declared.rule.Rule.{Rule}
use Rattle.tla_tree.specs.Tree.{Name, Word, Tree}
use Rattle.tla_tree.specs.Pool as pool
use Rattle.pcal_tree.specs.declared.mark.Mark.{Mark}
use Rattle.pcal_tree.specs.declared.algorithm.Span as code_span
use Rattle.pcal_tree.specs.declared.algorithm.Bind.{Bind}
use Rattle.pcal_tree.specs.declared.algorithm.Simple as declared_simple
use Rattle.pcal_tree.specs.declared.algorithm.Simple.TheVariants as simple
use Rattle.pcal_tree.specs.declared.algorithm.Stmt.{Stmt}
use Rattle.pcal_tree.specs.declared.algorithm.Stmt.TheVariants.{If, Either, With, While}
use Rattle.pcal_tree.specs.Algorithm.{Span, Statement, branch, either, with, while, Statements, then, mark, done, Branches, no_branches, or}
use Rattle.pcal_tree.specs.InMemory.{span_of, simple_at, binds_at, Before as InList, stmt_at, statements_at, branches_at}
use Rattle.pcal_tree.specs.OffencesSteps.{holds_one, inside, due_after, Visit, effect_with, visits_inside, visits, visits_of_some}
use Rattle.pcal_tree.specs.Paths as paths
use Rattle.pcal_tree.specs.Paths.{Effects, rounds, after_one, after, after_some, is_reached}
use Rattle.pcal_tree.specs.Run.{Partner, no_partner, partner_of}
use Rattle.pcal_tree.specs.laws.MacroSummaries.{Summary, Pair, Found, none_found, found_on, found_here, is_broken}
use Rattle.pcal_tree.proofs.InMemoryEach.{if_at, either_at, with_at, while_at}
use Rattle.pcal_tree.proofs.EffectLaws.{Alike}
use Rattle.pcal_tree.proofs.SetLaws.{Same}
use Rattle.pcal_tree.proofs.TargetLaws.{put_for}
use Rattle.label_steps.specs.declared.around.Around.{Around}
use Rattle.label_steps.specs.declared.gathered.Gathered.{Gathered}
use Rattle.label_steps.specs.declared.known.Known.{Known}
use Rattle.label_steps.specs.declared.path.Path.{Path}
use Rattle.label_steps.specs.declared.sides.Step.{Step}
use Rattle.label_steps.specs.declared.ways.Ways.{Ways}
use Rattle.label_steps.specs.AroundIn.{effects_around}
use Rattle.label_steps.specs.Gathered.{assigning, names_met, pairs_met, names_there}
use Rattle.label_steps.specs.GatheredIn.{AddsSome, names_on, turns_on}
use Rattle.label_steps.specs.KnownIn.{Assigns}
use Rattle.label_steps.specs.PathsIn.{path_of}
use Rattle.label_steps.specs.WaysIn.{rounds_by, looped, Leads, LeadsBoth, AreWays, standing, visits_one, AddsVisits, Gathers, GoesOne, GoesAll, GoesSome}
use Rattle.label_steps.proofs.AddsLaws.{adds_some_none, adds_some_then, adds_some_as, outside_names, names_alike, pairs_alike}
use Rattle.label_steps.proofs.GeneralLaws.{rounds_from_some, rounds_from_none}
use Rattle.label_steps.proofs.TwiceLaws.{outside}
use Rattle.label_steps.proofs.WalksLaws.{alike_sym, alike_then, alike_itself, alike_joined, assigned_alike, joined_first, joined_end, same_span}

-- ---- paths

-- from the same once more
pub leads_copied : (f : paths.Path → paths.Path) (old copy new : Path) → Alike (path_of old) (path_of copy) → Leads f copy new → Leads f old new
leads_copied f old copy new c h = λ p k. h p (alike_then p (path_of old) (path_of copy) k c)

-- where two lead to one place
pub leads_joined : (f g : paths.Path → paths.Path) (old x y new : Path) → Leads f old x → Leads g old y → Alike (paths.joined (path_of x) (path_of y)) (path_of new) → Leads (λ p. paths.joined (f p) (g p)) old new
leads_joined f g old x y new h k j = λ p e.
    alike_then (paths.joined (f p) (g p)) (paths.joined (path_of x) (path_of y)) (path_of new)
    (alike_joined (f p) (path_of x) (g p) (path_of y) (h p e) (k p e)) j

-- rounds, by a body's ways
rounds_are : (E : Effects) (b : Statements) (p : paths.Path) → Alike (rounds paths.joined (λ q. after E b false q) p) (rounds_by (after E b false None) (after E b false (Some [])) p)
rounds_are E b None = rounds_from_none E b
rounds_are E b (Some xs) = rounds_from_some E b xs

same_behind : (xs ys us vs : List Word) → Same xs ys → Same us vs → Same (xs ++ us) (ys ++ vs)
same_behind xs ys us vs h k = assigned_alike xs ys (Some us) (Some vs) h k

reached_alike : (p q : paths.Path) → Alike p q → is_reached p ≡ is_reached q
reached_alike None None h = refl
reached_alike (Some xs) (Some ys) h = refl
reached_alike None (Some ys) h = absurd h
reached_alike (Some xs) None h = absurd h

there_alike : (p q : paths.Path) → Alike p q → Same (names_there p) (names_there q)
there_alike None None h = λ f. refl
there_alike (Some xs) (Some ys) h = h
there_alike None (Some ys) h = absurd h
there_alike (Some xs) None h = absurd h

by_alike : (u v r s p q : paths.Path) → Alike u v → Alike r s → Alike p q → Alike (rounds_by u r p) (rounds_by v s q)
by_alike u v r s (Some xs) (Some ys) h k e = same_behind xs ys (names_there r) (names_there s) e (there_alike r s k)
by_alike u v r s None None h k e = subst (λ (b : Bool). Alike (cond (is_reached u) r None) (cond b s None)) (reached_alike u v h) (chosen (is_reached u))
  where
    chosen : (b : Bool) → Alike (cond b r None) (cond b s None)
    chosen true = k
    chosen false = tt
by_alike u v r s None (Some ys) h k e = absurd e
by_alike u v r s (Some xs) None h k e = absurd e

round_leads : (E : Effects) (b : Statements) (u r old new : Path) → Alike (after E b false None) (path_of u) → Alike (after E b false (Some [])) (path_of r)
    → Alike (rounds_by (path_of u) (path_of r) (path_of old)) (path_of new) → Leads (looped E b false) old new
round_leads E b u r old new h k j = λ p e.
    alike_then (rounds paths.joined (λ q. after E b false q) p) (rounds_by (after E b false None) (after E b false (Some [])) p) (path_of new) (rounds_are E b p)
    (alike_then (rounds_by (after E b false None) (after E b false (Some [])) p) (rounds_by (path_of u) (path_of r) (path_of old)) (path_of new)
    (by_alike (after E b false None) (path_of u) (after E b false (Some [])) (path_of r) p (path_of old) h k e) j)

pub labelled_stays : (E : Effects) (b : Statements) (l : Bool) (w : Ways) → l ≡ true → LeadsBoth (looped E b l) w w
labelled_stays E b l w e = subst (λ (m : Bool). LeadsBoth (looped E b m) w w) (sym e) (record { unreached = λ p h. h; reached = λ p h. h })

pub rounds_lead : (E : Effects) (b : Statements) (l : Bool) (start round old new : Ways) → l ≡ false → AreWays None (Some []) start → LeadsBoth (after E b false) start round
    → AreWays (rounds_by (path_of round.unreached) (path_of round.reached) (path_of old.unreached)) (rounds_by (path_of round.unreached) (path_of round.reached) (path_of old.reached)) new
    → LeadsBoth (looped E b l) old new
rounds_lead E b l start round old new e s h w =
    let u = h.unreached None s.unreached in
    let r = h.reached (Some []) s.reached in
    subst (λ (m : Bool). LeadsBoth (looped E b m) old new) (sym e) (record {
      unreached = round_leads E b round.unreached round.reached old.unreached new.unreached u r w.unreached;
      reached = round_leads E b round.unreached round.reached old.reached new.reached u r w.reached;
    })

-- ---- what is found

module _ (k : Known) (S : Statement → Found) where
  pub adds_nothing : (m : Option Gathered) → AddsVisits k S m m []
  adds_nothing m = adds_some_none k m

  pub adds_both : (m n o : Option Gathered) (vs ws : List Visit) → AddsVisits k S m n vs → AddsVisits k S n o ws → AddsVisits k S m o (vs ++ ws)
  adds_both m n o vs ws g h =
      subst (λ (xs : List Word). AddsSome k m o xs (flat_map (pairs_met S) (vs ++ ws))) (sym (flat_map-append (names_met S) vs ws))
      (subst (λ (ps : List Pair). AddsSome k m o (flat_map (names_met S) vs ++ flat_map (names_met S) ws) ps) (sym (flat_map-append (pairs_met S) vs ws))
      (adds_some_then k m n o (flat_map (names_met S) vs) (flat_map (names_met S) ws) (flat_map (pairs_met S) vs) (flat_map (pairs_met S) ws) g h))

  -- where nothing is gathered
  pub adds_to_none : (m : Option Gathered) (vs : List Visit) → m ≡ None → AddsVisits k S m m vs
  adds_to_none m vs e = subst (λ (o : Option Gathered). AddsVisits k S o o vs) (sym e) tt

  -- at a statement in which nothing is found but in those in it
  adds_over : (m n : Option Gathered) (l : Bool) (r : Option Rule) (p : paths.Path) (at : Span) (st : Statement) (j : Partner) → S st ≡ none_found → AddsVisits k S m n (visits_inside (assigning S) (standing l r p) st)
      → AddsVisits k S m n (visits_one (assigning S) (standing l r p) at st j)
  adds_over m n l r p at st j none g =
      subst (λ (f : Found). AddsSome k m n (f.names ++ flat_map (names_met S) (visits_inside (assigning S) (standing l r p) st)) (f.pairs ++ flat_map (pairs_met S) (visits_inside (assigning S) (standing l r p) st)))
      (sym (ap (found_on p) none ∙ none_on p)) g
    where
      none_on : (q : paths.Path) → found_on q none_found ≡ none_found
      none_on None = refl
      none_on (Some xs) = refl

  -- ---- statements with others in them

  pub if_goes : (l : Bool) (at : Span) (e : Tree) (a b : Statements) (old copy one two new : Ways) (m n o : Option Gathered) → S (branch e a b) ≡ none_found
      → AreWays (path_of old.unreached) (path_of old.reached) copy → GoesAll k S a old one m n → GoesAll k S b copy two n o
      → AreWays (paths.joined (path_of one.unreached) (path_of two.unreached)) (paths.joined (path_of one.reached) (path_of two.reached)) new
      → GoesOne k S l at (branch e a b) old new m o
  if_goes l at e a b old copy one two new m n o none c g h w = λ r j. record {
    leads = record {
      unreached =
          leads_joined (after (assigning S) a false) (after (assigning S) b false) old.unreached one.unreached two.unreached new.unreached g.leads.unreached
          (leads_copied (after (assigning S) b false) old.unreached copy.unreached two.unreached c.unreached h.leads.unreached) w.unreached;
      reached =
          leads_joined (after (assigning S) a false) (after (assigning S) b false) old.reached one.reached two.reached new.reached g.leads.reached
          (leads_copied (after (assigning S) b false) old.reached copy.reached two.reached c.reached h.leads.reached) w.reached;
    };
    found = λ p i.
        adds_over m o l r p at (branch e a b) j none
        (adds_both m n o (visits (assigning S) (inside p) a) (visits (assigning S) (inside p) b) (g.found p i)
        (h.found p (alike_then p (path_of old.reached) (path_of copy.reached) i c.reached)));
  }

  pub either_goes : (l : Bool) (at : Span) (bs : Branches) (old new : Ways) (m n : Option Gathered) → S (either bs) ≡ none_found → GoesSome k S bs old new m n → GoesOne k S l at (either bs) old new m n
  either_goes l at bs old new m n none g = λ r j. record {
    leads = record { unreached = g.leads.unreached; reached = g.leads.reached };
    found = λ p i. adds_over m n l r p at (either bs) j none (g.found p i);
  }

  pub with_goes : (l : Bool) (at : Span) (bs : _) (b : Statements) (old new : Ways) (m n : Option Gathered) → S (with bs b) ≡ none_found → GoesAll k S b old new m n → GoesOne k S l at (with bs b) old new m n
  with_goes l at bs b old new m n none g = λ r j. record {
    leads = record { unreached = g.leads.unreached; reached = g.leads.reached };
    found = λ p i. adds_over m n l r p at (with bs b) j none (g.found p i);
  }

  pub while_goes : (l : Bool) (at : Span) (e : Tree) (b : Statements) (old new : Ways) (m n : Option Gathered) → S (while e b) ≡ none_found → LeadsBoth (looped (assigning S) b l) old new
      → Gathers k S (λ p. visits (assigning S) (inside p) b) new.reached m n → GoesOne k S l at (while e b) old new m n
  while_goes l at e b old new m n none h g = λ r j. record {
    leads = record { unreached = h.unreached; reached = h.reached };
    found = λ p i. adds_over m n l r p at (while e b) j none (g (looped (assigning S) b l p) (h.reached p i));
  }

  -- ---- lists

  -- what is left of a list still leads where the whole does
  pub record PathLeft (whole : paths.Path) (rest : Statements) (l : Bool) (now : Path) : Type 0 where
    pub here : paths.Path
    pub alike : Alike here (path_of now)
    pub path : after (assigning S) rest l here ≡ whole

  pub record MetLeft (whole : paths.Path) (all : List Visit) (m : Option Gathered) (rest : Statements) (l : Bool) (now : Path) (n : Option Gathered) : Type 0 where
    pub left : PathLeft whole rest l now
    pub due : Option Rule
    pub met : (o : Option Gathered) → AddsVisits k S n o (visits (assigning S) (standing l due left.here) rest) → AddsVisits k S m o all

  pub record WaysLeft (b : Statements) (old : Ways) (m : Option Gathered) (rest : Statements) (l : Bool) (now : Ways) (n : Option Gathered) : Type 0 where
    pub unreached : (p : paths.Path) → Alike p (path_of old.unreached) → PathLeft (after (assigning S) b false p) rest l now.unreached
    pub reached : (p : paths.Path) → Alike p (path_of old.reached) → MetLeft (after (assigning S) b false p) (visits (assigning S) (inside p) b) m rest l now.reached n

  pub left_first : (b : Statements) (w : Ways) (m : Option Gathered) (l : Bool) → l ≡ false → WaysLeft b w m b l w m
  left_first b w m l e = subst (λ (c : Bool). WaysLeft b w m b c w m) (sym e) (record {
    unreached = λ p h. record { here = p; alike = h; path = refl };
    reached = λ p h. record { left = record { here = p; alike = h; path = refl }; due = None; met = λ o g. g };
  })

  path_more : (whole : paths.Path) (b rest : Statements) (l : Bool) (now new : Path) (at : Span) (st : Statement) → b ≡ then at st rest → Leads (after_one (assigning S) st l) now new
      → PathLeft whole b l now → PathLeft whole rest false new
  path_more whole b rest l now new at st next h t = record {
    here = after_one (assigning S) st l t.here;
    alike = h t.here t.alike;
    path = sym (ap (λ (c : Statements). after (assigning S) c l t.here) next) ∙ t.path;
  }

  pub left_more : (b : Statements) (old : Ways) (m n o : Option Gathered) (was rest : Statements) (f : InList) (l : Bool) (now new : Ways) (at : Span) (st : Statement) → was ≡ f rest → f ≡ then at st
      → GoesOne k S l at st now new n o → WaysLeft b old m was l now n → (c : Bool) → c ≡ false → WaysLeft b old m rest c new o
  unfolding path_more
  left_more b old m n o was rest f l now new at st e h g w c z =
      let next : was ≡ then at st rest = e ∙ (λ i. h i rest) in
      subst (λ (d : Bool). WaysLeft b old m rest d new o) (sym z) (record {
        unreached = λ p i. path_more (after (assigning S) b false p) was rest l now.unreached new.unreached at st next (g None no_partner).leads.unreached (w.unreached p i);
        reached = λ p i.
            let t = w.reached p i in
            let one = g t.due (partner_of rest) in
            record {
              left = path_more (after (assigning S) b false p) was rest l now.reached new.reached at st next one.leads.reached t.left;
              due = due_after st (partner_of rest);
              met = λ q x.
                  t.met q
                  (subst (λ (d : Statements). AddsVisits k S n q (visits (assigning S) (standing l t.due t.left.here) d)) (sym next)
                  (adds_both n o q (visits_one (assigning S) (standing l t.due t.left.here) at st (partner_of rest))
                  (visits (assigning S) (standing false (due_after st (partner_of rest)) (after_one (assigning S) st l t.left.here)) rest) (one.found t.left.here t.left.alike) x));
            };
      })

  path_labelled : (whole : paths.Path) (b rest : Statements) (l : Bool) (now new : Path) (x : Name) (y : Mark) → b ≡ mark x y rest → Alike (Some []) (path_of new) → PathLeft whole b l now → PathLeft whole rest true new
  path_labelled whole b rest l now new x y next h t = record {
    here = Some [];
    alike = h;
    path = sym (ap (λ (c : Statements). after (assigning S) c l t.here) next) ∙ t.path;
  }

  pub left_labelled : (b : Statements) (old : Ways) (m n : Option Gathered) (was rest : Statements) (f : InList) (l : Bool) (now new : Ways) (x : Name) (y : Mark) → was ≡ f rest → f ≡ mark x y
      → AreWays (Some []) (Some []) new → WaysLeft b old m was l now n → (c : Bool) → c ≡ true → WaysLeft b old m rest c new n
  unfolding path_labelled
  left_labelled b old m n was rest f l now new x y e h a w c z =
      let next : was ≡ mark x y rest = e ∙ (λ i. h i rest) in
      subst (λ (d : Bool). WaysLeft b old m rest d new n) (sym z) (record {
        unreached = λ p i. path_labelled (after (assigning S) b false p) was rest l now.unreached new.unreached x y next a.unreached (w.unreached p i);
        reached = λ p i.
            let t = w.reached p i in
            record {
              left = path_labelled (after (assigning S) b false p) was rest l now.reached new.reached x y next a.reached t.left;
              due = None;
              met = λ q g. t.met q (subst (λ (d : Statements). AddsVisits k S n q (visits (assigning S) (standing l t.due t.left.here) d)) (sym next) g);
            };
      })

  path_done : (whole : paths.Path) (rest : Statements) (l : Bool) (now : Path) → rest ≡ done → PathLeft whole rest l now → Alike whole (path_of now)
  path_done whole rest l now e t = subst (λ (q : paths.Path). Alike q (path_of now)) (sym (ap (λ (c : Statements). after (assigning S) c l t.here) e) ∙ t.path) t.alike

  pub left_done : (b : Statements) (old : Ways) (m n : Option Gathered) (rest : Statements) (l : Bool) (now : Ways) → rest ≡ done → WaysLeft b old m rest l now n → GoesAll k S b old now m n
  left_done b old m n rest l now e w = record {
    leads = record {
      unreached = λ p i. path_done (after (assigning S) b false p) rest l now.unreached e (w.unreached p i);
      reached = λ p i. path_done (after (assigning S) b false p) rest l now.reached e (w.reached p i).left;
    };
    found = λ p i.
        let t = w.reached p i in
        t.met n (subst (λ (d : Statements). AddsVisits k S n n (visits (assigning S) (standing l t.due t.left.here) d)) (sym e) (adds_nothing n));
  }

  -- ---- branches

  -- what is left of branches still leads where all of them do
  abbrev pub EndsLeft : Branches → Path → Branches → Path → Type 0
  EndsLeft bs old rest ends = (p : paths.Path) → Alike p (path_of old) → Alike (paths.joined (path_of ends) (after_some (assigning S) rest p)) (after_some (assigning S) bs p)

  pub record SomeLeft (bs : Branches) (old : Ways) (m : Option Gathered) (rest : Branches) (ends : Ways) (n : Option Gathered) : Type 0 where
    pub unreached : EndsLeft bs old.unreached rest ends.unreached
    pub reached : EndsLeft bs old.reached rest ends.reached
    pub met : (p : paths.Path) → Alike p (path_of old.reached) → (o : Option Gathered) → AddsVisits k S n o (visits_of_some (assigning S) (inside p) rest) → AddsVisits k S m o (visits_of_some (assigning S) (inside p) bs)

  ends_first : (bs : Branches) (old ends : Path) → Alike None (path_of ends) → EndsLeft bs old bs ends
  ends_first bs old ends h = λ p i.
      alike_joined (path_of ends) None (after_some (assigning S) bs p) (after_some (assigning S) bs p) (alike_sym None (path_of ends) h) (alike_itself (after_some (assigning S) bs p))

  pub some_first : (bs : Branches) (old ends : Ways) (m : Option Gathered) → AreWays None None ends → SomeLeft bs old m bs ends m
  some_first bs old ends m a = record {
    unreached = ends_first bs old.unreached ends.unreached a.unreached;
    reached = ends_first bs old.reached ends.reached a.reached;
    met = λ p i o g. g;
  }

  ends_more : (bs rest : Branches) (b : Statements) (old copy one now new : Path) → Alike (path_of old) (path_of copy) → Leads (after (assigning S) b false) copy one → Alike (paths.joined (path_of now) (path_of one)) (path_of new)
      → EndsLeft bs old (or b rest) now → EndsLeft bs old rest new
  ends_more bs rest b old copy one now new c h j t = λ p i.
      let r = after_some (assigning S) rest p in
      let q = after (assigning S) b false p in
      alike_then (paths.joined (path_of new) r) (paths.joined (paths.joined (path_of now) q) r) (after_some (assigning S) bs p)
      (alike_joined (path_of new) (paths.joined (path_of now) q) r r
      (alike_sym (paths.joined (path_of now) q) (path_of new)
      (alike_then (paths.joined (path_of now) q) (paths.joined (path_of now) (path_of one)) (path_of new)
      (alike_joined (path_of now) (path_of now) q (path_of one) (alike_itself (path_of now)) (leads_copied (after (assigning S) b false) old copy one c h p i)) j))
      (alike_itself r))
      (alike_then (paths.joined (paths.joined (path_of now) q) r) (paths.joined (path_of now) (paths.joined q r)) (after_some (assigning S) bs p) (joined_first (path_of now) q r) (t p i))

  pub some_more : (bs rest : Branches) (b : Statements) (old copy one now new : Ways) (m n o : Option Gathered) → AreWays (path_of old.unreached) (path_of old.reached) copy → GoesAll k S b copy one n o
      → AreWays (paths.joined (path_of now.unreached) (path_of one.unreached)) (paths.joined (path_of now.reached) (path_of one.reached)) new → SomeLeft bs old m (or b rest) now n → SomeLeft bs old m rest new o
  some_more bs rest b old copy one now new m n o c g j t = record {
    unreached = ends_more bs rest b old.unreached copy.unreached one.unreached now.unreached new.unreached c.unreached g.leads.unreached j.unreached t.unreached;
    reached = ends_more bs rest b old.reached copy.reached one.reached now.reached new.reached c.reached g.leads.reached j.reached t.reached;
    met = λ p i q x.
        t.met p i q
        (adds_both n o q (visits (assigning S) (inside p) b) (visits_of_some (assigning S) (inside p) rest) (g.found p (alike_then p (path_of old.reached) (path_of copy.reached) i c.reached)) x);
  }

  ends_done : (bs rest : Branches) (old ends : Path) → rest ≡ no_branches → EndsLeft bs old rest ends → Leads (after_some (assigning S) bs) old ends
  ends_done bs rest old ends e t = λ p i.
      alike_sym (path_of ends) (after_some (assigning S) bs p)
      (subst (λ (q : paths.Path). Alike q (after_some (assigning S) bs p)) (ap (λ (c : Branches). paths.joined (path_of ends) (after_some (assigning S) c p)) e ∙ joined_end (path_of ends)) (t p i))

  pub some_done : (bs rest : Branches) (old ends : Ways) (m n : Option Gathered) → rest ≡ no_branches → SomeLeft bs old m rest ends n → GoesSome k S bs old ends m n
  some_done bs rest old ends m n e t = record {
    leads = record {
      unreached = ends_done bs rest old.unreached ends.unreached e t.unreached;
      reached = ends_done bs rest old.reached ends.reached e t.reached;
    };
    found = λ p i. t.met p i n (subst (λ (c : Branches). AddsVisits k S n n (visits_of_some (assigning S) (inside p) c)) (sym e) (adds_nothing n));
  }

  -- ---- what stands for a statement

  pub one_stands : (l : Bool) (f : InList) (at of : Span) (st su : Statement) (old new : Ways) (m n : Option Gathered) → f ≡ then at st → f ≡ then of su → GoesOne k S l at st old new m n → GoesOne k S l of su old new m n
  one_stands l f at of st su old new m n e h g =
      let s = same_span f at of st su e h in
      subst (λ (o : Span). GoesOne k S l o su old new m n) s.0 (subst (λ (z : Statement). GoesOne k S l at z old new m n) s.1 g)

  module _ (ts : List Tree) (l : Bool) (old new : Ways) (f : Stmt) (at : Span) (st : Statement) (stands : stmt_at ts f ≡ then at st) where
    pub if_stands : (s : code_span.Span) (e : ℕ) (b c : Vec Stmt Global) (x y : List Stmt) (copy one two : Ways) (m n o : Option Gathered) → f ≡ If s e b c → x ≡ b.items → y ≡ c.items
        → S (branch (pool.at ts e) (statements_at ts b.items) (statements_at ts c.items)) ≡ none_found
        → AreWays (path_of old.unreached) (path_of old.reached) copy → GoesAll k S (statements_at ts x) old one m n → GoesAll k S (statements_at ts y) copy two n o
        → AreWays (paths.joined (path_of one.unreached) (path_of two.unreached)) (paths.joined (path_of one.reached) (path_of two.reached)) new → GoesOne k S l at st old new m o
    if_stands s e b c x y copy one two m n o is d g none w h i j =
        one_stands l (stmt_at ts f) (span_of s) at (branch (pool.at ts e) (statements_at ts b.items) (statements_at ts c.items)) st old new m o (ap (stmt_at ts) is ∙ if_at ts s e b c) stands
        (if_goes l (span_of s) (pool.at ts e) (statements_at ts b.items) (statements_at ts c.items) old copy one two new m n o none w
        (subst (λ (ss : List Stmt). GoesAll k S (statements_at ts ss) old one m n) d h) (subst (λ (ss : List Stmt). GoesAll k S (statements_at ts ss) copy two n o) g i) j)

    pub either_stands : (s : code_span.Span) (bs : Vec (Vec Stmt Global) Global) (xs : List (Vec Stmt Global)) (m n : Option Gathered) → f ≡ Either s bs → xs ≡ bs.items
        → S (either (branches_at ts bs.items)) ≡ none_found → GoesSome k S (branches_at ts xs) old new m n → GoesOne k S l at st old new m n
    either_stands s bs xs m n is d none g =
        one_stands l (stmt_at ts f) (span_of s) at (either (branches_at ts bs.items)) st old new m n (ap (stmt_at ts) is ∙ either_at ts s bs) stands
        (either_goes l (span_of s) (branches_at ts bs.items) old new m n none (subst (λ (ys : List (Vec Stmt Global)). GoesSome k S (branches_at ts ys) old new m n) d g))

    pub with_stands : (s : code_span.Span) (bs : Vec Bind Global) (b : Vec Stmt Global) (x : List Stmt) (m n : Option Gathered) → f ≡ With s bs b → x ≡ b.items
        → S (with (binds_at ts bs.items) (statements_at ts b.items)) ≡ none_found → GoesAll k S (statements_at ts x) old new m n → GoesOne k S l at st old new m n
    with_stands s bs b x m n is d none g =
        one_stands l (stmt_at ts f) (span_of s) at (with (binds_at ts bs.items) (statements_at ts b.items)) st old new m n (ap (stmt_at ts) is ∙ with_at ts s bs b) stands
        (with_goes l (span_of s) (binds_at ts bs.items) (statements_at ts b.items) old new m n none (subst (λ (ss : List Stmt). GoesAll k S (statements_at ts ss) old new m n) d g))

    pub while_stands : (s : code_span.Span) (e : ℕ) (b : Vec Stmt Global) (x y : List Stmt) (m n : Option Gathered) → f ≡ While s e b → x ≡ b.items → y ≡ b.items
        → S (while (pool.at ts e) (statements_at ts b.items)) ≡ none_found → LeadsBoth (looped (assigning S) (statements_at ts x) l) old new
        → Gathers k S (λ p. visits (assigning S) (inside p) (statements_at ts y)) new.reached m n → GoesOne k S l at st old new m n
    while_stands s e b x y m n is d i none h g =
        one_stands l (stmt_at ts f) (span_of s) at (while (pool.at ts e) (statements_at ts b.items)) st old new m n (ap (stmt_at ts) is ∙ while_at ts s e b) stands
        (while_goes l (span_of s) (pool.at ts e) (statements_at ts b.items) old new m n none
        (subst (λ (ss : List Stmt). LeadsBoth (looped (assigning S) (statements_at ts ss) l) old new) d h)
        (subst (λ (ss : List Stmt). Gathers k S (λ p. visits (assigning S) (inside p) (statements_at ts ss)) new.reached m n) i g))

-- ---- statements with none in them

none_within : (ts : List Tree) (E : Effects) (l : Bool) (r : Option Rule) (p : paths.Path) (x : declared_simple.Simple) → visits_inside E (standing l r p) (simple_at ts x) ≡ []
none_within ts E l r p (simple.Assign ms) = refl
none_within ts E l r p (simple.Await e) = refl
none_within ts E l r p (simple.Print e) = refl
none_within ts E l r p (simple.Assert e) = refl
none_within ts E l r p simple.Skip = refl
none_within ts E l r p (simple.Goto x) = refl
none_within ts E l r p (simple.Macro x es) = refl
none_within ts E l r p (simple.Call x es) = refl
none_within ts E l r p simple.Return = refl

path_past : (ts : List Tree) (S : Statement → Found) (l : Bool) (xs : List Word) (x : declared_simple.Simple) → Same xs (S (simple_at ts x)).names → (p q : paths.Path) → Alike p q
    → Alike (after_one (assigning S) (simple_at ts x) l p) (cond (holds_one (simple_at ts x)) None (option_map (λ us. xs ++ us) q))
path_past ts S l xs x n p q h = by x n
  where
    moved : (st : Statement) → Same xs (S st).names → Alike (option_map (λ us. (S st).names ++ us) p) (option_map (λ us. xs ++ us) q)
    moved st n = assigned_alike (S st).names xs p q (λ f. sym (n f)) h

    by : (x : declared_simple.Simple) → Same xs (S (simple_at ts x)).names → Alike (after_one (assigning S) (simple_at ts x) l p) (cond (holds_one (simple_at ts x)) None (option_map (λ us. xs ++ us) q))
    by (simple.Assign ms) n = moved (simple_at ts (simple.Assign ms)) n
    by (simple.Await e) n = moved (simple_at ts (simple.Await e)) n
    by (simple.Print e) n = moved (simple_at ts (simple.Print e)) n
    by (simple.Assert e) n = moved (simple_at ts (simple.Assert e)) n
    by simple.Skip n = moved (simple_at ts simple.Skip) n
    by (simple.Goto x) n = tt
    by (simple.Macro x es) n = moved (simple_at ts (simple.Macro x es)) n
    by (simple.Call x es) n = tt
    by simple.Return n = tt

simple_leads : (ts : List Tree) (S : Statement → Found) (l : Bool) (xs : List Word) (x : declared_simple.Simple) (jumps : Bool) → Same xs (S (simple_at ts x)).names → jumps ≡ holds_one (simple_at ts x) → (old new : Path)
    → Alike (cond jumps None (option_map (λ us. xs ++ us) (path_of old))) (path_of new) → Leads (after_one (assigning S) (simple_at ts x) l) old new
simple_leads ts S l xs x jumps n b old new h = λ p i.
    alike_then (after_one (assigning S) (simple_at ts x) l p) (cond jumps None (option_map (λ us. xs ++ us) (path_of old))) (path_of new)
    (subst (λ (c : Bool). Alike (after_one (assigning S) (simple_at ts x) l p) (cond c None (option_map (λ us. xs ++ us) (path_of old)))) (sym b) (path_past ts S l xs x n p (path_of old) i)) h

pub simple_goes : (a : Around) (ms : List Summary) (ts : List Tree) (x : declared_simple.Simple) (step : Step) (jumps : Bool) (old new : Ways) (m n : Option Gathered) → a.name ≡ None → a.own.items ≡ []
    → Assigns step (effect_with (effects_around a ms) (simple_at ts x) no_partner) → jumps ≡ holds_one (simple_at ts x)
    → AddsSome a.known m n (names_on (path_of old.reached) step.names.items) (turns_on (path_of old.reached) step.names.items ++ (found_here ms (simple_at ts x)).pairs)
    → AreWays (cond jumps None (option_map (λ us. step.names.items ++ us) (path_of old.unreached))) (cond jumps None (option_map (λ us. step.names.items ++ us) (path_of old.reached))) new
    → (l : Bool) (at : Span) → GoesOne a.known (found_here ms) l at (simple_at ts x) old new m n
simple_goes a ms ts x step jumps old new m n name own k b gathers w l at =
    let st = simple_at ts x in
    let S = found_here ms in
    let same : Same step.names.items (found_here ms (simple_at ts x)).names =
    λ f. k.names f ∙ ap (λ (F : Effects). list_any f (effect_with F st no_partner).variables) (outside a ms name own) ∙ ap (list_any f) (outside_names ms st no_partner) in
    λ r j. record {
      leads = record {
        unreached = simple_leads ts S l step.names.items x jumps same b old.unreached new.unreached w.unreached;
        reached = simple_leads ts S l step.names.items x jumps same b old.reached new.reached w.reached;
      };
      found = λ p i.
          subst (λ (vs : List Visit). AddsVisits a.known S m n (record { before = standing l r p; place = at.first; statement = st; partner = j } ∷ vs)) (sym (none_within ts (assigning S) l r p x))
          (adds_some_as a.known m n (names_on (path_of old.reached) step.names.items) ((found_on p (S st)).names ++ []) (turns_on (path_of old.reached) step.names.items ++ (S st).pairs) ((found_on p (S st)).pairs ++ [])
          (λ f. names_alike ms st step.names.items same p (path_of old.reached) i f ∙ ap (list_any f) (sym (append-nil (found_on p (S st)).names)))
          (λ g z. pairs_alike ms st step.names.items same p (path_of old.reached) i (is_broken (put_for g)) ∙ ap (list_any (is_broken (put_for g))) (sym (append-nil (found_on p (S st)).pairs)))
          gathers);
    }
