-- What lists of statements and branches offend, one after another, and the paths behind them. Its laws of paths stand in `WaysLaws` of `label_steps` too, where they are said of what is gathered.
use Rattle.std.proofs.Common.{◌≡◌, List, [], ◌++◌, Bool, true, false, ◌||◌, Option, Some, None, refl, sym, ap, ◌∙◌, subst}
use Rattle.tla_token.specs.declared.rule.Rule.{Rule}
use Rattle.tla_tree.specs.Tree.{Name}
use Rattle.pcal_tree.specs.declared.mark.Mark.{Mark}
use Rattle.pcal_tree.specs.Algorithm.{Span, Statement, Statements, then, mark, done, Branches, no_branches, or}
use Rattle.pcal_tree.specs.InMemory.{Before as InList}
use Rattle.pcal_tree.specs.OffencesSteps.{holds_one, holds, holds_some, inside, due_after, Visit, visits, visits_of_some}
use Rattle.pcal_tree.specs.Paths as paths
use Rattle.pcal_tree.specs.Paths.{Effects, after_one, after, after_some}
use Rattle.pcal_tree.specs.Run.{partner_of}
use Rattle.pcal_tree.proofs.EffectLaws.{Alike}
use Rattle.label_steps.specs.declared.path.Path.{Path}
use Rattle.label_steps.specs.declared.ways.Ways.{Ways}
use Rattle.label_steps.specs.PathsIn.{path_of}
use Rattle.label_steps.specs.WaysIn.{Leads, AreWays, standing, visits_one}
use Rattle.label_steps.proofs.WalksLaws.{alike_sym, alike_then, alike_itself, alike_joined, joined_first, joined_end}
use Rattle.label_steps.proofs.WaysLaws.{leads_copied}
use Rattle.step_offences.specs.declared.steps.Behind.{Behind}
use Rattle.step_offences.specs.Stepping.{Told, is_told, TellsVisits, GoesOne, GoesAll, GoesSome}
use Rattle.step_offences.proofs.ToldLaws.{told_still, visits_none, visits_then, visits_as}

or_none : (b : Bool) → (b || false) ≡ b
or_none true = refl
or_none false = refl

or_first : (a b c : Bool) → ((a || b) || c) ≡ (a || (b || c))
or_first true b c = refl
or_first false b c = refl

module _ (E : Effects) where
  -- ---- lists

  -- what is left of a list still leads where the whole does
  pub record PathLeft (whole : paths.Path) (rest : Statements) (l : Bool) (now : Path) : Type 0 where
    pub here : paths.Path
    pub alike : Alike here (path_of now)
    pub path : after E rest l here ≡ whole

  pub record MetLeft (whole : paths.Path) (all : List Visit) (m : Told) (rest : Statements) (l : Bool) (r : Option Rule) (now : Path) (n : Told) : Type 0 where
    pub left : PathLeft whole rest l now
    pub met : (o : Told) → TellsVisits E n o (visits E (standing l r left.here) rest) → TellsVisits E m o all

  pub record WaysLeft (s : Option Rule) (b : Statements) (old : Ways) (m : Told) (rest : Statements) (l : Bool) (r : Option Rule) (now : Ways) (n : Told) (said : Bool) : Type 0 where
    pub unreached : (p : paths.Path) → Alike p (path_of old.unreached) → PathLeft (after E b false p) rest l now.unreached
    pub reached : (p : paths.Path) → Alike p (path_of old.reached) → MetLeft (after E b false p) (visits E (standing false s p) b) m rest l r now.reached n
    pub still : is_told m ≡ true → is_told n ≡ true
    pub held : is_told m ≡ true → (said || holds rest) ≡ holds b

  pub left_first : (s : Option Rule) (b : Statements) (w : Ways) (m : Told) → WaysLeft s b w m b false s w m false
  left_first s b w m = record {
    unreached = λ p h. record { here = p; alike = h; path = refl };
    reached = λ p h. record { left = record { here = p; alike = h; path = refl }; met = λ o g. g };
    still = λ t. t;
    held = λ t. refl;
  }

  path_more : (whole : paths.Path) (b rest : Statements) (l : Bool) (now new : Path) (at : Span) (st : Statement) → b ≡ then at st rest → Leads (after_one E st l) now new
      → PathLeft whole b l now → PathLeft whole rest false new
  path_more whole b rest l now new at st next h t = record {
    here = after_one E st l t.here;
    alike = h t.here t.alike;
    path = sym (ap (λ (c : Statements). after E c l t.here) next) ∙ t.path;
  }

  pub left_more : (s : Option Rule) (b : Statements) (old : Ways) (m n o : Told) (was rest : Statements) (f : InList) (l : Bool) (r : Option Rule) (now new : Ways) (at : Span) (st : Statement) (k : Behind) (x y : Bool) → was ≡ f rest → f ≡ then at st
      → GoesOne E l r at st (partner_of rest) now new n o k → y ≡ (x || k.held) → WaysLeft s b old m was l r now n x → WaysLeft s b old m rest false k.due new o y
  unfolding path_more
  left_more s b old m n o was rest f l r now new at st k x y e h g z w =
      let next : was ≡ then at st rest = e ∙ (λ i. h i rest) in
      let told_now : is_told n ≡ true → is_told o ≡ true = told_still n o _ (g.goes.found (path_of now.reached) (alike_itself (path_of now.reached))) in
      record {
        unreached = λ p i. path_more (after E b false p) was rest l now.unreached new.unreached at st next g.goes.leads.unreached (w.unreached p i);
        reached = λ p i.
            let t = w.reached p i in
            let q = after_one E st l t.left.here in
            record {
              left = path_more (after E b false p) was rest l now.reached new.reached at st next g.goes.leads.reached t.left;
              met = λ u v.
                  t.met u
                  (subst (λ (d : Statements). TellsVisits E n u (visits E (standing l r t.left.here) d)) (sym next)
                  (visits_as E n u (visits_one E (standing l r t.left.here) at st (partner_of rest) ++ visits E (standing false k.due q) rest)
                  (visits_one E (standing l r t.left.here) at st (partner_of rest) ++ visits E (standing false (due_after st (partner_of rest)) q) rest)
                  (λ told. ap (λ (d : Option Rule). visits_one E (standing l r t.left.here) at st (partner_of rest) ++ visits E (standing false d q) rest) (g.due told))
                  (visits_then E n o u (visits_one E (standing l r t.left.here) at st (partner_of rest)) (visits E (standing false k.due q) rest) (g.goes.found t.left.here t.left.alike) v)));
            };
        still = λ t. told_now (w.still t);
        held = λ t.
            ap (λ (c : Bool). c || holds rest) (z ∙ ap (λ (c : Bool). x || c) (g.goes.held (w.still t))) ∙ or_first x (holds_one st) (holds rest)
            ∙ ap (λ (c : Statements). x || holds c) (sym next) ∙ w.held t;
      }

  path_labelled : (whole : paths.Path) (b rest : Statements) (l : Bool) (now new : Path) (x : Name) (y : Mark) → b ≡ mark x y rest → Alike (Some []) (path_of new) → PathLeft whole b l now → PathLeft whole rest true new
  path_labelled whole b rest l now new x y next h t = record {
    here = Some [];
    alike = h;
    path = sym (ap (λ (c : Statements). after E c l t.here) next) ∙ t.path;
  }

  or_true : (x : Bool) → true ≡ (x || true)
  or_true true = refl
  or_true false = refl

  pub left_labelled : (s : Option Rule) (b : Statements) (old : Ways) (m n : Told) (was rest : Statements) (f : InList) (l : Bool) (r : Option Rule) (now new : Ways) (x : Name) (y : Mark) (z : Bool) → was ≡ f rest → f ≡ mark x y
      → AreWays (Some []) (Some []) new → WaysLeft s b old m was l r now n z → WaysLeft s b old m rest true None new n true
  unfolding path_labelled
  left_labelled s b old m n was rest f l r now new x y z e h a w =
      let next : was ≡ mark x y rest = e ∙ (λ i. h i rest) in
      record {
        unreached = λ p i. path_labelled (after E b false p) was rest l now.unreached new.unreached x y next a.unreached (w.unreached p i);
        reached = λ p i.
            let t = w.reached p i in
            record {
              left = path_labelled (after E b false p) was rest l now.reached new.reached x y next a.reached t.left;
              met = λ q g. t.met q (subst (λ (d : Statements). TellsVisits E n q (visits E (standing l r t.left.here) d)) (sym next) g);
            };
        still = w.still;
        held = λ t. or_true z ∙ ap (λ (c : Statements). z || holds c) (sym next) ∙ w.held t;
      }

  path_done : (whole : paths.Path) (rest : Statements) (l : Bool) (now : Path) → rest ≡ done → PathLeft whole rest l now → Alike whole (path_of now)
  path_done whole rest l now e t = subst (λ (q : paths.Path). Alike q (path_of now)) (sym (ap (λ (c : Statements). after E c l t.here) e) ∙ t.path) t.alike

  pub left_done : (s : Option Rule) (b : Statements) (old : Ways) (m n : Told) (rest : Statements) (l : Bool) (r : Option Rule) (now : Ways) (x : Bool) → rest ≡ done → WaysLeft s b old m rest l r now n x → GoesAll E s b old now m n x
  left_done s b old m n rest l r now x e w = record {
    leads = record {
      unreached = λ p i. path_done (after E b false p) rest l now.unreached e (w.unreached p i);
      reached = λ p i. path_done (after E b false p) rest l now.reached e (w.reached p i).left;
    };
    found = λ p i.
        let t = w.reached p i in
        t.met n (subst (λ (d : Statements). TellsVisits E n n (visits E (standing l r t.left.here) d)) (sym e) (visits_none E n));
    held = λ t. sym (or_none x) ∙ ap (λ (c : Statements). x || holds c) (sym e) ∙ w.held t;
  }

  -- ---- branches

  -- what is left of branches still leads where all of them do
  abbrev pub EndsLeft : Branches → Path → Branches → Path → Type 0
  EndsLeft bs old rest ends = (p : paths.Path) → Alike p (path_of old) → Alike (paths.joined (path_of ends) (after_some E rest p)) (after_some E bs p)

  pub record SomeLeft (bs : Branches) (old : Ways) (m : Told) (rest : Branches) (ends : Ways) (n : Told) (said : Bool) : Type 0 where
    pub unreached : EndsLeft bs old.unreached rest ends.unreached
    pub reached : EndsLeft bs old.reached rest ends.reached
    pub met : (p : paths.Path) → Alike p (path_of old.reached) → (o : Told) → TellsVisits E n o (visits_of_some E (inside p) rest) → TellsVisits E m o (visits_of_some E (inside p) bs)
    pub still : is_told m ≡ true → is_told n ≡ true
    pub held : is_told m ≡ true → (said || holds_some rest) ≡ holds_some bs

  ends_first : (bs : Branches) (old ends : Path) → Alike None (path_of ends) → EndsLeft bs old bs ends
  ends_first bs old ends h = λ p i.
      alike_joined (path_of ends) None (after_some E bs p) (after_some E bs p) (alike_sym None (path_of ends) h) (alike_itself (after_some E bs p))

  pub some_first : (bs : Branches) (old ends : Ways) (m : Told) → AreWays None None ends → SomeLeft bs old m bs ends m false
  some_first bs old ends m a = record {
    unreached = ends_first bs old.unreached ends.unreached a.unreached;
    reached = ends_first bs old.reached ends.reached a.reached;
    met = λ p i o g. g;
    still = λ t. t;
    held = λ t. refl;
  }

  ends_more : (bs rest : Branches) (b : Statements) (old copy one now new : Path) → Alike (path_of old) (path_of copy) → Leads (after E b false) copy one → Alike (paths.joined (path_of now) (path_of one)) (path_of new)
      → EndsLeft bs old (or b rest) now → EndsLeft bs old rest new
  ends_more bs rest b old copy one now new c h j t = λ p i.
      let r = after_some E rest p in
      let q = after E b false p in
      alike_then (paths.joined (path_of new) r) (paths.joined (paths.joined (path_of now) q) r) (after_some E bs p)
      (alike_joined (path_of new) (paths.joined (path_of now) q) r r
      (alike_sym (paths.joined (path_of now) q) (path_of new)
      (alike_then (paths.joined (path_of now) q) (paths.joined (path_of now) (path_of one)) (path_of new)
      (alike_joined (path_of now) (path_of now) q (path_of one) (alike_itself (path_of now)) (leads_copied (after E b false) old copy one c h p i)) j))
      (alike_itself r))
      (alike_then (paths.joined (paths.joined (path_of now) q) r) (paths.joined (path_of now) (paths.joined q r)) (after_some E bs p) (joined_first (path_of now) q r) (t p i))

  pub some_more : (bs was rest : Branches) (b : Statements) (old copy one now new : Ways) (m n o : Told) (x y z : Bool) → was ≡ or b rest → AreWays (path_of old.unreached) (path_of old.reached) copy → GoesAll E None b copy one n o y
      → AreWays (paths.joined (path_of now.unreached) (path_of one.unreached)) (paths.joined (path_of now.reached) (path_of one.reached)) new → z ≡ (x || y) → SomeLeft bs old m was now n x → SomeLeft bs old m rest new o z
  some_more bs was rest b old copy one now new m n o x y z next c g j e w =
      let t = subst (λ (cs : Branches). SomeLeft bs old m cs now n x) next w in
      record {
        unreached = ends_more bs rest b old.unreached copy.unreached one.unreached now.unreached new.unreached c.unreached g.leads.unreached j.unreached t.unreached;
        reached = ends_more bs rest b old.reached copy.reached one.reached now.reached new.reached c.reached g.leads.reached j.reached t.reached;
        met = λ p i q v.
            t.met p i q
            (visits_then E n o q (visits E (inside p) b) (visits_of_some E (inside p) rest) (g.found p (alike_then p (path_of old.reached) (path_of copy.reached) i c.reached)) v);
        still = λ u. told_still n o _ (g.found (path_of copy.reached) (alike_itself (path_of copy.reached))) (t.still u);
        held = λ u.
            ap (λ (d : Bool). d || holds_some rest) (e ∙ ap (λ (d : Bool). x || d) (g.held (t.still u))) ∙ or_first x (holds b) (holds_some rest) ∙ t.held u;
      }

  ends_done : (bs rest : Branches) (old ends : Path) → rest ≡ no_branches → EndsLeft bs old rest ends → Leads (after_some E bs) old ends
  ends_done bs rest old ends e t = λ p i.
      alike_sym (path_of ends) (after_some E bs p)
      (subst (λ (q : paths.Path). Alike q (after_some E bs p)) (ap (λ (c : Branches). paths.joined (path_of ends) (after_some E c p)) e ∙ joined_end (path_of ends)) (t p i))

  pub some_done : (bs rest : Branches) (old ends : Ways) (m n : Told) (x : Bool) → rest ≡ no_branches → SomeLeft bs old m rest ends n x → GoesSome E bs old ends m n x
  some_done bs rest old ends m n x e t = record {
    leads = record {
      unreached = ends_done bs rest old.unreached ends.unreached e t.unreached;
      reached = ends_done bs rest old.reached ends.reached e t.reached;
    };
    found = λ p i. t.met p i n (subst (λ (c : Branches). TellsVisits E n n (visits_of_some E (inside p) c)) (sym e) (visits_none E n));
    held = λ u. sym (or_none x) ∙ ap (λ (c : Branches). x || holds_some c) (sym e) ∙ t.held u;
  }
