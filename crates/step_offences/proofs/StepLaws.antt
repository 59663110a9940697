-- What statements with others in them offend, and the paths behind them.
use Rattle.std.proofs.Common.{◌≡◌, Bool, true, false, ◌||◌, Some, None, refl, subst, cond}
use Rattle.tla_token.specs.declared.rule.Rule.TheVariants.{AfterBranch}
use Rattle.tla_tree.specs.Tree.{Tree}
use Rattle.pcal_tree.specs.Algorithm.{Span, Binds, Statement, branch, either, with, while, Statements, then, Branches}
use Rattle.pcal_tree.specs.InMemory.{Before as InList}
use Rattle.pcal_tree.specs.OffencesSteps.{holds, holds_some, inside, visits}
use Rattle.pcal_tree.specs.Paths as paths
use Rattle.pcal_tree.specs.Paths.{Effects, nothing, after}
use Rattle.pcal_tree.specs.Run.{Partner}
use Rattle.pcal_tree.proofs.EffectLaws.{Alike}
use Rattle.label_steps.specs.declared.ways.Ways.{Ways}
use Rattle.label_steps.specs.PathsIn.{path_of}
use Rattle.label_steps.specs.WaysIn.{looped, LeadsBoth, AreWays}
use Rattle.label_steps.proofs.WalksLaws.{alike_then, alike_itself, same_span}
use Rattle.label_steps.proofs.WaysLaws.{leads_joined, leads_copied}
use Rattle.step_offences.specs.declared.steps.Spot.{Spot}
use Rattle.step_offences.specs.declared.steps.Behind.{Behind}
use Rattle.step_offences.specs.Stepping.{Told, is_told, Tells, TellsVisits, here, GoesOne, GoesAll, GoesSome}
use Rattle.step_offences.proofs.ToldLaws.{told_still, visits_then, around_told}

-- what is in a statement with branches or a body, which hold a label or a jump, or none
pub record OfBranches (b : Behind) (h : Bool) : Type 0 where
  pub held : b.held ≡ h
  pub due : b.due ≡ cond h (Some AfterBranch) None

of_branches : (b : Behind) (h w : Bool) → OfBranches b h → h ≡ w → OfBranches b w
of_branches b h w o e = subst (OfBranches b) e o

module _ (E : Effects) (s : Spot) (j : Partner) where
  pub if_goes : (at : Span) (e : Tree) (a b : Statements) (old copy one two new : Ways) (k m n o : Told) (x y : Bool) (r : Behind) → E (branch e a b) ≡ nothing → Tells k m (here s false false at.first)
      → AreWays (path_of old.unreached) (path_of old.reached) copy → GoesAll E None a old one m n x → GoesAll E None b copy two n o y
      → AreWays (paths.joined (path_of one.unreached) (path_of two.unreached)) (paths.joined (path_of one.reached) (path_of two.reached)) new
      → OfBranches r (x || y) → GoesOne E s.labelled s.due at (branch e a b) j old new k o r
  if_goes at e a b old copy one two new k m n o x y r none d c g h w br =
      let holding : is_told k ≡ true → OfBranches r (holds a || holds b) =
      λ t.
      let u = told_still k m (here s false false at.first) d t in
      let v = told_still m n _ (g.found (path_of old.reached) (alike_itself (path_of old.reached))) u in
      of_branches r (x || y) (holds a || holds b) br (λ i. g.held u i || h.held v i) in
      record {
        goes = record {
          leads = record {
            unreached =
                leads_joined (after E a false) (after E b false) old.unreached one.unreached two.unreached new.unreached g.leads.unreached
                (leads_copied (after E b false) old.unreached copy.unreached two.unreached c.unreached h.leads.unreached) w.unreached;
            reached =
                leads_joined (after E a false) (after E b false) old.reached one.reached two.reached new.reached g.leads.reached
                (leads_copied (after E b false) old.reached copy.reached two.reached c.reached h.leads.reached) w.reached;
          };
          found = λ p i.
              around_told E k m o s false p at (branch e a b) j refl none d
              (visits_then E m n o (visits E (inside p) a) (visits E (inside p) b) (g.found p i) (h.found p (alike_then p (path_of old.reached) (path_of copy.reached) i c.reached)));
          held = λ t. (holding t).held;
        };
        due = λ t. (holding t).due;
      }

  pub either_goes : (at : Span) (bs : Branches) (old new : Ways) (k m n : Told) (x : Bool) (r : Behind) → E (either bs) ≡ nothing → Tells k m (here s false false at.first)
      → GoesSome E bs old new m n x → OfBranches r x → GoesOne E s.labelled s.due at (either bs) j old new k n r
  either_goes at bs old new k m n x r none d g br =
      let holding : is_told k ≡ true → OfBranches r (holds_some bs) = λ t. of_branches r x (holds_some bs) br (g.held (told_still k m (here s false false at.first) d t)) in
      record {
        goes = record {
          leads = record { unreached = g.leads.unreached; reached = g.leads.reached };
          found = λ p i. around_told E k m n s false p at (either bs) j refl none d (g.found p i);
          held = λ t. (holding t).held;
        };
        due = λ t. (holding t).due;
      }

  pub with_goes : (at : Span) (bs : Binds) (b : Statements) (old new : Ways) (k m n : Told) (x : Bool) (r : Behind) → E (with bs b) ≡ nothing → Tells k m (here s false false at.first)
      → GoesAll E None b old new m n x → OfBranches r x → GoesOne E s.labelled s.due at (with bs b) j old new k n r
  with_goes at bs b old new k m n x r none d g br =
      let holding : is_told k ≡ true → OfBranches r (holds b) = λ t. of_branches r x (holds b) br (g.held (told_still k m (here s false false at.first) d t)) in
      record {
        goes = record {
          leads = record { unreached = g.leads.unreached; reached = g.leads.reached };
          found = λ p i. around_told E k m n s false p at (with bs b) j refl none d (g.found p i);
          held = λ t. (holding t).held;
        };
        due = λ t. (holding t).due;
      }

  pub while_goes : (at : Span) (e : Tree) (b : Statements) (old new : Ways) (k m n : Told) (r : Behind) → E (while e b) ≡ nothing → Tells k m (here s true false at.first)
      → LeadsBoth (looped E b s.labelled) old new → ((p : paths.Path) → Alike p (path_of new.reached) → TellsVisits E m n (visits E (inside p) b)) → (is_told m ≡ true → r.held ≡ holds b) → r.due ≡ None
      → GoesOne E s.labelled s.due at (while e b) j old new k n r
  while_goes at e b old new k m n r none d h g held due = record {
    goes = record {
      leads = record { unreached = h.unreached; reached = h.reached };
      found = λ p i. around_told E k m n s true p at (while e b) j refl none d (g (looped E b s.labelled p) (h.reached p i));
      held = λ t. held (told_still k m (here s true false at.first) d t);
    };
    due = λ t. due;
  }

-- ---- what stands for a statement in memory

pub one_stands : (E : Effects) (s : Spot) (j : Partner) (f : InList) (at of : Span) (st su : Statement) (old new : Ways) (m n : Told) (r : Behind) → f ≡ then at st → f ≡ then of su
    → GoesOne E s.labelled s.due at st j old new m n r → GoesOne E s.labelled s.due of su j old new m n r
one_stands E s j f at of st su old new m n r e h g =
    let z = same_span f at of st su e h in
    subst (λ (o : Span). GoesOne E s.labelled s.due o su j old new m n r) z.0 (subst (λ (y : Statement). GoesOne E s.labelled s.due at y j old new m n r) z.1 g)
