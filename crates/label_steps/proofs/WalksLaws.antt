-- What is met in statements one after another, and the paths along which it is.
use Rattle.std.proofs.Common.{◌≡◌, ℕ, ◌+◌, ◌<◌, ◌≤◌, List, [], ◌∷◌, ◌++◌, Bool, true, false, ◌||◌, length, take, drop, get_or, Option, Some, None, Vec, Global, refl, sym, ap, ◌∙◌, subst, cond, append_assoc, append-nil}
use Rattle.std.specs.List.{list_any, flat_map}
use Rattle.std.specs.Option.{option_map}
use Rattle.std.proofs.lemmas.List.{drop_more, drop_all}
use Rattle.std.proofs.lemmas.Grind.{flat_map-append}
use Rattle.std.proofs.Math.Seq.{take-append_seam}
use Rattle.tla_token.specs.declared.place.Place.{Place}
use Rattle.tla_token.specs.declared.rule.Rule.TheVariants.{AssignTwice}
use Rattle.tla_token.specs.declared.rule.Refusal.{Refusal}
use Rattle.tla_tree.specs.Tree.{Name, Word, Tree}
use Rattle.tla_tree.specs.Pool as pool
use Rattle.pcal_tree.specs.declared.mark.Mark.{Mark}
use Rattle.pcal_tree.specs.declared.algorithm.Span as code_span
use Rattle.pcal_tree.specs.declared.algorithm.Bind.{Bind}
use Rattle.pcal_tree.specs.declared.algorithm.Simple as declared_simple
use Rattle.pcal_tree.specs.declared.algorithm.Simple.TheVariants as simple
use Rattle.pcal_tree.specs.declared.algorithm.Stmt.{Stmt}
use Rattle.pcal_tree.specs.declared.algorithm.Stmt.TheVariants.{Label, Simple, If, Either, With, While}
use Rattle.pcal_tree.specs.Algorithm.{Span, Statement, branch, either, with, while, Binds, Branches, Statements, then, mark, done, no_branches, or}
use Rattle.pcal_tree.specs.InMemory.{span_of, simple_at, binds_at, Before as InList, stmt_at, statements_at, branches_at}
use Rattle.pcal_tree.specs.Offences.{offence_if, first}
use Rattle.pcal_tree.specs.OffencesSteps.{holds_one, Visit, effect_with}
use Rattle.pcal_tree.specs.Paths as paths
use Rattle.pcal_tree.specs.Paths.{Effect, Effects, nothing, has_assigned, meets}
use Rattle.pcal_tree.specs.Run.{Partner, no_partner, return_partner, is_return, partner_of}
use Rattle.pcal_tree.specs.laws.MacroSummaries.{Summary, Pair, Found, found_here, found_on, none_found, is_broken}
use Rattle.pcal_tree.proofs.InMemoryEach.{label_at, simple_in_list_at, if_at, either_at, with_at, while_at}
use Rattle.pcal_tree.proofs.EffectLaws.{Alike}
use Rattle.pcal_tree.proofs.SetLaws.{Same, same_both, meets_same}
use Rattle.algorithm_answer.specs.Joined.{joined}
use Rattle.algorithm_answer.proofs.Joins.{joined_none}
use Rattle.label_jumps.proofs.FoundLaws.{found_then}
use Rattle.label_steps.specs.declared.around.Around.{Around}
use Rattle.label_steps.specs.declared.path.Path.{Path}
use Rattle.label_steps.specs.declared.sides.Step.{Step}
use Rattle.label_steps.specs.declared.walk.Met.{Met}
use Rattle.label_steps.specs.AroundIn.{effects_around}
use Rattle.label_steps.specs.AssignedTwice.{twice_at}
use Rattle.label_steps.specs.Gathered.{names_met, pairs_met}
use Rattle.label_steps.specs.GatheredIn.{AddsSome, names_on, turns_on}
use Rattle.label_steps.specs.KnownIn.{Assigns}
use Rattle.label_steps.specs.PathsIn.{Behind, path_of, ends_of}
use Rattle.label_steps.specs.StraightPaths.{straight_one, straight, straight_some, straight_inside, straight_visits, straight_in_some}
use Rattle.pcal_tree.proofs.TargetLaws.{put_for}
use Rattle.label_steps.proofs.AddsLaws.{adds_some_none, adds_some_then, adds_some_as, outside_names, names_alike, pairs_alike}
use Rattle.label_steps.proofs.TwiceLaws.{outside}
use Rattle.label_steps.specs.WalksIn.{IsKind, SameVariables, Gains, Walks, one_visit, EndsSo, PassesOne, PassesAll, PassesArm, PassesArms}

-- ---- paths that have assigned the same

pub alike_sym : (p q : paths.Path) → Alike p q → Alike q p
alike_sym None None h = h
alike_sym (Some xs) (Some ys) h = λ f. sym (h f)
alike_sym None (Some ys) h = h
alike_sym (Some xs) None h = h

pub alike_then : (p q r : paths.Path) → Alike p q → Alike q r → Alike p r
alike_then None None r h k = k
alike_then (Some xs) (Some ys) (Some zs) h k = λ f. h f ∙ k f
alike_then (Some xs) (Some ys) None h k = k
alike_then None (Some ys) r h k = absurd h
alike_then (Some xs) None r h k = absurd h

pub alike_itself : (p : paths.Path) → Alike p p
alike_itself None = tt
alike_itself (Some xs) = λ f. refl

pub alike_joined : (p q o r : paths.Path) → Alike p q → Alike o r → Alike (paths.joined p o) (paths.joined q r)
alike_joined None None o r h k = k
alike_joined (Some xs) (Some ys) None None h k = h
alike_joined (Some xs) (Some ys) (Some us) (Some vs) h k = same_both xs ys us vs h k
alike_joined (Some xs) (Some ys) None (Some vs) h k = absurd k
alike_joined (Some xs) (Some ys) (Some us) None h k = absurd k
alike_joined None (Some ys) o r h k = absurd h
alike_joined (Some xs) None o r h k = absurd h

pub has_alike : (p q : paths.Path) (xs ys : List Word) → Alike p q → Same xs ys → has_assigned p xs ≡ has_assigned q ys
has_alike None None xs ys h s = refl
has_alike (Some us) (Some vs) xs ys h s = meets_same us vs xs ys h s
has_alike None (Some vs) xs ys h s = absurd h
has_alike (Some us) None xs ys h s = absurd h

pub assigned_alike : (xs ys : List Word) (p q : paths.Path) → Same xs ys → Alike p q → Alike (option_map (λ us. xs ++ us) p) (option_map (λ us. ys ++ us) q)
assigned_alike xs ys None None s h = h
assigned_alike xs ys (Some us) (Some vs) s h = same_both xs ys us vs s h
assigned_alike xs ys None (Some vs) s h = absurd h
assigned_alike xs ys (Some us) None s h = absurd h

pub same_path : (p q : Path) → p.names.keys ≡ q.names.keys → p.reached ≡ q.reached → path_of p ≡ path_of q
same_path p q k r = λ i. cond (r i) (Some (k i)) None

-- ---- what is met, one after another

module _ (a : Around) (ms : List Summary) where
  pub gains_none : (m : Met) → Gains a ms m m []
  gains_none m = record { first = sym (joined_none m.first); found = λ n o. adds_some_none a.known m.found }

  pub gains_then : (m n o : Met) (vs ws : List Visit) → Gains a ms m n vs → Gains a ms n o ws → Gains a ms m o (vs ++ ws)
  gains_then m n o vs ws g h = record {
    first =
        found_then m.first n.first o.first (flat_map (twice_at (effects_around a ms)) vs) (flat_map (twice_at (effects_around a ms)) ws) g.first h.first
        ∙ ap (λ (rs : List Refusal). joined m.first (first rs)) (sym (flat_map-append (twice_at (effects_around a ms)) vs ws));
    found = λ x y.
        subst (λ (xs : List Word). AddsSome a.known m.found o.found xs (flat_map (pairs_met (found_here ms)) (vs ++ ws))) (sym (flat_map-append (names_met (found_here ms)) vs ws))
        (subst (λ (ps : List Pair). AddsSome a.known m.found o.found (flat_map (names_met (found_here ms)) vs ++ flat_map (names_met (found_here ms)) ws) ps) (sym (flat_map-append (pairs_met (found_here ms)) vs ws))
        (adds_some_then a.known m.found n.found o.found _ _ _ _ (g.found x y) (h.found x y)));
  }

-- ---- statements with none in them

none_inside : (ts : List Tree) (E : Effects) (p : paths.Path) (x : declared_simple.Simple) → straight_inside E p (simple_at ts x) ≡ []
none_inside ts E p (simple.Assign ms) = refl
none_inside ts E p (simple.Await e) = refl
none_inside ts E p (simple.Print e) = refl
none_inside ts E p (simple.Assert e) = refl
none_inside ts E p simple.Skip = refl
none_inside ts E p (simple.Goto x) = refl
none_inside ts E p (simple.Macro x es) = refl
none_inside ts E p (simple.Call x es) = refl
none_inside ts E p simple.Return = refl

path_past : (ts : List Tree) (E F : Effects) → SameVariables E F → (p q : paths.Path) → Alike p q → (j : Partner) (xs : List Word) (x : declared_simple.Simple) → Same xs (effect_with F (simple_at ts x) j).variables
    → Alike (straight_one E (simple_at ts x) p) (cond (holds_one (simple_at ts x)) None (option_map (λ us. xs ++ us) q))
path_past ts E F s p q h j xs x n = by x n
  where
    moved : (st : Statement) → Same xs (F st).variables → Alike (option_map (λ us. (E st).variables ++ us) p) (option_map (λ us. xs ++ us) q)
    moved st n = assigned_alike (E st).variables xs p q (λ f. s st f ∙ sym (n f)) h

    by : (x : declared_simple.Simple) → Same xs (effect_with F (simple_at ts x) j).variables → Alike (straight_one E (simple_at ts x) p) (cond (holds_one (simple_at ts x)) None (option_map (λ us. xs ++ us) q))
    by (simple.Assign ms) n = moved (simple_at ts (simple.Assign ms)) n
    by (simple.Await e) n = moved (simple_at ts (simple.Await e)) n
    by (simple.Print e) n = moved (simple_at ts (simple.Print e)) n
    by (simple.Assert e) n = moved (simple_at ts (simple.Assert e)) n
    by simple.Skip n = moved (simple_at ts simple.Skip) n
    by (simple.Goto x) n = tt
    by (simple.Macro x es) n = moved (simple_at ts (simple.Macro x es)) n
    by (simple.Call x es) n = tt
    by simple.Return n = tt

pub simple_passed : (a : Around) (ms : List Summary) (ts : List Tree) (E : Effects) → SameVariables E (effects_around a ms) → (p : paths.Path) (old new : Path) → Alike p (path_of old)
    → (j : Partner) (x : declared_simple.Simple) (at : Span) (place : Place) (step : Step) (m n : Met) (jumps : Bool) → Assigns step (effect_with (effects_around a ms) (simple_at ts x) j) → place ≡ at.first
    → n.first ≡ joined m.first (first (offence_if (step.twice || has_assigned (path_of old) step.names.items) AssignTwice place)) → jumps ≡ holds_one (simple_at ts x)
    → AddsSome a.known m.found n.found (names_on (path_of old) step.names.items) (turns_on (path_of old) step.names.items ++ (found_here ms (simple_at ts x)).pairs)
    → Alike (path_of new) (cond jumps None (option_map (λ us. step.names.items ++ us) (path_of old)))
    → Walks a ms (straight_one E (simple_at ts x) p) new m n (one_visit p at (simple_at ts x) j ∷ straight_inside E p (simple_at ts x))
simple_passed a ms ts E s p old new h j x at place step m n jumps k there e b gathers moved = record {
  path =
      alike_then (straight_one E (simple_at ts x) p) (cond jumps None (option_map (λ us. step.names.items ++ us) (path_of old))) (path_of new)
      (subst (λ (c : Bool). Alike (straight_one E (simple_at ts x) p) (cond c None (option_map (λ us. step.names.items ++ us) (path_of old)))) (sym b)
      (path_past ts E (effects_around a ms) s p (path_of old) h j step.names.items x k.names))
      (alike_sym (path_of new) (cond jumps None (option_map (λ us. step.names.items ++ us) (path_of old))) moved);
  met = subst (λ (vs : List Visit). Gains a ms m n (one_visit p at (simple_at ts x) j ∷ vs)) (sym (none_inside ts E p x)) (record {
    first =
        e
        ∙ ap (λ (c : Bool). joined m.first (first (offence_if c AssignTwice place)))
        (λ i. k.twice i || has_alike (path_of old) p step.names.items (effect_with (effects_around a ms) (simple_at ts x) j).variables (alike_sym p (path_of old) h) k.names i)
        ∙ ap (λ (l : Place). joined m.first (first (offence_if ((effect_with (effects_around a ms) (simple_at ts x) j).twice || has_assigned p (effect_with (effects_around a ms) (simple_at ts x) j).variables) AssignTwice l))) there
        ∙ ap (λ (rs : List Refusal). joined m.first (first rs)) (sym (append-nil (twice_at (effects_around a ms) (one_visit p at (simple_at ts x) j))));
    found = λ name own.
        let same : Same step.names.items (found_here ms (simple_at ts x)).names =
        λ f. k.names f ∙ ap (λ (F : Effects). list_any f (effect_with F (simple_at ts x) j).variables) (outside a ms name own) ∙ ap (list_any f) (outside_names ms (simple_at ts x) j) in
        adds_some_as a.known m.found n.found (names_on (path_of old) step.names.items) (names_met (found_here ms) (one_visit p at (simple_at ts x) j) ++ []) (turns_on (path_of old) step.names.items ++ (found_here ms (simple_at ts x)).pairs)
        (pairs_met (found_here ms) (one_visit p at (simple_at ts x) j) ++ [])
        (λ f. names_alike ms (simple_at ts x) step.names.items same p (path_of old) h f ∙ ap (list_any f) (sym (append-nil (found_on p (found_here ms (simple_at ts x))).names)))
        (λ g z. pairs_alike ms (simple_at ts x) step.names.items same p (path_of old) h (is_broken (put_for g)) ∙ ap (list_any (is_broken (put_for g))) (sym (append-nil (found_on p (found_here ms (simple_at ts x))).pairs)))
        gathers;
  });
}

-- ---- kinds

pub kind_simple : (ts : List Tree) (s : code_span.Span) (x : declared_simple.Simple) → IsKind false ts (Simple s x)
kind_simple ts s x = (span_of s, simple_at ts x, simple_in_list_at ts s x)

pub kind_if : (ts : List Tree) (s : code_span.Span) (e : ℕ) (a b : Vec Stmt Global) → IsKind false ts (If s e a b)
kind_if ts s e a b = (span_of s, _, if_at ts s e a b)

pub kind_either : (ts : List Tree) (s : code_span.Span) (bs : Vec (Vec Stmt Global) Global) → IsKind false ts (Either s bs)
kind_either ts s bs = (span_of s, _, either_at ts s bs)

pub kind_with : (ts : List Tree) (s : code_span.Span) (bs : Vec Bind Global) (a : Vec Stmt Global) → IsKind false ts (With s bs a)
kind_with ts s bs a = (span_of s, _, with_at ts s bs a)

pub kind_while : (ts : List Tree) (s : code_span.Span) (e : ℕ) (a : Vec Stmt Global) → IsKind false ts (While s e a)
kind_while ts s e a = (span_of s, _, while_at ts s e a)

-- what is next in a list
pub next_one : (ts : List Tree) (ss : List Stmt) (i : ℕ) (s : Stmt) → s ≡ get_or ss i s → i < length ss → statements_at ts (drop i ss) ≡ stmt_at ts s (statements_at ts (drop (i + 1) ss))
next_one ts ss i s e l = ap (λ (ys : List Stmt). statements_at ts ys) (drop_more ss i s l ∙ ap (λ (y : Stmt). y ∷ drop (i + 1) ss) (sym e))

pub next_none : (ts : List Tree) (ss : List Stmt) (i : ℕ) → length ss ≤ i → statements_at ts (drop i ss) ≡ done
next_none ts ss i l = ap (λ (ys : List Stmt). statements_at ts ys) (drop_all i ss l)

-- ---- statements with others in them

module _ (a : Around) (ms : List Summary) where
  -- they assign nothing themselves
  visit_nothing : (p : paths.Path) (at : Span) (st : Statement) (j : Partner) → effect_with (effects_around a ms) st j ≡ nothing → twice_at (effects_around a ms) (one_visit p at st j) ≡ []
  visit_nothing p at st j e = ap (λ (d : Effect). offence_if (d.twice || has_assigned p d.variables) AssignTwice at.first) e ∙ ap (λ (b : Bool). offence_if b AssignTwice at.first) (never p)
    where
      never : (q : paths.Path) → has_assigned q [] ≡ false
      never None = refl
      never (Some xs) = refl

  gains_over : (p : paths.Path) (at : Span) (st : Statement) (j : Partner) (m n : Met) (vs : List Visit) → effect_with (effects_around a ms) st j ≡ nothing → found_here ms st ≡ none_found → Gains a ms m n vs → Gains a ms m n (one_visit p at st j ∷ vs)
  gains_over p at st j m n vs e none g = record {
    first = g.first ∙ ap (λ (rs : List Refusal). joined m.first (first (rs ++ flat_map (twice_at (effects_around a ms)) vs))) (sym (visit_nothing p at st j e));
    found = λ x y.
        subst (λ (f : Found). AddsSome a.known m.found n.found (f.names ++ flat_map (names_met (found_here ms)) vs) (f.pairs ++ flat_map (pairs_met (found_here ms)) vs)) (sym (ap (found_on p) none ∙ none_on p)) (g.found x y);
  }
    where
      none_on : (q : paths.Path) → found_on q none_found ≡ none_found
      none_on None = refl
      none_on (Some xs) = refl

  module _ (E : Effects) (p : paths.Path) (at : Span) (j : Partner) where
    pub if_passed : (old new between : Path) (m n o : Met) (e : Tree) (b c : Statements) (ends all : Option Path) → Alike (ends_of old.names.keys ends) (straight E b p) → Gains a ms m n (straight_visits E p b)
        → between.names.keys ≡ old.names.keys → Alike (ends_of between.names.keys all) (paths.joined (ends_of between.names.keys ends) (straight E c p)) → Gains a ms n o (straight_visits E p c)
        → (last : Path) → last.names.keys ≡ between.names.keys → Alike (path_of new) (ends_of last.names.keys all)
        → Walks a ms (straight_one E (branch e b c) p) new m o (one_visit p at (branch e b c) j ∷ straight_inside E p (branch e b c))
    if_passed old new between m n o e b c ends all h g same k i last same_last close = record {
      path =
          alike_then (paths.joined (straight E b p) (straight E c p)) (paths.joined (ends_of old.names.keys ends) (straight E c p)) (path_of new)
          (alike_joined (straight E b p) (ends_of old.names.keys ends) (straight E c p) (straight E c p) (alike_sym (ends_of old.names.keys ends) (straight E b p) h) (alike_itself (straight E c p)))
          (alike_then (paths.joined (ends_of old.names.keys ends) (straight E c p)) (ends_of between.names.keys all) (path_of new)
          (subst (λ (xs : List Word). Alike (paths.joined (ends_of xs ends) (straight E c p)) (ends_of between.names.keys all)) same
          (alike_sym (ends_of between.names.keys all) (paths.joined (ends_of between.names.keys ends) (straight E c p)) k))
          (subst (λ (xs : List Word). Alike (ends_of xs all) (path_of new)) same_last (alike_sym (path_of new) (ends_of last.names.keys all) close)));
      met = gains_over p at (branch e b c) j m o (straight_visits E p b ++ straight_visits E p c) refl refl (gains_then a ms m n o (straight_visits E p b) (straight_visits E p c) g i);
    }

    pub either_passed : (old new last : Path) (m n : Met) (bs : Branches) (ends : Option Path) → Alike (ends_of old.names.keys ends) (straight_some E bs p) → Gains a ms m n (straight_in_some E p bs)
        → last.names.keys ≡ old.names.keys → Alike (path_of new) (ends_of last.names.keys ends) → Walks a ms (straight_one E (either bs) p) new m n (one_visit p at (either bs) j ∷ straight_inside E p (either bs))
    either_passed old new last m n bs ends h g same close = record {
      path =
          alike_then (straight_some E bs p) (ends_of old.names.keys ends) (path_of new) (alike_sym (ends_of old.names.keys ends) (straight_some E bs p) h)
          (subst (λ (xs : List Word). Alike (ends_of xs ends) (path_of new)) same (alike_sym (path_of new) (ends_of last.names.keys ends) close));
      met = gains_over p at (either bs) j m n (straight_in_some E p bs) refl refl g;
    }

    pub with_passed : (new : Path) (m n : Met) (bs : Binds) (b : Statements) → Walks a ms (straight E b p) new m n (straight_visits E p b)
        → Walks a ms (straight_one E (with bs b) p) new m n (one_visit p at (with bs b) j ∷ straight_inside E p (with bs b))
    with_passed new m n bs b w = record { path = w.path; met = gains_over p at (with bs b) j m n (straight_visits E p b) refl refl w.met }

    pub while_passed : (old new : Path) (m n : Met) (e : Tree) (b : Statements) → Alike p (path_of old) → new.names.keys ≡ old.names.keys → new.reached ≡ old.reached → Gains a ms m n (straight_visits E p b)
        → Walks a ms (straight_one E (while e b) p) new m n (one_visit p at (while e b) j ∷ straight_inside E p (while e b))
    while_passed old new m n e b h k r g = record {
      path = subst (λ (q : paths.Path). Alike p q) (sym (same_path new old k r)) h;
      met = gains_over p at (while e b) j m n (straight_visits E p b) refl refl g;
    }

-- ---- what stands for a statement

pub unmarked : (f : InList) (x : Name) (k : Mark) (at : Span) (st : Statement) → f ≡ then at st → f ≡ mark x k → ⊥
unmarked f x k at st e h = is_then (λ i. (sym e ∙ h) i done)
  where
    is_then : then at st done ≡ mark x k done → ⊥
    is_then c = cc

pub same_span : (f : InList) (at of : Span) (st su : Statement) → f ≡ then at st → f ≡ then of su → (at ≡ of) × (st ≡ su)
same_span f at of st su e h = by (λ i. (sym e ∙ h) i done)
  where
    by : then at st done ≡ then of su done → (at ≡ of) × (st ≡ su)
    by c = (cc, cc)

-- ---- lists

-- what is left of a list still gives the whole of it
pub record Left (a : Around) (ms : List Summary) (E : Effects) (whole : paths.Path) (all : List Visit) (m : Met) (rest : Statements) (new : Path) (n : Met) : Type 0 where
  pub reached : paths.Path
  pub alike : Alike reached (path_of new)
  pub path : straight E rest reached ≡ whole
  pub met : (o : Met) → Gains a ms n o (straight_visits E reached rest) → Gains a ms m o all

pub record LeftBehind (a : Around) (ms : List Summary) (E : Effects) (all : List Visit) (m : Met) (rest : Statements) (new : Path) (n : Met) : Type 0 where
  pub reached : paths.Path
  pub alike : Alike reached (path_of new)
  pub met : (o : Met) → Gains a ms n o (straight_visits E reached rest) → Gains a ms m o all

pub begun : (new : Path) → new.names.keys ≡ [] → new.reached ≡ true → Alike (Some []) (path_of new)
begun new k r = subst (λ (q : paths.Path). Alike (Some []) q) (λ i. cond (sym r i) (Some (sym k i)) None) (λ f. refl)

module _ (a : Around) (ms : List Summary) (E : Effects) where
  pub left_first : (b : Statements) (p : paths.Path) (old : Path) (m : Met) → Alike p (path_of old) → Left a ms E (straight E b p) (straight_visits E p b) m b old m
  left_first b p old m h = record { reached = p; alike = h; path = refl; met = λ o g. g }

  pub left_more : (whole : paths.Path) (all : List Visit) (m n o : Met) (b rest : Statements) (f : InList) (now new : Path) (at : Span) (st : Statement) → b ≡ f rest → f ≡ then at st
      → ((p : paths.Path) → Alike p (path_of now) → (j : Partner) → is_return (partner_of rest) ≡ is_return j → Walks a ms (straight_one E st p) new n o (one_visit p at st j ∷ straight_inside E p st))
      → Left a ms E whole all m b now n → Left a ms E whole all m rest new o
  left_more whole all m n o b rest f now new at st e k w l =
      let next : b ≡ then at st rest = e ∙ (λ i. k i rest) in
      let one = w l.reached l.alike (partner_of rest) refl in
      record {
        reached = straight_one E st l.reached;
        alike = one.path;
        path = sym (ap (λ (c : Statements). straight E c l.reached) next) ∙ l.path;
        met = λ z g.
            l.met z
            (subst (λ (c : Statements). Gains a ms n z (straight_visits E l.reached c)) (sym next)
            (gains_then a ms n o z (one_visit l.reached at st (partner_of rest) ∷ straight_inside E l.reached st) (straight_visits E (straight_one E st l.reached) rest) one.met g));
      }

  pub left_done : (whole : paths.Path) (all : List Visit) (m n : Met) (b : Statements) (now : Path) → b ≡ done → Left a ms E whole all m b now n → Walks a ms whole now m n all
  left_done whole all m n b now e l = record {
    path = subst (λ (q : paths.Path). Alike q (path_of now)) (sym (ap (λ (c : Statements). straight E c l.reached) e) ∙ l.path) l.alike;
    met = l.met n (subst (λ (c : Statements). Gains a ms n n (straight_visits E l.reached c)) (sym e) (gains_none a ms n));
  }

  -- up to a label, behind which those that are left were met
  pub left_labelled : (whole : paths.Path) (all : List Visit) (m n o : Met) (b rest : Statements) (f : InList) (now : Path) (x : Name) (k : Mark) → b ≡ f rest → f ≡ mark x k
      → Gains a ms n o (straight_visits E (Some []) b) → Left a ms E whole all m b now n → Walks a ms whole now m o all
  left_labelled whole all m n o b rest f now x k e h g l =
      let next : b ≡ mark x k rest = e ∙ (λ i. h i rest) in
      record {
        path = subst (λ (q : paths.Path). Alike q (path_of now)) (sym (ap (λ (c : Statements). straight E c l.reached) next) ∙ l.path) l.alike;
        met =
            l.met o
            (subst (λ (c : Statements). Gains a ms n o (straight_visits E l.reached c)) (sym next)
            (subst (λ (c : Statements). Gains a ms n o (straight_visits E (Some []) c)) next g));
      }

  pub behind_first : (b : Statements) (new : Path) (m : Met) → new.names.keys ≡ [] → new.reached ≡ true → LeftBehind a ms E (straight_visits E (Some []) b) m b new m
  behind_first b new m k r = record {
    reached = Some [];
    alike = begun new k r;
    met = λ o g. g;
  }

  pub behind_more : (all : List Visit) (m n o : Met) (b rest : Statements) (f : InList) (now new : Path) (at : Span) (st : Statement) → b ≡ f rest → f ≡ then at st
      → ((p : paths.Path) → Alike p (path_of now) → (j : Partner) → is_return (partner_of rest) ≡ is_return j → Walks a ms (straight_one E st p) new n o (one_visit p at st j ∷ straight_inside E p st))
      → LeftBehind a ms E all m b now n → LeftBehind a ms E all m rest new o
  behind_more all m n o b rest f now new at st e k w l =
      let next : b ≡ then at st rest = e ∙ (λ i. k i rest) in
      let one = w l.reached l.alike (partner_of rest) refl in
      record {
        reached = straight_one E st l.reached;
        alike = one.path;
        met = λ z g.
            l.met z
            (subst (λ (c : Statements). Gains a ms n z (straight_visits E l.reached c)) (sym next)
            (gains_then a ms n o z (one_visit l.reached at st (partner_of rest) ∷ straight_inside E l.reached st) (straight_visits E (straight_one E st l.reached) rest) one.met g));
      }

  pub behind_label : (all : List Visit) (m n : Met) (b rest : Statements) (f : InList) (now new : Path) (x : Name) (k : Mark) → b ≡ f rest → f ≡ mark x k → new.names.keys ≡ [] → new.reached ≡ true
      → LeftBehind a ms E all m b now n → LeftBehind a ms E all m rest new n
  behind_label all m n b rest f now new x k e h names r l =
      let next : b ≡ mark x k rest = e ∙ (λ i. h i rest) in
      record {
        reached = Some [];
        alike = begun new names r;
        met = λ z g. l.met z (subst (λ (c : Statements). Gains a ms n z (straight_visits E l.reached c)) (sym next) g);
      }

  pub behind_done : (all : List Visit) (m n : Met) (b : Statements) (now : Path) → b ≡ done → LeftBehind a ms E all m b now n → Gains a ms m n all
  behind_done all m n b now e l = l.met n (subst (λ (c : Statements). Gains a ms n n (straight_visits E l.reached c)) (sym e) (gains_none a ms n))

-- ---- branches

pub joined_first : (p q r : paths.Path) → Alike (paths.joined (paths.joined p q) r) (paths.joined p (paths.joined q r))
joined_first None q r = alike_itself (paths.joined q r)
joined_first (Some xs) None r = alike_itself (paths.joined (Some xs) r)
joined_first (Some xs) (Some ys) None = alike_itself (Some (xs ++ ys))
joined_first (Some xs) (Some ys) (Some zs) = λ f. ap (list_any f) (append_assoc xs ys zs)

pub joined_end : (p : paths.Path) → paths.joined p None ≡ p
joined_end None = refl
joined_end (Some xs) = refl

-- what is left of branches still gives all of them
pub record ArmsLeft (a : Around) (ms : List Summary) (E : Effects) (p : paths.Path) (old : Path) (whole : Branches) (m : Met) (rest : Branches) (ends : Option Path) (n : Met) : Type 0 where
  pub path : Alike (paths.joined (ends_of old.names.keys ends) (straight_some E rest p)) (straight_some E whole p)
  pub met : (o : Met) → Gains a ms n o (straight_in_some E p rest) → Gains a ms m o (straight_in_some E p whole)

module _ (a : Around) (ms : List Summary) (E : Effects) (p : paths.Path) (old : Path) where
  pub arms_first : (whole : Branches) (m : Met) → ArmsLeft a ms E p old whole m whole None m
  arms_first whole m = record { path = alike_itself (straight_some E whole p); met = λ o g. g }

  pub arms_more : (whole rest : Branches) (b : Statements) (m n o : Met) (before ends : Option Path) (now : Path) → now.names.keys ≡ old.names.keys
      → EndsSo a ms now (paths.joined (ends_of now.names.keys before) (straight E b p)) ends n o (straight_visits E p b)
      → ArmsLeft a ms E p old whole m (or b rest) before n → ArmsLeft a ms E p old whole m rest ends o
  arms_more whole rest b m n o before ends now same s l = record {
    path =
        alike_then (paths.joined (ends_of old.names.keys ends) (straight_some E rest p)) (paths.joined (ends_of old.names.keys before) (paths.joined (straight E b p) (straight_some E rest p))) (straight_some E whole p)
        (alike_then (paths.joined (ends_of old.names.keys ends) (straight_some E rest p))
        (paths.joined (paths.joined (ends_of old.names.keys before) (straight E b p)) (straight_some E rest p))
        (paths.joined (ends_of old.names.keys before) (paths.joined (straight E b p) (straight_some E rest p)))
        (alike_joined (ends_of old.names.keys ends) (paths.joined (ends_of old.names.keys before) (straight E b p)) (straight_some E rest p) (straight_some E rest p)
        (subst (λ (xs : List Word). Alike (ends_of xs ends) (paths.joined (ends_of xs before) (straight E b p))) same s.path) (alike_itself (straight_some E rest p)))
        (joined_first (ends_of old.names.keys before) (straight E b p) (straight_some E rest p)))
        l.path;
    met = λ z g. l.met z (gains_then a ms n o z (straight_visits E p b) (straight_in_some E p rest) s.met g);
  }

  pub arms_done : (whole rest : Branches) (m n : Met) (ends : Option Path) → rest ≡ no_branches → ArmsLeft a ms E p old whole m rest ends n → EndsSo a ms old (straight_some E whole p) ends m n (straight_in_some E p whole)
  arms_done whole rest m n ends e l = record {
    path =
        subst (λ (q : paths.Path). Alike q (straight_some E whole p))
        (ap (λ (c : Branches). paths.joined (ends_of old.names.keys ends) (straight_some E c p)) e ∙ joined_end (ends_of old.names.keys ends)) l.path;
    met = l.met n (subst (λ (c : Branches). Gains a ms n n (straight_in_some E p c)) (sym e) (gains_none a ms n));
  }

  -- one branch, where its list was gone through
  pub arm_passed : (b : Statements) (m n : Met) (now : Path) (before ends : Option Path) → Walks a ms (straight E b p) now m n (straight_visits E p b)
      → Alike (ends_of old.names.keys ends) (paths.joined (ends_of old.names.keys before) (path_of now))
      → EndsSo a ms old (paths.joined (ends_of old.names.keys before) (straight E b p)) ends m n (straight_visits E p b)
  arm_passed b m n now before ends w h = record {
    path =
        alike_then (ends_of old.names.keys ends) (paths.joined (ends_of old.names.keys before) (path_of now)) (paths.joined (ends_of old.names.keys before) (straight E b p)) h
        (alike_joined (ends_of old.names.keys before) (ends_of old.names.keys before) (path_of now) (straight E b p) (alike_itself (ends_of old.names.keys before)) (alike_sym (straight E b p) (path_of now) w.path));
    met = w.met;
  }

-- ---- what code has

pub next_branch : (ts : List Tree) (bs : List (Vec Stmt Global)) (i : ℕ) (b : Vec Stmt Global) → b ≡ get_or bs i b → i < length bs → branches_at ts (drop i bs) ≡ or (statements_at ts b.items) (branches_at ts (drop (i + 1) bs))
next_branch ts bs i b e l = ap (λ (ys : List (Vec Stmt Global)). branches_at ts ys) (drop_more bs i b l ∙ ap (λ (y : Vec Stmt Global). y ∷ drop (i + 1) bs) (sym e))

pub next_no_branch : (ts : List Tree) (bs : List (Vec Stmt Global)) (i : ℕ) → length bs ≤ i → branches_at ts (drop i bs) ≡ no_branches
next_no_branch ts bs i l = ap (λ (ys : List (Vec Stmt Global)). branches_at ts ys) (drop_all i bs l)

pub not_label : (ts : List Tree) (s : Stmt) (x : Name) (k : Mark) → s ≡ Label x k → (at : Span) (st : Statement) → stmt_at ts s ≡ then at st → ⊥
not_label ts s x k is at st e = unmarked (stmt_at ts s) x k at st e (ap (stmt_at ts) is ∙ label_at ts x k)

pub as_stands : (a : Around) (returns : Bool) (old new : Path) (m n : Met) (f : InList) (at of : Span) (st su : Statement) → f ≡ then at st → f ≡ then of su → PassesOne a returns at st old new m n → PassesOne a returns of su old new m n
as_stands a returns old new m n f at of st su e h w =
    let k = same_span f at of st su e h in
    subst (λ (o : Span). PassesOne a returns o su old new m n) k.0 (subst (λ (z : Statement). PassesOne a returns at z old new m n) k.1 w)

pub taken : (old new : List Word) (i : ℕ) → i ≡ length old → Behind old new → take i new ≡ old
taken old new i e b = (λ k. take (e k) (b.kept k)) ∙ take-append_seam old b.more

pub stays_behind : (old new : List Word) → new ≡ old → Behind old new
stays_behind old new e = record { more = []; kept = e ∙ sym (append-nil old) }

pub behind_then : (a b c : List Word) → Behind a b → Behind b c → Behind a c
behind_then a b c h k = record { more = h.more ++ k.more; kept = k.kept ∙ ap (λ (xs : List Word). xs ++ k.more) h.kept ∙ append_assoc a h.more k.more }

pub still_alike : (p : paths.Path) (old new : Path) → new.names.keys ≡ old.names.keys → new.reached ≡ old.reached → Alike p (path_of old) → Alike p (path_of new)
still_alike p old new k r h = subst (λ (q : paths.Path). Alike p q) (sym (same_path new old k r)) h

module _ (a : Around) (ts : List Tree) (returns : Bool) (old new : Path) where
  pub if_stands : (s : code_span.Span) (e : ℕ) (b c : Vec Stmt Global) (x y : List Stmt) (between last : Path) (m n o : Met) (ends all : Option Path) (f : Stmt) → f ≡ If s e b c → x ≡ b.items → y ≡ c.items
      → PassesArm a (statements_at ts x) old None ends m n → between.names.keys ≡ old.names.keys → between.reached ≡ old.reached
      → PassesArm a (statements_at ts y) between ends all n o → last.names.keys ≡ between.names.keys → Alike (path_of new) (ends_of last.names.keys all)
      → (at : Span) (st : Statement) → stmt_at ts f ≡ then at st → PassesOne a returns at st old new m o
  if_stands s e b c x y between last m n o ends all f is d g one k r two l close at st stands =
      as_stands a returns old new m o (stmt_at ts f) (span_of s) at (branch (pool.at ts e) (statements_at ts b.items) (statements_at ts c.items)) st (ap (stmt_at ts) is ∙ if_at ts s e b c) stands
      (λ ms h E v p z j t.
      let first = subst (λ (ss : List Stmt). PassesArm a (statements_at ts ss) old None ends m n) d one ms h E v p z in
      let second = subst (λ (ss : List Stmt). PassesArm a (statements_at ts ss) between ends all n o) g two ms h E v p (still_alike p old between k r z) in
      if_passed a ms E p (span_of s) j old new between m n o (pool.at ts e) (statements_at ts b.items) (statements_at ts c.items) ends all first.path first.met k second.path second.met last l close)

  pub either_stands : (s : code_span.Span) (bs : Vec (Vec Stmt Global) Global) (xs : List (Vec Stmt Global)) (last : Path) (m n : Met) (ends : Option Path) (f : Stmt) → f ≡ Either s bs → xs ≡ bs.items
      → PassesArms a (branches_at ts xs) old ends m n → last.names.keys ≡ old.names.keys → Alike (path_of new) (ends_of last.names.keys ends)
      → (at : Span) (st : Statement) → stmt_at ts f ≡ then at st → PassesOne a returns at st old new m n
  either_stands s bs xs last m n ends f is d all l close at st stands =
      as_stands a returns old new m n (stmt_at ts f) (span_of s) at (either (branches_at ts bs.items)) st (ap (stmt_at ts) is ∙ either_at ts s bs) stands
      (λ ms h E v p z j t.
      let w = subst (λ (ys : List (Vec Stmt Global)). PassesArms a (branches_at ts ys) old ends m n) d all ms h E v p z in
      either_passed a ms E p (span_of s) j old new last m n (branches_at ts bs.items) ends w.path w.met l close)

  pub with_stands : (s : code_span.Span) (bs : Vec Bind Global) (b : Vec Stmt Global) (x : List Stmt) (m n : Met) (f : Stmt) → f ≡ With s bs b → x ≡ b.items → PassesAll a (statements_at ts x) old new m n
      → (at : Span) (st : Statement) → stmt_at ts f ≡ then at st → PassesOne a returns at st old new m n
  with_stands s bs b x m n f is d all at st stands =
      as_stands a returns old new m n (stmt_at ts f) (span_of s) at (with (binds_at ts bs.items) (statements_at ts b.items)) st (ap (stmt_at ts) is ∙ with_at ts s bs b) stands
      (λ ms h E v p z j t.
      with_passed a ms E p (span_of s) j new m n (binds_at ts bs.items) (statements_at ts b.items)
      (subst (λ (ss : List Stmt). PassesAll a (statements_at ts ss) old new m n) d all ms h E v p z))

  pub while_stands : (s : code_span.Span) (e : ℕ) (b : Vec Stmt Global) (x : List Stmt) (m n : Met) (ends : Option Path) (f : Stmt) → f ≡ While s e b → x ≡ b.items → PassesArm a (statements_at ts x) old None ends m n
      → new.names.keys ≡ old.names.keys → new.reached ≡ old.reached → (at : Span) (st : Statement) → stmt_at ts f ≡ then at st → PassesOne a returns at st old new m n
  while_stands s e b x m n ends f is d one k r at st stands =
      as_stands a returns old new m n (stmt_at ts f) (span_of s) at (while (pool.at ts e) (statements_at ts b.items)) st (ap (stmt_at ts) is ∙ while_at ts s e b) stands
      (λ ms h E v p z j t.
      while_passed a ms E p (span_of s) j old new m n (pool.at ts e) (statements_at ts b.items) z k r
      (subst (λ (ss : List Stmt). PassesArm a (statements_at ts ss) old None ends m n) d one ms h E v p z).met)

pub some_partner : (at : Span) (b : Bool) → (j : Partner) × (b ≡ is_return j)
some_partner at true = (return_partner at, refl)
some_partner at false = (no_partner, refl)
