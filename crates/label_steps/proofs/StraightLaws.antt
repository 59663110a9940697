-- Where no label is missing paths are straight.
use Rattle.std.proofs.Common.{◌≡◌, List, [], ◌∷◌, ◌++◌, Bool, true, false, ◌||◌, Option, Some, None, refl, sym, ap, ◌∙◌, cond}
use Rattle.std.specs.List.{flat_map}
use Rattle.std.proofs.lemmas.Bool.{or_parts}
use Rattle.std.proofs.lemmas.Grind.{flat_map-append}
use Rattle.tla_token.specs.declared.place.Place.{Place}
use Rattle.tla_token.specs.declared.rule.Rule.{Rule}
use Rattle.tla_token.specs.declared.rule.Rule.TheVariants.{FirstLabel, AfterBranch}
use Rattle.tla_tree.specs.Tree.{Tree, Word, Trees}
use Rattle.pcal_tree.specs.Algorithm.{Statement, assign, await, print, assert, skip, branch, either, with, while, goto, macro, call, return, Statements, done, then, mark, Branches, no_branches, or, Macro, Procedure, Process, Main, alone, processes, Algorithm}
use Rattle.pcal_tree.specs.Run.{Partner, partner_of}
use Rattle.pcal_tree.specs.OffencesSteps.{holds_one, holds, holds_some, due_after, inside, Visit, visits_inside, visits, visits_of_some, procedure_effects, outer_effects}
use Rattle.pcal_tree.specs.Paths.{Effect, Effects, Path, joined, rounds, after_one, after, after_some}
use Rattle.label_steps.specs.AssignedTwice.{twice_at, twice_in_body, twice_in_main, assigned_twice}
use Rattle.label_steps.specs.MissingLabels.{due_before, due_inside, due_in, due_in_some, due_in_body, due_in_main, missing_labels}
use Rattle.label_steps.specs.StraightPaths.{straight_one, straight, straight_some, straight_inside, straight_visits, straight_in_some, straight_twice, straight_in_main, straight_offences}
use Rattle.label_steps.proofs.DueLaws.{At}

-- ---- nothing is missing

pub neither_one : {X : Type 0} (xs ys : List X) → xs ++ ys ≡ [] → (xs ≡ []) × (ys ≡ [])
neither_one [] ys e = (refl, e)
neither_one (x ∷ xs) ys e = cc

-- a label is there, or none must be
abbrev pub Ready : Bool → Option Rule → Bool
Ready true r = true
Ready false None = true
Ready false (Some r) = false

ready : (l : Bool) (r : Option Rule) (at : Place) (st : Statement) → due_before l r at st ≡ [] → Ready l r ≡ true
ready true r at st e = refl
ready false None at st e = refl
ready false (Some r) at st e = cc

loop_labelled : (l : Bool) (r : Option Rule) (at : Place) (e : Tree) (b : Statements) → due_before l r at (while e b) ≡ [] → l ≡ true
loop_labelled true r at e b d = refl
loop_labelled false None at e b d = cc
loop_labelled false (Some r) at e b d = cc

none_held : (b : Bool) → Ready false (cond b (Some AfterBranch) None) ≡ true → b ≡ false
none_held true e = cc
none_held false e = refl

-- ---- paths through statements with no label and no jump in them

mutual
  calm_one : (E : Effects) (st : Statement) (r : Option Rule) (at : Place) (p : Path) → holds_one st ≡ false → due_before false r at st ≡ [] → due_inside st ≡ [] → after_one E st false p ≡ straight_one E st p
  calm_one E (branch e a b) r at p h w d =
      let k = or_parts (holds a) (holds b) h in
      let c = neither_one (due_in false None a) (due_in false None b) d in
      λ i. joined (calm E a None p k.0 c.0 i) (calm E b None p k.1 c.1 i)
  calm_one E (either bs) r at p h w d = calm_some E bs p h d
  calm_one E (with bs b) r at p h w d = calm E b None p h d
  calm_one E (while e b) r at p h w d = ap (λ (l : Bool). cond l p (rounds joined (λ q. after E b false q) p)) (loop_labelled false r at e b w)
  calm_one E (goto n) r at p h w d = refl
  calm_one E (call n ts) r at p h w d = refl
  calm_one E return r at p h w d = refl
  calm_one E (assign ms) r at p h w d = refl
  calm_one E (await e) r at p h w d = refl
  calm_one E (print e) r at p h w d = refl
  calm_one E (assert e) r at p h w d = refl
  calm_one E skip r at p h w d = refl
  calm_one E (macro m ts) r at p h w d = refl

  calm : (E : Effects) (b : Statements) (r : Option Rule) (p : Path) → holds b ≡ false → due_in false r b ≡ [] → after E b false p ≡ straight E b p
  calm E done r p h d = refl
  calm E (mark n k rest) r p h d = cc
  calm E (then at st rest) r p h d =
      let k = or_parts (holds_one st) (holds rest) h in
      let c = neither_one (due_before false r at.first st) (due_inside st ++ due_in false (due_after st (partner_of rest)) rest) d in
      let f = neither_one (due_inside st) (due_in false (due_after st (partner_of rest)) rest) c.1 in
      calm E rest (due_after st (partner_of rest)) (after_one E st false p) k.1 f.1 ∙ ap (straight E rest) (calm_one E st r at.first p k.0 c.0 f.0)

  calm_some : (E : Effects) (bs : Branches) (p : Path) → holds_some bs ≡ false → due_in_some bs ≡ [] → after_some E bs p ≡ straight_some E bs p
  calm_some E no_branches p h d = refl
  calm_some E (or b bs) p h d =
      let k = or_parts (holds b) (holds_some bs) h in
      let c = neither_one (due_in false None b) (due_in_some bs) d in
      λ i. joined (calm E b None p k.0 c.0 i) (calm_some E bs p k.1 c.1 i)

-- ---- paths behind a statement, where no label must be there

behind : (E : Effects) (st : Statement) (l : Bool) (r : Option Rule) (at : Place) (j : Partner) (p : Path) → due_before l r at st ≡ [] → due_inside st ≡ [] → Ready false (due_after st j) ≡ true
    → after_one E st l p ≡ straight_one E st p
behind E (branch e a b) l r at j p w d k =
    let h = or_parts (holds a) (holds b) (none_held (holds a || holds b) k) in
    let c = neither_one (due_in false None a) (due_in false None b) d in
    λ i. joined (calm E a None p h.0 c.0 i) (calm E b None p h.1 c.1 i)
behind E (either bs) l r at j p w d k = calm_some E bs p (none_held (holds_some bs) k) d
behind E (with bs b) l r at j p w d k = calm E b None p (none_held (holds b) k) d
behind E (while e b) l r at j p w d k = ap (λ (t : Bool). cond t p (rounds joined (λ q. after E b false q) p)) (loop_labelled l r at e b w)
behind E (goto n) l r at j p w d k = refl
behind E (call n ts) l r at j p w d k = refl
behind E return l r at j p w d k = refl
behind E (assign ms) l r at j p w d k = refl
behind E (await e) l r at j p w d k = refl
behind E (print e) l r at j p w d k = refl
behind E (assert e) l r at j p w d k = refl
behind E skip l r at j p w d k = refl
behind E (macro m ts) l r at j p w d k = refl

-- ---- statements with their paths, for what rests on no more than these

module _ {X : Type 0} (f : Visit → List X) (rests : (l : Bool) (r : Option Rule) (p : Path) (at : Place) (st : Statement) (j : Partner) → f (record { before = At l r p; place = at; statement = st; partner = j }) ≡ f (record { before = inside p; place = at; statement = st; partner = j })) where
  two : (vs ws us xs : List Visit) → flat_map f vs ≡ flat_map f us → flat_map f ws ≡ flat_map f xs → flat_map f (vs ++ ws) ≡ flat_map f (us ++ xs)
  two vs ws us xs h k = flat_map-append f vs ws ∙ (λ i. h i ++ k i) ∙ sym (flat_map-append f us xs)

  mutual
    inside_straight : (E : Effects) (l : Bool) (r : Option Rule) (at : Place) (p : Path) (st : Statement) → due_before l r at st ≡ [] → due_inside st ≡ [] → flat_map f (visits_inside E (At l r p) st) ≡ flat_map f (straight_inside E p st)
    inside_straight E l r at p (branch e a b) w d =
        let c = neither_one (due_in false None a) (due_in false None b) d in
        two (visits E (inside p) a) (visits E (inside p) b) (straight_visits E p a) (straight_visits E p b) (all_straight E false None p p a c.0 (λ k. refl)) (all_straight E false None p p b c.1 (λ k. refl))
    inside_straight E l r at p (either bs) w d = some_straight E p bs d
    inside_straight E l r at p (with bs b) w d = all_straight E false None p p b d (λ k. refl)
    inside_straight E l r at p (while e b) w d =
        all_straight E false None (after_one E (while e b) l p) p b d (λ k. ap (λ (t : Bool). cond t p (rounds joined (λ q. after E b false q) p)) (loop_labelled l r at e b w))
    inside_straight E l r at p (assign ms) w d = refl
    inside_straight E l r at p (await e) w d = refl
    inside_straight E l r at p (print e) w d = refl
    inside_straight E l r at p (assert e) w d = refl
    inside_straight E l r at p skip w d = refl
    inside_straight E l r at p (goto n) w d = refl
    inside_straight E l r at p (macro m ts) w d = refl
    inside_straight E l r at p (call q ts) w d = refl
    inside_straight E l r at p return w d = refl

    pub all_straight : (E : Effects) (l : Bool) (r : Option Rule) (p q : Path) (b : Statements) → due_in l r b ≡ [] → (Ready l r ≡ true → p ≡ q) → flat_map f (visits E (At l r p) b) ≡ flat_map f (straight_visits E q b)
    all_straight E l r p q done d k = refl
    all_straight E l r p q (mark n m rest) d k = all_straight E true None (Some []) (Some []) rest d (λ e. refl)
    all_straight E l r p q (then at st rest) d k =
        let j = partner_of rest in
        let c = neither_one (due_before l r at.first st) (due_inside st ++ due_in false (due_after st j) rest) d in
        let g = neither_one (due_inside st) (due_in false (due_after st j) rest) c.1 in
        let same = k (ready l r at.first st c.0) in
        let more : flat_map f (visits_inside E (At l r p) st ++ visits E (At false (due_after st j) (after_one E st l p)) rest) ≡ flat_map f (straight_inside E q st ++ straight_visits E (straight_one E st q) rest) =
        two (visits_inside E (At l r p) st) (visits E (At false (due_after st j) (after_one E st l p)) rest) (straight_inside E q st) (straight_visits E (straight_one E st q) rest)
        (inside_straight E l r at.first p st c.0 g.0 ∙ ap (λ (o : Path). flat_map f (straight_inside E o st)) same)
        (all_straight E false (due_after st j) (after_one E st l p) (straight_one E st q) rest g.1 (λ e. behind E st l r at.first j p c.0 g.0 e ∙ ap (straight_one E st) same)) in
        λ i. (rests l r p at.first st j ∙ ap (λ (o : Path). f (record { before = inside o; place = at.first; statement = st; partner = j })) same) i ++ more i

    some_straight : (E : Effects) (p : Path) (bs : Branches) → due_in_some bs ≡ [] → flat_map f (visits_of_some E (inside p) bs) ≡ flat_map f (straight_in_some E p bs)
    some_straight E p no_branches d = refl
    some_straight E p (or b bs) d =
        let c = neither_one (due_in false None b) (due_in_some bs) d in
        two (visits E (inside p) b) (visits_of_some E (inside p) bs) (straight_visits E p b) (straight_in_some E p bs) (all_straight E false None p p b c.0 (λ k. refl)) (some_straight E p bs c.1)

-- ---- variables that are assigned twice

body_straight : (E : Effects) (b : Statements) → due_in_body b ≡ [] → twice_in_body E b ≡ straight_twice E (Some []) b
body_straight E b d = all_straight (twice_at E) (λ l r p at st j. refl) E false (Some FirstLabel) (Some []) (Some []) b d (λ k. refl)

each_straight : {X : Type 0} (body : X → Statements) (E : X → Effects) (xs : List X) → flat_map (λ x. due_in_body (body x)) xs ≡ [] → flat_map (λ x. twice_in_body (E x) (body x)) xs ≡ flat_map (λ x. straight_twice (E x) (Some []) (body x)) xs
each_straight body E [] d = refl
each_straight body E (x ∷ xs) d =
    let c = neither_one (due_in_body (body x)) (flat_map (λ x. due_in_body (body x)) xs) d in λ i. body_straight (E x) (body x) c.0 i ++ each_straight body E xs c.1 i

main_straight : (C : Word → Trees → Effect) (m : Main) → due_in_main m ≡ [] → twice_in_main C m ≡ straight_in_main C m
main_straight C (alone b) d = body_straight (outer_effects C) b d
main_straight C (processes ps) d = each_straight (λ (p : Process). p.body) (λ p. outer_effects C) ps d

pub twice_straight : (C : Word → Trees → Effect) (a : Algorithm) → missing_labels a ≡ [] → assigned_twice C a ≡ straight_offences C a
twice_straight C a d =
    let c = neither_one (flat_map (λ (m : Macro). due_in false None m.body) a.macros) (flat_map (λ (p : Procedure). due_in_body p.body) a.procedures ++ due_in_main a.main) d in
    let g = neither_one (flat_map (λ (p : Procedure). due_in_body p.body) a.procedures) (due_in_main a.main) c.1 in
    λ i. each_straight (λ (p : Procedure). p.body) (λ p. procedure_effects C p) a.procedures g.0 i ++ main_straight C a.main g.1 i
