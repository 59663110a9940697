-- What is seen of statements inside a `with` is what is missing there.
use Rattle.std.proofs.Common.{◌≡◌, ℕ, Vec, Global, List, [], ◌∷◌, ◌++◌, Bool, true, false, ◌||◌, ◌&&◌, not, cond, Option, Some, None, refl, sym, ap, ◌∙◌, subst, append_assoc, true≢false}
use Rattle.std.specs.Prelude.{Result, Ok, Err, IfOk}
use Rattle.std.specs.List.{flat_map}
use Rattle.std.proofs.lemmas.Bool.{or_parts}
use Rattle.std.proofs.lemmas.Grind.{flat_map-append}
use Rattle.tla_token.specs.declared.place.Place.{Place}
use Rattle.tla_token.specs.declared.rule.Rule.{Rule}
use Rattle.tla_token.specs.declared.rule.Rule.TheVariants.{AfterBranch, AssignTwice}
use Rattle.tla_token.specs.declared.rule.Refusal.{Refusal}
use Rattle.tla_tree.specs.Tree.{Word, Tree}
use Rattle.pcal_tree.specs.declared.mark.Mark.{Mark}
use Rattle.pcal_tree.specs.Algorithm.{Name, Span, Binds, Statement, assign, await, print, assert, skip, branch, either, with, while, goto, macro, call, return, Statements, done, then, mark, Branches, no_branches, or}
use Rattle.std.specs.Option.{option_map}
use Rattle.tla_tree.specs.Pool.{trees_at}
use Rattle.tla_tree.specs.Pool.{at as expr_at}
use Rattle.pcal_tree.specs.declared.algorithm.Simple as declared_simple
use Rattle.pcal_tree.specs.declared.algorithm.Simple.TheVariants as simple
use Rattle.pcal_tree.specs.declared.algorithm.Span as code_span
use Rattle.pcal_tree.specs.declared.algorithm.Bind.{Bind}
use Rattle.pcal_tree.specs.declared.algorithm.Stmt.{Stmt}
use Rattle.pcal_tree.specs.declared.algorithm.Stmt.TheVariants.{Simple, If, Either, With, While}
use Rattle.pcal_tree.specs.InMemory as at
use Rattle.pcal_tree.specs.InMemory.{assignments_at, simple_at, binds_at, stmt_at, statements_at, branches_at, Before as InList}
use Rattle.pcal_tree.proofs.InMemoryEach.{simple_in_list_at, if_at, either_at, with_at, while_at}
use Rattle.pcal_tree.proofs.SetLaws.{Same, same_both, meets_same}
use Rattle.label_steps.specs.declared.sides.Step.{Step}
use Rattle.label_steps.specs.KnownIn.{Assigns}
use Rattle.std.specs.Option.{is_some}
use Rattle.placed_labels.specs.InMemory.{IsPlaceOf}
use Rattle.placed_labels.proofs.PlaceLaws.{same_statement}
use Rattle.pcal_tree.specs.Run.{Partner, partner_of}
use Rattle.pcal_tree.specs.Tests.{is_empty}
use Rattle.pcal_tree.specs.Offences.{offence_if}
use Rattle.pcal_tree.specs.Paths as paths
use Rattle.pcal_tree.specs.Paths.{Effect, Effects, nothing, joined, again, rounds, after_one, after, after_some, has_assigned}
use Rattle.pcal_tree.specs.OffencesSteps.{Before, at_label, inside, next, holds_one, holds, holds_some, due_after, Visit, visits_inside, visits, visits_of_some, due_offence, while_offence, missing_label, effect_with, offences_at, assigns_twice}
use Rattle.pcal_tree.specs.laws.MacroSummaries.{Summary}
use Rattle.pcal_tree.proofs.EffectLaws.{Alike}
use Rattle.label_steps.specs.AroundIn.{effects_around}
use Rattle.label_steps.specs.PathsIn.{Behind, path_of, ends_of}
use Rattle.label_steps.specs.declared.path.Path.{Path}
use Rattle.label_steps.proofs.WalksLaws.{alike_then, alike_itself, alike_joined, behind_then}
use Rattle.added_labels.specs.declared.seen.Seen.{Seen}
use Rattle.added_labels.specs.declared.seen.Where.{Where}
use Rattle.added_labels.specs.Sight.{effects_of, is_due, is_while, here, offends, offends_inside, offends_in_some, Stands, Fine, is_kept, SeesOne, SeesList, SeesBranch, SeesBranches, Rounds, Begins, Finishes, IsKept}

-- ---- lists with members

abbrev pub some : {X : Type 0} → List X → Bool
some xs = not (is_empty xs)

pub some_both : {X : Type 0} (xs ys : List X) → some (xs ++ ys) ≡ (some xs || some ys)
some_both [] ys = refl
some_both (x ∷ xs) ys = refl

some_if : (b : Bool) (r : Rule) (at : Place) → some (offence_if b r at) ≡ b
some_if true r at = refl
some_if false r at = refl

-- ---- what offends

while_is : (st : Statement) (at : Place) → some (while_offence st at) ≡ is_while st
while_is (while e b) at = refl
while_is (branch e a b) at = refl
while_is (either bs) at = refl
while_is (with bs b) at = refl
while_is (assign ms) at = refl
while_is (await e) at = refl
while_is (print e) at = refl
while_is (assert e) at = refl
while_is skip at = refl
while_is (goto n) at = refl
while_is (macro m ts) at = refl
while_is (call n ts) at = refl
while_is return at = refl

missing_is : (l : Bool) (r : Option Rule) (at : Place) (st : Statement) → some (cond l [] (due_offence r at ++ while_offence st at)) ≡ (not l && (is_due r || is_while st))
missing_is true r at st = refl
missing_is false None at st = while_is st at
missing_is false (Some r) at st = refl

pub here_is : (E : Effects) (p : Before) (at : Place) (st : Statement) (j : Partner) → some (offences_at E (record { before = p; place = at; statement = st; partner = j })) ≡ here E p st j
here_is E p at st j =
    let v : Visit = record { before = p; place = at; statement = st; partner = j } in
    some_both (missing_label v) (offence_if (assigns_twice E v) AssignTwice at) ∙ (λ i. missing_is p.labelled p.due at st i || some_if (assigns_twice E v) AssignTwice at i)

pub or_three : (a b c : Bool) → (a || (b || c)) ≡ ((a || b) || c)
or_three true b c = refl
or_three false b c = refl

pub offends_then : (E : Effects) (p : Before) (at : Span) (st : Statement) (rest : Statements)
    → offends E p (then at st rest) ≡ ((here E p st (partner_of rest) || offends_inside E p st) || offends E (next E p st (partner_of rest)) rest)
offends_then E p at st rest =
    let j = partner_of rest in
    let v : Visit = record { before = p; place = at.first; statement = st; partner = j } in
    let xs = visits_inside E p st in
    let ys = visits E (next E p st j) rest in
    some_both (offences_at E v) (flat_map (offences_at E) (xs ++ ys))
    ∙ (λ i. here_is E p at.first st j i || (ap (λ (zs : List Refusal). some zs) (flat_map-append (offences_at E) xs ys) ∙ some_both (flat_map (offences_at E) xs) (flat_map (offences_at E) ys)) i)
    ∙ or_three (here E p st j) (offends_inside E p st) (offends E (next E p st j) rest)

pub offends_branch : (E : Effects) (p : Before) (e : Tree) (a b : Statements) → offends_inside E p (branch e a b) ≡ (offends E (inside p.path) a || offends E (inside p.path) b)
offends_branch E p e a b =
    let xs = visits E (inside p.path) a in
    let ys = visits E (inside p.path) b in
    ap (λ (zs : List Refusal). some zs) (flat_map-append (offences_at E) xs ys) ∙ some_both (flat_map (offences_at E) xs) (flat_map (offences_at E) ys)

pub offends_or : (E : Effects) (q : paths.Path) (b : Statements) (bs : Branches) → offends_in_some E q (or b bs) ≡ (offends E (inside q) b || offends_in_some E q bs)
offends_or E q b bs =
    let xs = visits E (inside q) b in
    let ys = visits_of_some E (inside q) bs in
    ap (λ (zs : List Refusal). some zs) (flat_map-append (offences_at E) xs ys) ∙ some_both (flat_map (offences_at E) xs) (flat_map (offences_at E) ys)

-- ---- statements with others inside assign nothing themselves

pub record Quiet (E : Effects) : Type 0 where
  pub branch : (e : Tree) (a b : Statements) → E (branch e a b) ≡ nothing
  pub either : (bs : Branches) → E (either bs) ≡ nothing
  pub with : (bs : Binds) (b : Statements) → E (with bs b) ≡ nothing
  pub while : (e : Tree) (b : Statements) → E (while e b) ≡ nothing

pub quiet : (w : Where) (ms : List Summary) → Quiet (effects_of w ms)
quiet w ms = by w.silent w.around.name
  where
    by : (b : Bool) (n : Option Name) → Quiet (cond b (λ st. nothing) (effects_around (record { known = w.around.known; name = n; own = w.around.own }) ms))
    by true n = record { branch = λ e a b. refl; either = λ bs. refl; with = λ bs b. refl; while = λ e b. refl }
    by false None = record { branch = λ e a b. refl; either = λ bs. refl; with = λ bs b. refl; while = λ e b. refl }
    by false (Some p) = record { branch = λ e a b. refl; either = λ bs. refl; with = λ bs b. refl; while = λ e b. refl }

pub never_assigned : (p : paths.Path) → has_assigned p [] ≡ false
never_assigned None = refl
never_assigned (Some xs) = refl

pub quiet_here : (b : Bool) (p : paths.Path) (e : Effect) → e ≡ nothing → (b || (e.twice || has_assigned p e.variables)) ≡ b
quiet_here b p e h = ap (λ (f : Effect). b || (f.twice || has_assigned p f.variables)) h ∙ ap (λ (c : Bool). b || c) (never_assigned p) ∙ or_none b
  where
    or_none : (b : Bool) → (b || false) ≡ b
    or_none true = refl
    or_none false = refl

-- ---- into others

abbrev pub Into : Seen → Bool → Seen
Into m loops = record { missing = m.missing || (m.due || (loops && not m.labelled)); held = false; labelled = false; due = false }

abbrev pub Out : Seen → Seen → Bool → Seen
Out m n branches = record { missing = n.missing; held = m.held || n.held; labelled = false; due = branches && n.held }

bare : (l d w : Bool) → ((not l && d) || (w && not l)) ≡ (not l && (d || w))
bare true d true = refl
bare true d false = refl
bare false true w = refl
bare false false true = refl
bare false false false = refl

into_here : (m : Seen) (p : Before) (w : Bool) → Stands m p → (Into m w).missing ≡ (m.missing || (not p.labelled && (is_due p.due || w)))
into_here m p w s = ap (λ (b : Bool). m.missing || b) ((λ i. s.due i || (w && not (s.labelled i))) ∙ bare p.labelled (is_due p.due) w)

into_fine : (m : Seen) (old : Path) (p : Before) (w : Bool) → Fine m old p → (Into m w).missing ≡ false → Alike (path_of old) p.path
into_fine m old p w f e =
    let h = or_parts m.missing (m.due || (w && not m.labelled)) e in
    f h.0 (or_parts m.due (w && not m.labelled) h.1).0

pub due_if : (b : Bool) (r : Rule) → is_due (cond b (Some r) None) ≡ b
due_if true r = refl
due_if false r = refl

pub not_held : (b : Bool) → not b ≡ true → b ≡ false
not_held true e = sym e
not_held false e = refl

-- the path in memory is told by its names and whether it is reached
pub path_same : (p q : Path) → p.names.keys ≡ q.names.keys → p.reached ≡ q.reached → path_of p ≡ path_of q
path_same p q k r = λ i. cond (r i) (Some (k i)) None

three : (x y u : Bool) → ((x || y) || u) ≡ (x || (y || u))
three true y u = refl
three false true u = refl
three false false u = refl

-- ---- one statement

pub if_sees : (E : Effects) → Quiet E → (e : Tree) (a b : Statements) (j : Partner) (old mid last new : Path) (m n o : Seen) (ends all : Option Path)
    → SeesBranch E a old None (Into m false) n ends → mid.names.keys ≡ old.names.keys → mid.reached ≡ old.reached → SeesBranch E b mid ends n o all
    → last.names.keys ≡ mid.names.keys → Alike (path_of new) (ends_of last.names.keys all) → SeesOne E (branch e a b) j old new m (Out m o true)
if_sees E quiet e a b j old mid last new m n o ends all h k r l kk close = record {
  held = ap (λ (t : Bool). m.held || t) inner;
  labelled = refl;
  due = inner ∙ sym (due_if (holds a || holds b) AfterBranch);
  missing = λ p s f.
      l.missing p.path (λ z. alike_then (path_of mid) (path_of old) p.path (same_as (path_of mid) (path_of old) same) (into_fine m old p false f (or_parts (Into m false).missing (offends E (inside p.path) a) (sym (h.missing p.path (into_fine m old p false f)) ∙ z)).0))
      ∙ ap (λ (t : Bool). t || offends E (inside p.path) b) (h.missing p.path (into_fine m old p false f))
      ∙ ap (λ (t : Bool). (t || offends E (inside p.path) a) || offends E (inside p.path) b) (into_here m p false s)
      ∙ four m.missing (not p.labelled && (is_due p.due || false)) (offends E (inside p.path) a) (offends E (inside p.path) b)
      ∙ (λ i. m.missing || (sym (quiet_here (not p.labelled && (is_due p.due || false)) p.path (E (branch e a b)) (quiet.branch e a b)) i || sym (offends_branch E p e a b) i));
  path = λ p s q kept.
      let c = or_parts (holds a) (holds b) (not_held (holds a || holds b) kept) in
      let first = h.joins p.path None q c.0 tt in
      let second = l.joins p.path (after E a false p.path) (alike_then (path_of mid) (path_of old) p.path (same_as (path_of mid) (path_of old) same) q) c.1
      (subst (λ (ks : List Word). Alike (ends_of ks ends) (after E a false p.path)) (sym k) first) in
      alike_then (path_of new) (ends_of last.names.keys all) (joined (after E a false p.path) (after E b false p.path)) close
      (subst (λ (ks : List Word). Alike (ends_of ks all) (joined (after E a false p.path) (after E b false p.path))) (sym kk) second);
}
  where
    same : path_of mid ≡ path_of old
    same = path_same mid old k r

    same_as : (p q : paths.Path) → p ≡ q → Alike p q
    same_as p q e = subst (λ (z : paths.Path). Alike p z) e (alike_itself p)

    inner : o.held ≡ (holds a || holds b)
    inner = l.held ∙ ap (λ (t : Bool). t || holds b) h.held

    four : (x y u v : Bool) → (((x || y) || u) || v) ≡ (x || (y || (u || v)))
    four true y u v = refl
    four false true u v = refl
    four false false u v = refl

pub either_sees : (E : Effects) → Quiet E → (bs : Branches) (j : Partner) (old last new : Path) (m o : Seen) (all : Option Path)
    → SeesBranches E bs old (Into m false) o all → last.names.keys ≡ old.names.keys → Alike (path_of new) (ends_of last.names.keys all) → SeesOne E (either bs) j old new m (Out m o true)
either_sees E quiet bs j old last new m o all h k close = record {
  held = ap (λ (t : Bool). m.held || t) h.held;
  labelled = refl;
  due = h.held ∙ sym (due_if (holds_some bs) AfterBranch);
  missing = λ p s f.
      h.missing p.path (into_fine m old p false f)
      ∙ ap (λ (t : Bool). t || offends_in_some E p.path bs) (into_here m p false s)
      ∙ three m.missing (not p.labelled && (is_due p.due || false)) (offends_in_some E p.path bs)
      ∙ (λ i. m.missing || (sym (quiet_here (not p.labelled && (is_due p.due || false)) p.path (E (either bs)) (quiet.either bs)) i || offends_in_some E p.path bs));
  path = λ p s q kept.
      alike_then (path_of new) (ends_of last.names.keys all) (after_some E bs p.path) close
      (subst (λ (ks : List Word). Alike (ends_of ks all) (after_some E bs p.path)) (sym k) (h.ends p.path q (not_held (holds_some bs) kept)));
}

pub with_sees : (E : Effects) → Quiet E → (bs : Binds) (b : Statements) (j : Partner) (old new : Path) (m o : Seen)
    → SeesList E b old new (Into m false) o → SeesOne E (with bs b) j old new m (Out m o true)
with_sees E quiet bs b j old new m o h = record {
  held = ap (λ (t : Bool). m.held || t) h.held;
  labelled = refl;
  due = h.held ∙ sym (due_if (holds b) AfterBranch);
  missing = λ p s f.
      h.missing (inside p.path) into_stands (λ z w. into_fine m old p false f z)
      ∙ ap (λ (t : Bool). t || offends E (inside p.path) b) (into_here m p false s)
      ∙ three m.missing (not p.labelled && (is_due p.due || false)) (offends E (inside p.path) b)
      ∙ (λ i. m.missing || (sym (quiet_here (not p.labelled && (is_due p.due || false)) p.path (E (with bs b)) (quiet.with bs b)) i || offends E (inside p.path) b));
  path = λ p s q kept. h.path (inside p.path) into_stands q (not_held (holds b) kept);
}
  where
    into_stands : {q : paths.Path} → Stands (Into m false) (inside q)
    into_stands = record { labelled = refl; due = refl }

-- ---- statements with none inside

pub has_alike : (p q : paths.Path) (xs ys : List Word) → Alike p q → Same xs ys → has_assigned p xs ≡ has_assigned q ys
has_alike None None xs ys h s = refl
has_alike (Some us) (Some vs) xs ys h s = meets_same us vs xs ys h s
has_alike None (Some vs) xs ys h s = absurd h
has_alike (Some us) None xs ys h s = absurd h

put_alike : (p q : paths.Path) (us vs : List Word) → Alike p q → Same us vs → Alike (option_map (λ xs. us ++ xs) p) (option_map (λ xs. vs ++ xs) q)
put_alike None None us vs h s = tt
put_alike (Some xs) (Some ys) us vs h s = same_both us vs xs ys s h
put_alike None (Some ys) us vs h s = absurd h
put_alike (Some xs) None us vs h s = absurd h

guarded : (a b c : Bool) → (a ≡ false → b ≡ c) → (a || b) ≡ (a || c)
guarded true b c h = refl
guarded false b c h = h refl

pub simple_facts : (E : Effects) (ts : List Tree) (x : declared_simple.Simple) (p : Before) → (is_while (simple_at ts x) ≡ false) × (offends_inside E p (simple_at ts x) ≡ false)
simple_facts E ts (simple.Assign ms) p = (refl, refl)
simple_facts E ts (simple.Await e) p = (refl, refl)
simple_facts E ts (simple.Print e) p = (refl, refl)
simple_facts E ts (simple.Assert e) p = (refl, refl)
simple_facts E ts simple.Skip p = (refl, refl)
simple_facts E ts (simple.Goto y) p = (refl, refl)
simple_facts E ts (simple.Macro y es) p = (refl, refl)
simple_facts E ts (simple.Call y es) p = (refl, refl)
simple_facts E ts simple.Return p = (refl, refl)

pub simple_path : (E : Effects) (ts : List Tree) (x : declared_simple.Simple) (j : Partner) (new old p : paths.Path) (l : Bool) (us : List Word)
    → Alike new (cond (holds_one (simple_at ts x)) None (option_map (λ xs. us ++ xs) old)) → Same us (effect_with E (simple_at ts x) j).variables → Alike old p → Alike new (after_one E (simple_at ts x) l p)
simple_path E ts (simple.Assign ms) j new old p l us k s h = alike_then new _ _ k (put_alike old p us (E (assign (assignments_at ts ms.items))).variables h s)
simple_path E ts (simple.Await e) j new old p l us k s h = alike_then new _ _ k (put_alike old p us (E (await (expr_at ts e))).variables h s)
simple_path E ts (simple.Print e) j new old p l us k s h = alike_then new _ _ k (put_alike old p us (E (print (expr_at ts e))).variables h s)
simple_path E ts (simple.Assert e) j new old p l us k s h = alike_then new _ _ k (put_alike old p us (E (assert (expr_at ts e))).variables h s)
simple_path E ts simple.Skip j new old p l us k s h = alike_then new _ _ k (put_alike old p us (E skip).variables h s)
simple_path E ts (simple.Macro y es) j new old p l us k s h = alike_then new _ _ k (put_alike old p us (E (macro y (trees_at ts es.items))).variables h s)
simple_path E ts (simple.Goto y) j new old p l us k s h = k
simple_path E ts (simple.Call y es) j new old p l us k s h = k
simple_path E ts simple.Return j new old p l us k s h = k

pub simple_sees : (E : Effects) (ts : List Tree) (x : declared_simple.Simple) (j : Partner) (old new : Path) (m : Seen) (step : Step) (met due : Bool)
    → Assigns step (effect_with E (simple_at ts x) j) → met ≡ (step.twice || has_assigned (path_of old) step.names.items)
    → Alike (path_of new) (cond (holds_one (simple_at ts x)) None (option_map (λ xs. step.names.items ++ xs) (path_of old))) → due ≡ is_due (due_after (simple_at ts x) j)
    → SeesOne E (simple_at ts x) j old new m (record { missing = (Into m false).missing || met; held = m.held || holds_one (simple_at ts x); labelled = false; due = due })
simple_sees E ts x j old new m step met due a t k d = record {
  held = refl;
  labelled = refl;
  due = d;
  missing = λ p s f.
      let e = effect_with E (simple_at ts x) j in
      let now = e.twice || has_assigned p.path e.variables in
      let w = not p.labelled && (is_due p.due || is_while (simple_at ts x)) in
      guarded (Into m false).missing met now (λ z. t ∙ (λ i. a.twice i || has_alike (path_of old) p.path step.names.items e.variables (into_fine m old p false f z) a.names i))
      ∙ ap (λ (y : Bool). y || now) (into_here m p false s ∙ ap (λ (y : Bool). m.missing || (not p.labelled && (is_due p.due || y))) (sym (simple_facts E ts x p).0))
      ∙ three m.missing w now
      ∙ (λ i. m.missing || (or_no (w || now) i))
      ∙ ap (λ (y : Bool). m.missing || ((w || now) || y)) (sym (simple_facts E ts x p).1);
  path = λ p s h q. simple_path E ts x j (path_of new) (path_of old) p.path p.labelled step.names.items k a.names h;
}
  where
    or_no : (b : Bool) → b ≡ (b || false)
    or_no true = refl
    or_no false = refl

pub seen_as : (E : Effects) (ts : List Tree) (x : declared_simple.Simple) (j : Partner) (old new : Path) (m : Seen) (step : Step) (met due missing held jumps : Bool) (n : Seen)
    → n ≡ Into m false → missing ≡ (n.missing || met) → held ≡ (m.held || jumps) → Assigns step (effect_with E (simple_at ts x) j) → met ≡ (step.twice || has_assigned (path_of old) step.names.items)
    → jumps ≡ holds_one (simple_at ts x) → Alike (path_of new) (cond jumps None (option_map (λ xs. step.names.items ++ xs) (path_of old))) → due ≡ is_due (due_after (simple_at ts x) j)
    → SeesOne E (simple_at ts x) j old new m (record { missing = missing; held = held; labelled = false; due = due })
seen_as E ts x j old new m step met due missing held jumps n i e h a t q k d =
    subst (λ (r : Seen). SeesOne E (simple_at ts x) j old new m r)
    (λ z. record { missing = sym (e ∙ ap (λ (w : Seen). w.missing || met) i) z; held = sym (h ∙ ap (λ (b : Bool). m.held || b) q) z; labelled = false; due = due })
    (simple_sees E ts x j old new m step met due a t (subst (λ (b : Bool). Alike (path_of new) (cond b None (option_map (λ xs. step.names.items ++ xs) (path_of old)))) q k) d)

pub if_ok_then : {A F : Type 0} (P Q : A → Type 0) (r : Result A F) → ((x : A) → P x → Q x) → IfOk r P → IfOk r Q
if_ok_then P Q (Ok x) h p = h x p
if_ok_then P Q (Err e) h p = p

pub stmt_sees : (E : Effects) (j : Partner) (old new : Path) (m n : Seen) (f : InList) (s r : Span) (st su : Statement) → f ≡ then s st → f ≡ then r su → SeesOne E st j old new m n → SeesOne E su j old new m n
stmt_sees E j old new m n f s r st su e h k = subst (λ (z : Statement). SeesOne E z j old new m n) (same_statement s r st su (sym e ∙ h)) k

pub effects_there : (w : Where) (ms : List Summary) → w.silent ≡ false → effects_of w ms ≡ effects_around w.around ms
effects_there w ms e = ap (λ (b : Bool). cond b (λ st. nothing) (effects_around w.around ms)) e

-- ---- loops

mutual
  none_after_one : (E : Effects) (st : Statement) (l : Bool) → holds_one st ≡ false → after_one E st l None ≡ None
  none_after_one E (branch e a b) l h =
      let k = or_parts (holds a) (holds b) h in λ i. joined (none_after E a false k.0 i) (none_after E b false k.1 i)
  none_after_one E (either bs) l h = none_after_some E bs h
  none_after_one E (with bs b) l h = none_after E b false h
  none_after_one E (while e b) true h = refl
  none_after_one E (while e b) false h = ap (again (λ q. after E b false q)) (none_after E b false h)
  none_after_one E (goto n) l h = refl
  none_after_one E (call n ts) l h = refl
  none_after_one E return l h = refl
  none_after_one E (assign ms) l h = refl
  none_after_one E (await e) l h = refl
  none_after_one E (print e) l h = refl
  none_after_one E (assert e) l h = refl
  none_after_one E skip l h = refl
  none_after_one E (macro m ts) l h = refl

  none_after : (E : Effects) (b : Statements) (l : Bool) → holds b ≡ false → after E b l None ≡ None
  none_after E done l h = refl
  none_after E (mark n k rest) l h = cc
  none_after E (then at st rest) l h =
      let k = or_parts (holds_one st) (holds rest) h in ap (after E rest false) (none_after_one E st l k.0) ∙ none_after E rest false k.1

  none_after_some : (E : Effects) (bs : Branches) → holds_some bs ≡ false → after_some E bs None ≡ None
  none_after_some E no_branches h = refl
  none_after_some E (or b bs) h =
      let k = or_parts (holds b) (holds_some bs) h in λ i. joined (none_after E b false k.0 i) (none_after_some E bs k.1 i)

round_alike : (E : Effects) (b : Statements) (t : Bool) (xs : List Word) (new p : paths.Path) → holds b ≡ false → Alike (cond t (Some xs) None) p
    → Alike new (cond t (joined (after E b false p) (cond t (Some xs) None)) None) → Alike new (rounds joined (λ q. after E b false q) p)
round_alike E b true xs new (Some ys) h q k =
    alike_then new (joined (after E b false (Some ys)) (Some xs)) (joined (after E b false (Some ys)) (Some ys)) k
    (alike_joined (after E b false (Some ys)) (after E b false (Some ys)) (Some xs) (Some ys) (alike_itself (after E b false (Some ys))) q)
round_alike E b true xs new None h q k = absurd q
round_alike E b false xs new (Some ys) h q k = absurd q
round_alike E b false xs new None h q k = subst (Alike new) (sym (ap (again (λ q. after E b false q)) (none_after E b false h))) k

loop_path : (E : Effects) (e : Tree) (b : Statements) (l : Bool) (p : paths.Path) → l ≡ true → after_one E (while e b) l p ≡ p
loop_path E e b l p h = ap (λ (t : Bool). cond t p (rounds joined (λ q. after E b false q) p)) h

pub while_sees : (E : Effects) → Quiet E → (e : Tree) (b : Statements) (j : Partner) (old mid new : Path) (m o : Seen) (ends : Option Path)
    → SeesBranch E b old None (Into m true) o ends → mid.names.keys ≡ old.names.keys → mid.reached ≡ old.reached → Rounds m.labelled mid new ends
    → SeesOne E (while e b) j old new m (Out m o false)
while_sees E quiet e b j old mid new m o ends h k r round = record {
  held = ap (λ (t : Bool). m.held || t) h.held;
  labelled = refl;
  due = refl;
  missing = λ p s f.
      let q = after_one E (while e b) p.labelled p.path in
      h.missing q (λ z. subst (Alike (path_of old)) (sym (loop_path E e b p.labelled p.path (sym s.labelled ∙ with_label z))) (into_fine m old p true f z))
      ∙ ap (λ (t : Bool). t || offends E (inside q) b) (into_here m p true s)
      ∙ three m.missing (not p.labelled && (is_due p.due || true)) (offends E (inside q) b)
      ∙ (λ i. m.missing || (sym (quiet_here (not p.labelled && (is_due p.due || true)) p.path (E (while e b)) (quiet.while e b)) i || offends E (inside q) b));
  path = λ p s q kept. by m.labelled p.labelled s.labelled round p.path q kept;
}
  where
    same : path_of mid ≡ path_of old
    same = path_same mid old k r

    labelled_if : (x d l : Bool) → (x || (d || (true && not l))) ≡ false → l ≡ true
    labelled_if x d true e = refl
    labelled_if true d false e = cc
    labelled_if false true false e = cc
    labelled_if false false false e = cc

    with_label : (Into m true).missing ≡ false → m.labelled ≡ true
    with_label z = labelled_if m.missing m.due m.labelled z

    by : (l n : Bool) → l ≡ n → Rounds l mid new ends → (p : paths.Path) → Alike (path_of old) p → (n || not (holds b)) ≡ true → Alike (path_of new) (after_one E (while e b) n p)
    by true true s w p q c = subst (λ (z : paths.Path). Alike z p) (sym (ap path_of w ∙ same)) q
    by false false s w p q c =
        let f = after E b false p in
        let first = h.joins p None q (not_held (holds b) c) tt in
        round_alike E b mid.reached mid.names.keys (path_of new) p (not_held (holds b) c) (subst (λ (z : paths.Path). Alike z p) (sym same) q)
        (w f (subst (λ (ks : List Word). Alike (ends_of ks ends) f) (sym k) first))
    by true false s w p q c = cc
    by false true s w p q c = cc

-- ---- branches

abbrev pub Ended : Seen → Seen
Ended m = record { missing = m.missing; held = m.held; labelled = false; due = false }

pub branch_sees : (E : Effects) (b : Statements) (old mid : Path) (m n r : Seen) (ends all : Option Path) (keys : List Word) → n ≡ Ended m → SeesList E b old mid n r
    → keys ≡ old.names.keys → Alike (ends_of keys all) (joined (ends_of keys ends) (path_of mid)) → SeesBranch E b old ends m r all
branch_sees E b old mid m n r ends all keys w l k a = record {
  held = h.held;
  missing = λ q f. h.missing (inside q) (record { labelled = refl; due = refl }) (λ x y. f x);
  joins = λ q e c o g.
      alike_then (ends_of old.names.keys all) (joined (ends_of old.names.keys ends) (path_of mid)) (joined e (after E b false q))
      (subst (λ (ks : List Word). Alike (ends_of ks all) (joined (ends_of ks ends) (path_of mid))) k a)
      (alike_joined (ends_of old.names.keys ends) e (path_of mid) (after E b false q) g (h.path (inside q) (record { labelled = refl; due = refl }) c o));
}
  where
    h : SeesList E b old mid (Ended m) r
    h = subst (λ (z : Seen). SeesList E b old mid z r) w l

pub joined_none : (p : paths.Path) → joined p None ≡ p
joined_none None = refl
joined_none (Some xs) = refl

pub joined_three : (p q r : paths.Path) → joined (joined p q) r ≡ joined p (joined q r)
joined_three None q r = refl
joined_three (Some xs) None r = refl
joined_three (Some xs) (Some ys) None = refl
joined_three (Some xs) (Some ys) (Some zs) = λ i. Some (append_assoc xs ys zs i)

-- some branches were passed, and the rest is left
pub record BranchesLeft (E : Effects) (bs rest : Branches) (old : Path) (m n : Seen) (ends : Option Path) : Type 0 where
  pub held : (n.held || holds_some rest) ≡ (m.held || holds_some bs)
  pub still : n.missing ≡ false → m.missing ≡ false
  pub missing : (q : paths.Path) → (m.missing ≡ false → Alike (path_of old) q) → (n.missing || offends_in_some E q rest) ≡ (m.missing || offends_in_some E q bs)
  pub joins : (q : paths.Path) → Alike (path_of old) q → holds_some bs ≡ false
      → (holds_some rest ≡ false) × ((e : paths.Path) × Alike (ends_of old.names.keys ends) e × (joined e (after_some E rest q) ≡ after_some E bs q))

pub none_left : (E : Effects) (bs : Branches) (old : Path) (m : Seen) → BranchesLeft E bs bs old m m None
none_left E bs old m = record {
  held = refl;
  still = λ e. e;
  missing = λ q f. refl;
  joins = λ q a n. (n, (None, tt, refl));
}

pub one_left : (E : Effects) (bs : Branches) (b : Statements) (rest : Branches) (old now : Path) (m n r : Seen) (ends all : Option Path) → now.names.keys ≡ old.names.keys → now.reached ≡ old.reached
    → BranchesLeft E bs (or b rest) old m n ends → SeesBranch E b now ends n r all → BranchesLeft E bs rest old m r all
one_left E bs b rest old now m n r ends all k t h s = record {
  held = ap (λ (x : Bool). x || holds_some rest) s.held ∙ sym (or_three n.held (holds b) (holds_some rest)) ∙ h.held;
  still = λ e. h.still (before e);
  missing = λ q f.
      ap (λ (x : Bool). x || offends_in_some E q rest) (s.missing q (λ e. subst (λ (z : paths.Path). Alike z q) (sym same) (f (h.still e))))
      ∙ sym (or_three n.missing (offends E (inside q) b) (offends_in_some E q rest)) ∙ ap (λ (x : Bool). n.missing || x) (sym (offends_or E q b rest)) ∙ h.missing q f;
  joins = λ q a c.
      let g = h.joins q a c in
      let w = or_parts (holds b) (holds_some rest) g.0 in
      let e = g.1.0 in (
        w.1,
        (
          joined e (after E b false q),
          subst (λ (ks : List Word). Alike (ends_of ks all) (joined e (after E b false q))) k (s.joins q e (subst (λ (z : paths.Path). Alike z q) (sym same) a) w.0 (subst (λ (ks : List Word). Alike (ends_of ks ends) e) (sym k) g.1.1)),
          joined_three e (after E b false q) (after_some E rest q) ∙ g.1.2,
        ),
      );
}
  where
    same : path_of now ≡ path_of old
    same = path_same now old k t

    before : r.missing ≡ false → n.missing ≡ false
    before e = by n.missing refl
      where
        by : (x : Bool) → n.missing ≡ x → n.missing ≡ false
        by false g = g
        by true g = absurd (true≢false (sym (ap (λ (y : Bool). y || offends E (inside (path_of now)) b) g) ∙ sym (s.missing (path_of now) (λ z. alike_itself (path_of now))) ∙ e))

pub all_left : (E : Effects) (bs : Branches) (old : Path) (m r : Seen) (ends : Option Path) → BranchesLeft E bs no_branches old m r ends → SeesBranches E bs old m r ends
all_left E bs old m r ends h = record {
  held = or_none r.held ∙ h.held;
  missing = λ q f. or_none r.missing ∙ h.missing q f;
  ends = λ q a c.
      let g = h.joins q a c in
      subst (Alike (ends_of old.names.keys ends)) (sym (joined_none g.1.0) ∙ g.1.2) g.1.1;
}
  where
    or_none : (b : Bool) → b ≡ (b || false)
    or_none true = refl
    or_none false = refl

-- ---- lists

pub record ListLeft (E : Effects) (b rest : Statements) (old new : Path) (kept : Option Path) (m n : Seen) (p : Before) : Type 0 where
  pub at : Before
  pub stands : Stands n at
  pub held : (n.held || holds rest) ≡ (m.held || holds b)
  pub missing : Fine m old p → (n.missing || offends E at rest) ≡ (m.missing || offends E p b)
  pub fine : Fine m old p → Fine n new at
  pub after : after E rest at.labelled at.path ≡ after E b p.labelled p.path
  pub calm : Alike (path_of old) p.path → holds b ≡ false → (holds rest ≡ false) × (kept ≡ None) × Alike (path_of new) at.path

pub list_begins : (E : Effects) (b : Statements) (old : Path) (m : Seen) (p : Before) → Stands m p → ListLeft E b b old old None m m p
list_begins E b old m p s = record { at = p; stands = s; held = refl; missing = λ f. refl; fine = λ f. f; after = refl; calm = λ a n. (n, refl, a) }

abbrev pub Labelled : Seen → Seen
Labelled m = record { missing = m.missing; held = true; labelled = true; due = false }

pub label_passed : (E : Effects) (b rest : Statements) (x : Name) (k : Mark) (old mid new : Path) (kept next : Option Path) (m n : Seen) (p : Before) → ListLeft E b (mark x k rest) old mid kept m n p
    → new.names.keys ≡ [] → new.reached ≡ true → ListLeft E b rest old new next m (Labelled n) p
label_passed E b rest x k old mid new kept next m n p h e t = record {
  at = at_label;
  stands = record { labelled = refl; due = refl };
  held = sym (always n.held) ∙ h.held;
  missing = h.missing;
  fine = λ f y z. subst (λ (q : paths.Path). Alike q (Some [])) (sym fresh) (λ g. refl);
  after = h.after;
  calm = λ a c. absurd (true≢false (h.calm a c).0);
}
  where
    always : (b : Bool) → (b || true) ≡ true
    always true = refl
    always false = refl

    fresh : path_of new ≡ Some []
    fresh = λ i. cond (t i) (Some (e i)) None

kept_calm : (l : Bool) (st : Statement) → holds_one st ≡ false → is_kept l st ≡ true
kept_calm l (branch e a b) h = ap not h
kept_calm l (either bs) h = ap not h
kept_calm l (with bs b) h = ap not h
kept_calm true (while e b) h = refl
kept_calm false (while e b) h = ap not h
kept_calm l (goto n) h = refl
kept_calm l (call n ts) h = refl
kept_calm l return h = refl
kept_calm l (assign ms) h = refl
kept_calm l (await e) h = refl
kept_calm l (print e) h = refl
kept_calm l (assert e) h = refl
kept_calm l skip h = refl
kept_calm l (macro m ts) h = refl

loop_kept : (l d x : Bool) → (not l && (d || true)) ≡ false → (l || x) ≡ true
loop_kept true d x e = refl
loop_kept false true x e = cc
loop_kept false false x e = cc

kept_fine : (l d : Bool) (st : Statement) (j : Partner) → (not l && (d || is_while st)) ≡ false → is_due (due_after st j) ≡ false → is_kept l st ≡ true
kept_fine l d (branch e a b) j h k = ap not (sym (due_if (holds a || holds b) AfterBranch) ∙ k)
kept_fine l d (either bs) j h k = ap not (sym (due_if (holds_some bs) AfterBranch) ∙ k)
kept_fine l d (with bs b) j h k = ap not (sym (due_if (holds b) AfterBranch) ∙ k)
kept_fine l d (while e b) j h k = loop_kept l d (not (holds b)) h
kept_fine l d (goto n) j h k = refl
kept_fine l d (call n ts) j h k = refl
kept_fine l d return j h k = refl
kept_fine l d (assign ms) j h k = refl
kept_fine l d (await e) j h k = refl
kept_fine l d (print e) j h k = refl
kept_fine l d (assert e) j h k = refl
kept_fine l d skip j h k = refl
kept_fine l d (macro m ts) j h k = refl

not_due : (l d w : Bool) → (not l && (d || w)) ≡ false → (not l && d) ≡ false
not_due true d w e = refl
not_due false true w e = e
not_due false false w e = refl

pub one_passed : (E : Effects) (b : Statements) (s : Span) (st : Statement) (rest : Statements) (old mid new : Path) (kept : Option Path) (m n r : Seen) (p : Before)
    → ListLeft E b (then s st rest) old mid kept m n p → SeesOne E st (partner_of rest) mid new n r → ListLeft E b rest old new kept m r p
one_passed E b s st rest old mid new kept m n r p h o = record {
  at = to;
  stands = record { labelled = o.labelled; due = o.due };
  held = ap (λ (x : Bool). x || holds rest) o.held ∙ sym (or_three n.held (holds_one st) (holds rest)) ∙ h.held;
  missing = λ f.
      ap (λ (x : Bool). x || offends E to rest) (o.missing h.at h.stands (h.fine f))
      ∙ sym (or_three n.missing (here E h.at st j || offends_inside E h.at st) (offends E to rest))
      ∙ ap (λ (x : Bool). n.missing || x) (sym (offends_then E h.at s st rest)) ∙ h.missing f;
  fine = λ f y z.
      let c = or_parts n.missing (here E h.at st j || offends_inside E h.at st) (sym (o.missing h.at h.stands (h.fine f)) ∙ y) in
      let d = (or_parts (not h.at.labelled && (is_due h.at.due || is_while st)) _ (or_parts (here E h.at st j) (offends_inside E h.at st) c.1).0).0 in
      o.path h.at h.stands (h.fine f c.0 (h.stands.due ∙ not_due h.at.labelled (is_due h.at.due) (is_while st) d)) (kept_fine h.at.labelled (is_due h.at.due) st j d (sym o.due ∙ z));
  after = h.after;
  calm = λ a c.
      let g = h.calm a c in
      let w = or_parts (holds_one st) (holds rest) g.0 in
      (w.1, g.1, o.path h.at h.stands g.2 (kept_calm h.at.labelled st w.0));
}
  where
    j : Partner
    j = partner_of rest

    to : Before
    to = next E h.at st j

pub list_ends : (E : Effects) (b : Statements) (old mid new : Path) (kept : Option Path) (m n : Seen) → ((p : Before) → Stands m p → ListLeft E b done old mid kept m n p) → (kept ≡ None → new ≡ mid)
    → (n.held || false) ≡ (m.held || holds b) → SeesList E b old new m (Ended n)
list_ends E b old mid new kept m n h e w = record {
  held = or_none n.held ∙ w;
  missing = λ p s f. or_none n.missing ∙ (h p s).missing f;
  path = λ p s a c.
      let l = h p s in
      let g = l.calm a c in
      subst (λ (z : Path). Alike (path_of z) (after E b p.labelled p.path)) (sym (e g.1)) (subst (Alike (path_of mid)) l.after g.2);
}
  where
    or_none : (b : Bool) → b ≡ (b || false)
    or_none true = refl
    or_none false = refl

-- ---- the path with which a list began

pub kept_begins : (old mid new : Path) (kept next : Option Path) → IsKept old mid kept → Begins mid new kept next → IsKept old new next
kept_begins old mid new None next h b = subst (IsKept old new) (sym b.2) h
kept_begins old mid new (Some f) next h b = subst (IsKept old new) (sym b.2) h

pub begins_anew : (mid new : Path) (kept next : Option Path) → Begins mid new kept next → (new.names.keys ≡ []) × (new.reached ≡ true)
begins_anew mid new None next b = (b.0, b.1)
begins_anew mid new (Some f) next b = (b.0, b.1)

pub kept_passed : (old mid new : Path) (kept : Option Path) → IsKept old mid kept → Behind mid.names.keys new.names.keys → IsKept old new kept
kept_passed old mid new None h b = behind_then old.names.keys mid.names.keys new.names.keys h b
kept_passed old mid new (Some f) h b = h

pub kept_ends : (old mid new : Path) (kept : Option Path) → IsKept old mid kept → Finishes mid new kept → Behind old.names.keys new.names.keys
kept_ends old mid new None h f = subst (λ (z : Path). Behind old.names.keys z.names.keys) (sym f) h
kept_ends old mid new (Some g) h f = subst (λ (z : Path). Behind old.names.keys z.names.keys) (sym f) h

pub none_kept : (mid new : Path) (kept : Option Path) → Finishes mid new kept → kept ≡ None → new ≡ mid
none_kept mid new None f e = f
none_kept mid new (Some g) f e = cc

-- a label and a statement, by the place
pub is_label : (o : Option Place) (b : Bool) (f : InList) → IsPlaceOf o f → is_some o ≡ not b → b ≡ true → (x : Name) × (m : Mark) × (f ≡ mark x m)
is_label None b f h e t = h
is_label (Some p) b f h e t = absurd (true≢false (e ∙ ap not t))

pub is_statement : (o : Option Place) (b : Bool) (f : InList) → IsPlaceOf o f → is_some o ≡ not b → b ≡ false → (s : Span) × (st : Statement) × (f ≡ then s st)
is_statement None b f h e t = absurd (true≢false (sym (e ∙ ap not t)))
is_statement (Some p) b f h e t = (h.0, h.1, h.2)

-- ---- statements in memory

module _ (E : Effects) (q : Quiet E) (ts : List Tree) (j : Partner) (old new : Path) (m r : Seen) (x : Stmt) (s : Span) (st : Statement) (e : stmt_at ts x ≡ then s st) where
  pub simple_stands : (sp : code_span.Span) (y : declared_simple.Simple) → x ≡ Simple sp y → SeesOne E (simple_at ts y) j old new m r → SeesOne E st j old new m r
  simple_stands sp y is h = stmt_sees E j old new m r (stmt_at ts x) (at.span_of sp) s (simple_at ts y) st (ap (stmt_at ts) is ∙ simple_in_list_at ts sp y) e h

  pub if_stands : (sp : code_span.Span) (t : ℕ) (a b : Vec Stmt Global) (cs ds : List Stmt) (mid last : Path) (i n o : Seen) (ends all : Option Path) → x ≡ If sp t a b → cs ≡ a.items → ds ≡ b.items → i ≡ Into m false
      → SeesBranch E (statements_at ts cs) old None i n ends → mid.names.keys ≡ old.names.keys → mid.reached ≡ old.reached → SeesBranch E (statements_at ts ds) mid ends n o all
      → last.names.keys ≡ mid.names.keys → Alike (path_of new) (ends_of last.names.keys all) → r ≡ Out m o true → SeesOne E st j old new m r
  if_stands sp t a b cs ds mid last i n o ends all is u v w f k l g kk c z =
      stmt_sees E j old new m r (stmt_at ts x) (at.span_of sp) s (branch (expr_at ts t) (statements_at ts a.items) (statements_at ts b.items)) st (ap (stmt_at ts) is ∙ if_at ts sp t a b) e
      (subst (λ (y : Seen). SeesOne E (branch (expr_at ts t) (statements_at ts a.items) (statements_at ts b.items)) j old new m y) (sym z)
      (if_sees E q (expr_at ts t) (statements_at ts a.items) (statements_at ts b.items) j old mid last new m n o ends all
      (subst (λ (y : Seen). SeesBranch E (statements_at ts a.items) old None y n ends) w (subst (λ (ss : List Stmt). SeesBranch E (statements_at ts ss) old None i n ends) u f)) k l
      (subst (λ (ss : List Stmt). SeesBranch E (statements_at ts ss) mid ends n o all) v g) kk c))

  pub either_stands : (sp : code_span.Span) (bs : Vec (Vec Stmt Global) Global) (cs : List (Vec Stmt Global)) (last : Path) (i o : Seen) (all : Option Path) → x ≡ Either sp bs → cs ≡ bs.items → i ≡ Into m false
      → SeesBranches E (branches_at ts cs) old i o all → last.names.keys ≡ old.names.keys → Alike (path_of new) (ends_of last.names.keys all) → r ≡ Out m o true → SeesOne E st j old new m r
  either_stands sp bs cs last i o all is u w f k c z =
      stmt_sees E j old new m r (stmt_at ts x) (at.span_of sp) s (either (branches_at ts bs.items)) st (ap (stmt_at ts) is ∙ either_at ts sp bs) e
      (subst (λ (y : Seen). SeesOne E (either (branches_at ts bs.items)) j old new m y) (sym z)
      (either_sees E q (branches_at ts bs.items) j old last new m o all
      (subst (λ (y : Seen). SeesBranches E (branches_at ts bs.items) old y o all) w (subst (λ (ss : List (Vec Stmt Global)). SeesBranches E (branches_at ts ss) old i o all) u f)) k c))

  pub with_stands : (sp : code_span.Span) (bs : Vec Bind Global) (b : Vec Stmt Global) (cs : List Stmt) (i o : Seen) → x ≡ With sp bs b → cs ≡ b.items → i ≡ Into m false
      → SeesList E (statements_at ts cs) old new i o → r ≡ Out m o true → SeesOne E st j old new m r
  with_stands sp bs b cs i o is u w f z =
      stmt_sees E j old new m r (stmt_at ts x) (at.span_of sp) s (with (binds_at ts bs.items) (statements_at ts b.items)) st (ap (stmt_at ts) is ∙ with_at ts sp bs b) e
      (subst (λ (y : Seen). SeesOne E (with (binds_at ts bs.items) (statements_at ts b.items)) j old new m y) (sym z)
      (with_sees E q (binds_at ts bs.items) (statements_at ts b.items) j old new m o
      (subst (λ (y : Seen). SeesList E (statements_at ts b.items) old new y o) w (subst (λ (ss : List Stmt). SeesList E (statements_at ts ss) old new i o) u f))))

  pub while_stands : (sp : code_span.Span) (t : ℕ) (b : Vec Stmt Global) (cs : List Stmt) (mid : Path) (i o : Seen) (ends : Option Path) → x ≡ While sp t b → cs ≡ b.items → i ≡ Into m true
      → SeesBranch E (statements_at ts cs) old None i o ends → mid.names.keys ≡ old.names.keys → mid.reached ≡ old.reached → Rounds m.labelled mid new ends → r ≡ Out m o false → SeesOne E st j old new m r
  while_stands sp t b cs mid i o ends is u w f k l g z =
      stmt_sees E j old new m r (stmt_at ts x) (at.span_of sp) s (while (expr_at ts t) (statements_at ts b.items)) st (ap (stmt_at ts) is ∙ while_at ts sp t b) e
      (subst (λ (y : Seen). SeesOne E (while (expr_at ts t) (statements_at ts b.items)) j old new m y) (sym z)
      (while_sees E q (expr_at ts t) (statements_at ts b.items) j old mid new m o ends
      (subst (λ (y : Seen). SeesBranch E (statements_at ts b.items) old None y o ends) w (subst (λ (ss : List Stmt). SeesBranch E (statements_at ts ss) old None i o ends) u f)) k l g))

-- ---- lists in memory

module _ (E : Effects) (b now rest : Statements) (f : InList) (is : now ≡ f rest) (old mid new : Path) (kept next : Option Path) (m n r : Seen) where
  pub label_left : (x : Name) (k : Mark) → f ≡ mark x k → Begins mid new kept next → r ≡ Labelled n → (p : Before) → ListLeft E b now old mid kept m n p → ListLeft E b rest old new next m r p
  label_left x k e g z p h =
      let a = begins_anew mid new kept next g in
      subst (λ (y : Seen). ListLeft E b rest old new next m y p) (sym z)
      (label_passed E b rest x k old mid new kept next m n p (subst (λ (y : Statements). ListLeft E b y old mid kept m n p) (is ∙ ap (λ (g : InList). g rest) e) h) a.0 a.1)

  pub label_held : (x : Name) (k : Mark) → f ≡ mark x k → r ≡ Labelled n → (n.held || holds now) ≡ (m.held || holds b) → (r.held || holds rest) ≡ (m.held || holds b)
  label_held x k e z h =
      ap (λ (y : Seen). y.held || holds rest) z ∙ sym (always n.held) ∙ ap (λ (y : Statements). n.held || holds y) (sym (is ∙ ap (λ (g : InList). g rest) e)) ∙ h
    where
      always : (b : Bool) → (b || true) ≡ true
      always true = refl
      always false = refl

  pub one_more : (s : Span) (st : Statement) → f ≡ then s st → SeesOne E st (partner_of rest) mid new n r → (p : Before) → ListLeft E b now old mid kept m n p → ListLeft E b rest old new kept m r p
  one_more s st e o p h =
      one_passed E b s st rest old mid new kept m n r p (subst (λ (y : Statements). ListLeft E b y old mid kept m n p) (is ∙ ap (λ (g : InList). g rest) e) h) o

  pub one_held : (s : Span) (st : Statement) → f ≡ then s st → SeesOne E st (partner_of rest) mid new n r → (n.held || holds now) ≡ (m.held || holds b) → (r.held || holds rest) ≡ (m.held || holds b)
  one_held s st e o h =
      ap (λ (y : Bool). y || holds rest) o.held ∙ sym (or_three n.held (holds_one st) (holds rest)) ∙ ap (λ (y : Statements). n.held || holds y) (sym (is ∙ ap (λ (g : InList). g rest) e)) ∙ h
