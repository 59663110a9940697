-- Labels that are missing, one statement after another.
use Rattle.std.proofs.Common.{◌≡◌, ℕ, ◌+◌, ◌<◌, ◌≤◌, Bool, true, false, ◌||◌, not, List, [], ◌∷◌, ◌++◌, length, map, drop, get_or, Option, Some, None, Vec, Global, refl, sym, ap, ◌∙◌, subst, cond, append_assoc}
use Rattle.std.specs.List.{flat_map}
use Rattle.std.proofs.Math.Bool.{or-false}
use Rattle.std.proofs.lemmas.List.{drop_more, drop_all}
use Rattle.tla_token.specs.declared.place.Place.{Place}
use Rattle.tla_token.specs.declared.rule.Rule.{Rule}
use Rattle.tla_token.specs.declared.rule.Rule.TheVariants.{WhileLabel, AfterBranch}
use Rattle.tla_token.specs.declared.rule.Refusal.{Refusal}
use Rattle.tla_tree.specs.Tree.{Name, Tree}
use Rattle.tla_tree.specs.Pool.{at}
use Rattle.pcal_tree.specs.declared.mark.Mark.{Mark}
use Rattle.pcal_tree.specs.declared.algorithm.Span as code_span
use Rattle.pcal_tree.specs.declared.algorithm.Bind.{Bind}
use Rattle.pcal_tree.specs.declared.algorithm.Simple as declared_simple
use Rattle.pcal_tree.specs.declared.algorithm.Simple.TheVariants as simple
use Rattle.pcal_tree.specs.declared.algorithm.Stmt.{Stmt}
use Rattle.pcal_tree.specs.declared.algorithm.Stmt.TheVariants.{Label, Simple, If, Either, With, While}
use Rattle.pcal_tree.specs.declared.algorithm.Algorithm as code
use Rattle.pcal_tree.specs.Algorithm as tree
use Rattle.pcal_tree.specs.Algorithm.{Span, Statement, branch, either, with, while, Statements, then, mark}
use Rattle.pcal_tree.specs.InMemory.{span_of, binds_at, simple_at, Before as InList, stmt_at, statements_at, branches_at, macro_at, procedure_at, main_at, algorithm_at}
use Rattle.pcal_tree.specs.Run.{Partner, is_pair, partner_of}
use Rattle.pcal_tree.specs.Offences.{offence_if, offence, first}
use Rattle.pcal_tree.specs.OffencesSteps.{holds_one, holds, holds_some, due_after, due_offence, while_offence}
use Rattle.pcal_tree.proofs.InMemoryEach.{label_at, simple_in_list_at, if_at, either_at, with_at, while_at}
use Rattle.pcal_tree.proofs.SetLaws.{or_both}
use Rattle.algorithm_answer.specs.Joined.{joined}
use Rattle.algorithm_answer.proofs.Joins.{joined_none}
use Rattle.label_jumps.proofs.FoundLaws.{found_then, found_before}
use Rattle.label_steps.specs.declared.due.Before.{Before}
use Rattle.label_steps.specs.declared.due.Before.TheVariants as before
use Rattle.label_steps.specs.declared.due.Walk.{Walk}
use Rattle.label_steps.specs.MissingLabels.{due_before, due_inside, due_in, due_in_some, due_in_body, due_in_main, missing_labels}
use Rattle.label_steps.specs.Walking.{is_labelled, rule_due, due_next, IsBehind, Passes}

-- ---- before a statement

abbrev WhileDue : Before → Statement → Place → List Refusal
WhileDue k st at = cond (is_labelled k) [] (while_offence st at)

before_parts : (k : Before) (b : Bool) (at : Place) (st : Statement) → due_before (is_labelled k) (rule_due k b) at st ≡ due_offence (rule_due k b) at ++ WhileDue k st at
before_parts before.Label b at st = refl
before_parts before.Nothing b at st = refl
before_parts (before.Due r) b at st = refl
before_parts before.Call b at st = refl

pub while_due : (k : Before) (e : Tree) (b : Statements) (at : Place) → offence_if (not (is_labelled k)) WhileLabel at ≡ WhileDue k (while e b) at
while_due k e b at = by (is_labelled k)
  where
    by : (l : Bool) → offence_if (not l) WhileLabel at ≡ cond l [] (offence WhileLabel at)
    by true = refl
    by false = refl

abbrev none : List Refusal
none = []

never_due : (l : Bool) → cond l none none ≡ none
never_due true = refl
never_due false = refl

-- ---- past a statement

moved : (d w i r : List Refusal) → (d ++ (w ++ i)) ++ r ≡ (d ++ w) ++ (i ++ r)
moved d w i r = append_assoc d (w ++ i) r ∙ ap (λ (xs : List Refusal). d ++ xs) (append_assoc w i r) ∙ sym (append_assoc d w (i ++ r))

pub passes : (old new : Walk) (s : Span) (st : Statement) (found inner : Option Refusal) (b : Bool) → ((rest : Statements) → b ≡ is_pair (partner_of (then s st rest)))
    → found ≡ joined old.first (first (due_offence (rule_due old.before b) s.first)) → inner ≡ joined found (first (WhileDue old.before st s.first ++ due_inside st))
    → ((p : Partner) → IsBehind new.before p (due_after st p)) → new.first ≡ inner → new.holds ≡ (old.holds || holds_one st) → Passes old new (then s st)
passes old new s st found inner b pair f i behind n h = record {
  first = λ rest.
      let d = due_offence (rule_due old.before b) s.first in
      let w = WhileDue old.before st s.first in
      let k = behind (partner_of rest) in
      let r = due_in false (due_after st (partner_of rest)) rest in
      (λ j. joined (n j) (first (due_in (k.0 j) (k.1 j) rest)))
      ∙ found_before old.first inner (d ++ (w ++ due_inside st)) r (found_then old.first found inner d (w ++ due_inside st) f i)
      ∙ ap (λ (xs : List Refusal). joined old.first (first xs))
      (moved d w (due_inside st) r ∙ ap (λ (xs : List Refusal). xs ++ (due_inside st ++ r)) (sym (before_parts old.before b s.first st)))
      ∙ ap (λ (c : Bool). joined old.first (first (due_before (is_labelled old.before) (rule_due old.before c) s.first st ++ (due_inside st ++ r)))) (pair rest);
  holds = λ rest. ap (λ (c : Bool). c || holds rest) h ∙ or_both old.holds (holds_one st) (holds rest);
}

-- one with none in it
none_inside : (ts : List Tree) (x : declared_simple.Simple) → due_inside (simple_at ts x) ≡ []
none_inside ts (simple.Assign ms) = refl
none_inside ts (simple.Await e) = refl
none_inside ts (simple.Print e) = refl
none_inside ts (simple.Assert e) = refl
none_inside ts simple.Skip = refl
none_inside ts (simple.Goto x) = refl
none_inside ts (simple.Macro x es) = refl
none_inside ts (simple.Call x es) = refl
none_inside ts simple.Return = refl

no_loop : (ts : List Tree) (x : declared_simple.Simple) (at : Place) → while_offence (simple_at ts x) at ≡ []
no_loop ts (simple.Assign ms) at = refl
no_loop ts (simple.Await e) at = refl
no_loop ts (simple.Print e) at = refl
no_loop ts (simple.Assert e) at = refl
no_loop ts simple.Skip at = refl
no_loop ts (simple.Goto x) at = refl
no_loop ts (simple.Macro x es) at = refl
no_loop ts (simple.Call x es) at = refl
no_loop ts simple.Return at = refl

pub simple_passes : (ts : List Tree) (old new : Walk) (s : Span) (x : declared_simple.Simple) (found : Option Refusal) (b : Bool) → ((rest : Statements) → b ≡ is_pair (partner_of (then s (simple_at ts x) rest)))
    → found ≡ joined old.first (first (due_offence (rule_due old.before b) s.first)) → ((p : Partner) → IsBehind new.before p (due_after (simple_at ts x) p)) → new.first ≡ found
    → new.holds ≡ (old.holds || holds_one (simple_at ts x)) → Passes old new (then s (simple_at ts x))
simple_passes ts old new s x found b pair f behind n h =
    passes old new s (simple_at ts x) found found b pair f
    (sym (joined_none found) ∙ ap (λ (xs : List Refusal). joined found (first xs))
    (ap (λ (xs : List Refusal). xs ++ none) (sym (never_due (is_labelled old.before))) ∙ (λ i. cond (is_labelled old.before) [] (sym (no_loop ts x s.first) i) ++ sym (none_inside ts x) i)))
    behind n h

-- ---- each kind of statement, before the rest of its list

standing : (ts : List Tree) (old new : Walk) (s : Stmt) (f : InList) → stmt_at ts s ≡ f → Passes old new f → Passes old new (stmt_at ts s)
standing ts old new s f e h = subst (λ (g : InList). Passes old new g) (sym e) h

module _ (ts : List Tree) (old new : Walk) where
  pub label_passes : (x : Name) (m : Mark) → new.first ≡ old.first → new.before ≡ before.Label → new.holds ≡ true → Passes old new (stmt_at ts (Label x m))
  label_passes x m f b h =
      standing ts old new (Label x m) (mark x m) (label_at ts x m) (record {
        first = λ rest. (λ i. joined (f i) (first (due_next (b i) rest)));
        holds = λ rest. ap (λ (c : Bool). c || holds rest) h ∙ sym (or_true old.holds);
      })
    where
      or_true : (c : Bool) → (c || true) ≡ true
      or_true true = refl
      or_true false = refl

  pub in_list_passes : (s : code_span.Span) (x : declared_simple.Simple) → Passes old new (then (span_of s) (simple_at ts x)) → Passes old new (stmt_at ts (Simple s x))
  in_list_passes s x h = standing ts old new (Simple s x) (then (span_of s) (simple_at ts x)) (simple_in_list_at ts s x) h

  -- what is behind is due by what is inside
  branch_passes : (s : Span) (st : Statement) (found inner : Option Refusal) (h : Bool) → ((rest : Statements) → false ≡ is_pair (partner_of (then s st rest))) → ((at : Place) → while_offence st at ≡ [])
      → ((p : Partner) → due_after st p ≡ cond (holds_one st) (Some AfterBranch) None)
      → found ≡ joined old.first (first (due_offence (rule_due old.before false) s.first)) → inner ≡ joined found (first (due_inside st)) → h ≡ holds_one st
      → ((p : Partner) → IsBehind new.before p (cond h (Some AfterBranch) None)) → new.first ≡ inner → new.holds ≡ (old.holds || h) → Passes old new (then s st)
  branch_passes s st found inner h pair loop due f i e behind n o =
      passes old new s st found inner false pair f
      (i ∙ ap (λ (xs : List Refusal). joined found (first (xs ++ due_inside st))) (sym (never_due (is_labelled old.before)) ∙ ap (λ (xs : List Refusal). cond (is_labelled old.before) [] xs) (sym (loop s.first))))
      (λ p. ((behind p).0, (behind p).1 ∙ ap (λ (b : Bool). cond b (Some AfterBranch) None) e ∙ sym (due p))) n (o ∙ ap (λ (b : Bool). old.holds || b) e)

  pub if_passes : (s : code_span.Span) (e : ℕ) (a b : Vec Stmt Global) (found one two : Option Refusal) (g h : Bool) → found ≡ joined old.first (first (due_offence (rule_due old.before false) s.first))
      → one ≡ joined found (first (due_in false None (statements_at ts a.items))) → two ≡ joined one (first (due_in false None (statements_at ts b.items)))
      → g ≡ holds (statements_at ts a.items) → h ≡ (g || holds (statements_at ts b.items))
      → ((p : Partner) → IsBehind new.before p (cond h (Some AfterBranch) None)) → new.first ≡ two → new.holds ≡ (old.holds || h) → Passes old new (stmt_at ts (If s e a b))
  if_passes s e a b found one two g h f i j k l behind n o =
      standing ts old new (If s e a b) (then (span_of s) (branch (at ts e) (statements_at ts a.items) (statements_at ts b.items))) (if_at ts s e a b)
      (branch_passes (span_of s) (branch (at ts e) (statements_at ts a.items) (statements_at ts b.items)) found two h (λ rest. refl) (λ p. refl) (λ p. refl) f
      (found_then found one two (due_in false None (statements_at ts a.items)) (due_in false None (statements_at ts b.items)) i j)
      (l ∙ ap (λ (c : Bool). c || holds (statements_at ts b.items)) k) behind n o)

  pub either_passes : (s : code_span.Span) (bs : Vec (Vec Stmt Global) Global) (found inner : Option Refusal) (h : Bool) → found ≡ joined old.first (first (due_offence (rule_due old.before false) s.first))
      → inner ≡ joined found (first (due_in_some (branches_at ts bs.items))) → h ≡ holds_some (branches_at ts bs.items)
      → ((p : Partner) → IsBehind new.before p (cond h (Some AfterBranch) None)) → new.first ≡ inner → new.holds ≡ (old.holds || h) → Passes old new (stmt_at ts (Either s bs))
  either_passes s bs found inner h f i k behind n o =
      standing ts old new (Either s bs) (then (span_of s) (either (branches_at ts bs.items))) (either_at ts s bs)
      (branch_passes (span_of s) (either (branches_at ts bs.items)) found inner h (λ rest. refl) (λ p. refl) (λ p. refl) f i k behind n o)

  pub with_passes : (s : code_span.Span) (bs : Vec Bind Global) (b : Vec Stmt Global) (found inner : Option Refusal) (h : Bool) → found ≡ joined old.first (first (due_offence (rule_due old.before false) s.first))
      → inner ≡ joined found (first (due_in false None (statements_at ts b.items))) → h ≡ holds (statements_at ts b.items)
      → ((p : Partner) → IsBehind new.before p (cond h (Some AfterBranch) None)) → new.first ≡ inner → new.holds ≡ (old.holds || h) → Passes old new (stmt_at ts (With s bs b))
  with_passes s bs b found inner h f i k behind n o =
      standing ts old new (With s bs b) (then (span_of s) (with (binds_at ts bs.items) (statements_at ts b.items))) (with_at ts s bs b)
      (branch_passes (span_of s) (with (binds_at ts bs.items) (statements_at ts b.items)) found inner h (λ rest. refl) (λ p. refl) (λ p. refl) f i k behind n o)

  pub while_passes : (s : code_span.Span) (e : ℕ) (b : Vec Stmt Global) (found here inner : Option Refusal) (h : Bool) → found ≡ joined old.first (first (due_offence (rule_due old.before false) s.first))
      → here ≡ joined found (first (offence_if (not (is_labelled old.before)) WhileLabel s.first)) → inner ≡ joined here (first (due_in false None (statements_at ts b.items))) → h ≡ holds (statements_at ts b.items)
      → new.before ≡ before.Nothing → new.first ≡ inner → new.holds ≡ (old.holds || h) → Passes old new (stmt_at ts (While s e b))
  while_passes s e b found here inner h f w i k is n o =
      standing ts old new (While s e b) (then (span_of s) (while (at ts e) (statements_at ts b.items))) (while_at ts s e b)
      (passes old new (span_of s) (while (at ts e) (statements_at ts b.items)) found inner false (λ rest. refl) f
      (found_then found here inner (WhileDue old.before (while (at ts e) (statements_at ts b.items)) s.first) (due_in false None (statements_at ts b.items))
      (w ∙ ap (λ (xs : List Refusal). joined found (first xs)) (while_due old.before (at ts e) (statements_at ts b.items) s.first)) i)
      (λ p. (ap is_labelled is, ap (λ (l : Before). rule_due l (is_pair p)) is)) n (o ∙ ap (λ (c : Bool). old.holds || c) k))

-- ---- lists: what is left of one

abbrev pub DueAll : Walk → List Tree → List Stmt → Option Refusal
DueAll w ts ss = joined w.first (first (due_next w.before (statements_at ts ss)))

abbrev pub HoldsAll : Walk → List Tree → List Stmt → Bool
HoldsAll w ts ss = w.holds || holds (statements_at ts ss)

abbrev pub DueSome : Walk → List Tree → List (Vec Stmt Global) → Option Refusal
DueSome w ts bs = joined w.first (first (due_in_some (branches_at ts bs)))

abbrev pub HoldsSome : Walk → List Tree → List (Vec Stmt Global) → Bool
HoldsSome w ts bs = w.holds || holds_some (branches_at ts bs)

module _ (ts : List Tree) (old new : Walk) (ss : List Stmt) (i : ℕ) where
  next_is : (s : Stmt) → s ≡ get_or ss i s → i < length ss → s ∷ drop (i + 1) ss ≡ drop i ss
  next_is s e l = ap (λ (y : Stmt). y ∷ drop (i + 1) ss) e ∙ sym (drop_more ss i s l)

  pub due_more : (s : Stmt) → s ≡ get_or ss i s → i < length ss → Passes old new (stmt_at ts s) → DueAll new ts (drop (i + 1) ss) ≡ DueAll old ts (drop i ss)
  due_more s e l p = p.first (statements_at ts (drop (i + 1) ss)) ∙ ap (λ (ys : List Stmt). DueAll old ts ys) (next_is s e l)

  pub holds_more : (s : Stmt) → s ≡ get_or ss i s → i < length ss → Passes old new (stmt_at ts s) → HoldsAll new ts (drop (i + 1) ss) ≡ HoldsAll old ts (drop i ss)
  holds_more s e l p = p.holds (statements_at ts (drop (i + 1) ss)) ∙ ap (λ (ys : List Stmt). HoldsAll old ts ys) (next_is s e l)

pub due_done : (ts : List Tree) (w : Walk) (ss : List Stmt) (i : ℕ) → length ss ≤ i → DueAll w ts (drop i ss) ≡ w.first
due_done ts w ss i l = ap (λ (ys : List Stmt). DueAll w ts ys) (drop_all i ss l) ∙ joined_none w.first

pub holds_done : (ts : List Tree) (w : Walk) (ss : List Stmt) (i : ℕ) → length ss ≤ i → HoldsAll w ts (drop i ss) ≡ w.holds
holds_done ts w ss i l = ap (λ (ys : List Stmt). HoldsAll w ts ys) (drop_all i ss l) ∙ or-false w.holds

module _ (ts : List Tree) (old new : Walk) (bs : List (Vec Stmt Global)) (i : ℕ) (b : Vec Stmt Global) (e : b ≡ get_or bs i b) (l : i < length bs) where
  next_branch : b ∷ drop (i + 1) bs ≡ drop i bs
  next_branch = ap (λ (y : Vec Stmt Global). y ∷ drop (i + 1) bs) e ∙ sym (drop_more bs i b l)

  pub some_more : new.first ≡ joined old.first (first (due_in false None (statements_at ts b.items))) → DueSome new ts (drop (i + 1) bs) ≡ DueSome old ts (drop i bs)
  some_more h =
      found_before old.first new.first (due_in false None (statements_at ts b.items)) (due_in_some (branches_at ts (drop (i + 1) bs))) h ∙ ap (λ (ys : List (Vec Stmt Global)). DueSome old ts ys) next_branch

  pub holds_some_more : new.holds ≡ (old.holds || holds (statements_at ts b.items)) → HoldsSome new ts (drop (i + 1) bs) ≡ HoldsSome old ts (drop i bs)
  holds_some_more h =
      ap (λ (c : Bool). c || holds_some (branches_at ts (drop (i + 1) bs))) h ∙ or_both old.holds (holds (statements_at ts b.items)) (holds_some (branches_at ts (drop (i + 1) bs)))
      ∙ ap (λ (ys : List (Vec Stmt Global)). HoldsSome old ts ys) next_branch

pub some_done : (ts : List Tree) (w : Walk) (bs : List (Vec Stmt Global)) (i : ℕ) → length bs ≤ i → DueSome w ts (drop i bs) ≡ w.first
some_done ts w bs i l = ap (λ (ys : List (Vec Stmt Global)). DueSome w ts ys) (drop_all i bs l) ∙ joined_none w.first

pub holds_some_done : (ts : List Tree) (w : Walk) (bs : List (Vec Stmt Global)) (i : ℕ) → length bs ≤ i → HoldsSome w ts (drop i bs) ≡ w.holds
holds_some_done ts w bs i l = ap (λ (ys : List (Vec Stmt Global)). HoldsSome w ts ys) (drop_all i bs l) ∙ or-false w.holds

-- ---- a whole algorithm

pub whole_due : (ts : List Tree) (a : code.Algorithm) (m p r : Option Refusal) → m ≡ first (flat_map (λ (d : tree.Macro). due_in false None d.body) (map (macro_at ts) a.macros.items))
    → p ≡ joined m (first (flat_map (λ (q : tree.Procedure). due_in_body q.body) (map (procedure_at ts) a.procedures.items))) → r ≡ joined p (first (due_in_main (main_at ts a.main)))
    → r ≡ first (missing_labels (algorithm_at ts a))
whole_due ts a m p r h k l =
    let ms = flat_map (λ (d : tree.Macro). due_in false None d.body) (map (macro_at ts) a.macros.items) in
    let ps = flat_map (λ (q : tree.Procedure). due_in_body q.body) (map (procedure_at ts) a.procedures.items) in
    let main = due_in_main (main_at ts a.main) in
    found_then None m r ms (ps ++ main) h (found_then m p r ps main k l)

-- ---- into a list and out of it

abbrev Into : Option Refusal → Bool → Walk
Into f h = record { first = f; holds = h; before = before.Nothing }

module _ (ts : List Tree) (w : Walk) (f : Option Refusal) (h : Bool) (is : w ≡ Into f h) where
  pub into_due : (ss us : List Stmt) (r : Option Refusal) → ss ≡ us → r ≡ joined w.first (first (due_next w.before (statements_at ts ss))) → r ≡ joined f (first (due_in false None (statements_at ts us)))
  into_due ss us r e k = k ∙ (λ i. joined (is i).first (first (due_next (is i).before (statements_at ts (e i)))))

  pub into_holds : (ss us : List Stmt) (r : Bool) → ss ≡ us → r ≡ (w.holds || holds (statements_at ts ss)) → r ≡ (h || holds (statements_at ts us))
  into_holds ss us r e k = k ∙ (λ i. (is i).holds || holds (statements_at ts (e i)))

  pub into_some : (bs us : List (Vec Stmt Global)) (r : Option Refusal) → bs ≡ us → r ≡ joined w.first (first (due_in_some (branches_at ts bs))) → r ≡ joined f (first (due_in_some (branches_at ts us)))
  into_some bs us r e k = k ∙ (λ i. joined (is i).first (first (due_in_some (branches_at ts (e i)))))

  pub into_holds_some : (bs us : List (Vec Stmt Global)) (r : Bool) → bs ≡ us → r ≡ (w.holds || holds_some (branches_at ts bs)) → r ≡ (h || holds_some (branches_at ts us))
  into_holds_some bs us r e k = k ∙ (λ i. (is i).holds || holds_some (branches_at ts (e i)))

pub out_behind : (new : Walk) (k : Before) (p : Partner) (r : Option Rule) → new.before ≡ k → IsBehind k p r → IsBehind new.before p r
out_behind new k p r e h = subst (λ (b : Before). IsBehind b p r) (sym e) h
