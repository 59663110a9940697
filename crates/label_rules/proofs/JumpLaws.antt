-- Jumps, calls and labels that may not be where they are, one statement after another.
use Rattle.std.proofs.Common.{◌≡◌, ℕ, ◌+◌, ◌<◌, ◌≤◌, Bool, false, ◌||◌, List, [], ◌∷◌, ◌++◌, length, drop, get_or, Vec, Global, refl, sym, ap, append-nil, ◌∙◌, bytes_eq, codes}
use Rattle.std.proofs.lemmas.List.{drop_more, drop_all}
use Rattle.tla_token.specs.declared.place.Place.{Place}
use Rattle.tla_token.specs.declared.rule.Rule.TheVariants.{LabelInside}
use Rattle.tla_token.specs.declared.rule.Refusal.{Refusal}
use Rattle.tla_tree.specs.Tree.{Tree}
use Rattle.tla_tree.specs.Pool.{at}
use Rattle.pcal_tree.specs.declared.algorithm.Span.{Span}
use Rattle.pcal_tree.specs.declared.algorithm.Bind.{Bind}
use Rattle.pcal_tree.specs.declared.algorithm.Simple as declared_simple
use Rattle.pcal_tree.specs.declared.algorithm.Simple.TheVariants as simple
use Rattle.pcal_tree.specs.declared.algorithm.Stmt.{Stmt}
use Rattle.pcal_tree.specs.declared.algorithm.Stmt.TheVariants.{Simple, If, Either, With, While}
use Rattle.pcal_tree.specs.Algorithm.{branch, either, with, while, Statements, then}
use Rattle.pcal_tree.specs.InMemory.{span_of, binds_at, simple_at, Before, stmt_at, statements_at, branches_at}
use Rattle.pcal_tree.specs.Offences.{offence_if}
use Rattle.pcal_tree.specs.OffencesLabels.{Within, within_with, label_words, labels, second_labels, misplaced, jump_offences_here, jump_offences_inside, jump_offences, jump_offences_of_some}
use Rattle.pcal_tree.proofs.InMemoryEach.{simple_in_list_at, if_at, either_at, with_at, while_at}
use Rattle.label_jumps.specs.declared.jumps.Body.{Body}
use Rattle.label_rules.specs.declared.labels.Labels.{Labels}
use Rattle.label_jumps.specs.Meeting.{is_met}
use Rattle.label_rules.specs.Meeting.{Meets}
use Rattle.label_jumps.specs.Standing.{Stands}
use Rattle.label_rules.proofs.AddedLaws.{added_then, added_before}
use Rattle.label_rules.proofs.MeetLaws.{all_met}

-- ---- statements with none in them

module _ (b : Body) (l : Bool) (w : Within) (s : Stands b l w) (at : Place) (found : List Refusal) where
  call_found : (r : List Refusal) → r ≡ found ++ offence_if b.in_macro LabelInside at → r ≡ found ++ offence_if w.macro LabelInside at
  call_found r h = h ∙ ap (λ (t : Bool). found ++ offence_if t LabelInside at) (sym s.macro)

none_inside : (ts : List Tree) (w : Within) (x : declared_simple.Simple) → jump_offences_inside w (simple_at ts x) ≡ []
none_inside ts w (simple.Assign ms) = refl
none_inside ts w (simple.Await e) = refl
none_inside ts w (simple.Print e) = refl
none_inside ts w (simple.Assert e) = refl
none_inside ts w simple.Skip = refl
none_inside ts w (simple.Goto x) = refl
none_inside ts w (simple.Macro x es) = refl
none_inside ts w (simple.Call x es) = refl
none_inside ts w simple.Return = refl

-- ---- each kind of statement, before the rest of its list

abbrev Jumps : Within → List Tree → List Stmt → List Refusal
Jumps w ts ss = jump_offences w (statements_at ts ss)

module _ (b : Body) (l : Bool) (w : Within) (s : Stands b l w) (ts : List Tree) (found : List Refusal) (rest : Statements) where
  before : (stmt : Stmt) (f : Before) → stmt_at ts stmt ≡ f → found ++ jump_offences w (f rest) ≡ found ++ jump_offences w (stmt_at ts stmt rest)
  before stmt f e = ap (λ (g : Before). found ++ jump_offences w (g rest)) (sym e)

  pub simple_jumps : (r : List Refusal) (p : Span) (x : declared_simple.Simple) → r ≡ found ++ jump_offences_here w p.first (simple_at ts x)
      → r ++ jump_offences w rest ≡ found ++ jump_offences w (stmt_at ts (Simple p x) rest)
  simple_jumps r p x h =
      added_before found r (jump_offences_here w p.first (simple_at ts x)) (jump_offences w rest) h
      ∙ ap (λ (rs : List Refusal). found ++ (jump_offences_here w p.first (simple_at ts x) ++ (rs ++ jump_offences w rest))) (sym (none_inside ts w x))
      ∙ before (Simple p x) (then (span_of p) (simple_at ts x)) (simple_in_list_at ts p x)

  pub if_jumps : (r q : List Refusal) (p : Span) (e : ℕ) (u v : Vec Stmt Global) → r ≡ found ++ Jumps w ts u.items → q ≡ r ++ Jumps w ts v.items
      → q ++ jump_offences w rest ≡ found ++ jump_offences w (stmt_at ts (If p e u v) rest)
  if_jumps r q p e u v h k =
      added_before found q (Jumps w ts u.items ++ Jumps w ts v.items) (jump_offences w rest) (added_then found r q (Jumps w ts u.items) (Jumps w ts v.items) h k)
      ∙ before (If p e u v) (then (span_of p) (branch (at ts e) (statements_at ts u.items) (statements_at ts v.items))) (if_at ts p e u v)

  pub either_jumps : (r : List Refusal) (p : Span) (bs : Vec (Vec Stmt Global) Global) → r ≡ found ++ jump_offences_of_some w (branches_at ts bs.items)
      → r ++ jump_offences w rest ≡ found ++ jump_offences w (stmt_at ts (Either p bs) rest)
  either_jumps r p bs h =
      added_before found r (jump_offences_of_some w (branches_at ts bs.items)) (jump_offences w rest) h ∙ before (Either p bs) (then (span_of p) (either (branches_at ts bs.items))) (either_at ts p bs)

  pub with_jumps : (r : List Refusal) (p : Span) (bs : Vec Bind Global) (u : Vec Stmt Global) → r ≡ found ++ Jumps (within_with w) ts u.items
      → r ++ jump_offences w rest ≡ found ++ jump_offences w (stmt_at ts (With p bs u) rest)
  with_jumps r p bs u h =
      added_before found r (Jumps (within_with w) ts u.items) (jump_offences w rest) h
      ∙ before (With p bs u) (then (span_of p) (with (binds_at ts bs.items) (statements_at ts u.items))) (with_at ts p bs u)

  pub while_jumps : (r q : List Refusal) (p : Span) (e : ℕ) (u : Vec Stmt Global) → r ≡ found ++ offence_if b.in_macro LabelInside p.first → q ≡ r ++ Jumps w ts u.items
      → q ++ jump_offences w rest ≡ found ++ jump_offences w (stmt_at ts (While p e u) rest)
  while_jumps r q p e u h k =
      added_then found r (q ++ jump_offences w rest) (offence_if w.macro LabelInside p.first) (Jumps w ts u.items ++ jump_offences w rest)
      (call_found b l w s p.first found r h) (added_before r q (Jumps w ts u.items) (jump_offences w rest) k)
      ∙ before (While p e u) (then (span_of p) (while (at ts e) (statements_at ts u.items))) (while_at ts p e u)

-- ---- lists: what is left of one

module _ (w : Within) (ts : List Tree) where
  pub stmt_more : (a r : List Refusal) (ss : List Stmt) (i : ℕ) (s : Stmt) → s ≡ get_or ss i s → i < length ss
      → ((rest : Statements) → r ++ jump_offences w rest ≡ a ++ jump_offences w (stmt_at ts s rest))
      → r ++ Jumps w ts (drop (i + 1) ss) ≡ a ++ Jumps w ts (drop i ss)
  stmt_more a r ss i s e less h =
      h (statements_at ts (drop (i + 1) ss))
      ∙ ap (λ (ys : List Stmt). a ++ Jumps w ts ys) (ap (λ (y : Stmt). y ∷ drop (i + 1) ss) e ∙ sym (drop_more ss i s less))

  pub stmts_done : (a : List Refusal) (ss : List Stmt) (i : ℕ) → length ss ≤ i → a ++ Jumps w ts (drop i ss) ≡ a
  stmts_done a ss i less = ap (λ (ys : List Stmt). a ++ Jumps w ts ys) (drop_all i ss less) ∙ append-nil a

  pub branch_more : (a r : List Refusal) (bs : List (Vec Stmt Global)) (i : ℕ) (b : Vec Stmt Global) → b ≡ get_or bs i b → i < length bs → r ≡ a ++ Jumps w ts b.items
      → r ++ jump_offences_of_some w (branches_at ts (drop (i + 1) bs)) ≡ a ++ jump_offences_of_some w (branches_at ts (drop i bs))
  branch_more a r bs i b e less h =
      added_before a r (Jumps w ts b.items) (jump_offences_of_some w (branches_at ts (drop (i + 1) bs))) h
      ∙ ap (λ (ys : List (Vec Stmt Global)). a ++ jump_offences_of_some w (branches_at ts ys)) (ap (λ (y : Vec Stmt Global). y ∷ drop (i + 1) bs) e ∙ sym (drop_more bs i b less))

  pub branches_done : (a : List Refusal) (bs : List (Vec Stmt Global)) (i : ℕ) → length bs ≤ i → a ++ jump_offences_of_some w (branches_at ts (drop i bs)) ≡ a
  branches_done a bs i less = ap (λ (ys : List (Vec Stmt Global)). a ++ jump_offences_of_some w (branches_at ts ys)) (drop_all i bs less) ∙ append-nil a

-- ---- a whole body

abbrev pub within : Bool → Bool → Statements → Within
within macro procedure b = record { macro = macro; with = false; procedure = procedure; targets = codes "Done" ∷ label_words b }

pub body_found : (macro procedure : Bool) (b : Statements) (j k : Labels) (body : Body) (found jumps r : List Refusal) → j.met ≡ [] → j.seconds.items ≡ [] → Meets j k (labels false b)
    → body ≡ record { in_macro = macro; in_procedure = procedure; labels = k.met }
    → ((w : Within) → Stands body false w → jumps ≡ found ++ jump_offences w b) → r ≡ jumps ++ k.seconds.items → r ≡ found ++ misplaced macro procedure b
body_found macro procedure b j k body found jumps r e h m is go last =
    let all = all_met j k (labels false b) e h m in
    let w = within macro procedure b in
    added_then found jumps r (jump_offences w b) (second_labels [] (labels false b))
    (go w (record {
      macro = ap (λ (z : Body). z.in_macro) (sym is);
      with = refl;
      procedure = ap (λ (z : Body). z.in_procedure) (sym is);
      targets = λ x. ap (λ (t : Bool). bytes_eq (codes "Done") x || t) (sym (all.0 x)) ∙ ap (λ (z : Body). bytes_eq (codes "Done") x || is_met z.labels x) (sym is);
    })) (last ∙ ap (λ (o : List Refusal). jumps ++ o) all.1)
