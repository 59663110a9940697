-- Jumps, calls and labels that may not be where they are, one statement after another.
use Rattle.std.proofs.Common.{◌≡◌, ℕ, ◌+◌, ◌<◌, ◌≤◌, Bool, true, false, ◌||◌, not, List, [], ◌∷◌, ◌++◌, length, map, drop, get_or, Option, None, Vec, Global, refl, sym, ap, ◌∙◌, bytes_eq, codes}
use Rattle.std.specs.List.{flat_map}
use Rattle.std.proofs.lemmas.List.{drop_more, drop_all}
use Rattle.tla_token.specs.declared.place.Place.{Place}
use Rattle.tla_token.specs.declared.rule.Rule.TheVariants.{LabelInside, UnknownLabel, ReturnOutside}
use Rattle.tla_token.specs.declared.rule.Refusal.{Refusal}
use Rattle.tla_token.specs.Signs.{is_among}
use Rattle.tla_tree.specs.Tree.{Name, Word, Tree}
use Rattle.tla_tree.specs.Pool.{at}
use Rattle.pcal_tree.specs.declared.mark.Mark.{Mark}
use Rattle.pcal_tree.specs.declared.algorithm.Span.{Span}
use Rattle.pcal_tree.specs.declared.algorithm.Bind.{Bind}
use Rattle.pcal_tree.specs.declared.algorithm.Simple as declared_simple
use Rattle.pcal_tree.specs.declared.algorithm.Simple.TheVariants as simple
use Rattle.pcal_tree.specs.declared.algorithm.Stmt.{Stmt}
use Rattle.pcal_tree.specs.declared.algorithm.Stmt.TheVariants.{Label, Simple, If, Either, With, While}
use Rattle.pcal_tree.specs.declared.algorithm.Algorithm as code
use Rattle.pcal_tree.specs.Algorithm as tree
use Rattle.pcal_tree.specs.Algorithm.{branch, either, with, while, goto, call, return, Statements, then, mark}
use Rattle.pcal_tree.specs.InMemory.{span_of, binds_at, simple_at, Before, stmt_at, statements_at, branches_at, macro_at, procedure_at, main_at, algorithm_at}
use Rattle.pcal_tree.specs.Offences.{offence_if, first}
use Rattle.pcal_tree.specs.OffencesLabels.{Within, within_with, label_words, labels, second_labels, misplaced, jump_offences_here, jump_offences_inside, jump_offences, jump_offences_of_some}
use Rattle.pcal_tree.proofs.InMemoryEach.{label_at, simple_in_list_at, if_at, either_at, with_at, while_at}
use Rattle.algorithm_answer.specs.Joined.{joined}
use Rattle.algorithm_answer.proofs.Joins.{joined_none}
use Rattle.label_jumps.specs.declared.jumps.Body.{Body}
use Rattle.label_jumps.specs.declared.labels.Labels.{Labels}
use Rattle.label_jumps.specs.Meeting.{is_met, Meets}
use Rattle.label_jumps.specs.Parted.{misplaced_in_main, misplaced_in}
use Rattle.label_jumps.specs.Standing.{Stands}
use Rattle.label_jumps.proofs.FoundLaws.{found_then, found_before}
use Rattle.label_jumps.proofs.MeetLaws.{all_met}

pub stands_in_with : (b : Body) (l : Bool) (w : Within) → Stands b l w → Stands b true (within_with w)
stands_in_with b l w s = record { macro = s.macro; with = refl; procedure = s.procedure; targets = s.targets }

-- ---- statements with none in them

module _ (b : Body) (l : Bool) (w : Within) (s : Stands b l w) (at : Place) (found : Option Refusal) where
  inside : (r : Option Refusal) → r ≡ joined found (first (offence_if b.in_macro LabelInside at)) → r ≡ joined found (first (offence_if w.macro LabelInside at))
  inside r h = h ∙ ap (λ (t : Bool). joined found (first (offence_if t LabelInside at))) (sym s.macro)

  pub call_found : (r : Option Refusal) → r ≡ joined found (first (offence_if b.in_macro LabelInside at)) → r ≡ joined found (first (offence_if w.macro LabelInside at))
  call_found r h = inside r h

  pub goto_found : (r q : Option Refusal) (t : Bool) (n : Word) → r ≡ joined found (first (offence_if b.in_macro LabelInside at)) → t ≡ (bytes_eq (codes "Done") n || is_met b.labels n)
      → q ≡ joined r (first (offence_if (not t) UnknownLabel at)) → q ≡ joined found (first (jump_offences_here w at (goto n)))
  goto_found r q t n h e k =
      found_then found r q (offence_if w.macro LabelInside at) (offence_if (not (is_among w.targets n)) UnknownLabel at) (inside r h)
      (k ∙ ap (λ (u : Bool). joined r (first (offence_if (not u) UnknownLabel at))) (e ∙ sym (s.targets n)))

  pub return_found : (r q : Option Refusal) → r ≡ joined found (first (offence_if b.in_macro LabelInside at)) → q ≡ joined r (first (offence_if (not b.in_procedure) ReturnOutside at))
      → q ≡ joined found (first (jump_offences_here w at return))
  return_found r q h k =
      found_then found r q (offence_if w.macro LabelInside at) (offence_if (not w.procedure) ReturnOutside at) (inside r h)
      (k ∙ ap (λ (u : Bool). joined r (first (offence_if (not u) ReturnOutside at))) (sym s.procedure))

none_inside : (ts : List Tree) (w : Within) (x : declared_simple.Simple) → jump_offences_inside w (simple_at ts x) ≡ []
none_inside ts w (simple.Assign ms) = refl
none_inside ts w (simple.Await e) = refl
none_inside ts w (simple.Print e) = refl
none_inside ts w (simple.Assert e) = refl
none_inside ts w simple.Skip = refl
none_inside ts w (simple.Goto x) = refl
none_inside ts w (simple.Macro x es) = refl
none_inside ts w (simple.Call x es) = refl
none_inside ts w simple.Return = refl

-- ---- each kind of statement, before the rest of its list

abbrev Jumps : Within → List Tree → List Stmt → List Refusal
Jumps w ts ss = jump_offences w (statements_at ts ss)

module _ (b : Body) (l : Bool) (w : Within) (s : Stands b l w) (ts : List Tree) (found : Option Refusal) (rest : Statements) where
  before : (stmt : Stmt) (f : Before) → stmt_at ts stmt ≡ f → joined found (first (jump_offences w (f rest))) ≡ joined found (first (jump_offences w (stmt_at ts stmt rest)))
  before stmt f e = ap (λ (g : Before). joined found (first (jump_offences w (g rest)))) (sym e)

  pub label_jumps : (r : Option Refusal) (x : Name) (m : Mark) → r ≡ joined found (first (offence_if (b.in_macro || l) LabelInside x.place))
      → joined r (first (jump_offences w rest)) ≡ joined found (first (jump_offences w (stmt_at ts (Label x m) rest)))
  label_jumps r x m h =
      found_before found r (offence_if (w.macro || w.with) LabelInside x.place) (jump_offences w rest)
      (h ∙ (λ i. joined found (first (offence_if (sym s.macro i || sym s.with i) LabelInside x.place)))) ∙ before (Label x m) (mark x m) (label_at ts x m)

  pub simple_jumps : (r : Option Refusal) (p : Span) (x : declared_simple.Simple) → r ≡ joined found (first (jump_offences_here w p.first (simple_at ts x)))
      → joined r (first (jump_offences w rest)) ≡ joined found (first (jump_offences w (stmt_at ts (Simple p x) rest)))
  simple_jumps r p x h =
      found_before found r (jump_offences_here w p.first (simple_at ts x)) (jump_offences w rest) h
      ∙ ap (λ (rs : List Refusal). joined found (first (jump_offences_here w p.first (simple_at ts x) ++ (rs ++ jump_offences w rest)))) (sym (none_inside ts w x))
      ∙ before (Simple p x) (then (span_of p) (simple_at ts x)) (simple_in_list_at ts p x)

  pub if_jumps : (r q : Option Refusal) (p : Span) (e : ℕ) (u v : Vec Stmt Global) → r ≡ joined found (first (Jumps w ts u.items)) → q ≡ joined r (first (Jumps w ts v.items))
      → joined q (first (jump_offences w rest)) ≡ joined found (first (jump_offences w (stmt_at ts (If p e u v) rest)))
  if_jumps r q p e u v h k =
      found_before found q (Jumps w ts u.items ++ Jumps w ts v.items) (jump_offences w rest) (found_then found r q (Jumps w ts u.items) (Jumps w ts v.items) h k)
      ∙ before (If p e u v) (then (span_of p) (branch (at ts e) (statements_at ts u.items) (statements_at ts v.items))) (if_at ts p e u v)

  pub either_jumps : (r : Option Refusal) (p : Span) (bs : Vec (Vec Stmt Global) Global) → r ≡ joined found (first (jump_offences_of_some w (branches_at ts bs.items)))
      → joined r (first (jump_offences w rest)) ≡ joined found (first (jump_offences w (stmt_at ts (Either p bs) rest)))
  either_jumps r p bs h =
      found_before found r (jump_offences_of_some w (branches_at ts bs.items)) (jump_offences w rest) h ∙ before (Either p bs) (then (span_of p) (either (branches_at ts bs.items))) (either_at ts p bs)

  pub with_jumps : (r : Option Refusal) (p : Span) (bs : Vec Bind Global) (u : Vec Stmt Global) → r ≡ joined found (first (Jumps (within_with w) ts u.items))
      → joined r (first (jump_offences w rest)) ≡ joined found (first (jump_offences w (stmt_at ts (With p bs u) rest)))
  with_jumps r p bs u h =
      found_before found r (Jumps (within_with w) ts u.items) (jump_offences w rest) h
      ∙ before (With p bs u) (then (span_of p) (with (binds_at ts bs.items) (statements_at ts u.items))) (with_at ts p bs u)

  pub while_jumps : (r q : Option Refusal) (p : Span) (e : ℕ) (u : Vec Stmt Global) → r ≡ joined found (first (offence_if b.in_macro LabelInside p.first)) → q ≡ joined r (first (Jumps w ts u.items))
      → joined q (first (jump_offences w rest)) ≡ joined found (first (jump_offences w (stmt_at ts (While p e u) rest)))
  while_jumps r q p e u h k =
      found_then found r (joined q (first (jump_offences w rest))) (offence_if w.macro LabelInside p.first) (Jumps w ts u.items ++ jump_offences w rest)
      (call_found b l w s p.first found r h) (found_before r q (Jumps w ts u.items) (jump_offences w rest) k)
      ∙ before (While p e u) (then (span_of p) (while (at ts e) (statements_at ts u.items))) (while_at ts p e u)

-- ---- lists: what is left of one

module _ (w : Within) (ts : List Tree) where
  pub stmt_more : (a r : Option Refusal) (ss : List Stmt) (i : ℕ) (s : Stmt) → s ≡ get_or ss i s → i < length ss
      → ((rest : Statements) → joined r (first (jump_offences w rest)) ≡ joined a (first (jump_offences w (stmt_at ts s rest))))
      → joined r (first (Jumps w ts (drop (i + 1) ss))) ≡ joined a (first (Jumps w ts (drop i ss)))
  stmt_more a r ss i s e less h =
      h (statements_at ts (drop (i + 1) ss))
      ∙ ap (λ (ys : List Stmt). joined a (first (Jumps w ts ys))) (ap (λ (y : Stmt). y ∷ drop (i + 1) ss) e ∙ sym (drop_more ss i s less))

  pub stmts_done : (a : Option Refusal) (ss : List Stmt) (i : ℕ) → length ss ≤ i → joined a (first (Jumps w ts (drop i ss))) ≡ a
  stmts_done a ss i less = ap (λ (ys : List Stmt). joined a (first (Jumps w ts ys))) (drop_all i ss less) ∙ joined_none a

  pub branch_more : (a r : Option Refusal) (bs : List (Vec Stmt Global)) (i : ℕ) (b : Vec Stmt Global) → b ≡ get_or bs i b → i < length bs → r ≡ joined a (first (Jumps w ts b.items))
      → joined r (first (jump_offences_of_some w (branches_at ts (drop (i + 1) bs)))) ≡ joined a (first (jump_offences_of_some w (branches_at ts (drop i bs))))
  branch_more a r bs i b e less h =
      found_before a r (Jumps w ts b.items) (jump_offences_of_some w (branches_at ts (drop (i + 1) bs))) h
      ∙ ap (λ (ys : List (Vec Stmt Global)). joined a (first (jump_offences_of_some w (branches_at ts ys)))) (ap (λ (y : Vec Stmt Global). y ∷ drop (i + 1) bs) e ∙ sym (drop_more bs i b less))

  pub branches_done : (a : Option Refusal) (bs : List (Vec Stmt Global)) (i : ℕ) → length bs ≤ i → joined a (first (jump_offences_of_some w (branches_at ts (drop i bs)))) ≡ a
  branches_done a bs i less = ap (λ (ys : List (Vec Stmt Global)). joined a (first (jump_offences_of_some w (branches_at ts ys)))) (drop_all i bs less) ∙ joined_none a

-- ---- a whole body

abbrev pub within : Bool → Bool → Statements → Within
within macro procedure b = record { macro = macro; with = false; procedure = procedure; targets = codes "Done" ∷ label_words b }

pub body_found : (macro procedure : Bool) (b : Statements) (j k : Labels) (body : Body) (found jumps r : Option Refusal) → j.met ≡ [] → j.first ≡ None → Meets j k (labels false b)
    → body ≡ record { in_macro = macro; in_procedure = procedure; labels = k.met }
    → ((w : Within) → Stands body false w → jumps ≡ joined found (first (jump_offences w b))) → r ≡ joined jumps k.first → r ≡ joined found (first (misplaced macro procedure b))
body_found macro procedure b j k body found jumps r e h m is go last =
    let all = all_met j k (labels false b) e h m in
    let w = within macro procedure b in
    found_then found jumps r (jump_offences w b) (second_labels [] (labels false b))
    (go w (record {
      macro = ap (λ (z : Body). z.in_macro) (sym is);
      with = refl;
      procedure = ap (λ (z : Body). z.in_procedure) (sym is);
      targets = λ x. ap (λ (t : Bool). bytes_eq (codes "Done") x || t) (sym (all.0 x)) ∙ ap (λ (z : Body). bytes_eq (codes "Done") x || is_met z.labels x) (sym is);
    })) (last ∙ ap (joined jumps) all.1)

-- ---- a whole algorithm

pub whole_found : (ts : List Tree) (a : code.Algorithm) (m p r : Option Refusal) → m ≡ first (flat_map (λ (d : tree.Macro). misplaced true false d.body) (map (macro_at ts) a.macros.items))
    → p ≡ joined m (first (flat_map (λ (q : tree.Procedure). misplaced false true q.body) (map (procedure_at ts) a.procedures.items))) → r ≡ joined p (first (misplaced_in_main (main_at ts a.main)))
    → r ≡ first (misplaced_in (algorithm_at ts a))
whole_found ts a m p r h k l =
    let ms = flat_map (λ (d : tree.Macro). misplaced true false d.body) (map (macro_at ts) a.macros.items) in
    let ps = flat_map (λ (q : tree.Procedure). misplaced false true q.body) (map (procedure_at ts) a.procedures.items) in
    let main = misplaced_in_main (main_at ts a.main) in
    found_then None m r ms (ps ++ main) h (found_then m p r ps main k l)
