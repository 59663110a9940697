-- No offence passes a test in the parts of statements where none does in their lists of names, their expressions, themselves and their
-- labels, and the other way.
use Rattle.std.proofs.Common.{◌≡◌, List, ◌++◌, Bool, true, false, ◌||◌, ◌&&◌, not, codes, refl, sym, ap, ◌∙◌, append_assoc}
use Rattle.std.specs.List.{list_any, flat_map, AllByRecursion}
use Rattle.std.proofs.lemmas.Bool.{or_parts}
use Rattle.std.proofs.lemmas.List.Folds.{list_any-append}
use Rattle.std.proofs.lemmas.Grind.{flat_map-append}
use Rattle.tla_token.specs.declared.place.Place.{Place}
use Rattle.tla_token.specs.declared.rule.Rule.TheVariants.{NeedsModule}
use Rattle.tla_token.specs.declared.rule.Refusal.{Refusal}
use Rattle.tla_token.specs.Signs.{is_among}
use Rattle.tla_tree.specs.Tree.{Name, Word, Form, strict, operator, Tree, node, Trees, no_trees, tree}
use Rattle.tla_value.specs.StandardModules.{tlc_modules, sequence_modules, extends_one, is_member, is_last}
use Rattle.pcal_tree.specs.Algorithm.{Assignments, no_assignments, assignment, Binds, no_binds, one_of, is, Statement, assign, await, print, assert, skip, branch, either, with, while, goto, macro, call, return, Statements, done, then, mark, Branches, no_branches, or}
use Rattle.pcal_tree.specs.BoundNames.{lists_of, lists_in, lists_in_all, lists_in_assignments, lists_in_binds, lists_in_one, lists_in_body, lists_in_branches}
use Rattle.pcal_tree.specs.Expressions.{StatementAt, statements_inside, statements_in, statements_in_some, tree_list, expressions_of_assignments, expressions_of_binds, expressions_of}
use Rattle.pcal_tree.specs.Offences.{offence_if}
use Rattle.pcal_tree.specs.OffencesLabels.{Label, labels_of_one, labels as labels_in, labels_of_some}
use Rattle.pcal_tree.specs.OffencesModules.{sign_offences, strings_offences, text_offences, text_offences_in, statement_needs}
use Rattle.pcal_tree.specs.OffencesReserved.{reserved_label}
use Rattle.pcal_tree.proofs.SetLaws.{or_mixed, neither}
use Rattle.pcal_tree.proofs.OneStand.{every_both}
use Rattle.module_outside.specs.declared.modules.Modules.{Modules}
use Rattle.module_outside.specs.ModulesIn.{AreModules}
use Rattle.module_outside.proofs.ModuleLaws.{operators_given}
use Rattle.declared_rules.specs.Parts.{Part, expression, in_trees, in_assignments, in_binds, in_one, in_body, in_branches}
use Rattle.declared_rules.specs.Finding.{list_offences, sign_in, node_offences, tree_offences, trees_offences, part_offences}
use Rattle.declared_rules.proofs.EachLaws.{every_split, none_each, each_none}

or_none : (a b : Bool) → a ≡ b → (a || false) ≡ b
or_none true b e = e
or_none false b e = e

module _ (f : Refusal → Bool) (m : Modules) (ms : List Word) (h : AreModules m ms) where
  abbrev pub None : List Refusal → Type 0
  None rs = list_any f rs ≡ false

  -- ---- expressions

  sign_same : (g : Form) (p : Place) → sign_in m g p ≡ sign_offences ms g p
  sign_same (strict (operator o)) p = ap (λ (b : Bool). offence_if (not b) NeedsModule p) (operators_given m ms h o)
  sign_same g p = refl

  abbrev any : List Refusal → Bool
  any rs = list_any f rs

  abbrev of_lists : List (List Name) → List Refusal
  of_lists xss = flat_map (list_offences m) xss

  mutual
    tree_any : (right : Bool) (t : Tree) → any (tree_offences m right t) ≡ (any (of_lists (lists_in t)) || any (text_offences ms right t))
    tree_any right (node g p ts) =
        list_any-append f (node_offences m right g p) (trees_offences m (is_member g) ts)
        ∙ (λ i. list_any-append f (of_lists (lists_of g)) (sign_in m g p ++ strings_offences right g p) i || trees_any (is_member g) ts i)
        ∙ or_mixed (any (of_lists (lists_of g))) (any (sign_in m g p ++ strings_offences right g p)) (any (of_lists (lists_in_all ts))) (any (text_offences_in ms (is_member g) ts))
        ∙ (λ i. (sym (list_any-append f (of_lists (lists_of g)) (of_lists (lists_in_all ts))) ∙ ap any (sym (flat_map-append (list_offences m) (lists_of g) (lists_in_all ts)))) i
        || (sym (list_any-append f (sign_in m g p ++ strings_offences right g p) (text_offences_in ms (is_member g) ts))
        ∙ ap any (append_assoc (sign_in m g p) (strings_offences right g p) (text_offences_in ms (is_member g) ts))
        ∙ ap (λ (rs : List Refusal). any (rs ++ (strings_offences right g p ++ text_offences_in ms (is_member g) ts))) (sign_same g p)) i)

    trees_any : (right : Bool) (ts : Trees) → any (trees_offences m right ts) ≡ (any (of_lists (lists_in_all ts)) || any (text_offences_in ms right ts))
    trees_any right no_trees = refl
    trees_any right (tree t ts) =
        list_any-append f (tree_offences m (right && is_last ts) t) (trees_offences m right ts)
        ∙ (λ i. tree_any (right && is_last ts) t i || trees_any right ts i)
        ∙ or_mixed (any (of_lists (lists_in t))) (any (text_offences ms (right && is_last ts) t)) (any (of_lists (lists_in_all ts))) (any (text_offences_in ms right ts))
        ∙ (λ i. (sym (list_any-append f (of_lists (lists_in t)) (of_lists (lists_in_all ts))) ∙ ap any (sym (flat_map-append (list_offences m) (lists_in t) (lists_in_all ts)))) i
        || sym (list_any-append f (text_offences ms (right && is_last ts) t) (text_offences_in ms right ts)) i)

  -- ---- what is clean

  abbrev pub CleanList : List Name → Type 0
  CleanList ns = None (list_offences m ns)

  abbrev pub CleanText : Tree → Type 0
  CleanText t = None (text_offences ms false t)

  abbrev pub CleanPart : Part → Type 0
  CleanPart x = None (part_offences m x)

  abbrev pub CleanStatement : StatementAt → Type 0
  CleanStatement st = AllByRecursion CleanText (expressions_of st.statement) × None (statement_needs ms st.statement st.place)

  abbrev pub CleanLabel : Label → Type 0
  CleanLabel l = None (reserved_label l)

  abbrev pub CleanTree : Tree → Type 0
  CleanTree t = AllByRecursion CleanList (lists_in t) × CleanText t

  abbrev CleanOne : Place → Statement → Type 0
  CleanOne p st =
      AllByRecursion CleanList (lists_in_one st) × (CleanStatement (record { place = p; statement = st }) × (AllByRecursion CleanStatement (statements_inside st) × AllByRecursion CleanLabel (labels_of_one st)))

  abbrev pub CleanBody : Bool → Statements → Type 0
  CleanBody l b = AllByRecursion CleanList (lists_in_body b) × (AllByRecursion CleanStatement (statements_in b) × AllByRecursion CleanLabel (labels_in l b))

  abbrev CleanBranches : Branches → Type 0
  CleanBranches bs = AllByRecursion CleanList (lists_in_branches bs) × (AllByRecursion CleanStatement (statements_in_some bs) × AllByRecursion CleanLabel (labels_of_some bs))

  pub to_tree : (t : Tree) → CleanPart (expression t) → CleanTree t
  to_tree t k = let q = or_parts (any (of_lists (lists_in t))) (any (text_offences ms false t)) (sym (tree_any false t) ∙ k) in (none_each f (list_offences m) (lists_in t) q.0, q.1)

  pub of_tree : (t : Tree) → CleanTree t → CleanPart (expression t)
  of_tree t k = tree_any false t ∙ neither (each_none f (list_offences m) (lists_in t) k.0) k.1

  tlc_same : extends_one ms tlc_modules ≡ m.tlc
  tlc_same = or_none (is_among ms (codes "TLC")) m.tlc h.tlc

  prints_same : (p : Place) → list_any f (offence_if (not (extends_one ms tlc_modules)) NeedsModule p) ≡ list_any f (offence_if (not m.tlc) NeedsModule p)
  prints_same p = ap (λ (b : Bool). list_any f (offence_if (not b) NeedsModule p)) tlc_same

  sequences_same : extends_one ms sequence_modules ≡ m.sequences
  sequences_same = or_none (is_among ms (codes "Sequences")) m.sequences h.sequences

  pub stacks_same : (p : Place) → list_any f (offence_if (not (extends_one ms sequence_modules)) NeedsModule p) ≡ list_any f (offence_if (not m.sequences) NeedsModule p)
  stacks_same p = ap (λ (b : Bool). list_any f (offence_if (not b) NeedsModule p)) sequences_same

  -- ---- from parts

  to_trees : (ts : Trees) → AllByRecursion CleanPart (in_trees ts) → AllByRecursion CleanList (lists_in_all ts) × AllByRecursion CleanText (tree_list ts)
  to_trees no_trees k = (tt, tt)
  to_trees (tree t ts) k = let q = to_tree t k.0 in let r = to_trees ts k.1 in (every_both CleanList (lists_in t) (lists_in_all ts) q.0 r.0, (q.1, r.1))

  to_assignments : (xs : Assignments) → AllByRecursion CleanPart (in_assignments xs) → AllByRecursion CleanList (lists_in_assignments xs) × AllByRecursion CleanText (expressions_of_assignments xs)
  to_assignments no_assignments k = (tt, tt)
  to_assignments (assignment l e xs) k =
      let q = to_tree l k.0 in let r = to_tree e k.1.0 in let s = to_assignments xs k.1.1 in
      (every_both CleanList (lists_in l) (lists_in e ++ lists_in_assignments xs) q.0 (every_both CleanList (lists_in e) (lists_in_assignments xs) r.0 s.0), (q.1, (r.1, s.1)))

  to_binds : (bs : Binds) → AllByRecursion CleanPart (in_binds bs) → AllByRecursion CleanList (lists_in_binds bs) × AllByRecursion CleanText (expressions_of_binds bs)
  to_binds no_binds k = (tt, tt)
  to_binds (one_of x e bs) k = let q = to_tree e k.0 in let r = to_binds bs k.1 in (every_both CleanList (lists_in e) (lists_in_binds bs) q.0 r.0, (q.1, r.1))
  to_binds (is x e bs) k = let q = to_tree e k.0 in let r = to_binds bs k.1 in (every_both CleanList (lists_in e) (lists_in_binds bs) q.0 r.0, (q.1, r.1))

  mutual
    to_one : (p : Place) (st : Statement) → AllByRecursion CleanPart (in_one p st) → CleanOne p st
    to_one p (assign xs) k = let q = to_assignments xs k in (q.0, ((q.1, refl), (tt, tt)))
    to_one p (await e) k = let q = to_tree e k.0 in (q.0, (((q.1, tt), refl), (tt, tt)))
    to_one p (print e) k = let q = to_tree e k.0 in (q.0, (((q.1, tt), prints_same p ∙ k.1.0), (tt, tt)))
    to_one p (assert e) k = let q = to_tree e k.0 in (q.0, (((q.1, tt), prints_same p ∙ k.1.0), (tt, tt)))
    to_one p skip k = (tt, ((tt, refl), (tt, tt)))
    to_one p (branch e a b) k =
        let q = to_tree e k.0 in
        let s = every_split CleanPart (in_body a) (in_body b) k.1 in
        let u = to_body false a s.0 in
        let v = to_body false b s.1 in (
          every_both CleanList (lists_in e) (lists_in_body a ++ lists_in_body b) q.0 (every_both CleanList (lists_in_body a) (lists_in_body b) u.0 v.0),
          (((q.1, tt), refl), (every_both CleanStatement (statements_in a) (statements_in b) u.1.0 v.1.0, every_both CleanLabel (labels_in false a) (labels_in false b) u.1.1 v.1.1)),
        )
    to_one p (either bs) k = let u = to_branches bs k in (u.0, ((tt, refl), u.1))
    to_one p (with bs b) k =
        let s = every_split CleanPart (in_binds bs) (in_body b) k.1.1 in
        let q = to_binds bs s.0 in
        let v = to_body false b s.1 in
        ((k.0, every_both CleanList (lists_in_binds bs) (lists_in_body b) q.0 v.0), ((q.1, refl), v.1))
    to_one p (while e b) k =
        let q = to_tree e k.0 in let v = to_body false b k.1 in (every_both CleanList (lists_in e) (lists_in_body b) q.0 v.0, (((q.1, tt), refl), v.1))
    to_one p (goto l) k = (tt, ((tt, refl), (tt, tt)))
    to_one p (macro x ts) k = let q = to_trees ts k in (q.0, ((q.1, refl), (tt, tt)))
    to_one p (call x ts) k = let q = to_trees ts k in (q.0, ((q.1, refl), (tt, tt)))
    to_one p return k = (tt, ((tt, refl), (tt, tt)))

    pub to_body : (l : Bool) (b : Statements) → AllByRecursion CleanPart (in_body b) → CleanBody l b
    to_body l done k = (tt, (tt, tt))
    to_body l (then s st rest) k =
        let q = every_split CleanPart (in_one s.first st) (in_body rest) k in
        let u = to_one s.first st q.0 in
        let v = to_body false rest q.1 in (
          every_both CleanList (lists_in_one st) (lists_in_body rest) u.0 v.0,
          ((u.1.0, every_both CleanStatement (statements_inside st) (statements_in rest) u.1.1.0 v.1.0), every_both CleanLabel (labels_of_one st) (labels_in false rest) u.1.1.1 v.1.1),
        )
    to_body l (mark n x rest) k = let v = to_body true rest k.1 in (v.0, (v.1.0, (k.0, v.1.1)))

    to_branches : (bs : Branches) → AllByRecursion CleanPart (in_branches bs) → CleanBranches bs
    to_branches no_branches k = (tt, (tt, tt))
    to_branches (or b bs) k =
        let q = every_split CleanPart (in_body b) (in_branches bs) k in
        let u = to_body false b q.0 in
        let v = to_branches bs q.1 in (
          every_both CleanList (lists_in_body b) (lists_in_branches bs) u.0 v.0,
          (every_both CleanStatement (statements_in b) (statements_in_some bs) u.1.0 v.1.0, every_both CleanLabel (labels_in false b) (labels_of_some bs) u.1.1 v.1.1),
        )

  -- ---- to parts

  of_trees : (ts : Trees) → AllByRecursion CleanList (lists_in_all ts) → AllByRecursion CleanText (tree_list ts) → AllByRecursion CleanPart (in_trees ts)
  of_trees no_trees l k = tt
  of_trees (tree t ts) l k = let q = every_split CleanList (lists_in t) (lists_in_all ts) l in (of_tree t (q.0, k.0), of_trees ts q.1 k.1)

  of_assignments : (xs : Assignments) → AllByRecursion CleanList (lists_in_assignments xs) → AllByRecursion CleanText (expressions_of_assignments xs) → AllByRecursion CleanPart (in_assignments xs)
  of_assignments no_assignments l k = tt
  of_assignments (assignment t e xs) l k =
      let q = every_split CleanList (lists_in t) (lists_in e ++ lists_in_assignments xs) l in
      let r = every_split CleanList (lists_in e) (lists_in_assignments xs) q.1 in
      (of_tree t (q.0, k.0), (of_tree e (r.0, k.1.0), of_assignments xs r.1 k.1.1))

  of_binds : (bs : Binds) → AllByRecursion CleanList (lists_in_binds bs) → AllByRecursion CleanText (expressions_of_binds bs) → AllByRecursion CleanPart (in_binds bs)
  of_binds no_binds l k = tt
  of_binds (one_of x e bs) l k = let q = every_split CleanList (lists_in e) (lists_in_binds bs) l in (of_tree e (q.0, k.0), of_binds bs q.1 k.1)
  of_binds (is x e bs) l k = let q = every_split CleanList (lists_in e) (lists_in_binds bs) l in (of_tree e (q.0, k.0), of_binds bs q.1 k.1)

  mutual
    of_one : (p : Place) (st : Statement) → CleanOne p st → AllByRecursion CleanPart (in_one p st)
    of_one p (assign xs) k = of_assignments xs k.0 k.1.0.0
    of_one p (await e) k = (of_tree e (k.0, k.1.0.0.0), tt)
    of_one p (print e) k = (of_tree e (k.0, k.1.0.0.0), (sym (prints_same p) ∙ k.1.0.1, tt))
    of_one p (assert e) k = (of_tree e (k.0, k.1.0.0.0), (sym (prints_same p) ∙ k.1.0.1, tt))
    of_one p skip k = tt
    of_one p (branch e a b) k =
        let q = every_split CleanList (lists_in e) (lists_in_body a ++ lists_in_body b) k.0 in
        let r = every_split CleanList (lists_in_body a) (lists_in_body b) q.1 in
        let s = every_split CleanStatement (statements_in a) (statements_in b) k.1.1.0 in
        let t = every_split CleanLabel (labels_in false a) (labels_in false b) k.1.1.1 in
        (of_tree e (q.0, k.1.0.0.0), every_both CleanPart (in_body a) (in_body b) (of_body false a (r.0, (s.0, t.0))) (of_body false b (r.1, (s.1, t.1))))
    of_one p (either bs) k = of_branches bs (k.0, k.1.1)
    of_one p (with bs b) k =
        let q = every_split CleanList (lists_in_binds bs) (lists_in_body b) k.0.1 in
        (k.0.0, (refl, every_both CleanPart (in_binds bs) (in_body b) (of_binds bs q.0 k.1.0.0) (of_body false b (q.1, k.1.1))))
    of_one p (while e b) k = let q = every_split CleanList (lists_in e) (lists_in_body b) k.0 in (of_tree e (q.0, k.1.0.0.0), of_body false b (q.1, k.1.1))
    of_one p (goto l) k = tt
    of_one p (macro x ts) k = of_trees ts k.0 k.1.0.0
    of_one p (call x ts) k = of_trees ts k.0 k.1.0.0
    of_one p return k = tt

    pub of_body : (l : Bool) (b : Statements) → CleanBody l b → AllByRecursion CleanPart (in_body b)
    of_body l done k = tt
    of_body l (then s st rest) k =
        let q = every_split CleanList (lists_in_one st) (lists_in_body rest) k.0 in
        let r = every_split CleanStatement (statements_inside st) (statements_in rest) k.1.0.1 in
        let t = every_split CleanLabel (labels_of_one st) (labels_in false rest) k.1.1 in
        every_both CleanPart (in_one s.first st) (in_body rest) (of_one s.first st (q.0, (k.1.0.0, (r.0, t.0)))) (of_body false rest (q.1, (r.1, t.1)))
    of_body l (mark n x rest) k = (k.1.1.0, of_body true rest (k.0, (k.1.0, k.1.1.1)))

    of_branches : (bs : Branches) → CleanBranches bs → AllByRecursion CleanPart (in_branches bs)
    of_branches no_branches k = tt
    of_branches (or b bs) k =
        let q = every_split CleanList (lists_in_body b) (lists_in_branches bs) k.0 in
        let r = every_split CleanStatement (statements_in b) (statements_in_some bs) k.1.0 in
        let t = every_split CleanLabel (labels_in false b) (labels_of_some bs) k.1.1 in
        every_both CleanPart (in_body b) (in_branches bs) (of_body false b (q.0, (r.0, t.0))) (of_branches bs (q.1, (r.1, t.1)))
