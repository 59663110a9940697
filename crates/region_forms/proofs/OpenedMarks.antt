-- Bodies with their macro calls written out have the same marked labels and call the same procedures, where macros have no labels and no calls.
use Rattle.std.proofs.Common.{◌≡◌, List, [], ◌∷◌, ◌++◌, reverse, Bool, true, false, cond, bytes_eq, codes, inl, inr, refl, ◌∙◌, ap}
use Rattle.std.specs.List.{flat_map}
use Rattle.tla_token.specs.declared.place.Place.{Place}
use Rattle.tla_tree.specs.Tree.{Word, Trees, Graft}
use Rattle.pcal_tree.specs.Algorithm.{Span, Statement, assign, await, print, assert, skip, branch, either, with, while, goto, macro, call, return, Statements, done, then, mark, Branches, no_branches, or, Macro, Algorithm}
use Rattle.pcal_tree.specs.Expand.{graft_one, graft_all, graft_some, followed_by, Writing, expand_one, expand, expand_some, written_out, expanded}
use Rattle.pcal_tree.specs.OffencesLabels.{jump_offences_here, jump_offences_inside, jump_offences, jump_offences_of_some, label_words}
use Rattle.pcal_tree.specs.Processes.{OneOf}
use Rattle.pcal_tree.specs.Run.{arguments}
use Rattle.pcal_tree.specs.laws.Expansion.{BareOne, Bare, BareSome}
use Rattle.pcal_tree.proofs.ClearLabels.{nothing_left, nothing_right}
use Rattle.pcal_tree.proofs.PlainMacros.{in_body, plain}
use Rattle.pcal_tree.proofs.StepVariables.{one_reverse}
use Rattle.fairness.specs.MarkedLabels.{Marked, marked_in, marked, marked_some, left_out_labels, strong_labels, if_left_out, if_strong}
use Rattle.fairness.specs.ReachedProcedures.{calls_in, calls, calls_some}
use Rattle.step_forms.specs.Opened.{IsOpenable}
use Rattle.step_forms.proofs.OpenedBodies.{WritesBare, openable_bare}

-- ---- marked labels

mutual
  no_marks_in : (st : Statement) → BareOne st → marked_in st ≡ []
  no_marks_in (branch e a b) h = λ i. no_marks a h.0 i ++ no_marks b h.1 i
  no_marks_in (either bs) h = no_marks_some bs h
  no_marks_in (with bs b) h = no_marks b h
  no_marks_in (while e b) h = no_marks b h
  no_marks_in _ h = refl

  no_marks : (ss : Statements) → Bare ss → marked ss ≡ []
  no_marks done h = refl
  no_marks (then at st rest) h = λ i. no_marks_in st h.0 i ++ no_marks rest h.1 i
  no_marks (mark m k rest) h = absurd h

  no_marks_some : (bs : Branches) → BareSome bs → marked_some bs ≡ []
  no_marks_some no_branches h = refl
  no_marks_some (or b bs) h = λ i. no_marks b h.0 i ++ no_marks_some bs h.1 i

marks_joined : (a b : Statements) → Bare a → marked (followed_by a b) ≡ marked b
marks_joined done b h = refl
marks_joined (then at st a) b h = λ i. no_marks_in st h.0 i ++ marks_joined a b h.1 i
marks_joined (mark m k a) b h = absurd h

module _ (X : Writing) (w : WritesBare X) where
  mutual
    marks_opened_in : (at : Span) (st : Statement) (rest : Statements) → marked (expand_one X at st rest) ≡ marked_in st ++ marked rest
    marks_opened_in at (macro m ts) rest = marks_joined (X at m ts) rest (w at m ts tt).1
    marks_opened_in at (branch e a b) rest = λ i. (marks_opened a i ++ marks_opened b i) ++ marked rest
    marks_opened_in at (either bs) rest = λ i. marks_opened_some bs i ++ marked rest
    marks_opened_in at (with bs b) rest = λ i. marks_opened b i ++ marked rest
    marks_opened_in at (while e b) rest = λ i. marks_opened b i ++ marked rest
    marks_opened_in at _ rest = refl

    marks_opened : (ss : Statements) → marked (expand X ss) ≡ marked ss
    marks_opened done = refl
    marks_opened (then at st rest) = marks_opened_in at st (expand X rest) ∙ ap (λ ms. marked_in st ++ ms) (marks_opened rest)
    marks_opened (mark l k rest) = ap (λ ms. record { label = l.word; mark = k } ∷ ms) (marks_opened rest)

    marks_opened_some : (bs : Branches) → marked_some (expand_some X bs) ≡ marked_some bs
    marks_opened_some no_branches = refl
    marks_opened_some (or b bs) = λ i. marks_opened b i ++ marks_opened_some bs i

-- ---- calls: trees put in leave them

module _ (g : Graft) where
  mutual
    calls_put_in : (st : Statement) → calls_in (graft_one g st) ≡ calls_in st
    calls_put_in (branch e a b) = λ i. calls_put a i ++ calls_put b i
    calls_put_in (either bs) = calls_put_some bs
    calls_put_in (with bs b) = calls_put b
    calls_put_in (while e b) = calls_put b
    calls_put_in (assign ms) = refl
    calls_put_in (await e) = refl
    calls_put_in (print e) = refl
    calls_put_in (assert e) = refl
    calls_put_in skip = refl
    calls_put_in (goto l) = refl
    calls_put_in (macro m ts) = refl
    calls_put_in (call p ts) = refl
    calls_put_in return = refl

    calls_put : (ss : Statements) → calls (graft_all g ss) ≡ calls ss
    calls_put done = refl
    calls_put (then at st rest) = λ i. calls_put_in st i ++ calls_put rest i
    calls_put (mark l k rest) = calls_put rest

    calls_put_some : (bs : Branches) → calls_some (graft_some g bs) ≡ calls_some bs
    calls_put_some no_branches = refl
    calls_put_some (or b bs) = λ i. calls_put b i ++ calls_put_some bs i

calls_joined : (a b : Statements) → calls a ≡ [] → calls (followed_by a b) ≡ calls b
calls_joined done b h = refl
calls_joined (then at st a) b h = λ i. nothing_left (calls_in st) (calls a) h i ++ calls_joined a b (nothing_right (calls_in st) (calls a) h) i
calls_joined (mark l k a) b h = calls_joined a b h

-- what is written for a macro call calls no procedure
abbrev CallsNone : Writing → Type 0
CallsNone X = (at : Span) (m : Word) (ts : Trees) → calls (X at m ts) ≡ []

module _ (X : Writing) (n : CallsNone X) where
  mutual
    calls_opened_in : (at : Span) (st : Statement) (rest : Statements) → calls (expand_one X at st rest) ≡ calls_in st ++ calls rest
    calls_opened_in at (macro m ts) rest = calls_joined (X at m ts) rest (n at m ts)
    calls_opened_in at (branch e a b) rest = λ i. (calls_opened a i ++ calls_opened b i) ++ calls rest
    calls_opened_in at (either bs) rest = λ i. calls_opened_some bs i ++ calls rest
    calls_opened_in at (with bs b) rest = λ i. calls_opened b i ++ calls rest
    calls_opened_in at (while e b) rest = λ i. calls_opened b i ++ calls rest
    calls_opened_in at _ rest = refl

    calls_opened : (ss : Statements) → calls (expand X ss) ≡ calls ss
    calls_opened done = refl
    calls_opened (then at st rest) = calls_opened_in at st (expand X rest) ∙ ap (λ xs. calls_in st ++ xs) (calls_opened rest)
    calls_opened (mark l k rest) = calls_opened rest

    calls_opened_some : (bs : Branches) → calls_some (expand_some X bs) ≡ calls_some bs
    calls_opened_some no_branches = refl
    calls_opened_some (or b bs) = λ i. calls_opened b i ++ calls_opened_some bs i

-- ---- no macro calls a procedure

module _ (targets : List Word) where
  mutual
    no_calls_in : (w : Bool) (at : Place) (st : Statement) → jump_offences_here (in_body targets w) at st ≡ [] → jump_offences_inside (in_body targets w) st ≡ [] → calls_in st ≡ []
    no_calls_in w at (call p ts) h k = cc
    no_calls_in w at (branch e a b) h k = λ i. no_calls w a (nothing_left (jump_offences (in_body targets w) a) _ k) i ++ no_calls w b (nothing_right (jump_offences (in_body targets w) a) _ k) i
    no_calls_in w at (either bs) h k = no_calls_some w bs k
    no_calls_in w at (with bs b) h k = no_calls true b k
    no_calls_in w at (while e b) h k = no_calls w b k
    no_calls_in w at (assign ms) h k = refl
    no_calls_in w at (await e) h k = refl
    no_calls_in w at (print e) h k = refl
    no_calls_in w at (assert e) h k = refl
    no_calls_in w at skip h k = refl
    no_calls_in w at (goto l) h k = refl
    no_calls_in w at (macro m ts) h k = refl
    no_calls_in w at return h k = refl

    no_calls : (w : Bool) (ss : Statements) → jump_offences (in_body targets w) ss ≡ [] → calls ss ≡ []
    no_calls w done h = refl
    no_calls w (then at st rest) h =
        let r = nothing_right (jump_offences_here (in_body targets w) at.first st) _ h in
        λ i. no_calls_in w at.first st (nothing_left (jump_offences_here (in_body targets w) at.first st) _ h) (nothing_left (jump_offences_inside (in_body targets w) st) _ r) i
        ++ no_calls w rest (nothing_right (jump_offences_inside (in_body targets w) st) _ r) i
    no_calls w (mark n k rest) h = cc

    no_calls_some : (w : Bool) (bs : Branches) → jump_offences_of_some (in_body targets w) bs ≡ [] → calls_some bs ≡ []
    no_calls_some w no_branches h = refl
    no_calls_some w (or b bs) h = λ i. no_calls w b (nothing_left (jump_offences (in_body targets w) b) _ h) i ++ no_calls_some w bs (nothing_right (jump_offences (in_body targets w) b) _ h) i

abbrev CallNone : List Macro → Type 0
CallNone ds = (d : Macro) → OneOf d ds → calls d.body ≡ []

written_none : (ms : List Macro) → CallNone ms → CallsNone (written_out ms)
written_none [] h at m ts = refl
written_none (d ∷ older) h at m ts = by (written_none older (λ c k. h c (inr k))) (bytes_eq d.name.word m)
  where
    by : CallsNone (written_out older) → (b : Bool) → calls (cond b (graft_all (arguments d.params ts) (expand (written_out older) d.body)) (written_out older at m ts)) ≡ []
    by none true = calls_put (arguments d.params ts) (expand (written_out older) d.body) ∙ calls_opened (written_out older) none d.body ∙ h d (inl refl)
    by none false = none at m ts

-- ---- of an algorithm that can be opened

module _ (a : Algorithm) (h : IsOpenable a) where
  macros_call_none : CallNone (reverse a.macros)
  macros_call_none d k = no_calls (codes "Done" ∷ label_words d.body) false d.body (plain a h.labels d (one_reverse d a.macros k))

  pub calls_alike : (ss : Statements) → calls (expanded (reverse a.macros) ss) ≡ calls ss
  calls_alike ss = calls_opened (written_out (reverse a.macros)) (written_none (reverse a.macros) macros_call_none) ss

  marks_alike : (ss : Statements) → marked (expanded (reverse a.macros) ss) ≡ marked ss
  marks_alike ss = marks_opened (written_out (reverse a.macros)) (openable_bare a h) ss

  pub left_out_alike : (ss : Statements) → left_out_labels (expanded (reverse a.macros) ss) ≡ left_out_labels ss
  left_out_alike ss = ap (flat_map (λ (m : Marked). if_left_out m.label m.mark)) (marks_alike ss)

  pub strong_alike : (ss : Statements) → strong_labels (expanded (reverse a.macros) ss) ≡ strong_labels ss
  strong_alike ss = ap (flat_map (λ (m : Marked). if_strong m.label m.mark)) (marks_alike ss)
