-- What passes from a body to its parts holds of what each step begins with.
use Rattle.std.proofs.Common.{◌≡◌, List, [], ◌∷◌, ◌++◌, Bool, true, false, cond, bytes_eq, Option, Some, None, inl, inr, sym, subst}
use Rattle.std.specs.Option.{option_or}
use Rattle.tla_token.specs.declared.place.Place.{Place}
use Rattle.tla_tree.specs.Tree.{Word, Name, words, Tree, Trees}
use Rattle.pcal_tree.specs.declared.mark.Mark.{Mark}
use Rattle.pcal_tree.specs.Algorithm.{Span, Binds, no_binds, one_of, is, Statement, assign, await, print, assert, skip, branch, either, with, while, goto, macro, call, return, Statements, done, then, mark, Branches, no_branches, or, Macro, Procedure}
use Rattle.pcal_tree.specs.BoundNames.{all_of, names_of_binds, lists_in, lists_in_binds, lists_in_one, lists_in_body, lists_in_branches}
use Rattle.pcal_tree.specs.NameUses.{Sight, plain, seeing_plain}
use Rattle.pcal_tree.specs.OffencesNames.{in_whole, in_binds, after_binds, in_one, in_body, in_branches, macro_offences}
use Rattle.pcal_tree.specs.OffencesRebind.{Standings, Calls as Rebinds, naming, in_scope, rebound_all, whole_rebinds, binds_rebind, one_rebinds, body_rebinds, branches_rebind}
use Rattle.pcal_tree.specs.Processes.{OneOf}
use Rattle.pcal_tree.specs.Run.{unlabelled, label_of}
use Rattle.pcal_tree.specs.StepStart.{Begin, begin, begin_in, begin_some}
use Rattle.pcal_tree.specs.laws.Expansion.{Calls, CallsOne, CallsSome}
use Rattle.pcal_tree.specs.laws.ReadNames.{BindsIn, WithsInOne, WithsIn, WithsInSome}
use Rattle.pcal_tree.proofs.CallsFine.{Sees}
use Rattle.pcal_tree.proofs.ClearLabels.{both_none}
use Rattle.translation.proofs.BoundOf.{AllIn, in_both}
use Rattle.translation.proofs.MacrosSound.{in_rest}
use Rattle.translation.proofs.NamesInSight.{sees_map}
use Rattle.translation.proofs.NamesOfRules.{split}

-- a fact of bodies, with those of a statement and of branches
pub record Passes (A : Statements → Type 0) (B : Statement → Type 0) (C : Branches → Type 0) : Type 0 where
  pub of_first : (at : Span) (st : Statement) (rest : Statements) → A (then at st rest) → B st × A rest
  pub of_mark : (l : Name) (k : Mark) (rest : Statements) → A (mark l k rest) → A rest
  pub of_branch : (e : Tree) (a b : Statements) → B (branch e a b) → A a × A b
  pub of_either : (bs : Branches) → B (either bs) → C bs
  pub of_with : (bs : Binds) (b : Statements) → B (with bs b) → A b
  pub of_while : (e : Tree) (b : Statements) → B (while e b) → A b
  pub of_or : (b : Statements) (bs : Branches) → C (or b bs) → A b × C bs

module _ (A : Statements → Type 0) (B : Statement → Type 0) (C : Branches → Type 0) (p : Passes A B C) where
  abbrev Items : Option Begin → Type 0
  Items (Some b) = A b.items
  Items None = Unit {0}

  or_holds : (o q : Option Begin) (b : Begin) → option_or o q ≡ Some b → ((c : Begin) → o ≡ Some c → A c.items) → ((c : Begin) → q ≡ Some c → A c.items) → A b.items
  or_holds (Some x) q b e f g = f b e
  or_holds None q b e f g = g b e

  mutual
    from_one : (l here : Word) (st : Statement) (x : Word) (b : Begin) → B st → begin_in l here st x ≡ Some b → A b.items
    from_one l here (branch t a c) x b h e =
        let k = p.of_branch t a c h in or_holds (begin l unlabelled a x) (begin l unlabelled c x) b e (λ d q. from_label l unlabelled a x d k.0 q) (λ d q. from_label l unlabelled c x d k.1 q)
    from_one l here (either bs) x b h e = from_some l bs x b (p.of_either bs h) e
    from_one l here (with bs c) x b h e = from_label l unlabelled c x b (p.of_with bs c h) e
    from_one l here (while t c) x b h e = from_label l unlabelled c here b (p.of_while t c h) e
    from_one l here (assign ms) x b h e = cc
    from_one l here (await t) x b h e = cc
    from_one l here (print t) x b h e = cc
    from_one l here (assert t) x b h e = cc
    from_one l here skip x b h e = cc
    from_one l here (goto m) x b h e = cc
    from_one l here (macro m ts) x b h e = cc
    from_one l here (call q ts) x b h e = cc
    from_one l here return x b h e = cc

    pub from_label : (l here : Word) (ss : Statements) (x : Word) (b : Begin) → A ss → begin l here ss x ≡ Some b → A b.items
    from_label l here done x b h e = cc
    from_label l here (then at st rest) x b h e =
        let k = p.of_first at st rest h in
        or_holds (begin_in l here st (label_of rest x)) (begin l unlabelled rest x) b e (λ d q. from_one l here st (label_of rest x) d k.0 q) (λ d q. from_label l unlabelled rest x d k.1 q)
    from_label l here (mark m k rest) x b h e = by (bytes_eq l m.word) (p.of_mark m k rest h) (λ d q. from_label l m.word rest x d (p.of_mark m k rest h) q) e
      where
        by : (c : Bool) → A rest → ((d : Begin) → begin l m.word rest x ≡ Some d → A d.items) → cond c (Some (record { items = rest; exit = x })) (begin l m.word rest x) ≡ Some b → A b.items
        by true a f e = subst Items e a
        by false a f e = f b e

    from_some : (l : Word) (bs : Branches) (x : Word) (b : Begin) → C bs → begin_some l bs x ≡ Some b → A b.items
    from_some l no_branches x b h e = cc
    from_some l (or c bs) x b h e =
        let k = p.of_or c bs h in or_holds (begin l unlabelled c x) (begin_some l bs x) b e (λ d q. from_label l unlabelled c x d k.0 q) (λ d q. from_some l bs x d k.1 q)

-- ---- such facts

-- of each macro call
pub calls_pass : (P : Word → Trees → Type 0) → Passes (Calls P) (CallsOne P) (CallsSome P)
calls_pass P = record {
  of_first = λ at st rest h. h;
  of_mark = λ l k rest h. h;
  of_branch = λ e a b h. h;
  of_either = λ bs h. h;
  of_with = λ bs b h. h;
  of_while = λ e b h. h;
  of_or = λ b bs h. h;
}

-- of all names that are bound
pub bound_pass : (N : Word → Type 0) → Passes (λ b. AllIn N (lists_in_body b)) (λ st. AllIn N (lists_in_one st)) (λ bs. AllIn N (lists_in_branches bs))
bound_pass N = record {
  of_first = λ at st rest h. in_both N (lists_in_one st) (lists_in_body rest) h;
  of_mark = λ l k rest h. h;
  of_branch = λ e a b h. in_both N (lists_in_body a) (lists_in_body b) (in_both N (lists_in e) (lists_in_body a ++ lists_in_body b) h).1;
  of_either = λ bs h. h;
  of_with = λ bs b h. (in_both N (lists_in_binds bs) (lists_in_body b) (split N (names_of_binds bs) (all_of (lists_in_binds bs ++ lists_in_body b)) h).1).1;
  of_while = λ e b h. (in_both N (lists_in e) (lists_in_body b) h).1;
  of_or = λ b bs h. in_both N (lists_in_body b) (lists_in_branches bs) h;
}

-- nothing is bound again where at least s is in scope
module _ (ext : List Word) (ps : List Procedure) (D : Rebinds) (s : Standings) where
  abbrev pub More : Standings → Type 0
  More r = (y : Word) → in_scope s y ≡ true → in_scope r y ≡ true

  abbrev pub NoneAgain : Statements → Type 0
  NoneAgain b = (r : Standings) × (body_rebinds ext ps D b r ≡ []) × More r

  abbrev NoneAgainOne : Statement → Type 0
  NoneAgainOne st = (r : Standings) × (one_rebinds ext ps D st r ≡ []) × More r

  abbrev NoneAgainSome : Branches → Type 0
  NoneAgainSome bs = (r : Standings) × (branches_rebind ext ps D bs r ≡ []) × More r

  pub again_pass : Passes NoneAgain NoneAgainOne NoneAgainSome
  again_pass = record {
    of_first = λ at st rest h. (let k = both_none (one_rebinds ext ps D st h.0) (body_rebinds ext ps D rest h.0) h.1 in ((h.0, k.0, h.2), (h.0, k.1, h.2)));
    of_mark = λ l k rest h. h;
    of_branch = λ e a b h.
        (let j = both_none (whole_rebinds ext e h.0) (body_rebinds ext ps D a h.0 ++ body_rebinds ext ps D b h.0) h.1 in
        let k = both_none (body_rebinds ext ps D a h.0) (body_rebinds ext ps D b h.0) j.1 in
        ((h.0, k.0, h.2), (h.0, k.1, h.2)));
    of_either = λ bs h. h;
    of_with = λ bs b h.
        (let xs = words (names_of_binds bs) in
        let j = both_none (rebound_all ext h.0 (names_of_binds bs)) (binds_rebind ext bs h.0 ++ body_rebinds ext ps D b (naming xs h.0)) h.1 in
        (naming xs h.0, (both_none (binds_rebind ext bs h.0) (body_rebinds ext ps D b (naming xs h.0)) j.1).1, (λ y e. in_rest xs h.0 y (h.2 y e))));
    of_while = λ e b h. (h.0, (both_none (whole_rebinds ext e h.0) (body_rebinds ext ps D b h.0) h.1).1, h.2);
    of_or = λ b bs h. (let k = both_none (body_rebinds ext ps D b h.0) (branches_rebind ext ps D bs h.0) h.1 in ((h.0, k.0, h.2), (h.0, k.1, h.2)));
  }

-- no use of a name offends, where only names of N may be used
module _ (ms : List Macro) (ps : List Procedure) (N : Word → Type 0) where
  abbrev pub UsedIn : Statements → Type 0
  UsedIn b = (s : Sight) × (in_body (macro_offences ms ps) ps b s ≡ []) × Sees s N × WithsIn N b

  abbrev UsedInOne : Statement → Type 0
  UsedInOne st = (s : Sight) × (at : Place) × (in_one (macro_offences ms ps) ps at st s ≡ []) × Sees s N × WithsInOne N st

  abbrev UsedInSome : Branches → Type 0
  UsedInSome bs = (s : Sight) × (in_branches (macro_offences ms ps) ps bs s ≡ []) × Sees s N × WithsInSome N bs

  sees_one : (x : Word) (s : Sight) → N x → Sees s N → Sees (seeing_plain (x ∷ []) s) N
  sees_one x s n h = sees_map plain N (x ∷ []) s (λ y m u. by y m) h
    where
      by : (y : Word) → OneOf y (x ∷ []) → N y
      by y (inl e) = subst N (sym e) n
      by y (inr k) = absurd k

  sees_after : (bs : Binds) (s : Sight) → BindsIn N bs → Sees s N → Sees (after_binds bs s) N
  sees_after no_binds s w h = h
  sees_after (one_of x e bs) s w h = sees_after bs (seeing_plain (x.word ∷ []) s) w.1 (sees_one x.word s w.0 h)
  sees_after (is x e bs) s w h = sees_after bs (seeing_plain (x.word ∷ []) s) w.1 (sees_one x.word s w.0 h)

  pub used_pass : Passes UsedIn UsedInOne UsedInSome
  used_pass = record {
    of_first = λ at st rest h.
        (let k = both_none (in_one (macro_offences ms ps) ps at.first st h.0) (in_body (macro_offences ms ps) ps rest h.0) h.1 in
        ((h.0, at.first, k.0, h.2, h.3.0), (h.0, k.1, h.2, h.3.1)));
    of_mark = λ l k rest h. h;
    of_branch = λ e a b h.
        (let j = both_none (in_whole e h.0) (in_body (macro_offences ms ps) ps a h.0 ++ in_body (macro_offences ms ps) ps b h.0) h.2 in
        let k = both_none (in_body (macro_offences ms ps) ps a h.0) (in_body (macro_offences ms ps) ps b h.0) j.1 in
        ((h.0, k.0, h.3, h.4.0), (h.0, k.1, h.3, h.4.1)));
    of_either = λ bs h. (h.0, h.2, h.3, h.4);
    of_with = λ bs b h.
        (after_binds bs h.0, (both_none (in_binds bs h.0) (in_body (macro_offences ms ps) ps b (after_binds bs h.0)) h.2).1, sees_after bs h.0 h.4.0 h.3, h.4.1);
    of_while = λ e b h. (h.0, (both_none (in_whole e h.0) (in_body (macro_offences ms ps) ps b h.0) h.2).1, h.3, h.4);
    of_or = λ b bs h.
        (let k = both_none (in_body (macro_offences ms ps) ps b h.0) (in_branches (macro_offences ms ps) ps bs h.0) h.1 in
        ((h.0, k.0, h.2, h.3.0), (h.0, k.1, h.2, h.3.1)));
  }
