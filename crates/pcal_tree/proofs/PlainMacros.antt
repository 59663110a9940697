-- Where no rule on labels is broken, a macro's body has no label, and no statement of it is a `goto`, `call` or `return`.
use Rattle.std.proofs.Common.{◌≡◌, List, [], ◌∷◌, ◌++◌, reverse, Bool, true, false, codes, inl, inr, refl, sym, subst}
use Rattle.std.specs.List.{flat_map}
use Rattle.std.proofs.lemmas.Grind.{reverse_onto}
use Rattle.tla_token.specs.declared.place.Place.{Place}
use Rattle.tla_tree.specs.Tree.{Word}
use Rattle.pcal_tree.specs.Algorithm.{Statement, assign, await, print, assert, skip, branch, either, with, while, goto, macro, call, return, Statements, done, then, mark, Branches, no_branches, or, Macro, Algorithm}
use Rattle.pcal_tree.specs.OffencesLabels.{Within, jump_offences_here, jump_offences_inside, jump_offences, jump_offences_of_some, label_words, of_macro, label_offences}
use Rattle.pcal_tree.specs.OffencesSteps.{missing_in_macro}
use Rattle.pcal_tree.specs.Processes.{OneOf}
use Rattle.pcal_tree.specs.laws.Expansion.{BeginsUnlabelled, StaysOne, Stays, BareOne, Bare, BareSome, BareBodies}
use Rattle.pcal_tree.proofs.ClearLabels.{nothing_left, nothing_right}

-- in a macro, or in a `with` of one
module _ (targets : List Word) where
  abbrev pub in_body : Bool → Within
  in_body w = record { macro = true; with = w; procedure = false; targets = targets }

  mutual
    one_bare : (w : Bool) (st : Statement) → jump_offences_inside (in_body w) st ≡ [] → BareOne st
    one_bare w (branch e a b) h = (all_bare w a (nothing_left (jump_offences (in_body w) a) _ h), all_bare w b (nothing_right (jump_offences (in_body w) a) _ h))
    one_bare w (either bs) h = some_bare w bs h
    one_bare w (with bs b) h = all_bare true b h
    one_bare w (while e b) h = all_bare w b h
    one_bare w _ h = tt

    all_bare : (w : Bool) (b : Statements) → jump_offences (in_body w) b ≡ [] → Bare b
    all_bare w done h = tt
    all_bare w (then at st rest) h =
        let r = nothing_right (jump_offences_here (in_body w) at.first st) _ h in
        (one_bare w st (nothing_left (jump_offences_inside (in_body w) st) _ r), all_bare w rest (nothing_right (jump_offences_inside (in_body w) st) _ r))
    all_bare w (mark n k rest) h = cc

    some_bare : (w : Bool) (bs : Branches) → jump_offences_of_some (in_body w) bs ≡ [] → BareSome bs
    some_bare w no_branches h = tt
    some_bare w (or b bs) h = (all_bare w b (nothing_left (jump_offences (in_body w) b) _ h), some_bare w bs (nothing_right (jump_offences (in_body w) b) _ h))

  one_stays : (w : Bool) (at : Place) (st : Statement) → jump_offences_here (in_body w) at st ≡ [] → StaysOne st
  one_stays w at (goto l) h = cc
  one_stays w at (call p ts) h = cc
  one_stays w at return h = cc
  one_stays w at (assign ms) h = tt
  one_stays w at (await e) h = tt
  one_stays w at (print e) h = tt
  one_stays w at (assert e) h = tt
  one_stays w at skip h = tt
  one_stays w at (branch e a b) h = tt
  one_stays w at (either bs) h = tt
  one_stays w at (with bs b) h = tt
  one_stays w at (while e b) h = tt
  one_stays w at (macro m ts) h = tt

  all_stay : (w : Bool) (b : Statements) → jump_offences (in_body w) b ≡ [] → Stays b
  all_stay w done h = tt
  all_stay w (then at st rest) h =
      let r = nothing_right (jump_offences_here (in_body w) at.first st) _ h in
      (one_stays w at.first st (nothing_left (jump_offences_here (in_body w) at.first st) _ h), all_stay w rest (nothing_right (jump_offences_inside (in_body w) st) _ r))
  all_stay w (mark n k rest) h = tt

  begins : (w : Bool) (b : Statements) → jump_offences (in_body w) b ≡ [] → (b ≡ done → ⊥) → BeginsUnlabelled b
  begins w done h started = started refl
  begins w (then at st rest) h started = tt
  begins w (mark n k rest) h started = cc

-- ---- algorithms

-- no jump and no label of the body offends
abbrev pub IsPlain : Macro → Type 0
IsPlain d = jump_offences (in_body (codes "Done" ∷ label_words d.body) false) d.body ≡ []

macro_plain : (d : Macro) → of_macro d ≡ [] → IsPlain d
macro_plain d h = nothing_left (jump_offences (in_body (codes "Done" ∷ label_words d.body) false) d.body) _ (nothing_right (missing_in_macro d) _ h)

one_plain : (ds : List Macro) → flat_map of_macro ds ≡ [] → (d : Macro) → OneOf d ds → IsPlain d
one_plain [] h d k = absurd k
one_plain (e ∷ ds) h d (inl q) = subst IsPlain (sym q) (macro_plain e (nothing_left (of_macro e) _ h))
one_plain (e ∷ ds) h d (inr k) = one_plain ds (nothing_right (of_macro e) _ h) d k

pub plain : (a : Algorithm) → label_offences a ≡ [] → (d : Macro) → OneOf d a.macros → IsPlain d
plain a h d k = one_plain a.macros (nothing_left (flat_map of_macro a.macros) _ h) d k

bodies_bare : (ds : List Macro) → ((d : Macro) → OneOf d ds → Bare d.body) → BareBodies ds
bodies_bare [] h = tt
bodies_bare (d ∷ ds) h = (h d (inl refl), bodies_bare ds (λ e k. h e (inr k)))

bare_both : (ds es : List Macro) → BareBodies ds → BareBodies es → BareBodies (ds ++ es)
bare_both [] es h k = k
bare_both (d ∷ ds) es h k = (h.0, bare_both ds es h.1 k)

bare_reversed : (ds : List Macro) → BareBodies ds → BareBodies (reverse ds)
bare_reversed [] h = tt
bare_reversed (d ∷ ds) h = subst BareBodies (sym (reverse_onto ds d [])) (bare_both (reverse ds) (d ∷ []) (bare_reversed ds h.1) (h.0, tt))

pub macros_bare : (a : Algorithm) → label_offences a ≡ [] → BareBodies (reverse a.macros)
macros_bare a h = bare_reversed a.macros (bodies_bare a.macros (λ d k. all_bare (codes "Done" ∷ label_words d.body) false d.body (plain a h d k)))

pub macros_stay : (a : Algorithm) → label_offences a ≡ [] → (d : Macro) → OneOf d a.macros → Stays d.body
macros_stay a h d k = all_stay (codes "Done" ∷ label_words d.body) false d.body (plain a h d k)

pub macros_begin : (a : Algorithm) → label_offences a ≡ [] → (d : Macro) → OneOf d a.macros → (d.body ≡ done → ⊥) → BeginsUnlabelled d.body
macros_begin a h d k started = begins (codes "Done" ∷ label_words d.body) false d.body (plain a h d k) started
