-- Settled statements can be written, but that their names are of some kind, where those can that stand for jumps, calls and returns.
use Rattle.std.proofs.Common.{◌≡◌, Bool, true, false, cond, ◌||◌, inl, inr, refl}
use Rattle.std.proofs.lemmas.Bool.{or_parts}
use Rattle.tla_tree.specs.Tree.{Word, Trees}
use Rattle.tla_tree.specs.laws.Writable.{IsIdentifier, IsString}
use Rattle.pcal_tree.specs.Algorithm.{Name, Span, Statement, assign, await, print, assert, skip, branch, either, with, while, goto, macro, call, return, Statements, done, then, mark, Branches, no_branches, or}
use Rattle.pcal_tree.specs.Run.{unlabelled, label_of, Partner, goto_partner, partner_of}
use Rattle.action_builder.specs.Settled.{WrittenJumps, jumps_one, jumps, jumps_some, settled_one, settled, settled_some}
use Rattle.action_builder.proofs.FitTrees.{AllFit, HasIdentifiers}
use Rattle.action_builder.proofs.FitStatements.{OrOld, StatementFits, StatementsFit, OrsFit, IsPlain}
use Rattle.action_builder.specs.laws.InParts.{InParts}

-- what is asked of a statement that is not settled yet: procedures are of the kind C, and no macro call is left
abbrev pub IsLoose : (Word → Type 0) → Statement → Type 0
IsLoose C (assign ms) = InParts ms
IsLoose C (either no_branches) = ⊥
IsLoose C (goto l) = IsIdentifier l
IsLoose C (macro m ts) = ⊥
IsLoose C (call p ts) = C p.word
IsLoose C _ = Unit {0}

abbrev pub PartnerFits : Partner → Type 0
PartnerFits (goto_partner m) = IsString m
PartnerFits _ = Unit {0}

pub identifiers_or : (N : Word → Type 0) → HasIdentifiers N → HasIdentifiers (OrOld N)
identifiers_or N j x h = inl (j x h)

module _ (C : Word → Type 0) where
  -- ---- statements without jumps stay

  mutual
    plain_one : (N : Word → Type 0) (st : Statement) → jumps_one st ≡ false → IsLoose C st → StatementFits N (IsLoose C) st → IsPlain st × StatementFits N IsPlain st
    plain_one N (assign ms) q a h = (a, h)
    plain_one N (await e) q a h = (tt, h)
    plain_one N (print e) q a h = (tt, h)
    plain_one N (assert e) q a h = (tt, h)
    plain_one N skip q a h = (tt, tt)
    plain_one N (branch e x y) q a h = (let k = or_parts (jumps x) (jumps y) q in (tt, (h.0, plain_all N x k.0 h.1, plain_all N y k.1 h.2)))
    plain_one N (either no_branches) q a h = absurd a
    plain_one N (either (or b bs)) q a h = (let k = or_parts (jumps b) (jumps_some bs) q in (tt, (plain_all N b k.0 h.0, plain_some N bs k.1 h.1)))
    plain_one N (with bs b) q a (inl h) = (tt, inl (h.0, plain_all N b q h.1))
    plain_one N (with bs b) q a (inr h) = (tt, inr (h.0, plain_all (OrOld N) b q h.1))
    plain_one N _ q a h = cc

    plain_all : (N : Word → Type 0) (ss : Statements) → jumps ss ≡ false → StatementsFit N (IsLoose C) ss → StatementsFit N IsPlain ss
    plain_all N done q h = tt
    plain_all N (then at st rest) q h =
        let k = or_parts (jumps_one st) (jumps rest) q in
        let s = plain_one N st k.0 h.0 h.1 in
        (s.0, s.1, plain_all N rest k.1 h.2)
    plain_all N (mark l k rest) q h = cc

    plain_some : (N : Word → Type 0) (bs : Branches) → jumps_some bs ≡ false → OrsFit N (IsLoose C) bs → OrsFit N IsPlain bs
    plain_some N no_branches q h = tt
    plain_some N (or b bs) q h = (let k = or_parts (jumps b) (jumps_some bs) q in (plain_all N b k.0 h.0, plain_some N bs k.1 h.1))

  -- ---- labels and partners

  label_fits : (spelled : (x : Word) → IsIdentifier x → IsString x) (N : Word → Type 0) (ss : Statements) (l : Word) → StatementsFit N (IsLoose C) ss → IsString l → IsString (label_of ss l)
  label_fits spelled N done l h s = s
  label_fits spelled N (then at st rest) l h s = refl
  label_fits spelled N (mark m k rest) l h s = spelled m.word h.0

  partner_fits : (spelled : (x : Word) → IsIdentifier x → IsString x) (N : Word → Type 0) (ss : Statements) → StatementsFit N (IsLoose C) ss → PartnerFits (partner_of ss)
  partner_fits spelled N (then at (goto l) rest) h = spelled l h.0
  partner_fits spelled N (then at return rest) h = tt
  partner_fits spelled N _ h = tt

  -- ---- all of them

  module _ (spelled : (x : Word) → IsIdentifier x → IsString x) (W : WrittenJumps)
      (goes : (N : Word → Type 0) → HasIdentifiers N → (l : Word) → IsString l → StatementsFit N IsPlain (W.goto l))
      (calls : (N : Word → Type 0) → HasIdentifiers N → (at : Span) (p : Name) (ts : Trees) (l : Word) (j : Partner) → C p.word → AllFit N ts → IsString l → PartnerFits j → StatementsFit N IsPlain (W.call at p ts l j))
      (returns : (N : Word → Type 0) → HasIdentifiers N → (at : Span) → StatementsFit N IsPlain (W.return at))
    where
      cond_fits : (N : Word → Type 0) (b : Bool) (x y : Statements) → StatementsFit N IsPlain x → (b ≡ false → StatementsFit N IsPlain y) → StatementsFit N IsPlain (cond b x y)
      cond_fits N true x y h k = h
      cond_fits N false x y h k = k refl

      mutual
        one_settled : (N : Word → Type 0) → HasIdentifiers N → (here : Word) → IsString here → (l : Word) → IsString l → (j : Partner) → PartnerFits j → (at : Span) (st : Statement) → IsLoose C st → StatementFits N (IsLoose C) st
            → (rest : Statements) → StatementsFit N IsPlain rest → StatementsFit N IsPlain (settled_one W here l j at st rest)
        one_settled N i here e l s j p at (assign ms) a h rest r = (a, h, r)
        one_settled N i here e l s j p at (await f) a h rest r = (tt, h, r)
        one_settled N i here e l s j p at (print f) a h rest r = (tt, h, r)
        one_settled N i here e l s j p at (assert f) a h rest r = (tt, h, r)
        one_settled N i here e l s j p at skip a h rest r = (tt, tt, r)
        one_settled N i here e l s j p at (branch f x y) a h rest r =
            cond_fits N (jumps x || jumps y) (then at (branch f (settled W unlabelled l x) (settled W unlabelled l y)) done) (then at (branch f x y) rest)
            (tt, (h.0, all_settled N i unlabelled refl l s x h.1, all_settled N i unlabelled refl l s y h.2), tt)
            (λ q. let k = plain_one N (branch f x y) q a h in (k.0, k.1, r))
        one_settled N i here e l s j p at (either no_branches) a h rest r = absurd a
        one_settled N i here e l s j p at (either (or b bs)) a h rest r =
            cond_fits N (jumps b || jumps_some bs) (then at (either (or (settled W unlabelled l b) (settled_some W l bs))) done) (then at (either (or b bs)) rest)
            (tt, (all_settled N i unlabelled refl l s b h.0, some_settled N i l s bs h.1), tt)
            (λ q. let k = plain_one N (either (or b bs)) q a h in (k.0, k.1, r))
        one_settled N i here e l s j p at (with bs b) a (inl h) rest r =
            cond_fits N (jumps b) (then at (with bs (settled W unlabelled l b)) done) (then at (with bs b) rest)
            (tt, inl (h.0, all_settled N i unlabelled refl l s b h.1), tt)
            (λ q. let k = plain_one N (with bs b) q a (inl h) in (k.0, k.1, r))
        one_settled N i here e l s j p at (with bs b) a (inr h) rest r =
            cond_fits N (jumps b) (then at (with bs (settled W unlabelled l b)) done) (then at (with bs b) rest)
            (tt, inr (h.0, all_settled (OrOld N) (identifiers_or N i) unlabelled refl l s b h.1), tt)
            (λ q. let k = plain_one N (with bs b) q a (inr h) in (k.0, k.1, r))
        one_settled N i here e l s j p at (while f b) a h rest r = (tt, (h.0, all_settled N i unlabelled refl here e b h.1, r), tt)
        one_settled N i here e l s j p at (goto m) a h rest r = goes N i m (spelled m a)
        one_settled N i here e l s j p at (macro m ts) a h rest r = absurd a
        one_settled N i here e l s j p at (call q ts) a h rest r = calls N i at q ts l j a h s p
        one_settled N i here e l s j p at return a h rest r = returns N i at

        pub all_settled : (N : Word → Type 0) → HasIdentifiers N → (here : Word) → IsString here → (l : Word) → IsString l → (ss : Statements) → StatementsFit N (IsLoose C) ss → StatementsFit N IsPlain (settled W here l ss)
        all_settled N i here e l s done h = goes N i l s
        all_settled N i here e l s (then at st rest) h =
            one_settled N i here e (label_of rest l) (label_fits spelled N rest l h.2 s) (partner_of rest) (partner_fits spelled N rest h.2) at st h.0 h.1 (settled W unlabelled l rest)
            (all_settled N i unlabelled refl l s rest h.2)
        all_settled N i here e l s (mark m k rest) h = goes N i m.word (spelled m.word h.0)

        some_settled : (N : Word → Type 0) → HasIdentifiers N → (l : Word) → IsString l → (bs : Branches) → OrsFit N (IsLoose C) bs → OrsFit N IsPlain (settled_some W l bs)
        some_settled N i l s no_branches h = tt
        some_settled N i l s (or b bs) h = (all_settled N i unlabelled refl l s b h.0, some_settled N i l s bs h.1)
