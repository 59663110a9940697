use Rattle.std.proofs.Common.{◌≡◌, ℕ, ◌+◌, ◌≤◌, List, [], ◌∷◌, ◌++◌, length, drop, map, Some, None, refl, ap, subst, sym, ◌∙◌, append_assoc, append-nil}
use Rattle.std.specs.List.{slice_get}
use Rattle.tla_token.specs.Cut.{parts}
use Rattle.std.proofs.lemmas.List.{take_rest}
use Rattle.tla_token.specs.declared.part.Part as code
use Rattle.tla_token.specs.Scan.{front, outline, IsWordless}
use Rattle.tla_token.specs.Feeding.{decided, undecided, IsKept, AreDecided}
use Rattle.tla_token.proofs.Scans.{wordless_on, drop_more}
use Rattle.tla_token.proofs.Decided.{one_decided, one_more, none_more}
use Rattle.tla_token.proofs.feeding.decided_parts.Goals as goal

pub parts-preserved : goal.parts-preserved
parts-preserved c =
    let t = c.args.text.now in
    let at = c.parts.at in
    let p = c.in-Some.part in
    let Stays : List ℕ → Type 0 = λ u. (more : List ℕ) → front (u ++ more) ≡ Some p in
    let Within : List ℕ → Type 0 = λ u. p.len ≤ length u in
    let Known : List ℕ → Type 0 = λ u. IsWordless c.decided_at.new.wordless u in
    let Left : ℕ → Type 0 = λ n. IsWordless n (drop (at + p.len) t) in
    let Cut : List code.Part → Type 0 = λ ps. AreDecided t c.args.parts.now.items ps (at + p.len) in
    let First : List ℕ → Type 0 = λ u. Some p ≡ slice_get (map outline (decided (parts u))) 0 in
    let one = one_decided t c.args.parts.now.items c.parts.parts.items at p c.parts.invariant.cut (subst Stays (take_rest t at) c.in-Some.ensures.decided) (subst Within (take_rest t at) c.in-Some.ensures.within) in
    let more = one_more (drop at t) p (subst First (take_rest t at) c.in-Some.ensures.first) in
    let known = wordless_on c.decided_at.new.wordless p.len at t (subst Known (take_rest t at) c.in-Some.ensures.known) in
    let there : drop p.len (drop at t) ≡ drop (at + p.len) t = drop_more at p.len t in
    record {
      all =
          ap (λ (ps : List code.Part). ps ++ map outline (decided (parts (drop (at + p.len) t)))) c.in_ok-push.ensures.items
          ∙ append_assoc c.parts.parts.items (p ∷ []) (map outline (decided (parts (drop (at + p.len) t))))
          ∙ ap (λ (u : List ℕ). c.parts.parts.items ++ p ∷ map outline (decided (parts u))) (sym there)
          ∙ ap (λ (ps : List code.Part). c.parts.parts.items ++ ps) (sym more.0)
          ∙ c.parts.invariant.all;
      rest = ap (λ (u : List ℕ). undecided (parts u)) (sym there) ∙ sym more.1 ∙ c.parts.invariant.rest;
      cut = subst Cut (sym c.in_ok-push.ensures.items) one;
      known = subst Left (sym c.saturating_sub-wordless.ensures) known;
    }

pub returns-clause-all : goal.returns-clause-all
returns-clause-all c =
    let t = c.args.text.now in
    let First : List ℕ → Type 0 = λ u. None ≡ slice_get (map outline (decided (parts u))) 0 in
    let none = none_more (drop c.parts.at t) (subst First (take_rest t c.parts.at) c.in_default.ensures.first) in
    sym (append-nil c.parts.parts.items) ∙ ap (λ (ps : List code.Part). c.parts.parts.items ++ ps) (sym none.0) ∙ c.parts.invariant.all

pub returns-clause-rest : goal.returns-clause-rest
returns-clause-rest c =
    let t = c.args.text.now in
    let First : List ℕ → Type 0 = λ u. None ≡ slice_get (map outline (decided (parts u))) 0 in
    let none = none_more (drop c.parts.at t) (subst First (take_rest t c.parts.at) c.in_default.ensures.first) in
    sym none.1 ∙ c.parts.invariant.rest

pub returns-clause-kept : goal.returns-clause-kept
returns-clause-kept c =
    let Kept : List ℕ → Type 0 = λ u. IsKept u in
    subst Kept (take_rest c.args.text.now c.parts.at) (c.in_default.ensures.kept refl)
