use Rattle.std.proofs.Common.{◌≡◌, ℕ, List, ◌-◌, ◌++◌, map, refl, sym, ap, subst, ◌∙◌, None, Ok, true}
use Rattle.tla_token.specs.declared.rule.Refusal.{Refusal}
use Rattle.tla_token.specs.Places.{place_at}
use Rattle.tla_token.specs.Tokens.{stretch}
use Rattle.tla_token.specs.Cut.{parts}
use Rattle.tla_token.specs.Readings.{first_offence}
use Rattle.tla_token.specs.KeptWords.{are_kept}
use Rattle.tla_token.specs.TokensSeen.{token_seen}
use Rattle.tla_token.specs.Scanning.{lexemes_of}
use Rattle.tla_token.proofs.Scans.{begins_there, rest_ended, refused_so, same_refused}
use Rattle.tla_token.proofs.KeptLemmas.{all_kept}
use Rattle.tla_token.proofs.scan.rest_of.Goals as goal

pub parts-init : goal.parts-init
parts-init c = record {
  stands = begins_there c.args.text.now c.args.from c.args.start c.args.to _ c.requires.begins c.requires.starts c.requires.ends refl c.place_of.ensures.line c.place_of.ensures.col refl;
  so_far = refl;
  canonical = c.requires.canonical;
}

pub returns-in-Some-clause-refused : goal.returns-in-Some-clause-refused
returns-in-Some-clause-refused c r e =
    let bytes = stretch c.args.text.now c.args.from c.args.to in
    let x =
    rest_ended c.args.reading c.args.text.now c.args.from c.args.start c.args.to c.parts.scan (record { at = c.args.start - c.args.from; place = c.place_of.result; wordless = 0; fault = None; quote = None }) c.next.new.scan
    (map (token_seen bytes) c.parts.items.items) (map (token_seen bytes) c.next.new.items.items) (map (token_seen bytes) c.args.items.items) c.in_ok-next.field-0
    c.requires.begins c.requires.starts refl refl c.place_of.ensures.value refl c.parts.invariant.so_far c.in_ok-next.ensures.goes c.if-branch.false (c.in_ok-next.ensures.end (ap Ok c.if-branch.false)) in
    let q : Refusal = record { rule = c.in-Some.rule; place = c.place_near.result } in
    refused_so c.args.text.now c.whole_fault.result (first_offence c.args.reading c.args.text.now c.args.start c.args.to) c.in-Some.rule c.in-Some.at c.place_near.result q r
    c.in-Some.is (c.whole_fault.ensures ∙ x.1) c.place_near.ensures (same_refused q r e) refl refl

pub returns-clause-tokens : goal.returns-clause-tokens
returns-clause-tokens c =
    let bytes = stretch c.args.text.now c.args.from c.args.to in
    let x =
    rest_ended c.args.reading c.args.text.now c.args.from c.args.start c.args.to c.parts.scan (record { at = c.args.start - c.args.from; place = c.place_of.result; wordless = 0; fault = None; quote = None }) c.next.new.scan
    (map (token_seen bytes) c.parts.items.items) (map (token_seen bytes) c.next.new.items.items) (map (token_seen bytes) c.args.items.items) c.in_ok-next.field-0
    c.requires.begins c.requires.starts refl refl c.place_of.ensures.value refl c.parts.invariant.so_far c.in_ok-next.ensures.goes c.if-branch.false (c.in_ok-next.ensures.end (ap Ok c.if-branch.false)) in
    let more = lexemes_of (place_at c.args.text.now c.args.start) c.args.start (parts (stretch c.args.text.now c.args.start c.args.to)) in
    let P : List ℕ → Type 0 = λ bs. map (token_seen bs) c.next.new.items.items ≡ map (token_seen bs) c.args.items.items ++ more in
    subst P (sym c.in_ok-from_slice.ensures.items) x.0

pub returns-clause-fine : goal.returns-clause-fine
returns-clause-fine c =
    let bytes = stretch c.args.text.now c.args.from c.args.to in
    let x =
    rest_ended c.args.reading c.args.text.now c.args.from c.args.start c.args.to c.parts.scan (record { at = c.args.start - c.args.from; place = c.place_of.result; wordless = 0; fault = None; quote = None }) c.next.new.scan
    (map (token_seen bytes) c.parts.items.items) (map (token_seen bytes) c.next.new.items.items) (map (token_seen bytes) c.args.items.items) c.in_ok-next.field-0
    c.requires.begins c.requires.starts refl refl c.place_of.ensures.value refl c.parts.invariant.so_far c.in_ok-next.ensures.goes c.if-branch.false (c.in_ok-next.ensures.end (ap Ok c.if-branch.false)) in
    sym x.1 ∙ sym c.whole_fault.ensures ∙ c.in_default.is

pub returns-clause-end : goal.returns-clause-end
returns-clause-end c =
    let bytes = stretch c.args.text.now c.args.from c.args.to in
    let x =
    rest_ended c.args.reading c.args.text.now c.args.from c.args.start c.args.to c.parts.scan (record { at = c.args.start - c.args.from; place = c.place_of.result; wordless = 0; fault = None; quote = None }) c.next.new.scan
    (map (token_seen bytes) c.parts.items.items) (map (token_seen bytes) c.next.new.items.items) (map (token_seen bytes) c.args.items.items) c.in_ok-next.field-0
    c.requires.begins c.requires.starts refl refl c.place_of.ensures.value refl c.parts.invariant.so_far c.in_ok-next.ensures.goes c.if-branch.false (c.in_ok-next.ensures.end (ap Ok c.if-branch.false)) in
    x.2

pub invariant_of-result : goal.invariant_of-result
invariant_of-result c =
    let bytes = stretch c.args.text.now c.args.from c.args.to in
    let items = c.next.new.items.items in
    record { kept = subst (λ (bs : List ℕ). are_kept bs items ≡ true) (sym c.in_ok-from_slice.ensures.items) (all_kept bytes items c.in_ok-next.ensures.canonical) }
