-- Proves that what is added where choices are left over is as it is defined.
use Rattle.std.proofs.Common.{◌≡◌, ◌++◌, [], List, ℕ, codes, unwrap_or, ◌∙◌, ap, sym, subst, append_assoc}
use Rattle.std.specs.Prelude.{OnOk}
use Rattle.source_map.specs.Lines.{place_text}
use Rattle.step_runner.specs.Shown.{why_text}
use Rattle.run_files.specs.InMemory.{reply_of}
use Rattle.run_files.specs.declared.stops.Why.{Why}
use Rattle.run_files.proofs.stops.add_why.Goals as goal

pub returns-in_ok-extend-in-TooManyChoices : goal.returns-in_ok-extend-in-TooManyChoices
returns-in_ok-extend-in-TooManyChoices c =
    let out = c.args.out.now in
    let place = place_text c.in-TooManyChoices.place in
    let whole = ap (λ (v : List ℕ). v ++ place) c.in_ok-extend-in-TooManyChoices.ensures.ok
    ∙ (append_assoc out (codes "too many choices at ") place ∙ ap (λ (w : Why). out ++ unwrap_or (why_text (reply_of w)) []) (sym c.in-TooManyChoices.is)) in
    subst (λ (w : List ℕ). OnOk c.add_place-in-TooManyChoices.result (c.add_place-in-TooManyChoices.new.out ≡ w)) whole c.add_place-in-TooManyChoices.ensures
