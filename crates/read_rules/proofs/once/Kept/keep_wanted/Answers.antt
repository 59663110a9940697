-- Proves that a use is kept where its name may matter.
use Rattle.std.proofs.lemmas.Result.{on_ok_weaker}
use Rattle.std.proofs.Common.{Some, sym, ap, ◌∙◌}
use Rattle.read_rules.specs.declared.uses.Use.{Use}
use Rattle.read_rules.specs.Sets.{origins}
use Rattle.read_rules.specs.WantedIn.{wants}
use Rattle.read_rules.proofs.KeptLaws.{keeps_skipped, keeps_wanted}
use Rattle.read_rules.proofs.once.Kept.keep_wanted.Goals as goal

pub returns-then-not-has : goal.returns-then-not-has
returns-then-not-has c =
    keeps_skipped (wants c.args.wanted.now) c.args.self.now.uses.entries (Some (origins c.args.after.now)) c.args.one.now (sym (ap (λ (u : Use). wants c.args.wanted.now u.name.word) c.one.view_is) ∙ sym c.has.ensures ∙ c.if-not-has.true)

pub returns : goal.returns
returns c =
    on_ok_weaker c.keep.result
    (λ done.
    keeps_wanted (wants c.args.wanted.now) c.args.self.now.uses.entries c.keep.new.self.uses.entries (Some (origins c.args.after.now)) c.args.one.now (sym (ap (λ (u : Use). wants c.args.wanted.now u.name.word) c.one.view_is) ∙ sym c.has.ensures ∙ c.if-not-has.false) done) c.keep.ensures
