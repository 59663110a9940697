-- The module that a text is, by its parts, and why it is none.
use Rattle.std.proofs.Common.{length, sym, ◌∙◌, subst}
use Rattle.std.proofs.lemmas.Result.{err_from_is_err_and}
use Rattle.tla_token.specs.declared.rule.Rule.TheVariants.{Syntax}
use Rattle.tla_tree.specs.Tree.{Word}
use Rattle.tla_value.proofs.DefsGrown.{DefinitionsIn-more}
use Rattle.module_write.specs.InMemory.{outside_at, region_at}
use Rattle.region_reading.specs.ReadAnswer.{beginning, ReadsModule}
use Rattle.module_reading.proofs.OutsideKept.{outside_kept}
use Rattle.module_reading.proofs.ByParts.{told, same_stop, unsound, refused_by, is_read}
use Rattle.module_reading.proofs.read.of_parts.Goals as goal

pub returns-then-not-are_sound-clause-refuses : goal.returns-then-not-are_sound-clause-refuses
returns-then-not-are_sound-clause-refuses c r e =
    told c.args.text.now (record { rule = Syntax; place = beginning }) c.refused.result c.refused.ensures
    (unsound c.args.text.now c.args.parts.now c.requires (sym c.are_sound.ensures ∙ c.if-not-are_sound.true)) r e

pub returns-in_err-region-clause-refuses : goal.returns-in_err-region-clause-refuses
returns-in_err-region-clause-refuses c r e =
    let p = err_from_is_err_and c.from_residual-in_err-region.result c.from_residual-in_err-region.ensures.1 in
    refused_by c.args.text.now c.args.parts.now c.requires (sym c.are_sound.ensures ∙ c.if-not-are_sound.false) c.in_err-region.field-0.0 r (sym p.2 ∙ same_stop p.0 _ (sym p.1 ∙ e)) c.in_err-region.ensures.none

pub returns-clause-reads : goal.returns-clause-reads
returns-clause-reads c =
    let x = c.args.text.now in
    let kept = c.in_ok-region.ensures.kept in
    let o = c.in_ok-outside.outside in
    let g = region_at c.translation.new.pool c.in_ok-region.region in
    let same = outside_kept c.outside.new.pool c.translation.new.pool kept o c.in_ok-outside.ensures.within ∙ c.in_ok-outside.ensures.read in
    subst (λ (t : Word). ReadsModule x (record { title = t; outside = outside_at c.translation.new.pool o; region = g })) (sym c.in_ok-title.ensures)
    (is_read x c.args.parts.now c.requires (sym c.are_sound.ensures ∙ c.if-not-are_sound.false) (outside_at c.translation.new.pool o) g same c.in_ok-region.ensures.read)

pub returns-clause-outside : goal.returns-clause-outside
returns-clause-outside c = DefinitionsIn-more (length c.outside.new.pool) (length c.translation.new.pool) c.in_ok-outside.outside.definitions c.in_ok-region.ensures.kept.longer c.in_ok-outside.ensures.within
