-- Proves that the first offence is found, and all names that are taken from the start.
use Rattle.std.proofs.Common.{List, [], ◌||◌, refl, sym, ap, ◌∙◌, arith}
use Rattle.std.proofs.lemmas.Result.{on_ok_weaker}
use Rattle.tla_token.specs.Signs.{is_among}
use Rattle.tla_tree.specs.Tree.{Tree, Word}
use Rattle.pcal_tree.specs.InMemory.{algorithm_at}
use Rattle.pcal_tree.specs.Names.{kept, taken_outside}
use Rattle.module_outside.specs.WholeAt.{outside_at}
use Rattle.declared_rules.specs.Met.{parts_words}
use Rattle.declared_rules.specs.Parts.{parts_of_algorithm}
use Rattle.declared_rules.proofs.FoundLaws.{first_is}
use Rattle.declared_rules.proofs.MetWalks.{among_both}
use Rattle.declared_rules.proofs.MetSwept.{all_taken}
use Rattle.declared_rules.proofs.MetWords.{kept_words}
use Rattle.declared_rules.proofs.walk.Walked.all.Goals as goal

pub all-requires : goal.all-requires
all-requires c = (c.in_ok-algorithm.ensures []).marks.met ∙ c.requires.met

pub sweep-requires : goal.sweep-requires
sweep-requires c =
    let many = (c.in_ok-algorithm.ensures []).marks.found ∙ (c.in_ok-titles.ensures []).many ∙ (c.outside.ensures []).many in omega (arith, many, c.requires.found)

pub returns-clause-first : goal.returns-clause-first
returns-clause-first c =
    on_ok_weaker c.all.result
    (λ done n f m.
    let ts : List Tree = c.args.pool.now in
    let many = (c.in_ok-titles.ensures []).many ∙ (c.outside.ensures []).many in
    first_is ts c.args.self.now.found c.outside.new.self c.titles.new.self c.algorithm.new.self.found c.args.self.now.found.modules n c.args.algorithm.now (outside_at ts c.args.outside.now) c.sweep.new.self.first
    refl f m (c.outside.ensures ts) (c.in_ok-titles.ensures ts) ((c.in_ok-algorithm.ensures ts).found (omega (arith, many, c.requires.found))) c.in_ok-sweep.ensures)
    c.all.ensures

pub returns-clause-taken : goal.returns-clause-taken
returns-clause-taken c =
    on_ok_weaker c.all.result
    (λ done n e f w.
    let ts : List Tree = c.args.pool.now in
    let out : List Word = taken_outside (outside_at ts c.args.outside.now) in
    let own : List Word = parts_words (parts_of_algorithm ts c.args.algorithm.now) in
    all_taken ts c.args.self.now.met c.algorithm.new.self.met n out own c.all.new.self.names e f ((c.in_ok-algorithm.ensures ts).met (omega (arith, c.requires.met))) done w
    ∙ among_both out own w
    ∙ ap (λ b. is_among out w || b) (kept_words ts c.args.algorithm.now w)
    ∙ sym (among_both out (kept (algorithm_at ts c.args.algorithm.now)) w))
    c.all.ensures
