-- Proves that the first offence of the macros that are reached is found.
use Rattle.std.proofs.Common.{◌≤◌, ◌<◌, ◌+◌, ℕ, List, Option, sym, ap, ◌∙◌, subst}
use Rattle.tla_tree.specs.Tree.{Word}
use Rattle.tla_token.specs.declared.rule.Refusal.{Refusal}
use Rattle.pcal_tree.specs.declared.algorithm.Macro.{Macro}
use Rattle.pcal_tree.specs.declared.algorithm.Stmt.{Stmt}
use Rattle.pcal_tree.specs.InMemory.{statements_at}
use Rattle.pcal_tree.specs.Offences.{first}
use Rattle.pcal_tree.specs.OffencesCounts.{calls_of}
use Rattle.pcal_tree.specs.OffencesSelf.{selves}
use Rattle.pcal_tree.specs.Spots.{used_in_body}
use Rattle.algorithm_answer.specs.Joined.{joined}
use Rattle.algorithm_limits.specs.Numbers.{Numbers, number_of, with_number}
use Rattle.read_rules.specs.Calls.{AddsCalls}
use Rattle.read_rules.proofs.SelfLaws.{Reaches, reaches_start, reaches_passed, reaches_called, reaches_all}
use Rattle.read_rules.proofs.selves.with_macros.Goals.{then-get-gt0+in_ok-copied+in_ok-set+in_ok-add_calls+in_ok-found, else-get-gt0}
use Rattle.read_rules.proofs.selves.with_macros.Goals as goal

pub loop-i-init : goal.loop-i-init
loop-i-init c = λ calls h. reaches_start c.args.pool.now c.args.macros.now calls c.args.so_far c.args.called.now h

pub loop-i-preserved : goal.loop-i-preserved
loop-i-preserved c = λ calls h.
    let ts = c.args.pool.now in
    let ms = c.args.macros.now in
    let i = c.loop-i.i in
    let d = c.index-macros-macros.result in
    let old = c.loop-i.called in
    let word = ap (λ (e : Macro). e.name.word) c.one.view_is in
    let number = c.get.ensures ∙ ap (number_of old) word in
    elim c.if-get-gt0.branch [
      | then-get-gt0+in_ok-copied+in_ok-set+in_ok-add_calls+in_ok-found w ↦
          (let set = w.in_ok-set.ensures ∙ ap (λ (x : Word). with_number old x 0) (w.in_ok-copied.ensures ∙ word) in
          let marked = w.deref.ensures.value ∙ ap (λ (e : Macro). e.body.items) c.one.view_is in
          let body = w.deref-then-get-gt0.ensures.value ∙ ap (λ (e : Macro). e.body.items) c.one.view_is in
          reaches_called ts ms calls c.args.so_far c.loop-i.found c.if-get-gt0.found old c.if-get-gt0.called i d c.index-macros-macros.is c.loop-i-test.true
          (subst (λ (n : ℕ). 0 < n) number w.if-get-gt0.true)
          (subst (λ (es : Numbers). AddsCalls (with_number old d.name.word 0) es (calls_of (statements_at ts d.body.items))) (sym w.called-is)
          (subst (λ (es : Numbers). AddsCalls es w.add_calls.new.called (calls_of (statements_at ts d.body.items))) set
          (subst (λ (ss : List Stmt). AddsCalls w.set.new.self w.add_calls.new.called (calls_of (statements_at ts ss))) marked (w.in_ok-add_calls.ensures ts))))
          (w.found-is ∙ w.in_ok-found.ensures ∙ ap (λ (ss : List Stmt). joined c.loop-i.found (first (selves (used_in_body (statements_at ts ss))))) body)
          (c.loop-i.invariant calls h))
      | else-get-gt0 w ↦
          subst (λ (o : Option Refusal). Reaches ts ms calls c.args.so_far o c.if-get-gt0.called (i + 1)) (sym w.found-is)
          (subst (λ (es : Numbers). Reaches ts ms calls c.args.so_far c.loop-i.found es (i + 1)) (sym w.called-is)
          (reaches_passed ts ms calls c.args.so_far c.loop-i.found old i d c.index-macros-macros.is c.loop-i-test.true (subst (λ (n : ℕ). n ≤ 0) number w.if-get-gt0.false) (c.loop-i.invariant calls h)))
    ]

pub returns : goal.returns
returns c = λ calls h. reaches_all c.args.pool.now c.args.macros.now calls c.args.so_far c.loop-i.found c.loop-i.called c.loop-i.i c.loop-i-test.false (c.loop-i.invariant calls h)
