-- In statements for which items can be written, several assignments to one variable are each to a part of it.
use Rattle.std.proofs.Common.{inl, inr}
use Rattle.tla_tree.specs.Tree.{Word}
use Rattle.pcal_tree.specs.Algorithm.{Statement, assign, await, print, assert, skip, branch, either, with, while, goto, macro, call, return, Statements, done, then, mark, Branches, no_branches, or}
use Rattle.action_builder.proofs.FitStatements.{OrOld, StatementFits, StatementsFit, OrsFit, IsPlain}
use Rattle.step_forms.specs.PartsAssigned.{InPartsOne, AllInParts, SomeInParts}

mutual
  one_in_parts : (N : Word → Type 0) (st : Statement) → IsPlain st → StatementFits N IsPlain st → InPartsOne st
  one_in_parts N (assign ms) p h = p
  one_in_parts N (await e) p h = tt
  one_in_parts N (print e) p h = tt
  one_in_parts N (assert e) p h = tt
  one_in_parts N skip p h = tt
  one_in_parts N (branch e a b) p h = (all_in_parts N a h.1, all_in_parts N b h.2)
  one_in_parts N (either bs) p h = some_in_parts N bs h
  one_in_parts N (with bs b) p (inl h) = all_in_parts N b h.1
  one_in_parts N (with bs b) p (inr h) = all_in_parts (OrOld N) b h.1
  one_in_parts N (while e b) p h = absurd p
  one_in_parts N (goto l) p h = absurd p
  one_in_parts N (macro m ts) p h = absurd p
  one_in_parts N (call q ts) p h = absurd p
  one_in_parts N return p h = absurd p

  pub all_in_parts : (N : Word → Type 0) (ss : Statements) → StatementsFit N IsPlain ss → AllInParts ss
  all_in_parts N done h = tt
  all_in_parts N (then at st rest) h = (one_in_parts N st h.0 h.1, all_in_parts N rest h.2)
  all_in_parts N (mark l k rest) h = all_in_parts N rest h.1

  some_in_parts : (N : Word → Type 0) (bs : Branches) → OrsFit N IsPlain bs → SomeInParts bs
  some_in_parts N no_branches h = tt
  some_in_parts N (or b bs) h = (all_in_parts N b h.0, some_in_parts N bs h.1)
