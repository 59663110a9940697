-- Proves that names are looked at where they are to be.
use Rattle.std.proofs.lemmas.Result.{on_ok_weaker}
use Rattle.std.proofs.Common.{List, [], ◌∷◌, codes, subst}
use Rattle.tla_tree.specs.Tree.{Word}
use Rattle.algorithm_limits.specs.DepthsIn.{Hides}
use Rattle.declared_rules.specs.Macros.{macro_names}
use Rattle.declared_rules.proofs.WholeLaws.{own_is, far_within, further_within}
use Rattle.declared_rules.proofs.rebinds.Sights.stand.Goals as goal

pub returns : goal.returns
returns c =
    on_ok_weaker c.add_params.result
    (λ a m h p.
    let names = macro_names c.args.macros.now in
    let own = subst (λ (b : List Word). Hides b c.add.new.self (codes "self" ∷ [])) h.own (subst (λ (w : Word). Hides c.args.self.now.own.stands c.add.new.self (w ∷ [])) p c.in_ok-add.ensures) in
    let far = subst (λ (b : List Word). Hides b c.add_params.new.names (codes "self" ∷ names)) h.far (subst (λ (w : Word). Hides c.args.self.now.far.stands c.add_params.new.names (w ∷ names)) p a) in
    record {
      near_modules = h.near_modules;
      own_modules = h.own_modules;
      far_modules = h.far_modules;
      alone = h.near;
      own = own_is c.add.new.self own;
      far = far_within c.add_params.new.names names (codes "self") far;
      further = further_within c.add_params.new.names c.add.new.self names far own;
    }) c.add_params.ensures
