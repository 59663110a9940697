-- What a call is one statement with, in memory and as a tree ("A PlusCal User's Manual", section 3.4, procedures).
use Rattle.std.specs.Prelude.{◌≡◌}
use Rattle.pcal_tree.specs.Algorithm.{Span}
use Rattle.pcal_tree.specs.Run as tree
use Rattle.step_items.specs.declared.partner.Partner.{Partner}
use Rattle.step_items.specs.declared.partner.Partner.TheVariants as partner

-- where a return stands is not in it
abbrev pub IsPartner : Partner → tree.Partner → Type 0
IsPartner partner.None p = p ≡ tree.no_partner
IsPartner (partner.Goto l) p = p ≡ tree.goto_partner l.now
IsPartner partner.Return p = (s : Span) × (p ≡ tree.return_partner s)
