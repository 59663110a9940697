-- What stands for the names of a routine, and declarations with trees put in for names.
use Rattle.std.specs.Prelude.{List, map}
use Rattle.tla_token.specs.Signs.{is_among}
use Rattle.tla_tree.specs.Tree.{Graft, graft}
use Rattle.tla_value.specs.Grafts.{owned}
use Rattle.pcal_tree.specs.Algorithm.{Start, unset, equals, among, Declaration}
use Rattle.name_bits.specs.NamesIn.{names_in}
use Rattle.written_names.specs.Units.{naming_of}
use Rattle.prime_subst.specs.Readers.{renames_of}
use Rattle.prime_subst.specs.declared.localising.Local.{Local}
use Rattle.prime_subst.specs.declared.localising.Own.{Own}

-- its own variables and parameters by their written names
abbrev pub names_put : Local → Graft
names_put l = renames_of (is_among l.locals.now) ((naming_of l.naming.now).local l.unit)

-- the variables that each process has for itself, each as the process' own part
abbrev pub own_put : Own → Graft
own_put o = owned o.this.now (is_among (names_in o.order.now o.own.now))

-- ---- declarations: what they declare is as it was

abbrev pub graft_start : Graft → Start → Start
graft_start g unset = unset
graft_start g (equals e) = equals (graft g e)
graft_start g (among e) = among (graft g e)

abbrev pub graft_declaration : Graft → Declaration → Declaration
graft_declaration g d = record { name = d.name; start = graft_start g d.start }

abbrev pub graft_declarations : Graft → List Declaration → List Declaration
graft_declarations g ds = map (graft_declaration g) ds
