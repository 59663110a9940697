-- Proves that what stands for names is that of the routine.
use Rattle.tla_token.specs.Signs.{is_among}
use Rattle.name_bits.specs.NamesIn.{names_in}
use Rattle.written_names.specs.Units.{naming_of}
use Rattle.running.proofs.PlacesLaws.{names_alike, own_alike}
use Rattle.running.proofs.locals.places_of.Goals as goal

pub returns : goal.returns
returns c = λ P u number names naming own this. record {
  names = names_alike c.args.names.now (naming_of c.args.naming.now) c.args.number P u naming number names;
  own = own_alike c.args.this.now (is_among (names_in c.args.order.now c.args.own.now)) P this own;
}
