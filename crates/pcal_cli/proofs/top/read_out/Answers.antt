-- Proves that what is answered to the text that was read is answered to the file.
use Rattle.std.proofs.Common.{ℕ, List, subst}
use Rattle.pcal_cli.specs.Answers.{status_of}
use Rattle.pcal_cli.specs.Causes.{KeepsPromise}
use Rattle.pcal_cli.specs.Put.{Put}
use Rattle.pcal_cli.specs.Tasks.{as_command}
use Rattle.pcal_cli.proofs.Told.{told, read}
use Rattle.pcal_cli.proofs.FromPut.{answered_read}
use Rattle.pcal_cli.proofs.top.read_out.Goals as goal

pub returns-clause-answered : goal.returns-clause-answered
returns-clause-answered g c =
    let e = c.in-Ok.ensures in
    let put = subst (λ (x : List ℕ). Put g.K.Sink.wrote g.K.Sink.faults (as_command c.args.task) x (status_of c.put_written.result) c.args.out.now c.put_written.new.out) c.deref.ensures.value c.put_written.ensures.put in
    answered_read g.H.Shelf.texts g.H.Shelf.given g.H.Shelf.faults g.K.Sink.wrote g.K.Sink.faults (as_command c.args.task) (status_of c.put_written.result) c.args.shelf.now c.load.new.shelf c.args.out.now c.put_written.new.out c.in-Ok.text.items put c.args.name.now
    (record {
      text = e.text;
      short = e.short;
      rose = e.given;
      same = e.texts_stay;
      most = read _ _ e.within;
      once = e.read_once;
      few = e.read_few;
      grows = e.given_grows;
      kept = read _ _ e.counted;
    })

pub returns-clause-headline : goal.returns-clause-headline
returns-clause-headline g c = λ h.
    told (g.H.Shelf.texts c.args.shelf.now) c.args.name.now c.in-Ok.text.items (KeepsPromise (g.K.Sink.wrote c.args.out.now) (g.K.Sink.wrote c.put_written.new.out) (as_command c.args.task)) c.in-Ok.ensures.text
    (subst (λ (x : List ℕ). KeepsPromise (g.K.Sink.wrote c.args.out.now) (g.K.Sink.wrote c.put_written.new.out) (as_command c.args.task) x) c.deref.ensures.value (c.put_written.ensures.headline h))
