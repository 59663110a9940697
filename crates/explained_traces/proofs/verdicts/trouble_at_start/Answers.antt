-- Proves that it is asked of the processes of the program, in a state of its variables.
use Rattle.explained_traces.proofs.verdicts.trouble_at_start.Goals as goal

pub start_trouble-requires-clause-scene : goal.start_trouble-requires-clause-scene
start_trouble-requires-clause-scene c = record { whole = c.requires.judge.party.stage.whole; names = c.requires.state }
