-- What a process's step comes to by a list of choices, by the course that these leave.
use Rattle.std.specs.Prelude.{◌≡◌, ℕ, Some, None}
use Rattle.std.specs.Option.{option_map}
use Rattle.tla_token.specs.declared.place.Place.{Place}
use Rattle.tla_value.specs.States.{Entries}
use Rattle.pcal_tree.specs.Run.{Course, chooses, Courses}
use Rattle.pcal_tree.specs.Choices.{count_courses, first_trouble}
use Rattle.pcal_tree.specs.StepAnswers.{Reply, needs_choice, stopped_by}
use Rattle.step_moves.specs.declared.actor.Actor.{Actor}
use Rattle.step_moves.specs.InMemory.{actor_at}
use Rattle.step_moves.specs.StatesOf.{state_of}
use Rattle.run_files.specs.InMemory.{trouble_of}
use Rattle.written_runs.specs.WrittenTroubles.{written_step}
use Rattle.followed_runs.specs.declared.party.Party.{Party}
use Rattle.followed_runs.specs.Parties.{program_of}
use Rattle.followed_runs.specs.declared.trying.Came.{Came}
use Rattle.followed_runs.specs.declared.trying.Came.TheVariants as came

-- the courses of its step, by the written names
abbrev pub step_by : Party → Actor → Entries → Course
step_by p a m = written_step (program_of p) (actor_at p.stage.program.pool.now a) (state_of m)

-- one of so many courses
abbrev pub Chooses : ℕ → Course → Type 0
Chooses n c = (at : Place) × (cs : Courses) × (c ≡ chooses at cs) × (count_courses cs ≡ n)

abbrev pub Leads : {X : Type 0} → Reply X → Course → Type 0
Leads (stopped_by k) c = first_trouble c ≡ Some k
Leads (needs_choice n at) c = Chooses n c
Leads _ c = first_trouble c ≡ None

abbrev pub ComesTo : Came → Course → Type 0
ComesTo (came.Over o) c = option_map trouble_of o ≡ first_trouble c
ComesTo (came.Wants n) c = Chooses n c
