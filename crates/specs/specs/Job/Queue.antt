-- Queues and lists of jobs, as lists.
use Rattle.std.specs.Prelude.{◌≡◌, ◌++◌, List, Option}
use Rattle.std.specs.Option.{option_to_list}
use Rattle.specs.specs.declared.job.Job.{Job}
use Rattle.specs.specs.declared.job.LazyUpdate.{LazyUpdate}
use Rattle.specs.specs.declared.job.JobList.{JobList}

module _ {S J K V : Type 0} where
  -- the jobs of a queue, the first first
  abbrev pub queued : LazyUpdate S J K V → List (Job S J K V)
  queued q = q.jobs.items

  -- the jobs to come: that which found no memory, if there is one, and then the queue's
  abbrev pub to_come : Option (Job S J K V) → LazyUpdate S J K V → List (Job S J K V)
  to_come kept q = option_to_list kept ++ queued q

  -- jobs of which something holds come at the end of a queue
  abbrev pub QueuesMore : LazyUpdate S J K V → LazyUpdate S J K V → (List (Job S J K V) → Type 0) → Type 0
  QueuesMore old new R = (more : List (Job S J K V)) × (queued new ≡ queued old ++ more) × R more

  -- the jobs of a list, the first first
  abbrev pub listed : JobList S J K V → List (Job S J K V)
  listed q = q.jobs.items
