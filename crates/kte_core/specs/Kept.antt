-- For which events a journal keeps room, so that they need no memory. This project's own rules.
use Rattle.std.specs.Prelude.{ℕ, ◌+◌, ◌-◌, Bool, false, not, List, length, filter, is_some, if◌then◌else◌}
use Rattle.kte_jobs.specs.Job.{Job, is_taken}
use Rattle.kte_core.specs.State.{State}
use Rattle.kte_core.specs.Jobs.{taken_at}
use Rattle.kte_core.specs.declared.reply.Reply.{Reply}
use Rattle.kte_core.specs.declared.reply.Reply.TheVariants.{Took, Delivered, Returned, Closed}
use Rattle.kte_core.specs.declared.request.Request.{Request}
use Rattle.kte_core.specs.declared.request.Request.TheVariants.{Close, GiveBack}

-- how many jobs a seat works on
abbrev pub count_taken : List Job → ℕ
count_taken jobs = length (filter (λ job. is_taken job.state) jobs)

-- for how many events there must be room: for the first close, and for the return of each job that
-- is taken
abbrev pub owed : State → ℕ
owed state = (if state.closed then 0 else 1) + count_taken state.jobs

-- the request has one of these events, in a session that is closed or not, with these jobs
abbrev pub is_kept : Bool → List Job → ℕ → Request → Bool
is_kept closed jobs seat Close = not closed
is_kept closed jobs seat (GiveBack job) = is_some (taken_at jobs seat job)
is_kept closed jobs seat _ = false

-- for how many there must be room after an event with this reply
abbrev pub kept_after : ℕ → Reply → ℕ
kept_after kept (Took job revision) = kept + 1
kept_after kept (Delivered job first count) = kept - 1
kept_after kept (Returned job) = kept - 1
kept_after kept Closed = kept - 1
kept_after kept _ = kept
