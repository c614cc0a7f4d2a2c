-- The two files of a disk, and the calls that read them. This project's own rules.
use Rattle.std.specs.Prelude.{ℕ, List, Option}
use Rattle.kte_causes.specs.Moments.{Moment, saved_now, swap_now}
use Rattle.kte_causes.specs.declared.causes.DiskCall.{DiskCall}
use Rattle.kte_causes.specs.declared.causes.DiskCall.TheVariants.{SavedLen, SavedAt, SwapLen, SwapAt}
use Rattle.kte_run.specs.declared.saved.DiskFile.{DiskFile}
use Rattle.kte_run.specs.declared.saved.DiskFile.TheVariants.{Saved, Swap}

-- the bytes of a file in the last moment, where moments are told
abbrev pub file_now : DiskFile → Option (List Moment) → Option (List ℕ)
file_now Saved moments = saved_now moments
file_now Swap moments = swap_now moments

-- the call that returns its length
abbrev pub len_of : DiskFile → DiskCall
len_of Saved = SavedLen
len_of Swap = SwapLen

-- .. and the one that reads it
abbrev pub at_of : DiskFile → DiskCall
at_of Saved = SavedAt
at_of Swap = SwapAt
