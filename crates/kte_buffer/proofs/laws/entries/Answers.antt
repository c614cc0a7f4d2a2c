use Rattle.kte_buffer.proofs.CallerLemmas.{EntryFits-entry, IsWithin-entry, lines_after-entry, touched_within}
use Rattle.kte_buffer.proofs.laws.entries.Goals as goal

pub returns : goal.returns
returns c = record { carries = EntryFits-entry; within = IsWithin-entry; lines = lines_after-entry; touched = touched_within }
