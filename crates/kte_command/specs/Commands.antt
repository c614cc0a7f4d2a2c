-- Which commands may be carried out. This project's own rules.
use Rattle.std.specs.Prelude.{◌<◌, length}
use Rattle.kte_find.specs.Rule.{HasWord}
use Rattle.kte_place.specs.Ends.{SpanIsInReach}
use Rattle.kte_place.specs.Place.{IsInReach}
use Rattle.kte_search.specs.declared.query.Query.{Query}
use Rattle.kte_command.specs.declared.command.Command.{Command}
use Rattle.kte_command.specs.declared.command.Command.TheVariants.{Edit, Begin, End, Undo, Redo, MakeRange, SetRange, DropRange, ShowRange, Lock, Unlock, Land, Fold, Unfold, Find, FindBack, All, Check, Sync, Save}

-- what is sought has at least one unit
abbrev pub HasPattern : Query → Type 0
HasPattern query = 0 < length query.pattern

-- the numbers of a command are in their ranges, and a query and a rule that look for something have
-- it
abbrev pub InRange : Command → Type 0
InRange (Edit change) = Unit {0}
InRange Begin = Unit {0}
InRange End = Unit {0}
InRange Undo = Unit {0}
InRange Redo = Unit {0}
InRange (MakeRange span expand empty) = SpanIsInReach span
InRange (SetRange id span) = SpanIsInReach span
InRange (DropRange id) = Unit {0}
InRange (ShowRange id) = Unit {0}
InRange Lock = Unit {0}
InRange (Unlock revision) = Unit {0}
InRange (Land revision span expand empty) = SpanIsInReach span
InRange (Fold span) = SpanIsInReach span
InRange (Unfold id) = Unit {0}
InRange (Find from query) = IsInReach from × HasPattern query
InRange (FindBack before query) = IsInReach before × HasPattern query
InRange (All query) = HasPattern query
InRange (Check rule) = HasWord rule
InRange Sync = Unit {0}
InRange Save = Unit {0}
