-- Tables, of which reading and spelling both follow the rows, and the table of commands. This project's own
-- form
use Rattle.std.specs.Prelude.{ℕ, List, [], ◌∷◌, ◌++◌, codes, Option, Some, None, if◌then◌else◌}
use Rattle.std.specs.Str.{bytes_eq}
use Rattle.kte_edit.specs.declared.change.Change.TheVariants as Change
use Rattle.kte_command.specs.declared.command.Command.{Command}
use Rattle.kte_command.specs.declared.command.Command.TheVariants.{Edit, Begin, End, Undo, Redo, MakeRange, SetRange, DropRange, ShowRange, Lock, Unlock, Land, Fold, Unfold, Find, FindBack, All, Check, Sync, Save}
use Rattle.kte_script.specs.Fields.{ALine, Long, Kind, Number, APlace, ASpan, AText, AQuery, ARule, Expands, Empties, Value, spell_field}

-- a value for each field
abbrev pub Values : List Kind → Type 0
Values [] = Unit {0}
Values (kind ∷ kinds) = Value kind × Values kinds

-- The word that a line of a table begins with, the kinds of its fields, and what their values make
pub record Row (A : Type 0) : Type 0 where
  pub word : List ℕ
  pub kinds : List Kind
  pub make : Values kinds → A

-- `insert L C STRING`
abbrev pub insert_row : Row Command
insert_row = record {
  word = codes "insert";
  kinds = APlace ∷ AText ∷ [];
  make = λ v. Edit (Change.Insert v.0 v.1.0);
}

-- `wrap L C`
abbrev pub wrap_row : Row Command
wrap_row = record {
  word = codes "wrap";
  kinds = APlace ∷ [];
  make = λ v. Edit (Change.Wrap v.0);
}

-- `unwrap L`
abbrev pub unwrap_row : Row Command
unwrap_row = record {
  word = codes "unwrap";
  kinds = Number ALine ∷ [];
  make = λ v. Edit (Change.Unwrap v.0);
}

-- `remove L C L C`
abbrev pub remove_row : Row Command
remove_row = record {
  word = codes "remove";
  kinds = ASpan ∷ [];
  make = λ v. Edit (Change.Remove v.0);
}

-- `replace L C L C STRING`
abbrev pub replace_row : Row Command
replace_row = record {
  word = codes "replace";
  kinds = ASpan ∷ AText ∷ [];
  make = λ v. Edit (Change.Replace v.0 v.1.0);
}

-- `begin`
abbrev pub begin_row : Row Command
begin_row = record {
  word = codes "begin";
  kinds = [];
  make = λ v. Begin;
}

-- `end`
abbrev pub end_row : Row Command
end_row = record {
  word = codes "end";
  kinds = [];
  make = λ v. End;
}

-- `undo`
abbrev pub undo_row : Row Command
undo_row = record {
  word = codes "undo";
  kinds = [];
  make = λ v. Undo;
}

-- `redo`
abbrev pub redo_row : Row Command
redo_row = record {
  word = codes "redo";
  kinds = [];
  make = λ v. Redo;
}

-- `range L C L C EXPAND EMPTY`
abbrev pub range_row : Row Command
range_row = record {
  word = codes "range";
  kinds = ASpan ∷ Expands ∷ Empties ∷ [];
  make = λ v. MakeRange v.0 v.1.0 v.1.1.0;
}

-- `setrange ID L C L C`
abbrev pub setrange_row : Row Command
setrange_row = record {
  word = codes "setrange";
  kinds = Number Long ∷ ASpan ∷ [];
  make = λ v. SetRange v.0 v.1.0;
}

-- `droprange ID`
abbrev pub droprange_row : Row Command
droprange_row = record {
  word = codes "droprange";
  kinds = Number Long ∷ [];
  make = λ v. DropRange v.0;
}

-- `where ID`
abbrev pub where_row : Row Command
where_row = record {
  word = codes "where";
  kinds = Number Long ∷ [];
  make = λ v. ShowRange v.0;
}

-- `lock`
abbrev pub lock_row : Row Command
lock_row = record {
  word = codes "lock";
  kinds = [];
  make = λ v. Lock;
}

-- `unlock R`
abbrev pub unlock_row : Row Command
unlock_row = record {
  word = codes "unlock";
  kinds = Number Long ∷ [];
  make = λ v. Unlock v.0;
}

-- `land R L C L C EXPAND EMPTY`
abbrev pub land_row : Row Command
land_row = record {
  word = codes "land";
  kinds = Number Long ∷ ASpan ∷ Expands ∷ Empties ∷ [];
  make = λ v. Land v.0 v.1.0 v.1.1.0 v.1.1.1.0;
}

-- `fold L C L C`
abbrev pub fold_row : Row Command
fold_row = record {
  word = codes "fold";
  kinds = ASpan ∷ [];
  make = λ v. Fold v.0;
}

-- `unfold ID`
abbrev pub unfold_row : Row Command
unfold_row = record {
  word = codes "unfold";
  kinds = Number Long ∷ [];
  make = λ v. Unfold v.0;
}

-- `find L C STRING CASE WHOLE`
abbrev pub find_row : Row Command
find_row = record {
  word = codes "find";
  kinds = APlace ∷ AQuery ∷ [];
  make = λ v. Find v.0 v.1.0;
}

-- `findback L C STRING CASE WHOLE`
abbrev pub findback_row : Row Command
findback_row = record {
  word = codes "findback";
  kinds = APlace ∷ AQuery ∷ [];
  make = λ v. FindBack v.0 v.1.0;
}

-- `all STRING CASE WHOLE`
abbrev pub all_row : Row Command
all_row = record {
  word = codes "all";
  kinds = AQuery ∷ [];
  make = λ v. All v.0;
}

-- `check RULE`
abbrev pub check_row : Row Command
check_row = record {
  word = codes "check";
  kinds = ARule ∷ [];
  make = λ v. Check v.0;
}

-- `sync`
abbrev pub sync_row : Row Command
sync_row = record {
  word = codes "sync";
  kinds = [];
  make = λ v. Sync;
}

-- `save`
abbrev pub save_row : Row Command
save_row = record {
  word = codes "save";
  kinds = [];
  make = λ v. Save;
}

-- the commands that search
abbrev pub find_rows : List (Row Command)
find_rows = find_row ∷ findback_row ∷ all_row ∷ []

-- the commands about ranges, folds and searches
abbrev pub range_rows : List (Row Command)
range_rows =
    range_row ∷ setrange_row ∷ droprange_row ∷ where_row ∷ land_row ∷ fold_row ∷ unfold_row
    ∷ find_rows

-- the commands about transactions, revisions, jobs, the disk, ranges, folds and searches
abbrev pub other_rows : List (Row Command)
other_rows =
    begin_row ∷ end_row ∷ undo_row ∷ redo_row ∷ lock_row ∷ unlock_row ∷ check_row ∷ sync_row
    ∷ save_row ∷ range_rows

-- all commands
abbrev pub table : List (Row Command)
table = insert_row ∷ wrap_row ∷ unwrap_row ∷ remove_row ∷ replace_row ∷ other_rows

-- the row of a word
abbrev pub row_in : {A : Type 0} → List (Row A) → List ℕ → Option (Row A)
row_in [] word = None
row_in (row ∷ rows) word = if bytes_eq word row.word then Some row else row_in rows word

-- a row of a table with a value for each of its fields
pub record Filled (A : Type 0) : Type 0 where
  pub row : Row A
  pub values : Values row.kinds

-- the row and the values that make a command
abbrev pub filled : Command → Filled Command
filled (Edit (Change.Insert place text)) =
    record { row = insert_row; values = (place, (text, tt)) }
filled (Edit (Change.Wrap place)) = record { row = wrap_row; values = (place, tt) }
filled (Edit (Change.Unwrap line)) = record { row = unwrap_row; values = (line, tt) }
filled (Edit (Change.Remove span)) = record { row = remove_row; values = (span, tt) }
filled (Edit (Change.Replace span text)) =
    record { row = replace_row; values = (span, (text, tt)) }
filled Begin = record { row = begin_row; values = tt }
filled End = record { row = end_row; values = tt }
filled Undo = record { row = undo_row; values = tt }
filled Redo = record { row = redo_row; values = tt }
filled (MakeRange span expand empty) =
    record { row = range_row; values = (span, (expand, (empty, tt))) }
filled (SetRange id span) = record { row = setrange_row; values = (id, (span, tt)) }
filled (DropRange id) = record { row = droprange_row; values = (id, tt) }
filled (ShowRange id) = record { row = where_row; values = (id, tt) }
filled Lock = record { row = lock_row; values = tt }
filled (Unlock revision) = record { row = unlock_row; values = (revision, tt) }
filled (Land revision span expand empty) =
    record { row = land_row; values = (revision, (span, (expand, (empty, tt)))) }
filled (Fold span) = record { row = fold_row; values = (span, tt) }
filled (Unfold id) = record { row = unfold_row; values = (id, tt) }
filled (Find from query) = record { row = find_row; values = (from, (query, tt)) }
filled (FindBack before query) = record { row = findback_row; values = (before, (query, tt)) }
filled (All query) = record { row = all_row; values = (query, tt) }
filled (Check rule) = record { row = check_row; values = (rule, tt) }
filled Sync = record { row = sync_row; values = tt }
filled Save = record { row = save_row; values = tt }

abbrev pub spell_fields : (kinds : List Kind) → Values kinds → List ℕ
spell_fields [] values = []
spell_fields (kind ∷ kinds) values = spell_field kind values.0 ++ spell_fields kinds values.1

-- the word of a row, and its fields
abbrev pub spell_filled : {A : Type 0} → Filled A → List ℕ
spell_filled f = f.row.word ++ spell_fields f.row.kinds f.values

-- the canonical spelling of a command
abbrev pub spelling : Command → List ℕ
spelling command = spell_filled (filled command)
