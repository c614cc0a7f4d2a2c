-- Worked examples of the definitions.
use Rattle.std.proofs.Common.{◌≡◌, [], ◌∷◌, ◌++◌, refl, Ok, Err, Some, None}
use Rattle.std.specs.Prelude.{codes, true, false}
use Rattle.std.specs.Char.{encode_utf8}
use Rattle.std.specs.Char.Utf16.{utf16_chars}
use Rattle.std.specs.Fmt.{digits}
use Rattle.std.specs.Str.{is_utf8, chars}
use Rattle.kte_place.specs.Place.{at}
use Rattle.kte_place.specs.Examples.{span, expand}
use Rattle.kte_place.specs.declared.span.Empty.TheVariants.{Allow, Void}
use Rattle.kte_edit.specs.declared.change.Change.TheVariants as Change
use Rattle.kte_command.specs.declared.command.Command.TheVariants.{Edit, Begin, End, Undo, Redo, MakeRange, SetRange, DropRange, Fold, Unfold, Find, FindBack, All, Check, Sync, Save}
use Rattle.kte_find.specs.declared.rule.Rule.TheVariants as rules
use Rattle.kte_script.specs.declared.limits.Limits.TheVariants.{Journal}
use Rattle.kte_script.specs.Words.{skip, word, behind, is_number, number_of}
use Rattle.kte_script.specs.Strings.{string_from, string_at, line_in, text_in, pattern_in, spell_byte, spell_text}
use Rattle.kte_script.specs.Fields.{number_at, place_at, span_at, text_at, spans_at, pattern_at, folds_of, folds_at, whole_of, whole_at, how_at, query_of, query_at, rule_name, rule_at, expand_of, expand_at, empty_of, empty_at}
use Rattle.kte_script.specs.Table.{table, spelling}
use Rattle.kte_script.specs.Reading.{row_at, front_at, end_at, command_at}
use Rattle.kte_script.specs.Script.{lines_of}

-- ---- reading: a command, or how many bytes are left from the word at fault on

wrapped : command_at (codes "  wrap 01   5 ") ≡ Ok (Edit (Change.Wrap (at 1 5)))
unfolding skip word behind is_number number_of number_at place_at row_at front_at end_at command_at
wrapped = refl

ordered : command_at (codes "range 2 0 1 3 left void") ≡ Ok (MakeRange (span 1 3 2 0) (expand true false) Void)
unfolding skip word behind is_number number_of number_at place_at span_at expand_of expand_at empty_of empty_at row_at front_at end_at command_at
ordered = refl

-- the places of a span in either order, on one line and over several
removed : command_at (codes "remove 1 5 1 2") ≡ Ok (Edit (Change.Remove (span 1 2 1 5)))
unfolding skip word behind is_number number_of number_at place_at span_at row_at front_at end_at command_at
removed = refl

removed_lines : command_at (codes "remove 2 0 0 7") ≡ Ok (Edit (Change.Remove (span 0 7 2 0)))
unfolding skip word behind is_number number_of number_at place_at span_at row_at front_at end_at command_at
removed_lines = refl

unwrapped : command_at (codes "unwrap 1073741824") ≡ Ok (Edit (Change.Unwrap 1073741824))
unfolding skip word behind is_number number_of number_at place_at row_at front_at end_at command_at
unwrapped = refl

-- `insert 0 1 "a\nb"` and `replace 0 0 2 0 "z"`
inserted : command_at (codes "insert 0 1 " ++ 34 ∷ 97 ∷ 92 ∷ 110 ∷ 98 ∷ 34 ∷ [])
    ≡ Ok (Edit (Change.Insert (at 0 1) (codes "a" ∷ codes "b" ∷ [])))
unfolding skip word behind is_number number_of number_at place_at string_from string_at line_in text_in text_at is_utf8 chars encode_utf8 row_at front_at end_at command_at
inserted = refl

replaced : command_at (codes "replace 0 0 2 0 " ++ 34 ∷ 122 ∷ 34 ∷ [])
    ≡ Ok (Edit (Change.Replace (span 0 0 2 0) (codes "z" ∷ [])))
unfolding skip word behind is_number number_of number_at place_at span_at string_from string_at line_in text_in text_at is_utf8 chars encode_utf8 row_at front_at end_at command_at
replaced = refl

-- a string is missing, and another word stands there
no_string : command_at (codes "replace 0 0 2 0") ≡ Err 0
unfolding skip word behind is_number number_of number_at place_at span_at string_from string_at line_in text_in text_at is_utf8 chars encode_utf8 row_at front_at end_at command_at
no_string = refl

word_for_string : command_at (codes "replace 0 0 2 0 z 1") ≡ Err 3
unfolding skip word behind is_number number_of number_at place_at span_at string_from string_at line_in text_in text_at is_utf8 chars encode_utf8 row_at front_at end_at command_at
word_for_string = refl

begun : command_at (codes "begin") ≡ Ok Begin
unfolding skip word behind row_at front_at end_at command_at
begun = refl

ended_by : command_at (codes " end  ") ≡ Ok End
unfolding skip word behind row_at front_at end_at command_at
ended_by = refl

undone : command_at (codes "undo") ≡ Ok Undo
unfolding skip word behind row_at front_at end_at command_at
undone = refl

redone : command_at (codes "redo") ≡ Ok Redo
unfolding skip word behind row_at front_at end_at command_at
redone = refl

begin_one : command_at (codes "begin 1") ≡ Err 1
unfolding skip word behind row_at front_at end_at command_at
begin_one = refl

second_number : command_at (codes "wrap 1 x9") ≡ Err 2
unfolding skip word behind is_number number_of number_at place_at row_at front_at end_at command_at
second_number = refl

-- a word is missing after spaces, and one is too many
missing : command_at (codes "wrap 007   ") ≡ Err 0
unfolding skip word behind is_number number_of number_at place_at row_at front_at end_at command_at
missing = refl

too_many : command_at (codes "where 1 2") ≡ Err 1
unfolding skip word behind is_number number_of number_at row_at front_at end_at command_at
too_many = refl

too_great : command_at (codes "droprange 4294967296") ≡ Err 10
unfolding skip word behind is_number number_of number_at row_at front_at end_at command_at
too_great = refl

eleven_digits : command_at (codes "unwrap 00000000000") ≡ Err 11
unfolding skip word behind is_number number_of number_at row_at front_at end_at command_at
eleven_digits = refl

-- rules
checked_word : command_at (codes "check word " ++ 34 ∷ 97 ∷ 98 ∷ 34 ∷ []) ≡ Ok (Check (rules.Word (codes "ab")))
unfolding skip word behind string_from string_at line_in pattern_in pattern_at is_utf8 chars encode_utf8 rule_name rule_at row_at front_at end_at command_at
checked_word = refl

checked_blanks : command_at (codes " check  blanks ") ≡ Ok (Check rules.Blanks)
unfolding skip word behind rule_name rule_at row_at front_at end_at command_at
checked_blanks = refl

checked_long : command_at (codes "check long 080") ≡ Ok (Check (rules.Long 80))
unfolding skip word behind is_number number_of number_at rule_name rule_at row_at front_at end_at command_at
checked_long = refl

checked_pairs : command_at (codes "check pairs") ≡ Ok (Check rules.Pairs)
unfolding skip word behind rule_name rule_at row_at front_at end_at command_at
checked_pairs = refl

checked_repeat : command_at (codes "check repeat") ≡ Ok (Check rules.Repeat)
unfolding skip word behind rule_name rule_at row_at front_at end_at command_at
checked_repeat = refl

no_rule : command_at (codes "check foo") ≡ Err 3
unfolding skip word behind rule_name rule_at row_at front_at end_at command_at
no_rule = refl

-- no word and several lines are no pattern
no_word : command_at (codes "check word " ++ 34 ∷ 34 ∷ []) ≡ Err 2
unfolding skip word behind string_from string_at line_in pattern_in pattern_at is_utf8 chars encode_utf8 rule_name rule_at row_at front_at end_at command_at
no_word = refl

two_words : command_at (codes "check word " ++ 34 ∷ 97 ∷ 92 ∷ 110 ∷ 34 ∷ []) ≡ Err 5
unfolding skip word behind string_from string_at line_in pattern_in pattern_at is_utf8 chars encode_utf8 rule_name rule_at row_at front_at end_at command_at
two_words = refl

-- folds and searches
folded : command_at (codes "fold 2 0 1 0") ≡ Ok (Fold (span 1 0 2 0))
unfolding skip word behind is_number number_of number_at place_at span_at row_at front_at end_at command_at
folded = refl

unfolded : command_at (codes "unfold 4294967295") ≡ Ok (Unfold 4294967295)
unfolding skip word behind is_number number_of number_at row_at front_at end_at command_at
unfolded = refl

unfolded_too_far : command_at (codes "unfold 4294967296") ≡ Err 10
unfolding skip word behind is_number number_of number_at row_at front_at end_at command_at
unfolded_too_far = refl

sought : command_at (codes "find 0 0 " ++ 34 ∷ 97 ∷ 34 ∷ codes " case part")
    ≡ Ok (Find (at 0 0) (query_of (codes "a") (false, false)))
unfolding skip word behind is_number number_of number_at place_at string_from string_at line_in pattern_in pattern_at is_utf8 chars encode_utf8 folds_of folds_at whole_of whole_at how_at query_at row_at front_at end_at command_at
sought = refl

sought_back : command_at (codes "findback 3 7 " ++ 34 ∷ 97 ∷ 98 ∷ 34 ∷ codes " nocase part")
    ≡ Ok (FindBack (at 3 7) (query_of (codes "ab") (true, false)))
unfolding skip word behind is_number number_of number_at place_at string_from string_at line_in pattern_in pattern_at is_utf8 chars encode_utf8 folds_of folds_at whole_of whole_at how_at query_at row_at front_at end_at command_at
sought_back = refl

sought_all : command_at (codes "all " ++ 34 ∷ 97 ∷ 34 ∷ codes "  case  word ") ≡ Ok (All (query_of (codes "a") (false, true)))
unfolding skip word behind string_from string_at line_in pattern_in pattern_at is_utf8 chars encode_utf8 folds_of folds_at whole_of whole_at how_at query_at row_at front_at end_at command_at
sought_all = refl

-- what is sought is not empty and no several lines
nothing_sought : command_at (codes "find 0 0 " ++ 34 ∷ 34 ∷ codes " case part") ≡ Err 12
unfolding skip word behind is_number number_of number_at place_at string_from string_at line_in pattern_in pattern_at is_utf8 chars encode_utf8 folds_of folds_at whole_of whole_at how_at query_at row_at front_at end_at command_at
nothing_sought = refl

lines_sought : command_at (codes "find 0 0 " ++ 34 ∷ 97 ∷ 92 ∷ 110 ∷ 98 ∷ 34 ∷ codes " case part") ≡ Err 16
unfolding skip word behind is_number number_of number_at place_at string_from string_at line_in pattern_in pattern_at is_utf8 chars encode_utf8 folds_of folds_at whole_of whole_at how_at query_at row_at front_at end_at command_at
lines_sought = refl

no_case : command_at (codes "find 0 0 " ++ 34 ∷ 97 ∷ 34 ∷ codes " Case part") ≡ Err 9
unfolding skip word behind is_number number_of number_at place_at string_from string_at line_in pattern_in pattern_at is_utf8 chars encode_utf8 folds_of folds_at whole_of whole_at how_at query_at row_at front_at end_at command_at
no_case = refl

no_whole : command_at (codes "all " ++ 34 ∷ 97 ∷ 34 ∷ codes " case") ≡ Err 0
unfolding skip word behind string_from string_at line_in pattern_in pattern_at is_utf8 chars encode_utf8 folds_of folds_at whole_of whole_at how_at query_at row_at front_at end_at command_at
no_whole = refl

-- calls of the disk have no fields
script_sync : command_at (codes "sync") ≡ Ok Sync
unfolding skip word behind row_at front_at end_at command_at
script_sync = refl

script_save : command_at (codes " save  ") ≡ Ok Save
unfolding skip word behind row_at front_at end_at command_at
script_save = refl

sync_now : command_at (codes "sync now") ≡ Err 3
unfolding skip word behind row_at front_at end_at command_at
sync_now = refl

synced : front_at Journal table (codes "sync = asked") ≡ Ok (Sync, codes " = asked")
unfolding skip word behind row_at front_at
synced = refl

saved : front_at Journal table (codes "save ") ≡ Ok (Save, codes " ")
unfolding skip word behind row_at front_at
saved = refl

-- numbers of a journal are as large as their types
greatest : front_at Journal table (codes "droprange 18446744073709551615 ") ≡ Ok (DropRange 18446744073709551615, codes " ")
unfolding skip word behind is_number number_of number_at row_at front_at
greatest = refl

above : front_at Journal table (codes "droprange 18446744073709551616") ≡ Err 20
unfolding skip word behind is_number number_of number_at row_at front_at
above = refl

-- spans go on while a digit begins the next word
found : spans_at Journal (codes " 0 1 0 2 1 0 1 9 = 2") ≡ Ok (span 0 1 0 2 ∷ span 1 0 1 9 ∷ [], codes " = 2")
unfolding skip word behind is_number number_of number_at place_at span_at spans_at
found = refl

nothing_found : spans_at Journal (codes "") ≡ Ok ([], codes "")
unfolding spans_at
nothing_found = refl

half_found : spans_at Journal (codes " 0 1 0 2 1 0 x 9") ≡ Err 3
unfolding skip word behind is_number number_of number_at place_at span_at spans_at
half_found = refl

-- ---- strings

-- `"a\"\x07" b`: a mark that is escaped does not end it
quoted : string_at (34 ∷ 97 ∷ 92 ∷ 34 ∷ 92 ∷ 120 ∷ 48 ∷ 55 ∷ 34 ∷ codes " b") ≡ Some (record { text = 97 ∷ 34 ∷ 7 ∷ []; rest = codes " b" })
unfolding string_from string_at
quoted = refl

-- `"\x0d"`: CR has no escape
no_cr : string_at (34 ∷ 92 ∷ 120 ∷ 48 ∷ 100 ∷ 34 ∷ []) ≡ None
unfolding string_from string_at
no_cr = refl

-- `"\x0a"` and `"\r"`: LF is written by `\n` alone, and CR by nothing
no_lf : string_at (34 ∷ 92 ∷ 120 ∷ 48 ∷ 97 ∷ 34 ∷ []) ≡ None
unfolding string_from string_at
no_lf = refl

no_r : string_at (34 ∷ 92 ∷ 114 ∷ 34 ∷ []) ≡ None
unfolding string_from string_at
no_r = refl

-- texts: two lines, an end at the end, an end alone, and nothing, which is one empty line
two_lines : text_in (97 ∷ 10 ∷ 98 ∷ []) ≡ Some (codes "a" ∷ codes "b" ∷ [])
unfolding line_in text_in is_utf8 chars encode_utf8
two_lines = refl

end_last : text_in (97 ∷ 10 ∷ []) ≡ Some (codes "a" ∷ [] ∷ [])
unfolding line_in text_in is_utf8 chars encode_utf8
end_last = refl

end_alone : text_in (10 ∷ []) ≡ Some ([] ∷ [] ∷ [])
unfolding line_in text_in is_utf8 chars encode_utf8
end_alone = refl

empty_string : text_in [] ≡ Some ([] ∷ [])
unfolding line_in text_in is_utf8 chars encode_utf8
empty_string = refl

-- ---- lines

split : lines_of (codes "a" ++ (13 ∷ 10 ∷ 13 ∷ 13 ∷ 10 ∷ codes "b" ++ (13 ∷ []))) ≡ codes "a" ∷ (13 ∷ []) ∷ (98 ∷ 13 ∷ []) ∷ []
split = refl

ended : lines_of (codes "a" ++ (10 ∷ [])) ≡ codes "a" ∷ [] ∷ []
ended = refl

-- ---- spelling

spelled_removal : spelling (Edit (Change.Remove (span 1 2 3 0))) ≡ codes "remove 1 2 3 0"
unfolding digits
spelled_removal = refl

-- `insert 0 1 "a\nb"`, `insert 0 0 "\n"` and `replace 0 0 2 0 ""`
spelled_lines : spelling (Edit (Change.Insert (at 0 1) (codes "a" ∷ codes "b" ∷ [])))
    ≡ codes "insert 0 1 " ++ 34 ∷ 97 ∷ 92 ∷ 110 ∷ 98 ∷ 34 ∷ []
unfolding digits spell_byte spell_text utf16_chars encode_utf8
spelled_lines = refl

spelled_end : spelling (Edit (Change.Insert (at 0 0) ([] ∷ [] ∷ []))) ≡ codes "insert 0 0 " ++ 34 ∷ 92 ∷ 110 ∷ 34 ∷ []
unfolding digits spell_byte spell_text utf16_chars encode_utf8
spelled_end = refl

spelled_nothing : spelling (Edit (Change.Replace (span 0 0 2 0) ([] ∷ []))) ≡ codes "replace 0 0 2 0 " ++ 34 ∷ 34 ∷ []
unfolding digits spell_byte spell_text utf16_chars encode_utf8
spelled_nothing = refl

spelled_begin : spelling Begin ≡ codes "begin"
spelled_begin = refl

spelled_end_of_it : spelling End ≡ codes "end"
spelled_end_of_it = refl

spelled_undo : spelling Undo ≡ codes "undo"
spelled_undo = refl

spelled_redo : spelling Redo ≡ codes "redo"
spelled_redo = refl

spelled_range : spelling (MakeRange (span 1 3 2 0) (expand true true) Allow) ≡ codes "range 1 3 2 0 both allow"
unfolding digits
spelled_range = refl

spelled_set : spelling (SetRange 7 (span 0 0 0 10)) ≡ codes "setrange 7 0 0 0 10"
unfolding digits
spelled_set = refl

spelled_word : spelling (Check (rules.Word (codes "ab"))) ≡ codes "check word " ++ 34 ∷ 97 ∷ 98 ∷ 34 ∷ []
unfolding spell_byte spell_text utf16_chars encode_utf8
spelled_word = refl

spelled_fold : spelling (Fold (span 1 0 2 0)) ≡ codes "fold 1 0 2 0"
unfolding digits
spelled_fold = refl

spelled_unfold : spelling (Unfold 7) ≡ codes "unfold 7"
unfolding digits
spelled_unfold = refl

spelled_find : spelling (Find (at 0 12) (query_of (codes "a") (false, false))) ≡ codes "find 0 12 " ++ 34 ∷ 97 ∷ 34 ∷ codes " case part"
unfolding digits spell_byte spell_text utf16_chars encode_utf8
spelled_find = refl

spelled_find_back : spelling (FindBack (at 3 0) (query_of (codes "a") (false, true))) ≡ codes "findback 3 0 " ++ 34 ∷ 97 ∷ 34 ∷ codes " case word"
unfolding digits spell_byte spell_text utf16_chars encode_utf8
spelled_find_back = refl

spelled_all : spelling (All (query_of (97 ∷ 9 ∷ []) (true, false))) ≡ codes "all " ++ 34 ∷ 97 ∷ 92 ∷ 116 ∷ 34 ∷ codes " nocase part"
unfolding spell_byte spell_text utf16_chars encode_utf8
spelled_all = refl

spelled_rules : spelling (Check rules.Blanks) ≡ codes "check blanks"
spelled_rules = refl

spelled_long : spelling (Check (rules.Long 80)) ≡ codes "check long 80"
unfolding digits
spelled_long = refl

spelled_pairs : spelling (Check rules.Pairs) ≡ codes "check pairs"
spelled_pairs = refl

spelled_repeat : spelling (Check rules.Repeat) ≡ codes "check repeat"
spelled_repeat = refl

spelled_sync : spelling Sync ≡ codes "sync"
spelled_sync = refl

spelled_save : spelling Save ≡ codes "save"
spelled_save = refl
